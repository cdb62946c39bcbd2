use Rattle.std.specs.Bool.{one_answer}
use Rattle.explorer.specs.SamePaths.{path_decides}
use Rattle.explorer.proofs.keys.KeyPartialEq.eq.Goals as goal

pub returns : goal.returns
returns c = one_answer _ _ c.is_same_path.ensures (path_decides c.args.self.now.path c.args.other.now.path)
