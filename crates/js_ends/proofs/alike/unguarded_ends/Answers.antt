use Rattle.std.proofs.Common.{None}
use Rattle.js_meaning.specs.Path.{run_of}
use Rattle.js_ends.proofs.Laws.{ends_apart}
use Rattle.js_ends.proofs.Likeness.{unguarded_follows, unguarded_passed, outcome_leads}
use Rattle.js_ends.proofs.alike.unguarded_ends.Goals as goal

pub returns : goal.returns
returns c =
    record {
      follows = λ view moves end w u h k. unguarded_follows view moves end w u h k;
      never_passed = λ bytes script bounds values answers view moves end u s l h k. unguarded_passed view moves end _ u (outcome_leads None moves None end (run_of script bounds values answers) h) k (ends_apart bytes script bounds values answers s l);
    }
