use Rattle.std.proofs.Common.{sym, arith}
use Rattle.re_parser.proofs.FlagLists.{seen_next, seen_wrong}
use Rattle.re_parser.proofs.flags.read_flags.Goals as goal

pub returns-in-None : goal.returns-in-None
returns-in-None c = seen_wrong _ _ c.in-Some.first c.in-Some.rest.now _ c.loop-first.invariant.0 (sym c.in-Some.ensures.read) (sym c.in-None.ensures)

pub loop-first-preserved : goal.loop-first-preserved
loop-first-preserved c = (seen_next _ _ c.in-Some.first c.in-Some.rest.now _ _ c.loop-first.invariant.0 (sym c.in-Some.ensures.read) (sym c.in-Some-with_flag.ensures), omega (arith, c.loop-first.invariant.1, c.in-Some.ensures.shorter))
