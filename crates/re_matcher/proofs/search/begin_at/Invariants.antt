use Rattle.std.proofs.Common.{◌≡◌, replicate, None}
use Rattle.re_matcher.proofs.search.begin_at.Given as goal

abbrev pub invariant-loop : goal.invariant-loop
invariant-loop l = l.none.items ≡ replicate l.counter None
