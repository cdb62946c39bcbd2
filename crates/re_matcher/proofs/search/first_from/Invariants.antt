use Rattle.re_matcher.specs.Answers.{IsNone}
use Rattle.re_matcher.proofs.search.first_from.Given as goal

abbrev pub invariant-starts : goal.invariant-starts
invariant-starts l = IsNone l.pattern l.text l.fn.from l.start
