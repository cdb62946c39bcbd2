use Rattle.std.proofs.Common.{sym, arith}
use Rattle.re_parser.proofs.Backs.{searched_start, searched_more, searched_found, searched_all, first_is, first_none}
use Rattle.re_parser.proofs.parser.first_unbound.Goals as goal

pub loop-first-init : goal.loop-first-init
loop-first-init c = searched_start c.args.groups c.args.backs.now

pub loop-first-preserved : goal.loop-first-preserved
loop-first-preserved c = searched_more c.args.groups c.args.backs.now c.in-Some.first c.in-Some.rest.now c.loop-first.left.now c.loop-first.invariant (first_is _ _ _ (sym c.in-Some.ensures.read)) (omega (arith, c.if-first-from.false, c.from.ensures))

pub returns-then-first-from : goal.returns-then-first-from
returns-then-first-from c = searched_found c.args.groups c.args.backs.now c.in-Some.first c.in-Some.rest.now c.loop-first.left.now c.loop-first.invariant (first_is _ _ _ (sym c.in-Some.ensures.read)) (omega (arith, c.if-first-from.true, c.from.ensures))

pub returns : goal.returns
returns c = searched_all c.args.groups c.args.backs.now c.loop-first.left.now c.loop-first.invariant (first_none _ (sym c.in_default.ensures.read))
