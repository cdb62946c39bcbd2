use Rattle.std.proofs.Common.{Bool, false, sym, ap, subst, ◌∙◌}
use Rattle.std.specs.Prelude.{◌||◌}
use Rattle.js_lexer.proofs.Gaps.{GoesOn, goes_more, goes_end, read_shorter}
use Rattle.js_lexer.proofs.trivia.after_trivia.Goals as goal

pub loop-ends_line-smaller-then-line_end : goal.loop-ends_line-smaller-then-line_end
loop-ends_line-smaller-then-line_end c = read_shorter _ _ (c.in-Some.ends_line, c.in-Some.rest.now) (sym c.in-Some.ensures)

pub loop-ends_line-preserved-then-line_end : goal.loop-ends_line-preserved-then-line_end
loop-ends_line-preserved-then-line_end c =
    let seen = c.if-line_end.true in
    let same = ap (λ (q : Bool). q || c.in-Some.ends_line) seen ∙ sym seen in
    subst (λ (q : Bool). GoesOn c.args.at_start c.args.units.now false q c.in-Some.rest.now) same (goes_more _ _ _ _ _ (c.in-Some.ends_line, c.in-Some.rest.now) c.loop-ends_line.invariant (sym c.in-Some.ensures))

pub loop-ends_line-smaller : goal.loop-ends_line-smaller
loop-ends_line-smaller c = read_shorter _ _ (c.in-Some.ends_line, c.in-Some.rest.now) (sym c.in-Some.ensures)

pub loop-ends_line-preserved : goal.loop-ends_line-preserved
loop-ends_line-preserved c =
    let same = ap (λ (q : Bool). q || c.in-Some.ends_line) c.if-line_end.false in
    subst (λ (q : Bool). GoesOn c.args.at_start c.args.units.now false q c.in-Some.rest.now) same (goes_more _ _ _ _ _ (c.in-Some.ends_line, c.in-Some.rest.now) c.loop-ends_line.invariant (sym c.in-Some.ensures))

pub returns : goal.returns
returns c = goes_end _ _ _ _ _ c.loop-ends_line.invariant (sym c.in_default.ensures)
