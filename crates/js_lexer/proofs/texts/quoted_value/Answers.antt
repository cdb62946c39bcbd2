use Rattle.std.proofs.Common.{sym, subst, List, ℕ}
use Rattle.js_lexer.specs.Escapes.{units_of}
use Rattle.js_lexer.proofs.Closing.{Gathers, inside_shorter, gathers_more, gathers_end}
use Rattle.js_lexer.proofs.texts.quoted_value.Goals as goal

pub loop-meaning-smaller : goal.loop-meaning-smaller
loop-meaning-smaller c = inside_shorter _ _ (units_of c.in-Some.meaning, c.in-Some.behind.now) (sym c.in-Some.ensures)

pub loop-meaning-preserved : goal.loop-meaning-preserved
loop-meaning-preserved c =
    subst (λ (q : List ℕ). Gathers c.args.quote c.args.units.now q c.in-Some.behind.now) (sym c.in_ok-push_meaning.ensures)
    (gathers_more _ _ _ _ (units_of c.in-Some.meaning, c.in-Some.behind.now) c.loop-meaning.invariant (sym c.in-Some.ensures))

pub returns : goal.returns
returns c = λ value rest q. gathers_end _ _ _ _ c.loop-meaning.invariant (sym c.in_default.ensures) value rest q
