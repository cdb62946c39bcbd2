use Rattle.std.proofs.Common.{◌-◌, ◌∙◌, List, ℕ, false, length, take, ap, subst, arith}
use Rattle.js_lexer.specs.Classes.{is_flag}
use Rattle.js_lexer.specs.Patterns.{IsBody}
use Rattle.js_lexer.proofs.Spans.{skip_le}
use Rattle.js_lexer.proofs.TokenValues.{body_shorter, body_part, flags_part}
use Rattle.js_lexer.proofs.patterns.pattern_parts.Goals as goal

pub overflow_sub-inside : goal.overflow_sub-inside
overflow_sub-inside c = omega (arith, body_shorter _ _ c.in-Some.ensures)

pub overflow_sub-inside-in-Some : goal.overflow_sub-inside-in-Some
overflow_sub-inside-in-Some c = omega (arith, body_shorter _ _ c.in-Some.ensures)

pub overflow_sub-behind : goal.overflow_sub-behind
overflow_sub-behind c = omega (arith, ap length c.after_flags.ensures, skip_le is_flag c.in-Some.behind.now)

pub returns-clause-body : goal.returns-clause-body
returns-clause-body c = λ body flags rest p.
    let b = subst (λ (q : List ℕ). IsBody false q c.in-Some.behind.now) c.units_from-inside.ensures c.in-Some.ensures in
    c.units_to-body.ensures
    ∙ ap (λ (q : List ℕ). take (length q - length c.in-Some.behind.now - 1) q) c.units_from-inside.ensures
    ∙ body_part c.args.units.now body flags rest c.in-Some.behind.now p b

pub returns-clause-flags : goal.returns-clause-flags
returns-clause-flags c = λ body flags rest p.
    let b = subst (λ (q : List ℕ). IsBody false q c.in-Some.behind.now) c.units_from-inside.ensures c.in-Some.ensures in
    c.units_to-flags.ensures
    ∙ ap (λ (q : List ℕ). take (length c.in-Some.behind.now - length q) c.in-Some.behind.now) c.after_flags.ensures
    ∙ flags_part c.args.units.now body flags rest c.in-Some.behind.now p b
