use Rattle.std.proofs.Common.{◌≡◌, ◌≤◌, ◌∙◌, List, ℕ, Some, drop, sym, ap, subst}
use Rattle.js_lexer.specs.Numbers.{IsNumeral, max_safe}
use Rattle.js_lexer.specs.Digits.{number_at}
use Rattle.js_lexer.proofs.TokenValues.{token_number, number_same}
use Rattle.js_lexer.proofs.values.number_of.Goals as goal

first_part : (x y : ℕ × List ℕ) → Some x ≡ Some y → x.0 ≡ y.0
first_part x y e = cc

pub unreachable-requires : goal.unreachable-requires
unreachable-requires c =
    let n = token_number c.args.text.now c.args.token.now c.requires.kind c.requires.is_token in
    let from = c.units_from.ensures ∙ ap (drop c.args.token.now.start) c.as_slice.ensures in
    let none = c.in-None.ensures ∙ ap number_at from ∙ n.1 in
    cc

pub returns-clause-value : goal.returns-clause-value
returns-clause-value c =
    let n = token_number c.args.text.now c.args.token.now c.requires.kind c.requires.is_token in
    let from = c.units_from.ensures ∙ ap (drop c.args.token.now.start) c.as_slice.ensures in
    let same = first_part (c.in-Some.value, c.in-Some.field-0-1.now) (n.0, drop c.args.token.now.end c.args.text.now) (c.in-Some.ensures ∙ ap number_at from ∙ n.1) in
    subst (λ (q : ℕ). IsNumeral (drop c.args.token.now.start c.args.text.now) q (drop c.args.token.now.end c.args.text.now)) (sym same) n.2

pub returns-clause-safe : goal.returns-clause-safe
returns-clause-safe c =
    let n = token_number c.args.text.now c.args.token.now c.requires.kind c.requires.is_token in
    let from = c.units_from.ensures ∙ ap (drop c.args.token.now.start) c.as_slice.ensures in
    let same = first_part (c.in-Some.value, c.in-Some.field-0-1.now) (n.0, drop c.args.token.now.end c.args.text.now) (c.in-Some.ensures ∙ ap number_at from ∙ n.1) in
    subst (λ (q : ℕ). q ≤ max_safe) (sym same) n.3

pub returns-clause-only : goal.returns-clause-only
returns-clause-only c = λ value rest h.
    let n = token_number c.args.text.now c.args.token.now c.requires.kind c.requires.is_token in
    let from = c.units_from.ensures ∙ ap (drop c.args.token.now.start) c.as_slice.ensures in
    let same = first_part (c.in-Some.value, c.in-Some.field-0-1.now) (n.0, drop c.args.token.now.end c.args.text.now) (c.in-Some.ensures ∙ ap number_at from ∙ n.1) in
    number_same (drop c.args.token.now.start c.args.text.now) n.0 (drop c.args.token.now.end c.args.text.now) value rest n.3 n.1 h ∙ sym same
