use Rattle.std.proofs.Common.{◌∙◌, List, ℕ, drop, sym, ap, subst}
use Rattle.js_lexer.specs.Patterns.{IsPattern}
use Rattle.js_lexer.proofs.TokenValues.{token_pattern, stands_pattern}
use Rattle.js_lexer.proofs.values.text_of.Goals as goal

pub returns-in-Pattern-clause-value : goal.returns-in-Pattern-clause-value
returns-in-Pattern-clause-value c =
    let text = c.args.text.now in
    let token = c.args.token.now in
    let p = token_pattern c.args.text.now c.args.token.now c.in-Pattern.is c.requires.is_token in
    let from = c.units_from-from.ensures ∙ ap (drop c.args.token.now.start) c.as_slice-units.ensures in
    let here = subst (λ (q : List ℕ). IsPattern q p.0 p.1 (drop c.args.token.now.end c.args.text.now)) (sym from) p.2 in
    stands_pattern c.args.text.now c.args.token.now _ _ p.0 c.in-Pattern.is (p.1, p.2) (c.pattern_parts.ensures.body p.0 p.1 _ here) c.copy.ensures
