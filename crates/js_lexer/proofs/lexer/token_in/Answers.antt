use Rattle.std.proofs.Common.{Bool, None, subst}
use Rattle.js_lexer.specs.Reading.{IsBest, LongestToken}
use Rattle.js_lexer.specs.declared.token.Lexeme.TheVariants as lexeme
use Rattle.js_lexer.proofs.Ends.{behind_le, left_behind, rest_behind, best_at, next_of, none_of, advances_of, finish_of}
use Rattle.js_lexer.proofs.Onlys.{token_only, refusal_only}
use Rattle.js_lexer.proofs.lexer.token_in.Goals as goal

pub overflow_sub-start : goal.overflow_sub-start
overflow_sub-start c = behind_le _ _ (left_behind _ _ _ _ c.after_gap-line_before.ensures)

pub overflow_sub-result : goal.overflow_sub-result
overflow_sub-result c =
    let best = subst (λ (q : Bool). IsBest c.args.goal q (lexeme.Token c.in-Some.kind) c.after_gap-line_before.result.1.now c.in-Some.rest.now) c.starts_line.ensures c.in-Some.ensures in
    behind_le _ _ (rest_behind _ _ _ _ _ _ _ c.after_gap-line_before.ensures best)

pub returns-in-Some-clause-next : goal.returns-in-Some-clause-next
returns-in-Some-clause-next c =
    let best = subst (λ (q : Bool). IsBest c.args.goal q (lexeme.Token c.in-Some.kind) c.after_gap-line_before.result.1.now c.in-Some.rest.now) c.starts_line.ensures c.in-Some.ensures in
    next_of _ _ _ _ _ _ _ c.requires c.after_gap-line_before.ensures best

pub returns-in-Some-clause-only : goal.returns-in-Some-clause-only
returns-in-Some-clause-only c =
    let best = subst (λ (q : Bool). IsBest c.args.goal q (lexeme.Token c.in-Some.kind) c.after_gap-line_before.result.1.now c.in-Some.rest.now) c.starts_line.ensures c.in-Some.ensures in
    token_only _ _ _ _ (next_of _ _ _ _ _ _ _ c.requires c.after_gap-line_before.ensures best) (best_at _ _ _ _ _ _ _ c.after_gap-line_before.ensures best)

pub returns-in-None-clause-next : goal.returns-in-None-clause-next
returns-in-None-clause-next c =
    none_of _ _ _ _ _ c.requires c.after_gap-line_before.ensures (subst (λ (q : Bool). LongestToken c.args.goal q c.after_gap-line_before.result.1.now None) c.starts_line.ensures c.in-None.ensures)

pub returns-in-None-clause-only : goal.returns-in-None-clause-only
returns-in-None-clause-only c =
    refusal_only _ _ _ _ (none_of _ _ _ _ _ c.requires c.after_gap-line_before.ensures (subst (λ (q : Bool). LongestToken c.args.goal q c.after_gap-line_before.result.1.now None) c.starts_line.ensures c.in-None.ensures))

pub returns-in-Some-clause-advances : goal.returns-in-Some-clause-advances
returns-in-Some-clause-advances c =
    let best =
    subst (λ (q : Bool). IsBest c.args.goal q (lexeme.Token c.in-Some.kind) c.after_gap-line_before.result.1.now c.in-Some.rest.now) c.starts_line.ensures c.in-Some.ensures in
    advances_of _ _ _ _ (next_of _ _ _ _ _ _ _ c.requires c.after_gap-line_before.ensures best)

pub returns-in-Some-clause-finish : goal.returns-in-Some-clause-finish
returns-in-Some-clause-finish c =
    let best =
    subst (λ (q : Bool). IsBest c.args.goal q (lexeme.Token c.in-Some.kind) c.after_gap-line_before.result.1.now c.in-Some.rest.now) c.starts_line.ensures c.in-Some.ensures in
    finish_of _ _ _ _ (next_of _ _ _ _ _ _ _ c.requires c.after_gap-line_before.ensures best)
