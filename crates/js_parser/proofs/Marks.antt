-- Each mark of the lexer has its entry.
use Rattle.std.proofs.Common.{◌≡◌, ℕ, ◌-◌, ◌||◌, Bool, true, false, List, [], ◌∷◌, ◌++◌, length, map, take, drop, Some, refl, ap, subst, ◌∙◌, arith}
use Rattle.std.specs.Prelude.{◌==◌, ◌≤◌, bytes_eq, cond}
use Rattle.std.proofs.lemmas.List.{length-append, length-drop, take_at}
use Rattle.js_lexer.specs.Tables.{is_among}
use Rattle.js_lexer.specs.Tables.{marks as lexed_marks}
use Rattle.js_lexer.specs.Tokens.{IsTokenOf}
use Rattle.js_lexer.specs.Lexemes.{Spells}
use Rattle.js_lexer.specs.declared.token.Token.{Token as Lexed}
use Rattle.js_lexer.specs.declared.token.TokenKind.{TokenKind as LexedKind}
use Rattle.js_lexer.specs.declared.token.TokenKind.TheVariants as lexed
use Rattle.js_lexer.specs.declared.token.Lexeme.TheVariants as lexeme
use Rattle.js_parser.specs.Tokens.{entry, marks, units_of}
use Rattle.js_parser.specs.declared.tokens.Mark.{Mark}

found_by : {A : Type 0} (b : Bool) (a : A) (es : List (List ℕ × A)) (units : List ℕ) → (is_among (map (λ e. e.0) es) units ≡ true → (x : A) × (entry es units ≡ Some x)) → (b || is_among (map (λ e. e.0) es) units) ≡ true → (x : A) × (cond b (Some a) (entry es units) ≡ Some x)
found_by true a es units f h = (a, refl)
found_by false a es units f h = f h

found : {A : Type 0} (es : List (List ℕ × A)) (units : List ℕ) → is_among (map (λ e. e.0) es) units ≡ true → (x : A) × (entry es units ≡ Some x)
found [] units h = absurd cc
found (e ∷ es) units h = found_by (bytes_eq e.0 units) e.1 es units (found es units) h

same_marks : map (λ (e : List ℕ × Mark). e.0) marks ≡ lexed_marks
unfolding marks lexed_marks
same_marks = refl

units_front : (text mark : List ℕ) (t : Lexed) → t.start ≤ t.end → t.end ≤ length text → drop t.start text ≡ mark ++ drop t.end text → units_of text t ≡ mark
units_front text mark t order within h =
    let size : length mark ≡ t.end - t.start = omega (arith, order, within, ap length h, length-append mark (drop t.end text), length-drop t.start text, length-drop t.end text) in
    ap (take (t.end - t.start)) h ∙ take_at mark (drop t.end text) (t.end - t.start) size

token_spells : (text : List ℕ) (t : Lexed) (kind : LexedKind) (h : IsTokenOf text t) → t.kind ≡ kind → Spells h.1 (h.0 == 0 || t.line_before) (lexeme.Token kind) (drop t.start text) (drop t.end text)
token_spells text t kind h e = subst (λ (q : LexedKind). Spells h.1 (h.0 == 0 || t.line_before) (lexeme.Token q) (drop t.start text) (drop t.end text)) e h.2.longest.spelt

mark_of_token : (text : List ℕ) (t : Lexed) → t.kind ≡ lexed.Mark → IsTokenOf text t → is_among lexed_marks (units_of text t) ≡ true
mark_of_token text t k h =
    let m = token_spells text t lexed.Mark h k in
    ap (is_among lexed_marks) (units_front text m.mark t h.2.order h.2.within m.units_are) ∙ m.is_mark

pub mark_entry : (text : List ℕ) (t : Lexed) → t.kind ≡ lexed.Mark → IsTokenOf text t → (x : Mark) × (entry marks (units_of text t) ≡ Some x)
mark_entry text t k h = found marks (units_of text t) (ap (λ (m : List (List ℕ)). is_among m (units_of text t)) same_marks ∙ mark_of_token text t k h)
