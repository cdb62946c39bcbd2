-- What the tokens of a text stand for.
use Rattle.std.proofs.Common.{◌≡◌, ℕ, ◌-◌, ◌≤◌, ◌<◌, false, List, ◌∷◌, ◌++◌, length, take, drop, Some, sym, ap, subst, ◌∙◌, arith, length-append}
use Rattle.std.specs.Prelude.{◌||◌, ◌==◌, Result, Ok, Err, IfOk}
use Rattle.js_lexer.specs.Values.{Stands, IsFlags}
use Rattle.std.proofs.lemmas.List.{take_at}
use Rattle.js_lexer.specs.Classes.{is_flag}
use Rattle.js_lexer.specs.Runs.{IsRun, skip_while}
use Rattle.js_lexer.specs.Lexemes.{Spells}
use Rattle.js_lexer.specs.Numbers.{IsNumeral, max_safe}
use Rattle.js_lexer.specs.Digits.{capped, number_at}
use Rattle.js_lexer.specs.Texts.{IsText}
use Rattle.js_lexer.specs.Patterns.{IsPattern, IsBody}
use Rattle.js_lexer.specs.Escapes.{HasText}
use Rattle.js_lexer.specs.Bodies.{HasPattern}
use Rattle.js_lexer.specs.Tokens.{IsTokenOf}
use Rattle.js_lexer.specs.declared.token.Token.{Token}
use Rattle.js_lexer.specs.declared.token.TokenKind.{TokenKind}
use Rattle.js_lexer.specs.declared.token.TokenKind.TheVariants as k
use Rattle.js_lexer.specs.declared.token.Lexeme.TheVariants as lexeme
use Rattle.js_lexer.proofs.NumberBests.{number_only}
use Rattle.js_lexer.proofs.Spans.{run_only}
use Rattle.js_lexer.proofs.Gaps.{past_shorter}
use Rattle.js_lexer.proofs.Closing.{quoted_same}
use Rattle.js_lexer.proofs.Bests.{text_quoted}
use Rattle.js_lexer.proofs.Slashes.{body_same, body_past}

-- what a token spells, of a known kind
token_spells : (text : List ℕ) (t : Token) (kind : TokenKind) (h : IsTokenOf text t) → t.kind ≡ kind → Spells h.1 (h.0 == 0 || t.line_before) (lexeme.Token kind) (drop t.start text) (drop t.end text)
token_spells text t kind h e = subst (λ (q : TokenKind). Spells h.1 (h.0 == 0 || t.line_before) (lexeme.Token q) (drop t.start text) (drop t.end text)) e h.2.longest.spelt

pub token_within : (text : List ℕ) (t : Token) → IsTokenOf text t → (t.start ≤ t.end) × (t.end ≤ length text)
token_within text t h = (h.2.order, h.2.within)

-- the number that is read at the token is its own
pub token_number : (text : List ℕ) (t : Token) → t.kind ≡ k.Number → IsTokenOf text t → (value : ℕ) × (number_at (drop t.start text) ≡ Some (value, drop t.end text)) × IsNumeral (drop t.start text) value (drop t.end text) × (value ≤ max_safe)
token_number text t e h =
    let s = token_spells text t k.Number h e in
    let same : capped s.0 ≡ s.0 = let low = s.2 in omega arith in
    (s.0, number_only (drop t.start text) s.0 (drop t.end text) s.1 ∙ ap (λ q. Some (q, drop t.end text)) same, s.1, s.2)

pub token_text : (text : List ℕ) (t : Token) → t.kind ≡ k.Text → IsTokenOf text t → (value : List ℕ) × IsText (drop t.start text) value (drop t.end text)
token_text text t e h = token_spells text t k.Text h e

pub token_pattern : (text : List ℕ) (t : Token) → t.kind ≡ k.Pattern → IsTokenOf text t → (body : List ℕ) × (flags : List ℕ) × IsPattern (drop t.start text) body flags (drop t.end text)
token_pattern text t e h = (token_spells text t k.Pattern h e).1

pub has_text : (text : List ℕ) (t : Token) → t.kind ≡ k.Text → IsTokenOf text t → HasText (drop t.start text)
has_text text t e h = let s = token_text text t e h in (s.0, drop t.end text, s.1)

pub has_pattern : (text : List ℕ) (t : Token) → t.kind ≡ k.Pattern → IsTokenOf text t → HasPattern (drop t.start text)
has_pattern text t e h = let s = token_pattern text t e h in (s.0, s.1, drop t.end text, s.2)

pub pattern_some : (units : List ℕ) → HasPattern units → 0 < length units
pattern_some units h = omega (arith, ap length h.3.units_are)

-- ---- the parts of a pattern

inside_of : (units body flags rest : List ℕ) (p : IsPattern units body flags rest) → drop 1 units ≡ body ++ 47 ∷ p.behind
inside_of units body flags rest p = ap (drop 1) p.units_are

behind_same : (units body flags rest behind : List ℕ) (p : IsPattern units body flags rest) → IsBody false (drop 1 units) behind → behind ≡ p.behind
behind_same units body flags rest behind p b = body_same false (body ++ 47 ∷ p.behind) p.behind behind p.closes (subst (λ (q : List ℕ). IsBody false q behind) (inside_of units body flags rest p) b)

pub body_shorter : (inside behind : List ℕ) → IsBody false inside behind → length behind < length inside
body_shorter inside behind b = past_shorter inside behind (body_past false inside behind b)

take_to : (inside body more : List ℕ) (n : ℕ) → inside ≡ body ++ more → n ≡ length inside - length more → take n inside ≡ body
take_to inside body more n e h = ap (take n) e ∙ take_at body more n (omega (arith, ap length e, length-append body more))

pub body_part : (units body flags rest behind : List ℕ) → IsPattern units body flags rest → IsBody false (drop 1 units) behind → take (length (drop 1 units) - length behind - 1) (drop 1 units) ≡ body
body_part units body flags rest behind p b =
    let same = behind_same units body flags rest behind p b in
    take_to (drop 1 units) body (47 ∷ p.behind) (length (drop 1 units) - length behind - 1) (inside_of units body flags rest p) (omega (arith, ap length same))

pub flags_part : (units body flags rest behind : List ℕ) → IsPattern units body flags rest → IsBody false (drop 1 units) behind → take (length behind - length (skip_while is_flag behind)) behind ≡ flags
flags_part units body flags rest behind p b =
    let same = behind_same units body flags rest behind p b in
    let run : IsRun is_flag behind flags rest = subst (λ (q : List ℕ). IsRun is_flag q flags rest) (sym same) p.flags_are in
    take_to behind flags rest (length behind - length (skip_while is_flag behind)) run.units_are (ap (λ q. length behind - length q) (run_only is_flag behind flags rest run))

-- a copy of the body is what the token stands for
pub stands_pattern : {E : Type 0} (text : List ℕ) (t : Token) (r : Result (List ℕ) E) (copied body : List ℕ) → t.kind ≡ k.Pattern → ((flags : List ℕ) × IsPattern (drop t.start text) body flags (drop t.end text)) → copied ≡ body → IfOk r (λ q. q ≡ copied) → IfOk r (λ value. Stands t.kind text t value)
stands_pattern text t (Ok value) copied body e h same q =
    subst (λ (w : TokenKind). Stands w text t value) (sym e) (h.0, subst (λ (w : List ℕ). IsPattern (drop t.start text) w h.0 (drop t.end text)) (sym (q ∙ same)) h.1)
stands_pattern text t (Err error) copied body e h same q = tt

-- ---- one value at most

pub text_same : (units one other rest behind : List ℕ) → IsText units one rest → IsText units other behind → one ≡ other
text_same units one other rest behind h f =
    let q = text_quoted h.quote h.inside other behind (subst (λ (w : List ℕ). IsText w other behind) h.units_are f) in
    sym (quoted_same h.quote h.inside one rest other behind h.quoted q).value_is

body_is : (units body flags rest : List ℕ) (p : IsPattern units body flags rest) → IsBody false (drop 1 units) p.behind
body_is units body flags rest p = subst (λ (w : List ℕ). IsBody false w p.behind) (sym (inside_of units body flags rest p)) p.closes

parts_same : (units body flags rest other more behind : List ℕ) → IsPattern units body flags rest → IsPattern units other more behind → (body ≡ other) × (flags ≡ more)
parts_same units body flags rest other more behind p q =
    let b = body_is units other more behind q in (
      sym (body_part units body flags rest q.behind p b) ∙ body_part units other more behind q.behind q b,
      sym (flags_part units body flags rest q.behind p b) ∙ flags_part units other more behind q.behind q b,
    )

stands_by : (kind : TokenKind) (text : List ℕ) (t : Token) (one other : List ℕ) → Stands kind text t one → Stands kind text t other → one ≡ other
stands_by k.Text text t one other h f = text_same (drop t.start text) one other (drop t.end text) (drop t.end text) h f
stands_by k.Pattern text t one other h f = (parts_same (drop t.start text) one h.0 (drop t.end text) other f.0 (drop t.end text) h.1 f.1).0
stands_by kind text t one other h f = h ∙ sym f

-- a token stands for one value
pub stands_same : (text : List ℕ) (t : Token) (one other : List ℕ) → Stands t.kind text t one → Stands t.kind text t other → one ≡ other
stands_same text t one other h f = stands_by t.kind text t one other h f

-- a pattern has one list of flags
pub flags_same : (text : List ℕ) (t : Token) (one other : List ℕ) → IsFlags text t one → IsFlags text t other → one ≡ other
flags_same text t one other h f = (parts_same (drop t.start text) h.0 one (drop t.end text) f.0 other (drop t.end text) h.1 f.1).1

first_part : (x y : ℕ × List ℕ) → Some x ≡ Some y → x.0 ≡ y.0
first_part x y e = cc

-- a number that isn't wide has one value
pub number_same : (units : List ℕ) (value : ℕ) (rest : List ℕ) (other : ℕ) (behind : List ℕ) → value ≤ max_safe → number_at units ≡ Some (value, rest) → IsNumeral units other behind → other ≡ value
number_same units value rest other behind low e h =
    let same : capped other ≡ value = first_part (capped other, behind) (value, rest) (sym (number_only units other behind h) ∙ e) in
    omega arith
