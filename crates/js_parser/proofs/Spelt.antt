-- What is read of a text is what its tokens spell.
use Rattle.std.proofs.Common.{◌≡◌, ℕ, ◌≤◌, ◌==◌, ◌||◌, nat_lt, Bool, true, false, cond, List, [], ◌∷◌, drop, Option, Some, None, refl, sym, ap, subst, ◌∙◌, arith, All, inl, inr}
use Rattle.std.specs.Prelude.{◌⊎◌, not, Ok}
use Rattle.std.proofs.lemmas.Bool.{ltb-true, ltb-false, ne_eqb}
use Rattle.std.proofs.lemmas.List.Elements.{All-nil, All-cons, All-head, All-tail}
use Rattle.js_ast.specs.declared.statement.Stmt.{Stmt}
use Rattle.js_grammar.specs.declared.token.Token.{Token}
use Rattle.js_grammar.specs.declared.token.TokenKind.{TokenKind}
use Rattle.js_lexer.specs.Numbers.{IsNumeral, max_safe}
use Rattle.js_lexer.specs.Lexemes.{Spells}
use Rattle.js_lexer.specs.Slash.{begins_slash}
use Rattle.js_lexer.specs.Tokens.{IsNext}
use Rattle.js_lexer.specs.declared.token.Goal.{Goal}
use Rattle.js_lexer.specs.declared.token.Goal.TheVariants as goals
use Rattle.js_lexer.specs.declared.token.Token.{Token as Lexed}
use Rattle.js_lexer.specs.declared.token.TokenKind.{TokenKind as LexedKind}
use Rattle.js_lexer.specs.declared.token.TokenKind.TheVariants as lexed
use Rattle.js_lexer.specs.declared.token.Lexeme.TheVariants as lexeme
use Rattle.js_reading.specs.declared.mode.Parser.{Parser}
use Rattle.js_reading.specs.Reading.{step, ends, nesting, IsRead}
use Rattle.js_parser.specs.Places.{byte_at}
use Rattle.js_parser.specs.Tokens.{IsKindBy, IsToken, goal_of, wide, entry, marks, units_of, kind_of_mark, kind_of_entry}
use Rattle.js_parser.specs.declared.tokens.Mark.{Mark}
use Rattle.js_parser.specs.declared.tokens.Mark.TheVariants as mark
use Rattle.js_parser.specs.Outcomes.{Outcome, IsOutcome, outcome_none, outcome_over, outcome_refused, outcome_more, is_wide, unless_refused, taken_by, taken, over_by}
use Rattle.js_parser.specs.Spelling.{IsTokens, tokens_none, tokens_more, is_safe, IsSafe}
use Rattle.js_parser.specs.declared.refusal.ScriptRefusal.TheVariants as refusal
use Rattle.js_parser.proofs.SlashMarks.{slash_kind}
use Rattle.js_parser.proofs.Goals.{step_division, step_pattern}

-- ---- what is taken to hold of the lexer

abbrev pub OneNumber : Type 0
OneNumber = (units rest behind : List ℕ) (a b : ℕ) → IsNumeral units a rest → IsNumeral units b behind → a ≤ max_safe → a ≡ b

abbrev pub OtherGoal : Type 0
OtherGoal = (text : List ℕ) (at : ℕ) (goal other : Goal) (t : Lexed) → IsNext text at goal t → begins_slash (drop t.start text) ≡ false → IsNext text at other t

abbrev pub SlashGoal : Type 0
SlashGoal = (text : List ℕ) (at : ℕ) (goal : Goal) (t : Lexed) → IsNext text at goal t → begins_slash (drop t.start text) ≡ true → ((t.kind ≡ lexed.Mark) × (goal ≡ goals.Division)) ⊎ ((t.kind ≡ lexed.Pattern) × (goal ≡ goals.Pattern))

-- ---- safe numbers

pub spells_of : (text : List ℕ) (at : ℕ) (goal : Goal) (t : Lexed) (kind : LexedKind) (h : IsNext text at goal t) → t.kind ≡ kind → Spells goal (at == 0 || t.line_before) (lexeme.Token kind) (drop t.start text) (drop t.end text)
spells_of text at goal t kind h e = subst (λ (q : LexedKind). Spells goal (at == 0 || t.line_before) (lexeme.Token q) (drop t.start text) (drop t.end text)) e h.longest.spelt

not_wide : (n : ℕ) → n ≤ max_safe → not (n == wide) ≡ true
not_wide n h = ap not (ne_eqb n wide (λ e. omega (arith, e, h)))

number_safe : OneNumber → (text : List ℕ) (at : ℕ) (goal : Goal) (t : Lexed) (kind : TokenKind) → IsNext text at goal t → t.kind ≡ lexed.Number → IsKindBy lexed.Number text t kind → is_safe kind ≡ true
number_safe one text at goal t kind h e n =
    let s = spells_of text at goal t lexed.Number h e in
    let same : s.0 ≡ n.0 = one (drop t.start text) (drop t.end text) (drop t.end text) s.0 n.0 s.1 n.1 s.2 in
    ap is_safe n.2 ∙ not_wide n.0 (subst (λ (v : ℕ). v ≤ max_safe) same s.2)

mark_safe : (m : Mark) → is_safe (kind_of_mark m) ≡ true
mark_safe (mark.Binary o) = refl
mark_safe (mark.Logical o) = refl
mark_safe (mark.Assign o) = refl
mark_safe (mark.Step o) = refl
mark_safe _ = refl

entry_safe : (m : Option Mark) (kind : TokenKind) → kind_of_entry m ≡ Some kind → is_safe kind ≡ true
entry_safe None kind h = absurd cc
entry_safe (Some m) kind h = let e : kind_of_mark m ≡ kind = cc in ap is_safe (sym e) ∙ mark_safe m

pub safe_by : OneNumber → (text : List ℕ) (at : ℕ) (goal : Goal) (t : Lexed) (kind : TokenKind) (l : LexedKind) → IsNext text at goal t → t.kind ≡ l → is_wide l ≡ false → IsKindBy l text t kind → is_safe kind ≡ true
safe_by one text at goal t kind lexed.Number h e w n = number_safe one text at goal t kind h e n
safe_by one text at goal t kind lexed.WideNumber h e w n = absurd cc
safe_by one text at goal t kind lexed.Text h e w n = ap is_safe n.2
safe_by one text at goal t kind lexed.Mark h e w n = entry_safe (entry marks (units_of text t)) kind n
safe_by one text at goal t kind lexed.Finish h e w n = absurd n
safe_by one text at goal t kind lexed.Name h e w n = ap is_safe n
safe_by one text at goal t kind lexed.Word h e w n = ap is_safe n
safe_by one text at goal t kind lexed.Pattern h e w n = ap is_safe n

-- a safe token isn't wide
wide_by : (text : List ℕ) (t : Lexed) (kind : TokenKind) (l : LexedKind) → IsKindBy l text t kind → is_safe kind ≡ true → is_wide l ≡ false
wide_by text t kind lexed.WideNumber n s = absurd (let d : false ≡ true = sym (ap is_safe n) ∙ s in cc)
wide_by text t kind _ n s = refl

-- ---- what is taken

pub record IsStep (p q : Parser) (token : Token) (wide' : Bool) : Type 0 where
  pub steps : step p token ≡ Some q
  pub narrow : wide' ≡ false
  pub shallow : nesting q ≤ 200

unless_is : (b c : Bool) (at : ℕ) (q r : Parser) → nat_lt 200 (nesting q) ≡ c → unless_refused (cond b (Some (refusal.WideNumber at)) (cond c (Some (refusal.TooDeep at)) None)) q ≡ Ok r → (q ≡ r) × (b ≡ false) × (nesting q ≤ 200)
unless_is true c at q r e h = absurd cc
unless_is false true at q r e h = absurd cc
unless_is false false at q r e h = (cc, refl, ltb-false 200 (nesting q) e)

taken_of : (w : Bool) (at : ℕ) (o : Option Parser) (r : Parser) → taken_by w at o ≡ Ok r → (o ≡ Some r) × (w ≡ false) × (nesting r ≤ 200)
taken_of w at None r h = absurd cc
taken_of w at (Some q) r h =
    let u = unless_is w (nat_lt 200 (nesting q)) at q r refl h in
    (ap (λ (x : Parser). Some x) u.0, u.1, subst (λ (x : Parser). nesting x ≤ 200) u.0 u.2)

pub is_step : (w : Bool) (p q : Parser) (token : Token) → taken w p token ≡ Ok q → IsStep p q token w
is_step w p q token h = let u = taken_of w token.start (step p token) q h in record { steps = u.0; narrow = u.1; shallow = u.2 }

narrow_taken : (c : Bool) (at : ℕ) (q : Parser) → nat_lt 200 (nesting q) ≡ c → nesting q ≤ 200 → unless_refused (cond c (Some (refusal.TooDeep at)) None) q ≡ Ok q
narrow_taken true at q e h = absurd (let l = ltb-true 200 (nesting q) e in omega arith)
narrow_taken false at q e h = refl

pub step_taken : (w : Bool) (p q : Parser) (token : Token) → step p token ≡ Some q → w ≡ false → nesting q ≤ 200 → taken w p token ≡ Ok q
step_taken w p q token s n h =
    ap (taken_by w token.start) s ∙ ap (λ (b : Bool). taken_by b token.start (Some q)) n ∙ narrow_taken (nat_lt 200 (nesting q)) token.start q refl h

over_some : (at : ℕ) (o : Option (List Stmt)) (body : List Stmt) → over_by at o ≡ Ok body → o ≡ Some body
over_some at None body e = absurd cc
over_some at (Some b) body e = cc

-- ---- from what is read to tokens

pub record IsSpelt (text : List ℕ) (at : ℕ) (p : Parser) (body : List Stmt) : Type 0 where
  pub tokens : List Token
  pub tokens_are : IsTokens text at tokens
  pub read : IsRead (λ n. n ≤ 200) tokens p body
  pub safe : All IsSafe tokens

pub outcome_spelt : OneNumber → (text : List ℕ) (at : ℕ) (p : Parser) (result : Outcome) → IsOutcome text at p result → (body : List Stmt) → result ≡ Ok body → IsSpelt text at p body
outcome_spelt one text _ _ _ (outcome_none at p r h) body e = absurd cc
outcome_spelt one text _ _ _ (outcome_over at p t h f) body e =
    record { tokens = []; tokens_are = tokens_none at (goal_of p.mode) t h f; read = over_some (byte_at text t.start) (ends p) body e; safe = All-nil IsSafe }
outcome_spelt one text _ _ _ (outcome_refused at p t token r h k) body e = absurd cc
outcome_spelt one text _ _ result (outcome_more at p q t token _ h k i) body e =
    let more = outcome_spelt one text t.end q result i body e in
    let s = is_step (is_wide t.kind) p q token k in
    record {
      tokens = token ∷ more.tokens;
      tokens_are = tokens_more at (goal_of p.mode) t token more.tokens h more.tokens_are;
      read = (q, s.steps, s.shallow, more.read);
      safe = All-cons IsSafe token more.tokens (safe_by one text at (goal_of p.mode) t token.kind t.kind h.next refl s.narrow h.kind) more.safe;
    }

-- ---- and back

kept_by : OtherGoal → SlashGoal → (text : List ℕ) (at : ℕ) (goal : Goal) (t : Lexed) (token : Token) (p q : Parser) (b : Bool) → begins_slash (drop t.start text) ≡ b → IsToken text at goal t token → step p token ≡ Some q → IsNext text at (goal_of p.mode) t
kept_by other slash text at goal t token p q false e h s = other text at goal (goal_of p.mode) t h.next e
kept_by other slash text at goal t token p q true e h s =
    elim (slash text at goal t h.next e) [
      | inl m ↦
          let division = slash_kind text t token.kind (subst (λ (l : LexedKind). IsKindBy l text t token.kind) m.0 h.kind) e in
          subst (λ (g : Goal). IsNext text at g t) (m.1 ∙ sym (step_division p q token s division)) h.next
      | inr m ↦ absurd (step_pattern p q token s (subst (λ (l : LexedKind). IsKindBy l text t token.kind) m.0 h.kind))
    ]

pub goal_kept : OtherGoal → SlashGoal → (text : List ℕ) (at : ℕ) (goal : Goal) (t : Lexed) (token : Token) (p q : Parser) → IsToken text at goal t token → step p token ≡ Some q → IsToken text at (goal_of p.mode) t token
goal_kept other slash text at goal t token p q h s =
    record { next = kept_by other slash text at goal t token p q (begins_slash (drop t.start text)) refl h s; kind = h.kind; start = h.start; line_before = h.line_before }

pub finish_kept : OtherGoal → (text : List ℕ) (at : ℕ) (goal goal' : Goal) (t : Lexed) → IsNext text at goal t → t.kind ≡ lexed.Finish → IsNext text at goal' t
finish_kept other text at goal goal' t h f = other text at goal goal' t h (ap begins_slash (spells_of text at goal t lexed.Finish h f).0)

pub spelt_outcome : OtherGoal → SlashGoal → (text : List ℕ) (at : ℕ) (ts : List Token) → IsTokens text at ts → (p : Parser) (body : List Stmt) → IsRead (λ n. n ≤ 200) ts p body → All IsSafe ts → IsOutcome text at p (Ok body)
spelt_outcome other slash text _ _ (tokens_none at goal t h f) p body r s =
    subst (λ (o : Option (List Stmt)). IsOutcome text at p (over_by (byte_at text t.start) o)) r (outcome_over at p t (finish_kept other text at goal (goal_of p.mode) t h f) f)
spelt_outcome other slash text _ _ (tokens_more at goal t token ts h more) p body r s =
    let w = wide_by text t token.kind t.kind h.kind (All-head IsSafe token ts s) in
    outcome_more at p r.0 t token (Ok body) (goal_kept other slash text at goal t token p r.0 h r.1) (step_taken (is_wide t.kind) p r.0 token r.1 w r.2) (spelt_outcome other slash text t.end ts more r.0 body r.3 (All-tail IsSafe token ts s))
