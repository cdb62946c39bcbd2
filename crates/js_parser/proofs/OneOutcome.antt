-- Reading answers one thing.
use Rattle.std.proofs.Common.{◌≡◌, ℕ, List, drop, Option, Some, refl, sym, ap, subst, ◌∙◌}
use Rattle.std.specs.Prelude.{Result, Ok, Err}
use Rattle.js_grammar.specs.declared.token.Token.{Token}
use Rattle.js_grammar.specs.declared.token.TokenKind.{TokenKind}
use Rattle.js_grammar.specs.declared.token.TokenKind.TheVariants as k
use Rattle.js_lexer.specs.Texts.{IsText}
use Rattle.js_lexer.specs.Tokens.{IsNext, IsNone, Next}
use Rattle.js_lexer.specs.declared.token.Goal.{Goal}
use Rattle.js_lexer.specs.declared.token.Token.{Token as Lexed}
use Rattle.js_lexer.specs.declared.token.LexRefusal.{LexRefusal}
use Rattle.js_lexer.specs.declared.token.TokenKind.{TokenKind as LexedKind}
use Rattle.js_lexer.specs.declared.token.TokenKind.TheVariants as lexed
use Rattle.js_reading.specs.declared.mode.Parser.{Parser}
use Rattle.js_parser.specs.Places.{byte_at}
use Rattle.js_parser.specs.Tokens.{IsKind, IsKindBy, IsToken, goal_of, entry, marks, units_of, kind_of_entry}
use Rattle.js_parser.specs.Outcomes.{Outcome, IsOutcome, outcome_none, outcome_over, outcome_refused, outcome_more, is_wide, taken, over}
use Rattle.js_parser.specs.declared.refusal.ScriptRefusal.{ScriptRefusal}
use Rattle.js_parser.specs.declared.refusal.ScriptRefusal.TheVariants as refusal
use Rattle.js_parser.proofs.Spelt.{OneNumber, spells_of}

-- ---- what is taken to hold of the lexer

pub record Lexing : Type 0 where
  pub token : (text : List ℕ) (at : ℕ) (goal : Goal) (a b : Lexed) → IsNext text at goal a → IsNext text at goal b → a ≡ b
  pub none : (text : List ℕ) (at : ℕ) (goal : Goal) (r : LexRefusal) (other : Result Lexed LexRefusal) → IsNone text at goal r → Next text at goal other → other ≡ Err r
  pub number : OneNumber
  pub text : (units rest behind a b : List ℕ) → IsText units a rest → IsText units b behind → a ≡ b

-- ---- one token

some_same : {A : Type 0} (o : Option A) (a b : A) → o ≡ Some a → o ≡ Some b → a ≡ b
some_same o a b e f = cc

kind_by : Lexing → (text : List ℕ) (at : ℕ) (goal : Goal) (t : Lexed) (l : LexedKind) (a b : TokenKind) → IsNext text at goal t → t.kind ≡ l → IsKindBy l text t a → IsKindBy l text t b → a ≡ b
kind_by lexing text at goal t lexed.Number a b h e m n =
    let s = spells_of text at goal t lexed.Number h e in
    let rest = drop t.end text in
    let one = lexing.number (drop t.start text) rest rest s.0 m.0 s.1 m.1 s.2 in
    let two = lexing.number (drop t.start text) rest rest s.0 n.0 s.1 n.1 s.2 in
    m.2 ∙ ap (λ (v : ℕ). k.Number v) (sym one ∙ two) ∙ sym n.2
kind_by lexing text at goal t lexed.Text a b h e m n =
    m.2 ∙ ap (λ (v : List ℕ). k.Text v) (lexing.text (drop t.start text) (drop t.end text) (drop t.end text) m.0 n.0 m.1 n.1) ∙ sym n.2
kind_by lexing text at goal t lexed.Mark a b h e m n = some_same (kind_of_entry (entry marks (units_of text t))) a b m n
kind_by lexing text at goal t lexed.Finish a b h e m n = absurd m
kind_by lexing text at goal t lexed.Name a b h e m n = m ∙ sym n
kind_by lexing text at goal t lexed.Word a b h e m n = m ∙ sym n
kind_by lexing text at goal t lexed.WideNumber a b h e m n = m ∙ sym n
kind_by lexing text at goal t lexed.Pattern a b h e m n = m ∙ sym n

same_parts : (a b : Token) → a.kind ≡ b.kind → a.start ≡ b.start → a.line_before ≡ b.line_before → a ≡ b
same_parts a b e s l = λ i. record { kind = e i; start = s i; line_before = l i }

pub same_lexed : Lexing → (text : List ℕ) (at : ℕ) (goal : Goal) (t u : Lexed) (a b : Token) → IsToken text at goal t a → IsToken text at goal u b → u ≡ t
same_lexed lexing text at goal t u a b h m = lexing.token text at goal u t m.next h.next

pub same_token : Lexing → (text : List ℕ) (at : ℕ) (goal : Goal) (t u : Lexed) (a b : Token) → IsToken text at goal t a → IsToken text at goal u b → b ≡ a
same_token lexing text at goal t u a b h m =
    let e = same_lexed lexing text at goal t u a b h m in
    same_parts b a
    (kind_by lexing text at goal t t.kind b.kind a.kind h.next refl (subst (λ (q : Lexed). IsKind text q b.kind) e m.kind) h.kind)
    (m.start ∙ ap (λ (q : Lexed). byte_at text q.start) e ∙ sym h.start)
    (m.line_before ∙ ap (λ (q : Lexed). q.line_before) e ∙ sym h.line_before)

-- a token isn't the end
pub no_finish : Lexing → (text : List ℕ) (at : ℕ) (goal : Goal) (t u : Lexed) (a : Token) → IsToken text at goal t a → IsNext text at goal u → u.kind ≡ lexed.Finish → ⊥
no_finish lexing text at goal t u a h n f =
    let e : t.kind ≡ lexed.Finish = ap (λ (q : Lexed). q.kind) (lexing.token text at goal t u h.next n) ∙ f in
    subst (λ (q : LexedKind). IsKindBy q text t a.kind) e h.kind

pub no_next : Lexing → (text : List ℕ) (at : ℕ) (goal : Goal) (r : LexRefusal) (t : Lexed) → IsNone text at goal r → IsNext text at goal t → ⊥
no_next lexing text at goal r t n h = let d = lexing.none text at goal r (Ok t) n h in cc

none_same : Lexing → (text : List ℕ) (at : ℕ) (goal : Goal) (r s : LexRefusal) → IsNone text at goal r → IsNone text at goal s → s ≡ r
none_same lexing text at goal r s h n = let d = lexing.none text at goal r (Err s) h n in cc

-- the answer at one is that at the other
same_taken : (p : Parser) (t u : Lexed) (a b : Token) → u ≡ t → b ≡ a → taken (is_wide u.kind) p b ≡ taken (is_wide t.kind) p a
same_taken p t u a b e f = ap (λ (q : Lexed). taken (is_wide q.kind) p b) e ∙ ap (λ (q : Token). taken (is_wide t.kind) p q) f

taken_again : Lexing → (text : List ℕ) (at : ℕ) (p : Parser) (t u : Lexed) (a b : Token) → IsToken text at (goal_of p.mode) t a → IsToken text at (goal_of p.mode) u b → taken (is_wide u.kind) p b ≡ taken (is_wide t.kind) p a
taken_again lexing text at p t u a b h m =
    same_taken p t u a b (same_lexed lexing text at (goal_of p.mode) t u a b h m) (same_token lexing text at (goal_of p.mode) t u a b h m)

-- ---- one outcome

none_only : Lexing → (text : List ℕ) (at : ℕ) (p : Parser) (r : LexRefusal) → IsNone text at (goal_of p.mode) r → (other : Outcome) → IsOutcome text at p other → Err (refusal.Syntax (byte_at text r.at)) ≡ other
none_only lexing text _ _ r n _ (outcome_none at p s h) = sym (ap (λ (q : LexRefusal). Err (refusal.Syntax (byte_at text q.at))) (none_same lexing text at (goal_of p.mode) r s n h))
none_only lexing text _ _ r n _ (outcome_over at p t h e) = absurd (no_next lexing text at (goal_of p.mode) r t n h)
none_only lexing text _ _ r n _ (outcome_refused at p t token e h i) = absurd (no_next lexing text at (goal_of p.mode) r t n h.next)
none_only lexing text _ _ r n _ (outcome_more at p q t token result h i j) = absurd (no_next lexing text at (goal_of p.mode) r t n h.next)

over_only : Lexing → (text : List ℕ) (at : ℕ) (p : Parser) (t : Lexed) → IsNext text at (goal_of p.mode) t → t.kind ≡ lexed.Finish → (other : Outcome) → IsOutcome text at p other → over p (byte_at text t.start) ≡ other
over_only lexing text _ _ t n f _ (outcome_none at p s h) = absurd (no_next lexing text at (goal_of p.mode) s t h n)
over_only lexing text _ _ t n f _ (outcome_over at p u h e) = sym (ap (λ (q : Lexed). over p (byte_at text q.start)) (lexing.token text at (goal_of p.mode) u t h n))
over_only lexing text _ _ t n f _ (outcome_refused at p u token e h i) = absurd (no_finish lexing text at (goal_of p.mode) u t token h n f)
over_only lexing text _ _ t n f _ (outcome_more at p q u token result h i j) = absurd (no_finish lexing text at (goal_of p.mode) u t token h n f)

refused_only : Lexing → (text : List ℕ) (at : ℕ) (p : Parser) (t : Lexed) (token : Token) (e : ScriptRefusal) → IsToken text at (goal_of p.mode) t token → taken (is_wide t.kind) p token ≡ Err e → (other : Outcome) → IsOutcome text at p other → Err e ≡ other
refused_only lexing text _ _ t token e n d _ (outcome_none at p s h) = absurd (no_next lexing text at (goal_of p.mode) s t h n.next)
refused_only lexing text _ _ t token e n d _ (outcome_over at p u h f) = absurd (no_finish lexing text at (goal_of p.mode) t u token n h f)
refused_only lexing text _ _ t token e n d _ (outcome_refused at p u b e' h i) = let same = sym i ∙ taken_again lexing text at p t u token b n h ∙ d in cc
refused_only lexing text _ _ t token e n d _ (outcome_more at p q u b result h i j) = absurd (let same = sym i ∙ taken_again lexing text at p t u token b n h ∙ d in cc)

-- the outcome is that behind the next token
behind : Lexing → (text : List ℕ) (at : ℕ) (p q : Parser) (t : Lexed) (token : Token) → IsToken text at (goal_of p.mode) t token → taken (is_wide t.kind) p token ≡ Ok q → (other : Outcome) → IsOutcome text at p other → IsOutcome text t.end q other
behind lexing text _ _ q t token n d _ (outcome_none at p s h) = absurd (no_next lexing text at (goal_of p.mode) s t h n.next)
behind lexing text _ _ q t token n d _ (outcome_over at p u h f) = absurd (no_finish lexing text at (goal_of p.mode) t u token n h f)
behind lexing text _ _ q t token n d _ (outcome_refused at p u b e' h i) = absurd (let same = sym i ∙ taken_again lexing text at p t u token b n h ∙ d in cc)
behind lexing text _ _ q t token n d other (outcome_more at p r u b _ h i j) =
    let e : u ≡ t = same_lexed lexing text at (goal_of p.mode) t u token b n h in
    let f : r ≡ q = let same = sym i ∙ taken_again lexing text at p t u token b n h ∙ d in cc in
    subst (λ (x : Parser). IsOutcome text t.end x other) f (subst (λ (x : Lexed). IsOutcome text x.end r other) e j)

pub one_outcome : Lexing → (text : List ℕ) (at : ℕ) (p : Parser) (a b : Outcome) → IsOutcome text at p a → IsOutcome text at p b → a ≡ b
one_outcome lexing text _ _ _ b (outcome_none at p r h) o = none_only lexing text at p r h b o
one_outcome lexing text _ _ _ b (outcome_over at p t h f) o = over_only lexing text at p t h f b o
one_outcome lexing text _ _ _ b (outcome_refused at p t token e h i) o = refused_only lexing text at p t token e h i b o
one_outcome lexing text _ _ a b (outcome_more at p q t token _ h i j) o = one_outcome lexing text t.end q a b j (behind lexing text at p q t token h i b o)
