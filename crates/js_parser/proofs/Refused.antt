-- What is refused is refused at its place, and for the reason that comes first.
use Rattle.std.proofs.Common.{◌≡◌, ℕ, ◌≤◌, nat_lt, Bool, true, false, cond, List, [], ◌∷◌, ◌++◌, Option, Some, None, refl, sym, ap, subst, ◌∙◌, All}
use Rattle.std.specs.Prelude.{Ok, Err}
use Rattle.std.proofs.lemmas.Bool.{ltb-true}
use Rattle.std.proofs.lemmas.List.Elements.{All-nil, All-cons, All-append}
use Rattle.js_ast.specs.declared.statement.Stmt.{Stmt}
use Rattle.js_grammar.specs.Grammar.{Shape, Viable}
use Rattle.js_grammar.specs.declared.token.Token.{Token}
use Rattle.js_grammar.specs.declared.token.TokenKind.{TokenKind}
use Rattle.js_lexer.specs.Tokens.{IsNext, IsNone}
use Rattle.js_lexer.specs.declared.token.Token.{Token as Lexed}
use Rattle.js_lexer.specs.declared.token.LexRefusal.{LexRefusal}
use Rattle.js_lexer.specs.declared.token.Goal.{Goal}
use Rattle.js_lexer.specs.declared.token.TokenKind.{TokenKind as LexedKind}
use Rattle.js_lexer.specs.declared.token.TokenKind.TheVariants as lexed
use Rattle.js_reading.specs.declared.mode.Parser.{Parser}
use Rattle.js_reading.specs.Reading.{step, ends, nesting, start, IsRead, IsReadWhole}
use Rattle.js_laws.specs.Reaching.{Reaches}
use Rattle.js_parser.specs.Places.{byte_at}
use Rattle.js_parser.specs.Tokens.{IsKindBy, IsToken, goal_of}
use Rattle.js_parser.specs.Outcomes.{Outcome, IsOutcome, outcome_none, outcome_over, outcome_refused, outcome_more, is_wide, unless_refused, taken_by, taken, over_by}
use Rattle.js_parser.specs.Spelling.{is_safe, IsSafe}
use Rattle.js_parser.specs.Refusals.{IsFront, front_none, front_more, IsReadTo, IsFair, IsSyntax, IsNamed, IsRefusedIn}
use Rattle.js_parser.specs.declared.refusal.ScriptRefusal.{ScriptRefusal}
use Rattle.js_parser.specs.declared.refusal.ScriptRefusal.TheVariants as refusal
use Rattle.js_parser.proofs.Spelt.{OtherGoal, SlashGoal, safe_by, goal_kept, finish_kept, is_step}
use Rattle.js_parser.proofs.OneOutcome.{Lexing, no_next, no_finish, same_token}

-- ---- what is taken to hold of the lexer and of the grammar

pub record Laws : Type 0 where
  pub lexing : Lexing
  pub other : OtherGoal
  pub slash : SlashGoal
  pub place : (text : List ℕ) (at : ℕ) (goal other : Goal) (t : Lexed) (r : LexRefusal) → IsNext text at goal t → IsNone text at other r → r.at ≡ t.start
  pub gap : (text : List ℕ) (at : ℕ) (goal other : Goal) (a b : Lexed) → IsNext text at goal a → IsNext text at other b → (a.start ≡ b.start) × (a.line_before ≡ b.line_before)
  pub nothing : (text : List ℕ) (at : ℕ) (goal other : Goal) (r s : LexRefusal) → IsNone text at goal r → IsNone text at other s → r.at ≡ s.at
  pub complete : (ts : List Token) (body : List Stmt) → Shape ts body → IsReadWhole ts body
  pub reached : (ts : List Token) (p : Parser) → Reaches ts start p → Viable ts

-- ---- states that are reached

some_is : {A : Type 0} (a b : A) → Some a ≡ Some b → a ≡ b
some_is a b e = cc

reaches : (ts : List Token) (p q : Parser) → IsReadTo ts p q → Reaches ts p q
reaches [] p q r = r
reaches (t ∷ ts) p q r = (r.0, r.1, reaches ts r.0 q r.3)

reaches_more : (ts : List Token) (p q r : Parser) (t : Token) → IsReadTo ts p q → step q t ≡ Some r → Reaches (ts ++ t ∷ []) p r
reaches_more [] p q r t h s = (r, ap (λ (x : Parser). step x t) h ∙ s, refl)
reaches_more (u ∷ us) p q r t h s = (h.0, h.1, reaches_more us h.0 q r t h.3 s)

read_more : (ts : List Token) (p q r : Parser) (t : Token) → IsReadTo ts p q → step q t ≡ Some r → nesting r ≤ 200 → IsReadTo (ts ++ t ∷ []) p r
read_more [] p q r t h s n = (r, ap (λ (x : Parser). step x t) h ∙ s, n, refl)
read_more (u ∷ us) p q r t h s n = (h.0, h.1, h.2, read_more us h.0 q r t h.3 s n)

-- what is read on from a state that is reached
read_on : (ts : List Token) (p q : Parser) → IsReadTo ts p q → (more : List Token) (body : List Stmt) → IsRead (λ n. Unit {0}) (ts ++ more) p body → IsRead (λ n. Unit {0}) more q body
read_on [] p q h more body r = subst (λ (x : Parser). IsRead (λ n. Unit {0}) more x body) h r
read_on (t ∷ ts) p q h more body r =
    read_on ts h.0 q h.3 more body (subst (λ (x : Parser). IsRead (λ n. Unit {0}) (ts ++ more) x body) (some_is r.0 h.0 (sym r.1 ∙ h.1)) r.3)

-- a token that some script goes on with is taken
pub record IsGone (p : Parser) (t : Token) : Type 0 where
  pub q : Parser
  pub steps : step p t ≡ Some q

apart : (ts : List Token) (t : Token) (more : List Token) → (ts ++ t ∷ []) ++ more ≡ ts ++ t ∷ more
apart [] t more = refl
apart (u ∷ us) t more = ap (λ (x : List Token). u ∷ x) (apart us t more)

pub goes : Laws → (ts : List Token) (p : Parser) (t : Token) → IsReadTo ts start p → Viable (ts ++ t ∷ []) → IsGone p t
goes laws ts p t h v =
    let whole = laws.complete ((ts ++ t ∷ []) ++ v.0) v.1 v.2 in
    let r = read_on ts start p h (t ∷ v.0) v.1 (subst (λ (x : List Token). IsRead (λ n. Unit {0}) x start v.1) (apart ts t v.0) whole) in
    record { q = r.0; steps = r.1 }

ends_here : Laws → (ts : List Token) (p : Parser) (body : List Stmt) → IsReadTo ts start p → Shape ts body → ends p ≡ Some body
ends_here laws ts p body h s = read_on ts start p h [] body (subst (λ (x : List Token). IsRead (λ n. Unit {0}) x start body) (sym (plain ts)) (laws.complete ts body s))
  where
    plain : (xs : List Token) → xs ++ [] ≡ xs
    plain [] = refl
    plain (x ∷ xs) = ap (λ (y : List Token). x ∷ y) (plain xs)

-- ---- a fair beginning

pub record IsHere (text : List ℕ) (ts : List Token) (at : ℕ) (p : Parser) : Type 0 where
  pub front : IsFront text ts at
  pub safe : All IsSafe ts
  pub shallow : IsReadTo ts start p

fair : Laws → (text : List ℕ) (ts : List Token) (at : ℕ) (p : Parser) → IsHere text ts at p → IsFair text ts at p
fair laws text ts at p h = record { front = h.front; viable = laws.reached ts p (reaches ts start p h.shallow); safe = h.safe; shallow = h.shallow }

-- one token more
further : Laws → (text : List ℕ) (ts : List Token) (at : ℕ) (p q : Parser) (t : Lexed) (token : Token) → IsHere text ts at p → IsToken text at (goal_of p.mode) t token → taken (is_wide t.kind) p token ≡ Ok q → IsHere text (ts ++ token ∷ []) t.end q
further laws text ts at p q t token h n k =
    let s = is_step (is_wide t.kind) p q token k in
    let e = safe_by laws.lexing.number text at (goal_of p.mode) t token.kind t.kind n.next refl s.narrow n.kind in
    record {
      front = front_more ts at (goal_of p.mode) t token h.front n;
      safe = All-append IsSafe ts (token ∷ []) h.safe (All-cons IsSafe token [] e (All-nil IsSafe));
      shallow = read_more ts start p q token h.shallow s.steps s.shallow;
    }

-- ---- no token goes on

none_syntax : Laws → (text : List ℕ) (ts : List Token) (at : ℕ) (p : Parser) (r : LexRefusal) → IsHere text ts at p → IsNone text at (goal_of p.mode) r → IsSyntax text (byte_at text r.at)
none_syntax laws text ts at p r h n =
    record {
      tokens = ts;
      end = at;
      state = p;
      fair = fair laws text ts at p h;
      goal = goal_of p.mode;
      next = Err r;
      next_is = n;
      at_is = refl;
      no_token = λ other t token i v.
          let g = goes laws ts p token h.shallow v in
          no_next laws.lexing text at (goal_of p.mode) r t n (goal_kept laws.other laws.slash text at other t token p g.q i g.steps).next;
      no_end = λ other t i f body s. no_next laws.lexing text at (goal_of p.mode) r t n (finish_kept laws.other text at other (goal_of p.mode) t i f);
    }

none_is_some : {A : Type 0} (o : Option A) (a : A) → o ≡ None → o ≡ Some a → ⊥
none_is_some o a e f = cc

over_syntax : Laws → (text : List ℕ) (ts : List Token) (at : ℕ) (p : Parser) (t : Lexed) → IsHere text ts at p → IsNext text at (goal_of p.mode) t → t.kind ≡ lexed.Finish → ends p ≡ None → IsSyntax text (byte_at text t.start)
over_syntax laws text ts at p t h n f e =
    record {
      tokens = ts;
      end = at;
      state = p;
      fair = fair laws text ts at p h;
      goal = goal_of p.mode;
      next = Ok t;
      next_is = n;
      at_is = refl;
      no_token = λ other u token i v.
          let g = goes laws ts p token h.shallow v in
          no_finish laws.lexing text at (goal_of p.mode) u t token (goal_kept laws.other laws.slash text at other u token p g.q i g.steps) n f;
      no_end = λ other u i m body s. none_is_some (ends p) body e (ends_here laws ts p body h.shallow s);
    }

token_syntax : Laws → (text : List ℕ) (ts : List Token) (at : ℕ) (p : Parser) (t : Lexed) (token : Token) → IsHere text ts at p → IsToken text at (goal_of p.mode) t token → step p token ≡ None → IsSyntax text token.start
token_syntax laws text ts at p t token h n e =
    record {
      tokens = ts;
      end = at;
      state = p;
      fair = fair laws text ts at p h;
      goal = goal_of p.mode;
      next = Ok t;
      next_is = n.next;
      at_is = n.start;
      no_token = λ other u b i v.
          let g = goes laws ts p b h.shallow v in
          let same = same_token laws.lexing text at (goal_of p.mode) t u token b n (goal_kept laws.other laws.slash text at other u b p g.q i g.steps) in
          none_is_some (step p token) g.q e (ap (step p) (sym same) ∙ g.steps);
      no_end = λ other u i m body s. no_finish laws.lexing text at (goal_of p.mode) t u token n (finish_kept laws.other text at other (goal_of p.mode) u i m) m;
    }

-- ---- a token that is taken and refused all the same

named : Laws → (text : List ℕ) (ts : List Token) (at : ℕ) (p q : Parser) (t : Lexed) (token : Token) → IsHere text ts at p → IsToken text at (goal_of p.mode) t token → step p token ≡ Some q → IsNamed text token.start token p
named laws text ts at p q t token h n s =
    record {
      tokens = ts;
      end = at;
      fair = fair laws text ts at p h;
      goal = goal_of p.mode;
      t = t;
      token_is = n;
      viable = laws.reached (ts ++ token ∷ []) q (reaches_more ts start p q token h.shallow s);
      at_is = refl;
    }

unsafe_by : (text : List ℕ) (t : Lexed) (kind : TokenKind) (l : LexedKind) → is_wide l ≡ true → IsKindBy l text t kind → is_safe kind ≡ false
unsafe_by text t kind lexed.WideNumber w n = ap is_safe n
unsafe_by text t kind _ w n = absurd cc

refused_by : Laws → (text : List ℕ) (ts : List Token) (at : ℕ) (p q : Parser) (t : Lexed) (token : Token) (w d : Bool) (e : ScriptRefusal) → IsHere text ts at p → IsToken text at (goal_of p.mode) t token → step p token ≡ Some q → is_wide t.kind ≡ w → nat_lt 200 (nesting q) ≡ d
    → unless_refused (cond w (Some (refusal.WideNumber token.start)) (cond d (Some (refusal.TooDeep token.start)) None)) q ≡ Err e → IsRefusedIn text e
refused_by laws text ts at p q t token true d e h n s w k r =
    let same : refusal.WideNumber token.start ≡ e = cc in
    subst (λ (x : ScriptRefusal). IsRefusedIn text x) same
    (token, p, named laws text ts at p q t token h n s, unsafe_by text t token.kind t.kind w n.kind)
refused_by laws text ts at p q t token false true e h n s w k r =
    let same : refusal.TooDeep token.start ≡ e = cc in
    subst (λ (x : ScriptRefusal). IsRefusedIn text x) same
    (token, p, q, named laws text ts at p q t token h n s, safe_by laws.lexing.number text at (goal_of p.mode) t token.kind t.kind n.next refl w n.kind, s, ltb-true 200 (nesting q) k)
refused_by laws text ts at p q t token false false e h n s w k r = absurd cc

taken_refused : Laws → (text : List ℕ) (ts : List Token) (at : ℕ) (p : Parser) (t : Lexed) (token : Token) (o : Option Parser) (e : ScriptRefusal) → IsHere text ts at p → IsToken text at (goal_of p.mode) t token → step p token ≡ o → taken_by (is_wide t.kind) token.start o ≡ Err e → IsRefusedIn text e
taken_refused laws text ts at p t token None e h n s r =
    let same : refusal.Syntax token.start ≡ e = cc in
    subst (λ (x : ScriptRefusal). IsRefusedIn text x) same (token_syntax laws text ts at p t token h n s)
taken_refused laws text ts at p t token (Some q) e h n s r = refused_by laws text ts at p q t token (is_wide t.kind) (nat_lt 200 (nesting q)) e h n s refl refl r

over_refused : Laws → (text : List ℕ) (ts : List Token) (at : ℕ) (p : Parser) (t : Lexed) (o : Option (List Stmt)) (e : ScriptRefusal) → IsHere text ts at p → IsNext text at (goal_of p.mode) t → t.kind ≡ lexed.Finish → ends p ≡ o → over_by (byte_at text t.start) o ≡ Err e → IsRefusedIn text e
over_refused laws text ts at p t None e h n f s r =
    let same : refusal.Syntax (byte_at text t.start) ≡ e = cc in
    subst (λ (x : ScriptRefusal). IsRefusedIn text x) same (over_syntax laws text ts at p t h n f s)
over_refused laws text ts at p t (Some body) e h n f s r = absurd cc

pub outcome_refused_in : Laws → (text : List ℕ) (at : ℕ) (p : Parser) (result : Outcome) → IsOutcome text at p result → (e : ScriptRefusal) → result ≡ Err e → (ts : List Token) → IsHere text ts at p → IsRefusedIn text e
outcome_refused_in laws text _ _ _ (outcome_none at p r n) e d ts h =
    let same : refusal.Syntax (byte_at text r.at) ≡ e = cc in
    subst (λ (x : ScriptRefusal). IsRefusedIn text x) same (none_syntax laws text ts at p r h n)
outcome_refused_in laws text _ _ _ (outcome_over at p t n f) e d ts h = over_refused laws text ts at p t (ends p) e h n f refl d
outcome_refused_in laws text _ _ _ (outcome_refused at p t token r n k) e d ts h =
    let same : r ≡ e = cc in
    subst (λ (x : ScriptRefusal). IsRefusedIn text x) same (taken_refused laws text ts at p t token (step p token) r h n refl k)
outcome_refused_in laws text _ _ result (outcome_more at p q t token _ n k i) e d ts h =
    outcome_refused_in laws text t.end q result i e d (ts ++ token ∷ []) (further laws text ts at p q t token h n k)

pub refused_in : Laws → (text : List ℕ) (e : ScriptRefusal) → IsOutcome text 0 start (Err e) → IsRefusedIn text e
refused_in laws text e i = outcome_refused_in laws text 0 start (Err e) i e refl [] (record { front = front_none; safe = All-nil IsSafe; shallow = refl })
