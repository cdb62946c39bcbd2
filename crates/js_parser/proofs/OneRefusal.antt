-- A text has one refusal.
use Rattle.std.proofs.Common.{◌≡◌, ℕ, ◌≤◌, ◌<◌, true, false, List, [], ◌∷◌, ◌++◌, Some, refl, sym, ap, subst, ◌∙◌, append_assoc, arith, inl, inr, All}
use Rattle.std.specs.Prelude.{◌⊎◌, Result, Ok, Err}
use Rattle.std.proofs.lemmas.List.{append-nil}
use Rattle.std.proofs.lemmas.List.Elements.{All-nil, All-cons, All-head, All-tail}
use Rattle.js_ast.specs.declared.statement.Stmt.{Stmt}
use Rattle.js_grammar.specs.Grammar.{Shape, Viable}
use Rattle.js_grammar.specs.declared.token.Token.{Token}
use Rattle.js_lexer.specs.Tokens.{IsNext, Next}
use Rattle.js_lexer.specs.declared.token.Goal.{Goal}
use Rattle.js_lexer.specs.declared.token.Token.{Token as Lexed}
use Rattle.js_lexer.specs.declared.token.LexRefusal.{LexRefusal}
use Rattle.js_lexer.specs.declared.token.TokenKind.TheVariants as lexed
use Rattle.js_reading.specs.declared.mode.Parser.{Parser}
use Rattle.js_reading.specs.Reading.{step, nesting, start, IsRead, IsReadWhole}
use Rattle.js_parser.specs.Places.{byte_at}
use Rattle.js_parser.specs.Tokens.{IsToken, goal_of}
use Rattle.js_parser.specs.Spelling.{is_safe, IsSafe, IsTokens, tokens_none, tokens_more}
use Rattle.js_parser.specs.Refusals.{IsFront, front_none, front_more, IsReadTo, IsFair, start_at, IsSyntax, IsNamed, IsWide, IsDeep, IsRefusedIn}
use Rattle.js_parser.specs.declared.refusal.ScriptRefusal.{ScriptRefusal}
use Rattle.js_parser.specs.declared.refusal.ScriptRefusal.TheVariants as refusal
use Rattle.js_parser.proofs.Spelt.{goal_kept, finish_kept}
use Rattle.js_parser.proofs.OneOutcome.{no_finish, same_lexed, same_token}
use Rattle.js_parser.proofs.Refused.{Laws, goes}

-- ---- a beginning, token by token

-- from a place and a state on these tokens are next and taken, none of them wide or too deep
abbrev Along : List ℕ → ℕ → Parser → List Token → ℕ → Parser → Type 0
Along text at p [] end q = (at ≡ end) × (p ≡ q)
Along text at p (t ∷ ts) end q = (l : Lexed) × (m : Parser) × IsToken text at (goal_of p.mode) l t × (step p t ≡ Some m) × (nesting m ≤ 200) × (is_safe t.kind ≡ true) × Along text l.end m ts end q

along_more : (text : List ℕ) (at : ℕ) (p : Parser) (ts : List Token) (mid : ℕ) (m q : Parser) (l : Lexed) (t : Token) → Along text at p ts mid m → IsToken text mid (goal_of m.mode) l t → step m t ≡ Some q → nesting q ≤ 200 → is_safe t.kind ≡ true → Along text at p (ts ++ t ∷ []) l.end q
along_more text at p [] mid m q l t a h s n f =
    (l, q, subst (λ (x : Parser). IsToken text at (goal_of x.mode) l t) (sym a.1) (subst (λ (x : ℕ). IsToken text x (goal_of m.mode) l t) (sym a.0) h), ap (λ (x : Parser). step x t) a.1 ∙ s, n, f, (refl, refl))
along_more text at p (u ∷ ts) mid m q l t a h s n f = (a.0, a.1, a.2, a.3, a.4, a.5, along_more text a.0.end a.1 ts mid m q l t a.6 h s n f)

-- the last token
record Last (ts : List Token) (p : Parser) (t : Token) (q : Parser) : Type 0 where
  m : Parser
  read : IsReadTo ts p m
  steps : step m t ≡ Some q
  shallow : nesting q ≤ 200

last_of : (ts : List Token) (p : Parser) (t : Token) (q : Parser) → IsReadTo (ts ++ t ∷ []) p q → Last ts p t q
last_of [] p t q r = record { m = p; read = refl; steps = r.1 ∙ ap (λ (x : Parser). Some x) r.3; shallow = subst (λ (x : Parser). nesting x ≤ 200) r.3 r.2 }
last_of (u ∷ ts) p t q r = let l = last_of ts r.0 t q r.3 in record { m = l.m; read = (r.0, r.1, r.2, l.read); steps = l.steps; shallow = l.shallow }

all_front : (ts : List Token) (t : Token) → All IsSafe (ts ++ t ∷ []) → All IsSafe ts × IsSafe t
all_front [] t h = (All-nil IsSafe, All-head IsSafe t [] h)
all_front (u ∷ ts) t h = let more = all_front ts t (All-tail IsSafe u (ts ++ t ∷ []) h) in (All-cons IsSafe u ts (All-head IsSafe u (ts ++ t ∷ []) h) more.0, more.1)

front_along : Laws → (text : List ℕ) (ts : List Token) (end : ℕ) → IsFront text ts end → (p : Parser) → IsReadTo ts start p → All IsSafe ts → Along text 0 start ts end p
front_along laws text _ _ front_none p r s = (refl, r)
front_along laws text _ _ (front_more ts end goal t token f h) p r s =
    let l = last_of ts start token p r in
    let a = all_front ts token s in
    along_more text 0 start ts end l.m p t token (front_along laws text ts end f l.m l.read a.0) (goal_kept laws.other laws.slash text end goal t token l.m p h l.steps) l.steps l.shallow a.1

fair_along : Laws → (text : List ℕ) (ts : List Token) (end : ℕ) (p : Parser) → IsFair text ts end p → Along text 0 start ts end p
fair_along laws text ts end p f = front_along laws text ts end f.front p f.shallow f.safe

-- ---- of two beginnings one goes on with the other

record Beyond (text : List ℕ) (ts us : List Token) (end far : ℕ) (p q : Parser) : Type 0 where
  more : List Token
  is : us ≡ ts ++ more
  along : Along text end p more far q

both : Laws → (text : List ℕ) (at : ℕ) (o : Parser) (ts us : List Token) (end far : ℕ) (p q : Parser) → Along text at o ts end p → Along text at o us far q → Beyond text ts us end far p q ⊎ Beyond text us ts far end q p
both laws text at o [] us end far p q a b =
    inl (record { more = us; is = refl; along = subst (λ (x : Parser). Along text end x us far q) a.1 (subst (λ (x : ℕ). Along text x o us far q) a.0 b) })
both laws text at o (t ∷ ts) [] end far p q a b =
    inr (record { more = t ∷ ts; is = refl; along = subst (λ (x : Parser). Along text far x (t ∷ ts) end p) b.1 (subst (λ (x : ℕ). Along text x o (t ∷ ts) end p) b.0 a) })
both laws text at o (t ∷ ts) (u ∷ us) end far p q a b =
    elim (both laws text a.0.end a.1 ts us end far p q a.6 there) [
      | inl y ↦ inl (record { more = y.more; is = ap (λ (x : Token). x ∷ us) token ∙ ap (λ (x : List Token). t ∷ x) y.is; along = y.along })
      | inr y ↦ inr (record { more = y.more; is = ap (λ (x : Token). x ∷ ts) (sym token) ∙ ap (λ (x : List Token). u ∷ x) y.is; along = y.along })
    ]
  where
    token : u ≡ t
    token = same_token laws.lexing text at (goal_of o.mode) a.0 b.0 t u a.2 b.2

    lex : b.0 ≡ a.0
    lex = same_lexed laws.lexing text at (goal_of o.mode) a.0 b.0 t u a.2 b.2

    state : b.1 ≡ a.1
    state = let same : Some b.1 ≡ Some a.1 = sym b.3 ∙ ap (λ (x : Token). step o x) token ∙ a.3 in cc

    there : Along text a.0.end a.1 us far q
    there = subst (λ (x : Parser). Along text a.0.end x us far q) state (subst (λ (x : Lexed). Along text x.end b.1 us far q) lex b.6)

viable_front : (ts more : List Token) → Viable (ts ++ more) → Viable ts
viable_front ts more v = (more ++ v.0, v.1, subst (λ (x : List Token). Shape x v.1) (append_assoc ts more v.0) v.2)

-- ---- a syntax error: nothing goes on behind it

syntax_last : (text : List ℕ) (at : ℕ) (x : IsSyntax text at) (us : List Token) (far : ℕ) (q : Parser) (u : Token) (w : List Token) → us ≡ x.tokens ++ u ∷ w → Along text x.end x.state (u ∷ w) far q → Viable us → ⊥
syntax_last text at x us far q u w e a v =
    x.no_token (goal_of x.state.mode) a.0 u a.2 (viable_front (x.tokens ++ u ∷ []) w (subst Viable (e ∙ sym (append_assoc x.tokens (u ∷ []) w)) v))

-- what is next begins at one place, at any goal
one_start : Laws → (text : List ℕ) (at : ℕ) (goal other : Goal) (a b : Result Lexed LexRefusal) → Next text at goal a → Next text at other b → start_at a ≡ start_at b
one_start laws text at goal other (Ok t) (Ok u) h n = (laws.gap text at goal other t u h n).0
one_start laws text at goal other (Ok t) (Err r) h n = sym (laws.place text at goal other t r h n)
one_start laws text at goal other (Err r) (Ok u) h n = laws.place text at other goal u r n h
one_start laws text at goal other (Err r) (Err s) h n = laws.nothing text at goal other r s h n

syntax_within : Laws → (text : List ℕ) (at other : ℕ) (x : IsSyntax text at) (y : IsSyntax text other) → Beyond text x.tokens y.tokens x.end y.end x.state y.state → at ≡ other
syntax_within laws text at other x y b = by b.more b.is b.along
  where
    by : (more : List Token) → y.tokens ≡ x.tokens ++ more → Along text x.end x.state more y.end y.state → at ≡ other
    by [] e a = x.at_is ∙ ap (λ (n : ℕ). byte_at text n) (one_start laws text x.end x.goal y.goal x.next y.next x.next_is (subst (λ (n : ℕ). Next text n y.goal y.next) (sym a.0) y.next_is)) ∙ sym y.at_is
    by (u ∷ w) e a = absurd (syntax_last text at x y.tokens y.end y.state u w e a y.fair.viable)

syntax_syntax : Laws → (text : List ℕ) (at other : ℕ) → IsSyntax text at → IsSyntax text other → at ≡ other
syntax_syntax laws text at other x y =
    elim (both laws text 0 start x.tokens y.tokens x.end y.end x.state y.state (fair_along laws text x.tokens x.end x.state x.fair) (fair_along laws text y.tokens y.end y.state y.fair)) [
      | inl b ↦ syntax_within laws text at other x y b
      | inr b ↦ sym (syntax_within laws text other at y x b)
    ]

-- ---- a token that is refused though some script goes on with it

-- it is wide, or nests too deep
abbrev IsBlamed : Parser → Token → Type 0
IsBlamed p token = (is_safe token.kind ≡ false) ⊎ ((q : Parser) × (step p token ≡ Some q) × (200 < nesting q))

-- the token as the goal of the state reads it
named_token : Laws → (text : List ℕ) (at : ℕ) (token : Token) (p : Parser) (y : IsNamed text at token p) → IsToken text y.end (goal_of p.mode) y.t token
named_token laws text at token p y =
    let g = goes laws y.tokens p token y.fair.shallow y.viable in
    goal_kept laws.other laws.slash text y.end y.goal y.t token p g.q y.token_is g.steps

blamed_last : Laws → (text : List ℕ) (at : ℕ) (token : Token) (p : Parser) (y : IsNamed text at token p) → IsBlamed p token → (far : ℕ) (q : Parser) (u : Token) (w : List Token) → Along text y.end p (u ∷ w) far q → ⊥
blamed_last laws text at token p y b far q u w a =
    elim b [
      | inl f ↦ (let d : false ≡ true = sym f ∙ ap (λ (x : Token). is_safe x.kind) (sym same) ∙ a.5 in cc)
      | inr f ↦ deep f.0 f.1 f.2
    ]
  where
    same : u ≡ token
    same = same_token laws.lexing text y.end (goal_of p.mode) y.t a.0 token u (named_token laws text at token p y) a.2

    deep : (r : Parser) → step p token ≡ Some r → 200 < nesting r → ⊥
    deep r s n =
        let d : Some a.1 ≡ Some r = sym a.3 ∙ ap (λ (x : Token). step p x) same ∙ s in
        let e : a.1 ≡ r = cc in
        let l : nesting r ≤ 200 = subst (λ (x : Parser). nesting x ≤ 200) e a.4 in
        omega (arith, l, n)

syntax_blamed : Laws → (text : List ℕ) (at other : ℕ) (token : Token) (p : Parser) → (x : IsSyntax text at) (y : IsNamed text other token p) → IsBlamed p token → ⊥
syntax_blamed laws text at other token p x y b =
    elim (both laws text 0 start x.tokens y.tokens x.end y.end x.state p (fair_along laws text x.tokens x.end x.state x.fair) (fair_along laws text y.tokens y.end p y.fair)) [
      | inl c ↦ on c.more c.is c.along
      | inr c ↦ back c.more c.is c.along
    ]
  where
    here : x.end ≡ y.end → y.tokens ≡ x.tokens → ⊥
    here e d = x.no_token y.goal y.t token (subst (λ (n : ℕ). IsToken text n y.goal y.t token) (sym e) y.token_is) (subst (λ (ts : List Token). Viable (ts ++ token ∷ [])) d y.viable)

    on : (more : List Token) → y.tokens ≡ x.tokens ++ more → Along text x.end x.state more y.end p → ⊥
    on [] e a = here a.0 (e ∙ append-nil x.tokens)
    on (u ∷ w) e a = syntax_last text at x y.tokens y.end p u w e a y.fair.viable

    back : (more : List Token) → x.tokens ≡ y.tokens ++ more → Along text y.end p more x.end x.state → ⊥
    back [] e a = here (sym a.0) (sym (e ∙ append-nil y.tokens))
    back (u ∷ w) e a = blamed_last laws text other token p y b x.end x.state u w a

-- two such tokens are one
blamed_blamed : Laws → (text : List ℕ) (at other : ℕ) (t u : Token) (p q : Parser) → IsNamed text at t p → IsNamed text other u q → IsBlamed p t → IsBlamed q u → (t ≡ u) × (p ≡ q)
blamed_blamed laws text at other t u p q x y b c =
    elim (both laws text 0 start x.tokens y.tokens x.end y.end p q (fair_along laws text x.tokens x.end p x.fair) (fair_along laws text y.tokens y.end q y.fair)) [
      | inl d ↦ on d.more d.along
      | inr d ↦ back d.more d.along
    ]
  where
    here : x.end ≡ y.end → p ≡ q → (t ≡ u) × (p ≡ q)
    here e d = (
      same_token laws.lexing text y.end (goal_of q.mode) y.t x.t u t (named_token laws text other u q y)
          (subst (λ (n : ℕ). IsToken text n (goal_of q.mode) x.t t) e (subst (λ (r : Parser). IsToken text x.end (goal_of r.mode) x.t t) d (named_token laws text at t p x))),
      d,
    )

    on : (more : List Token) → Along text x.end p more y.end q → (t ≡ u) × (p ≡ q)
    on [] a = here a.0 a.1
    on (v ∷ w) a = absurd (blamed_last laws text at t p x b y.end q v w a)

    back : (more : List Token) → Along text y.end q more x.end p → (t ≡ u) × (p ≡ q)
    back [] a = here (sym a.0) (sym a.1)
    back (v ∷ w) a = absurd (blamed_last laws text other u q y c x.end p v w a)

-- ---- a text that is spelt

-- the tokens up to the end
record Whole (text : List ℕ) (at : ℕ) (p : Parser) (ts : List Token) : Type 0 where
  end : ℕ
  state : Parser
  along : Along text at p ts end state
  goal : Goal
  finish : Lexed
  next : IsNext text end goal finish
  is : finish.kind ≡ lexed.Finish

whole : Laws → (text : List ℕ) (at : ℕ) (ts : List Token) → IsTokens text at ts → (p : Parser) (body : List Stmt) → IsRead (λ n. n ≤ 200) ts p body → All IsSafe ts → Whole text at p ts
whole laws text _ _ (tokens_none at goal t h f) p body r s = record { end = at; state = p; along = (refl, refl); goal = goal; finish = t; next = h; is = f }
whole laws text _ _ (tokens_more at goal t token ts h more) p body r s =
    let w = whole laws text t.end ts more r.0 body r.3 (All-tail IsSafe token ts s) in
    record {
      end = w.end;
      state = w.state;
      along = (t, r.0, goal_kept laws.other laws.slash text at goal t token p r.0 h r.1, r.1, r.2, All-head IsSafe token ts s, w.along);
      goal = w.goal;
      finish = w.finish;
      next = w.next;
      is = w.is;
    }

-- behind the end no token follows
whole_last : Laws → (text : List ℕ) (ts : List Token) (h : Whole text 0 start ts) (g : Goal) (l : Lexed) (t : Token) → IsToken text h.end g l t → ⊥
whole_last laws text ts h g l t n = no_finish laws.lexing text h.end g l h.finish t n (finish_kept laws.other text h.end h.goal g h.finish h.next h.is) h.is

whole_syntax : Laws → (text : List ℕ) (ts : List Token) (body : List Stmt) → Whole text 0 start ts → Shape ts body → (at : ℕ) → IsSyntax text at → ⊥
whole_syntax laws text ts body h s at x =
    elim (both laws text 0 start x.tokens ts x.end h.end x.state h.state (fair_along laws text x.tokens x.end x.state x.fair) h.along) [
      | inl c ↦ on c.more c.is c.along
      | inr c ↦ back c.more c.is c.along
    ]
  where
    here : x.end ≡ h.end → x.tokens ≡ ts → ⊥
    here e d = x.no_end h.goal h.finish (subst (λ (n : ℕ). IsNext text n h.goal h.finish) (sym e) h.next) h.is body (subst (λ (q : List Token). Shape q body) (sym d) s)

    on : (more : List Token) → ts ≡ x.tokens ++ more → Along text x.end x.state more h.end h.state → ⊥
    on [] e a = here a.0 (sym (e ∙ append-nil x.tokens))
    on (u ∷ w) e a = syntax_last text at x ts h.end h.state u w e a ([], body, subst (λ (q : List Token). Shape q body) (sym (append-nil ts)) s)

    back : (more : List Token) → x.tokens ≡ ts ++ more → Along text h.end h.state more x.end x.state → ⊥
    back [] e a = here (sym a.0) (e ∙ append-nil ts)
    back (u ∷ w) e a = whole_last laws text ts h (goal_of h.state.mode) a.0 u a.2

whole_blamed : Laws → (text : List ℕ) (ts : List Token) → Whole text 0 start ts → (at : ℕ) (token : Token) (p : Parser) → IsNamed text at token p → IsBlamed p token → ⊥
whole_blamed laws text ts h at token p y b =
    elim (both laws text 0 start y.tokens ts y.end h.end p h.state (fair_along laws text y.tokens y.end p y.fair) h.along) [
      | inl c ↦ on c.more c.along
      | inr c ↦ back c.more c.along
    ]
  where
    here : y.end ≡ h.end → ⊥
    here e = whole_last laws text ts h y.goal y.t token (subst (λ (n : ℕ). IsToken text n y.goal y.t token) e y.token_is)

    on : (more : List Token) → Along text y.end p more h.end h.state → ⊥
    on [] a = here a.0
    on (u ∷ w) a = blamed_last laws text at token p y b h.end h.state u w a

    back : (more : List Token) → Along text h.end h.state more y.end p → ⊥
    back [] a = here (sym a.0)
    back (u ∷ w) a = whole_last laws text ts h (goal_of h.state.mode) a.0 u a.2

-- whatever the nesting
loose : (ts : List Token) (p : Parser) (body : List Stmt) → IsRead (λ n. n ≤ 200) ts p body → IsRead (λ n. Unit {0}) ts p body
loose [] p body r = r
loose (t ∷ ts) p body r = (r.0, r.1, tt, loose ts r.0 body r.3)

-- ---- one refusal

pub refused_apart : Laws → (text : List ℕ) (ts : List Token) (body : List Stmt) → IsTokens text 0 ts → (IsReadWhole ts body → Shape ts body) → IsRead (λ n. n ≤ 200) ts start body → All IsSafe ts → (e : ScriptRefusal) → IsRefusedIn text e → ⊥
refused_apart laws text ts body t s r a (refusal.Syntax at) x = whole_syntax laws text ts body (whole laws text 0 ts t start body r a) (s (loose ts start body r)) at x
refused_apart laws text ts body t s r a (refusal.WideNumber at) x = whole_blamed laws text ts (whole laws text 0 ts t start body r a) at x.0 x.1 x.2 (inl x.3)
refused_apart laws text ts body t s r a (refusal.TooDeep at) x = whole_blamed laws text ts (whole laws text 0 ts t start body r a) at x.0 x.1 x.3 (inr (x.2, x.5, x.6))
refused_apart laws text ts body t s r a _ x = absurd x

wide_deep : Laws → (text : List ℕ) (at other : ℕ) → IsWide text at → IsDeep text other → ⊥
wide_deep laws text at other x y =
    let same = blamed_blamed laws text at other x.0 y.0 x.1 y.1 x.2 y.3 (inl x.3) (inr (y.2, y.5, y.6)) in
    let d : false ≡ true = sym x.3 ∙ ap (λ (t : Token). is_safe t.kind) same.0 ∙ y.4 in
    cc

pub one_refusal : Laws → (text : List ℕ) (e f : ScriptRefusal) → IsRefusedIn text e → IsRefusedIn text f → e ≡ f
one_refusal laws text (refusal.Syntax at) (refusal.Syntax other) x y = ap (λ (n : ℕ). refusal.Syntax n) (syntax_syntax laws text at other x y)
one_refusal laws text (refusal.Syntax at) (refusal.WideNumber other) x y = absurd (syntax_blamed laws text at other y.0 y.1 x y.2 (inl y.3))
one_refusal laws text (refusal.Syntax at) (refusal.TooDeep other) x y = absurd (syntax_blamed laws text at other y.0 y.1 x y.3 (inr (y.2, y.5, y.6)))
one_refusal laws text (refusal.WideNumber at) (refusal.Syntax other) x y = absurd (syntax_blamed laws text other at x.0 x.1 y x.2 (inl x.3))
one_refusal laws text (refusal.WideNumber at) (refusal.WideNumber other) x y =
    let same = blamed_blamed laws text at other x.0 y.0 x.1 y.1 x.2 y.2 (inl x.3) (inl y.3) in
    ap (λ (n : ℕ). refusal.WideNumber n) (x.2.at_is ∙ ap (λ (t : Token). t.start) same.0 ∙ sym y.2.at_is)
one_refusal laws text (refusal.WideNumber at) (refusal.TooDeep other) x y = absurd (wide_deep laws text at other x y)
one_refusal laws text (refusal.TooDeep at) (refusal.Syntax other) x y = absurd (syntax_blamed laws text other at x.0 x.1 y x.3 (inr (x.2, x.5, x.6)))
one_refusal laws text (refusal.TooDeep at) (refusal.WideNumber other) x y = absurd (wide_deep laws text other at y x)
one_refusal laws text (refusal.TooDeep at) (refusal.TooDeep other) x y =
    let same = blamed_blamed laws text at other x.0 y.0 x.1 y.1 x.3 y.3 (inr (x.2, x.5, x.6)) (inr (y.2, y.5, y.6)) in
    ap (λ (n : ℕ). refusal.TooDeep n) (x.3.at_is ∙ ap (λ (t : Token). t.start) same.0 ∙ sym y.3.at_is)
one_refusal laws text refusal.NoMemory f x y = absurd x
one_refusal laws text (refusal.Utf8 at) f x y = absurd x
one_refusal laws text (refusal.EarlyName at) f x y = absurd x
one_refusal laws text (refusal.Syntax at) refusal.NoMemory x y = absurd y
one_refusal laws text (refusal.Syntax at) (refusal.Utf8 other) x y = absurd y
one_refusal laws text (refusal.Syntax at) (refusal.EarlyName other) x y = absurd y
one_refusal laws text (refusal.WideNumber at) refusal.NoMemory x y = absurd y
one_refusal laws text (refusal.WideNumber at) (refusal.Utf8 other) x y = absurd y
one_refusal laws text (refusal.WideNumber at) (refusal.EarlyName other) x y = absurd y
one_refusal laws text (refusal.TooDeep at) refusal.NoMemory x y = absurd y
one_refusal laws text (refusal.TooDeep at) (refusal.Utf8 other) x y = absurd y
one_refusal laws text (refusal.TooDeep at) (refusal.EarlyName other) x y = absurd y
