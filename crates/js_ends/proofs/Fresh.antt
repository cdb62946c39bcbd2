-- Parts of a run behind one another, where each keeps its exits apart.
use Rattle.std.proofs.Common.{ℕ, ◌+◌, ◌-◌, ◌*◌, ◌≡◌, ◌≤◌, ◌<◌, ◌⊎◌, inl, inr, List, [], ◌∷◌, ◌++◌, All, Option, Some, None, refl, ap, sym, subst, ◌∙◌, arith}
use Rattle.std.proofs.lemmas.List.{append-nil}
use Rattle.path_core.specs.declared.path.End.{End}
use Rattle.path_core.specs.declared.path.End.TheVariants.{Left, Done, Threw, Cut}
use Rattle.path_core.specs.declared.path.Why.{Why}
use Rattle.path_core.specs.declared.path.Why.TheVariants as why
use Rattle.js_ast.specs.declared.expression.Expr.{Expr}
use Rattle.js_ast.specs.declared.statement.Stmt.{Stmt}
use Rattle.js_grammar.specs.declared.token.Token.{Token}
use Rattle.js_grammar.specs.Phrases.{Tail, Context}
use Rattle.js_grammar.specs.Grammar.{IsAssign, IsStmts}
use Rattle.js_meaning.specs.Values.{Body, statements, expression, Class, function, Object, Place}
use Rattle.js_meaning.specs.Running.{Item, passed, made, Completion, given, refers, normal, breaks, continues, returns, throws, stops, Outcome, done, bind}
use Rattle.js_meaning.specs.Meaning.{most_ended}
use Rattle.js_meaning.specs.Apart.{Sites, Guarding, Silent, used_at, UseIn}
use Rattle.js_ends.specs.Places.{AreRising}

-- ---- the law, of outcomes

-- an exit stands among these items before their next event, or is the end there
abbrev pub Named : End → List Item → Completion → Type 0
Named x [] c = c ≡ stops x
Named x (passed y ∷ items) c = (y ≡ x) ⊎ Named x items c
Named x (made e ∷ items) c = ⊥

abbrev pub Apart : List Item → Completion → Type 0
Apart [] c = Unit {0}
Apart (passed x ∷ items) c = (Named x items c → ⊥) × Apart items c
Apart (made e ∷ items) c = Apart items c

-- ---- when in a run an exit belongs: the turns taken, and the activations ended since, as one number

abbrev pub moment_at : ℕ → ℕ → ℕ
moment_at turns ended = 4294967296 * turns + ended

abbrev pub moment : Place → ℕ
moment st = moment_at (st.run.turns - st.turns) st.ended

-- a moment or later, and at that moment itself only at these sites
abbrev pub From : Sites → ℕ → End → Type 0
From F m (Left site w t n) = (m ≤ moment_at t n) × (moment_at t n ≡ m → Guarding w → F site w)
From F m _ = Unit {0}

-- a guard's exit; that moment or earlier, and at that moment itself only at these sites
abbrev pub To : Sites → ℕ → End → Type 0
To T m (Left site w t n) = Guarding w × (moment_at t n ≤ m) × (moment_at t n ≡ m → T site w)
To T m _ = ⊥

abbrev pub EndFrom : Sites → ℕ → Completion → Type 0
EndFrom F m (stops x) = From F m x
EndFrom F m _ = Unit {0}

-- up to the first event
abbrev pub First : Sites → ℕ → List Item → Completion → Type 0
First F m [] c = EndFrom F m c
First F m (passed x ∷ items) c = From F m x × First F m items c
First F m (made e ∷ items) c = Unit {0}

-- behind the last event
abbrev pub Last : Sites → ℕ → List Item → Type 0
Last T m [] = Unit {0}
Last T m (passed x ∷ items) = (Silent items → To T m x) × Last T m items
Last T m (made e ∷ items) = Last T m items

abbrev pub GoesOn : Completion → Type 0
GoesOn (stops x) = ⊥
GoesOn _ = Unit {0}

-- where the part's reference leaves the profile, unless it is called
abbrev pub Waits : Sites → Completion → Type 0
Waits Q (refers r) = UseIn Q (used_at r)
Waits Q _ = Unit {0}

-- ---- places that are in order

-- how deep a token of a script may nest
abbrev pub limit : ℕ → Type 0
limit n = n ≤ 200

pub record SpeltStatements (ss : List Stmt) : Type 0 where
  pub end : ℕ
  pub depth : ℕ
  pub context : Context
  pub tokens : List Token
  pub rest : List Token
  pub rising : AreRising end tokens
  pub spelt : IsStmts limit depth context tokens ss rest

pub record SpeltExpression (e : Expr) : Type 0 where
  pub end : ℕ
  pub depth : ℕ
  pub context : Context
  pub tokens : List Token
  pub tail : Tail
  pub rest : List Token
  pub rising : AreRising end tokens
  pub spelt : IsAssign limit depth context tokens e tail rest

-- what a function does is spelt
abbrev pub SpeltBody : Body → Type 0
SpeltBody (statements ss) = SpeltStatements ss
SpeltBody (expression e) = SpeltExpression e

abbrev pub SoundClass : Class → Type 0
SoundClass (function code) = SpeltBody code.body
SoundClass _ = Unit {0}

abbrev pub SoundObject : Object → Type 0
SoundObject o = SoundClass o.class

-- with so many activations that haven't ended
pub record Stands (d : ℕ) (st : Place) : Type 0 where
  pub codes : All SoundObject st.objects
  pub within : st.turns ≤ st.run.turns
  pub few : st.run.turns ≤ most_ended
  pub less : st.ended + d ≤ st.run.turns - st.turns

-- A part's outcome, begun at a moment: its own exits are apart. Up to its first event they are at the places F, if they are of
-- that moment; behind its last event those that it passes are at T, if they are of the moment at its end. Its reference
-- leaves the profile at Q.
pub record Fresh (Q F T : Sites) (d m : ℕ) (r : Outcome) : Type 0 where
  pub stands : Stands d r.1.0
  pub later : m ≤ moment r.1.0
  pub apart : Apart r.0 r.1.1
  pub first : First F m r.0 r.1.1
  pub last : GoesOn r.1.1 → Last T (moment r.1.0) r.0
  pub waits : Waits Q r.1.1

abbrev pub Sub : Sites → Sites → Type 0
Sub F G = (n : ℕ) (w : Why) → F n w → G n w

abbrev pub Off : Sites → Sites → Type 0
Off T F = (n : ℕ) (w : Why) → T n w → F n w → ⊥

-- ---- exits

from_wider : (F G : Sites) (a b : ℕ) (x : End) → Sub F G → a ≤ b → From F b x → From G a x
from_wider F G a b (Left site w t n) s l h =
    (omega (arith, l, h.0), λ e g. s site w (h.1 (omega (arith, e, l, h.0)) g))
from_wider F G a b Done s l h = tt
from_wider F G a b (Threw site v) s l h = tt
from_wider F G a b (Cut site v) s l h = tt

from_later : (F G : Sites) (a b : ℕ) (x : End) → a < b → From F b x → From G a x
from_later F G a b (Left site w t n) l h = (omega (arith, l, h.0), λ e g. absurd (omega (arith, e, l, h.0)))
from_later F G a b Done l h = tt
from_later F G a b (Threw site v) l h = tt
from_later F G a b (Cut site v) l h = tt

to_wider : (T U : Sites) (b c : ℕ) (x : End) → Sub T U → b ≤ c → To T b x → To U c x
to_wider T U b c (Left site w t n) s l h =
    (h.0, omega (arith, l, h.1), λ e. s site w (h.2 (omega (arith, e, l, h.1))))
to_wider T U b c Done s l h = h
to_wider T U b c (Threw site v) s l h = h
to_wider T U b c (Cut site v) s l h = h

to_later : (T U : Sites) (b c : ℕ) (x : End) → b < c → To T b x → To U c x
to_later T U b c (Left site w t n) l h = (h.0, omega (arith, l, h.1), λ e. absurd (omega (arith, e, l, h.1)))
to_later T U b c Done l h = h
to_later T U b c (Threw site v) l h = h
to_later T U b c (Cut site v) l h = h

clash : (T F : Sites) (m : ℕ) (x : End) → Off T F → To T m x → From F m x → ⊥
clash T F m (Left site w t n) o h f =
    let e : moment_at t n ≡ m = omega (arith, h.1, f.0) in
    o site w (h.2 e) (f.1 e h.0)
clash T F m Done o h f = h
clash T F m (Threw site v) o h f = h
clash T F m (Cut site v) o h f = h

-- ---- completions: one of two ways

pub stops_or_goes : (c : Completion) → GoesOn c ⊎ ((x : End) × (c ≡ stops x))
stops_or_goes (stops x) = inr (x, refl)
stops_or_goes (given v) = inl tt
stops_or_goes (refers r) = inl tt
stops_or_goes normal = inl tt
stops_or_goes breaks = inl tt
stops_or_goes continues = inl tt
stops_or_goes (returns v) = inl tt
stops_or_goes (throws site v) = inl tt

pub end_goes : (F : Sites) (m : ℕ) (c : Completion) → GoesOn c → EndFrom F m c
end_goes F m (stops x) g = absurd g
end_goes F m (given v) g = tt
end_goes F m (refers r) g = tt
end_goes F m normal g = tt
end_goes F m breaks g = tt
end_goes F m continues g = tt
end_goes F m (returns v) g = tt
end_goes F m (throws site v) g = tt

-- ---- items

end_wider : (F G : Sites) (a b : ℕ) (c : Completion) → Sub F G → a ≤ b → EndFrom F b c → EndFrom G a c
end_wider F G a b (stops x) s l h = from_wider F G a b x s l h
end_wider F G a b (given v) s l h = tt
end_wider F G a b (refers r) s l h = tt
end_wider F G a b normal s l h = tt
end_wider F G a b breaks s l h = tt
end_wider F G a b continues s l h = tt
end_wider F G a b (returns v) s l h = tt
end_wider F G a b (throws site v) s l h = tt

end_later : (F G : Sites) (a b : ℕ) (c : Completion) → a < b → EndFrom F b c → EndFrom G a c
end_later F G a b (stops x) l h = from_later F G a b x l h
end_later F G a b (given v) l h = tt
end_later F G a b (refers r) l h = tt
end_later F G a b normal l h = tt
end_later F G a b breaks l h = tt
end_later F G a b continues l h = tt
end_later F G a b (returns v) l h = tt
end_later F G a b (throws site v) l h = tt

pub first_wider : (F G : Sites) (a b : ℕ) (items : List Item) (c : Completion) → Sub F G → a ≤ b → First F b items c →
    First G a items c
first_wider F G a b [] c s l h = end_wider F G a b c s l h
first_wider F G a b (passed x ∷ items) c s l h = (from_wider F G a b x s l h.0, first_wider F G a b items c s l h.1)
first_wider F G a b (made e ∷ items) c s l h = tt

pub first_later : (F G : Sites) (a b : ℕ) (items : List Item) (c : Completion) → a < b → First F b items c →
    First G a items c
first_later F G a b [] c l h = end_later F G a b c l h
first_later F G a b (passed x ∷ items) c l h = (from_later F G a b x l h.0, first_later F G a b items c l h.1)
first_later F G a b (made e ∷ items) c l h = tt

pub last_wider : (T U : Sites) (b c : ℕ) (items : List Item) → Sub T U → b ≤ c → Last T b items → Last U c items
last_wider T U b c [] s l h = tt
last_wider T U b c (passed x ∷ items) s l h = (λ q. to_wider T U b c x s l (h.0 q), last_wider T U b c items s l h.1)
last_wider T U b c (made e ∷ items) s l h = last_wider T U b c items s l h

pub last_later : (T U : Sites) (b c : ℕ) (items : List Item) → b < c → Last T b items → Last U c items
last_later T U b c [] l h = tt
last_later T U b c (passed x ∷ items) l h = (λ q. to_later T U b c x l (h.0 q), last_later T U b c items l h.1)
last_later T U b c (made e ∷ items) l h = last_later T U b c items l h

named_from : (F : Sites) (m : ℕ) (x : End) (items : List Item) (c : Completion) → First F m items c → Named x items c →
    From F m x
named_from F m x [] c h n = subst (λ c. EndFrom F m c) n h
named_from F m x (passed y ∷ items) c h (inl p) = subst (λ y. From F m y) p h.0
named_from F m x (passed y ∷ items) c h (inr n) = named_from F m x items c h.1 n
named_from F m x (made e ∷ items) c h n = absurd n

silent_left : (xs ys : List Item) → Silent (xs ++ ys) → Silent xs
silent_left [] ys q = tt
silent_left (passed x ∷ xs) ys q = silent_left xs ys q
silent_left (made e ∷ xs) ys q = q

named_split : (x : End) (xs ys : List Item) (c e : Completion) → Named x (xs ++ ys) e →
    Named x xs c ⊎ (Silent xs × Named x ys e)
named_split x [] ys c e n = inr (tt, n)
named_split x (passed y ∷ xs) ys c e (inl p) = inl (inl p)
named_split x (passed y ∷ xs) ys c e (inr n) = here (named_split x xs ys c e n)
  where
    here : Named x xs c ⊎ (Silent xs × Named x ys e) → ((y ≡ x) ⊎ Named x xs c) ⊎ (Silent xs × Named x ys e)
    here (inl p) = inl (inr p)
    here (inr q) = inr q
named_split x (made v ∷ xs) ys c e n = absurd n

pub apart_join : (T F : Sites) (b : ℕ) (xs ys : List Item) (c e : Completion) → Off T F → Apart xs c → Last T b xs →
    First F b ys e → Apart ys e → Apart (xs ++ ys) e
apart_join T F b [] ys c e o p l f q = q
apart_join T F b (passed x ∷ xs) ys c e o p l f q =
    (λ n. none (named_split x xs ys c e n), apart_join T F b xs ys c e o p.1 l.1 f q)
  where
    none : Named x xs c ⊎ (Silent xs × Named x ys e) → ⊥
    none (inl n) = p.0 n
    none (inr n) = clash T F b x o (l.0 n.0) (named_from F b x ys e f n.1)
apart_join T F b (made v ∷ xs) ys c e o p l f q = apart_join T F b xs ys c e o p l f q

pub first_join : (F G H : Sites) (a b : ℕ) (xs ys : List Item) (c e : Completion) → Sub F H → Sub G H → a ≤ b →
    First F a xs c → First G b ys e → First H a (xs ++ ys) e
first_join F G H a b [] ys c e s t l f g = first_wider G H a b ys e t l g
first_join F G H a b (passed x ∷ xs) ys c e s t l f g =
    (from_wider F H a a x s (omega arith) f.0, first_join F G H a b xs ys c e s t l f.1 g)
first_join F G H a b (made v ∷ xs) ys c e s t l f g = tt

pub last_join : (T U V : Sites) (b c : ℕ) (xs ys : List Item) → Sub T V → Sub U V → b ≤ c → Last T b xs → Last U c ys →
    Last V c (xs ++ ys)
last_join T U V b c [] ys s t l f g = last_wider U V c c ys t (omega arith) g
last_join T U V b c (passed x ∷ xs) ys s t l f g =
    (λ q. to_wider T V b c x s l (f.0 (silent_left xs ys q)), last_join T U V b c xs ys s t l f.1 g)
last_join T U V b c (made e ∷ xs) ys s t l f g = last_join T U V b c xs ys s t l f g

-- ---- outcomes

pub waits_wider : (Q R : Sites) (c : Completion) → Sub Q R → Waits Q c → Waits R c
waits_wider Q R (refers r) s h = at_use (used_at r) h
  where
    at_use : (o : Option ℕ) → UseIn Q o → UseIn R o
    at_use None h = tt
    at_use (Some at) h = s at why.Builtin h
waits_wider Q R (stops x) s h = tt
waits_wider Q R (given v) s h = tt
waits_wider Q R normal s h = tt
waits_wider Q R breaks s h = tt
waits_wider Q R continues s h = tt
waits_wider Q R (returns v) s h = tt
waits_wider Q R (throws site v) s h = tt

pub stands_less : {d e : ℕ} {st : Place} → e ≤ d → Stands d st → Stands e st
stands_less l h = record { codes = h.codes; within = h.within; few = h.few; less = omega (arith, h.less, l) }

pub fresh_wider : {Q F T : Sites} (R G U : Sites) {d m : ℕ} {r : Outcome} → Sub Q R → Sub F G → Sub T U →
    Fresh Q F T d m r → Fresh R G U d m r
fresh_wider {Q} {F} {T} R G U {d} {m} {r} q s t h =
    record { stands = h.stands; later = h.later; apart = h.apart; first = first_wider F G m m r.0 r.1.1 s (omega arith) h.first; last = λ g. last_wider T U (moment r.1.0) (moment r.1.0) r.0 t (omega arith) (h.last g); waits = waits_wider Q R r.1.1 q h.waits }

pub fresh_later : {Q F T : Sites} (G : Sites) {d m k : ℕ} {r : Outcome} → m < k → Fresh Q F T d k r → Fresh Q G T d m r
fresh_later {Q} {F} {T} G {d} {m} {k} {r} l h =
    record { stands = h.stands; later = omega (arith, l, h.later); apart = h.apart; first = first_later F G m k r.0 r.1.1 l h.first; last = h.last; waits = h.waits }

-- a continuation hands a stop on
abbrev pub Hands : (Place → Completion → Outcome) → Type 0
Hands go = (st : Place) (x : End) → go st (stops x) ≡ done st (stops x)

joins : (Q F T R G U H V : Sites) (d c m : ℕ) (items : List Item) (st : Place) (e : Completion) (r : Outcome) →
    Sub F H → Sub G H → Sub T V → Sub U V → Off T G → GoesOn e → Fresh Q F T d m (items, (st, e)) →
    Fresh R G U c (moment st) r → Fresh R H V c m (items ++ r.0, r.1)
joins Q F T R G U H V d c m items st e r fh gh tv uv o g h k =
    record {
      stands = k.stands;
      later = omega (arith, h.later, k.later);
      apart = apart_join T G (moment st) items r.0 e r.1.1 o h.apart (h.last g) k.first k.apart;
      first = first_join F G H m (moment st) items r.0 e r.1.1 fh gh h.later h.first k.first;
      last = λ x. last_join T U V (moment st) (moment r.1.0) items r.0 tv uv k.later (h.last g) (k.last x);
      waits = k.waits;
    }

pub fresh_stopped : (Q F T R H V : Sites) (d c m : ℕ) (items : List Item) (st : Place) (x : End)
    (go : Place → Completion → Outcome) → Sub F H → c ≤ d → Hands go → Fresh Q F T d m (items, (st, stops x)) →
    Fresh R H V c m (bind (items, (st, stops x)) go)
fresh_stopped Q F T R H V d c m items st x go fh l hands h =
    let same : bind (items, (st, stops x)) go ≡ (items, (st, stops x)) = ap (λ (w : Outcome). (items ++ w.0, w.1)) (hands st x) ∙ ap (λ js. (js, (st, stops x))) (append-nil items) in
    let here : Fresh R H V c m (items, (st, stops x)) = record { stands = stands_less l h.stands; later = h.later; apart = h.apart; first = first_wider F H m m items (stops x) fh (omega arith) h.first; last = λ g. absurd g; waits = tt } in
    subst (λ w. Fresh R H V c m w) (sym same) here

pub fresh_bind : {Q F T : Sites} (R G U H V : Sites) {d c m : ℕ} (r : Outcome) (go : Place → Completion → Outcome) →
    Sub F H → Sub G H → Sub T V → Sub U V → Off T G → c ≤ d → Hands go → Fresh Q F T d m r →
    ((st : Place) (e : Completion) → GoesOn e → Waits Q e → Stands d st → Fresh R G U c (moment st) (go st e)) →
    Fresh R H V c m (bind r go)
fresh_bind {Q} {F} {T} R G U H V {d} {c} {m} (items, (st, e)) go fh gh tv uv o l hands h k = here (stops_or_goes e)
  where
    here : GoesOn e ⊎ ((x : End) × (e ≡ stops x)) → Fresh R H V c m (bind (items, (st, e)) go)
    here (inl g) = joins Q F T R G U H V d c m items st e (go st e) fh gh tv uv o g h (k st e g h.waits h.stands)
    here (inr p) =
        subst (λ e. Fresh R H V c m (bind (items, (st, e)) go)) (sym p.1) (fresh_stopped Q F T R H V d c m items st p.0 go fh l hands (subst (λ e. Fresh Q F T d m (items, (st, e))) p.1 h))
