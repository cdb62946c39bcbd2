-- Lists of parts keep exits apart: arguments, literals, chains of operators and of suffixes.
use Rattle.std.proofs.Common.{ℕ, suc, ◌≡◌, ◌≤◌, ◌<◌, ◌⊎◌, inl, inr, Bool, true, false, List, [], ◌∷◌, ◌++◌, Option, Some, None, arith}
use Rattle.js_ast.specs.declared.operators.BinaryOp.{BinaryOp}
use Rattle.js_ast.specs.declared.operators.LogicalOp.{LogicalOp}
use Rattle.js_ast.specs.declared.parts.Link.{Link}
use Rattle.js_ast.specs.declared.parts.Member.{Member}
use Rattle.js_meaning.specs.Values.{Value, object, Scope, Place}
use Rattle.js_meaning.specs.Running.{given, Outcome, bind, on_value, play}
use Rattle.js_meaning.specs.Conversions.{to_boolean}
use Rattle.js_meaning.specs.Builtins.{Calls}
use Rattle.js_meaning.specs.Objects.{written, add_property, add_item}
use Rattle.js_meaning.specs.Operators.{logical_row, goes_on, binary_row, is_join}
use Rattle.js_meaning.specs.Parts.{Meaning, gather, elements, member_key, member_value, members, noted, apply, links, decided, logical_links}
use Rattle.js_meaning.specs.Apart.{Sites, nowhere, only}
use Rattle.js_meaning.proofs.RowsApart.{binary_apart, logical_apart, item_in, property_in, item_keeps, property_keeps}
use Rattle.js_ends.proofs.Fresh.{moment, Stands, Fresh, Sub, Off, fresh_wider}
use Rattle.js_ends.proofs.Forms.{done_fresh, count_fresh, Used, Less, apart_fits}
use Rattle.js_ends.proofs.Binds.{Either, Within, Steps, value_bind, row_value, written_fresh}

-- a call has its moments for itself; but what is no function isn't called, and throws at the call's site
abbrev pub CallsFresh : Calls → Type 0
CallsFresh calls = (d site : ℕ) (f this : Value) (xs : List Value) (st : Place) → Stands d st →
    Fresh nowhere (only site) nowhere d (moment st) (calls site f this xs st)

abbrev pub Inside : ℕ → ℕ → Option ℕ → Type 0
Inside lo hi None = Unit {0}
Inside lo hi (Some at) = (lo ≤ at) × (at < hi)

abbrev pub Passing : ℕ → ℕ → Option ℕ → Sites
Passing lo hi q = Less (Within lo hi) (Used q)

-- an expression between two places: its exits are there, and where its reference leaves the profile it passes none
abbrev pub Good : Option ℕ → ℕ → ℕ → Meaning → Type 0
Good q lo hi m = (calls : Calls) → CallsFresh calls → (k : ℕ) (scope : Scope) (d : ℕ) →
    Steps (Used q) (Within lo hi) (Passing lo hi q) d (m calls k scope)

pub record Part (lo hi : ℕ) (m : Meaning) : Type 0 where
  pub quiet : Option ℕ
  pub le : lo ≤ hi
  pub inside : Inside lo hi quiet
  pub good : Good quiet lo hi m

pub within : {a b lo hi : ℕ} → lo ≤ a → b ≤ hi → Sub (Within a b) (Within lo hi)
within l m n w h = (omega (arith, l, h.0), omega (arith, m, h.1))

pub used_within : (lo hi : ℕ) (q : Option ℕ) → Inside lo hi q → Sub (Used q) (Within lo hi)
used_within lo hi None i n w u = absurd u
used_within lo hi (Some at) i n w u = (omega (arith, i.0, u.0), omega (arith, i.1, u.0))

pub inside_wider : (a b lo hi : ℕ) (q : Option ℕ) → lo ≤ a → b ≤ hi → Inside a b q → Inside lo hi q
inside_wider a b lo hi None l m i = tt
inside_wider a b lo hi (Some at) l m i = (omega (arith, l, i.0), omega (arith, m, i.1))

pub part_wider : {a b : ℕ} {m : Meaning} (lo hi : ℕ) → lo ≤ a → b ≤ hi → Part a b m → Part lo hi m
part_wider {a} {b} {m} lo hi l e p =
    record {
      quiet = p.quiet;
      le = omega (arith, l, e, p.le);
      inside = inside_wider a b lo hi p.quiet l e p.inside;
      good = λ calls c k scope d st s. fresh_wider (Used p.quiet) (Within lo hi) (Passing lo hi p.quiet) (λ n w h. h) (within l e) (λ n w h. (within l e n w h.0, h.1)) (p.good calls c k scope d st s);
    }

-- a part whose outcome is a value
pub plain_part : {m : Meaning} (lo hi : ℕ) → lo ≤ hi → ((calls : Calls) → CallsFresh calls → (k : ℕ) (scope : Scope)
    (d : ℕ) → Steps nowhere (Within lo hi) (Within lo hi) d (m calls k scope)) → Part lo hi m
plain_part lo hi l g =
    record {
      quiet = None;
      le = l;
      inside = tt;
      good = λ calls c k scope d st s. fresh_wider (Used None) (Within lo hi) (Passing lo hi None) (λ n w h. h) (λ n w h. h) (λ n w h. (h, λ u. u)) (g calls c k scope d st s);
    }

-- with the value of a part
pub part_value : {a b : ℕ} {m : Meaning} (p : Part a b m) (R G U H V : Sites) (calls : Calls) → CallsFresh calls →
    (k : ℕ) (scope : Scope) (d : ℕ) (st : Place) (go : Value → Place → Outcome) → Sub (Within a b) H → Sub G H →
    Sub (Within a b) V → Sub U V → Off (Within a b) G → Stands d st → ((x : Value) → Steps R G U d (go x)) →
    Fresh R H V d (moment st) (bind (m calls k scope st) (on_value go))
part_value {a} {b} {m} p R G U H V calls c k scope d st go h gh v uv o s f =
    value_bind R G U H V (m calls k scope st) go h (λ n w u. h n w (used_within a b p.quiet p.inside n w u)) gh (λ n w t. v n w t.0) uv (λ n w t u. t.1 u) (λ n w t g. o n w t.0 g) (p.good calls c k scope d st s) f

-- ---- arguments

abbrev pub EachIn : {E : Type 0} → (E → Meaning) → ℕ → ℕ → List E → Type 0
EachIn run lo hi [] = lo ≤ hi
EachIn run lo hi (e ∷ es) = (mid : ℕ) × Part lo mid (run e) × EachIn run mid hi es

pub each_le : {E : Type 0} (run : E → Meaning) (lo hi : ℕ) (es : List E) → EachIn run lo hi es → lo ≤ hi
each_le run lo hi [] h = h
each_le run lo hi (e ∷ es) h = omega (arith, h.1.le, each_le run h.0 hi es h.2)

pub gather_fresh : {E : Type 0} (run : E → Meaning) (lo hi : ℕ) (es : List E) (R G U : Sites) (calls : Calls) →
    CallsFresh calls → (k : ℕ) (scope : Scope) (xs : List Value) (go : List Value → Place → Outcome) (d : ℕ)
    (st : Place) → EachIn run lo hi es → Off (Within lo hi) G → Stands d st →
    ((xs : List Value) → Steps R G U d (go xs)) →
    Fresh R (Either (Within lo hi) G) (Either (Within lo hi) U) d (moment st) (gather run es calls k scope xs go st)
gather_fresh run lo hi [] R G U calls c k scope xs go d st h o s f =
    fresh_wider R (Either (Within lo hi) G) (Either (Within lo hi) U) (λ n w h. h) (λ n w. inr) (λ n w. inr) (f xs st s)
gather_fresh run lo hi (e ∷ es) R G U calls c k scope xs go d st (mid, p, h) o s f =
    part_value p R (Either (Within mid hi) G) (Either (Within mid hi) U) (Either (Within lo hi) G) (Either (Within lo hi) U) calls c k scope d st (λ x st. gather run es calls k scope (xs ++ x ∷ []) go st)
    (λ n w i. inl (front n w i)) (back G) (λ n w i. inl (front n w i)) (back U) apart s
    (λ x st s. gather_fresh run mid hi es R G U calls c k scope (xs ++ x ∷ []) go d st h (λ n w i g. o n w (within p.le (omega arith) n w i) g) s f)
  where
    front : Sub (Within lo mid) (Within lo hi)
    front = within (omega arith) (each_le run mid hi es h)

    back : (F : Sites) → Sub (Either (Within mid hi) F) (Either (Within lo hi) F)
    back F n w (inl i) = inl (within p.le (omega arith) n w i)
    back F n w (inr g) = inr g

    apart : Off (Within lo mid) (Either (Within mid hi) G)
    apart n w i (inl j) = omega (arith, i.1, j.0)
    apart n w i (inr g) = o n w (front n w i) g

-- ---- literals: they are there before their parts

-- one place, and then from another on
abbrev pub Head : ℕ → ℕ → ℕ → Sites
Head site lo hi n w = (n ≡ site) ⊎ Within lo hi n w

later_head : (site lo mid hi : ℕ) → lo ≤ mid → Sub (Head site mid hi) (Head site lo hi)
later_head site lo mid hi l n w (inl p) = inl p
later_head site lo mid hi l n w (inr i) = inr (within l (omega arith) n w i)

off_head : (site lo mid hi : ℕ) → site < lo → Off (Within lo mid) (Head site mid hi)
off_head site lo mid hi l n w i (inl p) = omega (arith, l, p, i.0)
off_head site lo mid hi l n w i (inr j) = omega (arith, i.1, j.0)

pub elements_fresh : {E : Type 0} (run : E → Meaning) (site lo hi : ℕ) (es : List E) (calls : Calls) → CallsFresh calls →
    (k : ℕ) (scope : Scope) (o d : ℕ) (st : Place) → site < lo → EachIn run lo hi es → Stands d st →
    Fresh nowhere (Head site lo hi) (Within lo hi) d (moment st) (elements run site es calls k scope o st)
elements_fresh run site lo hi [] calls c k scope o d st l h s =
    done_fresh nowhere (Head site lo hi) (Within lo hi) d st (given (object o)) s tt tt
elements_fresh run site lo hi (e ∷ es) calls c k scope o d st l (mid, p, h) s =
    part_value p nowhere (Head site mid hi) (Within mid hi) (Head site lo hi) (Within lo hi) calls c k scope d st (λ x st. written (add_item site st.objects o x) st (elements run site es calls k scope o))
    (λ n w i. inr (within (omega arith) (each_le run mid hi es h) n w i)) (later_head site lo mid hi p.le) (within (omega arith) (each_le run mid hi es h)) (within p.le (omega arith)) (off_head site lo mid hi l) s
    (λ x st s. written_fresh nowhere (only site) (Head site mid hi) (Within mid hi) d (add_item site st.objects o x) st (elements run site es calls k scope o) (item_in site st.objects o x) (item_keeps site st.objects o x) (λ n w. inl) s
    (λ st s. elements_fresh run site mid hi es calls c k scope o d st (omega (arith, l, p.le)) h s))

abbrev pub MembersIn : {E : Type 0} → (E → Meaning) → ℕ → ℕ → List (Member E) → Type 0
MembersIn run lo hi [] = lo ≤ hi
MembersIn run lo hi (m ∷ ms) = (mid : ℕ) × Part lo mid (member_value run m) × MembersIn run mid hi ms

pub members_le : {E : Type 0} (run : E → Meaning) (lo hi : ℕ) (ms : List (Member E)) → MembersIn run lo hi ms → lo ≤ hi
members_le run lo hi [] h = h
members_le run lo hi (m ∷ ms) h = omega (arith, h.1.le, members_le run h.0 hi ms h.2)

pub members_fresh : {E : Type 0} (run : E → Meaning) (site lo hi : ℕ) (ms : List (Member E)) (calls : Calls) →
    CallsFresh calls → (k : ℕ) (scope : Scope) (o d : ℕ) (st : Place) → site < lo → MembersIn run lo hi ms →
    Stands d st → Fresh nowhere (Head site lo hi) (Within lo hi) d (moment st) (members run site ms calls k scope o st)
members_fresh run site lo hi [] calls c k scope o d st l h s =
    done_fresh nowhere (Head site lo hi) (Within lo hi) d st (given (object o)) s tt tt
members_fresh run site lo hi (m ∷ ms) calls c k scope o d st l (mid, p, h) s =
    part_value p nowhere (Head site mid hi) (Within mid hi) (Head site lo hi) (Within lo hi) calls c k scope d st (λ x st. written (add_property site st.objects o (member_key m) x) st (members run site ms calls k scope o))
    (λ n w i. inr (within (omega arith) (members_le run mid hi ms h) n w i)) (later_head site lo mid hi p.le) (within (omega arith) (members_le run mid hi ms h)) (within p.le (omega arith)) (off_head site lo mid hi l) s
    (λ x st s. written_fresh nowhere (only site) (Head site mid hi) (Within mid hi) d (add_property site st.objects o (member_key m) x) st (members run site ms calls k scope o) (property_in site st.objects o (member_key m) x) (property_keeps site st.objects o (member_key m) x) (λ n w. inl) s
    (λ st s. members_fresh run site mid hi ms calls c k scope o d st (omega (arith, l, p.le)) h s))

-- ---- operators

-- an operator on two values, and what goes on behind it
pub apply_value : (R G U H V : Sites) (d : ℕ) (o : BinaryOp) (site : ℕ) (x y : Value) (st : Place)
    (go : Value → Place → Outcome) → Stands d st → Sub (only site) H → Sub G H → Sub (only site) V → Sub U V →
    Off (only site) G → ((x : Value) → Steps R G U d (go x)) →
    Fresh R H V d (moment st) (bind (apply o site x y st) (on_value go))
apply_value R G U H V d o site x y st go s fh gh tv uv off k = here (is_join o x y)
  where
    here : (b : Bool) → Fresh R H V d (moment st) (bind (play (binary_row o site x y) (noted b st)) (on_value go))
    here true =
        row_value (only site) (only site) R G U H V d (binary_row o site x y) (noted true st) go (record { codes = s.codes; within = s.within; few = s.few; less = s.less }) (apart_fits (only site) (binary_row o site x y) (binary_apart o site x y)) fh gh tv uv off k
    here false =
        row_value (only site) (only site) R G U H V d (binary_row o site x y) st go s (apart_fits (only site) (binary_row o site x y) (binary_apart o site x y)) fh gh tv uv off k

abbrev pub LinksIn : {O E : Type 0} → (E → Meaning) → ℕ → ℕ → List (Link O E) → Type 0
LinksIn run lo hi [] = lo ≤ hi
LinksIn run lo hi (l ∷ ls) = (mid : ℕ) × (lo ≤ l.site) × Part (suc l.site) mid (run l.right) × LinksIn run mid hi ls

pub links_le : {O E : Type 0} (run : E → Meaning) (lo hi : ℕ) (ls : List (Link O E)) → LinksIn run lo hi ls → lo ≤ hi
links_le run lo hi [] h = h
links_le run lo hi (l ∷ ls) h = omega (arith, h.1, h.2.le, links_le run h.0 hi ls h.3)

pub links_fresh : {E : Type 0} (run : E → Meaning) (lo hi : ℕ) (ls : List (Link BinaryOp E)) (calls : Calls) →
    CallsFresh calls → (k : ℕ) (scope : Scope) (x : Value) (d : ℕ) (st : Place) → LinksIn run lo hi ls → Stands d st →
    Fresh nowhere (Within lo hi) (Within lo hi) d (moment st) (links run ls calls k scope x st)
links_fresh run lo hi [] calls c k scope x d st h s =
    done_fresh nowhere (Within lo hi) (Within lo hi) d st (given x) s tt tt
links_fresh run lo hi (l ∷ ls) calls c k scope x d st (mid, at, p, h) s =
    count_fresh nowhere (Within lo hi) (Within lo hi) d l.site st (λ st. bind (run l.right calls k scope st) (on_value (λ y st. bind (apply l.op l.site x y st) (on_value (links run ls calls k scope))))) s
    (λ st s. part_value p nowhere (Head l.site mid hi) (Head l.site mid hi) (Within lo hi) (Within lo hi) calls c k scope d st (λ y st. bind (apply l.op l.site x y st) (on_value (links run ls calls k scope)))
    right rest right rest off s
    (λ y st s. apply_value nowhere (Within mid hi) (Within mid hi) (Head l.site mid hi) (Head l.site mid hi) d l.op l.site x y st (links run ls calls k scope) s (λ n w. inl) (λ n w. inr) (λ n w. inl) (λ n w. inr) (λ n w e i. omega (arith, e, p.le, i.0))
    (λ z st s. links_fresh run mid hi ls calls c k scope z d st h s)))
  where
    last : mid ≤ hi
    last = links_le run mid hi ls h

    right : Sub (Within (suc l.site) mid) (Within lo hi)
    right = within (omega (arith, at)) last

    rest : Sub (Head l.site mid hi) (Within lo hi)
    rest n w (inl e) = (omega (arith, at, e), omega (arith, e, p.le, last))
    rest n w (inr i) = within (omega (arith, at, p.le)) (omega arith) n w i

    off : Off (Within (suc l.site) mid) (Head l.site mid hi)
    off n w i (inl e) = omega (arith, i.0, e)
    off n w i (inr j) = omega (arith, i.1, j.0)

decided_fresh : (a b : ℕ) (right : Meaning) (p : Part a b right) (R G U H V : Sites) (calls : Calls) → CallsFresh calls →
    (k : ℕ) (scope : Scope) (d : ℕ) (st : Place) (go : Value → Place → Outcome) (x : Value) (yes : Bool) →
    Sub (Within a b) H → Sub G H → Sub (Within a b) V → Sub U V → Off (Within a b) G → Stands d st →
    ((x : Value) → Steps R G U d (go x)) →
    Fresh R H V d (moment st) (bind (decided yes right x calls k scope st) (on_value go))
decided_fresh a b right p R G U H V calls c k scope d st go x true h gh v uv o s f =
    part_value p R G U H V calls c k scope d st go h gh v uv o s f
decided_fresh a b right p R G U H V calls c k scope d st go x false h gh v uv o s f =
    fresh_wider R H V (λ n w h. h) gh uv (f x st s)

pub logical_fresh : {E : Type 0} (run : E → Meaning) (lo hi : ℕ) (ls : List (Link LogicalOp E)) (calls : Calls) →
    CallsFresh calls → (k : ℕ) (scope : Scope) (x : Value) (d : ℕ) (st : Place) → LinksIn run lo hi ls → Stands d st →
    Fresh nowhere (Within lo hi) (Within lo hi) d (moment st) (logical_links run ls calls k scope x st)
logical_fresh run lo hi [] calls c k scope x d st h s =
    done_fresh nowhere (Within lo hi) (Within lo hi) d st (given x) s tt tt
logical_fresh run lo hi (l ∷ ls) calls c k scope x d st (mid, at, p, h) s =
    count_fresh nowhere (Within lo hi) (Within lo hi) d l.site st (λ st. bind (play (logical_row l.op l.site x) st) (on_value (λ b st.
    bind (decided (goes_on l.op (to_boolean b)) (run l.right) x calls k scope st) (on_value (logical_links run ls calls k scope))))) s
    (λ st s. row_value nowhere nowhere nowhere (Within lo hi) (Within lo hi) (Within lo hi) (Within lo hi) d (logical_row l.op l.site x) st (λ b st. bind (decided (goes_on l.op (to_boolean b)) (run l.right) x calls k scope st) (on_value (logical_links run ls calls k scope))) s
    (apart_fits nowhere (logical_row l.op l.site x) (logical_apart l.op l.site x)) (λ n w h. absurd h) (λ n w h. h) (λ n w h. absurd h) (λ n w h. h) (λ n w h g. h)
    (λ b st s. decided_fresh (suc l.site) mid (run l.right) p nowhere (Within mid hi) (Within mid hi) (Within lo hi) (Within lo hi) calls c k scope d st (logical_links run ls calls k scope) x (goes_on l.op (to_boolean b)) right rest right rest (λ n w i j. omega (arith, i.1, j.0)) s
    (λ z st s. logical_fresh run mid hi ls calls c k scope z d st h s)))
  where
    last : mid ≤ hi
    last = links_le run mid hi ls h

    right : Sub (Within (suc l.site) mid) (Within lo hi)
    right = within (omega (arith, at)) last

    rest : Sub (Within mid hi) (Within lo hi)
    rest = within (omega (arith, at, p.le)) (omega arith)
