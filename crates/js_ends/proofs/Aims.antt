-- Targets, assignment and steps keep exits apart: what is read and then written at one site fits.
use Rattle.std.proofs.Common.{ℕ, suc, ◌≡◌, ◌≤◌, ◌<◌, ◌⊎◌, inl, inr, Bool, Option, Some, None, refl, sym, subst, arith}
use Rattle.path_core.specs.declared.path.Why.{Why}
use Rattle.path_core.specs.declared.path.Why.TheVariants as why
use Rattle.js_ast.specs.declared.operators.BinaryOp.{BinaryOp}
use Rattle.js_ast.specs.declared.operators.StepOp.{StepOp}
use Rattle.js_ast.specs.declared.parts.Access.TheVariants as access
use Rattle.js_ast.specs.declared.parts.Target.{Target}
use Rattle.js_ast.specs.declared.parts.Target.TheVariants as target
use Rattle.js_meaning.specs.Values.{Text, Value, undefined, Scope, Place}
use Rattle.js_meaning.specs.Running.{Reference, callee, intrinsic, static, method, given, Outcome, done, bind, count, on_value, play}
use Rattle.js_meaning.specs.Builtins.{Calls}
use Rattle.js_meaning.specs.Objects.{get_row, set_row, bracket_row, set_bracket, static_key}
use Rattle.js_meaning.specs.Operators.{step_row}
use Rattle.js_meaning.specs.Parts.{Meaning, Aim, name_aim, property_aim, bracket_aim, aim_property, aim_bracket, aim_access, aim, get_aim, put_aim, plain_assign, compound_assign, assign, apply, step, step_value}
use Rattle.js_meaning.specs.Apart.{Sites, nowhere, only, used_at, read_last, write_first, read_by, written_by}
use Rattle.js_meaning.proofs.RowsApart.{get_fits, bracket_fits, set_apart, set_keeps, step_apart}
use Rattle.js_ends.proofs.Fresh.{moment, Stands, Fresh, Sub, Off, fresh_wider}
use Rattle.js_ends.proofs.Forms.{done_fresh, leaves_fresh, count_fresh, Used, apart_fits}
use Rattle.js_ends.proofs.Binds.{Either, Within, Steps, value_bind, reference_bind, row_value, written_fresh, use_sub}
use Rattle.js_ends.proofs.Names.{read_fresh, put_fresh}
use Rattle.js_ends.proofs.Lists.{CallsFresh, Passing, Part, within, used_within, plain_part, part_value, Head, apply_value}
use Rattle.js_ends.proofs.Chains.{settled_fresh, read_at, AccessIn, access_site, access_within}

-- ---- targets between two places

abbrev pub TargetIn : {E : Type 0} → (E → Meaning) → ℕ → ℕ → Target E → Type 0
TargetIn run lo hi (target.Name name) = (lo ≤ name.site) × (name.site < hi)
TargetIn run lo hi (target.Access base a) = (mid : ℕ) × Part lo mid (run base) × AccessIn run mid hi a

abbrev pub target_site : {E : Type 0} → Target E → ℕ
target_site (target.Name name) = name.site
target_site (target.Access base a) = access_site a

pub target_within : {E : Type 0} (run : E → Meaning) (lo hi : ℕ) (t : Target E) → TargetIn run lo hi t →
    (lo ≤ target_site t) × (target_site t < hi)
target_within run lo hi (target.Name name) h = h
target_within run lo hi (target.Access base a) (mid, p, i) =
    let at = access_within run mid hi a i in (omega (arith, p.le, at.0), at.1)

abbrev pub aim_site : Aim → ℕ
aim_site (name_aim site name) = site
aim_site (property_aim site base name) = site
aim_site (bracket_aim site is_static base y) = site

-- but for the one site
abbrev pub Around : ℕ → ℕ → ℕ → Sites
Around lo hi s n w = Within lo hi n w × (n ≡ s → ⊥)

pub aim_fresh : {E : Type 0} (run : E → Meaning) (lo hi : ℕ) (t : Target E) (R G U : Sites) (calls : Calls) →
    CallsFresh calls → (k : ℕ) (scope : Scope) (go : Aim → Place → Outcome) (d : ℕ) (st : Place) →
    TargetIn run lo hi t → Off (Around lo hi (target_site t)) G → Stands d st →
    ((a : Aim) → aim_site a ≡ target_site t → Steps R G U d (go a)) →
    Fresh R (Either (Within lo hi) G) (Either (Around lo hi (target_site t)) U) d (moment st) (aim run t calls k scope go st)
aim_fresh run lo hi (target.Name name) R G U calls c k scope go d st h o s f =
    count_fresh R (Either (Within lo hi) G) (Either (Around lo hi name.site) U) d name.site st (go (name_aim name.site name.name)) s
    (λ st s. fresh_wider R (Either (Within lo hi) G) (Either (Around lo hi name.site) U) (λ n w h. h) (λ n w. inr) (λ n w. inr) (f (name_aim name.site name.name) refl st s))
aim_fresh run lo hi (target.Access base (access.Property site name)) R G U calls c k scope go d st (mid, p, at) o s f =
    reference_bind R G1 U H V (run base calls k scope st) (aim_access run (access.Property site name) calls k scope go)
    (λ n w i. inl (front n w i)) g1 (λ n w i. inl (front n w i.0, λ e. omega (arith, e, at.0, i.0.1))) (λ n w. inr) off (p.good calls c k scope d st s)
    (λ r u st s. settled_fresh R G1 U d r st (λ st. count site st (λ st. aim_property site name r st go)) (use_sub (Used p.quiet) G1 (used_at r) (λ n w. inl) u) s
    (λ st s. count_fresh R G1 U d site st (λ st. aim_property site name r st go) s (λ st s. property r st s)))
  where
    G1 : Sites
    G1 = Either (Used p.quiet) (Either (Within mid hi) G)

    H : Sites
    H = Either (Within lo hi) G

    V : Sites
    V = Either (Around lo hi site) U

    front : Sub (Within lo mid) (Within lo hi)
    front = within (omega arith) (omega (arith, at.0, at.1))

    g1 : Sub G1 H
    g1 n w (inl u) = inl (front n w (used_within lo mid p.quiet p.inside n w u))
    g1 n w (inr (inl i)) = inl (within p.le (omega arith) n w i)
    g1 n w (inr (inr g)) = inr g

    off : Off (Passing lo mid p.quiet) G1
    off n w i (inl u) = i.1 u
    off n w i (inr (inl j)) = omega (arith, i.0.1, j.0)
    off n w i (inr (inr g)) = o n w (front n w i.0, λ e. omega (arith, e, at.0, i.0.1)) g

    property : (r : Reference) → Steps R G1 U d (λ st. aim_property site name r st go)
    property (callee x this) st s = fresh_wider R G1 U (λ n w h. h) (λ n w g. inr (inr g)) (λ n w h. h) (f (property_aim site x name) refl st s)
    property (intrinsic at' key) st s = leaves_fresh R G1 U d site why.Builtin st (λ g. inr (inl at)) s
    property (static at' key x) st s = leaves_fresh R G1 U d site why.Builtin st (λ g. inr (inl at)) s
    property (method at' x key) st s = leaves_fresh R G1 U d site why.Builtin st (λ g. inr (inl at)) s
aim_fresh run lo hi (target.Access base (access.Index site is_static e)) R G U calls c k scope go d st (mid, p, (at, key)) o s f =
    reference_bind R G1 U1 H V (run base calls k scope st) (aim_access run (access.Index site is_static e) calls k scope go)
    (λ n w i. inl (front n w i)) g1 (λ n w i. inl (front n w i.0, λ e. omega (arith, e, at, i.0.1))) u1 off (p.good calls c k scope d st s)
    (λ r u st s. settled_fresh R G1 U1 d r st (λ st. count site st (λ st. bind (run e calls k scope st) (on_value (λ y st. aim_bracket site is_static r y st go)))) (use_sub (Used p.quiet) G1 (used_at r) (λ n w. inl) u) s
    (λ st s. count_fresh R G1 U1 d site st (λ st. bind (run e calls k scope st) (on_value (λ y st. aim_bracket site is_static r y st go))) s
    (λ st s. part_value key R (Either (only site) G) U G1 U1 calls c k scope d st (λ y st. aim_bracket site is_static r y st go)
    (λ n w i. inr (inl (omega (arith, at, i.0), i.1))) from_key (λ n w i. inl i) (λ n w. inr) key_off s (λ y st s. bracket r y st s))))
  where
    G1 : Sites
    G1 = Either (Used p.quiet) (Either (Within mid hi) G)

    U1 : Sites
    U1 = Either (Within (suc site) hi) U

    H : Sites
    H = Either (Within lo hi) G

    V : Sites
    V = Either (Around lo hi site) U

    front : Sub (Within lo mid) (Within lo hi)
    front = within (omega arith) (omega (arith, at, key.le))

    g1 : Sub G1 H
    g1 n w (inl u) = inl (front n w (used_within lo mid p.quiet p.inside n w u))
    g1 n w (inr (inl i)) = inl (within p.le (omega arith) n w i)
    g1 n w (inr (inr g)) = inr g

    u1 : Sub U1 V
    u1 n w (inl i) = inl (within (omega (arith, p.le, at)) (omega arith) n w i, λ e. omega (arith, e, i.0))
    u1 n w (inr h) = inr h

    off : Off (Passing lo mid p.quiet) G1
    off n w i (inl u) = i.1 u
    off n w i (inr (inl j)) = omega (arith, i.0.1, j.0)
    off n w i (inr (inr g)) = o n w (front n w i.0, λ e. omega (arith, e, at, i.0.1)) g

    from_key : Sub (Either (only site) G) G1
    from_key n w (inl e) = inr (inl (omega (arith, at, e), omega (arith, e, key.le)))
    from_key n w (inr g) = inr (inr g)

    key_off : Off (Within (suc site) hi) (Either (only site) G)
    key_off n w i (inl e) = omega (arith, e, i.0)
    key_off n w i (inr g) = o n w (within (omega (arith, p.le, at)) (omega arith) n w i, λ e. omega (arith, e, i.0)) g

    bracket : (r : Reference) (y : Value) → Steps R (Either (only site) G) U d (λ st. aim_bracket site is_static r y st go)
    bracket (callee x this) y st s = fresh_wider R (Either (only site) G) U (λ n w h. h) (λ n w. inr) (λ n w h. h) (f (bracket_aim site is_static x y) refl st s)
    bracket (intrinsic at' x) y st s = leaves_fresh R (Either (only site) G) U d site why.Builtin st (λ g. inl refl) s
    bracket (static at' x z) y st s = leaves_fresh R (Either (only site) G) U d site why.Builtin st (λ g. inl refl) s
    bracket (method at' x z) y st s = leaves_fresh R (Either (only site) G) U d site why.Builtin st (λ g. inl refl) s

-- ---- reading and writing

-- what a read may pass behind its last event, and where a write may end up to its first one
abbrev pub aim_last : Aim → Sites
aim_last (name_aim site name) = nowhere
aim_last (property_aim site base name) = nowhere
aim_last (bracket_aim site is_static base y) = read_last site is_static y

abbrev pub aim_first : Aim → Sites
aim_first (name_aim site name) = only site
aim_first (property_aim site base name) = only site
aim_first (bracket_aim site is_static base y) = write_first site is_static y

last_only : (a : Aim) → Sub (aim_last a) (only (aim_site a))
last_only (name_aim site name) n w h = absurd h
last_only (property_aim site base name) n w h = absurd h
last_only (bracket_aim site is_static base y) n w h = (read_at site n w (static_key is_static y) h).0

written_at : (site n : ℕ) (w : Why) (o : Option Text) → written_by site o n w → n ≡ site
written_at site n w None h = sym h.0
written_at site n w (Some t) h = sym h

first_only : (a : Aim) → Sub (aim_first a) (only (aim_site a))
first_only (name_aim site name) n w h = h
first_only (property_aim site base name) n w h = h
first_only (bracket_aim site is_static base y) n w h = written_at site n w (static_key is_static y) h

last_off : (a : Aim) → Off (aim_last a) (aim_first a)
last_off (name_aim site name) n w h g = h
last_off (property_aim site base name) n w h g = h
last_off (bracket_aim site is_static base y) n w h g = here (static_key is_static y) h g
  where
    here : (o : Option Text) → read_by site o n w → written_by site o n w → ⊥
    here None h g = g.1 h.1
    here (Some t) h g = h

pub get_value : (R G U H V : Sites) (d : ℕ) (scope : Scope) (a : Aim) (st : Place) (go : Value → Place → Outcome) →
    Stands d st → Sub (only (aim_site a)) H → Sub G H → Sub (aim_last a) V → Sub U V → Off (aim_last a) G →
    ((x : Value) → Steps R G U d (go x)) → Fresh R H V d (moment st) (bind (get_aim scope a st) (on_value go))
get_value R G U H V d scope (name_aim site name) st go s fh gh tv uv o k =
    value_bind R G U H V (read_name_at scope site name st) go fh fh gh tv uv (λ n w t u. t) o (read_fresh (only site) (only site) nowhere d site name scope st refl refl s) k
  where
    read_name_at : Scope → ℕ → Text → Place → Outcome
    read_name_at scope site name st = get_aim scope (name_aim site name) st
get_value R G U H V d scope (property_aim site base name) st go s fh gh tv uv o k =
    row_value (only site) nowhere R G U H V d (get_row site base name st.objects) st go s (get_fits site base name st.objects) fh gh tv uv o k
get_value R G U H V d scope (bracket_aim site is_static base y) st go s fh gh tv uv o k =
    row_value (only site) (read_last site is_static y) R G U H V d (bracket_row site is_static (callee base undefined) y st.objects) st go s (bracket_fits site is_static (callee base undefined) y st.objects) fh gh tv uv o k

IsKey : Why → Type 0
IsKey why.Key = Unit {0}
IsKey _ = ⊥

not_inherited : why.Key ≡ why.Inherited → ⊥
unfolding IsKey
not_inherited p = subst IsKey p tt

key_first : (site : ℕ) (o : Option Text) → written_by site o site why.Key
key_first site None = (refl, not_inherited)
key_first site (Some t) = refl

set_bracket_fresh : (d site : ℕ) (is_static : Bool) (base y x : Value) (st : Place) → Stands d st →
    Fresh nowhere (write_first site is_static y) (only site) d (moment st) (set_bracket site is_static base y x st)
unfolding set_bracket
set_bracket_fresh d site is_static base y x st s =
    leaves_fresh nowhere (write_first site is_static y) (only site) d site why.Key st (λ g. key_first site (static_key is_static y)) s

pub put_aim_fresh : (d : ℕ) (scope : Scope) (a : Aim) (x : Value) (st : Place) → Stands d st →
    Fresh nowhere (aim_first a) (only (aim_site a)) d (moment st) (put_aim scope a x st)
put_aim_fresh d scope (name_aim site name) x st s =
    put_fresh nowhere (only site) (only site) d site name scope x st refl refl s
put_aim_fresh d scope (property_aim site base name) x st s =
    written_fresh nowhere (only site) (only site) (only site) d (set_row site base name x st.objects) st (λ st. done st (given x)) (set_apart site base name x st.objects) (set_keeps site base name x st.objects) (λ n w h. h) s
    (λ st s. done_fresh nowhere (only site) (only site) d st (given x) s tt tt)
put_aim_fresh d scope (bracket_aim site is_static base y) x st s = set_bracket_fresh d site is_static base y x st s

-- ---- assignment: the mark behind the target, and the value behind the mark

put_value : (d mark hi : ℕ) (value : Meaning) → Part (suc mark) hi value → (calls : Calls) → CallsFresh calls → (k : ℕ)
    (scope : Scope) (a : Aim) → aim_site a < mark → (st : Place) → Stands d st →
    Fresh nowhere (Head (aim_site a) mark hi) (Head (aim_site a) mark hi) d (moment st) (bind (value calls k scope st) (on_value (put_aim scope a)))
put_value d mark hi value p calls c k scope a l st s =
    part_value p nowhere (aim_first a) (only (aim_site a)) (Head (aim_site a) mark hi) (Head (aim_site a) mark hi) calls c k scope d st (put_aim scope a)
    (λ n w i. inr (omega (arith, i.0), i.1)) (λ n w h. inl (first_only a n w h)) (λ n w i. inr (omega (arith, i.0), i.1)) (λ n w. inl) (λ n w i h. apart n w i (first_only a n w h)) s
    (λ x st s. put_aim_fresh d scope a x st s)
  where
    apart : (n : ℕ) (w : Why) → Within (suc mark) hi n w → n ≡ aim_site a → ⊥
    apart n w i e = omega (arith, i.0, e, l)

plain_fresh : (d mark hi : ℕ) (value : Meaning) → Part (suc mark) hi value → (calls : Calls) → CallsFresh calls → (k : ℕ)
    (scope : Scope) (a : Aim) → aim_site a < mark → (st : Place) → Stands d st →
    Fresh nowhere (Head (aim_site a) mark hi) (Head (aim_site a) mark hi) d (moment st) (plain_assign value calls k scope a st)
plain_fresh d mark hi value p calls c k scope (name_aim site name) l st s =
    put_value d mark hi value p calls c k scope (name_aim site name) l st s
plain_fresh d mark hi value p calls c k scope (property_aim site base name) l st s =
    put_value d mark hi value p calls c k scope (property_aim site base name) l st s
plain_fresh d mark hi value p calls c k scope (bracket_aim site is_static base y) l st s =
    leaves_fresh nowhere (Head site mark hi) (Head site mark hi) d site why.Key st (λ g. inl refl) s

compound_fresh : (d mark hi : ℕ) (o : BinaryOp) (value : Meaning) → Part (suc mark) hi value → (calls : Calls) →
    CallsFresh calls → (k : ℕ) (scope : Scope) (a : Aim) → aim_site a < mark → (st : Place) → Stands d st →
    Fresh nowhere (Head (aim_site a) mark hi) (Head (aim_site a) mark hi) d (moment st) (compound_assign o mark value calls k scope a st)
compound_fresh d mark hi o value p calls c k scope a l st s =
    get_value nowhere Later All All All d scope a st (λ x st. bind (value calls k scope st) (on_value (λ y st. bind (apply o mark x y st) (on_value (put_aim scope a))))) s
    (λ n w. inl) later_all (λ n w h. inl (last_only a n w h)) (λ n w h. h) read_off
    (λ x st s. part_value p nowhere Mark All Later All calls c k scope d st (λ y st. bind (apply o mark x y st) (on_value (put_aim scope a)))
    (λ n w i. inr (omega (arith, i.0), i.1)) mark_later (λ n w i. inr (omega (arith, i.0), i.1)) (λ n w h. h) value_off s
    (λ y st s. apply_value nowhere (aim_first a) (only (aim_site a)) Mark All d o mark x y st (put_aim scope a) s
    (λ n w. inr) (λ n w. inl) (λ n w e. inr (omega (arith, e), omega (arith, e, p.le))) (λ n w. inl) (λ n w e h. mark_off n w e (first_only a n w h))
    (λ z st s. put_aim_fresh d scope a z st s)))
  where
    All : Sites
    All = Head (aim_site a) mark hi

    -- behind the reading
    Later : Sites
    Later = Either (aim_first a) (Within mark hi)

    Mark : Sites
    Mark = Either (aim_first a) (only mark)

    later_all : Sub Later All
    later_all n w (inl h) = inl (first_only a n w h)
    later_all n w (inr i) = inr i

    mark_later : Sub Mark Later
    mark_later n w (inl h) = inl h
    mark_later n w (inr e) = inr (omega (arith, e), omega (arith, e, p.le))

    off_site : (n : ℕ) → n ≡ aim_site a → mark ≤ n → ⊥
    off_site n e m = omega (arith, e, m, l)

    read_off : Off (aim_last a) Later
    read_off n w h (inl g) = last_off a n w h g
    read_off n w h (inr i) = off_site n (last_only a n w h) i.0

    value_off : Off (Within (suc mark) hi) Mark
    value_off n w i (inl h) = off_site n (first_only a n w h) (omega (arith, i.0))
    value_off n w i (inr e) = omega (arith, i.0, e)

    mark_off : (n : ℕ) (w : Why) → n ≡ mark → n ≡ aim_site a → ⊥
    mark_off n w e f = omega (arith, e, f, l)

assign_fresh : (d mark hi : ℕ) (o : Option BinaryOp) (value : Meaning) → Part (suc mark) hi value → (calls : Calls) →
    CallsFresh calls → (k : ℕ) (scope : Scope) (a : Aim) → aim_site a < mark → (st : Place) → Stands d st →
    Fresh nowhere (Head (aim_site a) mark hi) (Head (aim_site a) mark hi) d (moment st) (assign o mark value calls k scope a st)
assign_fresh d mark hi None value p calls c k scope a l st s = plain_fresh d mark hi value p calls c k scope a l st s
assign_fresh d mark hi (Some o) value p calls c k scope a l st s =
    compound_fresh d mark hi o value p calls c k scope a l st s

pub assign_part : {E : Type 0} (run : E → Meaning) (lo mark hi : ℕ) (t : Target E) (o : Option BinaryOp)
    (value : Meaning) → TargetIn run lo mark t → Part (suc mark) hi value → {m : Meaning} →
    ((calls : Calls) (k : ℕ) (scope : Scope) (st : Place) →
    m calls k scope st ≡ aim run t calls k scope (assign o mark value calls k scope) st) → Part lo hi m
assign_part run lo mark hi t o value h p {m} is =
    plain_part lo hi (omega (arith, at.0, at.1, p.le)) (λ calls c k scope d st s. subst (λ r. Fresh nowhere (Within lo hi) (Within lo hi) d (moment st) r) (sym (is calls k scope st)) (here calls c k scope d st s))
  where
    at : (lo ≤ target_site t) × (target_site t < mark)
    at = target_within run lo mark t h

    all : Sub (Head (target_site t) mark hi) (Within lo hi)
    all n w (inl e) = (omega (arith, e, at.0), omega (arith, e, at.1, p.le))
    all n w (inr i) = (omega (arith, at.0, at.1, i.0), i.1)

    first : Sub (Either (Within lo mark) (Head (target_site t) mark hi)) (Within lo hi)
    first n w (inl i) = (i.0, omega (arith, i.1, p.le))
    first n w (inr h) = all n w h

    last : Sub (Either (Around lo mark (target_site t)) (Head (target_site t) mark hi)) (Within lo hi)
    last n w (inl i) = (i.0.0, omega (arith, i.0.1, p.le))
    last n w (inr h) = all n w h

    off : Off (Around lo mark (target_site t)) (Head (target_site t) mark hi)
    off n w i (inl e) = i.1 e
    off n w i (inr j) = omega (arith, i.0.1, j.0)

    here : (calls : Calls) → CallsFresh calls → (k : ℕ) (scope : Scope) (d : ℕ) → Steps nowhere (Within lo hi) (Within lo hi) d (aim run t calls k scope (assign o mark value calls k scope))
    here calls c k scope d st s =
        fresh_wider nowhere (Within lo hi) (Within lo hi) (λ n w h. h) first last
        (aim_fresh run lo mark t nowhere (Head (target_site t) mark hi) (Head (target_site t) mark hi) calls c k scope (assign o mark value calls k scope) d st h off s
        (λ a e st s. subst (λ n. Fresh nowhere (Head n mark hi) (Head n mark hi) d (moment st) (assign o mark value calls k scope a st)) e
        (assign_fresh d mark hi o value p calls c k scope a (omega (arith, e, at.1)) st s)))

-- ---- `++` and `--`, before the target or behind it

abbrev Two : ℕ → ℕ → Sites
Two s mark n w = (n ≡ s) ⊎ (n ≡ mark)

step_fresh : (d mark : ℕ) (o : StepOp) (is_prefix : Bool) (scope : Scope) (a : Aim) → (aim_site a ≡ mark → ⊥) →
    (st : Place) → Stands d st → Fresh nowhere (Two (aim_site a) mark) (Two (aim_site a) mark) d (moment st) (step o mark is_prefix scope a st)
step_fresh d mark o is_prefix scope a l st s =
    get_value nowhere Mark Both Both Both d scope a st (λ x st. bind (play (step_row o mark x) st) (on_value (λ y st. bind (put_aim scope a y st) (on_value (λ z st. done st (given (step_value is_prefix x z))))))) s
    (λ n w. inl) mark_both (λ n w h. inl (last_only a n w h)) (λ n w h. h) read_off
    (λ x st s. row_value (only mark) (only mark) nowhere (aim_first a) (only (aim_site a)) Mark Both d (step_row o mark x) st (λ y st. bind (put_aim scope a y st) (on_value (λ z st. done st (given (step_value is_prefix x z))))) s
    (apart_fits (only mark) (step_row o mark x) (step_apart o mark x)) (λ n w. inr) (λ n w. inl) (λ n w. inr) (λ n w. inl) (λ n w e h. apart n e (first_only a n w h))
    (λ y st s. value_bind nowhere nowhere nowhere (aim_first a) (only (aim_site a)) (put_aim scope a y st) (λ z st. done st (given (step_value is_prefix x z)))
    (λ n w h. h) (λ n w h. absurd h) (λ n w h. absurd h) (λ n w h. h) (λ n w h. absurd h) (λ n w t h. h) (λ n w t h. h) (put_aim_fresh d scope a y st s)
    (λ z st s. done_fresh nowhere nowhere nowhere d st (given (step_value is_prefix x z)) s tt tt)))
  where
    Both : Sites
    Both = Two (aim_site a) mark

    Mark : Sites
    Mark = Either (aim_first a) (only mark)

    mark_both : Sub Mark Both
    mark_both n w (inl h) = inl (first_only a n w h)
    mark_both n w (inr e) = inr e

    apart : (n : ℕ) → n ≡ mark → n ≡ aim_site a → ⊥
    apart n e f = l (omega (arith, e, f))

    read_off : Off (aim_last a) Mark
    read_off n w h (inl g) = last_off a n w h g
    read_off n w h (inr e) = apart n e (last_only a n w h)

pub step_part : {E : Type 0} (run : E → Meaning) (a b lo mark hi : ℕ) (t : Target E) (o : StepOp) (is_prefix : Bool) →
    TargetIn run a b t → lo ≤ a → b ≤ hi → lo ≤ mark → mark < hi → (mark < a) ⊎ (b ≤ mark) → {m : Meaning} →
    ((calls : Calls) (k : ℕ) (scope : Scope) (st : Place) →
    m calls k scope st ≡ aim run t calls k scope (step o mark is_prefix scope) st) → Part lo hi m
step_part run a b lo mark hi t o is_prefix h la bh lm mh apart {m} is =
    plain_part lo hi (omega (arith, lm, mh)) (λ calls c k scope d st s. subst (λ r. Fresh nowhere (Within lo hi) (Within lo hi) d (moment st) r) (sym (is calls k scope st)) (here calls c k scope d st s))
  where
    at : (a ≤ target_site t) × (target_site t < b)
    at = target_within run a b t h

    outside : (n : ℕ) → a ≤ n → n < b → n ≡ mark → ⊥
    outside n i j e = side apart
      where
        side : (mark < a) ⊎ (b ≤ mark) → ⊥
        side (inl l) = omega (arith, l, i, e)
        side (inr l) = omega (arith, l, j, e)

    all : Sub (Two (target_site t) mark) (Within lo hi)
    all n w (inl e) = (omega (arith, e, at.0, la), omega (arith, e, at.1, bh))
    all n w (inr e) = (omega (arith, e, lm), omega (arith, e, mh))

    first : Sub (Either (Within a b) (Two (target_site t) mark)) (Within lo hi)
    first n w (inl i) = within la bh n w i
    first n w (inr h) = all n w h

    last : Sub (Either (Around a b (target_site t)) (Two (target_site t) mark)) (Within lo hi)
    last n w (inl i) = within la bh n w i.0
    last n w (inr h) = all n w h

    off : Off (Around a b (target_site t)) (Two (target_site t) mark)
    off n w i (inl e) = i.1 e
    off n w i (inr e) = outside n i.0.0 i.0.1 e

    here : (calls : Calls) → CallsFresh calls → (k : ℕ) (scope : Scope) (d : ℕ) → Steps nowhere (Within lo hi) (Within lo hi) d (aim run t calls k scope (step o mark is_prefix scope))
    here calls c k scope d st s =
        fresh_wider nowhere (Within lo hi) (Within lo hi) (λ n w h. h) first last
        (aim_fresh run a b t nowhere (Two (target_site t) mark) (Two (target_site t) mark) calls c k scope (step o mark is_prefix scope) d st h off s
        (λ x e st s. subst (λ n. Fresh nowhere (Two n mark) (Two n mark) d (moment st) (step o mark is_prefix scope x st)) e
        (step_fresh d mark o is_prefix scope x (λ f. outside (target_site t) at.0 at.1 (omega (arith, e, f))) st s)))
