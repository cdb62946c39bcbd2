-- What goes on behind a part keeps exits apart: with its value, with its reference, or behind a statement.
use Rattle.std.proofs.Common.{ℕ, ◌≡◌, ◌≤◌, ◌<◌, ◌⊎◌, inl, inr, Bool, List, [], ◌∷◌, Option, Some, None, Ok, Err, All, refl, sym, subst, arith}
use Rattle.std.proofs.lemmas.List.Elements.{All-map, All-nil, All-cons, All-head, All-tail}
use Rattle.path_core.specs.declared.path.Why.TheVariants as why
use Rattle.js_meaning.specs.Values.{Value, undefined, Object, Place}
use Rattle.js_meaning.specs.Running.{Reference, callee, intrinsic, static, method, Answer, gives, comes_to, raises, ends, Row, Completion, given, refers, normal, breaks, continues, returns, throws, stops, Outcome, bind, on_value, on_reference, on_normal, play}
use Rattle.js_meaning.specs.Conversions.{to_boolean}
use Rattle.js_meaning.specs.Objects.{Written, written}
use Rattle.js_meaning.specs.Operators.{test_row}
use Rattle.js_meaning.specs.Parts.{branch}
use Rattle.js_meaning.specs.Apart.{Sites, nowhere, used_at, UseIn, UsesIn, RowFits, WrittenIn, WrittenKeeps, classes, IsNoReference}
use Rattle.js_meaning.proofs.RowsApart.{test_apart}
use Rattle.js_ends.proofs.Fresh.{moment, GoesOn, Waits, SoundClass, SoundObject, Stands, Fresh, Sub, Off, fresh_wider, fresh_bind}
use Rattle.js_ends.proofs.Forms.{done_fresh, leaves_fresh, answer_fresh, Used, used_by, Less, play_fits, apart_fits}

abbrev pub Either : Sites → Sites → Sites
Either F G n w = F n w ⊎ G n w

-- sites from one place to another
abbrev pub Within : ℕ → ℕ → Sites
Within lo hi n w = (lo ≤ n) × (n < hi)

-- a place's step, wherever it is begun with so many activations
abbrev pub Steps : Sites → Sites → Sites → ℕ → (Place → Outcome) → Type 0
Steps Q F T d go = (st : Place) → Stands d st → Fresh Q F T d (moment st) (go st)

-- ---- with a value

goes_value : (Q R G U : Sites) (d : ℕ) (go : Value → Place → Outcome) → ((x : Value) → Steps R G U d (go x)) →
    (st : Place) (c : Completion) → GoesOn c → Waits Q c → Stands d st →
    Fresh R (Either Q G) U d (moment st) (on_value go st c)
goes_value Q R G U d go k st (stops x) g w s = absurd g
goes_value Q R G U d go k st (given x) g w s =
    fresh_wider R (Either Q G) U (λ n w h. h) (λ n w. inr) (λ n w h. h) (k x st s)
goes_value Q R G U d go k st (refers (callee x this)) g w s =
    fresh_wider R (Either Q G) U (λ n w h. h) (λ n w. inr) (λ n w h. h) (k x st s)
goes_value Q R G U d go k st (refers (intrinsic at name)) g w s =
    leaves_fresh R (Either Q G) U d at why.Builtin st (λ g. inl w) s
goes_value Q R G U d go k st (refers (static at name key)) g w s =
    leaves_fresh R (Either Q G) U d at why.Builtin st (λ g. inl w) s
goes_value Q R G U d go k st (refers (method at base name)) g w s =
    leaves_fresh R (Either Q G) U d at why.Builtin st (λ g. inl w) s
goes_value Q R G U d go k st normal g w s = done_fresh R (Either Q G) U d st normal s tt tt
goes_value Q R G U d go k st breaks g w s = done_fresh R (Either Q G) U d st breaks s tt tt
goes_value Q R G U d go k st continues g w s = done_fresh R (Either Q G) U d st continues s tt tt
goes_value Q R G U d go k st (returns x) g w s = done_fresh R (Either Q G) U d st (returns x) s tt tt
goes_value Q R G U d go k st (throws site x) g w s = done_fresh R (Either Q G) U d st (throws site x) s tt tt

either : {F G H : Sites} → Sub F H → Sub G H → Sub (Either F G) H
either f g n w (inl h) = f n w h
either f g n w (inr h) = g n w h

off_either : {T F G : Sites} → Off T F → Off T G → Off T (Either F G)
off_either f g n w t (inl h) = f n w t h
off_either f g n w t (inr h) = g n w t h

pub value_bind : {Q F T : Sites} (R G U H V : Sites) {d m : ℕ} (r : Outcome) (go : Value → Place → Outcome) → Sub F H →
    Sub Q H → Sub G H → Sub T V → Sub U V → Off T Q → Off T G → Fresh Q F T d m r →
    ((x : Value) → Steps R G U d (go x)) → Fresh R H V d m (bind r (on_value go))
value_bind {Q} {F} {T} R G U H V {d} {m} r go fh qh gh tv uv q o h k =
    fresh_bind R (Either Q G) U H V r (on_value go) fh (either qh gh) tv uv (off_either q o) (omega arith) (λ st x. refl) h (goes_value Q R G U d go k)

-- ---- with a reference

goes_reference : (Q R G U : Sites) (d : ℕ) (go : Reference → Place → Outcome) →
    ((r : Reference) → UseIn Q (used_at r) → Steps R G U d (go r)) → (st : Place) (c : Completion) → GoesOn c →
    Waits Q c → Stands d st → Fresh R G U d (moment st) (on_reference go st c)
goes_reference Q R G U d go k st (stops x) g w s = absurd g
goes_reference Q R G U d go k st (given x) g w s = k (callee x undefined) tt st s
goes_reference Q R G U d go k st (refers r) g w s = k r w st s
goes_reference Q R G U d go k st normal g w s = done_fresh R G U d st normal s tt tt
goes_reference Q R G U d go k st breaks g w s = done_fresh R G U d st breaks s tt tt
goes_reference Q R G U d go k st continues g w s = done_fresh R G U d st continues s tt tt
goes_reference Q R G U d go k st (returns x) g w s = done_fresh R G U d st (returns x) s tt tt
goes_reference Q R G U d go k st (throws site x) g w s = done_fresh R G U d st (throws site x) s tt tt

pub reference_bind : {Q F T : Sites} (R G U H V : Sites) {d m : ℕ} (r : Outcome) (go : Reference → Place → Outcome) →
    Sub F H → Sub G H → Sub T V → Sub U V → Off T G → Fresh Q F T d m r →
    ((r : Reference) → UseIn Q (used_at r) → Steps R G U d (go r)) → Fresh R H V d m (bind r (on_reference go))
reference_bind {Q} {F} {T} R G U H V {d} {m} r go fh gh tv uv o h k =
    fresh_bind R G U H V r (on_reference go) fh gh tv uv o (omega arith) (λ st x. refl) h (goes_reference Q R G U d go k)

-- ---- behind a statement

goes_normal : (G U : Sites) (d : ℕ) (go : Place → Outcome) → Steps nowhere G U d go → (st : Place) (c : Completion) →
    GoesOn c → Waits nowhere c → Stands d st → Fresh nowhere G U d (moment st) (on_normal go st c)
goes_normal G U d go k st (stops x) g w s = absurd g
goes_normal G U d go k st (given x) g w s = done_fresh nowhere G U d st (given x) s tt tt
goes_normal G U d go k st (refers r) g w s = done_fresh nowhere G U d st (refers r) s tt w
goes_normal G U d go k st normal g w s = k st s
goes_normal G U d go k st breaks g w s = done_fresh nowhere G U d st breaks s tt tt
goes_normal G U d go k st continues g w s = done_fresh nowhere G U d st continues s tt tt
goes_normal G U d go k st (returns x) g w s = done_fresh nowhere G U d st (returns x) s tt tt
goes_normal G U d go k st (throws site x) g w s = done_fresh nowhere G U d st (throws site x) s tt tt

pub normal_bind : {F T : Sites} (G U H V : Sites) {d m : ℕ} (r : Outcome) (go : Place → Outcome) → Sub F H → Sub G H →
    Sub T V → Sub U V → Off T G → Fresh nowhere F T d m r → Steps nowhere G U d go →
    Fresh nowhere H V d m (bind r (on_normal go))
normal_bind {F} {T} G U H V {d} {m} r go fh gh tv uv o h k =
    fresh_bind nowhere G U H V r (on_normal go) fh gh tv uv o (omega arith) (λ st x. refl) h (goes_normal G U d go k)

-- ---- behind a row

pub uses_sub : (F : Sites) (a : Answer) → UsesIn F a → Sub (Used (used_by a)) F
uses_sub F (gives x) h n w u = absurd u
uses_sub F (raises site name) h n w u = absurd u
uses_sub F (ends x) h n w u = absurd u
uses_sub F (comes_to r) h n w u = at_use (used_at r) h u
  where
    at_use : (o : Option ℕ) → UseIn F o → Used o n w → F n w
    at_use None h u = absurd u
    at_use (Some at) h u = subst (λ n. F n w) u.0 (subst (λ w. F at w) (sym u.1) h)

pub row_value : (F T R G U H V : Sites) (d : ℕ) (row : Row) (st : Place) (go : Value → Place → Outcome) → Stands d st →
    RowFits F T row → Sub F H → Sub G H → Sub T V → Sub U V → Off T G → ((x : Value) → Steps R G U d (go x)) →
    Fresh R H V d (moment st) (bind (play row st) (on_value go))
row_value F T R G U H V d row st go s f fh gh tv uv o k =
    value_bind R G U H V (play row st) go fh (λ n w u. fh n w (uses_sub F row.1 f.uses n w u)) gh (λ n w h. tv n w h.0) uv (λ n w h u. h.1 u) (λ n w h g. o n w h.0 g) (play_fits F T d row st s f) k

pub use_sub : (Q F : Sites) (o : Option ℕ) → Sub Q F → UseIn Q o → UseIn F o
use_sub Q F None s h = tt
use_sub Q F (Some at) s h = s at why.Builtin h

pub row_reference : (F T R G U H V : Sites) (d : ℕ) (row : Row) (st : Place) (go : Reference → Place → Outcome) →
    Stands d st → RowFits F T row → Sub F H → Sub G H → Sub T V → Sub U V → Off T G →
    ((r : Reference) → UseIn F (used_at r) → Steps R G U d (go r)) →
    Fresh R H V d (moment st) (bind (play row st) (on_reference go))
row_reference F T R G U H V d row st go s f fh gh tv uv o k =
    reference_bind R G U H V (play row st) go fh gh (λ n w h. tv n w h.0) uv (λ n w h g. o n w h.0 g) (play_fits F T d row st s f)
    (λ r u. k r (use_sub (Used (used_by row.1)) F (used_at r) (uses_sub F row.1 f.uses) u))

no_use : (a : Answer) → IsNoReference a → used_by a ≡ None
no_use (gives x) h = refl
no_use (comes_to r) h = absurd h
no_use (raises site name) h = refl
no_use (ends x) h = refl

less_sub : (T Q : Sites) → Sub (Less T Q) T
less_sub T Q n w h = h.0

-- a row that comes to no reference, with nothing behind it
pub row_alone : (F T : Sites) (d : ℕ) (row : Row) (st : Place) → Stands d st → RowFits F T row → IsNoReference row.1 →
    Fresh nowhere F T d (moment st) (play row st)
row_alone F T d row st s f n =
    let k : Fresh (Used (used_by row.1)) F T d (moment st) (play row st) = fresh_wider (Used (used_by row.1)) F T (λ n w h. h) (λ n w h. h) (less_sub T (Used (used_by row.1))) (play_fits F T d row st s f) in
    fresh_wider nowhere F T (λ n w u. none n w u) (λ n w h. h) (λ n w h. h) (subst (λ o. Fresh (Used o) F T d (moment st) (play row st)) (no_use row.1 n) k)
  where
    none : Sub (Used None) nowhere
    none n w u = u

pub branch_fresh : (R F T : Sites) (d site : ℕ) (x : Value) (st : Place) (go : Bool → Place → Outcome) → Stands d st →
    ((b : Bool) → Steps R F T d (go b)) → Fresh R F T d (moment st) (branch site x st go)
branch_fresh R F T d site x st go s k =
    row_value nowhere nowhere R F T F T d (test_row site x) st (λ b st. go (to_boolean b) st) s (apart_fits nowhere (test_row site x) (test_apart site x)) (λ n w h. absurd h) (λ n w h. h) (λ n w h. absurd h) (λ n w h. h) (λ n w h g. h) (λ b. k (to_boolean b))

-- ---- writes

sound_classes : (objects : List Object) → All SoundObject objects → All SoundClass (classes objects)
sound_classes objects h = All-map SoundClass (λ (o : Object). o.class) objects h

classes_sound : (objects : List Object) → All SoundClass (classes objects) → All SoundObject objects
classes_sound [] h = All-nil SoundObject
classes_sound (o ∷ os) h =
    All-cons SoundObject o os (All-head SoundClass o.class (classes os) h) (classes_sound os (All-tail SoundClass o.class (classes os) h))

pub written_fresh : (Q F G U : Sites) (d : ℕ) (w : Written) (st : Place) (go : Place → Outcome) → WrittenIn F w →
    WrittenKeeps st.objects w → Sub F G → Stands d st → Steps Q G U d go →
    Fresh Q G U d (moment st) (written w st go)
written_fresh Q F G U d (Ok objects) st go h e f s k =
    k (record st { objects = objects }) (record { codes = classes_sound objects (subst (All SoundClass) (sym e) (sound_classes st.objects s.codes)); within = s.within; few = s.few; less = s.less })
written_fresh Q F G U d (Err a) st go h e f s k =
    fresh_wider Q G U (none (used_by a) (no_use a e)) f (λ n w h. h) (answer_fresh F U d a st h s)
  where
    none : (o : Option ℕ) → o ≡ None → Sub (Used o) Q
    none None p n w u = absurd u
    none (Some at) p n w u = absurd (subst (λ (o : Option ℕ). IsSomeOf o) p tt)
      where
        IsSomeOf : Option ℕ → Type 0
        IsSomeOf None = ⊥
        IsSomeOf (Some x) = Unit {0}
