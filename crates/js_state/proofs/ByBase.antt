-- Properties of values, by the kind of the value.
use Rattle.std.proofs.Common.{◌≡◌, ℕ, Err, List, [], refl, sym, ap, ◌∙◌}
use Rattle.path_core.specs.declared.path.ErrorName.TheVariants as kind
use Rattle.term_table.specs.declared.term.Term.{Term}
use Rattle.term_table.specs.declared.shadow.Plain.{Plain}
use Rattle.term_table.specs.declared.shadow.Plain.TheVariants as plain
use Rattle.term_table.specs.declared.shadow.Shadow.{Shadow}
use Rattle.term_table.specs.Fitting.{Fits}
use Rattle.term_table.specs.Views.{View, at, plain_value}
use Rattle.js_ops.proofs.Shown.{at_fit}
use Rattle.js_meaning.specs.Values.{Text, Value, Object}
use Rattle.js_meaning.specs.Running.{raises}
use Rattle.js_meaning.specs.Objects.{get_row, get_own, object_at, other, set_row, set_in, set_leaves}
use Rattle.js_state.specs.declared.shadows.Base.TheVariants as base
use Rattle.js_state.specs.Bases.{IsBase}

nothing_row : (p : Plain) (site : ℕ) (key : Text) (objects : List Object) → IsBase p base.Nothing → get_row site (plain_value p) key objects ≡ ([], raises site kind.TypeError)
unfolding get_row
nothing_row plain.Undefined site key objects h = refl
nothing_row plain.Null site key objects h = refl
nothing_row (plain.Bool b) site key objects h = absurd h
nothing_row (plain.Int n) site key objects h = absurd h
nothing_row plain.NotNumber site key objects h = absurd h
nothing_row (plain.Text t) site key objects h = absurd h
nothing_row (plain.Object o) site key objects h = absurd h

primitive_row : (p : Plain) (site : ℕ) (key : Text) (objects : List Object) → IsBase p base.Primitive → get_row site (plain_value p) key objects ≡ other site (plain_value p) key
unfolding get_row
primitive_row plain.Undefined site key objects h = absurd h
primitive_row plain.Null site key objects h = absurd h
primitive_row (plain.Bool b) site key objects h = refl
primitive_row (plain.Int n) site key objects h = refl
primitive_row plain.NotNumber site key objects h = refl
primitive_row (plain.Text t) site key objects h = absurd h
primitive_row (plain.Object o) site key objects h = absurd h

object_row : (p : Plain) (o site : ℕ) (key : Text) (objects : List Object) → IsBase p (base.Object o) → get_row site (plain_value p) key objects ≡ get_own site o key (object_at objects o)
unfolding get_row
object_row plain.Undefined o site key objects h = absurd h
object_row plain.Null o site key objects h = absurd h
object_row (plain.Bool b) o site key objects h = absurd h
object_row (plain.Int n) o site key objects h = absurd h
object_row plain.NotNumber o site key objects h = absurd h
object_row (plain.Text t) o site key objects h = absurd h
object_row (plain.Object k) o site key objects h = ap (λ n. get_own site n key (object_at objects n)) (sym h)

pub of_nothing : (view : View) (terms : List Term) (s : Shadow) (site : ℕ) (key : Text) (objects : List Object) → Fits terms s → IsBase s.plain base.Nothing → get_row site (at view s) key objects ≡ ([], raises site kind.TypeError)
of_nothing view terms s site key objects f h = ap (λ x. get_row site x key objects) (at_fit view terms s f) ∙ nothing_row s.plain site key objects h

pub of_primitive : (view : View) (terms : List Term) (s : Shadow) (site : ℕ) (key : Text) (objects : List Object) → Fits terms s → IsBase s.plain base.Primitive → get_row site (at view s) key objects ≡ other site (at view s) key
of_primitive view terms s site key objects f h =
    ap (λ x. get_row site x key objects) (at_fit view terms s f) ∙ primitive_row s.plain site key objects h ∙ ap (λ x. other site x key) (sym (at_fit view terms s f))

pub of_object : (view : View) (terms : List Term) (s : Shadow) (o site : ℕ) (key : Text) (objects : List Object) → Fits terms s → IsBase s.plain (base.Object o) → get_row site (at view s) key objects ≡ get_own site o key (object_at objects o)
of_object view terms s o site key objects f h = ap (λ x. get_row site x key objects) (at_fit view terms s f) ∙ object_row s.plain o site key objects h

pub text_of : (p : Plain) (t : _) → IsBase p (base.Text t) → p ≡ plain.Text t.now
text_of plain.Undefined t h = absurd h
text_of plain.Null t h = absurd h
text_of (plain.Bool b) t h = absurd h
text_of (plain.Int n) t h = absurd h
text_of plain.NotNumber t h = absurd h
text_of (plain.Text s) t h = ap (λ (x : Text). plain.Text x) (sym h)
text_of (plain.Object k) t h = absurd h

-- ---- writing

nothing_set : (p : Plain) (site : ℕ) (key : Text) (x : Value) (objects : List Object) → IsBase p base.Nothing → set_row site (plain_value p) key x objects ≡ Err (raises site kind.TypeError)
unfolding set_row
nothing_set plain.Undefined site key x objects h = refl
nothing_set plain.Null site key x objects h = refl
nothing_set (plain.Bool b) site key x objects h = absurd h
nothing_set (plain.Int n) site key x objects h = absurd h
nothing_set plain.NotNumber site key x objects h = absurd h
nothing_set (plain.Text t) site key x objects h = absurd h
nothing_set (plain.Object o) site key x objects h = absurd h

primitive_set : (p : Plain) (site : ℕ) (key : Text) (x : Value) (objects : List Object) → IsBase p base.Primitive → set_row site (plain_value p) key x objects ≡ set_leaves site
unfolding set_row
primitive_set plain.Undefined site key x objects h = absurd h
primitive_set plain.Null site key x objects h = absurd h
primitive_set (plain.Bool b) site key x objects h = refl
primitive_set (plain.Int n) site key x objects h = refl
primitive_set plain.NotNumber site key x objects h = refl
primitive_set (plain.Text t) site key x objects h = absurd h
primitive_set (plain.Object o) site key x objects h = absurd h

object_set : (p : Plain) (o site : ℕ) (key : Text) (x : Value) (objects : List Object) → IsBase p (base.Object o) → set_row site (plain_value p) key x objects ≡ set_in site objects o key x (object_at objects o).class
unfolding set_row
object_set plain.Undefined o site key x objects h = absurd h
object_set plain.Null o site key x objects h = absurd h
object_set (plain.Bool b) o site key x objects h = absurd h
object_set (plain.Int n) o site key x objects h = absurd h
object_set plain.NotNumber o site key x objects h = absurd h
object_set (plain.Text t) o site key x objects h = absurd h
object_set (plain.Object k) o site key x objects h = ap (λ n. set_in site objects n key x (object_at objects n).class) (sym h)

pub sets_nothing : (view : View) (terms : List Term) (s : Shadow) (site : ℕ) (key : Text) (x : Value) (objects : List Object) → Fits terms s → IsBase s.plain base.Nothing → set_row site (at view s) key x objects ≡ Err (raises site kind.TypeError)
sets_nothing view terms s site key x objects f h = ap (λ y. set_row site y key x objects) (at_fit view terms s f) ∙ nothing_set s.plain site key x objects h

pub sets_primitive : (view : View) (terms : List Term) (s : Shadow) (site : ℕ) (key : Text) (x : Value) (objects : List Object) → Fits terms s → IsBase s.plain base.Primitive → set_row site (at view s) key x objects ≡ set_leaves site
sets_primitive view terms s site key x objects f h = ap (λ y. set_row site y key x objects) (at_fit view terms s f) ∙ primitive_set s.plain site key x objects h

pub sets_text : (view : View) (terms : List Term) (s : Shadow) (t : _) (site : ℕ) (key : Text) (x : Value) (objects : List Object) → Fits terms s → IsBase s.plain (base.Text t) → set_row site (at view s) key x objects ≡ set_leaves site
unfolding set_row
sets_text view terms s t site key x objects f h = ap (λ y. set_row site y key x objects) (at_fit view terms s f ∙ ap plain_value (text_of s.plain t h))

pub sets_object : (view : View) (terms : List Term) (s : Shadow) (o site : ℕ) (key : Text) (x : Value) (objects : List Object) → Fits terms s → IsBase s.plain (base.Object o) → set_row site (at view s) key x objects ≡ set_in site objects o key x (object_at objects o).class
sets_object view terms s o site key x objects f h = ap (λ y. set_row site y key x objects) (at_fit view terms s f) ∙ object_set s.plain o site key x objects h
