-- Objects and properties that are looked up, as a view sees them.
use Rattle.std.proofs.Common.{◌≡◌, ℕ, zero, suc, Bool, true, false, List, [], ◌∷◌, map, slice_index_or, slice_get, bytes_eq, Option, Some, refl, sym, ap, subst, ◌∙◌, arith}
use Rattle.std.specs.Option.{option_map}
use Rattle.std.specs.Map.{lookup}
use Rattle.term_table.specs.declared.shadow.Shadow.{Shadow}
use Rattle.term_table.specs.Views.{View, at}
use Rattle.js_heap.specs.declared.class.Class.TheVariants.{Plain}
use Rattle.js_heap.specs.Contents.{Object as Parts, bare_object}
use Rattle.js_meaning.specs.Values.{Text}
use Rattle.js_meaning.specs.Loops.{item_at}
use Rattle.js_meaning.specs.Objects.{look_up, object_at as object_in}
use Rattle.js_state.specs.declared.closure.Closure.{Closure}
use Rattle.js_state.specs.Held.{Contents, Held, held_object}
use Rattle.js_state.specs.Fitting.{Shadows, AllOf, InProperty, InSome, InObject}
use Rattle.js_state.specs.Seen.{object_at, property_at}
use Rattle.js_state.specs.Properties.{bare, held_at}
use Rattle.js_state.proofs.Lists.{map_get, all_get}

pub index_map : {A B : Type 0} (f : A → B) (xs : List A) (k : ℕ) (d : A) → slice_index_or (map f xs) k (f d) ≡ f (slice_index_or xs k d)
index_map f [] k d = refl
index_map f (x ∷ xs) zero d = refl
index_map f (x ∷ xs) (suc k) d = index_map f xs k d

-- the object with a number
pub seen_object : (view : View) (hs : List Held) (k : ℕ) → object_in (map (object_at view) hs) k ≡ object_at view (slice_index_or hs k bare)
seen_object view hs k = index_map (object_at view) hs k bare

pub held_index : (fs : List Closure) (os : List (Parts Shadow)) (k : ℕ) → slice_index_or (map (held_object fs) os) k bare ≡ held_object fs (slice_index_or os k (bare_object Plain))
held_index fs os k = index_map (held_object fs) os k (bare_object Plain)

seen_held : (view : View) (fs : List Closure) (os : List (Parts Shadow)) (k : ℕ) → object_in (map (object_at view) (map (held_object fs) os)) k ≡ object_at view (held_object fs (slice_index_or os k (bare_object Plain)))
seen_held view fs os k = seen_object view (map (held_object fs) os) k ∙ ap (object_at view) (held_index fs os k)

-- ---- properties

pub looks : (view : View) (key : Text) (ps : List (Text × Shadow)) → look_up key (map (property_at view) ps) ≡ option_map (at view) (lookup (bytes_eq key) ps)
looks view key [] = refl
looks view key (p ∷ ps) = by (bytes_eq key p.0) refl (looks view key ps)
  where
    by : (b : Bool) → bytes_eq key p.0 ≡ b → look_up key (map (property_at view) ps) ≡ option_map (at view) (lookup (bytes_eq key) ps) → look_up key (map (property_at view) (p ∷ ps)) ≡ option_map (at view) (lookup (bytes_eq key) (p ∷ ps))
    by true e h = rw e refl
    by false e h = rw e h

pub look_fits : (P : Shadows) (key : Text) (ps : List (Text × Shadow)) → AllOf (InProperty P) ps → InSome P (lookup (bytes_eq key) ps)
look_fits P key [] h = tt
look_fits P key (p ∷ ps) h = by (bytes_eq key p.0) refl (look_fits P key ps h.1)
  where
    by : (b : Bool) → bytes_eq key p.0 ≡ b → InSome P (lookup (bytes_eq key) ps) → InSome P (lookup (bytes_eq key) (p ∷ ps))
    by true e k = rw e h.0
    by false e k = rw e k

pub own_looks : (view : View) (fs : List Closure) (os : List (Parts Shadow)) (k : ℕ) (key : Text) →
    look_up key (object_in (map (object_at view) (map (held_object fs) os)) k).properties ≡ option_map (at view) (lookup (bytes_eq key) (slice_index_or os k (bare_object Plain)).properties)
own_looks view fs os k key =
    ap (λ o. look_up key o.properties) (seen_held view fs os k) ∙ looks view key (slice_index_or os k (bare_object Plain)).properties

pub item_looks : (view : View) (fs : List Closure) (os : List (Parts Shadow)) (k i : ℕ) →
    item_at (map (object_at view) (map (held_object fs) os)) k i ≡ option_map (at view) (slice_get (slice_index_or os k (bare_object Plain)).items i)
item_looks view fs os k i =
    ap (λ o. slice_get o.items i) (seen_held view fs os k) ∙ map_get (at view) (slice_index_or os k (bare_object Plain)).items i

pub bare_fits : (P : Shadows) (codes : ℕ) → InObject P codes (bare_object Plain)
bare_fits P codes = record { code = tt; few = omega arith; properties = tt; items = tt }

pub found_fits : (P : Shadows) (o : Option Shadow) (x : Shadow) → Some x ≡ o → InSome P o → P x
found_fits P o x e h = subst (InSome P) (sym e) h

pub item_fits : (P : Shadows) (xs : List Shadow) (i : ℕ) (x : Shadow) → Some x ≡ slice_get xs i → AllOf P xs → P x
item_fits P xs i x e h = all_get P xs i x h (sym e)

pub own_class : (view : View) (st : Contents) (o : ℕ) → (object_in (map (object_at view) st.objects) o).class ≡ (held_at st o).class
own_class view st o = ap (λ ob. ob.class) (seen_object view st.objects o)
