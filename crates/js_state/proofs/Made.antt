-- Objects that are made.
use Rattle.std.proofs.Common.{◌≡◌, ◌≤◌, ◌<◌, ◌+◌, ℕ, zero, suc, List, [], ◌∷◌, ◌++◌, map, length, slice_index_or, Option, Some, None, refl, sym, ap, subst, ◌∙◌, arith}
use Rattle.std.proofs.lemmas.Bool.{lt-ltb, le-ltb}
use Rattle.std.proofs.lemmas.List.{length-append}
use Rattle.path_core.specs.declared.path.Why.TheVariants as why
use Rattle.js_heap.specs.declared.class.Class.{Class as Kind}
use Rattle.js_heap.specs.declared.class.Class.TheVariants as kind
use Rattle.js_heap.specs.Contents.{Object as Parts, Heap, bare_object, with_new_object}
use Rattle.term_table.specs.declared.term.Term.{Term}
use Rattle.term_table.specs.Fitting.{Fits, Beside}
use Rattle.term_table.specs.declared.term.TermId.{TermId}
use Rattle.js_state.specs.declared.held.Bound.{Bound}
use Rattle.js_state.specs.declared.held.Supplied.{Supplied}
use Rattle.term_table.specs.declared.shadow.Shadow.{Shadow}
use Rattle.term_table.specs.Views.{View}
use Rattle.js_meaning.specs.Values.{Class, function, Place}
use Rattle.js_meaning.specs.Running.{Outcome, Completion as Ending, stops, done, new_object, leaving, stamped}
use Rattle.js_state.specs.declared.closure.Closure.{Closure}
use Rattle.js_state.specs.Held.{Contents, Held, held_object, class_of, code_at, code_of, no_code}
use Rattle.js_state.specs.Fitting.{Shadows, AllOf, CodeBelow, InObject, InSome, IsSound}
use Rattle.js_state.specs.Seen.{place_of, object_at}
use Rattle.js_state.proofs.Lists.{length_map, map_push, map_same, all_from, all_push}

abbrev pub bare_held : Class → Held
bare_held class = record { class = class; properties = []; items = [] }

pub made : (view : View) (site : ℕ) (class : Class) (st : Contents) (go : ℕ → Place → Outcome) → length st.objects < 1000000 →
    new_object site class (place_of view st) go ≡ go (length st.objects) (place_of view (record st { objects = st.objects ++ bare_held class ∷ [] }))
unfolding new_object
made view site class st go l =
    let b = lt-ltb (length st.objects) 1000000 l in
    rw (length_map (object_at view) st.objects, b)
    (ap (λ os. go (length st.objects) (record (place_of view st) { objects = os })) (sym (map_push (object_at view) st.objects (bare_held class))))

pub full : (view : View) (site : ℕ) (class : Class) (st : Contents) (go : ℕ → Place → Outcome) (e : Ending) → 1000000 ≤ length st.objects →
    e ≡ stops (stamped (place_of view st) (leaving site why.Size)) → new_object site class (place_of view st) go ≡ done (place_of view st) e
unfolding new_object
full view site class st go e l s =
    let b = le-ltb (length st.objects) 1000000 l in
    rw (length_map (object_at view) st.objects, b, s) refl

-- ---- classes, as functions are added

class_alone : (fs : List Closure) (class : Kind) → CodeBelow 0 class → class_of fs class ≡ class_of [] class
class_alone fs kind.Plain h = refl
class_alone fs kind.Array h = refl
class_alone fs kind.Match h = refl
class_alone fs (kind.Function code scope) h = absurd (omega (arith, h))
class_alone fs (kind.Pattern literal) h = refl
class_alone fs (kind.Error name engine) h = refl

pub held_pushed : (fs : List Closure) (os : List (Parts Shadow)) (class : Kind) → CodeBelow 0 class →
    map (held_object fs) (os ++ bare_object class ∷ []) ≡ map (held_object fs) os ++ bare_held (class_of [] class) ∷ []
held_pushed fs os class h =
    map_push (held_object fs) os (bare_object class) ∙ ap (λ k. map (held_object fs) os ++ bare_held k ∷ []) (class_alone fs class h)

index_front : {A : Type 0} (xs : List A) (y d : A) (i : ℕ) → i < length xs → slice_index_or (xs ++ y ∷ []) i d ≡ slice_index_or xs i d
index_front [] y d i l = absurd (omega (arith, l))
index_front (x ∷ xs) y d zero l = refl
index_front (x ∷ xs) y d (suc i) l = index_front xs y d i (omega (arith, l))

index_last : {A : Type 0} (xs : List A) (y d : A) (i : ℕ) → i ≡ length xs → slice_index_or (xs ++ y ∷ []) i d ≡ y
index_last [] y d zero e = refl
index_last [] y d (suc i) e = absurd (omega (arith, e))
index_last (x ∷ xs) y d zero e = absurd (omega (arith, e))
index_last (x ∷ xs) y d (suc i) e = index_last xs y d i (omega (arith, e))

code_front : (fs : List Closure) (f : Closure) (k : ℕ) → k < length fs → code_at (fs ++ f ∷ []) k ≡ code_at fs k
code_front fs f k l =
    ap (λ cs. slice_index_or cs k no_code) (map_push code_of fs f)
    ∙ index_front (map code_of fs) (code_of f) no_code k (rw (length_map code_of fs) l)

code_last : (fs : List Closure) (f : Closure) (k : ℕ) → k ≡ length fs → code_at (fs ++ f ∷ []) k ≡ code_of f
code_last fs f k e =
    ap (λ cs. slice_index_or cs k no_code) (map_push code_of fs f)
    ∙ index_last (map code_of fs) (code_of f) no_code k (e ∙ sym (length_map code_of fs))

class_front : (fs : List Closure) (f : Closure) (class : Kind) → CodeBelow (length fs) class → class_of (fs ++ f ∷ []) class ≡ class_of fs class
class_front fs f kind.Plain h = refl
class_front fs f kind.Array h = refl
class_front fs f kind.Match h = refl
class_front fs f (kind.Function code scope) h = ap (λ c. function c) (code_front fs f code h)
class_front fs f (kind.Pattern literal) h = refl
class_front fs f (kind.Error name engine) h = refl

-- objects stay what they are
pub held_stays : (P : Shadows) (fs : List Closure) (f : Closure) (os : List (Parts Shadow)) → AllOf (InObject P (length fs)) os →
    map (held_object (fs ++ f ∷ [])) os ≡ map (held_object fs) os
held_stays P fs f os h =
    map_same (held_object (fs ++ f ∷ [])) (held_object fs) os
    (all_from os (λ o i. ap (λ c. record { class = c; properties = o.properties; items = o.items }) (class_front fs f o.class i.code)) h)

pub held_function : (P : Shadows) (fs : List Closure) (f : Closure) (os : List (Parts Shadow)) (k scope : ℕ) → k ≡ length fs → AllOf (InObject P (length fs)) os →
    map (held_object (fs ++ f ∷ [])) (os ++ bare_object (kind.Function k scope) ∷ []) ≡ map (held_object fs) os ++ bare_held (function (code_of f)) ∷ []
held_function P fs f os k scope e h =
    map_push (held_object (fs ++ f ∷ [])) os (bare_object (kind.Function k scope))
    ∙ ap (λ hs. hs ++ held_object (fs ++ f ∷ []) (bare_object (kind.Function k scope)) ∷ []) (held_stays P fs f os h)
    ∙ ap (λ c. map (held_object fs) os ++ bare_held (function c) ∷ []) (code_last fs f k e)

below_more : (n m : ℕ) (class : Kind) → n ≤ m → CodeBelow n class → CodeBelow m class
below_more n m kind.Plain l h = tt
below_more n m kind.Array l h = tt
below_more n m kind.Match l h = tt
below_more n m (kind.Function code scope) l h = omega (arith, l, h)
below_more n m (kind.Pattern literal) l h = tt
below_more n m (kind.Error name engine) l h = tt

-- more functions are there
pub objects_more : (P : Shadows) (n m : ℕ) (os : List (Parts Shadow)) → n ≤ m → AllOf (InObject P n) os → AllOf (InObject P m) os
objects_more P n m os l h =
    all_from os (λ o i. record { code = below_more n m o.class l i.code; few = i.few; properties = i.properties; items = i.items }) h

-- a function and its code are added
pub sound_function : (names : List Bound) (fs : List Closure) (f : Closure) (heap : Heap Shadow) (table : List Term) (inputs : List Supplied) (k scope : ℕ) → k ≡ length fs → IsSound names (length fs) heap table inputs →
    IsSound names (length (fs ++ f ∷ [])) (with_new_object heap (kind.Function k scope)) table inputs
sound_function names fs f heap table inputs k scope e s =
    let n : length (fs ++ f ∷ []) ≡ length fs + 1 = length-append fs (f ∷ []) in
    let m : length (heap.objects ++ bare_object (kind.Function k scope) ∷ []) ≡ length heap.objects + 1 = length-append heap.objects (bare_object (kind.Function k scope) ∷ []) in
    record {
      together = s.together;
      few = omega (arith, n, m, s.few);
      cells = s.cells;
      objects = all_push (InObject (Fits table) (length (fs ++ f ∷ []))) heap.objects (bare_object (kind.Function k scope)) (objects_more (Fits table) (length fs) (length (fs ++ f ∷ [])) heap.objects (omega (arith, n)) s.objects) (record { code = omega (arith, n, e); few = omega arith; properties = tt; items = tt });
      inputs = s.inputs;
    }

-- ---- the table grows

fits_more : (old new : List Term) (s : Shadow) → Fits old s → Fits new s
fits_more old new s f = by s.term refl f.term
  where
    by : (t : Option TermId) → s.term ≡ t → Beside old s.plain s.term → Fits new s
    by None e b = record { value = f.value; term = subst (λ t. Beside new s.plain t) (sym e) tt }
    by (Some t) e b = absurd (subst (λ x. Beside old s.plain x) e b)

some_more : (old new : List Term) (v : Option Shadow) → InSome (Fits old) v → InSome (Fits new) v
some_more old new None h = tt
some_more old new (Some s) h = fits_more old new s h

object_more : (old new : List Term) (n : ℕ) (o : Parts Shadow) → InObject (Fits old) n o → InObject (Fits new) n o
object_more old new n o i =
    record { code = i.code; few = i.few; properties = all_from o.properties (λ p f. fits_more old new p.1 f) i.properties; items = all_from o.items (λ s f. fits_more old new s f) i.items }

pub sound_more : (names : List Bound) (n : ℕ) (heap : Heap Shadow) (old new : List Term) (inputs : List Supplied) → IsSound names n heap old inputs → IsSound names n heap new inputs
sound_more names n heap old new inputs s =
    record { together = s.together; few = s.few; cells = all_from heap.cells (λ v f. some_more old new v f) s.cells; objects = all_from heap.objects (λ o i. object_more old new n o i) s.objects; inputs = s.inputs }
