-- Properties and items that are written, as a view sees them.
use Rattle.std.proofs.Common.{◌≡◌, ◌≤◌, ◌<◌, ◌+◌, ℕ, Bool, true, false, nat_lt, ◌||◌, List, [], ◌∷◌, ◌++◌, map, length, slice_index_or, slice_set, bytes_eq, is_some, refl, sym, ap, ◌∙◌, arith}
use Rattle.std.proofs.lemmas.List.{length-append}
use Rattle.std.proofs.lemmas.Bool.{lt-ltb, le-ltb}
use Rattle.indexmap.specs.IndexMap.{insert_entry}
use Rattle.path_core.specs.declared.path.Why.TheVariants as why
use Rattle.term_table.specs.declared.term.Term.{Term}
use Rattle.term_table.specs.declared.shadow.Shadow.{Shadow}
use Rattle.term_table.specs.Fitting.{Fits}
use Rattle.term_table.specs.Views.{View, at}
use Rattle.js_heap.specs.declared.class.Class.TheVariants.{Plain}
use Rattle.js_heap.specs.Contents.{Object as Parts, Heap, bare_object, with_properties, with_items}
use Rattle.js_meaning.specs.Values.{Text, Value, Place}
use Rattle.js_meaning.specs.Running.{Outcome, Completion as Ending, stops, done, leaving, stamped}
use Rattle.js_meaning.specs.Objects.{look_up, put, object_at as object_in, with_property, with_item, written, add_property, add_item}
use Rattle.js_state.specs.declared.closure.Closure.{Closure}
use Rattle.js_state.specs.declared.held.Bound.{Bound}
use Rattle.js_state.specs.declared.held.Supplied.{Supplied}
use Rattle.js_state.specs.Held.{Contents, held_object}
use Rattle.js_state.specs.Fitting.{Shadows, AllOf, InProperty, InObject, IsSound}
use Rattle.js_state.specs.Seen.{place_of, object_at, property_at}
use Rattle.js_state.specs.Properties.{held_at}
use Rattle.js_state.proofs.Lists.{map_push, map_set, length_map, length_set, all_push, all_set, all_or}
use Rattle.js_state.proofs.Looked.{seen_object, held_index, bare_fits}

-- ---- one property

put_seen : (view : View) (key : Text) (x : Shadow) (ps : List (Text × Shadow)) → map (property_at view) (insert_entry bytes_eq ps key x) ≡ put (map (property_at view) ps) key (at view x)
put_seen view key x [] = refl
put_seen view key x (p ∷ ps) = by (bytes_eq key p.0) refl (put_seen view key x ps)
  where
    by : (b : Bool) → bytes_eq key p.0 ≡ b → map (property_at view) (insert_entry bytes_eq ps key x) ≡ put (map (property_at view) ps) key (at view x) → map (property_at view) (insert_entry bytes_eq (p ∷ ps) key x) ≡ put (map (property_at view) (p ∷ ps)) key (at view x)
    by true e h = rw e refl
    by false e h = rw e (ap (λ qs. property_at view p ∷ qs) h)

put_fits : (P : Shadows) (key : Text) (x : Shadow) (ps : List (Text × Shadow)) → AllOf (InProperty P) ps → P x → AllOf (InProperty P) (insert_entry bytes_eq ps key x)
put_fits P key x [] h f = (f, tt)
put_fits P key x (p ∷ ps) h f = by (bytes_eq key p.0) refl (put_fits P key x ps h.1 f)
  where
    by : (b : Bool) → bytes_eq key p.0 ≡ b → AllOf (InProperty P) (insert_entry bytes_eq ps key x) → AllOf (InProperty P) (insert_entry bytes_eq (p ∷ ps) key x)
    by true e k = rw e (f, h.1)
    by false e k = rw e (h.0, k)

-- ---- an object in its place

placed : (view : View) (fs : List Closure) (os : List (Parts Shadow)) (k : ℕ) (o : Parts Shadow) →
    map (object_at view) (map (held_object fs) (slice_set os k o)) ≡ slice_set (map (object_at view) (map (held_object fs) os)) k (object_at view (held_object fs o))
placed view fs os k o =
    ap (map (object_at view)) (map_set (held_object fs) os k o) ∙ map_set (object_at view) (map (held_object fs) os) k (held_object fs o)

pub seen_at_number : (view : View) (fs : List Closure) (os : List (Parts Shadow)) (k : ℕ) → object_in (map (object_at view) (map (held_object fs) os)) k ≡ object_at view (held_object fs (slice_index_or os k (bare_object Plain)))
seen_at_number view fs os k = seen_object view (map (held_object fs) os) k ∙ ap (object_at view) (held_index fs os k)

pub stored : (view : View) (fs : List Closure) (heap : Heap Shadow) (k : ℕ) (key : Text) (x : Shadow) →
    map (object_at view) (map (held_object fs) (with_properties heap k (insert_entry bytes_eq (slice_index_or heap.objects k (bare_object Plain)).properties key x)).objects) ≡ with_property (map (object_at view) (map (held_object fs) heap.objects)) k key (at view x)
stored view fs heap k key x =
    let ob = slice_index_or heap.objects k (bare_object Plain) in
    let e = seen_at_number view fs heap.objects k in
    placed view fs heap.objects k (record ob { properties = insert_entry bytes_eq ob.properties key x })
    ∙ ap (λ ps. slice_set (map (object_at view) (map (held_object fs) heap.objects)) k (record (object_at view (held_object fs ob)) { properties = ps })) (put_seen view key x ob.properties)
    ∙ ap (λ o. slice_set (map (object_at view) (map (held_object fs) heap.objects)) k (record o { properties = put o.properties key (at view x) })) (sym e)

pub pushed : (view : View) (fs : List Closure) (heap : Heap Shadow) (k : ℕ) (x : Shadow) →
    map (object_at view) (map (held_object fs) (with_items heap k ((slice_index_or heap.objects k (bare_object Plain)).items ++ x ∷ [])).objects) ≡ with_item (map (object_at view) (map (held_object fs) heap.objects)) k (at view x)
pushed view fs heap k x =
    let ob = slice_index_or heap.objects k (bare_object Plain) in
    let e = seen_at_number view fs heap.objects k in
    placed view fs heap.objects k (record ob { items = ob.items ++ x ∷ [] })
    ∙ ap (λ is. slice_set (map (object_at view) (map (held_object fs) heap.objects)) k (record (object_at view (held_object fs ob)) { items = is })) (map_push (at view) ob.items x)
    ∙ ap (λ o. slice_set (map (object_at view) (map (held_object fs) heap.objects)) k (record o { items = o.items ++ at view x ∷ [] })) (sym e)

-- ---- the state stays sound

pub sound_stored : (names : List Bound) (n : ℕ) (heap : Heap Shadow) (table : List Term) (inputs : List Supplied) (k : ℕ) (key : Text) (x : Shadow) → IsSound names n heap table inputs → Fits table x →
    IsSound names n (with_properties heap k (insert_entry bytes_eq (slice_index_or heap.objects k (bare_object Plain)).properties key x)) table inputs
sound_stored names n heap table inputs k key x s f =
    let ob = slice_index_or heap.objects k (bare_object Plain) in
    let i = all_or (InObject (Fits table) n) heap.objects k (bare_object Plain) s.objects (bare_fits (Fits table) n) in
    record {
      together = s.together;
      few = rw (length_set heap.objects k (record ob { properties = insert_entry bytes_eq ob.properties key x })) s.few;
      cells = s.cells;
      objects = all_set (InObject (Fits table) n) heap.objects k (record ob { properties = insert_entry bytes_eq ob.properties key x }) s.objects (record { code = i.code; few = i.few; properties = put_fits (Fits table) key x ob.properties i.properties f; items = i.items });
      inputs = s.inputs;
    }

pub sound_pushed : (names : List Bound) (n : ℕ) (heap : Heap Shadow) (table : List Term) (inputs : List Supplied) (k : ℕ) (x : Shadow) → IsSound names n heap table inputs → Fits table x → length (slice_index_or heap.objects k (bare_object Plain)).items < 65536 →
    IsSound names n (with_items heap k ((slice_index_or heap.objects k (bare_object Plain)).items ++ x ∷ [])) table inputs
sound_pushed names n heap table inputs k x s f l =
    let ob = slice_index_or heap.objects k (bare_object Plain) in
    let i = all_or (InObject (Fits table) n) heap.objects k (bare_object Plain) s.objects (bare_fits (Fits table) n) in
    let m : length (ob.items ++ x ∷ []) ≡ length ob.items + 1 = length-append ob.items (x ∷ []) in
    record {
      together = s.together;
      few = rw (length_set heap.objects k (record ob { items = ob.items ++ x ∷ [] })) s.few;
      cells = s.cells;
      objects = all_set (InObject (Fits table) n) heap.objects k (record ob { items = ob.items ++ x ∷ [] }) s.objects (record { code = i.code; few = omega (arith, m, l); properties = i.properties; items = all_push (Fits table) ob.items x i.items f });
      inputs = s.inputs;
    }

-- ---- room

pub own_count : (view : View) (fs : List Closure) (os : List (Parts Shadow)) (k : ℕ) →
    length (object_in (map (object_at view) (map (held_object fs) os)) k).properties ≡ length (slice_index_or os k (bare_object Plain)).properties
own_count view fs os k = ap (λ o. length o.properties) (seen_at_number view fs os k) ∙ length_map (property_at view) (slice_index_or os k (bare_object Plain)).properties

pub room_kept : (view : View) (st : Contents) (site k : ℕ) (key : Text) (x : Value) (go : Place → Outcome) →
    true ≡ (is_some (look_up key (object_in (place_of view st).objects k).properties) || nat_lt (length (object_in (place_of view st).objects k).properties) 65536) →
    written (add_property site (place_of view st).objects k key x) (place_of view st) go ≡ go (record (place_of view st) { objects = with_property (place_of view st).objects k key x })
room_kept view st site k key x go h = rw (← h) refl

pub room_gone : (view : View) (st : Contents) (site k : ℕ) (key : Text) (x : Value) (go : Place → Outcome) (e : Ending) →
    false ≡ (is_some (look_up key (object_in (place_of view st).objects k).properties) || nat_lt (length (object_in (place_of view st).objects k).properties) 65536) → e ≡ stops (stamped (place_of view st) (leaving site why.Size)) →
    written (add_property site (place_of view st).objects k key x) (place_of view st) go ≡ done (place_of view st) e
room_gone view st site k key x go e h s = rw (← h, s) refl

items_seen : (view : View) (st : Contents) (k : ℕ) → length (object_in (place_of view st).objects k).items ≡ length (held_at st k).items
items_seen view st k = ap (λ o. length o.items) (seen_object view st.objects k) ∙ length_map (at view) (held_at st k).items

pub item_kept : (view : View) (st : Contents) (site k : ℕ) (x : Value) (go : Place → Outcome) → length (held_at st k).items < 65536 →
    written (add_item site (place_of view st).objects k x) (place_of view st) go ≡ go (record (place_of view st) { objects = with_item (place_of view st).objects k x })
item_kept view st site k x go l = let b = lt-ltb (length (held_at st k).items) 65536 l in rw (items_seen view st k, b) refl

pub item_gone : (view : View) (st : Contents) (site k : ℕ) (x : Value) (go : Place → Outcome) (e : Ending) → 65536 ≤ length (held_at st k).items → e ≡ stops (stamped (place_of view st) (leaving site why.Size)) →
    written (add_item site (place_of view st).objects k x) (place_of view st) go ≡ done (place_of view st) e
item_gone view st site k x go e l s = let b = le-ltb (length (held_at st k).items) 65536 l in rw (items_seen view st k, b, s) refl
