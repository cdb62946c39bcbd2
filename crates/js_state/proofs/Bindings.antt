-- Bindings, as a view sees them.
use Rattle.std.proofs.Common.{◌≡◌, ◌≤◌, ◌<◌, ◌-◌, ℕ, zero, suc, Bool, true, false, List, [], ◌∷◌, ◌++◌, Option, Some, None, map, slice_get, slice_set, slice_index_or, bytes_eq, is_some, refl, sym, ap, ◌∙◌, arith, length}
use Rattle.std.specs.Option.{option_map}
use Rattle.term_table.specs.Views.{View, at}
use Rattle.term_table.specs.declared.shadow.Shadow.{Shadow}
use Rattle.js_meaning.specs.Values.{Text, Binding, Place}
use Rattle.std.proofs.lemmas.Bool.{lt-ltb, le-ltb}
use Rattle.path_core.specs.declared.path.ErrorName.TheVariants as kind
use Rattle.path_core.specs.declared.path.Why.TheVariants as why
use Rattle.term_table.specs.declared.shadow.Plain.{Plain}
use Rattle.js_meaning.specs.Values.{Value, Scope}
use Rattle.js_meaning.specs.Running.{Outcome, Completion as Ending, given, stops, done, leaving, stamped, throw_error}
use Rattle.js_meaning.specs.Loops.{value_found}
use Rattle.js_meaning.specs.Names.{resolve, write_binding, open_cell, inside, bound, put_found, put_mutable}
use Rattle.js_state.specs.declared.held.Bound.{Bound}
use Rattle.js_state.specs.Held.{Cell, Contents, cell_of, cells_of}
use Rattle.js_state.specs.Seen.{binding_at, place_of, input_at}
use Rattle.term_table.specs.Views.{plain_value}
use Rattle.js_state.proofs.Lists.{map_get, map_set, map_push, length_map, some_get}

-- ---- cells, of names and values

pub cells_length : (bs : List Bound) (vs : List (Option Shadow)) → length bs ≡ length vs → length (cells_of bs vs) ≡ length bs
cells_length [] vs e = refl
cells_length (b ∷ bs) [] e = absurd (omega (arith, e))
cells_length (b ∷ bs) (v ∷ vs) e = ap (λ n. suc n) (cells_length bs vs (omega (arith, e)))

pub cells_push : (bs : List Bound) (vs : List (Option Shadow)) (b : Bound) (v : Option Shadow) → length bs ≡ length vs →
    cells_of (bs ++ b ∷ []) (vs ++ v ∷ []) ≡ cells_of bs vs ++ cell_of b v ∷ []
cells_push [] [] b v e = refl
cells_push [] (w ∷ vs) b v e = absurd (omega (arith, e))
cells_push (a ∷ bs) [] b v e = absurd (omega (arith, e))
cells_push (a ∷ bs) (w ∷ vs) b v e = ap (λ cs. cell_of a w ∷ cs) (cells_push bs vs b v (omega (arith, e)))

pub cells_get : (bs : List Bound) (vs : List (Option Shadow)) (k : ℕ) (b : Bound) → length bs ≡ length vs → slice_get bs k ≡ Some b →
    slice_get (cells_of bs vs) k ≡ Some (cell_of b (slice_index_or vs k None))
cells_get [] vs k b e h = absurd (grind arith)
cells_get (a ∷ bs) [] k b e h = absurd (omega (arith, e))
cells_get (a ∷ bs) (v ∷ vs) zero b e h = let same : a ≡ b = grind arith in ap (λ x. Some (cell_of x v)) same
cells_get (a ∷ bs) (v ∷ vs) (suc k) b e h = cells_get bs vs k b (omega (arith, e)) h

pub cells_none : (bs : List Bound) (vs : List (Option Shadow)) (k : ℕ) → slice_get bs k ≡ None → slice_get (cells_of bs vs) k ≡ None
cells_none [] vs k h = grind arith
cells_none (a ∷ bs) [] k h = grind arith
cells_none (a ∷ bs) (v ∷ vs) zero h = absurd (grind arith)
cells_none (a ∷ bs) (v ∷ vs) (suc k) h = cells_none bs vs k h

pub cells_set : (bs : List Bound) (vs : List (Option Shadow)) (k : ℕ) (b : Bound) (v : Option Shadow) → length bs ≡ length vs → slice_get bs k ≡ Some b →
    cells_of bs (slice_set vs k v) ≡ slice_set (cells_of bs vs) k (cell_of b v)
cells_set [] vs k b v e h = absurd (grind arith)
cells_set (a ∷ bs) [] k b v e h = absurd (omega (arith, e))
cells_set (a ∷ bs) (w ∷ vs) zero b v e h = let same : a ≡ b = grind arith in ap (λ x. cell_of x v ∷ cells_of bs vs) same
cells_set (a ∷ bs) (w ∷ vs) (suc k) b v e h = ap (λ cs. cell_of a w ∷ cs) (cells_set bs vs k b v (omega (arith, e)) h)

-- ---- a name is looked up

seen_cell : (view : View) (bs : List Bound) (vs : List (Option Shadow)) (k : ℕ) (b : Bound) → length bs ≡ length vs → slice_get bs k ≡ Some b →
    slice_get (map (binding_at view) (cells_of bs vs)) k ≡ Some (binding_at view (cell_of b (slice_index_or vs k None)))
seen_cell view bs vs k b e h =
    map_get (binding_at view) (cells_of bs vs) k ∙ ap (option_map (binding_at view)) (cells_get bs vs k b e h)

seen_none : (view : View) (bs : List Bound) (vs : List (Option Shadow)) (k : ℕ) → slice_get bs k ≡ None →
    slice_get (map (binding_at view) (cells_of bs vs)) k ≡ None
seen_none view bs vs k h = map_get (binding_at view) (cells_of bs vs) k ∙ ap (option_map (binding_at view)) (cells_none bs vs k h)

pub finds_none : (n : ℕ) (cells : List Binding) (cell : Option ℕ) (name : Text) → cell ≡ None → resolve n cells cell name ≡ None
finds_none zero cells cell name e = refl
finds_none (suc n) cells cell name e = rw e refl

pub finds_over : (n : ℕ) (cells : List Binding) (cell : Option ℕ) (name : Text) → n ≡ 0 → resolve n cells cell name ≡ None
finds_over zero cells cell name e = refl
finds_over (suc n) cells cell name e = absurd (omega (arith, e))

pub finds_no_cell : (view : View) (n : ℕ) (bs : List Bound) (vs : List (Option Shadow)) (cell : Option ℕ) (name : Text) (k : ℕ) → cell ≡ Some k → slice_get bs k ≡ None →
    resolve n (map (binding_at view) (cells_of bs vs)) cell name ≡ None
finds_no_cell view zero bs vs cell name k e f = refl
finds_no_cell view (suc n) bs vs cell name k e f = let g = seen_none view bs vs k f in rw (e, g) refl

pub finds_here : (view : View) (n : ℕ) (bs : List Bound) (vs : List (Option Shadow)) (cell : Option ℕ) (name : Text) (k : ℕ) (b : Bound) → length bs ≡ length vs → 1 ≤ n → cell ≡ Some k → slice_get bs k ≡ Some b →
    bytes_eq b.name.now name ≡ true → resolve n (map (binding_at view) (cells_of bs vs)) cell name ≡ Some k
finds_here view zero bs vs cell name k b t l e f h = absurd (omega (arith, l))
finds_here view (suc n) bs vs cell name k b t l e f h = let g = seen_cell view bs vs k b t f in rw (e, g, h) refl

pub finds_on : (view : View) (n : ℕ) (bs : List Bound) (vs : List (Option Shadow)) (cell : Option ℕ) (name : Text) (k : ℕ) (b : Bound) → length bs ≡ length vs → 1 ≤ n → cell ≡ Some k → slice_get bs k ≡ Some b →
    bytes_eq b.name.now name ≡ false →
    resolve n (map (binding_at view) (cells_of bs vs)) cell name ≡ resolve (n - 1) (map (binding_at view) (cells_of bs vs)) b.outer name
finds_on view zero bs vs cell name k b t l e f h = absurd (omega (arith, l))
finds_on view (suc n) bs vs cell name k b t l e f h =
    let g = seen_cell view bs vs k b t f in let j : suc n - 1 ≡ n = omega arith in rw (e, g, h, j) refl

-- as many bindings as there are names
pub found : (view : View) (bs : List Bound) (vs : List (Option Shadow)) (cell : Option ℕ) (name : Text) (o : Option ℕ) → length bs ≡ length vs →
    o ≡ resolve (length bs) (map (binding_at view) (cells_of bs vs)) cell name →
    o ≡ resolve (length (map (binding_at view) (cells_of bs vs))) (map (binding_at view) (cells_of bs vs)) cell name
found view bs vs cell name o e h = rw (length_map (binding_at view) (cells_of bs vs), cells_length bs vs e) h

pub valued_at : (view : View) (bs : List Bound) (vs : List (Option Shadow)) (k : ℕ) (b : Bound) → length bs ≡ length vs → slice_get bs k ≡ Some b →
    value_found (map (binding_at view) (cells_of bs vs)) (Some k) ≡ option_map (at view) (slice_index_or vs k None)
valued_at view bs vs k b e h = rw (seen_cell view bs vs k b e h) refl

-- ---- a binding is made, or written

pub opened : (view : View) (site : ℕ) (name : Text) (m : Bool) (value : Option Shadow) (scope : Scope) (st : Contents) (go : Scope → Place → Outcome) → length st.cells < 1000000 →
    open_cell site name m (option_map (at view) value) scope (place_of view st) go ≡ go (inside scope (length st.cells)) (place_of view (record st { cells = st.cells ++ (record { name = name; is_mutable = m; outer = scope.cell; value = value }) ∷ [] }))
unfolding open_cell
opened view site name m value scope st go l =
    let b = lt-ltb (length st.cells) 1000000 l in
    rw (length_map (binding_at view) st.cells, b)
    (ap (λ cs. go (inside scope (length st.cells)) (record (place_of view st) { cells = cs })) (sym (map_push (binding_at view) st.cells (record { name = name; is_mutable = m; outer = scope.cell; value = value }))))

pub no_room : (view : View) (site : ℕ) (name : Text) (m : Bool) (value : Option Value) (scope : Scope) (st : Contents) (go : Scope → Place → Outcome) (e : Ending) → 1000000 ≤ length st.cells →
    e ≡ stops (stamped (place_of view st) (leaving site why.Size)) → open_cell site name m value scope (place_of view st) go ≡ done (place_of view st) e
unfolding open_cell
no_room view site name m value scope st go e l s =
    let b = le-ltb (length st.cells) 1000000 l in
    rw (length_map (binding_at view) st.cells, b, s) refl

pub written : (view : View) (st : Contents) (bs : List Bound) (vs : List (Option Shadow)) (k : ℕ) (b : Bound) (x : Shadow) → st.cells ≡ cells_of bs vs → length bs ≡ length vs → slice_get bs k ≡ Some b →
    write_binding k (at view x) (place_of view st) ≡ place_of view (record st { cells = cells_of bs (slice_set vs k (Some x)) })
written view st bs vs k b x c e h =
    let g = seen_cell view bs vs k b e h in
    rw (c, g)
    (ap (λ cs. record (place_of view st) { cells = cs }) (sym (ap (map (binding_at view)) (cells_set bs vs k b (Some x) e h) ∙ map_set (binding_at view) (cells_of bs vs) k (cell_of b (Some x)))))

-- an input without a number is its plain value
pub plain_input : (view : View) (p : Plain) (k : Option ℕ) → k ≡ None → input_at view p k ≡ plain_value p
plain_input None p k e = refl
plain_input (Some v) p k e = rw e refl

-- ---- names that are bound

abbrev pub seen_binding : View → Bound → Option Shadow → Binding
seen_binding view b v = binding_at view (cell_of b v)

pub seen_at_name : (view : View) (bs : List Bound) (vs : List (Option Shadow)) (k : ℕ) → length bs ≡ length vs → k < length bs →
    (b : Bound) × (slice_get bs k ≡ Some b) × (slice_get (map (binding_at view) (cells_of bs vs)) k ≡ Some (seen_binding view b (slice_index_or vs k None)))
seen_at_name view bs vs k e l = let b = some_get bs k l in (b.0, b.1, seen_cell view bs vs k b.0 e b.1)

pub at_cell : (view : View) (cells : List Cell) (k : ℕ) (cell : Cell) → slice_get cells k ≡ Some cell → slice_get (map (binding_at view) cells) k ≡ Some (binding_at view cell)
at_cell view cells k cell h = map_get (binding_at view) cells k ∙ ap (option_map (binding_at view)) h

pub none_of : {A : Type 0} (o : Option A) → false ≡ is_some o → o ≡ None
none_of None h = refl
none_of (Some x) h = absurd (grind arith)

pub some_of : {A : Type 0} (o : Option A) → true ≡ is_some o → (x : A) × (o ≡ Some x)
some_of None h = absurd (grind arith)
some_of (Some x) h = (x, refl)

-- a name that is bound is written

pub puts_none : (view : View) (st : Contents) (site k : ℕ) (x : Value) (cell : Cell) → slice_get st.cells k ≡ Some cell → cell.value ≡ None → put_found site x (bound k) (place_of view st) ≡ throw_error site kind.ReferenceError (place_of view st)
puts_none view st site k x cell h e = let g = at_cell view st.cells k cell h in rw (g, e) refl

pub puts_const : (view : View) (st : Contents) (site k : ℕ) (x : Value) (cell : Cell) (old : Shadow) → slice_get st.cells k ≡ Some cell → cell.value ≡ Some old → cell.is_mutable ≡ false → put_found site x (bound k) (place_of view st) ≡ throw_error site kind.TypeError (place_of view st)
puts_const view st site k x cell old h e m = let g = at_cell view st.cells k cell h in rw (g, e, m) refl

pub puts : (view : View) (st : Contents) (site k : ℕ) (x : Shadow) (cell : Cell) (old : Shadow) → slice_get st.cells k ≡ Some cell → cell.value ≡ Some old → cell.is_mutable ≡ true →
    put_found site (at view x) (bound k) (place_of view st) ≡ done (place_of view (record st { cells = slice_set st.cells k (record cell { value = Some x }) })) (given (at view x))
puts view st site k x cell old h e m =
    let g = at_cell view st.cells k cell h in
    rw (g, e) (ap (λ b. put_mutable site k (at view x) b (place_of view st)) m ∙ rw g (ap (λ cs. done (record (place_of view st) { cells = cs }) (given (at view x))) (sym (map_set (binding_at view) st.cells k (record cell { value = Some x })))))

pub same_value : (a b : Cell) → Some a ≡ Some b → is_some a.value ≡ is_some b.value
same_value a b e = grind arith
