-- Examples of the limits, at each of them and one before it; of the order of own keys; of answers for single execs; and
-- of conversions.
use Rattle.std.proofs.Common.{◌≡◌, ℕ, ◌+◌, length, Bool, List, [], ◌∷◌, ◌++◌, Option, Some, None, Ok, codes, refl, pos, negsuc, true}
use Rattle.std.specs.Fmt.{digits}
use Rattle.path_core.specs.declared.path.Budget.TheVariants as budget
use Rattle.path_core.specs.declared.path.Why.TheVariants as why
use Rattle.path_core.specs.declared.path.End.TheVariants.{Cut}
use Rattle.re_ast.specs.declared.patterns.Pattern.{Pattern}
use Rattle.re_ast.specs.Execution.{Match, exec}
use Rattle.js_meaning.specs.Values.{Text, Value, truth, text, Scope, Class, Object, Answers, Place, undefined, nan, int, object}
use Rattle.js_meaning.specs.Running.{passed, made, given, stops, gives, ends, Outcome, done, count, turn, new_object, play, leaving, stamped, match_from, next_exec}
use Rattle.js_meaning.specs.Names.{open_cell}
use Rattle.js_values.specs.OwnKeys.{own_keys}
use Rattle.js_meaning.specs.Objects.{object_at, add_item, with_item, no_room}
use Rattle.js_meaning.specs.Operators.{text_row, place_row, branch_event, branch_row, joined}
use Rattle.js_meaning.specs.Meaning.{text_literal}

-- ---- nodes, events and turns

last_node : (site : ℕ) (st : Place) (go : Place → Outcome) → st.nodes ≡ 49999999 →
    count site st go ≡ go (record st { nodes = st.nodes + 1 })
unfolding count
last_node site st go e = rw e refl

no_node : (site : ℕ) (st : Place) (go : Place → Outcome) → st.nodes ≡ 50000000 →
    count site st go ≡ done st (stops (Cut site budget.Nodes))
unfolding count
no_node site st go e = rw e refl

last_event : (site : ℕ) (b : Bool) (st : Place) → st.events ≡ 4095 →
    play (branch_row site b) st ≡ (made (branch_event site b) ∷ [], (record st { events = st.events + 1 }, given (truth b)))
last_event site b st e = rw e refl

no_event : (site : ℕ) (b : Bool) (st : Place) → st.events ≡ 4096 →
    play (branch_row site b) st ≡ done st (stops (Cut site budget.Events))
no_event site b st e = rw e refl

last_turn : (site : ℕ) (st : Place) (go : Place → Outcome) → st.turns ≡ 1 →
    turn site st go ≡ go (record st { turns = 0; ended = 0 })
unfolding turn
last_turn site st go e = rw e refl

no_turn : (site : ℕ) (st : Place) (go : Place → Outcome) → st.turns ≡ 0 →
    turn site st go ≡ done st (stops (Cut site budget.Turns))
unfolding turn
no_turn site st go e = rw e refl

-- ---- room: an end with its numbers, and no item

abbrev out_of_room : ℕ → Place → Outcome
out_of_room site st = done st (stops (stamped st (leaving site why.Size)))

no_binding : (site : ℕ) (name : Text) (b : Bool) (o : Option Value) (scope : Scope) (st : Place) (go : Scope →
    Place → Outcome) → length st.cells ≡ 1000000 → open_cell site name b o scope st go ≡ out_of_room site st
unfolding open_cell
no_binding site name b o scope st go e = rw e refl

no_object : (site : ℕ) (c : Class) (st : Place) (go : ℕ → Place → Outcome) → length st.objects ≡ 1000000 →
    new_object site c st go ≡ out_of_room site st
unfolding new_object
no_object site c st go e = rw e refl

last_item : (site : ℕ) (objects : List Object) (o : ℕ) (x : Value) → length (object_at objects o).items ≡ 65535 →
    add_item site objects o x ≡ Ok (with_item objects o x)
last_item site objects o x e = rw e refl

no_item : (site : ℕ) (objects : List Object) (o : ℕ) (x : Value) → length (object_at objects o).items ≡ 65536 →
    add_item site objects o x ≡ no_room site
no_item site objects o x e = rw e refl

-- the size of a string is a guard where it is made by `+`, and none in a literal
long_join : (site : ℕ) (s t : Text) → length (s ++ t) ≡ 65536 →
    joined site s t ≡ (passed (leaving site why.Size) ∷ [], gives (text (s ++ t)))
long_join site s t e = rw e refl

longer_join : (site : ℕ) (s t : Text) → length (s ++ t) ≡ 65537 → joined site s t ≡ ([], ends (leaving site why.Size))
longer_join site s t e = rw e refl

long_literal : (site : ℕ) (t : Text) (st : Place) → length t ≡ 65536 → text_literal site t st ≡ done st (given (text t))
long_literal site t st e = rw e refl

longer_literal : (site : ℕ) (t : Text) (st : Place) → length t ≡ 65537 → text_literal site t st ≡ out_of_room site st
longer_literal site t st e = rw e refl

-- ---- own keys (10.1.11.1): array indexes ascending, then the others by their creation

in_order : own_keys (codes "b" ∷ codes "10" ∷ codes "01" ∷ codes "a" ∷ codes "2" ∷ codes "-1" ∷ codes "0" ∷ [])
    ≡ codes "0" ∷ codes "2" ∷ codes "10" ∷ codes "b" ∷ codes "01" ∷ codes "a" ∷ codes "-1" ∷ []
unfolding digits
in_order = refl

-- the greatest index is 2^32 - 2
greatest_index : own_keys (codes "4294967295" ∷ codes "4294967294" ∷ []) ≡ codes "4294967294" ∷ codes "4294967295" ∷ []
unfolding digits
greatest_index = refl

-- ---- single execs

answered_none : (st : Place) (p : Pattern) (t : Text) (from : ℕ) (rest : Answers) →
    st.run.answers ≡ Some None ∷ rest → st.execs ≡ 0 → next_exec st p t from ≡ None
answered_none st p t from rest e z = rw (e, z) refl

answered_match : (st : Place) (p : Pattern) (t : Text) (from : ℕ) (m : Match) (rest : Answers) →
    st.run.answers ≡ None ∷ Some (Some m) ∷ rest → st.execs ≡ 1 → next_exec st p t from ≡ Some m
answered_match st p t from m rest e z = rw (e, z) refl

by_the_standard : (st : Place) (p : Pattern) (t : Text) (from : ℕ) (rest : Answers) → st.run.answers ≡ None ∷ rest →
    st.execs ≡ 0 → next_exec st p t from ≡ match_from p t from
by_the_standard st p t from rest e z = rw (e, z) refl

behind_the_list : (st : Place) (p : Pattern) (t : Text) (from : ℕ) → st.run.answers ≡ [] →
    next_exec st p t from ≡ match_from p t from
behind_the_list st p t from e = rw e refl

within_the_text : (p : Pattern) → match_from p (codes "ab") 2 ≡ exec p (codes "ab") 2
within_the_text p = refl

behind_the_text : (p : Pattern) → match_from p (codes "ab") 3 ≡ None
behind_the_text p = refl

-- ---- conversions

text_of_number : text_row 3 (int (negsuc 41)) ≡ ([], gives (text (codes "-42")))
unfolding text_row digits
text_of_number = refl

text_of_nan : text_row 3 nan ≡ ([], gives (text (codes "NaN")))
unfolding text_row
text_of_nan = refl

text_of_object : text_row 3 (object 0) ≡ ([], ends (leaving 3 why.Convert))
unfolding text_row
text_of_object = refl

place_of_undefined : place_row 3 (int (pos 7)) undefined ≡ ([], gives (int (pos 7)))
unfolding place_row
place_of_undefined = refl

place_of_nan : place_row 3 (int (pos 7)) nan ≡ ([], gives (int (pos 0)))
unfolding place_row
place_of_nan = refl

place_of_true : place_row 3 (int (pos 7)) (truth true) ≡ ([], gives (int (pos 1)))
unfolding place_row
place_of_true = refl

place_of_text : place_row 3 (int (pos 7)) (text (codes "1")) ≡ ([], ends (leaving 3 why.Convert))
unfolding place_row
place_of_text = refl
