-- Loops and `try`, over what their parts do. A round takes its turn behind the test and before the body.
use Rattle.std.specs.Prelude.{ℕ, zero, suc, ◌+◌, Bool, true, false, List, [], ◌∷◌, Option, Some, None, slice_get, if◌then◌else◌}
use Rattle.path_core.specs.declared.path.ErrorName.TheVariants as kind
use Rattle.path_core.specs.declared.path.Why.TheVariants as why
use Rattle.path_core.specs.declared.path.Budget.TheVariants as budget
use Rattle.path_core.specs.declared.path.End.TheVariants.{Cut}
use Rattle.js_ast.specs.declared.parts.Identifier.{Identifier}
use Rattle.js_meaning.specs.Values.{Text, Value, text, object, Scope, Binding, Object, Place}
use Rattle.js_meaning.specs.Running.{Completion, normal, breaks, continues, stops, Outcome, done, bind, leaves, turn, throw_error, on_value}
use Rattle.js_meaning.specs.Objects.{object_at, is_array}
use Rattle.js_meaning.specs.Names.{open_cell, binding_of}
use Rattle.js_meaning.specs.Parts.{branch}
use Rattle.js_meaning.specs.Blocks.{Declaration}

-- what a part does in a scope, and with how many rounds to bound its own loops
abbrev pub Part : Type 0
Part = ℕ → Scope → Place → Outcome

-- no more rounds: the turns have run out before
abbrev pub spent : ℕ → Place → Outcome
spent site st = done st (stops (Cut site budget.Turns))

-- LoopContinues (14.7.1.1): on to the next round, or the end of the loop
abbrev pub after_body : (Place → Outcome) → Place → Completion → Outcome
after_body go st normal = go st
after_body go st continues = go st
after_body go st breaks = done st normal
after_body go st c = done st c

-- one round: its turn, the body, and what comes then
abbrev pub round : ℕ → (Place → Outcome) → (Place → Outcome) → Place → Outcome
round site body again st = turn site st (λ st. bind (body st) (after_body again))

abbrev pub round_if : ℕ → (Place → Outcome) → (Place → Outcome) → Bool → Place → Outcome
round_if site body again true st = round site body again st
round_if site body again false st = done st normal

-- behind a test: another round, or the end of the loop
abbrev pub tested : ℕ → (Place → Outcome) → (Place → Outcome) → Value → Place → Outcome
tested site body again x st = branch site x st (round_if site body again)

-- ---- `while` (14.7.3.2)

abbrev pub while_loop : ℕ → ℕ → Part → Part → Scope → Place → Outcome
while_loop zero site test body scope st = spent site st
while_loop (suc k) site test body scope st =
    bind (test k scope st) (on_value (tested site (body k scope) (while_loop k site test body scope)))

-- ---- `do` (14.7.2.2): the test is at its own word, the turn at `do`

abbrev pub again_if : (Place → Outcome) → Bool → Place → Outcome
again_if again true st = again st
again_if again false st = done st normal

-- behind the body: the test, and another round or the end
abbrev pub do_again : ℕ → ℕ → ℕ → Part → (Place → Outcome) → Scope → Place → Outcome
do_again zero site test_site test next scope st = spent site st
do_again (suc k) site test_site test next scope st =
    bind (test k scope st) (on_value (λ x st. branch test_site x st (again_if next)))

abbrev pub do_loop : ℕ → ℕ → ℕ → Part → Part → Scope → Place → Outcome
do_loop zero site test_site test body scope st = spent site st
do_loop (suc k) site test_site test body scope st =
    round site (body k scope) (do_again k site test_site test (do_loop k site test_site test body scope) scope) st

-- ---- `for` (14.7.4)

abbrev pub value_in : Option Binding → Option Value
value_in None = None
value_in (Some b) = b.value

abbrev pub value_found : List Binding → Option ℕ → Option Value
value_found cells None = None
value_found cells (Some k) = value_in (slice_get cells k)

abbrev pub value_of : Text → Scope → Place → Option Value
value_of name scope st = value_found st.cells (binding_of scope name st)

-- CreatePerIterationEnvironment (14.7.4.4): fresh bindings with the values of the last ones
abbrev pub copy_cells : List Declaration → Scope → Scope → Place → (Scope → Place → Outcome) → Outcome
copy_cells [] last scope st go = go scope st
copy_cells (d ∷ ds) last scope st go =
    open_cell d.site d.name true (value_of d.name last st) scope st (λ scope st. copy_cells ds last scope st go)

-- where no name is copied, the loop stays in its scope
abbrev pub next_scope : List Declaration → Scope → Scope → Place → (Scope → Place → Outcome) → Outcome
next_scope [] last outer st go = go last st
next_scope (d ∷ ds) last outer st go = copy_cells (d ∷ ds) last outer st go

-- a part that may be missing
abbrev pub update_then : Option Part → ℕ → Scope → (Place → Outcome) → Place → Outcome
update_then None k scope go st = go st
update_then (Some update) k scope go st = bind (update k scope st) (on_value (λ x st. go st))

-- behind the body: fresh bindings, the update, and the next test
abbrev pub for_again : ℕ → ℕ → List Declaration → Option Part → (Scope → Place → Outcome) → Scope → Scope → Place →
    Outcome
for_again zero site names update next outer scope st = spent site st
for_again (suc k) site names update next outer scope st =
    next_scope names scope outer st (λ scope st. update_then update k scope (next scope) st)

-- with no test there is no event
abbrev pub test_then : Option Part → ℕ → ℕ → Scope → (Place → Outcome) → (Place → Outcome) → Place → Outcome
test_then None k site scope body again st = round site body again st
test_then (Some test) k site scope body again st = bind (test k scope st) (on_value (tested site body again))

-- ForBodyEvaluation (14.7.4.3)
abbrev pub for_loop : ℕ → ℕ → List Declaration → Option Part → Option Part → Part → Scope → Scope → Place → Outcome
for_loop zero site names test update body outer scope st = spent site st
for_loop (suc k) site names test update body outer scope st =
    test_then test k site scope (body k scope) (for_again k site names update
    (for_loop k site names test update body outer) outer scope) st

-- ---- for-of (14.7.5), over arrays: the item at the index, as the array stands at each round

abbrev pub item_at : List Object → ℕ → ℕ → Option Value
item_at objects o i = slice_get (object_at objects o).items i

abbrev pub with_item : Option Value → Place → (Place → Outcome) → (Value → Place → Outcome) → Outcome
with_item None st gone go = gone st
with_item (Some x) st gone go = go x st

-- ForIn/OfBodyEvaluation (14.7.5.7): behind the turn a fresh binding with the item
abbrev pub of_loop : ℕ → ℕ → Declaration → Part → ℕ → ℕ → Scope → Place → Outcome
of_loop zero site name body o i scope st = spent site st
of_loop (suc k) site name body o i scope st =
    with_item (item_at st.objects o i) st (λ st. done st normal)
    (λ x st. turn site st (λ st. open_cell name.site name.name name.is_mutable (Some x) scope st (λ inner st.
    bind (body k inner st) (after_body (of_loop k site name body o (i + 1) scope)))))

-- GetIterator (7.4.3): an array, or a match result; a string leaves the profile, and nothing else is run over
abbrev pub of_start : ℕ → (ℕ → Place → Outcome) → Value → Place → Outcome
of_start site go (object o) st =
    if is_array (object_at st.objects o).class then go o st else throw_error site kind.TypeError st
of_start site go (text t) st = leaves site why.Iterate st
of_start site go _ st = throw_error site kind.TypeError st

-- ---- `try` (14.15.3)

-- a `finally` that ends normally keeps the earlier completion
abbrev pub kept : Completion → Place → Completion → Outcome
kept c st normal = done st c
kept c st d = done st d

-- the name of a `catch`, where it has one, is bound to what was thrown (14.15.2)
abbrev pub open_catch : Option Identifier → Value → Scope → Place → (Scope → Place → Outcome) → Outcome
open_catch None x scope st go = go scope st
open_catch (Some name) x scope st go = open_cell name.site name.name true (Some x) scope st go
