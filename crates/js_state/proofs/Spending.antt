-- What moves cost, as they are taken up and as a table grows.
use Rattle.std.proofs.Common.{◌≡◌, ◌≤◌, ◌+◌, ◌-◌, ℕ, zero, suc, Bool, true, false, nat_lt, if◌then◌else◌, List, [], ◌∷◌, ◌++◌, slice_get, Option, Some, None, ap, arith}
use Rattle.path_core.specs.declared.path.End.{End}
use Rattle.path_core.specs.declared.path.Event.{Event}
use Rattle.term_table.specs.declared.term.Term.{Term}
use Rattle.term_table.specs.declared.term.Term.TheVariants as term
use Rattle.term_table.specs.declared.term.TermId.{TermId}
use Rattle.term_table.specs.declared.moves.Choice.{Choice}
use Rattle.term_table.specs.declared.moves.Choice.TheVariants as choice
use Rattle.term_table.specs.declared.moves.Move.{Move}
use Rattle.term_table.specs.declared.moves.Move.TheVariants as move
use Rattle.term_table.specs.declared.outcome.Outcome.{Outcome}
use Rattle.term_table.specs.Prices.{unless_constant, guard_price, choice_price, moves_price, outcome_price, CostsAtMost}
use Rattle.js_meaning.specs.Running.{stamp, event_limit}
use Rattle.js_state.specs.Held.{Contents}
use Rattle.js_state.specs.Playing.{guard_kept, failed_kept, taken_up, TakenUp, Asked}
use Rattle.js_state.specs.Spending.{run_price, owed, spent, SpendsAtMost}
use Rattle.js_state.specs.declared.held.RunMove.{RunMove}
use Rattle.js_state.specs.declared.held.RunMove.TheVariants as run

-- ---- a longer table makes nothing dearer

pub at_most : (n : ℕ) (o : Option Term) → unless_constant n o ≤ n
at_most n (Some (term.Flag b)) = omega arith
at_most n (Some (term.Int k)) = omega arith
at_most n (Some (term.Text t)) = omega arith
at_most n None = omega arith

later : (n : ℕ) (terms more : List Term) (k : ℕ) → unless_constant n (slice_get (terms ++ more) k) ≤ unless_constant n (slice_get terms k)
later n [] more k = at_most n (slice_get more k)
later n (t ∷ terms) more zero = omega arith
later n (t ∷ terms) more (suc k) = later n terms more k

choice_later : (terms more : List Term) (x : Choice) → choice_price (terms ++ more) x ≤ choice_price terms x
choice_later terms more (choice.Flag t) = later 2 terms more t.0
choice_later terms more (choice.Number t) = later 3 terms more t.0
choice_later terms more (choice.Text t) = later 3 terms more t.0

move_later : (terms more : List Term) (m : RunMove) → run_price (terms ++ more) m ≤ run_price terms m
move_later terms more (run.Guard t exit) = later 2 terms more t.0
move_later terms more (run.Event e x) = choice_later terms more x
move_later terms more (run.Failed t exit) = later 2 terms more t.0

owed_later : (terms more : List Term) (ms : List RunMove) → owed (terms ++ more) ms ≤ owed terms ms
owed_later terms more [] = omega arith
owed_later terms more (m ∷ ms) = omega (arith, move_later terms more m, owed_later terms more ms)

-- ---- moves are taken up

owed_both : (terms : List Term) (xs ys : List RunMove) → owed terms (xs ++ ys) ≡ owed terms xs + owed terms ys
owed_both terms [] ys = omega arith
owed_both terms (x ∷ xs) ys = omega (arith, owed_both terms xs ys)

kept_price : (terms : List Term) (keeps : Bool) (t : TermId) (exit : End) (ms : List RunMove) → owed terms (guard_kept keeps t exit ms) ≤ guard_price terms t + owed terms ms
kept_price terms true t exit ms = omega arith
kept_price terms false t exit ms = omega arith

event_price : (terms : List Term) (is_left : Bool) (e : Event) (x : Choice) (ms : List RunMove) (n : ℕ) → owed terms ms ≤ n → owed terms (if is_left then run.Event e x ∷ ms else []) ≤ choice_price terms x + n
event_price terms true e x ms n l = omega (arith, l)
event_price terms false e x ms n l = omega arith

taken_price : (terms : List Term) (keeps : Bool) (turns ended events : ℕ) (ms : List Move) → owed terms (taken_up keeps turns ended events ms) ≤ moves_price terms ms
taken_price terms keeps turns ended events [] = omega arith
taken_price terms keeps turns ended events (move.Guard t exit ∷ ms) =
    omega (arith, kept_price terms keeps t (stamp turns ended exit) (taken_up keeps turns ended events ms), taken_price terms keeps turns ended events ms)
taken_price terms keeps turns ended events (move.Event e x ∷ ms) =
    event_price terms (nat_lt events event_limit) e x (taken_up keeps turns ended (events + 1) ms) (moves_price terms ms) (taken_price terms keeps turns ended (events + 1) ms)

failed_once : (terms : List Term) (keeps : Bool) (t : TermId) (exit : End) → owed terms (failed_kept keeps t exit) ≤ guard_price terms t
failed_once terms true t exit = omega arith
failed_once terms false t exit = omega arith

-- the table stays, and moves are added
added : (old new : Contents) (more : List RunMove) (n : ℕ) → new.table ≡ old.table → new.moves ≡ old.moves ++ more → owed old.table more ≤ n → SpendsAtMost n old new
added old new more n t m l = rw (t, m, owed_both old.table old.moves more) (omega (arith, l))

pub taken_spends : {old new : Contents} {ms : List Move} {cut : Option ℕ} → TakenUp old new ms cut → SpendsAtMost (moves_price old.table ms) old new
taken_spends {old} {new} {ms} {cut} k =
    added old new (taken_up old.keeps (old.allowed - old.turns) old.ended old.events ms) (moves_price old.table ms) k.unmoved.table k.moves
    (taken_price old.table old.keeps (old.allowed - old.turns) old.ended old.events ms)

pub failed_spends : {old mid new : Contents} {ms : List Move} {cut : Option ℕ} (t : TermId) (exit : End) → TakenUp old mid ms cut → new ≡ record mid { moves = mid.moves ++ failed_kept mid.keeps t exit } → SpendsAtMost (moves_price old.table ms + guard_price old.table t) old new
failed_spends {old} {mid} {new} {ms} {cut} t exit k e =
    let first : SpendsAtMost (moves_price old.table ms) old mid = taken_spends k in
    let last : SpendsAtMost (guard_price mid.table t) mid new = added mid new (failed_kept mid.keeps t exit) (guard_price mid.table t) (ap (λ x. x.table) e) (ap (λ x. x.moves) e) (failed_once mid.table mid.keeps t exit) in
    let same : guard_price mid.table t ≡ guard_price old.table t = ap (λ ts. guard_price ts t) k.unmoved.table in
    omega (arith, first, last, same)

-- ---- rows were asked

pub asked_spends : {old mid : Contents} (n : ℕ) (o : Outcome) → Asked old mid → CostsAtMost n old.table mid.table o → spent mid + outcome_price mid.table o ≤ spent old + n
asked_spends {old} {mid} n o q l =
    let moves : mid.moves ≡ old.moves = ap (λ x. x.moves) q.same in
    let owes : owed mid.table mid.moves ≤ owed old.table old.moves = rw (moves, q.grown.1) (owed_later old.table q.grown.0 old.moves) in
    omega (arith, owes, l)
