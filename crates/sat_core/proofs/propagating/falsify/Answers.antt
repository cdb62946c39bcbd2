use Rattle.std.proofs.Common.{ℕ, ◌+◌, ◌*◌, ◌<◌, ◌≡◌, ◌∷◌, [], length, drop, get_or, Some, None, sym, subst, ◌∙◌, arith, refl, List, Option, Ok}
use Rattle.js_units.specs.declared.memory.NoMemory.{NoMemory}
use Rattle.cnf_core.specs.Literals.{Names}
use Rattle.std.proofs.Math.ListN.{drop_of_length-le}
use Rattle.cnf_core.specs.Derivations.{known_with}
use Rattle.sat_core.specs.States.{Hit, Fallen, OnFound}
use Rattle.sat_core.specs.Watching.{list_place}
use Rattle.sat_core.proofs.Answered.{when_true, when_false}
use Rattle.sat_core.proofs.Passes.{place_within}
use Rattle.sat_core.proofs.Falls.{Found, FallsAt, taken, put_back, hit_one, passed_one, all_seen, next_rest, moved_to}
use Rattle.sat_core.proofs.propagating.falsify.Goals as goal
use Rattle.sat_core.proofs.propagating.falsify.Goals.{in-Some+in_ok-push-in-Some, in-None+in_ok-pass-in-None+then-branch, in-None+in_ok-pass-in-None+else-branch}

pub loop-number-init : goal.loop-number-init
loop-number-init c =
    taken (known_with c.args.cnf.now c.args.steps.now) c.args.lit c.args.watches.now _ c.args.trail.now c.as_slice-number-items.result.now c.requires.standing
    (c.as_slice-number-items.ensures ∙ c.take-list.ensures.list) c.take-list.ensures.rest refl

room_for : (wide most : ℕ) (place : ℕ) → wide ≡ 2 * most + 1 → place < 2 * most + 1 → place < wide
room_for wide most place e w = omega (arith, e, w)

pub loop-number-preserved : goal.loop-number-preserved
loop-number-preserved c =
    let known = known_with c.args.cnf.now c.args.steps.now in
    let l = c.args.lit in
    let pairs = c.args.watches.now.pairs in
    let start = c.args.trail.now in
    let old = c.loop-number.watches in
    let a = c.loop-number.trail in
    let list = c.as_slice-number-items.result.now in
    let j = c.loop-number.number-index in
    let n = get_or list j 0 in
    let rest = drop (j + 1) list in
    let falls = c.requires.falls in
    let f : FallsAt known l pairs start (n ∷ rest) old a c.loop-number.conflict = subst (λ ns. FallsAt known l pairs start ns old a c.loop-number.conflict) (next_rest list j c.loop-number-test.true) c.loop-number.invariant in
    elim c.match-conflict.branch [
      | in-Some+in_ok-push-in-Some w ↦
          moved_to known l pairs start rest _ _ a _ c.loop-number.conflict _ w.watches-is w.trail-is w.conflict-is
          (put_back known l pairs start a n _ rest old _ c.loop-number.conflict w.in-Some.is (room_for (length old.lists) a.variables (list_place l) f.standing.wide (place_within a.variables l (subst (λ m. Names m l) (sym f.same) c.requires.named))) f refl w.in_ok-push-in-Some.ensures)
      | in-None+in_ok-pass-in-None+then-branch w ↦
          moved_to known l pairs start rest _ _ w.pass.new.trail _ (Some n) _ w.watches-is w.trail-is w.conflict-is
          (hit_one known l pairs start a w.pass.new.trail n rest old w.pass.new.watches falls.0 falls.1 (subst (λ o. FallsAt known l pairs start (n ∷ rest) old a o) w.in-None.is f)
          (λ q more s g. when_true w.in_ok-pass-in-None.field-0 _ _ w.if-branch.true (w.in_ok-pass-in-None.ensures q more s g)))
      | in-None+in_ok-pass-in-None+else-branch w ↦
          moved_to known l pairs start rest _ _ w.pass.new.trail _ None _ w.watches-is w.trail-is (w.conflict-is ∙ w.in-None.is)
          (passed_one known l pairs start a w.pass.new.trail n rest old w.pass.new.watches falls.0 falls.1 (subst (λ o. FallsAt known l pairs start (n ∷ rest) old a o) w.in-None.is f)
          (λ q more s g. when_false w.in_ok-pass-in-None.field-0 _ _ w.if-branch.false (w.in_ok-pass-in-None.ensures q more s g)))
    ]

found_ok : (o : Option ℕ) (A : ℕ → Type 0) (B : Type 0) → Found o A B → OnFound {E = NoMemory} (Ok o) A B
found_ok None A B h = h
found_ok (Some n) A B h = h

pub returns : goal.returns
returns c p falls =
    let known = known_with c.args.cnf.now c.args.steps.now in
    let l = c.args.lit in
    let pairs = c.args.watches.now.pairs in
    let start = c.args.trail.now in
    let list = c.as_slice-number-items.result.now in
    let pairs_now = c.loop-number.watches.pairs in
    let a = c.loop-number.trail in
    subst (λ (ls : List (List ℕ)). OnFound {E = NoMemory} (Ok c.loop-number.conflict) (Hit known l [] (record { pairs = pairs_now; lists = ls }) start a) (Fallen known p l (record { pairs = pairs_now; lists = ls }) start a)) (sym c.give_back.ensures)
    (found_ok c.loop-number.conflict _ _
    (all_seen known l pairs start c.loop-number.trail c.loop-number.watches c.loop-number.conflict
    (subst (λ ns. FallsAt known l pairs start ns c.loop-number.watches c.loop-number.trail c.loop-number.conflict) (drop_of_length-le list c.loop-number-test.false) c.loop-number.invariant) p falls))
