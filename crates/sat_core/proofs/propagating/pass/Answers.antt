use Rattle.std.proofs.Common.{ℕ, ◌+◌, ◌*◌, ◌-◌, ◌<◌, ◌≡◌, suc, length, ap, ◌∙◌, arith, set, refl}
use Rattle.std.specs.List.{All}
use Rattle.cnf_core.specs.Literals.{Names}
use Rattle.cnf_core.specs.Derivations.{known_with}
use Rattle.sat_core.specs.Trails.{is_false}
use Rattle.sat_core.specs.Watching.{list_place}
use Rattle.sat_core.proofs.Known.{at_number}
use Rattle.sat_core.proofs.Units.{unit_free, unit_named}
use Rattle.sat_core.proofs.Growing.{grows_none}
use Rattle.sat_core.proofs.Looks.{named_among}
use Rattle.sat_core.proofs.Passes.{at_index, place_within, pair_of, kept_standing, kept_falling, moved_standing, moved_falling, forced_standing, forced_falling, forced_grows}
use Rattle.sat_core.proofs.propagating.pass.Goals as goal

room_for : (wide most : ℕ) (place : ℕ) → wide ≡ 2 * most + 1 → place < 2 * most + 1 → place < wide
room_for wide most place e w = omega (arith, e, w)

index_is : (n i : ℕ) → n ≡ suc i → n - 1 ≡ i
index_is n i e = omega (arith, e)

pub push-requires-in-Move : goal.push-requires-in-Move
push-requires-in-Move c =
    let s = c.requires.standing.1 in
    let v = c.in-Move.ensures in
    let known = known_with c.args.cnf.now c.args.steps.now in
    let most = c.args.trail.now.variables in
    room_for (length c.args.watches.now.lists) most (list_place c.in-Move.to) s.wide
    (place_within most c.in-Move.to (named_among most v.1 c.in-Move.to (at_number (All (Names most)) known c.args.number v.1 s.within (at_index known c.args.number v.0 v.1 v.3 v.4)) v.6.1))

pub push-requires-in-Force-clause-named : goal.push-requires-in-Force-clause-named
push-requires-in-Force-clause-named c =
    let s = c.requires.standing.1 in
    let v = c.in-Force.ensures in
    let known = known_with c.args.cnf.now c.args.steps.now in
    let most = c.args.trail.now.variables in
    unit_named most (is_false c.args.trail.now) v.1 c.in-Force.other (at_number (All (Names most)) known c.args.number v.1 s.within (at_index known c.args.number v.0 v.1 v.3 v.4)) v.6.1

pub push-requires-in-Force-clause-free : goal.push-requires-in-Force-clause-free
push-requires-in-Force-clause-free c = let v = c.in-Force.ensures in unit_free (is_false c.args.trail.now) v.1 c.in-Force.other v.6.1

pub returns-in_ok-push-in-Keep : goal.returns-in_ok-push-in-Keep
returns-in_ok-push-in-Keep c p rest s f =
    let known = known_with c.args.cnf.now c.args.steps.now in
    let n = c.args.number in
    let l = c.args.lit in
    let old = c.args.watches.now in
    let a = c.args.trail.now in
    let room = room_for (length old.lists) a.variables (list_place l) s.wide (place_within a.variables l c.requires.named) in
    record {
      standing = kept_standing known l n rest old a s _ room refl c.in_ok-push-in-Keep.ensures;
      falling = kept_falling known p l n rest old a f _ refl c.in-Keep.ensures;
      grows = grows_none known a;
      same = refl;
    }

pub returns-in_ok-push-in-Move : goal.returns-in_ok-push-in-Move
returns-in_ok-push-in-Move c p rest s f =
    let known = known_with c.args.cnf.now c.args.steps.now in
    let n = c.args.number in
    let l = c.args.lit in
    let old = c.args.watches.now in
    let a = c.args.trail.now in
    let v = c.in-Move.ensures in
    let most = a.variables in
    let to = c.in-Move.to in
    let room = room_for (length old.lists) most (list_place to) s.wide
    (place_within most to (named_among most v.1 to (at_number (All (Names most)) known n v.1 s.within (at_index known n v.0 v.1 v.3 v.4)) v.6.1)) in
    let e = c.set.ensures ∙ ap (λ k. set old.pairs k (pair_of c.in-Move.other to)) (index_is n v.0 v.3) in
    record {
      standing = moved_standing known p l n rest old a s f v.0 v.1 v.2 c.in-Move.other v.3 v.4 v.5 v.6.0 to _ v.6.1 v.6.2 v.6.3 room e c.in_ok-push-in-Move.ensures;
      falling = moved_falling known p l n rest old a s f v.0 v.1 v.2 c.in-Move.other v.3 v.4 v.5 v.6.0 to _ v.6.1 v.6.2 v.6.3 room e c.in_ok-push-in-Move.ensures;
      grows = grows_none known a;
      same = refl;
    }

pub returns-in_ok-push-in-Force-2 : goal.returns-in_ok-push-in-Force-2
returns-in_ok-push-in-Force-2 c p rest s f =
    let known = known_with c.args.cnf.now c.args.steps.now in
    let n = c.args.number in
    let l = c.args.lit in
    let old = c.args.watches.now in
    let a = c.args.trail.now in
    let b = c.push-in-Force.new.self in
    let v = c.in-Force.ensures in
    let other = c.in-Force.other in
    let room = room_for (length old.lists) a.variables (list_place l) s.wide (place_within a.variables l c.requires.named) in
    record {
      standing = forced_standing known p l n rest old a s f v.0 v.1 v.2 other v.3 v.4 v.5 v.6.0 b _ v.6.1 c.in_ok-push-in-Force.ensures.ok c.in_ok-push-in-Force.ensures.same room refl c.in_ok-push-in-Force-2.ensures;
      falling = forced_falling known p l n rest old a s f v.0 v.1 v.2 other v.3 v.4 v.5 v.6.0 b _ v.6.1 c.in_ok-push-in-Force.ensures.ok c.in_ok-push-in-Force.ensures.same room refl c.in_ok-push-in-Force-2.ensures;
      grows = forced_grows known p l n rest old a s f v.0 v.1 v.2 other v.3 v.4 v.5 v.6.0 b _ v.6.1 c.in_ok-push-in-Force.ensures.ok c.in_ok-push-in-Force.ensures.same room refl c.in_ok-push-in-Force-2.ensures;
      same = c.in_ok-push-in-Force.ensures.same;
    }

pub returns-in_ok-push-in-Conflict : goal.returns-in_ok-push-in-Conflict
returns-in_ok-push-in-Conflict c p rest s f =
    let known = known_with c.args.cnf.now c.args.steps.now in
    let n = c.args.number in
    let l = c.args.lit in
    let old = c.args.watches.now in
    let a = c.args.trail.now in
    let v = c.in-Conflict.ensures in
    let room = room_for (length old.lists) a.variables (list_place l) s.wide (place_within a.variables l c.requires.named) in
    record {
      standing = kept_standing known l n rest old a s _ room refl c.in_ok-push-in-Conflict.ensures;
      conflict = (v.1, at_index known n v.0 v.1 v.3 v.4, v.6);
      grows = grows_none known a;
      same = refl;
    }
