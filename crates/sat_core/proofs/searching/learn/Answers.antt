use Rattle.std.proofs.Common.{sym, subst, ◌∙◌}
use Rattle.cnf_core.specs.Derivations.{known_with}
use Rattle.sat_core.specs.Cuts.{Teaches}
use Rattle.sat_core.specs.Taking.{TakesUp}
use Rattle.sat_core.specs.Searches.{Learns}
use Rattle.sat_core.proofs.Searched.{unit_free, learnt}
use Rattle.sat_core.proofs.searching.learn.Goals as goal

pub take_up-requires-clause-free : goal.take_up-requires-clause-free
take_up-requires-clause-free c first rest is =
    let cnf = c.args.cnf.now in
    let steps = c.args.steps.now in
    let a = c.args.trail.now in
    let lesson = c.in_ok-lesson.lesson in
    let t : Teaches (known_with cnf steps) cnf.variables a.entries lesson =
    subst (λ ss. Teaches (known_with cnf ss) cnf.variables a.entries lesson) c.as_slice-known.ensures (subst (λ es. Teaches (known_with cnf c.as_slice-known.result.now) cnf.variables es lesson) c.entries-entries.ensures.value c.in_ok-lesson.ensures.teaches) in
    unit_free cnf steps c.args.watches.now a c.cut.new.self lesson c.requires.standing t c.cut.ensures.shorter first rest (sym c.as_slice.ensures ∙ is)

pub returns-clause-learns : goal.returns-clause-learns
returns-clause-learns c =
    let cnf = c.args.cnf.now in
    let steps = c.args.steps.now in
    let old = c.args.watches.now in
    let a = c.args.trail.now in
    let b = c.cut.new.self in
    let d = c.take_up.new.trail in
    let lesson = c.in_ok-lesson.lesson in
    let t : Teaches (known_with cnf steps) cnf.variables a.entries lesson =
    subst (λ ss. Teaches (known_with cnf ss) cnf.variables a.entries lesson) c.as_slice-known.ensures (subst (λ es. Teaches (known_with cnf c.as_slice-known.result.now) cnf.variables es lesson) c.entries-entries.ensures.value c.in_ok-lesson.ensures.teaches) in
    let up = subst (λ clause. TakesUp clause old c.take_up.new.watches b d) c.as_slice.ensures c.in_ok-take_up.ensures.taken in
    subst (Learns cnf steps c.push.new.self c.take_up.new.watches d) (sym c.len-head.ensures)
    (learnt cnf steps old a b lesson c.requires.standing t c.cut.ensures.shorter c.push.new.self c.take_up.new.watches d c.requires.same c.cut.ensures.same up c.in_ok-take_up.ensures.same c.in_ok-push.ensures.ok)
