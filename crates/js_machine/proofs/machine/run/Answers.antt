use Rattle.std.proofs.Common.{◌≡◌, refl, subst}
use Rattle.js_meaning.specs.Running.{done}
use Rattle.js_state.specs.Playing.{Track}
use Rattle.js_state.specs.Seen.{place_of, completion_at}
use Rattle.js_frames.proofs.Steps.{runs}
use Rattle.js_machine.proofs.Paths.{whole_is}
use Rattle.js_machine.proofs.machine.run.Goals as goal

pub returns-clause-tracks : goal.returns-clause-tracks
returns-clause-tracks c view u =
    subst (λ o. Track view c.drive.new.state.moves o (λ whole. whole ≡ done (place_of view c.drive.new.state) (completion_at view c.in_ok-completion.completion)))
    (whole_is c.args.body.now (place_of view c.args.state.now))
    (runs c.in_ok-completion.completion c.in_ok-completion.ensures.leads.to c.requires c.new-frames.ensures refl view u)
