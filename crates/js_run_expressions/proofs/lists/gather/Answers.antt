use Rattle.std.proofs.Common.{refl, map, ap}
use Rattle.term_table.specs.Views.{at}
use Rattle.js_meaning.specs.Parts.{gather}
use Rattle.js_meaning.specs.Meaning.{expr}
use Rattle.js_state.specs.Held.{scope_of}
use Rattle.js_state.specs.Seen.{place_of}
use Rattle.js_frames.specs.Machine.{calling, aimed}
use Rattle.js_frames.proofs.Steps.{stays, pushes, leads, still}
use Rattle.js_frames.proofs.Passing.{list_none, list_more}
use Rattle.js_run_expressions.proofs.lists.gather.Goals as goal

pub returns-in-empty-clause-leads : goal.returns-in-empty-clause-leads
returns-in-empty-clause-leads c = λ st. leads (stays still refl (λ view w. ap (λ es. gather expr es (calling w) w.loops (scope_of c.args.gathered.scope) (map (at view) c.args.gathered.values) (aimed view w c.args.gathered.aim c.args.gathered.scope) (place_of view st)) (list_none c.args.rest.now c.in-empty.len_below)))

pub returns-in_ok-push-in-len1-up-clause-leads : goal.returns-in_ok-push-in-len1-up-clause-leads
returns-in_ok-push-in-len1-up-clause-leads c = λ st. leads (pushes _ still c.in_ok-push-in-len1-up.ensures.ok (λ view w. rw c.get.ensures (ap (λ es. gather expr es (calling w) w.loops (scope_of c.args.gathered.scope) (map (at view) c.args.gathered.values) (aimed view w c.args.gathered.aim c.args.gathered.scope) (place_of view st)) (list_more c.args.rest.now c.first-item.result c.in-len1-up.len_at_least c.first-item.is))))
