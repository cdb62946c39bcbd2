use Rattle.std.proofs.Common.{refl, ap}
use Rattle.js_state.specs.Seen.{place_of, reference_at}
use Rattle.js_frames.specs.Machine.{on_chain}
use Rattle.js_frames.proofs.Steps.{stays, leads, both, still}
use Rattle.js_frames.proofs.Passing.{list_none, list_more}
use Rattle.js_run_expressions.proofs.chains.chain.Goals as goal

pub returns-in-empty-clause-leads : goal.returns-in-empty-clause-leads
returns-in-empty-clause-leads c = leads (stays still refl (λ view w. ap (λ ss. on_chain w ss c.args.scope (reference_at view c.args.reference) (place_of view c.args.state.now)) (list_none c.args.suffixes.now c.in-empty.len_below)))

pub returns-in_ok-work-in-Property-clause-leads : goal.returns-in_ok-work-in-Property-clause-leads
returns-in_ok-work-in-Property-clause-leads c = leads (both (stays still refl (λ view w. rw (c.in-Access.is, c.in-Property.is) at (ap (λ ss. on_chain w ss c.args.scope (reference_at view c.args.reference) (place_of view c.args.state.now)) (list_more c.args.suffixes.now c.first-item.result c.in-len1-up.len_at_least c.first-item.is)))) c.in_ok-work-in-Property.ensures.leads.to)

pub returns-in_ok-work-in-Index-clause-leads : goal.returns-in_ok-work-in-Index-clause-leads
returns-in_ok-work-in-Index-clause-leads c = leads (both (stays still refl (λ view w. rw (c.in-Access.is, c.in-Index.is) at (ap (λ ss. on_chain w ss c.args.scope (reference_at view c.args.reference) (place_of view c.args.state.now)) (list_more c.args.suffixes.now c.first-item.result c.in-len1-up.len_at_least c.first-item.is)))) c.in_ok-work-in-Index.ensures.leads.to)

pub returns-in_ok-work-in-Call-clause-leads : goal.returns-in_ok-work-in-Call-clause-leads
returns-in_ok-work-in-Call-clause-leads c = leads (both (stays still refl (λ view w. rw (c.in-Call.is, ← c.as_slice.ensures) at (ap (λ ss. on_chain w ss c.args.scope (reference_at view c.args.reference) (place_of view c.args.state.now)) (list_more c.args.suffixes.now c.first-item.result c.in-len1-up.len_at_least c.first-item.is)))) c.in_ok-work-in-Call.ensures.leads.to)
