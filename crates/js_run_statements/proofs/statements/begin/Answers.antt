use Rattle.std.proofs.Common.{refl, ap}
use Rattle.term_table.specs.declared.shadow.Plain.TheVariants.{Undefined}
use Rattle.term_table.proofs.Views.{at_plain}
use Rattle.js_meaning.specs.Values.{undefined}
use Rattle.js_meaning.specs.Running.{Outcome, done, normal, breaks, continues, returns}
use Rattle.js_meaning.specs.Blocks.{block, declare}
use Rattle.js_meaning.specs.Meaning.{expr, stmts}
use Rattle.js_state.specs.Held.{scope_of}
use Rattle.js_state.specs.Seen.{place_of}
use Rattle.js_frames.specs.Machine.{calling, doing}
use Rattle.js_frames.proofs.Steps.{leads_from}
use Rattle.js_frames.proofs.Statements as opens
use Rattle.js_frames.proofs.Going.{needs_arms}
use Rattle.js_run_statements.proofs.statements.begin.Goals as goal

pub returns-in-Block-clause-leads : goal.returns-in-Block-clause-leads
returns-in-Block-clause-leads c = leads_from (c.counted.ensures.leads c.args.frames.now (λ view w. doing w (block c.as_slice.result.now (stmts c.as_slice.result.now)) c.args.scope) (λ view w st. refl)) (λ view w. rw (c.in-Block.is, opens.stmt_Block, ← c.as_slice.ensures) refl)

pub returns-in-Nothing-clause-leads : goal.returns-in-Nothing-clause-leads
returns-in-Nothing-clause-leads c = leads_from (c.counted-in-Nothing.ensures.leads c.args.frames.now (λ view w st. done st normal) (λ view w st. refl)) (λ view w. rw (c.in-Nothing.is, opens.stmt_Nothing) refl)

pub returns-in-Declare-clause-leads : goal.returns-in-Declare-clause-leads
returns-in-Declare-clause-leads c = leads_from (c.counted-in-Declare.ensures.leads c.args.frames.now (λ view w st. declare expr c.as_slice-in-Declare.result.now (calling w) w.loops (scope_of c.args.scope) st) (λ view w st. refl)) (λ view w. rw (c.in-Declare.is, opens.stmt_Declare, ← c.as_slice-in-Declare.ensures) refl)

pub returns-in-Function-clause-leads : goal.returns-in-Function-clause-leads
returns-in-Function-clause-leads c = leads_from (c.counted-in-Function.ensures.leads c.args.frames.now (λ view w st. done st normal) (λ view w st. refl)) (λ view w. rw (c.in-Function.is, opens.stmt_Function) refl)

pub returns-in_ok-work-in-Express-clause-leads : goal.returns-in_ok-work-in-Express-clause-leads
returns-in_ok-work-in-Express-clause-leads c = leads_from c.in_ok-work-in-Express.ensures.leads (λ view w. rw (c.in-Express.is, opens.stmt_Express) refl)

pub returns-in_ok-work-in-If-clause-leads : goal.returns-in_ok-work-in-If-clause-leads
returns-in_ok-work-in-If-clause-leads c = leads_from c.in_ok-work-in-If.ensures.leads (λ view w. rw (c.in-If.is, opens.stmt_If, ← c.as_slice-in-If.ensures) refl)

pub returns-in_ok-work-in-If-clause-falls : goal.returns-in_ok-work-in-If-clause-falls
returns-in_ok-work-in-If-clause-falls c n = c.in_ok-work-in-If.ensures.counts (rw c.as_slice-in-If.ensures (needs_arms _ _ _ c.in-If.is n))

pub returns-in-Break-clause-leads : goal.returns-in-Break-clause-leads
returns-in-Break-clause-leads c = leads_from (c.counted-in-Break.ensures.leads c.args.frames.now (λ view w st. done st breaks) (λ view w st. refl)) (λ view w. rw (c.in-Break.is, opens.stmt_Break) refl)

pub returns-in-Continue-clause-leads : goal.returns-in-Continue-clause-leads
returns-in-Continue-clause-leads c = leads_from (c.counted-in-Continue.ensures.leads c.args.frames.now (λ view w st. done st continues) (λ view w st. refl)) (λ view w. rw (c.in-Continue.is, opens.stmt_Continue) refl)

pub returns-in-None-clause-leads : goal.returns-in-None-clause-leads
returns-in-None-clause-leads c = leads_from (c.counted-in-None.ensures.leads c.args.frames.now (λ view w st. done st (returns undefined)) (λ view w st. ap {B = Outcome} (λ x. done (place_of view st) (returns x)) (at_plain view Undefined))) (λ view w. rw (c.in-Return.is, c.in-None.is, opens.stmt_Return_None) refl)

pub returns-in_ok-work-in-Some-clause-leads : goal.returns-in_ok-work-in-Some-clause-leads
returns-in_ok-work-in-Some-clause-leads c = leads_from c.in_ok-work-in-Some.ensures.leads (λ view w. rw (c.in-Return.is, c.in-Some.is, opens.stmt_Return_Some) refl)

pub returns-in_ok-work-in-Throw-clause-leads : goal.returns-in_ok-work-in-Throw-clause-leads
returns-in_ok-work-in-Throw-clause-leads c = leads_from c.in_ok-work-in-Throw.ensures.leads (λ view w. rw (c.in-Throw.is, opens.stmt_Throw) refl)

pub returns-in_ok-work-in-Try-clause-leads : goal.returns-in_ok-work-in-Try-clause-leads
returns-in_ok-work-in-Try-clause-leads c = rw (c.in-Try.is, ← c.as_slice-in-Try.ensures) c.in_ok-work-in-Try.ensures.leads

pub returns-in_ok-work-in-While-clause-leads : goal.returns-in_ok-work-in-While-clause-leads
returns-in_ok-work-in-While-clause-leads c = rw c.in-While.is c.in_ok-work-in-While.ensures.leads

pub returns-in_ok-work-in-Do-clause-leads : goal.returns-in_ok-work-in-Do-clause-leads
returns-in_ok-work-in-Do-clause-leads c = rw c.in-Do.is c.in_ok-work-in-Do.ensures.leads

pub returns-in_ok-work-in-For-clause-leads : goal.returns-in_ok-work-in-For-clause-leads
returns-in_ok-work-in-For-clause-leads c = rw c.in-For.is c.in_ok-work-in-For.ensures.leads

pub returns-in_ok-work-in-ForOf-clause-leads : goal.returns-in_ok-work-in-ForOf-clause-leads
returns-in_ok-work-in-ForOf-clause-leads c = rw c.in-ForOf.is c.in_ok-work-in-ForOf.ensures.leads
