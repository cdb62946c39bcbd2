use Rattle.js_state.proofs.state.State.play.Goals as goal

pub returns-in_ok-completion-in-Value-clause-does : goal.returns-in_ok-completion-in-Value-clause-does
returns-in_ok-completion-in-Value-clause-does c row shows = c.in_ok-completion-in-Value.ensures.does row (λ view a. rw c.in-Value.is at (shows view a))

pub returns-in_ok-completion-in-Stop-clause-does : goal.returns-in_ok-completion-in-Stop-clause-does
returns-in_ok-completion-in-Stop-clause-does c row shows = c.in_ok-completion-in-Stop.ensures.does row (λ view a. rw c.in-Stop.is at (shows view a))

pub returns-in_ok-completion-in-Raise-clause-does : goal.returns-in_ok-completion-in-Raise-clause-does
returns-in_ok-completion-in-Raise-clause-does c row shows = c.in_ok-completion-in-Raise.ensures.does row (λ view a. rw c.in-Raise.is at (shows view a))
