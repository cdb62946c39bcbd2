use Rattle.js_ends.proofs.Likeness.{paths_alike, outcome_leads}
use Rattle.js_ends.proofs.alike.paths_alike.Goals as goal

pub returns : goal.returns
returns c = record { alike = λ view moves failed end w u h k. paths_alike view moves failed end w u h k; outcome = λ view moves failed end r h. outcome_leads view moves failed end r h }
