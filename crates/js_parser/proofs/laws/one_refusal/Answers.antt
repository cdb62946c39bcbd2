use Rattle.js_parser.proofs.OneReason.{Texts, one_reason, none_apart}
use Rattle.js_parser.proofs.laws.one_refusal.Goals as goal

texts : (c : goal.After-readings) → Texts
texts c = record { reading = c.readings.ensures.read; one = c.readings.ensures.one; alone = c.readings.ensures.alone; apart = c.readings.ensures.apart }

pub returns-clause-alone : goal.returns-clause-alone
returns-clause-alone c = one_reason (texts c)

pub returns-clause-apart : goal.returns-clause-apart
returns-clause-apart c = none_apart (texts c)
