use Rattle.std.proofs.Common.{Ok, refl}
use Rattle.js_reading.specs.Reading.{start}
use Rattle.js_parser.proofs.Spelt.{outcome_spelt, spelt_outcome}
use Rattle.js_parser.proofs.OneOutcome.{one_outcome}
use Rattle.js_parser.proofs.Refused.{Laws, refused_in}
use Rattle.js_parser.proofs.OneRefusal.{one_refusal, refused_apart}
use Rattle.js_parser.proofs.laws.readings.Goals as goal

pub returns-clause-spelt : goal.returns-clause-spelt
returns-clause-spelt c =
    λ text body i.
    let s = outcome_spelt c.one_value.ensures.number text 0 start (Ok body) i body refl in
    record { tokens = s.tokens; tokens_are = s.tokens_are; shape = c.soundness.ensures.shallow s.tokens body s.read; safe = s.safe }

pub returns-clause-read : goal.returns-clause-read
returns-clause-read c =
    λ text body s.
    spelt_outcome c.one_goal.ensures.other c.one_goal.ensures.slash text 0 s.tokens s.tokens_are start body (c.completeness.ensures.shallow s.tokens body s.shape) s.safe

pub returns-clause-one : goal.returns-clause-one
returns-clause-one c =
    λ text a b i j.
    one_outcome (record { token = c.one_token.ensures.token; none = c.one_token.ensures.none; number = c.one_value.ensures.number; text = c.one_value.ensures.text }) text 0 start a b i j

laws : (c : goal.After-viability) → Laws
laws c = record {
  lexing = record { token = c.one_token.ensures.token; none = c.one_token.ensures.none; number = c.one_value.ensures.number; text = c.one_value.ensures.text };
  other = c.one_goal.ensures.other;
  slash = c.one_goal.ensures.slash;
  place = c.one_goal.ensures.place;
  gap = c.one_goal.ensures.gap;
  nothing = c.one_goal.ensures.nothing;
  complete = c.completeness.ensures.whole;
  reached = c.viability.ensures.reached;
}

pub returns-clause-refused : goal.returns-clause-refused
returns-clause-refused c = refused_in (laws c)

pub returns-clause-alone : goal.returns-clause-alone
returns-clause-alone c = one_refusal (laws c)

pub returns-clause-apart : goal.returns-clause-apart
returns-clause-apart c = λ text body e s r. refused_apart (laws c) text s.tokens body s.tokens_are (c.soundness.ensures.whole s.tokens body) (c.completeness.ensures.shallow s.tokens body s.shape) s.safe e r
