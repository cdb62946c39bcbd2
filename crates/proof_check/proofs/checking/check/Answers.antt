use Rattle.cnf_core.specs.declared.clauses.Cnf.{Cnf}
use Rattle.cnf_core.specs.declared.clauses.Derivation.{Derivation}
use Rattle.cnf_core.specs.Literals.{HasNoModel}
use Rattle.cnf_core.specs.Derivations.{IsWithin, StepsWithin}
use Rattle.proof_check.specs.declared.checking.Verdict.{Verdict}
use Rattle.proof_check.specs.declared.checking.Verdict.TheVariants.{Yes, BadStep, NoEmpty}
use Rattle.proof_check.specs.Verdicts.{IsVerdict, IsYes}
use Rattle.proof_check.proofs.Sound.{refuted_has_no_model}
use Rattle.proof_check.proofs.checking.check.Goals as goal

sound : (cnf : Cnf) (derivation : Derivation) (verdict : Verdict) → IsWithin cnf → StepsWithin cnf.variables derivation.steps → IsVerdict cnf derivation verdict → IsYes verdict → HasNoModel cnf.clauses
sound cnf derivation Yes within steps is says = refuted_has_no_model cnf derivation within steps is
sound cnf derivation (BadStep step) within steps is says = absurd says
sound cnf derivation NoEmpty within steps is says = absurd says

pub returns-clause-sound : goal.returns-clause-sound
returns-clause-sound c = sound c.args.cnf.now c.args.derivation.now c.judge-verdict.result c.requires.cnf c.requires.derivation c.judge-verdict.ensures.verdict
