use Rattle.std.proofs.Common.{sym}
use Rattle.commands.specs.TopCall.{IsDecided}
use Rattle.commands.proofs.Faults.{as_told, first_failed, first_long, second_failed, second_long}
use Rattle.commands.proofs.decide.decide.Goals as goal

pub returns-in-Err-Failed-clause-decided : goal.returns-in-Err-Failed-clause-decided
returns-in-Err-Failed-clause-decided g c =
    as_told c.told.result _ _ (λ n t. IsDecided _ _ n t) c.told.ensures.number c.told.ensures.text (first_failed _ _ (c.in-Some.names.0.now, c.in-Some.names.1.now) (sym c.in-Some.ensures) (rw c.in-Err-Failed.field-0-is at c.in-Err-Failed.ensures.answer))

pub returns-in-Err-TooLong-clause-decided : goal.returns-in-Err-TooLong-clause-decided
returns-in-Err-TooLong-clause-decided g c =
    as_told c.told-in-Err-TooLong.result _ _ (λ n t. IsDecided _ _ n t) c.told-in-Err-TooLong.ensures.number c.told-in-Err-TooLong.ensures.text (first_long _ _ (c.in-Some.names.0.now, c.in-Some.names.1.now) (sym c.in-Some.ensures) (rw c.in-Err-TooLong.field-0-is at c.in-Err-TooLong.ensures.answer))

pub returns-in-Err-Failed-load-clause-decided : goal.returns-in-Err-Failed-load-clause-decided
returns-in-Err-Failed-load-clause-decided g c =
    as_told c.told-in-Err-Failed-load.result _ _ (λ n t. IsDecided _ _ n t) c.told-in-Err-Failed-load.ensures.number c.told-in-Err-Failed-load.ensures.text (second_failed _ _ (c.in-Some.names.0.now, c.in-Some.names.1.now) _ _ c.in-Ok.bytes.items (sym c.in-Some.ensures) c.in-Ok.ensures.answer (rw c.in-Err-Failed-load.field-0-is at c.in-Err-Failed-load.ensures.answer))

pub returns-in-Err-TooLong-load-clause-decided : goal.returns-in-Err-TooLong-load-clause-decided
returns-in-Err-TooLong-load-clause-decided g c =
    as_told c.told-in-Err-TooLong-load.result _ _ (λ n t. IsDecided _ _ n t) c.told-in-Err-TooLong-load.ensures.number c.told-in-Err-TooLong-load.ensures.text (second_long _ _ (c.in-Some.names.0.now, c.in-Some.names.1.now) _ _ _ c.in-Ok.bytes.items (sym c.in-Some.ensures) c.in-Ok.ensures.same c.in-Ok.ensures.answer (rw c.in-Err-TooLong-load.field-0-is at c.in-Err-TooLong-load.ensures.answer))
