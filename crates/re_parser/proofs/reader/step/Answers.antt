use Rattle.std.proofs.Common.{sym, arith}
use Rattle.std.specs.Prelude.{nat_le}
use Rattle.std.proofs.lemmas.Bool.{leb-true, leb-false}
use Rattle.re_parser.proofs.Turning.{turn_answers, no_piece, faults_seen}
use Rattle.re_parser.proofs.reader.step.Goals as goal

pub returns-in_default-clause-read : goal.returns-in_default-clause-read
returns-in_default-clause-read c = no_piece c.args.reader.now c.args.units.now (nat_le 100 c.len-deep.result) c.piece_fault.result (λ d. omega (arith, leb-true 100 c.len-deep.result d, c.len-deep.ensures)) (λ d. omega (arith, leb-false 100 c.len-deep.result d, c.len-deep.ensures)) c.requires (sym c.in_default.ensures.read) c.piece_fault.ensures

pub returns-clause-read : goal.returns-clause-read
returns-clause-read c = turn_answers c.args.reader.now c.args.units.now c.in-Some.piece c.in-Some.rest.now (sym c.in-Some.ensures.read) _ c.turn.ensures.read (faults_seen _ _ _ _ c.turn.result c.turn.ensures.faults)
