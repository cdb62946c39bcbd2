use Rattle.std.proofs.Common.{sym, subst}
use Rattle.std.specs.List.{All}
use Rattle.cnf_core.specs.Literals.{Names}
use Rattle.proof_check.specs.Marking.{is_false}
use Rattle.proof_check.proofs.Known.{known_names, at_number}
use Rattle.proof_check.proofs.Units.{unit_named}
use Rattle.proof_check.proofs.hints.takes_hint.Goals as goal

pub falsify-requires : goal.falsify-requires
falsify-requires c =
    subst (Names c.args.marks.now.variables) (sym c.opposite.ensures)
    (unit_named c.args.marks.now.variables c.args.cnf.now.variables (is_false c.args.marks.now) c.as_slice.result.now c.in-Some-unit.lit
    (subst (All (Names c.args.cnf.now.variables)) (sym c.as_slice.ensures)
    (at_number (All (Names c.args.cnf.now.variables)) _ c.args.hint c.in-Some.clause.now (known_names c.args.cnf.now c.args.earlier.now c.requires.cnf c.requires.earlier) (sym c.in-Some.ensures)))
    c.requires.marks c.in-Some-unit.ensures)
