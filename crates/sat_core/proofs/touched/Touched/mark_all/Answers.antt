use Rattle.std.proofs.Common.{◌-◌, unsigned_abs, length, sym, subst, arith, refl}
use Rattle.std.proofs.lemmas.List.Elements.{All-get_or}
use Rattle.cnf_core.specs.Literals.{Names}
use Rattle.sat_core.proofs.Cuts.{marks_more}
use Rattle.sat_core.proofs.touched.Touched.mark_all.Goals as goal

pub loop-lit-preserved : goal.loop-lit-preserved
loop-lit-preserved c =
    let clause = c.args.clause.now in
    let i = c.loop-lit.lit-index in
    let l = c.lit-item.result in
    let w = c.loop-lit-test.true in
    let named : Names (length c.args.self.now) l = subst (Names (length c.args.self.now)) (sym c.lit-item.is) (All-get_or (Names (length c.args.self.now)) clause i l w c.requires) in
    let a = named.0 in
    let b = named.1 in
    let long = c.loop-lit.invariant.long in
    marks_more c.args.self.now c.loop-lit.self c.mark.new.self clause i l (unsigned_abs l - 1) w c.lit-item.is refl (omega (arith, a, b, long)) c.loop-lit.invariant c.mark.ensures
