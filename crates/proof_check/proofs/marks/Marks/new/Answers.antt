use Rattle.std.proofs.Common.{◌<◌, ap, sym, subst, ◌∙◌, length, lit<}
use Rattle.std.specs.List.{All}
use Rattle.std.proofs.lemmas.List.{length-replicate}
use Rattle.std.proofs.lemmas.List.Elements.{All-replicate}
use Rattle.proof_check.proofs.Stamping.{cleared_by}
use Rattle.proof_check.proofs.marks.Marks.new.Goals as goal

pub returns : goal.returns
returns c =
    let zeros = c.in_ok-vec.ensures.items_if_clones_equal (λ y e. e) in
    cleared_by c.args.variables 1 c.in_ok-vec.field-0.items
    (subst (All (λ s. s < 1)) (sym zeros) (All-replicate (λ s. s < 1) _ 0 (lit< tt)))
    (ap length zeros ∙ (length-replicate _ 0 ∙ c.in-Some.ensures))
