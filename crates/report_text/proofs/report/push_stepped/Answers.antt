use Rattle.std.proofs.Common.{append_assoc, ◌++◌, ap, ◌∙◌, List, ℕ}
use Rattle.std.specs.Prelude.{codes}
use Rattle.proof_text.specs.Blocks.{block_text}
use Rattle.report_text.specs.Lines.{head_text}
use Rattle.report_text.proofs.report.push_stepped.Goals as goal

pub returns : goal.returns
returns c =
    c.in_ok-write_block.ensures.ok
    ∙ ap (λ (q : List ℕ). q ++ block_text c.args.cnf.now c.args.derivation.now) c.in_ok-push_head.ensures
    ∙ append_assoc c.args.out.now.items (head_text (codes "unknown steps") c.args.query.now) (block_text c.args.cnf.now c.args.derivation.now)
