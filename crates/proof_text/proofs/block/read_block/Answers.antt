use Rattle.std.proofs.Common.{ℕ, List, sym, ap, subst, ◌∙◌}
use Rattle.proof_text.specs.Answers.{spelling, HasSpelling}
use Rattle.proof_text.specs.Refusals.{IsFirstWrong}
use Rattle.proof_text.specs.BlockReading.{block_at}
use Rattle.proof_text.specs.Counted.{seen}
use Rattle.proof_text.proofs.Answering.{shorter_wrong, answers_line, shorter_rest, answers_block}
use Rattle.proof_text.proofs.block.read_block.Goals as goal

pub block_before-requires : goal.block_before-requires
block_before-requires c =
    shorter_rest c.args.bytes.now c.args.at c.in-Ok-read.found c.in-Ok-read.rest.now
    (ap block_at (sym c.bytes_from-list.ensures) ∙ sym c.in-Ok.ensures ∙ ap seen c.in-Ok-read.is)

pub line_at-requires : goal.line_at-requires
line_at-requires c = shorter_wrong c.bytes_from-list.result.now c.in-Err-read.wrong.now (sym c.in-Ok.ensures ∙ ap seen c.in-Err-read.is)

pub returns-in-Ok-read : goal.returns-in-Ok-read
returns-in-Ok-read c =
    answers_block c.args.bytes.now c.args.at c.in-Ok-read.found c.in-Ok-read.rest.now c.block_before.result
    (ap block_at (sym c.bytes_from-list.ensures) ∙ sym c.in-Ok.ensures ∙ ap seen c.in-Ok-read.is)
    c.block_before.ensures.cnf c.block_before.ensures.derivation c.block_before.ensures.end

pub returns-in-Err-read : goal.returns-in-Err-read
returns-in-Err-read c =
    subst (λ (q : List ℕ). IsFirstWrong spelling HasSpelling q c.line_at.result) c.bytes_from-list.ensures
    (answers_line c.bytes_from-list.result.now c.in-Err-read.wrong.now (sym c.in-Ok.ensures ∙ ap seen c.in-Err-read.is) c.line_at.result c.line_at.ensures)
