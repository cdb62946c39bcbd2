use Rattle.std.proofs.Common.{◌≡◌, List, [], ℕ, sym, subst, arith}
use Rattle.re_parser.specs.Reading.{IsStep, AreBacks, start}
use Rattle.re_parser.specs.declared.reader.Reader.{Reader}
use Rattle.re_parser.proofs.Lifts.{step_start, step_both, step_same, body_fault}
use Rattle.re_parser.proofs.Backs.{backs_start, backs_next}
use Rattle.re_parser.proofs.Wholes.{none_left, stuck_before}
use Rattle.re_parser.proofs.reader.read_all.Goals as goal

pub loop-left-init : goal.loop-left-init
loop-left-init c = subst (λ (q : Reader). IsStep start c.args.units.now (q, c.args.units.now) × AreBacks c.args.units.now q.backs) (sym c.new-reader.ensures) (step_start c.args.units.now, backs_start c.args.units.now)

pub loop-left-preserved : goal.loop-left-preserved
loop-left-preserved c = (
  step_both start c.loop-left.reader c.step.new.reader c.args.units.now c.loop-left.left.now c.in-Ok.behind.now c.loop-left.invariant.0 c.in-Ok.ensures.read.0,
  backs_next c.args.units.now c.loop-left.reader c.step.new.reader c.loop-left.left.now c.loop-left.invariant.0 c.loop-left.invariant.1 c.in-Ok.ensures.read.1,
)

pub returns-in-Err : goal.returns-in-Err
returns-in-Err c = (
  stuck_before start c.loop-left.reader c.args.units.now c.loop-left.left.now c.in-Err.fault (step_same start c.loop-left.reader c.args.units.now c.loop-left.left.now c.loop-left.invariant.0) c.in-Err.ensures.read.0,
  body_fault c.args.units.now c.loop-left.reader c.loop-left.left.now c.loop-left.invariant.0 c.in-Err.fault c.in-Err.ensures.read.1,
)

pub returns : goal.returns
returns c = let ended : c.loop-left.left.now ≡ [] = none_left c.loop-left.left.now (grind (arith, c.loop-left-test.false)) in (subst (λ (q : List ℕ). IsStep start c.args.units.now (c.loop-left.reader, q)) ended c.loop-left.invariant.0, c.loop-left.invariant.1)
