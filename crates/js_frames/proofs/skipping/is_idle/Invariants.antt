use Rattle.std.proofs.Common.{◌≡◌}
use Rattle.js_meaning.specs.Meaning.{stmt}
use Rattle.js_frames.specs.Idle.{is_idle}
use Rattle.js_frames.proofs.skipping.is_idle.Given as goal

abbrev pub invariant-down : goal.invariant-down
invariant-down l = record {
  means : stmt l.part ≡ stmt l.fn.tree;
  idle : is_idle l.part ≡ is_idle l.fn.tree;
}
