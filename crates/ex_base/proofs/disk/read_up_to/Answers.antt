use Rattle.std.proofs.Common.{rules, ◌++◌, take, drop}
use Rattle.std.proofs.lemmas.List.{take-append-le}
use Rattle.std.proofs.KnownBytes.{Consumes-trans, Consumes-kept}
use Rattle.ex_base.proofs.disk.read_up_to.Goals as goal
use Rattle.ex_base.proofs.disk.read_up_to.Goals.{in-Ok+in_ok-extend_from_slice-in-Ok, in-Err}

-- what a read gives comes behind what was read, and one that fails takes nothing
pub loop-preserved : goal.loop-preserved
loop-preserved g c = elim c.match-read.branch [
  | in-Ok+in_ok-extend_from_slice-in-Ok w ↦
      let more = take-append-le w.in-Ok.count c.read.new.buf (drop c.if-left-lt4096.wanted c.loop.buffer) w.in-Ok.ensures.bound.0 in
      record { within = search rules; taken = rw w.bytes-is (rw w.in_ok-extend_from_slice-in-Ok.ensures.items (rw more (Consumes-trans (g.R.Read.remaining c.args.reader.now) (g.R.Read.remaining c.loop.reader) (g.R.Read.remaining c.read.new.self) c.loop.bytes.items (take w.in-Ok.count c.read.new.buf) c.loop.invariant.taken w.in-Ok.ensures.bytes.0))) }
  | in-Err w ↦ record { within = rw w.bytes-is c.loop.invariant.within; taken = rw w.bytes-is (Consumes-kept (g.R.Read.remaining c.args.reader.now) (g.R.Read.remaining c.loop.reader) (g.R.Read.remaining c.read.new.self) c.loop.bytes.items c.loop.invariant.taken w.in-Err.ensures.bytes) }
]
