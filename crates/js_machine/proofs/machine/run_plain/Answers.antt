use Rattle.std.proofs.Common.{None, sym}
use Rattle.js_machine.proofs.Paths.{own_path}
use Rattle.js_machine.proofs.machine.run_plain.Goals as goal

pub returns-clause-path : goal.returns-clause-path
returns-clause-path c =
    let tracks = (rw (c.as_slice.ensures, c.in_ok-state.ensures.place None) at (c.in_ok-completion.ensures.tracks None tt)) in
    rw (c.in_ok-events.ensures.made, c.end-end.ensures None) (sym (own_path _ _ _ _ tracks))
