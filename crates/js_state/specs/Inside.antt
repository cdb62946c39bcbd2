-- What a state holds, by its fields.
use Rattle.std.specs.Prelude.{map, length, ◌≤◌}
use Rattle.js_state.specs.declared.state.State.TheInside.{Inside}
use Rattle.js_state.specs.Held.{Contents, cells_of, held_object}
use Rattle.js_state.specs.Fitting.{IsSound}
use Rattle.js_state.specs.Playing.{events_made}

abbrev pub contents_of : Inside → Contents
contents_of s = record {
  inputs = s.inputs;
  keeps = s.keeps;
  allowed = s.allowed;
  cells = cells_of s.names s.heap.cells;
  objects = map (held_object s.closures) s.heap.objects;
  table = s.table;
  moves = s.moves;
  events = s.events;
  turns = s.turns;
  ended = s.ended;
  nodes = s.nodes;
  joins = s.joins;
}

pub record IsState (s : Inside) : Type 0 where
  pub sound : IsSound s.names (length s.closures) s.heap s.table s.inputs
  pub left : s.turns ≤ s.allowed
  pub few : s.allowed ≤ 1000000
  pub made : length (events_made s.moves) ≤ s.events
  pub limit : s.events ≤ 4096
