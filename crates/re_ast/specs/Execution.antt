-- One match of a pattern in a text (ECMA-262, section 22.2.7.2, RegExpBuiltinExec, from the place lastIndex on).
use Rattle.std.specs.Prelude.{ℕ, ◌+◌, ◌-◌, List, length, map, flat_map, replicate, Option, None, slice_get, if◌then◌else◌}
use Rattle.std.specs.List.{range_with_len}
use Rattle.re_ast.specs.declared.patterns.Flags.{Flags}
use Rattle.re_ast.specs.declared.patterns.Pattern.{Pattern}
use Rattle.re_ast.specs.Tree.{tree_of}
use Rattle.re_ast.specs.Successes.{Span, State, succ}

-- where a match begins and ends, and what each group captured, group 1 first
pub record Match : Type 0 where
  pub start : ℕ
  pub end : ℕ
  pub captures : List (Option Span)

-- at this place, with no captures
abbrev pub begin : ℕ → ℕ → State
begin groups at = record { place = at; captures = replicate groups None }

abbrev pub match_from : ℕ → State → Match
match_from start t = record { start = start; end = t.place; captures = t.captures }

-- all successes of a match that begins at this place, the best first
abbrev pub successes_at : Pattern → List ℕ → ℕ → List State
successes_at p s start = succ p.flags s (tree_of p.node) (begin p.groups start)

abbrev pub matches_at : Pattern → List ℕ → ℕ → List Match
matches_at p s start = map (match_from start) (successes_at p s start)

-- where a match may begin: from `from` to the text's length, under `y` only at `from`
abbrev pub starts : Flags → List ℕ → ℕ → List ℕ
starts f s from = range_with_len from (if f.sticky then 1 else length s - from + 1)

-- the best match at the least start that has one
abbrev pub exec : Pattern → List ℕ → ℕ → Option Match
exec p s from = slice_get (flat_map (matches_at p s) (starts p.flags s from)) 0
