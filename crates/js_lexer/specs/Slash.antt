-- Where the goal decides what is next.
use Rattle.std.specs.Prelude.{ℕ, ◌==◌, Bool, List}
use Rattle.js_lexer.specs.Runs.{starts}

-- a `/` is the first unit
abbrev pub begins_slash : List ℕ → Bool
begins_slash units = starts (λ u. u == 47) units
