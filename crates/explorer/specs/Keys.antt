-- The fingerprint of a path: a number that equal paths share.
use Rattle.std.specs.Prelude.{◌≡◌, ℕ, ◌+◌, ◌*◌, ◌%◌, Bool, List, [], ◌∷◌}
use Rattle.path_core.specs.declared.path.Event.{Event}
use Rattle.path_core.specs.declared.path.Event.TheVariants as event
use Rattle.path_core.specs.declared.path.Path.{Path}
use Rattle.explorer.specs.declared.keys.Key.{Key}
use Rattle.explorer.specs.SamePaths.{same_path}

-- one number more, modulo the prime 2^31 - 1
abbrev pub mixed : ℕ → ℕ → ℕ
mixed sum n = (sum * 1000003 + n) % 2147483647

abbrev pub mixed_all : ℕ → List ℕ → ℕ
mixed_all sum [] = sum
mixed_all sum (n ∷ ns) = mixed_all (mixed sum n) ns

abbrev pub mixed_event : ℕ → Event → ℕ
mixed_event sum (event.Pick site kind out ways) = mixed (mixed sum site) out
mixed_event sum (event.Value site text) = mixed_all (mixed sum site) text

abbrev pub mixed_events : ℕ → List Event → ℕ
mixed_events sum [] = sum
mixed_events sum (e ∷ es) = mixed_events (mixed_event sum e) es

abbrev pub fingerprint : Path → ℕ
fingerprint path = mixed_events 0 path.events

abbrev pub same_key : Key → Key → Bool
same_key a b = same_path a.path b.path
