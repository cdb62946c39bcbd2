-- Objects by their numbers.
use Rattle.std.specs.Prelude.{ℕ, [], slice_index_or}
use Rattle.js_meaning.specs.Values.{Class, plain, array, matched, function, regexp, error}
use Rattle.js_state.specs.declared.properties.Kind.{Kind}
use Rattle.js_state.specs.declared.properties.Kind.TheVariants as kind
use Rattle.js_state.specs.Held.{Contents, Held, code_of, no_pattern}

abbrev pub class_kind : Kind → Class
class_kind kind.Plain = plain
class_kind kind.Array = array
class_kind kind.Match = matched
class_kind (kind.Function f) = function (code_of f)
class_kind (kind.Pattern literal) = regexp literal no_pattern
class_kind (kind.Error name engine) = error name engine

-- one that isn't there counts as a plain one
abbrev pub bare : Held
bare = record { class = plain; properties = []; items = [] }

abbrev pub held_at : Contents → ℕ → Held
held_at st o = slice_index_or st.objects o bare
