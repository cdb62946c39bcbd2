-- Regular expression literals (ECMA-262, section 12.9.5).
use Rattle.std.specs.Prelude.{◌≡◌, ℕ, ◌==◌, ◌&&◌, ◌||◌, not, Bool, true, false, List, ◌∷◌, ◌++◌, if◌then◌else◌}
use Rattle.js_units.specs.Characters.{is_line_end}
use Rattle.js_lexer.specs.Classes.{is_flag}
use Rattle.js_lexer.specs.Runs.{starts, IsRun}

-- no line end and no backslash, and a `/` only in a class
unfoldable pub is_body_unit : Bool → ℕ → Bool
is_body_unit in_class u = not (is_line_end u || u == 92 || (u == 47 && not in_class))

-- whether what follows the unit is in a class
unfoldable pub class_behind : Bool → ℕ → Bool
class_behind in_class u = if u == 91 then true else (if u == 93 then false else in_class)

-- The units go on to the slash that closes the body, and the rest stands behind it.
pub data IsBody : Bool → List ℕ → List ℕ → Type 0 where
  body_closes : (rest : List ℕ) → IsBody false (47 ∷ rest) rest
  body_unit : (in_class : Bool) (u : ℕ) (units rest : List ℕ) → is_body_unit in_class u ≡ true → IsBody (class_behind in_class u) units rest → IsBody in_class (u ∷ units) rest
  body_escape : (in_class : Bool) (u : ℕ) (units rest : List ℕ) → is_line_end u ≡ false → IsBody in_class units rest → IsBody in_class (92 ∷ u ∷ units) rest

-- what would begin a comment
unfoldable pub begins_comment : ℕ → Bool
begins_comment u = u == 42 || u == 47

-- The units begin with a pattern of this body and these flags, and the rest stands behind it.
pub record IsPattern (units body flags rest : List ℕ) : Type 0 where
  pub behind : List ℕ
  pub units_are : units ≡ 47 ∷ body ++ 47 ∷ behind
  pub begins : starts begins_comment (body ++ 47 ∷ behind) ≡ false
  pub closes : IsBody false (body ++ 47 ∷ behind) behind
  pub flags_are : IsRun is_flag behind flags rest
