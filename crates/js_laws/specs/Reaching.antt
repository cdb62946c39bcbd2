-- This project's own: the states that tokens lead to.
use Rattle.std.specs.Prelude.{◌≡◌, List, [], ◌∷◌, Some}
use Rattle.js_grammar.specs.declared.token.Token.{Token}
use Rattle.js_reading.specs.declared.mode.Parser.{Parser}
use Rattle.js_reading.specs.Reading.{step}

-- the tokens lead from the one state to the other
abbrev pub Reaches : List Token → Parser → Parser → Type 0
Reaches [] p q = p ≡ q
Reaches (t ∷ ts) p q = (m : Parser) × (step p t ≡ Some m) × Reaches ts m q
