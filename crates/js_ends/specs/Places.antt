-- Tokens that stand one behind another, as byte offsets.
use Rattle.std.specs.Prelude.{ℕ, ◌<◌, List, [], ◌∷◌}
use Rattle.js_grammar.specs.declared.token.Token.{Token}

-- the place of the first token, or of the end
abbrev pub place : ℕ → List Token → ℕ
place end [] = end
place end (t ∷ ts) = t.start

-- each token stands before the one behind it, and the last before the end
abbrev pub AreRising : ℕ → List Token → Type 0
AreRising end [] = Unit {0}
AreRising end (t ∷ ts) = (t.start < place end ts) × AreRising end ts
