-- What tokens stand for (ECMA-262, sections 12.7 and 12.9).
use Rattle.std.specs.Prelude.{◌≡◌, ℕ, ◌-◌, List, drop, take}
use Rattle.js_lexer.specs.Texts.{IsText}
use Rattle.js_lexer.specs.Patterns.{IsPattern}
use Rattle.js_lexer.specs.declared.token.Token.{Token}
use Rattle.js_lexer.specs.declared.token.TokenKind.{TokenKind}
use Rattle.js_lexer.specs.declared.token.TokenKind.TheVariants as k

-- the string value of a text, the body of a pattern, and the units of a name or word
abbrev pub Stands : TokenKind → List ℕ → Token → List ℕ → Type 0
Stands k.Text text t value = IsText (drop t.start text) value (drop t.end text)
Stands k.Pattern text t value = (flags : List ℕ) × IsPattern (drop t.start text) value flags (drop t.end text)
Stands _ text t value = value ≡ take (t.end - t.start) (drop t.start text)

-- the kinds that have one
abbrev pub HasUnits : TokenKind → Type 0
HasUnits k.Name = Unit {0}
HasUnits k.Word = Unit {0}
HasUnits k.Text = Unit {0}
HasUnits k.Pattern = Unit {0}
HasUnits _ = ⊥

-- the flags of a pattern
abbrev pub IsFlags : List ℕ → Token → List ℕ → Type 0
IsFlags text t flags = (body : List ℕ) × IsPattern (drop t.start text) body flags (drop t.end text)
