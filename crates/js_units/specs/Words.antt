-- The words that no name may be (ECMA-262, section 12.7.2, with the names that strict code may not bind).
use Rattle.std.specs.Prelude.{ℕ, List, map}
use Rattle.js_units.specs.declared.words.TheConstants.{RESERVED_WORDS}

-- each as the list of its bytes
unfoldable pub reserved_words : List (List ℕ)
reserved_words = map (λ word. word.now) RESERVED_WORDS
