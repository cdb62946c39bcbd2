-- The marks (ECMA-262, section 12.8).
use Rattle.std.specs.Prelude.{ℕ, Bool, List, [], ◌∷◌, codes, bytes_eq}
use Rattle.std.specs.List.{list_any}

abbrev pub is_among : List (List ℕ) → List ℕ → Bool
is_among table units = list_any (λ entry. bytes_eq entry units) table

unfoldable pub marks : List (List ℕ)
marks =
    codes "{" ∷ codes "}" ∷ codes "(" ∷ codes ")" ∷ codes "[" ∷ codes "]" ∷ codes "." ∷ codes ";"
    ∷ codes "," ∷ codes "<" ∷ codes ">" ∷ codes "<=" ∷ codes ">=" ∷ codes "===" ∷ codes "!==" ∷ codes "+"
    ∷ codes "-" ∷ codes "*" ∷ codes "/" ∷ codes "%" ∷ codes "++" ∷ codes "--" ∷ codes "<<" ∷ codes ">>"
    ∷ codes ">>>" ∷ codes "&" ∷ codes "|" ∷ codes "^" ∷ codes "!" ∷ codes "~" ∷ codes "&&" ∷ codes "||"
    ∷ codes "??" ∷ codes "?" ∷ codes ":" ∷ codes "=" ∷ codes "+=" ∷ codes "-=" ∷ codes "*=" ∷ codes "/="
    ∷ codes "%=" ∷ codes "<<=" ∷ codes ">>=" ∷ codes ">>>=" ∷ codes "&=" ∷ codes "|=" ∷ codes "^="
    ∷ codes "=>" ∷ []

-- marks of the standard that this language leaves out, and the start of an HTML-like comment
-- (section B.1.1)
unfoldable pub refused_marks : List (List ℕ)
refused_marks =
    codes "..." ∷ codes "**" ∷ codes "&&=" ∷ codes "||=" ∷ codes "??=" ∷ codes "==" ∷ codes "!="
    ∷ codes "<!--" ∷ []
