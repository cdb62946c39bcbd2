-- The tokens that texts have, and scripts that go on by these alone.
use Rattle.std.specs.Prelude.{◌≡◌, ℕ, ◌&&◌, not, nat_le, nat_lt, Bool, true, false, List, [], ◌∷◌, ◌++◌, codes, bytes_eq, Some}
use Rattle.std.specs.List.{list_all, list_any}
use Rattle.js_units.specs.Characters.{is_name_start, is_name_part}
use Rattle.js_units.specs.Words.{reserved_words}
use Rattle.js_ast.specs.declared.operators.BinaryOp.{BinaryOp}
use Rattle.js_ast.specs.declared.operators.BinaryOp.TheVariants as op
use Rattle.js_ast.specs.declared.statement.Stmt.{Stmt}
use Rattle.js_grammar.specs.declared.token.Token.{Token}
use Rattle.js_grammar.specs.declared.token.TokenKind.{TokenKind}
use Rattle.js_grammar.specs.declared.token.TokenKind.TheVariants as k
use Rattle.js_grammar.specs.declared.token.Word.{Word}
use Rattle.js_grammar.specs.declared.token.Word.TheVariants as word
use Rattle.js_grammar.specs.Grammar.{Shape}

-- ECMA-262, section 12.7, within ASCII
unfoldable pub is_name : List ℕ → Bool
is_name [] = false
is_name (u ∷ us) = is_name_start u && list_all is_name_part us

unfoldable pub is_reserved : List ℕ → Bool
is_reserved units = list_any (bytes_eq units) reserved_words

-- the units are the word's own (section 12.7.2); one that the grammar doesn't name is left out here
abbrev pub is_word : Word → List ℕ → Bool
is_word word.Break units = bytes_eq units (codes "break")
is_word word.Catch units = bytes_eq units (codes "catch")
is_word word.Const units = bytes_eq units (codes "const")
is_word word.Continue units = bytes_eq units (codes "continue")
is_word word.Do units = bytes_eq units (codes "do")
is_word word.Else units = bytes_eq units (codes "else")
is_word word.False units = bytes_eq units (codes "false")
is_word word.Finally units = bytes_eq units (codes "finally")
is_word word.For units = bytes_eq units (codes "for")
is_word word.Function units = bytes_eq units (codes "function")
is_word word.If units = bytes_eq units (codes "if")
is_word word.Let units = bytes_eq units (codes "let")
is_word word.New units = bytes_eq units (codes "new")
is_word word.Null units = bytes_eq units (codes "null")
is_word word.Return units = bytes_eq units (codes "return")
is_word word.This units = bytes_eq units (codes "this")
is_word word.Throw units = bytes_eq units (codes "throw")
is_word word.True units = bytes_eq units (codes "true")
is_word word.Try units = bytes_eq units (codes "try")
is_word word.TypeOf units = bytes_eq units (codes "typeof")
is_word word.While units = bytes_eq units (codes "while")
is_word word.Other units = false

-- no comparison is written together with `=` (section 13.15)
abbrev pub may_assign : BinaryOp → Bool
may_assign op.Less = false
may_assign op.Greater = false
may_assign op.LessEqual = false
may_assign op.GreaterEqual = false
may_assign op.Equal = false
may_assign op.NotEqual = false
may_assign _ = true

-- Some text has a token of this kind. A wide number is 2^53; a text may have any code units, by escapes; `/a/` is a
-- pattern. The place and the line flag of a token are free: they say where in a text it stands.
abbrev pub is_spelt : TokenKind → Bool
is_spelt (k.Name units) = is_name units && not (is_reserved units)
is_spelt (k.Word w units) = is_word w units
is_spelt (k.Number n) = nat_le n 9007199254740992
is_spelt (k.Text units) = list_all (λ u. nat_lt u 65536) units
is_spelt (k.Assign (Some o)) = may_assign o
is_spelt _ = true

abbrev pub all_spelt : List Token → Bool
all_spelt ts = list_all (λ t. is_spelt t.kind) ts

-- some script begins with these tokens, and goes on with such alone as texts have
abbrev pub IsViableBySpelt : List Token → Type 0
IsViableBySpelt ts = (more : List Token) × (body : List Stmt) × (all_spelt more ≡ true) × Shape (ts ++ more) body
