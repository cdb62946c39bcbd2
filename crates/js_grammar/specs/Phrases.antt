-- What the grammar is written with: tokens at the front of others, levels of operators, and where a statement may end.
use Rattle.std.specs.Prelude.{◌≡◌, ◌⊎◌, ℕ, ◌==◌, ◌&&◌, ◌||◌, not, Bool, true, false, List, [], ◌∷◌, codes, bytes_eq, if◌then◌else◌, Option, Some, None}
use Rattle.js_ast.specs.declared.operators.BinaryOp.{BinaryOp}
use Rattle.js_ast.specs.declared.operators.BinaryOp.TheVariants as op
use Rattle.js_ast.specs.declared.operators.UnaryOp.{UnaryOp}
use Rattle.js_ast.specs.declared.operators.UnaryOp.TheVariants as unary
use Rattle.js_ast.specs.declared.parts.Identifier.{Identifier}
use Rattle.js_grammar.specs.declared.token.Token.{Token}
use Rattle.js_grammar.specs.declared.token.TokenKind.{TokenKind}
use Rattle.js_grammar.specs.declared.token.TokenKind.TheVariants as k
use Rattle.js_grammar.specs.declared.token.Word.{Word}
use Rattle.js_grammar.specs.declared.token.Word.TheVariants as word

-- a token of that kind at that byte offset, and what is left
pub record Begins (ts : List Token) (kind : TokenKind) (start : ℕ) (rest : List Token) : Type 0 where
  pub line : Bool
  pub begins : ts ≡ record { kind = kind; start = start; line_before = line } ∷ rest

-- the same, on the line of the token before it
abbrev pub Beside : List Token → TokenKind → ℕ → List Token → Type 0
Beside ts kind start rest = ts ≡ record { kind = kind; start = start; line_before = false } ∷ rest

-- a reserved word
abbrev pub IsWord : List Token → Word → ℕ → List Token → Type 0
IsWord ts w start rest = (units : List ℕ) × Begins ts (k.Word w units) start rest

-- a name that isn't reserved (ECMA-262, section 13.1)
pub record IsIdentifier (ts : List Token) (name : Identifier) (rest : List Token) : Type 0 where
  pub begins : Begins ts (k.Name name.name) name.site rest

-- a word, reserved or not (section 12.7, IdentifierName)
abbrev pub IsIdentifierName : List Token → List ℕ → ℕ → List Token → Type 0
IsIdentifierName ts units start rest = Begins ts (k.Name units) start rest ⊎ ((w : Word) × Begins ts (k.Word w units) start rest)

-- the first token's place
abbrev pub start_of : List Token → ℕ
start_of [] = 0
start_of (t ∷ ts) = t.start

abbrev pub on_same_line : List Token → Bool
on_same_line [] = false
on_same_line (t ∷ ts) = not t.line_before

-- whether the first token passes
abbrev pub starts : (TokenKind → Bool) → List Token → Bool
starts passes [] = false
starts passes (t ∷ ts) = passes t.kind

abbrev pub is_open_brace : TokenKind → Bool
is_open_brace k.OpenBrace = true
is_open_brace _ = false

abbrev pub is_function : TokenKind → Bool
is_function (k.Word word.Function units) = true
is_function _ = false

abbrev pub is_if : TokenKind → Bool
is_if (k.Word word.If units) = true
is_if _ = false

abbrev pub is_else : TokenKind → Bool
is_else (k.Word word.Else units) = true
is_else _ = false

-- ---- operators

-- the rows of binary operators, the tightest first (sections 13.7 to 13.12)
abbrev pub level : BinaryOp → ℕ
level op.Multiply = 1
level op.Divide = 1
level op.Remainder = 1
level op.Add = 2
level op.Subtract = 2
level op.ShiftLeft = 3
level op.ShiftRight = 3
level op.ShiftRightZero = 3
level op.Less = 4
level op.Greater = 4
level op.LessEqual = 4
level op.GreaterEqual = 4
level op.Equal = 5
level op.NotEqual = 5
level op.BitAnd = 6
level op.BitXor = 7
level op.BitOr = 8

-- the row that has them all
abbrev pub loosest : ℕ
loosest = 8

-- what the token is before an operand (section 13.5)
abbrev pub prefix : TokenKind → Option UnaryOp
prefix (k.Binary op.Add) = Some unary.Plus
prefix (k.Binary op.Subtract) = Some unary.Minus
prefix k.Not = Some unary.Not
prefix k.Complement = Some unary.Complement
prefix (k.Word word.TypeOf units) = Some unary.TypeOf
prefix _ = None

-- ---- names

-- a name declared in the head of a `for` isn't `of`
abbrev pub is_of : List ℕ → Bool
is_of name = bytes_eq name (codes "of")

-- the key that isn't one of an object's own (section B.3.1)
abbrev pub is_proto : List ℕ → Bool
is_proto name = bytes_eq name (codes "__proto__")

-- ---- where a statement ends (section 12.10)

-- what the expression in front of the end ends in; or there is none
pub data Tail : Type 0 where
  no_expression : Tail
  call : Tail
  step : Tail
  braces : Tail

-- the tokens that go on with the expression; a mark of assignment or `??` behind an expression that can't take it
-- begins no statement either
abbrev pub continues : Tail → TokenKind → Bool
continues call (k.Binary o) = true
continues call (k.Logical o) = true
continues call (k.Assign o) = true
continues call k.Question = true
continues call k.Dot = true
continues call k.OpenRound = true
continues call k.OpenSquare = true
continues call k.Pattern = true
continues step (k.Binary o) = true
continues step (k.Logical o) = true
continues step k.Question = true
continues step k.Pattern = true
continues _ _ = false

abbrev pub is_close_brace : TokenKind → Bool
is_close_brace k.CloseBrace = true
is_close_brace _ = false

abbrev pub is_semicolon : TokenKind → Bool
is_semicolon k.Semicolon = true
is_semicolon _ = false

-- no semicolon is needed before these tokens
abbrev pub may_end : Tail → List Token → Bool
may_end tail [] = true
may_end tail (t ∷ ts) = is_close_brace t.kind || (t.line_before && not (is_semicolon t.kind) && not (continues tail t.kind))

-- `;`, or nothing
abbrev pub IsEnd : Tail → List Token → List Token → Type 0
IsEnd tail ts rest = ((start : ℕ) × Begins ts k.Semicolon start rest) ⊎ ((ts ≡ rest) × (may_end tail ts ≡ true))

-- the end of a `do`, where nothing will always do
abbrev pub IsDoEnd : List Token → List Token → Type 0
IsDoEnd ts rest = ((start : ℕ) × Begins ts k.Semicolon start rest) ⊎ ((ts ≡ rest) × (starts is_semicolon ts ≡ false))

-- ---- where a part stands

pub record Context : Type 0 where
  -- `break` and `continue` may stand
  pub in_loop : Bool
  -- `return` may stand
  pub in_function : Bool
  -- `this` may stand: a function that isn't only arrows is around
  pub has_this : Bool

abbrev pub outermost : Context
outermost = record { in_loop = false; in_function = false; has_this = false }

abbrev pub looping : Context → Context
looping c = record c { in_loop = true }

abbrev pub in_body : Context
in_body = record { in_loop = false; in_function = true; has_this = true }

abbrev pub in_arrow : Context → Context
in_arrow c = record c { in_loop = false; in_function = true }
