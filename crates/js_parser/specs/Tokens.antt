-- What a token of the lexer is in the grammar (ECMA-262, sections 12.7.2 and 12.8).
use Rattle.std.specs.Prelude.{◌≡◌, ℕ, ◌-◌, List, [], ◌∷◌, drop, take, codes, bytes_eq, cond, Option, Some, None}
use Rattle.js_ast.specs.declared.operators.BinaryOp.TheVariants as op
use Rattle.js_ast.specs.declared.operators.LogicalOp.TheVariants as logic
use Rattle.js_ast.specs.declared.operators.StepOp.TheVariants as step
use Rattle.js_grammar.specs.declared.token.Token.{Token}
use Rattle.js_grammar.specs.declared.token.TokenKind.{TokenKind}
use Rattle.js_grammar.specs.declared.token.TokenKind.TheVariants as k
use Rattle.js_grammar.specs.declared.token.Word.{Word}
use Rattle.js_grammar.specs.declared.token.Word.TheVariants as word
use Rattle.js_lexer.specs.Numbers.{IsNumeral}
use Rattle.js_lexer.specs.Texts.{IsText}
use Rattle.js_lexer.specs.Tokens.{IsNext}
use Rattle.js_lexer.specs.declared.token.Token.{Token as Lexed}
use Rattle.js_lexer.specs.declared.token.TokenKind.{TokenKind as LexedKind}
use Rattle.js_lexer.specs.declared.token.TokenKind.TheVariants as lexed
use Rattle.js_lexer.specs.declared.token.Goal.{Goal}
use Rattle.js_lexer.specs.declared.token.Goal.TheVariants as goal
use Rattle.js_reading.specs.declared.mode.Mode.{Mode}
use Rattle.js_reading.specs.declared.mode.Mode.TheVariants as mode
use Rattle.js_reading.specs.declared.mode.Operand.{Operand}
use Rattle.js_reading.specs.declared.mode.Operand.TheVariants as operand
use Rattle.js_parser.specs.Places.{byte_at}
use Rattle.js_parser.specs.declared.tokens.Mark.{Mark}
use Rattle.js_parser.specs.declared.tokens.Mark.TheVariants as mark

-- the entry with these units
abbrev pub entry : {A : Type 0} → List (List ℕ × A) → List ℕ → Option A
entry [] units = None
entry (e ∷ es) units = cond (bytes_eq e.0 units) (Some e.1) (entry es units)

unfoldable pub marks : List (List ℕ × Mark)
marks =
    (codes "{", mark.OpenBrace) ∷ (codes "}", mark.CloseBrace) ∷ (codes "(", mark.OpenRound) ∷ (codes ")", mark.CloseRound)
    ∷ (codes "[", mark.OpenSquare) ∷ (codes "]", mark.CloseSquare) ∷ (codes ".", mark.Dot) ∷ (codes ";", mark.Semicolon)
    ∷ (codes ",", mark.Comma) ∷ (codes "<", mark.Binary op.Less) ∷ (codes ">", mark.Binary op.Greater)
    ∷ (codes "<=", mark.Binary op.LessEqual) ∷ (codes ">=", mark.Binary op.GreaterEqual) ∷ (codes "===", mark.Binary op.Equal)
    ∷ (codes "!==", mark.Binary op.NotEqual) ∷ (codes "+", mark.Binary op.Add) ∷ (codes "-", mark.Binary op.Subtract)
    ∷ (codes "*", mark.Binary op.Multiply) ∷ (codes "/", mark.Binary op.Divide) ∷ (codes "%", mark.Binary op.Remainder)
    ∷ (codes "++", mark.Step step.Increment) ∷ (codes "--", mark.Step step.Decrement) ∷ (codes "<<", mark.Binary op.ShiftLeft)
    ∷ (codes ">>", mark.Binary op.ShiftRight) ∷ (codes ">>>", mark.Binary op.ShiftRightZero) ∷ (codes "&", mark.Binary op.BitAnd)
    ∷ (codes "|", mark.Binary op.BitOr) ∷ (codes "^", mark.Binary op.BitXor) ∷ (codes "!", mark.Not) ∷ (codes "~", mark.Complement)
    ∷ (codes "&&", mark.Logical logic.And) ∷ (codes "||", mark.Logical logic.Or) ∷ (codes "??", mark.Logical logic.Coalesce)
    ∷ (codes "?", mark.Question) ∷ (codes ":", mark.Colon) ∷ (codes "=", mark.Assign None)
    ∷ (codes "+=", mark.Assign (Some op.Add)) ∷ (codes "-=", mark.Assign (Some op.Subtract)) ∷ (codes "*=", mark.Assign (Some op.Multiply))
    ∷ (codes "/=", mark.Assign (Some op.Divide)) ∷ (codes "%=", mark.Assign (Some op.Remainder)) ∷ (codes "<<=", mark.Assign (Some op.ShiftLeft))
    ∷ (codes ">>=", mark.Assign (Some op.ShiftRight)) ∷ (codes ">>>=", mark.Assign (Some op.ShiftRightZero)) ∷ (codes "&=", mark.Assign (Some op.BitAnd))
    ∷ (codes "|=", mark.Assign (Some op.BitOr)) ∷ (codes "^=", mark.Assign (Some op.BitXor)) ∷ (codes "=>", mark.Arrow) ∷ []

-- the reserved words that the grammar names
unfoldable pub words : List (List ℕ × Word)
words =
    (codes "break", word.Break) ∷ (codes "catch", word.Catch) ∷ (codes "const", word.Const) ∷ (codes "continue", word.Continue)
    ∷ (codes "do", word.Do) ∷ (codes "else", word.Else) ∷ (codes "false", word.False) ∷ (codes "finally", word.Finally)
    ∷ (codes "for", word.For) ∷ (codes "function", word.Function) ∷ (codes "if", word.If) ∷ (codes "let", word.Let)
    ∷ (codes "new", word.New) ∷ (codes "null", word.Null) ∷ (codes "return", word.Return) ∷ (codes "this", word.This)
    ∷ (codes "throw", word.Throw) ∷ (codes "true", word.True) ∷ (codes "try", word.Try) ∷ (codes "typeof", word.TypeOf)
    ∷ (codes "while", word.While) ∷ []

abbrev pub word_or_other : Option Word → Word
word_or_other (Some w) = w
word_or_other None = word.Other

abbrev pub kind_of_mark : Mark → TokenKind
kind_of_mark (mark.Binary o) = k.Binary o
kind_of_mark (mark.Logical o) = k.Logical o
kind_of_mark (mark.Assign o) = k.Assign o
kind_of_mark (mark.Step o) = k.Step o
kind_of_mark mark.Not = k.Not
kind_of_mark mark.Complement = k.Complement
kind_of_mark mark.Arrow = k.Arrow
kind_of_mark mark.Question = k.Question
kind_of_mark mark.Colon = k.Colon
kind_of_mark mark.Dot = k.Dot
kind_of_mark mark.Comma = k.Comma
kind_of_mark mark.Semicolon = k.Semicolon
kind_of_mark mark.OpenRound = k.OpenRound
kind_of_mark mark.CloseRound = k.CloseRound
kind_of_mark mark.OpenSquare = k.OpenSquare
kind_of_mark mark.CloseSquare = k.CloseSquare
kind_of_mark mark.OpenBrace = k.OpenBrace
kind_of_mark mark.CloseBrace = k.CloseBrace

abbrev pub units_of : List ℕ → Lexed → List ℕ
units_of text t = take (t.end - t.start) (drop t.start text)

abbrev pub kind_of_entry : Option Mark → Option TokenKind
kind_of_entry None = None
kind_of_entry (Some m) = Some (kind_of_mark m)

-- 2^53, which stands for every number above the greatest one
abbrev pub wide : ℕ
wide = 9007199254740992

-- what the grammar sees of a token of that kind
abbrev pub IsKindBy : LexedKind → List ℕ → Lexed → TokenKind → Type 0
IsKindBy lexed.Name text t kind = kind ≡ k.Name (units_of text t)
IsKindBy lexed.Word text t kind = kind ≡ k.Word (word_or_other (entry words (units_of text t))) (units_of text t)
IsKindBy lexed.Number text t kind = (value : ℕ) × IsNumeral (drop t.start text) value (drop t.end text) × (kind ≡ k.Number value)
IsKindBy lexed.WideNumber text t kind = kind ≡ k.Number wide
IsKindBy lexed.Text text t kind = (value : List ℕ) × IsText (drop t.start text) value (drop t.end text) × (kind ≡ k.Text value)
IsKindBy lexed.Pattern text t kind = kind ≡ k.Pattern
IsKindBy lexed.Mark text t kind = kind_of_entry (entry marks (units_of text t)) ≡ Some kind
IsKindBy lexed.Finish text t kind = ⊥

abbrev pub IsKind : List ℕ → Lexed → TokenKind → Type 0
IsKind text t kind = IsKindBy t.kind text t kind

-- the next token of the text from a place on, as the lexer and as the grammar see it
pub record IsToken (text : List ℕ) (at : ℕ) (goal : Goal) (t : Lexed) (token : Token) : Type 0 where
  pub next : IsNext text at goal t
  pub kind : IsKind text t token.kind
  pub start : token.start ≡ byte_at text t.start
  pub line_before : token.line_before ≡ t.line_before

-- what a `/` begins: division behind an operand, but for an arrow that ends in braces
abbrev pub goal_behind : Operand → Goal
goal_behind (operand.Braced e) = goal.Pattern
goal_behind _ = goal.Division

abbrev pub goal_of : Mode → Goal
goal_of (mode.Operand start x) = goal_behind x
goal_of _ = goal.Pattern
