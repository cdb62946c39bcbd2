-- This project's own: scripts read token by token. What each step answers depends on the tokens so far alone.
use Rattle.std.specs.Prelude.{◌≡◌, ℕ, suc, nat_lt, Bool, true, false, cond, List, [], ◌∷◌, ◌++◌, ◌+◌, ◌≤◌, ◌==◌, Option, Some, None, Result, Ok, Err}
use Rattle.js_ast.specs.declared.expression.Expr.{Expr}
use Rattle.js_ast.specs.declared.statement.Stmt.{Stmt}
use Rattle.js_ast.specs.declared.statement.Stmt.TheVariants as stmt
use Rattle.js_ast.specs.declared.operators.StepOp.{StepOp}
use Rattle.js_ast.specs.declared.parts.Identifier.{Identifier}
use Rattle.js_ast.specs.declared.parts.Member.{Member}
use Rattle.js_ast.specs.declared.parts.Member.TheVariants as member
use Rattle.js_grammar.specs.declared.token.Token.{Token}
use Rattle.js_grammar.specs.declared.token.TokenKind.{TokenKind}
use Rattle.js_grammar.specs.declared.token.TokenKind.TheVariants as k
use Rattle.js_grammar.specs.declared.token.Word.{Word}
use Rattle.js_grammar.specs.declared.token.Word.TheVariants as word
use Rattle.js_grammar.specs.Phrases.{continues}
use Rattle.js_reading.specs.declared.frame.Frame.{Frame}
use Rattle.js_reading.specs.declared.frame.Frame.TheVariants as frame
use Rattle.js_reading.specs.declared.frame.Part.{Part}
use Rattle.js_reading.specs.declared.frame.Part.TheVariants as part
use Rattle.js_reading.specs.declared.frame.Below.TheVariants as below
use Rattle.js_reading.specs.declared.frame.Bracket.TheVariants as bracket
use Rattle.js_reading.specs.declared.frame.Braces.{Braces}
use Rattle.js_reading.specs.declared.frame.Braces.TheVariants as braces
use Rattle.js_reading.specs.declared.mode.Mode.{Mode}
use Rattle.js_reading.specs.declared.mode.Mode.TheVariants as mode
use Rattle.js_reading.specs.declared.mode.Operand.{Operand}
use Rattle.js_reading.specs.declared.mode.Operand.TheVariants as operand
use Rattle.js_reading.specs.declared.mode.Header.{Header}
use Rattle.js_reading.specs.declared.mode.Header.TheVariants as header
use Rattle.js_reading.specs.declared.mode.Heading.{Heading}
use Rattle.js_reading.specs.declared.mode.Heading.TheVariants as heading
use Rattle.js_reading.specs.declared.mode.Ending.{Ending}
use Rattle.js_reading.specs.declared.mode.Ending.TheVariants as ending
use Rattle.js_reading.specs.declared.mode.Trying.{Trying}
use Rattle.js_reading.specs.declared.mode.Trying.TheVariants as trying
use Rattle.js_reading.specs.declared.mode.Opening.{Opening}
use Rattle.js_reading.specs.declared.mode.Opening.TheVariants as opening
use Rattle.js_reading.specs.declared.mode.Parser.{Parser}
use Rattle.js_reading.specs.declared.frame.Closed.{Closed}
use Rattle.js_reading.specs.declared.frame.Over.{Over}
use Rattle.js_reading.specs.Frames.{◌>>=◌, when, depth, depth_before}
use Rattle.js_reading.specs.Operands.{at, word_of, reached, tail_of, wrapped, want, on_dot, on_round, on_square, on_binary, on_logical, on_question, on_assign, on_arrow, on_step, on_square_close, on_colon, comma_in, comma_round, close_round_in, object, whole, piece_on, open_on, parameters_on, parameter_on, arrow_due_on}
use Rattle.js_reading.specs.Statements.{settle, test_due, over, over_of, after, inner, item, semicolon_part, close_round_part, comma_part, bare, is_let, is_statement, opening_on, ending_on, braces_on, trying_on}

-- ---- behind an operand

-- the tokens that go on with the expression
abbrev pub continues_by : ℕ → ℕ → Operand → List Frame → TokenKind → Option Parser
continues_by site start x ks k.Dot = on_dot site start x ks
continues_by site start x ks k.OpenRound = on_round site start x ks
continues_by site start x ks k.OpenSquare = on_square site start x ks
continues_by site start x ks (k.Binary o) = on_binary o site start x ks
continues_by site start x ks (k.Logical o) = on_logical o site start x ks
continues_by site start x ks (k.Assign o) = on_assign o site start x ks
continues_by site start x ks k.Question = on_question site start x ks
continues_by site start x ks _ = None

-- the statement ends, and the token begins another, or ends the list
abbrev pub ends_before : ℕ → ℕ → Operand → List Frame → TokenKind → Option Parser
ends_before site start x ks kind = whole start x ks >>= λ c. over_of c.value c.frames >>= λ o. after site o.value o.frames kind

abbrev pub close_round_of : Expr → List Frame → Option Parser
close_round_of e (frame.Bracket b ∷ ks) = close_round_in e b ks
close_round_of e (frame.Part p ∷ ks) = close_round_part e p ks
close_round_of e _ = None

abbrev pub on_close_round : ℕ → Operand → List Frame → Option Parser
on_close_round start x (frame.Bracket (bracket.Round site) ∷ ks) = Some (reached site (wrapped x) ks)
on_close_round start x ks = whole start x ks >>= λ c. close_round_of c.value c.frames

abbrev pub comma_of : Expr → List Frame → Option Parser
comma_of e (frame.Bracket b ∷ ks) = comma_in e b ks
comma_of e (frame.Part p ∷ ks) = comma_part e p ks
comma_of e _ = None

abbrev pub on_comma : ℕ → Operand → List Frame → Option Parser
on_comma start x (frame.Bracket (bracket.Round site) ∷ ks) = comma_round site x ks
on_comma start x ks = whole start x ks >>= λ c. comma_of c.value c.frames

abbrev pub semicolon_of : Expr → List Frame → Option Parser
semicolon_of e (frame.Part p ∷ ks) = semicolon_part e p ks
semicolon_of e _ = None

abbrev pub on_semicolon : ℕ → Operand → List Frame → Option Parser
on_semicolon start x ks = whole start x ks >>= λ c. semicolon_of c.value c.frames

-- `}`: of an object, or of the list around the statement
abbrev pub close_brace_of : ℕ → Expr → List Frame → Option Parser
close_brace_of site e (frame.Bracket (bracket.Member site' members at' name) ∷ ks) = object site' (members ++ member.Value at' name e ∷ []) ks
close_brace_of site e ks = over_of e ks >>= λ o. after site o.value o.frames k.CloseBrace

abbrev pub on_close_brace : ℕ → ℕ → Operand → List Frame → Option Parser
on_close_brace site start x ks = whole start x ks >>= λ c. close_brace_of site c.value c.frames

abbrev pub step_mark : Bool → StepOp → ℕ → ℕ → Operand → List Frame → Option Parser
step_mark line o site start x ks = cond line (ends_before site start x ks (k.Step o)) (on_step o site start x ks)

-- the tokens behind the end of an expression
abbrev pub ends_by : Bool → ℕ → ℕ → Operand → List Frame → TokenKind → Option Parser
ends_by line site start x ks k.Arrow = on_arrow line start x ks
ends_by line site start x ks (k.Step o) = step_mark line o site start x ks
ends_by line site start x ks k.CloseRound = on_close_round start x ks
ends_by line site start x ks k.CloseSquare = on_square_close start x ks
ends_by line site start x ks k.CloseBrace = on_close_brace site start x ks
ends_by line site start x ks k.Comma = on_comma start x ks
ends_by line site start x ks k.Colon = on_colon start x ks
ends_by line site start x ks k.Semicolon = on_semicolon start x ks
ends_by line site start x ks kind = when line (ends_before site start x ks kind)

abbrev pub operand_on : Bool → ℕ → ℕ → Operand → List Frame → TokenKind → Option Parser
operand_on line site start x ks kind = cond (continues (tail_of x) kind) (continues_by site start x ks kind) (ends_by line site start x ks kind)

-- ---- a step

abbrev pub heading_on : Bool → Heading → ℕ → List Frame → TokenKind → Option Parser
heading_on line (heading.Open h) site ks kind = open_on h ks kind
heading_on line (heading.Parameters h names) site ks kind = parameters_on h names site ks kind
heading_on line (heading.Parameter h names) site ks kind = parameter_on h names ks kind
heading_on line (heading.Arrow start names) site ks kind = arrow_due_on line start names ks kind
heading_on line (heading.Braces b) site ks kind = braces_on b ks kind

-- `if` behind `else` goes on with the chain
abbrev pub below_by : ℕ → List Frame → TokenKind → Option Word → Option Parser
below_by site (frame.Below (below.Else arms) ∷ ks) kind (Some word.If) = test_due (part.If arms site) ks
below_by site ks kind _ = inner site ks kind

abbrev pub step_in : Mode → List Frame → Bool → ℕ → TokenKind → Option Parser
step_in mode.Statement ks line site kind = item site ks kind
step_in mode.Below ks line site kind = below_by site ks kind (word_of kind)
step_in mode.Want ks line site kind = want site ks kind
step_in (mode.Operand start x) ks line site kind = operand_on line site start x ks kind
step_in (mode.Ending e) ks line site kind = ending_on line e site ks kind
step_in (mode.Trying t) ks line site kind = trying_on t site ks kind
step_in (mode.Opening o) ks line site kind = opening_on line o site ks kind
step_in (mode.Heading h) ks line site kind = heading_on line h site ks kind
step_in (mode.Piece p) ks line site kind = piece_on p site ks kind

abbrev pub step : Parser → Token → Option Parser
step p t = step_in p.mode p.frames t.line_before t.start t.kind

-- ---- the end

abbrev pub script_of : Stmt → List Frame → Option (List Stmt)
script_of s (frame.List braces.Script body ∷ []) = Some (body ++ s ∷ [])
script_of s _ = None

abbrev pub ended : Stmt → List Frame → Option (List Stmt)
ended s ks = (λ (o : Over). script_of o.value o.frames) (settle false s ks)

abbrev pub no_more : List Frame → Option (List Stmt)
no_more (frame.List braces.Script body ∷ []) = Some body
no_more _ = None

abbrev pub ended_ending : Ending → List Frame → Option (List Stmt)
ended_ending (ending.Over s) ks = ended s ks
ended_ending (ending.Do s) ks = ended s ks
ended_ending (ending.Jump s) ks = ended s ks
ended_ending (ending.Return site) ks = ended (stmt.Return site None) ks
ended_ending (ending.Throw site) ks = None

abbrev pub ended_trying : Trying → List Frame → Option (List Stmt)
ended_trying (trying.Caught site body caught) ks = ended (stmt.Try site body (Some caught) None) ks
ended_trying _ ks = None

abbrev pub ended_opening : Opening → List Frame → Option (List Stmt)
ended_opening (opening.Named d n) ks = cond (is_statement d.place) (cond (is_let d.kind) (ended (bare d n) ks) None) None
ended_opening _ ks = None

abbrev pub ended_operand : ℕ → Operand → List Frame → Option (List Stmt)
ended_operand start x ks = whole start x ks >>= λ c. over_of c.value c.frames >>= λ o. ended o.value o.frames

abbrev pub ending_in : Mode → List Frame → Option (List Stmt)
ending_in mode.Statement ks = no_more ks
ending_in (mode.Operand start x) ks = ended_operand start x ks
ending_in (mode.Ending e) ks = ended_ending e ks
ending_in (mode.Trying t) ks = ended_trying t ks
ending_in (mode.Opening o) ks = ended_opening o ks
ending_in _ ks = None

-- the script, if it may end here
abbrev pub ends : Parser → Option (List Stmt)
ends p = ending_in p.mode p.frames

abbrev pub start : Parser
start = at mode.Statement (frame.List braces.Script [] ∷ [])

-- ---- nesting

abbrev pub names_nest : Header → ℕ
names_nest (header.Arrow site) = 1
names_nest _ = 0

abbrev pub nesting_heading : Heading → List Frame → ℕ
nesting_heading (heading.Parameter h names) ks = names_nest h + depth ks
nesting_heading _ ks = depth ks

abbrev pub nesting_opening : Opening → List Frame → ℕ
nesting_opening opening.Test ks = depth_before ks
nesting_opening _ ks = depth ks

abbrev pub nesting_in : Mode → List Frame → ℕ
nesting_in mode.Statement ks = depth_before ks
nesting_in mode.Below ks = depth_before ks
nesting_in mode.Want ks = depth_before ks
nesting_in (mode.Opening o) ks = nesting_opening o ks
nesting_in (mode.Heading h) ks = nesting_heading h ks
nesting_in _ ks = depth ks

-- the nesting of the token with which this was reached
abbrev pub nesting : Parser → ℕ
nesting p = nesting_in p.mode p.frames

-- ---- a whole script

-- the script, or what is left from the refused token on
abbrev pub end_of : Option (List Stmt) → Result (List Stmt) (List Token)
end_of (Some body) = Ok body
end_of None = Err []

abbrev pub goes : (Parser → Result (List Stmt) (List Token)) → List Token → Option Parser → Result (List Stmt) (List Token)
goes f left (Some p) = f p
goes f left None = Err left

abbrev pub reads : List Token → Parser → Result (List Stmt) (List Token)
reads [] p = end_of (ends p)
reads (t ∷ ts) p = goes (reads ts) (t ∷ ts) (step p t)

-- The tokens lead from the state to the end of that script, and the nesting of each of them passes.
abbrev pub IsRead : (ℕ → Type 0) → List Token → Parser → List Stmt → Type 0
IsRead P [] p body = ends p ≡ Some body
IsRead P (t ∷ ts) p body = (q : Parser) × (step p t ≡ Some q) × P (nesting q) × IsRead P ts q body

-- from the start on, whatever the nesting
abbrev pub IsReadWhole : List Token → List Stmt → Type 0
IsReadWhole ts body = IsRead (λ n. Unit {0}) ts start body

-- from the start on, and no token nests deeper than 200
abbrev pub IsReadShallow : List Token → List Stmt → Type 0
IsReadShallow ts body = IsRead (λ n. n ≤ 200) ts start body
