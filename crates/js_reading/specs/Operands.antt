-- This project's own: operands just read, and the tokens that go on with them (ECMA-262, section 13).
use Rattle.std.specs.Prelude.{ℕ, ◌==◌, ◌&&◌, Bool, true, false, not, cond, List, [], ◌∷◌, ◌++◌, Option, Some, None}
use Rattle.js_ast.specs.declared.expression.Expr.{Expr}
use Rattle.js_ast.specs.declared.expression.Expr.TheVariants as expr
use Rattle.js_ast.specs.declared.operators.BinaryOp.{BinaryOp}
use Rattle.js_ast.specs.declared.operators.BinaryOp.TheVariants as op
use Rattle.js_ast.specs.declared.operators.LogicalOp.{LogicalOp}
use Rattle.js_ast.specs.declared.operators.LogicalOp.TheVariants as logic
use Rattle.js_ast.specs.declared.operators.StepOp.{StepOp}
use Rattle.js_ast.specs.declared.operators.UnaryOp.{UnaryOp}
use Rattle.js_ast.specs.declared.operators.UnaryOp.TheVariants as unary
use Rattle.js_ast.specs.declared.parts.Identifier.{Identifier}
use Rattle.js_ast.specs.declared.parts.Access.{Access}
use Rattle.js_ast.specs.declared.parts.Access.TheVariants as access
use Rattle.js_ast.specs.declared.parts.Suffix.{Suffix}
use Rattle.js_ast.specs.declared.parts.Suffix.TheVariants as suffix
use Rattle.js_ast.specs.declared.parts.Target.{Target}
use Rattle.js_ast.specs.declared.parts.Target.TheVariants as target
use Rattle.js_ast.specs.declared.parts.Key.{Key}
use Rattle.js_ast.specs.declared.parts.Key.TheVariants as key
use Rattle.js_ast.specs.declared.parts.Member.{Member}
use Rattle.js_ast.specs.declared.parts.Member.TheVariants as member
use Rattle.js_grammar.specs.declared.token.TokenKind.{TokenKind}
use Rattle.js_grammar.specs.declared.token.TokenKind.TheVariants as k
use Rattle.js_grammar.specs.declared.token.Word.{Word}
use Rattle.js_grammar.specs.declared.token.Word.TheVariants as word
use Rattle.js_grammar.specs.Phrases.{level, is_proto, Tail, call, step, braces}
use Rattle.js_grammar.specs.Grammar.{call_of}
use Rattle.js_reading.specs.declared.frame.Frame.{Frame}
use Rattle.js_reading.specs.declared.frame.Frame.TheVariants as frame
use Rattle.js_reading.specs.declared.frame.Pending.{Pending}
use Rattle.js_reading.specs.declared.frame.Pending.TheVariants as pending
use Rattle.js_reading.specs.declared.frame.Bracket.{Bracket}
use Rattle.js_reading.specs.declared.frame.Part.{Part}
use Rattle.js_reading.specs.declared.frame.Part.TheVariants as part
use Rattle.js_reading.specs.declared.frame.Below.{Below}
use Rattle.js_reading.specs.declared.frame.Below.TheVariants as below
use Rattle.js_reading.specs.declared.frame.Bracket.TheVariants as bracket
use Rattle.js_reading.specs.declared.frame.Braces.TheVariants as list
use Rattle.js_reading.specs.declared.mode.Mode.{Mode}
use Rattle.js_reading.specs.declared.mode.Mode.TheVariants as mode
use Rattle.js_reading.specs.declared.mode.Operand.{Operand}
use Rattle.js_reading.specs.declared.mode.Operand.TheVariants as operand
use Rattle.js_reading.specs.declared.mode.Header.{Header}
use Rattle.js_reading.specs.declared.mode.Header.TheVariants as header
use Rattle.js_reading.specs.declared.mode.Heading.{Heading}
use Rattle.js_reading.specs.declared.mode.Heading.TheVariants as heading
use Rattle.js_reading.specs.declared.mode.Piece.{Piece}
use Rattle.js_reading.specs.declared.mode.Piece.TheVariants as piece
use Rattle.js_reading.specs.declared.mode.Parser.{Parser}
use Rattle.js_reading.specs.declared.frame.Closed.{Closed}
use Rattle.js_reading.specs.Frames.{◌>>=◌, when, context, close_to, conditional, all, takes_assign, takes_unary}

abbrev pub at : Mode → List Frame → Parser
at m ks = record { mode = m; frames = ks }

abbrev pub word_of : TokenKind → Option Word
word_of (k.Word w units) = Some w
word_of _ = None

-- an operand is there, from its first token on
abbrev pub reached : ℕ → Operand → List Frame → Parser
reached start x ks = at (mode.Operand start x) ks

abbrev pub wants : Frame → List Frame → Parser
wants f ks = at mode.Want (f ∷ ks)

-- ---- what an operand is

abbrev pub value_of : Operand → Expr
value_of (operand.Name n) = expr.Name n
value_of (operand.RoundName n) = expr.Name n
value_of (operand.DeepName n) = expr.Name n
value_of (operand.Access first earlier last) = expr.Call first (earlier ++ suffix.Access last ∷ [])
value_of (operand.RoundAccess first earlier last) = expr.Call first (earlier ++ suffix.Access last ∷ [])
value_of (operand.Call first suffixes) = expr.Call first suffixes
value_of (operand.Literal e) = e
value_of (operand.Primary e) = e
value_of (operand.Stepped e) = e
value_of (operand.Braced e) = e

abbrev pub tail_of : Operand → Tail
tail_of (operand.Stepped e) = step
tail_of (operand.Braced e) = braces
tail_of _ = call

-- what may be assigned
abbrev pub target_of : Operand → Option (Target Expr)
target_of (operand.Name n) = Some (target.Name n)
target_of (operand.RoundName n) = Some (target.Name n)
target_of (operand.DeepName n) = Some (target.Name n)
target_of (operand.Access first earlier last) = Some (target.Access (call_of first earlier) last)
target_of (operand.RoundAccess first earlier last) = Some (target.Access (call_of first earlier) last)
target_of _ = None

-- the one name in front of an arrow
abbrev pub parameter_of : Operand → Option Identifier
parameter_of (operand.Name n) = Some n
parameter_of (operand.RoundName n) = Some n
parameter_of _ = None

-- the first part of a call, and the suffixes behind it
abbrev pub first_of : Operand → Expr
first_of (operand.Access first earlier last) = first
first_of (operand.Call first suffixes) = first
first_of x = value_of x

abbrev pub suffixes_of : Operand → List (Suffix Expr)
suffixes_of (operand.Access first earlier last) = earlier ++ suffix.Access last ∷ []
suffixes_of (operand.Call first suffixes) = suffixes
suffixes_of _ = []

-- the operand between parentheses
abbrev pub wrapped : Operand → Operand
wrapped (operand.Name n) = operand.RoundName n
wrapped (operand.RoundName n) = operand.DeepName n
wrapped (operand.DeepName n) = operand.DeepName n
wrapped (operand.Access first earlier last) = operand.RoundAccess first earlier last
wrapped (operand.RoundAccess first earlier last) = operand.RoundAccess first earlier last
wrapped x = operand.Primary (value_of x)

-- a number or a text alone
abbrev pub is_literal : Operand → Bool
is_literal (operand.Literal e) = true
is_literal _ = false

-- ---- where an operand is due

abbrev pub prefixed : UnaryOp → ℕ → List Frame → Option Parser
prefixed o site ks = when (takes_unary ks) (Some (wants (frame.Pending (pending.Prefix site o)) ks))

abbrev pub stepped : StepOp → ℕ → List Frame → Option Parser
stepped o site ks = when (takes_unary ks) (Some (wants (frame.Step site o) ks))

abbrev pub want_binary : BinaryOp → ℕ → List Frame → Option Parser
want_binary op.Add site ks = prefixed unary.Plus site ks
want_binary op.Subtract site ks = prefixed unary.Minus site ks
want_binary _ site ks = None

abbrev pub primary : ℕ → Expr → List Frame → Option Parser
primary start e ks = Some (reached start (operand.Primary e) ks)

abbrev pub literal : ℕ → Expr → List Frame → Option Parser
literal start e ks = Some (reached start (operand.Literal e) ks)

abbrev pub want_word : Word → ℕ → List Frame → Option Parser
want_word word.This site ks = when ((context ks).has_this) (primary site (expr.This site) ks)
want_word word.Null site ks = primary site (expr.Null site) ks
want_word word.True site ks = primary site (expr.True site) ks
want_word word.False site ks = primary site (expr.False site) ks
want_word word.TypeOf site ks = prefixed unary.TypeOf site ks
want_word word.New site ks = Some (at (mode.Piece (piece.New site)) ks)
want_word word.Function site ks = Some (at (mode.Piece (piece.Function site)) ks)
want_word _ site ks = None

-- `{`: an arrow's body directly behind `=>`, else an object
abbrev pub want_brace : ℕ → List Frame → Option Parser
want_brace site (frame.Pending (pending.Arrow start names) ∷ ks) = Some (at mode.Statement (frame.List (list.Arrow start names) [] ∷ ks))
want_brace site ks = Some (at (mode.Piece (piece.Key site [])) ks)

abbrev pub called : ℕ → Expr → List (Suffix Expr) → ℕ → List Expr → List Frame → Option Parser
called start first suffixes site arguments ks = Some (reached start (operand.Call first (suffixes ++ suffix.Call site arguments ∷ [])) ks)

-- `)` directly behind `(` or `,`
abbrev pub want_close_in : Bracket → List Frame → Option Parser
want_close_in (bracket.Round site) ks = when (takes_assign ks) (Some (at (mode.Heading (heading.Arrow site [])) ks))
want_close_in (bracket.Call start first suffixes site arguments) ks = called start first suffixes site arguments ks
want_close_in (bracket.New site n arguments) ks = primary site (expr.New site n arguments) ks
want_close_in _ ks = None

-- `]` directly behind `[` or `,`
abbrev pub want_square : List Frame → Option Parser
want_square (frame.Bracket (bracket.Array site items) ∷ ks) = primary site (expr.Array site items) ks
want_square _ = None

-- `;` and `)` in the head of a `for` where an expression may be left out
abbrev pub no_test : List Frame → Option Parser
no_test (frame.Part (part.ForTest site first) ∷ ks) = Some (wants (frame.Part (part.ForUpdate site first None)) ks)
no_test _ = None

abbrev pub below_due : Below → List Frame → Option Parser
below_due b ks = Some (at mode.Below (frame.Below b ∷ ks))

abbrev pub no_update : Part → List Frame → Option Parser
no_update (part.ForUpdate site first test) ks = below_due (below.For site first test None) ks
no_update _ ks = None

abbrev pub want_close : List Frame → Option Parser
want_close (frame.Bracket b ∷ ks) = want_close_in b ks
want_close (frame.Part p ∷ ks) = no_update p ks
want_close _ = None

abbrev pub want_mark : ℕ → List Frame → TokenKind → Option Parser
want_mark site ks (k.Binary o) = want_binary o site ks
want_mark site ks k.Not = prefixed unary.Not site ks
want_mark site ks k.Complement = prefixed unary.Complement site ks
want_mark site ks (k.Step o) = stepped o site ks
want_mark site ks k.OpenRound = Some (wants (frame.Bracket (bracket.Round site)) ks)
want_mark site ks k.OpenSquare = Some (wants (frame.Bracket (bracket.Array site [])) ks)
want_mark site ks k.OpenBrace = want_brace site ks
want_mark site ks k.CloseRound = want_close ks
want_mark site ks k.CloseSquare = want_square ks
want_mark site ks k.Semicolon = no_test ks
want_mark site ks _ = None

-- an expression, or what is left of one, is due
abbrev pub want : ℕ → List Frame → TokenKind → Option Parser
want site ks (k.Name name) = Some (reached site (operand.Name (record { site = site; name = name })) ks)
want site ks (k.Word w units) = want_word w site ks
want site ks (k.Number n) = literal site (expr.Number site n) ks
want site ks (k.Text text) = literal site (expr.Text site text) ks
want site ks kind = want_mark site ks kind

-- ---- operators behind an operand

-- a target for the `++` or `--` before it
abbrev pub settled : ℕ → Operand → List Frame → Option Closed
settled start x (frame.Step site o ∷ ks) = target_of x >>= λ t. Some (record { start = site; value = expr.Step site site o true t; frames = ks })
settled start x ks = Some (record { start = start; value = value_of x; frames = ks })

-- what is tighter than a level ends with the operand
abbrev pub closed : ℕ → ℕ → Operand → List Frame → Option Closed
closed n start x ks = settled start x ks >>= λ c. Some (close_to n c.start c.value c.frames)

abbrev pub opens_binary : BinaryOp → ℕ → ℕ → Expr → List Frame → Parser
opens_binary o site start e ks = wants (frame.Pending (pending.Binary start e [] site o)) ks

-- a chain begins, or goes on
abbrev pub place_binary : BinaryOp → ℕ → ℕ → Expr → List Frame → Parser
place_binary o site from e (frame.Pending (pending.Binary start first links site' p) ∷ ks) =
    cond (level p == level o)
    (wants (frame.Pending (pending.Binary start first (links ++ record { site = site'; op = p; right = e } ∷ []) site o)) ks)
    (opens_binary o site from e (frame.Pending (pending.Binary start first links site' p) ∷ ks))
place_binary o site from e ks = opens_binary o site from e ks

abbrev pub on_binary : BinaryOp → ℕ → ℕ → Operand → List Frame → Option Parser
on_binary o site start x ks = closed (level o) start x ks >>= λ c. Some (place_binary o site c.start c.value c.frames)

-- where a chain of `&&`, of `||` or of `??` goes on, where another begins, and where neither may
abbrev pub goes_on : LogicalOp → LogicalOp → Bool
goes_on logic.And logic.And = true
goes_on logic.Or logic.Or = true
goes_on logic.Coalesce logic.Coalesce = true
goes_on _ _ = false

abbrev pub goes_inside : LogicalOp → LogicalOp → Bool
goes_inside logic.Or logic.And = true
goes_inside _ _ = false

abbrev pub level_of : LogicalOp → ℕ
level_of logic.Or = 10
level_of _ = 9

abbrev pub opens_logical : LogicalOp → ℕ → ℕ → Expr → List Frame → Parser
opens_logical o site start e ks = wants (frame.Pending (pending.Logical start e [] site o)) ks

abbrev pub place_logical : LogicalOp → ℕ → ℕ → Expr → List Frame → Option Parser
place_logical o site from e (frame.Pending (pending.Logical start first links site' p) ∷ ks) =
    cond (goes_on p o)
    (Some (wants (frame.Pending (pending.Logical start first (links ++ record { site = site'; op = p; right = e } ∷ []) site o)) ks))
    (when (goes_inside p o) (Some (opens_logical o site from e (frame.Pending (pending.Logical start first links site' p) ∷ ks))))
place_logical o site from e ks = Some (opens_logical o site from e ks)

abbrev pub on_logical : LogicalOp → ℕ → ℕ → Operand → List Frame → Option Parser
on_logical o site start x ks = closed (level_of o) start x ks >>= λ c. place_logical o site c.start c.value c.frames

abbrev pub on_question : ℕ → ℕ → Operand → List Frame → Option Parser
on_question site start x ks = closed conditional start x ks >>= λ c. Some (wants (frame.Bracket (bracket.Question c.start site c.value)) c.frames)

abbrev pub on_assign : Option BinaryOp → ℕ → ℕ → Operand → List Frame → Option Parser
on_assign o site start x ks = target_of x >>= λ t. when (takes_assign ks) (Some (wants (frame.Pending (pending.Assign start site o t)) ks))

abbrev pub to_arrow : Bool → ℕ → List Identifier → List Frame → Option Parser
to_arrow line start names ks = cond line None (Some (wants (frame.Pending (pending.Arrow start names)) ks))

abbrev pub on_arrow : Bool → ℕ → Operand → List Frame → Option Parser
on_arrow line start x ks = parameter_of x >>= λ n. when (takes_assign ks) (to_arrow line start (n ∷ []) ks)

-- `++` or `--` behind a target
abbrev pub on_step : StepOp → ℕ → ℕ → Operand → List Frame → Option Parser
on_step o site start x ks = target_of x >>= λ t. when (takes_unary ks) (Some (reached start (operand.Stepped (expr.Step start site o false t)) ks))

-- ---- suffixes

abbrev pub on_dot : ℕ → ℕ → Operand → List Frame → Option Parser
on_dot site start x ks = Some (at (mode.Piece (piece.Property start (first_of x) (suffixes_of x) site)) ks)

abbrev pub on_round : ℕ → ℕ → Operand → List Frame → Option Parser
on_round site start x ks = Some (wants (frame.Bracket (bracket.Call start (first_of x) (suffixes_of x) site [])) ks)

abbrev pub on_square : ℕ → ℕ → Operand → List Frame → Option Parser
on_square site start x ks = Some (wants (frame.Bracket (bracket.Index start (first_of x) (suffixes_of x) site)) ks)

-- ---- marks that end an expression between brackets

abbrev pub whole : ℕ → Operand → List Frame → Option Closed
whole start x ks = closed all start x ks

abbrev pub close_round_in : Expr → Bracket → List Frame → Option Parser
close_round_in e (bracket.Round site) ks = primary site e ks
close_round_in e (bracket.Call start first suffixes site arguments) ks = called start first suffixes site (arguments ++ e ∷ []) ks
close_round_in e (bracket.New site n arguments) ks = primary site (expr.New site n (arguments ++ e ∷ [])) ks
close_round_in e _ ks = None

abbrev pub close_square_in : Bool → Expr → List Frame → Option Parser
close_square_in static e (frame.Bracket (bracket.Array site items) ∷ ks) = primary site (expr.Array site (items ++ e ∷ [])) ks
close_square_in static e (frame.Bracket (bracket.Index start first suffixes site) ∷ ks) =
    Some (reached start (operand.Access first suffixes (access.Index site static e)) ks)
close_square_in static e _ = None

-- whether the operand stands alone between brackets
abbrev pub is_alone : List Frame → Bool
is_alone (frame.Bracket b ∷ ks) = true
is_alone _ = false

abbrev pub on_square_close : ℕ → Operand → List Frame → Option Parser
on_square_close start x ks = whole start x ks >>= λ c. close_square_in (is_literal x && is_alone ks) c.value c.frames

abbrev pub on_colon_in : Expr → List Frame → Option Parser
on_colon_in e (frame.Bracket (bracket.Question start site test) ∷ ks) = Some (wants (frame.Pending (pending.Conditional start site test e)) ks)
on_colon_in e _ = None

abbrev pub on_colon : ℕ → Operand → List Frame → Option Parser
on_colon start x ks = whole start x ks >>= λ c. on_colon_in c.value c.frames

abbrev pub comma_in : Expr → Bracket → List Frame → Option Parser
comma_in e (bracket.Array site items) ks = Some (wants (frame.Bracket (bracket.Array site (items ++ e ∷ []))) ks)
comma_in e (bracket.Call start first suffixes site arguments) ks = Some (wants (frame.Bracket (bracket.Call start first suffixes site (arguments ++ e ∷ []))) ks)
comma_in e (bracket.New site n arguments) ks = Some (wants (frame.Bracket (bracket.New site n (arguments ++ e ∷ []))) ks)
comma_in e (bracket.Member site members key_site name) ks = Some (at (mode.Piece (piece.Key site (members ++ member.Value key_site name e ∷ []))) ks)
comma_in e _ ks = None

-- the `(` directly before the operand
abbrev pub round_of : List Frame → Option ℕ
round_of (frame.Bracket (bracket.Round site) ∷ ks) = Some site
round_of _ = None

-- a comma behind the first name between parentheses: those of an arrow
abbrev pub comma_names : ℕ → Identifier → List Frame → Option Parser
comma_names start n ks = when (takes_assign ks) (Some (at (mode.Heading (heading.Parameters (header.Arrow start) (n ∷ []))) ks))

abbrev pub comma_round : ℕ → Operand → List Frame → Option Parser
comma_round site (operand.Name n) ks = comma_names site n ks
comma_round site _ ks = None

-- ---- pieces of operands

abbrev pub object : ℕ → List (Member Expr) → List Frame → Option Parser
object site members ks = primary site (expr.Object site members) ks

abbrev pub name_key : ℕ → List (Member Expr) → ℕ → List ℕ → List Frame → Option Parser
name_key site members at' name ks = cond (is_proto name) None (Some (at (mode.Piece (piece.NameKey site members (record { site = at'; name = name }))) ks))

abbrev pub text_key : ℕ → List (Member Expr) → ℕ → List ℕ → List Frame → Option Parser
text_key site members at' name ks = cond (is_proto name) None (Some (at (mode.Piece (piece.OtherKey site members at' (key.Text name))) ks))

-- behind `{` or `,` of an object
abbrev pub key_on : ℕ → List (Member Expr) → ℕ → List Frame → TokenKind → Option Parser
key_on site members at' ks (k.Name name) = name_key site members at' name ks
key_on site members at' ks (k.Word w name) = text_key site members at' name ks
key_on site members at' ks (k.Text name) = text_key site members at' name ks
key_on site members at' ks (k.Number n) = Some (at (mode.Piece (piece.OtherKey site members at' (key.Number n))) ks)
key_on site members at' ks k.CloseBrace = object site members ks
key_on site members at' ks _ = None

abbrev pub to_value : ℕ → List (Member Expr) → ℕ → Key → List Frame → Option Parser
to_value site members at' name ks = Some (wants (frame.Bracket (bracket.Member site members at' name)) ks)

abbrev pub name_key_on : ℕ → List (Member Expr) → Identifier → List Frame → TokenKind → Option Parser
name_key_on site members n ks k.Colon = to_value site members n.site (key.Text n.name) ks
name_key_on site members n ks k.Comma = Some (at (mode.Piece (piece.Key site (members ++ member.Shorthand n ∷ []))) ks)
name_key_on site members n ks k.CloseBrace = object site (members ++ member.Shorthand n ∷ []) ks
name_key_on site members n ks _ = None

abbrev pub other_key_on : ℕ → List (Member Expr) → ℕ → Key → List Frame → TokenKind → Option Parser
other_key_on site members at' name ks k.Colon = to_value site members at' name ks
other_key_on site members at' name ks _ = None

abbrev pub new_on : ℕ → ℕ → List Frame → TokenKind → Option Parser
new_on site at' ks (k.Name name) = Some (at (mode.Piece (piece.NewName site (record { site = at'; name = name }))) ks)
new_on site at' ks _ = None

abbrev pub new_name_on : ℕ → Identifier → List Frame → TokenKind → Option Parser
new_name_on site n ks k.OpenRound = Some (wants (frame.Bracket (bracket.New site n [])) ks)
new_name_on site n ks _ = None

abbrev pub property : ℕ → Expr → List (Suffix Expr) → ℕ → List ℕ → List Frame → Option Parser
property start first suffixes site name ks = Some (reached start (operand.Access first suffixes (access.Property site name)) ks)

abbrev pub property_on : ℕ → Expr → List (Suffix Expr) → ℕ → List Frame → TokenKind → Option Parser
property_on start first suffixes site ks (k.Name name) = property start first suffixes site name ks
property_on start first suffixes site ks (k.Word w name) = property start first suffixes site name ks
property_on start first suffixes site ks _ = None

abbrev pub function_on : ℕ → ℕ → List Frame → TokenKind → Option Parser
function_on site at' ks (k.Name name) = Some (at (mode.Heading (heading.Open (header.Value site (Some (record { site = at'; name = name }))))) ks)
function_on site at' ks k.OpenRound = Some (at (mode.Heading (heading.Parameters (header.Value site None) [])) ks)
function_on site at' ks _ = None

abbrev pub piece_on : Piece → ℕ → List Frame → TokenKind → Option Parser
piece_on (piece.Key site members) at' ks kind = key_on site members at' ks kind
piece_on (piece.NameKey site members n) at' ks kind = name_key_on site members n ks kind
piece_on (piece.OtherKey site members key_site name) at' ks kind = other_key_on site members key_site name ks kind
piece_on (piece.New site) at' ks kind = new_on site at' ks kind
piece_on (piece.NewName site n) at' ks kind = new_name_on site n ks kind
piece_on (piece.Property start first suffixes site) at' ks kind = property_on start first suffixes site ks kind
piece_on (piece.Function site) at' ks kind = function_on site at' ks kind

-- ---- parameters

abbrev pub headed : Header → List Identifier → Heading
headed (header.Function site n) names = heading.Braces (list.Function site n names)
headed (header.Value site n) names = heading.Braces (list.Value site n names)
headed (header.Arrow start) names = heading.Arrow start names

abbrev pub open_on : Header → List Frame → TokenKind → Option Parser
open_on h ks k.OpenRound = Some (at (mode.Heading (heading.Parameters h [])) ks)
open_on h ks _ = None

abbrev pub parameters_on : Header → List Identifier → ℕ → List Frame → TokenKind → Option Parser
parameters_on h names at' ks (k.Name name) = Some (at (mode.Heading (heading.Parameter h (names ++ record { site = at'; name = name } ∷ []))) ks)
parameters_on h names at' ks k.CloseRound = Some (at (mode.Heading (headed h names)) ks)
parameters_on h names at' ks _ = None

abbrev pub parameter_on : Header → List Identifier → List Frame → TokenKind → Option Parser
parameter_on h names ks k.Comma = Some (at (mode.Heading (heading.Parameters h names)) ks)
parameter_on h names ks k.CloseRound = Some (at (mode.Heading (headed h names)) ks)
parameter_on h names ks _ = None

abbrev pub arrow_due_on : Bool → ℕ → List Identifier → List Frame → TokenKind → Option Parser
arrow_due_on line start names ks k.Arrow = to_arrow line start names ks
arrow_due_on line start names ks _ = None
