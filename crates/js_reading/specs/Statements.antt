-- This project's own: statements just read, and the tokens that begin and end them (ECMA-262, sections 12.10 and 14).
use Rattle.std.specs.Prelude.{ℕ, ◌&&◌, ◌||◌, Bool, true, false, not, cond, List, [], ◌∷◌, ◌++◌, Option, Some, None}
use Rattle.js_ast.specs.declared.expression.Expr.{Expr}
use Rattle.js_ast.specs.declared.expression.Expr.TheVariants as expr
use Rattle.js_ast.specs.declared.statement.Stmt.{Stmt}
use Rattle.js_ast.specs.declared.statement.Stmt.TheVariants as stmt
use Rattle.js_ast.specs.declared.statement.Arm.{Arm}
use Rattle.js_ast.specs.declared.operators.DeclarationKind.{DeclarationKind}
use Rattle.js_ast.specs.declared.operators.DeclarationKind.TheVariants as kind
use Rattle.js_ast.specs.declared.parts.Identifier.{Identifier}
use Rattle.js_ast.specs.declared.parts.Catch.{Catch}
use Rattle.js_ast.specs.declared.parts.Declarator.{Declarator}
use Rattle.js_ast.specs.declared.parts.LoopHead.{LoopHead}
use Rattle.js_ast.specs.declared.parts.LoopHead.TheVariants as head
use Rattle.js_grammar.specs.declared.token.Token.{Token}
use Rattle.js_grammar.specs.declared.token.TokenKind.{TokenKind}
use Rattle.js_grammar.specs.declared.token.TokenKind.TheVariants as k
use Rattle.js_grammar.specs.declared.token.Word.{Word}
use Rattle.js_grammar.specs.declared.token.Word.TheVariants as word
use Rattle.js_grammar.specs.Phrases.{is_of, is_close_brace}
use Rattle.js_reading.specs.declared.frame.Frame.{Frame}
use Rattle.js_reading.specs.declared.frame.Frame.TheVariants as frame
use Rattle.js_reading.specs.declared.frame.Part.{Part}
use Rattle.js_reading.specs.declared.frame.Part.TheVariants as part
use Rattle.js_reading.specs.declared.frame.Below.{Below}
use Rattle.js_reading.specs.declared.frame.Below.TheVariants as below
use Rattle.js_reading.specs.declared.frame.Braces.{Braces}
use Rattle.js_reading.specs.declared.frame.Braces.TheVariants as list
use Rattle.js_reading.specs.declared.frame.Place.{Place}
use Rattle.js_reading.specs.declared.frame.Place.TheVariants as place
use Rattle.js_reading.specs.declared.frame.Declaring.{Declaring}
use Rattle.js_reading.specs.declared.mode.Mode.{Mode}
use Rattle.js_reading.specs.declared.mode.Mode.TheVariants as mode
use Rattle.js_reading.specs.declared.mode.Operand.{Operand}
use Rattle.js_reading.specs.declared.mode.Operand.TheVariants as operand
use Rattle.js_reading.specs.declared.mode.Header.TheVariants as header
use Rattle.js_reading.specs.declared.mode.Heading.TheVariants as heading
use Rattle.js_reading.specs.declared.mode.Ending.{Ending}
use Rattle.js_reading.specs.declared.mode.Ending.TheVariants as ending
use Rattle.js_reading.specs.declared.mode.Trying.{Trying}
use Rattle.js_reading.specs.declared.mode.Trying.TheVariants as trying
use Rattle.js_reading.specs.declared.mode.Opening.{Opening}
use Rattle.js_reading.specs.declared.mode.Opening.TheVariants as opening
use Rattle.js_reading.specs.declared.mode.Piece.TheVariants as piece
use Rattle.js_reading.specs.declared.mode.Parser.{Parser}
use Rattle.js_reading.specs.declared.frame.Over.{Over}
use Rattle.js_reading.specs.Frames.{◌>>=◌, when, context}
use Rattle.js_reading.specs.Operands.{at, reached, wants, primary, below_due, want, want_word, word_of}

-- ---- statements that are over

abbrev pub arm : List Arm → ℕ → Expr → Stmt → List Arm
arm arms site test s = arms ++ record { site = site; test = test; consequent = s } ∷ []

-- the whole, once the statement below is there
abbrev pub joined : Below → Stmt → Stmt
joined (below.Then arms site test) s = stmt.If (arm arms site test s) None
joined (below.Else arms) s = stmt.If arms (Some s)
joined (below.While site test) s = stmt.While site test s
joined (below.Do site) s = s
joined (below.For site first test update) s = stmt.For site first test update s
joined (below.ForOf site o n items) s = stmt.ForOf site o n items s

-- whether a word is awaited behind the statement below: `while`, or `else` where one is there
abbrev pub waits : Bool → Below → Bool
waits is_else (below.Then arms site test) = is_else
waits is_else (below.Do site) = true
waits is_else _ = false

-- what ends with a statement
abbrev pub settle : Bool → Stmt → List Frame → Over
settle is_else s (frame.Below b ∷ ks) = cond (waits is_else b) (record { value = s; frames = frame.Below b ∷ ks }) (settle is_else (joined b s) ks)
settle is_else s ks = record { value = s; frames = ks }

abbrev pub with_declarator : Declaring → Identifier → Option Expr → List (Declarator Expr)
with_declarator d n value = d.declarators ++ record { name = n; value = value } ∷ []

abbrev pub declared : Declaring → Identifier → Option Expr → Stmt
declared d n value = stmt.Declare d.site d.kind (with_declarator d n value)

abbrev pub declares_more : Declaring → Identifier → Option Expr → List Frame → Parser
declares_more d n value ks = at (mode.Opening (opening.Declare (record { place = d.place; site = d.site; kind = d.kind; declarators = with_declarator d n value }))) ks

-- a declaration ends: a statement, or the first part of a `for`
abbrev pub is_statement : Place → Bool
is_statement place.Statement = true
is_statement place.Loop = false

abbrev pub is_let : DeclarationKind → Bool
is_let kind.Let = true
is_let kind.Const = false

-- the statement that ends with its expression
abbrev pub of_part : Part → Expr → Option Stmt
of_part (part.Express site) e = Some (stmt.Express site e)
of_part (part.Declare d n) e = when (is_statement d.place) (Some (declared d n (Some e)))
of_part (part.Return site) e = Some (stmt.Return site (Some e))
of_part (part.Throw site) e = Some (stmt.Throw site e)
of_part _ e = None

abbrev pub over_of : Expr → List Frame → Option Over
over_of e (frame.Part p ∷ ks) = of_part p e >>= λ s. Some (record { value = s; frames = ks })
over_of e _ = None

abbrev pub over : Stmt → List Frame → Parser
over s ks = at (mode.Ending (ending.Over s)) ks

-- a statement, or the first part of a `for`
abbrev pub declaration_over : Declaring → Identifier → Option Expr → List Frame → Parser
declaration_over d n value ks =
    cond (is_statement d.place) (over (declared d n value) ks) (wants (frame.Part (part.ForTest d.site (head.Declare d.kind (with_declarator d n value)))) ks)

-- ---- braces that close

abbrev pub close_list : Braces → List Stmt → List Frame → Option Parser
close_list list.Script body ks = None
close_list (list.Block site) body ks = Some (over (stmt.Block site body) ks)
close_list (list.Function site n names) body ks = Some (over (stmt.Function site n names body) ks)
close_list (list.Value site n names) body ks = primary site (expr.FunctionExpression site n names body) ks
close_list (list.Arrow start names) body ks = Some (reached start (operand.Braced (expr.ArrowBlock start names body)) ks)
close_list (list.Try site) body ks = Some (at (mode.Trying (trying.Tried site body)) ks)
close_list (list.Catch site body' n) body ks = Some (at (mode.Trying (trying.Caught site body' (record { name = n; body = body }))) ks)
close_list (list.Finally site body' caught) body ks = Some (over (stmt.Try site body' caught (Some body)) ks)

-- ---- statements that begin

abbrev pub test_due : Part → List Frame → Option Parser
test_due p ks = Some (at (mode.Opening opening.Test) (frame.Part p ∷ ks))

abbrev pub jump_in_loop : Stmt → List Frame → Option Parser
jump_in_loop s ks = when ((context ks).in_loop) (Some (at (mode.Ending (ending.Jump s)) ks))

abbrev pub express : ℕ → List Frame → List Frame
express site ks = frame.Part (part.Express site) ∷ ks

abbrev pub loop_word : Word → ℕ → List Frame → Option Parser
loop_word word.If site ks = test_due (part.If [] site) ks
loop_word word.While site ks = test_due (part.While site) ks
loop_word word.Do site ks = below_due (below.Do site) ks
loop_word word.For site ks = Some (at (mode.Opening (opening.For site)) ks)
loop_word w site ks = want_word w site (express site ks)

-- a word at the front of a statement that is no declaration
abbrev pub inner_word : Word → ℕ → List Frame → Option Parser
inner_word word.Break site ks = jump_in_loop (stmt.Break site) ks
inner_word word.Continue site ks = jump_in_loop (stmt.Continue site) ks
inner_word word.Return site ks = when ((context ks).in_function) (Some (at (mode.Ending (ending.Return site)) ks))
inner_word word.Throw site ks = Some (at (mode.Ending (ending.Throw site)) ks)
inner_word word.Try site ks = Some (at (mode.Heading (heading.Braces (list.Try site))) ks)
inner_word word.Function site ks = None
inner_word w site ks = loop_word w site ks

abbrev pub inner : ℕ → List Frame → TokenKind → Option Parser
inner site ks k.OpenBrace = Some (at mode.Statement (frame.List (list.Block site) [] ∷ ks))
inner site ks k.Semicolon = Some (over (stmt.Nothing site) ks)
inner site ks (k.Word w units) = inner_word w site ks
inner site ks kind = want site (express site ks) kind

abbrev pub declaration : Place → ℕ → DeclarationKind → List Frame → Option Parser
declaration p site o ks = Some (at (mode.Opening (opening.Declare (record { place = p; site = site; kind = o; declarators = [] }))) ks)

-- a word at the front of a statement of a list
abbrev pub item_word : Word → ℕ → List Frame → Option Parser
item_word word.Let site ks = declaration place.Statement site kind.Let ks
item_word word.Const site ks = declaration place.Statement site kind.Const ks
item_word word.Function site ks = Some (at (mode.Opening (opening.Function site)) ks)
item_word w site ks = inner_word w site ks

abbrev pub close_braces : List Frame → Option Parser
close_braces (frame.List b body ∷ ks) = close_list b body ks
close_braces _ = None

-- a statement of a list begins, or the list ends
abbrev pub item : ℕ → List Frame → TokenKind → Option Parser
item site ks k.CloseBrace = close_braces ks
item site ks (k.Word w units) = item_word w site ks
item site ks kind = inner site ks kind

-- ---- a token behind a statement that is over

-- it begins the next statement of the list
abbrev pub next_item : ℕ → Stmt → List Frame → TokenKind → Option Parser
next_item site s (frame.List b body ∷ ks) kind = item site (frame.List b (body ++ s ∷ []) ∷ ks) kind
next_item site s _ kind = None

abbrev pub on_else : Stmt → List Frame → Option Parser
on_else s (frame.Below (below.Then arms site test) ∷ ks) = below_due (below.Else (arm arms site test s)) ks
on_else s _ = None

abbrev pub on_while : ℕ → Stmt → List Frame → TokenKind → Option Parser
on_while site s (frame.Below (below.Do site') ∷ ks) kind = test_due (part.Do site' s site) ks
on_while site s ks kind = next_item site s ks kind

abbrev pub after_by : ℕ → Stmt → List Frame → TokenKind → Option Word → Option Parser
after_by site s ks kind (Some word.Else) = (λ (o : Over). on_else o.value o.frames) (settle true s ks)
after_by site s ks kind (Some word.While) = (λ (o : Over). on_while site o.value o.frames kind) (settle false s ks)
after_by site s ks kind _ = (λ (o : Over). next_item site o.value o.frames kind) (settle false s ks)

abbrev pub after : ℕ → Stmt → List Frame → TokenKind → Option Parser
after site s ks kind = after_by site s ks kind (word_of kind)

-- ---- a token behind an expression of a statement

-- `;`
abbrev pub semicolon_part : Expr → Part → List Frame → Option Parser
semicolon_part e (part.ForFirst site) ks = Some (wants (frame.Part (part.ForTest site (head.Value e))) ks)
semicolon_part e (part.ForTest site first) ks = Some (wants (frame.Part (part.ForUpdate site first (Some e))) ks)
semicolon_part e (part.Declare d n) ks = Some (declaration_over d n (Some e) ks)
semicolon_part e p ks = of_part p e >>= λ s. Some (over s ks)

-- `)`
abbrev pub do_over : ℕ → Stmt → ℕ → Expr → List Frame → Parser
do_over site body test_site e ks = at (mode.Ending (ending.Do (stmt.Do site body test_site e))) ks

abbrev pub close_round_part : Expr → Part → List Frame → Option Parser
close_round_part e (part.If arms site) ks = below_due (below.Then arms site e) ks
close_round_part e (part.While site) ks = below_due (below.While site e) ks
close_round_part e (part.Do site body test_site) ks = Some (do_over site body test_site e ks)
close_round_part e (part.ForUpdate site first test) ks = below_due (below.For site first test (Some e)) ks
close_round_part e (part.ForOf site o n) ks = below_due (below.ForOf site o n e) ks
close_round_part e _ ks = None

-- `,`
abbrev pub comma_part : Expr → Part → List Frame → Option Parser
comma_part e (part.Declare d n) ks = Some (declares_more d n (Some e) ks)
comma_part e _ ks = None

-- ---- openings

abbrev pub test_on : List Frame → TokenKind → Option Parser
test_on ks k.OpenRound = Some (at mode.Want ks)
test_on ks _ = None

abbrev pub for_on : ℕ → List Frame → TokenKind → Option Parser
for_on site ks k.OpenRound = Some (at (mode.Opening (opening.ForHead site)) ks)
for_on site ks _ = None

abbrev pub for_first : ℕ → List Frame → List Frame
for_first site ks = frame.Part (part.ForFirst site) ∷ ks

abbrev pub for_word : Word → ℕ → ℕ → List Frame → Option Parser
for_word word.Let site at' ks = declaration place.Loop site kind.Let ks
for_word word.Const site at' ks = declaration place.Loop site kind.Const ks
for_word w site at' ks = want_word w at' (for_first site ks)

abbrev pub for_head_on : ℕ → ℕ → List Frame → TokenKind → Option Parser
for_head_on site at' ks k.Semicolon = Some (wants (frame.Part (part.ForTest site head.Nothing)) ks)
for_head_on site at' ks (k.Word w units) = for_word w site at' ks
for_head_on site at' ks kind = want at' (for_first site ks) kind

abbrev pub declare_on : Declaring → ℕ → List Frame → TokenKind → Option Parser
declare_on d at' ks (k.Name name) =
    cond (not (is_statement d.place) && is_of name) None (Some (at (mode.Opening (opening.Named d (record { site = at'; name = name }))) ks))
declare_on d at' ks _ = None

-- a name with no value ends the declaration
abbrev pub bare : Declaring → Identifier → Stmt
bare d n = declared d n None

abbrev pub named_semicolon : Declaring → Identifier → List Frame → Option Parser
named_semicolon d n ks = when (is_let d.kind) (Some (declaration_over d n None ks))

abbrev pub named_comma : Declaring → Identifier → List Frame → Option Parser
named_comma d n ks = when (is_let d.kind) (Some (declares_more d n None ks))

abbrev pub is_empty : List (Declarator Expr) → Bool
is_empty [] = true
is_empty _ = false

-- whether a name on as a `for` over items
abbrev pub goes_of : Declaring → List ℕ → Bool
goes_of d name = not (is_statement d.place) && (is_empty d.declarators && is_of name)

-- no semicolon is needed before the token, where no expression is
abbrev pub ends_bare : Bool → TokenKind → Bool
ends_bare line kind = is_close_brace kind || line

abbrev pub named_ends : Bool → Declaring → Identifier → ℕ → List Frame → TokenKind → Option Parser
named_ends line d n site ks kind =
    when (is_statement d.place && (is_let d.kind && ends_bare line kind)) (after site (bare d n) ks kind)

abbrev pub named_on : Bool → Declaring → Identifier → ℕ → List Frame → TokenKind → Option Parser
named_on line d n site ks (k.Assign None) = Some (wants (frame.Part (part.Declare d n)) ks)
named_on line d n site ks k.Comma = named_comma d n ks
named_on line d n site ks k.Semicolon = named_semicolon d n ks
named_on line d n site ks (k.Name name) =
    cond (goes_of d name) (Some (wants (frame.Part (part.ForOf d.site d.kind n)) ks)) (named_ends line d n site ks (k.Name name))
named_on line d n site ks kind = named_ends line d n site ks kind

abbrev pub function_name_on : ℕ → ℕ → List Frame → TokenKind → Option Parser
function_name_on site at' ks (k.Name name) = Some (at (mode.Heading (heading.Open (header.Function site (record { site = at'; name = name })))) ks)
function_name_on site at' ks _ = None

abbrev pub opening_on : Bool → Opening → ℕ → List Frame → TokenKind → Option Parser
opening_on line opening.Test site ks kind = test_on ks kind
opening_on line (opening.For site') site ks kind = for_on site' ks kind
opening_on line (opening.ForHead site') site ks kind = for_head_on site' site ks kind
opening_on line (opening.Declare d) site ks kind = declare_on d site ks kind
opening_on line (opening.Named d n) site ks kind = named_on line d n site ks kind
opening_on line (opening.Function site') site ks kind = function_name_on site' site ks kind

-- ---- endings

abbrev pub do_on : Stmt → ℕ → List Frame → TokenKind → Option Parser
do_on s site ks k.Semicolon = Some (over s ks)
do_on s site ks kind = after site s ks kind

abbrev pub jump_on : Bool → Stmt → ℕ → List Frame → TokenKind → Option Parser
jump_on line s site ks k.Semicolon = Some (over s ks)
jump_on line s site ks kind = when (ends_bare line kind) (after site s ks kind)

abbrev pub return_on : Bool → ℕ → ℕ → List Frame → TokenKind → Option Parser
return_on line site' site ks k.Semicolon = Some (over (stmt.Return site' None) ks)
return_on line site' site ks kind =
    cond (ends_bare line kind) (after site (stmt.Return site' None) ks kind) (want site (frame.Part (part.Return site') ∷ ks) kind)

abbrev pub throw_on : Bool → ℕ → ℕ → List Frame → TokenKind → Option Parser
throw_on line site' site ks kind = cond line None (want site (frame.Part (part.Throw site') ∷ ks) kind)

abbrev pub ending_on : Bool → Ending → ℕ → List Frame → TokenKind → Option Parser
ending_on line (ending.Over s) site ks kind = after site s ks kind
ending_on line (ending.Do s) site ks kind = do_on s site ks kind
ending_on line (ending.Jump s) site ks kind = jump_on line s site ks kind
ending_on line (ending.Return site') site ks kind = return_on line site' site ks kind
ending_on line (ending.Throw site') site ks kind = throw_on line site' site ks kind

-- ---- parts of a `try`

abbrev pub braces_due : Braces → List Frame → Option Parser
braces_due b ks = Some (at (mode.Heading (heading.Braces b)) ks)

abbrev pub braces_on : Braces → List Frame → TokenKind → Option Parser
braces_on b ks k.OpenBrace = Some (at mode.Statement (frame.List b [] ∷ ks))
braces_on b ks _ = None

abbrev pub tried_word : ℕ → List Stmt → List Frame → Option Word → Option Parser
tried_word site body ks (Some word.Catch) = Some (at (mode.Trying (trying.CatchHead site body)) ks)
tried_word site body ks (Some word.Finally) = braces_due (list.Finally site body None) ks
tried_word site body ks _ = None

abbrev pub tried_on : ℕ → List Stmt → List Frame → TokenKind → Option Parser
tried_on site body ks kind = tried_word site body ks (word_of kind)

abbrev pub catch_head_on : ℕ → List Stmt → List Frame → TokenKind → Option Parser
catch_head_on site body ks k.OpenRound = Some (at (mode.Trying (trying.CatchOpen site body)) ks)
catch_head_on site body ks k.OpenBrace = Some (at mode.Statement (frame.List (list.Catch site body None) [] ∷ ks))
catch_head_on site body ks _ = None

abbrev pub catch_open_on : ℕ → List Stmt → ℕ → List Frame → TokenKind → Option Parser
catch_open_on site body at' ks (k.Name name) = Some (at (mode.Trying (trying.CatchName site body (record { site = at'; name = name }))) ks)
catch_open_on site body at' ks _ = None

abbrev pub catch_name_on : ℕ → List Stmt → Identifier → List Frame → TokenKind → Option Parser
catch_name_on site body n ks k.CloseRound = braces_due (list.Catch site body (Some n)) ks
catch_name_on site body n ks _ = None

abbrev pub caught_by : ℕ → List Stmt → Catch (List Stmt) → ℕ → List Frame → TokenKind → Option Word → Option Parser
caught_by site' body caught site ks kind (Some word.Finally) = braces_due (list.Finally site' body (Some caught)) ks
caught_by site' body caught site ks kind _ = after site (stmt.Try site' body (Some caught) None) ks kind

abbrev pub trying_on : Trying → ℕ → List Frame → TokenKind → Option Parser
trying_on (trying.Tried site' body) site ks kind = tried_on site' body ks kind
trying_on (trying.CatchHead site' body) site ks kind = catch_head_on site' body ks kind
trying_on (trying.CatchOpen site' body) site ks kind = catch_open_on site' body site ks kind
trying_on (trying.CatchName site' body n) site ks kind = catch_name_on site' body n ks kind
trying_on (trying.Caught site' body caught) site ks kind = caught_by site' body caught site ks kind (word_of kind)
