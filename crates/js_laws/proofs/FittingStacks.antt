-- The stacks that steps build: which frames stand on which.
use Rattle.std.proofs.Common.{◌≡◌, ℕ, Bool, true, false, cond, not, ◌&&◌, ◌==◌, List, [], ◌∷◌, ◌++◌, Option, Some, None, refl, subst, nat_lt}
use Rattle.js_ast.specs.declared.expression.Expr.{Expr}
use Rattle.js_ast.specs.declared.expression.Expr.TheVariants as expr
use Rattle.js_ast.specs.declared.statement.Stmt.{Stmt}
use Rattle.js_ast.specs.declared.statement.Stmt.TheVariants as stmt
use Rattle.js_ast.specs.declared.operators.BinaryOp.{BinaryOp}
use Rattle.js_ast.specs.declared.operators.BinaryOp.TheVariants as op
use Rattle.js_ast.specs.declared.operators.LogicalOp.{LogicalOp}
use Rattle.js_ast.specs.declared.operators.StepOp.{StepOp}
use Rattle.js_ast.specs.declared.operators.UnaryOp.{UnaryOp}
use Rattle.js_ast.specs.declared.operators.UnaryOp.TheVariants as unary
use Rattle.js_ast.specs.declared.parts.Identifier.{Identifier}
use Rattle.js_ast.specs.declared.parts.Suffix.{Suffix}
use Rattle.js_ast.specs.declared.parts.Key.{Key}
use Rattle.js_ast.specs.declared.parts.Key.TheVariants as key
use Rattle.js_ast.specs.declared.parts.Member.{Member}
use Rattle.js_ast.specs.declared.parts.LoopHead.TheVariants as head
use Rattle.js_ast.specs.declared.parts.Catch.{Catch}
use Rattle.js_grammar.specs.declared.token.Token.{Token}
use Rattle.js_grammar.specs.declared.token.TokenKind.{TokenKind}
use Rattle.js_grammar.specs.declared.token.TokenKind.TheVariants as k
use Rattle.js_grammar.specs.declared.token.Word.{Word}
use Rattle.js_grammar.specs.declared.token.Word.TheVariants as word
use Rattle.js_grammar.specs.Phrases.{level, is_of, is_proto, continues}
use Rattle.js_reading.specs.declared.frame.Frame.{Frame}
use Rattle.js_reading.specs.declared.frame.Frame.TheVariants as frame
use Rattle.js_reading.specs.declared.frame.Pending.TheVariants as pending
use Rattle.js_reading.specs.declared.frame.Bracket.{Bracket}
use Rattle.js_reading.specs.declared.frame.Bracket.TheVariants as bracket
use Rattle.js_reading.specs.declared.frame.Part.{Part}
use Rattle.js_reading.specs.declared.frame.Part.TheVariants as part
use Rattle.js_reading.specs.declared.frame.Below.TheVariants as below
use Rattle.js_reading.specs.declared.frame.Braces.{Braces}
use Rattle.js_reading.specs.declared.frame.Braces.TheVariants as list
use Rattle.js_reading.specs.declared.frame.Closed.{Closed}
use Rattle.js_reading.specs.declared.frame.Over.{Over}
use Rattle.js_reading.specs.declared.frame.Declaring.{Declaring}
use Rattle.js_reading.specs.declared.mode.Mode.{Mode}
use Rattle.js_reading.specs.declared.mode.Mode.TheVariants as mode
use Rattle.js_reading.specs.declared.mode.Operand.{Operand}
use Rattle.js_reading.specs.declared.mode.Operand.TheVariants as operand
use Rattle.js_reading.specs.declared.mode.Header.{Header}
use Rattle.js_reading.specs.declared.mode.Header.TheVariants as header
use Rattle.js_reading.specs.declared.mode.Heading.{Heading}
use Rattle.js_reading.specs.declared.mode.Heading.TheVariants as heading
use Rattle.js_reading.specs.declared.mode.Ending.{Ending}
use Rattle.js_reading.specs.declared.mode.Ending.TheVariants as ending
use Rattle.js_reading.specs.declared.mode.Trying.{Trying}
use Rattle.js_reading.specs.declared.mode.Trying.TheVariants as trying
use Rattle.js_reading.specs.declared.mode.Opening.{Opening}
use Rattle.js_reading.specs.declared.mode.Opening.TheVariants as opening
use Rattle.js_reading.specs.declared.mode.Piece.{Piece}
use Rattle.js_reading.specs.declared.mode.Piece.TheVariants as piece
use Rattle.js_reading.specs.declared.mode.Parser.{Parser}
use Rattle.js_reading.specs.Frames.{◌>>=◌, when, context, tightness, begin_of, join, close_to, conditional, all, takes_assign, takes_unary}
use Rattle.js_reading.specs.Operands.{at, word_of, reached, wants, value_of, tail_of, target_of, parameter_of, wrapped, is_literal, prefixed, want_binary, primary, want_word, want_brace, want_close_in, want_close, want_square, no_test, no_update, want_mark, want, settled, closed, opens_binary, place_binary, goes_on, goes_inside, level_of, opens_logical, place_logical, to_arrow, on_arrow, on_step, close_round_in, close_square_in, is_alone, on_colon_in, comma_in, comma_round, key_on, name_key_on, other_key_on, new_on, new_name_on, property_on, function_on, piece_on, headed, open_on, parameters_on, parameter_on, arrow_due_on}
use Rattle.js_reading.specs.Statements.{joined, waits, settle, with_declarator, declared, declares_more, is_statement, is_let, of_part, over_of, over, declaration_over, close_list, express, loop_word, inner_word, inner, item_word, close_braces, item, next_item, on_else, on_while, after_by, after, semicolon_part, close_round_part, comma_part, test_on, for_on, for_first, for_word, for_head_on, declare_on, bare, goes_of, ends_bare, named_ends, named_on, function_name_on, opening_on, do_on, jump_on, return_on, ending_on, braces_on, tried_word, catch_head_on, catch_open_on, catch_name_on, caught_by, trying_on}
use Rattle.js_reading.specs.Reading.{continues_by, ends_before, close_round_of, on_close_round, comma_of, on_comma, semicolon_of, close_brace_of, step_mark, ends_by, operand_on, heading_on, below_by, step_in, step, start}
use Rattle.js_laws.proofs.ThroughFrames.{some_is, bind_some}

-- what is under way behind the frames: an operand, an expression that is no target of `++` or `--` before it, a statement
pub data Sort : Type 0 where
  operands : Sort
  expressions : Sort
  statements : Sort

-- what stands around a list
abbrev pub sort_of : Braces → Sort
sort_of (list.Value site n names) = operands
sort_of (list.Arrow from names) = expressions
sort_of _ = statements

abbrev pub sort_in : Bracket → Sort
sort_in (bracket.Question from site test) = expressions
sort_in _ = operands

-- each frame stands where it may
abbrev pub Good : Sort → List Frame → Type 0
Good operands (frame.Pending p ∷ ks) = Good expressions ks
Good operands (frame.Step site o ∷ ks) = Good expressions ks
Good operands (frame.Bracket b ∷ ks) = Good (sort_in b) ks
Good operands (frame.Part p ∷ ks) = Good statements ks
Good expressions (frame.Pending p ∷ ks) = Good expressions ks
Good expressions (frame.Bracket b ∷ ks) = Good (sort_in b) ks
Good expressions (frame.Part p ∷ ks) = Good statements ks
Good statements (frame.Below b ∷ ks) = Good statements ks
Good statements (frame.List list.Script body ∷ ks) = Unit {0}
Good statements (frame.List b body ∷ ks) = Good (sort_of b) ks
Good _ _ = ⊥

abbrev pub sort_operand : Operand → Sort
sort_operand (operand.Stepped e) = expressions
sort_operand (operand.Braced e) = expressions
sort_operand _ = operands

abbrev pub sort_header : Header → Sort
sort_header (header.Function site n) = statements
sort_header (header.Value site n) = operands
sort_header (header.Arrow from) = expressions

abbrev pub fits_statement : List Frame → Type 0
fits_statement (frame.List b body ∷ ks) = Good statements (frame.List b body ∷ ks)
fits_statement _ = ⊥

abbrev pub fits_below : List Frame → Type 0
fits_below (frame.Below b ∷ ks) = Good statements ks
fits_below _ = ⊥

abbrev pub fits_heading : Heading → List Frame → Type 0
fits_heading (heading.Open h) ks = Good (sort_header h) ks
fits_heading (heading.Parameters h names) ks = Good (sort_header h) ks
fits_heading (heading.Parameter h names) ks = Good (sort_header h) ks
fits_heading (heading.Arrow from names) ks = Good expressions ks
fits_heading (heading.Braces b) ks = Good statements (frame.List b [] ∷ ks)

abbrev pub fits_opening : Opening → List Frame → Type 0
fits_opening opening.Test ks = Good operands ks
fits_opening _ ks = Good statements ks

abbrev pub fits_in : Mode → List Frame → Type 0
fits_in mode.Statement ks = fits_statement ks
fits_in mode.Below ks = fits_below ks
fits_in mode.Want ks = Good operands ks
fits_in (mode.Operand from x) ks = Good (sort_operand x) ks
fits_in (mode.Ending e) ks = Good statements ks
fits_in (mode.Trying t) ks = Good statements ks
fits_in (mode.Opening o) ks = fits_opening o ks
fits_in (mode.Heading h) ks = fits_heading h ks
fits_in (mode.Piece p) ks = Good operands ks

abbrev pub Fits : Parser → Type 0
Fits p = fits_in p.mode p.frames

-- where a step leads, the stack fits
abbrev pub Keeps : Option Parser → Type 0
Keeps None = Unit {0}
Keeps (Some q) = Fits q

keeps_when : (b : Bool) (o : Option Parser) → (b ≡ true → Keeps o) → Keeps (when b o)
keeps_when true o h = h refl
keeps_when false o h = tt

keeps_unless : (b : Bool) (o : Option Parser) → Keeps o → Keeps (cond b None o)
keeps_unless true o h = tt
keeps_unless false o h = h

keeps_either : (b : Bool) (o o' : Option Parser) → Keeps o → Keeps o' → Keeps (cond b o o')
keeps_either true o o' h g = h
keeps_either false o o' h g = g

keeps_bind : {A : Type 0} (o : Option A) (f : A → Option Parser) → ((x : A) → o ≡ Some x → Keeps (f x)) → Keeps (o >>= f)
keeps_bind (Some x) f h = h x refl
keeps_bind None f h = tt

-- ---- from one sort to another

open_operand : (ks : List Frame) → Good expressions ks → Good operands ks
open_operand (frame.Pending p ∷ ks) g = g
open_operand (frame.Bracket b ∷ ks) g = g
open_operand (frame.Part p ∷ ks) g = g
open_operand _ g = absurd g

unary_open : (ks : List Frame) → takes_unary ks ≡ true → Good operands ks → Good expressions ks
unary_open (frame.Pending p ∷ ks) q g = g
unary_open (frame.Bracket b ∷ ks) q g = g
unary_open (frame.Part p ∷ ks) q g = g
unary_open (frame.Step site o ∷ ks) q g = absurd cc
unary_open _ q g = absurd g

assign_open : (ks : List Frame) → takes_assign ks ≡ true → Good operands ks → Good expressions ks
assign_open (frame.Pending p ∷ ks) q g = g
assign_open (frame.Bracket b ∷ ks) q g = g
assign_open (frame.Part p ∷ ks) q g = g
assign_open (frame.Step site o ∷ ks) q g = absurd cc
assign_open _ q g = absurd g

operand_good : (x : Operand) (ks : List Frame) → Good (sort_operand x) ks → Good operands ks
operand_good (operand.Stepped e) ks g = open_operand ks g
operand_good (operand.Braced e) ks g = open_operand ks g
operand_good _ ks g = g

-- ---- what closes

close_by : (b : Bool) (c d : Closed) → Good expressions c.frames → Good expressions d.frames → Good expressions (cond b c d).frames
close_by true c d g h = g
close_by false c d g h = h

close_good : (n from : ℕ) (e : Expr) (ks : List Frame) → Good expressions ks → Good expressions (close_to n from e ks).frames
close_good n from e (frame.Pending p ∷ ks) g = close_by (nat_lt (tightness p) n) (close_to n (begin_of p) (join p e) ks) (record { start = from; value = e; frames = frame.Pending p ∷ ks }) (close_good n (begin_of p) (join p e) ks g) g
close_good n from e (frame.Bracket b ∷ ks) g = g
close_good n from e (frame.Part p ∷ ks) g = g
close_good n from e _ g = absurd g

settled_good : (from : ℕ) (x : Operand) (ks : List Frame) (c : Closed) → settled from x ks ≡ Some c → Good operands ks → Good expressions c.frames
settled_good from x (frame.Step site o ∷ ks) c e g =
    let d = bind_some (target_of x) (λ t. Some (record { start = site; value = expr.Step site site o true t; frames = ks })) c e in
    subst (λ (z : Closed). Good expressions z.frames) (some_is (record { start = site; value = expr.Step site site o true d.0; frames = ks }) c d.2) g
settled_good from x (frame.Pending p ∷ ks) c e g = subst (λ (z : Closed). Good expressions z.frames) (some_is (record { start = from; value = value_of x; frames = frame.Pending p ∷ ks }) c e) g
settled_good from x (frame.Bracket b ∷ ks) c e g = subst (λ (z : Closed). Good expressions z.frames) (some_is (record { start = from; value = value_of x; frames = frame.Bracket b ∷ ks }) c e) g
settled_good from x (frame.Part p ∷ ks) c e g = subst (λ (z : Closed). Good expressions z.frames) (some_is (record { start = from; value = value_of x; frames = frame.Part p ∷ ks }) c e) g
settled_good from x _ c e g = absurd g

closed_good : (n from : ℕ) (x : Operand) (ks : List Frame) (c : Closed) → closed n from x ks ≡ Some c → Good operands ks → Good expressions c.frames
closed_good n from x ks c e g =
    let d = bind_some (settled from x ks) (λ (z : Closed). Some (close_to n z.start z.value z.frames)) c e in
    subst (λ (z : Closed). Good expressions z.frames) (some_is (close_to n d.0.start d.0.value d.0.frames) c d.2) (close_good n d.0.start d.0.value d.0.frames (settled_good from x ks d.0 d.1 g))

keeps_closed : (n from : ℕ) (x : Operand) (ks : List Frame) (f : Closed → Option Parser) → Good operands ks → ((c : Closed) → Good expressions c.frames → Keeps (f c)) → Keeps (closed n from x ks >>= f)
keeps_closed n from x ks f g h = keeps_bind (closed n from x ks) f (λ c e. h c (closed_good n from x ks c e g))

-- ---- where an operand is due

keeps_prefixed : (o : UnaryOp) (site : ℕ) (ks : List Frame) → Good operands ks → Keeps (prefixed o site ks)
keeps_prefixed o site ks g = keeps_when (takes_unary ks) (Some (wants (frame.Pending (pending.Prefix site o)) ks)) (λ q. unary_open ks q g)

keeps_binary_want : (o : BinaryOp) (site : ℕ) (ks : List Frame) → Good operands ks → Keeps (want_binary o site ks)
keeps_binary_want op.Add site ks g = keeps_prefixed unary.Plus site ks g
keeps_binary_want op.Subtract site ks g = keeps_prefixed unary.Minus site ks g
keeps_binary_want _ site ks g = tt

keeps_want_word : (w : Word) (site : ℕ) (ks : List Frame) → Good operands ks → Keeps (want_word w site ks)
keeps_want_word word.This site ks g = keeps_when (context ks).has_this (primary site (expr.This site) ks) (λ q. g)
keeps_want_word word.Null site ks g = g
keeps_want_word word.True site ks g = g
keeps_want_word word.False site ks g = g
keeps_want_word word.TypeOf site ks g = keeps_prefixed unary.TypeOf site ks g
keeps_want_word word.New site ks g = g
keeps_want_word word.Function site ks g = g
keeps_want_word _ site ks g = tt

keeps_brace : (site : ℕ) (ks : List Frame) → Good operands ks → Keeps (want_brace site ks)
keeps_brace site (frame.Pending (pending.Arrow from names) ∷ ks) g = g
keeps_brace site ks g = g

keeps_close_in : (b : Bracket) (ks : List Frame) → Good operands (frame.Bracket b ∷ ks) → Keeps (want_close_in b ks)
keeps_close_in (bracket.Round site) ks g = keeps_when (takes_assign ks) (Some (at (mode.Heading (heading.Arrow site [])) ks)) (λ q. assign_open ks q g)
keeps_close_in (bracket.Call from first sfx site items) ks g = g
keeps_close_in (bracket.New site n items) ks g = g
keeps_close_in _ ks g = tt

keeps_no_update : (p : Part) (ks : List Frame) → Good statements ks → Keeps (no_update p ks)
keeps_no_update (part.ForUpdate site first test) ks g = g
keeps_no_update _ ks g = tt

keeps_close : (ks : List Frame) → Good operands ks → Keeps (want_close ks)
keeps_close (frame.Bracket b ∷ ks) g = keeps_close_in b ks g
keeps_close (frame.Part p ∷ ks) g = keeps_no_update p ks g
keeps_close _ g = tt

keeps_square : (ks : List Frame) → Good operands ks → Keeps (want_square ks)
keeps_square (frame.Bracket (bracket.Array site items) ∷ ks) g = g
keeps_square _ g = tt

keeps_no_test : (ks : List Frame) → Good operands ks → Keeps (no_test ks)
keeps_no_test (frame.Part (part.ForTest site first) ∷ ks) g = g
keeps_no_test _ g = tt

keeps_mark : (site : ℕ) (ks : List Frame) (kind : TokenKind) → Good operands ks → Keeps (want_mark site ks kind)
keeps_mark site ks (k.Binary o) g = keeps_binary_want o site ks g
keeps_mark site ks k.Not g = keeps_prefixed unary.Not site ks g
keeps_mark site ks k.Complement g = keeps_prefixed unary.Complement site ks g
keeps_mark site ks (k.Step o) g = keeps_when (takes_unary ks) (Some (wants (frame.Step site o) ks)) (λ q. unary_open ks q g)
keeps_mark site ks k.OpenRound g = g
keeps_mark site ks k.OpenSquare g = g
keeps_mark site ks k.OpenBrace g = keeps_brace site ks g
keeps_mark site ks k.CloseRound g = keeps_close ks g
keeps_mark site ks k.CloseSquare g = keeps_square ks g
keeps_mark site ks k.Semicolon g = keeps_no_test ks g
keeps_mark site ks _ g = tt

keeps_want : (site : ℕ) (ks : List Frame) (kind : TokenKind) → Good operands ks → Keeps (want site ks kind)
keeps_want site ks (k.Name name) g = g
keeps_want site ks (k.Word w units) g = keeps_want_word w site ks g
keeps_want site ks (k.Number n) g = g
keeps_want site ks (k.Text text) g = g
keeps_want site ks kind g = keeps_mark site ks kind g

-- ---- pieces and parameters

keeps_key : (site : ℕ) (members : List (Member Expr)) (at' : ℕ) (ks : List Frame) (kind : TokenKind) → Good operands ks → Keeps (key_on site members at' ks kind)
keeps_key site members at' ks (k.Name name) g = keeps_unless (is_proto name) (Some (at (mode.Piece (piece.NameKey site members (record { site = at'; name = name }))) ks)) g
keeps_key site members at' ks (k.Word w name) g = keeps_unless (is_proto name) (Some (at (mode.Piece (piece.OtherKey site members at' (key.Text name))) ks)) g
keeps_key site members at' ks (k.Text name) g = keeps_unless (is_proto name) (Some (at (mode.Piece (piece.OtherKey site members at' (key.Text name))) ks)) g
keeps_key site members at' ks (k.Number n) g = g
keeps_key site members at' ks k.CloseBrace g = g
keeps_key site members at' ks _ g = tt

keeps_name_key : (site : ℕ) (members : List (Member Expr)) (n : Identifier) (ks : List Frame) (kind : TokenKind) → Good operands ks → Keeps (name_key_on site members n ks kind)
keeps_name_key site members n ks k.Colon g = g
keeps_name_key site members n ks k.Comma g = g
keeps_name_key site members n ks k.CloseBrace g = g
keeps_name_key site members n ks _ g = tt

keeps_other_key : (site : ℕ) (members : List (Member Expr)) (at' : ℕ) (name : Key) (ks : List Frame) (kind : TokenKind) → Good operands ks → Keeps (other_key_on site members at' name ks kind)
keeps_other_key site members at' name ks k.Colon g = g
keeps_other_key site members at' name ks _ g = tt

keeps_new : (site at' : ℕ) (ks : List Frame) (kind : TokenKind) → Good operands ks → Keeps (new_on site at' ks kind)
keeps_new site at' ks (k.Name name) g = g
keeps_new site at' ks _ g = tt

keeps_new_name : (site : ℕ) (n : Identifier) (ks : List Frame) (kind : TokenKind) → Good operands ks → Keeps (new_name_on site n ks kind)
keeps_new_name site n ks k.OpenRound g = g
keeps_new_name site n ks _ g = tt

keeps_property : (from : ℕ) (first : Expr) (sfx : List (Suffix Expr)) (site : ℕ) (ks : List Frame) (kind : TokenKind) → Good operands ks → Keeps (property_on from first sfx site ks kind)
keeps_property from first sfx site ks (k.Name name) g = g
keeps_property from first sfx site ks (k.Word w name) g = g
keeps_property from first sfx site ks _ g = tt

keeps_function : (site at' : ℕ) (ks : List Frame) (kind : TokenKind) → Good operands ks → Keeps (function_on site at' ks kind)
keeps_function site at' ks (k.Name name) g = g
keeps_function site at' ks k.OpenRound g = g
keeps_function site at' ks _ g = tt

keeps_piece : (p : Piece) (site : ℕ) (ks : List Frame) (kind : TokenKind) → Good operands ks → Keeps (piece_on p site ks kind)
keeps_piece (piece.Key site' members) site ks kind g = keeps_key site' members site ks kind g
keeps_piece (piece.NameKey site' members n) site ks kind g = keeps_name_key site' members n ks kind g
keeps_piece (piece.OtherKey site' members at' name) site ks kind g = keeps_other_key site' members at' name ks kind g
keeps_piece (piece.New site') site ks kind g = keeps_new site' site ks kind g
keeps_piece (piece.NewName site' n) site ks kind g = keeps_new_name site' n ks kind g
keeps_piece (piece.Property from first sfx site') site ks kind g = keeps_property from first sfx site' ks kind g
keeps_piece (piece.Function site') site ks kind g = keeps_function site' site ks kind g

headed_fits : (h : Header) (names : List Identifier) (ks : List Frame) → Good (sort_header h) ks → fits_heading (headed h names) ks
headed_fits (header.Function site n) names ks g = g
headed_fits (header.Value site n) names ks g = g
headed_fits (header.Arrow from) names ks g = g

keeps_open : (h : Header) (ks : List Frame) (kind : TokenKind) → Good (sort_header h) ks → Keeps (open_on h ks kind)
keeps_open h ks k.OpenRound g = g
keeps_open h ks _ g = tt

keeps_parameters : (h : Header) (names : List Identifier) (site : ℕ) (ks : List Frame) (kind : TokenKind) → Good (sort_header h) ks → Keeps (parameters_on h names site ks kind)
keeps_parameters h names site ks (k.Name name) g = g
keeps_parameters h names site ks k.CloseRound g = headed_fits h names ks g
keeps_parameters h names site ks _ g = tt

keeps_parameter : (h : Header) (names : List Identifier) (ks : List Frame) (kind : TokenKind) → Good (sort_header h) ks → Keeps (parameter_on h names ks kind)
keeps_parameter h names ks k.Comma g = g
keeps_parameter h names ks k.CloseRound g = headed_fits h names ks g
keeps_parameter h names ks _ g = tt

keeps_to_arrow : (line : Bool) (from : ℕ) (names : List Identifier) (ks : List Frame) → Good expressions ks → Keeps (to_arrow line from names ks)
keeps_to_arrow line from names ks g = keeps_unless line (Some (wants (frame.Pending (pending.Arrow from names)) ks)) g

keeps_arrow_due : (line : Bool) (from : ℕ) (names : List Identifier) (ks : List Frame) (kind : TokenKind) → Good expressions ks → Keeps (arrow_due_on line from names ks kind)
keeps_arrow_due line from names ks k.Arrow g = keeps_to_arrow line from names ks g
keeps_arrow_due line from names ks _ g = tt

keeps_braces : (b : Braces) (ks : List Frame) (kind : TokenKind) → Good statements (frame.List b [] ∷ ks) → Keeps (braces_on b ks kind)
keeps_braces b ks k.OpenBrace g = g
keeps_braces b ks _ g = tt

keeps_heading : (line : Bool) (h : Heading) (site : ℕ) (ks : List Frame) (kind : TokenKind) → fits_heading h ks → Keeps (heading_on line h site ks kind)
keeps_heading line (heading.Open h) site ks kind g = keeps_open h ks kind g
keeps_heading line (heading.Parameters h names) site ks kind g = keeps_parameters h names site ks kind g
keeps_heading line (heading.Parameter h names) site ks kind g = keeps_parameter h names ks kind g
keeps_heading line (heading.Arrow from names) site ks kind g = keeps_arrow_due line from names ks kind g
keeps_heading line (heading.Braces b) site ks kind g = keeps_braces b ks kind g

-- ---- statements

keeps_loop_word : (w : Word) (site : ℕ) (ks : List Frame) → Good statements ks → Keeps (loop_word w site ks)
keeps_loop_word word.If site ks g = g
keeps_loop_word word.While site ks g = g
keeps_loop_word word.Do site ks g = g
keeps_loop_word word.For site ks g = g
keeps_loop_word w site ks g = keeps_want_word w site (express site ks) g

keeps_inner_word : (w : Word) (site : ℕ) (ks : List Frame) → Good statements ks → Keeps (inner_word w site ks)
keeps_inner_word word.Break site ks g = keeps_when (context ks).in_loop (Some (at (mode.Ending (ending.Jump (stmt.Break site))) ks)) (λ q. g)
keeps_inner_word word.Continue site ks g = keeps_when (context ks).in_loop (Some (at (mode.Ending (ending.Jump (stmt.Continue site))) ks)) (λ q. g)
keeps_inner_word word.Return site ks g = keeps_when (context ks).in_function (Some (at (mode.Ending (ending.Return site)) ks)) (λ q. g)
keeps_inner_word word.Throw site ks g = g
keeps_inner_word word.Try site ks g = g
keeps_inner_word word.Function site ks g = tt
keeps_inner_word w site ks g = keeps_loop_word w site ks g

keeps_inner : (site : ℕ) (ks : List Frame) (kind : TokenKind) → Good statements ks → Keeps (inner site ks kind)
keeps_inner site ks k.OpenBrace g = g
keeps_inner site ks k.Semicolon g = g
keeps_inner site ks (k.Word w units) g = keeps_inner_word w site ks g
keeps_inner site ks kind g = keeps_want site (express site ks) kind g

keeps_item_word : (w : Word) (site : ℕ) (ks : List Frame) → Good statements ks → Keeps (item_word w site ks)
keeps_item_word word.Let site ks g = g
keeps_item_word word.Const site ks g = g
keeps_item_word word.Function site ks g = g
keeps_item_word w site ks g = keeps_inner_word w site ks g

keeps_list : (b : Braces) (body : List Stmt) (ks : List Frame) → Good statements (frame.List b body ∷ ks) → Keeps (close_list b body ks)
keeps_list list.Script body ks g = tt
keeps_list (list.Block site) body ks g = g
keeps_list (list.Function site n names) body ks g = g
keeps_list (list.Value site n names) body ks g = g
keeps_list (list.Arrow from names) body ks g = g
keeps_list (list.Try site) body ks g = g
keeps_list (list.Catch site body' n) body ks g = g
keeps_list (list.Finally site body' caught) body ks g = g

keeps_close_braces : (ks : List Frame) → Good statements ks → Keeps (close_braces ks)
keeps_close_braces (frame.List b body ∷ ks) g = keeps_list b body ks g
keeps_close_braces _ g = tt

keeps_item : (site : ℕ) (ks : List Frame) (kind : TokenKind) → Good statements ks → Keeps (item site ks kind)
keeps_item site ks k.CloseBrace g = keeps_close_braces ks g
keeps_item site ks (k.Word w units) g = keeps_item_word w site ks g
keeps_item site ks kind g = keeps_inner site ks kind g

list_good : (b : Braces) (body more : List Stmt) (ks : List Frame) → Good statements (frame.List b body ∷ ks) → Good statements (frame.List b more ∷ ks)
list_good list.Script body more ks g = tt
list_good (list.Block site) body more ks g = g
list_good (list.Function site n names) body more ks g = g
list_good (list.Value site n names) body more ks g = g
list_good (list.Arrow from names) body more ks g = g
list_good (list.Try site) body more ks g = g
list_good (list.Catch site body' n) body more ks g = g
list_good (list.Finally site body' caught) body more ks g = g

keeps_next : (site : ℕ) (s : Stmt) (ks : List Frame) (kind : TokenKind) → Good statements ks → Keeps (next_item site s ks kind)
keeps_next site s (frame.List b body ∷ ks) kind g = keeps_item site (frame.List b (body ++ s ∷ []) ∷ ks) kind (list_good b body (body ++ s ∷ []) ks g)
keeps_next site s _ kind g = tt

settle_by : (b : Bool) (o o' : Over) → Good statements o.frames → Good statements o'.frames → Good statements (cond b o o').frames
settle_by true o o' g h = g
settle_by false o o' g h = h

settle_good : (q : Bool) (s : Stmt) (ks : List Frame) → Good statements ks → Good statements (settle q s ks).frames
settle_good q s (frame.Below b ∷ ks) g = settle_by (waits q b) (record { value = s; frames = frame.Below b ∷ ks }) (settle q (joined b s) ks) g (settle_good q (joined b s) ks g)
settle_good q s (frame.List b body ∷ ks) g = g
settle_good q s _ g = absurd g

keeps_else : (s : Stmt) (ks : List Frame) → Good statements ks → Keeps (on_else s ks)
keeps_else s (frame.Below (below.Then arms site test) ∷ ks) g = g
keeps_else s _ g = tt

keeps_while : (site : ℕ) (s : Stmt) (ks : List Frame) (kind : TokenKind) → Good statements ks → Keeps (on_while site s ks kind)
keeps_while site s (frame.Below (below.Do site') ∷ ks) kind g = g
keeps_while site s ks kind g = keeps_next site s ks kind g

keeps_after_by : (site : ℕ) (s : Stmt) (ks : List Frame) (kind : TokenKind) (o : Option Word) → Good statements ks → Keeps (after_by site s ks kind o)
keeps_after_by site s ks kind (Some word.Else) g = keeps_else (settle true s ks).value (settle true s ks).frames (settle_good true s ks g)
keeps_after_by site s ks kind (Some word.While) g = keeps_while site (settle false s ks).value (settle false s ks).frames kind (settle_good false s ks g)
keeps_after_by site s ks kind _ g = keeps_next site (settle false s ks).value (settle false s ks).frames kind (settle_good false s ks g)

keeps_after : (site : ℕ) (s : Stmt) (ks : List Frame) (kind : TokenKind) → Good statements ks → Keeps (after site s ks kind)
keeps_after site s ks kind g = keeps_after_by site s ks kind (word_of kind) g

keeps_below_if : (site : ℕ) (ks : List Frame) (kind : TokenKind) (o : Option Word) → fits_below ks → Keeps (below_by site ks kind o)
keeps_below_if site (frame.Below (below.Else arms) ∷ ks) kind (Some word.If) g = g
keeps_below_if site (frame.Below (below.Else arms) ∷ ks) kind o g = keeps_inner site (frame.Below (below.Else arms) ∷ ks) kind g
keeps_below_if site (frame.Below b ∷ ks) kind o g = keeps_inner site (frame.Below b ∷ ks) kind g
keeps_below_if site _ kind o g = absurd g

keeps_statement : (site : ℕ) (ks : List Frame) (kind : TokenKind) → fits_statement ks → Keeps (item site ks kind)
keeps_statement site (frame.List b body ∷ ks) kind g = keeps_item site (frame.List b body ∷ ks) kind g
keeps_statement site _ kind g = absurd g

-- ---- openings, endings, tries

keeps_test : (ks : List Frame) (kind : TokenKind) → Good operands ks → Keeps (test_on ks kind)
keeps_test ks k.OpenRound g = g
keeps_test ks _ g = tt

keeps_for : (site : ℕ) (ks : List Frame) (kind : TokenKind) → Good statements ks → Keeps (for_on site ks kind)
keeps_for site ks k.OpenRound g = g
keeps_for site ks _ g = tt

keeps_for_word : (w : Word) (site at' : ℕ) (ks : List Frame) → Good statements ks → Keeps (for_word w site at' ks)
keeps_for_word word.Let site at' ks g = g
keeps_for_word word.Const site at' ks g = g
keeps_for_word w site at' ks g = keeps_want_word w at' (for_first site ks) g

keeps_for_head : (site at' : ℕ) (ks : List Frame) (kind : TokenKind) → Good statements ks → Keeps (for_head_on site at' ks kind)
keeps_for_head site at' ks k.Semicolon g = g
keeps_for_head site at' ks (k.Word w units) g = keeps_for_word w site at' ks g
keeps_for_head site at' ks kind g = keeps_want at' (for_first site ks) kind g

keeps_declare : (d : Declaring) (at' : ℕ) (ks : List Frame) (kind : TokenKind) → Good statements ks → Keeps (declare_on d at' ks kind)
keeps_declare d at' ks (k.Name name) g = keeps_unless (not (is_statement d.place) && is_of name) (Some (at (mode.Opening (opening.Named d (record { site = at'; name = name }))) ks)) g
keeps_declare d at' ks _ g = tt

declaration_fits : (d : Declaring) (n : Identifier) (value : Option Expr) (ks : List Frame) → Good statements ks → Fits (declaration_over d n value ks)
declaration_fits d n value ks g = by_place (is_statement d.place)
  where
    by_place : (b : Bool) → Fits (cond b (over (declared d n value) ks) (wants (frame.Part (part.ForTest d.site (head.Declare d.kind (with_declarator d n value)))) ks))
    by_place true = g
    by_place false = g

keeps_named_ends : (line : Bool) (d : Declaring) (n : Identifier) (site : ℕ) (ks : List Frame) (kind : TokenKind) → Good statements ks → Keeps (named_ends line d n site ks kind)
keeps_named_ends line d n site ks kind g = keeps_when (is_statement d.place && (is_let d.kind && ends_bare line kind)) (after site (bare d n) ks kind) (λ q. keeps_after site (bare d n) ks kind g)

keeps_named : (line : Bool) (d : Declaring) (n : Identifier) (site : ℕ) (ks : List Frame) (kind : TokenKind) → Good statements ks → Keeps (named_on line d n site ks kind)
keeps_named line d n site ks (k.Assign None) g = g
keeps_named line d n site ks k.Comma g = keeps_when (is_let d.kind) (Some (declares_more d n None ks)) (λ q. g)
keeps_named line d n site ks k.Semicolon g = keeps_when (is_let d.kind) (Some (declaration_over d n None ks)) (λ q. declaration_fits d n None ks g)
keeps_named line d n site ks (k.Name name) g = keeps_either (goes_of d name) (Some (wants (frame.Part (part.ForOf d.site d.kind n)) ks)) (named_ends line d n site ks (k.Name name)) g (keeps_named_ends line d n site ks (k.Name name) g)
keeps_named line d n site ks kind g = keeps_named_ends line d n site ks kind g

keeps_function_name : (site at' : ℕ) (ks : List Frame) (kind : TokenKind) → Good statements ks → Keeps (function_name_on site at' ks kind)
keeps_function_name site at' ks (k.Name name) g = g
keeps_function_name site at' ks _ g = tt

keeps_opening : (line : Bool) (o : Opening) (site : ℕ) (ks : List Frame) (kind : TokenKind) → fits_opening o ks → Keeps (opening_on line o site ks kind)
keeps_opening line opening.Test site ks kind g = keeps_test ks kind g
keeps_opening line (opening.For site') site ks kind g = keeps_for site' ks kind g
keeps_opening line (opening.ForHead site') site ks kind g = keeps_for_head site' site ks kind g
keeps_opening line (opening.Declare d) site ks kind g = keeps_declare d site ks kind g
keeps_opening line (opening.Named d n) site ks kind g = keeps_named line d n site ks kind g
keeps_opening line (opening.Function site') site ks kind g = keeps_function_name site' site ks kind g

keeps_do : (s : Stmt) (site : ℕ) (ks : List Frame) (kind : TokenKind) → Good statements ks → Keeps (do_on s site ks kind)
keeps_do s site ks k.Semicolon g = g
keeps_do s site ks kind g = keeps_after site s ks kind g

keeps_jump : (line : Bool) (s : Stmt) (site : ℕ) (ks : List Frame) (kind : TokenKind) → Good statements ks → Keeps (jump_on line s site ks kind)
keeps_jump line s site ks k.Semicolon g = g
keeps_jump line s site ks kind g = keeps_when (ends_bare line kind) (after site s ks kind) (λ q. keeps_after site s ks kind g)

keeps_return : (line : Bool) (site' site : ℕ) (ks : List Frame) (kind : TokenKind) → Good statements ks → Keeps (return_on line site' site ks kind)
keeps_return line site' site ks k.Semicolon g = g
keeps_return line site' site ks kind g = keeps_either (ends_bare line kind) (after site (stmt.Return site' None) ks kind) (want site (frame.Part (part.Return site') ∷ ks) kind) (keeps_after site (stmt.Return site' None) ks kind g) (keeps_want site (frame.Part (part.Return site') ∷ ks) kind g)

keeps_ending : (line : Bool) (e : Ending) (site : ℕ) (ks : List Frame) (kind : TokenKind) → Good statements ks → Keeps (ending_on line e site ks kind)
keeps_ending line (ending.Over s) site ks kind g = keeps_after site s ks kind g
keeps_ending line (ending.Do s) site ks kind g = keeps_do s site ks kind g
keeps_ending line (ending.Jump s) site ks kind g = keeps_jump line s site ks kind g
keeps_ending line (ending.Return site') site ks kind g = keeps_return line site' site ks kind g
keeps_ending line (ending.Throw site') site ks kind g = keeps_unless line (want site (frame.Part (part.Throw site') ∷ ks) kind) (keeps_want site (frame.Part (part.Throw site') ∷ ks) kind g)

keeps_tried : (site : ℕ) (body : List Stmt) (ks : List Frame) (o : Option Word) → Good statements ks → Keeps (tried_word site body ks o)
keeps_tried site body ks (Some word.Catch) g = g
keeps_tried site body ks (Some word.Finally) g = g
keeps_tried site body ks _ g = tt

keeps_catch_head : (site : ℕ) (body : List Stmt) (ks : List Frame) (kind : TokenKind) → Good statements ks → Keeps (catch_head_on site body ks kind)
keeps_catch_head site body ks k.OpenRound g = g
keeps_catch_head site body ks k.OpenBrace g = g
keeps_catch_head site body ks _ g = tt

keeps_catch_open : (site : ℕ) (body : List Stmt) (at' : ℕ) (ks : List Frame) (kind : TokenKind) → Good statements ks → Keeps (catch_open_on site body at' ks kind)
keeps_catch_open site body at' ks (k.Name name) g = g
keeps_catch_open site body at' ks _ g = tt

keeps_catch_name : (site : ℕ) (body : List Stmt) (n : Identifier) (ks : List Frame) (kind : TokenKind) → Good statements ks → Keeps (catch_name_on site body n ks kind)
keeps_catch_name site body n ks k.CloseRound g = g
keeps_catch_name site body n ks _ g = tt

keeps_caught : (site' : ℕ) (body : List Stmt) (c : Catch (List Stmt)) (site : ℕ) (ks : List Frame) (kind : TokenKind) (o : Option Word) → Good statements ks → Keeps (caught_by site' body c site ks kind o)
keeps_caught site' body c site ks kind (Some word.Finally) g = g
keeps_caught site' body c site ks kind _ g = keeps_after site (stmt.Try site' body (Some c) None) ks kind g

keeps_trying : (t : Trying) (site : ℕ) (ks : List Frame) (kind : TokenKind) → Good statements ks → Keeps (trying_on t site ks kind)
keeps_trying (trying.Tried site' body) site ks kind g = keeps_tried site' body ks (word_of kind) g
keeps_trying (trying.CatchHead site' body) site ks kind g = keeps_catch_head site' body ks kind g
keeps_trying (trying.CatchOpen site' body) site ks kind g = keeps_catch_open site' body site ks kind g
keeps_trying (trying.CatchName site' body n) site ks kind g = keeps_catch_name site' body n ks kind g
keeps_trying (trying.Caught site' body c) site ks kind g = keeps_caught site' body c site ks kind (word_of kind) g

-- ---- behind an operand

place_fits : (o : BinaryOp) (site from : ℕ) (e : Expr) (ks : List Frame) → Good expressions ks → Fits (place_binary o site from e ks)
place_fits o site from e (frame.Pending (pending.Binary start' first links site' p) ∷ ks) g = by_level (level p == level o)
  where
    by_level : (b : Bool) → Fits (cond b (wants (frame.Pending (pending.Binary start' first (links ++ record { site = site'; op = p; right = e } ∷ []) site o)) ks) (opens_binary o site from e (frame.Pending (pending.Binary start' first links site' p) ∷ ks)))
    by_level true = g
    by_level false = g
place_fits o site from e ks g = g

keeps_logical : (o : LogicalOp) (site from : ℕ) (e : Expr) (ks : List Frame) → Good expressions ks → Keeps (place_logical o site from e ks)
keeps_logical o site from e (frame.Pending (pending.Logical start' first links site' p) ∷ ks) g =
    keeps_either (goes_on p o) (Some (wants (frame.Pending (pending.Logical start' first (links ++ record { site = site'; op = p; right = e } ∷ []) site o)) ks)) (when (goes_inside p o) (Some (opens_logical o site from e (frame.Pending (pending.Logical start' first links site' p) ∷ ks)))) g
    (keeps_when (goes_inside p o) (Some (opens_logical o site from e (frame.Pending (pending.Logical start' first links site' p) ∷ ks))) (λ q. g))
keeps_logical o site from e ks g = g

keeps_continues : (site from : ℕ) (x : Operand) (ks : List Frame) (kind : TokenKind) → Good operands ks → Keeps (continues_by site from x ks kind)
keeps_continues site from x ks k.Dot g = g
keeps_continues site from x ks k.OpenRound g = g
keeps_continues site from x ks k.OpenSquare g = g
keeps_continues site from x ks (k.Binary o) g = keeps_closed (level o) from x ks (λ c. Some (place_binary o site c.start c.value c.frames)) g (λ c h. place_fits o site c.start c.value c.frames h)
keeps_continues site from x ks (k.Logical o) g = keeps_closed (level_of o) from x ks (λ c. place_logical o site c.start c.value c.frames) g (λ c h. keeps_logical o site c.start c.value c.frames h)
keeps_continues site from x ks (k.Assign o) g = keeps_bind (target_of x) (λ t. when (takes_assign ks) (Some (wants (frame.Pending (pending.Assign from site o t)) ks))) (λ t e. keeps_when (takes_assign ks) (Some (wants (frame.Pending (pending.Assign from site o t)) ks)) (λ q. assign_open ks q g))
keeps_continues site from x ks k.Question g = keeps_closed conditional from x ks (λ c. Some (wants (frame.Bracket (bracket.Question c.start site c.value)) c.frames)) g (λ c h. h)
keeps_continues site from x ks _ g = tt

over_good : (e : Expr) (ks : List Frame) (o : Over) → over_of e ks ≡ Some o → Good expressions ks → Good statements o.frames
over_good e (frame.Part p ∷ ks) o q g =
    let d = bind_some (of_part p e) (λ (s : Stmt). Some (record { value = s; frames = ks })) o q in
    subst (λ (z : Over). Good statements z.frames) (some_is (record { value = d.0; frames = ks }) o d.2) g
over_good e _ o q g = absurd cc

keeps_over : (site : ℕ) (e : Expr) (ks : List Frame) (kind : TokenKind) → Good expressions ks → Keeps (over_of e ks >>= λ (o : Over). after site o.value o.frames kind)
keeps_over site e ks kind g = keeps_bind (over_of e ks) (λ (o : Over). after site o.value o.frames kind) (λ o q. keeps_after site o.value o.frames kind (over_good e ks o q g))

keeps_ends_before : (site from : ℕ) (x : Operand) (ks : List Frame) (kind : TokenKind) → Good operands ks → Keeps (ends_before site from x ks kind)
keeps_ends_before site from x ks kind g = keeps_closed all from x ks (λ c. over_of c.value c.frames >>= λ (o : Over). after site o.value o.frames kind) g (λ c h. keeps_over site c.value c.frames kind h)

keeps_arrow : (line : Bool) (from : ℕ) (x : Operand) (ks : List Frame) → Good operands ks → Keeps (on_arrow line from x ks)
keeps_arrow line from x ks g = keeps_bind (parameter_of x) (λ n. when (takes_assign ks) (to_arrow line from (n ∷ []) ks)) (λ n e. keeps_when (takes_assign ks) (to_arrow line from (n ∷ []) ks) (λ q. keeps_to_arrow line from (n ∷ []) ks (assign_open ks q g)))

keeps_step : (line : Bool) (o : StepOp) (site from : ℕ) (x : Operand) (ks : List Frame) → Good operands ks → Keeps (step_mark line o site from x ks)
keeps_step line o site from x ks g = keeps_either line (ends_before site from x ks (k.Step o)) (on_step o site from x ks) (keeps_ends_before site from x ks (k.Step o) g)
    (keeps_bind (target_of x) (λ t. when (takes_unary ks) (Some (reached from (operand.Stepped (expr.Step from site o false t)) ks))) (λ t e. keeps_when (takes_unary ks) (Some (reached from (operand.Stepped (expr.Step from site o false t)) ks)) (λ q. unary_open ks q g)))

wrapped_good : (x : Operand) (ks : List Frame) → Good operands ks → Good (sort_operand (wrapped x)) ks
wrapped_good (operand.Name n) ks g = g
wrapped_good (operand.RoundName n) ks g = g
wrapped_good (operand.DeepName n) ks g = g
wrapped_good (operand.Access first earlier last) ks g = g
wrapped_good (operand.RoundAccess first earlier last) ks g = g
wrapped_good _ ks g = g

keeps_round_in : (e : Expr) (b : Bracket) (ks : List Frame) → Good (sort_in b) ks → Keeps (close_round_in e b ks)
keeps_round_in e (bracket.Round site) ks g = g
keeps_round_in e (bracket.Call from first sfx site items) ks g = g
keeps_round_in e (bracket.New site n items) ks g = g
keeps_round_in e _ ks g = tt

keeps_round_part : (e : Expr) (p : Part) (ks : List Frame) → Good statements ks → Keeps (close_round_part e p ks)
keeps_round_part e (part.If arms site) ks g = g
keeps_round_part e (part.While site) ks g = g
keeps_round_part e (part.Do site body test_site) ks g = g
keeps_round_part e (part.ForUpdate site first test) ks g = g
keeps_round_part e (part.ForOf site o n) ks g = g
keeps_round_part e _ ks g = tt

keeps_round_of : (e : Expr) (ks : List Frame) → Good expressions ks → Keeps (close_round_of e ks)
keeps_round_of e (frame.Bracket b ∷ ks) g = keeps_round_in e b ks g
keeps_round_of e (frame.Part p ∷ ks) g = keeps_round_part e p ks g
keeps_round_of e _ g = tt

keeps_close_round : (from : ℕ) (x : Operand) (ks : List Frame) → Good operands ks → Keeps (on_close_round from x ks)
keeps_close_round from x (frame.Bracket (bracket.Round site) ∷ ks) g = wrapped_good x ks g
keeps_close_round from x ks g = keeps_closed all from x ks (λ c. close_round_of c.value c.frames) g (λ c h. keeps_round_of c.value c.frames h)

keeps_square_in : (static : Bool) (e : Expr) (ks : List Frame) → Good expressions ks → Keeps (close_square_in static e ks)
keeps_square_in static e (frame.Bracket (bracket.Array site items) ∷ ks) g = g
keeps_square_in static e (frame.Bracket (bracket.Index from first sfx site) ∷ ks) g = g
keeps_square_in static e _ g = tt

keeps_colon_in : (e : Expr) (ks : List Frame) → Good expressions ks → Keeps (on_colon_in e ks)
keeps_colon_in e (frame.Bracket (bracket.Question from site test) ∷ ks) g = g
keeps_colon_in e _ g = tt

keeps_comma_in : (e : Expr) (b : Bracket) (ks : List Frame) → Good (sort_in b) ks → Keeps (comma_in e b ks)
keeps_comma_in e (bracket.Array site items) ks g = g
keeps_comma_in e (bracket.Call from first sfx site items) ks g = g
keeps_comma_in e (bracket.New site n items) ks g = g
keeps_comma_in e (bracket.Member site members at' name) ks g = g
keeps_comma_in e _ ks g = tt

keeps_comma_part : (e : Expr) (p : Part) (ks : List Frame) → Good statements ks → Keeps (comma_part e p ks)
keeps_comma_part e (part.Declare d n) ks g = g
keeps_comma_part e _ ks g = tt

keeps_comma_of : (e : Expr) (ks : List Frame) → Good expressions ks → Keeps (comma_of e ks)
keeps_comma_of e (frame.Bracket b ∷ ks) g = keeps_comma_in e b ks g
keeps_comma_of e (frame.Part p ∷ ks) g = keeps_comma_part e p ks g
keeps_comma_of e _ g = tt

keeps_comma_round : (site : ℕ) (x : Operand) (ks : List Frame) → Good operands ks → Keeps (comma_round site x ks)
keeps_comma_round site (operand.Name n) ks g = keeps_when (takes_assign ks) (Some (at (mode.Heading (heading.Parameters (header.Arrow site) (n ∷ []))) ks)) (λ q. assign_open ks q g)
keeps_comma_round site _ ks g = tt

keeps_comma : (from : ℕ) (x : Operand) (ks : List Frame) → Good operands ks → Keeps (on_comma from x ks)
keeps_comma from x (frame.Bracket (bracket.Round site) ∷ ks) g = keeps_comma_round site x ks g
keeps_comma from x ks g = keeps_closed all from x ks (λ c. comma_of c.value c.frames) g (λ c h. keeps_comma_of c.value c.frames h)

keeps_semicolon_part : (e : Expr) (p : Part) (ks : List Frame) → Good statements ks → Keeps (semicolon_part e p ks)
keeps_semicolon_part e (part.ForFirst site) ks g = g
keeps_semicolon_part e (part.ForTest site first) ks g = g
keeps_semicolon_part e (part.Declare d n) ks g = declaration_fits d n (Some e) ks g
keeps_semicolon_part e p ks g = keeps_bind (of_part p e) (λ s. Some (over s ks)) (λ s q. g)

keeps_semicolon_of : (e : Expr) (ks : List Frame) → Good expressions ks → Keeps (semicolon_of e ks)
keeps_semicolon_of e (frame.Part p ∷ ks) g = keeps_semicolon_part e p ks g
keeps_semicolon_of e _ g = tt

keeps_close_brace_of : (site : ℕ) (e : Expr) (ks : List Frame) → Good expressions ks → Keeps (close_brace_of site e ks)
keeps_close_brace_of site e (frame.Bracket (bracket.Member site' members at' name) ∷ ks) g = g
keeps_close_brace_of site e ks g = keeps_over site e ks k.CloseBrace g

keeps_ends : (line : Bool) (site from : ℕ) (x : Operand) (ks : List Frame) (kind : TokenKind) → Good operands ks → Keeps (ends_by line site from x ks kind)
keeps_ends line site from x ks k.Arrow g = keeps_arrow line from x ks g
keeps_ends line site from x ks (k.Step o) g = keeps_step line o site from x ks g
keeps_ends line site from x ks k.CloseRound g = keeps_close_round from x ks g
keeps_ends line site from x ks k.CloseSquare g = keeps_closed all from x ks (λ c. close_square_in (is_literal x && is_alone ks) c.value c.frames) g (λ c h. keeps_square_in (is_literal x && is_alone ks) c.value c.frames h)
keeps_ends line site from x ks k.CloseBrace g = keeps_closed all from x ks (λ c. close_brace_of site c.value c.frames) g (λ c h. keeps_close_brace_of site c.value c.frames h)
keeps_ends line site from x ks k.Comma g = keeps_comma from x ks g
keeps_ends line site from x ks k.Colon g = keeps_closed all from x ks (λ c. on_colon_in c.value c.frames) g (λ c h. keeps_colon_in c.value c.frames h)
keeps_ends line site from x ks k.Semicolon g = keeps_closed all from x ks (λ c. semicolon_of c.value c.frames) g (λ c h. keeps_semicolon_of c.value c.frames h)
keeps_ends line site from x ks kind g = keeps_when line (ends_before site from x ks kind) (λ q. keeps_ends_before site from x ks kind g)

keeps_operand : (line : Bool) (site from : ℕ) (x : Operand) (ks : List Frame) (kind : TokenKind) → Good operands ks → Keeps (operand_on line site from x ks kind)
keeps_operand line site from x ks kind g = keeps_either (continues (tail_of x) kind) (continues_by site from x ks kind) (ends_by line site from x ks kind) (keeps_continues site from x ks kind g) (keeps_ends line site from x ks kind g)

-- ---- any step

keeps_in : (m : Mode) (ks : List Frame) (line : Bool) (site : ℕ) (kind : TokenKind) → fits_in m ks → Keeps (step_in m ks line site kind)
keeps_in mode.Statement ks line site kind g = keeps_statement site ks kind g
keeps_in mode.Below ks line site kind g = keeps_below_if site ks kind (word_of kind) g
keeps_in mode.Want ks line site kind g = keeps_want site ks kind g
keeps_in (mode.Operand from x) ks line site kind g = keeps_operand line site from x ks kind (operand_good x ks g)
keeps_in (mode.Ending e) ks line site kind g = keeps_ending line e site ks kind g
keeps_in (mode.Trying t) ks line site kind g = keeps_trying t site ks kind g
keeps_in (mode.Opening o) ks line site kind g = keeps_opening line o site ks kind g
keeps_in (mode.Heading h) ks line site kind g = keeps_heading line h site ks kind g
keeps_in (mode.Piece p) ks line site kind g = keeps_piece p site ks kind g

pub fits_on : (p : Parser) (t : Token) (q : Parser) → step p t ≡ Some q → Fits p → Fits q
fits_on p t q e g = subst (λ (o : Option Parser). Keeps o) e (keeps_in p.mode p.frames t.line_before t.start t.kind g)

pub start_fits : Fits start
start_fits = tt
