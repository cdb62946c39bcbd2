-- Division is taken only where the goal of a `/` is division, and a pattern nowhere.
use Rattle.std.proofs.Common.{◌≡◌, ℕ, Bool, true, false, cond, ◌&&◌, List, [], ◌∷◌, ◌++◌, Option, Some, None, refl, sym, subst, ◌∙◌}
use Rattle.js_ast.specs.declared.statement.Stmt.{Stmt}
use Rattle.js_ast.specs.declared.statement.Stmt.TheVariants as stmt
use Rattle.js_ast.specs.declared.operators.BinaryOp.TheVariants as op
use Rattle.js_grammar.specs.declared.token.Token.{Token}
use Rattle.js_grammar.specs.declared.token.TokenKind.{TokenKind}
use Rattle.js_grammar.specs.declared.token.TokenKind.TheVariants as k
use Rattle.js_grammar.specs.Phrases.{continues}
use Rattle.js_lexer.specs.declared.token.Goal.{Goal}
use Rattle.js_lexer.specs.declared.token.Goal.TheVariants as goal
use Rattle.js_reading.specs.declared.frame.Frame.{Frame}
use Rattle.js_reading.specs.declared.frame.Frame.TheVariants as frame
use Rattle.js_reading.specs.declared.frame.Part.TheVariants as part
use Rattle.js_reading.specs.declared.frame.Below.TheVariants as below
use Rattle.js_reading.specs.declared.mode.Mode.{Mode}
use Rattle.js_reading.specs.declared.mode.Mode.TheVariants as mode
use Rattle.js_reading.specs.declared.mode.Operand.{Operand}
use Rattle.js_reading.specs.declared.mode.Operand.TheVariants as operand
use Rattle.js_reading.specs.declared.mode.Heading.{Heading}
use Rattle.js_reading.specs.declared.mode.Heading.TheVariants as heading
use Rattle.js_reading.specs.declared.mode.Ending.{Ending}
use Rattle.js_reading.specs.declared.mode.Ending.TheVariants as ending
use Rattle.js_reading.specs.declared.mode.Trying.{Trying}
use Rattle.js_reading.specs.declared.mode.Trying.TheVariants as trying
use Rattle.js_reading.specs.declared.mode.Opening.{Opening}
use Rattle.js_reading.specs.declared.mode.Opening.TheVariants as opening
use Rattle.js_reading.specs.declared.mode.Piece.{Piece}
use Rattle.js_reading.specs.declared.mode.Piece.TheVariants as piece
use Rattle.js_reading.specs.declared.mode.Parser.{Parser}
use Rattle.js_reading.specs.Frames.{◌>>=◌, when}
use Rattle.js_reading.specs.Operands.{word_of, tail_of, want, whole, piece_on}
use Rattle.js_reading.specs.Statements.{settle, over_of, inner, item, next_item, after, bare, is_let, is_statement, ends_bare, opening_on, ending_on, trying_on}
use Rattle.js_reading.specs.Reading.{ends_before, ends_by, operand_on, heading_on, below_by, step_in, step}
use Rattle.js_parser.specs.Tokens.{goal_behind, goal_of}
use Rattle.js_parser.proofs.SlashMarks.{is_division}

-- the tokens that begin with a `/`
data Slash : Type 0 where
  divide : Slash
  assign : Slash
  pattern : Slash

abbrev slash : Slash → TokenKind
slash divide = k.Binary op.Divide
slash assign = k.Assign (Some op.Divide)
slash pattern = k.Pattern

bind_none : {A B : Type 0} (o : Option A) (f : A → Option B) → ((x : A) → f x ≡ None) → (o >>= f) ≡ None
bind_none None f h = refl
bind_none (Some x) f h = h x

when_none : {A : Type 0} (b : Bool) (o : Option A) → o ≡ None → when b o ≡ None
when_none true o h = h
when_none false o h = refl

cond_none : {A : Type 0} (b : Bool) (o p : Option A) → o ≡ None → p ≡ None → cond b o p ≡ None
cond_none true o p h g = h
cond_none false o p h g = g

-- ---- where a statement or an expression begins

want_none : (s : Slash) (site : ℕ) (ks : List Frame) → want site ks (slash s) ≡ None
want_none divide site ks = refl
want_none assign site ks = refl
want_none pattern site ks = refl

inner_none : (s : Slash) (site : ℕ) (ks : List Frame) → inner site ks (slash s) ≡ None
inner_none divide site ks = refl
inner_none assign site ks = refl
inner_none pattern site ks = refl

item_none : (s : Slash) (site : ℕ) (ks : List Frame) → item site ks (slash s) ≡ None
item_none divide site ks = refl
item_none assign site ks = refl
item_none pattern site ks = refl

no_word : (s : Slash) → word_of (slash s) ≡ None
no_word divide = refl
no_word assign = refl
no_word pattern = refl

below_inner : (site : ℕ) (ks : List Frame) (kind : TokenKind) → below_by site ks kind None ≡ inner site ks kind
below_inner site [] kind = refl
below_inner site (frame.Below (below.Else arms) ∷ ks) kind = refl
below_inner site (frame.Below _ ∷ ks) kind = refl
below_inner site (_ ∷ ks) kind = refl

below_none : (s : Slash) (site : ℕ) (ks : List Frame) → below_by site ks (slash s) (word_of (slash s)) ≡ None
below_none divide site ks = below_inner site ks (slash divide) ∙ inner_none divide site ks
below_none assign site ks = below_inner site ks (slash assign) ∙ inner_none assign site ks
below_none pattern site ks = below_inner site ks (slash pattern) ∙ inner_none pattern site ks

-- ---- behind a statement

next_none : (s : Slash) (site : ℕ) (b : Stmt) (ks : List Frame) → next_item site b ks (slash s) ≡ None
next_none s site b [] = refl
next_none s site b (frame.List l body ∷ ks) = item_none s site (frame.List l (body ++ b ∷ []) ∷ ks)
next_none s site b (_ ∷ ks) = refl

after_none : (s : Slash) (site : ℕ) (b : Stmt) (ks : List Frame) → after site b ks (slash s) ≡ None
after_none divide site b ks = next_none divide site (settle false b ks).value (settle false b ks).frames
after_none assign site b ks = next_none assign site (settle false b ks).value (settle false b ks).frames
after_none pattern site b ks = next_none pattern site (settle false b ks).value (settle false b ks).frames

ending_none : (s : Slash) (line : Bool) (e : Ending) (site : ℕ) (ks : List Frame) → ending_on line e site ks (slash s) ≡ None
ending_none s line (ending.Over b) site ks = after_none s site b ks
ending_none divide line (ending.Do b) site ks = after_none divide site b ks
ending_none assign line (ending.Do b) site ks = after_none assign site b ks
ending_none pattern line (ending.Do b) site ks = after_none pattern site b ks
ending_none divide line (ending.Jump b) site ks = when_none (ends_bare line (slash divide)) (after site b ks (slash divide)) (after_none divide site b ks)
ending_none assign line (ending.Jump b) site ks = when_none (ends_bare line (slash assign)) (after site b ks (slash assign)) (after_none assign site b ks)
ending_none pattern line (ending.Jump b) site ks = when_none (ends_bare line (slash pattern)) (after site b ks (slash pattern)) (after_none pattern site b ks)
ending_none divide line (ending.Return site') site ks = cond_none (ends_bare line (slash divide)) (after site (stmt.Return site' None) ks (slash divide)) None (after_none divide site (stmt.Return site' None) ks) refl
ending_none assign line (ending.Return site') site ks = cond_none (ends_bare line (slash assign)) (after site (stmt.Return site' None) ks (slash assign)) None (after_none assign site (stmt.Return site' None) ks) refl
ending_none pattern line (ending.Return site') site ks = cond_none (ends_bare line (slash pattern)) (after site (stmt.Return site' None) ks (slash pattern)) None (after_none pattern site (stmt.Return site' None) ks) refl
ending_none s line (ending.Throw site') site ks = cond_none line None (want site (frame.Part (part.Throw site') ∷ ks) (slash s)) refl (want_none s site (frame.Part (part.Throw site') ∷ ks))

trying_none : (s : Slash) (t : Trying) (site : ℕ) (ks : List Frame) → trying_on t site ks (slash s) ≡ None
trying_none divide (trying.Caught site' body caught) site ks = after_none divide site (stmt.Try site' body (Some caught) None) ks
trying_none assign (trying.Caught site' body caught) site ks = after_none assign site (stmt.Try site' body (Some caught) None) ks
trying_none pattern (trying.Caught site' body caught) site ks = after_none pattern site (stmt.Try site' body (Some caught) None) ks
trying_none divide _ site ks = refl
trying_none assign _ site ks = refl
trying_none pattern _ site ks = refl

opening_none : (s : Slash) (line : Bool) (o : Opening) (site : ℕ) (ks : List Frame) → opening_on line o site ks (slash s) ≡ None
opening_none divide line (opening.Named d n) site ks = when_none (is_statement d.place && (is_let d.kind && ends_bare line (slash divide))) (after site (bare d n) ks (slash divide)) (after_none divide site (bare d n) ks)
opening_none assign line (opening.Named d n) site ks = when_none (is_statement d.place && (is_let d.kind && ends_bare line (slash assign))) (after site (bare d n) ks (slash assign)) (after_none assign site (bare d n) ks)
opening_none pattern line (opening.Named d n) site ks = when_none (is_statement d.place && (is_let d.kind && ends_bare line (slash pattern))) (after site (bare d n) ks (slash pattern)) (after_none pattern site (bare d n) ks)
opening_none divide line _ site ks = refl
opening_none assign line _ site ks = refl
opening_none pattern line _ site ks = refl

heading_none : (s : Slash) (line : Bool) (h : Heading) (site : ℕ) (ks : List Frame) → heading_on line h site ks (slash s) ≡ None
heading_none divide line (heading.Open e) site ks = refl
heading_none divide line (heading.Parameters e names) site ks = refl
heading_none divide line (heading.Parameter e names) site ks = refl
heading_none divide line (heading.Arrow start names) site ks = refl
heading_none divide line (heading.Braces b) site ks = refl
heading_none assign line (heading.Open e) site ks = refl
heading_none assign line (heading.Parameters e names) site ks = refl
heading_none assign line (heading.Parameter e names) site ks = refl
heading_none assign line (heading.Arrow start names) site ks = refl
heading_none assign line (heading.Braces b) site ks = refl
heading_none pattern line (heading.Open e) site ks = refl
heading_none pattern line (heading.Parameters e names) site ks = refl
heading_none pattern line (heading.Parameter e names) site ks = refl
heading_none pattern line (heading.Arrow start names) site ks = refl
heading_none pattern line (heading.Braces b) site ks = refl

piece_none : (s : Slash) (p : Piece) (site : ℕ) (ks : List Frame) → piece_on p site ks (slash s) ≡ None
piece_none divide (piece.Key from members) site ks = refl
piece_none divide (piece.NameKey from members n) site ks = refl
piece_none divide (piece.OtherKey from members key_site name) site ks = refl
piece_none divide (piece.New from) site ks = refl
piece_none divide (piece.NewName from n) site ks = refl
piece_none divide (piece.Property start first suffixes from) site ks = refl
piece_none divide (piece.Function from) site ks = refl
piece_none assign (piece.Key from members) site ks = refl
piece_none assign (piece.NameKey from members n) site ks = refl
piece_none assign (piece.OtherKey from members key_site name) site ks = refl
piece_none assign (piece.New from) site ks = refl
piece_none assign (piece.NewName from n) site ks = refl
piece_none assign (piece.Property start first suffixes from) site ks = refl
piece_none assign (piece.Function from) site ks = refl
piece_none pattern (piece.Key from members) site ks = refl
piece_none pattern (piece.NameKey from members n) site ks = refl
piece_none pattern (piece.OtherKey from members key_site name) site ks = refl
piece_none pattern (piece.New from) site ks = refl
piece_none pattern (piece.NewName from n) site ks = refl
piece_none pattern (piece.Property start first suffixes from) site ks = refl
piece_none pattern (piece.Function from) site ks = refl

-- ---- behind an operand

before_none : (s : Slash) (site start : ℕ) (x : Operand) (ks : List Frame) → ends_before site start x ks (slash s) ≡ None
before_none s site start x ks =
    bind_none (whole start x ks) (λ c. over_of c.value c.frames >>= λ o. after site o.value o.frames (slash s))
    (λ c. bind_none (over_of c.value c.frames) (λ o. after site o.value o.frames (slash s)) (λ o. after_none s site o.value o.frames))

ends_none : (s : Slash) (line : Bool) (site start : ℕ) (x : Operand) (ks : List Frame) → ends_by line site start x ks (slash s) ≡ None
ends_none divide line site start x ks = when_none line (ends_before site start x ks (slash divide)) (before_none divide site start x ks)
ends_none assign line site start x ks = when_none line (ends_before site start x ks (slash assign)) (before_none assign site start x ks)
ends_none pattern line site start x ks = when_none line (ends_before site start x ks (slash pattern)) (before_none pattern site start x ks)

operand_none : (s : Slash) (line : Bool) (site start : ℕ) (x : Operand) (ks : List Frame) → goal_behind x ≡ goal.Pattern → operand_on line site start x ks (slash s) ≡ None
operand_none divide line site start (operand.Braced e) ks h = ends_none divide line site start (operand.Braced e) ks
operand_none assign line site start (operand.Braced e) ks h = ends_none assign line site start (operand.Braced e) ks
operand_none pattern line site start (operand.Braced e) ks h = ends_none pattern line site start (operand.Braced e) ks
operand_none s line site start _ ks h = absurd cc

-- ---- a step

in_none : (s : Slash) (m : Mode) (ks : List Frame) (line : Bool) (site : ℕ) → goal_of m ≡ goal.Pattern → step_in m ks line site (slash s) ≡ None
in_none s mode.Statement ks line site h = item_none s site ks
in_none s mode.Below ks line site h = below_none s site ks
in_none s mode.Want ks line site h = want_none s site ks
in_none s (mode.Operand start x) ks line site h = operand_none s line site start x ks h
in_none s (mode.Ending e) ks line site h = ending_none s line e site ks
in_none s (mode.Trying t) ks line site h = trying_none s t site ks
in_none s (mode.Opening o) ks line site h = opening_none s line o site ks
in_none s (mode.Heading e) ks line site h = heading_none s line e site ks
in_none s (mode.Piece p) ks line site h = piece_none s p site ks

pattern_none : (m : Mode) (ks : List Frame) (line : Bool) (site : ℕ) → step_in m ks line site k.Pattern ≡ None
pattern_none (mode.Operand start x) ks line site = cond_none (continues (tail_of x) k.Pattern) None (ends_by line site start x ks k.Pattern) refl (ends_none pattern line site start x ks)
pattern_none mode.Statement ks line site = in_none pattern mode.Statement ks line site refl
pattern_none mode.Below ks line site = in_none pattern mode.Below ks line site refl
pattern_none mode.Want ks line site = in_none pattern mode.Want ks line site refl
pattern_none (mode.Ending e) ks line site = in_none pattern (mode.Ending e) ks line site refl
pattern_none (mode.Trying t) ks line site = in_none pattern (mode.Trying t) ks line site refl
pattern_none (mode.Opening o) ks line site = in_none pattern (mode.Opening o) ks line site refl
pattern_none (mode.Heading e) ks line site = in_none pattern (mode.Heading e) ks line site refl
pattern_none (mode.Piece p) ks line site = in_none pattern (mode.Piece p) ks line site refl

slash_of : (kind : TokenKind) → is_division kind ≡ true → (s : Slash) × (kind ≡ slash s)
slash_of (k.Binary op.Divide) h = (divide, refl)
slash_of (k.Binary _) h = absurd cc
slash_of (k.Assign (Some op.Divide)) h = (assign, refl)
slash_of (k.Assign (Some _)) h = absurd cc
slash_of (k.Assign None) h = absurd cc
slash_of _ h = absurd cc

pub step_division : (p q : Parser) (t : Token) → step p t ≡ Some q → is_division t.kind ≡ true → goal_of p.mode ≡ goal.Division
step_division p q t j d = by_goal (goal_of p.mode) refl
  where
    w : (s : Slash) × (t.kind ≡ slash s)
    w = slash_of t.kind d

    by_goal : (g : Goal) → goal_of p.mode ≡ g → goal_of p.mode ≡ goal.Division
    by_goal goal.Division e = e
    by_goal goal.Pattern e =
        absurd (let n : step_in p.mode p.frames t.line_before t.start t.kind ≡ None = subst (λ (z : TokenKind). step_in p.mode p.frames t.line_before t.start z ≡ None) (sym w.1) (in_none w.0 p.mode p.frames t.line_before t.start e) in cc)

pub step_pattern : (p q : Parser) (t : Token) → step p t ≡ Some q → t.kind ≡ k.Pattern → ⊥
step_pattern p q t j e =
    let n : step_in p.mode p.frames t.line_before t.start t.kind ≡ None = subst (λ (z : TokenKind). step_in p.mode p.frames t.line_before t.start z ≡ None) (sym e) (pattern_none p.mode p.frames t.line_before t.start) in
    cc
