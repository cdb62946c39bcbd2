-- What it means that each part of an expression is read.
use Rattle.std.proofs.Common.{◌≡◌, ℕ, suc, ◌+◌, ◌<◌, Bool, true, false, ◌&&◌, List, [], ◌∷◌, ◌++◌, length, Option, Some, None, refl, ap, arith, All}
use Rattle.std.specs.Prelude.{◌⊎◌}
use Rattle.js_ast.specs.declared.expression.Expr.{Expr}
use Rattle.js_ast.specs.declared.expression.Expr.TheVariants as expr
use Rattle.js_ast.specs.declared.statement.Stmt.{Stmt}
use Rattle.js_ast.specs.declared.statement.Stmt.TheVariants as stmt
use Rattle.js_ast.specs.declared.statement.Arm.{Arm}
use Rattle.js_ast.specs.declared.operators.DeclarationKind.{DeclarationKind}
use Rattle.js_ast.specs.declared.parts.Identifier.{Identifier}
use Rattle.js_ast.specs.declared.parts.Access.{Access}
use Rattle.js_ast.specs.declared.parts.Suffix.{Suffix}
use Rattle.js_ast.specs.declared.parts.Suffix.TheVariants as suffix
use Rattle.js_ast.specs.declared.parts.Target.{Target}
use Rattle.js_ast.specs.declared.parts.Member.{Member}
use Rattle.js_ast.specs.declared.parts.Declarator.{Declarator}
use Rattle.js_ast.specs.declared.parts.LoopHead.{LoopHead}
use Rattle.js_ast.specs.declared.parts.LoopHead.TheVariants as head
use Rattle.js_ast.specs.declared.parts.Catch.{Catch}
use Rattle.js_grammar.specs.declared.token.Token.{Token}
use Rattle.js_grammar.specs.declared.token.TokenKind.{TokenKind}
use Rattle.js_grammar.specs.declared.token.TokenKind.TheVariants as k
use Rattle.js_grammar.specs.declared.token.Word.TheVariants as word
use Rattle.js_grammar.specs.Phrases.{Begins, start_of, starts, is_open_brace, is_if, is_of, Tail, no_expression, call, step, braces, continues, IsEnd, Context}
use Rattle.js_grammar.specs.Grammar.{call_of}
use Rattle.js_reading.specs.declared.frame.Frame.{Frame}
use Rattle.js_reading.specs.declared.frame.Frame.TheVariants as frame
use Rattle.js_reading.specs.declared.frame.Pending.TheVariants as pending
use Rattle.js_reading.specs.declared.frame.Bracket.{Bracket}
use Rattle.js_reading.specs.declared.frame.Bracket.TheVariants as bracket
use Rattle.js_reading.specs.declared.frame.Part.{Part}
use Rattle.js_reading.specs.declared.frame.Part.TheVariants as part
use Rattle.js_reading.specs.declared.frame.Below.{Below}
use Rattle.js_reading.specs.declared.frame.Below.TheVariants as below
use Rattle.js_reading.specs.declared.frame.Braces.{Braces}
use Rattle.js_reading.specs.declared.frame.Braces.TheVariants as list
use Rattle.js_reading.specs.declared.frame.Place.TheVariants as place
use Rattle.js_reading.specs.declared.frame.Declaring.{Declaring}
use Rattle.js_reading.specs.declared.mode.Mode.{Mode}
use Rattle.js_reading.specs.declared.mode.Mode.TheVariants as mode
use Rattle.js_reading.specs.declared.mode.Operand.{Operand}
use Rattle.js_reading.specs.declared.mode.Operand.TheVariants as operand
use Rattle.js_reading.specs.declared.mode.Heading.TheVariants as heading
use Rattle.js_reading.specs.declared.mode.Trying.TheVariants as trying
use Rattle.js_reading.specs.declared.mode.Opening.TheVariants as opening
use Rattle.js_reading.specs.declared.mode.Piece.TheVariants as piece
use Rattle.js_reading.specs.declared.mode.Parser.{Parser}
use Rattle.js_reading.specs.Frames.{begun, context, depth, depth_before, takes_assign, within_braces}
use Rattle.js_reading.specs.Operands.{at, reached, wants, value_of, tail_of, target_of, first_of, suffixes_of, is_literal, want}
use Rattle.js_reading.specs.Statements.{is_statement, over, close_list, test_due, inner, close_round_part}
use Rattle.js_reading.specs.Reading.{ends_by, operand_on, step_in, step as turn, nesting}
use Rattle.js_laws.proofs.Steps.{Leads, ending_at}
use Rattle.js_laws.proofs.WaitingFrames.{grip_by, grip, grip_at, room}

-- ---- where a part stands

pub record Stands (c : Context) (d : ℕ) (ks : List Frame) : Type 0 where
  pub context_is : context ks ≡ c
  pub depth_is : depth ks ≡ d

pub part_stands : {c : Context} {d : ℕ} {ks : List Frame} (p : Part) → begun (frame.Part p) ≡ 0 → Stands c d ks → Stands c (suc d) (frame.Part p ∷ ks)
part_stands p e s = record { context_is = s.context_is; depth_is = omega (arith, e, s.depth_is) }

abbrev pub is_body : List Frame → Bool
is_body (frame.Pending (pending.Arrow start names) ∷ ks) = true
is_body _ = false

-- no brace directly behind `=>`
abbrev pub Free : List Frame → List Token → Type 0
Free ks ts = (is_body ks && starts is_open_brace ts) ≡ false

-- ---- marks that end every expression

abbrev pub loose : TokenKind → Bool
loose k.CloseRound = true
loose k.CloseSquare = true
loose k.CloseBrace = true
loose k.Comma = true
loose k.Colon = true
loose k.Semicolon = true
loose _ = false

grip_loose : (t : Tail) (line : Bool) (kind : TokenKind) → loose kind ≡ true → 12 < grip_by t line kind
grip_loose call line k.CloseRound h = omega arith
grip_loose call line k.CloseSquare h = omega arith
grip_loose call line k.CloseBrace h = omega arith
grip_loose call line k.Comma h = omega arith
grip_loose call line k.Colon h = omega arith
grip_loose call line k.Semicolon h = omega arith
grip_loose call line _ h = absurd cc
grip_loose step line k.CloseRound h = omega arith
grip_loose step line k.CloseSquare h = omega arith
grip_loose step line k.CloseBrace h = omega arith
grip_loose step line k.Comma h = omega arith
grip_loose step line k.Colon h = omega arith
grip_loose step line k.Semicolon h = omega arith
grip_loose step line _ h = absurd cc
grip_loose braces line _ h = omega arith
grip_loose no_expression line _ h = omega arith

pub ends_loose : (t : Tail) {ts : List Token} {kind : TokenKind} {site : ℕ} {rest : List Token} → Begins ts kind site rest → loose kind ≡ true → 12 < grip t ts
ends_loose t {ts} {kind} h e = let g : 12 < grip_by t h.line kind = grip_loose t h.line kind e in rw (grip_at t h) g

continues_loose : (t : Tail) (kind : TokenKind) → loose kind ≡ true → continues t kind ≡ false
continues_loose call k.CloseRound h = refl
continues_loose call k.CloseSquare h = refl
continues_loose call k.CloseBrace h = refl
continues_loose call k.Comma h = refl
continues_loose call k.Colon h = refl
continues_loose call k.Semicolon h = refl
continues_loose call _ h = absurd cc
continues_loose step k.CloseRound h = refl
continues_loose step k.CloseSquare h = refl
continues_loose step k.CloseBrace h = refl
continues_loose step k.Comma h = refl
continues_loose step k.Colon h = refl
continues_loose step k.Semicolon h = refl
continues_loose step _ h = absurd cc
continues_loose braces _ h = refl
continues_loose no_expression _ h = refl

pub on_loose : (line : Bool) (site start : ℕ) (x : Operand) (ks : List Frame) (kind : TokenKind) → loose kind ≡ true → operand_on line site start x ks kind ≡ ends_by line site start x ks kind
on_loose line site start x ks kind h = rw (continues_loose (tail_of x) kind h) refl

-- ---- literals that stand alone

abbrev pub is_static : TokenKind → Bool
is_static (k.Text text) = true
is_static (k.Number n) = true
is_static _ = false

pub record Alone (ts rest : List Token) : Type 0 where
  pub token : Token
  pub begins : ts ≡ token ∷ rest
  pub static : is_static token.kind ≡ true

-- ---- what is read

pub record Reads (P : ℕ → Type 0) (ts : List Token) (e : Expr) (tail : Tail) (rest : List Token) (ks : List Frame) : Type 0 where
  pub x : Operand
  pub is : value_of x ≡ e
  pub tail_is : tail_of x ≡ tail
  pub literal : is_literal x ≡ true → Alone ts rest
  pub leads : Leads P ts (at mode.Want ks) rest (reached (start_of ts) x ks)

pub record ReadsCall (P : ℕ → Type 0) (ts : List Token) (e : Expr) (rest : List Token) (ks : List Frame) : Type 0 where
  pub x : Operand
  pub is : value_of x ≡ e
  pub tail_is : tail_of x ≡ call
  pub calls : call_of (first_of x) (suffixes_of x) ≡ e
  pub literal : is_literal x ≡ true → Alone ts rest
  pub leads : Leads P ts (at mode.Want ks) rest (reached (start_of ts) x ks)

pub record ReadsFirst (P : ℕ → Type 0) (ts : List Token) (e : Expr) (rest : List Token) (ks : List Frame) : Type 0 where
  pub x : Operand
  pub is : value_of x ≡ e
  pub tail_is : tail_of x ≡ call
  pub first_is : first_of x ≡ e
  pub suffixes_are : suffixes_of x ≡ []
  pub literal : is_literal x ≡ true → Alone ts rest
  pub leads : Leads P ts (at mode.Want ks) rest (reached (start_of ts) x ks)

pub record ReadsTarget (P : ℕ → Type 0) (ts : List Token) (t : Target Expr) (rest : List Token) (ks : List Frame) : Type 0 where
  pub x : Operand
  pub target_is : target_of x ≡ Some t
  pub leads : Leads P ts (at mode.Want ks) rest (reached (start_of ts) x ks)

pub record ReadsSuffixes (P : ℕ → Type 0) (ts : List Token) (ss : List (Suffix Expr)) (rest : List Token) (start : ℕ) (x : Operand) (ks : List Frame) : Type 0 where
  pub y : Operand
  pub tail_is : tail_of y ≡ call
  pub first_is : first_of y ≡ first_of x
  pub suffixes_are : suffixes_of y ≡ suffixes_of x ++ ss
  pub value : value_of x ≡ call_of (first_of x) (suffixes_of x) → value_of y ≡ call_of (first_of y) (suffixes_of y)
  pub literal : is_literal y ≡ true → (is_literal x ≡ true) × (ts ≡ rest)
  pub leads : Leads P ts (reached start x ks) rest (reached start y ks)

-- what follows the first part of a chain
pub record GoesOn (P : ℕ → Type 0) (ts : List Token) (e : Expr) (tail : Tail) (rest : List Token) (start : ℕ) (x : Operand) (ks : List Frame) : Type 0 where
  pub y : Operand
  pub is : value_of y ≡ e
  pub tail_is : tail_of y ≡ tail
  pub literal : is_literal y ≡ true → (is_literal x ≡ true) × (ts ≡ rest)
  pub leads : Leads P ts (reached start x ks) rest (reached start y ks)

abbrev pub AssignReads : (ℕ → Type 0) → ℕ → Context → List Token → Expr → Tail → List Token → Type 0
AssignReads P d c ts e tail rest = (ks : List Frame) → Stands c (suc d) ks → takes_assign ks ≡ true → Free ks ts → 12 < grip tail rest → Reads P ts e tail rest ks

abbrev pub ConditionalReads : (ℕ → Type 0) → ℕ → Context → List Token → Expr → Tail → List Token → Type 0
ConditionalReads P d c ts e tail rest = (ks : List Frame) → Stands c d ks → P d → takes_assign ks ≡ true → Free ks ts → 12 < grip tail rest → Reads P ts e tail rest ks

-- a chain of that tightness, or what is tighter
abbrev pub LevelReads : (ℕ → Type 0) → ℕ → ℕ → Context → List Token → Expr → Tail → List Token → Type 0
LevelReads P n d c ts e tail rest = (ks : List Frame) → Stands c d ks → P d → n < room ks → Free ks ts → n < grip tail rest → Reads P ts e tail rest ks

abbrev pub CallReads : (ℕ → Type 0) → ℕ → Context → List Token → Expr → List Token → Type 0
CallReads P d c ts e rest = (ks : List Frame) → Stands c d ks → P d → Free ks ts → ReadsCall P ts e rest ks

abbrev pub FirstReads : (ℕ → Type 0) → ℕ → Context → List Token → Expr → List Token → Type 0
FirstReads P d c ts e rest = (ks : List Frame) → Stands c d ks → P d → Free ks ts → ReadsFirst P ts e rest ks

abbrev pub TargetReads : (ℕ → Type 0) → ℕ → Context → List Token → Target Expr → List Token → Type 0
TargetReads P d c ts t rest = (ks : List Frame) → Stands c d ks → P d → Free ks ts → ReadsTarget P ts t rest ks

abbrev pub AccessReads : (ℕ → Type 0) → ℕ → Context → List Token → Access Expr → List Token → Type 0
AccessReads P d c ts a rest = (ks : List Frame) → Stands c d ks → P d → (start : ℕ) (x : Operand) → tail_of x ≡ call → Leads P ts (reached start x ks) rest (reached start (operand.Access (first_of x) (suffixes_of x) a) ks)

abbrev pub SuffixesReads : (ℕ → Type 0) → ℕ → Context → List Token → List (Suffix Expr) → List Token → Type 0
SuffixesReads P d c ts ss rest = (ks : List Frame) → Stands c d ks → P d → (start : ℕ) (x : Operand) → tail_of x ≡ call → ReadsSuffixes P ts ss rest start x ks

-- whose expressions are parted by commas
pub data Lister : Type 0 where
  of_call : ℕ → Expr → List (Suffix Expr) → ℕ → Lister
  of_new : ℕ → Identifier → Lister
  of_array : ℕ → Lister

abbrev pub bracket_of : Lister → List Expr → Bracket
bracket_of (of_call start first suffixes site) es = bracket.Call start first suffixes site es
bracket_of (of_new site n) es = bracket.New site n es
bracket_of (of_array site) es = bracket.Array site es

abbrev pub mark_of : Lister → TokenKind
mark_of (of_call start first suffixes site) = k.CloseRound
mark_of (of_new site n) = k.CloseRound
mark_of (of_array site) = k.CloseSquare

abbrev pub list_start : Lister → ℕ
list_start (of_call start first suffixes site) = start
list_start (of_new site n) = site
list_start (of_array site) = site

abbrev pub listed : Lister → List Expr → Operand
listed (of_call start first suffixes site) es = operand.Call first (suffixes ++ suffix.Call site es ∷ [])
listed (of_new site n) es = operand.Primary (expr.New site n es)
listed (of_array site) es = operand.Primary (expr.Array site es)

abbrev pub ArgumentsReads : (ℕ → Type 0) → TokenKind → ℕ → Context → List Token → List Expr → List Token → Type 0
ArgumentsReads P close d c ts es rest = (w : Lister) (before : List Expr) (ks : List Frame) → close ≡ mark_of w → Stands c d ks → P d → Leads P ts (wants (frame.Bracket (bracket_of w before)) ks) rest (reached (list_start w) (listed w (before ++ es)) ks)

-- a member of an object, and the mark behind it
pub record MemberLeads (P : ℕ → Type 0) (ts : List Token) (m : Member Expr) (end : List Token) (site : ℕ) (before : List (Member Expr)) (ks : List Frame) : Type 0 where
  pub more : (at' : ℕ) (rest : List Token) → Begins end k.Comma at' rest → Leads P ts (at (mode.Piece (piece.Key site before)) ks) rest (at (mode.Piece (piece.Key site (before ++ m ∷ []))) ks)
  pub last : (at' : ℕ) (rest : List Token) → Begins end k.CloseBrace at' rest → Leads P ts (at (mode.Piece (piece.Key site before)) ks) rest (reached site (operand.Primary (expr.Object site (before ++ m ∷ []))) ks)

abbrev pub MemberReads : (ℕ → Type 0) → ℕ → Context → List Token → Member Expr → List Token → Type 0
MemberReads P d c ts m rest = (site : ℕ) (before : List (Member Expr)) (ks : List Frame) → Stands c d ks → P d → MemberLeads P ts m rest site before ks

abbrev pub MembersReads : (ℕ → Type 0) → ℕ → Context → List Token → List (Member Expr) → List Token → Type 0
MembersReads P d c ts ms rest = (site : ℕ) (before : List (Member Expr)) (ks : List Frame) → Stands c d ks → P d → Leads P ts (at (mode.Piece (piece.Key site before)) ks) rest (reached site (operand.Primary (expr.Object site (before ++ ms))) ks)

-- braces around statements: from a state that takes `{` to what the braces close to
abbrev pub BodyReads : (ℕ → Type 0) → ℕ → Context → List Token → List Stmt → List Token → Type 0
BodyReads P d c ts body rest = (m : Mode) (above : List Frame) (b : Braces) (ks : List Frame) (q : Parser) → ((t : Token) (left : List Token) → ts ≡ t ∷ left → t.kind ≡ k.OpenBrace → turn (at m above) t ≡ Some (at mode.Statement (frame.List b [] ∷ ks)))
    → within_braces b (context ks) ≡ c → depth ks ≡ d → P d → close_list b body ks ≡ Some q → nesting q ≡ d → Leads P ts (at m above) rest q

abbrev pub StmtsReads : (ℕ → Type 0) → ℕ → Context → List Token → List Stmt → List Token → Type 0
StmtsReads P d c ts ss rest = (b : Braces) (body : List Stmt) (ks : List Frame) → within_braces b (context ks) ≡ c → depth ks ≡ d → Leads P ts (at mode.Statement (frame.List b body ∷ ks)) rest (at mode.Statement (frame.List b (body ++ ss) ∷ ks))

abbrev pub StmtReads : (ℕ → Type 0) → ℕ → Context → List Token → Stmt → List Token → Type 0
StmtReads P d c ts s rest = (ks : List Frame) → Stands c d ks → P d → Leads P ts (at mode.Statement ks) rest (over s ks)

-- the state goes wherever the function does at the first token
abbrev pub Opens : (ℕ → TokenKind → Option Parser) → List Token → Parser → Type 0
Opens go ts p = (t : Token) (left : List Token) → ts ≡ t ∷ left → (q : Parser) → go t.start t.kind ≡ Some q → turn p t ≡ Some q

abbrev pub begins_inner : List Frame → ℕ → TokenKind → Option Parser
begins_inner ks site kind = inner site ks kind

abbrev pub InnerReads : (ℕ → Type 0) → ℕ → Context → List Token → Stmt → List Token → Type 0
InnerReads P d c ts s rest = (ks : List Frame) → Stands c d ks → P d → (m : Mode) (above : List Frame) → Opens (begins_inner ks) ts (at m above) → Leads P ts (at m above) rest (over s ks)

abbrev pub is_else_below : Below → Bool
is_else_below (below.Else arms) = true
is_else_below _ = false

abbrev pub BelowReads : (ℕ → Type 0) → ℕ → Context → List Token → Stmt → List Token → Type 0
BelowReads P d c ts s rest = (b : Below) (ks : List Frame) → Stands c (suc d) (frame.Below b ∷ ks) → (is_else_below b && starts is_if ts) ≡ false → Leads P ts (at mode.Below (frame.Below b ∷ ks)) rest (over s (frame.Below b ∷ ks))

abbrev pub begins_if : List Arm → List Frame → ℕ → TokenKind → Option Parser
begins_if before ks site (k.Word word.If units) = test_due (part.If before site) ks
begins_if before ks site _ = None

abbrev pub IfReads : (ℕ → Type 0) → ℕ → Context → List Token → List Arm → Option Stmt → List Token → Type 0
IfReads P d c ts arms last rest = (before : List Arm) (ks : List Frame) → context ks ≡ c → length before + depth ks ≡ d → P d → (m : Mode) (above : List Frame) → Opens (begins_if before ks) ts (at m above) → Leads P ts (at m above) rest (over (stmt.If (before ++ arms) last) ks)

abbrev pub RoundReads : (ℕ → Type 0) → ℕ → Context → List Token → Expr → List Token → Type 0
RoundReads P d c ts e rest = (p : Part) (ks : List Frame) (q : Parser) → Stands c (suc d) (frame.Part p ∷ ks) → depth_before (frame.Part p ∷ ks) ≡ d → P d → close_round_part e p ks ≡ Some q → nesting q ≡ d → Leads P ts (at (mode.Opening opening.Test) (frame.Part p ∷ ks)) rest q

-- ---- declarations

abbrev pub extend : Declaring → List (Declarator Expr) → Declaring
extend d xs = record { place = d.place; site = d.site; kind = d.kind; declarators = d.declarators ++ xs }

-- what may stand behind the names declared so far, and where it leads
abbrev pub Follows : Declaring → List Frame → Tail → List Token → List Token → Parser → Type 0
Follows d ks t ts rest q =
    ((site : ℕ) × Begins ts k.Comma site rest × (q ≡ at (mode.Opening (opening.Declare d)) ks))
    ⊎ (((d.place ≡ place.Statement) × IsEnd t ts rest × (q ≡ over (stmt.Declare d.site d.kind d.declarators) ks))
    ⊎ ((d.place ≡ place.Loop) × ((site : ℕ) × Begins ts k.Semicolon site rest) × (q ≡ wants (frame.Part (part.ForTest d.site (head.Declare d.kind d.declarators))) ks)))

abbrev pub DeclaratorReads : (ℕ → Type 0) → DeclarationKind → ℕ → Context → List Token → Declarator Expr → Tail → List Token → Type 0
DeclaratorReads P o d c ts x t rest = (w : Declaring) (ks : List Frame) → w.kind ≡ o → Stands c d ks → P d → ((is_statement w.place ≡ true) ⊎ (is_of x.name.name ≡ false)) → (next : List Token) (q : Parser) → Follows (extend w (x ∷ [])) ks t rest next q → Leads P ts (at (mode.Opening (opening.Declare w)) ks) next q

abbrev pub DeclaratorsReads : (ℕ → Type 0) → DeclarationKind → ℕ → Context → List Token → List (Declarator Expr) → Tail → List Token → Type 0
DeclaratorsReads P o d c ts xs t rest = (w : Declaring) (ks : List Frame) → w.kind ≡ o → Stands c d ks → P d → ((is_statement w.place ≡ true) ⊎ All (λ (x : Declarator Expr). is_of x.name.name ≡ false) xs) → (next : List Token) (q : Parser) → Follows (extend w xs) ks t rest next q → Leads P ts (at (mode.Opening (opening.Declare w)) ks) next q

-- ---- heads of loops

abbrev pub HeadReads : (ℕ → Type 0) → ℕ → Context → List Token → LoopHead Expr → List Token → Type 0
HeadReads P d c ts h rest = (site : ℕ) (ks : List Frame) → Stands c d ks → P d → (at' : ℕ) (next : List Token) → Begins rest k.Semicolon at' next → Leads P ts (at (mode.Opening (opening.ForHead site)) ks) next (wants (frame.Part (part.ForTest site h)) ks)

-- where an expression may be left out before a mark
pub record MayLack (p : Part) (ks : List Frame) (kind : TokenKind) (q : Option Expr → Parser) : Type 0 where
  pub loose_mark : loose kind ≡ true
  pub lacks : (site : ℕ) → want site (frame.Part p ∷ ks) kind ≡ Some (q None)
  pub has : (line : Bool) (site start : ℕ) (x : Operand) → ends_by line site start x (frame.Part p ∷ ks) kind ≡ Some (q (Some (value_of x)))

abbrev pub OptionalReads : (ℕ → Type 0) → ℕ → Context → List Token → Option Expr → List Token → Type 0
OptionalReads P d c ts e rest = (p : Part) (ks : List Frame) (kind : TokenKind) (q : Option Expr → Parser) → MayLack p ks kind q → Stands c (suc d) (frame.Part p ∷ ks) → P d → ((z : Option Expr) → nesting (q z) ≡ d) → (at' : ℕ) (next : List Token) → Begins rest kind at' next → Leads P ts (wants (frame.Part p) ks) next (q e)

-- ---- parts of a `try`

abbrev pub CatchReads : (ℕ → Type 0) → ℕ → Context → List Token → Catch (List Stmt) → List Token → Type 0
CatchReads P d c ts h rest = (site : ℕ) (body : List Stmt) (ks : List Frame) → Stands c d ks → P d → Leads P ts (at (mode.Trying (trying.Tried site body)) ks) rest (at (mode.Trying (trying.Caught site body h)) ks)

abbrev pub FinallyReads : (ℕ → Type 0) → ℕ → Context → List Token → List Stmt → List Token → Type 0
FinallyReads P d c ts last rest = (m : Mode) (site : ℕ) (body : List Stmt) (caught : Option (Catch (List Stmt))) (ks : List Frame) → ((line : Bool) (site' : ℕ) (units : List ℕ) → step_in m ks line site' (k.Word word.Finally units) ≡ Some (at (mode.Heading (heading.Braces (list.Finally site body caught))) ks)) → Stands c d ks → P d
    → Leads P ts (at m ks) rest (over (stmt.Try site body caught (Some last)) ks)

abbrev pub OptionalFinallyReads : (ℕ → Type 0) → ℕ → Context → List Token → Option (List Stmt) → List Token → Type 0
OptionalFinallyReads P d c ts last rest = (site : ℕ) (body : List Stmt) (h : Catch (List Stmt)) (ks : List Frame) → Stands c d ks → P d → Leads P ts (at (mode.Trying (trying.Caught site body h)) ks) rest (over (stmt.Try site body (Some h) last) ks)

-- ---- first tokens

pub sited : {ts : List Token} {kind : TokenKind} {site : ℕ} {rest : List Token} → Begins ts kind site rest → site ≡ start_of ts
sited h = rw h.begins refl

pub from_start : {P : ℕ → Type 0} {ts : List Token} {kind : TokenKind} {site : ℕ} {left : List Token} {p : Parser} {rest : List Token} {x : Operand} {ks : List Frame} → Begins ts kind site left → Leads P ts p rest (reached site x ks) → Leads P ts p rest (reached (start_of ts) x ks)
from_start {P} {ts} {kind} {site} {left} {p} {rest} {x} {ks} h f = ending_at f (ap (λ (z : ℕ). reached z x ks) (sited h))
