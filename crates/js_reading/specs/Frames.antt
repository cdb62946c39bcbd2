-- This project's own: what the frames around a part say of it: its context, its nesting, and what ends with it.
use Rattle.std.specs.Prelude.{ℕ, zero, suc, ◌+◌, ◌-◌, nat_lt, Bool, true, false, not, cond, List, [], ◌∷◌, ◌++◌, length, Option, Some, None, option_and_then}
use Rattle.js_ast.specs.declared.expression.Expr.{Expr}
use Rattle.js_ast.specs.declared.expression.Expr.TheVariants as expr
use Rattle.js_ast.specs.declared.operators.BinaryOp.{BinaryOp}
use Rattle.js_ast.specs.declared.operators.LogicalOp.{LogicalOp}
use Rattle.js_ast.specs.declared.operators.LogicalOp.TheVariants as logic
use Rattle.js_ast.specs.declared.parts.Link.{Link}
use Rattle.js_grammar.specs.Phrases.{level, Context, outermost, looping, in_body, in_arrow}
use Rattle.js_reading.specs.declared.frame.Frame.{Frame}
use Rattle.js_reading.specs.declared.frame.Frame.TheVariants as frame
use Rattle.js_reading.specs.declared.frame.Pending.{Pending}
use Rattle.js_reading.specs.declared.frame.Pending.TheVariants as pending
use Rattle.js_reading.specs.declared.frame.Part.{Part}
use Rattle.js_reading.specs.declared.frame.Part.TheVariants as part
use Rattle.js_reading.specs.declared.frame.Below.{Below}
use Rattle.js_reading.specs.declared.frame.Below.TheVariants as below
use Rattle.js_reading.specs.declared.frame.Closed.{Closed}
use Rattle.js_reading.specs.declared.frame.Braces.{Braces}
use Rattle.js_reading.specs.declared.frame.Braces.TheVariants as braces

infixl 10 ◌>>=◌
abbrev pub ◌>>=◌ : {A B : Type 0} → Option A → (A → Option B) → Option B
o >>= f = option_and_then f o

abbrev pub when : {A : Type 0} → Bool → Option A → Option A
when test found = cond test found None

-- ---- context

abbrev pub within_below : Below → Context → Context
within_below (below.Then arms site test) c = c
within_below (below.Else arms) c = c
within_below _ c = looping c

abbrev pub within_braces : Braces → Context → Context
within_braces (braces.Function site name names) c = in_body
within_braces (braces.Value site name names) c = in_body
within_braces (braces.Arrow start names) c = in_arrow c
within_braces _ c = c

abbrev pub within_pending : Pending → Context → Context
within_pending (pending.Arrow start names) c = in_arrow c
within_pending _ c = c

abbrev pub within : Frame → Context → Context
within (frame.Pending p) c = within_pending p c
within (frame.Below b) c = within_below b c
within (frame.List b body) c = within_braces b c
within _ c = c

-- what may stand inside the frames
abbrev pub context : List Frame → Context
context [] = outermost
context (f ∷ ks) = within f (context ks)

-- the same, from the outermost frame on
abbrev pub context_from : Context → List Frame → Context
context_from c [] = c
context_from c (f ∷ fs) = context_from (within f c) fs

-- ---- nesting

-- what has begun with the frame: prefix operators, and the statements behind each `else`
abbrev pub begun : Frame → ℕ
begun (frame.Pending (pending.Prefix site op)) = 1
begun (frame.Step site op) = 1
begun (frame.Part (part.If arms site)) = length arms
begun (frame.Below (below.Then arms site test)) = length arms
begun (frame.Below (below.Else arms)) = length arms - 1
begun _ = 0

-- what begins behind it: an assignment or a statement
abbrev pub begins_pending : Pending → ℕ
begins_pending (pending.Prefix site op) = 0
begins_pending (pending.Binary start first links site op) = 0
begins_pending (pending.Logical start first links site op) = 0
begins_pending _ = 1

abbrev pub begins : Frame → ℕ
begins (frame.Pending p) = begins_pending p
begins (frame.Step site op) = 0
begins _ = 1

abbrev pub nests : Frame → ℕ
nests f = begun f + begins f

-- the nesting inside the frames
abbrev pub depth : List Frame → ℕ
depth [] = 0
depth (f ∷ ks) = nests f + depth ks

-- the nesting where nothing has begun yet behind the last
abbrev pub depth_before : List Frame → ℕ
depth_before [] = 0
depth_before (f ∷ ks) = begun f + depth ks

-- ---- what ends with an expression

abbrev pub tightness_of : LogicalOp → ℕ
tightness_of logic.And = 9
tightness_of logic.Or = 10
tightness_of logic.Coalesce = 10

-- a looser one ends later
abbrev pub tightness : Pending → ℕ
tightness (pending.Prefix site op) = 0
tightness (pending.Binary start first links site op) = level op
tightness (pending.Logical start first links site op) = tightness_of op
tightness _ = 12

abbrev pub begin_of : Pending → ℕ
begin_of (pending.Prefix site op) = site
begin_of (pending.Binary start first links site op) = start
begin_of (pending.Logical start first links site op) = start
begin_of (pending.Conditional start site test consequent) = start
begin_of (pending.Assign start site op target) = start
begin_of (pending.Arrow start names) = start

-- the whole, once its right side is there
abbrev pub join : Pending → Expr → Expr
join (pending.Prefix site op) e = expr.Unary site op e
join (pending.Binary start first links site op) e = expr.Binary first (links ++ record { site = site; op = op; right = e } ∷ [])
join (pending.Logical start first links site op) e = expr.Logical first (links ++ record { site = site; op = op; right = e } ∷ [])
join (pending.Conditional start site test consequent) e = expr.Conditional start site test consequent e
join (pending.Assign start site op target) e = expr.Assign start site op target e
join (pending.Arrow start names) e = expr.Arrow start names e

-- what is tighter ends with the expression
abbrev pub close_to : ℕ → ℕ → Expr → List Frame → Closed
close_to n start e (frame.Pending p ∷ ks) =
    cond (nat_lt (tightness p) n) (close_to n (begin_of p) (join p e) ks) (record { start = start; value = e; frames = frame.Pending p ∷ ks })
close_to n start e ks = record { start = start; value = e; frames = ks }

-- no operator is tighter than this
abbrev pub conditional : ℕ
conditional = 11

abbrev pub all : ℕ
all = 13

-- whether an assignment, a conditional or an arrow may begin
abbrev pub takes_assign : List Frame → Bool
takes_assign (frame.Pending p ∷ ks) = not (nat_lt (tightness p) conditional)
takes_assign (frame.Step site op ∷ ks) = false
takes_assign _ = true

-- whether an operator may stand before an operand, or a step behind it
abbrev pub takes_unary : List Frame → Bool
takes_unary (frame.Step site op ∷ ks) = false
takes_unary _ = true
