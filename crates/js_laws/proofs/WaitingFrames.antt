-- A frame that waits makes no difference where the next token holds the operand less tightly than it.
use Rattle.std.proofs.Common.{◌≡◌, ℕ, ◌<◌, ◌≤◌, Bool, true, false, cond, List, [], ◌∷◌, Option, Some, None, refl, sym, ◌∙◌, arith, nat_lt, lt-ltb, le-ltb}
use Rattle.std.proofs.Math.Bool.{and-false}
use Rattle.js_ast.specs.declared.expression.Expr.{Expr}
use Rattle.js_ast.specs.declared.expression.Expr.TheVariants as expr
use Rattle.js_ast.specs.declared.operators.BinaryOp.TheVariants as op
use Rattle.js_ast.specs.declared.operators.LogicalOp.TheVariants as logic
use Rattle.js_ast.specs.declared.operators.StepOp.{StepOp}
use Rattle.js_ast.specs.declared.parts.Identifier.{Identifier}
use Rattle.js_ast.specs.declared.parts.Target.{Target}
use Rattle.js_grammar.specs.declared.token.Token.{Token}
use Rattle.js_grammar.specs.declared.token.TokenKind.{TokenKind}
use Rattle.js_grammar.specs.declared.token.TokenKind.TheVariants as k
use Rattle.js_grammar.specs.Phrases.{Begins, level, Tail, no_expression, call, step, braces}
use Rattle.js_reading.specs.declared.frame.Frame.{Frame}
use Rattle.js_reading.specs.declared.frame.Frame.TheVariants as frame
use Rattle.js_reading.specs.declared.frame.Pending.{Pending}
use Rattle.js_reading.specs.declared.frame.Pending.TheVariants as pending
use Rattle.js_reading.specs.declared.frame.Bracket.TheVariants as bracket
use Rattle.js_reading.specs.declared.mode.Operand.{Operand}
use Rattle.js_reading.specs.declared.mode.Operand.TheVariants as operand
use Rattle.js_reading.specs.declared.mode.Parser.{Parser}
use Rattle.js_reading.specs.Frames.{◌>>=◌, when, tightness, begin_of, join, close_to, conditional, all, takes_assign, takes_unary}
use Rattle.js_reading.specs.Operands.{reached, value_of, tail_of, target_of, parameter_of, is_literal, settled, closed, level_of, on_arrow, whole, is_alone, on_square_close}
use Rattle.js_reading.specs.Reading.{ends_before, close_round_of, on_close_round, comma_of, on_comma, ends_by, operand_on, ends}
use Rattle.js_laws.proofs.Steps.{Leads, Same, alike}

-- ---- numbers

pub is_less : {a b : ℕ} → a < b → nat_lt a b ≡ true
is_less {a} {b} h = lt-ltb a b h

pub not_less : {a b : ℕ} → b ≤ a → nat_lt a b ≡ false
not_less {a} {b} h = le-ltb a b h

-- ---- operands that have settled

-- the operand that an expression with that end is
abbrev pub settled_as : Tail → Expr → Operand
settled_as step e = operand.Stepped e
settled_as braces e = operand.Braced e
settled_as _ e = operand.Primary e

-- how tightly a token holds the operand before it
abbrev pub grip_by : Tail → Bool → TokenKind → ℕ
grip_by call line (k.Binary o) = level o
grip_by call line (k.Logical o) = level_of o
grip_by call line k.Question = conditional
grip_by call line (k.Assign o) = 0
grip_by call line k.Dot = 0
grip_by call line k.OpenRound = 0
grip_by call line k.OpenSquare = 0
grip_by call line k.Arrow = cond line 13 0
grip_by call line (k.Step o) = cond line 13 0
grip_by step line (k.Binary o) = level o
grip_by step line (k.Logical o) = level_of o
grip_by step line k.Question = conditional
grip_by _ line _ = 13

abbrev pub grip : Tail → List Token → ℕ
grip tail [] = 13
grip tail (t ∷ ts) = grip_by tail t.line_before t.kind

pub grip_at : (tail : Tail) {ts : List Token} {kind : TokenKind} {site : ℕ} {rest : List Token} (h : Begins ts kind site rest) → grip tail ts ≡ grip_by tail h.line kind
grip_at tail h = rw h.begins refl

-- how tight a chain may still begin on the frames
abbrev pub room_of : Pending → ℕ
room_of (pending.Prefix site o) = 1
room_of (pending.Binary start first links site o) = level o
room_of (pending.Logical start first links site logic.And) = 9
room_of (pending.Logical start first links site logic.Or) = 10
room_of (pending.Logical start first links site logic.Coalesce) = 9
room_of _ = 13

abbrev pub room : List Frame → ℕ
room (frame.Pending p ∷ ks) = room_of p
room (frame.Step site o ∷ ks) = 0
room _ = 13

pub room_unary : (n : ℕ) (ks : List Frame) → n < room ks → takes_unary ks ≡ true
room_unary n (frame.Step site o ∷ ks) h = absurd (omega arith)
room_unary n _ h = refl

pub room_assign : (ks : List Frame) → takes_assign ks ≡ true → 12 < room ks
room_assign (frame.Pending (pending.Prefix site o) ∷ ks) h = absurd cc
room_assign (frame.Pending (pending.Binary start first links site op.Multiply) ∷ ks) h = absurd cc
room_assign (frame.Pending (pending.Binary start first links site op.Divide) ∷ ks) h = absurd cc
room_assign (frame.Pending (pending.Binary start first links site op.Remainder) ∷ ks) h = absurd cc
room_assign (frame.Pending (pending.Binary start first links site op.Add) ∷ ks) h = absurd cc
room_assign (frame.Pending (pending.Binary start first links site op.Subtract) ∷ ks) h = absurd cc
room_assign (frame.Pending (pending.Binary start first links site op.ShiftLeft) ∷ ks) h = absurd cc
room_assign (frame.Pending (pending.Binary start first links site op.ShiftRight) ∷ ks) h = absurd cc
room_assign (frame.Pending (pending.Binary start first links site op.ShiftRightZero) ∷ ks) h = absurd cc
room_assign (frame.Pending (pending.Binary start first links site _) ∷ ks) h = absurd cc
room_assign (frame.Pending (pending.Logical start first links site logic.And) ∷ ks) h = absurd cc
room_assign (frame.Pending (pending.Logical start first links site _) ∷ ks) h = absurd cc
room_assign (frame.Step site o ∷ ks) h = absurd cc
room_assign _ h = omega arith

pub unary_assign : (ks : List Frame) → takes_assign ks ≡ true → takes_unary ks ≡ true
unary_assign ks h = room_unary 12 ks (room_assign ks h)

-- ---- what is closed

pub settled_plain : (start : ℕ) (x : Operand) (ks : List Frame) → takes_unary ks ≡ true → settled start x ks ≡ Some (record { start = start; value = value_of x; frames = ks })
settled_plain start x (frame.Step site o ∷ ks) h = absurd cc
settled_plain start x [] h = refl
settled_plain start x (_ ∷ ks) h = refl

pub closed_plain : (n start : ℕ) (x : Operand) (ks : List Frame) → takes_unary ks ≡ true → closed n start x ks ≡ Some (close_to n start (value_of x) ks)
closed_plain n start x ks h = rw (settled_plain start x ks h) refl

pub closed_pending : (n start : ℕ) (x : Operand) (p : Pending) (ks : List Frame) → tightness p < n → takes_unary ks ≡ true → (y : Operand) → value_of y ≡ join p (value_of x) → closed n start x (frame.Pending p ∷ ks) ≡ closed n (begin_of p) y ks
closed_pending n start x p ks h u y e = rw (closed_plain n (begin_of p) y ks u, is_less h, e) refl

pub closed_step : (n start : ℕ) (x : Operand) (site : ℕ) (o : StepOp) (ks : List Frame) (t : Target Expr) → target_of x ≡ Some t → takes_unary ks ≡ true → (y : Operand) → value_of y ≡ expr.Step site site o true t → closed n start x (frame.Step site o ∷ ks) ≡ closed n site y ks
closed_step n start x site o ks t g u y e = rw (closed_plain n site y ks u, g, e) refl

-- ---- facts about operands

pub value_settled : (t : Tail) (e : Expr) → value_of (settled_as t e) ≡ e
value_settled step e = refl
value_settled braces e = refl
value_settled _ e = refl

pub never_bare : (x : Operand) → tail_of x ≡ no_expression → ⊥
never_bare (operand.Stepped e) h = cc
never_bare (operand.Braced e) h = cc
never_bare _ h = cc

pub tail_settled : (t : Tail) (e : Expr) → (t ≡ no_expression → ⊥) → tail_of (settled_as t e) ≡ t
tail_settled no_expression e h = absurd (h refl)
tail_settled call e h = refl
tail_settled step e h = refl
tail_settled braces e h = refl

pub literal_settled : (t : Tail) (e : Expr) → is_literal (settled_as t e) ≡ false
literal_settled step e = refl
literal_settled braces e = refl
literal_settled _ e = refl

pub target_none : (x : Operand) → (tail_of x ≡ call → ⊥) → target_of x ≡ None
target_none (operand.Stepped e) h = refl
target_none (operand.Braced e) h = refl
target_none _ h = absurd (h refl)

pub parameter_none : (x : Operand) → (tail_of x ≡ call → ⊥) → parameter_of x ≡ None
parameter_none (operand.Stepped e) h = refl
parameter_none (operand.Braced e) h = refl
parameter_none _ h = absurd (h refl)

pub target_call : (x : Operand) (t : Target Expr) → target_of x ≡ Some t → tail_of x ≡ call
target_call (operand.Stepped e) t h = absurd cc
target_call (operand.Braced e) t h = absurd cc
target_call _ t h = refl

-- ---- marks behind an operand that has settled

comma_above : (start : ℕ) (x : Operand) (ks : List Frame) → is_alone ks ≡ false → on_comma start x ks ≡ (whole start x ks >>= λ c. comma_of c.value c.frames)
comma_above start x (frame.Bracket b ∷ ks) h = absurd cc
comma_above start x [] h = refl
comma_above start x (_ ∷ ks) h = refl

comma_settled : (start : ℕ) (t : Tail) (e : Expr) (ks : List Frame) → on_comma start (settled_as t e) ks ≡ (whole start (settled_as t e) ks >>= λ c. comma_of c.value c.frames)
comma_settled start step e (frame.Bracket (bracket.Round site) ∷ ks) = refl
comma_settled start braces e (frame.Bracket (bracket.Round site) ∷ ks) = refl
comma_settled start _ e (frame.Bracket (bracket.Round site) ∷ ks) = refl
comma_settled start t e _ = refl

close_above : (start : ℕ) (x : Operand) (ks : List Frame) → is_alone ks ≡ false → on_close_round start x ks ≡ (whole start x ks >>= λ c. close_round_of c.value c.frames)
close_above start x (frame.Bracket b ∷ ks) h = absurd cc
close_above start x [] h = refl
close_above start x (_ ∷ ks) h = refl

close_settled : (start : ℕ) (t : Tail) (e : Expr) (ks : List Frame) → on_close_round start (settled_as t e) ks ≡ (whole start (settled_as t e) ks >>= λ c. close_round_of c.value c.frames)
close_settled start step e (frame.Bracket (bracket.Round site) ∷ ks) = refl
close_settled start braces e (frame.Bracket (bracket.Round site) ∷ ks) = refl
close_settled start _ e (frame.Bracket (bracket.Round site) ∷ ks) = refl
close_settled start t e _ = refl

-- the operand on the frames goes the way of the expression that it ends, on fewer frames
pub record Settles (n start : ℕ) (x : Operand) (above : List Frame) (start' : ℕ) (e : Expr) (ks : List Frame) : Type 0 where
  pub below_all : n < all
  pub above_alone : is_alone above ≡ false
  pub closes : (m : ℕ) → n < m → (y : Operand) → value_of y ≡ e → closed m start x above ≡ closed m start' y ks

settle_whole : (n start : ℕ) (x : Operand) (above : List Frame) (start' : ℕ) (e : Expr) (ks : List Frame) → Settles n start x above start' e ks → (t : Tail) → whole start x above ≡ whole start' (settled_as t e) ks
settle_whole n start x above start' e ks s t = s.closes all s.below_all (settled_as t e) (value_settled t e)

settle_square : (n start : ℕ) (x : Operand) (above : List Frame) (start' : ℕ) (e : Expr) (ks : List Frame) → Settles n start x above start' e ks → (t : Tail) → on_square_close start x above ≡ on_square_close start' (settled_as t e) ks
settle_square n start x above start' e ks s t = rw (settle_whole n start x above start' e ks s t, s.above_alone, literal_settled t e, and-false (is_literal x)) refl

settle_comma : (n start : ℕ) (x : Operand) (above : List Frame) (start' : ℕ) (e : Expr) (ks : List Frame) → Settles n start x above start' e ks → (t : Tail) → on_comma start x above ≡ on_comma start' (settled_as t e) ks
settle_comma n start x above start' e ks s t = rw (comma_above start x above s.above_alone, comma_settled start' t e ks, settle_whole n start x above start' e ks s t) refl

settle_close : (n start : ℕ) (x : Operand) (above : List Frame) (start' : ℕ) (e : Expr) (ks : List Frame) → Settles n start x above start' e ks → (t : Tail) → on_close_round start x above ≡ on_close_round start' (settled_as t e) ks
settle_close n start x above start' e ks s t = rw (close_above start x above s.above_alone, close_settled start' t e ks, settle_whole n start x above start' e ks s t) refl

settle_ends : (line : Bool) (site n start : ℕ) (x : Operand) (above : List Frame) (start' : ℕ) (e : Expr) (ks : List Frame) → Settles n start x above start' e ks → (t : Tail) → (kind : TokenKind) → ends_before site start x above kind ≡ ends_before site start' (settled_as t e) ks kind
settle_ends line site n start x above start' e ks s t kind = rw (settle_whole n start x above start' e ks s t) refl

-- where the tail takes no target
settle_other : (line : Bool) (site n start : ℕ) (x : Operand) (above : List Frame) (start' : ℕ) (e : Expr) (ks : List Frame) → Settles n start x above start' e ks → (t : Tail) → (t ≡ call → ⊥) → tail_of x ≡ t → target_of (settled_as t e) ≡ None → parameter_of (settled_as t e) ≡ None → (kind : TokenKind)
    → ends_by line site start x above kind ≡ ends_by line site start' (settled_as t e) ks kind
settle_other line site n start x above start' e ks s t c h g p k.Arrow = rw (parameter_none x (λ i. c (sym h ∙ i)), p) refl
settle_other true site n start x above start' e ks s t c h g p (k.Step o) = settle_ends true site n start x above start' e ks s t (k.Step o)
settle_other false site n start x above start' e ks s t c h g p (k.Step o) = rw (target_none x (λ i. c (sym h ∙ i)), g) refl
settle_other line site n start x above start' e ks s t c h g p k.CloseRound = settle_close n start x above start' e ks s t
settle_other line site n start x above start' e ks s t c h g p k.CloseSquare = settle_square n start x above start' e ks s t
settle_other line site n start x above start' e ks s t c h g p k.Comma = settle_comma n start x above start' e ks s t
settle_other line site n start x above start' e ks s t c h g p k.CloseBrace = rw (settle_whole n start x above start' e ks s t) refl
settle_other line site n start x above start' e ks s t c h g p k.Colon = rw (settle_whole n start x above start' e ks s t) refl
settle_other line site n start x above start' e ks s t c h g p k.Semicolon = rw (settle_whole n start x above start' e ks s t) refl
settle_other line site n start x above start' e ks s t c h g p kind = rw (settle_whole n start x above start' e ks s t) refl

arrow_nowhere : (o : Option Identifier) (b : Bool) → (o >>= λ n. when {A = Parser} b None) ≡ None
arrow_nowhere None b = refl
arrow_nowhere (Some n) true = refl
arrow_nowhere (Some n) false = refl

-- no arrow begins a line
arrow_line : (start : ℕ) (x : Operand) (ks : List Frame) → on_arrow true start x ks ≡ None
arrow_line start x ks = arrow_nowhere (parameter_of x) (takes_assign ks)

settle_call : (line : Bool) (site n start : ℕ) (x : Operand) (above : List Frame) (start' : ℕ) (e : Expr) (ks : List Frame) → Settles n start x above start' e ks → tail_of x ≡ call → (kind : TokenKind) → n < grip_by call line kind
    → operand_on line site start x above kind ≡ operand_on line site start' (operand.Primary e) ks kind
settle_call line site n start x above start' e ks s h (k.Binary o) g = rw (h, s.closes (level o) g (operand.Primary e) refl) refl
settle_call line site n start x above start' e ks s h (k.Logical o) g = rw (h, s.closes (level_of o) g (operand.Primary e) refl) refl
settle_call line site n start x above start' e ks s h k.Question g = rw (h, s.closes conditional g (operand.Primary e) refl) refl
settle_call line site n start x above start' e ks s h (k.Assign o) g = absurd (omega arith)
settle_call line site n start x above start' e ks s h k.Dot g = absurd (omega arith)
settle_call line site n start x above start' e ks s h k.OpenRound g = absurd (omega arith)
settle_call line site n start x above start' e ks s h k.OpenSquare g = absurd (omega arith)
settle_call true site n start x above start' e ks s h k.Arrow g = rw (h, arrow_line start x above) refl
settle_call false site n start x above start' e ks s h k.Arrow g = absurd (omega arith)
settle_call true site n start x above start' e ks s h (k.Step o) g = rw h (settle_ends true site n start x above start' e ks s call (k.Step o))
settle_call false site n start x above start' e ks s h (k.Step o) g = absurd (omega arith)
settle_call line site n start x above start' e ks s h k.CloseRound g = rw h (settle_close n start x above start' e ks s call)
settle_call line site n start x above start' e ks s h k.CloseSquare g = rw h (settle_square n start x above start' e ks s call)
settle_call line site n start x above start' e ks s h k.Comma g = rw h (settle_comma n start x above start' e ks s call)
settle_call line site n start x above start' e ks s h k.Pattern g = rw h refl
settle_call line site n start x above start' e ks s h kind g = rw (h, settle_whole n start x above start' e ks s call) refl

settle_step : (line : Bool) (site n start : ℕ) (x : Operand) (above : List Frame) (start' : ℕ) (e : Expr) (ks : List Frame) → Settles n start x above start' e ks → tail_of x ≡ step → (kind : TokenKind) → n < grip_by step line kind
    → operand_on line site start x above kind ≡ operand_on line site start' (operand.Stepped e) ks kind
settle_step line site n start x above start' e ks s h (k.Binary o) g = rw (h, s.closes (level o) g (operand.Stepped e) refl) refl
settle_step line site n start x above start' e ks s h (k.Logical o) g = rw (h, s.closes (level_of o) g (operand.Stepped e) refl) refl
settle_step line site n start x above start' e ks s h k.Question g = rw (h, s.closes conditional g (operand.Stepped e) refl) refl
settle_step line site n start x above start' e ks s h k.Pattern g = rw h refl
settle_step line site n start x above start' e ks s h kind g = rw h (settle_other line site n start x above start' e ks s step (λ i. cc) h refl refl kind)

settle_braces : (line : Bool) (site n start : ℕ) (x : Operand) (above : List Frame) (start' : ℕ) (e : Expr) (ks : List Frame) → Settles n start x above start' e ks → tail_of x ≡ braces → (kind : TokenKind)
    → operand_on line site start x above kind ≡ operand_on line site start' (operand.Braced e) ks kind
settle_braces line site n start x above start' e ks s h kind = rw h (settle_other line site n start x above start' e ks s braces (λ i. cc) h refl refl kind)

settle_on : (t : Tail) (line : Bool) (site n start : ℕ) (x : Operand) (above : List Frame) (start' : ℕ) (e : Expr) (ks : List Frame) → Settles n start x above start' e ks → tail_of x ≡ t → (kind : TokenKind) → n < grip_by t line kind
    → operand_on line site start x above kind ≡ operand_on line site start' (settled_as t e) ks kind
settle_on no_expression line site n start x above start' e ks s h kind g = absurd (never_bare x h)
settle_on call line site n start x above start' e ks s h kind g = settle_call line site n start x above start' e ks s h kind g
settle_on step line site n start x above start' e ks s h kind g = settle_step line site n start x above start' e ks s h kind g
settle_on braces line site n start x above start' e ks s h kind g = settle_braces line site n start x above start' e ks s h kind

settle_end : (n start : ℕ) (x : Operand) (above : List Frame) (start' : ℕ) (e : Expr) (ks : List Frame) → Settles n start x above start' e ks → (t : Tail) → ends (reached start x above) ≡ ends (reached start' (settled_as t e) ks)
settle_end n start x above start' e ks s t = rw (settle_whole n start x above start' e ks s t) refl

grip_step : (t : Tail) (n : ℕ) (rest : List Token) → n < grip t rest → (u : Token) (left : List Token) → rest ≡ u ∷ left → n < grip_by t u.line_before u.kind
grip_step t n rest g u left e = rw e at g

settle_same : (t : Tail) (rest : List Token) (n start : ℕ) (x : Operand) (above : List Frame) (start' : ℕ) (e : Expr) (ks : List Frame) → Settles n start x above start' e ks → tail_of x ≡ t → n < grip t rest → Same rest (reached start x above) (reached start' (settled_as t e) ks)
settle_same t rest n start x above start' e ks s h g = record {
  steps = λ u left i r j. settle_on t u.line_before u.start n start x above start' e ks s h u.kind (grip_step t n rest g u left i) ∙ j;
  ends = λ i body j. settle_end n start x above start' e ks s t ∙ j;
}

pub settle_as : {P : ℕ → Type 0} {t : Tail} {rest : List Token} {n start : ℕ} {x : Operand} {above : List Frame} {start' : ℕ} {e : Expr} {ks : List Frame} → Settles n start x above start' e ks → tail_of x ≡ t → n < grip t rest → Leads P rest (reached start x above) rest (reached start' (settled_as t e) ks)
settle_as {P} {t} {rest} {n} {start} {x} {above} {start'} {e} {ks} s h g = alike (settle_same t rest n start x above start' e ks s h g)

pub tightness_all : (p : Pending) → tightness p < all
tightness_all (pending.Prefix site o) = omega arith
tightness_all (pending.Binary start first links site op.Multiply) = omega arith
tightness_all (pending.Binary start first links site op.Divide) = omega arith
tightness_all (pending.Binary start first links site op.Remainder) = omega arith
tightness_all (pending.Binary start first links site op.Add) = omega arith
tightness_all (pending.Binary start first links site op.Subtract) = omega arith
tightness_all (pending.Binary start first links site op.ShiftLeft) = omega arith
tightness_all (pending.Binary start first links site op.ShiftRight) = omega arith
tightness_all (pending.Binary start first links site op.ShiftRightZero) = omega arith
tightness_all (pending.Binary start first links site _) = omega arith
tightness_all (pending.Logical start first links site logic.And) = omega arith
tightness_all (pending.Logical start first links site _) = omega arith
tightness_all _ = omega arith

pub pending_settles : (p : Pending) (start : ℕ) (x : Operand) (ks : List Frame) → takes_unary ks ≡ true → Settles (tightness p) start x (frame.Pending p ∷ ks) (begin_of p) (join p (value_of x)) ks
pending_settles p start x ks u = record { below_all = tightness_all p; above_alone = refl; closes = λ m h y e. closed_pending m start x p ks h u y e }

pub step_settles : (site : ℕ) (o : StepOp) (start : ℕ) (x : Operand) (ks : List Frame) (t : Target Expr) → target_of x ≡ Some t → takes_unary ks ≡ true → Settles 0 start x (frame.Step site o ∷ ks) site (expr.Step site site o true t) ks
step_settles site o start x ks t g u = record { below_all = omega arith; above_alone = refl; closes = λ m h y e. closed_step m start x site o ks t g u y e }
