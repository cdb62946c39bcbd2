-- Operators before an operand and behind it, and chains of binary and logical operators, are read.
use Rattle.std.proofs.Common.{◌≡◌, ℕ, suc, ◌<◌, ◌≤◌, Bool, true, false, List, [], ◌∷◌, ◌++◌, Option, Some, refl, sym, ap, subst, ◌∙◌, append_assoc, arith}
use Rattle.std.proofs.lemmas.Bool.{eq-eqb, ne_eqb}
use Rattle.js_ast.specs.declared.expression.Expr.{Expr}
use Rattle.js_ast.specs.declared.expression.Expr.TheVariants as expr
use Rattle.js_ast.specs.declared.operators.BinaryOp.{BinaryOp}
use Rattle.js_ast.specs.declared.operators.BinaryOp.TheVariants as op
use Rattle.js_ast.specs.declared.operators.LogicalOp.{LogicalOp}
use Rattle.js_ast.specs.declared.operators.LogicalOp.TheVariants as logic
use Rattle.js_ast.specs.declared.operators.StepOp.{StepOp}
use Rattle.js_ast.specs.declared.operators.UnaryOp.{UnaryOp}
use Rattle.js_ast.specs.declared.parts.Target.{Target}
use Rattle.js_ast.specs.declared.parts.Link.{Link}
use Rattle.js_grammar.specs.declared.token.Token.{Token}
use Rattle.js_grammar.specs.declared.token.TokenKind.{TokenKind}
use Rattle.js_grammar.specs.declared.token.TokenKind.TheVariants as k
use Rattle.js_grammar.specs.declared.token.Word.TheVariants as word
use Rattle.js_grammar.specs.Phrases.{Begins, Beside, start_of, level, prefix, Tail, no_expression, call, step, braces, continues, Context}
use Rattle.js_grammar.specs.Grammar.{binary_of, logical_of}
use Rattle.js_reading.specs.declared.frame.Frame.{Frame}
use Rattle.js_reading.specs.declared.frame.Frame.TheVariants as frame
use Rattle.js_reading.specs.declared.frame.Pending.{Pending}
use Rattle.js_reading.specs.declared.frame.Pending.TheVariants as pending
use Rattle.js_reading.specs.declared.frame.Bracket.TheVariants as bracket
use Rattle.js_reading.specs.declared.mode.Mode.TheVariants as mode
use Rattle.js_reading.specs.declared.mode.Operand.{Operand}
use Rattle.js_reading.specs.declared.mode.Operand.TheVariants as operand
use Rattle.js_reading.specs.Frames.{◌>>=◌, tightness_of, takes_unary}
use Rattle.js_reading.specs.Operands.{reached, wants, value_of, tail_of, target_of, want, opens_binary, on_binary, level_of, opens_logical, on_logical, on_question}
use Rattle.js_reading.specs.Reading.{operand_on}
use Rattle.js_laws.proofs.Steps.{Leads, stays, ◌⟫◌, take, take_beside, ending_at}
use Rattle.js_laws.proofs.WaitingFrames.{not_less, settled_as, grip_by, grip, grip_at, room_of, room, room_unary, value_settled, tail_settled, literal_settled, target_call, settle_as, pending_settles, step_settles}
use Rattle.js_laws.proofs.ReadParts.{Stands, Alone, GoesOn, LevelReads, CallReads, TargetReads, from_start}

-- ---- tails that operators may follow

abbrev pub grows : Tail → Bool
grows call = true
grows step = true
grows _ = false

pub grown : (t : Tail) → grows t ≡ true → t ≡ no_expression → ⊥
grown no_expression h e = cc
grown _ h e = cc

continues_binary : (t : Tail) (o : BinaryOp) → grows t ≡ true → continues t (k.Binary o) ≡ true
continues_binary call o h = refl
continues_binary step o h = refl
continues_binary braces o h = absurd cc
continues_binary no_expression o h = absurd cc

continues_logical : (t : Tail) (o : LogicalOp) → grows t ≡ true → continues t (k.Logical o) ≡ true
continues_logical call o h = refl
continues_logical step o h = refl
continues_logical braces o h = absurd cc
continues_logical no_expression o h = absurd cc

continues_question : (t : Tail) → grows t ≡ true → continues t k.Question ≡ true
continues_question call h = refl
continues_question step h = refl
continues_question braces h = absurd cc
continues_question no_expression h = absurd cc

pub level_most : (o : BinaryOp) → level o ≤ 8
level_most op.Multiply = omega arith
level_most op.Divide = omega arith
level_most op.Remainder = omega arith
level_most op.Add = omega arith
level_most op.Subtract = omega arith
level_most op.ShiftLeft = omega arith
level_most op.ShiftRight = omega arith
level_most op.ShiftRightZero = omega arith
level_most op.Less = omega arith
level_most op.Greater = omega arith
level_most op.LessEqual = omega arith
level_most op.GreaterEqual = omega arith
level_most op.Equal = omega arith
level_most op.NotEqual = omega arith
level_most op.BitAnd = omega arith
level_most op.BitXor = omega arith
level_most op.BitOr = omega arith

grip_binary : (t : Tail) (line : Bool) (o : BinaryOp) → level o ≤ grip_by t line (k.Binary o)
grip_binary call line o = omega arith
grip_binary step line o = omega arith
grip_binary braces line o = omega (arith, level_most o)
grip_binary no_expression line o = omega (arith, level_most o)

grip_logical : (t : Tail) (line : Bool) (o : LogicalOp) → level_of o ≤ grip_by t line (k.Logical o)
grip_logical call line o = omega arith
grip_logical step line o = omega arith
grip_logical braces line logic.Or = omega arith
grip_logical braces line _ = omega arith
grip_logical no_expression line logic.Or = omega arith
grip_logical no_expression line _ = omega arith

grip_question : (t : Tail) (line : Bool) → 11 ≤ grip_by t line k.Question
grip_question call line = omega arith
grip_question step line = omega arith
grip_question braces line = omega arith
grip_question no_expression line = omega arith

pub before_binary : (t : Tail) {ts : List Token} {o : BinaryOp} {site : ℕ} {rest : List Token} → Begins ts (k.Binary o) site rest → level o ≤ grip t ts
before_binary t {ts} {o} h = let g : level o ≤ grip_by t h.line (k.Binary o) = grip_binary t h.line o in rw (grip_at t h) g

pub before_logical : (t : Tail) {ts : List Token} {o : LogicalOp} {site : ℕ} {rest : List Token} → Begins ts (k.Logical o) site rest → level_of o ≤ grip t ts
before_logical t {ts} {o} h = let g : level_of o ≤ grip_by t h.line (k.Logical o) = grip_logical t h.line o in rw (grip_at t h) g

pub before_question : (t : Tail) {ts : List Token} {site : ℕ} {rest : List Token} → Begins ts k.Question site rest → 11 ≤ grip t ts
before_question t {ts} h = let g : 11 ≤ grip_by t h.line k.Question = grip_question t h.line in rw (grip_at t h) g

-- ---- chains that begin

placed_binary : (o : BinaryOp) (site start : ℕ) (x : Operand) (ks : List Frame) → 0 < level o → level o < room ks → on_binary o site start x ks ≡ Some (opens_binary o site start (value_of x) ks)
placed_binary o site start x [] h r = refl
placed_binary o site start x (frame.Pending (pending.Prefix site' p) ∷ ks) h r = absurd (omega arith)
placed_binary o site start x (frame.Pending (pending.Binary start' first links site' p) ∷ ks) h r = rw (not_less {a = level p} {b = level o} (omega arith), ne_eqb (level p) (level o) (λ e. omega arith)) refl
placed_binary o site start x (frame.Pending (pending.Logical start' first links site' logic.And) ∷ ks) h r = rw (not_less {a = 9} {b = level o} (omega arith)) refl
placed_binary o site start x (frame.Pending (pending.Logical start' first links site' logic.Or) ∷ ks) h r = rw (not_less {a = 10} {b = level o} (omega arith)) refl
placed_binary o site start x (frame.Pending (pending.Logical start' first links site' logic.Coalesce) ∷ ks) h r = rw (not_less {a = 10} {b = level o} (omega arith)) refl
placed_binary o site start x (frame.Pending (pending.Conditional start' site' test consequent) ∷ ks) h r = rw (not_less {a = 12} {b = level o} (omega arith)) refl
placed_binary o site start x (frame.Pending (pending.Assign start' site' p t) ∷ ks) h r = rw (not_less {a = 12} {b = level o} (omega arith)) refl
placed_binary o site start x (frame.Pending (pending.Arrow start' names) ∷ ks) h r = rw (not_less {a = 12} {b = level o} (omega arith)) refl
placed_binary o site start x (frame.Step site' p ∷ ks) h r = absurd (omega arith)
placed_binary o site start x (_ ∷ ks) h r = refl

placed_logical : (o : LogicalOp) (site start : ℕ) (x : Operand) (ks : List Frame) → tightness_of o < room ks → on_logical o site start x ks ≡ Some (opens_logical o site start (value_of x) ks)
placed_logical o site start x [] r = refl
placed_logical logic.And site start x (frame.Pending (pending.Prefix site' p) ∷ ks) r = absurd (omega arith)
placed_logical logic.Or site start x (frame.Pending (pending.Prefix site' p) ∷ ks) r = absurd (omega arith)
placed_logical logic.Coalesce site start x (frame.Pending (pending.Prefix site' p) ∷ ks) r = absurd (omega arith)
placed_logical logic.And site start x (frame.Pending (pending.Binary start' first links site' p) ∷ ks) r = absurd (omega (arith, level_most p))
placed_logical logic.Or site start x (frame.Pending (pending.Binary start' first links site' p) ∷ ks) r = absurd (omega (arith, level_most p))
placed_logical logic.Coalesce site start x (frame.Pending (pending.Binary start' first links site' p) ∷ ks) r = absurd (omega (arith, level_most p))
placed_logical logic.And site start x (frame.Pending (pending.Logical start' first links site' logic.Or) ∷ ks) r = refl
placed_logical logic.Or site start x (frame.Pending (pending.Logical start' first links site' logic.Or) ∷ ks) r = absurd (omega arith)
placed_logical logic.Coalesce site start x (frame.Pending (pending.Logical start' first links site' logic.Or) ∷ ks) r = absurd (omega arith)
placed_logical logic.And site start x (frame.Pending (pending.Logical start' first links site' logic.And) ∷ ks) r = absurd (omega arith)
placed_logical logic.Or site start x (frame.Pending (pending.Logical start' first links site' logic.And) ∷ ks) r = absurd (omega arith)
placed_logical logic.Coalesce site start x (frame.Pending (pending.Logical start' first links site' logic.And) ∷ ks) r = absurd (omega arith)
placed_logical logic.And site start x (frame.Pending (pending.Logical start' first links site' logic.Coalesce) ∷ ks) r = absurd (omega arith)
placed_logical logic.Or site start x (frame.Pending (pending.Logical start' first links site' logic.Coalesce) ∷ ks) r = absurd (omega arith)
placed_logical logic.Coalesce site start x (frame.Pending (pending.Logical start' first links site' logic.Coalesce) ∷ ks) r = absurd (omega arith)
placed_logical logic.And site start x (frame.Pending _ ∷ ks) r = refl
placed_logical logic.Or site start x (frame.Pending _ ∷ ks) r = refl
placed_logical logic.Coalesce site start x (frame.Pending _ ∷ ks) r = refl
placed_logical logic.And site start x (frame.Step site' p ∷ ks) r = absurd (omega arith)
placed_logical logic.Or site start x (frame.Step site' p ∷ ks) r = absurd (omega arith)
placed_logical logic.Coalesce site start x (frame.Step site' p ∷ ks) r = absurd (omega arith)
placed_logical o site start x (_ ∷ ks) r = refl

placed_question : (site start : ℕ) (x : Operand) (ks : List Frame) → 12 < room ks → on_question site start x ks ≡ Some (wants (frame.Bracket (bracket.Question start site (value_of x))) ks)
placed_question site start x [] r = refl
placed_question site start x (frame.Pending (pending.Prefix site' p) ∷ ks) r = absurd (omega arith)
placed_question site start x (frame.Pending (pending.Binary start' first links site' p) ∷ ks) r = absurd (omega (arith, level_most p))
placed_question site start x (frame.Pending (pending.Logical start' first links site' logic.And) ∷ ks) r = absurd (omega arith)
placed_question site start x (frame.Pending (pending.Logical start' first links site' logic.Or) ∷ ks) r = absurd (omega arith)
placed_question site start x (frame.Pending (pending.Logical start' first links site' logic.Coalesce) ∷ ks) r = absurd (omega arith)
placed_question site start x (frame.Pending _ ∷ ks) r = refl
placed_question site start x (frame.Step site' p ∷ ks) r = absurd (omega arith)
placed_question site start x (_ ∷ ks) r = refl

opens_binary_on : (line : Bool) (o : BinaryOp) (site start : ℕ) (x : Operand) (ks : List Frame) → grows (tail_of x) ≡ true → 0 < level o → level o < room ks → operand_on line site start x ks (k.Binary o) ≡ Some (opens_binary o site start (value_of x) ks)
opens_binary_on line o site start x ks g h r = rw (continues_binary (tail_of x) o g) (placed_binary o site start x ks h r)

opens_logical_on : (line : Bool) (o : LogicalOp) (site start : ℕ) (x : Operand) (ks : List Frame) → grows (tail_of x) ≡ true → tightness_of o < room ks → operand_on line site start x ks (k.Logical o) ≡ Some (opens_logical o site start (value_of x) ks)
opens_logical_on line o site start x ks g r = rw (continues_logical (tail_of x) o g) (placed_logical o site start x ks r)

pub question_on : (line : Bool) (site start : ℕ) (x : Operand) (ks : List Frame) → grows (tail_of x) ≡ true → 12 < room ks → operand_on line site start x ks k.Question ≡ Some (wants (frame.Bracket (bracket.Question start site (value_of x))) ks)
question_on line site start x ks g r = rw (continues_question (tail_of x) g) (placed_question site start x ks r)

-- ---- chains that go on

goes_binary_on : (line : Bool) (o p : BinaryOp) (site : ℕ) (at' : ℕ) (x : Operand) (start : ℕ) (first : Expr) (links : List (Link BinaryOp Expr)) (site' : ℕ) (ks : List Frame) → grows (tail_of x) ≡ true → level p ≡ level o
    → operand_on line site at' x (frame.Pending (pending.Binary start first links site' p) ∷ ks) (k.Binary o) ≡ Some (wants (frame.Pending (pending.Binary start first (links ++ record { site = site'; op = p; right = value_of x } ∷ []) site o)) ks)
goes_binary_on line o p site at' x start first links site' ks g e = rw (continues_binary (tail_of x) o g, not_less {a = level p} {b = level o} (omega arith), eq-eqb (level p) (level o) e) refl

goes_logical : (o : LogicalOp) (site at' : ℕ) (x : Operand) (start : ℕ) (first : Expr) (links : List (Link LogicalOp Expr)) (site' : ℕ) (ks : List Frame)
    → on_logical o site at' x (frame.Pending (pending.Logical start first links site' o) ∷ ks) ≡ Some (wants (frame.Pending (pending.Logical start first (links ++ record { site = site'; op = o; right = value_of x } ∷ []) site o)) ks)
goes_logical logic.And site at' x start first links site' ks = refl
goes_logical logic.Or site at' x start first links site' ks = refl
goes_logical logic.Coalesce site at' x start first links site' ks = refl

goes_logical_on : (line : Bool) (o : LogicalOp) (site at' : ℕ) (x : Operand) (start : ℕ) (first : Expr) (links : List (Link LogicalOp Expr)) (site' : ℕ) (ks : List Frame) → grows (tail_of x) ≡ true
    → operand_on line site at' x (frame.Pending (pending.Logical start first links site' o) ∷ ks) (k.Logical o) ≡ Some (wants (frame.Pending (pending.Logical start first (links ++ record { site = site'; op = o; right = value_of x } ∷ []) site o)) ks)
goes_logical_on line o site at' x start first links site' ks g = rw (continues_logical (tail_of x) o g) (goes_logical o site at' x start first links site' ks)

-- ---- links of a binary chain

pending_stands : {c : Context} {d : ℕ} {ks : List Frame} (start : ℕ) (first : Expr) (links : List (Link BinaryOp Expr)) (site : ℕ) (o : BinaryOp) → Stands c d ks → Stands c d (frame.Pending (pending.Binary start first links site o) ∷ ks)
pending_stands start first links site o s = record { context_is = s.context_is; depth_is = omega (arith, s.depth_is) }

logical_stands : {c : Context} {d : ℕ} {ks : List Frame} (start : ℕ) (first : Expr) (links : List (Link LogicalOp Expr)) (site : ℕ) (o : LogicalOp) → Stands c d ks → Stands c d (frame.Pending (pending.Logical start first links site o) ∷ ks)
logical_stands start first links site o s = record { context_is = s.context_is; depth_is = omega (arith, s.depth_is) }

-- behind the right side of an operator
abbrev pub LinksOn : (ℕ → Type 0) → ℕ → ℕ → Context → Tail → List Token → List (Link BinaryOp Expr) → Tail → List Token → Type 0
LinksOn P l d c t ts ls tail rest = (start : ℕ) (first : Expr) (links : List (Link BinaryOp Expr)) (site : ℕ) (o : BinaryOp) → level o ≡ suc l → (ks : List Frame) → Stands c d ks → P d → takes_unary ks ≡ true → suc l < grip tail rest
    → (at' : ℕ) (x : Operand) (e : Expr) → value_of x ≡ e → tail_of x ≡ t → grows t ≡ true
    → Leads P ts (reached at' x (frame.Pending (pending.Binary start first links site o) ∷ ks)) rest (reached start (settled_as tail (expr.Binary first (links ++ record { site = site; op = o; right = e } ∷ ls))) ks)

abbrev pub LinksFrom : (ℕ → Type 0) → ℕ → ℕ → Context → Tail → List Token → List (Link BinaryOp Expr) → Tail → List Token → Type 0
LinksFrom P l d c t ts ls tail rest = (ks : List Frame) → Stands c d ks → P d → suc l < room ks → suc l < grip tail rest → (start : ℕ) (x : Operand) (e : Expr) → value_of x ≡ e → tail_of x ≡ t → grows t ≡ true → GoesOn P ts (binary_of e ls) tail rest start x ks

pub links_none_on : (P : ℕ → Type 0) (l d : ℕ) (c : Context) (tail : Tail) (ts : List Token) → LinksOn P l d c tail ts [] tail ts
links_none_on P l d c tail ts start first links site o lo ks s n u g at' x e v t gt =
    ending_at (settle_as (pending_settles (pending.Binary start first links site o) at' x ks u) t (omega arith)) (ap (λ (z : Expr). reached start (settled_as tail (expr.Binary first (links ++ record { site = site; op = o; right = z } ∷ []))) ks) v)

pub links_more_on : (P : ℕ → Type 0) (l d : ℕ) (c : Context) (t : Tail) (ts : List Token) (o : BinaryOp) (site : ℕ) (from : List Token) (b : Expr) (u : Tail) (mid : List Token) (ls : List (Link BinaryOp Expr)) (tail : Tail) (rest : List Token) → Begins ts (k.Binary o) site from → level o ≡ suc l → LevelReads P l d c from b u mid → (l < grip tail rest → l < grip u mid) → grows u ≡ true → LinksOn P l d c u mid ls tail rest
    → LinksOn P l d c t ts (record { site = site; op = o; right = b } ∷ ls) tail rest
links_more_on P l d c t ts o site from b u mid ls tail rest h lo i calm gu j start first links site' p lp ks s n un g at' x e v tx gt =
    let links' : List (Link BinaryOp Expr) = links ++ record { site = site'; op = p; right = value_of x } ∷ [] in
    let q : Pending = pending.Binary start first links' site o in
    let r = i (frame.Pending q ∷ ks) (pending_stands start first links' site o s) n (omega arith) refl (calm (omega arith)) in
    take h (goes_binary_on h.line o p site at' x start first links site' ks (rw tx gt) (lp ∙ sym lo)) n (omega (arith, s.depth_is))
    ⟫ r.leads
    ⟫ ending_at (j start first links' site o lo ks s n un g (start_of from) r.x b r.is r.tail_is gu)
    (ap (λ (z : List (Link BinaryOp Expr)). reached start (settled_as tail (expr.Binary first z)) ks) (append_assoc links (record { site = site'; op = p; right = value_of x } ∷ []) (record { site = site; op = o; right = b } ∷ ls))
    ∙ ap (λ (z : Expr). reached start (settled_as tail (expr.Binary first (links ++ record { site = site'; op = p; right = z } ∷ record { site = site; op = o; right = b } ∷ ls))) ks) v)

pub links_none_from : (P : ℕ → Type 0) (l d : ℕ) (c : Context) (tail : Tail) (ts : List Token) → LinksFrom P l d c tail ts [] tail ts
links_none_from P l d c tail ts ks s n r g start x e v t gt = record { y = x; is = v; tail_is = t; literal = λ h. (h, refl); leads = stays P ts (reached start x ks) }

pub links_more_from : (P : ℕ → Type 0) (l d : ℕ) (c : Context) (t : Tail) (ts : List Token) (o : BinaryOp) (site : ℕ) (from : List Token) (b : Expr) (u : Tail) (mid : List Token) (ls : List (Link BinaryOp Expr)) (tail : Tail) (rest : List Token) → Begins ts (k.Binary o) site from → level o ≡ suc l → LevelReads P l d c from b u mid → (l < grip tail rest → l < grip u mid) → grows u ≡ true → grows tail ≡ true → LinksOn P l d c u mid ls tail rest
    → LinksFrom P l d c t ts (record { site = site; op = o; right = b } ∷ ls) tail rest
links_more_from P l d c t ts o site from b u mid ls tail rest h lo i calm gu gtail j ks s n ro g start x e v tx gt =
    let q : Pending = pending.Binary start (value_of x) [] site o in
    let r = i (frame.Pending q ∷ ks) (pending_stands start (value_of x) [] site o s) n (omega arith) refl (calm (omega arith)) in
    let e' : Expr = expr.Binary e (record { site = site; op = o; right = b } ∷ ls) in
    record {
      y = settled_as tail e';
      is = value_settled tail e';
      tail_is = tail_settled tail e' (grown tail gtail);
      literal = λ z. absurd (cc (literal_settled tail e'));
      leads = take h (opens_binary_on h.line o site start x ks (rw tx gt) (omega arith) (omega arith)) n (omega (arith, s.depth_is))
          ⟫ r.leads
          ⟫ ending_at (j start (value_of x) [] site o lo ks s n (room_unary (suc l) ks ro) g (start_of from) r.x b r.is r.tail_is gu)
          (ap (λ (z : Expr). reached start (settled_as tail (expr.Binary z (record { site = site; op = o; right = b } ∷ ls))) ks) v);
    }

-- a chain of the level above
pub chain_all_reads : (P : ℕ → Type 0) (l d : ℕ) (c : Context) (ts : List Token) (a : Expr) (t : Tail) (mid : List Token) (ls : List (Link BinaryOp Expr)) (tail : Tail) (rest : List Token) → LevelReads P l d c ts a t mid → (l < grip tail rest → l < grip t mid) → grows t ≡ true → LinksFrom P l d c t mid ls tail rest → LevelReads P (suc l) d c ts (binary_of a ls) tail rest
chain_all_reads P l d c ts a t mid ls tail rest i calm gt j ks s n ro f g =
    let r = i ks s n (omega arith) f (calm (omega arith)) in
    let q = j ks s n ro g (start_of ts) r.x a r.is r.tail_is gt in
    record { x = q.y; is = q.is; tail_is = q.tail_is; literal = λ h. subst (λ (z : List Token). Alone ts z) (q.literal h).1 (r.literal (q.literal h).0); leads = r.leads ⟫ q.leads }

-- ---- links of a logical chain

abbrev pub BitsOn : (ℕ → Type 0) → LogicalOp → ℕ → Context → Tail → List Token → List (Link LogicalOp Expr) → Tail → List Token → Type 0
BitsOn P o d c t ts ls tail rest = (start : ℕ) (first : Expr) (links : List (Link LogicalOp Expr)) (site : ℕ) (ks : List Frame) → Stands c d ks → P d → takes_unary ks ≡ true → tightness_of o < grip tail rest
    → (at' : ℕ) (x : Operand) (e : Expr) → value_of x ≡ e → tail_of x ≡ t → grows t ≡ true
    → Leads P ts (reached at' x (frame.Pending (pending.Logical start first links site o) ∷ ks)) rest (reached start (settled_as tail (expr.Logical first (links ++ record { site = site; op = o; right = e } ∷ ls))) ks)

abbrev pub BitsFrom : (ℕ → Type 0) → LogicalOp → ℕ → Context → Tail → List Token → List (Link LogicalOp Expr) → Tail → List Token → Type 0
BitsFrom P o d c t ts ls tail rest = (ks : List Frame) → Stands c d ks → P d → tightness_of o < room ks → tightness_of o < grip tail rest → (start : ℕ) (x : Operand) (e : Expr) → value_of x ≡ e → tail_of x ≡ t → grows t ≡ true → GoesOn P ts (logical_of e ls) tail rest start x ks

pub bits_none_on : (P : ℕ → Type 0) (o : LogicalOp) (d : ℕ) (c : Context) (tail : Tail) (ts : List Token) → BitsOn P o d c tail ts [] tail ts
bits_none_on P o d c tail ts start first links site ks s n u g at' x e v t gt =
    ending_at (settle_as (pending_settles (pending.Logical start first links site o) at' x ks u) t g) (ap (λ (z : Expr). reached start (settled_as tail (expr.Logical first (links ++ record { site = site; op = o; right = z } ∷ []))) ks) v)

-- the parts are of level m: the tightness of the frame leaves room for them
pub bits_more_on : (P : ℕ → Type 0) (o : LogicalOp) (m d : ℕ) (c : Context) (t : Tail) (ts : List Token) (site : ℕ) (from : List Token) (b : Expr) (u : Tail) (mid : List Token) (ls : List (Link LogicalOp Expr)) (tail : Tail) (rest : List Token)
    → ((start : ℕ) (first : Expr) (links : List (Link LogicalOp Expr)) (site' : ℕ) → m < room_of (pending.Logical start first links site' o)) → Begins ts (k.Logical o) site from → LevelReads P m d c from b u mid → (tightness_of o < grip tail rest → m < grip u mid) → grows u ≡ true → BitsOn P o d c u mid ls tail rest
    → BitsOn P o d c t ts (record { site = site; op = o; right = b } ∷ ls) tail rest
bits_more_on P o m d c t ts site from b u mid ls tail rest ro h i calm gu j start first links site' ks s n un g at' x e v tx gt =
    let links' : List (Link LogicalOp Expr) = links ++ record { site = site'; op = o; right = value_of x } ∷ [] in
    let q : Pending = pending.Logical start first links' site o in
    let r = i (frame.Pending q ∷ ks) (logical_stands start first links' site o s) n (ro start first links' site) refl (calm g) in
    take h (goes_logical_on h.line o site at' x start first links site' ks (rw tx gt)) n (omega (arith, s.depth_is))
    ⟫ r.leads
    ⟫ ending_at (j start first links' site ks s n un g (start_of from) r.x b r.is r.tail_is gu)
    (ap (λ (z : List (Link LogicalOp Expr)). reached start (settled_as tail (expr.Logical first z)) ks) (append_assoc links (record { site = site'; op = o; right = value_of x } ∷ []) (record { site = site; op = o; right = b } ∷ ls))
    ∙ ap (λ (z : Expr). reached start (settled_as tail (expr.Logical first (links ++ record { site = site'; op = o; right = z } ∷ record { site = site; op = o; right = b } ∷ ls))) ks) v)

pub bits_none_from : (P : ℕ → Type 0) (o : LogicalOp) (d : ℕ) (c : Context) (tail : Tail) (ts : List Token) → BitsFrom P o d c tail ts [] tail ts
bits_none_from P o d c tail ts ks s n r g start x e v t gt = record { y = x; is = v; tail_is = t; literal = λ h. (h, refl); leads = stays P ts (reached start x ks) }

tightness_room : (o : LogicalOp) (ks : List Frame) → tightness_of o < room ks → takes_unary ks ≡ true
tightness_room o ks h = room_unary (tightness_of o) ks h

pub bits_more_from : (P : ℕ → Type 0) (o : LogicalOp) (m d : ℕ) (c : Context) (t : Tail) (ts : List Token) (site : ℕ) (from : List Token) (b : Expr) (u : Tail) (mid : List Token) (ls : List (Link LogicalOp Expr)) (tail : Tail) (rest : List Token)
    → ((start : ℕ) (first : Expr) (links : List (Link LogicalOp Expr)) (site' : ℕ) → m < room_of (pending.Logical start first links site' o)) → Begins ts (k.Logical o) site from → LevelReads P m d c from b u mid → (tightness_of o < grip tail rest → m < grip u mid) → grows u ≡ true → grows tail ≡ true → BitsOn P o d c u mid ls tail rest
    → BitsFrom P o d c t ts (record { site = site; op = o; right = b } ∷ ls) tail rest
bits_more_from P o m d c t ts site from b u mid ls tail rest ro h i calm gu gtail j ks s n rk g start x e v tx gt =
    let q : Pending = pending.Logical start (value_of x) [] site o in
    let r = i (frame.Pending q ∷ ks) (logical_stands start (value_of x) [] site o s) n (ro start (value_of x) [] site) refl (calm g) in
    let e' : Expr = expr.Logical e (record { site = site; op = o; right = b } ∷ ls) in
    record {
      y = settled_as tail e';
      is = value_settled tail e';
      tail_is = tail_settled tail e' (grown tail gtail);
      literal = λ z. absurd (cc (literal_settled tail e'));
      leads = take h (opens_logical_on h.line o site start x ks (rw tx gt) rk) n (omega (arith, s.depth_is))
          ⟫ r.leads
          ⟫ ending_at (j start (value_of x) [] site ks s n (tightness_room o ks rk) g (start_of from) r.x b r.is r.tail_is gu)
          (ap (λ (z : Expr). reached start (settled_as tail (expr.Logical z (record { site = site; op = o; right = b } ∷ ls))) ks) v);
    }

-- a chain whose parts are of level m
pub logical_all_reads : (P : ℕ → Type 0) (o : LogicalOp) (m d : ℕ) (c : Context) (ts : List Token) (a : Expr) (t : Tail) (mid : List Token) (ls : List (Link LogicalOp Expr)) (tail : Tail) (rest : List Token) → m ≤ tightness_of o → LevelReads P m d c ts a t mid → (tightness_of o < grip tail rest → m < grip t mid) → grows t ≡ true → BitsFrom P o d c t mid ls tail rest → LevelReads P (tightness_of o) d c ts (logical_of a ls) tail rest
logical_all_reads P o m d c ts a t mid ls tail rest le i calm gt j ks s n ro f g =
    let r = i ks s n (omega arith) f (calm g) in
    let q = j ks s n ro g (start_of ts) r.x a r.is r.tail_is gt in
    record { x = q.y; is = q.is; tail_is = q.tail_is; literal = λ h. subst (λ (z : List Token). Alone ts z) (q.literal h).1 (r.literal (q.literal h).0); leads = r.leads ⟫ q.leads }

-- ---- one operand and its operators

prefix_want : (site : ℕ) (ks : List Frame) (mark : TokenKind) (o : UnaryOp) → takes_unary ks ≡ true → prefix mark ≡ Some o → want site ks mark ≡ Some (wants (frame.Pending (pending.Prefix site o)) ks)
prefix_want site ks (k.Binary op.Add) o u h = rw u (ap (λ (z : Option UnaryOp). z >>= λ y. Some (wants (frame.Pending (pending.Prefix site y)) ks)) h)
prefix_want site ks (k.Binary op.Subtract) o u h = rw u (ap (λ (z : Option UnaryOp). z >>= λ y. Some (wants (frame.Pending (pending.Prefix site y)) ks)) h)
prefix_want site ks k.Not o u h = rw u (ap (λ (z : Option UnaryOp). z >>= λ y. Some (wants (frame.Pending (pending.Prefix site y)) ks)) h)
prefix_want site ks k.Complement o u h = rw u (ap (λ (z : Option UnaryOp). z >>= λ y. Some (wants (frame.Pending (pending.Prefix site y)) ks)) h)
prefix_want site ks (k.Word word.TypeOf units) o u h = rw u (ap (λ (z : Option UnaryOp). z >>= λ y. Some (wants (frame.Pending (pending.Prefix site y)) ks)) h)
prefix_want site ks (k.Binary _) o u h = absurd cc
prefix_want site ks (k.Word _ units) o u h = absurd cc
prefix_want site ks _ o u h = absurd cc

pub prefix_reads : (P : ℕ → Type 0) (d : ℕ) (c : Context) (ts : List Token) (mark : TokenKind) (o : UnaryOp) (site : ℕ) (from : List Token) (e : Expr) (tail : Tail) (rest : List Token) → P (suc d) → Begins ts mark site from → prefix mark ≡ Some o → LevelReads P 0 (suc d) c from e tail rest → (grows tail ≡ true) → LevelReads P 0 d c ts (expr.Unary site o e) tail rest
prefix_reads P d c ts mark o site from e tail rest n' h p i gt ks s n ro f g =
    let u : takes_unary ks ≡ true = room_unary 0 ks ro in
    let q : Pending = pending.Prefix site o in
    let s' : Stands c (suc d) (frame.Pending q ∷ ks) = record { context_is = s.context_is; depth_is = omega (arith, s.depth_is) } in
    let r = i (frame.Pending q ∷ ks) s' n' (omega arith) refl g in
    let e' : Expr = expr.Unary site o e in
    record {
      x = settled_as tail e';
      is = value_settled tail e';
      tail_is = tail_settled tail e' (grown tail gt);
      literal = λ z. absurd (cc (literal_settled tail e'));
      leads = from_start h (take h (prefix_want site ks mark o u p) n' (omega (arith, s.depth_is)) ⟫ r.leads
          ⟫ ending_at (settle_as (pending_settles q (start_of from) r.x ks u) r.tail_is g) (ap (λ (z : Expr). reached site (settled_as tail (expr.Unary site o z)) ks) r.is));
    }

pub step_reads : (P : ℕ → Type 0) (d : ℕ) (c : Context) (ts : List Token) (o : StepOp) (site : ℕ) (from : List Token) (t : Target Expr) (rest : List Token) → P (suc d) → Begins ts (k.Step o) site from → TargetReads P (suc d) c from t rest → LevelReads P 0 d c ts (expr.Step site site o true t) call rest
step_reads P d c ts o site from t rest n' h i ks s n ro f g =
    let u : takes_unary ks ≡ true = room_unary 0 ks ro in
    let s' : Stands c (suc d) (frame.Step site o ∷ ks) = record { context_is = s.context_is; depth_is = omega (arith, s.depth_is) } in
    let r = i (frame.Step site o ∷ ks) s' n' refl in
    record {
      x = operand.Primary (expr.Step site site o true t);
      is = refl;
      tail_is = refl;
      literal = λ z. absurd cc;
      leads = from_start h (take h {m = mode.Want} {ks = ks} {q = wants (frame.Step site o) ks} (rw u refl) n' (omega (arith, s.depth_is)) ⟫ r.leads
          ⟫ settle_as {t = call} (step_settles site o (start_of from) r.x ks t r.target_is u) (target_call r.x t r.target_is) g);
    }

behind_on : (o : StepOp) (site start : ℕ) (x : Operand) (ks : List Frame) (t : Target Expr) → target_of x ≡ Some t → takes_unary ks ≡ true → operand_on false site start x ks (k.Step o) ≡ Some (reached start (operand.Stepped (expr.Step start site o false t)) ks)
behind_on o site start x ks t h u = rw (target_call x t h, h, u) refl

pub behind_reads : (P : ℕ → Type 0) (d : ℕ) (c : Context) (ts : List Token) (t : Target Expr) (mark : List Token) (o : StepOp) (site : ℕ) (rest : List Token) → TargetReads P d c ts t mark → Beside mark (k.Step o) site rest → LevelReads P 0 d c ts (expr.Step (start_of ts) site o false t) step rest
behind_reads P d c ts t mark o site rest i h ks s n ro f g =
    let r = i ks s n f in
    record {
      x = operand.Stepped (expr.Step (start_of ts) site o false t);
      is = refl;
      tail_is = refl;
      literal = λ z. absurd cc;
      leads = r.leads ⟫ take_beside h (behind_on o site (start_of ts) r.x ks t r.target_is (room_unary 0 ks ro)) n s.depth_is;
    }

pub unary_call_reads : (P : ℕ → Type 0) (d : ℕ) (c : Context) (ts : List Token) (e : Expr) (rest : List Token) → CallReads P d c ts e rest → LevelReads P 0 d c ts e call rest
unary_call_reads P d c ts e rest i ks s n ro f g =
    let r = i ks s n f in
    record { x = r.x; is = r.is; tail_is = r.tail_is; literal = r.literal; leads = r.leads }
