-- From an expression up to the rank that is awaited, and through the frames that end with it.
use Rattle.std.proofs.Common.{◌≡◌, ℕ, zero, suc, ◌+◌, ◌-◌, ◌<◌, ◌≤◌, Bool, true, false, cond, List, [], ◌∷◌, ◌++◌, length, Option, Some, None, refl, sym, ap, subst, arith, inl, inr, nat_lt, ltb-true, ltb-false}
use Rattle.js_ast.specs.declared.expression.Expr.{Expr}
use Rattle.js_ast.specs.declared.expression.Expr.TheVariants as expr
use Rattle.js_ast.specs.declared.statement.Stmt.{Stmt}
use Rattle.js_ast.specs.declared.statement.Arm.{Arm}
use Rattle.js_ast.specs.declared.operators.BinaryOp.{BinaryOp}
use Rattle.js_ast.specs.declared.operators.BinaryOp.TheVariants as op
use Rattle.js_ast.specs.declared.operators.LogicalOp.{LogicalOp}
use Rattle.js_ast.specs.declared.operators.LogicalOp.TheVariants as logic
use Rattle.js_ast.specs.declared.parts.Target.{Target}
use Rattle.js_ast.specs.declared.parts.Link.{Link}
use Rattle.js_grammar.specs.declared.token.Token.{Token}
use Rattle.js_grammar.specs.declared.token.TokenKind.TheVariants as k
use Rattle.js_grammar.specs.Phrases.{Begins, level, Tail, call, step as behind, braces, Context}
use Rattle.js_grammar.specs.Grammar.{conditional_short, IsShort, short_or, short_coalesce, ors_none, ors_more, IsAnd, and_all, bits_none, bits_more, IsChain, chain_all, links_none}
use Rattle.js_reading.specs.declared.frame.Frame.{Frame}
use Rattle.js_reading.specs.declared.frame.Frame.TheVariants as frame
use Rattle.js_reading.specs.declared.frame.Pending.{Pending}
use Rattle.js_reading.specs.declared.frame.Pending.TheVariants as pending
use Rattle.js_reading.specs.declared.frame.Part.{Part}
use Rattle.js_reading.specs.declared.frame.Part.TheVariants as part
use Rattle.js_reading.specs.declared.frame.Below.{Below}
use Rattle.js_reading.specs.declared.frame.Below.TheVariants as below
use Rattle.js_reading.specs.declared.frame.Closed.{Closed}
use Rattle.js_reading.specs.declared.mode.Operand.{Operand}
use Rattle.js_reading.specs.declared.mode.Operand.TheVariants as operand
use Rattle.js_reading.specs.Frames.{◌>>=◌, context, nests, depth, tightness, begin_of, join, close_to, all}
use Rattle.js_reading.specs.Operands.{value_of, tail_of, target_of, is_literal, settled, closed, whole}
use Rattle.js_laws.proofs.Left.{Rank, rank_chain, rank_and, rank_short, rank_whole, order, lower, under, awaits_logical, rank_logical, awaits_pending, awaits, above, above_last, before_part, before_below, deep_pending, deepen, deep, IsAt, IsGoingOn, Holds, UpAt, NotStatic, LeftValue, LeftOperand}

-- ---- options

pub some_is : {A : Type 0} (x y : A) → Some x ≡ Some y → x ≡ y
some_is x y e = cc

pub bind_some : {A B : Type 0} (o : Option A) (f : A → Option B) (y : B) → (o >>= f) ≡ Some y → (x : A) × (o ≡ Some x) × (f x ≡ Some y)
bind_some (Some x) f y e = (x, refl, e)
bind_some None f y e = absurd cc

-- ---- depth

pub above_is : (arms : List Arm) (n : ℕ) → above arms n ≡ length arms + n
above_is [] n = omega arith
above_is (a ∷ arms) n = omega (arith, above_is arms n)

pub above_last_is : (arms : List Arm) (n : ℕ) → above_last arms n ≡ (length arms - 1) + n
above_last_is [] n = omega arith
above_last_is (a ∷ arms) n = omega (arith, above_is arms n)

pub above_more : (arms : List Arm) (a : Arm) (n : ℕ) → above (arms ++ a ∷ []) n ≡ suc (above arms n)
above_more [] a n = refl
above_more (b ∷ arms) a n = ap (λ (x : ℕ). suc x) (above_more arms a n)

pub above_last_more : (arms : List Arm) (a : Arm) (n : ℕ) → above_last (arms ++ a ∷ []) n ≡ above arms n
above_last_more [] a n = refl
above_last_more (b ∷ arms) a n = above_more arms a n

pending_is : (p : Pending) (n : ℕ) → deep_pending p n ≡ nests (frame.Pending p) + n
pending_is (pending.Prefix site o) n = omega arith
pending_is (pending.Binary from first links site o) n = omega arith
pending_is _ n = omega arith

part_is : (p : Part) (n : ℕ) → suc (before_part p n) ≡ nests (frame.Part p) + n
part_is (part.If arms site) n = omega (arith, above_is arms n)
part_is _ n = omega arith

below_is : (b : Below) (n : ℕ) → suc (before_below b n) ≡ nests (frame.Below b) + n
below_is (below.Then arms site test) n = omega (arith, above_is arms n)
below_is (below.Else arms) n = omega (arith, above_last_is arms n)
below_is _ n = omega arith

deepen_is : (f : Frame) (n : ℕ) → deepen f n ≡ nests f + n
deepen_is (frame.Pending p) n = pending_is p n
deepen_is (frame.Step site o) n = omega arith
deepen_is (frame.Bracket b) n = omega arith
deepen_is (frame.Part p) n = part_is p n
deepen_is (frame.Below b) n = below_is b n
deepen_is (frame.List b body) n = omega arith

pub deep_is : (ks : List Frame) → deep ks ≡ depth ks
deep_is [] = refl
deep_is (f ∷ ks) = omega (arith, deepen_is f (deep ks), deep_is ks)

-- ---- ranks

pub level_is : (o : BinaryOp) → level o ≡ suc (under o)
level_is op.Multiply = refl
level_is _ = refl

pub level_fits : (o : BinaryOp) → level o ≤ 8
level_fits op.Multiply = omega arith
level_fits _ = omega arith

abbrev pub IsFine : Rank → Type 0
IsFine (rank_chain l) = l ≤ 8
IsFine _ = Unit {0}

fine_logical : (o : LogicalOp) → IsFine (awaits_logical o)
fine_logical logic.Or = tt
fine_logical _ = omega arith

pub fine_binary : (o : BinaryOp) → under o ≤ 8
fine_binary o = omega (arith, level_is o, level_fits o)

fine_pending : (p : Pending) → IsFine (awaits_pending p)
fine_pending (pending.Prefix site o) = omega arith
fine_pending (pending.Binary from first links site o) = fine_binary o
fine_pending (pending.Logical from first links site o) = fine_logical o
fine_pending _ = tt

pub fine_awaits : (ks : List Frame) → IsFine (awaits ks)
fine_awaits (frame.Pending p ∷ ks) = fine_pending p
fine_awaits _ = tt

pub fine_rank_logical : (o : LogicalOp) → IsFine (rank_logical o)
fine_rank_logical logic.And = tt
fine_rank_logical _ = tt

fine_by : (l m : Rank) (q : Bool) → IsFine l → IsFine m → IsFine (cond q l m)
fine_by l m true f g = f
fine_by l m false f g = g

pub fine_lower : (l m : Rank) → IsFine l → IsFine m → IsFine (lower l m)
fine_lower l m f g = fine_by l m (nat_lt (order l) (order m)) f g

left_by : (l m : Rank) (q : Bool) → nat_lt (order l) (order m) ≡ q → order (cond q l m) ≤ order l
left_by l m true h = omega arith
left_by l m false h = omega (arith, ltb-false)

right_by : (l m : Rank) (q : Bool) → nat_lt (order l) (order m) ≡ q → order (cond q l m) ≤ order m
right_by l m true h = omega (arith, ltb-true)
right_by l m false h = omega arith

pub lower_left : (l m : Rank) → order (lower l m) ≤ order l
lower_left l m = left_by l m (nat_lt (order l) (order m)) refl

pub lower_right : (l m : Rank) → order (lower l m) ≤ order m
lower_right l m = right_by l m (nat_lt (order l) (order m)) refl

module _ (P : ℕ → Type 0) where
  raised : (n l m d : ℕ) (c : Context) (ts : List Token) (e : Expr) (t : Tail) (rest : List Token) → l + n ≡ m → IsChain P l d c ts e t rest → IsChain P m d c ts e t rest
  raised zero l m d c ts e t rest q h = let p : l ≡ m = omega arith in subst (λ (x : ℕ). IsChain P x d c ts e t rest) p h
  raised (suc n) l m d c ts e t rest q h = raised n (suc l) m d c ts e t rest (omega arith) (chain_all l d c ts e t rest [] t rest h (links_none l d c t rest))

  to_chain : (l m d : ℕ) (c : Context) (ts : List Token) (e : Expr) (t : Tail) (rest : List Token) → l ≤ m → IsChain P l d c ts e t rest → IsChain P m d c ts e t rest
  to_chain l m d c ts e t rest q h = raised (m - l) l m d c ts e t rest (omega arith) h

  to_and : (l d : ℕ) (c : Context) (ts : List Token) (e : Expr) (t : Tail) (rest : List Token) → l ≤ 8 → IsChain P l d c ts e t rest → IsAnd P d c ts e t rest
  to_and l d c ts e t rest q h = and_all d c ts e t rest [] t rest (to_chain l 8 d c ts e t rest q h) (bits_none logic.And d c t rest)

  to_short : (d : ℕ) (c : Context) (ts : List Token) (e : Expr) (t : Tail) (rest : List Token) → IsAnd P d c ts e t rest → IsShort P d c ts e t rest
  to_short d c ts e t rest h = short_or d c ts e t rest [] t rest h (ors_none d c t rest)

  pub lift : (l m : Rank) (d : ℕ) (c : Context) (ts : List Token) (e : Expr) (t : Tail) (rest : List Token) → IsFine l → IsFine m → order l ≤ order m → IsAt P l d c ts e t rest → IsAt P m d c ts e t rest
  lift (rank_chain l) (rank_chain m) d c ts e t rest f g q h = to_chain l m d c ts e t rest q h
  lift (rank_chain l) rank_and d c ts e t rest f g q h = to_and l d c ts e t rest f h
  lift (rank_chain l) rank_short d c ts e t rest f g q h = to_short d c ts e t rest (to_and l d c ts e t rest f h)
  lift (rank_chain l) rank_whole d c ts e t rest f g q h = conditional_short d c ts e t rest (to_short d c ts e t rest (to_and l d c ts e t rest f h))
  lift rank_and (rank_chain m) d c ts e t rest f g q h = absurd (omega arith)
  lift rank_and rank_and d c ts e t rest f g q h = h
  lift rank_and rank_short d c ts e t rest f g q h = to_short d c ts e t rest h
  lift rank_and rank_whole d c ts e t rest f g q h = conditional_short d c ts e t rest (to_short d c ts e t rest h)
  lift rank_short (rank_chain m) d c ts e t rest f g q h = absurd (omega arith)
  lift rank_short rank_and d c ts e t rest f g q h = absurd (omega arith)
  lift rank_short rank_short d c ts e t rest f g q h = h
  lift rank_short rank_whole d c ts e t rest f g q h = conditional_short d c ts e t rest h
  lift rank_whole (rank_chain m) d c ts e t rest f g q h = absurd (omega arith)
  lift rank_whole rank_and d c ts e t rest f g q h = absurd (omega arith)
  lift rank_whole rank_short d c ts e t rest f g q h = absurd (omega arith)
  lift rank_whole rank_whole d c ts e t rest f g q h = h

  lowered_by : (l m : Rank) (d : ℕ) (c : Context) (ts : List Token) (e : Expr) (t : Tail) (rest : List Token) (q : Bool) → nat_lt (order l) (order m) ≡ q → IsFine l → IsFine m → order l ≤ order m → IsAt P l d c ts e t rest → IsAt P (cond q l m) d c ts e t rest
  lowered_by l m d c ts e t rest true k f g q h = h
  lowered_by l m d c ts e t rest false k f g q h = lift l m d c ts e t rest f g q h

  pub lowered : (l m : Rank) (d : ℕ) (c : Context) (ts : List Token) (e : Expr) (t : Tail) (rest : List Token) → IsFine l → IsFine m → order l ≤ order m → IsAt P l d c ts e t rest → IsAt P (lower l m) d c ts e t rest
  lowered l m d c ts e t rest f g q h = lowered_by l m d c ts e t rest (nat_lt (order l) (order m)) refl f g q h

  pub going_none : (o : LogicalOp) (d : ℕ) (c : Context) (t : Tail) (ts : List Token) → IsGoingOn P o d c t ts [] t ts
  going_none logic.And d c t ts = bits_none logic.And d c t ts
  going_none logic.Or d c t ts = ors_none d c t ts
  going_none logic.Coalesce d c t ts = bits_none logic.Coalesce d c t ts

  pub going_more : (o : LogicalOp) (d : ℕ) (c : Context) (t : Tail) (ts : List Token) (site : ℕ) (from : List Token) (b : Expr) (u : Tail) (mid : List Token) (ls : List (Link LogicalOp Expr)) (v : Tail) (rest : List Token) → Begins ts (k.Logical o) site from → IsAt P (awaits_logical o) d c from b u mid → IsGoingOn P o d c u mid ls v rest → IsGoingOn P o d c t ts (record { site = site; op = o; right = b } ∷ ls) v rest
  going_more logic.And d c t ts site from b u mid ls v rest m h g = bits_more logic.And d c t ts site from b u mid ls v rest m h g
  going_more logic.Or d c t ts site from b u mid ls v rest m h g = ors_more d c t ts site from b u mid ls v rest m h g
  going_more logic.Coalesce d c t ts site from b u mid ls v rest m h g = bits_more logic.Coalesce d c t ts site from b u mid ls v rest m h g

  pub gone_on : (o : LogicalOp) (d : ℕ) (c : Context) (ts : List Token) (e : Expr) (t : Tail) (mid : List Token) (l : Link LogicalOp Expr) (ls : List (Link LogicalOp Expr)) (u : Tail) (rest : List Token) → IsAt P (awaits_logical o) d c ts e t mid → IsGoingOn P o d c t mid (l ∷ ls) u rest → IsAt P (rank_logical o) d c ts (expr.Logical e (l ∷ ls)) u rest
  gone_on logic.And d c ts e t mid l ls u rest h g = and_all d c ts e t mid (l ∷ ls) u rest h g
  gone_on logic.Or d c ts e t mid l ls u rest h g = short_or d c ts e t mid (l ∷ ls) u rest h g
  gone_on logic.Coalesce d c ts e t mid l ls u rest h g = short_coalesce d c ts e t mid (l ∷ ls) u rest h g (omega arith)

-- ---- through the frames

abbrev pub Tight : ℕ → List Frame → Type 0
Tight n (frame.Pending p ∷ ks) = nat_lt (tightness p) n ≡ false
Tight n _ = Unit {0}

tight_by : (n from : ℕ) (p : Pending) (e : Expr) (ks : List Frame) (q : Bool) → nat_lt (tightness p) n ≡ q → (c : Closed) → Tight n c.frames → Tight n (cond q c (record { start = from; value = e; frames = frame.Pending p ∷ ks })).frames
tight_by n from p e ks true h c g = g
tight_by n from p e ks false h c g = h

pub close_tight : (n from : ℕ) (e : Expr) (ks : List Frame) → Tight n (close_to n from e ks).frames
close_tight n from e [] = tt
close_tight n from e (frame.Pending p ∷ ks) = tight_by n from p e ks (nat_lt (tightness p) n) refl (close_to n (begin_of p) (join p e) ks) (close_tight n (begin_of p) (join p e) ks)
close_tight n from e (f ∷ ks) = tt

module _ (P : ℕ → Type 0) (tree : List Stmt) where
  pub up_here : (ks : List Frame) (from : ℕ) (l : Rank) (e : Expr) (t : Tail) (ts : List Token) → IsFine l → order l ≤ order (awaits ks) → Holds P tree ks e t ts → UpAt P tree ks from l e t ts
  up_here ks from l e t ts f q h = (e, t, ts, (λ whole s i. lift P l (awaits ks) (deep ks) (context ks) whole e t ts f (fine_awaits ks) q i), h)

  pub up_unary : (ks : List Frame) (from : ℕ) (e : Expr) (t : Tail) (ts : List Token) → Holds P tree ks e t ts → UpAt P tree ks from (rank_chain 0) e t ts
  up_unary ks from e t ts h = up_here ks from (rank_chain 0) e t ts (omega arith) (omega arith) h

  pub up_lift : (ks : List Frame) (from : ℕ) (l m : Rank) (e : Expr) (t : Tail) (ts : List Token) → IsFine l → IsFine m → order l ≤ order m → UpAt P tree ks from m e t ts → UpAt P tree ks from l e t ts
  up_lift ks from l m e t ts f g q u = (u.0, u.1, u.2, (λ whole s i. u.3 whole s (lift P l m (deep ks) (context ks) whole e t ts f g q i)), u.4)

  pub up_lower : (ks : List Frame) (from : ℕ) (l : Rank) (e : Expr) (t : Tail) (ts : List Token) → IsFine l → Holds P tree ks e t ts → UpAt P tree ks from (lower l (awaits ks)) e t ts
  up_lower ks from l e t ts f h = up_here ks from (lower l (awaits ks)) e t ts (fine_lower l (awaits ks) f (fine_awaits ks)) (lower_right l (awaits ks)) h

  -- all that waits ends
  pub joins : (p : Pending) (ks : List Frame) (e : Expr) (t : Tail) (ts : List Token) → Holds P tree ks (join p e) t ts → Holds P tree (frame.Pending p ∷ ks) e t ts
  joins (pending.Prefix site o) ks e t ts h = up_unary ks site (expr.Unary site o e) t ts h
  joins (pending.Binary from first links site o) ks e t ts h =
      ([], t, ts, links_none (under o) (deep ks) (context ks) t ts, up_lower ks from (rank_chain (suc (under o))) (join (pending.Binary from first links site o) e) t ts (omega (arith, level_is o, level_fits o)) h)
  joins (pending.Logical from first links site o) ks e t ts h =
      ([], t, ts, going_none P o (deep ks) (context ks) t ts, up_lower ks from (rank_logical o) (join (pending.Logical from first links site o) e) t ts (fine_rank_logical o) h)
  joins (pending.Conditional from site test a) ks e t ts h = h
  joins (pending.Assign from site o x) ks e t ts h = h
  joins (pending.Arrow from names) ks e t ts h = h

  closing_by : (n from : ℕ) (p : Pending) (e : Expr) (ks : List Frame) (t : Tail) (ts : List Token) (q : Bool) (c : Closed) → Holds P tree (cond q c (record { start = from; value = e; frames = frame.Pending p ∷ ks })).frames (cond q c (record { start = from; value = e; frames = frame.Pending p ∷ ks })).value t ts → (Holds P tree c.frames c.value t ts → Holds P tree ks (join p e) t ts) → Holds P tree (frame.Pending p ∷ ks) e t ts
  closing_by n from p e ks t ts true c h ih = joins p ks e t ts (ih h)
  closing_by n from p e ks t ts false c h ih = h

  pub closing_all : (n from : ℕ) (e : Expr) (ks : List Frame) (t : Tail) (ts : List Token) → Holds P tree (close_to n from e ks).frames (close_to n from e ks).value t ts → Holds P tree ks e t ts
  closing_all n from e [] t ts h = h
  closing_all n from e (frame.Pending p ∷ ks) t ts h = closing_by n from p e ks t ts (nat_lt (tightness p) n) (close_to n (begin_of p) (join p e) ks) h (λ g. closing_all n (begin_of p) (join p e) ks t ts g)
  closing_all n from e (f ∷ ks) t ts h = h

  -- what is tighter than a level ends
  rises : (n : ℕ) (m : Rank) (p : Pending) (ks : List Frame) (e : Expr) (t : Tail) (ts : List Token) → n ≤ 11 → tightness p < n → ((l : Rank) → IsFine l → order l ≤ tightness p → order l ≤ order (awaits ks) → UpAt P tree ks (begin_of p) l (join p e) t ts) → Holds P tree (frame.Pending p ∷ ks) e t ts
  rises n m (pending.Prefix site o) ks e t ts small less ih = ih (rank_chain 0) (omega arith) (omega arith) (omega arith)
  rises n m (pending.Binary from first links site o) ks e t ts small less ih =
      let r : Rank = rank_chain (suc (under o)) in
      ([], t, ts, links_none (under o) (deep ks) (context ks) t ts, ih (lower (rank_chain (suc (under o))) (awaits ks)) (fine_lower (rank_chain (suc (under o))) (awaits ks) (omega (arith, level_is o, level_fits o)) (fine_awaits ks)) (omega (arith, level_is o, lower_left (rank_chain (suc (under o))) (awaits ks))) (lower_right (rank_chain (suc (under o))) (awaits ks)))
  rises n m (pending.Logical from first links site logic.And) ks e t ts small less ih =
      ([], t, ts, going_none P logic.And (deep ks) (context ks) t ts, ih (lower rank_and (awaits ks)) (fine_lower rank_and (awaits ks) tt (fine_awaits ks)) (lower_left rank_and (awaits ks)) (lower_right rank_and (awaits ks)))
  rises n m (pending.Logical from first links site o) ks e t ts small less ih =
      ([], t, ts, going_none P o (deep ks) (context ks) t ts, ih (lower rank_short (awaits ks)) (fine_lower rank_short (awaits ks) tt (fine_awaits ks)) (lower_left rank_short (awaits ks)) (lower_right rank_short (awaits ks)))
  rises n m _ ks e t ts small less ih = absurd (omega arith)

  abbrev pub ClosedUp : Closed → Rank → Tail → List Token → Type 0
  ClosedUp c m t ts = UpAt P tree c.frames c.start m c.value t ts

  closing_up : (n from : ℕ) (m : Rank) (p : Pending) (e : Expr) (ks : List Frame) (t : Tail) (ts : List Token) (l : Rank) (q : Bool) (c : Closed) → nat_lt (tightness p) n ≡ q → n ≤ 11 → IsFine m → suc (order m) ≡ n → IsFine l → order l ≤ order m → order l ≤ order (awaits_pending p) → ClosedUp (cond q c (record { start = from; value = e; frames = frame.Pending p ∷ ks })) m t ts → ((r : Rank) → IsFine r → order r ≤ order m → order r ≤ order (awaits ks) → ClosedUp c m t ts → UpAt P tree ks (begin_of p) r (join p e) t ts) → UpAt P tree (frame.Pending p ∷ ks) from l e t ts
  closing_up n from m p e ks t ts l true c k small f eq g lm la u ih =
      let less : tightness p < n = ltb-true (tightness p) n k in
      up_here (frame.Pending p ∷ ks) from l e t ts g la (rises n m p ks e t ts small less (λ r fr rp ra. ih r fr (omega arith) ra u))
  closing_up n from m p e ks t ts l false c k small f eq g lm la u ih = up_lift (frame.Pending p ∷ ks) from l m e t ts g f lm u

  pub closing_to : (n from : ℕ) (m : Rank) (e : Expr) (ks : List Frame) (t : Tail) (ts : List Token) (l : Rank) → n ≤ 11 → IsFine m → suc (order m) ≡ n → IsFine l → order l ≤ order m → order l ≤ order (awaits ks) → ClosedUp (close_to n from e ks) m t ts → UpAt P tree ks from l e t ts
  closing_to n from m e [] t ts l small f eq g lm la u = up_lift [] from l m e t ts g f lm u
  closing_to n from m e (frame.Pending p ∷ ks) t ts l small f eq g lm la u =
      closing_up n from m p e ks t ts l (nat_lt (tightness p) n) (close_to n (begin_of p) (join p e) ks) refl small f eq g lm la u (λ r fr rm ra v. closing_to n (begin_of p) m (join p e) ks t ts r small f eq fr rm ra v)
  closing_to n from m e (h ∷ ks) t ts l small f eq g lm la u = up_lift (h ∷ ks) from l m e t ts g f lm u

  -- ---- the operand that ends with them

  value_holds : (x : Operand) (ks : List Frame) (from : ℕ) (ts : List Token) → (is_literal x ≡ true → NotStatic P tree ks ts) → Holds P tree ks (value_of x) (tail_of x) ts → LeftValue P tree from x ks ts
  value_holds (operand.Literal e) ks from ts s h = inl (s refl, inl (up_unary ks from e call ts h))
  value_holds (operand.Stepped e) ks from ts s h = up_unary ks from e behind ts h
  value_holds (operand.Braced e) ks from ts s h = h
  value_holds x ks from ts s h = inl (up_unary ks from (value_of x) call ts h)

  value_up : (x : Operand) (ks : List Frame) (from : ℕ) (ts : List Token) → (tail_of x ≡ braces → ⊥) → NotStatic P tree ks ts → UpAt P tree ks from (rank_chain 0) (value_of x) (tail_of x) ts → LeftValue P tree from x ks ts
  value_up (operand.Literal e) ks from ts b s u = inl (s, inl u)
  value_up (operand.Stepped e) ks from ts b s u = u
  value_up (operand.Braced e) ks from ts b s u = absurd (b refl)
  value_up x ks from ts b s u = inl u

  target_tail : (x : Operand) (y : Target Expr) → target_of x ≡ Some y → tail_of x ≡ call
  target_tail (operand.Stepped e) y h = absurd cc
  target_tail (operand.Braced e) y h = absurd cc
  target_tail _ y h = refl

  settled_holds : (from : ℕ) (x : Operand) (ks : List Frame) (c : Closed) (ts : List Token) → settled from x ks ≡ Some c → (is_literal x ≡ true → NotStatic P tree ks ts) → Holds P tree c.frames c.value (tail_of x) ts → LeftOperand P tree from x ks ts
  settled_holds from x (frame.Step site o ∷ ks) c ts e s h =
      let d = bind_some (target_of x) (λ t. Some (record { start = site; value = expr.Step site site o true t; frames = ks })) c e in
      let i : Holds P tree ks (expr.Step site site o true d.0) (tail_of x) ts = subst (λ (z : Closed). Holds P tree z.frames z.value (tail_of x) ts) (sym (some_is (record { start = site; value = expr.Step site site o true d.0; frames = ks }) c d.2)) h in
      let j : Holds P tree ks (expr.Step site site o true d.0) call ts = subst (λ (z : Tail). Holds P tree ks (expr.Step site site o true d.0) z ts) (target_tail x d.0 d.1) i in
      inr (inl (d.0, d.1, inr (inr (up_unary ks site (expr.Step site site o true d.0) call ts j))))
  settled_holds from x ks c ts e s h =
      inl (value_holds x ks from ts s (subst (λ (z : Closed). Holds P tree z.frames z.value (tail_of x) ts) (sym (some_is (record { start = from; value = value_of x; frames = ks }) c e)) h))

  settled_up : (from : ℕ) (x : Operand) (ks : List Frame) (c : Closed) (ts : List Token) → settled from x ks ≡ Some c → (tail_of x ≡ braces → ⊥) → NotStatic P tree ks ts → UpAt P tree c.frames c.start (rank_chain 0) c.value (tail_of x) ts → LeftOperand P tree from x ks ts
  settled_up from x (frame.Step site o ∷ ks) c ts e b s u =
      let d = bind_some (target_of x) (λ t. Some (record { start = site; value = expr.Step site site o true t; frames = ks })) c e in
      let i : UpAt P tree ks site (rank_chain 0) (expr.Step site site o true d.0) (tail_of x) ts = subst (λ (z : Closed). UpAt P tree z.frames z.start (rank_chain 0) z.value (tail_of x) ts) (sym (some_is (record { start = site; value = expr.Step site site o true d.0; frames = ks }) c d.2)) u in
      let j : UpAt P tree ks site (rank_chain 0) (expr.Step site site o true d.0) call ts = subst (λ (z : Tail). UpAt P tree ks site (rank_chain 0) (expr.Step site site o true d.0) z ts) (target_tail x d.0 d.1) i in
      inr (inl (d.0, d.1, inr (inr j)))
  settled_up from x ks c ts e b s u =
      inl (value_up x ks from ts b s (subst (λ (z : Closed). UpAt P tree z.frames z.start (rank_chain 0) z.value (tail_of x) ts) (sym (some_is (record { start = from; value = value_of x; frames = ks }) c e)) u))

  -- the expression ends with the operand
  pub whole_left : (from : ℕ) (x : Operand) (ks : List Frame) (c : Closed) (ts : List Token) → whole from x ks ≡ Some c → (is_literal x ≡ true → NotStatic P tree ks ts) → Holds P tree c.frames c.value (tail_of x) ts → LeftOperand P tree from x ks ts
  whole_left from x ks c ts e s h =
      let d = bind_some (settled from x ks) (λ (z : Closed). Some (close_to all z.start z.value z.frames)) c e in
      let i : Holds P tree (close_to all d.0.start d.0.value d.0.frames).frames (close_to all d.0.start d.0.value d.0.frames).value (tail_of x) ts = subst (λ (z : Closed). Holds P tree z.frames z.value (tail_of x) ts) (sym (some_is (close_to all d.0.start d.0.value d.0.frames) c d.2)) h in
      settled_holds from x ks d.0 ts d.1 s (closing_all all d.0.start d.0.value d.0.frames (tail_of x) ts i)

  -- the operand and what is tighter than a level
  pub closed_left : (n : ℕ) (m : Rank) (from : ℕ) (x : Operand) (ks : List Frame) (c : Closed) (ts : List Token) → closed n from x ks ≡ Some c → n ≤ 11 → IsFine m → suc (order m) ≡ n → (tail_of x ≡ braces → ⊥) → NotStatic P tree ks ts → ClosedUp c m (tail_of x) ts → LeftOperand P tree from x ks ts
  closed_left n m from x ks c ts e small f eq b s u =
      let d = bind_some (settled from x ks) (λ (z : Closed). Some (close_to n z.start z.value z.frames)) c e in
      let i : ClosedUp (close_to n d.0.start d.0.value d.0.frames) m (tail_of x) ts = subst (λ (z : Closed). ClosedUp z m (tail_of x) ts) (sym (some_is (close_to n d.0.start d.0.value d.0.frames) c d.2)) u in
      settled_up from x ks d.0 ts d.1 b s (closing_to n d.0.start m d.0.value d.0.frames (tail_of x) ts (rank_chain 0) small f eq (omega arith) (omega arith) (omega arith) i)

  pub closed_tight : (n from : ℕ) (x : Operand) (ks : List Frame) (c : Closed) → closed n from x ks ≡ Some c → Tight n c.frames
  closed_tight n from x ks c e =
      let d = bind_some (settled from x ks) (λ (z : Closed). Some (close_to n z.start z.value z.frames)) c e in
      subst (λ (z : Closed). Tight n z.frames) (some_is (close_to n d.0.start d.0.value d.0.frames) c d.2) (close_tight n d.0.start d.0.value d.0.frames)
