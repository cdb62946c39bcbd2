-- A step backwards behind an operand: the tokens that go on with the expression.
use Rattle.std.proofs.Common.{◌≡◌, ℕ, suc, ◌≤◌, Bool, true, false, cond, ◌==◌, List, [], ◌∷◌, ◌++◌, Option, Some, None, refl, sym, ap, subst, ◌∙◌, append_assoc, arith, inl, inr, nat_lt, ltb-false}
use Rattle.std.specs.Prelude.{◌⊎◌}
use Rattle.std.proofs.lemmas.List.{append-nil}
use Rattle.std.proofs.lemmas.Bool.{eqb-true, eqb-false}
use Rattle.js_ast.specs.declared.expression.Expr.{Expr}
use Rattle.js_ast.specs.declared.expression.Expr.TheVariants as expr
use Rattle.js_ast.specs.declared.statement.Stmt.{Stmt}
use Rattle.js_ast.specs.declared.operators.BinaryOp.{BinaryOp}
use Rattle.js_ast.specs.declared.operators.LogicalOp.{LogicalOp}
use Rattle.js_ast.specs.declared.operators.LogicalOp.TheVariants as logic
use Rattle.js_ast.specs.declared.operators.StepOp.{StepOp}
use Rattle.js_ast.specs.declared.parts.Identifier.{Identifier}
use Rattle.js_ast.specs.declared.parts.Access.{Access}
use Rattle.js_ast.specs.declared.parts.Access.TheVariants as access
use Rattle.js_ast.specs.declared.parts.Suffix.{Suffix}
use Rattle.js_ast.specs.declared.parts.Suffix.TheVariants as suffix
use Rattle.js_ast.specs.declared.parts.Target.{Target}
use Rattle.js_ast.specs.declared.parts.Target.TheVariants as target
use Rattle.js_ast.specs.declared.parts.Link.{Link}
use Rattle.js_grammar.specs.declared.token.Token.{Token}
use Rattle.js_grammar.specs.declared.token.TokenKind.{TokenKind}
use Rattle.js_grammar.specs.declared.token.TokenKind.TheVariants as k
use Rattle.js_grammar.specs.Phrases.{Begins, level, Tail, call, step as behind, braces, continues, Context}
use Rattle.js_grammar.specs.Grammar.{call_of}
use Rattle.js_grammar.specs.Grammar.{IsAssign, IsConditional, conditional_both, IsChain, chain_all, IsLinks, links_more, IsAccess, access_property, access_static, access_index, suffixes_none, suffixes_access, suffixes_call, IsArguments, arguments_none, arguments_last, arguments_more}
use Rattle.js_reading.specs.declared.frame.Frame.{Frame}
use Rattle.js_reading.specs.declared.frame.Frame.TheVariants as frame
use Rattle.js_reading.specs.declared.frame.Pending.TheVariants as pending
use Rattle.js_reading.specs.declared.frame.Bracket.TheVariants as bracket
use Rattle.js_reading.specs.declared.frame.Closed.{Closed}
use Rattle.js_reading.specs.declared.mode.Operand.{Operand}
use Rattle.js_reading.specs.declared.mode.Operand.TheVariants as operand
use Rattle.js_reading.specs.declared.mode.Parser.{Parser}
use Rattle.js_reading.specs.Frames.{◌>>=◌, when, context, conditional, takes_assign, takes_unary}
use Rattle.js_reading.specs.Operands.{reached, wants, value_of, tail_of, target_of, parameter_of, first_of, suffixes_of, closed, opens_binary, place_binary, on_binary, level_of, place_logical, on_logical, on_question, on_assign, to_arrow, on_arrow, on_step, on_dot, on_round, on_square}
use Rattle.js_reading.specs.Reading.{continues_by}
use Rattle.js_laws.proofs.Left.{Rank, rank_chain, rank_short, rank_whole, order, lower, one_less, under, awaits_logical, rank_logical, awaits, deep, tok, is_close_square, IsAt, IsGoingOn, lead, Closing, AccessIn, AfterArgument, SetsIn, BehindIn, Holds, Targets, UpAt, ArrowIn, LeftWant, NotStatic, LeftCall, LeftOperand, Left, Next}
use Rattle.js_laws.proofs.ThroughFrames.{some_is, level_is, level_fits, IsFine, fine_binary, fine_awaits, fine_rank_logical, lowered, going_more, gone_on, Tight, up_here, closed_left, closed_tight}

pub fronted : (kind : TokenKind) (site : ℕ) (line : Bool) (ts : List Token) → Begins (tok kind site line ∷ ts) kind site ts
fronted kind site line ts = record { line = line; begins = refl }

pub not_braces : (t : Tail) (kind : TokenKind) → continues t kind ≡ true → t ≡ braces → ⊥
not_braces t kind h e = let g : continues braces kind ≡ true = subst (λ (z : Tail). continues z kind ≡ true) e h in cc

dot_call : (t : Tail) → continues t k.Dot ≡ true → t ≡ call
dot_call call h = refl
dot_call _ h = absurd cc

round_call : (t : Tail) → continues t k.OpenRound ≡ true → t ≡ call
round_call call h = refl
round_call _ h = absurd cc

square_call : (t : Tail) → continues t k.OpenSquare ≡ true → t ≡ call
square_call call h = refl
square_call _ h = absurd cc

eight_logical : (o : LogicalOp) → 8 ≤ order (awaits_logical o)
eight_logical logic.Or = omega arith
eight_logical _ = omega arith

rank_logical_small : (o : LogicalOp) → order (rank_logical o) ≤ 11
rank_logical_small logic.And = omega arith
rank_logical_small _ = omega arith

nine_level : (o : LogicalOp) → 9 ≤ level_of o
nine_level logic.Or = omega arith
nine_level _ = omega arith

level_rank : (o : LogicalOp) → suc (order (awaits_logical o)) ≡ level_of o
level_rank logic.Or = refl
level_rank _ = refl

level_small : (o : LogicalOp) → level_of o ≤ 11
level_small logic.Or = omega arith
level_small _ = omega arith

fine_awaited : (o : LogicalOp) → IsFine (awaits_logical o)
fine_awaited logic.Or = tt
fine_awaited _ = omega arith

module _ (P : ℕ → Type 0) (tree : List Stmt) where
  pub next_bind : {A : Type 0} (o : Option A) (f : A → Option Parser) (ts : List Token) → Next P tree (o >>= f) ts → (x : A) × (o ≡ Some x) × Next P tree (f x) ts
  next_bind (Some x) f ts h = (x, refl, h)
  next_bind None f ts h = absurd h

  pub next_when : (b : Bool) (o : Option Parser) (ts : List Token) → Next P tree (when b o) ts → (b ≡ true) × Next P tree o ts
  next_when true o ts h = (refl, h)
  next_when false o ts h = absurd h

  pub next_unless : (b : Bool) (o : Option Parser) (ts : List Token) → Next P tree (cond b None o) ts → (b ≡ false) × Next P tree o ts
  next_unless true o ts h = absurd h
  next_unless false o ts h = (refl, h)

  pub not_static : (ks : List Frame) (kind : TokenKind) (site : ℕ) (line : Bool) (ts : List Token) → is_close_square kind ≡ false → NotStatic P tree ks (tok kind site line ∷ ts)
  not_static (frame.Bracket (bracket.Index from first sfx site') ∷ ks) kind site line ts h = h
  not_static _ kind site line ts h = tt

  pub primary_left : (from : ℕ) (e : Expr) (ks : List Frame) (ts : List Token) → LeftOperand P tree from (operand.Primary e) ks ts → LeftCall P tree ks from e e [] ts
  primary_left from e ks ts h = elim h [ inl c ↦ c | inr (inl x) ↦ absurd (let d : _ = x.1 in cc) | inr (inr (inl x)) ↦ absurd (let d : _ = x.1 in cc) | inr (inr (inr x)) ↦ absurd x ]

  pub called_left : (from : ℕ) (first : Expr) (sfx : List (Suffix Expr)) (ks : List Frame) (ts : List Token) → LeftOperand P tree from (operand.Call first sfx) ks ts → LeftCall P tree ks from (expr.Call first sfx) first sfx ts
  called_left from first sfx ks ts h = elim h [ inl c ↦ c | inr (inl x) ↦ absurd (let d : _ = x.1 in cc) | inr (inr (inl x)) ↦ absurd (let d : _ = x.1 in cc) | inr (inr (inr x)) ↦ absurd x ]

  pub stepped_left : (from : ℕ) (e : Expr) (ks : List Frame) (ts : List Token) → LeftOperand P tree from (operand.Stepped e) ks ts → UpAt P tree ks from (rank_chain 0) e behind ts
  stepped_left from e ks ts h = elim h [ inl c ↦ c | inr (inl x) ↦ absurd (let d : _ = x.1 in cc) | inr (inr (inl x)) ↦ absurd (let d : _ = x.1 in cc) | inr (inr (inr x)) ↦ absurd x ]

  pub braced_left : (from : ℕ) (e : Expr) (ks : List Frame) (ts : List Token) → LeftOperand P tree from (operand.Braced e) ks ts → Holds P tree ks e braces ts
  braced_left from e ks ts h = elim h [ inl c ↦ c | inr (inl x) ↦ absurd (let d : _ = x.1 in cc) | inr (inr (inl x)) ↦ absurd (let d : _ = x.1 in cc) | inr (inr (inr x)) ↦ absurd x ]

  pub accessed_left : (from : ℕ) (first : Expr) (sfx : List (Suffix Expr)) (a : Access Expr) (ks : List Frame) (ts : List Token) → LeftOperand P tree from (operand.Access first sfx a) ks ts → AccessIn P tree ks (lead P tree ks) from first sfx a ts
  accessed_left from first sfx a ks ts h =
      elim h [
        | inl c ↦ inl c
        | inr (inl x) ↦ inr (subst (λ (z : Target Expr). Targets P tree ks from z ts) (sym (some_is (target.Access (call_of first sfx) a) x.0 x.1)) x.2)
        | inr (inr (inl x)) ↦ absurd (let d : _ = x.1 in cc)
        | inr (inr (inr x)) ↦ absurd x
      ]

  -- ---- operators

  binary_up : (o : BinaryOp) (site from : ℕ) (e : Expr) (t : Tail) (ks : List Frame) (line : Bool) (ts : List Token) (b : Expr) (u : Tail) (mid : List Token) (ls : List (Link BinaryOp Expr)) (v : Tail) (rest : List Token) → suc (under o) ≤ order (awaits ks) → IsChain P (under o) (deep ks) (context ks) ts b u mid → IsLinks P (under o) (deep ks) (context ks) u mid ls v rest → UpAt P tree ks from (lower (rank_chain (suc (under o))) (awaits ks)) (expr.Binary e (record { site = site; op = o; right = b } ∷ ls)) v rest → UpAt P tree ks from (rank_chain (under o)) e t (tok (k.Binary o) site line ∷ ts)
  binary_up o site from e t ks line ts b u mid ls v rest q hb hl up =
      let l : Link BinaryOp Expr = record { site = site; op = o; right = b } in
      let hall : List Token = tok (k.Binary o) site line ∷ ts in (
        up.0,
        up.1,
        up.2,
        (λ w s i. up.3 w s (lowered P (rank_chain (suc (under o))) (awaits ks) (deep ks) (context ks) w (expr.Binary e (l ∷ ls)) v rest (omega (arith, level_is o, level_fits o)) (fine_awaits ks) q
            (chain_all (under o) (deep ks) (context ks) w e t hall (l ∷ ls) v rest i (links_more (under o) (deep ks) (context ks) t hall o site ts b u mid ls v rest (fronted (k.Binary o) site line ts) (level_is o) hb hl)))),
        up.4,
      )

  opens_binary_left : (o : BinaryOp) (site from : ℕ) (e : Expr) (t : Tail) (ks : List Frame) (line : Bool) (ts : List Token) → suc (under o) ≤ order (awaits ks) → LeftWant P tree (frame.Pending (pending.Binary from e [] site o) ∷ ks) ts → UpAt P tree ks from (rank_chain (under o)) e t (tok (k.Binary o) site line ∷ ts)
  opens_binary_left o site from e t ks line ts q h = elim h [ inl w ↦ binary_up o site from e t ks line ts w.1.0 w.1.1 w.1.2 w.1.4.0 w.1.4.1 w.1.4.2 q w.1.3 w.1.4.3 w.1.4.4 | inr x ↦ absurd x ]

  extends_binary : (o p : BinaryOp) (site site' start' : ℕ) (first : Expr) (links : List (Link BinaryOp Expr)) (from : ℕ) (e : Expr) (t : Tail) (ks : List Frame) (line : Bool) (ts : List Token) → level p ≡ level o → LeftWant P tree (frame.Pending (pending.Binary start' first (links ++ record { site = site'; op = p; right = e } ∷ []) site o) ∷ ks) ts → UpAt P tree (frame.Pending (pending.Binary start' first links site' p) ∷ ks) from (rank_chain (under o)) e t (tok (k.Binary o) site line ∷ ts)
  extends_binary o p site site' start' first links from e t ks line ts eq h =
      let g : under o ≡ under p = ap one_less (sym eq) in
      let fits : level o ≡ suc (under p) = sym eq ∙ level_is p in
      let a : Link BinaryOp Expr = record { site = site'; op = p; right = e } in
      let hall : List Token = tok (k.Binary o) site line ∷ ts in
      elim h [
        | inl w ↦
            (let l : Link BinaryOp Expr = record { site = site; op = o; right = w.1.0 } in
            let ls : List (Link BinaryOp Expr) = w.1.4.0 in
            let v : Tail = w.1.4.1 in
            let rest : List Token = w.1.4.2 in
            let hb : IsChain P (under p) (deep ks) (context ks) ts w.1.0 w.1.1 w.1.2 = subst (λ (x : ℕ). IsChain P x (deep ks) (context ks) ts w.1.0 w.1.1 w.1.2) g w.1.3 in
            let hl : IsLinks P (under p) (deep ks) (context ks) w.1.1 w.1.2 ls v rest = subst (λ (x : ℕ). IsLinks P x (deep ks) (context ks) w.1.1 w.1.2 ls v rest) g w.1.4.3 in
            let u1 : UpAt P tree ks start' (lower (rank_chain (suc (under p))) (awaits ks)) (expr.Binary first ((links ++ a ∷ []) ++ l ∷ ls)) v rest = subst (λ (x : ℕ). UpAt P tree ks start' (lower (rank_chain (suc x)) (awaits ks)) (expr.Binary first ((links ++ a ∷ []) ++ l ∷ ls)) v rest) g w.1.4.4 in
            let u2 : UpAt P tree ks start' (lower (rank_chain (suc (under p))) (awaits ks)) (expr.Binary first (links ++ a ∷ (l ∷ ls))) v rest = subst (λ (x : List (Link BinaryOp Expr)). UpAt P tree ks start' (lower (rank_chain (suc (under p))) (awaits ks)) (expr.Binary first x) v rest) (append_assoc links (a ∷ []) (l ∷ ls)) u1 in
            up_here P tree (frame.Pending (pending.Binary start' first links site' p) ∷ ks) from (rank_chain (under o)) e t hall (fine_binary o) (omega (arith, g))
            (l ∷ ls, v, rest, links_more (under p) (deep ks) (context ks) t hall o site ts w.1.0 w.1.1 w.1.2 ls v rest (fronted (k.Binary o) site line ts) fits hb hl, u2))
        | inr x ↦ absurd x
      ]

  placed_by : (o p : BinaryOp) (site site' start' : ℕ) (first : Expr) (links : List (Link BinaryOp Expr)) (from : ℕ) (e : Expr) (t : Tail) (ks : List Frame) (line : Bool) (ts : List Token) (q : Bool) → (level p == level o) ≡ q → nat_lt (level p) (level o) ≡ false → Left P tree (cond q (wants (frame.Pending (pending.Binary start' first (links ++ record { site = site'; op = p; right = e } ∷ []) site o)) ks) (opens_binary o site from e (frame.Pending (pending.Binary start' first links site' p) ∷ ks))) ts → UpAt P tree (frame.Pending (pending.Binary start' first links site' p) ∷ ks) from (rank_chain (under o)) e t (tok (k.Binary o) site line ∷ ts)
  placed_by o p site site' start' first links from e t ks line ts true eq tight h = extends_binary o p site site' start' first links from e t ks line ts (eqb-true (level p) (level o) eq) h
  placed_by o p site site' start' first links from e t ks line ts false eq tight h =
      let differ : level p ≡ level o → ⊥ = eqb-false (level p) (level o) eq in
      let most : level o ≤ level p = ltb-false (level p) (level o) tight in
      opens_binary_left o site from e t (frame.Pending (pending.Binary start' first links site' p) ∷ ks) line ts (omega (arith, level_is o, level_is p)) h

  placed_binary : (o : BinaryOp) (site from : ℕ) (e : Expr) (t : Tail) (ks : List Frame) (line : Bool) (ts : List Token) → Tight (level o) ks → Left P tree (place_binary o site from e ks) ts → UpAt P tree ks from (rank_chain (under o)) e t (tok (k.Binary o) site line ∷ ts)
  placed_binary o site from e t (frame.Pending (pending.Binary start' first links site' p) ∷ ks) line ts tight h = placed_by o p site site' start' first links from e t ks line ts (level p == level o) refl tight h
  placed_binary o site from e t (frame.Pending (pending.Prefix site' p) ∷ ks) line ts tight h = absurd (omega (arith, ltb-false 0 (level o) tight, level_is o))
  placed_binary o site from e t (frame.Pending (pending.Logical start' first links site' p) ∷ ks) line ts tight h =
      opens_binary_left o site from e t (frame.Pending (pending.Logical start' first links site' p) ∷ ks) line ts (omega (arith, level_is o, level_fits o, eight_logical p)) h
  placed_binary o site from e t ks line ts tight h = opens_binary_left o site from e t ks line ts (omega (arith, level_is o, level_fits o)) h

  pub back_binary : (o : BinaryOp) (site from : ℕ) (x : Operand) (ks : List Frame) (line : Bool) (ts : List Token) → (tail_of x ≡ braces → ⊥) → Next P tree (on_binary o site from x ks) ts → LeftOperand P tree from x ks (tok (k.Binary o) site line ∷ ts)
  back_binary o site from x ks line ts b h =
      let d = next_bind (closed (level o) from x ks) (λ (c : Closed). Some (place_binary o site c.start c.value c.frames)) ts h in
      closed_left P tree (level o) (rank_chain (under o)) from x ks d.0 (tok (k.Binary o) site line ∷ ts) d.1 (omega (arith, level_fits o)) (fine_binary o) (sym (level_is o)) b (not_static ks (k.Binary o) site line ts refl)
      (placed_binary o site d.0.start d.0.value (tail_of x) d.0.frames line ts (closed_tight P tree (level o) from x ks d.0 d.1) d.2.1)

  logical_up : (o : LogicalOp) (site from : ℕ) (e : Expr) (t : Tail) (ks : List Frame) (line : Bool) (ts : List Token) (b : Expr) (u : Tail) (mid : List Token) (ls : List (Link LogicalOp Expr)) (v : Tail) (rest : List Token) → order (rank_logical o) ≤ order (awaits ks) → IsAt P (awaits_logical o) (deep ks) (context ks) ts b u mid → IsGoingOn P o (deep ks) (context ks) u mid ls v rest → UpAt P tree ks from (lower (rank_logical o) (awaits ks)) (expr.Logical e (record { site = site; op = o; right = b } ∷ ls)) v rest → UpAt P tree ks from (awaits_logical o) e t (tok (k.Logical o) site line ∷ ts)
  logical_up o site from e t ks line ts b u mid ls v rest q hb hl up =
      let l : Link LogicalOp Expr = record { site = site; op = o; right = b } in
      let hall : List Token = tok (k.Logical o) site line ∷ ts in (
        up.0,
        up.1,
        up.2,
        (λ w s i. up.3 w s (lowered P (rank_logical o) (awaits ks) (deep ks) (context ks) w (expr.Logical e (l ∷ ls)) v rest (fine_rank_logical o) (fine_awaits ks) q
            (gone_on P o (deep ks) (context ks) w e t hall l ls v rest i (going_more P o (deep ks) (context ks) t hall site ts b u mid ls v rest (fronted (k.Logical o) site line ts) hb hl)))),
        up.4,
      )

  opens_logical_left : (o : LogicalOp) (site from : ℕ) (e : Expr) (t : Tail) (ks : List Frame) (line : Bool) (ts : List Token) → order (rank_logical o) ≤ order (awaits ks) → LeftWant P tree (frame.Pending (pending.Logical from e [] site o) ∷ ks) ts → UpAt P tree ks from (awaits_logical o) e t (tok (k.Logical o) site line ∷ ts)
  opens_logical_left o site from e t ks line ts q h = elim h [ inl w ↦ logical_up o site from e t ks line ts w.1.0 w.1.1 w.1.2 w.1.4.0 w.1.4.1 w.1.4.2 q w.1.3 w.1.4.3 w.1.4.4 | inr x ↦ absurd x ]

  extends_logical : (o : LogicalOp) (site site' start' : ℕ) (first : Expr) (links : List (Link LogicalOp Expr)) (from : ℕ) (e : Expr) (t : Tail) (ks : List Frame) (line : Bool) (ts : List Token) → LeftWant P tree (frame.Pending (pending.Logical start' first (links ++ record { site = site'; op = o; right = e } ∷ []) site o) ∷ ks) ts → UpAt P tree (frame.Pending (pending.Logical start' first links site' o) ∷ ks) from (awaits_logical o) e t (tok (k.Logical o) site line ∷ ts)
  extends_logical o site site' start' first links from e t ks line ts h =
      let a : Link LogicalOp Expr = record { site = site'; op = o; right = e } in
      let hall : List Token = tok (k.Logical o) site line ∷ ts in
      elim h [
        | inl w ↦
            (let l : Link LogicalOp Expr = record { site = site; op = o; right = w.1.0 } in
            let ls : List (Link LogicalOp Expr) = w.1.4.0 in
            let v : Tail = w.1.4.1 in
            let rest : List Token = w.1.4.2 in
            let u2 : UpAt P tree ks start' (lower (rank_logical o) (awaits ks)) (expr.Logical first (links ++ a ∷ (l ∷ ls))) v rest = subst (λ (x : List (Link LogicalOp Expr)). UpAt P tree ks start' (lower (rank_logical o) (awaits ks)) (expr.Logical first x) v rest) (append_assoc links (a ∷ []) (l ∷ ls)) w.1.4.4 in
            up_here P tree (frame.Pending (pending.Logical start' first links site' o) ∷ ks) from (awaits_logical o) e t hall (fine_awaited o) (omega arith)
            (l ∷ ls, v, rest, going_more P o (deep ks) (context ks) t hall site ts w.1.0 w.1.1 w.1.2 ls v rest (fronted (k.Logical o) site line ts) w.1.3 w.1.4.3, u2))
        | inr x ↦ absurd x
      ]

  placed_chain : (o p : LogicalOp) (site site' start' : ℕ) (first : Expr) (links : List (Link LogicalOp Expr)) (from : ℕ) (e : Expr) (t : Tail) (ks : List Frame) (line : Bool) (ts : List Token) → Next P tree (place_logical o site from e (frame.Pending (pending.Logical start' first links site' p) ∷ ks)) ts → UpAt P tree (frame.Pending (pending.Logical start' first links site' p) ∷ ks) from (awaits_logical o) e t (tok (k.Logical o) site line ∷ ts)
  placed_chain logic.And logic.And site site' start' first links from e t ks line ts h = extends_logical logic.And site site' start' first links from e t ks line ts h.1
  placed_chain logic.Or logic.Or site site' start' first links from e t ks line ts h = extends_logical logic.Or site site' start' first links from e t ks line ts h.1
  placed_chain logic.Coalesce logic.Coalesce site site' start' first links from e t ks line ts h = extends_logical logic.Coalesce site site' start' first links from e t ks line ts h.1
  placed_chain logic.And logic.Or site site' start' first links from e t ks line ts h = opens_logical_left logic.And site from e t (frame.Pending (pending.Logical start' first links site' logic.Or) ∷ ks) line ts (omega arith) h.1
  placed_chain _ _ site site' start' first links from e t ks line ts h = absurd h

  placed_logical : (o : LogicalOp) (site from : ℕ) (e : Expr) (t : Tail) (ks : List Frame) (line : Bool) (ts : List Token) → Tight (level_of o) ks → Next P tree (place_logical o site from e ks) ts → UpAt P tree ks from (awaits_logical o) e t (tok (k.Logical o) site line ∷ ts)
  placed_logical o site from e t (frame.Pending (pending.Logical start' first links site' p) ∷ ks) line ts tight h = placed_chain o p site site' start' first links from e t ks line ts h
  placed_logical o site from e t (frame.Pending (pending.Prefix site' p) ∷ ks) line ts tight h = absurd (omega (arith, ltb-false 0 (level_of o) tight, nine_level o))
  placed_logical o site from e t (frame.Pending (pending.Binary start' first links site' p) ∷ ks) line ts tight h = absurd (omega (arith, ltb-false (level p) (level_of o) tight, nine_level o, level_fits p))
  placed_logical o site from e t ks line ts tight h = opens_logical_left o site from e t ks line ts (rank_logical_small o) h.1

  pub back_logical : (o : LogicalOp) (site from : ℕ) (x : Operand) (ks : List Frame) (line : Bool) (ts : List Token) → (tail_of x ≡ braces → ⊥) → Next P tree (on_logical o site from x ks) ts → LeftOperand P tree from x ks (tok (k.Logical o) site line ∷ ts)
  back_logical o site from x ks line ts b h =
      let d = next_bind (closed (level_of o) from x ks) (λ (c : Closed). place_logical o site c.start c.value c.frames) ts h in
      closed_left P tree (level_of o) (awaits_logical o) from x ks d.0 (tok (k.Logical o) site line ∷ ts) d.1 (level_small o) (fine_awaited o) (level_rank o) b (not_static ks (k.Logical o) site line ts refl)
      (placed_logical o site d.0.start d.0.value (tail_of x) d.0.frames line ts (closed_tight P tree (level_of o) from x ks d.0 d.1) d.2)

  question_up : (site from : ℕ) (e : Expr) (t : Tail) (ks : List Frame) (line : Bool) (ts : List Token) → awaits ks ≡ rank_whole → LeftWant P tree (frame.Bracket (bracket.Question from site e) ∷ ks) ts → UpAt P tree ks from rank_short e t (tok k.Question site line ∷ ts)
  question_up site from e t ks line ts r h =
      elim h [
        | inl w ↦
            (let g = w.1.4 in
            let hall : List Token = tok k.Question site line ∷ ts in (
              expr.Conditional from site e w.1.0 g.2,
              g.3,
              g.4,
              (λ v s i. subst (λ (x : Rank). IsAt P x (deep ks) (context ks) v (expr.Conditional from site e w.1.0 g.2) g.3 g.4) (sym r) (subst (λ (x : ℕ). IsConditional P (deep ks) (context ks) v (expr.Conditional x site e w.1.0 g.2) g.3 g.4) s
                  (conditional_both (deep ks) (context ks) v e t hall site ts w.1.0 w.1.1 w.1.2 g.0 g.1 g.2 g.3 g.4 i (fronted k.Question site line ts) w.1.3 g.5 g.6))),
              g.7,
            ))
        | inr x ↦ absurd x
      ]

  whole_awaited : (ks : List Frame) → Tight 11 ks → awaits ks ≡ rank_whole
  whole_awaited (frame.Pending (pending.Prefix site p) ∷ ks) tight = absurd (omega (arith, ltb-false 0 11 tight))
  whole_awaited (frame.Pending (pending.Binary start' first links site p) ∷ ks) tight = absurd (omega (arith, ltb-false (level p) 11 tight, level_fits p))
  whole_awaited (frame.Pending (pending.Logical start' first links site logic.And) ∷ ks) tight = absurd (omega (arith, ltb-false 9 11 tight))
  whole_awaited (frame.Pending (pending.Logical start' first links site _) ∷ ks) tight = absurd (omega (arith, ltb-false 10 11 tight))
  whole_awaited _ tight = refl

  pub back_question : (site from : ℕ) (x : Operand) (ks : List Frame) (line : Bool) (ts : List Token) → (tail_of x ≡ braces → ⊥) → Next P tree (on_question site from x ks) ts → LeftOperand P tree from x ks (tok k.Question site line ∷ ts)
  back_question site from x ks line ts b h =
      let d = next_bind (closed conditional from x ks) (λ (c : Closed). Some (wants (frame.Bracket (bracket.Question c.start site c.value)) c.frames)) ts h in
      closed_left P tree conditional rank_short from x ks d.0 (tok k.Question site line ∷ ts) d.1 (omega arith) tt refl b (not_static ks k.Question site line ts refl)
      (question_up site d.0.start d.0.value (tail_of x) d.0.frames line ts (whole_awaited d.0.frames (closed_tight P tree conditional from x ks d.0 d.1)) d.2.1)

  -- ---- what takes a target, and arrows

  pub sets_target : (ks : List Frame) (from : ℕ) (x : Target Expr) (ts : List Token) → SetsIn P tree ks (λ e t rest. Holds P tree ks e t rest) from x ts → Targets P tree ks from x ts
  sets_target [] from x ts s = absurd s.1.8
  sets_target (f ∷ ks) from x ts s = inl s

  pub behind_target : (ks : List Frame) (from : ℕ) (x : Target Expr) (ts : List Token) → BehindIn P tree ks (λ e t rest. Holds P tree ks e t rest) from x ts → Targets P tree ks from x ts
  behind_target [] from x ts s = absurd s.4.4
  behind_target (f ∷ ks) from x ts s = inr (inl s)

  assign_sets_in : (o : Option BinaryOp) (site from : ℕ) (y : Target Expr) (ks : List Frame) (line : Bool) (ts : List Token) → takes_assign ks ≡ true → LeftWant P tree (frame.Pending (pending.Assign from site o y) ∷ ks) ts → SetsIn P tree ks (λ e t rest. Holds P tree ks e t rest) from y (tok (k.Assign o) site line ∷ ts)
  assign_sets_in o site from y ks line ts g h = elim h [ inl w ↦ (g, (o, site, ts, w.1.0, w.1.1, w.1.2, fronted (k.Assign o) site line ts, w.1.3, w.1.4)) | inr x ↦ absurd x ]

  pub back_assign : (o : Option BinaryOp) (site from : ℕ) (x : Operand) (ks : List Frame) (line : Bool) (ts : List Token) → Next P tree (on_assign o site from x ks) ts → LeftOperand P tree from x ks (tok (k.Assign o) site line ∷ ts)
  back_assign o site from x ks line ts h =
      let d = next_bind (target_of x) (λ (y : Target Expr). when (takes_assign ks) (Some (wants (frame.Pending (pending.Assign from site o y)) ks))) ts h in
      let g = next_when (takes_assign ks) (Some (wants (frame.Pending (pending.Assign from site o d.0)) ks)) ts d.2 in
      inr (inl (d.0, d.1, sets_target ks from d.0 (tok (k.Assign o) site line ∷ ts) (assign_sets_in o site from d.0 ks line ts g.0 g.1.1)))

  pub back_step : (o : StepOp) (site from : ℕ) (x : Operand) (ks : List Frame) (ts : List Token) → Next P tree (on_step o site from x ks) ts → LeftOperand P tree from x ks (tok (k.Step o) site false ∷ ts)
  back_step o site from x ks ts h =
      let d = next_bind (target_of x) (λ (y : Target Expr). when (takes_unary ks) (Some (reached from (operand.Stepped (expr.Step from site o false y)) ks))) ts h in
      let g = next_when (takes_unary ks) (Some (reached from (operand.Stepped (expr.Step from site o false d.0)) ks)) ts d.2 in
      inr (inl (d.0, d.1, behind_target ks from d.0 (tok (k.Step o) site false ∷ ts) (o, site, ts, refl, stepped_left from (expr.Step from site o false d.0) ks ts g.1.1)))

  arrow_in : (site from : ℕ) (names : List Identifier) (ks : List Frame) (ts : List Token) → LeftWant P tree (frame.Pending (pending.Arrow from names) ∷ ks) ts → ArrowIn P tree from names ks (tok k.Arrow site false ∷ ts)
  arrow_in site from names ks ts h = elim h [ inl w ↦ (site, ts, refl, inl (w.0, (w.1.0, w.1.1, w.1.2, w.1.3, w.1.4))) | inr b ↦ (site, ts, refl, inr b) ]

  pub back_to_arrow : (line : Bool) (site from : ℕ) (names : List Identifier) (ks : List Frame) (ts : List Token) → Next P tree (to_arrow line from names ks) ts → ArrowIn P tree from names ks (tok k.Arrow site line ∷ ts)
  back_to_arrow true site from names ks ts h = absurd h
  back_to_arrow false site from names ks ts h = arrow_in site from names ks ts h.1

  pub back_arrow : (line : Bool) (site from : ℕ) (x : Operand) (ks : List Frame) (ts : List Token) → Next P tree (on_arrow line from x ks) ts → LeftOperand P tree from x ks (tok k.Arrow site line ∷ ts)
  back_arrow line site from x ks ts h =
      let d = next_bind (parameter_of x) (λ (n : Identifier). when (takes_assign ks) (to_arrow line from (n ∷ []) ks)) ts h in
      let g = next_when (takes_assign ks) (to_arrow line from (d.0 ∷ []) ks) ts d.2 in
      inr (inr (inl (d.0, d.1, g.0, back_to_arrow line site from (d.0 ∷ []) ks ts g.1)))

  -- ---- suffixes

  pub access_more : (ks : List Frame) (from : ℕ) (value first : Expr) (sfx : List (Suffix Expr)) (a : Access Expr) (ts mid : List Token) → IsAccess P (deep ks) (context ks) ts a mid → AccessIn P tree ks (lead P tree ks) from first sfx a mid → LeftCall P tree ks from value first sfx ts
  access_more ks from value first sfx a ts mid i h =
      let s : Suffix Expr = suffix.Access a in
      elim h [
        | inl (inl u) ↦ inr (inl (s, [], mid, suffixes_access (deep ks) (context ks) ts a mid [] mid i (suffixes_none (deep ks) (context ks) mid), u))
        | inl (inr (inl x)) ↦ inr (inl (s, x.0 ∷ x.1, x.2, suffixes_access (deep ks) (context ks) ts a mid (x.0 ∷ x.1) x.2 i x.3, subst (λ (z : List (Suffix Expr)). UpAt P tree ks from (rank_chain 0) (expr.Call first z) call x.2) (append_assoc sfx (s ∷ []) (x.0 ∷ x.1)) x.4))
        | inl (inr (inr x)) ↦ inr (inr (s ∷ x.0, x.1, x.2, x.3, suffixes_access (deep ks) (context ks) ts a mid x.0 x.1 i x.4, x.5, subst (λ (z : List (Suffix Expr)). Targets P tree ks from (target.Access (call_of first z) x.2) x.3) (append_assoc sfx (s ∷ []) x.0) x.6))
        | inr x ↦ inr (inr ([], ts, a, mid, suffixes_none (deep ks) (context ks) ts, i, subst (λ (z : List (Suffix Expr)). Targets P tree ks from (target.Access (call_of first z) a) mid) (sym (append-nil sfx)) x))
      ]

  pub call_more : (ks : List Frame) (from : ℕ) (value first : Expr) (sfx : List (Suffix Expr)) (site : ℕ) (es : List Expr) (ts inside mid : List Token) → Begins ts k.OpenRound site inside → IsArguments P k.CloseRound (deep ks) (context ks) inside es mid → LeftCall P tree ks from (expr.Call first (sfx ++ suffix.Call site es ∷ [])) first (sfx ++ suffix.Call site es ∷ []) mid → LeftCall P tree ks from value first sfx ts
  call_more ks from value first sfx site es ts inside mid b i h =
      let s : Suffix Expr = suffix.Call site es in
      elim h [
        | inl u ↦ inr (inl (s, [], mid, suffixes_call (deep ks) (context ks) ts site inside es mid [] mid b i (suffixes_none (deep ks) (context ks) mid), u))
        | inr (inl x) ↦ inr (inl (s, x.0 ∷ x.1, x.2, suffixes_call (deep ks) (context ks) ts site inside es mid (x.0 ∷ x.1) x.2 b i x.3, subst (λ (z : List (Suffix Expr)). UpAt P tree ks from (rank_chain 0) (expr.Call first z) call x.2) (append_assoc sfx (s ∷ []) (x.0 ∷ x.1)) x.4))
        | inr (inr x) ↦ inr (inr (s ∷ x.0, x.1, x.2, x.3, suffixes_call (deep ks) (context ks) ts site inside es mid x.0 x.1 b i x.4, x.5, subst (λ (z : List (Suffix Expr)). Targets P tree ks from (target.Access (call_of first z) x.2) x.3) (append_assoc sfx (s ∷ []) x.0) x.6))
      ]

  call_value : (x : Operand) (ks : List Frame) (from : ℕ) (ts : List Token) → tail_of x ≡ call → NotStatic P tree ks ts → LeftCall P tree ks from (value_of x) (first_of x) (suffixes_of x) ts → LeftOperand P tree from x ks ts
  call_value (operand.Literal e) ks from ts t s h = inl (inl (s, h))
  call_value (operand.Stepped e) ks from ts t s h = absurd cc
  call_value (operand.Braced e) ks from ts t s h = absurd cc
  call_value x ks from ts t s h = inl h

  -- arguments from where one may begin
  pub arguments_of : (close : TokenKind) (d : ℕ) (c : Context) (items : List Expr) (K : List Expr → List Token → Type 0) (ts : List Token) → (Unit {0} × ((e : Expr) × (t : Tail) × (rest : List Token) × IsAssign P d c ts e t rest × AfterArgument P tree close d c items e K rest)) ⊎ Closing close ts (λ rest. K items rest) → (es : List Expr) × (mid : List Token) × IsArguments P close d c ts es mid × K (items ++ es) mid
  arguments_of close d c items K ts h =
      elim h [
        | inl w ↦ argument_of close d c items K ts w.1.0 w.1.1 w.1.2 w.1.3 w.1.4
        | inr x ↦ ([], x.1, arguments_none close d c ts x.0 x.1 x.2, subst (λ (z : List Expr). K z x.1) (sym (append-nil items)) x.3)
      ]
    where
      argument_of : (close : TokenKind) (d : ℕ) (c : Context) (items : List Expr) (K : List Expr → List Token → Type 0) (ts : List Token) (e : Expr) (t : Tail) (rest : List Token) → IsAssign P d c ts e t rest → AfterArgument P tree close d c items e K rest → (es : List Expr) × (mid : List Token) × IsArguments P close d c ts es mid × K (items ++ es) mid
      argument_of close d c items K ts e t rest i h =
          elim h [
            | inl x ↦ (e ∷ [], x.1, arguments_last close d c ts e t rest x.0 x.1 i x.2, x.3)
            | inr x ↦ (e ∷ x.2, x.3, arguments_more close d c ts e t rest x.0 x.1 x.2 x.3 i x.4 x.5, subst (λ (z : List Expr). K z x.3) (append_assoc items (e ∷ []) x.2) x.6)
          ]

  pub back_dot : (site from : ℕ) (x : Operand) (ks : List Frame) (line : Bool) (ts : List Token) → tail_of x ≡ call → Next P tree (on_dot site from x ks) ts → LeftOperand P tree from x ks (tok k.Dot site line ∷ ts)
  back_dot site from x ks line ts t h =
      let w = h.1 in
      call_value x ks from (tok k.Dot site line ∷ ts) t (not_static ks k.Dot site line ts refl)
      (access_more ks from (value_of x) (first_of x) (suffixes_of x) (access.Property site w.0) (tok k.Dot site line ∷ ts) w.2 (access_property (deep ks) (context ks) (tok k.Dot site line ∷ ts) site ts w.0 w.1 w.2 (fronted k.Dot site line ts) w.3) w.4)

  pub back_call : (site from : ℕ) (x : Operand) (ks : List Frame) (line : Bool) (ts : List Token) → tail_of x ≡ call → Next P tree (on_round site from x ks) ts → LeftOperand P tree from x ks (tok k.OpenRound site line ∷ ts)
  back_call site from x ks line ts t h =
      let w = arguments_of k.CloseRound (deep ks) (context ks) [] (λ es rest. LeftCall P tree ks from (expr.Call (first_of x) (suffixes_of x ++ suffix.Call site es ∷ [])) (first_of x) (suffixes_of x ++ suffix.Call site es ∷ []) rest) ts h.1 in
      call_value x ks from (tok k.OpenRound site line ∷ ts) t (not_static ks k.OpenRound site line ts refl)
      (call_more ks from (value_of x) (first_of x) (suffixes_of x) site w.0 (tok k.OpenRound site line ∷ ts) ts w.1 (fronted k.OpenRound site line ts) w.2 w.3)

  index_in : (site from : ℕ) (value first : Expr) (sfx : List (Suffix Expr)) (ks : List Frame) (line : Bool) (ts : List Token) → LeftWant P tree (frame.Bracket (bracket.Index from first sfx site) ∷ ks) ts → LeftCall P tree ks from value first sfx (tok k.OpenSquare site line ∷ ts)
  index_in site from value first sfx ks line ts h =
      let hall : List Token = tok k.OpenSquare site line ∷ ts in
      elim h [
        | inl w ↦ access_more ks from value first sfx (access.Index site false w.1.0) hall w.1.4.1 (access_index (deep ks) (context ks) hall site ts w.1.0 w.1.1 w.1.2 w.1.4.0 w.1.4.1 (fronted k.OpenSquare site line ts) w.0 w.1.3 w.1.4.2) w.1.4.3
        | inr x ↦ access_more ks from value first sfx (access.Index site true x.0) hall x.1 (access_static (deep ks) (context ks) hall site ts x.0 x.1 x.2 (fronted k.OpenSquare site line ts) x.3) x.4
      ]

  pub back_square : (site from : ℕ) (x : Operand) (ks : List Frame) (line : Bool) (ts : List Token) → tail_of x ≡ call → Next P tree (on_square site from x ks) ts → LeftOperand P tree from x ks (tok k.OpenSquare site line ∷ ts)
  back_square site from x ks line ts t h =
      call_value x ks from (tok k.OpenSquare site line ∷ ts) t (not_static ks k.OpenSquare site line ts refl) (index_in site from (value_of x) (first_of x) (suffixes_of x) ks line ts h.1)

  pub back_continues : (line : Bool) (site from : ℕ) (x : Operand) (ks : List Frame) (kind : TokenKind) (ts : List Token) → continues (tail_of x) kind ≡ true → Next P tree (continues_by site from x ks kind) ts → LeftOperand P tree from x ks (tok kind site line ∷ ts)
  back_continues line site from x ks k.Dot ts g h = back_dot site from x ks line ts (dot_call (tail_of x) g) h
  back_continues line site from x ks k.OpenRound ts g h = back_call site from x ks line ts (round_call (tail_of x) g) h
  back_continues line site from x ks k.OpenSquare ts g h = back_square site from x ks line ts (square_call (tail_of x) g) h
  back_continues line site from x ks (k.Binary o) ts g h = back_binary o site from x ks line ts (not_braces (tail_of x) (k.Binary o) g) h
  back_continues line site from x ks (k.Logical o) ts g h = back_logical o site from x ks line ts (not_braces (tail_of x) (k.Logical o) g) h
  back_continues line site from x ks (k.Assign o) ts g h = back_assign o site from x ks line ts h
  back_continues line site from x ks k.Question ts g h = back_question site from x ks line ts (not_braces (tail_of x) k.Question g) h
  back_continues line site from x ks _ ts g h = absurd h
