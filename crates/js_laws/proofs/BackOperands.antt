-- A step backwards where an operand is due, within its pieces, and within parameters.
use Rattle.std.proofs.Common.{◌≡◌, ℕ, suc, ◌+◌, ◌≤◌, Bool, true, false, ◌&&◌, List, [], ◌∷◌, ◌++◌, Option, Some, None, refl, sym, subst, append_assoc, arith, inl, inr, nat_lt, ltb-false}
use Rattle.std.proofs.lemmas.List.{append-nil}
use Rattle.std.proofs.lemmas.Bool.{not-true}
use Rattle.js_ast.specs.declared.expression.Expr.{Expr}
use Rattle.js_ast.specs.declared.expression.Expr.TheVariants as expr
use Rattle.js_ast.specs.declared.statement.Stmt.{Stmt}
use Rattle.js_ast.specs.declared.operators.BinaryOp.{BinaryOp}
use Rattle.js_ast.specs.declared.operators.BinaryOp.TheVariants as op
use Rattle.js_ast.specs.declared.operators.LogicalOp.TheVariants as logic
use Rattle.js_ast.specs.declared.operators.StepOp.{StepOp}
use Rattle.js_ast.specs.declared.operators.UnaryOp.{UnaryOp}
use Rattle.js_ast.specs.declared.operators.UnaryOp.TheVariants as unary
use Rattle.js_ast.specs.declared.parts.Identifier.{Identifier}
use Rattle.js_ast.specs.declared.parts.Access.TheVariants as access
use Rattle.js_ast.specs.declared.parts.Suffix.{Suffix}
use Rattle.js_ast.specs.declared.parts.Suffix.TheVariants as suffix
use Rattle.js_ast.specs.declared.parts.Target.{Target}
use Rattle.js_ast.specs.declared.parts.Target.TheVariants as target
use Rattle.js_ast.specs.declared.parts.Key.{Key}
use Rattle.js_ast.specs.declared.parts.Key.TheVariants as key
use Rattle.js_ast.specs.declared.parts.Member.{Member}
use Rattle.js_ast.specs.declared.parts.Member.TheVariants as member
use Rattle.js_ast.specs.declared.parts.LoopHead.{LoopHead}
use Rattle.js_grammar.specs.declared.token.Token.{Token}
use Rattle.js_grammar.specs.declared.token.TokenKind.{TokenKind}
use Rattle.js_grammar.specs.declared.token.TokenKind.TheVariants as k
use Rattle.js_grammar.specs.declared.token.Word.{Word}
use Rattle.js_grammar.specs.declared.token.Word.TheVariants as word
use Rattle.js_grammar.specs.Phrases.{Begins, Beside, IsIdentifier, start_of, starts, is_open_brace, level, prefix, is_proto, Tail, call, step as behind, braces, Context, in_body, in_arrow}
use Rattle.js_grammar.specs.Grammar.{call_of, IsNames, names_none, names_last, names_more, IsParameters, IsArrowParameters, parameters_one, parameters_none, parameters_round, name_none, name_some, IsKey, key_word, key_text, key_number, IsStaticKey, static_text, static_number, opens_static}
use Rattle.js_grammar.specs.Grammar.{IsAssign, assign_conditional, assign_sets, assign_arrow, assign_arrow_block, IsChain, chain_unary, IsUnary, unary_prefix, unary_step, unary_behind, unary_call, call_all, IsFirst, first_primary, first_new, suffixes_none, IsTarget, target_name, target_access, target_round, IsMember, member_value, member_shorthand, IsMembers, members_none, members_last, members_more, IsPrimary, primary_this, primary_name, primary_null, primary_true, primary_false, primary_number, primary_text, primary_array, primary_object, primary_function, primary_round}
use Rattle.js_grammar.specs.Grammar.{IsBody, body_braces, optional_none, optional_some}
use Rattle.js_reading.specs.declared.frame.Frame.{Frame}
use Rattle.js_reading.specs.declared.frame.Frame.TheVariants as frame
use Rattle.js_reading.specs.declared.frame.Pending.TheVariants as pending
use Rattle.js_reading.specs.declared.frame.Bracket.{Bracket}
use Rattle.js_reading.specs.declared.frame.Bracket.TheVariants as bracket
use Rattle.js_reading.specs.declared.frame.Part.{Part}
use Rattle.js_reading.specs.declared.frame.Part.TheVariants as part
use Rattle.js_reading.specs.declared.frame.Braces.{Braces}
use Rattle.js_reading.specs.declared.mode.Mode.TheVariants as mode
use Rattle.js_reading.specs.declared.mode.Operand.TheVariants as operand
use Rattle.js_reading.specs.declared.mode.Header.{Header}
use Rattle.js_reading.specs.declared.mode.Header.TheVariants as header
use Rattle.js_reading.specs.declared.mode.Heading.{Heading}
use Rattle.js_reading.specs.declared.mode.Heading.TheVariants as heading
use Rattle.js_reading.specs.declared.mode.Piece.{Piece}
use Rattle.js_reading.specs.declared.mode.Piece.TheVariants as piece
use Rattle.js_reading.specs.Frames.{context, depth, takes_assign, takes_unary}
use Rattle.js_reading.specs.Operands.{at, wants, prefixed, stepped, want_binary, primary, want_word, want_brace, want_close_in, want_close, want_square, no_test, no_update, want_mark, want, whole, key_on, to_value, name_key_on, other_key_on, new_on, new_name_on, property_on, function_on, piece_on, headed, open_on, parameters_on, parameter_on, arrow_due_on}
use Rattle.js_reading.specs.Statements.{braces_on}
use Rattle.js_reading.specs.Reading.{heading_on}
use Rattle.js_laws.proofs.Left.{rank_chain, awaits, before_part, deep, tok, is_close_square, NamesNest, IsAt, lead, AfterMember, UpdateIn, TestIn, BracesIn, out_by, Holds, Targets, UpAt, Wanted, ArrowIn, AfterName, Starts, LeftPiece, LeftHeading, Headed, InnerNames, LeftWant, NotStatic, Static, LeftCall, LeftOperand, Next}
use Rattle.js_laws.proofs.ThroughFrames.{some_is, deep_is, level_fits}
use Rattle.js_laws.proofs.BackOperators.{fronted, next_when, next_unless, primary_left, called_left, accessed_left, back_to_arrow, arguments_of}

abbrev pub is_text : TokenKind → Bool
is_text (k.Text text) = true
is_text (k.Number n) = true
is_text _ = false

abbrev pub is_arrow : List Frame → Bool
is_arrow (frame.Pending (pending.Arrow from names) ∷ ks) = true
is_arrow _ = false

opens_not : (kind : TokenKind) (site : ℕ) (line : Bool) (ts : List Token) → is_text kind ≡ false → opens_static (tok kind site line ∷ ts) ≡ false
opens_not (k.Text text) site line ts h = absurd cc
opens_not (k.Number n) site line ts h = absurd cc
opens_not _ site line [] h = refl
opens_not _ site line (u ∷ us) h = refl

text_before : (text : List ℕ) (site : ℕ) (line : Bool) (v : TokenKind) (s : ℕ) (l : Bool) (us : List Token) → is_close_square v ≡ false → opens_static (tok (k.Text text) site line ∷ tok v s l ∷ us) ≡ false
text_before text site line k.CloseSquare s l us h = absurd cc
text_before text site line _ s l us h = refl

number_before : (n : ℕ) (site : ℕ) (line : Bool) (v : TokenKind) (s : ℕ) (l : Bool) (us : List Token) → is_close_square v ≡ false → opens_static (tok (k.Number n) site line ∷ tok v s l ∷ us) ≡ false
number_before n site line k.CloseSquare s l us h = absurd cc
number_before n site line _ s l us h = refl

text_opens : (text : List ℕ) (site : ℕ) (line : Bool) (ts : List Token) → starts is_close_square ts ≡ false → opens_static (tok (k.Text text) site line ∷ ts) ≡ false
text_opens text site line [] h = refl
text_opens text site line (u ∷ us) h = text_before text site line u.kind u.start u.line_before us h

number_opens : (n : ℕ) (site : ℕ) (line : Bool) (ts : List Token) → starts is_close_square ts ≡ false → opens_static (tok (k.Number n) site line ∷ ts) ≡ false
number_opens n site line [] h = refl
number_opens n site line (u ∷ us) h = number_before n site line u.kind u.start u.line_before us h

module _ (P : ℕ → Type 0) (tree : List Stmt) where
  pub starts_fine : (ks : List Frame) (kind : TokenKind) (site : ℕ) (line : Bool) (ts : List Token) → (is_open_brace kind && is_arrow ks) ≡ false → is_text kind ≡ false → Starts P tree ks (tok kind site line ∷ ts)
  starts_fine (frame.Pending (pending.Arrow from names) ∷ ks) kind site line ts h g = brace_not kind h
    where
      brace_not : (kind : TokenKind) → (is_open_brace kind && true) ≡ false → is_open_brace kind ≡ false
      brace_not k.OpenBrace h = absurd cc
      brace_not _ h = refl
  starts_fine (frame.Bracket (bracket.Index from first sfx site') ∷ ks) kind site line ts h g = opens_not kind site line ts g
  starts_fine _ kind site line ts h g = tt

  starts_text : (ks : List Frame) (kind : TokenKind) (site : ℕ) (line : Bool) (ts : List Token) → is_open_brace kind ≡ false → (starts is_close_square ts ≡ false → opens_static (tok kind site line ∷ ts) ≡ false) → NotStatic P tree ks ts → Starts P tree ks (tok kind site line ∷ ts)
  starts_text (frame.Pending (pending.Arrow from names) ∷ ks) kind site line ts h g s = h
  starts_text (frame.Bracket (bracket.Index from first sfx site') ∷ ks) kind site line ts h g s = g s
  starts_text _ kind site line ts h g s = tt

  chain_zero : (d : ℕ) (c : Context) (ts : List Token) (e : Expr) (t : Tail) (rest : List Token) → IsChain P 0 d c ts e t rest → IsUnary P d c ts e t rest
  chain_zero _ _ _ _ _ _ (chain_unary d c ts e t rest h) = h

  -- ---- from a beginning to what is wanted

  wanted_at : (ks : List Frame) (ts : List Token) (e : Expr) (t : Tail) (rest : List Token) → P (deep ks) → Starts P tree ks ts → IsAt P (awaits ks) (deep ks) (context ks) ts e t rest → Holds P tree ks e t rest → Wanted P tree ks ts
  wanted_at [] ts e t rest p s i h = absurd h
  wanted_at (frame.Pending (pending.Prefix site o) ∷ ks) ts e t rest p s i h = (s, (e, t, rest, chain_zero (suc (deep ks)) (context ks) ts e t rest i, h))
  wanted_at (frame.Pending (pending.Binary from first links site o) ∷ ks) ts e t rest p s i h = (s, (e, t, rest, i, h))
  wanted_at (frame.Pending (pending.Logical from first links site o) ∷ ks) ts e t rest p s i h = (s, (e, t, rest, i, h))
  wanted_at (frame.Pending (pending.Conditional from site test a) ∷ ks) ts e t rest p s i h = (s, (e, t, rest, assign_conditional (deep ks) (context ks) ts e t rest p i, h))
  wanted_at (frame.Pending (pending.Assign from site o x) ∷ ks) ts e t rest p s i h = (s, (e, t, rest, assign_conditional (deep ks) (context ks) ts e t rest p i, h))
  wanted_at (frame.Pending (pending.Arrow from names) ∷ ks) ts e t rest p s i h = (s, (e, t, rest, assign_conditional (deep ks) (in_arrow (context ks)) ts e t rest p i, h))
  wanted_at (frame.Step site o ∷ ks) ts e t rest p s i h = absurd h
  wanted_at (frame.Bracket b ∷ ks) ts e t rest p s i h = (s, (e, t, rest, assign_conditional (deep ks) (context ks) ts e t rest p i, h))
  wanted_at (frame.Part q ∷ ks) ts e t rest p s i h = (s, (e, t, rest, assign_conditional (before_part q (deep ks)) (context ks) ts e t rest p i, h))
  wanted_at (frame.Below b ∷ ks) ts e t rest p s i h = absurd h
  wanted_at (frame.List b body ∷ ks) ts e t rest p s i h = absurd h

  assign_wanted : (ks : List Frame) (ts : List Token) (e : Expr) (t : Tail) (rest : List Token) → takes_assign ks ≡ true → Starts P tree ks ts → ((d : ℕ) → deep ks ≡ suc d → IsAssign P d (context ks) ts e t rest) → Holds P tree ks e t rest → Wanted P tree ks ts
  assign_wanted [] ts e t rest a s i h = absurd h
  assign_wanted (frame.Pending (pending.Prefix site o) ∷ ks) ts e t rest a s i h = absurd (omega (arith, ltb-false 0 11 (not-true (nat_lt 0 11) a)))
  assign_wanted (frame.Pending (pending.Binary from first links site o) ∷ ks) ts e t rest a s i h = absurd (omega (arith, ltb-false (level o) 11 (not-true (nat_lt (level o) 11) a), level_fits o))
  assign_wanted (frame.Pending (pending.Logical from first links site logic.And) ∷ ks) ts e t rest a s i h = absurd (omega (arith, ltb-false 9 11 (not-true (nat_lt 9 11) a)))
  assign_wanted (frame.Pending (pending.Logical from first links site _) ∷ ks) ts e t rest a s i h = absurd (omega (arith, ltb-false 10 11 (not-true (nat_lt 10 11) a)))
  assign_wanted (frame.Pending (pending.Conditional from site test x) ∷ ks) ts e t rest a s i h = (s, (e, t, rest, i (deep ks) refl, h))
  assign_wanted (frame.Pending (pending.Assign from site o x) ∷ ks) ts e t rest a s i h = (s, (e, t, rest, i (deep ks) refl, h))
  assign_wanted (frame.Pending (pending.Arrow from names) ∷ ks) ts e t rest a s i h = (s, (e, t, rest, i (deep ks) refl, h))
  assign_wanted (frame.Step site o ∷ ks) ts e t rest a s i h = absurd h
  assign_wanted (frame.Bracket b ∷ ks) ts e t rest a s i h = (s, (e, t, rest, i (deep ks) refl, h))
  assign_wanted (frame.Part q ∷ ks) ts e t rest a s i h = (s, (e, t, rest, i (before_part q (deep ks)) refl, h))
  assign_wanted (frame.Below b ∷ ks) ts e t rest a s i h = absurd h
  assign_wanted (frame.List b body ∷ ks) ts e t rest a s i h = absurd h

  -- an operator's operand, or a call, was read from there on
  up_wanted : (ks : List Frame) (from : ℕ) (whole : List Token) (e : Expr) (t : Tail) (ts : List Token) → P (deep ks) → Starts P tree ks whole → start_of whole ≡ from → IsUnary P (deep ks) (context ks) whole e t ts → UpAt P tree ks from (rank_chain 0) e t ts → LeftWant P tree ks whole
  up_wanted ks from whole e t ts p s q i u = inl (wanted_at ks whole u.0 u.1 u.2 p s (u.3 whole q (chain_unary (deep ks) (context ks) whole e t ts i)) u.4)

  sets_assign : (n d : ℕ) (c : Context) (ts : List Token) (from : ℕ) (x : Target Expr) (mark : List Token) (o : Option BinaryOp) (site : ℕ) (next : List Token) (e : Expr) (t : Tail) (rest : List Token) → n ≡ suc d → start_of ts ≡ from → P n → IsTarget P n c ts x mark → Begins mark (k.Assign o) site next → IsAssign P n c next e t rest → IsAssign P d c ts (expr.Assign from site o x e) t rest
  sets_assign n d c ts from x mark o site next e t rest q s p i b a =
      subst (λ (z : ℕ). IsAssign P d c ts (expr.Assign z site o x e) t rest) s
      (assign_sets d c ts x mark o site next e t rest (subst P q p) (subst (λ (z : ℕ). IsTarget P z c ts x mark) q i) b (subst (λ (z : ℕ). IsAssign P z c next e t rest) q a))

  out_wanted : (f : Frame) (ks : List Frame) (x : Target Expr) (whole mid : List Token) → P (deep (f ∷ ks)) → IsTarget P (deep (f ∷ ks)) (context (f ∷ ks)) whole x mid → out_by P tree f ks (lead P tree ks) x mid → LeftWant P tree (f ∷ ks) whole
  out_wanted (frame.Step site o) ks x whole mid p i h = inr (x, mid, i, h)
  out_wanted (frame.Bracket (bracket.Round site)) ks x whole mid p i h = inr (inl (x, mid, i, (h.0, h.1, h.2, (p, h.3))))
  out_wanted (frame.Bracket _) ks x whole mid p i h = absurd h
  out_wanted _ ks x whole mid p i h = absurd h

  target_wanted : (ks : List Frame) (from : ℕ) (x : Target Expr) (whole mid : List Token) → P (deep ks) → Starts P tree ks whole → start_of whole ≡ from → IsTarget P (deep ks) (context ks) whole x mid → Targets P tree ks from x mid → LeftWant P tree ks whole
  target_wanted [] from x whole mid p s q i h = absurd h
  target_wanted (f ∷ ks) from x whole mid p s q i h =
      elim h [
        | inl g ↦ inl (assign_wanted (f ∷ ks) whole (expr.Assign from g.1.1 g.1.0 x g.1.3) g.1.4 g.1.5 g.0 s
            (λ d r. sets_assign (deep (f ∷ ks)) d (context (f ∷ ks)) whole from x mid g.1.0 g.1.1 g.1.2 g.1.3 g.1.4 g.1.5 r q p i g.1.6 g.1.7) g.1.8)
        | inr (inl g) ↦ up_wanted (f ∷ ks) from whole (expr.Step from g.1 g.0 false x) behind g.2 p s q
            (subst (λ (z : ℕ). IsUnary P (deep (f ∷ ks)) (context (f ∷ ks)) whole (expr.Step z g.1 g.0 false x) behind g.2) q (unary_behind (deep (f ∷ ks)) (context (f ∷ ks)) whole x mid g.0 g.1 g.2 i g.3)) g.4
        | inr (inr g) ↦ out_wanted f ks x whole mid p i g
      ]

  pub first_wanted : (ks : List Frame) (from : ℕ) (first : Expr) (whole ts : List Token) → P (deep ks) → Starts P tree ks whole → start_of whole ≡ from → IsFirst P (deep ks) (context ks) whole first ts → LeftCall P tree ks from first first [] ts → LeftWant P tree ks whole
  first_wanted ks from first whole ts p s q i h =
      elim h [
        | inl u ↦ up_wanted ks from whole first call ts p s q (unary_call (deep ks) (context ks) whole first ts (call_all (deep ks) (context ks) whole first ts [] ts i (suffixes_none (deep ks) (context ks) ts))) u
        | inr (inl x) ↦ up_wanted ks from whole (expr.Call first (x.0 ∷ x.1)) call x.2 p s q (unary_call (deep ks) (context ks) whole (expr.Call first (x.0 ∷ x.1)) x.2 (call_all (deep ks) (context ks) whole first ts (x.0 ∷ x.1) x.2 i x.3)) x.4
        | inr (inr x) ↦ target_wanted ks from (target.Access (call_of first x.0) x.2) whole x.3 p s q (target_access (deep ks) (context ks) whole (call_of first x.0) x.1 x.2 x.3 (call_all (deep ks) (context ks) whole first ts x.0 x.1 i x.4) x.5) x.6
      ]

  pub primary_wanted : (ks : List Frame) (from : ℕ) (e : Expr) (whole ts : List Token) → P (deep ks) → Starts P tree ks whole → start_of whole ≡ from → IsPrimary P (deep ks) (context ks) whole e ts → LeftCall P tree ks from e e [] ts → LeftWant P tree ks whole
  primary_wanted ks from e whole ts p s q i h = first_wanted ks from e whole ts p s q (first_primary (deep ks) (context ks) whole e ts i) h

  arrow_assign : (n d : ℕ) (c : Context) (ts : List Token) (from : ℕ) (names : List Identifier) (mark : List Token) (site : ℕ) (next : List Token) (e : Expr) (t : Tail) (rest : List Token) → n ≡ suc d → start_of ts ≡ from → P n → IsArrowParameters P n ts names mark → Beside mark k.Arrow site next → starts is_open_brace next ≡ false → IsAssign P n (in_arrow c) next e t rest → IsAssign P d c ts (expr.Arrow from names e) t rest
  arrow_assign n d c ts from names mark site next e t rest q s p i b o a =
      subst (λ (z : ℕ). IsAssign P d c ts (expr.Arrow z names e) t rest) s
      (assign_arrow d c ts names mark site next e t rest (subst P q p) (subst (λ (z : ℕ). IsArrowParameters P z ts names mark) q i) b o (subst (λ (z : ℕ). IsAssign P z (in_arrow c) next e t rest) q a))

  arrow_block : (n d : ℕ) (c : Context) (ts : List Token) (from : ℕ) (names : List Identifier) (mark : List Token) (site : ℕ) (next : List Token) (body : List Stmt) (rest : List Token) → n ≡ suc d → start_of ts ≡ from → P n → IsArrowParameters P n ts names mark → Beside mark k.Arrow site next → IsBody P n (in_arrow c) next body rest → IsAssign P d c ts (expr.ArrowBlock from names body) braces rest
  arrow_block n d c ts from names mark site next body rest q s p i b a =
      subst (λ (z : ℕ). IsAssign P d c ts (expr.ArrowBlock z names body) braces rest) s
      (assign_arrow_block d c ts names mark site next body rest (subst P q p) (subst (λ (z : ℕ). IsArrowParameters P z ts names mark) q i) b (subst (λ (z : ℕ). IsBody P z (in_arrow c) next body rest) q a))

  arrow_wanted : (ks : List Frame) (from : ℕ) (names : List Identifier) (whole mid : List Token) → P (deep ks) → Starts P tree ks whole → start_of whole ≡ from → takes_assign ks ≡ true → IsArrowParameters P (deep ks) whole names mid → ArrowIn P tree from names ks mid → LeftWant P tree ks whole
  arrow_wanted ks from names whole mid p s q a i h =
      elim h.3 [
        | inl g ↦ inl (assign_wanted ks whole (expr.Arrow from names g.1.0) g.1.1 g.1.2 a s (λ d r. arrow_assign (deep ks) d (context ks) whole from names mid h.0 h.1 g.1.0 g.1.1 g.1.2 r q p i h.2 g.0 g.1.3) g.1.4)
        | inr g ↦
            (let l = g.3 in
            let body : IsBody P (deep ks) (in_arrow (context ks)) h.1 l.0 l.3.1 = body_braces (deep ks) (in_arrow (context ks)) h.1 g.0 g.1 l.0 l.1 l.3.0 l.3.1 g.2 l.2 l.3.2 in
            inl (assign_wanted ks whole (expr.ArrowBlock from names l.0) braces l.3.1 a s (λ d r. arrow_block (deep ks) d (context ks) whole from names mid h.0 h.1 l.0 l.3.1 r q p i h.2 body) l.3.3))
      ]

  -- ---- the heads of a `for`, from where an expression may stand

  pub update_of : (site : ℕ) (first : LoopHead Expr) (test : Option Expr) (ks : List Frame) (ts : List Token) → LeftWant P tree (frame.Part (part.ForUpdate site first test) ∷ ks) ts → UpdateIn P tree site first test ks (lead P tree ks) ts
  update_of site first test ks ts h =
      elim h [
        | inl w ↦ (Some w.1.0, w.1.2, optional_some (deep ks) (context ks) ts w.1.0 w.1.1 w.1.2 w.1.3, w.1.4)
        | inr x ↦ (None, ts, optional_none (deep ks) (context ks) ts, x)
      ]

  pub test_of : (site : ℕ) (first : LoopHead Expr) (ks : List Frame) (ts : List Token) → LeftWant P tree (frame.Part (part.ForTest site first) ∷ ks) ts → TestIn P tree site first ks (lead P tree ks) ts
  test_of site first ks ts h =
      elim h [
        | inl w ↦ (Some w.1.0, w.1.2, optional_some (deep ks) (context ks) ts w.1.0 w.1.1 w.1.2 w.1.3, w.1.4)
        | inr x ↦ (None, ts, optional_none (deep ks) (context ks) ts, x)
      ]

  -- ---- names

  pub name_and : (site : ℕ) (line : Bool) (name : List ℕ) (ts : List Token) (more : List Identifier) (rest : List Token) → AfterName P tree ts more rest → IsNames (tok (k.Name name) site line ∷ ts) (record { site = site; name = name } ∷ more) rest
  name_and site line name ts more rest h =
      let n : Identifier = record { site = site; name = name } in
      let i : IsIdentifier (tok (k.Name name) site line ∷ ts) n ts = record { begins = fronted (k.Name name) site line ts } in
      elim h [
        | inl c ↦ subst (λ (z : List Identifier). IsNames (tok (k.Name name) site line ∷ ts) (n ∷ z) rest) (sym c.2) (names_last (tok (k.Name name) site line ∷ ts) ts n c.0 rest i c.1)
        | inr c ↦ names_more (tok (k.Name name) site line ∷ ts) ts c.1 n more c.0 rest i c.2 c.3
      ]

module _ (P : ℕ → Type 0) (down : (m n : ℕ) → m ≤ n → P n → P m) (tree : List Stmt) where
  at_depth : (ks : List Frame) → P (depth ks) → P (deep ks)
  at_depth ks p = down (deep ks) (depth ks) (omega (arith, deep_is ks)) p

  inner_names : (n : Identifier) (ks : List Frame) (whole ts : List Token) → P (deep ks) → ((more : List Identifier) (mid : List Token) → AfterName P tree ts more mid → IsNames whole (n ∷ more) mid) → InnerNames P tree n ks ts → LeftWant P tree ks whole
  inner_names n (frame.Bracket (bracket.Round site) ∷ ks) whole ts p i h = inr (inr (h.0, (n ∷ h.1.0, h.1.1, i h.1.0 h.1.1 h.1.2, p, h.1.3)))
  inner_names n _ whole ts p i h = absurd h

  back_name : (site : ℕ) (line : Bool) (name : List ℕ) (ks : List Frame) (ts : List Token) → P (deep ks) → LeftOperand P tree site (operand.Name (record { site = site; name = name })) ks ts → LeftWant P tree ks (tok (k.Name name) site line ∷ ts)
  back_name site line name ks ts p h =
      let n : Identifier = record { site = site; name = name } in
      let hall : List Token = tok (k.Name name) site line ∷ ts in
      let i : IsIdentifier hall n ts = record { begins = fronted (k.Name name) site line ts } in
      let s = starts_fine P tree ks (k.Name name) site line ts refl refl in
      elim h [
        | inl c ↦ primary_wanted P tree ks site (expr.Name n) hall ts p s refl (primary_name (deep ks) (context ks) hall n ts i) c
        | inr (inl x) ↦ target_wanted P tree ks site (target.Name n) hall ts p s refl (target_name (deep ks) (context ks) hall n ts i) (subst (λ (z : Target Expr). Targets P tree ks site z ts) (sym (some_is (target.Name n) x.0 x.1)) x.2)
        | inr (inr (inl x)) ↦ arrow_wanted P tree ks site (n ∷ []) hall ts p s refl x.2 (parameters_one hall n ts i) (subst (λ (z : Identifier). ArrowIn P tree site (z ∷ []) ks ts) (sym (some_is n x.0 x.1)) x.3)
        | inr (inr (inr x)) ↦ inner_names n ks hall ts p (λ more mid a. name_and P tree site line name ts more mid a) x
      ]

  static_wanted : (e : Expr) (ks : List Frame) (whole ts : List Token) → P (deep ks) → ((at' : ℕ) (rest : List Token) → Begins ts k.CloseSquare at' rest → IsStaticKey whole e rest) → Static P tree ks e ts → LeftWant P tree ks whole
  static_wanted e (frame.Bracket (bracket.Index from first sfx site) ∷ ks) whole ts p i h = inr (e, h.1, p, i h.0 h.1 h.2, h.3)
  static_wanted e _ whole ts p i h = absurd h

  literal_wanted : (site : ℕ) (e : Expr) (ks : List Frame) (whole ts : List Token) → P (deep ks) → start_of whole ≡ site → (NotStatic P tree ks ts → Starts P tree ks whole) → IsPrimary P (deep ks) (context ks) whole e ts → ((at' : ℕ) (rest : List Token) → Begins ts k.CloseSquare at' rest → IsStaticKey whole e rest) → LeftOperand P tree site (operand.Literal e) ks ts → LeftWant P tree ks whole
  literal_wanted site e ks whole ts p q s i j h =
      elim h [
        | inl (inl c) ↦ primary_wanted P tree ks site e whole ts p (s c.0) q i c.1
        | inl (inr c) ↦ static_wanted e ks whole ts p j c
        | inr (inl x) ↦ absurd (let d : _ = x.1 in cc)
        | inr (inr (inl x)) ↦ absurd (let d : _ = x.1 in cc)
        | inr (inr (inr x)) ↦ absurd x
      ]

  prefix_wanted : (kind : TokenKind) (o : UnaryOp) (site : ℕ) (line : Bool) (ks : List Frame) (ts : List Token) → prefix kind ≡ Some o → Starts P tree ks (tok kind site line ∷ ts) → Next P tree (prefixed o site ks) ts → LeftWant P tree ks (tok kind site line ∷ ts)
  prefix_wanted kind o site line ks ts q s h =
      let hall : List Token = tok kind site line ∷ ts in
      let g = next_when P tree (takes_unary ks) (Some (wants (frame.Pending (pending.Prefix site o)) ks)) ts h in
      let p : P (suc (deep ks)) = down (suc (deep ks)) (1 + depth ks) (omega (arith, deep_is ks)) g.1.0 in
      elim g.1.1 [
        | inl w ↦ up_wanted P tree ks site hall (expr.Unary site o w.1.0) w.1.1 w.1.2 (down (deep ks) (suc (deep ks)) (omega arith) p) s refl (unary_prefix (deep ks) (context ks) hall kind o site ts w.1.0 w.1.1 w.1.2 p (fronted kind site line ts) q w.1.3) w.1.4
        | inr x ↦ absurd x
      ]

  step_wanted : (o : StepOp) (site : ℕ) (line : Bool) (ks : List Frame) (ts : List Token) → Next P tree (stepped o site ks) ts → LeftWant P tree ks (tok (k.Step o) site line ∷ ts)
  step_wanted o site line ks ts h =
      let hall : List Token = tok (k.Step o) site line ∷ ts in
      let g = next_when P tree (takes_unary ks) (Some (wants (frame.Step site o) ks)) ts h in
      let p : P (suc (deep ks)) = down (suc (deep ks)) (1 + depth ks) (omega (arith, deep_is ks)) g.1.0 in
      elim g.1.1 [
        | inl w ↦ absurd w.1.3
        | inr x ↦ up_wanted P tree ks site hall (expr.Step site site o true x.0) call x.1 (down (deep ks) (suc (deep ks)) (omega arith) p) (starts_fine P tree ks (k.Step o) site line ts refl refl) refl (unary_step (deep ks) (context ks) hall o site ts x.0 x.1 p (fronted (k.Step o) site line ts) x.2) x.3
      ]

  round_parameters : (d : ℕ) (ts : List Token) (names : List Identifier) (rest : List Token) → NamesNest P names d → IsParameters ts names rest → IsArrowParameters P d ts names rest
  round_parameters d ts [] rest p h = parameters_none ts rest h
  round_parameters d ts (n ∷ names) rest p h = parameters_round ts n names rest p h

  round_wanted : (site : ℕ) (line : Bool) (ks : List Frame) (ts : List Token) → P (deep ks) → LeftWant P tree (frame.Bracket (bracket.Round site) ∷ ks) ts → LeftWant P tree ks (tok k.OpenRound site line ∷ ts)
  round_wanted site line ks ts p h =
      let hall : List Token = tok k.OpenRound site line ∷ ts in
      let s = starts_fine P tree ks k.OpenRound site line ts refl refl in
      let b = fronted k.OpenRound site line ts in
      elim h [
        | inl w ↦ primary_wanted P tree ks site w.1.0 hall w.1.4.1 p s refl (primary_round (deep ks) (context ks) hall site ts w.1.0 w.1.1 w.1.2 w.1.4.0 w.1.4.1 b w.1.3 w.1.4.2) w.1.4.3
        | inr (inl x) ↦ target_wanted P tree ks site x.0 hall x.3.1 p s refl (target_round (deep ks) (context ks) hall site ts x.0 x.1 x.3.0 x.3.1 b x.3.3.0 x.2 x.3.2) x.3.3.1
        | inr (inr x) ↦ arrow_wanted P tree ks site x.1.0 hall x.1.1 p s refl x.0 (round_parameters (deep ks) hall x.1.0 x.1.1 x.1.3 (site, ts, b, x.1.2)) x.1.4
      ]

  array_wanted : (site : ℕ) (line : Bool) (ks : List Frame) (ts : List Token) → P (deep ks) → LeftWant P tree (frame.Bracket (bracket.Array site []) ∷ ks) ts → LeftWant P tree ks (tok k.OpenSquare site line ∷ ts)
  array_wanted site line ks ts p h =
      let hall : List Token = tok k.OpenSquare site line ∷ ts in
      let w = arguments_of P tree k.CloseSquare (deep ks) (context ks) [] (λ es rest. LeftCall P tree ks site (expr.Array site es) (expr.Array site es) [] rest) ts h in
      primary_wanted P tree ks site (expr.Array site w.0) hall w.1 p (starts_fine P tree ks k.OpenSquare site line ts refl refl) refl (primary_array (deep ks) (context ks) hall site ts w.0 w.1 (fronted k.OpenSquare site line ts) w.2) w.3

  object_wanted : (site : ℕ) (line : Bool) (ks : List Frame) (ts : List Token) → is_arrow ks ≡ false → P (depth ks) × LeftPiece P tree (piece.Key site []) ks ts → LeftWant P tree ks (tok k.OpenBrace site line ∷ ts)
  object_wanted site line ks ts a h =
      let hall : List Token = tok k.OpenBrace site line ∷ ts in
      let w = h.1 in
      primary_wanted P tree ks site (expr.Object site w.0) hall w.1 (at_depth ks h.0) (starts_fine P tree ks k.OpenBrace site line ts a refl) refl (primary_object (deep ks) (context ks) hall site ts w.0 w.1 (fronted k.OpenBrace site line ts) w.2) w.3

  brace_wanted : (site : ℕ) (line : Bool) (ks : List Frame) (ts : List Token) → Next P tree (want_brace site ks) ts → LeftWant P tree ks (tok k.OpenBrace site line ∷ ts)
  brace_wanted site line (frame.Pending (pending.Arrow from names) ∷ ks) ts h = inr (site, ts, fronted k.OpenBrace site line ts, h.1)
  brace_wanted site line ks ts h = object_wanted site line ks ts refl h

  close_in_wanted : (site : ℕ) (line : Bool) (b : Bracket) (ks : List Frame) (ts : List Token) → Next P tree (want_close_in b ks) ts → LeftWant P tree (frame.Bracket b ∷ ks) (tok k.CloseRound site line ∷ ts)
  close_in_wanted site line (bracket.Round site') ks ts h =
      let g = next_when P tree (takes_assign ks) (Some (at (mode.Heading (heading.Arrow site' [])) ks)) ts h in
      inr (inr (g.0, ([], ts, names_none (tok k.CloseRound site line ∷ ts) site ts (fronted k.CloseRound site line ts), tt, g.1.1)))
  close_in_wanted site line (bracket.Call from first sfx site' items) ks ts h = inr (site, ts, fronted k.CloseRound site line ts, called_left P tree from first (sfx ++ suffix.Call site' items ∷ []) ks ts h.1)
  close_in_wanted site line (bracket.New site' n items) ks ts h = inr (site, ts, fronted k.CloseRound site line ts, primary_left P tree site' (expr.New site' n items) ks ts h.1)
  close_in_wanted site line _ ks ts h = absurd h

  no_update_wanted : (site : ℕ) (line : Bool) (q : Part) (ks : List Frame) (ts : List Token) → Next P tree (no_update q ks) ts → LeftWant P tree (frame.Part q ∷ ks) (tok k.CloseRound site line ∷ ts)
  no_update_wanted site line (part.ForUpdate site' first test) ks ts h = inr (site, ts, fronted k.CloseRound site line ts, (h.1.0, h.1.1, h.1.2, h.1.3))
  no_update_wanted site line _ ks ts h = absurd h

  close_wanted : (site : ℕ) (line : Bool) (ks : List Frame) (ts : List Token) → Next P tree (want_close ks) ts → LeftWant P tree ks (tok k.CloseRound site line ∷ ts)
  close_wanted site line (frame.Bracket b ∷ ks) ts h = close_in_wanted site line b ks ts h
  close_wanted site line (frame.Part q ∷ ks) ts h = no_update_wanted site line q ks ts h
  close_wanted site line _ ts h = absurd h

  square_wanted : (site : ℕ) (line : Bool) (ks : List Frame) (ts : List Token) → Next P tree (want_square ks) ts → LeftWant P tree ks (tok k.CloseSquare site line ∷ ts)
  square_wanted site line (frame.Bracket (bracket.Array site' items) ∷ ks) ts h = inr (site, ts, fronted k.CloseSquare site line ts, primary_left P tree site' (expr.Array site' items) ks ts h.1)
  square_wanted site line _ ts h = absurd h

  no_test_wanted : (site : ℕ) (line : Bool) (ks : List Frame) (ts : List Token) → Next P tree (no_test ks) ts → LeftWant P tree ks (tok k.Semicolon site line ∷ ts)
  no_test_wanted site line (frame.Part (part.ForTest site' first) ∷ ks) ts h = inr (site, ts, fronted k.Semicolon site line ts, update_of P tree site' first None ks ts h.1)
  no_test_wanted site line _ ts h = absurd h

  binary_wanted : (o : BinaryOp) (site : ℕ) (line : Bool) (ks : List Frame) (ts : List Token) → Next P tree (want_binary o site ks) ts → LeftWant P tree ks (tok (k.Binary o) site line ∷ ts)
  binary_wanted op.Add site line ks ts h = prefix_wanted (k.Binary op.Add) unary.Plus site line ks ts refl (starts_fine P tree ks (k.Binary op.Add) site line ts refl refl) h
  binary_wanted op.Subtract site line ks ts h = prefix_wanted (k.Binary op.Subtract) unary.Minus site line ks ts refl (starts_fine P tree ks (k.Binary op.Subtract) site line ts refl refl) h
  binary_wanted _ site line ks ts h = absurd h

  mark_wanted : (site : ℕ) (line : Bool) (ks : List Frame) (kind : TokenKind) (ts : List Token) → Next P tree (want_mark site ks kind) ts → LeftWant P tree ks (tok kind site line ∷ ts)
  mark_wanted site line ks (k.Binary o) ts h = binary_wanted o site line ks ts h
  mark_wanted site line ks k.Not ts h = prefix_wanted k.Not unary.Not site line ks ts refl (starts_fine P tree ks k.Not site line ts refl refl) h
  mark_wanted site line ks k.Complement ts h = prefix_wanted k.Complement unary.Complement site line ks ts refl (starts_fine P tree ks k.Complement site line ts refl refl) h
  mark_wanted site line ks (k.Step o) ts h = step_wanted o site line ks ts h
  mark_wanted site line ks k.OpenRound ts h = round_wanted site line ks ts (down (deep ks) (0 + depth ks) (omega (arith, deep_is ks)) h.0) h.1
  mark_wanted site line ks k.OpenSquare ts h = array_wanted site line ks ts (down (deep ks) (0 + depth ks) (omega (arith, deep_is ks)) h.0) h.1
  mark_wanted site line ks k.OpenBrace ts h = brace_wanted site line ks ts h
  mark_wanted site line ks k.CloseRound ts h = close_wanted site line ks ts h
  mark_wanted site line ks k.CloseSquare ts h = square_wanted site line ks ts h
  mark_wanted site line ks k.Semicolon ts h = no_test_wanted site line ks ts h
  mark_wanted site line ks _ ts h = absurd h

  word_wanted : (w : Word) (units : List ℕ) (e : Expr) (site : ℕ) (line : Bool) (ks : List Frame) (ts : List Token) → IsPrimary P (deep ks) (context ks) (tok (k.Word w units) site line ∷ ts) e ts → Next P tree (primary site e ks) ts → LeftWant P tree ks (tok (k.Word w units) site line ∷ ts)
  word_wanted w units e site line ks ts i h =
      primary_wanted P tree ks site e (tok (k.Word w units) site line ∷ ts) ts (at_depth ks h.0) (starts_fine P tree ks (k.Word w units) site line ts refl refl) refl i (primary_left P tree site e ks ts h.1)

  this_wanted : (units : List ℕ) (site : ℕ) (line : Bool) (ks : List Frame) (ts : List Token) → Next P tree (want_word word.This site ks) ts → LeftWant P tree ks (tok (k.Word word.This units) site line ∷ ts)
  this_wanted units site line ks ts h =
      let g = next_when P tree (context ks).has_this (primary site (expr.This site) ks) ts h in
      word_wanted word.This units (expr.This site) site line ks ts (primary_this (deep ks) (context ks) (tok (k.Word word.This units) site line ∷ ts) site ts g.0 (units, fronted (k.Word word.This units) site line ts)) g.1

  new_wanted : (units : List ℕ) (site : ℕ) (line : Bool) (ks : List Frame) (ts : List Token) → P (deep ks) → LeftPiece P tree (piece.New site) ks ts → LeftWant P tree ks (tok (k.Word word.New units) site line ∷ ts)
  new_wanted units site line ks ts p h =
      let hall : List Token = tok (k.Word word.New units) site line ∷ ts in
      let c = h.3 in
      first_wanted P tree ks site (expr.New site h.0 c.3.0) hall c.3.1 p (starts_fine P tree ks (k.Word word.New units) site line ts refl refl) refl
      (first_new (deep ks) (context ks) hall site ts h.0 h.1 c.0 c.1 c.3.0 c.3.1 (units, fronted (k.Word word.New units) site line ts) h.2 c.2 c.3.2) c.3.3

  function_wanted : (units : List ℕ) (site : ℕ) (line : Bool) (ks : List Frame) (ts : List Token) → P (deep ks) → LeftPiece P tree (piece.Function site) ks ts → LeftWant P tree ks (tok (k.Word word.Function units) site line ∷ ts)
  function_wanted units site line ks ts p h =
      let hall : List Token = tok (k.Word word.Function units) site line ∷ ts in
      let g = h.6 in
      let l = g.3 in
      let body : IsBody P (deep ks) in_body h.3 l.0 l.3.1 = body_braces (deep ks) in_body h.3 g.0 g.1 l.0 l.1 l.3.0 l.3.1 g.2 l.2 l.3.2 in
      primary_wanted P tree ks site (expr.FunctionExpression site h.0 h.2 l.0) hall l.3.1 p (starts_fine P tree ks (k.Word word.Function units) site line ts refl refl) refl
      (primary_function (deep ks) (context ks) hall site ts h.0 h.1 h.2 h.3 l.0 l.3.1 (units, fronted (k.Word word.Function units) site line ts) h.4 h.5 body) l.3.3

  pub back_want_word : (w : Word) (units : List ℕ) (site : ℕ) (line : Bool) (ks : List Frame) (ts : List Token) → Next P tree (want_word w site ks) ts → LeftWant P tree ks (tok (k.Word w units) site line ∷ ts)
  back_want_word word.This units site line ks ts h = this_wanted units site line ks ts h
  back_want_word word.Null units site line ks ts h = word_wanted word.Null units (expr.Null site) site line ks ts (primary_null (deep ks) (context ks) (tok (k.Word word.Null units) site line ∷ ts) site ts (units, fronted (k.Word word.Null units) site line ts)) h
  back_want_word word.True units site line ks ts h = word_wanted word.True units (expr.True site) site line ks ts (primary_true (deep ks) (context ks) (tok (k.Word word.True units) site line ∷ ts) site ts (units, fronted (k.Word word.True units) site line ts)) h
  back_want_word word.False units site line ks ts h = word_wanted word.False units (expr.False site) site line ks ts (primary_false (deep ks) (context ks) (tok (k.Word word.False units) site line ∷ ts) site ts (units, fronted (k.Word word.False units) site line ts)) h
  back_want_word word.TypeOf units site line ks ts h = prefix_wanted (k.Word word.TypeOf units) unary.TypeOf site line ks ts refl (starts_fine P tree ks (k.Word word.TypeOf units) site line ts refl refl) h
  back_want_word word.New units site line ks ts h = new_wanted units site line ks ts (at_depth ks h.0) h.1
  back_want_word word.Function units site line ks ts h = function_wanted units site line ks ts (at_depth ks h.0) h.1
  back_want_word _ units site line ks ts h = absurd h

  pub back_want : (site : ℕ) (line : Bool) (ks : List Frame) (kind : TokenKind) (ts : List Token) → Next P tree (want site ks kind) ts → LeftWant P tree ks (tok kind site line ∷ ts)
  back_want site line ks (k.Name name) ts h = back_name site line name ks ts (at_depth ks h.0) h.1
  back_want site line ks (k.Word w units) ts h = back_want_word w units site line ks ts h
  back_want site line ks (k.Number n) ts h =
      let hall : List Token = tok (k.Number n) site line ∷ ts in
      let b = fronted (k.Number n) site line ts in
      literal_wanted site (expr.Number site n) ks hall ts (at_depth ks h.0) refl (λ s. starts_text P tree ks (k.Number n) site line ts refl (number_opens n site line ts) s) (primary_number (deep ks) (context ks) hall n site ts b) (λ at' rest c. static_number hall n site ts at' rest b c) h.1
  back_want site line ks (k.Text text) ts h =
      let hall : List Token = tok (k.Text text) site line ∷ ts in
      let b = fronted (k.Text text) site line ts in
      literal_wanted site (expr.Text site text) ks hall ts (at_depth ks h.0) refl (λ s. starts_text P tree ks (k.Text text) site line ts refl (text_opens text site line ts) s) (primary_text (deep ks) (context ks) hall text site ts b) (λ at' rest c. static_text hall text site ts at' rest b c) h.1
  back_want site line ks kind ts h = mark_wanted site line ks kind ts h

  -- ---- pieces

  member_then : (d : ℕ) (c : Context) (members : List (Member Expr)) (m : Member Expr) (K : List (Member Expr) → List Token → Type 0) (whole mid : List Token) → IsMember P d c whole m mid → AfterMember P tree d c members m K mid → (ms : List (Member Expr)) × (rest : List Token) × IsMembers P d c whole ms rest × K (members ++ ms) rest
  member_then d c members m K whole mid i h =
      elim h [
        | inl x ↦ (m ∷ [], x.1, members_last d c whole m mid x.0 x.1 i x.2, x.3)
        | inr x ↦ (m ∷ x.2, x.3, members_more d c whole m mid x.0 x.1 x.2 x.3 i x.4 x.5, subst (λ (z : List (Member Expr)). K z x.3) (append_assoc members (m ∷ []) x.2) x.6)
      ]

  key_then : (site : ℕ) (members : List (Member Expr)) (site' : ℕ) (name : Key) (ks : List Frame) (whole ts : List Token) → IsKey whole name site' ts → LeftPiece P tree (piece.OtherKey site members site' name) ks ts → LeftPiece P tree (piece.Key site members) ks whole
  key_then site members site' name ks whole ts i h =
      let x = h.3 in
      member_then (deep ks) (context ks) members (member.Value site' name x.0) (λ ms rest. LeftCall P tree ks site (expr.Object site ms) (expr.Object site ms) [] rest) whole x.2
      (member_value (deep ks) (context ks) whole name site' ts h.0 h.1 x.0 x.1 x.2 i h.2 x.3) x.4

  name_then : (site : ℕ) (members : List (Member Expr)) (n : Identifier) (ks : List Frame) (whole ts : List Token) → IsIdentifier whole n ts → is_proto n.name ≡ false → LeftPiece P tree (piece.NameKey site members n) ks ts → LeftPiece P tree (piece.Key site members) ks whole
  name_then site members n ks whole ts i q h =
      elim h [
        | inl x ↦ key_then site members n.site (key.Text n.name) ks whole ts (key_word whole n.name n.site ts (inl i.begins) q) x
        | inr x ↦ member_then (deep ks) (context ks) members (member.Shorthand n) (λ ms rest. LeftCall P tree ks site (expr.Object site ms) (expr.Object site ms) [] rest) whole ts (member_shorthand (deep ks) (context ks) whole n ts i q) x
      ]

  back_key : (site : ℕ) (members : List (Member Expr)) (at' : ℕ) (line : Bool) (ks : List Frame) (kind : TokenKind) (ts : List Token) → Next P tree (key_on site members at' ks kind) ts → LeftPiece P tree (piece.Key site members) ks (tok kind at' line ∷ ts)
  back_key site members at' line ks (k.Name name) ts h =
      let n : Identifier = record { site = at'; name = name } in
      let g = next_unless P tree (is_proto name) (Some (at (mode.Piece (piece.NameKey site members n)) ks)) ts h in
      name_then site members n ks (tok (k.Name name) at' line ∷ ts) ts (record { begins = fronted (k.Name name) at' line ts }) g.0 g.1.1
  back_key site members at' line ks (k.Word w name) ts h =
      let g = next_unless P tree (is_proto name) (Some (at (mode.Piece (piece.OtherKey site members at' (key.Text name))) ks)) ts h in
      key_then site members at' (key.Text name) ks (tok (k.Word w name) at' line ∷ ts) ts (key_word (tok (k.Word w name) at' line ∷ ts) name at' ts (inr (w, fronted (k.Word w name) at' line ts)) g.0) g.1.1
  back_key site members at' line ks (k.Text name) ts h =
      let g = next_unless P tree (is_proto name) (Some (at (mode.Piece (piece.OtherKey site members at' (key.Text name))) ks)) ts h in
      key_then site members at' (key.Text name) ks (tok (k.Text name) at' line ∷ ts) ts (key_text (tok (k.Text name) at' line ∷ ts) name at' ts (fronted (k.Text name) at' line ts) g.0) g.1.1
  back_key site members at' line ks (k.Number n) ts h = key_then site members at' (key.Number n) ks (tok (k.Number n) at' line ∷ ts) ts (key_number (tok (k.Number n) at' line ∷ ts) n at' ts (fronted (k.Number n) at' line ts)) h.1
  back_key site members at' line ks k.CloseBrace ts h =
      ([], ts, members_none (deep ks) (context ks) (tok k.CloseBrace at' line ∷ ts) at' ts (fronted k.CloseBrace at' line ts), subst (λ (z : List (Member Expr)). LeftCall P tree ks site (expr.Object site z) (expr.Object site z) [] ts) (sym (append-nil members)) (primary_left P tree site (expr.Object site members) ks ts h.1))
  back_key site members at' line ks _ ts h = absurd h

  value_due : (site : ℕ) (members : List (Member Expr)) (key_site : ℕ) (name : Key) (at' : ℕ) (line : Bool) (ks : List Frame) (ts : List Token) → Next P tree (to_value site members key_site name ks) ts → LeftPiece P tree (piece.OtherKey site members key_site name) ks (tok k.Colon at' line ∷ ts)
  value_due site members key_site name at' line ks ts h = elim h.1 [ inl w ↦ (at', ts, fronted k.Colon at' line ts, (w.1.0, w.1.1, w.1.2, w.1.3, w.1.4)) | inr x ↦ absurd x ]

  back_name_key : (site : ℕ) (members : List (Member Expr)) (n : Identifier) (at' : ℕ) (line : Bool) (ks : List Frame) (kind : TokenKind) (ts : List Token) → Next P tree (name_key_on site members n ks kind) ts → LeftPiece P tree (piece.NameKey site members n) ks (tok kind at' line ∷ ts)
  back_name_key site members n at' line ks k.Colon ts h = inl (value_due site members n.site (key.Text n.name) at' line ks ts h)
  back_name_key site members n at' line ks k.Comma ts h = inr (inr (at', ts, h.1.0, h.1.1, fronted k.Comma at' line ts, h.1.2, h.1.3))
  back_name_key site members n at' line ks k.CloseBrace ts h = inr (inl (at', ts, fronted k.CloseBrace at' line ts, primary_left P tree site (expr.Object site (members ++ member.Shorthand n ∷ [])) ks ts h.1))
  back_name_key site members n at' line ks _ ts h = absurd h

  back_other_key : (site : ℕ) (members : List (Member Expr)) (key_site : ℕ) (name : Key) (at' : ℕ) (line : Bool) (ks : List Frame) (kind : TokenKind) (ts : List Token) → Next P tree (other_key_on site members key_site name ks kind) ts → LeftPiece P tree (piece.OtherKey site members key_site name) ks (tok kind at' line ∷ ts)
  back_other_key site members key_site name at' line ks k.Colon ts h = value_due site members key_site name at' line ks ts h
  back_other_key site members key_site name at' line ks _ ts h = absurd h

  back_new : (site at' : ℕ) (line : Bool) (ks : List Frame) (kind : TokenKind) (ts : List Token) → Next P tree (new_on site at' ks kind) ts → LeftPiece P tree (piece.New site) ks (tok kind at' line ∷ ts)
  back_new site at' line ks (k.Name name) ts h = (record { site = at'; name = name }, ts, record { begins = fronted (k.Name name) at' line ts }, h.1)
  back_new site at' line ks _ ts h = absurd h

  back_new_name : (site : ℕ) (n : Identifier) (at' : ℕ) (line : Bool) (ks : List Frame) (kind : TokenKind) (ts : List Token) → Next P tree (new_name_on site n ks kind) ts → LeftPiece P tree (piece.NewName site n) ks (tok kind at' line ∷ ts)
  back_new_name site n at' line ks k.OpenRound ts h =
      let w = arguments_of P tree k.CloseRound (deep ks) (context ks) [] (λ es rest. LeftCall P tree ks site (expr.New site n es) (expr.New site n es) [] rest) ts h.1 in
      (at', ts, fronted k.OpenRound at' line ts, (w.0, w.1, w.2, w.3))
  back_new_name site n at' line ks _ ts h = absurd h

  back_property : (from : ℕ) (first : Expr) (sfx : List (Suffix Expr)) (site at' : ℕ) (line : Bool) (ks : List Frame) (kind : TokenKind) (ts : List Token) → Next P tree (property_on from first sfx site ks kind) ts → LeftPiece P tree (piece.Property from first sfx site) ks (tok kind at' line ∷ ts)
  back_property from first sfx site at' line ks (k.Name name) ts h = (name, at', ts, inl (fronted (k.Name name) at' line ts), accessed_left P tree from first sfx (access.Property site name) ks ts h.1)
  back_property from first sfx site at' line ks (k.Word w name) ts h = (name, at', ts, inr (w, fronted (k.Word w name) at' line ts), accessed_left P tree from first sfx (access.Property site name) ks ts h.1)
  back_property from first sfx site at' line ks _ ts h = absurd h

  back_function : (site at' : ℕ) (line : Bool) (ks : List Frame) (kind : TokenKind) (ts : List Token) → Next P tree (function_on site at' ks kind) ts → LeftPiece P tree (piece.Function site) ks (tok kind at' line ∷ ts)
  back_function site at' line ks (k.Name name) ts h =
      let n : Identifier = record { site = at'; name = name } in
      (Some n, ts, h.1.0, h.1.1, name_some (tok (k.Name name) at' line ∷ ts) n ts (record { begins = fronted (k.Name name) at' line ts }), h.1.2, h.1.3)
  back_function site at' line ks k.OpenRound ts h =
      (None, tok k.OpenRound at' line ∷ ts, h.1.0, h.1.1, name_none (tok k.OpenRound at' line ∷ ts), (at', ts, fronted k.OpenRound at' line ts, h.1.2), h.1.3)
  back_function site at' line ks _ ts h = absurd h

  pub back_piece : (p : Piece) (site : ℕ) (line : Bool) (ks : List Frame) (kind : TokenKind) (ts : List Token) → Next P tree (piece_on p site ks kind) ts → LeftPiece P tree p ks (tok kind site line ∷ ts)
  back_piece (piece.Key site' members) site line ks kind ts h = back_key site' members site line ks kind ts h
  back_piece (piece.NameKey site' members n) site line ks kind ts h = back_name_key site' members n site line ks kind ts h
  back_piece (piece.OtherKey site' members key_site name) site line ks kind ts h = back_other_key site' members key_site name site line ks kind ts h
  back_piece (piece.New site') site line ks kind ts h = back_new site' site line ks kind ts h
  back_piece (piece.NewName site' n) site line ks kind ts h = back_new_name site' n site line ks kind ts h
  back_piece (piece.Property from first sfx site') site line ks kind ts h = back_property from first sfx site' site line ks kind ts h
  back_piece (piece.Function site') site line ks kind ts h = back_function site' site line ks kind ts h

  -- ---- parameters

  headed_left : (h : Header) (names : List Identifier) (ks : List Frame) (ts : List Token) → LeftHeading P tree (headed h names) ks ts → Headed P tree h names ks ts
  headed_left (header.Function site n) names ks ts l = l
  headed_left (header.Value site n) names ks ts l = l
  headed_left (header.Arrow from) names ks ts l = l

  back_open : (h : Header) (site : ℕ) (line : Bool) (ks : List Frame) (kind : TokenKind) (ts : List Token) → Next P tree (open_on h ks kind) ts → LeftHeading P tree (heading.Open h) ks (tok kind site line ∷ ts)
  back_open h site line ks k.OpenRound ts n = (n.1.0, n.1.1, (site, ts, fronted k.OpenRound site line ts, n.1.2), n.1.3)
  back_open h site line ks _ ts n = absurd n

  back_parameters : (h : Header) (names : List Identifier) (site : ℕ) (line : Bool) (ks : List Frame) (kind : TokenKind) (ts : List Token) → Next P tree (parameters_on h names site ks kind) ts → LeftHeading P tree (heading.Parameters h names) ks (tok kind site line ∷ ts)
  back_parameters h names site line ks (k.Name name) ts n =
      let i : Identifier = record { site = site; name = name } in
      let l = n.1 in
      (i ∷ l.0, l.1, name_and P tree site line name ts l.0 l.1 l.2, subst (λ (z : List Identifier). Headed P tree h z ks l.1) (append_assoc names (i ∷ []) l.0) l.3)
  back_parameters h names site line ks k.CloseRound ts n =
      ([], ts, names_none (tok k.CloseRound site line ∷ ts) site ts (fronted k.CloseRound site line ts), subst (λ (z : List Identifier). Headed P tree h z ks ts) (sym (append-nil names)) (headed_left h names ks ts n.1))
  back_parameters h names site line ks _ ts n = absurd n

  back_parameter : (h : Header) (names : List Identifier) (site : ℕ) (line : Bool) (ks : List Frame) (kind : TokenKind) (ts : List Token) → Next P tree (parameter_on h names ks kind) ts → LeftHeading P tree (heading.Parameter h names) ks (tok kind site line ∷ ts)
  back_parameter h names site line ks k.Comma ts n = (n.1.0, n.1.1, inr (site, ts, fronted k.Comma site line ts, n.1.2), n.1.3)
  back_parameter h names site line ks k.CloseRound ts n =
      ([], ts, inl (site, fronted k.CloseRound site line ts, refl), subst (λ (z : List Identifier). Headed P tree h z ks ts) (sym (append-nil names)) (headed_left h names ks ts n.1))
  back_parameter h names site line ks _ ts n = absurd n

  back_arrow_due : (from : ℕ) (names : List Identifier) (site : ℕ) (line : Bool) (ks : List Frame) (kind : TokenKind) (ts : List Token) → Next P tree (arrow_due_on line from names ks kind) ts → ArrowIn P tree from names ks (tok kind site line ∷ ts)
  back_arrow_due from names site line ks k.Arrow ts n = back_to_arrow P tree line site from names ks ts n
  back_arrow_due from names site line ks _ ts n = absurd n

  pub back_braces : (b : Braces) (site : ℕ) (line : Bool) (ks : List Frame) (kind : TokenKind) (ts : List Token) → Next P tree (braces_on b ks kind) ts → BracesIn P tree b ks (lead P tree ks) (tok kind site line ∷ ts)
  back_braces b site line ks k.OpenBrace ts n = (site, ts, fronted k.OpenBrace site line ts, n.1)
  back_braces b site line ks _ ts n = absurd n

  pub back_heading : (h : Heading) (site : ℕ) (line : Bool) (ks : List Frame) (kind : TokenKind) (ts : List Token) → Next P tree (heading_on line h site ks kind) ts → LeftHeading P tree h ks (tok kind site line ∷ ts)
  back_heading (heading.Open h) site line ks kind ts n = back_open h site line ks kind ts n
  back_heading (heading.Parameters h names) site line ks kind ts n = back_parameters h names site line ks kind ts n
  back_heading (heading.Parameter h names) site line ks kind ts n = back_parameter h names site line ks kind ts n
  back_heading (heading.Arrow from names) site line ks kind ts n = back_arrow_due from names site line ks kind ts n
  back_heading (heading.Braces b) site line ks kind ts n = back_braces b site line ks kind ts n
