-- A step backwards over the tokens that end an expression, and any step.
use Rattle.std.proofs.Common.{◌≡◌, ℕ, ◌≤◌, Bool, true, false, cond, List, [], ◌∷◌, ◌++◌, Some, None, refl, sym, subst, ◌∙◌, inl, inr}
use Rattle.std.specs.Prelude.{◌⊎◌}
use Rattle.std.proofs.lemmas.List.{append-nil}
use Rattle.js_ast.specs.declared.expression.Expr.{Expr}
use Rattle.js_ast.specs.declared.expression.Expr.TheVariants as expr
use Rattle.js_ast.specs.declared.statement.Stmt.{Stmt}
use Rattle.js_ast.specs.declared.statement.Stmt.TheVariants as stmt
use Rattle.js_ast.specs.declared.operators.StepOp.{StepOp}
use Rattle.js_ast.specs.declared.parts.Identifier.{Identifier}
use Rattle.js_ast.specs.declared.parts.Access.TheVariants as access
use Rattle.js_ast.specs.declared.parts.Suffix.{Suffix}
use Rattle.js_ast.specs.declared.parts.Suffix.TheVariants as suffix
use Rattle.js_ast.specs.declared.parts.Target.{Target}
use Rattle.js_ast.specs.declared.parts.Member.TheVariants as member
use Rattle.js_ast.specs.declared.parts.LoopHead.TheVariants as head
use Rattle.js_grammar.specs.declared.token.Token.{Token}
use Rattle.js_grammar.specs.declared.token.TokenKind.{TokenKind}
use Rattle.js_grammar.specs.declared.token.TokenKind.TheVariants as k
use Rattle.js_grammar.specs.Phrases.{Tail, no_expression, call, step as behind, braces, continues, is_semicolon, may_end, IsEnd, Context, outermost}
use Rattle.js_grammar.specs.Grammar.{IsAssign}
use Rattle.js_grammar.specs.Grammar.{stmts_none, finally_none}
use Rattle.js_reading.specs.declared.frame.Frame.{Frame}
use Rattle.js_reading.specs.declared.frame.Frame.TheVariants as frame
use Rattle.js_reading.specs.declared.frame.Bracket.{Bracket}
use Rattle.js_reading.specs.declared.frame.Bracket.TheVariants as bracket
use Rattle.js_reading.specs.declared.frame.Part.{Part}
use Rattle.js_reading.specs.declared.frame.Part.TheVariants as part
use Rattle.js_reading.specs.declared.frame.Below.TheVariants as below
use Rattle.js_reading.specs.declared.frame.Braces.TheVariants as list
use Rattle.js_reading.specs.declared.frame.Closed.{Closed}
use Rattle.js_reading.specs.declared.frame.Over.{Over}
use Rattle.js_reading.specs.declared.frame.Declaring.{Declaring}
use Rattle.js_reading.specs.declared.mode.Mode.{Mode}
use Rattle.js_reading.specs.declared.mode.Mode.TheVariants as mode
use Rattle.js_reading.specs.declared.mode.Operand.{Operand}
use Rattle.js_reading.specs.declared.mode.Operand.TheVariants as operand
use Rattle.js_reading.specs.declared.mode.Header.TheVariants as header
use Rattle.js_reading.specs.declared.mode.Heading.TheVariants as heading
use Rattle.js_reading.specs.declared.mode.Ending.{Ending}
use Rattle.js_reading.specs.declared.mode.Ending.TheVariants as ending
use Rattle.js_reading.specs.declared.mode.Trying.{Trying}
use Rattle.js_reading.specs.declared.mode.Trying.TheVariants as trying
use Rattle.js_reading.specs.declared.mode.Opening.{Opening}
use Rattle.js_reading.specs.declared.mode.Opening.TheVariants as opening
use Rattle.js_reading.specs.declared.mode.Parser.{Parser}
use Rattle.js_reading.specs.Frames.{◌>>=◌, when, context, takes_assign}
use Rattle.js_reading.specs.Operands.{at, tail_of, wrapped, is_literal, whole, close_round_in, close_square_in, on_square_close, on_colon_in, on_colon, comma_in, comma_names, comma_round}
use Rattle.js_reading.specs.Statements.{arm, settle, with_declarator, declared, is_statement, is_let, over_of, declaration_over, after, semicolon_part, close_round_part, comma_part, bare}
use Rattle.js_reading.specs.Reading.{continues_by, ends_before, close_round_of, on_close_round, comma_of, on_comma, semicolon_of, on_semicolon, close_brace_of, on_close_brace, step_mark, ends_by, step_in, step, script_of, ended, no_more, ended_ending, ended_trying, ended_opening, ended_operand, ending_in, ends}
use Rattle.js_laws.proofs.Left.{deep, tok, is_close_square, Closing, AfterArgument, ArrowIn, Holds, Targets, Overs, NotStatic, LeftCall, LeftOperand, LeftStatement, left_in, Left, Next}
use Rattle.js_laws.proofs.ThroughFrames.{some_is, bind_some, up_unary, whole_left}
use Rattle.js_laws.proofs.BackOperators.{fronted, next_bind, next_when, not_static, primary_left, called_left, accessed_left, arguments_of, back_arrow, back_step, back_continues}
use Rattle.js_laws.proofs.BackOperands.{back_want, back_piece, back_heading, update_of, test_of}
use Rattle.js_laws.proofs.BackStatements.{back_after, back_item, back_below}
use Rattle.js_laws.proofs.BackOpenings.{declared_at, declaration_ends, declares_on, back_opening, back_ending, back_trying}

-- the statement may end before the token
may_end_line : (t : Tail) (kind : TokenKind) (site : ℕ) (ts : List Token) → is_semicolon kind ≡ false → continues t kind ≡ false → may_end t (tok kind site true ∷ ts) ≡ true
may_end_line t k.CloseBrace site ts s c = refl
may_end_line t k.Semicolon site ts s c = absurd cc
may_end_line t kind site ts s c = rw c refl

module _ (P : ℕ → Type 0) (tree : List Stmt) where
  -- the expression's statement is over
  over_part_left : (e : Expr) (t : Tail) (p : Part) (ks : List Frame) (o : Over) (ts rest : List Token) → over_of e (frame.Part p ∷ ks) ≡ Some o → IsEnd t ts rest → Overs P tree o.frames o.value rest → Holds P tree (frame.Part p ∷ ks) e t ts
  over_part_left e t (part.Express site) ks o ts rest q i h = (rest, i, subst (λ (z : Over). Overs P tree z.frames z.value rest) (sym (some_is (record { value = stmt.Express site e; frames = ks }) o q)) h)
  over_part_left e t (part.Return site) ks o ts rest q i h = (rest, i, subst (λ (z : Over). Overs P tree z.frames z.value rest) (sym (some_is (record { value = stmt.Return site (Some e); frames = ks }) o q)) h)
  over_part_left e t (part.Throw site) ks o ts rest q i h = (rest, i, subst (λ (z : Over). Overs P tree z.frames z.value rest) (sym (some_is (record { value = stmt.Throw site e; frames = ks }) o q)) h)
  over_part_left e t (part.Declare d n) ks o ts rest q i h = over_declared (is_statement d.place) refl q
    where
      over_declared : (b : Bool) → is_statement d.place ≡ b → (when b (Some (declared d n (Some e))) >>= λ s. Some (record { value = s; frames = ks })) ≡ Some o → Holds P tree (frame.Part (part.Declare d n) ∷ ks) e t ts
      over_declared true r g = inl (declared_at P tree d.place d.site d.kind (with_declarator d n (Some e)) ks t ts rest r i (subst (λ (z : Over). Overs P tree z.frames z.value rest) (sym (some_is (record { value = declared d n (Some e); frames = ks }) o g)) h))
      over_declared false r g = absurd cc
  over_part_left e t _ ks o ts rest q i h = absurd cc

  over_left : (e : Expr) (t : Tail) (ks : List Frame) (o : Over) (ts rest : List Token) → over_of e ks ≡ Some o → IsEnd t ts rest → Overs P tree o.frames o.value rest → Holds P tree ks e t ts
  over_left e t (frame.Part p ∷ ks) o ts rest q i h = over_part_left e t p ks o ts rest q i h
  over_left e t _ o ts rest q i h = absurd cc

  -- an operand between parentheses
  wrapped_value : (e : Expr) (t : Tail) (from site' site : ℕ) (line : Bool) (ks : List Frame) (ts : List Token) → LeftCall P tree ks site' e e [] ts → Holds P tree (frame.Bracket (bracket.Round site') ∷ ks) e t (tok k.CloseRound site line ∷ ts)
  wrapped_value e t from site' site line ks ts h = (site, ts, fronted k.CloseRound site line ts, h)

  wrapped_call : (value first : Expr) (sfx : List (Suffix Expr)) (from site' site : ℕ) (line : Bool) (ks : List Frame) (ts : List Token) → LeftCall P tree ks site' value value [] ts → LeftCall P tree (frame.Bracket (bracket.Round site') ∷ ks) from value first sfx (tok k.CloseRound site line ∷ ts)
  wrapped_call value first sfx from site' site line ks ts h = inl (up_unary P tree (frame.Bracket (bracket.Round site') ∷ ks) from value call (tok k.CloseRound site line ∷ ts) (wrapped_value value call from site' site line ks ts h))

  wrapped_target : (y : Target Expr) (from site' site : ℕ) (line : Bool) (ks : List Frame) (ts : List Token) → Targets P tree ks site' y ts → Targets P tree (frame.Bracket (bracket.Round site') ∷ ks) from y (tok k.CloseRound site line ∷ ts)
  wrapped_target y from site' site line ks ts h = inr (inr (site, ts, fronted k.CloseRound site line ts, h))

  back_wrapped : (from site' site : ℕ) (line : Bool) (x : Operand) (ks : List Frame) (ts : List Token) → LeftOperand P tree site' (wrapped x) ks ts → LeftOperand P tree from x (frame.Bracket (bracket.Round site') ∷ ks) (tok k.CloseRound site line ∷ ts)
  back_wrapped from site' site line (operand.Name n) ks ts h =
      elim h [
        | inl c ↦ inl (wrapped_call (expr.Name n) (expr.Name n) [] from site' site line ks ts c)
        | inr (inl g) ↦ inr (inl (g.0, g.1, wrapped_target g.0 from site' site line ks ts g.2))
        | inr (inr (inl g)) ↦ inr (inr (inr (g.2, ([], ts, inl (site, fronted k.CloseRound site line ts, refl), subst (λ (z : Identifier). ArrowIn P tree site' (z ∷ []) ks ts) (sym (some_is n g.0 g.1)) g.3))))
        | inr (inr (inr g)) ↦ absurd g
      ]
  back_wrapped from site' site line (operand.RoundName n) ks ts h =
      elim h [
        | inl c ↦ inl (wrapped_call (expr.Name n) (expr.Name n) [] from site' site line ks ts c)
        | inr (inl g) ↦ inr (inl (g.0, g.1, wrapped_target g.0 from site' site line ks ts g.2))
        | inr (inr (inl g)) ↦ absurd (let d : _ = g.1 in cc)
        | inr (inr (inr g)) ↦ absurd g
      ]
  back_wrapped from site' site line (operand.DeepName n) ks ts h =
      elim h [
        | inl c ↦ inl (wrapped_call (expr.Name n) (expr.Name n) [] from site' site line ks ts c)
        | inr (inl g) ↦ inr (inl (g.0, g.1, wrapped_target g.0 from site' site line ks ts g.2))
        | inr (inr (inl g)) ↦ absurd (let d : _ = g.1 in cc)
        | inr (inr (inr g)) ↦ absurd g
      ]
  back_wrapped from site' site line (operand.Access first earlier last) ks ts h =
      elim h [
        | inl c ↦ inl (wrapped_call (expr.Call first (earlier ++ suffix.Access last ∷ [])) first (earlier ++ suffix.Access last ∷ []) from site' site line ks ts c)
        | inr (inl g) ↦ inr (inl (g.0, g.1, wrapped_target g.0 from site' site line ks ts g.2))
        | inr (inr (inl g)) ↦ absurd (let d : _ = g.1 in cc)
        | inr (inr (inr g)) ↦ absurd g
      ]
  back_wrapped from site' site line (operand.RoundAccess first earlier last) ks ts h =
      elim h [
        | inl c ↦ inl (wrapped_call (expr.Call first (earlier ++ suffix.Access last ∷ [])) (expr.Call first (earlier ++ suffix.Access last ∷ [])) [] from site' site line ks ts c)
        | inr (inl g) ↦ inr (inl (g.0, g.1, wrapped_target g.0 from site' site line ks ts g.2))
        | inr (inr (inl g)) ↦ absurd (let d : _ = g.1 in cc)
        | inr (inr (inr g)) ↦ absurd g
      ]
  back_wrapped from site' site line (operand.Call first suffixes) ks ts h = inl (wrapped_call (expr.Call first suffixes) first suffixes from site' site line ks ts (primary_left P tree site' (expr.Call first suffixes) ks ts h))
  back_wrapped from site' site line (operand.Literal e) ks ts h = inl (inl (tt, wrapped_call e e [] from site' site line ks ts (primary_left P tree site' e ks ts h)))
  back_wrapped from site' site line (operand.Primary e) ks ts h = inl (wrapped_call e e [] from site' site line ks ts (primary_left P tree site' e ks ts h))
  back_wrapped from site' site line (operand.Stepped e) ks ts h =
      inl (up_unary P tree (frame.Bracket (bracket.Round site') ∷ ks) from e behind (tok k.CloseRound site line ∷ ts) (wrapped_value e behind from site' site line ks ts (primary_left P tree site' e ks ts h)))
  back_wrapped from site' site line (operand.Braced e) ks ts h = inl (wrapped_value e braces from site' site line ks ts (primary_left P tree site' e ks ts h))

  -- ---- commas

  arguments_on : (close : TokenKind) (d : ℕ) (c : Context) (items : List Expr) (e : Expr) (K : List Expr → List Token → Type 0) (at' : ℕ) (line : Bool) (ts : List Token) → (Unit {0} × ((z : Expr) × (t : Tail) × (rest : List Token) × IsAssign P d c ts z t rest × AfterArgument P tree close d c (items ++ e ∷ []) z K rest)) ⊎ Closing close ts (λ rest. K (items ++ e ∷ []) rest) → AfterArgument P tree close d c items e K (tok k.Comma at' line ∷ ts)
  arguments_on close d c items e K at' line ts h =
      let w = arguments_of P tree close d c (items ++ e ∷ []) K ts h in
      inr (at', ts, w.0, w.1, fronted k.Comma at' line ts, w.2, w.3)

  comma_in_left : (e : Expr) (t : Tail) (b : Bracket) (site : ℕ) (line : Bool) (ks : List Frame) (ts : List Token) → Next P tree (comma_in e b ks) ts → Holds P tree (frame.Bracket b ∷ ks) e t (tok k.Comma site line ∷ ts)
  comma_in_left e t (bracket.Array site' items) site line ks ts h = arguments_on k.CloseSquare (deep ks) (context ks) items e (λ es rest. LeftCall P tree ks site' (expr.Array site' es) (expr.Array site' es) [] rest) site line ts h.1
  comma_in_left e t (bracket.Call from first sfx site' items) site line ks ts h = arguments_on k.CloseRound (deep ks) (context ks) items e (λ es rest. LeftCall P tree ks from (expr.Call first (sfx ++ suffix.Call site' es ∷ [])) first (sfx ++ suffix.Call site' es ∷ []) rest) site line ts h.1
  comma_in_left e t (bracket.New site' n items) site line ks ts h = arguments_on k.CloseRound (deep ks) (context ks) items e (λ es rest. LeftCall P tree ks site' (expr.New site' n es) (expr.New site' n es) [] rest) site line ts h.1
  comma_in_left e t (bracket.Member site' members key_site name) site line ks ts h = inr (site, ts, h.1.0, h.1.1, fronted k.Comma site line ts, h.1.2, h.1.3)
  comma_in_left e t _ site line ks ts h = absurd h

  comma_part_left : (e : Expr) (t : Tail) (p : Part) (site : ℕ) (line : Bool) (ks : List Frame) (ts : List Token) → Next P tree (comma_part e p ks) ts → Holds P tree (frame.Part p ∷ ks) e t (tok k.Comma site line ∷ ts)
  comma_part_left e t (part.Declare d n) site line ks ts h = declares_on P tree d n (Some e) ks site line t ts h.1
  comma_part_left e t _ site line ks ts h = absurd h

  comma_left : (e : Expr) (t : Tail) (site : ℕ) (line : Bool) (ks : List Frame) (ts : List Token) → Next P tree (comma_of e ks) ts → Holds P tree ks e t (tok k.Comma site line ∷ ts)
  comma_left e t site line (frame.Bracket b ∷ ks) ts h = comma_in_left e t b site line ks ts h
  comma_left e t site line (frame.Part p ∷ ks) ts h = comma_part_left e t p site line ks ts h
  comma_left e t site line _ ts h = absurd h

  comma_name : (from : ℕ) (n : Identifier) (site' site : ℕ) (line : Bool) (ks : List Frame) (ts : List Token) → Next P tree (comma_names site' n ks) ts → LeftOperand P tree from (operand.Name n) (frame.Bracket (bracket.Round site') ∷ ks) (tok k.Comma site line ∷ ts)
  comma_name from n site' site line ks ts h =
      let g = next_when P tree (takes_assign ks) (Some (at (mode.Heading (heading.Parameters (header.Arrow site') (n ∷ []))) ks)) ts h in
      let l = g.1.1 in
      inr (inr (inr (g.0, (l.0, l.1, inr (site, ts, fronted k.Comma site line ts, l.2), l.3))))

  comma_round_left : (from : ℕ) (x : Operand) (site' site : ℕ) (line : Bool) (ks : List Frame) (ts : List Token) → Next P tree (comma_round site' x ks) ts → LeftOperand P tree from x (frame.Bracket (bracket.Round site') ∷ ks) (tok k.Comma site line ∷ ts)
  comma_round_left from (operand.Name n) site' site line ks ts h = comma_name from n site' site line ks ts h
  comma_round_left from _ site' site line ks ts h = absurd h

  comma_whole : (from : ℕ) (x : Operand) (site : ℕ) (line : Bool) (ks : List Frame) (ts : List Token) → Next P tree (whole from x ks >>= λ (c : Closed). comma_of c.value c.frames) ts → LeftOperand P tree from x ks (tok k.Comma site line ∷ ts)
  comma_whole from x site line ks ts h =
      let d = next_bind P tree (whole from x ks) (λ (c : Closed). comma_of c.value c.frames) ts h in
      whole_left P tree from x ks d.0 (tok k.Comma site line ∷ ts) d.1 (λ e. not_static P tree ks k.Comma site line ts refl) (comma_left d.0.value (tail_of x) site line d.0.frames ts d.2)

  back_comma : (from : ℕ) (x : Operand) (site : ℕ) (line : Bool) (ks : List Frame) (ts : List Token) → Next P tree (on_comma from x ks) ts → LeftOperand P tree from x ks (tok k.Comma site line ∷ ts)
  back_comma from x site line (frame.Bracket (bracket.Round site') ∷ ks) ts h = comma_round_left from x site' site line ks ts h
  back_comma from x site line ks ts h = comma_whole from x site line ks ts h

  -- ---- `)`

  close_round_in_left : (e : Expr) (t : Tail) (b : Bracket) (site : ℕ) (line : Bool) (ks : List Frame) (ts : List Token) → Next P tree (close_round_in e b ks) ts → Holds P tree (frame.Bracket b ∷ ks) e t (tok k.CloseRound site line ∷ ts)
  close_round_in_left e t (bracket.Round site') site line ks ts h = (site, ts, fronted k.CloseRound site line ts, primary_left P tree site' e ks ts h.1)
  close_round_in_left e t (bracket.Call from first sfx site' items) site line ks ts h = inl (site, ts, fronted k.CloseRound site line ts, called_left P tree from first (sfx ++ suffix.Call site' (items ++ e ∷ []) ∷ []) ks ts h.1)
  close_round_in_left e t (bracket.New site' n items) site line ks ts h = inl (site, ts, fronted k.CloseRound site line ts, primary_left P tree site' (expr.New site' n (items ++ e ∷ [])) ks ts h.1)
  close_round_in_left e t _ site line ks ts h = absurd h

  close_round_part_left : (e : Expr) (t : Tail) (p : Part) (site : ℕ) (line : Bool) (ks : List Frame) (ts : List Token) → Next P tree (close_round_part e p ks) ts → Holds P tree (frame.Part p ∷ ks) e t (tok k.CloseRound site line ∷ ts)
  close_round_part_left e t (part.If arms site') site line ks ts h = (site, ts, fronted k.CloseRound site line ts, (h.1.0, h.1.1, h.1.2, h.1.3))
  close_round_part_left e t (part.While site') site line ks ts h = (site, ts, fronted k.CloseRound site line ts, (h.1.0, h.1.1, h.1.2, h.1.3))
  close_round_part_left e t (part.Do site' body test_site) site line ks ts h = (site, ts, fronted k.CloseRound site line ts, h.1)
  close_round_part_left e t (part.ForUpdate site' first test) site line ks ts h = (site, ts, fronted k.CloseRound site line ts, (h.1.0, h.1.1, h.1.2, h.1.3))
  close_round_part_left e t (part.ForOf site' o n) site line ks ts h = (site, ts, fronted k.CloseRound site line ts, (h.1.0, h.1.1, h.1.2, h.1.3))
  close_round_part_left e t _ site line ks ts h = absurd h

  close_round_left : (e : Expr) (t : Tail) (site : ℕ) (line : Bool) (ks : List Frame) (ts : List Token) → Next P tree (close_round_of e ks) ts → Holds P tree ks e t (tok k.CloseRound site line ∷ ts)
  close_round_left e t site line (frame.Bracket b ∷ ks) ts h = close_round_in_left e t b site line ks ts h
  close_round_left e t site line (frame.Part p ∷ ks) ts h = close_round_part_left e t p site line ks ts h
  close_round_left e t site line _ ts h = absurd h

  close_round_whole : (from : ℕ) (x : Operand) (site : ℕ) (line : Bool) (ks : List Frame) (ts : List Token) → Next P tree (whole from x ks >>= λ (c : Closed). close_round_of c.value c.frames) ts → LeftOperand P tree from x ks (tok k.CloseRound site line ∷ ts)
  close_round_whole from x site line ks ts h =
      let d = next_bind P tree (whole from x ks) (λ (c : Closed). close_round_of c.value c.frames) ts h in
      whole_left P tree from x ks d.0 (tok k.CloseRound site line ∷ ts) d.1 (λ e. not_static P tree ks k.CloseRound site line ts refl) (close_round_left d.0.value (tail_of x) site line d.0.frames ts d.2)

  back_close_round : (from : ℕ) (x : Operand) (site : ℕ) (line : Bool) (ks : List Frame) (ts : List Token) → Next P tree (on_close_round from x ks) ts → LeftOperand P tree from x ks (tok k.CloseRound site line ∷ ts)
  back_close_round from x site line (frame.Bracket (bracket.Round site') ∷ ks) ts h = back_wrapped from site' site line x ks ts h.1
  back_close_round from x site line ks ts h = close_round_whole from x site line ks ts h

  -- ---- `]`

  close_square_left : (e : Expr) (t : Tail) (site : ℕ) (line : Bool) (ks : List Frame) (ts : List Token) → Next P tree (close_square_in false e ks) ts → Holds P tree ks e t (tok k.CloseSquare site line ∷ ts)
  close_square_left e t site line (frame.Bracket (bracket.Array site' items) ∷ ks) ts h = inl (site, ts, fronted k.CloseSquare site line ts, primary_left P tree site' (expr.Array site' (items ++ e ∷ [])) ks ts h.1)
  close_square_left e t site line (frame.Bracket (bracket.Index from first sfx site') ∷ ks) ts h = (site, ts, fronted k.CloseSquare site line ts, accessed_left P tree from first sfx (access.Index site' false e) ks ts h.1)
  close_square_left e t site line _ ts h = absurd h

  close_square_whole : (from : ℕ) (x : Operand) (site : ℕ) (line : Bool) (ks : List Frame) (ts : List Token) → (is_literal x ≡ true → NotStatic P tree ks (tok k.CloseSquare site line ∷ ts)) → Next P tree (whole from x ks >>= λ (c : Closed). close_square_in false c.value c.frames) ts → LeftOperand P tree from x ks (tok k.CloseSquare site line ∷ ts)
  close_square_whole from x site line ks ts s h =
      let d = next_bind P tree (whole from x ks) (λ (c : Closed). close_square_in false c.value c.frames) ts h in
      whole_left P tree from x ks d.0 (tok k.CloseSquare site line ∷ ts) d.1 s (close_square_left d.0.value (tail_of x) site line d.0.frames ts d.2)

  -- a number or a text
  close_square_literal : (from : ℕ) (e : Expr) (site : ℕ) (line : Bool) (ks : List Frame) (ts : List Token) → Next P tree (on_square_close from (operand.Literal e) ks) ts → LeftOperand P tree from (operand.Literal e) ks (tok k.CloseSquare site line ∷ ts)
  close_square_literal from e site line (frame.Bracket (bracket.Index from' first sfx site') ∷ ks) ts h = inl (inr (site, ts, fronted k.CloseSquare site line ts, accessed_left P tree from' first sfx (access.Index site' true e) ks ts h.1))
  close_square_literal from e site line (frame.Bracket (bracket.Array site' items) ∷ ks) ts h =
      inl (inl (tt, inl (up_unary P tree (frame.Bracket (bracket.Array site' items) ∷ ks) from e call (tok k.CloseSquare site line ∷ ts) (inl (site, ts, fronted k.CloseSquare site line ts, primary_left P tree site' (expr.Array site' (items ++ e ∷ [])) ks ts h.1)))))
  close_square_literal from e site line (frame.Bracket b ∷ ks) ts h = absurd h
  close_square_literal from e site line [] ts h = absurd h
  close_square_literal from e site line (frame.Pending p ∷ ks) ts h = close_square_whole from (operand.Literal e) site line (frame.Pending p ∷ ks) ts (λ q. tt) h
  close_square_literal from e site line (frame.Step s o ∷ ks) ts h = close_square_whole from (operand.Literal e) site line (frame.Step s o ∷ ks) ts (λ q. tt) h
  close_square_literal from e site line (frame.Part p ∷ ks) ts h = close_square_whole from (operand.Literal e) site line (frame.Part p ∷ ks) ts (λ q. tt) h
  close_square_literal from e site line (frame.Below b ∷ ks) ts h = close_square_whole from (operand.Literal e) site line (frame.Below b ∷ ks) ts (λ q. tt) h
  close_square_literal from e site line (frame.List b body ∷ ks) ts h = close_square_whole from (operand.Literal e) site line (frame.List b body ∷ ks) ts (λ q. tt) h

  back_close_square : (from : ℕ) (x : Operand) (site : ℕ) (line : Bool) (ks : List Frame) (ts : List Token) → Next P tree (on_square_close from x ks) ts → LeftOperand P tree from x ks (tok k.CloseSquare site line ∷ ts)
  back_close_square from (operand.Literal e) site line ks ts h = close_square_literal from e site line ks ts h
  back_close_square from x site line ks ts h = close_square_whole from x site line ks ts (λ q. absurd cc) h

  -- ---- `:`

  colon_in_left : (e : Expr) (t : Tail) (site : ℕ) (line : Bool) (ks : List Frame) (ts : List Token) → Next P tree (on_colon_in e ks) ts → Holds P tree ks e t (tok k.Colon site line ∷ ts)
  colon_in_left e t site line (frame.Bracket (bracket.Question from site' test) ∷ ks) ts h =
      elim h.1 [ inl w ↦ (site, ts, w.1.0, w.1.1, w.1.2, fronted k.Colon site line ts, w.1.3, w.1.4) | inr x ↦ absurd x ]
  colon_in_left e t site line _ ts h = absurd h

  back_colon : (from : ℕ) (x : Operand) (site : ℕ) (line : Bool) (ks : List Frame) (ts : List Token) → Next P tree (on_colon from x ks) ts → LeftOperand P tree from x ks (tok k.Colon site line ∷ ts)
  back_colon from x site line ks ts h =
      let d = next_bind P tree (whole from x ks) (λ (c : Closed). on_colon_in c.value c.frames) ts h in
      whole_left P tree from x ks d.0 (tok k.Colon site line ∷ ts) d.1 (λ e. not_static P tree ks k.Colon site line ts refl) (colon_in_left d.0.value (tail_of x) site line d.0.frames ts d.2)

  -- ---- `;`

  semicolon_declared : (e : Expr) (t : Tail) (d : Declaring) (n : Identifier) (site : ℕ) (line : Bool) (ks : List Frame) (ts : List Token) → Next P tree (Some (declaration_over d n (Some e) ks)) ts → Holds P tree (frame.Part (part.Declare d n) ∷ ks) e t (tok k.Semicolon site line ∷ ts)
  semicolon_declared e t d n site line ks ts h = inl (declaration_ends P tree d.place d.site d.kind (with_declarator d n (Some e)) ks t site line ts h.1)

  semicolon_part_left : (e : Expr) (t : Tail) (p : Part) (site : ℕ) (line : Bool) (ks : List Frame) (ts : List Token) → Next P tree (semicolon_part e p ks) ts → Holds P tree (frame.Part p ∷ ks) e t (tok k.Semicolon site line ∷ ts)
  semicolon_part_left e t (part.ForFirst site') site line ks ts h = (site, ts, fronted k.Semicolon site line ts, test_of P tree site' (head.Value e) ks ts h.1)
  semicolon_part_left e t (part.ForTest site' first) site line ks ts h = (site, ts, fronted k.Semicolon site line ts, update_of P tree site' first (Some e) ks ts h.1)
  semicolon_part_left e t (part.Declare d n) site line ks ts h = semicolon_declared e t d n site line ks ts h
  semicolon_part_left e t (part.Express site') site line ks ts h = (ts, inl (site, fronted k.Semicolon site line ts), h.1)
  semicolon_part_left e t (part.Return site') site line ks ts h = (ts, inl (site, fronted k.Semicolon site line ts), h.1)
  semicolon_part_left e t (part.Throw site') site line ks ts h = (ts, inl (site, fronted k.Semicolon site line ts), h.1)
  semicolon_part_left e t _ site line ks ts h = absurd h

  semicolon_left : (e : Expr) (t : Tail) (site : ℕ) (line : Bool) (ks : List Frame) (ts : List Token) → Next P tree (semicolon_of e ks) ts → Holds P tree ks e t (tok k.Semicolon site line ∷ ts)
  semicolon_left e t site line (frame.Part p ∷ ks) ts h = semicolon_part_left e t p site line ks ts h
  semicolon_left e t site line _ ts h = absurd h

  back_semicolon : (from : ℕ) (x : Operand) (site : ℕ) (line : Bool) (ks : List Frame) (ts : List Token) → Next P tree (on_semicolon from x ks) ts → LeftOperand P tree from x ks (tok k.Semicolon site line ∷ ts)
  back_semicolon from x site line ks ts h =
      let d = next_bind P tree (whole from x ks) (λ (c : Closed). semicolon_of c.value c.frames) ts h in
      whole_left P tree from x ks d.0 (tok k.Semicolon site line ∷ ts) d.1 (λ e. not_static P tree ks k.Semicolon site line ts refl) (semicolon_left d.0.value (tail_of x) site line d.0.frames ts d.2)

  -- ---- the end of a script

  settle_end : (s : Stmt) (ks : List Frame) → Overs P tree (settle false s ks).frames (settle false s ks).value [] → Overs P tree ks s []
  settle_end s (frame.Below (below.Then arms site test) ∷ ks) h = inl (refl, settle_end (stmt.If (arm arms site test s) None) ks h)
  settle_end s (frame.Below (below.Else arms) ∷ ks) h = settle_end (stmt.If arms (Some s)) ks h
  settle_end s (frame.Below (below.While site test) ∷ ks) h = settle_end (stmt.While site test s) ks h
  settle_end s (frame.Below (below.Do site) ∷ ks) h = h
  settle_end s (frame.Below (below.For site first test update) ∷ ks) h = settle_end (stmt.For site first test update s) ks h
  settle_end s (frame.Below (below.ForOf site o n items) ∷ ks) h = settle_end (stmt.ForOf site o n items s) ks h
  settle_end s _ h = h

  script_left : (s : Stmt) (ks : List Frame) → script_of s ks ≡ Some tree → Overs P tree ks s []
  script_left s (frame.List list.Script body ∷ []) h = ([], [], stmts_none 0 outermost [], (refl, append-nil (body ++ s ∷ []) ∙ some_is (body ++ s ∷ []) tree h))
  script_left s _ h = absurd cc

  ended_left : (s : Stmt) (ks : List Frame) → ended s ks ≡ Some tree → Overs P tree ks s []
  ended_left s ks h = settle_end s ks (script_left (settle false s ks).value (settle false s ks).frames h)

  no_more_left : (ks : List Frame) → no_more ks ≡ Some tree → LeftStatement P tree ks []
  no_more_left (frame.List list.Script body ∷ []) h = ([], [], stmts_none 0 outermost [], (refl, append-nil body ∙ some_is body tree h))
  no_more_left _ h = absurd cc

  static_end : (ks : List Frame) → NotStatic P tree ks []
  static_end (frame.Bracket (bracket.Index from first sfx site) ∷ ks) = refl
  static_end _ = tt

  operand_end : (from : ℕ) (x : Operand) (ks : List Frame) → ended_operand from x ks ≡ Some tree → LeftOperand P tree from x ks []
  operand_end from x ks h =
      let c = bind_some (whole from x ks) (λ (z : Closed). over_of z.value z.frames >>= λ (o : Over). ended o.value o.frames) tree h in
      let o = bind_some (over_of c.0.value c.0.frames) (λ (z : Over). ended z.value z.frames) tree c.2 in
      whole_left P tree from x ks c.0 [] c.1 (λ e. static_end ks) (over_left c.0.value (tail_of x) c.0.frames o.0 [] [] o.1 (inr (refl, refl)) (ended_left o.0.value o.0.frames o.2))

  ending_end : (e : Ending) (ks : List Frame) → ended_ending e ks ≡ Some tree → left_in P tree (mode.Ending e) ks []
  ending_end (ending.Over s) ks h = ended_left s ks h
  ending_end (ending.Do s) ks h = ([], inr (refl, refl), ended_left s ks h)
  ending_end (ending.Jump s) ks h = ([], inr (refl, refl), ended_left s ks h)
  ending_end (ending.Return site) ks h = inl ([], inr (refl, refl), ended_left (stmt.Return site None) ks h)
  ending_end (ending.Throw site) ks h = absurd cc

  trying_end : (t : Trying) (ks : List Frame) → ended_trying t ks ≡ Some tree → left_in P tree (mode.Trying t) ks []
  trying_end (trying.Caught site body c) ks h = (None, [], finally_none (deep ks) (context ks) [], ended_left (stmt.Try site body (Some c) None) ks h)
  trying_end _ ks h = absurd cc

  named_end : (d : Declaring) (n : Identifier) (ks : List Frame) (p q : Bool) → is_statement d.place ≡ p → is_let d.kind ≡ q → cond p (cond q (ended (bare d n) ks) None) None ≡ Some tree → left_in P tree (mode.Opening (opening.Named d n)) ks []
  named_end d n ks true true p q h = inl (q, inl (declared_at P tree d.place d.site d.kind (with_declarator d n None) ks no_expression [] [] p (inr (refl, refl)) (ended_left (bare d n) ks h)))
  named_end d n ks true false p q h = absurd cc
  named_end d n ks false q' p q h = absurd cc

  opening_end : (o : Opening) (ks : List Frame) → ended_opening o ks ≡ Some tree → left_in P tree (mode.Opening o) ks []
  opening_end (opening.Named d n) ks h = named_end d n ks (is_statement d.place) (is_let d.kind) refl refl h
  opening_end _ ks h = absurd cc

  end_in : (m : Mode) (ks : List Frame) → ending_in m ks ≡ Some tree → left_in P tree m ks []
  end_in mode.Statement ks h = no_more_left ks h
  end_in (mode.Operand from x) ks h = operand_end from x ks h
  end_in (mode.Ending e) ks h = ending_end e ks h
  end_in (mode.Trying t) ks h = trying_end t ks h
  end_in (mode.Opening o) ks h = opening_end o ks h
  end_in _ ks h = absurd cc

  pub end_left : (p : Parser) → ends p ≡ Some tree → Left P tree p []
  end_left p h = end_in p.mode p.frames h

module _ (P : ℕ → Type 0) (down : (m n : ℕ) → m ≤ n → P n → P m) (tree : List Stmt) where
  -- ---- where the statement ends with the operand

  over_next : (e : Expr) (t : Tail) (site : ℕ) (line : Bool) (ks : List Frame) (kind : TokenKind) (ts : List Token) → may_end t (tok kind site line ∷ ts) ≡ true → Next P tree (over_of e ks >>= λ (o : Over). after site o.value o.frames kind) ts → Holds P tree ks e t (tok kind site line ∷ ts)
  over_next e t site line ks kind ts q h =
      let d = next_bind P tree (over_of e ks) (λ (o : Over). after site o.value o.frames kind) ts h in
      over_left P tree e t ks d.0 (tok kind site line ∷ ts) (tok kind site line ∷ ts) d.1 (inr (refl, q)) (back_after P down tree site line d.0.value d.0.frames kind ts d.2)

  ends_left : (line : Bool) (site from : ℕ) (x : Operand) (ks : List Frame) (kind : TokenKind) (ts : List Token) → is_close_square kind ≡ false → may_end (tail_of x) (tok kind site line ∷ ts) ≡ true → Next P tree (ends_before site from x ks kind) ts → LeftOperand P tree from x ks (tok kind site line ∷ ts)
  ends_left line site from x ks kind ts s q h =
      let d = next_bind P tree (whole from x ks) (λ (c : Closed). over_of c.value c.frames >>= λ (o : Over). after site o.value o.frames kind) ts h in
      whole_left P tree from x ks d.0 (tok kind site line ∷ ts) d.1 (λ e. not_static P tree ks kind site line ts s) (over_next d.0.value (tail_of x) site line d.0.frames kind ts q d.2)

  line_ends : (line : Bool) (site from : ℕ) (x : Operand) (ks : List Frame) (kind : TokenKind) (ts : List Token) → is_close_square kind ≡ false → is_semicolon kind ≡ false → continues (tail_of x) kind ≡ false → Next P tree (when line (ends_before site from x ks kind)) ts → LeftOperand P tree from x ks (tok kind site line ∷ ts)
  line_ends true site from x ks kind ts s q c h = ends_left true site from x ks kind ts s (may_end_line (tail_of x) kind site ts q c) h
  line_ends false site from x ks kind ts s q c h = absurd h

  step_ends : (line : Bool) (o : StepOp) (site from : ℕ) (x : Operand) (ks : List Frame) (ts : List Token) → continues (tail_of x) (k.Step o) ≡ false → Next P tree (step_mark line o site from x ks) ts → LeftOperand P tree from x ks (tok (k.Step o) site line ∷ ts)
  step_ends true o site from x ks ts c h = ends_left true site from x ks (k.Step o) ts refl (may_end_line (tail_of x) (k.Step o) site ts refl c) h
  step_ends false o site from x ks ts c h = back_step P tree o site from x ks ts h

  close_brace_left : (e : Expr) (t : Tail) (site : ℕ) (line : Bool) (ks : List Frame) (ts : List Token) → Next P tree (close_brace_of site e ks) ts → Holds P tree ks e t (tok k.CloseBrace site line ∷ ts)
  close_brace_left e t site line (frame.Bracket (bracket.Member site' members at' name) ∷ ks) ts h = inl (site, ts, fronted k.CloseBrace site line ts, primary_left P tree site' (expr.Object site' (members ++ member.Value at' name e ∷ [])) ks ts h.1)
  close_brace_left e t site line ks ts h = over_next e t site line ks k.CloseBrace ts refl h

  back_close_brace : (line : Bool) (site from : ℕ) (x : Operand) (ks : List Frame) (ts : List Token) → Next P tree (on_close_brace site from x ks) ts → LeftOperand P tree from x ks (tok k.CloseBrace site line ∷ ts)
  back_close_brace line site from x ks ts h =
      let d = next_bind P tree (whole from x ks) (λ (c : Closed). close_brace_of site c.value c.frames) ts h in
      whole_left P tree from x ks d.0 (tok k.CloseBrace site line ∷ ts) d.1 (λ e. not_static P tree ks k.CloseBrace site line ts refl) (close_brace_left d.0.value (tail_of x) site line d.0.frames ts d.2)

  back_ends : (line : Bool) (site from : ℕ) (x : Operand) (ks : List Frame) (kind : TokenKind) (ts : List Token) → continues (tail_of x) kind ≡ false → Next P tree (ends_by line site from x ks kind) ts → LeftOperand P tree from x ks (tok kind site line ∷ ts)
  back_ends line site from x ks k.Arrow ts c h = back_arrow P tree line site from x ks ts h
  back_ends line site from x ks (k.Step o) ts c h = step_ends line o site from x ks ts c h
  back_ends line site from x ks k.CloseRound ts c h = back_close_round P tree from x site line ks ts h
  back_ends line site from x ks k.CloseSquare ts c h = back_close_square P tree from x site line ks ts h
  back_ends line site from x ks k.CloseBrace ts c h = back_close_brace line site from x ks ts h
  back_ends line site from x ks k.Comma ts c h = back_comma P tree from x site line ks ts h
  back_ends line site from x ks k.Colon ts c h = back_colon P tree from x site line ks ts h
  back_ends line site from x ks k.Semicolon ts c h = back_semicolon P tree from x site line ks ts h
  back_ends line site from x ks kind ts c h = line_ends line site from x ks kind ts refl refl c h

  back_operand : (line : Bool) (site from : ℕ) (x : Operand) (ks : List Frame) (kind : TokenKind) (ts : List Token) (q : Bool) → continues (tail_of x) kind ≡ q → Next P tree (cond q (continues_by site from x ks kind) (ends_by line site from x ks kind)) ts → LeftOperand P tree from x ks (tok kind site line ∷ ts)
  back_operand line site from x ks kind ts true e h = back_continues P tree line site from x ks kind ts e h
  back_operand line site from x ks kind ts false e h = back_ends line site from x ks kind ts e h

  -- ---- any step

  back_in : (m : Mode) (ks : List Frame) (line : Bool) (site : ℕ) (kind : TokenKind) (ts : List Token) → Next P tree (step_in m ks line site kind) ts → left_in P tree m ks (tok kind site line ∷ ts)
  back_in mode.Statement ks line site kind ts h = back_item P down tree site line ks kind ts h
  back_in mode.Below ks line site kind ts h = back_below P down tree site line ks kind ts h
  back_in mode.Want ks line site kind ts h = back_want P down tree site line ks kind ts h
  back_in (mode.Operand from x) ks line site kind ts h = back_operand line site from x ks kind ts (continues (tail_of x) kind) refl h
  back_in (mode.Ending e) ks line site kind ts h = back_ending P down tree line e site ks kind ts h
  back_in (mode.Trying t) ks line site kind ts h = back_trying P down tree t site line ks kind ts h
  back_in (mode.Opening o) ks line site kind ts h = back_opening P down tree line o site ks kind ts h
  back_in (mode.Heading g) ks line site kind ts h = back_heading P down tree g site line ks kind ts h
  back_in (mode.Piece p) ks line site kind ts h = back_piece P down tree p site line ks kind ts h

  pub back : (p : Parser) (t : Token) (ts : List Token) → Next P tree (step p t) ts → Left P tree p (t ∷ ts)
  back p t ts h = back_in p.mode p.frames t.line_before t.start t.kind ts h
