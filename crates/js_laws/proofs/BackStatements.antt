-- A step backwards where a statement begins, and behind one that is over.
use Rattle.std.proofs.Common.{◌≡◌, ℕ, suc, ◌+◌, ◌≤◌, Bool, true, false, List, [], ◌∷◌, ◌++◌, length, Option, Some, None, refl, sym, subst, append_assoc, arith, inl, inr}
use Rattle.std.proofs.lemmas.List.{append-nil}
use Rattle.js_ast.specs.declared.expression.Expr.{Expr}
use Rattle.js_ast.specs.declared.expression.Expr.TheVariants as expr
use Rattle.js_ast.specs.declared.statement.Stmt.{Stmt}
use Rattle.js_ast.specs.declared.statement.Stmt.TheVariants as stmt
use Rattle.js_ast.specs.declared.statement.Arm.{Arm}
use Rattle.js_ast.specs.declared.operators.DeclarationKind.{DeclarationKind}
use Rattle.js_ast.specs.declared.operators.DeclarationKind.TheVariants as kind
use Rattle.js_ast.specs.declared.parts.Declarator.{Declarator}
use Rattle.js_grammar.specs.declared.token.Token.{Token}
use Rattle.js_grammar.specs.declared.token.TokenKind.{TokenKind}
use Rattle.js_grammar.specs.declared.token.TokenKind.TheVariants as k
use Rattle.js_grammar.specs.declared.token.Word.{Word}
use Rattle.js_grammar.specs.declared.token.Word.TheVariants as word
use Rattle.js_grammar.specs.Phrases.{Begins, IsWord, starts, is_open_brace, is_function, is_if, is_else, Tail, Context, looping, in_body}
use Rattle.js_grammar.specs.Grammar.{IsDeclares, declares_let, declares_const}
use Rattle.js_grammar.specs.Grammar.{IsAssign, assign_conditional, assign_sets, assign_arrow, assign_arrow_block}
use Rattle.js_grammar.specs.Grammar.{IsBody, body_braces, IsStmts, stmts_none, stmts_more, stmt_inner, stmt_declare, stmt_function, IsDeclarator, declarators_last, declarators_more, IsRound, round_assign, IsBelow, below_inner, inner_block, inner_nothing, inner_express, inner_if, inner_while, inner_do, inner_for, inner_for_of, inner_break, inner_continue, inner_return, inner_return_value, inner_throw, inner_catch, inner_finally, IsIf, if_alone, if_else, if_chain}
use Rattle.js_reading.specs.declared.frame.Frame.{Frame}
use Rattle.js_reading.specs.declared.frame.Frame.TheVariants as frame
use Rattle.js_reading.specs.declared.frame.Part.TheVariants as part
use Rattle.js_reading.specs.declared.frame.Below.TheVariants as below
use Rattle.js_reading.specs.declared.frame.Braces.{Braces}
use Rattle.js_reading.specs.declared.frame.Braces.TheVariants as list
use Rattle.js_reading.specs.declared.frame.Place.{Place}
use Rattle.js_reading.specs.declared.frame.Place.TheVariants as place
use Rattle.js_reading.specs.declared.mode.Mode.TheVariants as mode
use Rattle.js_reading.specs.declared.mode.Ending.TheVariants as ending
use Rattle.js_reading.specs.declared.mode.Opening.TheVariants as opening
use Rattle.js_reading.specs.Frames.{context, depth, within_braces}
use Rattle.js_reading.specs.Operands.{at, word_of, whole}
use Rattle.js_reading.specs.Statements.{arm, settle, close_list, test_due, express, loop_word, inner_word, inner, item_word, close_braces, item, next_item, on_else, on_while, after}
use Rattle.js_reading.specs.Reading.{below_by}
use Rattle.js_laws.proofs.Left.{above, above_last, deep, tok, Fits, FitsName, lead, ElseIn, IfTail, DeclaredIn, DeclareIn, DeclaratorIn, ClosedIn, ListIn, BracesIn, Overs, LeftWant, LeftOpening, LeftEnding, InnerIn, ItemIn, LeftStatement, LeftBelow, Next}
use Rattle.js_laws.proofs.ThroughFrames.{above_is, above_more, above_last_more, deep_is}
use Rattle.js_laws.proofs.BackOperators.{fronted, next_when, primary_left, braced_left}
use Rattle.js_laws.proofs.BackOperands.{back_want, back_want_word}

module _ (P : ℕ → Type 0) (tree : List Stmt) where
  pub assign_nests : (d : ℕ) (c : Context) (ts : List Token) (e : Expr) (t : Tail) (rest : List Token) → IsAssign P d c ts e t rest → P (suc d)
  assign_nests _ _ _ _ _ _ (assign_conditional d c ts e t rest p h) = p
  assign_nests _ _ _ _ _ _ (assign_sets d c ts x mark o site from e t rest p i b a) = p
  assign_nests _ _ _ _ _ _ (assign_arrow d c ts names mark site from e t rest p i b o a) = p
  assign_nests _ _ _ _ _ _ (assign_arrow_block d c ts names mark site from body rest p i b a) = p

  -- the whole `if`, from its test on
  pub if_whole : (arms : List Arm) (site : ℕ) (e : Expr) (ks : List Frame) (whole from at' : List Token) → IsWord whole word.If site from → IsRound P (above arms (deep ks)) (context ks) from e at' → IfTail P tree arms site e ks (lead P tree ks) at' → (more : List Arm) × (last : Option Stmt) × (mid : List Token) × IsIf P (above arms (deep ks)) (context ks) whole more last mid × Overs P tree ks (stmt.If (arms ++ more) last) mid
  if_whole arms site e ks whole from at' w r h =
      let d : ℕ = above arms (deep ks) in
      let a : Arm = record { site = site; test = e; consequent = h.0 } in
      elim h.3 [
        | inl g ↦ (a ∷ [], None, h.1, if_alone d (context ks) whole site from e at' h.0 h.1 w r h.2 g.0, g.1)
        | inr g ↦ else_whole arms site e ks whole from at' w r h.0 h.1 h.2 g.0 g.1 g.2 g.3
      ]
    where
      else_whole : (arms : List Arm) (site : ℕ) (e : Expr) (ks : List Frame) (whole from at' : List Token) → IsWord whole word.If site from → IsRound P (above arms (deep ks)) (context ks) from e at' → (s : Stmt) (mark : List Token) → IsBelow P (above arms (deep ks)) (context ks) at' s mark → (else_site : ℕ) (other : List Token) → IsWord mark word.Else else_site other → ElseIn P tree (arm arms site e s) ks (lead P tree ks) other → (more : List Arm) × (last : Option Stmt) × (mid : List Token) × IsIf P (above arms (deep ks)) (context ks) whole more last mid × Overs P tree ks (stmt.If (arms ++ more) last) mid
      else_whole arms site e ks whole from at' w r s mark b else_site other x h =
          let d : ℕ = above arms (deep ks) in
          let a : Arm = record { site = site; test = e; consequent = s } in
          elim h [
            | inl g ↦ (a ∷ [], Some g.1.0, g.1.1, if_else d (context ks) whole site from e at' s mark else_site other g.1.0 g.1.1 w r b x g.0 (subst (λ (z : ℕ). IsBelow P z (context ks) other g.1.0 g.1.1) (above_last_more arms a (deep ks)) g.1.2), g.1.3)
            | inr g ↦ (
              a ∷ g.1.0,
              g.1.1,
              g.1.2,
              if_chain d (context ks) whole site from e at' s mark else_site other g.1.0 g.1.1 g.1.2 w r b x (subst P (above_more arms a (deep ks)) g.0) (subst (λ (z : ℕ). IsIf P z (context ks) other g.1.0 g.1.1 g.1.2) (above_more arms a (deep ks)) g.1.3),
              subst (λ (z : List Arm). Overs P tree ks (stmt.If z g.1.1) g.1.2) (append_assoc arms (a ∷ []) g.1.0) g.1.4,
            )
          ]

  -- a test between parentheses, and what follows
  pub if_due : (arms : List Arm) (site : ℕ) (ks : List Frame) (whole ts : List Token) → IsWord whole word.If site ts → LeftOpening P tree opening.Test (frame.Part (part.If arms site) ∷ ks) ts → (more : List Arm) × (last : Option Stmt) × (mid : List Token) × IsIf P (above arms (deep ks)) (context ks) whole more last mid × Overs P tree ks (stmt.If (arms ++ more) last) mid
  if_due arms site ks whole ts w h =
      elim h.3 [
        | inl v ↦ if_whole arms site v.1.0 ks whole ts v.1.4.1 w (round_assign (above arms (deep ks)) (context ks) ts h.0 h.1 v.1.0 v.1.1 v.1.2 v.1.4.0 v.1.4.1 h.2 v.1.3 v.1.4.2) v.1.4.3
        | inr x ↦ absurd x
      ]

  fits_more : (p : Place) (x : Declarator Expr) (xs : List (Declarator Expr)) → FitsName p x.name.name → Fits p xs → Fits p (x ∷ xs)
  fits_more place.Statement x xs f g = tt
  fits_more place.Loop x xs f g = (f, g)

  fits_one : (p : Place) (x : Declarator Expr) → FitsName p x.name.name → Fits p (x ∷ [])
  fits_one place.Statement x f = tt
  fits_one place.Loop x f = (f, tt)

  pub declared_first : (p : Place) (site : ℕ) (o : DeclarationKind) (ds : List (Declarator Expr)) (ks : List Frame) (whole : List Token) (x : Declarator Expr) (t : Tail) (mid : List Token) → IsDeclarator P o (deep ks) (context ks) whole x t mid → FitsName p x.name.name → DeclaratorIn P tree p site o (ds ++ x ∷ []) ks (lead P tree ks) t mid → DeclareIn P tree p site o ds ks (lead P tree ks) whole
  declared_first p site o ds ks whole x t mid i f h =
      elim h [
        | inl g ↦ (x ∷ [], t, mid, declarators_last o (deep ks) (context ks) whole x t mid i, fits_one p x f, g)
        | inr g ↦
            (let r = g.3 in
            (x ∷ r.0, r.1, r.2, declarators_more o (deep ks) (context ks) whole x t mid g.0 g.1 r.0 r.1 r.2 i g.2 r.3, fits_more p x r.0 f r.4, subst (λ (z : List (Declarator Expr)). DeclaredIn P tree p site o z ks (lead P tree ks) r.1 r.2) (append_assoc ds (x ∷ []) r.0) r.5))
      ]

  -- ---- bodies

  pub body_of : (d : ℕ) (c : Context) (at' : ℕ) (ts inside : List Token) (body : List Stmt) (mid : List Token) (close : ℕ) (rest : List Token) → Begins ts k.OpenBrace at' inside → IsStmts P d c inside body mid → Begins mid k.CloseBrace close rest → IsBody P d c ts body rest
  body_of d c at' ts inside body mid close rest b s e = body_braces d c ts at' inside body mid close rest b s e

module _ (P : ℕ → Type 0) (down : (m n : ℕ) → m ≤ n → P n → P m) (tree : List Stmt) where
  at_depth : (ks : List Frame) → P (depth ks) → P (deep ks)
  at_depth ks p = down (deep ks) (depth ks) (omega (arith, deep_is ks)) p

  -- nothing more has begun there than what is around it
  at_zero : (ks : List Frame) → P (0 + depth ks) → P (deep ks)
  at_zero ks p = down (deep ks) (0 + depth ks) (omega (arith, deep_is ks)) p

  block_inner : (site : ℕ) (line : Bool) (ks : List Frame) (ts : List Token) → P (deep ks) → ListIn P tree (list.Block site) [] ks (lead P tree ks) ts → InnerIn P tree ks (tok k.OpenBrace site line ∷ ts)
  block_inner site line ks ts p h =
      let hall : List Token = tok k.OpenBrace site line ∷ ts in
      (p, (stmt.Block site h.0, h.3.1, inner_block (deep ks) (context ks) hall h.0 h.3.1 (body_of P tree (deep ks) (context ks) site hall ts h.0 h.1 h.3.0 h.3.1 (fronted k.OpenBrace site line ts) h.2 h.3.2), h.3.3))

  express_inner : (kind : TokenKind) (site : ℕ) (line : Bool) (ks : List Frame) (ts : List Token) → is_open_brace kind ≡ false → is_function kind ≡ false → LeftWant P tree (express site ks) (tok kind site line ∷ ts) → InnerIn P tree ks (tok kind site line ∷ ts)
  express_inner kind site line ks ts f g h =
      let hall : List Token = tok kind site line ∷ ts in
      elim h [
        | inl w ↦ (
          down (deep ks) (suc (deep ks)) (omega arith) (assign_nests P tree (deep ks) (context ks) hall w.1.0 w.1.1 w.1.2 w.1.3),
          (stmt.Express site w.1.0, w.1.4.0, inner_express (deep ks) (context ks) hall w.1.0 w.1.1 w.1.2 w.1.4.0 f g w.1.3 w.1.4.1, w.1.4.2),
        )
        | inr x ↦ absurd x
      ]

  while_inner : (units : List ℕ) (site : ℕ) (line : Bool) (ks : List Frame) (ts : List Token) → P (deep ks) → LeftOpening P tree opening.Test (frame.Part (part.While site) ∷ ks) ts → InnerIn P tree ks (tok (k.Word word.While units) site line ∷ ts)
  while_inner units site line ks ts p h =
      let hall : List Token = tok (k.Word word.While units) site line ∷ ts in
      elim h.3 [
        | inl v ↦
            (let c = v.1.4 in (
              p,
              (
                stmt.While site v.1.0 c.3.0,
                c.3.1,
                inner_while (deep ks) (context ks) hall site ts v.1.0 c.1 c.3.0 c.3.1 (units, fronted (k.Word word.While units) site line ts)
                    (round_assign (deep ks) (context ks) ts h.0 h.1 v.1.0 v.1.1 v.1.2 c.0 c.1 h.2 v.1.3 c.2) c.3.2,
                c.3.3,
              ),
            ))
        | inr x ↦ absurd x
      ]

  if_inner : (units : List ℕ) (site : ℕ) (line : Bool) (ks : List Frame) (ts : List Token) → P (deep ks) → LeftOpening P tree opening.Test (frame.Part (part.If [] site) ∷ ks) ts → InnerIn P tree ks (tok (k.Word word.If units) site line ∷ ts)
  if_inner units site line ks ts p h =
      let hall : List Token = tok (k.Word word.If units) site line ∷ ts in
      let r = if_due P tree [] site ks hall ts (units, fronted (k.Word word.If units) site line ts) h in
      (p, (stmt.If r.0 r.1, r.2, inner_if (deep ks) (context ks) hall r.0 r.1 r.2 r.3, r.4))

  do_inner : (units : List ℕ) (site : ℕ) (line : Bool) (ks : List Frame) (ts : List Token) → P (deep ks) → LeftBelow P tree (frame.Below (below.Do site) ∷ ks) ts → InnerIn P tree ks (tok (k.Word word.Do units) site line ∷ ts)
  do_inner units site line ks ts p h =
      let hall : List Token = tok (k.Word word.Do units) site line ∷ ts in
      let g = h.3 in
      (p, (stmt.Do site h.0 g.0 g.2, g.4, inner_do (deep ks) (context ks) hall site ts h.0 h.1 g.0 g.1 g.2 g.3 g.4 (units, fronted (k.Word word.Do units) site line ts) h.2 g.5 g.6 g.7, g.8))

  for_inner : (units : List ℕ) (site : ℕ) (line : Bool) (ks : List Frame) (ts : List Token) → P (deep ks) → LeftOpening P tree (opening.For site) ks ts → InnerIn P tree ks (tok (k.Word word.For units) site line ∷ ts)
  for_inner units site line ks ts p h =
      let hall : List Token = tok (k.Word word.For units) site line ∷ ts in
      let w : IsWord hall word.For site ts = (units, fronted (k.Word word.For units) site line ts) in
      elim h.3 [
        | inl g ↦
            (let a = g.3 in
            let b = a.3.3 in
            let c = b.3.3 in
            let z = c.3 in
            (p, (stmt.For site g.0 a.3.0 b.3.0 z.0, z.1, inner_for (deep ks) (context ks) hall site ts h.0 h.1 g.0 g.1 a.0 a.1 a.3.0 a.3.1 b.0 b.1 b.3.0 b.3.1 c.0 c.1 z.0 z.1 w h.2 g.2 a.2 a.3.2 b.2 b.3.2 c.2 z.2, z.3)))
        | inr g ↦
            (let n = g.4 in
            let o = n.4 in
            let c = o.9 in
            let z = c.3 in
            (p, (stmt.ForOf site g.0 n.0 o.3 z.0, z.1, inner_for_of (deep ks) (context ks) hall site ts h.0 h.1 g.0 g.1 g.2 n.0 n.1 o.0 o.1 o.2 o.3 o.4 o.5 c.0 c.1 z.0 z.1 w h.2 g.3 n.2 n.3 o.6 o.7 o.8 c.2 z.2, z.3)))
      ]

  back_loop_word : (w : Word) (units : List ℕ) (site : ℕ) (line : Bool) (ks : List Frame) (ts : List Token) → is_function (k.Word w units) ≡ false → Next P tree (loop_word w site ks) ts → InnerIn P tree ks (tok (k.Word w units) site line ∷ ts)
  back_loop_word word.If units site line ks ts f h = if_inner units site line ks ts (at_zero ks h.0) h.1
  back_loop_word word.While units site line ks ts f h = while_inner units site line ks ts (at_zero ks h.0) h.1
  back_loop_word word.Do units site line ks ts f h = do_inner units site line ks ts (at_zero ks h.0) h.1
  back_loop_word word.For units site line ks ts f h = for_inner units site line ks ts (at_depth ks h.0) h.1
  back_loop_word w units site line ks ts f h = express_inner (k.Word w units) site line ks ts refl f (back_want_word P down tree w units site line (express site ks) ts h)

  try_inner : (units : List ℕ) (site : ℕ) (line : Bool) (ks : List Frame) (ts : List Token) → P (deep ks) → BracesIn P tree (list.Try site) ks (lead P tree ks) ts → InnerIn P tree ks (tok (k.Word word.Try units) site line ∷ ts)
  try_inner units site line ks ts p h =
      let hall : List Token = tok (k.Word word.Try units) site line ∷ ts in
      let w : IsWord hall word.Try site ts = (units, fronted (k.Word word.Try units) site line ts) in
      let l = h.3 in
      let body : IsBody P (deep ks) (context ks) ts l.0 l.3.1 = body_of P tree (deep ks) (context ks) h.0 ts h.1 l.0 l.1 l.3.0 l.3.1 h.2 l.2 l.3.2 in
      elim l.3.3 [
        | inl g ↦ (p, (stmt.Try site l.0 (Some g.0) g.2, g.3, inner_catch (deep ks) (context ks) hall site ts l.0 l.3.1 g.0 g.1 g.2 g.3 w body g.4 g.5, g.6))
        | inr g ↦ (p, (stmt.Try site l.0 None (Some g.0), g.1, inner_finally (deep ks) (context ks) hall site ts l.0 l.3.1 g.0 g.1 w body g.2, g.3))
      ]

  return_inner : (units : List ℕ) (site : ℕ) (line : Bool) (ks : List Frame) (ts : List Token) → (context ks).in_function ≡ true → P (deep ks) → LeftEnding P tree (ending.Return site) ks ts → InnerIn P tree ks (tok (k.Word word.Return units) site line ∷ ts)
  return_inner units site line ks ts f p h =
      let hall : List Token = tok (k.Word word.Return units) site line ∷ ts in
      let w : IsWord hall word.Return site ts = (units, fronted (k.Word word.Return units) site line ts) in
      elim h [
        | inl g ↦ (p, (stmt.Return site None, g.0, inner_return (deep ks) (context ks) hall site ts g.0 f w g.1, g.2))
        | inr g ↦ (p, (stmt.Return site (Some g.1.0), g.1.3, inner_return_value (deep ks) (context ks) hall site ts g.1.0 g.1.1 g.1.2 g.1.3 f w g.0 g.1.4 g.1.5, g.1.6))
      ]

  back_inner_word : (w : Word) (units : List ℕ) (site : ℕ) (line : Bool) (ks : List Frame) (ts : List Token) → Next P tree (inner_word w site ks) ts → InnerIn P tree ks (tok (k.Word w units) site line ∷ ts)
  back_inner_word word.Break units site line ks ts h =
      let g = next_when P tree (context ks).in_loop (Some (at (mode.Ending (ending.Jump (stmt.Break site))) ks)) ts h in
      let l = g.1.1 in
      (at_depth ks g.1.0, (stmt.Break site, l.0, inner_break (deep ks) (context ks) (tok (k.Word word.Break units) site line ∷ ts) site ts l.0 g.0 (units, fronted (k.Word word.Break units) site line ts) l.1, l.2))
  back_inner_word word.Continue units site line ks ts h =
      let g = next_when P tree (context ks).in_loop (Some (at (mode.Ending (ending.Jump (stmt.Continue site))) ks)) ts h in
      let l = g.1.1 in
      (at_depth ks g.1.0, (stmt.Continue site, l.0, inner_continue (deep ks) (context ks) (tok (k.Word word.Continue units) site line ∷ ts) site ts l.0 g.0 (units, fronted (k.Word word.Continue units) site line ts) l.1, l.2))
  back_inner_word word.Return units site line ks ts h =
      let g = next_when P tree (context ks).in_function (Some (at (mode.Ending (ending.Return site)) ks)) ts h in
      return_inner units site line ks ts g.0 (at_depth ks g.1.0) g.1.1
  back_inner_word word.Throw units site line ks ts h =
      let l = h.1 in
      (at_depth ks h.0, (stmt.Throw site l.1.0, l.1.3, inner_throw (deep ks) (context ks) (tok (k.Word word.Throw units) site line ∷ ts) site ts l.1.0 l.1.1 l.1.2 l.1.3 (units, fronted (k.Word word.Throw units) site line ts) l.0 l.1.4 l.1.5, l.1.6))
  back_inner_word word.Try units site line ks ts h = try_inner units site line ks ts (at_depth ks h.0) h.1
  back_inner_word word.Function units site line ks ts h = absurd h
  back_inner_word w units site line ks ts h = back_loop_word w units site line ks ts refl h

  pub back_inner : (site : ℕ) (line : Bool) (ks : List Frame) (kind : TokenKind) (ts : List Token) → Next P tree (inner site ks kind) ts → InnerIn P tree ks (tok kind site line ∷ ts)
  back_inner site line ks k.OpenBrace ts h = block_inner site line ks ts (at_zero ks h.0) h.1
  back_inner site line ks k.Semicolon ts h = (at_depth ks h.0, (stmt.Nothing site, ts, inner_nothing (deep ks) (context ks) (tok k.Semicolon site line ∷ ts) site ts (fronted k.Semicolon site line ts), h.1))
  back_inner site line ks (k.Word w units) ts h = back_inner_word w units site line ks ts h
  back_inner site line ks kind ts h = express_inner kind site line ks ts refl refl (back_want P down tree site line (express site ks) kind ts h)

  -- ---- items of a list

  inner_item : (ks : List Frame) (ts : List Token) → InnerIn P tree ks ts → ItemIn P tree ks ts
  inner_item ks ts h = (h.0, (h.1.0, h.1.1, stmt_inner (deep ks) (context ks) ts h.1.0 h.1.1 h.1.2, h.1.3))

  declare_item : (o : DeclarationKind) (site : ℕ) (ks : List Frame) (whole ts : List Token) → IsDeclares whole o site ts → P (deep ks) → LeftOpening P tree (opening.Declare (record { place = place.Statement; site = site; kind = o; declarators = [] })) ks ts → ItemIn P tree ks whole
  declare_item o site ks whole ts i p h =
      elim h [
        | inl g ↦ (p, (stmt.Declare site o g.0, g.5.0, stmt_declare (deep ks) (context ks) whole o site ts g.0 g.1 g.2 g.5.0 i g.3 g.5.1, g.5.2))
        | inr g ↦ absurd (let q : _ = g.0 in cc)
      ]

  function_item : (units : List ℕ) (site : ℕ) (line : Bool) (ks : List Frame) (ts : List Token) → P (deep ks) → LeftOpening P tree (opening.Function site) ks ts → ItemIn P tree ks (tok (k.Word word.Function units) site line ∷ ts)
  function_item units site line ks ts p h =
      let hall : List Token = tok (k.Word word.Function units) site line ∷ ts in
      let g = h.6 in
      let l = g.3 in (
        p,
        (
          stmt.Function site h.0 h.2 l.0,
          l.3.1,
          stmt_function (deep ks) (context ks) hall site ts h.0 h.1 h.2 h.3 l.0 l.3.1 (units, fronted (k.Word word.Function units) site line ts) h.4 h.5
              (body_of P tree (deep ks) in_body g.0 h.3 g.1 l.0 l.1 l.3.0 l.3.1 g.2 l.2 l.3.2),
          l.3.3,
        ),
      )

  back_item_word : (w : Word) (units : List ℕ) (site : ℕ) (line : Bool) (ks : List Frame) (ts : List Token) → Next P tree (item_word w site ks) ts → ItemIn P tree ks (tok (k.Word w units) site line ∷ ts)
  back_item_word word.Let units site line ks ts h = declare_item kind.Let site ks (tok (k.Word word.Let units) site line ∷ ts) ts (declares_let (tok (k.Word word.Let units) site line ∷ ts) site ts (units, fronted (k.Word word.Let units) site line ts)) (at_depth ks h.0) h.1
  back_item_word word.Const units site line ks ts h = declare_item kind.Const site ks (tok (k.Word word.Const units) site line ∷ ts) ts (declares_const (tok (k.Word word.Const units) site line ∷ ts) site ts (units, fronted (k.Word word.Const units) site line ts)) (at_depth ks h.0) h.1
  back_item_word word.Function units site line ks ts h = function_item units site line ks ts (at_depth ks h.0) h.1
  back_item_word w units site line ks ts h = inner_item ks (tok (k.Word w units) site line ∷ ts) (back_inner_word w units site line ks ts h)

  -- an item goes on with its list
  item_listed : (ks : List Frame) (ts : List Token) → ItemIn P tree ks ts → LeftStatement P tree ks ts
  item_listed (frame.List b body ∷ ks) ts h =
      let s : Stmt = h.1.0 in
      let g = h.1.3 in
      (s ∷ g.0, g.1, stmts_more (deep ks) (within_braces b (context ks)) ts s h.1.1 g.0 g.1 h.0 h.1.2 g.2, subst (λ (z : List Stmt). ClosedIn P tree b z ks (lead P tree ks) g.1) (append_assoc body (s ∷ []) g.0) g.3)
  item_listed _ ts h = h

  close_list_left : (b : Braces) (body : List Stmt) (site : ℕ) (line : Bool) (ks : List Frame) (ts : List Token) → Next P tree (close_list b body ks) ts → ClosedIn P tree b body ks (lead P tree ks) (tok k.CloseBrace site line ∷ ts)
  close_list_left list.Script body site line ks ts h = absurd h
  close_list_left (list.Block site') body site line ks ts h = (site, ts, fronted k.CloseBrace site line ts, h.1)
  close_list_left (list.Function site' n names) body site line ks ts h = (site, ts, fronted k.CloseBrace site line ts, h.1)
  close_list_left (list.Value site' n names) body site line ks ts h = (site, ts, fronted k.CloseBrace site line ts, primary_left P tree site' (expr.FunctionExpression site' n names body) ks ts h.1)
  close_list_left (list.Arrow from names) body site line ks ts h = (site, ts, fronted k.CloseBrace site line ts, braced_left P tree from (expr.ArrowBlock from names body) ks ts h.1)
  close_list_left (list.Try site') body site line ks ts h = (site, ts, fronted k.CloseBrace site line ts, h.1)
  close_list_left (list.Catch site' body' n) body site line ks ts h = (site, ts, fronted k.CloseBrace site line ts, h.1)
  close_list_left (list.Finally site' body' caught) body site line ks ts h = (site, ts, fronted k.CloseBrace site line ts, h.1)

  close_braces_left : (site : ℕ) (line : Bool) (ks : List Frame) (ts : List Token) → Next P tree (close_braces ks) ts → LeftStatement P tree ks (tok k.CloseBrace site line ∷ ts)
  close_braces_left site line (frame.List b body ∷ ks) ts h =
      let hall : List Token = tok k.CloseBrace site line ∷ ts in
      ([], hall, stmts_none (deep ks) (within_braces b (context ks)) hall, subst (λ (z : List Stmt). ClosedIn P tree b z ks (lead P tree ks) hall) (sym (append-nil body)) (close_list_left b body site line ks ts h))
  close_braces_left site line _ ts h = absurd h

  pub back_item : (site : ℕ) (line : Bool) (ks : List Frame) (kind : TokenKind) (ts : List Token) → Next P tree (item site ks kind) ts → LeftStatement P tree ks (tok kind site line ∷ ts)
  back_item site line ks k.CloseBrace ts h = close_braces_left site line ks ts h
  back_item site line ks (k.Word w units) ts h = item_listed ks (tok (k.Word w units) site line ∷ ts) (back_item_word w units site line ks ts h)
  back_item site line ks kind ts h = item_listed ks (tok kind site line ∷ ts) (inner_item ks (tok kind site line ∷ ts) (back_inner site line ks kind ts h))

  -- ---- below another statement

  if_below : (arms : List Arm) (units : List ℕ) (site : ℕ) (line : Bool) (ks : List Frame) (ts : List Token) → Next P tree (test_due (part.If arms site) ks) ts → ElseIn P tree arms ks (lead P tree ks) (tok (k.Word word.If units) site line ∷ ts)
  if_below arms units site line ks ts h =
      inr (down (above arms (deep ks)) (length arms + depth ks) (omega (arith, above_is arms (deep ks), deep_is ks)) h.0, if_due P tree arms site ks (tok (k.Word word.If units) site line ∷ ts) ts (units, fronted (k.Word word.If units) site line ts) h.1)

  else_below : (arms : List Arm) (ks : List Frame) (ts : List Token) → starts is_if ts ≡ false → InnerIn P tree (frame.Below (below.Else arms) ∷ ks) ts → ElseIn P tree arms ks (lead P tree ks) ts
  else_below arms ks ts f h = inl (f, (h.1.0, h.1.1, below_inner (above_last arms (deep ks)) (context ks) ts h.1.0 h.1.1 h.0 h.1.2, h.1.3))

  inner_below : (ks : List Frame) (ts : List Token) → starts is_if ts ≡ false → InnerIn P tree ks ts → LeftBelow P tree ks ts
  inner_below (frame.Below (below.Else arms) ∷ ks) ts f h = else_below arms ks ts f h
  inner_below (frame.Below (below.Then arms site test) ∷ ks) ts f h = (h.1.0, h.1.1, below_inner (above arms (deep ks)) (context ks) ts h.1.0 h.1.1 h.0 h.1.2, h.1.3)
  inner_below (frame.Below b ∷ ks) ts f h = (h.1.0, h.1.1, below_inner (deep ks) (looping (context ks)) ts h.1.0 h.1.1 h.0 h.1.2, h.1.3)
  inner_below _ ts f h = h

  -- `if` in a place that isn't behind `else`
  inner_below_if : (ks : List Frame) (units : List ℕ) (site : ℕ) (line : Bool) (ts : List Token) → Next P tree (below_by site ks (k.Word word.If units) (Some word.If)) ts → LeftBelow P tree ks (tok (k.Word word.If units) site line ∷ ts)
  inner_below_if (frame.Below (below.Else arms) ∷ ks) units site line ts h = if_below arms units site line ks ts h
  inner_below_if (frame.Below (below.Then arms site' test) ∷ ks) units site line ts h =
      let g = back_inner site line (frame.Below (below.Then arms site' test) ∷ ks) (k.Word word.If units) ts h in
      (g.1.0, g.1.1, below_inner (above arms (deep ks)) (context ks) (tok (k.Word word.If units) site line ∷ ts) g.1.0 g.1.1 g.0 g.1.2, g.1.3)
  inner_below_if (frame.Below b ∷ ks) units site line ts h =
      let g = back_inner site line (frame.Below b ∷ ks) (k.Word word.If units) ts h in
      (g.1.0, g.1.1, below_inner (deep ks) (looping (context ks)) (tok (k.Word word.If units) site line ∷ ts) g.1.0 g.1.1 g.0 g.1.2, g.1.3)
  inner_below_if ks units site line ts h = back_inner site line ks (k.Word word.If units) ts h

  -- the word makes no difference but for `if`
  not_else : (site : ℕ) (ks : List Frame) (kind : TokenKind) (o : Option Word) (ts : List Token) → (o ≡ Some word.If → ⊥) → Next P tree (below_by site ks kind o) ts → Next P tree (inner site ks kind) ts
  not_else site (frame.Below (below.Else arms) ∷ ks) kind (Some word.If) ts f h = absurd (f refl)
  not_else site (frame.Below (below.Else arms) ∷ ks) kind _ ts f h = h
  not_else site _ kind _ ts f h = h

  pub back_below : (site : ℕ) (line : Bool) (ks : List Frame) (kind : TokenKind) (ts : List Token) → Next P tree (below_by site ks kind (word_of kind)) ts → LeftBelow P tree ks (tok kind site line ∷ ts)
  back_below site line ks (k.Word word.If units) ts h = inner_below_if ks units site line ts h
  back_below site line ks (k.Word w units) ts h = inner_below ks (tok (k.Word w units) site line ∷ ts) refl (back_inner site line ks (k.Word w units) ts (not_else site ks (k.Word w units) (Some w) ts (λ e. cc) h))
  back_below site line ks kind ts h = inner_below ks (tok kind site line ∷ ts) refl (back_inner site line ks kind ts (not_else site ks kind None ts (λ e. cc) h))

  -- ---- a token behind a statement that is over

  settle_left : (q : Bool) (s : Stmt) (ks : List Frame) (ts : List Token) → starts is_else ts ≡ q → Overs P tree (settle q s ks).frames (settle q s ks).value ts → Overs P tree ks s ts
  settle_left true s (frame.Below (below.Then arms site test) ∷ ks) ts e h = h
  settle_left false s (frame.Below (below.Then arms site test) ∷ ks) ts e h = inl (e, settle_left false (stmt.If (arm arms site test s) None) ks ts e h)
  settle_left q s (frame.Below (below.Else arms) ∷ ks) ts e h = settle_left q (stmt.If arms (Some s)) ks ts e h
  settle_left q s (frame.Below (below.While site test) ∷ ks) ts e h = settle_left q (stmt.While site test s) ks ts e h
  settle_left q s (frame.Below (below.Do site) ∷ ks) ts e h = h
  settle_left q s (frame.Below (below.For site first test update) ∷ ks) ts e h = settle_left q (stmt.For site first test update s) ks ts e h
  settle_left q s (frame.Below (below.ForOf site o n items) ∷ ks) ts e h = settle_left q (stmt.ForOf site o n items s) ks ts e h
  settle_left q s _ ts e h = h

  next_item_left : (site : ℕ) (line : Bool) (s : Stmt) (ks : List Frame) (kind : TokenKind) (ts : List Token) → Next P tree (next_item site s ks kind) ts → Overs P tree ks s (tok kind site line ∷ ts)
  next_item_left site line s (frame.List b body ∷ ks) kind ts h = back_item site line (frame.List b (body ++ s ∷ []) ∷ ks) kind ts h
  next_item_left site line s _ kind ts h = absurd h

  on_else_left : (units : List ℕ) (site : ℕ) (line : Bool) (s : Stmt) (ks : List Frame) (ts : List Token) → Next P tree (on_else s ks) ts → Overs P tree ks s (tok (k.Word word.Else units) site line ∷ ts)
  on_else_left units site line s (frame.Below (below.Then arms site' test) ∷ ks) ts h = inr (site, ts, (units, fronted (k.Word word.Else units) site line ts), h.1)
  on_else_left units site line s _ ts h = absurd h

  on_while_left : (units : List ℕ) (site : ℕ) (line : Bool) (s : Stmt) (ks : List Frame) (ts : List Token) → Next P tree (on_while site s ks (k.Word word.While units)) ts → Overs P tree ks s (tok (k.Word word.While units) site line ∷ ts)
  on_while_left units site line s (frame.Below (below.Do site') ∷ ks) ts h =
      let g = h.1 in
      elim g.3 [
        | inl v ↦ (site, ts, v.1.0, v.1.4.1, v.1.4.3.0, (units, fronted (k.Word word.While units) site line ts), round_assign (deep ks) (context ks) ts g.0 g.1 v.1.0 v.1.1 v.1.2 v.1.4.0 v.1.4.1 g.2 v.1.3 v.1.4.2, v.1.4.3.1, v.1.4.3.2)
        | inr x ↦ absurd x
      ]
  on_while_left units site line s ks ts h = next_item_left site line s ks (k.Word word.While units) ts h

  pub back_after : (site : ℕ) (line : Bool) (s : Stmt) (ks : List Frame) (kind : TokenKind) (ts : List Token) → Next P tree (after site s ks kind) ts → Overs P tree ks s (tok kind site line ∷ ts)
  back_after site line s ks (k.Word word.Else units) ts h = settle_left true s ks (tok (k.Word word.Else units) site line ∷ ts) refl (on_else_left units site line (settle true s ks).value (settle true s ks).frames ts h)
  back_after site line s ks (k.Word word.While units) ts h = settle_left false s ks (tok (k.Word word.While units) site line ∷ ts) refl (on_while_left units site line (settle false s ks).value (settle false s ks).frames ts h)
  back_after site line s ks (k.Word w units) ts h = settle_left false s ks (tok (k.Word w units) site line ∷ ts) refl (next_item_left site line (settle false s ks).value (settle false s ks).frames (k.Word w units) ts h)
  back_after site line s ks kind ts h = settle_left false s ks (tok kind site line ∷ ts) refl (next_item_left site line (settle false s ks).value (settle false s ks).frames kind ts h)
