-- A step backwards in declarations, in the heads of loops, in the parts of a `try`, and where a statement may end.
use Rattle.std.proofs.Common.{◌≡◌, ℕ, zero, suc, ◌<◌, ◌≤◌, Bool, true, false, cond, not, ◌&&◌, List, [], ◌∷◌, ◌++◌, length, Option, Some, None, refl, sym, subst, arith, inl, inr, All, slice_index_or}
use Rattle.js_ast.specs.declared.expression.Expr.{Expr}
use Rattle.js_ast.specs.declared.statement.Stmt.{Stmt}
use Rattle.js_ast.specs.declared.statement.Stmt.TheVariants as stmt
use Rattle.js_ast.specs.declared.operators.DeclarationKind.{DeclarationKind}
use Rattle.js_ast.specs.declared.operators.DeclarationKind.TheVariants as kind
use Rattle.js_ast.specs.declared.parts.Identifier.{Identifier}
use Rattle.js_ast.specs.declared.parts.Declarator.{Declarator}
use Rattle.js_ast.specs.declared.parts.LoopHead.TheVariants as head
use Rattle.js_ast.specs.declared.parts.Catch.{Catch}
use Rattle.js_grammar.specs.declared.token.Token.{Token}
use Rattle.js_grammar.specs.declared.token.TokenKind.{TokenKind}
use Rattle.js_grammar.specs.declared.token.TokenKind.TheVariants as k
use Rattle.js_grammar.specs.declared.token.Word.{Word}
use Rattle.js_grammar.specs.declared.token.Word.TheVariants as word
use Rattle.js_grammar.specs.Phrases.{IsWord, IsIdentifier, is_of, Tail, no_expression, is_semicolon, may_end, IsEnd}
use Rattle.js_grammar.specs.Grammar.{IsDeclares, declares_let, declares_const}
use Rattle.js_grammar.specs.Grammar.{IsDeclarator, declarator_name, declarator_value, head_none, head_value, head_declare, catch_all, catch_name, IsFinally, finally_body, finally_none, finally_some}
use Rattle.js_reading.specs.declared.frame.Frame.{Frame}
use Rattle.js_reading.specs.declared.frame.Frame.TheVariants as frame
use Rattle.js_reading.specs.declared.frame.Part.TheVariants as part
use Rattle.js_reading.specs.declared.frame.Braces.TheVariants as list
use Rattle.js_reading.specs.declared.frame.Place.{Place}
use Rattle.js_reading.specs.declared.frame.Place.TheVariants as place
use Rattle.js_reading.specs.declared.frame.Declaring.{Declaring}
use Rattle.js_reading.specs.declared.mode.Mode.TheVariants as mode
use Rattle.js_reading.specs.declared.mode.Ending.{Ending}
use Rattle.js_reading.specs.declared.mode.Ending.TheVariants as ending
use Rattle.js_reading.specs.declared.mode.Trying.{Trying}
use Rattle.js_reading.specs.declared.mode.Trying.TheVariants as trying
use Rattle.js_reading.specs.declared.mode.Opening.{Opening}
use Rattle.js_reading.specs.declared.mode.Opening.TheVariants as opening
use Rattle.js_reading.specs.Frames.{when, context}
use Rattle.js_reading.specs.Operands.{at, word_of, wants, want, whole}
use Rattle.js_reading.specs.Statements.{with_declarator, declares_more, is_statement, is_let, over, declaration_over, after, test_on, for_on, for_first, for_word, for_head_on, declare_on, bare, is_empty, goes_of, ends_bare, named_ends, named_on, function_name_on, opening_on, do_on, jump_on, return_on, throw_on, ending_on, tried_on, catch_head_on, catch_open_on, catch_name_on, caught_by, trying_on}
use Rattle.js_laws.proofs.Left.{deep, tok, IsFitting, FitsName, lead, DeclaredIn, DeclaratorIn, TriedIn, CaughtIn, BracesIn, Overs, LeftWant, ForHead, LeftOpening, LeftEnding, LeftTrying, Left, Next}
use Rattle.js_laws.proofs.BackOperators.{fronted, next_when, next_unless}
use Rattle.js_laws.proofs.BackOperands.{back_want, back_want_word, test_of}
use Rattle.js_laws.proofs.BackStatements.{declared_first, body_of, back_after}

-- ---- where nothing ends a statement

pub may_end_bare : (line : Bool) (kind : TokenKind) (site : ℕ) (ts : List Token) → is_semicolon kind ≡ false → ends_bare line kind ≡ true → may_end no_expression (tok kind site line ∷ ts) ≡ true
may_end_bare line k.CloseBrace site ts s h = refl
may_end_bare line k.Semicolon site ts s h = absurd cc
may_end_bare true _ site ts s h = refl
may_end_bare false _ site ts s h = absurd cc

pub bare_line : (line : Bool) (kind : TokenKind) → ends_bare line kind ≡ false → line ≡ false
bare_line line k.CloseBrace h = absurd cc
bare_line line _ h = h

pub and_true : (a b : Bool) → (a && b) ≡ true → (a ≡ true) × (b ≡ true)
and_true true b h = (refl, h)
and_true false b h = absurd cc

pub not_line : (line : Bool) → line ≡ false → not line ≡ true
not_line true h = absurd cc
not_line false h = refl

let_is : (o : DeclarationKind) → is_let o ≡ true → o ≡ kind.Let
let_is kind.Let h = refl
let_is kind.Const h = absurd cc

not_empty : (ds : List (Declarator Expr)) (x : Declarator Expr) → is_empty (ds ++ x ∷ []) ≡ false
not_empty [] x = refl
not_empty (d ∷ ds) x = refl

fits_name : (p : Place) (name : List ℕ) → (not (is_statement p) && is_of name) ≡ false → FitsName p name
fits_name place.Statement name h = tt
fits_name place.Loop name h = h

not_of : (p : Place) (name : List ℕ) → (not (is_statement p) && is_of name) ≡ false → is_statement p ≡ false → is_of name ≡ false
not_of place.Statement name h g = absurd cc
not_of place.Loop name h g = h

loop_place : (p : Place) → not (is_statement p) ≡ true → is_statement p ≡ false
loop_place place.Statement h = absurd cc
loop_place place.Loop h = refl

fit_at : (xs : List (Declarator Expr)) → IsFitting xs → (n : ℕ) (d : Declarator Expr) → n < length xs → is_of (slice_index_or xs n d).name.name ≡ false
fit_at [] h n d l = absurd (omega arith)
fit_at (x ∷ xs) h zero d l = h.0
fit_at (x ∷ xs) h (suc n) d l = fit_at xs h.1 n d (omega arith)

all_fit : (xs : List (Declarator Expr)) → IsFitting xs → All (λ (x : Declarator Expr). is_of x.name.name ≡ false) xs
all_fit xs h = λ n d l. fit_at xs h n d l

module _ (P : ℕ → Type 0) (tree : List Stmt) where
  -- a declaration ends
  pub declared_at : (p : Place) (site : ℕ) (o : DeclarationKind) (ds : List (Declarator Expr)) (ks : List Frame) (t : Tail) (ts rest : List Token) → is_statement p ≡ true → IsEnd t ts rest → Overs P tree ks (stmt.Declare site o ds) rest → DeclaredIn P tree p site o ds ks (lead P tree ks) t ts
  declared_at place.Statement site o ds ks t ts rest q e h = (rest, e, h)
  declared_at place.Loop site o ds ks t ts rest q e h = absurd cc

  pub declaration_ends : (p : Place) (site : ℕ) (o : DeclarationKind) (ds : List (Declarator Expr)) (ks : List Frame) (t : Tail) (at' : ℕ) (line : Bool) (ts : List Token) → Left P tree (cond (is_statement p) (over (stmt.Declare site o ds) ks) (wants (frame.Part (part.ForTest site (head.Declare o ds))) ks)) ts → DeclaredIn P tree p site o ds ks (lead P tree ks) t (tok k.Semicolon at' line ∷ ts)
  declaration_ends place.Statement site o ds ks t at' line ts h = (ts, inl (at', fronted k.Semicolon at' line ts), h)
  declaration_ends place.Loop site o ds ks t at' line ts h = (at', ts, fronted k.Semicolon at' line ts, test_of P tree site (head.Declare o ds) ks ts h)

  pub declares_on : (d : Declaring) (n : Identifier) (value : Option Expr) (ks : List Frame) (at' : ℕ) (line : Bool) (t : Tail) (ts : List Token) → Left P tree (declares_more d n value ks) ts → DeclaratorIn P tree d.place d.site d.kind (with_declarator d n value) ks (lead P tree ks) t (tok k.Comma at' line ∷ ts)
  declares_on d n value ks at' line t ts h =
      elim h [
        | inl g ↦ inr (at', ts, fronted k.Comma at' line ts, g)
        | inr g ↦ absurd (let q : is_empty (d.declarators ++ record { name = n; value = value } ∷ []) ≡ false = not_empty d.declarators (record { name = n; value = value }) in let r : is_empty (d.declarators ++ record { name = n; value = value } ∷ []) ≡ true = g.1 in cc)
      ]

module _ (P : ℕ → Type 0) (down : (m n : ℕ) → m ≤ n → P n → P m) (tree : List Stmt) where
  -- ---- openings

  back_test : (site : ℕ) (line : Bool) (ks : List Frame) (kind : TokenKind) (ts : List Token) → Next P tree (test_on ks kind) ts → LeftOpening P tree opening.Test ks (tok kind site line ∷ ts)
  back_test site line ks k.OpenRound ts h = (site, ts, fronted k.OpenRound site line ts, h.1)
  back_test site line ks _ ts h = absurd h

  back_for : (site' site : ℕ) (line : Bool) (ks : List Frame) (kind : TokenKind) (ts : List Token) → Next P tree (for_on site' ks kind) ts → LeftOpening P tree (opening.For site') ks (tok kind site line ∷ ts)
  back_for site' site line ks k.OpenRound ts h = (site, ts, fronted k.OpenRound site line ts, h.1)
  back_for site' site line ks _ ts h = absurd h

  head_declared : (o : DeclarationKind) (site' : ℕ) (at' : ℕ) (ks : List Frame) (whole ts : List Token) → IsDeclares whole o at' ts → LeftOpening P tree (opening.Declare (record { place = place.Loop; site = site'; kind = o; declarators = [] })) ks ts → ForHead P tree site' ks whole
  head_declared o site' at' ks whole ts i h =
      elim h [
        | inl g ↦ inl (head.Declare o g.0, g.2, head_declare (deep ks) (context ks) whole o at' ts g.0 g.1 g.2 i g.3 (all_fit g.0 g.4), g.5)
        | inr g ↦ inr (o, at', ts, i, g.2)
      ]

  head_first : (site' : ℕ) (ks : List Frame) (whole : List Token) → LeftWant P tree (for_first site' ks) whole → ForHead P tree site' ks whole
  head_first site' ks whole h =
      elim h [
        | inl w ↦ inl (head.Value w.1.0, w.1.2, head_value (deep ks) (context ks) whole w.1.0 w.1.1 w.1.2 w.1.3, w.1.4)
        | inr x ↦ absurd x
      ]

  back_for_word : (w : Word) (units : List ℕ) (site' site : ℕ) (line : Bool) (ks : List Frame) (ts : List Token) → Next P tree (for_word w site' site ks) ts → ForHead P tree site' ks (tok (k.Word w units) site line ∷ ts)
  back_for_word word.Let units site' site line ks ts h = head_declared kind.Let site' site ks (tok (k.Word word.Let units) site line ∷ ts) ts (declares_let (tok (k.Word word.Let units) site line ∷ ts) site ts (units, fronted (k.Word word.Let units) site line ts)) h.1
  back_for_word word.Const units site' site line ks ts h = head_declared kind.Const site' site ks (tok (k.Word word.Const units) site line ∷ ts) ts (declares_const (tok (k.Word word.Const units) site line ∷ ts) site ts (units, fronted (k.Word word.Const units) site line ts)) h.1
  back_for_word w units site' site line ks ts h = head_first site' ks (tok (k.Word w units) site line ∷ ts) (back_want_word P down tree w units site line (for_first site' ks) ts h)

  back_for_head : (site' site : ℕ) (line : Bool) (ks : List Frame) (kind : TokenKind) (ts : List Token) → Next P tree (for_head_on site' site ks kind) ts → ForHead P tree site' ks (tok kind site line ∷ ts)
  back_for_head site' site line ks k.Semicolon ts h =
      let hall : List Token = tok k.Semicolon site line ∷ ts in
      inl (head.Nothing, hall, head_none (deep ks) (context ks) hall, (site, ts, fronted k.Semicolon site line ts, test_of P tree site' head.Nothing ks ts h.1))
  back_for_head site' site line ks (k.Word w units) ts h = back_for_word w units site' site line ks ts h
  back_for_head site' site line ks kind ts h = head_first site' ks (tok kind site line ∷ ts) (back_want P down tree site line (for_first site' ks) kind ts h)

  named_declared : (d : Declaring) (name : List ℕ) (site : ℕ) (line : Bool) (ks : List Frame) (ts : List Token) → (not (is_statement d.place) && is_of name) ≡ false → LeftOpening P tree (opening.Named d (record { site = site; name = name })) ks ts → LeftOpening P tree (opening.Declare d) ks (tok (k.Name name) site line ∷ ts)
  named_declared d name site line ks ts f h =
      let hall : List Token = tok (k.Name name) site line ∷ ts in
      let n : Identifier = record { site = site; name = name } in
      let i : IsIdentifier hall n ts = record { begins = fronted (k.Name name) site line ts } in
      let fit : FitsName d.place name = fits_name d.place name f in
      elim h [
        | inl g ↦
            (let first : IsDeclarator P kind.Let (deep ks) (context ks) hall (record { name = n; value = None }) no_expression ts = declarator_name (deep ks) (context ks) hall n ts i in
            inl (declared_first P tree d.place d.site d.kind d.declarators ks hall (record { name = n; value = None }) no_expression ts (subst (λ (z : DeclarationKind). IsDeclarator P z (deep ks) (context ks) hall (record { name = n; value = None }) no_expression ts) (sym (let_is d.kind g.0)) first) fit g.1))
        | inr (inl g) ↦
            (let v = g.3 in
            inl (declared_first P tree d.place d.site d.kind d.declarators ks hall (record { name = n; value = Some v.0 }) v.1 v.2 (declarator_value d.kind (deep ks) (context ks) hall n ts g.0 g.1 v.0 v.1 v.2 i g.2 v.3) fit v.4))
        | inr (inr g) ↦ inr (g.0, g.1, (n, ts, i, not_of d.place name f g.0, g.2))
      ]

  back_declare : (d : Declaring) (site : ℕ) (line : Bool) (ks : List Frame) (kind : TokenKind) (ts : List Token) → Next P tree (declare_on d site ks kind) ts → LeftOpening P tree (opening.Declare d) ks (tok kind site line ∷ ts)
  back_declare d site line ks (k.Name name) ts h =
      let g = next_unless P tree (not (is_statement d.place) && is_of name) (Some (at (mode.Opening (opening.Named d (record { site = site; name = name }))) ks)) ts h in
      named_declared d name site line ks ts g.0 g.1.1
  back_declare d site line ks _ ts h = absurd h

  named_ends_left : (line : Bool) (d : Declaring) (n : Identifier) (site : ℕ) (ks : List Frame) (kind : TokenKind) (ts : List Token) → is_semicolon kind ≡ false → Next P tree (named_ends line d n site ks kind) ts → LeftOpening P tree (opening.Named d n) ks (tok kind site line ∷ ts)
  named_ends_left line d n site ks kind ts s h =
      let hall : List Token = tok kind site line ∷ ts in
      let g = next_when P tree (is_statement d.place && (is_let d.kind && ends_bare line kind)) (after site (bare d n) ks kind) ts h in
      let a = and_true (is_statement d.place) (is_let d.kind && ends_bare line kind) g.0 in
      let b = and_true (is_let d.kind) (ends_bare line kind) a.1 in
      inl (b.0, inl (declared_at P tree d.place d.site d.kind (with_declarator d n None) ks no_expression hall hall a.0 (inr (refl, may_end_bare line kind site ts s b.1)) (back_after P down tree site line (bare d n) ks kind ts g.1)))

  of_left : (d : Declaring) (n : Identifier) (name : List ℕ) (site : ℕ) (line : Bool) (ks : List Frame) (ts : List Token) → goes_of d name ≡ true → LeftWant P tree (frame.Part (part.ForOf d.site d.kind n) ∷ ks) ts → LeftOpening P tree (opening.Named d n) ks (tok (k.Name name) site line ∷ ts)
  of_left d n name site line ks ts q h =
      let a = and_true (not (is_statement d.place)) (is_empty d.declarators && is_of name) q in
      let b = and_true (is_empty d.declarators) (is_of name) a.1 in
      elim h [
        | inl w ↦ inr (inr (loop_place d.place a.0, b.0, (name, site, ts, w.1.0, w.1.1, w.1.2, fronted (k.Name name) site line ts, b.1, w.1.3, w.1.4)))
        | inr x ↦ absurd x
      ]

  of_or_end : (line : Bool) (d : Declaring) (n : Identifier) (name : List ℕ) (site : ℕ) (ks : List Frame) (ts : List Token) (q : Bool) → goes_of d name ≡ q → Next P tree (cond q (Some (wants (frame.Part (part.ForOf d.site d.kind n)) ks)) (named_ends line d n site ks (k.Name name))) ts → LeftOpening P tree (opening.Named d n) ks (tok (k.Name name) site line ∷ ts)
  of_or_end line d n name site ks ts true q h = of_left d n name site line ks ts q h.1
  of_or_end line d n name site ks ts false q h = named_ends_left line d n site ks (k.Name name) ts refl h

  value_left : (d : Declaring) (n : Identifier) (site : ℕ) (line : Bool) (ks : List Frame) (ts : List Token) → LeftWant P tree (frame.Part (part.Declare d n) ∷ ks) ts → LeftOpening P tree (opening.Named d n) ks (tok (k.Assign None) site line ∷ ts)
  value_left d n site line ks ts h =
      elim h [
        | inl w ↦ inr (inl (site, ts, fronted (k.Assign None) site line ts, (w.1.0, w.1.1, w.1.2, w.1.3, w.1.4)))
        | inr x ↦ absurd x
      ]

  back_named : (line : Bool) (d : Declaring) (n : Identifier) (site : ℕ) (ks : List Frame) (kind : TokenKind) (ts : List Token) → Next P tree (named_on line d n site ks kind) ts → LeftOpening P tree (opening.Named d n) ks (tok kind site line ∷ ts)
  back_named line d n site ks (k.Assign None) ts h = value_left d n site line ks ts h.1
  back_named line d n site ks k.Comma ts h =
      let g = next_when P tree (is_let d.kind) (Some (declares_more d n None ks)) ts h in
      inl (g.0, declares_on P tree d n None ks site line no_expression ts g.1.1)
  back_named line d n site ks k.Semicolon ts h =
      let g = next_when P tree (is_let d.kind) (Some (declaration_over d n None ks)) ts h in
      inl (g.0, inl (declaration_ends P tree d.place d.site d.kind (with_declarator d n None) ks no_expression site line ts g.1.1))
  back_named line d n site ks (k.Name name) ts h = of_or_end line d n name site ks ts (goes_of d name) refl h
  back_named line d n site ks kind ts h = named_ends_left line d n site ks kind ts refl h

  back_function_name : (site' site : ℕ) (line : Bool) (ks : List Frame) (kind : TokenKind) (ts : List Token) → Next P tree (function_name_on site' site ks kind) ts → LeftOpening P tree (opening.Function site') ks (tok kind site line ∷ ts)
  back_function_name site' site line ks (k.Name name) ts h =
      (record { site = site; name = name }, ts, h.1.0, h.1.1, record { begins = fronted (k.Name name) site line ts }, h.1.2, h.1.3)
  back_function_name site' site line ks _ ts h = absurd h

  pub back_opening : (line : Bool) (o : Opening) (site : ℕ) (ks : List Frame) (kind : TokenKind) (ts : List Token) → Next P tree (opening_on line o site ks kind) ts → LeftOpening P tree o ks (tok kind site line ∷ ts)
  back_opening line opening.Test site ks kind ts h = back_test site line ks kind ts h
  back_opening line (opening.For site') site ks kind ts h = back_for site' site line ks kind ts h
  back_opening line (opening.ForHead site') site ks kind ts h = back_for_head site' site line ks kind ts h
  back_opening line (opening.Declare d) site ks kind ts h = back_declare d site line ks kind ts h
  back_opening line (opening.Named d n) site ks kind ts h = back_named line d n site ks kind ts h
  back_opening line (opening.Function site') site ks kind ts h = back_function_name site' site line ks kind ts h

  -- ---- endings

  back_do : (line : Bool) (s : Stmt) (site : ℕ) (ks : List Frame) (kind : TokenKind) (ts : List Token) → Next P tree (do_on s site ks kind) ts → LeftEnding P tree (ending.Do s) ks (tok kind site line ∷ ts)
  back_do line s site ks k.Semicolon ts h = (ts, inl (site, fronted k.Semicolon site line ts), h.1)
  back_do line s site ks kind ts h = (tok kind site line ∷ ts, inr (refl, refl), back_after P down tree site line s ks kind ts h)

  jump_left : (line : Bool) (s : Stmt) (site : ℕ) (ks : List Frame) (kind : TokenKind) (ts : List Token) → is_semicolon kind ≡ false → Next P tree (when (ends_bare line kind) (after site s ks kind)) ts → LeftEnding P tree (ending.Jump s) ks (tok kind site line ∷ ts)
  jump_left line s site ks kind ts q h =
      let g = next_when P tree (ends_bare line kind) (after site s ks kind) ts h in
      (tok kind site line ∷ ts, inr (refl, may_end_bare line kind site ts q g.0), back_after P down tree site line s ks kind ts g.1)

  back_jump : (line : Bool) (s : Stmt) (site : ℕ) (ks : List Frame) (kind : TokenKind) (ts : List Token) → Next P tree (jump_on line s site ks kind) ts → LeftEnding P tree (ending.Jump s) ks (tok kind site line ∷ ts)
  back_jump line s site ks k.Semicolon ts h = (ts, inl (site, fronted k.Semicolon site line ts), h.1)
  back_jump line s site ks kind ts h = jump_left line s site ks kind ts refl h

  return_left : (line : Bool) (site' site : ℕ) (ks : List Frame) (kind : TokenKind) (ts : List Token) (q : Bool) → ends_bare line kind ≡ q → is_semicolon kind ≡ false → Next P tree (cond q (after site (stmt.Return site' None) ks kind) (want site (frame.Part (part.Return site') ∷ ks) kind)) ts → LeftEnding P tree (ending.Return site') ks (tok kind site line ∷ ts)
  return_left line site' site ks kind ts true e s h =
      inl (tok kind site line ∷ ts, inr (refl, may_end_bare line kind site ts s e), back_after P down tree site line (stmt.Return site' None) ks kind ts h)
  return_left line site' site ks kind ts false e s h =
      elim (back_want P down tree site line (frame.Part (part.Return site') ∷ ks) kind ts h) [
        | inl w ↦ inr (not_line line (bare_line line kind e), (w.1.0, w.1.1, w.1.2, w.1.4.0, w.1.3, w.1.4.1, w.1.4.2))
        | inr x ↦ absurd x
      ]

  back_return : (line : Bool) (site' site : ℕ) (ks : List Frame) (kind : TokenKind) (ts : List Token) → Next P tree (return_on line site' site ks kind) ts → LeftEnding P tree (ending.Return site') ks (tok kind site line ∷ ts)
  back_return line site' site ks k.Semicolon ts h = inl (ts, inl (site, fronted k.Semicolon site line ts), h.1)
  back_return line site' site ks kind ts h = return_left line site' site ks kind ts (ends_bare line kind) refl refl h

  back_throw : (line : Bool) (site' site : ℕ) (ks : List Frame) (kind : TokenKind) (ts : List Token) → Next P tree (throw_on line site' site ks kind) ts → LeftEnding P tree (ending.Throw site') ks (tok kind site line ∷ ts)
  back_throw line site' site ks kind ts h =
      let g = next_unless P tree line (want site (frame.Part (part.Throw site') ∷ ks) kind) ts h in
      elim (back_want P down tree site line (frame.Part (part.Throw site') ∷ ks) kind ts g.1) [
        | inl w ↦ (not_line line g.0, (w.1.0, w.1.1, w.1.2, w.1.4.0, w.1.3, w.1.4.1, w.1.4.2))
        | inr x ↦ absurd x
      ]

  pub back_ending : (line : Bool) (e : Ending) (site : ℕ) (ks : List Frame) (kind : TokenKind) (ts : List Token) → Next P tree (ending_on line e site ks kind) ts → LeftEnding P tree e ks (tok kind site line ∷ ts)
  back_ending line (ending.Over s) site ks kind ts h = back_after P down tree site line s ks kind ts h
  back_ending line (ending.Do s) site ks kind ts h = back_do line s site ks kind ts h
  back_ending line (ending.Jump s) site ks kind ts h = back_jump line s site ks kind ts h
  back_ending line (ending.Return site') site ks kind ts h = back_return line site' site ks kind ts h
  back_ending line (ending.Throw site') site ks kind ts h = back_throw line site' site ks kind ts h

  -- ---- the parts of a `try`

  caught_tried : (site' : ℕ) (body : List Stmt) (units : List ℕ) (site : ℕ) (line : Bool) (ks : List Frame) (ts : List Token) → LeftTrying P tree (trying.CatchHead site' body) ks ts → TriedIn P tree site' body ks (lead P tree ks) (tok (k.Word word.Catch units) site line ∷ ts)
  caught_tried site' body units site line ks ts h =
      let hall : List Token = tok (k.Word word.Catch units) site line ∷ ts in
      let w : IsWord hall word.Catch site ts = (units, fronted (k.Word word.Catch units) site line ts) in
      elim h [
        | inl g ↦
            (let l = g.3 in
            let f = l.3.3 in
            inl (record { name = None; body = l.0 }, l.3.1, f.0, f.1, catch_all (deep ks) (context ks) hall site ts l.0 l.3.1 w (body_of P tree (deep ks) (context ks) g.0 ts g.1 l.0 l.1 l.3.0 l.3.1 g.2 l.2 l.3.2), f.2, f.3))
        | inr r ↦
            (let n = r.3 in
            let c = n.3 in
            let g = c.3 in
            let l = g.3 in
            let f = l.3.3 in
            inl (record { name = Some n.0; body = l.0 }, l.3.1, f.0, f.1, catch_name (deep ks) (context ks) hall site ts r.0 r.1 n.0 n.1 c.0 c.1 l.0 l.3.1 w r.2 n.2 c.2 (body_of P tree (deep ks) (context ks) g.0 c.1 g.1 l.0 l.1 l.3.0 l.3.1 g.2 l.2 l.3.2), f.2, f.3))
      ]

  finally_of : (site' : ℕ) (body : List Stmt) (h : Option (Catch (List Stmt))) (units : List ℕ) (site : ℕ) (line : Bool) (ks : List Frame) (ts : List Token) → BracesIn P tree (list.Finally site' body h) ks (lead P tree ks) ts → (last : List Stmt) × (rest : List Token) × IsFinally P (deep ks) (context ks) (tok (k.Word word.Finally units) site line ∷ ts) last rest × Overs P tree ks (stmt.Try site' body h (Some last)) rest
  finally_of site' body h units site line ks ts g =
      let hall : List Token = tok (k.Word word.Finally units) site line ∷ ts in
      let l = g.3 in
      (l.0, l.3.1, finally_body (deep ks) (context ks) hall site ts l.0 l.3.1 (units, fronted (k.Word word.Finally units) site line ts) (body_of P tree (deep ks) (context ks) g.0 ts g.1 l.0 l.1 l.3.0 l.3.1 g.2 l.2 l.3.2), l.3.3)

  back_tried : (site' : ℕ) (body : List Stmt) (site : ℕ) (line : Bool) (ks : List Frame) (kind : TokenKind) (ts : List Token) → Next P tree (tried_on site' body ks kind) ts → TriedIn P tree site' body ks (lead P tree ks) (tok kind site line ∷ ts)
  back_tried site' body site line ks (k.Word word.Catch units) ts h = caught_tried site' body units site line ks ts h.1
  back_tried site' body site line ks (k.Word word.Finally units) ts h = inr (finally_of site' body None units site line ks ts h.1)
  back_tried site' body site line ks (k.Word _ units) ts h = absurd h
  back_tried site' body site line ks _ ts h = absurd h

  back_catch_head : (site' : ℕ) (body : List Stmt) (site : ℕ) (line : Bool) (ks : List Frame) (kind : TokenKind) (ts : List Token) → Next P tree (catch_head_on site' body ks kind) ts → LeftTrying P tree (trying.CatchHead site' body) ks (tok kind site line ∷ ts)
  back_catch_head site' body site line ks k.OpenRound ts h = inr (site, ts, fronted k.OpenRound site line ts, h.1)
  back_catch_head site' body site line ks k.OpenBrace ts h = inl (site, ts, fronted k.OpenBrace site line ts, h.1)
  back_catch_head site' body site line ks _ ts h = absurd h

  back_catch_open : (site' : ℕ) (body : List Stmt) (site : ℕ) (line : Bool) (ks : List Frame) (kind : TokenKind) (ts : List Token) → Next P tree (catch_open_on site' body site ks kind) ts → LeftTrying P tree (trying.CatchOpen site' body) ks (tok kind site line ∷ ts)
  back_catch_open site' body site line ks (k.Name name) ts h = (record { site = site; name = name }, ts, record { begins = fronted (k.Name name) site line ts }, h.1)
  back_catch_open site' body site line ks _ ts h = absurd h

  back_catch_name : (site' : ℕ) (body : List Stmt) (n : Identifier) (site : ℕ) (line : Bool) (ks : List Frame) (kind : TokenKind) (ts : List Token) → Next P tree (catch_name_on site' body n ks kind) ts → LeftTrying P tree (trying.CatchName site' body n) ks (tok kind site line ∷ ts)
  back_catch_name site' body n site line ks k.CloseRound ts h = (site, ts, fronted k.CloseRound site line ts, h.1)
  back_catch_name site' body n site line ks _ ts h = absurd h

  no_finally : (site' : ℕ) (body : List Stmt) (c : Catch (List Stmt)) (site : ℕ) (line : Bool) (ks : List Frame) (kind : TokenKind) (ts : List Token) → Next P tree (after site (stmt.Try site' body (Some c) None) ks kind) ts → CaughtIn P tree site' body c ks (lead P tree ks) (tok kind site line ∷ ts)
  no_finally site' body c site line ks kind ts h =
      (None, tok kind site line ∷ ts, finally_none (deep ks) (context ks) (tok kind site line ∷ ts), back_after P down tree site line (stmt.Try site' body (Some c) None) ks kind ts h)

  with_finally : (site' : ℕ) (body : List Stmt) (c : Catch (List Stmt)) (units : List ℕ) (site : ℕ) (line : Bool) (ks : List Frame) (ts : List Token) → BracesIn P tree (list.Finally site' body (Some c)) ks (lead P tree ks) ts → CaughtIn P tree site' body c ks (lead P tree ks) (tok (k.Word word.Finally units) site line ∷ ts)
  with_finally site' body c units site line ks ts h =
      let g = finally_of site' body (Some c) units site line ks ts h in
      (Some g.0, g.1, finally_some (deep ks) (context ks) (tok (k.Word word.Finally units) site line ∷ ts) g.0 g.1 g.2, g.3)

  back_caught : (site' : ℕ) (body : List Stmt) (c : Catch (List Stmt)) (site : ℕ) (line : Bool) (ks : List Frame) (kind : TokenKind) (ts : List Token) → Next P tree (caught_by site' body c site ks kind (word_of kind)) ts → CaughtIn P tree site' body c ks (lead P tree ks) (tok kind site line ∷ ts)
  back_caught site' body c site line ks (k.Word word.Finally units) ts h = with_finally site' body c units site line ks ts h.1
  back_caught site' body c site line ks (k.Word w units) ts h = no_finally site' body c site line ks (k.Word w units) ts h
  back_caught site' body c site line ks kind ts h = no_finally site' body c site line ks kind ts h

  pub back_trying : (t : Trying) (site : ℕ) (line : Bool) (ks : List Frame) (kind : TokenKind) (ts : List Token) → Next P tree (trying_on t site ks kind) ts → LeftTrying P tree t ks (tok kind site line ∷ ts)
  back_trying (trying.Tried site' body) site line ks kind ts h = back_tried site' body site line ks kind ts h
  back_trying (trying.CatchHead site' body) site line ks kind ts h = back_catch_head site' body site line ks kind ts h
  back_trying (trying.CatchOpen site' body) site line ks kind ts h = back_catch_open site' body site line ks kind ts h
  back_trying (trying.CatchName site' body n) site line ks kind ts h = back_catch_name site' body n site line ks kind ts h
  back_trying (trying.Caught site' body c) site line ks kind ts h = back_caught site' body c site line ks kind ts h
