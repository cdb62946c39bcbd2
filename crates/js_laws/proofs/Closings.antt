-- From each state that fits some tokens, such as texts have, lead to the end of a script.
use Rattle.std.proofs.Common.{◌≡◌, ℕ, suc, true, false, List, [], ◌∷◌, ◌++◌, Option, Some, None, refl, arith, inl, inr}
use Rattle.std.specs.Prelude.{codes}
use Rattle.js_ast.specs.declared.expression.Expr.{Expr}
use Rattle.js_ast.specs.declared.expression.Expr.TheVariants as expr
use Rattle.js_ast.specs.declared.statement.Stmt.{Stmt}
use Rattle.js_ast.specs.declared.statement.Stmt.TheVariants as stmt
use Rattle.js_ast.specs.declared.statement.Arm.{Arm}
use Rattle.js_ast.specs.declared.operators.StepOp.{StepOp}
use Rattle.js_ast.specs.declared.operators.DeclarationKind.{DeclarationKind}
use Rattle.js_ast.specs.declared.parts.Identifier.{Identifier}
use Rattle.js_ast.specs.declared.parts.Access.{Access}
use Rattle.js_ast.specs.declared.parts.Access.TheVariants as access
use Rattle.js_ast.specs.declared.parts.Suffix.{Suffix}
use Rattle.js_ast.specs.declared.parts.Suffix.TheVariants as suffix
use Rattle.js_ast.specs.declared.parts.Target.{Target}
use Rattle.js_ast.specs.declared.parts.Target.TheVariants as target
use Rattle.js_ast.specs.declared.parts.Key.{Key}
use Rattle.js_ast.specs.declared.parts.Key.TheVariants as key
use Rattle.js_ast.specs.declared.parts.Member.{Member}
use Rattle.js_ast.specs.declared.parts.Member.TheVariants as member
use Rattle.js_ast.specs.declared.parts.Declarator.{Declarator}
use Rattle.js_ast.specs.declared.parts.LoopHead.{LoopHead}
use Rattle.js_ast.specs.declared.parts.LoopHead.TheVariants as head
use Rattle.js_ast.specs.declared.parts.Catch.{Catch}
use Rattle.js_grammar.specs.declared.token.Token.{Token}
use Rattle.js_grammar.specs.declared.token.TokenKind.{TokenKind}
use Rattle.js_grammar.specs.declared.token.TokenKind.TheVariants as k
use Rattle.js_grammar.specs.declared.token.Word.TheVariants as word
use Rattle.js_grammar.specs.Phrases.{Begins, IsIdentifier, Tail, call, step as behind, braces, Context, looping}
use Rattle.js_grammar.specs.Grammar.{call_of, names_none, IsParameters, name_none}
use Rattle.js_grammar.specs.Grammar.{IsAssign, assign_conditional, chain_unary, unary_call, call_all, first_primary, access_property, suffixes_none, arguments_none, members_none, primary_name}
use Rattle.js_grammar.specs.Grammar.{IsBody, body_braces, stmts_none, declarator_value, declarators_last, round_assign, IsBelow, below_inner, inner_nothing, head_none, optional_none, finally_body, finally_none}
use Rattle.js_reading.specs.declared.frame.Frame.{Frame}
use Rattle.js_reading.specs.declared.frame.Frame.TheVariants as frame
use Rattle.js_reading.specs.declared.frame.Pending.{Pending}
use Rattle.js_reading.specs.declared.frame.Bracket.{Bracket}
use Rattle.js_reading.specs.declared.frame.Bracket.TheVariants as bracket
use Rattle.js_reading.specs.declared.frame.Part.{Part}
use Rattle.js_reading.specs.declared.frame.Part.TheVariants as part
use Rattle.js_reading.specs.declared.frame.Below.{Below}
use Rattle.js_reading.specs.declared.frame.Below.TheVariants as below
use Rattle.js_reading.specs.declared.frame.Braces.{Braces}
use Rattle.js_reading.specs.declared.frame.Braces.TheVariants as list
use Rattle.js_reading.specs.declared.frame.Place.{Place}
use Rattle.js_reading.specs.declared.frame.Place.TheVariants as place
use Rattle.js_reading.specs.declared.mode.Mode.{Mode}
use Rattle.js_reading.specs.declared.mode.Mode.TheVariants as mode
use Rattle.js_reading.specs.declared.mode.Operand.{Operand}
use Rattle.js_reading.specs.declared.mode.Operand.TheVariants as operand
use Rattle.js_reading.specs.declared.mode.Header.{Header}
use Rattle.js_reading.specs.declared.mode.Header.TheVariants as header
use Rattle.js_reading.specs.declared.mode.Heading.{Heading}
use Rattle.js_reading.specs.declared.mode.Heading.TheVariants as heading
use Rattle.js_reading.specs.declared.mode.Ending.{Ending}
use Rattle.js_reading.specs.declared.mode.Ending.TheVariants as ending
use Rattle.js_reading.specs.declared.mode.Trying.{Trying}
use Rattle.js_reading.specs.declared.mode.Trying.TheVariants as trying
use Rattle.js_reading.specs.declared.mode.Opening.{Opening}
use Rattle.js_reading.specs.declared.mode.Opening.TheVariants as opening
use Rattle.js_reading.specs.declared.mode.Piece.{Piece}
use Rattle.js_reading.specs.declared.mode.Piece.TheVariants as piece
use Rattle.js_reading.specs.declared.mode.Parser.{Parser}
use Rattle.js_reading.specs.Frames.{context, join, within_braces}
use Rattle.js_reading.specs.Operands.{value_of, first_of, suffixes_of}
use Rattle.js_reading.specs.Statements.{arm, with_declarator}
use Rattle.js_units.specs.Characters.{is_letter, is_name_start}
use Rattle.js_units.specs.Words.{reserved_words}
use Rattle.js_laws.specs.Further.{is_name, is_reserved, is_spelt, all_spelt}
use Rattle.js_laws.proofs.Left.{rank_chain, rank_whole, above, above_last, deep, tok, Fits as FitNames, lead, Closing, ElseIn, AfterThen, LoopIn, UpdateIn, TestIn, DeclaredIn, TriedIn, CaughtIn, ClosedIn, ListIn, BracesIn, ArrowIn, Holds, Overs, LeftWant, LeftCall, LeftOperand, LeftPiece, Headed, LeftHeading, ForHead, LeftOpening, LeftEnding, LeftTrying, LeftStatement, LeftBelow, left_in, Left}
use Rattle.js_laws.proofs.ThroughFrames.{lift, up_unary, joins}
use Rattle.js_laws.proofs.BackOperators.{fronted, not_static, access_more}
use Rattle.js_laws.proofs.BackOperands.{starts_fine, primary_wanted}
use Rattle.js_laws.proofs.FittingStacks.{Sort, operands, expressions, statements, sort_in, Good, sort_operand, sort_header, fits_statement, fits_below, fits_heading, fits_opening, fits_in, Fits}

abbrev pub Leading : (List Stmt → List Token → Type 0) → Type 0
Leading K = (tree : List Stmt) × (ts : List Token) × K tree ts × (all_spelt ts ≡ true)

abbrev pub mark : TokenKind → Token
mark kind = tok kind 0 false

-- the name that closings use
abbrev pub letter : List ℕ
letter = 97 ∷ []

abbrev pub some_name : Identifier
some_name = record { site = 0; name = letter }

abbrev pub put : TokenKind → List Token → List Token
put kind ts = mark kind ∷ ts

letter_spelt : is_spelt (k.Name letter) ≡ true
unfolding is_name is_reserved is_name_start is_letter reserved_words
letter_spelt = refl

-- a name in front; words and marks change nothing, by computation
spelt_on : (ts : List Token) → all_spelt ts ≡ true → all_spelt (put (k.Name letter) ts) ≡ true
spelt_on ts h = rw letter_spelt h

begun : (kind : TokenKind) (ts : List Token) → Begins (put kind ts) kind 0 ts
begun kind ts = fronted kind 0 false ts

named : (ts : List Token) → IsIdentifier (put (k.Name letter) ts) some_name ts
named ts = record { begins = begun (k.Name letter) ts }

no_parameters : (ts : List Token) → IsParameters (put k.OpenRound (put k.CloseRound ts)) [] ts
no_parameters ts = (0, put k.CloseRound ts, begun k.OpenRound (put k.CloseRound ts), names_none (put k.CloseRound ts) 0 ts (begun k.CloseRound ts))

fits_some : (p : Place) (value : Option Expr) → FitNames p (record { name = some_name; value = value } ∷ [])
fits_some place.Statement value = tt
fits_some place.Loop value = (refl, tt)

module _ (P : ℕ → Type 0) (every : (n : ℕ) → P n) where
  assign_name : (d : ℕ) (c : Context) (ts : List Token) → IsAssign P d c (put (k.Name letter) ts) (expr.Name some_name) call ts
  assign_name d c ts =
      let hall : List Token = put (k.Name letter) ts in
      let e : Expr = expr.Name some_name in
      assign_conditional d c hall e call ts (every (suc d)) (lift P (rank_chain 0) rank_whole (suc d) c hall e call ts (omega arith) tt (omega arith)
      (chain_unary (suc d) c hall e call ts (unary_call (suc d) c hall e ts (call_all (suc d) c hall e ts [] ts (first_primary (suc d) c hall e ts (primary_name (suc d) c hall some_name ts (named ts))) (suffixes_none (suc d) c ts)))))

  nothing_below : (d : ℕ) (c : Context) (ts : List Token) → IsBelow P d c (put k.Semicolon ts) (stmt.Nothing 0) ts
  nothing_below d c ts = below_inner d c (put k.Semicolon ts) (stmt.Nothing 0) ts (every (suc d)) (inner_nothing (suc d) c (put k.Semicolon ts) 0 ts (begun k.Semicolon ts))

  empty_body : (d : ℕ) (c : Context) (ts : List Token) → IsBody P d c (put k.OpenBrace (put k.CloseBrace ts)) [] ts
  empty_body d c ts = body_braces d c (put k.OpenBrace (put k.CloseBrace ts)) 0 (put k.CloseBrace ts) [] (put k.CloseBrace ts) 0 ts (begun k.OpenBrace (put k.CloseBrace ts)) (stmts_none d c (put k.CloseBrace ts)) (begun k.CloseBrace ts)

  abbrev pub Enough : Sort → List Frame → Type 0
  Enough operands ks = (from : ℕ) (value first : Expr) (sfx : List (Suffix Expr)) → Leading (λ tree ts. LeftCall P tree ks from value first sfx ts)
  Enough expressions ks = (e : Expr) (t : Tail) → Leading (λ tree ts. Holds P tree ks e t ts)
  Enough statements ks = (s : Stmt) → Leading (λ tree ts. Overs P tree ks s ts)

  abbrev pub EnoughList : Braces → List Frame → Type 0
  EnoughList list.Script ks = Unit {0}
  EnoughList (list.Block site) ks = Enough statements ks
  EnoughList (list.Function site n names) ks = Enough statements ks
  EnoughList (list.Value site n names) ks = Enough operands ks
  EnoughList (list.Arrow from names) ks = Enough expressions ks
  EnoughList (list.Try site) ks = Enough statements ks
  EnoughList (list.Catch site body n) ks = Enough statements ks
  EnoughList (list.Finally site body caught) ks = Enough statements ks

  -- ---- expressions

  operands_of : (ks : List Frame) → Enough expressions ks → Enough operands ks
  operands_of ks o = λ from value first sfx. let h = o value call in (h.0, h.1, inl (up_unary P h.0 ks from value call h.1 h.2), h.3)

  -- a target ends in a property
  operands_step : (site : ℕ) (o : StepOp) (ks : List Frame) → Enough expressions ks → Enough operands (frame.Step site o ∷ ks)
  operands_step site o ks more = λ from value first sfx.
      let a : Access Expr = access.Property 0 letter in
      let y : Target Expr = target.Access (call_of first (sfx ++ [])) a in
      let h = more (expr.Step site site o true y) call in
      let hall : List Token = put k.Dot (put (k.Name letter) h.1) in
      (h.0, hall, inr (inr ([], hall, a, h.1, suffixes_none (suc (deep ks)) (context ks) hall, access_property (suc (deep ks)) (context ks) hall 0 (put (k.Name letter) h.1) letter 0 h.1 (begun k.Dot (put (k.Name letter) h.1)) (inl (begun (k.Name letter) h.1)), inr (inr (up_unary P h.0 ks site (expr.Step site site o true y) call h.1 h.2)))), spelt_on h.1 h.3)

  pending_some : (p : Pending) (ks : List Frame) → Enough expressions ks → Enough expressions (frame.Pending p ∷ ks)
  pending_some p ks more = λ e t. let h = more (join p e) t in (h.0, h.1, joins P h.0 p ks e t h.1 h.2, h.3)

  bracket_some : (b : Bracket) (ks : List Frame) → Enough (sort_in b) ks → Enough expressions (frame.Bracket b ∷ ks)
  bracket_some (bracket.Question from site test) ks more = λ e t.
      let h = more (expr.Conditional from site test e (expr.Name some_name)) call in
      (h.0, put k.Colon (put (k.Name letter) h.1), (0, put (k.Name letter) h.1, expr.Name some_name, call, h.1, begun k.Colon (put (k.Name letter) h.1), assign_name (deep ks) (context ks) h.1, h.2), spelt_on h.1 h.3)
  bracket_some (bracket.Round site) ks more = λ e t. let h = more site e e [] in (h.0, put k.CloseRound h.1, (0, h.1, begun k.CloseRound h.1, h.2), h.3)
  bracket_some (bracket.Array site items) ks more = λ e t. let h = more site (expr.Array site (items ++ e ∷ [])) (expr.Array site (items ++ e ∷ [])) [] in (h.0, put k.CloseSquare h.1, inl (0, h.1, begun k.CloseSquare h.1, h.2), h.3)
  bracket_some (bracket.Call from first sfx site items) ks more = λ e t.
      let h = more from (expr.Call first (sfx ++ suffix.Call site (items ++ e ∷ []) ∷ [])) first (sfx ++ suffix.Call site (items ++ e ∷ []) ∷ []) in (h.0, put k.CloseRound h.1, inl (0, h.1, begun k.CloseRound h.1, h.2), h.3)
  bracket_some (bracket.New site n items) ks more = λ e t. let h = more site (expr.New site n (items ++ e ∷ [])) (expr.New site n (items ++ e ∷ [])) [] in (h.0, put k.CloseRound h.1, inl (0, h.1, begun k.CloseRound h.1, h.2), h.3)
  bracket_some (bracket.Index from first sfx site) ks more = λ e t.
      let a : Access Expr = access.Index site false e in
      let h = more from (expr.Call first (sfx ++ suffix.Access a ∷ [])) first (sfx ++ suffix.Access a ∷ []) in (h.0, put k.CloseSquare h.1, (0, h.1, begun k.CloseSquare h.1, inl h.2), h.3)
  bracket_some (bracket.Member site members at' name) ks more = λ e t.
      let m : Expr = expr.Object site (members ++ member.Value at' name e ∷ []) in
      let h = more site m m [] in (h.0, put k.CloseBrace h.1, inl (0, h.1, begun k.CloseBrace h.1, h.2), h.3)

  -- ---- parts of statements

  update_some : (site : ℕ) (first : LoopHead Expr) (test : Option Expr) (ks : List Frame) → Enough statements ks → Leading (λ tree ts. UpdateIn P tree site first test ks (lead P tree ks) ts)
  update_some site first test ks more =
      let h = more (stmt.For site first test None (stmt.Nothing 0)) in
      let inside : List Token = put k.Semicolon h.1 in
      (h.0, put k.CloseRound inside, (None, put k.CloseRound inside, optional_none (deep ks) (context ks) (put k.CloseRound inside), (0, inside, begun k.CloseRound inside, (stmt.Nothing 0, h.1, nothing_below (deep ks) (looping (context ks)) h.1, h.2))), h.3)

  test_some : (site : ℕ) (first : LoopHead Expr) (ks : List Frame) → Enough statements ks → Leading (λ tree ts. TestIn P tree site first ks (lead P tree ks) ts)
  test_some site first ks more =
      let h = update_some site first None ks more in
      (h.0, put k.Semicolon h.1, (None, put k.Semicolon h.1, optional_none (deep ks) (context ks) (put k.Semicolon h.1), (0, h.1, begun k.Semicolon h.1, h.2)), h.3)

  declared_some : (p : Place) (site : ℕ) (o : DeclarationKind) (ds : List (Declarator Expr)) (ks : List Frame) (t : Tail) → Enough statements ks → Leading (λ tree ts. DeclaredIn P tree p site o ds ks (lead P tree ks) t ts)
  declared_some place.Statement site o ds ks t more = let h = more (stmt.Declare site o ds) in (h.0, put k.Semicolon h.1, (h.1, inl (0, begun k.Semicolon h.1), h.2), h.3)
  declared_some place.Loop site o ds ks t more = let h = test_some site (head.Declare o ds) ks more in (h.0, put k.Semicolon h.1, (0, h.1, begun k.Semicolon h.1, h.2), h.3)

  else_some : (arms : List Arm) (ks : List Frame) → Enough statements ks → Leading (λ tree ts. ElseIn P tree arms ks (lead P tree ks) ts)
  else_some arms ks more =
      let h = more (stmt.If arms (Some (stmt.Nothing 0))) in
      (h.0, put k.Semicolon h.1, inl (refl, (stmt.Nothing 0, h.1, nothing_below (above_last arms (deep ks)) (context ks) h.1, h.2)), h.3)

  then_some : (arms : List Arm) (ks : List Frame) → Enough statements ks → Leading (λ tree ts. AfterThen P tree arms ks (lead P tree ks) ts)
  then_some arms ks more =
      let h = else_some arms ks more in
      (h.0, put (k.Word word.Else (codes "else")) h.1, inr (0, h.1, (codes "else", begun (k.Word word.Else (codes "else")) h.1), h.2), h.3)

  loop_some : (f : Stmt → Stmt) (ks : List Frame) → Enough statements ks → Leading (λ tree ts. Closing k.CloseRound ts (λ rest. LoopIn P tree ks (lead P tree ks) f rest))
  loop_some f ks more =
      let h = more (f (stmt.Nothing 0)) in
      let inside : List Token = put k.Semicolon h.1 in
      (h.0, put k.CloseRound inside, (0, inside, begun k.CloseRound inside, (stmt.Nothing 0, h.1, nothing_below (deep ks) (looping (context ks)) h.1, h.2)), h.3)

  part_some : (p : Part) (ks : List Frame) → Enough statements ks → Enough expressions (frame.Part p ∷ ks)
  part_some (part.Express site) ks more = λ e t. let h = more (stmt.Express site e) in (h.0, put k.Semicolon h.1, (h.1, inl (0, begun k.Semicolon h.1), h.2), h.3)
  part_some (part.Declare d n) ks more = λ e t. let h = declared_some d.place d.site d.kind (with_declarator d n (Some e)) ks t more in (h.0, h.1, inl h.2, h.3)
  part_some (part.Return site) ks more = λ e t. let h = more (stmt.Return site (Some e)) in (h.0, put k.Semicolon h.1, (h.1, inl (0, begun k.Semicolon h.1), h.2), h.3)
  part_some (part.Throw site) ks more = λ e t. let h = more (stmt.Throw site e) in (h.0, put k.Semicolon h.1, (h.1, inl (0, begun k.Semicolon h.1), h.2), h.3)
  part_some (part.If arms site) ks more = λ e t.
      let h = then_some (arm arms site e (stmt.Nothing 0)) ks more in
      let inside : List Token = put k.Semicolon h.1 in
      (h.0, put k.CloseRound inside, (0, inside, begun k.CloseRound inside, (stmt.Nothing 0, h.1, nothing_below (above arms (deep ks)) (context ks) h.1, h.2)), h.3)
  part_some (part.While site) ks more = λ e t. loop_some (λ s. stmt.While site e s) ks more
  part_some (part.Do site body test_site) ks more = λ e t.
      let h = more (stmt.Do site body test_site e) in
      let inside : List Token = put k.Semicolon h.1 in
      (h.0, put k.CloseRound inside, (0, inside, begun k.CloseRound inside, (h.1, inl (0, begun k.Semicolon h.1), h.2)), h.3)
  part_some (part.ForFirst site) ks more = λ e t. let h = test_some site (head.Value e) ks more in (h.0, put k.Semicolon h.1, (0, h.1, begun k.Semicolon h.1, h.2), h.3)
  part_some (part.ForTest site first) ks more = λ e t. let h = update_some site first (Some e) ks more in (h.0, put k.Semicolon h.1, (0, h.1, begun k.Semicolon h.1, h.2), h.3)
  part_some (part.ForUpdate site first test) ks more = λ e t. loop_some (λ s. stmt.For site first test (Some e) s) ks more
  part_some (part.ForOf site o n) ks more = λ e t. loop_some (λ s. stmt.ForOf site o n e s) ks more

  -- ---- lists

  tried_some : (site : ℕ) (body : List Stmt) (ks : List Frame) → Enough statements ks → Leading (λ tree ts. TriedIn P tree site body ks (lead P tree ks) ts)
  tried_some site body ks more =
      let h = more (stmt.Try site body None (Some [])) in
      let inside : List Token = put k.OpenBrace (put k.CloseBrace h.1) in
      (h.0, put (k.Word word.Finally (codes "finally")) inside, inr ([], h.1, finally_body (deep ks) (context ks) (put (k.Word word.Finally (codes "finally")) inside) 0 inside [] h.1 (codes "finally", begun (k.Word word.Finally (codes "finally")) inside) (empty_body (deep ks) (context ks) h.1), h.2), h.3)

  caught_some : (site : ℕ) (body : List Stmt) (c : Catch (List Stmt)) (ks : List Frame) → Enough statements ks → Leading (λ tree ts. CaughtIn P tree site body c ks (lead P tree ks) ts)
  caught_some site body c ks more = let h = more (stmt.Try site body (Some c) None) in (h.0, h.1, (None, h.1, finally_none (deep ks) (context ks) h.1, h.2), h.3)

  closed_some : (b : Braces) (body : List Stmt) (ks : List Frame) → EnoughList b ks → Leading (λ tree ts. ClosedIn P tree b body ks (lead P tree ks) ts)
  closed_some list.Script body ks more = (body, [], (refl, refl), refl)
  closed_some (list.Block site) body ks more = let h = more (stmt.Block site body) in (h.0, put k.CloseBrace h.1, (0, h.1, begun k.CloseBrace h.1, h.2), h.3)
  closed_some (list.Function site n names) body ks more = let h = more (stmt.Function site n names body) in (h.0, put k.CloseBrace h.1, (0, h.1, begun k.CloseBrace h.1, h.2), h.3)
  closed_some (list.Value site n names) body ks more = let h = more site (expr.FunctionExpression site n names body) (expr.FunctionExpression site n names body) [] in (h.0, put k.CloseBrace h.1, (0, h.1, begun k.CloseBrace h.1, h.2), h.3)
  closed_some (list.Arrow from names) body ks more = let h = more (expr.ArrowBlock from names body) braces in (h.0, put k.CloseBrace h.1, (0, h.1, begun k.CloseBrace h.1, h.2), h.3)
  closed_some (list.Try site) body ks more = let h = tried_some site body ks more in (h.0, put k.CloseBrace h.1, (0, h.1, begun k.CloseBrace h.1, h.2), h.3)
  closed_some (list.Catch site body' n) body ks more = let h = caught_some site body' (record { name = n; body = body }) ks more in (h.0, put k.CloseBrace h.1, (0, h.1, begun k.CloseBrace h.1, h.2), h.3)
  closed_some (list.Finally site body' caught) body ks more = let h = more (stmt.Try site body' caught (Some body)) in (h.0, put k.CloseBrace h.1, (0, h.1, begun k.CloseBrace h.1, h.2), h.3)

  list_some : (b : Braces) (body : List Stmt) (ks : List Frame) → EnoughList b ks → Leading (λ tree ts. ListIn P tree b body ks (lead P tree ks) ts)
  list_some b body ks more = let h = closed_some b (body ++ []) ks more in (h.0, h.1, ([], h.1, stmts_none (deep ks) (within_braces b (context ks)) h.1, h.2), h.3)

  braces_some : (b : Braces) (ks : List Frame) → EnoughList b ks → Leading (λ tree ts. BracesIn P tree b ks (lead P tree ks) ts)
  braces_some b ks more = let h = list_some b [] ks more in (h.0, put k.OpenBrace h.1, (0, h.1, begun k.OpenBrace h.1, h.2), h.3)

  below_some : (b : Below) (ks : List Frame) → Enough statements ks → Enough statements (frame.Below b ∷ ks)
  below_some (below.Then arms site test) ks more = λ s. then_some (arm arms site test s) ks more
  below_some (below.Else arms) ks more = λ s. more (stmt.If arms (Some s))
  below_some (below.While site test) ks more = λ s. more (stmt.While site test s)
  below_some (below.Do site) ks more = λ s.
      let h = more (stmt.Do site s 0 (expr.Name some_name)) in
      let end : List Token = put k.Semicolon h.1 in
      let test : List Token = put k.OpenRound (put (k.Name letter) (put k.CloseRound end)) in (
        h.0,
        put (k.Word word.While (codes "while")) test,
        (
          0,
          test,
          expr.Name some_name,
          end,
          h.1,
          (codes "while", begun (k.Word word.While (codes "while")) test),
          round_assign (deep ks) (context ks) test 0 (put (k.Name letter) (put k.CloseRound end)) (expr.Name some_name) call (put k.CloseRound end) 0 end (begun k.OpenRound (put (k.Name letter) (put k.CloseRound end))) (assign_name (deep ks) (context ks) (put k.CloseRound end)) (begun k.CloseRound end),
          inl (0, begun k.Semicolon h.1),
          h.2,
        ),
        spelt_on h.1 h.3,
      )
  below_some (below.For site first test update) ks more = λ s. more (stmt.For site first test update s)
  below_some (below.ForOf site o n items) ks more = λ s. more (stmt.ForOf site o n items s)

  listed_some : (b : Braces) (body : List Stmt) (ks : List Frame) → EnoughList b ks → Enough statements (frame.List b body ∷ ks)
  listed_some b body ks more = λ s. list_some b (body ++ s ∷ []) ks more

  -- ---- every stack that fits

  pub enough : (s : Sort) (ks : List Frame) → Good s ks → Enough s ks
  enough operands (frame.Pending p ∷ ks) g = operands_of (frame.Pending p ∷ ks) (pending_some p ks (enough expressions ks g))
  enough operands (frame.Step site o ∷ ks) g = operands_step site o ks (enough expressions ks g)
  enough operands (frame.Bracket b ∷ ks) g = operands_of (frame.Bracket b ∷ ks) (bracket_some b ks (enough (sort_in b) ks g))
  enough operands (frame.Part p ∷ ks) g = operands_of (frame.Part p ∷ ks) (part_some p ks (enough statements ks g))
  enough expressions (frame.Pending p ∷ ks) g = pending_some p ks (enough expressions ks g)
  enough expressions (frame.Bracket b ∷ ks) g = bracket_some b ks (enough (sort_in b) ks g)
  enough expressions (frame.Part p ∷ ks) g = part_some p ks (enough statements ks g)
  enough statements (frame.Below b ∷ ks) g = below_some b ks (enough statements ks g)
  enough statements (frame.List list.Script body ∷ ks) g = listed_some list.Script body ks tt
  enough statements (frame.List (list.Block site) body ∷ ks) g = listed_some (list.Block site) body ks (enough statements ks g)
  enough statements (frame.List (list.Function site n names) body ∷ ks) g = listed_some (list.Function site n names) body ks (enough statements ks g)
  enough statements (frame.List (list.Value site n names) body ∷ ks) g = listed_some (list.Value site n names) body ks (enough operands ks g)
  enough statements (frame.List (list.Arrow from names) body ∷ ks) g = listed_some (list.Arrow from names) body ks (enough expressions ks g)
  enough statements (frame.List (list.Try site) body ∷ ks) g = listed_some (list.Try site) body ks (enough statements ks g)
  enough statements (frame.List (list.Catch site body' n) body ∷ ks) g = listed_some (list.Catch site body' n) body ks (enough statements ks g)
  enough statements (frame.List (list.Finally site body' caught) body ∷ ks) g = listed_some (list.Finally site body' caught) body ks (enough statements ks g)
  enough _ _ g = absurd g

  list_enough : (b : Braces) (body : List Stmt) (ks : List Frame) → Good statements (frame.List b body ∷ ks) → EnoughList b ks
  list_enough list.Script body ks g = tt
  list_enough (list.Block site) body ks g = enough statements ks g
  list_enough (list.Function site n names) body ks g = enough statements ks g
  list_enough (list.Value site n names) body ks g = enough operands ks g
  list_enough (list.Arrow from names) body ks g = enough expressions ks g
  list_enough (list.Try site) body ks g = enough statements ks g
  list_enough (list.Catch site body' n) body ks g = enough statements ks g
  list_enough (list.Finally site body' caught) body ks g = enough statements ks g

  -- ---- every mode

  statement_some : (ks : List Frame) → fits_statement ks → Leading (λ tree ts. LeftStatement P tree ks ts)
  statement_some (frame.List b body ∷ ks) g = list_some b body ks (list_enough b body ks g)
  statement_some _ g = absurd g

  below_due_some : (ks : List Frame) → fits_below ks → Leading (λ tree ts. LeftBelow P tree ks ts)
  below_due_some (frame.Below (below.Else arms) ∷ ks) g = else_some arms ks (enough statements ks g)
  below_due_some (frame.Below (below.Then arms site test) ∷ ks) g =
      let h = below_some (below.Then arms site test) ks (enough statements ks g) (stmt.Nothing 0) in
      (h.0, put k.Semicolon h.1, (stmt.Nothing 0, h.1, nothing_below (above arms (deep ks)) (context ks) h.1, h.2), h.3)
  below_due_some (frame.Below b ∷ ks) g =
      let h = below_some b ks (enough statements ks g) (stmt.Nothing 0) in
      (h.0, put k.Semicolon h.1, (stmt.Nothing 0, h.1, nothing_below (deep ks) (looping (context ks)) h.1, h.2), h.3)
  below_due_some _ g = absurd g

  want_some : (ks : List Frame) → Good operands ks → Leading (λ tree ts. LeftWant P tree ks ts)
  want_some ks g =
      let h = enough operands ks g 0 (expr.Name some_name) (expr.Name some_name) [] in
      (h.0, put (k.Name letter) h.1, primary_wanted P h.0 ks 0 (expr.Name some_name) (put (k.Name letter) h.1) h.1 (every (deep ks)) (starts_fine P h.0 ks (k.Name letter) 0 false h.1 refl refl) refl (primary_name (deep ks) (context ks) (put (k.Name letter) h.1) some_name h.1 (named h.1)) h.2, spelt_on h.1 h.3)

  literal_some : (from : ℕ) (e : Expr) (ks : List Frame) → Good operands ks → Leading (λ tree ts. LeftOperand P tree from (operand.Literal e) ks ts)
  literal_some from e ks g =
      let a : Access Expr = access.Property 0 letter in
      let h = enough operands ks g from (expr.Call e (suffix.Access a ∷ [])) e (suffix.Access a ∷ []) in
      let hall : List Token = put k.Dot (put (k.Name letter) h.1) in (
        h.0,
        hall,
        inl (inl (
          not_static P h.0 ks k.Dot 0 false (put (k.Name letter) h.1) refl,
          access_more P h.0 ks from e e [] a hall h.1 (access_property (deep ks) (context ks) hall 0 (put (k.Name letter) h.1) letter 0 h.1 (begun k.Dot (put (k.Name letter) h.1)) (inl (begun (k.Name letter) h.1))) (inl h.2),
        )),
        spelt_on h.1 h.3,
      )

  operand_some : (from : ℕ) (x : Operand) (ks : List Frame) → Good (sort_operand x) ks → Leading (λ tree ts. LeftOperand P tree from x ks ts)
  operand_some from (operand.Literal e) ks g = literal_some from e ks g
  operand_some from (operand.Stepped e) ks g = let h = enough expressions ks g e behind in (h.0, h.1, inl (up_unary P h.0 ks from e behind h.1 h.2), h.3)
  operand_some from (operand.Braced e) ks g = let h = enough expressions ks g e braces in (h.0, h.1, inl h.2, h.3)
  operand_some from x ks g = let h = enough operands ks g from (value_of x) (first_of x) (suffixes_of x) in (h.0, h.1, inl h.2, h.3)

  ending_some : (e : Ending) (ks : List Frame) → Enough statements ks → Leading (λ tree ts. LeftEnding P tree e ks ts)
  ending_some (ending.Over s) ks more = more s
  ending_some (ending.Do s) ks more = let h = more s in (h.0, put k.Semicolon h.1, (h.1, inl (0, begun k.Semicolon h.1), h.2), h.3)
  ending_some (ending.Jump s) ks more = let h = more s in (h.0, put k.Semicolon h.1, (h.1, inl (0, begun k.Semicolon h.1), h.2), h.3)
  ending_some (ending.Return site) ks more = let h = more (stmt.Return site None) in (h.0, put k.Semicolon h.1, inl (h.1, inl (0, begun k.Semicolon h.1), h.2), h.3)
  ending_some (ending.Throw site) ks more =
      let h = more (stmt.Throw site (expr.Name some_name)) in
      let end : List Token = put k.Semicolon h.1 in
      (h.0, put (k.Name letter) end, (refl, (expr.Name some_name, call, end, h.1, assign_name (deep ks) (context ks) end, inl (0, begun k.Semicolon h.1), h.2)), spelt_on h.1 h.3)

  catch_some : (site : ℕ) (body : List Stmt) (n : Identifier) (ks : List Frame) → Enough statements ks → Leading (λ tree ts. LeftTrying P tree (trying.CatchName site body n) ks ts)
  catch_some site body n ks more = let h = braces_some (list.Catch site body (Some n)) ks more in (h.0, put k.CloseRound h.1, (0, h.1, begun k.CloseRound h.1, h.2), h.3)

  trying_some : (t : Trying) (ks : List Frame) → Enough statements ks → Leading (λ tree ts. LeftTrying P tree t ks ts)
  trying_some (trying.Tried site body) ks more = tried_some site body ks more
  trying_some (trying.CatchHead site body) ks more = let h = braces_some (list.Catch site body None) ks more in (h.0, h.1, inl h.2, h.3)
  trying_some (trying.CatchOpen site body) ks more = let h = catch_some site body some_name ks more in (h.0, put (k.Name letter) h.1, (some_name, h.1, named h.1, h.2), spelt_on h.1 h.3)
  trying_some (trying.CatchName site body n) ks more = catch_some site body n ks more
  trying_some (trying.Caught site body c) ks more = caught_some site body c ks more

  head_some : (site : ℕ) (ks : List Frame) → Enough statements ks → Leading (λ tree ts. ForHead P tree site ks ts)
  head_some site ks more =
      let h = test_some site head.Nothing ks more in
      (h.0, put k.Semicolon h.1, inl (head.Nothing, put k.Semicolon h.1, head_none (deep ks) (context ks) (put k.Semicolon h.1), (0, h.1, begun k.Semicolon h.1, h.2)), h.3)

  opening_some : (o : Opening) (ks : List Frame) → fits_opening o ks → Leading (λ tree ts. LeftOpening P tree o ks ts)
  opening_some opening.Test ks g = let h = want_some ks g in (h.0, put k.OpenRound h.1, (0, h.1, begun k.OpenRound h.1, h.2), h.3)
  opening_some (opening.For site) ks g = let h = head_some site ks (enough statements ks g) in (h.0, put k.OpenRound h.1, (0, h.1, begun k.OpenRound h.1, h.2), h.3)
  opening_some (opening.ForHead site) ks g = head_some site ks (enough statements ks g)
  opening_some (opening.Declare d) ks g =
      let x : Declarator Expr = record { name = some_name; value = Some (expr.Name some_name) } in
      let h = declared_some d.place d.site d.kind (d.declarators ++ x ∷ []) ks call (enough statements ks g) in
      let from : List Token = put (k.Name letter) h.1 in
      let equals : List Token = put (k.Assign None) from in
      (h.0, put (k.Name letter) equals, inl (x ∷ [], call, h.1, declarators_last d.kind (deep ks) (context ks) (put (k.Name letter) equals) x call h.1 (declarator_value d.kind (deep ks) (context ks) (put (k.Name letter) equals) some_name equals 0 from (expr.Name some_name) call h.1 (named equals) (begun (k.Assign None) from) (assign_name (deep ks) (context ks) h.1)), fits_some d.place (Some (expr.Name some_name)), h.2), spelt_on from (spelt_on h.1 h.3))
  opening_some (opening.Named d n) ks g =
      let h = declared_some d.place d.site d.kind (with_declarator d n (Some (expr.Name some_name))) ks call (enough statements ks g) in
      let from : List Token = put (k.Name letter) h.1 in
      (h.0, put (k.Assign None) from, inr (inl (0, from, begun (k.Assign None) from, (expr.Name some_name, call, h.1, assign_name (deep ks) (context ks) h.1, inl h.2))), spelt_on h.1 h.3)
  opening_some (opening.Function site) ks g =
      let h = braces_some (list.Function site some_name []) ks (enough statements ks g) in
      let opens : List Token = put k.OpenRound (put k.CloseRound h.1) in
      (h.0, put (k.Name letter) opens, (some_name, opens, [], h.1, named opens, no_parameters h.1, h.2), spelt_on h.1 h.3)

  arrow_some : (from : ℕ) (names : List Identifier) (ks : List Frame) → Enough expressions ks → Leading (λ tree ts. ArrowIn P tree from names ks ts)
  arrow_some from names ks more = let h = braces_some (list.Arrow from names) ks more in (h.0, put k.Arrow h.1, (0, h.1, refl, inr h.2), h.3)

  headed_some : (h : Header) (names : List Identifier) (ks : List Frame) → Good (sort_header h) ks → Leading (λ tree ts. Headed P tree h names ks ts)
  headed_some (header.Function site n) names ks g = braces_some (list.Function site n names) ks (enough statements ks g)
  headed_some (header.Value site n) names ks g = braces_some (list.Value site n names) ks (enough operands ks g)
  headed_some (header.Arrow from) names ks g = arrow_some from names ks (enough expressions ks g)

  heading_some : (h : Heading) (ks : List Frame) → fits_heading h ks → Leading (λ tree ts. LeftHeading P tree h ks ts)
  heading_some (heading.Open h) ks g = let x = headed_some h [] ks g in (x.0, put k.OpenRound (put k.CloseRound x.1), ([], x.1, no_parameters x.1, x.2), x.3)
  heading_some (heading.Parameters h names) ks g = let x = headed_some h (names ++ []) ks g in (x.0, put k.CloseRound x.1, ([], x.1, names_none (put k.CloseRound x.1) 0 x.1 (begun k.CloseRound x.1), x.2), x.3)
  heading_some (heading.Parameter h names) ks g = let x = headed_some h (names ++ []) ks g in (x.0, put k.CloseRound x.1, ([], x.1, inl (0, begun k.CloseRound x.1, refl), x.2), x.3)
  heading_some (heading.Arrow from names) ks g = arrow_some from names ks (enough expressions ks g)
  heading_some (heading.Braces b) ks g = braces_some b ks (list_enough b [] ks g)

  value_some : (site : ℕ) (members : List (Member Expr)) (key_site : ℕ) (name : Key) (ks : List Frame) → Enough operands ks → Leading (λ tree ts. LeftPiece P tree (piece.OtherKey site members key_site name) ks ts)
  value_some site members key_site name ks more =
      let m : Expr = expr.Object site (members ++ member.Value key_site name (expr.Name some_name) ∷ []) in
      let h = more site m m [] in
      let end : List Token = put k.CloseBrace h.1 in
      (h.0, put k.Colon (put (k.Name letter) end), (0, put (k.Name letter) end, begun k.Colon (put (k.Name letter) end), (expr.Name some_name, call, end, assign_name (deep ks) (context ks) end, inl (0, h.1, begun k.CloseBrace h.1, h.2))), spelt_on h.1 h.3)

  new_some : (site : ℕ) (n : Identifier) (ks : List Frame) → Enough operands ks → Leading (λ tree ts. LeftPiece P tree (piece.NewName site n) ks ts)
  new_some site n ks more =
      let h = more site (expr.New site n []) (expr.New site n []) [] in
      let inside : List Token = put k.CloseRound h.1 in
      (h.0, put k.OpenRound inside, (0, inside, begun k.OpenRound inside, ([], h.1, arguments_none k.CloseRound (deep ks) (context ks) inside 0 h.1 (begun k.CloseRound h.1), h.2)), h.3)

  piece_some : (p : Piece) (ks : List Frame) → Good operands ks → Leading (λ tree ts. LeftPiece P tree p ks ts)
  piece_some (piece.Key site members) ks g =
      let h = enough operands ks g site (expr.Object site (members ++ [])) (expr.Object site (members ++ [])) [] in
      (h.0, put k.CloseBrace h.1, ([], h.1, members_none (deep ks) (context ks) (put k.CloseBrace h.1) 0 h.1 (begun k.CloseBrace h.1), h.2), h.3)
  piece_some (piece.NameKey site members n) ks g = let h = value_some site members n.site (key.Text n.name) ks (enough operands ks g) in (h.0, h.1, inl h.2, h.3)
  piece_some (piece.OtherKey site members at' name) ks g = value_some site members at' name ks (enough operands ks g)
  piece_some (piece.New site) ks g = let h = new_some site some_name ks (enough operands ks g) in (h.0, put (k.Name letter) h.1, (some_name, h.1, named h.1, h.2), spelt_on h.1 h.3)
  piece_some (piece.NewName site n) ks g = new_some site n ks (enough operands ks g)
  piece_some (piece.Property from first sfx site) ks g =
      let a : Access Expr = access.Property site letter in
      let h = enough operands ks g from (expr.Call first (sfx ++ suffix.Access a ∷ [])) first (sfx ++ suffix.Access a ∷ []) in
      (h.0, put (k.Name letter) h.1, (letter, 0, h.1, inl (begun (k.Name letter) h.1), inl h.2), spelt_on h.1 h.3)
  piece_some (piece.Function site) ks g =
      let h = braces_some (list.Value site None []) ks (enough operands ks g) in
      let opens : List Token = put k.OpenRound (put k.CloseRound h.1) in
      (h.0, opens, (None, opens, [], h.1, name_none opens, no_parameters h.1, h.2), h.3)

  mode_some : (m : Mode) (ks : List Frame) → fits_in m ks → Leading (λ tree ts. left_in P tree m ks ts)
  mode_some mode.Statement ks g = statement_some ks g
  mode_some mode.Below ks g = below_due_some ks g
  mode_some mode.Want ks g = want_some ks g
  mode_some (mode.Operand from x) ks g = operand_some from x ks g
  mode_some (mode.Ending e) ks g = ending_some e ks (enough statements ks g)
  mode_some (mode.Trying t) ks g = trying_some t ks (enough statements ks g)
  mode_some (mode.Opening o) ks g = opening_some o ks g
  mode_some (mode.Heading h) ks g = heading_some h ks g
  mode_some (mode.Piece p) ks g = piece_some p ks g

  -- some tokens lead on
  pub viable : (p : Parser) → Fits p → Leading (λ tree ts. Left P tree p ts)
  viable p g = mode_some p.mode p.frames g
