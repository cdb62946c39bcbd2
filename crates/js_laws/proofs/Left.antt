-- The tokens that lead from a state to the end of a script, in the families of the grammar.
use Rattle.std.proofs.Common.{◌≡◌, ℕ, zero, suc, Bool, true, false, cond, List, [], ◌∷◌, ◌++◌, Option, Some, None, nat_lt}
use Rattle.std.specs.Prelude.{◌⊎◌}
use Rattle.js_ast.specs.declared.expression.Expr.{Expr}
use Rattle.js_ast.specs.declared.expression.Expr.TheVariants as expr
use Rattle.js_ast.specs.declared.statement.Stmt.{Stmt}
use Rattle.js_ast.specs.declared.statement.Stmt.TheVariants as stmt
use Rattle.js_ast.specs.declared.statement.Arm.{Arm}
use Rattle.js_ast.specs.declared.operators.BinaryOp.{BinaryOp}
use Rattle.js_ast.specs.declared.operators.LogicalOp.{LogicalOp}
use Rattle.js_ast.specs.declared.operators.LogicalOp.TheVariants as logic
use Rattle.js_ast.specs.declared.operators.StepOp.{StepOp}
use Rattle.js_ast.specs.declared.operators.DeclarationKind.{DeclarationKind}
use Rattle.js_ast.specs.declared.parts.Identifier.{Identifier}
use Rattle.js_ast.specs.declared.parts.Access.{Access}
use Rattle.js_ast.specs.declared.parts.Access.TheVariants as access
use Rattle.js_ast.specs.declared.parts.Suffix.{Suffix}
use Rattle.js_ast.specs.declared.parts.Suffix.TheVariants as suffix
use Rattle.js_ast.specs.declared.parts.Target.{Target}
use Rattle.js_ast.specs.declared.parts.Target.TheVariants as target
use Rattle.js_ast.specs.declared.parts.Key.TheVariants as key
use Rattle.js_ast.specs.declared.parts.Member.{Member}
use Rattle.js_ast.specs.declared.parts.Member.TheVariants as member
use Rattle.js_ast.specs.declared.parts.Declarator.{Declarator}
use Rattle.js_ast.specs.declared.parts.Link.{Link}
use Rattle.js_ast.specs.declared.parts.LoopHead.{LoopHead}
use Rattle.js_ast.specs.declared.parts.LoopHead.TheVariants as head
use Rattle.js_ast.specs.declared.parts.Catch.{Catch}
use Rattle.js_grammar.specs.declared.token.Token.{Token}
use Rattle.js_grammar.specs.declared.token.TokenKind.{TokenKind}
use Rattle.js_grammar.specs.declared.token.TokenKind.TheVariants as k
use Rattle.js_grammar.specs.declared.token.Word.TheVariants as word
use Rattle.js_grammar.specs.Phrases.{Begins, Beside, IsWord, IsIdentifier, IsIdentifierName, start_of, on_same_line, starts, is_open_brace, is_if, is_else, level, loosest, is_of, Tail, no_expression, call, step as behind, braces, IsEnd, IsDoEnd, Context, looping, in_arrow}
use Rattle.js_grammar.specs.Grammar.{call_of, IsNames, IsParameters, IsOptionalName, IsDeclares, IsStaticKey, opens_static}
use Rattle.js_grammar.specs.Grammar.{IsAssign, IsConditional, IsShort, IsOrs, IsAnd, IsBits, IsChain, IsLinks, IsUnary, IsAccess, IsSuffixes, IsTarget, IsArguments, IsMembers}
use Rattle.js_grammar.specs.Grammar.{IsStmts, IsStmt, IsDeclarators, IsRound, IsBelow, IsInner, IsIf, IsHead, IsOptional, IsCatch, IsFinally, IsOptionalFinally}
use Rattle.js_reading.specs.declared.frame.Frame.{Frame}
use Rattle.js_reading.specs.declared.frame.Frame.TheVariants as frame
use Rattle.js_reading.specs.declared.frame.Pending.{Pending}
use Rattle.js_reading.specs.declared.frame.Pending.TheVariants as pending
use Rattle.js_reading.specs.declared.frame.Bracket.{Bracket}
use Rattle.js_reading.specs.declared.frame.Bracket.TheVariants as bracket
use Rattle.js_reading.specs.declared.frame.Part.{Part}
use Rattle.js_reading.specs.declared.frame.Part.TheVariants as part
use Rattle.js_reading.specs.declared.frame.Below.{Below}
use Rattle.js_reading.specs.declared.frame.Below.TheVariants as below
use Rattle.js_reading.specs.declared.frame.Braces.{Braces}
use Rattle.js_reading.specs.declared.frame.Braces.TheVariants as list
use Rattle.js_reading.specs.declared.frame.Place.{Place}
use Rattle.js_reading.specs.declared.frame.Place.TheVariants as place
use Rattle.js_reading.specs.declared.mode.Mode.{Mode}
use Rattle.js_reading.specs.declared.mode.Mode.TheVariants as mode
use Rattle.js_reading.specs.declared.mode.Operand.{Operand}
use Rattle.js_reading.specs.declared.mode.Operand.TheVariants as operand
use Rattle.js_reading.specs.declared.mode.Header.{Header}
use Rattle.js_reading.specs.declared.mode.Header.TheVariants as header
use Rattle.js_reading.specs.declared.mode.Heading.{Heading}
use Rattle.js_reading.specs.declared.mode.Heading.TheVariants as heading
use Rattle.js_reading.specs.declared.mode.Ending.{Ending}
use Rattle.js_reading.specs.declared.mode.Ending.TheVariants as ending
use Rattle.js_reading.specs.declared.mode.Trying.{Trying}
use Rattle.js_reading.specs.declared.mode.Trying.TheVariants as trying
use Rattle.js_reading.specs.declared.mode.Opening.{Opening}
use Rattle.js_reading.specs.declared.mode.Opening.TheVariants as opening
use Rattle.js_reading.specs.declared.mode.Piece.{Piece}
use Rattle.js_reading.specs.declared.mode.Piece.TheVariants as piece
use Rattle.js_reading.specs.declared.mode.Parser.{Parser}
use Rattle.js_reading.specs.Frames.{context, takes_assign, within_braces, within_below}
use Rattle.js_reading.specs.Operands.{value_of, target_of, parameter_of, first_of, suffixes_of}
use Rattle.js_reading.specs.Statements.{arm, with_declarator, is_statement, is_let, is_empty}
use Rattle.js_reading.specs.Reading.{nesting}

-- ---- how far an expression has got

pub data Rank : Type 0 where
  rank_chain : ℕ → Rank
  rank_and : Rank
  rank_short : Rank
  rank_whole : Rank

abbrev pub order : Rank → ℕ
order (rank_chain l) = l
order rank_and = 9
order rank_short = 10
order rank_whole = 11

abbrev pub lower : Rank → Rank → Rank
lower l m = cond (nat_lt (order l) (order m)) l m

abbrev pub one_less : ℕ → ℕ
one_less zero = zero
one_less (suc n) = n

-- the level of the parts of a chain
abbrev pub under : BinaryOp → ℕ
under o = one_less (level o)

abbrev pub awaits_logical : LogicalOp → Rank
awaits_logical logic.Or = rank_and
awaits_logical _ = rank_chain loosest

abbrev pub rank_logical : LogicalOp → Rank
rank_logical logic.And = rank_and
rank_logical _ = rank_short

abbrev pub awaits_pending : Pending → Rank
awaits_pending (pending.Prefix site o) = rank_chain 0
awaits_pending (pending.Binary from first links site o) = rank_chain (under o)
awaits_pending (pending.Logical from first links site o) = awaits_logical o
awaits_pending _ = rank_whole

-- what is awaited behind the frames
abbrev pub awaits : List Frame → Rank
awaits (frame.Pending p ∷ ks) = awaits_pending p
awaits _ = rank_whole

-- ---- depth, by successors

abbrev pub above : List Arm → ℕ → ℕ
above [] n = n
above (a ∷ arms) n = suc (above arms n)

abbrev pub above_last : List Arm → ℕ → ℕ
above_last [] n = n
above_last (a ∷ arms) n = above arms n

abbrev pub before_part : Part → ℕ → ℕ
before_part (part.If arms site) n = above arms n
before_part _ n = n

abbrev pub before_below : Below → ℕ → ℕ
before_below (below.Then arms site test) n = above arms n
before_below (below.Else arms) n = above_last arms n
before_below _ n = n

abbrev pub deep_pending : Pending → ℕ → ℕ
deep_pending (pending.Prefix site o) n = suc n
deep_pending (pending.Binary from first links site o) n = n
deep_pending (pending.Logical from first links site o) n = n
deep_pending _ n = suc n

abbrev pub deepen : Frame → ℕ → ℕ
deepen (frame.Pending p) n = deep_pending p n
deepen (frame.Step site o) n = suc n
deepen (frame.Bracket b) n = suc n
deepen (frame.Part p) n = suc (before_part p n)
deepen (frame.Below b) n = suc (before_below b n)
deepen (frame.List b body) n = suc n

abbrev pub deep : List Frame → ℕ
deep [] = 0
deep (f ∷ ks) = deepen f (deep ks)

-- ---- small parts

abbrev pub tok : TokenKind → ℕ → Bool → Token
tok kind site line = record { kind = kind; start = site; line_before = line }

abbrev pub is_close_square : TokenKind → Bool
is_close_square k.CloseSquare = true
is_close_square _ = false

abbrev pub IsFitting : List (Declarator Expr) → Type 0
IsFitting [] = Unit {0}
IsFitting (x ∷ xs) = (is_of x.name.name ≡ false) × IsFitting xs

-- the names declared in the head of a `for`
abbrev pub Fits : Place → List (Declarator Expr) → Type 0
Fits place.Statement xs = Unit {0}
Fits place.Loop xs = IsFitting xs

abbrev pub FitsName : Place → List ℕ → Type 0
FitsName place.Statement name = Unit {0}
FitsName place.Loop name = is_of name ≡ false

module _ (P : ℕ → Type 0) where
  abbrev pub IsAt : Rank → ℕ → Context → List Token → Expr → Tail → List Token → Type 0
  IsAt (rank_chain l) d c ts e t rest = IsChain P l d c ts e t rest
  IsAt rank_and d c ts e t rest = IsAnd P d c ts e t rest
  IsAt rank_short d c ts e t rest = IsShort P d c ts e t rest
  IsAt rank_whole d c ts e t rest = IsConditional P d c ts e t rest

  -- the expression goes on to the rank awaited, and what is left passes
  abbrev pub Up : ℕ → Context → ℕ → Rank → Rank → Expr → Tail → List Token → (Expr → Tail → List Token → Type 0) → Type 0
  Up d c from l m e t ts K = (z : Expr) × (u : Tail) × (rest : List Token) × ((whole : List Token) → start_of whole ≡ from → IsAt l d c whole e t ts → IsAt m d c whole z u rest) × K z u rest

  -- what follows the first part of a chain of `&&`, `||` or `??`
  abbrev pub IsGoingOn : LogicalOp → ℕ → Context → Tail → List Token → List (Link LogicalOp Expr) → Tail → List Token → Type 0
  IsGoingOn logic.Or d c t ts ls u rest = IsOrs P d c t ts ls u rest
  IsGoingOn logic.And d c t ts ls u rest = IsBits P logic.And d c t ts ls u rest
  IsGoingOn logic.Coalesce d c t ts ls u rest = IsBits P logic.Coalesce d c t ts ls u rest

  abbrev pub NamesNest : List Identifier → ℕ → Type 0
  NamesNest [] d = Unit {0}
  NamesNest (n ∷ ns) d = P (suc d)

-- what leads on behind an expression, a target and a statement
pub record Leads : Type 1 where
  pub holds : Expr → Tail → List Token → Type 0
  pub targets : ℕ → Target Expr → List Token → Type 0
  pub overs : Stmt → List Token → Type 0

abbrev pub nowhere : Leads
nowhere = record { holds = λ e t ts. ⊥; targets = λ from x ts. ⊥; overs = λ s ts. ⊥ }

abbrev pub Closing : TokenKind → List Token → (List Token → Type 0) → Type 0
Closing kind ts K = (at' : ℕ) × (rest : List Token) × Begins ts kind at' rest × K rest

module _ (P : ℕ → Type 0) (tree : List Stmt) where
  abbrev pub UpIn : List Frame → Leads → ℕ → Rank → Expr → Tail → List Token → Type 0
  UpIn ks w from l e t ts = Up P (deep ks) (context ks) from l (awaits ks) e t ts w.holds

  abbrev pub CallIn : List Frame → Leads → ℕ → Expr → Expr → List (Suffix Expr) → List Token → Type 0
  CallIn ks w from value first sfx ts =
      UpIn ks w from (rank_chain 0) value call ts
      ⊎ (((s : Suffix Expr) × (ss : List (Suffix Expr)) × (mid : List Token) × IsSuffixes P (deep ks) (context ks) ts (s ∷ ss) mid × UpIn ks w from (rank_chain 0) (expr.Call first (sfx ++ s ∷ ss)) call mid)
      ⊎ ((ss : List (Suffix Expr)) × (at' : List Token) × (a : Access Expr) × (mid : List Token) × IsSuffixes P (deep ks) (context ks) ts ss at' × IsAccess P (deep ks) (context ks) at' a mid × w.targets from (target.Access (call_of first (sfx ++ ss)) a) mid))

  abbrev pub PrimaryIn : List Frame → Leads → ℕ → Expr → List Token → Type 0
  PrimaryIn ks w from e ts = CallIn ks w from e e [] ts

  abbrev pub AccessIn : List Frame → Leads → ℕ → Expr → List (Suffix Expr) → Access Expr → List Token → Type 0
  AccessIn ks w from first sfx a ts =
      CallIn ks w from (expr.Call first (sfx ++ suffix.Access a ∷ [])) first (sfx ++ suffix.Access a ∷ []) ts
      ⊎ w.targets from (target.Access (call_of first sfx) a) ts

  -- behind an argument, and behind a member
  abbrev pub AfterArgument : TokenKind → ℕ → Context → List Expr → Expr → (List Expr → List Token → Type 0) → List Token → Type 0
  AfterArgument close d c items e K ts =
      Closing close ts (λ rest. K (items ++ e ∷ []) rest)
      ⊎ ((at' : ℕ) × (from : List Token) × (es : List Expr) × (rest : List Token) × Begins ts k.Comma at' from × IsArguments P close d c from es rest × K ((items ++ e ∷ []) ++ es) rest)

  abbrev pub AfterMember : ℕ → Context → List (Member Expr) → Member Expr → (List (Member Expr) → List Token → Type 0) → List Token → Type 0
  AfterMember d c members m K ts =
      Closing k.CloseBrace ts (λ rest. K (members ++ m ∷ []) rest)
      ⊎ ((at' : ℕ) × (from : List Token) × (ms : List (Member Expr)) × (rest : List Token) × Begins ts k.Comma at' from × IsMembers P d c from ms rest × K ((members ++ m ∷ []) ++ ms) rest)

  -- ---- statements

  abbrev pub BelowIn : ℕ → Context → Leads → (Stmt → Stmt) → List Token → Type 0
  BelowIn d c w f ts = (s : Stmt) × (mid : List Token) × IsBelow P d c ts s mid × w.overs (f s) mid

  abbrev pub ElseIn : List Arm → List Frame → Leads → List Token → Type 0
  ElseIn arms ks w ts =
      ((starts is_if ts ≡ false) × BelowIn (above_last arms (deep ks)) (context ks) w (λ b. stmt.If arms (Some b)) ts)
      ⊎ (P (above arms (deep ks)) × ((more : List Arm) × (last : Option Stmt) × (mid : List Token) × IsIf P (above arms (deep ks)) (context ks) ts more last mid × w.overs (stmt.If (arms ++ more) last) mid))

  abbrev pub AfterThen : List Arm → List Frame → Leads → List Token → Type 0
  AfterThen arms ks w ts =
      ((starts is_else ts ≡ false) × w.overs (stmt.If arms None) ts)
      ⊎ ((at' : ℕ) × (other : List Token) × IsWord ts word.Else at' other × ElseIn arms ks w other)

  abbrev pub IfTail : List Arm → ℕ → Expr → List Frame → Leads → List Token → Type 0
  IfTail arms site e ks w ts = (s : Stmt) × (mid : List Token) × IsBelow P (above arms (deep ks)) (context ks) ts s mid × AfterThen (arm arms site e s) ks w mid

  abbrev pub DoIn : ℕ → Stmt → List Frame → Leads → List Token → Type 0
  DoIn site s ks w ts = (test_site : ℕ) × (test : List Token) × (e : Expr) × (end : List Token) × (rest : List Token) × IsWord ts word.While test_site test × IsRound P (deep ks) (context ks) test e end × IsDoEnd end rest × w.overs (stmt.Do site s test_site e) rest

  abbrev pub LoopIn : List Frame → Leads → (Stmt → Stmt) → List Token → Type 0
  LoopIn ks w f ts = BelowIn (deep ks) (looping (context ks)) w f ts

  abbrev pub UpdateIn : ℕ → LoopHead Expr → Option Expr → List Frame → Leads → List Token → Type 0
  UpdateIn site h test ks w ts = (u : Option Expr) × (mid : List Token) × IsOptional P (deep ks) (context ks) ts u mid × Closing k.CloseRound mid (λ rest. LoopIn ks w (λ s. stmt.For site h test u s) rest)

  abbrev pub TestIn : ℕ → LoopHead Expr → List Frame → Leads → List Token → Type 0
  TestIn site h ks w ts = (e : Option Expr) × (mid : List Token) × IsOptional P (deep ks) (context ks) ts e mid × Closing k.Semicolon mid (λ rest. UpdateIn site h e ks w rest)

  -- declarations
  abbrev pub DeclaredIn : Place → ℕ → DeclarationKind → List (Declarator Expr) → List Frame → Leads → Tail → List Token → Type 0
  DeclaredIn place.Statement site o ds ks w t ts = (rest : List Token) × IsEnd t ts rest × w.overs (stmt.Declare site o ds) rest
  DeclaredIn place.Loop site o ds ks w t ts = Closing k.Semicolon ts (λ rest. TestIn site (head.Declare o ds) ks w rest)

  abbrev pub DeclareIn : Place → ℕ → DeclarationKind → List (Declarator Expr) → List Frame → Leads → List Token → Type 0
  DeclareIn p site o ds ks w ts = (xs : List (Declarator Expr)) × (t : Tail) × (mid : List Token) × IsDeclarators P o (deep ks) (context ks) ts xs t mid × Fits p xs × DeclaredIn p site o (ds ++ xs) ks w t mid

  abbrev pub DeclaratorIn : Place → ℕ → DeclarationKind → List (Declarator Expr) → List Frame → Leads → Tail → List Token → Type 0
  DeclaratorIn p site o ds ks w t ts =
      DeclaredIn p site o ds ks w t ts
      ⊎ Closing k.Comma ts (λ rest. DeclareIn p site o ds ks w rest)

  abbrev pub OfIn : ℕ → DeclarationKind → Identifier → List Frame → Leads → List Token → Type 0
  OfIn site o n ks w ts = (of' : List ℕ) × (at' : ℕ) × (items : List Token) × (e : Expr) × (t : Tail) × (close : List Token) × Begins ts (k.Name of') at' items × (is_of of' ≡ true) × IsAssign P (deep ks) (context ks) items e t close × Closing k.CloseRound close (λ rest. LoopIn ks w (λ s. stmt.ForOf site o n e s) rest)

  -- a `try` behind its first body, and behind its `catch`
  abbrev pub TriedIn : ℕ → List Stmt → List Frame → Leads → List Token → Type 0
  TriedIn site body ks w ts =
      ((h : Catch (List Stmt)) × (mid : List Token) × (last : Option (List Stmt)) × (rest : List Token) × IsCatch P (deep ks) (context ks) ts h mid × IsOptionalFinally P (deep ks) (context ks) mid last rest × w.overs (stmt.Try site body (Some h) last) rest)
      ⊎ ((last : List Stmt) × (rest : List Token) × IsFinally P (deep ks) (context ks) ts last rest × w.overs (stmt.Try site body None (Some last)) rest)

  abbrev pub CaughtIn : ℕ → List Stmt → Catch (List Stmt) → List Frame → Leads → List Token → Type 0
  CaughtIn site body h ks w ts = (last : Option (List Stmt)) × (rest : List Token) × IsOptionalFinally P (deep ks) (context ks) ts last rest × w.overs (stmt.Try site body (Some h) last) rest

  -- behind the brace that closes a list
  abbrev pub BracedIn : Braces → List Stmt → List Frame → Leads → List Token → Type 0
  BracedIn list.Script body ks w ts = ⊥
  BracedIn (list.Block site) body ks w ts = w.overs (stmt.Block site body) ts
  BracedIn (list.Function site n names) body ks w ts = w.overs (stmt.Function site n names body) ts
  BracedIn (list.Value site n names) body ks w ts = PrimaryIn ks w site (expr.FunctionExpression site n names body) ts
  BracedIn (list.Arrow from names) body ks w ts = w.holds (expr.ArrowBlock from names body) braces ts
  BracedIn (list.Try site) body ks w ts = TriedIn site body ks w ts
  BracedIn (list.Catch site body' n) body ks w ts = CaughtIn site body' (record { name = n; body = body }) ks w ts
  BracedIn (list.Finally site body' caught) body ks w ts = w.overs (stmt.Try site body' caught (Some body)) ts

  abbrev pub ClosedIn : Braces → List Stmt → List Frame → Leads → List Token → Type 0
  ClosedIn list.Script body ks w ts = (ts ≡ []) × (body ≡ tree)
  ClosedIn b body ks w ts = Closing k.CloseBrace ts (λ rest. BracedIn b body ks w rest)

  abbrev pub ListIn : Braces → List Stmt → List Frame → Leads → List Token → Type 0
  ListIn b body ks w ts = (more : List Stmt) × (mid : List Token) × IsStmts P (deep ks) (within_braces b (context ks)) ts more mid × ClosedIn b (body ++ more) ks w mid

  abbrev pub BracesIn : Braces → List Frame → Leads → List Token → Type 0
  BracesIn b ks w ts = Closing k.OpenBrace ts (λ rest. ListIn b [] ks w rest)

  -- ---- what each frame awaits

  abbrev pub holds_pending : Pending → List Frame → Leads → Expr → Tail → List Token → Type 0
  holds_pending (pending.Prefix site o) ks w e t ts = UpIn ks w site (rank_chain 0) (expr.Unary site o e) t ts
  holds_pending (pending.Binary from first links site o) ks w e t ts =
      (ls : List (Link BinaryOp Expr)) × (u : Tail) × (mid : List Token) × IsLinks P (under o) (deep ks) (context ks) t ts ls u mid × UpIn ks w from (lower (rank_chain (suc (under o))) (awaits ks)) (expr.Binary first (links ++ record { site = site; op = o; right = e } ∷ ls)) u mid
  holds_pending (pending.Logical from first links site o) ks w e t ts =
      (ls : List (Link LogicalOp Expr)) × (u : Tail) × (mid : List Token) × IsGoingOn P o (deep ks) (context ks) t ts ls u mid × UpIn ks w from (lower (rank_logical o) (awaits ks)) (expr.Logical first (links ++ record { site = site; op = o; right = e } ∷ ls)) u mid
  holds_pending (pending.Conditional from site test a) ks w e t ts = w.holds (expr.Conditional from site test a e) t ts
  holds_pending (pending.Assign from site o x) ks w e t ts = w.holds (expr.Assign from site o x e) t ts
  holds_pending (pending.Arrow from names) ks w e t ts = w.holds (expr.Arrow from names e) t ts

  abbrev pub holds_bracket : Bracket → List Frame → Leads → Expr → Tail → List Token → Type 0
  holds_bracket (bracket.Question from site test) ks w e t ts =
      (at' : ℕ) × (next : List Token) × (b : Expr) × (u : Tail) × (rest : List Token) × Begins ts k.Colon at' next × IsAssign P (deep ks) (context ks) next b u rest × w.holds (expr.Conditional from site test e b) u rest
  holds_bracket (bracket.Round site) ks w e t ts = Closing k.CloseRound ts (λ rest. PrimaryIn ks w site e rest)
  holds_bracket (bracket.Array site items) ks w e t ts = AfterArgument k.CloseSquare (deep ks) (context ks) items e (λ es rest. PrimaryIn ks w site (expr.Array site es) rest) ts
  holds_bracket (bracket.Call from first sfx site items) ks w e t ts = AfterArgument k.CloseRound (deep ks) (context ks) items e (λ es rest. CallIn ks w from (expr.Call first (sfx ++ suffix.Call site es ∷ [])) first (sfx ++ suffix.Call site es ∷ []) rest) ts
  holds_bracket (bracket.New site n items) ks w e t ts = AfterArgument k.CloseRound (deep ks) (context ks) items e (λ es rest. PrimaryIn ks w site (expr.New site n es) rest) ts
  holds_bracket (bracket.Index from first sfx site) ks w e t ts = Closing k.CloseSquare ts (λ rest. AccessIn ks w from first sfx (access.Index site false e) rest)
  holds_bracket (bracket.Member site members at' name) ks w e t ts = AfterMember (deep ks) (context ks) members (member.Value at' name e) (λ ms rest. PrimaryIn ks w site (expr.Object site ms) rest) ts

  abbrev pub holds_part : Part → List Frame → Leads → Expr → Tail → List Token → Type 0
  holds_part (part.Express site) ks w e t ts = (rest : List Token) × IsEnd t ts rest × w.overs (stmt.Express site e) rest
  holds_part (part.Declare d n) ks w e t ts = DeclaratorIn d.place d.site d.kind (with_declarator d n (Some e)) ks w t ts
  holds_part (part.Return site) ks w e t ts = (rest : List Token) × IsEnd t ts rest × w.overs (stmt.Return site (Some e)) rest
  holds_part (part.Throw site) ks w e t ts = (rest : List Token) × IsEnd t ts rest × w.overs (stmt.Throw site e) rest
  holds_part (part.If arms site) ks w e t ts = Closing k.CloseRound ts (λ rest. IfTail arms site e ks w rest)
  holds_part (part.While site) ks w e t ts = Closing k.CloseRound ts (λ rest. LoopIn ks w (λ s. stmt.While site e s) rest)
  holds_part (part.Do site body test_site) ks w e t ts = Closing k.CloseRound ts (λ end. (rest : List Token) × IsDoEnd end rest × w.overs (stmt.Do site body test_site e) rest)
  holds_part (part.ForFirst site) ks w e t ts = Closing k.Semicolon ts (λ rest. TestIn site (head.Value e) ks w rest)
  holds_part (part.ForTest site h) ks w e t ts = Closing k.Semicolon ts (λ rest. UpdateIn site h (Some e) ks w rest)
  holds_part (part.ForUpdate site h test) ks w e t ts = Closing k.CloseRound ts (λ rest. LoopIn ks w (λ s. stmt.For site h test (Some e) s) rest)
  holds_part (part.ForOf site o n) ks w e t ts = Closing k.CloseRound ts (λ rest. LoopIn ks w (λ s. stmt.ForOf site o n e s) rest)

  abbrev pub holds_by : Frame → List Frame → Leads → Expr → Tail → List Token → Type 0
  holds_by (frame.Pending p) ks w e t ts = holds_pending p ks w e t ts
  holds_by (frame.Bracket b) ks w e t ts = holds_bracket b ks w e t ts
  holds_by (frame.Part p) ks w e t ts = holds_part p ks w e t ts
  holds_by (frame.Step site o) ks w e t ts = ⊥
  holds_by (frame.Below b) ks w e t ts = ⊥
  holds_by (frame.List b body) ks w e t ts = ⊥

  -- a target that the frame takes, or that goes on between parentheses
  abbrev pub out_bracket : Bracket → Leads → Target Expr → List Token → Type 0
  out_bracket (bracket.Round site) w x ts = Closing k.CloseRound ts (λ rest. w.targets site x rest)
  out_bracket _ w x ts = ⊥

  abbrev pub out_by : Frame → List Frame → Leads → Target Expr → List Token → Type 0
  out_by (frame.Step site o) ks w x ts = UpIn ks w site (rank_chain 0) (expr.Step site site o true x) call ts
  out_by (frame.Bracket b) ks w x ts = out_bracket b w x ts
  out_by (frame.Pending p) ks w x ts = ⊥
  out_by (frame.Part p) ks w x ts = ⊥
  out_by (frame.Below b) ks w x ts = ⊥
  out_by (frame.List b body) ks w x ts = ⊥

  abbrev pub SetsIn : List Frame → (Expr → Tail → List Token → Type 0) → ℕ → Target Expr → List Token → Type 0
  SetsIn ks holds from x ts = (takes_assign ks ≡ true) × ((o : Option BinaryOp) × (site : ℕ) × (next : List Token) × (e : Expr) × (t : Tail) × (rest : List Token) × Begins ts (k.Assign o) site next × IsAssign P (deep ks) (context ks) next e t rest × holds (expr.Assign from site o x e) t rest)

  abbrev pub BehindIn : List Frame → (Expr → Tail → List Token → Type 0) → ℕ → Target Expr → List Token → Type 0
  BehindIn ks holds from x ts = (o : StepOp) × (site : ℕ) × (rest : List Token) × Beside ts (k.Step o) site rest × Up P (deep ks) (context ks) from (rank_chain 0) (awaits ks) (expr.Step from site o false x) behind rest holds

  abbrev pub targets_by : Frame → List Frame → Leads → ℕ → Target Expr → List Token → Type 0
  targets_by f ks w from x ts = SetsIn (f ∷ ks) (λ e t rest. holds_by f ks w e t rest) from x ts ⊎ (BehindIn (f ∷ ks) (λ e t rest. holds_by f ks w e t rest) from x ts ⊎ out_by f ks w x ts)

  abbrev pub over_below : Below → List Frame → Leads → Stmt → List Token → Type 0
  over_below (below.Then arms site test) ks w s ts = AfterThen (arm arms site test s) ks w ts
  over_below (below.Else arms) ks w s ts = w.overs (stmt.If arms (Some s)) ts
  over_below (below.While site test) ks w s ts = w.overs (stmt.While site test s) ts
  over_below (below.Do site) ks w s ts = DoIn site s ks w ts
  over_below (below.For site h test update) ks w s ts = w.overs (stmt.For site h test update s) ts
  over_below (below.ForOf site o n items) ks w s ts = w.overs (stmt.ForOf site o n items s) ts

  abbrev pub over_by : Frame → List Frame → Leads → Stmt → List Token → Type 0
  over_by (frame.List b body) ks w s ts = ListIn b (body ++ s ∷ []) ks w ts
  over_by (frame.Below b) ks w s ts = over_below b ks w s ts
  over_by (frame.Pending p) ks w s ts = ⊥
  over_by (frame.Step site o) ks w s ts = ⊥
  over_by (frame.Bracket b) ks w s ts = ⊥
  over_by (frame.Part p) ks w s ts = ⊥

  abbrev pub leads : Frame → List Frame → Leads → Leads
  leads f ks w = record { holds = λ e t ts. holds_by f ks w e t ts; targets = λ from x ts. targets_by f ks w from x ts; overs = λ s ts. over_by f ks w s ts }

  abbrev pub lead : List Frame → Leads
  lead [] = nowhere
  lead (f ∷ ks) = leads f ks (lead ks)

  abbrev pub Holds : List Frame → Expr → Tail → List Token → Type 0
  Holds ks e t ts = (lead ks).holds e t ts

  abbrev pub Targets : List Frame → ℕ → Target Expr → List Token → Type 0
  Targets ks from x ts = (lead ks).targets from x ts

  abbrev pub Overs : List Frame → Stmt → List Token → Type 0
  Overs ks s ts = (lead ks).overs s ts

  abbrev pub UpAt : List Frame → ℕ → Rank → Expr → Tail → List Token → Type 0
  UpAt ks from l e t ts = UpIn ks (lead ks) from l e t ts

  -- ---- where an expression is due

  -- what an expression there may not begin with
  abbrev pub starts_pending : Pending → List Token → Type 0
  starts_pending (pending.Arrow from names) ts = starts is_open_brace ts ≡ false
  starts_pending _ ts = Unit {0}

  abbrev pub starts_bracket : Bracket → List Token → Type 0
  starts_bracket (bracket.Index from first sfx site) ts = opens_static ts ≡ false
  starts_bracket _ ts = Unit {0}

  abbrev pub Starts : List Frame → List Token → Type 0
  Starts (frame.Pending p ∷ ks) ts = starts_pending p ts
  Starts (frame.Bracket b ∷ ks) ts = starts_bracket b ts
  Starts _ ts = Unit {0}

  abbrev pub wanted_pending : Pending → List Frame → List Token → Expr → Tail → List Token → Type 0
  wanted_pending (pending.Prefix site o) ks ts e t rest = IsUnary P (suc (deep ks)) (context ks) ts e t rest
  wanted_pending (pending.Binary from first links site o) ks ts e t rest = IsChain P (under o) (deep ks) (context ks) ts e t rest
  wanted_pending (pending.Logical from first links site o) ks ts e t rest = IsAt P (awaits_logical o) (deep ks) (context ks) ts e t rest
  wanted_pending (pending.Conditional from site test a) ks ts e t rest = IsAssign P (deep ks) (context ks) ts e t rest
  wanted_pending (pending.Assign from site o x) ks ts e t rest = IsAssign P (deep ks) (context ks) ts e t rest
  wanted_pending (pending.Arrow from names) ks ts e t rest = IsAssign P (deep ks) (in_arrow (context ks)) ts e t rest

  abbrev pub IsWanted : List Frame → List Token → Expr → Tail → List Token → Type 0
  IsWanted (frame.Pending p ∷ ks) ts e t rest = wanted_pending p ks ts e t rest
  IsWanted (frame.Bracket b ∷ ks) ts e t rest = IsAssign P (deep ks) (context ks) ts e t rest
  IsWanted (frame.Part p ∷ ks) ts e t rest = IsAssign P (before_part p (deep ks)) (context ks) ts e t rest
  IsWanted _ ts e t rest = ⊥

  abbrev pub Wanted : List Frame → List Token → Type 0
  Wanted ks ts = Starts ks ts × ((e : Expr) × (t : Tail) × (rest : List Token) × IsWanted ks ts e t rest × Holds ks e t rest)

  -- parameters were read: `=>` follows
  abbrev pub ArrowIn : ℕ → List Identifier → List Frame → List Token → Type 0
  ArrowIn from names ks ts = (site : ℕ) × (next : List Token) × Beside ts k.Arrow site next ×
      (((starts is_open_brace next ≡ false) × ((e : Expr) × (t : Tail) × (rest : List Token) × IsAssign P (deep ks) (in_arrow (context ks)) next e t rest × Holds ks (expr.Arrow from names e) t rest))
      ⊎ BracesIn (list.Arrow from names) ks (lead ks) next)

  abbrev pub extra_bracket : Bracket → List Frame → List Token → Type 0
  extra_bracket (bracket.Round site) ks ts =
      ((x : Target Expr) × (mid : List Token) × IsTarget P (suc (deep ks)) (context ks) ts x mid × Closing k.CloseRound mid (λ rest. P (suc (deep ks)) × Targets ks site x rest))
      ⊎ ((takes_assign ks ≡ true) × ((names : List Identifier) × (mid : List Token) × IsNames ts names mid × NamesNest P names (deep ks) × ArrowIn site names ks mid))
  extra_bracket (bracket.Array site items) ks ts = Closing k.CloseSquare ts (λ rest. PrimaryIn ks (lead ks) site (expr.Array site items) rest)
  extra_bracket (bracket.Call from first sfx site items) ks ts = Closing k.CloseRound ts (λ rest. CallIn ks (lead ks) from (expr.Call first (sfx ++ suffix.Call site items ∷ [])) first (sfx ++ suffix.Call site items ∷ []) rest)
  extra_bracket (bracket.New site n items) ks ts = Closing k.CloseRound ts (λ rest. PrimaryIn ks (lead ks) site (expr.New site n items) rest)
  extra_bracket (bracket.Index from first sfx site) ks ts = (e : Expr) × (rest : List Token) × P (suc (deep ks)) × IsStaticKey ts e rest × AccessIn ks (lead ks) from first sfx (access.Index site true e) rest
  extra_bracket (bracket.Question from site test) ks ts = ⊥
  extra_bracket (bracket.Member site members at' name) ks ts = ⊥

  abbrev pub extra_part : Part → List Frame → List Token → Type 0
  extra_part (part.ForTest site h) ks ts = Closing k.Semicolon ts (λ rest. UpdateIn site h None ks (lead ks) rest)
  extra_part (part.ForUpdate site h test) ks ts = Closing k.CloseRound ts (λ rest. LoopIn ks (lead ks) (λ s. stmt.For site h test None s) rest)
  extra_part _ ks ts = ⊥

  abbrev pub extra_pending : Pending → List Frame → List Token → Type 0
  extra_pending (pending.Arrow from names) ks ts = BracesIn (list.Arrow from names) ks (lead ks) ts
  extra_pending _ ks ts = ⊥

  -- what may stand there and is no expression of its own
  abbrev pub Extra : List Frame → List Token → Type 0
  Extra (frame.Pending p ∷ ks) ts = extra_pending p ks ts
  Extra (frame.Bracket b ∷ ks) ts = extra_bracket b ks ts
  Extra (frame.Part p ∷ ks) ts = extra_part p ks ts
  Extra (frame.Step site o ∷ ks) ts = (x : Target Expr) × (mid : List Token) × IsTarget P (suc (deep ks)) (context ks) ts x mid × UpAt ks site (rank_chain 0) (expr.Step site site o true x) call mid
  Extra _ ts = ⊥

  abbrev pub LeftWant : List Frame → List Token → Type 0
  LeftWant ks ts = Wanted ks ts ⊎ Extra ks ts

  -- ---- behind an operand

  abbrev pub NotStatic : List Frame → List Token → Type 0
  NotStatic (frame.Bracket (bracket.Index from first sfx site) ∷ ks) ts = starts is_close_square ts ≡ false
  NotStatic _ ts = Unit {0}

  abbrev pub Static : List Frame → Expr → List Token → Type 0
  Static (frame.Bracket (bracket.Index from first sfx site) ∷ ks) e ts = Closing k.CloseSquare ts (λ rest. AccessIn ks (lead ks) from first sfx (access.Index site true e) rest)
  Static _ e ts = ⊥

  abbrev pub LeftCall : List Frame → ℕ → Expr → Expr → List (Suffix Expr) → List Token → Type 0
  LeftCall ks from value first sfx ts = CallIn ks (lead ks) from value first sfx ts

  abbrev pub LeftValue : ℕ → Operand → List Frame → List Token → Type 0
  LeftValue from (operand.Literal e) ks ts = (NotStatic ks ts × LeftCall ks from e e [] ts) ⊎ Static ks e ts
  LeftValue from (operand.Stepped e) ks ts = UpAt ks from (rank_chain 0) e behind ts
  LeftValue from (operand.Braced e) ks ts = Holds ks e braces ts
  LeftValue from x ks ts = LeftCall ks from (value_of x) (first_of x) (suffixes_of x) ts

  abbrev pub LeftTarget : ℕ → Operand → List Frame → List Token → Type 0
  LeftTarget from x ks ts = (y : Target Expr) × (target_of x ≡ Some y) × Targets ks from y ts

  -- behind a name of a list of names
  abbrev pub AfterName : List Token → List Identifier → List Token → Type 0
  AfterName ts more rest = ((at' : ℕ) × Begins ts k.CloseRound at' rest × (more ≡ [])) ⊎ ((at' : ℕ) × (mid : List Token) × Begins ts k.Comma at' mid × IsNames mid more rest)

  -- the first of an arrow's names
  abbrev pub InnerNames : Identifier → List Frame → List Token → Type 0
  InnerNames n (frame.Bracket (bracket.Round site) ∷ ks) ts = (takes_assign ks ≡ true) × ((more : List Identifier) × (mid : List Token) × AfterName ts more mid × ArrowIn site (n ∷ more) ks mid)
  InnerNames n _ ts = ⊥

  abbrev pub Inner : Operand → List Frame → List Token → Type 0
  Inner (operand.Name n) ks ts = InnerNames n ks ts
  Inner _ ks ts = ⊥

  abbrev pub LeftArrow : ℕ → Operand → List Frame → List Token → Type 0
  LeftArrow from x ks ts = ((n : Identifier) × (parameter_of x ≡ Some n) × (takes_assign ks ≡ true) × ArrowIn from (n ∷ []) ks ts) ⊎ Inner x ks ts

  abbrev pub LeftOperand : ℕ → Operand → List Frame → List Token → Type 0
  LeftOperand from x ks ts = LeftValue from x ks ts ⊎ (LeftTarget from x ks ts ⊎ LeftArrow from x ks ts)

  -- ---- pieces

  abbrev pub LeftPiece : Piece → List Frame → List Token → Type 0
  LeftPiece (piece.Key site members) ks ts = (ms : List (Member Expr)) × (mid : List Token) × IsMembers P (deep ks) (context ks) ts ms mid × PrimaryIn ks (lead ks) site (expr.Object site (members ++ ms)) mid
  LeftPiece (piece.NameKey site members n) ks ts =
      Closing k.Colon ts (λ from. (e : Expr) × (t : Tail) × (rest : List Token) × IsAssign P (deep ks) (context ks) from e t rest × AfterMember (deep ks) (context ks) members (member.Value n.site (key.Text n.name) e) (λ ms rest. PrimaryIn ks (lead ks) site (expr.Object site ms) rest) rest)
      ⊎ AfterMember (deep ks) (context ks) members (member.Shorthand n) (λ ms rest. PrimaryIn ks (lead ks) site (expr.Object site ms) rest) ts
  LeftPiece (piece.OtherKey site members at' name) ks ts =
      Closing k.Colon ts (λ from. (e : Expr) × (t : Tail) × (rest : List Token) × IsAssign P (deep ks) (context ks) from e t rest × AfterMember (deep ks) (context ks) members (member.Value at' name e) (λ ms rest. PrimaryIn ks (lead ks) site (expr.Object site ms) rest) rest)
  LeftPiece (piece.New site) ks ts = (n : Identifier) × (opens : List Token) × IsIdentifier ts n opens × Closing k.OpenRound opens (λ inside. (es : List Expr) × (rest : List Token) × IsArguments P k.CloseRound (deep ks) (context ks) inside es rest × PrimaryIn ks (lead ks) site (expr.New site n es) rest)
  LeftPiece (piece.NewName site n) ks ts = Closing k.OpenRound ts (λ inside. (es : List Expr) × (rest : List Token) × IsArguments P k.CloseRound (deep ks) (context ks) inside es rest × PrimaryIn ks (lead ks) site (expr.New site n es) rest)
  LeftPiece (piece.Property from first sfx site) ks ts = (name : List ℕ) × (at' : ℕ) × (rest : List Token) × IsIdentifierName ts name at' rest × AccessIn ks (lead ks) from first sfx (access.Property site name) rest
  LeftPiece (piece.Function site) ks ts = (name : Option Identifier) × (at' : List Token) × (names : List Identifier) × (opens : List Token) × IsOptionalName ts name at' × IsParameters at' names opens × BracesIn (list.Value site name names) ks (lead ks) opens

  -- ---- parameters

  abbrev pub Headed : Header → List Identifier → List Frame → List Token → Type 0
  Headed (header.Function site n) names ks ts = BracesIn (list.Function site n names) ks (lead ks) ts
  Headed (header.Value site n) names ks ts = BracesIn (list.Value site n names) ks (lead ks) ts
  Headed (header.Arrow from) names ks ts = ArrowIn from names ks ts

  abbrev pub LeftHeading : Heading → List Frame → List Token → Type 0
  LeftHeading (heading.Open h) ks ts = (names : List Identifier) × (mid : List Token) × IsParameters ts names mid × Headed h names ks mid
  LeftHeading (heading.Parameters h names) ks ts = (more : List Identifier) × (mid : List Token) × IsNames ts more mid × Headed h (names ++ more) ks mid
  LeftHeading (heading.Parameter h names) ks ts = (more : List Identifier) × (mid : List Token) × AfterName ts more mid × Headed h (names ++ more) ks mid
  LeftHeading (heading.Arrow from names) ks ts = ArrowIn from names ks ts
  LeftHeading (heading.Braces b) ks ts = BracesIn b ks (lead ks) ts

  -- ---- statements that begin, and those that end

  abbrev pub OfDue : ℕ → DeclarationKind → List Frame → List Token → Type 0
  OfDue site o ks ts = (n : Identifier) × (mark : List Token) × IsIdentifier ts n mark × (is_of n.name ≡ false) × OfIn site o n ks (lead ks) mark

  abbrev pub ForHead : ℕ → List Frame → List Token → Type 0
  ForHead site ks ts =
      ((h : LoopHead Expr) × (mid : List Token) × IsHead P (deep ks) (context ks) ts h mid × Closing k.Semicolon mid (λ rest. TestIn site h ks (lead ks) rest))
      ⊎ ((o : DeclarationKind) × (at' : ℕ) × (name : List Token) × IsDeclares ts o at' name × OfDue site o ks name)

  abbrev pub LeftOpening : Opening → List Frame → List Token → Type 0
  LeftOpening opening.Test ks ts = Closing k.OpenRound ts (λ rest. LeftWant ks rest)
  LeftOpening (opening.For site) ks ts = Closing k.OpenRound ts (λ rest. ForHead site ks rest)
  LeftOpening (opening.ForHead site) ks ts = ForHead site ks ts
  LeftOpening (opening.Declare d) ks ts =
      DeclareIn d.place d.site d.kind d.declarators ks (lead ks) ts
      ⊎ ((is_statement d.place ≡ false) × (is_empty d.declarators ≡ true) × OfDue d.site d.kind ks ts)
  LeftOpening (opening.Named d n) ks ts =
      ((is_let d.kind ≡ true) × DeclaratorIn d.place d.site d.kind (with_declarator d n None) ks (lead ks) no_expression ts)
      ⊎ (Closing (k.Assign None) ts (λ from. (e : Expr) × (t : Tail) × (rest : List Token) × IsAssign P (deep ks) (context ks) from e t rest × DeclaratorIn d.place d.site d.kind (with_declarator d n (Some e)) ks (lead ks) t rest)
      ⊎ ((is_statement d.place ≡ false) × (is_empty d.declarators ≡ true) × OfIn d.site d.kind n ks (lead ks) ts))
  LeftOpening (opening.Function site) ks ts = (n : Identifier) × (at' : List Token) × (names : List Identifier) × (opens : List Token) × IsIdentifier ts n at' × IsParameters at' names opens × BracesIn (list.Function site n names) ks (lead ks) opens

  abbrev pub LeftEnding : Ending → List Frame → List Token → Type 0
  LeftEnding (ending.Over s) ks ts = Overs ks s ts
  LeftEnding (ending.Do s) ks ts = (rest : List Token) × IsDoEnd ts rest × Overs ks s rest
  LeftEnding (ending.Jump s) ks ts = (rest : List Token) × IsEnd no_expression ts rest × Overs ks s rest
  LeftEnding (ending.Return site) ks ts =
      ((rest : List Token) × IsEnd no_expression ts rest × Overs ks (stmt.Return site None) rest)
      ⊎ ((on_same_line ts ≡ true) × ((e : Expr) × (t : Tail) × (end : List Token) × (rest : List Token) × IsAssign P (deep ks) (context ks) ts e t end × IsEnd t end rest × Overs ks (stmt.Return site (Some e)) rest))
  LeftEnding (ending.Throw site) ks ts = (on_same_line ts ≡ true) × ((e : Expr) × (t : Tail) × (end : List Token) × (rest : List Token) × IsAssign P (deep ks) (context ks) ts e t end × IsEnd t end rest × Overs ks (stmt.Throw site e) rest)

  -- `catch` was read
  abbrev pub CatchIn : ℕ → List Stmt → Option Identifier → List Frame → List Token → Type 0
  CatchIn site body n ks ts = BracesIn (list.Catch site body n) ks (lead ks) ts

  abbrev pub LeftTrying : Trying → List Frame → List Token → Type 0
  LeftTrying (trying.Tried site body) ks ts = TriedIn site body ks (lead ks) ts
  LeftTrying (trying.CatchHead site body) ks ts =
      CatchIn site body None ks ts
      ⊎ Closing k.OpenRound ts (λ inside. (n : Identifier) × (close : List Token) × IsIdentifier inside n close × Closing k.CloseRound close (λ rest. CatchIn site body (Some n) ks rest))
  LeftTrying (trying.CatchOpen site body) ks ts = (n : Identifier) × (close : List Token) × IsIdentifier ts n close × Closing k.CloseRound close (λ rest. CatchIn site body (Some n) ks rest)
  LeftTrying (trying.CatchName site body n) ks ts = Closing k.CloseRound ts (λ rest. CatchIn site body (Some n) ks rest)
  LeftTrying (trying.Caught site body h) ks ts = CaughtIn site body h ks (lead ks) ts

  -- a statement that is no declaration, one that may be, and what is behind them
  abbrev pub InnerIn : List Frame → List Token → Type 0
  InnerIn ks ts = P (deep ks) × ((s : Stmt) × (mid : List Token) × IsInner P (deep ks) (context ks) ts s mid × Overs ks s mid)

  abbrev pub ItemIn : List Frame → List Token → Type 0
  ItemIn ks ts = P (deep ks) × ((s : Stmt) × (mid : List Token) × IsStmt P (deep ks) (context ks) ts s mid × Overs ks s mid)

  abbrev pub LeftStatement : List Frame → List Token → Type 0
  LeftStatement (frame.List b body ∷ ks) ts = ListIn b body ks (lead ks) ts
  LeftStatement ks ts = ItemIn ks ts

  abbrev pub LeftBelow : List Frame → List Token → Type 0
  LeftBelow (frame.Below (below.Else arms) ∷ ks) ts = ElseIn arms ks (lead ks) ts
  LeftBelow (frame.Below b ∷ ks) ts = (s : Stmt) × (mid : List Token) × IsBelow P (before_below b (deep ks)) (within_below b (context ks)) ts s mid × over_below b ks (lead ks) s mid
  LeftBelow ks ts = InnerIn ks ts

  abbrev pub left_in : Mode → List Frame → List Token → Type 0
  left_in mode.Statement ks ts = LeftStatement ks ts
  left_in mode.Below ks ts = LeftBelow ks ts
  left_in mode.Want ks ts = LeftWant ks ts
  left_in (mode.Operand from x) ks ts = LeftOperand from x ks ts
  left_in (mode.Ending e) ks ts = LeftEnding e ks ts
  left_in (mode.Trying t) ks ts = LeftTrying t ks ts
  left_in (mode.Opening o) ks ts = LeftOpening o ks ts
  left_in (mode.Heading h) ks ts = LeftHeading h ks ts
  left_in (mode.Piece p) ks ts = LeftPiece p ks ts

  -- these tokens lead from the state to the script
  abbrev pub Left : Parser → List Token → Type 0
  Left p ts = left_in p.mode p.frames ts

  -- the state is reached, its nesting passes, and these tokens lead on
  abbrev pub Next : Option Parser → List Token → Type 0
  Next None ts = ⊥
  Next (Some q) ts = P (nesting q) × Left q ts
