-- The grammar of scripts (ECMA-262, sections 13 to 16), row by row. A phrase says that tokens begin with the spelling
-- of a tree, and what is left behind it. P is what is asked of the nesting of each token: the number of statements,
-- assignments and applied prefix operators that have begun and haven't ended.
use Rattle.std.specs.Prelude.{◌≡◌, ℕ, suc, ◌<◌, Bool, true, false, not, List, [], ◌∷◌, ◌++◌, length, take, All, ◌≤◌, Option, Some, None}
use Rattle.js_ast.specs.declared.expression.Expr.{Expr}
use Rattle.js_ast.specs.declared.expression.Expr.TheVariants as expr
use Rattle.js_ast.specs.declared.statement.Stmt.{Stmt}
use Rattle.js_ast.specs.declared.statement.Stmt.TheVariants as stmt
use Rattle.js_ast.specs.declared.statement.Arm.{Arm}
use Rattle.js_ast.specs.declared.operators.BinaryOp.{BinaryOp}
use Rattle.js_ast.specs.declared.operators.LogicalOp.{LogicalOp}
use Rattle.js_ast.specs.declared.operators.LogicalOp.TheVariants as logic
use Rattle.js_ast.specs.declared.operators.StepOp.{StepOp}
use Rattle.js_ast.specs.declared.operators.UnaryOp.{UnaryOp}
use Rattle.js_ast.specs.declared.operators.DeclarationKind.{DeclarationKind}
use Rattle.js_ast.specs.declared.operators.DeclarationKind.TheVariants as kind
use Rattle.js_ast.specs.declared.parts.Identifier.{Identifier}
use Rattle.js_ast.specs.declared.parts.Access.{Access}
use Rattle.js_ast.specs.declared.parts.Access.TheVariants as access
use Rattle.js_ast.specs.declared.parts.Suffix.{Suffix}
use Rattle.js_ast.specs.declared.parts.Suffix.TheVariants as suffix
use Rattle.js_ast.specs.declared.parts.Target.{Target}
use Rattle.js_ast.specs.declared.parts.Target.TheVariants as target
use Rattle.js_ast.specs.declared.parts.Key.{Key}
use Rattle.js_ast.specs.declared.parts.Key.TheVariants as key
use Rattle.js_ast.specs.declared.parts.Member.{Member}
use Rattle.js_ast.specs.declared.parts.Member.TheVariants as member
use Rattle.js_ast.specs.declared.parts.Declarator.{Declarator}
use Rattle.js_ast.specs.declared.parts.Link.{Link}
use Rattle.js_ast.specs.declared.parts.LoopHead.{LoopHead}
use Rattle.js_ast.specs.declared.parts.LoopHead.TheVariants as head
use Rattle.js_ast.specs.declared.parts.Catch.{Catch}
use Rattle.js_grammar.specs.declared.token.Token.{Token}
use Rattle.js_grammar.specs.declared.token.TokenKind.{TokenKind}
use Rattle.js_grammar.specs.declared.token.TokenKind.TheVariants as k
use Rattle.js_grammar.specs.declared.token.Word.TheVariants as word
use Rattle.js_grammar.specs.Phrases.{Begins, Beside, IsWord, IsIdentifier, IsIdentifierName, start_of, on_same_line, starts, is_open_brace, is_function, is_if, is_else, level, loosest, prefix, is_of, is_proto, Tail, no_expression, call, step, braces, IsEnd, IsDoEnd, Context, outermost, looping, in_body, in_arrow}

-- ---- trees of chains

abbrev pub binary_of : Expr → List (Link BinaryOp Expr) → Expr
binary_of first [] = first
binary_of first (l ∷ ls) = expr.Binary first (l ∷ ls)

abbrev pub logical_of : Expr → List (Link LogicalOp Expr) → Expr
logical_of first [] = first
logical_of first (l ∷ ls) = expr.Logical first (l ∷ ls)

abbrev pub call_of : Expr → List (Suffix Expr) → Expr
call_of first [] = first
call_of first (s ∷ ss) = expr.Call first (s ∷ ss)

-- ---- names

-- names parted by commas, with one more comma allowed after the last, and `)` (section 15.1)
pub data IsNames : List Token → List Identifier → List Token → Type 0 where
  names_none : (ts : List Token) (close : ℕ) (rest : List Token) → Begins ts k.CloseRound close rest → IsNames ts [] rest
  names_last : (ts after : List Token) (n : Identifier) (close : ℕ) (rest : List Token) → IsIdentifier ts n after → Begins after k.CloseRound close rest → IsNames ts (n ∷ []) rest
  names_more : (ts comma after : List Token) (n : Identifier) (ns : List Identifier) (at : ℕ) (rest : List Token) → IsIdentifier ts n comma → Begins comma k.Comma at after → IsNames after ns rest → IsNames ts (n ∷ ns) rest

abbrev pub IsParameters : List Token → List Identifier → List Token → Type 0
IsParameters ts ns rest = (opens : ℕ) × (inside : List Token) × Begins ts k.OpenRound opens inside × IsNames inside ns rest

-- a name, or names between parentheses, each of which nests as an assignment would
pub data IsArrowParameters (P : ℕ → Type 0) (d : ℕ) : List Token → List Identifier → List Token → Type 0 where
  parameters_one : (ts : List Token) (n : Identifier) (rest : List Token) → IsIdentifier ts n rest → IsArrowParameters P d ts (n ∷ []) rest
  parameters_none : (ts rest : List Token) → IsParameters ts [] rest → IsArrowParameters P d ts [] rest
  parameters_round : (ts : List Token) (n : Identifier) (ns : List Identifier) (rest : List Token) → P (suc d) → IsParameters ts (n ∷ ns) rest → IsArrowParameters P d ts (n ∷ ns) rest

pub data IsOptionalName : List Token → Option Identifier → List Token → Type 0 where
  name_none : (ts : List Token) → IsOptionalName ts None ts
  name_some : (ts : List Token) (n : Identifier) (rest : List Token) → IsIdentifier ts n rest → IsOptionalName ts (Some n) rest

-- `let` or `const`
pub data IsDeclares : List Token → DeclarationKind → ℕ → List Token → Type 0 where
  declares_let : (ts : List Token) (site : ℕ) (rest : List Token) → IsWord ts word.Let site rest → IsDeclares ts kind.Let site rest
  declares_const : (ts : List Token) (site : ℕ) (rest : List Token) → IsWord ts word.Const site rest → IsDeclares ts kind.Const site rest

-- ---- keys

-- the key of a member: a word, a text or a number, and not `__proto__` (sections 13.2.5 and B.3.1)
pub data IsKey : List Token → Key → ℕ → List Token → Type 0 where
  key_word : (ts : List Token) (name : List ℕ) (start : ℕ) (rest : List Token) → IsIdentifierName ts name start rest → is_proto name ≡ false → IsKey ts (key.Text name) start rest
  key_text : (ts : List Token) (text : List ℕ) (start : ℕ) (rest : List Token) → Begins ts (k.Text text) start rest → is_proto text ≡ false → IsKey ts (key.Text text) start rest
  key_number : (ts : List Token) (n start : ℕ) (rest : List Token) → Begins ts (k.Number n) start rest → IsKey ts (key.Number n) start rest

-- one text or number alone, before `]`
pub data IsStaticKey : List Token → Expr → List Token → Type 0 where
  static_text : (ts : List Token) (text : List ℕ) (start : ℕ) (close : List Token) (at : ℕ) (rest : List Token) → Begins ts (k.Text text) start close → Begins close k.CloseSquare at rest → IsStaticKey ts (expr.Text start text) rest
  static_number : (ts : List Token) (n start : ℕ) (close : List Token) (at : ℕ) (rest : List Token) → Begins ts (k.Number n) start close → Begins close k.CloseSquare at rest → IsStaticKey ts (expr.Number start n) rest

abbrev pub opens_static : List Token → Bool
opens_static (t ∷ u ∷ ts) = opens_by t.kind u.kind
  where
    opens_by : TokenKind → TokenKind → Bool
    opens_by (k.Text x) k.CloseSquare = true
    opens_by (k.Number n) k.CloseSquare = true
    opens_by _ _ = false
opens_static _ = false

mutual
  -- ---- expressions

  -- AssignmentExpression (section 13.15)
  pub data IsAssign (P : ℕ → Type 0) : ℕ → Context → List Token → Expr → Tail → List Token → Type 0 where
    assign_conditional : (d : ℕ) (c : Context) (ts : List Token) (e : Expr) (tail : Tail) (rest : List Token) → P (suc d) → IsConditional P (suc d) c ts e tail rest → IsAssign P d c ts e tail rest
    assign_sets : (d : ℕ) (c : Context) (ts : List Token) (x : Target Expr) (mark : List Token) (o : Option BinaryOp) (site : ℕ) (from : List Token) (e : Expr) (tail : Tail) (rest : List Token) → P (suc d) → IsTarget P (suc d) c ts x mark → Begins mark (k.Assign o) site from → IsAssign P (suc d) c from e tail rest → IsAssign P d c ts (expr.Assign (start_of ts) site o x e) tail rest
    -- ArrowFunction (section 15.3): the arrow on the line of the parameters' end
    assign_arrow : (d : ℕ) (c : Context) (ts : List Token) (ns : List Identifier) (mark : List Token) (site : ℕ) (from : List Token) (e : Expr) (tail : Tail) (rest : List Token) → P (suc d) → IsArrowParameters P (suc d) ts ns mark → Beside mark k.Arrow site from → starts is_open_brace from ≡ false → IsAssign P (suc d) (in_arrow c) from e tail rest → IsAssign P d c ts (expr.Arrow (start_of ts) ns e) tail rest
    assign_arrow_block : (d : ℕ) (c : Context) (ts : List Token) (ns : List Identifier) (mark : List Token) (site : ℕ) (from : List Token) (body : List Stmt) (rest : List Token) → P (suc d) → IsArrowParameters P (suc d) ts ns mark → Beside mark k.Arrow site from → IsBody P (suc d) (in_arrow c) from body rest → IsAssign P d c ts (expr.ArrowBlock (start_of ts) ns body) braces rest

  -- ConditionalExpression (section 13.14)
  pub data IsConditional (P : ℕ → Type 0) : ℕ → Context → List Token → Expr → Tail → List Token → Type 0 where
    conditional_short : (d : ℕ) (c : Context) (ts : List Token) (e : Expr) (tail : Tail) (rest : List Token) → IsShort P d c ts e tail rest → IsConditional P d c ts e tail rest
    conditional_both : (d : ℕ) (c : Context) (ts : List Token) (test : Expr) (t : Tail) (mark : List Token) (site : ℕ) (from : List Token) (a : Expr) (u : Tail) (colon : List Token) (at : ℕ) (from' : List Token) (b : Expr) (tail : Tail) (rest : List Token) → IsShort P d c ts test t mark → Begins mark k.Question site from → IsAssign P d c from a u colon → Begins colon k.Colon at from' → IsAssign P d c from' b tail rest → IsConditional P d c ts (expr.Conditional (start_of ts) site test a b) tail rest

  -- ShortCircuitExpression (section 13.13): `??` doesn't stand beside `&&` or `||`
  pub data IsShort (P : ℕ → Type 0) : ℕ → Context → List Token → Expr → Tail → List Token → Type 0 where
    short_or : (d : ℕ) (c : Context) (ts : List Token) (a : Expr) (t : Tail) (at : List Token) (ls : List (Link LogicalOp Expr)) (tail : Tail) (rest : List Token) → IsAnd P d c ts a t at → IsOrs P d c t at ls tail rest → IsShort P d c ts (logical_of a ls) tail rest
    short_coalesce : (d : ℕ) (c : Context) (ts : List Token) (a : Expr) (t : Tail) (at : List Token) (ls : List (Link LogicalOp Expr)) (tail : Tail) (rest : List Token) → IsChain P loosest d c ts a t at → IsBits P logic.Coalesce d c t at ls tail rest → 0 < length ls → IsShort P d c ts (logical_of a ls) tail rest

  -- what follows the first part of a chain of `||`
  pub data IsOrs (P : ℕ → Type 0) : ℕ → Context → Tail → List Token → List (Link LogicalOp Expr) → Tail → List Token → Type 0 where
    ors_none : (d : ℕ) (c : Context) (tail : Tail) (ts : List Token) → IsOrs P d c tail ts [] tail ts
    ors_more : (d : ℕ) (c : Context) (t : Tail) (ts : List Token) (site : ℕ) (from : List Token) (b : Expr) (u : Tail) (at : List Token) (ls : List (Link LogicalOp Expr)) (tail : Tail) (rest : List Token) → Begins ts (k.Logical logic.Or) site from → IsAnd P d c from b u at → IsOrs P d c u at ls tail rest → IsOrs P d c t ts (record { site = site; op = logic.Or; right = b } ∷ ls) tail rest

  pub data IsAnd (P : ℕ → Type 0) : ℕ → Context → List Token → Expr → Tail → List Token → Type 0 where
    and_all : (d : ℕ) (c : Context) (ts : List Token) (a : Expr) (t : Tail) (at : List Token) (ls : List (Link LogicalOp Expr)) (tail : Tail) (rest : List Token) → IsChain P loosest d c ts a t at → IsBits P logic.And d c t at ls tail rest → IsAnd P d c ts (logical_of a ls) tail rest

  -- what follows the first part of a chain of `&&` or of `??`
  pub data IsBits (P : ℕ → Type 0) : LogicalOp → ℕ → Context → Tail → List Token → List (Link LogicalOp Expr) → Tail → List Token → Type 0 where
    bits_none : (o : LogicalOp) (d : ℕ) (c : Context) (tail : Tail) (ts : List Token) → IsBits P o d c tail ts [] tail ts
    bits_more : (o : LogicalOp) (d : ℕ) (c : Context) (t : Tail) (ts : List Token) (site : ℕ) (from : List Token) (b : Expr) (u : Tail) (at : List Token) (ls : List (Link LogicalOp Expr)) (tail : Tail) (rest : List Token) → Begins ts (k.Logical o) site from → IsChain P loosest d c from b u at → IsBits P o d c u at ls tail rest → IsBits P o d c t ts (record { site = site; op = o; right = b } ∷ ls) tail rest

  -- the rows of binary operators: at level 0 a UnaryExpression, and above it a chain of the level below
  pub data IsChain (P : ℕ → Type 0) : ℕ → ℕ → Context → List Token → Expr → Tail → List Token → Type 0 where
    chain_unary : (d : ℕ) (c : Context) (ts : List Token) (e : Expr) (tail : Tail) (rest : List Token) → IsUnary P d c ts e tail rest → IsChain P 0 d c ts e tail rest
    chain_all : (l d : ℕ) (c : Context) (ts : List Token) (a : Expr) (t : Tail) (at : List Token) (ls : List (Link BinaryOp Expr)) (tail : Tail) (rest : List Token) → IsChain P l d c ts a t at → IsLinks P l d c t at ls tail rest → IsChain P (suc l) d c ts (binary_of a ls) tail rest

  -- what follows the first part of a chain whose parts are of that level
  pub data IsLinks (P : ℕ → Type 0) : ℕ → ℕ → Context → Tail → List Token → List (Link BinaryOp Expr) → Tail → List Token → Type 0 where
    links_none : (l d : ℕ) (c : Context) (tail : Tail) (ts : List Token) → IsLinks P l d c tail ts [] tail ts
    links_more : (l d : ℕ) (c : Context) (t : Tail) (ts : List Token) (o : BinaryOp) (site : ℕ) (from : List Token) (b : Expr) (u : Tail) (at : List Token) (ls : List (Link BinaryOp Expr)) (tail : Tail) (rest : List Token) → Begins ts (k.Binary o) site from → level o ≡ suc l → IsChain P l d c from b u at → IsLinks P l d c u at ls tail rest → IsLinks P l d c t ts (record { site = site; op = o; right = b } ∷ ls) tail rest

  -- UnaryExpression (section 13.5) and UpdateExpression (section 13.4)
  pub data IsUnary (P : ℕ → Type 0) : ℕ → Context → List Token → Expr → Tail → List Token → Type 0 where
    unary_prefix : (d : ℕ) (c : Context) (ts : List Token) (mark : TokenKind) (o : UnaryOp) (site : ℕ) (from : List Token) (e : Expr) (tail : Tail) (rest : List Token) → P (suc d) → Begins ts mark site from → prefix mark ≡ Some o → IsUnary P (suc d) c from e tail rest → IsUnary P d c ts (expr.Unary site o e) tail rest
    unary_step : (d : ℕ) (c : Context) (ts : List Token) (o : StepOp) (site : ℕ) (from : List Token) (x : Target Expr) (rest : List Token) → P (suc d) → Begins ts (k.Step o) site from → IsTarget P (suc d) c from x rest → IsUnary P d c ts (expr.Step site site o true x) call rest
    unary_behind : (d : ℕ) (c : Context) (ts : List Token) (x : Target Expr) (mark : List Token) (o : StepOp) (site : ℕ) (rest : List Token) → IsTarget P d c ts x mark → Beside mark (k.Step o) site rest → IsUnary P d c ts (expr.Step (start_of ts) site o false x) step rest
    unary_call : (d : ℕ) (c : Context) (ts : List Token) (e : Expr) (rest : List Token) → IsCall P d c ts e rest → IsUnary P d c ts e call rest

  -- LeftHandSideExpression (section 13.3)
  pub data IsCall (P : ℕ → Type 0) : ℕ → Context → List Token → Expr → List Token → Type 0 where
    call_all : (d : ℕ) (c : Context) (ts : List Token) (first : Expr) (at : List Token) (ss : List (Suffix Expr)) (rest : List Token) → IsFirst P d c ts first at → IsSuffixes P d c at ss rest → IsCall P d c ts (call_of first ss) rest

  pub data IsFirst (P : ℕ → Type 0) : ℕ → Context → List Token → Expr → List Token → Type 0 where
    first_primary : (d : ℕ) (c : Context) (ts : List Token) (e : Expr) (rest : List Token) → IsPrimary P d c ts e rest → IsFirst P d c ts e rest
    first_new : (d : ℕ) (c : Context) (ts : List Token) (site : ℕ) (from : List Token) (n : Identifier) (opens : List Token) (at : ℕ) (inside : List Token) (es : List Expr) (rest : List Token) → IsWord ts word.New site from → IsIdentifier from n opens → Begins opens k.OpenRound at inside → IsArguments P k.CloseRound d c inside es rest → IsFirst P d c ts (expr.New site n es) rest

  pub data IsAccess (P : ℕ → Type 0) : ℕ → Context → List Token → Access Expr → List Token → Type 0 where
    access_property : (d : ℕ) (c : Context) (ts : List Token) (site : ℕ) (from : List Token) (name : List ℕ) (start : ℕ) (rest : List Token) → Begins ts k.Dot site from → IsIdentifierName from name start rest → IsAccess P d c ts (access.Property site name) rest
    -- a literal alone between brackets still nests as an assignment
    access_static : (d : ℕ) (c : Context) (ts : List Token) (site : ℕ) (inside : List Token) (e : Expr) (rest : List Token) → P (suc d) → Begins ts k.OpenSquare site inside → IsStaticKey inside e rest → IsAccess P d c ts (access.Index site true e) rest
    access_index : (d : ℕ) (c : Context) (ts : List Token) (site : ℕ) (inside : List Token) (e : Expr) (t : Tail) (close : List Token) (at : ℕ) (rest : List Token) → Begins ts k.OpenSquare site inside → opens_static inside ≡ false → IsAssign P d c inside e t close → Begins close k.CloseSquare at rest → IsAccess P d c ts (access.Index site false e) rest

  pub data IsSuffixes (P : ℕ → Type 0) : ℕ → Context → List Token → List (Suffix Expr) → List Token → Type 0 where
    suffixes_none : (d : ℕ) (c : Context) (ts : List Token) → IsSuffixes P d c ts [] ts
    suffixes_access : (d : ℕ) (c : Context) (ts : List Token) (a : Access Expr) (at : List Token) (ss : List (Suffix Expr)) (rest : List Token) → IsAccess P d c ts a at → IsSuffixes P d c at ss rest → IsSuffixes P d c ts (suffix.Access a ∷ ss) rest
    suffixes_call : (d : ℕ) (c : Context) (ts : List Token) (site : ℕ) (inside : List Token) (es : List Expr) (at : List Token) (ss : List (Suffix Expr)) (rest : List Token) → Begins ts k.OpenRound site inside → IsArguments P k.CloseRound d c inside es at → IsSuffixes P d c at ss rest → IsSuffixes P d c ts (suffix.Call site es ∷ ss) rest

  -- what may be assigned (section 13.15.1): a name, a call that ends in a property, or such between parentheses
  pub data IsTarget (P : ℕ → Type 0) : ℕ → Context → List Token → Target Expr → List Token → Type 0 where
    target_name : (d : ℕ) (c : Context) (ts : List Token) (n : Identifier) (rest : List Token) → IsIdentifier ts n rest → IsTarget P d c ts (target.Name n) rest
    target_access : (d : ℕ) (c : Context) (ts : List Token) (base : Expr) (at : List Token) (a : Access Expr) (rest : List Token) → IsCall P d c ts base at → IsAccess P d c at a rest → IsTarget P d c ts (target.Access base a) rest
    target_round : (d : ℕ) (c : Context) (ts : List Token) (opens : ℕ) (inside : List Token) (x : Target Expr) (close : List Token) (at : ℕ) (rest : List Token) → Begins ts k.OpenRound opens inside → P (suc d) → IsTarget P (suc d) c inside x close → Begins close k.CloseRound at rest → IsTarget P d c ts x rest

  -- assignments parted by commas, with one more comma allowed after the last, and the closing mark
  pub data IsArguments (P : ℕ → Type 0) : TokenKind → ℕ → Context → List Token → List Expr → List Token → Type 0 where
    arguments_none : (close : TokenKind) (d : ℕ) (c : Context) (ts : List Token) (at : ℕ) (rest : List Token) → Begins ts close at rest → IsArguments P close d c ts [] rest
    arguments_last : (close : TokenKind) (d : ℕ) (c : Context) (ts : List Token) (e : Expr) (t : Tail) (end : List Token) (at : ℕ) (rest : List Token) → IsAssign P d c ts e t end → Begins end close at rest → IsArguments P close d c ts (e ∷ []) rest
    arguments_more : (close : TokenKind) (d : ℕ) (c : Context) (ts : List Token) (e : Expr) (t : Tail) (comma : List Token) (at : ℕ) (from : List Token) (es : List Expr) (rest : List Token) → IsAssign P d c ts e t comma → Begins comma k.Comma at from → IsArguments P close d c from es rest → IsArguments P close d c ts (e ∷ es) rest

  -- a member of an object literal (section 13.2.5)
  pub data IsMember (P : ℕ → Type 0) : ℕ → Context → List Token → Member Expr → List Token → Type 0 where
    member_value : (d : ℕ) (c : Context) (ts : List Token) (name : Key) (site : ℕ) (colon : List Token) (at : ℕ) (from : List Token) (e : Expr) (t : Tail) (rest : List Token) → IsKey ts name site colon → Begins colon k.Colon at from → IsAssign P d c from e t rest → IsMember P d c ts (member.Value site name e) rest
    member_shorthand : (d : ℕ) (c : Context) (ts : List Token) (n : Identifier) (rest : List Token) → IsIdentifier ts n rest → is_proto n.name ≡ false → IsMember P d c ts (member.Shorthand n) rest

  pub data IsMembers (P : ℕ → Type 0) : ℕ → Context → List Token → List (Member Expr) → List Token → Type 0 where
    members_none : (d : ℕ) (c : Context) (ts : List Token) (at : ℕ) (rest : List Token) → Begins ts k.CloseBrace at rest → IsMembers P d c ts [] rest
    members_last : (d : ℕ) (c : Context) (ts : List Token) (m : Member Expr) (end : List Token) (at : ℕ) (rest : List Token) → IsMember P d c ts m end → Begins end k.CloseBrace at rest → IsMembers P d c ts (m ∷ []) rest
    members_more : (d : ℕ) (c : Context) (ts : List Token) (m : Member Expr) (comma : List Token) (at : ℕ) (from : List Token) (ms : List (Member Expr)) (rest : List Token) → IsMember P d c ts m comma → Begins comma k.Comma at from → IsMembers P d c from ms rest → IsMembers P d c ts (m ∷ ms) rest

  -- PrimaryExpression (section 13.2) and function expressions (section 15.2)
  pub data IsPrimary (P : ℕ → Type 0) : ℕ → Context → List Token → Expr → List Token → Type 0 where
    primary_this : (d : ℕ) (c : Context) (ts : List Token) (site : ℕ) (rest : List Token) → c.has_this ≡ true → IsWord ts word.This site rest → IsPrimary P d c ts (expr.This site) rest
    primary_name : (d : ℕ) (c : Context) (ts : List Token) (n : Identifier) (rest : List Token) → IsIdentifier ts n rest → IsPrimary P d c ts (expr.Name n) rest
    primary_null : (d : ℕ) (c : Context) (ts : List Token) (site : ℕ) (rest : List Token) → IsWord ts word.Null site rest → IsPrimary P d c ts (expr.Null site) rest
    primary_true : (d : ℕ) (c : Context) (ts : List Token) (site : ℕ) (rest : List Token) → IsWord ts word.True site rest → IsPrimary P d c ts (expr.True site) rest
    primary_false : (d : ℕ) (c : Context) (ts : List Token) (site : ℕ) (rest : List Token) → IsWord ts word.False site rest → IsPrimary P d c ts (expr.False site) rest
    primary_number : (d : ℕ) (c : Context) (ts : List Token) (n site : ℕ) (rest : List Token) → Begins ts (k.Number n) site rest → IsPrimary P d c ts (expr.Number site n) rest
    primary_text : (d : ℕ) (c : Context) (ts : List Token) (text : List ℕ) (site : ℕ) (rest : List Token) → Begins ts (k.Text text) site rest → IsPrimary P d c ts (expr.Text site text) rest
    primary_array : (d : ℕ) (c : Context) (ts : List Token) (site : ℕ) (inside : List Token) (es : List Expr) (rest : List Token) → Begins ts k.OpenSquare site inside → IsArguments P k.CloseSquare d c inside es rest → IsPrimary P d c ts (expr.Array site es) rest
    primary_object : (d : ℕ) (c : Context) (ts : List Token) (site : ℕ) (inside : List Token) (ms : List (Member Expr)) (rest : List Token) → Begins ts k.OpenBrace site inside → IsMembers P d c inside ms rest → IsPrimary P d c ts (expr.Object site ms) rest
    primary_function : (d : ℕ) (c : Context) (ts : List Token) (site : ℕ) (from : List Token) (name : Option Identifier) (at : List Token) (ns : List Identifier) (opens : List Token) (body : List Stmt) (rest : List Token) → IsWord ts word.Function site from → IsOptionalName from name at → IsParameters at ns opens → IsBody P d in_body opens body rest → IsPrimary P d c ts (expr.FunctionExpression site name ns body) rest
    primary_round : (d : ℕ) (c : Context) (ts : List Token) (opens : ℕ) (inside : List Token) (e : Expr) (t : Tail) (close : List Token) (at : ℕ) (rest : List Token) → Begins ts k.OpenRound opens inside → IsAssign P d c inside e t close → Begins close k.CloseRound at rest → IsPrimary P d c ts e rest

  -- ---- statements

  -- statements between braces that are no statement of their own
  pub data IsBody (P : ℕ → Type 0) : ℕ → Context → List Token → List Stmt → List Token → Type 0 where
    body_braces : (d : ℕ) (c : Context) (ts : List Token) (opens : ℕ) (inside : List Token) (body : List Stmt) (close : List Token) (at : ℕ) (rest : List Token) → Begins ts k.OpenBrace opens inside → IsStmts P d c inside body close → Begins close k.CloseBrace at rest → IsBody P d c ts body rest

  pub data IsStmts (P : ℕ → Type 0) : ℕ → Context → List Token → List Stmt → List Token → Type 0 where
    stmts_none : (d : ℕ) (c : Context) (ts : List Token) → IsStmts P d c ts [] ts
    stmts_more : (d : ℕ) (c : Context) (ts : List Token) (s : Stmt) (at : List Token) (ss : List Stmt) (rest : List Token) → P (suc d) → IsStmt P (suc d) c ts s at → IsStmts P d c at ss rest → IsStmts P d c ts (s ∷ ss) rest

  -- StatementListItem (section 14.2)
  pub data IsStmt (P : ℕ → Type 0) : ℕ → Context → List Token → Stmt → List Token → Type 0 where
    stmt_inner : (d : ℕ) (c : Context) (ts : List Token) (s : Stmt) (rest : List Token) → IsInner P d c ts s rest → IsStmt P d c ts s rest
    -- LexicalDeclaration (section 14.3.1)
    stmt_declare : (d : ℕ) (c : Context) (ts : List Token) (o : DeclarationKind) (site : ℕ) (from : List Token) (ds : List (Declarator Expr)) (t : Tail) (end rest : List Token) → IsDeclares ts o site from → IsDeclarators P o d c from ds t end → IsEnd t end rest → IsStmt P d c ts (stmt.Declare site o ds) rest
    -- FunctionDeclaration (section 15.2)
    stmt_function : (d : ℕ) (c : Context) (ts : List Token) (site : ℕ) (from : List Token) (n : Identifier) (at : List Token) (ns : List Identifier) (opens : List Token) (body : List Stmt) (rest : List Token) → IsWord ts word.Function site from → IsIdentifier from n at → IsParameters at ns opens → IsBody P d in_body opens body rest → IsStmt P d c ts (stmt.Function site n ns body) rest

  -- a declared name and its value, without which no constant is declared
  pub data IsDeclarator (P : ℕ → Type 0) : DeclarationKind → ℕ → Context → List Token → Declarator Expr → Tail → List Token → Type 0 where
    declarator_name : (d : ℕ) (c : Context) (ts : List Token) (n : Identifier) (rest : List Token) → IsIdentifier ts n rest → IsDeclarator P kind.Let d c ts (record { name = n; value = None }) no_expression rest
    declarator_value : (o : DeclarationKind) (d : ℕ) (c : Context) (ts : List Token) (n : Identifier) (mark : List Token) (at : ℕ) (from : List Token) (e : Expr) (t : Tail) (rest : List Token) → IsIdentifier ts n mark → Begins mark (k.Assign None) at from → IsAssign P d c from e t rest → IsDeclarator P o d c ts (record { name = n; value = Some e }) t rest

  pub data IsDeclarators (P : ℕ → Type 0) : DeclarationKind → ℕ → Context → List Token → List (Declarator Expr) → Tail → List Token → Type 0 where
    declarators_last : (o : DeclarationKind) (d : ℕ) (c : Context) (ts : List Token) (x : Declarator Expr) (t : Tail) (rest : List Token) → IsDeclarator P o d c ts x t rest → IsDeclarators P o d c ts (x ∷ []) t rest
    declarators_more : (o : DeclarationKind) (d : ℕ) (c : Context) (ts : List Token) (x : Declarator Expr) (u : Tail) (comma : List Token) (at : ℕ) (from : List Token) (xs : List (Declarator Expr)) (t : Tail) (rest : List Token) → IsDeclarator P o d c ts x u comma → Begins comma k.Comma at from → IsDeclarators P o d c from xs t rest → IsDeclarators P o d c ts (x ∷ xs) t rest

  -- an expression between parentheses, as a statement asks for it
  pub data IsRound (P : ℕ → Type 0) : ℕ → Context → List Token → Expr → List Token → Type 0 where
    round_assign : (d : ℕ) (c : Context) (ts : List Token) (opens : ℕ) (inside : List Token) (e : Expr) (t : Tail) (close : List Token) (at : ℕ) (rest : List Token) → Begins ts k.OpenRound opens inside → IsAssign P d c inside e t close → Begins close k.CloseRound at rest → IsRound P d c ts e rest

  -- a statement below another
  pub data IsBelow (P : ℕ → Type 0) : ℕ → Context → List Token → Stmt → List Token → Type 0 where
    below_inner : (d : ℕ) (c : Context) (ts : List Token) (s : Stmt) (rest : List Token) → P (suc d) → IsInner P (suc d) c ts s rest → IsBelow P d c ts s rest

  -- Statement (section 14): one that is no declaration
  pub data IsInner (P : ℕ → Type 0) : ℕ → Context → List Token → Stmt → List Token → Type 0 where
    inner_block : (d : ℕ) (c : Context) (ts : List Token) (body : List Stmt) (rest : List Token) → IsBody P d c ts body rest → IsInner P d c ts (stmt.Block (start_of ts) body) rest
    inner_nothing : (d : ℕ) (c : Context) (ts : List Token) (site : ℕ) (rest : List Token) → Begins ts k.Semicolon site rest → IsInner P d c ts (stmt.Nothing site) rest
    -- ExpressionStatement (section 14.5)
    inner_express : (d : ℕ) (c : Context) (ts : List Token) (e : Expr) (t : Tail) (end rest : List Token) → starts is_open_brace ts ≡ false → starts is_function ts ≡ false → IsAssign P d c ts e t end → IsEnd t end rest → IsInner P d c ts (stmt.Express (start_of ts) e) rest
    inner_if : (d : ℕ) (c : Context) (ts : List Token) (arms : List Arm) (other : Option Stmt) (rest : List Token) → IsIf P d c ts arms other rest → IsInner P d c ts (stmt.If arms other) rest
    -- IterationStatement (section 14.7)
    inner_while : (d : ℕ) (c : Context) (ts : List Token) (site : ℕ) (from : List Token) (e : Expr) (at : List Token) (s : Stmt) (rest : List Token) → IsWord ts word.While site from → IsRound P d c from e at → IsBelow P d (looping c) at s rest → IsInner P d c ts (stmt.While site e s) rest
    inner_do : (d : ℕ) (c : Context) (ts : List Token) (site : ℕ) (from : List Token) (s : Stmt) (at : List Token) (test_site : ℕ) (test : List Token) (e : Expr) (end rest : List Token) → IsWord ts word.Do site from → IsBelow P d (looping c) from s at → IsWord at word.While test_site test → IsRound P d c test e end → IsDoEnd end rest → IsInner P d c ts (stmt.Do site s test_site e) rest
    inner_for : (d : ℕ) (c : Context) (ts : List Token) (site : ℕ) (from : List Token) (opens : ℕ) (inside : List Token) (h : LoopHead Expr) (first : List Token) (at : ℕ) (test : List Token) (e : Option Expr) (second : List Token) (at' : ℕ) (update : List Token) (u : Option Expr) (close : List Token) (at'' : ℕ) (below : List Token) (s : Stmt) (rest : List Token) → IsWord ts word.For site from → Begins from k.OpenRound opens inside → IsHead P d c inside h first → Begins first k.Semicolon at test → IsOptional P d c test e second → Begins second k.Semicolon at' update → IsOptional P d c update u close → Begins close k.CloseRound at'' below → IsBelow P d (looping c) below s rest → IsInner P d c ts (stmt.For site h e u s) rest
    inner_for_of : (d : ℕ) (c : Context) (ts : List Token) (site : ℕ) (from : List Token) (opens : ℕ) (inside : List Token) (o : DeclarationKind) (at : ℕ) (name : List Token) (n : Identifier) (mark : List Token) (of' : List ℕ) (at' : ℕ) (items : List Token) (e : Expr) (t : Tail) (close : List Token) (at'' : ℕ) (below : List Token) (s : Stmt) (rest : List Token) → IsWord ts word.For site from → Begins from k.OpenRound opens inside → IsDeclares inside o at name → IsIdentifier name n mark → is_of n.name ≡ false → Begins mark (k.Name of') at' items → is_of of' ≡ true → IsAssign P d c items e t close → Begins close k.CloseRound at'' below → IsBelow P d (looping c) below s rest → IsInner P d c ts (stmt.ForOf site o n e s) rest
    -- section 14.9 and 14.8
    inner_break : (d : ℕ) (c : Context) (ts : List Token) (site : ℕ) (end rest : List Token) → c.in_loop ≡ true → IsWord ts word.Break site end → IsEnd no_expression end rest → IsInner P d c ts (stmt.Break site) rest
    inner_continue : (d : ℕ) (c : Context) (ts : List Token) (site : ℕ) (end rest : List Token) → c.in_loop ≡ true → IsWord ts word.Continue site end → IsEnd no_expression end rest → IsInner P d c ts (stmt.Continue site) rest
    -- section 14.10: the value on the same line
    inner_return : (d : ℕ) (c : Context) (ts : List Token) (site : ℕ) (end rest : List Token) → c.in_function ≡ true → IsWord ts word.Return site end → IsEnd no_expression end rest → IsInner P d c ts (stmt.Return site None) rest
    inner_return_value : (d : ℕ) (c : Context) (ts : List Token) (site : ℕ) (from : List Token) (e : Expr) (t : Tail) (end rest : List Token) → c.in_function ≡ true → IsWord ts word.Return site from → on_same_line from ≡ true → IsAssign P d c from e t end → IsEnd t end rest → IsInner P d c ts (stmt.Return site (Some e)) rest
    -- section 14.14
    inner_throw : (d : ℕ) (c : Context) (ts : List Token) (site : ℕ) (from : List Token) (e : Expr) (t : Tail) (end rest : List Token) → IsWord ts word.Throw site from → on_same_line from ≡ true → IsAssign P d c from e t end → IsEnd t end rest → IsInner P d c ts (stmt.Throw site e) rest
    -- TryStatement (section 14.15)
    inner_catch : (d : ℕ) (c : Context) (ts : List Token) (site : ℕ) (from : List Token) (body : List Stmt) (at : List Token) (h : Catch (List Stmt)) (behind : List Token) (last : Option (List Stmt)) (rest : List Token) → IsWord ts word.Try site from → IsBody P d c from body at → IsCatch P d c at h behind → IsOptionalFinally P d c behind last rest → IsInner P d c ts (stmt.Try site body (Some h) last) rest
    inner_finally : (d : ℕ) (c : Context) (ts : List Token) (site : ℕ) (from : List Token) (body : List Stmt) (at : List Token) (last : List Stmt) (rest : List Token) → IsWord ts word.Try site from → IsBody P d c from body at → IsFinally P d c at last rest → IsInner P d c ts (stmt.Try site body None (Some last)) rest

  -- IfStatement (section 14.6): an `else` belongs to the nearest `if`, and an `if` behind it goes on with the chain
  pub data IsIf (P : ℕ → Type 0) : ℕ → Context → List Token → List Arm → Option Stmt → List Token → Type 0 where
    if_alone : (d : ℕ) (c : Context) (ts : List Token) (site : ℕ) (from : List Token) (e : Expr) (at : List Token) (s : Stmt) (rest : List Token) → IsWord ts word.If site from → IsRound P d c from e at → IsBelow P d c at s rest → starts is_else rest ≡ false → IsIf P d c ts (record { site = site; test = e; consequent = s } ∷ []) None rest
    if_else : (d : ℕ) (c : Context) (ts : List Token) (site : ℕ) (from : List Token) (e : Expr) (at : List Token) (s : Stmt) (mark : List Token) (at' : ℕ) (other : List Token) (b : Stmt) (rest : List Token) → IsWord ts word.If site from → IsRound P d c from e at → IsBelow P d c at s mark → IsWord mark word.Else at' other → starts is_if other ≡ false → IsBelow P d c other b rest → IsIf P d c ts (record { site = site; test = e; consequent = s } ∷ []) (Some b) rest
    if_chain : (d : ℕ) (c : Context) (ts : List Token) (site : ℕ) (from : List Token) (e : Expr) (at : List Token) (s : Stmt) (mark : List Token) (at' : ℕ) (other : List Token) (arms : List Arm) (last : Option Stmt) (rest : List Token) → IsWord ts word.If site from → IsRound P d c from e at → IsBelow P d c at s mark → IsWord mark word.Else at' other → P (suc d) → IsIf P (suc d) c other arms last rest → IsIf P d c ts (record { site = site; test = e; consequent = s } ∷ arms) last rest

  -- what stands first in the head of a `for`, where no semicolon is left out
  pub data IsHead (P : ℕ → Type 0) : ℕ → Context → List Token → LoopHead Expr → List Token → Type 0 where
    head_none : (d : ℕ) (c : Context) (ts : List Token) → IsHead P d c ts head.Nothing ts
    head_value : (d : ℕ) (c : Context) (ts : List Token) (e : Expr) (t : Tail) (rest : List Token) → IsAssign P d c ts e t rest → IsHead P d c ts (head.Value e) rest
    head_declare : (d : ℕ) (c : Context) (ts : List Token) (o : DeclarationKind) (site : ℕ) (from : List Token) (ds : List (Declarator Expr)) (t : Tail) (rest : List Token) → IsDeclares ts o site from → IsDeclarators P o d c from ds t rest → All (λ x. is_of x.name.name ≡ false) ds → IsHead P d c ts (head.Declare o ds) rest

  pub data IsOptional (P : ℕ → Type 0) : ℕ → Context → List Token → Option Expr → List Token → Type 0 where
    optional_none : (d : ℕ) (c : Context) (ts : List Token) → IsOptional P d c ts None ts
    optional_some : (d : ℕ) (c : Context) (ts : List Token) (e : Expr) (t : Tail) (rest : List Token) → IsAssign P d c ts e t rest → IsOptional P d c ts (Some e) rest

  pub data IsCatch (P : ℕ → Type 0) : ℕ → Context → List Token → Catch (List Stmt) → List Token → Type 0 where
    catch_all : (d : ℕ) (c : Context) (ts : List Token) (at : ℕ) (from : List Token) (body : List Stmt) (rest : List Token) → IsWord ts word.Catch at from → IsBody P d c from body rest → IsCatch P d c ts (record { name = None; body = body }) rest
    catch_name : (d : ℕ) (c : Context) (ts : List Token) (at : ℕ) (from : List Token) (opens : ℕ) (inside : List Token) (n : Identifier) (close : List Token) (at' : ℕ) (block : List Token) (body : List Stmt) (rest : List Token) → IsWord ts word.Catch at from → Begins from k.OpenRound opens inside → IsIdentifier inside n close → Begins close k.CloseRound at' block → IsBody P d c block body rest → IsCatch P d c ts (record { name = Some n; body = body }) rest

  pub data IsFinally (P : ℕ → Type 0) : ℕ → Context → List Token → List Stmt → List Token → Type 0 where
    finally_body : (d : ℕ) (c : Context) (ts : List Token) (at : ℕ) (from : List Token) (body : List Stmt) (rest : List Token) → IsWord ts word.Finally at from → IsBody P d c from body rest → IsFinally P d c ts body rest

  pub data IsOptionalFinally (P : ℕ → Type 0) : ℕ → Context → List Token → Option (List Stmt) → List Token → Type 0 where
    finally_none : (d : ℕ) (c : Context) (ts : List Token) → IsOptionalFinally P d c ts None ts
    finally_some : (d : ℕ) (c : Context) (ts : List Token) (body : List Stmt) (rest : List Token) → IsFinally P d c ts body rest → IsOptionalFinally P d c ts (Some body) rest

-- all of the tokens, whatever their nesting
abbrev pub Shape : List Token → List Stmt → Type 0
Shape ts body = IsStmts (λ n. Unit {0}) 0 outermost ts body []

-- all of the tokens, none of which nests deeper than 200
abbrev pub ShallowShape : List Token → List Stmt → Type 0
ShallowShape ts body = IsStmts (λ n. n ≤ 200) 0 outermost ts body []

-- some script begins with these tokens; that it may go on by tokens that texts have is a law (`viability` of js_laws)
abbrev pub Viable : List Token → Type 0
Viable ts = (more : List Token) × (body : List Stmt) × Shape (ts ++ more) body

-- the least token such that no script begins with the tokens up to it; the number of tokens, where the end is that token
pub record IsPlace (ts : List Token) (at : ℕ) : Type 0 where
  pub within : at ≤ length ts
  pub before : Viable (take at ts)
  pub there : at < length ts → Viable (take (suc at) ts) → ⊥
  pub end : (body : List Stmt) → Shape ts body → ⊥
