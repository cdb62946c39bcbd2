-- What the grammar spells is read, with nestings that pass.
use Rattle.std.proofs.Common.{◌≡◌, ℕ, suc, ◌<◌, true, List, [], Option, refl, arith}
use Rattle.js_ast.specs.declared.expression.Expr.{Expr}
use Rattle.js_ast.specs.declared.statement.Stmt.{Stmt}
use Rattle.js_ast.specs.declared.statement.Arm.{Arm}
use Rattle.js_ast.specs.declared.operators.BinaryOp.{BinaryOp}
use Rattle.js_ast.specs.declared.operators.LogicalOp.{LogicalOp}
use Rattle.js_ast.specs.declared.operators.LogicalOp.TheVariants as logic
use Rattle.js_ast.specs.declared.operators.DeclarationKind.{DeclarationKind}
use Rattle.js_ast.specs.declared.parts.Access.{Access}
use Rattle.js_ast.specs.declared.parts.Suffix.{Suffix}
use Rattle.js_ast.specs.declared.parts.Target.{Target}
use Rattle.js_ast.specs.declared.parts.Member.{Member}
use Rattle.js_ast.specs.declared.parts.Declarator.{Declarator}
use Rattle.js_ast.specs.declared.parts.Link.{Link}
use Rattle.js_ast.specs.declared.parts.LoopHead.{LoopHead}
use Rattle.js_ast.specs.declared.parts.Catch.{Catch}
use Rattle.js_grammar.specs.declared.token.Token.{Token}
use Rattle.js_grammar.specs.declared.token.TokenKind.{TokenKind}
use Rattle.js_grammar.specs.declared.token.TokenKind.TheVariants as k
use Rattle.js_grammar.specs.Phrases.{loosest, Tail, Context, outermost, looping, in_body, in_arrow}
use Rattle.js_grammar.specs.Grammar.{IsAssign, assign_conditional, assign_sets, assign_arrow, assign_arrow_block, IsConditional, conditional_short, conditional_both, IsShort, short_or, short_coalesce, IsOrs, ors_none, ors_more, IsAnd, and_all, IsBits, bits_none, bits_more, IsChain, chain_unary, chain_all, IsLinks, links_none, links_more, IsUnary, unary_prefix, unary_step, unary_behind, unary_call, IsCall, call_all, IsFirst, first_primary, first_new, IsAccess, access_property, access_static, access_index, IsSuffixes, suffixes_none, suffixes_access, suffixes_call, IsTarget, target_name, target_access, target_round, IsArguments, arguments_none, arguments_last, arguments_more, IsMember, member_value, member_shorthand, IsMembers, members_none, members_last, members_more, IsPrimary, primary_this, primary_name, primary_null, primary_true, primary_false, primary_number, primary_text, primary_array, primary_object, primary_function, primary_round}
use Rattle.js_grammar.specs.Grammar.{IsBody, body_braces, IsStmts, stmts_none, stmts_more, IsStmt, stmt_inner, stmt_declare, stmt_function, IsDeclarator, declarator_name, declarator_value, IsDeclarators, declarators_last, declarators_more, IsRound, round_assign, IsBelow, below_inner, IsInner, inner_block, inner_nothing, inner_express, inner_if, inner_while, inner_do, inner_for, inner_for_of, inner_break, inner_continue, inner_return, inner_return_value, inner_throw, inner_catch, inner_finally, IsIf, if_alone, if_else, if_chain, IsHead, head_none, head_value, head_declare, IsOptional, optional_none, optional_some, IsCatch, catch_all, catch_name, IsFinally, finally_body, IsOptionalFinally, finally_none, finally_some}
use Rattle.js_reading.specs.declared.frame.Pending.TheVariants as pending
use Rattle.js_reading.specs.declared.frame.Braces.TheVariants as list
use Rattle.js_reading.specs.Frames.{tightness_of}
use Rattle.js_reading.specs.Operands.{level_of}
use Rattle.js_reading.specs.Reading.{start as start_state, IsRead}
use Rattle.js_laws.proofs.WaitingFrames.{grip, room_of}
use Rattle.js_laws.proofs.ReadParts.{AssignReads, ConditionalReads, LevelReads, CallReads, FirstReads, TargetReads, AccessReads, SuffixesReads, ArgumentsReads, MemberReads, MembersReads, BodyReads, StmtsReads, StmtReads, InnerReads, BelowReads, IfReads, RoundReads, DeclaratorReads, DeclaratorsReads, HeadReads, OptionalReads, CatchReads, FinallyReads, OptionalFinallyReads}
use Rattle.js_laws.proofs.Primaries.{this_reads, name_reads, null_reads, true_reads, false_reads, number_reads, text_reads, arguments_none_read, arguments_last_read, arguments_more_read, new_reads, array_reads, object_reads, round_reads, target_round_reads, target_name_reads, property_reads, static_reads, index_reads, no_suffixes, access_suffix, call_suffix, call_reads, target_access_reads, shorthand_reads, member_value_reads, members_none_read, members_last_read, members_more_read}
use Rattle.js_laws.proofs.Chains.{grows, before_binary, before_logical, LinksOn, LinksFrom, links_none_on, links_more_on, links_none_from, links_more_from, chain_all_reads, BitsOn, BitsFrom, bits_none_on, bits_more_on, bits_none_from, bits_more_from, logical_all_reads, prefix_reads, step_reads, behind_reads, unary_call_reads}
use Rattle.js_laws.proofs.Assigns.{conditional_short_reads, conditional_both_reads, assign_conditional_reads, assign_sets_reads, arrow_reads, arrow_block_reads, body_reads, function_reads}
use Rattle.js_laws.proofs.Statements.{stmts_none_read, stmts_more_read, stmt_inner_reads, stmt_function_reads, below_reads, block_reads, nothing_reads, express_reads, round_assign_reads, inner_if_reads, if_alone_reads, if_else_reads, if_chain_reads, break_reads, continue_reads, return_reads, return_value_reads, throw_reads}
use Rattle.js_laws.proofs.Declarations.{declarator_name_reads, declarator_value_reads, declarators_last_read, declarators_more_read, stmt_declare_reads, head_declare_reads}
use Rattle.js_laws.proofs.Loops.{while_reads, do_reads, head_none_reads, head_value_reads, optional_none_reads, optional_some_reads, for_reads, for_of_reads}
use Rattle.js_laws.proofs.Tries.{catch_all_reads, catch_name_reads, finally_body_reads, finally_none_reads, finally_some_reads, try_catch_reads, try_finally_reads}

-- ---- tails of chains

mutual
  unary_grows : (P : ℕ → Type 0) (d : ℕ) (c : Context) (ts : List Token) (e : Expr) (tail : Tail) (rest : List Token) → IsUnary P d c ts e tail rest → grows tail ≡ true
  unary_grows P _ _ _ _ _ _ (unary_prefix d c ts mark o site from e tail rest n h p i) = unary_grows P (suc d) c from e tail rest i
  unary_grows P _ _ _ _ _ _ (unary_step d c ts o site from x rest n h i) = refl
  unary_grows P _ _ _ _ _ _ (unary_behind d c ts x mark o site rest i h) = refl
  unary_grows P _ _ _ _ _ _ (unary_call d c ts e rest i) = refl

  chain_grows : (P : ℕ → Type 0) (l d : ℕ) (c : Context) (ts : List Token) (e : Expr) (tail : Tail) (rest : List Token) → IsChain P l d c ts e tail rest → grows tail ≡ true
  chain_grows P _ _ _ _ _ _ _ (chain_unary d c ts e tail rest i) = unary_grows P d c ts e tail rest i
  chain_grows P _ _ _ _ _ _ _ (chain_all l d c ts a t mid ls tail rest i j) = links_grows P l d c t mid ls tail rest j (chain_grows P l d c ts a t mid i)

  links_grows : (P : ℕ → Type 0) (l d : ℕ) (c : Context) (t : Tail) (ts : List Token) (ls : List (Link BinaryOp Expr)) (tail : Tail) (rest : List Token) → IsLinks P l d c t ts ls tail rest → grows t ≡ true → grows tail ≡ true
  links_grows P _ _ _ _ _ _ _ _ (links_none l d c tail ts) g = g
  links_grows P _ _ _ _ _ _ _ _ (links_more l d c t ts o site from b u mid ls tail rest h lo i j) g = links_grows P l d c u mid ls tail rest j (chain_grows P l d c from b u mid i)

bits_grow : (P : ℕ → Type 0) (o : LogicalOp) (d : ℕ) (c : Context) (t : Tail) (ts : List Token) (ls : List (Link LogicalOp Expr)) (tail : Tail) (rest : List Token) → IsBits P o d c t ts ls tail rest → grows t ≡ true → grows tail ≡ true
bits_grow P _ _ _ _ _ _ _ _ (bits_none o d c tail ts) g = g
bits_grow P _ _ _ _ _ _ _ _ (bits_more o d c t ts site from b u mid ls tail rest h i j) g = bits_grow P o d c u mid ls tail rest j (chain_grows P loosest d c from b u mid i)

and_grows : (P : ℕ → Type 0) (d : ℕ) (c : Context) (ts : List Token) (e : Expr) (tail : Tail) (rest : List Token) → IsAnd P d c ts e tail rest → grows tail ≡ true
and_grows P _ _ _ _ _ _ (and_all d c ts a t mid ls tail rest i j) = bits_grow P logic.And d c t mid ls tail rest j (chain_grows P loosest d c ts a t mid i)

ors_grow : (P : ℕ → Type 0) (d : ℕ) (c : Context) (t : Tail) (ts : List Token) (ls : List (Link LogicalOp Expr)) (tail : Tail) (rest : List Token) → IsOrs P d c t ts ls tail rest → grows t ≡ true → grows tail ≡ true
ors_grow P _ _ _ _ _ _ _ (ors_none d c tail ts) g = g
ors_grow P _ _ _ _ _ _ _ (ors_more d c t ts site from b u mid ls tail rest h i j) g = ors_grow P d c u mid ls tail rest j (and_grows P d c from b u mid i)

short_grows : (P : ℕ → Type 0) (d : ℕ) (c : Context) (ts : List Token) (e : Expr) (tail : Tail) (rest : List Token) → IsShort P d c ts e tail rest → grows tail ≡ true
short_grows P _ _ _ _ _ _ (short_or d c ts a t mid ls tail rest i j) = ors_grow P d c t mid ls tail rest j (and_grows P d c ts a t mid i)
short_grows P _ _ _ _ _ _ (short_coalesce d c ts a t mid ls tail rest i j n) = bits_grow P logic.Coalesce d c t mid ls tail rest j (chain_grows P loosest d c ts a t mid i)

-- ---- what may follow the parts of chains

links_calm : (P : ℕ → Type 0) (l d : ℕ) (c : Context) (t : Tail) (ts : List Token) (ls : List (Link BinaryOp Expr)) (tail : Tail) (rest : List Token) → IsLinks P l d c t ts ls tail rest → l < grip tail rest → l < grip t ts
links_calm P _ _ _ _ _ _ _ _ (links_none l d c tail ts) g = g
links_calm P _ _ _ _ _ _ _ _ (links_more l d c t ts o site from b u mid ls tail rest h lo i j) g = omega (arith, lo, before_binary t h)

least_tightness : (o : LogicalOp) → 8 < tightness_of o
least_tightness logic.And = omega arith
least_tightness logic.Or = omega arith
least_tightness logic.Coalesce = omega arith

least_level : (o : LogicalOp) → 8 < level_of o
least_level logic.Or = omega arith
least_level _ = omega arith

bits_calm : (P : ℕ → Type 0) (o : LogicalOp) (d : ℕ) (c : Context) (t : Tail) (ts : List Token) (ls : List (Link LogicalOp Expr)) (tail : Tail) (rest : List Token) → IsBits P o d c t ts ls tail rest → tightness_of o < grip tail rest → 8 < grip t ts
bits_calm P _ _ _ _ _ _ _ _ (bits_none o d c tail ts) g = omega (arith, least_tightness o)
bits_calm P _ _ _ _ _ _ _ _ (bits_more o d c t ts site from b u mid ls tail rest h i j) g = omega (arith, least_level o, before_logical t h)

ors_calm : (P : ℕ → Type 0) (d : ℕ) (c : Context) (t : Tail) (ts : List Token) (ls : List (Link LogicalOp Expr)) (tail : Tail) (rest : List Token) → IsOrs P d c t ts ls tail rest → 10 < grip tail rest → 9 < grip t ts
ors_calm P _ _ _ _ _ _ _ (ors_none d c tail ts) g = omega arith
ors_calm P _ _ _ _ _ _ _ (ors_more d c t ts site from b u mid ls tail rest h i j) g = omega (arith, before_logical t h)

bits_room : (o : LogicalOp) (start : ℕ) (first : Expr) (links : List (Link LogicalOp Expr)) (site : ℕ) → 8 < room_of (pending.Logical start first links site o)
bits_room logic.And start first links site = omega arith
bits_room logic.Or start first links site = omega arith
bits_room logic.Coalesce start first links site = omega arith

ors_room : (start : ℕ) (first : Expr) (links : List (Link LogicalOp Expr)) (site : ℕ) → 9 < room_of (pending.Logical start first links site logic.Or)
ors_room start first links site = omega arith

-- ---- all of it, by recursion on what is spelt

mutual
  assign_read : (P : ℕ → Type 0) (d : ℕ) (c : Context) (ts : List Token) (e : Expr) (tail : Tail) (rest : List Token) → IsAssign P d c ts e tail rest → AssignReads P d c ts e tail rest
  assign_read P _ _ _ _ _ _ (assign_conditional d c ts e tail rest n i) = assign_conditional_reads P d c ts e tail rest n (conditional_read P (suc d) c ts e tail rest i)
  assign_read P _ _ _ _ _ _ (assign_sets d c ts x mark o site from e tail rest n i h j) = assign_sets_reads P d c ts x mark o site from e tail rest n (target_read P (suc d) c ts x mark i) h (assign_read P (suc d) c from e tail rest j)
  assign_read P _ _ _ _ _ _ (assign_arrow d c ts ns mark site from e tail rest n i b g j) = arrow_reads P d c ts ns mark site from e tail rest n i b g (assign_read P (suc d) (in_arrow c) from e tail rest j)
  assign_read P _ _ _ _ _ _ (assign_arrow_block d c ts ns mark site from body rest n i b j) = arrow_block_reads P d c ts ns mark site from body rest n i b (body_read P (suc d) (in_arrow c) from body rest j)

  conditional_read : (P : ℕ → Type 0) (d : ℕ) (c : Context) (ts : List Token) (e : Expr) (tail : Tail) (rest : List Token) → IsConditional P d c ts e tail rest → ConditionalReads P d c ts e tail rest
  conditional_read P _ _ _ _ _ _ (conditional_short d c ts e tail rest i) = conditional_short_reads P d c ts e tail rest (short_read P d c ts e tail rest i)
  conditional_read P _ _ _ _ _ _ (conditional_both d c ts test t mark site from a u colon at' from' b tail rest i h j h' l) =
      conditional_both_reads P d c ts test t mark site from a u colon at' from' b tail rest (short_read P d c ts test t mark i) (short_grows P d c ts test t mark i) h (assign_read P d c from a u colon j) h' (assign_read P d c from' b tail rest l)

  short_read : (P : ℕ → Type 0) (d : ℕ) (c : Context) (ts : List Token) (e : Expr) (tail : Tail) (rest : List Token) → IsShort P d c ts e tail rest → LevelReads P 10 d c ts e tail rest
  short_read P _ _ _ _ _ _ (short_or d c ts a t mid ls tail rest i j) =
      logical_all_reads P logic.Or 9 d c ts a t mid ls tail rest (omega arith) (and_read P d c ts a t mid i) (ors_calm P d c t mid ls tail rest j) (and_grows P d c ts a t mid i) (ors_from P d c t mid ls tail rest j)
  short_read P _ _ _ _ _ _ (short_coalesce d c ts a t mid ls tail rest i j n) =
      logical_all_reads P logic.Coalesce 8 d c ts a t mid ls tail rest (omega arith) (chain_read P loosest d c ts a t mid i) (bits_calm P logic.Coalesce d c t mid ls tail rest j) (chain_grows P loosest d c ts a t mid i) (bits_from P logic.Coalesce d c t mid ls tail rest j)

  ors_from : (P : ℕ → Type 0) (d : ℕ) (c : Context) (t : Tail) (ts : List Token) (ls : List (Link LogicalOp Expr)) (tail : Tail) (rest : List Token) → IsOrs P d c t ts ls tail rest → BitsFrom P logic.Or d c t ts ls tail rest
  ors_from P _ _ _ _ _ _ _ (ors_none d c tail ts) = bits_none_from P logic.Or d c tail ts
  ors_from P _ _ _ _ _ _ _ (ors_more d c t ts site from b u mid ls tail rest h i j) =
      bits_more_from P logic.Or 9 d c t ts site from b u mid ls tail rest ors_room h (and_read P d c from b u mid i) (ors_calm P d c u mid ls tail rest j) (and_grows P d c from b u mid i) (ors_grow P d c u mid ls tail rest j (and_grows P d c from b u mid i)) (ors_on P d c u mid ls tail rest j)

  ors_on : (P : ℕ → Type 0) (d : ℕ) (c : Context) (t : Tail) (ts : List Token) (ls : List (Link LogicalOp Expr)) (tail : Tail) (rest : List Token) → IsOrs P d c t ts ls tail rest → BitsOn P logic.Or d c t ts ls tail rest
  ors_on P _ _ _ _ _ _ _ (ors_none d c tail ts) = bits_none_on P logic.Or d c tail ts
  ors_on P _ _ _ _ _ _ _ (ors_more d c t ts site from b u mid ls tail rest h i j) =
      bits_more_on P logic.Or 9 d c t ts site from b u mid ls tail rest ors_room h (and_read P d c from b u mid i) (ors_calm P d c u mid ls tail rest j) (and_grows P d c from b u mid i) (ors_on P d c u mid ls tail rest j)

  and_read : (P : ℕ → Type 0) (d : ℕ) (c : Context) (ts : List Token) (e : Expr) (tail : Tail) (rest : List Token) → IsAnd P d c ts e tail rest → LevelReads P 9 d c ts e tail rest
  and_read P _ _ _ _ _ _ (and_all d c ts a t mid ls tail rest i j) =
      logical_all_reads P logic.And 8 d c ts a t mid ls tail rest (omega arith) (chain_read P loosest d c ts a t mid i) (bits_calm P logic.And d c t mid ls tail rest j) (chain_grows P loosest d c ts a t mid i) (bits_from P logic.And d c t mid ls tail rest j)

  bits_from : (P : ℕ → Type 0) (o : LogicalOp) (d : ℕ) (c : Context) (t : Tail) (ts : List Token) (ls : List (Link LogicalOp Expr)) (tail : Tail) (rest : List Token) → IsBits P o d c t ts ls tail rest → BitsFrom P o d c t ts ls tail rest
  bits_from P _ _ _ _ _ _ _ _ (bits_none o d c tail ts) = bits_none_from P o d c tail ts
  bits_from P _ _ _ _ _ _ _ _ (bits_more o d c t ts site from b u mid ls tail rest h i j) =
      bits_more_from P o 8 d c t ts site from b u mid ls tail rest (bits_room o) h (chain_read P loosest d c from b u mid i) (bits_calm P o d c u mid ls tail rest j) (chain_grows P loosest d c from b u mid i) (bits_grow P o d c u mid ls tail rest j (chain_grows P loosest d c from b u mid i)) (bits_on P o d c u mid ls tail rest j)

  bits_on : (P : ℕ → Type 0) (o : LogicalOp) (d : ℕ) (c : Context) (t : Tail) (ts : List Token) (ls : List (Link LogicalOp Expr)) (tail : Tail) (rest : List Token) → IsBits P o d c t ts ls tail rest → BitsOn P o d c t ts ls tail rest
  bits_on P _ _ _ _ _ _ _ _ (bits_none o d c tail ts) = bits_none_on P o d c tail ts
  bits_on P _ _ _ _ _ _ _ _ (bits_more o d c t ts site from b u mid ls tail rest h i j) =
      bits_more_on P o 8 d c t ts site from b u mid ls tail rest (bits_room o) h (chain_read P loosest d c from b u mid i) (bits_calm P o d c u mid ls tail rest j) (chain_grows P loosest d c from b u mid i) (bits_on P o d c u mid ls tail rest j)

  chain_read : (P : ℕ → Type 0) (l d : ℕ) (c : Context) (ts : List Token) (e : Expr) (tail : Tail) (rest : List Token) → IsChain P l d c ts e tail rest → LevelReads P l d c ts e tail rest
  chain_read P _ _ _ _ _ _ _ (chain_unary d c ts e tail rest i) = unary_read P d c ts e tail rest i
  chain_read P _ _ _ _ _ _ _ (chain_all l d c ts a t mid ls tail rest i j) =
      chain_all_reads P l d c ts a t mid ls tail rest (chain_read P l d c ts a t mid i) (links_calm P l d c t mid ls tail rest j) (chain_grows P l d c ts a t mid i) (links_from P l d c t mid ls tail rest j)

  links_from : (P : ℕ → Type 0) (l d : ℕ) (c : Context) (t : Tail) (ts : List Token) (ls : List (Link BinaryOp Expr)) (tail : Tail) (rest : List Token) → IsLinks P l d c t ts ls tail rest → LinksFrom P l d c t ts ls tail rest
  links_from P _ _ _ _ _ _ _ _ (links_none l d c tail ts) = links_none_from P l d c tail ts
  links_from P _ _ _ _ _ _ _ _ (links_more l d c t ts o site from b u mid ls tail rest h lo i j) =
      links_more_from P l d c t ts o site from b u mid ls tail rest h lo (chain_read P l d c from b u mid i) (links_calm P l d c u mid ls tail rest j) (chain_grows P l d c from b u mid i) (links_grows P l d c u mid ls tail rest j (chain_grows P l d c from b u mid i)) (links_on P l d c u mid ls tail rest j)

  links_on : (P : ℕ → Type 0) (l d : ℕ) (c : Context) (t : Tail) (ts : List Token) (ls : List (Link BinaryOp Expr)) (tail : Tail) (rest : List Token) → IsLinks P l d c t ts ls tail rest → LinksOn P l d c t ts ls tail rest
  links_on P _ _ _ _ _ _ _ _ (links_none l d c tail ts) = links_none_on P l d c tail ts
  links_on P _ _ _ _ _ _ _ _ (links_more l d c t ts o site from b u mid ls tail rest h lo i j) =
      links_more_on P l d c t ts o site from b u mid ls tail rest h lo (chain_read P l d c from b u mid i) (links_calm P l d c u mid ls tail rest j) (chain_grows P l d c from b u mid i) (links_on P l d c u mid ls tail rest j)

  unary_read : (P : ℕ → Type 0) (d : ℕ) (c : Context) (ts : List Token) (e : Expr) (tail : Tail) (rest : List Token) → IsUnary P d c ts e tail rest → LevelReads P 0 d c ts e tail rest
  unary_read P _ _ _ _ _ _ (unary_prefix d c ts mark o site from e tail rest n h p i) = prefix_reads P d c ts mark o site from e tail rest n h p (unary_read P (suc d) c from e tail rest i) (unary_grows P (suc d) c from e tail rest i)
  unary_read P _ _ _ _ _ _ (unary_step d c ts o site from x rest n h i) = step_reads P d c ts o site from x rest n h (target_read P (suc d) c from x rest i)
  unary_read P _ _ _ _ _ _ (unary_behind d c ts x mark o site rest i h) = behind_reads P d c ts x mark o site rest (target_read P d c ts x mark i) h
  unary_read P _ _ _ _ _ _ (unary_call d c ts e rest i) = unary_call_reads P d c ts e rest (call_read P d c ts e rest i)

  call_read : (P : ℕ → Type 0) (d : ℕ) (c : Context) (ts : List Token) (e : Expr) (rest : List Token) → IsCall P d c ts e rest → CallReads P d c ts e rest
  call_read P _ _ _ _ _ (call_all d c ts first mid ss rest i j) = call_reads P d c ts first mid ss rest (first_read P d c ts first mid i) (suffixes_read P d c mid ss rest j)

  first_read : (P : ℕ → Type 0) (d : ℕ) (c : Context) (ts : List Token) (e : Expr) (rest : List Token) → IsFirst P d c ts e rest → FirstReads P d c ts e rest
  first_read P _ _ _ _ _ (first_primary d c ts e rest i) = primary_read P d c ts e rest i
  first_read P _ _ _ _ _ (first_new d c ts site from n opens at' inside es rest h i j l) = new_reads P d c ts site from n opens at' inside es rest h i j (arguments_read P k.CloseRound d c inside es rest l)

  access_read : (P : ℕ → Type 0) (d : ℕ) (c : Context) (ts : List Token) (a : Access Expr) (rest : List Token) → IsAccess P d c ts a rest → AccessReads P d c ts a rest
  access_read P _ _ _ _ _ (access_property d c ts site from name at' rest h i) = property_reads P d c ts site from name at' rest h i
  access_read P _ _ _ _ _ (access_static d c ts site inside e rest n h i) = static_reads P d c ts site inside e rest n h i
  access_read P _ _ _ _ _ (access_index d c ts site inside e t close at' rest h o i j) = index_reads P d c ts site inside e t close at' rest h o (assign_read P d c inside e t close i) j

  suffixes_read : (P : ℕ → Type 0) (d : ℕ) (c : Context) (ts : List Token) (ss : List (Suffix Expr)) (rest : List Token) → IsSuffixes P d c ts ss rest → SuffixesReads P d c ts ss rest
  suffixes_read P _ _ _ _ _ (suffixes_none d c ts) = no_suffixes P d c ts
  suffixes_read P _ _ _ _ _ (suffixes_access d c ts a mid ss rest i j) = access_suffix P d c ts a mid ss rest (access_read P d c ts a mid i) (suffixes_read P d c mid ss rest j)
  suffixes_read P _ _ _ _ _ (suffixes_call d c ts site inside es mid ss rest h i j) = call_suffix P d c ts site inside es mid ss rest h (arguments_read P k.CloseRound d c inside es mid i) (suffixes_read P d c mid ss rest j)

  target_read : (P : ℕ → Type 0) (d : ℕ) (c : Context) (ts : List Token) (x : Target Expr) (rest : List Token) → IsTarget P d c ts x rest → TargetReads P d c ts x rest
  target_read P _ _ _ _ _ (target_name d c ts n rest h) = target_name_reads P d c ts n rest h
  target_read P _ _ _ _ _ (target_access d c ts base mid a rest i j) = target_access_reads P d c ts base mid a rest (call_read P d c ts base mid i) (access_read P d c mid a rest j)
  target_read P _ _ _ _ _ (target_round d c ts opens inside x close at' rest h n i j) = target_round_reads P d c ts opens inside x close at' rest h n (target_read P (suc d) c inside x close i) j

  arguments_read : (P : ℕ → Type 0) (close : TokenKind) (d : ℕ) (c : Context) (ts : List Token) (es : List Expr) (rest : List Token) → IsArguments P close d c ts es rest → ArgumentsReads P close d c ts es rest
  arguments_read P _ _ _ _ _ _ (arguments_none close d c ts at' rest h) = arguments_none_read P close d c ts at' rest h
  arguments_read P _ _ _ _ _ _ (arguments_last close d c ts e t end at' rest i h) = arguments_last_read P close d c ts e t end at' rest (assign_read P d c ts e t end i) h
  arguments_read P _ _ _ _ _ _ (arguments_more close d c ts e t comma at' from es rest i h j) = arguments_more_read P close d c ts e t comma at' from es rest (assign_read P d c ts e t comma i) h (arguments_read P close d c from es rest j)

  member_read : (P : ℕ → Type 0) (d : ℕ) (c : Context) (ts : List Token) (m : Member Expr) (rest : List Token) → IsMember P d c ts m rest → MemberReads P d c ts m rest
  member_read P _ _ _ _ _ (member_value d c ts name site colon at' from e t rest h i j) = member_value_reads P d c ts name site colon at' from e t rest h i (assign_read P d c from e t rest j)
  member_read P _ _ _ _ _ (member_shorthand d c ts n rest h p) = shorthand_reads P d c ts n rest h p

  members_read : (P : ℕ → Type 0) (d : ℕ) (c : Context) (ts : List Token) (ms : List (Member Expr)) (rest : List Token) → IsMembers P d c ts ms rest → MembersReads P d c ts ms rest
  members_read P _ _ _ _ _ (members_none d c ts at' rest h) = members_none_read P d c ts at' rest h
  members_read P _ _ _ _ _ (members_last d c ts m end at' rest i h) = members_last_read P d c ts m end at' rest (member_read P d c ts m end i) h
  members_read P _ _ _ _ _ (members_more d c ts m comma at' from ms rest i h j) = members_more_read P d c ts m comma at' from ms rest (member_read P d c ts m comma i) h (members_read P d c from ms rest j)

  primary_read : (P : ℕ → Type 0) (d : ℕ) (c : Context) (ts : List Token) (e : Expr) (rest : List Token) → IsPrimary P d c ts e rest → FirstReads P d c ts e rest
  primary_read P _ _ _ _ _ (primary_this d c ts site rest t h) = this_reads P d c ts site rest t h
  primary_read P _ _ _ _ _ (primary_name d c ts n rest h) = name_reads P d c ts n rest h
  primary_read P _ _ _ _ _ (primary_null d c ts site rest h) = null_reads P d c ts site rest h
  primary_read P _ _ _ _ _ (primary_true d c ts site rest h) = true_reads P d c ts site rest h
  primary_read P _ _ _ _ _ (primary_false d c ts site rest h) = false_reads P d c ts site rest h
  primary_read P _ _ _ _ _ (primary_number d c ts n site rest h) = number_reads P d c ts n site rest h
  primary_read P _ _ _ _ _ (primary_text d c ts text site rest h) = text_reads P d c ts text site rest h
  primary_read P _ _ _ _ _ (primary_array d c ts site inside es rest h i) = array_reads P d c ts site inside es rest h (arguments_read P k.CloseSquare d c inside es rest i)
  primary_read P _ _ _ _ _ (primary_object d c ts site inside ms rest h i) = object_reads P d c ts site inside ms rest h (members_read P d c inside ms rest i)
  primary_read P _ _ _ _ _ (primary_function d c ts site from name mid ns opens body rest h i j b) = function_reads P d c ts site from name mid ns opens body rest h i j (body_read P d in_body opens body rest b)
  primary_read P _ _ _ _ _ (primary_round d c ts opens inside e t close at' rest h i j) = round_reads P d c ts opens inside e t close at' rest h (assign_read P d c inside e t close i) j

  body_read : (P : ℕ → Type 0) (d : ℕ) (c : Context) (ts : List Token) (body : List Stmt) (rest : List Token) → IsBody P d c ts body rest → BodyReads P d c ts body rest
  body_read P _ _ _ _ _ (body_braces d c ts opens inside body close at' rest h i j) = body_reads P d c ts opens inside body close at' rest h (stmts_read P d c inside body close i) j

  stmts_read : (P : ℕ → Type 0) (d : ℕ) (c : Context) (ts : List Token) (ss : List Stmt) (rest : List Token) → IsStmts P d c ts ss rest → StmtsReads P d c ts ss rest
  stmts_read P _ _ _ _ _ (stmts_none d c ts) = stmts_none_read P d c ts
  stmts_read P _ _ _ _ _ (stmts_more d c ts s mid ss rest n i j) = stmts_more_read P d c ts s mid ss rest n (stmt_read P (suc d) c ts s mid i) (stmts_read P d c mid ss rest j)

  stmt_read : (P : ℕ → Type 0) (d : ℕ) (c : Context) (ts : List Token) (s : Stmt) (rest : List Token) → IsStmt P d c ts s rest → StmtReads P d c ts s rest
  stmt_read P _ _ _ _ _ (stmt_inner d c ts s rest i) = stmt_inner_reads P d c ts s rest (inner_read P d c ts s rest i)
  stmt_read P _ _ _ _ _ (stmt_declare d c ts o site from xs t end rest h i j) = stmt_declare_reads P d c ts o site from xs t end rest h (declarators_read P o d c from xs t end i) j
  stmt_read P _ _ _ _ _ (stmt_function d c ts site from n mid ns opens body rest h i j b) = stmt_function_reads P d c ts site from n mid ns opens body rest h i j (body_read P d in_body opens body rest b)

  declarator_read : (P : ℕ → Type 0) (o : DeclarationKind) (d : ℕ) (c : Context) (ts : List Token) (x : Declarator Expr) (t : Tail) (rest : List Token) → IsDeclarator P o d c ts x t rest → DeclaratorReads P o d c ts x t rest
  declarator_read P _ _ _ _ _ _ _ (declarator_name d c ts n rest h) = declarator_name_reads P d c ts n rest h
  declarator_read P _ _ _ _ _ _ _ (declarator_value o d c ts n mark at' from e t rest h i j) = declarator_value_reads P o d c ts n mark at' from e t rest h i (assign_read P d c from e t rest j)

  declarators_read : (P : ℕ → Type 0) (o : DeclarationKind) (d : ℕ) (c : Context) (ts : List Token) (xs : List (Declarator Expr)) (t : Tail) (rest : List Token) → IsDeclarators P o d c ts xs t rest → DeclaratorsReads P o d c ts xs t rest
  declarators_read P _ _ _ _ _ _ _ (declarators_last o d c ts x t rest i) = declarators_last_read P o d c ts x t rest (declarator_read P o d c ts x t rest i)
  declarators_read P _ _ _ _ _ _ _ (declarators_more o d c ts x u comma at' from xs t rest i h j) = declarators_more_read P o d c ts x u comma at' from xs t rest (declarator_read P o d c ts x u comma i) h (declarators_read P o d c from xs t rest j)

  round_read : (P : ℕ → Type 0) (d : ℕ) (c : Context) (ts : List Token) (e : Expr) (rest : List Token) → IsRound P d c ts e rest → RoundReads P d c ts e rest
  round_read P _ _ _ _ _ (round_assign d c ts opens inside e t close at' rest h i j) = round_assign_reads P d c ts opens inside e t close at' rest h (assign_read P d c inside e t close i) j

  below_read : (P : ℕ → Type 0) (d : ℕ) (c : Context) (ts : List Token) (s : Stmt) (rest : List Token) → IsBelow P d c ts s rest → BelowReads P d c ts s rest
  below_read P _ _ _ _ _ (below_inner d c ts s rest n i) = below_reads P d c ts s rest n (inner_read P (suc d) c ts s rest i)

  inner_read : (P : ℕ → Type 0) (d : ℕ) (c : Context) (ts : List Token) (s : Stmt) (rest : List Token) → IsInner P d c ts s rest → InnerReads P d c ts s rest
  inner_read P _ _ _ _ _ (inner_block d c ts body rest i) = block_reads P d c ts body rest (body_read P d c ts body rest i)
  inner_read P _ _ _ _ _ (inner_nothing d c ts site rest h) = nothing_reads P d c ts site rest h
  inner_read P _ _ _ _ _ (inner_express d c ts e t end rest g h i j) = express_reads P d c ts e t end rest g h (assign_read P d c ts e t end i) j
  inner_read P _ _ _ _ _ (inner_if d c ts arms last rest i) = inner_if_reads P d c ts arms last rest (if_read P d c ts arms last rest i)
  inner_read P _ _ _ _ _ (inner_while d c ts site from e mid s rest h i j) = while_reads P d c ts site from e mid s rest h (round_read P d c from e mid i) (below_read P d (looping c) mid s rest j)
  inner_read P _ _ _ _ _ (inner_do d c ts site from s mid test_site test e end rest h i h' j l) = do_reads P d c ts site from s mid test_site test e end rest h (below_read P d (looping c) from s mid i) h' (round_read P d c test e end j) l
  inner_read P _ _ _ _ _ (inner_for d c ts site from opens inside first mid at' test e second at'' update u close at''' under s rest h h1 i h2 j h3 l h4 w) =
      for_reads P d c ts site from opens inside first mid at' test e second at'' update u close at''' under s rest h h1 (head_read P d c inside first mid i) h2 (optional_read P d c test e second j) h3 (optional_read P d c update u close l) h4 (below_read P d (looping c) under s rest w)
  inner_read P _ _ _ _ _ (inner_for_of d c ts site from opens inside o at' name n mark of' at'' items e t close at''' under s rest h h1 h2 h3 g h4 g' i h5 w) =
      for_of_reads P d c ts site from opens inside o at' name n mark of' at'' items e t close at''' under s rest h h1 h2 h3 g h4 g' (assign_read P d c items e t close i) h5 (below_read P d (looping c) under s rest w)
  inner_read P _ _ _ _ _ (inner_break d c ts site end rest l h i) = break_reads P d c ts site end rest l h i
  inner_read P _ _ _ _ _ (inner_continue d c ts site end rest l h i) = continue_reads P d c ts site end rest l h i
  inner_read P _ _ _ _ _ (inner_return d c ts site end rest l h i) = return_reads P d c ts site end rest l h i
  inner_read P _ _ _ _ _ (inner_return_value d c ts site from e t end rest l h g i j) = return_value_reads P d c ts site from e t end rest l h g (assign_read P d c from e t end i) j
  inner_read P _ _ _ _ _ (inner_throw d c ts site from e t end rest h g i j) = throw_reads P d c ts site from e t end rest h g (assign_read P d c from e t end i) j
  inner_read P _ _ _ _ _ (inner_catch d c ts site from body mid h behind last rest w i j l) = try_catch_reads P d c ts site from body mid h behind last rest w (body_read P d c from body mid i) (catch_read P d c mid h behind j) (optional_finally_read P d c behind last rest l)
  inner_read P _ _ _ _ _ (inner_finally d c ts site from body mid last rest w i j) = try_finally_reads P d c ts site from body mid last rest w (body_read P d c from body mid i) (finally_read P d c mid last rest j)

  if_read : (P : ℕ → Type 0) (d : ℕ) (c : Context) (ts : List Token) (arms : List Arm) (last : Option Stmt) (rest : List Token) → IsIf P d c ts arms last rest → IfReads P d c ts arms last rest
  if_read P _ _ _ _ _ _ (if_alone d c ts site from e mid s rest h i j g) = if_alone_reads P d c ts site from e mid s rest h (round_read P d c from e mid i) (below_read P d c mid s rest j) g
  if_read P _ _ _ _ _ _ (if_else d c ts site from e mid s mark at' other b rest h i j h' g l) = if_else_reads P d c ts site from e mid s mark at' other b rest h (round_read P d c from e mid i) (below_read P d c mid s mark j) h' g (below_read P d c other b rest l)
  if_read P _ _ _ _ _ _ (if_chain d c ts site from e mid s mark at' other arms last rest h i j h' n l) = if_chain_reads P d c ts site from e mid s mark at' other arms last rest h (round_read P d c from e mid i) (below_read P d c mid s mark j) h' n (if_read P (suc d) c other arms last rest l)

  head_read : (P : ℕ → Type 0) (d : ℕ) (c : Context) (ts : List Token) (h : LoopHead Expr) (rest : List Token) → IsHead P d c ts h rest → HeadReads P d c ts h rest
  head_read P _ _ _ _ _ (head_none d c ts) = head_none_reads P d c ts
  head_read P _ _ _ _ _ (head_value d c ts e t rest i) = head_value_reads P d c ts e t rest (assign_read P d c ts e t rest i)
  head_read P _ _ _ _ _ (head_declare d c ts o site from xs t rest h i f) = head_declare_reads P d c ts o site from xs t rest h (declarators_read P o d c from xs t rest i) f

  optional_read : (P : ℕ → Type 0) (d : ℕ) (c : Context) (ts : List Token) (e : Option Expr) (rest : List Token) → IsOptional P d c ts e rest → OptionalReads P d c ts e rest
  optional_read P _ _ _ _ _ (optional_none d c ts) = optional_none_reads P d c ts
  optional_read P _ _ _ _ _ (optional_some d c ts e t rest i) = optional_some_reads P d c ts e t rest (assign_read P d c ts e t rest i)

  catch_read : (P : ℕ → Type 0) (d : ℕ) (c : Context) (ts : List Token) (h : Catch (List Stmt)) (rest : List Token) → IsCatch P d c ts h rest → CatchReads P d c ts h rest
  catch_read P _ _ _ _ _ (catch_all d c ts at' from body rest h i) = catch_all_reads P d c ts at' from body rest h (body_read P d c from body rest i)
  catch_read P _ _ _ _ _ (catch_name d c ts at' from opens inside n close at'' block body rest h h1 h2 h3 i) = catch_name_reads P d c ts at' from opens inside n close at'' block body rest h h1 h2 h3 (body_read P d c block body rest i)

  finally_read : (P : ℕ → Type 0) (d : ℕ) (c : Context) (ts : List Token) (last : List Stmt) (rest : List Token) → IsFinally P d c ts last rest → FinallyReads P d c ts last rest
  finally_read P _ _ _ _ _ (finally_body d c ts at' from body rest h i) = finally_body_reads P d c ts at' from body rest h (body_read P d c from body rest i)

  optional_finally_read : (P : ℕ → Type 0) (d : ℕ) (c : Context) (ts : List Token) (last : Option (List Stmt)) (rest : List Token) → IsOptionalFinally P d c ts last rest → OptionalFinallyReads P d c ts last rest
  optional_finally_read P _ _ _ _ _ (finally_none d c ts) = finally_none_reads P d c ts
  optional_finally_read P _ _ _ _ _ (finally_some d c ts body rest i) = finally_some_reads P d c ts body rest (finally_read P d c ts body rest i)

-- ---- whole scripts

pub complete : (P : ℕ → Type 0) (ts : List Token) (body : List Stmt) → IsStmts P 0 outermost ts body [] → IsRead P ts start_state body
complete P ts body h = (stmts_read P 0 outermost ts body [] h list.Script [] [] refl refl).reads body refl
