-- What the grammar spells over tokens whose places rise keeps exits apart, by recursion on what is spelt.
use Rattle.std.proofs.Common.{ℕ, suc, inl, inr, true, false, List, [], map, Option, Some, None, option_map, subst, arith}
use Rattle.js_ast.specs.declared.expression.Expr.{Expr}
use Rattle.js_ast.specs.declared.statement.Stmt.{Stmt}
use Rattle.js_ast.specs.declared.statement.Arm.{Arm}
use Rattle.js_ast.specs.declared.operators.BinaryOp.{BinaryOp}
use Rattle.js_ast.specs.declared.operators.LogicalOp.{LogicalOp}
use Rattle.js_ast.specs.declared.operators.LogicalOp.TheVariants as logic
use Rattle.js_ast.specs.declared.operators.DeclarationKind.{DeclarationKind}
use Rattle.js_ast.specs.declared.parts.Access.{Access}
use Rattle.js_ast.specs.declared.parts.Suffix.{Suffix}
use Rattle.js_ast.specs.declared.parts.Target.{Target}
use Rattle.js_ast.specs.declared.parts.Member.{Member}
use Rattle.js_ast.specs.declared.parts.Declarator.{Declarator}
use Rattle.js_ast.specs.declared.parts.Link.{Link}
use Rattle.js_ast.specs.declared.parts.LoopHead.{LoopHead}
use Rattle.js_ast.specs.declared.parts.Catch.{Catch}
use Rattle.js_grammar.specs.declared.token.Token.{Token}
use Rattle.js_grammar.specs.declared.token.TokenKind.{TokenKind}
use Rattle.js_grammar.specs.declared.token.TokenKind.TheVariants as k
use Rattle.js_grammar.specs.declared.token.Word.TheVariants as word
use Rattle.js_grammar.specs.Phrases.{start_of, loosest, Tail, no_expression, Context, looping, in_body, in_arrow}
use Rattle.js_grammar.specs.Grammar.{IsAssign, assign_conditional, assign_sets, assign_arrow, assign_arrow_block, IsConditional, conditional_short, conditional_both, IsShort, short_or, short_coalesce, IsOrs, ors_none, ors_more, IsAnd, and_all, IsBits, bits_none, bits_more, IsChain, chain_unary, chain_all, IsLinks, links_none, links_more, IsUnary, unary_prefix, unary_step, unary_behind, unary_call, IsCall, call_all, IsFirst, first_primary, first_new, IsAccess, access_property, access_static, access_index, IsSuffixes, suffixes_none, suffixes_access, suffixes_call, IsTarget, target_name, target_access, target_round, IsArguments, arguments_none, arguments_last, arguments_more, IsMember, member_value, member_shorthand, IsMembers, members_none, members_last, members_more, IsPrimary, primary_this, primary_name, primary_null, primary_true, primary_false, primary_number, primary_text, primary_array, primary_object, primary_function, primary_round}
use Rattle.js_grammar.specs.Grammar.{IsBody, body_braces, IsStmts, stmts_none, stmts_more, IsStmt, stmt_inner, stmt_declare, stmt_function, IsDeclarator, declarator_name, declarator_value, IsDeclarators, declarators_last, declarators_more, IsRound, round_assign, IsBelow, below_inner, IsInner, inner_block, inner_nothing, inner_express, inner_if, inner_while, inner_do, inner_for, inner_for_of, inner_break, inner_continue, inner_return, inner_return_value, inner_throw, inner_catch, inner_finally, IsIf, if_alone, if_else, if_chain, IsHead, head_none, head_value, head_declare, IsOptional, optional_none, optional_some, IsCatch, catch_all, catch_name, IsFinally, finally_body, IsOptionalFinally, finally_none, finally_some}
use Rattle.js_meaning.specs.Meaning.{meaning_of, expr, stmts}
use Rattle.js_meaning.proofs.Opens.{with_expr}
use Rattle.js_meaning.proofs.Known.{member_with, target_with}
use Rattle.js_meaning.proofs.KnownStatements.{declarator_with}
use Rattle.js_ends.specs.Places.{place, AreRising}
use Rattle.js_ends.proofs.Fresh.{limit, SpeltStatements, SpeltExpression}
use Rattle.js_ends.proofs.Lists.{Part, part_wider}
use Rattle.js_ends.proofs.Aims.{TargetIn}
use Rattle.js_ends.proofs.Blocks.{doing_wider, Doings}
use Rattle.js_ends.proofs.Rounds.{declared_within}
use Rattle.js_ends.proofs.Expressions.{name_part, number_part, null_part, true_part, false_part, this_part, text_part, array_part, object_part, function_part, arrow_part, arrow_block_part, new_part, call_part, binary_part, logical_part, unary_part, conditional_part, assign_layer, step_layer}
use Rattle.js_ends.proofs.Statements.{nothing_in, break_in, continue_in, block_with, block_in, declare_in, function_in, express_in, return_in, return_value_in, throw_in, arm_more, no_else, last_else, if_in, while_in, do_in, for_in, for_of_in, try_in}
use Rattle.js_ends.proofs.Places.{Between, begun, beside, worded, named, spelled, parameters_leave, arrow_leaves, optional_name, declares_pass, key_pass, end_pass, do_end_pass}
use Rattle.js_ends.proofs.Wider.{each_lower, members_lower, declarators_lower, option_lower, target_wider, doings_wider, stmt_wider, no_stmts, more_stmts}
use Rattle.js_ends.proofs.Phrases.{ExprIn, LinksOf, AccessOf, SuffixesOf, TargetOf, EachOf, MemberOf, MembersOf, BodyOf, StmtsOf, StmtOf, DeclaratorOf, DeclaratorsOf, IfOf, HeadOf, OptionOf, CatchOf, FinallyOf, shorthand_part, static_key, word_value, name_in}

-- ---- all of it, by recursion on what is spelt

-- what a function does is kept as it was spelt
kept_expression : (z d : ℕ) (c : Context) (ts : List Token) (x : Expr) (tail : Tail) (rest : List Token) →
    IsAssign limit d c ts x tail rest → AreRising z ts → SpeltExpression x
kept_expression z d c ts x tail rest i r =
    record { end = z; depth = d; context = c; tokens = ts; tail = tail; rest = rest; rising = r; spelt = i }

kept_statements : (z d : ℕ) (c : Context) (ts : List Token) (ss : List Stmt) (rest : List Token) →
    IsStmts limit d c ts ss rest → AreRising z ts → SpeltStatements ss
kept_statements z d c ts ss rest i r =
    record { end = z; depth = d; context = c; tokens = ts; rest = rest; rising = r; spelt = i }

mutual
  assign_at : (z d : ℕ) (c : Context) (ts : List Token) (x : Expr) (tail : Tail) (rest : List Token) → IsAssign limit d c ts x tail rest → AreRising z ts → Between z ts rest (ExprIn x)
  assign_at z _ _ _ _ _ _ (assign_conditional d c ts x tail rest n i) r = conditional_at z (suc d) c ts x tail rest i r
  assign_at z _ _ _ _ _ _ (assign_sets d c ts t mark o site from x tail rest n i h j) r =
      let a = target_at z (suc d) c ts t mark i r in
      let m = begun z mark (k.Assign o) site from h a.rising in
      let v = assign_at z (suc d) c from x tail rest j m.rising in
      record { rising = v.rising; le = omega (arith, a.le, m.is, m.less, v.le); found = assign_layer (place z ts) site (place z rest) (start_of ts) o t x (subst (λ n. TargetIn meaning_of (place z ts) n (target_with t)) m.is a.found) (part_wider (suc site) (place z rest) (omega (arith, m.less)) (omega arith) v.found) }
  assign_at z _ _ _ _ _ _ (assign_arrow d c ts ns mark site from x tail rest n i b g j) r =
      let a = arrow_leaves limit z (suc d) ts ns mark i r in
      let m = beside z mark k.Arrow site from b a.rising in
      let v = assign_at z (suc d) (in_arrow c) from x tail rest j m.rising in
      record { rising = v.rising; le = omega (arith, a.less, m.is, m.less, v.le); found = arrow_part (place z ts) (place z rest) (start_of ts) ns x (omega (arith, a.first)) (omega (arith, a.first, a.less, m.is, m.less, v.le)) (kept_expression z (suc d) (in_arrow c) from x tail rest j m.rising) }
  assign_at z _ _ _ _ _ _ (assign_arrow_block d c ts ns mark site from body rest n i b j) r =
      let a = arrow_leaves limit z (suc d) ts ns mark i r in
      let m = beside z mark k.Arrow site from b a.rising in
      let v = body_at z (suc d) (in_arrow c) from body rest j m.rising in
      record { rising = v.rising; le = omega (arith, a.less, m.is, m.less, v.le); found = arrow_block_part (place z ts) (place z rest) (start_of ts) ns body (omega (arith, a.first)) (omega (arith, a.first, a.less, m.is, m.less, v.le)) v.found.1 }

  conditional_at : (z d : ℕ) (c : Context) (ts : List Token) (x : Expr) (tail : Tail) (rest : List Token) → IsConditional limit d c ts x tail rest → AreRising z ts → Between z ts rest (ExprIn x)
  conditional_at z _ _ _ _ _ _ (conditional_short d c ts x tail rest i) r = short_at z d c ts x tail rest i r
  conditional_at z _ _ _ _ _ _ (conditional_both d c ts test t mark site from a u colon at from' b tail rest i h j h' l) r =
      let p = short_at z d c ts test t mark i r in
      let m = begun z mark k.Question site from h p.rising in
      let q = assign_at z d c from a u colon j m.rising in
      let n = begun z colon k.Colon at from' h' q.rising in
      let v = assign_at z d c from' b tail rest l n.rising in
      record { rising = v.rising; le = omega (arith, p.le, m.is, m.less, q.le, n.is, n.less, v.le); found = conditional_part (place z ts) (place z mark) (place z colon) (place z rest) (start_of ts) site test a b p.found (part_wider (place z mark) (place z colon) (omega (arith, m.is, m.less)) (omega arith) q.found) (part_wider (place z colon) (place z rest) (omega (arith, n.is, n.less)) (omega arith) v.found) }

  short_at : (z d : ℕ) (c : Context) (ts : List Token) (x : Expr) (tail : Tail) (rest : List Token) → IsShort limit d c ts x tail rest → AreRising z ts → Between z ts rest (ExprIn x)
  short_at z _ _ _ _ _ _ (short_or d c ts a t at ls tail rest i j) r =
      let p = and_at z d c ts a t at i r in
      let q = ors_at z d c t at ls tail rest j p.rising in
      record { rising = q.rising; le = omega (arith, p.le, q.le); found = logical_part (place z ts) (place z at) (place z rest) a ls p.found q.found }
  short_at z _ _ _ _ _ _ (short_coalesce d c ts a t at ls tail rest i j n) r =
      let p = chain_at z loosest d c ts a t at i r in
      let q = bits_at z logic.Coalesce d c t at ls tail rest j p.rising in
      record { rising = q.rising; le = omega (arith, p.le, q.le); found = logical_part (place z ts) (place z at) (place z rest) a ls p.found q.found }

  ors_at : (z d : ℕ) (c : Context) (t : Tail) (ts : List Token) (ls : List (Link LogicalOp Expr)) (tail : Tail) (rest : List Token) → IsOrs limit d c t ts ls tail rest → AreRising z ts → Between z ts rest (LinksOf ls)
  ors_at z _ _ _ _ _ _ _ (ors_none d c tail ts) r = record { rising = r; le = omega arith; found = omega arith }
  ors_at z _ _ _ _ _ _ _ (ors_more d c t ts site from b u at ls tail rest h i j) r =
      let m = begun z ts (k.Logical logic.Or) site from h r in
      let p = and_at z d c from b u at i m.rising in
      let q = ors_at z d c u at ls tail rest j p.rising in
      record { rising = q.rising; le = omega (arith, m.is, m.less, p.le, q.le); found = (place z at, omega (arith, m.is), part_wider (suc site) (place z at) (omega (arith, m.less)) (omega arith) p.found, q.found) }

  and_at : (z d : ℕ) (c : Context) (ts : List Token) (x : Expr) (tail : Tail) (rest : List Token) → IsAnd limit d c ts x tail rest → AreRising z ts → Between z ts rest (ExprIn x)
  and_at z _ _ _ _ _ _ (and_all d c ts a t at ls tail rest i j) r =
      let p = chain_at z loosest d c ts a t at i r in
      let q = bits_at z logic.And d c t at ls tail rest j p.rising in
      record { rising = q.rising; le = omega (arith, p.le, q.le); found = logical_part (place z ts) (place z at) (place z rest) a ls p.found q.found }

  bits_at : (z : ℕ) (o : LogicalOp) (d : ℕ) (c : Context) (t : Tail) (ts : List Token) (ls : List (Link LogicalOp Expr)) (tail : Tail) (rest : List Token) → IsBits limit o d c t ts ls tail rest → AreRising z ts → Between z ts rest (LinksOf ls)
  bits_at z _ _ _ _ _ _ _ _ (bits_none o d c tail ts) r = record { rising = r; le = omega arith; found = omega arith }
  bits_at z _ _ _ _ _ _ _ _ (bits_more o d c t ts site from b u at ls tail rest h i j) r =
      let m = begun z ts (k.Logical o) site from h r in
      let p = chain_at z loosest d c from b u at i m.rising in
      let q = bits_at z o d c u at ls tail rest j p.rising in
      record { rising = q.rising; le = omega (arith, m.is, m.less, p.le, q.le); found = (place z at, omega (arith, m.is), part_wider (suc site) (place z at) (omega (arith, m.less)) (omega arith) p.found, q.found) }

  chain_at : (z l d : ℕ) (c : Context) (ts : List Token) (x : Expr) (tail : Tail) (rest : List Token) → IsChain limit l d c ts x tail rest → AreRising z ts → Between z ts rest (ExprIn x)
  chain_at z _ _ _ _ _ _ _ (chain_unary d c ts x tail rest i) r = unary_at z d c ts x tail rest i r
  chain_at z _ _ _ _ _ _ _ (chain_all l d c ts a t at ls tail rest i j) r =
      let p = chain_at z l d c ts a t at i r in
      let q = links_at z l d c t at ls tail rest j p.rising in
      record { rising = q.rising; le = omega (arith, p.le, q.le); found = binary_part (place z ts) (place z at) (place z rest) a ls p.found q.found }

  links_at : (z l d : ℕ) (c : Context) (t : Tail) (ts : List Token) (ls : List (Link BinaryOp Expr)) (tail : Tail) (rest : List Token) → IsLinks limit l d c t ts ls tail rest → AreRising z ts → Between z ts rest (LinksOf ls)
  links_at z _ _ _ _ _ _ _ _ (links_none l d c tail ts) r = record { rising = r; le = omega arith; found = omega arith }
  links_at z _ _ _ _ _ _ _ _ (links_more l d c t ts o site from b u at ls tail rest h e i j) r =
      let m = begun z ts (k.Binary o) site from h r in
      let p = chain_at z l d c from b u at i m.rising in
      let q = links_at z l d c u at ls tail rest j p.rising in
      record { rising = q.rising; le = omega (arith, m.is, m.less, p.le, q.le); found = (place z at, omega (arith, m.is), part_wider (suc site) (place z at) (omega (arith, m.less)) (omega arith) p.found, q.found) }

  unary_at : (z d : ℕ) (c : Context) (ts : List Token) (x : Expr) (tail : Tail) (rest : List Token) → IsUnary limit d c ts x tail rest → AreRising z ts → Between z ts rest (ExprIn x)
  unary_at z _ _ _ _ _ _ (unary_prefix d c ts mark o site from x tail rest n h p i) r =
      let m = begun z ts mark site from h r in
      let v = unary_at z (suc d) c from x tail rest i m.rising in
      record { rising = v.rising; le = omega (arith, m.is, m.less, v.le); found = unary_part (place z ts) (place z rest) site o x (omega (arith, m.is)) (part_wider (suc site) (place z rest) (omega (arith, m.less)) (omega arith) v.found) }
  unary_at z _ _ _ _ _ _ (unary_step d c ts o site from t rest n h i) r =
      let m = begun z ts (k.Step o) site from h r in
      let v = target_at z (suc d) c from t rest i m.rising in
      record { rising = v.rising; le = omega (arith, m.is, m.less, v.le); found = step_layer (place z from) (place z rest) (place z ts) (place z rest) site site o true t v.found (omega (arith, m.is, m.less)) (omega arith) (omega (arith, m.is)) (omega (arith, m.less, v.le)) (inl m.less) }
  unary_at z _ _ _ _ _ _ (unary_behind d c ts t mark o site rest i h) r =
      let v = target_at z d c ts t mark i r in
      let m = beside z mark (k.Step o) site rest h v.rising in
      record { rising = m.rising; le = omega (arith, m.is, m.less, v.le); found = step_layer (place z ts) (place z mark) (place z ts) (place z rest) (start_of ts) site o false t v.found (omega arith) (omega (arith, m.is, m.less)) (omega (arith, m.is, v.le)) m.less (inr (omega (arith, m.is))) }
  unary_at z _ _ _ _ _ _ (unary_call d c ts x rest i) r = call_at z d c ts x rest i r

  call_at : (z d : ℕ) (c : Context) (ts : List Token) (x : Expr) (rest : List Token) → IsCall limit d c ts x rest → AreRising z ts → Between z ts rest (ExprIn x)
  call_at z _ _ _ _ _ (call_all d c ts first at ss rest i j) r =
      let p = first_at z d c ts first at i r in
      let q = suffixes_at z d c at ss rest j p.rising in
      record { rising = q.rising; le = omega (arith, p.le, q.le); found = call_part (place z ts) (place z at) (place z rest) first ss p.found q.found }

  first_at : (z d : ℕ) (c : Context) (ts : List Token) (x : Expr) (rest : List Token) → IsFirst limit d c ts x rest → AreRising z ts → Between z ts rest (ExprIn x)
  first_at z _ _ _ _ _ (first_primary d c ts x rest i) r = primary_at z d c ts x rest i r
  first_at z _ _ _ _ _ (first_new d c ts site from n opens at inside es rest h i j l) r =
      let a = worded z ts word.New site from h r in
      let b = named z from n opens i a.rising in
      let m = begun z opens k.OpenRound at inside j b.rising in
      let v = arguments_at z k.CloseRound d c inside es rest l m.rising in
      record { rising = v.rising; le = omega (arith, a.is, a.less, b.is, b.less, m.is, m.less, v.le); found = new_part (place z ts) (place z inside) (place z rest) site n es (omega (arith, a.is)) (omega (arith, a.less, b.is, b.less, m.is, m.less)) (omega (arith, a.is, a.less, b.is)) (omega (arith, b.less, m.is, m.less)) v.found }

  access_at : (z d : ℕ) (c : Context) (ts : List Token) (a : Access Expr) (rest : List Token) → IsAccess limit d c ts a rest → AreRising z ts → Between z ts rest (AccessOf a)
  access_at z _ _ _ _ _ (access_property d c ts site from name start rest h i) r =
      let m = begun z ts k.Dot site from h r in
      let n = spelled z from name start rest i m.rising in
      record { rising = n.rising; le = omega (arith, m.is, m.less, n.is, n.less); found = (omega (arith, m.is), omega (arith, m.less, n.is, n.less)) }
  access_at z _ _ _ _ _ (access_static d c ts site inside x rest n h i) r =
      let m = begun z ts k.OpenSquare site inside h r in
      let v = static_key z inside x rest i m.rising in
      record { rising = v.rising; le = omega (arith, m.is, m.less, v.le); found = (omega (arith, m.is), part_wider (suc site) (place z rest) (omega (arith, m.less)) (omega arith) v.found) }
  access_at z _ _ _ _ _ (access_index d c ts site inside x t close at rest h o i j) r =
      let m = begun z ts k.OpenSquare site inside h r in
      let v = assign_at z d c inside x t close i m.rising in
      let n = begun z close k.CloseSquare at rest j v.rising in
      record { rising = n.rising; le = omega (arith, m.is, m.less, v.le, n.is, n.less); found = (omega (arith, m.is), part_wider (suc site) (place z rest) (omega (arith, m.less)) (omega (arith, n.is, n.less)) v.found) }

  suffixes_at : (z d : ℕ) (c : Context) (ts : List Token) (ss : List (Suffix Expr)) (rest : List Token) → IsSuffixes limit d c ts ss rest → AreRising z ts → Between z ts rest (SuffixesOf ss)
  suffixes_at z _ _ _ _ _ (suffixes_none d c ts) r = record { rising = r; le = omega arith; found = omega arith }
  suffixes_at z _ _ _ _ _ (suffixes_access d c ts a at ss rest i j) r =
      let p = access_at z d c ts a at i r in
      let q = suffixes_at z d c at ss rest j p.rising in
      record { rising = q.rising; le = omega (arith, p.le, q.le); found = (place z at, p.found, q.found) }
  suffixes_at z _ _ _ _ _ (suffixes_call d c ts site inside es at ss rest h i j) r =
      let m = begun z ts k.OpenRound site inside h r in
      let p = arguments_at z k.CloseRound d c inside es at i m.rising in
      let q = suffixes_at z d c at ss rest j p.rising in
      record { rising = q.rising; le = omega (arith, m.is, m.less, p.le, q.le); found = (place z at, (omega (arith, m.is), each_lower meaning_of (suc site) (place z inside) (place z at) (map with_expr es) (omega (arith, m.less)) p.found), q.found) }

  target_at : (z d : ℕ) (c : Context) (ts : List Token) (t : Target Expr) (rest : List Token) → IsTarget limit d c ts t rest → AreRising z ts → Between z ts rest (TargetOf t)
  target_at z _ _ _ _ _ (target_name d c ts n rest h) r =
      let a = named z ts n rest h r in
      record { rising = a.rising; le = omega (arith, a.is, a.less); found = (omega (arith, a.is), a.less) }
  target_at z _ _ _ _ _ (target_access d c ts base at a rest i j) r =
      let p = call_at z d c ts base at i r in
      let q = access_at z d c at a rest j p.rising in
      record { rising = q.rising; le = omega (arith, p.le, q.le); found = (place z at, p.found, q.found) }
  target_at z _ _ _ _ _ (target_round d c ts opens inside t close at rest h n i j) r =
      let a = begun z ts k.OpenRound opens inside h r in
      let p = target_at z (suc d) c inside t close i a.rising in
      let b = begun z close k.CloseRound at rest j p.rising in
      record { rising = b.rising; le = omega (arith, a.is, a.less, p.le, b.is, b.less); found = target_wider meaning_of (place z inside) (place z close) (place z ts) (place z rest) (target_with t) (omega (arith, a.is, a.less)) (omega (arith, b.is, b.less)) p.found }

  arguments_at : (z : ℕ) (close : TokenKind) (d : ℕ) (c : Context) (ts : List Token) (es : List Expr) (rest : List Token) → IsArguments limit close d c ts es rest → AreRising z ts → Between z ts rest (EachOf es)
  arguments_at z _ _ _ _ _ _ (arguments_none close d c ts at rest h) r =
      let a = begun z ts close at rest h r in
      record { rising = a.rising; le = omega (arith, a.is, a.less); found = omega (arith, a.is, a.less) }
  arguments_at z _ _ _ _ _ _ (arguments_last close d c ts x t end at rest i h) r =
      let p = assign_at z d c ts x t end i r in
      let a = begun z end close at rest h p.rising in
      record { rising = a.rising; le = omega (arith, p.le, a.is, a.less); found = (place z end, p.found, omega (arith, a.is, a.less)) }
  arguments_at z _ _ _ _ _ _ (arguments_more close d c ts x t comma at from es rest i h j) r =
      let p = assign_at z d c ts x t comma i r in
      let a = begun z comma k.Comma at from h p.rising in
      let q = arguments_at z close d c from es rest j a.rising in
      record { rising = q.rising; le = omega (arith, p.le, a.is, a.less, q.le); found = (place z comma, p.found, each_lower meaning_of (place z comma) (place z from) (place z rest) (map with_expr es) (omega (arith, a.is, a.less)) q.found) }

  member_at : (z d : ℕ) (c : Context) (ts : List Token) (m : Member Expr) (rest : List Token) → IsMember limit d c ts m rest → AreRising z ts → Between z ts rest (MemberOf m)
  member_at z _ _ _ _ _ (member_value d c ts name site colon at from x t rest h i j) r =
      let a = key_pass z ts name site colon h r in
      let b = begun z colon k.Colon at from i a.rising in
      let p = assign_at z d c from x t rest j b.rising in
      let v : Part (place z ts) (place z rest) (expr x) = part_wider (place z ts) (place z rest) (omega (arith, a.is, a.less, b.is, b.less)) (omega arith) p.found in
      record { rising = p.rising; le = omega (arith, a.is, a.less, b.is, b.less, p.le); found = record { quiet = v.quiet; le = v.le; inside = v.inside; good = λ calls f k scope d st s. v.good calls f k scope d st s } }
  member_at z _ _ _ _ _ (member_shorthand d c ts n rest h p) r =
      let a = named z ts n rest h r in
      record { rising = a.rising; le = omega (arith, a.is, a.less); found = shorthand_part (place z ts) (place z rest) n (omega (arith, a.is)) a.less }

  members_at : (z d : ℕ) (c : Context) (ts : List Token) (ms : List (Member Expr)) (rest : List Token) → IsMembers limit d c ts ms rest → AreRising z ts → Between z ts rest (MembersOf ms)
  members_at z _ _ _ _ _ (members_none d c ts at rest h) r =
      let a = begun z ts k.CloseBrace at rest h r in
      record { rising = a.rising; le = omega (arith, a.is, a.less); found = omega (arith, a.is, a.less) }
  members_at z _ _ _ _ _ (members_last d c ts m end at rest i h) r =
      let p = member_at z d c ts m end i r in
      let a = begun z end k.CloseBrace at rest h p.rising in
      record { rising = a.rising; le = omega (arith, p.le, a.is, a.less); found = (place z end, p.found, omega (arith, a.is, a.less)) }
  members_at z _ _ _ _ _ (members_more d c ts m comma at from ms rest i h j) r =
      let p = member_at z d c ts m comma i r in
      let a = begun z comma k.Comma at from h p.rising in
      let q = members_at z d c from ms rest j a.rising in
      record { rising = q.rising; le = omega (arith, p.le, a.is, a.less, q.le); found = (place z comma, p.found, members_lower meaning_of (place z comma) (place z from) (place z rest) (map member_with ms) (omega (arith, a.is, a.less)) q.found) }

  primary_at : (z d : ℕ) (c : Context) (ts : List Token) (x : Expr) (rest : List Token) → IsPrimary limit d c ts x rest → AreRising z ts → Between z ts rest (ExprIn x)
  primary_at z _ _ _ _ _ (primary_this d c ts site rest t h) r = word_value z ts site rest _ (worded z ts word.This site rest h r) (λ lo hi l. this_part lo hi site l)
  primary_at z _ _ _ _ _ (primary_name d c ts n rest h) r =
      let a = named z ts n rest h r in
      record { rising = a.rising; le = omega (arith, a.is, a.less); found = name_part (place z ts) (place z rest) n (omega (arith, a.is)) a.less }
  primary_at z _ _ _ _ _ (primary_null d c ts site rest h) r = word_value z ts site rest _ (worded z ts word.Null site rest h r) (λ lo hi l. null_part lo hi site l)
  primary_at z _ _ _ _ _ (primary_true d c ts site rest h) r = word_value z ts site rest _ (worded z ts word.True site rest h r) (λ lo hi l. true_part lo hi site l)
  primary_at z _ _ _ _ _ (primary_false d c ts site rest h) r = word_value z ts site rest _ (worded z ts word.False site rest h r) (λ lo hi l. false_part lo hi site l)
  primary_at z _ _ _ _ _ (primary_number d c ts n site rest h) r =
      let a = begun z ts (k.Number n) site rest h r in
      record { rising = a.rising; le = omega (arith, a.is, a.less); found = number_part (place z ts) (place z rest) site n (omega (arith, a.is)) a.less }
  primary_at z _ _ _ _ _ (primary_text d c ts text site rest h) r =
      let a = begun z ts (k.Text text) site rest h r in
      record { rising = a.rising; le = omega (arith, a.is, a.less); found = text_part (place z ts) (place z rest) site text (omega (arith, a.is)) a.less }
  primary_at z _ _ _ _ _ (primary_array d c ts site inside es rest h i) r =
      let a = begun z ts k.OpenSquare site inside h r in
      let p = arguments_at z k.CloseSquare d c inside es rest i a.rising in
      record { rising = p.rising; le = omega (arith, a.is, a.less, p.le); found = array_part (place z ts) (place z inside) (place z rest) site es (omega (arith, a.is)) a.less p.found }
  primary_at z _ _ _ _ _ (primary_object d c ts site inside ms rest h i) r =
      let a = begun z ts k.OpenBrace site inside h r in
      let p = members_at z d c inside ms rest i a.rising in
      record { rising = p.rising; le = omega (arith, a.is, a.less, p.le); found = object_part (place z ts) (place z inside) (place z rest) site ms (omega (arith, a.is)) a.less p.found }
  primary_at z _ _ _ _ _ (primary_function d c ts site from name at ns opens body rest h i j b) r =
      let a = worded z ts word.Function site from h r in
      let n = optional_name z from name at i a.rising in
      let q = parameters_leave z at ns opens j n.rising in
      let p = body_at z d in_body opens body rest b q.rising in
      record { rising = p.rising; le = omega (arith, a.is, a.less, n.le, q.less, p.le); found = function_part (place z ts) (place z rest) site name ns body (omega (arith, a.is)) (omega (arith, a.less, n.le, q.less, p.le)) (name_in (place z from) (place z at) (place z ts) (place z rest) name (omega (arith, a.is, a.less)) (omega (arith, q.less, p.le)) n.found) p.found.1 }
  primary_at z _ _ _ _ _ (primary_round d c ts opens inside x t close at rest h i j) r =
      let a = begun z ts k.OpenRound opens inside h r in
      let p = assign_at z d c inside x t close i a.rising in
      let b = begun z close k.CloseRound at rest j p.rising in
      record { rising = b.rising; le = omega (arith, a.is, a.less, p.le, b.is, b.less); found = part_wider (place z ts) (place z rest) (omega (arith, a.is, a.less)) (omega (arith, b.is, b.less)) p.found }

  body_at : (z d : ℕ) (c : Context) (ts : List Token) (ss : List Stmt) (rest : List Token) → IsBody limit d c ts ss rest → AreRising z ts → Between z ts rest (BodyOf ss)
  body_at z _ _ _ _ _ (body_braces d c ts opens inside ss close at rest h i j) r =
      let a = begun z ts k.OpenBrace opens inside h r in
      let p = stmts_at z d c inside ss close i a.rising in
      let b = begun z close k.CloseBrace at rest j p.rising in
      record { rising = b.rising; le = omega (arith, a.is, a.less, p.le, b.is, b.less); found = (doings_wider (place z inside) (place z close) (place z ts) (place z rest) ss (stmts ss) (omega (arith, a.is, a.less)) (omega (arith, b.is, b.less)) p.found, kept_statements z d c inside ss close i a.rising) }

  stmts_at : (z d : ℕ) (c : Context) (ts : List Token) (ss : List Stmt) (rest : List Token) → IsStmts limit d c ts ss rest → AreRising z ts → Between z ts rest (StmtsOf ss)
  stmts_at z _ _ _ _ _ (stmts_none d c ts) r = record { rising = r; le = omega arith; found = no_stmts (place z ts) (place z ts) (omega arith) }
  stmts_at z _ _ _ _ _ (stmts_more d c ts x at ss rest n i j) r =
      let p = stmt_at z (suc d) c ts x at i r in
      let q = stmts_at z d c at ss rest j p.rising in
      record { rising = q.rising; le = omega (arith, p.le, q.le); found = more_stmts (place z ts) (place z at) (place z rest) x ss p.le q.le p.found q.found }

  stmt_at : (z d : ℕ) (c : Context) (ts : List Token) (x : Stmt) (rest : List Token) → IsStmt limit d c ts x rest → AreRising z ts → Between z ts rest (StmtOf x)
  stmt_at z _ _ _ _ _ (stmt_inner d c ts x rest i) r = inner_at z d c ts x rest i r
  stmt_at z _ _ _ _ _ (stmt_declare d c ts o site from ds t end rest h i j) r =
      let a = declares_pass z ts o site from h r in
      let p = declarators_at z o d c from ds t end i a.rising in
      let b = end_pass z t end rest j p.rising in
      record { rising = b.rising; le = omega (arith, a.is, a.less, p.le, b.le); found = stmt_wider (place z from) (place z end) (place z ts) (place z rest) _ (omega (arith, a.is, a.less)) b.le (declare_in (place z from) (place z end) site o ds (declared_within meaning_of o (place z from) (place z end) (map declarator_with ds) p.found) p.found) }
  stmt_at z _ _ _ _ _ (stmt_function d c ts site from n at ns opens body rest h i j b) r =
      let a = worded z ts word.Function site from h r in
      let m = named z from n at i a.rising in
      let q = parameters_leave z at ns opens j m.rising in
      let p = body_at z d in_body opens body rest b q.rising in
      record { rising = p.rising; le = omega (arith, a.is, a.less, m.is, m.less, q.less, p.le); found = function_in (place z ts) (place z rest) site n ns body (omega (arith, a.is)) (omega (arith, a.less, m.is, m.less, q.less, p.le)) (omega (arith, a.is, a.less, m.is)) (omega (arith, m.less, q.less, p.le)) p.found.1 }

  declarator_at : (z : ℕ) (o : DeclarationKind) (d : ℕ) (c : Context) (ts : List Token) (x : Declarator Expr) (t : Tail) (rest : List Token) → IsDeclarator limit o d c ts x t rest → AreRising z ts → Between z ts rest (DeclaratorOf x)
  declarator_at z _ _ _ _ _ _ _ (declarator_name d c ts n rest h) r =
      let a = named z ts n rest h r in
      record { rising = a.rising; le = omega (arith, a.is, a.less); found = (omega (arith, a.is), omega (arith, a.less)) }
  declarator_at z _ _ _ _ _ _ _ (declarator_value o d c ts n mark at from x t rest h i j) r =
      let a = named z ts n mark h r in
      let b = begun z mark (k.Assign None) at from i a.rising in
      let p = assign_at z d c from x t rest j b.rising in
      record { rising = p.rising; le = omega (arith, a.is, a.less, b.is, b.less, p.le); found = (omega (arith, a.is), part_wider (suc n.site) (place z rest) (omega (arith, a.less, b.is, b.less)) (omega arith) p.found) }

  declarators_at : (z : ℕ) (o : DeclarationKind) (d : ℕ) (c : Context) (ts : List Token) (ds : List (Declarator Expr)) (t : Tail) (rest : List Token) → IsDeclarators limit o d c ts ds t rest → AreRising z ts → Between z ts rest (DeclaratorsOf ds)
  declarators_at z _ _ _ _ _ _ _ (declarators_last o d c ts x t rest i) r =
      let p = declarator_at z o d c ts x t rest i r in
      record { rising = p.rising; le = p.le; found = (place z rest, p.found.0, p.found.1, omega arith) }
  declarators_at z _ _ _ _ _ _ _ (declarators_more o d c ts x u comma at from ds t rest i h j) r =
      let p = declarator_at z o d c ts x u comma i r in
      let a = begun z comma k.Comma at from h p.rising in
      let q = declarators_at z o d c from ds t rest j a.rising in
      record { rising = q.rising; le = omega (arith, p.le, a.is, a.less, q.le); found = (place z comma, p.found.0, p.found.1, declarators_lower meaning_of (place z comma) (place z from) (place z rest) (map declarator_with ds) (omega (arith, a.is, a.less)) q.found) }

  round_at : (z d : ℕ) (c : Context) (ts : List Token) (x : Expr) (rest : List Token) → IsRound limit d c ts x rest → AreRising z ts → Between z ts rest (ExprIn x)
  round_at z _ _ _ _ _ (round_assign d c ts opens inside x t close at rest h i j) r =
      let a = begun z ts k.OpenRound opens inside h r in
      let p = assign_at z d c inside x t close i a.rising in
      let b = begun z close k.CloseRound at rest j p.rising in
      record { rising = b.rising; le = omega (arith, a.is, a.less, p.le, b.is, b.less); found = part_wider (place z ts) (place z rest) (omega (arith, a.is, a.less)) (omega (arith, b.is, b.less)) p.found }

  below_at : (z d : ℕ) (c : Context) (ts : List Token) (x : Stmt) (rest : List Token) → IsBelow limit d c ts x rest → AreRising z ts → Between z ts rest (StmtOf x)
  below_at z _ _ _ _ _ (below_inner d c ts x rest n i) r = inner_at z (suc d) c ts x rest i r

  inner_at : (z d : ℕ) (c : Context) (ts : List Token) (x : Stmt) (rest : List Token) → IsInner limit d c ts x rest → AreRising z ts → Between z ts rest (StmtOf x)
  inner_at z _ _ _ _ _ (inner_block d c ts body rest i) r =
      let p = body_at z d c ts body rest i r in
      record { rising = p.rising; le = p.le; found = block_in (place z ts) (place z rest) (start_of ts) body p.found.0 }
  inner_at z _ _ _ _ _ (inner_nothing d c ts site rest h) r =
      let a = begun z ts k.Semicolon site rest h r in
      record { rising = a.rising; le = omega (arith, a.is, a.less); found = nothing_in (place z ts) (place z rest) site (omega (arith, a.is, a.less)) }
  inner_at z _ _ _ _ _ (inner_express d c ts x t end rest g h i j) r =
      let p = assign_at z d c ts x t end i r in
      let b = end_pass z t end rest j p.rising in
      record { rising = b.rising; le = omega (arith, p.le, b.le); found = express_in (place z ts) (place z rest) (start_of ts) x (part_wider (place z ts) (place z rest) (omega arith) b.le p.found) }
  inner_at z _ _ _ _ _ (inner_if d c ts arms other rest i) r =
      let p = if_at z d c ts arms other rest i r in
      record { rising = p.rising; le = p.le; found = if_in (place z ts) (place z rest) arms other p.found }
  inner_at z _ _ _ _ _ (inner_while d c ts site from x at y rest h i j) r =
      let a = worded z ts word.While site from h r in
      let p = round_at z d c from x at i a.rising in
      let q = below_at z d (looping c) at y rest j p.rising in
      record { rising = q.rising; le = omega (arith, a.is, a.less, p.le, q.le); found = while_in (place z ts) (place z at) (place z rest) site x y (part_wider (place z ts) (place z at) (omega (arith, a.is, a.less)) (omega arith) p.found) q.found.doing }
  inner_at z _ _ _ _ _ (inner_do d c ts site from y at test_site test x end rest h i h' j l) r =
      let a = worded z ts word.Do site from h r in
      let q = below_at z d (looping c) from y at i a.rising in
      let b = worded z at word.While test_site test h' q.rising in
      let p = round_at z d c test x end j b.rising in
      let e = do_end_pass z end rest l p.rising in
      record { rising = e.rising; le = omega (arith, a.is, a.less, q.le, b.is, b.less, p.le, e.le); found = do_in (place z ts) (place z at) (place z rest) site test_site y x (doing_wider (place z ts) (place z at) (omega (arith, a.is, a.less)) (omega arith) q.found.doing) (part_wider (place z at) (place z rest) (omega (arith, b.is, b.less)) e.le p.found) }
  inner_at z _ _ _ _ _ (inner_for d c ts site from opens inside h first at test t second at' update u close at'' below y rest w1 w2 i w3 j w4 l w5 m) r =
      let a = worded z ts word.For site from w1 r in
      let b = begun z from k.OpenRound opens inside w2 a.rising in
      let p = head_at z d c inside h first i b.rising in
      let e = begun z first k.Semicolon at test w3 p.rising in
      let q = optional_at z d c test t second j e.rising in
      let f = begun z second k.Semicolon at' update w4 q.rising in
      let o = optional_at z d c update u close l f.rising in
      let g = begun z close k.CloseRound at'' below w5 o.rising in
      let v = below_at z d (looping c) below y rest m g.rising in
      record {
        rising = v.rising;
        le = omega (arith, a.is, a.less, b.is, b.less, p.le, e.is, e.less, q.le, f.is, f.less, o.le, g.is, g.less, v.le);
        found = stmt_wider (place z inside) (place z rest) (place z ts) (place z rest) _ (omega (arith, a.is, a.less, b.is, b.less)) (omega arith)
            (for_in (place z inside) (place z first) (place z second) (place z close) (place z rest) site h t u y (omega (arith, p.le, e.is, e.less, q.le, f.is, f.less, o.le, g.is, g.less, v.le)) p.found
            (option_lower (place z first) (place z test) (place z second) (option_map with_expr t) (omega (arith, e.is, e.less)) q.found) (option_lower (place z second) (place z update) (place z close) (option_map with_expr u) (omega (arith, f.is, f.less)) o.found)
            (doing_wider (place z close) (place z rest) (omega (arith, g.is, g.less)) (omega arith) v.found.doing));
      }
  inner_at z _ _ _ _ _ (inner_for_of d c ts site from opens inside o at name n mark of' at' items x t close at'' below y rest w1 w2 w3 w4 g w5 g' i w6 m) r =
      let a = worded z ts word.For site from w1 r in
      let b = begun z from k.OpenRound opens inside w2 a.rising in
      let e = declares_pass z inside o at name w3 b.rising in
      let f = named z name n mark w4 e.rising in
      let h = begun z mark (k.Name of') at' items w5 f.rising in
      let p = assign_at z d c items x t close i h.rising in
      let q = begun z close k.CloseRound at'' below w6 p.rising in
      let v = below_at z d (looping c) below y rest m q.rising in
      record {
        rising = v.rising;
        le = omega (arith, a.is, a.less, b.is, b.less, e.is, e.less, f.is, f.less, h.is, h.less, p.le, q.is, q.less, v.le);
        found = stmt_wider site (place z rest) (place z ts) (place z rest) _ (omega (arith, a.is)) (omega arith)
            (for_of_in site (place z items) (place z close) (place z rest) o n x y (omega (arith, a.less, b.is, b.less, e.is, e.less, f.is)) (omega (arith, f.less, h.is, h.less)) p.found (doing_wider (place z close) (place z rest) (omega (arith, q.is, q.less)) (omega arith) v.found.doing));
      }
  inner_at z _ _ _ _ _ (inner_break d c ts site end rest l h i) r =
      let a = worded z ts word.Break site end h r in
      let b = end_pass z no_expression end rest i a.rising in
      record { rising = b.rising; le = omega (arith, a.is, a.less, b.le); found = break_in (place z ts) (place z rest) site (omega (arith, a.is, a.less, b.le)) }
  inner_at z _ _ _ _ _ (inner_continue d c ts site end rest l h i) r =
      let a = worded z ts word.Continue site end h r in
      let b = end_pass z no_expression end rest i a.rising in
      record { rising = b.rising; le = omega (arith, a.is, a.less, b.le); found = continue_in (place z ts) (place z rest) site (omega (arith, a.is, a.less, b.le)) }
  inner_at z _ _ _ _ _ (inner_return d c ts site end rest l h i) r =
      let a = worded z ts word.Return site end h r in
      let b = end_pass z no_expression end rest i a.rising in
      record { rising = b.rising; le = omega (arith, a.is, a.less, b.le); found = return_in (place z ts) (place z rest) site (omega (arith, a.is, a.less, b.le)) }
  inner_at z _ _ _ _ _ (inner_return_value d c ts site from x t end rest l h g i j) r =
      let a = worded z ts word.Return site from h r in
      let p = assign_at z d c from x t end i a.rising in
      let b = end_pass z t end rest j p.rising in
      record { rising = b.rising; le = omega (arith, a.is, a.less, p.le, b.le); found = return_value_in (place z ts) (place z rest) site x (part_wider (place z ts) (place z rest) (omega (arith, a.is, a.less)) b.le p.found) }
  inner_at z _ _ _ _ _ (inner_throw d c ts site from x t end rest h g i j) r =
      let a = worded z ts word.Throw site from h r in
      let p = assign_at z d c from x t end i a.rising in
      let b = end_pass z t end rest j p.rising in
      record { rising = b.rising; le = omega (arith, a.is, a.less, p.le, b.le); found = throw_in (place z ts) (place z rest) site x (part_wider (place z ts) (place z rest) (omega (arith, a.is, a.less)) b.le p.found) }
  inner_at z _ _ _ _ _ (inner_catch d c ts site from body at h behind last rest w i j l) r =
      let a = worded z ts word.Try site from w r in
      let p = body_at z d c from body at i a.rising in
      let q = catch_at z d c at h behind j p.rising in
      let v = optional_finally_at z d c behind last rest l q.rising in
      record { rising = v.rising; le = omega (arith, a.is, a.less, p.le, q.le, v.le); found = try_in (place z ts) (place z at) (place z behind) (place z rest) site body (Some h) last (doings_wider (place z from) (place z at) (place z ts) (place z at) body (stmts body) (omega (arith, a.is, a.less)) (omega arith) p.found.0) q.found v.found }
  inner_at z _ _ _ _ _ (inner_finally d c ts site from body at last rest w i j) r =
      let a = worded z ts word.Try site from w r in
      let p = body_at z d c from body at i a.rising in
      let v = finally_at z d c at last rest j p.rising in
      record { rising = v.rising; le = omega (arith, a.is, a.less, p.le, v.le); found = try_in (place z ts) (place z at) (place z at) (place z rest) site body None (Some last) (doings_wider (place z from) (place z at) (place z ts) (place z at) body (stmts body) (omega (arith, a.is, a.less)) (omega arith) p.found.0) (omega arith) v.found }

  if_at : (z d : ℕ) (c : Context) (ts : List Token) (arms : List Arm) (other : Option Stmt) (rest : List Token) → IsIf limit d c ts arms other rest → AreRising z ts → Between z ts rest (IfOf arms other)
  if_at z _ _ _ _ _ _ (if_alone d c ts site from x at y rest h i j g) r =
      let a = worded z ts word.If site from h r in
      let p = round_at z d c from x at i a.rising in
      let q = below_at z d c at y rest j p.rising in
      record { rising = q.rising; le = omega (arith, a.is, a.less, p.le, q.le); found = arm_more (place z ts) (place z at) (place z rest) (place z rest) site x y [] None (part_wider (place z ts) (place z at) (omega (arith, a.is, a.less)) (omega arith) p.found) q.found.doing (no_else (place z rest) (place z rest) (omega arith)) }
  if_at z _ _ _ _ _ _ (if_else d c ts site from x at y mark at' other b rest h i j h' g l) r =
      let a = worded z ts word.If site from h r in
      let p = round_at z d c from x at i a.rising in
      let q = below_at z d c at y mark j p.rising in
      let e = worded z mark word.Else at' other h' q.rising in
      let v = below_at z d c other b rest l e.rising in
      record { rising = v.rising; le = omega (arith, a.is, a.less, p.le, q.le, e.is, e.less, v.le); found = arm_more (place z ts) (place z at) (place z mark) (place z rest) site x y [] (Some b) (part_wider (place z ts) (place z at) (omega (arith, a.is, a.less)) (omega arith) p.found) q.found.doing (last_else (place z mark) (place z rest) b (doing_wider (place z mark) (place z rest) (omega (arith, e.is, e.less)) (omega arith) v.found.doing)) }
  if_at z _ _ _ _ _ _ (if_chain d c ts site from x at y mark at' other arms last rest h i j h' n l) r =
      let a = worded z ts word.If site from h r in
      let p = round_at z d c from x at i a.rising in
      let q = below_at z d c at y mark j p.rising in
      let e = worded z mark word.Else at' other h' q.rising in
      let v = if_at z (suc d) c other arms last rest l e.rising in
      record { rising = v.rising; le = omega (arith, a.is, a.less, p.le, q.le, e.is, e.less, v.le); found = arm_more (place z ts) (place z at) (place z mark) (place z rest) site x y arms last (part_wider (place z ts) (place z at) (omega (arith, a.is, a.less)) (omega arith) p.found) q.found.doing (doing_wider (place z mark) (place z rest) (omega (arith, e.is, e.less)) (omega arith) v.found) }

  head_at : (z d : ℕ) (c : Context) (ts : List Token) (h : LoopHead Expr) (rest : List Token) → IsHead limit d c ts h rest → AreRising z ts → Between z ts rest (HeadOf h)
  head_at z _ _ _ _ _ (head_none d c ts) r = record { rising = r; le = omega arith; found = omega arith }
  head_at z _ _ _ _ _ (head_value d c ts x t rest i) r =
      let p = assign_at z d c ts x t rest i r in
      record { rising = p.rising; le = p.le; found = p.found }
  head_at z _ _ _ _ _ (head_declare d c ts o site from ds t rest h i f) r =
      let a = declares_pass z ts o site from h r in
      let p = declarators_at z o d c from ds t rest i a.rising in
      record { rising = p.rising; le = omega (arith, a.is, a.less, p.le); found = declarators_lower meaning_of (place z ts) (place z from) (place z rest) (map declarator_with ds) (omega (arith, a.is, a.less)) p.found }

  optional_at : (z d : ℕ) (c : Context) (ts : List Token) (o : Option Expr) (rest : List Token) → IsOptional limit d c ts o rest → AreRising z ts → Between z ts rest (OptionOf o)
  optional_at z _ _ _ _ _ (optional_none d c ts) r = record { rising = r; le = omega arith; found = omega arith }
  optional_at z _ _ _ _ _ (optional_some d c ts x t rest i) r =
      let p = assign_at z d c ts x t rest i r in
      record { rising = p.rising; le = p.le; found = p.found }

  catch_at : (z d : ℕ) (c : Context) (ts : List Token) (h : Catch (List Stmt)) (rest : List Token) → IsCatch limit d c ts h rest → AreRising z ts → Between z ts rest (CatchOf h)
  catch_at z _ _ _ _ _ (catch_all d c ts at from body rest h i) r =
      let a = worded z ts word.Catch at from h r in
      let p = body_at z d c from body rest i a.rising in
      record { rising = p.rising; le = omega (arith, a.is, a.less, p.le); found = (place z from, omega (arith, a.is, a.less), tt, block_with (place z from) (place z rest) body p.found.0) }
  catch_at z _ _ _ _ _ (catch_name d c ts at from opens inside n close at' block body rest h1 h2 h3 h4 i) r =
      let a = worded z ts word.Catch at from h1 r in
      let b = begun z from k.OpenRound opens inside h2 a.rising in
      let e = named z inside n close h3 b.rising in
      let f = begun z close k.CloseRound at' block h4 e.rising in
      let p = body_at z d c block body rest i f.rising in
      record { rising = p.rising; le = omega (arith, a.is, a.less, b.is, b.less, e.is, e.less, f.is, f.less, p.le); found = (place z block, omega (arith, a.is, a.less, b.is, b.less, e.is, e.less, f.is, f.less), (omega (arith, a.is, a.less, b.is, b.less, e.is), omega (arith, e.less, f.is, f.less)), block_with (place z block) (place z rest) body p.found.0) }

  finally_at : (z d : ℕ) (c : Context) (ts : List Token) (last : List Stmt) (rest : List Token) → IsFinally limit d c ts last rest → AreRising z ts → Between z ts rest (FinallyOf (Some last))
  finally_at z _ _ _ _ _ (finally_body d c ts at from body rest h i) r =
      let a = worded z ts word.Finally at from h r in
      let p = body_at z d c from body rest i a.rising in
      record { rising = p.rising; le = omega (arith, a.is, a.less, p.le); found = doing_wider (place z ts) (place z rest) (omega (arith, a.is, a.less)) (omega arith) (block_with (place z from) (place z rest) body p.found.0) }

  optional_finally_at : (z d : ℕ) (c : Context) (ts : List Token) (last : Option (List Stmt)) (rest : List Token) → IsOptionalFinally limit d c ts last rest → AreRising z ts → Between z ts rest (FinallyOf last)
  optional_finally_at z _ _ _ _ _ (finally_none d c ts) r = record { rising = r; le = omega arith; found = omega arith }
  optional_finally_at z _ _ _ _ _ (finally_some d c ts body rest i) r = finally_at z d c ts body rest i r

-- ---- whole functions and scripts

pub statements_between : (ss : List Stmt) (h : SpeltStatements ss) → Doings (place h.end h.tokens) (place h.end h.rest) ss (stmts ss)
statements_between ss h = (stmts_at h.end h.depth h.context h.tokens ss h.rest h.spelt h.rising).found

pub expression_between : (x : Expr) (h : SpeltExpression x) → Part (place h.end h.tokens) (place h.end h.rest) (expr x)
expression_between x h = (assign_at h.end h.depth h.context h.tokens x h.tail h.rest h.spelt h.rising).found
