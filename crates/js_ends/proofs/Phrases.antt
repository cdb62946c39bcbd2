-- What is shown of each kind of phrase, by the places around it, and the smallest phrases.
use Rattle.std.proofs.Common.{ℕ, suc, ◌≤◌, ◌<◌, List, map, Option, Some, None, option_map, refl, arith}
use Rattle.js_ast.specs.declared.expression.Expr.{Expr}
use Rattle.js_ast.specs.declared.statement.Stmt.{Stmt}
use Rattle.js_ast.specs.declared.statement.Arm.{Arm}
use Rattle.js_ast.specs.declared.parts.Access.{Access}
use Rattle.js_ast.specs.declared.parts.Suffix.{Suffix}
use Rattle.js_ast.specs.declared.parts.Target.{Target}
use Rattle.js_ast.specs.declared.parts.Member.{Member}
use Rattle.js_ast.specs.declared.parts.Member.TheVariants as member
use Rattle.js_ast.specs.declared.parts.Identifier.{Identifier}
use Rattle.js_ast.specs.declared.parts.Declarator.{Declarator}
use Rattle.js_ast.specs.declared.parts.Link.{Link}
use Rattle.js_ast.specs.declared.parts.LoopHead.{LoopHead}
use Rattle.js_ast.specs.declared.parts.Catch.{Catch}
use Rattle.js_grammar.specs.declared.token.Token.{Token}
use Rattle.js_grammar.specs.declared.token.TokenKind.TheVariants as k
use Rattle.js_grammar.specs.Grammar.{IsStaticKey, static_text, static_number}
use Rattle.js_meaning.specs.Meaning.{meaning_of, expr, stmts}
use Rattle.js_meaning.specs.Parts.{member_value as value_of_member}
use Rattle.js_meaning.specs.Names.{read_name}
use Rattle.js_meaning.proofs.Opens.{with_expr, with_stmt}
use Rattle.js_meaning.proofs.Known.{link_with, member_with, access_with, suffix_with, target_with}
use Rattle.js_meaning.proofs.KnownStatements.{declarator_with}
use Rattle.js_meaning.proofs.KnownForms.{head_with, catch_with}
use Rattle.js_ends.specs.Places.{place, AreRising}
use Rattle.js_ends.proofs.Fresh.{SpeltStatements}
use Rattle.js_ends.proofs.Forms.{count_fresh, Used}
use Rattle.js_ends.proofs.Binds.{Within}
use Rattle.js_ends.proofs.Names.{read_fresh}
use Rattle.js_ends.proofs.Lists.{Passing, Part, EachIn, MembersIn, LinksIn}
use Rattle.js_ends.proofs.Chains.{AccessIn, SuffixesIn}
use Rattle.js_ends.proofs.Aims.{TargetIn}
use Rattle.js_ends.proofs.Blocks.{NameIn, Doings, InitialIn, DeclaratorsIn}
use Rattle.js_ends.proofs.Rounds.{OptionIn, HeadIn}
use Rattle.js_ends.proofs.Tries.{CatchIn, FinallyIn}
use Rattle.js_ends.proofs.Expressions.{number_part, text_part}
use Rattle.js_ends.proofs.Statements.{StmtIn, IfIn}
use Rattle.js_ends.proofs.Places.{Between, Begun, begun}

abbrev pub ExprIn : Expr → ℕ → ℕ → Type 0
ExprIn x lo hi = Part lo hi (expr x)

abbrev pub LinksOf : {O : Type 0} → List (Link O Expr) → ℕ → ℕ → Type 0
LinksOf ls lo hi = LinksIn meaning_of lo hi (map link_with ls)

abbrev pub AccessOf : Access Expr → ℕ → ℕ → Type 0
AccessOf a lo hi = AccessIn meaning_of lo hi (access_with a)

abbrev pub SuffixesOf : List (Suffix Expr) → ℕ → ℕ → Type 0
SuffixesOf ss lo hi = SuffixesIn meaning_of lo hi (map suffix_with ss)

abbrev pub TargetOf : Target Expr → ℕ → ℕ → Type 0
TargetOf t lo hi = TargetIn meaning_of lo hi (target_with t)

abbrev pub EachOf : List Expr → ℕ → ℕ → Type 0
EachOf es lo hi = EachIn meaning_of lo hi (map with_expr es)

abbrev pub MemberOf : Member Expr → ℕ → ℕ → Type 0
MemberOf m lo hi = Part lo hi (value_of_member meaning_of (member_with m))

abbrev pub MembersOf : List (Member Expr) → ℕ → ℕ → Type 0
MembersOf ms lo hi = MembersIn meaning_of lo hi (map member_with ms)

abbrev pub BodyOf : List Stmt → ℕ → ℕ → Type 0
BodyOf ss lo hi = Doings lo hi ss (stmts ss) × SpeltStatements ss

abbrev pub StmtsOf : List Stmt → ℕ → ℕ → Type 0
StmtsOf ss lo hi = Doings lo hi ss (stmts ss)

abbrev pub StmtOf : Stmt → ℕ → ℕ → Type 0
StmtOf x lo hi = StmtIn lo hi x

abbrev pub DeclaratorOf : Declarator Expr → ℕ → ℕ → Type 0
DeclaratorOf x lo hi = (lo ≤ x.name.site) × InitialIn meaning_of (suc x.name.site) hi (declarator_with x).value

abbrev pub DeclaratorsOf : List (Declarator Expr) → ℕ → ℕ → Type 0
DeclaratorsOf ds lo hi = DeclaratorsIn meaning_of lo hi (map declarator_with ds)

abbrev pub IfOf : List Arm → Option Stmt → ℕ → ℕ → Type 0
IfOf arms alternate lo hi = IfIn lo hi arms alternate

abbrev pub HeadOf : LoopHead Expr → ℕ → ℕ → Type 0
HeadOf h lo hi = HeadIn lo hi (head_with h)

abbrev pub OptionOf : Option Expr → ℕ → ℕ → Type 0
OptionOf o lo hi = OptionIn lo hi (option_map with_expr o)

abbrev pub CatchOf : Catch (List Stmt) → ℕ → ℕ → Type 0
CatchOf h lo hi = CatchIn lo hi (Some (catch_with h))

abbrev pub FinallyOf : Option (List Stmt) → ℕ → ℕ → Type 0
FinallyOf o lo hi = FinallyIn lo hi (option_map (map with_stmt) o)

-- a name alone as a member counts as a name that is read
pub shorthand_part : (lo hi : ℕ) (n : Identifier) → lo ≤ n.site → n.site < hi →
    Part lo hi (value_of_member meaning_of (member_with (member.Shorthand n)))
shorthand_part lo hi n l m =
    record {
      quiet = Some n.site;
      le = omega (arith, l, m);
      inside = (l, m);
      good = λ calls c k scope d st s. count_fresh (Used (Some n.site)) (Within lo hi) (Passing lo hi (Some n.site)) d n.site st (read_name n.site n.name scope) s (λ st s. read_fresh (Used (Some n.site)) (Within lo hi) (Passing lo hi (Some n.site)) d n.site n.name scope st (l, m) (refl, refl) s);
    }

pub static_key : (z : ℕ) (ts : List Token) (x : Expr) (rest : List Token) → IsStaticKey ts x rest → AreRising z ts →
    Between z ts rest (ExprIn x)
static_key z _ _ _ (static_text ts text start close at rest h i) r =
    let a = begun z ts (k.Text text) start close h r in
    let b = begun z close k.CloseSquare at rest i a.rising in
    record { rising = b.rising; le = omega (arith, a.is, a.less, b.is, b.less); found = text_part (place z ts) (place z rest) start text (omega (arith, a.is)) (omega (arith, a.less, b.is, b.less)) }
static_key z _ _ _ (static_number ts n start close at rest h i) r =
    let a = begun z ts (k.Number n) start close h r in
    let b = begun z close k.CloseSquare at rest i a.rising in
    record { rising = b.rising; le = omega (arith, a.is, a.less, b.is, b.less); found = number_part (place z ts) (place z rest) start n (omega (arith, a.is)) (omega (arith, a.less, b.is, b.less)) }

-- a word that is a value
pub word_value : (z : ℕ) (ts : List Token) (site : ℕ) (rest : List Token) (x : Expr) → Begun z ts site rest →
    ((lo hi : ℕ) → lo ≤ hi → Part lo hi (expr x)) → Between z ts rest (ExprIn x)
word_value z ts site rest x a p =
    record { rising = a.rising; le = omega (arith, a.is, a.less); found = p (place z ts) (place z rest) (omega (arith, a.is, a.less)) }

pub name_in : (lo hi low high : ℕ) (o : Option Identifier) → low ≤ lo → hi ≤ high → NameIn (Within lo hi) o →
    NameIn (Within low high) o
name_in lo hi low high None l m h = tt
name_in lo hi low high (Some n) l m h = (omega (arith, l, h.0), omega (arith, h.1, m))
