-- Trees of expressions for examples, each beside what it does: one layer after another is opened, and what is left computes.
use Rattle.std.proofs.Common.{◌≡◌, ℕ, List, [], ◌∷◌, map, Bool, Option, refl, ap, ◌∙◌}
use Rattle.js_ast.specs.declared.operators.BinaryOp.{BinaryOp}
use Rattle.js_ast.specs.declared.operators.LogicalOp.{LogicalOp}
use Rattle.js_ast.specs.declared.operators.UnaryOp.{UnaryOp}
use Rattle.js_ast.specs.declared.operators.StepOp.{StepOp}
use Rattle.js_ast.specs.declared.parts.Identifier.{Identifier}
use Rattle.js_ast.specs.declared.parts.Link.{Link}
use Rattle.js_ast.specs.declared.parts.Access.{Access}
use Rattle.js_ast.specs.declared.parts.Access.TheVariants as access
use Rattle.js_ast.specs.declared.parts.Suffix.{Suffix}
use Rattle.js_ast.specs.declared.parts.Suffix.TheVariants as suffix
use Rattle.js_ast.specs.declared.parts.Target.{Target}
use Rattle.js_ast.specs.declared.parts.Target.TheVariants as target
use Rattle.js_ast.specs.declared.parts.Key.{Key}
use Rattle.js_ast.specs.declared.parts.Member.{Member}
use Rattle.js_ast.specs.declared.parts.Member.TheVariants as member
use Rattle.js_ast.specs.declared.expression.Expr.{Expr, roll-Expr, map-Expr}
use Rattle.js_ast.specs.declared.expression.Expr.TheOpen.{Expr-F}
use Rattle.js_ast.specs.declared.statement.Stmt.{Stmt}
use Rattle.js_ast.specs.declared.statement.Arm.{Arm}
use Rattle.js_meaning.specs.Parts.{Meaning}
use Rattle.js_meaning.specs.Meaning.{Arms, of_expr, expr}
use Rattle.js_meaning.proofs.Opens.{with_expr, with_stmt, with_arm, opens_expr}

pub record Known : Type 0 where
  pub tree : Expr
  pub does : Meaning
  pub is : expr tree ≡ does

abbrev pub pair : Known → Expr × Meaning
pair k = (k.tree, k.does)

pub same : (k : Known) → with_expr k.tree ≡ pair k
same k = ap {B = Expr × Meaning} (λ m. (k.tree, m)) k.is

abbrev pub named : ℕ → List ℕ → Identifier
named site name = record { site = site; name = name }

-- a layer of whose parts none is evaluated
abbrev pub leaf : Expr-F Expr Stmt Arm → Known
leaf f = record { tree = roll-Expr f; does = _; is = opens_expr f }

-- ---- lists of expressions

abbrev pub trees : List Known → List Expr
trees [] = []
trees (k ∷ ks) = k.tree ∷ trees ks

abbrev pub pairs : List Known → List (Expr × Meaning)
pairs [] = []
pairs (k ∷ ks) = pair k ∷ pairs ks

pub same_pairs : (ks : List Known) → map with_expr (trees ks) ≡ pairs ks
same_pairs [] = refl
same_pairs (k ∷ ks) =
    ap {B = List (Expr × Meaning)} (λ p. p ∷ map with_expr (trees ks)) (same k) ∙ ap (λ ps. pair k ∷ ps) (same_pairs ks)

abbrev pub array : ℕ → List Known → Known
array site ks = record {
  tree = roll-Expr (Expr-F.Array site (trees ks));
  does = _;
  is = opens_expr (Expr-F.Array site (trees ks))
      ∙ ap {B = Meaning} (λ ps. of_expr (Expr-F.Array site ps)) (same_pairs ks);
}

abbrev pub new_ : ℕ → Identifier → List Known → Known
new_ site name ks = record {
  tree = roll-Expr (Expr-F.New site name (trees ks));
  does = _;
  is = opens_expr (Expr-F.New site name (trees ks))
      ∙ ap {B = Meaning} (λ ps. of_expr (Expr-F.New site name ps)) (same_pairs ks);
}

-- ---- operators

abbrev pub unary : ℕ → UnaryOp → Known → Known
unary site op k = record {
  tree = roll-Expr (Expr-F.Unary site op k.tree);
  does = _;
  is = opens_expr (Expr-F.Unary site op k.tree) ∙ ap {B = Meaning} (λ p. of_expr (Expr-F.Unary site op p)) (same k);
}

abbrev pub conditional : ℕ → ℕ → Known → Known → Known → Known
conditional start site t x y = record {
  tree = roll-Expr (Expr-F.Conditional start site t.tree x.tree y.tree);
  does = _;
  is = opens_expr (Expr-F.Conditional start site t.tree x.tree y.tree)
      ∙ ap {B = Meaning} (λ p. of_expr (Expr-F.Conditional start site p (with_expr x.tree) (with_expr y.tree))) (same t)
      ∙ ap {B = Meaning} (λ p. of_expr (Expr-F.Conditional start site (pair t) p (with_expr y.tree))) (same x)
      ∙ ap {B = Meaning} (λ p. of_expr (Expr-F.Conditional start site (pair t) (pair x) p)) (same y);
}

pub record KnownLink (O : Type 0) : Type 0 where
  pub site : ℕ
  pub op : O
  pub right : Known

abbrev pub link : {O : Type 0} → ℕ → O → Known → KnownLink O
link site op k = record { site = site; op = op; right = k }

abbrev pub link_trees : {O : Type 0} → List (KnownLink O) → List (Link O Expr)
link_trees [] = []
link_trees (l ∷ ls) = record { site = l.site; op = l.op; right = l.right.tree } ∷ link_trees ls

abbrev pub link_pairs : {O : Type 0} → List (KnownLink O) → List (Link O (Expr × Meaning))
link_pairs [] = []
link_pairs (l ∷ ls) = record { site = l.site; op = l.op; right = pair l.right } ∷ link_pairs ls

abbrev pub link_with : {O : Type 0} → Link O Expr → Link O (Expr × Meaning)
link_with l = record { site = l.site; op = l.op; right = with_expr l.right }

pub same_links : {O : Type 0} (ls : List (KnownLink O)) → map link_with (link_trees ls) ≡ link_pairs ls
same_links [] = refl
same_links {O} (l ∷ ls) =
    ap {B = List (Link O (Expr × Meaning))} (λ p. record { site = l.site; op = l.op; right = p } ∷ map link_with (link_trees ls)) (same l.right)
    ∙ ap {B = List (Link O (Expr × Meaning))} (λ ps. record { site = l.site; op = l.op; right = pair l.right } ∷ ps) (same_links ls)

binary_links : {E S A : Type 0} → Expr-F E S A → List (Link BinaryOp E)
binary_links (Expr-F.Binary first ls) = ls
binary_links _ = []

binary_map : (first : Expr) (ls : List (Link BinaryOp Expr)) →
    binary_links (map-Expr Expr Stmt Arm (Expr × Meaning) (Stmt × Meaning) (Arm × Arms) with_expr with_stmt with_arm (Expr-F.Binary first ls)) ≡ map link_with ls
unfolding binary_links
binary_map first [] = refl
binary_map first (l ∷ ls) = ap (λ ts. link_with l ∷ ts) (binary_map first ls)

logical_links : {E S A : Type 0} → Expr-F E S A → List (Link LogicalOp E)
logical_links (Expr-F.Logical first ls) = ls
logical_links _ = []

logical_map : (first : Expr) (ls : List (Link LogicalOp Expr)) →
    logical_links (map-Expr Expr Stmt Arm (Expr × Meaning) (Stmt × Meaning) (Arm × Arms) with_expr with_stmt with_arm (Expr-F.Logical first ls)) ≡ map link_with ls
unfolding logical_links
logical_map first [] = refl
logical_map first (l ∷ ls) = ap (λ ts. link_with l ∷ ts) (logical_map first ls)

pub binary_opens : (first : Expr) (ls : List (Link BinaryOp Expr)) →
    expr (roll-Expr (Expr-F.Binary first ls)) ≡ of_expr (Expr-F.Binary (with_expr first) (map link_with ls))
unfolding binary_links
binary_opens first ls = opens_expr (Expr-F.Binary first ls)
    ∙ ap {B = Meaning} (λ ts. of_expr (Expr-F.Binary (with_expr first) ts)) (binary_map first ls)

pub logical_opens : (first : Expr) (ls : List (Link LogicalOp Expr)) →
    expr (roll-Expr (Expr-F.Logical first ls)) ≡ of_expr (Expr-F.Logical (with_expr first) (map link_with ls))
unfolding logical_links
logical_opens first ls = opens_expr (Expr-F.Logical first ls)
    ∙ ap {B = Meaning} (λ ts. of_expr (Expr-F.Logical (with_expr first) ts)) (logical_map first ls)

pub binary_is : (k : Known) (ls : List (KnownLink BinaryOp)) →
    expr (roll-Expr (Expr-F.Binary k.tree (link_trees ls))) ≡ of_expr (Expr-F.Binary (pair k) (link_pairs ls))
binary_is k ls = binary_opens k.tree (link_trees ls)
    ∙ ap {B = Meaning} (λ p. of_expr (Expr-F.Binary p (map link_with (link_trees ls)))) (same k)
    ∙ ap {B = Meaning} (λ ts. of_expr (Expr-F.Binary (pair k) ts)) (same_links ls)

pub logical_is : (k : Known) (ls : List (KnownLink LogicalOp)) →
    expr (roll-Expr (Expr-F.Logical k.tree (link_trees ls))) ≡ of_expr (Expr-F.Logical (pair k) (link_pairs ls))
logical_is k ls = logical_opens k.tree (link_trees ls)
    ∙ ap {B = Meaning} (λ p. of_expr (Expr-F.Logical p (map link_with (link_trees ls)))) (same k)
    ∙ ap {B = Meaning} (λ ts. of_expr (Expr-F.Logical (pair k) ts)) (same_links ls)

abbrev pub binary : Known → List (KnownLink BinaryOp) → Known
binary k ls =
    record { tree = roll-Expr (Expr-F.Binary k.tree (link_trees ls)); does = of_expr (Expr-F.Binary (pair k) (link_pairs ls)); is = binary_is k ls }

abbrev pub logical : Known → List (KnownLink LogicalOp) → Known
logical k ls =
    record { tree = roll-Expr (Expr-F.Logical k.tree (link_trees ls)); does = of_expr (Expr-F.Logical (pair k) (link_pairs ls)); is = logical_is k ls }

-- ---- object literals

pub data KnownMember : Type 0 where
  valued : ℕ → Key → Known → KnownMember
  short : Identifier → KnownMember

abbrev pub member_tree : KnownMember → Member Expr
member_tree (valued site key k) = member.Value site key k.tree
member_tree (short name) = member.Shorthand name

abbrev pub member_pair : KnownMember → Member (Expr × Meaning)
member_pair (valued site key k) = member.Value site key (pair k)
member_pair (short name) = member.Shorthand name

abbrev pub member_with : Member Expr → Member (Expr × Meaning)
member_with (member.Value site key e) = member.Value site key (with_expr e)
member_with (member.Shorthand name) = member.Shorthand name

abbrev pub member_trees : List KnownMember → List (Member Expr)
member_trees [] = []
member_trees (m ∷ ms) = member_tree m ∷ member_trees ms

abbrev pub member_pairs : List KnownMember → List (Member (Expr × Meaning))
member_pairs [] = []
member_pairs (m ∷ ms) = member_pair m ∷ member_pairs ms

same_member : (m : KnownMember) → member_with (member_tree m) ≡ member_pair m
same_member (valued site key k) = ap {B = Member (Expr × Meaning)} (λ p. member.Value site key p) (same k)
same_member (short name) = refl

same_members : (ms : List KnownMember) → map member_with (member_trees ms) ≡ member_pairs ms
same_members [] = refl
same_members (m ∷ ms) =
    ap {B = List (Member (Expr × Meaning))} (λ p. p ∷ map member_with (member_trees ms)) (same_member m)
    ∙ ap {B = List (Member (Expr × Meaning))} (λ ps. member_pair m ∷ ps) (same_members ms)

members_in : {E S A : Type 0} → Expr-F E S A → List (Member E)
members_in (Expr-F.Object site ms) = ms
members_in _ = []

members_map : (site : ℕ) (ms : List (Member Expr)) →
    members_in (map-Expr Expr Stmt Arm (Expr × Meaning) (Stmt × Meaning) (Arm × Arms) with_expr with_stmt with_arm (Expr-F.Object site ms)) ≡ map member_with ms
unfolding members_in
members_map site [] = refl
members_map site (member.Value at key e ∷ ms) = ap (λ ts. member.Value at key (with_expr e) ∷ ts) (members_map site ms)
members_map site (member.Shorthand name ∷ ms) =
    ap {B = List (Member (Expr × Meaning))} (λ ts. member.Shorthand name ∷ ts) (members_map site ms)

pub object_opens : (site : ℕ) (ms : List (Member Expr)) →
    expr (roll-Expr (Expr-F.Object site ms)) ≡ of_expr (Expr-F.Object site (map member_with ms))
unfolding members_in
object_opens site ms = opens_expr (Expr-F.Object site ms)
    ∙ ap {B = Meaning} (λ ts. of_expr (Expr-F.Object site ts)) (members_map site ms)

pub object_is : (site : ℕ) (ms : List KnownMember) →
    expr (roll-Expr (Expr-F.Object site (member_trees ms))) ≡ of_expr (Expr-F.Object site (member_pairs ms))
object_is site ms = object_opens site (member_trees ms)
    ∙ ap {B = Meaning} (λ ts. of_expr (Expr-F.Object site ts)) (same_members ms)

abbrev pub object : ℕ → List KnownMember → Known
object site ms =
    record { tree = roll-Expr (Expr-F.Object site (member_trees ms)); does = of_expr (Expr-F.Object site (member_pairs ms)); is = object_is site ms }

-- ---- properties, calls and targets

pub data KnownAccess : Type 0 where
  dot : ℕ → List ℕ → KnownAccess
  bracket : ℕ → Bool → Known → KnownAccess

abbrev pub access_tree : KnownAccess → Access Expr
access_tree (dot site name) = access.Property site name
access_tree (bracket site is_static k) = access.Index site is_static k.tree

abbrev pub access_pair : KnownAccess → Access (Expr × Meaning)
access_pair (dot site name) = access.Property site name
access_pair (bracket site is_static k) = access.Index site is_static (pair k)

abbrev pub access_with : Access Expr → Access (Expr × Meaning)
access_with (access.Property site name) = access.Property site name
access_with (access.Index site is_static e) = access.Index site is_static (with_expr e)

same_access : (a : KnownAccess) → access_with (access_tree a) ≡ access_pair a
same_access (dot site name) = refl
same_access (bracket site is_static k) = ap {B = Access (Expr × Meaning)} (λ p. access.Index site is_static p) (same k)

pub data KnownSuffix : Type 0 where
  get : KnownAccess → KnownSuffix
  call_ : ℕ → List Known → KnownSuffix

abbrev pub suffix_tree : KnownSuffix → Suffix Expr
suffix_tree (get a) = suffix.Access (access_tree a)
suffix_tree (call_ site ks) = suffix.Call site (trees ks)

abbrev pub suffix_pair : KnownSuffix → Suffix (Expr × Meaning)
suffix_pair (get a) = suffix.Access (access_pair a)
suffix_pair (call_ site ks) = suffix.Call site (pairs ks)

abbrev pub suffix_with : Suffix Expr → Suffix (Expr × Meaning)
suffix_with (suffix.Access a) = suffix.Access (access_with a)
suffix_with (suffix.Call site es) = suffix.Call site (map with_expr es)

abbrev pub suffix_trees : List KnownSuffix → List (Suffix Expr)
suffix_trees [] = []
suffix_trees (x ∷ xs) = suffix_tree x ∷ suffix_trees xs

abbrev pub suffix_pairs : List KnownSuffix → List (Suffix (Expr × Meaning))
suffix_pairs [] = []
suffix_pairs (x ∷ xs) = suffix_pair x ∷ suffix_pairs xs

same_suffix : (x : KnownSuffix) → suffix_with (suffix_tree x) ≡ suffix_pair x
same_suffix (get a) = ap {B = Suffix (Expr × Meaning)} (λ b. suffix.Access b) (same_access a)
same_suffix (call_ site ks) = ap {B = Suffix (Expr × Meaning)} (λ ps. suffix.Call site ps) (same_pairs ks)

same_suffixes : (xs : List KnownSuffix) → map suffix_with (suffix_trees xs) ≡ suffix_pairs xs
same_suffixes [] = refl
same_suffixes (x ∷ xs) =
    ap {B = List (Suffix (Expr × Meaning))} (λ p. p ∷ map suffix_with (suffix_trees xs)) (same_suffix x)
    ∙ ap {B = List (Suffix (Expr × Meaning))} (λ ps. suffix_pair x ∷ ps) (same_suffixes xs)

suffixes_in : {E S A : Type 0} → Expr-F E S A → List (Suffix E)
suffixes_in (Expr-F.Call first xs) = xs
suffixes_in _ = []

suffixes_map : (first : Expr) (xs : List (Suffix Expr)) →
    suffixes_in (map-Expr Expr Stmt Arm (Expr × Meaning) (Stmt × Meaning) (Arm × Arms) with_expr with_stmt with_arm (Expr-F.Call first xs)) ≡ map suffix_with xs
unfolding suffixes_in
suffixes_map first [] = refl
suffixes_map first (suffix.Access (access.Property site name) ∷ xs) =
    ap {B = List (Suffix (Expr × Meaning))} (λ ts. suffix.Access (access.Property site name) ∷ ts) (suffixes_map first xs)
suffixes_map first (suffix.Access (access.Index site is_static e) ∷ xs) =
    ap (λ ts. suffix.Access (access.Index site is_static (with_expr e)) ∷ ts) (suffixes_map first xs)
suffixes_map first (suffix.Call site es ∷ xs) =
    ap (λ ts. suffix.Call site (map with_expr es) ∷ ts) (suffixes_map first xs)

pub call_opens : (first : Expr) (xs : List (Suffix Expr)) →
    expr (roll-Expr (Expr-F.Call first xs)) ≡ of_expr (Expr-F.Call (with_expr first) (map suffix_with xs))
unfolding suffixes_in
call_opens first xs = opens_expr (Expr-F.Call first xs)
    ∙ ap {B = Meaning} (λ ts. of_expr (Expr-F.Call (with_expr first) ts)) (suffixes_map first xs)

pub call_is : (k : Known) (xs : List KnownSuffix) →
    expr (roll-Expr (Expr-F.Call k.tree (suffix_trees xs))) ≡ of_expr (Expr-F.Call (pair k) (suffix_pairs xs))
call_is k xs = call_opens k.tree (suffix_trees xs)
    ∙ ap {B = Meaning} (λ p. of_expr (Expr-F.Call p (map suffix_with (suffix_trees xs)))) (same k)
    ∙ ap {B = Meaning} (λ ts. of_expr (Expr-F.Call (pair k) ts)) (same_suffixes xs)

abbrev pub call : Known → List KnownSuffix → Known
call k xs =
    record { tree = roll-Expr (Expr-F.Call k.tree (suffix_trees xs)); does = of_expr (Expr-F.Call (pair k) (suffix_pairs xs)); is = call_is k xs }

pub data KnownTarget : Type 0 where
  to_name : Identifier → KnownTarget
  to_property : Known → KnownAccess → KnownTarget

abbrev pub target_tree : KnownTarget → Target Expr
target_tree (to_name name) = target.Name name
target_tree (to_property k a) = target.Access k.tree (access_tree a)

abbrev pub target_pair : KnownTarget → Target (Expr × Meaning)
target_pair (to_name name) = target.Name name
target_pair (to_property k a) = target.Access (pair k) (access_pair a)

abbrev pub target_with : Target Expr → Target (Expr × Meaning)
target_with (target.Name name) = target.Name name
target_with (target.Access e a) = target.Access (with_expr e) (access_with a)

same_target : (t : KnownTarget) → target_with (target_tree t) ≡ target_pair t
same_target (to_name name) = refl
same_target (to_property k a) =
    ap {B = Target (Expr × Meaning)} (λ p. target.Access p (access_with (access_tree a))) (same k)
    ∙ ap {B = Target (Expr × Meaning)} (λ b. target.Access (pair k) b) (same_access a)

pub step_opens : (start site : ℕ) (op : StepOp) (is_prefix : Bool) (t : Target Expr) →
    expr (roll-Expr (Expr-F.Step start site op is_prefix t)) ≡ of_expr (Expr-F.Step start site op is_prefix (target_with t))
step_opens start site op is_prefix (target.Name name) =
    opens_expr (Expr-F.Step start site op is_prefix (target.Name name))
step_opens start site op is_prefix (target.Access e (access.Property at name)) =
    opens_expr (Expr-F.Step start site op is_prefix (target.Access e (access.Property at name)))
step_opens start site op is_prefix (target.Access e (access.Index at is_static k)) =
    opens_expr (Expr-F.Step start site op is_prefix (target.Access e (access.Index at is_static k)))

pub step_is : (start site : ℕ) (op : StepOp) (is_prefix : Bool) (t : KnownTarget) →
    expr (roll-Expr (Expr-F.Step start site op is_prefix (target_tree t))) ≡ of_expr (Expr-F.Step start site op is_prefix (target_pair t))
step_is start site op is_prefix t =
    step_opens start site op is_prefix (target_tree t)
    ∙ ap {B = Meaning} (λ u. of_expr (Expr-F.Step start site op is_prefix u)) (same_target t)

abbrev pub step : ℕ → ℕ → StepOp → Bool → KnownTarget → Known
step start site op is_prefix t =
    record { tree = roll-Expr (Expr-F.Step start site op is_prefix (target_tree t)); does = of_expr (Expr-F.Step start site op is_prefix (target_pair t)); is = step_is start site op is_prefix t }

pub assign_opens : (start site : ℕ) (op : Option BinaryOp) (t : Target Expr) (e : Expr) →
    expr (roll-Expr (Expr-F.Assign start site op t e)) ≡ of_expr (Expr-F.Assign start site op (target_with t) (with_expr e))
assign_opens start site op (target.Name name) e = opens_expr (Expr-F.Assign start site op (target.Name name) e)
assign_opens start site op (target.Access x (access.Property at name)) e =
    opens_expr (Expr-F.Assign start site op (target.Access x (access.Property at name)) e)
assign_opens start site op (target.Access x (access.Index at is_static k)) e =
    opens_expr (Expr-F.Assign start site op (target.Access x (access.Index at is_static k)) e)

pub assign_is : (start site : ℕ) (op : Option BinaryOp) (t : KnownTarget) (k : Known) →
    expr (roll-Expr (Expr-F.Assign start site op (target_tree t) k.tree)) ≡ of_expr (Expr-F.Assign start site op (target_pair t) (pair k))
assign_is start site op t k = assign_opens start site op (target_tree t) k.tree
    ∙ ap {B = Meaning} (λ u. of_expr (Expr-F.Assign start site op u (with_expr k.tree))) (same_target t)
    ∙ ap {B = Meaning} (λ p. of_expr (Expr-F.Assign start site op (target_pair t) p)) (same k)

abbrev pub assign : ℕ → ℕ → Option BinaryOp → KnownTarget → Known → Known
assign start site op t k =
    record { tree = roll-Expr (Expr-F.Assign start site op (target_tree t) k.tree); does = of_expr (Expr-F.Assign start site op (target_pair t) (pair k)); is = assign_is start site op t k }
