-- The head of a `for` that declares names.
use Rattle.std.proofs.Common.{◌≡◌, ℕ, true, false, List, [], refl, ap}
use Rattle.js_ast.specs.declared.expression.Expr.{Expr}
use Rattle.js_ast.specs.declared.operators.DeclarationKind.{DeclarationKind}
use Rattle.js_ast.specs.declared.operators.DeclarationKind.TheVariants.{Let, Const}
use Rattle.js_ast.specs.declared.parts.Declarator.{Declarator}
use Rattle.js_ast.specs.declared.parts.LoopHead.TheVariants as head
use Rattle.js_meaning.specs.Values.{Scope, Place}
use Rattle.js_meaning.specs.Running.{Completion, given, refers, normal, breaks, continues, returns, throws, stops, Outcome, bind, on_normal}
use Rattle.js_meaning.specs.Builtins.{Calls}
use Rattle.js_meaning.specs.Blocks.{Declaration, is_let, declared_of, open_names, declare}
use Rattle.js_meaning.specs.Loops.{next_scope}
use Rattle.js_meaning.specs.Meaning.{for_declared, expr}
use Rattle.js_frames.specs.Machine.{copied}
use Rattle.js_frames.proofs.Statements.{head_does}

abbrev Loop : Type 0
Loop = List Declaration → Scope → Place → Outcome

let_ends : (ns : List Declaration) (outer scope : Scope) (go : Loop) (st : Place) (c : Completion) → for_declared true ns outer scope go st c ≡ on_normal (λ st. next_scope ns scope outer st (go ns)) st c
let_ends ns outer scope go st (given x) = refl
let_ends ns outer scope go st (refers r) = refl
let_ends ns outer scope go st normal = refl
let_ends ns outer scope go st breaks = refl
let_ends ns outer scope go st continues = refl
let_ends ns outer scope go st (returns x) = refl
let_ends ns outer scope go st (throws site x) = refl
let_ends ns outer scope go st (stops e) = refl

const_ends : (ns : List Declaration) (outer scope : Scope) (go : Loop) (st : Place) (c : Completion) → for_declared false ns outer scope go st c ≡ on_normal (λ st. go [] scope st) st c
const_ends ns outer scope go st (given x) = refl
const_ends ns outer scope go st (refers r) = refl
const_ends ns outer scope go st normal = refl
const_ends ns outer scope go st breaks = refl
const_ends ns outer scope go st continues = refl
const_ends ns outer scope go st (returns x) = refl
const_ends ns outer scope go st (throws site x) = refl
const_ends ns outer scope go st (stops e) = refl

declared_ends : (kind : DeclarationKind) (ds : List (Declarator Expr)) (outer scope : Scope) (go : Loop) (st : Place) (c : Completion) →
    for_declared (is_let kind) (declared_of kind ds) outer scope go st c ≡ on_normal (λ st. next_scope (copied (head.Declare kind ds)) scope outer st (go (copied (head.Declare kind ds)))) st c
declared_ends Let ds outer scope go st c = let_ends (declared_of Let ds) outer scope go st c
declared_ends Const ds outer scope go st c = const_ends (declared_of Const ds) outer scope go st c

-- behind the declarations: first fresh bindings of `let`, none of `const`, and then the loop
pub head_declares : (kind : DeclarationKind) (ds : List (Declarator Expr)) (calls : Calls) (k : ℕ) (outer : Scope) (go : Loop) (st : Place) →
    head_does (head.Declare kind ds) calls k outer go st ≡ open_names (declared_of kind ds) outer st (λ scope st. bind (declare expr ds calls k scope st) (on_normal (λ st. next_scope (copied (head.Declare kind ds)) scope outer st (go (copied (head.Declare kind ds))))))
head_declares kind ds calls k outer go st =
    ap {B = Outcome} (λ (f : Scope → Place → Completion → Outcome). open_names (declared_of kind ds) outer st (λ scope st. bind (declare expr ds calls k scope st) (f scope))) (λ i scope st c. declared_ends kind ds outer scope go st c i)
