-- What a control stack stands for, at a view: how it goes on from what a part comes to. Scopes, functions and objects are those
-- of the state; statements and expressions mean what they mean.
use Rattle.std.specs.Prelude.{ℕ, suc, ◌≤◌, ◌≡◌, ◌++◌, List, [], ◌∷◌, Option, Some, None, map, option_map}
use Rattle.path_core.specs.declared.path.Why.TheVariants as why
use Rattle.js_ast.specs.declared.expression.Expr.{Expr}
use Rattle.js_ast.specs.declared.statement.Stmt.{Stmt}
use Rattle.js_ast.specs.declared.statement.Arm.{Arm, out-Arm}
use Rattle.js_ast.specs.declared.operators.BinaryOp.{BinaryOp}
use Rattle.js_ast.specs.declared.operators.LogicalOp.{LogicalOp}
use Rattle.js_ast.specs.declared.parts.Link.{Link}
use Rattle.js_ast.specs.declared.parts.Suffix.{Suffix}
use Rattle.js_ast.specs.declared.parts.Member.{Member}
use Rattle.js_ast.specs.declared.parts.LoopHead.{LoopHead}
use Rattle.js_ast.specs.declared.parts.LoopHead.TheVariants as head
use Rattle.js_ast.specs.declared.parts.Catch.{Catch}
use Rattle.js_ast.specs.declared.operators.DeclarationKind.TheVariants.{Let}
use Rattle.js_meaning.specs.Values.{Value, undefined, object, Scope, Place}
use Rattle.js_meaning.specs.Running.{Reference as Referred, callee, intrinsic, Completion as Ending, given, normal, returns, Outcome, done, bind, on_value, its_value, on_reference, on_normal, throw, leaves, play}
use Rattle.js_meaning.specs.Builtins.{Calls, construct}
use Rattle.js_meaning.specs.Objects.{written, add_item, add_property, get_bracket}
use Rattle.js_meaning.specs.Operators.{unary_row}
use Rattle.js_meaning.specs.Names.{init_name}
use Rattle.js_meaning.specs.Parts.{Meaning, branch, gather, elements, member_key, members, apply, links, logical_links, invoke, chain, Aim as Aimed, name_aim, property_aim, bracket_aim, aim_access, put_aim, assign, step}
use Rattle.js_meaning.specs.Blocks.{Declaration, declaration, declared_of, block, run_all, declare}
use Rattle.js_meaning.specs.Loops.{Part as Does, tested, after_body, again_if, while_loop, do_loop, do_again, next_scope, for_loop, for_again, of_loop, of_start, kept}
use Rattle.js_meaning.specs.Meaning.{chosen, optional, caught, finished, returned, gives_nothing, expr, stmt, stmts, arm, calls_in}
use Rattle.term_table.specs.declared.shadow.Shadow.{Shadow}
use Rattle.term_table.specs.Growing.{Grown}
use Rattle.term_table.specs.Views.{View, at}
use Rattle.js_state.specs.declared.closure.Scope.{Scope as Around}
use Rattle.js_state.specs.declared.completion.Completion.{Completion}
use Rattle.js_state.specs.declared.held.RunMove.{RunMove}
use Rattle.js_state.specs.Builtins.{builtin_text}
use Rattle.js_state.specs.Held.{scope_of, Contents}
use Rattle.js_state.specs.Seen.{place_of, completion_at, reference_at, Agreeing}
use Rattle.js_state.specs.Playing.{Track}
use Rattle.js_frames.specs.declared.loops.WhileLoop.{WhileLoop}
use Rattle.js_frames.specs.declared.loops.DoLoop.{DoLoop}
use Rattle.js_frames.specs.declared.loops.ForLoop.{ForLoop}
use Rattle.js_frames.specs.declared.loops.OfLoop.{OfLoop}
use Rattle.js_frames.specs.declared.parts.Aim.{Aim}
use Rattle.js_frames.specs.declared.parts.Aim.TheVariants as aim
use Rattle.js_frames.specs.declared.parts.Goal.{Goal}
use Rattle.js_frames.specs.declared.parts.Goal.TheVariants as goal
use Rattle.js_frames.specs.declared.parts.Part.{Part}
use Rattle.js_frames.specs.declared.parts.Part.TheVariants as part
use Rattle.js_frames.specs.declared.frames.Frame.{Frame}
use Rattle.js_frames.specs.declared.frames.Frame.TheVariants as frame
use Rattle.js_frames.specs.declared.frames.Work.{Work}
use Rattle.js_frames.specs.declared.frames.Work.TheVariants as work

-- how deep calls may still nest, and how often a loop may still go round: at least the turns that are left
pub record Fuel : Type 0 where
  pub calls : ℕ
  pub loops : ℕ

abbrev pub calling : Fuel → Calls
calling w = calls_in (suc w.calls)

abbrev pub doing : Fuel → Meaning → Around → Place → Outcome
doing w m scope st = m (calling w) w.loops (scope_of scope) st

abbrev pub does_in : Fuel → Meaning → Does
does_in w m = m (calling w)

-- ---- chains

abbrev pub on_chain : Fuel → List (Suffix Expr) → Around → Referred → Place → Outcome
on_chain w ss scope r st = chain expr ss (calling w) w.loops (scope_of scope) r st

abbrev pub on_links : Fuel → List (Link BinaryOp Expr) → Around → Value → Place → Outcome
on_links w ls scope x st = links expr ls (calling w) w.loops (scope_of scope) x st

abbrev pub on_logical : Fuel → List (Link LogicalOp Expr) → Around → Value → Place → Outcome
on_logical w ls scope x st = logical_links expr ls (calling w) w.loops (scope_of scope) x st

-- what is done with gathered values
abbrev pub aimed : View → Fuel → Aim → Around → List Value → Place → Outcome
aimed view w (aim.Call site r ss) scope xs st =
    bind (invoke (calling w) site (reference_at view r) xs st) (on_reference (on_chain w ss.now scope))
aimed view w (aim.New site name) scope xs st = construct site name.now xs st

-- the first of these members has its value
abbrev pub on_member : Fuel → ℕ → List (Member Expr) → Around → ℕ → Value → Place → Outcome
on_member w site [] scope o x st = done st (given (object o))
on_member w site (m ∷ ms) scope o x st =
    written (add_property site st.objects o (member_key m) x) st (members expr site ms (calling w) w.loops (scope_of scope) o)

-- ---- targets

abbrev pub reached : Fuel → Goal → Around → Aimed → Place → Outcome
reached w (goal.Step site op is_prefix) scope a st = step op site is_prefix (scope_of scope) a st
reached w (goal.Assign site op value) scope a st = assign op site (expr value.now) (calling w) w.loops (scope_of scope) a st

-- ---- statements

abbrev pub beside : Stmt → Stmt × Meaning
beside s = (s, stmt s)

abbrev pub catch_of : Catch (List Stmt) → Catch (List (Stmt × Meaning))
catch_of k = record { name = k.name; body = map beside k.body }

-- arms from here on, and then the rest
abbrev pub on_arms : List Arm → Meaning → Meaning
on_arms [] rest = rest
on_arms (a ∷ arms) rest = arm a (on_arms arms rest)

-- the first of these arms has its test
abbrev pub after_test : Fuel → List Arm → Option Stmt → Around → Value → Place → Outcome
after_test w [] alternate scope x st = done st normal
after_test w (a ∷ arms) alternate scope x st =
    branch (out-Arm a).site x st (λ holds st. doing w (chosen holds (stmt (out-Arm a).consequent) (on_arms arms (optional (option_map beside alternate)))) scope st)

abbrev pub while_on : Fuel → ℕ → WhileLoop → Place → Outcome
while_on w k l st = while_loop k l.site (does_in w (expr l.test.now)) (does_in w (stmt l.body.now)) (scope_of l.scope) st

abbrev pub do_on : Fuel → ℕ → DoLoop → Place → Outcome
do_on w k l st = do_loop k l.site l.test_site (does_in w (expr l.test.now)) (does_in w (stmt l.body.now)) (scope_of l.scope) st

-- the names of the head that have fresh bindings in each round
abbrev pub copied : LoopHead Expr → List Declaration
copied (head.Declare Let ds) = declared_of Let ds
copied _ = []

abbrev pub part_in : Fuel → Option Expr → Option Does
part_in w e = option_map (λ x. does_in w (expr x)) e

abbrev pub for_on : Fuel → ℕ → ForLoop → Scope → Place → Outcome
for_on w k l scope st =
    for_loop k l.site (copied l.head.now) (part_in w l.test.now) (part_in w l.update.now) (does_in w (stmt l.body.now)) (scope_of l.outer) scope st

abbrev pub for_next : Fuel → ℕ → ℕ → ForLoop → Scope → Place → Outcome
for_next w k n l scope st =
    for_again k l.site (copied l.head.now) (part_in w l.update.now) (for_on w n l) (scope_of l.outer) scope st

abbrev pub of_on : Fuel → ℕ → OfLoop → ℕ → Place → Outcome
of_on w k l i st =
    of_loop k l.site (declaration l.is_mutable l.name.now) (does_in w (stmt l.body.now)) l.object i (scope_of l.scope) st

-- ---- frames

-- what is done with the value that a part waits for
abbrev pub part_of : View → Fuel → Part → Value → Place → Outcome
part_of view w (part.Element site rest scope o) x st =
    written (add_item site st.objects o x) st (elements expr site rest.now (calling w) w.loops (scope_of scope) o)
part_of view w (part.Member site ms scope o) x st = on_member w site ms.now scope o x st
part_of view w (part.Gathering g rest) x st =
    gather expr rest.now (calling w) w.loops (scope_of g.scope) (map (at view) g.values ++ x ∷ []) (aimed view w g.aim g.scope) st
part_of view w (part.Operand site op) x st = play (unary_row op site x st.objects) st
part_of view w (part.LinksLeft ls scope) x st = on_links w ls.now scope x st
part_of view w (part.LinkRight site op left ls scope) y st =
    bind (apply op site (at view left) y st) (on_value (on_links w ls.now scope))
part_of view w (part.LogicalLeft ls scope) x st = on_logical w ls.now scope x st
part_of view w (part.ConditionalTest site so other scope) x st =
    branch site x st (λ holds st. bind (doing w (chosen holds (expr so.now) (expr other.now)) scope st) its_value)
part_of view w part.ItsValue x st = done st (given x)
part_of view w (part.IndexKey site is_static base ss scope) y st =
    bind (get_bracket site is_static (callee (at view base) undefined) y st) (on_reference (on_chain w ss.now scope))
part_of view w (part.BuiltinKey site is_static position name ss scope) y st =
    bind (get_bracket site is_static (intrinsic position (builtin_text name)) y st) (on_reference (on_chain w ss.now scope))
part_of view w (part.TargetKey site is_static base g scope) y st = reached w g scope (bracket_aim site is_static (at view base) y) st
part_of view w (part.BuiltinTarget site) x st = leaves site why.Builtin st
part_of view w (part.NameValue site name scope) x st = put_aim (scope_of scope) (name_aim site name.now) x st
part_of view w (part.PropertyValue site base name) x st =
    put_aim (record { cell = None; this = undefined }) (property_aim site (at view base) name.now) x st
part_of view w (part.CompoundName site op position name old scope) y st =
    bind (apply op site (at view old) y st) (on_value (put_aim (scope_of scope) (name_aim position name.now)))
part_of view w (part.CompoundProperty site op position name base old) y st =
    bind (apply op site (at view old) y st) (on_value (put_aim (record { cell = None; this = undefined }) (property_aim position (at view base) name.now)))
part_of view w (part.Declared name rest scope) x st =
    declare expr rest.now (calling w) w.loops (scope_of scope) (init_name name.now (scope_of scope) x st)
part_of view w part.ExpressDone x st = gives_nothing x st
part_of view w (part.ArmTest arms alternate scope) x st = after_test w arms.now alternate.now scope x st
part_of view w (part.WhileTest l) x st = tested l.site (doing w (stmt l.body.now) l.scope) (while_on w w.loops l) x st
part_of view w (part.DoTest l) x st = branch l.test_site x st (again_if (do_on w (suc w.loops) l))
part_of view w (part.ForValue l) x st = for_on w (suc w.loops) l (scope_of l.outer) st
part_of view w (part.ForTest l scope) x st =
    tested l.site (doing w (stmt l.body.now) scope) (for_next w w.loops w.loops l (scope_of scope)) x st
part_of view w (part.ForUpdate l scope) x st = for_on w (suc w.loops) l (scope_of scope) st
part_of view w (part.OfItems site name is_mutable body scope) x st =
    of_start site (λ o. of_loop (suc w.loops) site (declaration is_mutable name.now) (does_in w (stmt body.now)) o 0 (scope_of scope)) x st
part_of view w part.ReturnDone x st = done st (returns x)
part_of view w (part.ThrowDone site) x st = throw site x st

-- what a frame does with what it waits for
abbrev pub frame_of : View → Fuel → Frame → Place → Ending → Outcome
frame_of view w (frame.Awaits p) = on_value (part_of view w p)
frame_of view w (frame.Chain ss scope) = on_reference (on_chain w ss.now scope)
frame_of view w (frame.TargetBase access g scope) =
    on_reference (aim_access expr access.now (calling w) w.loops (scope_of scope) (reached w g scope))
frame_of view w frame.Called = returned
frame_of view w (frame.WhileBody l) = after_body (while_on w (suc w.loops) l)
frame_of view w (frame.DoBody l) =
    after_body (do_again (suc w.loops) l.site l.test_site (does_in w (expr l.test.now)) (do_on w (suc w.loops) l) (scope_of l.scope))
frame_of view w (frame.ForBody l scope) = after_body (for_next w (suc w.loops) (suc w.loops) l (scope_of scope))
frame_of view w (frame.OfBody l next) = after_body (of_on w (suc w.loops) l next)
frame_of view w (frame.Rest ss scope) = on_normal (doing w (run_all (stmts ss.now)) scope)
frame_of view w (frame.ForDeclared l scope) =
    on_normal (λ st. next_scope (copied l.head.now) (scope_of scope) (scope_of l.outer) st (for_on w (suc w.loops) l))
frame_of view w (frame.Catching catch scope) = caught (option_map catch_of catch.now) (calling w) w.loops (scope_of scope)
frame_of view w (frame.Finishing finally scope) = finished (option_map (map beside) finally.now) (calling w) w.loops (scope_of scope)
frame_of view w (frame.Kept completion) = kept (completion_at view completion)

-- what the machine is about to do
abbrev pub thread : View → Work → Contents → Fuel → Outcome
thread view (work.Eval e scope) st w = doing w (expr e.now) scope (place_of view st)
thread view (work.Exec s scope) st w = doing w (stmt s.now) scope (place_of view st)
thread view (work.Enter ss scope) st w = doing w (block ss.now (stmts ss.now)) scope (place_of view st)
thread view (work.Declare ds scope) st w = declare expr ds.now (calling w) w.loops (scope_of scope) (place_of view st)
thread view (work.Invoke g) st w = aimed view w g.aim g.scope (map (at view) g.values) (place_of view st)
thread view (work.Give completion) st w = done (place_of view st) (completion_at view completion)

abbrev pub resume : View → List Fuel → List Frame → Outcome → Outcome
resume view ws [] r = r
resume view [] (f ∷ fs) r = r
resume view (w ∷ ws) (f ∷ fs) r = resume view ws fs (bind r (frame_of view w f))

-- ---- steps

pub record Covers (turns : ℕ) (w : Fuel) : Type 0 where
  pub calls : turns ≤ w.calls
  pub loops : turns ≤ w.loops

abbrev pub CoverAll : ℕ → List Fuel → List Frame → Type 0
CoverAll turns [] [] = Unit {0}
CoverAll turns (w ∷ ws) (f ∷ fs) = Covers turns w × CoverAll turns ws fs
CoverAll turns _ _ = ⊥

-- the stack, behind what the thread does, comes to this outcome
pub record Means (view : View) (turns : ℕ) (fs : List Frame) (go : Fuel → Outcome) (whole : Outcome) : Type 0 where
  pub fuel : Fuel
  pub fuels : List Fuel
  pub covers : Covers turns fuel
  pub all : CoverAll turns fuels fs
  pub same : resume view fuels fs (go fuel) ≡ whole

-- at each view that agrees, the whole from before, tracked along the added moves, is the whole from now on
pub record Goes (old : Contents) (fs : List Frame) (go : View → Fuel → Outcome) (new : Contents) (gs : List Frame) (next : View → Fuel → Outcome) : Type 0 where
  pub added : List RunMove
  pub moves : new.moves ≡ old.moves ++ added
  pub grown : Grown old.table new.table
  pub keeps : new.keeps ≡ old.keeps
  pub on : (view : View) → Agreeing view new → (whole : Outcome) → Means view old.turns fs (go view) whole →
      Track view added whole (Means view new.turns gs (next view))

pub record Leads (old : Contents) (fs : List Frame) (go : View → Contents → Fuel → Outcome) (new : Contents) (gs : List Frame) (next : Work) : Type 0 where
  pub to : Goes old fs (λ view. go view old) new gs (λ view. thread view next new)

-- ---- what single steps come to

-- an expression was begun
abbrev pub Evals : Contents → List Frame → Expr → Around → Contents → List Frame → Work → Type 0
Evals old fs tree scope new gs next = Leads old fs (λ view st w. doing w (expr tree) scope (place_of view st)) new gs next

-- a statement was begun
abbrev pub Execs : Contents → List Frame → Stmt → Around → Contents → List Frame → Work → Type 0
Execs old fs tree scope new gs next = Leads old fs (λ view st w. doing w (stmt tree) scope (place_of view st)) new gs next

-- a part has its value
abbrev pub Continues : Contents → List Frame → Part → Shadow → Contents → List Frame → Work → Type 0
Continues old fs part value new gs next = Leads old fs (λ view st w. part_of view w part (at view value) (place_of view st)) new gs next

-- a frame, which was taken off the stack, has what it waits for
abbrev pub Resumes : Contents → List Frame → Frame → Completion → Contents → List Frame → Work → Type 0
Resumes old fs frame completion new gs next =
    Leads old fs (λ view st w. frame_of view w frame (place_of view st) (completion_at view completion)) new gs next

-- at each view the place comes to this one, with this completion
abbrev pub Gives : (View → Outcome) → Contents → Completion → Type 0
Gives go new completion = (view : View) → go view ≡ done (place_of view new) (completion_at view completion)
