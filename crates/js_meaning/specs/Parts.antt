-- Parts of expressions: arguments, literals, chains of operators and of suffixes, and targets. `run` is what a part below does.
use Rattle.std.specs.Prelude.{ℕ, ◌+◌, min, Bool, true, false, List, [], ◌∷◌, ◌++◌, Option, Some, None, decimal}
use Rattle.path_core.specs.declared.path.Why.TheVariants as why
use Rattle.js_ast.specs.declared.operators.BinaryOp.{BinaryOp}
use Rattle.js_ast.specs.declared.operators.LogicalOp.{LogicalOp}
use Rattle.js_ast.specs.declared.operators.StepOp.{StepOp}
use Rattle.js_ast.specs.declared.parts.Link.{Link}
use Rattle.js_ast.specs.declared.parts.Access.{Access}
use Rattle.js_ast.specs.declared.parts.Access.TheVariants as access
use Rattle.js_ast.specs.declared.parts.Suffix.{Suffix}
use Rattle.js_ast.specs.declared.parts.Suffix.TheVariants as suffix
use Rattle.js_ast.specs.declared.parts.Target.{Target}
use Rattle.js_ast.specs.declared.parts.Target.TheVariants as target
use Rattle.js_ast.specs.declared.parts.Key.{Key}
use Rattle.js_ast.specs.declared.parts.Key.TheVariants as key
use Rattle.js_ast.specs.declared.parts.Member.{Member}
use Rattle.js_ast.specs.declared.parts.Member.TheVariants as member
use Rattle.js_meaning.specs.Values.{Text, Value, undefined, object, Scope, Code, function, Place}
use Rattle.js_meaning.specs.Running.{Reference, callee, intrinsic, static, method, Outcome, done, bind, given, refers, leaves, count, new_object, play, on_value, on_reference}
use Rattle.js_meaning.specs.Conversions.{to_boolean}
use Rattle.js_meaning.specs.Builtins.{Calls, call_builtin}
use Rattle.js_meaning.specs.Objects.{property_row, get_bracket, set_bracket, get_row, set_row, written, add_property, add_item}
use Rattle.js_meaning.specs.Operators.{test_row, logical_row, goes_on, binary_row, is_join, step_row, old_number}
use Rattle.js_meaning.specs.Names.{read_name, put_name}

-- what a part of a script does, in a scope, where loops go round less than so many times
abbrev pub Meaning : Type 0
Meaning = Calls → ℕ → Scope → Place → Outcome

-- the event of a test, and what its outcome chooses
abbrev pub branch : ℕ → Value → Place → (Bool → Place → Outcome) → Outcome
branch site x st go = bind (play (test_row site x) st) (on_value (λ b st. go (to_boolean b) st))

-- InstantiateOrdinaryFunctionObject (15.2.4) and InstantiateArrowFunctionExpression (15.3.4)
abbrev pub make_function : ℕ → Code → Place → (Value → Place → Outcome) → Outcome
make_function site code st go = new_object site (function code) st (λ f. go (object f))

-- ---- arguments and literals

-- ArgumentListEvaluation (13.3.8.1): from left to right
abbrev pub gather : {E : Type 0} → (E → Meaning) → List E → Calls → ℕ → Scope → List Value →
    (List Value → Place → Outcome) → Place → Outcome
gather run [] calls k scope xs go st = go xs st
gather run (e ∷ es) calls k scope xs go st =
    bind (run e calls k scope st) (on_value (λ x st. gather run es calls k scope (xs ++ x ∷ []) go st))

-- the elements of an array literal, which is there before them (13.2.4.1)
abbrev pub elements : {E : Type 0} → (E → Meaning) → ℕ → List E → Calls → ℕ → Scope → ℕ → Place → Outcome
elements run site [] calls k scope o st = done st (given (object o))
elements run site (e ∷ es) calls k scope o st =
    bind (run e calls k scope st) (on_value
    (λ x st. written (add_item site st.objects o x) st (elements run site es calls k scope o)))

-- the key of a number is its decimal text
abbrev pub key_text : Key → Text
key_text (key.Text t) = t
key_text (key.Number n) = decimal n

abbrev pub member_key : {E : Type 0} → Member E → Text
member_key (member.Value site k value) = key_text k
member_key (member.Shorthand name) = name.name

-- a name alone counts as one that is read
abbrev pub member_value : {E : Type 0} → (E → Meaning) → Member E → Meaning
member_value run (member.Value site k value) calls j scope st = run value calls j scope st
member_value run (member.Shorthand name) calls j scope st = count name.site st (read_name name.site name.name scope)

-- the members of an object literal, which is there before them (13.2.5.5)
abbrev pub members : {E : Type 0} → (E → Meaning) → ℕ → List (Member E) → Calls → ℕ → Scope → ℕ → Place → Outcome
members run site [] calls k scope o st = done st (given (object o))
members run site (m ∷ ms) calls k scope o st =
    bind (member_value run m calls k scope st) (on_value
    (λ x st. written (add_property site st.objects o (member_key m) x) st (members run site ms calls k scope o)))

-- ---- chains of operators; each operator counts when it is reached, before its right side

-- the count of joins of strings stops at what 32 bits hold; the nodes bound it far below
abbrev pub most_joins : ℕ
most_joins = 4294967295

abbrev pub noted : Bool → Place → Place
noted true st = record st { joins = min (st.joins + 1) most_joins }
noted false st = st

-- an operator, on the values of both its sides (13.15.3)
abbrev pub apply : BinaryOp → ℕ → Value → Value → Place → Outcome
apply op site x y st = play (binary_row op site x y) (noted (is_join op x y) st)

-- from left to right (13.15.4, EvaluateStringOrNumericBinaryExpression)
abbrev pub links : {E : Type 0} → (E → Meaning) → List (Link BinaryOp E) → Calls → ℕ → Scope → Value → Place → Outcome
links run [] calls k scope x st = done st (given x)
links run (l ∷ ls) calls k scope x st =
    count l.site st (λ st. bind (run l.right calls k scope st)
    (on_value (λ y st. bind (apply l.op l.site x y st) (on_value (links run ls calls k scope)))))

-- the right side, or the left one that has decided
abbrev pub decided : Bool → Meaning → Value → Meaning
decided true right x calls k scope st = right calls k scope st
decided false right x calls k scope st = done st (given x)

-- `&&`, `||` and `??` (13.13.1): each mark makes its event, also behind one that has decided
abbrev pub logical_links : {E : Type 0} → (E → Meaning) → List (Link LogicalOp E) → Calls → ℕ → Scope → Value →
    Place → Outcome
logical_links run [] calls k scope x st = done st (given x)
logical_links run (l ∷ ls) calls k scope x st =
    count l.site st (λ st. bind (play (logical_row l.op l.site x) st) (on_value (λ b st.
    bind (decided (goes_on l.op (to_boolean b)) (run l.right) x calls k scope st)
    (on_value (logical_links run ls calls k scope)))))

-- ---- chains of suffixes (13.3); each counts before its key or its arguments

-- a built-in method, or a listed property of a built-in name, that isn't called leaves the profile as soon as that shows
abbrev pub settled : Reference → Place → (Place → Outcome) → Outcome
settled (callee x this) st go = go st
settled (intrinsic at name) st go = go st
settled (static at name key) st go = leaves at why.Builtin st
settled (method at base name) st go = leaves at why.Builtin st

-- EvaluateCall (13.3.6.2): of a value, or of a built-in
abbrev pub invoke : Calls → ℕ → Reference → List Value → Place → Outcome
invoke calls site (callee f this) xs st = calls site f this xs st
invoke calls site r xs st = call_builtin calls site r xs st

abbrev pub chain : {E : Type 0} → (E → Meaning) → List (Suffix E) → Calls → ℕ → Scope → Reference → Place → Outcome
chain run [] calls k scope r st = done st (refers r)
chain run (suffix.Access (access.Property site name) ∷ ss) calls k scope r st =
    settled r st (λ st. count site st (λ st.
    bind (play (property_row site r name st.objects) st) (on_reference (chain run ss calls k scope))))
chain run (suffix.Access (access.Index site is_static e) ∷ ss) calls k scope r st =
    settled r st (λ st. count site st (λ st. bind (run e calls k scope st) (on_value (λ y st.
    bind (get_bracket site is_static r y st) (on_reference (chain run ss calls k scope))))))
chain run (suffix.Call site arguments ∷ ss) calls k scope r st =
    count site st (gather run arguments calls k scope [] (λ xs st.
    bind (invoke calls site r xs st) (on_reference (chain run ss calls k scope))))

-- ---- targets (13.15.1, simple assignment targets)

-- what a target has come to (6.2.5, the Reference Record): a name at its site; a value and a static key; a value and a key in
-- brackets
pub data Aim : Type 0 where
  name_aim : ℕ → Text → Aim
  property_aim : ℕ → Value → Text → Aim
  bracket_aim : ℕ → Bool → Value → Value → Aim

-- a property of a built-in name leaves the profile
abbrev pub aim_property : ℕ → Text → Reference → Place → (Aim → Place → Outcome) → Outcome
aim_property site name (callee x this) st go = go (property_aim site x name) st
aim_property site name r st go = leaves site why.Builtin st

abbrev pub aim_bracket : ℕ → Bool → Reference → Value → Place → (Aim → Place → Outcome) → Outcome
aim_bracket site is_static (callee x this) y st go = go (bracket_aim site is_static x y) st
aim_bracket site is_static r y st go = leaves site why.Builtin st

abbrev pub aim_access : {E : Type 0} → (E → Meaning) → Access E → Calls → ℕ → Scope → (Aim → Place → Outcome) →
    Reference → Place → Outcome
aim_access run (access.Property site name) calls k scope go r st =
    settled r st (λ st. count site st (λ st. aim_property site name r st go))
aim_access run (access.Index site is_static e) calls k scope go r st =
    settled r st (λ st. count site st (λ st. bind (run e calls k scope st)
    (on_value (λ y st. aim_bracket site is_static r y st go))))

-- a target counts: a name once, a property as a suffix behind its base
abbrev pub aim : {E : Type 0} → (E → Meaning) → Target E → Calls → ℕ → Scope → (Aim → Place → Outcome) → Place → Outcome
aim run (target.Name name) calls k scope go st = count name.site st (go (name_aim name.site name.name))
aim run (target.Access base a) calls k scope go st =
    bind (run base calls k scope st) (on_reference (aim_access run a calls k scope go))

-- GetValue (6.2.5.5)
abbrev pub get_aim : Scope → Aim → Place → Outcome
get_aim scope (name_aim site name) st = read_name site name scope st
get_aim scope (property_aim site base name) st = play (get_row site base name st.objects) st
get_aim scope (bracket_aim site is_static base y) st = get_bracket site is_static (callee base undefined) y st

-- PutValue (6.2.5.6); the value is that of the whole
abbrev pub put_aim : Scope → Aim → Value → Place → Outcome
put_aim scope (name_aim site name) x st = put_name site name scope x st
put_aim scope (property_aim site base name) x st =
    written (set_row site base name x st.objects) st (λ st. done st (given x))
put_aim scope (bracket_aim site is_static base y) x st = set_bracket site is_static base y x st

-- ---- assignment (13.15.2)

-- behind the target of `=`: the right side, then the write; a property in brackets leaves the profile before the right side,
-- so far
abbrev pub plain_assign : Meaning → Calls → ℕ → Scope → Aim → Place → Outcome
plain_assign value calls k scope (bracket_aim site is_static base y) st = leaves site why.Key st
plain_assign value calls k scope a st = bind (value calls k scope st) (on_value (put_aim scope a))

-- behind the target of an operator and `=`: it is read, then the right side, the operator and the write
abbrev pub compound_assign : BinaryOp → ℕ → Meaning → Calls → ℕ → Scope → Aim → Place → Outcome
compound_assign op site value calls k scope a st =
    bind (get_aim scope a st) (on_value (λ x st. bind (value calls k scope st) (on_value (λ y st.
    bind (apply op site x y st) (on_value (put_aim scope a))))))

abbrev pub assign : Option BinaryOp → ℕ → Meaning → Calls → ℕ → Scope → Aim → Place → Outcome
assign None site = plain_assign
assign (Some op) site = compound_assign op site

-- ---- `++` and `--` (13.4)

-- the new value before its target, the old number behind it
abbrev pub step_value : Bool → Value → Value → Value
step_value true x y = y
step_value false x y = old_number x

abbrev pub step : StepOp → ℕ → Bool → Scope → Aim → Place → Outcome
step s site is_prefix scope a st =
    bind (get_aim scope a st) (on_value (λ x st. bind (play (step_row s site x) st) (on_value (λ y st.
    bind (put_aim scope a y st) (on_value (λ z st. done st (given (step_value is_prefix x z))))))))
