-- Blocks, declarations, functions and calls keep exits apart.
use Rattle.std.proofs.Common.{ℕ, suc, ◌≡◌, ◌≤◌, ◌⊎◌, inl, inr, Bool, true, false, List, [], ◌∷◌, ◌++◌, All, length, nat_lt, Option, Some, None, refl, sym, subst, arith}
use Rattle.std.proofs.lemmas.Bool.{ltb-true, ltb-false}
use Rattle.std.proofs.lemmas.List.{get_or_past}
use Rattle.std.proofs.lemmas.List.Elements.{All-get_or}
use Rattle.path_core.specs.declared.path.ErrorName.TheVariants as kind
use Rattle.path_core.specs.declared.path.Why.{Why}
use Rattle.path_core.specs.declared.path.Why.TheVariants as why
use Rattle.js_ast.specs.declared.expression.Expr.TheOpen.{Stmt-F}
use Rattle.js_ast.specs.declared.statement.Stmt.{Stmt, out-Stmt}
use Rattle.js_ast.specs.declared.parts.Declarator.{Declarator}
use Rattle.js_ast.specs.declared.parts.Identifier.{Identifier}
use Rattle.js_meaning.specs.Values.{Value, undefined, null, truth, int, nan, text, object, Scope, Body, Code, Class, plain, array, matched, function, regexp, error, Object, Place}
use Rattle.js_meaning.specs.Running.{given, normal, Outcome, done, bind, on_value}
use Rattle.js_meaning.specs.Builtins.{Calls}
use Rattle.js_meaning.specs.Objects.{bare, object_at, code_in, code_of}
use Rattle.js_meaning.specs.Names.{init_name}
use Rattle.js_meaning.specs.Parts.{Meaning, make_function}
use Rattle.js_meaning.specs.Blocks.{Declaration, names_of, open_names, plain_code, function_expression, start_function, start_functions, run_all, block, initial, declare, first_of, rest_of, open_parameters, with_this, activate}
use Rattle.js_meaning.specs.Meaning.{body_of, returned, call}
use Rattle.js_meaning.specs.Apart.{Sites, nowhere, only, anywhere}
use Rattle.js_ends.proofs.Fresh.{moment, SpeltStatements, SpeltBody, SoundClass, SoundObject, Stands, Fresh, Sub, Off, fresh_wider}
use Rattle.js_ends.proofs.Forms.{done_fresh, error_fresh, open_fresh, open_deeper, new_fresh, turn_fresh, returned_fresh, Less}
use Rattle.js_ends.proofs.Binds.{Within, Steps, normal_bind}
use Rattle.js_ends.proofs.Names.{init_fresh}
use Rattle.js_ends.proofs.Lists.{CallsFresh, Part, within, part_value}

-- a statement between two places
pub record Doing (lo hi : ℕ) (m : Meaning) : Type 0 where
  pub le : lo ≤ hi
  pub good : (calls : Calls) → CallsFresh calls → (k : ℕ) (scope : Scope) (d : ℕ) → Steps nowhere (Within lo hi) (Within lo hi) d (m calls k scope)

pub doing_wider : {a b : ℕ} {m : Meaning} (lo hi : ℕ) → lo ≤ a → b ≤ hi → Doing a b m → Doing lo hi m
doing_wider lo hi l e p =
    record { le = omega (arith, l, e, p.le); good = λ calls c k scope d st s. fresh_wider nowhere (Within lo hi) (Within lo hi) (λ n w h. h) (within l e) (within l e) (p.good calls c k scope d st s) }

-- ---- names that are declared

abbrev pub NamesAt : Sites → List Declaration → Type 0
NamesAt F [] = Unit {0}
NamesAt F (d ∷ ds) = F d.site why.Size × NamesAt F ds

pub names_wider : (F G : Sites) (ds : List Declaration) → Sub F G → NamesAt F ds → NamesAt G ds
names_wider F G [] s h = tt
names_wider F G (d ∷ ds) s h = (s d.site why.Size h.0, names_wider F G ds s h.1)

pub names_more : (F : Sites) (ds es : List Declaration) → NamesAt F ds → NamesAt F es → NamesAt F (ds ++ es)
names_more F [] es h k = k
names_more F (d ∷ ds) es h k = (h.0, names_more F ds es h.1 k)

pub names_fresh : (Q F T : Sites) (d : ℕ) (ds : List Declaration) (scope : Scope) (st : Place)
    (go : Scope → Place → Outcome) → NamesAt F ds → Stands d st → ((scope : Scope) → Steps Q F T d (go scope)) →
    Fresh Q F T d (moment st) (open_names ds scope st go)
names_fresh Q F T d [] scope st go h s k = k scope st s
names_fresh Q F T d (x ∷ ds) scope st go h s k =
    open_fresh Q F T d x.site x.name x.is_mutable None scope st (λ scope st. open_names ds scope st go) h.0 s (λ scope st s. names_fresh Q F T d ds scope st go h.1 s k)

-- ---- functions that are made

pub function_fresh : (Q F T : Sites) (d site : ℕ) (code : Code) (st : Place) (go : Value → Place → Outcome) →
    F site why.Size → SpeltBody code.body → Stands d st → ((x : Value) → Steps Q F T d (go x)) →
    Fresh Q F T d (moment st) (make_function site code st go)
function_fresh Q F T d site code st go f h s k =
    new_fresh Q F T d site (function code) st (λ o. go (object o)) f h s (λ o. k (object o))

abbrev pub NameIn : Sites → Option Identifier → Type 0
NameIn F None = Unit {0}
NameIn F (Some name) = F name.site why.Size

pub expression_fresh : (F T : Sites) (d site : ℕ) (name : Option Identifier) (parameters : List Identifier)
    (body : List Stmt) (scope : Scope) (st : Place) → F site why.Size → NameIn F name → SpeltStatements body →
    Stands d st → Fresh nowhere F T d (moment st) (function_expression site name parameters body scope st)
expression_fresh F T d site None parameters body scope st f n h s =
    function_fresh nowhere F T d site (plain_code parameters body scope) st (λ f st. done st (given f)) f h s (λ x st s. done_fresh nowhere F T d st (given x) s tt tt)
expression_fresh F T d site (Some name) parameters body scope st f n h s =
    open_fresh nowhere F T d name.site name.name false None scope st (λ scope st. make_function site (plain_code parameters body scope) st (λ f st. done (init_name name.name scope f st) (given f))) n s
    (λ scope st s. function_fresh nowhere F T d site (plain_code parameters body scope) st (λ f st. done (init_name name.name scope f st) (given f)) f h s
    (λ x st s. init_fresh nowhere F T d name.name scope x st (λ st. done st (given x)) s (λ st s. done_fresh nowhere F T d st (given x) s tt tt)))

-- ---- what is done on entry

abbrev pub FunctionAt : {E A : Type 0} → Sites → Stmt-F E Stmt A → Type 0
FunctionAt F (Stmt-F.Function site name parameters body) = F site why.Size × SpeltStatements body
FunctionAt F _ = Unit {0}

abbrev pub FunctionsAt : Sites → List Stmt → Type 0
FunctionsAt F [] = Unit {0}
FunctionsAt F (s ∷ ss) = FunctionAt F (out-Stmt s) × FunctionsAt F ss

pub function_wider : {E A : Type 0} (F G : Sites) (f : Stmt-F E Stmt A) → Sub F G → FunctionAt F f → FunctionAt G f
function_wider F G (Stmt-F.Function site name parameters body) s h = (s site why.Size h.0, h.1)
function_wider F G (Stmt-F.Block site body) s h = tt
function_wider F G (Stmt-F.Nothing site) s h = tt
function_wider F G (Stmt-F.Declare site o ds) s h = tt
function_wider F G (Stmt-F.Express site value) s h = tt
function_wider F G (Stmt-F.If arms alternate) s h = tt
function_wider F G (Stmt-F.While site test body) s h = tt
function_wider F G (Stmt-F.Do site body test_site test) s h = tt
function_wider F G (Stmt-F.For site head test update body) s h = tt
function_wider F G (Stmt-F.ForOf site o name items body) s h = tt
function_wider F G (Stmt-F.Break site) s h = tt
function_wider F G (Stmt-F.Continue site) s h = tt
function_wider F G (Stmt-F.Return site value) s h = tt
function_wider F G (Stmt-F.Throw site value) s h = tt
function_wider F G (Stmt-F.Try site body c f) s h = tt

pub functions_wider : (F G : Sites) (ss : List Stmt) → Sub F G → FunctionsAt F ss → FunctionsAt G ss
functions_wider F G [] s h = tt
functions_wider F G (x ∷ ss) s h = (function_wider F G (out-Stmt x) s h.0, functions_wider F G ss s h.1)

start_fresh : {E A : Type 0} (F T : Sites) (d : ℕ) (f : Stmt-F E Stmt A) (scope : Scope) (st : Place)
    (go : Place → Outcome) → FunctionAt F f → Stands d st → Steps nowhere F T d go →
    Fresh nowhere F T d (moment st) (start_function f scope st go)
start_fresh F T d (Stmt-F.Function site name parameters body) scope st go h s k =
    function_fresh nowhere F T d site (plain_code parameters body scope) st (λ f st. go (init_name name.name scope f st)) h.0 h.1 s (λ x st s. init_fresh nowhere F T d name.name scope x st go s k)
start_fresh F T d (Stmt-F.Block site body) scope st go h s k = k st s
start_fresh F T d (Stmt-F.Nothing site) scope st go h s k = k st s
start_fresh F T d (Stmt-F.Declare site o ds) scope st go h s k = k st s
start_fresh F T d (Stmt-F.Express site value) scope st go h s k = k st s
start_fresh F T d (Stmt-F.If arms alternate) scope st go h s k = k st s
start_fresh F T d (Stmt-F.While site test body) scope st go h s k = k st s
start_fresh F T d (Stmt-F.Do site body test_site test) scope st go h s k = k st s
start_fresh F T d (Stmt-F.For site head test update body) scope st go h s k = k st s
start_fresh F T d (Stmt-F.ForOf site o name items body) scope st go h s k = k st s
start_fresh F T d (Stmt-F.Break site) scope st go h s k = k st s
start_fresh F T d (Stmt-F.Continue site) scope st go h s k = k st s
start_fresh F T d (Stmt-F.Return site value) scope st go h s k = k st s
start_fresh F T d (Stmt-F.Throw site value) scope st go h s k = k st s
start_fresh F T d (Stmt-F.Try site body c f) scope st go h s k = k st s

starts_fresh : (F T : Sites) (d : ℕ) (ss : List Stmt) (scope : Scope) (st : Place) (go : Place → Outcome) →
    FunctionsAt F ss → Stands d st → Steps nowhere F T d go →
    Fresh nowhere F T d (moment st) (start_functions ss scope st go)
starts_fresh F T d [] scope st go h s k = k st s
starts_fresh F T d (x ∷ ss) scope st go h s k =
    start_fresh F T d (out-Stmt x) scope st (λ st. start_functions ss scope st go) h.0 s (λ st s. starts_fresh F T d ss scope st go h.1 s k)

-- ---- blocks

abbrev pub DoingsIn : ℕ → ℕ → List Meaning → Type 0
DoingsIn lo hi [] = lo ≤ hi
DoingsIn lo hi (m ∷ ms) = (mid : ℕ) × Doing lo mid m × DoingsIn mid hi ms

doings_le : (lo hi : ℕ) (ms : List Meaning) → DoingsIn lo hi ms → lo ≤ hi
doings_le lo hi [] h = h
doings_le lo hi (m ∷ ms) h = omega (arith, h.1.le, doings_le h.0 hi ms h.2)

run_fresh : (lo hi : ℕ) (ms : List Meaning) → DoingsIn lo hi ms → (calls : Calls) → CallsFresh calls → (k : ℕ)
    (scope : Scope) (d : ℕ) → Steps nowhere (Within lo hi) (Within lo hi) d (run_all ms calls k scope)
run_fresh lo hi [] h calls c k scope d st s = done_fresh nowhere (Within lo hi) (Within lo hi) d st normal s tt tt
run_fresh lo hi (m ∷ ms) (mid, p, h) calls c k scope d st s =
    normal_bind (Within mid hi) (Within mid hi) (Within lo hi) (Within lo hi) (m calls k scope st) (run_all ms calls k scope)
    (within (omega arith) (doings_le mid hi ms h)) (within p.le (omega arith)) (within (omega arith) (doings_le mid hi ms h)) (within p.le (omega arith)) (λ n w i j. omega (arith, i.1, j.0)) (p.good calls c k scope d st s)
    (λ st s. run_fresh mid hi ms h calls c k scope d st s)

-- statements between two places, with the names and functions that they declare
pub record Doings (lo hi : ℕ) (ss : List Stmt) (ms : List Meaning) : Type 0 where
  pub names : NamesAt (Within lo hi) (names_of ss)
  pub functions : FunctionsAt (Within lo hi) ss
  pub all : DoingsIn lo hi ms

pub doings_between : (lo hi : ℕ) (ss : List Stmt) (ms : List Meaning) → Doings lo hi ss ms → lo ≤ hi
doings_between lo hi ss ms h = doings_le lo hi ms h.all

pub block_part : (lo hi : ℕ) (ss : List Stmt) (ms : List Meaning) → Doings lo hi ss ms → Doing lo hi (block ss ms)
block_part lo hi ss ms h =
    record {
      le = doings_le lo hi ms h.all;
      good = λ calls c k scope d st s. names_fresh nowhere (Within lo hi) (Within lo hi) d (names_of ss) scope st (λ scope st. start_functions ss scope st (run_all ms calls k scope)) h.names s
          (λ scope st s. starts_fresh (Within lo hi) (Within lo hi) d ss scope st (run_all ms calls k scope) h.functions s (λ st s. run_fresh lo hi ms h.all calls c k scope d st s));
    }

-- ---- declarations

abbrev pub InitialIn : {E : Type 0} → (E → Meaning) → ℕ → ℕ → Option E → Type 0
InitialIn run lo hi None = lo ≤ hi
InitialIn run lo hi (Some e) = Part lo hi (run e)

abbrev pub DeclaratorsIn : {E : Type 0} → (E → Meaning) → ℕ → ℕ → List (Declarator E) → Type 0
DeclaratorsIn run lo hi [] = lo ≤ hi
DeclaratorsIn run lo hi (x ∷ ds) = (mid : ℕ) × (lo ≤ x.name.site) × InitialIn run (suc x.name.site) mid x.value × DeclaratorsIn run mid hi ds

pub initial_le : {E : Type 0} (run : E → Meaning) (lo hi : ℕ) (o : Option E) → InitialIn run lo hi o → lo ≤ hi
initial_le run lo hi None h = h
initial_le run lo hi (Some e) h = h.le

pub declarators_le : {E : Type 0} (run : E → Meaning) (lo hi : ℕ) (ds : List (Declarator E)) →
    DeclaratorsIn run lo hi ds → lo ≤ hi
declarators_le run lo hi [] h = h
declarators_le run lo hi (x ∷ ds) (mid, at, i, h) =
    omega (arith, at, initial_le run (suc x.name.site) mid x.value i, declarators_le run mid hi ds h)

-- the places of the names
abbrev pub NameOf : {E : Type 0} → List (Declarator E) → Sites
NameOf [] n w = ⊥
NameOf (x ∷ ds) n w = (n ≡ x.name.site) ⊎ NameOf ds n w

pub name_of_within : {E : Type 0} (run : E → Meaning) (lo hi : ℕ) (ds : List (Declarator E)) →
    DeclaratorsIn run lo hi ds → Sub (NameOf ds) (Within lo hi)
name_of_within run lo hi [] h n w u = absurd u
name_of_within run lo hi (x ∷ ds) (mid, at, i, h) n w (inl e) =
    let l = initial_le run (suc x.name.site) mid x.value i in
    let m = declarators_le run mid hi ds h in
    (omega (arith, e, at), omega (arith, e, l, m))
name_of_within run lo hi (x ∷ ds) (mid, at, i, h) n w (inr u) =
    let l = initial_le run (suc x.name.site) mid x.value i in
    let j = name_of_within run mid hi ds h n w u in
    (omega (arith, at, l, j.0), j.1)

initial_value : {E : Type 0} (run : E → Meaning) (a b : ℕ) (o : Option E) → InitialIn run a b o → (R G U H V : Sites)
    (calls : Calls) → CallsFresh calls → (k : ℕ) (scope : Scope) (d : ℕ) (st : Place) (go : Value → Place → Outcome) →
    Sub (Within a b) H → Sub G H → Sub (Within a b) V → Sub U V → Off (Within a b) G → Stands d st →
    ((x : Value) → Steps R G U d (go x)) →
    Fresh R H V d (moment st) (bind (initial run o calls k scope st) (on_value go))
initial_value run a b None i R G U H V calls c k scope d st go h gh v uv o s f =
    fresh_wider R H V (λ n w h. h) gh uv (f undefined st s)
initial_value run a b (Some e) i R G U H V calls c k scope d st go h gh v uv o s f =
    part_value i R G U H V calls c k scope d st go h gh v uv o s f

-- at the names themselves no exit is passed
pub declare_fresh : {E : Type 0} (run : E → Meaning) (lo hi : ℕ) (ds : List (Declarator E)) → DeclaratorsIn run lo hi ds →
    (calls : Calls) → CallsFresh calls → (k : ℕ) (scope : Scope) (d : ℕ) →
    Steps nowhere (Within lo hi) (Less (Within lo hi) (NameOf ds)) d (declare run ds calls k scope)
declare_fresh {E} run lo hi [] h calls c k scope d st s =
    done_fresh nowhere (Within lo hi) (Less (Within lo hi) (NameOf {E = E} [])) d st normal s tt tt
declare_fresh {E} run lo hi (x ∷ ds) (mid, at, i, h) calls c k scope d st s =
    initial_value run (suc x.name.site) mid x.value i nowhere (Within mid hi) (Less (Within mid hi) (NameOf ds)) (Within lo hi) (Less (Within lo hi) (NameOf (x ∷ ds))) calls c k scope d st (λ y st. declare run ds calls k scope (init_name x.name.name scope y st))
    first later (λ n w j. (first n w j, first_not n w j)) (λ n w j. (later n w j.0, later_not n w j.0 j.1)) (λ n w j g. omega (arith, j.1, g.0)) s
    (λ y st s. init_fresh nowhere (Within mid hi) (Less (Within mid hi) (NameOf ds)) d x.name.name scope y st (declare run ds calls k scope) s (λ st s. declare_fresh run mid hi ds h calls c k scope d st s))
  where
    l : suc x.name.site ≤ mid
    l = initial_le run (suc x.name.site) mid x.value i

    m : mid ≤ hi
    m = declarators_le run mid hi ds h

    first : Sub (Within (suc x.name.site) mid) (Within lo hi)
    first = within (omega (arith, at)) m

    later : Sub (Within mid hi) (Within lo hi)
    later = within (omega (arith, at, l)) (omega arith)

    first_not : (n : ℕ) (w : Why) → Within (suc x.name.site) mid n w → NameOf (x ∷ ds) n w → ⊥
    first_not n w j (inl e) = omega (arith, j.0, e)
    first_not n w j (inr u) = let v = name_of_within run mid hi ds h n w u in omega (arith, j.1, v.0)

    later_not : (n : ℕ) (w : Why) → Within mid hi n w → (NameOf ds n w → ⊥) → NameOf (x ∷ ds) n w → ⊥
    later_not n w j f (inl e) = omega (arith, j.0, e, l)
    later_not n w j f (inr u) = f u

-- ---- calls

parameters_fresh : (Q T : Sites) (d c : ℕ) (ps : List Identifier) (xs : List Value) (scope : Scope) (st : Place)
    (go : Scope → Place → Outcome) → d ≤ c → Stands c st →
    ((scope : Scope) (st : Place) → Stands c st → Fresh Q anywhere T d (moment st) (go scope st)) →
    Fresh Q anywhere T d (moment st) (open_parameters ps xs scope st go)
parameters_fresh Q T d c [] xs scope st go l s k = k scope st s
parameters_fresh Q T d c (p ∷ ps) xs scope st go l s k =
    open_deeper Q anywhere T d c p.site p.name true (Some (first_of xs)) scope st (λ scope st. open_parameters ps (rest_of xs) scope st go) tt l s (λ scope st s. parameters_fresh Q T d c ps (rest_of xs) scope st go l s k)

activate_fresh : (Q T : Sites) (d site : ℕ) (code : Code) (this : Value) (xs : List Value) (st : Place)
    (go : Scope → Place → Outcome) → Stands d st →
    ((scope : Scope) (st : Place) → Stands (suc d) st → Fresh Q anywhere T d (moment st) (go scope st)) →
    Fresh Q nowhere T d (moment st) (activate site code this xs st go)
activate_fresh Q T d site code this xs st go s k =
    turn_fresh Q anywhere T d site st (λ st. open_parameters code.parameters xs (with_this code.is_arrow this code.scope) st go) s
    (λ st s. parameters_fresh Q T d (suc d) code.parameters xs (with_this code.is_arrow this code.scope) st go (omega arith) s k)

-- what a function does, wherever it is begun
pub record BodyFresh (calls : Calls) (k : ℕ) (body : Body) : Type 0 where
  pub fresh : (scope : Scope) (d : ℕ) (st : Place) → Stands d st → Fresh nowhere anywhere anywhere d (moment st) (body_of body calls k scope st)

pub call_fresh : (calls : Calls) (k d site : ℕ) (o : Option Code) (this : Value) (xs : List Value) (st : Place) →
    ((code : Code) → o ≡ Some code → BodyFresh calls k code.body) → Stands d st →
    Fresh nowhere (only site) nowhere d (moment st) (call o calls k site this xs st)
call_fresh calls k d site None this xs st b s = error_fresh nowhere (only site) nowhere d site kind.TypeError st refl s
call_fresh calls k d site (Some code) this xs st b s =
    fresh_wider nowhere (only site) nowhere (λ n w h. h) (λ n w h. absurd h) (λ n w h. h)
    (activate_fresh nowhere nowhere d site code this xs st (λ scope st. bind (body_of code.body calls k scope st) returned) s
    (λ scope st s. returned_fresh nowhere anywhere anywhere d (moment st) (body_of code.body calls k scope st) ((b code refl).fresh scope (suc d) st s)))

abbrev pub SoundCode : Option Code → Type 0
SoundCode None = Unit {0}
SoundCode (Some code) = SpeltBody code.body

code_in_sound : (c : Class) → SoundClass c → SoundCode (code_in c)
code_in_sound plain h = tt
code_in_sound array h = tt
code_in_sound matched h = tt
code_in_sound (function code) h = h
code_in_sound (regexp at p) h = tt
code_in_sound (error name engine) h = tt

object_sound : (objects : List Object) (o : ℕ) → All SoundObject objects → SoundClass (object_at objects o).class
object_sound objects o h = here (nat_lt o (length objects)) refl
  where
    here : (b : Bool) → nat_lt o (length objects) ≡ b → SoundClass (object_at objects o).class
    here true p = All-get_or SoundObject objects o bare (ltb-true o (length objects) p) h
    here false p = subst (λ (x : Object). SoundClass x.class) (sym (get_or_past objects o bare (ltb-false o (length objects) p))) tt

pub code_sound : (f : Value) (objects : List Object) → All SoundObject objects → SoundCode (code_of f objects)
code_sound (object o) objects h = code_in_sound (object_at objects o).class (object_sound objects o h)
code_sound undefined objects h = tt
code_sound null objects h = tt
code_sound (truth b) objects h = tt
code_sound (int n) objects h = tt
code_sound nan objects h = tt
code_sound (text t) objects h = tt
