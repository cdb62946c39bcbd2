-- Names are read, written and initialised: their exits are at the name, and none is passed.
use Rattle.std.proofs.Common.{ℕ, Bool, true, false, Option, Some, None, slice_get, slice_set}
use Rattle.path_core.specs.declared.path.ErrorName.TheVariants as kind
use Rattle.path_core.specs.declared.path.Why.TheVariants as why
use Rattle.js_meaning.specs.Values.{Text, Value, Scope, Binding, Place}
use Rattle.js_meaning.specs.Running.{given, refers, intrinsic, Outcome, done}
use Rattle.js_meaning.specs.Builtins.{builtin_value}
use Rattle.js_meaning.specs.Names.{Found, bound, supplied, listed, nowhere as missing, find_name, binding_of, read_value, read_binding, read_builtin, read_found, read_name, write_in, write_found, init_name, put_mutable, put_value, put_binding, put_found, put_name}
use Rattle.js_meaning.specs.Apart.{Sites}
use Rattle.js_ends.proofs.Fresh.{moment, Stands, Fresh}
use Rattle.js_ends.proofs.Forms.{done_fresh, leaves_fresh, error_fresh}
use Rattle.js_ends.proofs.Binds.{Steps}

pub found_fresh : (Q F T : Sites) (d site : ℕ) (name : Text) (f : Found) (st : Place) → F site why.Size →
    Q site why.Builtin → Stands d st → Fresh Q F T d (moment st) (read_found site name f st)
found_fresh Q F T d site name f st e u s = found f
  where
    value : (x : Option Value) → Fresh Q F T d (moment st) (read_value site x st)
    value None = error_fresh Q F T d site kind.ReferenceError st e s
    value (Some x) = done_fresh Q F T d st (given x) s tt tt

    binding : (b : Option Binding) → Fresh Q F T d (moment st) (read_binding site b st)
    binding None = leaves_fresh Q F T d site why.Name st (λ g. absurd g) s
    binding (Some b) = value b.value

    builtin : (x : Option Value) → Fresh Q F T d (moment st) (read_builtin site name x st)
    builtin None = done_fresh Q F T d st (refers (intrinsic site name)) s tt u
    builtin (Some x) = done_fresh Q F T d st (given x) s tt tt

    found : (f : Found) → Fresh Q F T d (moment st) (read_found site name f st)
    found (bound k) = binding (slice_get st.cells k)
    found (supplied x) = done_fresh Q F T d st (given x) s tt tt
    found listed = builtin (builtin_value name)
    found missing = leaves_fresh Q F T d site why.Name st (λ g. absurd g) s

pub read_fresh : (Q F T : Sites) (d site : ℕ) (name : Text) (scope : Scope) (st : Place) → F site why.Size →
    Q site why.Builtin → Stands d st → Fresh Q F T d (moment st) (read_name site name scope st)
unfolding read_name
read_fresh Q F T d site name scope st e u s = found_fresh Q F T d site name (find_name scope name st) st e u s

written_in : (Q F T : Sites) (d k : ℕ) (x : Value) (st : Place) (b : Option Binding) (go : Place → Outcome) →
    Steps Q F T d go → Stands d st → Fresh Q F T d (moment st) (go (write_in b k x st))
written_in Q F T d k x st None go g s = g st s
written_in Q F T d k x st (Some b) go g s =
    g (record st { cells = slice_set st.cells k (record b { value = Some x }) }) (record { codes = s.codes; within = s.within; few = s.few; less = s.less })

pub put_fresh : (Q F T : Sites) (d site : ℕ) (name : Text) (scope : Scope) (x : Value) (st : Place) → F site why.Size →
    F site why.Builtin → Stands d st → Fresh Q F T d (moment st) (put_name site name scope x st)
unfolding put_name
put_fresh Q F T d site name scope x st e u s = found (find_name scope name st)
  where
    mutable : (k : ℕ) (b : Bool) → Fresh Q F T d (moment st) (put_mutable site k x b st)
    mutable k true = written_in Q F T d k x st (slice_get st.cells k) (λ st. done st (given x)) (λ st s. done_fresh Q F T d st (given x) s tt tt) s
    mutable k false = error_fresh Q F T d site kind.TypeError st e s

    value : (k : ℕ) (b : Binding) (y : Option Value) → Fresh Q F T d (moment st) (put_value site k x b y st)
    value k b None = error_fresh Q F T d site kind.ReferenceError st e s
    value k b (Some y) = mutable k b.is_mutable

    binding : (k : ℕ) (b : Option Binding) → Fresh Q F T d (moment st) (put_binding site k x b st)
    binding k None = leaves_fresh Q F T d site why.Name st (λ g. absurd g) s
    binding k (Some b) = value k b b.value

    found : (f : Found) → Fresh Q F T d (moment st) (put_found site x f st)
    found (bound k) = binding k (slice_get st.cells k)
    found (supplied y) = error_fresh Q F T d site kind.TypeError st e s
    found listed = leaves_fresh Q F T d site why.Builtin st (λ g. u) s
    found missing = leaves_fresh Q F T d site why.Name st (λ g. absurd g) s

-- a name is initialised, and it goes on from there
pub init_fresh : (Q F T : Sites) (d : ℕ) (name : Text) (scope : Scope) (x : Value) (st : Place) (go : Place → Outcome) →
    Stands d st → Steps Q F T d go → Fresh Q F T d (moment st) (go (init_name name scope x st))
unfolding init_name
init_fresh Q F T d name scope x st go s k = found (binding_of scope name st)
  where
    found : (o : Option ℕ) → Fresh Q F T d (moment st) (go (write_found o x st))
    found None = k st s
    found (Some i) = written_in Q F T d i x st (slice_get st.cells i) go k s
