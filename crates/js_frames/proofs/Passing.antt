-- What frames do with a completion that they don't wait for, tests, and lists of parts.
use Rattle.std.proofs.Common.{◌≡◌, ◌≤◌, ◌<◌, ℕ, suc, ◌-◌, Bool, List, [], ◌∷◌, length, get_or, take, drop, Option, Some, None, Result, Ok, Err, refl, ap, sym, subst, arith}
use Rattle.std.proofs.lemmas.List.{take_all}
use Rattle.path_core.specs.declared.path.End.{End}
use Rattle.js_ast.specs.declared.parts.Catch.{Catch}
use Rattle.js_ast.specs.declared.statement.Stmt.{Stmt}
use Rattle.term_table.specs.declared.shadow.Shadow.{Shadow}
use Rattle.term_table.specs.declared.shadow.Plain.TheVariants as plain
use Rattle.term_table.specs.Views.{View}
use Rattle.term_table.proofs.Views.{at_plain}
use Rattle.js_meaning.specs.Values.{Value, undefined, object, Object, Scope, Place}
use Rattle.js_meaning.specs.Objects.{bracket_row, get_bracket}
use Rattle.js_meaning.specs.Running.{Completion as Ending, callee, given, Outcome, done, bind, play, on_value, on_normal}
use Rattle.js_meaning.specs.Conversions.{to_boolean}
use Rattle.js_meaning.specs.Parts.{Meaning}
use Rattle.js_meaning.specs.Loops.{after_body, kept}
use Rattle.js_meaning.specs.Meaning.{caught, finished, block_of}
use Rattle.js_state.specs.declared.completion.Completion.{Completion}
use Rattle.js_state.specs.declared.completion.Completion.TheVariants as c
use Rattle.js_state.specs.Fitting.{Shadows, InCompletion, IsStop, ErrStops}
use Rattle.js_state.specs.Held.{Contents}
use Rattle.js_state.specs.Seen.{place_of, completion_at, MatchResult}
use Rattle.js_state.specs.Playing.{Does, told}
use Rattle.js_frames.specs.declared.frames.Frame.{Frame}
use Rattle.js_frames.specs.Machine.{Fuel, calling, Goes}
use Rattle.js_frames.proofs.Steps.{plays, both, stays, still}

-- ---- completions that pass

pub normal_passes : (view : View) (go : Place → Outcome) (st : Place) (x : Completion) → (x ≡ c.Normal → ⊥) → on_normal go st (completion_at view x) ≡ done st (completion_at view x)
normal_passes view go st (c.Value s) n = refl
normal_passes view go st (c.Refers r) n = refl
normal_passes view go st c.Normal n = absurd (n refl)
normal_passes view go st c.Break n = refl
normal_passes view go st c.Continue n = refl
normal_passes view go st (c.Return s) n = refl
normal_passes view go st (c.Throw site s) n = refl
normal_passes view go st (c.Stop e) n = refl

pub body_passes : (view : View) (go : Place → Outcome) (st : Place) (x : Completion) → (x ≡ c.Normal → ⊥) → (x ≡ c.Continue → ⊥) → (x ≡ c.Break → ⊥) → after_body go st (completion_at view x) ≡ done st (completion_at view x)
body_passes view go st (c.Value s) n k m = refl
body_passes view go st (c.Refers r) n k m = refl
body_passes view go st c.Normal n k m = absurd (n refl)
body_passes view go st c.Break n k m = absurd (m refl)
body_passes view go st c.Continue n k m = absurd (k refl)
body_passes view go st (c.Return s) n k m = refl
body_passes view go st (c.Throw site s) n k m = refl
body_passes view go st (c.Stop e) n k m = refl

pub catch_passes : (view : View) (w : Fuel) (catch : Option (Catch (List (Stmt × Meaning)))) (scope : Scope) (st : Place) (x : Completion) → ((site : ℕ) (s : Shadow) → x ≡ c.Throw site s → ⊥) → caught catch (calling w) w.loops scope st (completion_at view x) ≡ done st (completion_at view x)
catch_passes view w None scope st x n = refl
catch_passes view w (Some k) scope st (c.Value s) n = refl
catch_passes view w (Some k) scope st (c.Refers r) n = refl
catch_passes view w (Some k) scope st c.Normal n = refl
catch_passes view w (Some k) scope st c.Break n = refl
catch_passes view w (Some k) scope st c.Continue n = refl
catch_passes view w (Some k) scope st (c.Return s) n = refl
catch_passes view w (Some k) scope st (c.Throw site s) n = absurd (n site s refl)
catch_passes view w (Some k) scope st (c.Stop e) n = refl

pub kept_passes : (view : View) (e : Ending) (st : Place) (x : Completion) → (x ≡ c.Normal → ⊥) → kept e st (completion_at view x) ≡ done st (completion_at view x)
kept_passes view e st (c.Value s) n = refl
kept_passes view e st (c.Refers r) n = refl
kept_passes view e st c.Normal n = absurd (n refl)
kept_passes view e st c.Break n = refl
kept_passes view e st c.Continue n = refl
kept_passes view e st (c.Return s) n = refl
kept_passes view e st (c.Throw site s) n = refl
kept_passes view e st (c.Stop x) n = refl

pub finish_none : (view : View) (w : Fuel) (scope : Scope) (st : Place) (x : Completion) → finished None (calling w) w.loops scope st (completion_at view x) ≡ done st (completion_at view x)
finish_none view w scope st (c.Value s) = refl
finish_none view w scope st (c.Refers r) = refl
finish_none view w scope st c.Normal = refl
finish_none view w scope st c.Break = refl
finish_none view w scope st c.Continue = refl
finish_none view w scope st (c.Return s) = refl
finish_none view w scope st (c.Throw site s) = refl
finish_none view w scope st (c.Stop x) = refl

pub finish_some : (view : View) (w : Fuel) (ms : List (Stmt × Meaning)) (scope : Scope) (st : Place) (x : Completion) → ((e : End) → x ≡ c.Stop e → ⊥) → finished (Some ms) (calling w) w.loops scope st (completion_at view x) ≡ bind (block_of ms (calling w) w.loops scope st) (kept (completion_at view x))
finish_some view w ms scope st (c.Value s) n = refl
finish_some view w ms scope st (c.Refers r) n = refl
finish_some view w ms scope st c.Normal n = refl
finish_some view w ms scope st c.Break n = refl
finish_some view w ms scope st c.Continue n = refl
finish_some view w ms scope st (c.Return s) n = refl
finish_some view w ms scope st (c.Throw site s) n = refl
finish_some view w ms scope st (c.Stop x) n = absurd (n x refl)

-- ---- a test has made its event

told_passes : (view : View) (o : Result Bool Completion) (st : Place) (go : Bool → Place → Outcome) → ErrStops o → on_value (λ b st. go (to_boolean b) st) st (completion_at view (told o)) ≡ MatchResult view (λ b. b) o st go
told_passes view (Ok b) st go e = ap (λ x. go (to_boolean x) st) (at_plain view (plain.Bool b))
told_passes view (Err (c.Stop end)) st go e = refl
told_passes view (Err (c.Value s)) st go e = absurd e
told_passes view (Err (c.Refers r)) st go e = absurd e
told_passes view (Err c.Normal) st go e = absurd e
told_passes view (Err c.Break) st go e = absurd e
told_passes view (Err c.Continue) st go e = absurd e
told_passes view (Err (c.Return s)) st go e = absurd e
told_passes view (Err (c.Throw site s)) st go e = absurd e

-- a row of a test was taken up, before what follows its outcome
pub tells : {old new : Contents} {fs : List Frame} {part : View → Outcome} (o : Result Bool Completion) (rest : View → Fuel → Bool → Place → Outcome) → Does old new part (told o) → ErrStops o → new.turns ≡ old.turns →
    Goes old fs (λ view w. bind (part view) (on_value (λ b st. rest view w (to_boolean b) st))) new fs (λ view w. MatchResult view (λ b. b) o (place_of view new) (rest view w))
tells {old} {new} {fs} {part} o rest d e t =
    both (plays (λ view w. on_value (λ b st. rest view w (to_boolean b) st)) d (omega (arith, t)) (λ view w st end. refl))
    (stays still refl (λ view w. told_passes view o (place_of view new) (rest view w) e))

-- ---- lists of parts

pub list_none : {A : Type 0} (xs : List A) → length xs < 1 → xs ≡ []
list_none [] l = refl
list_none (x ∷ xs) l = absurd (omega (arith, l))

pub list_more : {A : Type 0} (xs : List A) (x : A) → 1 ≤ length xs → x ≡ get_or xs 0 x → xs ≡ x ∷ take (length xs - 1) (drop 1 xs)
list_more [] x l e = absurd (omega (arith, l))
list_more (y ∷ ys) x l e = rw (e, take_all (suc (length ys) - 1) ys (omega arith)) refl

-- ---- a stop fits every table, and brings nothing

pub stop_fits : (P : Shadows) (x : Completion) → IsStop x → InCompletion P x
stop_fits P (c.Stop end) s = tt
stop_fits P (c.Value v) s = absurd s
stop_fits P (c.Refers r) s = absurd s
stop_fits P c.Normal s = absurd s
stop_fits P c.Break s = absurd s
stop_fits P c.Continue s = absurd s
stop_fits P (c.Return v) s = absurd s
stop_fits P (c.Throw site v) s = absurd s

pub err_stops : {A : Type 0} {o : Result A Completion} {x : Completion} → ErrStops o → o ≡ Err x → IsStop x
err_stops {A} {o} {x} s e = subst (λ (o : Result A Completion). ErrStops o) e s

pub gives_object : (view : View) (st : Place) (o : ℕ) → done st (given (object o)) ≡ done st (completion_at view (c.Value (record { plain = plain.Object o; term = None })))
gives_object view st o = ap (λ x. done st (given x)) (sym (at_plain view (plain.Object o)))

-- ---- a key in brackets asks for no `this`

bracket_this : (site : ℕ) (is_static : Bool) (x this y : Value) (objects : List Object) → bracket_row site is_static (callee x this) y objects ≡ bracket_row site is_static (callee x undefined) y objects
unfolding bracket_row
bracket_this site is_static x this y objects = refl

pub brackets : (site : ℕ) (is_static : Bool) (x this : Value) → get_bracket site is_static (callee x this) ≡ get_bracket site is_static (callee x undefined)
brackets site is_static x this = λ i y st. play (bracket_this site is_static x this y st.objects i) st
