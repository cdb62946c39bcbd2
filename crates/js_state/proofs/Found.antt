-- What was found, or how the part ended instead.
use Rattle.std.proofs.Common.{◌≡◌, Result, Ok, Err, subst, refl}
use Rattle.term_table.specs.Views.{View}
use Rattle.term_table.specs.declared.shadow.Shadow.{Shadow}
use Rattle.js_meaning.specs.Values.{Value, Place}
use Rattle.js_meaning.specs.Running.{Outcome, done, Reference as Referred, on_value, on_reference}
use Rattle.js_state.specs.declared.completion.Completion.{Completion}
use Rattle.js_state.specs.declared.completion.Completion.TheVariants as c
use Rattle.js_state.specs.declared.completion.Reference.{Reference}
use Rattle.js_state.specs.Spending.{credit_of_given}
use Rattle.js_state.specs.Seen.{completion_at, MatchResult}

pub result_err : {A B : Type 0} {o : Result A Completion} {x : Outcome} {e : Completion} (view : View) (seen : A → B) (st : Place) (go : B → Place → Outcome) → o ≡ Err e → x ≡ MatchResult view seen o st go → x ≡ done st (completion_at view e)
result_err {A} {B} {o} {x} {e} view seen st go f h = subst (λ o. x ≡ MatchResult view seen o st go) f h

pub result_ok : {A B : Type 0} {o : Result A Completion} {x : Outcome} (view : View) (seen : A → B) (st : Place) (go : B → Place → Outcome) (k : A) → o ≡ Ok k → x ≡ MatchResult view seen o st go → x ≡ go (seen k) st
result_ok {A} {B} {o} {x} view seen st go k f h = subst (λ o. x ≡ MatchResult view seen o st go) f h

-- ---- completions that are neither value nor reference

pub value_passes : (view : View) (go : Value → Place → Outcome) (st : Place) (x : Completion) → ((s : Shadow) → x ≡ c.Value s → ⊥) → ((r : Reference) → x ≡ c.Refers r → ⊥) → on_value go st (completion_at view x) ≡ done st (completion_at view x)
value_passes view go st (c.Value s) n m = absurd (n s refl)
value_passes view go st (c.Refers r) n m = absurd (m r refl)
value_passes view go st c.Normal n m = refl
value_passes view go st c.Break n m = refl
value_passes view go st c.Continue n m = refl
value_passes view go st (c.Return s) n m = refl
value_passes view go st (c.Throw site s) n m = refl
value_passes view go st (c.Stop e) n m = refl

pub reference_passes : (view : View) (go : Referred → Place → Outcome) (st : Place) (x : Completion) → ((s : Shadow) → x ≡ c.Value s → ⊥) → ((r : Reference) → x ≡ c.Refers r → ⊥) → on_reference go st (completion_at view x) ≡ done st (completion_at view x)
reference_passes view go st (c.Value s) n m = absurd (n s refl)
reference_passes view go st (c.Refers r) n m = absurd (m r refl)
reference_passes view go st c.Normal n m = refl
reference_passes view go st c.Break n m = refl
reference_passes view go st c.Continue n m = refl
reference_passes view go st (c.Return s) n m = refl
reference_passes view go st (c.Throw site s) n m = refl
reference_passes view go st (c.Stop e) n m = refl

pub poor : (x : Completion) → ((s : Shadow) → x ≡ c.Value s → ⊥) → ((r : Reference) → x ≡ c.Refers r → ⊥) → credit_of_given x ≡ 0
poor (c.Value s) n m = absurd (n s refl)
poor (c.Refers r) n m = absurd (m r refl)
poor c.Normal n m = refl
poor c.Break n m = refl
poor c.Continue n m = refl
poor (c.Return s) n m = refl
poor (c.Throw site s) n m = refl
poor (c.Stop e) n m = refl
