-- What a for-of runs over, by the kind of the value.
use Rattle.std.proofs.Common.{◌≡◌, ℕ, ℤ, Bool, true, false, Option, Some, None, refl, ap, ◌∙◌, if◌then◌else◌}
use Rattle.path_core.specs.declared.path.ErrorName.TheVariants as kind
use Rattle.path_core.specs.declared.path.Why.TheVariants as why
use Rattle.term_table.specs.declared.term.TermId.{TermId}
use Rattle.term_table.specs.declared.shadow.Plain.{Plain}
use Rattle.term_table.specs.declared.shadow.Plain.TheVariants as plain
use Rattle.term_table.specs.declared.shadow.Shadow.{Shadow}
use Rattle.term_table.specs.Views.{View, Valuation, at, plain_value, with_term}
use Rattle.js_meaning.specs.Values.{Text, Value, int, nan, object, Place}
use Rattle.js_meaning.specs.Running.{Outcome, leaves, throw_error}
use Rattle.js_meaning.specs.Objects.{object_at, is_array}
use Rattle.js_meaning.specs.Loops.{of_start}

abbrev Starts : Type 0
Starts = ℕ → Place → Outcome

object_with : (v : Valuation) (t : Option TermId) (o : ℕ) → with_term v (plain.Object o) t ≡ object o
object_with v None o = refl
object_with v (Some t) o = refl

object_seen : (view : View) (s : Shadow) (o : ℕ) → s.plain ≡ plain.Object o → at view s ≡ object o
object_seen None s o e = ap plain_value e
object_seen (Some v) s o e = ap (λ (p : Plain). with_term v p s.term) e ∙ object_with v s.term o

pub object_starts : (view : View) (s : Shadow) (o site : ℕ) (go : Starts) (st : Place) → s.plain ≡ plain.Object o →
    of_start site go (at view s) st ≡ (if is_array (object_at st.objects o).class then go o st else throw_error site kind.TypeError st)
object_starts view s o site go st e = ap {B = Outcome} (λ (x : Value). of_start site go x st) (object_seen view s o e)

text_with : (v : Valuation) (t : Option TermId) (s : Text) (site : ℕ) (go : Starts) (st : Place) → of_start site go (with_term v (plain.Text s) t) st ≡ leaves site why.Iterate st
text_with v None s site go st = refl
text_with v (Some t) s site go st = refl

pub text_starts : (view : View) (s : Shadow) (t : Text) (site : ℕ) (go : Starts) (st : Place) → s.plain ≡ plain.Text t → of_start site go (at view s) st ≡ leaves site why.Iterate st
text_starts None s t site go st e = ap {B = Outcome} (λ (p : Plain). of_start site go (plain_value p) st) e
text_starts (Some v) s t site go st e = ap {B = Outcome} (λ (p : Plain). of_start site go (with_term v p s.term) st) e ∙ text_with v s.term t site go st

-- anything else throws

plain_throws : (p : Plain) (site : ℕ) (go : Starts) (st : Place) → ((o : ℕ) → p ≡ plain.Object o → ⊥) → ((t : Text) → p ≡ plain.Text t → ⊥) → of_start site go (plain_value p) st ≡ throw_error site kind.TypeError st
plain_throws plain.Undefined site go st n m = refl
plain_throws plain.Null site go st n m = refl
plain_throws (plain.Bool b) site go st n m = refl
plain_throws (plain.Int k) site go st n m = refl
plain_throws plain.NotNumber site go st n m = refl
plain_throws (plain.Text t) site go st n m = absurd (m t refl)
plain_throws (plain.Object o) site go st n m = absurd (n o refl)

number_throws : (b : Bool) (k : ℤ) (site : ℕ) (go : Starts) (st : Place) → of_start site go (if b then nan else int k) st ≡ throw_error site kind.TypeError st
number_throws true k site go st = refl
number_throws false k site go st = refl

with_throws : (v : Valuation) (p : Plain) (t : Option TermId) (site : ℕ) (go : Starts) (st : Place) → ((o : ℕ) → p ≡ plain.Object o → ⊥) → ((t : Text) → p ≡ plain.Text t → ⊥) → of_start site go (with_term v p t) st ≡ throw_error site kind.TypeError st
with_throws v p None site go st n m = plain_throws p site go st n m
with_throws v plain.Undefined (Some t) site go st n m = refl
with_throws v plain.Null (Some t) site go st n m = refl
with_throws v (plain.Bool b) (Some t) site go st n m = refl
with_throws v (plain.Int k) (Some t) site go st n m = number_throws _ _ site go st
with_throws v plain.NotNumber (Some t) site go st n m = number_throws _ _ site go st
with_throws v (plain.Text s) (Some t) site go st n m = absurd (m s refl)
with_throws v (plain.Object o) (Some t) site go st n m = absurd (n o refl)

pub other_throws : (view : View) (s : Shadow) (site : ℕ) (go : Starts) (st : Place) → ((o : ℕ) → s.plain ≡ plain.Object o → ⊥) → ((t : Text) → s.plain ≡ plain.Text t → ⊥) → of_start site go (at view s) st ≡ throw_error site kind.TypeError st
other_throws None s site go st n m = plain_throws s.plain site go st n m
other_throws (Some v) s site go st n m = with_throws v s.plain s.term site go st n m
