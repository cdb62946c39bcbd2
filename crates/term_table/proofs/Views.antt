-- What a view keeps of plain contents, and what a longer table asks of it.
use Rattle.std.proofs.Common.{◌≡◌, ℕ, zero, suc, Bool, true, false, List, [], ◌∷◌, ◌++◌, slice_get, Option, Some, None, refl, sym, ap, subst, ◌∙◌, arith}
use Rattle.path_core.specs.declared.path.Event.{Event}
use Rattle.path_core.specs.declared.path.Event.TheVariants as event
use Rattle.js_meaning.specs.Values.{Value}
use Rattle.term_table.specs.declared.term.Term.{Term}
use Rattle.term_table.specs.declared.term.Term.TheVariants as term
use Rattle.term_table.specs.declared.term.TermId.{TermId}
use Rattle.term_table.specs.declared.shadow.Plain.{Plain}
use Rattle.term_table.specs.declared.shadow.Plain.TheVariants as plain
use Rattle.term_table.specs.declared.shadow.Shadow.{Shadow}
use Rattle.term_table.specs.declared.moves.Choice.TheVariants as choice
use Rattle.term_table.specs.Growing.{Grown, IsAdded}
use Rattle.term_table.specs.Views.{View, Valuation, Values, IsValue, TermValue, flag, whole, string, as_flag, as_whole, as_text, Agrees, at, plain_value, with_term, passes, holds, seen, bit, size}
use Rattle.term_table.proofs.Adding.{stays}

-- ---- a longer table

pub agrees_before : (view : View) (old new : List Term) → Grown old new → Agrees view new → Agrees view old
agrees_before None old new g a = tt
agrees_before (Some v) old new g a = record { each = λ id t h. a.each id t (stays old new id t g h); none = a.none }

-- ---- plain contents

pub at_plain : (view : View) (p : Plain) → at view (record { plain = p; term = None }) ≡ plain_value p
at_plain None p = refl
at_plain (Some v) p = refl

pub at_bare : (view : View) (s : Shadow) → s.term ≡ None → at view s ≡ plain_value s.plain
at_bare None s h = refl
at_bare (Some v) s h = ap (λ (t : Option TermId). with_term v s.plain t) h

-- ---- constants

pub passes_flag : (view : View) (terms : List Term) (t : TermId) → Agrees view terms → slice_get terms t.0 ≡ Some (term.Flag true) → passes view t ≡ true
passes_flag None terms t a h = refl
passes_flag (Some v) terms t a h = ap as_flag (a.each t.0 (term.Flag true) h)

pub fails_flag : (view : View) (terms : List Term) (t : TermId) → Agrees view terms → slice_get terms t.0 ≡ Some (term.Flag false) → holds view t ≡ false
fails_flag None terms t a h = refl
fails_flag (Some v) terms t a h = ap as_flag (a.each t.0 (term.Flag false) h)

pub seen_flag : (view : View) (terms : List Term) (t : TermId) (site out ways : ℕ) (kind : _) (b : Bool) → Agrees view terms → slice_get terms t.0 ≡ Some (term.Flag b) → out ≡ bit b
    → seen view (event.Pick site kind out ways) (choice.Flag t) ≡ event.Pick site kind out ways
seen_flag None terms t site out ways kind b a h o = refl
seen_flag (Some v) terms t site out ways kind b a h o =
    ap (λ (n : ℕ). event.Pick site kind n ways) (ap bit (ap as_flag (a.each t.0 (term.Flag b) h)) ∙ sym o)
