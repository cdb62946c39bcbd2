-- Guards of constants at every view.
use Rattle.std.proofs.Common.{◌≡◌, ℕ, Bool, true, false, List, [], ◌∷◌, slice_get, Option, Some, None, refl, sym, ap, subst, ◌∙◌}
use Rattle.path_core.specs.declared.path.End.{End}
use Rattle.js_meaning.specs.Running.{Row, passed, gives, ends}
use Rattle.term_table.specs.declared.term.Term.{Term}
use Rattle.term_table.specs.declared.term.Term.TheVariants.{Flag}
use Rattle.term_table.specs.declared.term.TermId.{TermId}
use Rattle.term_table.specs.declared.shadow.Plain.{Plain}
use Rattle.term_table.specs.declared.shadow.Shadow.{Shadow}
use Rattle.term_table.specs.declared.moves.Move.{Move}
use Rattle.term_table.specs.declared.moves.Move.TheVariants.{Guard}
use Rattle.term_table.specs.Views.{View, Agrees, at, plain_value, passes, holds}
use Rattle.term_table.specs.declared.outcome.Outcome.{Outcome}
use Rattle.term_table.specs.Fitting.{Fits, Beside}
use Rattle.term_table.specs.Walking.{Walk, EndsRow, Passing, Failing, Stopped, Shows, Meets}
use Rattle.term_table.proofs.Adding.{grown_same}
use Rattle.term_table.proofs.Views.{passes_flag, fails_flag, at_plain, at_bare}
use Rattle.js_ops.specs.declared.row.Row.{Row as Contents}
use Rattle.js_ops.specs.Contents.{shown}

abbrev bare : Plain → Shadow
bare p = record { plain = p; term = None }

passing : (view : View) (exit : End) (p : Plain) (b : Bool) → b ≡ true
    → Passing EndsRow b exit (passed exit ∷ [], gives (plain_value p)) (λ w. w ≡ ([], gives (at view (bare p))))
passing view exit p true h = record { rest = ([], gives (plain_value p)); is = refl; on = ap (λ v. ([], gives v)) (sym (at_plain view p)) }
passing view exit p false h = absurd cc

pub shows_passed : (view : View) (terms : List Term) (t : TermId) (exit : End) (p : Plain) (moves : List Move) → Agrees view terms → slice_get terms t.0 ≡ Some (Flag true) → moves ≡ Guard t exit ∷ []
    → Walk EndsRow view moves (passed exit ∷ [], gives (plain_value p)) (λ w. w ≡ ([], gives (at view (bare p))))
shows_passed view terms t exit p moves a h e =
    subst (λ (ms : List Move). Walk EndsRow view ms (passed exit ∷ [], gives (plain_value p)) (λ w. w ≡ ([], gives (at view (bare p))))) (sym e)
    (passing view exit p (passes view t) (passes_flag view terms t a h))

failing : (exit : End) (b : Bool) → b ≡ false → Failing EndsRow b exit ([], ends exit)
failing exit false h = (refl, refl)
failing exit true h = absurd cc

pub shows_failed : (view : View) (terms : List Term) (t : TermId) (exit : End) (moves : List Move) → Agrees view terms → slice_get terms t.0 ≡ Some (Flag false) → moves ≡ []
    → Walk EndsRow view moves ([], ends exit) (λ w. Stopped view (Some t) exit w)
shows_failed view terms t exit moves a h e =
    subst (λ (ms : List Move). Walk EndsRow view ms ([], ends exit) (λ w. Stopped view (Some t) exit w)) (sym e) (failing exit (holds view t) (fails_flag view terms t a h))

-- ---- rows of contents answer rows of shadows

-- what stands beside no term is the same at every view
pub at_fit : (view : View) (terms : List Term) (s : Shadow) → Fits terms s → at view s ≡ plain_value s.plain
at_fit view terms s h = by s.term refl (h.term)
  where
    by : (t : Option TermId) → s.term ≡ t → Beside terms s.plain s.term → at view s ≡ plain_value s.plain
    by None e b = at_bare view s e
    by (Some t) e b = absurd (subst (λ (x : Option TermId). Beside terms s.plain x) e b)

pub meets_row : (terms : List Term) (site : ℕ) (contents : Contents) (row : View → Row) (o : Outcome)
    → ((view : View) → Agrees view terms → Shows view site o (shown site contents)) → ((view : View) → shown site contents ≡ row view) → Meets terms terms site row o
meets_row terms site contents row o h e =
    record { grown = grown_same terms; shows = λ view a. subst (λ (r : Row). Shows view site o r) (e view) (h view a) }
