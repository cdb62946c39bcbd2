-- A run at a view: its own plain contents, or what its terms come to at another input. Only `proofs/Views.antt` looks into
-- a view.
use Rattle.std.specs.Prelude.{◌≡◌, ℕ, zero, suc, ℤ, pos, negsuc, Bool, true, false, List, [], ◌∷◌, slice_get, Option, Some, None, if◌then◌else◌}
use Rattle.path_core.specs.declared.path.Event.{Event}
use Rattle.path_core.specs.declared.path.Event.TheVariants as event
use Rattle.path_core.specs.declared.path.InputValue.{InputValue}
use Rattle.re_ast.specs.Execution.{Match}
use Rattle.js_values.specs.Numbers.{same}
use Rattle.js_meaning.specs.Values.{Text, Value, undefined, null, truth, int, nan, text, object}
use Rattle.term_table.specs.declared.term.Term.{Term}
use Rattle.term_table.specs.declared.term.Term.TheVariants as term
use Rattle.term_table.specs.declared.term.TermId.{TermId}
use Rattle.term_table.specs.declared.shadow.Plain.{Plain}
use Rattle.term_table.specs.declared.shadow.Plain.TheVariants as plain
use Rattle.term_table.specs.declared.shadow.Shadow.{Shadow}
use Rattle.term_table.specs.declared.moves.Choice.{Choice}
use Rattle.term_table.specs.declared.moves.Choice.TheVariants as choice

-- ---- values of terms

-- by their sort: a flag, a whole number, a string, or what a single exec found
pub data TermValue : Type 0 where
  flag : Bool → TermValue
  whole : ℤ → TermValue
  string : Text → TermValue
  result : Option Match → TermValue

abbrev pub as_flag : TermValue → Bool
as_flag (flag b) = b
as_flag _ = false

abbrev pub as_whole : TermValue → ℤ
as_whole (whole n) = n
as_whole _ = pos 0

abbrev pub as_text : TermValue → Text
as_text (string t) = t
as_text _ = []

-- another input: its values, what its single execs are answered, the first one's answer first, and a value for each term
pub record Valuation : Type 0 where
  pub input : List InputValue
  pub answers : List (Option (Option Match))
  pub value : ℕ → TermValue

-- what a term asks of its own value
abbrev pub IsValue : Valuation → Term → TermValue → Type 0
IsValue v (term.Flag b) x = x ≡ flag b
IsValue v (term.Int n) x = x ≡ whole n
IsValue v (term.Text t) x = x ≡ string t

-- each term of the table has a value that it asks for, and no exec has an answer before there are exec terms
pub record Values (terms : List Term) (v : Valuation) : Type 0 where
  pub each : (id : ℕ) (t : Term) → slice_get terms id ≡ Some t → IsValue v t (v.value id)
  pub none : v.answers ≡ []

-- the run itself, or another input
abbrev pub View : Type 0
View = Option Valuation

-- the view agrees with a table
abbrev pub Agrees : View → List Term → Type 0
Agrees None terms = Unit {0}
Agrees (Some v) terms = Values terms v

-- ---- values of shadows

abbrev pub plain_value : Plain → Value
plain_value plain.Undefined = undefined
plain_value plain.Null = null
plain_value (plain.Bool b) = truth b
plain_value (plain.Int n) = int n
plain_value plain.NotNumber = nan
plain_value (plain.Text t) = text t
plain_value (plain.Object o) = object o

-- a number term is 2^53 where the number is NaN
abbrev pub number_of : ℤ → Value
number_of n = if same n (pos 9007199254740992) then nan else int n

-- the term's value, in the kind of the plain content
abbrev pub with_term : Valuation → Plain → Option TermId → Value
with_term v p None = plain_value p
with_term v (plain.Bool b) (Some t) = truth (as_flag (v.value t.0))
with_term v (plain.Int n) (Some t) = number_of (as_whole (v.value t.0))
with_term v plain.NotNumber (Some t) = number_of (as_whole (v.value t.0))
with_term v (plain.Text s) (Some t) = text (as_text (v.value t.0))
with_term v plain.Undefined (Some t) = undefined
with_term v plain.Null (Some t) = null
with_term v (plain.Object o) (Some t) = object o

abbrev pub at : View → Shadow → Value
at None s = plain_value s.plain
at (Some v) s = with_term v s.plain s.term

-- ---- guards and events

-- a guard that held in the run holds
abbrev pub passes : View → TermId → Bool
passes None t = true
passes (Some v) t = as_flag (v.value t.0)

-- the run's failed guard holds
abbrev pub holds : View → TermId → Bool
holds None t = false
holds (Some v) t = as_flag (v.value t.0)

abbrev pub bit : Bool → ℕ
bit true = 1
bit false = 0

abbrev pub size : ℤ → ℕ
size (pos n) = n
size (negsuc n) = 0

abbrev pub outcome_of : Valuation → Choice → ℕ
outcome_of v (choice.Flag t) = bit (as_flag (v.value t.0))
outcome_of v (choice.Number t) = size (as_whole (v.value t.0))
outcome_of v (choice.Text t) = 0

abbrev pub text_of : Valuation → Choice → Text
text_of v (choice.Flag t) = []
text_of v (choice.Number t) = []
text_of v (choice.Text t) = as_text (v.value t.0)

abbrev pub chosen : Valuation → Choice → Event → Event
chosen v c (event.Pick site kind out ways) = event.Pick site kind (outcome_of v c) ways
chosen v c (event.Value site t) = event.Value site (text_of v c)

-- the event that is made there, at the same site, of the same kind and ways
abbrev pub seen : View → Event → Choice → Event
seen None e c = e
seen (Some v) e c = chosen v c e
