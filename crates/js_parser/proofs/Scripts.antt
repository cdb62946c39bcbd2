-- No bytes spell two scripts, and one that is spelt is read.
use Rattle.std.proofs.Common.{◌≡◌, ℕ, List, [], length, sym, ap, subst, ◌∙◌, arith}
use Rattle.std.specs.Prelude.{Contains, Result, Ok, Err}
use Rattle.js_units.specs.CodeUnits.{code_units}
use Rattle.js_ast.specs.declared.statement.Script.{Script}
use Rattle.js_ast.specs.declared.statement.Stmt.{Stmt}
use Rattle.js_early.specs.Early.{early_places}
use Rattle.js_reading.specs.Reading.{start}
use Rattle.js_parser.specs.Outcomes.{Outcome, IsOutcome}
use Rattle.js_parser.specs.Answers.{Answers, Reads}
use Rattle.js_parser.specs.Naming.{IsNamedBy}
use Rattle.js_parser.specs.Spelling.{IsSpelling, Spells}
use Rattle.js_parser.specs.declared.refusal.ScriptRefusal.{ScriptRefusal}
use Rattle.js_parser.specs.declared.refusal.ScriptRefusal.TheVariants as refusal

abbrev pub IsReading : Type 0
IsReading = (text : List ℕ) (body : List Stmt) → IsSpelling text body → IsOutcome text 0 start (Ok body)

abbrev pub IsOne : Type 0
IsOne = (text : List ℕ) (a b : Outcome) → IsOutcome text 0 start a → IsOutcome text 0 start b → a ≡ b

pub one_script : (a b : Script) → a.body ≡ b.body → a ≡ b
one_script a b e = λ i. record { body = e i }

-- the statements that are read are the ones that are spelt
spelt_is_read : IsReading → IsOne → (text : List ℕ) (a b : List Stmt) → IsOutcome text 0 start (Ok a) → IsSpelling text b → b ≡ a
spelt_is_read reading one text a b i s = let e = one text (Ok b) (Ok a) (reading text b s) i in cc

pub same_body : IsReading → IsOne → (text : List ℕ) (a b : List Stmt) → IsSpelling text a → IsSpelling text b → a ≡ b
same_body reading one text a b s t = spelt_is_read reading one text b a (reading text b t) s

pub unique : IsReading → IsOne → (bytes : List ℕ) (a b : Script) → Spells bytes a → Spells bytes b → a ≡ b
unique reading one bytes a b s t = one_script a b (same_body reading one (code_units bytes) a.body b.body s.spelt t.spelt)

pub none_contained : (ps : List ℕ) (at : ℕ) → ps ≡ [] → Contains ps at → ⊥
none_contained ps at e h = omega (arith, ap length e, h.1)

named_only : (body : List Stmt) (result : Result Script ScriptRefusal) → IsNamedBy body result → (script : Script) → script.body ≡ body → early_places script ≡ [] → Answers result (Ok script)
named_only body (Ok s) n script e names = ap (λ (x : Script). Ok x) (one_script script s (e ∙ sym n.0))
named_only body (Err (refusal.EarlyName at)) n script e names = absurd (none_contained (early_places (record { body = body })) at (ap early_places (sym (one_script script (record { body = body }) e)) ∙ names) n.0)
named_only body (Err refusal.NoMemory) n script e names = tt
named_only body (Err r) n script e names = absurd n

pub read_only : IsReading → IsOne → (bytes text : List ℕ) (body : List Stmt) (result : Result Script ScriptRefusal) → text ≡ code_units bytes → IsOutcome text 0 start (Ok body) → IsNamedBy body result → (script : Script) → Spells bytes script → Answers result (Ok script)
read_only reading one bytes text body result e i n script s =
    named_only body result n script (spelt_is_read reading one text body script.body i (subst (λ (x : List ℕ). IsSpelling x script.body) (sym e) s.spelt)) s.names

spelt_refused : IsReading → IsOne → (text : List ℕ) (e : ScriptRefusal) (body : List Stmt) → IsOutcome text 0 start (Err e) → IsSpelling text body → ⊥
spelt_refused reading one text e body i s = let d = one text (Ok body) (Err e) (reading text body s) i in cc

refused_by : IsReading → IsOne → (text : List ℕ) (e : ScriptRefusal) (script : Script) → Reads text 0 start (Err e) → IsSpelling text script.body → Answers {X = Script} (Err e) (Ok script)
refused_by reading one text refusal.NoMemory script i s = tt
refused_by reading one text e script i s = absurd (spelt_refused reading one text e script.body i s)

pub refused_only : IsReading → IsOne → (bytes text : List ℕ) (e : ScriptRefusal) → text ≡ code_units bytes → Reads text 0 start (Err e) → (script : Script) → Spells bytes script → Answers {X = Script} (Err e) (Ok script)
refused_only reading one bytes text e same i script s = refused_by reading one text e script i (subst (λ (x : List ℕ). IsSpelling x script.body) (sym same) s.spelt)
