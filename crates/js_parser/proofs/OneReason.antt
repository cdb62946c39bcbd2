-- Bytes have one refusal, and those that spell a script have none.
use Rattle.std.proofs.Common.{◌≡◌, ℕ, ◌≤◌, List, sym, ap, subst, ◌∙◌, arith}
use Rattle.std.specs.Prelude.{Some}
use Rattle.std.proofs.lemmas.List.Elements.{All-contains}
use Rattle.std.proofs.lemmas.Str.{utf8_valid_len-IsValidUpTo}
use Rattle.std.specs.Str.{IsValidUpTo}
use Rattle.js_units.specs.CodeUnits.{code_units}
use Rattle.js_ast.specs.declared.statement.Script.{Script}
use Rattle.js_ast.specs.declared.statement.Stmt.{Stmt}
use Rattle.js_early.specs.Early.{early_places, IsLeast}
use Rattle.js_parser.specs.Spelling.{IsSpelling, Spells}
use Rattle.js_parser.specs.Refusals.{IsRefusedIn, IsEarly, IsReason}
use Rattle.js_parser.specs.declared.refusal.ScriptRefusal.{ScriptRefusal}
use Rattle.js_parser.specs.declared.refusal.ScriptRefusal.TheVariants as refusal
use Rattle.js_parser.proofs.Scripts.{IsReading, IsOne, one_script, same_body, none_contained}

-- what is shown of texts
pub record Texts : Type 0 where
  pub reading : IsReading
  pub one : IsOne
  pub alone : (text : List ℕ) (e f : ScriptRefusal) → IsRefusedIn text e → IsRefusedIn text f → e ≡ f
  pub apart : (text : List ℕ) (body : List Stmt) (e : ScriptRefusal) → IsSpelling text body → IsRefusedIn text e → ⊥

one_front : (bytes : List ℕ) (at other : ℕ) → IsValidUpTo bytes at → IsValidUpTo bytes other → at ≡ other
one_front bytes at other a b = sym (utf8_valid_len-IsValidUpTo bytes at a) ∙ utf8_valid_len-IsValidUpTo bytes other b

one_least : (ps : List ℕ) (at other : ℕ) → IsLeast ps (Some at) → IsLeast ps (Some other) → at ≡ other
one_least ps at other a b =
    omega (arith, All-contains (λ (p : ℕ). at ≤ p) ps other a.1 b.0, All-contains (λ (p : ℕ). other ≤ p) ps at b.1 a.0)

one_early : Texts → (text : List ℕ) (at other : ℕ) → IsEarly text at → IsEarly text other → at ≡ other
one_early t text at other x y =
    let same : x.script ≡ y.script = one_script x.script y.script (same_body t.reading t.one text x.script.body y.script.body x.spelt y.spelt) in
    one_least (early_places y.script) at other (subst (λ (s : Script). IsLeast (early_places s) (Some at)) same x.least) y.least

pub none_apart : Texts → (bytes : List ℕ) (script : Script) (e : ScriptRefusal) → Spells bytes script → IsReason bytes e → ⊥
none_apart t bytes script refusal.NoMemory s x = x
none_apart t bytes script (refusal.Utf8 at) s x = x.0 s.utf8
none_apart t bytes script (refusal.EarlyName at) s x =
    let early = x.1 in
    let same : script ≡ early.script = one_script script early.script (same_body t.reading t.one (code_units bytes) script.body early.script.body s.spelt early.spelt) in
    none_contained (early_places early.script) at (ap early_places (sym same) ∙ s.names) early.least.0
none_apart t bytes script (refusal.Syntax at) s x = t.apart (code_units bytes) script.body (refusal.Syntax at) s.spelt x.1
none_apart t bytes script (refusal.WideNumber at) s x = t.apart (code_units bytes) script.body (refusal.WideNumber at) s.spelt x.1
none_apart t bytes script (refusal.TooDeep at) s x = t.apart (code_units bytes) script.body (refusal.TooDeep at) s.spelt x.1

pub one_reason : Texts → (bytes : List ℕ) (e f : ScriptRefusal) → IsReason bytes e → IsReason bytes f → e ≡ f
one_reason t bytes (refusal.Syntax at) (refusal.Syntax other) x y = t.alone (code_units bytes) (refusal.Syntax at) (refusal.Syntax other) x.1 y.1
one_reason t bytes (refusal.Syntax at) (refusal.WideNumber other) x y = t.alone (code_units bytes) (refusal.Syntax at) (refusal.WideNumber other) x.1 y.1
one_reason t bytes (refusal.Syntax at) (refusal.TooDeep other) x y = t.alone (code_units bytes) (refusal.Syntax at) (refusal.TooDeep other) x.1 y.1
one_reason t bytes (refusal.Syntax at) (refusal.EarlyName other) x y = absurd (t.apart (code_units bytes) y.1.script.body (refusal.Syntax at) y.1.spelt x.1)
one_reason t bytes (refusal.EarlyName other) (refusal.Syntax at) x y = absurd (t.apart (code_units bytes) x.1.script.body (refusal.Syntax at) x.1.spelt y.1)
one_reason t bytes (refusal.Syntax at) (refusal.Utf8 other) x y = absurd (y.0 x.0)
one_reason t bytes (refusal.Utf8 other) (refusal.Syntax at) x y = absurd (x.0 y.0)
one_reason t bytes (refusal.Syntax at) refusal.NoMemory x y = absurd y
one_reason t bytes (refusal.WideNumber at) (refusal.Syntax other) x y = t.alone (code_units bytes) (refusal.WideNumber at) (refusal.Syntax other) x.1 y.1
one_reason t bytes (refusal.WideNumber at) (refusal.WideNumber other) x y = t.alone (code_units bytes) (refusal.WideNumber at) (refusal.WideNumber other) x.1 y.1
one_reason t bytes (refusal.WideNumber at) (refusal.TooDeep other) x y = t.alone (code_units bytes) (refusal.WideNumber at) (refusal.TooDeep other) x.1 y.1
one_reason t bytes (refusal.WideNumber at) (refusal.EarlyName other) x y = absurd (t.apart (code_units bytes) y.1.script.body (refusal.WideNumber at) y.1.spelt x.1)
one_reason t bytes (refusal.EarlyName other) (refusal.WideNumber at) x y = absurd (t.apart (code_units bytes) x.1.script.body (refusal.WideNumber at) x.1.spelt y.1)
one_reason t bytes (refusal.WideNumber at) (refusal.Utf8 other) x y = absurd (y.0 x.0)
one_reason t bytes (refusal.Utf8 other) (refusal.WideNumber at) x y = absurd (x.0 y.0)
one_reason t bytes (refusal.WideNumber at) refusal.NoMemory x y = absurd y
one_reason t bytes (refusal.TooDeep at) (refusal.Syntax other) x y = t.alone (code_units bytes) (refusal.TooDeep at) (refusal.Syntax other) x.1 y.1
one_reason t bytes (refusal.TooDeep at) (refusal.WideNumber other) x y = t.alone (code_units bytes) (refusal.TooDeep at) (refusal.WideNumber other) x.1 y.1
one_reason t bytes (refusal.TooDeep at) (refusal.TooDeep other) x y = t.alone (code_units bytes) (refusal.TooDeep at) (refusal.TooDeep other) x.1 y.1
one_reason t bytes (refusal.TooDeep at) (refusal.EarlyName other) x y = absurd (t.apart (code_units bytes) y.1.script.body (refusal.TooDeep at) y.1.spelt x.1)
one_reason t bytes (refusal.EarlyName other) (refusal.TooDeep at) x y = absurd (t.apart (code_units bytes) x.1.script.body (refusal.TooDeep at) x.1.spelt y.1)
one_reason t bytes (refusal.TooDeep at) (refusal.Utf8 other) x y = absurd (y.0 x.0)
one_reason t bytes (refusal.Utf8 other) (refusal.TooDeep at) x y = absurd (x.0 y.0)
one_reason t bytes (refusal.TooDeep at) refusal.NoMemory x y = absurd y
one_reason t bytes (refusal.EarlyName at) (refusal.EarlyName other) x y = ap (λ (n : ℕ). refusal.EarlyName n) (one_early t (code_units bytes) at other x.1 y.1)
one_reason t bytes (refusal.EarlyName at) (refusal.Utf8 other) x y = absurd (y.0 x.0)
one_reason t bytes (refusal.EarlyName at) refusal.NoMemory x y = absurd y
one_reason t bytes (refusal.Utf8 at) (refusal.Utf8 other) x y = ap (λ (n : ℕ). refusal.Utf8 n) (one_front bytes at other x.1 y.1)
one_reason t bytes (refusal.Utf8 at) (refusal.EarlyName other) x y = absurd (x.0 y.0)
one_reason t bytes (refusal.Utf8 at) refusal.NoMemory x y = absurd y
one_reason t bytes refusal.NoMemory f x y = absurd x
