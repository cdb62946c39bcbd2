-- What is decided where the files tell their bytes.
use Rattle.std.proofs.Common.{◌≡◌, ◌≢◌, ℕ, ◌<◌, ◌≤◌, List, [], ◌∷◌, ◌++◌, length, Option, Some, None, refl, sym, ap, subst, ◌∙◌, arith, inl, inr}
use Rattle.std.specs.Prelude.{◌⊎◌, Result, Ok, Err}
use Rattle.path_core.specs.declared.bounds.Bounds.{Bounds}
use Rattle.path_core.specs.declared.bounds.BoundsRefusal.{BoundsRefusal}
use Rattle.path_core.specs.Form.{form}
use Rattle.path_core.specs.Inputs.{within}
use Rattle.ex_base.specs.Outside.{Told, holds, IsWhole, IsLonger}
use Rattle.explorer.specs.Listing.{max_inputs}
use Rattle.js_ast.specs.declared.statement.Script.{Script}
use Rattle.js_parser.specs.Refusals.{IsReason}
use Rattle.js_parser.specs.Spelling.{Spells}
use Rattle.js_parser.specs.declared.refusal.ScriptRefusal.{ScriptRefusal}
use Rattle.commands.specs.declared.texts.TheConstants.{SCRIPT_REFUSED}
use Rattle.commands.specs.TopCall.{Name, listed_files, max_file, Seen, IsUsage, IsReadFault, IsTooLong, AreListable, IsBoundsRefused, IsTooMany, IsScriptRefused, ListAnswer, IsAnswered, IsDecided, ToldList, HeldList, IsUnfailed, AreNoBounds, IsNoScript, IsBadScript, AreAccepted, IsOverlong, reason_text}

abbrev some_files : Name × Name → Option (Name × Name)
some_files f = Some f

same_files : (words : List Name) (f g : Name × Name) → listed_files words ≡ Some f → listed_files words ≡ Some g → f ≡ g
same_files words f g d e = let h : some_files f ≡ some_files g = sym d ∙ e in cc

-- what is read of a file that tells its bytes is these bytes
whole_is : (told : Told) (bytes read : List ℕ) → told ≡ holds bytes → IsWhole told read → read ≡ bytes
whole_is told bytes read e h = rw e at h

-- what is answered to files that tell their bytes
answer_is : (words : List Name) (seen : Seen) (number : ℕ) (text script bounds : List ℕ) → IsAnswered words seen number text → ToldList words seen.held script bounds
    → ListAnswer script bounds number text
answer_is words seen number text script bounds a t =
    let same : a.files ≡ t.files = same_files words a.files t.files a.words_are t.words_are in
    let s : a.script ≡ script = whole_is (seen.held a.files.0) script a.script (ap (λ (f : Name × Name). seen.held f.0) same ∙ t.script_is) a.script_is in
    let b : a.bounds ≡ bounds = whole_is (seen.held a.files.1) bounds a.bounds (ap (λ (f : Name × Name). seen.held f.1) same ∙ t.bounds_is) a.bounds_is in
    subst (λ (x : List ℕ). ListAnswer script x number text) b (subst (λ (x : List ℕ). ListAnswer x a.bounds number text) s a.answer)

-- the status of a file that is too long comes with its cause
when_8 : (words : List Name) (seen : Seen) (number : ℕ) (text : List ℕ) → IsDecided words seen number text → number ≡ 8 → IsTooLong words seen number text
when_8 words seen number text h e =
    elim h [
      | inl u ↦ absurd (omega (arith, u.number_is))
      | inr (inl r) ↦ absurd (omega (arith, r.number_is))
      | inr (inr (inl l)) ↦ l
      | inr (inr (inr a)) ↦
          elim a.answer [
            | inl b ↦ absurd (omega (arith, b.number_is))
            | inr (inl m) ↦ absurd (omega (arith, m.number_is))
            | inr (inr (inl s)) ↦ absurd (omega (arith, s.number_is))
            | inr (inr (inr l)) ↦ absurd (omega (arith, l.number_is))
          ]
    ]

-- any status but 2, 3 and 8 is the answer to the bytes
told_answer : (words : List Name) (seen : Seen) (number : ℕ) (text script bounds : List ℕ) → IsDecided words seen number text → ToldList words seen.held script bounds
    → number ≢ 3 → number ≢ 8 → ListAnswer script bounds number text
told_answer words seen number text script bounds h t not_3 not_8 =
    elim h [
      | inl u ↦ let none = u.none in let is = t.words_are in absurd cc
      | inr (inl r) ↦ absurd (not_3 r.number_is)
      | inr (inr (inl l)) ↦ absurd (not_8 l.number_is)
      | inr (inr (inr a)) ↦ answer_is words seen number text script bounds a t
    ]

-- ---- which status the bytes decide

-- the file that is too long is one of the two
among : (a b name : Name) (earlier later : List Name) → a ∷ b ∷ [] ≡ earlier ++ name ∷ later → (a ≡ name) ⊎ (b ≡ name)
among a b name [] later e = inl cc
among a b name (x ∷ []) later e = inr cc
among a b name (x ∷ y ∷ more) later e = absurd (behind more e)
  where
    behind : (more : List Name) → a ∷ b ∷ [] ≡ x ∷ y ∷ (more ++ name ∷ later) → ⊥
    behind [] d = cc
    behind (z ∷ zs) d = cc

not_longer : (told : Told) (bytes : List ℕ) → told ≡ holds bytes → length bytes ≤ max_file → IsLonger told max_file → ⊥
not_longer told bytes e fits longer = let more : max_file < length bytes = rw e at longer in omega (arith, more, fits)

none_long : (words : List Name) (seen : Seen) (number : ℕ) (text script bounds : List ℕ) → IsTooLong words seen number text → HeldList words seen.held script bounds → ⊥
none_long words seen number text script bounds l h =
    let same : l.file.files.0 ≡ h.told.files = same_files words l.file.files.0 h.told.files l.file.files.1 h.told.words_are in
    elim (among l.file.files.0.0 l.file.files.0.1 l.name l.file.earlier l.file.later l.file.files.2) [
      | inl e ↦ not_longer (seen.held l.name) script (ap seen.held (sym e) ∙ ap (λ (f : Name × Name). seen.held f.0) same ∙ h.told.script_is) h.script_fits l.longer
      | inr e ↦ not_longer (seen.held l.name) bounds (ap seen.held (sym e) ∙ ap (λ (f : Name × Name). seen.held f.1) same ∙ h.told.bounds_is) h.bounds_fits l.longer
    ]

pub held_answer : (words : List Name) (seen : Seen) (number : ℕ) (text script bounds : List ℕ) → IsDecided words seen number text → HeldList words seen.held script bounds
    → IsUnfailed number → ListAnswer script bounds number text
held_answer words seen number text script bounds d h u =
    told_answer words seen number text script bounds d h.told u.no_read_fault (λ e. none_long words seen number text script bounds (when_8 words seen number text d e) h)

ok_or_not : (bounds : List ℕ) (b : Bounds) (e : BoundsRefusal) → form bounds ≡ Ok b → form bounds ≡ Err e → ⊥
ok_or_not bounds b e p q = cc

abbrev formed : Bounds → Result Bounds BoundsRefusal
formed b = Ok b

same_bounds : (bounds : List ℕ) (a b : Bounds) → form bounds ≡ Ok a → form bounds ≡ Ok b → a ≡ b
same_bounds bounds a b p q = let e : formed a ≡ formed b = sym p ∙ q in cc

many_or_few : (bounds : List ℕ) (a b : Bounds) → form bounds ≡ Ok a → max_inputs < length (within a.inputs) → AreListable bounds b → ⊥
many_or_few bounds a b p many h =
    let e : a ≡ b = same_bounds bounds a b p h.formed in
    omega (arith, subst (λ (x : Bounds). max_inputs < length (within x.inputs)) e many, h.few)

-- accepted bounds are not refused
refused_or_accepted : (bounds : List ℕ) (b : Bounds) → AreNoBounds bounds → AreListable bounds b → ⊥
refused_or_accepted bounds b none h = elim none [ inl r ↦ ok_or_not bounds b r.0 h.formed r.1 | inr m ↦ many_or_few bounds m.0 b m.1 m.2 h ]

pub only_6 : (script bounds : List ℕ) (number : ℕ) (text : List ℕ) → ListAnswer script bounds number text → AreNoBounds bounds → number ≡ 6
only_6 script bounds number text h none =
    elim h [
      | inl b ↦ b.number_is
      | inr (inl m) ↦ m.number_is
      | inr (inr (inl s)) ↦ absurd (refused_or_accepted bounds s.accepted none s.formed)
      | inr (inr (inr l)) ↦ absurd (refused_or_accepted bounds l.accepted none l.formed)
    ]

pub only_5 : (script bounds : List ℕ) (number : ℕ) (text : List ℕ) → ListAnswer script bounds number text → IsNoScript script bounds → number ≡ 5
only_5 script bounds number text h none =
    elim h [
      | inl b ↦ absurd (refused_or_accepted bounds none.0 (inl (b.refused, b.none)) none.1)
      | inr (inl m) ↦ absurd (refused_or_accepted bounds none.0 (inr (m.accepted, m.formed, m.many)) none.1)
      | inr (inr (inl s)) ↦ s.number_is
      | inr (inr (inr l)) ↦ absurd (none.2 l.spelt l.spells)
    ]

-- bytes have one reason, and those that spell a script have none
pub why_5 : (script bounds : List ℕ) (refused : ScriptRefusal) (number : ℕ) (text : List ℕ) → ((bytes : List ℕ) (e f : ScriptRefusal) → IsReason bytes e → IsReason bytes f → e ≡ f)
    → ((bytes : List ℕ) (s : Script) (e : ScriptRefusal) → Spells bytes s → IsReason bytes e → ⊥) → ListAnswer script bounds number text → IsBadScript script bounds refused
    → text ≡ SCRIPT_REFUSED.now ++ reason_text refused
why_5 script bounds refused number text alone apart h bad =
    elim h [
      | inl b ↦ absurd (refused_or_accepted bounds bad.accepted (inl (b.refused, b.none)) bad.formed)
      | inr (inl m) ↦ absurd (refused_or_accepted bounds bad.accepted (inr (m.accepted, m.formed, m.many)) bad.formed)
      | inr (inr (inl s)) ↦ s.text_is ∙ ap (λ (e : ScriptRefusal). SCRIPT_REFUSED.now ++ reason_text e) (alone script s.refused refused s.reason bad.reason)
      | inr (inr (inr l)) ↦ absurd (apart script l.spelt refused l.spells bad.reason)
    ]

pub only_0 : (script bounds : List ℕ) (number : ℕ) (text : List ℕ) → ListAnswer script bounds number text → AreAccepted script bounds → number ≡ 0
only_0 script bounds number text h both =
    elim h [
      | inl b ↦ absurd (refused_or_accepted bounds both.0 (inl (b.refused, b.none)) both.2)
      | inr (inl m) ↦ absurd (refused_or_accepted bounds both.0 (inr (m.accepted, m.formed, m.many)) both.2)
      | inr (inr (inl s)) ↦ absurd (s.none both.1 both.3)
      | inr (inr (inr l)) ↦ l.number_is
    ]
