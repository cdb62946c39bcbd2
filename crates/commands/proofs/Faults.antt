-- What is decided where a file can't be read.
use Rattle.std.proofs.Common.{◌<◌, arith, None, ◌≡◌, ℕ, List, [], ◌∷◌, ◌++◌, decimal, Option, Some, refl, sym, subst, ◌∙◌, inl, inr}
use Rattle.std.specs.Prelude.{Result, Ok, Err, IfOk}
use Rattle.js_units.specs.declared.memory.NoMemory.{NoMemory}
use Rattle.ex_base.specs.Outside.{Told, Asked, IsRead, IsFailed, IsTooLong as IsLong, IsLonger, Rose}
use Rattle.commands.specs.declared.decide.Decided.{Decided}
use Rattle.commands.specs.declared.texts.TheConstants.{READ_FAULT, TOO_LONG, LINE_END}
use Rattle.commands.specs.TopCall.{Name, listed_files, max_file, Seen, IsDecided}

pub as_told : (r : Result Decided NoMemory) (number : ℕ) (text : List ℕ) (P : ℕ → List ℕ → Type 0) → IfOk r (λ d. d.number ≡ number) → IfOk r (λ d. d.text.items ≡ text) → P number text → IfOk r (λ d. P d.number d.text.items)
as_told (Ok d) number text P n t h = subst (λ (k : ℕ). P k d.text.items) (sym n) (subst (λ (x : List ℕ). P number x) (sym t) h)
as_told (Err e) number text P n t h = tt

pub as_told_where : (r : Result Decided NoMemory) (R : Type 0) (number : ℕ) (text : List ℕ) (P : ℕ → List ℕ → Type 0) → IfOk r (λ d. d.number ≡ number) → IfOk r (λ d. d.text.items ≡ text) → IfOk r (λ d. R) → (R → P number text) → IfOk r (λ d. P d.number d.text.items)
as_told_where (Ok d) R number text P n t w h = as_told (Ok d) number text P n t (h w)
as_told_where (Err e) R number text P n t w h = tt

pub first_failed : (words : List Name) (seen : Seen) (files : Name × Name) → listed_files words ≡ Some files → IsFailed files.0 max_file seen.last seen.before seen.now
    → IsDecided words seen 3 (READ_FAULT.now ++ decimal 1 ++ LINE_END.now)
first_failed words seen files w h =
    inr (inl (record { place = 1; name = files.0; file = record { earlier = []; later = files.1 ∷ []; place_is = refl; files = (files, w, refl); readable = tt }; last = h.record_; rose = h.rose; number_is = refl; text_is = refl }))

pub first_long : (words : List Name) (seen : Seen) (files : Name × Name) → listed_files words ≡ Some files → IsLong (seen.held files.0) files.0 max_file seen.last seen.before seen.now
    → IsDecided words seen 8 (TOO_LONG.now ++ decimal 1 ++ LINE_END.now)
first_long words seen files w h =
    inr (inr (inl (record { place = 1; name = files.0; file = record { earlier = []; later = files.1 ∷ []; place_is = refl; files = (files, w, refl); readable = tt }; longer = h.longer; last = h.record_; faults = h.faults; number_is = refl; text_is = refl })))

-- with the first file's load between
pub second_failed : (words : List Name) (seen : Seen) (files : Name × Name) (between : ℕ) (last : Option Asked) (first : List ℕ) → listed_files words ≡ Some files
    → IsRead (seen.held files.0) files.0 max_file last seen.before between first → IsFailed files.1 max_file seen.last between seen.now
    → IsDecided words seen 3 (READ_FAULT.now ++ decimal 2 ++ LINE_END.now)
second_failed words seen files between last first w r h =
    inr (inl (record { place = 2; name = files.1; file = record { earlier = files.0 ∷ []; later = []; place_is = refl; files = (files, w, refl); readable = ((first, r.whole, r.within), tt) }; last = h.record_; rose = subst (λ (n : ℕ). Rose n seen.now) r.faults h.rose; number_is = refl; text_is = refl }))

pub second_long : (words : List Name) (seen : Seen) (files : Name × Name) (between : ℕ) (last : Option Asked) (held : Name → Told) (first : List ℕ) → listed_files words ≡ Some files
    → held ≡ seen.held → IsRead (seen.held files.0) files.0 max_file last seen.before between first → IsLong (held files.1) files.1 max_file seen.last between seen.now
    → IsDecided words seen 8 (TOO_LONG.now ++ decimal 2 ++ LINE_END.now)
second_long words seen files between last held first w same r h =
    inr (inr (inl (record { place = 2; name = files.1; file = record { earlier = files.0 ∷ []; later = []; place_is = refl; files = (files, w, refl); readable = ((first, r.whole, r.within), tt) }; longer = subst (λ (f : Name → Told). IsLonger (f files.1) max_file) same h.longer; last = h.record_; faults = h.faults ∙ r.faults; number_is = refl; text_is = refl })))

-- words of no form leave usage alone
pub only_usage : (words : List Name) (seen : Seen) (number : ℕ) (text : List ℕ) → IsDecided words seen number text → listed_files words ≡ None → number ≡ 2
only_usage words seen number text h none =
    elim h [
      | inl u ↦ u.number_is
      | inr (inl r) ↦ let e = r.file.files.1 in absurd (let d : listed_files words ≡ None = none in cc)
      | inr (inr (inl l)) ↦ let e = l.file.files.1 in absurd (let d : listed_files words ≡ None = none in cc)
      | inr (inr (inr a)) ↦ let e = a.words_are in absurd (let d : listed_files words ≡ None = none in cc)
    ]

-- where the files failed, nothing else is decided than that
pub only_fault : (words : List Name) (seen : Seen) (number : ℕ) (text : List ℕ) → IsDecided words seen number text → seen.before < seen.now → number ≡ 3
only_fault words seen number text h rose =
    elim h [
      | inl u ↦ absurd (omega (arith, u.faults))
      | inr (inl r) ↦ r.number_is
      | inr (inr (inl l)) ↦ absurd (omega (arith, l.faults))
      | inr (inr (inr a)) ↦ absurd (omega (arith, a.faults))
    ]
