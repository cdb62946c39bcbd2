-- Ends that are read are those that are written.
use Rattle.std.proofs.Common.{◌≡◌, ℕ, zero, suc, true, false, List, [], ◌∷◌, ◌++◌, Some, refl, sym, ap, subst, ◌∙◌, arith, append_assoc}
use Rattle.std.specs.Prelude.{◌==◌, decimal}
use Rattle.std.proofs.lemmas.Bool.{ne_eqb}
use Rattle.js_units.specs.Characters.{is_digit}
use Rattle.js_units.proofs.Reading.{Sound, Complete, same_read}
use Rattle.path_core.specs.declared.path.ErrorName.TheVariants as errors
use Rattle.path_core.specs.declared.path.Thrown.{Thrown}
use Rattle.path_core.specs.declared.path.Thrown.TheVariants as thrown
use Rattle.path_core.specs.declared.path.Why.{Why}
use Rattle.path_core.specs.declared.path.Why.TheVariants as why
use Rattle.path_core.specs.declared.path.Budget.{Budget}
use Rattle.path_core.specs.declared.path.Budget.TheVariants as budget
use Rattle.path_core.specs.declared.path.End.{End}
use Rattle.path_core.specs.declared.path.End.TheVariants as ends
use Rattle.proof_text.proofs.Parts.{found}
use Rattle.proof_text.proofs.Numerals.{apart}
use Rattle.report_text.specs.Lines.{ended_text, turns_text, end_text}
use Rattle.report_text.specs.Parts.{one_of, short_at, plus_at}
use Rattle.report_text.specs.Endings.{IsLeft, IsEnd, ending_text, endings_told, threw_at, cut_at, left_at, ended_at, end_at}
use Rattle.report_text.specs.declared.endings.Ending.{Ending}
use Rattle.report_text.specs.declared.endings.Ending.TheVariants as endings
use Rattle.report_text.proofs.ReadParts.{Apart, IsTable, is_ended, ended_apart, word_sound, short_sound, short_complete, plus_sound, plus_complete, plus_text, plus_some}

-- ---- words

endings_spell : IsTable ending_text endings_told
unfolding endings_told
endings_spell =
    (refl, (refl, (refl, (refl, (refl, (refl, (refl, (refl, (refl, (refl, (refl, (refl, (refl, (refl, (refl, (refl, (refl, (refl, (refl, (refl, (refl, (refl, (refl, tt)))))))))))))))))))))))

ending_read : (e : Ending) (rest : List ℕ) → one_of endings_told (ending_text e ++ rest) ≡ Some (e, rest)
unfolding endings_told
ending_read endings.Done rest = refl
ending_read (endings.Threw thrown.Value) rest = refl
ending_read (endings.Threw (thrown.Named errors.Error)) rest = refl
ending_read (endings.Threw (thrown.Named errors.TypeError)) rest = refl
ending_read (endings.Threw (thrown.Named errors.RangeError)) rest = refl
ending_read (endings.Threw (thrown.Named errors.ReferenceError)) rest = refl
ending_read (endings.Left why.Range) rest = refl
ending_read (endings.Left why.Divide) rest = refl
ending_read (endings.Left why.Convert) rest = refl
ending_read (endings.Left why.Inherited) rest = refl
ending_read (endings.Left why.Message) rest = refl
ending_read (endings.Left why.Unicode) rest = refl
ending_read (endings.Left why.Template) rest = refl
ending_read (endings.Left why.Size) rest = refl
ending_read (endings.Left why.Key) rest = refl
ending_read (endings.Left why.Set) rest = refl
ending_read (endings.Left why.Builtin) rest = refl
ending_read (endings.Left why.Name) rest = refl
ending_read (endings.Left why.Iterate) rest = refl
ending_read (endings.Left why.New) rest = refl
ending_read (endings.Cut budget.Turns) rest = refl
ending_read (endings.Cut budget.Events) rest = refl
ending_read (endings.Cut budget.Nodes) rest = refl

-- ---- turns

-- both numbers, with none behind a 0
turns_parts : (turns ended : ℕ) (rest : List ℕ) → (turns ≡ 0 → ended ≡ 0) → turns_text turns ended ++ rest ≡ ended_text turns ++ (ended_text ended ++ rest)
turns_parts zero ended rest h = ap (λ (q : ℕ). ended_text q ++ rest) (sym (h refl))
turns_parts (suc n) ended rest h =
    let some : (suc n == 0) ≡ false = ne_eqb (suc n) 0 (λ e. omega (arith, e)) in
    rw some (append_assoc (43 ∷ decimal (suc n)) (ended_text ended) rest)

none_twice : (list : List ℕ) (turns ended : ℕ) (left rest : List ℕ) → plus_at list ≡ Some (turns, left) → plus_at left ≡ Some (ended, rest) → turns ≡ 0 → ended ≡ 0
none_twice list turns ended left rest a b e =
    let s = (plus_sound list turns left a).1 in
    let same : left ≡ list = rw e at s in
    (same_read ended turns rest left (sym b ∙ ap plus_at same ∙ a)).0 ∙ e

-- ---- ends

abbrev pub start_of : End → Ending
start_of ends.Done = endings.Done
start_of (ends.Threw site what) = endings.Threw what
start_of (ends.Left site w turns ended) = endings.Left w
start_of (ends.Cut site what) = endings.Cut what

abbrev pub numbers_text : End → List ℕ
numbers_text ends.Done = []
numbers_text (ends.Threw site what) = decimal site
numbers_text (ends.Left site w turns ended) = decimal site ++ turns_text turns ended
numbers_text (ends.Cut site what) = decimal site

end_parts : (e : End) (rest : List ℕ) → end_text e ++ rest ≡ ending_text (start_of e) ++ (numbers_text e ++ rest)
unfolding end_text
end_parts ends.Done rest = refl
end_parts (ends.Threw site what) rest = append_assoc (ending_text (endings.Threw what)) (decimal site) rest
end_parts (ends.Left site w turns ended) rest =
    append_assoc (ending_text (endings.Left w) ++ decimal site) (turns_text turns ended) rest
    ∙ append_assoc (ending_text (endings.Left w)) (decimal site) (turns_text turns ended ++ rest)
    ∙ ap (λ (q : List ℕ). ending_text (endings.Left w) ++ q) (sym (append_assoc (decimal site) (turns_text turns ended) rest))
end_parts (ends.Cut site what) rest = append_assoc (ending_text (endings.Cut what)) (decimal site) rest

record IsNumbered (ending : Ending) (list : List ℕ) (e : End) (rest : List ℕ) : Type 0 where
  start : start_of e ≡ ending
  spelt : IsEnd e
  text : numbers_text e ++ rest ≡ list

threw_sound : (what : Thrown) (list : List ℕ) (e : End) (rest : List ℕ) → threw_at what list ≡ Some (e, rest) → IsNumbered (endings.Threw what) list e rest
threw_sound what list e rest h =
    let s = found (short_at list) _ (e, rest) h in
    let same = same_read (ends.Threw s.first.0 what) e s.first.1 rest s.then_is in
    let k = short_sound list s.first.0 s.first.1 s.first_is in
    subst (λ (q : End). IsNumbered (endings.Threw what) list q rest) same.0
    (record { start = refl; spelt = k.0; text = ap (λ (q : List ℕ). decimal s.first.0 ++ q) (sym same.1) ∙ k.1 })

cut_sound : (what : Budget) (list : List ℕ) (e : End) (rest : List ℕ) → cut_at what list ≡ Some (e, rest) → IsNumbered (endings.Cut what) list e rest
cut_sound what list e rest h =
    let s = found (short_at list) _ (e, rest) h in
    let same = same_read (ends.Cut s.first.0 what) e s.first.1 rest s.then_is in
    let k = short_sound list s.first.0 s.first.1 s.first_is in
    subst (λ (q : End). IsNumbered (endings.Cut what) list q rest) same.0
    (record { start = refl; spelt = k.0; text = ap (λ (q : List ℕ). decimal s.first.0 ++ q) (sym same.1) ∙ k.1 })

left_sound : (w : Why) (list : List ℕ) (e : End) (rest : List ℕ) → left_at w list ≡ Some (e, rest) → IsNumbered (endings.Left w) list e rest
left_sound w list e rest h =
    let s = found (short_at list) _ (e, rest) h in
    let t = found (plus_at s.first.1) _ (e, rest) s.then_is in
    let a = found (plus_at t.first.1) _ (e, rest) t.then_is in
    let same = same_read (ends.Left s.first.0 w t.first.0 a.first.0) e a.first.1 rest a.then_is in
    let sk = short_sound list s.first.0 s.first.1 s.first_is in
    let tk = plus_sound s.first.1 t.first.0 t.first.1 t.first_is in
    let ak = plus_sound t.first.1 a.first.0 a.first.1 a.first_is in
    let behind = none_twice s.first.1 t.first.0 a.first.0 t.first.1 a.first.1 t.first_is a.first_is in
    subst (λ (q : End). IsNumbered (endings.Left w) list q rest) same.0
    (record {
      start = refl;
      spelt = record { site_short = sk.0; turns_short = tk.0; ended_short = ak.0; ended_behind = behind };
      text =
          append_assoc (decimal s.first.0) (turns_text t.first.0 a.first.0) rest
          ∙ ap (λ (q : List ℕ). decimal s.first.0 ++ q)
          (turns_parts t.first.0 a.first.0 rest behind ∙ ap (λ (q : List ℕ). ended_text t.first.0 ++ q) (ap (λ (q : List ℕ). ended_text a.first.0 ++ q) (sym same.1) ∙ ak.1) ∙ tk.1)
          ∙ sk.1;
    })

ended_sound : (ending : Ending) (list : List ℕ) (e : End) (rest : List ℕ) → ended_at ending list ≡ Some (e, rest) → IsNumbered ending list e rest
ended_sound endings.Done list e rest h =
    let same = same_read ends.Done e list rest h in
    subst (λ (q : End). IsNumbered endings.Done list q rest) same.0 (record { start = refl; spelt = tt; text = sym same.1 })
ended_sound (endings.Threw what) list e rest h = threw_sound what list e rest h
ended_sound (endings.Left w) list e rest h = left_sound w list e rest h
ended_sound (endings.Cut what) list e rest h = cut_sound what list e rest h

pub end_sound : Sound end_at end_text IsEnd
unfolding end_at
end_sound list e rest h =
    let w = found (one_of endings_told list) _ (e, rest) h in
    let k = ended_sound w.first.0 w.first.1 e rest w.then_is in
    (k.spelt, end_parts e rest ∙ ap (λ (q : Ending). ending_text q ++ (numbers_text e ++ rest)) k.start ∙ ap (λ (q : List ℕ). ending_text w.first.0 ++ q) k.text ∙ word_sound ending_text endings_told endings_spell list w.first.0 w.first.1 w.first_is)

plus_apart : (n : ℕ) (rest : List ℕ) → Apart rest → Apart (ended_text n ++ rest)
unfolding is_digit
plus_apart zero rest a = a
plus_apart (suc n) rest a = ap (λ (q : List ℕ). apart (q ++ rest)) (plus_text (suc n) (omega arith))

turns_read : (turns ended : ℕ) (rest : List ℕ) {site : ℕ} → IsLeft site turns ended → is_ended rest ≡ true → plus_at (ended_text turns ++ (ended_text ended ++ rest)) ≡ Some (turns, ended_text ended ++ rest)
turns_read zero ended rest s f = plus_complete zero (ended_text ended ++ rest) s.turns_short (ap (λ (q : ℕ). is_ended (ended_text q ++ rest)) (s.ended_behind refl) ∙ f)
turns_read (suc n) ended rest s f = plus_some (suc n) (ended_text ended ++ rest) s.turns_short (omega arith) (plus_apart ended rest (ended_apart rest f))

numbers_complete : (e : End) (rest : List ℕ) → IsEnd e → is_ended rest ≡ true → ended_at (start_of e) (numbers_text e ++ rest) ≡ Some (e, rest)
numbers_complete ends.Done rest s f = refl
numbers_complete (ends.Threw site what) rest s f = rw (short_complete site rest s (ended_apart rest f)) refl
numbers_complete (ends.Cut site what) rest s f = rw (short_complete site rest s (ended_apart rest f)) refl
numbers_complete (ends.Left site w turns ended) rest s f =
    let behind = ended_text ended ++ rest in
    ap (λ (q : List ℕ). left_at w q) (append_assoc (decimal site) (turns_text turns ended) rest ∙ ap (λ (q : List ℕ). decimal site ++ q) (turns_parts turns ended rest s.ended_behind))
    ∙ rw (short_complete site (ended_text turns ++ behind) s.site_short (plus_apart turns behind (plus_apart ended rest (ended_apart rest f))))
    (rw (turns_read turns ended rest s f) (rw (plus_complete ended rest s.ended_short f) refl))

pub end_complete : Complete end_at end_text IsEnd (λ rest. is_ended rest ≡ true)
unfolding end_at
end_complete e rest s f =
    ap end_at (end_parts e rest) ∙ rw (ending_read (start_of e) (numbers_text e ++ rest)) (numbers_complete e rest s f)
