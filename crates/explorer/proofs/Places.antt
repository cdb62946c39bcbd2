-- A place in the list of all inputs, and the lines of those before it.
use Rattle.std.proofs.Common.{◌≡◌, ℕ, ◌<◌, ◌≤◌, ◌+◌, Bool, true, false, List, [], ◌∷◌, ◌++◌, length, take, map, refl, sym, ap, subst, ◌∙◌, append_assoc, length-append, arith}
use Rattle.std.proofs.lemmas.List.{take_at}
use Rattle.std.proofs.Math.Seq.{take_all}
use Rattle.path_core.specs.Inputs.{Values, IsNext, IsLast}
use Rattle.report_text.specs.declared.report.Line.{Line}
use Rattle.explorer.specs.Listing.{Picks}

-- x stands at this place, counted from 0
pub record At (all : List Values) (place : ℕ) (x : Values) : Type 0 where
  pub before : List Values
  pub after : List Values
  pub splits : all ≡ before ++ x ∷ after
  pub place_is : length before ≡ place

-- the lines of the inputs before a place were picked, and x stands at it, where there is an input
pub record Reached (line : Values → Line) (all : List Values) (place : ℕ) (x : Values) (lines : List Line) : Type 0 where
  pub picked : Picks (map line (take place all)) lines
  pub current : place < length all → At all place x

behind : (all before after : List Values) (x : Values) → all ≡ before ++ x ∷ after → all ≡ (before ++ x ∷ []) ++ after
behind all before after x e = e ∙ sym (append_assoc before (x ∷ []) after)

-- the first lines, with one more
lines_next : (line : Values → Line) (xs : List Values) (x : Values) → map line (xs ++ x ∷ []) ≡ map line xs ++ line x ∷ []
lines_next line [] x = refl
lines_next line (y ∷ ys) x = ap (λ (ls : List Line). line y ∷ ls) (lines_next line ys x)

next_length : (before : List Values) (x : Values) (place : ℕ) → length before ≡ place → length (before ++ x ∷ []) ≡ place + 1
next_length before x place e = omega (arith, length-append {A = Values})

pub front_next : (line : Values → Line) (all : List Values) (place : ℕ) (x : Values) → At all place x → map line (take (place + 1) all) ≡ map line (take place all) ++ line x ∷ []
front_next line all place x h =
    ap (λ (xs : List Values). map line (take (place + 1) xs)) (behind all h.before h.after x h.splits)
    ∙ ap (map line) (take_at (h.before ++ x ∷ []) h.after (place + 1) (next_length h.before x place h.place_is))
    ∙ lines_next line h.before x
    ∙ ap (λ (xs : List Values). map line xs ++ line x ∷ []) (sym (ap (take place) h.splits ∙ take_at h.before (x ∷ h.after) place h.place_is))

-- where there is another input, it stands behind this one
at_next : (all : List Values) (place : ℕ) (x y : Values) (more : Bool) → At all place x → (more ≡ true → IsNext all x y) → (more ≡ false → IsLast all x)
    → place + 1 < length all → At all (place + 1) y
at_next all place x y true h next last lt =
    let n = next refl h.before h.after h.splits in
    record {
      before = h.before ++ x ∷ [];
      after = n.0;
      splits = behind all h.before h.after x h.splits ∙ ap (λ (xs : List Values). (h.before ++ x ∷ []) ++ xs) n.1;
      place_is = next_length h.before x place h.place_is;
    }
at_next all place x y false h next last lt =
    absurd (let none : h.after ≡ [] = last refl h.before h.after h.splits in
    let whole : length all ≡ length h.before + 1 = ap length (h.splits ∙ ap (λ (xs : List Values). h.before ++ x ∷ xs) none) ∙ length-append h.before (x ∷ []) in
    omega (arith, h.place_is, whole))

pub reached_next : (line : Values → Line) (all : List Values) (place : ℕ) (x y : Values) (more : Bool) (lines picked : List Line) → place < length all → Reached line all place x lines
    → ((front : List Line) → Picks front lines → Picks (front ++ line x ∷ []) picked) → (more ≡ true → IsNext all x y) → (more ≡ false → IsLast all x)
    → Reached line all (place + 1) y picked
reached_next line all place x y more lines picked lt h adds next last = record {
  picked = subst (λ (ls : List Line). Picks ls picked) (sym (front_next line all place x (h.current lt))) (adds (map line (take place all)) h.picked);
  current = λ more_there. at_next all place x y more (h.current lt) next last more_there;
}

-- the first place
pub reached_first : (line : Values → Line) (all : List Values) (x : Values) (rest : List Values) → all ≡ x ∷ rest → Picks [] [] → Reached line all 0 x []
reached_first line all x rest e none = record {
  picked = none;
  current = λ there. record { before = []; after = rest; splits = e; place_is = refl };
}

-- behind the last place
pub reached_end : (line : Values → Line) (all : List Values) (place : ℕ) (x : Values) (lines : List Line) → length all ≤ place → Reached line all place x lines → Picks (map line all) lines
reached_end line all place x lines le h = subst (λ (xs : List Values). Picks (map line xs) lines) (take_all place all le) h.picked
