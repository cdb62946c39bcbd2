-- Arguments, seen from their front, and the parameters that they are given to.
use Rattle.std.proofs.Common.{◌≡◌, ◌≤◌, ◌<◌, suc, ◌-◌, true, List, [], ◌∷◌, length, get_or, take, drop, Some, refl, ap, sym, subst, ◌∙◌, arith, map}
use Rattle.std.proofs.lemmas.List.{take_all}
use Rattle.js_ast.specs.declared.parts.Identifier.{Identifier}
use Rattle.term_table.specs.declared.shadow.Shadow.{Shadow}
use Rattle.js_meaning.specs.Values.{Value, undefined, Scope, Place}
use Rattle.js_meaning.specs.Running.{Outcome}
use Rattle.js_meaning.specs.Names.{open_cell}
use Rattle.js_meaning.specs.Blocks.{first_of, rest_of, open_parameters}
use Rattle.js_state.specs.Fitting.{Shadows, AllOf}
use Rattle.js_frames.proofs.Passing.{list_none, list_more}

pub first_none : (f : Shadow → Value) (xs : List Shadow) → length xs < 1 → first_of (map f xs) ≡ undefined
first_none f xs l = ap (λ ys. first_of (map f ys)) (list_none xs l)

pub first_more : (f : Shadow → Value) (xs : List Shadow) (x : Shadow) → 1 ≤ length xs → x ≡ get_or xs 0 x → first_of (map f xs) ≡ f x
first_more f xs x l e = ap (λ ys. first_of (map f ys)) (list_more xs x l e)

pub first_all : (P : Shadows) (xs : List Shadow) (x : Shadow) → 1 ≤ length xs → x ≡ get_or xs 0 x → AllOf P xs → P x
first_all P xs x l e a = (subst (λ (ys : List Shadow). AllOf P ys) (list_more xs x l e) a).0

pub rest_none : (f : Shadow → Value) (xs : List Shadow) → length xs < 1 → map f xs ≡ rest_of (map f xs)
rest_none f [] l = refl
rest_none f (x ∷ xs) l = absurd (omega (arith, l))

pub rest_more : (f : Shadow → Value) (xs : List Shadow) → 1 ≤ length xs → map f (take (length xs - 1) (drop 1 xs)) ≡ rest_of (map f xs)
rest_more f [] l = absurd (omega (arith, l))
rest_more f (x ∷ xs) l = ap (map f) (take_all (suc (length xs) - 1) xs (omega arith))

pub rest_all : (P : Shadows) (xs : List Shadow) → 1 ≤ length xs → AllOf P xs → AllOf P (take (length xs - 1) (drop 1 xs))
rest_all P [] l a = absurd (omega (arith, l))
rest_all P (x ∷ xs) l a = subst (λ (ys : List Shadow). AllOf P ys) (sym (take_all (suc (length xs) - 1) xs (omega arith))) a.1

-- the first parameter gets its argument
pub parameters_step : (ps more : List Identifier) (p : Identifier) (xs ys : List Value) (x : Value) (scope : Scope) (st : Place) (go : Scope → Place → Outcome) → ps ≡ p ∷ more → x ≡ first_of xs → ys ≡ rest_of xs →
    open_parameters ps xs scope st go ≡ open_cell p.site p.name true (Some x) scope st (λ scope st. open_parameters more ys scope st go)
parameters_step ps more p xs ys x scope st go e f g =
    ap (λ ps. open_parameters ps xs scope st go) e
    ∙ ap (λ z. open_cell p.site p.name true (Some z) scope st (λ scope st. open_parameters more (rest_of xs) scope st go)) (sym f)
    ∙ ap (λ zs. open_cell p.site p.name true (Some x) scope st (λ scope st. open_parameters more zs scope st go)) (sym g)
