-- A vector cut from its end, seen as a stack.
use Rattle.std.proofs.Common.{ℕ, ◌-◌, List, ◌++◌, reverse, take, drop, length, ◌≡◌, sym, ap, ◌∙◌, arith, length-drop}
use Rattle.std.proofs.lemmas.List.{take-append-drop, reverse-append, length-reverse, drop_at}

pub reverse_take : {A : Type 0} (k : ℕ) (xs : List A) → reverse (take k xs) ≡ drop (length (reverse xs) - k) (reverse xs)
reverse_take k xs =
    let parts : reverse xs ≡ reverse (drop k xs) ++ reverse (take k xs) = ap reverse (sym (take-append-drop k xs)) ∙ reverse-append (take k xs) (drop k xs) in
    let n : length (reverse (drop k xs)) ≡ length (reverse xs) - k = omega (arith, length-reverse (drop k xs), length-drop k xs, length-reverse xs) in
    sym (ap (λ v. drop (length (reverse xs) - k) v) parts ∙ drop_at (reverse (drop k xs)) (reverse (take k xs)) (length (reverse xs) - k) n)
