-- A loop that reads so many terms, behind one another.
use Rattle.std.proofs.Common.{◌≡◌, ℕ, suc, ◌+◌, ◌-◌, ◌<◌, ◌≤◌, List, [], ◌∷◌, ◌++◌, Some, None, refl, sym, ap, ◌∙◌, arith, append_assoc, append-nil}
use Rattle.std.specs.Prelude.{Result, Ok, Err}
use Rattle.proof_text.specs.Counted.{in_front, one_then}
use Rattle.proof_text.proofs.Counting.{behind}
use Rattle.report_text.specs.Terms.{term_at}
use Rattle.report_text.specs.Bodies.{terms_at}

-- so many are read, and the others are still to be read
pub record Numbers (count : ℕ) (list : List ℕ) (found : List (List ℕ)) (left : List ℕ) (done : ℕ) : Type 0 where
  pub within : done ≤ count
  pub reads : terms_at 0 count list ≡ behind found (terms_at done (count - done) left)

behind_nil : (r : Result (List (List ℕ) × List ℕ) (List ℕ)) → r ≡ behind [] r
behind_nil (Ok r) = refl
behind_nil (Err at) = refl

behind_front : (xs : List (List ℕ)) (x : List ℕ) (r : Result (List (List ℕ) × List ℕ) (List ℕ)) → behind xs (in_front x r) ≡ behind (xs ++ x ∷ []) r
behind_front xs x (Ok r) = ap (λ q. Ok (q, r.1)) (sym (append_assoc xs (x ∷ []) r.0))
behind_front xs x (Err at) = refl

pub numbers_start : (count : ℕ) (list : List ℕ) → Numbers count list [] list 0
numbers_start count list = record { within = omega arith; reads = behind_nil (terms_at 0 count list) ∙ ap (λ (q : ℕ). behind [] (terms_at 0 q list)) (less count) }
  where
    less : (n : ℕ) → n ≡ n - 0
    less n = omega arith

-- one is read first, where some are left
next_of : (done count : ℕ) (left : List ℕ) → done < count → terms_at done (count - done) left ≡ one_then (term_at done left) left (terms_at (done + 1) (count - (done + 1)))
next_of done count left h =
    ap (λ (q : ℕ). terms_at done q left) one
    ∙ ap (λ (q : ℕ). one_then (term_at done left) left (terms_at q (count - (done + 1)))) two
  where
    one : count - done ≡ suc (count - (done + 1))
    one = omega (arith, h)

    two : suc done ≡ done + 1
    two = omega arith

pub numbers_more : (count : ℕ) (list : List ℕ) (found : List (List ℕ)) (left : List ℕ) (done : ℕ) (x : List ℕ) (rest : List ℕ) → Numbers count list found left done → done < count → term_at done left ≡ Some (x, rest) → Numbers count list (found ++ x ∷ []) rest (done + 1)
numbers_more count list found left done x rest n h e = record {
  within = omega (arith, h);
  reads =
      n.reads ∙ ap (behind found) (next_of done count left h)
      ∙ ap (λ o. behind found (one_then o left (terms_at (done + 1) (count - (done + 1))))) e
      ∙ behind_front found x (terms_at (done + 1) (count - (done + 1)) rest);
}

pub numbers_wrong : (count : ℕ) (list : List ℕ) (found : List (List ℕ)) (left : List ℕ) (done : ℕ) → Numbers count list found left done → done < count → term_at done left ≡ None → terms_at 0 count list ≡ Err left
numbers_wrong count list found left done n h e = n.reads ∙ ap (behind found) (next_of done count left h) ∙ ap (λ o. behind found (one_then o left (terms_at (done + 1) (count - (done + 1))))) e

pub numbers_end : (count : ℕ) (list : List ℕ) (found : List (List ℕ)) (left : List ℕ) (done : ℕ) → Numbers count list found left done → count ≤ done → terms_at 0 count list ≡ Ok (found, left)
numbers_end count list found left done n h = n.reads ∙ ap (λ (q : ℕ). behind found (terms_at done q left)) none ∙ ap (λ q. Ok (q, left)) (append-nil found)
  where
    none : count - done ≡ 0
    none = omega (arith, h)
