-- Names stay names while variables are added.
use Rattle.std.proofs.Common.{ℕ, zero, suc, ℤ, ◌≤◌, List, [], ◌∷◌, ◌++◌, All, get_or, arith}
use Rattle.std.proofs.lemmas.List.Elements.{All-append}
use Rattle.cnf_core.specs.Literals.{Names}

pub names_later : (m n : ℕ) (z : ℤ) → Names m z → m ≤ n → Names n z
names_later m n z h le = (h.0, omega (arith, h.1, le))

pub all_later : (m n : ℕ) (word : List ℤ) → All (Names m) word → m ≤ n → All (Names n) word
all_later m n word a le = λ k d h. names_later m n (get_or word k d) (a k d h) le

pub within_later : (m n : ℕ) (clauses : List (List ℤ)) → All (λ c. All (Names m) c) clauses → m ≤ n → All (λ c. All (Names n) c) clauses
within_later m n clauses a le = λ k d h. all_later m n (get_or clauses k d) (a k d h) le

one_clause : (n : ℕ) (c : List ℤ) → All (Names n) c → All (λ c. All (Names n) c) (c ∷ [])
one_clause n c a zero d h = a
one_clause n c a (suc k) d h = absurd (omega (arith, h))

pub within_more : (n : ℕ) (clauses : List (List ℤ)) (c : List ℤ) → All (λ c. All (Names n) c) clauses → All (Names n) c → All (λ c. All (Names n) c) (clauses ++ c ∷ [])
within_more n clauses c a b = All-append (λ c. All (Names n) c) clauses (c ∷ []) a (one_clause n c b)
