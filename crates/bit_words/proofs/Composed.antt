-- One call after another.
use Rattle.std.proofs.Common.{ℤ, ℕ, zero, suc, Bool, true, false, ◌&&◌, ◌≡◌, ◌∙◌, sym, ap, refl, List, [], ◌∷◌, ◌++◌, ◌+◌, ◌≤◌, arith, All, append_assoc, append-nil}
use Rattle.std.specs.List.{list_all}
use Rattle.std.proofs.lemmas.List.Elements.{All-append}
use Rattle.std.proofs.lemmas.List.Folds.{list_all-append}
use Rattle.cnf_core.specs.Literals.{Names, Solves, clause_true}
use Rattle.cnf_core.specs.declared.clauses.Cnf.{Cnf}
use Rattle.bit_words.specs.Builds.{Values, GoesOn, Built, Stands}
use Rattle.bit_words.proofs.Standing.{stands_added}

abbrev pub solved : Values → List (List ℤ) → Bool
solved v clauses = list_all (clause_true v) clauses

and_left : (a b : Bool) → (a && b) ≡ true → a ≡ true
and_left true b h = refl
and_left false b h = h

and_right : (a b : Bool) → (a && b) ≡ true → b ≡ true
and_right true b h = h
and_right false b h = absurd (cc)

pub solved_of : (v : Values) (clauses : List (List ℤ)) → Solves v clauses → solved v clauses ≡ true
solved_of v [] h = refl
solved_of v (c ∷ cs) h = rw (h 0 c (omega arith), solved_of v cs (λ k d w. h (suc k) d (omega (arith, w)))) refl

pub solves_of : (v : Values) (clauses : List (List ℤ)) → solved v clauses ≡ true → Solves v clauses
solves_of v [] h k d w = absurd (omega (arith, w))
solves_of v (c ∷ cs) h zero d w = and_left _ _ h
solves_of v (c ∷ cs) h (suc k) d w = solves_of v cs (and_right (clause_true v c) _ h) k d (omega (arith, w))

pub solves_both : (v : Values) (xs ys : List (List ℤ)) → Solves v xs → Solves v ys → Solves v (xs ++ ys)
solves_both v xs ys a b = All-append (λ c. clause_true v c ≡ true) xs ys a b

pub solves_first : (v : Values) (xs ys : List (List ℤ)) → Solves v (xs ++ ys) → Solves v xs
solves_first v xs ys h = solves_of v xs (and_left _ _ (sym (list_all-append (clause_true v) xs ys) ∙ solved_of v (xs ++ ys) h))

pub solves_second : (v : Values) (xs ys : List (List ℤ)) → Solves v (xs ++ ys) → Solves v ys
solves_second v xs ys h = solves_of v ys (and_right (solved v xs) _ (sym (list_all-append (clause_true v) xs ys) ∙ solved_of v (xs ++ ys) h))

solves_none : (v : Values) → Solves v []
solves_none v k d h = absurd (omega (arith, h))

pub stands_built : {a b : Cnf} {m : ℕ} {lits : List ℤ} {F : Values → Type 0} → Built a b m lits F → Stands a b
stands_built {a} {b} g = stands_added a b g.added g.clauses g.variables

pub named_none : (n : ℕ) → All (Names n) []
named_none n k d h = absurd (omega (arith, h))

pub named_more : (n : ℕ) (x : ℤ) (xs : List ℤ) → Names n x → All (Names n) xs → All (Names n) (x ∷ xs)
named_more n x xs h a zero d w = h
named_more n x xs h a (suc k) d w = a k d (omega (arith, w))

pub named_one : (n : ℕ) (x : ℤ) → Names n x → All (Names n) (x ∷ [])
named_one n x h = named_more n x [] h (named_none n)

-- the name of the only literal
pub name_of : {a b : Cnf} {m : ℕ} {lit : ℤ} {F : Values → Type 0} → Built a b m (lit ∷ []) F → Names b.variables lit
name_of {a} {b} {m} {lit} g = g.names 0 lit (omega arith)

-- nothing was added
pub built_none : (a : Cnf) (lits : List ℤ) (F : Values → Type 0) → All (Names a.variables) lits → ((v : Values) → F v) → Built a a 0 lits F
built_none a lits F names fact = record {
  added = [];
  clauses = sym (append-nil a.clauses);
  variables = omega arith;
  few = omega arith;
  own = λ v w h s. solves_none w;
  one = λ v. record { values = v; agree = λ k lo hi. refl; solves = solves_none v; only = λ w h s. h };
  names = names;
  fact = λ v s. fact v;
}

-- the same with other literals and another fact
pub built_as : {a b : Cnf} {j m : ℕ} {xs ys : List ℤ} {F H : Values → Type 0} → Built a b j xs F → j ≤ m → All (Names b.variables) ys
    → ((v : Values) → F v → H v) → Built a b m ys H
built_as g le names fact = record {
  added = g.added;
  clauses = g.clauses;
  variables = g.variables;
  few = omega (arith, g.few, le);
  own = g.own;
  one = g.one;
  names = names;
  fact = λ v s. fact v (g.fact v s);
}

module _ (a b c : Cnf) (j k : ℕ) (xs ys : List ℤ) (F G : Values → Type 0) (g : Built a b j xs F) (h : Built b c k ys G) where
  one_both : (v : Values) → GoesOn a.variables c.variables (g.added ++ h.added) v
  one_both v =
      let first = g.one v in
      let second = h.one first.values in
      record {
        values = second.values;
        agree = λ k lo hi. first.agree k lo hi ∙ second.agree k lo (omega (arith, hi, g.variables));
        solves = solves_both second.values g.added h.added (g.own first.values second.values second.agree first.solves) second.solves;
        only = λ w ag s.
            second.only w (first.only w ag (solves_first w g.added h.added s)) (solves_second w g.added h.added s);
      }

  pub both_of : (m : ℕ) (zs : List ℤ) (H : Values → Type 0) → j + k ≤ m → All (Names c.variables) zs → ((v : Values) → F v → G v → H v) → Built a c m zs H
  both_of m zs H le names fact = record {
    added = g.added ++ h.added;
    clauses = h.clauses ∙ ap (λ cs. cs ++ h.added) g.clauses ∙ append_assoc a.clauses g.added h.added;
    variables = omega (arith, g.variables, h.variables);
    few = omega (arith, g.few, h.few, le);
    own = λ v w e s.
        solves_both w g.added h.added
        (g.own v w (λ k lo hi. e k lo (omega (arith, hi, h.variables))) (solves_first v g.added h.added s))
        (h.own v w e (solves_second v g.added h.added s));
    one = one_both;
    names = names;
    fact = λ v s. fact v (g.fact v (solves_first v g.added h.added s)) (h.fact v (solves_second v g.added h.added s));
  }

-- two calls
pub built_both : {a b c : Cnf} {j k m : ℕ} {xs ys zs : List ℤ} {F G H : Values → Type 0} → Built a b j xs F → Built b c k ys G → j + k ≤ m
    → All (Names c.variables) zs → ((v : Values) → F v → G v → H v) → Built a c m zs H
built_both {a} {b} {c} {j} {k} {m} {xs} {ys} {zs} {F} {G} {H} g h le names fact = both_of a b c j k xs ys F G g h m zs H le names fact

-- two calls, both facts kept, with the literals of the second
pub built_then : {a b c : Cnf} {j k : ℕ} {xs ys : List ℤ} {F G : Values → Type 0} → Built a b j xs F → Built b c k ys G
    → Built a c (j + k) ys (λ v. F v × G v)
built_then g h = built_both g h (omega arith) h.names (λ v p q. (p, q))
