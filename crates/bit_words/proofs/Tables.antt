-- Gates by their tables of truth.
use Rattle.std.proofs.Common.{if◌then◌else◌, ℤ, pos, negsuc, neg_ℤ, ℕ, suc, Bool, true, false, not, cond, ◌≡◌, ◌∙◌, sym, ap, refl, ◌&&◌, ◌||◌, List, [], ◌∷◌, ◌++◌, ◌+◌, ◌==◌, arith, subst, ◌≢◌, inl, inr, append_assoc}
use Rattle.std.proofs.lemmas.Bool.{eq-eqb, ne_eqb, cases_lt}
use Rattle.cnf_core.specs.Literals.{Names, Solves, lit_true}
use Rattle.cnf_core.specs.declared.clauses.Cnf.{Cnf}
use Rattle.bit_words.specs.Builds.{Values, AgreeUpTo, IsGate, differ, majority}
use Rattle.bit_words.proofs.Composed.{solved, solved_of, solves_of, named_one}
use Rattle.bit_words.proofs.Opposites.{opposite_value}

-- a literal's value is that of its variable
pub value_agrees : (n : ℕ) (v w : Values) (z : ℤ) → AgreeUpTo n v w → Names n z → lit_true v z ≡ lit_true w z
value_agrees n v w (pos k) e h = e k h.0 h.1
value_agrees n v w (negsuc k) e h = ap not (e (suc k) (omega arith) h.1)

abbrev put : Values → ℕ → Bool → Values
put v k x = λ n. cond (n == k) x (v n)

abbrev same : Bool → Bool → Bool
same true b = b
same false b = not b

same_true : (a b : Bool) → same a b ≡ true → a ≡ b
same_true true true h = refl
same_true true false h = sym h
same_true false true h = h
same_true false false h = refl

true_same : (a b : Bool) → a ≡ b → same a b ≡ true
true_same true true h = refl
true_same true false h = sym h
true_same false true h = h
true_same false false h = refl

module _ (old new : Cnf) (f : Values → Bool) (added : List (List ℤ))
    (more : new.variables ≡ old.variables + 1) (clauses : new.clauses ≡ old.clauses ++ added)
    (local : (v w : Values) → AgreeUpTo old.variables v w → f v ≡ f w)
    (table : (v : Values) → solved v added ≡ same (v new.variables) (f v)) where
  put_at : (v : Values) (x : Bool) → put v new.variables x new.variables ≡ x
  put_at v x = rw (eq-eqb new.variables new.variables refl) refl

  put_agrees : (v : Values) (x : Bool) → AgreeUpTo old.variables v (put v new.variables x)
  put_agrees v x k lo hi = let ne : k ≢ new.variables = omega (arith, more) in rw (ne_eqb k new.variables ne) refl

  -- the new bit's value where the clauses are true
  value_is : (w : Values) → Solves w added → w new.variables ≡ f w
  value_is w s = same_true _ _ (sym (table w) ∙ solved_of w added s)

  last : (v w : Values) → AgreeUpTo old.variables v w → Solves w added → AgreeUpTo new.variables (put v new.variables (f v)) w
  last v w e s k lo hi =
      elim (cases_lt k new.variables) [
        | inl h ↦ sym (put_agrees v (f v) k lo (omega (arith, more, h))) ∙ e k lo (omega (arith, more, h))
        | inr h ↦ let i : k ≡ new.variables = omega arith in
            ap (put v new.variables (f v)) i ∙ put_at v (f v) ∙ local v w e ∙ sym (value_is w s) ∙ ap w (sym i)
      ]

  pub gate_made : (lit : ℤ) → lit ≡ pos new.variables → IsGate old new 1 lit f
  gate_made lit e = record {
    added = added;
    clauses = clauses;
    variables = omega (arith, more);
    few = omega (arith, more);
    own = λ v w e s. solves_of w added (table w
        ∙ sym (ap (λ b. same b (f w)) (e new.variables (omega (arith, more)) (omega arith)))
        ∙ sym (ap (same (v new.variables)) (local v w (λ k lo hi. e k lo (omega (arith, more, hi)))))
        ∙ sym (table v) ∙ solved_of v added s);
    one = λ v. record {
      values = put v new.variables (f v);
      agree = put_agrees v (f v);
      solves = solves_of _ added (table _ ∙ true_same _ _ (put_at v (f v) ∙ local v _ (put_agrees v (f v))));
      only = λ w e s. last v w e s;
    };
    names = named_one new.variables lit (let P : ℤ → Type 0 = λ z. Names new.variables z in subst P (sym e) (omega (arith, more), omega arith));
    fact = λ v s. ap (lit_true v) e ∙ value_is v s;
  }

and_table : (r a b : Bool) → ((not r || (a || false)) && ((not r || (b || false)) && ((r || (not a || (not b || false))) && true))) ≡ same r (a && b)
and_table true true true = refl
and_table true true false = refl
and_table true false true = refl
and_table true false false = refl
and_table false true true = refl
and_table false true false = refl
and_table false false true = refl
and_table false false false = refl

xor_table : (r a b : Bool) → ((not r || (a || (b || false))) && ((not r || (not a || (not b || false))) && ((r || (not a || (b || false))) && ((r || (a || (not b || false))) && true)))) ≡ same r (differ a b)
xor_table true true true = refl
xor_table true true false = refl
xor_table true false true = refl
xor_table true false false = refl
xor_table false true true = refl
xor_table false true false = refl
xor_table false false true = refl
xor_table false false false = refl

choose_table : (r c a b : Bool) → ((not c || (not r || (a || false))) && ((not c || (r || (not a || false))) && ((c || (not r || (b || false))) && ((c || (r || (not b || false))) && true)))) ≡ same r (if c then a else b)
choose_table true true true true = refl
choose_table true true true false = refl
choose_table true true false true = refl
choose_table true true false false = refl
choose_table true false true true = refl
choose_table true false true false = refl
choose_table true false false true = refl
choose_table true false false false = refl
choose_table false true true true = refl
choose_table false true true false = refl
choose_table false true false true = refl
choose_table false true false false = refl
choose_table false false true true = refl
choose_table false false true false = refl
choose_table false false false true = refl
choose_table false false false false = refl

majority_table : (r a b c : Bool) → ((not r || (a || (b || false))) && ((not r || (a || (c || false))) && ((not r || (b || (c || false)))
    && ((r || (not a || (not b || false))) && ((r || (not a || (not c || false))) && ((r || (not b || (not c || false))) && true)))))) ≡ same r (majority a b c)
majority_table true true true true = refl
majority_table true true true false = refl
majority_table true true false true = refl
majority_table true true false false = refl
majority_table true false true true = refl
majority_table true false true false = refl
majority_table true false false true = refl
majority_table true false false false = refl
majority_table false true true true = refl
majority_table false true true false = refl
majority_table false true false true = refl
majority_table false true false false = refl
majority_table false false true true = refl
majority_table false false true false = refl
majority_table false false false true = refl
majority_table false false false false = refl

never_table : (r : Bool) → ((not r || false) && true) ≡ same r false
never_table true = refl
never_table false = refl

-- one clause after another
pushed : (a b c xs : List (List ℤ)) (y : List ℤ) → b ≡ a ++ xs → c ≡ b ++ y ∷ [] → c ≡ a ++ (xs ++ y ∷ [])
pushed a b c xs y e f = f ∙ ap (λ l. l ++ y ∷ []) e ∙ append_assoc a xs (y ∷ [])

pub pushed_two : (l0 l1 l2 : List (List ℤ)) (c0 c1 : List ℤ) → l1 ≡ l0 ++ c0 ∷ [] → l2 ≡ l1 ++ c1 ∷ [] → l2 ≡ l0 ++ c0 ∷ c1 ∷ []
pushed_two l0 l1 l2 c0 c1 e0 e1 = pushed l0 l1 l2 (c0 ∷ []) c1 e0 e1

pub pushed_three : (l0 l1 l2 l3 : List (List ℤ)) (c0 c1 c2 : List ℤ) → l1 ≡ l0 ++ c0 ∷ [] → l2 ≡ l1 ++ c1 ∷ [] → l3 ≡ l2 ++ c2 ∷ [] → l3 ≡ l0 ++ c0 ∷ c1 ∷ c2 ∷ []
pushed_three l0 l1 l2 l3 c0 c1 c2 e0 e1 e2 = pushed l0 l2 l3 (c0 ∷ c1 ∷ []) c2 (pushed_two l0 l1 l2 c0 c1 e0 e1) e2

pub pushed_four : (l0 l1 l2 l3 l4 : List (List ℤ)) (c0 c1 c2 c3 : List ℤ) → l1 ≡ l0 ++ c0 ∷ [] → l2 ≡ l1 ++ c1 ∷ [] → l3 ≡ l2 ++ c2 ∷ [] → l4 ≡ l3 ++ c3 ∷ [] → l4 ≡ l0 ++ c0 ∷ c1 ∷ c2 ∷ c3 ∷ []
pushed_four l0 l1 l2 l3 l4 c0 c1 c2 c3 e0 e1 e2 e3 = pushed l0 l3 l4 (c0 ∷ c1 ∷ c2 ∷ []) c3 (pushed_three l0 l1 l2 l3 c0 c1 c2 e0 e1 e2) e3

pub pushed_five : (l0 l1 l2 l3 l4 l5 : List (List ℤ)) (c0 c1 c2 c3 c4 : List ℤ) → l1 ≡ l0 ++ c0 ∷ [] → l2 ≡ l1 ++ c1 ∷ [] → l3 ≡ l2 ++ c2 ∷ [] → l4 ≡ l3 ++ c3 ∷ [] → l5 ≡ l4 ++ c4 ∷ [] → l5 ≡ l0 ++ c0 ∷ c1 ∷ c2 ∷ c3 ∷ c4 ∷ []
pushed_five l0 l1 l2 l3 l4 l5 c0 c1 c2 c3 c4 e0 e1 e2 e3 e4 = pushed l0 l4 l5 (c0 ∷ c1 ∷ c2 ∷ c3 ∷ []) c4 (pushed_four l0 l1 l2 l3 l4 c0 c1 c2 c3 e0 e1 e2 e3) e4

pub pushed_six : (l0 l1 l2 l3 l4 l5 l6 : List (List ℤ)) (c0 c1 c2 c3 c4 c5 : List ℤ) → l1 ≡ l0 ++ c0 ∷ [] → l2 ≡ l1 ++ c1 ∷ [] → l3 ≡ l2 ++ c2 ∷ [] → l4 ≡ l3 ++ c3 ∷ [] → l5 ≡ l4 ++ c4 ∷ [] → l6 ≡ l5 ++ c5 ∷ [] → l6 ≡ l0 ++ c0 ∷ c1 ∷ c2 ∷ c3 ∷ c4 ∷ c5 ∷ []
pushed_six l0 l1 l2 l3 l4 l5 l6 c0 c1 c2 c3 c4 c5 e0 e1 e2 e3 e4 e5 = pushed l0 l5 l6 (c0 ∷ c1 ∷ c2 ∷ c3 ∷ c4 ∷ []) c5 (pushed_five l0 l1 l2 l3 l4 l5 c0 c1 c2 c3 c4 e0 e1 e2 e3 e4) e5

module _ (old new : Cnf) (r : ℤ) (more : new.variables ≡ old.variables + 1) (is : r ≡ pos new.variables) where
  last_value : (v : Values) → lit_true v r ≡ v new.variables
  last_value v = ap (lit_true v) is

  nr : (v : Values) → lit_true v (neg_ℤ r) ≡ not (lit_true v r)
  nr v = opposite_value new.variables r v (let P : ℤ → Type 0 = λ z. Names new.variables z in subst P (sym is) (omega (arith, more), omega arith))

  pub never_gate : new.clauses ≡ old.clauses ++ (neg_ℤ r ∷ []) ∷ [] → IsGate old new 1 r (λ v. false)
  never_gate e = gate_made old new (λ v. false) _ more e (λ v w h. refl) (λ v. rw (nr v, last_value v) (never_table (v new.variables))) r is

  module _ (a b : ℤ) (ha : Names old.variables a) (hb : Names old.variables b) where
    oa : (v : Values) → lit_true v (neg_ℤ a) ≡ not (lit_true v a)
    oa v = opposite_value old.variables a v ha

    ob : (v : Values) → lit_true v (neg_ℤ b) ≡ not (lit_true v b)
    ob v = opposite_value old.variables b v hb

    pub and_gate : new.clauses ≡ old.clauses ++ (neg_ℤ r ∷ a ∷ []) ∷ (neg_ℤ r ∷ b ∷ []) ∷ (r ∷ neg_ℤ a ∷ neg_ℤ b ∷ []) ∷ []
        → IsGate old new 1 r (λ v. lit_true v a && lit_true v b)
    and_gate e = gate_made old new (λ v. lit_true v a && lit_true v b) _ more e
        (λ v w h. rw (value_agrees old.variables v w a h ha, value_agrees old.variables v w b h hb) refl)
        (λ v. rw (nr v, oa v, ob v, last_value v) (and_table (v new.variables) (lit_true v a) (lit_true v b)))
        r is

    pub xor_gate : new.clauses ≡ old.clauses ++ (neg_ℤ r ∷ a ∷ b ∷ []) ∷ (neg_ℤ r ∷ neg_ℤ a ∷ neg_ℤ b ∷ []) ∷ (r ∷ neg_ℤ a ∷ b ∷ []) ∷ (r ∷ a ∷ neg_ℤ b ∷ []) ∷ []
        → IsGate old new 1 r (λ v. differ (lit_true v a) (lit_true v b))
    xor_gate e = gate_made old new (λ v. differ (lit_true v a) (lit_true v b)) _ more e
        (λ v w h. rw (value_agrees old.variables v w a h ha, value_agrees old.variables v w b h hb) refl)
        (λ v. rw (nr v, oa v, ob v, last_value v) (xor_table (v new.variables) (lit_true v a) (lit_true v b)))
        r is

    module _ (c : ℤ) (hc : Names old.variables c) where
      oc : (v : Values) → lit_true v (neg_ℤ c) ≡ not (lit_true v c)
      oc v = opposite_value old.variables c v hc

      pub choose_gate : new.clauses ≡ old.clauses ++ (neg_ℤ c ∷ neg_ℤ r ∷ a ∷ []) ∷ (neg_ℤ c ∷ r ∷ neg_ℤ a ∷ []) ∷ (c ∷ neg_ℤ r ∷ b ∷ []) ∷ (c ∷ r ∷ neg_ℤ b ∷ []) ∷ []
          → IsGate old new 1 r (λ v. if lit_true v c then lit_true v a else lit_true v b)
      choose_gate e = gate_made old new (λ v. if lit_true v c then lit_true v a else lit_true v b) _ more e
          (λ v w h. rw (value_agrees old.variables v w c h hc, value_agrees old.variables v w a h ha, value_agrees old.variables v w b h hb) refl)
          (λ v. rw (nr v, oa v, ob v, oc v, last_value v) (choose_table (v new.variables) (lit_true v c) (lit_true v a) (lit_true v b)))
          r is

      pub majority_gate : new.clauses ≡ old.clauses ++ (neg_ℤ r ∷ a ∷ b ∷ []) ∷ (neg_ℤ r ∷ a ∷ c ∷ []) ∷ (neg_ℤ r ∷ b ∷ c ∷ [])
          ∷ (r ∷ neg_ℤ a ∷ neg_ℤ b ∷ []) ∷ (r ∷ neg_ℤ a ∷ neg_ℤ c ∷ []) ∷ (r ∷ neg_ℤ b ∷ neg_ℤ c ∷ []) ∷ []
          → IsGate old new 1 r (λ v. majority (lit_true v a) (lit_true v b) (lit_true v c))
      majority_gate e = gate_made old new (λ v. majority (lit_true v a) (lit_true v b) (lit_true v c)) _ more e
          (λ v w h. rw (value_agrees old.variables v w c h hc, value_agrees old.variables v w a h ha, value_agrees old.variables v w b h hb) refl)
          (λ v. rw (nr v, oa v, ob v, oc v, last_value v) (majority_table (v new.variables) (lit_true v a) (lit_true v b) (lit_true v c)))
          r is
