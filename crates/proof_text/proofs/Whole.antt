-- Lists that are whole lines.
use Rattle.std.proofs.Common.{◌≡◌, ℕ, zero, suc, ◌+◌, Bool, true, false, cond, List, [], ◌∷◌, ◌++◌, Option, Some, None, refl, sym, ap, subst, ◌∙◌, arith, append_assoc, append-nil}
use Rattle.std.specs.Prelude.{◌==◌, not}
use Rattle.std.specs.List.{list_all}
use Rattle.std.specs.Option.{option_map}
use Rattle.std.proofs.lemmas.Bool.{eqb-true, and_parts}
use Rattle.proof_text.specs.Refusals.{first_lines}
use Rattle.proof_text.specs.Answers.{line_ends}

-- no LF
abbrev pub is_inner : ℕ → Bool
is_inner b = not (b == 10)

-- no LF, and then one
pub record IsLine (line : List ℕ) : Type 0 where
  pub content : List ℕ
  pub inner : list_all is_inner content ≡ true
  pub line_is : line ≡ content ++ 10 ∷ []

pub some_same : {A : Type 0} (a b : A) → Some a ≡ Some b → a ≡ b
some_same a b e = cc

tail_same : {A : Type 0} (x y : A) (xs ys : List A) → x ∷ xs ≡ y ∷ ys → (x ≡ y) × (xs ≡ ys)
tail_same x y xs ys e = (cc, cc)

inner_not : (b : ℕ) (bs : List ℕ) → list_all is_inner (b ∷ bs) ≡ true → b ≡ 10 → ⊥
inner_not b bs e h = let k : list_all is_inner (10 ∷ bs) ≡ true = subst (λ (q : ℕ). list_all is_inner (q ∷ bs) ≡ true) h e in absurd (clash k)
  where
    clash : false ≡ true → ⊥
    clash e = cc

inner_rest : (b : ℕ) (bs : List ℕ) → list_all is_inner (b ∷ bs) ≡ true → list_all is_inner bs ≡ true
inner_rest b bs e = (and_parts (is_inner b) (list_all is_inner bs) e).1

-- the first line of a list is one
cut_same : (a b c d : List ℕ) → list_all is_inner a ≡ true → list_all is_inner b ≡ true → a ++ 10 ∷ c ≡ b ++ 10 ∷ d → (a ≡ b) × (c ≡ d)
cut_same [] [] c d ha hb e = (refl, (tail_same 10 10 c d e).1)
cut_same [] (y ∷ b) c d ha hb e = absurd (inner_not y b hb (sym (tail_same 10 y c (b ++ 10 ∷ d) e).0))
cut_same (x ∷ a) [] c d ha hb e = absurd (inner_not x a ha (tail_same x 10 (a ++ 10 ∷ c) d e).0)
cut_same (x ∷ a) (y ∷ b) c d ha hb e =
    let parts = tail_same x y (a ++ 10 ∷ c) (b ++ 10 ∷ d) e in
    let more = cut_same a b c d (inner_rest x a ha) (inner_rest y b hb) parts.1 in
    (rw (parts.0, more.0) refl, more.1)

pub line_same : (a b c d : List ℕ) → IsLine a → IsLine b → a ++ c ≡ b ++ d → (a ≡ b) × (c ≡ d)
line_same a b c d ha hb e =
    let k : ha.content ++ 10 ∷ c ≡ hb.content ++ 10 ∷ d =
    sym (append_assoc ha.content (10 ∷ []) c) ∙ ap (λ (q : List ℕ). q ++ c) (sym ha.line_is) ∙ e ∙ ap (λ (q : List ℕ). q ++ d) hb.line_is ∙ append_assoc hb.content (10 ∷ []) d in
    let both = cut_same ha.content hb.content c d ha.inner hb.inner k in
    (ha.line_is ∙ ap (λ (q : List ℕ). q ++ 10 ∷ []) both.0 ∙ sym hb.line_is, both.1)

-- ---- so many lines

-- exactly so many, with nothing behind them
abbrev pub Whole : ℕ → List ℕ → Type 0
Whole n list = first_lines n list ≡ Some list

map_map : (a b : List ℕ) (o : Option (List ℕ)) → option_map (λ (r : List ℕ). a ++ r) (option_map (λ (r : List ℕ). b ++ r) o) ≡ option_map (λ (r : List ℕ). a ++ b ++ r) o
map_map a b None = refl
map_map a b (Some r) = ap (λ (q : List ℕ). Some q) (sym (append_assoc a b r))

map_nil : (o : Option (List ℕ)) → option_map (λ (r : List ℕ). [] ++ r) o ≡ o
map_nil None = refl
map_nil (Some r) = refl

unmapped : (b : ℕ) (o : Option (List ℕ)) (bs : List ℕ) → option_map (λ (line : List ℕ). b ∷ line) o ≡ Some (b ∷ bs) → o ≡ Some bs
unmapped b None bs e = absurd cc
unmapped b (Some r) bs e = ap (λ (q : List ℕ). Some q) (tail_same b b r bs (some_same (b ∷ r) (b ∷ bs) e)).1

less : (b n m : ℕ) (x : Bool) → cond x n (suc n) + m ≡ cond x (n + m) (suc (n + m))
less b n m true = refl
less b n m false = omega arith

-- the first lines of a list that begins with whole lines
pub skip : (n m : ℕ) (a b : List ℕ) → Whole n a → first_lines (n + m) (a ++ b) ≡ option_map (λ (r : List ℕ). a ++ r) (first_lines m b)
skip zero m [] b h = ap (λ (q : ℕ). first_lines q b) (zero_add m) ∙ sym (map_nil (first_lines m b))
  where
    zero_add : (m : ℕ) → 0 + m ≡ m
    zero_add m = omega arith
skip zero m (x ∷ a) b h = absurd (let k = some_same [] (x ∷ a) h in cc)
skip (suc n) m [] b h = absurd cc
skip (suc n) m (x ∷ a) b h =
    let more = skip (cond (x == 10) n (suc n)) m a b (unmapped x (first_lines (cond (x == 10) n (suc n)) a) a h) in
    ap (λ (q : ℕ). first_lines q (x ∷ a ++ b)) (suc_add n m)
    ∙ ap (λ (q : ℕ). option_map (λ (line : List ℕ). x ∷ line) (first_lines q (a ++ b))) (sym (less x n m (x == 10)))
    ∙ ap (λ (q : Option (List ℕ)). option_map (λ (line : List ℕ). x ∷ line) q) more
    ∙ map_map (x ∷ []) a (first_lines m b)
  where
    suc_add : (n m : ℕ) → suc n + m ≡ suc (n + m)
    suc_add n m = omega arith

pub whole_append : (n m : ℕ) (a b : List ℕ) → Whole n a → Whole m b → Whole (n + m) (a ++ b)
whole_append n m a b h k = skip n m a b h ∙ ap (λ (q : Option (List ℕ)). option_map (λ (r : List ℕ). a ++ r) q) k

-- a line is one line
line_in : (content rest : List ℕ) → list_all is_inner content ≡ true → first_lines 1 (content ++ 10 ∷ rest) ≡ Some (content ++ 10 ∷ [])
line_in [] rest h = refl
line_in (b ∷ bs) rest h =
    let parts = and_parts (is_inner b) (list_all is_inner bs) h in
    rw (not_lf (b == 10) parts.0) (ap (λ (q : Option (List ℕ)). option_map (λ (line : List ℕ). b ∷ line) q) (line_in bs rest parts.1))
  where
    not_lf : (x : Bool) → not x ≡ true → x ≡ false
    not_lf true e = absurd cc
    not_lf false e = refl

pub line_first : (line rest : List ℕ) → IsLine line → first_lines 1 (line ++ rest) ≡ Some line
line_first line rest h =
    ap (λ (q : List ℕ). first_lines 1 (q ++ rest)) h.line_is ∙ ap (first_lines 1) (append_assoc h.content (10 ∷ []) rest) ∙ line_in h.content rest h.inner ∙ ap (λ (q : List ℕ). Some q) (sym h.line_is)

pub line_whole : (line : List ℕ) → IsLine line → Whole 1 line
line_whole line h = ap (first_lines 1) (sym (append-nil line)) ∙ line_first line [] h

-- what the first line of a list is
pub record FirstLine (list line : List ℕ) : Type 0 where
  pub is_line : IsLine line
  pub behind : List ℕ
  pub list_is : line ++ behind ≡ list

first_by : (b : ℕ) (bs line : List ℕ) (x : Bool) → (b == 10) ≡ x → option_map (λ (r : List ℕ). b ∷ r) (first_lines (cond x 0 1) bs) ≡ Some line → ((more : List ℕ) → first_lines 1 bs ≡ Some more → FirstLine bs more) → FirstLine (b ∷ bs) line
first_by b bs line true e h go =
    let same = some_same (b ∷ []) line h in
    record {
      is_line = record { content = []; inner = refl; line_is = sym same ∙ ap (λ (q : ℕ). q ∷ []) (eqb-true b 10 e) };
      behind = bs;
      list_is = ap (λ (q : List ℕ). q ++ bs) (sym same);
    }
first_by b bs line false e h go = later (first_lines 1 bs) refl h
  where
    later : (o : Option (List ℕ)) → first_lines 1 bs ≡ o → option_map (λ (r : List ℕ). b ∷ r) o ≡ Some line → FirstLine (b ∷ bs) line
    later None k h = absurd cc
    later (Some more) k h =
        let same = some_same (b ∷ more) line h in
        let m = go more k in
        record {
          is_line = record { content = b ∷ m.is_line.content; inner = rw e m.is_line.inner; line_is = sym same ∙ ap (λ (q : List ℕ). b ∷ q) m.is_line.line_is };
          behind = m.behind;
          list_is = ap (λ (q : List ℕ). q ++ m.behind) (sym same) ∙ ap (λ (q : List ℕ). b ∷ q) m.list_is;
        }

pub first_of : (list line : List ℕ) → first_lines 1 list ≡ Some line → FirstLine list line
first_of [] line e = absurd cc
first_of (b ∷ bs) line e = first_by b bs line (b == 10) refl e (λ more k. first_of bs more k)

-- so many lines end in whole lines
ends_by : (b n : ℕ) (bs : List ℕ) (x : Bool) → (b == 10) ≡ x → (line_ends bs ≡ cond x n (suc n)) → cond x 1 0 + line_ends bs ≡ suc n
ends_by b n bs true e h = omega (arith, h)
ends_by b n bs false e h = omega (arith, h)

pub whole_ends : (n : ℕ) (list : List ℕ) → Whole n list → line_ends list ≡ n
whole_ends zero [] h = refl
whole_ends zero (b ∷ bs) h = absurd (let k = some_same [] (b ∷ bs) h in cc)
whole_ends (suc n) [] h = absurd cc
whole_ends (suc n) (b ∷ bs) h =
    ends_by b n bs (b == 10) refl (whole_ends (cond (b == 10) n (suc n)) bs (unmapped b (first_lines (cond (b == 10) n (suc n)) bs) bs h))
