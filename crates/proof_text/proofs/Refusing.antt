-- Where a list stops being like the texts of a format.
use Rattle.std.proofs.Common.{◌≡◌, ℕ, zero, suc, ◌+◌, cond, List, [], ◌∷◌, ◌++◌, length, Option, Some, None, refl, sym, ap, subst, ◌∙◌, arith, append_assoc, append-nil, inl, inr}
use Rattle.std.specs.Prelude.{◌⊎◌, ◌==◌, Result, Ok, Err}
use Rattle.std.specs.List.{flat_map}
use Rattle.std.specs.Option.{option_map}
use Rattle.js_units.proofs.Reading.{Sound, Complete, Spelt}
use Rattle.proof_text.specs.Refusals.{first_lines, HasLines, IsFirstWrong}
use Rattle.proof_text.specs.Counted.{in_front, one_then, times}
use Rattle.proof_text.proofs.Whole.{IsLine, Whole, line_same, skip, whole_append, line_whole, first_of, some_same}

-- The list begins with whole lines with which a text begins too, and no text goes on with the line behind them.
pub record Refused {X : Type 0} (text : X → List ℕ) (is_spelt : X → Type 0) (list rest : List ℕ) : Type 0 where
  pub lines : ℕ
  pub before : List ℕ
  pub more : List ℕ
  pub like : X
  pub list_is : before ++ rest ≡ list
  pub whole : Whole lines before
  pub like_spelt : is_spelt like
  pub like_is : before ++ more ≡ text like
  pub none : (x : X) (line tail behind : List ℕ) → IsLine line → line ++ behind ≡ rest → is_spelt x → text x ≡ before ++ (line ++ tail) → ⊥

-- ---- one line

-- what is read by one line
pub record IsLineFormat {X : Type 0} (take : List ℕ → Option (X × List ℕ)) (text : X → List ℕ) (is_spelt : X → Type 0) : Type 0 where
  pub sound : Sound take text is_spelt
  pub complete : Complete take text is_spelt (λ rest. Unit {0})
  pub line : (x : X) → is_spelt x → IsLine (text x)

pub none_some : {A : Type 0} (o : Option A) (x : A) → o ≡ None → o ≡ Some x → ⊥
none_some o x e h = let k : None ≡ Some x = sym e ∙ h in absurd cc

pub line_refused : {X : Type 0} (take : List ℕ → Option (X × List ℕ)) (text : X → List ℕ) (is_spelt : X → Type 0) → IsLineFormat take text is_spelt → (some : X) → is_spelt some → (list : List ℕ) → take list ≡ None → Refused text is_spelt list list
line_refused {X} take text is_spelt f some s list e = record {
  lines = 0;
  before = [];
  more = text some;
  like = some;
  list_is = refl;
  whole = refl;
  like_spelt = s;
  like_is = refl;
  none = λ x line tail behind l h t k.
      let same = (line_same (text x) line [] tail (f.line x t) l (append-nil (text x) ∙ k)).0 in
      let found = f.complete x behind t tt in
      none_some (take list) (x, behind) e (ap take (sym h ∙ ap (λ (q : List ℕ). q ++ behind) (sym same)) ∙ found);
}

-- ---- one part behind another

-- of two fronts of one list one is a front of the other
pub split : (a b c d : List ℕ) → a ++ b ≡ c ++ d → ((m : List ℕ) × (a ≡ c ++ m) × (m ++ b ≡ d)) ⊎ ((m : List ℕ) × (c ≡ a ++ m) × (b ≡ m ++ d))
split [] b c d e = inr (c, refl, e)
split (x ∷ a) b [] d e = inl (x ∷ a, refl, e)
split (x ∷ a) b (y ∷ c) d e = by (split a b c d (parts e).1)
  where
    parts : x ∷ (a ++ b) ≡ y ∷ (c ++ d) → (x ≡ y) × (a ++ b ≡ c ++ d)
    parts e = (cc, cc)

    by : ((m : List ℕ) × (a ≡ c ++ m) × (m ++ b ≡ d)) ⊎ ((m : List ℕ) × (c ≡ a ++ m) × (b ≡ m ++ d)) → ((m : List ℕ) × (x ∷ a ≡ y ∷ c ++ m) × (m ++ b ≡ d)) ⊎ ((m : List ℕ) × (y ∷ c ≡ x ∷ a ++ m) × (b ≡ m ++ d))
    by (inl (m, h, k)) = inl (m, rw ((parts e).0, h) refl, k)
    by (inr (m, h, k)) = inr (m, rw (← (parts e).0, h) refl, k)

-- no text of the first part stands at the front, so none of the whole does
pub first_part : {B X : Type 0} (text : B → List ℕ) (is_spelt : B → Type 0) (front : X → List ℕ) (is_front : X → Type 0) (part : B → X) (rest_of : B → List ℕ)
    → ((b : B) → is_spelt b → (text b ≡ front (part b) ++ rest_of b) × is_front (part b))
    → ((x : X) → is_front x → (b : B) × is_spelt b × (part b ≡ x))
    → (list rest : List ℕ) → ((x : X) (behind : List ℕ) → is_front x → front x ++ behind ≡ list → ⊥)
    → Refused front is_front list rest → Refused text is_spelt list rest
first_part {B} text is_spelt front is_front part rest_of apart_of like_of list rest never r =
    let like = like_of r.like r.like_spelt in record {
      lines = r.lines;
      before = r.before;
      more = r.more ++ rest_of like.0;
      like = like.0;
      list_is = r.list_is;
      whole = r.whole;
      like_spelt = like.1;
      like_is = sym (append_assoc r.before r.more (rest_of like.0)) ∙ ap (λ (q : List ℕ). q ++ rest_of like.0) (r.like_is ∙ ap front (sym like.2)) ∙ sym (apart_of like.0 like.1).0;
      none = λ b line tail behind l h s k.
          by b line tail behind l h (apart_of b s).1 (split (front (part b)) (rest_of b) (r.before ++ line) tail (sym (apart_of b s).0 ∙ k ∙ sym (append_assoc r.before line tail)));
    }
  where
    by : (b : B) (line tail behind : List ℕ) → IsLine line → line ++ behind ≡ rest → is_front (part b) → ((m : List ℕ) × (front (part b) ≡ (r.before ++ line) ++ m) × (m ++ rest_of b ≡ tail)) ⊎ ((m : List ℕ) × (r.before ++ line ≡ front (part b) ++ m) × (rest_of b ≡ m ++ tail)) → ⊥
    by b line tail behind l h s (inl (m, e, f)) = r.none (part b) line m behind l h s (e ∙ append_assoc r.before line m)
    by b line tail behind l h s (inr (m, e, f)) =
        never (part b) (m ++ behind) s (sym (append_assoc (front (part b)) m behind) ∙ ap (λ (q : List ℕ). q ++ behind) (sym e) ∙ append_assoc r.before line behind ∙ ap (λ (q : List ℕ). r.before ++ q) h ∙ r.list_is)

-- behind a text of the first part no text of the second goes on
pub second_part : {B X Y : Type 0} (text : B → List ℕ) (is_spelt : B → Type 0) (front : X → List ℕ) (back : Y → List ℕ) (is_back : Y → Type 0) (x : X) (part : B → X) (behind_of : B → Y)
    → (n : ℕ) → Whole n (front x)
    → ((b : B) → is_spelt b → text b ≡ front (part b) ++ back (behind_of b))
    → ((b : B) → is_spelt b → part b ≡ x → is_back (behind_of b))
    → ((y : Y) → is_back y → (b : B) × is_spelt b × (text b ≡ front x ++ back y))
    → ((b : B) (list : List ℕ) → is_spelt b → front (part b) ++ back (behind_of b) ≡ front x ++ list → (part b ≡ x) × (back (behind_of b) ≡ list))
    → (list rest : List ℕ) → Refused back is_back list rest → Refused text is_spelt (front x ++ list) rest
second_part text is_spelt front back is_back x part behind_of n whole apart_of back_of like_of only list rest r =
    let like = like_of r.like r.like_spelt in record {
      lines = n + r.lines;
      before = front x ++ r.before;
      more = r.more;
      like = like.0;
      list_is = append_assoc (front x) r.before rest ∙ ap (λ (q : List ℕ). front x ++ q) r.list_is;
      whole = whole_append n r.lines (front x) r.before whole r.whole;
      like_spelt = like.1;
      like_is = append_assoc (front x) r.before r.more ∙ ap (λ (q : List ℕ). front x ++ q) r.like_is ∙ sym like.2;
      none = λ b line tail behind l h s k.
          let same = only b (r.before ++ (line ++ tail)) s (sym (apart_of b s) ∙ k ∙ append_assoc (front x) r.before (line ++ tail)) in
          r.none (behind_of b) line tail behind l h (back_of b s same.0) same.1;
    }

-- ---- the line

-- the first lines stand in front
front_by : (b : ℕ) (o : Option (List ℕ)) (bs front : List ℕ) → ((more : List ℕ) → o ≡ Some more → (tail : List ℕ) × (more ++ tail ≡ bs)) → option_map (λ (r : List ℕ). b ∷ r) o ≡ Some front → (tail : List ℕ) × (front ++ tail ≡ b ∷ bs)
front_by b None bs front go e = absurd cc
front_by b (Some more) bs front go e =
    let k = go more refl in
    (k.0, ap (λ (q : List ℕ). q ++ k.0) (sym (some_same (b ∷ more) front e)) ∙ ap (λ (q : List ℕ). b ∷ q) k.1)

front_of : (n : ℕ) (list front : List ℕ) → first_lines n list ≡ Some front → (tail : List ℕ) × (front ++ tail ≡ list)
front_of zero list front e = (list, ap (λ (q : List ℕ). q ++ list) (sym (some_same [] front e)))
front_of (suc n) [] front e = absurd cc
front_of (suc n) (b ∷ bs) front e = front_by b (first_lines (cond (b == 10) n (suc n)) bs) bs front (λ more h. front_of (cond (b == 10) n (suc n)) bs more h) e

-- with the line behind those before it no text begins
pub no_more : {X : Type 0} (text : X → List ℕ) (is_spelt : X → Type 0) (list rest : List ℕ) (r : Refused text is_spelt list rest) → HasLines text is_spelt (r.lines + 1) list → ⊥
no_more text is_spelt list rest r (front, x, a, s, b) =
    by (first_lines 1 rest) refl
  where
    of_list : first_lines (r.lines + 1) list ≡ option_map (λ (q : List ℕ). r.before ++ q) (first_lines 1 rest)
    of_list = ap (first_lines (r.lines + 1)) (sym r.list_is) ∙ skip r.lines 1 r.before rest r.whole

    by : (o : Option (List ℕ)) → first_lines 1 rest ≡ o → ⊥
    by None e = none_some (first_lines (r.lines + 1) list) front (of_list ∙ ap (λ (q : Option (List ℕ)). option_map (λ (q : List ℕ). r.before ++ q) q) e) a
    by (Some line) e =
        let l = first_of rest line e in
        let is_front : r.before ++ line ≡ front = some_same (r.before ++ line) front (ap (λ (q : Option (List ℕ)). option_map (λ (q : List ℕ). r.before ++ q) q) (sym e) ∙ sym of_list ∙ a) in
        let cut = front_of (r.lines + 1) (text x) front b in
        r.none x line cut.0 l.behind l.is_line l.list_is s (sym cut.1 ∙ ap (λ (q : List ℕ). q ++ cut.0) (sym is_front) ∙ append_assoc r.before line cut.0)

-- the line behind those before it is the first wrong one
pub first_wrong : {X : Type 0} (text : X → List ℕ) (is_spelt : X → Type 0) (list rest : List ℕ) → ((x : X) (behind : List ℕ) → is_spelt x → text x ++ behind ≡ list → ⊥) → (r : Refused text is_spelt list rest) (line : ℕ) → line ≡ r.lines + 1 → IsFirstWrong text is_spelt list line
first_wrong text is_spelt list rest never r line e = record {
  none = never;
  before = r.lines;
  line_is = omega (arith, e);
  has = (
    r.before,
    r.like,
    first_whole r.before rest list r.list_is r.whole,
    r.like_spelt,
    first_whole r.before r.more (text r.like) r.like_is r.whole,
  );
  wrong = λ h. no_more text is_spelt list rest r (subst (λ (q : ℕ). HasLines text is_spelt q list) e h);
}
  where
    add_nothing : (n : ℕ) → n ≡ n + 0
    add_nothing n = omega arith

    first_whole : (a b c : List ℕ) → a ++ b ≡ c → Whole r.lines a → first_lines r.lines c ≡ Some a
    first_whole a b c h k =
        ap (first_lines r.lines) (sym h) ∙ ap (λ (q : ℕ). first_lines q (a ++ b)) (add_nothing r.lines) ∙ skip r.lines 0 a b k ∙ ap (λ (q : List ℕ). Some q) (append-nil a)

-- ---- so many lines

abbrev pub TimesSpelt : {X : Type 0} → (X → Type 0) → ℕ → List X → Type 0
TimesSpelt is_spelt n xs = (length xs ≡ n) × Spelt is_spelt xs

pub ok_same : (A : Type 0) (a b : A) → ◌≡◌ {A = Result A (List ℕ)} (Ok a) (Ok b) → a ≡ b
ok_same A a b e = cc

in_front_ok : {X : Type 0} (x : X) (r : Result (List X × List ℕ) (List ℕ)) (q : List X × List ℕ) → in_front x r ≡ Ok q → (ys : List X) × (r ≡ Ok (ys, q.1)) × (x ∷ ys ≡ q.0)
in_front_ok {X} x (Ok r) q e =
    let one : List X × List ℕ = (x ∷ r.0, r.1) in
    let same : one ≡ q = ok_same (List X × List ℕ) one q e in
    (r.0, ap (λ (k : List ℕ). Ok (r.0, k)) (ap (λ (k : List X × List ℕ). k.1) same), ap (λ (k : List X × List ℕ). k.0) same)
in_front_ok x (Err at) q e = absurd cc

times_ok : {X : Type 0} (take : List ℕ → Option (X × List ℕ)) (text : X → List ℕ) (is_spelt : X → Type 0) → Sound take text is_spelt → (n : ℕ) (list : List ℕ) (o : Option (X × List ℕ)) (q : List X × List ℕ) → take list ≡ o → one_then o list (times take n) ≡ Ok q
    → ((left : List ℕ) (p : List X × List ℕ) → times take n left ≡ Ok p → TimesSpelt is_spelt n p.0 × (flat_map text p.0 ++ p.1 ≡ left))
    → TimesSpelt is_spelt (suc n) q.0 × (flat_map text q.0 ++ q.1 ≡ list)
times_ok take text is_spelt h n list None q e k go = absurd cc
times_ok take text is_spelt h n list (Some r) q e k go =
    let f = in_front_ok r.0 (times take n r.1) q k in
    let one = h list r.0 r.1 e in
    let more = go r.1 (f.0, q.1) f.1 in (
      subst (λ p. TimesSpelt is_spelt (suc n) p) f.2 (omega (arith, more.0.0), (one.0, more.0.1)),
      ap (λ p. flat_map text p ++ q.1) (sym f.2) ∙ append_assoc (text r.0) (flat_map text f.0) q.1 ∙ ap (λ (p : List ℕ). text r.0 ++ p) more.1 ∙ one.1,
    )

pub times_sound : {X : Type 0} (take : List ℕ → Option (X × List ℕ)) (text : X → List ℕ) (is_spelt : X → Type 0) → Sound take text is_spelt → (n : ℕ) (list : List ℕ) (q : List X × List ℕ) → times take n list ≡ Ok q → TimesSpelt is_spelt n q.0 × (flat_map text q.0 ++ q.1 ≡ list)
times_sound {X} take text is_spelt h zero list q e =
    let one : List X × List ℕ = ([], list) in
    let same : one ≡ q = ok_same (List X × List ℕ) one q e in
    (subst (λ (p : List X × List ℕ). TimesSpelt is_spelt 0 p.0) same (refl, tt), ap (λ (p : List X × List ℕ). flat_map text p.0 ++ p.1) (sym same))
times_sound take text is_spelt h (suc n) list q e = times_ok take text is_spelt h n list (take list) q refl e (λ left p k. times_sound take text is_spelt h n left p k)

pub times_complete : {X : Type 0} (take : List ℕ → Option (X × List ℕ)) (text : X → List ℕ) (is_spelt : X → Type 0) → Complete take text is_spelt (λ rest. Unit {0}) → (n : ℕ) (xs : List X) (rest : List ℕ) → TimesSpelt is_spelt n xs → times take n (flat_map text xs ++ rest) ≡ Ok (xs, rest)
times_complete take text is_spelt h zero [] rest s = refl
times_complete take text is_spelt h zero (x ∷ xs) rest s = absurd (omega (arith, s.0))
times_complete take text is_spelt h (suc n) [] rest s = absurd (omega (arith, s.0))
times_complete take text is_spelt h (suc n) (x ∷ xs) rest s =
    let list = text x ++ (flat_map text xs ++ rest) in
    ap (times take (suc n)) (append_assoc (text x) (flat_map text xs) rest)
    ∙ ap (λ o. one_then o list (times take n)) (h x (flat_map text xs ++ rest) s.1.0 tt)
    ∙ ap (in_front x) (times_complete take text is_spelt h n xs rest (omega (arith, s.0), s.1.1))

-- any number of them is there
pub some_times : {X : Type 0} (is_spelt : X → Type 0) (some : X) → is_spelt some → (n : ℕ) → (xs : List X) × TimesSpelt is_spelt n xs
some_times is_spelt some s zero = ([], (refl, tt))
some_times is_spelt some s (suc n) = let more = some_times is_spelt some s n in (some ∷ more.0, (omega (arith, more.1.0), (s, more.1.1)))

in_front_err : {X : Type 0} (x : X) (r : Result (List X × List ℕ) (List ℕ)) (at : List ℕ) → in_front x r ≡ Err at → r ≡ Err at
in_front_err x (Ok r) at e = absurd cc
in_front_err x (Err here) at e = cc

times_by : {X : Type 0} (take : List ℕ → Option (X × List ℕ)) (text : X → List ℕ) (is_spelt : X → Type 0) → IsLineFormat take text is_spelt → (some : X) → is_spelt some → (n : ℕ) (list rest : List ℕ) (o : Option (X × List ℕ)) → take list ≡ o → one_then o list (times take n) ≡ Err rest
    → ((left : List ℕ) → times take n left ≡ Err rest → Refused (flat_map text) (TimesSpelt is_spelt n) left rest)
    → Refused (flat_map text) (TimesSpelt is_spelt (suc n)) list rest
times_by {X} take text is_spelt f some s n list rest None e h go =
    let here : list ≡ rest = err_same list rest h in
    let more = some_times is_spelt some s n in
    let r = line_refused take text is_spelt f some s list e in
    subst (λ (q : List ℕ). Refused (flat_map text) (TimesSpelt is_spelt (suc n)) list q) here
    (record {
      lines = 0;
      before = [];
      more = flat_map text (some ∷ more.0);
      like = some ∷ more.0;
      list_is = refl;
      whole = refl;
      like_spelt = (omega (arith, more.1.0), (s, more.1.1));
      like_is = refl;
      none = λ xs line tail behind l k t m. first xs line tail behind l k t m r;
    })
  where
    err_same : (a b : List ℕ) → ◌≡◌ {A = Result (List X × List ℕ) (List ℕ)} (Err a) (Err b) → a ≡ b
    err_same a b e = cc

    first : (xs : List X) (line tail behind : List ℕ) → IsLine line → line ++ behind ≡ list → TimesSpelt is_spelt (suc n) xs → flat_map text xs ≡ [] ++ (line ++ tail) → Refused text is_spelt list list → ⊥
    first [] line tail behind l k t m r = absurd (omega (arith, t.0))
    first (x ∷ xs) line tail behind l k t m r =
        let same = (line_same (text x) line (flat_map text xs) tail (f.line x t.1.0) l m).0 in
        none_some (take list) (x, behind) e (ap take (sym k ∙ ap (λ (q : List ℕ). q ++ behind) (sym same)) ∙ f.complete x behind t.1.0 tt)
times_by {X} take text is_spelt f some s n list rest (Some r) e h go =
    let one = f.sound list r.0 r.1 e in
    let inner = go r.1 (in_front_err r.0 (times take n r.1) rest h) in
    subst (λ (q : List ℕ). Refused (flat_map text) (TimesSpelt is_spelt (suc n)) q rest) one.1
    (record {
      lines = 1 + inner.lines;
      before = text r.0 ++ inner.before;
      more = inner.more;
      like = r.0 ∷ inner.like;
      list_is = append_assoc (text r.0) inner.before rest ∙ ap (λ (q : List ℕ). text r.0 ++ q) inner.list_is;
      whole = whole_append 1 inner.lines (text r.0) inner.before (line_whole (text r.0) (f.line r.0 one.0)) inner.whole;
      like_spelt = (omega (arith, inner.like_spelt.0), (one.0, inner.like_spelt.1));
      like_is = append_assoc (text r.0) inner.before inner.more ∙ ap (λ (q : List ℕ). text r.0 ++ q) inner.like_is;
      none = λ xs line tail behind l k t m. later xs line tail behind l k t inner m one.0;
    })
  where
    later : (xs : List X) (line tail behind : List ℕ) → IsLine line → line ++ behind ≡ rest → TimesSpelt is_spelt (suc n) xs → (inner : Refused (flat_map text) (TimesSpelt is_spelt n) r.1 rest) → flat_map text xs ≡ (text r.0 ++ inner.before) ++ (line ++ tail) → is_spelt r.0 → ⊥
    later [] line tail behind l k t inner m one = absurd (omega (arith, t.0))
    later (x ∷ xs) line tail behind l k t inner m one =
        let same = line_same (text x) (text r.0) (flat_map text xs) (inner.before ++ (line ++ tail)) (f.line x t.1.0) (f.line r.0 one) (m ∙ append_assoc (text r.0) inner.before (line ++ tail)) in
        inner.none xs line tail behind l k (omega (arith, t.0), t.1.1) same.1

pub times_refused : {X : Type 0} (take : List ℕ → Option (X × List ℕ)) (text : X → List ℕ) (is_spelt : X → Type 0) → IsLineFormat take text is_spelt → (some : X) → is_spelt some → (n : ℕ) (list rest : List ℕ) → times take n list ≡ Err rest → Refused (flat_map text) (TimesSpelt is_spelt n) list rest
times_refused take text is_spelt f some s zero list rest e = absurd cc
times_refused take text is_spelt f some s (suc n) list rest e = times_by take text is_spelt f some s n list rest (take list) refl e (λ left k. times_refused take text is_spelt f some s n left rest k)

-- they are that many lines
pub whole_times : {X : Type 0} (take : List ℕ → Option (X × List ℕ)) (text : X → List ℕ) (is_spelt : X → Type 0) → IsLineFormat take text is_spelt → (n : ℕ) (xs : List X) → TimesSpelt is_spelt n xs → Whole n (flat_map text xs)
whole_times take text is_spelt f zero [] s = refl
whole_times take text is_spelt f zero (x ∷ xs) s = absurd (omega (arith, s.0))
whole_times take text is_spelt f (suc n) [] s = absurd (omega (arith, s.0))
whole_times take text is_spelt f (suc n) (x ∷ xs) s =
    subst (λ (q : ℕ). Whole q (flat_map text (x ∷ xs))) (one_add n)
    (whole_append 1 n (text x) (flat_map text xs) (line_whole (text x) (f.line x s.1.0)) (whole_times take text is_spelt f n xs (omega (arith, s.0), s.1.1)))
  where
    one_add : (n : ℕ) → 1 + n ≡ suc n
    one_add n = omega arith
