-- Where a list stops being like the texts of a format: parts behind one another.
use Rattle.std.proofs.Common.{◌≡◌, ℕ, zero, suc, ◌+◌, ◌<◌, Bool, true, false, List, [], ◌∷◌, ◌++◌, length, Option, Some, None, refl, sym, ap, ◌∙◌, arith, append_assoc, append-nil}
use Rattle.std.specs.Prelude.{◌==◌, Result, Ok, Err}
use Rattle.std.specs.Option.{option_map}
use Rattle.std.specs.List.{flat_map}
use Rattle.js_units.specs.Reading.{many}
use Rattle.js_units.proofs.Reading.{Spelt, Shortens, many_sound, many_complete, many_more, many_end}
use Rattle.proof_text.specs.Counted.{◌>>=◌}
use Rattle.proof_text.proofs.Whole.{IsLine, Whole, line_same, whole_append, line_whole}
use Rattle.proof_text.proofs.Refusing.{Refused, IsLineFormat, none_some}

-- ---- a chain of readings

-- what a chain of readings found, its first reading found
pub record Went {A B : Type 0} (o : Result A (List ℕ)) (f : A → Result B (List ℕ)) (y : B) : Type 0 where
  pub first : A
  pub first_is : o ≡ Ok first
  pub then_is : f first ≡ Ok y

pub went : {A B : Type 0} (o : Result A (List ℕ)) (f : A → Result B (List ℕ)) (y : B) → o >>= f ≡ Ok y → Went o f y
went (Err at) f y e = absurd cc
went (Ok x) f y e = record { first = x; first_is = refl; then_is = e }

-- ---- whole lines

abbrev pub IsWhole : List ℕ → Type 0
IsWhole list = (n : ℕ) × Whole n list

pub whole_none : IsWhole []
whole_none = (0, refl)

pub whole_line : (line : List ℕ) → IsLine line → IsWhole line
whole_line line h = (1, line_whole line h)

pub whole_both : (a b : List ℕ) → IsWhole a → IsWhole b → IsWhole (a ++ b)
whole_both a b h k = (h.0 + k.0, whole_append h.0 k.0 a b h.1 k.1)

pub whole_each : {X : Type 0} (text : X → List ℕ) (P : X → Type 0) → ((x : X) → P x → IsWhole (text x)) → (xs : List X) → Spelt P xs → IsWhole (flat_map text xs)
whole_each text P h [] s = whole_none
whole_each text P h (x ∷ xs) s = whole_both (text x) (flat_map text xs) (h x s.0) (whole_each text P h xs s.1)

pub whole_all : {X : Type 0} (text : X → List ℕ) → ((x : X) → IsWhole (text x)) → (xs : List X) → IsWhole (flat_map text xs)
whole_all text h [] = whole_none
whole_all text h (x ∷ xs) = whole_both (text x) (flat_map text xs) (h x) (whole_all text h xs)

-- what ends with LF, is whole lines
whole_from : (a : List ℕ) → (m : ℕ) × Whole (suc m) (a ++ 10 ∷ [])
whole_from [] = (0, refl)
whole_from (b ∷ bs) = by (b == 10) refl (whole_from bs)
  where
    by : (x : Bool) → (b == 10) ≡ x → (m : ℕ) × Whole (suc m) (bs ++ 10 ∷ []) → (m : ℕ) × Whole (suc m) (b ∷ bs ++ 10 ∷ [])
    by true e (m, h) = (suc m, rw e (ap (λ (o : Option (List ℕ)). option_map (λ (r : List ℕ). b ∷ r) o) h))
    by false e (m, h) = (m, rw e (ap (λ (o : Option (List ℕ)). option_map (λ (r : List ℕ). b ∷ r) o) h))

pub whole_lf : (a : List ℕ) → IsWhole (a ++ 10 ∷ [])
whole_lf a = let k = whole_from a in (suc k.0, k.1)

-- ---- behind what is given

pub behind_refused : {B Y : Type 0} (text : B → List ℕ) (is_spelt : B → Type 0) (back : Y → List ℕ) (is_back : Y → Type 0) (front : List ℕ) → IsWhole front
    → ((y : Y) → is_back y → (b : B) × is_spelt b × (text b ≡ front ++ back y))
    → (list rest : List ℕ)
    → ((b : B) (before line tail behind : List ℕ) → IsLine line → before ++ (line ++ behind) ≡ list → is_spelt b → text b ≡ front ++ (before ++ (line ++ tail)) → (y : Y) × is_back y × (back y ≡ before ++ (line ++ tail)))
    → Refused back is_back list rest → Refused text is_spelt (front ++ list) rest
behind_refused text is_spelt back is_back front whole grow list rest cut r =
    let like = grow r.like r.like_spelt in record {
      lines = whole.0 + r.lines;
      before = front ++ r.before;
      more = r.more;
      like = like.0;
      list_is = append_assoc front r.before rest ∙ ap (λ (q : List ℕ). front ++ q) r.list_is;
      whole = whole_append whole.0 r.lines front r.before whole.1 r.whole;
      like_spelt = like.1;
      like_is = append_assoc front r.before r.more ∙ ap (λ (q : List ℕ). front ++ q) r.like_is ∙ sym like.2;
      none = λ b line tail behind l h s k.
          let c = cut b r.before line tail behind l (ap (λ (q : List ℕ). r.before ++ q) h ∙ r.list_is) s (k ∙ append_assoc front r.before (line ++ tail)) in
          r.none c.0 line tail behind l h c.1 c.2;
    }

-- the same, where no text goes on with another part
pub next_refused : {B Y : Type 0} (text : B → List ℕ) (is_spelt : B → Type 0) (back : Y → List ℕ) (is_back : Y → Type 0) (front : List ℕ) → IsWhole front
    → ((y : Y) → is_back y → (b : B) × is_spelt b × (text b ≡ front ++ back y))
    → ((b : B) (list : List ℕ) → is_spelt b → text b ≡ front ++ list → (y : Y) × is_back y × (back y ≡ list))
    → (list rest : List ℕ) → Refused back is_back list rest → Refused text is_spelt (front ++ list) rest
next_refused text is_spelt back is_back front whole grow cut list rest r =
    behind_refused text is_spelt back is_back front whole grow list rest (λ b before line tail behind l h s k. cut b (before ++ (line ++ tail)) s k) r

-- ---- lines

-- whether a line is read depends on that line alone
pub line_local : {X : Type 0} (take : List ℕ → Option (X × List ℕ)) (text : X → List ℕ) (is_spelt : X → Type 0) → IsLineFormat take text is_spelt → (line tail behind : List ℕ) → IsLine line → take (line ++ behind) ≡ None → take (line ++ tail) ≡ None
line_local {X} take text is_spelt f line tail behind l e = by (take (line ++ tail)) refl
  where
    by : (o : Option (X × List ℕ)) → take (line ++ tail) ≡ o → o ≡ None
    by None h = refl
    by (Some r) h =
        let k = f.sound (line ++ tail) r.0 r.1 h in
        let same = (line_same (text r.0) line r.1 tail (f.line r.0 k.0) l k.1).0 in
        absurd (none_some (take (line ++ behind)) (r.0, behind) e (ap (λ (q : List ℕ). take (q ++ behind)) (sym same) ∙ f.complete r.0 behind k.0 tt))

stops_by : {X : Type 0} (take : List ℕ → Option (X × List ℕ)) → Shortens take → (list : List ℕ) (o : Option (X × List ℕ)) → take list ≡ o → ((rest : List ℕ) → length rest < length list → take (many take rest).1 ≡ None) → take (many take list).1 ≡ None
stops_by {X} take short list None e go = ap (λ (q : List X × List ℕ). take q.1) (many_end take list e) ∙ e
stops_by {X} take short list (Some r) e go = ap (λ (q : List X × List ℕ). take q.1) (many_more take short list r.0 r.1 e) ∙ go r.1 (short list r.0 r.1 e)

stops_in : {X : Type 0} (take : List ℕ → Option (X × List ℕ)) → Shortens take → (n : ℕ) (list : List ℕ) → length list < n → take (many take list).1 ≡ None
stops_in take short zero list h = absurd (omega (arith, h))
stops_in take short (suc n) list h = stops_by take short list (take list) refl (λ rest l. stops_in take short n rest (omega (arith, h, l)))

-- behind as many as there are, none stands in front
pub stops : {X : Type 0} (take : List ℕ → Option (X × List ℕ)) → Shortens take → (list : List ℕ) → take (many take list).1 ≡ None
stops take short list = stops_in take short (suc (length list)) list (omega arith)

-- as many lines of one kind as there are, then one of another
pub then_refused : {X Z : Type 0} (take : List ℕ → Option (X × List ℕ)) (text : X → List ℕ) (is_spelt : X → Type 0) → IsLineFormat take text is_spelt → Shortens take
    → (last : List ℕ → Option (Z × List ℕ)) (last_text : Z → List ℕ) (is_last : Z → Type 0) → IsLineFormat last last_text is_last
    → ((z : Z) (rest : List ℕ) → take (last_text z ++ rest) ≡ None) → (some : Z) → is_last some
    → (list : List ℕ) → last (many take list).1 ≡ None → Refused (λ (b : List X × Z). flat_map text b.0 ++ last_text b.1) (λ (b : List X × Z). Spelt is_spelt b.0 × is_last b.1) list (many take list).1
then_refused {X} {Z} take text is_spelt f short last last_text is_last g apart some s list e =
    let m = many_sound take text is_spelt f.sound list in
    let xs = (many take list).0 in
    let left = (many take list).1 in
    let whole = whole_each text is_spelt (λ x t. whole_line (text x) (f.line x t)) xs m.0 in record {
      lines = whole.0;
      before = flat_map text xs;
      more = last_text some;
      like = (xs, some);
      list_is = m.1;
      whole = whole.1;
      like_spelt = (m.0, s);
      like_is = refl;
      none = λ b line tail behind l h t k.
          let none_here : take (line ++ tail) ≡ None = line_local take text is_spelt f line tail behind l (ap take h ∙ stops take short list) in
          let one : many take (flat_map text b.0 ++ last_text b.1) ≡ (b.0, last_text b.1) =
          all_read b.0 (last_text b.1) t.0 (ap take (sym (append-nil (last_text b.1))) ∙ apart b.1 []) in
          let other = all_read xs (line ++ tail) m.0 none_here in
          let same : last_text b.1 ≡ line ++ tail = ap (λ (q : List X × List ℕ). q.1) (sym one ∙ ap (many take) k ∙ other) in
          let first = (line_same (last_text b.1) line [] tail (g.line b.1 t.1) l (append-nil (last_text b.1) ∙ same)).0 in
          none_some (last left) (b.1, behind) e (ap last (sym h ∙ ap (λ (q : List ℕ). q ++ behind) (sym first)) ∙ g.complete b.1 behind t.1 tt);
    }
  where
    all_read : (ys : List X) (end : List ℕ) → Spelt is_spelt ys → take end ≡ None → many take (flat_map text ys ++ end) ≡ (ys, end)
    all_read ys end t e = many_complete take text is_spelt (λ r. Unit {0}) short f.complete (λ x r q. tt) ys end t tt e

-- ---- first bytes

abbrev pub first : List ℕ → ℕ
first [] = 0
first (b ∷ bs) = b

-- a line isn't empty
pub first_kept : (before line tail behind : List ℕ) → IsLine line → first (before ++ (line ++ tail)) ≡ first (before ++ (line ++ behind))
first_kept (b ∷ bs) line tail behind l = refl
first_kept [] line tail behind l = ap (λ (q : List ℕ). first (q ++ tail)) l.line_is ∙ by l.content ∙ ap (λ (q : List ℕ). first (q ++ behind)) (sym l.line_is)
  where
    by : (content : List ℕ) → first ((content ++ 10 ∷ []) ++ tail) ≡ first ((content ++ 10 ∷ []) ++ behind)
    by [] = refl
    by (b ∷ bs) = refl
