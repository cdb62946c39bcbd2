-- What stands under a line about a query: where it is refused.
use Rattle.std.proofs.Common.{◌≡◌, ℕ, zero, suc, ◌+◌, ◌^◌, ◌<◌, Bool, true, false, cond, List, [], ◌∷◌, ◌++◌, length, Option, Some, None, refl, sym, ap, subst, ◌∙◌, arith, append-nil}
use Rattle.std.specs.Prelude.{◌==◌, not, codes, Result, Ok, Err}
use Rattle.std.specs.List.{flat_map}
use Rattle.std.proofs.lemmas.Bool.{eqb-true}
use Rattle.js_units.proofs.Reading.{Spelt, same_read}
use Rattle.path_core.specs.declared.query.Query.{Query}
use Rattle.proof_text.specs.Answers.{spelling, HasSpelling}
use Rattle.proof_text.specs.BlockReading.{block_at}
use Rattle.proof_text.specs.Counted.{in_front, one_then, line_at, ◌>>=◌}
use Rattle.proof_text.proofs.Whole.{IsLine, line_same}
use Rattle.proof_text.proofs.Refusing.{Refused, none_some, line_refused, first_part}
use Rattle.proof_text.proofs.BlockLines.{block_complete, block_refused}
use Rattle.report_text.specs.Lines.{term_text, tried_text, candidates_text, costs_text, beyond_text}
use Rattle.report_text.specs.Terms.{IsTerm, AreTerms, term_at}
use Rattle.report_text.specs.Reports.{IsInput}
use Rattle.report_text.specs.Details.{input_line, input_line_at, number_line, number_line_at}
use Rattle.report_text.specs.Bodies.{some_block, optional_at, tried_lines_at, terms_at, shut_at, body_at}
use Rattle.report_text.specs.declared.heads.Stage.TheVariants as stages
use Rattle.report_text.specs.declared.heads.Asked.{Asked}
use Rattle.report_text.specs.declared.heads.Asked.TheVariants as asked
use Rattle.report_text.specs.declared.report.Line.{Line}
use Rattle.report_text.specs.declared.report.Line.TheVariants as lines
use Rattle.report_text.specs.declared.report.Report.{Report}
use Rattle.report_text.proofs.ReadQueries.{spelt_each, each_spelt}
use Rattle.report_text.proofs.ReadDetails.{IsLong, tried_format, untried_format, beyond_format, tried_shortens, cost_format, count_format}
use Rattle.report_text.proofs.ReadTerms.{term_format, some_term}
use Rattle.report_text.proofs.ReadBodies.{Block, Input, Body, body_text, IsBody, line_of, Follows, blockless, costs_parts, tried_parts, tried_apart, body_complete}
use Rattle.report_text.proofs.ReadEntries.{rest_text, IsRest, rest_blockless}
use Rattle.report_text.proofs.Chains.{whole_line, next_refused, then_refused, first, first_kept}

-- a format said in other words
pub renamed : {X : Type 0} (text other : X → List ℕ) (P Q : X → Type 0) → ((x : X) → text x ≡ other x) → ((x : X) → P x → Q x) → ((x : X) → Q x → P x) → (list rest : List ℕ) → Refused text P list rest → Refused other Q list rest
renamed text other P Q same there back list rest r = record {
  lines = r.lines;
  before = r.before;
  more = r.more;
  like = r.like;
  list_is = r.list_is;
  whole = r.whole;
  like_spelt = there r.like r.like_spelt;
  like_is = r.like_is ∙ same r.like;
  none = λ x line tail behind l h s k. r.none x line tail behind l h (back x s) (same x ∙ k);
}

-- ---- terms

some_terms : (number count : ℕ) → number + count < 2 ^ 64 → (terms : List (List ℕ)) × (length terms ≡ count) × AreTerms number terms
some_terms number zero h = ([], refl, tt)
some_terms number (suc count) h =
    let t = some_term number (omega (arith, h)) in
    let more = some_terms (suc number) count (omega (arith, h)) in
    (t.0 ∷ more.0, omega (arith, more.1), (t.1, more.2))

-- so many terms from this number on
abbrev AreCounted : ℕ → ℕ → List (List ℕ) → Type 0
AreCounted number count terms = (length terms ≡ count) × AreTerms number terms

abbrev head_or : List (List ℕ) → List ℕ
head_or [] = []
head_or (t ∷ ts) = t

abbrev tail_or : List (List ℕ) → List (List ℕ)
tail_or [] = []
tail_or (t ∷ ts) = ts

term_first : (number count : ℕ) → number + suc count < 2 ^ 64 → (list : List ℕ) → term_at number list ≡ None → Refused (flat_map term_text) (AreCounted number (suc count)) list list
term_first number count low list e =
    let some = some_term number (omega (arith, low)) in
    let f = term_format number in
    first_part (flat_map term_text) (AreCounted number (suc count)) term_text (IsTerm number) head_or (λ ts. flat_map term_text (tail_or ts))
    parts
    (λ t s. let more = some_terms (suc number) count (omega (arith, low)) in (t ∷ more.0, (omega (arith, more.1), (s, more.2)), refl))
    list list
    (λ t behind s k. none_some (term_at number list) (t, behind) e (ap (term_at number) (sym k) ∙ f.complete t behind s tt))
    (line_refused (term_at number) term_text (IsTerm number) f some.0 some.1 list e)
  where
    parts : (ts : List (List ℕ)) → AreCounted number (suc count) ts → (flat_map term_text ts ≡ term_text (head_or ts) ++ flat_map term_text (tail_or ts)) × IsTerm number (head_or ts)
    parts [] s = absurd (omega (arith, s.0))
    parts (t ∷ ts) s = (refl, s.1.0)

term_next : (number count : ℕ) (t list rest : List ℕ) → IsTerm number t → Refused (flat_map term_text) (AreCounted (suc number) count) list rest → Refused (flat_map term_text) (AreCounted number (suc count)) (term_text t ++ list) rest
term_next number count t list rest s r =
    next_refused (flat_map term_text) (AreCounted number (suc count)) (flat_map term_text) (AreCounted (suc number) count) (term_text t) (whole_line (term_text t) ((term_format number).line t s))
    (λ ts k. (t ∷ ts, (omega (arith, k.0), (s, k.1)), refl))
    cut
    list rest r
  where
    cut : (ts : List (List ℕ)) (list : List ℕ) → AreCounted number (suc count) ts → flat_map term_text ts ≡ term_text t ++ list → (us : List (List ℕ)) × AreCounted (suc number) count us × (flat_map term_text us ≡ list)
    cut [] list k e = absurd (omega (arith, k.0))
    cut (u ∷ us) list k e =
        let same = line_same (term_text u) (term_text t) (flat_map term_text us) list ((term_format number).line u k.1.0) ((term_format number).line t s) e in
        (us, (omega (arith, k.0), k.1.1), same.1)

abbrev Terms : Type 0
Terms = Result (List (List ℕ) × List ℕ) (List ℕ)

err_terms : (a b : List ℕ) → ◌≡◌ {A = Terms} (Err a) (Err b) → a ≡ b
err_terms a b e = cc

in_front_err : (x : List ℕ) (r : Terms) (at : List ℕ) → in_front x r ≡ Err at → r ≡ Err at
in_front_err x (Ok r) at e = absurd cc
in_front_err x (Err here) at e = cc

terms_by : (number count : ℕ) → number + suc count < 2 ^ 64 → (list rest : List ℕ) (o : Option (List ℕ × List ℕ)) → term_at number list ≡ o → one_then o list (terms_at (suc number) count) ≡ Err rest
    → ((left : List ℕ) → terms_at (suc number) count left ≡ Err rest → Refused (flat_map term_text) (AreCounted (suc number) count) left rest)
    → Refused (flat_map term_text) (AreCounted number (suc count)) list rest
terms_by number count low list rest None e h go = subst (λ (q : List ℕ). Refused (flat_map term_text) (AreCounted number (suc count)) list q) (err_terms list rest h) (term_first number count low list e)
terms_by number count low list rest (Some r) e h go =
    let k = (term_format number).sound list r.0 r.1 e in
    subst (λ (q : List ℕ). Refused (flat_map term_text) (AreCounted number (suc count)) q rest) k.1
    (term_next number count r.0 r.1 rest k.0 (go r.1 (in_front_err r.0 (terms_at (suc number) count r.1) rest h)))

terms_refused : (number count : ℕ) → number + count < 2 ^ 64 → (list rest : List ℕ) → terms_at number count list ≡ Err rest → Refused (flat_map term_text) (AreCounted number count) list rest
terms_refused number zero low list rest e = absurd cc
terms_refused number (suc count) low list rest e = terms_by number count low list rest (term_at number list) refl e (λ left h. terms_refused (suc number) count (omega (arith, low)) left rest h)

-- ---- a cost and terms

abbrev counted_text : List (List ℕ) → List ℕ
counted_text terms = number_line (codes "terms ") (length terms) ++ flat_map term_text terms

abbrev AreShort : List (List ℕ) → Type 0
AreShort terms = IsLong (length terms) × AreTerms 0 terms

costs_whole : (x : Body asked.Wide) → costs_text x.0 x.1 ≡ number_line (codes "cost ") x.0 ++ counted_text x.1
costs_whole x =
    sym (append-nil (costs_text x.0 x.1)) ∙ costs_parts x.0 x.1 []
    ∙ ap (λ (q : List ℕ). number_line (codes "cost ") x.0 ++ (number_line (codes "terms ") (length x.1) ++ q)) (append-nil (flat_map term_text x.1))

no_cost : (list : List ℕ) → number_line_at (codes "cost ") list ≡ None → Refused (body_text asked.Wide) (IsBody asked.Wide) list list
no_cost list e =
    first_part (body_text asked.Wide) (IsBody asked.Wide) (number_line (codes "cost ")) IsLong (λ x. x.0) (λ x. counted_text x.1)
    (λ x s. (costs_whole x, s.cost_short))
    (λ n s. ((n, []), record { cost_short = s; count_short = omega arith; terms_spelt = tt }, refl))
    list list
    (λ n behind s k. none_some (number_line_at (codes "cost ") list) (n, behind) e (ap (number_line_at (codes "cost ")) (sym k) ∙ cost_format.complete n behind s tt))
    (line_refused (number_line_at (codes "cost ")) (number_line (codes "cost ")) IsLong cost_format 0 (omega arith) list e)

behind_cost : (cost : ℕ) → IsLong cost → (list rest : List ℕ) → Refused counted_text AreShort list rest → Refused (body_text asked.Wide) (IsBody asked.Wide) (number_line (codes "cost ") cost ++ list) rest
behind_cost cost c list rest r =
    next_refused (body_text asked.Wide) (IsBody asked.Wide) counted_text AreShort (number_line (codes "cost ") cost) (whole_line (number_line (codes "cost ") cost) (cost_format.line cost c))
    (λ ts s. ((cost, ts), record { cost_short = c; count_short = s.0; terms_spelt = s.1 }, costs_whole (cost, ts)))
    (λ x left s k.
    let same = line_same (number_line (codes "cost ") x.0) (number_line (codes "cost ") cost) (counted_text x.1) left (cost_format.line x.0 s.cost_short) (cost_format.line cost c) (sym (costs_whole x) ∙ k) in
    (x.1, (s.count_short, s.terms_spelt), same.1))
    list rest r

no_count : (list : List ℕ) → number_line_at (codes "terms ") list ≡ None → Refused counted_text AreShort list list
no_count list e =
    first_part counted_text AreShort (number_line (codes "terms ")) IsLong (λ ts. length ts) (λ ts. flat_map term_text ts)
    (λ ts s. (refl, s.0))
    (λ n s. let t = some_terms 0 n (omega (arith, s)) in (t.0, (subst IsLong (sym t.1) s, t.2), t.1))
    list list
    (λ n behind s k. none_some (number_line_at (codes "terms ") list) (n, behind) e (ap (number_line_at (codes "terms ")) (sym k) ∙ count_format.complete n behind s tt))
    (line_refused (number_line_at (codes "terms ")) (number_line (codes "terms ")) IsLong count_format 0 (omega arith) list e)

count_same : (a b : ℕ) (x y : List ℕ) → IsLong a → IsLong b → number_line (codes "terms ") a ++ x ≡ number_line (codes "terms ") b ++ y → (a ≡ b) × (x ≡ y)
count_same a b x y s t e = same_read a b x y (sym (count_format.complete a x s tt) ∙ ap (number_line_at (codes "terms ")) e ∙ count_format.complete b y t tt)

behind_count : (count : ℕ) → IsLong count → (list rest : List ℕ) → Refused (flat_map term_text) (AreCounted 0 count) list rest → Refused counted_text AreShort (number_line (codes "terms ") count ++ list) rest
behind_count count c list rest r =
    next_refused counted_text AreShort (flat_map term_text) (AreCounted 0 count) (number_line (codes "terms ") count) (whole_line (number_line (codes "terms ") count) (count_format.line count c))
    (λ ts s. (ts, (subst IsLong (sym s.0) c, s.1), ap (λ (q : ℕ). number_line (codes "terms ") q ++ flat_map term_text ts) s.0))
    (λ ts left s k. let same = count_same (length ts) count (flat_map term_text ts) left s.0 c k in (ts, (same.0, s.1), same.1))
    list rest r

-- ---- each kind

abbrev Told : Type 0
Told = Result (Line × List ℕ) (List ℕ)

err_same : (a b : List ℕ) → ◌≡◌ {A = Told} (Err a) (Err b) → a ≡ b
err_same a b e = cc

unvisited_refused : (query : Query) (list rest : List ℕ) (o : Option (Input × List ℕ)) → input_line_at (codes "beyond") list ≡ o → ◌≡◌ {A = Told} (line_at o list >>= λ input. Ok (lines.Unvisited query input.0, input.1)) (Err rest) → Refused (body_text asked.Unvisited) (IsBody asked.Unvisited) list rest
unfolding beyond_text
unvisited_refused query list rest (Some r) e h = absurd cc
unvisited_refused query list rest None e h =
    subst (λ (q : List ℕ). Refused (body_text asked.Unvisited) (IsBody asked.Unvisited) list q) (err_same list rest h)
    (line_refused (input_line_at (codes "beyond")) (input_line (codes "beyond")) IsInput beyond_format [] tt list e)

stepped_refused : (query : Query) (list rest : List ℕ) (o : Result (Block × List ℕ) (List ℕ)) → block_at list ≡ o → ◌≡◌ {A = Told} (o >>= λ block. Ok (lines.Stepped query block.0.0 block.0.1, block.1)) (Err rest) → Refused (body_text asked.Stepped) (IsBody asked.Stepped) list rest
stepped_refused query list rest (Ok r) e h = absurd cc
stepped_refused query list rest (Err at) e h = block_refused list rest (e ∙ ap (λ (q : List ℕ). Err q) (err_same at rest h))

untried_none : (list : List ℕ) → input_line_at (codes "untried") (tried_lines_at list).1 ≡ None → Refused (body_text asked.Tried) (IsBody asked.Tried) list (tried_lines_at list).1
untried_none list e =
    renamed (λ (b : List Input × Input). flat_map (input_line (codes "tried")) b.0 ++ input_line (codes "untried") b.1) (body_text asked.Tried)
    (λ (b : List Input × Input). Spelt IsInput b.0 × IsInput b.1) (IsBody asked.Tried)
    (λ x. sym (sym (append-nil (candidates_text x.0 x.1)) ∙ tried_parts x [] ∙ ap (λ (q : List ℕ). flat_map tried_text x.0 ++ q) (append-nil (input_line (codes "untried") x.1))))
    (λ x s. (each_spelt IsInput x.0 s.0, s.1)) (λ x s. (spelt_each IsInput x.0 s.0, s.1))
    list (tried_lines_at list).1
    (then_refused (input_line_at (codes "tried")) (input_line (codes "tried")) IsInput tried_format tried_shortens
    (input_line_at (codes "untried")) (input_line (codes "untried")) IsInput untried_format tried_apart [] tt list e)

tried_refused : (query : Query) (list rest : List ℕ) (o : Option (Input × List ℕ)) → input_line_at (codes "untried") (tried_lines_at list).1 ≡ o
    → ◌≡◌ {A = Told} (line_at o (tried_lines_at list).1 >>= λ untried. Ok (lines.Tried query (tried_lines_at list).0 untried.0, untried.1)) (Err rest)
    → Refused (body_text asked.Tried) (IsBody asked.Tried) list rest
tried_refused query list rest (Some r) e h = absurd cc
tried_refused query list rest None e h = subst (λ (q : List ℕ). Refused (body_text asked.Tried) (IsBody asked.Tried) list q) (err_same (tried_lines_at list).1 rest h) (untried_none list e)

wide_terms : (query : Query) (cost count : ℕ) → IsLong count → (list rest : List ℕ) (o : Terms) → terms_at 0 count list ≡ o → ◌≡◌ {A = Told} (o >>= λ terms. Ok (lines.Wide query cost terms.0, terms.1)) (Err rest) → Refused (flat_map term_text) (AreCounted 0 count) list rest
wide_terms query cost count low list rest (Ok r) e h = absurd cc
wide_terms query cost count low list rest (Err at) e h = terms_refused 0 count (omega (arith, low)) list rest (e ∙ ap (λ (q : List ℕ). Err q) (err_same at rest h))

wide_count : (query : Query) (cost : ℕ) (list rest : List ℕ) (o : Option (ℕ × List ℕ)) → number_line_at (codes "terms ") list ≡ o
    → ◌≡◌ {A = Told} (line_at o list >>= λ count. terms_at 0 count.0 count.1 >>= λ terms. Ok (lines.Wide query cost terms.0, terms.1)) (Err rest)
    → Refused counted_text AreShort list rest
wide_count query cost list rest None e h = subst (λ (q : List ℕ). Refused counted_text AreShort list q) (err_same list rest h) (no_count list e)
wide_count query cost list rest (Some r) e h =
    let k = count_format.sound list r.0 r.1 e in
    subst (λ (q : List ℕ). Refused counted_text AreShort q rest) k.1 (behind_count r.0 k.0 r.1 rest (wide_terms query cost r.0 k.0 r.1 rest (terms_at 0 r.0 r.1) refl h))

wide_refused : (query : Query) (list rest : List ℕ) (o : Option (ℕ × List ℕ)) → number_line_at (codes "cost ") list ≡ o
    → ◌≡◌ {A = Told} (line_at o list >>= λ cost. line_at (number_line_at (codes "terms ") cost.1) cost.1 >>= λ count. terms_at 0 count.0 count.1 >>= λ terms. Ok (lines.Wide query cost.0 terms.0, terms.1)) (Err rest)
    → Refused (body_text asked.Wide) (IsBody asked.Wide) list rest
wide_refused query list rest None e h = subst (λ (q : List ℕ). Refused (body_text asked.Wide) (IsBody asked.Wide) list q) (err_same list rest h) (no_cost list e)
wide_refused query list rest (Some r) e h =
    let k = cost_format.sound list r.0 r.1 e in
    subst (λ (q : List ℕ). Refused (body_text asked.Wide) (IsBody asked.Wide) q rest) k.1
    (behind_cost r.0 k.0 r.1 rest (wide_count query r.0 r.1 rest (number_line_at (codes "terms ") r.1) refl h))

-- ---- with what stands behind it

abbrev pub Under : Asked → Type 0
Under a = Body a × Report

abbrev pub under_text : (a : Asked) → Under a → List ℕ
under_text a w = body_text a w.0 ++ rest_text w.1

abbrev pub IsWith : (a : Asked) → Under a → Type 0
IsWith a w = IsBody a w.0 × IsRest stages.Others w.1

abbrev pub no_more : Report
no_more = record { lines = []; complete = true }

lifted : (a : Asked) (list rest : List ℕ) → ((x : Body a) (behind : List ℕ) → IsBody a x → body_text a x ++ behind ≡ list → ⊥) → Refused (body_text a) (IsBody a) list rest → Refused (under_text a) (IsWith a) list rest
lifted a list rest never r =
    first_part (under_text a) (IsWith a) (body_text a) (IsBody a) (λ w. w.0) (λ w. rest_text w.1) (λ w s. (refl, s.0)) (λ x s. ((x, no_more), (s, refl), refl)) list rest never r

ok_err : (r : Line × List ℕ) (at : List ℕ) → ◌≡◌ {A = Told} (Ok r) (Err at) → ⊥
ok_err r at e = cc

never_by : (a : Asked) (query : Query) (list rest : List ℕ) → body_at a query list ≡ Err rest → (x : Body a) (behind : List ℕ) → IsBody a x → Follows a x behind → body_text a x ++ behind ≡ list → ⊥
never_by a query list rest e x behind s f k = ok_err (line_of a query x, behind) rest (sym (body_complete a query x behind s f) ∙ ap (body_at a query) k ∙ e)

-- a block that must be one
some_blocks : (list rest : List ℕ) → block_at list ≡ Err rest → Refused (λ (w : Block × Report). spelling w.0 ++ rest_text w.1) (λ (w : Block × Report). HasSpelling w.0 × IsRest stages.Others w.1) list rest
some_blocks list rest e =
    first_part (λ (w : Block × Report). spelling w.0 ++ rest_text w.1) (λ (w : Block × Report). HasSpelling w.0 × IsRest stages.Others w.1) spelling HasSpelling (λ w. w.0) (λ w. rest_text w.1)
    (λ w s. (refl, s.0)) (λ x s. ((x, no_more), (s, refl), refl)) list rest
    (λ b behind s k. ok_err_block (b, behind) (sym (block_complete b behind s) ∙ ap block_at k ∙ e))
    (block_refused list rest e)
  where
    ok_err_block : (r : Block × List ℕ) → ◌≡◌ {A = Result (Block × List ℕ) (List ℕ)} (Ok r) (Err rest) → ⊥
    ok_err_block r e = cc

not_blockless : (list other : List ℕ) → first list ≡ 98 → first other ≡ first list → blockless other ≡ true → ⊥
not_blockless list [] e f h = let k : ◌≡◌ {A = ℕ} 0 98 = f ∙ e in cc
not_blockless list (b ∷ bs) e f h = let k : false ≡ true = ap (λ (q : ℕ). not (q == 98)) (sym (f ∙ e)) ∙ h in cc

block_or_none : (list rest : List ℕ) → first list ≡ 98 → block_at list ≡ Err rest → Refused (under_text asked.Shut) (IsWith asked.Shut) list rest
block_or_none list rest e h =
    let r = some_blocks list rest h in record {
      lines = r.lines;
      before = r.before;
      more = r.more;
      like = (Some r.like.0, r.like.1);
      list_is = r.list_is;
      whole = r.whole;
      like_spelt = r.like_spelt;
      like_is = r.like_is;
      none = λ w line tail behind l m s k. by r w line tail behind l m s k;
    }
  where
    by : (r : Refused (λ (w : Block × Report). spelling w.0 ++ rest_text w.1) (λ (w : Block × Report). HasSpelling w.0 × IsRest stages.Others w.1) list rest)
        → (w : Under asked.Shut) (line tail behind : List ℕ) → IsLine line → line ++ behind ≡ rest → IsWith asked.Shut w → under_text asked.Shut w ≡ r.before ++ (line ++ tail) → ⊥
    by r (Some b, m) line tail behind l h s k = r.none (b, m) line tail behind l h s k
    by r (None, m) line tail behind l h s k =
        not_blockless list (r.before ++ (line ++ tail)) e
        (first_kept r.before line tail behind l ∙ ap (λ (q : List ℕ). first (r.before ++ q)) h ∙ ap first r.list_is)
        (ap blockless (sym k ∙ sym (append-nil (rest_text m))) ∙ rest_blockless m.lines m.complete [])

shut_by : (query : Query) (b : ℕ) (bs rest : List ℕ) (x : Bool) → (b == 98) ≡ x → ◌≡◌ {A = Told} (cond x (some_block (block_at (b ∷ bs))) (Ok (None, b ∷ bs)) >>= λ block. Ok (lines.Shut query block.0, block.1)) (Err rest) → Refused (under_text asked.Shut) (IsWith asked.Shut) (b ∷ bs) rest
shut_by query b bs rest false e h = absurd cc
shut_by query b bs rest true e h = by (block_at (b ∷ bs)) refl h
  where
    by : (o : Result (Block × List ℕ) (List ℕ)) → block_at (b ∷ bs) ≡ o → ◌≡◌ {A = Told} (some_block o >>= λ block. Ok (lines.Shut query block.0, block.1)) (Err rest) → Refused (under_text asked.Shut) (IsWith asked.Shut) (b ∷ bs) rest
    by (Ok r) f g = absurd cc
    by (Err at) f g = block_or_none (b ∷ bs) rest (eqb-true b 98 e) (f ∙ ap (λ (q : List ℕ). Err q) (err_same at rest g))

shut_refused : (query : Query) (list rest : List ℕ) → shut_at query list ≡ Err rest → Refused (under_text asked.Shut) (IsWith asked.Shut) list rest
unfolding optional_at
shut_refused query [] rest h = absurd cc
shut_refused query (b ∷ bs) rest h = shut_by query b bs rest (b == 98) refl h

pub body_refused : (a : Asked) (query : Query) (list rest : List ℕ) → body_at a query list ≡ Err rest → Refused (under_text a) (IsWith a) list rest
body_refused asked.Shut query list rest e = shut_refused query list rest e
body_refused asked.Tried query list rest e = lifted asked.Tried list rest (λ x behind s k. never_by asked.Tried query list rest e x behind s tt k) (tried_refused query list rest (input_line_at (codes "untried") (tried_lines_at list).1) refl e)
body_refused asked.Stepped query list rest e = lifted asked.Stepped list rest (λ x behind s k. never_by asked.Stepped query list rest e x behind s tt k) (stepped_refused query list rest (block_at list) refl e)
body_refused asked.Wide query list rest e = lifted asked.Wide list rest (λ x behind s k. never_by asked.Wide query list rest e x behind s tt k) (wide_refused query list rest (number_line_at (codes "cost ") list) refl e)
body_refused asked.Unvisited query list rest e = lifted asked.Unvisited list rest (λ x behind s k. never_by asked.Unvisited query list rest e x behind s tt k) (unvisited_refused query list rest (input_line_at (codes "beyond") list) refl e)
