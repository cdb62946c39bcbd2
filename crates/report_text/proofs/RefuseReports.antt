-- Where a report is refused, and what reading answers.
use Rattle.std.proofs.Common.{◌≡◌, ℕ, ◌+◌, ◌-◌, ◌≤◌, true, List, [], ◌∷◌, ◌++◌, length, take, Option, Some, None, refl, sym, ap, subst, ◌∙◌, arith, append_assoc, append-nil, length-append}
use Rattle.std.specs.Prelude.{◌==◌, codes, Result, Ok, Err}
use Rattle.std.specs.List.{flat_map}
use Rattle.std.proofs.lemmas.List.{take_at}
use Rattle.proof_text.specs.Answers.{line_ends}
use Rattle.proof_text.specs.Lines.{after}
use Rattle.proof_text.specs.Refusals.{first_lines, HasLines}
use Rattle.proof_text.specs.Counted.{◌>>=◌}
use Rattle.proof_text.proofs.Parts.{after_sound, after_complete}
use Rattle.proof_text.proofs.Whole.{IsLine, Whole, line_same, skip, whole_ends}
use Rattle.proof_text.proofs.Refusing.{Refused, no_more, none_some, ok_same}
use Rattle.report_text.specs.Lines.{line_text, last_text, report_text}
use Rattle.report_text.specs.Reports.{IsReport}
use Rattle.report_text.specs.Entries.{lines_at, begun, alone, report_at}
use Rattle.report_text.specs.Answers.{IsRead, IsRefused}
use Rattle.report_text.specs.declared.heads.Stage.TheVariants as stages
use Rattle.report_text.specs.declared.heads.Head.TheVariants as heads
use Rattle.report_text.specs.declared.report.Report.{Report}
use Rattle.report_text.proofs.ReadEntries.{Whole as Reads, rest_text, IsRest, lines_complete, lines_sound}
use Rattle.report_text.proofs.Chains.{went, IsWhole, whole_both, whole_all, whole_line, next_refused}
use Rattle.report_text.proofs.WholeLines.{head_whole, line_whole}
use Rattle.report_text.proofs.RefuseLines.{report_of, no_path, no_path_read, lines_refused}

-- ---- the whole report

abbrev start : List ℕ
start = codes "expose 1\n"

start_line : IsLine start
start_line = record { content = codes "expose 1"; inner = refl; line_is = refl }

report_parts : (r : Report) → report_text r ≡ start ++ rest_text r
unfolding report_text
report_parts r = append_assoc start (flat_map line_text r.lines) (last_text r.complete)

start_same : (r : Report) (list : List ℕ) → report_text r ≡ start ++ list → rest_text r ≡ list
start_same r list k = (line_same start start (rest_text r) list start_line start_line (sym (report_parts r) ∙ k)).1

pub report_complete : (r : Report) → IsReport r → report_at (report_text r) ≡ Ok r
unfolding report_at
report_complete r s =
    ap report_at (report_parts r)
    ∙ ap (λ (o : Reads). o >>= λ found. alone found.0 found.1) (ap (lines_at stages.First) (sym (append-nil (rest_text r))) ∙ lines_complete stages.First r [] s)

begun_some : (o : Option (List ℕ)) (list first : List ℕ) → begun o list ≡ Ok first → o ≡ Some first
begun_some None list first e = absurd cc
begun_some (Some q) list first e = cc

alone_ok : (r q : Report) (rest : List ℕ) → alone r rest ≡ Ok q → (r ≡ q) × (rest ≡ [])
alone_ok r q [] e = (ok_same Report r q e, refl)
alone_ok r q (b ∷ bs) e = absurd cc

pub report_sound : (list : List ℕ) (r : Report) → report_at list ≡ Ok r → IsReport r × (report_text r ≡ list)
unfolding report_at
report_sound list r e =
    let a = went (begun (after start list) list) _ r e in
    let f = went (lines_at stages.First a.first) _ r a.then_is in
    let k = lines_sound stages.First a.first f.first f.first_is in
    let same = alone_ok f.first.0 r f.first.1 f.then_is in (
      subst IsReport same.0 k.0,
      ap report_text (sym same.0) ∙ report_parts f.first.0
          ∙ ap (λ (q : List ℕ). start ++ q) (sym (append-nil (rest_text f.first.0)) ∙ ap (λ (q : List ℕ). rest_text f.first.0 ++ q) (sym same.1) ∙ k.1)
          ∙ after_sound start list a.first (begun_some (after start list) list a.first a.first_is),
    )

abbrev some_report : Report
some_report = report_of (no_path ∷ []) true

some_read : IsReport some_report
some_read = (refl, (no_path_read, refl))

-- it begins in another way
no_start : (list : List ℕ) → after start list ≡ None → Refused report_text IsReport list list
no_start list e = record {
  lines = 0;
  before = [];
  more = report_text some_report;
  like = some_report;
  list_is = refl;
  whole = refl;
  like_spelt = some_read;
  like_is = refl;
  none = λ r line tail behind l h s k.
      let same = (line_same start line (rest_text r) tail start_line l (sym (report_parts r) ∙ k)).0 in
      none_some (after start list) behind e (ap (after start) (sym h ∙ ap (λ (q : List ℕ). q ++ behind) (sym same)) ∙ after_complete start behind);
}

wrong_lines : (list rest : List ℕ) → Refused rest_text (IsRest stages.First) list rest → Refused report_text IsReport (start ++ list) rest
wrong_lines list rest r =
    next_refused report_text IsReport rest_text (IsRest stages.First) start (whole_line start start_line)
    (λ q s. (q, s, report_parts q))
    (λ q left s k. (q, s, start_same q left k))
    list rest r

not_empty : (line tail : List ℕ) → IsLine line → [] ≡ line ++ tail → ⊥
not_empty line tail l e = by l.content (e ∙ ap (λ (q : List ℕ). q ++ tail) l.line_is)
  where
    by : (content : List ℕ) → [] ≡ (content ++ 10 ∷ []) ++ tail → ⊥
    by [] k = cc
    by (b ∷ bs) k = cc

-- something stands behind it
wrong_behind_all : (r : Report) (rest : List ℕ) → IsReport r → Refused report_text IsReport (report_text r ++ rest) rest
wrong_behind_all r rest s =
    let whole = subst IsWhole (sym (report_parts r)) (whole_both start (rest_text r) (whole_line start start_line) (whole_both (flat_map line_text r.lines) (last_text r.complete) (whole_all line_text line_whole r.lines) (head_whole (heads.Last r.complete)))) in record {
      lines = whole.0;
      before = report_text r;
      more = [];
      like = r;
      list_is = refl;
      whole = whole.1;
      like_spelt = s;
      like_is = append-nil (report_text r);
      none = λ q line tail behind l h t k.
          let same = start_same q (rest_text r ++ (line ++ tail)) (k ∙ ap (λ (z : List ℕ). z ++ (line ++ tail)) (report_parts r) ∙ append_assoc start (rest_text r) (line ++ tail)) in
          let one : Report × List ℕ = (q, []) in
          let other : Report × List ℕ = (r, line ++ tail) in
          let both : one ≡ other = ok_same (Report × List ℕ) one other (sym (lines_complete stages.First q [] t) ∙ ap (lines_at stages.First) (append-nil (rest_text q) ∙ same) ∙ lines_complete stages.First r (line ++ tail) s) in
          not_empty line tail l (ap (λ (z : Report × List ℕ). z.1) both);
    }

abbrev All : Type 0
All = Result Report (List ℕ)

err_all : (a b : List ℕ) → ◌≡◌ {A = All} (Err a) (Err b) → a ≡ b
err_all a b e = cc

alone_err : (r : Report) (rest at : List ℕ) → alone r rest ≡ Err at → rest ≡ at
alone_err r [] at e = absurd cc
alone_err r (b ∷ bs) at e = err_all (b ∷ bs) at e

all_by : (list rest : List ℕ) (o : Reads) → lines_at stages.First list ≡ o → ◌≡◌ {A = All} (o >>= λ found. alone found.0 found.1) (Err rest) → Refused report_text IsReport (start ++ list) rest
all_by list rest (Err at) e h = wrong_lines list rest (lines_refused stages.First list rest (e ∙ ap (λ (q : List ℕ). Err q) (err_all at rest h)))
all_by list rest (Ok r) e h =
    let k = lines_sound stages.First list r e in
    let same = alone_err r.0 r.1 rest h in
    subst (λ (q : List ℕ). Refused report_text IsReport q rest)
    (ap (λ (q : List ℕ). q ++ rest) (report_parts r.0) ∙ append_assoc start (rest_text r.0) rest ∙ ap (λ (q : List ℕ). start ++ q) (ap (λ (q : List ℕ). rest_text r.0 ++ q) (sym same) ∙ k.1))
    (wrong_behind_all r.0 rest k.0)

start_by : (list rest : List ℕ) (o : Option (List ℕ)) → after start list ≡ o → ◌≡◌ {A = All} (begun o list >>= λ first. lines_at stages.First first >>= λ found. alone found.0 found.1) (Err rest) → Refused report_text IsReport list rest
start_by list rest None e h = subst (λ (q : List ℕ). Refused report_text IsReport list q) (err_all list rest h) (no_start list e)
start_by list rest (Some first) e h = subst (λ (q : List ℕ). Refused report_text IsReport q rest) (after_sound start list first e) (all_by first rest (lines_at stages.First first) refl h)

pub report_refused : (list rest : List ℕ) → report_at list ≡ Err rest → Refused report_text IsReport list rest
unfolding report_at
report_refused list rest h = start_by list rest (after start list) refl h

-- ---- the line

first_whole : (n : ℕ) (a b c : List ℕ) → a ++ b ≡ c → Whole n a → first_lines n c ≡ Some a
first_whole n a b c h k = ap (first_lines n) (sym h) ∙ ap (λ (q : ℕ). first_lines q (a ++ b)) (add_nothing n) ∙ skip n 0 a b k ∙ ap (λ (q : List ℕ). Some q) (append-nil a)
  where
    add_nothing : (n : ℕ) → n ≡ n + 0
    add_nothing n = omega arith

ok_err : (r : Report) (at : List ℕ) → ◌≡◌ {A = All} (Ok r) (Err at) → ⊥
ok_err r at e = cc

pub shorter_rest : (list rest : List ℕ) → report_at list ≡ Err rest → length rest ≤ length list
shorter_rest list rest e = let r = report_refused list rest e in omega (arith, ap length r.list_is, length-append r.before rest)

pub answers_line : (list rest : List ℕ) → report_at list ≡ Err rest → (line : ℕ) → line ≡ line_ends (take (length list - length rest) list) + 1 → IsRefused list line
answers_line list rest e line h =
    let r = report_refused list rest e in
    let sizes : length list ≡ length r.before + length rest = ap length (sym r.list_is) ∙ length-append r.before rest in
    let n : length list - length rest ≡ length r.before = omega (arith, sizes) in
    let front : take (length list - length rest) list ≡ r.before = ap (λ (q : List ℕ). take (length list - length rest) q) (sym r.list_is) ∙ take_at r.before rest (length list - length rest) (sym n) in
    let is : line ≡ r.lines + 1 = h ∙ ap (λ (q : List ℕ). line_ends q + 1) front ∙ ap (λ (q : ℕ). q + 1) (whole_ends r.lines r.before r.whole) in record {
      none = λ x s k. ok_err x rest (sym (report_complete x s) ∙ ap report_at k ∙ e);
      before = r.lines;
      line_is = omega (arith, is);
      has = (r.before, r.like, first_whole r.lines r.before rest list r.list_is r.whole, r.like_spelt, first_whole r.lines r.before r.more (report_text r.like) r.like_is r.whole);
      wrong = λ k. no_more report_text IsReport list rest r (subst (λ (q : ℕ). HasLines report_text IsReport q list) is k);
    }

pub answers_report : (list : List ℕ) (r : Report) → report_at list ≡ Ok r → IsRead list r
answers_report list r e =
    let k = report_sound list r e in record {
      spelt = k.0;
      text = k.1;
      alone = λ x s h. ok_same Report x r (sym (report_complete x s) ∙ ap report_at h ∙ e);
    }
