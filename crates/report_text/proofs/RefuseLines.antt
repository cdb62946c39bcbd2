-- Where the lines of a report are refused.
use Rattle.std.proofs.Common.{◌≡◌, ℕ, zero, suc, ◌<◌, Bool, true, false, List, [], ◌∷◌, ◌++◌, length, Option, Some, None, refl, sym, ap, subst, ◌∙◌, arith, append_assoc, append-nil}
use Rattle.std.specs.Prelude.{Result, Ok, Err}
use Rattle.std.specs.List.{flat_map}
use Rattle.js_units.proofs.Reading.{same_read}
use Rattle.path_core.specs.declared.path.End.TheVariants as ends
use Rattle.path_core.specs.declared.query.Query.{Query}
use Rattle.proof_text.specs.Blocks.{IsSpelt}
use Rattle.proof_text.specs.Counted.{line_at, ◌>>=◌}
use Rattle.proof_text.proofs.Whole.{IsLine}
use Rattle.proof_text.proofs.Refusing.{Refused, none_some, ok_same, line_refused, first_part}
use Rattle.report_text.specs.Lines.{path_text, line_text, last_text}
use Rattle.report_text.specs.Queries.{IsQuery}
use Rattle.report_text.specs.Reports.{IsLineRead, is_path, may, behind_line, AreLines}
use Rattle.report_text.specs.Heads.{line_of_head, IsHead, head_at}
use Rattle.report_text.specs.Bodies.{body_at}
use Rattle.report_text.specs.Entries.{told_line, under_at, entry_at, add_lines, entered, lines_of, lines_at}
use Rattle.report_text.specs.declared.heads.Stage.{Stage}
use Rattle.report_text.specs.declared.heads.Stage.TheVariants as stages
use Rattle.report_text.specs.declared.heads.Asked.{Asked}
use Rattle.report_text.specs.declared.heads.Asked.TheVariants as asked
use Rattle.report_text.specs.declared.heads.Head.{Head}
use Rattle.report_text.specs.declared.heads.Head.TheVariants as heads
use Rattle.report_text.specs.declared.report.Line.{Line}
use Rattle.report_text.specs.declared.report.Line.TheVariants as lines
use Rattle.report_text.specs.declared.report.Report.{Report}
use Rattle.report_text.specs.declared.reading.Entry.{Entry}
use Rattle.report_text.specs.declared.reading.Entry.TheVariants as entries
use Rattle.report_text.proofs.ReadHeads.{head_sound, head_complete, head_format}
use Rattle.report_text.proofs.ReadBodies.{body_text, line_of, line_parts, line_read, blockless}
use Rattle.report_text.proofs.ReadEntries.{LineFollows, Read, entry_sound, entry_complete, entry_shortens, Whole as Reads, rest_text, IsRest, first_read}
use Rattle.report_text.proofs.RefuseBodies.{Under, under_text, IsWith, body_refused}
use Rattle.report_text.proofs.Chains.{behind_refused, next_refused}
use Rattle.report_text.proofs.WholeLines.{head_whole, line_whole}

-- ---- the first line of what is left

abbrev head_of : Line → Head
head_of (lines.Path input path) = heads.Path input path
head_of (lines.Shut query block) = heads.Asked asked.Shut query
head_of (lines.Tried query tried untried) = heads.Asked asked.Tried query
head_of (lines.Stepped query cnf derivation) = heads.Asked asked.Stepped query
head_of (lines.Wide query cost terms) = heads.Asked asked.Wide query
head_of (lines.Unvisited query input) = heads.Asked asked.Unvisited query

abbrev under_of : Line → List ℕ
under_of (lines.Path input path) = []
under_of (lines.Shut query block) = body_text asked.Shut block
under_of (lines.Tried query tried untried) = body_text asked.Tried (tried, untried)
under_of (lines.Stepped query cnf derivation) = body_text asked.Stepped (cnf, derivation)
under_of (lines.Wide query cost terms) = body_text asked.Wide (cost, terms)
under_of (lines.Unvisited query input) = body_text asked.Unvisited input

abbrev pub report_of : List Line → Bool → Report
report_of ls complete = record { lines = ls; complete = complete }

abbrev head_first : List Line → Bool → Head
head_first [] complete = heads.Last complete
head_first (l ∷ ls) complete = head_of l

abbrev behind_first : List Line → Bool → List ℕ
behind_first [] complete = []
behind_first (l ∷ ls) complete = under_of l ++ rest_text (report_of ls complete)

line_is : (l : Line) → line_text l ≡ line_of_head (head_of l) ++ under_of l
unfolding line_text
line_is (lines.Path input path) = sym (append-nil (path_text input path))
line_is (lines.Shut query block) = refl
line_is (lines.Tried query tried untried) = refl
line_is (lines.Stepped query cnf derivation) = refl
line_is (lines.Wide query cost terms) = refl
line_is (lines.Unvisited query input) = refl

head_is : (stage : Stage) (l : Line) → may stage (is_path l) ≡ true → IsLineRead l → IsHead stage (head_of l)
head_is stage (lines.Path input path) m s = (m, s)
head_is stage (lines.Shut query block) m s = (m, s.0)
head_is stage (lines.Tried query tried untried) m s = (m, s.0)
head_is stage (lines.Stepped query cnf derivation) m s = (m, s.0)
head_is stage (lines.Wide query cost terms) m s = (m, s.0)
head_is stage (lines.Unvisited query input) m s = (m, s.0)

-- a line, and what stands behind it
line_then : (l : Line) (ls : List Line) (complete : Bool) → rest_text (report_of (l ∷ ls) complete) ≡ line_text l ++ rest_text (report_of ls complete)
line_then l ls complete = append_assoc (line_text l) (flat_map line_text ls) (last_text complete)

first_parts : (stage : Stage) (ls : List Line) (complete : Bool) → AreLines stage ls → (rest_text (report_of ls complete) ≡ line_of_head (head_first ls complete) ++ behind_first ls complete) × IsHead stage (head_first ls complete)
first_parts stage [] complete s = (sym (append-nil (last_text complete)), s)
first_parts stage (l ∷ ls) complete s = (
  line_then l ls complete ∙ ap (λ (q : List ℕ). q ++ rest_text (report_of ls complete)) (line_is l) ∙ append_assoc (line_of_head (head_of l)) (under_of l) (rest_text (report_of ls complete)),
  head_is stage l s.0 s.1.0,
)

-- ---- some of each

abbrev pub no_path : Line
no_path = lines.Path [] (record { events = []; end = ends.Done })

pub no_path_read : IsLineRead no_path
no_path_read = record { input_spelt = tt; events = tt; end = tt }

no_block : IsSpelt (record { variables = 0; clauses = [] }) (record { steps = [] })
no_block = record {
  variables = omega arith;
  clauses = omega arith;
  steps = omega arith;
  clauses_within = λ k d l. absurd (omega (arith, l));
  steps_within = λ k d l. absurd (omega (arith, l));
  hints = λ k d l. absurd (omega (arith, l));
}

some_like : (stage : Stage) (h : Head) → IsHead stage h → (r : Report) × IsRest stage r × (head_first r.lines r.complete ≡ h)
some_like stage (heads.Path input path) s = (report_of (lines.Path input path ∷ []) true, (s.0, (s.1, refl)), refl)
some_like stage (heads.Asked asked.Shut query) s = (report_of (lines.Shut query None ∷ []) true, (s.0, ((s.1, tt), refl)), refl)
some_like stage (heads.Asked asked.Tried query) s = (report_of (lines.Tried query [] [] ∷ []) true, (s.0, ((s.1, (tt, tt)), refl)), refl)
some_like stage (heads.Asked asked.Stepped query) s = (report_of (lines.Stepped query (record { variables = 0; clauses = [] }) (record { steps = [] }) ∷ []) true, (s.0, ((s.1, no_block), refl)), refl)
some_like stage (heads.Asked asked.Wide query) s = (report_of (lines.Wide query 0 [] ∷ []) true, (s.0, ((s.1, record { cost_short = omega arith; count_short = omega arith; terms_spelt = tt }), refl)), refl)
some_like stage (heads.Asked asked.Unvisited query) s = (report_of (lines.Unvisited query [] ∷ []) true, (s.0, ((s.1, tt), refl)), refl)
some_like stage (heads.Last complete) s = (report_of [] complete, s, refl)

some_head : (stage : Stage) → (h : Head) × IsHead stage h
some_head stages.First = (head_of no_path, (refl, no_path_read))
some_head stages.Paths = (heads.Last true, refl)
some_head stages.Others = (heads.Last true, refl)

-- ---- no line of a report is there

no_head : (stage : Stage) (list : List ℕ) → head_at stage list ≡ None → Refused rest_text (IsRest stage) list list
no_head stage list e =
    let some = some_head stage in
    let f = head_format stage in
    first_part rest_text (IsRest stage) line_of_head (IsHead stage) (λ r. head_first r.lines r.complete) (λ r. behind_first r.lines r.complete)
    (λ r s. first_parts stage r.lines r.complete s) (some_like stage) list list
    (λ h behind s k. none_some (head_at stage list) (h, behind) e (ap (head_at stage) (sym k) ∙ f.complete h behind s tt))
    (line_refused (head_at stage) line_of_head (IsHead stage) f some.0 some.1 list e)

-- ---- what stands under one is wrong

rest_with : (stage : Stage) (a : Asked) (query : Query) (w : Under a) → may stage false ≡ true → IsQuery query → IsWith a w → IsRest stage (report_of (line_of a query w.0 ∷ w.1.lines) w.1.complete)
rest_with stage asked.Shut query w m s t = (m, (line_read asked.Shut query w.0 s t.0, t.1))
rest_with stage asked.Tried query w m s t = (m, (line_read asked.Tried query w.0 s t.0, t.1))
rest_with stage asked.Stepped query w m s t = (m, (line_read asked.Stepped query w.0 s t.0, t.1))
rest_with stage asked.Wide query w m s t = (m, (line_read asked.Wide query w.0 s t.0, t.1))
rest_with stage asked.Unvisited query w m s t = (m, (line_read asked.Unvisited query w.0 s t.0, t.1))

abbrev asked_of : Head → Asked
asked_of (heads.Path input path) = asked.Shut
asked_of (heads.Asked a query) = a
asked_of (heads.Last complete) = asked.Shut

abbrev Taken : List ℕ → Asked → Type 0
Taken list a = (w : Under a) × IsWith a w × (under_text a w ≡ list)

taken : (stage : Stage) (a : Asked) (query : Query) (ls : List Line) (complete : Bool) → AreLines stage ls → head_first ls complete ≡ heads.Asked a query → Taken (behind_first ls complete) a
taken stage a query [] complete s e = absurd cc
taken stage a query (lines.Path input path ∷ ls) complete s e = absurd cc
taken stage a query (lines.Shut q block ∷ ls) complete s e = subst (Taken (behind_first (lines.Shut q block ∷ ls) complete)) (ap asked_of e) ((block, report_of ls complete), (s.1.0.1, s.1.1), refl)
taken stage a query (lines.Tried q tried untried ∷ ls) complete s e = subst (Taken (behind_first (lines.Tried q tried untried ∷ ls) complete)) (ap asked_of e) (((tried, untried), report_of ls complete), (s.1.0.1, s.1.1), refl)
taken stage a query (lines.Stepped q cnf derivation ∷ ls) complete s e = subst (Taken (behind_first (lines.Stepped q cnf derivation ∷ ls) complete)) (ap asked_of e) (((cnf, derivation), report_of ls complete), (s.1.0.1, s.1.1), refl)
taken stage a query (lines.Wide q cost terms ∷ ls) complete s e = subst (Taken (behind_first (lines.Wide q cost terms ∷ ls) complete)) (ap asked_of e) (((cost, terms), report_of ls complete), (s.1.0.1, s.1.1), refl)
taken stage a query (lines.Unvisited q input ∷ ls) complete s e = subst (Taken (behind_first (lines.Unvisited q input ∷ ls) complete)) (ap asked_of e) ((input, report_of ls complete), (s.1.0.1, s.1.1), refl)

wrong_under : (stage : Stage) (a : Asked) (query : Query) → IsHead stage (heads.Asked a query) → (list rest : List ℕ) → Refused (under_text a) (IsWith a) list rest → Refused rest_text (IsRest stage) (line_of_head (heads.Asked a query) ++ list) rest
wrong_under stage a query h list rest r =
    let head = line_of_head (heads.Asked a query) in
    next_refused rest_text (IsRest stage) (under_text a) (IsWith a) head (head_whole (heads.Asked a query))
    (λ w s. (
      report_of (line_of a query w.0 ∷ w.1.lines) w.1.complete,
      rest_with stage a query w h.0 h.1 s,
      line_then (line_of a query w.0) w.1.lines w.1.complete ∙ ap (λ (q : List ℕ). q ++ rest_text w.1) (line_parts a query w.0) ∙ append_assoc head (body_text a w.0) (rest_text w.1),
    ))
    cut list rest r
  where
    cut : (r : Report) (left : List ℕ) → IsRest stage r → rest_text r ≡ line_of_head (heads.Asked a query) ++ left → (w : Under a) × IsWith a w × (under_text a w ≡ left)
    cut r left s k =
        let p = first_parts stage r.lines r.complete s in
        let one = head_complete stage (head_first r.lines r.complete) (behind_first r.lines r.complete) p.1 tt in
        let other = head_complete stage (heads.Asked a query) left h tt in
        let same = same_read (head_first r.lines r.complete) (heads.Asked a query) (behind_first r.lines r.complete) left (sym one ∙ ap (head_at stage) (sym p.0 ∙ k) ∙ other) in
        let t = taken stage a query r.lines r.complete s same.0 in
        (t.0, t.1, t.2 ∙ same.1)

err_entry : (a b : List ℕ) → ◌≡◌ {A = Read} (Err a) (Err b) → a ≡ b
err_entry a b e = cc

told_err : (o : Result (Line × List ℕ) (List ℕ)) (at : List ℕ) → told_line o ≡ Err at → o ≡ Err at
told_err (Ok r) at e = absurd cc
told_err (Err here) at e = ap (λ (q : List ℕ). Err q) (err_entry here at e)

under_refused : (stage : Stage) (h : Head) (list rest : List ℕ) → IsHead stage h → under_at h list ≡ Err rest → Refused rest_text (IsRest stage) (line_of_head h ++ list) rest
under_refused stage (heads.Path input path) list rest s e = absurd cc
under_refused stage (heads.Asked a query) list rest s e = wrong_under stage a query s list rest (body_refused a query list rest (told_err (body_at a query list) rest e))
under_refused stage (heads.Last complete) list rest s e = absurd cc

refused_by : (stage : Stage) (list rest : List ℕ) (o : Option (Head × List ℕ)) → head_at stage list ≡ o → ◌≡◌ {A = Read} (line_at o list >>= λ head. under_at head.0 head.1) (Err rest) → Refused rest_text (IsRest stage) list rest
refused_by stage list rest None e h = subst (λ (q : List ℕ). Refused rest_text (IsRest stage) list q) (err_entry list rest h) (no_head stage list e)
refused_by stage list rest (Some r) e h =
    let k = head_sound stage list r.0 r.1 e in
    subst (λ (q : List ℕ). Refused rest_text (IsRest stage) q rest) k.1 (under_refused stage r.0 r.1 rest k.0 h)

entry_refused : (stage : Stage) (list rest : List ℕ) → entry_at stage list ≡ Err rest → Refused rest_text (IsRest stage) list rest
unfolding entry_at
entry_refused stage list rest h = refused_by stage list rest (head_at stage list) refl h

-- ---- what stands behind one is wrong

blockless_kept : (before line tail behind : List ℕ) → IsLine line → blockless (before ++ (line ++ tail)) ≡ blockless (before ++ (line ++ behind))
blockless_kept (b ∷ bs) line tail behind l = refl
blockless_kept [] line tail behind l = ap (λ (q : List ℕ). blockless (q ++ tail)) l.line_is ∙ by l.content ∙ ap (λ (q : List ℕ). blockless (q ++ behind)) (sym l.line_is)
  where
    by : (content : List ℕ) → blockless ((content ++ 10 ∷ []) ++ tail) ≡ blockless ((content ++ 10 ∷ []) ++ behind)
    by [] = refl
    by (b ∷ bs) = refl

follows_kept : (l : Line) (list other : List ℕ) → LineFollows l list → blockless other ≡ blockless list → LineFollows l other
follows_kept (lines.Path input path) list other f e = tt
follows_kept (lines.Shut query None) list other f e = e ∙ f
follows_kept (lines.Shut query (Some b)) list other f e = tt
follows_kept (lines.Tried query tried untried) list other f e = tt
follows_kept (lines.Stepped query cnf derivation) list other f e = tt
follows_kept (lines.Wide query cost terms) list other f e = tt
follows_kept (lines.Unvisited query input) list other f e = tt

entry_same : (d e : Entry) (r s : List ℕ) → ◌≡◌ {A = Read} (Ok (d, r)) (Ok (e, s)) → (d ≡ e) × (r ≡ s)
entry_same d e r s h =
    let one : Entry × List ℕ = (d, r) in
    let other : Entry × List ℕ = (e, s) in
    let same = ok_same (Entry × List ℕ) one other h in
    (ap (λ (q : Entry × List ℕ). q.0) same, ap (λ (q : Entry × List ℕ). q.1) same)

last_told : (complete : Bool) (l : Line) → entries.Last complete ≡ entries.Told l → ⊥
last_told complete l e = cc

told_same : (a b : Line) → entries.Told a ≡ entries.Told b → a ≡ b
told_same a b e = cc

-- a line that is read first, is the first
one_first : (stage : Stage) (l : Line) (left : List ℕ) (ls : List Line) (complete : Bool) → AreLines stage ls → entry_at stage (line_text l ++ left) ≡ Ok (entries.Told l, left) → rest_text (report_of ls complete) ≡ line_text l ++ left
    → (r : Report) × IsRest (behind_line (is_path l)) r × (rest_text r ≡ left)
one_first stage l left [] complete s e k =
    absurd
    (last_told complete l
    (entry_same (entries.Last complete) (entries.Told l) [] left
    (sym (entry_complete stage (entries.Last complete) [] s tt) ∙ ap (entry_at stage) (append-nil (last_text complete) ∙ k) ∙ e)).0)
one_first stage l left (m ∷ ms) complete s e k =
    let rest = rest_text (report_of ms complete) in
    let same = entry_same (entries.Told m) (entries.Told l) (rest ++ []) left (sym (first_read stage m ms complete [] s.0 s.1.0) ∙ ap (entry_at stage) (append-nil (rest_text (report_of (m ∷ ms) complete)) ∙ k) ∙ e) in
    (report_of ms complete, subst (λ (q : Line). AreLines (behind_line (is_path q)) ms) (told_same m l same.0) s.1.1, sym (append-nil rest) ∙ same.1)

wrong_behind : (stage : Stage) (l : Line) (list rest : List ℕ) → may stage (is_path l) ≡ true → IsLineRead l → LineFollows l list → Refused rest_text (IsRest (behind_line (is_path l))) list rest → Refused rest_text (IsRest stage) (line_text l ++ list) rest
wrong_behind stage l list rest m s f r =
    behind_refused rest_text (IsRest stage) rest_text (IsRest (behind_line (is_path l))) (line_text l) (line_whole l)
    (λ q t. (report_of (l ∷ q.lines) q.complete, (m, (s, t)), line_then l q.lines q.complete))
    list rest
    (λ b before line tail behind i h t k.
    let left = before ++ (line ++ tail) in
    let follows = follows_kept l list left f (blockless_kept before line tail behind i ∙ ap blockless h) in
    one_first stage l left b.lines b.complete t (entry_complete stage (entries.Told l) left (m, s) follows) k)
    r

err_whole : (a b : List ℕ) → ◌≡◌ {A = Reads} (Err a) (Err b) → a ≡ b
err_whole a b e = cc

add_err : (found : List Line) (o : Reads) (at : List ℕ) → add_lines found o ≡ Err at → o ≡ Err at
add_err found (Ok r) at e = absurd cc
add_err found (Err here) at e = ap (λ (q : List ℕ). Err q) (err_whole here at e)

rest_by : (n : ℕ) (stage : Stage) (list rest : List ℕ) (o : Read) → entry_at stage list ≡ o → entered (lines_of n) o ≡ Err rest
    → ((next : Stage) (left : List ℕ) → length left < length list → lines_of n next left ≡ Err rest → Refused rest_text (IsRest next) left rest)
    → Refused rest_text (IsRest stage) list rest
rest_by n stage list rest (Err at) e h go = entry_refused stage list rest (e ∙ ap (λ (q : List ℕ). Err q) (err_whole at rest h))
rest_by n stage list rest (Ok (entries.Last complete, left)) e h go = absurd cc
rest_by n stage list rest (Ok (entries.Told l, left)) e h go =
    let k = entry_sound stage list (entries.Told l) left e in
    let r = go (behind_line (is_path l)) left (entry_shortens stage list (entries.Told l) left e) (add_err (l ∷ []) (lines_of n (behind_line (is_path l)) left) rest h) in
    subst (λ (q : List ℕ). Refused rest_text (IsRest stage) q rest) k.1 (wrong_behind stage l left rest k.0.0 k.0.1 k.2 r)

rest_in : (n : ℕ) (stage : Stage) (list rest : List ℕ) → length list < n → lines_of n stage list ≡ Err rest → Refused rest_text (IsRest stage) list rest
rest_in zero stage list rest h e = absurd (omega (arith, h))
rest_in (suc n) stage list rest h e = rest_by n stage list rest (entry_at stage list) refl e (λ next left l k. rest_in n next left rest (omega (arith, h, l)) k)

pub lines_refused : (stage : Stage) (list rest : List ℕ) → lines_at stage list ≡ Err rest → Refused rest_text (IsRest stage) list rest
unfolding lines_at
lines_refused stage list rest e = rest_in (suc (length list)) stage list rest (omega arith) e
