-- What a report says: what is read is what is written.
use Rattle.std.proofs.Common.{◌≡◌, ℕ, zero, suc, ◌<◌, Bool, true, false, List, [], ◌∷◌, ◌++◌, length, Option, Some, None, refl, sym, ap, subst, ◌∙◌, arith, append_assoc, append-nil, length-append}
use Rattle.std.specs.Prelude.{Result, Ok, Err}
use Rattle.std.specs.List.{flat_map}
use Rattle.path_core.specs.declared.query.Query.{Query}
use Rattle.proof_text.specs.Counted.{line_at, ◌>>=◌}
use Rattle.proof_text.proofs.Refusing.{ok_same}
use Rattle.report_text.specs.Lines.{path_text, head_text, line_text, last_text}
use Rattle.report_text.specs.Queries.{IsQuery}
use Rattle.report_text.specs.Reports.{IsLineRead, is_path, may, behind_line, AreLines}
use Rattle.report_text.specs.Heads.{line_of_head, IsHead, head_at}
use Rattle.report_text.specs.Bodies.{body_at}
use Rattle.report_text.specs.Entries.{told_line, under_at, entry_at, add_lines, entered, lines_of, lines_at}
use Rattle.report_text.specs.declared.heads.Stage.{Stage}
use Rattle.report_text.specs.declared.heads.Asked.{Asked}
use Rattle.report_text.specs.declared.heads.Asked.TheVariants as asked
use Rattle.report_text.specs.declared.heads.Head.{Head}
use Rattle.report_text.specs.declared.heads.Head.TheVariants as heads
use Rattle.report_text.specs.declared.report.Line.{Line}
use Rattle.report_text.specs.declared.report.Line.TheVariants as lines
use Rattle.report_text.specs.declared.report.Report.{Report}
use Rattle.report_text.specs.declared.reading.Entry.{Entry}
use Rattle.report_text.specs.declared.reading.Entry.TheVariants as entries
use Rattle.report_text.proofs.ReadHeads.{head_sound, head_complete}
use Rattle.report_text.proofs.ReadBodies.{Body, body_text, IsBody, line_of, line_parts, line_read, blockless, BlockFollows, Follows, line_some, body_sound, body_complete}
use Rattle.report_text.proofs.Chains.{went}

-- ---- one thing

abbrev pub entry_text : Entry → List ℕ
entry_text (entries.Told line) = line_text line
entry_text (entries.Last complete) = last_text complete

abbrev pub IsEntry : Stage → Entry → Type 0
IsEntry stage (entries.Told line) = (may stage (is_path line) ≡ true) × IsLineRead line
IsEntry stage (entries.Last complete) = may stage false ≡ true

abbrev pub LineFollows : Line → List ℕ → Type 0
LineFollows (lines.Path input path) rest = Unit {0}
LineFollows (lines.Shut query block) rest = BlockFollows block rest
LineFollows (lines.Tried query tried untried) rest = Unit {0}
LineFollows (lines.Stepped query cnf derivation) rest = Unit {0}
LineFollows (lines.Wide query cost terms) rest = Unit {0}
LineFollows (lines.Unvisited query input) rest = Unit {0}

abbrev pub EntryFollows : Entry → List ℕ → Type 0
EntryFollows (entries.Told line) rest = LineFollows line rest
EntryFollows (entries.Last complete) rest = Unit {0}

abbrev pub Read : Type 0
Read = Result (Entry × List ℕ) (List ℕ)

abbrev IsNext : Stage → List ℕ → Entry → List ℕ → Type 0
IsNext stage list e rest = IsEntry stage e × (entry_text e ++ rest ≡ list) × EntryFollows e rest

next_moved : (stage : Stage) (list : List ℕ) (d e : Entry) (r s : List ℕ) → ◌≡◌ {A = Read} (Ok (d, r)) (Ok (e, s)) → IsNext stage list d r → IsNext stage list e s
next_moved stage list d e r s h n =
    let one : Entry × List ℕ = (d, r) in
    let other : Entry × List ℕ = (e, s) in
    subst (λ (q : Entry × List ℕ). IsNext stage list q.0 q.1) (ok_same (Entry × List ℕ) one other h) n

asked_next : (stage : Stage) (a : Asked) (query : Query) (x : Body a) (rest : List ℕ) → may stage false ≡ true → IsQuery query → IsBody a x → Follows a x rest → IsNext stage (line_of_head (heads.Asked a query) ++ (body_text a x ++ rest)) (entries.Told (line_of a query x)) rest
asked_next stage asked.Shut query x rest m s t f = ((m, line_read asked.Shut query x s t), ap (λ (q : List ℕ). q ++ rest) (line_parts asked.Shut query x) ∙ append_assoc (line_of_head (heads.Asked asked.Shut query)) (body_text asked.Shut x) rest, f)
asked_next stage asked.Tried query x rest m s t f = ((m, line_read asked.Tried query x s t), ap (λ (q : List ℕ). q ++ rest) (line_parts asked.Tried query x) ∙ append_assoc (line_of_head (heads.Asked asked.Tried query)) (body_text asked.Tried x) rest, f)
asked_next stage asked.Stepped query x rest m s t f = ((m, line_read asked.Stepped query x s t), ap (λ (q : List ℕ). q ++ rest) (line_parts asked.Stepped query x) ∙ append_assoc (line_of_head (heads.Asked asked.Stepped query)) (body_text asked.Stepped x) rest, f)
asked_next stage asked.Wide query x rest m s t f = ((m, line_read asked.Wide query x s t), ap (λ (q : List ℕ). q ++ rest) (line_parts asked.Wide query x) ∙ append_assoc (line_of_head (heads.Asked asked.Wide query)) (body_text asked.Wide x) rest, f)
asked_next stage asked.Unvisited query x rest m s t f = ((m, line_read asked.Unvisited query x s t), ap (λ (q : List ℕ). q ++ rest) (line_parts asked.Unvisited query x) ∙ append_assoc (line_of_head (heads.Asked asked.Unvisited query)) (body_text asked.Unvisited x) rest, f)

told_by : (stage : Stage) (a : Asked) (query : Query) (list : List ℕ) (e : Entry) (rest : List ℕ) → may stage false ≡ true → IsQuery query → (o : Result (Line × List ℕ) (List ℕ)) → body_at a query list ≡ o → told_line o ≡ Ok (e, rest) → IsNext stage (line_of_head (heads.Asked a query) ++ list) e rest
told_by stage a query list e rest m s (Err at) h k = absurd cc
told_by stage a query list e rest m s (Ok r) h k =
    let u = body_sound a query list r.0 r.1 h in
    let n = asked_next stage a query u.body r.1 m s u.spelt u.follows in
    next_moved stage (line_of_head (heads.Asked a query) ++ list) (entries.Told r.0) e r.1 rest k
    (subst (λ (q : Line). IsNext stage (line_of_head (heads.Asked a query) ++ list) (entries.Told q) r.1) (sym u.line_is)
    (subst (λ (q : List ℕ). IsNext stage (line_of_head (heads.Asked a query) ++ q) (entries.Told (line_of a query u.body)) r.1) u.text n))

under_sound : (stage : Stage) (head : Head) (list : List ℕ) (e : Entry) (rest : List ℕ) → IsHead stage head → under_at head list ≡ Ok (e, rest) → IsNext stage (line_of_head head ++ list) e rest
unfolding line_text
under_sound stage (heads.Path input path) list e rest s h = next_moved stage (path_text input path ++ list) (entries.Told (lines.Path input path)) e list rest h (s, refl, tt)
under_sound stage (heads.Asked a query) list e rest s h = told_by stage a query list e rest s.0 s.1 (body_at a query list) refl h
under_sound stage (heads.Last complete) list e rest s h = next_moved stage (last_text complete ++ list) (entries.Last complete) e list rest h (s, refl, tt)

pub entry_sound : (stage : Stage) (list : List ℕ) (e : Entry) (rest : List ℕ) → entry_at stage list ≡ Ok (e, rest) → IsEntry stage e × (entry_text e ++ rest ≡ list) × EntryFollows e rest
unfolding entry_at
entry_sound stage list e rest h =
    let w = went (line_at (head_at stage list) list) _ (e, rest) h in
    let k = head_sound stage list w.first.0 w.first.1 (line_some (head_at stage list) list w.first w.first_is) in
    let u = under_sound stage w.first.0 w.first.1 e rest k.0 w.then_is in
    (u.0, u.1 ∙ k.1, u.2)

pub head_then : (stage : Stage) (head : Head) (rest : List ℕ) → IsHead stage head → entry_at stage (line_of_head head ++ rest) ≡ under_at head rest
unfolding entry_at
head_then stage head rest s = ap (λ (o : Option (Head × List ℕ)). line_at o (line_of_head head ++ rest) >>= λ h. under_at h.0 h.1) (head_complete stage head rest s tt)

asked_complete : (stage : Stage) (a : Asked) (query : Query) (x : Body a) (rest : List ℕ) → may stage false ≡ true → IsQuery query → IsBody a x → Follows a x rest → entry_at stage (line_text (line_of a query x) ++ rest) ≡ Ok (entries.Told (line_of a query x), rest)
asked_complete stage a query x rest m s t f =
    ap (entry_at stage) (ap (λ (q : List ℕ). q ++ rest) (line_parts a query x) ∙ append_assoc (line_of_head (heads.Asked a query)) (body_text a x) rest)
    ∙ head_then stage (heads.Asked a query) (body_text a x ++ rest) (m, s)
    ∙ ap told_line (body_complete a query x rest t f)

pub entry_complete : (stage : Stage) (e : Entry) (rest : List ℕ) → IsEntry stage e → EntryFollows e rest → entry_at stage (entry_text e ++ rest) ≡ Ok (e, rest)
unfolding line_text
entry_complete stage (entries.Told (lines.Path input path)) rest s f = head_then stage (heads.Path input path) rest s
entry_complete stage (entries.Told (lines.Shut query block)) rest s f = asked_complete stage asked.Shut query block rest s.0 s.1.0 s.1.1 f
entry_complete stage (entries.Told (lines.Tried query tried untried)) rest s f = asked_complete stage asked.Tried query (tried, untried) rest s.0 s.1.0 s.1.1 f
entry_complete stage (entries.Told (lines.Stepped query cnf derivation)) rest s f = asked_complete stage asked.Stepped query (cnf, derivation) rest s.0 s.1.0 s.1.1 f
entry_complete stage (entries.Told (lines.Wide query cost terms)) rest s f = asked_complete stage asked.Wide query (cost, terms) rest s.0 s.1.0 s.1.1 f
entry_complete stage (entries.Told (lines.Unvisited query input)) rest s f = asked_complete stage asked.Unvisited query input rest s.0 s.1.0 s.1.1 f
entry_complete stage (entries.Last complete) rest s f = head_then stage (heads.Last complete) rest s

entry_some : (e : Entry) → 0 < length (entry_text e)
unfolding line_text head_text
entry_some (entries.Told (lines.Path input path)) = omega arith
entry_some (entries.Told (lines.Shut query block)) = omega arith
entry_some (entries.Told (lines.Tried query tried untried)) = omega arith
entry_some (entries.Told (lines.Stepped query cnf derivation)) = omega arith
entry_some (entries.Told (lines.Wide query cost terms)) = omega arith
entry_some (entries.Told (lines.Unvisited query input)) = omega arith
entry_some (entries.Last true) = omega arith
entry_some (entries.Last false) = omega arith

pub entry_shortens : (stage : Stage) (list : List ℕ) (e : Entry) (rest : List ℕ) → entry_at stage list ≡ Ok (e, rest) → length rest < length list
entry_shortens stage list e rest h = omega (arith, entry_some e, ap length (entry_sound stage list e rest h).1, length-append (entry_text e) rest)

-- ---- as many as are there

abbrev pub Whole : Type 0
Whole = Result (Report × List ℕ) (List ℕ)

by_entry : (f g : Stage → List ℕ → Whole) (r : Read) → ((e : Entry) (rest : List ℕ) → r ≡ Ok (e, rest) → (stage : Stage) → f stage rest ≡ g stage rest) → entered f r ≡ entered g r
by_entry f g (Ok (entries.Told line, rest)) h = ap (add_lines (line ∷ [])) (h (entries.Told line) rest refl (behind_line (is_path line)))
by_entry f g (Ok (entries.Last complete, rest)) h = refl
by_entry f g (Err at) h = refl

enough : (n m : ℕ) (stage : Stage) (list : List ℕ) → length list < n → length list < m → lines_of n stage list ≡ lines_of m stage list
enough zero m stage list a b = absurd (omega (arith, a))
enough (suc n) zero stage list a b = absurd (omega (arith, b))
enough (suc n) (suc m) stage list a b =
    by_entry (lines_of n) (lines_of m) (entry_at stage list)
    (λ e rest h next. let k = entry_shortens stage list e rest h in enough n m next rest (omega (arith, a, k)) (omega (arith, b, k)))

pub lines_more : (stage : Stage) (list : List ℕ) (line : Line) (rest : List ℕ) → entry_at stage list ≡ Ok (entries.Told line, rest) → lines_at stage list ≡ add_lines (line ∷ []) (lines_at (behind_line (is_path line)) rest)
unfolding lines_at
lines_more stage list line rest h =
    let k = entry_shortens stage list (entries.Told line) rest h in
    ap (entered (lines_of (length list))) h
    ∙ ap (add_lines (line ∷ [])) (enough (length list) (suc (length rest)) (behind_line (is_path line)) rest k (omega arith))

pub lines_last : (stage : Stage) (list : List ℕ) (complete : Bool) (rest : List ℕ) → entry_at stage list ≡ Ok (entries.Last complete, rest) → lines_at stage list ≡ Ok (record { lines = []; complete = complete }, rest)
unfolding lines_at
lines_last stage list complete rest h = ap (entered (lines_of (length list))) h

pub lines_wrong : (stage : Stage) (list at : List ℕ) → entry_at stage list ≡ Err at → lines_at stage list ≡ Err at
unfolding lines_at
lines_wrong stage list at h = ap (entered (lines_of (length list))) h

-- ---- a loop that takes them

pub add_none : (r : Whole) → r ≡ add_lines [] r
add_none (Ok r) = refl
add_none (Err at) = refl

add_both : (found : List Line) (line : Line) (r : Whole) → add_lines found (add_lines (line ∷ []) r) ≡ add_lines (found ++ line ∷ []) r
add_both found line (Ok r) = ap (λ (q : List Line). Ok (record { lines = q; complete = r.0.complete }, r.1)) (sym (append_assoc found (line ∷ []) r.0.lines))
add_both found line (Err at) = refl

pub gathers_line : (whole : Whole) (found : List Line) (stage : Stage) (list : List ℕ) (line : Line) (rest : List ℕ) → whole ≡ add_lines found (lines_at stage list) → entry_at stage list ≡ Ok (entries.Told line, rest) → whole ≡ add_lines (found ++ line ∷ []) (lines_at (behind_line (is_path line)) rest)
gathers_line whole found stage list line rest h e = h ∙ ap (add_lines found) (lines_more stage list line rest e) ∙ add_both found line (lines_at (behind_line (is_path line)) rest)

pub gathers_last : (whole : Whole) (found : List Line) (stage : Stage) (list : List ℕ) (complete : Bool) (rest : List ℕ) → whole ≡ add_lines found (lines_at stage list) → entry_at stage list ≡ Ok (entries.Last complete, rest) → whole ≡ Ok (record { lines = found; complete = complete }, rest)
gathers_last whole found stage list complete rest h e =
    h ∙ ap (add_lines found) (lines_last stage list complete rest e) ∙ ap (λ (q : List Line). Ok (record { lines = q; complete = complete }, rest)) (append-nil found)

pub gathers_wrong : (whole : Whole) (found : List Line) (stage : Stage) (list at : List ℕ) → whole ≡ add_lines found (lines_at stage list) → entry_at stage list ≡ Err at → whole ≡ Err at
gathers_wrong whole found stage list at h e = h ∙ ap (add_lines found) (lines_wrong stage list at e)

-- ---- the lines up to the last one

abbrev pub rest_text : Report → List ℕ
rest_text r = flat_map line_text r.lines ++ last_text r.complete

abbrev pub IsRest : Stage → Report → Type 0
IsRest stage r = AreLines stage r.lines

-- no block stands where a line or the end does
pub rest_blockless : (ls : List Line) (complete : Bool) (behind : List ℕ) → blockless (rest_text (record { lines = ls; complete = complete }) ++ behind) ≡ true
unfolding line_text head_text
rest_blockless [] true behind = refl
rest_blockless [] false behind = refl
rest_blockless (lines.Path input path ∷ ls) complete behind = refl
rest_blockless (lines.Shut query block ∷ ls) complete behind = refl
rest_blockless (lines.Tried query tried untried ∷ ls) complete behind = refl
rest_blockless (lines.Stepped query cnf derivation ∷ ls) complete behind = refl
rest_blockless (lines.Wide query cost terms ∷ ls) complete behind = refl
rest_blockless (lines.Unvisited query input ∷ ls) complete behind = refl

blockless_follows : (line : Line) (rest : List ℕ) → blockless rest ≡ true → LineFollows line rest
blockless_follows (lines.Path input path) rest h = tt
blockless_follows (lines.Shut query None) rest h = h
blockless_follows (lines.Shut query (Some b)) rest h = tt
blockless_follows (lines.Tried query tried untried) rest h = tt
blockless_follows (lines.Stepped query cnf derivation) rest h = tt
blockless_follows (lines.Wide query cost terms) rest h = tt
blockless_follows (lines.Unvisited query input) rest h = tt

-- one is read first
pub first_read : (stage : Stage) (line : Line) (ls : List Line) (complete : Bool) (behind : List ℕ) → may stage (is_path line) ≡ true → IsLineRead line
    → entry_at stage (rest_text (record { lines = line ∷ ls; complete = complete }) ++ behind) ≡ Ok (entries.Told line, rest_text (record { lines = ls; complete = complete }) ++ behind)
first_read stage line ls complete behind m s =
    let rest = rest_text (record { lines = ls; complete = complete }) ++ behind in
    ap (entry_at stage)
    (append_assoc (line_text line ++ flat_map line_text ls) (last_text complete) behind
    ∙ append_assoc (line_text line) (flat_map line_text ls) (last_text complete ++ behind)
    ∙ ap (λ (q : List ℕ). line_text line ++ q) (sym (append_assoc (flat_map line_text ls) (last_text complete) behind)))
    ∙ entry_complete stage (entries.Told line) rest (m, s) (blockless_follows line rest (rest_blockless ls complete behind))

complete_in : (stage : Stage) (ls : List Line) (complete : Bool) (behind : List ℕ) → AreLines stage ls → lines_at stage (rest_text (record { lines = ls; complete = complete }) ++ behind) ≡ Ok (record { lines = ls; complete = complete }, behind)
complete_in stage [] complete behind s = lines_last stage (last_text complete ++ behind) complete behind (entry_complete stage (entries.Last complete) behind s tt)
complete_in stage (line ∷ ls) complete behind s =
    lines_more stage (rest_text (record { lines = line ∷ ls; complete = complete }) ++ behind) line (rest_text (record { lines = ls; complete = complete }) ++ behind) (first_read stage line ls complete behind s.0 s.1.0)
    ∙ ap (add_lines (line ∷ [])) (complete_in (behind_line (is_path line)) ls complete behind s.1.1)

pub lines_complete : (stage : Stage) (r : Report) (behind : List ℕ) → IsRest stage r → lines_at stage (rest_text r ++ behind) ≡ Ok (r, behind)
lines_complete stage r behind s = complete_in stage r.lines r.complete behind s

sound_by : (n : ℕ) (stage : Stage) (list : List ℕ) (r : Report × List ℕ) (o : Read) → entry_at stage list ≡ o → entered (lines_of n) o ≡ Ok r
    → ((next : Stage) (left : List ℕ) (q : Report × List ℕ) → lines_of n next left ≡ Ok q → IsRest next q.0 × (rest_text q.0 ++ q.1 ≡ left))
    → IsRest stage r.0 × (rest_text r.0 ++ r.1 ≡ list)
sound_by n stage list r (Err at) e h go = absurd cc
sound_by n stage list r (Ok (entries.Last complete, rest)) e h go =
    let one : Report × List ℕ = (record { lines = []; complete = complete }, rest) in
    let k = entry_sound stage list (entries.Last complete) rest e in
    subst (λ (q : Report × List ℕ). IsRest stage q.0 × (rest_text q.0 ++ q.1 ≡ list)) (ok_same (Report × List ℕ) one r h) (k.0, k.1)
sound_by n stage list r (Ok (entries.Told line, rest)) e h go = by (lines_of n (behind_line (is_path line)) rest) refl h
  where
    by : (o : Whole) → lines_of n (behind_line (is_path line)) rest ≡ o → add_lines (line ∷ []) o ≡ Ok r → IsRest stage r.0 × (rest_text r.0 ++ r.1 ≡ list)
    by (Err at) f g = absurd cc
    by (Ok q) f g =
        let one : Report × List ℕ = (record { lines = line ∷ q.0.lines; complete = q.0.complete }, q.1) in
        let k = entry_sound stage list (entries.Told line) rest e in
        let more = go (behind_line (is_path line)) rest q f in
        subst (λ (q : Report × List ℕ). IsRest stage q.0 × (rest_text q.0 ++ q.1 ≡ list)) (ok_same (Report × List ℕ) one r g) (
          (k.0.0, (k.0.1, more.0)),
          append_assoc (line_text line ++ flat_map line_text q.0.lines) (last_text q.0.complete) q.1
              ∙ append_assoc (line_text line) (flat_map line_text q.0.lines) (last_text q.0.complete ++ q.1)
              ∙ ap (λ (z : List ℕ). line_text line ++ z) (sym (append_assoc (flat_map line_text q.0.lines) (last_text q.0.complete) q.1) ∙ more.1)
              ∙ k.1,
        )

sound_in : (n : ℕ) (stage : Stage) (list : List ℕ) (r : Report × List ℕ) → lines_of n stage list ≡ Ok r → IsRest stage r.0 × (rest_text r.0 ++ r.1 ≡ list)
sound_in zero stage list r h = absurd cc
sound_in (suc n) stage list r h = sound_by n stage list r (entry_at stage list) refl h (λ next left q k. sound_in n next left q k)

pub lines_sound : (stage : Stage) (list : List ℕ) (r : Report × List ℕ) → lines_at stage list ≡ Ok r → IsRest stage r.0 × (rest_text r.0 ++ r.1 ≡ list)
unfolding lines_at
lines_sound stage list r h = sound_in (suc (length list)) stage list r h
