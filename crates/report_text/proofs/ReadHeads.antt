-- First lines that are read are those that are written.
use Rattle.std.proofs.Common.{◌≡◌, ℕ, Bool, true, false, List, [], ◌∷◌, ◌++◌, Some, None, refl, sym, ap, subst, ◌∙◌, append_assoc}
use Rattle.std.specs.Prelude.{codes}
use Rattle.std.specs.List.{flat_map}
use Rattle.js_units.specs.Characters.{is_digit, is_letter, is_name_start, is_name_part}
use Rattle.js_units.specs.Reading.{many}
use Rattle.js_units.proofs.Reading.{Sound, Complete, same_read, many_sound, many_complete, many_end}
use Rattle.path_core.specs.declared.path.InputValue.{InputValue}
use Rattle.path_core.specs.declared.path.Event.{Event}
use Rattle.path_core.specs.declared.path.Path.{Path}
use Rattle.path_core.specs.declared.query.Query.{Query}
use Rattle.proof_text.specs.Lines.{after}
use Rattle.proof_text.proofs.Parts.{after_sound, found}
use Rattle.proof_text.proofs.Whole.{IsLine}
use Rattle.proof_text.proofs.Refusing.{IsLineFormat}
use Rattle.proof_text.proofs.Formats.{line_by}
use Rattle.report_text.specs.Lines.{event_text, end_text, item_text, query_text, input_text, path_text, head_text, last_text}
use Rattle.report_text.specs.Parts.{one_of, part_at, named, name_at}
use Rattle.report_text.specs.Inputs.{IsItem, item_at}
use Rattle.report_text.specs.Events.{IsEvent, letters, event_at}
use Rattle.report_text.specs.Endings.{IsEnd, end_at}
use Rattle.report_text.specs.Queries.{Each, query_at}
use Rattle.report_text.specs.Reports.{IsPath, may}
use Rattle.report_text.specs.Heads.{asked_text, last_word, opening_text, openings_told, opens_path, line_of_head, IsHead, path_end_at, path_at, path_behind_at, path_head_at, opened_at, allowed_at, head_at}
use Rattle.report_text.specs.declared.heads.Stage.{Stage}
use Rattle.report_text.specs.declared.heads.Asked.{Asked}
use Rattle.report_text.specs.declared.heads.Asked.TheVariants as asked
use Rattle.report_text.specs.declared.heads.Opening.{Opening}
use Rattle.report_text.specs.declared.heads.Opening.TheVariants as openings
use Rattle.report_text.specs.declared.heads.Head.{Head}
use Rattle.report_text.specs.declared.heads.Head.TheVariants as heads
use Rattle.report_text.proofs.ReadParts.{Apart, IsTable, is_ended, word_sound}
use Rattle.report_text.proofs.ReadInputs.{item_sound, item_complete, item_begins, item_shortens}
use Rattle.report_text.proofs.ReadEvents.{event_sound, event_complete, event_begins, event_shortens}
use Rattle.report_text.proofs.ReadEndings.{end_sound, end_complete}
use Rattle.report_text.proofs.ReadQueries.{spelt_each, each_spelt, query_sound, query_complete}
use Rattle.report_text.proofs.Inner.{Inner, both, input_inner, events_inner, end_inner, query_inner}

-- ---- words

openings_spell : IsTable opening_text openings_told
unfolding openings_told
openings_spell = (refl, (refl, (refl, (refl, (refl, (refl, (refl, (refl, tt))))))))

opening_read : (o : Opening) (rest : List ℕ) → one_of openings_told (opening_text o ++ rest) ≡ Some (o, rest)
unfolding openings_told
opening_read openings.Path rest = refl
opening_read (openings.Asked asked.Shut) rest = refl
opening_read (openings.Asked asked.Tried) rest = refl
opening_read (openings.Asked asked.Stepped) rest = refl
opening_read (openings.Asked asked.Wide) rest = refl
opening_read (openings.Asked asked.Unvisited) rest = refl
opening_read (openings.Last true) rest = refl
opening_read (openings.Last false) rest = refl

-- ---- what may stand behind

space_apart : (rest : List ℕ) → Apart (32 ∷ rest)
unfolding is_digit
space_apart rest = refl

lf_ended : (rest : List ℕ) → is_ended (10 ∷ rest) ≡ true
unfolding is_digit
lf_ended rest = refl

no_event : (rest : List ℕ) → event_at (32 ∷ 124 ∷ rest) ≡ None
unfolding event_at letters
no_event rest = refl

bar_name : (rest : List ℕ) → name_at (124 ∷ rest) ≡ None
unfolding name_at part_at is_name_part is_name_start is_letter is_digit
bar_name rest = ap named (many_end part_at (124 ∷ rest) refl)

no_item : (rest : List ℕ) → item_at (32 ∷ 124 ∷ rest) ≡ None
unfolding item_at
no_item rest = rw (bar_name rest) refl

-- ---- paths

abbrev ends_text : Path → List ℕ
ends_text p = flat_map event_text p.events ++ codes " | " ++ end_text p.end ++ codes "\n"

abbrev IsPathRead : Path → Type 0
IsPathRead p = Each IsEvent p.events × IsEnd p.end

ends_parts : (p : Path) (rest : List ℕ) → ends_text p ++ rest ≡ flat_map event_text p.events ++ (codes " | " ++ (end_text p.end ++ (codes "\n" ++ rest)))
ends_parts p rest =
    append_assoc (flat_map event_text p.events ++ codes " | " ++ end_text p.end) (codes "\n") rest
    ∙ append_assoc (flat_map event_text p.events ++ codes " | ") (end_text p.end) (codes "\n" ++ rest)
    ∙ append_assoc (flat_map event_text p.events) (codes " | ") (end_text p.end ++ (codes "\n" ++ rest))

path_sound : Sound path_at ends_text IsPathRead
unfolding path_at
path_sound list p rest h =
    let es = many_sound event_at event_text IsEvent event_sound list in
    let events = (many event_at list).0 in
    let a = found (after (codes " | ") (many event_at list).1) _ (p, rest) h in
    let e = found (end_at a.first) _ (p, rest) a.then_is in
    let n = found (after (codes "\n") e.first.1) _ (p, rest) e.then_is in
    let one : Path = record { events = events; end = e.first.0 } in
    let same = same_read one p n.first rest n.then_is in
    let k = end_sound a.first e.first.0 e.first.1 e.first_is in
    subst (λ (q : Path). IsPathRead q × (ends_text q ++ rest ≡ list)) same.0 (
      (each_spelt IsEvent events es.0, k.0),
      ends_parts one rest
          ∙ ap (λ (q : List ℕ). flat_map event_text events ++ (codes " | " ++ (end_text e.first.0 ++ q))) (ap (λ (q : List ℕ). codes "\n" ++ q) (sym same.1) ∙ after_sound (codes "\n") e.first.1 n.first n.first_is)
          ∙ ap (λ (q : List ℕ). flat_map event_text events ++ (codes " | " ++ q)) k.1
          ∙ ap (λ (q : List ℕ). flat_map event_text events ++ q) (after_sound (codes " | ") (many event_at list).1 a.first a.first_is)
          ∙ es.1,
    )

path_complete : Complete path_at ends_text IsPathRead (λ rest. Unit {0})
unfolding path_at
path_complete p rest s f =
    let behind = 124 ∷ 32 ∷ (end_text p.end ++ (codes "\n" ++ rest)) in
    let es = many_complete event_at event_text IsEvent Apart event_shortens event_complete event_begins p.events (32 ∷ behind) (spelt_each IsEvent p.events s.0) (space_apart behind) (no_event (32 ∷ (end_text p.end ++ (codes "\n" ++ rest)))) in
    ap path_at (ends_parts p rest)
    ∙ ap (λ (q : List Event × List ℕ). path_end_at q.0 q.1) es
    ∙ rw (end_complete p.end (codes "\n" ++ rest) s.1 (lf_ended rest)) refl

path_line_parts : (input : List (List ℕ × InputValue)) (path : Path) (rest : List ℕ) → path_text input path ++ rest ≡ codes "path" ++ (input_text input ++ (codes " |" ++ (ends_text path ++ rest)))
path_line_parts input path rest =
    append_assoc (codes "path" ++ input_text input ++ codes " |" ++ flat_map event_text path.events ++ codes " | " ++ end_text path.end) (codes "\n") rest
    ∙ append_assoc (codes "path" ++ input_text input ++ codes " |" ++ flat_map event_text path.events ++ codes " | ") (end_text path.end) (codes "\n" ++ rest)
    ∙ append_assoc (codes "path" ++ input_text input ++ codes " |" ++ flat_map event_text path.events) (codes " | ") (end_text path.end ++ (codes "\n" ++ rest))
    ∙ append_assoc (codes "path" ++ input_text input ++ codes " |") (flat_map event_text path.events) (codes " | " ++ (end_text path.end ++ (codes "\n" ++ rest)))
    ∙ ap (λ (q : List ℕ). codes "path" ++ input_text input ++ codes " |" ++ q) (sym (ends_parts path rest))
    ∙ append_assoc (codes "path" ++ input_text input) (codes " |") (ends_text path ++ rest)
    ∙ append_assoc (codes "path") (input_text input) (codes " |" ++ (ends_text path ++ rest))

path_head_sound : (list : List ℕ) (h : Head) (rest : List ℕ) → path_head_at list ≡ Some (h, rest) → (input : List (List ℕ × InputValue)) × (path : Path) × (h ≡ heads.Path input path) × IsPath input path × (line_of_head h ++ rest ≡ codes "path" ++ list)
unfolding path_head_at
path_head_sound list h rest e =
    let is = many_sound item_at item_text IsItem item_sound list in
    let input = (many item_at list).0 in
    let a = found (after (codes " |") (many item_at list).1) _ (h, rest) e in
    let p = found (path_at a.first) _ (h, rest) a.then_is in
    let same = same_read (heads.Path input p.first.0) h p.first.1 rest p.then_is in
    let k = path_sound a.first p.first.0 p.first.1 p.first_is in (
      input,
      p.first.0,
      sym same.0,
      record { input_spelt = each_spelt IsItem input is.0; events = k.0.0; end = k.0.1 },
      ap (λ (q : Head). line_of_head q ++ rest) (sym same.0)
          ∙ path_line_parts input p.first.0 rest
          ∙ ap (λ (q : List ℕ). codes "path" ++ (input_text input ++ (codes " |" ++ q))) (ap (λ (q : List ℕ). ends_text p.first.0 ++ q) (sym same.1) ∙ k.1)
          ∙ ap (λ (q : List ℕ). codes "path" ++ (input_text input ++ q)) (after_sound (codes " |") (many item_at list).1 a.first a.first_is)
          ∙ ap (λ (q : List ℕ). codes "path" ++ q) is.1,
    )

path_head_complete : (input : List (List ℕ × InputValue)) (path : Path) (rest : List ℕ) → IsPath input path → path_head_at (input_text input ++ (codes " |" ++ (ends_text path ++ rest))) ≡ Some (heads.Path input path, rest)
unfolding path_head_at
path_head_complete input path rest s =
    let behind = ends_text path ++ rest in
    let is = many_complete item_at item_text IsItem Apart item_shortens item_complete item_begins input (32 ∷ 124 ∷ behind) (spelt_each IsItem input s.input_spelt) (space_apart (124 ∷ behind)) (no_item behind) in
    ap (λ (q : List (List ℕ × InputValue) × List ℕ). path_behind_at q.0 q.1) is
    ∙ rw (path_complete path rest (s.events, s.end) tt) refl

-- ---- the others

asked_parts : (a : Asked) (query : Query) (rest : List ℕ) → head_text (asked_text a) query ++ rest ≡ asked_text a ++ (query_text query ++ (codes "\n" ++ rest))
unfolding head_text
asked_parts a query rest = append_assoc (asked_text a ++ query_text query) (codes "\n") rest ∙ append_assoc (asked_text a) (query_text query) (codes "\n" ++ rest)

last_parts : (complete : Bool) (rest : List ℕ) → last_text complete ++ rest ≡ last_word complete ++ (codes "\n" ++ rest)
last_parts true rest = refl
last_parts false rest = refl

-- what a word opens, at a stage at which it may
opened_sound : (stage : Stage) (o : Opening) (list : List ℕ) (h : Head) (rest : List ℕ) → may stage (opens_path o) ≡ true → opened_at o list ≡ Some (h, rest) → IsHead stage h × (line_of_head h ++ rest ≡ opening_text o ++ list)
opened_sound stage openings.Path list h rest m e =
    let k = path_head_sound list h rest e in
    (subst (λ (q : Head). IsHead stage q) (sym k.2) (m, k.3), k.4)
opened_sound stage (openings.Asked a) list h rest m e =
    let q = found (query_at list) _ (h, rest) e in
    let n = found (after (codes "\n") q.first.1) _ (h, rest) q.then_is in
    let same = same_read (heads.Asked a q.first.0) h n.first rest n.then_is in
    let k = query_sound list q.first.0 q.first.1 q.first_is in (
      subst (λ (p : Head). IsHead stage p) same.0 (m, k.0),
      ap (λ (p : Head). line_of_head p ++ rest) (sym same.0)
          ∙ asked_parts a q.first.0 rest
          ∙ ap (λ (p : List ℕ). asked_text a ++ (query_text q.first.0 ++ p)) (ap (λ (p : List ℕ). codes "\n" ++ p) (sym same.1) ∙ after_sound (codes "\n") q.first.1 n.first n.first_is)
          ∙ ap (λ (p : List ℕ). asked_text a ++ p) k.1,
    )
opened_sound stage (openings.Last complete) list h rest m e =
    let n = found (after (codes "\n") list) _ (h, rest) e in
    let same = same_read (heads.Last complete) h n.first rest n.then_is in (
      subst (λ (p : Head). IsHead stage p) same.0 m,
      ap (λ (p : Head). line_of_head p ++ rest) (sym same.0) ∙ last_parts complete rest
          ∙ ap (λ (p : List ℕ). last_word complete ++ p) (ap (λ (p : List ℕ). codes "\n" ++ p) (sym same.1) ∙ after_sound (codes "\n") list n.first n.first_is),
    )

allowed_sound : (stage : Stage) (o : Opening) (list : List ℕ) (h : Head) (rest : List ℕ) (x : Bool) → may stage (opens_path o) ≡ x → allowed_at x o list ≡ Some (h, rest) → IsHead stage h × (line_of_head h ++ rest ≡ opening_text o ++ list)
allowed_sound stage o list h rest true m e = opened_sound stage o list h rest m e
allowed_sound stage o list h rest false m e = absurd cc

pub head_sound : (stage : Stage) → Sound (head_at stage) line_of_head (IsHead stage)
unfolding head_at
head_sound stage list h rest e =
    let w = found (one_of openings_told list) _ (h, rest) e in
    let k = allowed_sound stage w.first.0 w.first.1 h rest (may stage (opens_path w.first.0)) refl w.then_is in
    (k.0, k.1 ∙ word_sound opening_text openings_told openings_spell list w.first.0 w.first.1 w.first_is)

opened_read : (stage : Stage) (o : Opening) (list : List ℕ) → may stage (opens_path o) ≡ true → head_at stage (opening_text o ++ list) ≡ opened_at o list
unfolding head_at
opened_read stage o list m = rw (opening_read o list) (rw m refl)

pub head_complete : (stage : Stage) → Complete (head_at stage) line_of_head (IsHead stage) (λ rest. Unit {0})
head_complete stage (heads.Path input path) rest s f =
    ap (head_at stage) (path_line_parts input path rest) ∙ opened_read stage openings.Path (input_text input ++ (codes " |" ++ (ends_text path ++ rest))) s.0 ∙ path_head_complete input path rest s.1
head_complete stage (heads.Asked a query) rest s f =
    ap (head_at stage) (asked_parts a query rest) ∙ opened_read stage (openings.Asked a) (query_text query ++ (codes "\n" ++ rest)) s.0
    ∙ rw (query_complete query (codes "\n" ++ rest) s.1 (rest, refl)) refl
head_complete stage (heads.Last complete) rest s f =
    ap (head_at stage) (last_parts complete rest) ∙ opened_read stage (openings.Last complete) (codes "\n" ++ rest) s

asked_inner : (a : Asked) → Inner (asked_text a)
asked_inner asked.Shut = refl
asked_inner asked.Tried = refl
asked_inner asked.Stepped = refl
asked_inner asked.Wide = refl
asked_inner asked.Unvisited = refl

pub head_line : (stage : Stage) (h : Head) → IsHead stage h → IsLine (line_of_head h)
unfolding head_text
head_line stage (heads.Path input path) s =
    line_by (codes "path" ++ input_text input ++ codes " |" ++ flat_map event_text path.events ++ codes " | " ++ end_text path.end) []
    (both (codes "path" ++ input_text input ++ codes " |" ++ flat_map event_text path.events ++ codes " | ") (end_text path.end)
    (both (codes "path" ++ input_text input ++ codes " |" ++ flat_map event_text path.events) (codes " | ")
    (both (codes "path" ++ input_text input ++ codes " |") (flat_map event_text path.events)
    (both (codes "path" ++ input_text input) (codes " |") (both (codes "path") (input_text input) refl (input_inner input s.1.input_spelt)) refl)
    (events_inner path.events s.1.events)) refl) (end_inner path.end s.1.end)) refl
head_line stage (heads.Asked a query) s = line_by (asked_text a ++ query_text query) [] (both (asked_text a) (query_text query) (asked_inner a) (query_inner query s.1)) refl
head_line stage (heads.Last true) s = line_by (codes "complete") [] refl refl
head_line stage (heads.Last false) s = line_by (codes "incomplete") [] refl refl

pub head_format : (stage : Stage) → IsLineFormat (head_at stage) line_of_head (IsHead stage)
head_format stage = record { sound = head_sound stage; complete = head_complete stage; line = head_line stage }
