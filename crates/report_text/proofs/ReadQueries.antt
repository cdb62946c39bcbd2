-- Queries that are read are those that are written.
use Rattle.std.proofs.Common.{◌≡◌, ℕ, ◌<◌, true, List, [], ◌∷◌, ◌++◌, length, Option, Some, None, refl, sym, ap, subst, ◌∙◌, arith, append_assoc}
use Rattle.std.specs.Prelude.{codes}
use Rattle.std.specs.List.{flat_map}
use Rattle.js_units.specs.Characters.{is_digit}
use Rattle.js_units.specs.Reading.{many}
use Rattle.js_units.proofs.Reading.{Sound, Spelt, Complete, Begins, Shortens, shortens, same_read, many_sound, many_complete}
use Rattle.path_core.specs.declared.path.Event.{Event}
use Rattle.path_core.specs.declared.path.Event.TheVariants as events
use Rattle.path_core.specs.declared.path.End.{End}
use Rattle.path_core.specs.declared.path.End.TheVariants as ends
use Rattle.path_core.specs.declared.path.Budget.TheVariants as budget
use Rattle.path_core.specs.declared.path.Child.{Child}
use Rattle.path_core.specs.declared.path.Child.TheVariants as children
use Rattle.path_core.specs.declared.query.Query.{Query}
use Rattle.proof_text.specs.Lines.{after}
use Rattle.proof_text.specs.Numbers.{number_at}
use Rattle.proof_text.proofs.Parts.{after_sound, found}
use Rattle.report_text.specs.Lines.{event_text, end_text, child_text, query_text}
use Rattle.report_text.specs.Events.{IsEvent, letters, event_at}
use Rattle.report_text.specs.Endings.{end_at}
use Rattle.report_text.specs.Queries.{IsChild, Each, IsQuery, ending_child_at, event_child, child_at, children_at, query_at}
use Rattle.report_text.proofs.ReadParts.{Apart, is_ended, ended_apart}
use Rattle.report_text.proofs.ReadEvents.{event_sound, event_complete, event_begins, event_shortens}
use Rattle.report_text.proofs.ReadEndings.{end_sound, end_complete}

-- each of a list, as readings say it
pub spelt_each : {X : Type 0} (P : X → Type 0) (xs : List X) → Each P xs → Spelt P xs
spelt_each P [] h = tt
spelt_each P (x ∷ xs) h = (h.0, spelt_each P xs h.1)

pub each_spelt : {X : Type 0} (P : X → Type 0) (xs : List X) → Spelt P xs → Each P xs
each_spelt P [] h = tt
each_spelt P (x ∷ xs) h = (h.0, each_spelt P xs h.1)

-- ---- children

ending_sound : (list : List ℕ) (c : Child) (rest : List ℕ) → ending_child_at list ≡ Some (c, rest) → IsChild c × (child_text c ++ rest ≡ list)
ending_sound list c rest h =
    let a = found (after (codes " ") list) _ (c, rest) h in
    let e = found (end_at a.first) _ (c, rest) a.then_is in
    let same = same_read (children.End e.first.0) c e.first.1 rest e.then_is in
    let k = end_sound a.first e.first.0 e.first.1 e.first_is in
    subst (λ (q : Child). IsChild q × (child_text q ++ rest ≡ list)) same.0
    (k.0, ap (λ (q : List ℕ). 32 ∷ q) (ap (λ (q : List ℕ). end_text e.first.0 ++ q) (sym same.1) ∙ k.1) ∙ after_sound (codes " ") list a.first a.first_is)

child_by : (list : List ℕ) (o : Option (Event × List ℕ)) (c : Child) (rest : List ℕ) → event_at list ≡ o → event_child o (ending_child_at list) ≡ Some (c, rest) → IsChild c × (child_text c ++ rest ≡ list)
child_by list None c rest e h = ending_sound list c rest h
child_by list (Some r) c rest e h =
    let same = same_read (children.Event r.0) c r.1 rest h in
    let k = event_sound list r.0 r.1 e in
    subst (λ (q : Child). IsChild q × (child_text q ++ rest ≡ list)) same.0 (k.0, ap (λ (q : List ℕ). event_text r.0 ++ q) (sym same.1) ∙ k.1)

pub child_sound : Sound child_at child_text IsChild
unfolding child_at
child_sound list c rest h = child_by list (event_at list) c rest refl h

-- no end is read as an event
end_apart : (e : End) (rest : List ℕ) → event_at (32 ∷ (end_text e ++ rest)) ≡ None
unfolding event_at letters end_text number_at is_digit
end_apart ends.Done rest = refl
end_apart (ends.Threw site what) rest = refl
end_apart (ends.Left site w turns ended) rest = refl
end_apart (ends.Cut site budget.Turns) rest = refl
end_apart (ends.Cut site budget.Events) rest = refl
end_apart (ends.Cut site budget.Nodes) rest = refl

abbrev pub Ended : List ℕ → Type 0
Ended rest = is_ended rest ≡ true

pub child_complete : Complete child_at child_text IsChild Ended
unfolding child_at
child_complete (children.Event event) rest s f = rw (event_complete event rest s (ended_apart rest f)) refl
child_complete (children.End end) rest s f = rw (end_apart end rest) (rw (end_complete end rest s f) refl)

pub child_begins : Begins child_text IsChild Ended
unfolding event_text is_digit
child_begins (children.Event (events.Pick site kind out ways)) rest s = refl
child_begins (children.Event (events.Value site text)) rest s = refl
child_begins (children.End end) rest s = refl

child_some : (c : Child) → 0 < length (child_text c)
unfolding event_text
child_some (children.Event (events.Pick site kind out ways)) = omega arith
child_some (children.Event (events.Value site text)) = omega arith
child_some (children.End end) = omega arith

pub child_shortens : Shortens child_at
child_shortens = shortens child_at child_text IsChild child_sound child_some

-- ---- queries

query_parts : (q : Query) (rest : List ℕ) → query_text q ++ rest ≡ flat_map event_text q.prefix ++ (codes " |" ++ (flat_map child_text q.children ++ rest))
unfolding query_text
query_parts q rest =
    append_assoc (flat_map event_text q.prefix ++ codes " |") (flat_map child_text q.children) rest
    ∙ append_assoc (flat_map event_text q.prefix) (codes " |") (flat_map child_text q.children ++ rest)

pub query_sound : Sound query_at query_text IsQuery
unfolding query_at
query_sound list q rest h =
    let p = many_sound event_at event_text IsEvent event_sound list in
    let prefix = (many event_at list).0 in
    let a = found (after (codes " |") (many event_at list).1) _ (q, rest) h in
    let c = many_sound child_at child_text IsChild child_sound a.first in
    let one : Query = record { prefix = prefix; children = (many child_at a.first).0 } in
    let same = same_read one q (many child_at a.first).1 rest a.then_is in
    subst (λ (k : Query). IsQuery k × (query_text k ++ rest ≡ list)) same.0 (
      record { prefix = each_spelt IsEvent prefix p.0; children = each_spelt IsChild (many child_at a.first).0 c.0 },
      query_parts one rest
          ∙ ap (λ (k : List ℕ). flat_map event_text prefix ++ (codes " |" ++ k)) (ap (λ (k : List ℕ). flat_map child_text (many child_at a.first).0 ++ k) (sym same.1) ∙ c.1)
          ∙ ap (λ (k : List ℕ). flat_map event_text prefix ++ k) (after_sound (codes " |") (many event_at list).1 a.first a.first_is)
          ∙ p.1,
    )

bar_apart : (rest : List ℕ) → Apart (32 ∷ rest)
unfolding is_digit
bar_apart rest = refl

no_event : (rest : List ℕ) → event_at (32 ∷ 124 ∷ rest) ≡ None
unfolding event_at letters
no_event rest = refl

-- where a line ends, no child goes on
lf_ended : (rest : List ℕ) → Ended (10 ∷ rest)
unfolding is_digit
lf_ended rest = refl

no_child : (rest : List ℕ) → child_at (10 ∷ rest) ≡ None
unfolding child_at event_at
no_child rest = refl

-- a line ends behind it
abbrev pub EndsLine : List ℕ → Type 0
EndsLine list = (rest : List ℕ) × (list ≡ 10 ∷ rest)

pub query_complete : Complete query_at query_text IsQuery EndsLine
unfolding query_at
query_complete q rest s (left, e) =
    let behind = flat_map child_text q.children ++ rest in
    let p = many_complete event_at event_text IsEvent Apart event_shortens event_complete event_begins q.prefix (32 ∷ 124 ∷ behind) (spelt_each IsEvent q.prefix s.prefix) (bar_apart (124 ∷ behind)) (no_event behind) in
    let c = many_complete child_at child_text IsChild Ended child_shortens child_complete child_begins q.children rest (spelt_each IsChild q.children s.children) (rw e (lf_ended left)) (rw e (no_child left)) in
    ap query_at (query_parts q rest)
    ∙ ap (λ (k : List Event × List ℕ). children_at k.0 k.1) p
    ∙ ap (λ (k : List Child × List ℕ). Some (record { prefix = q.prefix; children = k.0 }, k.1)) c
