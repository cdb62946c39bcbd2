-- Events that are read are those that are written.
use Rattle.std.proofs.Common.{◌≡◌, ℕ, ◌^◌, ◌<◌, List, ◌∷◌, ◌++◌, length, Option, Some, None, refl, sym, ap, subst, ◌∙◌, arith, append_assoc}
use Rattle.std.specs.Prelude.{codes, decimal}
use Rattle.js_units.specs.Characters.{is_digit}
use Rattle.js_units.specs.Quoted.{quoted}
use Rattle.js_units.specs.Unquoted.{quoted_at}
use Rattle.js_units.proofs.Reading.{Sound, Complete, Begins, Shortens, shortens, same_read}
use Rattle.js_units.proofs.ReadBack.{quoted_sound, quoted_complete}
use Rattle.path_core.specs.declared.path.Event.{Event}
use Rattle.path_core.specs.declared.path.Event.TheVariants as events
use Rattle.path_core.specs.declared.path.PickKind.{PickKind}
use Rattle.path_core.specs.declared.path.PickKind.TheVariants as kinds
use Rattle.proof_text.specs.Lines.{after}
use Rattle.proof_text.proofs.Parts.{after_sound, found}
use Rattle.report_text.specs.Lines.{ways_text, event_text}
use Rattle.report_text.specs.Parts.{one_of, short_at}
use Rattle.report_text.specs.Events.{HasWays, IsEvent, kind_text, letters, written_ways, ways_at, pick_at, text_at, outcome_at, place_at, event_at}
use Rattle.report_text.proofs.ReadParts.{Apart, IsShort, IsTable, word_sound, short_sound, short_complete}

-- ---- letters

letters_spell : IsTable kind_text letters
unfolding letters
letters_spell = (refl, (refl, (refl, (refl, (refl, (refl, (refl, (refl, (refl, tt)))))))))

letter_read : (kind : Option PickKind) (rest : List ℕ) → one_of letters (kind_text kind ++ rest) ≡ Some (kind, rest)
unfolding letters
letter_read None rest = refl
letter_read (Some kinds.Branch) rest = refl
letter_read (Some kinds.Place) rest = refl
letter_read (Some kinds.Number) rest = refl
letter_read (Some kinds.Match) rest = refl
letter_read (Some kinds.Group) rest = refl
letter_read (Some kinds.Found) rest = refl
letter_read (Some kinds.Key) rest = refl
letter_read (Some kinds.Clamp) rest = refl

-- ---- the place

abbrev pub Place : Type 0
Place = Option PickKind × ℕ

abbrev pub place_text : Place → List ℕ
place_text p = codes " " ++ kind_text p.0 ++ decimal p.1 ++ codes "="

place_parts : (p : Place) (rest : List ℕ) → place_text p ++ rest ≡ codes " " ++ (kind_text p.0 ++ (decimal p.1 ++ (codes "=" ++ rest)))
place_parts p rest =
    append_assoc (codes " " ++ kind_text p.0 ++ decimal p.1) (codes "=") rest
    ∙ append_assoc (codes " " ++ kind_text p.0) (decimal p.1) (codes "=" ++ rest)
    ∙ append_assoc (codes " ") (kind_text p.0) (decimal p.1 ++ (codes "=" ++ rest))

place_sound : Sound place_at place_text (λ p. IsShort p.1)
place_sound list p rest e =
    let a = found (after (codes " ") list) _ (p, rest) e in
    let k = found (one_of letters a.first) _ (p, rest) a.then_is in
    let s = found (short_at k.first.1) _ (p, rest) k.then_is in
    let b = found (after (codes "=") s.first.1) _ (p, rest) s.then_is in
    let one : Place = (k.first.0, s.first.0) in
    let same = same_read one p b.first rest b.then_is in
    let ss = short_sound k.first.1 s.first.0 s.first.1 s.first_is in (
      subst (λ (q : Place). IsShort q.1) same.0 ss.0,
      ap (λ (q : Place). place_text q ++ rest) (sym same.0)
          ∙ place_parts one rest
          ∙ ap (λ (q : List ℕ). codes " " ++ (kind_text k.first.0 ++ (decimal s.first.0 ++ q))) (ap (λ (q : List ℕ). codes "=" ++ q) (sym same.1) ∙ after_sound (codes "=") s.first.1 b.first b.first_is)
          ∙ ap (λ (q : List ℕ). codes " " ++ (kind_text k.first.0 ++ q)) ss.1
          ∙ ap (λ (q : List ℕ). codes " " ++ q) (word_sound kind_text letters letters_spell a.first k.first.0 k.first.1 k.first_is)
          ∙ after_sound (codes " ") list a.first a.first_is,
    )

equals_apart : (rest : List ℕ) → Apart (61 ∷ rest)
unfolding is_digit
equals_apart rest = refl

place_complete : Complete place_at place_text (λ p. IsShort p.1) (λ rest. Unit {0})
place_complete p rest s f =
    ap place_at (place_parts p rest)
    ∙ rw (letter_read p.0 (decimal p.1 ++ (codes "=" ++ rest)))
    (rw (short_complete p.1 (codes "=" ++ rest) s (equals_apart rest)) refl)

-- ---- outcomes

-- what stands behind a kind's outcome
abbrev pub Ways : PickKind → Type 0
Ways kind = ℕ

written_sound : (list : List ℕ) (ways : ℕ) (rest : List ℕ) → written_ways list ≡ Some (ways, rest) → (ways < 2 ^ 32) × (codes "/" ++ decimal ways ++ rest ≡ list)
written_sound list ways rest e =
    let a = found (after (codes "/") list) _ (ways, rest) e in
    let s = short_sound a.first ways rest a.then_is in
    (s.0, ap (λ (q : List ℕ). codes "/" ++ q) s.1 ∙ after_sound (codes "/") list a.first a.first_is)

none_written : (list : List ℕ) (ways : ℕ) (rest : List ℕ) → ◌≡◌ {A = Option (ℕ × List ℕ)} (Some (2, list)) (Some (ways, rest)) → (ways ≡ 2) × (rest ≡ list)
none_written list ways rest e = let same = same_read 2 ways list rest e in (sym same.0, sym same.1)

ways_sound : (kind : PickKind) → Sound (ways_at kind) (ways_text kind) (HasWays kind)
ways_sound kinds.Key list ways rest e = written_sound list ways rest e
ways_sound kinds.Clamp list ways rest e = written_sound list ways rest e
ways_sound kinds.Branch list ways rest e = none_written list ways rest e
ways_sound kinds.Place list ways rest e = none_written list ways rest e
ways_sound kinds.Number list ways rest e = none_written list ways rest e
ways_sound kinds.Match list ways rest e = none_written list ways rest e
ways_sound kinds.Group list ways rest e = none_written list ways rest e
ways_sound kinds.Found list ways rest e = none_written list ways rest e

two_ways : (ways : ℕ) (rest : List ℕ) → ways ≡ 2 → ◌≡◌ {A = Option (ℕ × List ℕ)} (Some (2, rest)) (Some (ways, rest))
two_ways ways rest s = ap (λ (q : ℕ). Some (q, rest)) (sym s)

ways_complete : (kind : PickKind) → Complete (ways_at kind) (ways_text kind) (HasWays kind) Apart
ways_complete kinds.Key ways rest s a = short_complete ways rest s a
ways_complete kinds.Clamp ways rest s a = short_complete ways rest s a
ways_complete kinds.Branch ways rest s a = two_ways ways rest s
ways_complete kinds.Place ways rest s a = two_ways ways rest s
ways_complete kinds.Number ways rest s a = two_ways ways rest s
ways_complete kinds.Match ways rest s a = two_ways ways rest s
ways_complete kinds.Group ways rest s a = two_ways ways rest s
ways_complete kinds.Found ways rest s a = two_ways ways rest s

slash_apart : (rest : List ℕ) → Apart (47 ∷ rest)
unfolding is_digit
slash_apart rest = refl

-- an outcome's digits end at its ways, or behind them
ways_apart : (kind : PickKind) (ways : ℕ) (rest : List ℕ) → Apart rest → Apart (ways_text kind ways ++ rest)
ways_apart kinds.Key ways rest a = slash_apart (decimal ways ++ rest)
ways_apart kinds.Clamp ways rest a = slash_apart (decimal ways ++ rest)
ways_apart kinds.Branch ways rest a = a
ways_apart kinds.Place ways rest a = a
ways_apart kinds.Number ways rest a = a
ways_apart kinds.Match ways rest a = a
ways_apart kinds.Group ways rest a = a
ways_apart kinds.Found ways rest a = a

-- what is behind an event's `=`
abbrev pub outcome_text : Event → List ℕ
outcome_text (events.Pick site kind out ways) = decimal out ++ ways_text kind ways
outcome_text (events.Value site text) = quoted text

abbrev pub place_of : Event → Place
place_of (events.Pick site kind out ways) = (Some kind, site)
place_of (events.Value site text) = (None, site)

event_parts : (e : Event) (rest : List ℕ) → event_text e ++ rest ≡ place_text (place_of e) ++ (outcome_text e ++ rest)
unfolding event_text
event_parts (events.Pick site kind out ways) rest =
    append_assoc (place_text (Some kind, site) ++ decimal out) (ways_text kind ways) rest
    ∙ append_assoc (place_text (Some kind, site)) (decimal out) (ways_text kind ways ++ rest)
    ∙ ap (λ (q : List ℕ). place_text (Some kind, site) ++ q) (sym (append_assoc (decimal out) (ways_text kind ways) rest))
event_parts (events.Value site text) rest = append_assoc (place_text (None, site)) (quoted text) rest

record IsOutcome (p : Place) (list : List ℕ) (e : Event) (rest : List ℕ) : Type 0 where
  place : place_of e ≡ p
  spelt : IsEvent e
  text : outcome_text e ++ rest ≡ list

pick_sound : (site : ℕ) (kind : PickKind) (list : List ℕ) (e : Event) (rest : List ℕ) → IsShort site → pick_at site kind list ≡ Some (e, rest) → IsOutcome (Some kind, site) list e rest
pick_sound site kind list e rest short h =
    let o = found (short_at list) _ (e, rest) h in
    let w = found (ways_at kind o.first.1) _ (e, rest) o.then_is in
    let same = same_read (events.Pick site kind o.first.0 w.first.0) e w.first.1 rest w.then_is in
    let os = short_sound list o.first.0 o.first.1 o.first_is in
    let ws = ways_sound kind o.first.1 w.first.0 w.first.1 w.first_is in
    subst (λ (q : Event). IsOutcome (Some kind, site) list q rest) same.0
    (record {
      place = refl;
      spelt = record { site_short = short; out_short = os.0; ways_kept = ws.0 };
      text = append_assoc (decimal o.first.0) (ways_text kind w.first.0) rest ∙ ap (λ (q : List ℕ). decimal o.first.0 ++ (ways_text kind w.first.0 ++ q)) (sym same.1) ∙ ap (λ (q : List ℕ). decimal o.first.0 ++ q) ws.1 ∙ os.1;
    })

text_sound : (site : ℕ) (list : List ℕ) (e : Event) (rest : List ℕ) → IsShort site → text_at site list ≡ Some (e, rest) → IsOutcome (None, site) list e rest
text_sound site list e rest short h =
    let t = found (quoted_at list) _ (e, rest) h in
    let same = same_read (events.Value site t.first.0) e t.first.1 rest t.then_is in
    let ts = quoted_sound list t.first.0 t.first.1 t.first_is in
    subst (λ (q : Event). IsOutcome (None, site) list q rest) same.0
    (record { place = refl; spelt = (short, ts.0); text = ap (λ (q : List ℕ). quoted t.first.0 ++ q) (sym same.1) ∙ ts.1 })

outcome_sound : (p : Place) (list : List ℕ) (e : Event) (rest : List ℕ) → IsShort p.1 → outcome_at p.0 p.1 list ≡ Some (e, rest) → IsOutcome p list e rest
outcome_sound (Some kind, site) list e rest short h = pick_sound site kind list e rest short h
outcome_sound (None, site) list e rest short h = text_sound site list e rest short h

pub event_sound : Sound event_at event_text IsEvent
unfolding event_at
event_sound list e rest h =
    let p = found (place_at list) _ (e, rest) h in
    let ps = place_sound list p.first.0 p.first.1 p.first_is in
    let o = outcome_sound p.first.0 p.first.1 e rest ps.0 p.then_is in
    (o.spelt, event_parts e rest ∙ ap (λ (q : Place). place_text q ++ (outcome_text e ++ rest)) o.place ∙ ap (λ (q : List ℕ). place_text p.first.0 ++ q) o.text ∙ ps.1)

place_short : (e : Event) → IsEvent e → IsShort (place_of e).1
place_short (events.Pick site kind out ways) s = s.site_short
place_short (events.Value site text) s = s.0

outcome_complete : (e : Event) (rest : List ℕ) → IsEvent e → Apart rest → outcome_at (place_of e).0 (place_of e).1 (outcome_text e ++ rest) ≡ Some (e, rest)
outcome_complete (events.Pick site kind out ways) rest s a =
    ap (λ (q : List ℕ). pick_at site kind q) (append_assoc (decimal out) (ways_text kind ways) rest)
    ∙ rw (short_complete out (ways_text kind ways ++ rest) s.out_short (ways_apart kind ways rest a))
    (rw (ways_complete kind ways rest s.ways_kept a) refl)
outcome_complete (events.Value site text) rest s a = rw (quoted_complete text rest s.1) refl

pub event_complete : Complete event_at event_text IsEvent Apart
unfolding event_at
event_complete e rest s a =
    ap event_at (event_parts e rest)
    ∙ rw (place_complete (place_of e) (outcome_text e ++ rest) (place_short e s) tt)
    (outcome_complete e rest s a)

event_some : (e : Event) → 0 < length (event_text e)
unfolding event_text
event_some (events.Pick site kind out ways) = omega arith
event_some (events.Value site text) = omega arith

pub event_begins : Begins event_text IsEvent Apart
unfolding event_text is_digit
event_begins (events.Pick site kind out ways) rest s = refl
event_begins (events.Value site text) rest s = refl

pub event_shortens : Shortens event_at
event_shortens = shortens event_at event_text IsEvent event_sound event_some
