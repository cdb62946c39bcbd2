-- A row that is walked at a view is walked as it is played.
use Rattle.std.proofs.Common.{◌≡◌, ◌-◌, ◌+◌, ℕ, Bool, true, false, nat_lt, List, [], ◌∷◌, ◌++◌, Option, Some, None, refl, sym, ap, subst, ◌∙◌, arith}
use Rattle.std.proofs.lemmas.List.{append_assoc}
use Rattle.path_core.specs.declared.path.Event.{Event}
use Rattle.path_core.specs.declared.path.Event.TheVariants as event
use Rattle.path_core.specs.declared.path.End.{End}
use Rattle.path_core.specs.declared.path.End.TheVariants.{Cut}
use Rattle.path_core.specs.declared.path.Budget.TheVariants as budget
use Rattle.term_table.specs.declared.term.TermId.{TermId}
use Rattle.term_table.specs.declared.moves.Move.{Move}
use Rattle.term_table.specs.declared.moves.Move.TheVariants as move
use Rattle.term_table.specs.declared.moves.Choice.{Choice}
use Rattle.term_table.specs.Views.{View, Valuation, passes, seen}
use Rattle.term_table.specs.Walking.{Passing, Walk, EndsRow}
use Rattle.js_meaning.specs.Values.{Place}
use Rattle.js_meaning.specs.Running.{Item, passed, made, Row, Completion as Ending, stops, Outcome, done, after, bind, stamp, stamped, event_limit, site_of_event, play}
use Rattle.js_meaning.specs.Path.{events_of}
use Rattle.js_state.specs.declared.held.RunMove.{RunMove}
use Rattle.js_state.specs.declared.held.RunMove.TheVariants as run
use Rattle.js_state.specs.Playing.{Follow, WalkRun, Track, Hands, stops_there, events_made, taken_up, guard_kept, events_after, cut_by}

-- ---- outcomes

pub after_twice : (is js : List Item) (r : Outcome) → after (is ++ js) r ≡ after is (after js r)
after_twice is js r = ap (λ ks. (ks, r.1)) (append_assoc is js r.0)

pub bind_after : (is : List Item) (r : Outcome) (go : Place → Ending → Outcome) → bind (after is r) go ≡ after is (bind r go)
bind_after is r go = after_twice is r.0 (go r.1.0 r.1.1)

pub events_both : (is js : List Item) → events_of (is ++ js) ≡ events_of is ++ events_of js
events_both [] js = refl
events_both (passed exit ∷ is) js = events_both is js
events_both (made e ∷ is) js = ap (λ es. e ∷ es) (events_both is js)

pub made_both : (ms ns : List RunMove) → events_made (ms ++ ns) ≡ events_made ms ++ events_made ns
made_both [] ns = refl
made_both (run.Guard t exit ∷ ms) ns = made_both ms ns
made_both (run.Failed t exit ∷ ms) ns = made_both ms ns
made_both (run.Event e choice ∷ ms) ns = ap (λ es. e ∷ es) (made_both ms ns)

-- ---- walks

passing_then : (b : Bool) (exit : End) (w : Outcome) (g go : Outcome → Type 0) → ((w : Outcome) → g w → go w) → Passing stops_there b exit w g → Passing stops_there b exit w go
passing_then true exit w g go k h = record { rest = h.rest; is = h.is; on = k h.rest h.on }
passing_then false exit w g go k h = h

pub walk_then : (v : Valuation) (ms ns : List RunMove) (w : Outcome) (g go : Outcome → Type 0) → ((w : Outcome) → g w → WalkRun v ns w go) → WalkRun v ms w g → WalkRun v (ms ++ ns) w go
walk_then v [] ns w g go k h = k w h
walk_then v (run.Guard t exit ∷ ms) ns w g go k h =
    passing_then (passes (Some v) t) exit w (λ w. WalkRun v ms w g) (λ w. WalkRun v (ms ++ ns) w go) (λ w. walk_then v ms ns w g go k) h
walk_then v (run.Failed t exit ∷ ms) ns w g go k h = h
walk_then v (run.Event e choice ∷ ms) ns w g go k h =
    record { rest = h.rest; is = h.is; on = λ same. walk_then v ms ns h.rest g go k (h.on same) }

follow_then : (ms ns : List RunMove) (w : Outcome) (g go : Outcome → Type 0) → ((w : Outcome) → g w → Follow ns w go) → Follow ms w g → Follow (ms ++ ns) w go
follow_then ms ns w g go k h =
    let l = k h.rest h.on in
    record {
      items = h.items ++ l.items;
      rest = l.rest;
      is = h.is ∙ ap (after h.items) l.is ∙ sym (after_twice h.items l.items l.rest);
      same = events_both h.items l.items ∙ ap (λ es. es ++ events_of l.items) h.same ∙ ap (λ es. events_made ms ++ es) l.same ∙ sym (made_both ms ns);
      on = l.on;
    }

-- further moves are tracked behind the first
pub track_then : (view : View) (ms ns : List RunMove) (w : Outcome) (g go : Outcome → Type 0) → ((w : Outcome) → g w → Track view ns w go) → Track view ms w g → Track view (ms ++ ns) w go
track_then None ms ns w g go k h = follow_then ms ns w g go k h
track_then (Some v) ms ns w g go k h = walk_then v ms ns w g go k h

-- no move at all
pub track_none : (view : View) (w : Outcome) (go : Outcome → Type 0) → go w → Track view [] w go
track_none None w go h = record { items = []; rest = w; is = refl; same = refl; on = h }
track_none (Some v) w go h = h

-- ---- rows that are played

-- where the moves of an answer have been taken up: the rest of the row, or the event limit
abbrev pub rest_or_cut : Option ℕ → Place → Row → Outcome
rest_or_cut None st r = play r st
rest_or_cut (Some site) st r = done st (stops (Cut site budget.Events))

abbrev pub behind : List Move → Place → Place
behind ms st = record st { events = events_after st.events ms }

play_made : (e : Event) (r : Row) (st : Place) → nat_lt st.events event_limit ≡ true → play (made e ∷ r.0, r.1) st ≡ after (made e ∷ []) (play r (record st { events = st.events + 1 }))
play_made e r st l = rw l refl

play_full : (e : Event) (r : Row) (st : Place) → nat_lt st.events event_limit ≡ false → play (made e ∷ r.0, r.1) st ≡ done st (stops (Cut (site_of_event e) budget.Events))
play_full e r st l = rw l refl

-- at the run's own view
pub record Own (keeps : Bool) (ms : List Move) (st : Place) (row : Row) (g : Row → Type 0) : Type 0 where
  pub items : List Item
  pub rest : Row
  pub is : play row st ≡ after items (rest_or_cut (cut_by st.events ms) (behind ms st) rest)
  pub same : (turns ended : ℕ) → events_of items ≡ events_made (taken_up keeps turns ended st.events ms)
  pub on : cut_by st.events ms ≡ None → g rest

guard_same : (keeps : Bool) (t : TermId) (exit : End) (ms : List RunMove) → events_made (guard_kept keeps t exit ms) ≡ events_made ms
guard_same true t exit ms = refl
guard_same false t exit ms = refl

own_event : (keeps : Bool) (e : Event) (choice : Choice) (ms : List Move) (st : Place) (row rest : Row) (g : Row → Type 0) (x : Bool) → nat_lt st.events event_limit ≡ x → row ≡ (made e ∷ rest.0, rest.1) →
    ((st : Place) → Own keeps ms st rest g) → Own keeps (move.Event e choice ∷ ms) st row g
own_event keeps e choice ms st row rest g true l h k =
    let o = k (record st { events = st.events + 1 }) in
    record {
      items = made e ∷ o.items;
      rest = o.rest;
      is = ap (λ r. play r st) h ∙ play_made e rest st l ∙ ap (after (made e ∷ [])) o.is ∙ rw l refl;
      same = λ turns ended. rw l (ap (λ es. e ∷ es) (o.same turns ended));
      on = λ n. o.on (rw l at n);
    }
own_event keeps e choice ms st row rest g false l h k =
    record {
      items = [];
      rest = rest;
      is = ap (λ r. play r st) h ∙ play_full e rest st l ∙ rw l refl;
      same = λ turns ended. rw l refl;
      on = λ n. let f : Some (site_of_event e) ≡ None = (rw l at n) in absurd (grind arith);
    }

pub own : (keeps : Bool) (ms : List Move) (st : Place) (row : Row) (g : Row → Type 0) → Walk EndsRow None ms row g → Own keeps ms st row g
own keeps [] st row g h = record { items = []; rest = row; is = refl; same = λ turns ended. refl; on = λ n. h }
own keeps (move.Guard t exit ∷ ms) st row g h =
    let o = own keeps ms st h.rest g h.on in
    record {
      items = passed (stamped st exit) ∷ o.items;
      rest = o.rest;
      is = ap (λ r. play r st) h.is ∙ ap (after (passed (stamped st exit) ∷ [])) o.is;
      same = λ turns ended. o.same turns ended ∙ sym (guard_same keeps t (stamp turns ended exit) (taken_up keeps turns ended st.events ms));
      on = o.on;
    }
own keeps (move.Event e choice ∷ ms) st row g h =
    own_event keeps e choice ms st row h.rest g (nat_lt st.events event_limit) refl h.is (λ st. own keeps ms st h.rest g (h.on refl))

-- at another input, of a run that keeps all its moves

seen_site : (v : Valuation) (e : Event) (choice : Choice) → site_of_event (seen (Some v) e choice) ≡ site_of_event e
seen_site v (event.Pick site kind out ways) choice = refl
seen_site v (event.Value site t) choice = refl

passing_play : (cont : Place → Ending → Outcome) → Hands cont → (st : Place) (b : Bool) (exit : End) (row : Row) (g : Row → Type 0) (go : Outcome → Type 0) → ((r : Row) → g r → go (bind (play r st) cont)) →
    Passing EndsRow b exit row g → Passing stops_there b (stamped st exit) (bind (play row st) cont) go
passing_play cont so st true exit row g go k h =
    record {
      rest = bind (play h.rest st) cont;
      is = ap (λ r. bind (play r st) cont) h.is;
      on = k h.rest h.on;
    }
passing_play cont so st false exit (is, a) g go k h =
    let ended : bind (play (is, a) st) cont ≡ done st (stops (stamped st exit)) = rw (h.0, h.1) (so st (stamped st exit)) in
    (ap (λ r. r.0) ended, ap (λ r. r.1.1) ended)

walked_event : (v : Valuation) (turns ended : ℕ) (e : Event) (choice : Choice) (ms : List Move) (st : Place) (row : Row) (g : Row → Type 0) (cont : Place → Ending → Outcome) (go : Outcome → Type 0) (x : Bool) → nat_lt st.events event_limit ≡ x →
    ((rest : Row) → (cut_by st.events (move.Event e choice ∷ ms) ≡ None → g rest) → go (bind (rest_or_cut (cut_by st.events (move.Event e choice ∷ ms)) (behind (move.Event e choice ∷ ms) st) rest) cont)) →
    ((r : Row) → ((rest : Row) → (cut_by (st.events + 1) ms ≡ None → g rest) → go (bind (rest_or_cut (cut_by (st.events + 1) ms) (behind ms (record st { events = st.events + 1 })) rest) cont)) → Walk EndsRow (Some v) ms r g → WalkRun v (taken_up true turns ended (st.events + 1) ms) (bind (play r (record st { events = st.events + 1 })) cont) go) →
    Walk EndsRow (Some v) (move.Event e choice ∷ ms) row g → WalkRun v (taken_up true turns ended st.events (move.Event e choice ∷ ms)) (bind (play row st) cont) go
walked_event v turns ended e choice ms st row g cont go true l final k h =
    rw l (record {
      rest = bind (play h.rest (record st { events = st.events + 1 })) cont;
      is = ap (λ r. bind (play r st) cont) h.is ∙ ap (λ o. bind o cont) (play_made (seen (Some v) e choice) h.rest st l);
      on = λ same. k h.rest (λ rest n. rw l at (final rest (λ m. n (rw l at m)))) (h.on same);
    })
walked_event v turns ended e choice ms st row g cont go false l final k h =
    let whole : bind (play row st) cont ≡ bind (done st (stops (Cut (site_of_event e) budget.Events))) cont =
    ap (λ r. bind (play r st) cont) h.is ∙ ap (λ o. bind o cont) (play_full (seen (Some v) e choice) h.rest st l) ∙ ap (λ n. bind (done st (stops (Cut n budget.Events))) cont) (seen_site v e choice) in
    rw l (subst go (sym whole) (rw l at (final h.rest (λ n. let f : Some (site_of_event e) ≡ None = (rw l at n) in absurd (grind arith)))))

pub walked : (v : Valuation) (turns ended : ℕ) (ms : List Move) (st : Place) (row : Row) (g : Row → Type 0) (cont : Place → Ending → Outcome) → Hands cont → (go : Outcome → Type 0) →
    st.run.turns - st.turns ≡ turns → st.ended ≡ ended →
    ((rest : Row) → (cut_by st.events ms ≡ None → g rest) → go (bind (rest_or_cut (cut_by st.events ms) (behind ms st) rest) cont)) →
    Walk EndsRow (Some v) ms row g → WalkRun v (taken_up true turns ended st.events ms) (bind (play row st) cont) go
walked v turns ended [] st row g cont so go a b final h = final row (λ n. h)
walked v turns ended (move.Guard t exit ∷ ms) st row g cont so go a b final h =
    let e : stamped st exit ≡ stamp turns ended exit = rw (a, b) refl in
    subst (λ x. Passing stops_there (passes (Some v) t) x (bind (play row st) cont) (λ w. WalkRun v (taken_up true turns ended st.events ms) w go)) e
    (passing_play cont so st (passes (Some v) t) exit row (λ r. Walk EndsRow (Some v) ms r g) (λ w. WalkRun v (taken_up true turns ended st.events ms) w go) (λ r. walked v turns ended ms st r g cont so go a b final) h)
walked v turns ended (move.Event e choice ∷ ms) st row g cont so go a b final h =
    walked_event v turns ended e choice ms st row g cont go (nat_lt st.events event_limit) refl final
    (λ r f w. walked v turns ended ms (record st { events = st.events + 1 }) r g cont so go a b f w) h

-- what is known at the end of a walk may be said otherwise
walk_map : (v : Valuation) (ms : List RunMove) (w : Outcome) (g go : Outcome → Type 0) → ((w : Outcome) → g w → go w) → WalkRun v ms w g → WalkRun v ms w go
walk_map v [] w g go k h = k w h
walk_map v (run.Guard t exit ∷ ms) w g go k h =
    passing_then (passes (Some v) t) exit w (λ w. WalkRun v ms w g) (λ w. WalkRun v ms w go) (λ w. walk_map v ms w g go k) h
walk_map v (run.Failed t exit ∷ ms) w g go k h = h
walk_map v (run.Event e choice ∷ ms) w g go k h = record { rest = h.rest; is = h.is; on = λ same. walk_map v ms h.rest g go k (h.on same) }

pub track_map : (view : View) (ms : List RunMove) (w : Outcome) (g go : Outcome → Type 0) → ((w : Outcome) → g w → go w) → Track view ms w g → Track view ms w go
track_map None ms w g go k h = record { items = h.items; rest = h.rest; is = h.is; same = h.same; on = k h.rest h.on }
track_map (Some v) ms w g go k h = walk_map v ms w g go k h
