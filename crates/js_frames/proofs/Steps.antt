-- Steps of the machine, over what a stack stands for, at every view.
use Rattle.std.proofs.Common.{◌≡◌, ℕ, zero, suc, ◌≤◌, List, [], ◌∷◌, ◌++◌, Option, Some, None, refl, ap, ◌∙◌, sym, subst, arith, Bool, true, false, if◌then◌else◌}
use Rattle.std.specs.Option.{option_map}
use Rattle.std.proofs.lemmas.List.{append-nil, append_assoc}
use Rattle.path_core.specs.declared.path.End.{End}
use Rattle.js_ast.specs.declared.parts.Catch.{Catch}
use Rattle.js_ast.specs.declared.statement.Stmt.{Stmt}
use Rattle.term_table.specs.Growing.{Grown}
use Rattle.term_table.specs.Views.{View}
use Rattle.term_table.proofs.Views.{agrees_before as earlier}
use Rattle.js_meaning.specs.Values.{Scope, Place}
use Rattle.js_meaning.specs.Running.{Completion as Ending, stops, Outcome, done, bind}
use Rattle.js_meaning.specs.Builtins.{Calls}
use Rattle.js_meaning.specs.Parts.{Meaning}
use Rattle.js_meaning.specs.Meaning.{caught}
use Rattle.js_state.specs.declared.completion.Completion.{Completion}
use Rattle.js_state.specs.Held.{Contents}
use Rattle.js_state.specs.Seen.{place_of, completion_at, Agreeing}
use Rattle.js_state.specs.Playing.{Track, Hands, Does, Still, Quiet}
use Rattle.js_state.proofs.Shown.{bind_after, track_then, track_none, track_map}
use Rattle.js_frames.specs.declared.frames.Frame.{Frame}
use Rattle.js_frames.specs.declared.frames.Frame.TheVariants as frame
use Rattle.js_frames.specs.declared.frames.Work.{Work}
use Rattle.js_frames.specs.declared.frames.Work.TheVariants.{Give}
use Rattle.js_frames.specs.Machine.{Fuel, calling, catch_of, Covers, CoverAll, Means, Goes, Leads, thread, frame_of, resume}

pub covers_less : {t u : ℕ} {w : Fuel} → u ≤ t → Covers t w → Covers u w
covers_less l k = record { calls = omega (arith, l, k.calls); loops = omega (arith, l, k.loops) }

pub all_less : (t u : ℕ) (ws : List Fuel) (fs : List Frame) → u ≤ t → CoverAll t ws fs → CoverAll u ws fs
all_less t u [] [] l k = tt
all_less t u [] (f ∷ fs) l k = k
all_less t u (w ∷ ws) [] l k = k
all_less t u (w ∷ ws) (f ∷ fs) l k = (covers_less l k.0, all_less t u ws fs l k.1)

-- ---- a stack goes on behind a part

bind_bind : (r : Outcome) (f g : Place → Ending → Outcome) → bind (bind r f) g ≡ bind r (λ st e. bind (f st e) g)
bind_bind r f g = bind_after r.0 (f r.1.0 r.1.1) g

pub resume_bind : (view : View) (ws : List Fuel) (fs : List Frame) (r : Outcome) (go : Place → Ending → Outcome) → resume view ws fs (bind r go) ≡ bind r (λ st e. resume view ws fs (go st e))
resume_bind view ws [] r go = refl
resume_bind view [] (f ∷ fs) r go = refl
resume_bind view (w ∷ ws) (f ∷ fs) r go =
    ap (resume view ws fs) (bind_bind r go (frame_of view w f)) ∙ resume_bind view ws fs r (λ st e. bind (go st e) (frame_of view w f))

catch_stops : (o : Option (Catch (List (Stmt × Meaning)))) (calls : Calls) (k : ℕ) (scope : Scope) (st : Place) (e : End) → caught o calls k scope st (stops e) ≡ done st (stops e)
catch_stops None calls k scope st e = refl
catch_stops (Some x) calls k scope st e = refl

finish_stops : (view : View) (w : Fuel) (f : Frame) (st : Place) (e : End) → frame_of view w f st (stops e) ≡ done st (stops e)
finish_stops view w (frame.Awaits p) st e = refl
finish_stops view w (frame.Chain ss scope) st e = refl
finish_stops view w (frame.TargetBase access g scope) st e = refl
finish_stops view w frame.Called st e = refl
finish_stops view w (frame.WhileBody l) st e = refl
finish_stops view w (frame.DoBody l) st e = refl
finish_stops view w (frame.ForBody l scope) st e = refl
finish_stops view w (frame.OfBody l next) st e = refl
finish_stops view w (frame.Rest ss scope) st e = refl
finish_stops view w (frame.ForDeclared l scope) st e = refl
finish_stops view w (frame.Catching catch scope) st e = catch_stops (option_map catch_of catch.now) (calling w) w.loops _ st e
finish_stops view w (frame.Finishing finally scope) st e = refl
finish_stops view w (frame.Kept completion) st e = refl

-- a stack hands a stop on
pub resume_stops : (view : View) (ws : List Fuel) (fs : List Frame) (st : Place) (e : End) → resume view ws fs (done st (stops e)) ≡ done st (stops e)
resume_stops view ws [] st e = refl
resume_stops view [] (f ∷ fs) st e = refl
resume_stops view (w ∷ ws) (f ∷ fs) st e =
    ap (resume view ws fs) (finish_stops view w f st e) ∙ resume_stops view ws fs st e

-- ---- steps

pub leads : {old new : Contents} {fs gs : List Frame} {go : View → Contents → Fuel → Outcome} {next : Work} → Goes old fs (λ view. go view old) new gs (λ view. thread view next new) → Leads old fs go new gs next
leads g = record { to = g }

agrees_before : (old new : Contents) (view : View) → Agreeing view new → new.keeps ≡ old.keeps → Grown old.table new.table → Agreeing view old
agrees_before old new None a k g = tt
agrees_before old new (Some v) a k g = (sym k ∙ a.0, earlier (Some v) old.table new.table g a.1)

-- one step behind another
pub both : {a b d : Contents} {fs gs hs : List Frame} {go next last : View → Fuel → Outcome} → Goes a fs go b gs next → Goes b gs next d hs last → Goes a fs go d hs last
both {a} {b} {d} {fs} {gs} {hs} {go} {next} {last} l m =
    record {
      added = l.added ++ m.added;
      moves = m.moves ∙ ap (λ xs. xs ++ m.added) l.moves ∙ append_assoc a.moves l.added m.added;
      grown = (l.grown.0 ++ m.grown.0, m.grown.1 ∙ ap (λ xs. xs ++ m.grown.0) l.grown.1 ∙ append_assoc a.table l.grown.0 m.grown.0);
      keeps = m.keeps ∙ l.keeps;
      on = λ view u whole x.
          track_then view l.added m.added whole (Means view b.turns gs (next view)) (Means view d.turns hs (last view)) (m.on view u)
          (l.on view (agrees_before b d view u m.keeps m.grown) whole x);
    }

pub still : {st : Contents} → Quiet st st
still = record { turns = omega arith; moves = refl; table = refl; keeps = refl; spends = refl }

pub quiet_of : {old new : Contents} → Still old new → Quiet old new
quiet_of s = record { turns = omega (arith, s.turns); moves = s.moves; table = s.table; keeps = s.keeps; spends = s.spends }

pub quiet_both : {a b d : Contents} → Quiet a b → Quiet b d → Quiet a d
quiet_both q r = record { turns = omega (arith, q.turns, r.turns); moves = r.moves ∙ q.moves; table = r.table ∙ q.table; keeps = r.keeps ∙ q.keeps; spends = r.spends ∙ q.spends }

pub still_both : {a b d : Contents} → Still a b → Still b d → Still a d
still_both q r = record { turns = r.turns ∙ q.turns; nodes = r.nodes ∙ q.nodes; moves = r.moves ∙ q.moves; table = r.table ∙ q.table; keeps = r.keeps ∙ q.keeps; spends = r.spends ∙ q.spends }

-- no move, no term: the whole stays
pub quietly : {old new : Contents} {fs gs : List Frame} {go next : View → Fuel → Outcome} → Quiet old new → ((view : View) (whole : Outcome) → Means view old.turns fs (go view) whole → Means view new.turns gs (next view) whole) → Goes old fs go new gs next
quietly {old} {new} {fs} {gs} {go} {next} q h =
    record {
      added = [];
      moves = q.moves ∙ sym (append-nil old.moves);
      grown = ([], q.table ∙ sym (append-nil old.table));
      keeps = q.keeps;
      on = λ view u whole m. track_none view whole (Means view new.turns gs (next view)) (h view whole m);
    }

-- the thread goes on, the stack as it was
pub stays : {old new : Contents} {fs gs : List Frame} {go next : View → Fuel → Outcome} → Quiet old new → gs ≡ fs → ((view : View) (w : Fuel) → go view w ≡ next view w) → Goes old fs go new gs next
stays {old} {new} {fs} {gs} {go} {next} q e h =
    quietly q (λ view whole m.
    let there : Means view new.turns fs (next view) whole =
    record { fuel = m.fuel; fuels = m.fuels; covers = covers_less q.turns m.covers; all = all_less old.turns new.turns m.fuels fs q.turns m.all; same = ap (resume view m.fuels fs) (sym (h view m.fuel)) ∙ m.same } in
    subst (λ gs. Means view new.turns gs (next view) whole) (sym e) there)

-- a part is begun, behind which a frame waits
pub pushes : {old new : Contents} {fs gs : List Frame} {go next : View → Fuel → Outcome} (f : Frame) → Quiet old new → gs ≡ f ∷ fs → ((view : View) (w : Fuel) → go view w ≡ bind (next view w) (frame_of view w f)) → Goes old fs go new gs next
pushes {old} {new} {fs} {gs} {go} {next} f q e h =
    quietly q (λ view whole m.
    let there : Means view new.turns (f ∷ fs) (next view) whole =
    record { fuel = m.fuel; fuels = m.fuel ∷ m.fuels; covers = covers_less q.turns m.covers; all = (covers_less q.turns m.covers, all_less old.turns new.turns m.fuels fs q.turns m.all); same = ap (resume view m.fuels fs) (sym (h view m.fuel)) ∙ m.same } in
    subst (λ gs. Means view new.turns gs (next view) whole) (sym e) there)

-- a row was taken up, before what follows it
pub plays : {old new : Contents} {fs : List Frame} {part : View → Outcome} {completion : Completion} (cont : View → Fuel → Place → Ending → Outcome) → Does old new part completion → new.turns ≤ old.turns → ((view : View) (w : Fuel) → Hands (cont view w)) →
    Goes old fs (λ view w. bind (part view) (cont view w)) new fs (λ view w. cont view w (place_of view new) (completion_at view completion))
plays {old} {new} {fs} {part} {completion} cont d t so =
    record {
      added = d.added;
      moves = d.moves;
      grown = d.grown;
      keeps = d.keeps;
      on = λ view u whole m.
          let K : Place → Ending → Outcome = λ st e. resume view m.fuels fs (cont view m.fuel st e) in
          let hands : Hands K = λ st end. ap (resume view m.fuels fs) (so view m.fuel st end) ∙ resume_stops view m.fuels fs st end in
          let same : bind (part view) K ≡ whole = sym (resume_bind view m.fuels fs (part view) (cont view m.fuel)) ∙ m.same in
          subst (λ o. Track view d.added o (Means view new.turns fs (λ w. cont view w (place_of view new) (completion_at view completion)))) same
          (track_map view d.added (bind (part view) K) (λ o. o ≡ K (place_of view new) (completion_at view completion)) (Means view new.turns fs (λ w. cont view w (place_of view new) (completion_at view completion)))
          (λ o e. record { fuel = m.fuel; fuels = m.fuels; covers = covers_less t m.covers; all = all_less old.turns new.turns m.fuels fs t m.all; same = sym e })
          (d.on view u K hands));
    }

-- ---- turns

-- a turn is taken by a loop
pub rounds : {old new : Contents} {fs gs : List Frame} {go next : View → Fuel → Outcome} (f : Frame) → Quiet old new → suc new.turns ≡ old.turns → gs ≡ f ∷ fs → ((view : View) (n k : ℕ) → go view (record { calls = n; loops = suc k }) ≡ bind (next view (record { calls = n; loops = suc k })) (frame_of view (record { calls = n; loops = k }) f)) → Goes old fs go new gs next
rounds {old} {new} {fs} {gs} {go} {next} f q l e h =
    quietly q (λ view whole m.
    let there : Means view new.turns (f ∷ fs) (next view) whole = one_less view m.fuel.calls m.fuel.loops m.fuels m.covers m.all m.same in
    subst (λ gs. Means view new.turns gs (next view) whole) (sym e) there)
  where
    one_less : {whole : Outcome} (view : View) (n k : ℕ) (ws : List Fuel) → Covers old.turns (record { calls = n; loops = k }) → CoverAll old.turns ws fs → resume view ws fs (go view (record { calls = n; loops = k })) ≡ whole → Means view new.turns (f ∷ fs) (next view) whole
    one_less view n zero ws cv al s = absurd (omega (arith, cv.loops, l))
    one_less view n (suc k) ws cv al s =
        record {
          fuel = record { calls = n; loops = suc k };
          fuels = record { calls = n; loops = k } ∷ ws;
          covers = record { calls = omega (arith, cv.calls, l); loops = omega (arith, cv.loops, l) };
          all = (record { calls = omega (arith, cv.calls, l); loops = omega (arith, cv.loops, l) }, all_less old.turns new.turns ws fs (omega (arith, l)) al);
          same = ap (resume view ws fs) (sym (h view n k)) ∙ s;
        }

-- a turn is taken by a call
pub calls : {old new : Contents} {fs gs : List Frame} {go next : View → Fuel → Outcome} (f : Frame) → Quiet old new → suc new.turns ≡ old.turns → gs ≡ f ∷ fs → ((view : View) (n k : ℕ) → go view (record { calls = suc n; loops = k }) ≡ bind (next view (record { calls = n; loops = suc n })) (frame_of view (record { calls = suc n; loops = k }) f)) → Goes old fs go new gs next
calls {old} {new} {fs} {gs} {go} {next} f q l e h =
    quietly q (λ view whole m.
    let there : Means view new.turns (f ∷ fs) (next view) whole = one_less view m.fuel.calls m.fuel.loops m.fuels m.covers m.all m.same in
    subst (λ gs. Means view new.turns gs (next view) whole) (sym e) there)
  where
    one_less : {whole : Outcome} (view : View) (n k : ℕ) (ws : List Fuel) → Covers old.turns (record { calls = n; loops = k }) → CoverAll old.turns ws fs → resume view ws fs (go view (record { calls = n; loops = k })) ≡ whole → Means view new.turns (f ∷ fs) (next view) whole
    one_less view zero k ws cv al s = absurd (omega (arith, cv.calls, l))
    one_less view (suc n) k ws cv al s =
        record {
          fuel = record { calls = n; loops = suc n };
          fuels = record { calls = suc n; loops = k } ∷ ws;
          covers = record { calls = omega (arith, cv.calls, l); loops = omega (arith, cv.calls, l) };
          all = (record { calls = omega (arith, cv.calls, l); loops = omega (arith, cv.loops, l) }, all_less old.turns new.turns ws fs (omega (arith, l)) al);
          same = ap (resume view ws fs) (sym (h view n k)) ∙ s;
        }

-- ---- the stack

-- a frame is taken off the stack
pub pops : {st : Contents} {fs gs : List Frame} {f : Frame} (completion : Completion) → fs ≡ f ∷ gs → Goes st fs (λ view. thread view (Give completion) st) st gs (λ view w. frame_of view w f (place_of view st) (completion_at view completion))
pops {st} {fs} {gs} {f} completion e = quietly still (λ view whole m. off view whole (subst (λ fs. Means view st.turns fs (thread view (Give completion) st) whole) e m))
  where
    on_fuels : (view : View) (whole : Outcome) (ws : List Fuel) → CoverAll st.turns ws (f ∷ gs) → resume view ws (f ∷ gs) (done (place_of view st) (completion_at view completion)) ≡ whole → Means view st.turns gs (λ w. frame_of view w f (place_of view st) (completion_at view completion)) whole
    on_fuels view whole [] a s = absurd a
    on_fuels view whole (w ∷ ws) a s = record { fuel = w; fuels = ws; covers = a.0; all = a.1; same = s }

    off : (view : View) (whole : Outcome) → Means view st.turns (f ∷ gs) (thread view (Give completion) st) whole → Means view st.turns gs (λ w. frame_of view w f (place_of view st) (completion_at view completion)) whole
    off view whole m = on_fuels view whole m.fuels m.all m.same

-- from an empty stack to an empty stack: the moves are tracked along the whole
pub runs : {old new : Contents} {fs gs : List Frame} {go : View → Fuel → Outcome} (completion : Completion) → Goes old fs go new gs (λ view. thread view (Give completion) new) → old.moves ≡ [] → fs ≡ [] → gs ≡ [] → (view : View) → Agreeing view new → Track view new.moves (go view (record { calls = old.turns; loops = old.turns })) (λ w. w ≡ done (place_of view new) (completion_at view completion))
runs {old} {new} {fs} {gs} {go} completion l e f g view u =
    let start : Means view old.turns [] (go view) (go view (record { calls = old.turns; loops = old.turns })) =
    record { fuel = record { calls = old.turns; loops = old.turns }; fuels = []; covers = record { calls = omega arith; loops = omega arith }; all = tt; same = refl } in
    let tracked : Track view l.added (go view (record { calls = old.turns; loops = old.turns })) (Means view new.turns gs (thread view (Give completion) new)) =
    l.on view u (go view (record { calls = old.turns; loops = old.turns })) (subst (λ fs. Means view old.turns fs (go view) (go view (record { calls = old.turns; loops = old.turns }))) (sym f) start) in
    let same : l.added ≡ new.moves = ap (λ xs. xs ++ l.added) (sym e) ∙ sym l.moves in
    subst (λ ms. Track view ms (go view (record { calls = old.turns; loops = old.turns })) (λ w. w ≡ done (place_of view new) (completion_at view completion))) same
    (track_map view l.added (go view (record { calls = old.turns; loops = old.turns })) (Means view new.turns gs (thread view (Give completion) new)) (λ w. w ≡ done (place_of view new) (completion_at view completion))
    (λ w m. ends w (subst (λ gs. Means view new.turns gs (thread view (Give completion) new) w) g m)) tracked)
  where
    ends : (w : Outcome) → Means view new.turns [] (thread view (Give completion) new) w → w ≡ done (place_of view new) (completion_at view completion)
    ends w m = sym m.same

pub starts : {st : Contents} {fs : List Frame} {go : View → Fuel → Outcome} → Goes st fs go st fs go
starts = quietly still (λ view whole m. m)

-- the stack is empty
pub emptied : {old new : Contents} {fs gs : List Frame} {go next : View → Fuel → Outcome} → gs ≡ [] → Goes old fs go new gs next → Goes old fs go new [] next
emptied {old} {new} {fs} {gs} {go} {next} e l = subst (λ gs. Goes old fs go new gs next) e l

pub leads_from : {old new : Contents} {fs gs : List Frame} {go last : View → Contents → Fuel → Outcome} {next : Work} → Leads old fs last new gs next → ((view : View) (w : Fuel) → go view old w ≡ last view old w) → Leads old fs go new gs next
leads_from l h = leads (both (stays still refl h) l.to)

-- ---- tests

pub where_true : {b : Bool} {x : Outcome} (y z : Outcome) → b ≡ true → x ≡ (if b then y else z) → x ≡ y
where_true {b} {x} y z e h = rw e at h

pub where_false : {b : Bool} {x : Outcome} (y z : Outcome) → b ≡ false → x ≡ (if b then y else z) → x ≡ z
where_false {b} {x} y z e h = rw e at h
