-- An answer that was taken up does what its row is.
use Rattle.std.proofs.Common.{◌≡◌, ◌-◌, ℕ, Bool, true, false, List, [], ◌∷◌, ◌++◌, Option, Some, None, slice_get, refl, sym, ap, subst, ◌∙◌}
use Rattle.std.proofs.lemmas.List.{append-nil, append_assoc}
use Rattle.path_core.specs.declared.path.End.{End}
use Rattle.path_core.specs.declared.path.End.TheVariants.{Cut}
use Rattle.path_core.specs.declared.path.Budget.TheVariants as budget
use Rattle.path_core.specs.declared.path.ErrorName.{ErrorName}
use Rattle.term_table.specs.declared.term.Term.{Term}
use Rattle.term_table.specs.declared.term.TermId.{TermId}
use Rattle.path_core.specs.declared.path.Event.TheVariants as event
use Rattle.path_core.specs.declared.path.PickKind.TheVariants.{Branch}
use Rattle.term_table.specs.declared.term.Term.TheVariants.{Flag}
use Rattle.term_table.specs.declared.moves.Choice.TheVariants as choice
use Rattle.term_table.specs.declared.moves.Move.TheVariants as move
use Rattle.term_table.specs.declared.shadow.Plain.TheVariants as plain
use Rattle.term_table.proofs.Views.{seen_flag, at_plain}
use Rattle.js_meaning.specs.Conversions.{bit as bit_of}
use Rattle.js_meaning.specs.Operators.{branch_row}
use Rattle.term_table.specs.declared.moves.Move.{Move}
use Rattle.term_table.specs.declared.shadow.Shadow.{Shadow}
use Rattle.term_table.specs.Growing.{Grown}
use Rattle.term_table.specs.Views.{View, Values, Agrees, at, holds, bit}
use Rattle.term_table.specs.Walking.{Failing, Walk, EndsRow, Stopped}
use Rattle.js_meaning.specs.Values.{Place, truth}
use Rattle.js_meaning.specs.Running.{made, gives, giving, ends, raises, Row, Completion as Ending, stops, Outcome, done, bind, stamp, stamped, play, throw_error}
use Rattle.js_state.specs.declared.held.RunMove.{RunMove}
use Rattle.js_state.specs.declared.completion.Completion.{Completion}
use Rattle.js_state.specs.declared.completion.Completion.TheVariants as c
use Rattle.js_state.specs.Held.{Contents}
use Rattle.js_state.specs.Seen.{place_of, completion_at, Agreeing}
use Rattle.js_state.specs.Playing.{WalkRun, Track, Hands, Does, stops_there, events_made, failed_kept, taken_up, cut_by, TakenUp, Still}
use Rattle.js_state.proofs.Shown.{bind_after, track_then, track_none, rest_or_cut, behind, own, walked}

pub same_table : (a b : List Term) → b ≡ a → Grown a b
same_table a b e = ([], e ∙ sym (append-nil a))

place_behind : {old mid : Contents} {ms : List Move} {cut : Option ℕ} → TakenUp old mid ms cut → (view : View) → behind ms (place_of view old) ≡ place_of view mid
place_behind k view =
    rw (k.unmoved.inputs, k.unmoved.allowed, k.unmoved.cells, k.unmoved.objects, k.unmoved.turns, k.unmoved.ended, k.unmoved.nodes, k.unmoved.joins, k.events) refl

-- ---- the moves of the answer first, then what is behind them

landed : {old mid : Contents} {ms : List Move} {cut : Option ℕ} → TakenUp old mid ms cut → (view : View) (tail : List RunMove) (go : Place → Ending → Outcome) (rest : Row) (G : Outcome → Type 0) →
    Track view tail (bind (rest_or_cut cut (place_of view mid) rest) go) G → Track view tail (bind (rest_or_cut (cut_by old.events ms) (behind ms (place_of view old)) rest) go) G
landed {old} {mid} {ms} {cut} k view tail go rest G h =
    subst (λ c. Track view tail (bind (rest_or_cut c (behind ms (place_of view old)) rest) go) G) k.is_cut
    (subst (λ st. Track view tail (bind (rest_or_cut cut st rest) go) G) (sym (place_behind k view)) h)

first : {old mid : Contents} {ms : List Move} {cut : Option ℕ} → TakenUp old mid ms cut → (view : View) (tail : List RunMove) (row : Row) (g : Row → Type 0) (go : Place → Ending → Outcome) (G : Outcome → Type 0) → Agreeing view old → Hands go →
    Walk EndsRow view ms row g → ((rest : Row) → (cut ≡ None → g rest) → Track view tail (bind (rest_or_cut cut (place_of view mid) rest) go) G) →
    Track view (taken_up old.keeps (old.allowed - old.turns) old.ended old.events ms) (bind (play row (place_of view old)) go) (λ w. Track view tail w G)
first {old} {mid} {ms} {cut} k None tail row g go G a so h final =
    let o = own old.keeps ms (place_of None old) row g h in
    record {
      items = o.items;
      rest = bind (rest_or_cut (cut_by old.events ms) (behind ms (place_of None old)) o.rest) go;
      is = ap (λ r. bind r go) o.is ∙ bind_after o.items (rest_or_cut (cut_by old.events ms) (behind ms (place_of None old)) o.rest) go;
      same = o.same (old.allowed - old.turns) old.ended;
      on = landed k None tail go o.rest G (final o.rest (λ n. o.on (sym k.is_cut ∙ n)));
    }
first {old} {mid} {ms} {cut} k (Some v) tail row g go G a so h final =
    subst (λ b. WalkRun v (taken_up b (old.allowed - old.turns) old.ended old.events ms) (bind (play row (place_of (Some v) old)) go) (λ w. WalkRun v tail w G)) (sym a.0)
    (walked v (old.allowed - old.turns) old.ended ms (place_of (Some v) old) row g go so (λ w. WalkRun v tail w G) refl refl
    (λ rest n. landed k (Some v) tail go rest G (final rest (λ m. n (sym k.is_cut ∙ m)))) h)

before : (old new : Contents) (view : View) → new.table ≡ old.table → new.keeps ≡ old.keeps → Agreeing view new → Agreeing view old
before old new None t k a = tt
before old new (Some v) t k a = (sym k ∙ a.0, subst (λ (ts : List Term). Values ts v) t a.1)

pub does : {old mid new : Contents} {ms : List Move} {cut : Option ℕ} {completion : Completion} (tail : List RunMove) (row : View → Row) (g : View → Row → Type 0) → TakenUp old mid ms cut → new.moves ≡ mid.moves ++ tail → new.table ≡ mid.table → new.keeps ≡ mid.keeps →
    ((view : View) → Agreeing view old → Walk EndsRow view ms (row view) (g view)) →
    ((view : View) → Agreeing view old → (go : Place → Ending → Outcome) → Hands go → (rest : Row) → (cut ≡ None → g view rest) → Track view tail (bind (rest_or_cut cut (place_of view mid) rest) go) (λ w. w ≡ go (place_of view new) (completion_at view completion))) →
    Does old new (λ view. play (row view) (place_of view old)) completion
does {old} {mid} {new} {ms} {cut} {completion} tail row g k m t e walks final =
    record {
      added = taken_up old.keeps (old.allowed - old.turns) old.ended old.events ms ++ tail;
      moves = m ∙ ap (λ xs. xs ++ tail) k.moves ∙ append_assoc old.moves (taken_up old.keeps (old.allowed - old.turns) old.ended old.events ms) tail;
      grown = same_table old.table new.table (t ∙ k.unmoved.table);
      keeps = e ∙ k.unmoved.keeps;
      on = λ view a go so.
          let b = before old new view (t ∙ k.unmoved.table) (e ∙ k.unmoved.keeps) a in
          let G : Outcome → Type 0 = λ w. w ≡ go (place_of view new) (completion_at view completion) in
          track_then view (taken_up old.keeps (old.allowed - old.turns) old.ended old.events ms) tail (bind (play (row view) (place_of view old)) go) (λ w. Track view tail w G) G (λ w h. h)
          (first k view tail (row view) (g view) go G b so (walks view b) (λ rest n. final view b go so rest n));
    }

-- ---- by the kind of answer

-- an event was too many
pub does_cut : {old mid : Contents} {ms : List Move} {cut : Option ℕ} {completion : Completion} (row : View → Row) (g : View → Row → Type 0) (site : ℕ) → TakenUp old mid ms cut →
    ((view : View) → Agreeing view old → Walk EndsRow view ms (row view) (g view)) → cut ≡ Some site → completion ≡ c.Stop (Cut site budget.Events) →
    Does old mid (λ view. play (row view) (place_of view old)) completion
does_cut {old} {mid} {ms} {cut} {completion} row g site k walks e f =
    does [] row g k (sym (append-nil mid.moves)) refl refl walks
    (λ view a go so rest n. track_none view _ _ (rw (e, f) refl))

pub does_value : {old mid : Contents} {ms : List Move} {cut : Option ℕ} (row : View → Row) (value : Shadow) → TakenUp old mid ms cut →
    ((view : View) → Agreeing view old → Walk EndsRow view ms (row view) (λ w. w ≡ ([], gives (at view value)))) → cut ≡ None →
    Does old mid (λ view. play (row view) (place_of view old)) (c.Value value)
does_value {old} {mid} {ms} {cut} row value k walks e =
    does [] row (λ view w. w ≡ ([], gives (at view value))) k (sym (append-nil mid.moves)) refl refl walks
    (λ view a go so rest n. let h = n e in track_none view _ _ (rw (e, h) refl))

pub does_end : {old mid : Contents} {ms : List Move} {cut : Option ℕ} {failed : Option TermId} (row : View → Row) (exit end : End) → TakenUp old mid ms cut →
    ((view : View) → Agreeing view old → Walk EndsRow view ms (row view) (λ w. Stopped view failed exit w)) → cut ≡ None → failed ≡ None → end ≡ stamp (mid.allowed - mid.turns) mid.ended exit →
    Does old mid (λ view. play (row view) (place_of view old)) (c.Stop end)
does_end {old} {mid} {ms} {cut} {failed} row exit end k walks e f s =
    does [] row (λ view w. Stopped view failed exit w) k (sym (append-nil mid.moves)) refl refl walks
    (λ view a go so rest n.
    let h : rest ≡ ([], ends exit) = subst (λ t. Stopped view t exit rest) f (n e) in
    track_none view _ _ (rw (e, h, s) refl))

failing_there : (st : Place) (go : Place → Ending → Outcome) → Hands go → (b : Bool) (exit end : End) (rest : Row) → end ≡ stamped st exit →
    Failing EndsRow b exit rest → Failing stops_there b end (bind (play rest st) go)
failing_there st go so true exit end rest s h =
    record { rest = bind (play h.rest st) go; is = ap (λ r. bind (play r st) go) h.is ∙ rw s refl; on = tt }
failing_there st go so false exit end rest s h =
    let ended : bind (play rest st) go ≡ done st (stops end) = rw (h.0, h.1, s) (so st (stamped st exit)) in
    (ap (λ r. r.0) ended, ap (λ r. r.1.1) ended)

no_events : (keeps : Bool) (t : TermId) (exit : End) → events_made (failed_kept keeps t exit) ≡ []
no_events true t exit = refl
no_events false t exit = refl

failed_there : (mid new : Contents) (view : View) (t : TermId) (exit end : End) (go : Place → Ending → Outcome) (rest : Row) → Agreeing view mid → Hands go → place_of view mid ≡ place_of view new → end ≡ stamp (mid.allowed - mid.turns) mid.ended exit →
    Failing EndsRow (holds view t) exit rest → Track view (failed_kept mid.keeps t end) (bind (play rest (place_of view mid)) go) (λ w. w ≡ go (place_of view new) (stops end))
failed_there mid new None t exit end go (is, x) a so p s h =
    record {
      items = [];
      rest = go (place_of None mid) (stops end);
      is = rw (h.0, h.1, s) refl;
      same = sym (no_events mid.keeps t end);
      on = ap (λ st. go st (stops end)) p;
    }
failed_there mid new (Some v) t exit end go rest a so p s h =
    subst (λ b. WalkRun v (failed_kept b t end) (bind (play rest (place_of (Some v) mid)) go) (λ w. w ≡ go (place_of (Some v) new) (stops end))) (sym a.0)
    (failing_there (place_of (Some v) mid) go so (holds (Some v) t) exit end rest s h)

pub does_fail : {old mid new : Contents} {ms : List Move} {cut : Option ℕ} {failed : Option TermId} (row : View → Row) (t : TermId) (exit end : End) → TakenUp old mid ms cut →
    ((view : View) → Agreeing view old → Walk EndsRow view ms (row view) (λ w. Stopped view failed exit w)) → cut ≡ None → failed ≡ Some t → end ≡ stamp (mid.allowed - mid.turns) mid.ended exit →
    new ≡ record mid { moves = mid.moves ++ failed_kept mid.keeps t end } → Does old new (λ view. play (row view) (place_of view old)) (c.Stop end)
does_fail {old} {mid} {new} {ms} {cut} {failed} row t exit end k walks e f s m =
    does (failed_kept mid.keeps t end) row (λ view w. Stopped view failed exit w) k (ap (λ x. x.moves) m) (ap (λ x. x.table) m) (ap (λ x. x.keeps) m) walks
    (λ view a go so rest n.
    let h : Failing EndsRow (holds view t) exit rest = subst (λ t. Stopped view t exit rest) f (n e) in
    subst (λ o. Track view (failed_kept mid.keeps t end) (bind (rest_or_cut o (place_of view mid) rest) go) (λ w. w ≡ go (place_of view new) (stops end))) (sym e)
    (failed_there mid new view t exit end go rest (after_taken view k a) so (rw m refl) s h))
  where
    after_taken : {old mid : Contents} {ms : List Move} {cut : Option ℕ} (view : View) → TakenUp old mid ms cut → Agreeing view old → Agreeing view mid
    after_taken None k a = tt
    after_taken (Some v) k a = (k.unmoved.keeps ∙ a.0, subst (λ (ts : List Term). Values ts v) (sym k.unmoved.table) a.1)

pub does_raise : {old mid new : Contents} {ms : List Move} {cut : Option ℕ} {completion : Completion} (row : View → Row) (site : ℕ) (name : ErrorName) → TakenUp old mid ms cut →
    ((view : View) → Agreeing view old → Walk EndsRow view ms (row view) (λ w. w ≡ ([], raises site name))) → cut ≡ None →
    ((view : View) → throw_error site name (place_of view mid) ≡ done (place_of view new) (completion_at view completion)) → Still mid new →
    Does old new (λ view. play (row view) (place_of view old)) completion
does_raise {old} {mid} {new} {ms} {cut} {completion} row site name k walks e throw s =
    does [] row (λ view w. w ≡ ([], raises site name)) k (s.moves ∙ sym (append-nil mid.moves)) s.table s.keeps walks
    (λ view a go so rest n.
    let h = n e in
    track_none view _ _ (rw (e, h) (ap (λ o. bind o go) (throw view))))

-- ---- what comes before

pub agrees_with : (old new : Contents) (view : View) → new.table ≡ old.table → new.keeps ≡ old.keeps → Agreeing view old → Agreeing view new
agrees_with old new None t k a = tt
agrees_with old new (Some v) t k a = (k ∙ a.0, subst (λ (ts : List Term). Values ts v) (sym t) a.1)

-- the table grew and places changed before it
pub does_behind : {old mid new : Contents} {part part' : View → Outcome} {completion : Completion} → mid.moves ≡ old.moves → Grown old.table mid.table → mid.keeps ≡ old.keeps → ((view : View) → part' view ≡ part view) →
    Does mid new part completion → Does old new part' completion
does_behind {old} {mid} {new} {part} {part'} {completion} m g k p d =
    record {
      added = d.added;
      moves = d.moves ∙ ap (λ xs. xs ++ d.added) m;
      grown = (g.0 ++ d.grown.0, d.grown.1 ∙ ap (λ xs. xs ++ d.grown.0) g.1 ∙ append_assoc old.table g.0 d.grown.0);
      keeps = d.keeps ∙ k;
      on = λ view a go so. subst (λ o. Track view d.added (bind o go) (λ w. w ≡ go (place_of view new) (completion_at view completion))) (sym (p view)) (d.on view a go so);
    }

pub agreed : (view : View) (st : Contents) → Agreeing view st → Agrees view st.table
agreed None st a = tt
agreed (Some v) st a = a.1

-- ---- the event of a test

same_bit : (b : Bool) → bit b ≡ bit_of b
same_bit true = refl
same_bit false = refl

pub shows_branch : (view : View) (terms : List Term) (t : TermId) (site out : ℕ) (b : Bool) → Agrees view terms → slice_get terms t.0 ≡ Some (Flag b) → out ≡ bit b →
    Walk EndsRow view (move.Event (event.Pick site Branch out 2) (choice.Flag t) ∷ []) (branch_row site b) (λ w. w ≡ ([], gives (at view (record { plain = plain.Bool b; term = None }))))
shows_branch view terms t site out b a h o =
    record {
      rest = ([], gives (truth b));
      is = ap (λ (n : ℕ). (made (event.Pick site Branch n 2) ∷ [], gives (truth b))) (sym (same_bit b) ∙ sym o) ∙ ap (λ e. (made e ∷ [], gives (truth b))) (sym (seen_flag view terms t site out 2 Branch b a h o));
      on = λ same. ap (λ x. ([], gives x)) (sym (at_plain view (plain.Bool b)));
    }

-- ---- no move at all

pub does_give : {st : Contents} {row : View → Row} (value : Shadow) → ((view : View) → row view ≡ giving (at view value)) → Does st st (λ view. play (row view) (place_of view st)) (c.Value value)
does_give {st} {row} value e =
    record {
      added = [];
      moves = sym (append-nil st.moves);
      grown = same_table st.table st.table refl;
      keeps = refl;
      on = λ view a go so. track_none view _ _ (ap (λ r. bind (play r (place_of view st)) go) (e view));
    }
