-- What a push of frames and choices leaves waiting.
use Rattle.re_ast.specs.declared.patterns.Flags.{Flags}
use Rattle.std.proofs.Common.{ℕ, zero, suc, ◌+◌, ◌-◌, Bool, true, false, List, [], ◌∷◌, ◌++◌, map, reverse, ◌≡◌, ◌≤◌, ◌<◌, ◌==◌, length, refl, arith, add-one, Option, Some, None, sym, subst, ap, ap₂, ◌∙◌, slice_get, get_or, drop, take, length-drop, rules, append_assoc, append-nil, length-append}
use Rattle.std.specs.List.{flat_map}
use Rattle.std.proofs.Math.Seq.{take-length}
use Rattle.std.proofs.lemmas.Bool.{ne_eqb, cond-false, cond-true}
use Rattle.std.proofs.lemmas.List.{length-reverse, get_or-reverse}
use Rattle.std.proofs.lemmas.Option.{slice_get_within, get_or_from_slice_get}
use Rattle.std.proofs.lemmas.Grind.{flat_map-append}
use Rattle.re_ast.specs.Tree.{Tree, tree_of, seq_all, alt_all}
use Rattle.re_ast.specs.Successes.{State, move_to}
use Rattle.re_matcher.specs.Runs.{Run, tick, somes, on, and_then, looked, runs}
use Rattle.re_ast.specs.declared.patterns.Node.{Node}
use Rattle.re_matcher.specs.declared.frames.Item.{Item}
use Rattle.re_matcher.specs.declared.frames.Frame.{Frame}
use Rattle.re_matcher.specs.declared.frames.Spot.{Spot}
use Rattle.re_matcher.specs.declared.frames.Choice.{Choice}
use Rattle.re_matcher.specs.declared.frames.Choice.TheVariants.{Try, Mark}
use Rattle.re_matcher.specs.Pending.{state, IsLinked, IsWithin, item_ends, ends_of, waiting, Becomes, Pushes, IsSound, Cuts, choice_kept, choice_frame, choice_spot}

pub flat_map_same : {A B : Type 0} (f g : A → List B) (xs : List A) → ((t : A) → f t ≡ g t) → flat_map f xs ≡ flat_map g xs
flat_map_same f g [] h = refl
flat_map_same f g (x ∷ xs) h = ap₂ (λ u v. u ++ v) (h x) (flat_map_same f g xs h)

pub flat_map_twice : {A B C : Type 0} (f : A → List B) (g : B → List C) (xs : List A) → flat_map g (flat_map f xs) ≡ flat_map (λ x. flat_map g (f x)) xs
flat_map_twice f g [] = refl
flat_map_twice f g (x ∷ xs) = flat_map-append g (f x) (flat_map f xs) ∙ ap (λ v. flat_map g (f x) ++ v) (flat_map_twice f g xs)

eqb_self : (n : ℕ) → (n == n) ≡ true
eqb_self n = search rules

pub next_within : (fs : List Frame) (i : ℕ) (f : Frame) → IsLinked fs → get_or fs i f ≡ f → i < length fs → f.next ≤ length fs
next_within [] i f l e w = absurd (omega arith)
next_within (g ∷ older) zero f l e w = subst (λ v. v.next ≤ length (g ∷ older)) e (omega (arith, l.0))
next_within (g ∷ older) (suc i) f l e w = let h : f.next ≤ length older = next_within older i f l.1 e (omega arith) in omega arith

on_same : (f g : State → Run) (o : Option State) → ((t : State) → f t ≡ g t) → on f o ≡ on g o
on_same f g None h = refl
on_same f g (Some t) h = h t

pub then_same : (f g : State → Run) (r : Run) → ((t : State) → f t ≡ g t) → and_then f r ≡ and_then g r
then_same f g r h = flat_map_same (on f) (on g) r (λ o. on_same f g o h)

then_on : (f g : State → Run) (o : Option State) → and_then g (on f o) ≡ on (λ x. and_then g (f x)) o
then_on f g None = refl
then_on f g (Some t) = refl

pub then_twice : (f g : State → Run) (r : Run) → and_then g (and_then f r) ≡ and_then (λ x. and_then g (f x)) r
then_twice f g r = flat_map_twice (on f) (on g) r ∙ flat_map_same _ _ r (λ o. then_on f g o)

pub then_end : (r : Run) → and_then (λ t. Some t ∷ []) r ≡ r
then_end [] = refl
then_end (None ∷ r) = ap (λ v. None ∷ v) (then_end r)
then_end (Some t ∷ r) = ap (λ v. Some t ∷ v) (then_end r)

rest_is : (ys : List Node) → take (suc (length ys) - 1) ys ≡ ys
rest_is ys = let e : suc (length ys) - 1 ≡ length ys = omega arith in ap (λ n. take n ys) e ∙ take-length ys

module _ (flags : Flags) (s : List ℕ) where
  pub ends_below : (f : Frame) (fs : List Frame) (k : ℕ) (st : State) → k ≤ length fs → ends_of flags s (f ∷ fs) k st ≡ ends_of flags s fs k st
  ends_below f fs k st w = cond-false (k == length fs + 1) _ _ (ne_eqb k (length fs + 1) (λ e. omega arith))

  pub ends_top : (f : Frame) (fs : List Frame) (st : State) →
      ends_of flags s (f ∷ fs) (length fs + 1) st ≡ tick (and_then (ends_of flags s fs f.next) (item_ends flags s f.item st))
  ends_top f fs st = cond-true ((length fs + 1) == length fs + 1) _ _ (eqb_self (length fs + 1))

  -- frame 0 is the end
  pub ends_end : (fs : List Frame) (st : State) → ends_of flags s fs 0 st ≡ Some st ∷ []
  ends_end [] st = refl
  ends_end (f ∷ fs) st = ends_below f fs 0 st (omega arith) ∙ ends_end fs st

  pub within_more : (a b end : ℕ) (cs : List Choice) → a ≤ b → IsWithin a end cs → IsWithin b end cs
  within_more a b end [] le w = tt
  within_more a b end (c ∷ cs) le w = (w.0, omega (arith, w.1), w.2, w.3)

  pub waiting_below : (f : Frame) (fs : List Frame) (cs : List Choice) (found : Run) → IsWithin (length fs) (length s) cs →
      waiting flags s (f ∷ fs) cs found ≡ waiting flags s fs cs found
  waiting_below f fs [] found w = refl
  waiting_below f fs (Try k kept spot ∷ cs) found w =
      waiting_below f fs cs _ (within_more kept (length fs) (length s) cs w.1 w.3)
      ∙ ap (λ e. waiting flags s fs cs (found ++ e)) (ends_below f fs k (state spot) (omega (arith, w.0, w.1)))
  waiting_below f fs (Mark negative k kept spot ∷ cs) found w =
      waiting_below f fs cs _ (within_more kept (length fs) (length s) cs w.1 w.3)
      ∙ ap (waiting flags s fs cs) (then_same _ _ (looked negative (state spot) found) (λ t. ends_below f fs k t (omega (arith, w.0, w.1))))

  ends_from : (fs : List Frame) (i k : ℕ) (f : Frame) (st : State) → IsLinked fs → get_or fs i f ≡ f → i < length fs → k + i ≡ length fs →
      ends_of flags s fs k st ≡ tick (and_then (ends_of flags s fs f.next) (item_ends flags s f.item st))
  ends_from [] i k f st l e w h = absurd (omega arith)
  ends_from (g ∷ older) zero k f st l e w h =
      subst (λ v. ends_of flags s (g ∷ older) k st ≡ tick (and_then (ends_of flags s (g ∷ older) v.next) (item_ends flags s v.item st))) e
      (subst (λ n. ends_of flags s (g ∷ older) n st ≡ tick (and_then (ends_of flags s (g ∷ older) g.next) (item_ends flags s g.item st))) (let q : length older + 1 ≡ k = omega arith in q)
      (ends_top g older st ∙ ap (λ v. None ∷ v) (then_same _ _ (item_ends flags s g.item st) (λ t. sym (ends_below g older g.next t l.0)))))
  ends_from (g ∷ older) (suc i) k f st l e w h =
      ends_below g older k st (omega arith)
      ∙ (ends_from older i k f st l.1 e (omega arith) (omega arith)
      ∙ ap (λ v. None ∷ v) (then_same _ _ (item_ends flags s f.item st) (λ t. sym (ends_below g older f.next t (omega (arith, next_within older i f l.1 e (omega arith)))))))

  pub ends_at : (fs : List Frame) (j : ℕ) (f : Frame) (st : State) → IsLinked fs → slice_get (reverse fs) j ≡ Some f →
      (f.next ≤ length fs) × (ends_of flags s fs (j + 1) st ≡ tick (and_then (ends_of flags s fs f.next) (item_ends flags s f.item st)))
  ends_at fs j f st l e =
      let lt : j < length fs = omega (arith, slice_get_within (reverse fs) j f e, length-reverse fs) in
      let g : get_or (reverse fs) j f ≡ f = get_or_from_slice_get (reverse fs) j f f e in
      let at : get_or fs (length fs - 1 - j) f ≡ f = sym (get_or-reverse fs j f lt) ∙ g in (
        next_within fs (length fs - 1 - j) f l at (omega arith),
        ends_from fs (length fs - 1 - j) (j + 1) f st l at (omega arith) (omega arith),
      )

  -- nothing new
  pub pushes_none : (fs : List Frame) (cs : List Choice) (next : ℕ) → IsSound flags s fs cs → Pushes flags s fs fs cs cs next []
  pushes_none fs cs next sound = record {
    same = λ found. ap (waiting flags s fs cs) (sym (append-nil found));
    kept = λ k st w. refl;
    grown = omega arith;
    sound = sound;
  }

  -- a choice at a frame that was there
  pub pushes_try : (fs : List Frame) (cs cs' : List Choice) (next : ℕ) (spot : Spot) → IsSound flags s fs cs → next ≤ length fs → spot.place ≤ length s →
      cs' ≡ Try next (length fs) spot ∷ cs → Pushes flags s fs fs cs cs' next (Some (state spot) ∷ [])
  pushes_try fs cs cs' next spot sound w p ec =
      rw ec
      (record {
        same = λ found. ap (λ v. waiting flags s fs cs (found ++ v)) (sym (append-nil (ends_of flags s fs next (state spot))));
        kept = λ k st w. refl;
        grown = omega arith;
        sound = record { linked = sound.linked; within = (w, omega arith, p, sound.within) };
      })

  -- one frame, and a choice there
  pub pushes_one : (fs fs' : List Frame) (cs cs' : List Choice) (item : Item) (next : ℕ) (spot : Spot) → IsSound flags s fs cs → next ≤ length fs → spot.place ≤ length s →
      fs' ≡ record { item = item; next = next } ∷ fs → cs' ≡ Try (length fs + 1) (length fs + 1) spot ∷ cs →
      Pushes flags s fs fs' cs cs' next (tick (item_ends flags s item (state spot)))
  pushes_one fs fs' cs cs' item next spot sound w p ef ec =
      let f : Frame = record { item = item; next = next } in
      rw (ef, ec)
      (record {
        same = λ found. waiting_below f fs cs _ sound.within ∙ ap (λ v. waiting flags s fs cs (found ++ v)) (ends_top f fs (state spot));
        kept = λ k st h. ends_below f fs k st h;
        grown = omega arith;
        sound = record { linked = (w, sound.linked); within = (omega arith, omega arith, p, within_more (length fs) (length fs + 1) (length s) cs (omega arith) sound.within) };
      })

  -- two frames, and a choice at the newer
  pub pushes_two : (fs mid fs' : List Frame) (cs cs' : List Choice) (first second : Item) (next k : ℕ) (spot : Spot) → IsSound flags s fs cs → next ≤ length fs → spot.place ≤ length s →
      mid ≡ record { item = second; next = next } ∷ fs → k ≡ length mid → fs' ≡ record { item = first; next = k } ∷ mid → cs' ≡ Try (length mid + 1) (length mid + 1) spot ∷ cs →
      Pushes flags s fs fs' cs cs' next (tick (and_then (λ t. tick (item_ends flags s second t)) (item_ends flags s first (state spot))))
  pushes_two fs mid fs' cs cs' first second next k spot sound w p em ek ef ec =
      let f : Frame = record { item = second; next = next } in
      let sound1 : IsSound flags s mid cs = rw em (record { linked = (w, sound.linked); within = within_more (length fs) (suc (length fs)) (length s) cs (omega arith) sound.within }) in
      let grown1 : length mid ≡ suc (length fs) = ap length em in
      let one : Pushes flags s mid fs' cs cs' k (tick (item_ends flags s first (state spot))) = pushes_one mid fs' cs cs' first k spot sound1 (omega arith) p ef ec in
      record {
        same = λ found. one.same found
            ∙ (ap (λ n. waiting flags s mid cs (found ++ (None ∷ and_then (ends_of flags s mid n) (item_ends flags s first (state spot))))) ek
            ∙ (ap (λ (v : List Frame). waiting flags s v cs (found ++ (None ∷ and_then (ends_of flags s v (length v)) (item_ends flags s first (state spot))))) em
            ∙ (waiting_below f fs cs _ sound.within
            ∙ ap (λ v. waiting flags s fs cs (found ++ (None ∷ v))) (then_same _ _ (item_ends flags s first (state spot)) (λ t. ap (λ n. ends_of flags s (f ∷ fs) n t) (sym (add-one _)) ∙ ends_top f fs t) ∙ sym (then_twice (λ t. tick (item_ends flags s second t)) (ends_of flags s fs next) (item_ends flags s first (state spot)))))));
        kept = λ j st h. one.kept j st (omega arith) ∙ (ap (λ v. ends_of flags s v j st) em ∙ ends_below f fs j st h);
        grown = let g : length mid ≤ length fs' = one.grown in omega arith;
        sound = one.sound;
      }

  -- one push after another: the later one stands above, so it comes first
  pub pushes_both : (fs mid fs' : List Frame) (cs cs1 cs' : List Choice) (next : ℕ) (below above : Run) → next ≤ length fs →
      Pushes flags s fs mid cs cs1 next below → Pushes flags s mid fs' cs1 cs' next above → Pushes flags s fs fs' cs cs' next (above ++ below)
  pushes_both fs mid fs' cs cs1 cs' next below above w a b =
      record {
        same = λ found. b.same found ∙ (a.same _
            ∙ ap (waiting flags s fs cs)
            (ap (λ v. (found ++ v) ++ and_then (ends_of flags s fs next) below) (then_same _ _ above (λ t. a.kept next t w))
            ∙ (append_assoc found _ _ ∙ ap (λ v. found ++ v) (sym (flat_map-append (on (ends_of flags s fs next)) above below)))));
        kept = λ k st h. (b.kept k st (omega (arith, a.grown))) ∙ a.kept k st h;
        grown = omega (arith, a.grown, b.grown);
        sound = b.sound;
      }

  pub becomes_pushed : (fs fs' : List Frame) (cs cs' : List Choice) (next : ℕ) (ends ends' : Run) → Pushes flags s fs fs' cs cs' next ends → ends ≡ ends' → Becomes flags s fs fs' cs cs' next ends'
  becomes_pushed fs fs' cs cs' next ends ends' p e = rw (← e) (record { same = p.same []; sound = p.sound })

  pub pushes_as : (fs fs' : List Frame) (cs cs' : List Choice) (next : ℕ) (ends ends' : Run) → Pushes flags s fs fs' cs cs' next ends → ends ≡ ends' → Pushes flags s fs fs' cs cs' next ends'
  pushes_as fs fs' cs cs' next ends ends' p e = subst (λ v. Pushes flags s fs fs' cs cs' next v) e p

  pub no_parts : (xs : List Node) (st : State) → length xs < 1 → Some st ∷ [] ≡ runs flags s (seq_all (map tree_of xs)) st
  unfolding runs
  no_parts [] st w = refl
  no_parts (x ∷ xs) st w = absurd (omega arith)

  pub some_parts : (xs : List Node) (x : Node) (st : State) → x ≡ get_or xs 0 x → 1 ≤ length xs →
      tick (and_then (λ t. tick (runs flags s (seq_all (map tree_of (take (length xs - 1) (drop 1 xs)))) t)) (runs flags s (tree_of x) st)) ≡ runs flags s (seq_all (map tree_of xs)) st
  unfolding runs
  some_parts [] x st e w = absurd (omega arith)
  some_parts (y ∷ ys) x st e w = rw (rest_is ys) (ap (λ v. tick (and_then (λ t. tick (runs flags s (seq_all (map tree_of ys)) t)) (runs flags s (tree_of v) st))) e)

  pub no_alternatives : (xs : List Node) (st : State) → length xs < 1 → [] ≡ runs flags s (alt_all (map tree_of xs)) st
  unfolding runs
  no_alternatives [] st w = refl
  no_alternatives (x ∷ xs) st w = absurd (omega arith)

  pub some_alternatives : (xs : List Node) (x : Node) (st : State) → x ≡ get_or xs 0 x → 1 ≤ length xs →
      tick (runs flags s (tree_of x) st) ++ tick (runs flags s (alt_all (map tree_of (take (length xs - 1) (drop 1 xs)))) st) ≡ runs flags s (alt_all (map tree_of xs)) st
  unfolding runs
  some_alternatives [] x st e w = absurd (omega arith)
  some_alternatives (y ∷ ys) x st e w = rw (rest_is ys) (ap (λ v. tick (runs flags s (tree_of v) st) ++ tick (runs flags s (alt_all (map tree_of ys)) st)) e)

  -- a lookahead of its own over the other choices
  pub becomes_look : (fs fs' : List Frame) (cs mid cs' : List Choice) (negative : Bool) (item : Item) (next n : ℕ) (held spot : Spot) → IsSound flags s fs cs → next ≤ length fs → spot.place ≤ length s →
      state held ≡ state spot → n ≡ length fs → mid ≡ Mark negative next n held ∷ cs → fs' ≡ record { item = item; next = 0 } ∷ fs → cs' ≡ Try (length fs + 1) (length fs + 1) spot ∷ mid →
      Becomes flags s fs fs' cs cs' next (looked negative (state spot) (tick (item_ends flags s item (state spot))))
  becomes_look fs fs' cs mid cs' negative item next n held spot sound w p eh en em ef ec =
      let there : held.place ≤ length s = subst (λ (v : State). v.place ≤ length s) (sym eh) p in
      let sound1 : IsSound flags s fs mid = rw (em, en) (record { linked = sound.linked; within = (w, omega arith, there, sound.within) }) in
      let one : Pushes flags s fs fs' mid cs' 0 (tick (item_ends flags s item (state spot))) = pushes_one fs fs' mid cs' item 0 spot sound1 (omega arith) p ef ec in
      record {
        same = one.same [] ∙ rw em (ap₂ (λ u v. waiting flags s fs cs (and_then (ends_of flags s fs next) (looked negative v (None ∷ u))))
            (then_same _ (λ t. Some t ∷ []) (item_ends flags s item (state spot)) (λ t. ends_end fs t) ∙ then_end (item_ends flags s item (state spot))) eh);
        sound = one.sound;
      }

  -- what was pushed for a node of this kind
  pub becomes_node : (fs fs' : List Frame) (cs cs' : List Choice) (next : ℕ) (ends : Run) (n v : Node) (t : Tree) (st : State) → Pushes flags s fs fs' cs cs' next ends →
      n ≡ v → tree_of v ≡ t → ends ≡ runs flags s t st → Becomes flags s fs fs' cs cs' next (runs flags s (tree_of n) st)
  becomes_node fs fs' cs cs' next ends n v t st p en et e =
      becomes_pushed fs fs' cs cs' next ends (runs flags s (tree_of n) st) p (e ∙ ap (λ w. runs flags s w st) (sym (ap tree_of en ∙ et)))

  pub becomes_seen : (fs fs' : List Frame) (cs cs' : List Choice) (next : ℕ) (ends : Run) (n v : Node) (t : Tree) (st : State) → Becomes flags s fs fs' cs cs' next ends →
      n ≡ v → tree_of v ≡ t → ends ≡ runs flags s t st → Becomes flags s fs fs' cs cs' next (runs flags s (tree_of n) st)
  becomes_seen fs fs' cs cs' next ends n v t st p en et e =
      subst (λ w. Becomes flags s fs fs' cs cs' next w) (e ∙ ap (λ w. runs flags s w st) (sym (ap tree_of en ∙ et))) p

  -- a step at the head is taken first
  pub tick_out : (fs : List Frame) (cs : List Choice) (found : Run) → waiting flags s fs cs (None ∷ found) ≡ None ∷ waiting flags s fs cs found
  tick_out fs [] found = refl
  tick_out fs (Try k kept spot ∷ cs) found = tick_out fs cs (found ++ ends_of flags s fs k (state spot))
  tick_out fs (Mark negative k kept spot ∷ cs) found = tick_out fs cs (and_then (ends_of flags s fs k) (looked negative (state spot) found))

  -- where something was found, what stands below adds at most steps
  pub first_found : (fs : List Frame) (cs : List Choice) (t : State) (ts us : Run) → length ts ≤ length us →
      (slice_get (somes (waiting flags s fs cs (Some t ∷ ts))) 0 ≡ slice_get (somes (waiting flags s fs cs (Some t ∷ us))) 0)
      × (length (waiting flags s fs cs (Some t ∷ ts)) ≤ length (waiting flags s fs cs (Some t ∷ us)))
  first_found fs [] t ts us w = (refl, omega arith)
  first_found fs (Try k kept spot ∷ cs) t ts us w = first_found fs cs t (ts ++ ends_of flags s fs k (state spot)) (us ++ ends_of flags s fs k (state spot)) (omega (arith, length-append ts (ends_of flags s fs k (state spot)), length-append us (ends_of flags s fs k (state spot))))
  first_found fs (Mark negative k kept spot ∷ cs) t ts us w = (refl, omega arith)

  -- ---- frames that nothing waits for

  linked_drop : (d : ℕ) (fs : List Frame) → IsLinked fs → IsLinked (drop d fs)
  linked_drop zero fs l = l
  linked_drop (suc d) [] l = tt
  linked_drop (suc d) (f ∷ fs) l = linked_drop d fs l.1

  waiting_drop : (d : ℕ) (fs : List Frame) (cs : List Choice) (found : Run) → IsWithin (length (drop d fs)) (length s) cs →
      waiting flags s (drop d fs) cs found ≡ waiting flags s fs cs found
  waiting_drop zero fs cs found w = refl
  waiting_drop (suc d) [] cs found w = refl
  waiting_drop (suc d) (f ∷ fs) cs found w =
      waiting_drop d fs cs found w
      ∙ sym (waiting_below f fs cs found (within_more (length (drop d fs)) (length fs) (length s) cs (omega (arith, length-drop d fs)) w))

  pub popped : (fs fs' : List Frame) (cs0 cs : List Choice) (ch : Choice) → IsSound flags s fs cs0 → cs0 ≡ ch ∷ cs → fs' ≡ drop (length fs - choice_kept ch) fs →
      Cuts flags s fs fs' cs0 (ch ∷ cs)
  popped fs fs' cs0 cs ch sound ec ef =
      let all : IsWithin (length fs) (length s) (ch ∷ cs) = subst (λ v. IsWithin (length fs) (length s) v) ec sound.within in
      let n : length (drop (length fs - choice_kept ch) fs) ≡ choice_kept ch = omega (arith, length-drop (length fs - choice_kept ch) fs, all.1) in
      let w : IsWithin (length (drop (length fs - choice_kept ch) fs)) (length s) (ch ∷ cs) = (all.0, omega (arith, n), all.2, all.3) in
      rw (ef, ec) (record {
        rest = refl;
        same = λ found. waiting_drop (length fs - choice_kept ch) fs (ch ∷ cs) found w;
        sound = record { linked = linked_drop (length fs - choice_kept ch) fs sound.linked; within = w };
      })

  pub sound_rest : (fs fs' : List Frame) (cs0 cs : List Choice) (ch : Choice) → Cuts flags s fs fs' cs0 (ch ∷ cs) → IsSound flags s fs' cs
  sound_rest fs fs' cs0 cs ch cut =
      record { linked = cut.sound.linked; within = within_more (choice_kept ch) (length fs') (length s) cs cut.sound.within.1 cut.sound.within.3 }

  pub within_rest : (fs fs' : List Frame) (cs0 cs : List Choice) (ch : Choice) → Cuts flags s fs fs' cs0 (ch ∷ cs) →
      (choice_frame ch ≤ length fs') × ((choice_spot ch).place ≤ length s)
  within_rest fs fs' cs0 cs ch cut = (omega (arith, cut.sound.within.0, cut.sound.within.1), cut.sound.within.2)

  pub sound_again : (fs fs' : List Frame) (cs0 cs cs' : List Choice) (ch : Choice) (k n : ℕ) (spot : Spot) → Cuts flags s fs fs' cs0 (ch ∷ cs) →
      choice_frame ch ≡ k → (choice_spot ch).place ≡ spot.place → n ≡ length fs' → cs' ≡ Try k n spot ∷ cs → IsSound flags s fs' cs'
  sound_again fs fs' cs0 cs cs' ch k n spot cut ek ep en e =
      let rest : IsSound flags s fs' cs = sound_rest fs fs' cs0 cs ch cut in
      let w : (choice_frame ch ≤ length fs') × ((choice_spot ch).place ≤ length s) = within_rest fs fs' cs0 cs ch cut in
      rw (e, en) (record { linked = rest.linked; within = (omega (arith, w.0, ek), omega arith, omega (arith, w.1, ep), rest.within) })

  pub found_first : (fs fs' : List Frame) (cs0 cs : List Choice) (ch : Choice) (k kept : ℕ) (spot : Spot) (t : State) → Cuts flags s fs fs' cs0 (ch ∷ cs) → ch ≡ Try k kept spot →
      (slice_get (somes (waiting flags s fs' cs (Some t ∷ []))) 0 ≡ slice_get (somes (waiting flags s fs cs0 (Some t ∷ []))) 0)
      × (length (waiting flags s fs' cs (Some t ∷ [])) ≤ length (waiting flags s fs cs0 (Some t ∷ [])))
  found_first fs fs' cs0 cs ch k kept spot t cut h =
      rw (← cut.same (Some t ∷ []), h) (first_found fs' cs t [] (ends_of flags s fs' k (state spot)) (omega arith))

  pub ended : (fs fs' : List Frame) (cs0 cs : List Choice) (ch : Choice) (k kept : ℕ) (spot : Spot) → Cuts flags s fs fs' cs0 (ch ∷ cs) → ch ≡ Try k kept spot → k ≡ 0 →
      waiting flags s fs cs0 [] ≡ waiting flags s fs' cs (Some (state spot) ∷ [])
  ended fs fs' cs0 cs ch k kept spot cut h z = sym (cut.same []) ∙ rw (h, z) (ap (λ v. waiting flags s fs' cs v) (ends_end fs' (state spot)))

  pub stepped : (fs fs' : List Frame) (cs0 cs : List Choice) (ch : Choice) (k kept : ℕ) (spot : Spot) (new : Run) → Cuts flags s fs fs' cs0 (ch ∷ cs) → ch ≡ Try k kept spot →
      tick new ≡ waiting flags s fs' cs (ends_of flags s fs' k (state spot)) → waiting flags s fs cs0 [] ≡ tick new
  stepped fs fs' cs0 cs ch k kept spot new cut h e = sym (cut.same []) ∙ rw h (sym e)

  pub begun : (fs fs' : List Frame) (cs cs' : List Choice) (ends : Run) → fs ≡ [] → cs ≡ [] → Becomes flags s fs fs' cs cs' 0 ends →
      slice_get (somes (waiting flags s fs' cs' [])) 0 ≡ slice_get (somes ends) 0
  begun fs fs' cs cs' ends ef ec b =
      let e : waiting flags s fs cs (and_then (ends_of flags s fs 0) ends) ≡ ends = rw (ef, ec) (then_end ends) in
      ap (λ (v : Run). slice_get (somes v) 0) (b.same ∙ e)

  pub going : (first old new : Run) → slice_get (somes old) 0 ≡ slice_get (somes first) 0 → length old ≤ length first → old ≡ tick new →
      (slice_get (somes new) 0 ≡ slice_get (somes first) 0) × (length new < length first)
  going first old new e w t =
      let n : length old ≡ suc (length new) = ap length t in
      (ap (λ (v : Run). slice_get (somes v) 0) (sym t) ∙ e, omega arith)

  pub settle_kept : (fs fs' : List Frame) (cs0 cs : List Choice) (ch : Choice) (negative : Bool) (k kept : ℕ) (held : Spot) (t : State) → Cuts flags s fs fs' cs0 (ch ∷ cs) → ch ≡ Mark negative k kept held → negative ≡ true →
      waiting flags s fs cs0 (Some t ∷ []) ≡ tick (waiting flags s fs' cs [])
  settle_kept fs fs' cs0 cs ch negative k kept held t cut h n = sym (cut.same (Some t ∷ [])) ∙ rw (h, n) (tick_out fs' cs [])

  pub settle_goes : (fs fs' : List Frame) (cs0 cs cs' : List Choice) (ch : Choice) (negative : Bool) (k kept n : ℕ) (held again : Spot) (t : State) → Cuts flags s fs fs' cs0 (ch ∷ cs) → ch ≡ Mark negative k kept held → negative ≡ false →
      state again ≡ move_to t held.place → cs' ≡ Try k n again ∷ cs → waiting flags s fs cs0 (Some t ∷ []) ≡ tick (waiting flags s fs' cs' [])
  settle_goes fs fs' cs0 cs cs' ch negative k kept n held again t cut h off ea ec =
      sym (cut.same (Some t ∷ []))
      ∙ rw (h, off, ec) (tick_out fs' cs _ ∙ ap (λ v. None ∷ waiting flags s fs' cs v) (append-nil (ends_of flags s fs' k (move_to t held.place)) ∙ ap (ends_of flags s fs' k) (sym ea)))

  pub top_kept : (fs fs' : List Frame) (cs0 cs : List Choice) (ch : Choice) (negative : Bool) (k kept : ℕ) (held : Spot) → Cuts flags s fs fs' cs0 (ch ∷ cs) → ch ≡ Mark negative k kept held → negative ≡ false →
      waiting flags s fs cs0 [] ≡ tick (waiting flags s fs' cs [])
  top_kept fs fs' cs0 cs ch negative k kept held cut h n = sym (cut.same []) ∙ rw (h, n) (tick_out fs' cs [])

  pub top_goes : (fs fs' : List Frame) (cs0 cs cs' : List Choice) (ch : Choice) (negative : Bool) (k kept n : ℕ) (held : Spot) → Cuts flags s fs fs' cs0 (ch ∷ cs) → ch ≡ Mark negative k kept held → negative ≡ true →
      cs' ≡ Try k n held ∷ cs → waiting flags s fs cs0 [] ≡ tick (waiting flags s fs' cs' [])
  top_goes fs fs' cs0 cs cs' ch negative k kept n held cut h sure ec =
      sym (cut.same []) ∙ rw (h, sure, ec) (tick_out fs' cs _ ∙ ap (λ v. None ∷ waiting flags s fs' cs v) (append-nil (ends_of flags s fs' k (state held))))

  pub told_ended : (first mid new : Run) → first ≡ mid → (slice_get (somes new) 0 ≡ slice_get (somes mid) 0) × (length new < length mid) →
      (slice_get (somes new) 0 ≡ slice_get (somes first) 0) × (length new < length first)
  told_ended first mid new e h = subst (λ (v : Run). (slice_get (somes new) 0 ≡ slice_get (somes v) 0) × (length new < length v)) (sym e) h
