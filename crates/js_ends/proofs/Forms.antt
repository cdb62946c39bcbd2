-- Each primitive of the meaning keeps exits apart, and so does a row that is played.
use Rattle.std.proofs.Common.{ℕ, zero, suc, ◌+◌, ◌≡◌, ◌≤◌, ◌<◌, inl, inr, Bool, true, false, nat_lt, if◌then◌else◌, List, [], ◌∷◌, ◌++◌, length, Option, Some, None, refl, ap, sym, subst, arith}
use Rattle.std.proofs.lemmas.List.Elements.{All-push}
use Rattle.path_core.specs.declared.path.Event.{Event}
use Rattle.path_core.specs.declared.path.ErrorName.{ErrorName}
use Rattle.path_core.specs.declared.path.Budget.TheVariants as budget
use Rattle.path_core.specs.declared.path.Why.{Why}
use Rattle.path_core.specs.declared.path.Why.TheVariants as why
use Rattle.path_core.specs.declared.path.End.{End}
use Rattle.path_core.specs.declared.path.End.TheVariants.{Left, Done, Threw, Cut}
use Rattle.js_meaning.specs.Values.{Text, Value, undefined, object, Scope, Class, error, Object, Place}
use Rattle.js_meaning.specs.Running.{Item, passed, made, Answer, gives, comes_to, raises, ends, Row, Completion, given, refers, normal, breaks, continues, returns, throws, stops, Outcome, done, bind, after, leaving, stamped, leaves, node_limit, object_limit, binding_limit, event_limit, count, turn, turn_of, with_object, new_object, throw, throw_error, answer, site_of_event, play, play_items}
use Rattle.js_meaning.specs.Names.{inside, with_binding, open_cell}
use Rattle.js_meaning.specs.Meaning.{end_activation, returned}
use Rattle.js_meaning.specs.Apart as row
use Rattle.js_meaning.specs.Apart.{Sites, Guarding, Silent, nowhere, anywhere, used_at, UseIn, Comes, ExitIn, StopIn, EndIn, ItemsIn, RowApart, FirstIn, LastIn, UsesIn, RowFits}
use Rattle.js_ends.proofs.Fresh.{Named, moment, From, To, EndFrom, First, Last, GoesOn, Waits, SoundClass, SoundObject, Stands, Fresh, end_goes, apart_join, first_join, last_join, last_later, stands_less, fresh_later, fresh_stopped}

pub if_fresh : {Q F T : Sites} {d m : ℕ} (b : Bool) {x y : Outcome} → Fresh Q F T d m x → Fresh Q F T d m y →
    Fresh Q F T d m (if b then x else y)
if_fresh true h k = h
if_fresh false h k = k

pub done_fresh : (Q F T : Sites) (d : ℕ) (st : Place) (c : Completion) → Stands d st → EndFrom F (moment st) c →
    Waits Q c → Fresh Q F T d (moment st) (done st c)
done_fresh Q F T d st c s f w =
    record { stands = s; later = omega arith; apart = tt; first = f; last = λ g. tt; waits = w }

pub leaves_fresh : (Q F T : Sites) (d site : ℕ) (w : Why) (st : Place) → (Guarding w → F site w) → Stands d st →
    Fresh Q F T d (moment st) (leaves site w st)
leaves_fresh Q F T d site w st f s =
    done_fresh Q F T d st (stops (stamped st (leaving site w))) s (omega arith, λ e g. f g) tt

pub count_fresh : (Q F T : Sites) (d site : ℕ) (st : Place) (go : Place → Outcome) → Stands d st → ((st : Place) →
    Stands d st → Fresh Q F T d (moment st) (go st)) → Fresh Q F T d (moment st) (count site st go)
unfolding count
count_fresh Q F T d site st go s k =
    if_fresh (nat_lt st.nodes node_limit) (k (record st { nodes = st.nodes + 1 }) (record { codes = s.codes; within = s.within; few = s.few; less = s.less })) (done_fresh Q F T d st (stops (Cut site budget.Nodes)) s tt tt)

-- a turn begins a moment of its own, where one more activation may stand
turns_on : (Q F T : Sites) (d site t : ℕ) (st : Place) (go : Place → Outcome) → st.turns ≡ t → Stands d st →
    ((st : Place) → Stands (suc d) st → Fresh Q F T d (moment st) (go st)) →
    Fresh Q nowhere T d (moment st) (turn_of t site st go)
turns_on Q F T d site zero st go e s k = done_fresh Q nowhere T d st (stops (Cut site budget.Turns)) s tt tt
turns_on Q F T d site (suc t) st go e s k =
    let there : Stands (suc d) (record st { turns = t; ended = 0 }) = record { codes = s.codes; within = omega (arith, e, s.within); few = s.few; less = omega (arith, e, s.within, s.less) } in
    fresh_later nowhere (omega (arith, e, s.within, s.few, s.less)) (k (record st { turns = t; ended = 0 }) there)

pub turn_fresh : (Q F T : Sites) (d site : ℕ) (st : Place) (go : Place → Outcome) → Stands d st → ((st : Place) →
    Stands (suc d) st → Fresh Q F T d (moment st) (go st)) → Fresh Q nowhere T d (moment st) (turn site st go)
unfolding turn
turn_fresh Q F T d site st go s k = turns_on Q F T d site st.turns st go refl s k

-- as long as the activations that stand are as many as the part leaves, or more
pub open_deeper : (Q F T : Sites) (d c site : ℕ) (name : Text) (is_mutable : Bool) (value : Option Value) (scope : Scope)
    (st : Place) (go : Scope → Place → Outcome) → F site why.Size → d ≤ c → Stands c st →
    ((scope : Scope) (st : Place) → Stands c st → Fresh Q F T d (moment st) (go scope st)) →
    Fresh Q F T d (moment st) (open_cell site name is_mutable value scope st go)
unfolding open_cell
open_deeper Q F T d c site name is_mutable value scope st go f l s k =
    if_fresh (nat_lt (length st.cells) binding_limit) (k (inside scope (length st.cells)) (with_binding (record { name = name; is_mutable = is_mutable; outer = scope.cell; value = value }) st) (record { codes = s.codes; within = s.within; few = s.few; less = s.less })) (leaves_fresh Q F T d site why.Size st (λ g. f) (stands_less l s))

pub open_fresh : (Q F T : Sites) (d site : ℕ) (name : Text) (is_mutable : Bool) (value : Option Value) (scope : Scope)
    (st : Place) (go : Scope → Place → Outcome) → F site why.Size → Stands d st →
    ((scope : Scope) (st : Place) → Stands d st → Fresh Q F T d (moment st) (go scope st)) →
    Fresh Q F T d (moment st) (open_cell site name is_mutable value scope st go)
open_fresh Q F T d site name is_mutable value scope st go f s k =
    open_deeper Q F T d d site name is_mutable value scope st go f (omega arith) s k

pub new_fresh : (Q F T : Sites) (d site : ℕ) (class : Class) (st : Place) (go : ℕ → Place → Outcome) → F site why.Size →
    SoundClass class → Stands d st →
    ((o : ℕ) (st : Place) → Stands d st → Fresh Q F T d (moment st) (go o st)) →
    Fresh Q F T d (moment st) (new_object site class st go)
unfolding new_object
new_fresh Q F T d site class st go f c s k =
    let new : Object = record { class = class; properties = []; items = [] } in
    if_fresh (nat_lt (length st.objects) object_limit)
    (k (length st.objects) (with_object new st) (record { codes = All-push SoundObject st.objects new s.codes c; within = s.within; few = s.few; less = s.less }))
    (leaves_fresh Q F T d site why.Size st (λ g. f) s)

pub throw_fresh : (Q F T : Sites) (d site : ℕ) (x : Value) (st : Place) → Stands d st →
    Fresh Q F T d (moment st) (throw site x st)
throw_fresh Q F T d site x st s = done_fresh Q F T d st (throws site x) s tt tt

pub error_fresh : (Q F T : Sites) (d site : ℕ) (name : ErrorName) (st : Place) → F site why.Size → Stands d st →
    Fresh Q F T d (moment st) (throw_error site name st)
error_fresh Q F T d site name st f s =
    new_fresh Q F T d site (error name true) st (λ o. throw site (object o)) f tt s (λ o st s. throw_fresh Q F T d site (object o) st s)

-- ---- an activation's end begins a moment of its own

ends_one : (Q R F T : Sites) (d m : ℕ) (items : List Item) (st : Place) (c x : Completion) → GoesOn c → GoesOn x →
    Waits R x → Fresh Q F T (suc d) m (items, (st, c)) → Fresh R F nowhere d m (items ++ [], (end_activation st, x))
ends_one Q R F T d m items st c x g y w k =
    let grows : moment st < moment (end_activation st) = omega (arith, k.stands.few, k.stands.less) in
    record {
      stands = record { codes = k.stands.codes; within = k.stands.within; few = k.stands.few; less = omega (arith, k.stands.less) };
      later = omega (arith, k.later, grows);
      apart = apart_join T nowhere (moment st) items [] c x (λ n w t f. f) k.apart (k.last g) (end_goes nowhere (moment st) x y) tt;
      first = first_join F nowhere F m (moment st) items [] c x (λ n w f. f) (λ n w f. absurd f) k.later k.first (end_goes nowhere (moment st) x y);
      last = λ z. last_join nowhere nowhere nowhere (moment (end_activation st)) (moment (end_activation st)) items [] (λ n w f. f) (λ n w f. f) (omega arith) (last_later T nowhere (moment st) (moment (end_activation st)) items grows (k.last g)) tt;
      waits = w;
    }

pub returned_fresh : (Q F T : Sites) (d m : ℕ) (r : Outcome) → Fresh Q F T (suc d) m r →
    Fresh nowhere F nowhere d m (bind r returned)
returned_fresh Q F T d m (items, (st, stops x)) h =
    fresh_stopped Q F T nowhere F nowhere (suc d) d m items st x returned (λ n w f. f) (omega arith) (λ st x. refl) h
returned_fresh Q F T d m (items, (st, given x)) h =
    ends_one Q nowhere F T d m items st (given x) (given undefined) tt tt tt h
returned_fresh Q F T d m (items, (st, refers r)) h =
    ends_one Q nowhere F T d m items st (refers r) (given undefined) tt tt tt h
returned_fresh Q F T d m (items, (st, normal)) h = ends_one Q nowhere F T d m items st normal (given undefined) tt tt tt h
returned_fresh Q F T d m (items, (st, breaks)) h = ends_one Q nowhere F T d m items st breaks (given undefined) tt tt tt h
returned_fresh Q F T d m (items, (st, continues)) h =
    ends_one Q nowhere F T d m items st continues (given undefined) tt tt tt h
returned_fresh Q F T d m (items, (st, returns x)) h = ends_one Q nowhere F T d m items st (returns x) (given x) tt tt tt h
returned_fresh Q F T d m (items, (st, throws site x)) h =
    ends_one Q nowhere F T d m items st (throws site x) (throws site x) tt tt tt h

-- ---- a row that is played

-- the place where a reference that isn't called leaves the profile
abbrev pub Used : Option ℕ → Sites
Used None n w = ⊥
Used (Some at) n w = (at ≡ n) × (w ≡ why.Builtin)

abbrev pub used_by : Answer → Option ℕ
used_by (comes_to r) = used_at r
used_by _ = None

abbrev pub Less : Sites → Sites → Sites
Less T Q n w = T n w × (Q n w → ⊥)

abbrev zeroed : End → End
zeroed (Left site w t n) = Left site w 0 0
zeroed x = x

abbrev exit_of : Completion → End
exit_of (stops x) = x
exit_of c = Done

abbrev IsLeft : End → Type 0
IsLeft (Left site w t n) = Unit {0}
IsLeft _ = ⊥

-- the same exit with its stamp is the same exit without
same_stop : (st : Place) (x y : End) → ExitIn anywhere x → StopIn anywhere y → stamped st y ≡ stamped st x → y ≡ x
same_stop st (Left a w t n) (Left b u r k) g h p =
    let e : Left b u 0 0 ≡ Left a w 0 0 = ap zeroed p in
    rw (g.0, g.1, h.0, h.1) e
same_stop st (Left a w t n) Done g h p = absurd (subst IsLeft (sym p) tt)
same_stop st (Left a w t n) (Threw b v) g h p = absurd (subst IsLeft (sym p) tt)
same_stop st (Left a w t n) (Cut b v) g h p = absurd (subst IsLeft (sym p) tt)
same_stop st Done y g h p = absurd g
same_stop st (Threw b v) y g h p = absurd g
same_stop st (Cut b v) y g h p = absurd g

stamped_left : (st : Place) (x : End) → ExitIn anywhere x → IsLeft (stamped st x)
stamped_left st (Left a w t n) h = tt
stamped_left st Done h = h
stamped_left st (Threw a v) h = h
stamped_left st (Cut a v) h = h

raise_named : (st to : Place) (x : End) (site : ℕ) (v : Value) (b : Bool) → ExitIn anywhere x → Named (stamped st x) (if b then throw site v to else leaves site why.Size st).0 (if b then throw site v to else leaves site why.Size st).1.1 → leaving site why.Size ≡ x
raise_named st to x site v true g n = absurd (subst GoesOn n tt)
raise_named st to x site v false g n = same_stop st x (leaving site why.Size) g (refl, refl, λ w. tt) (ap exit_of n)

end_named : (st : Place) (x : End) (a : Answer) → ExitIn anywhere x → EndIn anywhere a →
    Named (stamped st x) (answer a st).0 (answer a st).1.1 → Comes x a
unfolding new_object
end_named st x (gives v) g h n = subst GoesOn n tt
end_named st x (comes_to r) g h n = absurd (subst GoesOn n tt)
end_named st x (raises site name) g h n =
    raise_named st (with_object (record { class = error name true; properties = []; items = [] }) st) x site (object (length st.objects)) (nat_lt (length st.objects) object_limit) g n
end_named st x (ends y) g h n = same_stop st x y g h (ap exit_of n)

abbrev event_or_cut : Bool → Event → Place → Outcome → Outcome
event_or_cut b e st r = if b then after (made e ∷ []) r else done st (stops (Cut (site_of_event e) budget.Events))

cut_named : (st : Place) (x : End) (e : Event) (r : Outcome) (b : Bool) → ExitIn anywhere x →
    Named (stamped st x) (event_or_cut b e st r).0 (event_or_cut b e st r).1.1 → ⊥
cut_named st x e r true g n = n
cut_named st x e r false g n = subst IsLeft (sym (ap exit_of n)) (stamped_left st x g)

exit_stop : (x : End) → ExitIn anywhere x → StopIn anywhere x
exit_stop (Left a w t n) h = (h.0, h.1, λ g. tt)
exit_stop Done h = tt
exit_stop (Threw a v) h = tt
exit_stop (Cut a v) h = tt

abbrev counted : Place → Place
counted st = record st { events = st.events + 1 }

counted_stands : (d : ℕ) (st : Place) → Stands d st → Stands d (counted st)
counted_stands d st s = record { codes = s.codes; within = s.within; few = s.few; less = s.less }

named_played : (st : Place) (x : End) (items : List Item) (a : Answer) → ExitIn anywhere x → ItemsIn anywhere items →
    EndIn anywhere a → Named (stamped st x) (play_items items a st).0 (play_items items a st).1.1 → row.Named x items a
named_played st x [] a g i h n = end_named st x a g h n
named_played st x (passed y ∷ items) a g i h (inl p) = inl (same_stop st x y g (exit_stop y i.0) p)
named_played st x (passed y ∷ items) a g i h (inr n) = inr (named_played st x items a g i.1 h n)
named_played st x (made e ∷ items) a g i h n =
    cut_named st x e (play_items items a (counted st)) (nat_lt st.events event_limit) g n

stop_from : (F : Sites) (st : Place) (x : End) → StopIn F x → From F (moment st) (stamped st x)
stop_from F st (Left a w t n) h = (omega arith, λ e g. h.2 g)
stop_from F st Done h = tt
stop_from F st (Threw a v) h = tt
stop_from F st (Cut a v) h = tt

exit_from : (F : Sites) (st : Place) (x : End) → ExitIn F x → From F (moment st) (stamped st x)
exit_from F st (Left a w t n) h = (omega arith, λ e g. h.3)
exit_from F st Done h = absurd h
exit_from F st (Threw a v) h = absurd h
exit_from F st (Cut a v) h = absurd h

exit_to : (T : Sites) (st : Place) (m : ℕ) (x : End) → moment st ≤ m → ExitIn T x → To T m (stamped st x)
exit_to T st m (Left a w t n) l h = (h.2, l, λ e. h.3)
exit_to T st m Done l h = h
exit_to T st m (Threw a v) l h = h
exit_to T st m (Cut a v) l h = h

used_waits : (o : Option ℕ) → UseIn (Used o) o
used_waits None = tt
used_waits (Some at) = (refl, refl)

pub answer_fresh : (F T : Sites) (d : ℕ) (a : Answer) (st : Place) → EndIn F a → Stands d st →
    Fresh (Used (used_by a)) F T d (moment st) (answer a st)
answer_fresh F T d (gives v) st h s = done_fresh (Used None) F T d st (given v) s tt tt
answer_fresh F T d (comes_to r) st h s = done_fresh (Used (used_at r)) F T d st (refers r) s tt (used_waits (used_at r))
answer_fresh F T d (raises site name) st h s = error_fresh (Used None) F T d site name st h s
answer_fresh F T d (ends x) st h s = done_fresh (Used None) F T d st (stops (stamped st x)) s (stop_from F st x h) tt

items_fresh : (d : ℕ) (items : List Item) (a : Answer) (st : Place) → Stands d st → ItemsIn anywhere items →
    EndIn anywhere a → row.Apart items a →
    Fresh (Used (used_by a)) anywhere anywhere d (moment st) (play_items items a st)
items_fresh d [] a st s i h p = answer_fresh anywhere anywhere d a st h s
items_fresh d (passed x ∷ items) a st s i h p =
    let r = items_fresh d items a st s i.1 h p.1 in
    record {
      stands = r.stands;
      later = r.later;
      apart = (λ n. p.0 (named_played st x items a i.0 i.1 h n), r.apart);
      first = (exit_from anywhere st x i.0, r.first);
      last = λ g. (λ q. exit_to anywhere st (moment (play_items items a st).1.0) x r.later i.0, r.last g);
      waits = r.waits;
    }
items_fresh d (made e ∷ items) a st s i h p =
    if_fresh (nat_lt st.events event_limit) (emits (items_fresh d items a (counted st) (counted_stands d st s) i h p)) (done_fresh (Used (used_by a)) anywhere anywhere d st (stops (Cut (site_of_event e) budget.Events)) s tt tt)
  where
    emits : {r : Outcome} → Fresh (Used (used_by a)) anywhere anywhere d (moment st) r →
        Fresh (Used (used_by a)) anywhere anywhere d (moment st) (after (made e ∷ []) r)
    emits r =
        record { stands = r.stands; later = r.later; apart = r.apart; first = tt; last = r.last; waits = r.waits }

cut_first : (F : Sites) (m : ℕ) (st : Place) (e : Event) (r : Outcome) (b : Bool) →
    First F m (event_or_cut b e st r).0 (event_or_cut b e st r).1.1
cut_first F m st e r true = tt
cut_first F m st e r false = tt

first_in : (F : Sites) (d : ℕ) (items : List Item) (a : Answer) (st : Place) → Stands d st → FirstIn F items a →
    First F (moment st) (play_items items a st).0 (play_items items a st).1.1
first_in F d [] a st s h = (answer_fresh F F d a st h s).first
first_in F d (passed x ∷ items) a st s h = (exit_from F st x h.0, first_in F d items a st s h.1)
first_in F d (made e ∷ items) a st s h =
    cut_first F (moment st) st e (play_items items a (counted st)) (nat_lt st.events event_limit)

cut_silent : (st : Place) (e : Event) (r : Outcome) (b : Bool) → GoesOn (event_or_cut b e st r).1.1 →
    Silent (event_or_cut b e st r).0 → ⊥
cut_silent st e r true g q = q
cut_silent st e r false g q = g

silent_played : (items : List Item) (a : Answer) (st : Place) → GoesOn (play_items items a st).1.1 →
    Silent (play_items items a st).0 → Silent items
silent_played [] a st g q = tt
silent_played (passed x ∷ items) a st g q = silent_played items a st g q
silent_played (made e ∷ items) a st g q =
    cut_silent st e (play_items items a (counted st)) (nat_lt st.events event_limit) g q

cut_last : (T : Sites) (m : ℕ) (st : Place) (e : Event) (r : Outcome) (b : Bool) → (GoesOn r.1.1 → Last T m r.0) →
    GoesOn (event_or_cut b e st r).1.1 → Last T m (event_or_cut b e st r).0
cut_last T m st e r true k g = k g
cut_last T m st e r false k g = tt

-- what the answer's reference would end at, is an exit to which the row comes
used_comes : (a : Answer) (site : ℕ) (w : Why) → Used (used_by a) site w → Comes (Left site w 0 0) a
used_comes (gives v) site w u = u
used_comes (raises at name) site w u = absurd u
used_comes (ends x) site w u = absurd u
used_comes (comes_to r) site w u = at_use (used_at r) u
  where
    at_use : (o : Option ℕ) → Used o site w → row.UseIs (Left site w 0 0) o
    at_use None u = u
    at_use (Some at) u = rw (u.0, u.1) refl

named_end : (x : End) (items : List Item) (a : Answer) → Silent items → Comes x a → row.Named x items a
named_end x [] a q c = c
named_end x (passed y ∷ items) a q c = inr (named_end x items a q c)
named_end x (made e ∷ items) a q c = absurd q

exit_less : (T : Sites) (x : End) (items : List Item) (a : Answer) → (row.Named x items a → ⊥) → Silent items →
    ExitIn T x → ExitIn (Less T (Used (used_by a))) x
exit_less T (Left site w t n) items a p q h = (h.0, h.1, h.2, (h.3, λ u. p (named_end (Left site w t n) items a q (there u))))
  where
    there : Used (used_by a) site w → Comes (Left site w t n) a
    there u = rw (h.0, h.1) (used_comes a site w u)
exit_less T Done items a p q h = h
exit_less T (Threw site v) items a p q h = h
exit_less T (Cut site v) items a p q h = h

raised_last : (T : Sites) (m site : ℕ) (v : Value) (st to : Place) (b : Bool) →
    Last T m (if b then throw site v to else leaves site why.Size st).0
raised_last T m site v st to true = tt
raised_last T m site v st to false = tt

answer_last : (T : Sites) (m : ℕ) (a : Answer) (st : Place) → Last T m (answer a st).0
unfolding new_object
answer_last T m (gives v) st = tt
answer_last T m (comes_to r) st = tt
answer_last T m (raises site name) st =
    raised_last T m site (object (length st.objects)) st (with_object (record { class = error name true; properties = []; items = [] }) st) (nat_lt (length st.objects) object_limit)
answer_last T m (ends x) st = tt

last_in : (T : Sites) (m : ℕ) (items : List Item) (a : Answer) (st : Place) → moment st ≤ m → LastIn T items →
    row.Apart items a → GoesOn (play_items items a st).1.1 →
    Last (Less T (Used (used_by a))) m (play_items items a st).0
last_in T m [] a st l h p g = answer_last (Less T (Used (used_by a))) m a st
last_in T m (passed x ∷ items) a st l h p g =
    (λ q. exit_to (Less T (Used (used_by a))) st m x l (exit_less T x items a p.0 (silent_played items a st g q) (h.0 (silent_played items a st g q))), last_in T m items a st l h.1 p.1 g)
last_in T m (made e ∷ items) a st l h p g =
    cut_last (Less T (Used (used_by a))) m st e (play_items items a (counted st)) (nat_lt st.events event_limit) (λ g. last_in T m items a (counted st) l h p g) g

pub play_fits : (F T : Sites) (d : ℕ) (r : Row) (st : Place) → Stands d st → RowFits F T r →
    Fresh (Used (used_by r.1)) F (Less T (Used (used_by r.1))) d (moment st) (play r st)
play_fits F T d r st s h =
    let k = items_fresh d r.0 r.1 st s h.whole.items h.whole.end h.whole.apart in
    record { stands = k.stands; later = k.later; apart = k.apart; first = first_in F d r.0 r.1 st s h.first; last = λ g. last_in T (moment (play r st).1.0) r.0 r.1 st k.later h.last h.whole.apart g; waits = k.waits }

-- ---- a row whose exits are all at the same places

end_any : (S : Sites) (a : Answer) → EndIn S a → EndIn anywhere a
end_any S (gives v) h = tt
end_any S (comes_to r) h = at_use (used_at r)
  where
    at_use : (o : Option ℕ) → UseIn anywhere o
    at_use None = tt
    at_use (Some at) = tt
end_any S (raises site name) h = tt
end_any S (ends (Left site w t n)) h = (h.0, h.1, λ g. tt)
end_any S (ends Done) h = tt
end_any S (ends (Threw site x)) h = tt
end_any S (ends (Cut site x)) h = tt

exit_any : (S : Sites) (x : End) → ExitIn S x → ExitIn anywhere x
exit_any S (Left site w t n) h = (h.0, h.1, h.2, tt)
exit_any S Done h = h
exit_any S (Threw site v) h = h
exit_any S (Cut site v) h = h

items_any : (S : Sites) (items : List Item) → ItemsIn S items → ItemsIn anywhere items
items_any S [] h = tt
items_any S (passed x ∷ items) h = (exit_any S x h.0, items_any S items h.1)
items_any S (made e ∷ items) h = items_any S items h

items_first : (S : Sites) (items : List Item) (a : Answer) → ItemsIn S items → EndIn S a → FirstIn S items a
items_first S [] a i h = h
items_first S (passed x ∷ items) a i h = (i.0, items_first S items a i.1 h)
items_first S (made e ∷ items) a i h = tt

items_last : (S : Sites) (items : List Item) → ItemsIn S items → LastIn S items
items_last S [] i = tt
items_last S (passed x ∷ items) i = (λ q. i.0, items_last S items i.1)
items_last S (made e ∷ items) i = items_last S items i

end_uses : (S : Sites) (a : Answer) → EndIn S a → UsesIn S a
end_uses S (gives v) h = tt
end_uses S (comes_to r) h = h
end_uses S (raises site name) h = tt
end_uses S (ends x) h = tt

pub apart_fits : (S : Sites) (r : Row) → RowApart S r → RowFits S S r
apart_fits S r h =
    record { whole = record { items = items_any S r.0 h.items; end = end_any S r.1 h.end; apart = h.apart }; first = items_first S r.0 r.1 h.items h.end; last = items_last S r.0 h.items; uses = end_uses S r.1 h.end }
