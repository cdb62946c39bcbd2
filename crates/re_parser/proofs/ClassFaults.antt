-- Where a class stops.
use Rattle.std.proofs.Common.{◌≡◌, ℕ, Bool, true, false, cond, List, [], ◌∷◌, ◌++◌, length, Option, Some, None, refl, sym, ap, subst, ◌∙◌, append_assoc, arith, inl, inr}
use Rattle.std.specs.Prelude.{◌==◌, not, nat_le, drop}
use Rattle.std.proofs.lemmas.Bool.{and_parts, eqb-true}
use Rattle.js_units.specs.Characters.{is_digit}
use Rattle.re_parser.specs.Classes.{members_end, close_at}
use Rattle.re_parser.specs.Escapes.{starts, is_close, begins_range, escaped_member_at, member_at, range_of, item_of, range_at, item_from, item_at, item_units}
use Rattle.re_parser.specs.Faults.{member_fault, end_fault, range_fault, class_fault_by, class_fault}
use Rattle.re_parser.specs.Places.{IsSyntax, IsBadEscape, IsFirst}
use Rattle.re_parser.specs.Reading.{FaultOf, NoMark, IsLeft}
use Rattle.re_parser.specs.declared.kinds.ClassItem.{ClassItem}
use Rattle.re_parser.specs.declared.kinds.ClassItem.TheVariants as item
use Rattle.re_parser.specs.declared.kinds.Member.{Member}
use Rattle.re_parser.specs.declared.kinds.Member.TheVariants as member
use Rattle.re_parser.specs.declared.refusal.Fault.{Fault}
use Rattle.re_parser.proofs.Cuts.{hyphen}
use Rattle.re_parser.proofs.Agreeing.{inside_end}
use Rattle.re_parser.proofs.Passing.{InsideGo, InsideStop}
use Rattle.re_parser.proofs.Inside.{Start, start_of, Context, first_context, end_context, bad_member, high_unit, high_outside, high_goes, start_goes, end_stops, plain_member, one_item}
use Rattle.re_parser.proofs.LowEnds.{escaped_end}

abbrev Of : List ℕ → Fault → Type 0
Of left e = FaultOf (InsideGo left) (InsideStop left) NoMark left e

-- ---- no member in front

outside_item : (tail : List ℕ) → item_at (128 ∷ 93 ∷ tail) ≡ Some (item.Single (member.One 128), 93 ∷ tail)
unfolding item_at member_at
outside_item tail = refl

no_more : InsideGo [] []
unfolding is_digit
no_more = record {
  more = 93 ∷ [];
  caret = λ k tail. refl;
  agrees = λ tail. inside_end (93 ∷ tail) refl refl;
  ranges = [];
  members = λ tail. members_end (93 ∷ tail) tail refl;
}

one_more : InsideGo [] (128 ∷ [])
unfolding is_digit
one_more = record {
  more = 93 ∷ [];
  caret = λ k tail. refl;
  agrees = λ tail. inside_end (128 ∷ 93 ∷ tail) refl refl;
  ranges = item_units (item.Single (member.One 128)) ++ [];
  members = λ tail. one_item (128 ∷ 93 ∷ tail) (item.Single (member.One 128)) tail (outside_item tail);
}

end_syntax : IsSyntax (InsideGo []) (InsideStop []) NoMark [] []
end_syntax = record { before = no_more; there = λ u behind d. absurd cc; reason = inl (128, omega arith, one_more, inl refl) }

-- what no member begins with
first_none : (u : ℕ) (us : List ℕ) → member_at (u ∷ us) ≡ None → starts is_close (u ∷ us) ≡ false → (u ≡ 92) × (escaped_member_at us ≡ None)
unfolding member_at
first_none u us e s = by (u == 92) (u == 93) refl refl e s
  where
    by : (a b : Bool) → (u == 92) ≡ a → (u == 93) ≡ b → cond {A = Option (Member × List ℕ)} a (escaped_member_at us) (cond b None (Some (member.One u, us))) ≡ None → b ≡ false → (u ≡ 92) × (escaped_member_at us ≡ None)
    by true b d f e s = (eqb-true u 92 d, e)
    by false true d f e s = absurd cc
    by false false d f e s = absurd cc

bad_left : (left front us : List ℕ) → left ≡ front ++ 92 ∷ us → Context left front → escaped_member_at us ≡ None → IsLeft left (length (92 ∷ us)) (IsFirst 92 (IsBadEscape (InsideGo left) (InsideStop left)))
bad_left left front us e c n = record { front = front; rest = 92 ∷ us; parts = e; count = refl; is = record { behind = us; starts = refl; is = bad_member left front us c n } }

bad_fault : (left front us : List ℕ) → left ≡ front ++ 92 ∷ us → Context left front → escaped_member_at us ≡ None → Of left (member_fault (92 ∷ us))
unfolding member_fault
bad_fault left front us e c n = bad_left left front us e c n

none_first : (left : List ℕ) → member_at left ≡ None → starts is_close left ≡ false → Of left (member_fault left)
unfolding member_fault
none_first [] e s = record { front = []; rest = []; parts = refl; count = refl; is = end_syntax }
none_first (u ∷ us) e s =
    let f = first_none u us e s in
    subst (λ (q : ℕ). Of (q ∷ us) (member_fault (q ∷ us))) (sym f.0) (bad_fault (92 ∷ us) [] us refl (first_context us) f.1)

-- ---- behind the start of a range

-- the place behind the `-`
behind_hyphen : (left : List ℕ) (x : Member) (end : List ℕ) (s : Start left x end) → ((u : ℕ) (more : List ℕ) → end ≡ u ∷ more → InsideStop left ((s.part ++ 45 ∷ []) ++ u ∷ [])) → IsLeft left (length end) (IsSyntax (InsideGo left) (InsideStop left) NoMark)
behind_hyphen left x end s h = record {
  front = s.part ++ 45 ∷ [];
  rest = end;
  parts = s.is ∙ sym (append_assoc s.part (45 ∷ []) end);
  count = refl;
  is = record { before = start_goes left x end s; there = h; reason = inl (high_unit x, high_outside x, high_goes left x end s, inr (s.part, refl)) };
}

none_end : (left : List ℕ) (x : Member) (end : List ℕ) → Start left x end → member_at end ≡ None → starts is_close end ≡ false → Of left (member_fault end)
unfolding member_fault
none_end left x [] s e k = behind_hyphen left x [] s (λ u more d. absurd cc)
none_end left x (u ∷ us) s e k =
    let f = first_none u us e k in
    let t : Start left x (92 ∷ us) = subst (λ (q : ℕ). Start left x (q ∷ us)) f.0 s in
    subst (λ (q : ℕ). Of left (member_fault (q ∷ us))) (sym f.0) (bad_fault left (t.part ++ 45 ∷ []) us (t.is ∙ sym (append_assoc t.part (45 ∷ []) (92 ∷ us))) (end_context left x (92 ∷ us) t) f.1)

-- the end is a unit
low_plain : (left : List ℕ) (low u : ℕ) (us : List ℕ) → Start left (member.One low) (u ∷ us) → (u == 92) ≡ false → (u == 93) ≡ false → nat_le low u ≡ false → Of left (end_fault low (u ∷ us))
unfolding end_fault
low_plain left low u us s a b n =
    rw a (behind_hyphen left (member.One low) (u ∷ us) s (λ v more d.
    let same : u ≡ v = cc in
    subst (λ (q : ℕ). InsideStop left ((s.part ++ 45 ∷ []) ++ q ∷ [])) same
    (subst (λ (q : List ℕ). InsideStop left q) (sym (append_assoc s.part (45 ∷ []) (u ∷ [])))
    (end_stops left (member.One low) (u ∷ us) s (u ∷ []) (λ rest. (low_none rest, b))))))
  where
    low_none : (rest : List ℕ) → range_at (member.One low) (member_at (u ∷ rest)) ≡ None
    low_none rest = rw (plain_member u rest a b, n) refl

-- the end of a range that there is none of is a unit below its start
low_parts : (x : Member) (y : Member × List ℕ) → range_at x (Some y) ≡ None → (low high : ℕ) × (x ≡ member.One low) × (y.0 ≡ member.One high) × (nat_le low high ≡ false)
low_parts (member.One a) y e = by y.0 refl (inner y.0 e)
  where
    inner : (m : Member) → item_of (range_of (member.One a) m) y.1 ≡ None → range_of (member.One a) m ≡ None
    inner m e = none_of (range_of (member.One a) m) e
      where
        none_of : (o : Option ClassItem) → item_of o y.1 ≡ None → o ≡ None
        none_of None e = refl
        none_of (Some i) e = absurd cc

    decided : (b : ℕ) (c : Bool) → nat_le a b ≡ c → cond {A = Option ClassItem} c (Some (item.Range a b)) None ≡ None → c ≡ false
    decided b true d e = absurd cc
    decided b false d e = refl

    by : (m : Member) → y.0 ≡ m → range_of (member.One a) m ≡ None → (low high : ℕ) × (member.One a ≡ member.One low) × (y.0 ≡ member.One high) × (nat_le low high ≡ false)
    by (member.One b) d e = (a, b, refl, d, decided b (nat_le a b) refl e)
    by (member.Many k) d e = absurd cc
low_parts (member.Many k) y e = absurd cc

low_end : (left : List ℕ) (low : ℕ) (end : List ℕ) (y : Member × List ℕ) (high : ℕ) → Start left (member.One low) end → member_at end ≡ Some y → y.0 ≡ member.One high → nat_le low high ≡ false → Of left (end_fault low end)
unfolding member_at
low_end left low [] y high s e d n = absurd cc
low_end left low (u ∷ us) y high s e d n = by (u == 92) (u == 93) refl refl e
  where
    by : (a b : Bool) → (u == 92) ≡ a → (u == 93) ≡ b → cond {A = Option (Member × List ℕ)} a (escaped_member_at us) (cond b None (Some (member.One u, us))) ≡ Some y → Of left (end_fault low (u ∷ us))
    by true b f g e = subst (λ (q : ℕ). Of left (end_fault low (q ∷ us))) (sym (eqb-true u 92 f)) (escaped_end left low us high y.1 (subst (λ (q : ℕ). Start left (member.One low) (q ∷ us)) (eqb-true u 92 f) s) (e ∙ ap (λ (m : Member). Some (m, y.1)) d) n)
    by false true f g e = absurd cc
    by false false f g e =
        let one : member.One u ≡ member.One high = cc in
        let same : u ≡ high = cc in
        low_plain left low u us s f g (subst (λ (q : ℕ). nat_le low q ≡ false) (sym same) n)

-- ---- the fault

ranged : (left : List ℕ) (x : Member) (end : List ℕ) → Start left x end → starts is_close end ≡ false → range_at x (member_at end) ≡ None → Of left (range_fault x end (member_at end))
ranged left x end s k e = by (member_at end) refl e
  where
    by : (o : Option (Member × List ℕ)) → member_at end ≡ o → range_at x o ≡ None → Of left (range_fault x end o)
    by None d e = none_end left x end s d k
    by (Some y) d e =
        let p = low_parts x y e in
        subst (λ (m : Member). Of left (range_fault m end (Some y))) (sym p.2) (low_end left p.0 end y p.1 (subst (λ (m : Member). Start left m end) p.2 s) d p.3 p.4)

some_first : (left : List ℕ) (x : Member) (mid : List ℕ) → member_at left ≡ Some (x, mid) → cond {A = Option (ClassItem × List ℕ)} (begins_range mid) (range_at x (member_at (drop 1 mid))) (Some (item.Single x, mid)) ≡ None → Of left (range_fault x (drop 1 mid) (member_at (drop 1 mid)))
some_first left x mid d e = by (begins_range mid) refl e
  where
    shut : (us : List ℕ) → begins_range us ≡ true → starts is_close (drop 1 us) ≡ false
    shut [] e = absurd cc
    shut (u ∷ us) e = deep (starts is_close us) (and_parts (u == 45) (not (starts is_close us)) e).1
      where
        deep : (c : Bool) → not c ≡ true → c ≡ false
        deep true e = absurd cc
        deep false e = refl

    by : (c : Bool) → begins_range mid ≡ c → cond {A = Option (ClassItem × List ℕ)} c (range_at x (member_at (drop 1 mid))) (Some (item.Single x, mid)) ≡ None → Of left (range_fault x (drop 1 mid) (member_at (drop 1 mid)))
    by false b e = absurd cc
    by true b e = ranged left x (drop 1 mid) (start_of left x (drop 1 mid) (d ∙ ap (λ (q : List ℕ). Some (x, q)) (hyphen mid b))) (shut mid b) e

close_first : (left : List ℕ) → close_at left ≡ None → starts is_close left ≡ false
close_first [] e = refl
close_first (u ∷ us) e = by (u == 93) e
  where
    by : (c : Bool) → cond {A = Option (List ℕ)} c (Some us) None ≡ None → c ≡ false
    by true e = absurd cc
    by false e = refl

pub class_faults : (left : List ℕ) (e : Fault) → item_at left ≡ None → close_at left ≡ None → e ≡ class_fault left → FaultOf (InsideGo left) (InsideStop left) NoMark left e
unfolding class_fault item_at
class_faults left e n c d = subst (λ (f : Fault). Of left f) (sym d) (by (member_at left) refl n)
  where
    by : (o : Option (Member × List ℕ)) → member_at left ≡ o → item_from o ≡ None → Of left (class_fault_by left o)
    by None f n = none_first left f (close_first left c)
    by (Some x) f n = some_first left x.0 x.1 f n
