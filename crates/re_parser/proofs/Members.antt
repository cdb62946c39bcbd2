-- Classes: what is read is what is spelt, and in one way.
use Rattle.std.proofs.Common.{◌≡◌, ℕ, Bool, true, false, cond, List, [], ◌∷◌, ◌++◌, Some, None, refl, sym, ap, subst, ◌∙◌, append_assoc}
use Rattle.std.specs.Prelude.{◌==◌}
use Rattle.std.proofs.lemmas.List.{append-nil}
use Rattle.std.proofs.lemmas.Bool.{eqb-true}
use Rattle.re_parser.specs.Classes.{IsMembers, members_end, members_more, NoMembers, close_at, Lacks}
use Rattle.re_parser.specs.declared.refusal.Fault.{Fault}
use Rattle.re_parser.specs.declared.refusal.Fault.TheVariants as fault
use Rattle.re_parser.specs.Escapes.{member_at, item_at, item_units}
use Rattle.re_parser.specs.declared.kinds.ClassItem.{ClassItem}

-- no member begins with `]`
close_none : (units rest : List ℕ) → units ≡ 93 ∷ rest → item_at units ≡ None
unfolding item_at member_at
close_none units rest e = rw e refl

-- the parts of what was read
pub parts_same : (A B : Type 0) (x y : A × B) → Some x ≡ Some y → (x.0 ≡ y.0) × (x.1 ≡ y.1)
parts_same A B x y e = (cc, cc)

same_item : (units : List ℕ) (i j : ClassItem) (a b : List ℕ) → item_at units ≡ Some (i, a) → item_at units ≡ Some (j, b) → (i ≡ j) × (a ≡ b)
same_item units i j a b e f = parts_same ClassItem (List ℕ) (i, a) (j, b) (sym e ∙ f)

-- a class goes on behind an item
pub members_next : (units : List ℕ) (all : List (ℕ × ℕ)) (rest : List ℕ) → IsMembers units all rest → (i : ClassItem) (mid : List ℕ) → item_at units ≡ Some (i, mid) → (more : List (ℕ × ℕ)) × (all ≡ item_units i ++ more) × IsMembers mid more rest
members_next _ _ _ (members_end units rest e) i mid f = absurd (let none = close_none units rest e in cc)
members_next _ _ _ (members_more units j next more rest e h) i mid f =
    let s = same_item units j i next mid e f in
    (more, ap (λ (x : ClassItem). item_units x ++ more) s.0, subst (λ (q : List ℕ). IsMembers q more rest) s.1 h)

pub members_stop : (units : List ℕ) (all : List (ℕ × ℕ)) (rest : List ℕ) → IsMembers units all rest → item_at units ≡ None → (all ≡ []) × (units ≡ 93 ∷ rest)
members_stop _ _ _ (members_end units rest e) f = (refl, e)
members_stop _ _ _ (members_more units j next more rest e h) f = absurd cc

behind_close : (units a b : List ℕ) → units ≡ 93 ∷ a → units ≡ 93 ∷ b → a ≡ b
behind_close units a b e f = let same : 93 ∷ a ≡ 93 ∷ b = sym e ∙ f in cc

pub members_same : (units : List ℕ) (all : List (ℕ × ℕ)) (rest : List ℕ) → IsMembers units all rest → (others : List (ℕ × ℕ)) (behind : List ℕ) → IsMembers units others behind → (all ≡ others) × (rest ≡ behind)
members_same _ _ _ (members_end units rest e) others behind h =
    let s = members_stop units others behind h (close_none units rest e) in (sym s.0, behind_close units rest behind e s.1)
members_same _ _ _ (members_more units i mid more rest e h) others behind g =
    let n = members_next units others behind g i mid e in
    let s = members_same mid more rest h n.0 behind n.2 in
    (ap (λ (q : List (ℕ × ℕ)). item_units i ++ q) s.0 ∙ sym n.1, s.1)

-- ---- the loop

-- the ranges that were read, and the units that are left of a class
pub record Grows (units : List ℕ) (ranges : List (ℕ × ℕ)) (left : List ℕ) : Type 0 where
  pub forth : (more : List (ℕ × ℕ)) (rest : List ℕ) → IsMembers left more rest → IsMembers units (ranges ++ more) rest
  pub back : (all : List (ℕ × ℕ)) (rest : List ℕ) → IsMembers units all rest → (more : List (ℕ × ℕ)) × IsMembers left more rest

pub grows_start : (units : List ℕ) → Grows units [] units
grows_start units = record { forth = λ more rest h. h; back = λ all rest h. (all, h) }

pub grows_more : (units : List ℕ) (ranges : List (ℕ × ℕ)) (left : List ℕ) (i : ClassItem) (mid : List ℕ) → Grows units ranges left → item_at left ≡ Some (i, mid) → Grows units (ranges ++ item_units i) mid
grows_more units ranges left i mid g e = record {
  forth = λ more rest h. subst (λ (q : List (ℕ × ℕ)). IsMembers units q rest) (sym (append_assoc ranges (item_units i) more)) (g.forth (item_units i ++ more) rest (members_more left i mid more rest e h));
  back = λ all rest h. let b = g.back all rest h in let n = members_next left b.0 rest b.1 i mid e in (n.0, n.2);
}

pub grows_end : (units : List ℕ) (ranges : List (ℕ × ℕ)) (left rest : List ℕ) → Grows units ranges left → left ≡ 93 ∷ rest → IsMembers units ranges rest
grows_end units ranges left rest g e = subst (λ (q : List (ℕ × ℕ)). IsMembers units q rest) (append-nil ranges) (g.forth [] rest (members_end left rest e))

pub grows_none : (units : List ℕ) (ranges : List (ℕ × ℕ)) (left : List ℕ) → Grows units ranges left → item_at left ≡ None → ((rest : List ℕ) → left ≡ 93 ∷ rest → ⊥) → NoMembers units
grows_none units ranges left g e never = λ all rest h. let b = g.back all rest h in never rest (members_stop left b.0 rest b.1 e).1

pub close_is : (left rest : List ℕ) → close_at left ≡ Some rest → left ≡ 93 ∷ rest
close_is [] rest e = absurd cc
close_is (u ∷ us) rest e = by (u == 93) refl e
  where
    by : (x : Bool) → (u == 93) ≡ x → cond x (Some us) None ≡ Some rest → u ∷ us ≡ 93 ∷ rest
    by true a f = let is = eqb-true u 93 a in let same : us ≡ rest = cc in cc
    by false a f = absurd cc

pub close_isnt : (left rest : List ℕ) → close_at left ≡ None → left ≡ 93 ∷ rest → ⊥
close_isnt left rest e f = let some = ap close_at f in absurd cc

pub grows_closed : (units : List ℕ) (ranges : List (ℕ × ℕ)) (left rest : List ℕ) → Grows units ranges left → close_at left ≡ Some rest → IsMembers units ranges rest
grows_closed units ranges left rest g e = grows_end units ranges left rest g (close_is left rest e)

pub grows_stuck : (units : List ℕ) (ranges : List (ℕ × ℕ)) (left : List ℕ) → Grows units ranges left → item_at left ≡ None → close_at left ≡ None → NoMembers units
grows_stuck units ranges left g e f = grows_none units ranges left g e (λ rest h. close_isnt left rest f h)

pub grows_next : (units : List ℕ) (ranges new : List (ℕ × ℕ)) (left : List ℕ) (i : ClassItem) (mid : List ℕ) → Grows units ranges left → item_at left ≡ Some (i, mid) → Some (ranges ++ item_units i) ≡ Some new → Grows units new mid
grows_next units ranges new left i mid g e f = let same : ranges ++ item_units i ≡ new = cc in subst (λ (q : List (ℕ × ℕ)). Grows units q mid) same (grows_more units ranges left i mid g e)

pub lacks : (T : Type 0) (e : Fault) → T → Lacks T e
lacks T fault.NoMemory h = tt
lacks T (fault.Syntax left) h = h
lacks T (fault.BadEscape left) h = h
lacks T (fault.TooManyGroups left) h = h
