-- Members of a class that were read, with other units behind them.
use Rattle.std.proofs.Common.{◌≡◌, ℕ, false, List, [], ◌∷◌, ◌++◌, Some, refl, sym, ap, subst, ◌∙◌, append_assoc}
use Rattle.re_parser.specs.Agreement.{AgreeInside, is_caret}
use Rattle.re_parser.specs.Classes.{IsMembers, NoMembers}
use Rattle.re_parser.specs.Escapes.{starts, item_at, item_units}
use Rattle.re_parser.specs.Reading.{FaultOf, MembersGo, MembersStop, NoMark}
use Rattle.re_parser.specs.declared.kinds.ClassItem.{ClassItem}
use Rattle.re_parser.specs.declared.refusal.Fault.{Fault}
use Rattle.re_parser.proofs.Members.{Grows, grows_start, grows_more}
use Rattle.re_parser.proofs.Agreeing.{inside_behind, inside_same}
use Rattle.re_parser.proofs.ClassCuts.{item_cut}
use Rattle.re_parser.proofs.Lifts.{Lifts, lift_fault}

-- the ranges that were read, and the units that are left
pub record Passed (units : List ℕ) (ranges : List (ℕ × ℕ)) (left : List ℕ) : Type 0 where
  pub part : List ℕ
  pub parts : units ≡ part ++ left
  pub grows : (more : List ℕ) → AgreeInside left more → Grows (part ++ more) ranges more

pub passed_start : (units : List ℕ) → Passed units [] units
passed_start units = record { part = []; parts = refl; grows = λ more a. grows_start more }

pub passed_grows : (units : List ℕ) (ranges : List (ℕ × ℕ)) (left : List ℕ) → Passed units ranges left → Grows units ranges left
passed_grows units ranges left p = subst (λ (x : List ℕ). Grows x ranges left) (sym p.parts) (p.grows left (inside_same left))

passed_more : (units : List ℕ) (ranges : List (ℕ × ℕ)) (left : List ℕ) (i : ClassItem) (mid : List ℕ) → Passed units ranges left → item_at left ≡ Some (i, mid) → Passed units (ranges ++ item_units i) mid
passed_more units ranges left i mid p e =
    let c = item_cut left i mid e in
    record {
      part = p.part ++ c.part;
      parts = p.parts ∙ ap (λ (x : List ℕ). p.part ++ x) c.parts ∙ sym (append_assoc p.part c.part mid);
      grows = λ more a.
          let agrees : AgreeInside left (c.part ++ more) = subst (λ (x : List ℕ). AgreeInside x (c.part ++ more)) (sym c.parts) (inside_behind c.part mid more a) in
          let there = grows_more (p.part ++ (c.part ++ more)) ranges (c.part ++ more) i more (p.grows (c.part ++ more) agrees) (c.again more a) in
          subst (λ (x : List ℕ). Grows x (ranges ++ item_units i) more) (sym (append_assoc p.part c.part more)) there;
    }

pub passed_next : (units : List ℕ) (ranges new : List (ℕ × ℕ)) (left : List ℕ) (i : ClassItem) (mid : List ℕ) → Passed units ranges left → item_at left ≡ Some (i, mid) → Some (ranges ++ item_units i) ≡ Some new → Passed units new mid
passed_next units ranges new left i mid p e f = let same : ranges ++ item_units i ≡ new = cc in subst (λ (q : List (ℕ × ℕ)). Passed units q mid) same (passed_more units ranges left i mid p e)

-- ---- what goes on behind units that are left

pub record InsideGo (left front : List ℕ) : Type 0 where
  pub more : List ℕ
  pub caret : starts is_caret front ≡ false → (tail : List ℕ) → starts is_caret (front ++ (more ++ tail)) ≡ false
  pub agrees : (tail : List ℕ) → AgreeInside left (front ++ (more ++ tail))
  pub ranges : List (ℕ × ℕ)
  pub members : (tail : List ℕ) → IsMembers (front ++ (more ++ tail)) ranges tail

abbrev pub InsideStop : List ℕ → List ℕ → Type 0
InsideStop left front = (more : List ℕ) → AgreeInside left (front ++ more) × NoMembers (front ++ more)

caret_behind : (part x y : List ℕ) → (starts is_caret x ≡ false → starts is_caret (x ++ y) ≡ false) → starts is_caret (part ++ x) ≡ false → starts is_caret ((part ++ x) ++ y) ≡ false
caret_behind [] x y h e = h e
caret_behind (u ∷ part) x y h e = e

passed_lifts : (units : List ℕ) (ranges : List (ℕ × ℕ)) (left : List ℕ) (p : Passed units ranges left) → Lifts (InsideGo left) (InsideStop left) NoMark MembersGo MembersStop NoMark p.part
passed_lifts units ranges left p = record {
  goes = λ x g. record {
    more = g.more;
    caret = λ e tail. caret_behind p.part x (g.more ++ tail) (λ k. g.caret k tail) e;
    ranges = ranges ++ g.ranges;
    members = λ tail.
        let there = (p.grows (x ++ (g.more ++ tail)) (g.agrees tail)).forth g.ranges tail (g.members tail) in
        subst (λ (y : List ℕ). IsMembers y (ranges ++ g.ranges) tail) (sym (append_assoc p.part x (g.more ++ tail))) there;
  };
  stops = λ x s more all rest h.
      let there : IsMembers (p.part ++ (x ++ more)) all rest = subst (λ (y : List ℕ). IsMembers y all rest) (append_assoc p.part x more) h in
      let b = (p.grows (x ++ more) (s more).0).back all rest there in
      (s more).1 b.0 rest b.1;
  due = λ x d. d;
}

pub passed_fault : (units : List ℕ) (ranges : List (ℕ × ℕ)) (left : List ℕ) (e : Fault) → Passed units ranges left → FaultOf (InsideGo left) (InsideStop left) NoMark left e → FaultOf MembersGo MembersStop NoMark units e
passed_fault units ranges left e p h = lift_fault (InsideGo left) (InsideStop left) NoMark MembersGo MembersStop NoMark p.part left units p.parts (passed_lifts units ranges left p) e h
