-- Classes are read again with other units behind them.
use Rattle.std.proofs.Common.{◌≡◌, ℕ, List, [], ◌∷◌, ◌++◌, Some, refl, sym, ap, subst, ◌∙◌, append_assoc}
use Rattle.re_parser.specs.Agreement.{AgreeInside}
use Rattle.re_parser.specs.Classes.{IsMembers, members_end, members_more}
use Rattle.re_parser.specs.Escapes.{item_at, item_units}
use Rattle.re_parser.specs.declared.kinds.ClassItem.{ClassItem}
use Rattle.re_parser.proofs.Cuts.{Cut, cuts_item}
use Rattle.re_parser.proofs.Agreeing.{inside_behind, inside_close}

pub item_cut : (units : List ℕ) (v : ClassItem) (rest : List ℕ) → item_at units ≡ Some (v, rest) → Cut AgreeInside ClassItem item_at units v rest
item_cut = cuts_item AgreeInside (λ rest more a. a.digit) (λ rest more a. a.range [])

-- what is read up to a `]`
pub record MembersCut (units : List ℕ) (ranges : List (ℕ × ℕ)) (rest : List ℕ) : Type 0 where
  pub part : List ℕ
  pub parts : units ≡ part ++ 93 ∷ rest
  pub again : (more : List ℕ) → IsMembers (part ++ 93 ∷ more) ranges more

pub members_cut : (units : List ℕ) (ranges : List (ℕ × ℕ)) (rest : List ℕ) → IsMembers units ranges rest → MembersCut units ranges rest
members_cut _ _ _ (members_end units rest e) = record { part = []; parts = e; again = λ more. members_end (93 ∷ more) more refl }
members_cut _ _ _ (members_more units item mid ranges rest e h) =
    let m = members_cut mid ranges rest h in
    let c = item_cut units item mid e in
    record {
      part = c.part ++ m.part;
      parts = c.parts ∙ ap (λ (x : List ℕ). c.part ++ x) m.parts ∙ sym (append_assoc c.part m.part (93 ∷ rest));
      again = λ more.
          let agrees : AgreeInside mid (m.part ++ 93 ∷ more) = subst (λ (x : List ℕ). AgreeInside x (m.part ++ 93 ∷ more)) (sym m.parts) (inside_behind m.part (93 ∷ rest) (93 ∷ more) (inside_close rest more)) in
          let there = members_more (c.part ++ (m.part ++ 93 ∷ more)) item (m.part ++ 93 ∷ more) ranges more (c.again (m.part ++ 93 ∷ more) agrees) (m.again more) in
          subst (λ (x : List ℕ). IsMembers x (item_units item ++ ranges) more) (sym (append_assoc c.part m.part (93 ∷ more))) there;
    }
