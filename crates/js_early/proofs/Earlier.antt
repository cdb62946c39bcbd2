-- What a set says of the names before a name.
use Rattle.std.proofs.Common.{◌≡◌, ℕ, Bool, true, false, cond, not, ◌||◌, if◌then◌else◌, List, [], ◌∷◌, ◌++◌, Option, refl, ap, sym, ◌∙◌, rules, arith}
use Rattle.std.specs.List.{list_any}
use Rattle.std.specs.Prelude.{bytes_eq}
use Rattle.std.specs.BTreeSet.{contains, Updates}
use Rattle.std.proofs.lemmas.Map.Text.{is_eq-slice_cmp}
use Rattle.std.proofs.lemmas.Slice.Eq.{bytes_eq-Decides}
use denote.Ref.{Bor}
use Rattle.js_ast.specs.declared.parts.Identifier.{Identifier}
use Rattle.js_early.specs.Early.{same_name, repeated}
use Rattle.js_early.specs.Parts.{least_with}
use Rattle.js_early.specs.Scopes.{Seen, Holds, Declares, in_order}

or_is : (a b : Bool) → cond a true b ≡ (a || b)
or_is true b = refl
or_is false b = refl

not_false : {b : Bool} → not b ≡ false → b ≡ true
not_false {b} h = search (rules, h)

not_true : {b : Bool} → not b ≡ true → b ≡ false
not_true {b} h = search (rules, h)

same_either : (xs ys : List ℕ) → bytes_eq xs ys ≡ bytes_eq ys xs
same_either xs ys = grind (arith, bytes_eq-Decides xs ys, bytes_eq-Decides ys xs)

holds_more : (old new : Seen) (name : Identifier) (key : Bor (List ℕ)) → key.now ≡ name.name → Updates in_order old new key true → (earlier : List Identifier) → Holds old earlier → Holds new (name ∷ earlier)
holds_more old new name key is updates earlier h = record {
  has = λ q. updates.0 q ∙ ap (λ (b : Bool). cond b true (contains in_order old q)) (is_eq-slice_cmp key.now q.now ∙ ap (λ (k : List ℕ). bytes_eq k q.now) is ∙ same_either name.name q.now)
      ∙ or_is (bytes_eq q.now name.name) (contains in_order old q) ∙ ap (λ (b : Bool). bytes_eq q.now name.name || b) (h.has q);
}

is_earlier : (old : Seen) (name : Identifier) (key : Bor (List ℕ)) → key.now ≡ name.name → (earlier : List Identifier) → Holds old earlier → contains in_order old key ≡ list_any (same_name name) earlier
is_earlier old name key is earlier h = h.has key ∙ ap (λ (k : List ℕ). list_any (λ (n : Identifier). bytes_eq k n.name) earlier) is

-- the places of a name that stands behind these, and of those behind it
abbrev behind : Identifier → List Identifier → List Identifier → Bool → List ℕ
behind name earlier rest b = (if b then name.site ∷ [] else []) ++ repeated (name ∷ earlier) rest

pub declares_again : (old new : Seen) (found found' : Option ℕ) (name : Identifier) (key : Bor (List ℕ)) → key.now ≡ name.name → Updates in_order old new key true → (added : Bool) → added ≡ not (contains in_order old key) → added ≡ false
    → found' ≡ least_with found (name.site ∷ []) → Declares old new found found' name
unfolding least_with
declares_again old new found found' name key is updates added told old_has note = record {
  holds = holds_more old new name key is updates;
  least = λ earlier rest h.
      ap (λ (b : Bool). least_with found (behind name earlier rest b)) (sym (is_earlier old name key is earlier h) ∙ not_false (sym told ∙ old_has))
      ∙ ap (λ (f : Option ℕ). least_with f (repeated (name ∷ earlier) rest)) (sym note);
}

pub declares_first : (old new : Seen) (found found' : Option ℕ) (name : Identifier) (key : Bor (List ℕ)) → key.now ≡ name.name → Updates in_order old new key true → (added : Bool) → added ≡ not (contains in_order old key) → added ≡ true
    → found' ≡ found → Declares old new found found' name
declares_first old new found found' name key is updates added told lacks same = record {
  holds = holds_more old new name key is updates;
  least = λ earlier rest h.
      ap (λ (b : Bool). least_with found (behind name earlier rest b)) (sym (is_earlier old name key is earlier h) ∙ not_true (sym told ∙ lacks))
      ∙ ap (λ (f : Option ℕ). least_with f (repeated (name ∷ earlier) rest)) (sym same);
}

pub holds_none : (seen : Seen) → seen.keys ≡ [] → Holds seen []
holds_none seen none = record { has = λ q. rw none refl }
