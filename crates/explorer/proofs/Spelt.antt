-- A listed report has a spelling, where the names of the inputs are Names.
use Rattle.std.proofs.Common.{◌≡◌, ℕ, Bool, true, false, List, [], ◌∷◌, ◌++◌, map, refl, subst, arith}
use Rattle.std.specs.Prelude.{◌&&◌}
use Rattle.std.specs.List.{All, list_all}
use Rattle.std.proofs.lemmas.List.Elements.{All-head, All-tail}
use Rattle.std.proofs.lemmas.Bool.Decides.{nat_tests}
use Rattle.path_core.specs.declared.bounds.Bounds.{Bounds}
use Rattle.path_core.specs.declared.bounds.Declared.{Declared}
use Rattle.js_units.specs.Characters.{is_letter, is_digit, is_name_start, is_name_part}
use Rattle.path_core.specs.Names.{is_word}
use Rattle.path_core.specs.Accepted.{IsAccepted}
use Rattle.path_core.specs.Inputs.{Values, within}
use Rattle.js_ast.specs.declared.statement.Script.{Script}
use Rattle.report_text.specs.declared.report.Line.{Line}
use Rattle.report_text.specs.declared.report.Report.{Report}
use Rattle.report_text.specs.Lines.{is_ascii, is_item_spelt, IsLineSpelt, AreSpelt}
use Rattle.explorer.specs.Listing.{named, line_of, IsFirst, IsListed}

both_true : (a b : Bool) → (a && b) ≡ true → (a ≡ true) × (b ≡ true)
both_true true true e = (refl, refl)
both_true true false e = absurd cc
both_true false b e = absurd cc

and_true : (a b : Bool) → a ≡ true → b ≡ true → (a && b) ≡ true
and_true true true e f = refl
and_true true false e f = absurd cc
and_true false b e f = absurd cc

start_ascii : (b : ℕ) → is_name_start b ≡ true → is_ascii b ≡ true
unfolding is_name_start is_letter
start_ascii b e = grind (arith, nat_tests)

part_ascii : (b : ℕ) → is_name_part b ≡ true → is_ascii b ≡ true
unfolding is_name_part is_name_start is_letter is_digit
part_ascii b e = grind (arith, nat_tests)

bytes_ascii : (bs : List ℕ) → list_all is_name_part bs ≡ true → list_all is_ascii bs ≡ true
bytes_ascii [] e = refl
bytes_ascii (b ∷ bs) e =
    let h = both_true (is_name_part b) (list_all is_name_part bs) e in
    and_true (is_ascii b) (list_all is_ascii bs) (part_ascii b h.0) (bytes_ascii bs h.1)

word_ascii : (name : List ℕ) → is_word name ≡ true → list_all is_ascii name ≡ true
word_ascii [] e = refl
word_ascii (b ∷ bs) e =
    let h = both_true (is_name_start b) (list_all is_name_part bs) e in
    and_true (is_ascii b) (list_all is_ascii bs) (start_ascii b h.0) (bytes_ascii bs h.1)

name_ascii : (d : Declared) → IsAccepted d → list_all is_ascii d.name ≡ true
name_ascii d h = word_ascii d.name (both_true (is_word d.name) _ h.name).0

items_spelt : (ds : List Declared) (vs : Values) → All IsAccepted ds → list_all is_item_spelt (named ds vs) ≡ true
items_spelt [] vs h = refl
items_spelt (d ∷ ds) [] h = refl
items_spelt (d ∷ ds) (v ∷ vs) h =
    and_true (list_all is_ascii d.name) (list_all is_item_spelt (named ds vs)) (name_ascii d (All-head IsAccepted d ds h)) (items_spelt ds vs (All-tail IsAccepted d ds h))

lines_spelt : (script : Script) (bounds : Bounds) (xs : List Values) → All IsAccepted bounds.inputs → AreSpelt (map (line_of script bounds) xs)
lines_spelt script bounds [] h = tt
lines_spelt script bounds (x ∷ xs) h = (items_spelt bounds.inputs x h, lines_spelt script bounds xs h)

spelt_at : (before after : List Line) (l : Line) → AreSpelt (before ++ l ∷ after) → IsLineSpelt l
spelt_at [] after l e = e.0
spelt_at (m ∷ before) after l e = spelt_at before after l e.1

picked_spelt : (all picked : List Line) → AreSpelt all → All (IsFirst all) picked → AreSpelt picked
picked_spelt all [] e h = tt
picked_spelt all (l ∷ ls) e h =
    let first = All-head (IsFirst all) l ls h in
    (spelt_at first.0 first.1 l (subst AreSpelt first.2 e), picked_spelt all ls e (All-tail (IsFirst all) l ls h))

pub listed_spelt : (script : Script) (bounds : Bounds) (report : Report) → All IsAccepted bounds.inputs → IsListed script bounds report → AreSpelt report.lines
listed_spelt script bounds report h listed = picked_spelt _ report.lines (lines_spelt script bounds (within bounds.inputs) h) listed.lines.first
