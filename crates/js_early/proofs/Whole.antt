-- The places of a whole script, part by part.
use Rattle.std.proofs.Common.{◌≡◌, ℕ, Option, None, List, [], ◌++◌, map, ap, ◌∙◌}
use Rattle.std.specs.List.{flat_map}
use Rattle.std.proofs.lemmas.List.Folds.{flat_map-map}
use Rattle.js_ast.specs.declared.statement.Script.{Script}
use Rattle.js_ast.specs.declared.parts.Identifier.{Identifier}
use Rattle.js_early.specs.Early.{Places, Found, IsLeast, body, scope, stmt_found, early_places, global_place}
use Rattle.js_early.specs.Parts.{least_with, globals_in, declared_in, stmts_places}
use Rattle.js_early.proofs.Least.{least_then, found_least}
use Rattle.js_early.proofs.Opens.{body_of}

pub script_places : (script : Script) → early_places script ≡ globals_in (declared_in script.body) ++ (scope (declared_in script.body) ++ stmts_places script.body)
unfolding early_places global_place
script_places script =
    ap (λ (ns : List Identifier). flat_map global_place ns ++ body [] (map stmt_found script.body)) (flat_map-map (λ (f : Found). f.declared) stmt_found script.body)
    ∙ ap (λ (ps : Places). flat_map global_place (declared_in script.body) ++ ps) (body_of [] script.body)

pub script_least : (script : Script) (names : List Identifier) (one two three found : Option ℕ) → names ≡ declared_in script.body
    → one ≡ least_with None (globals_in names) → two ≡ least_with one (scope names) → three ≡ least_with two (stmts_places script.body) → found ≡ three → IsLeast (early_places script) found
script_least script names one two three found declares e d c same = found_least (early_places script) found
    (same ∙ rw (script_places, ← declares) (least_then _ _ _ _ _ e (least_then _ _ _ _ _ d c)))
