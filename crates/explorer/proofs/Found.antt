-- What is picked, as another path is looked for and added.
use Rattle.std.proofs.Common.{◌≡◌, ◌≢◌, Bool, true, false, ℕ, List, [], ◌∷◌, ◌++◌, map, refl, sym, ap, subst, ◌∙◌, arith, Option, Some, None}
use Rattle.std.specs.Prelude.{is_some, cond, if◌then◌else◌}
use Rattle.std.specs.Option.{unwrap_or}
use Rattle.std.specs.List.{All, Contains}
use Rattle.std.specs.Map.{lookup}
use Rattle.std.proofs.lemmas.List.{map-append}
use Rattle.std.proofs.lemmas.List.Elements.{All-cons, Contains-append_right}
use Rattle.indexmap.specs.IndexMap.{insert_entry}
use Rattle.path_core.specs.declared.path.Path.{Path}
use Rattle.report_text.specs.declared.report.Line.{Line}
use Rattle.report_text.specs.declared.report.Line.TheVariants as lines
use Rattle.explorer.specs.declared.keys.Key.{Key}
use Rattle.explorer.specs.Found.{Named, found_line, found_lines}
use Rattle.explorer.specs.Keys.{same_key}
use Rattle.explorer.specs.Listing.{line_path, Picks}
use Rattle.explorer.specs.SamePaths.{path_decides}
use Rattle.explorer.proofs.Picking.{picks_known, picks_new}

abbrev Entries : Type 0
Entries = List (Key × Named)

paths : Entries → List (Option Path)
paths es = map line_path (found_lines es)

known : (k : Key) (es : Entries) → is_some (lookup (same_key k) es) ≡ true → Contains (paths es) (Some k.path)
unfolding paths
known k [] h = absurd (grind arith)
known k (e ∷ es) h = by (same_key k e.0) refl (known k es)
  where
    by : (b : Bool) → same_key k e.0 ≡ b → (is_some (lookup (same_key k) es) ≡ true → Contains (paths es) (Some k.path)) → Contains (paths (e ∷ es)) (Some k.path)
    by true p rest = (0, omega arith, ap (λ (q : Path). Some q) (sym ((path_decides k.path e.0.path).0 p)))
    by false p rest = Contains-append_right (Some e.0.path ∷ []) (paths es) (Some k.path) (rest (subst (λ b. is_some (cond b (Some e.1) (lookup (same_key k) es)) ≡ true) p h))

inside : (p q : Path) → Some p ≡ Some q → p ≡ q
inside p q e = ap (λ (o : Option Path). unwrap_or o p) e

-- no line has the path of a key that isn't found
new_path : (k : Key) (es : Entries) → is_some (lookup (same_key k) es) ≡ false → All (λ l. line_path l ≢ Some k.path) (found_lines es)
new_path k [] h = λ i d lt. absurd (omega arith)
new_path k (e ∷ es) h = by (same_key k e.0) refl (new_path k es)
  where
    by : (b : Bool) → same_key k e.0 ≡ b → (is_some (lookup (same_key k) es) ≡ false → All (λ l. line_path l ≢ Some k.path) (found_lines es)) → All (λ l. line_path l ≢ Some k.path) (found_lines (e ∷ es))
    by true p rest = absurd (let no : is_some (cond true (Some e.1) (lookup (same_key k) es)) ≡ false = subst (λ b. is_some (cond b (Some e.1) (lookup (same_key k) es)) ≡ false) p h in grind arith)
    by false p rest =
        All-cons (λ l. line_path l ≢ Some k.path) (found_line e) (found_lines es)
        (λ same. absurd (let other : same_key k e.0 ≡ true = (path_decides k.path e.0.path).1 (sym (inside e.0.path k.path same)) in grind arith))
        (rest (subst (λ b. is_some (cond b (Some e.1) (lookup (same_key k) es)) ≡ false) p h))

pushed : (k : Key) (input : Named) (es : Entries) → is_some (lookup (same_key k) es) ≡ false → insert_entry same_key es k input ≡ es ++ (k, input) ∷ []
pushed k input [] h = refl
pushed k input (e ∷ es) h = by (same_key k e.0) refl (pushed k input es)
  where
    by : (b : Bool) → same_key k e.0 ≡ b → (is_some (lookup (same_key k) es) ≡ false → insert_entry same_key es k input ≡ es ++ (k, input) ∷ []) → insert_entry same_key (e ∷ es) k input ≡ (e ∷ es) ++ (k, input) ∷ []
    by true p rest = absurd (let no : is_some (cond true (Some e.1) (lookup (same_key k) es)) ≡ false = subst (λ b. is_some (cond b (Some e.1) (lookup (same_key k) es)) ≡ false) p h in grind arith)
    by false p rest =
        subst (λ b. (if b then (e.0, input) ∷ es else e ∷ insert_entry same_key es k input) ≡ (e ∷ es) ++ (k, input) ∷ []) (sym p)
        (ap (λ (xs : Entries). e ∷ xs) (rest (subst (λ b. is_some (cond b (Some e.1) (lookup (same_key k) es)) ≡ false) p h)))

-- an input whose path is there already
pub keeps : (all : List Line) (es : Entries) (k : Key) (input : Named) → is_some (lookup (same_key k) es) ≡ true → Picks all (found_lines es) → Picks (all ++ lines.Path input k.path ∷ []) (found_lines es)
unfolding paths
keeps all es k input there h = picks_known all (found_lines es) (lines.Path input k.path) h (known k es there)

-- an input whose path is new
pub adds : (all : List Line) (es : Entries) (k : Key) (input : Named) → is_some (lookup (same_key k) es) ≡ false → Picks all (found_lines es) → Picks (all ++ lines.Path input k.path ∷ []) (found_lines (insert_entry same_key es k input))
adds all es k input absent h =
    subst (λ (ls : List Line). Picks (all ++ lines.Path input k.path ∷ []) ls)
    (sym (ap found_lines (pushed k input es absent) ∙ map-append found_line es ((k, input) ∷ [])))
    (picks_new all (found_lines es) (lines.Path input k.path) h (new_path k es absent))
