-- The lines that are picked of a list, as the list grows.
use Rattle.std.proofs.Common.{◌≡◌, ◌≢◌, List, [], ◌∷◌, ◌++◌, get_or, map, refl, sym, ap, subst, ◌∙◌, append_assoc, arith}
use Rattle.std.specs.Prelude.{Option}
use Rattle.std.specs.List.{All, AllPairs, Contains}
use Rattle.std.proofs.lemmas.List.Elements.{All-push, All-weaker, All-map, All-contains, All-get_or, Contains-append_left, Contains-push}
use Rattle.std.proofs.lemmas.List.Quantifiers.{all_pairs_push}
use Rattle.path_core.specs.declared.path.Path.{Path}
use Rattle.report_text.specs.declared.report.Line.{Line}
use Rattle.explorer.specs.Listing.{line_path, IsFirst, Precedes, Picks}

abbrev HasNot : Option Path → Line → Type 0
HasNot path l = line_path l ≢ path

paths_push : (ls : List Line) (l : Line) → map line_path (ls ++ l ∷ []) ≡ map line_path ls ++ line_path l ∷ []
paths_push [] l = refl
paths_push (m ∷ ms) l = ap (λ (ps : List (Option Path)). line_path m ∷ ps) (paths_push ms l)

more : (before after : List Line) (l m : Line) → (before ++ l ∷ after) ++ m ∷ [] ≡ before ++ l ∷ (after ++ m ∷ [])
more before after l m = append_assoc before (l ∷ after) (m ∷ [])

-- a line that is picked stays so
first_more : (all : List Line) (m l : Line) → IsFirst all l → IsFirst (all ++ m ∷ []) l
first_more all m l h = (h.0, h.1 ++ m ∷ [], ap (λ (ls : List Line). ls ++ m ∷ []) h.2 ∙ more h.0 h.1 l m, h.3)

precedes_more : (all : List Line) (n l m : Line) → Precedes all l m → Precedes (all ++ n ∷ []) l m
precedes_more all n l m h =
    (h.0, h.1, h.2 ++ n ∷ [], ap (λ (ls : List Line). ls ++ n ∷ []) h.3 ∙ append_assoc (h.0 ++ l ∷ h.1) (m ∷ h.2) (n ∷ []))

order_more : (all picked : List Line) (n : Line) → AllPairs (Precedes all) picked → AllPairs (Precedes (all ++ n ∷ [])) picked
order_more all picked n h = λ i j d lt within. precedes_more all n (get_or picked i d) (get_or picked j d) (h i j d lt within)

pub picks_none : Picks [] []
picks_none = record {
  every = λ k d lt. absurd (omega arith);
  once = λ i j d lt within. absurd (omega arith);
  first = λ k d lt. absurd (omega arith);
  order = λ i j d lt within. absurd (omega arith);
}

-- a line whose path is there already
pub picks_known : (all picked : List Line) (l : Line) → Picks all picked → Contains (map line_path picked) (line_path l) → Picks (all ++ l ∷ []) picked
picks_known all picked l h known = record {
  every = All-push (λ m. Contains (map line_path picked) (line_path m)) all l h.every known;
  once = h.once;
  first = All-weaker (IsFirst all) (IsFirst (all ++ l ∷ [])) (first_more all l) picked h.first;
  order = order_more all picked l h.order;
}

-- no line of the list has a path that no picked line has
none_before : (all picked : List Line) (path : Option Path) → Picks all picked → All (HasNot path) picked → All (HasNot path) all
none_before all picked path h new =
    All-weaker (λ m. Contains (map line_path picked) (line_path m)) (HasNot path)
    (λ m there same. All-contains (λ p. p ≢ path) (map line_path picked) (line_path m) (All-map (λ p. p ≢ path) line_path picked new) there same)
    all h.every

last_precedes : (all : List Line) (l m : Line) → IsFirst all l → Precedes (all ++ m ∷ []) l m
last_precedes all l m h = (h.0, h.1, [], ap (λ (ls : List Line). ls ++ m ∷ []) h.2)

-- a line whose path is new
pub picks_new : (all picked : List Line) (l : Line) → Picks all picked → All (HasNot (line_path l)) picked → Picks (all ++ l ∷ []) (picked ++ l ∷ [])
picks_new all picked l h new = record {
  every =
      let there : List (Option Path) = map line_path (picked ++ l ∷ []) in
      let same : there ≡ map line_path picked ++ line_path l ∷ [] = paths_push picked l in
      subst (λ (ps : List (Option Path)). All (λ m. Contains ps (line_path m)) (all ++ l ∷ [])) (sym same)
      (All-push (λ m. Contains (map line_path picked ++ line_path l ∷ []) (line_path m)) all l
      (All-weaker (λ m. Contains (map line_path picked) (line_path m)) (λ m. Contains (map line_path picked ++ line_path l ∷ []) (line_path m)) (λ m c. Contains-append_left (map line_path picked) (line_path l ∷ []) (line_path m) c) all h.every)
      (Contains-push (map line_path picked) (line_path l)));
  once = all_pairs_push (λ m n. line_path m ≢ line_path n) picked l h.once (λ k d lt. All-get_or (HasNot (line_path l)) picked k d lt new);
  first = All-push (IsFirst (all ++ l ∷ [])) picked l (All-weaker (IsFirst all) (IsFirst (all ++ l ∷ [])) (first_more all l) picked h.first) (all, [], refl, none_before all picked (line_path l) h new);
  order = all_pairs_push (Precedes (all ++ l ∷ [])) picked l (order_more all picked l h.order) (λ k d lt. last_precedes all (get_or picked k d) l (All-get_or (IsFirst all) picked k d lt h.first));
}
