-- What follows a prefix of a path.
use Rattle.std.proofs.Common.{◌≡◌, ◌≤◌, List, [], ◌∷◌, ◌++◌, length, map, Bool, true, false, refl, sym, ap, ◌∙◌, arith}
use Rattle.std.specs.Prelude.{◌↔◌, ◌<◌, ◌≢◌, not, Contains, IsTrue, slice_index_or}
use Rattle.std.proofs.lemmas.Bool.{false≢true}
use Rattle.std.proofs.lemmas.List.{append-nil}
use Rattle.path_core.specs.declared.path.Event.{Event}
use Rattle.path_core.specs.declared.path.End.{End}
use Rattle.path_core.specs.declared.path.Path.{Path}
use Rattle.path_core.specs.declared.path.Child.{Child}
use Rattle.path_core.specs.declared.path.Child.TheVariants as child
use Rattle.path_core.specs.declared.query.Query.{Query}
use Rattle.path_core.specs.Taking.{items_of, Takes}

heads : {A : Type 0} (xs : List A) (x y : A) (more rest : List A) → xs ++ x ∷ more ≡ xs ++ y ∷ rest → x ≡ y
heads [] x y more rest e = cc
heads (z ∷ xs) x y more rest e = heads xs x y more rest cc

-- what follows the prefix is a child or not
taken : (query : Query) (path : Path) (next : Child) (rest : List Child) (has : Bool) → items_of path ≡ map child.Event query.prefix ++ next ∷ rest → IsTrue has ↔ Contains query.children next → IsTrue (not has) ↔ Takes query path
taken query path next rest true e h = (λ k. absurd (false≢true k), λ t. absurd (t.3 (rw (heads (map child.Event query.prefix) t.0 next t.1 rest (sym t.2 ∙ e)) (h.0 refl))))
taken query path next rest false e h = (λ k. (next, rest, e, λ x. false≢true (h.1 x)), λ t. refl)

event_items : (prefix more : List Event) (next : Event) (end : End) → map child.Event (prefix ++ next ∷ more) ++ child.End end ∷ [] ≡ map child.Event prefix ++ child.Event next ∷ (map child.Event more ++ child.End end ∷ [])
event_items [] more next end = refl
event_items (p ∷ prefix) more next end = ap (λ (xs : List Child). child.Event p ∷ xs) (event_items prefix more next end)

end_items : (prefix : List Event) (end : End) → map child.Event (prefix ++ []) ++ child.End end ∷ [] ≡ map child.Event prefix ++ child.End end ∷ []
end_items [] end = refl
end_items (p ∷ prefix) end = ap (λ (xs : List Child). child.Event p ∷ xs) (end_items prefix end)

pub event_taken : (query : Query) (path : Path) (behind : List Event) (next : Event) (has : Bool) → path.events ≡ query.prefix ++ behind → 1 ≤ length behind → next ≡ slice_index_or behind 0 next → IsTrue has ↔ Contains query.children (child.Event next) → IsTrue (not has) ↔ Takes query path
event_taken query path [] next has e long is h = absurd (omega arith)
event_taken query path (b ∷ behind) next has e long is h = taken query path (child.Event next) (map child.Event behind ++ child.End path.end ∷ []) has (ap (λ (events : List Event). map child.Event events ++ child.End path.end ∷ []) (e ∙ ap (λ (x : Event). query.prefix ++ x ∷ behind) (sym is)) ∙ event_items query.prefix behind next path.end) h

pub end_taken : (query : Query) (path : Path) (behind : List Event) (has : Bool) → path.events ≡ query.prefix ++ behind → length behind < 1 → IsTrue has ↔ Contains query.children (child.End path.end) → IsTrue (not has) ↔ Takes query path
end_taken query path [] has e short h = taken query path (child.End path.end) [] has (ap (λ (events : List Event). map child.Event events ++ child.End path.end ∷ []) e ∙ end_items query.prefix path.end) h
end_taken query path (b ∷ behind) has e short h = absurd (omega arith)

behind_prefix : (prefix events : List Event) (end : End) (next : Child) (rest : List Child) → map child.Event events ++ child.End end ∷ [] ≡ map child.Event prefix ++ next ∷ rest → (behind : List Event) × (events ≡ prefix ++ behind)
behind_prefix [] events end next rest e = (events, refl)
behind_prefix (p ∷ prefix) [] end next rest e = absurd cc
behind_prefix (p ∷ prefix) (b ∷ events) end next rest e =
    let r = behind_prefix prefix events end next rest cc in
    let same : b ≡ p = cc in
    (r.0, cc (r.1))

-- a path that doesn't begin with the prefix isn't taken
pub none_taken : (query : Query) (path : Path) → ((rest : List Event) → path.events ≢ query.prefix ++ rest) → Takes query path → ⊥
none_taken query path none t =
    let r = behind_prefix query.prefix path.events path.end t.0 t.1 t.2 in
    none r.0 r.1

pub not_same : (xs ys : List Event) → ((rest : List Event) → ys ≢ xs ++ rest) → xs ≡ ys → ⊥
not_same xs ys none e = none [] (sym e ∙ sym (append-nil xs))
