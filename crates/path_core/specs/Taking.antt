-- Which paths take a query: they go on behind its prefix, and not by one of its children.
use Rattle.std.specs.Prelude.{◌≡◌, List, [], ◌∷◌, ◌++◌, map, Contains}
use Rattle.path_core.specs.declared.path.Path.{Path}
use Rattle.path_core.specs.declared.path.Child.{Child}
use Rattle.path_core.specs.declared.path.Child.TheVariants as child
use Rattle.path_core.specs.declared.query.Query.{Query}

-- the events of a path, and then its end
abbrev pub items_of : Path → List Child
items_of path = map child.Event path.events ++ child.End path.end ∷ []

-- the prefix is a proper one of the path, and what follows it is no child
abbrev pub Takes : Query → Path → Type 0
Takes query path =
    (next : Child) × (rest : List Child) × (items_of path ≡ map child.Event query.prefix ++ next ∷ rest) × (¬ Contains query.children next)
