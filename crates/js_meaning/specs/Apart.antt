-- What each row has to show by itself: between two of its events no exit is passed twice, and none is ended at that was
-- passed. So an end tells which guard failed.
use Rattle.std.specs.Prelude.{◌≡◌, ℕ, ◌⊎◌, Bool, List, [], ◌∷◌, Ok, Err, map, Option, Some, None}
use Rattle.path_core.specs.declared.path.End.{End}
use Rattle.path_core.specs.declared.path.End.TheVariants.{Left}
use Rattle.path_core.specs.declared.path.Why.{Why}
use Rattle.path_core.specs.declared.path.Why.TheVariants as why
use Rattle.js_meaning.specs.Values.{Text, Value, Class, Object}
use Rattle.js_meaning.specs.Running.{Item, passed, made, Reference, callee, intrinsic, static, method, Answer, gives, comes_to, raises, ends, Row, leaving}
use Rattle.js_meaning.specs.Objects.{Written, static_key}

-- where a reference leaves the profile, unless it is called: a built-in name or method
abbrev pub used_at : Reference → Option ℕ
used_at (callee x this) = None
used_at (intrinsic at name) = Some at
used_at (static at name key) = Some at
used_at (method at base name) = Some at

abbrev pub UseIs : End → Option ℕ → Type 0
UseIs x None = ⊥
UseIs x (Some at) = leaving at why.Builtin ≡ x

-- the run may end so right behind the answer: it is that end, or there is no room for its error, which is an object, or its
-- reference is used otherwise than by a call
abbrev pub Comes : End → Answer → Type 0
Comes x (gives value) = ⊥
Comes x (comes_to r) = UseIs x (used_at r)
Comes x (raises site name) = leaving site why.Size ≡ x
Comes x (ends y) = y ≡ x

-- an exit stands among these items before their next event, or may be the end there
abbrev pub Named : End → List Item → Answer → Type 0
Named x [] a = Comes x a
Named x (passed y ∷ items) a = (y ≡ x) ⊎ Named x items a
Named x (made e ∷ items) a = ⊥

-- between two events no two guards name one exit, nor do a guard and the end behind it
abbrev pub Apart : List Item → Answer → Type 0
Apart [] a = Unit {0}
Apart (passed x ∷ items) a = (Named x items a → ⊥) × Apart items a
Apart (made e ∷ items) a = Apart items a

-- the reasons that a guard may have; each other end outside the profile is decided by the path so far. Room for objects,
-- bindings and entries has the reason Size too, and no guard
abbrev pub Guarding : Why → Type 0
Guarding why.Range = Unit {0}
Guarding why.Divide = Unit {0}
Guarding why.Size = Unit {0}
Guarding why.Key = Unit {0}
Guarding why.Inherited = Unit {0}
Guarding why.Unicode = Unit {0}
Guarding why.Builtin = Unit {0}
Guarding _ = ⊥

-- at which sites, and for which reasons, exits stand
abbrev pub Sites : Type 1
Sites = ℕ → Why → Type 0

abbrev pub nowhere : Sites
nowhere site w = ⊥

abbrev pub only : ℕ → Sites
only at site w = site ≡ at

-- a guard's exit, before the run puts in its numbers
abbrev pub ExitIn : Sites → End → Type 0
ExitIn S (Left site w turns ended) = (turns ≡ 0) × (ended ≡ 0) × Guarding w × S site w
ExitIn S _ = ⊥

abbrev pub StopIn : Sites → End → Type 0
StopIn S (Left site w turns ended) = (turns ≡ 0) × (ended ≡ 0) × (Guarding w → S site w)
StopIn S _ = Unit {0}

abbrev pub UseIn : Sites → Option ℕ → Type 0
UseIn S None = Unit {0}
UseIn S (Some at) = S at why.Builtin

-- where the run may end right behind the answer
abbrev pub EndIn : Sites → Answer → Type 0
EndIn S (gives value) = Unit {0}
EndIn S (comes_to r) = UseIn S (used_at r)
EndIn S (raises site name) = S site why.Size
EndIn S (ends x) = StopIn S x

abbrev pub ItemsIn : Sites → List Item → Type 0
ItemsIn S [] = Unit {0}
ItemsIn S (passed x ∷ items) = ExitIn S x × ItemsIn S items
ItemsIn S (made e ∷ items) = ItemsIn S items

-- its exits are at these places, and apart
pub record RowApart (S : Sites) (r : Row) : Type 0 where
  pub items : ItemsIn S r.0
  pub end : EndIn S r.1
  pub apart : Apart r.0 r.1

-- ---- rows that stand twice at one site, as the read and the write of `a[k]++`

abbrev pub anywhere : Sites
anywhere site w = Unit {0}

-- up to the first event
abbrev pub FirstIn : Sites → List Item → Answer → Type 0
FirstIn F [] a = EndIn F a
FirstIn F (passed x ∷ items) a = ExitIn F x × FirstIn F items a
FirstIn F (made e ∷ items) a = Unit {0}

abbrev pub Silent : List Item → Type 0
Silent [] = Unit {0}
Silent (passed x ∷ items) = Silent items
Silent (made e ∷ items) = ⊥

-- behind the last event
abbrev pub LastIn : Sites → List Item → Type 0
LastIn T [] = Unit {0}
LastIn T (passed x ∷ items) = (Silent items → ExitIn T x) × LastIn T items
LastIn T (made e ∷ items) = LastIn T items

-- where a reference leaves the profile that isn't called
abbrev pub UsesIn : Sites → Answer → Type 0
UsesIn S (comes_to r) = UseIn S (used_at r)
UsesIn S _ = Unit {0}

-- its exits are apart; up to its first event they are at some places, and those that it passes behind its last event at
-- others
pub record RowFits (F T : Sites) (r : Row) : Type 0 where
  pub whole : RowApart anywhere r
  pub first : FirstIn F r.0 r.1
  pub last : LastIn T r.0
  pub uses : UsesIn F r.1

-- what a read of a property in brackets may pass behind its last event, and where a write of it may end up to its first
-- one: a key that is no literal makes an event, behind which a read passes names that are inherited and a write doesn't
-- ask for them
abbrev pub read_by : ℕ → Option Text → Sites
read_by site (Some t) n w = ⊥
read_by site None n w = (site ≡ n) × (w ≡ why.Inherited)

abbrev pub written_by : ℕ → Option Text → Sites
written_by site (Some t) n w = site ≡ n
written_by site None n w = (site ≡ n) × (w ≡ why.Inherited → ⊥)

abbrev pub read_last : ℕ → Bool → Value → Sites
read_last site is_literal key = read_by site (static_key is_literal key)

abbrev pub write_first : ℕ → Bool → Value → Sites
write_first site is_literal key = written_by site (static_key is_literal key)

-- ---- writes

-- a write has no guard so far: it is done, or comes to an answer
abbrev pub WrittenIn : Sites → Written → Type 0
WrittenIn S (Ok objects) = Unit {0}
WrittenIn S (Err a) = EndIn S a

abbrev pub classes : List Object → List Class
classes objects = map (λ o. o.class) objects

abbrev pub IsNoReference : Answer → Type 0
IsNoReference (comes_to r) = ⊥
IsNoReference _ = Unit {0}

-- a write changes no object's class, nor does it come to a reference
abbrev pub WrittenKeeps : List Object → Written → Type 0
WrittenKeeps objects (Ok new) = classes new ≡ classes objects
WrittenKeeps objects (Err a) = IsNoReference a
