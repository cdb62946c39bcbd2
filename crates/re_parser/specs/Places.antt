-- Where a body is refused, and why (this project's own). Of `Goes` and `Stops` the one says that some body that has a shape begins with these units, and the other that none does; `Due` says that the mark of a group is due behind them.
use Rattle.std.specs.Prelude.{◌≡◌, ◌≤◌, ◌<◌, ◌⊎◌, ℕ, ◌==◌, ◌||◌, Bool, false, List, [], ◌∷◌, ◌++◌, length, Some, None, Result, Err}
use Rattle.re_ast.specs.declared.patterns.Node.{Node}
use Rattle.js_units.specs.Characters.{is_digit}
use Rattle.re_parser.specs.Escapes.{starts, escaped_member_at}
use Rattle.re_parser.specs.Pieces.{escape_at}
use Rattle.re_parser.specs.Quantifiers.{digits_from}
use Rattle.re_parser.specs.Grammar.{HasShape, IsDisjunction}
use Rattle.re_parser.specs.declared.kinds.Member.{Member}
use Rattle.re_parser.specs.declared.refusal.PatternRefusal.{PatternRefusal}
use Rattle.re_parser.specs.declared.refusal.PatternRefusal.TheVariants as refusal

-- some body that has a shape begins with these units
abbrev pub Viable : List ℕ → Type 0
Viable units = (more : List ℕ) × HasShape (units ++ more)

-- none does
abbrev pub Barren : List ℕ → Type 0
Barren units = Viable units → ⊥

abbrev pub EndsIn : ℕ → List ℕ → Type 0
EndsIn unit front = (before : List ℕ) × (front ≡ before ++ unit ∷ [])

-- `\0` with a digit behind it is an escape that isn't listed. So that digit is no place: no digit stands there, unless as the end of a range, behind a `-`.
abbrev pub NoNull : List ℕ → List ℕ → Type 0
NoNull front rest = (starts is_digit rest ≡ false) ⊎ EndsIn 45 front

-- a unit outside of ASCII goes on: neither an escape nor `(?` is unfinished, and no `\0` ends in a digit
abbrev pub IsFinished : (List ℕ → Type 0) → List ℕ → List ℕ → Type 0
IsFinished Goes front rest = (u : ℕ) × (128 ≤ u) × Goes (front ++ u ∷ []) × NoNull front rest

abbrev pub is_mark : ℕ → Bool
is_mark u = u == 58 || u == 61 || u == 33

-- behind `(?`: only `:`, `=` and `!` go on
abbrev pub IsMarkDue : (List ℕ → Type 0) → List ℕ → Type 0
IsMarkDue Stops front = EndsIn 63 front × ((u : ℕ) → is_mark u ≡ false → Stops (front ++ u ∷ []))

-- whatever is behind these units, they begin with no escape that is listed, neither outside of classes nor in one
abbrev pub NoEscape : List ℕ → Type 0
NoEscape units = (more : List ℕ) → (escape_at (units ++ more) ≡ None) × (escaped_member_at (units ++ more) ≡ None)

-- a `\` stands before, and the escape of a class that it begins is listed and ends behind the place
pub record IsWithinEscape (front rest : List ℕ) : Type 0 where
  pub before : List ℕ
  pub part : List ℕ
  pub is : front ≡ before ++ 92 ∷ part
  pub member : Member
  pub behind : List ℕ
  pub listed : escaped_member_at (part ++ rest) ≡ Some (member, behind)
  pub later : length behind < length rest

-- The front may go on, but not with the first unit of the rest, or it ends the body. And it is that place itself that is wrong, and no escape or group in front of it: a unit outside of ASCII may stand there, or a mark, or it is within an escape that is listed.
pub record IsSyntax (Goes Stops Due : List ℕ → Type 0) (front rest : List ℕ) : Type 0 where
  pub before : Goes front
  pub there : (u : ℕ) (behind : List ℕ) → rest ≡ u ∷ behind → Stops (front ++ u ∷ [])
  pub reason : IsFinished Goes front rest ⊎ (Due front ⊎ IsWithinEscape front rest)

-- Behind the front stands a `\` that begins an escape, since no units go on behind it that begin with none; and the escape isn't listed: it is none at all, or none of a class where the first unit of one of those is due.
pub record IsBadEscape (Goes Stops : List ℕ → Type 0) (front behind : List ℕ) : Type 0 where
  pub begins : Goes (front ++ 92 ∷ [])
  pub escapes : (units : List ℕ) → NoEscape units → Stops (front ++ 92 ∷ units)
  pub unlisted : (escape_at behind ≡ None) ⊎ ((escaped_member_at behind ≡ None) × ((u : ℕ) (more : List ℕ) → behind ≡ u ∷ more → Stops (front ++ 92 ∷ u ∷ [])))

-- Behind the front stands a `(` that captures, since no `?` follows it. Only a `?` may follow: a group may begin there, but none that captures.
pub record IsTenthGroup (Goes Stops : List ℕ → Type 0) (front behind : List ℕ) : Type 0 where
  pub begins : Goes (front ++ 40 ∷ [])
  pub only_marked : (u : ℕ) → (u == 63) ≡ false → Stops (front ++ 40 ∷ u ∷ [])
  pub unmarked : starts (λ u. u == 63) behind ≡ false

-- some body begins with these units that is a pattern with no backreference above this number
abbrev pub ViableWithin : ℕ → List ℕ → Type 0
ViableWithin most units = (more : List ℕ) × (nodes : List Node) × (groups : ℕ) × IsDisjunction (Some most) 0 0 (units ++ more) nodes groups []

-- The body has a shape, and behind the front stands the first backreference to a group that isn't there: up to it no number is above the group count, and its own one, of all digits behind the `\`, is.
pub record IsUnbound (body front rest : List ℕ) : Type 0 where
  pub shape : HasShape body
  pub digits : List ℕ
  pub behind : List ℕ
  pub is : rest ≡ 92 ∷ digits ++ behind
  pub number : ℕ
  pub counts : digits_from 0 (digits ++ behind) ≡ (number, behind)
  pub above : shape.groups < number
  pub before : ViableWithin shape.groups front
  pub there : ViableWithin shape.groups (front ++ 92 ∷ digits) → ⊥

-- ---- in a whole body

-- the units of the body before the place, and those from it on
pub record IsAt (body : List ℕ) (at : ℕ) (P : List ℕ → List ℕ → Type 0) : Type 0 where
  pub front : List ℕ
  pub rest : List ℕ
  pub parts : body ≡ front ++ rest
  pub place : at ≡ length front
  pub is : P front rest

-- the rest begins with the unit
pub record IsFirst (unit : ℕ) (P : List ℕ → List ℕ → Type 0) (front rest : List ℕ) : Type 0 where
  pub behind : List ℕ
  pub starts : rest ≡ unit ∷ behind
  pub is : P front behind

abbrev pub IsRefusedAt : {X : Type 0} → List ℕ → Result X PatternRefusal → Type 0
IsRefusedAt body (Err (refusal.Syntax at)) = IsAt body at (IsSyntax Viable Barren (IsMarkDue Barren))
IsRefusedAt body (Err (refusal.BadEscape at)) = IsAt body at (IsFirst 92 (IsBadEscape Viable Barren))
IsRefusedAt body (Err (refusal.TooManyGroups at)) = IsAt body at (IsFirst 40 (IsTenthGroup Viable Barren))
IsRefusedAt body (Err (refusal.BackrefRange at)) = IsAt body at (IsUnbound body)
IsRefusedAt body _ = Unit {0}
