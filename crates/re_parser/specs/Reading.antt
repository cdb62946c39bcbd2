-- This project's own: patterns read piece by piece. A reader holds what was read; `Left` says which units lead on from it to a whole pattern.
use Rattle.std.specs.Prelude.{◌≡◌, ◌↔◌, ◌⊎◌, ◌<◌, ◌≤◌, ℕ, ◌+◌, nat_lt, Bool, true, false, List, [], ◌∷◌, ◌++◌, length, Option, Some, None, Result, Ok, Err, if◌then◌else◌}
use Rattle.std.specs.List.{list_all}
use Rattle.js_units.specs.Answers as answers
use Rattle.re_ast.specs.declared.patterns.Node.{Node}
use Rattle.re_ast.specs.declared.patterns.Node.TheVariants as node
use Rattle.re_parser.specs.Agreement.{Agree, is_caret}
use Rattle.re_parser.specs.Escapes.{starts}
use Rattle.re_parser.specs.Quantifiers.{digits_from}
use Rattle.re_parser.specs.Places.{Viable, Barren, ViableWithin, IsSyntax, IsBadEscape, IsTenthGroup, IsFirst, IsMarkDue}
use Rattle.re_parser.specs.Classes.{IsMembers, NoMembers, Lacks}
use Rattle.re_parser.specs.Grammar.{Begins, seq_of, alt_of, assertion_node, atom_node, quantified, closed, begun, is_within, IsDisjunction, IsAlternative}
use Rattle.re_parser.specs.declared.kinds.GroupKind.{GroupKind}
use Rattle.re_parser.specs.declared.kinds.Atom.{Atom}
use Rattle.re_parser.specs.declared.kinds.Atom.TheVariants as atom
use Rattle.re_parser.specs.declared.kinds.Piece.{Piece}
use Rattle.re_parser.specs.declared.kinds.Piece.TheVariants as piece
use Rattle.re_parser.specs.declared.reader.Frame.{Frame}
use Rattle.re_parser.specs.declared.reader.Reader.{Reader}
use Rattle.re_parser.specs.declared.reader.Backreference.{Backreference}
use Rattle.re_parser.specs.declared.refusal.Fault.{Fault}
use Rattle.re_parser.specs.declared.refusal.Fault.TheVariants as fault

-- the fault that says nothing of the units
abbrev pub is_memory : Fault → Bool
is_memory fault.NoMemory = true
is_memory (fault.Syntax left) = false
is_memory (fault.BadEscape left) = false
is_memory (fault.TooManyGroups left) = false

-- what a function returned, seen by `see`, is what was to be read, unless memory ran out
abbrev pub Gives : {X Y : Type 0} → (X → Y) → Result X Fault → Option Y → Type 0
Gives see result read = answers.Gives is_memory answers.untold see result read

-- a reader, and the units behind what it has read
abbrev pub Spot : Type 0
Spot = Reader × List ℕ

-- ---- one piece more

abbrev pub start : Reader
start = record { frames = []; alternatives = []; terms = []; groups = 0; backs = [] }

abbrev pub with_term : Reader → Node × List ℕ → Spot
with_term r x = (record r { terms = r.terms ++ x.0 ∷ [] }, x.1)

abbrev pub with_bar : Reader → Reader
with_bar r = record r { alternatives = r.alternatives ++ seq_of r.terms ∷ []; terms = [] }

abbrev pub with_back : Reader → Atom → ℕ → Reader
with_back r (atom.Back n) left = record r { backs = r.backs ++ (record { number = n; left = left }) ∷ [] }
with_back r _ left = r

abbrev pub with_atom : Reader → Atom → List ℕ → List ℕ → Spot
with_atom r a units rest = with_term (with_back r a (length units)) (quantified (r.groups + 1) (atom_node a) (r.groups + 1) rest)

abbrev pub opened_by : Reader → GroupKind → Option ℕ → Option Reader
opened_by r kind None = None
opened_by r kind (Some within) =
    Some (record {
      frames = (record { kind = kind; before = r.groups; alternatives = r.alternatives; terms = r.terms }) ∷ r.frames;
      alternatives = [];
      terms = [];
      groups = within;
      backs = r.backs;
    })

abbrev pub with_open : Reader → GroupKind → Option Reader
with_open r kind = if nat_lt (length r.frames) 100 then opened_by r kind (begun kind r.groups) else None

-- the group of the frame, whose alternatives these are
abbrev pub closed_in : Frame → List Node → ℕ → List ℕ → Node × List ℕ
closed_in f nodes after units = closed f.kind (f.before + 1) (alt_of nodes) (after + 1) units

abbrev pub outer : Reader → Frame → List Frame → Reader
outer r f fs = record { frames = fs; alternatives = f.alternatives; terms = f.terms; groups = r.groups; backs = r.backs }

abbrev pub closed_by : Reader → List Frame → List ℕ → Option Spot
closed_by r [] rest = None
closed_by r (f ∷ fs) rest = Some (with_term (outer r f fs) (closed_in f (r.alternatives ++ seq_of r.terms ∷ []) r.groups rest))

abbrev pub with_close : Reader → List ℕ → Option Spot
with_close r rest = closed_by r r.frames rest

abbrev pub opened_at : Option Reader → List ℕ → Option Spot
opened_at None rest = None
opened_at (Some r) rest = Some (r, rest)

-- a piece but a class
abbrev pub turned : Reader → List ℕ → Piece → List ℕ → Option Spot
turned r units piece.Bar rest = Some (with_bar r, rest)
turned r units piece.Close rest = with_close r rest
turned r units (piece.Open kind) rest = opened_at (with_open r kind) rest
turned r units (piece.Assertion a) rest = Some (with_term r (assertion_node a, rest))
turned r units (piece.Atom a) rest = Some (with_atom r a units rest)
turned r units (piece.Class negated) rest = None

abbrev pub with_class : Reader → Bool → List (ℕ × ℕ) → List ℕ → Spot
with_class r negated ranges mid = with_term r (quantified (r.groups + 1) (node.Class (record { ranges = ranges; negated = negated })) (r.groups + 1) mid)

pub record IsClassTurn (r : Reader) (negated : Bool) (inside : List ℕ) (s : Spot) : Type 0 where
  pub ranges : List (ℕ × ℕ)
  pub mid : List ℕ
  pub members : IsMembers inside ranges mid
  pub is : s ≡ with_class r negated ranges mid

abbrev pub ClassTurns : Reader → Bool → List ℕ → Result Spot Fault → Type 0
ClassTurns r negated inside (Ok s) = IsClassTurn r negated inside s
ClassTurns r negated inside (Err e) = Lacks (NoMembers inside) e

-- what a function answers that reads one piece
abbrev pub Turns : Reader → List ℕ → Piece → List ℕ → Result Spot Fault → Type 0
Turns r units (piece.Class negated) rest answer = ClassTurns r negated rest answer
Turns r units p rest answer = Gives (λ (s : Spot). s) answer (turned r units p rest)

-- ---- what leads on

-- the limit for backreferences, the group count and the node of the whole pattern
abbrev pub Whole : Type 0
Whole = Option ℕ × ℕ × Node

-- with each backreference to one of the groups
abbrev pub bound : ℕ → Node → Whole
bound groups n = (Some groups, groups, n)

-- that of a reader at the end of the units
abbrev pub whole_of : Reader → ℕ × Node
whole_of r = (r.groups, alt_of (r.alternatives ++ seq_of r.terms ∷ []))

-- what follows an alternative: the end of its disjunction, or `|` and other alternatives
abbrev pub Follows : Option ℕ → ℕ → (List Node → ℕ → List ℕ → Type 0) → List Node → Node → ℕ → List ℕ → Type 0
Follows limit depth C done seq mid stop =
    C (done ++ seq ∷ []) mid stop
    ⊎ ((next : List ℕ) × (others : List Node) × (after : ℕ) × (rest : List ℕ) × Begins stop piece.Bar next × IsDisjunction limit depth mid next others after rest × C (done ++ seq ∷ others) after rest)

-- the terms of an alternative go on, and C holds behind its disjunction
pub record Goes (limit : Option ℕ) (depth : ℕ) (C : List Node → ℕ → List ℕ → Type 0) (done terms : List Node) (before : ℕ) (units : List ℕ) : Type 0 where
  pub more : List Node
  pub mid : ℕ
  pub stop : List ℕ
  pub alternative : IsAlternative limit depth before units more mid stop
  pub follows : Follows limit depth C done (seq_of (terms ++ more)) mid stop

-- where a disjunction ends: a `)` closes the group, or the units end with the pattern
abbrev pub Ends : Whole → List Frame → List Node → ℕ → List ℕ → Type 0
Ends w [] nodes after units = (units ≡ []) × (after ≡ w.1) × (alt_of nodes ≡ w.2)
Ends w (f ∷ fs) nodes after units =
    (mid : List ℕ) × Begins units piece.Close mid × Goes w.0 (length fs) (Ends w fs) f.alternatives (f.terms ++ (closed_in f nodes after mid).0 ∷ []) after (closed_in f nodes after mid).1

abbrev pub are_bound : Option ℕ → List Backreference → Bool
are_bound limit backs = list_all (λ b. is_within limit b.number) backs

-- these units lead from the reader to the whole
abbrev pub Left : Whole → Reader → List ℕ → Type 0
Left w r units = (are_bound w.0 r.backs ≡ true) × Goes w.0 (length r.frames) (Ends w r.frames) r.alternatives r.terms r.groups units

-- the same wholes
abbrev pub Same : Reader → List ℕ → Reader → List ℕ → Type 0
Same r units q rest = (w : Whole) → Left w r units ↔ Left w q rest

abbrev pub Stuck : Reader → List ℕ → Type 0
Stuck r units = (w : Whole) → Left w r units → ⊥

-- ---- what goes on behind units in front of which a reader stands

-- these units and others, in place of those that were there, lead to a whole
pub record GoesOn (r : Reader) (units front : List ℕ) : Type 0 where
  pub more : List ℕ
  pub agrees : Agree units (front ++ more)
  pub groups : ℕ
  pub node : Node
  pub leads : Left (None, groups, node) r (front ++ more)

-- these units lead to no whole, whatever is behind them
abbrev pub StopsAt : Reader → List ℕ → List ℕ → Type 0
StopsAt r units front = (more : List ℕ) → Agree units (front ++ more) × Stuck r (front ++ more)

-- so many of the units are left behind the place
pub record IsLeft (units : List ℕ) (left : ℕ) (P : List ℕ → List ℕ → Type 0) : Type 0 where
  pub front : List ℕ
  pub rest : List ℕ
  pub parts : units ≡ front ++ rest
  pub count : left ≡ length rest
  pub is : P front rest

-- what a fault says of the units
abbrev pub FaultOf : (Goes Stops Due : List ℕ → Type 0) → List ℕ → Fault → Type 0
FaultOf Goes Stops Due units fault.NoMemory = Unit {0}
FaultOf Goes Stops Due units (fault.Syntax left) = IsLeft units left (IsSyntax Goes Stops Due)
FaultOf Goes Stops Due units (fault.BadEscape left) = IsLeft units left (IsFirst 92 (IsBadEscape Goes Stops))
FaultOf Goes Stops Due units (fault.TooManyGroups left) = IsLeft units left (IsFirst 40 (IsTenthGroup Goes Stops))

-- a refusal says this
abbrev pub Faults : {X : Type 0} → (Fault → Type 0) → Result X Fault → Type 0
Faults P (Ok x) = Unit {0}
Faults P (Err e) = P e

-- why a `(` is refused from which on so many units are left
abbrev pub OpenFault : Reader → GroupKind → ℕ → Fault → Type 0
OpenFault r kind left fault.NoMemory = Unit {0}
OpenFault r kind left (fault.Syntax n) = (n ≡ left) × (100 ≤ length r.frames)
OpenFault r kind left (fault.TooManyGroups n) = (n ≡ left) × (length r.frames < 100) × (begun kind r.groups ≡ None)
OpenFault r kind left (fault.BadEscape n) = ⊥

-- why a `)` is
abbrev pub CloseFault : Reader → ℕ → Fault → Type 0
CloseFault r left fault.NoMemory = Unit {0}
CloseFault r left (fault.Syntax n) = (n ≡ left) × (r.frames ≡ [])
CloseFault r left _ = ⊥

-- members and `]` behind these units, and where there are none, no `^`
pub record MembersGo (front : List ℕ) : Type 0 where
  pub more : List ℕ
  pub caret : starts is_caret front ≡ false → (tail : List ℕ) → starts is_caret (front ++ (more ++ tail)) ≡ false
  pub ranges : List (ℕ × ℕ)
  pub members : (tail : List ℕ) → IsMembers (front ++ (more ++ tail)) ranges tail

-- no mark is due in a class
abbrev pub NoMark : List ℕ → Type 0
NoMark front = ⊥

-- none, whatever is behind them
abbrev pub MembersStop : List ℕ → Type 0
MembersStop front = (more : List ℕ) → NoMembers (front ++ more)

-- what a fault of a step says
abbrev pub TurnFault : Reader → List ℕ → Piece → List ℕ → Fault → Type 0
TurnFault r units piece.Close rest e = CloseFault r (length units) e
TurnFault r units (piece.Open kind) rest e = OpenFault r kind (length units) e
TurnFault r units (piece.Class negated) rest e = FaultOf MembersGo MembersStop NoMark rest e
TurnFault r units _ rest e = Unit {0}

-- what one step answers, and what a whole reading does
pub record IsStep (r : Reader) (units : List ℕ) (s : Spot) : Type 0 where
  pub part : List ℕ
  pub parts : units ≡ part ++ s.1
  pub leads : (more : List ℕ) → Agree s.1 more → Same r (part ++ more) s.0 more

-- the backreference in front of which a reader stands
pub record IsBackHere (r : Reader) (units : List ℕ) (number : ℕ) : Type 0 where
  pub digits : List ℕ
  pub behind : List ℕ
  pub is : units ≡ 92 ∷ digits ++ behind
  pub counts : digits_from 0 (digits ++ behind) ≡ (number, behind)
  pub there : (most : ℕ) → most < number → (more : List ℕ) → Agree units (92 ∷ digits ++ more) × ((groups : ℕ) (n : Node) → Left (Some most, groups, n) r (92 ∷ digits ++ more) → ⊥)

-- the backreferences behind a step
abbrev pub StepBacks : Reader → List ℕ → Reader → Type 0
StepBacks r units q = (q.backs ≡ r.backs) ⊎ ((number : ℕ) × (q.backs ≡ r.backs ++ (record { number = number; left = length units }) ∷ []) × IsBackHere r units number)

-- a backreference of the body, behind others
pub record IsBack (body : List ℕ) (earlier : List Backreference) (b : Backreference) : Type 0 where
  pub front : List ℕ
  pub rest : List ℕ
  pub parts : body ≡ front ++ rest
  pub count : b.left ≡ length rest
  pub digits : List ℕ
  pub behind : List ℕ
  pub is : rest ≡ 92 ∷ digits ++ behind
  pub counts : digits_from 0 (digits ++ behind) ≡ (b.number, behind)
  pub before : (most : ℕ) → are_bound (Some most) earlier ≡ true → ViableWithin most front
  pub there : (most : ℕ) → most < b.number → ViableWithin most (front ++ 92 ∷ digits) → ⊥

abbrev pub AreBacks : List ℕ → List Backreference → Type 0
AreBacks body backs = (earlier : List Backreference) (b : Backreference) (later : List Backreference) → backs ≡ earlier ++ b ∷ later → IsBack body earlier b

abbrev pub first_back : List Backreference → Option (Backreference × List Backreference)
first_back [] = None
first_back (b ∷ backs) = Some (b, backs)

-- the first backreference that isn't to one of the groups
pub record IsFirstUnbound (groups : ℕ) (backs : List Backreference) (b : Backreference) : Type 0 where
  pub earlier : List Backreference
  pub later : List Backreference
  pub parts : backs ≡ earlier ++ b ∷ later
  pub bound : are_bound (Some groups) earlier ≡ true
  pub above : groups < b.number

abbrev pub Steps : Reader → List ℕ → Result Spot Fault → Type 0
Steps r units (Ok s) = IsStep r units s × StepBacks r units s.0
Steps r units (Err e) = Lacks (Stuck r units) e × FaultOf (GoesOn r units) (StopsAt r units) (IsMarkDue (StopsAt r units)) units e

abbrev pub ReadsAll : List ℕ → Result Reader Fault → Type 0
ReadsAll units (Ok r) = IsStep start units (r, []) × AreBacks units r.backs
ReadsAll units (Err e) = Lacks (Stuck start units) e × FaultOf Viable Barren (IsMarkDue Barren) units e
