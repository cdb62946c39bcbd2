-- What a step answers.
use Rattle.std.proofs.Common.{◌≡◌, ℕ, ◌<◌, ◌≤◌, Bool, true, false, cond, List, [], ◌∷◌, ◌++◌, length, Option, Some, None, refl, sym, ap, subst}
use Rattle.std.proofs.Common.{inl, inr}
use Rattle.std.specs.Prelude.{Result, Ok, Err, nat_lt}
use Rattle.re_parser.specs.Classes.{NoMembers, Lacks, map_ok}
use Rattle.re_parser.specs.Pieces.{piece_at}
use Rattle.re_parser.specs.Grammar.{Begins, seq_of, assertion_node, begun}
use Rattle.re_parser.specs.Places.{IsMarkDue}
use Rattle.re_parser.specs.Faults.{piece_fault}
use Rattle.js_units.specs.Answers.{Fails}
use Rattle.re_parser.specs.Reading.{StepBacks, with_bar, with_term, with_atom, outer, closed_in, closed_by, opened_by, opened_at, Spot, Stuck, Steps, Turns, TurnFault, Faults, is_memory, Gives, ClassTurns, GoesOn, StopsAt, FaultOf, MembersGo, MembersStop, NoMark, turned}
use Rattle.re_parser.specs.declared.kinds.Atom.{Atom}
use Rattle.re_parser.specs.declared.kinds.Atom.TheVariants as atom
use Rattle.re_parser.specs.declared.kinds.GroupKind.{GroupKind}
use Rattle.re_parser.specs.declared.reader.Frame.{Frame}
use Rattle.re_parser.specs.declared.kinds.Piece.{Piece}
use Rattle.re_parser.specs.declared.kinds.Piece.TheVariants as piece
use Rattle.re_parser.specs.declared.reader.Reader.{Reader}
use Rattle.re_parser.specs.declared.refusal.Fault.{Fault}
use Rattle.re_parser.specs.declared.refusal.Fault.TheVariants as fault
use Rattle.re_parser.proofs.Members.{lacks}
use Rattle.re_parser.proofs.Steps.{class_stuck}
use Rattle.re_parser.proofs.Turns.{fails_lacks, lacks_map, turned_some, turned_none, is_class, class_ok, none_stuck}
use Rattle.re_parser.proofs.Refusals.{open_faults, close_faults}
use Rattle.re_parser.proofs.NoPiece.{piece_faults}
use Rattle.re_parser.proofs.Backs.{back_here}
use Rattle.re_parser.proofs.ClassLift.{class_faults_on}

abbrev At : Reader → List ℕ → Fault → Type 0
At r units e = FaultOf (GoesOn r units) (StopsAt r units) (IsMarkDue (StopsAt r units)) units e

pub faults_seen : (X Y : Type 0) (f : X → Y) (P : Fault → Type 0) (answer : Result X Fault) → Faults P answer → Faults P (map_ok f answer)
faults_seen X Y f P (Ok x) h = tt
faults_seen X Y f P (Err e) h = h

-- where something is read, only memory is wanting
fails_some : (r : Reader) (units : List ℕ) (s : Spot) (e : Fault) → Fails (is_memory e) (Some s) None → At r units e
fails_some r units s fault.NoMemory h = tt
fails_some r units s (fault.Syntax left) h = absurd cc
fails_some r units s (fault.BadEscape left) h = absurd cc
fails_some r units s (fault.TooManyGroups left) h = absurd cc

turned_at : (r : Reader) (units : List ℕ) (p : Piece) (rest : List ℕ) (e : Fault) → is_class p ≡ false → Begins units p rest → Fails (is_memory e) (turned r units p rest) None → TurnFault r units p rest e → At r units e
turned_at r units piece.Bar rest e c b h t = fails_some r units _ e h
turned_at r units piece.Close rest e c b h t = close_faults r units rest e b t
turned_at r units (piece.Open kind) rest e c b h t = open_faults r units rest kind e b t
turned_at r units (piece.Assertion a) rest e c b h t = fails_some r units _ e h
turned_at r units (piece.Atom a) rest e c b h t = fails_some r units _ e h
turned_at r units (piece.Class negated) rest e c b h t = absurd cc

-- ---- which backreferences are behind a step

spot_backs : (s t : Spot) → Some t ≡ Some s → s.0.backs ≡ t.0.backs
spot_backs s t e = let same : t ≡ s = cc in ap (λ (x : Spot). x.0.backs) (sym same)

close_backs : (r : Reader) (fs : List Frame) (rest : List ℕ) (s : Spot) → closed_by r fs rest ≡ Some s → s.0.backs ≡ r.backs
close_backs r [] rest s e = absurd cc
close_backs r (f ∷ fs) rest s e = spot_backs s (with_term (outer r f fs) (closed_in f (r.alternatives ++ seq_of r.terms ∷ []) r.groups rest)) e

open_backs : (r : Reader) (rest : List ℕ) (kind : GroupKind) (s : Spot) (x : Bool) (o : Option ℕ) → opened_at (cond x (opened_by r kind o) None) rest ≡ Some s → s.0.backs ≡ r.backs
open_backs r rest kind s true (Some within) e = spot_backs s (record { frames = (record { kind = kind; before = r.groups; alternatives = r.alternatives; terms = r.terms }) ∷ r.frames; alternatives = []; terms = []; groups = within; backs = r.backs }, rest) e
open_backs r rest kind s true None e = absurd cc
open_backs r rest kind s false o e = absurd cc

atom_backs : (r : Reader) (units rest : List ℕ) (a : Atom) (s : Spot) → Begins units (piece.Atom a) rest → Some (with_atom r a units rest) ≡ Some s → StepBacks r units s.0
atom_backs r units rest (atom.Back n) s b e = inr (n, spot_backs s (with_atom r (atom.Back n) units rest) e, back_here r units n rest b)
atom_backs r units rest atom.Dot s b e = inl (spot_backs s (with_atom r atom.Dot units rest) e)
atom_backs r units rest (atom.Unit u) s b e = inl (spot_backs s (with_atom r (atom.Unit u) units rest) e)
atom_backs r units rest (atom.Escape k) s b e = inl (spot_backs s (with_atom r (atom.Escape k) units rest) e)

turned_backs : (r : Reader) (units : List ℕ) (p : Piece) (rest : List ℕ) (s : Spot) → Begins units p rest → turned r units p rest ≡ Some s → StepBacks r units s.0
turned_backs r units piece.Bar rest s b e = inl (spot_backs s (with_bar r, rest) e)
turned_backs r units piece.Close rest s b e = inl (close_backs r r.frames rest s e)
turned_backs r units (piece.Open kind) rest s b e = inl (open_backs r rest kind s (nat_lt (length r.frames) 100) (begun kind r.groups) e)
turned_backs r units (piece.Assertion a) rest s b e = inl (spot_backs s (with_term r (assertion_node a, rest)) e)
turned_backs r units (piece.Atom a) rest s b e = atom_backs r units rest a s b e
turned_backs r units (piece.Class negated) rest s b e = absurd cc

gives_steps : (r : Reader) (units : List ℕ) (p : Piece) (rest : List ℕ) → is_class p ≡ false → Begins units p rest → (answer : Result Spot Fault) → Gives (λ (s : Spot). s) answer (turned r units p rest) → Faults (TurnFault r units p rest) answer → Steps r units answer
gives_steps r units p rest c b (Ok s) h t = (turned_some r units p rest s b h, turned_backs r units p rest s b h)
gives_steps r units p rest c b (Err e) h t = (fails_lacks (Stuck r units) Spot (turned r units p rest) e h (turned_none r units p rest c b), turned_at r units p rest e c b h t)

class_answers : (r : Reader) (units : List ℕ) (negated : Bool) (rest : List ℕ) → Begins units (piece.Class negated) rest → (answer : Result Spot Fault) → ClassTurns r negated rest answer → Faults (FaultOf MembersGo MembersStop NoMark rest) answer → Steps r units answer
class_answers r units negated rest b (Ok s) h t = (class_ok r units negated rest s b h, inl (ap (λ (x : Spot). x.0.backs) h.is))
class_answers r units negated rest b (Err e) h t = (lacks_map (NoMembers rest) (Stuck r units) e h (class_stuck r units rest negated b), class_faults_on r units rest negated e b t)

pub turn_answers : (r : Reader) (units : List ℕ) (p : Piece) (rest : List ℕ) → Begins units p rest → (answer : Result Spot Fault) → Turns r units p rest answer → Faults (TurnFault r units p rest) answer → Steps r units answer
turn_answers r units (piece.Class negated) rest b answer h t = class_answers r units negated rest b answer h t
turn_answers r units piece.Bar rest b answer h t = gives_steps r units piece.Bar rest refl b answer h t
turn_answers r units piece.Close rest b answer h t = gives_steps r units piece.Close rest refl b answer h t
turn_answers r units (piece.Open kind) rest b answer h t = gives_steps r units (piece.Open kind) rest refl b answer h t
turn_answers r units (piece.Assertion a) rest b answer h t = gives_steps r units (piece.Assertion a) rest refl b answer h t
turn_answers r units (piece.Atom a) rest b answer h t = gives_steps r units (piece.Atom a) rest refl b answer h t

pub no_piece : (r : Reader) (units : List ℕ) (deep : Bool) (e : Fault) → (deep ≡ true → 100 ≤ length r.frames) → (deep ≡ false → length r.frames < 100) → 0 < length units → piece_at units ≡ None → e ≡ piece_fault deep units → Lacks (Stuck r units) e × At r units e
no_piece r units deep e h k l n d = (lacks (Stuck r units) e (none_stuck r units l n), subst (λ (x : Fault). At r units x) (sym d) (piece_faults r deep h k units l n))
