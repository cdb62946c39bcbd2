-- What the parser answers (this project's own).
use Rattle.std.specs.Prelude.{◌≡◌, ◌-◌, ℕ, List, [], Some, None, Result, Ok, Err}
use Rattle.re_ast.specs.declared.patterns.Node.{Node}
use Rattle.re_ast.specs.declared.patterns.Flags.{Flags}
use Rattle.re_ast.specs.declared.patterns.Pattern.{Pattern}
use Rattle.re_parser.specs.Flags.{flags_of, IsBadFlag}
use Rattle.re_parser.specs.Grammar.{HasShape}
use Rattle.re_parser.specs.Reading.{IsFirstUnbound, Left, Stuck, bound}
use Rattle.re_parser.specs.declared.reader.Reader.{Reader}
use Rattle.re_parser.specs.declared.reader.Backreference.{Backreference}
use Rattle.re_parser.specs.declared.refusal.Fault.{Fault}
use Rattle.re_parser.specs.declared.refusal.Fault.TheVariants as fault
use Rattle.re_parser.specs.declared.refusal.PatternRefusal.{PatternRefusal}
use Rattle.re_parser.specs.declared.refusal.PatternRefusal.TheVariants as refusal

-- this pattern, unless memory ran out
abbrev pub Answered : Result Pattern PatternRefusal → Pattern → Type 0
Answered (Ok p) pattern = p ≡ pattern
Answered (Err refusal.NoMemory) pattern = Unit {0}
Answered (Err e) pattern = ⊥

-- flags are refused exactly where they are no flags, at the first unit that makes it so
abbrev pub FlagsAnswer : List ℕ → Result Pattern PatternRefusal → Type 0
FlagsAnswer flags (Err (refusal.Flags at)) = IsBadFlag flags at
FlagsAnswer flags _ = (f : Flags) × (flags_of flags ≡ Some f)

-- the same refusal, at the place from which on so many units are left
abbrev pub IsRefusal : ℕ → Fault → PatternRefusal → Type 0
IsRefusal length (fault.Syntax left) (refusal.Syntax at) = at ≡ length - left
IsRefusal length (fault.BadEscape left) (refusal.BadEscape at) = at ≡ length - left
IsRefusal length (fault.TooManyGroups left) (refusal.TooManyGroups at) = at ≡ length - left
IsRefusal length fault.NoMemory refusal.NoMemory = Unit {0}
IsRefusal length _ _ = ⊥

-- a body that was read to its end is refused there, or where the first backreference stands that isn't to one of its groups
abbrev pub EndAnswer : {X : Type 0} → Reader → ℕ → Result X PatternRefusal → Type 0
EndAnswer r length (Err (refusal.Syntax at)) = at ≡ length
EndAnswer r length (Err (refusal.BadEscape at)) = ⊥
EndAnswer r length (Err (refusal.TooManyGroups at)) = ⊥
EndAnswer r length (Err (refusal.BackrefRange at)) = (r.frames ≡ []) × (b : Backreference) × IsFirstUnbound r.groups r.backs b × (at ≡ length - b.left)
EndAnswer r length _ = Unit {0}

-- the body has no shape, or, where a backreference is refused, it has one
abbrev pub Kinds : List ℕ → Result Pattern PatternRefusal → Type 0
Kinds body (Err (refusal.Syntax at)) = HasShape body → ⊥
Kinds body (Err (refusal.BadEscape at)) = HasShape body → ⊥
Kinds body (Err (refusal.TooManyGroups at)) = HasShape body → ⊥
Kinds body (Err (refusal.BackrefRange at)) = HasShape body
Kinds body _ = Unit {0}

-- these units lead to no whole whose backreferences are bound, but to one otherwise
abbrev pub Unbound : Reader → List ℕ → Type 0
Unbound r units = ((groups : ℕ) (n : Node) → Left (bound groups n) r units → ⊥) × ((groups : ℕ) × (n : Node) × Left (None, groups, n) r units)

abbrev pub OnlyWhole : Reader → List ℕ → ℕ × Node → Type 0
OnlyWhole r units x = Left (bound x.0 x.1) r units × ((groups : ℕ) (n : Node) → Left (bound groups n) r units → x ≡ (groups, n))

-- what the units lead to from a reader
abbrev pub LeadsTo : Reader → List ℕ → Result (Node × ℕ) PatternRefusal → Type 0
LeadsTo r units (Ok x) = OnlyWhole r units (x.1, x.0)
LeadsTo r units (Err refusal.NoMemory) = Unit {0}
LeadsTo r units (Err (refusal.Flags at)) = ⊥
LeadsTo r units (Err (refusal.BackrefRange at)) = Unbound r units
LeadsTo r units (Err e) = Stuck r units
