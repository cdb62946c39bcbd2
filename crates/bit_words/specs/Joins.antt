-- What is made of pairs of bits (this project's own).
use Rattle.std.specs.Prelude.{ℕ, Bool, ◌&&◌, ◌||◌, if◌then◌else◌}
use Rattle.cnf_core.specs.Literals.{Names, lit_true}
use Rattle.bit_words.specs.Builds.{Values, differ}
use Rattle.bit_words.specs.declared.joining.BitGate.{BitGate}
use Rattle.bit_words.specs.declared.joining.BitGate.TheVariants as gate

abbrev pub gate_value : Values → BitGate → Bool → Bool → Bool
gate_value v gate.And x y = x && y
gate_value v gate.Or x y = x || y
gate_value v gate.Xor x y = differ x y
gate_value v (gate.Choose c) x y = if lit_true v c then x else y

-- the literal that it holds names a variable
abbrev pub IsNamed : ℕ → BitGate → Type 0
IsNamed n gate.And = Unit {0}
IsNamed n gate.Or = Unit {0}
IsNamed n gate.Xor = Unit {0}
IsNamed n (gate.Choose c) = Names n c
