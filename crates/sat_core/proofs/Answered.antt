-- What a call that answered says.
use Rattle.std.proofs.Common.{ℕ, Bool, true, false, ◌≡◌, Option, Some, None, Ok, subst}
use Rattle.js_units.specs.declared.memory.NoMemory.{NoMemory}
use Rattle.sat_core.specs.States.{OnFound, OnAnswer}

pub when_some : (o : Option ℕ) (n : ℕ) (A : ℕ → Type 0) (B : Type 0) → o ≡ Some n → OnFound {E = NoMemory} (Ok o) A B → A n
when_some None n A B e h = absurd (cc)
when_some (Some m) n A B e h = subst A (let q : m ≡ n = cc in q) h

pub when_none : (o : Option ℕ) (A : ℕ → Type 0) (B : Type 0) → o ≡ None → OnFound {E = NoMemory} (Ok o) A B → B
when_none None A B e h = h
when_none (Some m) A B e h = absurd (cc)

pub when_true : (b : Bool) (A B : Type 0) → b ≡ true → OnAnswer {E = NoMemory} (Ok b) A B → A
when_true true A B e h = h
when_true false A B e h = absurd (cc)

pub when_false : (b : Bool) (A B : Type 0) → b ≡ false → OnAnswer {E = NoMemory} (Ok b) A B → B
when_false true A B e h = absurd (cc)
when_false false A B e h = h
