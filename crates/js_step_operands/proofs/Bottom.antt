-- What is computed from the outermost frame on is what the stack says.
use Rattle.std.proofs.Common.{◌≡◌, ℕ, ◌+◌, List, [], ◌∷◌, reverse, refl}
use mathlib.Core.List.{reverse_aux}
use Rattle.js_reading.specs.declared.frame.Frame.{Frame}
use Rattle.js_grammar.specs.Phrases.{outermost}
use Rattle.js_reading.specs.Frames.{context, context_from}

pub context_onto : (fs ks : List Frame) → context (reverse_aux fs ks) ≡ context_from (context ks) fs
context_onto [] ks = refl
context_onto (f ∷ fs) ks = context_onto fs (f ∷ ks)

pub context_reverse : (fs : List Frame) → context (reverse fs) ≡ context_from outermost fs
context_reverse fs = context_onto fs []
