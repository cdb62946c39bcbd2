use Rattle.std.proofs.Common.{◌≡◌, ◌∙◌, ap, arith, length, ◌-◌, ◌<◌, [], ◌∷◌, refl, ◌+ℤ◌, ◌-ℤ◌, ◌*ℤ◌, int_lt}
use Rattle.std.specs.Ordering.{int_eq}
use Rattle.js_values.specs.Numbers.{is_safe}
use Rattle.js_values.specs.Integers.{quotient, rest, safe, bits_and, bits_or, bits_xor, bits_left, bits_right, bits_right_zero}
use Rattle.int_encoder.specs.declared.op.IntOp.TheVariants as op
use Rattle.int_encoder.specs.Rows.{truth, part_count}
use Rattle.int_encoder.proofs.Encoded.{two_of, one_of, part_at, word_row, flag_row, word_row_one, flag_row_one, eq_same, cost_mul, cost_quot, cost_rest}
use Rattle.int_encoder.proofs.Lowest.{and_word, or_word, xor_word}
use Rattle.int_encoder.proofs.encoding.encode_int.Goals as goal

pub returns-in-Eq-clause-row : goal.returns-in-Eq-clause-row
returns-in-Eq-clause-row c =
    let parts = c.args.parts.now in
    let a = c.index-parts-0.result in
    let b = c.index-parts-parts.result in
    let n : length parts ≡ 2 = c.requires.count ∙ ap part_count c.in-Eq.is in
    let e : parts ≡ a ∷ b ∷ [] = two_of parts a b n c.index-parts-0.is c.index-parts-parts.is in
    let sa : 0 < length a = (part_at _ 0 parts a c.requires.parts (omega (arith, n)) c.index-parts-0.is).some in
    let sb : 0 < length b = (part_at _ (length parts - 1) parts b c.requires.parts (omega (arith, n)) c.index-parts-parts.is).some in
    rw c.in-Eq.is (flag_row _ _ _ op.Eq parts a b _ int_eq e (λ p q. ap truth (eq_same p q)) c.in_ok-lit-in-Eq.ensures.gate (omega (arith, sa)))

pub returns-in-Less-clause-row : goal.returns-in-Less-clause-row
returns-in-Less-clause-row c =
    let parts = c.args.parts.now in
    let a = c.index-parts-0.result in
    let b = c.index-parts-parts.result in
    let n : length parts ≡ 2 = c.requires.count ∙ ap part_count c.in-Less.is in
    let e : parts ≡ a ∷ b ∷ [] = two_of parts a b n c.index-parts-0.is c.index-parts-parts.is in
    let sa : 0 < length a = (part_at _ 0 parts a c.requires.parts (omega (arith, n)) c.index-parts-0.is).some in
    let sb : 0 < length b = (part_at _ (length parts - 1) parts b c.requires.parts (omega (arith, n)) c.index-parts-parts.is).some in
    rw c.in-Less.is (flag_row _ _ _ op.Less parts a b _ int_lt e (λ p q. refl) c.in_ok-lit-in-Less.ensures.gate (omega (arith, sa)))

pub returns-in-Add-clause-row : goal.returns-in-Add-clause-row
returns-in-Add-clause-row c =
    let parts = c.args.parts.now in
    let a = c.index-parts-0.result in
    let b = c.index-parts-parts.result in
    let n : length parts ≡ 2 = c.requires.count ∙ ap part_count c.in-Add.is in
    let e : parts ≡ a ∷ b ∷ [] = two_of parts a b n c.index-parts-0.is c.index-parts-parts.is in
    let sa : 0 < length a = (part_at _ 0 parts a c.requires.parts (omega (arith, n)) c.index-parts-0.is).some in
    let sb : 0 < length b = (part_at _ (length parts - 1) parts b c.requires.parts (omega (arith, n)) c.index-parts-parts.is).some in
    rw c.in-Add.is (word_row _ _ _ op.Add parts a b _ ◌+ℤ◌ e (λ p q. refl) c.in_ok-word-in-Add.ensures.word (omega (arith, sa)))

pub returns-in-Sub-clause-row : goal.returns-in-Sub-clause-row
returns-in-Sub-clause-row c =
    let parts = c.args.parts.now in
    let a = c.index-parts-0.result in
    let b = c.index-parts-parts.result in
    let n : length parts ≡ 2 = c.requires.count ∙ ap part_count c.in-Sub.is in
    let e : parts ≡ a ∷ b ∷ [] = two_of parts a b n c.index-parts-0.is c.index-parts-parts.is in
    let sa : 0 < length a = (part_at _ 0 parts a c.requires.parts (omega (arith, n)) c.index-parts-0.is).some in
    let sb : 0 < length b = (part_at _ (length parts - 1) parts b c.requires.parts (omega (arith, n)) c.index-parts-parts.is).some in
    rw c.in-Sub.is (word_row _ _ _ op.Sub parts a b _ ◌-ℤ◌ e (λ p q. refl) c.in_ok-word-in-Sub.ensures.word (omega (arith, sa)))

pub returns-in-Mul-clause-row : goal.returns-in-Mul-clause-row
returns-in-Mul-clause-row c =
    let parts = c.args.parts.now in
    let a = c.index-parts-0.result in
    let b = c.index-parts-parts.result in
    let n : length parts ≡ 2 = c.requires.count ∙ ap part_count c.in-Mul.is in
    let e : parts ≡ a ∷ b ∷ [] = two_of parts a b n c.index-parts-0.is c.index-parts-parts.is in
    let sa : 0 < length a = (part_at _ 0 parts a c.requires.parts (omega (arith, n)) c.index-parts-0.is).some in
    let sb : 0 < length b = (part_at _ (length parts - 1) parts b c.requires.parts (omega (arith, n)) c.index-parts-parts.is).some in
    rw c.in-Mul.is (word_row _ _ _ op.Mul parts a b _ ◌*ℤ◌ e (λ p q. refl) c.in_ok-word-in-Mul.ensures.word (cost_mul (length a) (length b) sa sb))

pub returns-in-Quot-clause-row : goal.returns-in-Quot-clause-row
returns-in-Quot-clause-row c =
    let parts = c.args.parts.now in
    let a = c.index-parts-0.result in
    let b = c.index-parts-parts.result in
    let n : length parts ≡ 2 = c.requires.count ∙ ap part_count c.in-Quot.is in
    let e : parts ≡ a ∷ b ∷ [] = two_of parts a b n c.index-parts-0.is c.index-parts-parts.is in
    let sa : 0 < length a = (part_at _ 0 parts a c.requires.parts (omega (arith, n)) c.index-parts-0.is).some in
    let sb : 0 < length b = (part_at _ (length parts - 1) parts b c.requires.parts (omega (arith, n)) c.index-parts-parts.is).some in
    rw c.in-Quot.is (word_row _ _ _ op.Quot parts a b _ quotient e (λ p q. refl) c.in_ok-word-in-Quot.ensures.word (cost_quot (length a) (length b) sa sb))

pub returns-in-Rem-clause-row : goal.returns-in-Rem-clause-row
returns-in-Rem-clause-row c =
    let parts = c.args.parts.now in
    let a = c.index-parts-0.result in
    let b = c.index-parts-parts.result in
    let n : length parts ≡ 2 = c.requires.count ∙ ap part_count c.in-Rem.is in
    let e : parts ≡ a ∷ b ∷ [] = two_of parts a b n c.index-parts-0.is c.index-parts-parts.is in
    let sa : 0 < length a = (part_at _ 0 parts a c.requires.parts (omega (arith, n)) c.index-parts-0.is).some in
    let sb : 0 < length b = (part_at _ (length parts - 1) parts b c.requires.parts (omega (arith, n)) c.index-parts-parts.is).some in
    rw c.in-Rem.is (word_row _ _ _ op.Rem parts a b _ rest e (λ p q. refl) c.in_ok-word-in-Rem.ensures.word (cost_rest (length a) (length b) sa sb))

pub returns-in-Fits-clause-row : goal.returns-in-Fits-clause-row
returns-in-Fits-clause-row c =
    let parts = c.args.parts.now in
    let a = c.index-parts-0.result in
    let n : length parts ≡ 1 = c.requires.count ∙ ap part_count c.in-Fits.is in
    let e : parts ≡ a ∷ [] = one_of parts a n c.index-parts-0.is in
    let sa : 0 < length a = (part_at _ 0 parts a c.requires.parts (omega (arith, n)) c.index-parts-0.is).some in
    rw c.in-Fits.is (flag_row_one _ _ _ op.Fits parts a _ is_safe e (λ p. refl) c.in_ok-lit-in-Fits.ensures.gate (omega (arith, sa)))

pub returns-in-Safe-clause-row : goal.returns-in-Safe-clause-row
returns-in-Safe-clause-row c =
    let parts = c.args.parts.now in
    let a = c.index-parts-0.result in
    let n : length parts ≡ 1 = c.requires.count ∙ ap part_count c.in-Safe.is in
    let e : parts ≡ a ∷ [] = one_of parts a n c.index-parts-0.is in
    let sa : 0 < length a = (part_at _ 0 parts a c.requires.parts (omega (arith, n)) c.index-parts-0.is).some in
    rw c.in-Safe.is (word_row_one _ _ _ op.Safe parts a _ safe e (λ p. refl) c.in_ok-word-in-Safe.ensures.word (omega (arith, sa)))

pub returns-in-BitAnd-clause-row : goal.returns-in-BitAnd-clause-row
returns-in-BitAnd-clause-row c =
    let parts = c.args.parts.now in
    let a = c.index-parts-0.result in
    let b = c.index-parts-parts.result in
    let n : length parts ≡ 2 = c.requires.count ∙ ap part_count c.in-BitAnd.is in
    let e : parts ≡ a ∷ b ∷ [] = two_of parts a b n c.index-parts-0.is c.index-parts-parts.is in
    let sa : 0 < length a = (part_at _ 0 parts a c.requires.parts (omega (arith, n)) c.index-parts-0.is).some in
    let sb : 0 < length b = (part_at _ (length parts - 1) parts b c.requires.parts (omega (arith, n)) c.index-parts-parts.is).some in
    let w = and_word _ _ a b _ sa sb c.in_ok-word-in-BitAnd.ensures.width c.in_ok-word-in-BitAnd.ensures.bits in
    rw c.in-BitAnd.is (word_row _ _ _ op.BitAnd parts a b _ bits_and e (λ p q. refl) w (omega arith))

pub returns-in-BitOr-clause-row : goal.returns-in-BitOr-clause-row
returns-in-BitOr-clause-row c =
    let parts = c.args.parts.now in
    let a = c.index-parts-0.result in
    let b = c.index-parts-parts.result in
    let n : length parts ≡ 2 = c.requires.count ∙ ap part_count c.in-BitOr.is in
    let e : parts ≡ a ∷ b ∷ [] = two_of parts a b n c.index-parts-0.is c.index-parts-parts.is in
    let sa : 0 < length a = (part_at _ 0 parts a c.requires.parts (omega (arith, n)) c.index-parts-0.is).some in
    let sb : 0 < length b = (part_at _ (length parts - 1) parts b c.requires.parts (omega (arith, n)) c.index-parts-parts.is).some in
    let w = or_word _ _ a b _ sa sb c.in_ok-word-in-BitOr.ensures.width c.in_ok-word-in-BitOr.ensures.bits in
    rw c.in-BitOr.is (word_row _ _ _ op.BitOr parts a b _ bits_or e (λ p q. refl) w (omega arith))

pub returns-in-BitXor-clause-row : goal.returns-in-BitXor-clause-row
returns-in-BitXor-clause-row c =
    let parts = c.args.parts.now in
    let a = c.index-parts-0.result in
    let b = c.index-parts-parts.result in
    let n : length parts ≡ 2 = c.requires.count ∙ ap part_count c.in-BitXor.is in
    let e : parts ≡ a ∷ b ∷ [] = two_of parts a b n c.index-parts-0.is c.index-parts-parts.is in
    let sa : 0 < length a = (part_at _ 0 parts a c.requires.parts (omega (arith, n)) c.index-parts-0.is).some in
    let sb : 0 < length b = (part_at _ (length parts - 1) parts b c.requires.parts (omega (arith, n)) c.index-parts-parts.is).some in
    let w = xor_word _ _ a b _ sa sb c.in_ok-word-in-BitXor.ensures.width c.in_ok-word-in-BitXor.ensures.bits in
    rw c.in-BitXor.is (word_row _ _ _ op.BitXor parts a b _ bits_xor e (λ p q. refl) w (omega arith))

pub returns-in-Shl-clause-row : goal.returns-in-Shl-clause-row
returns-in-Shl-clause-row c =
    let parts = c.args.parts.now in
    let a = c.index-parts-0.result in
    let b = c.index-parts-parts.result in
    let n : length parts ≡ 2 = c.requires.count ∙ ap part_count c.in-Shl.is in
    let e : parts ≡ a ∷ b ∷ [] = two_of parts a b n c.index-parts-0.is c.index-parts-parts.is in
    rw c.in-Shl.is (word_row _ _ _ op.Shl parts a b _ bits_left e (λ p q. refl) c.in_ok-word-in-Shl.ensures.word (omega arith))

pub returns-in-Shr-clause-row : goal.returns-in-Shr-clause-row
returns-in-Shr-clause-row c =
    let parts = c.args.parts.now in
    let a = c.index-parts-0.result in
    let b = c.index-parts-parts.result in
    let n : length parts ≡ 2 = c.requires.count ∙ ap part_count c.in-Shr.is in
    let e : parts ≡ a ∷ b ∷ [] = two_of parts a b n c.index-parts-0.is c.index-parts-parts.is in
    rw c.in-Shr.is (word_row _ _ _ op.Shr parts a b _ bits_right e (λ p q. refl) c.in_ok-word-in-Shr.ensures.word (omega arith))

pub returns-in-Ushr-clause-row : goal.returns-in-Ushr-clause-row
returns-in-Ushr-clause-row c =
    let parts = c.args.parts.now in
    let a = c.index-parts-0.result in
    let b = c.index-parts-parts.result in
    let n : length parts ≡ 2 = c.requires.count ∙ ap part_count c.in-Ushr.is in
    let e : parts ≡ a ∷ b ∷ [] = two_of parts a b n c.index-parts-0.is c.index-parts-parts.is in
    rw c.in-Ushr.is (word_row _ _ _ op.Ushr parts a b _ bits_right_zero e (λ p q. refl) c.in_ok-word-in-Ushr.ensures.word (omega arith))
