use Rattle.std.proofs.Common.{◌≡◌, arith, length, neg_ℤ, ap, ◌∙◌}
use Rattle.std.proofs.lemmas.List.{length-map}
use Rattle.bit_words.proofs.Adding.{difference_word}
use Rattle.bit_words.proofs.Lists.{opposites_names}
use Rattle.bit_words.proofs.builder.Builder.subtract_from.Goals as goal

pub add_from-requires-clause-b : goal.add_from-requires-clause-b
add_from-requires-clause-b c = rw c.in_ok-opposites.ensures (opposites_names _ c.args.b.now c.requires.b)

pub returns-clause-word : goal.returns-clause-word
returns-clause-word c =
    let l : length c.in_ok-opposites.opposites ≡ length c.args.b.now = ap length c.in_ok-opposites.ensures ∙ length-map c.args.b.now neg_ℤ in
    difference_word _ _ _ _ _ _ _ _ _ _ c.requires.b c.requires.some_b c.requires.borrow c.in_ok-opposites.ensures c.opposite.ensures (omega (arith, l)) c.in_ok-difference.ensures.word
