use Rattle.std.proofs.Common.{ℤ, List, ◌≡◌, ◌∙◌, ap, sym, arith, length, ◌-◌, [], ◌∷◌, subst, All}
use Rattle.std.proofs.lemmas.List.{length-append}
use Rattle.std.proofs.lemmas.List.Elements.{All-append}
use Rattle.cnf_core.specs.Literals.{Names}
use Rattle.bit_words.proofs.Lists.{padded_names, take_names}
use Rattle.bit_words.proofs.Composed.{built_as, named_one}
use Rattle.int_encoder.proofs.Shifting.{raised_word}
use Rattle.int_encoder.proofs.shifts.raised_where.Goals as goal

pub choose_words-requires-clause-a : goal.choose_words-requires-clause-a
choose_words-requires-clause-a c =
    let n = c.args.builder.now.variables in
    let P : List ℤ → Type 0 = λ l. All (Names n) l in
    subst P (sym c.in_ok-moved.ensures.bits) (All-append (Names n) c.in_ok-zeros.zeros c.in_ok-lower.lower
    (subst P (sym c.in_ok-zeros.ensures.bits) (padded_names n (c.args.by - 1) (c.args.never ∷ []) (named_one n c.args.never c.requires.never)))
    (subst P (sym c.in_ok-lower.ensures.bits) (take_names n (c.width.result - c.args.by) c.args.a.now c.requires.a)))

pub returns-clause-word : goal.returns-clause-word
returns-clause-word c =
    let g = c.in_ok-word.ensures.word.built in
    let l : length c.in_ok-moved.moved ≡ 32 =
    ap length c.in_ok-moved.ensures.bits ∙ length-append c.in_ok-zeros.zeros c.in_ok-lower.lower ∙ (omega (arith, c.in_ok-zeros.ensures.width, c.in_ok-lower.ensures.width, c.requires.width, c.requires.fewer)) in
    built_as g (omega (arith, l, c.requires.width)) g.names
    (λ v p. raised_word v c.args.a.now c.in_ok-lower.lower c.in_ok-zeros.zeros c.in_ok-moved.moved c.in_ok-word.word c.args.by c.width.result c.args.when c.args.never
    c.requires.width c.requires.some c.requires.fewer c.width.ensures.width c.in_ok-lower.ensures.bits c.in_ok-zeros.ensures.bits c.in_ok-moved.ensures.bits p)

pub returns-clause-width : goal.returns-clause-width
returns-clause-width c =
    let l : length c.in_ok-moved.moved ≡ 32 =
    ap length c.in_ok-moved.ensures.bits ∙ length-append c.in_ok-zeros.zeros c.in_ok-lower.lower ∙ (omega (arith, c.in_ok-zeros.ensures.width, c.in_ok-lower.ensures.width, c.requires.width, c.requires.fewer)) in
    omega (arith, l, c.in_ok-word.ensures.width, c.requires.width)
