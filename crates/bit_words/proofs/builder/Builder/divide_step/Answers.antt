use Rattle.std.proofs.Common.{ℤ, List, sym, arith, length, ◌-◌, ◌∷◌, subst, neg_ℤ, All}
use Rattle.cnf_core.specs.Literals.{Names}
use Rattle.bit_words.proofs.Lists.{name_at}
use Rattle.bit_words.proofs.Composed.{built_both}
use Rattle.bit_words.proofs.Within.{names_later}
use Rattle.bit_words.proofs.Opposites.{opposite_names}
use Rattle.bit_words.proofs.Dividing.{step_word}
use Rattle.bit_words.proofs.Composed.{named_more}
use Rattle.bit_words.proofs.Lists.{take_names}
use Rattle.bit_words.proofs.builder.Builder.divide_step.Goals as goal

pub returns-clause-step : goal.returns-clause-step
returns-clause-step c =
    let g = c.in_ok-difference.ensures.word.built in
    let h = c.in_ok-kept.ensures.word.built in
    let diff = c.in_ok-difference.difference in
    let less = c.sign-less.result in
    let some = c.in_ok-difference.ensures.word.some in
    let nl = name_at c.subtract_from.new.self.variables c.subtract_from.new.self.variables diff (length diff - 1) less g.names (omega (arith, some)) c.sign-less.ensures (omega arith) in
    let nl' = names_later c.subtract_from.new.self.variables c.choose_words.new.self.variables less nl h.variables in
    let n = c.choose_words.new.self.variables in
    let P : ℤ → Type 0 = λ z. All (Names n) (z ∷ c.in_ok-rest.rest) in
    let Q : List ℤ → Type 0 = λ l. All (Names n) l in
    built_both g h (omega (arith, c.in_ok-difference.ensures.width, c.requires.width)) (subst P (sym c.opposite.ensures) (named_more n (neg_ℤ less) c.in_ok-rest.rest (opposite_names n less nl') (subst Q (sym c.in_ok-rest.ensures.bits) (take_names n c.width.result c.in_ok-kept.kept h.names))))
    (λ v p q en. step_word v c.args.next.now c.args.divisor.now diff c.in_ok-kept.kept c.in_ok-rest.rest less c.opposite.result c.args.never (length c.args.divisor.now) _ nl some c.sign-less.ensures
    c.opposite.ensures en p q (c.width.ensures.range v) (rw c.width.ensures.width at (c.in_ok-rest.ensures.value v)))
