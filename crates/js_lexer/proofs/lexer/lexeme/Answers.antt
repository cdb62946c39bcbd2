use Rattle.std.proofs.Common.{sym, ap, ◌∙◌, Some}
use Rattle.js_lexer.proofs.Families.{family_at}
use Rattle.js_lexer.proofs.Bests.{first_is, best_finish, best_name, reads_text, reads_pattern}
use Rattle.js_lexer.proofs.NumberBests.{reads_number}
use Rattle.js_lexer.proofs.MarkBests.{reads_mark}
use Rattle.js_lexer.proofs.lexer.lexeme.Goals as goal

pub returns-in_default : goal.returns-in_default
returns-in_default c = best_finish _ _ _ (sym c.in_default.ensures)

pub returns-in-Name : goal.returns-in-Name
returns-in-Name c =
    let units_are = first_is c.args.units.now (c.in-Some.first, c.in-Some.behind.now) (sym c.in-Some.ensures) in
    best_name _ _ _ (c.name.result.0, c.name.result.1.now) (ap (family_at c.args.goal) units_are ∙ ap (λ q. Some q) (sym c.in-Name.ensures)) c.name.ensures

pub returns-in-Number : goal.returns-in-Number
returns-in-Number c =
    let units_are = first_is c.args.units.now (c.in-Some.first, c.in-Some.behind.now) (sym c.in-Some.ensures) in
    reads_number _ _ _ _ (ap (family_at c.args.goal) units_are ∙ ap (λ q. Some q) (sym c.in-Number.ensures)) c.numeral.ensures

pub returns-in-Text : goal.returns-in-Text
returns-in-Text c =
    let units_are = first_is c.args.units.now (c.in-Some.first, c.in-Some.behind.now) (sym c.in-Some.ensures) in
    reads_text _ _ _ c.in-Some.first c.in-Some.behind.now _ units_are (sym c.in-Text.ensures) c.text.ensures

pub returns-in-Pattern : goal.returns-in-Pattern
returns-in-Pattern c =
    let units_are = first_is c.args.units.now (c.in-Some.first, c.in-Some.behind.now) (sym c.in-Some.ensures) in
    reads_pattern _ _ _ c.in-Some.first c.in-Some.behind.now _ units_are (sym c.in-Pattern.ensures) c.pattern.ensures

pub returns-in-Mark : goal.returns-in-Mark
returns-in-Mark c =
    let units_are = first_is c.args.units.now (c.in-Some.first, c.in-Some.behind.now) (sym c.in-Some.ensures) in
    reads_mark _ _ _ _ (ap (family_at c.args.goal) units_are ∙ ap (λ q. Some q) (sym c.in-Mark.ensures)) c.mark.ensures
