use Rattle.std.proofs.Common.{subst}
use Rattle.js_lexer.specs.Reading.{IsBest}
use Rattle.js_lexer.specs.declared.token.Lexeme.{Lexeme}
use Rattle.js_lexer.specs.declared.token.Lexeme.TheVariants as lexeme
use Rattle.js_lexer.proofs.Ends.{refused_none}
use Rattle.js_lexer.proofs.lexer.longest_token.Goals as goal

pub returns-in-Some-Refused-default : goal.returns-in-Some-Refused-default
returns-in-Some-Refused-default c =
    refused_none _ _ _ _
    (subst (λ (q : Lexeme). IsBest c.args.goal c.args.starts_line q c.args.units.now c.in-Some-Refused-default.field-0-1.now) c.in-Some-Refused-default.field-0-0-is c.in-Some-Refused-default.ensures)

pub returns-in-None : goal.returns-in-None
returns-in-None c = λ kind rest h. c.in-None.ensures (lexeme.Token kind) rest h.spelt
