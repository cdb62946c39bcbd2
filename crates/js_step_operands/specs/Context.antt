-- This project's own: contexts as the code has them.
use Rattle.js_grammar.specs.Phrases.{Context}
use Rattle.js_step_operands.specs.declared.context.Context.{Context as Found}

abbrev pub see : Found → Context
see found = record { in_loop = found.in_loop; in_function = found.in_function; has_this = found.has_this }
