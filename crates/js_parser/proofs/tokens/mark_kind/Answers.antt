use Rattle.std.proofs.Common.{◌≡◌, Some, None, sym, ap, ◌∙◌}
use Rattle.js_parser.specs.Tokens.{entry, marks, units_of}
use Rattle.js_parser.proofs.Marks.{mark_entry}
use Rattle.js_parser.proofs.tokens.mark_kind.Goals as goal

pub unreachable-requires : goal.unreachable-requires
unreachable-requires c =
    let m = mark_entry c.args.text.now c.args.token.now c.requires.kind c.requires.is_token in
    let d : None ≡ Some m.0 = sym c.in-None.is ∙ c.mark_of.ensures ∙ ap (λ u. entry marks (units_of u c.args.token.now)) c.as_slice.ensures ∙ m.1 in
    cc
