use Rattle.std.proofs.Common.{sym, ◌∙◌}
use Rattle.explorer.proofs.Found.{keeps, adds}
use Rattle.explorer.proofs.listing.add_path.Goals as goal

pub returns-then-contains_key : goal.returns-then-contains_key
returns-then-contains_key c = λ all h. rw (sym c.in_ok-path.ensures.path) (keeps all _ _ _ (sym c.if-contains_key.ensures) h)

pub returns : goal.returns
returns c =
    λ all h. rw (c.in_ok-insert.ensures.entries, c.in_ok-input.ensures, c.as_slice.ensures, c.as_slice-2.ensures, sym c.in_ok-path.ensures.path)
    (adds all _ _ _ (sym c.if-contains_key.ensures) h)
