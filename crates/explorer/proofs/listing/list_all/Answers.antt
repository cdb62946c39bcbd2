use Rattle.std.proofs.Common.{refl, sym, subst}
use Rattle.std.specs.Prelude.{List}
use Rattle.report_text.specs.declared.report.Line.{Line}
use Rattle.explorer.specs.Listing.{all_lines, Picks}
use Rattle.explorer.proofs.Spelt.{listed_spelt}
use Rattle.explorer.proofs.listing.list_all.Goals as goal

pub returns-clause-spelt : goal.returns-clause-spelt
returns-clause-spelt c =
    listed_spelt c.args.script.now c.args.bounds.now _ c.requires.accepted
    (record { lines = subst (λ (ls : List Line). Picks (all_lines c.args.script.now c.args.bounds.now) ls) (sym c.in_ok-lines.ensures) c.in_ok-found.ensures; complete = refl })
