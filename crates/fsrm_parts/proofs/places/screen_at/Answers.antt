use Rattle.std.proofs.Common.{ap, sym, ◌∙◌}
use Rattle.std.specs.Option.{option_copied}
use Rattle.fsrm_parts.specs.Places.{rows_with}
use Rattle.fsrm_parts.proofs.walks.FoundLaws.{found_at, found_own, screen_missing, missing}
use Rattle.fsrm_parts.proofs.places.screen_at.Goals as goal

pub returns-in_default-clause-err : goal.returns-in_default-clause-err
returns-in_default-clause-err g c = missing c.args.tree.now.nodes c.args.path.now _ c.in_default.ensures.folder

pub returns-in_default-screen-clause-err : goal.returns-in_default-screen-clause-err
returns-in_default-screen-clause-err g c =
    screen_missing (rows_with c.args.tree.now.nodes c.args.objects.now) c.args.path.now c.in-Some.folder c.in-Some.ensures.folder (sym c.screen.ensures ∙ ap option_copied c.in_default-screen.is)

pub returns-clause-at : goal.returns-clause-at
returns-clause-at g c =
    found_at c.args.tree.now.nodes c.args.objects.now.screens c.args.path.now c.in-Some.folder c.in-Some-screen.screen.now c.in-Some.ensures.folder (sym c.in-Some-screen.ensures)

pub returns-clause-found : goal.returns-clause-found
returns-clause-found g c = found_own c.args.objects.now.screens c.in-Some.folder c.in-Some-screen.screen.now (sym c.in-Some-screen.ensures)
