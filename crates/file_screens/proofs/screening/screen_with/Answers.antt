use Rattle.std.proofs.Common.{true, false, sym, ◌∙◌, ap}
use Rattle.std.specs.Prelude.{option_map, option_copied}
use Rattle.file_screens.specs.Blocked.{told}
use Rattle.file_screens.proofs.FolderLaws.{known_screen, no_screen, screen_is}
use Rattle.file_screens.proofs.screening.screen_with.Goals as goal

pub returns-in_default : goal.returns-in_default
returns-in_default c =
    λ text named.
    sym (ap (option_map told) (no_screen c.args.groups.now c.args.objects.now.screens text c.args.folder (sym c.screen.ensures ∙ ap option_copied c.in_default.is)))

pub is_in_some-requires : goal.is_in_some-requires
is_in_some-requires c = known_screen c.args.groups.now c.args.objects.now c.args.folder c.in-Some.screen.now c.requires (sym c.in-Some.ensures)

pub returns-then-not-is_in_some : goal.returns-then-not-is_in_some
returns-then-not-is_in_some c =
    λ text named.
    sym (ap (option_map told) (screen_is c.args.groups.now c.args.objects.now.screens text c.args.folder c.in-Some.screen.now false (sym c.in-Some.ensures) (sym (c.is_in_some.ensures text named) ∙ c.if-not-is_in_some.true)))

pub returns : goal.returns
returns c =
    λ text named.
    sym (ap (option_map told) (screen_is c.args.groups.now c.args.objects.now.screens text c.args.folder c.in-Some.screen.now true (sym c.in-Some.ensures) (sym (c.is_in_some.ensures text named) ∙ c.if-not-is_in_some.false)))
