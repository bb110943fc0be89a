use Rattle.std.proofs.Common.{sym, ◌∙◌, ap}
use Rattle.std.specs.Prelude.{option_copied}
use Rattle.file_screens.proofs.FolderLaws.{known_except, no_except, except_is}
use Rattle.file_screens.proofs.screening.is_excepted.Goals as goal

pub returns-in_default : goal.returns-in_default
returns-in_default c =
    λ text named. sym (no_except c.args.groups.now c.args.objects.now.excepts text c.args.folder (sym c.except.ensures ∙ ap option_copied c.in_default.is))

pub is_in_some-requires : goal.is_in_some-requires
is_in_some-requires c = known_except c.args.groups.now c.args.objects.now c.args.folder c.in-Some.except.now c.requires (sym c.in-Some.ensures)

pub returns : goal.returns
returns c =
    λ text named.
    c.is_in_some.ensures text named
    ∙ sym (except_is c.args.groups.now c.args.objects.now.excepts text c.args.folder c.in-Some.except.now (sym c.in-Some.ensures))
