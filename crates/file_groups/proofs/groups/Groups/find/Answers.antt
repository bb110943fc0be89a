use Rattle.std.proofs.Common.{sym, ◌∙◌, ap}
use Rattle.std.specs.Option.{option_copied}
use Rattle.fsrm_base.proofs.Look.{found_has, found_own}
use Rattle.fsrm_model.specs.values.Patterns.{group_number, has_name}
use Rattle.file_groups.proofs.groups.Groups.find.Goals as goal

pub returns-clause-there : goal.returns-clause-there
returns-clause-there c =
    let rows = c.self.inside.groups.rows in
    let group = c.in_ok-group.group.now in
    let own = found_own group_number (has_name c.args.name.now) rows group c.find.ensures.kept.ascending (sym c.find.ensures.row ∙ ap option_copied c.in_ok-group.was) in
    rw (← c.self.view_is, c.row.ensures) (found_has group_number group.number rows group own)
