use Rattle.std.proofs.Common.{◌∙◌, ap, sym}
use Rattle.std.specs.Option.{option_copied}
use Rattle.std.specs.Prelude.{◌==◌}
use Rattle.fsrm_base.proofs.Members.{all_found}
use Rattle.fsrm_base.proofs.SortedRows.{has_lent}
use Rattle.fsrm_model.specs.values.Limits.{most_groups}
use Rattle.fsrm_model.specs.values.Patterns.{group_name, group_number, is_group}
use Rattle.fsrm_model.proofs.valid.NamesApart.{named_parts}
use Rattle.file_groups.proofs.groups.Groups.held.Goals as goal

pub unwrap-requires : goal.unwrap-requires
unwrap-requires c = has_lent group_number c.args.number c.self.inside.groups.rows c.get.result c.get.ensures.row ∙ (rw (← c.self.view_is) at c.requires)

pub returns-clause-valid : goal.returns-clause-valid
returns-clause-valid c =
    let rows = c.self.inside.groups.rows in
    all_found is_group (λ g. g.number == c.args.number) rows c.unwrap.result.now (named_parts group_number group_name most_groups is_group rows c.self.invariant.are).each (sym c.get.ensures.row ∙ ap option_copied c.unwrap.ensures)
