use Rattle.std.proofs.Common.{ap, ◌∙◌}
use Rattle.row_rules.specs.Kept.{are_numbered_groups}
use Rattle.fsrm_parts.proofs.tables.FilledLaws.{numbered_groups}
use Rattle.fsrm_parts.proofs.filling.fill_groups.Goals as goal

pub groups_of-requires : goal.groups_of-requires
groups_of-requires c = ap are_numbered_groups c.as_slice.ensures ∙ numbered_groups c.args.rows.now c.requires
