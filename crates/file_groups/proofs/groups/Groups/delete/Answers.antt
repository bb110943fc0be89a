use Rattle.fsrm_model.specs.values.Limits.{most_groups}
use Rattle.fsrm_model.specs.values.Patterns.{group_name, group_number, is_group}
use Rattle.fsrm_model.proofs.valid.NamesApart.{named-without}
use Rattle.file_groups.proofs.groups.Groups.delete.Goals as goal

pub invariant_of-self : goal.invariant_of-self
invariant_of-self c = record {
  are = rw c.remove.ensures.rest (named-without group_number group_name most_groups is_group c.args.group c.self.inside.groups.rows c.self.invariant.are);
  ends_cover = c.ends_of_groups-self-inside.ensures;
}

pub returns-clause-kept : goal.returns-clause-kept
returns-clause-kept c = (invariant_of-self c).are
