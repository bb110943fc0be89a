use Rattle.std.proofs.Common.{arith}
use Rattle.fsrm_base.proofs.Order.{least_free_is}
use Rattle.fsrm_model.specs.values.Patterns.{group_number}
use Rattle.file_groups.proofs.groups.Groups.free_number.Goals as goal

pub returns-clause-below : goal.returns-clause-below
returns-clause-below c =
    let few = rw (← c.self.view_is) at c.requires in
    omega (arith, (least_free_is group_number c.self.inside.groups.rows c.free_number.ensures.kept.ascending).most, c.free_number.ensures.number, few)

pub returns-clause-free : goal.returns-clause-free
returns-clause-free c =
    rw (← c.self.view_is, c.free_number.ensures.number) (least_free_is group_number c.self.inside.groups.rows c.free_number.ensures.kept.ascending).free
