use Rattle.file_groups.specs.Folded.{in_some_group}
use Rattle.file_groups.proofs.GroupLaws.{in_none}
use Rattle.file_groups.proofs.groups.Groups.may_have.Goals as goal

pub returns : goal.returns
returns c = λ other number.
    let groups = c.self.inside.groups.rows in
    rw (← c.self.view_is) (in_none groups c.args.name.now (c.may_have.ensures other (in_some_group groups) c.self.invariant.ends_cover) number)
