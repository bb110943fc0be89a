use Rattle.std.proofs.Common.{ap, sym, ◌∙◌}
use Rattle.file_groups.specs.Folded.{in_group_folded}
use Rattle.file_groups.proofs.GroupLaws.{found_in}
use Rattle.file_groups.proofs.groups.Groups.has.Goals as goal

pub returns : goal.returns
returns g c = λ text is.
    let group = c.held.result.now in
    c.has.ensures ∙ (ap (in_group_folded group) (sym is) ∙ found_in c.args.self.now c.args.group group text c.held.ensures.group)
