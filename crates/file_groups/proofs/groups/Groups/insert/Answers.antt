use Rattle.std.proofs.Common.{◌≤◌, ◌++◌, ◌∷◌, [], length, arith}
use Rattle.fsrm_base.specs.Keyed.{with_row}
use Rattle.fsrm_base.proofs.Order.{length-with_row}
use Rattle.fsrm_model.specs.values.Limits.{most_groups}
use Rattle.fsrm_model.specs.values.Patterns.{group_name, group_number, is_group}
use Rattle.fsrm_model.proofs.valid.NamesApart.{named-new}
use Rattle.file_groups.specs.Folded.{in_group_folded, in_some_group}
use Rattle.file_groups.proofs.GroupLaws.{some_new}
use Rattle.file_groups.proofs.PartLaws.{group_small}
use Rattle.file_groups.proofs.groups.Groups.insert.Goals as goal

pub insert-requires-clause-small : goal.insert-requires-clause-small
insert-requires-clause-small c = rw c.new-group.ensures (group_small c.args.row c.requires.valid)

pub invariant_of-self-2 : goal.invariant_of-self-2
invariant_of-self-2 c =
    let rows = c.self.inside.groups.rows in
    let row = c.args.row in
    let free = rw (← c.self.view_is) at c.requires.free in
    let new = rw (← c.self.view_is) at c.requires.new in
    let room = rw (← c.self.view_is) at c.requires.few in
    let few : length (with_row group_number row rows) ≤ most_groups = omega (arith, length-with_row group_number row rows, room) in
    rw (c.insert.ensures, c.in_ok-reserve.ensures.ok, c.new-group.ensures) (record {
      are = named-new group_number group_name most_groups is_group row rows c.self.invariant.are free new few c.requires.valid;
      ends_cover = λ cs character is.
          c.or-self-inside.ensures (in_some_group rows) (in_group_folded row) c.self.invariant.ends_cover (rw c.new-group.ensures at c.ends.ensures) cs character (some_new row rows (cs ++ character ∷ []) is);
    })

pub returns-clause-kept : goal.returns-clause-kept
returns-clause-kept c = (invariant_of-self-2 c).are
