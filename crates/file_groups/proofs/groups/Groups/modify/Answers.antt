use Rattle.std.proofs.Common.{◌∙◌}
use Rattle.std.specs.Option.{option_copied}
use Rattle.fsrm_base.proofs.Look.{found_key}
use Rattle.fsrm_model.specs.values.Patterns.{group_number}
use Rattle.file_groups.proofs.GroupLaws.{regrouped_is}
use Rattle.file_groups.proofs.PartLaws.{group_small}
use Rattle.file_groups.proofs.groups.Groups.modify.Goals as goal

pub swap-requires-clause-small : goal.swap-requires-clause-small
swap-requires-clause-small c = rw c.new.ensures (group_small c.in_ok-row.row c.in_ok-row.ensures.valid)

pub swap-requires-clause-there : goal.swap-requires-clause-there
swap-requires-clause-there c =
    let found = rw (← c.self.view_is, ← c.row-old.ensures) at c.held.ensures.group in
    let number = found_key group_number c.args.group c.self.inside.groups.rows c.row-old.result.now found in
    rw (c.new.ensures, c.in_ok-row.ensures.row, number) (rw (← c.self.view_is) at c.requires.there)

pub invariant_of-self : goal.invariant_of-self
invariant_of-self c =
    let found = rw (← c.self.view_is, ← c.row-old.ensures) at c.held.ensures.group in
    let made = c.new.ensures ∙ c.in_ok-row.ensures.row in
    let valid = rw (← c.new.ensures) at c.in_ok-row.ensures.valid in
    let is = regrouped_is c.self.inside.groups.rows c.args.group c.row-old.result.now c.new.result (option_copied c.args.members) (option_copied c.args.non_members) c.self.invariant.are found made valid in
    record { are = rw c.swap.ensures.put is.are; ends_cover = c.ends_of_groups-self-inside.ensures }

pub returns-clause-ok : goal.returns-clause-ok
returns-clause-ok c =
    let found = rw (← c.self.view_is, ← c.row-old.ensures) at c.held.ensures.group in
    let made = c.new.ensures ∙ c.in_ok-row.ensures.row in
    let valid = rw (← c.new.ensures) at c.in_ok-row.ensures.valid in
    let is = regrouped_is c.self.inside.groups.rows c.args.group c.row-old.result.now c.new.result (option_copied c.args.members) (option_copied c.args.non_members) c.self.invariant.are found made valid in
    rw (c.swap.ensures.put, ← c.self.view_is) is.is

pub returns-clause-kept : goal.returns-clause-kept
returns-clause-kept c = (invariant_of-self c).are
