use Rattle.std.proofs.Common.{◌<◌, ◌++◌, ◌∷◌, [], length, take, sym, arith}
use Rattle.std.proofs.lemmas.List.{take_all}
use Rattle.std.proofs.lemmas.Option.{get_or_from_slice_get}
use Rattle.fsrm_model.specs.declared.row.GroupRow.{GroupRow}
use Rattle.name_patterns.proofs.EndLaws.{some_more}
use Rattle.file_groups.specs.Folded.{in_group_folded, in_some_group}
use Rattle.file_groups.proofs.held.ends_of_groups.Goals as goal

pub loop-place-preserved : goal.loop-place-preserved
loop-place-preserved c = λ cs character is.
    let l = c.loop-place in
    let rows = c.args.groups.now.rows in
    let group = c.at.result.now in
    let within : l.place < length rows = omega (arith, c.loop-place-test.true, c.len-place-end.ensures.count) in
    c.or-ends.ensures (in_some_group (take l.place rows)) (in_group_folded group) l.invariant c.ends.ensures cs character
    (some_more (λ (g : GroupRow). in_group_folded g (cs ++ character ∷ [])) rows l.place group within (sym (get_or_from_slice_get rows l.place group group c.at.ensures)) is)

pub returns : goal.returns
returns c = rw (take_all c.loop-place.place c.args.groups.now.rows (omega (arith, c.len-place-end.ensures.count, c.loop-place-test.false))) at c.loop-place.invariant
