use Rattle.std.proofs.Common.{◌∙◌, ◌-◌, ◌<◌, ap, arith, length}
use Rattle.std.specs.List.{remove}
use Rattle.row_table.proofs.OrderLaws.{cut}
use Rattle.row_table.proofs.order.cut.Goals as goal

pub returns-clause-rest : goal.returns-clause-rest
returns-clause-rest c =
    let within : c.args.place < length c.deref_mut.result.now = omega (arith, c.requires, ap length c.deref_mut.ensures.value) in
    c.truncate.ensures.items
    ∙ (cut c.deref_mut.result.now c.cut_first.new.run _ _ c.args.place c.args.order.now.len (c.len.result - 1) within (omega (arith, c.deref_mut.ensures.len)) (omega (arith, c.len.ensures, c.deref_mut.ensures.len)) c.cut_first.ensures.rest c.cut_first.ensures.length
    ∙ ap (λ items. remove items c.args.place) c.deref_mut.ensures.value)
