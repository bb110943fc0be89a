-- The rows still fit.
use Rattle.std.proofs.Common.{ap, arith, length}
use Rattle.node_table.specs.Rows.{Slotted, empty_row}
use Rattle.node_table.proofs.PlaceLaws.{length-with_at}
use Rattle.node_table.proofs.rows.Rows.put.Goals as goal

pub invariant_of-self : goal.invariant_of-self
invariant_of-self c =
    let i = c.self.inside in
    let inv = c.self.invariant in
    record {
      small = inv.small;
      within = omega (arith, inv.within, c.requires, ap (λ (s : Slotted). s.room) c.self.view_is, ap length c.put_at.ensures.rows, length-with_at empty_row i.rows.items c.args.number c.args.row);
      reserved = omega (arith, inv.reserved, c.put_at.ensures.capacity);
    }
