use Rattle.row_table.proofs.IndexLaws.{index_less}
use Rattle.row_table.proofs.index.Index.remove.Goals as goal

pub invariant_of-self : goal.invariant_of-self
invariant_of-self c =
    let i = c.self.inside in
    rw (c.remove.ensures.rest, c.write.ensures) (index_less i.order i.notes.items i.bound c.args.number c.self.invariant)
