use Rattle.row_table.proofs.IndexLaws.{index_more}
use Rattle.row_table.proofs.index.Index.insert.Goals as goal

pub invariant_of-self : goal.invariant_of-self
invariant_of-self c =
    let i = c.self.inside in
    let cover = c.cover-self-inside.ensures in
    let free = rw (← c.self.view_is) at c.requires.free in
    let room = rw (← c.self.view_is) at c.requires.room in
    rw (c.insert.ensures, c.write.ensures)
    (index_more i.order i.notes.items c.cover-self-inside.new.notes.items i.bound c.cover-self-inside.result c.args.entry c.self.invariant cover.grown cover.reached cover.within cover.most free room c.requires.small)
