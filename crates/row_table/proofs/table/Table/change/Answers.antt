use Rattle.std.proofs.Common.{sym, ◌∙◌, arith}
use Rattle.row_table.proofs.TableLaws.{kept_of, row_noted, seen_of, table_noted, table_of}
use Rattle.row_table.proofs.table.Table.change.Goals as goal

pub change-requires : goal.change-requires
change-requires g c row below is =
    let found = row_noted (table_of c.self.invariant c.self.view_is) c.args.number c.note.result c.note.ensures (λ none. absurd (omega (arith, below, none))) in
    c.requires.may row (sym found ∙ is)

pub invariant_of-self : goal.invariant_of-self
invariant_of-self g c =
    let put = c.change.ensures in
    kept_of (table_noted c.self.invariant c.args.number c.note.result (g.E.Edit.edited c.args.edit.now) c.change.new.self c.note.ensures put.few c.requires.keeps put.put put.held put.room)

pub returns : goal.returns
returns g c =
    let table = table_of c.self.invariant c.self.view_is in
    let put = c.change.ensures in
    record {
      changed = seen_of (table_noted table c.args.number c.note.result (g.E.Edit.edited c.args.edit.now) c.change.new.self c.note.ensures put.few c.requires.keeps put.put put.held put.room);
      told = rw (row_noted table c.args.number c.note.result c.note.ensures (λ none. put.few)) at put.told;
    }
