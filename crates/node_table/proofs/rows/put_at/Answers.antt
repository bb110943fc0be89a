-- An empty row more changes nothing of where the row comes.
use Rattle.std.proofs.Common.{◌≡◌, ◌<◌, ◌≤◌, ◌++◌, ◌∷◌, [], ◌∙◌, ap, arith, length}
use Rattle.node_table.specs.declared.row.Row.{Row}
use Rattle.node_table.specs.Rows.{empty_row}
use Rattle.node_table.specs.Slots.{with_at}
use Rattle.node_table.proofs.PlaceLaws.{filled_up, set-with_at, succeeded}
use Rattle.node_table.proofs.rows.put_at.Goals as goal

pub loop-rows-preserved : goal.loop-rows-preserved
loop-rows-preserved c =
    let rows = c.loop-rows.rows in
    let past : length rows.items ≤ c.args.place = omega (arith, c.loop-rows-test.true, c.len.ensures, rows.ok) in
    let pushed : c.push.new.self.items ≡ rows.items ++ empty_row ∷ [] =
    succeeded c.push.result _ rows.items c.push.new.self.items (c.push.ensures.succeeds (omega (arith, past, rows.ok, c.requires, c.loop-rows.invariant.capacity))) c.push.ensures.items
    ∙ ap (λ (row : Row). rows.items ++ row ∷ []) c.empty.ensures in
    record {
      filled = λ row. ap (λ xs. with_at empty_row xs c.args.place row) pushed ∙ (filled_up empty_row rows.items c.args.place row past ∙ c.loop-rows.invariant.filled row);
      capacity = omega (arith, c.loop-rows.invariant.capacity, c.push.ensures.capacity);
    }

pub returns-clause-rows : goal.returns-clause-rows
returns-clause-rows c =
    let rows = c.loop-rows.rows in
    let within : c.args.place < length rows.items = omega (arith, c.loop-rows-test.false, c.len.ensures, rows.ok) in
    set-with_at empty_row rows.items c.args.place c.args.row within ∙ c.loop-rows.invariant.filled c.args.row
