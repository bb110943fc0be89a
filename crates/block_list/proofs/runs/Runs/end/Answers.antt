-- No other run is empty.
use Rattle.std.proofs.Common.{◌<◌, ap, subst, sym, arith, length}
use Rattle.std.proofs.lemmas.List.Edits.{length-remove}
use Rattle.block_list.specs.Runs.{Shelf, IsShelf}
use Rattle.block_list.proofs.ShelfLaws.{used-remove}
use Rattle.block_list.proofs.runs.Runs.end.Goals as goal

pub invariant_of-self : goal.invariant_of-self
invariant_of-self g c =
    let runs = c.self.inside.store.runs in
    let inv = c.self.invariant in
    let within : c.args.run < length runs = let count = ap (λ (v : Shelf g.row.T.Denot). length v.runs) c.self.view_is in omega (arith, count) in
    subst IsShelf (sym c.close.ensures) (record { small = inv.small; count = omega (arith, inv.count, length-remove runs c.args.run within); used = used-remove runs c.args.run inv.used within })
