-- The entry of the run is the one of the list.
use Rattle.std.proofs.Common.{◌<◌, Some, ◌∙◌, ap, sym, arith, length}
use Rattle.std.proofs.lemmas.Option.{slice_get-get_or}
use Rattle.block_list.proofs.list.BlockList.get.Goals as goal

pub returns : goal.returns
returns g c =
    let run = c.run.result.now in
    let offset = c.args.place.offset in
    let within : offset < length run = omega (arith, c.requires.offset, ap length c.run.ensures.run) in
    c.run.ensures.entries offset within ∙ (slice_get-get_or run offset c.index-run-place.result within ∙ ap Some (sym c.index-run-place.is))
