use Rattle.std.proofs.Common.{◌+◌, ◌∙◌, drop, get_or, sym, ap}
use Rattle.std.proofs.lemmas.List.{drop_all, drop_more}
use Rattle.storage_reports.specs.Doubles.{mixed, mixed_with}
use Rattle.storage_reports.proofs.Mixes.{mixed_step}
use Rattle.storage_reports.proofs.twins.mix_bytes.Goals as goal

pub loop-byte-preserved : goal.loop-byte-preserved
loop-byte-preserved c =
    let bytes = c.args.bytes.now in
    let i = c.loop-byte.byte-index in
    mixed_step c.loop-byte.mixed (get_or bytes i 0) c.mix-mixed.result (drop i bytes) (drop (i + 1) bytes) (drop_more bytes i 0 c.loop-byte-test.true) (c.mix-mixed.ensures ∙ ap (mixed_with c.loop-byte.mixed) c.from.ensures)
    ∙ c.loop-byte.invariant

pub returns : goal.returns
returns c = ap (mixed c.loop-byte.mixed) (sym (drop_all c.loop-byte.byte-index c.args.bytes.now c.loop-byte-test.false)) ∙ c.loop-byte.invariant
