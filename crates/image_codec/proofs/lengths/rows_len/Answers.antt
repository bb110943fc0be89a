use Rattle.std.proofs.Common.{◌≡◌, length, take, ap, ◌∙◌, arith}
use Rattle.std.specs.List.{flat_map}
use Rattle.std.proofs.lemmas.List.{take_all}
use Rattle.image_codec.proofs.LengthLaws.{list_long}
use Rattle.image_codec.proofs.lengths.rows_len.Goals as goal

pub returns-clause-exact : goal.returns-clause-exact
returns-clause-exact g c =
    let spell = g.M.Measured.spell in
    let items = c.as_slice-items.result.now in
    let all : take c.loop-value.value-index items ≡ items = take_all c.loop-value.value-index items (omega arith) in
    c.loop-value.invariant.exact
    ∙ omega (arith, list_long spell c.args.values.now, ap (λ xs. length (flat_map spell xs)) all, ap (λ xs. length (flat_map spell xs)) c.as_slice-items.ensures)
