use Rattle.std.proofs.Common.{◌+◌, ◌∷◌, map, drop, sym, ap, ◌∙◌}
use Rattle.image_codec.specs.Pieces.{lent}
use Rattle.image_codec.proofs.OutLaws.{map_at}
use Rattle.image_codec.proofs.lent.lend_at.Goals as goal

pub returns-clause-piece : goal.returns-clause-piece
returns-clause-piece g c =
    let piece = g.L.Lend.piece in
    let place = c.args.place in
    let rows = c.as_slice-rows.result.now in
    ap (λ xs. drop place (map piece xs)) (sym c.as_slice-rows.ensures)
    ∙ map_at piece rows place c.index-rows-place.result c.if-place-rows.false c.index-rows-place.is
    ∙ ap (λ y. y ∷ drop (place + 1) (map piece rows)) (sym c.lend.ensures)
    ∙ ap (λ xs. lent c.lend.result ∷ drop (place + 1) (map piece xs)) c.as_slice-rows.ensures
