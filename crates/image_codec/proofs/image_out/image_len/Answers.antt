use Rattle.std.proofs.Common.{◌≡◌, length, ap, ◌∙◌, arith, length-append}
use Rattle.std.specs.List.{flat_map}
use Rattle.image_codec.specs.Pieces.{lent, piece_spelled, pieces}
use Rattle.image_codec.specs.PiecesLeft.{pieces_left}
use Rattle.image_codec.proofs.LeftLaws.{few_bytes}
use Rattle.image_codec.proofs.PieceLaws.{pieces_spelled}
use Rattle.image_codec.proofs.image_out.image_len.Goals as goal

pub overflow_add-total : goal.overflow_add-total
overflow_add-total c =
    omega (
      arith,
      few_bytes c.args.rows.now c.requires,
      c.pieces.invariant.total,
      ap (λ ps. length (flat_map piece_spelled ps)) c.in-Some.ensures,
      length-append (piece_spelled (lent c.in-Some.piece)) (flat_map piece_spelled (pieces_left c.next.new.self)),
      c.row_len-total.ensures,
    )

pub returns : goal.returns
returns c =
    let rows = c.args.rows.now in
    let all : c.pieces.total ≡ length (flat_map piece_spelled (pieces rows)) = omega (arith, c.pieces.invariant.total, ap (λ ps. length (flat_map piece_spelled ps)) c.in_default.ensures.0) in
    all ∙ ap length (pieces_spelled rows)
