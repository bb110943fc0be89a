use Rattle.std.proofs.Common.{length, ap, arith, length-append}
use Rattle.std.specs.List.{flat_map}
use Rattle.image_codec.specs.Pieces.{lent, piece_spelled}
use Rattle.image_codec.proofs.LeftLaws.{few_bytes}
use Rattle.fsrm_store.specs.EnginePieces.{engine_pieces_left}
use Rattle.fsrm_store.proofs.image.image_len.Goals as goal

pub overflow_add-total : goal.overflow_add-total
overflow_add-total g c =
    omega (
      arith,
      few_bytes c.args.engine.now.rows c.requires,
      c.loop-piece.invariant.total,
      ap (λ ps. length (flat_map piece_spelled ps)) c.in-Some.ensures.piece,
      length-append (piece_spelled (lent c.in-Some.piece)) (flat_map piece_spelled (engine_pieces_left c.next.new.self)),
      c.row_len-total.ensures,
    )
