use Rattle.std.proofs.Common.{◌≡◌, ◌+◌, true, length}
use Rattle.std.specs.List.{flat_map, list_all}
use Rattle.image_codec.specs.Pieces.{piece_spelled, pieces}
use Rattle.image_codec.specs.PiecesLeft.{piece_fits, pieces_left}
use Rattle.image_codec.proofs.image_out.image_len.Given as goal

abbrev pub invariant-pieces : goal.invariant-pieces
invariant-pieces l = record {
  fits : list_all piece_fits (pieces_left l.pieces) ≡ true;
  total : l.total + length (flat_map piece_spelled (pieces_left l.pieces)) ≡ length (flat_map piece_spelled (pieces l.rows));
}

abbrev pub decreases-pieces : goal.decreases-pieces
decreases-pieces l = length (pieces_left l.pieces)
