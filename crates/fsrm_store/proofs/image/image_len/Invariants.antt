use Rattle.std.proofs.Common.{◌≡◌, ◌+◌, true, length}
use Rattle.std.specs.List.{flat_map, list_all}
use Rattle.image_codec.specs.Pieces.{piece_spelled, pieces}
use Rattle.image_codec.specs.PiecesLeft.{piece_fits}
use Rattle.fsrm_store.specs.EnginePieces.{engine_pieces_left, nodes_left}
use Rattle.fsrm_store.proofs.image.image_len.Given as goal

abbrev pub invariant-loop-piece : goal.invariant-loop-piece
invariant-loop-piece g l = record {
  fits : list_all piece_fits (engine_pieces_left l.pieces) ≡ true;
  total : l.total + length (flat_map piece_spelled (engine_pieces_left l.pieces)) ≡ length (flat_map piece_spelled (pieces l.engine.rows));
  looks : l.steps + nodes_left l.pieces ≡ l.fn.steps + length l.engine.rows.nodes;
}

abbrev pub decreases-loop-piece : goal.decreases-loop-piece
decreases-loop-piece g l = length (engine_pieces_left l.pieces)
