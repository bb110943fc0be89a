use Rattle.std.proofs.Common.{◌≡◌, ◌+◌, ◌≤◌, true, ◌++◌, length, take}
use Rattle.std.specs.List.{flat_map, list_all}
use Rattle.image_codec.specs.Pieces.{piece_legal, piece_meets, piece_spelled}
use Rattle.fsrm_store.specs.EnginePieces.{engine_pieces_left, nodes_left}
use Rattle.fsrm_store.proofs.image.fill.Given as goal

abbrev pub invariant-loop-end : goal.invariant-loop-end
invariant-loop-end g l = record {
  within : l.end ≤ length l.buffer;
  written : flat_map piece_spelled (engine_pieces_left l.fn.pieces) ≡ take l.end l.buffer ++ flat_map piece_spelled (engine_pieces_left l.pieces);
  meets : list_all piece_meets (engine_pieces_left l.pieces) ≡ true;
  legal : list_all piece_legal (engine_pieces_left l.pieces) ≡ true → list_all piece_legal (engine_pieces_left l.fn.pieces) ≡ true;
  engine : l.pieces.engine.now ≡ l.fn.pieces.engine.now;
  looks : l.steps + nodes_left l.pieces ≡ l.fn.steps + nodes_left l.fn.pieces;
}

abbrev pub decreases-loop-end : goal.decreases-loop-end
decreases-loop-end g l = length (engine_pieces_left l.pieces)
