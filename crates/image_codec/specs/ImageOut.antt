-- A writer of an image: which of its bytes are still to be written.
use Rattle.std.specs.Prelude.{◌≡◌, ◌≤◌, ℕ, Bool, true, List, ◌++◌, length, take, drop}
use Rattle.std.specs.List.{flat_map, list_all}
use Rattle.image_codec.specs.declared.image_out.ImageOut.{ImageOut}
use Rattle.image_codec.specs.Pieces.{piece_legal, piece_spelled, longest_piece}
use Rattle.image_codec.specs.PiecesLeft.{piece_fits, pieces_left}

-- what had no room of the piece that was written last
abbrev pub cut_off : ImageOut → List ℕ
cut_off out = drop out.from (take out.till out.row.items)

abbrev pub image_left : ImageOut → List ℕ
image_left out = cut_off out ++ flat_map piece_spelled (pieces_left out.pieces)

-- whether all pieces that are still to be written will be read again
abbrev pub left_legal : ImageOut → Bool
left_legal out = list_all piece_legal (pieces_left out.pieces)

-- a writer whose pieces fit, with room for the longest one
pub record CanWrite (out : ImageOut) : Type 0 where
  pub fits : list_all piece_fits (pieces_left out.pieces) ≡ true
  pub room : longest_piece ≤ length out.row.items
  pub cut : out.from ≤ out.till
  pub within : out.till ≤ length out.row.items
