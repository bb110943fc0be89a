-- The pieces of the image of an engine's rows from one on.
use Rattle.std.specs.Prelude.{ℕ, Bool, List, ◌++◌, drop, filter, length, map, nat_le}
use Rattle.fsrm_model.specs.declared.row.NodeRow.{NodeRow}
use Rattle.fsrm_model.specs.declared.row.Rows.{Rows}
use Rattle.image_codec.specs.Pieces.{Piece, NodePiece}
use Rattle.image_codec.specs.PiecesLeft.{row_pieces, sections_pieces}
use Rattle.image_codec.specs.Sections.{following}
use Rattle.image_codec.specs.declared.section.Section.{Section}
use Rattle.image_codec.specs.declared.section.Section.TheVariants.{Start, Nodes}
use Rattle.fsrm_store.specs.declared.pieces.EnginePieces.{EnginePieces}

-- the nodes from a number on
abbrev pub is_from : ℕ → NodeRow → Bool
is_from number row = nat_le number row.number

abbrev pub nodes_from : ℕ → List NodeRow → List NodeRow
nodes_from number nodes = filter (is_from number) nodes

-- the rows of a section from one on: of the nodes those from a number on, of others those from a place on
abbrev pub rows_from : Section → ℕ → Rows → List Piece
rows_from Nodes number R = map NodePiece (nodes_from number R.nodes)
rows_from other place R = drop place (row_pieces other R)

abbrev pub rows_left : EnginePieces → List Piece
rows_left p = rows_from p.section p.next p.engine.now.rows

abbrev pub engine_pieces_left : EnginePieces → List Piece
engine_pieces_left p = rows_left p ++ sections_pieces (following p.section) p.engine.now.rows

-- how many nodes are still to come: all of them, some, or none
abbrev pub nodes_to_come : Section → ℕ → List NodeRow → ℕ
nodes_to_come Start next nodes = length nodes
nodes_to_come Nodes next nodes = length (nodes_from next nodes)
nodes_to_come other next nodes = 0

abbrev pub nodes_left : EnginePieces → ℕ
nodes_left p = nodes_to_come p.section p.next p.engine.now.rows.nodes
