-- The pieces of rows from one on: those of the section that it stands in, and all of the sections after it.
use Rattle.std.specs.Prelude.{ℕ, ◌&&◌, Bool, true, List, [], ◌∷◌, ◌++◌, length, map, drop}
use Rattle.fsrm_model.specs.declared.row.Rows.{Rows}
use Rattle.record_fields.specs.Formats.{number_legal}
use Rattle.image_codec.specs.declared.row_pieces.RowPieces.{RowPieces}
use Rattle.image_codec.specs.declared.section.Section.{Section}
use Rattle.image_codec.specs.declared.section.Section.TheVariants.{Start, Nodes, Quotas, Templates, Autos, Groups, Screens, Excepts, Jobs, Acts, Audits}
use Rattle.image_codec.specs.Pieces.{Piece, StartPiece, CountPiece, NodePiece, QuotaPiece, TemplatePiece, AutoPiece, GroupPiece, ScreenPiece, ExceptPiece, JobPiece, ActPiece, AuditPiece, piece_meets}
use Rattle.image_codec.specs.Sections.{following}

-- whether a count has a spelling
abbrev pub is_counted : Piece → Bool
is_counted (CountPiece count) = number_legal 4 count
is_counted other = true

-- whether a piece can be written so that it is read again: a count has a spelling, and a row meets its limits
abbrev pub piece_fits : Piece → Bool
piece_fits piece = is_counted piece && piece_meets piece

-- the pieces of a section without the count that comes before them
abbrev pub row_pieces : Section → Rows → List Piece
row_pieces Start R = StartPiece R.last_moment R.run_limit ∷ []
row_pieces Nodes R = map NodePiece R.nodes
row_pieces Quotas R = map QuotaPiece R.quotas
row_pieces Templates R = map TemplatePiece R.templates
row_pieces Autos R = map AutoPiece R.autos
row_pieces Groups R = map GroupPiece R.groups
row_pieces Screens R = map ScreenPiece R.screens
row_pieces Excepts R = map ExceptPiece R.excepts
row_pieces Jobs R = map JobPiece R.jobs
row_pieces Acts R = map ActPiece R.acts
row_pieces Audits R = map AuditPiece R.audits

-- how many these are
abbrev pub row_count : Section → Rows → ℕ
row_count Start R = 1
row_count Nodes R = length R.nodes
row_count Quotas R = length R.quotas
row_count Templates R = length R.templates
row_count Autos R = length R.autos
row_count Groups R = length R.groups
row_count Screens R = length R.screens
row_count Excepts R = length R.excepts
row_count Jobs R = length R.jobs
row_count Acts R = length R.acts
row_count Audits R = length R.audits

-- the pieces of some sections, each after its count
abbrev pub sections_pieces : List Section → Rows → List Piece
sections_pieces [] R = []
sections_pieces (s ∷ ss) R = CountPiece (row_count s R) ∷ (row_pieces s R ++ sections_pieces ss R)

abbrev pub pieces_left : RowPieces → List Piece
pieces_left p = drop p.place (row_pieces p.section p.rows.now) ++ sections_pieces (following p.section) p.rows.now
