-- The pieces of which an image consists: what comes first, the count of each list, and its rows.
use Rattle.std.specs.Prelude.{ℕ, Bool, true, List, ◌∷◌, ◌++◌, length, map}
use Rattle.fsrm_model.specs.declared.row.ActRow.{ActRow}
use Rattle.fsrm_model.specs.declared.row.AuditRow.{AuditRow}
use Rattle.fsrm_model.specs.declared.row.AutoRow.{AutoRow}
use Rattle.fsrm_model.specs.declared.row.ExceptRow.{ExceptRow}
use Rattle.fsrm_model.specs.declared.row.GroupRow.{GroupRow}
use Rattle.fsrm_model.specs.declared.row.JobRow.{JobRow}
use Rattle.fsrm_model.specs.declared.row.NodeRow.{NodeRow}
use Rattle.fsrm_model.specs.declared.row.QuotaRow.{QuotaRow}
use Rattle.fsrm_model.specs.declared.row.Rows.{Rows}
use Rattle.fsrm_model.specs.declared.row.ScreenRow.{ScreenRow}
use Rattle.fsrm_model.specs.declared.row.TemplateRow.{TemplateRow}
use Rattle.fsrm_model.specs.store.Lasting.{flagged_quota}
use Rattle.record_fields.specs.Formats.{Format, number, ◌⊗◌}
use Rattle.image_codec.specs.declared.row_ref.RowRef.{RowRef}
use Rattle.image_codec.specs.declared.row_ref.RowRef.TheVariants as lent_row
use Rattle.image_codec.specs.Parts.{is_short, quota_meets, template_meets, auto_meets, group_meets, screen_meets, except_meets, job_meets}
use Rattle.image_codec.specs.Rows.{node, quota, template, auto, group, screen, except, job, act, audit}

pub data Piece : Type 0 where
  StartPiece : (last_moment run_limit : ℕ) → Piece
  CountPiece : (count : ℕ) → Piece
  NodePiece : (row : NodeRow) → Piece
  QuotaPiece : (row : QuotaRow) → Piece
  TemplatePiece : (row : TemplateRow) → Piece
  AutoPiece : (row : AutoRow) → Piece
  GroupPiece : (row : GroupRow) → Piece
  ScreenPiece : (row : ScreenRow) → Piece
  ExceptPiece : (row : ExceptRow) → Piece
  JobPiece : (row : JobRow) → Piece
  ActPiece : (row : ActRow) → Piece
  AuditPiece : (row : AuditRow) → Piece

-- the piece that is lent
abbrev pub lent : RowRef → Piece
lent (lent_row.Start last_moment run_limit) = StartPiece last_moment run_limit
lent (lent_row.Count count) = CountPiece count
lent (lent_row.Node number parent name folder length owner created modified accessed) =
    NodePiece
    (record {
      number = number;
      parent = parent;
      name = name.now;
      folder = folder;
      length = length;
      owner = owner;
      created = created;
      modified = modified;
      accessed = accessed;
    })
lent (lent_row.Quota row) = QuotaPiece row.now
lent (lent_row.Template row) = TemplatePiece row.now
lent (lent_row.Auto row) = AutoPiece row.now
lent (lent_row.Group row) = GroupPiece row.now
lent (lent_row.Screen row) = ScreenPiece row.now
lent (lent_row.Except row) = ExceptPiece row.now
lent (lent_row.Job row) = JobPiece row.now
lent (lent_row.Act row) = ActPiece row
lent (lent_row.Audit moment active owner folder screen name) =
    AuditPiece
    (record { moment = moment; active = active; owner = owner; folder = folder; screen = screen; name = name.now })

-- a spelling, and whether it is read again
pub record Spelling : Type 0 where
  pub bytes : List ℕ
  pub legal : Bool

abbrev pub spelled_as : {X : Type 0} → Format X → X → Spelling
spelled_as f x = record { bytes = f.spell x; legal = f.legal x }

-- A quota that is rebuilt is spelled as incomplete
abbrev pub spelling : Piece → Spelling
spelling (StartPiece last_moment run_limit) = spelled_as (number 8 ⊗ number 4) (last_moment, run_limit)
spelling (CountPiece count) = spelled_as (number 4) count
spelling (NodePiece row) = spelled_as node row
spelling (QuotaPiece row) = spelled_as quota (flagged_quota row)
spelling (TemplatePiece row) = spelled_as template row
spelling (AutoPiece row) = spelled_as auto row
spelling (GroupPiece row) = spelled_as group row
spelling (ScreenPiece row) = spelled_as screen row
spelling (ExceptPiece row) = spelled_as except row
spelling (JobPiece row) = spelled_as job row
spelling (ActPiece row) = spelled_as act row
spelling (AuditPiece row) = spelled_as audit row

abbrev pub piece_spelled : Piece → List ℕ
piece_spelled piece = (spelling piece).bytes

abbrev pub piece_legal : Piece → Bool
piece_legal piece = (spelling piece).legal

-- whether it meets the limits of rows
abbrev pub piece_meets : Piece → Bool
piece_meets (NodePiece row) = is_short row.name
piece_meets (QuotaPiece row) = quota_meets row
piece_meets (TemplatePiece row) = template_meets row
piece_meets (AutoPiece row) = auto_meets row
piece_meets (GroupPiece row) = group_meets row
piece_meets (ScreenPiece row) = screen_meets row
piece_meets (ExceptPiece row) = except_meets row
piece_meets (JobPiece row) = job_meets row
piece_meets (AuditPiece row) = is_short row.name
piece_meets other = true

-- the bytes of the longest piece whose rows meet their limits are no more than this
abbrev pub longest_piece : ℕ
longest_piece = 262144

-- ---- all pieces of rows, in order
abbrev pub list_pieces : {X : Type 0} → (X → Piece) → List X → List Piece
list_pieces make xs = CountPiece (length xs) ∷ map make xs

abbrev pub pieces : Rows → List Piece
pieces R =
    StartPiece R.last_moment R.run_limit
    ∷ (list_pieces NodePiece R.nodes
    ++ (list_pieces QuotaPiece R.quotas
    ++ (list_pieces TemplatePiece R.templates
    ++ (list_pieces AutoPiece R.autos
    ++ (list_pieces GroupPiece R.groups
    ++ (list_pieces ScreenPiece R.screens
    ++ (list_pieces ExceptPiece R.excepts
    ++ (list_pieces JobPiece R.jobs
    ++ (list_pieces ActPiece R.acts ++ list_pieces AuditPiece R.audits)))))))))
