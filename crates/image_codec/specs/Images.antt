-- Images: all rows that are kept, in one spelling. The moment of the last command and the run limit come first, then ten
-- lists. The queue and the unvisited folders aren't written, and are read as empty.
use Rattle.std.specs.Prelude.{ℕ, ◌-◌, ◌&&◌, ◌==◌, Bool, List, [], length, take, Some, Result, Ok, Err, if◌then◌else◌}
use Rattle.fsrm_model.specs.declared.row.ActRow.{ActRow}
use Rattle.fsrm_model.specs.declared.row.AuditRow.{AuditRow}
use Rattle.fsrm_model.specs.declared.row.AutoRow.{AutoRow}
use Rattle.fsrm_model.specs.declared.row.ExceptRow.{ExceptRow}
use Rattle.fsrm_model.specs.declared.row.GroupRow.{GroupRow}
use Rattle.fsrm_model.specs.declared.row.JobRow.{JobRow}
use Rattle.fsrm_model.specs.declared.row.NodeRow.{NodeRow}
use Rattle.fsrm_model.specs.declared.row.QuotaRow.{QuotaRow}
use Rattle.fsrm_model.specs.declared.row.Rows.{Rows}
use Rattle.fsrm_model.specs.declared.row.ScreenRow.{ScreenRow}
use Rattle.fsrm_model.specs.declared.row.TemplateRow.{TemplateRow}
use Rattle.fsrm_model.specs.store.Valid.{is_empty}
use Rattle.record_fields.specs.Formats.{Format, Read, number, standing, ◌⊗◌}
use Rattle.record_fields.specs.Laws.{left_of}
use Rattle.image_codec.specs.Rows.{rows, node, quota, template, auto, group, screen, except, job, act, audit}

-- the lists of objects, and those of what happened
abbrev pub ObjectLists : Type 0
ObjectLists =
    List QuotaRow × (List TemplateRow × (List AutoRow × (List GroupRow × (List ScreenRow × (List ExceptRow × (List JobRow × (List ActRow × List AuditRow)))))))

abbrev pub RowsValues : Type 0
RowsValues = ℕ × (ℕ × (List NodeRow × ObjectLists))

abbrev pub rows_of : RowsValues → Rows
rows_of v =
    let objects : ObjectLists = v.1.1.1 in
    record {
      nodes = v.1.1.0;
      quotas = objects.0;
      templates = objects.1.0;
      autos = objects.1.1.0;
      groups = objects.1.1.1.0;
      screens = objects.1.1.1.1.0;
      excepts = objects.1.1.1.1.1.0;
      jobs = objects.1.1.1.1.1.1.0;
      acts = objects.1.1.1.1.1.1.1.0;
      audits = objects.1.1.1.1.1.1.1.1;
      queue = [];
      unvisited = [];
      run_limit = v.1.0;
      last_moment = v.0;
    }

abbrev pub rows_values : Rows → RowsValues
rows_values R =
    (R.last_moment, (R.run_limit, (R.nodes, (R.quotas, (R.templates, (R.autos, (R.groups, (R.screens, (R.excepts, (R.jobs, (R.acts, R.audits)))))))))))

-- nothing of a scan that isn't finished
abbrev pub has_no_scan : Rows → Bool
has_no_scan R = is_empty R.queue && is_empty R.unvisited

abbrev pub image : Format Rows
image =
    standing (λ v. Some (rows_of v)) rows_values has_no_scan
    (number 8 ⊗ number 4 ⊗ rows node ⊗ rows quota ⊗ rows template ⊗ rows auto ⊗ rows group ⊗ rows screen ⊗ rows except ⊗ rows job ⊗ rows act ⊗ rows audit)

-- The rows that bytes spell, if their image has so many bytes, or the place of the first byte that is wrong: the first
-- field's that isn't there whole or isn't legal, or the one right after a whole spelling that is shorter. What follows
-- so many bytes isn't read
abbrev pub of_length : Bool → ℕ → Read Rows → Result Rows ℕ
of_length is_all size (Ok r) = if is_all && (length r.1 == 0) then Ok r.0 else Err (size - length r.1)
of_length is_all size (Err flaw) = Err (size - left_of flaw)

abbrev pub image_in : ℕ → List ℕ → Result Rows ℕ
image_in len bytes = of_length (length bytes == len) (length (take len bytes)) (image.read (take len bytes))
