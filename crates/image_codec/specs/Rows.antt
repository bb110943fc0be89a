-- The rows of an image: the fields of each in the order of the row, each number in the width that it has there, and every
-- list after its count in four bytes. A field's values aren't restricted any further: which rows may stand in a store is
-- another question (`is_valid`).
use Rattle.std.specs.Prelude.{ℕ, Bool, ℤ, List, Option}
use Rattle.fsrm_model.specs.declared.row.ActRow.{ActRow}
use Rattle.fsrm_model.specs.declared.row.Action.{Action}
use Rattle.fsrm_model.specs.declared.row.ActionKind.{ActionKind}
use Rattle.fsrm_model.specs.declared.row.AuditRow.{AuditRow}
use Rattle.fsrm_model.specs.declared.row.AutoRow.{AutoRow}
use Rattle.fsrm_model.specs.declared.row.ExceptRow.{ExceptRow}
use Rattle.fsrm_model.specs.declared.row.Filter.{Filter}
use Rattle.fsrm_model.specs.declared.row.GroupRow.{GroupRow}
use Rattle.fsrm_model.specs.declared.row.JobRow.{JobRow}
use Rattle.fsrm_model.specs.declared.row.NodeRow.{NodeRow}
use Rattle.fsrm_model.specs.declared.row.QuotaRow.{QuotaRow}
use Rattle.fsrm_model.specs.declared.row.QuotaState.{QuotaState}
use Rattle.fsrm_model.specs.declared.row.ReportKind.{ReportKind}
use Rattle.fsrm_model.specs.declared.row.ScreenRow.{ScreenRow}
use Rattle.fsrm_model.specs.declared.row.TemplateRow.{TemplateRow}
use Rattle.fsrm_model.specs.declared.row.Threshold.{Threshold}
use Rattle.record_fields.specs.Formats.{Format, number, text, truth, shaped, ◌⊗◌, optional, listed}
use Rattle.record_codec.specs.Fields.{action_kind, report_kind}
use Rattle.image_codec.specs.Choices.{minutes, state}

abbrev pub rows : {X : Type 0} → Format X → Format (List X)
rows f = listed (number 4) f

-- ---- nodes
abbrev pub NodeValues : Type 0
NodeValues = ℕ × (ℕ × (List ℕ × (Bool × (ℕ × (ℕ × (ℕ × (ℕ × ℕ)))))))

abbrev pub node_of : NodeValues → NodeRow
node_of v =
    record {
      number = v.0;
      parent = v.1.0;
      name = v.1.1.0;
      folder = v.1.1.1.0;
      length = v.1.1.1.1.0;
      owner = v.1.1.1.1.1.0;
      created = v.1.1.1.1.1.1.0;
      modified = v.1.1.1.1.1.1.1.0;
      accessed = v.1.1.1.1.1.1.1.1;
    }

abbrev pub node_values : NodeRow → NodeValues
node_values r =
    (r.number, (r.parent, (r.name, (r.folder, (r.length, (r.owner, (r.created, (r.modified, r.accessed))))))))

abbrev pub node : Format NodeRow
node =
    shaped node_of node_values
    (number 4 ⊗ number 4 ⊗ text ⊗ truth ⊗ number 8 ⊗ number 4 ⊗ number 8 ⊗ number 8 ⊗ number 8)

-- ---- actions and thresholds
abbrev pub ActionValues : Type 0
ActionValues = ActionKind × (ℤ × (List ℕ × Option ℕ))

abbrev pub action_of : ActionValues → Action
action_of v = record { kind = v.0; minutes = v.1.0; text = v.1.1.0; last_run = v.1.1.1 }

abbrev pub action_values : Action → ActionValues
action_values a = (a.kind, (a.minutes, (a.text, a.last_run)))

abbrev pub action : Format Action
action = shaped action_of action_values (action_kind ⊗ minutes ⊗ text ⊗ optional (number 8))

abbrev pub threshold_of : ℕ × List Action → Threshold
threshold_of v = record { percent = v.0; actions = v.1 }

abbrev pub threshold_values : Threshold → ℕ × List Action
threshold_values t = (t.percent, t.actions)

abbrev pub threshold : Format Threshold
threshold = shaped threshold_of threshold_values (number 2 ⊗ rows action)

-- ---- quotas
abbrev pub QuotaValues : Type 0
QuotaValues = ℕ × (ℕ × (Bool × (QuotaState × (List Threshold × (Option ℕ × (ℕ × ℕ))))))

abbrev pub quota_of : QuotaValues → QuotaRow
quota_of v =
    record {
      folder = v.0;
      limit = v.1.0;
      enforce = v.1.1.0;
      state = v.1.1.1.0;
      thresholds = v.1.1.1.1.0;
      template = v.1.1.1.1.1.0;
      peak = v.1.1.1.1.1.1.0;
      peak_at = v.1.1.1.1.1.1.1;
    }

abbrev pub quota_values : QuotaRow → QuotaValues
quota_values q =
    (q.folder, (q.limit, (q.enforce, (q.state, (q.thresholds, (q.template, (q.peak, q.peak_at)))))))

abbrev pub quota : Format QuotaRow
quota =
    shaped quota_of quota_values
    (number 4 ⊗ number 8 ⊗ truth ⊗ state ⊗ rows threshold ⊗ optional (number 4) ⊗ number 8 ⊗ number 8)

-- ---- templates and auto-apply quotas
abbrev pub TemplateValues : Type 0
TemplateValues = ℕ × (List ℕ × (ℕ × (Bool × List Threshold)))

abbrev pub template_of : TemplateValues → TemplateRow
template_of v =
    record { number = v.0; name = v.1.0; limit = v.1.1.0; enforce = v.1.1.1.0; thresholds = v.1.1.1.1 }

abbrev pub template_values : TemplateRow → TemplateValues
template_values t = (t.number, (t.name, (t.limit, (t.enforce, t.thresholds))))

abbrev pub template : Format TemplateRow
template = shaped template_of template_values (number 4 ⊗ text ⊗ number 8 ⊗ truth ⊗ rows threshold)

abbrev pub auto_of : ℕ × (ℕ × List (List ℕ)) → AutoRow
auto_of v = record { folder = v.0; template = v.1.0; excluded = v.1.1 }

abbrev pub auto_values : AutoRow → ℕ × (ℕ × List (List ℕ))
auto_values a = (a.folder, (a.template, a.excluded))

abbrev pub auto : Format AutoRow
auto = shaped auto_of auto_values (number 4 ⊗ number 4 ⊗ rows text)

-- ---- file groups, screens and exceptions
abbrev pub GroupValues : Type 0
GroupValues = ℕ × (List ℕ × (List (List ℕ) × List (List ℕ)))

abbrev pub group_of : GroupValues → GroupRow
group_of v = record { number = v.0; name = v.1.0; members = v.1.1.0; non_members = v.1.1.1 }

abbrev pub group_values : GroupRow → GroupValues
group_values g = (g.number, (g.name, (g.members, g.non_members)))

abbrev pub group : Format GroupRow
group = shaped group_of group_values (number 4 ⊗ text ⊗ rows text ⊗ rows text)

abbrev pub screen_of : ℕ × (Bool × (List ℕ × List Action)) → ScreenRow
screen_of v = record { folder = v.0; active = v.1.0; groups = v.1.1.0; actions = v.1.1.1 }

abbrev pub screen_values : ScreenRow → ℕ × (Bool × (List ℕ × List Action))
screen_values s = (s.folder, (s.active, (s.groups, s.actions)))

abbrev pub screen : Format ScreenRow
screen = shaped screen_of screen_values (number 4 ⊗ truth ⊗ rows (number 4) ⊗ rows action)

abbrev pub except_of : ℕ × List ℕ → ExceptRow
except_of v = record { folder = v.0; groups = v.1 }

abbrev pub except_values : ExceptRow → ℕ × List ℕ
except_values e = (e.folder, e.groups)

abbrev pub except : Format ExceptRow
except = shaped except_of except_values (number 4 ⊗ rows (number 4))

-- ---- report jobs
abbrev pub FilterValues : Type 0
FilterValues = Option ℕ × (Option (List ℕ) × (Option ℕ × (Option ℕ × (Option ℕ × ℕ))))

abbrev pub filter_of : FilterValues → Filter
filter_of v =
    record {
      owner = v.0;
      pattern = v.1.0;
      min_size = v.1.1.0;
      days = v.1.1.1.0;
      min_use = v.1.1.1.1.0;
      max = v.1.1.1.1.1;
    }

abbrev pub filter_values : Filter → FilterValues
filter_values f = (f.owner, (f.pattern, (f.min_size, (f.days, (f.min_use, f.max)))))

abbrev pub filter : Format Filter
filter =
    shaped filter_of filter_values
    (optional (number 4) ⊗ optional text ⊗ optional (number 8) ⊗ optional (number 4) ⊗ optional (number 4) ⊗ number 4)

abbrev pub JobValues : Type 0
JobValues = ℕ × (List ℕ × (ReportKind × (ℕ × (Filter × (List ℕ × (ℕ × Option ℕ))))))

abbrev pub job_of : JobValues → JobRow
job_of v =
    record {
      number = v.0;
      name = v.1.0;
      kind = v.1.1.0;
      scope = v.1.1.1.0;
      filter = v.1.1.1.1.0;
      schedule = v.1.1.1.1.1.0;
      made = v.1.1.1.1.1.1.0;
      last_run = v.1.1.1.1.1.1.1;
    }

abbrev pub job_values : JobRow → JobValues
job_values j = (j.number, (j.name, (j.kind, (j.scope, (j.filter, (j.schedule, (j.made, j.last_run)))))))

abbrev pub job : Format JobRow
job =
    shaped job_of job_values
    (number 4 ⊗ text ⊗ report_kind ⊗ number 4 ⊗ filter ⊗ text ⊗ number 8 ⊗ optional (number 8))

-- ---- logs
abbrev pub act_of : ℕ × (ℕ × (ℕ × ActionKind)) → ActRow
act_of v = record { moment = v.0; folder = v.1.0; percent = v.1.1.0; kind = v.1.1.1 }

abbrev pub act_values : ActRow → ℕ × (ℕ × (ℕ × ActionKind))
act_values a = (a.moment, (a.folder, (a.percent, a.kind)))

abbrev pub act : Format ActRow
act = shaped act_of act_values (number 8 ⊗ number 4 ⊗ number 2 ⊗ action_kind)

abbrev pub AuditValues : Type 0
AuditValues = ℕ × (Bool × (ℕ × (ℕ × (ℕ × List ℕ))))

abbrev pub audit_of : AuditValues → AuditRow
audit_of v =
    record {
      moment = v.0;
      active = v.1.0;
      owner = v.1.1.0;
      folder = v.1.1.1.0;
      screen = v.1.1.1.1.0;
      name = v.1.1.1.1.1;
    }

abbrev pub audit_values : AuditRow → AuditValues
audit_values a = (a.moment, (a.active, (a.owner, (a.folder, (a.screen, a.name)))))

abbrev pub audit : Format AuditRow
audit = shaped audit_of audit_values (number 8 ⊗ truth ⊗ number 4 ⊗ number 4 ⊗ number 4 ⊗ text)
