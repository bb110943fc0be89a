-- What commands do has its form and range if it has a spelling.
use Rattle.std.proofs.Common.{◌≡◌, true, false, List, [], ◌∷◌, refl}
use Rattle.std.specs.Prelude.{◌&&◌, Bool, is_none}
use Rattle.std.specs.List.{list_all}
use Rattle.fsrm_base.proofs.TestLaws.{both, both_true}
use Rattle.fsrm_model.specs.commands.Commands.{form_of_op, form_of_quota, form_of_template, form_of_autoquota, form_of_admin, form_of_filegroup, form_of_screen, form_of_exception, form_of_reports}
use Rattle.fsrm_model.specs.commands.Commands.{is_new_quota, is_quota_change, is_new_template, is_template_change, is_new_autoquota, is_new_filegroup, is_filegroup_change, is_new_screen, is_screen_change, is_new_exception, is_new_job}
use Rattle.fsrm_model.specs.commands.Entry.{Path}
use Rattle.fsrm_model.specs.declared.command.AdminDeed.{AdminDeed}
use Rattle.fsrm_model.specs.declared.command.AdminDeed.TheVariants.{Options as AdminOptions}
use Rattle.fsrm_model.specs.declared.command.AutoquotaDeed.{AutoquotaDeed}
use Rattle.fsrm_model.specs.declared.command.AutoquotaDeed.TheVariants.{Add as AutoquotaAdd, Delete as AutoquotaDelete}
use Rattle.fsrm_model.specs.declared.command.ExceptionDeed.{ExceptionDeed}
use Rattle.fsrm_model.specs.declared.command.ExceptionDeed.TheVariants.{Add as ExceptionAdd, Delete as ExceptionDelete}
use Rattle.fsrm_model.specs.declared.command.FileOp.{FileOp}
use Rattle.fsrm_model.specs.declared.command.FileOp.TheVariants.{Mkdir, Create, Resize, Touch, Move, Remove}
use Rattle.fsrm_model.specs.declared.command.FilegroupChange.{FilegroupChange}
use Rattle.fsrm_model.specs.declared.command.FilegroupDeed.{FilegroupDeed}
use Rattle.fsrm_model.specs.declared.command.FilegroupDeed.TheVariants.{Add as FilegroupAdd, Modify as FilegroupModify, Delete as FilegroupDelete}
use Rattle.fsrm_model.specs.declared.command.NewAutoquota.{NewAutoquota}
use Rattle.fsrm_model.specs.declared.command.NewException.{NewException}
use Rattle.fsrm_model.specs.declared.command.NewFilegroup.{NewFilegroup}
use Rattle.fsrm_model.specs.declared.command.NewJob.{NewJob}
use Rattle.fsrm_model.specs.declared.command.NewQuota.{NewQuota}
use Rattle.fsrm_model.specs.declared.command.NewScreen.{NewScreen}
use Rattle.fsrm_model.specs.declared.command.NewTemplate.{NewTemplate}
use Rattle.fsrm_model.specs.declared.command.QuotaChange.{QuotaChange}
use Rattle.fsrm_model.specs.declared.command.QuotaDeed.{QuotaDeed}
use Rattle.fsrm_model.specs.declared.command.QuotaDeed.TheVariants.{Add as QuotaAdd, Modify as QuotaModify, Delete as QuotaDelete, Scan as QuotaScan, Resetpeak as QuotaResetpeak}
use Rattle.fsrm_model.specs.declared.command.ReportsDeed.{ReportsDeed}
use Rattle.fsrm_model.specs.declared.command.ReportsDeed.TheVariants.{Add as ReportsAdd, Delete as ReportsDelete, Run as ReportsRun}
use Rattle.fsrm_model.specs.declared.command.ScreenChange.{ScreenChange}
use Rattle.fsrm_model.specs.declared.command.ScreenDeed.{ScreenDeed}
use Rattle.fsrm_model.specs.declared.command.ScreenDeed.TheVariants.{Add as ScreenAdd, Modify as ScreenModify, Delete as ScreenDelete}
use Rattle.fsrm_model.specs.declared.command.TemplateChange.{TemplateChange}
use Rattle.fsrm_model.specs.declared.command.TemplateDeed.{TemplateDeed}
use Rattle.fsrm_model.specs.declared.command.TemplateDeed.TheVariants.{Add as TemplateAdd, Modify as TemplateModify, Delete as TemplateDelete}
use Rattle.fsrm_model.specs.objects.Jobs.{is_schedule}
use Rattle.fsrm_model.specs.store.Valued.{is_path, is_short_path}
use Rattle.fsrm_model.specs.values.Limits.{most_minutes}
use Rattle.fsrm_model.specs.values.Patterns.{are_members, are_non_members}
use Rattle.record_fields.specs.Formats.{truth, optional_legal}
use Rattle.record_codec.specs.declared.autoquotas.AutoquotaKind.{AutoquotaKind}
use Rattle.record_codec.specs.declared.autoquotas.AutoquotaKind.TheVariants.{Add as AddAutoquota, Delete as DeleteAutoquota}
use Rattle.record_codec.specs.declared.exceptions.ExceptionKind.{ExceptionKind}
use Rattle.record_codec.specs.declared.exceptions.ExceptionKind.TheVariants.{Add as AddException, Delete as DeleteException}
use Rattle.record_codec.specs.declared.filegroups.FilegroupKind.{FilegroupKind}
use Rattle.record_codec.specs.declared.filegroups.FilegroupKind.TheVariants.{Add as AddFilegroup, Modify as ModifyFilegroup, Delete as DeleteFilegroup}
use Rattle.record_codec.specs.declared.files.FileKind.{FileKind}
use Rattle.record_codec.specs.declared.files.FileKind.TheVariants.{Mkdir as MkdirKind, Create as CreateKind, Resize as ResizeKind, Touch as TouchKind, Move as MoveKind, Remove as RemoveKind}
use Rattle.record_codec.specs.declared.quotas.QuotaKind.{QuotaKind}
use Rattle.record_codec.specs.declared.quotas.QuotaKind.TheVariants.{Add as AddQuota, Modify as ModifyQuota, Delete as DeleteQuota, Scan as ScanQuota, Resetpeak as ResetpeakQuota}
use Rattle.record_codec.specs.declared.reports.JobKind.{JobKind}
use Rattle.record_codec.specs.declared.reports.JobKind.TheVariants.{Add as AddJob, Delete as DeleteJob, Run as RunJob}
use Rattle.record_codec.specs.declared.screens.ScreenKind.{ScreenKind}
use Rattle.record_codec.specs.declared.screens.ScreenKind.TheVariants.{Add as AddScreen, Modify as ModifyScreen, Delete as DeleteScreen}
use Rattle.record_codec.specs.declared.settings.SettingKind.{SettingKind}
use Rattle.record_codec.specs.declared.settings.SettingKind.TheVariants.{Options as OptionsSetting}
use Rattle.record_codec.specs.declared.templates.TemplateKind.{TemplateKind}
use Rattle.record_codec.specs.declared.templates.TemplateKind.TheVariants.{Add as AddTemplate, Modify as ModifyTemplate, Delete as DeleteTemplate}
use Rattle.record_codec.specs.Autoquotas.{autoquota_deed, new_autoquota}
use Rattle.record_codec.specs.Exceptions.{exception_deed, new_exception}
use Rattle.record_codec.specs.Fields.{owner, file_length, limit, percent, object_name, report_kind, schedule, path, action, many, at_least_one, members, non_members, excluded_names}
use Rattle.record_codec.specs.Filegroups.{filegroup_deed, new_filegroup, filegroup_change}
use Rattle.record_codec.specs.Files.{file_op}
use Rattle.record_codec.specs.Filters.{filter}
use Rattle.record_codec.specs.Notices.{new_thresholds}
use Rattle.record_codec.specs.Quotas.{quota_deed, new_quota, quota_change, quota_rest}
use Rattle.record_codec.specs.Reports.{job_deed, new_job}
use Rattle.record_codec.specs.Screens.{screen_deed, new_screen, screen_change}
use Rattle.record_codec.specs.Settings.{setting_deed}
use Rattle.record_codec.specs.Templates.{template_deed, new_template, template_change, update}
use Rattle.record_codec.proofs.Formed.{most_formed, owner_formed, length_formed, limit_formed, object_name_formed, one_formed, two_formed, percents_formed, actions_formed, thresholds_formed, names_formed, some_names_formed, members_formed, non_members_formed, excluded_formed, given_formed, limit_or_formed, schedule_formed, filter_formed}

-- the paths of a command are names and short, and its other values have their forms
abbrev pub AreFormed : List Path → Bool → Type 0
AreFormed paths legal = (list_all is_path paths ≡ true) × (list_all is_short_path paths ≡ true) × (legal ≡ true)

alone : (p : Path) → path.legal p ≡ true → AreFormed (p ∷ []) true
alone p legal = let f = one_formed p legal in (f.0, f.1, refl)

-- ---- file operations
pub file_formed : (k : FileKind) (op : FileOp) → (file_op k).legal op ≡ true → AreFormed (form_of_op op).paths (form_of_op op).legal
file_formed MkdirKind (Mkdir at who) legal =
    let l = both (path.legal at) (owner.legal who) legal in
    let f = one_formed at l.0 in
    (f.0, f.1, owner_formed who l.1)
file_formed CreateKind (Create at size who) legal =
    let l = both (path.legal at) (file_length.legal size && owner.legal who) legal in
    let v = both (file_length.legal size) (owner.legal who) l.1 in
    let f = one_formed at l.0 in
    (f.0, f.1, both_true _ _ (length_formed size v.0) (owner_formed who v.1))
file_formed ResizeKind (Resize at size) legal =
    let l = both (path.legal at) (file_length.legal size) legal in
    let f = one_formed at l.0 in
    (f.0, f.1, length_formed size l.1)
file_formed TouchKind (Touch at) legal = alone at legal
file_formed MoveKind (Move from to) legal =
    let l = both (path.legal from) (path.legal to) legal in
    let f = two_formed from to l.0 l.1 in
    (f.0, f.1, refl)
file_formed RemoveKind (Remove at) legal = alone at legal
file_formed k other legal = absurd (cc legal)

-- ---- quotas and templates
new_quota_formed : (new : NewQuota) → new_quota.legal new ≡ true → AreFormed (new.path ∷ []) (is_new_quota new)
new_quota_formed new legal =
    let a = both (path.legal new.path) (optional_legal false limit new.limit && (quota_rest new.limit).legal (new.enforce, (new.enabled, (new.template, new.thresholds)))) legal in
    let b = both (optional_legal false limit new.limit) ((quota_rest new.limit).legal (new.enforce, (new.enabled, (new.template, new.thresholds)))) a.1 in
    let c = both (optional_legal false truth new.enforce) (truth.legal new.enabled && (optional_legal (is_none new.limit) object_name new.template && new_thresholds.legal new.thresholds)) b.1 in
    let d = both (truth.legal new.enabled) (optional_legal (is_none new.limit) object_name new.template && new_thresholds.legal new.thresholds) c.1 in
    let e = both (optional_legal (is_none new.limit) object_name new.template) (new_thresholds.legal new.thresholds) d.1 in
    let f = one_formed new.path a.0 in
    let given = limit_or_formed new.limit new.template b.0 e.0 in
    (f.0, f.1, both_true _ _ (both_true _ _ given.0 given.1) (thresholds_formed new.thresholds e.1))

quota_change_formed : (change : QuotaChange) → quota_change.legal change ≡ true → AreFormed (change.path ∷ []) (is_quota_change change)
quota_change_formed change legal =
    let rest = (many percent).legal change.removed && new_thresholds.legal change.thresholds in
    let a = both (path.legal change.path) (optional_legal false limit change.limit && (optional_legal false truth change.enforce && (optional_legal false truth change.enabled && rest))) legal in
    let b = both (optional_legal false limit change.limit) (optional_legal false truth change.enforce && (optional_legal false truth change.enabled && rest)) a.1 in
    let c = both (optional_legal false truth change.enforce) (optional_legal false truth change.enabled && rest) b.1 in
    let d = both (optional_legal false truth change.enabled) rest c.1 in
    let e = both ((many percent).legal change.removed) (new_thresholds.legal change.thresholds) d.1 in
    let f = one_formed change.path a.0 in
    (f.0, f.1, both_true _ _ (given_formed limit _ limit_formed change.limit b.0) (both_true _ _ (percents_formed change.removed e.0) (thresholds_formed change.thresholds e.1)))

pub quota_formed : (k : QuotaKind) (deed : QuotaDeed) → (quota_deed k).legal deed ≡ true → AreFormed (form_of_quota deed).paths (form_of_quota deed).legal
quota_formed AddQuota (QuotaAdd new) legal = new_quota_formed new legal
quota_formed ModifyQuota (QuotaModify change) legal = quota_change_formed change legal
quota_formed DeleteQuota (QuotaDelete at) legal = alone at legal
quota_formed ScanQuota (QuotaScan at) legal = alone at legal
quota_formed ResetpeakQuota (QuotaResetpeak at) legal = alone at legal
quota_formed k other legal = absurd (cc legal)

new_template_formed : (new : NewTemplate) → new_template.legal new ≡ true → is_new_template new ≡ true
new_template_formed new legal =
    let a = both (object_name.legal new.name) (limit.legal new.limit && (truth.legal new.enforce && new_thresholds.legal new.thresholds)) legal in
    let b = both (limit.legal new.limit) (truth.legal new.enforce && new_thresholds.legal new.thresholds) a.1 in
    let c = both (truth.legal new.enforce) (new_thresholds.legal new.thresholds) b.1 in
    both_true _ _ (object_name_formed new.name a.0) (both_true _ _ (limit_formed new.limit b.0) (thresholds_formed new.thresholds c.1))

template_change_formed : (change : TemplateChange) → template_change.legal change ≡ true → is_template_change change ≡ true
template_change_formed change legal =
    let rest = (many percent).legal change.removed && (new_thresholds.legal change.thresholds && update.legal change.update) in
    let a = both (object_name.legal change.name) (optional_legal false limit change.limit && (optional_legal false truth change.enforce && rest)) legal in
    let b = both (optional_legal false limit change.limit) (optional_legal false truth change.enforce && rest) a.1 in
    let c = both (optional_legal false truth change.enforce) rest b.1 in
    let d = both ((many percent).legal change.removed) (new_thresholds.legal change.thresholds && update.legal change.update) c.1 in
    let e = both (new_thresholds.legal change.thresholds) (update.legal change.update) d.1 in
    both_true _ _ (object_name_formed change.name a.0) (both_true _ _ (given_formed limit _ limit_formed change.limit b.0) (both_true _ _ (percents_formed change.removed d.0) (thresholds_formed change.thresholds e.0)))

pub template_formed : (k : TemplateKind) (deed : TemplateDeed) → (template_deed k).legal deed ≡ true → AreFormed (form_of_template deed).paths (form_of_template deed).legal
template_formed AddTemplate (TemplateAdd new) legal = (refl, refl, new_template_formed new legal)
template_formed ModifyTemplate (TemplateModify change) legal = (refl, refl, template_change_formed change legal)
template_formed DeleteTemplate (TemplateDelete name) legal = (refl, refl, object_name_formed name legal)
template_formed k other legal = absurd (cc legal)

new_autoquota_formed : (new : NewAutoquota) → new_autoquota.legal new ≡ true → AreFormed (new.path ∷ []) (is_new_autoquota new)
new_autoquota_formed new legal =
    let a = both (path.legal new.path) (object_name.legal new.template && excluded_names.legal new.excluded) legal in
    let b = both (object_name.legal new.template) (excluded_names.legal new.excluded) a.1 in
    let f = one_formed new.path a.0 in
    (f.0, f.1, both_true _ _ (object_name_formed new.template b.0) (excluded_formed new.excluded b.1))

pub autoquota_formed : (k : AutoquotaKind) (deed : AutoquotaDeed) → (autoquota_deed k).legal deed ≡ true → AreFormed (form_of_autoquota deed).paths (form_of_autoquota deed).legal
autoquota_formed AddAutoquota (AutoquotaAdd new) legal = new_autoquota_formed new legal
autoquota_formed DeleteAutoquota (AutoquotaDelete at) legal = alone at legal
autoquota_formed k other legal = absurd (cc legal)

pub setting_formed : (k : SettingKind) (deed : AdminDeed) → (setting_deed k).legal deed ≡ true → AreFormed (form_of_admin deed).paths (form_of_admin deed).legal
setting_formed OptionsSetting (AdminOptions n) legal = (refl, refl, most_formed most_minutes n legal)
setting_formed k other legal = absurd (cc legal)

-- ---- groups, screens and exceptions
new_filegroup_formed : (new : NewFilegroup) → new_filegroup.legal new ≡ true → is_new_filegroup new ≡ true
new_filegroup_formed new legal =
    let a = both (object_name.legal new.name) (members.legal new.members && non_members.legal new.non_members) legal in
    let b = both (members.legal new.members) (non_members.legal new.non_members) a.1 in
    both_true _ _ (object_name_formed new.name a.0) (both_true _ _ (members_formed new.members b.0) (non_members_formed new.non_members b.1))

filegroup_change_formed : (change : FilegroupChange) → filegroup_change.legal change ≡ true → is_filegroup_change change ≡ true
filegroup_change_formed change legal =
    let a = both (object_name.legal change.name) (optional_legal false members change.members && optional_legal false non_members change.non_members) legal in
    let b = both (optional_legal false members change.members) (optional_legal false non_members change.non_members) a.1 in
    both_true _ _ (object_name_formed change.name a.0)
    (both_true _ _ (given_formed members are_members members_formed change.members b.0) (given_formed non_members are_non_members non_members_formed change.non_members b.1))

pub filegroup_formed : (k : FilegroupKind) (deed : FilegroupDeed) → (filegroup_deed k).legal deed ≡ true → AreFormed (form_of_filegroup deed).paths (form_of_filegroup deed).legal
filegroup_formed AddFilegroup (FilegroupAdd new) legal = (refl, refl, new_filegroup_formed new legal)
filegroup_formed ModifyFilegroup (FilegroupModify change) legal = (refl, refl, filegroup_change_formed change legal)
filegroup_formed DeleteFilegroup (FilegroupDelete name) legal = (refl, refl, object_name_formed name legal)
filegroup_formed k other legal = absurd (cc legal)

new_screen_formed : (new : NewScreen) → new_screen.legal new ≡ true → AreFormed (new.path ∷ []) (is_new_screen new)
new_screen_formed new legal =
    let a = both (path.legal new.path) (truth.legal new.active && ((at_least_one object_name).legal new.groups && (many action).legal new.actions)) legal in
    let b = both (truth.legal new.active) ((at_least_one object_name).legal new.groups && (many action).legal new.actions) a.1 in
    let c = both ((at_least_one object_name).legal new.groups) ((many action).legal new.actions) b.1 in
    let f = one_formed new.path a.0 in
    (f.0, f.1, both_true _ _ (some_names_formed new.groups c.0) (actions_formed new.actions c.1))

screen_change_formed : (change : ScreenChange) → screen_change.legal change ≡ true → AreFormed (change.path ∷ []) (is_screen_change change)
screen_change_formed change legal =
    let a = both (path.legal change.path) (optional_legal false truth change.active && ((many object_name).legal change.removed && (many object_name).legal change.groups)) legal in
    let b = both (optional_legal false truth change.active) ((many object_name).legal change.removed && (many object_name).legal change.groups) a.1 in
    let c = both ((many object_name).legal change.removed) ((many object_name).legal change.groups) b.1 in
    let f = one_formed change.path a.0 in
    (f.0, f.1, both_true _ _ (names_formed change.removed c.0) (names_formed change.groups c.1))

pub screen_formed : (k : ScreenKind) (deed : ScreenDeed) → (screen_deed k).legal deed ≡ true → AreFormed (form_of_screen deed).paths (form_of_screen deed).legal
screen_formed AddScreen (ScreenAdd new) legal = new_screen_formed new legal
screen_formed ModifyScreen (ScreenModify change) legal = screen_change_formed change legal
screen_formed DeleteScreen (ScreenDelete at) legal = alone at legal
screen_formed k other legal = absurd (cc legal)

new_exception_formed : (new : NewException) → new_exception.legal new ≡ true → AreFormed (new.path ∷ []) (is_new_exception new)
new_exception_formed new legal =
    let a = both (path.legal new.path) ((at_least_one object_name).legal new.groups) legal in
    let f = one_formed new.path a.0 in
    (f.0, f.1, some_names_formed new.groups a.1)

pub exception_formed : (k : ExceptionKind) (deed : ExceptionDeed) → (exception_deed k).legal deed ≡ true → AreFormed (form_of_exception deed).paths (form_of_exception deed).legal
exception_formed AddException (ExceptionAdd new) legal = new_exception_formed new legal
exception_formed DeleteException (ExceptionDelete at) legal = alone at legal
exception_formed k other legal = absurd (cc legal)

-- ---- report jobs
new_job_formed : (new : NewJob) → new_job.legal new ≡ true → AreFormed (new.scope ∷ []) (is_new_job new)
new_job_formed new legal =
    let rest = optional_legal false schedule new.schedule && filter.legal new.filter in
    let a = both (object_name.legal new.name) (report_kind.legal new.kind && (path.legal new.scope && rest)) legal in
    let b = both (report_kind.legal new.kind) (path.legal new.scope && rest) a.1 in
    let c = both (path.legal new.scope) rest b.1 in
    let d = both (optional_legal false schedule new.schedule) (filter.legal new.filter) c.1 in
    let f = one_formed new.scope c.0 in (
      f.0,
      f.1,
      both_true _ _ (object_name_formed new.name a.0)
          (both_true _ _ (given_formed schedule is_schedule schedule_formed new.schedule d.0) (filter_formed new.filter d.1)),
    )

pub job_formed : (k : JobKind) (deed : ReportsDeed) → (job_deed k).legal deed ≡ true → AreFormed (form_of_reports deed).paths (form_of_reports deed).legal
job_formed AddJob (ReportsAdd new) legal = new_job_formed new legal
job_formed DeleteJob (ReportsDelete name) legal = (refl, refl, object_name_formed name legal)
job_formed RunJob (ReportsRun name) legal = (refl, refl, object_name_formed name legal)
job_formed k other legal = absurd (cc legal)
