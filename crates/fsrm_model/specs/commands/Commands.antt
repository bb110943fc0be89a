-- What there is to say of each command by itself, as one row.
use Rattle.std.specs.Prelude.{ℕ, ◌+◌, ◌*◌, ◌&&◌, nat_lt, nat_le, Bool, true, false, List, [], ◌∷◌, length, sum_by, Option, Some, None, option_map, option_to_list, is_some, if◌then◌else◌}
use Rattle.std.specs.List.{list_all}
use Rattle.std.specs.Option.{option_map_or}
use Rattle.fsrm_model.specs.declared.row.Capacity.{Capacity}
use Rattle.fsrm_model.specs.declared.row.NodeRow.{NodeRow}
use Rattle.fsrm_model.specs.declared.row.Rows.{Rows}
use Rattle.fsrm_model.specs.declared.command.AdminDeed.{AdminDeed}
use Rattle.fsrm_model.specs.declared.command.AdminDeed.TheVariants.{Options as AdminOptions, List as AdminList, Log as AdminLog}
use Rattle.fsrm_model.specs.declared.command.AutoquotaDeed.{AutoquotaDeed}
use Rattle.fsrm_model.specs.declared.command.AutoquotaDeed.TheVariants.{Add as AutoquotaAdd, Delete as AutoquotaDelete, List as AutoquotaList}
use Rattle.fsrm_model.specs.declared.command.Deed.{Deed}
use Rattle.fsrm_model.specs.declared.command.Deed.TheVariants.{File, Usage, Step, Quota, Template, Autoquota, Filegroup, Screen, Exception, Reports, Admin}
use Rattle.fsrm_model.specs.declared.command.ExceptionDeed.{ExceptionDeed}
use Rattle.fsrm_model.specs.declared.command.ExceptionDeed.TheVariants.{Add as ExceptionAdd, Delete as ExceptionDelete, List as ExceptionList}
use Rattle.fsrm_model.specs.declared.command.FileOp.{FileOp}
use Rattle.fsrm_model.specs.declared.command.FileOp.TheVariants.{Mkdir, Create, Resize, Touch, Move, Remove}
use Rattle.fsrm_model.specs.declared.command.FilegroupChange.{FilegroupChange}
use Rattle.fsrm_model.specs.declared.command.FilegroupDeed.{FilegroupDeed}
use Rattle.fsrm_model.specs.declared.command.FilegroupDeed.TheVariants.{Add as FilegroupAdd, Modify as FilegroupModify, Delete as FilegroupDelete, List as FilegroupList}
use Rattle.fsrm_model.specs.declared.command.NewAutoquota.{NewAutoquota}
use Rattle.fsrm_model.specs.declared.command.NewException.{NewException}
use Rattle.fsrm_model.specs.declared.command.NewFilegroup.{NewFilegroup}
use Rattle.fsrm_model.specs.declared.command.NewJob.{NewJob}
use Rattle.fsrm_model.specs.declared.command.NewQuota.{NewQuota}
use Rattle.fsrm_model.specs.declared.command.NewReport.{NewReport}
use Rattle.fsrm_model.specs.declared.command.NewScreen.{NewScreen}
use Rattle.fsrm_model.specs.declared.command.NewTemplate.{NewTemplate}
use Rattle.fsrm_model.specs.declared.command.NewThresholds.{NewThresholds}
use Rattle.fsrm_model.specs.declared.command.QuotaChange.{QuotaChange}
use Rattle.fsrm_model.specs.declared.command.QuotaDeed.{QuotaDeed}
use Rattle.fsrm_model.specs.declared.command.QuotaDeed.TheVariants.{Add as QuotaAdd, Modify as QuotaModify, Delete as QuotaDelete, Scan as QuotaScan, Resetpeak as QuotaResetpeak, List as QuotaList}
use Rattle.fsrm_model.specs.declared.command.ReportsDeed.{ReportsDeed}
use Rattle.fsrm_model.specs.declared.command.ReportsDeed.TheVariants.{Generate as ReportsGenerate, Add as ReportsAdd, Delete as ReportsDelete, Run as ReportsRun, List as ReportsList}
use Rattle.fsrm_model.specs.declared.command.ScreenChange.{ScreenChange}
use Rattle.fsrm_model.specs.declared.command.ScreenDeed.{ScreenDeed}
use Rattle.fsrm_model.specs.declared.command.ScreenDeed.TheVariants.{Add as ScreenAdd, Modify as ScreenModify, Delete as ScreenDelete, List as ScreenList}
use Rattle.fsrm_model.specs.declared.command.TemplateChange.{TemplateChange}
use Rattle.fsrm_model.specs.declared.command.TemplateDeed.{TemplateDeed}
use Rattle.fsrm_model.specs.declared.command.TemplateDeed.TheVariants.{Add as TemplateAdd, Modify as TemplateModify, Delete as TemplateDelete, List as TemplateList}
use Rattle.fsrm_model.specs.declared.command.Update.TheVariants.{Keep}
use Rattle.fsrm_model.specs.declared.row.Filter.{Filter}
use Rattle.fsrm_model.specs.declared.row.ReportKind.TheVariants.{LargeFiles}
use Rattle.fsrm_model.specs.commands.AdminWork.{options_work, settings_work, log_work}
use Rattle.fsrm_model.specs.commands.AutoWork.{auto_add_work, auto_delete_work, auto_list_work}
use Rattle.fsrm_model.specs.commands.Entry.{Path, number_bytes, choice_bytes, text_bytes, path_bytes, optional, counted, notice_bytes, screen_notice_bytes, filter_bytes}
use Rattle.fsrm_model.specs.nodes.FileOps.{target}
use Rattle.fsrm_model.specs.commands.FileWork.{file_work, usage_work}
use Rattle.fsrm_model.specs.commands.CommandForm.{CommandForm, EntryForm, kept, on_path, on_name, shows}
use Rattle.fsrm_model.specs.commands.GroupWork.{group_add_work, group_modify_work, group_delete_work, group_list_work}
use Rattle.fsrm_model.specs.nodes.Leads.{leads, leads_to_folder}
use Rattle.fsrm_model.specs.values.Limits.{most_visits, most_minutes, most_excluded}
use Rattle.fsrm_model.specs.values.Name.{is_name}
use Rattle.fsrm_model.specs.values.Patterns.{is_object_name, are_members, are_non_members}
use Rattle.fsrm_model.specs.objects.Jobs.{is_schedule}
use Rattle.fsrm_model.specs.objects.Quota.{is_limit}
use Rattle.fsrm_model.specs.commands.QuotaWork.{add_work, modify_work, delete_work, reset_work, list_work}
use Rattle.fsrm_model.specs.commands.ReportWork.{no_filter, report_work, job_add_work, job_delete_work, job_run_work, job_list_work}
use Rattle.fsrm_model.specs.commands.ScanWork.{scan_work, step_work}
use Rattle.fsrm_model.specs.commands.ScreenWork.{screen_add_work, screen_modify_work, screen_delete_work, screen_list_work, except_add_work, except_delete_work, except_list_work}
use Rattle.fsrm_model.specs.commands.TemplateWork.{template_add_work, template_modify_work, template_delete_work, template_list_work}
use Rattle.fsrm_model.specs.objects.Thresholds.{is_percent, is_new_action, is_notice}
use Rattle.fsrm_model.specs.nodes.Tree.{children, under}
use Rattle.fsrm_model.specs.commands.Work.{Work}
pub use Rattle.fsrm_model.specs.reports.Filters.{is_owner, is_length, is_filter}

-- ---- values
-- one name of a group at least
abbrev pub are_some_names : List (List ℕ) → Bool
are_some_names names = nat_lt 0 (length names) && list_all is_object_name names

abbrev pub are_new_thresholds : NewThresholds → Bool
are_new_thresholds new = list_all is_percent new.percents && list_all is_notice new.notices

-- a new quota must have a limit or a template
abbrev pub is_new_quota : NewQuota → Bool
is_new_quota new =
    (option_map_or is_limit new.limit (is_some new.template) && option_map_or is_object_name new.template true)
    && are_new_thresholds new.thresholds

abbrev pub is_quota_change : QuotaChange → Bool
is_quota_change change =
    option_map_or is_limit change.limit true
    && (list_all is_percent change.removed && are_new_thresholds change.thresholds)

abbrev pub is_new_template : NewTemplate → Bool
is_new_template new = is_object_name new.name && (is_limit new.limit && are_new_thresholds new.thresholds)

abbrev pub is_template_change : TemplateChange → Bool
is_template_change change =
    is_object_name change.name
    && (option_map_or is_limit change.limit true
    && (list_all is_percent change.removed && are_new_thresholds change.thresholds))

abbrev pub is_new_autoquota : NewAutoquota → Bool
is_new_autoquota new =
    is_object_name new.template && (nat_le (length new.excluded) most_excluded && list_all is_name new.excluded)

abbrev pub is_new_filegroup : NewFilegroup → Bool
is_new_filegroup new = is_object_name new.name && (are_members new.members && are_non_members new.non_members)

abbrev pub is_filegroup_change : FilegroupChange → Bool
is_filegroup_change change =
    is_object_name change.name
    && (option_map_or are_members change.members true && option_map_or are_non_members change.non_members true)

-- a new screen and a new exception must have a group
abbrev pub is_new_screen : NewScreen → Bool
is_new_screen new = are_some_names new.groups && list_all is_new_action new.actions

abbrev pub is_screen_change : ScreenChange → Bool
is_screen_change change = list_all is_object_name change.removed && list_all is_object_name change.groups

abbrev pub is_new_exception : NewException → Bool
is_new_exception new = are_some_names new.groups

abbrev pub is_new_job : NewJob → Bool
is_new_job new = is_object_name new.name && (option_map_or is_schedule new.schedule true && is_filter new.filter)

-- ---- their bytes in the entry of a command, but for those of its paths
abbrev pub limit_bytes : Option ℕ → ℕ
limit_bytes limit = optional (λ n. number_bytes) limit

abbrev pub option_bytes : Option Bool → ℕ
option_bytes choice = optional (λ b. choice_bytes) choice

abbrev pub percent_bytes : List ℕ → ℕ
percent_bytes percents = counted (λ n. number_bytes) percents

abbrev pub new_threshold_bytes : NewThresholds → ℕ
new_threshold_bytes new = percent_bytes new.percents + counted notice_bytes new.notices

-- ---- commands without their values
abbrev empty_thresholds : NewThresholds
empty_thresholds = record { percents = []; notices = [] }

abbrev pub empty_quota : NewQuota
empty_quota =
    record {
      path = [];
      limit = None;
      enforce = None;
      enabled = false;
      template = None;
      thresholds = empty_thresholds;
    }

abbrev pub empty_quota_change : QuotaChange
empty_quota_change =
    record {
      path = [];
      limit = None;
      enforce = None;
      enabled = None;
      removed = [];
      thresholds = empty_thresholds;
    }

abbrev pub empty_template : NewTemplate
empty_template = record { name = []; limit = 0; enforce = false; thresholds = empty_thresholds }

abbrev pub empty_template_change : TemplateChange
empty_template_change =
    record {
      name = [];
      limit = None;
      enforce = None;
      removed = [];
      thresholds = empty_thresholds;
      update = Keep;
    }

abbrev pub empty_autoquota : NewAutoquota
empty_autoquota = record { path = []; template = []; excluded = [] }

abbrev pub empty_filegroup : NewFilegroup
empty_filegroup = record { name = []; members = []; non_members = [] }

abbrev pub empty_filegroup_change : FilegroupChange
empty_filegroup_change = record { name = []; members = None; non_members = None }

abbrev pub empty_screen : NewScreen
empty_screen = record { path = []; active = false; groups = []; actions = [] }

abbrev pub empty_screen_change : ScreenChange
empty_screen_change = record { path = []; active = None; removed = []; groups = [] }

abbrev pub empty_exception : NewException
empty_exception = record { path = []; groups = [] }

abbrev pub empty_report : NewReport
empty_report = record { kind = LargeFiles; scope = []; filter = no_filter }

abbrev pub empty_job : NewJob
empty_job = record { name = []; kind = LargeFiles; scope = []; schedule = None; filter = no_filter }

-- ---- file operations
-- What there is to say of a file operation but its work, which `form` adds: so the work of any operation computes
-- to `file_work`
pub record OpForm : Type 0 where
  pub emptied : FileOp
  pub paths : List Path
  pub legal : Bool
  pub entry : EntryForm
  pub looks : List NodeRow → ℕ

abbrev pub keeps_op : ℕ → FileOp → List Path → Bool → ℕ → OpForm
keeps_op kind emptied paths legal bytes =
    record {
      emptied = emptied;
      paths = paths;
      legal = legal;
      entry = record { kind = kind; bytes = bytes };
      looks = λ nodes. 0;
    }

-- a folder that moves is looked through up to 8 times
abbrev pub form_of_op : FileOp → OpForm
form_of_op (Mkdir path owner) = keeps_op 1 (Mkdir [] 0) (path ∷ []) (is_owner owner) number_bytes
form_of_op (Create path size owner) =
    keeps_op 2 (Create [] 0 0) (path ∷ []) (is_length size && is_owner owner) (number_bytes + number_bytes)
form_of_op (Resize path size) = keeps_op 3 (Resize [] 0) (path ∷ []) (is_length size) number_bytes
form_of_op (Touch path) = keeps_op 4 (Touch []) (path ∷ []) true 0
form_of_op (Move from to) =
    record (keeps_op 5 (Move [] []) (from ∷ to ∷ []) true 0) {
      looks = λ nodes. if leads_to_folder nodes from then 8 * length (under nodes (target nodes from)) else 0;
    }
form_of_op (Remove path) = keeps_op 6 (Remove []) (path ∷ []) true 0

abbrev pub paths_of_op : FileOp → List Path
paths_of_op op = (form_of_op op).paths

abbrev pub has_values_of_op : FileOp → Bool
has_values_of_op op = (form_of_op op).legal

abbrev pub op_cost : List NodeRow → FileOp → ℕ
op_cost nodes op = (form_of_op op).looks nodes

-- ---- all commands
abbrev pub form_of_quota : QuotaDeed → CommandForm
form_of_quota (QuotaAdd new) =
    kept (record {
      kind = 10;
      emptied = Quota (QuotaAdd empty_quota);
      paths = new.path ∷ [];
      legal = is_new_quota new;
      bytes =
          limit_bytes new.limit
          + (option_bytes new.enforce
          + (choice_bytes
          + (optional text_bytes new.template
          + new_threshold_bytes new.thresholds)));
      work = λ K R moment. add_work R moment new;
    })
form_of_quota (QuotaModify change) =
    kept (record {
      kind = 11;
      emptied = Quota (QuotaModify empty_quota_change);
      paths = change.path ∷ [];
      legal = is_quota_change change;
      bytes =
          limit_bytes change.limit
          + (option_bytes change.enforce
          + (option_bytes change.enabled
          + (percent_bytes change.removed
          + new_threshold_bytes change.thresholds)));
      work = λ K R moment. modify_work R change;
    })
form_of_quota (QuotaDelete path) = on_path 12 (λ p. Quota (QuotaDelete p)) path (λ K R moment. delete_work R path)
form_of_quota (QuotaScan path) = on_path 13 (λ p. Quota (QuotaScan p)) path (λ K R moment. scan_work R path)
form_of_quota (QuotaResetpeak path) =
    on_path 14 (λ p. Quota (QuotaResetpeak p)) path (λ K R moment. reset_work K R moment path)
form_of_quota (QuotaList path) = shows (Quota (QuotaList None)) (option_to_list path) (λ K R moment. list_work R path)

abbrev pub form_of_template : TemplateDeed → CommandForm
form_of_template (TemplateAdd new) =
    kept (record {
      kind = 20;
      emptied = Template (TemplateAdd empty_template);
      paths = [];
      legal = is_new_template new;
      bytes = text_bytes new.name + (number_bytes + (choice_bytes + new_threshold_bytes new.thresholds));
      work = λ K R moment. template_add_work R new;
    })
form_of_template (TemplateModify change) =
    kept (record {
      kind = 21;
      emptied = Template (TemplateModify empty_template_change);
      paths = [];
      legal = is_template_change change;
      bytes =
          text_bytes change.name
          + (limit_bytes change.limit
          + (option_bytes change.enforce
          + (percent_bytes change.removed
          + (new_threshold_bytes change.thresholds
          + choice_bytes))));
      work = λ K R moment. template_modify_work R change;
    })
form_of_template (TemplateDelete name) =
    on_name 22 (λ n. Template (TemplateDelete n)) name (λ K R moment. template_delete_work R name)
form_of_template TemplateList = shows (Template TemplateList) [] (λ K R moment. template_list_work R)

-- each child of a folder that gets an auto-apply quota is looked at up to 4 times
abbrev pub form_of_autoquota : AutoquotaDeed → CommandForm
form_of_autoquota (AutoquotaAdd new) =
    record (kept (record {
      kind = 30;
      emptied = Autoquota (AutoquotaAdd empty_autoquota);
      paths = new.path ∷ [];
      legal = is_new_autoquota new;
      bytes = text_bytes new.template + counted text_bytes new.excluded;
      work = λ K R moment. auto_add_work R moment new;
    })) {
      looks = λ nodes. if leads_to_folder nodes new.path then 4 * length (children nodes (target nodes new.path)) else 0;
    }
form_of_autoquota (AutoquotaDelete path) =
    on_path 31 (λ p. Autoquota (AutoquotaDelete p)) path (λ K R moment. auto_delete_work R path)
form_of_autoquota AutoquotaList = shows (Autoquota AutoquotaList) [] (λ K R moment. auto_list_work R)

abbrev pub form_of_admin : AdminDeed → CommandForm
form_of_admin (AdminOptions minutes) =
    kept (record {
      kind = 35;
      emptied = Admin (AdminOptions 0);
      paths = [];
      legal = nat_le minutes most_minutes;
      bytes = number_bytes;
      work = λ K R moment. options_work R minutes;
    })
form_of_admin AdminList = shows (Admin AdminList) [] (λ K R moment. settings_work R)
form_of_admin AdminLog = shows (Admin AdminLog) [] (λ K R moment. log_work R)

abbrev pub form_of_filegroup : FilegroupDeed → CommandForm
form_of_filegroup (FilegroupAdd new) =
    kept (record {
      kind = 40;
      emptied = Filegroup (FilegroupAdd empty_filegroup);
      paths = [];
      legal = is_new_filegroup new;
      bytes = text_bytes new.name + (counted text_bytes new.members + counted text_bytes new.non_members);
      work = λ K R moment. group_add_work R new;
    })
form_of_filegroup (FilegroupModify change) =
    kept (record {
      kind = 41;
      emptied = Filegroup (FilegroupModify empty_filegroup_change);
      paths = [];
      legal = is_filegroup_change change;
      bytes =
          text_bytes change.name
          + (optional (counted text_bytes) change.members
          + optional (counted text_bytes) change.non_members);
      work = λ K R moment. group_modify_work R change;
    })
form_of_filegroup (FilegroupDelete name) =
    on_name 42 (λ n. Filegroup (FilegroupDelete n)) name (λ K R moment. group_delete_work R name)
form_of_filegroup FilegroupList = shows (Filegroup FilegroupList) [] (λ K R moment. group_list_work R)

abbrev pub form_of_screen : ScreenDeed → CommandForm
form_of_screen (ScreenAdd new) =
    kept (record {
      kind = 50;
      emptied = Screen (ScreenAdd empty_screen);
      paths = new.path ∷ [];
      legal = is_new_screen new;
      bytes = choice_bytes + (counted text_bytes new.groups + counted screen_notice_bytes new.actions);
      work = λ K R moment. screen_add_work R new;
    })
form_of_screen (ScreenModify change) =
    kept (record {
      kind = 51;
      emptied = Screen (ScreenModify empty_screen_change);
      paths = change.path ∷ [];
      legal = is_screen_change change;
      bytes = option_bytes change.active + (counted text_bytes change.removed + counted text_bytes change.groups);
      work = λ K R moment. screen_modify_work R change;
    })
form_of_screen (ScreenDelete path) =
    on_path 52 (λ p. Screen (ScreenDelete p)) path (λ K R moment. screen_delete_work R path)
form_of_screen ScreenList = shows (Screen ScreenList) [] (λ K R moment. screen_list_work R)

abbrev pub form_of_exception : ExceptionDeed → CommandForm
form_of_exception (ExceptionAdd new) =
    kept (record {
      kind = 60;
      emptied = Exception (ExceptionAdd empty_exception);
      paths = new.path ∷ [];
      legal = is_new_exception new;
      bytes = counted text_bytes new.groups;
      work = λ K R moment. except_add_work R new;
    })
form_of_exception (ExceptionDelete path) =
    on_path 61 (λ p. Exception (ExceptionDelete p)) path (λ K R moment. except_delete_work R path)
form_of_exception ExceptionList = shows (Exception ExceptionList) [] (λ K R moment. except_list_work R)

abbrev pub form_of_reports : ReportsDeed → CommandForm
form_of_reports (ReportsGenerate new) =
    record (shows (Reports (ReportsGenerate empty_report)) (new.scope ∷ []) (λ K R moment. report_work R new)) {
      legal = is_filter new.filter;
    }
form_of_reports (ReportsAdd new) =
    kept (record {
      kind = 70;
      emptied = Reports (ReportsAdd empty_job);
      paths = new.scope ∷ [];
      legal = is_new_job new;
      bytes = text_bytes new.name + (choice_bytes + (optional text_bytes new.schedule + filter_bytes new.filter));
      work = λ K R moment. job_add_work R moment new;
    })
form_of_reports (ReportsDelete name) =
    on_name 71 (λ n. Reports (ReportsDelete n)) name (λ K R moment. job_delete_work R name)
form_of_reports (ReportsRun name) =
    on_name 72 (λ n. Reports (ReportsRun n)) name (λ K R moment. job_run_work R moment name)
form_of_reports ReportsList = shows (Reports ReportsList) [] (λ K R moment. job_list_work R)

-- a node that is summed is looked at up to 4 times
abbrev pub form : Deed → CommandForm
form (File op) =
    let own = form_of_op op in
    record {
      emptied = File own.emptied;
      paths = own.paths;
      legal = own.legal;
      entry = Some own.entry;
      work = λ K R moment. file_work K R op moment;
      looks = own.looks;
    }
form (Usage path) =
    record (shows (Usage []) (path ∷ []) (λ K R moment. usage_work K R path)) {
      looks = λ nodes. if leads nodes path then 4 * length (under nodes (target nodes path)) else 0;
    }
form (Step n) =
    record (shows (Step 0) [] (λ K R moment. step_work K R n)) { legal = nat_le 1 n && nat_le n most_visits }
form (Quota deed) = form_of_quota deed
form (Template deed) = form_of_template deed
form (Autoquota deed) = form_of_autoquota deed
form (Admin deed) = form_of_admin deed
form (Filegroup deed) = form_of_filegroup deed
form (Screen deed) = form_of_screen deed
form (Exception deed) = form_of_exception deed
form (Reports deed) = form_of_reports deed

-- ---- the parts of a row, by their names
abbrev pub paths : Deed → List Path
paths deed = (form deed).paths

abbrev pub has_values : Deed → Bool
has_values deed = (form deed).legal

abbrev pub emptied : Deed → Deed
emptied deed = (form deed).emptied

abbrev pub kind : Deed → Option ℕ
kind deed = option_map (λ entry. entry.kind) (form deed).entry

abbrev pub more_bytes : Deed → ℕ
more_bytes deed = option_map_or (λ entry. entry.bytes) (form deed).entry 0

-- how many bytes the entry of a command has, if it has one
abbrev pub entry_bytes : Deed → Option ℕ
entry_bytes deed =
    option_map (λ k. number_bytes + (choice_bytes + (sum_by path_bytes (paths deed) + more_bytes deed))) (kind deed)

abbrev pub work : Capacity → Rows → ℕ → Deed → Work
work K R moment deed = (form deed).work K R moment

abbrev pub more_cost : List NodeRow → Deed → ℕ
more_cost nodes deed = (form deed).looks nodes
