-- The commands of the tools: their names, the options that each takes, and what those ask for.
use Rattle.std.specs.Prelude.{ℕ, ◌||◌, Bool, true, is_some, List, [], ◌∷◌, codes, Option, Some, None, unwrap_or, option_and_then, if◌then◌else◌}
use Rattle.std.specs.Str.{str_eq_ignore_ascii_case}
use Rattle.fsrm_model.specs.declared.command.AdminDeed.TheVariants.{Options as AdminOptions, List as AdminList, Log as AdminLog}
use Rattle.fsrm_model.specs.declared.command.AutoquotaDeed.TheVariants.{Add as AutoquotaAdd, Delete as AutoquotaDelete, List as AutoquotaList}
use Rattle.fsrm_model.specs.declared.command.Deed.{Deed}
use Rattle.fsrm_model.specs.declared.command.Deed.TheVariants.{Quota, Template, Autoquota, Filegroup, Screen, Exception, Reports, Admin}
use Rattle.fsrm_model.specs.declared.command.ExceptionDeed.TheVariants.{Add as ExceptionAdd, Delete as ExceptionDelete, List as ExceptionList}
use Rattle.fsrm_model.specs.declared.command.FilegroupDeed.TheVariants.{Add as FilegroupAdd, Modify as FilegroupModify, Delete as FilegroupDelete, List as FilegroupList}
use Rattle.fsrm_model.specs.declared.command.NewThresholds.{NewThresholds}
use Rattle.fsrm_model.specs.declared.command.QuotaDeed.TheVariants.{Add as QuotaAdd, Modify as QuotaModify, Delete as QuotaDelete, Scan as QuotaScan, Resetpeak as QuotaResetpeak, List as QuotaList}
use Rattle.fsrm_model.specs.declared.command.ReportsDeed.TheVariants.{Generate as ReportsGenerate, Add as ReportsAdd, Delete as ReportsDelete, Run as ReportsRun, List as ReportsList}
use Rattle.fsrm_model.specs.declared.command.ScreenDeed.TheVariants.{Add as ScreenAdd, Modify as ScreenModify, Delete as ScreenDelete, List as ScreenList}
use Rattle.fsrm_model.specs.declared.command.TemplateDeed.TheVariants.{Add as TemplateAdd, Modify as TemplateModify, Delete as TemplateDelete, List as TemplateList}
use Rattle.fsrm_model.specs.declared.command.Update.TheVariants.{Keep}
use Rattle.fsrm_model.specs.declared.row.Filter.{Filter}
use Rattle.fsrm_model.specs.lines.ValueForms.{Value, path_of, number_of, choice_of, update_of, text_of, texts_of, notice_of, action_of, report_of}
use Rattle.fsrm_model.specs.lines.Options.{Key, path_key, limit_key, quota_type_key, status_key, remove_threshold_key, add_threshold_key, add_notification_key, template_key, source_template_key, update_derived_key, exclude_key, run_limit_key, filegroup_key, members_key, non_members_key, screen_type_key, remove_filegroup_key, add_filegroup_key, screen_notification_key, task_key, report_key, scope_key, schedule_key, owner_key, pattern_key, min_size_key, days_key, min_use_key, max_key, Given, one, each_of}

-- names, each with what it stands for. They are read without regard to the case of ASCII letters
abbrev pub Names : Type 0 → Type 0
Names X = List (List ℕ × X)

abbrev pub named : {X : Type 0} → Names X → List ℕ → Option X
named [] name = None
named (row ∷ rows) name = if str_eq_ignore_ascii_case row.0 name then Some row.1 else named rows name

-- the options that a command takes, and what it asks for if they are given: None if one is missing that is required
pub record ToolCommand : Type 0 where
  pub keys : List Key
  pub deed : List Given → Option Deed

-- what is asked for with the value of an option that is required
abbrev pub needs : {X : Type 0} → (Value → Option X) → Key → List Given → (X → Option Deed) → Option Deed
needs of key given deed = option_and_then deed (one of key given)

-- a command that takes a path alone
abbrev pub of_path : (List (List ℕ) → Deed) → ToolCommand
of_path deed = record { keys = path_key ∷ []; deed = λ given. needs path_of path_key given (λ path. Some (deed path)) }

-- a command without options
abbrev pub alone : Deed → ToolCommand
alone deed = record { keys = []; deed = λ given. Some deed }

-- a quota must have a limit or a template, and is enabled if nothing else is given
abbrev pub has_limit : List Given → Bool
has_limit given = is_some (one number_of limit_key given) || is_some (one text_of source_template_key given)

abbrev pub new_thresholds : List Given → NewThresholds
new_thresholds given =
    record { percents = each_of number_of add_threshold_key given; notices = each_of notice_of add_notification_key given }

abbrev pub quota_add : ToolCommand
quota_add =
    record {
      keys =
          path_key ∷ limit_key ∷ quota_type_key ∷ status_key ∷ source_template_key ∷ add_threshold_key
          ∷ add_notification_key ∷ [];
      deed = λ given.
          needs path_of path_key given (λ path.
          if has_limit given
          then Some (Quota (QuotaAdd (record {
            path = path;
            limit = one number_of limit_key given;
            enforce = one choice_of quota_type_key given;
            enabled = unwrap_or (one choice_of status_key given) true;
            template = one text_of source_template_key given;
            thresholds = new_thresholds given;
          })))
          else None);
    }

abbrev pub quota_modify : ToolCommand
quota_modify =
    record {
      keys =
          path_key ∷ limit_key ∷ quota_type_key ∷ status_key ∷ remove_threshold_key ∷ add_threshold_key
          ∷ add_notification_key ∷ [];
      deed = λ given.
          needs path_of path_key given (λ path.
          Some (Quota (QuotaModify (record {
            path = path;
            limit = one number_of limit_key given;
            enforce = one choice_of quota_type_key given;
            enabled = one choice_of status_key given;
            removed = each_of number_of remove_threshold_key given;
            thresholds = new_thresholds given;
          }))));
    }

-- of one quota, or of all
abbrev pub quota_list : ToolCommand
quota_list = record { keys = path_key ∷ []; deed = λ given. Some (Quota (QuotaList (one path_of path_key given))) }

abbrev pub quota_commands : Names ToolCommand
quota_commands =
    (codes "add", quota_add) ∷ (codes "modify", quota_modify)
    ∷ (codes "delete", of_path (λ path. Quota (QuotaDelete path)))
    ∷ (codes "scan", of_path (λ path. Quota (QuotaScan path)))
    ∷ (codes "resetpeak", of_path (λ path. Quota (QuotaResetpeak path))) ∷ (codes "list", quota_list) ∷ []

-- ---- templates and auto-apply quotas
-- a template must have a limit, and is hard if nothing else is given
abbrev pub template_add : ToolCommand
template_add =
    record {
      keys = template_key ∷ limit_key ∷ quota_type_key ∷ add_threshold_key ∷ add_notification_key ∷ [];
      deed = λ given.
          needs text_of template_key given (λ name.
          needs number_of limit_key given (λ limit.
          Some (Template (TemplateAdd (record {
            name = name;
            limit = limit;
            enforce = unwrap_or (one choice_of quota_type_key given) true;
            thresholds = new_thresholds given;
          })))));
    }

-- its change reaches no derived quota if nothing else is given
abbrev pub template_modify : ToolCommand
template_modify =
    record {
      keys =
          template_key ∷ limit_key ∷ quota_type_key ∷ remove_threshold_key ∷ add_threshold_key ∷ add_notification_key
          ∷ update_derived_key ∷ [];
      deed = λ given.
          needs text_of template_key given (λ name.
          Some (Template (TemplateModify (record {
            name = name;
            limit = one number_of limit_key given;
            enforce = one choice_of quota_type_key given;
            removed = each_of number_of remove_threshold_key given;
            thresholds = new_thresholds given;
            update = unwrap_or (one update_of update_derived_key given) Keep;
          }))));
    }

abbrev pub template_delete : ToolCommand
template_delete =
    record {
      keys = template_key ∷ [];
      deed = λ given. needs text_of template_key given (λ name. Some (Template (TemplateDelete name)));
    }

abbrev pub template_commands : Names ToolCommand
template_commands =
    (codes "add", template_add) ∷ (codes "modify", template_modify) ∷ (codes "delete", template_delete)
    ∷ (codes "list", alone (Template TemplateList)) ∷ []

abbrev pub auto_add : ToolCommand
auto_add =
    record {
      keys = path_key ∷ source_template_key ∷ exclude_key ∷ [];
      deed = λ given.
          needs path_of path_key given (λ path.
          needs text_of source_template_key given (λ template.
          Some (Autoquota (AutoquotaAdd (record {
            path = path;
            template = template;
            excluded = each_of text_of exclude_key given;
          })))));
    }

abbrev pub auto_commands : Names ToolCommand
auto_commands =
    (codes "add", auto_add) ∷ (codes "delete", of_path (λ path. Autoquota (AutoquotaDelete path)))
    ∷ (codes "list", alone (Autoquota AutoquotaList)) ∷ []

-- ---- settings
abbrev pub admin_options : ToolCommand
admin_options =
    record {
      keys = run_limit_key ∷ [];
      deed = λ given. needs number_of run_limit_key given (λ minutes. Some (Admin (AdminOptions minutes)));
    }

abbrev pub admin_commands : Names ToolCommand
admin_commands =
    (codes "options", admin_options) ∷ (codes "list", alone (Admin AdminList)) ∷ (codes "log", alone (Admin AdminLog))
    ∷ []

-- ---- file groups, screens and exceptions
-- a group may have no non-members
abbrev pub group_add : ToolCommand
group_add =
    record {
      keys = filegroup_key ∷ members_key ∷ non_members_key ∷ [];
      deed = λ given.
          needs text_of filegroup_key given (λ name.
          needs texts_of members_key given (λ members.
          Some (Filegroup (FilegroupAdd (record {
            name = name;
            members = members;
            non_members = unwrap_or (one texts_of non_members_key given) [];
          })))));
    }

abbrev pub group_modify : ToolCommand
group_modify =
    record {
      keys = filegroup_key ∷ members_key ∷ non_members_key ∷ [];
      deed = λ given.
          needs text_of filegroup_key given (λ name.
          Some (Filegroup (FilegroupModify (record {
            name = name;
            members = one texts_of members_key given;
            non_members = one texts_of non_members_key given;
          }))));
    }

abbrev pub group_delete : ToolCommand
group_delete =
    record {
      keys = filegroup_key ∷ [];
      deed = λ given. needs text_of filegroup_key given (λ name. Some (Filegroup (FilegroupDelete name)));
    }

abbrev pub group_commands : Names ToolCommand
group_commands =
    (codes "add", group_add) ∷ (codes "modify", group_modify) ∷ (codes "delete", group_delete)
    ∷ (codes "list", alone (Filegroup FilegroupList)) ∷ []

-- a screen is active if nothing else is given. It must have a group
abbrev pub screen_add : ToolCommand
screen_add =
    record {
      keys = path_key ∷ screen_type_key ∷ add_filegroup_key ∷ screen_notification_key ∷ [];
      deed = λ given.
          needs path_of path_key given (λ path.
          needs text_of add_filegroup_key given (λ first.
          Some (Screen (ScreenAdd (record {
            path = path;
            active = unwrap_or (one choice_of screen_type_key given) true;
            groups = each_of text_of add_filegroup_key given;
            actions = each_of action_of screen_notification_key given;
          })))));
    }

abbrev pub screen_modify : ToolCommand
screen_modify =
    record {
      keys = path_key ∷ screen_type_key ∷ remove_filegroup_key ∷ add_filegroup_key ∷ [];
      deed = λ given.
          needs path_of path_key given (λ path.
          Some (Screen (ScreenModify (record {
            path = path;
            active = one choice_of screen_type_key given;
            removed = each_of text_of remove_filegroup_key given;
            groups = each_of text_of add_filegroup_key given;
          }))));
    }

abbrev pub screen_commands : Names ToolCommand
screen_commands =
    (codes "add", screen_add) ∷ (codes "modify", screen_modify)
    ∷ (codes "delete", of_path (λ path. Screen (ScreenDelete path))) ∷ (codes "list", alone (Screen ScreenList)) ∷ []

abbrev pub except_add : ToolCommand
except_add =
    record {
      keys = path_key ∷ add_filegroup_key ∷ [];
      deed = λ given.
          needs path_of path_key given (λ path.
          needs text_of add_filegroup_key given (λ first.
          Some (Exception (ExceptionAdd (record { path = path; groups = each_of text_of add_filegroup_key given })))));
    }

abbrev pub except_commands : Names ToolCommand
except_commands =
    (codes "add", except_add) ∷ (codes "delete", of_path (λ path. Exception (ExceptionDelete path)))
    ∷ (codes "list", alone (Exception ExceptionList)) ∷ []

-- ---- reports
-- a filter has at most 1,000 rows if nothing else is given
abbrev pub filter_keys : List Key
filter_keys = owner_key ∷ pattern_key ∷ min_size_key ∷ days_key ∷ min_use_key ∷ max_key ∷ []

abbrev pub filter_given : List Given → Filter
filter_given given =
    record {
      owner = one number_of owner_key given;
      pattern = one text_of pattern_key given;
      min_size = one number_of min_size_key given;
      days = one number_of days_key given;
      min_use = one number_of min_use_key given;
      max = unwrap_or (one number_of max_key given) 1000;
    }

abbrev pub report_generate : ToolCommand
report_generate =
    record {
      keys = report_key ∷ scope_key ∷ filter_keys;
      deed = λ given.
          needs report_of report_key given (λ kind.
          needs path_of scope_key given (λ scope.
          Some (Reports (ReportsGenerate (record { kind = kind; scope = scope; filter = filter_given given })))));
    }

abbrev pub job_add : ToolCommand
job_add =
    record {
      keys = task_key ∷ report_key ∷ scope_key ∷ schedule_key ∷ filter_keys;
      deed = λ given.
          needs text_of task_key given (λ name.
          needs report_of report_key given (λ kind.
          needs path_of scope_key given (λ scope.
          Some (Reports (ReportsAdd (record {
            name = name;
            kind = kind;
            scope = scope;
            schedule = one text_of schedule_key given;
            filter = filter_given given;
          }))))));
    }

-- a command that takes the name of a job alone
abbrev pub of_task : (List ℕ → Deed) → ToolCommand
of_task deed = record { keys = task_key ∷ []; deed = λ given. needs text_of task_key given (λ name. Some (deed name)) }

abbrev pub report_commands : Names ToolCommand
report_commands =
    (codes "generate", report_generate) ∷ (codes "add", job_add)
    ∷ (codes "delete", of_task (λ name. Reports (ReportsDelete name)))
    ∷ (codes "run", of_task (λ name. Reports (ReportsRun name))) ∷ (codes "list", alone (Reports ReportsList)) ∷ []

-- what each tool manages, with the commands for it
abbrev pub dirquota : Names (Names ToolCommand)
dirquota =
    (codes "quota", quota_commands) ∷ (codes "template", template_commands) ∷ (codes "autoquota", auto_commands)
    ∷ (codes "admin", admin_commands) ∷ []

abbrev pub filescrn : Names (Names ToolCommand)
filescrn =
    (codes "filegroup", group_commands) ∷ (codes "screen", screen_commands) ∷ (codes "exception", except_commands) ∷ []

abbrev pub storrept : Names (Names ToolCommand)
storrept = (codes "reports", report_commands) ∷ []

abbrev pub tools : Names (Names (Names ToolCommand))
tools = (codes "dirquota", dirquota) ∷ (codes "filescrn", filescrn) ∷ (codes "storrept", storrept) ∷ []
