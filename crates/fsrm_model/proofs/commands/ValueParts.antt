-- What is known of the values of a valid command, one by one.
use Rattle.std.proofs.Common.{◌≡◌, true}
use Rattle.std.specs.Prelude.{◌&&◌, is_some, length, nat_le}
use Rattle.std.specs.List.{list_all}
use Rattle.std.specs.Option.{option_map_or}
use Rattle.fsrm_base.proofs.TestLaws.{both}
use Rattle.fsrm_model.specs.declared.command.FilegroupChange.{FilegroupChange}
use Rattle.fsrm_model.specs.declared.command.NewAutoquota.{NewAutoquota}
use Rattle.fsrm_model.specs.declared.command.NewFilegroup.{NewFilegroup}
use Rattle.fsrm_model.specs.declared.command.NewJob.{NewJob}
use Rattle.fsrm_model.specs.declared.command.NewQuota.{NewQuota}
use Rattle.fsrm_model.specs.declared.command.NewScreen.{NewScreen}
use Rattle.fsrm_model.specs.declared.command.NewTemplate.{NewTemplate}
use Rattle.fsrm_model.specs.declared.command.NewThresholds.{NewThresholds}
use Rattle.fsrm_model.specs.declared.command.QuotaChange.{QuotaChange}
use Rattle.fsrm_model.specs.declared.command.ScreenChange.{ScreenChange}
use Rattle.fsrm_model.specs.declared.command.TemplateChange.{TemplateChange}
use Rattle.fsrm_model.specs.commands.Commands.{are_some_names, are_new_thresholds, is_new_quota, is_quota_change, is_new_template, is_template_change, is_new_autoquota, is_new_filegroup, is_filegroup_change, is_new_screen, is_screen_change, is_new_job}
use Rattle.fsrm_model.specs.values.Limits.{most_excluded}
use Rattle.fsrm_model.specs.values.Name.{is_name}
use Rattle.fsrm_model.specs.values.Patterns.{is_object_name, are_members, are_non_members}
use Rattle.fsrm_model.specs.objects.Jobs.{is_schedule}
use Rattle.fsrm_model.specs.objects.Quota.{is_limit}
use Rattle.fsrm_model.specs.reports.Filters.{is_filter}
use Rattle.fsrm_model.specs.objects.Thresholds.{is_percent, is_new_action, is_notice}

-- ---- quotas
pub record AreNewThresholds (new : NewThresholds) : Type 0 where
  pub percents : list_all is_percent new.percents ≡ true
  pub notices : list_all is_notice new.notices ≡ true

pub new_thresholds_parts : (new : NewThresholds) → are_new_thresholds new ≡ true → AreNewThresholds new
new_thresholds_parts new legal =
    let lists = both (list_all is_percent new.percents) (list_all is_notice new.notices) legal in
    record { percents = lists.0; notices = lists.1 }

pub record IsNewQuota (new : NewQuota) : Type 0 where
  pub limit : option_map_or is_limit new.limit (is_some new.template) ≡ true
  pub template : option_map_or is_object_name new.template true ≡ true
  pub thresholds : AreNewThresholds new.thresholds

pub new_quota_parts : (new : NewQuota) → is_new_quota new ≡ true → IsNewQuota new
new_quota_parts new legal =
    let size = option_map_or is_limit new.limit (is_some new.template) in
    let named = option_map_or is_object_name new.template true in
    let halves = both (size && named) (are_new_thresholds new.thresholds) legal in
    let source = both size named halves.0 in
    record { limit = source.0; template = source.1; thresholds = new_thresholds_parts new.thresholds halves.1 }

pub record IsQuotaChange (change : QuotaChange) : Type 0 where
  pub limit : option_map_or is_limit change.limit true ≡ true
  pub removed : list_all is_percent change.removed ≡ true
  pub thresholds : AreNewThresholds change.thresholds

pub quota_change_parts : (change : QuotaChange) → is_quota_change change ≡ true → IsQuotaChange change
quota_change_parts change legal =
    let gone = list_all is_percent change.removed in
    let coming = are_new_thresholds change.thresholds in
    let halves = both (option_map_or is_limit change.limit true) (gone && coming) legal in
    let lists = both gone coming halves.1 in
    record { limit = halves.0; removed = lists.0; thresholds = new_thresholds_parts change.thresholds lists.1 }

-- ---- templates and auto-apply quotas
pub record IsNewTemplate (new : NewTemplate) : Type 0 where
  pub name : is_object_name new.name ≡ true
  pub limit : is_limit new.limit ≡ true
  pub thresholds : AreNewThresholds new.thresholds

pub new_template_parts : (new : NewTemplate) → is_new_template new ≡ true → IsNewTemplate new
new_template_parts new legal =
    let coming = are_new_thresholds new.thresholds in
    let halves = both (is_object_name new.name) (is_limit new.limit && coming) legal in
    let rest = both (is_limit new.limit) coming halves.1 in
    record { name = halves.0; limit = rest.0; thresholds = new_thresholds_parts new.thresholds rest.1 }

pub record IsTemplateChange (change : TemplateChange) : Type 0 where
  pub name : is_object_name change.name ≡ true
  pub limit : option_map_or is_limit change.limit true ≡ true
  pub removed : list_all is_percent change.removed ≡ true
  pub thresholds : AreNewThresholds change.thresholds

pub template_change_parts : (change : TemplateChange) → is_template_change change ≡ true → IsTemplateChange change
template_change_parts change legal =
    let size = option_map_or is_limit change.limit true in
    let gone = list_all is_percent change.removed in
    let coming = are_new_thresholds change.thresholds in
    let halves = both (is_object_name change.name) (size && (gone && coming)) legal in
    let rest = both size (gone && coming) halves.1 in
    let lists = both gone coming rest.1 in
    record {
      name = halves.0;
      limit = rest.0;
      removed = lists.0;
      thresholds = new_thresholds_parts change.thresholds lists.1;
    }

pub record IsNewAutoquota (new : NewAutoquota) : Type 0 where
  pub template : is_object_name new.template ≡ true
  pub excluded : (nat_le (length new.excluded) most_excluded && list_all is_name new.excluded) ≡ true

pub new_autoquota_parts : (new : NewAutoquota) → is_new_autoquota new ≡ true → IsNewAutoquota new
new_autoquota_parts new legal =
    let names = nat_le (length new.excluded) most_excluded && list_all is_name new.excluded in
    let halves = both (is_object_name new.template) names legal in
    record { template = halves.0; excluded = halves.1 }

-- ---- file groups and screens
pub record IsNewFilegroup (new : NewFilegroup) : Type 0 where
  pub name : is_object_name new.name ≡ true
  pub members : are_members new.members ≡ true
  pub non_members : are_non_members new.non_members ≡ true

pub new_filegroup_parts : (new : NewFilegroup) → is_new_filegroup new ≡ true → IsNewFilegroup new
new_filegroup_parts new legal =
    let halves = both (is_object_name new.name) (are_members new.members && are_non_members new.non_members) legal in
    let patterns = both (are_members new.members) (are_non_members new.non_members) halves.1 in
    record { name = halves.0; members = patterns.0; non_members = patterns.1 }

pub record IsFilegroupChange (change : FilegroupChange) : Type 0 where
  pub name : is_object_name change.name ≡ true
  pub members : option_map_or are_members change.members true ≡ true
  pub non_members : option_map_or are_non_members change.non_members true ≡ true

pub filegroup_change_parts : (change : FilegroupChange) → is_filegroup_change change ≡ true → IsFilegroupChange change
filegroup_change_parts change legal =
    let some = option_map_or are_members change.members true in
    let more = option_map_or are_non_members change.non_members true in
    let halves = both (is_object_name change.name) (some && more) legal in
    let patterns = both some more halves.1 in
    record { name = halves.0; members = patterns.0; non_members = patterns.1 }

pub record IsNewScreen (new : NewScreen) : Type 0 where
  pub groups : are_some_names new.groups ≡ true
  pub actions : list_all is_new_action new.actions ≡ true

pub new_screen_parts : (new : NewScreen) → is_new_screen new ≡ true → IsNewScreen new
new_screen_parts new legal =
    let lists = both (are_some_names new.groups) (list_all is_new_action new.actions) legal in
    record { groups = lists.0; actions = lists.1 }

pub record IsScreenChange (change : ScreenChange) : Type 0 where
  pub removed : list_all is_object_name change.removed ≡ true
  pub groups : list_all is_object_name change.groups ≡ true

pub screen_change_parts : (change : ScreenChange) → is_screen_change change ≡ true → IsScreenChange change
screen_change_parts change legal =
    let lists = both (list_all is_object_name change.removed) (list_all is_object_name change.groups) legal in
    record { removed = lists.0; groups = lists.1 }

-- ---- report jobs
pub record IsNewJob (new : NewJob) : Type 0 where
  pub name : is_object_name new.name ≡ true
  pub schedule : option_map_or is_schedule new.schedule true ≡ true
  pub filter : is_filter new.filter ≡ true

pub new_job_parts : (new : NewJob) → is_new_job new ≡ true → IsNewJob new
new_job_parts new legal =
    let due = option_map_or is_schedule new.schedule true in
    let halves = both (is_object_name new.name) (due && is_filter new.filter) legal in
    let rest = both due (is_filter new.filter) halves.1 in
    record { name = halves.0; schedule = rest.0; filter = rest.1 }
