-- What legal rows keep of each table.
use Rattle.std.proofs.Common.{◌≡◌, ℕ, ◌&&◌, nat_le, not, true, List, length}
use Rattle.std.specs.List.{list_all}
use Rattle.fsrm_base.specs.Keyed.{has_row, is_ascending}
use Rattle.fsrm_base.specs.Numbers.{each_once}
use Rattle.fsrm_base.proofs.TestLaws.{both, both_true}
use Rattle.fsrm_model.specs.declared.row.QuotaRow.{QuotaRow}
use Rattle.fsrm_model.specs.declared.row.Rows.{Rows}
use Rattle.fsrm_model.specs.declared.row.AutoRow.{AutoRow}
use Rattle.fsrm_model.specs.declared.row.ExceptRow.{ExceptRow}
use Rattle.fsrm_model.specs.declared.row.GroupRow.{GroupRow}
use Rattle.fsrm_model.specs.declared.row.ScreenRow.{ScreenRow}
use Rattle.fsrm_model.specs.nodes.Tree.{is_folder}
use Rattle.fsrm_model.specs.objects.AutoApply.{auto_folder, is_auto}
use Rattle.fsrm_model.specs.objects.Jobs.{is_job, job_number}
use Rattle.fsrm_model.specs.objects.Quota.{folder_of, is_limit}
use Rattle.fsrm_model.specs.objects.Screens.{except_folder, screen_folder}
use Rattle.fsrm_model.specs.objects.Thresholds.{are_thresholds}
use Rattle.fsrm_model.specs.objects.Templates.{is_template, template_number}
use Rattle.fsrm_model.specs.store.Replays.{none_rebuilding}
use Rattle.fsrm_model.specs.store.Valid.{are_audits, are_autos, are_entries, are_excepts, are_group_numbers, are_quotas, are_screen_actions, are_screens, has_source, is_empty, is_moment, is_sound_auto, is_sound_except, is_sound_job, is_sound_quota, is_sound_screen}
use Rattle.fsrm_model.specs.values.Limits.{most_autos, most_excepts, most_groups, most_jobs, most_minutes, most_quotas, most_screens, most_templates}
use Rattle.fsrm_model.specs.values.Patterns.{group_number, is_group}
use Rattle.fsrm_model.proofs.valid.ScreensKept.{all_weaker}
use Rattle.stored_rows.specs.Rows.{are_alone_screens, are_named_excepts, are_some_groups, are_tied_autos, are_whole_jobs, are_whole_quotas, is_alone_screen, is_tied_auto}
use Rattle.row_rules.specs.Kept.{are_kept, are_kept_quotas, are_kept_screens, are_numbered_groups, are_numbered_jobs, are_numbered_templates, is_kept_rest}

-- what the first tests say, part by part
pub record Kept (R : Rows) : Type 0 where
  pub templates : (is_ascending template_number R.templates && nat_le (length R.templates) most_templates) ≡ true
  pub each_template : list_all is_template R.templates ≡ true
  pub quotas : are_quotas R.nodes R.quotas ≡ true
  pub sources : list_all (has_source R.templates) R.quotas ≡ true
  pub autos : are_autos R.nodes R.templates R.autos ≡ true
  pub none : none_rebuilding R.quotas ≡ true
  pub groups : (is_ascending group_number R.groups && nat_le (length R.groups) most_groups) ≡ true
  pub each_group : list_all is_group R.groups ≡ true
  pub excepts : are_excepts R.nodes R.groups R.excepts ≡ true
  pub screens : are_screens R.nodes R.groups R.excepts R.screens ≡ true
  pub acts : are_entries R.acts ≡ true
  pub audits : are_audits R.audits ≡ true
  pub run_limit : nat_le R.run_limit most_minutes ≡ true
  pub last_moment : is_moment R.last_moment ≡ true
  pub jobs : (is_ascending job_number R.jobs && nat_le (length R.jobs) most_jobs) ≡ true
  pub each_job : list_all (is_sound_job R.nodes) R.jobs ≡ true
  pub queue : is_empty R.queue ≡ true
  pub unvisited : is_empty R.unvisited ≡ true

pub kept_parts : (R : Rows) → are_kept R ≡ true → Kept R
kept_parts R h =
    let all = both (are_kept_quotas R) (are_kept_screens R && is_kept_rest R) h in
    let others = both (are_kept_screens R) (is_kept_rest R) all.1 in
    let q = both (are_numbered_templates R.templates && (are_quotas R.nodes R.quotas && list_all (has_source R.templates) R.quotas)) (are_autos R.nodes R.templates R.autos && none_rebuilding R.quotas) all.0 in
    let named = both (are_numbered_templates R.templates) (are_quotas R.nodes R.quotas && list_all (has_source R.templates) R.quotas) q.0 in
    let template = both (is_ascending template_number R.templates && nat_le (length R.templates) most_templates) (list_all is_template R.templates) named.0 in
    let quota = both (are_quotas R.nodes R.quotas) (list_all (has_source R.templates) R.quotas) named.1 in
    let auto = both (are_autos R.nodes R.templates R.autos) (none_rebuilding R.quotas) q.1 in
    let s = both (are_numbered_groups R.groups) (are_excepts R.nodes R.groups R.excepts && are_screens R.nodes R.groups R.excepts R.screens) others.0 in
    let group = both (is_ascending group_number R.groups && nat_le (length R.groups) most_groups) (list_all is_group R.groups) s.0 in
    let barred = both (are_excepts R.nodes R.groups R.excepts) (are_screens R.nodes R.groups R.excepts R.screens) s.1 in
    let r = both ((are_entries R.acts && are_audits R.audits) && (nat_le R.run_limit most_minutes && is_moment R.last_moment)) (are_numbered_jobs R.nodes R.jobs && (is_empty R.queue && is_empty R.unvisited)) others.1 in
    let logged = both (are_entries R.acts && are_audits R.audits) (nat_le R.run_limit most_minutes && is_moment R.last_moment) r.0 in
    let logs = both (are_entries R.acts) (are_audits R.audits) logged.0 in
    let set = both (nat_le R.run_limit most_minutes) (is_moment R.last_moment) logged.1 in
    let none = both (are_numbered_jobs R.nodes R.jobs) (is_empty R.queue && is_empty R.unvisited) r.1 in
    let job = both (is_ascending job_number R.jobs && nat_le (length R.jobs) most_jobs) (list_all (is_sound_job R.nodes) R.jobs) none.0 in
    let scans = both (is_empty R.queue) (is_empty R.unvisited) none.1 in
    record {
      templates = template.0;
      each_template = template.1;
      quotas = quota.0;
      sources = quota.1;
      autos = auto.0;
      none = auto.1;
      groups = group.0;
      each_group = group.1;
      excepts = barred.0;
      screens = barred.1;
      acts = logs.0;
      audits = logs.1;
      run_limit = set.0;
      last_moment = set.1;
      jobs = job.0;
      each_job = job.1;
      queue = scans.0;
      unvisited = scans.1;
    }

-- ---- what the tables ask of rows
pub numbered_groups : (R : Rows) → are_kept R ≡ true → are_numbered_groups R.groups ≡ true
numbered_groups R h =
    let k = kept_parts R h in
    both_true (is_ascending group_number R.groups && nat_le (length R.groups) most_groups) (list_all is_group R.groups) k.groups k.each_group

pub tied_autos : (R : Rows) → are_kept R ≡ true → are_tied_autos R.templates R.autos ≡ true
tied_autos R h =
    let parts = both (is_ascending auto_folder R.autos && nat_le (length R.autos) most_autos) (list_all (is_sound_auto R.nodes R.templates) R.autos) (kept_parts R h).autos in
    both_true (is_ascending auto_folder R.autos && nat_le (length R.autos) most_autos) (list_all (is_tied_auto R.templates) R.autos) parts.0
    (all_weaker (is_sound_auto R.nodes R.templates) (is_tied_auto R.templates) R.autos tied parts.1)
  where
    tied : (auto : AutoRow) → is_sound_auto R.nodes R.templates auto ≡ true → is_tied_auto R.templates auto ≡ true
    tied auto is =
        let own = both (is_folder R.nodes auto.folder && has_row template_number auto.template R.templates) (is_auto auto) is in
        both_true (has_row template_number auto.template R.templates) (is_auto auto) (both (is_folder R.nodes auto.folder) (has_row template_number auto.template R.templates) own.0).1 own.1

pub whole_quotas : (R : Rows) → are_kept R ≡ true → are_whole_quotas R.quotas ≡ true
whole_quotas R h =
    let parts = both (is_ascending folder_of R.quotas && nat_le (length R.quotas) most_quotas) (list_all (is_sound_quota R.nodes) R.quotas) (kept_parts R h).quotas in
    both_true (is_ascending folder_of R.quotas && nat_le (length R.quotas) most_quotas) (list_all (λ (quota : QuotaRow). are_thresholds quota.thresholds) R.quotas) parts.0
    (all_weaker (is_sound_quota R.nodes) (λ (quota : QuotaRow). are_thresholds quota.thresholds) R.quotas whole parts.1)
  where
    whole : (quota : QuotaRow) → is_sound_quota R.nodes quota ≡ true → are_thresholds quota.thresholds ≡ true
    whole quota is =
        let own = both (is_folder R.nodes quota.folder) (is_limit quota.limit && (are_thresholds quota.thresholds && is_moment quota.peak_at)) is in
        let rest = both (is_limit quota.limit) (are_thresholds quota.thresholds && is_moment quota.peak_at) own.1 in
        (both (are_thresholds quota.thresholds) (is_moment quota.peak_at) rest.1).0

some_numbers : (groups : List GroupRow) (numbers : List ℕ) → are_group_numbers groups numbers ≡ true → are_some_groups numbers ≡ true
some_numbers groups numbers are = (both (are_some_groups numbers) (each_once numbers && list_all (λ n. has_row group_number n groups) numbers) are).0

pub named_excepts : (R : Rows) → are_kept R ≡ true → are_named_excepts R.excepts ≡ true
named_excepts R h =
    let parts = both (is_ascending except_folder R.excepts && nat_le (length R.excepts) most_excepts) (list_all (is_sound_except R.nodes R.groups) R.excepts) (kept_parts R h).excepts in
    both_true (is_ascending except_folder R.excepts && nat_le (length R.excepts) most_excepts) (list_all (λ (except : ExceptRow). are_some_groups except.groups) R.excepts) parts.0
    (all_weaker (is_sound_except R.nodes R.groups) (λ (except : ExceptRow). are_some_groups except.groups) R.excepts
    (λ except is. some_numbers R.groups except.groups (both (is_folder R.nodes except.folder) (are_group_numbers R.groups except.groups) is).1) parts.1)

pub alone_screens : (R : Rows) → are_kept R ≡ true → are_alone_screens R.excepts R.screens ≡ true
alone_screens R h =
    let parts = both (is_ascending screen_folder R.screens && nat_le (length R.screens) most_screens) (list_all (is_sound_screen R.nodes R.groups R.excepts) R.screens) (kept_parts R h).screens in
    both_true (is_ascending screen_folder R.screens && nat_le (length R.screens) most_screens) (list_all (is_alone_screen R.excepts) R.screens) parts.0
    (all_weaker (is_sound_screen R.nodes R.groups R.excepts) (is_alone_screen R.excepts) R.screens alone parts.1)
  where
    alone : (screen : ScreenRow) → is_sound_screen R.nodes R.groups R.excepts screen ≡ true → is_alone_screen R.excepts screen ≡ true
    alone screen is =
        let own = both (is_folder R.nodes screen.folder && not (has_row except_folder screen.folder R.excepts)) (are_group_numbers R.groups screen.groups && are_screen_actions screen.actions) is in
        let lists = both (are_group_numbers R.groups screen.groups) (are_screen_actions screen.actions) own.1 in
        both_true (not (has_row except_folder screen.folder R.excepts)) (are_some_groups screen.groups && are_screen_actions screen.actions)
        (both (is_folder R.nodes screen.folder) (not (has_row except_folder screen.folder R.excepts)) own.0).1
        (both_true (are_some_groups screen.groups) (are_screen_actions screen.actions) (some_numbers R.groups screen.groups lists.0) lists.1)

pub whole_jobs : (R : Rows) → are_kept R ≡ true → are_whole_jobs R.jobs ≡ true
whole_jobs R h =
    let k = kept_parts R h in
    both_true (is_ascending job_number R.jobs && nat_le (length R.jobs) most_jobs) (list_all is_job R.jobs) k.jobs
    (all_weaker (is_sound_job R.nodes) is_job R.jobs (λ job is. (both (is_folder R.nodes job.scope) (is_job job) is).1) k.each_job)
