-- The commands on quotas: their refusals in order, and what they do.
use Rattle.std.specs.Prelude.{ℕ, ◌&&◌, Bool, true, false, not, is_some, is_none, List, [], ◌∷◌, ◌++◌, Option, Some, None, unwrap_or, if◌then◌else◌}
use Rattle.std.specs.Option.{option_map_or, option_and_then}
use Rattle.fsrm_model.specs.declared.command.Ask.TheVariants.{Quotas}
use Rattle.fsrm_model.specs.declared.command.NewQuota.{NewQuota}
use Rattle.fsrm_model.specs.declared.command.NewThresholds.{NewThresholds}
use Rattle.fsrm_model.specs.declared.command.Outcome.TheVariants.{Done, Listing}
use Rattle.fsrm_model.specs.declared.command.QuotaChange.{QuotaChange}
use Rattle.fsrm_model.specs.declared.command.Refusal.TheVariants.{PathNotFound, NotFound, AlreadyExists, OutOfRange}
use Rattle.fsrm_model.specs.declared.row.Capacity.{Capacity}
use Rattle.fsrm_model.specs.declared.row.QuotaRow.{QuotaRow}
use Rattle.fsrm_model.specs.declared.row.QuotaState.{QuotaState}
use Rattle.fsrm_model.specs.declared.row.QuotaState.TheVariants.{Disabled}
use Rattle.fsrm_model.specs.declared.row.Rows.{Rows}
use Rattle.fsrm_model.specs.declared.row.TemplateRow.{TemplateRow}
use Rattle.fsrm_model.specs.declared.row.Threshold.{Threshold}
use Rattle.fsrm_model.specs.commands.Check.{Check, ◌when◌, table_full, texts_full}
use Rattle.fsrm_model.specs.nodes.FileOps.{target}
use Rattle.fsrm_base.specs.Keyed.{with_change}
use Rattle.fsrm_model.specs.nodes.Leads.{leads_to_folder}
use Rattle.fsrm_model.specs.objects.Quota.{folder_of, quota_of, counts}
use Rattle.fsrm_model.specs.objects.QuotaStates.{start, state_after, with_quota, with_state, without_quota}
use Rattle.fsrm_model.specs.objects.Templates.{template_named, derived}
use Rattle.fsrm_model.specs.objects.Thresholds.{are_too_many, may_be_removed, changed_thresholds}
use Rattle.fsrm_model.specs.nodes.Tree.{usage}
use Rattle.fsrm_model.specs.commands.Work.{Work, asks}

-- the refusals of a command on a quota that is there
abbrev pub quota_checks : Rows → List (List ℕ) → List Check
quota_checks R path =
    (PathNotFound when not (leads_to_folder R.nodes path)) ∷ (NotFound when is_none (quota_of R (target R.nodes path))) ∷ []

-- a new quota, with peak 0 at the moment that it is made
abbrev pub new_quota : ℕ → ℕ → Bool → QuotaState → ℕ → QuotaRow
new_quota folder limit enforce state moment =
    record {
      folder = folder;
      limit = limit;
      enforce = enforce;
      state = state;
      thresholds = [];
      template = None;
      peak = 0;
      peak_at = moment;
    }

-- a quota with other thresholds
abbrev pub remarked : List ℕ → NewThresholds → QuotaRow → QuotaRow
remarked removed new quota =
    record quota { thresholds = changed_thresholds removed new.percents new.notices quota.thresholds }

-- a quota with another limit, or of another type, if these are given. All else of it stays
abbrev pub modified : Option ℕ → Option Bool → QuotaRow → QuotaRow
modified limit enforce quota = record quota { limit = unwrap_or limit quota.limit; enforce = unwrap_or enforce quota.enforce }

-- a quota before options change it: that of a template, or else a hard one without thresholds
abbrev pub first_quota : Option TemplateRow → ℕ → QuotaState → ℕ → QuotaRow
first_quota None folder state moment = new_quota folder 0 true state moment
first_quota (Some template) folder state moment = derived template folder state moment

-- the template that a command names
abbrev pub source_of : Rows → Option (List ℕ) → Option TemplateRow
source_of R template = option_and_then (template_named R.templates) template

-- a valid command gives a limit or a template. What it gives beside a template overrides its limit and its type, and adds to its
-- thresholds
abbrev pub add_work : Rows → ℕ → NewQuota → Work
add_work R moment new =
    let folder = target R.nodes new.path in
    let state = if new.enabled then start R.nodes folder else Disabled in
    let source = source_of R new.template in
    let quota = remarked [] new.thresholds (modified new.limit new.enforce (first_quota source folder state moment)) in
    let after = with_quota R quota in
    asks
    ((PathNotFound when not (leads_to_folder R.nodes new.path)) ∷ (AlreadyExists when is_some (quota_of R folder))
    ∷ (NotFound when (is_some new.template && is_none source))
    ∷ (OutOfRange when are_too_many quota.thresholds) ∷ table_full after ∷ texts_full after ∷ [])
    after (Done None) true

-- the thresholds of a folder's quota
abbrev pub thresholds_of : Rows → ℕ → List Threshold
thresholds_of R folder = option_map_or (λ quota. quota.thresholds) (quota_of R folder) []

-- a quota that is changed so, but for its state
abbrev pub changed_by : QuotaChange → QuotaRow → QuotaRow
changed_by change quota = remarked change.removed change.thresholds (modified change.limit change.enforce quota)

-- the limit first, then the type, then the thresholds, then the status
abbrev pub modify_work : Rows → QuotaChange → Work
modify_work R change =
    let folder = target R.nodes change.path in
    let thresholds = thresholds_of R folder in
    let coming = change.thresholds in
    let changed = record R { quotas = with_change folder_of folder (changed_by change) R.quotas } in
    let after = with_state changed folder (state_after R folder change.enabled) in
    asks
    (quota_checks R change.path ++ (NotFound when not (may_be_removed change.removed thresholds))
    ∷ (OutOfRange when are_too_many (changed_thresholds change.removed coming.percents coming.notices thresholds))
    ∷ texts_full after ∷ [])
    after (Done None) true

abbrev pub delete_work : Rows → List (List ℕ) → Work
delete_work R path =
    asks (quota_checks R path) (without_quota R (target R.nodes path)) (Done None) true

-- the peak is what is used now, if the quota counts, and else 0
abbrev pub reset : Capacity → Rows → ℕ → QuotaRow → QuotaRow
reset K R moment quota = record quota { peak = if counts quota then usage K R.nodes quota.folder else 0; peak_at = moment }

abbrev pub reset_work : Capacity → Rows → ℕ → List (List ℕ) → Work
reset_work K R moment path =
    asks (quota_checks R path)
    (record R { quotas = with_change folder_of (target R.nodes path) (reset K R moment) R.quotas })
    (Done None) true

-- a list changes nothing. If no folder is named, all quotas are listed
abbrev pub list_work : Rows → Option (List (List ℕ)) → Work
list_work R None = asks [] R (Listing (Quotas None)) false
list_work R (Some path) = asks (quota_checks R path) R (Listing (Quotas (Some (target R.nodes path)))) false
