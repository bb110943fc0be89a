-- Of good rows that come in their order none is refused.
use Rattle.std.proofs.Common.{◌≡◌, ℕ, ◌≤◌, ◌+◌, ◌<◌, Bool, ◌&&◌, ◌==◌, nat_lt, nat_le, not, true, false, List, [], ◌∷◌, length, take, sum_by, Option, Some, None, refl, ap, sym, ◌∙◌, arith}
use Rattle.std.specs.List.{list_all, list_any}
use Rattle.std.specs.Option.{option_map_or}
use Rattle.std.specs.Prelude.{is_some}
use Rattle.fsrm_base.specs.Causes.{◌when◌, first}
use Rattle.fsrm_base.specs.Keyed.{has_row}
use Rattle.fsrm_base.proofs.Look.{is_some-find}
use Rattle.fsrm_base.proofs.TestLaws.{both, eq_above, is_false, le_is, lt_is, nor, not_lt}
use Rattle.fsrm_model.specs.declared.row.Action.{Action}
use Rattle.fsrm_model.specs.declared.row.AutoRow.{AutoRow}
use Rattle.fsrm_model.specs.declared.row.ExceptRow.{ExceptRow}
use Rattle.fsrm_model.specs.declared.row.GroupRow.{GroupRow}
use Rattle.fsrm_model.specs.declared.row.JobRow.{JobRow}
use Rattle.fsrm_model.specs.declared.row.QuotaRow.{QuotaRow}
use Rattle.fsrm_model.specs.declared.row.ScreenRow.{ScreenRow}
use Rattle.fsrm_model.specs.declared.row.TemplateRow.{TemplateRow}
use Rattle.fsrm_model.specs.objects.AutoApply.{auto_folder}
use Rattle.fsrm_model.specs.objects.Jobs.{is_job, is_schedule, job_name, job_named, job_number}
use Rattle.fsrm_model.specs.objects.Quota.{folder_of}
use Rattle.fsrm_model.specs.objects.Screens.{except_folder, screen_folder}
use Rattle.fsrm_model.specs.objects.Templates.{is_template, template_name, template_number}
use Rattle.fsrm_model.specs.objects.Thresholds.{are_minutes, are_thresholds, is_action, is_action_text, is_kept_action, is_printing}
use Rattle.fsrm_model.specs.store.Valid.{are_screen_actions}
use Rattle.fsrm_model.specs.values.Limits.{latest_moment, longest_action_text, longest_name, longest_schedule, most_actions, most_autos, most_excepts, most_groups, most_jobs, most_quotas, most_screen_groups, most_screens, most_templates, most_text_bytes}
use Rattle.fsrm_model.specs.reports.Filters.{is_filter, is_length, is_owner}
use Rattle.fsrm_model.specs.values.Name.{is_named, names_differ}
use Rattle.fsrm_model.specs.values.Patterns.{are_apart, group_name, group_number, is_group, is_object_byte, is_object_name, is_pattern}
use Rattle.fsrm_model.specs.values.Texts.{auto_bytes, group_bytes, job_bytes, quota_bytes, template_bytes}
use Rattle.fsrm_model.proofs.valid.ScreensKept.{all_weaker}
use Rattle.file_groups.specs.declared.answer.GroupFault.{GroupFault}
use Rattle.file_groups.specs.declared.answer.GroupFault.TheVariants as group
use Rattle.file_groups.specs.Faults.{IsFault as IsGroupFault, group_fault}
use Rattle.file_groups.specs.Kept.{group_texts}
use Rattle.fsrm_objects.specs.Kept.{most_job_bytes}
use Rattle.fsrm_objects.specs.declared.answer.ObjectFault.{ObjectFault}
use Rattle.fsrm_objects.specs.declared.answer.ObjectFault.TheVariants as object
use Rattle.fsrm_objects.specs.Tables.{IsFault as IsObjectFault, Tables, except_fault, has_short_actions, has_short_texts, is_short, job_fault, job_texts, quota_fault, quota_texts, screen_bytes, screen_fault, screen_texts}
use Rattle.templates.specs.declared.answer.TemplateFault.{TemplateFault}
use Rattle.templates.specs.declared.answer.TemplateFault.TheVariants as template
use Rattle.templates.specs.Faults.{IsFault as IsTemplateFault, auto_fault, template_fault}
use Rattle.templates.specs.Held.{Held}
use Rattle.templates.proofs.PartLaws.{small_thresholds}
use Rattle.stored_rows.specs.Rows.{are_some_groups, is_alone_screen, is_tied_auto}
use Rattle.stored_rows.proofs.Filled.{Fills, skip, unnamed}

-- ---- if no refusal is due, memory ran out
pub group_memory : (fault : GroupFault) (due : Option GroupFault) → due ≡ None → IsGroupFault fault due → fault ≡ group.NoMemory
group_memory group.DuplicateName due none is = cc
group_memory group.TableFull due none is = cc
group_memory group.TextsFull due none is = cc
group_memory group.NoMemory due none is = refl

pub template_memory : (fault : TemplateFault) (due : Option TemplateFault) → due ≡ None → IsTemplateFault fault due → fault ≡ template.NoMemory
template_memory template.DuplicateName due none is = cc
template_memory template.AlreadyExists due none is = cc
template_memory template.InUse due none is = cc
template_memory template.TableFull due none is = cc
template_memory template.TextsFull due none is = cc
template_memory template.NoMemory due none is = refl

pub object_memory : (fault : ObjectFault) (due : Option ObjectFault) → due ≡ None → IsObjectFault fault due → fault ≡ object.NoMemory
object_memory object.AlreadyExists due none is = cc
object_memory object.InvalidCombination due none is = cc
object_memory object.DuplicateName due none is = cc
object_memory object.OutOfRange due none is = cc
object_memory object.TableFull due none is = cc
object_memory object.TextsFull due none is = cc
object_memory object.NoMemory due none is = refl

-- ---- texts
fitting : (bytes all : ℕ) → bytes ≤ all → all ≤ most_text_bytes → nat_lt most_text_bytes bytes ≡ false
fitting bytes all part fits = not_lt most_text_bytes bytes (omega (arith, part, fits))

-- ---- groups and templates
pub group_unrefused : (rows groups : List GroupRow) (i : ℕ) (row : GroupRow) → Fills group_number is_group group_bytes most_groups rows i row → groups ≡ take i rows → are_apart rows ≡ true → group_texts rows ≤ most_text_bytes → group_fault groups row most_text_bytes ≡ None
group_unrefused rows groups i row f came apart fits =
    ap (λ (gs : List GroupRow). group_fault gs row most_text_bytes) came
    ∙ (skip group.DuplicateName _ _ (unnamed group_name rows i row apart f.next)
    ∙ (skip group.TableFull _ _ f.room ∙ skip group.TextsFull _ _ (fitting (group_bytes row) (group_texts rows) f.part fits)))

pub template_unrefused : (rows : List TemplateRow) (held : Held) (i : ℕ) (row : TemplateRow) → Fills template_number is_template template_bytes most_templates rows i row → held.templates ≡ take i rows → names_differ template_name rows ≡ true → sum_by template_bytes rows ≤ most_text_bytes → template_fault held row most_text_bytes ≡ None
template_unrefused rows held i row f came apart fits =
    ap (λ (ts : List TemplateRow). template_fault (record held { templates = ts }) row most_text_bytes) came
    ∙ (skip template.DuplicateName _ _ (unnamed template_name rows i row apart f.next)
    ∙ (skip template.TableFull _ _ f.room ∙ skip template.TextsFull _ _ (fitting (template_bytes row) (sum_by template_bytes rows) f.part fits)))

pub auto_unrefused : (templates : List TemplateRow) (rows : List AutoRow) (held : Held) (i : ℕ) (row : AutoRow) → Fills auto_folder (is_tied_auto templates) auto_bytes most_autos rows i row → held.autos ≡ take i rows → sum_by auto_bytes rows ≤ most_text_bytes → auto_fault held row most_text_bytes ≡ None
auto_unrefused templates rows held i row f came fits =
    ap (λ (autos : List AutoRow). auto_fault (record held { autos = autos }) row most_text_bytes) came
    ∙ (skip template.AlreadyExists _ _ f.free
    ∙ (skip template.TableFull _ _ f.room ∙ skip template.TextsFull _ _ (fitting (auto_bytes row) (sum_by auto_bytes rows) f.part fits)))

-- ---- quotas
pub quota_short : (row : QuotaRow) → are_thresholds row.thresholds ≡ true → has_short_texts row ≡ true
quota_short row are = (small_thresholds row.thresholds are).1

pub quota_unrefused : (rows : List QuotaRow) (tables : Tables) (i : ℕ) (row : QuotaRow) → Fills folder_of (λ quota. are_thresholds quota.thresholds) quota_bytes most_quotas rows i row → tables.quotas ≡ take i rows → quota_texts rows ≤ most_text_bytes → quota_fault tables row most_text_bytes ≡ None
quota_unrefused rows tables i row f came fits =
    ap (λ (qs : List QuotaRow). quota_fault (record tables { quotas = qs }) row most_text_bytes) came
    ∙ (skip object.AlreadyExists _ _ f.free
    ∙ (skip object.OutOfRange _ _ (small_thresholds row.thresholds f.passes).0
    ∙ (skip object.TableFull _ _ f.room ∙ skip object.TextsFull _ _ (fitting (quota_bytes row) (quota_texts rows) f.part fits))))

-- ---- screens and exceptions
some_groups : (numbers : List ℕ) → are_some_groups numbers ≡ true → ((length numbers == 0) ≡ false) × (nat_lt most_screen_groups (length numbers) ≡ false)
some_groups numbers are =
    let parts = both (nat_lt 0 (length numbers)) (nat_le (length numbers) most_screen_groups) are in
    (eq_above (length numbers) 0 (lt_is 0 (length numbers) parts.0), not_lt most_screen_groups (length numbers) (le_is (length numbers) most_screen_groups parts.1))

pub except_unrefused : (rows : List ExceptRow) (tables : Tables) (i : ℕ) (row : ExceptRow) → Fills except_folder (λ except. are_some_groups except.groups) (λ (except : ExceptRow). 0) most_excepts rows i row → tables.excepts ≡ take i rows → tables.screens ≡ [] → except_fault tables row ≡ None
except_unrefused rows tables i row f came none =
    let some = some_groups row.groups f.passes in
    ap (λ (es : List ExceptRow). except_fault (record tables { excepts = es }) row) came
    ∙ (ap (λ (ss : List ScreenRow). except_fault (record tables { excepts = take i rows; screens = ss }) row) none
    ∙ (skip object.AlreadyExists _ _ f.free
    ∙ (skip object.InvalidCombination _ _ some.0
    ∙ (skip object.OutOfRange _ _ some.1 ∙ skip object.TableFull _ _ f.room))))

short_action : (action : Action) → is_kept_action action ≡ true → is_short action ≡ true
short_action action h =
    let kept = both (is_action action) _ h in
    let text = both (are_minutes action.minutes) (is_action_text action.text) kept.0 in
    (both (nat_le (length action.text) longest_action_text) (list_all is_printing action.text) text.1).0

record AloneScreen (excepts : List ExceptRow) (row : ScreenRow) : Type 0 where
  alone : has_row except_folder row.folder excepts ≡ false
  some : ((length row.groups == 0) ≡ false) × (nat_lt most_screen_groups (length row.groups) ≡ false)
  few : nat_lt most_actions (length row.actions) ≡ false
  short : has_short_actions row ≡ true

alone_screen : (excepts : List ExceptRow) (row : ScreenRow) → is_alone_screen excepts row ≡ true → AloneScreen excepts row
alone_screen excepts row is =
    let parts = both (not (has_row except_folder row.folder excepts)) (are_some_groups row.groups && are_screen_actions row.actions) is in
    let lists = both (are_some_groups row.groups) (are_screen_actions row.actions) parts.1 in
    let actions = both (nat_le (length row.actions) most_actions) (list_all is_kept_action row.actions) lists.1 in
    record {
      alone = is_false _ parts.0;
      some = some_groups row.groups lists.0;
      few = not_lt most_actions (length row.actions) (le_is (length row.actions) most_actions actions.0);
      short = all_weaker is_kept_action is_short row.actions short_action actions.1;
    }

pub screen_short : (excepts : List ExceptRow) (row : ScreenRow) → is_alone_screen excepts row ≡ true → has_short_actions row ≡ true
screen_short excepts row is = (alone_screen excepts row is).short

pub screen_unrefused : (rows : List ScreenRow) (tables : Tables) (i : ℕ) (row : ScreenRow) → Fills screen_folder (is_alone_screen tables.excepts) screen_bytes most_screens rows i row → tables.screens ≡ take i rows → screen_texts rows ≤ most_text_bytes → screen_fault tables row most_text_bytes ≡ None
screen_unrefused rows tables i row f came fits =
    let own = alone_screen tables.excepts row f.passes in
    ap (λ (ss : List ScreenRow). screen_fault (record tables { screens = ss }) row most_text_bytes) came
    ∙ (skip object.AlreadyExists _ _ f.free
    ∙ (skip object.InvalidCombination _ _ (nor (has_row except_folder row.folder tables.excepts) (length row.groups == 0) own.alone own.some.0)
    ∙ (skip object.OutOfRange _ _ (nor (nat_lt most_screen_groups (length row.groups)) (nat_lt most_actions (length row.actions)) own.some.1 own.few)
    ∙ (skip object.TableFull _ _ f.room ∙ skip object.TextsFull _ _ (fitting (screen_bytes row) (screen_texts rows) f.part fits)))))

-- ---- report jobs
short_name : (name : List ℕ) → is_object_name name ≡ true → length name ≤ longest_name
short_name name is =
    le_is (length name) longest_name (both (nat_lt 0 (length name)) (nat_le (length name) longest_name) (both _ (list_all is_object_byte name) is).0).1

short_pattern : (pattern : Option (List ℕ)) → option_map_or is_pattern pattern true ≡ true → option_map_or (λ (text : List ℕ). length text) pattern 0 ≤ longest_name
short_pattern None is = omega arith
short_pattern (Some text) is =
    le_is (length text) longest_name (both (nat_lt 0 (length text)) (nat_le (length text) longest_name) (both _ _ (both _ _ is).0).0).1

-- a job's texts are no longer than they may be
pub job_short : (job : JobRow) → is_job job ≡ true → job_bytes job ≤ most_job_bytes
job_short job is =
    let parts = both (nat_lt job.number most_jobs && is_object_name job.name) _ is in
    let name = short_name job.name (both (nat_lt job.number most_jobs) (is_object_name job.name) parts.0).1 in
    let rest = both (is_filter job.filter) (is_schedule job.schedule && (nat_le job.made latest_moment && option_map_or (λ run. nat_le run latest_moment) job.last_run true)) parts.1 in
    let schedule = (both (is_schedule job.schedule) (nat_le job.made latest_moment && option_map_or (λ run. nat_le run latest_moment) job.last_run true) rest.1).0 in
    let short = le_is (length job.schedule) longest_schedule (both (nat_le (length job.schedule) longest_schedule) (list_all is_printing job.schedule) schedule).0 in
    let files = both (option_map_or is_owner job.filter.owner true) (option_map_or is_pattern job.filter.pattern true && option_map_or is_length job.filter.min_size true) (both _ _ rest.0).0 in
    let pattern = short_pattern job.filter.pattern (both (option_map_or is_pattern job.filter.pattern true) (option_map_or is_length job.filter.min_size true) files.1).0 in
    omega (arith, name, short, pattern)

pub job_unrefused : (rows : List JobRow) (tables : Tables) (i : ℕ) (row : JobRow) → Fills job_number is_job job_bytes most_jobs rows i row → tables.jobs ≡ take i rows → names_differ job_name rows ≡ true → job_texts rows ≤ most_text_bytes → job_fault tables row most_text_bytes ≡ None
job_unrefused rows tables i row f came apart fits =
    ap (λ (js : List JobRow). job_fault (record tables { jobs = js }) row most_text_bytes) came
    ∙ (skip object.DuplicateName _ _ (is_some-find (is_named job_name row.name) (take i rows) ∙ unnamed job_name rows i row apart f.next)
    ∙ (skip object.TableFull _ _ f.room ∙ skip object.TextsFull _ _ (fitting (job_bytes row) (job_texts rows) f.part fits)))

-- a job that isn't refused has a name of its own
named_first : (taken full more : Bool) → first ((object.DuplicateName when taken) ∷ (object.TableFull when full) ∷ (object.TextsFull when more) ∷ []) ≡ None → taken ≡ false
named_first true full more h = cc
named_first false full more h = refl

pub job_apart : (tables : Tables) (row : JobRow) (room : ℕ) → job_fault tables row room ≡ None → list_any (is_named job_name row.name) tables.jobs ≡ false
job_apart tables row room h =
    sym (is_some-find (is_named job_name row.name) tables.jobs)
    ∙ named_first (is_some (job_named tables.jobs row.name)) (nat_le most_jobs (length tables.jobs)) (nat_lt room (job_bytes row)) h
