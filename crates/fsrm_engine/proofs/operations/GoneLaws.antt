-- What goes makes nothing due.
use Rattle.std.proofs.Common.{◌≡◌, ℕ, ◌≤◌, ◌==◌, ◌&&◌, nat_le, Bool, true, false, cond, List, [], ◌∷◌, length, Option, Some, None, refl, ap, sym, ◌∙◌, subst, arith}
use Rattle.std.specs.Prelude.{filter, map, option_map}
use Rattle.std.specs.List.{list_all}
use Rattle.fsrm_base.specs.Keyed.{has_row, is_ascending, row_of, without_row}
use Rattle.fsrm_base.proofs.EditedRows.{without_absent}
use Rattle.fsrm_base.proofs.Look.{found_key, has_found, row_of-without}
use Rattle.fsrm_base.proofs.Members.{all_found}
use Rattle.fsrm_base.proofs.TestLaws.{both, clash, eq_is, fails, not_true}
use Rattle.fsrm_model.specs.declared.row.JobRow.{JobRow}
use Rattle.fsrm_model.specs.declared.row.QuotaRow.{QuotaRow}
use Rattle.fsrm_model.specs.objects.AutoApply.{auto_folder}
use Rattle.fsrm_model.specs.values.Limits.{most_excepts, most_jobs}
use Rattle.fsrm_model.specs.values.Name.{names_differ}
use Rattle.fsrm_model.specs.objects.Jobs.{is_elsewhere, is_job, job_name, job_number}
use Rattle.fsrm_model.specs.objects.Quota.{folder_of}
use Rattle.fsrm_model.specs.objects.Screens.{screen_folder, except_folder}
use Rattle.fsrm_model.specs.nodes.Tree.{is_folder}
use Rattle.fsrm_model.specs.store.Valid.{are_group_numbers, is_sound_auto, is_sound_except, is_sound_job}
use Rattle.fsrm_model.proofs.valid.RowsKept.{screens_folder}
use Rattle.fsrm_model.proofs.valid.ScreensKept.{all_weaker, table_parts}
use Rattle.fsrm_model.proofs.valid.TemplatesKept.{auto_parts}
use Rattle.quota_usage.specs.declared.change.Change.{Change}
use Rattle.quota_usage.specs.declared.change.Counter.{Counter}
use Rattle.quota_usage.specs.Charge.{charged, charged_counter, is_above}
use Rattle.quota_usage.specs.Counters.{counted, used_in, without_counter}
use Rattle.rescan.specs.Courses.{Course}
use Rattle.volume_tree.specs.Volume.{Volume}
use Rattle.fsrm_engine.specs.declared.parts.Parts.{Parts}
use Rattle.fsrm_engine.specs.Machine.{AreCounted, IsWhole, rows_of}
use Rattle.fsrm_engine.proofs.operations.IdleLaws.{left_found}
use Rattle.fsrm_engine.proofs.settling.CalmLaws.{AtMost, at_most_own, calm_less}
use Rattle.fsrm_engine.proofs.settling.EndLaws.{due_of}
use Rattle.fsrm_engine.proofs.settling.GainLaws.{used_charged}

-- a file, which gives bytes to no folder
pub calm_gone : (p : Parts) (w : Volume) (s : Course) (counters : List Counter) (change : Change) (m : ℕ) → change.to ≡ None → counters ≡ map (charged_counter w.nodes change) p.usage → w.size ≡ p.tree.size → AreCounted p → AreCounted (record p { tree = w; scans = s; usage = counters }) → due_of p (record p { tree = w; scans = s; usage = counters }) m ≡ []
calm_gone p w s counters change m none made size c d =
    calm_less p (record p { tree = w; scans = s; usage = counters }) m c d size
    (λ q found. record { old = q; found = found; limit = refl; thresholds = refl })
    (λ q found. subst (λ (cs : List Counter). AtMost (used_in cs q.folder) (used_in p.usage q.folder)) (sym made)
    (subst (λ o. AtMost o (used_in p.usage q.folder)) (sym (used_charged w.nodes change p.usage q.folder)) (at q.folder (used_in p.usage q.folder))))
  where
    less : (f b : ℕ) → charged w.nodes change f b ≤ b
    less f b =
        let nothing = ap (λ o. cond (is_above w.nodes o f) change.plus 0) none in
        omega (arith, nothing)

    at : (f : ℕ) (o : Option ℕ) → AtMost (option_map (charged w.nodes change f) o) o
    at f None = tt
    at f (Some b) = less f b

-- a folder with its quota
pub calm_without : (p mid : Parts) (m n : ℕ) → AreCounted p → AreCounted mid → mid.tree.size ≡ p.tree.size → mid.objects.quotas ≡ without_row folder_of n p.objects.quotas → mid.usage ≡ without_counter p.usage n → due_of p mid m ≡ []
calm_without p mid m n c d size quotas counters =
    calm_less p mid m c d size
    (λ q found. record { old = q; found = (left_found folder_of n q.folder p.objects.quotas q (now q found)).found; limit = refl; thresholds = refl })
    (λ q found. subst (λ o. AtMost o (used_in p.usage q.folder)) (sym (same q found)) (at_most_own (used_in p.usage q.folder)))
  where
    now : (q : QuotaRow) → row_of folder_of q.folder mid.objects.quotas ≡ Some q → row_of folder_of q.folder (without_row folder_of n p.objects.quotas) ≡ Some q
    now q found = subst (λ (qs : List QuotaRow). row_of folder_of q.folder qs ≡ Some q) quotas found

    same : (q : QuotaRow) → row_of folder_of q.folder mid.objects.quotas ≡ Some q → used_in mid.usage q.folder ≡ used_in p.usage q.folder
    same q found =
        ap (λ cs. used_in cs q.folder) counters
        ∙ ap (option_map (λ (r : Counter). r.bytes)) (row_of-without counted n q.folder p.usage (left_found folder_of n q.folder p.objects.quotas q (now q found)).other)

-- ---- a file is the folder of no object
unfoldered : {X : Type 0} (key : X → ℕ) (rows : List X) (folders : ℕ → Bool) (n : ℕ) → (has_row key n rows ≡ true → folders n ≡ true) → folders n ≡ false → without_row key n rows ≡ rows
unfoldered key rows folders n on file = without_absent key n rows (not_true (has_row key n rows) (λ h. clash (folders n) (on h) file))

pub no_screen : (p : Parts) (n : ℕ) → IsWhole p → is_folder p.tree.nodes n ≡ false → without_row screen_folder n p.objects.screens ≡ p.objects.screens
no_screen p n w file = unfoldered screen_folder p.objects.screens (is_folder p.tree.nodes) n (screens_folder (rows_of p) n w.valid.tables.screens) file

pub no_except : (p : Parts) (n : ℕ) → IsWhole p → is_folder p.tree.nodes n ≡ false → without_row except_folder n p.objects.excepts ≡ p.objects.excepts
no_except p n w file = unfoldered except_folder p.objects.excepts (is_folder p.tree.nodes) n there file
  where
    there : has_row except_folder n p.objects.excepts ≡ true → is_folder p.tree.nodes n ≡ true
    there h =
        let found = has_found except_folder n p.objects.excepts h in
        let table = table_parts except_folder most_excepts (is_sound_except p.tree.nodes p.groups) p.objects.excepts w.valid.tables.excepts in
        let own = all_found (is_sound_except p.tree.nodes p.groups) (λ e. except_folder e == n) p.objects.excepts found.row table.each found.is in
        ap (is_folder p.tree.nodes) (sym (found_key except_folder n p.objects.excepts found.row found.is))
        ∙ (both (is_folder p.tree.nodes found.row.folder) (are_group_numbers p.groups found.row.groups) own).0

-- a test that no row fails keeps them all
all_pass : {X : Type 0} (p : X → Bool) (rows : List X) → list_all p rows ≡ true → filter p rows ≡ rows
all_pass p [] h = refl
all_pass p (x ∷ rows) h =
    let is = both (p x) (list_all p rows) h in
    ap (λ b. cond b (x ∷ filter p rows) (filter p rows)) is.0 ∙ ap (λ rest. x ∷ rest) (all_pass p rows is.1)

pub no_job : (p : Parts) (n : ℕ) → IsWhole p → is_folder p.tree.nodes n ≡ false → filter (is_elsewhere n) p.objects.jobs ≡ p.objects.jobs
no_job p n w file =
    let jobs = p.objects.jobs in
    let each = (both (list_all (is_sound_job p.tree.nodes) jobs) (names_differ job_name jobs) (both (is_ascending job_number jobs && nat_le (length jobs) most_jobs) (list_all (is_sound_job p.tree.nodes) jobs && names_differ job_name jobs) w.valid.tables.jobs).1).0 in
    all_pass (is_elsewhere n) jobs (all_weaker (is_sound_job p.tree.nodes) (is_elsewhere n) jobs elsewhere each)
  where
    elsewhere : (job : JobRow) → is_sound_job p.tree.nodes job ≡ true → is_elsewhere n job ≡ true
    elsewhere job is =
        fails (job.scope == n) (λ t. clash (is_folder p.tree.nodes n) (ap (is_folder p.tree.nodes) (sym (eq_is job.scope n t)) ∙ (both (is_folder p.tree.nodes job.scope) (is_job job) is).0) file)

pub no_auto : (p : Parts) (n : ℕ) → IsWhole p → is_folder p.tree.nodes n ≡ false → without_row auto_folder n p.templates.autos ≡ p.templates.autos
no_auto p n w file = unfoldered auto_folder p.templates.autos (is_folder p.tree.nodes) n there file
  where
    there : has_row auto_folder n p.templates.autos ≡ true → is_folder p.tree.nodes n ≡ true
    there h =
        let found = has_found auto_folder n p.templates.autos h in
        let each = (both _ (list_all (is_sound_auto p.tree.nodes p.templates.templates) p.templates.autos) w.valid.tables.autos).1 in
        let own = all_found (is_sound_auto p.tree.nodes p.templates.templates) (λ a. auto_folder a == n) p.templates.autos found.row each found.is in
        ap (is_folder p.tree.nodes) (sym (found_key auto_folder n p.templates.autos found.row found.is))
        ∙ (auto_parts p.tree.nodes p.templates.templates found.row own).folder
