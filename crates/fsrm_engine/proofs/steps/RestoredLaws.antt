-- Rows of which an engine is made: what was told of them, and what they make.
use Rattle.std.proofs.Common.{◌≡◌, ℕ, ◌≤◌, ◌+◌, ◌&&◌, ◌||◌, nat_le, not, Bool, true, false, List, [], ◌∷◌, length, sum_by, refl, ap, sym, ◌∙◌, subst, arith}
use Rattle.std.specs.List.{list_all}
use Rattle.std.specs.Prelude.{Result, Ok, Err, IfOk, OnOk}
use Rattle.fsrm_base.specs.Keyed.{is_ascending}
use Rattle.fsrm_base.specs.Numbers.{is_in}
use Rattle.fsrm_base.proofs.TestLaws.{both, both_true, le_is, le_test, not_true, same_tests, clash}
use Rattle.fsrm_model.specs.declared.row.Capacity.{Capacity}
use Rattle.fsrm_model.specs.declared.row.NodeRow.{NodeRow}
use Rattle.fsrm_model.specs.declared.row.QuotaRow.{QuotaRow}
use Rattle.fsrm_model.specs.declared.row.Rows.{Rows}
use Rattle.fsrm_model.specs.objects.Jobs.{job_name, job_number}
use Rattle.fsrm_model.specs.objects.QuotaStates.{head, is_rebuilding}
use Rattle.fsrm_model.specs.objects.Templates.{is_template, template_name, template_number}
use Rattle.fsrm_model.specs.store.Capacities.{is_capacity}
use Rattle.fsrm_model.specs.store.Lasting.{lasting}
use Rattle.fsrm_model.specs.store.Replays.{none_rebuilding}
use Rattle.fsrm_model.specs.store.Valid.{IsValid, IsVolume, are_audits, are_autos, are_entries, are_excepts, are_groups, are_jobs, are_quotas, are_screens, are_tables, are_templates, has_source, is_empty, is_moment, is_sound_job, is_tree, is_valid}
use Rattle.fsrm_model.specs.store.ValidScans.{are_left, is_queue}
use Rattle.fsrm_model.specs.values.Limits.{most_groups, most_jobs, most_minutes, most_templates, most_text_bytes}
use Rattle.fsrm_model.specs.values.Name.{names_differ}
use Rattle.fsrm_model.specs.values.Patterns.{are_apart, group_number, is_group}
use Rattle.fsrm_model.specs.values.Texts.{auto_bytes, object_texts, template_bytes}
use Rattle.fsrm_model.proofs.journal.WholeLaws.{kept_whole}
use Rattle.fsrm_model.proofs.valid.ScreensKept.{all_weaker}
use Rattle.fsrm_model.proofs.valid.ValidTests.{test_by_valid, valid_by_test}
use Rattle.rescan.proofs.queued.Turning.{none_left}
use Rattle.file_groups.specs.Kept.{group_texts}
use Rattle.fsrm_objects.specs.Tables.{job_texts, quota_texts, screen_texts}
use Rattle.row_rules.specs.Kept.{are_kept, are_numbered_templates}
use Rattle.volume_tree.specs.Volume.{Volume}
use Rattle.volume_tree.specs.declared.answer.RowsFault.{RowsFault}
use Rattle.fsrm_engine.specs.declared.parts.Parts.{Parts}
use Rattle.fsrm_engine.specs.Machine.{IsWhole, machine_of, rows_of}
use Rattle.fsrm_parts.specs.Filled.{are_fitting}
use Rattle.fsrm_engine.specs.Restored.{idle_scans, is_restorable, restored}
use Rattle.fsrm_parts.proofs.tables.FilledLaws.{Kept, kept_parts}

-- ---- the tests
-- the same as `is_restorable`, in the order in which it is judged
abbrev is_judged : Capacity → Rows → Bool
is_judged K R = is_tree K R.nodes && (are_kept R && are_fitting R)

empty_is : {X : Type 0} (xs : List X) → is_empty xs ≡ true → xs ≡ []
empty_is [] h = refl
empty_is (x ∷ xs) h = cc

kept_joined : (R : Rows) → Kept R → are_kept R ≡ true
kept_joined R k =
    at (is_ascending template_number R.templates && nat_le (length R.templates) most_templates) (list_all is_template R.templates) (are_quotas R.nodes R.quotas) (list_all (has_source R.templates) R.quotas) (are_autos R.nodes R.templates R.autos) (none_rebuilding R.quotas)
    (is_ascending group_number R.groups && nat_le (length R.groups) most_groups) (list_all is_group R.groups) (are_excepts R.nodes R.groups R.excepts) (are_screens R.nodes R.groups R.excepts R.screens)
    (are_entries R.acts) (are_audits R.audits) (nat_le R.run_limit most_minutes) (is_moment R.last_moment) (is_ascending job_number R.jobs && nat_le (length R.jobs) most_jobs) (list_all (is_sound_job R.nodes) R.jobs) (is_empty R.queue) (is_empty R.unvisited)
    k.templates k.each_template k.quotas k.sources k.autos k.none k.groups k.each_group k.excepts k.screens k.acts k.audits k.run_limit k.last_moment k.jobs k.each_job k.queue k.unvisited
  where
    at : (a b c d e f g h i j l m n o p s q r : Bool) → a ≡ true → b ≡ true → c ≡ true → d ≡ true → e ≡ true → f ≡ true → g ≡ true → h ≡ true → i ≡ true → j ≡ true → l ≡ true → m ≡ true → n ≡ true → o ≡ true → p ≡ true → s ≡ true → q ≡ true → r ≡ true
        → ((((a && b) && (c && d)) && (e && f)) && (((g && h) && (i && j)) && (((l && m) && (n && o)) && ((p && s) && (q && r))))) ≡ true
    at a b c d e f g h i j l m n o p s q r ka kb kc kd ke kf kg kh ki kj kl km kn ko kp ks kq kr = rw (ka, kb, kc, kd, ke, kf, kg, kh, ki, kj, kl, km, kn, ko, kp, ks, kq, kr) refl

-- a queue without folders, and nothing to be visited
none_waits : (quotas : List QuotaRow) (queue : List ℕ) → is_empty queue ≡ true → none_rebuilding quotas ≡ true → is_queue quotas queue ≡ true
none_waits quotas [] e none = all_weaker (λ (quota : QuotaRow). not (is_rebuilding quota.state)) (λ (quota : QuotaRow). not (is_rebuilding quota.state) || is_in [] quota.folder) quotas (λ q h. ap (λ b. b || false) h) none
none_waits quotas (n ∷ queue) e none = cc

nothing_left : (nodes : List NodeRow) (queue unvisited : List ℕ) → is_empty queue ≡ true → is_empty unvisited ≡ true → are_left nodes (head queue) unvisited ≡ true
nothing_left nodes [] [] e h = refl
nothing_left nodes [] (n ∷ unvisited) e h = cc
nothing_left nodes (n ∷ queue) unvisited e h = cc

-- what the last tests say
pub record Fitting (R : Rows) : Type 0 where
  pub apart : are_apart R.groups ≡ true
  pub differ : names_differ template_name R.templates ≡ true
  pub jobs_differ : names_differ job_name R.jobs ≡ true
  pub texts : nat_le (object_texts R) most_text_bytes ≡ true

pub fitting_parts : (R : Rows) → are_fitting R ≡ true → Fitting R
fitting_parts R h =
    let all = both (are_apart R.groups && (names_differ template_name R.templates && names_differ job_name R.jobs)) (nat_le (object_texts R) most_text_bytes) h in
    let names = both (are_apart R.groups) (names_differ template_name R.templates && names_differ job_name R.jobs) all.0 in
    let others = both (names_differ template_name R.templates) (names_differ job_name R.jobs) names.1 in
    record { apart = names.0; differ = others.0; jobs_differ = others.1; texts = all.1 }

pub valid_judged : (K : Capacity) (R : Rows) → is_tree K R.nodes ≡ true → Kept R → Fitting R → is_valid K R ≡ true
valid_judged K R tree k f =
    let templates : are_templates R.templates ≡ true = both_true _ _ k.templates (both_true _ _ k.each_template f.differ) in
    let groups : are_groups R.groups ≡ true = both_true _ _ k.groups (both_true _ _ k.each_group f.apart) in
    let jobs : are_jobs R.nodes R.jobs ≡ true = both_true _ _ k.jobs (both_true _ _ k.each_job f.jobs_differ) in
    let tables : are_tables R ≡ true =
    both_true _ _ (both_true _ _ k.sources (both_true _ _ templates (both_true _ _ k.autos jobs))) (both_true _ _ (both_true _ _ groups k.screens) (both_true _ _ k.excepts k.audits)) in
    both_true _ _ (both_true _ _ tree (both_true _ _ k.quotas tables))
    (both_true _ _ (both_true _ _ f.texts (both_true _ _ k.acts (both_true _ _ k.run_limit k.last_moment)))
    (both_true _ _ (none_waits R.quotas R.queue k.queue k.none) (nothing_left R.nodes R.queue R.unvisited k.queue k.unvisited)))

-- the other way
kept_valid : (K : Capacity) (R : Rows) → IsValid K R → none_rebuilding R.quotas ≡ true → Kept R × Fitting R
kept_valid K R v none =
    let whole : lasting R ≡ R = kept_whole K R v none in
    let test = test_by_valid K R v in
    let objects = both (are_quotas R.nodes R.quotas) (are_tables R) (both (is_tree K R.nodes) (are_quotas R.nodes R.quotas && are_tables R) (both _ _ test).0).1 in
    let t = v.tables in
    let templates = both (is_ascending template_number R.templates && nat_le (length R.templates) most_templates) (list_all is_template R.templates && names_differ template_name R.templates) t.templates in
    let template = both (list_all is_template R.templates) (names_differ template_name R.templates) templates.1 in
    let groups = both (is_ascending group_number R.groups && nat_le (length R.groups) most_groups) (list_all is_group R.groups && are_apart R.groups) t.groups in
    let group = both (list_all is_group R.groups) (are_apart R.groups) groups.1 in
    let jobs = both (is_ascending job_number R.jobs && nat_le (length R.jobs) most_jobs) (list_all (is_sound_job R.nodes) R.jobs && names_differ job_name R.jobs) t.jobs in
    let job = both (list_all (is_sound_job R.nodes) R.jobs) (names_differ job_name R.jobs) jobs.1 in (
      record {
        templates = templates.0;
        each_template = template.0;
        quotas = objects.0;
        sources = t.sources;
        autos = t.autos;
        none = none;
        groups = groups.0;
        each_group = group.0;
        excepts = t.excepts;
        screens = t.screens;
        acts = v.log;
        audits = t.audits;
        run_limit = le_test R.run_limit most_minutes v.run_limit;
        last_moment = le_test R.last_moment 4102444799 v.last_moment;
        jobs = jobs.0;
        each_job = job.0;
        queue = ap is_empty (sym (ap (λ (Q : Rows). Q.queue) whole));
        unvisited = ap is_empty (sym (ap (λ (Q : Rows). Q.unvisited) whole));
      },
      record { apart = group.1; differ = template.1; jobs_differ = job.1; texts = le_test (object_texts R) most_text_bytes v.texts },
    )

-- both tests are one
judged_is : (K : Capacity) (R : Rows) → is_judged K R ≡ is_restorable K R
judged_is K R = same_tests (is_judged K R) (is_restorable K R) forth back
  where
    forth : is_judged K R ≡ true → is_restorable K R ≡ true
    forth h =
        let first = both (is_tree K R.nodes) (are_kept R && are_fitting R) h in
        let others = both (are_kept R) (are_fitting R) first.1 in
        let k = kept_parts R others.0 in
        both_true (is_valid K R) (none_rebuilding R.quotas) (valid_judged K R first.0 k (fitting_parts R others.1)) k.none

    back : is_restorable K R ≡ true → is_judged K R ≡ true
    back h =
        let parts = both (is_valid K R) (none_rebuilding R.quotas) h in
        let v = valid_by_test K R parts.0 in
        let own = kept_valid K R v parts.1 in
        let tree = (both (is_tree K R.nodes) (are_quotas R.nodes R.quotas && are_tables R) (both _ _ parts.0).0).0 in
        both_true (is_tree K R.nodes) (are_kept R && are_fitting R) tree
        (both_true (are_kept R) (are_fitting R) (kept_joined R own.0)
        (both_true (are_apart R.groups && (names_differ template_name R.templates && names_differ job_name R.jobs)) (nat_le (object_texts R) most_text_bytes)
        (both_true (are_apart R.groups) (names_differ template_name R.templates && names_differ job_name R.jobs) own.1.apart
        (both_true (names_differ template_name R.templates) (names_differ job_name R.jobs) own.1.differ own.1.jobs_differ)) own.1.texts))

-- a test that fails
pub no_tree : (K : Capacity) (R : Rows) → is_tree K R.nodes ≡ false → is_restorable K R ≡ false
no_tree K R h = sym (judged_is K R) ∙ ap (λ b. b && (are_kept R && are_fitting R)) h

pub not_kept : (K : Capacity) (R : Rows) → are_kept R ≡ false → is_restorable K R ≡ false
not_kept K R h = not_true (is_restorable K R) (λ t. clash (are_kept R) (both (are_kept R) (are_fitting R) (both (is_tree K R.nodes) (are_kept R && are_fitting R) (judged_is K R ∙ t)).1).0 h)

pub not_fitting : (K : Capacity) (R : Rows) → are_fitting R ≡ false → is_restorable K R ≡ false
not_fitting K R h = not_true (is_restorable K R) (λ t. clash (are_fitting R) (both (are_kept R) (are_fitting R) (both (is_tree K R.nodes) (are_kept R && are_fitting R) (judged_is K R ∙ t)).1).1 h)

-- ---- the parts
restored_rows : (K : Capacity) (R : Rows) → Kept R → rows_of (restored (record { size = K; nodes = R.nodes }) R) ≡ R
restored_rows K R k =
    ap (λ us. record (rows_of (restored (record { size = K; nodes = R.nodes }) R)) { unvisited = us }) (none_left R.nodes (idle_scans K).front refl ∙ sym (empty_is R.unvisited k.unvisited))
    ∙ ap (λ qs. record R { queue = qs }) (sym (empty_is R.queue k.queue))

pub restored_seen : (K : Capacity) (R : Rows) → Kept R → machine_of (restored (record { size = K; nodes = R.nodes }) R) ≡ record { size = K; rows = R; waiting = [] }
restored_seen K R k = ap (λ (Q : Rows). record { size = K; rows = Q; waiting = [] }) (restored_rows K R k)

pub restored_whole : (K : Capacity) (R : Rows) → is_capacity K ≡ true → IsVolume K R.nodes → is_valid K R ≡ true → Kept R → IsWhole (restored (record { size = K; nodes = R.nodes }) R)
restored_whole K R legal volume valid k =
    let v = valid_by_test K R valid in
    record {
      sound = record {
        counted = record { volume = volume; legal = legal; are_quotas = v.quotas; sums = refl; peaks = λ h. cc };
        scanning = record { volume = volume; fits = record { nodes = omega arith; cluster = refl }; folders = λ folder h. cc; active = refl; stands = λ h. cc; idle = λ h. refl };
      };
      valid = subst (IsValid K) (sym (restored_rows K R k)) v;
      there = refl;
      screens = refl;
      crossing = refl;
    }

-- ---- what was made
pub judged_good : (K : Capacity) (R : Rows) → is_tree K R.nodes ≡ true → are_kept R ≡ true → are_fitting R ≡ true → is_restorable K R ≡ true
judged_good K R tree kept fits =
    sym (judged_is K R) ∙ both_true (is_tree K R.nodes) (are_kept R && are_fitting R) tree (both_true (are_kept R) (are_fitting R) kept fits)

pub made_machine : (made : Result Parts RowsFault) (K : Capacity) (R : Rows) (tree : Volume) → tree ≡ record { size = K; nodes = R.nodes } → are_kept R ≡ true → IfOk made (λ parts. parts ≡ restored tree R) → IfOk made (λ parts. machine_of parts ≡ record { size = K; rows = R; waiting = [] })
made_machine (Ok parts) K R tree is kept same =
    ap machine_of (same ∙ ap (λ (v : Volume). restored v R) is) ∙ restored_seen K R (kept_parts R kept)
made_machine (Err fault) K R tree is kept same = tt

pub made_whole : (made : Result Parts RowsFault) (K : Capacity) (R : Rows) (tree : Volume) → tree ≡ record { size = K; nodes = R.nodes } → is_capacity K ≡ true → IsVolume tree.size tree.nodes → is_tree K R.nodes ≡ true → are_kept R ≡ true → OnOk made (are_fitting R ≡ true) → IfOk made (λ parts. parts ≡ restored tree R) → IfOk made IsWhole
made_whole (Ok parts) K R tree is legal volume nodes kept fits same =
    let k = kept_parts R kept in
    let own : IsVolume K R.nodes = subst (λ (v : Volume). IsVolume v.size v.nodes) is volume in
    subst IsWhole (sym (same ∙ ap (λ (v : Volume). restored v R) is)) (restored_whole K R legal own (valid_judged K R nodes k (fitting_parts R fits)) k)
made_whole (Err fault) K R tree is legal volume nodes kept fits same = tt

pub made_good : (made : Result Parts RowsFault) (K : Capacity) (R : Rows) → is_tree K R.nodes ≡ true → are_kept R ≡ true → OnOk made (are_fitting R ≡ true) → OnOk made (is_restorable K R ≡ true)
made_good (Ok parts) K R tree kept fits = judged_good K R tree kept fits
made_good (Err fault) K R tree kept fits = tt

pub numbered_templates : (R : Rows) → are_kept R ≡ true → are_numbered_templates R.templates ≡ true
numbered_templates R h =
    let k = kept_parts R h in
    both_true (is_ascending template_number R.templates && nat_le (length R.templates) most_templates) (list_all is_template R.templates) k.templates k.each_template

-- the texts of all objects are those of the tables
pub texts_same : (R : Rows) → object_texts R ≡ (quota_texts R.quotas + screen_texts R.screens + job_texts R.jobs) + group_texts R.groups + (sum_by template_bytes R.templates + sum_by auto_bytes R.autos)
texts_same R = omega arith

-- each table's are no longer than all
pub texts_fit : (R : Rows) → are_kept R ≡ true → are_fitting R ≡ true → (group_texts R.groups ≤ most_text_bytes) × (sum_by template_bytes R.templates ≤ most_text_bytes) × (sum_by auto_bytes R.autos ≤ most_text_bytes) × (quota_texts R.quotas ≤ most_text_bytes) × (screen_texts R.screens ≤ most_text_bytes) × (job_texts R.jobs ≤ most_text_bytes)
texts_fit R h fits =
    let all = le_is (object_texts R) most_text_bytes (fitting_parts R fits).texts in
    let same = texts_same R in
    (omega (arith, all, same), omega (arith, all, same), omega (arith, all, same), omega (arith, all, same), omega (arith, all, same), omega (arith, all, same))

pub long_texts : (R : Rows) → are_kept R ≡ true → nat_le ((quota_texts R.quotas + screen_texts R.screens + job_texts R.jobs) + group_texts R.groups + (sum_by template_bytes R.templates + sum_by auto_bytes R.autos)) most_text_bytes ≡ false → are_fitting R ≡ false
long_texts R h long = not_true (are_fitting R) (λ t. clash (nat_le (object_texts R) most_text_bytes) (fitting_parts R t).texts (ap (λ n. nat_le n most_text_bytes) (texts_same R) ∙ long))
