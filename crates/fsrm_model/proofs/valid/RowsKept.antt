-- Rows stay those of a store if their nodes, quotas and scans do: over what a command makes of them, and over its end.
use Rattle.std.proofs.Common.{◌≡◌, ℕ, zero, suc, ◌≤◌, ◌==◌, Bool, true, false, cond, ◌||◌, ◌&&◌, List, [], ◌∷◌, ◌++◌, length, refl, sym, ◌∙◌, ap, subst, arith, Some, None, Option, nat_le}
use Rattle.std.proofs.lemmas.List.Folds.{list_all-append}
use Rattle.std.specs.Prelude.{map, sum_by, nat_lt, if◌then◌else◌}
use Rattle.std.specs.List.{list_all}
use Rattle.std.specs.Option.{option_map_or}
use Rattle.fsrm_model.specs.declared.command.Act.{Act}
use Rattle.fsrm_model.specs.declared.row.AuditRow.{AuditRow}
use Rattle.fsrm_model.specs.declared.row.AutoRow.{AutoRow}
use Rattle.fsrm_model.specs.declared.row.Capacity.{Capacity}
use Rattle.fsrm_model.specs.declared.row.ExceptRow.{ExceptRow}
use Rattle.fsrm_model.specs.declared.row.GroupRow.{GroupRow}
use Rattle.fsrm_model.specs.declared.row.JobRow.{JobRow}
use Rattle.fsrm_model.specs.declared.row.NodeRow.{NodeRow}
use Rattle.fsrm_model.specs.declared.row.QuotaRow.{QuotaRow}
use Rattle.fsrm_model.specs.declared.row.Rows.{Rows}
use Rattle.fsrm_model.specs.declared.row.ScreenRow.{ScreenRow}
use Rattle.fsrm_model.specs.declared.row.TemplateRow.{TemplateRow}
use Rattle.fsrm_base.specs.Keyed.{has_row}
use Rattle.fsrm_model.specs.objects.Audits.{audit_of, with_audit, audited}
use Rattle.fsrm_model.specs.values.Limits.{latest_moment, most_entries, most_minutes, most_text_bytes}
use Rattle.fsrm_model.specs.values.Name.{is_name}
use Rattle.fsrm_base.specs.Numbers.{is_in}
use Rattle.fsrm_model.specs.objects.Quota.{folder_of, counts, peaked, peaks}
use Rattle.fsrm_model.specs.objects.QuotaStates.{head, same_head, scan_begun, followed}
use Rattle.fsrm_model.specs.objects.Runs.{run_quota, run_screen, last_entries, ran}
use Rattle.fsrm_model.specs.objects.Scan.{AreUnvisited, folders_under, visits}
use Rattle.fsrm_model.specs.objects.Screens.{screen_folder}
use Rattle.fsrm_model.specs.values.Texts.{action_bytes, quota_bytes, object_texts}
use Rattle.fsrm_model.specs.nodes.Tree.{is_folder, usage}
use Rattle.fsrm_model.specs.store.Valid.{is_moment, has_source, is_audit, are_audits, are_groups, are_jobs, are_screens, are_excepts, are_templates, are_autos, IsVolume, AreQuotas, AreTables, IsValid}
use Rattle.fsrm_model.specs.store.ValidScans.{IsQueue, AreLeft}
use Rattle.fsrm_model.specs.commands.Work.{Judged}
use Rattle.fsrm_base.proofs.Look.{has_found, found_key}
use Rattle.fsrm_model.proofs.valid.JobsKept.{jobs_stay}
use Rattle.fsrm_model.proofs.valid.QueueKept.{queue_peaked, queue_mapped}
use Rattle.fsrm_model.proofs.valid.QuotasKept.{quotas-peaked, quotas-ran}
use Rattle.fsrm_model.proofs.thresholds.KeptLaws.{sum_by-same, same_texts, bytes_run, screen_bytes_run, all_dropped, log_run}
use Rattle.fsrm_model.proofs.thresholds.RunLaws.{few_entries}
use Rattle.fsrm_model.proofs.valid.ScreensKept.{FoldersStay, all_map, screens_stay, excepts_stay, screens-ran, screen_at}
use Rattle.fsrm_model.proofs.valid.TemplatesKept.{autos_stay}
use Rattle.fsrm_base.proofs.TestLaws.{both, both_true, eq_is, eq_same, le_test}
use Rattle.fsrm_model.proofs.valid.UnvisitedKept.{unvisited_begun, unvisited_visits}

-- peaks that rise leave each quota its template
source_peaked : (K : Capacity) (nodes : List NodeRow) (m : ℕ) (templates : List TemplateRow) (quota : QuotaRow) → has_source templates quota ≡ true → has_source templates (peaked K nodes m quota) ≡ true
source_peaked K nodes m templates quota h = at (counts quota && nat_lt quota.peak (usage K nodes quota.folder))
  where
    at : (b : Bool) → has_source templates (cond b (record quota { peak = usage K nodes quota.folder; peak_at = m }) quota) ≡ true
    at true = h
    at false = h

-- other nodes that keep all folders, other quotas and scans, and another last moment
pub valid_with : (K : Capacity) (R : Rows) (nodes : List NodeRow) (quotas : List QuotaRow) (queue unvisited : List ℕ) (last : ℕ) → IsValid K R → IsVolume K nodes → FoldersStay R.nodes nodes → AreQuotas nodes quotas → list_all (has_source R.templates) quotas ≡ true → object_texts (record R { quotas = quotas }) ≤ most_text_bytes → IsQueue quotas queue → AreLeft nodes (head queue) unvisited → last ≤ latest_moment → IsValid K (record R { nodes = nodes; quotas = quotas; queue = queue; unvisited = unvisited; last_moment = last })
valid_with K R nodes quotas queue unvisited last s volume folders are sources few waits left late =
    let E : Rows = record R { nodes = nodes; quotas = quotas; queue = queue; unvisited = unvisited; last_moment = last } in
    let t : AreTables E = record {
      sources = sources;
      templates = s.tables.templates;
      autos = autos_stay R.nodes nodes R.templates R.templates R.autos folders (λ n h. h) s.tables.autos;
      jobs = jobs_stay R.nodes nodes R.jobs folders s.tables.jobs;
      groups = s.tables.groups;
      screens = screens_stay R.nodes nodes R.groups R.groups R.excepts R.screens folders (λ n h. h) s.tables.screens;
      excepts = excepts_stay R.nodes nodes R.groups R.groups R.excepts folders (λ n h. h) s.tables.excepts;
      audits = s.tables.audits;
    } in
    record {
      volume = volume;
      quotas = are;
      tables = t;
      texts = few;
      log = s.log;
      run_limit = s.run_limit;
      last_moment = late;
      queue = waits;
      unvisited = left;
    }

-- all folders, if the nodes stay
pub all_stay : (nodes : List NodeRow) → FoldersStay nodes nodes
all_stay nodes f is = is

-- what is left to visit, if the queue changes
pub same_heads : (was now : List ℕ) → same_head was now ≡ true → head was ≡ head now
same_heads [] [] h = refl
same_heads [] (n ∷ now) h = absurd (cc h)
same_heads (n ∷ was) [] h = absurd (cc h)
same_heads (n ∷ was) (k ∷ now) h = ap (λ i. Some i) (eq_is n k h)

pub left_followed : (K : Capacity) (nodes : List NodeRow) (was now left : List ℕ) → IsVolume K nodes → (same_head was now ≡ true → AreLeft nodes (head now) left) → AreLeft nodes (head now) (if same_head was now then left else scan_begun nodes now)
left_followed K nodes was now left v same = at (same_head was now) refl
  where
    begun : (o : Option ℕ) → AreLeft nodes o (option_map_or (folders_under nodes) o [])
    begun None = refl
    begun (Some n) = unvisited_begun K nodes n v

    at : (b : Bool) → same_head was now ≡ b → AreLeft nodes (head now) (cond b left (scan_begun nodes now))
    at true e = same e
    at false e = begun (head now)

-- and if the nodes do
pub left_after : (nodes new : List NodeRow) (o : Option ℕ) (left : List ℕ) (after : ℕ → List ℕ) → AreLeft nodes o left → ((n : ℕ) → o ≡ Some n → AreUnvisited nodes n left → AreUnvisited new n (after n)) → AreLeft new o (option_map_or after o [])
left_after nodes new None left after a h = refl
left_after nodes new (Some n) left after a h = h n refl a

none_visited : (k : ℕ) (nodes : List NodeRow) → visits k nodes [] ≡ []
none_visited zero nodes = refl
none_visited (suc k) nodes = none_visited k nodes

pub left_visits : (k : ℕ) (nodes : List NodeRow) (o : Option ℕ) (left : List ℕ) → AreLeft nodes o left → AreLeft nodes o (visits k nodes left)
left_visits k nodes None left a = ap (visits k nodes) a ∙ none_visited k nodes
left_visits k nodes (Some n) left a = unvisited_visits k nodes n left a

-- a command changes quotas and the queue
pub quotas_followed : (K : Capacity) (R : Rows) (quotas : List QuotaRow) (queue : List ℕ) → IsValid K R → AreQuotas R.nodes quotas → list_all (has_source R.templates) quotas ≡ true → object_texts (record R { quotas = quotas }) ≤ most_text_bytes → IsQueue quotas queue → IsValid K (followed R (record R { quotas = quotas; queue = queue }))
quotas_followed K R quotas queue s are sources few waits =
    valid_with K R R.nodes quotas queue (if same_head R.queue queue then R.unvisited else scan_begun R.nodes queue) R.last_moment s s.volume (all_stay R.nodes) are sources few waits
    (left_followed K R.nodes R.queue queue R.unvisited s.volume (λ same. subst (λ (o : Option ℕ). AreLeft R.nodes o R.unvisited) (same_heads R.queue queue same) s.unvisited))
    s.last_moment

-- or nothing
pub nothing_followed : (K : Capacity) (R : Rows) → IsValid K R → IsValid K (followed R R)
nothing_followed K R s = quotas_followed K R R.quotas R.queue s s.quotas s.tables.sources s.texts s.queue

-- peaks that are raised, and another last moment
peaked_bytes : (K : Capacity) (nodes : List NodeRow) (m : ℕ) (quota : QuotaRow) → quota_bytes (peaked K nodes m quota) ≡ quota_bytes quota
peaked_bytes K nodes m quota = at (counts quota && nat_lt quota.peak (usage K nodes quota.folder))
  where
    at : (b : Bool) → quota_bytes (cond b (record quota { peak = usage K nodes quota.folder; peak_at = m }) quota) ≡ quota_bytes quota
    at true = refl
    at false = refl

pub valid_peaked : (K : Capacity) (R : Rows) (moment : ℕ) → IsValid K R → moment ≤ latest_moment → IsValid K (record (peaks K R moment) { last_moment = moment })
valid_peaked K R moment s late =
    valid_with K R R.nodes (peaks K R moment).quotas R.queue R.unvisited moment s s.volume (all_stay R.nodes)
    (quotas-peaked K R.nodes R.quotas moment s.quotas (le_test moment latest_moment late))
    (all_map (has_source R.templates) (peaked K R.nodes moment) R.quotas (source_peaked K R.nodes moment R.templates) s.tables.sources)
    (same_texts R (peaks K R moment).quotas (sum_by-same quota_bytes (peaked K R.nodes moment) (peaked_bytes K R.nodes moment) R.quotas) s.texts)
    (queue_peaked K R.nodes moment R.quotas R.queue s.queue) s.unvisited late

-- actions that ran
ran_texts : (R : Rows) (moment : ℕ) (acts : List Act) → object_texts (ran moment acts R) ≡ object_texts R
ran_texts R moment acts =
    let quotas : sum_by quota_bytes (map (run_quota moment acts) R.quotas) ≡ sum_by quota_bytes R.quotas = sum_by-same quota_bytes (run_quota moment acts) (bytes_run moment acts) R.quotas in
    let own : ScreenRow → ℕ = λ screen. action_bytes screen.actions in
    let screens : sum_by own (map (run_screen moment acts) R.screens) ≡ sum_by own R.screens = sum_by-same own (run_screen moment acts) (screen_bytes_run moment acts) R.screens in
    omega (arith, quotas, screens)

pub valid_ran : (K : Capacity) (R : Rows) (moment : ℕ) (acts : List Act) → IsValid K R → moment ≤ latest_moment → IsValid K (ran moment acts R)
valid_ran K R moment acts s late =
    record {
      volume = s.volume;
      quotas = quotas-ran R.nodes R.quotas moment acts s.quotas late;
      tables = record {
        sources = all_map (has_source R.templates) (run_quota moment acts) R.quotas (λ q is. is) s.tables.sources;
        templates = s.tables.templates;
        autos = s.tables.autos;
        jobs = s.tables.jobs;
        groups = s.tables.groups;
        screens = screens-ran R.nodes R.groups R.excepts R.screens moment acts late s.tables.screens;
        excepts = s.tables.excepts;
        audits = s.tables.audits;
      };
      texts = subst (λ n. n ≤ most_text_bytes) (sym (ran_texts R moment acts)) s.texts;
      log = log_run moment acts R late s.log;
      run_limit = s.run_limit;
      last_moment = s.last_moment;
      queue = queue_mapped (run_quota moment acts) R.quotas R.queue (λ q. refl) (λ q. refl) s.queue;
      unvisited = s.unvisited;
    }

-- one more entry in the audit log
audits_more : (entry : AuditRow) (log : List AuditRow) → is_audit entry ≡ true → are_audits log ≡ true → are_audits (with_audit entry log) ≡ true
audits_more entry log is h =
    let whole = log ++ entry ∷ [] in
    let parts = both (nat_le (length log) most_entries) (list_all is_audit log) h in
    both_true (nat_le (length (last_entries whole)) most_entries) (list_all is_audit (last_entries whole)) (le_test _ _ (few_entries whole))
    (all_dropped is_audit _ whole (list_all-append is_audit log (entry ∷ []) ∙ both_true (list_all is_audit log) (is_audit entry && true) parts.1 (both_true (is_audit entry) true is refl)))

pub valid_audited : (K : Capacity) (R : Rows) (moment : ℕ) (j : Judged) → IsValid K R → moment ≤ latest_moment → is_name j.name ≡ true → IsValid K (audited moment j R)
valid_audited K R moment j s late named =
    record {
      volume = s.volume;
      quotas = s.quotas;
      tables = record {
        sources = s.tables.sources;
        templates = s.tables.templates;
        autos = s.tables.autos;
        jobs = s.tables.jobs;
        groups = s.tables.groups;
        screens = s.tables.screens;
        excepts = s.tables.excepts;
        audits = audits_more (audit_of moment j) R.audits (both_true (is_moment moment) (is_name j.name) (le_test moment latest_moment late) named) s.tables.audits;
      };
      texts = s.texts;
      log = s.log;
      run_limit = s.run_limit;
      last_moment = s.last_moment;
      queue = s.queue;
      unvisited = s.unvisited;
    }

-- the end of a command that lasts
pub valid_ended : (K : Capacity) (R : Rows) (moment : ℕ) (acts : List Act) → IsValid K R → moment ≤ latest_moment → IsValid K (record (ran moment acts (peaks K R moment)) { last_moment = moment })
valid_ended K R moment acts s late = valid_ran K (record (peaks K R moment) { last_moment = moment }) moment acts (valid_peaked K R moment s late) late

-- another run limit alone
pub run_limit_followed : (K : Capacity) (R : Rows) (minutes : ℕ) → IsValid K R → minutes ≤ most_minutes → IsValid K (followed R (record R { run_limit = minutes }))
run_limit_followed K R minutes s few =
    let v = nothing_followed K R s in
    record {
      volume = v.volume;
      quotas = v.quotas;
      tables = record {
        sources = v.tables.sources;
        templates = v.tables.templates;
        autos = v.tables.autos;
        jobs = v.tables.jobs;
        groups = v.tables.groups;
        screens = v.tables.screens;
        excepts = v.tables.excepts;
        audits = v.tables.audits;
      };
      texts = v.texts;
      log = v.log;
      run_limit = few;
      last_moment = v.last_moment;
      queue = v.queue;
      unvisited = v.unvisited;
    }

-- other groups, screens and exceptions alone
pub screens_followed : (K : Capacity) (R : Rows) (groups : List GroupRow) (screens : List ScreenRow) (excepts : List ExceptRow) → IsValid K R → are_groups groups ≡ true → are_screens R.nodes groups excepts screens ≡ true → are_excepts R.nodes groups excepts ≡ true → object_texts (record R { groups = groups; screens = screens; excepts = excepts }) ≤ most_text_bytes → IsValid K (followed R (record R { groups = groups; screens = screens; excepts = excepts }))
screens_followed K R groups screens excepts s are barred lifted few =
    let v = nothing_followed K R s in
    record {
      volume = v.volume;
      quotas = v.quotas;
      tables = record {
        sources = v.tables.sources;
        templates = v.tables.templates;
        autos = v.tables.autos;
        jobs = v.tables.jobs;
        groups = are;
        screens = barred;
        excepts = lifted;
        audits = v.tables.audits;
      };
      texts = few;
      log = v.log;
      run_limit = v.run_limit;
      last_moment = v.last_moment;
      queue = v.queue;
      unvisited = v.unvisited;
    }

-- other report jobs alone
pub jobs_followed : (K : Capacity) (R : Rows) (jobs : List JobRow) → IsValid K R → are_jobs R.nodes jobs ≡ true → object_texts (record R { jobs = jobs }) ≤ most_text_bytes → IsValid K (followed R (record R { jobs = jobs }))
jobs_followed K R jobs s are few =
    let v = nothing_followed K R s in
    record {
      volume = v.volume;
      quotas = v.quotas;
      tables = record {
        sources = v.tables.sources;
        templates = v.tables.templates;
        autos = v.tables.autos;
        jobs = are;
        groups = v.tables.groups;
        screens = v.tables.screens;
        excepts = v.tables.excepts;
        audits = v.tables.audits;
      };
      texts = few;
      log = v.log;
      run_limit = v.run_limit;
      last_moment = v.last_moment;
      queue = v.queue;
      unvisited = v.unvisited;
    }

-- other templates, auto-apply quotas, quotas and scans
pub templates_followed : (K : Capacity) (R : Rows) (templates : List TemplateRow) (autos : List AutoRow) (quotas : List QuotaRow) (queue : List ℕ) → IsValid K R → are_templates templates ≡ true → are_autos R.nodes templates autos ≡ true → AreQuotas R.nodes quotas → list_all (has_source templates) quotas ≡ true → object_texts (record R { templates = templates; autos = autos; quotas = quotas }) ≤ most_text_bytes → IsQueue quotas queue → IsValid K (followed R (record R { templates = templates; autos = autos; quotas = quotas; queue = queue }))
templates_followed K R templates autos quotas queue s named ruled are sources few waits =
    record {
      volume = s.volume;
      quotas = are;
      tables = record {
        sources = sources;
        templates = named;
        autos = ruled;
        jobs = s.tables.jobs;
        groups = s.tables.groups;
        screens = s.tables.screens;
        excepts = s.tables.excepts;
        audits = s.tables.audits;
      };
      texts = few;
      log = s.log;
      run_limit = s.run_limit;
      last_moment = s.last_moment;
      queue = waits;
      unvisited = left_followed K R.nodes R.queue queue R.unvisited s.volume (λ same. subst (λ (o : Option ℕ). AreLeft R.nodes o R.unvisited) (same_heads R.queue queue same) s.unvisited);
    }

-- the folder of a screen
pub screens_folder : (R : Rows) (folder : ℕ) → are_screens R.nodes R.groups R.excepts R.screens ≡ true → has_row screen_folder folder R.screens ≡ true → is_folder R.nodes folder ≡ true
screens_folder R folder h there =
    let found = has_found screen_folder folder R.screens there in
    ap (is_folder R.nodes) (sym (found_key screen_folder folder R.screens found.row found.is))
    ∙ (screen_at R.nodes R.groups R.excepts R.screens folder found.row h found.is).folder

-- the folder of the active scan
pub head_in : (queue : List ℕ) (n : ℕ) → head queue ≡ Some n → is_in queue n ≡ true
head_in [] n h = absurd (cc h)
head_in (k ∷ queue) n h = let is : k ≡ n = cc h in ap (λ b. b || is_in queue n) (ap (λ i. i == n) is ∙ eq_same n)

pub head_folder : (K : Capacity) (R : Rows) (n : ℕ) → IsValid K R → head R.queue ≡ Some n → is_folder R.nodes n ≡ true
head_folder K R n s h =
    let found = has_found folder_of n R.quotas (s.queue.queued n (head_in R.queue n h)) in
    s.quotas.folders n found.row found.is
