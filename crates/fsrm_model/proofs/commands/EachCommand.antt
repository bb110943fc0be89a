-- Each command's work is orderly, and the kind of its entry is its own. Here alone the laws over all commands go
-- through them, one by one.
use Rattle.std.proofs.Common.{◌≡◌, ℕ, ◌<◌, ◌≤◌, ◌⊎◌, inl, inr, true, List, Bool, false, refl, sym, ap, ◌∙◌, Some, None, Option, nat_lt, subst}
use Rattle.fsrm_model.specs.declared.command.AdminDeed.TheVariants.{Options as AdminOptions, List as AdminList, Log as AdminLog}
use Rattle.fsrm_model.specs.declared.command.AutoquotaDeed.TheVariants.{Add as AutoquotaAdd, Delete as AutoquotaDelete, List as AutoquotaList}
use Rattle.fsrm_model.specs.declared.command.Command.{Command}
use Rattle.fsrm_model.specs.declared.command.Deed.{Deed}
use Rattle.fsrm_model.specs.declared.command.Deed.TheVariants.{File, Usage, Step, Quota, Template, Autoquota, Filegroup, Screen, Exception, Reports, Admin}
use Rattle.fsrm_model.specs.declared.command.ExceptionDeed.TheVariants.{Add as ExceptionAdd, Delete as ExceptionDelete, List as ExceptionList}
use Rattle.fsrm_model.specs.declared.command.FileOp.{FileOp}
use Rattle.fsrm_model.specs.declared.command.FileOp.TheVariants.{Mkdir, Create, Resize, Touch, Move, Remove}
use Rattle.fsrm_model.specs.declared.command.FilegroupDeed.TheVariants.{Add as FilegroupAdd, Modify as FilegroupModify, Delete as FilegroupDelete, List as FilegroupList}
use Rattle.fsrm_model.specs.declared.command.Outcome.{Outcome}
use Rattle.fsrm_model.specs.declared.command.Outcome.TheVariants.{Refused}
use Rattle.fsrm_model.specs.declared.command.Refusal.{Refusal}
use Rattle.fsrm_model.specs.declared.command.Refusal.TheVariants.{ScreenBlocked, QuotaExceeded}
use Rattle.fsrm_model.specs.declared.command.Outcome.TheVariants.{Sum}
use Rattle.fsrm_model.specs.declared.command.QuotaDeed.TheVariants.{Add as QuotaAdd, Modify as QuotaModify, Delete as QuotaDelete, Scan as QuotaScan, Resetpeak as QuotaResetpeak, List as QuotaList}
use Rattle.fsrm_model.specs.declared.command.ReportsDeed.TheVariants.{Generate as ReportsGenerate, Add as ReportsAdd, Delete as ReportsDelete, Run as ReportsRun, List as ReportsList}
use Rattle.fsrm_model.specs.declared.command.ScreenDeed.TheVariants.{Add as ScreenAdd, Modify as ScreenModify, Delete as ScreenDelete, List as ScreenList}
use Rattle.fsrm_model.specs.declared.command.TemplateDeed.TheVariants.{Add as TemplateAdd, Modify as TemplateModify, Delete as TemplateDelete, List as TemplateList}
use Rattle.std.specs.Prelude.{◌&&◌, ◌==◌, [], ◌∷◌, find, is_some, sum_by, if◌then◌else◌}
use Rattle.std.specs.Option.{option_map_or}
use Rattle.std.proofs.lemmas.Option.{same_Some}
use Rattle.fsrm_model.specs.declared.row.Capacity.{Capacity}
use Rattle.fsrm_model.specs.declared.row.NodeRow.{NodeRow}
use Rattle.fsrm_model.specs.declared.row.QuotaRow.{QuotaRow}
use Rattle.fsrm_model.specs.declared.row.Rows.{Rows}
use Rattle.fsrm_model.specs.commands.Commands.{emptied, empty_autoquota, empty_exception, empty_filegroup, empty_filegroup_change, empty_job, empty_quota, empty_quota_change, empty_screen, empty_screen_change, empty_template, empty_template_change, kind}
use Rattle.fsrm_model.specs.meaning.Exceeds.{Exceeds}
use Rattle.fsrm_model.specs.meaning.Exceptions.{may_leave}
use Rattle.fsrm_model.specs.nodes.FileOps.{plain}
use Rattle.fsrm_model.specs.store.Lasting.{lasting}
use Rattle.fsrm_model.specs.meaning.Named.{IsNamed}
use Rattle.fsrm_model.specs.values.Limits.{latest_moment}
use Rattle.fsrm_model.specs.objects.Quota.{quota_of, counts}
use Rattle.fsrm_model.specs.values.Space.{space}
use Rattle.fsrm_model.specs.commands.Step.{decided, lasted, screened, step, unlasting, work}
use Rattle.fsrm_model.specs.nodes.Tree.{usage, under}
use Rattle.fsrm_model.specs.store.Valid.{is_moment, IsValid}
use Rattle.fsrm_model.specs.store.Valued.{is_deed, is_short, is_command}
use Rattle.fsrm_model.specs.commands.Work.{Work, Judged}
use Rattle.fsrm_model.specs.commands.FileWork.{judged_name}
use Rattle.fsrm_model.proofs.commands.AdminCommands.{options_still, options_kept, settings_still, log_still, log_alike, options_alike, settings_alike}
use Rattle.fsrm_model.proofs.commands.AutoCommands.{auto_add_still, auto_delete_still, auto_list_still, auto_add_kept, auto_delete_kept, auto_list_kept, auto_add_alike, auto_delete_alike, auto_list_alike}
use Rattle.fsrm_model.proofs.commands.Ends.{effect_nodes, outcome_kept}
use Rattle.fsrm_model.proofs.commands.FileCommands.{file_orderly, file_limits, file_names, usage_still, file_kept, file_alike, usage_alike}
use Rattle.fsrm_model.proofs.commands.GroupCommands.{group_add_still, group_modify_still, group_delete_still, group_list_still, group_add_kept, group_modify_kept, group_delete_kept, group_list_kept, group_add_alike, group_delete_alike, group_list_alike, group_modify_alike}
use Rattle.fsrm_model.proofs.commands.ScreenCommands.{screen_add_still, screen_modify_still, screen_delete_still, screen_list_still, screen_add_kept, screen_modify_kept, screen_delete_kept, screen_list_kept, except_add_still, except_delete_still, except_list_still, except_add_kept, except_delete_kept, except_list_kept, except_add_alike, except_delete_alike, except_list_alike, screen_add_alike, screen_delete_alike, screen_list_alike, screen_modify_alike}
use Rattle.fsrm_model.proofs.commands.Orderly.{IsAnswer, IsFiltered, IsOrderly, IsStill, KeepsLimits, KeepsValid, NamesJudged, still_limits, unjudged_named}
use Rattle.fsrm_model.proofs.commands.OrderlyLaws.{LeavesRuns, verdict, refused_kept, same_or_left, refused_by, sum_afresh, refusal_exceeds, refusal_blocks, still_unexceeded, limits_hold, outcome_named, unlasting_kept, valid_kept, refused_outcome}
use Rattle.fsrm_model.proofs.commands.ReportCommands.{report_still, job_add_still, job_delete_still, job_run_still, job_list_still, job_run_filtered, job_add_kept, job_delete_kept, job_run_kept, job_list_kept, report_alike, job_add_alike, job_delete_alike, job_run_alike, job_list_alike}
use Rattle.fsrm_model.proofs.commands.QuotaCommands.{add_kept, modify_kept, delete_kept, reset_kept, list_kept, add_still, modify_still, delete_still, reset_still, list_still, add_alike, delete_alike, list_alike, modify_alike, reset_alike, list_lasts}
use Rattle.fsrm_model.proofs.commands.StepActs.{AreActs, decided_acts}
use Rattle.fsrm_model.proofs.commands.TemplateCommands.{template_add_still, template_modify_still, template_delete_still, template_list_still, template_add_kept, template_modify_kept, template_delete_kept, template_list_kept, template_add_alike, template_delete_alike, template_list_alike, template_modify_alike}
use Rattle.fsrm_model.proofs.valid.RowsKept.{nothing_followed}
use Rattle.fsrm_model.proofs.commands.ScanCommands.{scan_kept, step_kept, scan_still, step_still, scan_alike, step_lasts}
use Rattle.fsrm_base.proofs.TestLaws.{both, le_is}
use Rattle.fsrm_model.specs.objects.QuotaStates.{followed}
use Rattle.fsrm_model.specs.commands.Check.{first}
use Rattle.fsrm_model.specs.reports.Filters.{is_filter}
use Rattle.fsrm_model.specs.store.Replays.{is_scan_step, accepted_lasts, lasts_by, lasts}
use Rattle.fsrm_model.proofs.journal.Alike.{WorksAlike}
use Rattle.fsrm_model.proofs.journal.AlikeSteps.{StepsAlike, step_alike}

-- the nodes that a file operation makes
record IsFileWork (R : Rows) (moment : ℕ) (deed : Deed) (nodes : List NodeRow) : Type 0 where
  op : FileOp
  is : deed ≡ File op
  made : nodes ≡ plain R.nodes op moment

-- the file operation that gives a file a name
record IsNameWork (R : Rows) (deed : Deed) (judged : Option Judged) : Type 0 where
  op : FileOp
  is : deed ≡ File op
  made : judged ≡ judged_name R op

-- a command does the same to rows and to what is kept of them. A step of a scan doesn't: there is none to go on with
abbrev IsAlike : Capacity → Rows → ℕ → Deed → Work → Type 0
IsAlike K R moment deed w = is_scan_step deed ≡ false → WorksAlike w (work K (lasting R) moment deed)

-- a work is orderly and keeps limits, only a file operation makes other nodes and gives a file a name, and of a command whose
-- values are in their ranges it leaves the rows of a store, and what a screen judges is a name
record IsCertified (K : Capacity) (R : Rows) (moment : ℕ) (deed : Deed) (w : Work) : Type 0 where
  orderly : IsOrderly K R w
  limits : KeepsLimits K R w
  nodes : (w.effect.nodes ≡ R.nodes) ⊎ IsFileWork R moment deed w.effect.nodes
  judges : (w.judged ≡ None) ⊎ IsNameWork R deed w.judged
  names : is_deed deed ≡ true → NamesJudged K R w
  kept : moment ≤ latest_moment → is_deed deed ≡ true → KeepsValid K R w
  alike : IsAlike K R moment deed w
  lasts : w.lasts ≡ accepted_lasts R deed w.outcome

still : {K : Capacity} {R : Rows} {moment : ℕ} {deed : Deed} {w : Work} → IsStill K R w → (moment ≤ latest_moment → is_deed deed ≡ true → KeepsValid K R w) → IsAlike K R moment deed w → w.lasts ≡ accepted_lasts R deed w.outcome → IsCertified K R moment deed w
still {K} {R} {moment} {deed} {w} s kept alike lasts = record { orderly = s.orderly; limits = still_limits K R w s.same; nodes = inl s.same; judges = inl s.unjudged; names = λ legal. unjudged_named K R w s.unjudged; kept = kept; alike = alike; lasts = lasts }

certified : (K : Capacity) (R : Rows) (moment : ℕ) (deed : Deed) → IsCertified K R moment deed (work K R moment deed)
certified K R moment (File op) =
    record {
      orderly = file_orderly K R op moment;
      limits = file_limits K R op moment;
      nodes = inr (record { op = op; is = refl; made = effect_nodes R op moment });
      judges = inr (record { op = op; is = refl; made = refl });
      names = file_names K R op moment;
      kept = λ late legal. file_kept K R op moment legal late;
      alike = λ other. file_alike K R op moment;
      lasts = refl;
    }
certified K R moment (Usage path) = still (usage_still K R path) (λ late legal store h. nothing_followed K R store) (λ other. usage_alike K R path) refl
certified K R moment (Step n) = still (step_still K R n) (λ late legal. step_kept K R n) (λ other. absurd (cc other)) (step_lasts K R n)
certified K R moment (Quota (QuotaAdd new)) = still (add_still K R moment new) (λ late legal. add_kept K R moment new (both _ _ legal).1 late) (λ other. add_alike R moment new) refl
certified K R moment (Quota (QuotaModify change)) = still (modify_still K R change) (λ late legal. modify_kept K R change (both _ _ legal).1) (λ other. modify_alike R change) refl
certified K R moment (Quota (QuotaDelete path)) = still (delete_still K R path) (λ late legal. delete_kept K R path) (λ other. delete_alike R path) refl
certified K R moment (Quota (QuotaScan path)) = still (scan_still K R path) (λ late legal. scan_kept K R path) (λ other. scan_alike R path) refl
certified K R moment (Quota (QuotaResetpeak path)) = still (reset_still K R moment path) (λ late legal. reset_kept K R moment path late) (λ other. reset_alike K R moment path) refl
certified K R moment (Quota (QuotaList path)) = still (list_still K R path) (λ late legal. list_kept K R path) (λ other. list_alike R path) (list_lasts R path)
certified K R moment (Template (TemplateAdd new)) = still (template_add_still K R new) (λ late legal. template_add_kept K R new legal) (λ other. template_add_alike R new) refl
certified K R moment (Template (TemplateModify change)) = still (template_modify_still K R change) (λ late legal. template_modify_kept K R change legal) (λ other. template_modify_alike R change) refl
certified K R moment (Template (TemplateDelete name)) = still (template_delete_still K R name) (λ late legal. template_delete_kept K R name) (λ other. template_delete_alike R name) refl
certified K R moment (Template TemplateList) = still (template_list_still K R) (λ late legal. template_list_kept K R) (λ other. template_list_alike R) refl
certified K R moment (Autoquota (AutoquotaAdd new)) = still (auto_add_still K R moment new) (λ late legal. auto_add_kept K R moment new (both _ _ legal).1 late) (λ other. auto_add_alike R moment new) refl
certified K R moment (Autoquota (AutoquotaDelete path)) = still (auto_delete_still K R path) (λ late legal. auto_delete_kept K R path) (λ other. auto_delete_alike R path) refl
certified K R moment (Autoquota AutoquotaList) = still (auto_list_still K R) (λ late legal. auto_list_kept K R) (λ other. auto_list_alike R) refl
certified K R moment (Admin (AdminOptions minutes)) = still (options_still K R minutes) (λ late legal. options_kept K R minutes legal) (λ other. options_alike R minutes) refl
certified K R moment (Admin AdminList) = still (settings_still K R) (λ late legal store h. nothing_followed K R store) (λ other. settings_alike R) refl
certified K R moment (Admin AdminLog) = still (log_still K R) (λ late legal store h. nothing_followed K R store) (λ other. log_alike R) refl
certified K R moment (Filegroup (FilegroupAdd new)) = still (group_add_still K R new) (λ late legal. group_add_kept K R new legal) (λ other. group_add_alike R new) refl
certified K R moment (Filegroup (FilegroupModify change)) = still (group_modify_still K R change) (λ late legal. group_modify_kept K R change legal) (λ other. group_modify_alike R change) refl
certified K R moment (Filegroup (FilegroupDelete name)) = still (group_delete_still K R name) (λ late legal. group_delete_kept K R name) (λ other. group_delete_alike R name) refl
certified K R moment (Filegroup FilegroupList) = still (group_list_still K R) (λ late legal. group_list_kept K R) (λ other. group_list_alike R) refl
certified K R moment (Screen (ScreenAdd new)) = still (screen_add_still K R new) (λ late legal. screen_add_kept K R new (both _ _ legal).1) (λ other. screen_add_alike R new) refl
certified K R moment (Screen (ScreenModify change)) = still (screen_modify_still K R change) (λ late legal. screen_modify_kept K R change) (λ other. screen_modify_alike R change) refl
certified K R moment (Screen (ScreenDelete path)) = still (screen_delete_still K R path) (λ late legal. screen_delete_kept K R path) (λ other. screen_delete_alike R path) refl
certified K R moment (Screen ScreenList) = still (screen_list_still K R) (λ late legal. screen_list_kept K R) (λ other. screen_list_alike R) refl
certified K R moment (Exception (ExceptionAdd new)) = still (except_add_still K R new) (λ late legal. except_add_kept K R new (both _ _ legal).1) (λ other. except_add_alike R new) refl
certified K R moment (Exception (ExceptionDelete path)) = still (except_delete_still K R path) (λ late legal. except_delete_kept K R path) (λ other. except_delete_alike R path) refl
certified K R moment (Exception ExceptionList) = still (except_list_still K R) (λ late legal. except_list_kept K R) (λ other. except_list_alike R) refl
certified K R moment (Reports (ReportsGenerate new)) = still (report_still K R new) (λ late legal store h. nothing_followed K R store) (λ other. report_alike R new) refl
certified K R moment (Reports (ReportsAdd new)) = still (job_add_still K R moment new) (λ late legal. job_add_kept K R moment new (both _ _ legal).1 late) (λ other. job_add_alike R moment new) refl
certified K R moment (Reports (ReportsDelete name)) = still (job_delete_still K R name) (λ late legal. job_delete_kept K R name) (λ other. job_delete_alike R name) refl
certified K R moment (Reports (ReportsRun name)) = still (job_run_still K R moment name) (λ late legal. job_run_kept K R moment name late) (λ other. job_run_alike R moment name) refl
certified K R moment (Reports ReportsList) = still (job_list_still K R) (λ late legal. job_list_kept K R) (λ other. job_list_alike R) refl

pub orderly : (K : Capacity) (R : Rows) (moment : ℕ) (deed : Deed) → IsOrderly K R (work K R moment deed)
orderly K R moment deed = (certified K R moment deed).orderly

-- a refusal changes nothing, but for what it leaves all the same
pub refused_leaves : (K : Capacity) (R : Rows) (c : Command) (refusal : Refusal) → (step K R c).outcome ≡ Refused refusal → LeavesRuns K R c.moment (work K R c.moment c.deed) refusal (step K R c)
refused_leaves K R c refusal h =
    let w = work K R c.moment c.deed in
    refused_kept K R c.moment w (orderly K R c.moment c.deed) (verdict (nat_lt c.moment R.last_moment) w) refusal h

pub refused_or_exception : (K : Capacity) (R : Rows) (c : Command) (refusal : Refusal) → (step K R c).outcome ≡ Refused refusal → ((step K R c).rows ≡ R) ⊎ (may_leave K R c.moment (work K R c.moment c.deed) refusal ≡ true)
refused_or_exception K R c refusal h =
    same_or_left K R (step K R c).rows c.moment (work K R c.moment c.deed) refusal (refused_leaves K R c refusal h).rows_are

pub sum_fresh : (K : Capacity) (R : Rows) (c : Command) (folder bytes : ℕ) → (step K R c).outcome ≡ Sum folder bytes → bytes ≡ sum_by (space K) (under R.nodes folder)
sum_fresh K R c folder bytes h =
    let w = work K R c.moment c.deed in
    sum_afresh K R c.moment w (orderly K R c.moment c.deed) (verdict (nat_lt c.moment R.last_moment) w) folder bytes h

-- the file operation that a quota refuses
abbrev RefusedOp : Capacity → Rows → ℕ → Deed → ℕ → ℕ → ℕ → Type 0
RefusedOp K R moment deed folder would limit = (op : FileOp) × (deed ≡ File op) × Exceeds K R (plain R.nodes op moment) folder would limit

pub quota_refuses : (K : Capacity) (R : Rows) (c : Command) (folder would limit : ℕ) → IsValid K R → (step K R c).outcome ≡ Refused (QuotaExceeded folder would limit) → RefusedOp K R c.moment c.deed folder would limit
quota_refuses K R c folder would limit store h =
    let w = work K R c.moment c.deed in
    let late = nat_lt c.moment R.last_moment in
    let sure = certified K R c.moment c.deed in
    let by = refused_by K R c.moment w sure.orderly (verdict late w) (QuotaExceeded folder would limit) h in
    let over = refusal_exceeds K R late w sure.orderly store folder would limit by in
    elim sure.nodes [
      | inl same ↦ absurd (still_unexceeded K R w.effect.nodes folder would limit same over)
      | inr file ↦ (file.op, file.is, subst (λ (nodes : List NodeRow). Exceeds K R nodes folder would limit) file.made over)
    ]

-- the file operation whose name a screen blocks
abbrev BlockedOp : Rows → Deed → ℕ → Type 0
BlockedOp R deed folder =
    (op : FileOp) × (judged : Judged) × (deed ≡ File op) × (judged_name R op ≡ Some judged) × (judged.screen.active ≡ true) × (judged.screen.folder ≡ folder)

pub screen_refuses : (K : Capacity) (R : Rows) (c : Command) (folder : ℕ) → (step K R c).outcome ≡ Refused (ScreenBlocked folder) → BlockedOp R c.deed folder
screen_refuses K R c folder h =
    let w = work K R c.moment c.deed in
    let late = nat_lt c.moment R.last_moment in
    let sure = certified K R c.moment c.deed in
    let by = refused_by K R c.moment w sure.orderly (verdict late w) (ScreenBlocked folder) h in
    let blocked = refusal_blocks K R late w sure.orderly folder by in
    elim sure.judges [
      | inl none ↦ let never : Some blocked.by ≡ None = sym blocked.is ∙ none in absurd (cc never)
      | inr file ↦ (file.op, blocked.by, file.is, sym file.made ∙ blocked.is, blocked.active, blocked.folder)
    ]

pub limits_kept : (K : Capacity) (R : Rows) (c : Command) (folder : ℕ) (quota : QuotaRow) → IsValid K R → quota_of R folder ≡ Some quota → counts quota ≡ true → quota.enforce ≡ true → usage K R.nodes folder < usage K (step K R c).rows.nodes folder → usage K (step K R c).rows.nodes folder ≤ quota.limit
limits_kept K R c folder quota store there counting enforced rises =
    let w = work K R c.moment c.deed in
    let late = nat_lt c.moment R.last_moment in
    limits_hold K R c.moment late w (certified K R c.moment c.deed).limits store (verdict late w) refl folder quota (record { there = there; counting = counting; enforced = enforced; rises = rises })

-- the filter of a report that is made once has values in their ranges. Other commands give their reports none of their own
abbrev pub IsLegalReport : Deed → Type 0
IsLegalReport (Reports (ReportsGenerate new)) = is_filter new.filter ≡ true
IsLegalReport other = Unit {0}

pub legal_report : (deed : Deed) → is_deed deed ≡ true → IsLegalReport deed
legal_report (Reports (ReportsGenerate new)) legal = (both _ _ legal).1
legal_report (Reports ReportsList) legal = tt
legal_report other legal = tt

-- then so has the filter of each report that a command makes
filtered : (K : Capacity) (R : Rows) (moment : ℕ) (deed : Deed) → IsValid K R → IsLegalReport deed → first (work K R moment deed).checks ≡ None → IsFiltered (work K R moment deed).outcome
filtered K R moment (Reports (ReportsGenerate new)) store legal h = legal
filtered K R moment (Reports (ReportsRun name)) store legal h = job_run_filtered K R moment name store h
filtered K R moment (Reports ReportsList) store legal h = tt
filtered K R moment (Quota (QuotaList None)) store legal h = tt
filtered K R moment (Quota (QuotaList (Some path))) store legal h = tt
filtered K R moment (Template TemplateList) store legal h = tt
filtered K R moment (Autoquota AutoquotaList) store legal h = tt
filtered K R moment (Filegroup FilegroupList) store legal h = tt
filtered K R moment (Screen ScreenList) store legal h = tt
filtered K R moment (Exception ExceptionList) store legal h = tt
filtered K R moment (Admin AdminList) store legal h = tt
filtered K R moment other store legal h = tt

-- an outcome names what is there
pub named : (K : Capacity) (R : Rows) (c : Command) → IsValid K R → IsLegalReport c.deed → IsNamed (step K R c).rows (step K R c).outcome
named K R c store legal =
    let w = work K R c.moment c.deed in
    let late = nat_lt c.moment R.last_moment in
    outcome_named K R c.moment late w (orderly K R c.moment c.deed) store (filtered K R c.moment c.deed store legal) (verdict late w) refl

-- a command that doesn't last leaves what a store keeps
pub lasting_kept : (K : Capacity) (R : Rows) (c : Command) → IsValid K R → (step K R c).lasting ≡ false → lasting (step K R c).rows ≡ lasting R
lasting_kept K R c store h =
    let w = work K R c.moment c.deed in
    let late = nat_lt c.moment R.last_moment in
    unlasting_kept K R c.moment late w (orderly K R c.moment c.deed) store (verdict late w) refl h

-- a command leaves valid rows if its work does, and what a screen judges is a name
pub kept_valid : (K : Capacity) (R : Rows) (moment : ℕ) (deed : Deed) → IsValid K R → moment ≤ latest_moment → NamesJudged K R (work K R moment deed) → KeepsValid K R (work K R moment deed) → IsValid K (step K R (record { moment = moment; deed = deed })).rows
kept_valid K R moment deed store legal names kept =
    let w = work K R moment deed in
    let late = nat_lt moment R.last_moment in
    valid_kept K R moment late w kept names store legal (verdict late w) refl

-- and if its values are in their ranges
pub deed_valid : (K : Capacity) (R : Rows) (moment : ℕ) (deed : Deed) → IsValid K R → moment ≤ latest_moment → is_deed deed ≡ true → IsValid K (step K R (record { moment = moment; deed = deed })).rows
deed_valid K R moment deed store late legal =
    let sure = certified K R moment deed in
    kept_valid K R moment deed store late (sure.names legal) (sure.kept late legal)

pub step_valid : (K : Capacity) (R : Rows) (c : Command) → IsValid K R → is_command c ≡ true → IsValid K (step K R c).rows
step_valid K R c store legal =
    let values : (is_moment c.moment ≡ true) × ((is_deed c.deed && is_short c.deed) ≡ true) = both _ _ legal in
    let deed : (is_deed c.deed ≡ true) × (is_short c.deed ≡ true) = both _ _ values.1 in
    deed_valid K R c.moment c.deed store (le_is c.moment latest_moment values.0) deed.0

-- its acts stand in order, and name actions that are there
pub kept_acts : (K : Capacity) (R : Rows) (moment : ℕ) (deed : Deed) → IsValid K R → moment ≤ latest_moment → NamesJudged K R (work K R moment deed) → KeepsValid K R (work K R moment deed) → AreActs (step K R (record { moment = moment; deed = deed }))
kept_acts K R moment deed store legal names kept =
    let w = work K R moment deed in
    let late = nat_lt moment R.last_moment in
    decided_acts K R moment late w (orderly K R moment deed) kept names store legal (verdict late w) refl

pub deed_acts : (K : Capacity) (R : Rows) (moment : ℕ) (deed : Deed) → IsValid K R → moment ≤ latest_moment → is_deed deed ≡ true → AreActs (step K R (record { moment = moment; deed = deed }))
deed_acts K R moment deed store late legal =
    let sure = certified K R moment deed in
    kept_acts K R moment deed store late (sure.names legal) (sure.kept late legal)

pub step_acts : (K : Capacity) (R : Rows) (c : Command) → IsValid K R → is_command c ≡ true → AreActs (step K R c)
step_acts K R c store legal =
    let values : (is_moment c.moment ≡ true) × ((is_deed c.deed && is_short c.deed) ≡ true) = both _ _ legal in
    let deed : (is_deed c.deed ≡ true) × (is_short c.deed ≡ true) = both _ _ values.1 in
    deed_acts K R c.moment c.deed store (le_is c.moment latest_moment values.0) deed.0

-- the commands whose entries have a kind, without their values
abbrev kinds : List Deed
kinds =
    File (Mkdir [] 0) ∷ File (Create [] 0 0) ∷ File (Resize [] 0) ∷ File (Touch []) ∷ File (Move [] []) ∷ File (Remove [])
    ∷ Quota (QuotaAdd empty_quota) ∷ Quota (QuotaModify empty_quota_change) ∷ Quota (QuotaDelete [])
    ∷ Quota (QuotaScan []) ∷ Quota (QuotaResetpeak [])
    ∷ Template (TemplateAdd empty_template) ∷ Template (TemplateModify empty_template_change) ∷ Template (TemplateDelete [])
    ∷ Autoquota (AutoquotaAdd empty_autoquota) ∷ Autoquota (AutoquotaDelete [])
    ∷ Admin (AdminOptions 0)
    ∷ Filegroup (FilegroupAdd empty_filegroup) ∷ Filegroup (FilegroupModify empty_filegroup_change) ∷ Filegroup (FilegroupDelete [])
    ∷ Screen (ScreenAdd empty_screen) ∷ Screen (ScreenModify empty_screen_change) ∷ Screen (ScreenDelete [])
    ∷ Exception (ExceptionAdd empty_exception) ∷ Exception (ExceptionDelete [])
    ∷ Reports (ReportsAdd empty_job) ∷ Reports (ReportsDelete []) ∷ Reports (ReportsRun []) ∷ []

-- the first of them that has this kind
abbrev of_kind : ℕ → Option Deed
of_kind k = find (λ deed. option_map_or (λ own. own == k) (kind deed) false) kinds

of_kind_is : (deed : Deed) (k : ℕ) → kind deed ≡ Some k → of_kind k ≡ Some (emptied deed)
of_kind_is (File (Mkdir path owner)) k h = ap of_kind (sym (same_Some _ _ h))
of_kind_is (File (Create path length owner)) k h = ap of_kind (sym (same_Some _ _ h))
of_kind_is (File (Resize path length)) k h = ap of_kind (sym (same_Some _ _ h))
of_kind_is (File (Touch path)) k h = ap of_kind (sym (same_Some _ _ h))
of_kind_is (File (Move from to)) k h = ap of_kind (sym (same_Some _ _ h))
of_kind_is (File (Remove path)) k h = ap of_kind (sym (same_Some _ _ h))
of_kind_is (Usage path) k h = absurd (cc h)
of_kind_is (Step n) k h = absurd (cc h)
of_kind_is (Quota (QuotaAdd new)) k h = ap of_kind (sym (same_Some _ _ h))
of_kind_is (Quota (QuotaModify change)) k h = ap of_kind (sym (same_Some _ _ h))
of_kind_is (Quota (QuotaDelete path)) k h = ap of_kind (sym (same_Some _ _ h))
of_kind_is (Quota (QuotaScan path)) k h = ap of_kind (sym (same_Some _ _ h))
of_kind_is (Quota (QuotaResetpeak path)) k h = ap of_kind (sym (same_Some _ _ h))
of_kind_is (Quota (QuotaList path)) k h = absurd (cc h)
of_kind_is (Template (TemplateAdd new)) k h = ap of_kind (sym (same_Some _ _ h))
of_kind_is (Template (TemplateModify change)) k h = ap of_kind (sym (same_Some _ _ h))
of_kind_is (Template (TemplateDelete name)) k h = ap of_kind (sym (same_Some _ _ h))
of_kind_is (Template TemplateList) k h = absurd (cc h)
of_kind_is (Autoquota (AutoquotaAdd new)) k h = ap of_kind (sym (same_Some _ _ h))
of_kind_is (Autoquota (AutoquotaDelete path)) k h = ap of_kind (sym (same_Some _ _ h))
of_kind_is (Autoquota AutoquotaList) k h = absurd (cc h)
of_kind_is (Admin (AdminOptions minutes)) k h = ap of_kind (sym (same_Some _ _ h))
of_kind_is (Admin AdminList) k h = absurd (cc h)
of_kind_is (Admin AdminLog) k h = absurd (cc h)
of_kind_is (Filegroup (FilegroupAdd new)) k h = ap of_kind (sym (same_Some _ _ h))
of_kind_is (Filegroup (FilegroupModify change)) k h = ap of_kind (sym (same_Some _ _ h))
of_kind_is (Filegroup (FilegroupDelete name)) k h = ap of_kind (sym (same_Some _ _ h))
of_kind_is (Filegroup FilegroupList) k h = absurd (cc h)
of_kind_is (Screen (ScreenAdd new)) k h = ap of_kind (sym (same_Some _ _ h))
of_kind_is (Screen (ScreenModify change)) k h = ap of_kind (sym (same_Some _ _ h))
of_kind_is (Screen (ScreenDelete path)) k h = ap of_kind (sym (same_Some _ _ h))
of_kind_is (Screen ScreenList) k h = absurd (cc h)
of_kind_is (Exception (ExceptionAdd new)) k h = ap of_kind (sym (same_Some _ _ h))
of_kind_is (Exception (ExceptionDelete path)) k h = ap of_kind (sym (same_Some _ _ h))
of_kind_is (Exception ExceptionList) k h = absurd (cc h)
of_kind_is (Reports (ReportsGenerate new)) k h = absurd (cc h)
of_kind_is (Reports (ReportsAdd new)) k h = ap of_kind (sym (same_Some _ _ h))
of_kind_is (Reports (ReportsDelete name)) k h = ap of_kind (sym (same_Some _ _ h))
of_kind_is (Reports (ReportsRun name)) k h = ap of_kind (sym (same_Some _ _ h))
of_kind_is (Reports ReportsList) k h = absurd (cc h)

-- so the kind tells the command
pub same_kind : (one other : Deed) (k : ℕ) → kind one ≡ Some k → kind other ≡ Some k → emptied one ≡ emptied other
same_kind one other k h g = same_Some _ _ (sym (of_kind_is one k h) ∙ of_kind_is other k g)

-- a command that isn't a step of a scan leaves rows of which the same is kept, whether it is done to rows or to what is kept of
-- them, and it answers, lasts and has actions run in the same way
pub kept_alike : (K : Capacity) (R : Rows) (c : Command) → is_scan_step c.deed ≡ false → StepsAlike (step K R c) (step K (lasting R) c)
kept_alike K R c other = step_alike K R c ((certified K R c.moment c.deed).alike other)

-- ---- which commands last
-- a command that no check refuses
unrefused_lasts : (K : Capacity) (R : Rows) (moment : ℕ) (w : Work) → (decided K R moment w None).lasting ≡ w.lasts
unrefused_lasts K R moment w = at w.lasts
  where
    at : (b : Bool) → (if b then lasted K R (screened (followed R w.effect) moment w.judged) moment w.outcome else unlasting (followed R w.effect) w.outcome).lasting ≡ b
    at true = refl
    at false = refl

answer_lasts : (K : Capacity) (R : Rows) (c : Command) (outcome : Outcome) → IsAnswer K R outcome → lasts_by K R c outcome ≡ accepted_lasts R c.deed outcome
answer_lasts K R c (Refused refusal) h = absurd h
answer_lasts K R c other h = refl

-- and one that a check refuses
refusal_lasts : (K : Capacity) (R : Rows) (c : Command) (refusal : Refusal) → verdict (nat_lt c.moment R.last_moment) (work K R c.moment c.deed) ≡ Some refusal → may_leave K R c.moment (work K R c.moment c.deed) refusal ≡ lasts_by K R c (Refused refusal)
refusal_lasts K R c (ScreenBlocked screen) h =
    ap is_some (refusal_blocks K R (nat_lt c.moment R.last_moment) (work K R c.moment c.deed) (orderly K R c.moment c.deed) screen h).is
refusal_lasts K R c (QuotaExceeded folder would limit) h = refl
refusal_lasts K R c other h = refl

pub lasts_is : (K : Capacity) (R : Rows) (c : Command) → (step K R c).lasting ≡ lasts K R c
lasts_is K R c = by (verdict (nat_lt c.moment R.last_moment) w) refl
  where
    w : Work
    w = work K R c.moment c.deed

    by : (o : Option Refusal) → verdict (nat_lt c.moment R.last_moment) w ≡ o → (decided K R c.moment w o).lasting ≡ lasts_by K R c (decided K R c.moment w o).outcome
    by (Some refusal) e =
        (refused_kept K R c.moment w (orderly K R c.moment c.deed) (Some refusal) refusal (refused_outcome K R c.moment w refusal)).lasts
        ∙ (refusal_lasts K R c refusal e ∙ ap (lasts_by K R c) (sym (refused_outcome K R c.moment w refusal)))
    by None e =
        unrefused_lasts K R c.moment w
        ∙ ((certified K R c.moment c.deed).lasts
        ∙ (sym (answer_lasts K R c w.outcome (orderly K R c.moment c.deed).answer)
        ∙ ap (lasts_by K R c) (sym (outcome_kept K R c.moment w))))

-- what lasts, and isn't a step, has an entry
unlasting_kind : (R : Rows) (deed : Deed) (outcome : Outcome) → is_scan_step deed ≡ false → accepted_lasts R deed outcome ≡ true → is_some (kind deed) ≡ true
unlasting_kind R (Step n) outcome other h = absurd (cc other)
unlasting_kind R (Quota (QuotaScan path)) outcome other h = refl
unlasting_kind R deed outcome other h = h

file_kind : (deed : Deed) (op : FileOp) → deed ≡ File op → is_some (kind deed) ≡ true
file_kind deed op is = ap (λ d. is_some (kind d)) is

pub lasting_kind : (K : Capacity) (R : Rows) (c : Command) → IsValid K R → is_scan_step c.deed ≡ false → (step K R c).lasting ≡ true → is_some (kind c.deed) ≡ true
lasting_kind K R c store other l = by (step K R c).outcome refl (sym (lasts_is K R c) ∙ l)
  where
    by : (outcome : Outcome) → (step K R c).outcome ≡ outcome → lasts_by K R c outcome ≡ true → is_some (kind c.deed) ≡ true
    by (Refused (ScreenBlocked screen)) e h = let found = screen_refuses K R c screen e in file_kind c.deed found.0 found.2
    by (Refused (QuotaExceeded folder would limit)) e h = let found = quota_refuses K R c folder would limit store e in file_kind c.deed found.0 found.1
    by (Refused refusal) e h = absurd (cc h)
    by outcome e h = unlasting_kind R c.deed outcome other h
