-- The audit log gets an entry exactly if a screen blocks a name or reports it, and what is reported is judged by a passive screen.
use Rattle.std.proofs.Common.{◌≡◌, ℕ, ◌==◌, nat_lt, Bool, true, false, List, [], ◌∷◌, Option, Some, None, refl, sym, ◌∙◌, ap}
use Rattle.std.specs.Prelude.{is_some, option_map, unwrap_or, length, if◌then◌else◌}
use Rattle.std.specs.List.{AllByRecursion}
use Rattle.fsrm_model.specs.declared.command.Act.{Act}
use Rattle.fsrm_model.specs.declared.command.AdminDeed.TheVariants.{List as AdminList}
use Rattle.fsrm_model.specs.declared.command.AutoquotaDeed.TheVariants.{List as AutoquotaList}
use Rattle.fsrm_model.specs.declared.command.Command.{Command}
use Rattle.fsrm_model.specs.declared.command.Deed.{Deed}
use Rattle.fsrm_model.specs.declared.command.Deed.TheVariants.{File, Step, Quota, Template, Autoquota, Filegroup, Screen, Exception, Reports, Admin}
use Rattle.fsrm_model.specs.declared.command.ExceptionDeed.TheVariants.{List as ExceptionList}
use Rattle.fsrm_model.specs.declared.command.FileOp.{FileOp}
use Rattle.fsrm_model.specs.declared.command.FileOp.TheVariants.{Mkdir, Create, Resize, Touch, Move, Remove}
use Rattle.fsrm_model.specs.declared.command.FilegroupDeed.TheVariants.{List as FilegroupList}
use Rattle.fsrm_model.specs.declared.command.Outcome.{Outcome}
use Rattle.fsrm_model.specs.declared.command.Outcome.TheVariants.{Done, Refused}
use Rattle.fsrm_model.specs.declared.command.QuotaDeed.TheVariants.{List as QuotaList}
use Rattle.fsrm_model.specs.declared.command.Refusal.{Refusal}
use Rattle.fsrm_model.specs.declared.command.Refusal.TheVariants.{ClockBack, ScreenBlocked, QuotaExceeded}
use Rattle.fsrm_model.specs.declared.command.ReportsDeed.TheVariants.{List as ReportsList}
use Rattle.fsrm_model.specs.declared.command.ScreenDeed.TheVariants.{List as ScreenList}
use Rattle.fsrm_model.specs.declared.command.TemplateDeed.TheVariants.{List as TemplateList}
use Rattle.fsrm_model.specs.declared.row.AuditRow.{AuditRow}
use Rattle.fsrm_model.specs.declared.row.Capacity.{Capacity}
use Rattle.fsrm_model.specs.declared.row.QuotaState.TheVariants.{Complete}
use Rattle.fsrm_model.specs.declared.row.Rows.{Rows}
use Rattle.fsrm_model.specs.objects.Audits.{audit_of, with_audit, tells_of_screen}
use Rattle.fsrm_model.specs.commands.Check.{Check, ◌when◌, first}
use Rattle.fsrm_model.specs.objects.DueActions.{due_refused}
use Rattle.fsrm_model.specs.commands.FileWork.{judged_name, blocked, reported, file_checks, file_effect}
use Rattle.fsrm_model.specs.objects.QuotaStates.{with_state, followed, head}
use Rattle.fsrm_model.specs.objects.Scan.{visits}
use Rattle.fsrm_model.specs.commands.Step.{step, work, screened_by, screened, ran_if_any, refused_leaving, refused, decided, lasted, unlasting}
use Rattle.fsrm_model.specs.commands.Work.{Work, Judged}
use Rattle.fsrm_model.proofs.commands.Ends.{outcome_kept}
use Rattle.fsrm_model.proofs.commands.Orderly.{first_none, when_none}
use Rattle.fsrm_model.proofs.commands.OrderlyLaws.{verdict, refused_outcome}

-- ---- what is known of each work: it leaves the log, and tells of a screen if one judges a name; then it lasts
pub record IsTold (R : Rows) (w : Work) : Type 0 where
  pub log : w.effect.audits ≡ R.audits
  pub told : tells_of_screen w.outcome ≡ is_some w.judged
  pub lasts : w.lasts ≡ false → w.judged ≡ None

told_reported : (o : Option Judged) → is_some (reported o) ≡ is_some o
told_reported None = refl
told_reported (Some j) = refl

file_log : (R : Rows) (op : FileOp) (moment : ℕ) → (file_effect R op moment).audits ≡ R.audits
file_log R (Mkdir path owner) moment = refl
file_log R (Create path length owner) moment = refl
file_log R (Resize path length) moment = refl
file_log R (Touch path) moment = refl
file_log R (Move from to) moment = refl
file_log R (Remove path) moment = refl

step_log : (R : Rows) (left : List ℕ) (scanned : ℕ) (ends : Bool) → (if ends then with_state (record R { unvisited = left }) scanned Complete else record R { unvisited = left }).audits ≡ R.audits
step_log R left scanned true = refl
step_log R left scanned false = refl

pub is_told : (K : Capacity) (R : Rows) (moment : ℕ) (deed : Deed) → IsTold R (work K R moment deed)
is_told K R moment (File op) = record { log = file_log R op moment; told = told_reported (judged_name R op); lasts = λ never. absurd (cc never) }
is_told K R moment (Step n) =
    record { log = step_log R (visits n R.nodes R.unvisited) (unwrap_or (head R.queue) 0) (length (visits n R.nodes R.unvisited) == 0); told = refl; lasts = λ h. refl }
is_told K R moment (Quota (QuotaList None)) = record { log = refl; told = refl; lasts = λ h. refl }
is_told K R moment (Quota (QuotaList (Some path))) = record { log = refl; told = refl; lasts = λ h. refl }
is_told K R moment (Template TemplateList) = record { log = refl; told = refl; lasts = λ h. refl }
is_told K R moment (Autoquota AutoquotaList) = record { log = refl; told = refl; lasts = λ h. refl }
is_told K R moment (Filegroup FilegroupList) = record { log = refl; told = refl; lasts = λ h. refl }
is_told K R moment (Screen ScreenList) = record { log = refl; told = refl; lasts = λ h. refl }
is_told K R moment (Exception ExceptionList) = record { log = refl; told = refl; lasts = λ h. refl }
is_told K R moment (Reports ReportsList) = record { log = refl; told = refl; lasts = λ h. refl }
is_told K R moment (Admin AdminList) = record { log = refl; told = refl; lasts = λ h. refl }
is_told K R moment other = record { log = refl; told = refl; lasts = λ h. refl }

-- ---- the log
abbrev Log : Type 0
Log = List AuditRow

-- a refusal that tells of a screen leaves the entry, and another one leaves the log
refused_noted : (K : Capacity) (R : Rows) (moment : ℕ) (w : Work) (refusal : Refusal) (j : Judged) → w.judged ≡ Some j → tells_of_screen (Refused refusal) ≡ true → (refused K R moment w refusal).rows.audits ≡ with_audit (audit_of moment j) R.audits
refused_noted K R moment w (ScreenBlocked screen) j is h = ap (λ (o : Option Judged). (refused_leaving K R moment (ScreenBlocked screen) (option_map (screened_by R moment) o)).rows.audits) is
refused_noted K R moment w other j is h = absurd (cc h)

refused_quiet : (K : Capacity) (R : Rows) (moment : ℕ) (w : Work) (refusal : Refusal) → tells_of_screen (Refused refusal) ≡ false → (refused K R moment w refusal).rows.audits ≡ R.audits
refused_quiet K R moment w (ScreenBlocked screen) h = absurd (cc h)
refused_quiet K R moment w (QuotaExceeded folder would limit) h = at (due_refused K R w.effect.nodes moment)
  where
    at : (acts : List Act) → (refused_leaving K R moment (QuotaExceeded folder would limit) (ran_if_any moment acts R)).rows.audits ≡ R.audits
    at [] = refl
    at (act ∷ acts) = refl
refused_quiet K R moment w other h = refl

abbrev accepted_log : Capacity → Rows → Rows → ℕ → Outcome → Option Judged → Bool → Log
accepted_log K R E moment outcome o lasts = (if lasts then lasted K R (screened E moment o) moment outcome else unlasting E outcome).rows.audits

accepted_noted : (K : Capacity) (R : Rows) (moment : ℕ) (w : Work) (j : Judged) → IsTold R w → w.judged ≡ Some j → (decided K R moment w None).rows.audits ≡ with_audit (audit_of moment j) R.audits
accepted_noted K R moment w j t is = by w.lasts refl
  where
    by : (lasts : Bool) → w.lasts ≡ lasts → accepted_log K R (followed R w.effect) moment w.outcome w.judged lasts ≡ with_audit (audit_of moment j) R.audits
    by true e = ap (λ (o : Option Judged). accepted_log K R (followed R w.effect) moment w.outcome o true) is ∙ ap (with_audit (audit_of moment j)) t.log
    by false e = let never : Some j ≡ None = sym is ∙ t.lasts e in absurd (cc never)

accepted_quiet : (K : Capacity) (R : Rows) (moment : ℕ) (w : Work) → IsTold R w → w.judged ≡ None → (decided K R moment w None).rows.audits ≡ R.audits
accepted_quiet K R moment w t is = by w.lasts
  where
    by : (lasts : Bool) → accepted_log K R (followed R w.effect) moment w.outcome w.judged lasts ≡ R.audits
    by true = ap (λ (o : Option Judged). accepted_log K R (followed R w.effect) moment w.outcome o true) is ∙ t.log
    by false = t.log

pub none_is : (o : Option Judged) → is_some o ≡ false → o ≡ None
none_is None h = refl
none_is (Some j) h = absurd (cc h)

decided_noted : (K : Capacity) (R : Rows) (moment : ℕ) (w : Work) (o : Option Refusal) (j : Judged) → IsTold R w → w.judged ≡ Some j → tells_of_screen (decided K R moment w o).outcome ≡ true → (decided K R moment w o).rows.audits ≡ with_audit (audit_of moment j) R.audits
decided_noted K R moment w (Some refusal) j t is h = refused_noted K R moment w refusal j is (ap tells_of_screen (sym (refused_outcome K R moment w refusal)) ∙ h)
decided_noted K R moment w None j t is h = accepted_noted K R moment w j t is

decided_quiet : (K : Capacity) (R : Rows) (moment : ℕ) (w : Work) (o : Option Refusal) → IsTold R w → tells_of_screen (decided K R moment w o).outcome ≡ false → (decided K R moment w o).rows.audits ≡ R.audits
decided_quiet K R moment w (Some refusal) t h = refused_quiet K R moment w refusal (ap tells_of_screen (sym (refused_outcome K R moment w refusal)) ∙ h)
decided_quiet K R moment w None t h =
    accepted_quiet K R moment w t (none_is w.judged (sym t.told ∙ (ap tells_of_screen (sym (outcome_kept K R moment w)) ∙ h)))

pub entry_noted : (K : Capacity) (R : Rows) (c : Command) (judged : Judged) → (work K R c.moment c.deed).judged ≡ Some judged → tells_of_screen (step K R c).outcome ≡ true → (step K R c).rows.audits ≡ with_audit (audit_of c.moment judged) R.audits
entry_noted K R c judged is h =
    let w = work K R c.moment c.deed in
    decided_noted K R c.moment w (verdict (nat_lt c.moment R.last_moment) w) judged (is_told K R c.moment c.deed) is h

pub none_noted : (K : Capacity) (R : Rows) (c : Command) → tells_of_screen (step K R c).outcome ≡ false → (step K R c).rows.audits ≡ R.audits
none_noted K R c h =
    let w = work K R c.moment c.deed in
    decided_quiet K R c.moment w (verdict (nat_lt c.moment R.last_moment) w) (is_told K R c.moment c.deed) h

-- ---- a report
abbrev ReportedOp : Rows → Deed → ℕ → Type 0
ReportedOp R deed folder =
    (op : FileOp) × (judged : Judged) × (deed ≡ File op) × (judged_name R op ≡ Some judged) × (judged.screen.active ≡ false) × (judged.screen.folder ≡ folder)

all_none : (checks : List Check) → first checks ≡ None → AllByRecursion (λ c. c ≡ None) checks
all_none [] h = tt
all_none (None ∷ checks) h = (refl, all_none checks h)
all_none (Some refusal ∷ checks) h = absurd (cc h)

reported_by : (R : Rows) (op : FileOp) (folder : ℕ) (o : Option Judged) → judged_name R op ≡ o → blocked o ≡ None → Done (reported o) ≡ Done (Some folder) → ReportedOp R (File op) folder
reported_by R op folder None e free h = absurd (cc h)
reported_by R op folder (Some j) e free h =
    let same : j.screen.folder ≡ folder = cc h in
    (op, j, refl, e, when_none (ScreenBlocked j.screen.folder) j.screen.active free, same)

unblocked : (K : Capacity) (R : Rows) (op : FileOp) (after : Rows) → first (file_checks K R op after) ≡ None → blocked (judged_name R op) ≡ None
unblocked K R (Create path length owner) after h = let all = all_none (file_checks K R (Create path length owner) after) h in all.1.1.1.1.1.0
unblocked K R (Move from to) after h = let all = all_none (file_checks K R (Move from to) after) h in all.1.1.1.1.1.1.1.1.1.0
unblocked K R (Mkdir path owner) after h = refl
unblocked K R (Resize path length) after h = refl
unblocked K R (Touch path) after h = refl
unblocked K R (Remove path) after h = refl

reports : (K : Capacity) (R : Rows) (moment : ℕ) (deed : Deed) (folder : ℕ) → first (work K R moment deed).checks ≡ None → (work K R moment deed).outcome ≡ Done (Some folder) → ReportedOp R deed folder
reports K R moment (File op) folder none h =
    reported_by R op folder (judged_name R op) refl (unblocked K R op (file_effect R op moment) none) h
reports K R moment (Quota (QuotaList None)) folder none h = absurd (cc h)
reports K R moment (Quota (QuotaList (Some path))) folder none h = absurd (cc h)
reports K R moment (Template TemplateList) folder none h = absurd (cc h)
reports K R moment (Autoquota AutoquotaList) folder none h = absurd (cc h)
reports K R moment (Filegroup FilegroupList) folder none h = absurd (cc h)
reports K R moment (Screen ScreenList) folder none h = absurd (cc h)
reports K R moment (Exception ExceptionList) folder none h = absurd (cc h)
reports K R moment (Reports ReportsList) folder none h = absurd (cc h)
reports K R moment (Admin AdminList) folder none h = absurd (cc h)
reports K R moment other folder none h = absurd (cc h)

decided_reports : (K : Capacity) (R : Rows) (moment : ℕ) (deed : Deed) (late : Bool) (folder : ℕ) (o : Option Refusal) → verdict late (work K R moment deed) ≡ o → (decided K R moment (work K R moment deed) o).outcome ≡ Done (Some folder) → ReportedOp R deed folder
decided_reports K R moment deed late folder (Some refusal) e h =
    let never : Refused refusal ≡ Done (Some folder) = sym (refused_outcome K R moment (work K R moment deed) refusal) ∙ h in absurd (cc never)
decided_reports K R moment deed late folder None e h =
    let w = work K R moment deed in
    reports K R moment deed folder (first_none (ClockBack when late) w.checks e).1 (sym (outcome_kept K R moment w) ∙ h)

pub screen_reports : (K : Capacity) (R : Rows) (c : Command) (folder : ℕ) → (step K R c).outcome ≡ Done (Some folder) → ReportedOp R c.deed folder
screen_reports K R c folder h =
    let late = nat_lt c.moment R.last_moment in
    decided_reports K R c.moment c.deed late folder (verdict late (work K R c.moment c.deed)) refl h
