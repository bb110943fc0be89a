-- An accepted file operation tells of the screen that judges the name it gives, and of all screens' actions only its own
-- run.
use Rattle.std.proofs.Common.{◌≡◌, ℕ, nat_lt, Bool, true, false, List, [], ◌∷◌, Option, Some, None, refl, sym, ◌∙◌, ap, subst}
use Rattle.std.specs.Prelude.{if◌then◌else◌}
use Rattle.std.specs.List.{AllByRecursion}
use Rattle.std.specs.Option.{option_map_or}
use Rattle.fsrm_model.specs.declared.command.Act.{Act}
use Rattle.fsrm_model.specs.declared.command.AdminDeed.TheVariants.{List as AdminList}
use Rattle.fsrm_model.specs.declared.command.AutoquotaDeed.TheVariants.{List as AutoquotaList}
use Rattle.fsrm_model.specs.declared.command.Command.{Command}
use Rattle.fsrm_model.specs.declared.command.Deed.{Deed}
use Rattle.fsrm_model.specs.declared.command.Deed.TheVariants.{File, Quota, Template, Autoquota, Filegroup, Screen, Exception, Reports, Admin}
use Rattle.fsrm_model.specs.declared.command.ExceptionDeed.TheVariants.{List as ExceptionList}
use Rattle.fsrm_model.specs.declared.command.FileOp.{FileOp}
use Rattle.fsrm_model.specs.declared.command.FileOp.TheVariants.{Mkdir, Create, Resize, Touch, Move, Remove}
use Rattle.fsrm_model.specs.declared.command.FilegroupDeed.TheVariants.{List as FilegroupList}
use Rattle.fsrm_model.specs.declared.command.Outcome.{Outcome}
use Rattle.fsrm_model.specs.declared.command.Outcome.TheVariants.{Done, Refused}
use Rattle.fsrm_model.specs.declared.command.QuotaDeed.TheVariants.{List as QuotaList}
use Rattle.fsrm_model.specs.declared.command.Refusal.{Refusal}
use Rattle.fsrm_model.specs.declared.command.Refusal.TheVariants.{ScreenBlocked, QuotaExceeded}
use Rattle.fsrm_model.specs.declared.command.ReportsDeed.TheVariants.{List as ReportsList}
use Rattle.fsrm_model.specs.declared.command.ScreenDeed.TheVariants.{List as ScreenList}
use Rattle.fsrm_model.specs.declared.command.TemplateDeed.TheVariants.{List as TemplateList}
use Rattle.fsrm_model.specs.declared.row.Capacity.{Capacity}
use Rattle.fsrm_model.specs.declared.row.Rows.{Rows}
use Rattle.fsrm_model.specs.objects.Acts.{of_screens}
use Rattle.fsrm_model.specs.objects.Audits.{tells_of_screen}
use Rattle.fsrm_model.specs.objects.DueActions.{due, due_refused, due_screen}
use Rattle.fsrm_model.specs.commands.FileWork.{judged_name, reported}
use Rattle.fsrm_model.specs.objects.Quota.{peaks}
use Rattle.fsrm_model.specs.objects.QuotaStates.{followed}
use Rattle.fsrm_model.specs.commands.Step.{step, work, screened, refused, decided, lasted, unlasting}
use Rattle.fsrm_model.specs.commands.Work.{Work, Judged}
use Rattle.fsrm_model.proofs.commands.Ends.{outcome_kept}
use Rattle.fsrm_model.proofs.commands.OrderlyLaws.{verdict, refused_outcome, refused_leaves}
use Rattle.fsrm_model.proofs.commands.StepActs.{no_screens, parted}
use Rattle.fsrm_model.proofs.screens.EntryLaws.{IsTold, is_told, none_is}
use Rattle.fsrm_model.proofs.thresholds.ActLaws.{IsOfScreen, of_quota_due, of_quota_refused}
use Rattle.fsrm_model.proofs.thresholds.UnrunLaws.{of_screen_due}

-- ---- what is told
same_done : (a b : Option ℕ) → Done a ≡ Done b → a ≡ b
same_done a b h = cc h

told_by : (K : Capacity) (R : Rows) (op : FileOp) (moment : ℕ) (passive : Option ℕ) (o : Option Refusal) → (decided K R moment (work K R moment (File op)) o).outcome ≡ Done passive → passive ≡ reported (judged_name R op)
told_by K R op moment passive (Some refusal) h =
    let never : Refused refusal ≡ Done passive = sym (refused_outcome K R moment (work K R moment (File op)) refusal) ∙ h in absurd (cc never)
told_by K R op moment passive None h =
    same_done passive (reported (judged_name R op)) (sym h ∙ outcome_kept K R moment (work K R moment (File op)))

pub screen_told : (K : Capacity) (R : Rows) (c : Command) (op : FileOp) (passive : Option ℕ) → c.deed ≡ File op → (step K R c).outcome ≡ Done passive → passive ≡ reported (judged_name R op)
screen_told K R c op passive is h =
    let late = nat_lt c.moment R.last_moment in
    told_by K R op c.moment passive (verdict late (work K R c.moment (File op)))
    (subst (λ (deed : Deed). (decided K R c.moment (work K R c.moment deed) (verdict late (work K R c.moment deed))).outcome ≡ Done passive) is h)

-- ---- the actions that run of a screen
-- those of the screen that judges a name
abbrev own_acts : Rows → ℕ → Option Judged → List Act
own_acts R moment judged = option_map_or (λ j. due_screen R.run_limit moment j.screen) judged []

all_own : (R : Rows) (moment : ℕ) (judged : Option Judged) → AllByRecursion IsOfScreen (own_acts R moment judged)
all_own R moment None = tt
all_own R moment (Some j) = of_screen_due R.run_limit moment j.screen

-- a command that gives a file a name leaves the run limit
abbrev KeepsLimit : Rows → Work → Type 0
KeepsLimit R w = (j : Judged) → w.judged ≡ Some j → w.effect.run_limit ≡ R.run_limit

keeps_limit : (K : Capacity) (R : Rows) (moment : ℕ) (deed : Deed) → KeepsLimit R (work K R moment deed)
keeps_limit K R moment (File (Mkdir path owner)) j h = refl
keeps_limit K R moment (File (Create path length owner)) j h = refl
keeps_limit K R moment (File (Resize path length)) j h = refl
keeps_limit K R moment (File (Touch path)) j h = refl
keeps_limit K R moment (File (Move from to)) j h = refl
keeps_limit K R moment (File (Remove path)) j h = refl
keeps_limit K R moment (Quota (QuotaList None)) j h = absurd (cc h)
keeps_limit K R moment (Quota (QuotaList (Some path))) j h = absurd (cc h)
keeps_limit K R moment (Template TemplateList) j h = absurd (cc h)
keeps_limit K R moment (Autoquota AutoquotaList) j h = absurd (cc h)
keeps_limit K R moment (Filegroup FilegroupList) j h = absurd (cc h)
keeps_limit K R moment (Screen ScreenList) j h = absurd (cc h)
keeps_limit K R moment (Exception ExceptionList) j h = absurd (cc h)
keeps_limit K R moment (Reports ReportsList) j h = absurd (cc h)
keeps_limit K R moment (Admin AdminList) j h = absurd (cc h)
keeps_limit K R moment other j h = absurd (cc h)

screened_acts : (R E : Rows) (moment : ℕ) (judged : Option Judged) → ((j : Judged) → judged ≡ Some j → E.run_limit ≡ R.run_limit) → (screened E moment judged).acts ≡ own_acts R moment judged
screened_acts R E moment None same = refl
screened_acts R E moment (Some j) same = ap (λ limit. due_screen limit moment j.screen) (same j refl)

lasted_runs : (K : Capacity) (R E : Rows) (moment : ℕ) (judged : Option Judged) (outcome : Outcome) → (screened E moment judged).acts ≡ own_acts R moment judged → of_screens (lasted K R (screened E moment judged) moment outcome).acts ≡ own_acts R moment judged
lasted_runs K R E moment judged outcome are =
    let after = screened E moment judged in
    let peaked = peaks K after.rows moment in
    (parted after.acts (due K R peaked moment) (subst (AllByRecursion IsOfScreen) (sym are) (all_own R moment judged)) (of_quota_due K R peaked moment)).screens_are
    ∙ are

accepted_runs : (K : Capacity) (R : Rows) (moment : ℕ) (w : Work) → IsTold R w → KeepsLimit R w → of_screens (decided K R moment w None).acts ≡ own_acts R moment w.judged
accepted_runs K R moment w t keeps = by w.lasts refl
  where
    by : (lasts : Bool) → w.lasts ≡ lasts → of_screens (if lasts then lasted K R (screened (followed R w.effect) moment w.judged) moment w.outcome else unlasting (followed R w.effect) w.outcome).acts ≡ own_acts R moment w.judged
    by true e = lasted_runs K R (followed R w.effect) moment w.judged w.outcome (screened_acts R (followed R w.effect) moment w.judged keeps)
    by false e = ap (own_acts R moment) (sym (t.lasts e))

-- a refusal that tells of a screen has its own acts, and another one has none of screens
blocked_runs : (K : Capacity) (R : Rows) (moment : ℕ) (w : Work) (refusal : Refusal) → tells_of_screen (Refused refusal) ≡ true → of_screens (refused K R moment w refusal).acts ≡ own_acts R moment w.judged
blocked_runs K R moment w (ScreenBlocked screen) h =
    ap of_screens (refused_leaves K R moment w (ScreenBlocked screen)).acts_are ∙ only (own_acts R moment w.judged) (all_own R moment w.judged)
  where
    only : (acts : List Act) → AllByRecursion IsOfScreen acts → of_screens acts ≡ acts
    only [] all = refl
    only (act ∷ acts) all = rw all.0 (ap (λ more. act ∷ more) (only acts all.1))
blocked_runs K R moment w other h = absurd (cc h)

quiet_runs : (K : Capacity) (R : Rows) (moment : ℕ) (w : Work) (refusal : Refusal) → tells_of_screen (Refused refusal) ≡ false → of_screens (refused K R moment w refusal).acts ≡ []
quiet_runs K R moment w (ScreenBlocked screen) h = absurd (cc h)
quiet_runs K R moment w (QuotaExceeded folder would limit) h =
    ap of_screens (refused_leaves K R moment w (QuotaExceeded folder would limit)).acts_are
    ∙ (no_screens (due_refused K R w.effect.nodes moment) (of_quota_refused K R w.effect.nodes moment)).screens_are
quiet_runs K R moment w other h = refl

decided_runs : (K : Capacity) (R : Rows) (moment : ℕ) (w : Work) (o : Option Refusal) (j : Judged) → IsTold R w → KeepsLimit R w → w.judged ≡ Some j → tells_of_screen (decided K R moment w o).outcome ≡ true → of_screens (decided K R moment w o).acts ≡ due_screen R.run_limit moment j.screen
decided_runs K R moment w (Some refusal) j t keeps is h =
    blocked_runs K R moment w refusal (ap tells_of_screen (sym (refused_outcome K R moment w refusal)) ∙ h) ∙ ap (own_acts R moment) is
decided_runs K R moment w None j t keeps is h = accepted_runs K R moment w t keeps ∙ ap (own_acts R moment) is

decided_unrun : (K : Capacity) (R : Rows) (moment : ℕ) (w : Work) (o : Option Refusal) → IsTold R w → KeepsLimit R w → tells_of_screen (decided K R moment w o).outcome ≡ false → of_screens (decided K R moment w o).acts ≡ []
decided_unrun K R moment w (Some refusal) t keeps h = quiet_runs K R moment w refusal (ap tells_of_screen (sym (refused_outcome K R moment w refusal)) ∙ h)
decided_unrun K R moment w None t keeps h =
    accepted_runs K R moment w t keeps
    ∙ ap (own_acts R moment) (none_is w.judged (sym t.told ∙ (ap tells_of_screen (sym (outcome_kept K R moment w)) ∙ h)))

pub screen_runs : (K : Capacity) (R : Rows) (c : Command) (judged : Judged) → (work K R c.moment c.deed).judged ≡ Some judged → tells_of_screen (step K R c).outcome ≡ true → of_screens (step K R c).acts ≡ due_screen R.run_limit c.moment judged.screen
screen_runs K R c judged is h =
    let w = work K R c.moment c.deed in
    decided_runs K R c.moment w (verdict (nat_lt c.moment R.last_moment) w) judged (is_told K R c.moment c.deed) (keeps_limit K R c.moment c.deed) is h

pub none_runs : (K : Capacity) (R : Rows) (c : Command) → tells_of_screen (step K R c).outcome ≡ false → of_screens (step K R c).acts ≡ []
none_runs K R c h =
    let w = work K R c.moment c.deed in
    decided_unrun K R c.moment w (verdict (nat_lt c.moment R.last_moment) w) (is_told K R c.moment c.deed) (keeps_limit K R c.moment c.deed) h
