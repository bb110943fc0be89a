-- What an accepted command that lasts leaves of quotas, and which of their actions run.
use Rattle.std.proofs.Common.{◌≡◌, ℕ, ◌==◌, nat_lt, Bool, true, false, ◌&&◌, not, List, [], ◌∷◌, Option, Some, None, refl, sym, ◌∙◌, ap}
use Rattle.std.proofs.lemmas.List.Folds.{flat_map-map}
use Rattle.std.specs.Prelude.{cond, flat_map, map, option_map, if◌then◌else◌}
use Rattle.fsrm_model.specs.declared.command.Act.{Act}
use Rattle.fsrm_model.specs.declared.command.Command.{Command}
use Rattle.fsrm_model.specs.declared.command.Outcome.{Outcome}
use Rattle.fsrm_model.specs.declared.command.Refusal.{Refusal}
use Rattle.fsrm_model.specs.declared.row.Capacity.{Capacity}
use Rattle.fsrm_model.specs.declared.row.NodeRow.{NodeRow}
use Rattle.fsrm_model.specs.declared.row.QuotaRow.{QuotaRow}
use Rattle.fsrm_model.specs.declared.row.Rows.{Rows}
use Rattle.fsrm_model.specs.objects.Acts.{of_quotas}
use Rattle.fsrm_model.specs.objects.Audits.{audited}
use Rattle.fsrm_model.specs.objects.DueActions.{quota_acts, due, due_screen}
use Rattle.fsrm_model.specs.objects.Quota.{folder_of, quota_of, counts, peaked, peaks}
use Rattle.fsrm_model.specs.objects.QuotaStates.{followed}
use Rattle.fsrm_model.specs.objects.Reached.{reached, crossed}
use Rattle.fsrm_model.specs.meaning.Receives.{ended}
use Rattle.fsrm_model.specs.objects.Runs.{run_quota}
use Rattle.fsrm_model.specs.commands.Step.{Stepped, Acted, is_accepted, step, work, screened_by, screened, refused_leaving, decided, lasted, unlasting, left_by}
use Rattle.fsrm_model.specs.nodes.Tree.{usage}
use Rattle.fsrm_model.specs.commands.Work.{Work, Judged}
use Rattle.fsrm_base.proofs.Look.{find-map}
use Rattle.fsrm_model.proofs.commands.OrderlyLaws.{verdict, refused_outcome}
use Rattle.fsrm_model.proofs.commands.QuotaLaws.{peaked_folder}
use Rattle.fsrm_model.proofs.commands.StepActs.{no_screens, parted}
use Rattle.fsrm_model.proofs.thresholds.ActLaws.{of_quota_due}
use Rattle.fsrm_model.proofs.thresholds.ReachedLaws.{reached_peaked}
use Rattle.fsrm_model.proofs.thresholds.RunLaws.{reached_ran}
use Rattle.fsrm_model.proofs.thresholds.UnrunLaws.{of_screen_due, quotas_unrun}

-- a command that no check refuses
pub none_refuses : (K : Capacity) (R : Rows) (moment : ℕ) (w : Work) (o : Option Refusal) → is_accepted (decided K R moment w o).outcome ≡ true → o ≡ None
none_refuses K R moment w None h = refl
none_refuses K R moment w (Some refusal) h = absurd (never (ap is_accepted (sym (refused_outcome K R moment w refusal)) ∙ h))
  where
    never : false ≡ true → ⊥
    never e = cc e

-- ---- what is due is told by the rows that the effect leaves: raised peaks play no part, and actions of screens run alone
due_quotas : (K : Capacity) (before after : Rows) (moment : ℕ) (raise : QuotaRow → QuotaRow) → ((q : QuotaRow) → folder_of (raise q) ≡ folder_of q) → ((q : QuotaRow) → (raise q).thresholds ≡ q.thresholds) → ((folder percent : ℕ) → reached K (record after { quotas = map raise after.quotas }) folder percent ≡ reached K after folder percent) → due K before (record after { quotas = map raise after.quotas }) moment ≡ due K before after moment
due_quotas K before after moment raise folders thresholds same =
    flat_map-map (acts (record after { quotas = map raise after.quotas })) raise after.quotas
    ∙ ap (λ (f : QuotaRow → List Act). flat_map f after.quotas) (λ i q. one q i)
  where
    acts : Rows → QuotaRow → List Act
    acts rows quota = quota_acts (crossed K before rows quota.folder) after.run_limit moment quota

    crosses : (folder : ℕ) → crossed K before (record after { quotas = map raise after.quotas }) folder ≡ crossed K before after folder
    crosses folder = λ i percent. ap (λ b. b && not (reached K before folder percent)) (same folder percent) i

    one : (q : QuotaRow) → acts (record after { quotas = map raise after.quotas }) (raise q) ≡ acts after q
    one q =
        ap (λ passes. quota_acts passes after.run_limit moment (raise q)) (crosses (raise q).folder)
        ∙ (ap (λ folder. quota_acts (crossed K before after folder) after.run_limit moment (record (raise q) { folder = folder })) (folders q)
        ∙ ap (λ ts. quota_acts (crossed K before after q.folder) after.run_limit moment (record (raise q) { folder = q.folder; thresholds = ts })) (thresholds q))

peaked_thresholds : (K : Capacity) (R : Rows) (moment : ℕ) (q : QuotaRow) → (peaked K R.nodes moment q).thresholds ≡ q.thresholds
peaked_thresholds K R moment q = at (counts q && nat_lt q.peak (usage K R.nodes q.folder))
  where
    at : (b : Bool) → (cond b (record q { peak = usage K R.nodes q.folder; peak_at = moment }) q).thresholds ≡ q.thresholds
    at true = refl
    at false = refl

due_peaked : (K : Capacity) (before after : Rows) (moment : ℕ) → due K before (peaks K after moment) moment ≡ due K before after moment
due_peaked K before after moment =
    due_quotas K before after moment (peaked K after.nodes moment) (peaked_folder K after.nodes moment) (peaked_thresholds K after moment) (reached_peaked K after moment)

-- a name that a screen judges leaves the quotas
screened_quotas : (E : Rows) (moment : ℕ) (o : Option Judged) → (screened E moment o).rows.quotas ≡ E.quotas
screened_quotas E moment None = refl
screened_quotas E moment (Some j) =
    quotas_unrun moment (due_screen E.run_limit moment j.screen) E.quotas (of_screen_due E.run_limit moment j.screen)

due_screened : (K : Capacity) (R E : Rows) (moment : ℕ) (o : Option Judged) → due K R (screened E moment o).rows moment ≡ due K R E moment
due_screened K R E moment None = refl
due_screened K R E moment (Some j) =
    ap (λ quotas. due K R (record (screened_by E moment j).rows { quotas = quotas }) moment) (screened_quotas E moment (Some j))

-- ---- the acts of quotas
lasted_due : (K : Capacity) (R E : Rows) (moment : ℕ) (o : Option Judged) (outcome : Outcome) → of_quotas (lasted K R (screened E moment o) moment outcome).acts ≡ due K R (peaks K (screened E moment o).rows moment) moment
lasted_due K R E moment None outcome =
    let peaked = peaks K E moment in
    (no_screens (due K R peaked moment) (of_quota_due K R peaked moment)).quotas_are
lasted_due K R E moment (Some j) outcome =
    let peaked = peaks K (screened_by E moment j).rows moment in
    (parted (due_screen E.run_limit moment j.screen) (due K R peaked moment) (of_screen_due E.run_limit moment j.screen) (of_quota_due K R peaked moment)).quotas_are

-- ---- what an accepted command leaves, whose work this is
pub record IsEnded (K : Capacity) (R : Rows) (moment : ℕ) (w : Work) (s : Stepped) : Type 0 where
  pub acts_are : of_quotas s.acts ≡ due K R w.effect moment
  pub quotas_are : s.rows.quotas ≡ map (ended K moment s) w.effect.quotas
  pub reached_are : (folder percent : ℕ) → reached K s.rows folder percent ≡ reached K w.effect folder percent

pub map_twice : {X : Type 0} (f g : X → X) (xs : List X) → map f (map g xs) ≡ map (λ x. f (g x)) xs
map_twice f g [] = refl
map_twice f g (x ∷ xs) = ap (λ more. f (g x) ∷ more) (map_twice f g xs)

lasted_ends : (K : Capacity) (R E : Rows) (moment : ℕ) (o : Option Judged) (outcome : Outcome) → (lasted K R (screened E moment o) moment outcome).rows.quotas ≡ map (ended K moment (lasted K R (screened E moment o) moment outcome)) E.quotas
lasted_ends K R E moment o outcome =
    ap (λ acts. map (run_quota moment acts) (map (peaked K nodes moment) (screened E moment o).rows.quotas)) (sym (lasted_due K R E moment o outcome))
    ∙ (ap (λ quotas. map (run_quota moment (of_quotas s.acts)) (map (peaked K nodes moment) quotas)) (screened_quotas E moment o)
    ∙ map_twice (run_quota moment (of_quotas s.acts)) (peaked K nodes moment) E.quotas)
  where
    s : Stepped
    s = lasted K R (screened E moment o) moment outcome

    nodes : List NodeRow
    nodes = (screened E moment o).rows.nodes

screened_reached : (K : Capacity) (E : Rows) (moment : ℕ) (o : Option Judged) (folder percent : ℕ) → reached K (screened E moment o).rows folder percent ≡ reached K E folder percent
screened_reached K E moment None folder percent = refl
screened_reached K E moment (Some j) folder percent =
    reached_ran K moment (due_screen E.run_limit moment j.screen) (audited moment j E) folder percent

lasted_reached : (K : Capacity) (R E : Rows) (moment : ℕ) (o : Option Judged) (outcome : Outcome) (folder percent : ℕ) → reached K (lasted K R (screened E moment o) moment outcome).rows folder percent ≡ reached K E folder percent
lasted_reached K R E moment o outcome folder percent =
    let peaked = peaks K (screened E moment o).rows moment in
    reached_ran K moment (due K R peaked moment) peaked folder percent
    ∙ (reached_peaked K (screened E moment o).rows moment folder percent ∙ screened_reached K E moment o folder percent)

lasted_ended : (K : Capacity) (R : Rows) (moment : ℕ) (w : Work) → IsEnded K R moment w (lasted K R (screened (followed R w.effect) moment w.judged) moment w.outcome)
lasted_ended K R moment w =
    let E = followed R w.effect in
    record {
      acts_are = lasted_due K R E moment w.judged w.outcome ∙ (due_peaked K R (screened E moment w.judged).rows moment ∙ due_screened K R E moment w.judged);
      quotas_are = lasted_ends K R E moment w.judged w.outcome;
      reached_are = lasted_reached K R E moment w.judged w.outcome;
    }

accepted_ended : (K : Capacity) (R : Rows) (moment : ℕ) (w : Work) → (decided K R moment w None).lasting ≡ true → IsEnded K R moment w (decided K R moment w None)
accepted_ended K R moment w h = by w.lasts h
  where
    by : (b : Bool) → (if b then lasted K R (screened (followed R w.effect) moment w.judged) moment w.outcome else unlasting (followed R w.effect) w.outcome).lasting ≡ true → IsEnded K R moment w (if b then lasted K R (screened (followed R w.effect) moment w.judged) moment w.outcome else unlasting (followed R w.effect) w.outcome)
    by true h = lasted_ended K R moment w
    by false h = absurd (cc h)

-- whose work lasts
pub work_lasts : (K : Capacity) (R : Rows) (moment : ℕ) (w : Work) (o : Option Refusal) → o ≡ None → w.lasts ≡ true → (decided K R moment w o).lasting ≡ true
work_lasts K R moment w o none h =
    ap (λ (o : Option Refusal). (decided K R moment w o).lasting) none
    ∙ ap (λ (b : Bool). (if b then lasted K R (screened (followed R w.effect) moment w.judged) moment w.outcome else unlasting (followed R w.effect) w.outcome).lasting) h

pub decided_ended : (K : Capacity) (R : Rows) (moment : ℕ) (w : Work) (o : Option Refusal) → is_accepted (decided K R moment w o).outcome ≡ true → (decided K R moment w o).lasting ≡ true → IsEnded K R moment w (decided K R moment w o)
decided_ended K R moment w None told h = accepted_ended K R moment w h
decided_ended K R moment w (Some refusal) told h = absurd (never (none_refuses K R moment w (Some refusal) told))
  where
    never : Some refusal ≡ None → ⊥
    never e = cc e

pub step_ended : (K : Capacity) (R : Rows) (c : Command) → is_accepted (step K R c).outcome ≡ true → (step K R c).lasting ≡ true → IsEnded K R c.moment (work K R c.moment c.deed) (step K R c)
step_ended K R c told h =
    let w = work K R c.moment c.deed in
    decided_ended K R c.moment w (verdict (nat_lt c.moment R.last_moment) w) told h

-- ---- a command that doesn't last has no action run
left_none : (K : Capacity) (R : Rows) (moment : ℕ) (refusal : Refusal) (o : Option Acted) → (refused_leaving K R moment refusal o).lasting ≡ false → (refused_leaving K R moment refusal o).acts ≡ []
left_none K R moment refusal None h = refl
left_none K R moment refusal (Some after) h = absurd (cc h)

decided_none : (K : Capacity) (R : Rows) (moment : ℕ) (w : Work) (o : Option Refusal) → (decided K R moment w o).lasting ≡ false → (decided K R moment w o).acts ≡ []
decided_none K R moment w (Some refusal) h = left_none K R moment refusal (left_by K R moment w refusal) h
decided_none K R moment w None h = by w.lasts h
  where
    by : (b : Bool) → (if b then lasted K R (screened (followed R w.effect) moment w.judged) moment w.outcome else unlasting (followed R w.effect) w.outcome).lasting ≡ false → (if b then lasted K R (screened (followed R w.effect) moment w.judged) moment w.outcome else unlasting (followed R w.effect) w.outcome).acts ≡ []
    by true h = absurd (cc h)
    by false h = refl

pub unlasting_none : (K : Capacity) (R : Rows) (c : Command) → (step K R c).lasting ≡ false → (step K R c).acts ≡ []
unlasting_none K R c h =
    let w = work K R c.moment c.deed in decided_none K R c.moment w (verdict (nat_lt c.moment R.last_moment) w) h

-- ---- a folder's quota at the end
pub ended_folder : (K : Capacity) (moment : ℕ) (s : Stepped) (q : QuotaRow) → folder_of (ended K moment s q) ≡ folder_of q
ended_folder K moment s q = peaked_folder K s.rows.nodes moment q

pub quota_ended : (K : Capacity) (R : Rows) (moment : ℕ) (w : Work) (s : Stepped) → IsEnded K R moment w s → (folder : ℕ) → quota_of s.rows folder ≡ option_map (ended K moment s) (quota_of w.effect folder)
quota_ended K R moment w s is folder =
    ap (λ quotas. quota_of (record s.rows { quotas = quotas }) folder) is.quotas_are
    ∙ find-map (λ q. folder_of q == folder) (ended K moment s) (λ q. ap (λ n. n == folder) (ended_folder K moment s q)) w.effect.quotas
