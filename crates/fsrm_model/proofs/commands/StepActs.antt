-- The acts of a command: they stand in order, each once, and each names an action that is there in the rows after it.
use Rattle.std.proofs.Common.{◌≡◌, ℕ, ◌≤◌, Bool, true, false, List, [], ◌∷◌, ◌++◌, refl, sym, ◌∙◌, ap, subst, Some, None, Option}
use Rattle.std.specs.Prelude.{slice_get, option_map, if◌then◌else◌, cond, ◌&&◌, ◌==◌, nat_lt, not}
use Rattle.std.specs.List.{AllByRecursion, list_all}
use Rattle.std.specs.Option.{option_map_or}
use Rattle.fsrm_model.specs.declared.command.Act.{Act}
use Rattle.fsrm_model.specs.declared.command.Outcome.{Outcome}
use Rattle.fsrm_model.specs.declared.command.Outcome.TheVariants.{Refused}
use Rattle.fsrm_model.specs.declared.command.Refusal.{Refusal}
use Rattle.fsrm_model.specs.declared.command.Refusal.TheVariants.{ClockBack, ScreenBlocked, QuotaExceeded}
use Rattle.fsrm_model.specs.declared.command.Subject.{Subject}
use Rattle.fsrm_model.specs.declared.command.Subject.TheVariants.{Quota, Screen}
use Rattle.fsrm_model.specs.declared.row.Action.{Action}
use Rattle.fsrm_model.specs.declared.row.Capacity.{Capacity}
use Rattle.fsrm_model.specs.declared.row.QuotaRow.{QuotaRow}
use Rattle.fsrm_model.specs.declared.row.Rows.{Rows}
use Rattle.fsrm_model.specs.declared.row.ScreenRow.{ScreenRow}
use Rattle.fsrm_base.specs.Keyed.{row_of, is_ascending}
use Rattle.fsrm_model.specs.objects.Acts.{of_screens, of_quotas, has_act, actions_of, IsAct, are_in_order}
use Rattle.fsrm_model.specs.objects.Audits.{audited}
use Rattle.fsrm_model.specs.commands.Check.{◌when◌, first}
use Rattle.fsrm_model.specs.objects.DueActions.{due, due_refused, due_screen}
use Rattle.fsrm_model.specs.meaning.Exceptions.{left_with}
use Rattle.fsrm_model.specs.values.Limits.{latest_moment}
use Rattle.fsrm_model.specs.values.Name.{is_name}
use Rattle.fsrm_model.specs.objects.Quota.{folder_of, quota_of, counts, peaked, peaks}
use Rattle.fsrm_model.specs.objects.QuotaStates.{followed}
use Rattle.fsrm_model.specs.meaning.Raises.{are_ascending}
use Rattle.fsrm_model.specs.objects.Runs.{ran}
use Rattle.fsrm_model.specs.objects.Screens.{screen_folder, screen_of}
use Rattle.fsrm_model.specs.commands.Step.{Stepped, Acted, unacted, acted, screened_by, screened, ran_if_any, refused_leaving, refused, decided, lasted, unlasting}
use Rattle.fsrm_model.specs.objects.Thresholds.{percent_of, actions_at, is_threshold, are_too_many, are_thresholds}
use Rattle.fsrm_model.specs.nodes.Tree.{usage}
use Rattle.fsrm_model.specs.store.Valid.{IsValid}
use Rattle.fsrm_model.specs.commands.Work.{Work, Judged}
use Rattle.fsrm_base.proofs.Look.{find-map}
use Rattle.fsrm_base.proofs.Members.{all_pass}
use Rattle.fsrm_base.proofs.TestLaws.{both, both_true}
use Rattle.fsrm_model.proofs.commands.Orderly.{IsOrderly, KeepsValid, IsAsked, NamesJudged, first_none}
use Rattle.fsrm_model.proofs.commands.OrderlyLaws.{verdict, itself_same, acts_left, left_is, own_verdict, valid_screened}
use Rattle.fsrm_model.proofs.commands.QuotaLaws.{peaked_folder}
use Rattle.fsrm_model.proofs.thresholds.ActLaws.{IsOfScreen, IsOfQuota, all-append, order_ready, of_quota_due, of_quota_refused, acts_there, order_due, order_refused, due_there, refused_there}
use Rattle.fsrm_model.proofs.thresholds.DueLaws.{also}
use Rattle.fsrm_model.proofs.thresholds.RunLaws.{with_run, action_run}
use Rattle.fsrm_model.proofs.thresholds.UnrunLaws.{of_screen_due}
use Rattle.fsrm_model.proofs.valid.RowsKept.{valid_peaked}

-- ---- an act's action is there as long as its quota keeps its thresholds
run_kind : (moment : ℕ) (b : Bool) (action : Action) → (with_run moment b action).kind ≡ action.kind
run_kind moment true action = refl
run_kind moment false action = refl

pub act_ran : (moment : ℕ) (acts : List Act) (R : Rows) (act : Act) → IsAct R act → IsAct (ran moment acts R) act
act_ran moment acts R act is =
    record {
      action = with_run moment (has_act acts act.subject act.place) is.action;
      there = action_run moment acts R act.subject act.place ∙ ap (option_map (with_run moment (has_act acts act.subject act.place))) is.there;
      kind_is = is.kind_is ∙ sym (run_kind moment (has_act acts act.subject act.place) is.action);
    }

peaked_actions : (K : Capacity) (R : Rows) (moment : ℕ) (subject : Subject) → actions_of (peaks K R moment) subject ≡ actions_of R subject
peaked_actions K R moment (Quota folder percent) =
    ap (λ o. option_map_or (λ (q : QuotaRow). actions_at q.thresholds percent) o []) (find-map (λ q. folder_of q == folder) (peaked K R.nodes moment) (λ q. ap (λ n. n == folder) (peaked_folder K R.nodes moment q)) R.quotas)
    ∙ at (quota_of R folder)
  where
    one : (q : QuotaRow) (b : Bool) → actions_at (cond b (record q { peak = usage K R.nodes q.folder; peak_at = moment }) q).thresholds percent ≡ actions_at q.thresholds percent
    one q true = refl
    one q false = refl

    at : (o : Option QuotaRow) → option_map_or (λ (q : QuotaRow). actions_at q.thresholds percent) (option_map (peaked K R.nodes moment) o) [] ≡ option_map_or (λ (q : QuotaRow). actions_at q.thresholds percent) o []
    at None = refl
    at (Some q) = one q (counts q && nat_lt q.peak (usage K R.nodes q.folder))
peaked_actions K R moment (Screen folder) = refl

act_peaked : (K : Capacity) (R : Rows) (moment : ℕ) (act : Act) → IsAct R act → IsAct (peaks K R moment) act
act_peaked K R moment act is =
    record { action = is.action; there = ap (λ actions. slice_get actions act.place) (peaked_actions K R moment act.subject) ∙ is.there; kind_is = is.kind_is }

-- another moment plays no part
act_at : (R : Rows) (moment : ℕ) (act : Act) → IsAct R act → IsAct (record R { last_moment = moment }) act
act_at R moment act is = record { action = is.action; there = at act.subject is.there; kind_is = is.kind_is }
  where
    at : (subject : Subject) → slice_get (actions_of R subject) act.place ≡ Some is.action → slice_get (actions_of (record R { last_moment = moment }) subject) act.place ≡ Some is.action
    at (Quota folder percent) h = h
    at (Screen folder) h = h

-- ---- the rows of a store are in order
pub valid_ascending : (K : Capacity) (R : Rows) → IsValid K R → are_ascending R.quotas ≡ true
valid_ascending K R s =
    both_true (is_ascending folder_of R.quotas) (list_all (λ q. is_ascending percent_of q.thresholds) R.quotas) s.quotas.ascending
    (all_pass folder_of (λ q. is_ascending percent_of q.thresholds) R.quotas s.quotas.ascending (λ q own. own_order q (s.quotas.thresholds q.folder q own)))
  where
    own_order : (q : QuotaRow) → are_thresholds q.thresholds ≡ true → is_ascending percent_of q.thresholds ≡ true
    own_order q h =
        (both (is_ascending percent_of q.thresholds) (not (are_too_many q.thresholds)) (both (is_ascending percent_of q.thresholds && not (are_too_many q.thresholds)) (list_all is_threshold q.thresholds) h).0).0

peaked_ascending : (K : Capacity) (R : Rows) (moment : ℕ) → IsValid K R → moment ≤ latest_moment → are_ascending (peaks K R moment).quotas ≡ true
peaked_ascending K R moment s late = valid_ascending K (record (peaks K R moment) { last_moment = moment }) (valid_peaked K R moment s late)

-- ---- acts of screens, and of quotas
-- acts that come after those of a screen
pub record AreParted (acts screens quotas : List Act) : Type 0 where
  pub screens_are : of_screens acts ≡ screens
  pub quotas_are : of_quotas acts ≡ quotas

pub no_screens : (acts : List Act) → AllByRecursion IsOfQuota acts → AreParted acts [] acts
no_screens [] h = record { screens_are = refl; quotas_are = refl }
no_screens (act ∷ acts) h =
    let more = no_screens acts h.1 in
    record { screens_are = rw h.0 more.screens_are; quotas_are = rw h.0 (ap (λ rest. act ∷ rest) more.quotas_are) }

pub parted : (screens quotas : List Act) → AllByRecursion IsOfScreen screens → AllByRecursion IsOfQuota quotas → AreParted (screens ++ quotas) screens quotas
parted [] quotas h g = no_screens quotas g
parted (act ∷ screens) quotas h g =
    let more = parted screens quotas h.1 g in
    record { screens_are = rw h.0 (ap (λ rest. act ∷ rest) more.screens_are); quotas_are = rw h.0 more.quotas_are }

due_parts : (K : Capacity) (before after : Rows) (moment : ℕ) → AllByRecursion IsOfQuota (due K before after moment)
due_parts K before after moment = of_quota_due K before after moment

-- ---- the acts of a command
pub record AreActs (s : Stepped) : Type 0 where
  pub first : s.acts ≡ of_screens s.acts ++ of_quotas s.acts
  pub places : are_in_order (of_screens s.acts) ≡ true
  pub in_order : are_in_order (of_quotas s.acts) ≡ true
  pub there : AllByRecursion (IsAct s.rows) s.acts

no_acts : (R : Rows) (outcome : Outcome) → AreActs (unlasting R outcome)
no_acts R outcome = record { first = refl; places = refl; in_order = refl; there = tt }

acts_of : (s : Stepped) (screens quotas : List Act) → s.acts ≡ screens ++ quotas → AllByRecursion IsOfScreen screens → AllByRecursion IsOfQuota quotas → are_in_order screens ≡ true → are_in_order quotas ≡ true → AllByRecursion (IsAct s.rows) s.acts → AreActs s
acts_of s screens quotas are own other places order there =
    let p = parted screens quotas own other in
    let first : of_screens s.acts ≡ screens = ap of_screens are ∙ p.screens_are in
    let last : of_quotas s.acts ≡ quotas = ap of_quotas are ∙ p.quotas_are in
    record {
      first = are ∙ (ap (λ front. front ++ quotas) (sym first) ∙ ap (λ rest. of_screens s.acts ++ rest) (sym last));
      places = ap are_in_order first ∙ places;
      in_order = ap are_in_order last ∙ order;
      there = there;
    }

-- what is left of acts that ran before a command's end: they are there after it
kept_there : (K : Capacity) (moment : ℕ) (R : Rows) (more acts : List Act) → AllByRecursion (IsAct R) acts → AllByRecursion (IsAct (record (ran moment more (peaks K R moment)) { last_moment = moment })) acts
kept_there K moment R more acts h =
    also (IsAct R) (IsAct (record (ran moment more (peaks K R moment)) { last_moment = moment }))
    (λ act is. act_at (ran moment more (peaks K R moment)) moment act (act_ran moment more (peaks K R moment) act (act_peaked K R moment act is))) acts h

-- a command that lasts, after acts of a screen
pub lasted_acts : (K : Capacity) (R : Rows) (moment : ℕ) (after : Acted) (outcome : Outcome) → IsValid K after.rows → moment ≤ latest_moment → AllByRecursion IsOfScreen after.acts → are_in_order after.acts ≡ true → AllByRecursion (IsAct after.rows) after.acts → AreActs (lasted K R after moment outcome)
lasted_acts K R moment after outcome s late own places there =
    let peaked = peaks K after.rows moment in
    let acts = due K R peaked moment in
    let asc = peaked_ascending K after.rows moment s late in
    let end = record (ran moment acts peaked) { last_moment = moment } in
    let new : AllByRecursion (IsAct end) acts = also (IsAct peaked) (IsAct end) (λ act is. act_at (ran moment acts peaked) moment act (act_ran moment acts peaked act is)) acts (due_there K R peaked moment asc) in
    acts_of (lasted K R after moment outcome) after.acts acts refl own (due_parts K R peaked moment) places (order_due K R peaked moment asc)
    (all-append (IsAct end) after.acts acts (kept_there K moment after.rows acts after.acts there) new)

-- a name that a screen judges
screen_actions : (R : Rows) (screen : ScreenRow) → screen_of R screen.folder ≡ Some screen → actions_of R (Screen screen.folder) ≡ screen.actions
screen_actions R screen there = ap (λ o. option_map_or (λ (s : ScreenRow). s.actions) o []) there

screened_by_acts : (K : Capacity) (R E : Rows) (moment : ℕ) (j : Judged) (outcome : Outcome) → screen_of E j.screen.folder ≡ Some j.screen → IsValid K (screened_by E moment j).rows → moment ≤ latest_moment → AreActs (lasted K R (screened_by E moment j) moment outcome)
screened_by_acts K R E moment j outcome there s late =
    let acts = due_screen E.run_limit moment j.screen in
    let base = audited moment j E in
    let own : AllByRecursion (IsAct base) acts = acts_there base E.run_limit moment (Screen j.screen.folder) j.screen.actions (screen_actions base j.screen there) in
    lasted_acts K R moment (screened_by E moment j) outcome s late (of_screen_due E.run_limit moment j.screen)
    (order_ready E.run_limit moment (Screen j.screen.folder) j.screen.actions)
    (also (IsAct base) (IsAct (ran moment acts base)) (λ act is. act_ran moment acts base act is) acts own)

-- an accepted command
accepted_acts : (K : Capacity) (R E : Rows) (moment : ℕ) (o : Option Judged) (outcome : Outcome) → IsValid K (screened E moment o).rows → moment ≤ latest_moment → ((j : Judged) → o ≡ Some j → screen_of E j.screen.folder ≡ Some j.screen) → AreActs (lasted K R (screened E moment o) moment outcome)
accepted_acts K R E moment None outcome s late there = lasted_acts K R moment (unacted E) outcome s late tt refl tt
accepted_acts K R E moment (Some j) outcome s late there = screened_by_acts K R E moment j outcome (there j refl) s late

-- a refused command
acted_acts : (K : Capacity) (R : Rows) (moment : ℕ) (acts : List Act) (outcome : Outcome) → are_in_order acts ≡ true → AllByRecursion IsOfQuota acts → AllByRecursion (IsAct R) acts → AreActs (lasted K R (acted moment acts R) moment outcome)
acted_acts K R moment acts outcome order own there =
    let s = lasted K R (acted moment acts R) moment outcome in
    let same : s.acts ≡ acts = acts_left K R R moment acts outcome (itself_same K R) in
    acts_of s [] acts same tt own refl order
    (subst (λ (rows : Rows). AllByRecursion (IsAct rows) s.acts) (sym (left_is K R R moment acts outcome (itself_same K R)))
    (subst (AllByRecursion (IsAct (left_with K R moment acts))) (sym same)
    (also (IsAct R) (IsAct (left_with K R moment acts)) (λ a is. act_at (peaks K (ran moment acts R) moment) moment a (act_peaked K (ran moment acts R) moment a (act_ran moment acts R a is))) acts there)))

exceeded_acts : (K : Capacity) (R : Rows) (moment : ℕ) (refusal : Refusal) (acts all : List Act) → acts ≡ all → are_in_order all ≡ true → AllByRecursion IsOfQuota all → AllByRecursion (IsAct R) all → AreActs (refused_leaving K R moment refusal (ran_if_any moment acts R))
exceeded_acts K R moment refusal [] all same order own there = no_acts R (Refused refusal)
exceeded_acts K R moment refusal (act ∷ acts) all same order own there =
    acted_acts K R moment (act ∷ acts) (Refused refusal) (ap are_in_order same ∙ order) (subst (AllByRecursion IsOfQuota) (sym same) own) (subst (AllByRecursion (IsAct R)) (sym same) there)

blocked_acts : (K : Capacity) (R : Rows) (moment : ℕ) (refusal : Refusal) (o : Option Judged) → ((j : Judged) → o ≡ Some j → screen_of R j.screen.folder ≡ Some j.screen) → ((j : Judged) → o ≡ Some j → IsValid K (screened_by R moment j).rows) → moment ≤ latest_moment → AreActs (refused_leaving K R moment refusal (option_map (screened_by R moment) o))
blocked_acts K R moment refusal None there s late = no_acts R (Refused refusal)
blocked_acts K R moment refusal (Some j) there s late = screened_by_acts K R R moment j (Refused refusal) (there j refl) (s j refl) late

refused_acts : (K : Capacity) (R : Rows) (moment : ℕ) (w : Work) (refusal : Refusal) → IsOrderly K R w → NamesJudged K R w → IsValid K R → moment ≤ latest_moment → ((screen : ℕ) → refusal ≡ ScreenBlocked screen → first w.checks ≡ Some (ScreenBlocked screen)) → AreActs (refused K R moment w refusal)
refused_acts K R moment w (ScreenBlocked screen) c names s late asked =
    blocked_acts K R moment (ScreenBlocked screen) w.judged (λ j is. (c.judged j is).there)
    (λ j is. valid_screened K R moment (Some j) s late (λ k same. names s (subst IsAsked (sym (asked screen refl)) tt) k (is ∙ same))) late
refused_acts K R moment w (QuotaExceeded folder would limit) c names s late asked =
    let asc = valid_ascending K R s in
    exceeded_acts K R moment (QuotaExceeded folder would limit) (due_refused K R w.effect.nodes moment) (due_refused K R w.effect.nodes moment) refl
    (order_refused K R w.effect.nodes moment asc) (of_quota_refused K R w.effect.nodes moment) (refused_there K R w.effect.nodes moment asc)
refused_acts K R moment w other c names s late asked = no_acts R (Refused other)

pub decided_acts : (K : Capacity) (R : Rows) (moment : ℕ) (late : Bool) (w : Work) → IsOrderly K R w → KeepsValid K R w → NamesJudged K R w → IsValid K R → moment ≤ latest_moment → (o : Option Refusal) → verdict late w ≡ o → AreActs (decided K R moment w o)
decided_acts K R moment late w c keeps names s legal (Some refusal) e =
    refused_acts K R moment w refusal c names s legal (λ screen is. own_verdict late w screen (e ∙ ap (λ r. Some r) is))
decided_acts K R moment late w c keeps names s legal None e =
    by w.lasts (keeps s none) (λ j is. names s (subst IsAsked (sym none) tt) j is)
  where
    none : first w.checks ≡ None
    none = (first_none (ClockBack when late) w.checks e).1

    by : (lasts : Bool) → IsValid K (followed R w.effect) → ((j : Judged) → w.judged ≡ Some j → is_name j.name ≡ true) → AreActs (if lasts then lasted K R (screened (followed R w.effect) moment w.judged) moment w.outcome else unlasting (followed R w.effect) w.outcome)
    by true v named =
        accepted_acts K R (followed R w.effect) moment w.judged w.outcome (valid_screened K (followed R w.effect) moment w.judged v legal named) legal
        (λ j is. let judged = c.judged j is in ap (row_of screen_folder j.screen.folder) judged.same ∙ judged.there)
    by false v named = no_acts (followed R w.effect) w.outcome
