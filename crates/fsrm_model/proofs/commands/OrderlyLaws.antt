-- The laws over all commands, of any work that is orderly.
use Rattle.std.proofs.Common.{◌≡◌, ℕ, ◌≤◌, ◌==◌, ◌⊎◌, ◌&&◌, ◌||◌, not, Bool, true, false, List, [], ◌∷◌, ◌++◌, refl, sym, ap, ◌∙◌, subst, inl, inr, Some, None, Option}
use Rattle.std.proofs.lemmas.List.{append-nil}
use Rattle.std.specs.Prelude.{is_some, map, option_map, if◌then◌else◌}
use Rattle.std.specs.Option.{option_map_or}
use Rattle.fsrm_model.specs.declared.command.Act.{Act}
use Rattle.fsrm_model.specs.declared.command.Ask.TheVariants.{Quotas, Templates, Autos, Groups, Screens, Excepts, Jobs, Settings, Acts}
use Rattle.fsrm_model.specs.declared.command.Outcome.{Outcome}
use Rattle.fsrm_model.specs.declared.command.Outcome.TheVariants.{Done, Sum, Listing, Report, Scanned, Refused}
use Rattle.fsrm_model.specs.declared.command.Refusal.{Refusal}
use Rattle.fsrm_model.specs.declared.command.Refusal.TheVariants.{ClockBack, ScreenBlocked, QuotaExceeded}
use Rattle.fsrm_model.specs.declared.row.Capacity.{Capacity}
use Rattle.fsrm_model.specs.declared.row.NodeRow.{NodeRow}
use Rattle.fsrm_model.specs.declared.row.QuotaRow.{QuotaRow}
use Rattle.fsrm_model.specs.declared.row.Rows.{Rows}
use Rattle.fsrm_model.specs.objects.Audits.{audited}
use Rattle.fsrm_model.specs.commands.Check.{Check, ◌when◌, first}
use Rattle.fsrm_model.specs.meaning.Exceeds.{Exceeds}
use Rattle.fsrm_model.specs.objects.DueActions.{due, due_refused, due_screen}
use Rattle.fsrm_model.specs.meaning.Exceptions.{run_by_refusal, may_leave, noted, left_with, left_after}
use Rattle.fsrm_model.specs.store.Lasting.{lasting}
use Rattle.fsrm_model.specs.values.Name.{is_name}
use Rattle.fsrm_model.specs.values.Limits.{latest_moment}
use Rattle.fsrm_model.specs.meaning.Named.{IsNamed}
use Rattle.fsrm_model.specs.objects.QuotaStates.{followed}
use Rattle.fsrm_base.specs.Keyed.{has_row}
use Rattle.fsrm_model.specs.objects.Quota.{folder_of, peaked, peaks}
use Rattle.fsrm_model.specs.objects.Reached.{reached, crossed}
use Rattle.fsrm_model.specs.objects.Runs.{run_quota, entry_of, ran}
use Rattle.fsrm_model.specs.objects.Screens.{screen_folder}
use Rattle.fsrm_model.specs.commands.Step.{Stepped, Acted, acted, screened_by, screened, ran_if_any, refused_leaving, refused, decided, lasted, unlasting}
use Rattle.fsrm_model.specs.nodes.Tree.{number, is_folder, usage}
use Rattle.fsrm_model.specs.store.Valid.{is_empty, IsValid}
use Rattle.fsrm_model.specs.commands.Work.{Work, Judged}
use Rattle.fsrm_base.proofs.Look.{found_has}
use Rattle.fsrm_model.proofs.commands.Ends.{refused_cases, screened_nodes, outcome_kept, nodes_kept}
use Rattle.fsrm_model.proofs.commands.Orderly.{IsAnswer, IsBlocked, IsCheck, IsPlaced, IsFiltered, IsWithin, KeepsLimits, KeepsValid, IsAsked, NamesJudged, IsOrderly, bare, first_check, first_none, none_rises}
use Rattle.fsrm_model.proofs.commands.QuotaLaws.{exceeded_is, peaked_there}
use Rattle.fsrm_model.proofs.thresholds.ActLaws.{none_due}
use Rattle.fsrm_model.proofs.thresholds.ReachedLaws.{none_crossed, reached_peaked}
use Rattle.fsrm_model.proofs.thresholds.RunLaws.{reached_ran, none_ran, few_entries}
use Rattle.fsrm_model.proofs.valid.RowsKept.{valid_ended, valid_ran, valid_audited, screens_folder}
use Rattle.fsrm_model.proofs.valid.ValidLaws.{folder_has}

-- what decides: whether the moment is too early, and then the work's own checks
abbrev pub verdict : Bool → Work → Option Refusal
verdict late w = first ((ClockBack when late) ∷ w.checks)

-- an answer is that of the work
answered : (K : Capacity) (R : Rows) (moment : ℕ) (w : Work) (outcome : Outcome) → IsOrderly K R w → (decided K R moment w None).outcome ≡ outcome → IsAnswer K R outcome
answered K R moment w outcome c h = subst (IsAnswer K R) (sym (outcome_kept K R moment w) ∙ h) c.answer

-- a refused command answers its refusal, and leaves the nodes
pub refused_outcome : (K : Capacity) (R : Rows) (moment : ℕ) (w : Work) (refusal : Refusal) → (refused K R moment w refusal).outcome ≡ Refused refusal
refused_outcome K R moment w refusal = refused_cases K R moment w refusal (λ s. s.outcome ≡ Refused refusal) refl (λ acts. refl) (λ screen j is judged. refl)

refused_nodes : (K : Capacity) (R : Rows) (moment : ℕ) (w : Work) (refusal : Refusal) → (refused K R moment w refusal).rows.nodes ≡ R.nodes
refused_nodes K R moment w refusal = refused_cases K R moment w refusal (λ s. s.rows.nodes ≡ R.nodes) refl (λ acts. refl) (λ screen j is judged. refl)

same_refusal : (a b : Refusal) → Refused a ≡ Refused b → a ≡ b
same_refusal a b h = cc h

-- The actions ran that run all the same, and nothing else is left
pub record LeavesRuns (K : Capacity) (R : Rows) (moment : ℕ) (w : Work) (refusal : Refusal) (s : Stepped) : Type 0 where
  pub acts_are : s.acts ≡ run_by_refusal K R moment w refusal
  pub lasts : s.lasting ≡ may_leave K R moment w refusal
  pub rows_are : s.rows ≡ left_after K R moment w refusal

-- rows in which the same is reached, as those with one more entry in the audit log
abbrev pub ReachesSame : Capacity → Rows → Rows → Type 0
ReachesSame K R base = (folder percent : ℕ) → reached K base folder percent ≡ reached K R folder percent

-- nothing is due after actions ran, since what is reached stays
none_more : (K : Capacity) (R base : Rows) (moment : ℕ) (acts : List Act) → ReachesSame K R base → due K R (peaks K (ran moment acts base) moment) moment ≡ []
none_more K R base moment acts same = none_due K R (peaks K (ran moment acts base) moment) moment none
  where
    none : (folder percent : ℕ) → crossed K R (peaks K (ran moment acts base) moment) folder percent ≡ false
    none folder percent =
        ap (λ b. b && not (reached K R folder percent)) (reached_peaked K (ran moment acts base) moment folder percent ∙ (reached_ran K moment acts base folder percent ∙ same folder percent))
        ∙ none_crossed K R folder percent

-- so what is left are their runs, peaks and the moment
pub left_is : (K : Capacity) (R base : Rows) (moment : ℕ) (acts : List Act) (outcome : Outcome) → ReachesSame K R base → (lasted K R (acted moment acts base) moment outcome).rows ≡ left_with K base moment acts
left_is K R base moment acts outcome same =
    let peaked = peaks K (ran moment acts base) moment in
    ap (λ more. record (ran moment more peaked) { last_moment = moment }) (none_more K R base moment acts same)
    ∙ ap (λ (rows : Rows). record rows { last_moment = moment }) (none_ran moment peaked (few_entries (base.acts ++ map (entry_of moment) acts)))

pub acts_left : (K : Capacity) (R base : Rows) (moment : ℕ) (acts : List Act) (outcome : Outcome) → ReachesSame K R base → (lasted K R (acted moment acts base) moment outcome).acts ≡ acts
acts_left K R base moment acts outcome same = ap (λ more. acts ++ more) (none_more K R base moment acts same) ∙ append-nil acts

pub itself_same : (K : Capacity) (R : Rows) → ReachesSame K R R
itself_same K R folder percent = refl

pub audited_same : (K : Capacity) (R : Rows) (moment : ℕ) (j : Judged) → ReachesSame K R (audited moment j R)
audited_same K R moment j folder percent = refl

-- what a refusal leaves by a screen that judges a name
blocked_acts : (K : Capacity) (R : Rows) (moment : ℕ) (refusal : Refusal) (o : Option Judged) → (refused_leaving K R moment refusal (option_map (screened_by R moment) o)).acts ≡ option_map_or (λ j. due_screen R.run_limit moment j.screen) o []
blocked_acts K R moment refusal None = refl
blocked_acts K R moment refusal (Some j) = acts_left K R (audited moment j R) moment (due_screen R.run_limit moment j.screen) (Refused refusal) (audited_same K R moment j)

blocked_lasts : (K : Capacity) (R : Rows) (moment : ℕ) (refusal : Refusal) (o : Option Judged) → (refused_leaving K R moment refusal (option_map (screened_by R moment) o)).lasting ≡ is_some o
blocked_lasts K R moment refusal None = refl
blocked_lasts K R moment refusal (Some j) = refl

blocked_rows : (K : Capacity) (R : Rows) (moment : ℕ) (refusal : Refusal) (o : Option Judged) → (refused_leaving K R moment refusal (option_map (screened_by R moment) o)).rows ≡ (if is_some o then left_with K (option_map_or (λ j. audited moment j R) o R) moment (option_map_or (λ j. due_screen R.run_limit moment j.screen) o []) else R)
blocked_rows K R moment refusal None = refl
blocked_rows K R moment refusal (Some j) = left_is K R (audited moment j R) moment (due_screen R.run_limit moment j.screen) (Refused refusal) (audited_same K R moment j)

-- what a refusal leaves by a quota
exceeded_rows : (K : Capacity) (R : Rows) (moment : ℕ) (refusal : Refusal) (acts : List Act) → (refused_leaving K R moment refusal (ran_if_any moment acts R)).rows ≡ (if not (is_empty acts) then left_with K R moment acts else R)
exceeded_rows K R moment refusal [] = refl
exceeded_rows K R moment refusal (act ∷ acts) = left_is K R R moment (act ∷ acts) (Refused refusal) (itself_same K R)

exceeded_acts : (K : Capacity) (R : Rows) (moment : ℕ) (refusal : Refusal) (acts : List Act) → (refused_leaving K R moment refusal (ran_if_any moment acts R)).acts ≡ acts
exceeded_acts K R moment refusal [] = refl
exceeded_acts K R moment refusal (act ∷ acts) = acts_left K R R moment (act ∷ acts) (Refused refusal) (itself_same K R)

exceeded_lasts : (K : Capacity) (R : Rows) (moment : ℕ) (refusal : Refusal) (acts : List Act) → (refused_leaving K R moment refusal (ran_if_any moment acts R)).lasting ≡ not (is_empty acts)
exceeded_lasts K R moment refusal [] = refl
exceeded_lasts K R moment refusal (act ∷ acts) = refl

pub refused_leaves : (K : Capacity) (R : Rows) (moment : ℕ) (w : Work) (refusal : Refusal) → LeavesRuns K R moment w refusal (refused K R moment w refusal)
refused_leaves K R moment w (ScreenBlocked screen) =
    record {
      acts_are = blocked_acts K R moment (ScreenBlocked screen) w.judged;
      lasts = blocked_lasts K R moment (ScreenBlocked screen) w.judged;
      rows_are = blocked_rows K R moment (ScreenBlocked screen) w.judged;
    }
refused_leaves K R moment w (QuotaExceeded folder would limit) =
    let acts = due_refused K R w.effect.nodes moment in
    record {
      acts_are = exceeded_acts K R moment (QuotaExceeded folder would limit) acts;
      lasts = exceeded_lasts K R moment (QuotaExceeded folder would limit) acts;
      rows_are = exceeded_rows K R moment (QuotaExceeded folder would limit) acts;
    }
refused_leaves K R moment w other = record { acts_are = refl; lasts = refl; rows_are = refl }

pub refused_kept : (K : Capacity) (R : Rows) (moment : ℕ) (w : Work) → IsOrderly K R w → (o : Option Refusal) (refusal : Refusal) → (decided K R moment w o).outcome ≡ Refused refusal → LeavesRuns K R moment w refusal (decided K R moment w o)
refused_kept K R moment w c (Some r) refusal h =
    subst (λ r'. LeavesRuns K R moment w r' (refused K R moment w r)) (same_refusal r refusal (sym (refused_outcome K R moment w r) ∙ h)) (refused_leaves K R moment w r)
refused_kept K R moment w c None refusal h = absurd (answered K R moment w (Refused refusal) c h)

-- what leaves nothing changes nothing
pub same_or_left : (K : Capacity) (R rows : Rows) (moment : ℕ) (w : Work) (refusal : Refusal) → rows ≡ left_after K R moment w refusal → (rows ≡ R) ⊎ (may_leave K R moment w refusal ≡ true)
same_or_left K R rows moment w refusal h = by (may_leave K R moment w refusal) refl h
  where
    by : (b : Bool) → may_leave K R moment w refusal ≡ b → rows ≡ (if b then left_with K (noted R moment w refusal) moment (run_by_refusal K R moment w refusal) else R) → (rows ≡ R) ⊎ (may_leave K R moment w refusal ≡ true)
    by true e same = inr e
    by false e same = inl same

-- what refuses is the first check that holds
pub refused_by : (K : Capacity) (R : Rows) (moment : ℕ) (w : Work) → IsOrderly K R w → (o : Option Refusal) (refusal : Refusal) → (decided K R moment w o).outcome ≡ Refused refusal → o ≡ Some refusal
refused_by K R moment w c (Some r) refusal h = ap (λ (r : Refusal). Some r) (same_refusal r refusal (sym (refused_outcome K R moment w r) ∙ h))
refused_by K R moment w c None refusal h = absurd (answered K R moment w (Refused refusal) c h)

no_sum : (refusal : Refusal) (folder bytes : ℕ) → Refused refusal ≡ Sum folder bytes → ⊥
no_sum refusal folder bytes h = cc h

pub sum_afresh : (K : Capacity) (R : Rows) (moment : ℕ) (w : Work) → IsOrderly K R w → (o : Option Refusal) (folder bytes : ℕ) → (decided K R moment w o).outcome ≡ Sum folder bytes → bytes ≡ usage K R.nodes folder
sum_afresh K R moment w c (Some r) folder bytes h = absurd (no_sum r folder bytes (sym (refused_outcome K R moment w r) ∙ h))
sum_afresh K R moment w c None folder bytes h = answered K R moment w (Sum folder bytes) c h

-- a refusal for a quota names the one that the nodes of the effect exceed
pub refusal_exceeds : (K : Capacity) (R : Rows) (late : Bool) (w : Work) → IsOrderly K R w → IsValid K R → (folder would limit : ℕ) → verdict late w ≡ Some (QuotaExceeded folder would limit) → Exceeds K R w.effect.nodes folder would limit
refusal_exceeds K R late w c store folder would limit h =
    let nodes = w.effect.nodes in
    let check = first_check K R nodes w.judged ((ClockBack when late) ∷ w.checks) (bare _ _ refl, c.checks) in
    exceeded_is K R nodes folder would limit store.quotas.ascending (subst (IsCheck K R nodes w.judged) h check).over

-- a refusal by a screen names the one that judges the name
pub refusal_blocks : (K : Capacity) (R : Rows) (late : Bool) (w : Work) → IsOrderly K R w → (screen : ℕ) → verdict late w ≡ Some (ScreenBlocked screen) → IsBlocked w.judged screen
refusal_blocks K R late w c screen h =
    let nodes = w.effect.nodes in
    (subst (IsCheck K R nodes w.judged) h (first_check K R nodes w.judged ((ClockBack when late) ∷ w.checks) (bare _ _ refl, c.checks))).over

-- a work that keeps the nodes isn't refused for a quota
pub still_unexceeded : (K : Capacity) (R : Rows) (nodes : List NodeRow) (folder would limit : ℕ) → nodes ≡ R.nodes → Exceeds K R nodes folder would limit → ⊥
still_unexceeded K R nodes folder would limit same e = none_rises K R nodes same folder e.is_over.rises

-- no usage rises above a limit
pub limits_hold : (K : Capacity) (R : Rows) (moment : ℕ) (late : Bool) (w : Work) → KeepsLimits K R w → IsValid K R → (o : Option Refusal) → verdict late w ≡ o → IsWithin K R (decided K R moment w o).rows.nodes
limits_hold K R moment late w keeps store (Some r) e = λ folder quota rising. absurd (none_rises K R (refused K R moment w r).rows.nodes (refused_nodes K R moment w r) folder rising.rises)
limits_hold K R moment late w keeps store None e =
    subst (IsWithin K R) (sym (nodes_kept K R moment w)) (keeps store (first_none (ClockBack when late) w.checks e).1)

-- quotas whose actions ran stay at their folders
run_there : (moment : ℕ) (acts : List Act) (folder : ℕ) (quotas : List QuotaRow) → has_row folder_of folder (map (run_quota moment acts) quotas) ≡ has_row folder_of folder quotas
run_there moment acts folder [] = refl
run_there moment acts folder (quota ∷ quotas) = ap (λ b. (quota.folder == folder) || b) (run_there moment acts folder quotas)

-- an outcome names what is there, and a report's filter has values in their ranges
named_joined : (R : Rows) (outcome : Outcome) → IsPlaced R outcome → IsFiltered outcome → IsNamed R outcome
named_joined R (Done passive) h f = h
named_joined R (Sum node bytes) h f = h
named_joined R (Listing ask) h f = h
named_joined R (Report ask) h f = (h, f)
named_joined R (Scanned folder visited used) h f = h
named_joined R (Refused refusal) h f = h

-- an outcome names what is there, as long as the nodes stay and each quota its folder
named_same : (E F : Rows) (outcome : Outcome) → F.nodes ≡ E.nodes → ((folder : ℕ) → has_row folder_of folder F.quotas ≡ has_row folder_of folder E.quotas) → IsNamed E outcome → IsNamed F outcome
named_same E F (Done None) same there h = tt
named_same E F (Done (Some screen)) same there h = ap (has_row number screen) same ∙ h
named_same E F (Sum node bytes) same there h = ap (has_row number node) same ∙ h
named_same E F (Listing (Quotas None)) same there h = tt
named_same E F (Listing (Quotas (Some folder))) same there h = there folder ∙ h
named_same E F (Listing Templates) same there h = tt
named_same E F (Listing Autos) same there h = tt
named_same E F (Listing Groups) same there h = tt
named_same E F (Listing Screens) same there h = tt
named_same E F (Listing Excepts) same there h = tt
named_same E F (Listing Jobs) same there h = tt
named_same E F (Listing Settings) same there h = tt
named_same E F (Listing Acts) same there h = tt
named_same E F (Report ask) same there h = (ap (λ nodes. is_folder nodes ask.scope) same ∙ h.0, h.1)
named_same E F (Scanned folder visited used) same there h = ap (has_row number folder) same ∙ h
named_same E F (Refused (ScreenBlocked screen)) same there h = ap (has_row number screen) same ∙ h
named_same E F (Refused (QuotaExceeded folder would limit)) same there h = ap (has_row number folder) same ∙ h
named_same E F (Refused other) same there h = tt

-- over a name that is judged, and over the end of a command
screened_there : (E : Rows) (moment folder : ℕ) (o : Option Judged) → has_row folder_of folder (screened E moment o).rows.quotas ≡ has_row folder_of folder E.quotas
screened_there E moment folder None = refl
screened_there E moment folder (Some j) = run_there moment (due_screen E.run_limit moment j.screen) folder E.quotas

lasted_there : (K : Capacity) (R : Rows) (after : Acted) (moment : ℕ) (outcome : Outcome) (folder : ℕ) → has_row folder_of folder (lasted K R after moment outcome).rows.quotas ≡ has_row folder_of folder after.rows.quotas
lasted_there K R after moment outcome folder =
    run_there moment (due K R (peaks K after.rows moment) moment) folder (map (peaked K after.rows.nodes moment) after.rows.quotas) ∙ peaked_there K after.rows.nodes moment folder after.rows.quotas

named_in : (K : Capacity) (R : Rows) (moment : ℕ) (w : Work) (lasts : Bool) → IsNamed w.effect w.outcome → IsNamed (if lasts then lasted K R (screened (followed R w.effect) moment w.judged) moment w.outcome else unlasting (followed R w.effect) w.outcome).rows w.outcome
named_in K R moment w true h =
    let after = screened (followed R w.effect) moment w.judged in
    named_same w.effect (lasted K R after moment w.outcome).rows w.outcome (screened_nodes (followed R w.effect) moment w.judged)
    (λ folder. lasted_there K R after moment w.outcome folder ∙ screened_there (followed R w.effect) moment folder w.judged) h
named_in K R moment w false h = named_same w.effect (followed R w.effect) w.outcome refl (λ folder. refl) h

-- so does a refusal, in the rows that it leaves
refusal_named : (K : Capacity) (R : Rows) (nodes : List NodeRow) (w : Work) (check : Check) (refusal : Refusal) → IsValid K R → IsOrderly K R w → check ≡ Some refusal → IsCheck K R nodes w.judged check → IsNamed R (Refused refusal)
refusal_named K R nodes w check (ScreenBlocked screen) store c e h =
    let blocked = (subst (IsCheck K R nodes w.judged) e h).over in
    let there = found_has screen_folder blocked.by.screen.folder R.screens blocked.by.screen (c.judged blocked.by blocked.is).there in
    folder_has R.nodes screen (screens_folder R screen store.tables.screens (ap (λ n. has_row screen_folder n R.screens) (sym blocked.folder) ∙ there))
refusal_named K R nodes w check (QuotaExceeded folder would limit) store c e h =
    let found = exceeded_is K R nodes folder would limit store.quotas.ascending (subst (IsCheck K R nodes w.judged) e h).over in
    folder_has R.nodes folder (store.quotas.folders folder found.quota found.is_over.is_there)
refusal_named K R nodes w check other store c e h = tt

-- and as long as the nodes stay
still_named : (R E : Rows) (refusal : Refusal) → E.nodes ≡ R.nodes → IsNamed R (Refused refusal) → IsNamed E (Refused refusal)
still_named R E (ScreenBlocked screen) same h = ap (has_row number screen) same ∙ h
still_named R E (QuotaExceeded folder would limit) same h = ap (λ nodes. has_row number folder nodes) same ∙ h
still_named R E other same h = tt

pub outcome_named : (K : Capacity) (R : Rows) (moment : ℕ) (late : Bool) (w : Work) → IsOrderly K R w → IsValid K R → (first w.checks ≡ None → IsFiltered w.outcome) → (o : Option Refusal) → verdict late w ≡ o → IsNamed (decided K R moment w o).rows (decided K R moment w o).outcome
outcome_named K R moment late w c store filtered (Some refusal) e =
    let nodes = w.effect.nodes in
    let names = refusal_named K R nodes w (verdict late w) refusal store c e (first_check K R nodes w.judged ((ClockBack when late) ∷ w.checks) (bare _ _ refl, c.checks)) in
    subst (IsNamed (refused K R moment w refusal).rows) (sym (refused_outcome K R moment w refusal))
    (still_named R (refused K R moment w refusal).rows refusal (refused_nodes K R moment w refusal) names)
outcome_named K R moment late w c store filtered None e =
    let none = (first_none (ClockBack when late) w.checks e).1 in
    subst (IsNamed (decided K R moment w None).rows) (sym (outcome_kept K R moment w))
    (named_in K R moment w w.lasts (named_joined w.effect w.outcome (c.named store none) (filtered none)))

-- what doesn't last leaves what a store keeps
quiet_end : (K : Capacity) (R : Rows) (moment : ℕ) (w : Work) (lasts : Bool) → w.lasts ≡ lasts → (w.lasts ≡ false → lasting w.effect ≡ lasting R) → (if lasts then lasted K R (screened (followed R w.effect) moment w.judged) moment w.outcome else unlasting (followed R w.effect) w.outcome).lasting ≡ false → lasting (if lasts then lasted K R (screened (followed R w.effect) moment w.judged) moment w.outcome else unlasting (followed R w.effect) w.outcome).rows ≡ lasting R
quiet_end K R moment w true e h l = absurd (cc l)
quiet_end K R moment w false e h l = h e

pub unlasting_kept : (K : Capacity) (R : Rows) (moment : ℕ) (late : Bool) (w : Work) → IsOrderly K R w → IsValid K R → (o : Option Refusal) → verdict late w ≡ o → (decided K R moment w o).lasting ≡ false → lasting (decided K R moment w o).rows ≡ lasting R
unlasting_kept K R moment late w c store (Some refusal) e l =
    refused_cases K R moment w refusal (λ s. s.lasting ≡ false → lasting s.rows ≡ lasting R) (λ l. refl) (λ acts l. absurd (cc l)) (λ screen j is judged l. absurd (cc l)) l
unlasting_kept K R moment late w c store None e l = quiet_end K R moment w w.lasts refl (c.quiet store (first_none (ClockBack when late) w.checks e).1) l

-- the rows of a store stay such, over a name that is judged, over a refusal and over the end of a command
pub valid_screened : (K : Capacity) (E : Rows) (moment : ℕ) (o : Option Judged) → IsValid K E → moment ≤ latest_moment → ((j : Judged) → o ≡ Some j → is_name j.name ≡ true) → IsValid K (screened E moment o).rows
valid_screened K E moment None s late named = s
valid_screened K E moment (Some j) s late named =
    valid_ran K (audited moment j E) moment (due_screen E.run_limit moment j.screen) (valid_audited K E moment j s late (named j refl)) late

valid_end : (K : Capacity) (R : Rows) (moment : ℕ) (w : Work) (lasts : Bool) → moment ≤ latest_moment → IsValid K (followed R w.effect) → ((j : Judged) → w.judged ≡ Some j → is_name j.name ≡ true) → IsValid K (if lasts then lasted K R (screened (followed R w.effect) moment w.judged) moment w.outcome else unlasting (followed R w.effect) w.outcome).rows
valid_end K R moment w true late s named =
    let after = (screened (followed R w.effect) moment w.judged).rows in
    valid_ended K after moment (due K R (peaks K after moment) moment) (valid_screened K (followed R w.effect) moment w.judged s late named) late
valid_end K R moment w false late s named = s

-- what decides, if the moment isn't too early, are the work's own checks
pub own_verdict : (late : Bool) (w : Work) (screen : ℕ) → verdict late w ≡ Some (ScreenBlocked screen) → first w.checks ≡ Some (ScreenBlocked screen)
own_verdict true w screen h = absurd (cc h)
own_verdict false w screen h = h

pub valid_kept : (K : Capacity) (R : Rows) (moment : ℕ) (late : Bool) (w : Work) → KeepsValid K R w → NamesJudged K R w → IsValid K R → moment ≤ latest_moment → (o : Option Refusal) → verdict late w ≡ o → IsValid K (decided K R moment w o).rows
valid_kept K R moment late w keeps names store legal (Some refusal) e =
    refused_cases K R moment w refusal (λ s. IsValid K s.rows) store
    (λ acts. valid_ended K (ran moment acts R) moment (due K R (peaks K (ran moment acts R) moment) moment) (valid_ran K R moment acts store legal) legal)
    (λ screen j is judged.
    let asked : first w.checks ≡ Some (ScreenBlocked screen) = own_verdict late w screen (e ∙ ap (λ r. Some r) is) in
    let named : is_name j.name ≡ true = names store (subst IsAsked (sym asked) tt) j judged in
    let after = (screened_by R moment j).rows in
    valid_ended K after moment (due K R (peaks K after moment) moment)
    (valid_ran K (audited moment j R) moment (due_screen R.run_limit moment j.screen) (valid_audited K R moment j store legal named) legal) legal)
valid_kept K R moment late w keeps names store legal None e =
    let none = (first_none (ClockBack when late) w.checks e).1 in
    valid_end K R moment w w.lasts legal (keeps store none) (names store (subst IsAsked (sym none) tt))
