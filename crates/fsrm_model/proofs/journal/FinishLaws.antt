-- What is kept of a store's rows is such a store's rows. A finish does the same to rows and to what is kept of them, it
-- keeps valid rows, and a step that finishes a scan is one.
use Rattle.std.proofs.Common.{◌≡◌, ℕ, ◌≤◌, ◌==◌, Bool, true, false, cond, List, [], ◌∷◌, refl, sym, ◌∙◌, ap, subst, Some, None, Option, length, nat_lt}
use Rattle.std.proofs.lemmas.Option.{same_Some}
use Rattle.std.specs.Prelude.{option_map, unwrap_or, if◌then◌else◌}
use Rattle.std.specs.Option.{option_map_or}
use Rattle.fsrm_base.specs.Keyed.{row_of, has_row}
use Rattle.fsrm_base.specs.Numbers.{is_in}
use Rattle.fsrm_base.proofs.Look.{found_has, has_found}
use Rattle.fsrm_model.specs.declared.command.Deed.TheVariants.{Step}
use Rattle.fsrm_model.specs.declared.command.Outcome.{Outcome}
use Rattle.fsrm_model.specs.declared.command.Outcome.TheVariants.{Done, Scanned}
use Rattle.fsrm_model.specs.declared.command.Refusal.TheVariants.{ClockBack, NothingToScan}
use Rattle.fsrm_model.specs.declared.row.Capacity.{Capacity}
use Rattle.fsrm_model.specs.declared.row.QuotaRow.{QuotaRow}
use Rattle.fsrm_model.specs.declared.row.QuotaState.{QuotaState}
use Rattle.fsrm_model.specs.declared.row.QuotaState.TheVariants.{Complete, Disabled, Rebuilding, Incomplete}
use Rattle.fsrm_model.specs.declared.row.Rows.{Rows}
use Rattle.fsrm_model.specs.commands.Check.{◌when◌, first}
use Rattle.fsrm_model.specs.objects.DueActions.{due}
use Rattle.fsrm_model.specs.store.Lasting.{flagged, flagged_quota, lasting}
use Rattle.fsrm_model.specs.values.Limits.{latest_moment}
use Rattle.fsrm_model.specs.objects.Quota.{folder_of, quota_of, peaks}
use Rattle.fsrm_model.specs.objects.QuotaStates.{head, is_rebuilding, state_of, with_state, followed}
use Rattle.fsrm_model.specs.store.Replays.{is_unfinished, completed, finished, finish, finish_acts}
use Rattle.fsrm_model.specs.objects.Scan.{visits}
use Rattle.fsrm_model.specs.commands.ScanWork.{step_work}
use Rattle.fsrm_model.specs.commands.Step.{Stepped, unacted, decided, lasted, unlasting, screened, step}
use Rattle.fsrm_model.specs.store.Valid.{has_source, IsValid}
use Rattle.fsrm_model.specs.store.ValidScans.{IsQueue}
use Rattle.fsrm_model.specs.commands.Work.{Work}
use Rattle.fsrm_model.proofs.commands.ScanCommands.{some_head, state_followed}
use Rattle.fsrm_model.proofs.journal.Alike.{RowsAlike, lasting_alike, with_state_alike}
use Rattle.fsrm_model.proofs.journal.AlikeSteps.{StepsAlike, lasted_alike}
use Rattle.fsrm_model.proofs.journal.KeptEnds.{state_lasting}
use Rattle.fsrm_model.proofs.journal.KeptQuotas.{kept, kept_twice, kept_row, kept_bytes, rebuilding_flagged}
use Rattle.fsrm_model.proofs.thresholds.KeptLaws.{same_texts}
use Rattle.fsrm_model.proofs.valid.QuotasKept.{quotas-map}
use Rattle.fsrm_model.proofs.valid.RowsKept.{valid_ended, head_in}
use Rattle.fsrm_model.proofs.valid.ScreensKept.{all_map}

-- ---- what is kept of valid rows
still_flagged : (o : Option QuotaRow) (q : QuotaRow) → option_map flagged_quota o ≡ Some q → is_rebuilding q.state ≡ false
still_flagged None q h = absurd (cc h)
still_flagged (Some r) q h = ap (λ (q : QuotaRow). is_rebuilding q.state) (sym (same_Some (flagged_quota r) q h)) ∙ rebuilding_flagged r.state

none_waits : (quotas : List QuotaRow) → IsQueue (kept quotas) []
none_waits quotas =
    record {
      once = refl;
      queued = λ f h. absurd (cc h);
      rebuilding = λ f q found. sym (still_flagged (row_of folder_of f quotas) q (sym (kept_row f quotas) ∙ found));
    }

pub lasting_valid : (K : Capacity) (R : Rows) → IsValid K R → IsValid K (lasting R)
lasting_valid K R s =
    record {
      volume = s.volume;
      quotas = quotas-map R.nodes R.quotas flagged_quota s.quotas (λ q. refl) (λ q is. record { limit = is.limit; thresholds = is.thresholds; moment = is.moment });
      tables = record {
        sources = all_map (has_source R.templates) flagged_quota R.quotas (λ q is. is) s.tables.sources;
        templates = s.tables.templates;
        autos = s.tables.autos;
        jobs = s.tables.jobs;
        groups = s.tables.groups;
        screens = s.tables.screens;
        excepts = s.tables.excepts;
        audits = s.tables.audits;
      };
      texts = same_texts R (kept R.quotas) (kept_bytes R.quotas) s.texts;
      log = s.log;
      run_limit = s.run_limit;
      last_moment = s.last_moment;
      queue = none_waits R.quotas;
      unvisited = refl;
    }

-- ---- a finish
unfinished_flagged : (state : QuotaState) → is_unfinished (flagged state) ≡ is_unfinished state
unfinished_flagged Complete = refl
unfinished_flagged Disabled = refl
unfinished_flagged Rebuilding = refl
unfinished_flagged Incomplete = refl

unfinished_lasting : (R : Rows) (folder : ℕ) → is_unfinished (state_of (lasting R) folder) ≡ is_unfinished (state_of R folder)
unfinished_lasting R folder = ap is_unfinished (state_lasting R folder) ∙ unfinished_flagged (state_of R folder)

completed_alike : (K : Capacity) (R : Rows) (moment folder : ℕ) → StepsAlike (lasted K R (unacted (followed R (with_state R folder Complete))) moment (Done None)) (lasted K (lasting R) (unacted (followed (lasting R) (with_state (lasting R) folder Complete))) moment (Done None))
completed_alike K R moment folder =
    lasted_alike K R (unacted (followed R (with_state R folder Complete))) (unacted (followed (lasting R) (with_state (lasting R) folder Complete))) moment (Done None)
    (ap (λ (rows : Rows). record { rows = rows; acts = [] }) (with_state_alike R folder Complete Complete refl R.quotas (kept R.quotas) (kept_twice R.quotas)).same)

pub finish_alike : (K : Capacity) (R : Rows) (moment folder : ℕ) → RowsAlike (finish K R moment folder) (finish K (lasting R) moment folder)
finish_alike K R moment folder =
    subst (λ b. RowsAlike (finish K R moment folder) (cond b (finished K (lasting R) moment folder) (lasting R))) (sym (unfinished_lasting R folder)) (at (is_unfinished (state_of R folder)))
  where
    at : (b : Bool) → RowsAlike (cond b (finished K R moment folder) R) (cond b (finished K (lasting R) moment folder) (lasting R))
    at true = (completed_alike K R moment folder).rows
    at false = lasting_alike R

pub finish_acts_alike : (K : Capacity) (R : Rows) (moment folder : ℕ) → finish_acts K (lasting R) moment folder ≡ finish_acts K R moment folder
finish_acts_alike K R moment folder =
    ap (λ b. cond b (completed K (lasting R) moment folder).acts []) (unfinished_lasting R folder) ∙ at (is_unfinished (state_of R folder))
  where
    at : (b : Bool) → cond b (completed K (lasting R) moment folder).acts [] ≡ cond b (completed K R moment folder).acts []
    at true = (completed_alike K R moment folder).acts
    at false = refl

-- it keeps valid rows
unfinished_there : (R : Rows) (folder : ℕ) (o : Option QuotaRow) → quota_of R folder ≡ o → is_unfinished (option_map_or (λ (q : QuotaRow). q.state) o Disabled) ≡ true → has_row folder_of folder R.quotas ≡ true
unfinished_there R folder None e h = absurd (cc h)
unfinished_there R folder (Some q) e h = found_has folder_of folder R.quotas q e

finished_valid : (K : Capacity) (R : Rows) (moment folder : ℕ) → IsValid K R → moment ≤ latest_moment → has_row folder_of folder R.quotas ≡ true → IsValid K (finished K R moment folder)
finished_valid K R moment folder s late there =
    let E : Rows = followed R (with_state R folder Complete) in
    valid_ended K E moment (due K R (peaks K E moment) moment) (state_followed K R folder Complete s there) late

pub finish_valid : (K : Capacity) (R : Rows) (moment folder : ℕ) → IsValid K R → moment ≤ latest_moment → IsValid K (finish K R moment folder)
finish_valid K R moment folder s late = at (is_unfinished (state_of R folder)) refl
  where
    at : (b : Bool) → is_unfinished (state_of R folder) ≡ b → IsValid K (cond b (finished K R moment folder) R)
    at true e = finished_valid K R moment folder s late (unfinished_there R folder (quota_of R folder) refl e)
    at false e = s

-- ---- a step that finishes a scan
rebuilding_unfinished : (state : QuotaState) → is_rebuilding state ≡ true → is_unfinished state ≡ true
rebuilding_unfinished Complete h = absurd (cc h)
rebuilding_unfinished Disabled h = absurd (cc h)
rebuilding_unfinished Rebuilding h = refl
rebuilding_unfinished Incomplete h = absurd (cc h)

head_unfinished : (K : Capacity) (R : Rows) → IsValid K R → (length R.queue == 0) ≡ false → is_unfinished (state_of R (unwrap_or (head R.queue) 0)) ≡ true
head_unfinished K R s h =
    let scanned = unwrap_or (head R.queue) 0 in
    let here : is_in R.queue scanned ≡ true = head_in R.queue scanned (some_head R.queue h) in
    let found = has_found folder_of scanned R.quotas (s.queue.queued scanned here) in
    ap (λ o. is_unfinished (option_map_or (λ (q : QuotaRow). q.state) o Disabled)) found.is
    ∙ rebuilding_unfinished found.row.state (sym (s.queue.rebuilding scanned found.row found.is) ∙ here)

-- a step that finishes a scan is its visits, and then a finish of the folder at the head of the queue
pub record IsFinish (K : Capacity) (R : Rows) (moment folder : ℕ) (s : Stepped) : Type 0 where
  pub rows : s.rows ≡ finish K R moment folder
  pub acts : s.acts ≡ finish_acts K R moment folder

pub step_is_finish : (K : Capacity) (R : Rows) (moment n : ℕ) → IsValid K R → (step K R (record { moment = moment; deed = Step n })).lasting ≡ true → IsFinish K (record R { unvisited = visits n R.nodes R.unvisited }) moment (unwrap_or (head R.queue) 0) (step K R (record { moment = moment; deed = Step n }))
step_is_finish K R moment n s l = by (nat_lt moment R.last_moment) (length R.queue == 0) refl l
  where
    w : Work
    w = step_work K R n

    scanned : ℕ
    scanned = unwrap_or (head R.queue) 0

    left : List ℕ
    left = visits n R.nodes R.unvisited

    visited : Rows
    visited = record R { unvisited = left }

    ended : Bool → Stepped
    ended ends =
        let after = followed R (if ends then with_state visited scanned Complete else visited) in
        if ends then lasted K R (screened after moment None) moment w.outcome else unlasting after w.outcome

    at : (ends : Bool) → (length R.queue == 0) ≡ false → (ended ends).lasting ≡ true → IsFinish K visited moment scanned (ended ends)
    at true some l =
        let unfinished = head_unfinished K R s some in
        record {
          rows = sym (ap (λ b. if b then finished K visited moment scanned else visited) unfinished);
          acts = sym (ap (λ b. if b then (completed K visited moment scanned).acts else []) unfinished);
        }
    at false some l = absurd (cc l)

    by : (late none : Bool) → (length R.queue == 0) ≡ none → (decided K R moment w (first ((ClockBack when late) ∷ (NothingToScan when none) ∷ []))).lasting ≡ true → IsFinish K visited moment scanned (decided K R moment w (first ((ClockBack when late) ∷ (NothingToScan when none) ∷ [])))
    by true none e l = absurd (cc l)
    by false true e l = absurd (cc l)
    by false false e l = at (length left == 0) e l

-- so that finish alone does the same, also over what is kept of the rows: the visits aren't
pub step_finishes : (K : Capacity) (R : Rows) (moment n : ℕ) → IsValid K R → (step K R (record { moment = moment; deed = Step n })).lasting ≡ true → RowsAlike (step K R (record { moment = moment; deed = Step n })).rows (finish K (lasting R) moment (unwrap_or (head R.queue) 0))
step_finishes K R moment n s l =
    record {
      same =
          (finish_alike K (record R { unvisited = visits n R.nodes R.unvisited }) moment (unwrap_or (head R.queue) 0)).same
          ∙ ap lasting (sym (step_is_finish K R moment n s l).rows);
    }

-- the answer of a step names the folder at the head of the queue, whether it finishes the scan or not
scanned_in : Outcome → ℕ
scanned_in (Scanned folder visited used) = folder
scanned_in other = 0

pub step_names : (K : Capacity) (R : Rows) (moment n folder visited : ℕ) (used : Option ℕ) → (step K R (record { moment = moment; deed = Step n })).outcome ≡ Scanned folder visited used → unwrap_or (head R.queue) 0 ≡ folder
unfolding scanned_in
step_names K R moment n folder visited used h = by (nat_lt moment R.last_moment) (length R.queue == 0) h
  where
    w : Work
    w = step_work K R n

    after : Rows
    after = followed R w.effect

    at : (lasts : Bool) → (if lasts then lasted K R (screened after moment None) moment w.outcome else unlasting after w.outcome).outcome ≡ Scanned folder visited used → unwrap_or (head R.queue) 0 ≡ folder
    at true h = ap scanned_in h
    at false h = ap scanned_in h

    by : (late none : Bool) → (decided K R moment w (first ((ClockBack when late) ∷ (NothingToScan when none) ∷ []))).outcome ≡ Scanned folder visited used → unwrap_or (head R.queue) 0 ≡ folder
    by true none h = absurd (cc h)
    by false true h = absurd (cc h)
    by false false h = at w.lasts h
