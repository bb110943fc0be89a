-- What is kept of rows is kept over the end of a command, too: peaks, the actions that are due, and the name that a
-- screen judges are those of what is kept.
use Rattle.std.proofs.Common.{◌≡◌, ℕ, Bool, true, false, cond, not, ◌&&◌, List, [], ◌∷◌, ◌++◌, refl, sym, ◌∙◌, ap, Some, None, Option, nat_lt}
use Rattle.std.specs.Prelude.{option_map, map, find, flat_map, if◌then◌else◌, is_none, is_some}
use Rattle.std.specs.List.{list_all}
use Rattle.std.specs.Option.{option_map_or}
use Rattle.std.proofs.lemmas.List.Folds.{flat_map-map, list_all-map}
use Rattle.fsrm_model.specs.declared.command.Act.{Act}
use Rattle.fsrm_model.specs.declared.command.Refusal.{Refusal}
use Rattle.fsrm_model.specs.declared.command.Refusal.TheVariants.{QuotaExceeded}
use Rattle.fsrm_model.specs.declared.row.Capacity.{Capacity}
use Rattle.fsrm_model.specs.declared.row.NodeRow.{NodeRow}
use Rattle.fsrm_model.specs.declared.row.QuotaRow.{QuotaRow}
use Rattle.fsrm_model.specs.declared.row.Rows.{Rows}
use Rattle.fsrm_base.proofs.Look.{find-map}
use Rattle.fsrm_model.specs.objects.DueActions.{quota_acts, due, due_refused, due_screen}
use Rattle.fsrm_model.specs.store.Lasting.{flagged_quota, lasting, flagged}
use Rattle.fsrm_model.specs.objects.Quota.{quota_of, counts, over, deepest, exceeded, refuses, peaked, peaks}
use Rattle.fsrm_model.specs.objects.Reached.{reached, crossed, has_reached}
use Rattle.fsrm_model.specs.objects.Runs.{run_quota, ran}
use Rattle.fsrm_model.specs.commands.Step.{Acted, screened, concluded}
use Rattle.fsrm_model.specs.nodes.Tree.{usage, is_under}
use Rattle.fsrm_model.specs.commands.Work.{Judged}
use Rattle.fsrm_model.specs.objects.Audits.{audited}
use Rattle.fsrm_model.proofs.journal.KeptQuotas.{kept, counts_flagged, kept_row, kept_filter, kept_twice, disabled_flagged, none_flagged, some_flagged, state_found}
use Rattle.fsrm_model.proofs.thresholds.ReachedLaws.{by_quota}
use Rattle.fsrm_model.specs.declared.row.QuotaState.TheVariants.{Disabled}
use Rattle.fsrm_model.specs.objects.QuotaStates.{is_disabled, state_of}

pub lasting_twice : (R : Rows) → lasting (lasting R) ≡ lasting R
lasting_twice R = ap (λ quotas. record R { quotas = quotas; queue = []; unvisited = [] }) (kept_twice R.quotas)

-- the quota of a folder
pub quota_lasting : (R : Rows) (folder : ℕ) → quota_of (lasting R) folder ≡ option_map flagged_quota (quota_of R folder)
quota_lasting R folder = kept_row folder R.quotas

-- ---- what is reached
pub reached_lasting : (K : Capacity) (R : Rows) (folder percent : ℕ) → reached K (lasting R) folder percent ≡ reached K R folder percent
reached_lasting K R folder percent = ap (by_quota K R folder percent) (quota_lasting R folder) ∙ at (quota_of R folder)
  where
    at : (o : Option QuotaRow) → by_quota K R folder percent (option_map flagged_quota o) ≡ by_quota K R folder percent o
    at None = refl
    at (Some q) = ap (λ b. has_reached q percent (if b then Some (usage K R.nodes folder) else None)) (counts_flagged q)

pub crossed_lasting : (K : Capacity) (before after : Rows) (folder : ℕ) → crossed K (lasting before) (lasting after) folder ≡ crossed K before after folder
crossed_lasting K before after folder = λ i percent. one percent i
  where
    one : (percent : ℕ) → crossed K (lasting before) (lasting after) folder percent ≡ crossed K before after folder percent
    one percent = ap (λ b. b && not (reached K (lasting before) folder percent)) (reached_lasting K after folder percent) ∙ ap (λ b. reached K after folder percent && not b) (reached_lasting K before folder percent)

-- ---- the actions that are due
flat_kept : {X : Type 0} (f g : QuotaRow → List X) → ((q : QuotaRow) → f (flagged_quota q) ≡ g q) → (qs : List QuotaRow) → flat_map f (kept qs) ≡ flat_map g qs
flat_kept {X} f g h qs = flat_map-map f flagged_quota qs ∙ ap (λ (f : QuotaRow → List X). flat_map f qs) (λ i q. h q i)

pub due_lasting : (K : Capacity) (before after : Rows) (moment : ℕ) → due K (lasting before) (lasting after) moment ≡ due K before after moment
due_lasting K before after moment =
    flat_kept (λ q. quota_acts (crossed K (lasting before) (lasting after) q.folder) after.run_limit moment q) (λ q. quota_acts (crossed K before after q.folder) after.run_limit moment q)
    (λ q. ap (λ (passes : ℕ → Bool). quota_acts passes after.run_limit moment q) (crossed_lasting K before after q.folder))
    after.quotas

-- ---- the quotas that refuse
refuses_flagged : (q : QuotaRow) (before after : ℕ) → refuses (flagged_quota q) before after ≡ refuses q before after
refuses_flagged q before after = ap (λ b. (b && q.enforce) && (nat_lt before after && nat_lt q.limit after)) (counts_flagged q)

over_lasting : (K : Capacity) (R : Rows) (nodes : List NodeRow) → over K (lasting R) nodes ≡ kept (over K R nodes)
over_lasting K R nodes =
    kept_filter (λ q. refuses q (usage K R.nodes q.folder) (usage K nodes q.folder)) (λ q. refuses_flagged q (usage K R.nodes q.folder) (usage K nodes q.folder)) R.quotas

deepest_kept : (nodes : List NodeRow) (qs : List QuotaRow) → deepest nodes (kept qs) ≡ option_map flagged_quota (deepest nodes qs)
deepest_kept nodes qs =
    ap (λ (p : QuotaRow → Bool). find p (kept qs)) same ∙ find-map (λ q. list_all (λ above. is_under nodes above.folder q.folder) qs) flagged_quota (λ q. refl) qs
  where
    below : List QuotaRow → QuotaRow → Bool
    below all q = list_all (λ (above : QuotaRow). is_under nodes above.folder q.folder) all

    same : below (kept qs) ≡ below qs
    same = λ i q. list_all-map (λ (above : QuotaRow). is_under nodes above.folder q.folder) flagged_quota qs i

pub deepest_lasting : (K : Capacity) (R : Rows) (nodes : List NodeRow) → deepest nodes (over K (lasting R) nodes) ≡ option_map flagged_quota (deepest nodes (over K R nodes))
deepest_lasting K R nodes = ap (deepest nodes) (over_lasting K R nodes) ∙ deepest_kept nodes (over K R nodes)

pub exceeded_lasting : (K : Capacity) (R : Rows) (nodes : List NodeRow) → exceeded K (lasting R) nodes ≡ exceeded K R nodes
exceeded_lasting K R nodes = ap (option_map refusal) (deepest_lasting K R nodes) ∙ at (deepest nodes (over K R nodes))
  where
    refusal : QuotaRow → Refusal
    refusal quota = QuotaExceeded quota.folder (usage K nodes quota.folder) quota.limit

    at : (o : Option QuotaRow) → option_map refusal (option_map flagged_quota o) ≡ option_map refusal o
    at None = refl
    at (Some q) = refl

pub due_refused_lasting : (K : Capacity) (R : Rows) (nodes : List NodeRow) (moment : ℕ) → due_refused K (lasting R) nodes moment ≡ due_refused K R nodes moment
due_refused_lasting K R nodes moment =
    ap (λ o. option_map_or (λ q. quota_acts (crossed K (lasting R) (record (lasting R) { nodes = nodes }) q.folder) R.run_limit moment q) o []) (deepest_lasting K R nodes)
    ∙ at (deepest nodes (over K R nodes))
  where
    at : (o : Option QuotaRow) → option_map_or (λ (q : QuotaRow). quota_acts (crossed K (lasting R) (record (lasting R) { nodes = nodes }) q.folder) R.run_limit moment q) (option_map flagged_quota o) [] ≡ option_map_or (λ (q : QuotaRow). quota_acts (crossed K R (record R { nodes = nodes }) q.folder) R.run_limit moment q) o []
    at None = refl
    at (Some q) = ap (λ (passes : ℕ → Bool). quota_acts passes R.run_limit moment q) (crossed_lasting K R (record R { nodes = nodes }) q.folder)

-- ---- peaks and runs
peaked_flagged : (K : Capacity) (nodes : List NodeRow) (moment : ℕ) (q : QuotaRow) → flagged_quota (peaked K nodes moment q) ≡ peaked K nodes moment (flagged_quota q)
peaked_flagged K nodes moment q =
    at (counts q && higher) ∙ sym (ap (λ b. cond (b && higher) (raised (flagged_quota q)) (flagged_quota q)) (counts_flagged q))
  where
    higher : Bool
    higher = nat_lt q.peak (usage K nodes q.folder)

    raised : QuotaRow → QuotaRow
    raised r = record r { peak = usage K nodes r.folder; peak_at = moment }

    at : (b : Bool) → flagged_quota (cond b (raised q) q) ≡ cond b (raised (flagged_quota q)) (flagged_quota q)
    at true = refl
    at false = refl

pub kept_swap : (f : QuotaRow → QuotaRow) → ((q : QuotaRow) → flagged_quota (f q) ≡ f (flagged_quota q)) → (qs : List QuotaRow) → kept (map f qs) ≡ map f (kept qs)
kept_swap f h [] = refl
kept_swap f h (q ∷ qs) = ap (λ r. r ∷ kept (map f qs)) (h q) ∙ ap (λ rs. f (flagged_quota q) ∷ rs) (kept_swap f h qs)

pub peaks_lasting : (K : Capacity) (R : Rows) (moment : ℕ) → lasting (peaks K R moment) ≡ peaks K (lasting R) moment
peaks_lasting K R moment =
    ap (λ quotas. record R { quotas = quotas; queue = []; unvisited = [] }) (kept_swap (peaked K R.nodes moment) (peaked_flagged K R.nodes moment) R.quotas)

pub ran_lasting : (moment : ℕ) (acts : List Act) (R : Rows) → lasting (ran moment acts R) ≡ ran moment acts (lasting R)
ran_lasting moment acts R =
    ap (λ quotas. record (ran moment acts R) { quotas = quotas; queue = []; unvisited = [] }) (kept_swap (run_quota moment acts) (λ q. refl) R.quotas)

-- ---- the end of a command
-- what is kept of rows to which actions led, and these
abbrev pub lasting_acted : Acted → Acted
lasting_acted after = record { rows = lasting after.rows; acts = after.acts }

pub concluded_lasting : (K : Capacity) (before : Rows) (after : Acted) (moment : ℕ) → lasting_acted (concluded K before after moment) ≡ concluded K (lasting before) (lasting_acted after) moment
concluded_lasting K before after moment =
    ap (λ (R : Rows). record { rows = record R { last_moment = moment }; acts = after.acts ++ acts }) (ran_lasting moment acts (peaks K after.rows moment))
    ∙ (ap (λ (more : List Act). record { rows = record (ran moment more (lasting (peaks K after.rows moment))) { last_moment = moment }; acts = after.acts ++ more }) (sym (due_lasting K before (peaks K after.rows moment) moment))
    ∙ ap (λ (P : Rows). let more = due K (lasting before) P moment in record { rows = record (ran moment more P) { last_moment = moment }; acts = after.acts ++ more }) (peaks_lasting K after.rows moment))
  where
    acts : List Act
    acts = due K before (peaks K after.rows moment) moment

pub screened_lasting : (R : Rows) (moment : ℕ) (o : Option Judged) → lasting_acted (screened R moment o) ≡ screened (lasting R) moment o
screened_lasting R moment None = refl
screened_lasting R moment (Some j) =
    ap (λ (rows : Rows). record { rows = rows; acts = due_screen R.run_limit moment j.screen }) (ran_lasting moment (due_screen R.run_limit moment j.screen) (audited moment j R))

pub some_lasting : (R : Rows) (folder : ℕ) → is_some (quota_of (lasting R) folder) ≡ is_some (quota_of R folder)
some_lasting R folder = ap is_some (quota_lasting R folder) ∙ some_flagged (quota_of R folder)

pub none_lasting : (R : Rows) (folder : ℕ) → is_none (quota_of (lasting R) folder) ≡ is_none (quota_of R folder)
none_lasting R folder = ap is_none (quota_lasting R folder) ∙ none_flagged (quota_of R folder)

pub state_lasting : (R : Rows) (folder : ℕ) → state_of (lasting R) folder ≡ flagged (state_of R folder)
state_lasting R folder = ap (λ o. option_map_or (λ (q : QuotaRow). q.state) o Disabled) (quota_lasting R folder) ∙ state_found (quota_of R folder)

pub disabled_lasting : (R : Rows) (folder : ℕ) → is_disabled (state_of (lasting R) folder) ≡ is_disabled (state_of R folder)
disabled_lasting R folder = ap is_disabled (state_lasting R folder) ∙ disabled_flagged (state_of R folder)
