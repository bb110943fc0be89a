-- What is left when actions ran and the command has ended.
use Rattle.std.proofs.Common.{◌≡◌, ℕ, ◌≤◌, Bool, true, false, cond, ◌&&◌, ◌++◌, not, List, [], ◌∷◌, length, nat_lt, refl, ap, sym, ◌∙◌}
use Rattle.std.specs.Prelude.{map, filter, flat_map}
use Rattle.std.specs.List.{AllByRecursion}
use Rattle.fsrm_base.proofs.TestLaws.{both, le_is}
use Rattle.fsrm_model.specs.declared.command.Act.{Act}
use Rattle.fsrm_model.specs.declared.row.ActRow.{ActRow}
use Rattle.fsrm_model.specs.declared.row.Capacity.{Capacity}
use Rattle.fsrm_model.specs.declared.row.NodeRow.{NodeRow}
use Rattle.fsrm_model.specs.declared.row.QuotaRow.{QuotaRow}
use Rattle.fsrm_model.specs.declared.row.Rows.{Rows}
use Rattle.fsrm_model.specs.declared.row.ScreenRow.{ScreenRow}
use Rattle.fsrm_model.specs.declared.row.Threshold.{Threshold}
use Rattle.fsrm_model.specs.declared.command.Subject.TheVariants.{Quota}
use Rattle.fsrm_model.specs.objects.DueActions.{due, quota_acts, ready_acts}
use Rattle.fsrm_model.specs.meaning.Exceptions.{left_with}
use Rattle.fsrm_model.specs.values.Limits.{most_entries}
use Rattle.fsrm_model.specs.objects.Quota.{counts, peaked, peaks}
use Rattle.fsrm_model.specs.objects.Reached.{crossed, reached}
use Rattle.fsrm_model.specs.objects.Runs.{run_quota, last_entries, entry_of, ran}
use Rattle.fsrm_model.specs.nodes.Tree.{usage}
use Rattle.fsrm_model.proofs.thresholds.ActLaws.{IsOfQuota}
use Rattle.fsrm_model.proofs.thresholds.ReachedLaws.{reached_peaked}
use Rattle.fsrm_model.proofs.thresholds.UnrunLaws.{screens_unrun}
use Rattle.fsrm_objects.specs.Tables.{Tables}
use Rattle.thresholds.proofs.SettleLaws.{settles_none}
use Rattle.fsrm_engine.specs.declared.parts.Parts.{Parts}
use Rattle.fsrm_engine.specs.Machine.{IsIdle, IsWhole, Ran, ended, rows_of}
use Rattle.fsrm_engine.proofs.settling.MarkLaws.{calm_of, calm_set, calm_there}

-- ---- peaks and runs don't touch each other
peaked_run : (K : Capacity) (nodes : List NodeRow) (m : ℕ) (acts : List Act) (q : QuotaRow) → peaked K nodes m (run_quota m acts q) ≡ run_quota m acts (peaked K nodes m q)
peaked_run K nodes m acts q = at (counts q && nat_lt q.peak (usage K nodes q.folder))
  where
    at : (b : Bool) → cond b (record (run_quota m acts q) { peak = usage K nodes q.folder; peak_at = m }) (run_quota m acts q) ≡ run_quota m acts (cond b (record q { peak = usage K nodes q.folder; peak_at = m }) q)
    at true = refl
    at false = refl

peaked_runs : (K : Capacity) (nodes : List NodeRow) (m : ℕ) (acts : List Act) (quotas : List QuotaRow) → map (peaked K nodes m) (map (run_quota m acts) quotas) ≡ map (run_quota m acts) (map (peaked K nodes m) quotas)
peaked_runs K nodes m acts [] = refl
peaked_runs K nodes m acts (q ∷ quotas) =
    ap (λ r. r ∷ map (peaked K nodes m) (map (run_quota m acts) quotas)) (peaked_run K nodes m acts q)
    ∙ ap (λ rs. run_quota m acts (peaked K nodes m q) ∷ rs) (peaked_runs K nodes m acts quotas)

-- the rows of parts whose actions ran, at their end. Some peaks may have been raised before
pub ended_rows : (mid run : Parts) (m : ℕ) (acts : List Act) (quotas : List QuotaRow) → AllByRecursion IsOfQuota acts → Ran mid run m acts → map (peaked mid.tree.size mid.tree.nodes m) mid.objects.quotas ≡ map (peaked mid.tree.size mid.tree.nodes m) quotas → rows_of (ended run m) ≡ record (ran m acts (peaks mid.tree.size (record (rows_of mid) { quotas = quotas }) m)) { last_moment = m }
ended_rows mid run m acts quotas own r raised =
    let K = mid.tree.size in
    let nodes = mid.tree.nodes in
    let of : List QuotaRow → List ActRow → Rows = λ qs log. record (rows_of mid) { quotas = qs; acts = log; last_moment = m } in
    let log : List ActRow = last_entries (mid.marks.log ++ map (entry_of m) acts) in
    ap (λ (q : Parts). rows_of (ended q m)) r.parts_are
    ∙ (ap (λ (t : Tables). record (of (map (peaked K nodes m) t.quotas) run.marks.log) { screens = t.screens; excepts = t.excepts; jobs = t.jobs }) r.settles.tables
    ∙ (ap (of (map (peaked K nodes m) (map (run_quota m acts) mid.objects.quotas))) r.settles.log
    ∙ (ap (λ qs. of qs log) (peaked_runs K nodes m acts mid.objects.quotas ∙ ap (map (run_quota m acts)) raised)
    ∙ ap (λ (screens : List ScreenRow). record (of (map (run_quota m acts) (map (peaked K nodes m) quotas)) log) { screens = screens }) (sym (screens_unrun m acts mid.objects.screens own)))))

-- and if no peak is looked at before they ran
pub left_rows : (mid run : Parts) (m : ℕ) (acts : List Act) → AllByRecursion IsOfQuota acts → Ran mid run m acts → rows_of (ended run m) ≡ left_with mid.tree.size (rows_of mid) m acts
left_rows mid run m acts own r =
    let K = mid.tree.size in
    let nodes = mid.tree.nodes in
    let of : List QuotaRow → List ActRow → Rows = λ qs log. record (rows_of mid) { quotas = qs; acts = log; last_moment = m } in
    ap (λ (q : Parts). rows_of (ended q m)) r.parts_are
    ∙ (ap (λ (t : Tables). record (of (map (peaked K nodes m) t.quotas) run.marks.log) { screens = t.screens; excepts = t.excepts; jobs = t.jobs }) r.settles.tables
    ∙ (ap (of (map (peaked K nodes m) (map (run_quota m acts) mid.objects.quotas))) r.settles.log
    ∙ ap (λ (screens : List ScreenRow). record (of (map (peaked K nodes m) (map (run_quota m acts) mid.objects.quotas)) (last_entries (mid.marks.log ++ map (entry_of m) acts))) { screens = screens }) (sym (screens_unrun m acts mid.objects.screens own))))

-- ---- no action ran
pub few_log : (p : Parts) → IsWhole p → length p.marks.log ≤ most_entries
few_log p w = le_is (length p.marks.log) most_entries (both _ _ w.valid.log).0

pub unran : (p : Parts) (m : ℕ) → IsIdle p → length p.marks.log ≤ most_entries → Ran p p m []
unran p m i few = record { parts_are = refl; settles = settles_none p.marks p.objects m few (calm_there p (calm_of p i)); set = calm_set p (calm_of p i) }

-- ---- which actions are due, by what two parts are
abbrev pub due_of : Parts → Parts → ℕ → List Act
due_of p mid m = due p.tree.size (rows_of p) (rows_of mid) m

-- acts of a quota by tests that agree
pub acts_same : (p q : ℕ → Bool) (run_limit m : ℕ) (quota : QuotaRow) → ((n : ℕ) → p n ≡ q n) → quota_acts p run_limit m quota ≡ quota_acts q run_limit m quota
acts_same p q run_limit m quota same = ap (flat_map (λ (t : Threshold). ready_acts run_limit m (Quota quota.folder t.percent) t.actions)) (each quota.thresholds)
  where
    each : (ts : List Threshold) → filter (λ (t : Threshold). p t.percent) ts ≡ filter (λ (t : Threshold). q t.percent) ts
    each [] = refl
    each (t ∷ ts) =
        ap (λ b. cond b (t ∷ filter (λ (t : Threshold). p t.percent) ts) (filter (λ (t : Threshold). p t.percent) ts)) (same t.percent)
        ∙ ap (λ rest. cond (q t.percent) (t ∷ rest) rest) (each ts)

-- what is gathered of each
pub gathered : {X Y Z : Type 0} (f : Y → List Z) (g : X → List Z) (h : X → Y) → ((x : X) → f (h x) ≡ g x) → (xs : List X) → flat_map f (map h xs) ≡ flat_map g xs
gathered f g h e [] = refl
gathered f g h e (x ∷ xs) = ap (λ zs. zs ++ flat_map f (map h xs)) (e x) ∙ ap (λ zs. g x ++ zs) (gathered f g h e xs)

-- peaks play no part
pub due_peaked : (K : Capacity) (R S : Rows) (m : ℕ) → due K R (peaks K S m) m ≡ due K R S m
due_peaked K R S m =
    gathered (λ q. quota_acts (crossed K R (peaks K S m) q.folder) S.run_limit m q) (λ q. quota_acts (crossed K R S q.folder) S.run_limit m q) (peaked K S.nodes m) one S.quotas
  where
    same : (f n : ℕ) → crossed K R (peaks K S m) f n ≡ crossed K R S f n
    same f n = ap (λ b. b && not (reached K R f n)) (reached_peaked K S m f n)

    at : (q : QuotaRow) (b : Bool) → quota_acts (crossed K R (peaks K S m) (cond b (record q { peak = usage K S.nodes q.folder; peak_at = m }) q).folder) S.run_limit m (cond b (record q { peak = usage K S.nodes q.folder; peak_at = m }) q) ≡ quota_acts (crossed K R (peaks K S m) q.folder) S.run_limit m q
    at q true = refl
    at q false = refl

    one : (q : QuotaRow) → quota_acts (crossed K R (peaks K S m) (peaked K S.nodes m q).folder) S.run_limit m (peaked K S.nodes m q) ≡ quota_acts (crossed K R S q.folder) S.run_limit m q
    one q =
        at q (counts q && nat_lt q.peak (usage K S.nodes q.folder))
        ∙ acts_same (crossed K R (peaks K S m) q.folder) (crossed K R S q.folder) S.run_limit m q (same q.folder)

-- so they are due by the parts before the end, of whose peaks some may have been raised
pub due_made : (p mid : Parts) (E : Rows) (quotas : List QuotaRow) (m : ℕ) → E ≡ record (rows_of mid) { quotas = quotas } → map (peaked p.tree.size mid.tree.nodes m) mid.objects.quotas ≡ map (peaked p.tree.size mid.tree.nodes m) quotas → due p.tree.size (rows_of p) (peaks p.tree.size E m) m ≡ due_of p mid m
due_made p mid E quotas m made raised =
    let K = p.tree.size in
    ap (λ (S : Rows). due K (rows_of p) (peaks K S m) m) made
    ∙ (ap (λ (qs : List QuotaRow). due K (rows_of p) (record (rows_of mid) { quotas = qs }) m) (sym raised)
    ∙ due_peaked K (rows_of p) (rows_of mid) m)
