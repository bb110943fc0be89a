-- The quota that refuses, and the peaks.
use Rattle.std.proofs.Common.{◌≡◌, ℕ, ◌≤◌, Bool, true, false, cond, List, [], ◌∷◌, refl, sym, ◌∙◌, ap, subst, inl, inr, arith, Some, None}
use Rattle.std.specs.Prelude.{Option, ◌==◌, ◌&&◌, ◌||◌, not, nat_lt, find, filter, map, option_map, if◌then◌else◌}
use Rattle.std.specs.List.{list_all}
use Rattle.std.proofs.lemmas.Bool.{cases_Bool, and_parts, and_from, ltb-true, lt-ltb, ltb-false}
use Rattle.fsrm_model.specs.declared.command.Command.{Command}
use Rattle.fsrm_model.specs.declared.command.Outcome.{Outcome}
use Rattle.fsrm_model.specs.declared.command.Outcome.TheVariants.{Refused}
use Rattle.fsrm_model.specs.declared.command.Refusal.{Refusal}
use Rattle.fsrm_model.specs.declared.command.Refusal.TheVariants.{ClockBack, QuotaExceeded}
use Rattle.fsrm_model.specs.declared.row.Capacity.{Capacity}
use Rattle.fsrm_model.specs.declared.row.NodeRow.{NodeRow}
use Rattle.fsrm_model.specs.declared.row.QuotaRow.{QuotaRow}
use Rattle.fsrm_model.specs.declared.row.Rows.{Rows}
use Rattle.fsrm_model.specs.commands.Check.{◌when◌, first}
use Rattle.fsrm_model.specs.meaning.Exceeds.{IsOver, Exceeds}
use Rattle.fsrm_base.specs.Keyed.{is_ascending, has_row}
use Rattle.fsrm_model.specs.objects.Quota.{folder_of, quota_of, counts, refuses, over, deepest, exceeded, peaked, peaks}
use Rattle.fsrm_model.specs.objects.QuotaStates.{followed}
use Rattle.fsrm_model.specs.objects.DueActions.{due}
use Rattle.fsrm_model.specs.objects.Runs.{run_quota}
use Rattle.fsrm_model.specs.commands.Step.{Acted, step, work, decided, lasted, unlasting, acted, screened_by, screened}
use Rattle.fsrm_model.specs.nodes.Tree.{usage, is_under}
use Rattle.fsrm_model.specs.commands.Work.{Work}
use Rattle.fsrm_base.proofs.Look.{clash, found_passes, found_own, found_key, find-map}
use Rattle.fsrm_base.proofs.Members.{all_found}
use Rattle.fsrm_base.proofs.TestLaws.{implied}
use Rattle.fsrm_model.proofs.commands.Ends.{refused_cases}
use Rattle.fsrm_model.proofs.thresholds.RunLaws.{quota_run}

-- what is found among the rows that pass a test
pub find_both : {X : Type 0} (p q : X → Bool) (xs : List X) → find p (filter q xs) ≡ find (λ x. q x && p x) xs
find_both p q [] = refl
find_both p q (x ∷ xs) = elim (cases_Bool (q x)) [
  | inl is ↦ rw is (ap (cond (p x) (Some x)) (find_both p q xs))
  | inr other ↦ rw other (find_both p q xs)
]

all_both : {X : Type 0} (p q : X → Bool) (xs : List X) → list_all p (filter q xs) ≡ list_all (λ x. not (q x) || p x) xs
all_both p q [] = refl
all_both p q (x ∷ xs) = elim (cases_Bool (q x)) [
  | inl is ↦ rw is (ap (λ (b : Bool). p x && b) (all_both p q xs))
  | inr other ↦ rw other (all_both p q xs)
]

mapped : {X Y : Type 0} (f : X → Y) (o : Option X) (y : Y) → option_map f o ≡ Some y → (x : X) × (o ≡ Some x) × (f x ≡ y)
mapped f None y h = absurd (cc h)
mapped f (Some x) y h = (x, refl, cc h)

-- a quota that refuses, part by part
over_parts : (K : Capacity) (R : Rows) (nodes : List NodeRow) (folder : ℕ) (quota : QuotaRow) → quota_of R folder ≡ Some quota → refuses quota (usage K R.nodes folder) (usage K nodes folder) ≡ true → IsOver K R nodes folder quota
over_parts K R nodes folder quota there h =
    let before = usage K R.nodes folder in
    let after = usage K nodes folder in
    let halves = and_parts (counts quota && quota.enforce) (nat_lt before after && nat_lt quota.limit after) h in
    let kind = and_parts (counts quota) quota.enforce halves.0 in
    let sizes = and_parts (nat_lt before after) (nat_lt quota.limit after) halves.1 in
    record {
      is_there = there;
      counting = kind.0;
      enforced = kind.1;
      rises = ltb-true before after sizes.0;
      above = ltb-true quota.limit after sizes.1;
    }

pub over_test : (K : Capacity) (R : Rows) (nodes : List NodeRow) (folder : ℕ) (quota : QuotaRow) → IsOver K R nodes folder quota → refuses quota (usage K R.nodes folder) (usage K nodes folder) ≡ true
over_test K R nodes folder quota o =
    let before = usage K R.nodes folder in
    let after = usage K nodes folder in
    and_from (counts quota && quota.enforce) (nat_lt before after && nat_lt quota.limit after)
    (and_from (counts quota) quota.enforce o.counting o.enforced)
    (and_from (nat_lt before after) (nat_lt quota.limit after) (lt-ltb before after o.rises) (lt-ltb quota.limit after o.above))

-- the refusal names the deepest quota that refuses
pub exceeded_is : (K : Capacity) (R : Rows) (nodes : List NodeRow) (folder would limit : ℕ) → is_ascending folder_of R.quotas ≡ true → exceeded K R nodes ≡ Some (QuotaExceeded folder would limit) → Exceeds K R nodes folder would limit
exceeded_is K R nodes folder would limit up h =
    let rises = λ (quota : QuotaRow). refuses quota (usage K R.nodes quota.folder) (usage K nodes quota.folder) in
    let is_deepest = λ (quota : QuotaRow). list_all (λ above. is_under nodes above.folder quota.folder) (over K R nodes) in
    let made = mapped (λ quota. QuotaExceeded quota.folder (usage K nodes quota.folder) quota.limit) (deepest nodes (over K R nodes)) (QuotaExceeded folder would limit) h in
    let quota = made.0 in
    let own : quota.folder ≡ folder = cc made.2 in
    let found : find (λ q. rises q && is_deepest q) R.quotas ≡ Some quota = sym (find_both is_deepest rises R.quotas) ∙ made.1 in
    let passes = and_parts (rises quota) (is_deepest quota) (found_passes (λ q. rises q && is_deepest q) R.quotas quota found) in
    let there = found_own folder_of (λ q. rises q && is_deepest q) R.quotas quota up found in
    let o = over_parts K R nodes quota.folder quota there passes.0 in
    let each : list_all (λ above. not (rises above) || is_under nodes above.folder quota.folder) R.quotas ≡ true = sym (all_both (λ above. is_under nodes above.folder quota.folder) rises R.quotas) ∙ passes.1 in
    let below : (other : ℕ) (its : QuotaRow) → IsOver K R nodes other its → is_under nodes other quota.folder ≡ true = λ other its is.
    let key : its.folder ≡ other = found_key folder_of other R.quotas its is.is_there in
    let test = all_found (λ above. not (rises above) || is_under nodes above.folder quota.folder) (λ q. folder_of q == other) R.quotas its each is.is_there in
    let rise = subst (λ (f : ℕ). refuses its (usage K R.nodes f) (usage K nodes f) ≡ true) (sym key) (over_test K R nodes other its is) in
    subst (λ (f : ℕ). is_under nodes f quota.folder ≡ true) key (implied (rises its) (is_under nodes its.folder quota.folder) test rise) in
    record {
      quota = quota;
      is_over = subst (λ (f : ℕ). IsOver K R nodes f quota) own o;
      would_be = ap (usage K nodes) (sym own) ∙ cc made.2;
      limit_is = cc made.2;
      deepest = subst (λ (f : ℕ). (other : ℕ) (its : QuotaRow) → IsOver K R nodes other its → is_under nodes other f ≡ true) own below;
    }

-- no counting quota's peak is below its usage
raised : (K : Capacity) (nodes : List NodeRow) (moment : ℕ) (quota : QuotaRow) (counting more : Bool) → counts quota ≡ counting → nat_lt quota.peak (usage K nodes quota.folder) ≡ more → counts (peaked K nodes moment quota) ≡ true → usage K nodes quota.folder ≤ (peaked K nodes moment quota).peak
raised K nodes moment quota true true c m h = rw (c, m) (omega arith)
raised K nodes moment quota true false c m h = rw (c, m) (ltb-false quota.peak (usage K nodes quota.folder) m)
raised K nodes moment quota false more c m h = let same = rw c at h in absurd (clash (counts quota) same c)

pub peaked_folder : (K : Capacity) (nodes : List NodeRow) (moment : ℕ) (quota : QuotaRow) → folder_of (peaked K nodes moment quota) ≡ folder_of quota
peaked_folder K nodes moment quota = by (counts quota && nat_lt quota.peak (usage K nodes quota.folder))
  where
    by : (b : Bool) → folder_of (if b then record quota { peak = usage K nodes quota.folder; peak_at = moment } else quota) ≡ folder_of quota
    by true = refl
    by false = refl

-- peaks that are raised leave each quota at its folder
pub peaked_there : (K : Capacity) (nodes : List NodeRow) (moment folder : ℕ) (quotas : List QuotaRow) → has_row folder_of folder (map (peaked K nodes moment) quotas) ≡ has_row folder_of folder quotas
peaked_there K nodes moment folder [] = refl
peaked_there K nodes moment folder (quota ∷ quotas) =
    ap (λ n. (n == folder) || has_row folder_of folder (map (peaked K nodes moment) quotas)) (peaked_folder K nodes moment quota)
    ∙ ap (λ b. (quota.folder == folder) || b) (peaked_there K nodes moment folder quotas)

pub peaks_raised : (K : Capacity) (R : Rows) (moment folder : ℕ) (quota : QuotaRow) → quota_of (peaks K R moment) folder ≡ Some quota → counts quota ≡ true → usage K R.nodes folder ≤ quota.peak
peaks_raised K R moment folder quota there counting =
    let raise = peaked K R.nodes moment in
    let kept = find-map (λ q. folder_of q == folder) raise (λ q. ap (λ n. n == folder) (peaked_folder K R.nodes moment q)) R.quotas in
    let old = mapped raise (quota_of R folder) quota (sym kept ∙ there) in
    let own : old.0.folder ≡ folder = found_key folder_of folder R.quotas old.0 old.1 in
    let high = raised K R.nodes moment old.0 (counts old.0) (nat_lt old.0.peak (usage K R.nodes old.0.folder)) refl refl (ap counts old.2 ∙ counting) in
    subst (λ n. usage K R.nodes n ≤ quota.peak) own (subst (λ (q : QuotaRow). usage K R.nodes old.0.folder ≤ q.peak) old.2 high)

-- after a command that lasts
pub peaks_last : (K : Capacity) (R : Rows) (c : Command) (folder : ℕ) (quota : QuotaRow) → (step K R c).lasting ≡ true → quota_of (step K R c).rows folder ≡ Some quota → counts quota ≡ true → usage K (step K R c).rows.nodes folder ≤ quota.peak
peaks_last K R c folder quota lasting there counting =
    by (work K R c.moment c.deed) (first ((ClockBack when nat_lt c.moment R.last_moment) ∷ (work K R c.moment c.deed).checks)) lasting there
  where
    raised_after : (after : Acted) (outcome : Outcome) → quota_of (lasted K R after c.moment outcome).rows folder ≡ Some quota → usage K after.rows.nodes folder ≤ quota.peak
    raised_after after outcome t =
        let peaked = peaks K after.rows c.moment in
        let more = due K R peaked c.moment in
        let old = mapped (run_quota c.moment more) (quota_of peaked folder) quota (sym (quota_run c.moment more peaked folder) ∙ t) in
        subst (λ (q : QuotaRow). usage K after.rows.nodes folder ≤ q.peak) old.2 (peaks_raised K after.rows c.moment folder old.0 old.1 (ap counts old.2 ∙ counting))

    ended : (w : Work) (lasts : Bool) → (if lasts then lasted K R (screened (followed R w.effect) c.moment w.judged) c.moment w.outcome else unlasting (followed R w.effect) w.outcome).lasting ≡ true → quota_of (if lasts then lasted K R (screened (followed R w.effect) c.moment w.judged) c.moment w.outcome else unlasting (followed R w.effect) w.outcome).rows folder ≡ Some quota → usage K (if lasts then lasted K R (screened (followed R w.effect) c.moment w.judged) c.moment w.outcome else unlasting (followed R w.effect) w.outcome).rows.nodes folder ≤ quota.peak
    ended w true l t = raised_after (screened (followed R w.effect) c.moment w.judged) w.outcome t
    ended w false l t = absurd (clash false l refl)

    by : (w : Work) (o : Option Refusal) → (decided K R c.moment w o).lasting ≡ true → quota_of (decided K R c.moment w o).rows folder ≡ Some quota → usage K (decided K R c.moment w o).rows.nodes folder ≤ quota.peak
    by w (Some refusal) l t =
        refused_cases K R c.moment w refusal (λ s. s.lasting ≡ true → quota_of s.rows folder ≡ Some quota → usage K s.rows.nodes folder ≤ quota.peak)
        (λ l t. absurd (clash false l refl)) (λ acts l t. raised_after (acted c.moment acts R) (Refused refusal) t)
        (λ screen j is judged l t. raised_after (screened_by R c.moment j) (Refused refusal) t) l t
    by w None l t = ended w w.lasts l t
