-- The acts that are due stand in order, each once, and each names an action that is there.
use Rattle.std.proofs.Common.{◌≡◌, ℕ, suc, ◌+◌, ◌<◌, ◌≤◌, ◌==◌, Bool, true, false, cond, ◌||◌, ◌&&◌, List, [], ◌∷◌, ◌++◌, refl, sym, ◌∙◌, ap, subst, arith, Some, None, Option, nat_lt}
use Rattle.std.specs.Prelude.{map, filter, flat_map, slice_get}
use Rattle.std.specs.List.{list_all, enumerate_from, AllByRecursion}
use Rattle.std.specs.Option.{option_map_or}
use Rattle.fsrm_model.specs.declared.command.Act.{Act}
use Rattle.fsrm_model.specs.declared.command.Subject.{Subject}
use Rattle.fsrm_model.specs.declared.command.Subject.TheVariants.{Quota}
use Rattle.fsrm_model.specs.declared.row.Action.{Action}
use Rattle.fsrm_model.specs.declared.row.Capacity.{Capacity}
use Rattle.fsrm_model.specs.declared.row.NodeRow.{NodeRow}
use Rattle.fsrm_model.specs.declared.row.QuotaRow.{QuotaRow}
use Rattle.fsrm_model.specs.declared.row.Rows.{Rows}
use Rattle.fsrm_model.specs.declared.row.Threshold.{Threshold}
use Rattle.fsrm_base.specs.Keyed.{row_of, is_ascending}
use Rattle.fsrm_model.specs.objects.Acts.{folder_in, percent_in, is_of_quota, actions_of, IsAct, act_before, are_in_order}
use Rattle.fsrm_model.specs.objects.DueActions.{ready, act_of, ready_acts, quota_acts, due, due_refused}
use Rattle.fsrm_model.specs.objects.Quota.{folder_of, quota_of, over, deepest}
use Rattle.fsrm_model.specs.meaning.Raises.{are_ascending}
use Rattle.fsrm_model.specs.objects.Reached.{crossed}
use Rattle.fsrm_model.specs.objects.Thresholds.{percent_of, actions_at}
use Rattle.fsrm_base.proofs.EditedTests.{list_all-filter}
use Rattle.fsrm_base.proofs.Order.{parts, ascending-filter}
use Rattle.fsrm_base.proofs.RowLaws.{own_rows}
use Rattle.fsrm_base.proofs.TestLaws.{both, both_true, lt_is, lt_test, eq_same}
use Rattle.fsrm_model.proofs.thresholds.DueLaws.{also, ascending_each}
use Rattle.fsrm_model.proofs.thresholds.RaisesLaws.{refuser}

-- ---- facts of each item
pub all-append : {X : Type 0} (P : X → Type 0) (xs ys : List X) → AllByRecursion P xs → AllByRecursion P ys → AllByRecursion P (xs ++ ys)
all-append P [] ys h g = g
all-append P (x ∷ xs) ys h g = (h.0, all-append P xs ys h.1 g)

all-flat_map : {X Y : Type 0} (P : Y → Type 0) (f : X → List Y) (xs : List X) → AllByRecursion (λ x. AllByRecursion P (f x)) xs → AllByRecursion P (flat_map f xs)
all-flat_map P f [] h = tt
all-flat_map P f (x ∷ xs) h = all-append P (f x) (flat_map f xs) h.0 (all-flat_map P f xs h.1)

all-filter : {X : Type 0} (P : X → Type 0) (q : X → Bool) (xs : List X) → AllByRecursion P xs → AllByRecursion P (filter q xs)
all-filter P q [] h = tt
all-filter P q (x ∷ xs) h = at (q x) (all-filter P q xs h.1)
  where
    at : (b : Bool) → AllByRecursion P (filter q xs) → AllByRecursion P (cond b (x ∷ filter q xs) (filter q xs))
    at true r = (h.0, r)
    at false r = r

all_tests : {X : Type 0} (p : X → Bool) (xs : List X) → AllByRecursion (λ x. p x ≡ true) xs → list_all p xs ≡ true
all_tests p [] h = refl
all_tests p (x ∷ xs) h = both_true (p x) (list_all p xs) h.0 (all_tests p xs h.1)

above_trans : {X : Type 0} (key : X → ℕ) (n : ℕ) (x : X) (xs : List X) → n < key x → is_ascending key (x ∷ xs) ≡ true → AllByRecursion (λ y. n < key y) (x ∷ xs)
above_trans key n x [] h a = (h, tt)
above_trans key n x (y ∷ ys) h a =
    let p : (nat_lt (key x) (key y) ≡ true) × (is_ascending key (y ∷ ys) ≡ true) = both _ _ a in
    let l : key x < key y = lt_is _ _ p.0 in
    (h, above_trans key n y ys (omega (arith, h, l)) p.1)

-- the rows after one have greater numbers
all_above : {X : Type 0} (key : X → ℕ) (x : X) (xs : List X) → is_ascending key (x ∷ xs) ≡ true → AllByRecursion (λ y. key x < key y) xs
all_above key x [] a = tt
all_above key x (y ∷ ys) a =
    let p : (nat_lt (key x) (key y) ≡ true) × (is_ascending key (y ∷ ys) ≡ true) = both _ _ a in
    above_trans key (key x) y ys (lt_is _ _ p.0) p.1

-- ---- the order
later_folder : (a b : Act) → folder_in a.subject < folder_in b.subject → act_before a b ≡ true
later_folder a b h = ap (λ t. t || ((folder_in a.subject == folder_in b.subject) && (nat_lt (percent_in a.subject) (percent_in b.subject) || ((percent_in a.subject == percent_in b.subject) && nat_lt a.place b.place)))) (lt_test _ _ h)

second : (b c : Bool) → b ≡ true → c ≡ true → (d : Bool) → (d || (b && c)) ≡ true
second b c h g true = refl
second b c h g false = both_true b c h g

same_test : (m n : ℕ) → m ≡ n → (m == n) ≡ true
same_test m n e = subst (λ k. (m == k) ≡ true) e (eq_same m)

later_percent : (a b : Act) → folder_in a.subject ≡ folder_in b.subject → percent_in a.subject < percent_in b.subject → act_before a b ≡ true
later_percent a b e h =
    second (folder_in a.subject == folder_in b.subject) _ (same_test _ _ e)
    (ap (λ t. t || ((percent_in a.subject == percent_in b.subject) && nat_lt a.place b.place)) (lt_test _ _ h)) (nat_lt (folder_in a.subject) (folder_in b.subject))

later_place : (a b : Act) → a.subject ≡ b.subject → a.place < b.place → act_before a b ≡ true
later_place a b e h =
    second (folder_in a.subject == folder_in b.subject) _ (same_test _ _ (ap folder_in e))
    (second (percent_in a.subject == percent_in b.subject) (nat_lt a.place b.place) (same_test _ _ (ap percent_in e)) (lt_test _ _ h) (nat_lt (percent_in a.subject) (percent_in b.subject)))
    (nat_lt (folder_in a.subject) (folder_in b.subject))

in_order-append : (xs ys : List Act) → are_in_order xs ≡ true → are_in_order ys ≡ true → AllByRecursion (λ x. AllByRecursion (λ y. act_before x y ≡ true) ys) xs → are_in_order (xs ++ ys) ≡ true
in_order-append [] ys h g before = g
in_order-append (x ∷ xs) ys h g before =
    let p = both (list_all (act_before x) xs) (are_in_order xs) h in
    both_true (list_all (act_before x) (xs ++ ys)) (are_in_order (xs ++ ys)) (joined xs ys p.0 (all_tests (act_before x) ys before.0)) (in_order-append xs ys p.1 g before.1)
  where
    joined : (as' bs : List Act) → list_all (act_before x) as' ≡ true → list_all (act_before x) bs ≡ true → list_all (act_before x) (as' ++ bs) ≡ true
    joined [] bs h g = g
    joined (a ∷ as') bs h g = let p = both (act_before x a) (list_all (act_before x) as') h in both_true (act_before x a) (list_all (act_before x) (as' ++ bs)) p.0 (joined as' bs p.1 g)

-- some of them stand in order too
pub in_order-filter : (p : Act → Bool) (acts : List Act) → are_in_order acts ≡ true → are_in_order (filter p acts) ≡ true
in_order-filter p [] h = refl
in_order-filter p (act ∷ acts) h =
    let parts = both (list_all (act_before act) acts) (are_in_order acts) h in
    at (p act) (list_all-filter (act_before act) p acts parts.0) (in_order-filter p acts parts.1)
  where
    at : (b : Bool) → list_all (act_before act) (filter p acts) ≡ true → are_in_order (filter p acts) ≡ true → are_in_order (cond b (act ∷ filter p acts) (filter p acts)) ≡ true
    at true first rest = both_true (list_all (act_before act) (filter p acts)) (are_in_order (filter p acts)) first rest
    at false first rest = rest

-- ---- the acts of a list of actions, of which the first so many are left out
abbrev acts_from : ℕ → ℕ → ℕ → Subject → List Action → List Act
acts_from n run_limit moment subject actions = map (act_of subject) (filter (λ (at : ℕ × Action). ready run_limit moment at.1) (enumerate_from n actions))

record IsFrom (n : ℕ) (subject : Subject) (act : Act) : Type 0 where
  of : act.subject ≡ subject
  from : n ≤ act.place

all_from : (n run_limit moment : ℕ) (subject : Subject) (actions : List Action) → AllByRecursion (IsFrom n subject) (acts_from n run_limit moment subject actions)
all_from n run_limit moment subject [] = tt
all_from n run_limit moment subject (action ∷ actions) =
    at (ready run_limit moment action) (also (IsFrom (n + 1) subject) (IsFrom n subject) lower (acts_from (n + 1) run_limit moment subject actions) (all_from (n + 1) run_limit moment subject actions))
  where
    lower : (act : Act) → IsFrom (n + 1) subject act → IsFrom n subject act
    lower act h = record { of = h.of; from = omega (arith, h.from) }

    rest : List (ℕ × Action)
    rest = filter (λ (at : ℕ × Action). ready run_limit moment at.1) (enumerate_from (n + 1) actions)

    at : (b : Bool) → AllByRecursion (IsFrom n subject) (map (act_of subject) rest) → AllByRecursion (IsFrom n subject) (map (act_of subject) (cond b ((n, action) ∷ rest) rest))
    at true h = (record { of = refl; from = omega arith }, h)
    at false h = h

order_from : (n run_limit moment : ℕ) (subject : Subject) (actions : List Action) → are_in_order (acts_from n run_limit moment subject actions) ≡ true
order_from n run_limit moment subject [] = refl
order_from n run_limit moment subject (action ∷ actions) =
    at (ready run_limit moment action) (order_from (n + 1) run_limit moment subject actions)
  where
    rest : List (ℕ × Action)
    rest = filter (λ (at : ℕ × Action). ready run_limit moment at.1) (enumerate_from (n + 1) actions)

    first : Act
    first = act_of subject (n, action)

    after : (act : Act) → IsFrom (n + 1) subject act → act_before first act ≡ true
    after act h = later_place first act (sym h.of) (omega (arith, h.from))

    at : (b : Bool) → are_in_order (map (act_of subject) rest) ≡ true → are_in_order (map (act_of subject) (cond b ((n, action) ∷ rest) rest)) ≡ true
    at true h =
        both_true (list_all (act_before first) (map (act_of subject) rest)) (are_in_order (map (act_of subject) rest))
        (all_tests (act_before first) (map (act_of subject) rest) (also (IsFrom (n + 1) subject) (λ act. act_before first act ≡ true) after (map (act_of subject) rest) (all_from (n + 1) run_limit moment subject actions))) h
    at false h = h

-- the acts of a subject are its own, and stand in order
pub ready_of : (P : Act → Type 0) (run_limit moment : ℕ) (subject : Subject) (actions : List Action) → ((act : Act) → act.subject ≡ subject → P act) → AllByRecursion P (ready_acts run_limit moment subject actions)
ready_of P run_limit moment subject actions h =
    also (IsFrom 0 subject) P (λ act is. h act is.of) (ready_acts run_limit moment subject actions) (all_from 0 run_limit moment subject actions)

pub order_ready : (run_limit moment : ℕ) (subject : Subject) (actions : List Action) → are_in_order (ready_acts run_limit moment subject actions) ≡ true
order_ready run_limit moment subject actions = order_from 0 run_limit moment subject actions

-- ---- of a quota
abbrev acts_at : ℕ → ℕ → ℕ → Threshold → List Act
acts_at run_limit moment folder threshold = ready_acts run_limit moment (Quota folder threshold.percent) threshold.actions

record IsOf (folder n : ℕ) (act : Act) : Type 0 where
  folder_is : folder_in act.subject ≡ folder
  above : n < percent_in act.subject

above_percent : (run_limit moment folder n : ℕ) (thresholds : List Threshold) → AllByRecursion (λ t. n < percent_of t) thresholds → AllByRecursion (IsOf folder n) (flat_map (acts_at run_limit moment folder) thresholds)
above_percent run_limit moment folder n thresholds h =
    all-flat_map (IsOf folder n) (acts_at run_limit moment folder) thresholds (also (λ t. n < percent_of t) (λ t. AllByRecursion (IsOf folder n) (acts_at run_limit moment folder t)) one thresholds h)
  where
    one : (t : Threshold) → n < percent_of t → AllByRecursion (IsOf folder n) (acts_at run_limit moment folder t)
    one t l =
        also (IsFrom 0 (Quota folder t.percent)) (IsOf folder n) (λ act is. record { folder_is = ap folder_in is.of; above = subst (λ k. n < k) (sym (ap percent_in is.of)) l })
        (acts_at run_limit moment folder t) (all_from 0 run_limit moment (Quota folder t.percent) t.actions)

order_thresholds : (run_limit moment folder : ℕ) (thresholds : List Threshold) → is_ascending percent_of thresholds ≡ true → are_in_order (flat_map (acts_at run_limit moment folder) thresholds) ≡ true
order_thresholds run_limit moment folder [] a = refl
order_thresholds run_limit moment folder (t ∷ thresholds) a =
    let own = acts_at run_limit moment folder t in
    let rest = flat_map (acts_at run_limit moment folder) thresholds in
    let later = above_percent run_limit moment folder t.percent thresholds (all_above percent_of t thresholds a) in
    in_order-append own rest (order_from 0 run_limit moment (Quota folder t.percent) t.actions) (order_thresholds run_limit moment folder thresholds (parts percent_of t thresholds a).rest)
    (also (IsFrom 0 (Quota folder t.percent)) (λ x. AllByRecursion (λ y. act_before x y ≡ true) rest)
    (λ x is. also (IsOf folder t.percent) (λ y. act_before x y ≡ true)
    (λ y after. later_percent x y (ap folder_in is.of ∙ sym after.folder_is) (subst (λ k. k < percent_in y.subject) (sym (ap percent_in is.of)) after.above)) rest later)
    own (all_from 0 run_limit moment (Quota folder t.percent) t.actions))

pub order_quota : (passes : ℕ → Bool) (run_limit moment : ℕ) (quota : QuotaRow) → is_ascending percent_of quota.thresholds ≡ true → are_in_order (quota_acts passes run_limit moment quota) ≡ true
order_quota passes run_limit moment quota a =
    order_thresholds run_limit moment quota.folder (filter (λ t. passes t.percent) quota.thresholds) (ascending-filter percent_of (λ t. passes t.percent) quota.thresholds a)

of_folder : (passes : ℕ → Bool) (run_limit moment : ℕ) (quota : QuotaRow) → AllByRecursion (λ act. folder_in act.subject ≡ quota.folder) (quota_acts passes run_limit moment quota)
of_folder passes run_limit moment quota =
    all-flat_map (λ act. folder_in act.subject ≡ quota.folder) (acts_at run_limit moment quota.folder) kept
    (all_thresholds kept)
  where
    kept : List Threshold
    kept = filter (λ t. passes t.percent) quota.thresholds

    all_thresholds : (ts : List Threshold) → AllByRecursion (λ t. AllByRecursion (λ act. folder_in act.subject ≡ quota.folder) (acts_at run_limit moment quota.folder t)) ts
    all_thresholds [] = tt
    all_thresholds (t ∷ ts) = (
      also (IsFrom 0 (Quota quota.folder t.percent)) (λ act. folder_in act.subject ≡ quota.folder) (λ act is. ap folder_in is.of) (acts_at run_limit moment quota.folder t)
          (all_from 0 run_limit moment (Quota quota.folder t.percent) t.actions),
      all_thresholds ts,
    )

-- they are acts of a quota
abbrev pub IsOfScreen : Act → Type 0
IsOfScreen act = is_of_quota act.subject ≡ false

abbrev pub IsOfQuota : Act → Type 0
IsOfQuota act = is_of_quota act.subject ≡ true

of_quota : (passes : ℕ → Bool) (run_limit moment : ℕ) (quota : QuotaRow) → AllByRecursion IsOfQuota (quota_acts passes run_limit moment quota)
of_quota passes run_limit moment quota =
    all-flat_map IsOfQuota (acts_at run_limit moment quota.folder) (filter (λ t. passes t.percent) quota.thresholds) (each_threshold (filter (λ t. passes t.percent) quota.thresholds))
  where
    each_threshold : (ts : List Threshold) → AllByRecursion (λ t. AllByRecursion IsOfQuota (acts_at run_limit moment quota.folder t)) ts
    each_threshold [] = tt
    each_threshold (t ∷ ts) = (ready_of IsOfQuota run_limit moment (Quota quota.folder t.percent) t.actions (λ act of'. ap is_of_quota of'), each_threshold ts)

pub of_quota_due : (K : Capacity) (before after : Rows) (moment : ℕ) → AllByRecursion IsOfQuota (due K before after moment)
of_quota_due K before after moment = all-flat_map IsOfQuota acts after.quotas (each_quota after.quotas)
  where
    acts : QuotaRow → List Act
    acts quota = quota_acts (crossed K before after quota.folder) after.run_limit moment quota

    each_quota : (quotas : List QuotaRow) → AllByRecursion (λ quota. AllByRecursion IsOfQuota (acts quota)) quotas
    each_quota [] = tt
    each_quota (quota ∷ quotas) = (of_quota (crossed K before after quota.folder) after.run_limit moment quota, each_quota quotas)

pub of_quota_refused : (K : Capacity) (R : Rows) (nodes : List NodeRow) (moment : ℕ) → AllByRecursion IsOfQuota (due_refused K R nodes moment)
of_quota_refused K R nodes moment = at (deepest nodes (over K R nodes))
  where
    at : (o : Option QuotaRow) → AllByRecursion IsOfQuota (option_map_or (λ quota. quota_acts (crossed K R (record R { nodes = nodes }) quota.folder) R.run_limit moment quota) o [])
    at None = tt
    at (Some quota) = of_quota (crossed K R (record R { nodes = nodes }) quota.folder) R.run_limit moment quota

-- ---- of all quotas
order_quotas : (acts : QuotaRow → List Act) (quotas : List QuotaRow) → is_ascending folder_of quotas ≡ true → AllByRecursion (λ quota. are_in_order (acts quota) ≡ true) quotas → AllByRecursion (λ quota. AllByRecursion (λ act. folder_in act.subject ≡ quota.folder) (acts quota)) quotas → are_in_order (flat_map acts quotas) ≡ true
order_quotas acts [] a own of' = refl
order_quotas acts (quota ∷ quotas) a own of' =
    let rest = flat_map acts quotas in
    let later : AllByRecursion (λ act. quota.folder < folder_in act.subject) rest = all-flat_map (λ act. quota.folder < folder_in act.subject) acts quotas (beyond quotas (all_above folder_of quota quotas a) of'.1) in
    in_order-append (acts quota) rest own.0 (order_quotas acts quotas (parts folder_of quota quotas a).rest own.1 of'.1)
    (also (λ act. folder_in act.subject ≡ quota.folder) (λ x. AllByRecursion (λ y. act_before x y ≡ true) rest)
    (λ x is. also (λ act. quota.folder < folder_in act.subject) (λ y. act_before x y ≡ true) (λ y l. later_folder x y (subst (λ k. k < folder_in y.subject) (sym is) l)) rest later)
    (acts quota) of'.0)
  where
    beyond : (qs : List QuotaRow) → AllByRecursion (λ q. quota.folder < folder_of q) qs → AllByRecursion (λ q. AllByRecursion (λ act. folder_in act.subject ≡ q.folder) (acts q)) qs → AllByRecursion (λ q. AllByRecursion (λ act. quota.folder < folder_in act.subject) (acts q)) qs
    beyond [] h g = tt
    beyond (q ∷ qs) h g =
        (also (λ act. folder_in act.subject ≡ q.folder) (λ act. quota.folder < folder_in act.subject) (λ act is. subst (λ k. quota.folder < k) (sym is) h.0) (acts q) g.0, beyond qs h.1 g.1)

pub order_due : (K : Capacity) (before after : Rows) (moment : ℕ) → are_ascending after.quotas ≡ true → are_in_order (due K before after moment) ≡ true
order_due K before after moment a =
    let p = both (is_ascending folder_of after.quotas) (list_all (λ quota. is_ascending percent_of quota.thresholds) after.quotas) a in
    order_quotas acts after.quotas p.0
    (also (λ quota. is_ascending percent_of quota.thresholds ≡ true) (λ quota. are_in_order (acts quota) ≡ true)
    (λ quota asc. order_quota (crossed K before after quota.folder) after.run_limit moment quota asc) after.quotas (ascending_each after.quotas p.1))
    (each_folder after.quotas)
  where
    acts : QuotaRow → List Act
    acts quota = quota_acts (crossed K before after quota.folder) after.run_limit moment quota

    each_folder : (quotas : List QuotaRow) → AllByRecursion (λ quota. AllByRecursion (λ act. folder_in act.subject ≡ quota.folder) (acts quota)) quotas
    each_folder [] = tt
    each_folder (quota ∷ quotas) = (of_folder (crossed K before after quota.folder) after.run_limit moment quota, each_folder quotas)

pub order_refused : (K : Capacity) (R : Rows) (nodes : List NodeRow) (moment : ℕ) → are_ascending R.quotas ≡ true → are_in_order (due_refused K R nodes moment) ≡ true
order_refused K R nodes moment a = at (deepest nodes (over K R nodes)) refl
  where
    at : (o : Option QuotaRow) → deepest nodes (over K R nodes) ≡ o → are_in_order (option_map_or (λ quota. quota_acts (crossed K R (record R { nodes = nodes }) quota.folder) R.run_limit moment quota) o []) ≡ true
    at None e = refl
    at (Some quota) e = order_quota (crossed K R (record R { nodes = nodes }) quota.folder) R.run_limit moment quota (refuser K R nodes quota a e).ascends

-- ---- what they name
-- an act of one of these actions, which are those of its subject from a place on
record IsOne (whole : List Action) (subject : Subject) (act : Act) : Type 0 where
  of : act.subject ≡ subject
  action : Action
  there : slice_get whole act.place ≡ Some action
  kind_is : act.kind ≡ action.kind

ones_from : (n run_limit moment : ℕ) (subject : Subject) (whole actions : List Action) → ((k : ℕ) → slice_get whole (n + k) ≡ slice_get actions k) → AllByRecursion (IsOne whole subject) (acts_from n run_limit moment subject actions)
ones_from n run_limit moment subject whole [] same = tt
ones_from n run_limit moment subject whole (action ∷ actions) same =
    at (ready run_limit moment action) (ones_from (n + 1) run_limit moment subject whole actions (λ k. ap (slice_get whole) (next k) ∙ same (suc k)))
  where
    next : (k : ℕ) → (n + 1) + k ≡ n + suc k
    next k = omega arith

    rest : List (ℕ × Action)
    rest = filter (λ (at : ℕ × Action). ready run_limit moment at.1) (enumerate_from (n + 1) actions)

    start : n ≡ n + 0
    start = omega arith

    at : (b : Bool) → AllByRecursion (IsOne whole subject) (map (act_of subject) rest) → AllByRecursion (IsOne whole subject) (map (act_of subject) (cond b ((n, action) ∷ rest) rest))
    at true h = (record { of = refl; action = action; there = ap (slice_get whole) start ∙ same 0; kind_is = refl }, h)
    at false h = h

-- so each act is one of the rows, if the actions are its subject's
pub acts_there : (R : Rows) (run_limit moment : ℕ) (subject : Subject) (actions : List Action) → actions_of R subject ≡ actions → AllByRecursion (IsAct R) (ready_acts run_limit moment subject actions)
acts_there R run_limit moment subject actions own =
    also (IsOne actions subject) (IsAct R)
    (λ act is. record {
      action = is.action;
      there = ap (λ s. slice_get (actions_of R s) act.place) is.of ∙ (ap (λ whole. slice_get whole act.place) own ∙ is.there);
      kind_is = is.kind_is;
    })
    (ready_acts run_limit moment subject actions) (ones_from 0 run_limit moment subject actions actions (λ k. ap (slice_get actions) (none k)))
  where
    none : (k : ℕ) → 0 + k ≡ k
    none k = omega arith

quota_there : (R : Rows) (passes : ℕ → Bool) (run_limit moment : ℕ) (quota : QuotaRow) → quota_of R quota.folder ≡ Some quota → is_ascending percent_of quota.thresholds ≡ true → AllByRecursion (IsAct R) (quota_acts passes run_limit moment quota)
quota_there R passes run_limit moment quota there a =
    all-flat_map (IsAct R) (acts_at run_limit moment quota.folder) (filter (λ t. passes t.percent) quota.thresholds)
    (all-filter (λ t. AllByRecursion (IsAct R) (acts_at run_limit moment quota.folder t)) (λ t. passes t.percent) quota.thresholds
    (also (λ t. row_of percent_of (percent_of t) quota.thresholds ≡ Some t) (λ t. AllByRecursion (IsAct R) (acts_at run_limit moment quota.folder t))
    (λ t own. acts_there R run_limit moment (Quota quota.folder t.percent) t.actions (at_threshold t own)) quota.thresholds (own_rows percent_of quota.thresholds a)))
  where
    at_threshold : (t : Threshold) → row_of percent_of (percent_of t) quota.thresholds ≡ Some t → actions_of R (Quota quota.folder t.percent) ≡ t.actions
    at_threshold t own =
        ap (λ o. option_map_or (λ q. actions_at q.thresholds t.percent) o []) there ∙ ap (λ o. option_map_or (λ (t : Threshold). t.actions) o []) own

pub due_there : (K : Capacity) (before after : Rows) (moment : ℕ) → are_ascending after.quotas ≡ true → AllByRecursion (IsAct after) (due K before after moment)
due_there K before after moment a =
    let p = both (is_ascending folder_of after.quotas) (list_all (λ quota. is_ascending percent_of quota.thresholds) after.quotas) a in
    all-flat_map (IsAct after) acts after.quotas (each_quota after.quotas (own_rows folder_of after.quotas p.0) (ascending_each after.quotas p.1))
  where
    acts : QuotaRow → List Act
    acts quota = quota_acts (crossed K before after quota.folder) after.run_limit moment quota

    each_quota : (quotas : List QuotaRow) → AllByRecursion (λ quota. row_of folder_of (folder_of quota) after.quotas ≡ Some quota) quotas → AllByRecursion (λ quota. is_ascending percent_of quota.thresholds ≡ true) quotas → AllByRecursion (λ quota. AllByRecursion (IsAct after) (acts quota)) quotas
    each_quota [] own asc = tt
    each_quota (quota ∷ quotas) own asc =
        (quota_there after (crossed K before after quota.folder) after.run_limit moment quota own.0 asc.0, each_quota quotas own.1 asc.1)

pub refused_there : (K : Capacity) (R : Rows) (nodes : List NodeRow) (moment : ℕ) → are_ascending R.quotas ≡ true → AllByRecursion (IsAct R) (due_refused K R nodes moment)
refused_there K R nodes moment a = at (deepest nodes (over K R nodes)) refl
  where
    at : (o : Option QuotaRow) → deepest nodes (over K R nodes) ≡ o → AllByRecursion (IsAct R) (option_map_or (λ quota. quota_acts (crossed K R (record R { nodes = nodes }) quota.folder) R.run_limit moment quota) o [])
    at None e = tt
    at (Some quota) e =
        let own = refuser K R nodes quota a e in
        quota_there R (crossed K R (record R { nodes = nodes }) quota.folder) R.run_limit moment quota own.there own.ascends

-- ---- none is due if none is crossed
pub none_due : (K : Capacity) (before after : Rows) (moment : ℕ) → ((folder percent : ℕ) → crossed K before after folder percent ≡ false) → due K before after moment ≡ []
none_due K before after moment h = none after.quotas
  where
    no_threshold : (folder : ℕ) (thresholds : List Threshold) → filter (λ t. crossed K before after folder t.percent) thresholds ≡ []
    no_threshold folder [] = refl
    no_threshold folder (t ∷ thresholds) =
        ap (λ b. cond b (t ∷ filter (λ t. crossed K before after folder t.percent) thresholds) (filter (λ t. crossed K before after folder t.percent) thresholds)) (h folder t.percent)
        ∙ no_threshold folder thresholds

    none : (quotas : List QuotaRow) → flat_map (λ quota. quota_acts (crossed K before after quota.folder) after.run_limit moment quota) quotas ≡ []
    none [] = refl
    none (quota ∷ quotas) =
        ap (λ ts. flat_map (acts_at after.run_limit moment quota.folder) ts ++ flat_map (λ quota. quota_acts (crossed K before after quota.folder) after.run_limit moment quota) quotas) (no_threshold quota.folder quota.thresholds)
        ∙ none quotas
