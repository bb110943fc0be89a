-- The acts that wait stand in their order, and the first of them goes first.
use Rattle.std.proofs.Common.{◌≡◌, ℕ, zero, suc, ◌<◌, ◌≤◌, ◌==◌, Bool, true, false, ◌||◌, ◌&&◌, not, List, [], ◌∷◌, length, Option, Some, None, refl, sym, ◌∙◌, ap, subst, arith, is_some, slice_get, nat_lt, nat_le}
use Rattle.std.proofs.lemmas.Option.{same_Some}
use Rattle.std.specs.List.{list_all, cons_option}
use Rattle.std.specs.Prelude.{drop}
use Rattle.fsrm_base.specs.Keyed.{is_ascending}
use Rattle.fsrm_base.specs.Numbers.{is_set, is_in}
use Rattle.fsrm_base.proofs.NumberLaws.{first_least}
use Rattle.fsrm_base.proofs.TestLaws.{both, both_true, eq_same, eq_test, ge_is, le_is, lt_is, lt_test, or_later}
use Rattle.fsrm_model.specs.declared.command.Act.{Act}
use Rattle.fsrm_model.specs.declared.command.Subject.TheVariants.{Quota}
use Rattle.fsrm_model.specs.declared.row.ActionKind.{ActionKind}
use Rattle.fsrm_model.specs.declared.row.QuotaRow.{QuotaRow}
use Rattle.fsrm_model.specs.objects.Acts.{act_before}
use Rattle.fsrm_model.specs.objects.Quota.{folder_of}
use Rattle.fsrm_model.specs.objects.Thresholds.{percent_of, are_too_many}
use Rattle.thresholds.specs.Marked.{act_at, waiting, are_there, quota_place, threshold_place, action_place}
use Rattle.thresholds.specs.Settled.{are_orderly, has_orderly_lists}
use Rattle.thresholds.proofs.Decoded.{Found, found, found_act, found_is, earlier}

-- ---- quotas in order
pub record Orderly (quotas : List QuotaRow) : Type 0 where
  pub ascending : is_ascending folder_of quotas ≡ true
  pub few : length quotas ≤ 4096
  pub lists : list_all has_orderly_lists quotas ≡ true

pub orderly : (quotas : List QuotaRow) → are_orderly quotas ≡ true → Orderly quotas
orderly quotas h =
    let parts = both (is_ascending folder_of quotas && nat_le (length quotas) 4096) (list_all has_orderly_lists quotas) h in
    let order = both (is_ascending folder_of quotas) (nat_le (length quotas) 4096) parts.0 in
    record { ascending = order.0; few = le_is (length quotas) 4096 order.1; lists = parts.1 }

-- of the one at a place
pub at_passes : {X : Type 0} (p : X → Bool) (rows : List X) (k : ℕ) (r : X) → list_all p rows ≡ true → slice_get rows k ≡ Some r → p r ≡ true
at_passes p [] k r h e = cc
at_passes p (x ∷ rows) zero r h e = subst (λ y. p y ≡ true) (same_Some x r e) (both (p x) (list_all p rows) h).0
at_passes p (x ∷ rows) (suc k) r h e = at_passes p rows k r (both (p x) (list_all p rows) h).1 e

pub percents_ascend : (quotas : List QuotaRow) (k : ℕ) (quota : QuotaRow) → Orderly quotas → slice_get quotas k ≡ Some quota → is_ascending percent_of quota.thresholds ≡ true
percents_ascend quotas k quota o e =
    (both (is_ascending percent_of quota.thresholds) (not (are_too_many quota.thresholds)) (at_passes has_orderly_lists quotas k quota o.lists e)).0

-- ---- which act comes first
module _ (f g p q k l : ℕ) (one other : ActionKind) where
  abbrev first_act : Act
  first_act = record { subject = Quota f p; place = k; kind = one }

  abbrev second_act : Act
  second_act = record { subject = Quota g q; place = l; kind = other }

  by_folder : f < g → act_before first_act second_act ≡ true
  by_folder less = ap (λ b. b || ((f == g) && (nat_lt p q || ((p == q) && nat_lt k l)))) (lt_test f g less)

  by_percent : f ≡ g → p < q → act_before first_act second_act ≡ true
  by_percent same less =
      or_later (nat_lt f g) ((f == g) && (nat_lt p q || ((p == q) && nat_lt k l)))
      (both_true (f == g) (nat_lt p q || ((p == q) && nat_lt k l)) (eq_test f g same) (ap (λ b. b || ((p == q) && nat_lt k l)) (lt_test p q less)))

  by_place : f ≡ g → p ≡ q → k < l → act_before first_act second_act ≡ true
  by_place same also less =
      or_later (nat_lt f g) ((f == g) && (nat_lt p q || ((p == q) && nat_lt k l)))
      (both_true (f == g) (nat_lt p q || ((p == q) && nat_lt k l)) (eq_test f g same)
      (or_later (nat_lt p q) ((p == q) && nat_lt k l) (both_true (p == q) (nat_lt k l) (eq_test p q also) (lt_test k l less))))

-- the digits of the lesser number
place_le : (n m : ℕ) → n < m → quota_place n ≤ quota_place m
place_le n m less = omega (arith, less)

threshold_le : (n m : ℕ) → n < m → quota_place n ≡ quota_place m → threshold_place n ≤ threshold_place m
threshold_le n m less same = omega (arith, less, same)

action_lt : (n m : ℕ) → n < m → quota_place n ≡ quota_place m → threshold_place n ≡ threshold_place m → action_place n < action_place m
action_lt n m less same also = omega (arith, less, same, also)

same_place : (a b : ℕ) → a ≤ b → nat_lt a b ≡ false → a ≡ b
same_place a b least h = let most = ge_is a b h in omega (arith, least, most)

before_by : (quotas : List QuotaRow) (n m : ℕ) → Orderly quotas → n < m → (f : Found quotas n) (g : Found quotas m) → act_before (found_act f) (found_act g) ≡ true
before_by quotas n m o less f g = at (nat_lt (quota_place n) (quota_place m)) refl
  where
    inner : quota_place n ≡ quota_place m → f.quota ≡ g.quota → (b : Bool) → nat_lt (threshold_place n) (threshold_place m) ≡ b → act_before (found_act f) (found_act g) ≡ true
    inner same own true e =
        by_percent f.quota.folder g.quota.folder f.threshold.percent g.threshold.percent (action_place n) (action_place m) f.action.kind g.action.kind (ap folder_of own)
        (earlier percent_of g.quota.thresholds (threshold_place n) (threshold_place m) f.threshold g.threshold (percents_ascend quotas (quota_place m) g.quota o g.quota_is) (lt_is (threshold_place n) (threshold_place m) e)
        (ap (λ (q : QuotaRow). slice_get q.thresholds (threshold_place n)) (sym own) ∙ f.threshold_is) g.threshold_is)
    inner same own false e =
        let also = same_place (threshold_place n) (threshold_place m) (threshold_le n m less same) e in
        let threshold : f.threshold ≡ g.threshold = same_Some f.threshold g.threshold (sym f.threshold_is ∙ (ap (λ (q : QuotaRow). slice_get q.thresholds (threshold_place n)) own ∙ (ap (slice_get g.quota.thresholds) also ∙ g.threshold_is))) in
        by_place f.quota.folder g.quota.folder f.threshold.percent g.threshold.percent (action_place n) (action_place m) f.action.kind g.action.kind (ap folder_of own) (ap percent_of threshold) (action_lt n m less same also)

    at : (b : Bool) → nat_lt (quota_place n) (quota_place m) ≡ b → act_before (found_act f) (found_act g) ≡ true
    at true e =
        by_folder f.quota.folder g.quota.folder f.threshold.percent g.threshold.percent (action_place n) (action_place m) f.action.kind g.action.kind
        (earlier folder_of quotas (quota_place n) (quota_place m) f.quota g.quota o.ascending (lt_is (quota_place n) (quota_place m) e) f.quota_is g.quota_is)
    at false e =
        let same = same_place (quota_place n) (quota_place m) (place_le n m less) e in
        let own : f.quota ≡ g.quota = same_Some f.quota g.quota (sym f.quota_is ∙ (ap (slice_get quotas) same ∙ g.quota_is)) in
        inner same own (nat_lt (threshold_place n) (threshold_place m)) refl

-- the act of the least number comes before all others
pub first_waits : (quotas : List QuotaRow) (n : ℕ) (numbers : List ℕ) (act : Act) → are_orderly quotas ≡ true → act_at quotas n ≡ Some act → ((m : ℕ) → is_in numbers m ≡ true → n < m) → list_all (act_before act) (waiting quotas numbers) ≡ true
first_waits quotas n [] act o is less = refl
first_waits quotas n (m ∷ numbers) act o is less =
    at (act_at quotas m) refl (first_waits quotas n numbers act o is (λ k h. less k (or_later (m == k) (is_in numbers k) h)))
  where
    at : (a : Option Act) → act_at quotas m ≡ a → list_all (act_before act) (waiting quotas numbers) ≡ true → list_all (act_before act) (cons_option a (waiting quotas numbers)) ≡ true
    at None e later = later
    at (Some next) e later =
        let f = found quotas n (ap is_some is) in
        let g = found quotas m (ap is_some e) in
        let one : found_act f ≡ act = same_Some (found_act f) act (sym (found_is quotas n f) ∙ is) in
        let other : found_act g ≡ next = same_Some (found_act g) next (sym (found_is quotas m g) ∙ e) in
        both_true (act_before act next) (list_all (act_before act) (waiting quotas numbers))
        (subst (λ a. act_before a next ≡ true) one (subst (λ a. act_before (found_act f) a ≡ true) other
        (before_by quotas n m (orderly quotas o) (less m (ap (λ b. b || is_in numbers m) (eq_same m))) f g))) later

-- ---- the least number goes
module _ (quotas : List QuotaRow) (n : ℕ) (act : Act) (is : act_at quotas n ≡ Some act) where
  pub waits_first : (members : List ℕ) → slice_get members 0 ≡ Some n → waiting quotas members ≡ act ∷ waiting quotas (drop 1 members)
  waits_first [] least = cc
  waits_first (m ∷ numbers) least =
      ap (λ k. waiting quotas (k ∷ numbers)) (same_Some m n least) ∙ ap (λ o. cons_option o (waiting quotas numbers)) is

  pub waits_later : (members : List ℕ) → are_orderly quotas ≡ true → slice_get members 0 ≡ Some n → is_set members ≡ true → list_all (act_before act) (waiting quotas (drop 1 members)) ≡ true
  waits_later [] o least set = cc
  waits_later (m ∷ numbers) o least set =
      let own : is_set (n ∷ numbers) ≡ true = subst (λ k. is_set (k ∷ numbers) ≡ true) (same_Some m n least) set in
      first_waits quotas n numbers act o is (λ k h. first_least n k numbers own h)

-- if there is none, none waits
pub none_waits : (quotas : List QuotaRow) (members : List ℕ) → slice_get members 0 ≡ None → waiting quotas members ≡ []
none_waits quotas [] none = refl
none_waits quotas (m ∷ members) none = cc

pub there_less : (quotas : List QuotaRow) (members : List ℕ) → are_there quotas members ≡ true → are_there quotas (drop 1 members) ≡ true
there_less quotas [] h = refl
there_less quotas (m ∷ members) h = (both (is_some (act_at quotas m)) (are_there quotas members) h).1
