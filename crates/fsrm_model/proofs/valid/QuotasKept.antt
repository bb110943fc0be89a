-- The quotas of a store stay such when one comes, changes or goes.
use Rattle.std.proofs.Common.{◌≡◌, ℕ, ◌<◌, ◌≤◌, ◌==◌, Bool, true, false, cond, not, ◌&&◌, List, [], ◌∷◌, length, refl, sym, ◌∙◌, ap, subst, inl, inr, arith, Some, None, Option}
use Rattle.std.proofs.lemmas.List.{length-map}
use Rattle.std.proofs.lemmas.Option.{same_Some}
use Rattle.std.specs.Prelude.{filter, map, nat_lt, option_map}
use Rattle.fsrm_model.specs.declared.command.Act.{Act}
use Rattle.fsrm_model.specs.declared.row.Capacity.{Capacity}
use Rattle.fsrm_model.specs.declared.row.NodeRow.{NodeRow}
use Rattle.fsrm_model.specs.declared.row.QuotaRow.{QuotaRow}
use Rattle.fsrm_base.specs.Keyed.{row_of, has_row, is_ascending, with_row, with_change, without_row}
use Rattle.fsrm_model.specs.values.Limits.{latest_moment, most_quotas}
use Rattle.fsrm_model.specs.objects.Quota.{folder_of, is_limit, counts, peaked}
use Rattle.fsrm_model.specs.objects.Thresholds.{are_thresholds}
use Rattle.fsrm_model.specs.nodes.Tree.{is_folder, usage}
use Rattle.fsrm_model.specs.objects.Runs.{run_quota}
use Rattle.fsrm_model.specs.store.Valid.{is_moment, AreQuotas}
use Rattle.fsrm_base.proofs.Look.{new_found, changed_found, row_of-without, has_row-without, found_has, find-map}
use Rattle.fsrm_base.proofs.Order.{ascending-with_row, ascending-change, ascending-filter, ascending-map, length-with_row, length-change}
use Rattle.fsrm_model.proofs.commands.QuotaLaws.{peaked_folder}
use Rattle.fsrm_model.proofs.thresholds.KeptLaws.{thresholds_run}
use Rattle.fsrm_base.proofs.TestLaws.{is_or_not, clash, eq_is}

-- what a quota has by itself
pub record IsQuota (quota : QuotaRow) : Type 0 where
  pub limit : is_limit quota.limit ≡ true
  pub thresholds : are_thresholds quota.thresholds ≡ true
  pub moment : is_moment quota.peak_at ≡ true

pub quota_at : (nodes : List NodeRow) (quotas : List QuotaRow) (folder : ℕ) (quota : QuotaRow) → AreQuotas nodes quotas → row_of folder_of folder quotas ≡ Some quota → IsQuota quota
quota_at nodes quotas folder quota a found =
    record { limit = a.limits folder quota found; thresholds = a.thresholds folder quota found; moment = a.moments folder quota found }

quotas_of : (nodes : List NodeRow) (quotas : List QuotaRow) → is_ascending folder_of quotas ≡ true → length quotas ≤ most_quotas → ((folder : ℕ) (quota : QuotaRow) → row_of folder_of folder quotas ≡ Some quota → (is_folder nodes folder ≡ true) × IsQuota quota) → AreQuotas nodes quotas
quotas_of nodes quotas asc few each =
    record {
      ascending = asc;
      few = few;
      folders = λ f q found. (each f q found).0;
      limits = λ f q found. (each f q found).1.limit;
      thresholds = λ f q found. (each f q found).1.thresholds;
      moments = λ f q found. (each f q found).1.moment;
    }

-- one more
pub quotas-new : (nodes : List NodeRow) (quotas : List QuotaRow) (quota : QuotaRow) → AreQuotas nodes quotas → has_row folder_of quota.folder quotas ≡ false → length quotas < most_quotas → is_folder nodes quota.folder ≡ true → IsQuota quota → AreQuotas nodes (with_row folder_of quota quotas)
quotas-new nodes quotas quota a absent room folder is =
    quotas_of nodes (with_row folder_of quota quotas) (ascending-with_row folder_of quota quotas absent a.ascending) (omega (arith, length-with_row folder_of quota quotas)) (λ f q found.
    elim (new_found folder_of quota f quotas q absent found).other [
      | inl own ↦ (ap (is_folder nodes) own.0 ∙ folder, subst IsQuota (sym own.1) is)
      | inr old ↦ (a.folders f q old.1, quota_at nodes quotas f q a old.1)
    ])

-- one changed
pub quotas-change : (nodes : List NodeRow) (quotas : List QuotaRow) (n : ℕ) (c : QuotaRow → QuotaRow) → AreQuotas nodes quotas → ((q : QuotaRow) → (c q).folder ≡ q.folder) → ((q : QuotaRow) → row_of folder_of n quotas ≡ Some q → IsQuota (c q)) → AreQuotas nodes (with_change folder_of n c quotas)
quotas-change nodes quotas n c a keeps is =
    quotas_of nodes (with_change folder_of n c quotas) (ascending-change folder_of n c keeps quotas a.ascending) (let few = a.few in omega (arith, length-change folder_of n c quotas)) (λ f q found.
    let was = changed_found folder_of n c keeps f quotas q found in
    (a.folders f was.row was.found, subst IsQuota (sym was.is) (at f was.row was.found (f == n) refl)))
  where
    at : (f : ℕ) (q : QuotaRow) → row_of folder_of f quotas ≡ Some q → (b : Bool) → (f == n) ≡ b → IsQuota (cond b (c q) q)
    at f q found true e = is q (subst (λ k. row_of folder_of k quotas ≡ Some q) (eq_is f n e) found)
    at f q found false e = quota_at nodes quotas f q a found

-- one less
pub without_found : (n f : ℕ) (quotas : List QuotaRow) (q : QuotaRow) → row_of folder_of f (without_row folder_of n quotas) ≡ Some q → row_of folder_of f quotas ≡ Some q
without_found n f quotas q h =
    elim (is_or_not (f == n)) [
      | inl t ↦ absurd (clash (has_row folder_of f (without_row folder_of n quotas)) (found_has folder_of f (without_row folder_of n quotas) q h)
          (ap (λ k. has_row folder_of k (without_row folder_of n quotas)) (eq_is f n t) ∙ has_row-without folder_of n quotas))
      | inr t ↦ sym (row_of-without folder_of n f quotas t) ∙ h
    ]

pub filter_few : {X : Type 0} (p : X → Bool) (xs : List X) → length (filter p xs) ≤ length xs
filter_few p [] = omega arith
filter_few p (x ∷ xs) = at (p x) (filter_few p xs)
  where
    at : (b : Bool) → length (filter p xs) ≤ length xs → length (cond b (x ∷ filter p xs) (filter p xs)) ≤ length (x ∷ xs)
    at true h = omega arith
    at false h = omega arith

pub quotas-without : (nodes : List NodeRow) (quotas : List QuotaRow) (n : ℕ) → AreQuotas nodes quotas → AreQuotas nodes (without_row folder_of n quotas)
quotas-without nodes quotas n a =
    quotas_of nodes (without_row folder_of n quotas) (ascending-filter folder_of (λ q. not (folder_of q == n)) quotas a.ascending) (let few = a.few in omega (arith, filter_few (λ q. not (folder_of q == n)) quotas)) (λ f q found.
    let old = without_found n f quotas q found in
    (a.folders f q old, quota_at nodes quotas f q a old))

mapped : (g : QuotaRow → QuotaRow) (o : Option QuotaRow) (q : QuotaRow) → option_map g o ≡ Some q → (r : QuotaRow) × (o ≡ Some r) × (g r ≡ q)
mapped g None q h = absurd (cc h)
mapped g (Some r) q h = (r, refl, same_Some (g r) q h)

-- each changed, but on its folder
pub quotas-map : (nodes : List NodeRow) (quotas : List QuotaRow) (g : QuotaRow → QuotaRow) → AreQuotas nodes quotas → ((q : QuotaRow) → folder_of (g q) ≡ folder_of q) → ((q : QuotaRow) → IsQuota q → IsQuota (g q)) → AreQuotas nodes (map g quotas)
quotas-map nodes quotas g a keeps is =
    quotas_of nodes (map g quotas) (ascending-map folder_of g keeps quotas a.ascending) (let few = a.few in omega (arith, few, length-map quotas g)) (λ f q found.
    let finds = find-map (λ q. folder_of q == f) g (λ q. ap (λ n. n == f) (keeps q)) quotas in
    let was = mapped g (row_of folder_of f quotas) q (sym finds ∙ found) in
    (a.folders f was.0 was.1, subst IsQuota was.2 (is was.0 (quota_at nodes quotas f was.0 a was.1))))

-- with peaks that rose
peaked_is : (K : Capacity) (nodes : List NodeRow) (m : ℕ) (q : QuotaRow) → is_moment m ≡ true → IsQuota q → IsQuota (peaked K nodes m q)
peaked_is K nodes m q late is = at (counts q && nat_lt q.peak (usage K nodes q.folder))
  where
    at : (b : Bool) → IsQuota (cond b (record q { peak = usage K nodes q.folder; peak_at = m }) q)
    at true = record { limit = is.limit; thresholds = is.thresholds; moment = late }
    at false = is

pub quotas-peaked : (K : Capacity) (nodes : List NodeRow) (quotas : List QuotaRow) (m : ℕ) → AreQuotas nodes quotas → is_moment m ≡ true → AreQuotas nodes (map (peaked K nodes m) quotas)
quotas-peaked K nodes quotas m a late = quotas-map nodes quotas (peaked K nodes m) a (peaked_folder K nodes m) (λ q is. peaked_is K nodes m q late is)

-- whose actions ran
pub quotas-ran : (nodes : List NodeRow) (quotas : List QuotaRow) (m : ℕ) (acts : List Act) → AreQuotas nodes quotas → m ≤ latest_moment → AreQuotas nodes (map (run_quota m acts) quotas)
quotas-ran nodes quotas m acts a late =
    quotas-map nodes quotas (run_quota m acts) a (λ q. refl) (λ q is.
    record { limit = is.limit; thresholds = thresholds_run m acts q.folder q.thresholds late is.thresholds; moment = is.moment })

-- on folders that are kept
pub quotas_stay : (nodes new : List NodeRow) (quotas : List QuotaRow) → AreQuotas nodes quotas → ((f : ℕ) (q : QuotaRow) → row_of folder_of f quotas ≡ Some q → is_folder nodes f ≡ true → is_folder new f ≡ true) → AreQuotas new quotas
quotas_stay nodes new quotas a h =
    quotas_of new quotas a.ascending a.few (λ f q found. (h f q found (a.folders f q found), quota_at nodes quotas f q a found))
