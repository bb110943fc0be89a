-- What is left when actions run, one after another.
use Rattle.std.proofs.Common.{◌≡◌, ℕ, zero, suc, ◌+◌, ◌≤◌, ◌==◌, Bool, true, false, cond, ◌||◌, ◌&&◌, List, [], ◌∷◌, ◌++◌, refl, sym, ◌∙◌, ap, arith, Some}
use Rattle.std.proofs.lemmas.List.Folds.{list_any-append}
use Rattle.std.specs.Prelude.{map, if◌then◌else◌}
use Rattle.std.specs.List.{enumerate_from}
use Rattle.fsrm_base.specs.Keyed.{with_change}
use Rattle.fsrm_base.proofs.RowLaws.{map_same, map_id}
use Rattle.fsrm_base.proofs.TestLaws.{eq_is, eq_test, is_apart, same_tests}
use Rattle.fsrm_model.specs.declared.command.Act.{Act}
use Rattle.fsrm_model.specs.declared.command.Subject.{Subject}
use Rattle.fsrm_model.specs.declared.command.Subject.TheVariants.{Quota}
use Rattle.fsrm_model.specs.declared.row.Action.{Action}
use Rattle.fsrm_model.specs.declared.row.ActionKind.{ActionKind}
use Rattle.fsrm_model.specs.declared.row.QuotaRow.{QuotaRow}
use Rattle.fsrm_model.specs.declared.row.Threshold.{Threshold}
use Rattle.fsrm_model.specs.objects.Acts.{has_act, same_subject}
use Rattle.fsrm_model.specs.objects.Quota.{folder_of}
use Rattle.fsrm_model.specs.objects.Runs.{run_actions, run_threshold, run_quota}
use Rattle.fsrm_model.specs.objects.Thresholds.{percent_of}
use Rattle.fsrm_model.proofs.thresholds.DueLaws.{each}
use Rattle.fsrm_model.proofs.thresholds.RunLaws.{with_run, unrun_quota}
use Rattle.fsrm_objects.specs.Tables.{ran_at, run_threshold_at, run_quota_at}

-- ---- actions at places that pass a test
abbrev pub run_by : ℕ → (ℕ → Bool) → ℕ → List Action → List Action
run_by moment test n actions =
    map (λ (at : ℕ × Action). if test at.0 then record at.1 { last_run = Some moment } else at.1) (enumerate_from n actions)

by_same : (moment : ℕ) (p q : ℕ → Bool) → ((k : ℕ) → p k ≡ q k) → (n : ℕ) (actions : List Action) → run_by moment p n actions ≡ run_by moment q n actions
by_same moment p q same n [] = refl
by_same moment p q same n (action ∷ actions) =
    ap (λ b. with_run moment b action ∷ run_by moment p (n + 1) actions) (same n)
    ∙ ap (λ more. with_run moment (q n) action ∷ more) (by_same moment p q same (n + 1) actions)

-- none of them ran
pub by_none : (moment : ℕ) (p : ℕ → Bool) (n : ℕ) (actions : List Action) → ((k : ℕ) → n ≤ k → p k ≡ false) → run_by moment p n actions ≡ actions
by_none moment p n [] h = refl
by_none moment p n (action ∷ actions) h =
    ap (λ b. with_run moment b action ∷ run_by moment p (n + 1) actions) (h n (omega arith))
    ∙ ap (λ more. action ∷ more) (by_none moment p (n + 1) actions (λ k l. h k (omega (arith, l))))

-- the one at a place did
pub by_one : (moment : ℕ) (p : ℕ → Bool) (n place : ℕ) (actions : List Action) → ((k : ℕ) → p k ≡ (k == (n + place))) → run_by moment p n actions ≡ ran_at moment place actions
by_one moment p n zero [] h = refl
by_one moment p n (suc place) [] h = refl
by_one moment p n zero (action ∷ actions) h =
    ap (λ b. with_run moment b action ∷ run_by moment p (n + 1) actions) (h n ∙ eq_test n (n + 0) (omega arith))
    ∙ ap (λ more. record action { last_run = Some moment } ∷ more) (by_none moment p (n + 1) actions (λ k l. h k ∙ is_apart k (n + 0) (λ e. omega (arith, l, e))))
by_one moment p n (suc place) (action ∷ actions) h =
    ap (λ b. with_run moment b action ∷ run_by moment p (n + 1) actions) (h n ∙ is_apart n (n + suc place) (λ e. omega (arith, e)))
    ∙ ap (λ more. action ∷ more) (by_one moment p (n + 1) place actions (λ k. h k ∙ ap (λ j. k == j) (moved n place)))
  where
    moved : (m k : ℕ) → m + suc k ≡ (m + 1) + k
    moved m k = omega arith

-- some ran, and then others
twice : (moment : ℕ) (a b : Bool) (action : Action) → with_run moment b (with_run moment a action) ≡ with_run moment (a || b) action
twice moment true true action = refl
twice moment true false action = refl
twice moment false b action = refl

by_both : (moment : ℕ) (p q : ℕ → Bool) (n : ℕ) (actions : List Action) → run_by moment q n (run_by moment p n actions) ≡ run_by moment (λ k. p k || q k) n actions
by_both moment p q n [] = refl
by_both moment p q n (action ∷ actions) =
    ap (λ a. a ∷ run_by moment q (n + 1) (run_by moment p (n + 1) actions)) (twice moment (p n) (q n) action)
    ∙ ap (λ more. with_run moment (p n || q n) action ∷ more) (by_both moment p q (n + 1) actions)

-- ---- actions of acts
abbrev is_of : Subject → ℕ → Act → Bool
is_of subject place act = same_subject act.subject subject && (act.place == place)

pub run_both : (moment : ℕ) (one other : List Act) (subject : Subject) (actions : List Action) → run_actions moment other subject (run_actions moment one subject actions) ≡ run_actions moment (one ++ other) subject actions
run_both moment one other subject actions =
    by_both moment (has_act one subject) (has_act other subject) 0 actions
    ∙ by_same moment (λ k. has_act one subject k || has_act other subject k) (has_act (one ++ other) subject)
    (λ k. sym (list_any-append (is_of subject k) one other)) 0 actions

-- actions of which none is among the acts stay
pub run_none : (moment : ℕ) (acts : List Act) (subject : Subject) (actions : List Action) → ((place : ℕ) → has_act acts subject place ≡ false) → run_actions moment acts subject actions ≡ actions
run_none moment acts subject actions h = by_none moment (has_act acts subject) 0 actions (λ k l. h k)

-- ---- quotas
thresholds_both : (moment : ℕ) (one other : List Act) (folder : ℕ) (thresholds : List Threshold) → map (run_threshold moment other folder) (map (run_threshold moment one folder) thresholds) ≡ map (run_threshold moment (one ++ other) folder) thresholds
thresholds_both moment one other folder [] = refl
thresholds_both moment one other folder (t ∷ thresholds) =
    ap (λ actions. record t { actions = actions } ∷ map (run_threshold moment other folder) (map (run_threshold moment one folder) thresholds)) (run_both moment one other (Quota folder t.percent) t.actions)
    ∙ ap (λ more. run_threshold moment (one ++ other) folder t ∷ more) (thresholds_both moment one other folder thresholds)

pub quotas_both : (moment : ℕ) (one other : List Act) (quotas : List QuotaRow) → map (run_quota moment other) (map (run_quota moment one) quotas) ≡ map (run_quota moment (one ++ other)) quotas
quotas_both moment one other [] = refl
quotas_both moment one other (quota ∷ quotas) =
    ap (λ thresholds. record quota { thresholds = thresholds } ∷ map (run_quota moment other) (map (run_quota moment one) quotas)) (thresholds_both moment one other quota.folder quota.thresholds)
    ∙ ap (λ more. run_quota moment (one ++ other) quota ∷ more) (quotas_both moment one other quotas)

pub quotas_none : (moment : ℕ) (quotas : List QuotaRow) → map (run_quota moment []) quotas ≡ quotas
quotas_none moment quotas = map_id (run_quota moment []) quotas (each (λ q. run_quota moment [] q ≡ q) (unrun_quota moment) quotas)

-- ---- one act
pub eq_sym : (a b : ℕ) → (a == b) ≡ (b == a)
eq_sym a b = same_tests (a == b) (b == a) (λ h. eq_test b a (sym (eq_is a b h))) (λ h. eq_test a b (sym (eq_is b a h)))

pub or_nothing : (b : Bool) → (b || false) ≡ b
or_nothing true = refl
or_nothing false = refl

module _ (moment folder percent place : ℕ) (kind : ActionKind) where
  abbrev one_act : List Act
  one_act = record { subject = Quota folder percent; place = place; kind = kind } ∷ []

  threshold_one : (own : ℕ) (t : Threshold) (b c : Bool) → (folder == own) ≡ b → (percent == t.percent) ≡ c → run_threshold moment one_act own t ≡ cond (b && c) (run_threshold_at moment place t) t
  threshold_one own t true true e f =
      ap (λ actions. record t { actions = actions })
      (by_one moment (has_act one_act (Quota own t.percent)) 0 place t.actions
      (λ k. ap (λ x. ((x && (percent == t.percent)) && (place == k)) || false) e
      ∙ (ap (λ y. (y && (place == k)) || false) f ∙ (or_nothing (place == k) ∙ (eq_sym place k ∙ ap (λ j. k == j) start)))))
    where
      start : place ≡ 0 + place
      start = omega arith
  threshold_one own t true false e f =
      ap (λ actions. record t { actions = actions })
      (by_none moment (has_act one_act (Quota own t.percent)) 0 t.actions
      (λ k l. ap (λ x. ((x && (percent == t.percent)) && (place == k)) || false) e ∙ ap (λ y. (y && (place == k)) || false) f))
  threshold_one own t false c e f =
      ap (λ actions. record t { actions = actions })
      (by_none moment (has_act one_act (Quota own t.percent)) 0 t.actions (λ k l. ap (λ x. ((x && (percent == t.percent)) && (place == k)) || false) e))

  thresholds_at : (own : ℕ) → (folder == own) ≡ true → (thresholds : List Threshold) → map (run_threshold moment one_act own) thresholds ≡ with_change percent_of percent (run_threshold_at moment place) thresholds
  thresholds_at own e thresholds =
      map_same (run_threshold moment one_act own) (λ t. if t.percent == percent then run_threshold_at moment place t else t) thresholds
      (each (λ t. run_threshold moment one_act own t ≡ cond (t.percent == percent) (run_threshold_at moment place t) t)
      (λ t. threshold_one own t true (percent == t.percent) e refl ∙ ap (λ b. cond b (run_threshold_at moment place t) t) (eq_sym percent t.percent)) thresholds)

  thresholds_other : (own : ℕ) → (folder == own) ≡ false → (thresholds : List Threshold) → map (run_threshold moment one_act own) thresholds ≡ thresholds
  thresholds_other own e thresholds =
      map_id (run_threshold moment one_act own) thresholds
      (each (λ t. run_threshold moment one_act own t ≡ t) (λ t. threshold_one own t false (percent == t.percent) e refl) thresholds)

  quota_one : (quota : QuotaRow) (b : Bool) → (folder == quota.folder) ≡ b → run_quota moment one_act quota ≡ cond b (run_quota_at moment percent place quota) quota
  quota_one quota true e = ap (λ thresholds. record quota { thresholds = thresholds }) (thresholds_at quota.folder e quota.thresholds)
  quota_one quota false e = ap (λ thresholds. record quota { thresholds = thresholds }) (thresholds_other quota.folder e quota.thresholds)

  pub quotas_one : (quotas : List QuotaRow) → with_change folder_of folder (run_quota_at moment percent place) quotas ≡ map (run_quota moment one_act) quotas
  quotas_one quotas =
      sym (map_same (run_quota moment one_act) (λ q. if q.folder == folder then run_quota_at moment percent place q else q) quotas
      (each (λ q. run_quota moment one_act q ≡ cond (q.folder == folder) (run_quota_at moment percent place q) q)
      (λ q. quota_one q (folder == q.folder) refl ∙ ap (λ b. cond b (run_quota_at moment percent place q) q) (eq_sym folder q.folder)) quotas))
