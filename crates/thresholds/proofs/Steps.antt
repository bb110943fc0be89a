-- What one action more, and one threshold more, add to what was settled.
use Rattle.std.proofs.Common.{◌≡◌, ℕ, zero, suc, ◌+◌, ◌*◌, ◌<◌, ◌≤◌, ◌==◌, Bool, true, false, cond, ◌&&◌, not, List, [], ◌∷◌, ◌++◌, length, take, Option, Some, None, refl, sym, ◌∙◌, ap, subst, arith, slice_get, option_map, MatchOption, nat_lt}
use Rattle.std.proofs.lemmas.List.{append-nil}
use Rattle.std.proofs.lemmas.List.Folds.{list_any-append}
use Rattle.std.proofs.lemmas.Option.{same_Some, slice_get-map, slice_get_within}
use Rattle.std.specs.Prelude.{map, filter, flat_map, unwrap_or}
use Rattle.std.specs.List.{list_any, cons_option}
use Rattle.std.specs.Option.{option_map_or}
use Rattle.fsrm_base.specs.Keyed.{has_row, row_of, is_ascending}
use Rattle.fsrm_base.specs.Places.{IsAt}
use Rattle.fsrm_base.proofs.EditedRows.{ascending_tail}
use Rattle.fsrm_base.proofs.SortedRows.{there}
use Rattle.fsrm_base.proofs.TestLaws.{both, eq_below, ge_is, is_false, neither, nor}
use Rattle.fsrm_model.specs.declared.command.Act.{Act}
use Rattle.fsrm_model.specs.declared.command.Subject.{Subject}
use Rattle.fsrm_model.specs.declared.command.Subject.TheVariants.{Quota}
use Rattle.fsrm_model.specs.declared.row.Action.{Action}
use Rattle.fsrm_model.specs.declared.row.QuotaRow.{QuotaRow}
use Rattle.fsrm_model.specs.declared.row.Threshold.{Threshold}
use Rattle.fsrm_model.specs.objects.Acts.{has_act, same_subject}
use Rattle.fsrm_model.specs.objects.DueActions.{ready, act_of, ready_acts, quota_acts, is_ready_at}
use Rattle.fsrm_model.specs.objects.Quota.{folder_of}
use Rattle.fsrm_model.specs.objects.Reached.{has_reached, reaches}
use Rattle.fsrm_model.specs.objects.Runs.{run_threshold, run_quota}
use Rattle.fsrm_model.specs.objects.Thresholds.{percent_of, is_crowded, are_too_many}
use Rattle.fsrm_model.proofs.thresholds.DueLaws.{any-map, ready_run}
use Rattle.fsrm_model.proofs.thresholds.RunLaws.{with_run, run_at}
use Rattle.fsrm_objects.specs.Tables.{Tables}
use Rattle.thresholds.specs.Marked.{act_at, action_at, waiting, quota_place, threshold_place, action_place}
use Rattle.thresholds.specs.Settled.{crosses, due_in, are_orderly, has_orderly_lists, ready_in, IsThreshold}
use Rattle.thresholds.proofs.Decoded.{Found, found_is, found_action, earlier, quota_digit, threshold_digit, action_digit}
use Rattle.thresholds.proofs.ListLaws.{take_next, taken, ready_acts-append, acts_of, acts_of_threshold, acts_of-append}
use Rattle.thresholds.proofs.OrderLaws.{orderly, at_passes}
use Rattle.thresholds.proofs.RunLaws.{run_none}
use Rattle.thresholds.proofs.WaitingLaws.{waiting_run}

-- ---- lists that aren't too long
pub few_thresholds : (quota : QuotaRow) → has_orderly_lists quota ≡ true → length quota.thresholds ≤ 16
few_thresholds quota h =
    let fits = is_false (are_too_many quota.thresholds) (both (is_ascending percent_of quota.thresholds) (not (are_too_many quota.thresholds)) h).1 in
    ge_is 16 (length quota.thresholds) (neither (nat_lt 16 (length quota.thresholds)) (list_any is_crowded quota.thresholds) fits).0

pub few_actions : (quota : QuotaRow) (k : ℕ) (threshold : Threshold) → has_orderly_lists quota ≡ true → slice_get quota.thresholds k ≡ Some threshold → length threshold.actions ≤ 8
few_actions quota k threshold h e =
    let fits = is_false (are_too_many quota.thresholds) (both (is_ascending percent_of quota.thresholds) (not (are_too_many quota.thresholds)) h).1 in
    ge_is 8 (length threshold.actions) (none_at quota.thresholds k threshold (neither (nat_lt 16 (length quota.thresholds)) (list_any is_crowded quota.thresholds) fits).1 e)
  where
    none_at : (ts : List Threshold) (k : ℕ) (t : Threshold) → list_any is_crowded ts ≡ false → slice_get ts k ≡ Some t → is_crowded t ≡ false
    none_at [] k t h e = cc
    none_at (x ∷ ts) zero t h e = subst (λ y. is_crowded y ≡ false) (same_Some x t e) (neither (is_crowded x) (list_any is_crowded ts) h).0
    none_at (x ∷ ts) (suc k) t h e = none_at ts k t (neither (is_crowded x) (list_any is_crowded ts) h).1 e

-- a threshold of a quota, by the places of both
pub record Stands (quotas : List QuotaRow) (place threshold : ℕ) (quota : QuotaRow) (t : Threshold) : Type 0 where
  pub at : slice_get quotas place ≡ Some quota
  pub in_quota : slice_get quota.thresholds threshold ≡ Some t
  pub low : place < 4096
  pub few : threshold < 16
  pub short : length t.actions ≤ 8

pub stands : (quotas : List QuotaRow) (place threshold : ℕ) (quota : QuotaRow) (t : Threshold) → are_orderly quotas ≡ true → slice_get quotas place ≡ Some quota → slice_get quota.thresholds threshold ≡ Some t → Stands quotas place threshold quota t
stands quotas place threshold quota t h at in_quota =
    let o = orderly quotas h in
    let lists = at_passes has_orderly_lists quotas place quota o.lists at in
    record {
      at = at;
      in_quota = in_quota;
      low = omega (arith, o.few, slice_get_within quotas place quota at);
      few = omega (arith, few_thresholds quota lists, slice_get_within quota.thresholds threshold t in_quota);
      short = few_actions quota threshold t lists in_quota;
    }

pub stands_there : (quotas : List QuotaRow) (place threshold : ℕ) → are_orderly quotas ≡ true → (is : IsThreshold quotas place threshold) → Stands quotas place threshold is.quota (there is.quota.thresholds threshold is.within).row
stands_there quotas place threshold h is =
    let found = there is.quota.thresholds threshold is.within in
    stands quotas place threshold is.quota found.row h is.is_there found.is

-- ---- one action more
none_past : {X : Type 0} (xs : List X) (k : ℕ) → slice_get (take k xs) k ≡ None
none_past [] zero = refl
none_past [] (suc k) = refl
none_past (x ∷ xs) zero = refl
none_past (x ∷ xs) (suc k) = none_past xs k

-- of the first actions none has a later place
pub no_later : (run_limit moment : ℕ) (subject : Subject) (actions : List Action) (k : ℕ) → has_act (ready_acts run_limit moment subject (take k actions)) subject k ≡ false
no_later run_limit moment subject actions k =
    ready_run run_limit moment subject subject (take k actions) k
    ∙ (ap (λ o. same_subject subject subject && option_map_or (ready run_limit moment) o false) (none_past actions k) ∙ never (same_subject subject subject))
  where
    never : (b : Bool) → (b && false) ≡ false
    never true = refl
    never false = refl

-- the acts of a threshold's first actions
abbrev pub ready_upto : List QuotaRow → ℕ → ℕ → ℕ → ℕ → ℕ → List Act
ready_upto quotas place threshold run_limit moment k =
    option_map_or
    (λ quota. option_map_or (λ (t : Threshold). ready_acts run_limit moment (Quota quota.folder t.percent) (take k t.actions)) (slice_get quota.thresholds threshold) [])
    (slice_get quotas place) []

module _ (quotas : List QuotaRow) (place threshold run_limit moment k : ℕ) (quota : QuotaRow) (t : Threshold) (action : Action) (at : slice_get quotas place ≡ Some quota) (in_quota : slice_get quota.thresholds threshold ≡ Some t) (in_threshold : slice_get t.actions k ≡ Some action) (few : threshold < 16) (small : k < 8) where
  abbrev own : Subject
  own = Quota quota.folder t.percent

  abbrev number : ℕ
  number = (place * 128 + threshold * 8) + k

  upto : (j : ℕ) → ready_upto quotas place threshold run_limit moment j ≡ ready_acts run_limit moment own (take j t.actions)
  upto j =
      ap (λ o. option_map_or (λ quota. option_map_or (λ (t : Threshold). ready_acts run_limit moment (Quota quota.folder t.percent) (take j t.actions)) (slice_get quota.thresholds threshold) []) o []) at
      ∙ ap (λ o. option_map_or (λ (t : Threshold). ready_acts run_limit moment (Quota quota.folder t.percent) (take j t.actions)) o []) in_quota

  abbrev named : Found quotas number
  named = record {
    quota = quota;
    threshold = t;
    action = action;
    quota_is = ap (slice_get quotas) (quota_digit place threshold k few small) ∙ at;
    threshold_is = ap (slice_get quota.thresholds) (threshold_digit place threshold k few small) ∙ in_quota;
    action_is = ap (slice_get t.actions) (action_digit place threshold k few small) ∙ in_threshold;
  }

  pub act_there : act_at quotas number ≡ Some (act_of own (k, action))
  act_there = found_is quotas number named ∙ ap (λ n. Some (act_of own (n, action))) (action_digit place threshold k few small)

  -- it is as it was while those before it ran
  pub action_there : action_at (map (run_quota moment (ready_upto quotas place threshold run_limit moment k)) quotas) number ≡ Some action
  action_there =
      let acts = ready_upto quotas place threshold run_limit moment k in
      let ran = found_action (map (run_quota moment acts) quotas) number (record {
        quota = run_quota moment acts quota;
        threshold = run_threshold moment acts quota.folder t;
        action = with_run moment (has_act acts own (action_place number)) action;
        quota_is = slice_get-map (run_quota moment acts) quotas (quota_place number) ∙ ap (option_map (run_quota moment acts)) named.quota_is;
        threshold_is = slice_get-map (run_threshold moment acts quota.folder) quota.thresholds (threshold_place number) ∙ ap (option_map (run_threshold moment acts quota.folder)) named.threshold_is;
        action_is = run_at moment acts own t.actions (action_place number) ∙ ap (option_map (with_run moment (has_act acts own (action_place number)))) named.action_is;
      }) in
      ran ∙ ap (λ b. Some (with_run moment b action)) (ap (has_act acts own) (action_digit place threshold k few small) ∙ (ap (λ a. has_act a own k) (upto k) ∙ no_later run_limit moment own t.actions k))

  more : ready_upto quotas place threshold run_limit moment (k + 1) ≡ ready_upto quotas place threshold run_limit moment k ++ cond (ready run_limit moment action) (act_of own (k, action) ∷ []) []
  more =
      upto (k + 1)
      ∙ (ap (ready_acts run_limit moment own) (take_next t.actions k action in_threshold)
      ∙ (ready_acts-append run_limit moment own (take k t.actions) action
      ∙ (ap (λ n. ready_acts run_limit moment own (take k t.actions) ++ cond (ready run_limit moment action) (act_of own (n, action) ∷ []) []) (taken t.actions k action in_threshold)
      ∙ ap (λ acts. acts ++ cond (ready run_limit moment action) (act_of own (k, action) ∷ []) []) (sym (upto k)))))

  pub ready_more : ready run_limit moment action ≡ true → ready_upto quotas place threshold run_limit moment k ++ waiting (map (run_quota moment (ready_upto quotas place threshold run_limit moment k)) quotas) (number ∷ []) ≡ ready_upto quotas place threshold run_limit moment (k + 1)
  ready_more may =
      let acts = ready_upto quotas place threshold run_limit moment k in
      ap (λ more. acts ++ more) (waiting_run moment acts quotas (number ∷ []) ∙ (ap (λ o. cons_option o []) act_there ∙ ap (λ b. cond b (act_of own (k, action) ∷ []) []) (sym may))) ∙ sym more

  pub unready_more : ready run_limit moment action ≡ false → ready_upto quotas place threshold run_limit moment k ≡ ready_upto quotas place threshold run_limit moment (k + 1)
  unready_more may =
      let acts = ready_upto quotas place threshold run_limit moment k in
      sym (append-nil acts) ∙ (ap (λ b. acts ++ cond b (act_of own (k, action) ∷ []) []) (sym may) ∙ sym more)

-- none yet
pub none_taken : {X : Type 0} (xs : List X) → take 0 xs ≡ []
none_taken [] = refl
none_taken (x ∷ xs) = refl

pub ready_none : (quotas : List QuotaRow) (place threshold run_limit moment : ℕ) (quota : QuotaRow) (t : Threshold) → Stands quotas place threshold quota t → ready_upto quotas place threshold run_limit moment 0 ≡ []
ready_none quotas place threshold run_limit moment quota t s =
    ap (λ o. option_map_or (λ quota. option_map_or (λ (s : Threshold). ready_acts run_limit moment (Quota quota.folder s.percent) (take 0 s.actions)) (slice_get quota.thresholds threshold) []) o []) s.at
    ∙ (ap (λ o. option_map_or (λ (s : Threshold). ready_acts run_limit moment (Quota quota.folder s.percent) (take 0 s.actions)) o []) s.in_quota
    ∙ ap (ready_acts run_limit moment (Quota quota.folder t.percent)) (none_taken t.actions))

-- all of them
pub whole : {X : Type 0} (xs : List X) → take (length xs) xs ≡ xs
whole [] = refl
whole (x ∷ xs) = ap (λ more. x ∷ more) (whole xs)

-- ---- one threshold more
-- a folder's quota is the one at its place
pub found_at : (quotas : List QuotaRow) (folder place : ℕ) (quota : QuotaRow) (o : Option ℕ) → MatchOption o (has_row folder_of folder quotas ≡ false) (IsAt folder_of folder quotas) → o ≡ Some place → slice_get quotas place ≡ Some quota → row_of folder_of folder quotas ≡ Some quota
found_at quotas folder place quota o h is at =
    let stands_at : IsAt folder_of folder quotas place = subst (λ (answer : Option ℕ). MatchOption answer (has_row folder_of folder quotas ≡ false) (IsAt folder_of folder quotas)) is h in
    sym stands_at.found ∙ at

-- a quota's acts of the first thresholds that a command crosses
abbrev pub due_upto : List QuotaRow → Option QuotaRow → Option ℕ → Option ℕ → ℕ → ℕ → ℕ → ℕ → List Act
due_upto quotas before used_before used_after run_limit moment folder k =
    option_map_or (λ quota. acts_of (crosses before used_before used_after quota) run_limit moment quota.folder (take k quota.thresholds))
    (row_of folder_of folder quotas) []

-- ascending rows have the number of none of those before it
absent_before : {X : Type 0} (key : X → ℕ) (rows : List X) (k : ℕ) (r : X) → is_ascending key rows ≡ true → slice_get rows k ≡ Some r → has_row key (key r) (take k rows) ≡ false
absent_before key [] k r a e = cc
absent_before key (x ∷ rows) zero r a e = refl
absent_before key (x ∷ rows) (suc k) r a e =
    nor (key x == key r) (has_row key (key r) (take k rows)) (eq_below (key x) (key r) (earlier key (x ∷ rows) 0 (suc k) x r a (omega arith) refl e)) (absent_before key rows k r (ascending_tail key x rows a) e)

-- acts of other percentages
no_other : (run_limit moment folder percent place : ℕ) (thresholds : List Threshold) → has_row percent_of percent thresholds ≡ false → has_act (flat_map (acts_of_threshold run_limit moment folder) thresholds) (Quota folder percent) place ≡ false
no_other run_limit moment folder percent place [] h = refl
no_other run_limit moment folder percent place (t ∷ thresholds) h =
    let parts = neither (t.percent == percent) (has_row percent_of percent thresholds) h in
    list_any-append (λ (act : Act). same_subject act.subject (Quota folder percent) && (act.place == place)) (acts_of_threshold run_limit moment folder t) (flat_map (acts_of_threshold run_limit moment folder) thresholds)
    ∙ nor (has_act (acts_of_threshold run_limit moment folder t) (Quota folder percent) place) (has_act (flat_map (acts_of_threshold run_limit moment folder) thresholds) (Quota folder percent) place)
    (ready_run run_limit moment (Quota folder t.percent) (Quota folder percent) t.actions place
    ∙ (ap (λ b. ((folder == folder) && b) && is_ready_at run_limit moment t.actions place) parts.0 ∙ never (folder == folder) (is_ready_at run_limit moment t.actions place)))
    (no_other run_limit moment folder percent place thresholds parts.1)
  where
    never : (a b : Bool) → ((a && false) && b) ≡ false
    never true b = refl
    never false b = refl

absent_filtered : (p : Threshold → Bool) (percent : ℕ) (thresholds : List Threshold) → has_row percent_of percent thresholds ≡ false → has_row percent_of percent (filter p thresholds) ≡ false
absent_filtered p percent [] h = refl
absent_filtered p percent (t ∷ thresholds) h = at (p t) (absent_filtered p percent thresholds parts.1)
  where
    parts : ((t.percent == percent) ≡ false) × (has_row percent_of percent thresholds ≡ false)
    parts = neither (t.percent == percent) (has_row percent_of percent thresholds) h

    at : (b : Bool) → has_row percent_of percent (filter p thresholds) ≡ false → has_row percent_of percent (cond b (t ∷ filter p thresholds) (filter p thresholds)) ≡ false
    at true rest = nor (t.percent == percent) (has_row percent_of percent (filter p thresholds)) parts.0 rest
    at false rest = rest

-- what is crossed depends on no last run
crosses_run : (before : Option QuotaRow) (used_before used_after : Option ℕ) (moment : ℕ) (acts : List Act) (quota : QuotaRow) (percent : ℕ) → crosses before used_before used_after (run_quota moment acts quota) percent ≡ crosses before used_before used_after quota percent
crosses_run before used_before used_after moment acts quota percent =
    ap (λ b. b && not (has_reached (unwrap_or before (run_quota moment acts quota)) percent used_before)) (same used_after)
    ∙ ap (λ b. has_reached quota percent used_after && not b) (at before)
  where
    same : (used : Option ℕ) → has_reached (run_quota moment acts quota) percent used ≡ has_reached quota percent used
    same used = ap (λ b. b && reaches quota.limit percent used) (any-map (λ t. percent_of t == percent) (run_threshold moment acts quota.folder) quota.thresholds)

    at : (o : Option QuotaRow) → has_reached (unwrap_or o (run_quota moment acts quota)) percent used_before ≡ has_reached (unwrap_or o quota) percent used_before
    at None = same used_before
    at (Some row) = refl

module _ (quotas : List QuotaRow) (before : Option QuotaRow) (used_before used_after : Option ℕ) (run_limit moment folder place k : ℕ) (quota : QuotaRow) (t : Threshold) (at : slice_get quotas place ≡ Some quota) (found : row_of folder_of folder quotas ≡ Some quota) (ascending : is_ascending percent_of quota.thresholds ≡ true) (in_quota : slice_get quota.thresholds k ≡ Some t) where
  abbrev passes : ℕ → Bool
  passes = crosses before used_before used_after quota

  abbrev so_far : List Act
  so_far = due_upto quotas before used_before used_after run_limit moment folder k

  first_acts : (j : ℕ) → due_upto quotas before used_before used_after run_limit moment folder j ≡ acts_of passes run_limit moment quota.folder (take j quota.thresholds)
  first_acts j = ap (λ o. option_map_or (λ quota. acts_of (crosses before used_before used_after quota) run_limit moment quota.folder (take j quota.thresholds)) o []) found

  -- the threshold is as it was while those before it ran
  still : run_threshold moment so_far quota.folder t ≡ t
  still =
      ap (λ actions. record t { actions = actions })
      (run_none moment so_far (Quota quota.folder t.percent) t.actions
      (λ p. ap (λ acts. has_act acts (Quota quota.folder t.percent) p) (first_acts k)
      ∙ no_other run_limit moment quota.folder t.percent p (filter (λ s. passes s.percent) (take k quota.thresholds))
      (absent_filtered (λ s. passes s.percent) t.percent (take k quota.thresholds) (absent_before percent_of quota.thresholds k t ascending in_quota))))

  pub row_there : slice_get (map (run_quota moment so_far) quotas) place ≡ Some (run_quota moment so_far quota)
  row_there = slice_get-map (run_quota moment so_far) quotas place ∙ ap (option_map (run_quota moment so_far)) at

  pub threshold_there : slice_get (run_quota moment so_far quota).thresholds k ≡ Some t
  threshold_there = slice_get-map (run_threshold moment so_far quota.folder) quota.thresholds k ∙ (ap (option_map (run_threshold moment so_far quota.folder)) in_quota ∙ ap Some still)

  pub crosses_there : crosses before used_before used_after (run_quota moment so_far quota) t.percent ≡ passes t.percent
  crosses_there = crosses_run before used_before used_after moment so_far quota t.percent

  ready_there : ready_in (map (run_quota moment so_far) quotas) place k run_limit moment ≡ acts_of_threshold run_limit moment quota.folder t
  ready_there =
      ap (λ o. option_map_or (λ quota. option_map_or (λ (s : Threshold). ready_acts run_limit moment (Quota quota.folder s.percent) s.actions) (slice_get quota.thresholds k) []) o []) row_there
      ∙ ap (λ o. option_map_or (λ (s : Threshold). ready_acts run_limit moment (Quota quota.folder s.percent) s.actions) o []) threshold_there

  next_acts : due_upto quotas before used_before used_after run_limit moment folder (k + 1) ≡ so_far ++ cond (passes t.percent) (acts_of_threshold run_limit moment quota.folder t) []
  next_acts =
      first_acts (k + 1)
      ∙ (ap (acts_of passes run_limit moment quota.folder) (take_next quota.thresholds k t in_quota)
      ∙ (acts_of-append passes run_limit moment quota.folder (take k quota.thresholds) t
      ∙ ap (λ acts. acts ++ cond (passes t.percent) (acts_of_threshold run_limit moment quota.folder t) []) (sym (first_acts k))))

  pub crossed_more : passes t.percent ≡ true → so_far ++ ready_in (map (run_quota moment so_far) quotas) place k run_limit moment ≡ due_upto quotas before used_before used_after run_limit moment folder (k + 1)
  crossed_more is =
      ap (λ more. so_far ++ more) (ready_there ∙ ap (λ b. cond b (acts_of_threshold run_limit moment quota.folder t) []) (sym is)) ∙ sym next_acts

  pub uncrossed_more : passes t.percent ≡ false → so_far ≡ due_upto quotas before used_before used_after run_limit moment folder (k + 1)
  uncrossed_more is = sym (append-nil so_far) ∙ (ap (λ b. so_far ++ cond b (acts_of_threshold run_limit moment quota.folder t) []) (sym is) ∙ sym next_acts)

-- none yet, and all of them
module _ (tables : Tables) (before : Option QuotaRow) (used_before used_after : Option ℕ) (run_limit moment folder : ℕ) (quota : QuotaRow) (found : row_of folder_of folder tables.quotas ≡ Some quota) where
  pub due_none : due_upto tables.quotas before used_before used_after run_limit moment folder 0 ≡ []
  due_none =
      ap (λ o. option_map_or (λ quota. acts_of (crosses before used_before used_after quota) run_limit moment quota.folder (take 0 quota.thresholds)) o []) found
      ∙ ap (acts_of (crosses before used_before used_after quota) run_limit moment quota.folder) (none_taken quota.thresholds)

  pub due_all : due_upto tables.quotas before used_before used_after run_limit moment folder (length quota.thresholds) ≡ due_in tables before used_before used_after run_limit moment folder
  due_all =
      ap (λ o. option_map_or (λ q. acts_of (crosses before used_before used_after q) run_limit moment q.folder (take (length quota.thresholds) q.thresholds)) o []) found
      ∙ (ap (acts_of (crosses before used_before used_after quota) run_limit moment quota.folder) (whole quota.thresholds)
      ∙ ap (λ o. option_map_or (λ q. quota_acts (crosses before used_before used_after q) run_limit moment q) o []) (sym found))
