-- What the notices of a store name is there.
use Rattle.std.proofs.Common.{◌≡◌, ℕ, suc, ◌+◌, ◌≤◌, List, [], ◌∷◌, Bool, true, false, cond, length, Option, Some, None, refl, sym, ap, ◌∙◌, arith}
use Rattle.std.specs.Prelude.{◌&&◌, not, nat_le, slice_get, flat_map}
use Rattle.std.specs.List.{All, list_all}
use Rattle.std.specs.Option.{option_map_or}
use Rattle.std.proofs.lemmas.List.Elements.{All-nil, All-cons, All-head, All-tail, All-append}
use Rattle.fsrm_base.specs.Keyed.{is_ascending, row_of}
use Rattle.fsrm_base.proofs.SortedRows.{row_at}
use Rattle.fsrm_base.proofs.TestLaws.{both, le_is}
use Rattle.fsrm_model.specs.declared.command.Subject.{Subject}
use Rattle.fsrm_model.specs.declared.command.Subject.TheVariants.{Quota, Screen}
use Rattle.fsrm_model.specs.declared.row.Action.{Action}
use Rattle.fsrm_model.specs.declared.row.Capacity.{Capacity}
use Rattle.fsrm_model.specs.declared.row.QuotaRow.{QuotaRow}
use Rattle.fsrm_model.specs.declared.row.Rows.{Rows}
use Rattle.fsrm_model.specs.declared.row.ScreenRow.{ScreenRow}
use Rattle.fsrm_model.specs.declared.row.Threshold.{Threshold}
use Rattle.fsrm_model.specs.objects.Acts.{actions_of}
use Rattle.fsrm_model.specs.values.Limits.{latest_moment, most_actions, most_screens}
use Rattle.fsrm_model.specs.objects.Quota.{folder_of, quota_of}
use Rattle.fsrm_model.specs.objects.Screens.{screen_folder}
use Rattle.fsrm_model.specs.objects.Thresholds.{actions_at, are_too_many, is_action, is_kept_action, is_percent, is_threshold, percent_of}
use Rattle.fsrm_model.specs.store.Valid.{IsValid, is_sound_screen}
use Rattle.fsrm_model.proofs.valid.ScreensKept.{screen_parts, table_parts}
use Rattle.notice_text.specs.declared.notice.Notice.{Notice}
use Rattle.notice_text.specs.Named.{IsNotice, notices_are_named}
use Rattle.notice_text.specs.Notices.{by_subject, moment_of, notices, of_actions, of_quota, of_run, of_screen, of_threshold}
use Rattle.notice_text.specs.Sorted.{sorted_by, with_item}
use Rattle.notice_text.proofs.NoticeLaws.{passes_at}

-- ---- what holds of all of a list
all_with : {X : Type 0} (P : X → Type 0) (key : X → ℕ) (x : X) (xs : List X) → P x → All P xs → All P (with_item key x xs)
all_with P key x [] h all = All-cons P x [] h all
all_with P key x (y ∷ ys) h all = at (nat_le (key x) (key y)) (all_with P key x ys h (All-tail P y ys all))
  where
    at : (b : Bool) → All P (with_item key x ys) → All P (cond b (x ∷ y ∷ ys) (y ∷ with_item key x ys))
    at true later = All-cons P x (y ∷ ys) h all
    at false later = All-cons P y (with_item key x ys) (All-head P y ys all) later

all_sorted : {X : Type 0} (P : X → Type 0) (key : X → ℕ) (xs : List X) → All P xs → All P (sorted_by key xs)
all_sorted P key [] all = all
all_sorted P key (x ∷ xs) all = all_with P key x (sorted_by key xs) (All-head P x xs all) (all_sorted P key xs (All-tail P x xs all))

all_flat : {X Y : Type 0} (P : Y → Type 0) (f : X → List Y) (xs : List X) → ((k : ℕ) (x : X) → slice_get xs k ≡ Some x → All P (f x)) → All P (flat_map f xs)
all_flat P f [] h = All-nil P
all_flat P f (x ∷ xs) h = All-append P (f x) (flat_map f xs) (h 0 x refl) (all_flat P f xs (λ k y e. h (suc k) y e))

-- ---- the actions of a subject
module _ (P : Notice → Type 0) (since : ℕ) (subject : Subject) where
  abbrev named : ℕ → ℕ → Action → Notice
  named moment place action = record { moment = moment; act = record { subject = subject; place = place; kind = action.kind } }

  run_named : (place : ℕ) (action : Action) (run : Option ℕ) → ((moment : ℕ) → run ≡ Some moment → P (named moment place action)) → All P (of_run since subject place action run)
  run_named place action None h = All-nil P
  run_named place action (Some moment) h = at (nat_le since moment)
    where
      at : (b : Bool) → All P (cond b (named moment place action ∷ []) [])
      at true = All-cons P (named moment place action) [] (h moment refl) (All-nil P)
      at false = All-nil P

  actions_named : (place : ℕ) (actions : List Action) → ((k at moment : ℕ) (action : Action) → at ≡ place + k → slice_get actions k ≡ Some action → action.last_run ≡ Some moment → P (named moment at action)) → All P (of_actions since subject place actions)
  actions_named place [] h = All-nil P
  actions_named place (action ∷ actions) h =
      All-append P (of_run since subject place action action.last_run) (of_actions since subject (place + 1) actions)
      (run_named place action action.last_run (λ moment e. h 0 place moment action (omega arith) refl e))
      (actions_named (place + 1) actions (λ k at moment other place_is found e. h (suc k) at moment other (omega (arith, place_is)) found e))

-- an action as a store keeps it ran at a moment that has a date
ran_in_time : (action : Action) (moment : ℕ) → is_kept_action action ≡ true → action.last_run ≡ Some moment → moment ≤ latest_moment
ran_in_time action moment kept run =
    let test = (both (is_action action) (option_map_or (λ run. nat_le run latest_moment) action.last_run true) kept).1 in
    le_is moment latest_moment (ap (λ (o : Option ℕ). option_map_or (λ run. nat_le run latest_moment) o true) (sym run) ∙ test)

module _ (K : Capacity) (R : Rows) (since : ℕ) (store : IsValid K R) where
  -- the actions of a subject that are kept so
  subject_named : (subject : Subject) (actions : List Action) → actions_of R subject ≡ actions → list_all is_kept_action actions ≡ true → All (IsNotice R) (of_actions since subject 0 actions)
  subject_named subject actions is kept =
      actions_named (IsNotice R) since subject 0 actions
      (λ k at moment action place_is found run. record {
        act = record {
          action = action;
          there = ap (λ (xs : List Action). slice_get xs at) is ∙ (ap (slice_get actions) (place_is ∙ omega arith) ∙ found);
          kind_is = refl;
        };
        moment = ran_in_time action moment (passes_at is_kept_action actions k action kept found) run;
      })

  quota_named : (place : ℕ) (quota : QuotaRow) → slice_get R.quotas place ≡ Some quota → All (IsNotice R) (of_quota since quota)
  quota_named place quota found =
      let own : quota_of R quota.folder ≡ Some quota = row_at folder_of quota.folder R.quotas place quota store.quotas.ascending found refl in
      let kept = both (is_ascending percent_of quota.thresholds && not (are_too_many quota.thresholds)) (list_all is_threshold quota.thresholds) (store.quotas.thresholds quota.folder quota own) in
      let ascending = (both (is_ascending percent_of quota.thresholds) (not (are_too_many quota.thresholds)) kept.0).0 in
      all_flat (IsNotice R) (of_threshold since quota.folder) quota.thresholds
      (λ k threshold at.
      let row : row_of percent_of threshold.percent quota.thresholds ≡ Some threshold = row_at percent_of threshold.percent quota.thresholds k threshold ascending at refl in
      let sound = both (is_percent threshold.percent) (list_all is_kept_action threshold.actions) (passes_at is_threshold quota.thresholds k threshold kept.1 at) in
      subject_named (Quota quota.folder threshold.percent) threshold.actions
      (ap (λ (o : Option QuotaRow). option_map_or (λ quota. actions_at quota.thresholds threshold.percent) o []) own
      ∙ ap (λ (o : Option Threshold). option_map_or (λ (threshold : Threshold). threshold.actions) o []) row)
      sound.1)

  screen_named : (place : ℕ) (screen : ScreenRow) → slice_get R.screens place ≡ Some screen → All (IsNotice R) (of_screen since screen)
  screen_named place screen found =
      let table = table_parts screen_folder most_screens (is_sound_screen R.nodes R.groups R.excepts) R.screens store.tables.screens in
      let own : row_of screen_folder screen.folder R.screens ≡ Some screen = row_at screen_folder screen.folder R.screens place screen table.ascending found refl in
      let sound = screen_parts R.nodes R.groups R.excepts screen (passes_at (is_sound_screen R.nodes R.groups R.excepts) R.screens place screen table.each found) in
      subject_named (Screen screen.folder) screen.actions
      (ap (λ (o : Option ScreenRow). option_map_or (λ screen. screen.actions) o []) own)
      (both (nat_le (length screen.actions) most_actions) (list_all is_kept_action screen.actions) sound.actions).1

  all_named : All (IsNotice R) (by_subject since R.quotas R.screens)
  all_named =
      All-append (IsNotice R) (flat_map (of_quota since) R.quotas) (flat_map (of_screen since) R.screens)
      (all_flat (IsNotice R) (of_quota since) R.quotas quota_named) (all_flat (IsNotice R) (of_screen since) R.screens screen_named)

pub are_named : notices_are_named
unfolding notices
are_named K R since store = all_sorted (IsNotice R) moment_of (by_subject since R.quotas R.screens) (all_named K R since store)
