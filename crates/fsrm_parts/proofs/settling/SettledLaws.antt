-- Quotas that are settled one after the other, each by its place.
use Rattle.std.proofs.Common.{◌≡◌, ℕ, ◌<◌, ◌≤◌, ◌==◌, ◌&&◌, ◌||◌, Bool, true, false, not, List, [], ◌∷◌, ◌++◌, append_assoc, length, Option, Some, None, slice_get, refl, ap, sym, ◌∙◌, subst, arith}
use Rattle.std.proofs.lemmas.List.{append-nil, length-map}
use Rattle.std.proofs.lemmas.Option.{same_Some, slice_get-map}
use Rattle.std.specs.Prelude.{option_map}
use Rattle.std.specs.Option.{option_map_or}
use Rattle.fsrm_base.specs.Keyed.{has_row, is_ascending}
use Rattle.fsrm_base.specs.Numbers.{is_in, is_set, without_number}
use Rattle.fsrm_base.proofs.Look.{FoundRow, found_has}
use Rattle.fsrm_base.proofs.NumberLaws.{in_without, set_without}
use Rattle.fsrm_base.proofs.SortedRows.{row_at, there}
use Rattle.fsrm_base.proofs.TestLaws.{both, clash, eq_same, eq_test, is_apart}
use Rattle.fsrm_model.specs.declared.command.Act.{Act}
use Rattle.fsrm_model.specs.declared.row.QuotaRow.{QuotaRow}
use Rattle.fsrm_model.specs.objects.DueActions.{quota_acts, is_ready_at}
use Rattle.fsrm_model.specs.values.Limits.{most_entries}
use Rattle.fsrm_model.specs.objects.Quota.{folder_of}
use Rattle.fsrm_model.specs.objects.Runs.{run_quota}
use Rattle.fsrm_model.specs.objects.Thresholds.{actions_at, percent_of}
use Rattle.fsrm_model.proofs.thresholds.DueLaws.{quota_run}
use Rattle.fsrm_model.proofs.thresholds.RunLaws.{unrun_quota}
use Rattle.fsrm_model.proofs.thresholds.SettleLaws.{same_runs}
use Rattle.fsrm_objects.specs.Tables.{Tables}
use Rattle.number_set.proofs.TakenLaws.{first_in, first_taken, rest_is}
use Rattle.quota_usage.specs.declared.change.Counter.{Counter}
use Rattle.quota_usage.specs.Counters.{used_in}
use Rattle.thresholds.specs.Marked.{Marked, are_there}
use Rattle.thresholds.specs.Settled.{Settles, are_orderly, crosses, due_in}
use Rattle.thresholds.proofs.OrderLaws.{orderly, percents_ascend}
use Rattle.thresholds.proofs.RunSteps.{orderly_run}
use Rattle.thresholds.proofs.SettleLaws.{settles_both, settles_none}
use Rattle.fsrm_parts.specs.Crossing.{acts_at, gained_acts, used_acts, used_before}
use Rattle.fsrm_parts.proofs.settling.NoteLaws.{two_places}
use Rattle.fsrm_parts.proofs.tables.SumLaws.{fewer}

-- ---- the acts of one quota leave the others acts they are
pub other_run : (passes : ℕ → Bool) (run_limit m : ℕ) (q r : QuotaRow) → is_ascending percent_of q.thresholds ≡ true → (q.folder == r.folder) ≡ false → run_quota m (quota_acts passes run_limit m q) r ≡ r
other_run passes run_limit m q r asc other =
    same_runs m (quota_acts passes run_limit m q) [] r
    (λ percent place. quota_run passes run_limit m q r.folder percent place asc
    ∙ ap (λ b. b && (passes percent && is_ready_at run_limit m (actions_at q.thresholds percent) place)) other)
    ∙ unrun_quota m r

-- ---- in the midst of it: some places are left, whose quotas are acts they were
pub record Settled (f : QuotaRow → List Act) (m : ℕ) (old now : Marked) (before after : Tables) (places rest : List ℕ) : Type 0 where
  pub acts : List Act
  pub settles : Settles old now before after m acts
  pub whole : acts_at f before.quotas places ≡ acts ++ acts_at f before.quotas rest
  pub rows : (i : ℕ) (q : QuotaRow) → is_in rest i ≡ true → slice_get before.quotas i ≡ Some q → slice_get after.quotas i ≡ Some q
  pub set : is_set rest ≡ true
  pub orderly_now : are_orderly after.quotas ≡ true
  pub within : (i : ℕ) → is_in rest i ≡ true → i < length after.quotas

pub settled_none : (f : QuotaRow → List Act) (m : ℕ) (old : Marked) (before : Tables) (places : List ℕ) → length old.log ≤ most_entries → are_there before.quotas old.numbers ≡ true → is_set places ≡ true → are_orderly before.quotas ≡ true → ((i : ℕ) → is_in places i ≡ true → i < length before.quotas) → Settled f m old old before before places places
settled_none f m old before places few there set ordered within =
    record {
      acts = [];
      settles = settles_none old before m few there;
      whole = refl;
      rows = λ i q t at. at;
      set = set;
      orderly_now = ordered;
      within = within;
    }

least_first : (rest : List ℕ) (n : ℕ) → slice_get rest 0 ≡ Some n → is_set rest ≡ true → rest ≡ n ∷ without_number n rest
least_first rest n least set = first_taken n rest least ∙ ap (λ ns. n ∷ ns) (rest_is n rest set least)

module _ (f : QuotaRow → List Act) (m : ℕ) (old now new : Marked) (before after next : Tables) (places rest : List ℕ) (n : ℕ) (q : QuotaRow) (s : Settled f m old now before after places rest) (least : slice_get rest 0 ≡ Some n) (at_least : slice_get after.quotas n ≡ Some q) where
  is_left : is_in rest n ≡ true
  is_left = subst (λ ns. is_in ns n ≡ true) (sym (least_first rest n least s.set)) (ap (λ b. b || is_in (without_number n rest) n) (eq_same n))

  was : slice_get before.quotas n ≡ Some q
  was =
      let same : length after.quotas ≡ length before.quotas = ap (λ (t : Tables). length t.quotas) s.settles.tables ∙ length-map before.quotas (run_quota m s.acts) in
      let low = s.within n is_left in
      let found : FoundRow (slice_get before.quotas n) = there before.quotas n (omega (arith, low, same)) in
      found.is ∙ ap Some (same_Some found.row q (sym (s.rows n found.row is_left found.is) ∙ at_least))

  ascends : is_ascending folder_of after.quotas ≡ true
  ascends = (orderly after.quotas s.orderly_now).ascending

  others : (i : ℕ) (r : QuotaRow) → (n == i) ≡ false → slice_get after.quotas i ≡ Some r → (q.folder == r.folder) ≡ false
  others i r apart found = is_apart q.folder r.folder (λ same. clash (n == i) (eq_test n i (two_places after.quotas n i q r ascends at_least found same)) apart)

  pub settled_next : (before_used now_used : Option ℕ) (run_limit : ℕ) → f q ≡ used_acts before_used now_used run_limit m q → Settles now new after next m (due_in after None before_used now_used run_limit m q.folder) → Settled f m old new before next places (without_number n rest)
  settled_next before_used now_used run_limit is settles =
      record {
        acts = s.acts ++ f q;
        settles = settles_both old now new before after next m s.acts (f q) s.settles own;
        whole =
            s.whole
            ∙ (ap (λ ns. s.acts ++ acts_at f before.quotas ns) (least_first rest n least s.set)
            ∙ (ap (λ o. s.acts ++ (option_map_or f o [] ++ acts_at f before.quotas (without_number n rest))) was
            ∙ sym (append_assoc s.acts (f q) (acts_at f before.quotas (without_number n rest)))));
        rows = λ i r t found.
            let parts = both (not (n == i)) (is_in rest i) (sym (in_without n i rest) ∙ t) in
            let apart : (n == i) ≡ false = not_is (n == i) parts.0 in
            let kept : slice_get after.quotas i ≡ Some r = s.rows i r parts.1 found in
            ap (λ (t : Tables). slice_get t.quotas i) own.tables
            ∙ (slice_get-map (run_quota m (f q)) after.quotas i
            ∙ (ap (option_map (run_quota m (f q))) kept
            ∙ ap Some (ap (λ acts. run_quota m acts r) is ∙ other_run (crosses None before_used now_used q) run_limit m q r (percents_ascend after.quotas n q (orderly after.quotas s.orderly_now) at_least) (others i r apart kept))));
        set = set_without n rest s.set;
        orderly_now = ap (λ (t : Tables). are_orderly t.quotas) own.tables ∙ orderly_run m (f q) after.quotas s.orderly_now;
        within = λ i t.
            let parts = both (not (n == i)) (is_in rest i) (sym (in_without n i rest) ∙ t) in
            let low = s.within i parts.1 in
            let same : length next.quotas ≡ length after.quotas = ap (λ (t : Tables). length t.quotas) own.tables ∙ length-map after.quotas (run_quota m (f q)) in
            omega (arith, low, same);
      }
    where
      not_is : (b : Bool) → not b ≡ true → b ≡ false
      not_is true h = cc h
      not_is false h = refl

      acts_are : due_in after None before_used now_used run_limit m q.folder ≡ f q
      acts_are =
          ap (λ o. option_map_or (λ r. quota_acts (crosses None before_used now_used r) run_limit m r) o []) (row_at folder_of q.folder after.quotas n q ascends at_least refl) ∙ sym is

      own : Settles now new after next m (f q)
      own = subst (Settles now new after next m) acts_are settles

-- once no place is left
pub settled_all : (f : QuotaRow → List Act) (m : ℕ) (old now : Marked) (before after : Tables) (places rest : List ℕ) → Settled f m old now before after places rest → rest ≡ [] → Settles old now before after m (acts_at f before.quotas places)
settled_all f m old now before after places rest s none =
    subst (Settles old now before after m) (sym (s.whole ∙ (ap (λ ns. s.acts ++ acts_at f before.quotas ns) none ∙ append-nil s.acts))) s.settles

-- ---- a quota that lost bytes and then gained others
-- its acts by both
pub gained_used : (counters : List Counter) (minus plus run_limit m : ℕ) (q : QuotaRow) (before now : Option ℕ) → now ≡ used_in counters q.folder → before ≡ option_map (used_before minus plus) now → gained_acts counters minus plus run_limit m q ≡ used_acts before now run_limit m q
gained_used counters minus plus run_limit m q before now is earlier =
    ap (λ o. used_acts (option_map (used_before minus plus) o) o run_limit m q) (sym is) ∙ ap (λ o. used_acts o now run_limit m q) (sym earlier)

-- ---- the least place
pub less_left : (places left : List ℕ) (n : ℕ) → slice_get places 0 ≡ Some n → left ≡ without_number n places → length left < length places
less_left places left n least is =
    subst (λ ns. length ns < length places) (sym is) (fewer (λ k. k) n places (first_in n places least))

-- the quota at a place is its folder's
pub at_place_has : (quotas : List QuotaRow) (place : ℕ) (q : QuotaRow) → are_orderly quotas ≡ true → slice_get quotas place ≡ Some q → has_row folder_of q.folder quotas ≡ true
at_place_has quotas place q o found =
    found_has folder_of q.folder quotas q (row_at folder_of q.folder quotas place q (orderly quotas o).ascending found refl)
