-- Lists of thresholds that a command changes, one step after the other.
use Rattle.std.proofs.Common.{◌≡◌, ℕ, suc, ◌+◌, ◌<◌, ◌==◌, Bool, true, false, cond, not, List, [], ◌∷◌, ◌++◌, length, take, Some, slice_get, slice_set, insert, refl, ap, sym, ◌∙◌, subst, arith}
use Rattle.std.proofs.lemmas.List.{append-nil}
use Rattle.std.proofs.lemmas.List.Edits.{get_or-insert_at}
use Rattle.std.proofs.lemmas.List.Elements.{filter_more}
use Rattle.std.proofs.lemmas.List.Sums.{fold_more}
use Rattle.std.proofs.lemmas.Option.{get_or_from_slice_get, same_Some, slice_get-get_or, slice_get_within}
use Rattle.std.specs.Prelude.{filter, fold}
use Rattle.fsrm_base.specs.Keyed.{has_row, is_ascending, row_of, with_change, with_row}
use Rattle.fsrm_base.specs.Numbers.{is_in}
use Rattle.fsrm_base.specs.Places.{IsAt, IsGap}
use Rattle.fsrm_base.proofs.EditedRows.{find-with_row_same}
use Rattle.fsrm_base.proofs.Order.{ascending-change, ascending-filter, ascending-with_row, length-with_row}
use Rattle.fsrm_base.proofs.SortedRows.{insert_row, row_found, set_row}
use Rattle.fsrm_base.proofs.TestLaws.{eq_same}
use Rattle.fsrm_model.specs.declared.command.Added.{Added}
use Rattle.fsrm_model.specs.declared.row.Action.{Action}
use Rattle.fsrm_model.specs.declared.row.Threshold.{Threshold}
use Rattle.fsrm_model.specs.objects.Thresholds.{percent_of, with_action, with_notice, with_threshold, without_thresholds}

-- ---- one step more
pub one_more : {A : Type 0} (step : List Threshold → A → List Threshold) (old now new : List Threshold) (items : List A) (k : ℕ) (x : A) → slice_get items k ≡ Some x → now ≡ fold step old (take k items) → new ≡ step now x → new ≡ fold step old (take (k + 1) items)
one_more step old now new items k x at so_far next =
    next
    ∙ (ap (λ (ts : List Threshold). step ts x) so_far
    ∙ (ap (step (fold step old (take k items))) (sym (get_or_from_slice_get items k x x at))
    ∙ sym (fold_more step old items k x (slice_get_within items k x at))))

-- one threshold more, which goes if it is among those that are removed
kept_more : (removed : List ℕ) (thresholds kept : List Threshold) (k : ℕ) (t : Threshold) (b : Bool) → slice_get thresholds k ≡ Some t → kept ≡ without_thresholds removed (take k thresholds) → is_in removed t.percent ≡ b → kept ++ cond (not b) (t ∷ []) [] ≡ without_thresholds removed (take (k + 1) thresholds)
kept_more removed thresholds kept k t b at so_far among =
    let stays = λ (r : Threshold). not (is_in removed r.percent) in
    ap (λ (c : Bool). kept ++ cond (not c) (t ∷ []) []) (sym among)
    ∙ (ap (λ (ts : List Threshold). ts ++ cond (stays t) (t ∷ []) []) so_far
    ∙ (ap (λ (r : Threshold). filter stays (take k thresholds) ++ cond (stays r) (r ∷ []) []) (sym (get_or_from_slice_get thresholds k t t at))
    ∙ sym (filter_more stays thresholds k t (slice_get_within thresholds k t at))))

pub one_kept : (removed : List ℕ) (thresholds kept new : List Threshold) (k : ℕ) (t copy : Threshold) → slice_get thresholds k ≡ Some t → kept ≡ without_thresholds removed (take k thresholds) → is_in removed t.percent ≡ false → new ≡ kept ++ copy ∷ [] → copy ≡ t → new ≡ without_thresholds removed (take (k + 1) thresholds)
one_kept removed thresholds kept new k t copy at so_far among pushed same =
    pushed ∙ (ap (λ (r : Threshold). kept ++ r ∷ []) same ∙ kept_more removed thresholds kept k t false at so_far among)

pub one_gone : (removed : List ℕ) (thresholds kept : List Threshold) (k : ℕ) (t : Threshold) → slice_get thresholds k ≡ Some t → kept ≡ without_thresholds removed (take k thresholds) → is_in removed t.percent ≡ true → kept ≡ without_thresholds removed (take (k + 1) thresholds)
one_gone removed thresholds kept k t at so_far among = sym (append-nil kept) ∙ kept_more removed thresholds kept k t true at so_far among

-- ---- they ascend
abbrev pub bare : ℕ → Threshold
bare percent = record { percent = percent; actions = [] }

pub ascending_threshold : (thresholds : List Threshold) (percent : ℕ) → is_ascending percent_of thresholds ≡ true → is_ascending percent_of (with_threshold thresholds percent) ≡ true
ascending_threshold thresholds percent a = at (has_row percent_of percent thresholds) refl
  where
    at : (b : Bool) → has_row percent_of percent thresholds ≡ b → is_ascending percent_of (cond b thresholds (with_row percent_of (bare percent) thresholds)) ≡ true
    at true h = a
    at false h = ascending-with_row percent_of (bare percent) thresholds h a

pub ascending_percents : (percents : List ℕ) (thresholds : List Threshold) → is_ascending percent_of thresholds ≡ true → is_ascending percent_of (fold with_threshold thresholds percents) ≡ true
ascending_percents [] thresholds a = a
ascending_percents (percent ∷ percents) thresholds a = ascending_percents percents (with_threshold thresholds percent) (ascending_threshold thresholds percent a)

pub ascending_notice : (thresholds : List Threshold) (notice : Added) → is_ascending percent_of thresholds ≡ true → is_ascending percent_of (with_notice thresholds notice) ≡ true
ascending_notice thresholds notice a =
    ascending-change percent_of notice.percent (with_action notice.action) (λ t. refl) (with_threshold thresholds notice.percent) (ascending_threshold thresholds notice.percent a)

-- those that are kept of thresholds that were lent
pub ascending_kept : (removed : List ℕ) (thresholds lent kept : List Threshold) → is_ascending percent_of thresholds ≡ true → lent ≡ thresholds → kept ≡ without_thresholds removed lent → is_ascending percent_of kept ≡ true
ascending_kept removed thresholds lent kept a same is =
    ap (is_ascending percent_of) (is ∙ ap (without_thresholds removed) same) ∙ ascending-filter percent_of (λ t. not (is_in removed t.percent)) thresholds a

-- ---- the place of a percentage
-- that was looked for in thresholds that were lent
pub own_place : (thresholds lent : List Threshold) (percent place : ℕ) → lent ≡ thresholds → IsAt percent_of percent lent place → IsAt percent_of percent thresholds place
own_place thresholds lent percent place same at = subst (λ (ts : List Threshold). IsAt percent_of percent ts place) same at

pub own_gap : (thresholds lent : List Threshold) (percent place : ℕ) → lent ≡ thresholds → IsGap percent_of percent lent place → IsGap percent_of percent thresholds place
own_gap thresholds lent percent place same gap = subst (λ (ts : List Threshold). IsGap percent_of percent ts place) same gap

-- one that is there
pub there_already : (thresholds : List Threshold) (percent place : ℕ) → IsAt percent_of percent thresholds place → thresholds ≡ with_threshold thresholds percent
there_already thresholds percent place at =
    sym (ap (λ b. cond b thresholds (with_row percent_of (bare percent) thresholds)) (row_found percent_of percent thresholds place at).has)

-- and one that comes, without actions
module _ (thresholds new : List Threshold) (percent place : ℕ) (actions : List Action) (gap : IsGap percent_of percent thresholds place) (none : actions ≡ []) (is : new ≡ insert thresholds place (record { percent = percent; actions = actions })) where
  as_bare : new ≡ insert thresholds place (bare percent)
  as_bare = is ∙ ap (λ (given : List Action). insert thresholds place (record { percent = percent; actions = given })) none

  pub comes_in : new ≡ with_threshold thresholds percent
  comes_in =
      as_bare
      ∙ (insert_row percent_of (bare percent) thresholds place gap
      ∙ sym (ap (λ b. cond b thresholds (with_row percent_of (bare percent) thresholds)) gap.absent))

  pub comes_at : IsAt percent_of percent new place
  comes_at =
      let row = bare percent in
      let as_row : insert thresholds place row ≡ with_row percent_of row thresholds = insert_row percent_of row thresholds place gap in
      let longer : length (insert thresholds place row) ≡ suc (length thresholds) = ap length as_row ∙ length-with_row percent_of row thresholds in
      let low : place < length (insert thresholds place row) = omega (arith, gap.within, longer) in
      subst (λ (ts : List Threshold). IsAt percent_of percent ts place) (sym as_bare)
      (record {
        within = low;
        found =
            slice_get-get_or (insert thresholds place row) place row low
            ∙ (ap Some (get_or-insert_at thresholds place row row gap.within)
            ∙ (sym (find-with_row_same percent_of (λ t. percent_of t == percent) row thresholds (eq_same percent) gap.absent) ∙ ap (row_of percent_of percent) (sym as_row)));
      })

-- ---- a percentage gets one more action
pub noticed : (thresholds mid : List Threshold) (notice : Added) (place : ℕ) (own : Threshold) (actions : List Action) → is_ascending percent_of thresholds ≡ true → mid ≡ with_threshold thresholds notice.percent → IsAt percent_of notice.percent mid place → slice_get mid place ≡ Some own → actions ≡ own.actions ++ notice.action ∷ [] → slice_set mid place (record { percent = own.percent; actions = actions }) ≡ with_notice thresholds notice
noticed thresholds mid notice place own actions a is at there more =
    let found = row_found percent_of notice.percent mid place at in
    let same : own ≡ found.row = same_Some own found.row (sym there ∙ found.at) in
    ap (λ (given : List Action). slice_set mid place (record { percent = own.percent; actions = given })) more
    ∙ (set_row percent_of notice.percent (with_action notice.action) mid place own (ap (is_ascending percent_of) is ∙ ascending_threshold thresholds notice.percent a) there (ap percent_of same ∙ found.number)
    ∙ ap (with_change percent_of notice.percent (with_action notice.action)) is)
