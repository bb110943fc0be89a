-- Quotas that are settled one after the other, each by its row before.
use Rattle.std.proofs.Common.{◌≡◌, ℕ, ◌≤◌, ◌==◌, ◌||◌, Bool, true, false, List, [], ◌∷◌, ◌++◌, append_assoc, length, Option, Some, None, refl, ap, sym, ◌∙◌, subst, arith}
use Rattle.std.proofs.lemmas.List.{append-nil}
use Rattle.std.specs.Prelude.{flat_map, option_map, is_some}
use Rattle.std.specs.List.{list_all}
use Rattle.std.specs.Option.{option_map_or}
use Rattle.fsrm_base.specs.Keyed.{has_row, is_ascending, row_of}
use Rattle.fsrm_base.proofs.EditedRows.{absent_later, ascending_tail}
use Rattle.fsrm_base.proofs.Look.{find-map, found_key, is_some-find}
use Rattle.fsrm_base.proofs.TestLaws.{both, clash, eq_is, eq_same, eq_test, not_true}
use Rattle.fsrm_model.specs.declared.command.Act.{Act}
use Rattle.fsrm_model.specs.declared.row.QuotaRow.{QuotaRow}
use Rattle.fsrm_model.specs.objects.DueActions.{quota_acts}
use Rattle.fsrm_model.specs.values.Limits.{most_entries}
use Rattle.fsrm_model.specs.objects.Quota.{folder_of}
use Rattle.fsrm_model.specs.objects.Runs.{run_quota}
use Rattle.fsrm_model.proofs.thresholds.RunLaws.{unrun_quota}
use Rattle.fsrm_objects.specs.Tables.{Tables}
use Rattle.quota_usage.specs.declared.change.Counter.{Counter}
use Rattle.quota_usage.specs.Counters.{used_in}
use Rattle.thresholds.specs.Marked.{Marked, are_there}
use Rattle.thresholds.specs.Settled.{Settles, are_orderly, crosses, due_in}
use Rattle.thresholds.proofs.RunSteps.{orderly_run}
use Rattle.thresholds.proofs.SettleLaws.{settles_both, settles_none}
use Rattle.fsrm_parts.specs.Updated.{updated_acts}
use Rattle.fsrm_parts.proofs.settling.OrderlyQuotas.{row_ascends}
use Rattle.fsrm_parts.proofs.settling.SettledLaws.{other_run}

-- some of them are settled, and others are left
pub record RowsSettled (counters : List Counter) (run_limit m : ℕ) (old now : Marked) (start after : Tables) (all rest : List QuotaRow) : Type 0 where
  pub acts : List Act
  pub settles : Settles old now start after m acts
  pub whole : flat_map (updated_acts start counters run_limit m) all ≡ acts ++ flat_map (updated_acts start counters run_limit m) rest
  pub rows : (folder : ℕ) → has_row folder_of folder rest ≡ true → row_of folder_of folder after.quotas ≡ row_of folder_of folder start.quotas
  pub there : list_all (λ row. has_row folder_of row.folder start.quotas) rest ≡ true
  pub ascending : is_ascending folder_of rest ≡ true
  pub orderly_now : are_orderly after.quotas ≡ true

pub rows_begun : (counters : List Counter) (run_limit m : ℕ) (old : Marked) (start : Tables) (all : List QuotaRow) → length old.log ≤ most_entries → are_there start.quotas old.numbers ≡ true → list_all (λ row. has_row folder_of row.folder start.quotas) all ≡ true → is_ascending folder_of all ≡ true → are_orderly start.quotas ≡ true → RowsSettled counters run_limit m old old start start all all
rows_begun counters run_limit m old start all few marked there ascending orderly =
    record {
      acts = [];
      settles = settles_none old start m few marked;
      whole = refl;
      rows = λ folder h. refl;
      there = there;
      ascending = ascending;
      orderly_now = orderly;
    }

module _ (counters : List Counter) (run_limit m : ℕ) (old now new : Marked) (start after next : Tables) (all rest : List QuotaRow) (r : QuotaRow) (s : RowsSettled counters run_limit m old now start after all (r ∷ rest)) where
  here : has_row folder_of r.folder (r ∷ rest) ≡ true
  here = at (r.folder == r.folder) (own r.folder)
    where
      own : (n : ℕ) → (n == n) ≡ true
      own n = eq_same n

      at : (b : Bool) → b ≡ true → (b || has_row folder_of r.folder rest) ≡ true
      at true e = refl
      at false e = cc

  -- its quota is as it was, and there
  pub same_row : row_of folder_of r.folder after.quotas ≡ row_of folder_of r.folder start.quotas
  same_row = s.rows r.folder here

  pub row_there : has_row folder_of r.folder after.quotas ≡ true
  row_there =
      sym (is_some-find (λ q. folder_of q == r.folder) after.quotas)
      ∙ (ap is_some same_row ∙ (is_some-find (λ q. folder_of q == r.folder) start.quotas ∙ (both (has_row folder_of r.folder start.quotas) (list_all (λ row. has_row folder_of row.folder start.quotas) rest) s.there).0))

  pub rows_next : (used : Option ℕ) → used ≡ used_in counters r.folder → Settles now new after next m (due_in after (Some r) used used run_limit m r.folder) → RowsSettled counters run_limit m old new start next all rest
  rows_next used is settles =
      record {
        acts = s.acts ++ acts;
        settles = settles_both old now new start after next m s.acts acts s.settles own;
        whole = s.whole ∙ sym (append_assoc s.acts acts (flat_map (updated_acts start counters run_limit m) rest));
        rows = λ folder h. others folder h;
        there = (both (has_row folder_of r.folder start.quotas) (list_all (λ row. has_row folder_of row.folder start.quotas) rest) s.there).1;
        ascending = ascending_tail folder_of r rest s.ascending;
        orderly_now = ap (λ (t : Tables). are_orderly t.quotas) own.tables ∙ orderly_run m acts after.quotas s.orderly_now;
      }
    where
      acts : List Act
      acts = updated_acts start counters run_limit m r

      acts_are : due_in after (Some r) used used run_limit m r.folder ≡ updated_acts start counters run_limit m r
      acts_are =
          ap (λ u. due_in after (Some r) u u run_limit m r.folder) is
          ∙ ap (λ o. option_map_or (λ quota. quota_acts (crosses (Some r) (used_in counters r.folder) (used_in counters r.folder) quota) run_limit m quota) o []) same_row

      own : Settles now new after next m (updated_acts start counters run_limit m r)
      own = subst (Settles now new after next m) acts_are settles

      -- the acts of its quota leave another row as it is
      stays : (o : Option QuotaRow) (x : QuotaRow) → row_of folder_of r.folder start.quotas ≡ o → (x.folder == r.folder) ≡ false → run_quota m (option_map_or (λ quota. quota_acts (crosses (Some r) (used_in counters r.folder) (used_in counters r.folder) quota) run_limit m quota) o []) x ≡ x
      stays None x e apart = unrun_quota m x
      stays (Some q) x e apart =
          let key : q.folder ≡ r.folder = found_key folder_of r.folder start.quotas q e in
          other_run (crosses (Some r) (used_in counters r.folder) (used_in counters r.folder) q) run_limit m q x
          (row_ascends after.quotas r.folder q s.orderly_now (same_row ∙ e))
          (not_true (q.folder == x.folder) (λ t. clash (x.folder == r.folder) (eq_test x.folder r.folder (sym (eq_is q.folder x.folder t) ∙ key)) apart))

      kept : (folder : ℕ) (o : Option QuotaRow) → row_of folder_of folder after.quotas ≡ o → (folder == r.folder) ≡ false → option_map (run_quota m (updated_acts start counters run_limit m r)) o ≡ o
      kept folder None e apart = refl
      kept folder (Some x) e apart =
          ap Some (stays (row_of folder_of r.folder start.quotas) x refl (ap (λ k. k == r.folder) (found_key folder_of folder after.quotas x e) ∙ apart))

      others : (folder : ℕ) → has_row folder_of folder rest ≡ true → row_of folder_of folder next.quotas ≡ row_of folder_of folder start.quotas
      others folder h =
          let absent = absent_later folder_of r.folder r rest (omega arith) s.ascending in
          let apart : (folder == r.folder) ≡ false = not_true (folder == r.folder) (λ t. clash (has_row folder_of folder rest) h (ap (λ k. has_row folder_of k rest) (eq_is folder r.folder t) ∙ absent)) in
          ap (λ (t : Tables). row_of folder_of folder t.quotas) own.tables
          ∙ (find-map (λ q. folder_of q == folder) (run_quota m acts) (λ q. refl) after.quotas
          ∙ (kept folder (row_of folder_of folder after.quotas) refl apart ∙ s.rows folder (later folder h)))
        where
          later : (folder : ℕ) → has_row folder_of folder rest ≡ true → has_row folder_of folder (r ∷ rest) ≡ true
          later folder h = at (r.folder == folder) h
            where
              at : (b : Bool) → has_row folder_of folder rest ≡ true → (b || has_row folder_of folder rest) ≡ true
              at true e = refl
              at false e = e

-- once all are settled
pub rows_done : (counters : List Counter) (run_limit m : ℕ) (old now : Marked) (start after : Tables) (all rest : List QuotaRow) → RowsSettled counters run_limit m old now start after all rest → rest ≡ [] → Settles old now start after m (flat_map (updated_acts start counters run_limit m) all)
rows_done counters run_limit m old now start after all rest s none =
    subst (Settles old now start after m) (sym (s.whole ∙ (ap (λ (rows : List QuotaRow). s.acts ++ flat_map (updated_acts start counters run_limit m) rows) none ∙ append-nil s.acts))) s.settles
