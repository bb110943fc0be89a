-- Which acts are due when the quota of one folder changed, or came to count.
use Rattle.std.proofs.Common.{◌≡◌, ℕ, ◌==◌, Bool, true, false, cond, ◌&&◌, not, Some, None, refl, ap, sym, ◌∙◌}
use Rattle.std.specs.Option.{option_and_then}
use Rattle.fsrm_base.specs.Keyed.{row_of, has_row}
use Rattle.fsrm_model.specs.declared.row.Capacity.{Capacity}
use Rattle.fsrm_model.specs.declared.row.QuotaRow.{QuotaRow}
use Rattle.fsrm_model.specs.declared.row.Rows.{Rows}
use Rattle.fsrm_model.specs.objects.Quota.{folder_of, quota_of, counts, used_of}
use Rattle.fsrm_model.specs.objects.Reached.{crossed, has_reached, reached}
use Rattle.fsrm_model.specs.objects.Thresholds.{percent_of}
use Rattle.fsrm_model.specs.nodes.Tree.{usage}
use Rattle.quota_usage.specs.Counters.{used_in}
use Rattle.thresholds.specs.Settled.{crosses, due_in}
use Rattle.fsrm_engine.specs.declared.parts.Parts.{Parts}
use Rattle.fsrm_engine.specs.Machine.{AreCounted, rows_of}
use Rattle.fsrm_engine.proofs.operations.IdleLaws.{used_at}
use Rattle.fsrm_engine.proofs.settling.CalmLaws.{other_reached, still_crossed}
use Rattle.fsrm_engine.proofs.settling.DueLaws.{due_alone, reached_row}
use Rattle.fsrm_engine.proofs.settling.EndLaws.{due_of}

-- what the other quotas have reached stays
others_calm : (p mid : Parts) (n : ℕ) → mid.tree.nodes ≡ p.tree.nodes → ((folder : ℕ) → (folder == n) ≡ false → row_of folder_of folder mid.objects.quotas ≡ row_of folder_of folder p.objects.quotas) → (folder percent : ℕ) → (folder == n) ≡ false → crossed p.tree.size (rows_of p) (rows_of mid) folder percent ≡ false
others_calm p mid n nodes others folder percent e =
    still_crossed p.tree.size (rows_of p) (rows_of mid) folder percent (λ is. other_reached p.tree.size (rows_of p) (rows_of mid) folder percent nodes (others folder e) is)

used_now : (p mid : Parts) (n : ℕ) → AreCounted mid → mid.tree.size ≡ p.tree.size → used_of p.tree.size (rows_of mid) n ≡ used_in mid.usage n
used_now p mid n d size = ap (λ (k : Capacity). used_of k (rows_of mid) n) (sym size) ∙ sym (used_at mid n (used_in mid.usage n) d refl)

-- it had this row before
pub due_changed : (p mid : Parts) (m n : ℕ) (old : QuotaRow) → AreCounted p → AreCounted mid → mid.tree.size ≡ p.tree.size → mid.tree.nodes ≡ p.tree.nodes → ((folder : ℕ) → (folder == n) ≡ false → row_of folder_of folder mid.objects.quotas ≡ row_of folder_of folder p.objects.quotas) → row_of folder_of n p.objects.quotas ≡ Some old → due_of p mid m ≡ due_in mid.objects (Some old) (used_in p.usage n) (used_in mid.usage n) mid.run_limit m n
due_changed p mid m n old c d size nodes others found =
    due_alone p mid m n (crosses (Some old) (used_in p.usage n) (used_in mid.usage n)) d.are_quotas.ascending (others_calm p mid n nodes others) is
  where
    K : Capacity
    K = p.tree.size

    is : (q : QuotaRow) → row_of folder_of n mid.objects.quotas ≡ Some q → (percent : ℕ) → crossed K (rows_of p) (rows_of mid) n percent ≡ crosses (Some old) (used_in p.usage n) (used_in mid.usage n) q percent
    is q now percent =
        ap (λ b. b && not (reached K (rows_of p) n percent)) (reached_row K (rows_of mid) n percent q (used_in mid.usage n) now (used_now p mid n d size))
        ∙ ap (λ b. has_reached q percent (used_in mid.usage n) && not b) (reached_row K (rows_of p) n percent old (used_in p.usage n) found (sym (used_at p n (used_in p.usage n) c refl)))

-- ---- a quota that didn't count
uncounted_used : (K : Capacity) (R : Rows) (n : ℕ) (q : QuotaRow) → quota_of R n ≡ Some q → counts q ≡ false → used_of K R n ≡ None
uncounted_used K R n q found h =
    ap (option_and_then (λ (quota : QuotaRow). cond (counts quota) (Some (usage K R.nodes n)) None)) found ∙ ap (λ b. cond b (Some (usage K R.nodes n)) None) h

unreached_none : (q : QuotaRow) (percent : ℕ) → has_reached q percent None ≡ false
unreached_none q percent = at (has_row percent_of percent q.thresholds)
  where
    at : (b : Bool) → (b && false) ≡ false
    at true = refl
    at false = refl

pub due_begun : (p mid : Parts) (m n : ℕ) (old : QuotaRow) → AreCounted mid → mid.tree.size ≡ p.tree.size → mid.tree.nodes ≡ p.tree.nodes → ((folder : ℕ) → (folder == n) ≡ false → row_of folder_of folder mid.objects.quotas ≡ row_of folder_of folder p.objects.quotas) → row_of folder_of n p.objects.quotas ≡ Some old → counts old ≡ false → due_of p mid m ≡ due_in mid.objects None None (used_in mid.usage n) mid.run_limit m n
due_begun p mid m n old d size nodes others found uncounted =
    due_alone p mid m n (crosses None None (used_in mid.usage n)) d.are_quotas.ascending (others_calm p mid n nodes others) is
  where
    K : Capacity
    K = p.tree.size

    is : (q : QuotaRow) → row_of folder_of n mid.objects.quotas ≡ Some q → (percent : ℕ) → crossed K (rows_of p) (rows_of mid) n percent ≡ crosses None None (used_in mid.usage n) q percent
    is q now percent =
        ap (λ b. b && not (reached K (rows_of p) n percent)) (reached_row K (rows_of mid) n percent q (used_in mid.usage n) now (used_now p mid n d size))
        ∙ ap (λ b. has_reached q percent (used_in mid.usage n) && not b)
        (reached_row K (rows_of p) n percent old None found (uncounted_used K (rows_of p) n old found uncounted)
        ∙ (unreached_none old percent ∙ sym (unreached_none q percent)))
