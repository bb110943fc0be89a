-- Quotas that are flagged.
use Rattle.std.proofs.Common.{◌≡◌, ℕ, ◌≤◌, Bool, List, refl, ap, sym, ◌∙◌, subst}
use Rattle.std.specs.Prelude.{map}
use Rattle.fsrm_model.specs.declared.row.Capacity.{Capacity}
use Rattle.fsrm_model.specs.declared.row.NodeRow.{NodeRow}
use Rattle.fsrm_model.specs.declared.row.QuotaRow.{QuotaRow}
use Rattle.fsrm_model.specs.declared.row.QuotaState.{QuotaState}
use Rattle.fsrm_model.specs.declared.row.QuotaState.TheVariants.{Complete, Disabled, Rebuilding, Incomplete}
use Rattle.fsrm_model.specs.store.Lasting.{flagged, flagged_quota}
use Rattle.fsrm_model.specs.objects.Quota.{counts, is_complete}
use Rattle.fsrm_model.specs.nodes.Tree.{usage}
use Rattle.fsrm_model.proofs.valid.QuotasKept.{quotas-map}
use Rattle.quota_usage.specs.declared.change.Counter.{Counter}
use Rattle.thresholds.specs.Marked.{act_in}
use Rattle.fsrm_engine.specs.Machine.{IsCounted}
use Rattle.fsrm_engine.proofs.tables.PeakLaws.{was}
use Rattle.fsrm_parts.proofs.tables.SumLaws.{sums_kept}

-- whether it counts, and what is kept of the counters
counts_flagged : (q : QuotaRow) → counts (flagged_quota q) ≡ counts q
counts_flagged q = at q.state
  where
    at : (state : QuotaState) → is_complete (flagged state) ≡ is_complete state
    at Complete = refl
    at Disabled = refl
    at Rebuilding = refl
    at Incomplete = refl

pub counted_flagged : {level : Bool} (K : Capacity) (nodes : List NodeRow) (quotas : List QuotaRow) (counters : List Counter) → IsCounted K nodes quotas counters level → IsCounted K nodes (map flagged_quota quotas) counters level
counted_flagged K nodes quotas counters e =
    record {
      volume = e.volume;
      legal = e.legal;
      are_quotas = quotas-map nodes quotas flagged_quota e.are_quotas (λ q. refl) (λ q is. record { limit = is.limit; thresholds = is.thresholds; moment = is.moment });
      sums = e.sums ∙ sym (sums_kept K nodes flagged_quota (λ q. refl) counts_flagged quotas);
      peaks = λ l f q h c.
          let w = was flagged_quota (λ q. refl) f quotas q h in
          subst (λ (r : QuotaRow). usage K nodes f ≤ r.peak) (sym w.is) (e.peaks l f w.old w.found (sym (counts_flagged w.old) ∙ (ap counts (sym w.is) ∙ c)));
    }

-- and its acts
pub flagged_act : (q : QuotaRow) (n : ℕ) → act_in (flagged_quota q) n ≡ act_in q n
flagged_act q n = refl
