-- What is kept when acts run.
use Rattle.std.proofs.Common.{◌≡◌, ℕ, ◌≤◌, Bool, List, refl, ap, sym, ◌∙◌, subst}
use Rattle.std.specs.Prelude.{map}
use Rattle.fsrm_model.specs.declared.command.Act.{Act}
use Rattle.fsrm_model.specs.declared.row.Capacity.{Capacity}
use Rattle.fsrm_model.specs.declared.row.NodeRow.{NodeRow}
use Rattle.fsrm_model.specs.declared.row.QuotaRow.{QuotaRow}
use Rattle.fsrm_model.specs.values.Limits.{latest_moment}
use Rattle.fsrm_model.specs.objects.Quota.{counts}
use Rattle.fsrm_model.specs.objects.Runs.{run_quota}
use Rattle.fsrm_model.specs.nodes.Tree.{usage}
use Rattle.fsrm_model.proofs.valid.QuotasKept.{quotas-ran}
use Rattle.fsrm_objects.specs.Tables.{Tables}
use Rattle.quota_usage.specs.declared.change.Counter.{Counter}
use Rattle.rescan.specs.Courses.{Scanning}
use Rattle.fsrm_engine.specs.declared.parts.Parts.{Parts}
use Rattle.fsrm_engine.specs.Machine.{AreCounted, IsCounted, IsSound, Ran, ended}
use Rattle.fsrm_engine.proofs.tables.PeakLaws.{was}
use Rattle.fsrm_parts.proofs.tables.SumLaws.{sums_kept}

counted_ran : {level : Bool} (K : Capacity) (nodes : List NodeRow) (quotas : List QuotaRow) (counters : List Counter) (m : ℕ) (acts : List Act) → m ≤ latest_moment → IsCounted K nodes quotas counters level → IsCounted K nodes (map (run_quota m acts) quotas) counters level
counted_ran K nodes quotas counters m acts legal e =
    record {
      volume = e.volume;
      legal = e.legal;
      are_quotas = quotas-ran nodes quotas m acts e.are_quotas legal;
      sums = e.sums ∙ sym (sums_kept K nodes (run_quota m acts) (λ q. refl) (λ q. refl) quotas);
      peaks = λ l f q h c.
          let w = was (run_quota m acts) (λ q. refl) f quotas q h in
          subst (λ (r : QuotaRow). usage K nodes f ≤ r.peak) (sym w.is) (e.peaks l f w.old w.found (ap counts (sym w.is) ∙ c));
    }

pub counted_run : (p run : Parts) (m : ℕ) (acts : List Act) → m ≤ latest_moment → AreCounted p → Ran p run m acts → AreCounted run
counted_run p run m acts legal e r =
    subst AreCounted (sym r.parts_are)
    (subst (λ (t : Tables). IsCounted p.tree.size p.tree.nodes t.quotas p.usage p.level) (sym r.settles.tables)
    (counted_ran p.tree.size p.tree.nodes p.objects.quotas p.usage m acts legal e))

-- parts after acts ran and the command ended are sound
pub sound_run : (mid run new : Parts) (m : ℕ) (acts : List Act) → Ran mid run m acts → new ≡ ended run m → AreCounted new → Scanning mid.tree mid.scans → IsSound new
sound_run mid run new m acts r is counted scanning =
    record {
      counted = counted;
      scanning = subst (λ (p : Parts). Scanning p.tree p.scans) (sym is) (subst (λ (p : Parts). Scanning p.tree p.scans) (sym r.parts_are) scanning);
    }
