-- The acts that are due when bytes come and go, and the answer when a quota refuses that.
use Rattle.std.proofs.Common.{◌≡◌, ℕ, ◌≤◌, ◌<◌, ◌*◌, ◌^◌, ◌==◌, Bool, false, List, Some, ap, sym, ◌∙◌, subst, arith}
use Rattle.std.specs.Prelude.{option_map, map}
use Rattle.fsrm_model.specs.declared.command.Answer.{Answer}
use Rattle.fsrm_model.specs.declared.command.Deed.{Deed}
use Rattle.fsrm_model.specs.declared.row.NodeRow.{NodeRow}
use Rattle.fsrm_model.specs.declared.row.QuotaRow.{QuotaRow}
use Rattle.fsrm_model.specs.objects.DueActions.{due_refused}
use Rattle.fsrm_model.specs.values.Limits.{longest_file}
use Rattle.fsrm_model.specs.objects.Quota.{exceeded}
use Rattle.quota_usage.specs.declared.change.Change.{Change}
use Rattle.quota_usage.specs.declared.change.Counter.{Counter}
use Rattle.quota_usage.specs.declared.change.Exceeded.{Exceeded}
use Rattle.quota_usage.specs.Charge.{charged_counter, exceeded_by, is_above}
use Rattle.rescan.specs.Courses.{Course}
use Rattle.volume_tree.specs.Volume.{Volume}
use Rattle.fsrm_engine.specs.declared.parts.Parts.{Parts}
use Rattle.fsrm_parts.specs.Crossing.{IsCovered}
use Rattle.fsrm_engine.specs.Due.{Refuses, charged_acts}
use Rattle.fsrm_parts.specs.Faults.{exceeded_refusal}
use Rattle.fsrm_engine.specs.Machine.{AreCounted, Does, IsIdle, charged_parts, rows_of}
use Rattle.fsrm_engine.proofs.operations.ChangeLaws.{Changes}
use Rattle.fsrm_engine.proofs.operations.FitLaws.{counting}
use Rattle.fsrm_engine.proofs.operations.GrowthLaws.{by_quotas}
use Rattle.fsrm_engine.proofs.operations.IdleLaws.{counters_small}
use Rattle.fsrm_engine.proofs.settling.CalmLaws.{was_mapped}
use Rattle.fsrm_engine.proofs.settling.DueLaws.{due_counted, refused_due}
use Rattle.fsrm_engine.proofs.settling.EndLaws.{due_of}
use Rattle.fsrm_engine.proofs.steps.StepLaws.{asked, due, refused_with}
use Rattle.fsrm_engine.proofs.tables.PeakLaws.{raised_some, some_folder, some_limit, some_thresholds}

-- over another tree, and other scans
pub charged_due : (p : Parts) (w : Volume) (s : Course) (change : Change) (m : ℕ) → w.size ≡ p.tree.size → AreCounted p → AreCounted (charged_parts (record p { tree = w; scans = s }) change m) → charged_acts (record p { tree = w; scans = s }) change m ≡ due_of p (charged_parts (record p { tree = w; scans = s }) change m) m
charged_due p w s change m size c d =
    let counters : List Counter = map (charged_counter w.nodes change) p.usage in
    let above : QuotaRow → Bool = λ q. is_above w.nodes change.to q.folder in
    due_counted p (charged_parts (record p { tree = w; scans = s }) change m) m c d size
    (was_mapped (raised_some above counters m) p.objects.quotas (some_folder above counters m) (some_limit above counters m) (some_thresholds above counters m))

-- a quota refuses that the nodes become these
pub refused_op : (p new : Parts) (m : ℕ) (deed : Deed) (answer : Answer) (change : Change) (nodes : List NodeRow) (told : Exceeded) → AreCounted p → IsIdle p → p.last_moment ≤ m → due p m deed ≡ exceeded p.tree.size (rows_of p) nodes → nodes ≡ (asked p m deed).effect.nodes → Changes p.tree.size p.tree.nodes nodes p.objects.quotas change → exceeded_by p.tree.nodes p.objects.quotas p.usage change ≡ Some told → Refuses p new m told answer → Does p new m deed answer
refused_op p new m deed answer change nodes told e idle after due_is same changes err r =
    let over : exceeded p.tree.size (rows_of p) nodes ≡ Some (exceeded_refusal told) =
    by_quotas p nodes change (Some (exceeded_refusal told)) e changes (ap (option_map exceeded_refusal) err) in
    refused_with p new m deed answer told idle after (due_is ∙ over)
    (refused_due p m nodes told e over ∙ ap (λ (ns : List NodeRow). due_refused p.tree.size (rows_of p) ns m) same) r

-- a change takes no more from a counter than there is
pub covered_by : (p : Parts) (new : List NodeRow) (change : Change) → AreCounted p → Changes p.tree.size p.tree.nodes new p.objects.quotas change → ((from to : ℕ) → change.from ≡ Some from → change.to ≡ Some to → (from == to) ≡ false → change.plus ≤ change.minus) → IsCovered new p.usage change
covered_by p new change e c even =
    record {
      small = λ f b used. small b (counters_small p.tree.size p.tree.nodes p.objects.quotas p.usage f b e used);
      held = λ f b on used.
          let w = counting p.tree.size p.tree.nodes p.objects.quotas p.usage f b e.are_quotas e.sums used in
          subst (λ n. change.minus ≤ n) (sym w.is) (c.held f w.quota w.found (sym (c.from_same f) ∙ on));
      even = even;
    }
  where
    small : (b : ℕ) → b ≤ 1048576 * longest_file → b < 2 ^ 64
    small b h = omega (arith, h)
