-- A scan that a journal tells to finish: the quota that is still to be counted, its acts, and what is left of the parts.
use Rattle.std.proofs.Common.{◌≡◌, ℕ, ◌≤◌, Bool, true, false, List, [], Option, Some, None, refl, ap, sym, ◌∙◌, subst}
use Rattle.std.specs.Prelude.{if◌then◌else◌}
use Rattle.std.specs.Option.{option_map_or}
use Rattle.fsrm_base.specs.Keyed.{row_of, has_row}
use Rattle.fsrm_base.specs.Numbers.{without_number}
use Rattle.fsrm_base.proofs.Look.{found_has}
use Rattle.fsrm_model.specs.declared.command.Act.{Act}
use Rattle.fsrm_model.specs.declared.command.Outcome.TheVariants.{Done}
use Rattle.fsrm_model.specs.declared.row.Capacity.{Capacity}
use Rattle.fsrm_model.specs.declared.row.QuotaRow.{QuotaRow}
use Rattle.fsrm_model.specs.declared.row.QuotaState.{QuotaState}
use Rattle.fsrm_model.specs.declared.row.QuotaState.TheVariants.{Complete, Disabled, Rebuilding, Incomplete}
use Rattle.fsrm_model.specs.declared.row.Rows.{Rows}
use Rattle.fsrm_model.specs.values.Limits.{latest_moment}
use Rattle.fsrm_model.specs.objects.Quota.{counts, folder_of, is_complete}
use Rattle.fsrm_model.specs.objects.QuotaStates.{followed, state_of, with_state}
use Rattle.fsrm_model.specs.store.Replays.{completed, finish, finish_acts, finished, is_unfinished}
use Rattle.fsrm_model.specs.commands.Step.{Stepped, unacted}
use Rattle.fsrm_model.specs.store.Valid.{AreQuotas, IsValid}
use Rattle.fsrm_model.proofs.commands.ScanCommands.{state_followed}
use Rattle.fsrm_model.proofs.commands.StepActs.{AreActs, lasted_acts}
use Rattle.fsrm_model.proofs.journal.FinishLaws.{finish_valid}
use Rattle.rescan.specs.Courses.{Course, Scanning, Turns}
use Rattle.rescan.specs.Sums.{AreSums}
use Rattle.volume_tree.specs.Volume.{Volume}
use Rattle.fsrm_engine.specs.declared.parts.Parts.{Parts}
use Rattle.fsrm_engine.specs.Due.{Completes, Finishes}
use Rattle.fsrm_engine.specs.Machine.{AreCounted, AreMarked, IsSound, IsWhole, Machine, machine_of, rows_of}
use Rattle.fsrm_engine.proofs.operations.FitLaws.{counting}
use Rattle.fsrm_engine.proofs.steps.WholeLaws.{waits_acts}

-- the quota that is to be counted
pub record Unfinished (quotas : List QuotaRow) (folder : ℕ) : Type 0 where
  pub row : QuotaRow
  pub found : row_of folder_of folder quotas ≡ Some row
  pub there : has_row folder_of folder quotas ≡ true
  pub uncounted : counts row ≡ false

uncounted : (state : QuotaState) → is_unfinished state ≡ true → is_complete state ≡ false
uncounted Complete h = cc
uncounted Disabled h = cc
uncounted Rebuilding h = refl
uncounted Incomplete h = refl

pub unfinished : (quotas : List QuotaRow) (folder : ℕ) (o : Option QuotaRow) → row_of folder_of folder quotas ≡ o → is_unfinished (option_map_or (λ (q : QuotaRow). q.state) o Disabled) ≡ true → Unfinished quotas folder
unfinished quotas folder None e h = absurd (cc h)
unfinished quotas folder (Some q) e h = record { row = q; found = e; there = found_has folder_of folder quotas q e; uncounted = uncounted q.state h }

-- the counters are sums
pub counters_are : (p : Parts) → AreCounted p → AreSums p.tree.size p.tree.nodes p.usage
counters_are p e = record { each = λ f b h. (counting p.tree.size p.tree.nodes p.objects.quotas p.usage f b e.are_quotas e.sums h).is }

-- its scan leaves the queue, and it is complete
pub fresh_finish : (p new : Parts) (s t : Course) (folder moment : ℕ) → s ≡ p.scans → t.queue ≡ without_number folder s.queue → ((v : Volume) → Scanning v s → Turns s t v) → Scanning p.tree p.scans → Completes (record p { scans = t }) new folder moment → Finishes p new folder moment
fresh_finish p new s t folder moment kept queue turns scanning done =
    record {
      scans = t;
      queue_is = queue ∙ ap (λ (s : Course). without_number folder s.queue) kept;
      turns = subst (λ (s : Course). Turns s t p.tree) kept (turns p.tree (subst (Scanning p.tree) (sym kept) scanning));
      completes = done;
    }

-- the acts of a finish stand in order, and are there after it
abbrev stepped : Rows → List Act → Stepped
stepped R acts = record { rows = R; outcome = Done None; lasting = true; acts = acts }

finish_are : (K : Capacity) (R : Rows) (moment folder : ℕ) → IsValid K R → moment ≤ latest_moment → AreActs (stepped (finish K R moment folder) (finish_acts K R moment folder))
finish_are K R moment folder s late = at (is_unfinished (state_of R folder)) refl
  where
    at : (b : Bool) → is_unfinished (state_of R folder) ≡ b → AreActs (stepped (if b then finished K R moment folder else R) (if b then (completed K R moment folder).acts else []))
    at true e =
        let valid = state_followed K R folder Complete s (unfinished R.quotas folder _ refl e).there in
        lasted_acts K R moment (unacted (followed R (with_state R folder Complete))) (Done None) valid late tt refl tt
    at false e = record { first = refl; places = refl; in_order = refl; there = tt }

-- the parts are whole after it
pub finish_whole : (p new : Parts) (moment folder : ℕ) → IsWhole p → moment ≤ latest_moment → new.tree.size ≡ p.tree.size → rows_of new ≡ finish p.tree.size (rows_of p) moment folder → AreMarked new (finish_acts p.tree.size (rows_of p) moment folder) → IsSound new → IsWhole new
finish_whole p new moment folder w late size rows acts sound =
    record {
      sound = sound;
      valid = subst (IsValid new.tree.size) (sym rows)
          (subst (λ (K : Capacity). IsValid K (finish p.tree.size (rows_of p) moment folder)) (sym size) (finish_valid p.tree.size (rows_of p) moment folder w.valid late));
      there = acts.there;
      screens = acts.places;
      crossing = acts.crossing;
    }

-- and are seen so
abbrev pub seen_after : Machine → ℕ → ℕ → Machine
seen_after o moment folder = record o { rows = finish o.size o.rows moment folder; waiting = finish_acts o.size o.rows moment folder }

pub finish_seen : (p new : Parts) (moment folder : ℕ) → IsWhole p → moment ≤ latest_moment → new.tree.size ≡ p.tree.size → rows_of new ≡ finish p.tree.size (rows_of p) moment folder → AreMarked new (finish_acts p.tree.size (rows_of p) moment folder) → AreQuotas new.tree.nodes new.objects.quotas → machine_of new ≡ seen_after (machine_of p) moment folder
finish_seen p new moment folder w late size rows acts quotas =
    let K = p.tree.size in
    let R = rows_of p in
    let waits = waits_acts new (stepped (finish K R moment folder) (finish_acts K R moment folder)) rows acts quotas (finish_are K R moment folder w.valid late) in
    ap (λ (K : Capacity). record { size = K; rows = rows_of new; waiting = (machine_of new).waiting }) size
    ∙ (ap (λ (R : Rows). record { size = K; rows = R; waiting = (machine_of new).waiting }) rows
    ∙ ap (λ acts. record { size = K; rows = finish K R moment folder; waiting = acts }) waits)
