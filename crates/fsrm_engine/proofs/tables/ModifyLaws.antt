-- Quotas that commands make and change.
use Rattle.std.proofs.Common.{◌≡◌, ℕ, ◌≤◌, ◌==◌, Bool, true, false, List, Option, Some, None, refl, ap, sym, ◌∙◌, subst}
use Rattle.std.specs.List.{list_all}
use Rattle.std.specs.Option.{option_and_then, option_map_or}
use Rattle.fsrm_base.specs.Keyed.{has_row, is_ascending, row_of, with_change}
use Rattle.fsrm_base.proofs.Look.{found_has, has_row-change}
use Rattle.fsrm_model.specs.declared.command.Answer.{Answer}
use Rattle.fsrm_model.specs.declared.command.Deed.TheVariants.{Quota}
use Rattle.fsrm_model.specs.declared.command.Outcome.TheVariants.{Done}
use Rattle.fsrm_model.specs.declared.command.QuotaChange.{QuotaChange}
use Rattle.fsrm_model.specs.declared.command.QuotaDeed.TheVariants.{Modify as QuotaModify}
use Rattle.fsrm_model.specs.declared.row.QuotaRow.{QuotaRow}
use Rattle.fsrm_model.specs.declared.row.QuotaState.{QuotaState}
use Rattle.fsrm_model.specs.declared.row.QuotaState.TheVariants.{Disabled}
use Rattle.fsrm_model.specs.declared.row.Threshold.{Threshold}
use Rattle.fsrm_model.specs.objects.Quota.{folder_of, counts, is_complete}
use Rattle.fsrm_model.specs.objects.QuotaStates.{in_state, queued, state_after, with_state}
use Rattle.fsrm_model.specs.commands.QuotaWork.{changed_by}
use Rattle.fsrm_model.specs.objects.Thresholds.{are_thresholds, changed_thresholds, is_threshold, may_be_removed, percent_of}
use Rattle.fsrm_model.specs.nodes.Tree.{is_folder, usage}
use Rattle.fsrm_model.specs.store.Valid.{IsVolume}
use Rattle.fsrm_model.proofs.commands.ValueParts.{AreNewThresholds}
use Rattle.fsrm_model.proofs.thresholds.ThresholdLaws.{changed_ascending, changed_each}
use Rattle.fsrm_objects.specs.Tables.{Tables, other_fault}
use Rattle.fsrm_objects.proofs.FaultLaws.{short_other}
use Rattle.quota_usage.specs.Counters.{used_in}
use Rattle.thresholds.specs.Settled.{due_in}
use Rattle.fsrm_engine.specs.declared.parts.Parts.{Parts}
use Rattle.fsrm_parts.specs.Faults.{table_refusal}
use Rattle.fsrm_engine.specs.Faults.{text_room}
use Rattle.fsrm_engine.specs.Machine.{AreCounted, Does, IsIdle, IsWhole, Ran, Turned, ended, rows_of}
use Rattle.fsrm_parts.specs.Places.{IsQuotaAt}
use Rattle.fsrm_engine.proofs.settling.ChangedDue.{due_changed}
use Rattle.fsrm_engine.proofs.settling.TurnedCalm.{others_same, turned_nodes, turned_quotas}
use Rattle.fsrm_parts.proofs.walks.PlaceLaws.{target_is}
use Rattle.fsrm_engine.proofs.steps.StepLaws.{done_with}
use Rattle.fsrm_engine.proofs.tables.CountingLaws.{put_in, put_is}
use Rattle.fsrm_engine.proofs.tables.RoomLaws.{each_threshold, legal_thresholds, modify_due, percents_ascend}
use Rattle.fsrm_engine.proofs.tables.StateLaws.{after_empty, empty_folder, modified_to}
use Rattle.fsrm_engine.proofs.tables.TurnLaws.{turned_accepts, turned_keeps}

-- ---- a changed one
-- what is known of the row that was made of a copy
module _ (change : QuotaChange) (q before row : QuotaRow) (same : before ≡ q) (is : row ≡ changed_by change before) where
  abbrev marked : List Threshold → List Threshold
  marked = changed_thresholds change.removed change.thresholds.percents change.thresholds.notices

  pub changed_row : (state : QuotaState) → in_state state row ≡ in_state state (changed_by change q)
  changed_row state = ap (in_state state) is ∙ ap (λ (r : QuotaRow). in_state state (changed_by change r)) same

  pub changed_folder : row.folder ≡ q.folder
  changed_folder = ap (λ (r : QuotaRow). r.folder) is ∙ ap (λ (r : QuotaRow). r.folder) same

  pub changed_there : (quotas : List QuotaRow) → row_of folder_of q.folder quotas ≡ Some q → has_row folder_of row.folder quotas ≡ true
  changed_there quotas found = ap (λ (k : ℕ). has_row folder_of k quotas) changed_folder ∙ found_has folder_of q.folder quotas q found

  pub changed_legal : are_thresholds q.thresholds ≡ true → AreNewThresholds change.thresholds → list_all is_threshold row.thresholds ≡ true
  changed_legal are marks =
      ap (λ (r : QuotaRow). list_all is_threshold r.thresholds) is
      ∙ (ap (λ (r : QuotaRow). list_all is_threshold (marked r.thresholds)) same
      ∙ changed_each change.removed change.thresholds.percents change.thresholds.notices q.thresholds (each_threshold q.thresholds are) marks.percents marks.notices)

  pub changed_percents : is_ascending percent_of q.thresholds ≡ true → is_ascending percent_of row.thresholds ≡ true
  changed_percents ascending =
      ap (λ (r : QuotaRow). is_ascending percent_of r.thresholds) is
      ∙ (ap (λ (r : QuotaRow). is_ascending percent_of (marked r.thresholds)) same
      ∙ changed_ascending change.removed change.thresholds.percents change.thresholds.notices q.thresholds ascending)

  pub changed_whole : (tables : Tables) (room : ℕ) (state : QuotaState) → are_thresholds q.thresholds ≡ true → AreNewThresholds change.thresholds → other_fault tables (in_state state row) room ≡ None → are_thresholds row.thresholds ≡ true
  changed_whole tables room state are marks may =
      legal_thresholds row.thresholds
      (changed_percents (percents_ascend q.thresholds are)) (short_other tables (in_state state row) room may) (changed_legal are marks)

  pub changed_unused : (p : Parts) (state : QuotaState) (enabled : Option Bool) (old : QuotaRow) → IsVolume p.tree.size p.tree.nodes → is_folder p.tree.nodes q.folder ≡ true → state ≡ state_after (rows_of p) q.folder enabled → row_of folder_of row.folder p.objects.quotas ≡ Some old → counts old ≡ false → is_complete state ≡ true → usage p.tree.size p.tree.nodes row.folder ≡ 0
  changed_unused p state enabled old volume folder state_is found was t =
      ap (usage p.tree.size p.tree.nodes) changed_folder
      ∙ empty_folder p.tree.size p.tree.nodes q.folder volume folder
      (after_empty (rows_of p) q.folder enabled
      (ap (λ (o : Option QuotaRow). is_complete (option_map_or (λ (r : QuotaRow). r.state) o Disabled)) (ap (λ (k : ℕ). row_of folder_of k p.objects.quotas) (sym changed_folder) ∙ found) ∙ was)
      (sym (ap is_complete state_is) ∙ t))

  -- its folder has a quota still
  pub changed_still : (p mid : Parts) (state : QuotaState) (queue : List ℕ) → Turned p mid (with_change folder_of row.folder (λ old. in_state state row) p.objects.quotas) queue → is_ascending folder_of p.objects.quotas ≡ true → row_of folder_of q.folder p.objects.quotas ≡ Some q → has_row folder_of before.folder mid.objects.quotas ≡ true
  changed_still p mid state queue t asc found =
      ap (λ (r : QuotaRow). has_row folder_of r.folder mid.objects.quotas) same
      ∙ (ap (has_row folder_of q.folder) (turned_quotas p mid (with_change folder_of row.folder (λ old. in_state state row) p.objects.quotas) queue t ∙ put_is (in_state state row) p.objects.quotas asc)
      ∙ (has_row-change folder_of row.folder (put_in (in_state state row)) (λ r. refl) q.folder p.objects.quotas ∙ found_has folder_of q.folder p.objects.quotas q found))

-- the acts that ran by a copy of the row that it was
pub ran_by : (p mid run : Parts) (m : ℕ) (q before : QuotaRow) (used : Option ℕ) → before ≡ q → used ≡ used_in p.usage before.folder → Ran mid run m (due_in mid.objects (Some before) used (used_in mid.usage before.folder) mid.run_limit m before.folder) → Ran mid run m (due_in mid.objects (Some q) (used_in p.usage q.folder) (used_in mid.usage q.folder) mid.run_limit m q.folder)
ran_by p mid run m q before used same is ran =
    subst (λ (r : QuotaRow). Ran mid run m (due_in mid.objects (Some r) (used_in p.usage r.folder) (used_in mid.usage r.folder) mid.run_limit m r.folder)) same
    (subst (λ (o : Option ℕ). Ran mid run m (due_in mid.objects (Some before) o (used_in mid.usage before.folder) mid.run_limit m before.folder)) is ran)

module _ (p mid run new : Parts) (m : ℕ) (given : QuotaChange) (q row : QuotaRow) (state : QuotaState) (at : IsQuotaAt p.tree.nodes p.objects.quotas given.path q) where
  abbrev change : QuotaRow → QuotaRow
  change = changed_by given

  pub modified_as : (answer : Answer) → row ≡ in_state state (change q) → state ≡ state_after (rows_of p) q.folder given.enabled → may_be_removed given.removed q.thresholds ≡ true → IsWhole p → IsIdle p → p.last_moment ≤ m → other_fault p.objects row (text_room p) ≡ None → Turned p mid (with_change folder_of row.folder (λ old. row) p.objects.quotas) (queued p.scans.queue row.folder row.state) → AreCounted mid → Ran mid run m (due_in mid.objects (Some q) (used_in p.usage q.folder) (used_in mid.usage q.folder) mid.run_limit m q.folder) → new ≡ ended run m → answer ≡ record { outcome = Done None; lasting = true } → Does p new m (Quota (QuotaModify given)) answer
  modified_as answer is state_is may w idle after room t counted ran ends e =
      let R = rows_of p in
      let n = q.folder in
      let asc = w.sound.counted.are_quotas.ascending in
      let deed = Quota (QuotaModify given) in
      let quotas = with_change folder_of row.folder (λ old. row) p.objects.quotas in
      let queue = queued p.scans.queue row.folder row.state in
      let folder_is : row.folder ≡ n = ap (λ (r : QuotaRow). r.folder) is in
      let keeps = turned_keeps p mid quotas queue t in
      let accepts = turned_accepts p mid m deed quotas queue idle after
      (modify_due p m given q at state row w may state_is is ∙ ap (option_and_then table_refusal) room)
      (ap (λ k. with_state (record R { quotas = with_change folder_of k change R.quotas }) k (state_after R k given.enabled)) (target_is R.nodes given.path n at.at.resolved)
      ∙ (ap (λ s. with_state (record R { quotas = with_change folder_of n change R.quotas }) n s) (sym state_is)
      ∙ (ap (λ (qs : List QuotaRow). record R { quotas = qs; queue = queued R.queue n state }) (modified_to R n change (λ r. refl) state q asc at.found)
      ∙ ap (λ (r : QuotaRow). record R { quotas = with_change folder_of r.folder (λ old. r) R.quotas; queue = queued R.queue r.folder r.state }) (sym is)))) refl t in
      done_with p mid run new m deed answer _ accepts refl ran
      (sym (due_changed p mid m n q w.sound.counted counted keeps.size (turned_nodes p mid quotas queue t)
      (λ folder off. ap (row_of folder_of folder) (turned_quotas p mid quotas queue t ∙ put_is row p.objects.quotas asc)
      ∙ others_same (put_in row) row.folder p.objects.quotas (λ r. refl) folder (ap (λ k. folder == k) folder_is ∙ off)) at.found)) ends e
