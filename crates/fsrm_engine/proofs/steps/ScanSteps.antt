-- Steps of the active scan.
use Rattle.std.proofs.Common.{◌≡◌, ℕ, ◌≤◌, ◌==◌, ◌-◌, Bool, true, false, List, [], ◌∷◌, length, Option, Some, None, refl, ap, sym, ◌∙◌, subst}
use Rattle.std.specs.Prelude.{is_some, map, unwrap_or, if◌then◌else◌}
use Rattle.fsrm_model.specs.declared.command.Deed.TheVariants.{Step}
use Rattle.fsrm_model.specs.declared.command.Outcome.TheVariants.{Scanned}
use Rattle.fsrm_model.specs.declared.command.Refusal.TheVariants.{NothingToScan}
use Rattle.fsrm_model.specs.declared.row.Capacity.{Capacity}
use Rattle.fsrm_model.specs.declared.row.NodeRow.{NodeRow}
use Rattle.fsrm_model.specs.declared.row.QuotaRow.{QuotaRow}
use Rattle.fsrm_model.specs.declared.row.QuotaState.{QuotaState}
use Rattle.fsrm_model.specs.declared.row.QuotaState.TheVariants.{Complete, Disabled, Rebuilding, Incomplete}
use Rattle.fsrm_model.specs.declared.row.Rows.{Rows}
use Rattle.fsrm_model.specs.commands.Check.{◌when◌, first}
use Rattle.fsrm_base.specs.Keyed.{has_row, row_of}
use Rattle.fsrm_base.specs.Numbers.{without_number}
use Rattle.fsrm_model.specs.objects.Quota.{folder_of, counts, is_complete, peaked}
use Rattle.fsrm_model.specs.objects.QuotaStates.{followed, is_rebuilding, in_state, queued, head, same_head, scan_begun, with_state}
use Rattle.fsrm_model.specs.store.Replays.{completed}
use Rattle.fsrm_model.specs.objects.Scan.{visits}
use Rattle.fsrm_model.specs.commands.ScanWork.{step_work}
use Rattle.fsrm_model.specs.nodes.Tree.{usage}
use Rattle.fsrm_model.specs.store.ValidScans.{IsQueue}
use Rattle.fsrm_base.proofs.TestLaws.{suc_apart}
use Rattle.fsrm_objects.specs.Tables.{Tables}
use Rattle.quota_usage.specs.Counters.{used_in}
use Rattle.rescan.specs.Courses.{Course, Scanning, left}
use Rattle.thresholds.specs.Settled.{due_in}
use Rattle.fsrm_model.proofs.valid.RowsKept.{head_in}
use Rattle.fsrm_engine.specs.declared.parts.Parts.{Parts}
use Rattle.fsrm_engine.specs.Due.{Finishes, with_complete}
use Rattle.fsrm_engine.specs.Machine.{AreCounted, Does, IsIdle, IsReady, IsSound, IsWhole, rows_of}
use Rattle.fsrm_parts.specs.Peaks.{raised}
use Rattle.fsrm_engine.proofs.settling.ChangedDue.{due_begun}
use Rattle.fsrm_engine.proofs.settling.EndLaws.{due_of}
use Rattle.fsrm_engine.proofs.settling.TurnedCalm.{others_same}
use Rattle.fsrm_engine.proofs.steps.StepLaws.{Accepts, Ends, done_with, ends_with, passing_as, same_own}
use Rattle.fsrm_parts.proofs.tables.RaiseLaws.{raised_keeps}
use Rattle.fsrm_engine.proofs.tables.RanLaws.{sound_run}

-- a quota that is rebuilding doesn't count
rebuilding_counts : (state : QuotaState) → is_rebuilding state ≡ true → is_complete state ≡ false
rebuilding_counts Complete h = cc
rebuilding_counts Disabled h = cc
rebuilding_counts Rebuilding h = refl
rebuilding_counts Incomplete h = cc

pub head_quota : (quotas : List QuotaRow) (queue : List ℕ) (n : ℕ) → IsQueue quotas queue → head queue ≡ Some n → has_row folder_of n quotas ≡ true
head_quota quotas queue n k h = k.queued n (head_in queue n h)

pub head_uncounted : (quotas : List QuotaRow) (queue : List ℕ) (n : ℕ) (q : QuotaRow) → IsQueue quotas queue → head queue ≡ Some n → row_of folder_of n quotas ≡ Some q → counts q ≡ false
head_uncounted quotas queue n q k h found = rebuilding_counts q.state (sym (k.rebuilding n q found) ∙ head_in queue n h)

-- the queue after a scan that is finished
pub next_queue : (s t : Course) (n : ℕ) → head s.queue ≡ Some n → t.queue ≡ without_number (unwrap_or (head s.queue) 0) s.queue → t.queue ≡ queued s.queue n Complete
next_queue s t n h is = is ∙ ap (λ o. without_number (unwrap_or o 0) s.queue) h

-- Where a scan is active there is something to scan
head_some : (queue : List ℕ) (n : ℕ) → head queue ≡ Some n → (length queue == 0) ≡ false
head_some [] n h = cc
head_some (k ∷ queue) n h = suc_apart (length queue)

-- what is left, and the rows and the number of visits then
abbrev pub left_after : Rows → ℕ → List ℕ
left_after R k = visits k R.nodes R.unvisited

abbrev pub visited_rows : Rows → ℕ → Rows
visited_rows R k = record R { unvisited = left_after R k }

-- what is known of parts whose scans alone have gone on
pub record VisitedLeft (p mid : Parts) (k : ℕ) : Type 0 where
  pub rows : rows_of (record p { scans = mid.scans }) ≡ visited_rows (rows_of p) k
  pub count : length (rows_of p).unvisited - length (rows_of mid).unvisited ≡ length (rows_of p).unvisited - length (left p.tree.nodes mid.scans)
  pub done : (n : ℕ) (ends : Bool) → IsSound mid → head p.scans.queue ≡ Some n → (Scanning mid.tree mid.scans → is_some (head mid.scans.queue) ≡ true → ends ≡ (length (left mid.tree.nodes mid.scans) == 0)) → ends ≡ (length (left p.tree.nodes mid.scans) == 0)
  pub used : (n : ℕ) → usage mid.tree.size mid.tree.nodes n ≡ usage p.tree.size p.tree.nodes n

pub visited_left : (p mid : Parts) (k : ℕ) → mid ≡ record p { scans = mid.scans } → rows_of mid ≡ record (rows_of p) { unvisited = visits k (rows_of p).nodes (rows_of p).unvisited } → VisitedLeft p mid k
visited_left p mid k kept left_is =
    record {
      rows = sym (ap rows_of kept) ∙ left_is;
      count = ap (λ (q : Parts). length (rows_of p).unvisited - length (left q.tree.nodes mid.scans)) kept;
      done = λ n ends sound h told.
          told sound.scanning (ap (λ (R : Rows). is_some (head R.queue)) left_is ∙ ap is_some h)
          ∙ ap (λ (q : Parts). length (left q.tree.nodes mid.scans) == 0) kept;
      used = λ n. ap (λ (q : Parts). usage q.tree.size q.tree.nodes n) kept;
    }

pub visited_ready : (p mid : Parts) (m : ℕ) → mid ≡ record p { scans = mid.scans } → IsReady p m → IsWhole mid → IsReady mid m
visited_ready p mid m kept ready whole =
    record {
      whole = whole;
      idle = subst IsIdle (sym kept) (record { numbers = ready.idle.numbers; places = ready.idle.places; crossing = ready.idle.crossing });
      in_range = ready.in_range;
      after = subst (λ (q : Parts). q.last_moment ≤ m) (sym kept) ready.after;
    }

step_checks : (R : Rows) (n : ℕ) → head R.queue ≡ Some n → first ((NothingToScan when (length R.queue == 0)) ∷ []) ≡ None
step_checks R n h = ap (λ b. first ((NothingToScan when b) ∷ [])) (head_some R.queue n h)

-- and where none is, there is nothing
pub none_checks : (queue : List ℕ) → head queue ≡ None → first ((NothingToScan when (length queue == 0)) ∷ []) ≡ Some NothingToScan
none_checks [] h = refl
none_checks (n ∷ queue) h = cc h

count_is : (p : Parts) (s : Course) (k count : ℕ) → rows_of (record p { scans = s }) ≡ visited_rows (rows_of p) k → count ≡ length (rows_of p).unvisited - length (left p.tree.nodes s) → length (rows_of p).unvisited - length (left_after (rows_of p) k) ≡ count
count_is p s k count is h = sym (h ∙ ap (λ (R : Rows). length (rows_of p).unvisited - length R.unvisited) is)

scanned_is : (K : Capacity) (R : Rows) (k n count : ℕ) (used : Option ℕ) (b : Bool) → head R.queue ≡ Some n → (length (left_after R k) == 0) ≡ b → length R.unvisited - length (left_after R k) ≡ count → (if b then Some (usage K R.nodes n) else None) ≡ used → (step_work K R k).outcome ≡ Scanned n count used
scanned_is K R k n count used b h e c d =
    ap (λ o. Scanned (unwrap_or o 0) (length R.unvisited - length (left_after R k)) (if length (left_after R k) == 0 then Some (usage K R.nodes (unwrap_or o 0)) else None)) h
    ∙ (ap (λ x. Scanned n (length R.unvisited - length (left_after R k)) (if x then Some (usage K R.nodes n) else None)) e
    ∙ (ap (λ x. Scanned n x (if b then Some (usage K R.nodes n) else None)) c ∙ ap (λ x. Scanned n count x) d))

-- the answer to a step with folders left
pub step_passing : (p : Parts) (s : Course) (k m n count : ℕ) → IsIdle p → p.last_moment ≤ m → head p.scans.queue ≡ Some n → rows_of (record p { scans = s }) ≡ visited_rows (rows_of p) k → count ≡ length (rows_of p).unvisited - length (left p.tree.nodes s) → (length (left p.tree.nodes s) == 0) ≡ false → Does p (record p { scans = s }) m (Step k) (record { outcome = Scanned n count None; lasting = false })
step_passing p s k m n count idle after h is c more =
    let R = rows_of p in
    let ends : (length (left_after R k) == 0) ≡ false = sym (ap (λ (R : Rows). length R.unvisited == 0) is) ∙ more in
    passing_as p (record p { scans = s }) m (Step k) (record { outcome = Scanned n count None; lasting = false }) (visited_rows R k)
    (record { numbers = idle.numbers; places = idle.places; crossing = idle.crossing }) after (step_checks R n h)
    (ap (λ b. if b then with_state (visited_rows R k) (unwrap_or (head R.queue) 0) Complete else visited_rows R k) ends) ends refl
    (is ∙ sym (ap (λ b. record R { unvisited = if b then left_after R k else scan_begun R.nodes R.queue }) (same_own R.queue)))
    (ap (λ o. record { outcome = o; lasting = false }) (sym (scanned_is p.tree.size R k n count None false h ends (count_is p s k count is c) refl)))

-- ---- a step that finishes the scan
module _ (p new : Parts) (s : Course) (m n : ℕ) (f : Finishes (record p { scans = s }) new n m) where
  abbrev counting : Parts
  counting = f.completes.counting

  abbrev complete : List QuotaRow
  complete = with_complete n p.objects.quotas

  -- the rows that it makes, but for peaks
  finished_rows : record (rows_of counting) { quotas = complete } ≡ followed (rows_of (record p { scans = s })) (with_state (rows_of (record p { scans = s })) n Complete)
  finished_rows =
      let of : List ℕ → List ℕ → Rows = λ queue unvisited. record (rows_of p) { quotas = complete; queue = queue; unvisited = unvisited } in
      ap (λ (q : Parts). record (rows_of q) { quotas = complete }) f.completes.parts_are
      ∙ (ap (λ (t : Tables). record (of f.scans.queue (left p.tree.nodes f.scans)) { screens = t.screens; excepts = t.excepts; jobs = t.jobs }) f.completes.objects_are
      ∙ (ap (of f.scans.queue) f.turns.left_is
      ∙ ap (λ q. of q (if same_head s.queue q then left p.tree.nodes s else scan_begun p.tree.nodes q)) f.queue_is))

  others : (folder : ℕ) → (folder == n) ≡ false → row_of folder_of folder counting.objects.quotas ≡ row_of folder_of folder p.objects.quotas
  others folder e =
      ap (λ (t : Tables). row_of folder_of folder t.quotas) f.completes.objects_are
      ∙ (others_same (raised counting.usage m) n complete (raised_keeps counting.usage m) folder e ∙ others_same (in_state Complete) n p.objects.quotas (λ r. refl) folder e)

  finished_raised : map (peaked p.tree.size counting.tree.nodes m) counting.objects.quotas ≡ map (peaked p.tree.size counting.tree.nodes m) complete
  finished_raised =
      ap (λ (ns : List NodeRow). map (peaked p.tree.size ns m) counting.objects.quotas) (ap (λ (q : Parts). q.tree.nodes) f.completes.parts_are)
      ∙ (f.completes.peaks_are ∙ ap (λ (ns : List NodeRow). map (peaked p.tree.size ns m) complete) (sym (ap (λ (q : Parts). q.tree.nodes) f.completes.parts_are)))

  finished_idle : IsIdle p → IsIdle counting
  finished_idle idle =
      record {
        numbers = ap (λ (q : Parts). q.marks.numbers) f.completes.parts_are ∙ idle.numbers;
        places = ap (λ (q : Parts). q.marks.places) f.completes.parts_are ∙ idle.places;
        crossing = ap (λ (q : Parts). q.crossing) f.completes.parts_are ∙ idle.crossing;
      }

  pub finished_due : (old : QuotaRow) → row_of folder_of n p.objects.quotas ≡ Some old → counts old ≡ false → due_in counting.objects None None (used_in counting.usage n) p.run_limit m n ≡ due_of p counting m
  finished_due old found uncounted =
      ap (λ limit. due_in counting.objects None None (used_in counting.usage n) limit m n) (sym (ap (λ (q : Parts). q.run_limit) f.completes.parts_are))
      ∙ sym (due_begun p counting m n old f.completes.counted (ap (λ (q : Parts). q.tree.size) f.completes.parts_are) (ap (λ (q : Parts). q.tree.nodes) f.completes.parts_are) others found uncounted)

  pub finished_accepts : (k : ℕ) → IsIdle p → p.last_moment ≤ m → head p.scans.queue ≡ Some n → rows_of (record p { scans = s }) ≡ visited_rows (rows_of p) k → (length (left_after (rows_of p) k) == 0) ≡ true → Accepts p counting m (Step k)
  finished_accepts k idle after h is ends =
      let R = rows_of p in
      record {
        quotas = complete;
        after = after;
        none = step_checks R n h;
        lasts = ends;
        size = ap (λ (q : Parts). q.tree.size) f.completes.parts_are;
        idle = finished_idle idle;
        made =
            ap (followed R) (ap (λ b. if b then with_state (visited_rows R k) (unwrap_or (head R.queue) 0) Complete else visited_rows R k) ends ∙ ap (λ o. with_state (visited_rows R k) (unwrap_or o 0) Complete) h)
            ∙ (ap (λ (S : Rows). followed S (with_state S n Complete)) (sym is) ∙ sym finished_rows);
        raised = finished_raised;
      }

pub step_ending : (p new : Parts) (s : Course) (k m n count used : ℕ) (old : QuotaRow) → Finishes (record p { scans = s }) new n m → IsIdle p → p.last_moment ≤ m → head p.scans.queue ≡ Some n → row_of folder_of n p.objects.quotas ≡ Some old → counts old ≡ false → rows_of (record p { scans = s }) ≡ visited_rows (rows_of p) k → count ≡ length (rows_of p).unvisited - length (left p.tree.nodes s) → (length (left p.tree.nodes s) == 0) ≡ true → used ≡ usage p.tree.size p.tree.nodes n → Does p new m (Step k) (record { outcome = Scanned n count (Some used); lasting = true })
step_ending p new s k m n count used old f idle after h found uncounted is c none u =
    let R = rows_of p in
    let ends : (length (left_after R k) == 0) ≡ true = sym (ap (λ (R : Rows). length R.unvisited == 0) is) ∙ none in
    done_with p f.completes.counting f.completes.run new m (Step k) (record { outcome = Scanned n count (Some used); lasting = true }) _
    (finished_accepts p new s m n f k idle after h is ends) refl f.completes.ran (finished_due p new s m n f old found uncounted) f.completes.ends
    (ap (λ o. record { outcome = o; lasting = true }) (sym (scanned_is p.tree.size R k n count (Some used) true h ends (count_is p s k count is c) (ap Some (sym u)))))

-- the parts are sound after it
pub finished_sound : (old new : Parts) (n m : ℕ) → Finishes old new n m → AreCounted new → IsSound new
finished_sound old new n m f counted =
    sound_run f.completes.counting f.completes.run new m _ f.completes.ran f.completes.ends counted
    (subst (λ (q : Parts). Scanning q.tree q.scans) (sym f.completes.parts_are) f.turns.scanning)

-- a scan that a journal tells to finish
pub finish_ends : (p new : Parts) (m n : ℕ) (old : QuotaRow) → Finishes p new n m → IsIdle p → row_of folder_of n p.objects.quotas ≡ Some old → counts old ≡ false → Ends p new (completed p.tree.size (rows_of p) m n)
finish_ends p new m n old f idle found uncounted =
    let mid = f.completes.counting in
    let complete : List QuotaRow = with_complete n p.objects.quotas in
    ends_with p mid f.completes.run new m (followed (rows_of p) (with_state (rows_of p) n Complete)) complete _
    (ap (λ (q : Parts). q.tree.size) f.completes.parts_are)
    (finished_idle p new p.scans m n f idle)
    (sym (finished_rows p new p.scans m n f)) (finished_raised p new p.scans m n f)
    f.completes.ran (finished_due p new p.scans m n f old found uncounted) f.completes.ends
