-- The queue of scans after a command that gives a quota its state.
use Rattle.std.proofs.Common.{◌≡◌, ℕ, ◌≤◌, true, List, None, refl, ap, sym, ◌∙◌, subst}
use Rattle.std.specs.Prelude.{if◌then◌else◌}
use Rattle.fsrm_model.specs.declared.command.Deed.{Deed}
use Rattle.fsrm_model.specs.declared.row.QuotaRow.{QuotaRow}
use Rattle.fsrm_model.specs.declared.row.Rows.{Rows}
use Rattle.fsrm_model.specs.objects.QuotaStates.{same_head, scan_begun, followed}
use Rattle.rescan.specs.Courses.{Course, Scanning, Turns}
use Rattle.volume_tree.specs.Volume.{Volume}
use Rattle.fsrm_engine.specs.declared.parts.Parts.{Parts}
use Rattle.fsrm_engine.specs.Machine.{IsIdle, IsSound, AreCounted, Turned, rows_of, recounted}
use Rattle.fsrm_engine.proofs.steps.StepLaws.{Accepts, Keeps, asked, due, still_idle}

-- parts with other quotas and another queue
pub turned : (p new : Parts) (t : Course) (quotas : List QuotaRow) (queue : List ℕ) → new ≡ recounted (record p { scans = t }) quotas → Turns p.scans t p.tree → t.queue ≡ queue → Turned p new quotas queue
turned p new t quotas queue made turns is =
    let same : new.scans ≡ t = ap (λ (q : Parts). q.scans) made in
    record {
      parts_are = made ∙ ap (λ (s : Course). recounted (record p { scans = s }) quotas) (sym same);
      queue_is = ap (λ (s : Course). s.queue) same ∙ is;
      turns = subst (λ (s : Course). Turns p.scans s p.tree) (sym same) turns;
    }

-- their rows
pub turned_rows : (p new : Parts) (quotas : List QuotaRow) (queue : List ℕ) → Turned p new quotas queue → rows_of new ≡ followed (rows_of p) (record (rows_of p) { quotas = quotas; queue = queue })
turned_rows p new quotas queue t =
    let R = rows_of p in
    let of : List ℕ → List ℕ → Rows = λ q u. record R { quotas = quotas; queue = q; unvisited = u } in
    ap rows_of t.parts_are
    ∙ (ap (of new.scans.queue) t.turns.left_is
    ∙ ap (λ q. of q (if same_head R.queue q then R.unvisited else scan_begun R.nodes q)) t.queue_is)

-- all else of them stays
pub turned_keeps : (p new : Parts) (quotas : List QuotaRow) (queue : List ℕ) → Turned p new quotas queue → Keeps p new
turned_keeps p new quotas queue t =
    record {
      size = ap (λ (q : Parts). q.tree.size) t.parts_are;
      marks = ap (λ (q : Parts). q.marks) t.parts_are;
      crossing = ap (λ (q : Parts). q.crossing) t.parts_are;
      groups = ap (λ (q : Parts). q.groups) t.parts_are;
      templates = ap (λ (q : Parts). q.templates) t.parts_are;
      audit = ap (λ (q : Parts). q.audit) t.parts_are;
      run_limit = ap (λ (q : Parts). q.run_limit) t.parts_are;
      last_moment = ap (λ (q : Parts). q.last_moment) t.parts_are;
    }

-- a command that turns them so is taken, if no check refuses it
pub turned_accepts : (p new : Parts) (m : ℕ) (deed : Deed) (quotas : List QuotaRow) (queue : List ℕ) → IsIdle p → p.last_moment ≤ m → due p m deed ≡ None → (asked p m deed).effect ≡ record (rows_of p) { quotas = quotas; queue = queue } → (asked p m deed).lasts ≡ true → Turned p new quotas queue → Accepts p new m deed
turned_accepts p new m deed quotas queue idle after none made lasts t =
    record {
      quotas = new.objects.quotas;
      after = after;
      none = none;
      lasts = lasts;
      size = ap (λ (q : Parts). q.tree.size) t.parts_are;
      idle = still_idle p new (turned_keeps p new quotas queue t) idle;
      made = ap (followed (rows_of p)) made ∙ sym (turned_rows p new quotas queue t);
      raised = refl;
    }

-- they are sound
pub turned_sound : (p new : Parts) (t : Course) (quotas : List QuotaRow) → new ≡ recounted (record p { scans = t }) quotas → AreCounted new → Turns p.scans t p.tree → IsSound new
turned_sound p new t quotas made counted turns =
    record { counted = counted; scanning = subst (λ (q : Parts). Scanning q.tree q.scans) (sym made) turns.scanning }

-- scans that turn from where they were
pub turned_from : (s r t : Course) (v : Volume) → s ≡ r → (Scanning v s → Turns s t v) → Scanning v r → Turns r t v
turned_from s r t v same turns scanning = subst (λ x. Turns x t v) same (turns (subst (Scanning v) (sym same) scanning))
