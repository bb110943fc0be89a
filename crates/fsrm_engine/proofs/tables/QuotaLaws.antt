-- What the commands on quotas keep.
use Rattle.std.proofs.Common.{◌≡◌, ℕ, ◌≤◌, ◌==◌, Bool, true, false, cond, not, List, [], ◌∷◌, Some, None, refl, ap, sym, ◌∙◌, subst, arith}
use Rattle.std.proofs.lemmas.Option.{same_Some}
use Rattle.std.specs.Prelude.{is_none, unwrap_or, if◌then◌else◌}
use Rattle.fsrm_model.specs.declared.command.Deed.{Deed}
use Rattle.fsrm_model.specs.declared.command.Outcome.TheVariants.{Done}
use Rattle.fsrm_model.specs.declared.command.Refusal.{Refusal}
use Rattle.fsrm_model.specs.declared.command.Refusal.TheVariants.{PathNotFound, NotFound}
use Rattle.fsrm_model.specs.declared.row.Capacity.{Capacity}
use Rattle.fsrm_model.specs.declared.row.NodeRow.{NodeRow}
use Rattle.fsrm_model.specs.declared.row.QuotaRow.{QuotaRow}
use Rattle.fsrm_model.specs.declared.row.Rows.{Rows}
use Rattle.fsrm_model.specs.commands.Check.{◌when◌, first}
use Rattle.fsrm_model.specs.nodes.FileOps.{target}
use Rattle.fsrm_base.specs.Keyed.{row_of, with_change}
use Rattle.fsrm_model.specs.nodes.Leads.{leads_to_folder}
use Rattle.fsrm_model.specs.values.Limits.{latest_moment}
use Rattle.fsrm_model.specs.objects.Quota.{folder_of, counts, is_limit}
use Rattle.fsrm_model.specs.commands.QuotaWork.{quota_checks, reset}
use Rattle.fsrm_model.specs.objects.QuotaStates.{scan_begun}
use Rattle.fsrm_model.specs.texts.Text.{is_bare}
use Rattle.fsrm_model.specs.objects.Thresholds.{are_thresholds}
use Rattle.fsrm_model.specs.nodes.Tree.{usage}
use Rattle.fsrm_model.specs.store.Valid.{is_moment}
use Rattle.fsrm_model.specs.commands.Work.{asks}
use Rattle.fsrm_base.proofs.Look.{found_key, changed_key}
use Rattle.fsrm_objects.specs.Tables.{Tables, peaked_at}
use Rattle.quota_usage.specs.declared.change.Counter.{Counter}
use Rattle.quota_usage.specs.Counters.{used_in}
use Rattle.fsrm_engine.specs.declared.parts.Parts.{Parts}
use Rattle.fsrm_engine.specs.Machine.{rows_of, IsCounted, IsIdle, AreCounted}
use Rattle.fsrm_parts.specs.Places.{IsQuotaAt}
use Rattle.rescan.specs.Courses.{left}
use Rattle.fsrm_parts.proofs.walks.PlaceLaws.{target_is, leads_to_folder_is}
use Rattle.fsrm_engine.proofs.steps.StepLaws.{Accepts, asked, followed_rows, keeps, same_own, still_idle}
use Rattle.fsrm_base.proofs.RowLaws.{change_same}
use Rattle.fsrm_parts.proofs.tables.SumLaws.{used_found, sums_kept}
use Rattle.fsrm_engine.proofs.tables.CountingLaws.{is_moment_of, counted_changed}

-- of quotas that are made so
pub counted_same : {level : Bool} (K : Capacity) (nodes : List NodeRow) (counters : List Counter) (after set : List QuotaRow) → set ≡ after → IsCounted K nodes after counters level → IsCounted K nodes set counters level
counted_same {level} K nodes counters after set is e = subst (λ (qs : List QuotaRow). IsCounted K nodes qs counters level) (sym is) e

-- then none of the refusals is due that commands on a quota share
pub quota_due : (R : Rows) (path : List (List ℕ)) (quota : QuotaRow) → IsQuotaAt R.nodes R.quotas path quota → first (quota_checks R path) ≡ None
quota_due R path quota o =
    at (leads_to_folder R.nodes path) (is_none (row_of folder_of (target R.nodes path) R.quotas))
    (leads_to_folder_is R.nodes path quota.folder o.at.resolved ∙ o.at.folder)
    (ap (λ k. is_none (row_of folder_of k R.quotas)) (target_is R.nodes path quota.folder o.at.resolved) ∙ ap is_none o.found)
  where
    at : (a b : Bool) → a ≡ true → b ≡ false → first ((PathNotFound when not a) ∷ (NotFound when b) ∷ []) ≡ None
    at true true a b = cc
    at true false a b = refl
    at false b a e = cc

-- and these are by no quota
pub first_bare : (R : Rows) (path : List (List ℕ)) (refusal : Refusal) → first (quota_checks R path) ≡ Some refusal → is_bare refusal ≡ true
first_bare R path refusal h = at (not (leads_to_folder R.nodes path)) (is_none (row_of folder_of (target R.nodes path) R.quotas)) h
  where
    at : (a b : Bool) → first ((PathNotFound when a) ∷ (NotFound when b) ∷ []) ≡ Some refusal → is_bare refusal ≡ true
    at true b h = sym (ap is_bare (same_Some PathNotFound refusal h))
    at false true h = sym (ap is_bare (same_Some NotFound refusal h))
    at false false h = cc h

-- A command that changes the quota of a folder, and nothing else: what it does, by the row that the change makes of it
pub changed_as : (p : Parts) (m : ℕ) (quota : QuotaRow) (deed : Deed) (path : List (List ℕ)) (c : QuotaRow → QuotaRow) (tables : Tables) → IsIdle p → p.last_moment ≤ m → IsQuotaAt p.tree.nodes p.objects.quotas path quota → asked p m deed ≡ asks (quota_checks (rows_of p) path) (record (rows_of p) { quotas = with_change folder_of (target p.tree.nodes path) c p.objects.quotas }) (Done None) true → tables ≡ record p.objects { quotas = with_change folder_of quota.folder c p.objects.quotas } → Accepts p (record p { objects = tables }) m deed
changed_as p m quota deed path c tables idle after on is set =
    let R = rows_of p in
    let mid : Parts = record p { objects = tables } in
    let kept = keeps p p.tree tables p.usage p.scans p.level refl in
    record {
      quotas = tables.quotas;
      after = after;
      none = ap (λ w. first w.checks) is ∙ quota_due R path quota on;
      lasts = ap (λ w. w.lasts) is;
      size = refl;
      idle = still_idle p mid kept idle;
      made = followed_rows p mid (asked p m deed).effect tables.quotas p.scans.queue R.unvisited kept
          (ap (λ w. w.effect) is
          ∙ (ap (λ k. record R { quotas = with_change folder_of k c p.objects.quotas }) (target_is R.nodes path quota.folder on.at.resolved)
          ∙ ap (λ (t : Tables). record R { quotas = t.quotas; screens = t.screens; excepts = t.excepts; jobs = t.jobs }) (sym set)))
          refl (sym (ap (λ b. if b then left p.tree.nodes p.scans else scan_begun p.tree.nodes p.scans.queue) (same_own p.scans.queue)));
      raised = refl;
    }

-- its counters stay, if the quota counts as before
pub counted_kept : (p : Parts) (n : ℕ) (c : QuotaRow → QuotaRow) → AreCounted p → ((r : QuotaRow) → (c r).folder ≡ r.folder) → ((r : QuotaRow) → counts (c r) ≡ counts r) → ((r : QuotaRow) → row_of folder_of n p.objects.quotas ≡ Some r → is_limit (c r).limit ≡ true) → ((r : QuotaRow) → row_of folder_of n p.objects.quotas ≡ Some r → are_thresholds (c r).thresholds ≡ true) → ((r : QuotaRow) → row_of folder_of n p.objects.quotas ≡ Some r → is_moment (c r).peak_at ≡ true) → (p.level ≡ true → (r : QuotaRow) → row_of folder_of n p.objects.quotas ≡ Some r → counts (c r) ≡ true → usage p.tree.size p.tree.nodes n ≤ (c r).peak) → IsCounted p.tree.size p.tree.nodes (with_change folder_of n c p.objects.quotas) p.usage p.level
counted_kept p n c e folder counting limit thresholds moment peak =
    let K = p.tree.size in
    let nodes = p.tree.nodes in
    counted_changed K nodes p.objects.quotas p.usage p.usage n c e folder limit thresholds moment peak
    (e.sums
    ∙ sym (sums_kept K nodes (λ r. if folder_of r == n then c r else r) (λ r. changed_key folder_of n c folder (folder_of r == n) r) (λ r. same (folder_of r == n) r) p.objects.quotas))
  where
    same : (b : Bool) (r : QuotaRow) → counts (cond b (c r) r) ≡ counts r
    same true r = counting r
    same false r = refl

-- with the peak that is used now
pub counted_reset : (p : Parts) (m n : ℕ) → AreCounted p → m ≤ latest_moment → IsCounted p.tree.size p.tree.nodes (with_change folder_of n (reset p.tree.size (rows_of p) m) p.objects.quotas) p.usage p.level
counted_reset p m n e late =
    counted_kept p n c e (λ r. refl) (λ r. refl) (λ r found. e.are_quotas.limits n r found) (λ r found. e.are_quotas.thresholds n r found) (λ r found. is_moment_of m late)
    (λ l r found t. subst (λ k. usage K nodes k ≤ (c r).peak) (found_key folder_of n p.objects.quotas r found) (at r (counts r) t))
  where
    K : Capacity
    K = p.tree.size

    nodes : List NodeRow
    nodes = p.tree.nodes

    c : QuotaRow → QuotaRow
    c = reset K (rows_of p) m

    at : (r : QuotaRow) (b : Bool) → b ≡ true → usage K nodes r.folder ≤ cond b (usage K nodes r.folder) 0
    at r true h = omega arith
    at r false h = cc

-- what is written is what is due
pub reset_is : (p : Parts) (m n used : ℕ) → AreCounted p → used ≡ unwrap_or (used_in p.usage n) 0 → with_change folder_of n (peaked_at used m) p.objects.quotas ≡ with_change folder_of n (reset p.tree.size (rows_of p) m) p.objects.quotas
reset_is p m n used e h =
    let K = p.tree.size in
    let nodes = p.tree.nodes in
    let quotas = p.objects.quotas in
    change_same folder_of n (peaked_at used m) (reset K (rows_of p) m) quotas e.are_quotas.ascending (λ r found.
    ap (λ k. record r { peak = k; peak_at = m })
    (h ∙ (ap (λ cs. unwrap_or (used_in cs n) 0) e.sums ∙ (ap (λ o. unwrap_or o 0) (used_found K nodes quotas n r e.are_quotas.ascending found) ∙ at (counts r) (usage K nodes r.folder)))))
  where
    at : (b : Bool) (u : ℕ) → unwrap_or (cond b (Some u) None) 0 ≡ cond b u 0
    at true u = refl
    at false u = refl

-- all but its peak stays
module _ (p : Parts) (m : ℕ) where
  pub reset_folder : (b : Bool) (q : QuotaRow) → (cond b (reset p.tree.size (rows_of p) m q) q).folder ≡ q.folder
  reset_folder true q = refl
  reset_folder false q = refl

  pub reset_limit : (b : Bool) (q : QuotaRow) → (cond b (reset p.tree.size (rows_of p) m q) q).limit ≡ q.limit
  reset_limit true q = refl
  reset_limit false q = refl

  pub reset_thresholds : (b : Bool) (q : QuotaRow) → (cond b (reset p.tree.size (rows_of p) m q) q).thresholds ≡ q.thresholds
  reset_thresholds true q = refl
  reset_thresholds false q = refl
