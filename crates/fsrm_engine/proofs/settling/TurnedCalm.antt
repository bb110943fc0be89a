-- Quotas that come, go, or count no longer: no act is due.
use Rattle.std.proofs.Common.{◌≡◌, ℕ, ◌==◌, true, false, cond, List, [], Option, Some, None, refl, ap, sym, ◌∙◌, subst}
use Rattle.std.specs.Prelude.{option_map, if◌then◌else◌}
use Rattle.fsrm_base.specs.Keyed.{row_of, has_row, with_row, with_change, without_row}
use Rattle.fsrm_base.proofs.EditedRows.{find-with_row_same}
use Rattle.fsrm_base.proofs.Look.{changed_found, found_has, found_key, has_row-without, row_of-change, row_of-new_other, row_of-without}
use Rattle.fsrm_base.proofs.TestLaws.{clash, eq_same}
use Rattle.fsrm_model.specs.declared.row.NodeRow.{NodeRow}
use Rattle.fsrm_model.specs.declared.row.QuotaRow.{QuotaRow}
use Rattle.fsrm_model.specs.declared.row.QuotaState.TheVariants.{Rebuilding}
use Rattle.fsrm_model.specs.objects.Quota.{folder_of, counts, is_limit}
use Rattle.fsrm_model.specs.objects.QuotaStates.{in_state}
use Rattle.fsrm_model.specs.objects.Thresholds.{are_thresholds}
use Rattle.fsrm_model.specs.nodes.Tree.{usage}
use Rattle.fsrm_engine.specs.declared.parts.Parts.{Parts}
use Rattle.fsrm_engine.specs.Machine.{Turned, rows_of}
use Rattle.fsrm_engine.proofs.settling.CalmLaws.{calm_but, uncounted_reached, unused_reached}
use Rattle.fsrm_engine.proofs.settling.EndLaws.{due_of}

-- ---- what parts are that turned
pub turned_nodes : (p mid : Parts) (quotas : List QuotaRow) (queue : List ℕ) → Turned p mid quotas queue → mid.tree.nodes ≡ p.tree.nodes
turned_nodes p mid quotas queue t = ap (λ (q : Parts). q.tree.nodes) t.parts_are

pub turned_quotas : (p mid : Parts) (quotas : List QuotaRow) (queue : List ℕ) → Turned p mid quotas queue → mid.objects.quotas ≡ quotas
turned_quotas p mid quotas queue t = ap (λ (q : Parts). q.objects.quotas) t.parts_are

-- the quotas of other folders stay
pub others_same : (c : QuotaRow → QuotaRow) (n : ℕ) (quotas : List QuotaRow) → ((r : QuotaRow) → (c r).folder ≡ r.folder) → (folder : ℕ) → (folder == n) ≡ false → row_of folder_of folder (with_change folder_of n c quotas) ≡ row_of folder_of folder quotas
others_same c n quotas keeps folder e = row_of-change folder_of n c keeps folder quotas ∙ at (row_of folder_of folder quotas) refl
  where
    at : (o : Option QuotaRow) → row_of folder_of folder quotas ≡ o → option_map (λ (r : QuotaRow). if folder_of r == n then c r else r) o ≡ o
    at None h = refl
    at (Some r) h = ap (λ b. Some (cond b (c r) r)) (ap (λ k. k == n) (found_key folder_of folder quotas r h) ∙ e)

-- ---- a quota goes
pub calm_deleted : (p mid : Parts) (m n : ℕ) (queue : List ℕ) → Turned p mid (without_row folder_of n p.objects.quotas) queue → due_of p mid m ≡ []
calm_deleted p mid m n queue t =
    let after = without_row folder_of n p.objects.quotas in
    let quotas = turned_quotas p mid after queue t in
    calm_but p mid m n (turned_nodes p mid after queue t)
    (λ folder e. ap (row_of folder_of folder) quotas ∙ row_of-without folder_of n folder p.objects.quotas e)
    (λ percent is. clash (has_row folder_of n after) (found_has folder_of n after is.quota (sym (ap (row_of folder_of n) quotas) ∙ is.is_there)) (has_row-without folder_of n p.objects.quotas))

-- a quota is to be scanned
pub calm_scanned : (p mid : Parts) (m n : ℕ) (queue : List ℕ) → Turned p mid (with_change folder_of n (in_state Rebuilding) p.objects.quotas) queue → due_of p mid m ≡ []
calm_scanned p mid m n queue t =
    calm_but p mid m n (turned_nodes p mid after queue t)
    (λ folder e. ap (row_of folder_of folder) quotas ∙ others_same (in_state Rebuilding) n p.objects.quotas (λ r. refl) folder e)
    (λ percent is. uncounted_reached p.tree.size (rows_of mid) n percent off is)
  where
    after : List QuotaRow
    after = with_change folder_of n (in_state Rebuilding) p.objects.quotas

    quotas : mid.objects.quotas ≡ after
    quotas = turned_quotas p mid after queue t

    off : (q : QuotaRow) → row_of folder_of n mid.objects.quotas ≡ Some q → counts q ≡ false
    off q found =
        let w = changed_found folder_of n (in_state Rebuilding) (λ r. refl) n p.objects.quotas q (sym (ap (row_of folder_of n) quotas) ∙ found) in
        ap counts w.is ∙ ap (λ b. counts (cond b (in_state Rebuilding w.row) w.row)) (eq_same n)

-- a quota comes, and if it counts nothing is used
pub calm_added : (p mid : Parts) (m : ℕ) (row : QuotaRow) (queue : List ℕ) → Turned p mid (with_row folder_of row p.objects.quotas) queue → has_row folder_of row.folder p.objects.quotas ≡ false → are_thresholds row.thresholds ≡ true → is_limit row.limit ≡ true → (counts row ≡ true → usage p.tree.size p.tree.nodes row.folder ≡ 0) → due_of p mid m ≡ []
calm_added p mid m row queue t absent thresholds limit nothing =
    let after = with_row folder_of row p.objects.quotas in
    let quotas = turned_quotas p mid after queue t in
    let nodes = turned_nodes p mid after queue t in
    calm_but p mid m row.folder nodes
    (λ folder e. ap (row_of folder_of folder) quotas ∙ row_of-new_other folder_of row folder p.objects.quotas e)
    (λ percent is. unused_reached p.tree.size (rows_of mid) row.folder percent row
    (ap (row_of folder_of row.folder) quotas ∙ find-with_row_same folder_of (λ q. folder_of q == row.folder) row p.objects.quotas (eq_same row.folder) absent)
    thresholds limit (λ c. subst (λ (ns : List NodeRow). usage p.tree.size ns row.folder ≡ 0) (sym nodes) (nothing c)) is)
