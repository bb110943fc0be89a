-- What a scan has counted, as a sum over the nodes.
use Rattle.std.proofs.Common.{◌≡◌, ℕ, Bool, true, cond, not, ◌&&◌, List, ◌∙◌, ap}
use Rattle.std.specs.Prelude.{sum_by, if◌then◌else◌}
use Rattle.fsrm_model.specs.declared.row.Capacity.{Capacity}
use Rattle.fsrm_model.specs.declared.row.NodeRow.{NodeRow}
use Rattle.fsrm_base.specs.Numbers.{is_in}
use Rattle.fsrm_model.specs.objects.Scan.{counted}
use Rattle.fsrm_model.specs.values.Space.{space}
use Rattle.fsrm_model.specs.nodes.Tree.{number, is_folder, is_under}
use Rattle.fsrm_model.specs.store.Valid.{IsVolume}
use Rattle.fsrm_base.proofs.EditedRows.{sum_by-filter, sum_by_same}
use Rattle.rescan.specs.Frontiers.{Front, scanned, has_above, unvisited}
use Rattle.rescan.proofs.unvisited.Tops.{in_unvisited}
use Rattle.fsrm_base.proofs.RowLaws.{each_found}

-- whether the files in a folder are counted: it is at or below the scanned one, and at or below no unvisited one
abbrev pub is_counted : List NodeRow → Front → ℕ → Bool
is_counted nodes f n = is_under nodes (scanned f) n && not (has_above nodes f.tops n)

-- what a node adds to the sum
abbrev pub part : Capacity → List NodeRow → Front → NodeRow → ℕ
part K nodes f row = if is_counted nodes f row.parent then space K row else 0

-- rows that ascend are each found by their own numbers

-- what is counted is the sum of the parts
pub counted_is : (K : Capacity) (nodes : List NodeRow) → IsVolume K nodes → (f : Front) → counted K nodes (scanned f) (unvisited nodes f) ≡ sum_by (part K nodes f) nodes
counted_is K nodes v f =
    let test : NodeRow → Bool = λ r. is_under nodes (scanned f) r.parent && not (is_in (unvisited nodes f) r.parent) in
    sum_by-filter test (space K) nodes
    ∙ sum_by_same (λ r. if test r then space K r else 0) (part K nodes f) nodes
    (each_found number (λ r. (if test r then space K r else 0) ≡ part K nodes f r) nodes v.ascending (λ r own.
    let up : is_folder nodes r.parent ≡ true = v.up (number r) r own in
    ap (λ b. cond (is_under nodes (scanned f) r.parent && not b) (space K r) 0) (in_unvisited K nodes v f r.parent ∙ ap (λ b. b && has_above nodes f.tops r.parent) up)))
