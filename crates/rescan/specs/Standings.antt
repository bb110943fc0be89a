-- Where a node stands in a scan, and what a move makes of that.
use Rattle.std.specs.Prelude.{◌≡◌, ℕ, List, if◌then◌else◌}
use Rattle.fsrm_model.specs.declared.row.Capacity.{Capacity}
use Rattle.fsrm_model.specs.declared.row.NodeRow.{NodeRow}
use Rattle.fsrm_base.specs.Numbers.{with_number, without_number}
use Rattle.fsrm_model.specs.values.Space.{rounded}
use Rattle.fsrm_model.specs.nodes.Tree.{is_under}
use Rattle.rescan.specs.declared.standing.Standing.{Standing}
use Rattle.rescan.specs.declared.standing.Standing.TheVariants.{Outside, Visited, Unvisited}
use Rattle.rescan.specs.Frontiers.{Front, has_above, scanned}
use Rattle.rescan.specs.Leaves.{Leaves}

-- Below an unvisited folder; else at or below the scanned one; else outside
abbrev pub standing : List NodeRow → Front → ℕ → Standing
standing nodes front n =
    if has_above nodes front.tops n then Unvisited
    else if is_under nodes (scanned front) n then Visited
    else Outside

-- what a file of this length, in a folder that stands so, adds to what is counted, by whole clusters of so many bytes
abbrev pub share_of : ℕ → ℕ → Standing → ℕ
share_of cluster bytes Outside = 0
share_of cluster bytes Visited = rounded cluster bytes
share_of cluster bytes Unvisited = 0

-- What becomes of a folder that moves from a place of one standing to one of another. If both are visited, nothing
-- changes. From a visited place to another it leaves the scan with all that was counted in it. To a visited place from
-- another it comes as a topmost folder, and else it is none.
abbrev pub FolderGoes : Standing → Standing → Capacity → List NodeRow → Front → Front → ℕ → Type 0
FolderGoes Visited Visited K nodes old new node = new ≡ old
FolderGoes Visited Outside K nodes old new node = Leaves K nodes old new node
FolderGoes Visited Unvisited K nodes old new node = Leaves K nodes old new node
FolderGoes Outside Visited K nodes old new node = new ≡ record old { tops = with_number node old.tops }
FolderGoes Unvisited Visited K nodes old new node = new ≡ record old { tops = with_number node old.tops }
FolderGoes Outside Outside K nodes old new node = new ≡ record old { tops = without_number node old.tops }
FolderGoes Outside Unvisited K nodes old new node = new ≡ record old { tops = without_number node old.tops }
FolderGoes Unvisited Outside K nodes old new node = new ≡ record old { tops = without_number node old.tops }
FolderGoes Unvisited Unvisited K nodes old new node = new ≡ record old { tops = without_number node old.tops }
