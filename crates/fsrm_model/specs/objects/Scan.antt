-- The scan of a folder: which folders at and below it are still to be visited, and what is counted so far. Files
-- and folders come, go and move while it runs, and each file is to be counted once.
use Rattle.std.specs.Prelude.{◌≡◌, ℕ, zero, suc, ◌==◌, ◌&&◌, ◌||◌, not, Bool, true, false, List, map, filter, find, sum_by, Option, if◌then◌else◌}
use Rattle.std.specs.List.{list_all}
use Rattle.std.specs.Option.{option_map_or}
use Rattle.fsrm_model.specs.declared.row.Capacity.{Capacity}
use Rattle.fsrm_model.specs.declared.row.NodeRow.{NodeRow}
use Rattle.fsrm_base.specs.Numbers.{is_in, is_set, with_number, without_number, with_numbers, without_numbers}
use Rattle.fsrm_model.specs.values.Space.{space}
use Rattle.fsrm_model.specs.nodes.Tree.{number, parent_of, is_folder, is_under, under}

-- the folders at and below a node: those that a scan of it begins with
abbrev pub folders_under : List NodeRow → ℕ → List ℕ
folders_under nodes folder = map number (filter (λ node. node.folder) (under nodes folder))

-- whether the parent of an unvisited folder isn't unvisited. The root has no parent
abbrev pub is_topmost : List NodeRow → List ℕ → ℕ → Bool
is_topmost nodes unvisited n = (n == 0) || not (is_in unvisited (parent_of nodes n))

-- the folder that is visited next: the one of the least number among the topmost
abbrev pub next_visit : List NodeRow → List ℕ → Option ℕ
next_visit nodes unvisited = find (is_topmost nodes unvisited) unvisited

-- what is unvisited after one visit, and after so many
abbrev pub visit : List NodeRow → List ℕ → List ℕ
visit nodes unvisited = option_map_or (λ n. without_number n unvisited) (next_visit nodes unvisited) unvisited

abbrev pub visits : ℕ → List NodeRow → List ℕ → List ℕ
visits zero nodes unvisited = unvisited
visits (suc n) nodes unvisited = visits n nodes (visit nodes unvisited)

-- A new folder is unvisited exactly if its parent is. A folder that is removed no longer is
abbrev pub unvisited_with : NodeRow → List ℕ → List ℕ
unvisited_with node unvisited =
    if node.folder && is_in unvisited node.parent then with_number node.number unvisited else unvisited

-- What is unvisited in the scan of a folder after a node was moved. If the scanned folder itself moves, at or
-- below the node, nothing changes. A node that comes to lie outside takes its folders out. One that comes from
-- outside, or under an unvisited folder, has all its folders to be visited. Else each of them stays as it was.
abbrev pub unvisited_moved : (before after : List NodeRow) → ℕ → ℕ → ℕ → List ℕ → List ℕ
unvisited_moved before after scanned node folder unvisited =
    if is_under before node scanned then unvisited
    else if not (is_under after scanned node) then without_numbers (folders_under before node) unvisited
    else if is_in unvisited folder || not (is_under before scanned node) then with_numbers (folders_under before node) unvisited
    else unvisited

-- the space of the files whose folder is at or below the scanned one, and isn't unvisited
abbrev pub counted : Capacity → List NodeRow → ℕ → List ℕ → ℕ
counted K nodes scanned unvisited =
    sum_by (space K) (filter (λ node. is_under nodes scanned node.parent && not (is_in unvisited node.parent)) nodes)

-- What the unvisited folders of a scan are: folders at or below the scanned one, and with each all folders in it
abbrev pub are_unvisited : List NodeRow → ℕ → List ℕ → Bool
are_unvisited nodes scanned unvisited =
    is_set unvisited
    && (list_all (λ n. is_folder nodes n && is_under nodes scanned n) unvisited
    && list_all (λ node. not ((node.folder && not (node.number == 0)) && is_in unvisited node.parent) || is_in unvisited node.number) nodes)

pub record AreUnvisited (nodes : List NodeRow) (scanned : ℕ) (unvisited : List ℕ) : Type 0 where
  pub ascending : is_set unvisited ≡ true
  pub folders : (n : ℕ) → is_in unvisited n ≡ true → is_folder nodes n ≡ true
  pub below : (n : ℕ) → is_in unvisited n ≡ true → is_under nodes scanned n ≡ true
  pub closed : (n : ℕ) → is_folder nodes n ≡ true → (n == 0) ≡ false → is_in unvisited (parent_of nodes n) ≡ true → is_in unvisited n ≡ true
