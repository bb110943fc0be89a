-- A scan goes on over whole operations: what the tree does and what the frontier is told, together.
use Rattle.std.proofs.Common.{◌≡◌, ℕ, true, false, List, sym, ◌∙◌, ap, subst, refl, Some, ◌==◌}
use Rattle.fsrm_model.specs.declared.row.NodeRow.{NodeRow}
use Rattle.fsrm_model.specs.nodes.FileOps.{resized}
use Rattle.fsrm_base.specs.Keyed.{has_row, with_change}
use Rattle.fsrm_base.specs.Numbers.{without_number}
use Rattle.fsrm_model.specs.objects.Scan.{unvisited_with}
use Rattle.fsrm_model.specs.nodes.Tree.{number, node_of}
use Rattle.fsrm_model.specs.store.Valid.{IsVolume}
use Rattle.fsrm_base.proofs.TestLaws.{eq_same}
use Rattle.fsrm_base.proofs.EditedRows.{find-with_row_same}
use Rattle.fsrm_base.proofs.Order.{ascending-with_row}
use Rattle.volume_tree.specs.Volume.{Volume, with_node, with_length, without_node}
use Rattle.rescan.specs.Frontiers.{Front, Stands, Follows, unvisited, of_length, sized}
use Rattle.rescan.proofs.followed.ChangeLaws.{changed_found, with_and_without, length_keeps, sized_own, own_stands, folder_length}
use Rattle.rescan.proofs.followed.KindLaws.{KeepsKind, kind_unvisited}

-- one step and another
pub follows_both : (f g h : Front) (v w : Volume) (left more : List ℕ) → Follows f g v left → Follows g h w more → Follows f h w more
follows_both f g h v w left more a b =
    record { stands = b.stands; unvisited_are = b.unvisited_are; folder = b.folder ∙ a.folder; room = b.room ∙ a.room }

-- over nodes with a node's own length
own_follows : (v : Volume) (f g : Front) (left : List ℕ) (n bytes : ℕ) → with_change number n (of_length bytes) v.nodes ≡ v.nodes → Follows f g (sized v n bytes) left → Follows f g v left
own_follows v f g left n bytes same h = subst (λ ns. Follows f g (record v { nodes = ns }) left) same h

-- A file is resized in the tree and then in the scan: what that makes of the scan
resized_kind : (bytes moment : ℕ) → KeepsKind (resized bytes moment)
resized_kind bytes moment = record { same_number = λ r. refl; same_parent = λ r. refl; same_folder = λ r. refl }

pub resized_follows : (v : Volume) (f g : Front) (n bytes moment : ℕ) (row : NodeRow) → Stands v f → node_of v.nodes n ≡ Some row → IsVolume v.size (with_length v n bytes moment).nodes → Follows f g (sized (with_length v n bytes moment) n bytes) (unvisited (with_length v n bytes moment).nodes f) → Follows f g (with_length v n bytes moment) (unvisited v.nodes f)
resized_follows v f g n bytes moment row s found w h =
    let new = with_change number n (resized bytes moment) v.nodes in
    let own = sized_own new n bytes (resized bytes moment row) w.ascending (changed_found n (resized bytes moment) (λ r. refl) v.nodes row found) refl in
    subst (λ left. Follows f g (with_length v n bytes moment) left) (kind_unvisited n (resized bytes moment) (resized_kind bytes moment) v.nodes f)
    (own_follows (with_length v n bytes moment) f g (unvisited new f) n bytes own h)

-- A node is made. Without it the nodes are those before
pub made_back : (v : Volume) (row : NodeRow) → has_row number row.number v.nodes ≡ false → without_node (with_node v row) row.number ≡ v
made_back v row free = ap (λ ns. record v { nodes = ns }) (with_and_without number row v.nodes free)

pub made_found : (v : Volume) (row : NodeRow) → has_row number row.number v.nodes ≡ false → node_of (with_node v row).nodes row.number ≡ Some row
made_found v row free = find-with_row_same number (λ r. number r == row.number) row v.nodes (eq_same row.number) free

made_own : (v : Volume) (row : NodeRow) (bytes : ℕ) → has_row number row.number v.nodes ≡ false → IsVolume v.size v.nodes → row.length ≡ bytes → with_change number row.number (of_length bytes) (with_node v row).nodes ≡ (with_node v row).nodes
made_own v row bytes free w is =
    sized_own (with_node v row).nodes row.number bytes row (ascending-with_row number row v.nodes free w.ascending) (made_found v row free) is

-- a file is made: `on_create`, and `on_resize` from 0 to its length
pub created_follows : (v : Volume) (f g h : Front) (row : NodeRow) → has_row number row.number v.nodes ≡ false → Stands v f → Follows f g (sized (with_node v row) row.number 0) (unvisited_with row (unvisited (without_node (with_node v row) row.number).nodes f)) → Follows g h (sized (with_node v row) row.number row.length) (unvisited (with_node v row).nodes g) → Follows f h (with_node v row) (unvisited_with row (unvisited v.nodes f))
created_follows v f g h row free s made filled =
    let new = with_node v row in
    let whole = own_follows new g h (unvisited new.nodes g) row.number row.length (made_own v row row.length free s.volume refl) filled in
    let left : unvisited new.nodes g ≡ unvisited_with row (unvisited v.nodes f) =
    sym (kind_unvisited row.number (of_length 0) (length_keeps 0) new.nodes g) ∙ (made.unvisited_are ∙ ap (λ (w : Volume). unvisited_with row (unvisited w.nodes f)) (made_back v row free)) in
    subst (λ more. Follows f h new more) left (follows_both f g h (sized new row.number 0) new (unvisited_with row (unvisited (without_node new row.number).nodes f)) (unvisited new.nodes g) made whole)

-- A node is to go. What `on_remove` requires of a folder, which has no length
pub folder_stands : (v : Volume) (f : Front) (n : ℕ) (row : NodeRow) → Stands v f → node_of v.nodes n ≡ Some row → row.folder ≡ true → Stands (sized v n 0) f
folder_stands v f n row s found folder = own_stands v f n 0 row s found (folder_length v.size v.nodes n row s.volume found folder)

-- a file is removed: `on_resize` down to 0, and `on_remove`. Of a folder `on_remove` says the same by itself
pub removed_follows : (v : Volume) (f g h : Front) (n : ℕ) → Follows f g (sized v n 0) (unvisited v.nodes f) → Follows g h (without_node v n) (without_number n (unvisited v.nodes g)) → Follows f h (without_node v n) (without_number n (unvisited v.nodes f))
removed_follows v f g h n emptied gone =
    let left : unvisited v.nodes g ≡ unvisited v.nodes f = sym (kind_unvisited n (of_length 0) (length_keeps 0) v.nodes g) ∙ emptied.unvisited_are in
    subst (λ more. Follows f h (without_node v n) (without_number n more)) left
    (follows_both f g h (sized v n 0) (without_node v n) (unvisited v.nodes f) (without_number n (unvisited v.nodes g)) emptied gone)
