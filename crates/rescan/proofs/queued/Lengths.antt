-- A scan goes on if a node changes its length or a moment, and not its place.
use Rattle.std.proofs.Common.{◌≡◌, ℕ, ◌≤◌, ◌==◌, Bool, true, false, cond, List, [], ◌∷◌, refl, sym, ◌∙◌, ap, subst, inl, inr, arith, Some}
use Rattle.std.proofs.lemmas.Bool.Decides.{nat_tests}
use Rattle.std.specs.Prelude.{nat_le}
use Rattle.fsrm_model.specs.declared.row.Capacity.{Capacity}
use Rattle.fsrm_model.specs.declared.row.NodeRow.{NodeRow}
use Rattle.fsrm_model.specs.nodes.FileOps.{resized}
use Rattle.fsrm_base.specs.Keyed.{has_row, is_ascending, with_change}
use Rattle.fsrm_model.specs.values.Limits.{longest_file}
use Rattle.fsrm_model.specs.nodes.Tree.{number, node_of}
use Rattle.fsrm_model.specs.store.Valid.{IsVolume}
use Rattle.fsrm_base.proofs.EditedRows.{absent_later, ascending_tail}
use Rattle.fsrm_base.proofs.Look.{found_has}
use Rattle.fsrm_base.proofs.TestLaws.{is_or_not, clash, eq_is}
use Rattle.volume_tree.specs.Volume.{Volume, with_length}
use Rattle.rescan.specs.Frontiers.{Front, Stands, Follows, unvisited, of_length, sized}
use Rattle.rescan.proofs.followed.KindLaws.{kind_unvisited}
use Rattle.rescan.proofs.followed.ChangeLaws.{kind_of, alike, stamped, stamped_keeps, change_twice, length_keeps, root_length, own_length}

-- a scan that has followed another length goes on after the tree has it too
pub resized_follows : (v : Volume) (old f : Front) (n bytes moment : ℕ) → Follows old f (sized v n bytes) (unvisited v.nodes old) → IsVolume v.size (with_length v n bytes moment).nodes → Follows old f (with_length v n bytes moment) (unvisited v.nodes old)
resized_follows v old f n bytes moment h w =
    let mid = with_change number n (of_length bytes) v.nodes in
    let is : with_change number n (stamped moment) mid ≡ with_change number n (resized bytes moment) v.nodes = change_twice number n (of_length bytes) (stamped moment) (λ r. refl) v.nodes in
    let to : Stands (record v { nodes = with_change number n (stamped moment) mid }) f = alike (sized v n bytes) f n (stamped moment) (stamped_keeps moment) h.stands (subst (IsVolume v.size) (sym is) w) in
    record {
      stands = subst (λ ns. Stands (record v { nodes = ns }) f) is to;
      unvisited_are = ap (λ ns. unvisited ns f) (sym is) ∙ (kind_unvisited n (stamped moment) (kind_of (stamped moment) (stamped_keeps moment)) mid f ∙ h.unvisited_are);
      folder = h.folder;
      room = h.room;
    }

pub sized_unvisited : (v : Volume) (f : Front) (n bytes : ℕ) → unvisited (sized v n bytes).nodes f ≡ unvisited v.nodes f
sized_unvisited v f n bytes = kind_unvisited n (of_length bytes) (length_keeps bytes) v.nodes f

-- the nodes with a node's own length are the nodes
own_at : (n bytes : ℕ) (x : NodeRow) (rows : List NodeRow) (b : Bool) → (x.number == n) ≡ b → is_ascending number (x ∷ rows) ≡ true → ((row : NodeRow) → cond b (Some x) (node_of rows n) ≡ Some row → row.length ≡ bytes) → (((row : NodeRow) → node_of rows n ≡ Some row → row.length ≡ bytes) → with_change number n (of_length bytes) rows ≡ rows) → cond b (of_length bytes x) x ∷ with_change number n (of_length bytes) rows ≡ x ∷ rows
own_at n bytes x rows true e asc h f =
    ap (λ (j : ℕ). (record x { length = j }) ∷ with_change number n (of_length bytes) rows) (sym (h x refl))
    ∙ ap (λ rs. x ∷ rs) (f (λ row found. absurd (clash (has_row number n rows) (found_has number n rows row found) (absent_later number n x rows (up_to (x.number) n e) asc))))
  where
    up_to : (k n : ℕ) → (k == n) ≡ true → n ≤ k
    up_to k n e = grind (arith, nat_tests)
own_at n bytes x rows false e asc h f = ap (λ rs. x ∷ rs) (f h)

pub sized_own : (nodes : List NodeRow) (n bytes : ℕ) → is_ascending number nodes ≡ true → ((row : NodeRow) → node_of nodes n ≡ Some row → row.length ≡ bytes) → with_change number n (of_length bytes) nodes ≡ nodes
sized_own [] n bytes asc h = refl
sized_own (x ∷ rows) n bytes asc h = own_at n bytes x rows (x.number == n) refl asc h (sized_own rows n bytes (ascending_tail number x rows asc))

pub own_stands : (v : Volume) (f : Front) (n bytes : ℕ) → Stands v f → ((row : NodeRow) → node_of v.nodes n ≡ Some row → row.length ≡ bytes) → Stands (sized v n bytes) f
own_stands v f n bytes s h = subst (λ ns. Stands (record v { nodes = ns }) f) (sym (sized_own v.nodes n bytes s.volume.ascending h)) s

pub own_follows : (v : Volume) (old f : Front) (left : List ℕ) (n bytes : ℕ) → IsVolume v.size v.nodes → ((row : NodeRow) → node_of v.nodes n ≡ Some row → row.length ≡ bytes) → Follows old f (sized v n bytes) left → Follows old f v left
own_follows v old f left n bytes w h s = subst (λ ns. Follows old f (record v { nodes = ns }) left) (sized_own v.nodes n bytes w.ascending h) s

-- no file is too long
most_left : (n most : ℕ) (b : Bool) → nat_le n (cond b 0 most) ≡ true → n ≤ most
most_left n most true h = grind (arith, nat_tests)
most_left n most false h = grind (arith, nat_tests)

zero_most : (n most : ℕ) → (n == 0) ≡ true → n ≤ most
zero_most n most e = grind (arith, nat_tests)

pub row_length : (K : Capacity) (nodes : List NodeRow) (n : ℕ) (row : NodeRow) → IsVolume K nodes → node_of nodes n ≡ Some row → row.length ≤ longest_file
row_length K nodes n row v found =
    elim (is_or_not (n == 0)) [
      | inl e ↦ zero_most row.length longest_file (root_length row (v.root row (ap (node_of nodes) (sym (eq_is n 0 e)) ∙ found)))
      | inr e ↦ most_left row.length longest_file row.folder (own_length row (v.own n row found e))
    ]
