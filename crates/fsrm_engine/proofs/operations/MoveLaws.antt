-- The refusals of a move are the faults of the tree.
use Rattle.std.proofs.Common.{◌≡◌, ℕ, ◌+◌, ◌==◌, Bool, true, false, not, ◌&&◌, List, [], ◌∷◌, length, Some, None, nat_lt, refl, ap, sym, ◌∙◌, subst, arith}
use Rattle.std.proofs.lemmas.Bool.Decides.{nat_tests}
use Rattle.std.specs.Prelude.{unwrap_or}
use Rattle.fsrm_model.specs.declared.command.Deed.TheVariants.{File}
use Rattle.fsrm_model.specs.declared.command.FileOp.TheVariants.{Move}
use Rattle.fsrm_model.specs.declared.command.Refusal.{Refusal}
use Rattle.fsrm_model.specs.declared.command.Refusal.TheVariants.{AlreadyExists, PathNotFound, InvalidMove, NamesFull}
use Rattle.fsrm_model.specs.declared.row.Capacity.{Capacity}
use Rattle.fsrm_model.specs.declared.row.NodeRow.{NodeRow}
use Rattle.fsrm_model.specs.commands.Check.{Check, ◌when◌, first, table_full, texts_full}
use Rattle.fsrm_model.specs.objects.Quota.{exceeded}
use Rattle.fsrm_model.specs.nodes.FileOps.{target, target_folder, placed}
use Rattle.fsrm_model.specs.commands.FileWork.{blocked, file_effect, judged_name}
use Rattle.fsrm_base.specs.Keyed.{has_row, with_change}
use Rattle.fsrm_model.specs.nodes.Leads.{is_root, leads, leads_to_folder, leads_to_other}
use Rattle.fsrm_model.specs.nodes.Tree.{number, name_of, is_folder, is_under, resolve, folder_part, last_name, child_number, name_bytes}
use Rattle.fsrm_model.specs.store.Valid.{IsVolume}
use Rattle.fsrm_base.proofs.TestLaws.{clash}
use Rattle.fsrm_model.proofs.nodes.Files.{below_file}
use Rattle.fsrm_model.proofs.nodes.Sizes.{name_bytes-placed}
use Rattle.volume_tree.specs.declared.answer.TreeFault.{TreeFault}
use Rattle.volume_tree.specs.declared.answer.TreeFault.TheVariants as fault
use Rattle.volume_tree.specs.Volume.{Volume, is_other, move_fault, with_place}
use Rattle.fsrm_engine.specs.declared.parts.Parts.{Parts}
use Rattle.fsrm_engine.specs.Machine.{rows_of}
use Rattle.fsrm_parts.specs.Faults.{refusal_of}
use Rattle.fsrm_parts.specs.Places.{IsPlace, IsRefusedPlace}
use Rattle.fsrm_engine.proofs.operations.NewLaws.{room_after, two_checks}
use Rattle.fsrm_engine.proofs.steps.StepLaws.{due, or_else, tree_first}
use Rattle.fsrm_parts.proofs.walks.PlaceLaws.{root_is, has_resolved, leads_is, target_is, leads_to_folder_is, place_leads, place_folder}

-- the checks that the tree makes too
listed : (under taken long : Bool) (more : List Check) → first (None ∷ None ∷ None ∷ None ∷ (InvalidMove when under) ∷ (AlreadyExists when taken) ∷ (NamesFull when long) ∷ more) ≡ tree_first (first ((fault.InvalidMove when under) ∷ (fault.AlreadyExists when taken) ∷ (fault.NamesFull when long) ∷ [])) (first more)
listed true taken long more = refl
listed false true long more = refl
listed false false true more = refl
listed false false false more = refl

listed_at : (there root to_root folder under taken long under' taken' long' : Bool) (more : List Check) → there ≡ true → root ≡ false → to_root ≡ false → folder ≡ true → under ≡ under' → taken ≡ taken' → long ≡ long' →
    first ((PathNotFound when not there) ∷ (InvalidMove when root) ∷ (AlreadyExists when to_root) ∷ (PathNotFound when not folder) ∷ (InvalidMove when under) ∷ (AlreadyExists when taken) ∷ (NamesFull when long) ∷ more) ≡ tree_first (first ((fault.InvalidMove when under') ∷ (fault.AlreadyExists when taken') ∷ (fault.NamesFull when long') ∷ [])) (first more)
listed_at there root to_root folder under taken long under' taken' long' more t r s f u k l = rw (t, r, s, f, u, k, l) (listed under' taken' long' more)

-- no folder is at or below a file
under_test : (is_dir under : Bool) → (is_dir ≡ false → under ≡ true → ⊥) → (is_dir && under) ≡ under
under_test true under h = refl
under_test false true h = absurd (h refl refl)
under_test false false h = refl

under_is : (K : Capacity) (nodes : List NodeRow) (n d : ℕ) → IsVolume K nodes → has_row number d nodes ≡ true → is_folder nodes d ≡ true → (is_folder nodes n && is_under nodes n d) ≡ is_under nodes n d
under_is K nodes n d v has folder =
    under_test (is_folder nodes n) (is_under nodes n d) (λ file under. clash (is_folder nodes n) (subst (λ k. is_folder nodes k ≡ true) (below_file K nodes n d v file has under) folder) file)

-- the old name's bytes are given back
bytes_test : (most old new less more : ℕ) → new + less ≡ old + more → nat_lt most new ≡ nat_lt (most + less) (old + more)
bytes_test most old new less more h = grind (arith, nat_tests)

-- the nodes after the move, by the place and by the paths
pub moved_is : (v : Volume) (from to : List (List ℕ)) (n d : ℕ) (name : List ℕ) → resolve v.nodes from ≡ Some n → IsPlace v.nodes to d name → with_place v n d name ≡ record { size = v.size; nodes = with_change number (target v.nodes from) (placed (target_folder v.nodes to) (last_name to)) v.nodes }
moved_is v from to n d name h p =
    sym (ap (λ o. with_place v (unwrap_or o 0) (target_folder v.nodes to) (last_name to)) h
    ∙ (ap (λ o. with_place v n (unwrap_or o 0) (last_name to)) p.resolved
    ∙ ap (λ t. with_place v n d t) p.name_is))

bytes_moved : (v : Volume) (from to : List (List ℕ)) (n d : ℕ) (name : List ℕ) → IsVolume v.size v.nodes → resolve v.nodes from ≡ Some n → IsPlace v.nodes to d name → name_bytes (with_change number (target v.nodes from) (placed (target_folder v.nodes to) (last_name to)) v.nodes) + length (name_of v.nodes n) ≡ name_bytes v.nodes + length name
bytes_moved v from to n d name k h p =
    sym (ap (λ (w : Volume). name_bytes w.nodes + length (name_of v.nodes n)) (moved_is v from to n d name h p))
    ∙ name_bytes-placed v.nodes n d name k.ascending (has_resolved v.size v.nodes from n k h)

-- the tables come before screens and quotas
four_checks : (table texts by over : Check) → first (table ∷ texts ∷ by ∷ over ∷ []) ≡ or_else (first (table ∷ texts ∷ [])) (or_else by over)
four_checks None None by over = two_checks by over
four_checks None (Some refusal) by over = refl
four_checks (Some refusal) texts by over = refl

-- the refusal that is due to a move to a place
pub move_due : (p : Parts) (m : ℕ) (from to : List (List ℕ)) (n d : ℕ) (name : List ℕ) → IsVolume p.tree.size p.tree.nodes → resolve p.tree.nodes from ≡ Some n → (n == 0) ≡ false → IsPlace p.tree.nodes to d name → due p m (File (Move from to)) ≡ tree_first (move_fault p.tree n d name) (or_else (room_after p m (Move from to)) (or_else (blocked (judged_name (rows_of p) (Move from to))) (exceeded p.tree.size (rows_of p) (with_place p.tree n d name).nodes)))
move_due p m from to n d name k h inner place =
    let v = p.tree in
    let nodes = v.nodes in
    let new = with_change number (target nodes from) (placed (target_folder nodes to) (last_name to)) nodes in
    let on = target_is nodes from n h in
    let at = target_is nodes (folder_part to) d place.resolved in
    let dir = leads_to_folder_is nodes from n h in
    let by = blocked (judged_name (rows_of p) (Move from to)) in
    let over = exceeded v.size (rows_of p) new in
    let E = file_effect (rows_of p) (Move from to) m in
    listed_at (leads nodes from) (is_root from) (is_root to) (leads_to_folder nodes (folder_part to)) (leads_to_folder nodes from && is_under nodes (target nodes from) (target_folder nodes to)) (leads_to_other nodes to (target nodes from)) (nat_lt v.size.names (name_bytes new))
    (is_under nodes n d) (is_other (child_number nodes d name) n) (nat_lt (v.size.names + length (name_of nodes n)) (name_bytes nodes + length name)) (table_full E ∷ texts_full E ∷ by ∷ over ∷ [])
    (leads_is nodes from n h) (root_is v.size nodes from n k h ∙ inner) place.inner (place_folder nodes to d name place)
    (ap (λ b. b && is_under nodes (target nodes from) (target_folder nodes to)) dir
    ∙ (ap (λ x. is_folder nodes n && is_under nodes x (target_folder nodes to)) on
    ∙ (ap (λ x. is_folder nodes n && is_under nodes n x) at
    ∙ under_is v.size nodes n d k (has_resolved v.size nodes (folder_part to) d k place.resolved) place.folder_is)))
    (ap (leads_to_other nodes to) on ∙ ap (λ o. is_other o n) (place_leads v.size nodes to d name k place))
    (bytes_test v.size.names (name_bytes nodes) (name_bytes new) (length (name_of nodes n)) (length name) (bytes_moved v from to n d name k h place))
    ∙ ap (tree_first (move_fault v n d name)) (four_checks (table_full E) (texts_full E) by over
    ∙ ap (λ (w : Volume). or_else (room_after p m (Move from to)) (or_else by (exceeded v.size (rows_of p) w.nodes))) (sym (moved_is v from to n d name h place)))

-- the root isn't moved
first_move : (there root : Bool) (more : List Check) → there ≡ true → root ≡ true → first ((PathNotFound when not there) ∷ (InvalidMove when root) ∷ more) ≡ Some InvalidMove
first_move there root more t r = rw (t, r) refl

pub move_root : (p : Parts) (m : ℕ) (from to : List (List ℕ)) (n : ℕ) → IsVolume p.tree.size p.tree.nodes → resolve p.tree.nodes from ≡ Some n → n ≡ 0 → due p m (File (Move from to)) ≡ Some InvalidMove
move_root p m from to n k h z =
    first_move (leads p.tree.nodes from) (is_root from) _ (leads_is p.tree.nodes from n h) (root_is p.tree.size p.tree.nodes from n k h ∙ ap (λ i. i == 0) z)

-- a place that isn't one
second_move : (there root to_root folder : Bool) (more : List Check) → there ≡ true → root ≡ false → to_root ≡ true → first ((PathNotFound when not there) ∷ (InvalidMove when root) ∷ (AlreadyExists when to_root) ∷ (PathNotFound when not folder) ∷ more) ≡ Some AlreadyExists
second_move there root to_root folder more t r s = rw (t, r, s) refl

third_move : (there root to_root folder : Bool) (more : List Check) → there ≡ true → root ≡ false → to_root ≡ false → folder ≡ false → first ((PathNotFound when not there) ∷ (InvalidMove when root) ∷ (AlreadyExists when to_root) ∷ (PathNotFound when not folder) ∷ more) ≡ Some PathNotFound
third_move there root to_root folder more t r s f = rw (t, r, s, f) refl

pub stray_due : (p : Parts) (m : ℕ) (from to : List (List ℕ)) (n : ℕ) (refusal : Refusal) → IsVolume p.tree.size p.tree.nodes → resolve p.tree.nodes from ≡ Some n → (n == 0) ≡ false → IsRefusedPlace p.tree.nodes to refusal → due p m (File (Move from to)) ≡ Some refusal
stray_due p m from to n AlreadyExists k h inner at =
    second_move (leads p.tree.nodes from) (is_root from) (is_root to) (leads_to_folder p.tree.nodes (folder_part to)) _ (leads_is p.tree.nodes from n h) (root_is p.tree.size p.tree.nodes from n k h ∙ inner) at
stray_due p m from to n PathNotFound k h inner at =
    third_move (leads p.tree.nodes from) (is_root from) (is_root to) (leads_to_folder p.tree.nodes (folder_part to)) _ (leads_is p.tree.nodes from n h) (root_is p.tree.size p.tree.nodes from n k h ∙ inner) at.0 at.1
stray_due p m from to n other k h inner at = absurd at

-- a move that the tree refuses
pub move_faulty : (p : Parts) (m : ℕ) (from to : List (List ℕ)) (n d : ℕ) (name : List ℕ) (told : TreeFault) → IsVolume p.tree.size p.tree.nodes → resolve p.tree.nodes from ≡ Some n → (n == 0) ≡ false → IsPlace p.tree.nodes to d name → move_fault p.tree n d name ≡ Some told → due p m (File (Move from to)) ≡ Some (refusal_of told)
move_faulty p m from to n d name told k h inner place is =
    move_due p m from to n d name k h inner place
    ∙ ap (λ o. tree_first o (or_else (room_after p m (Move from to)) (or_else (blocked (judged_name (rows_of p) (Move from to))) (exceeded p.tree.size (rows_of p) (with_place p.tree n d name).nodes)))) is
