-- The move of a file: its paths are legal, and its command is.
use Rattle.std.proofs.Common.{◌≡◌, ℕ, ◌+◌, ◌≤◌, ◌<◌, ◌==◌, Bool, true, false, not, inl, inr, List, [], ◌∷◌, ◌++◌, length, Option, Some, None, refl, sym, ◌∙◌, ap, subst, arith}
use Rattle.std.proofs.lemmas.Bool.{and_from, and_parts}
use Rattle.std.specs.Prelude.{nat_le}
use Rattle.std.specs.List.{list_all}
use Rattle.std.specs.Option.{option_map_or}
use Rattle.fsrm_base.specs.Keyed.{has_row}
use Rattle.fsrm_base.proofs.Look.{found_has, has_found}
use Rattle.fsrm_base.proofs.TestLaws.{clash, eq_is, gt_is, is_false, is_or_not, le_is, le_test, suc_apart}
use Rattle.fsrm_model.specs.commands.Entry.{path_length}
use Rattle.fsrm_model.specs.declared.command.Deed.TheVariants.{File}
use Rattle.fsrm_model.specs.declared.command.FileOp.TheVariants.{Move}
use Rattle.fsrm_model.specs.declared.row.Capacity.{Capacity}
use Rattle.fsrm_model.specs.declared.row.NodeRow.{NodeRow}
use Rattle.fsrm_model.specs.nodes.Tree.{number, name_of, node_of, path_of}
use Rattle.fsrm_model.specs.store.Valid.{is_moment, is_own, IsVolume}
use Rattle.fsrm_model.specs.store.Valued.{is_command, is_path, is_short_path}
use Rattle.fsrm_model.specs.values.Name.{is_name}
use Rattle.fsrm_model.proofs.nodes.Climbs.{along}
use Rattle.fsrm_model.proofs.nodes.Keeps.{tree_of}
use Rattle.fsrm_model.proofs.nodes.Walks.{child_path, found_name, path_root}
use Rattle.fsrm_model.proofs.valid.ValidLaws.{found_parent}
use Rattle.file_jobs.specs.Moves.{is_file, most_bytes, move_of, moved_path, text_of}

-- ---- a file
pub record FoundFile (nodes : List NodeRow) (n : ℕ) : Type 0 where
  pub row : NodeRow
  pub found : node_of nodes n ≡ Some row
  pub file : row.folder ≡ false

pub file_found : (nodes : List NodeRow) (n : ℕ) → is_file nodes n ≡ true → FoundFile nodes n
file_found nodes n h = at (node_of nodes n) refl h
  where
    at : (o : Option NodeRow) → node_of nodes n ≡ o → option_map_or (λ node. not node.folder) o false ≡ true → FoundFile nodes n
    at None e h = absurd (clash false h refl)
    at (Some r) e h = record { row = r; found = e; file = is_false r.folder h }

pub file_has : (nodes : List NodeRow) (n : ℕ) → is_file nodes n ≡ true → has_row number n nodes ≡ true
file_has nodes n h = let f = file_found nodes n h in found_has number n nodes f.row f.found

-- ---- its name, and the names of its path
own_name : (row : NodeRow) → is_own row ≡ true → is_name row.name ≡ true
own_name row h = (and_parts (is_name row.name) _ (and_parts _ _ h).0).0

pub file_name : (K : Capacity) (nodes : List NodeRow) (n : ℕ) → IsVolume K nodes → is_file nodes n ≡ true → is_name (name_of nodes n) ≡ true
file_name K nodes n v h =
    let f = file_found nodes n h in
    elim (is_or_not (n == 0)) [
      | inl zero ↦
          let at_root : node_of nodes 0 ≡ Some f.row = subst (λ k. node_of nodes k ≡ Some f.row) (eq_is n 0 zero) f.found in
          absurd (clash f.row.folder (and_parts f.row.folder _ (and_parts _ _ (and_parts _ _ (v.root f.row at_root)).0).0).0 f.file)
      | inr inner ↦ ap is_name (found_name nodes n f.row f.found) ∙ own_name f.row (v.own n f.row f.found inner)
    ]

all_push : (names : List (List ℕ)) (name : List ℕ) → list_all is_name names ≡ true → is_name name ≡ true → list_all is_name (names ++ name ∷ []) ≡ true
all_push [] name h legal = and_from (is_name name) true legal refl
all_push (x ∷ names) name h legal =
    let parts = and_parts (is_name x) (list_all is_name names) h in
    and_from (is_name x) (list_all is_name (names ++ name ∷ [])) parts.0 (all_push names name parts.1 legal)

pub legal_path : (K : Capacity) (nodes : List NodeRow) (n : ℕ) → IsVolume K nodes → has_row number n nodes ≡ true → list_all is_name (path_of nodes n) ≡ true
legal_path K nodes n v h =
    along (λ n. list_all is_name (path_of nodes n) ≡ true) nodes (tree_of K nodes v)
    (ap (list_all is_name) (path_root nodes))
    (λ n h inner up.
    let f = has_found number n nodes h in
    let apart : (n == 0) ≡ false = elim (is_or_not (n == 0)) [ inl e ↦ absurd (inner (eq_is n 0 e)) | inr e ↦ e ] in
    ap (list_all is_name) (child_path K nodes n f.row.parent f.row v f.is apart refl)
    ∙ all_push (path_of nodes f.row.parent) f.row.name (subst (λ k. list_all is_name (path_of nodes k) ≡ true) (found_parent nodes n f.row f.is) up) (own_name f.row (v.own n f.row f.is apart)))
    n h

pub legal_moved : (K : Capacity) (nodes : List NodeRow) (node to : ℕ) → IsVolume K nodes → is_file nodes node ≡ true → has_row number to nodes ≡ true → list_all is_name (moved_path nodes node to) ≡ true
legal_moved K nodes node to v file h = all_push (path_of nodes to) (name_of nodes node) (legal_path K nodes to v h) (file_name K nodes node v file)

-- the root's path has no name
pushed : (names : List (List ℕ)) (name : List ℕ) → (length (names ++ name ∷ []) == 0) ≡ false
pushed [] name = suc_apart 0
pushed (x ∷ names) name = suc_apart (length (names ++ name ∷ []))

pub root_path : (K : Capacity) (nodes : List NodeRow) (n : ℕ) → IsVolume K nodes → has_row number n nodes ≡ true → (n == 0) ≡ (length (path_of nodes n) == 0)
root_path K nodes n v h = elim (is_or_not (n == 0)) [
  | inl e ↦ e ∙ sym (ap (λ (k : ℕ). length (path_of nodes k) == 0) (eq_is n 0 e) ∙ ap (λ (path : List (List ℕ)). length path == 0) (path_root nodes))
  | inr e ↦
      let f = has_found number n nodes h in
      e ∙ sym (ap (λ (path : List (List ℕ)). length path == 0) (child_path K nodes n f.row.parent f.row v f.is e refl) ∙ pushed (path_of nodes f.row.parent) f.row.name)
]

-- ---- the move
pub too_long : (nodes : List NodeRow) (node to : ℕ) (from moved : List ℕ) → from ≡ text_of (path_of nodes node) → moved ≡ text_of (moved_path nodes node to) → most_bytes < length from + length moved → None ≡ move_of nodes node to
too_long nodes node to from moved f m long = at (nat_le (path_length (path_of nodes node) + path_length (moved_path nodes node to)) most_bytes) refl
  where
    at : (b : Bool) → nat_le (path_length (path_of nodes node) + path_length (moved_path nodes node to)) most_bytes ≡ b → None ≡ move_of nodes node to
    at true e = absurd (omega (arith, long, le_is _ _ e, ap length f, ap length m))
    at false e = rw e refl

pub short : (nodes : List NodeRow) (node to : ℕ) (from moved : List ℕ) → from ≡ text_of (path_of nodes node) → moved ≡ text_of (moved_path nodes node to) → length from + length moved ≤ most_bytes → Some (Move (path_of nodes node) (moved_path nodes node to)) ≡ move_of nodes node to
short nodes node to from moved f m few = at (nat_le (path_length (path_of nodes node) + path_length (moved_path nodes node to)) most_bytes) refl
  where
    at : (b : Bool) → nat_le (path_length (path_of nodes node) + path_length (moved_path nodes node to)) most_bytes ≡ b → Some (Move (path_of nodes node) (moved_path nodes node to)) ≡ move_of nodes node to
    at true e = rw e refl
    at false e = absurd (omega (arith, few, gt_is _ _ e, ap length f, ap length m))

-- its command may be taken
pub legal_move : (from to : List (List ℕ)) (moment : ℕ) → list_all is_name from ≡ true → list_all is_name to ≡ true → path_length from + path_length to ≤ most_bytes → is_moment moment ≡ true → is_command (record { moment = moment; deed = File (Move from to) }) ≡ true
legal_move from to moment f t few m =
    let paths : list_all is_path (from ∷ to ∷ []) ≡ true = and_from (is_path from) (list_all is_path (to ∷ [])) f (and_from (is_path to) true t refl) in
    let lengths : list_all is_short_path (from ∷ to ∷ []) ≡ true =
    and_from (is_short_path from) (list_all is_short_path (to ∷ [])) (le_test _ _ (omega (arith, few))) (and_from (is_short_path to) true (le_test _ _ (omega (arith, few))) refl) in
    and_from (is_moment moment) _ m (and_from _ _ (and_from _ _ paths refl) (and_from _ _ lengths (le_test _ _ (omega (arith, few)))))
