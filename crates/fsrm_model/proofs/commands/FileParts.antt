-- What is known if no check refuses a file operation: what its paths lead to, and that there is room.
use Rattle.std.proofs.Common.{◌≡◌, ℕ, ◌≤◌, ◌==◌, Bool, true, false, not, ◌&&◌, List, [], ◌∷◌, ◌++◌, length, refl, sym, ◌∙◌, ap, subst, inl, inr, Some, None, Option}
use Rattle.std.specs.Prelude.{is_some, option_map, unwrap_or, nat_lt}
use Rattle.std.specs.List.{list_all}
use Rattle.std.specs.Option.{option_map_or}
use Rattle.fsrm_model.specs.declared.command.Refusal.TheVariants.{PathNotFound, AlreadyExists, InvalidMove, NotEmpty, VolumeFull, NamesFull, TableFull, TextsFull}
use Rattle.fsrm_model.specs.declared.command.FileOp.TheVariants.{Move}
use Rattle.fsrm_model.specs.declared.row.Capacity.{Capacity}
use Rattle.fsrm_model.specs.declared.row.NodeRow.{NodeRow}
use Rattle.fsrm_model.specs.declared.row.Rows.{Rows}
use Rattle.fsrm_model.specs.commands.Check.{Check, ◌when◌, first, volume_full, names_full, table_full, texts_full}
use Rattle.fsrm_model.specs.nodes.FileOps.{target, target_folder}
use Rattle.fsrm_model.specs.commands.FileWork.{judged_name, blocked, move_checks, remove_checks}
use Rattle.fsrm_model.specs.nodes.Leads.{is_root, leads, leads_to_folder, leads_to_file, leads_to_other}
use Rattle.fsrm_model.specs.values.Limits.{most_quotas, most_text_bytes}
use Rattle.fsrm_model.specs.values.Name.{is_name}
use Rattle.fsrm_model.specs.objects.Quota.{exceeded}
use Rattle.fsrm_model.specs.values.Texts.{object_texts}
use Rattle.fsrm_model.specs.nodes.Tree.{number, node_of, is_folder, is_child, children, child_of, child_number, is_under, resolve, folder_part, last_name, path_of, name_bytes}
use Rattle.fsrm_model.specs.store.Valid.{IsVolume}
use Rattle.fsrm_model.proofs.nodes.ChainLaws.{Has}
use Rattle.fsrm_model.proofs.nodes.Files.{below_file}
use Rattle.fsrm_model.proofs.nodes.Keeps.{MayGo}
use Rattle.fsrm_base.proofs.Look.{has_found, none_filtered, unwrapped}
use Rattle.fsrm_model.proofs.commands.Orderly.{first_none, when_none, not_false}
use Rattle.fsrm_model.proofs.nodes.Resolves.{resolved, resolve_child, some_name, joined_path}
use Rattle.fsrm_base.proofs.TestLaws.{is_or_not, clash, not_true, both, both_true, eq_is, ge_is}
use Rattle.fsrm_model.proofs.valid.ValidLaws.{folder_has}
use Rattle.fsrm_model.proofs.nodes.Walks.{path_root}

-- what a path leads to
folder_led : (nodes : List NodeRow) (o : Option ℕ) → option_map_or (is_folder nodes) o false ≡ true → (is_some o ≡ true) × (is_folder nodes (unwrap_or o 0) ≡ true)
folder_led nodes None h = absurd (clash false h refl)
folder_led nodes (Some n) h = (refl, h)

pub folder_at : (nodes : List NodeRow) (path : List (List ℕ)) → (PathNotFound when not (leads_to_folder nodes path)) ≡ None → is_folder nodes (target nodes path) ≡ true
folder_at nodes path h =
    (folder_led nodes (resolve nodes path) (not_false (leads_to_folder nodes path) (when_none PathNotFound (not (leads_to_folder nodes path)) h))).1

target_has : (K : Capacity) (nodes : List NodeRow) (path : List (List ℕ)) → IsVolume K nodes → leads nodes path ≡ true → Has nodes (target nodes path)
target_has K nodes path v h = (resolved K nodes path (target nodes path) v (unwrapped (resolve nodes path) h)).has

pub record IsFile (nodes : List NodeRow) (n : ℕ) : Type 0 where
  pub has : Has nodes n
  pub file : is_folder nodes n ≡ false

file_led : (nodes : List NodeRow) (o : Option ℕ) → option_map_or (λ n. not (is_folder nodes n)) o false ≡ true → (is_some o ≡ true) × (is_folder nodes (unwrap_or o 0) ≡ false)
file_led nodes None h = absurd (clash false h refl)
file_led nodes (Some n) h = (refl, not_true (is_folder nodes n) (λ t. clash (not (is_folder nodes n)) h (ap not t)))

pub file_at : (K : Capacity) (nodes : List NodeRow) (path : List (List ℕ)) → IsVolume K nodes → (PathNotFound when not (leads_to_file nodes path)) ≡ None → IsFile nodes (target nodes path)
file_at K nodes path v h =
    let led = file_led nodes (resolve nodes path) (not_false (leads_to_file nodes path) (when_none PathNotFound (not (leads_to_file nodes path)) h)) in
    record { has = target_has K nodes path v led.0; file = led.1 }

-- only the root's path leads to the root
inner_target : (K : Capacity) (nodes : List NodeRow) (path : List (List ℕ)) → IsVolume K nodes → leads nodes path ≡ true → is_root path ≡ false → (target nodes path == 0) ≡ false
inner_target K nodes path v h other = not_true (target nodes path == 0) (λ e.
    let r = resolved K nodes path (target nodes path) v (unwrapped (resolve nodes path) h) in
    let long : length (path_of nodes 0) ≡ length path = subst (λ (n : ℕ). length (path_of nodes n) ≡ length path) (eq_is (target nodes path) 0 e) r.long in
    let zero_long : length path ≡ 0 = sym long ∙ ap length (path_root nodes) in
    clash (is_root path) (ap (λ n. n == 0) zero_long) other)

-- a path's last name is a name
last_of : (p : List ℕ → Bool) (names : List (List ℕ)) (name : List ℕ) → list_all p (names ++ name ∷ []) ≡ true → p name ≡ true
last_of p [] name h = (both (p name) true h).0
last_of p (n ∷ names) name h = last_of p names name (both (p n) (list_all p (names ++ name ∷ [])) h).1

pub last_named : (path : List (List ℕ)) → list_all is_name path ≡ true → is_root path ≡ false → is_name (last_name path) ≡ true
last_named path h other =
    last_of is_name (folder_part path) (last_name path) (subst (λ names. list_all is_name names ≡ true) (joined_path path (some_name path other)) h)

-- a place that a path gives in a folder
pub record IsPlace (nodes : List NodeRow) (path : List (List ℕ)) : Type 0 where
  pub other : is_root path ≡ false
  pub folder : is_folder nodes (target_folder nodes path) ≡ true
  pub leads_as : resolve nodes path ≡ child_number nodes (target_folder nodes path) (last_name path)

place_at : (K : Capacity) (nodes : List NodeRow) (path : List (List ℕ)) → IsVolume K nodes → is_root path ≡ false → (PathNotFound when not (leads_to_folder nodes (folder_part path))) ≡ None → IsPlace nodes path
place_at K nodes path v other h =
    let in_folder = leads_to_folder nodes (folder_part path) in
    let led = folder_led nodes (resolve nodes (folder_part path)) (not_false in_folder (when_none PathNotFound (not in_folder) h)) in
    record {
      other = other;
      folder = led.1;
      leads_as = resolve_child K nodes path (target_folder nodes path) v (some_name path other) (unwrapped (resolve nodes (folder_part path)) led.0);
    }

-- a new node
abbrev pub NewChecks : Capacity → Rows → List (List ℕ) → Rows → List Check → Type 0
NewChecks K R path after more = first ((AlreadyExists when is_root path) ∷ (PathNotFound when not (leads_to_folder R.nodes (folder_part path))) ∷ (AlreadyExists when leads R.nodes path) ∷ volume_full K after ∷ names_full K after ∷ more) ≡ None

pub record NewParts (K : Capacity) (nodes after : List NodeRow) (path : List (List ℕ)) : Type 0 where
  pub place : IsPlace nodes path
  pub free : leads nodes path ≡ false
  pub few : length after ≤ K.nodes
  pub names : name_bytes after ≤ K.names

pub new_parts : (K : Capacity) (R : Rows) (path : List (List ℕ)) (after : Rows) (more : List Check) → IsVolume K R.nodes → NewChecks K R path after more → (NewParts K R.nodes after.nodes path) × (first more ≡ None)
new_parts K R path after more v h =
    let names = names_full K after ∷ more in
    let volume = volume_full K after ∷ names in
    let taken = (AlreadyExists when leads R.nodes path) ∷ volume in
    let folder = (PathNotFound when not (leads_to_folder R.nodes (folder_part path))) in
    let a = first_none (AlreadyExists when is_root path) (folder ∷ taken) h in
    let b = first_none folder taken a.1 in
    let c = first_none (AlreadyExists when leads R.nodes path) volume b.1 in
    let d = first_none (volume_full K after) names c.1 in
    let e = first_none (names_full K after) more d.1 in
    let parts : NewParts K R.nodes after.nodes path = record {
      place = place_at K R.nodes path v (when_none AlreadyExists (is_root path) a.0) b.0;
      free = when_none AlreadyExists (leads R.nodes path) c.0;
      few = ge_is _ _ (when_none VolumeFull (nat_lt K.nodes (length after.nodes)) d.0);
      names = ge_is _ _ (when_none NamesFull (nat_lt K.names (name_bytes after.nodes)) e.0);
    } in
    (parts, e.1)

-- no child of the folder has the name
childless : (o : Option NodeRow) → is_some (option_map number o) ≡ false → is_some o ≡ false
childless None h = refl
childless (Some r) h = h

pub new_alone : (nodes : List NodeRow) (path : List (List ℕ)) → IsPlace nodes path → leads nodes path ≡ false → is_some (child_of nodes (target_folder nodes path) (last_name path)) ≡ false
new_alone nodes path p free = childless (child_of nodes (target_folder nodes path) (last_name path)) (ap is_some (sym p.leads_as) ∙ free)

-- room for the quotas that come
pub record HasRoom (after : Rows) : Type 0 where
  pub few : length after.quotas ≤ most_quotas
  pub short : object_texts after ≤ most_text_bytes

pub room_parts : (after : Rows) (more : List Check) → first (table_full after ∷ texts_full after ∷ more) ≡ None → HasRoom after × (first more ≡ None)
room_parts after more h =
    let a = first_none (table_full after) (texts_full after ∷ more) h in
    let b = first_none (texts_full after) more a.1 in
    let room : HasRoom after = record {
      few = ge_is _ _ (when_none TableFull (nat_lt most_quotas (length after.quotas)) a.0);
      short = ge_is _ _ (when_none TextsFull (nat_lt most_text_bytes (object_texts after)) b.0);
    } in
    (room, b.1)

-- a removal
pub may_go : (K : Capacity) (R : Rows) (path : List (List ℕ)) → IsVolume K R.nodes → first (remove_checks R path) ≡ None → MayGo R.nodes (target R.nodes path)
may_go K R path v h =
    let x = target R.nodes path in
    let full = not (length (children R.nodes x) == 0) in
    let last = (NotEmpty when full) in
    let a = first_none (PathNotFound when not (leads R.nodes path)) ((InvalidMove when is_root path) ∷ last ∷ []) h in
    let b = first_none (InvalidMove when is_root path) (last ∷ []) a.1 in
    let c = first_none last [] b.1 in
    let there = not_false (leads R.nodes path) (when_none PathNotFound (not (leads R.nodes path)) a.0) in
    let found = has_found number x R.nodes (target_has K R.nodes path v there) in
    let none : length (children R.nodes x) ≡ 0 = eq_is (length (children R.nodes x)) 0 (not_false (length (children R.nodes x) == 0) (when_none NotEmpty full c.0)) in
    record {
      inner = inner_target K R.nodes path v there (when_none InvalidMove (is_root path) b.0);
      row = found.row;
      found = found.is;
      leaf = none_filtered (is_child x) R.nodes none;
    }

-- a move
pub record MoveParts (K : Capacity) (R : Rows) (from to : List (List ℕ)) (after : Rows) : Type 0 where
  pub inner : (target R.nodes from == 0) ≡ false
  pub row : NodeRow
  pub found : node_of R.nodes (target R.nodes from) ≡ Some row
  pub place : IsPlace R.nodes to
  pub apart : is_under R.nodes (target R.nodes from) (target_folder R.nodes to) ≡ false
  pub alone : leads_to_other R.nodes to (target R.nodes from) ≡ false
  pub names : name_bytes after.nodes ≤ K.names
  pub room : HasRoom after
  pub unexceeded : exceeded K R after.nodes ≡ None

pub move_parts : (K : Capacity) (R : Rows) (from to : List (List ℕ)) (after : Rows) → IsVolume K R.nodes → first (move_checks K R from to after) ≡ None → MoveParts K R from to after
move_parts K R from to after v h =
    let old = R.nodes in
    let x = target old from in
    let d = target_folder old to in
    let in_folder = leads_to_folder old (folder_part to) in
    let below = leads_to_folder old from && is_under old x d in
    let c9 = exceeded K R after.nodes ∷ [] in
    let c8 = blocked (judged_name R (Move from to)) ∷ c9 in
    let c7 = names_full K after ∷ table_full after ∷ texts_full after ∷ c8 in
    let c6 = (AlreadyExists when leads_to_other old to x) ∷ c7 in
    let c5 = (InvalidMove when below) ∷ c6 in
    let c4 = (PathNotFound when not in_folder) ∷ c5 in
    let c3 = (AlreadyExists when is_root to) ∷ c4 in
    let a1 = first_none (PathNotFound when not (leads old from)) ((InvalidMove when is_root from) ∷ c3) h in
    let a2 = first_none (InvalidMove when is_root from) c3 a1.1 in
    let a3 = first_none (AlreadyExists when is_root to) c4 a2.1 in
    let a4 = first_none (PathNotFound when not in_folder) c5 a3.1 in
    let a5 = first_none (InvalidMove when below) c6 a4.1 in
    let a6 = first_none (AlreadyExists when leads_to_other old to x) c7 a5.1 in
    let a7 = first_none (names_full K after) (table_full after ∷ texts_full after ∷ c8) a6.1 in
    let roomy = room_parts after c8 a7.1 in
    let a8 = first_none (blocked (judged_name R (Move from to))) c9 roomy.1 in
    let there = not_false (leads old from) (when_none PathNotFound (not (leads old from)) a1.0) in
    let found = has_found number x old (target_has K old from v there) in
    let place = place_at K old to v (when_none AlreadyExists (is_root to) a3.0) a4.0 in
    let d_has = folder_has old d place.folder in
    record {
      inner = inner_target K old from v there (when_none InvalidMove (is_root from) a2.0);
      row = found.row;
      found = found.is;
      place = place;
      apart = not_true (is_under old x d) (λ u. elim (is_or_not (is_folder old x)) [
        | inl e ↦
            let leads_x : leads_to_folder old from ≡ true = ap (λ o. option_map_or (is_folder old) o false) (unwrapped (resolve old from) there) ∙ e in
            clash below (both_true (leads_to_folder old from) (is_under old x d) leads_x u) (when_none InvalidMove below a5.0)
        | inr e ↦ clash (is_folder old x) (subst (λ (j : ℕ). is_folder old j ≡ true) (below_file K old x d v e d_has u) place.folder) e
      ]);
      alone = when_none AlreadyExists (leads_to_other old to x) a6.0;
      names = ge_is _ _ (when_none NamesFull (nat_lt K.names (name_bytes after.nodes)) a7.0);
      room = roomy.0;
      unexceeded = (first_none (exceeded K R after.nodes) [] a8.1).0;
    }

-- whoever has the place is the moved node
same_one : (o : Option ℕ) (k x : ℕ) → option_map_or (λ n. not (n == x)) o false ≡ false → o ≡ Some k → k ≡ x
same_one None k x h e = absurd (cc e)
same_one (Some n) k x h e =
    let same : n ≡ k = cc e in
    sym same ∙ eq_is n x (not_false (n == x) h)

pub move_alone : (nodes : List NodeRow) (to : List (List ℕ)) (x : ℕ) → IsPlace nodes to → leads_to_other nodes to x ≡ false → (s : NodeRow) → child_of nodes (target_folder nodes to) (last_name to) ≡ Some s → s.number ≡ x
move_alone nodes to x p alone s found = same_one (resolve nodes to) s.number x alone (p.leads_as ∙ ap (option_map number) found)
