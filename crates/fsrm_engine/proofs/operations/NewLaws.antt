-- The refusals of a new node are the faults of the tree.
use Rattle.std.proofs.Common.{◌≡◌, ℕ, suc, ◌+◌, Bool, true, false, not, List, [], ◌∷◌, length, Option, Some, None, nat_lt, refl, ap, sym, ◌∙◌, arith}
use Rattle.std.proofs.lemmas.Bool.Decides.{nat_tests}
use Rattle.std.proofs.lemmas.Option.{same_Some}
use Rattle.std.specs.Prelude.{is_some, nat_le, option_map, unwrap_or}
use Rattle.std.specs.Option.{option_map_or}
use Rattle.fsrm_model.specs.declared.command.Deed.TheVariants.{File}
use Rattle.fsrm_model.specs.declared.command.FileOp.{FileOp}
use Rattle.fsrm_model.specs.declared.command.FileOp.TheVariants.{Mkdir, Create}
use Rattle.fsrm_model.specs.declared.command.Refusal.{Refusal}
use Rattle.fsrm_model.specs.declared.command.Refusal.TheVariants.{AlreadyExists, PathNotFound, VolumeFull, NamesFull}
use Rattle.fsrm_model.specs.declared.row.Capacity.{Capacity}
use Rattle.fsrm_model.specs.declared.row.NodeRow.{NodeRow}
use Rattle.fsrm_model.specs.commands.Check.{Check, ◌when◌, first, table_full, texts_full}
use Rattle.fsrm_model.specs.objects.Quota.{exceeded}
use Rattle.fsrm_model.specs.nodes.FileOps.{made_node, new_node, target_folder}
use Rattle.fsrm_model.specs.commands.FileWork.{blocked, file_effect, judged_name}
use Rattle.fsrm_base.specs.Keyed.{with_row}
use Rattle.fsrm_model.specs.nodes.Leads.{is_root, leads, leads_to_folder}
use Rattle.fsrm_model.specs.texts.Text.{is_bare}
use Rattle.fsrm_model.specs.nodes.Tree.{number, folder_part, last_name, child_number, is_folder, name_bytes, resolve}
use Rattle.fsrm_model.specs.store.Valid.{IsVolume}
use Rattle.fsrm_base.proofs.Order.{length-with_row}
use Rattle.fsrm_model.proofs.nodes.Resolves.{resolve_child, some_name}
use Rattle.fsrm_model.proofs.nodes.Sizes.{name_bytes-new}
use Rattle.volume_tree.specs.declared.answer.TreeFault.{TreeFault}
use Rattle.volume_tree.specs.declared.answer.TreeFault.TheVariants as fault
use Rattle.volume_tree.specs.Volume.{Volume, new_fault, with_node}
use Rattle.fsrm_parts.specs.Faults.{new_refusal, refusal_of}
use Rattle.fsrm_parts.specs.Places.{IsPlace, IsVacant}
use Rattle.fsrm_engine.specs.declared.parts.Parts.{Parts}
use Rattle.fsrm_engine.specs.Machine.{rows_of}
use Rattle.fsrm_engine.proofs.steps.StepLaws.{due, or_else, tree_bare, tree_first}
use Rattle.fsrm_parts.proofs.tables.AnswerLaws.{last_check}
use Rattle.fsrm_parts.proofs.walks.VacantLaws.{at_place, in_folder}

-- the checks that the tree makes too
listed : (taken full long : Bool) (more : List Check) → first (None ∷ None ∷ (AlreadyExists when taken) ∷ (VolumeFull when full) ∷ (NamesFull when long) ∷ more) ≡ tree_first (first ((fault.AlreadyExists when taken) ∷ (fault.VolumeFull when full) ∷ (fault.NamesFull when long) ∷ [])) (first more)
listed true full long more = refl
listed false true long more = refl
listed false false true more = refl
listed false false false more = refl

listed_at : (root folder taken full long taken' full' long' : Bool) (more : List Check) → root ≡ false → folder ≡ true → taken ≡ taken' → full ≡ full' → long ≡ long' → first ((AlreadyExists when root) ∷ (PathNotFound when not folder) ∷ (AlreadyExists when taken) ∷ (VolumeFull when full) ∷ (NamesFull when long) ∷ more) ≡ tree_first (first ((fault.AlreadyExists when taken') ∷ (fault.VolumeFull when full') ∷ (fault.NamesFull when long') ∷ [])) (first more)
listed_at root folder taken full long taken' full' long' more r f t u l = rw (r, f, t, u, l) (listed taken' full' long' more)

-- one node more than fits is one that finds no room
full_test : (most n m : ℕ) → m ≡ suc n → nat_lt most m ≡ nat_le most n
full_test most n m h = grind (arith, nat_tests)

-- ---- why no node can be made at a path
root_first : (root folder : Bool) (o more : Option Refusal) (rest : List Check) → root ≡ true → first ((AlreadyExists when root) ∷ (PathNotFound when not folder) ∷ rest) ≡ or_else (first ((AlreadyExists when root) ∷ (PathNotFound when not folder) ∷ o ∷ [])) more
root_first root folder o more rest r = rw r refl

folder_first : (root folder : Bool) (o more : Option Refusal) (rest : List Check) → root ≡ false → folder ≡ false → first ((AlreadyExists when root) ∷ (PathNotFound when not folder) ∷ rest) ≡ or_else (first ((AlreadyExists when root) ∷ (PathNotFound when not folder) ∷ o ∷ [])) more
folder_first root folder o more rest r f = rw (r, f) refl

vacant_new : (v : Volume) (path : List (List ℕ)) (d : ℕ) (name : List ℕ) → IsVacant v path d name → new_refusal v path ≡ None
vacant_new v path d name free = at_place v path d name free.at ∙ ap (option_map refusal_of) free.may

-- none of these is by a screen or a quota
pub new_bare : (v : Volume) (path : List (List ℕ)) (refusal : Refusal) → new_refusal v path ≡ Some refusal → is_bare refusal ≡ true
new_bare v path refusal h = at (is_root path) (leads_to_folder v.nodes (folder_part path)) (new_fault v (target_folder v.nodes path) (last_name path)) h
  where
    at : (root folder : Bool) (o : Option TreeFault) → first ((AlreadyExists when root) ∷ (PathNotFound when not folder) ∷ option_map refusal_of o ∷ []) ≡ Some refusal → is_bare refusal ≡ true
    at true folder o h = sym (ap is_bare (same_Some _ refusal h))
    at false false o h = sym (ap is_bare (same_Some _ refusal h))
    at false true None h = cc h
    at false true (Some fault) h = sym (ap is_bare (same_Some (refusal_of fault) refusal h)) ∙ tree_bare fault

-- these come first
checks_are : (K : Capacity) (nodes new : List NodeRow) (path : List (List ℕ)) (more : List Check) → IsVolume K nodes → length new ≡ suc (length nodes) → name_bytes new ≡ name_bytes nodes + length (last_name path) →
    first ((AlreadyExists when is_root path) ∷ (PathNotFound when not (leads_to_folder nodes (folder_part path))) ∷ (AlreadyExists when leads nodes path) ∷ (VolumeFull when nat_lt K.nodes (length new)) ∷ (NamesFull when nat_lt K.names (name_bytes new)) ∷ more) ≡ or_else (new_refusal (record { size = K; nodes = nodes }) path) (first more)
checks_are K nodes new path more k longer bytes = by_root (is_root path) refl
  where
    v : Volume
    v = record { size = K; nodes = nodes }

    rest : List Check
    rest = (AlreadyExists when leads nodes path) ∷ (VolumeFull when nat_lt K.nodes (length new)) ∷ (NamesFull when nat_lt K.names (name_bytes new)) ∷ more

    all : List Check
    all = (AlreadyExists when is_root path) ∷ (PathNotFound when not (leads_to_folder nodes (folder_part path))) ∷ rest

    fault_in : ℕ → Option Refusal
    fault_in d = option_map refusal_of (new_fault v d (last_name path))

    by_place : is_root path ≡ false → (o : Option ℕ) → resolve nodes (folder_part path) ≡ o → (b : Bool) → leads_to_folder nodes (folder_part path) ≡ b → option_map_or (is_folder nodes) o false ≡ b → first all ≡ or_else (new_refusal v path) (first more)
    by_place inner o e false f g = folder_first (is_root path) (leads_to_folder nodes (folder_part path)) (fault_in (target_folder nodes path)) (first more) rest inner f
    by_place inner None e true f g = cc g
    by_place inner (Some d) e true f g =
        listed_at (is_root path) (leads_to_folder nodes (folder_part path)) (leads nodes path) (nat_lt K.nodes (length new)) (nat_lt K.names (name_bytes new))
        (is_some (child_number nodes d (last_name path))) (nat_le K.nodes (length nodes)) (nat_lt K.names (name_bytes nodes + length (last_name path))) more
        inner f (ap is_some (resolve_child K nodes path d k (some_name path inner) e)) (full_test K.nodes (length nodes) (length new) longer) (ap (λ n. nat_lt K.names n) bytes)
        ∙ ap (λ o. or_else o (first more)) (sym (in_folder v path d inner f e))

    by_root : (b : Bool) → is_root path ≡ b → first all ≡ or_else (new_refusal v path) (first more)
    by_root true r = root_first (is_root path) (leads_to_folder nodes (folder_part path)) (fault_in (target_folder nodes path)) (first more) rest r
    by_root false r = by_place r (resolve nodes (folder_part path)) refl (leads_to_folder nodes (folder_part path)) refl refl

bytes_made : (nodes : List NodeRow) (path : List (List ℕ)) (node : NodeRow) → node.name ≡ last_name path → name_bytes (with_row number node nodes) ≡ name_bytes nodes + length (last_name path)
bytes_made nodes path node is = name_bytes-new nodes node ∙ ap (λ t. name_bytes nodes + length t) is

-- the node of a place is the new node of its path
pub made_is : (v : Volume) (path : List (List ℕ)) (d : ℕ) (name : List ℕ) (folder : Bool) (bytes owner m : ℕ) → IsPlace v.nodes path d name → with_node v (made_node v.nodes d name folder bytes owner m) ≡ with_node v (new_node v.nodes path folder bytes owner m)
made_is v path d name folder bytes owner m p =
    sym (ap (λ o. with_node v (made_node v.nodes (unwrap_or o 0) (last_name path) folder bytes owner m)) p.resolved
    ∙ ap (λ t. with_node v (made_node v.nodes d t folder bytes owner m)) p.name_is)

-- a screen that blocks comes before quotas
pub two_checks : (by over : Check) → first (by ∷ over ∷ []) ≡ or_else by over
two_checks None over = last_check over
two_checks (Some refusal) over = refl

pub some_by : (by over : Option Refusal) (refusal : Refusal) → by ≡ Some refusal → or_else by over ≡ Some refusal
some_by by over refusal is = ap (λ o. or_else o over) is

pub none_by : (by over : Option Refusal) → by ≡ None → or_else by over ≡ over
none_by by over none = ap (λ o. or_else o over) none

-- ---- the refusal that is due
-- what there is no room for, of the quotas and texts that an operation would leave
abbrev pub room_after : Parts → ℕ → FileOp → Option Refusal
room_after p m op = first (table_full (file_effect (rows_of p) op m) ∷ texts_full (file_effect (rows_of p) op m) ∷ [])

-- to a new folder
pub mkdir_due : (p : Parts) (m : ℕ) (path : List (List ℕ)) (owner : ℕ) → IsVolume p.tree.size p.tree.nodes → due p m (File (Mkdir path owner)) ≡ or_else (new_refusal p.tree path) (room_after p m (Mkdir path owner))
mkdir_due p m path owner k =
    let nodes = p.tree.nodes in
    let node = new_node nodes path true 0 owner m in
    let E = file_effect (rows_of p) (Mkdir path owner) m in
    checks_are p.tree.size nodes (with_row number node nodes) path (table_full E ∷ texts_full E ∷ []) k (length-with_row number node nodes) (bytes_made nodes path node refl)

pub mkdir_free : (p : Parts) (m : ℕ) (path : List (List ℕ)) (owner d : ℕ) (name : List ℕ) → IsVolume p.tree.size p.tree.nodes → IsVacant p.tree path d name → due p m (File (Mkdir path owner)) ≡ room_after p m (Mkdir path owner)
mkdir_free p m path owner d name k free = mkdir_due p m path owner k ∙ ap (λ o. or_else o (room_after p m (Mkdir path owner))) (vacant_new p.tree path d name free)

-- to a new file
abbrev over_new : Parts → ℕ → List (List ℕ) → ℕ → ℕ → Option Refusal
over_new p m path bytes owner = exceeded p.tree.size (rows_of p) (with_row number (new_node p.tree.nodes path false bytes owner m) p.tree.nodes)

create_due : (p : Parts) (m : ℕ) (path : List (List ℕ)) (bytes owner : ℕ) → IsVolume p.tree.size p.tree.nodes → due p m (File (Create path bytes owner)) ≡ or_else (new_refusal p.tree path) (or_else (blocked (judged_name (rows_of p) (Create path bytes owner))) (over_new p m path bytes owner))
create_due p m path bytes owner k =
    let nodes = p.tree.nodes in
    let node = new_node nodes path false bytes owner m in
    let by = blocked (judged_name (rows_of p) (Create path bytes owner)) in
    let over = over_new p m path bytes owner in
    checks_are p.tree.size nodes (with_row number node nodes) path (by ∷ over ∷ []) k (length-with_row number node nodes) (bytes_made nodes path node refl)
    ∙ ap (or_else (new_refusal p.tree path)) (two_checks by over)

pub create_refused : (p : Parts) (m : ℕ) (path : List (List ℕ)) (bytes owner : ℕ) (refusal : Refusal) → IsVolume p.tree.size p.tree.nodes → new_refusal p.tree path ≡ Some refusal → due p m (File (Create path bytes owner)) ≡ Some refusal
create_refused p m path bytes owner refusal k h =
    create_due p m path bytes owner k ∙ ap (λ o. or_else o (or_else (blocked (judged_name (rows_of p) (Create path bytes owner))) (over_new p m path bytes owner))) h

pub create_free : (p : Parts) (m : ℕ) (path : List (List ℕ)) (bytes owner d : ℕ) (name : List ℕ) → IsVolume p.tree.size p.tree.nodes → IsVacant p.tree path d name → due p m (File (Create path bytes owner)) ≡ or_else (blocked (judged_name (rows_of p) (Create path bytes owner))) (exceeded p.tree.size (rows_of p) (with_node p.tree (made_node p.tree.nodes d name false bytes owner m)).nodes)
create_free p m path bytes owner d name k free =
    let by = blocked (judged_name (rows_of p) (Create path bytes owner)) in
    create_due p m path bytes owner k
    ∙ (ap (λ o. or_else o (or_else by (over_new p m path bytes owner))) (vacant_new p.tree path d name free)
    ∙ ap (λ (w : Volume). or_else by (exceeded p.tree.size (rows_of p) w.nodes)) (sym (made_is p.tree path d name false bytes owner m free.at)))
