-- Why no node can be made at a path.
use Rattle.std.proofs.Common.{◌≡◌, ℕ, Bool, true, false, not, List, [], ◌∷◌, Option, Some, refl, ap, ◌∙◌}
use Rattle.std.specs.Prelude.{option_map}
use Rattle.fsrm_model.specs.declared.command.Refusal.{Refusal}
use Rattle.fsrm_model.specs.declared.command.Refusal.TheVariants.{AlreadyExists, PathNotFound}
use Rattle.fsrm_model.specs.commands.Check.{◌when◌, first}
use Rattle.fsrm_model.specs.nodes.FileOps.{target_folder}
use Rattle.fsrm_model.specs.nodes.Leads.{is_root, leads_to_folder}
use Rattle.fsrm_model.specs.nodes.Tree.{folder_part, last_name, resolve}
use Rattle.volume_tree.specs.declared.answer.TreeFault.{TreeFault}
use Rattle.volume_tree.specs.Volume.{Volume, new_fault}
use Rattle.fsrm_parts.specs.Faults.{new_refusal, refusal_of}
use Rattle.fsrm_parts.specs.Places.{IsPlace, IsRefusedPlace}
use Rattle.fsrm_parts.proofs.tables.AnswerLaws.{last_check}
use Rattle.fsrm_parts.proofs.walks.PlaceLaws.{place_folder, target_is}

tree_last : (root folder : Bool) (o : Option Refusal) → root ≡ false → folder ≡ true → first ((AlreadyExists when root) ∷ (PathNotFound when not folder) ∷ o ∷ []) ≡ o
tree_last root folder o r f = rw (r, f) (last_check o)

-- the path names no place
stray_root : (root folder : Bool) (o : Option Refusal) → root ≡ true → first ((AlreadyExists when root) ∷ (PathNotFound when not folder) ∷ o ∷ []) ≡ Some AlreadyExists
stray_root root folder o r = rw r refl

stray_folder : (root folder : Bool) (o : Option Refusal) → root ≡ false → folder ≡ false → first ((AlreadyExists when root) ∷ (PathNotFound when not folder) ∷ o ∷ []) ≡ Some PathNotFound
stray_folder root folder o r f = rw (r, f) refl

pub stray_new : (v : Volume) (path : List (List ℕ)) (refusal : Refusal) → IsRefusedPlace v.nodes path refusal → new_refusal v path ≡ Some refusal
stray_new v path AlreadyExists h = stray_root (is_root path) (leads_to_folder v.nodes (folder_part path)) _ h
stray_new v path PathNotFound h = stray_folder (is_root path) (leads_to_folder v.nodes (folder_part path)) _ h.0 h.1
stray_new v path other h = absurd h

-- or else it is the tree's fault
pub in_folder : (v : Volume) (path : List (List ℕ)) (d : ℕ) → is_root path ≡ false → leads_to_folder v.nodes (folder_part path) ≡ true → resolve v.nodes (folder_part path) ≡ Some d → new_refusal v path ≡ option_map refusal_of (new_fault v d (last_name path))
in_folder v path d inner folder at =
    tree_last (is_root path) (leads_to_folder v.nodes (folder_part path)) (option_map refusal_of (new_fault v (target_folder v.nodes path) (last_name path))) inner folder
    ∙ ap (λ n. option_map refusal_of (new_fault v n (last_name path))) (target_is v.nodes (folder_part path) d at)

pub at_place : (v : Volume) (path : List (List ℕ)) (d : ℕ) (name : List ℕ) → IsPlace v.nodes path d name → new_refusal v path ≡ option_map refusal_of (new_fault v d name)
at_place v path d name p =
    in_folder v path d p.inner (place_folder v.nodes path d name p) p.resolved ∙ ap (λ t. option_map refusal_of (new_fault v d t)) p.name_is

pub faulty_new : (v : Volume) (path : List (List ℕ)) (d : ℕ) (name : List ℕ) (fault : TreeFault) → IsPlace v.nodes path d name → new_fault v d name ≡ Some fault → new_refusal v path ≡ Some (refusal_of fault)
faulty_new v path d name fault p h = at_place v path d name p ∙ ap (option_map refusal_of) h
