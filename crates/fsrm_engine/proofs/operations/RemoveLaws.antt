-- The refusals of a removal are the faults of the tree.
use Rattle.std.proofs.Common.{◌≡◌, ℕ, ◌==◌, Bool, true, false, not, List, [], ◌∷◌, length, Some, None, refl, ap, ◌∙◌}
use Rattle.fsrm_model.specs.declared.command.Deed.TheVariants.{File}
use Rattle.fsrm_model.specs.declared.command.FileOp.TheVariants.{Remove}
use Rattle.fsrm_model.specs.declared.command.Refusal.TheVariants.{PathNotFound, InvalidMove, NotEmpty}
use Rattle.fsrm_model.specs.commands.Check.{Check, ◌when◌, first}
use Rattle.fsrm_model.specs.nodes.FileOps.{target}
use Rattle.fsrm_model.specs.nodes.Leads.{is_root, leads}
use Rattle.fsrm_model.specs.nodes.Tree.{children, resolve}
use Rattle.fsrm_model.specs.store.Valid.{IsVolume}
use Rattle.volume_tree.specs.declared.answer.TreeFault.TheVariants as fault
use Rattle.volume_tree.specs.Volume.{remove_fault}
use Rattle.fsrm_engine.specs.declared.parts.Parts.{Parts}
use Rattle.fsrm_engine.proofs.steps.StepLaws.{due, tree_first}
use Rattle.fsrm_parts.proofs.walks.PlaceLaws.{root_is, leads_is, target_is}

listed : (full : Bool) → first (None ∷ None ∷ (NotEmpty when full) ∷ []) ≡ tree_first (fault.NotEmpty when full) None
listed true = refl
listed false = refl

listed_at : (there root full full' : Bool) → there ≡ true → root ≡ false → full ≡ full' → first ((PathNotFound when not there) ∷ (InvalidMove when root) ∷ (NotEmpty when full) ∷ []) ≡ tree_first (fault.NotEmpty when full') None
listed_at there root full full' t r f = rw (t, r, f) (listed full')

first_remove : (there root : Bool) (more : List Check) → there ≡ true → root ≡ true → first ((PathNotFound when not there) ∷ (InvalidMove when root) ∷ more) ≡ Some InvalidMove
first_remove there root more t r = rw (t, r) refl

-- the refusal that is due to a removal
pub remove_due : (p : Parts) (m : ℕ) (path : List (List ℕ)) (n : ℕ) → IsVolume p.tree.size p.tree.nodes → resolve p.tree.nodes path ≡ Some n → (n == 0) ≡ false → due p m (File (Remove path)) ≡ tree_first (remove_fault p.tree n) None
remove_due p m path n k h inner =
    let nodes = p.tree.nodes in
    listed_at (leads nodes path) (is_root path) (not (length (children nodes (target nodes path)) == 0)) (not (length (children nodes n) == 0))
    (leads_is nodes path n h) (root_is p.tree.size nodes path n k h ∙ inner) (ap (λ x. not (length (children nodes x) == 0)) (target_is nodes path n h))

-- the root isn't removed
pub remove_root : (p : Parts) (m : ℕ) (path : List (List ℕ)) (n : ℕ) → IsVolume p.tree.size p.tree.nodes → resolve p.tree.nodes path ≡ Some n → n ≡ 0 → due p m (File (Remove path)) ≡ Some InvalidMove
remove_root p m path n k h z =
    first_remove (leads p.tree.nodes path) (is_root path) _ (leads_is p.tree.nodes path n h) (root_is p.tree.size p.tree.nodes path n k h ∙ ap (λ i. i == 0) z)
