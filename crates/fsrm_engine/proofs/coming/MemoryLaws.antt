-- Which commands may run out of memory, by what the engine finds of them.
use Rattle.std.proofs.Common.{◌≡◌, ℕ, not, true, List, Option, ap, sym, ◌∙◌}
use Rattle.std.specs.Prelude.{is_some, Result, Ok, Err, OnErr}
use Rattle.fsrm_base.proofs.TestLaws.{both_true}
use Rattle.fsrm_model.specs.declared.command.Deed.TheVariants.{File}
use Rattle.fsrm_model.specs.declared.command.FileOp.TheVariants.{Mkdir, Move}
use Rattle.fsrm_model.specs.declared.row.NodeRow.{NodeRow}
use Rattle.fsrm_model.specs.objects.AutoApply.{template_for}
use Rattle.fsrm_model.specs.nodes.FileOps.{target_folder}
use Rattle.fsrm_model.specs.nodes.Leads.{leads_to_folder}
use Rattle.fsrm_model.specs.nodes.Tree.{folder_part, last_name}
use Rattle.fsrm_parts.specs.declared.moves.Moving.{Moving}
use Rattle.fsrm_engine.specs.declared.parts.Parts.{Parts}
use Rattle.fsrm_engine.specs.Machine.{rows_of}
use Rattle.fsrm_engine.specs.Memory.{may_want_memory}
use Rattle.fsrm_engine.specs.Moves.{IsMove}
use Rattle.fsrm_parts.specs.Places.{IsFolder, IsPlace}
use Rattle.fsrm_parts.proofs.walks.PlaceLaws.{leads_to_folder_is, place_folder, target_is}

-- and what follows from it
pub err_with : {A E P Q : Type 0} (r : Result A E) → (P → Q) → OnErr r P → OnErr r Q
err_with (Ok x) f h = tt
err_with (Err e) f h = f h

-- a path leads to a folder
pub folder_wants : (nodes : List NodeRow) (path : List (List ℕ)) (n : ℕ) → IsFolder nodes path n → leads_to_folder nodes path ≡ true
folder_wants nodes path n at = leads_to_folder_is nodes path n at.resolved ∙ at.folder

-- a folder is made that gets a quota
pub made_wants : (p : Parts) (path : List (List ℕ)) (owner d : ℕ) (name : List ℕ) (source : Option ℕ) → IsPlace p.tree.nodes path d name → source ≡ template_for p.templates.autos d name → is_some source ≡ true → may_want_memory (rows_of p) (File (Mkdir path owner)) ≡ true
made_wants p path owner d name source at is some =
    let autos = p.templates.autos in
    let gets : is_some (template_for autos (target_folder p.tree.nodes path) (last_name path)) ≡ true =
    ap (λ k. is_some (template_for autos k (last_name path))) (target_is p.tree.nodes (folder_part path) d at.resolved)
    ∙ (ap (λ text. is_some (template_for autos d text)) at.name_is
    ∙ (sym (ap is_some is) ∙ some)) in
    both_true _ _ (ap not at.inner) (both_true _ _ (place_folder p.tree.nodes path d name at) gets)

-- a folder moves
pub moved_wants : (p : Parts) (from to : List (List ℕ)) (v : Moving) → IsMove p.tree from to v → v.folder ≡ true → may_want_memory (rows_of p) (File (Move from to)) ≡ true
moved_wants p from to v is folder = leads_to_folder_is p.tree.nodes from v.node is.resolved ∙ (is.kind ∙ folder)
