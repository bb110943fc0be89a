use Rattle.std.proofs.Common.{◌≡◌, ℕ, ◌+◌, ◌≤◌, Some, List, [], ◌∷◌, ◌++◌, length, ◌∙◌, ap, sym, arith}
use Rattle.std.specs.List.{list_all}
use Rattle.fsrm_base.specs.Keyed.{has_row}
use Rattle.fsrm_model.specs.commands.Entry.{path_length}
use Rattle.fsrm_model.specs.declared.command.FileOp.TheVariants.{Move}
use Rattle.fsrm_model.specs.declared.row.NodeRow.{NodeRow}
use Rattle.fsrm_model.specs.nodes.Tree.{name_of, number, path_of}
use Rattle.fsrm_model.specs.values.Name.{is_name}
use Rattle.fsrm_model.proofs.nodes.Walks.{found_name}
use Rattle.fsrm_model.proofs.valid.ValidLaws.{folder_has}
use Rattle.node_table.specs.Views.{seen}
use Rattle.tree_walk.proofs.Shown.{seen_found}
use Rattle.file_jobs.specs.Moves.{most_bytes, moved_path, text_of}
use Rattle.file_jobs.proofs.MoveLaws.{file_has, legal_move, legal_moved, legal_path, short}
use Rattle.file_jobs.proofs.moves.move_of.Goals as goal

pub path_text-requires : goal.path_text-requires
path_text-requires g c = file_has c.args.engine.now.rows.nodes c.args.node c.requires.file

pub node-requires : goal.node-requires
node-requires g c = ap (λ (ns : List NodeRow). has_row number c.args.node ns) c.tree.ensures.nodes ∙ file_has c.args.engine.now.rows.nodes c.args.node c.requires.file

pub returns-clause-op : goal.returns-clause-op
returns-clause-op g c =
    let nodes = c.args.engine.now.rows.nodes in
    let node = c.args.node in
    let view = c.node.result in
    let v = c.tree.ensures.volume in
    let from : c.as_str-from.result.now ≡ text_of (path_of nodes node) = c.as_str-from.ensures ∙ c.in_ok-from.ensures.text in
    let name : view.name.now ≡ name_of nodes node =
    sym (found_name c.tree.result.now.nodes node (seen view) (seen_found view c.tree.result.now.nodes node c.node.ensures.view)) ∙ ap (λ (ns : List NodeRow). name_of ns node) c.tree.ensures.nodes in
    let moved : c.as_str-moved.result.now ≡ text_of (moved_path nodes node c.args.to) =
    c.as_str-moved.ensures.value ∙ (c.in_ok-moved.ensures.text ∙ ap (λ (bs : List ℕ). text_of (path_of nodes c.args.to ++ bs ∷ [])) name) in
    let few : length c.as_str-from.result.now + length c.as_str-moved.result.now ≤ most_bytes = omega (arith, c.saturating_add.ensures) in
    let one = c.in_ok-from-2.ensures (path_of nodes node) (legal_path c.args.engine.now.size nodes node v (file_has nodes node c.requires.file)) from in
    let two = c.in_ok-to.ensures (moved_path nodes node c.args.to) (legal_moved c.args.engine.now.size nodes node c.args.to v c.requires.file (folder_has nodes c.args.to c.requires.folder)) moved in
    ap (λ (p : List (List ℕ)). Some (Move p c.in_ok-to.to)) one
    ∙ (ap (λ (p : List (List ℕ)). Some (Move (path_of nodes node) p)) two ∙ short nodes node c.args.to c.as_str-from.result.now c.as_str-moved.result.now from moved few)

pub returns-clause-valid : goal.returns-clause-valid
returns-clause-valid g c moment legal =
    let nodes = c.args.engine.now.rows.nodes in
    let node = c.args.node in
    let view = c.node.result in
    let v = c.tree.ensures.volume in
    let from : c.as_str-from.result.now ≡ text_of (path_of nodes node) = c.as_str-from.ensures ∙ c.in_ok-from.ensures.text in
    let name : view.name.now ≡ name_of nodes node =
    sym (found_name c.tree.result.now.nodes node (seen view) (seen_found view c.tree.result.now.nodes node c.node.ensures.view)) ∙ ap (λ (ns : List NodeRow). name_of ns node) c.tree.ensures.nodes in
    let moved : c.as_str-moved.result.now ≡ text_of (moved_path nodes node c.args.to) =
    c.as_str-moved.ensures.value ∙ (c.in_ok-moved.ensures.text ∙ ap (λ (bs : List ℕ). text_of (path_of nodes c.args.to ++ bs ∷ [])) name) in
    let few : length c.as_str-from.result.now + length c.as_str-moved.result.now ≤ most_bytes = omega (arith, c.saturating_add.ensures) in
    let legal_from = legal_path c.args.engine.now.size nodes node v (file_has nodes node c.requires.file) in
    let legal_to = legal_moved c.args.engine.now.size nodes node c.args.to v c.requires.file (folder_has nodes c.args.to c.requires.folder) in
    let one = c.in_ok-from-2.ensures (path_of nodes node) legal_from from in
    let two = c.in_ok-to.ensures (moved_path nodes node c.args.to) legal_to moved in
    legal_move c.in_ok-from-2.from c.in_ok-to.to moment (ap (list_all is_name) one ∙ legal_from) (ap (list_all is_name) two ∙ legal_to)
    (omega (arith, few, ap (λ (bs : List ℕ). length bs) from, ap (λ (bs : List ℕ). length bs) moved, ap path_length one, ap path_length two)) legal
