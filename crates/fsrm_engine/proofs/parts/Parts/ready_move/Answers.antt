use Rattle.std.proofs.Common.{Some, ap, sym, ◌∙◌, arith}
use Rattle.fsrm_base.proofs.TestLaws.{is_inner}
use Rattle.fsrm_model.specs.texts.Text.{is_bare}
use Rattle.fsrm_engine.proofs.operations.MoveLaws.{move_faulty, move_root, stray_due}
use Rattle.fsrm_parts.proofs.walks.PlaceLaws.{has_resolved, place_bare, place_depth, shown_folder, shown_owner, shown_parent}
use Rattle.fsrm_engine.proofs.steps.StepLaws.{tree_bare}
use Rattle.fsrm_engine.proofs.parts.Parts.ready_move.Goals as goal

pub ready_move-requires-clause-there : goal.ready_move-requires-clause-there
ready_move-requires-clause-there g c = has_resolved _ _ _ _ c.requires (sym c.in-Some.ensures.value)

pub node-view-requires : goal.node-view-requires
node-view-requires g c = has_resolved _ _ _ _ c.requires (sym c.in-Some.ensures.value)

pub returns-then-node-eq0-clause-err : goal.returns-then-node-eq0-clause-err
returns-then-node-eq0-clause-err g c = λ m. move_root c.args.self.now m _ _ _ c.requires (sym c.in-Some.ensures.value) c.if-node-eq0.true

pub returns-in-Err-clause-err : goal.returns-in-Err-clause-err
returns-in-Err-clause-err g c = λ m. stray_due c.args.self.now m _ _ _ _ c.requires (sym c.in-Some.ensures.value) (is_inner _ c.if-node-eq0.false) c.in-Err.ensures.err

pub returns-in-Err-clause-bare : goal.returns-in-Err-clause-bare
returns-in-Err-clause-bare g c = place_bare c.args.self.now.tree.nodes c.args.to.now _ c.in-Err.ensures.err

pub returns-clause-ok : goal.returns-clause-ok
returns-clause-ok g c =
    let nodes = c.args.self.now.tree.nodes in
    let n = c.in-Some.node in
    let shows = c.node-view.ensures.view in
    record {
      resolved = sym c.in-Some.ensures.value;
      inner = is_inner _ c.if-node-eq0.false;
      at = c.in-Ok.ensures.ok;
      may = c.in-Ok-ready_move.ensures.may;
      parent = shown_parent nodes n c.node-view.result shows;
      owner = shown_owner nodes n c.node-view.result shows;
      kind = shown_folder nodes n c.node-view.result shows;
    }

pub returns-in-Err-ready_move-clause-err : goal.returns-in-Err-ready_move-clause-err
returns-in-Err-ready_move-clause-err g c =
    λ m. move_faulty c.args.self.now m c.args.from.now c.args.to.now c.in-Some.node c.in-Ok.place.folder c.in-Ok.place.name.now c.in-Err-ready_move.fault c.requires (sym c.in-Some.ensures.value) (is_inner _ c.if-node-eq0.false) c.in-Ok.ensures.ok
    c.in-Err-ready_move.ensures.refused
    ∙ ap (λ refusal. Some refusal) (sym c.refusal_of.ensures)

pub returns-in-Err-ready_move-clause-bare : goal.returns-in-Err-ready_move-clause-bare
returns-in-Err-ready_move-clause-bare g c = ap is_bare c.refusal_of.ensures ∙ tree_bare c.in-Err-ready_move.fault

pub returns-in-Err-ready_move-clause-looks : goal.returns-in-Err-ready_move-clause-looks
returns-in-Err-ready_move-clause-looks g c =
    omega (arith, c.in-Some.ensures.looks, c.in-Ok.ensures.looks, c.in-Err-ready_move.ensures.looks, place_depth _ _ _ _ _ c.requires c.in-Ok.ensures.ok)

pub returns-clause-looks : goal.returns-clause-looks
returns-clause-looks g c =
    omega (arith, c.in-Some.ensures.looks, c.in-Ok.ensures.looks, c.in-Ok-ready_move.ensures.looks, c.node-view.ensures.count, place_depth _ _ _ _ _ c.requires c.in-Ok.ensures.ok)
