use Rattle.std.proofs.Common.{◌≡◌, ℕ, ◌<◌, ◌+◌, ◌++◌, ◌∙◌, List, [], ◌∷◌, length, take, get_or, arith, refl, sym, ap, subst}
use Rattle.std.proofs.lemmas.List.{take_more, take_all}
use Rattle.fsrm_base.proofs.Look.{has_found}
use Rattle.fsrm_base.proofs.TestLaws.{lt_is}
use Rattle.fsrm_base.specs.Keyed.{has_row}
use Rattle.fsrm_model.specs.nodes.Tree.{number}
use Rattle.volume_tree.specs.Volume.{Shows}
use Rattle.number_set.specs.Numbers.{Numbers}
use Rattle.rescan.proofs.unvisited.EnterLaws.{Entered, more_entered, folder_entered, file_entered, front_small}
use Rattle.rescan.proofs.visits.enter_nodes.Goals.{then-node, else-node}
use Rattle.rescan.proofs.visits.enter_nodes.Goals as goal

pub insert-requires : goal.insert-requires
insert-requires g c =
    let n = c.number-number.result in
    let below : c.loop-place.place < length c.args.siblings.now = omega (arith, c.len-place-end.ensures, c.loop-place-test.true) in
    let f = has_found number n c.args.tree.now.nodes (ap (λ (m : ℕ). has_row number m c.args.tree.now.nodes) c.number-number.ensures ∙ c.requires.there c.loop-place.place below) in
    let low = lt_is n c.args.tree.now.size.nodes (c.requires.volume.below n f.row f.is) in
    omega (arith, low, ap (λ (s : Numbers). s.bound) c.loop-place.invariant.entered.set, c.requires.room)

pub overflow_add-bytes : goal.overflow_add-bytes
overflow_add-bytes g c =
    let K = c.args.tree.now.size in
    let nodes = c.args.tree.now.nodes in
    let numbers = c.args.siblings.now in
    let k = c.loop-place.place in
    let below : k < length numbers = omega (arith, c.len-place-end.ensures, c.loop-place-test.true) in
    let view = subst (Shows c.node-node.result nodes) c.number-number.ensures c.node-node.ensures.view in
    let one = file_entered K nodes (get_or numbers k 0) c.node-node.result c.loop-place.set c.loop-place.set c.allocated-bytes.result view c.if-node.false refl c.allocated-bytes.ensures.space in
    omega (arith, front_small K nodes numbers k below, one.bytes, c.loop-place.invariant.entered.bytes, c.requires.small)

pub loop-place-preserved : goal.loop-place-preserved
loop-place-preserved g c =
    let K = c.args.tree.now.size in
    let nodes = c.args.tree.now.nodes in
    let numbers = c.args.siblings.now in
    let k = c.loop-place.place in
    let n = c.number-number.result in
    let below : k < length numbers = omega (arith, c.len-place-end.ensures, c.loop-place-test.true) in
    let more : take (k + 1) numbers ≡ take k numbers ++ n ∷ [] = take_more numbers k 0 below ∙ ap (λ (m : ℕ). take k numbers ++ m ∷ []) (sym c.number-number.ensures) in
    record {
      entered = subst (λ (ns : List ℕ). Entered K nodes ns c.args.set.now c.if-node.set c.if-node.bytes) (sym more)
          (elim c.if-node.branch [
            | then-node w ↦ more_entered K nodes (take k numbers) (n ∷ []) c.args.set.now c.loop-place.set c.if-node.set c.loop-place.bytes 0 c.if-node.bytes c.loop-place.invariant.entered (folder_entered K nodes n c.node-node.result c.loop-place.set c.if-node.set c.node-node.ensures.view w.if-node.true (w.set-is ∙ w.insert.ensures)) (omega (arith, w.bytes-is))
            | else-node w ↦ more_entered K nodes (take k numbers) (n ∷ []) c.args.set.now c.loop-place.set c.if-node.set c.loop-place.bytes w.allocated-bytes.result c.if-node.bytes c.loop-place.invariant.entered (file_entered K nodes n c.node-node.result c.loop-place.set c.if-node.set w.allocated-bytes.result c.node-node.ensures.view w.if-node.false w.set-is w.allocated-bytes.ensures.space) w.bytes-is
          ]);
      looks = omega (arith, c.loop-place.invariant.looks, c.node-node.ensures.count);
    }

pub returns-clause-set : goal.returns-clause-set
returns-clause-set g c =
    let all = take_all c.loop-place.place c.args.siblings.now (omega arith) in
    (subst (λ (ns : List ℕ). Entered c.args.tree.now.size c.args.tree.now.nodes ns c.args.set.now c.loop-place.set c.loop-place.bytes) all c.loop-place.invariant.entered).set

pub returns-clause-bytes : goal.returns-clause-bytes
returns-clause-bytes g c =
    let all = take_all c.loop-place.place c.args.siblings.now (omega arith) in
    (subst (λ (ns : List ℕ). Entered c.args.tree.now.size c.args.tree.now.nodes ns c.args.set.now c.loop-place.set c.loop-place.bytes) all c.loop-place.invariant.entered).bytes
