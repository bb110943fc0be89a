use Rattle.std.proofs.Common.{◌≡◌, ℕ, ◌++◌, ◌∷◌, [], length, Some, sym, ◌∙◌, ap, arith}
use Rattle.fsrm_model.specs.nodes.Tree.{node_of}
use Rattle.node_table.specs.Views.{seen}
use Rattle.tree_walk.specs.Walk.{inside}
use Rattle.tree_walk.proofs.Shown.{seen_found, seen_number}
use Rattle.tree_walk.proofs.WalkLaws.{takes, takes_looks, stopped_looks}
use Rattle.tree_walk.proofs.walk.Walk.next.Goals as goal

pub returns-in_err-put_inside-clause-most : goal.returns-in_err-put_inside-clause-most
returns-in_err-put_inside-clause-most g c =
    let nodes = c.args.tree.now.nodes in
    let view = c.node-view.result in
    let n = c.in-Some.number in
    let own = seen_number view nodes n c.node-view.ensures.view in
    let same : length (inside nodes view.number) ≡ length (inside nodes n) = ap (λ m. length (inside nodes m)) own in
    stopped_looks c.args.tree.now.size nodes c.args.self.now c.pop.new.self.items n c.requires.volume c.requires.there (sym c.self.view_is ∙ c.in-Some.ensures.items)
    c.args.steps.now c.put_inside.new.steps (omega (arith, c.put_inside.ensures.looks, c.node-view.ensures.count, same))

pub returns-clause-taken : goal.returns-clause-taken
returns-clause-taken g c =
    let nodes = c.args.tree.now.nodes in
    let view = c.node-view.result in
    let n = c.in-Some.number in
    let own = seen_number view nodes n c.node-view.ensures.view in
    let found : node_of nodes view.number ≡ Some (seen view) = ap (node_of nodes) own ∙ seen_found view nodes n c.node-view.ensures.view in
    let last : c.args.self.now ≡ c.pop.new.self.items ++ view.number ∷ [] = sym c.self.view_is ∙ (c.in-Some.ensures.items ∙ ap (λ (m : ℕ). c.pop.new.self.items ++ m ∷ []) (sym own)) in
    takes c.args.tree.now.size nodes c.args.self.now c.pop.new.self.items c.put_inside.new.waiting.items (seen view) c.requires.volume found c.requires.there last c.in_ok-put_inside.ensures.put

pub returns-clause-looks : goal.returns-clause-looks
returns-clause-looks g c =
    let nodes = c.args.tree.now.nodes in
    let view = c.node-view.result in
    let n = c.in-Some.number in
    let own = seen_number view nodes n c.node-view.ensures.view in
    let found : node_of nodes view.number ≡ Some (seen view) = ap (node_of nodes) own ∙ seen_found view nodes n c.node-view.ensures.view in
    let last : c.args.self.now ≡ c.pop.new.self.items ++ view.number ∷ [] = sym c.self.view_is ∙ (c.in-Some.ensures.items ∙ ap (λ (m : ℕ). c.pop.new.self.items ++ m ∷ []) (sym own)) in
    takes_looks c.args.tree.now.size nodes c.args.self.now c.pop.new.self.items c.put_inside.new.waiting.items (seen view) c.requires.volume found c.requires.there last c.in_ok-put_inside.ensures.put
    c.args.steps.now c.put_inside.new.steps (omega (arith, c.in_ok-put_inside.ensures.count, c.node-view.ensures.count))

pub returns-clause-most : goal.returns-clause-most
returns-clause-most g c =
    let nodes = c.args.tree.now.nodes in
    let view = c.node-view.result in
    let n = c.in-Some.number in
    let own = seen_number view nodes n c.node-view.ensures.view in
    let same : length (inside nodes view.number) ≡ length (inside nodes n) = ap (λ m. length (inside nodes m)) own in
    stopped_looks c.args.tree.now.size nodes c.args.self.now c.pop.new.self.items n c.requires.volume c.requires.there (sym c.self.view_is ∙ c.in-Some.ensures.items)
    c.args.steps.now c.put_inside.new.steps (omega (arith, c.in_ok-put_inside.ensures.looks, c.node-view.ensures.count, same))
