use Rattle.std.proofs.Common.{◌≡◌, ℕ, ◌++◌, ◌∷◌, [], List, length, Some, refl, sym, ◌∙◌, ap, arith}
use Rattle.fsrm_model.proofs.nodes.Keeps.{found_folder}
use Rattle.tree_walk.proofs.OutsideLaws.{enters, passes, passes_looks}
use Rattle.fsrm_model.specs.nodes.Tree.{node_of}
use Rattle.node_table.specs.Views.{seen}
use Rattle.tree_walk.specs.Walk.{inside}
use Rattle.tree_walk.proofs.Shown.{seen_found, seen_number}
use Rattle.tree_walk.proofs.WalkLaws.{nothing_inside, takes, takes_looks, stopped_looks}
use Rattle.tree_walk.proofs.walk.Walk.next_outside.Goals as goal

pub returns-in_err-put_inside-clause-most : goal.returns-in_err-put_inside-clause-most
returns-in_err-put_inside-clause-most g c =
    let nodes = c.args.tree.now.nodes in
    let view = c.node-view.result in
    let n = c.in-Some.number in
    let own = seen_number view nodes n c.node-view.ensures.view in
    let same : length (inside nodes view.number) ≡ length (inside nodes n) = ap (λ m. length (inside nodes m)) own in
    stopped_looks c.args.tree.now.size nodes c.args.self.now c.pop.new.self.items n c.requires.volume c.requires.there (sym c.self.view_is ∙ c.in-Some.ensures.items)
    c.args.steps.now c.put_inside.new.steps (omega (arith, c.put_inside.ensures.looks, c.node-view.ensures.count, same))

pub returns-clause-taken : goal.returns-clause-taken
returns-clause-taken g c =
    let nodes = c.args.tree.now.nodes in
    let view = c.node-view.result in
    let n = c.in-Some.number in
    let own = seen_number view nodes n c.node-view.ensures.view in
    let found : node_of nodes view.number ≡ Some (seen view) = ap (node_of nodes) own ∙ seen_found view nodes n c.node-view.ensures.view in
    let last : c.args.self.now ≡ c.pop.new.self.items ++ view.number ∷ [] = sym c.self.view_is ∙ (c.in-Some.ensures.items ∙ ap (λ (m : ℕ). c.pop.new.self.items ++ m ∷ []) (sym own)) in
    let t = takes c.args.tree.now.size nodes c.args.self.now c.pop.new.self.items c.put_inside.new.waiting.items (seen view) c.requires.volume found c.requires.there last c.in_ok-put_inside.ensures.put in
    let goes : c.put_inside.new.waiting.items ≡ c.pop.new.self.items ++ inside nodes view.number =
    c.in_ok-put_inside.ensures.put ∙ ap (λ (ns : List ℕ). c.pop.new.self.items ++ ns) (nothing_inside c.args.tree.now.size nodes view.number c.requires.volume view.folder (found_folder nodes view.number (seen view) found)) in
    enters c.args.tree.now.size nodes c.args.closed c.args.self.now c.pop.new.self.items c.put_inside.new.waiting.items (seen view) c.requires.volume found c.requires.there c.requires.outside last
    (λ same. c.if-number-closed.false (sym own ∙ same)) goes t

pub returns-then-number-closed-clause-taken : goal.returns-then-number-closed-clause-taken
returns-then-number-closed-clause-taken g c =
    let nodes = c.args.tree.now.nodes in
    let view = c.node-view.result in
    let n = c.in-Some.number in
    let own = seen_number view nodes n c.node-view.ensures.view in
    let found : node_of nodes view.number ≡ Some (seen view) = ap (node_of nodes) own ∙ seen_found view nodes n c.node-view.ensures.view in
    let last : c.args.self.now ≡ c.pop.new.self.items ++ view.number ∷ [] = sym c.self.view_is ∙ (c.in-Some.ensures.items ∙ ap (λ (m : ℕ). c.pop.new.self.items ++ m ∷ []) (sym own)) in
    passes c.args.tree.now.size nodes c.args.closed c.args.self.now c.pop.new.self.items c.pop.new.self.items (seen view) c.requires.volume found c.requires.there c.requires.outside last (own ∙ c.if-number-closed.true) refl

pub returns-then-number-closed-clause-looks : goal.returns-then-number-closed-clause-looks
returns-then-number-closed-clause-looks g c =
    let nodes = c.args.tree.now.nodes in
    let view = c.node-view.result in
    let n = c.in-Some.number in
    let own = seen_number view nodes n c.node-view.ensures.view in
    let found : node_of nodes view.number ≡ Some (seen view) = ap (node_of nodes) own ∙ seen_found view nodes n c.node-view.ensures.view in
    let last : c.args.self.now ≡ c.pop.new.self.items ++ view.number ∷ [] = sym c.self.view_is ∙ (c.in-Some.ensures.items ∙ ap (λ (m : ℕ). c.pop.new.self.items ++ m ∷ []) (sym own)) in
    passes_looks c.args.tree.now.size nodes c.args.closed c.args.self.now c.pop.new.self.items c.pop.new.self.items (seen view) c.requires.volume found c.requires.there c.requires.outside last c.args.steps.now c.node-view.new.steps refl (omega (arith, c.node-view.ensures.count))

pub returns-then-number-closed-clause-most : goal.returns-then-number-closed-clause-most
returns-then-number-closed-clause-most g c =
    let nodes = c.args.tree.now.nodes in
    stopped_looks c.args.tree.now.size nodes c.args.self.now c.pop.new.self.items c.in-Some.number c.requires.volume c.requires.there (sym c.self.view_is ∙ c.in-Some.ensures.items)
    c.args.steps.now c.node-view.new.steps (omega (arith, c.node-view.ensures.count))

pub returns-clause-looks : goal.returns-clause-looks
returns-clause-looks g c =
    let nodes = c.args.tree.now.nodes in
    let view = c.node-view.result in
    let n = c.in-Some.number in
    let own = seen_number view nodes n c.node-view.ensures.view in
    let found : node_of nodes view.number ≡ Some (seen view) = ap (node_of nodes) own ∙ seen_found view nodes n c.node-view.ensures.view in
    let last : c.args.self.now ≡ c.pop.new.self.items ++ view.number ∷ [] = sym c.self.view_is ∙ (c.in-Some.ensures.items ∙ ap (λ (m : ℕ). c.pop.new.self.items ++ m ∷ []) (sym own)) in
    takes_looks c.args.tree.now.size nodes c.args.self.now c.pop.new.self.items c.put_inside.new.waiting.items (seen view) c.requires.volume found c.requires.there last c.in_ok-put_inside.ensures.put
    c.args.steps.now c.put_inside.new.steps (omega (arith, c.in_ok-put_inside.ensures.count, c.node-view.ensures.count))

pub returns-clause-most : goal.returns-clause-most
returns-clause-most g c =
    let nodes = c.args.tree.now.nodes in
    let view = c.node-view.result in
    let n = c.in-Some.number in
    let own = seen_number view nodes n c.node-view.ensures.view in
    let same : length (inside nodes view.number) ≡ length (inside nodes n) = ap (λ m. length (inside nodes m)) own in
    stopped_looks c.args.tree.now.size nodes c.args.self.now c.pop.new.self.items n c.requires.volume c.requires.there (sym c.self.view_is ∙ c.in-Some.ensures.items)
    c.args.steps.now c.put_inside.new.steps (omega (arith, c.in_ok-put_inside.ensures.looks, c.node-view.ensures.count, same))
