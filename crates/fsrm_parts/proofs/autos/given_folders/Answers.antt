use Rattle.std.proofs.Common.{ℕ, ◌&&◌, ◌++◌, ◌∙◌, Bool, List, ap, subst, sym, arith, IsPermutation}
use Rattle.std.proofs.lemmas.List.Sorted.{IsNonDecreasingBy-from_sort}
use Rattle.std.specs.Prelude.{filter}
use Rattle.fsrm_model.specs.values.Name.{name_before}
use Rattle.fsrm_model.specs.nodes.Tree.{children, is_folder}
use Rattle.fsrm_parts.specs.Applying.{gets_one}
use Rattle.fsrm_parts.specs.Walk.{AreThere}
use Rattle.fsrm_parts.proofs.applied.EligibleFolders.{eligible_sorted}
use Rattle.fsrm_parts.proofs.walks.WalkLaws.{children_there}
use Rattle.node_order.proofs.Children.{numbers_many}
use Rattle.node_order.proofs.Items.{in_order_moves}
use Rattle.fsrm_parts.proofs.autos.given_folders.Goals as goal

pub put_all_given-requires : goal.put_all_given-requires
put_all_given-requires g c =
    subst (AreThere c.args.tree.now.nodes) (sym c.children-children.ensures.numbers) (children_there c.args.tree.now.nodes c.args.row.now.folder)

pub returns-clause-folders : goal.returns-clause-folders
returns-clause-folders g c =
    let nodes = c.args.tree.now.nodes in
    let folder = c.args.row.now.folder in
    let test : ℕ → Bool = gets_one nodes c.args.objects.now.quotas c.args.row.now in
    let chosen = filter (λ n. is_folder nodes n && test n) c.children-children.result in
    eligible_sorted nodes folder c.requires.ascending test c.children-children.result c.sort_unstable.new.self.items
    (in_order_moves (λ a b. name_before a.name b.name) (children nodes folder)) c.children-children.ensures.numbers
    (subst (λ (ns : List ℕ). IsPermutation ns c.sort_unstable.new.self.items)
    (c.in_ok-put_all_given.ensures.ok ∙ ap (λ (ns : List ℕ). ns ++ chosen) c.new-folders.ensures.items) c.sort_unstable.ensures.permutation)
    (IsNonDecreasingBy-from_sort (λ n. n) c.sort_unstable.new.self.items c.sort_unstable.ensures.sorted)

pub returns-in_err-put_all_given-clause-looks : goal.returns-in_err-put_all_given-clause-looks
returns-in_err-put_all_given-clause-looks g c =
    omega (arith, c.children-children.ensures.as_child_count, c.put_all_given.ensures.looks, numbers_many c.args.tree.now.nodes c.args.row.now.folder c.children-children.result c.children-children.ensures.numbers)

pub returns-clause-looks : goal.returns-clause-looks
returns-clause-looks g c =
    omega (arith, c.children-children.ensures.as_child_count, c.put_all_given.ensures.looks, numbers_many c.args.tree.now.nodes c.args.row.now.folder c.children-children.result c.children-children.ensures.numbers)
