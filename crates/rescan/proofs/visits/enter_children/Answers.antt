use Rattle.std.proofs.Common.{◌≡◌, ℕ, ◌+◌, ◌++◌, ◌∙◌, List, [], length, length-append, append_assoc, arith, refl, sym, ap}
use Rattle.std.proofs.lemmas.List.{append-nil}
use Rattle.std.specs.Prelude.{map}
use Rattle.fsrm_model.specs.store.Capacities.{is_capacity}
use Rattle.fsrm_model.specs.nodes.Tree.{number, children_in_order}
use Rattle.node_order.proofs.Children.{numbers_many}
use Rattle.number_set.specs.Numbers.{Numbers}
use Rattle.rescan.proofs.unvisited.EnterLaws.{Entered, none_entered, more_entered, all_entered, part_small, part_there}
use Rattle.rescan.proofs.counted.FitLaws.{total_small}
use Rattle.rescan.proofs.visits.enter_children.Goals as goal

pub loop-siblings-init : goal.loop-siblings-init
loop-siblings-init g c =
    let nodes = c.args.tree.now.nodes in
    let many = numbers_many nodes c.args.folder c.children-children.result c.children-children.ensures.numbers in
    record {
      parts = ([], c.children-children.ensures.numbers, none_entered c.args.tree.now.size nodes c.args.set.now);
      looks = omega (arith, c.children-children.ensures.as_child_count, many);
    }

pub enter_nodes-bytes-requires-clause-there : goal.enter_nodes-bytes-requires-clause-there
enter_nodes-bytes-requires-clause-there g c =
    let parts = c.loop-siblings.invariant.parts in
    part_there c.args.tree.now.nodes c.args.folder parts.0 c.in-Some.siblings c.next.new.self c.requires.volume.ascending (ap (λ (ns : List ℕ). parts.0 ++ ns) (sym c.in-Some.ensures.lent) ∙ parts.1)

pub enter_nodes-bytes-requires-clause-small : goal.enter_nodes-bytes-requires-clause-small
enter_nodes-bytes-requires-clause-small g c =
    let nodes = c.args.tree.now.nodes in
    let parts = c.loop-siblings.invariant.parts in
    let least = part_small c.args.tree.now.size nodes c.args.folder parts.0 c.in-Some.siblings c.next.new.self c.requires.volume.ascending (ap (λ (ns : List ℕ). parts.0 ++ ns) (sym c.in-Some.ensures.lent) ∙ parts.1) in
    let small = total_small c.args.tree.now.size nodes c.requires.volume (ap is_capacity (sym c.capacity-size.ensures.size) ∙ c.capacity-size.ensures.legal) in
    omega (arith, least, small)

pub enter_nodes-bytes-requires-clause-room : goal.enter_nodes-bytes-requires-clause-room
enter_nodes-bytes-requires-clause-room g c =
    let same = ap (λ (s : Numbers). s.bound) c.loop-siblings.invariant.parts.2.set in
    omega (arith, same, c.requires.room)

pub overflow_add-bytes : goal.overflow_add-bytes
overflow_add-bytes g c =
    let nodes = c.args.tree.now.nodes in
    let parts = c.loop-siblings.invariant.parts in
    let least = part_small c.args.tree.now.size nodes c.args.folder parts.0 c.in-Some.siblings c.next.new.self c.requires.volume.ascending (ap (λ (ns : List ℕ). parts.0 ++ ns) (sym c.in-Some.ensures.lent) ∙ parts.1) in
    let small = total_small c.args.tree.now.size nodes c.requires.volume (ap is_capacity (sym c.capacity-size.ensures.size) ∙ c.capacity-size.ensures.legal) in
    omega (arith, least, small, parts.2.bytes, c.enter_nodes-bytes.ensures.bytes)

pub loop-siblings-preserved : goal.loop-siblings-preserved
loop-siblings-preserved g c =
    let K = c.args.tree.now.size in
    let nodes = c.args.tree.now.nodes in
    let parts = c.loop-siblings.invariant.parts in
    let numbers = c.in-Some.siblings in
    let sum : ℕ = c.loop-siblings.bytes + c.enter_nodes-bytes.result in
    let own : Entered K nodes numbers c.loop-siblings.set c.enter_nodes-bytes.new.set c.enter_nodes-bytes.result = record { set = c.enter_nodes-bytes.ensures.set; bytes = c.enter_nodes-bytes.ensures.bytes } in
    record {
      parts = (
        parts.0 ++ numbers,
        append_assoc parts.0 numbers c.next.new.self ∙ (ap (λ (ns : List ℕ). parts.0 ++ ns) (sym c.in-Some.ensures.lent) ∙ parts.1),
        more_entered K nodes parts.0 numbers c.args.set.now c.loop-siblings.set c.enter_nodes-bytes.new.set c.loop-siblings.bytes c.enter_nodes-bytes.result sum parts.2 own refl,
      );
      looks = omega (arith, c.enter_nodes-bytes.ensures.count, c.in-Some.ensures.count, ap length c.in-Some.ensures.lent, length-append numbers c.next.new.self, c.loop-siblings.invariant.looks);
    }

pub loop-siblings-smaller : goal.loop-siblings-smaller
loop-siblings-smaller g c = omega (arith, ap length c.in-Some.ensures.lent, length-append c.in-Some.siblings c.next.new.self, c.in-Some.ensures.some)

pub returns-clause-set : goal.returns-clause-set
returns-clause-set g c =
    let nodes = c.args.tree.now.nodes in
    let parts = c.loop-siblings.invariant.parts in
    let all : parts.0 ≡ map number (children_in_order nodes c.args.folder) = sym (append-nil parts.0) ∙ (ap (λ (ns : List ℕ). parts.0 ++ ns) (sym c.in_default.ensures.none) ∙ parts.1) in
    (all_entered c.args.tree.now.size nodes c.args.folder parts.0 c.args.set.now c.loop-siblings.set c.loop-siblings.bytes c.requires.volume.ascending all parts.2).0

pub returns-clause-bytes : goal.returns-clause-bytes
returns-clause-bytes g c =
    let nodes = c.args.tree.now.nodes in
    let parts = c.loop-siblings.invariant.parts in
    let all : parts.0 ≡ map number (children_in_order nodes c.args.folder) = sym (append-nil parts.0) ∙ (ap (λ (ns : List ℕ). parts.0 ++ ns) (sym c.in_default.ensures.none) ∙ parts.1) in
    (all_entered c.args.tree.now.size nodes c.args.folder parts.0 c.args.set.now c.loop-siblings.set c.loop-siblings.bytes c.requires.volume.ascending all parts.2).1

pub returns-clause-small : goal.returns-clause-small
returns-clause-small g c = total_small c.args.tree.now.size c.args.tree.now.nodes c.requires.volume (ap is_capacity (sym c.capacity-size.ensures.size) ∙ c.capacity-size.ensures.legal)
