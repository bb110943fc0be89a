use Rattle.std.proofs.Common.{◌≡◌, ◌+◌, ◌<◌, ◌∙◌, [], List, length, slice_get, Some, ap, sym, subst, arith}
use Rattle.std.proofs.lemmas.Option.{get_or_from_slice_get}
use Rattle.std.proofs.lemmas.List.{nil_from_length}
use Rattle.std.specs.Vec.{vec_len}
use Rattle.fsrm_base.proofs.TestLaws.{eq_is}
use Rattle.fsrm_model.specs.nodes.Tree.{children}
use Rattle.block_list.specs.Places.{index_of}
use Rattle.block_list.specs.Runs.{entries_of}
use Rattle.node_order.specs.declared.entries.Entry.{Entry}
use Rattle.volume_tree.specs.Kept.{rows_of}
use Rattle.volume_tree.specs.Late.{AreEntered}
use Rattle.volume_tree.specs.Volume.{IsChildAt, Volume}
use Rattle.volume_tree.proofs.late.ChildSettled.{settled_child}
use Rattle.volume_tree.proofs.late.Registers.{few_listed, volume_apart}
use Rattle.volume_tree.proofs.tree.Tree.child_at.Goals as goal

pub nth_child-requires-clause-apart : goal.nth_child-requires-clause-apart
nth_child-requires-clause-apart g c = volume_apart _ _ c.self.invariant.kept.volume

pub nth_child-requires-clause-place : goal.nth_child-requires-clause-place
nth_child-requires-clause-place g c = subst (λ (v : Volume). c.args.place < length (children v.nodes c.args.folder)) (sym c.self.view_is) c.requires

pub returns-then-not-is_empty-clause-child : goal.returns-then-not-is_empty-clause-child
returns-then-not-is_empty-clause-child g c = subst (λ (v : Volume). IsChildAt v.nodes c.args.folder c.args.place c.nth_child.result) c.self.view_is c.nth_child.ensures

pub overflow_add-index : goal.overflow_add-index
overflow_add-index g c =
    let i = c.self.inside in
    let k = c.self.invariant.kept in
    let nodes = rows_of i.slots.slots in
    let late = i.register.late in
    let none : late.items ≡ [] = nil_from_length late.items (sym late.ok.0 ∙ eq_is (vec_len late) 0 (sym c.if-not-is_empty.ensures)) in
    let entered = subst (λ (rest : List Entry). AreEntered nodes [] i.register.order rest) none k.register_is.entered in
    let below : c.args.place < length (children nodes c.args.folder) = subst (λ (v : Volume). c.args.place < length (children v.nodes c.args.folder)) (sym c.self.view_is) c.requires in
    let there = settled_child nodes i.register.order c.args.folder c.from.result (index_of i.register.order.runs c.first_from-first.result) c.args.place k.volume.ascending entered c.from.ensures c.first_from-first.ensures.first below in
    let within = there.within in
    let few = few_listed nodes [] i.register k.register_is in
    omega (arith, within, few, c.index_of.ensures)

pub place_of-requires : goal.place_of-requires
place_of-requires g c =
    let i = c.self.inside in
    let k = c.self.invariant.kept in
    let nodes = rows_of i.slots.slots in
    let late = i.register.late in
    let none : late.items ≡ [] = nil_from_length late.items (sym late.ok.0 ∙ eq_is (vec_len late) 0 (sym c.if-not-is_empty.ensures)) in
    let entered = subst (λ (rest : List Entry). AreEntered nodes [] i.register.order rest) none k.register_is.entered in
    let below : c.args.place < length (children nodes c.args.folder) = subst (λ (v : Volume). c.args.place < length (children v.nodes c.args.folder)) (sym c.self.view_is) c.requires in
    let there = settled_child nodes i.register.order c.args.folder c.from.result (index_of i.register.order.runs c.first_from-first.result) c.args.place k.volume.ascending entered c.from.ensures c.first_from-first.ensures.first below in
    let within = there.within in
    omega (arith, within, c.index_of.ensures)

pub returns-clause-child : goal.returns-clause-child
returns-clause-child g c =
    let i = c.self.inside in
    let k = c.self.invariant.kept in
    let nodes = rows_of i.slots.slots in
    let late = i.register.late in
    let none : late.items ≡ [] = nil_from_length late.items (sym late.ok.0 ∙ eq_is (vec_len late) 0 (sym c.if-not-is_empty.ensures)) in
    let entered = subst (λ (rest : List Entry). AreEntered nodes [] i.register.order rest) none k.register_is.entered in
    let below : c.args.place < length (children nodes c.args.folder) = subst (λ (v : Volume). c.args.place < length (children v.nodes c.args.folder)) (sym c.self.view_is) c.requires in
    let there = settled_child nodes i.register.order c.args.folder c.from.result (index_of i.register.order.runs c.first_from-first.result) c.args.place k.volume.ascending entered c.from.ensures c.first_from-first.ensures.first below in
    let runs = i.register.order.runs in
    let at = index_of runs c.first_from-first.result + c.args.place in
    let same : index_of runs c.place_of.result ≡ at = omega (arith, c.place_of.ensures.index, c.index_of.ensures) in
    let read : slice_get (entries_of runs) at ≡ Some c.get.result = ap (slice_get (entries_of runs)) (sym same) ∙ c.get.ensures in
    subst (λ (v : Volume). IsChildAt v.nodes c.args.folder c.args.place c.get.result) c.self.view_is
    (subst (IsChildAt nodes c.args.folder c.args.place) (get_or_from_slice_get (entries_of runs) at c.get.result 0 read) there.child)
