use Rattle.std.proofs.Common.{◌≡◌, ◌-◌, ◌∙◌, [], List, map, take, drop, subst, ap, sym, arith}
use Rattle.std.proofs.lemmas.List.{nil_from_length}
use Rattle.std.specs.Vec.{vec_len}
use Rattle.fsrm_base.proofs.TestLaws.{eq_is}
use Rattle.fsrm_model.specs.nodes.Tree.{number, children_in_order}
use Rattle.block_list.specs.Places.{index_of}
use Rattle.block_list.specs.Runs.{entries_of}
use Rattle.node_order.specs.declared.entries.Entry.{Entry}
use Rattle.volume_tree.specs.Kept.{rows_of}
use Rattle.volume_tree.specs.Late.{AreEntered}
use Rattle.volume_tree.specs.Volume.{Volume}
use Rattle.volume_tree.proofs.late.ChildNext.{all_after}
use Rattle.volume_tree.proofs.late.ChildSettled.{settled_segment}
use Rattle.volume_tree.proofs.late.Registers.{few_listed, volume_apart}
use Rattle.volume_tree.proofs.tree.Tree.children.Goals as goal

pub sought-requires-clause-apart : goal.sought-requires-clause-apart
sought-requires-clause-apart g c = volume_apart _ _ c.self.invariant.kept.volume

pub returns-then-not-is_empty-clause-numbers : goal.returns-then-not-is_empty-clause-numbers
returns-then-not-is_empty-clause-numbers g c =
    c.sought.ensures ∙ (all_after (rows_of c.self.inside.slots.slots) c.args.folder ∙ ap (λ (v : Volume). map number (children_in_order v.nodes c.args.folder)) c.self.view_is)

pub between-left-requires-clause-few : goal.between-left-requires-clause-few
between-left-requires-clause-few g c = few_listed (rows_of c.self.inside.slots.slots) _ c.self.inside.register c.self.invariant.kept.register_is

pub between-left-requires-clause-ordered : goal.between-left-requires-clause-ordered
between-left-requires-clause-ordered g c =
    let i = c.self.inside in
    let k = c.self.invariant.kept in
    let nodes = rows_of i.slots.slots in
    let late = i.register.late in
    let runs = i.register.order.runs in
    let first = index_of runs c.segment.result.0 in
    let end = index_of runs c.segment.result.1 in
    let none : late.items ≡ [] = nil_from_length late.items (sym late.ok.0 ∙ eq_is (vec_len late) 0 (sym c.if-not-is_empty.ensures)) in
    let entered = subst (λ (rest : List Entry). AreEntered nodes [] i.register.order rest) none k.register_is.entered in
    let stands = settled_segment nodes i.register.order c.args.folder first end k.volume.ascending entered c.segment.ensures.first c.segment.ensures.end in
    stands.ordered

pub from-requires-clause-within : goal.from-requires-clause-within
from-requires-clause-within g c =
    let i = c.self.inside in
    let k = c.self.invariant.kept in
    let nodes = rows_of i.slots.slots in
    let late = i.register.late in
    let runs = i.register.order.runs in
    let first = index_of runs c.segment.result.0 in
    let end = index_of runs c.segment.result.1 in
    let none : late.items ≡ [] = nil_from_length late.items (sym late.ok.0 ∙ eq_is (vec_len late) 0 (sym c.if-not-is_empty.ensures)) in
    let entered = subst (λ (rest : List Entry). AreEntered nodes [] i.register.order rest) none k.register_is.entered in
    let stands = settled_segment nodes i.register.order c.args.folder first end k.volume.ascending entered c.segment.ensures.first c.segment.ensures.end in
    let within = stands.within in
    omega (arith, within, c.between-left.ensures)

pub returns-clause-numbers : goal.returns-clause-numbers
returns-clause-numbers g c =
    let i = c.self.inside in
    let k = c.self.invariant.kept in
    let nodes = rows_of i.slots.slots in
    let late = i.register.late in
    let runs = i.register.order.runs in
    let first = index_of runs c.segment.result.0 in
    let end = index_of runs c.segment.result.1 in
    let none : late.items ≡ [] = nil_from_length late.items (sym late.ok.0 ∙ eq_is (vec_len late) 0 (sym c.if-not-is_empty.ensures)) in
    let entered = subst (λ (rest : List Entry). AreEntered nodes [] i.register.order rest) none k.register_is.entered in
    let stands = settled_segment nodes i.register.order c.args.folder first end k.volume.ascending entered c.segment.ensures.first c.segment.ensures.end in
    let left : c.between-left.result ≡ end - first = omega (arith, c.between-left.ensures) in
    c.from.ensures
    ∙ (ap (λ n. take n (drop first (entries_of runs))) left ∙ (stands.children_are ∙ ap (λ (v : Volume). map number (children_in_order v.nodes c.args.folder)) c.self.view_is))
