use Rattle.std.proofs.Common.{◌≡◌, ◌==◌, ◌∙◌, length, ap, arith}
use Rattle.std.specs.List.{count_by}
use Rattle.fsrm_model.specs.nodes.Tree.{children}
use Rattle.block_list.specs.Places.{index_of}
use Rattle.node_order.specs.declared.entries.Entry.{Entry}
use Rattle.volume_tree.specs.Kept.{rows_of}
use Rattle.volume_tree.specs.Volume.{Volume}
use Rattle.volume_tree.proofs.kept.KeptLaws.{children_fit, few_rows}
use Rattle.volume_tree.proofs.late.ChildCount.{counted}
use Rattle.volume_tree.proofs.late.Registers.{few_listed}
use Rattle.volume_tree.proofs.tree.Tree.child_count.Goals as goal

pub between-requires-clause-few : goal.between-requires-clause-few
between-requires-clause-few g c = few_listed (rows_of c.self.inside.slots.slots) _ c.self.inside.register c.self.invariant.kept.register_is

pub between-requires-clause-ordered : goal.between-requires-clause-ordered
between-requires-clause-ordered g c =
    let i = c.self.inside in
    let k = c.self.invariant.kept in
    let runs = i.register.order.runs in
    (counted (rows_of i.slots.slots) i.register.order i.register.late.items c.args.folder c.from-folder.result (index_of runs c.first_from-first.result) (index_of runs c.first_after-end.result) k.volume.ascending k.register_is.entered c.from-folder.ensures c.first_from-first.ensures.first c.first_after-end.ensures.first).ordered

pub returns-clause-value : goal.returns-clause-value
returns-clause-value g c =
    let i = c.self.inside in
    let k = c.self.invariant.kept in
    let runs = i.register.order.runs in
    let many = counted (rows_of i.slots.slots) i.register.order i.register.late.items c.args.folder c.from-folder.result (index_of runs c.first_from-first.result) (index_of runs c.first_after-end.result) k.volume.ascending k.register_is.entered c.from-folder.ensures c.first_from-first.ensures.first c.first_after-end.ensures.first in
    let sum = many.sum in
    let ordered = many.ordered in
    let late : c.count_in-late.result ≡ count_by (λ (e : Entry). e.parent == c.args.folder) i.register.late.items = c.count_in-late.ensures ∙ ap (count_by (λ (e : Entry). e.parent == c.args.folder)) c.deref.ensures.value in
    omega (arith, sum, ordered, late, c.between.ensures, ap (λ (v : Volume). length (children v.nodes c.args.folder)) c.self.view_is)

pub overflow_cast-result : goal.overflow_cast-result
overflow_cast-result g c =
    let i = c.self.inside in
    let k = c.self.invariant.kept in
    let runs = i.register.order.runs in
    let many = counted (rows_of i.slots.slots) i.register.order i.register.late.items c.args.folder c.from-folder.result (index_of runs c.first_from-first.result) (index_of runs c.first_after-end.result) k.volume.ascending k.register_is.entered c.from-folder.ensures c.first_from-first.ensures.first c.first_after-end.ensures.first in
    let sum = many.sum in
    let ordered = many.ordered in
    let late : c.count_in-late.result ≡ count_by (λ (e : Entry). e.parent == c.args.folder) i.register.late.items = c.count_in-late.ensures ∙ ap (count_by (λ (e : Entry). e.parent == c.args.folder)) c.deref.ensures.value in
    let fit = children_fit (rows_of i.slots.slots) c.args.folder in
    let few = few_rows _ _ _ _ _ _ k in
    omega (arith, sum, ordered, late, fit, few, c.between.ensures)

pub overflow_add-result : goal.overflow_add-result
overflow_add-result g c =
    let i = c.self.inside in
    let k = c.self.invariant.kept in
    let runs = i.register.order.runs in
    let many = counted (rows_of i.slots.slots) i.register.order i.register.late.items c.args.folder c.from-folder.result (index_of runs c.first_from-first.result) (index_of runs c.first_after-end.result) k.volume.ascending k.register_is.entered c.from-folder.ensures c.first_from-first.ensures.first c.first_after-end.ensures.first in
    let sum = many.sum in
    let ordered = many.ordered in
    let late : c.count_in-late.result ≡ count_by (λ (e : Entry). e.parent == c.args.folder) i.register.late.items = c.count_in-late.ensures ∙ ap (count_by (λ (e : Entry). e.parent == c.args.folder)) c.deref.ensures.value in
    let fit = children_fit (rows_of i.slots.slots) c.args.folder in
    let few = few_rows _ _ _ _ _ _ k in
    omega (arith, sum, ordered, late, fit, few, c.between.ensures)
