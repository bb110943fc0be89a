use Rattle.std.proofs.Common.{ℕ, ◌+◌, ◌≤◌, ◌*◌, ◌++◌, [], ◌∷◌, ◌∙◌, List, ap, arith}
use Rattle.fsrm_model.specs.values.Limits.{longest_file}
use Rattle.rescan.specs.Visits.{folders_among}
use Rattle.fsrm_parts.proofs.tables.AnswerLaws.{on_err}
use Rattle.fsrm_parts.proofs.walks.SumLaws.{begun, looks_at_visit, none_waits, some_wait, visited_fewer, visited_folders, visited_looks, visited_sum, visited_total, waits_below}
use Rattle.fsrm_parts.proofs.walks.WalkLaws.{count_least, sum_at_visit}
use Rattle.fsrm_parts.proofs.usage.usage_of.Goals as goal

pub returns-in_err-total-clause-looks : goal.returns-in_err-total-clause-looks
returns-in_err-total-clause-looks g c =
    omega (arith, c.put_one.ensures.count, count_least c.args.tree.now.size c.args.tree.now.nodes c.args.node c.requires.volume c.requires.there)

pub loop-folder-init : goal.loop-folder-init
loop-folder-init g c =
    let put = c.in_ok-total.ensures.folders ∙ ap (λ (ns : List ℕ). ns ++ folders_among c.args.tree.now.nodes (c.args.node ∷ [])) c.new-pending.ensures.items in
    let b = begun c.args.tree.now.size c.args.tree.now.nodes c.args.node c.put_one.new.pending.items c.requires.volume c.requires.there put in
    record {
      folders = b.are;
      none = λ file. none_waits c.args.tree.now.nodes c.args.node c.put_one.new.pending.items put file;
      sum = b.sum c.in_ok-total.total c.in_ok-total.ensures.sum;
      looks = b.looks c.args.steps.now c.put_one.new.steps c.put_one.ensures.count;
    }

pub returns-in_err-total-2-clause-looks : goal.returns-in_err-total-2-clause-looks
returns-in_err-total-2-clause-looks g c =
    looks_at_visit c.args.tree.now.size c.args.tree.now.nodes c.loop-folder.pending.items c.pop.new.self.items c.in-Some.folder c.requires.volume c.loop-folder.invariant.folders c.in-Some.ensures.items
    c.args.steps.now _ c.loop-folder.steps c.visit.new.steps c.loop-folder.invariant.looks c.visit.ensures.looks

pub returns-in_err-total-2-clause-memory : goal.returns-in_err-total-2-clause-memory
returns-in_err-total-2-clause-memory g c =
    on_err c.from_residual-in_err-total-2.result (waits_below c.args.tree.now.nodes c.args.node c.loop-folder.pending.items c.pop.new.self.items c.in-Some.folder c.loop-folder.invariant.none c.in-Some.ensures.items)

pub overflow_add-total : goal.overflow_add-total
overflow_add-total g c =
    let K = c.args.tree.now.size in
    let nodes = c.args.tree.now.nodes in
    let pending = c.loop-folder.pending.items in
    let rest = c.pop.new.self.items in
    let new = c.visit.new.pending.items in
    let folder = c.in-Some.folder in
    let sum = visited_sum K nodes pending rest folder c.requires.volume c.loop-folder.invariant.folders c.in-Some.ensures.items new c.in_ok-total-2.ensures.folders c.in_ok-total-2.field-0 c.in_ok-total-2.ensures.sum in
    let most : c.loop-folder.total + c.in_ok-total-2.field-0 ≤ 1048576 * longest_file =
    sum_at_visit K nodes pending rest new folder c.args.node c.loop-folder.total c.in_ok-total-2.field-0 c.requires.volume c.requires.legal c.in-Some.ensures.items c.loop-folder.invariant.sum sum in
    omega (arith, most)

pub loop-folder-smaller : goal.loop-folder-smaller
loop-folder-smaller g c =
    visited_fewer c.args.tree.now.size c.args.tree.now.nodes c.loop-folder.pending.items c.pop.new.self.items c.in-Some.folder
    c.requires.volume c.loop-folder.invariant.folders c.in-Some.ensures.items c.visit.new.pending.items c.in_ok-total-2.ensures.folders

pub loop-folder-preserved : goal.loop-folder-preserved
loop-folder-preserved g c =
    let K = c.args.tree.now.size in
    let nodes = c.args.tree.now.nodes in
    let pending = c.loop-folder.pending.items in
    let rest = c.pop.new.self.items in
    let new = c.visit.new.pending.items in
    let folder = c.in-Some.folder in
    let v = c.requires.volume in
    let waits = c.loop-folder.invariant.folders in
    let last = c.in-Some.ensures.items in
    let put = c.in_ok-total-2.ensures.folders in
    record {
      folders = visited_folders K nodes pending rest folder v waits last new put;
      none = λ file. absurd (some_wait pending rest folder last (c.loop-folder.invariant.none file));
      sum = visited_total K nodes pending rest folder v waits last new put c.in_ok-total-2.field-0 c.loop-folder.total c.args.node c.in_ok-total-2.ensures.sum c.loop-folder.invariant.sum;
      looks = visited_looks K nodes pending rest folder v waits last new put c.args.steps.now _ c.loop-folder.steps c.visit.new.steps c.loop-folder.invariant.looks c.in_ok-total-2.ensures.count;
    }
