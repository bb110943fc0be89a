use Rattle.std.proofs.Common.{◌≡◌, ℕ, ◌+◌, ◌*◌, ◌^◌, ◌<◌, ◌++◌, [], ◌∷◌, List, length, ap, sym, ◌∙◌, subst, arith, rules}
use Rattle.std.proofs.lemmas.List.Sums.{sum_by-cons}
use Rattle.fsrm_model.specs.nodes.Tree.{is_under, under, usage}
use Rattle.fsrm_model.specs.declared.row.NodeRow.{NodeRow}
use Rattle.fsrm_model.specs.values.Space.{space}
use Rattle.rescan.proofs.counted.FitLaws.{total_small}
use Rattle.rescan.proofs.followed.FrontierLaws.{root_folder}
use Rattle.rescan.proofs.unvisited.ChildLaws.{filter_least}
use Rattle.fsrm_parts.specs.Walk.{under_all, usage_of_all}
use Rattle.fsrm_parts.proofs.walks.SumLaws.{AreFolders, looks_at_visit}
use Rattle.fsrm_parts.specs.declared.sums.Task.{Task}
use Rattle.fsrm_parts.specs.declared.sums.Task.TheVariants.{Visit}
use Rattle.fsrm_parts.specs.Tasks.{AreDue, AreSummed, end_count, folders_of}
use Rattle.fsrm_parts.proofs.walks.TaskLaws.{all_summed, begun_summed, ended, folders-append, visited}
use Rattle.fsrm_parts.proofs.sums.sum_all.Goals as goal

pub loop-task-init : goal.loop-task-init
loop-task-init g c =
    let K = c.args.tree.now.size in
    let nodes = c.args.tree.now.nodes in
    let quotas = c.args.objects.now.quotas in
    let t = c.requires.tasks in
    record {
      size = c.requires.size;
      none = c.requires.none;
      folders = subst (λ (ts : List Task). AreFolders nodes (folders_of ts)) (sym t) (root_folder K nodes c.requires.volume, tt);
      sum = omega (arith, ap (λ (ts : List Task). usage_of_all K nodes (folders_of ts)) t, sum_by-cons (usage K nodes) 0 []);
      due = subst (AreDue K nodes quotas 0) (sym t) tt;
      summed = subst (λ (ts : List Task). AreSummed K nodes quotas ts c.args.sums.now) (sym t) (begun_summed K nodes quotas c.args.sums.now c.requires.volume c.requires.quotas);
      looks = omega (arith, ap (λ (ts : List Task). under_all nodes (folders_of ts)) t, sum_by-cons (λ m. length (under nodes m)) 0 [], ap (λ (ts : List Task). length (folders_of ts)) t);
    }

-- ---- the end of a sum
pub end_sum-requires-clause-low : goal.end_sum-requires-clause-low
end_sum-requires-clause-low g c =
    let rest = c.pop.new.self.items in
    let last = c.in-Some.ensures.items ∙ ap (λ (t : Task). rest ++ t ∷ []) c.in-End.is in
    let e = ended c.args.tree.now.size c.args.tree.now.nodes c.args.objects.now.quotas c.loop-task.walk.tasks.items rest c.loop-task.sums c.loop-task.total c.in-End.place c.in-End.before last c.loop-task.invariant.due in
    omega (arith, e.low, c.loop-task.invariant.size)

pub end_sum-requires-clause-before : goal.end_sum-requires-clause-before
end_sum-requires-clause-before g c =
    let rest = c.pop.new.self.items in
    let last = c.in-Some.ensures.items ∙ ap (λ (t : Task). rest ++ t ∷ []) c.in-End.is in
    (ended c.args.tree.now.size c.args.tree.now.nodes c.args.objects.now.quotas c.loop-task.walk.tasks.items rest c.loop-task.sums c.loop-task.total c.in-End.place c.in-End.before last c.loop-task.invariant.due).before_least

pub loop-task-smaller-in-End : goal.loop-task-smaller-in-End
loop-task-smaller-in-End g c =
    let nodes = c.args.tree.now.nodes in
    let rest = c.pop.new.self.items in
    let tasks = c.loop-task.walk.tasks.items in
    let last = c.in-Some.ensures.items ∙ ap (λ (t : Task). rest ++ t ∷ []) c.in-End.is in
    let e = ended c.args.tree.now.size nodes c.args.objects.now.quotas tasks rest c.loop-task.sums c.loop-task.total c.in-End.place c.in-End.before last c.loop-task.invariant.due in
    let less : 2 * under_all nodes (folders_of rest) + end_count rest < 2 * under_all nodes (folders_of tasks) + end_count tasks = omega (arith, ap (under_all nodes) e.folders, e.fewer) in
    less

pub loop-task-preserved-in-End : goal.loop-task-preserved-in-End
loop-task-preserved-in-End g c =
    let K = c.args.tree.now.size in
    let nodes = c.args.tree.now.nodes in
    let quotas = c.args.objects.now.quotas in
    let inv = c.loop-task.invariant in
    let rest = c.pop.new.self.items in
    let last = c.in-Some.ensures.items ∙ ap (λ (t : Task). rest ++ t ∷ []) c.in-End.is in
    let e = ended K nodes quotas c.loop-task.walk.tasks.items rest c.loop-task.sums c.loop-task.total c.in-End.place c.in-End.before last inv.due in
    record {
      size = omega (arith, c.end_sum.auto.sums, inv.size);
      none = inv.none;
      folders = subst (AreFolders nodes) (sym e.folders) inv.folders;
      sum = ap (λ (ns : List ℕ). c.loop-task.total + usage_of_all K nodes ns) e.folders ∙ inv.sum;
      due = e.due;
      summed = subst (AreSummed K nodes quotas rest) (sym c.end_sum.ensures) (e.summed inv.size inv.summed);
      looks = omega (arith, inv.looks, ap (under_all nodes) e.folders, ap (λ (ns : List ℕ). length ns) e.folders);
    }

-- ---- a visit
pub returns-in_err-total-in-Visit-clause-looks : goal.returns-in_err-total-in-Visit-clause-looks
returns-in_err-total-in-Visit-clause-looks g c =
    let nodes = c.args.tree.now.nodes in
    let rest = c.pop.new.self.items in
    let n = c.in-Visit.folder in
    let last = c.in-Some.ensures.items ∙ ap (λ (t : Task). rest ++ t ∷ []) c.in-Visit.is in
    looks_at_visit c.args.tree.now.size nodes (folders_of c.loop-task.walk.tasks.items) (folders_of rest) n c.requires.volume c.loop-task.invariant.folders (ap folders_of last ∙ folders-append rest (Visit n ∷ []))
    c.args.steps.now (length (under nodes 0)) c.loop-task.steps c.enter.new.steps c.loop-task.invariant.looks c.enter.ensures.looks

pub overflow_add-total : goal.overflow_add-total
overflow_add-total g c =
    let K = c.args.tree.now.size in
    let nodes = c.args.tree.now.nodes in
    let quotas = c.args.objects.now.quotas in
    let inv = c.loop-task.invariant in
    let rest = c.pop.new.self.items in
    let n = c.in-Visit.folder in
    let bytes = c.in_ok-total-in-Visit.field-0 in
    let last = c.in-Some.ensures.items ∙ ap (λ (t : Task). rest ++ t ∷ []) c.in-Visit.is in
    let enters = c.in_ok-total-in-Visit.ensures.tasks in
    let visit = visited K nodes quotas c.requires.volume c.requires.quotas c.loop-task.walk.tasks.items rest enters.mid c.enter.new.walk.tasks.items n c.loop-task.sums c.loop-task.total bytes inv.folders last enters.ends enters.put c.in_ok-total-in-Visit.ensures.sum in
    let small : c.loop-task.total + bytes < 2 ^ 64 =
    omega (arith, visit.sum 0 inv.sum, filter_least (space K) (λ (node : NodeRow). is_under nodes 0 node.number) nodes, total_small K nodes c.requires.volume c.requires.legal) in
    omega (arith, small)

pub loop-task-smaller : goal.loop-task-smaller
loop-task-smaller g c =
    let inv = c.loop-task.invariant in
    let rest = c.pop.new.self.items in
    let last = c.in-Some.ensures.items ∙ ap (λ (t : Task). rest ++ t ∷ []) c.in-Visit.is in
    let enters = c.in_ok-total-in-Visit.ensures.tasks in
    (visited c.args.tree.now.size c.args.tree.now.nodes c.args.objects.now.quotas c.requires.volume c.requires.quotas c.loop-task.walk.tasks.items rest enters.mid c.enter.new.walk.tasks.items c.in-Visit.folder c.loop-task.sums c.loop-task.total c.in_ok-total-in-Visit.field-0 inv.folders last enters.ends enters.put c.in_ok-total-in-Visit.ensures.sum).fewer

pub loop-task-preserved : goal.loop-task-preserved
loop-task-preserved g c =
    let K = c.args.tree.now.size in
    let nodes = c.args.tree.now.nodes in
    let inv = c.loop-task.invariant in
    let rest = c.pop.new.self.items in
    let last = c.in-Some.ensures.items ∙ ap (λ (t : Task). rest ++ t ∷ []) c.in-Visit.is in
    let enters = c.in_ok-total-in-Visit.ensures.tasks in
    let visit = visited K nodes c.args.objects.now.quotas c.requires.volume c.requires.quotas c.loop-task.walk.tasks.items rest enters.mid c.enter.new.walk.tasks.items c.in-Visit.folder c.loop-task.sums c.loop-task.total c.in_ok-total-in-Visit.field-0 inv.folders last enters.ends enters.put c.in_ok-total-in-Visit.ensures.sum in
    record {
      size = inv.size;
      none = c.in_ok-total-in-Visit.ensures.none;
      folders = visit.folders;
      sum = visit.sum 0 inv.sum;
      due = visit.due inv.due;
      summed = visit.summed inv.summed;
      looks = visit.looks c.args.steps.now (length (under nodes 0)) c.loop-task.steps c.enter.new.steps inv.looks c.in_ok-total-in-Visit.ensures.count;
    }

pub returns-clause-sums : goal.returns-clause-sums
returns-clause-sums g c =
    let K = c.args.tree.now.size in
    let nodes = c.args.tree.now.nodes in
    let quotas = c.args.objects.now.quotas in
    let inv = c.loop-task.invariant in
    let none : c.loop-task.walk.tasks.items ≡ [] = search rules in
    all_summed K nodes quotas c.loop-task.sums inv.size (subst (λ (ts : List Task). AreSummed K nodes quotas ts c.loop-task.sums) none inv.summed)
