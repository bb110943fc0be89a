use Rattle.std.proofs.Common.{ℕ, ◌++◌, List, ap, ◌∙◌, map}
use Rattle.fsrm_model.specs.nodes.Tree.{children_in_order, number}
use Rattle.rescan.specs.Visits.{folders_among}
use Rattle.fsrm_parts.specs.Tasks.{visits_of}
use Rattle.fsrm_parts.proofs.sums.enter.Goals as goal

pub returns-clause-tasks : goal.returns-clause-tasks
returns-clause-tasks g c =
    let nodes = c.args.tree.now.nodes in
    record {
      mid = c.put_end.new.tasks.items;
      ends = c.in_ok-put_end.ensures;
      put = c.in_ok-put_visits.ensures.tasks ∙ ap (λ (ns : List ℕ). c.put_end.new.tasks.items ++ visits_of ns) (c.in_ok-bytes.ensures.folders ∙ ap (λ (ns : List ℕ). ns ++ folders_among nodes (map number (children_in_order nodes c.args.folder))) c.requires.none);
    }
