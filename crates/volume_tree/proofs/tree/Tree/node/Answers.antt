use Rattle.std.proofs.Common.{refl, sym, ◌∙◌, ap}
use Rattle.fsrm_model.specs.nodes.Tree.{node_of}
use Rattle.node_table.specs.Views.{seen}
use Rattle.volume_tree.specs.Kept.{rows_of}
use Rattle.volume_tree.specs.Volume.{Volume}
use Rattle.volume_tree.proofs.kept.KeptLaws.{node_short}
use Rattle.volume_tree.proofs.tree.Tree.node.Goals as goal

pub returns-clause-view : goal.returns-clause-view
returns-clause-view g c =
    record {
      row = seen c.node.result;
      found = sym (ap (λ (v : Volume). node_of v.nodes c.args.node) c.self.view_is) ∙ c.node.ensures.node;
      is = record { number = refl; parent = refl; name = refl; folder = refl; bytes = refl; owner = refl; created = refl; modified = refl; accessed = refl };
    }

pub returns-clause-short : goal.returns-clause-short
returns-clause-short g c = node_short c.self.inside.size (rows_of c.self.inside.slots.slots) c.args.node (seen c.node.result) c.self.invariant.kept.volume c.node.ensures.node
