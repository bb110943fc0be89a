use Rattle.std.proofs.Common.{false, ap, sym, ◌∙◌}
use Rattle.std.specs.Option.{option_map_or}
use Rattle.fsrm_model.specs.declared.row.NodeRow.{NodeRow}
use Rattle.fsrm_model.specs.nodes.Tree.{node_of}
use Rattle.fsrm_base.proofs.Look.{is_some-find, none_row}
use Rattle.row_rules.proofs.keys.is_folder.Goals as goal

pub returns-in-Err : goal.returns-in-Err
returns-in-Err c =
    let nodes = c.args.nodes.now in
    ap (λ o. option_map_or (λ (node : NodeRow). node.folder) o false) (sym (none_row (node_of nodes c.args.number) (is_some-find _ nodes ∙ c.in-Err.ensures.free.absent)))
