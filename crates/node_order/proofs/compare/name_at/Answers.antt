use Rattle.std.proofs.Common.{sym, ◌∙◌, ap}
use Rattle.std.specs.Prelude.{option_map}
use Rattle.std.proofs.lemmas.Option.{same_Some}
use Rattle.fsrm_model.specs.declared.row.NodeRow.{NodeRow}
use Rattle.node_order.proofs.SlotLaws.{filled, row_is, there_is}
use Rattle.node_order.proofs.compare.name_at.Goals as goal

pub name-requires : goal.name-requires
name-requires c = there_is c.args.number c.args.slots.now.slots c.requires.slots ∙ c.requires.there

pub returns : goal.returns
returns c =
    let slots = c.args.slots.now.slots in
    let f = filled slots c.args.number c.requires.slots c.requires.there in
    record {
      row = f.row;
      found = row_is c.args.number slots c.requires.slots ∙ f.at;
      name_is = sym (same_Some f.row.name c.name.result.now (sym (ap (option_map (λ (row : NodeRow). row.name)) f.at) ∙ c.name.ensures));
    }
