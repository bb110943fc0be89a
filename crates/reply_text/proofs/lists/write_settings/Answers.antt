use Rattle.std.proofs.Common.{◌≡◌, ◌∙◌, length, ap}
use Rattle.fsrm_model.specs.declared.row.Capacity.{Capacity}
use Rattle.fsrm_model.specs.declared.row.NodeRow.{NodeRow}
use Rattle.fsrm_model.specs.nodes.Tree.{name_bytes}
use Rattle.std.specs.Prelude.{List}
use Rattle.line_parts.proofs.Sent.{told}
use Rattle.reply_text.proofs.Settings.{settings_shown}
use Rattle.reply_text.proofs.lists.write_settings.Goals as goal

pub returns : goal.returns
returns g c =
    let engine = c.args.engine.now in
    let size : c.capacity-size.result ≡ engine.size = c.capacity-size.ensures.size ∙ c.tree-tree.ensures.size in
    record {
      writes = told
          (settings_shown engine.size engine.rows c.from.result c.from-2.result c.from-3.result c.from-4.result c.from-5.result c.from-6.result
          (c.from.ensures ∙ c.settings-settings.ensures.run_limit)
          (c.from-2.ensures ∙ c.settings-settings.ensures.scans)
          (c.from-3.ensures ∙ (c.count.ensures ∙ ap (λ (nodes : List NodeRow). length nodes) c.tree-tree.ensures.nodes))
          (c.from-4.ensures ∙ ap (λ (size : Capacity). size.nodes) size)
          (c.from-5.ensures ∙ (c.name_bytes.ensures ∙ ap name_bytes c.tree-tree.ensures.nodes))
          (c.from-6.ensures ∙ ap (λ (size : Capacity). size.names) size))
          c.send.ensures.writes;
    }
