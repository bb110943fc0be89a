use Rattle.std.proofs.Common.{◌∙◌, ap, sym}
use Rattle.fsrm_model.specs.texts.Text.{list_lines}
use Rattle.fsrm_model.specs.store.Valid.{are_entries}
use Rattle.reply_text.proofs.ActLines.{all_entries}
use Rattle.line_parts.proofs.Sent.{told}
use Rattle.reply_text.proofs.lists.write_list.Goals as goal

pub write_log-requires : goal.write_log-requires
write_log-requires g c = ap are_entries c.marks.ensures.log ∙ c.marks.ensures.store.log

pub returns-in-Acts-clause-writes : goal.returns-in-Acts-clause-writes
returns-in-Acts-clause-writes g c =
    let engine = c.args.engine.now in
    told
    (all_entries engine.size engine.rows c.marks.result.now.log c.marks.ensures.log ∙ ap (list_lines engine.size engine.rows) (sym c.in-Acts.is))
    c.write_log.ensures.writes
