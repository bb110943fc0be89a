use Rattle.std.proofs.Common.{◌∙◌, ap, rules, SFits, to_z-of_z, w32}
use Rattle.fsrm_model.specs.texts.ActionWords.{minutes_word}
use Rattle.line_parts.specs.Parts.{part_text}
use Rattle.reply_text.proofs.ActionLines.{action_shown}
use Rattle.line_parts.proofs.Sent.{told}
use Rattle.reply_text.proofs.actions.write_action.Goals as goal

pub returns : goal.returns
returns g c =
    let parts = c.minutes_parts.result in
    let fits : SFits w32 c.args.action.now.minutes = search rules in
    record {
      writes = told
          (action_shown c.args.percent c.from.result c.args.action.now c.as_bytes-kind.result.now (part_text parts.0) (part_text parts.1) c.as_bytes.result.now
          c.from.ensures (c.as_bytes-kind.ensures.value ∙ c.letter.ensures) (c.minutes_parts.ensures ∙ ap minutes_word (to_z-of_z fits)) (c.as_bytes.ensures.value ∙ c.as_str.ensures))
          c.send.ensures.writes;
    }
