use Rattle.std.proofs.Common.{◌∙◌, sym}
use Rattle.reply_text.proofs.ActionLines.{bare_shown, actions_shown}
use Rattle.line_parts.proofs.Sent.{told}
use Rattle.reply_text.proofs.actions.write_threshold.Goals as goal

pub returns-then-is_empty : goal.returns-then-is_empty
returns-then-is_empty g c =
    record {
      writes = told (bare_shown c.args.threshold.now (sym c.is_empty.ensures ∙ c.if-is_empty.true)) c.write_bare.ensures.writes;
    }

pub returns : goal.returns
returns g c =
    record {
      writes = told (actions_shown c.args.threshold.now c.as_slice.result.now (sym c.is_empty.ensures ∙ c.if-is_empty.false) c.as_slice.ensures) c.write_actions.ensures.writes;
    }
