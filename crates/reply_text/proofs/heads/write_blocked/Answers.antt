use Rattle.std.proofs.Common.{sym}
use Rattle.reply_text.proofs.heads.write_blocked.Goals as goal

pub returns : goal.returns
returns g c = record { writes = rw (sym c.as_bytes.ensures.value) c.send.ensures.writes }
