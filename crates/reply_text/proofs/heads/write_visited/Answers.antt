use Rattle.std.proofs.Common.{sym}
use Rattle.reply_text.proofs.heads.write_visited.Goals as goal

pub returns-in-Some : goal.returns-in-Some
returns-in-Some g c = record { writes = rw (c.in-Some.is, sym c.as_bytes.ensures.value, sym c.from.ensures) c.send.ensures.writes }

pub returns-in-None : goal.returns-in-None
returns-in-None g c = record { writes = rw (c.in-None.is, sym c.as_bytes.ensures.value, sym c.from.ensures) c.send-in-None.ensures.writes }
