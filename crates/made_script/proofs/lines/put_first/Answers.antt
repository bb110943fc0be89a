use Rattle.std.proofs.Common.{arith}
use Rattle.made_script.proofs.Spelled.{as_spelled, first_quota_is}
use Rattle.made_script.proofs.lines.put_first.Goals as goal

pub returns : goal.returns
returns c = as_spelled c.put-2.result c.put-2.new.text.items c.args.line.now.items _ _ (first_quota_is c.args.number _ (omega arith) (omega arith)) c.put-2.ensures
