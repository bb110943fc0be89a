use Rattle.std.proofs.Common.{◌+◌, length}
use Rattle.record_codec.proofs.PathText.{front_spelled}
use Rattle.record_codec.proofs.paths.front.Goals as goal

pub returns : goal.returns
returns c = front_spelled (3 + length c.args.names.now)
