use Rattle.std.proofs.Common.{drop, arith}
use Rattle.std.proofs.lemmas.List.{length-take}
use Rattle.fsrm_modes.proofs.Taking.{taken_read, ended_read}
use Rattle.fsrm_modes.proofs.pieces.read_piece.Goals as goal

pub returns-clause-taken : goal.returns-clause-taken
returns-clause-taken g c =
    let left = g.S.Source.left in
    let read = c.read.ensures in
    taken_read c.read.result (left c.args.source.now) (left c.read.new.self) c.read.new.into (drop c.args.room c.args.buffer.now) read.count read.front read.rest

pub returns-clause-end : goal.returns-clause-end
returns-clause-end g c =
    let left = g.S.Source.left in
    let read = c.read.ensures in
    ended_read c.read.result (left c.args.source.now) (left c.read.new.self) c.read.new.into (omega (arith, c.read.auto.into, length-take c.args.room c.args.buffer.now)) read.front read.rest
