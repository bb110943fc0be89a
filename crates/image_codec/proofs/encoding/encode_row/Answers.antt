use Rattle.std.proofs.Common.{arith}
use Rattle.record_fields.proofs.WriterLaws.{whole}
use Rattle.image_codec.specs.Pieces.{lent, piece_spelled}
use Rattle.image_codec.proofs.LengthLaws.{piece_short}
use Rattle.image_codec.proofs.encoding.encode_row.Goals as goal

pub returns-clause-written : goal.returns-clause-written
returns-clause-written c =
    let short = piece_short (lent c.args.row.now) c.requires.meets in
    (whole c.args.into.now c.put_piece.new.into (piece_spelled (lent c.args.row.now)) 0 c.put_piece.result c.put_piece.ensures.written (omega (arith, short, c.requires.room))).1

pub returns-clause-length : goal.returns-clause-length
returns-clause-length c =
    let short = piece_short (lent c.args.row.now) c.requires.meets in
    let all = (whole c.args.into.now c.put_piece.new.into (piece_spelled (lent c.args.row.now)) 0 c.put_piece.result c.put_piece.ensures.written (omega (arith, short, c.requires.room))).0 in
    omega (arith, all)

pub returns-clause-short : goal.returns-clause-short
returns-clause-short c =
    let short = piece_short (lent c.args.row.now) c.requires.meets in
    let all = (whole c.args.into.now c.put_piece.new.into (piece_spelled (lent c.args.row.now)) 0 c.put_piece.result c.put_piece.ensures.written (omega (arith, short, c.requires.room))).0 in
    omega (arith, short, all)
