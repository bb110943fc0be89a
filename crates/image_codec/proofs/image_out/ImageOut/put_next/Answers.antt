use Rattle.std.proofs.Common.{◌≡◌, length, take, drop, take_at, ap, ◌∙◌, arith}
use Rattle.std.specs.Vec.{with_items}
use Rattle.image_codec.specs.ImageOut.{cut_off}
use Rattle.image_codec.specs.Pieces.{lent, piece_spelled}
use Rattle.image_codec.proofs.OutLaws.{put_cut, put_whole}
use Rattle.image_codec.proofs.image_out.ImageOut.put_next.Goals as goal

pub returns-then-end-into-clause-written : goal.returns-then-end-into-clause-written
returns-then-end-into-clause-written c =
    let row = c.args.self.now.row in
    let wrote = c.encode_row-self.new.into in
    let size : length wrote ≡ row.len = omega (arith, c.as_mut_slice.ensures.len, c.encode_row-self.auto.into) in
    let same : (with_items row wrote).items ≡ wrote = take_at wrote (drop (length wrote) row.items) row.len size in
    put_cut c.args.into.now c.put_piece-end.new.into (piece_spelled (lent c.args.piece.now)) (with_items row wrote).items c.args.at c.put_piece-end.result c.encode_row-self.result
    c.requires.place c.put_piece-end.ensures.written (ap (take c.encode_row-self.result) same ∙ c.encode_row-self.ensures.written)

pub returns-else-end-into-clause-written : goal.returns-else-end-into-clause-written
returns-else-end-into-clause-written c =
    put_whole c.args.into.now c.put_piece-end.new.into (piece_spelled (lent c.args.piece.now)) (cut_off c.args.self.now) c.args.at c.put_piece-end.result
    c.requires.place c.put_piece-end.ensures.written (omega (arith, c.put_piece-end.ensures.written.within, c.if-end-into.false)) c.requires.empty
