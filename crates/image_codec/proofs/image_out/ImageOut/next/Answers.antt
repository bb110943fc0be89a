use Rattle.std.proofs.Common.{◌≡◌, ◌++◌, take, sym, ap, ◌∙◌}
use Rattle.std.specs.List.{flat_map, list_all}
use Rattle.fsrm_base.proofs.TestLaws.{both_true}
use Rattle.image_codec.specs.ImageOut.{cut_off, image_left}
use Rattle.image_codec.specs.Pieces.{lent, piece_legal, piece_spelled}
use Rattle.image_codec.specs.PiecesLeft.{pieces_left}
use Rattle.image_codec.proofs.LengthLaws.{no_piece}
use Rattle.image_codec.proofs.OutLaws.{nothing_after, step_on}
use Rattle.image_codec.proofs.image_out.ImageOut.next.Goals as goal

pub loop-end-preserved : goal.loop-end-preserved
loop-end-preserved c =
    let now = c.loop-end.self in
    let after = c.put_next-end.new.self in
    let wrote = take c.put_next-end.result c.put_next-end.new.into in
    let rest = flat_map piece_spelled (pieces_left c.next.new.self) in
    let left : image_left now ≡ piece_spelled (lent c.in-Some.piece) ++ rest =
    ap (λ b. b ++ flat_map piece_spelled (pieces_left now.pieces)) (c.loop-end.invariant.whole c.loop-end-test.true) ∙ ap (flat_map piece_spelled) c.in-Some.ensures in
    let same = sym c.put_next-end.ensures.pieces in
    record {
      ready = c.put_next-end.ensures.ready;
      within = c.put_next-end.ensures.within;
      written = step_on (image_left c.args.self.now) (take c.loop-end.end c.loop-end.into) (image_left now) (piece_spelled (lent c.in-Some.piece)) rest wrote (cut_off after)
          c.loop-end.invariant.written left c.put_next-end.ensures.written
          ∙ ap (λ ps. wrote ++ (cut_off after ++ flat_map piece_spelled (pieces_left ps))) same;
      whole = c.put_next-end.ensures.whole;
      legal = λ later. c.loop-end.invariant.legal
          (ap (list_all piece_legal) c.in-Some.ensures ∙ both_true _ _ c.put_next-end.ensures.legal (ap (λ ps. list_all piece_legal (pieces_left ps)) same ∙ later));
    }

pub returns-clause-whole : goal.returns-clause-whole
returns-clause-whole c = λ none.
    let now = c.loop-end.self in
    ap (list_all piece_legal) (no_piece (pieces_left now.pieces) (nothing_after (cut_off now) (flat_map piece_spelled (pieces_left now.pieces)) none))
