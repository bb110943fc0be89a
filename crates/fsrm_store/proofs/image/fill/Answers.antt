use Rattle.std.proofs.Common.{◌≤◌, List, ℕ, ◌++◌, length, take, sym, ap, ◌∙◌, append_assoc}
use Rattle.std.specs.List.{flat_map, list_all}
use Rattle.fsrm_base.proofs.TestLaws.{both, both_true}
use Rattle.image_codec.specs.Pieces.{lent, piece_legal, piece_meets, piece_spelled}
use Rattle.fsrm_store.specs.EnginePieces.{engine_pieces_left}
use Rattle.fsrm_store.proofs.ImageLaws.{filled, filled_within, inside}
use Rattle.fsrm_store.proofs.image.fill.Goals as goal

pub loop-end-preserved : goal.loop-end-preserved
loop-end-preserved g c =
    let l = c.loop-end in
    let wrote = c.encode_row-end.new.into in
    let piece = piece_spelled (lent c.in-Some.piece) in
    let n = c.encode_row-end.result in
    let left = engine_pieces_left c.next.new.self in
    let rest = flat_map piece_spelled left in
    let le : n ≤ length wrote = inside wrote piece n c.encode_row-end.ensures.written c.encode_row-end.ensures.length in
    record {
      within = filled_within l.buffer wrote _ l.end n l.invariant.within le;
      written =
          l.invariant.written
          ∙ ap (λ (b : List ℕ). take l.end l.buffer ++ b) (ap (flat_map piece_spelled) c.in-Some.ensures.piece)
          ∙ sym (append_assoc (take l.end l.buffer) piece rest)
          ∙ ap (λ (b : List ℕ). b ++ rest) (sym (filled l.buffer wrote _ piece l.end n l.invariant.within c.encode_row-end.ensures.written le));
      meets = (both (piece_meets (lent c.in-Some.piece)) (list_all piece_meets left) (sym (ap (list_all piece_meets) c.in-Some.ensures.piece) ∙ l.invariant.meets)).1;
      legal = λ later. l.invariant.legal (ap (list_all piece_legal) c.in-Some.ensures.piece ∙ both_true _ _ c.encode_row-end.ensures.legal later);
      engine = c.next.ensures.engine ∙ l.invariant.engine;
      looks = c.next.ensures.looks ∙ l.invariant.looks;
    }
