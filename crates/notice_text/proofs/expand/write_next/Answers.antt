use Rattle.std.proofs.Common.{ℕ, List, length, sym, subst, arith}
use Rattle.std.proofs.lemmas.List.{length-take}
use Rattle.line_parts.proofs.Sent.{told}
use Rattle.notice_text.specs.Expand.{values_of}
use Rattle.notice_text.specs.Pieces.{IsPiece}
use Rattle.notice_text.proofs.PieceLaws.{macro_front, macro_piece, piece_passed_on, plain_front, plain_piece, plain_within}
use Rattle.notice_text.proofs.expand.write_next.Goals as goal

pub returns-in_err-send_part-in-Some : goal.returns-in_err-send_part-in-Some
returns-in_err-send_part-in-Some g c =
    let values = values_of c.args.facts.now in
    let text = c.args.text.now in
    record {
      piece = piece_passed_on values text c.from_residual.result c.from_residual.ensures.1
          (macro_front values text c.in-Some.name (sym c.in-Some.ensures) (told c.value.ensures c.in_err-send_part-in-Some.ensures.writes));
    }

pub returns-in_err-send_part-in-None : goal.returns-in_err-send_part-in-None
returns-in_err-send_part-in-None g c =
    let values = values_of c.args.facts.now in
    let text = c.args.text.now in
    record {
      piece = piece_passed_on values text c.from_residual-in_err-send_part-in-None.result c.from_residual-in_err-send_part-in-None.ensures.1
          (plain_front values text c.plain_bytes-bytes.result c.plain_bytes-bytes.ensures c.requires.some (sym c.in-None.ensures) c.in_err-send_part-in-None.ensures.writes);
    }

pub returns-in_ok-send_part-in-Some : goal.returns-in_ok-send_part-in-Some
returns-in_ok-send_part-in-Some g c =
    let sink = g.S.Sink in
    let values = values_of c.args.facts.now in
    let text = c.args.text.now in
    record {
      piece = subst (λ (xs : List ℕ). IsPiece sink c.args.sink.now c.send_part.new.sink values text (length xs)) (sym c.spelling.ensures)
          (macro_piece values text c.in-Some.name (sym c.in-Some.ensures) (told c.value.ensures c.in_ok-send_part-in-Some.ensures.writes));
    }

pub returns-in_ok-send_part-in-None : goal.returns-in_ok-send_part-in-None
returns-in_ok-send_part-in-None g c =
    let values = values_of c.args.facts.now in
    let text = c.args.text.now in
    record {
      piece = plain_piece values text c.plain_bytes-bytes.result c.plain_bytes-bytes.ensures c.requires.some (sym c.in-None.ensures) c.in_ok-send_part-in-None.ensures.writes;
    }

pub slice_bounds-send_part-end : goal.slice_bounds-send_part-end
slice_bounds-send_part-end g c =
    omega (arith, length-take c.plain_bytes-bytes.result c.args.text.now, plain_within c.args.text.now c.requires.some, c.plain_bytes-bytes.ensures)
