use Rattle.std.proofs.Common.{◌≡◌, ◌<◌, ◌≤◌, true, [], ◌++◌, length, take}
use Rattle.image_codec.specs.ImageOut.{CanWrite, cut_off, image_left, left_legal}
use Rattle.image_codec.specs.PiecesLeft.{pieces_left}
use Rattle.image_codec.proofs.image_out.ImageOut.next.Given as goal

abbrev pub invariant-loop-end : goal.invariant-loop-end
invariant-loop-end l = record {
  ready : CanWrite l.self;
  within : l.end ≤ length l.into;
  written : image_left l.fn.self ≡ take l.end l.into ++ image_left l.self;
  whole : l.end < length l.into → cut_off l.self ≡ [];
  legal : left_legal l.self ≡ true → left_legal l.fn.self ≡ true;
}

abbrev pub decreases-loop-end : goal.decreases-loop-end
decreases-loop-end l = length (pieces_left l.self.pieces)
