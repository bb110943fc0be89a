use Rattle.image_codec.specs.ImageOut.{CanWrite}
use Rattle.store_vectors.proofs.images.written.Given as goal

-- the writer is ready
abbrev pub invariant-loop : goal.invariant-loop
invariant-loop l = CanWrite l.out
