use Rattle.std.proofs.Common.{◌∙◌, ap, bit_or, arith}
use Rattle.name_index.proofs.Bits.{joined}
use Rattle.name_index.proofs.bucket.entry.Goals as goal

pub returns : goal.returns
returns c = ap (λ m. bit_or m c.args.number) c.mark.ensures ∙ joined c.args.hash c.args.number (omega (arith, c.requires))
