use Rattle.std.proofs.Common.{◌/◌, ◌%◌, ◌^◌, ◌==◌, ◌∙◌, ap, bit_and, not, sym}
use Rattle.name_index.proofs.Bits.{has_power}
use Rattle.name_index.proofs.bucket.goes.Goals as goal

pub returns : goal.returns
returns c =
    let bits = c.args.entry / 2 ^ c.args.lead in
    ap (λ p. not (bit_and bits p == 0)) c.requires.count.1 ∙ (has_power bits c.requires.count.0 ∙ ap (λ p. bits / p % 2 == 1) (sym c.requires.count.1))
