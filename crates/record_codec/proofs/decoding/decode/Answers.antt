use Rattle.std.proofs.Common.{ap, subst, ◌∙◌, arith}
use Rattle.record_codec.specs.Decoding.{Decodes}
use Rattle.record_codec.specs.Entries.{decoded}
use Rattle.record_codec.proofs.DamageLaws.{is_place}
use Rattle.record_codec.proofs.EntryLaws.{is_found, decoded_again}
use Rattle.record_codec.proofs.decoding.decode.Goals as goal

pub returns-clause-found : goal.returns-clause-found
returns-clause-found c = is_found c.args.bytes.now c.decode_exactly.result (λ i. omega (arith, c.type_inv.bytes i)) c.decode_exactly.ensures

pub returns-clause-only : goal.returns-clause-only
returns-clause-only c = λ e legal is. subst (Decodes c.decode_exactly.result) (ap decoded is ∙ decoded_again e legal) c.decode_exactly.ensures

pub returns-clause-place : goal.returns-clause-place
returns-clause-place c = is_place c.args.bytes.now c.decode_exactly.result (λ i. omega (arith, c.type_inv.bytes i)) c.decode_exactly.ensures
