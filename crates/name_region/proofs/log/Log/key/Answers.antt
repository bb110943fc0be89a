-- The key is that of the record.
use Rattle.std.proofs.Common.{◌<◌, ◌∙◌, ap, sym, arith, length}
use Rattle.name_region.specs.Log.{Stored, Written, no_text, stored_at}
use Rattle.name_region.proofs.LogLaws.{length-stored_in, get-stored_in}
use Rattle.name_region.proofs.log.Log.key.Goals as goal

pub index-requires : goal.index-requires
index-requires c = let i = c.self.inside in omega (arith, c.requires, i.records.ok, length-stored_in 0 i.records.items i.block.items, ap (λ (w : Written). length w.stored) c.self.view_is)

pub returns : goal.returns
returns c =
    let i = c.self.inside in
    let within : c.args.index < length i.records.items = omega (arith, c.requires, length-stored_in 0 i.records.items i.block.items, ap (λ (w : Written). length w.stored) c.self.view_is) in
    sym (ap (λ (s : Stored). s.key) (get-stored_in 0 i.records.items i.block.items c.args.index c.index.result.now no_text within c.index.ensures)) ∙ ap (λ (w : Written). (stored_at w.stored c.args.index).key) c.self.view_is
