-- No key has a text.
use Rattle.std.proofs.Common.{◌∙◌, ap, arith}
use Rattle.name_region.specs.Log.{Written}
use Rattle.name_region.specs.Kept.{contents_of}
use Rattle.name_region.proofs.RegionLaws.{region_fresh, texts_of-none}
use Rattle.name_region.proofs.region.Region.reserve.Goals as goal

pub invariant_of-result : goal.invariant_of-result
invariant_of-result c =
    let log = c.in_ok-log.ensures in
    let places = c.in_ok-places.ensures in
    let free = c.in_ok-free.ensures in
    region_fresh c.args.bytes c.args.keys c.in_ok-log.log c.in_ok-places.places c.in_ok-free.free (omega arith) (omega arith) (ap (λ (w : Written). w.stored) log)
    (omega (arith, ap (λ (w : Written). w.room) log, c.with_spare-room.ensures)) (omega (arith, ap (λ (w : Written). w.most) log, c.with_spare-most.ensures)) places.items free.items places.capacity free.capacity

pub returns : goal.returns
returns c =
    ap (λ (w : Written). contents_of c.args.bytes c.args.keys w) c.in_ok-log.ensures ∙ ap (λ ts. record (contents_of c.args.bytes c.args.keys c.in_ok-log.log) { texts = ts }) (texts_of-none c.args.keys)
