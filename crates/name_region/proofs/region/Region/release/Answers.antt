-- The text is taken away, and the key is given back.
use Rattle.std.proofs.Common.{◌≡◌, ◌<◌, ◌++◌, ◌∷◌, [], None, ◌∙◌, ap, arith, length}
use Rattle.std.specs.Prelude.{slice_index}
use Rattle.std.specs.Vec.{vec_len, vec_capacity}
use Rattle.std.proofs.lemmas.List.{get_or_read}
use Rattle.name_region.specs.Contents.{Contents, is_live, with_text}
use Rattle.name_region.specs.Log.{Written}
use Rattle.name_region.specs.Kept.{contents_of}
use Rattle.name_region.proofs.LogLaws.{succeeded}
use Rattle.name_region.proofs.RegionLaws.{IsLocated, located, text_fits, contents_take, region_take, free_room}
use Rattle.name_region.proofs.region.Region.release.Goals.{After-index-place}
use Rattle.name_region.proofs.region.Region.release.Goals as goal

-- the text of the log that is noted for the key
found : (c : After-index-place) → IsLocated c.self.inside.keys c.self.inside.log.stored c.self.inside.places.items c.args.key × (c.index-place.result.now ≡ slice_index c.self.inside.places.items c.args.key)
found c =
    let i = c.self.inside in
    let l = located i.bytes i.keys i.log i.places.items c.args.key c.self.invariant.keys_small c.self.invariant.indexed (ap (λ (v : Contents). is_live v c.args.key) c.self.view_is ∙ c.requires) in
    (l, get_or_read i.places.items c.args.key c.index-place.result.now l.handed c.index-place.ensures 0)

pub text-requires : goal.text-requires
text-requires c = let f = found (goal.at.text-requires c).After-index-place in omega (arith, f.1, f.0.place_in)

pub release-requires : goal.release-requires
release-requires c = let f = found (goal.at.release-requires c).After-index-place in omega (arith, f.1, f.0.place_in)

pub overflow_cast-self : goal.overflow_cast-self
overflow_cast-self c =
    let i = c.self.inside in
    let f = found (goal.at.overflow_cast-self c).After-index-place in
    let fits = text_fits i.bytes i.keys i.used i.log i.places i.free c.args.key c.index-place.result.now c.self.invariant f.0 f.1 in
    omega (arith, fits, ap length c.text.ensures, c.self.invariant.kept.used_most, c.self.invariant.bytes_small)

pub overflow_sub-self : goal.overflow_sub-self
overflow_sub-self c =
    let i = c.self.inside in
    let f = found (goal.at.overflow_sub-self c).After-index-place in
    let fits = text_fits i.bytes i.keys i.used i.log i.places i.free c.args.key c.index-place.result.now c.self.invariant f.0 f.1 in
    omega (arith, fits, ap length c.text.ensures)

pub invariant_of-self : goal.invariant_of-self
invariant_of-self c =
    let i = c.self.inside in
    let inv = c.self.invariant in
    let f = found (goal.at.invariant_of-self c).After-index-place in
    let few : vec_len i.free < vec_capacity i.free = omega (arith, free_room i.bytes i.keys i.used i.log i.places i.free c.args.key c.index-place.result.now inv f.0 f.1, i.free.ok) in
    let back : c.push.new.self.items ≡ i.free.items ++ c.args.key ∷ [] = succeeded c.push.result _ i.free.items c.push.new.self.items (c.push.ensures.succeeds few) c.push.ensures.items in
    region_take i.bytes i.keys i.used i.log i.places i.free c.args.key c.index-place.result.now inv f.0 f.1 c.release.new.self c.push.new.self c.text.result.now c.release.ensures c.text.ensures back (omega (arith, c.push.ensures.capacity))

pub returns : goal.returns
returns c =
    let i = c.self.inside in
    let f = found (goal.at.returns c).After-index-place in
    ap (λ (w : Written). contents_of i.bytes i.keys w) c.release.ensures
    ∙ (ap (λ ts. record (contents_of i.bytes i.keys i.log) { texts = ts }) (contents_take i.bytes i.keys i.used i.log i.places i.free c.args.key c.index-place.result.now c.self.invariant f.0 f.1)
    ∙ ap (λ (v : Contents). with_text v c.args.key None) c.self.view_is)
