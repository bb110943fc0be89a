-- The key that is taken has no text, and the text comes to stand at the end of the log.
use Rattle.std.proofs.Common.{◌≡◌, ◌<◌, ◌++◌, ◌∷◌, [], None, Some, false, ◌∙◌, ap, sym, arith, length, set}
use Rattle.std.specs.Vec.{vec_len, with_item}
use Rattle.name_region.specs.Contents.{Contents, live_count, text_of, with_text}
use Rattle.name_region.specs.Keys.{texts_of}
use Rattle.name_region.specs.Log.{Stored, Written}
use Rattle.name_region.specs.Kept.{contents_of}
use Rattle.name_region.proofs.RegionLaws.{length-texts_of, taken_key, key_in, key_dead, contents_put, region_put}
use Rattle.name_region.proofs.region.Region.store.Goals.{After-has_no_key, After-take_key-key}
use Rattle.name_region.proofs.region.Region.store.Goals as goal

-- not all keys are live
spare : (c : After-has_no_key) → c.has_no_key.result ≡ false → live_count (contents_of c.self.inside.bytes c.self.inside.keys c.self.inside.log) < c.self.inside.keys
spare c is =
    let i = c.self.inside in
    omega (arith, c.has_no_key.ensures.spare is, ap (λ (v : Contents). live_count v) c.self.view_is, ap (λ (v : Contents). length v.texts) c.self.view_is, length-texts_of i.keys i.log.stored)

-- the key that was taken
record IsPut (c : After-take_key-key) : Type 0 where
  within : c.take_key-key.result < c.self.inside.keys
  handed : c.take_key-key.result < vec_len c.take_key-key.new.places
  dead : text_of (contents_of c.self.inside.bytes c.self.inside.keys c.self.inside.log) c.take_key-key.result ≡ None
  contents : texts_of c.self.inside.keys (c.make_room.new.log.stored ++ record { key = c.take_key-key.result; text = c.args.text.now } ∷ []) ≡ set (texts_of c.self.inside.keys c.self.inside.log.stored) c.take_key-key.result (Some c.args.text.now)

put : (c : After-take_key-key) → live_count (contents_of c.self.inside.bytes c.self.inside.keys c.self.inside.log) < c.self.inside.keys → IsPut c
put c some =
    let i = c.self.inside in
    let inv = c.self.invariant in
    let m = c.make_room in
    let k = c.take_key-key in
    let t = (taken_key i.bytes i.keys i.used i.log m.new.log i.places i.free m.new.places k.new.places k.new.free k.result c.args.text.now inv m.ensures.texts m.ensures.indexed m.ensures.count some k.ensures.taken).1 in
    record {
      within = key_in i.bytes i.keys i.used i.log m.new.log i.places i.free m.new.places k.new.places k.new.free k.result c.args.text.now inv m.ensures.texts m.ensures.indexed m.ensures.count some k.ensures.taken;
      handed = omega (arith, t.within, t.size, k.new.places.ok);
      dead = key_dead i.bytes i.keys i.used i.log m.new.log i.places i.free m.new.places k.new.places k.new.free k.result c.args.text.now inv m.ensures.texts m.ensures.indexed m.ensures.count some k.ensures.taken;
      contents = contents_put i.bytes i.keys i.used i.log m.new.log i.places i.free m.new.places k.new.places k.new.free k.result c.args.text.now inv m.ensures.texts m.ensures.indexed m.ensures.count some k.ensures.taken;
    }

pub make_room-requires-clause-most : goal.make_room-requires-clause-most
make_room-requires-clause-most c =
    let some = spare (goal.at.make_room-requires-clause-most c).After-has_no_key c.if-has_no_key.false in
    omega (arith, some, c.self.invariant.log_count, c.self.invariant.kept.count, c.self.invariant.most)

pub take_key-key-requires-clause-small : goal.take_key-key-requires-clause-small
take_key-key-requires-clause-small c =
    let i = c.self.inside in
    omega (arith, c.make_room.ensures.count, c.self.invariant.kept.handed_most, length-texts_of i.keys i.log.stored, c.self.invariant.keys_small)

pub take_key-key-requires-clause-room : goal.take_key-key-requires-clause-room
take_key-key-requires-clause-room c = λ none.
    let inv = c.self.invariant in
    let some = spare (goal.at.take_key-key-requires-clause-room c).After-has_no_key c.if-has_no_key.false in
    omega (arith, ap length none, c.make_room.ensures.count, c.make_room.ensures.capacity, inv.kept.count, some, inv.places_room)

pub index_mut-requires : goal.index_mut-requires
index_mut-requires c =
    let at = goal.at.index_mut-requires c in
    (put at.After-take_key-key (spare at.After-has_no_key c.if-has_no_key.false)).handed

pub invariant_of-self : goal.invariant_of-self
invariant_of-self c =
    let i = c.self.inside in
    let inv = c.self.invariant in
    let some = spare (goal.at.invariant_of-self c).After-has_no_key c.if-has_no_key.false in
    let m = c.make_room in
    let k = c.take_key-key in
    region_put i.bytes i.keys i.used i.log m.new.log i.places i.free m.new.places k.new.places k.new.free k.result c.args.text.now inv m.ensures.texts m.ensures.indexed m.ensures.count some k.ensures.taken c.push.new.self (with_item k.new.places k.result c.len.result) c.push.ensures (ap (set k.new.places.items k.result) c.len.ensures.len) k.ensures.free_capacity
    (omega (arith, k.ensures.places_capacity, m.ensures.capacity, inv.places_room)) (omega (arith, c.if-text-self.false, inv.kept.used_most))

pub returns-clause-key : goal.returns-clause-key
returns-clause-key c =
    let at = goal.at.returns-clause-key c in
    let p = put at.After-take_key-key (spare at.After-has_no_key c.if-has_no_key.false) in
    omega (arith, p.within, length-texts_of c.self.inside.keys c.self.inside.log.stored, ap (λ (v : Contents). length v.texts) c.self.view_is)

pub returns-clause-dead : goal.returns-clause-dead
returns-clause-dead c =
    let at = goal.at.returns-clause-dead c in
    sym (ap (λ (v : Contents). text_of v c.take_key-key.result) c.self.view_is) ∙ (put at.After-take_key-key (spare at.After-has_no_key c.if-has_no_key.false)).dead

pub returns-clause-stored : goal.returns-clause-stored
returns-clause-stored c =
    let i = c.self.inside in
    let at = goal.at.returns-clause-stored c in
    ap (λ (w : Written). contents_of i.bytes i.keys w) c.push.ensures
    ∙ (ap (λ ts. record (contents_of i.bytes i.keys i.log) { texts = ts }) (put at.After-take_key-key (spare at.After-has_no_key c.if-has_no_key.false)).contents
    ∙ ap (λ (v : Contents). with_text v c.take_key-key.result (Some c.args.text.now)) c.self.view_is)
