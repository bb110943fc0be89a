-- The text is the one of the log that is noted for the key.
use Rattle.std.proofs.Common.{◌≡◌, Some, ◌∙◌, ap, sym, arith}
use Rattle.std.specs.Prelude.{slice_index}
use Rattle.std.proofs.lemmas.List.{get_or_read}
use Rattle.name_region.specs.Contents.{Contents, is_live, text_of}
use Rattle.name_region.specs.Log.{stored_at}
use Rattle.name_region.proofs.RegionLaws.{located, get-texts_of}
use Rattle.name_region.proofs.region.Region.get.Goals as goal

pub text-requires : goal.text-requires
text-requires c =
    let i = c.self.inside in
    let l = located i.bytes i.keys i.log i.places.items c.args.key c.self.invariant.keys_small c.self.invariant.indexed (ap (λ (v : Contents). is_live v c.args.key) c.self.view_is ∙ c.requires) in
    let read : c.index.result.now ≡ slice_index i.places.items c.args.key = get_or_read i.places.items c.args.key c.index.result.now l.handed c.index.ensures 0 in
    omega (arith, read, l.place_in)

pub returns : goal.returns
returns c =
    let i = c.self.inside in
    let l = located i.bytes i.keys i.log i.places.items c.args.key c.self.invariant.keys_small c.self.invariant.indexed (ap (λ (v : Contents). is_live v c.args.key) c.self.view_is ∙ c.requires) in
    let read : c.index.result.now ≡ slice_index i.places.items c.args.key = get_or_read i.places.items c.args.key c.index.result.now l.handed c.index.ensures 0 in
    sym (ap (λ (v : Contents). text_of v c.args.key) c.self.view_is)
    ∙ (get-texts_of i.keys i.log.stored c.args.key l.within ∙ (l.text_is ∙ (ap (λ n. Some (stored_at i.log.stored n).text) (sym read) ∙ ap Some (sym c.text.ensures))))
