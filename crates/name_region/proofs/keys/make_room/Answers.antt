-- What is left has room, and each key its text.
use Rattle.std.proofs.Common.{◌≢◌, ◌<◌, ◌∙◌, ℕ, List, length, ap, sym, subst, arith}
use Rattle.std.specs.List.{AllPairs, sum_by, count_by}
use Rattle.std.proofs.lemmas.List.Sums.{length-filter}
use Rattle.name_region.specs.Log.{Stored, Written, is_kept, stored_at, text_len, used_len}
use Rattle.name_region.specs.Keys.{text_under}
use Rattle.name_region.proofs.UnderKeys.{under-filter, bytes-filter, used-filter, count-filter, within-filter, apart-filter}
use Rattle.name_region.proofs.keys.make_room.Goals as goal

pub note_places-requires-clause-within : goal.note_places-requires-clause-within
note_places-requires-clause-within c =
    let places = c.args.places.now.items in
    subst (λ (ss : List Stored). (i : ℕ) → i < length ss → (stored_at ss i).key < length places) (sym (ap (λ (w : Written). w.stored) c.gather.ensures)) (within-filter c.args.log.now.stored places c.requires.indexed)

pub note_places-requires-clause-apart : goal.note_places-requires-clause-apart
note_places-requires-clause-apart c =
    subst (AllPairs (λ (s t : Stored). s.key ≢ t.key)) (sym (ap (λ (w : Written). w.stored) c.gather.ensures)) (apart-filter c.args.log.now.stored c.args.places.now.items c.requires.indexed)

pub returns-clause-texts : goal.returns-clause-texts
returns-clause-texts c =
    let ss = c.args.log.now.stored in
    let stored = ap (λ (w : Written). w.stored) c.gather.ensures in
    record {
      room = ap (λ (w : Written). w.room) c.gather.ensures;
      most = ap (λ (w : Written). w.most) c.gather.ensures;
      texts = λ k live. ap (text_under k) stored ∙ under-filter k ss live;
      bytes = ap (sum_by used_len) stored ∙ used-filter ss;
      count = ap (count_by is_kept) stored ∙ count-filter ss;
    }

pub returns-clause-indexed : goal.returns-clause-indexed
returns-clause-indexed c =
    let places = c.args.places.now.items in
    let within = subst (λ (ss : List Stored). (i : ℕ) → i < length ss → (stored_at ss i).key < length places) (sym (ap (λ (w : Written). w.stored) c.gather.ensures)) (within-filter c.args.log.now.stored places c.requires.indexed) in
    record {
      within = λ i lt live. let old = within i lt in omega (arith, old, c.note_places.ensures.count);
      place = λ i lt live. c.note_places.ensures.noted i lt;
    }

pub returns-clause-room : goal.returns-clause-room
returns-clause-room c =
    omega (arith, ap (λ (w : Written). sum_by text_len w.stored) c.gather.ensures, ap (λ (w : Written). w.room) c.gather.ensures, bytes-filter c.args.log.now.stored, c.requires.room)

pub returns-clause-most : goal.returns-clause-most
returns-clause-most c =
    omega (arith, ap (λ (w : Written). length w.stored) c.gather.ensures, ap (λ (w : Written). w.most) c.gather.ensures, length-filter is_kept c.args.log.now.stored, c.requires.most)
