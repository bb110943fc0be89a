-- The text has another key.
use Rattle.std.proofs.Common.{◌<◌, ◌∙◌, ap, sym, subst, arith, length, set}
use Rattle.std.proofs.lemmas.List.{length-set}
use Rattle.name_region.specs.declared.log.Record.{Record}
use Rattle.name_region.specs.Log.{Written, no_key, no_text, stored_at, stored_in}
use Rattle.name_region.proofs.LogLaws.{AreTexts, length-stored_in, stored_in-set, ends-set, texts-set}
use Rattle.name_region.proofs.log.Log.release.Goals as goal

pub index-requires : goal.index-requires
index-requires c = let i = c.self.inside in omega (arith, c.requires, i.records.ok, length-stored_in 0 i.records.items i.block.items, ap (λ (w : Written). length w.stored) c.self.view_is)

pub index_mut-requires : goal.index_mut-requires
index_mut-requires c = let i = c.self.inside in omega (arith, c.requires, i.records.ok, length-stored_in 0 i.records.items i.block.items, ap (λ (w : Written). length w.stored) c.self.view_is)

pub invariant_of-self : goal.invariant_of-self
invariant_of-self c =
    let i = c.self.inside in
    let inv = c.self.invariant in
    let rs = i.records.items in
    let within : c.args.index < length rs = omega (arith, c.requires, length-stored_in 0 rs i.block.items, ap (λ (w : Written). length w.stored) c.self.view_is) in
    let r = c.index.result.now in
    let new : Record = record { key = no_key; end = r.end } in
    let same = ap (λ (x : Record). x.end) c.index.ensures in
    let count = length-set rs c.args.index new in
    record {
      small = inv.small;
      few = inv.few;
      ends = ends-set 0 rs (length i.block.items) c.args.index new r within same inv.ends;
      are_texts = subst AreTexts (sym (stored_in-set 0 rs i.block.items c.args.index new r no_text within same)) (texts-set (stored_in 0 rs i.block.items) c.args.index no_key inv.are_texts);
      size = inv.size;
      count = omega (arith, inv.count, count);
      block_room = inv.block_room;
      records_room = inv.records_room;
    }

pub returns : goal.returns
returns c =
    let i = c.self.inside in
    let inv = c.self.invariant in
    let rs = i.records.items in
    let within : c.args.index < length rs = omega (arith, c.requires, length-stored_in 0 rs i.block.items, ap (λ (w : Written). length w.stored) c.self.view_is) in
    let r = c.index.result.now in
    let new : Record = record { key = no_key; end = r.end } in
    let same = ap (λ (x : Record). x.end) c.index.ensures in
    let stored = stored_in-set 0 rs i.block.items c.args.index new r no_text within same in
    let written : Written = record { room = i.room; most = i.most; stored = stored_in 0 rs i.block.items } in
    ap (λ ss. record written { stored = ss }) stored ∙ ap (λ (w : Written). record w { stored = set w.stored c.args.index (record (stored_at w.stored c.args.index) { key = no_key }) }) c.self.view_is
