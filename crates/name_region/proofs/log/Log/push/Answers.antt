-- A text comes after the others.
use Rattle.std.proofs.Common.{◌≡◌, ◌+◌, ◌<◌, ◌≤◌, ◌++◌, ◌∷◌, [], ◌∙◌, ap, sym, subst, arith, length, length-append}
use Rattle.std.specs.List.{sum_by}
use Rattle.name_region.specs.declared.log.Record.{Record}
use Rattle.name_region.specs.Log.{Stored, Written, IsLog, AreEnds, stored_in, text_len}
use Rattle.name_region.proofs.LogLaws.{AreTexts, length-stored_in, size-stored_in, stored_in-push, ends-push, texts-push, succeeded}
use Rattle.name_region.proofs.log.Log.push.Goals.{After-extend_from_slice, After-push}
use Rattle.name_region.proofs.log.Log.push.Goals as goal

-- the block has room for the text, which comes after the other bytes
abbrev IsAdded : After-extend_from_slice → Type 0
IsAdded c = (length c.self.inside.block.items + length c.args.text.now ≤ c.self.inside.room) × (c.extend_from_slice.new.self.items ≡ c.self.inside.block.items ++ c.args.text.now)

added : (c : After-extend_from_slice) → IsAdded c
added c =
    let i = c.self.inside in
    let inv = c.self.invariant in
    let size = size-stored_in 0 i.records.items i.block.items inv.ends in
    let used = ap (λ (w : Written). sum_by text_len w.stored) c.self.view_is in
    let room = ap (λ (w : Written). w.room) c.self.view_is in
    let text = ap length c.as_bytes.ensures.value in
    let fits : length i.block.items + length c.args.text.now ≤ i.room = omega (arith, size, used, room, c.requires.room) in (
      fits,
      succeeded c.extend_from_slice.result _ i.block.items c.extend_from_slice.new.self.items (c.extend_from_slice.ensures.succeeds (omega (arith, fits, text, inv.block_room, i.block.ok))) c.extend_from_slice.ensures.items
          ∙ ap (λ t. i.block.items ++ t) c.as_bytes.ensures.value,
    )

abbrev stored_by : After-push → Stored
stored_by c = record { key = c.args.key; text = c.args.text.now }

-- and the log has one record more
pushed : (c : After-push) → (length c.self.inside.block.items + length c.args.text.now ≤ c.self.inside.room) × (c.extend_from_slice.new.self.items ≡ c.self.inside.block.items ++ c.args.text.now)
    → IsLog c.self.inside.room c.self.inside.most c.push.new.self c.extend_from_slice.new.self
    × (stored_in 0 c.push.new.self.items c.extend_from_slice.new.self.items ≡ stored_in 0 c.self.inside.records.items c.self.inside.block.items ++ stored_by c ∷ [])
pushed c (fits, block) =
    let i = c.self.inside in
    let inv = c.self.invariant in
    let rs = i.records.items in
    let count = length-stored_in 0 rs i.block.items in
    let many = ap (λ (w : Written). length w.stored) c.self.view_is in
    let most = ap (λ (w : Written). w.most) c.self.view_is in
    let longer = length-append i.block.items c.args.text.now in
    let end : c.len-end.result ≡ length i.block.items + length c.args.text.now = omega (arith, c.len-end.ensures, c.extend_from_slice.new.self.ok, ap length block, longer) in
    let r : Record = record { key = c.args.key; end = c.len-end.result } in
    let few : length rs < i.most = omega (arith, count, many, most, c.requires.most) in
    let records : c.push.new.self.items ≡ rs ++ r ∷ [] = succeeded c.push.result _ rs c.push.new.self.items (c.push.ensures.succeeds (omega (arith, few, inv.records_room, i.records.ok))) c.push.ensures.items in
    let stored = stored_in-push rs i.block.items r c.args.text.now inv.ends end in (
      record {
        small = inv.small;
        few = inv.few;
        ends = rw (records, block, longer) (subst (AreEnds 0 (rs ++ r ∷ [])) end (ends-push 0 rs (length i.block.items) r inv.ends (omega (arith, end))));
        are_texts = rw (records, block) (subst AreTexts (sym stored) (texts-push (stored_in 0 rs i.block.items) (stored_by c) inv.are_texts c.utf8.text));
        size = omega (arith, ap length block, longer, fits);
        count = omega (arith, ap length records, length-append rs (r ∷ []), few);
        block_room = omega (arith, inv.block_room, c.extend_from_slice.ensures.capacity);
        records_room = omega (arith, inv.records_room, c.push.ensures.capacity);
      },
      ap (λ es. stored_in 0 es c.extend_from_slice.new.self.items) records ∙ (ap (λ bs. stored_in 0 (rs ++ r ∷ []) bs) block ∙ stored),
    )

pub overflow_cast-end : goal.overflow_cast-end
overflow_cast-end c =
    let a = added (goal.at.overflow_cast-end c).After-extend_from_slice in
    omega (arith, a.0, ap length a.1, length-append c.self.inside.block.items c.args.text.now, c.len-end.ensures, c.extend_from_slice.new.self.ok, c.self.invariant.small)

pub invariant_of-self : goal.invariant_of-self
invariant_of-self c = let at = goal.at.invariant_of-self c in (pushed at.After-push (added at.After-extend_from_slice)).0

pub returns : goal.returns
returns c =
    let at = goal.at.returns c in
    let i = c.self.inside in
    let written : Written = record { room = i.room; most = i.most; stored = stored_in 0 i.records.items i.block.items } in
    let new : Stored = record { key = c.args.key; text = c.args.text.now } in
    ap (λ ss. record written { stored = ss }) (pushed at.After-push (added at.After-extend_from_slice)).1 ∙ ap (λ (w : Written). record w { stored = w.stored ++ new ∷ [] }) c.self.view_is
