-- Texts that slide down.
use Rattle.std.proofs.Common.{◌≡◌, ◌≢◌, ℕ, ◌+◌, ◌-◌, ◌<◌, ◌≤◌, true, false, List, [], ◌∷◌, ◌++◌, length, get_or, set, take, drop, sym, ◌∙◌, ap, subst, arith, cond}
use Rattle.std.proofs.lemmas.Bool.Decides.{nat_tests}
use Rattle.std.proofs.lemmas.List.{drop-take, drop-drop, drop_at, length-take-le, take-append-le, take-take, take_more, take_more_set, length-set, get_or-drop, drop-set-lt, append-nil}
use Rattle.std.proofs.lemmas.List.Elements.{filter-append}
use Rattle.std.specs.Prelude.{filter}
use Rattle.name_region.specs.declared.log.Record.{Record}
use Rattle.name_region.specs.Log.{Stored, no_key, is_kept, stored_in, end_of, AreEnds}
use Rattle.name_region.proofs.LogLaws.{stored_in-append, stored_in-same, end_of-append, end_is, ends-push, placed}

pub kept_is : (s : Stored) → s.key ≢ no_key → is_kept s ≡ true
kept_is s other = grind (arith, nat_tests)

pub released_is : (s : Stored) → s.key ≡ no_key → is_kept s ≡ false
released_is s same = grind (arith, nat_tests)

-- the first texts were gathered, and the others stand where they were
pub record IsGathered (old : List Record) (old_block : List ℕ) (new : List Record) (block : List ℕ) (i kept from to : ℕ) : Type 0 where
  pub count : length new ≡ length old
  pub size : length block ≡ length old_block
  pub low : kept ≤ i
  pub from_is : from ≡ end_of 0 (take i old)
  pub below : to ≤ from
  pub ends : AreEnds 0 (take kept new) to
  pub stored : stored_in 0 (take kept new) block ≡ filter is_kept (stored_in 0 (take i old) old_block)
  pub rest : drop i new ≡ drop i old
  pub bytes : drop from block ≡ drop from old_block

-- the next text
pub next_is : (old new : List Record) (i : ℕ) (r : Record) → length new ≡ length old → drop i new ≡ drop i old → i < length old → r ≡ get_or new i r → r ≡ get_or old i r
next_is old new i r count rest within is =
    let at : i + 0 ≡ i = omega arith in
    is
    ∙ (ap (λ n. get_or new n r) (sym at)
    ∙ (sym (get_or-drop i new 0 r) ∙ (ap (λ rs. get_or rs 0 r) rest ∙ (get_or-drop i old 0 r ∙ ap (λ n. get_or old n r) at))))

drop_more_same : (xs ys : List Record) (i : ℕ) → drop i xs ≡ drop i ys → drop (i + 1) xs ≡ drop (i + 1) ys
drop_more_same xs ys i same = sym (drop-drop 1 i xs) ∙ (ap (drop 1) same ∙ drop-drop 1 i ys)

drop_later : (xs ys : List ℕ) (from to : ℕ) → from ≤ to → drop from xs ≡ drop from ys → drop to xs ≡ drop to ys
drop_later xs ys from to le same =
    let at : from + (to - from) ≡ to = omega arith in
    ap (λ n. drop n xs) (sym at) ∙ (sym (drop-drop (to - from) from xs) ∙ (ap (drop (to - from)) same ∙ (drop-drop (to - from) from ys ∙ ap (λ n. drop n ys) at)))

module _ (old : List Record) (old_block : List ℕ) (new : List Record) (block : List ℕ) (i kept from to : ℕ) (r : Record)
    (ends : AreEnds 0 old (length old_block)) (gathered : IsGathered old old_block new block i kept from to) (within : i < length old) (read : r ≡ get_or new i r) where
  pub next_read : r ≡ get_or old i r
  next_read = next_is old new i r gathered.count gathered.rest within read

  more : take (i + 1) old ≡ take i old ++ r ∷ []
  more = take_more old i r within ∙ ap (λ (x : Record). take i old ++ x ∷ []) (sym next_read)

  end_more : r.end ≡ end_of 0 (take (i + 1) old)
  end_more = sym (ap (end_of 0) more ∙ end_of-append 0 (take i old) (r ∷ []))

  pub next_from : from ≤ r.end
  next_from = let at = placed 0 old (length old_block) i r ends within next_read in omega (arith, gathered.from_is, at.ends)

  pub next_within : r.end ≤ length block
  next_within = let at = placed 0 old (length old_block) i r ends within next_read in omega (arith, gathered.size, at.within)

  text : Stored
  text = record { key = r.key; text = take (r.end - from) (drop from old_block) }

  filtered : (kept_texts : List Stored) → filter is_kept (text ∷ []) ≡ kept_texts → filter is_kept (stored_in 0 (take (i + 1) old) old_block) ≡ filter is_kept (stored_in 0 (take i old) old_block) ++ kept_texts
  unfolding text
  filtered kept_texts one =
      ap (λ rs. filter is_kept (stored_in 0 rs old_block)) more
      ∙ (ap (filter is_kept) (stored_in-append 0 (take i old) (r ∷ []) old_block)
      ∙ (ap (λ n. filter is_kept (stored_in 0 (take i old) old_block ++ stored_in n (r ∷ []) old_block)) (sym gathered.from_is)
      ∙ (filter-append is_kept (stored_in 0 (take i old) old_block) (stored_in from (r ∷ []) old_block)
      ∙ ap (λ ss. filter is_kept (stored_in 0 (take i old) old_block) ++ ss) one)))

  -- a text that was released is passed over
  pub gathered_over : r.key ≡ no_key → IsGathered old old_block new block (i + 1) kept r.end to
  unfolding text
  gathered_over released = record {
    count = gathered.count;
    size = gathered.size;
    low = omega (arith, gathered.low);
    from_is = end_more;
    below = omega (arith, gathered.below, next_from);
    ends = gathered.ends;
    stored = gathered.stored ∙ sym (filtered [] (ap (λ b. cond b (text ∷ []) []) (released_is text released)) ∙ append-nil (filter is_kept (stored_in 0 (take i old) old_block)));
    rest = drop_more_same new old i gathered.rest;
    bytes = drop_later block old_block from r.end next_from gathered.bytes;
  }

  -- another one slides down
  module _ (slid : List ℕ) (moved : Record) (size : length slid ≡ length block) (front : take (to + (r.end - from)) slid ≡ take to block ++ take (r.end - from) (drop from block)) (behind : drop r.end slid ≡ drop r.end block)
      (key_is : moved.key ≡ r.key) (end_is_moved : moved.end ≡ to + (r.end - from)) where
    moved_more : take (kept + 1) (set new kept moved) ≡ take kept new ++ moved ∷ []
    moved_more = take_more_set new kept moved (omega (arith, gathered.low, gathered.count, within))

    to_within : to ≤ length block
    to_within = omega (arith, gathered.below, next_from, next_within)

    front_same : take to slid ≡ take to block
    front_same =
        let width = length-take-le to block to_within in
        sym (take-take to (to + (r.end - from)) slid (omega arith)) ∙ (ap (take to) front ∙ (take-append-le to (take to block) (take (r.end - from) (drop from block)) (omega (arith, width)) ∙ take-take to to block (omega arith)))

    text_same : take (moved.end - to) (drop to slid) ≡ take (r.end - from) (drop from old_block)
    text_same =
        let n : moved.end - to ≡ r.end - from = omega (arith, end_is_moved) in
        ap (λ m. take m (drop to slid)) n
        ∙ (sym (drop-take to (r.end - from) slid)
        ∙ (ap (drop to) front
        ∙ (drop_at (take to block) (take (r.end - from) (drop from block)) to (length-take-le to block to_within) ∙ ap (take (r.end - from)) gathered.bytes)))

    pub gathered_more : r.key ≢ no_key → IsGathered old old_block (set new kept moved) slid (i + 1) (kept + 1) r.end moved.end
    unfolding text
    gathered_more live = record {
      count = length-set new kept moved ∙ gathered.count;
      size = size ∙ gathered.size;
      low = omega (arith, gathered.low);
      from_is = end_more;
      below = omega (arith, gathered.below, next_from, end_is_moved);
      ends = subst (λ rs. AreEnds 0 rs moved.end) (sym moved_more) (ends-push 0 (take kept new) to moved gathered.ends (omega (arith, end_is_moved)));
      stored =
          ap (λ rs. stored_in 0 rs slid) moved_more
          ∙ (stored_in-append 0 (take kept new) (moved ∷ []) slid
          ∙ (ap (λ n. stored_in 0 (take kept new) slid ++ stored_in n (moved ∷ []) slid) (end_is 0 (take kept new) to gathered.ends)
          ∙ (ap (λ ss. ss ++ stored_in to (moved ∷ []) slid) (stored_in-same 0 (take kept new) to slid block gathered.ends front_same ∙ gathered.stored)
          ∙ (ap (λ (s : Stored). filter is_kept (stored_in 0 (take i old) old_block) ++ s ∷ []) (ap (λ k. record { key = k; text = take (moved.end - to) (drop to slid) }) key_is ∙ ap (λ t. record { key = r.key; text = t }) text_same)
          ∙ sym (filtered (text ∷ []) (ap (λ b. cond b (text ∷ []) []) (kept_is text live)))))));
      rest = drop-set-lt (i + 1) new kept moved (omega (arith, gathered.low)) ∙ drop_more_same new old i gathered.rest;
      bytes = behind ∙ drop_later block old_block from r.end next_from gathered.bytes;
    }
