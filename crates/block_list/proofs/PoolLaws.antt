-- Runs in a pool of which one block is changed.
use Rattle.std.proofs.Common.{◌≡◌, ◌≢◌, ℕ, ◌+◌, ◌-◌, ◌*◌, ◌<◌, ◌≤◌, List, ◌++◌, length, get_or, set, take, drop, insert, remove, refl, sym, ◌∙◌, ap, subst, inl, inr, arith, length-append, get_or-set_same, get_or-set_other}
use Rattle.std.proofs.lemmas.Bool.{cases_eq, cases_lt}
use Rattle.std.proofs.lemmas.List.{length-set, length-take, length-take-le, length-drop, take_at, get_or-take, get_or-drop, get_or_append_left, get_or-append_right, same_lists}
use Rattle.std.proofs.lemmas.List.Edits.{length-insert, get_or-insert_below, get_or-insert_at, get_or-insert_above, length-remove, get_or-remove_below, get_or-remove_above}
use Rattle.std.specs.List.{CopiedTo, SameBelow, SameFrom, IsRotatedWithin}
use borrow.Rule.Slice.PartMut.{put_mid, mid_of, same_len_mid}
use Rattle.block_list.specs.Pool.{run_in, SameBut}

module _ {T : Type 0} where
  -- an entry of a run
  pub run_get : (pool : List T) (b n k : ℕ) (d : T) → k < n → get_or (run_in pool b n) k d ≡ get_or pool (b * 128 + k) d
  run_get pool b n k d lt = get_or-take n (drop (b * 128) pool) k d lt ∙ get_or-drop (b * 128) pool k d

  pub length-run_in : (pool : List T) (b n : ℕ) → b * 128 + n ≤ length pool → length (run_in pool b n) ≡ n
  length-run_in pool b n within = omega (arith, length-take n (drop (b * 128) pool), length-drop (b * 128) pool)

  -- a run of which no entry is changed
  pub same_run : (old new : List T) (b n : ℕ) → length new ≡ length old → ((k : ℕ) (d : T) → k < n → get_or new (b * 128 + k) d ≡ get_or old (b * 128 + k) d) → run_in new b n ≡ run_in old b n
  same_run old new b n count same =
      let new_count = length-take n (drop (b * 128) new) in
      same_lists (run_in new b n) (run_in old b n)
      (omega (arith, length-take n (drop (b * 128) new), length-drop (b * 128) new, length-take n (drop (b * 128) old), length-drop (b * 128) old, count))
      (λ k d lt. let within : k < n = omega (arith, new_count) in run_get new b n k d within ∙ (same k d within ∙ sym (run_get old b n k d within)))

  -- so many entries are copied to a place
  pub record IsCopied (old new : List T) (from to n : ℕ) : Type 0 where
    pub count : length new ≡ length old
    pub copied : CopiedTo old new from to n
    pub below : SameBelow old new to
    pub above : SameFrom old new (to + n)

  pub copied_by : (old new : List T) (from to end n : ℕ) → length new ≡ length old → end - from ≡ n → CopiedTo old new from to (end - from) × SameBelow old new to × SameFrom old new (to + (end - from)) → IsCopied old new from to n
  copied_by old new from to end n count width by = record {
    count = count;
    copied = subst (λ n. CopiedTo old new from to n) width by.0;
    below = by.1;
    above = subst (λ n. SameFrom old new (to + n)) width by.2;
  }

  -- of a part of the pool, the first entries come after the others
  pub record IsTurned (old new : List T) (low left right : ℕ) : Type 0 where
    pub count : length new ≡ length old
    pub turned : IsRotatedWithin old new low left right

  turned : (old part : List T) (low left right n : ℕ) → low + n ≤ length old → n ≡ left + right → part ≡ drop left (mid_of low n old) ++ take left (mid_of low n old) → IsTurned old (put_mid low n old part) low left right
  turned old part low left right n within width is =
      let middle = mid_of low n old in
      let rest = drop n (drop low old) in
      let before : length (take low old) ≡ low = length-take-le low old (omega arith) in
      let count : length middle ≡ n = omega (arith, length-take n (drop low old), length-drop low old) in
      let second : length (drop left middle) ≡ right = omega (arith, length-drop left middle) in
      let first : length (take left middle) ≡ left = length-take-le left middle (omega arith) in
      let same : length part ≡ n = ap length is ∙ omega (arith, length-append (drop left middle) (take left middle)) in
      let inside : (k : ℕ) (d : T) → low ≤ k → k < low + n → get_or (put_mid low n old part) k d ≡ get_or (drop left middle ++ take left middle) (k - low) d =
      λ k d le lt. get_or-append_right (take low old) (part ++ rest) low k d before le ∙ (get_or_append_left part rest d (k - low) (omega arith) ∙ ap (λ es. get_or es (k - low) d) is) in
      let from : (k : ℕ) (d : T) → k < n → get_or middle k d ≡ get_or old (low + k) d = λ k d lt. get_or-take n (drop low old) k d lt ∙ get_or-drop low old k d in
      record {
        count = same_len_mid low n old part (same ∙ sym count);
        turned = record {
          first = λ k d le lt.
              let source : low + (left + (k - low)) ≡ k + left = omega arith in
              inside k d le (omega arith)
              ∙ (get_or_append_left (drop left middle) (take left middle) d (k - low) (omega arith)
              ∙ (get_or-drop left middle (k - low) d ∙ (from (left + (k - low)) d (omega arith) ∙ ap (λ i. get_or old i d) source)));
          second = λ k d le lt.
              let source : low + (k - low - right) ≡ k - right = omega arith in
              inside k d (omega arith) (omega arith)
              ∙ (get_or-append_right (drop left middle) (take left middle) right (k - low) d second (omega arith)
              ∙ (get_or-take left middle (k - low - right) d (omega arith) ∙ (from (k - low - right) d (omega arith) ∙ ap (λ i. get_or old i d) source)));
          below = λ k d lt. get_or_append_left (take low old) (part ++ rest) d k (omega arith) ∙ get_or-take low old k d lt;
          above = λ k d le.
              let source : low + (n + (k - low - n)) ≡ k = omega arith in
              get_or-append_right (take low old) (part ++ rest) low k d before (omega arith)
              ∙ (get_or-append_right part rest n (k - low) d same (omega arith)
              ∙ (get_or-drop n (drop low old) (k - low - n) d ∙ (get_or-drop low old (n + (k - low - n)) d ∙ ap (λ i. get_or old i d) source)));
        };
      }

  -- the same of a part that was lent
  pub turned_by : (old lent part rest : List T) (low left right n by count : ℕ) → lent ≡ old → low + n ≤ length old → n ≡ left + right → by ≡ left → count ≡ length old → part ≡ drop by (mid_of low n lent) ++ take by (mid_of low n lent) → IsTurned old (take count (put_mid low n lent part ++ rest)) low left right
  turned_by old lent part rest low left right n by count is_lent within width amount is_count is =
      let is_turned = turned lent part low left right n (omega (arith, ap length is_lent)) width (is ∙ ap (λ m. drop m (mid_of low n lent) ++ take m (mid_of low n lent)) amount) in
      let same : take count (put_mid low n lent part ++ rest) ≡ put_mid low n lent part = take_at (put_mid low n lent part) rest count (is_turned.count ∙ (ap length is_lent ∙ sym is_count)) in
      subst (λ from. IsTurned from (take count (put_mid low n lent part ++ rest)) low left right) is_lent (subst (λ new. IsTurned lent new low left right) (sym same) is_turned)

  -- the other blocks
  pub same_but-copied : (old new : List T) (from to n block : ℕ) → IsCopied old new from to n → block * 128 ≤ to → to + n ≤ block * 128 + 128 → SameBut old new block
  same_but-copied old new from to n block is_copied low high = record { length = is_copied.count; runs = λ b len other most. same_run old new b len is_copied.count (λ k d lt. same b len k d other most lt) }
    where
      same : (b len k : ℕ) (d : T) → b ≢ block → len ≤ 128 → k < len → get_or new (b * 128 + k) d ≡ get_or old (b * 128 + k) d
      same b len k d other most lt =
          elim (cases_lt b block) [
            | inl below ↦ is_copied.below (b * 128 + k) d (omega arith)
            | inr above ↦ is_copied.above (b * 128 + k) d (omega arith)
          ]

  pub same_but-turned : (old mid new : List T) (low left right block : ℕ) → SameBut old mid block → IsTurned mid new low left right → block * 128 ≤ low → low + (left + right) ≤ block * 128 + 128 → SameBut old new block
  same_but-turned old mid new low left right block before is_turned least most = record { length = is_turned.count ∙ before.length; runs = λ b len other short. same_run mid new b len is_turned.count (λ k d lt. same b len k d other short lt) ∙ before.runs b len other short }
    where
      same : (b len k : ℕ) (d : T) → b ≢ block → len ≤ 128 → k < len → get_or new (b * 128 + k) d ≡ get_or mid (b * 128 + k) d
      same b len k d other short lt =
          elim (cases_lt b block) [
            | inl below ↦ is_turned.turned.below (b * 128 + k) d (omega arith)
            | inr above ↦ is_turned.turned.above (b * 128 + k) d (omega arith)
          ]

  pub same_but-set : (old new : List T) (block i : ℕ) (e : T) → SameBut old new block → block * 128 ≤ i → i < block * 128 + 128 → SameBut old (set new i e) block
  same_but-set old new block i e same low high = record { length = length-set new i e ∙ same.length; runs = λ b len other most. same_run new (set new i e) b len (length-set new i e) (λ k d lt. get_or-set_other new i (b * 128 + k) e d (apart b len k other most lt)) ∙ same.runs b len other most }
    where
      apart : (b len k : ℕ) → b ≢ block → len ≤ 128 → k < len → b * 128 + k ≢ i
      apart b len k other most lt = elim (cases_lt b block) [ inl below ↦ omega arith | inr above ↦ omega arith ]

  -- the run of the block

  pub run-insert : (old new : List T) (block len place : ℕ) (e : T) → block * 128 + 128 ≤ length old → len < 128 → place ≤ len → IsTurned (set old (block * 128 + len) e) new (block * 128 + place) (len - place) 1 → run_in new block (len + 1) ≡ insert (run_in old block len) place e
  run-insert old new block len place e within room le is_turned =
      let run = run_in old block len in
      let end = block * 128 + len in
      let longer = set old end e in
      let turned = is_turned.turned in
      let same = length-set old end e in
      let width : length run ≡ len = length-run_in old block len (omega arith) in
      let count : length (run_in new block (len + 1)) ≡ len + 1 = length-run_in new block (len + 1) (omega (arith, same, is_turned.count)) in
      let within' : place ≤ length run = omega (arith, width) in
      same_lists (run_in new block (len + 1)) (insert run place e) (omega (arith, count, length-insert run place e within', width))
      (λ k d lt.
      let short : k < len + 1 = omega (arith, count) in
      run_get new block (len + 1) k d short
      ∙ elim (cases_lt k place) [
        | inl below ↦
            turned.below (block * 128 + k) d (omega arith)
            ∙ (get_or-set_other old end (block * 128 + k) e d (omega arith)
            ∙ (sym (run_get old block len k d (omega arith)) ∙ sym (get_or-insert_below run place e d k below within')))
        | inr above ↦
            elim (cases_eq k place) [
              | inl is ↦
                  let source : block * 128 + k + (len - place) ≡ end = omega arith in
                  turned.first (block * 128 + k) d (omega arith) (omega arith)
                  ∙ (ap (λ i. get_or longer i d) source
                  ∙ (get_or-set_same old end e d (omega arith)
                  ∙ (sym (get_or-insert_at run place e d within') ∙ ap (λ i. get_or (insert run place e) i d) (sym is))))
              | inr ne ↦
                  let more : k - 1 + 1 ≡ k = omega arith in
                  let source : block * 128 + k - 1 ≡ block * 128 + (k - 1) = omega arith in
                  turned.second (block * 128 + k) d (omega arith) (omega arith)
                  ∙ (ap (λ i. get_or longer i d) source
                  ∙ (get_or-set_other old end (block * 128 + (k - 1)) e d (omega arith)
                  ∙ (sym (run_get old block len (k - 1) d (omega arith))
                  ∙ (sym (get_or-insert_above run place e d (k - 1) (omega arith) within') ∙ ap (λ i. get_or (insert run place e) i d) more))))
            ]
      ])

  pub run-remove : (old new : List T) (block len place : ℕ) → block * 128 + 128 ≤ length old → len ≤ 128 → place < len → IsTurned old new (block * 128 + place) 1 (len - (place + 1)) → run_in new block (len - 1) ≡ remove (run_in old block len) place
  run-remove old new block len place within most lt is_turned =
      let run = run_in old block len in
      let turned = is_turned.turned in
      let width : length run ≡ len = length-run_in old block len (omega arith) in
      let count : length (run_in new block (len - 1)) ≡ len - 1 = length-run_in new block (len - 1) (omega (arith, is_turned.count)) in
      let within' : place < length run = omega (arith, width) in
      same_lists (run_in new block (len - 1)) (remove run place) (omega (arith, count, length-remove run place within', width))
      (λ k d inside.
      let short : k < len - 1 = omega (arith, count) in
      run_get new block (len - 1) k d short
      ∙ elim (cases_lt k place) [
        | inl below ↦
            turned.below (block * 128 + k) d (omega arith)
            ∙ (sym (run_get old block len k d (omega arith)) ∙ sym (get_or-remove_below run place d k below within'))
        | inr above ↦
            let source : block * 128 + k + 1 ≡ block * 128 + (k + 1) = omega arith in
            turned.first (block * 128 + k) d (omega arith) (omega arith)
            ∙ (ap (λ i. get_or old i d) source
            ∙ (sym (run_get old block len (k + 1) d (omega arith)) ∙ sym (get_or-remove_above run place d k above within')))
      ])

  pub run-copy : (old new : List T) (block len place to to_len : ℕ) → block * 128 + 128 ≤ length old → len ≤ 128 → place ≤ len → to * 128 + 128 ≤ length old → to_len + (len - place) ≤ 128 → IsCopied old new (block * 128 + place) (to * 128 + to_len) (len - place) → run_in new to (to_len + (len - place)) ≡ run_in old to to_len ++ drop place (run_in old block len)
  run-copy old new block len place to to_len within most le to_within room is_copied =
      let run = run_in old block len in
      let head = run_in old to to_len in
      let width : length run ≡ len = length-run_in old block len (omega arith) in
      let head_width : length head ≡ to_len = length-run_in old to to_len (omega arith) in
      let count : length (run_in new to (to_len + (len - place))) ≡ to_len + (len - place) = length-run_in new to (to_len + (len - place)) (omega (arith, is_copied.count)) in
      same_lists (run_in new to (to_len + (len - place))) (head ++ drop place run) (omega (arith, count, length-append head (drop place run), length-drop place run, width, head_width))
      (λ k d inside.
      let short : k < to_len + (len - place) = omega (arith, count) in
      run_get new to (to_len + (len - place)) k d short
      ∙ elim (cases_lt k to_len) [
        | inl below ↦
            is_copied.below (to * 128 + k) d (omega arith)
            ∙ (sym (run_get old to to_len k d below) ∙ sym (get_or_append_left head (drop place run) d k (omega (arith, head_width))))
        | inr above ↦
            let source : block * 128 + place + (to * 128 + k - (to * 128 + to_len)) ≡ block * 128 + (place + (k - to_len)) = omega arith in
            is_copied.copied (to * 128 + k) d (omega arith) (omega arith)
            ∙ (ap (λ i. get_or old i d) source
            ∙ (sym (run_get old block len (place + (k - to_len)) d (omega arith))
            ∙ (sym (get_or-drop place run (k - to_len) d) ∙ sym (get_or-append_right head (drop place run) to_len k d head_width above))))
      ])

  pub run-replace : (pool : List T) (block len place : ℕ) (e : T) → block * 128 + 128 ≤ length pool → len ≤ 128 → place < len → run_in (set pool (block * 128 + place) e) block len ≡ set (run_in pool block len) place e
  run-replace pool block len place e within most lt =
      let run = run_in pool block len in
      let from = block * 128 + place in
      let pool' = set pool from e in
      let width : length run ≡ len = length-run_in pool block len (omega arith) in
      let count : length (run_in pool' block len) ≡ len = length-run_in pool' block len (omega (arith, length-set pool from e)) in
      same_lists (run_in pool' block len) (set run place e) (count ∙ sym (length-set run place e ∙ width))
      (λ k d inside.
      let short : k < len = omega (arith, count) in
      run_get pool' block len k d short
      ∙ elim (cases_eq k place) [
        | inl is ↦
            ap (λ i. get_or pool' (block * 128 + i) d) is
            ∙ (get_or-set_same pool from e d (omega arith)
            ∙ (sym (get_or-set_same run place e d (omega (arith, width))) ∙ ap (λ i. get_or (set run place e) i d) (sym is)))
        | inr ne ↦
            get_or-set_other pool from (block * 128 + k) e d (omega arith)
            ∙ (sym (run_get pool block len k d short) ∙ sym (get_or-set_other run place k e d ne))
      ])

  pub same_but-refl : (pool : List T) (block : ℕ) → SameBut pool pool block
  same_but-refl pool block = record { length = refl; runs = λ b n other most. refl }
