-- Heads of which one is changed, made or taken away.
use Rattle.std.proofs.Common.{◌≡◌, ◌≢◌, ℕ, zero, suc, ◌+◌, ◌-◌, ◌*◌, ◌<◌, ◌≤◌, List, [], ◌∷◌, ◌++◌, length, get_or, set, take, drop, insert, remove, refl, sym, ◌∙◌, ap, subst, inl, inr, arith, length-append, get_or-set_same, get_or-set_other}
use Rattle.std.proofs.lemmas.Bool.{cases_eq, cases_lt}
use Rattle.std.proofs.lemmas.Bool.Decides.{nat_tests}
use Rattle.std.proofs.lemmas.List.{take-take, length-set, length-map, get_or-map, get_or_default, same_lists}
use Rattle.std.proofs.lemmas.List.Edits.{length-insert, get_or-insert_below, get_or-insert_at, get_or-insert_above, length-remove, get_or-remove_below, get_or-remove_above}
use Rattle.std.specs.Vec.{vec_capacity, with_item}
use Rattle.std.specs.Prelude.{Result, Ok, Err, IsOk, is_ok, if◌then◌else◌, Vec}
use Rattle.std.specs.declared.alloc.Global.{Global}
use Rattle.block_list.specs.declared.head.Head.{Head}
use Rattle.block_list.specs.Pool.{run_in, SameBut}
use Rattle.block_list.specs.Runs.{Shelf, run_at}
use Rattle.block_list.specs.Heads.{run_of, runs_in, IsHead, mark, held, times, IsLaid, IsLonger, IsStore, TakesBlock}
use Rattle.block_list.proofs.PoolLaws.{length-run_in, same_but-refl}

-- ---- blocks that are counted
pub mark-same : (b x : ℕ) → b ≡ x → mark b x ≡ 1
unfolding mark
mark-same b x is = grind (arith, nat_tests)

pub mark-other : (b x : ℕ) → b ≢ x → mark b x ≡ 0
unfolding mark
mark-other b x ne = grind (arith, nat_tests)

times-push : (b : ℕ) (xs : List ℕ) (x : ℕ) → times b (xs ++ x ∷ []) ≡ times b xs + mark b x
times-push b [] x = omega arith
times-push b (y ∷ xs) x = let rest = times-push b xs x in omega (arith, rest)

module _ {T : Type 0} where
  held-insert : (b : ℕ) (heads : List (Head T)) (i : ℕ) (head : Head T) → i ≤ length heads → held b (insert heads i head) ≡ mark b head.block + held b heads
  held-insert b heads zero head within = refl
  held-insert b [] (suc i) head within = absurd (omega arith)
  held-insert b (first ∷ heads) (suc i) head within = let rest = held-insert b heads i head (omega arith) in omega (arith, rest)

  held-remove : (b : ℕ) (heads : List (Head T)) (i : ℕ) (d : Head T) → i < length heads → held b (remove heads i) + mark b (get_or heads i d).block ≡ held b heads
  held-remove b [] i d within = absurd (omega arith)
  held-remove b (first ∷ heads) zero d within = omega arith
  held-remove b (first ∷ heads) (suc i) d within = let rest = held-remove b heads i d (omega arith) in omega (arith, rest)

  held-set : (b : ℕ) (heads : List (Head T)) (i : ℕ) (d head : Head T) → i < length heads → head.block ≡ (get_or heads i d).block → held b (set heads i head) ≡ held b heads
  held-set b [] i d head within same = absurd (omega arith)
  held-set b (first ∷ heads) zero d head within same = ap (λ x. mark b x + held b heads) same
  held-set b (first ∷ heads) (suc i) d head within same = let rest = held-set b heads i d head (omega arith) same in omega (arith, rest)

  held_at : (heads : List (Head T)) (i : ℕ) (d : Head T) → i < length heads → 1 ≤ held (get_or heads i d).block heads
  held_at [] i d within = absurd (omega arith)
  held_at (first ∷ heads) zero d within = let is = mark-same first.block first.block refl in omega (arith, is)
  held_at (first ∷ heads) (suc i) d within = let rest = held_at heads i d (omega arith) in omega (arith, rest)

  other_block : (heads : List (Head T)) (i k : ℕ) (d : Head T) → i < length heads → k < length heads → k ≢ i → held (get_or heads i d).block heads ≤ 1 → (get_or heads k d).block ≢ (get_or heads i d).block
  other_block [] i k d within k_within ne once = absurd (omega arith)
  other_block (first ∷ heads) zero zero d within k_within ne once = absurd (ne refl)
  other_block (first ∷ heads) zero (suc k) d within k_within ne once = λ same.
      let one = mark-same first.block first.block refl in
      let more : 1 ≤ held first.block heads = subst (λ b. 1 ≤ held b heads) same (held_at heads k d (omega arith)) in
      absurd (omega (arith, one, more))
  other_block (first ∷ heads) (suc i) zero d within k_within ne once = λ same.
      let one = mark-same (get_or heads i d).block first.block (sym same) in
      let more = held_at heads i d (omega arith) in
      absurd (omega (arith, one, more))
  other_block (first ∷ heads) (suc i) (suc k) d within k_within ne once = other_block heads i k d (omega arith) (omega arith) (λ same. ne (ap suc same)) (omega arith)

  -- ---- heads
  empty_head : (pool : List T) (head : Head T) → head.len ≡ 0 → IsHead pool head
  empty_head pool head empty = record { len = omega arith; first = λ d some. absurd (omega arith) }

  same_head : (old new : List T) (head : Head T) → IsHead old head → run_of new head ≡ run_of old head → IsHead new head
  same_head old new head is_head same = record { len = is_head.len; first = λ d some. ap (λ run. get_or run 0 d) same ∙ is_head.first d some }

  pub block_within : (heads : List (Head T)) (free : List ℕ) (pool : List T) (i : ℕ) (d : Head T) → IsLaid heads free pool → i < length heads → (get_or heads i d).block * 128 + 128 ≤ length pool
  block_within heads free pool i d laid within =
      let some = held_at heads i d within in
      let low = laid.within (get_or heads i d).block (omega (arith, some)) in
      omega (arith, laid.blocks, low)

  pub other_blocks : (heads : List (Head T)) (free : List ℕ) (pool : List T) (i k : ℕ) (d : Head T) → IsLaid heads free pool → i < length heads → k < length heads → k ≢ i → (get_or heads k d).block ≢ (get_or heads i d).block
  other_blocks heads free pool i k d laid within k_within ne = other_block heads i k d within k_within ne (let once = laid.once (get_or heads i d).block in omega (arith, once))

  pub runs_at : (heads : List (Head T)) (pool : List T) (i : ℕ) (d : Head T) → i < length heads → run_at (runs_in heads pool) i ≡ run_of pool (get_or heads i d)
  runs_at heads pool i d within = get_or-map (run_of pool) heads i d [] within

  pub length-runs_at : (heads : List (Head T)) (free : List ℕ) (pool : List T) (i : ℕ) (d : Head T) → IsLaid heads free pool → i < length heads → length (run_at (runs_in heads pool) i) ≡ (get_or heads i d).len
  length-runs_at heads free pool i d laid within =
      let block = block_within heads free pool i d laid within in
      let head = laid.each i d within in
      ap length (runs_at heads pool i d within) ∙ length-run_in pool (get_or heads i d).block (get_or heads i d).len (omega (arith, head.len))

  -- the runs of other blocks stay
  run_kept : (heads : List (Head T)) (free : List ℕ) (old new : List T) (i k : ℕ) (d e : Head T) → IsLaid heads free old → i < length heads → k < length heads → k ≢ i → SameBut old new (get_or heads i d).block → run_of new (get_or heads k e) ≡ run_of old (get_or heads k e)
  run_kept heads free old new i k d e laid within k_within ne same =
      let at_e = get_or_default heads k d e k_within in
      ap (run_of new) (sym at_e) ∙ (same.runs _ _ (other_blocks heads free old i k d laid within k_within ne) (laid.each k d k_within).len ∙ ap (run_of old) at_e)

  -- ---- a head is changed, and its block
  pub laid-set : (heads : List (Head T)) (free : List ℕ) (old new : List T) (i : ℕ) (d head : Head T) → IsLaid heads free old → i < length heads → head.block ≡ (get_or heads i d).block → SameBut old new (get_or heads i d).block → IsHead new head → IsLaid (set heads i head) free new
  laid-set heads free old new i d head laid within block same is_head = record {
    blocks = same.length ∙ (laid.blocks ∙ ap (λ n. (n + length free) * 128) (sym (length-set heads i head)));
    once = λ b. let is = held-set b heads i d head within block in let once = laid.once b in omega (arith, is, once);
    within = λ b some. let is = held-set b heads i d head within block in let low = laid.within b (omega (arith, is)) in omega (arith, low, length-set heads i head);
    each = λ k e k_in.
        elim (cases_eq k i) [
          | inl is ↦ subst (IsHead new) (sym (ap (λ j. get_or (set heads i head) j e) is ∙ get_or-set_same heads i head e within)) is_head
          | inr ne ↦
              let k_within : k < length heads = omega (arith, length-set heads i head) in
              subst (IsHead new) (sym (get_or-set_other heads i k head e ne)) (same_head old new (get_or heads k e) (laid.each k e k_within) (run_kept heads free old new i k d e laid within k_within ne same))
        ];
  }

  pub runs-set : (heads : List (Head T)) (free : List ℕ) (old new : List T) (i : ℕ) (d head : Head T) (run : List T) → IsLaid heads free old → i < length heads → SameBut old new (get_or heads i d).block → run_of new head ≡ run → runs_in (set heads i head) new ≡ set (runs_in heads old) i run
  runs-set heads free old new i d head run laid within same is_run =
      let heads' = set heads i head in
      let count : length (runs_in heads' new) ≡ length heads = length-map heads' (run_of new) ∙ length-set heads i head in
      let count_old : length (runs_in heads old) ≡ length heads = length-map heads (run_of old) in
      same_lists (runs_in heads' new) (set (runs_in heads old) i run) (count ∙ sym (length-set (runs_in heads old) i run ∙ count_old))
      (λ k e inside.
      let lt : k < length heads = omega (arith, count) in
      get_or-map (run_of new) heads' k d e (omega (arith, length-set heads i head))
      ∙ elim (cases_eq k i) [
        | inl is ↦
            ap (λ j. run_of new (get_or heads' j d)) is
            ∙ (ap (run_of new) (get_or-set_same heads i head d within)
            ∙ (is_run
            ∙ (sym (get_or-set_same (runs_in heads old) i run e (omega (arith, count_old))) ∙ ap (λ j. get_or (set (runs_in heads old) i run) j e) (sym is))))
        | inr ne ↦
            ap (run_of new) (get_or-set_other heads i k head d ne)
            ∙ (run_kept heads free old new i k d d laid within lt ne same
            ∙ (sym (get_or-map (run_of old) heads k d e lt) ∙ sym (get_or-set_other (runs_in heads old) i k run e ne)))
      ])

  -- ---- a head without a run is made
  each-insert : (heads : List (Head T)) (pool : List T) (i : ℕ) (head : Head T) → i ≤ length heads → head.len ≡ 0 → ((k : ℕ) (d : Head T) → k < length heads → IsHead pool (get_or heads k d))
      → (k : ℕ) (d : Head T) → k < length (insert heads i head) → IsHead pool (get_or (insert heads i head) k d)
  each-insert heads pool i head within empty each k d k_in =
      let count = length-insert heads i head within in
      elim (cases_lt k i) [
        | inl lt ↦ subst (IsHead pool) (sym (get_or-insert_below heads i head d k lt within)) (each k d (omega arith))
        | inr ge ↦
            elim (cases_eq k i) [
              | inl is ↦ subst (λ j. IsHead pool (get_or (insert heads i head) j d)) (sym is) (subst (IsHead pool) (sym (get_or-insert_at heads i head d within)) (empty_head pool head empty))
              | inr ne ↦
                  let more : k - 1 + 1 ≡ k = omega arith in
                  subst (λ j. IsHead pool (get_or (insert heads i head) j d)) more (subst (IsHead pool) (sym (get_or-insert_above heads i head d (k - 1) (omega arith) within)) (each (k - 1) d (omega (arith, count))))
            ]
      ]

  laid-take : (heads : List (Head T)) (free : List ℕ) (block : ℕ) (pool : List T) (i : ℕ) (head : Head T) → IsLaid heads (free ++ block ∷ []) pool → i ≤ length heads → head.block ≡ block → head.len ≡ 0 → IsLaid (insert heads i head) free pool
  laid-take heads free block pool i head laid within is_block empty =
      let count = length-insert heads i head within in
      let spare = length-append free (block ∷ []) in
      record {
        blocks = omega (arith, laid.blocks, count, spare);
        once = λ b.
            let new = held-insert b heads i head within in
            let old = times-push b free block in
            let same = ap (mark b) is_block in
            let once = laid.once b in
            omega (arith, new, old, same, once);
        within = λ b some.
            let new = held-insert b heads i head within in
            let old = times-push b free block in
            let same = ap (mark b) is_block in
            let low = laid.within b (omega (arith, new, old, same)) in
            omega (arith, low, count, spare);
        each = each-insert heads pool i head within empty laid.each;
      }

  kept_run : (heads : List (Head T)) (free : List ℕ) (old new : List T) (k : ℕ) (d : Head T) → IsLaid heads free old → IsLonger old new → k < length heads → run_of new (get_or heads k d) ≡ run_of old (get_or heads k d)
  kept_run heads free old new k d laid longer within =
      let block = block_within heads free old k d laid within in
      let head = laid.each k d within in
      longer.runs (get_or heads k d).block (get_or heads k d).len (omega (arith, head.len))

  laid-more : (heads : List (Head T)) (old new : List T) (i : ℕ) (head : Head T) → IsLaid heads [] old → IsLonger old new → i ≤ length heads → head.block ≡ length heads → head.len ≡ 0 → IsLaid (insert heads i head) [] new
  laid-more heads old new i head laid longer within is_block empty =
      let count = length-insert heads i head within in
      record {
        blocks = omega (arith, laid.blocks, count, longer.count);
        once = λ b.
            let is = held-insert b heads i head within in
            let once = laid.once b in
            elim (cases_eq b head.block) [
              | inl same ↦ let one = mark-same b head.block same in let unheld = not_held b (omega arith) in omega (arith, is, one, unheld)
              | inr ne ↦ let other = mark-other b head.block ne in omega (arith, is, other, once)
            ];
        within = λ b some.
            let is = held-insert b heads i head within in
            elim (cases_eq b head.block) [
              | inl same ↦ omega (arith, count)
              | inr ne ↦ let other = mark-other b head.block ne in let low = laid.within b (omega (arith, is, other)) in omega (arith, count, low)
            ];
        each = each-insert heads new i head within empty (λ k d lt. same_head old new (get_or heads k d) (laid.each k d lt) (kept_run heads [] old new k d laid longer lt));
      }
    where
      not_held : (b : ℕ) → b ≡ length heads → held b heads ≡ 0
      not_held b is =
          elim (cases_eq (held b heads) 0) [
            | inl zero_times ↦ zero_times
            | inr some ↦ let low = laid.within b (omega arith) in absurd (omega (arith, low))
          ]

  runs-insert : (heads : List (Head T)) (old new : List T) (i : ℕ) (head : Head T) → i ≤ length heads → head.len ≡ 0 → ((k : ℕ) → k < length heads → run_of new (get_or heads k head) ≡ run_of old (get_or heads k head)) → runs_in (insert heads i head) new ≡ insert (runs_in heads old) i []
  runs-insert heads old new i head within empty kept =
      let heads' = insert heads i head in
      let count : length (runs_in heads' new) ≡ length heads + 1 = length-map heads' (run_of new) ∙ length-insert heads i head within in
      let count_old : length (runs_in heads old) ≡ length heads = length-map heads (run_of old) in
      let within_old : i ≤ length (runs_in heads old) = omega (arith, count_old) in
      let none : run_of new head ≡ [] = ap (λ n. run_in new head.block n) empty in
      same_lists (runs_in heads' new) (insert (runs_in heads old) i []) (count ∙ sym (length-insert (runs_in heads old) i [] within_old ∙ ap (λ n. n + 1) count_old))
      (λ k e inside.
      let lt : k < length heads + 1 = omega (arith, count) in
      get_or-map (run_of new) heads' k head e (omega (arith, length-insert heads i head within))
      ∙ elim (cases_lt k i) [
        | inl below ↦
            ap (run_of new) (get_or-insert_below heads i head head k below within)
            ∙ (kept k (omega arith) ∙ (sym (get_or-map (run_of old) heads k head e (omega arith)) ∙ sym (get_or-insert_below (runs_in heads old) i [] e k below within_old)))
        | inr ge ↦
            elim (cases_eq k i) [
              | inl is ↦
                  ap (λ j. run_of new (get_or heads' j head)) is
                  ∙ (ap (run_of new) (get_or-insert_at heads i head head within)
                  ∙ (none ∙ (sym (get_or-insert_at (runs_in heads old) i [] e within_old) ∙ ap (λ j. get_or (insert (runs_in heads old) i []) j e) (sym is))))
              | inr ne ↦
                  let more : k - 1 + 1 ≡ k = omega arith in
                  ap (λ j. run_of new (get_or heads' j head)) (sym more)
                  ∙ (ap (run_of new) (get_or-insert_above heads i head head (k - 1) (omega arith) within)
                  ∙ (kept (k - 1) (omega arith)
                  ∙ (sym (get_or-map (run_of old) heads (k - 1) head e (omega arith))
                  ∙ (sym (get_or-insert_above (runs_in heads old) i [] e (k - 1) (omega arith) within_old) ∙ ap (λ j. get_or (insert (runs_in heads old) i []) j e) more))))
            ]
      ])

  -- ---- a head is taken away
  pub laid-remove : (heads : List (Head T)) (free : List ℕ) (pool : List T) (i : ℕ) (head : Head T) → IsLaid heads free pool → i < length heads → head ≡ get_or heads i head → IsLaid (remove heads i) (free ++ head.block ∷ []) pool
  laid-remove heads free pool i head laid within is =
      let count = length-remove heads i within in
      let spare = length-append free (head.block ∷ []) in
      let is_block : head.block ≡ (get_or heads i head).block = ap (λ (h : Head T). h.block) is in
      record {
        blocks = omega (arith, laid.blocks, count, spare);
        once = λ b.
            let old = held-remove b heads i head within in
            let new = times-push b free head.block in
            let same = ap (mark b) is_block in
            let once = laid.once b in
            omega (arith, new, old, same, once);
        within = λ b some.
            let old = held-remove b heads i head within in
            let new = times-push b free head.block in
            let same = ap (mark b) is_block in
            let low = laid.within b (omega (arith, new, old, same)) in
            omega (arith, low, count, spare);
        each = λ k d k_in.
            elim (cases_lt k i) [
              | inl lt ↦ subst (IsHead pool) (sym (get_or-remove_below heads i d k lt within)) (laid.each k d (omega arith))
              | inr ge ↦ subst (IsHead pool) (sym (get_or-remove_above heads i d k ge within)) (laid.each (k + 1) d (omega (arith, count)))
            ];
      }

  pub runs-remove : (heads : List (Head T)) (pool : List T) (i : ℕ) → runs_in (remove heads i) pool ≡ remove (runs_in heads pool) i
  runs-remove [] pool zero = refl
  runs-remove [] pool (suc i) = refl
  runs-remove (first ∷ heads) pool zero = refl
  runs-remove (first ∷ heads) pool (suc i) = ap (λ runs. run_of pool first ∷ runs) (runs-remove heads pool i)

  pub laid-open : (heads : List (Head T)) (free free' : List ℕ) (old new : List T) (i block : ℕ) (head : Head T) → IsLaid heads free old → TakesBlock (length heads) free free' old new block → i ≤ length heads → head.block ≡ block → head.len ≡ 0 → IsLaid (insert heads i head) free' new
  laid-open heads free free' old new i block head laid takes within is_block empty =
      elim takes [
        | inl w ↦ subst (λ pool. IsLaid (insert heads i head) free' pool) (sym w.1) (laid-take heads free' block old i head (subst (λ fr. IsLaid heads fr old) w.0 laid) within is_block empty)
        | inr w ↦
            subst (λ fr. IsLaid (insert heads i head) fr new) (sym w.1)
            (laid-more heads old new i head (subst (λ fr. IsLaid heads fr old) w.0 laid) w.3 within (is_block ∙ w.2) empty)
      ]

  pub runs-open : (heads : List (Head T)) (free free' : List ℕ) (old new : List T) (i block : ℕ) (head : Head T) → IsLaid heads free old → TakesBlock (length heads) free free' old new block → i ≤ length heads → head.len ≡ 0 → runs_in (insert heads i head) new ≡ insert (runs_in heads old) i []
  runs-open heads free free' old new i block head laid takes within empty =
      elim takes [
        | inl w ↦ runs-insert heads old new i head within empty (λ k lt. ap (λ pool. run_of pool (get_or heads k head)) w.1)
        | inr w ↦ runs-insert heads old new i head within empty (λ k lt. kept_run heads free old new k head laid w.3 lt)
      ]

  abbrev pub shelf : ℕ → List (List T) → Shelf T
  shelf most runs = record { most = most; runs = runs }

  -- what is known of a run and its head
  pub record IsKnown (heads : List (Head T)) (pool : List T) (now : List (List T)) (i : ℕ) (head : Head T) : Type 0 where
    pub within : i < length heads
    pub is : head ≡ get_or heads i head
    pub small : head.block < 4294967296
    pub block : head.block * 128 + 128 ≤ length pool
    pub len : length (run_at now i) ≡ head.len
    pub most : head.len ≤ 128
    pub run : run_in pool head.block head.len ≡ run_at now i
    pub first : (d : T) → 0 < head.len → get_or (run_at now i) 0 d ≡ head.first

  pub known : (most : ℕ) (heads : Vec (Head T) Global) (free : Vec ℕ Global) (pool : Vec T Global) (now : Shelf T) (i : ℕ) (head : Head T) → IsStore most heads free pool → shelf most (runs_in heads.items pool.items) ≡ now → i < length now.runs
      → head ≡ get_or heads.items i head → IsKnown heads.items pool.items now.runs i head
  known most heads free pool now i head store view lt is =
      let hs = heads.items in
      let es = pool.items in
      let laid = store.laid in
      let same : runs_in hs es ≡ now.runs = ap (λ (v : Shelf T). v.runs) view in
      let count : length now.runs ≡ length hs = ap length (sym same) ∙ length-map hs (run_of es) in
      let within : i < length hs = omega (arith, count) in
      let is_head : IsHead es head = subst (IsHead es) (sym is) (laid.each i head within) in
      let run : run_in es head.block head.len ≡ run_at (runs_in hs es) i = ap (run_of es) is ∙ sym (runs_at hs es i head within) in
      let some = held_at hs i head within in
      let low = laid.within (get_or hs i head).block (omega (arith, some)) in
      record {
        within = within;
        is = is;
        small = subst (λ (h : Head T). h.block < 4294967296) (sym is) (omega (arith, low, store.room, store.small));
        block = subst (λ (h : Head T). h.block * 128 + 128 ≤ length es) (sym is) (block_within hs free.items es i head laid within);
        len = ap (λ runs. length (run_at runs i)) (sym same) ∙ (length-runs_at hs free.items es i head laid within ∙ ap (λ (h : Head T). h.len) (sym is));
        most = is_head.len;
        run = run ∙ ap (λ runs. run_at runs i) same;
        first = λ d some. ap (λ runs. get_or (run_at runs i) 0 d) (sym same) ∙ (ap (λ r. get_or r 0 d) (sym run) ∙ is_head.first d some);
      }

  -- one run has changed, in its block
  pub record IsChanged (most : ℕ) (heads : Vec (Head T) Global) (free : Vec ℕ Global) (pool : Vec T Global) (now : Shelf T) (i : ℕ) (run : List T) : Type 0 where
    pub store : IsStore most heads free pool
    pub view : shelf most (runs_in heads.items pool.items) ≡ shelf now.most (set now.runs i run)

  pub changed : (most : ℕ) (heads heads' : Vec (Head T) Global) (free : Vec ℕ Global) (pool pool' : Vec T Global) (now : Shelf T) (i : ℕ) (head new : Head T) (run : List T) → IsStore most heads free pool → shelf most (runs_in heads.items pool.items) ≡ now → i < length now.runs
      → head ≡ get_or heads.items i head → heads'.items ≡ set heads.items i new → vec_capacity heads' ≡ vec_capacity heads → vec_capacity pool' ≡ vec_capacity pool → new.block ≡ head.block → SameBut pool.items pool'.items head.block → IsHead pool'.items new
      → run_in pool'.items head.block new.len ≡ run → IsChanged most heads' free pool' now i run
  changed most heads heads' free pool pool' now i head new run store view within read edited heads_room pool_room block others is_head is_run =
      let hs = heads.items in
      let k = known most heads free pool now i head store view within read in
      let at : head.block ≡ (get_or hs i head).block = ap (λ (h : Head T). h.block) k.is in
      let same : SameBut pool.items pool'.items (get_or hs i head).block = subst (SameBut pool.items pool'.items) at others in
      let new_run : run_of pool'.items new ≡ run = ap (λ b. run_in pool'.items b new.len) block ∙ is_run in
      let runs = runs-set hs free.items pool.items pool'.items i head new run store.laid k.within same new_run in
      record {
        store = record {
          small = store.small;
          room = omega (arith, store.room, ap length edited, length-set hs i new);
          heads_room = omega (arith, store.heads_room, heads_room);
          free_room = store.free_room;
          pool_room = omega (arith, store.pool_room, pool_room);
          laid = subst (λ hs'. IsLaid hs' free.items pool'.items) (sym edited) (laid-set hs free.items pool.items pool'.items i head new store.laid k.within (block ∙ at) same is_head);
        };
        view = ap (λ hs'. shelf most (runs_in hs' pool'.items)) edited ∙ (ap (shelf most) runs ∙ ap (λ (v : Shelf T). shelf v.most (set v.runs i run)) view);
      }

  -- a head whose run was changed behind its first entry
  kept_front : (pool : List T) (head : Head T) (len : ℕ) (run : List T) → len ≤ 128 → run_in pool head.block len ≡ run → ((d : T) → get_or run 0 d ≡ head.first) → IsHead pool (record head { len = len })
  kept_front pool head len run most is_run first = record { len = most; first = λ d some. ap (λ r. get_or r 0 d) is_run ∙ first d }

  pub front-insert : (heads : List (Head T)) (old new : List T) (now : List (List T)) (i place : ℕ) (head : Head T) (e : T) → IsKnown heads old now i head → head.len < 128 → place ≤ head.len → 0 < place → run_in new head.block (head.len + 1) ≡ insert (run_in old head.block head.len) place e → IsHead new (record head { len = head.len + 1 })
  front-insert heads old new now i place head e k room le behind is =
      let run = run_at now i in
      kept_front new head (head.len + 1) (insert run place e) (omega arith) (is ∙ ap (λ r. insert r place e) k.run) (λ d. get_or-insert_below run place e d 0 behind (omega (arith, k.len)) ∙ k.first d (omega arith))

  pub front-remove : (heads : List (Head T)) (old new : List T) (now : List (List T)) (i place : ℕ) (head : Head T) → IsKnown heads old now i head → place < head.len → 0 < place → run_in new head.block (head.len - 1) ≡ remove (run_in old head.block head.len) place → IsHead new (record head { len = head.len - 1 })
  front-remove heads old new now i place head k lt behind is =
      let run = run_at now i in
      kept_front new head (head.len - 1) (remove run place) (omega (arith, k.most)) (is ∙ ap (λ r. remove r place) k.run) (λ d. get_or-remove_below run place d 0 behind (omega (arith, k.len)) ∙ k.first d (omega arith))

  pub front-set : (heads : List (Head T)) (old new : List T) (now : List (List T)) (i place : ℕ) (head : Head T) (e : T) → IsKnown heads old now i head → place < head.len → 0 < place → run_in new head.block head.len ≡ set (run_in old head.block head.len) place e → IsHead new (record head { len = head.len })
  front-set heads old new now i place head e k lt behind is =
      let run = run_at now i in
      kept_front new head head.len (set run place e) k.most (is ∙ ap (λ r. set r place e) k.run) (λ d. get_or-set_other run place 0 e d (omega arith) ∙ k.first d (omega arith))

  -- the entries from a place on were moved to the end of another run
  pub shifted : (most : ℕ) (heads heads' : Vec (Head T) Global) (free : Vec ℕ Global) (pool pool' : Vec T Global) (now : Shelf T) (i to place : ℕ) (source target first second : Head T) → IsStore most heads free pool → shelf most (runs_in heads.items pool.items) ≡ now
      → i < length now.runs → to < length now.runs → i ≢ to → place ≤ length (run_at now.runs i) → source ≡ get_or heads.items i source → target ≡ get_or heads.items to target
      → heads'.items ≡ set (set heads.items to first) i second → vec_capacity heads' ≡ vec_capacity heads → vec_capacity pool' ≡ vec_capacity pool → SameBut pool.items pool'.items target.block
      → first.block ≡ target.block → IsHead pool'.items first → run_in pool'.items target.block first.len ≡ run_in pool.items target.block target.len ++ drop place (run_in pool.items source.block source.len)
      → second.block ≡ source.block → IsHead pool'.items second → second.len ≡ place
      → IsChanged most heads' free pool' (shelf now.most (set now.runs to (run_at now.runs to ++ drop place (run_at now.runs i)))) i (take place (run_at now.runs i))
  shifted most heads heads' free pool pool' now i to place source target first second store view within to_within other short read to_read edited heads_room pool_room others first_block first_head first_run second_block second_head second_len =
      let hs = heads.items in
      let k = known most heads free pool now i source store view within read in
      let t = known most heads free pool now to target store view to_within to_read in
      let between = with_item heads to first in
      let is_first = first_run ∙ (ap (λ r. r ++ drop place (run_in pool.items source.block source.len)) t.run ∙ ap (λ r. run_at now.runs to ++ drop place r) k.run) in
      let one = changed most heads between free pool pool' now to target first _ store view to_within to_read refl refl pool_room first_block others first_head is_first in
      let at_target : (get_or hs to source).block ≡ target.block = ap (λ (h : Head T). h.block) (get_or_default hs to source target t.within ∙ sym t.is) in
      let apart : source.block ≢ target.block = λ same.
      other_blocks hs free.items pool.items to i source store.laid t.within k.within other (sym (ap (λ (h : Head T). h.block) k.is) ∙ (same ∙ sym at_target)) in
      let few : place ≤ source.len = omega (arith, short, k.len) in
      let is_second : run_in pool'.items source.block second.len ≡ take place (run_at now.runs i) =
      ap (run_in pool'.items source.block) second_len
      ∙ (others.runs source.block place apart (omega (arith, few, k.most))
      ∙ (sym (take-take place source.len (drop (source.block * 128) pool.items) few) ∙ ap (take place) k.run)) in
      changed most between heads' free pool' pool' _ i source second _ one.store one.view (omega (arith, within, length-set now.runs to (run_at now.runs to ++ drop place (run_at now.runs i)))) (k.is ∙ sym (get_or-set_other hs to i first source other))
      edited heads_room refl second_block (same_but-refl pool'.items source.block) second_head is_second

  pub view_changed : (f : List (List T) → List (List T)) (most : ℕ) (old new : List (List T)) (now : Shelf T) → shelf most old ≡ now → new ≡ f old → shelf most new ≡ shelf now.most (f now.runs)
  view_changed f most old new now is changed = ap (shelf most) changed ∙ ap (λ (v : Shelf T). shelf v.most (f v.runs)) is

-- what a call leaves that succeeds
pub succeeded : {V E A : Type 0} (r : Result V E) (x y z : A) → IsOk r → z ≡ (if is_ok r then x else y) → z ≡ x
succeeded (Ok v) x y z ok is = is
succeeded (Err e) x y z ok is = cc
