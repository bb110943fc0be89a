-- What one call more leaves of the images of a history.
use Rattle.std.proofs.Common.{◌≡◌, ◌⊎◌, inl, inr, ⊎_elim, ℕ, ◌≤◌, true, false, Some, List, [], ◌∷◌, ◌++◌, length, take, refl, sym, ◌∙◌, ap, subst, arith, length-append}
use Rattle.std.specs.Prelude.{Bool}
use Rattle.std.proofs.lemmas.Bool.{cases_lt}
use Rattle.std.proofs.lemmas.List.{append-nil, take-append-le, take_all}
use Rattle.fsrm_outside.specs.Changes.{Same, Through, Torn}
use Rattle.fsrm_outside.specs.Contents.{parts_in}
use Rattle.fsrm_outside.specs.DiskModel.{IsImage}
use Rattle.fsrm_outside.specs.History.{images_in, clock_in, Noted, NotedOrMissed, Stopped, Wrote}
use Rattle.fsrm_outside.specs.ImageLaws.{now_image, image_back, failed_back, two_parts}
use Rattle.fsrm_outside.specs.MemoryLaws.{some_same, take_whole}
use Rattle.fsrm_outside.specs.Parts.{Parts, part_of}
use Rattle.fsrm_outside.specs.Record.{now_of, since, GoesOn}
use Rattle.fsrm_outside.specs.declared.calls.Call.{Call}
use Rattle.fsrm_outside.specs.declared.calls.Call.TheVariants.{WriteAt, FailedAt, Sync}
use Rattle.fsrm_outside.specs.declared.history.History.{History}
use Rattle.fsrm_outside.specs.declared.traits.Part.{Part}
use Rattle.fsrm_outside.proofs.Histories.{since-push}

-- what a crash may leave now
abbrev Image : History → Parts → Type 0
Image h i = IsImage (parts_in h.start) (since h.begun h.calls.items) i

pub torn_same : (part : Part) (place n : ℕ) (p : Parts) → Torn part place n p p
torn_same part place n p = record { other_part = refl; before = refl; after = refl; no_shorter = omega arith; no_longer = omega arith }

at_start : (h : History) (s : ℕ) (i : Parts) → length h.calls.items ≡ s → Image h i → images_in h s i
at_start h s i is here = subst (λ (l : List Call). IsImage (parts_in h.start) (since h.begun l) i) (sym (take_whole h.calls.items s is)) here

-- the same start, and the calls since the same crash
along : (old new : History) (calls : List Call) (i : Parts) → parts_in new.start ≡ parts_in old.start → new.begun ≡ old.begun
    → IsImage (parts_in new.start) (since new.begun calls) i → IsImage (parts_in old.start) (since old.begun calls) i
along old new calls i start begun is =
    subst (λ (n : ℕ). IsImage (parts_in old.start) (since n calls) i) begun (subst (λ (p : Parts). IsImage p (since new.begun calls) i) start is)

noted : (old new : History) (call : Call) → new.calls.items ≡ old.calls.items ++ call ∷ [] → parts_in new.start ≡ parts_in old.start → new.begun ≡ old.begun → (m : ℕ) (i : Parts) → length old.calls.items ≤ m → images_in new m i
    → Image old i ⊎ IsImage (parts_in old.start) (call ∷ since old.begun old.calls.items) i
noted old new call calls_are start begun m i from left =
    let here = along old new (take m new.calls.items) i start begun left in
    let calls = old.calls.items in
    ⊎_elim
    (λ more. inr (subst (λ (l : List Call). IsImage (parts_in old.start) l i)
    (ap (since old.begun) (take_all m new.calls.items (omega (arith, more, ap length calls_are, length-append calls (call ∷ []))) ∙ calls_are) ∙ since-push old.begun calls call old.begins) here))
    (λ few.
    let same : length calls ≡ m = omega arith in
    inl (subst (λ (l : List Call). IsImage (parts_in old.start) (since old.begun l) i) (ap (take m) calls_are ∙ take-append-le m calls (call ∷ []) (omega arith) ∙ take_whole calls m same) here))
    (cases_lt (length calls) m)

stopped : (old new : History) → Stopped old new → (m : ℕ) (i : Parts) → length old.calls.items ≤ m → m ≤ length new.calls.items → images_in new m i → Image old i
stopped old new kept m i from to left =
    let here = along old new (take m new.calls.items) i kept.start kept.begun left in
    let same : length old.calls.items ≡ m = omega (arith, ap length kept.calls) in
    subst (λ (l : List Call). IsImage (parts_in old.start) (since old.begun l) i) (ap (take m) kept.calls ∙ take_whole old.calls.items m same) here

-- a call whose images come by a step from those before it
pub noted_through : (step : Parts → Parts → Type 0) (old new : History) (call : Call) → new.calls.items ≡ old.calls.items ++ call ∷ [] → parts_in new.start ≡ parts_in old.start → new.begun ≡ old.begun → ((i : Parts) → step i i)
    → ((i : Parts) → IsImage (parts_in old.start) (call ∷ since old.begun old.calls.items) i → (d : Parts) × Image old d × step d i)
    → Through clock_in images_in step old new
noted_through step old new call calls_are start begun still back s t m i at_s at_t from to left =
    let now : length old.calls.items ≡ s = some_same _ _ at_s in
    ⊎_elim
    (λ before. (i, at_start old s i now before, still i))
    (λ after. let was = back i after in (was.0, at_start old s was.0 now was.1, was.2))
    (noted old new call calls_are start begun m i (omega arith) left)

pub stopped_through : (step : Parts → Parts → Type 0) (old new : History) → Stopped old new → ((i : Parts) → step i i) → Through clock_in images_in step old new
stopped_through step old new kept still s t m i at_s at_t from to left =
    let now : length old.calls.items ≡ s = some_same _ _ at_s in
    let end : length new.calls.items ≡ t = some_same _ _ at_t in
    (i, at_start old s i now (stopped old new kept m i (omega arith) (omega arith) left), still i)

-- a call that leaves the disk as it is, kept or not
pub quiet_through : (old new : History) (call : Call) → NotedOrMissed call old new
    → ((cs : List Call) (i : Parts) → IsImage (parts_in old.start) (call ∷ cs) i → IsImage (parts_in old.start) cs i) → Through clock_in images_in Same old new
quiet_through old new call kept still = ⊎_elim
    (λ is. noted_through Same old new call is.calls is.start is.begun (λ i. refl) (λ i after. (i, still (since old.begun old.calls.items) i after, refl)))
    (λ lost. stopped_through Same old new lost.rest (λ i. refl))
    kept

-- a sync, whether it did its work or not
pub sync_through : (old new : History) (done : Bool) → NotedOrMissed (Sync done) old new → Through clock_in images_in Same old new
sync_through old new done kept = ⊎_elim
    (λ is. noted_through Same old new (Sync done) is.calls is.start is.begun (λ i. refl) (λ i after. (i, back done i after, refl)))
    (λ lost. stopped_through Same old new lost.rest (λ i. refl))
    kept
  where
    back : (done : Bool) (i : Parts) → IsImage (parts_in old.start) (Sync done ∷ since old.begun old.calls.items) i → Image old i
    back true i only = subst (Image old) (sym (two_parts (now_of (parts_in old.start) (since old.begun old.calls.items)) i only.0 only.1)) (now_image (parts_in old.start) (since old.begun old.calls.items) old.ranges)
    back false i left = left

-- after a sync that did its work, what a read gives is the only image
pub synced : (old new : History) (t : ℕ) (i : Parts) → Noted (Sync true) old new → Some (length new.calls.items) ≡ Some t → images_in new t i → parts_in new.parts ≡ i
synced old new t i kept at left =
    let calls = old.calls.items in
    let here = along old new (take t new.calls.items) i kept.start kept.begun left in
    let whole = ap (since old.begun) (take_whole new.calls.items t (some_same _ _ at) ∙ kept.calls) ∙ since-push old.begun calls (Sync true) old.begins in
    let only : IsImage (parts_in old.start) (Sync true ∷ since old.begun calls) i = subst (λ (l : List Call). IsImage (parts_in old.start) l i) whole here in
    kept.parts ∙ old.parts_are ∙ sym (two_parts (now_of (parts_in old.start) (since old.begun calls)) i only.0 only.1)

within_now : (old : History) (part : Part) (place : ℕ) → place ≤ length (part_of part (parts_in old.parts)) → place ≤ length (part_of part (now_of (parts_in old.start) (since old.begun old.calls.items)))
within_now old part place within = subst (λ (p : Parts). place ≤ length (part_of part p)) old.parts_are within

pub wrote_through : (old new : History) (part : Part) (place : ℕ) (bytes : List ℕ) → place ≤ length (part_of part (parts_in old.parts)) → Wrote part place bytes old new
    → Through clock_in images_in (Torn part place (length bytes)) old new
wrote_through old new part place bytes within wrote =
    let copy = wrote.calls.0 in
    noted_through (Torn part place (length bytes)) old new (WriteAt part place copy) wrote.calls.2 wrote.start wrote.begun (torn_same part place (length bytes))
    (λ i after.
    let was = image_back (parts_in old.start) (since old.begun old.calls.items) part place copy i (within_now old part place within) after in
    (was.0, was.1, subst (λ (k : ℕ). Torn part place k was.0 i) (ap length wrote.calls.1) was.2))

pub failed_through : (old new : History) (part : Part) (place count : ℕ) → place ≤ length (part_of part (parts_in old.parts)) → NotedOrMissed (FailedAt part place count) old new
    → Through clock_in images_in (Torn part place count) old new
failed_through old new part place count within = ⊎_elim
    (λ is. noted_through (Torn part place count) old new (FailedAt part place count) is.calls is.start is.begun (torn_same part place count)
    (λ i after. failed_back (parts_in old.start) (since old.begun old.calls.items) part place count i (within_now old part place within) after))
    (λ lost. stopped_through (Torn part place count) old new lost.rest (torn_same part place count))

-- nothing was kept, and then a call, or there was no place for it
pub stopped_then : (a b c : History) (call : Call) → Stopped a b → NotedOrMissed call b c → NotedOrMissed call a c
stopped_then a b c call first = ⊎_elim
    (λ is. inl (record {
      calls = is.calls ∙ ap (λ (l : List Call). l ++ call ∷ []) first.calls;
      start = is.start ∙ first.start;
      begun = is.begun ∙ first.begun;
      parts = is.parts ∙ first.parts;
    }))
    (λ lost. inr (record {
      full = omega (arith, lost.full, first.room, ap length first.calls);
      rest = record {
        calls = lost.rest.calls ∙ first.calls;
        start = lost.rest.start ∙ first.start;
        begun = lost.rest.begun ∙ first.begun;
        parts = lost.rest.parts ∙ first.parts;
        room = omega (arith, first.room, lost.rest.room);
      };
    }))

-- the record goes on by that call, or not at all, after the same start and the same crash
pub noted_goes : (P : Call → Type 0) (old new : History) (call : Call) → P call → NotedOrMissed call old new → GoesOn P old.calls.items new.calls.items
noted_goes P old new call is = ⊎_elim
    (λ kept. record { more = call ∷ []; is = kept.calls; kind = (is, tt) })
    (λ lost. record { more = []; is = lost.rest.calls ∙ sym (append-nil old.calls.items); kind = tt })

pub noted_start : (old new : History) (call : Call) → NotedOrMissed call old new → parts_in new.start ≡ parts_in old.start
noted_start old new call = ⊎_elim (λ kept. kept.start) (λ lost. lost.rest.start)

pub noted_begun : (old new : History) (call : Call) → NotedOrMissed call old new → new.begun ≡ old.begun
noted_begun old new call = ⊎_elim (λ kept. kept.begun) (λ lost. lost.rest.begun)

-- a write that failed leaves what a read gives
pub failed_same : (old new : History) (part : Part) (place count : ℕ) → NotedOrMissed (FailedAt part place count) old new → parts_in new.parts ≡ parts_in old.parts
failed_same old new part place count = ⊎_elim (λ is. is.parts) (λ lost. lost.rest.parts)

pub failed_reads : (old new : History) (part : Part) (place count n : ℕ) → NotedOrMissed (FailedAt part place count) old new
    → (was : Parts) → Some (parts_in old.parts) ≡ Some was → (torn : Parts) × (Some (parts_in new.parts) ≡ Some torn) × Torn part place n was torn
failed_reads old new part place count n failed was told = (was, ap (λ (p : Parts). Some p) (failed_same old new part place count failed) ∙ told, torn_same part place n was)
