-- The laws of a device in memory.
use Rattle.std.specs.Prelude.{◌≡◌, ◌↔◌, ℕ, ◌+◌, ◌-◌, ◌≤◌, Some, List, ◌++◌, length, take, drop, reverse, refl}
use Rattle.std.proofs.Common.{sym, ◌∙◌, ap, subst, arith, take-add}
use Rattle.std.proofs.lemmas.List.{take_all, reverse-append}
use Rattle.fsrm_outside.specs.Contents.{parts_in}
use Rattle.fsrm_outside.specs.DiskModel.{IsImage}
use Rattle.fsrm_outside.specs.ImageLaws.{now_image}
use Rattle.fsrm_outside.specs.Kept.{KeepsDisk, KeepsSink, KeepsSource}
use Rattle.fsrm_outside.specs.MemoryOutside.{calls_of, time_of, left_of, shown_of, shown_at_of, parts_of, images_of, read_faults_of, write_faults_of, disk_faults_of, ByRead, ByWrite, ByDisk}
use Rattle.fsrm_outside.specs.Parts.{Parts}
use Rattle.fsrm_outside.specs.Record.{now_of, text_of, since, IsRead, IsWrite, IsDisk, Each, GoesOn}
use Rattle.fsrm_outside.specs.RecordLaws.{goes_same, goes_then, longer, earlier, newest, newest_kind, newest_first, image_read, image_write, text_read, text_disk, text_more}
use Rattle.fsrm_outside.specs.Shown.{IsFront}
use Rattle.fsrm_outside.specs.Told.{Later}
use Rattle.fsrm_outside.specs.declared.calls.Call.{Call}
use Rattle.fsrm_outside.specs.declared.memory.MemoryOutside.{MemoryOutside}

pub read_same : (o : MemoryOutside) → ByRead o o
read_same o = record { calls = goes_same IsRead (calls_of o); start = refl; begun = refl; parts = refl; shown = refl; write_faults = refl; disk_faults = refl }

pub read_then : (a b c : MemoryOutside) → ByRead a b → ByRead b c → ByRead a c
read_then a b c first second = record {
  calls = goes_then IsRead (calls_of a) (calls_of b) (calls_of c) first.calls second.calls;
  start = second.start ∙ first.start;
  begun = second.begun ∙ first.begun;
  parts = second.parts ∙ first.parts;
  shown = second.shown ∙ first.shown;
  write_faults = second.write_faults ∙ first.write_faults;
  disk_faults = second.disk_faults ∙ first.disk_faults;
}

pub write_same : (o : MemoryOutside) → ByWrite o o
write_same o = record { calls = goes_same IsWrite (calls_of o); start = refl; begun = refl; parts = refl; left = refl; read_faults = refl; disk_faults = refl }

pub write_then : (a b c : MemoryOutside) → ByWrite a b → ByWrite b c → ByWrite a c
write_then a b c first second = record {
  calls = goes_then IsWrite (calls_of a) (calls_of b) (calls_of c) first.calls second.calls;
  start = second.start ∙ first.start;
  begun = second.begun ∙ first.begun;
  parts = second.parts ∙ first.parts;
  left = second.left ∙ first.left;
  read_faults = second.read_faults ∙ first.read_faults;
  disk_faults = second.disk_faults ∙ first.disk_faults;
}

pub disk_same : (o : MemoryOutside) → ByDisk o o
disk_same o = record { calls = goes_same IsDisk (calls_of o); start = refl; begun = refl; shown = refl; left = refl; read_faults = refl; write_faults = refl }

pub disk_then : (a b c : MemoryOutside) → ByDisk a b → ByDisk b c → ByDisk a c
disk_then a b c first second = record {
  calls = goes_then IsDisk (calls_of a) (calls_of b) (calls_of c) first.calls second.calls;
  start = second.start ∙ first.start;
  begun = second.begun ∙ first.begun;
  shown = second.shown ∙ first.shown;
  left = second.left ∙ first.left;
  read_faults = second.read_faults ∙ first.read_faults;
  write_faults = second.write_faults ∙ first.write_faults;
}

pub some_same : (a b : ℕ) → Some a ≡ Some b → a ≡ b
some_same a b is = cc

pub take_whole : (xs : List Call) (t : ℕ) → length xs ≡ t → take t xs ≡ xs
take_whole xs t is = take_all t xs (omega arith)

iff_along : {A : Type 0} (P : A → Type 0) (x y : A) → x ≡ y → P x ↔ P y
iff_along P x y is = (subst P is, subst P (sym is))

iff_then : {A B C : Type 0} → A ↔ B → B ↔ C → A ↔ C
iff_then f g = (λ a. g.0 (f.0 a), λ c. f.1 (g.1 c))

-- the images of one start, one crash and one record
along_start : (a b : MemoryOutside) (calls : List Call) (image : Parts) → parts_in b.history.start ≡ parts_in a.history.start → b.history.begun ≡ a.history.begun
    → IsImage (parts_in b.history.start) (since b.history.begun calls) image ↔ IsImage (parts_in a.history.start) (since a.history.begun calls) image
along_start a b calls image start begun = iff_then
    (iff_along (λ (x : Parts). IsImage x (since b.history.begun calls) image) (parts_in b.history.start) (parts_in a.history.start) start)
    (iff_along (λ (n : ℕ). IsImage (parts_in a.history.start) (since n calls) image) b.history.begun a.history.begun begun)

-- over reads and writes the disk stays
keeps_disk : (P : Call → Type 0) → ((start : Parts) (xs ys : List Call) (image : Parts) → Each P xs → IsImage start (xs ++ ys) image ↔ IsImage start ys image)
    → (a b : MemoryOutside) → GoesOn P (calls_of a) (calls_of b) → parts_in b.history.start ≡ parts_in a.history.start → b.history.begun ≡ a.history.begun → parts_of b ≡ parts_of a → disk_faults_of b ≡ disk_faults_of a
    → KeepsDisk (λ o. Some (parts_of o)) (λ o. Some (time_of o)) images_of disk_faults_of a b
keeps_disk P may a b goes start begun parts faults = record {
  same_reads = ap (λ (p : Parts). Some p) parts;
  later = longer P (calls_of a) (calls_of b) goes;
  since = λ s t m image at_a at_b from to.
      let now : time_of a ≡ s = some_same _ _ at_a in
      iff_then
      (along_start a b (take m (calls_of b)) image start begun)
      (iff_then
      (iff_along (λ (l : List Call). IsImage (parts_in a.history.start) l image) _ _ (newest_first P (calls_of a) (calls_of b) goes a.history.begun m a.history.begins (omega arith)))
      (iff_then
      (may (parts_in a.history.start) (newest P (calls_of a) (calls_of b) goes m) (since a.history.begun (calls_of a)) image (newest_kind P (calls_of a) (calls_of b) goes m))
      (iff_along (λ (l : List Call). IsImage (parts_in a.history.start) (since a.history.begun l) image) (calls_of a) (take s (calls_of a)) (sym (take_whole (calls_of a) s now)))));
  past = λ s m image at_a few.
      let now : time_of a ≡ s = some_same _ _ at_a in
      iff_then
      (along_start a b (take m (calls_of b)) image start begun)
      (iff_along (λ (l : List Call). IsImage (parts_in a.history.start) (since a.history.begun l) image) _ _ (earlier P (calls_of a) (calls_of b) goes m (omega arith)));
  same_faults = faults;
}

-- over reads and calls of the disk the sink stays
keeps_sink : (P : Call → Type 0) → ((xs ys : List Call) → Each P xs → text_of (xs ++ ys) ≡ text_of ys)
    → (a b : MemoryOutside) → GoesOn P (calls_of a) (calls_of b) → shown_of b ≡ shown_of a → write_faults_of b ≡ write_faults_of a
    → KeepsSink (λ o. Some (shown_of o)) (λ o. Some (time_of o)) shown_at_of write_faults_of a b
keeps_sink P shown a b goes same faults = record {
  same_shown = ap (λ (l : List ℕ). Some l) same;
  later = longer P (calls_of a) (calls_of b) goes;
  since = λ s t m at_a at_b from to.
      let now : time_of a ≡ s = some_same _ _ at_a in
      ap text_of (newest_first P (calls_of a) (calls_of b) goes 0 m (omega arith) (omega arith))
      ∙ shown (newest P (calls_of a) (calls_of b) goes m) (reverse (calls_of a)) (newest_kind P (calls_of a) (calls_of b) goes m)
      ∙ ap (λ (l : List Call). text_of (reverse l)) (sym (take_whole (calls_of a) s now));
  past = λ s m at_a few.
      let now : time_of a ≡ s = some_same _ _ at_a in
      ap (λ (l : List Call). text_of (reverse l)) (earlier P (calls_of a) (calls_of b) goes m (omega arith));
  same_faults = faults;
}

pub read_keeps_disk : (a b : MemoryOutside) → ByRead a b → KeepsDisk (λ o. Some (parts_of o)) (λ o. Some (time_of o)) images_of disk_faults_of a b
read_keeps_disk a b by = keeps_disk IsRead image_read a b by.calls by.start by.begun by.parts by.disk_faults

pub write_keeps_disk : (a b : MemoryOutside) → ByWrite a b → KeepsDisk (λ o. Some (parts_of o)) (λ o. Some (time_of o)) images_of disk_faults_of a b
write_keeps_disk a b by = keeps_disk IsWrite image_write a b by.calls by.start by.begun by.parts by.disk_faults

pub read_keeps_sink : (a b : MemoryOutside) → ByRead a b → KeepsSink (λ o. Some (shown_of o)) (λ o. Some (time_of o)) shown_at_of write_faults_of a b
read_keeps_sink a b by = keeps_sink IsRead text_read a b by.calls by.shown by.write_faults

pub disk_keeps_sink : (a b : MemoryOutside) → ByDisk a b → KeepsSink (λ o. Some (shown_of o)) (λ o. Some (time_of o)) shown_at_of write_faults_of a b
disk_keeps_sink a b by = keeps_sink IsDisk text_disk a b by.calls by.shown by.write_faults

pub write_keeps_source : (a b : MemoryOutside) → ByWrite a b → KeepsSource (λ o. Some (left_of o)) read_faults_of a b
write_keeps_source a b by = record { same_left = ap (λ (l : List ℕ). Some l) by.left; same_faults = by.read_faults }

pub disk_keeps_source : (a b : MemoryOutside) → ByDisk a b → KeepsSource (λ o. Some (left_of o)) read_faults_of a b
disk_keeps_source a b by = record { same_left = ap (λ (l : List ℕ). Some l) by.left; same_faults = by.read_faults }

pub one_clock : (o : MemoryOutside) (s t : ℕ) → Some (time_of o) ≡ Some s → Some (time_of o) ≡ Some t → s ≡ t
one_clock o s t a b = some_same s t (sym a ∙ b)

pub write_later : (a b : MemoryOutside) → ByWrite a b → Later (Some (time_of a)) (Some (time_of b))
write_later a b by = longer IsWrite (calls_of a) (calls_of b) by.calls

pub write_past : (a b : MemoryOutside) (t m : ℕ) → ByWrite a b → Some (time_of a) ≡ Some t → m ≤ t → shown_at_of b m ≡ shown_at_of a m
write_past a b t m by at few =
    let now : time_of a ≡ t = some_same _ _ at in
    ap (λ (l : List Call). text_of (reverse l)) (earlier IsWrite (calls_of a) (calls_of b) by.calls m (omega arith))

pub shown_now : (o : MemoryOutside) (t : ℕ) → Some (time_of o) ≡ Some t → Some (shown_of o) ≡ Some (shown_at_of o t)
shown_now o t at = ap (λ (l : List ℕ). Some l) (o.told ∙ ap (λ (l : List Call). text_of (reverse l)) (sym (take_whole (calls_of o) t (some_same _ _ at))))

pub shown_grows : (o : MemoryOutside) (t m n : ℕ) → Some (time_of o) ≡ Some t → m ≤ n → n ≤ t → IsFront (shown_at_of o m) (shown_at_of o n)
shown_grows o t m n at le few =
    let is : m + (n - m) ≡ n = omega arith in
    let split : take n (calls_of o) ≡ take m (calls_of o) ++ take (n - m) (drop m (calls_of o)) = ap (λ (k : ℕ). take k (calls_of o)) (sym is) ∙ take-add m (n - m) (calls_of o) in
    let turned = ap reverse split ∙ reverse-append (take m (calls_of o)) (take (n - m) (drop m (calls_of o))) in
    let r = text_more (reverse (take (n - m) (drop m (calls_of o)))) (reverse (take m (calls_of o))) in
    (r.0, ap text_of turned ∙ r.1)

pub disk_later : (a b : MemoryOutside) → ByDisk a b → Later (Some (time_of a)) (Some (time_of b))
disk_later a b by = longer IsDisk (calls_of a) (calls_of b) by.calls

pub disk_past : (a b : MemoryOutside) (t m : ℕ) (image : Parts) → ByDisk a b → Some (time_of a) ≡ Some t → m ≤ t → images_of b m image ↔ images_of a m image
disk_past a b t m image by at few =
    let now : time_of a ≡ t = some_same _ _ at in
    iff_then
    (along_start a b (take m (calls_of b)) image by.start by.begun)
    (iff_along (λ (l : List Call). IsImage (parts_in a.history.start) (since a.history.begun l) image) _ _ (earlier IsDisk (calls_of a) (calls_of b) by.calls m (omega arith)))

pub reads_now : (o : MemoryOutside) (t : ℕ) (parts : Parts) → Some (time_of o) ≡ Some t → Some (parts_of o) ≡ Some parts → images_of o t parts
reads_now o t parts at told =
    let start = parts_in o.history.start in
    let calls = since o.history.begun (calls_of o) in
    let is : parts ≡ now_of start calls = some_parts parts (parts_of o) told ∙ o.history.parts_are in
    let here : IsImage start calls parts = subst (IsImage start calls) (sym is) (now_image start calls o.history.ranges) in
    subst (λ (l : List Call). IsImage start (since o.history.begun l) parts) (sym (take_whole (calls_of o) t (some_same _ _ at))) here
  where
    some_parts : (x y : Parts) → Some y ≡ Some x → x ≡ y
    some_parts x y is = cc

pub tells_reads : (o : MemoryOutside) (t : ℕ) → Some (time_of o) ≡ Some t → (parts : Parts) × (Some (parts_of o) ≡ Some parts)
tells_reads o t at = (parts_of o, refl)
