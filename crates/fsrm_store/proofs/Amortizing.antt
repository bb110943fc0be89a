-- Images are paid for by records.
use Rattle.std.proofs.Common.{◌≡◌, inl, inr, ℕ, suc, true, ◌+◌, ◌*◌, ◌≤◌, ◌<◌, List, [], ◌∷◌, ◌++◌, length, length-append, arith, sym, ◌∙◌, ap, subst}
use Rattle.std.specs.Prelude.{◌/◌, ◌-◌, max, Err, Option, Result, if◌then◌else◌}
use Rattle.std.proofs.lemmas.Nat.{le-div, mul-le}
use Rattle.fsrm_model.specs.commands.Step.{step}
use Rattle.fsrm_model.specs.declared.command.Command.{Command}
use Rattle.fsrm_model.specs.declared.command.Entry.{Entry}
use Rattle.fsrm_model.specs.declared.row.Capacity.{Capacity}
use Rattle.fsrm_model.specs.declared.row.Rows.{Rows}
use Rattle.fsrm_model.specs.store.Replays.{command_entries, journal_entry}
use Rattle.fsrm_outside.specs.Parts.{Parts, other}
use Rattle.fsrm_journal.specs.Records.{records}
use Rattle.fsrm_journal.specs.Stores.{Holding, Stands}
use Rattle.fsrm_journal.specs.declared.journal.Journal.{Journal}
use Rattle.fsrm_journal.proofs.Files.{records-append}
use Rattle.fsrm_store.specs.Amortized.{bytes_left, bytes_since, entries_bytes, held_bytes, record_bytes, Amortized, KeepsHalf, RulesStill}
use Rattle.fsrm_store.specs.Standing.{tail_of, StandsFor}
use Rattle.fsrm_store.specs.declared.fault.StoreFault.{StoreFault}
use Rattle.fsrm_store.specs.declared.fault.StoreFault.TheVariants.{DiskFault, NoMemory}
use Rattle.fsrm_store.specs.declared.store.Store.{Store}

-- ---- looks
-- no image was written
pub unpaid : (nodes looks steps bytes left : ℕ) → steps ≤ looks → left ≤ bytes → Amortized nodes looks steps bytes left
unpaid nodes looks steps bytes left few fits = record { images = 0; few = omega (arith, few); paid = omega (arith, fits) }

-- one was
pub paid_once : (nodes looks steps bytes left : ℕ) → steps ≤ looks + 2 * nodes → 1048576 + left ≤ bytes → Amortized nodes looks steps bytes left
paid_once nodes looks steps bytes left few fits = record { images = 1; few = omega (arith, few); paid = omega (arith, fits) }

pub whole : (nodes looks steps bytes left : ℕ) → Amortized nodes looks steps bytes left → steps ≤ looks + bytes / 1048576 * (2 * nodes)
whole nodes looks steps bytes left a =
    let few : a.images ≤ bytes / 1048576 = le-div a.images bytes 1048576 (omega arith) (omega (arith, a.paid)) in
    let product : a.images * (2 * nodes) ≤ bytes / 1048576 * (2 * nodes) = mul-le a.images (2 * nodes) (bytes / 1048576) (2 * nodes) few (omega arith) in
    omega (arith, a.few, product)

pub together : (nodes more most looks mid spent steps bytes left added rest : ℕ) → nodes ≤ most → more ≤ most → Amortized nodes looks mid bytes left → Amortized more (mid + spent) steps (left + added) rest
    → Amortized most (looks + spent) steps (bytes + added) rest
together nodes more most looks mid spent steps bytes left added rest first second a b = record {
  images = a.images + b.images;
  few =
      let one : a.images * (2 * nodes) ≤ a.images * (2 * most) = mul-le a.images (2 * nodes) a.images (2 * most) (omega arith) (omega (arith, first)) in
      let two : b.images * (2 * more) ≤ b.images * (2 * most) = mul-le b.images (2 * more) b.images (2 * most) (omega arith) (omega (arith, second)) in
      omega (arith, one, two, a.few, b.few);
  paid = omega (arith, a.paid, b.paid);
}

-- looks before, and bytes by another name
pub later : (nodes looks mid steps bytes other left : ℕ) → mid ≤ looks → bytes ≡ other → Amortized nodes mid steps bytes left → Amortized nodes looks steps other left
later nodes looks mid steps bytes other left few is a = record { images = a.images; few = omega (arith, few, a.few); paid = omega (arith, is, a.paid) }

pub renamed : (nodes others looks mid steps bytes other left : ℕ) → nodes ≡ others → mid ≤ looks → bytes ≡ other → Amortized nodes mid steps bytes left → Amortized others looks steps other left
renamed nodes others looks mid steps bytes other left same few is a = subst (λ (n : ℕ). Amortized n looks steps other left) same (later nodes looks mid steps bytes other left few is a)

-- ---- when an image is written
-- a tail that is too long has more bytes than the image, and than 1 MiB
pub longer : (tail image most : ℕ) → most ≡ max image 1048576 → most < tail → max 1048576 image < tail
longer tail image most is long = grind (arith, is, long)

-- before and after such a call the half was left as it was
pub half_then : (old mid now new : Store) (bytes others : ℕ) → KeepsHalf mid now bytes → RulesStill old mid → RulesStill now new → bytes ≡ others → KeepsHalf old new others
half_then old mid now new bytes others (inl kept) before after same = inl (record { ruling = after.ruling ∙ kept.ruling ∙ before.ruling; image_end = after.image_end ∙ kept.image_end ∙ before.image_end; image = after.image ∙ kept.image ∙ before.image })
half_then old mid now new bytes others (inr turned) before after same = inr (record {
  long = subst (λ (n : ℕ). max 1048576 n < others) before.image (subst (λ (n : ℕ). max 1048576 mid.image < n) same turned.long);
  ruling = after.ruling ∙ turned.ruling ∙ ap other before.ruling;
})

-- ---- the bytes of records
pub entry_bytes : (K : Capacity) (R : Rows) (c : Command) (entry : Entry) → (step K R c).lasting ≡ true → entry ≡ journal_entry R c → entries_bytes (command_entries K R c) ≡ record_bytes entry
entry_bytes K R c entry lasts is =
    let one : entries_bytes (command_entries K R c) ≡ entries_bytes (journal_entry R c ∷ []) = ap (λ b. entries_bytes (if b then journal_entry R c ∷ [] else [])) lasts in
    let alone : entries_bytes (journal_entry R c ∷ []) ≡ record_bytes (journal_entry R c) = omega arith in
    one ∙ alone ∙ ap record_bytes (sym is)

-- a tail that is too long has more than 1 MiB
pub passed : (tail image most : ℕ) → most ≡ max image 1048576 → most < tail → 1048576 ≤ tail
passed tail image most is long = grind (arith, is, long)

held_are : (held : List (List ℕ)) (journal : Journal) → Holding held journal → held_bytes journal.held journal.bytes.items ≡ length (records held)
held_are [] journal h = ap (λ (n : ℕ). held_bytes n journal.bytes.items) (sym h.count)
held_are (body ∷ bodies) journal h =
    ap (λ (n : ℕ). held_bytes n journal.bytes.items) (sym h.count) ∙ ap (λ (bytes : List ℕ). suc (length bytes)) h.bytes

-- a record more is held
pub held_more : (old new : Journal) (held : List (List ℕ)) (body : List ℕ) → Holding held old → Holding (held ++ body ∷ []) new → new.end ≡ old.end → new.image_end ≡ old.image_end
    → bytes_since new ≡ bytes_since old + (5 + length body)
held_more old new held body was now end image_end =
    let before = held_are held old was in
    let after = held_are (held ++ body ∷ []) new now in
    let joined = ap (λ (l : List ℕ). length l) (records-append held (body ∷ [])) in
    let split = length-append (records held) (records (body ∷ [])) in
    let one : length (records (body ∷ [])) ≡ 5 + length body = record_long body in
    let tails : tail_of new ≡ tail_of old = ap (λ (n : ℕ). n - new.image_end) end ∙ ap (λ (n : ℕ). old.end - n) image_end in
    omega (arith, before, after, joined, split, one, tails)
  where
    record_long : (body : List ℕ) → length (records (body ∷ [])) ≡ 5 + length body
    record_long body = omega (arith, length-append body [])

-- all of a store's records
since_are : {D : Type 0} {reads : D → Option Parts} {clock : D → Option ℕ} {images : D → ℕ → Parts → Type 0} {kept R : Rows} {store : Store} {disk : D} (s : StandsFor reads clock images kept R store disk)
    → bytes_since store.journal ≡ length (records (s.bodies ++ s.held))
since_are {store = store} s =
    let at = s.stands.at in
    let held = held_are s.held store.journal s.holding in
    let joined = ap (λ (l : List ℕ). length l) (records-append s.bodies s.held) in
    let split = length-append (records s.bodies) (records s.held) in
    omega (arith, at.end, at.image_end, held, joined, split)

-- once they are written
pub since_flushed : {D : Type 0} {reads : D → Option Parts} {clock : D → Option ℕ} {images : D → ℕ → Parts → Type 0} {kept R : Rows} {store : Store} {disk : D} (after : Journal) (new : D) (s : StandsFor reads clock images kept R store disk)
    → Stands reads clock images s.head s.bytes (s.bodies ++ s.held) after new → after.held ≡ 0 → bytes_since after ≡ bytes_since store.journal
since_flushed {store = store} after new s stands none =
    let is = since_are s in
    let empty : held_bytes after.held after.bytes.items ≡ 0 = ap (λ (n : ℕ). held_bytes n after.bytes.items) none in
    omega (arith, stands.at.end, stands.at.image_end, empty, is)

-- where none is held they are the tail
pub since_tail : (journal : Journal) → journal.held ≡ 0 → bytes_since journal ≡ tail_of journal
since_tail journal none =
    let empty : held_bytes journal.held journal.bytes.items ≡ 0 = ap (λ (n : ℕ). held_bytes n journal.bytes.items) none in
    omega (arith, empty)

pub since_none : (journal : Journal) → journal.held ≡ 0 → journal.end ≡ journal.image_end → bytes_since journal ≡ 0
since_none journal none ends = omega (arith, since_tail journal none, ends)

-- a fault of the disk leaves none for sure
pub left_none : {T : Type 0} (result : Result T StoreFault) (store : Store) (n : ℕ) → result ≡ Err DiskFault → bytes_left result store ≤ n
left_none {T} result store n is = subst (λ (r : Result T StoreFault). bytes_left r store ≤ n) (sym is) (omega arith)

-- the fault is handed on
pub left_same : {T U : Type 0} (nodes looks steps bytes : ℕ) (result : Result T StoreFault) (told : Result U StoreFault) (store other : Store) → result ≡ Err DiskFault → told ≡ Err DiskFault
    → Amortized nodes looks steps bytes (bytes_left result store) → Amortized nodes looks steps bytes (bytes_left told other)
left_same {T} {U} nodes looks steps bytes result told store other was is a = record { images = a.images; few = a.few; paid = omega (arith, a.paid, left_none told other 0 is) }

-- want of memory leaves all
pub left_all : {T : Type 0} (result : Result T StoreFault) (store : Store) (n : ℕ) → result ≡ Err NoMemory → bytes_since store.journal ≤ n → bytes_left result store ≤ n
left_all {T} result store n is few = subst (λ (r : Result T StoreFault). bytes_left r store ≤ n) (sym is) few
