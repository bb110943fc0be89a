-- Making a store.
use Rattle.std.proofs.Common.{◌≡◌, ◌⊎◌, inl, inr, ℕ, ◌≤◌, ◌<◌, true, false, List, [], ◌∷◌, ◌++◌, length, length-append, take, refl, sym, ◌∙◌, ap, subst, arith}
use Rattle.std.specs.Prelude.{◌&&◌, ◌^◌, nat_eq, nat_le, min, Option, Err}
use Rattle.std.proofs.lemmas.List.{append-nil, take_all}
use Rattle.std.proofs.lemmas.Bool.{cases_lt}
use Rattle.fsrm_base.proofs.TestLaws.{both, le_is, or_later}
use Rattle.fsrm_model.specs.declared.row.Capacity.{Capacity}
use Rattle.fsrm_model.specs.nodes.Fresh.{new_rows}
use Rattle.fsrm_model.specs.store.Capacities.{is_capacity, is_cluster as is_cluster_size}
use Rattle.fsrm_model.specs.values.Limits.{most_nodes, most_names}
use Rattle.fsrm_outside.specs.Changes.{Same, Through}
use Rattle.fsrm_outside.specs.Parts.{Parts}
use Rattle.fsrm_outside.specs.declared.traits.Part.{Part}
use Rattle.fsrm_outside.specs.declared.traits.Part.TheVariants.{Zero}
use Rattle.fsrm_outside.proofs.Stages.{some_is}
use Rattle.fsrm_journal.specs.Formatted.{Formats, IsFormatted, NoneOrFresh}
use Rattle.fsrm_journal.specs.Halves.{Certain}
use Rattle.fsrm_journal.specs.Legal.{IsLegal}
use Rattle.fsrm_journal.specs.Opened.{judged_parts}
use Rattle.fsrm_journal.specs.Stores.{HoldsStore}
use Rattle.fsrm_journal.specs.declared.fault.JournalFault.{JournalFault}
use Rattle.fsrm_journal.specs.declared.fault.JournalFault.TheVariants.{NoStore as NoJournal, AlreadyStore as AlreadyJournal, Damaged as DamagedHalf, DiskFault as DiskFailed, NoMemory as MemoryOut}
use Rattle.fsrm_journal.specs.declared.heads.Head.{Head}
use Rattle.fsrm_journal.proofs.NewStore.{formats_never}
use Rattle.fsrm_journal.proofs.Stores.{fresh_store}
use Rattle.image_codec.specs.NewImage.{new_image}
use Rattle.fsrm_store.specs.Faults.{of_journal}
use Rattle.fsrm_store.specs.Init.{HoldsNew, IsInit, IsNew, MakesStore}
use Rattle.fsrm_store.specs.Recovery.{is_first_version}
use Rattle.fsrm_store.specs.States.{state_of}
use Rattle.fsrm_store.specs.States.State.{NoState}
use Rattle.fsrm_store.proofs.KeepsLaws.{new_keeps, written_holds}
use Rattle.fsrm_store.proofs.ReadLaws.{heads_none}
use Rattle.fsrm_store.proofs.StateLaws.{holds_told, same_ok}
use Rattle.fsrm_store.proofs.TailLaws.{store_tail}

-- ---- the head
size_is : (K : Capacity) → is_capacity K ≡ true → (1 ≤ K.nodes) × (is_cluster_size K.cluster ≡ true)
size_is K legal =
    let two = both (nat_le 2 K.nodes && nat_le K.nodes most_nodes) ((nat_le 256 K.names && nat_le K.names most_names) && is_cluster_size K.cluster) legal in
    let least = le_is 2 K.nodes (both (nat_le 2 K.nodes) (nat_le K.nodes most_nodes) two.0).0 in
    (omega (arith, least), (both (nat_le 256 K.names && nat_le K.names most_names) (is_cluster_size K.cluster) two.1).1)

pub some_nodes : (K : Capacity) → is_capacity K ≡ true → 1 ≤ K.nodes
some_nodes K legal = (size_is K legal).0

pub head_legal : (K : Capacity) (image : ℕ) → is_capacity K ≡ true → image < 2 ^ 64 → IsLegal (record { generation = 1; version = 2; size = K; image = image })
head_legal K image legal fits = record {
  generation = omega arith;
  version = refl;
  size = legal;
  cluster = or_later (nat_eq K.cluster 4096) (nat_eq 2 2 && is_cluster_size K.cluster) (size_is K legal).1;
  generation_fits = omega arith;
  image_fits = fits;
}

-- ---- what is written holds the new store
new_state : (head : Head) (parts : Parts) → 1 ≤ head.size.nodes → head.generation ≡ 1 → head.version ≡ 2 → HoldsStore Zero head new_image [] parts → HoldsNew head.size parts
new_state head parts some first second store = record {
  rows = holds_told head.size new_rows parts (written_holds Zero new_rows head new_image [] [] new_rows parts (new_keeps head some) store);
  rules = store.rules;
  first = ap (λ (h : Head). h.generation) store.says ∙ first;
  empty = store_tail Zero head new_image [] parts store;
  young = λ ruling rules.
      let rule : Zero ≡ ruling = same_ok Zero ruling (judged_parts parts) store.rules rules in
      let version : is_first_version Zero parts ≡ false = ap (λ (h : Head). nat_eq h.version 1) store.says ∙ ap (λ (n : ℕ). nat_eq n 1) second in
      subst (λ (p : Part). is_first_version p parts ≡ false) rule version;
}

none_or_new : (head : Head) (parts : Parts) → 1 ≤ head.size.nodes → head.generation ≡ 1 → head.version ≡ 2 → NoneOrFresh head new_image parts → (state_of parts ≡ NoState) ⊎ HoldsNew head.size parts
none_or_new head parts some first second (inl none) = inl (heads_none parts none)
none_or_new head parts some first second (inr fresh) = inr (new_state head parts some first second (fresh_store Zero head new_image parts fresh))

pub makes : {D : Type 0} {clock : D → Option ℕ} {images : D → ℕ → Parts → Type 0} {old new : D} (head : Head) (image : List ℕ) → 1 ≤ head.size.nodes → image ≡ new_image
    → head.generation ≡ 1 → head.version ≡ 2 → Formats clock images head image old new → MakesStore clock images head.size old new
makes head image some is first second f = record {
  begun = f.begun;
  closed = f.closed;
  quiet = f.quiet;
  soon = f.soon;
  before = f.before;
  after = λ t m left told from to there. elim (cases_lt m f.whole) [
    | inl early ↦ inl (heads_none left (f.shut t m left told from to early there))
    | inr late ↦ none_or_new head left some first second (subst (λ (image : List ℕ). NoneOrFresh head image left) is (f.after t m left told from to late there).0)
  ];
}

pub is_new : {D : Type 0} {reads : D → Option Parts} {clock : D → Option ℕ} {images : D → ℕ → Parts → Type 0} {disk : D} (head : Head) (image : List ℕ) (now : Parts) → 1 ≤ head.size.nodes → image ≡ new_image
    → head.generation ≡ 1 → head.version ≡ 2 → Certain reads clock images now disk → HoldsStore Zero head image [] now → IsNew reads clock images head.size disk
is_new head image now some is first second certain store =
    let state : HoldsNew head.size now = new_state head now some first second (subst (λ (image : List ℕ). HoldsStore Zero head image [] now) is store) in
    record {
      told = λ parts told. subst (λ (p : Parts). HoldsNew head.size p) (some_is (sym certain.told ∙ told)) state;
      left = record { now = λ t i told left. subst (λ (p : Parts). HoldsNew head.size p) (sym (certain.only t i told left)) state };
    }

-- no call was made
pub none_called : {D : Type 0} (clock : D → Option ℕ) (images : D → ℕ → Parts → Type 0) (disk : D) → Through clock images Same disk disk
none_called clock images disk s t m i at_old at_new from to left =
    let ends : s ≡ t = some_is (sym at_old ∙ at_new) in
    let is : m ≡ s = omega (arith, ends, from, to) in
    (i, subst (λ (k : ℕ). images disk k i) is left, refl)

pub makes_none : {D : Type 0} {clock : D → Option ℕ} {images : D → ℕ → Parts → Type 0} (K : Capacity) (disk : D) → is_capacity K ≡ true → MakesStore clock images K disk disk
makes_none {clock = clock} {images = images} K disk legal =
    let head : Head = record { generation = 1; version = 2; size = K; image = 99 } in
    makes head new_image (some_nodes K legal) refl refl refl (formats_never head new_image (none_called clock images disk))

-- ---- what is answered
pub init_err : (parts : Parts) (fault : JournalFault) → IsFormatted {A = Unit {0}} parts (Err fault) → IsInit {A = Unit {0}} parts (Err (of_journal fault))
init_err parts NoJournal told = told
init_err parts AlreadyJournal told = told
init_err parts (DamagedHalf part place) told = told
init_err parts DiskFailed told = told
init_err parts MemoryOut told = absurd told

-- ---- the image
none_left : (rest : List ℕ) → length rest ≡ 0 → rest ≡ []
none_left [] none = refl
none_left (b ∷ rest) none = absurd (omega (arith, none))

-- a buffer as long as all that is to be written is filled with it
pub all_written : (left bytes rest into : List ℕ) (n room : ℕ) → left ≡ bytes → left ≡ take n into ++ rest → n ≡ min room (length left) → room ≡ length bytes → length into ≡ room → into ≡ bytes
all_written left bytes rest into n room is written count long same =
    let whole : length left ≡ length bytes = ap (λ (l : List ℕ). length l) is in
    let few : length into ≤ n = grind (arith, count, whole, long, same) in
    let all : take n into ≡ into = take_all n into few in
    let split : left ≡ into ++ rest = written ∙ ap (λ (l : List ℕ). l ++ rest) all in
    let none : rest ≡ [] = none_left rest (omega (arith, ap (λ (l : List ℕ). length l) split, length-append into rest, whole, long, same)) in
    sym (append-nil into) ∙ ap (λ (r : List ℕ). into ++ r) (sym none) ∙ sym split ∙ is
