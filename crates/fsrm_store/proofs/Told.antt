-- What a read tells of a store that stands.
use Rattle.std.proofs.Common.{◌≡◌, ℕ, Some, length, arith, sym, ◌∙◌, ap, subst}
use Rattle.std.specs.Prelude.{nat_eq, Option}
use Rattle.fsrm_model.specs.declared.row.Capacity.{Capacity}
use Rattle.fsrm_model.specs.declared.row.Rows.{Rows}
use Rattle.fsrm_outside.specs.Parts.{Parts}
use Rattle.fsrm_outside.proofs.Stages.{some_is}
use Rattle.fsrm_journal.specs.Records.{records}
use Rattle.fsrm_journal.specs.Stores.{HoldsStore}
use Rattle.fsrm_journal.specs.declared.heads.Head.{Head}
use Rattle.fsrm_store.specs.Keeps.{HasTail}
use Rattle.fsrm_store.specs.Standing.{tail_of, IsTold, StandsFor}
use Rattle.fsrm_store.specs.States.State.{Holds}
use Rattle.fsrm_store.specs.declared.store.Store.{Store}
use Rattle.fsrm_store.proofs.KeepsLaws.{written_holds}
use Rattle.fsrm_store.proofs.StateLaws.{holds_told}
use Rattle.fsrm_store.proofs.TailLaws.{store_tail}

pub standing_told : {D : Type 0} {reads : D → Option Parts} {clock : D → Option ℕ} {images : D → ℕ → Parts → Type 0} {kept R : Rows} {store : Store} {disk : D} (parts : Parts)
    → StandsFor reads clock images kept R store disk → reads disk ≡ Some parts → IsTold kept store parts
standing_told {kept = kept} {R = R} {store = store} parts s told =
    let same : s.stands.parts ≡ parts = some_is (sym s.stands.certain.told ∙ told) in
    let holds : HoldsStore store.journal.ruling s.head s.bytes s.bodies parts = subst (HoldsStore store.journal.ruling s.head s.bytes s.bodies) same s.stands.at.store in
    let state = holds_told s.head.size kept parts (written_holds store.journal.ruling kept s.head s.bytes s.bodies s.held R parts s.keeps holds) in
    let tail : length (records s.bodies) ≡ tail_of store.journal = omega (arith, s.stands.at.end, s.stands.at.image_end) in
    record {
      state = state ∙ ap (λ (K : Capacity). Holds K kept) s.size;
      rules = holds.rules;
      image = ap (λ (h : Head). h.image) holds.says ∙ (holds.whole ∙ sym s.long);
      version = ap (λ (h : Head). nat_eq h.version 1) holds.says ∙ sym s.version;
      tail = subst (λ (n : ℕ). HasTail n parts) tail (store_tail store.journal.ruling s.head s.bytes s.bodies parts holds);
    }
