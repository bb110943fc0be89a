-- A store of which no entry is held, and its change to the other half.
use Rattle.std.proofs.Common.{◌≡◌, ℕ, List, [], Option, sym, ◌∙◌, subst}
use Rattle.fsrm_model.specs.declared.row.Rows.{Rows}
use Rattle.fsrm_outside.specs.Parts.{Parts}
use Rattle.fsrm_journal.specs.Opened.{HoldsOn}
use Rattle.fsrm_journal.specs.Stores.{Holding}
use Rattle.fsrm_journal.specs.declared.journal.Journal.{Journal}
use Rattle.fsrm_journal.proofs.Stores.{none_here}
use Rattle.fsrm_store.specs.Standing.{Standing}
use Rattle.fsrm_store.specs.declared.store.Store.{Store}

pub nothing_held : {D : Type 0} {reads : D → Option Parts} {clock : D → Option ℕ} {images : D → ℕ → Parts → Type 0} {kept : Rows} {store : Store} {disk : D} (s : Standing reads clock images kept store disk) → store.journal.held ≡ 0 → s.held ≡ []
nothing_held s none = none_here s.held (s.holding.count ∙ none)

pub still_none : (held : List (List ℕ)) (old new : Journal) → held ≡ [] → Holding held old → HoldsOn old new → Holding [] new
still_none held old new none h on =
    let here : Holding [] old = subst (λ (held : List (List ℕ)). Holding held old) none h in
    record { count = here.count ∙ sym on.held; bytes = on.bytes ∙ here.bytes; legal = here.legal }
