-- Entries of older stores come to the same.
use Rattle.std.proofs.Common.{◌≡◌, ℕ, true, List, [], ◌∷◌, refl, ◌∙◌, ap, Some, None, Option, nat_lt}
use Rattle.fsrm_model.specs.declared.command.Entry.{Entry}
use Rattle.fsrm_model.specs.declared.command.Entry.TheVariants.{Order, Finish}
use Rattle.fsrm_model.specs.declared.command.Refusal.{Refusal}
use Rattle.fsrm_model.specs.declared.command.Refusal.TheVariants.{ClockBack, ScreenBlocked}
use Rattle.fsrm_model.specs.declared.row.Capacity.{Capacity}
use Rattle.fsrm_model.specs.declared.row.Rows.{Rows}
use Rattle.fsrm_model.specs.commands.Check.{◌when◌, first}
use Rattle.fsrm_model.specs.store.OldReplays.{old_decided, after_old_entry, old_replayed, IsOldEntry, AreOldEntries}
use Rattle.fsrm_model.specs.store.Replays.{after_entry, replayed}
use Rattle.fsrm_model.specs.commands.Step.{Stepped, decided, work}
use Rattle.fsrm_model.specs.commands.Work.{Work}

-- what lasted then leaves the same now
old_same : (K : Capacity) (R : Rows) (moment : ℕ) (w : Work) (o : Option Refusal) → (old_decided K R moment w o).lasting ≡ true → old_decided K R moment w o ≡ decided K R moment w o
old_same K R moment w None l = refl
old_same K R moment w (Some (ScreenBlocked screen)) l = refl
old_same K R moment w (Some other) l = absurd (cc l)

entry_same : (K : Capacity) (R : Rows) (entry : Entry) → IsOldEntry K R entry → after_old_entry K R entry ≡ after_entry K R entry
entry_same K R (Order c) h =
    let w = work K R c.moment c.deed in
    ap (λ (s : Stepped). s.rows) (old_same K R c.moment w (first ((ClockBack when nat_lt c.moment R.last_moment) ∷ w.checks)) h.1)
entry_same K R (Finish moment folder) h = refl

pub old_replayed_same : (K : Capacity) (R : Rows) (entries : List Entry) → AreOldEntries K R entries → old_replayed K R entries ≡ replayed K R entries
old_replayed_same K R [] h = refl
old_replayed_same K R (entry ∷ entries) h =
    old_replayed_same K (after_old_entry K R entry) entries h.1 ∙ ap (λ (rows : Rows). replayed K rows entries) (entry_same K R entry h.0)
