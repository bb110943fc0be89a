-- How marks are held after a number came or went, and after an entry.
use Rattle.std.proofs.Common.{◌≡◌, ℕ, ◌≤◌, List, [], ◌∷◌, ◌++◌, length, sym, ◌∙◌, ap, subst}
use Rattle.std.specs.Prelude.{drop}
use Rattle.circular_buffer.specs.Buffer.{Buffer, buffer, keep_last}
use Rattle.fsrm_base.specs.Numbers.{is_set, with_number}
use Rattle.fsrm_base.proofs.NumberLaws.{set_with}
use Rattle.fsrm_model.specs.declared.row.ActRow.{ActRow}
use Rattle.fsrm_model.specs.values.Limits.{most_entries}
use Rattle.fsrm_model.specs.objects.Runs.{last_entries}
use Rattle.fsrm_model.proofs.thresholds.RunLaws.{few_entries}
use Rattle.number_set.specs.Numbers.{Numbers}
use Rattle.number_set.proofs.TakenLaws.{rest_set}
use Rattle.thresholds.specs.Kept.{IsKept}

-- ---- an entry more
module _ (log longer : Buffer ActRow) (row : ActRow) (room : log.capacity ≡ most_entries) (pushed : longer ≡ buffer (keep_last log.capacity (log.items ++ row ∷ [])) log.capacity) where
  pub pushed_items : longer.items ≡ last_entries (log.items ++ row ∷ [])
  pushed_items = ap (λ (b : Buffer ActRow). b.items) pushed ∙ ap (λ n. keep_last n (log.items ++ row ∷ [])) room

  pub entry_kept : (numbers : Numbers) (places : Buffer ℕ) → IsKept numbers log places → IsKept numbers longer places
  entry_kept numbers places kept = record {
    bound = kept.bound;
    ascending = kept.ascending;
    capacity = ap (λ (b : Buffer ActRow). b.capacity) pushed ∙ room;
    few = subst (λ (items : List ActRow). length items ≤ most_entries) (sym pushed_items) (few_entries (log.items ++ row ∷ []));
    room = kept.room;
    short = kept.short;
  }

-- ---- a number more, or less
pub number_kept : (numbers more : Numbers) (log : Buffer ActRow) (places : Buffer ℕ) (n : ℕ) → more ≡ record numbers { members = with_number n numbers.members } → IsKept numbers log places → IsKept more log places
number_kept numbers more log places n is kept = record {
  bound = ap (λ (s : Numbers). s.bound) is ∙ kept.bound;
  ascending = ap (λ (s : Numbers). is_set s.members) is ∙ set_with n numbers.members kept.ascending;
  capacity = kept.capacity;
  few = kept.few;
  room = kept.room;
  short = kept.short;
}

pub less_kept : (numbers less : Numbers) (log : Buffer ActRow) (places : Buffer ℕ) → less ≡ record numbers { members = drop 1 numbers.members } → IsKept numbers log places → IsKept less log places
less_kept numbers less log places is kept = record {
  bound = ap (λ (s : Numbers). s.bound) is ∙ kept.bound;
  ascending = ap (λ (s : Numbers). is_set s.members) is ∙ rest_set numbers.members kept.ascending;
  capacity = kept.capacity;
  few = kept.few;
  room = kept.room;
  short = kept.short;
}
