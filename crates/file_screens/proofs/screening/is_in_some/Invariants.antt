use Rattle.std.proofs.Common.{◌≡◌, ℕ, List, true, drop}
use Rattle.std.specs.List.{list_all}
use Rattle.fsrm_base.specs.Keyed.{has_row}
use Rattle.fsrm_model.specs.values.Name.{folded}
use Rattle.fsrm_model.specs.values.Patterns.{group_number}
use Rattle.fsrm_model.specs.objects.Screens.{in_groups}
use Rattle.file_screens.proofs.screening.is_in_some.Given as goal

abbrev pub invariant-loop-number : goal.invariant-loop-number
invariant-loop-number l = record {
  known : list_all (λ number. has_row group_number number l.groups) (drop l.number-index l.number-items) ≡ true;
  left : (text : List ℕ) → folded text ≡ l.name → in_groups l.groups (drop l.number-index l.number-items) text ≡ in_groups l.groups l.numbers text;
}
