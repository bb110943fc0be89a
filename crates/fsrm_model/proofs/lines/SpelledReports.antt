-- A line that spells a command of `storrept` spells a valid one: the values of reports and report jobs.
use Rattle.std.proofs.Common.{◌≡◌, ℕ, ◌+◌, ◌≤◌, List, [], ◌∷◌, true, refl, ◌∙◌, ap, subst, arith}
use Rattle.std.specs.Prelude.{◌&&◌, codes, nat_le, sum_by, unwrap_or, Option, Some, None}
use Rattle.std.specs.List.{AllByRecursion, list_all}
use Rattle.std.specs.Option.{option_map_or}
use Rattle.fsrm_model.specs.declared.command.Deed.{Deed}
use Rattle.fsrm_model.specs.declared.command.Deed.TheVariants.{Reports}
use Rattle.fsrm_model.specs.declared.command.ReportsDeed.TheVariants.{Delete as ReportsDelete, Run as ReportsRun, List as ReportsList}
use Rattle.fsrm_model.specs.declared.row.Filter.{Filter}
use Rattle.fsrm_model.specs.commands.Commands.{paths, has_values, more_bytes}
use Rattle.fsrm_model.specs.commands.Entry.{text_bytes, path_bytes, optional, filter_bytes}
use Rattle.fsrm_model.specs.lines.ValueForms.{path_of, number_of, text_of, report_of}
use Rattle.fsrm_model.specs.lines.Options.{Key, task_key, report_key, scope_key, schedule_key, owner_key, pattern_key, min_size_key, days_key, min_use_key, max_key, Given, one}
use Rattle.fsrm_model.specs.lines.Tools.{filter_given, report_generate, job_add, of_task, report_commands, storrept}
use Rattle.fsrm_model.specs.objects.Jobs.{is_schedule}
use Rattle.fsrm_model.specs.reports.Filters.{is_owner, is_length, is_filter}
use Rattle.fsrm_model.specs.values.Limits.{longest_file, most_days, most_use, most_rows}
use Rattle.fsrm_model.specs.values.Patterns.{is_object_name, is_pattern}
use Rattle.fsrm_base.proofs.TestLaws.{both, both_true}
use Rattle.fsrm_model.proofs.lines.SoundValues.{Path, is_sound_path, IsSoundGiven}
use Rattle.fsrm_model.proofs.lines.GivenOptions.{AreSound, paths_kind, numbers_kind, text_kind, one_sound, maybe_sound, shares_fit, one_fits, path_weighs, text_weighs}
use Rattle.fsrm_model.proofs.lines.SpelledOptions.{IsSound, needed, deed_is, IsSoundCommand, alone_sound, number_fits, AreSoundCommands}

-- ---- the filter
-- a number that may be left out
given_number : (low high : ℕ) (key : Key) (given : List Given) → ((x : ℕ) → one number_of key given ≡ Some x → (nat_le low x && nat_le x high) ≡ true) → option_map_or (λ n. nat_le n high) (one number_of key given) true ≡ true
given_number low high key given each =
    maybe_sound (λ n. nat_le n high) (one number_of key given) (λ x e. (both (nat_le low x) (nat_le x high) (each x e)).1)

max_given : (o : Option ℕ) → ((x : ℕ) → o ≡ Some x → (nat_le 1 x && nat_le x most_rows) ≡ true) → (nat_le 1 (unwrap_or o 1000) && nat_le (unwrap_or o 1000) most_rows) ≡ true
max_given None each = refl
max_given (Some x) each = each x refl

filter_sound : (given : List Given) → AllByRecursion IsSoundGiven given → is_filter (filter_given given) ≡ true
filter_sound given s =
    let f : Filter = filter_given given in
    let owner = option_map_or is_owner f.owner true in
    let pattern = option_map_or is_pattern f.pattern true in
    let size = option_map_or is_length f.min_size true in
    let days = option_map_or (λ n. nat_le n most_days) f.days true in
    let least = option_map_or (λ n. nat_le n most_use) f.min_use true in
    let rows = nat_le 1 f.max && nat_le f.max most_rows in
    both_true (owner && (pattern && size)) ((days && least) && rows)
    (both_true owner (pattern && size)
    (maybe_sound is_owner (one number_of owner_key given) (λ x e. one_sound number_of numbers_kind owner_key given x s e))
    (both_true pattern size
    (maybe_sound is_pattern (one text_of pattern_key given) (λ x e. one_sound text_of text_kind pattern_key given x s e))
    (given_number 0 longest_file min_size_key given (λ x e. one_sound number_of numbers_kind min_size_key given x s e))))
    (both_true (days && least) rows
    (both_true days least
    (given_number 0 most_days days_key given (λ x e. one_sound number_of numbers_kind days_key given x s e))
    (given_number 0 most_use min_use_key given (λ x e. one_sound number_of numbers_kind min_use_key given x s e)))
    (max_given (one number_of max_key given) (λ x e. one_sound number_of numbers_kind max_key given x s e)))

text_fits : (o : Option (List ℕ)) → optional text_bytes o ≤ 1 + option_map_or text_bytes o 0
text_fits None = omega arith
text_fits (Some text) = omega arith

-- beside its pattern it has few bytes
filter_fits : (f : Filter) → filter_bytes f ≤ option_map_or text_bytes f.pattern 0 + 50
filter_fits f = omega (arith, text_fits f.pattern, number_fits)

-- ---- the texts and the path that are given
record HasTexts (L : ℕ) (given : List Given) : Type 0 where
  bytes : option_map_or path_bytes (one path_of scope_key given) 0 + (option_map_or text_bytes (one text_of task_key given) 0 + (option_map_or text_bytes (one text_of schedule_key given) 0 + option_map_or text_bytes (one text_of pattern_key given) 0)) ≤ L

has_texts : (L : ℕ) (given : List Given) → AreSound L given → HasTexts L given
has_texts L given s =
    record {
      bytes =
          omega (
            arith,
            s.bytes,
            shares_fit (scope_key ∷ task_key ∷ schedule_key ∷ pattern_key ∷ []) given refl,
            one_fits path_of scope_key path_bytes (path_weighs scope_key refl) given,
            one_fits text_of task_key text_bytes (text_weighs task_key refl) given,
            one_fits text_of schedule_key text_bytes (text_weighs schedule_key refl) given,
            one_fits text_of pattern_key text_bytes (text_weighs pattern_key refl) given,
          );
    }

given_scope : (given : List Given) (scope : Path) → AllByRecursion IsSoundGiven given
    → one path_of scope_key given ≡ Some scope → is_sound_path scope ≡ true
given_scope given scope s e = one_sound path_of paths_kind scope_key given scope s e

given_task : (given : List Given) (name : List ℕ) → AllByRecursion IsSoundGiven given
    → one text_of task_key given ≡ Some name → is_object_name name ≡ true
given_task given name s e = one_sound text_of text_kind task_key given name s e

schedule_or : (given : List Given) → AllByRecursion IsSoundGiven given
    → option_map_or is_schedule (one text_of schedule_key given) true ≡ true
schedule_or given s =
    maybe_sound is_schedule (one text_of schedule_key given) (λ x e. one_sound text_of text_kind schedule_key given x s e)

-- ---- the commands
generate_sound : IsSoundCommand (codes "generate", report_generate)
generate_sound =
    record {
      sound = λ L given d s h.
          let kind = needed report_of report_key given _ d h in
          let scope = needed path_of scope_key given _ d kind.2 in
          let own : option_map_or path_bytes (one path_of scope_key given) 0 ≡ path_bytes scope.0 = ap (λ (o : Option Path). option_map_or path_bytes o 0) scope.1 in
          subst (IsSound L) (deed_is scope.2) (record {
            valued = rw (given_scope given scope.0 s.each scope.1) (filter_sound given s.each);
            bytes = omega (arith, own, (has_texts L given s).bytes);
          });
    }

add_sound : IsSoundCommand (codes "add", job_add)
add_sound =
    record {
      sound = λ L given d s h.
          let name = needed text_of task_key given _ d h in
          let kind = needed report_of report_key given _ d name.2 in
          let scope = needed path_of scope_key given _ d kind.2 in
          let place : option_map_or path_bytes (one path_of scope_key given) 0 ≡ path_bytes scope.0 = ap (λ (o : Option Path). option_map_or path_bytes o 0) scope.1 in
          let own : option_map_or text_bytes (one text_of task_key given) 0 ≡ text_bytes name.0 = ap (λ (o : Option (List ℕ)). option_map_or text_bytes o 0) name.1 in
          subst (IsSound L) (deed_is scope.2) (record {
            valued = rw (given_scope given scope.0 s.each scope.1, given_task given name.0 s.each name.1, schedule_or given s.each) (filter_sound given s.each);
            bytes = omega (arith, place, own, (has_texts L given s).bytes, text_fits (one text_of schedule_key given), filter_fits (filter_given given));
          });
    }

-- a command that has the name of a job alone
task_sound : (name : List ℕ) (deed : List ℕ → Deed) → ((task : List ℕ) → paths (deed task) ≡ [])
    → ((task : List ℕ) → has_values (deed task) ≡ is_object_name task)
    → ((task : List ℕ) → more_bytes (deed task) ≡ text_bytes task) → IsSoundCommand (name, of_task deed)
task_sound name deed none valued bytes =
    record {
      sound = λ L given d s h.
          let task = needed text_of task_key given (λ task. Some (deed task)) d h in
          let made : deed task.0 ≡ d = cc task.2 in
          let own : option_map_or text_bytes (one text_of task_key given) 0 ≡ text_bytes task.0 = ap (λ (o : Option (List ℕ)). option_map_or text_bytes o 0) task.1 in
          subst (IsSound L) made (named_alone L (deed task.0) task.0 (none task.0) (valued task.0) (bytes task.0) (given_task given task.0 s.each task.1) (omega (arith, own, (has_texts L given s).bytes)));
    }
  where
    named_alone : (L : ℕ) (d : Deed) (task : List ℕ) → paths d ≡ [] → has_values d ≡ is_object_name task → more_bytes d ≡ text_bytes task
        → is_object_name task ≡ true → text_bytes task ≤ L → IsSound L d
    named_alone L d task none valued bytes legal fits =
        let size : sum_by path_bytes (paths d) ≡ 0 = ap (sum_by path_bytes) none in
        record {
          valued = both_true (list_all is_sound_path (paths d)) (has_values d) (ap (list_all is_sound_path) none) (valued ∙ legal);
          bytes = omega (arith, size, bytes, fits);
        }

report_commands_sound : AllByRecursion IsSoundCommand report_commands
report_commands_sound = (
  generate_sound,
  (
    add_sound,
    (
      task_sound (codes "delete") (λ name. Reports (ReportsDelete name)) (λ name. refl) (λ name. refl) (λ name. refl),
      (
        task_sound (codes "run") (λ name. Reports (ReportsRun name)) (λ name. refl) (λ name. refl) (λ name. refl),
        (alone_sound (codes "list") (Reports ReportsList) refl refl refl, tt),
      ),
    ),
  ),
)

pub storrept_sound : AllByRecursion AreSoundCommands storrept
storrept_sound = (report_commands_sound, tt)
