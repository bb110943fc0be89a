-- Acts that ran one after another, and are marked.
use Rattle.std.proofs.Common.{◌≡◌, ℕ, ◌+◌, ◌-◌, ◌≤◌, Bool, true, false, ◌||◌, List, [], ◌∷◌, ◌++◌, length, Some, refl, sym, ◌∙◌, ap, arith, append_assoc, is_some, drop}
use Rattle.std.proofs.lemmas.List.{append-nil, length-append, length-drop, map-append, drop-drop, drop-append-le}
use Rattle.std.proofs.lemmas.List.Folds.{list_any-append}
use Rattle.std.specs.Prelude.{map}
use Rattle.std.specs.List.{cons_option}
use Rattle.fsrm_base.specs.Numbers.{with_number}
use Rattle.fsrm_model.specs.declared.command.Act.{Act}
use Rattle.fsrm_model.specs.objects.Acts.{has_act}
use Rattle.fsrm_model.specs.values.Limits.{most_entries}
use Rattle.fsrm_model.specs.objects.Runs.{last_entries, entry_of}
use Rattle.fsrm_model.proofs.thresholds.RunLaws.{short_log}
use Rattle.fsrm_objects.specs.Tables.{Tables}
use Rattle.thresholds.specs.Marked.{Marked, act_at, waiting, are_there}
use Rattle.thresholds.specs.Settled.{Settles, ran_in}
use Rattle.thresholds.proofs.RunLaws.{quotas_both, quotas_none}
use Rattle.thresholds.proofs.WaitingLaws.{waiting_run, there_run, has-with, there-with}

-- ---- the log
indices : (n k : ℕ) → (n - most_entries) + ((n + k) - (n - most_entries) - most_entries) ≡ (n + k) - most_entries
indices n k = omega arith

cut_within : (n : ℕ) → n - most_entries ≤ n
cut_within n = omega arith

-- what is kept of what was kept and more is what is kept of all
pub kept_twice : {X : Type 0} (log more : List X) → last_entries (last_entries log ++ more) ≡ last_entries (log ++ more)
kept_twice {X} log more =
    ap last_entries (sym (drop-append-le (length log - most_entries) log more (cut_within (length log))))
    ∙ (drop-drop (length (drop (length log - most_entries) (log ++ more)) - most_entries) (length log - most_entries) (log ++ more)
    ∙ ap (λ n. drop n (log ++ more))
    (ap (λ n. (length log - most_entries) + (n - most_entries)) (length-drop (length log - most_entries) (log ++ more) ∙ ap (λ n. n - (length log - most_entries)) (length-append log more))
    ∙ (indices (length log) (length more) ∙ ap (λ n. n - most_entries) (sym (length-append log more)))))

-- ---- no act
pub settles_none : (marks : Marked) (tables : Tables) (moment : ℕ) → length marks.log ≤ most_entries → are_there tables.quotas marks.numbers ≡ true → Settles marks marks tables tables moment []
settles_none marks tables moment few there = record {
  tables = ap (λ quotas. record tables { quotas = quotas }) (sym (quotas_none moment tables.quotas));
  log = sym (ap last_entries (append-nil marks.log) ∙ short_log marks.log few);
  there = there;
  marked = λ subject place. alone (has_act (waiting tables.quotas marks.numbers) subject place);
  folder = refl;
  places = refl;
}
  where
    alone : (b : Bool) → b ≡ (b || false)
    alone true = refl
    alone false = refl

-- ---- acts, and then others
pub settles_both : (a b c : Marked) (r s t : Tables) (moment : ℕ) (one other : List Act) → Settles a b r s moment one → Settles b c s t moment other → Settles a c r t moment (one ++ other)
settles_both a b c r s t moment one other first second = record {
  tables = second.tables ∙ (ap (ran_in moment other) first.tables ∙ ap (λ quotas. record r { quotas = quotas }) (quotas_both moment one other r.quotas));
  log =
      second.log
      ∙ (ap (λ log. last_entries (log ++ map (entry_of moment) other)) first.log
      ∙ (kept_twice (a.log ++ map (entry_of moment) one) (map (entry_of moment) other)
      ∙ ap last_entries (append_assoc a.log (map (entry_of moment) one) (map (entry_of moment) other) ∙ ap (λ more. a.log ++ more) (sym (map-append (entry_of moment) one other)))));
  there = second.there;
  marked = λ subject place.
      second.marked subject place
      ∙ (ap (λ b. b || has_act other subject place) (first.marked subject place)
      ∙ (or_assoc (has_act (waiting r.quotas a.numbers) subject place) (has_act one subject place) (has_act other subject place)
      ∙ ap (λ b. has_act (waiting r.quotas a.numbers) subject place || b) (sym (list_any-append _ one other))));
  folder = second.folder ∙ first.folder;
  places = second.places ∙ first.places;
}
  where
    or_assoc : (x y z : Bool) → ((x || y) || z) ≡ (x || (y || z))
    or_assoc true y z = refl
    or_assoc false y z = refl

-- ---- one act
-- of an action that is there
pub settles_one : (old new : Marked) (before after : Tables) (moment number : ℕ) (act : Act) → act_at before.quotas number ≡ Some act → are_there before.quotas old.numbers ≡ true → after ≡ ran_in moment (act ∷ []) before → new.log ≡ last_entries (old.log ++ entry_of moment act ∷ []) → new.numbers ≡ with_number number old.numbers → new.folder ≡ old.folder → new.places ≡ old.places → Settles old new before after moment (waiting before.quotas (number ∷ []))
settles_one old new before after moment number act is there tables log numbers folder places = record {
  tables = tables ∙ ap (λ acts. ran_in moment acts before) own;
  log = log ∙ ap (λ acts. last_entries (old.log ++ map (entry_of moment) acts)) own;
  there =
      ap (λ (t : Tables). are_there t.quotas new.numbers) tables
      ∙ (there_run moment (act ∷ []) before.quotas new.numbers ∙ (ap (are_there before.quotas) numbers ∙ there-with before.quotas number old.numbers (ap is_some is) there));
  marked = λ subject place.
      ap (λ (t : Tables). has_act (waiting t.quotas new.numbers) subject place) tables
      ∙ (ap (λ acts. has_act acts subject place) (waiting_run moment (act ∷ []) before.quotas new.numbers)
      ∙ (ap (λ ns. has_act (waiting before.quotas ns) subject place) numbers ∙ has-with before.quotas number old.numbers subject place));
  folder = folder;
  places = places;
}
  where
    own : act ∷ [] ≡ waiting before.quotas (number ∷ [])
    own = sym (ap (λ o. cons_option o []) is)
