-- What is known of a tool's command whose options are spelled: that it is valid, and how many bytes it has in an entry.
use Rattle.std.proofs.Common.{◌≡◌, ℕ, ◌+◌, ◌≤◌, List, [], ◌∷◌, Bool, true, refl, ◌∙◌, ap, subst, arith}
use Rattle.std.specs.Prelude.{◌&&◌, sum_by, Option, Some, None, option_and_then}
use Rattle.std.specs.List.{AllByRecursion, list_all}
use Rattle.std.specs.Option.{option_map_or}
use Rattle.fsrm_model.specs.declared.command.Deed.{Deed}
use Rattle.fsrm_model.specs.commands.Commands.{paths, has_values, more_bytes}
use Rattle.fsrm_model.specs.commands.Entry.{number_bytes, choice_bytes, text_bytes, path_bytes, optional, notice_bytes}
use Rattle.fsrm_model.specs.lines.ValueForms.{Value, path_of, number_of, text_of, notice_of}
use Rattle.fsrm_model.specs.lines.Options.{Key, path_key, limit_key, remove_threshold_key, add_threshold_key, add_notification_key, source_template_key, exclude_key, Given, one, each_of}
use Rattle.fsrm_model.specs.values.Patterns.{is_object_name}
use Rattle.fsrm_model.specs.objects.Quota.{is_limit}
use Rattle.fsrm_model.specs.lines.Tools.{Names, ToolCommand, needs, of_path, alone as without_options}
use Rattle.fsrm_model.specs.objects.Thresholds.{is_percent, is_notice}
use Rattle.fsrm_base.proofs.TestLaws.{both_true}
use Rattle.fsrm_model.proofs.lines.SoundValues.{Path, is_sound_path, IsSoundPath, IsSoundGiven, weigh}
use Rattle.fsrm_model.proofs.lines.GivenOptions.{AreSound, paths_kind, numbers_kind, text_kind, notices_kind, one_sound, each_of_sound, maybe_sound, shares_fit, one_fits, each_fits, path_weighs, text_weighs, number_weighs, notice_weighs}

-- what is known of a deed whose words have so many bytes
pub record IsSound (L : ℕ) (deed : Deed) : Type 0 where
  pub valued : (list_all is_sound_path (paths deed) && has_values deed) ≡ true
  pub bytes : sum_by path_bytes (paths deed) + more_bytes deed ≤ L + 512

pub one_true : (a : Bool) → a ≡ true → (a && true) ≡ true
one_true a h = both_true a true h refl

-- a deed that carries a path alone
pub alone : (d : Deed) (path : Path) (L : ℕ) → paths d ≡ path ∷ [] → has_values d ≡ true → more_bytes d ≡ 0
    → IsSoundPath L path → IsSound L d
alone d path L own valued none p =
    let size : sum_by path_bytes (paths d) ≡ 0 + path_bytes path = ap (sum_by path_bytes) own in
    let named : list_all is_sound_path (paths d) ≡ true = ap (list_all is_sound_path) own ∙ one_true (is_sound_path path) p.named in
    record { valued = both_true (list_all is_sound_path (paths d)) (has_values d) named valued; bytes = omega (arith, size, none, p.bytes) }

-- the bytes of a path that was given, of a template, of excluded names, and of all thresholds
all_weights : (given : List Given)
    → option_map_or path_bytes (one path_of path_key given) 0 + (option_map_or text_bytes (one text_of source_template_key given) 0 + (sum_by text_bytes (each_of text_of exclude_key given) + (sum_by (λ (n : ℕ). number_bytes) (each_of number_of remove_threshold_key given) + (sum_by (λ (n : ℕ). number_bytes) (each_of number_of add_threshold_key given) + sum_by notice_bytes (each_of notice_of add_notification_key given))))) ≤ sum_by weigh given
all_weights given =
    omega (
      arith,
      shares_fit (path_key ∷ source_template_key ∷ exclude_key ∷ remove_threshold_key ∷ add_threshold_key ∷ add_notification_key ∷ []) given refl,
      one_fits path_of path_key path_bytes (path_weighs path_key refl) given,
      one_fits text_of source_template_key text_bytes (text_weighs source_template_key refl) given,
      each_fits text_of exclude_key text_bytes (text_weighs exclude_key refl) given,
      each_fits number_of remove_threshold_key (λ n. number_bytes) (number_weighs remove_threshold_key refl) given,
      each_fits number_of add_threshold_key (λ n. number_bytes) (number_weighs add_threshold_key refl) given,
      each_fits notice_of add_notification_key notice_bytes (notice_weighs add_notification_key refl) given,
    )

-- a command's path, and the bytes that are left for its thresholds
pub record HasPath (L : ℕ) (given : List Given) (path : Path) : Type 0 where
  pub named : is_sound_path path ≡ true
  pub bytes : path_bytes path + (option_map_or text_bytes (one text_of source_template_key given) 0 + (sum_by text_bytes (each_of text_of exclude_key given) + (sum_by (λ (n : ℕ). number_bytes) (each_of number_of remove_threshold_key given) + (sum_by (λ (n : ℕ). number_bytes) (each_of number_of add_threshold_key given) + sum_by notice_bytes (each_of notice_of add_notification_key given))))) ≤ L

pub has_path : (L : ℕ) (given : List Given) (path : Path) → AreSound L given → one path_of path_key given ≡ Some path
    → HasPath L given path
has_path L given path s e =
    let own : option_map_or path_bytes (one path_of path_key given) 0 ≡ path_bytes path = ap (λ (o : Option Path). option_map_or path_bytes o 0) e in
    record { named = one_sound path_of paths_kind path_key given path s.each e; bytes = omega (arith, all_weights given, own, s.bytes) }

pub given_path : (L : ℕ) (given : List Given) (path : Path) → AreSound L given
    → one path_of path_key given ≡ Some path → IsSoundPath L path
given_path L given path s e =
    let p = has_path L given path s e in record { named = p.named; bytes = omega (arith, p.bytes) }

pub given_limit : (given : List Given) (limit : ℕ) → AllByRecursion IsSoundGiven given
    → one number_of limit_key given ≡ Some limit → is_limit limit ≡ true
given_limit given limit s e = one_sound number_of numbers_kind limit_key given limit s e

pub given_removals : (given : List Given) → AllByRecursion IsSoundGiven given
    → list_all is_percent (each_of number_of remove_threshold_key given) ≡ true
given_removals given s = each_of_sound is_percent number_of numbers_kind remove_threshold_key (λ x h. h) given s

pub given_percents : (given : List Given) → AllByRecursion IsSoundGiven given
    → list_all is_percent (each_of number_of add_threshold_key given) ≡ true
given_percents given s = each_of_sound is_percent number_of numbers_kind add_threshold_key (λ x h. h) given s

pub given_notices : (given : List Given) → AllByRecursion IsSoundGiven given
    → list_all is_notice (each_of notice_of add_notification_key given) ≡ true
given_notices given s = each_of_sound is_notice notice_of notices_kind add_notification_key (λ x h. h) given s

-- a limit that may be left out
pub limit_or : (given : List Given) → AllByRecursion IsSoundGiven given
    → option_map_or is_limit (one number_of limit_key given) true ≡ true
limit_or given s = maybe_sound is_limit (one number_of limit_key given) (λ limit e. given_limit given limit s e)

pub given_source : (given : List Given) (name : List ℕ) → AllByRecursion IsSoundGiven given
    → one text_of source_template_key given ≡ Some name → is_object_name name ≡ true
given_source given name s e = one_sound text_of text_kind source_template_key given name s e

-- an option that is required is there
pub needed : {X : Type 0} (of : Value → Option X) (key : Key) (given : List Given) (deed : X → Option Deed) (d : Deed)
    → needs of key given deed ≡ Some d → (x : X) × (one of key given ≡ Some x) × (deed x ≡ Some d)
needed {X} of key given deed d h = at (one of key given) h
  where
    at : (o : Option X) → option_and_then deed o ≡ Some d → (x : X) × (o ≡ Some x) × (deed x ≡ Some d)
    at None e = absurd (cc e)
    at (Some x) e = (x, refl, e)

-- what is asked for is one deed
pub deed_is : {asked d : Deed} → Some asked ≡ Some d → asked ≡ d
deed_is h = cc h

-- what is known of each command of a tool, one tuple a table
pub record IsSoundCommand (row : List ℕ × ToolCommand) : Type 0 where
  pub sound : (L : ℕ) (given : List Given) (d : Deed) → AreSound L given → row.1.deed given ≡ Some d → IsSound L d

pub path_sound_command : (name : List ℕ) (deed : Path → Deed) → ((path : Path) → paths (deed path) ≡ path ∷ [])
    → ((path : Path) → has_values (deed path) ≡ true) → ((path : Path) → more_bytes (deed path) ≡ 0)
    → IsSoundCommand (name, of_path deed)
path_sound_command name deed own valued bytes =
    record {
      sound = λ L given d s h.
          let path = needed path_of path_key given (λ path. Some (deed path)) d h in
          let made : deed path.0 ≡ d = cc path.2 in
          subst (IsSound L) made (alone (deed path.0) path.0 L (own path.0) (valued path.0) (bytes path.0) (given_path L given path.0 s path.1));
    }

pub alone_sound : (name : List ℕ) (deed : Deed) → paths deed ≡ [] → has_values deed ≡ true → more_bytes deed ≡ 0
    → IsSoundCommand (name, without_options deed)
alone_sound name deed none valued bytes =
    record {
      sound = λ L given d s h.
          let made : deed ≡ d = cc h in
          let size : sum_by path_bytes (paths deed) ≡ 0 = ap (sum_by path_bytes) none in
          let named : list_all is_sound_path (paths deed) ≡ true = ap (list_all is_sound_path) none in
          subst (IsSound L) made (record { valued = both_true (list_all is_sound_path (paths deed)) (has_values deed) named valued; bytes = omega (arith, size, bytes) });
    }

optional_fits : {X : Type 0} (n : ℕ) (o : Option X) → optional (λ x. n) o ≤ 1 + n
optional_fits n None = omega arith
optional_fits n (Some x) = omega arith

pub number_fits : (o : Option ℕ) → optional (λ n. number_bytes) o ≤ 1 + number_bytes
number_fits o = optional_fits number_bytes o

pub choice_fits : (o : Option Bool) → optional (λ b. choice_bytes) o ≤ 1 + choice_bytes
choice_fits o = optional_fits choice_bytes o

abbrev pub AreSoundCommands : List ℕ × Names ToolCommand → Type 0
AreSoundCommands object = AllByRecursion IsSoundCommand object.1
