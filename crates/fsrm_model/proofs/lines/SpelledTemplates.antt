-- A line that spells a command of templates or of auto-apply quotas spells a valid one.
use Rattle.std.proofs.Common.{◌≡◌, ℕ, ◌+◌, ◌≤◌, List, [], ◌∷◌, Bool, true, false, length, refl, ap, subst, arith}
use Rattle.std.specs.Prelude.{cond, if◌then◌else◌, codes, sum_by, nat_le, Option, Some, None}
use Rattle.std.specs.List.{AllByRecursion, cons_option, list_all}
use Rattle.std.specs.Option.{option_map_or}
use Rattle.std.proofs.lemmas.Bool.{le-leb}
use Rattle.std.proofs.lemmas.List.Sums.{sum_by-cons}
use Rattle.fsrm_model.specs.declared.command.AutoquotaDeed.TheVariants.{Delete as AutoquotaDelete, List as AutoquotaList}
use Rattle.fsrm_model.specs.declared.command.Deed.TheVariants.{Template, Autoquota}
use Rattle.fsrm_model.specs.declared.command.TemplateDeed.TheVariants.{List as TemplateList}
use Rattle.fsrm_model.specs.commands.Entry.{number_bytes, text_bytes, notice_bytes}
use Rattle.fsrm_model.specs.values.Limits.{most_excluded}
use Rattle.fsrm_model.specs.values.Name.{is_name}
use Rattle.fsrm_model.specs.lines.ValueForms.{Value, path_of, number_of, text_of, notice_of}
use Rattle.fsrm_model.specs.lines.Options.{Key, path_key, limit_key, remove_threshold_key, add_threshold_key, add_notification_key, template_key, source_template_key, exclude_key, Given, is_of, one, each_of, times_in}
use Rattle.fsrm_model.specs.values.Patterns.{is_object_name}
use Rattle.fsrm_model.specs.lines.Tools.{template_add, template_modify, template_delete, template_commands, auto_add, auto_commands}
use Rattle.fsrm_model.proofs.lines.SoundValues.{IsSoundGiven}
use Rattle.fsrm_model.proofs.lines.GivenOptions.{AreSound, text_kind, one_sound, each_of_sound, shares_fit, one_fits, each_fits, text_weighs, number_weighs, notice_weighs}
use Rattle.fsrm_model.proofs.lines.SpelledOptions.{IsSound, has_path, given_limit, given_removals, given_percents, given_notices, limit_or, given_source, needed, deed_is, IsSoundCommand, path_sound_command, alone_sound, number_fits, choice_fits}

-- a template's name, and the bytes that are left for its thresholds
record HasTemplate (L : ℕ) (given : List Given) (name : List ℕ) : Type 0 where
  named : is_object_name name ≡ true
  bytes : text_bytes name + (sum_by (λ (n : ℕ). number_bytes) (each_of number_of remove_threshold_key given) + (sum_by (λ (n : ℕ). number_bytes) (each_of number_of add_threshold_key given) + sum_by notice_bytes (each_of notice_of add_notification_key given))) ≤ L

has_template : (L : ℕ) (given : List Given) (name : List ℕ) → AreSound L given
    → one text_of template_key given ≡ Some name → HasTemplate L given name
has_template L given name s e =
    let own : option_map_or text_bytes (one text_of template_key given) 0 ≡ text_bytes name = ap (λ (o : Option (List ℕ)). option_map_or text_bytes o 0) e in
    record {
      named = one_sound text_of text_kind template_key given name s.each e;
      bytes =
          omega (
            arith,
            own,
            s.bytes,
            shares_fit (template_key ∷ remove_threshold_key ∷ add_threshold_key ∷ add_notification_key ∷ []) given refl,
            one_fits text_of template_key text_bytes (text_weighs template_key refl) given,
            each_fits number_of remove_threshold_key (λ n. number_bytes) (number_weighs remove_threshold_key refl) given,
            each_fits number_of add_threshold_key (λ n. number_bytes) (number_weighs add_threshold_key refl) given,
            each_fits notice_of add_notification_key notice_bytes (notice_weighs add_notification_key refl) given,
          );
    }

-- names that are excluded
given_excluded : (given : List Given) → AllByRecursion IsSoundGiven given
    → list_all is_name (each_of text_of exclude_key given) ≡ true
given_excluded given s = each_of_sound is_name text_of text_kind exclude_key (λ x h. h) given s

each_length : {X : Type 0} (of : Value → Option X) (key : Key) (given : List Given)
    → length (each_of of key given) ≤ times_in key given
each_length of key [] = omega arith
each_length {X} of key (g ∷ given) =
    omega (arith, sum_by-cons (λ (g : Given). cond (is_of key g) 1 0) g given, at (is_of key g) (of g.value) (each_length of key given))
  where
    at : (b : Bool) (o : Option X) → length (each_of of key given) ≤ times_in key given
        → length (cons_option (if b then o else None) (each_of of key given)) ≤ cond b 1 0 + times_in key given
    at true None rest = omega (arith, rest)
    at true (Some x) rest = omega (arith, rest)
    at false o rest = omega (arith, rest)

excluded_few : (L : ℕ) (given : List Given) → AreSound L given
    → nat_le (length (each_of text_of exclude_key given)) most_excluded ≡ true
excluded_few L given s =
    let few : times_in exclude_key given ≤ most_excluded = s.allowed exclude_key in
    le-leb (length (each_of text_of exclude_key given)) most_excluded (omega (arith, few, each_length text_of exclude_key given))

-- templates
template_add_sound : IsSoundCommand (codes "add", template_add)
template_add_sound =
    record {
      sound = λ L given d s h.
          let name = needed text_of template_key given _ d h in
          let limit = needed number_of limit_key given _ d name.2 in
          let t = has_template L given name.0 s name.1 in
          subst (IsSound L) (deed_is limit.2) (record {
            valued = rw (t.named, given_limit given limit.0 s.each limit.1, given_percents given s.each, given_notices given s.each) refl;
            bytes = omega (arith, t.bytes, number_fits, choice_fits);
          });
    }

template_modify_sound : IsSoundCommand (codes "modify", template_modify)
template_modify_sound =
    record {
      sound = λ L given d s h.
          let name = needed text_of template_key given _ d h in
          let t = has_template L given name.0 s name.1 in
          subst (IsSound L) (deed_is name.2) (record {
            valued = rw (t.named, limit_or given s.each, given_removals given s.each, given_percents given s.each, given_notices given s.each) refl;
            bytes = omega (arith, t.bytes, number_fits, choice_fits);
          });
    }

template_delete_sound : IsSoundCommand (codes "delete", template_delete)
template_delete_sound =
    record {
      sound = λ L given d s h.
          let name = needed text_of template_key given _ d h in
          let t = has_template L given name.0 s name.1 in
          subst (IsSound L) (deed_is name.2) (record { valued = t.named; bytes = omega (arith, t.bytes) });
    }

pub template_commands_sound : AllByRecursion IsSoundCommand template_commands
template_commands_sound =
    (template_add_sound, (template_modify_sound, (template_delete_sound, (alone_sound (codes "list") (Template TemplateList) refl refl refl, tt))))

-- auto-apply quotas
auto_add_sound : IsSoundCommand (codes "add", auto_add)
auto_add_sound =
    record {
      sound = λ L given d s h.
          let path = needed path_of path_key given _ d h in
          let name = needed text_of source_template_key given _ d path.2 in
          let p = has_path L given path.0 s path.1 in
          let own : option_map_or text_bytes (one text_of source_template_key given) 0 ≡ text_bytes name.0 = ap (λ (o : Option (List ℕ)). option_map_or text_bytes o 0) name.1 in
          subst (IsSound L) (deed_is name.2) (record {
            valued = rw (p.named, given_source given name.0 s.each name.1, excluded_few L given s, given_excluded given s.each) refl;
            bytes = omega (arith, p.bytes, own, number_fits, choice_fits);
          });
    }

pub auto_commands_sound : AllByRecursion IsSoundCommand auto_commands
auto_commands_sound = (
  auto_add_sound,
  (path_sound_command (codes "delete") (λ path. Autoquota (AutoquotaDelete path)) (λ path. refl) (λ path. refl) (λ path. refl), (alone_sound (codes "list") (Autoquota AutoquotaList) refl refl refl, tt)),
)
