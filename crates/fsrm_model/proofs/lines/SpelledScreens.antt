-- A line that spells a command of `filescrn` spells a valid one: the values of file groups, screens and exceptions.
use Rattle.std.proofs.Common.{◌≡◌, ℕ, ◌+◌, ◌≤◌, List, [], ◌∷◌, true, length, refl, ap, subst, arith}
use Rattle.std.specs.Prelude.{◌&&◌, ◌*◌, codes, sum_by, nat_lt, nat_le, unwrap_or, Option, Some, None}
use Rattle.std.specs.List.{AllByRecursion, cons_option, list_all}
use Rattle.std.specs.Option.{option_or, option_map_or}
use Rattle.std.proofs.lemmas.Bool.{lt-ltb, leb-true, and_parts}
use Rattle.std.proofs.lemmas.List.Sums.{sum_by-cons}
use Rattle.fsrm_model.specs.declared.command.Deed.TheVariants.{Filegroup, Screen, Exception}
use Rattle.fsrm_model.specs.declared.command.ExceptionDeed.TheVariants.{Delete as ExceptionDelete, List as ExceptionList}
use Rattle.fsrm_model.specs.declared.command.FilegroupDeed.TheVariants.{List as FilegroupList}
use Rattle.fsrm_model.specs.declared.command.ScreenDeed.TheVariants.{Delete as ScreenDelete, List as ScreenList}
use Rattle.fsrm_model.specs.commands.Commands.{are_some_names}
use Rattle.fsrm_model.specs.commands.Entry.{text_bytes, path_bytes, optional, counted, screen_notice_bytes}
use Rattle.fsrm_model.specs.values.Limits.{most_patterns}
use Rattle.fsrm_model.specs.lines.ValueForms.{Value, path_of, text_of, texts_of, action_of}
use Rattle.fsrm_model.specs.lines.Options.{Key, path_key, filegroup_key, members_key, non_members_key, remove_filegroup_key, add_filegroup_key, screen_notification_key, Given, its, one, each_of}
use Rattle.fsrm_model.specs.values.Patterns.{is_object_name, is_pattern, are_members, are_non_members}
use Rattle.fsrm_model.specs.lines.Tools.{group_add, group_modify, group_delete, group_commands, screen_add, screen_modify, screen_commands, except_add, except_commands, filescrn}
use Rattle.fsrm_model.specs.objects.Thresholds.{is_new_action}
use Rattle.fsrm_base.proofs.TestLaws.{both_true}
use Rattle.fsrm_model.proofs.lines.SoundValues.{Path, is_sound_path, IsSoundGiven, lengths}
use Rattle.fsrm_model.proofs.lines.GivenOptions.{AreSound, paths_kind, text_kind, texts_kind, actions_kind, one_sound, each_of_sound, maybe_sound, shares_fit, one_fits, each_fits, path_weighs, text_weighs, texts_weigh, action_weighs}
use Rattle.fsrm_model.proofs.lines.SpelledOptions.{IsSound, needed, deed_is, IsSoundCommand, path_sound_command, alone_sound, number_fits, choice_fits, AreSoundCommands}

-- a group's name, and the bytes that are left for its patterns
record HasGroup (L : ℕ) (given : List Given) (name : List ℕ) : Type 0 where
  named : is_object_name name ≡ true
  bytes : text_bytes name + (option_map_or lengths (one texts_of members_key given) 0 + option_map_or lengths (one texts_of non_members_key given) 0) ≤ L

has_group : (L : ℕ) (given : List Given) (name : List ℕ) → AreSound L given
    → one text_of filegroup_key given ≡ Some name → HasGroup L given name
has_group L given name s e =
    let own : option_map_or text_bytes (one text_of filegroup_key given) 0 ≡ text_bytes name = ap (λ (o : Option (List ℕ)). option_map_or text_bytes o 0) e in
    record {
      named = one_sound text_of text_kind filegroup_key given name s.each e;
      bytes =
          omega (
            arith,
            own,
            s.bytes,
            shares_fit (filegroup_key ∷ members_key ∷ non_members_key ∷ []) given refl,
            one_fits text_of filegroup_key text_bytes (text_weighs filegroup_key refl) given,
            one_fits texts_of members_key lengths (texts_weigh members_key) given,
            one_fits texts_of non_members_key lengths (texts_weigh non_members_key) given,
          );
    }

given_members : (given : List Given) (patterns : List (List ℕ)) → AllByRecursion IsSoundGiven given
    → one texts_of members_key given ≡ Some patterns → are_members patterns ≡ true
given_members given patterns s e = one_sound texts_of texts_kind members_key given patterns s e

-- patterns that may be left out
members_or : (given : List Given) → AllByRecursion IsSoundGiven given
    → option_map_or are_members (one texts_of members_key given) true ≡ true
members_or given s =
    maybe_sound are_members (one texts_of members_key given) (λ patterns e. given_members given patterns s e)

non_members_or : (given : List Given) → AllByRecursion IsSoundGiven given
    → option_map_or are_non_members (one texts_of non_members_key given) true ≡ true
non_members_or given s =
    maybe_sound are_non_members (one texts_of non_members_key given) (λ patterns e. one_sound texts_of texts_kind non_members_key given patterns s e)

unwrapped_others : (o : Option (List (List ℕ))) → option_map_or are_non_members o true ≡ true
    → (are_non_members (unwrap_or o []) ≡ true) × (lengths (unwrap_or o []) ≡ option_map_or lengths o 0)
unwrapped_others None h = (refl, refl)
unwrapped_others (Some patterns) h = (h, refl)

-- an entry has two more bytes for each text, and there are few patterns
counted_texts : (texts : List (List ℕ)) → sum_by text_bytes texts ≡ lengths texts + 2 * length texts
counted_texts [] = refl
counted_texts (text ∷ texts) =
    omega (arith, counted_texts texts, sum_by-cons text_bytes text texts, sum_by-cons length text texts)

others_fit : (patterns : List (List ℕ)) → are_non_members patterns ≡ true
    → counted text_bytes patterns ≤ lengths patterns + 130
others_fit patterns h =
    let few = leb-true (length patterns) most_patterns (and_parts (nat_le (length patterns) most_patterns) (list_all is_pattern patterns) h).0 in
    omega (arith, counted_texts patterns, few)

members_fit : (patterns : List (List ℕ)) → are_members patterns ≡ true
    → counted text_bytes patterns ≤ lengths patterns + 130
members_fit patterns h =
    let size = (and_parts (nat_lt 0 (length patterns) && nat_le (length patterns) most_patterns) (list_all is_pattern patterns) h).0 in
    let few = leb-true (length patterns) most_patterns (and_parts (nat_lt 0 (length patterns)) (nat_le (length patterns) most_patterns) size).1 in
    omega (arith, counted_texts patterns, few)

maybe_members_fit : (o : Option (List (List ℕ))) → option_map_or are_members o true ≡ true
    → optional (counted text_bytes) o ≤ option_map_or lengths o 0 + 131
maybe_members_fit None h = omega arith
maybe_members_fit (Some patterns) h = omega (arith, members_fit patterns h)

maybe_others_fit : (o : Option (List (List ℕ))) → option_map_or are_non_members o true ≡ true
    → optional (counted text_bytes) o ≤ option_map_or lengths o 0 + 131
maybe_others_fit None h = omega arith
maybe_others_fit (Some patterns) h = omega (arith, others_fit patterns h)

-- a screen's path, and the bytes that are left for its groups and its actions
record HasScreen (L : ℕ) (given : List Given) (path : Path) : Type 0 where
  named : is_sound_path path ≡ true
  bytes : path_bytes path + (sum_by text_bytes (each_of text_of remove_filegroup_key given) + (sum_by text_bytes (each_of text_of add_filegroup_key given) + sum_by screen_notice_bytes (each_of action_of screen_notification_key given))) ≤ L

has_screen : (L : ℕ) (given : List Given) (path : Path) → AreSound L given → one path_of path_key given ≡ Some path
    → HasScreen L given path
has_screen L given path s e =
    let own : option_map_or path_bytes (one path_of path_key given) 0 ≡ path_bytes path = ap (λ (o : Option Path). option_map_or path_bytes o 0) e in
    record {
      named = one_sound path_of paths_kind path_key given path s.each e;
      bytes =
          omega (
            arith,
            own,
            s.bytes,
            shares_fit (path_key ∷ remove_filegroup_key ∷ add_filegroup_key ∷ screen_notification_key ∷ []) given refl,
            one_fits path_of path_key path_bytes (path_weighs path_key refl) given,
            each_fits text_of remove_filegroup_key text_bytes (text_weighs remove_filegroup_key refl) given,
            each_fits text_of add_filegroup_key text_bytes (text_weighs add_filegroup_key refl) given,
            each_fits action_of screen_notification_key screen_notice_bytes (action_weighs screen_notification_key refl) given,
          );
    }

given_removed_groups : (given : List Given) → AllByRecursion IsSoundGiven given
    → list_all is_object_name (each_of text_of remove_filegroup_key given) ≡ true
given_removed_groups given s = each_of_sound is_object_name text_of text_kind remove_filegroup_key (λ x h. h) given s

given_groups : (given : List Given) → AllByRecursion IsSoundGiven given
    → list_all is_object_name (each_of text_of add_filegroup_key given) ≡ true
given_groups given s = each_of_sound is_object_name text_of text_kind add_filegroup_key (λ x h. h) given s

given_actions : (given : List Given) → AllByRecursion IsSoundGiven given
    → list_all is_new_action (each_of action_of screen_notification_key given) ≡ true
given_actions given s = each_of_sound is_new_action action_of actions_kind screen_notification_key (λ x h. h) given s

-- if there is a first one, there are some
some_of : {X : Type 0} (of : Value → Option X) (key : Key) (given : List Given) (x : X) → one of key given ≡ Some x
    → nat_lt 0 (length (each_of of key given)) ≡ true
some_of of key [] x e = absurd (cc e)
some_of {X} of key (g ∷ given) x e = at (its of key g) (some_of of key given x) e
  where
    at : (o : Option X) → (one of key given ≡ Some x → nat_lt 0 (length (each_of of key given)) ≡ true)
        → option_or o (one of key given) ≡ Some x → nat_lt 0 (length (cons_option o (each_of of key given))) ≡ true
    at None rest e = rest e
    at (Some y) rest e = lt-ltb 0 (length (y ∷ each_of of key given)) (omega arith)

some_groups : (given : List Given) (first : List ℕ) → AllByRecursion IsSoundGiven given
    → one text_of add_filegroup_key given ≡ Some first
    → are_some_names (each_of text_of add_filegroup_key given) ≡ true
some_groups given first s e =
    both_true (nat_lt 0 (length (each_of text_of add_filegroup_key given))) (list_all is_object_name (each_of text_of add_filegroup_key given)) (some_of text_of add_filegroup_key given first e) (given_groups given s)

-- file groups
group_add_sound : IsSoundCommand (codes "add", group_add)
group_add_sound =
    record {
      sound = λ L given d s h.
          let others = unwrap_or (one texts_of non_members_key given) [] in
          let name = needed text_of filegroup_key given _ d h in
          let members = needed texts_of members_key given _ d name.2 in
          let g = has_group L given name.0 s name.1 in
          let some = given_members given members.0 s.each members.1 in
          let more = unwrapped_others (one texts_of non_members_key given) (non_members_or given s.each) in
          let own : option_map_or lengths (one texts_of members_key given) 0 ≡ lengths members.0 = ap (λ (o : Option (List (List ℕ))). option_map_or lengths o 0) members.1 in
          subst (IsSound L) (deed_is members.2) (record {
            valued = rw (g.named, some, more.0) refl;
            bytes = omega (arith, g.bytes, own, more.1, members_fit members.0 some, others_fit others more.0);
          });
    }

group_modify_sound : IsSoundCommand (codes "modify", group_modify)
group_modify_sound =
    record {
      sound = λ L given d s h.
          let name = needed text_of filegroup_key given _ d h in
          let g = has_group L given name.0 s name.1 in
          let some = members_or given s.each in
          let more = non_members_or given s.each in
          subst (IsSound L) (deed_is name.2) (record {
            valued = rw (g.named, some, more) refl;
            bytes = omega (arith, g.bytes, maybe_members_fit (one texts_of members_key given) some, maybe_others_fit (one texts_of non_members_key given) more);
          });
    }

group_delete_sound : IsSoundCommand (codes "delete", group_delete)
group_delete_sound =
    record {
      sound = λ L given d s h.
          let name = needed text_of filegroup_key given _ d h in
          let g = has_group L given name.0 s name.1 in
          subst (IsSound L) (deed_is name.2) (record { valued = g.named; bytes = omega (arith, g.bytes) });
    }

group_commands_sound : AllByRecursion IsSoundCommand group_commands
group_commands_sound =
    (group_add_sound, (group_modify_sound, (group_delete_sound, (alone_sound (codes "list") (Filegroup FilegroupList) refl refl refl, tt))))

-- screens
screen_add_sound : IsSoundCommand (codes "add", screen_add)
screen_add_sound =
    record {
      sound = λ L given d s h.
          let path = needed path_of path_key given _ d h in
          let first = needed text_of add_filegroup_key given _ d path.2 in
          let p = has_screen L given path.0 s path.1 in
          subst (IsSound L) (deed_is first.2) (record {
            valued = rw (p.named, some_groups given first.0 s.each first.1, given_actions given s.each) refl;
            bytes = omega (arith, p.bytes, number_fits, choice_fits);
          });
    }

screen_modify_sound : IsSoundCommand (codes "modify", screen_modify)
screen_modify_sound =
    record {
      sound = λ L given d s h.
          let path = needed path_of path_key given _ d h in
          let p = has_screen L given path.0 s path.1 in
          subst (IsSound L) (deed_is path.2) (record {
            valued = rw (p.named, given_removed_groups given s.each, given_groups given s.each) refl;
            bytes = omega (arith, p.bytes, number_fits, choice_fits);
          });
    }

screen_commands_sound : AllByRecursion IsSoundCommand screen_commands
screen_commands_sound = (
  screen_add_sound,
  (
    screen_modify_sound,
    (path_sound_command (codes "delete") (λ path. Screen (ScreenDelete path)) (λ path. refl) (λ path. refl) (λ path. refl), (alone_sound (codes "list") (Screen ScreenList) refl refl refl, tt)),
  ),
)

-- exceptions
except_add_sound : IsSoundCommand (codes "add", except_add)
except_add_sound =
    record {
      sound = λ L given d s h.
          let path = needed path_of path_key given _ d h in
          let first = needed text_of add_filegroup_key given _ d path.2 in
          let p = has_screen L given path.0 s path.1 in
          subst (IsSound L) (deed_is first.2) (record {
            valued = rw (p.named, some_groups given first.0 s.each first.1) refl;
            bytes = omega (arith, p.bytes, number_fits, choice_fits);
          });
    }

except_commands_sound : AllByRecursion IsSoundCommand except_commands
except_commands_sound = (
  except_add_sound,
  (path_sound_command (codes "delete") (λ path. Exception (ExceptionDelete path)) (λ path. refl) (λ path. refl) (λ path. refl), (alone_sound (codes "list") (Exception ExceptionList) refl refl refl, tt)),
)

pub filescrn_sound : AllByRecursion AreSoundCommands filescrn
filescrn_sound = (group_commands_sound, (screen_commands_sound, (except_commands_sound, tt)))
