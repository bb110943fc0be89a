-- What a screen's actions that ran leave, and which of them wait.
use Rattle.std.proofs.Common.{◌≡◌, ℕ, ◌+◌, ◌≤◌, ◌==◌, Bool, true, false, cond, ◌||◌, ◌&&◌, List, [], ◌∷◌, ◌++◌, length, take, Option, Some, None, refl, sym, ◌∙◌, ap, arith, append_assoc, is_some, slice_get, option_map}
use Rattle.std.proofs.lemmas.List.{append-nil, length-append, map-append}
use Rattle.std.proofs.lemmas.List.Elements.{filter_map-append}
use Rattle.std.proofs.lemmas.List.Folds.{list_all-append}
use Rattle.std.proofs.lemmas.Option.{slice_get_within}
use Rattle.std.specs.Prelude.{map, filter_map, if◌then◌else◌}
use Rattle.std.specs.List.{cons_option, list_all}
use Rattle.std.specs.Option.{option_and_then, option_map_or}
use Rattle.fsrm_base.specs.Keyed.{row_of, with_change}
use Rattle.fsrm_base.proofs.Look.{find-map, found_key}
use Rattle.fsrm_base.proofs.RowLaws.{map_same}
use Rattle.fsrm_base.proofs.TestLaws.{both_true}
use Rattle.fsrm_model.specs.declared.command.Act.{Act}
use Rattle.fsrm_model.specs.declared.command.Subject.TheVariants.{Screen}
use Rattle.fsrm_model.specs.declared.row.Action.{Action}
use Rattle.fsrm_model.specs.declared.row.ActionKind.{ActionKind}
use Rattle.fsrm_model.specs.declared.row.ScreenRow.{ScreenRow}
use Rattle.fsrm_model.specs.objects.Acts.{has_act}
use Rattle.fsrm_model.specs.objects.DueActions.{act_of, due_screen, ready, ready_acts}
use Rattle.fsrm_model.specs.values.Limits.{most_entries}
use Rattle.fsrm_model.specs.objects.Runs.{entry_of, last_entries, run_screen}
use Rattle.fsrm_model.specs.objects.Screens.{screen_folder}
use Rattle.fsrm_model.proofs.thresholds.DueLaws.{each}
use Rattle.fsrm_model.proofs.thresholds.RunLaws.{run_at, short_log, with_run}
use Rattle.fsrm_model.proofs.thresholds.UnrunLaws.{screens_unrun}
use Rattle.fsrm_objects.specs.Tables.{HasScreenAction, Tables, run_screen_at, with_screen_run}
use Rattle.thresholds.specs.Marked.{Marked, are_screen_acts, screen_act_at, screen_action_at, screen_waiting}
use Rattle.thresholds.specs.Settled.{SettlesScreen, screen_due}
use Rattle.thresholds.proofs.ListLaws.{ready_acts-append, take_next, taken}
use Rattle.thresholds.proofs.RunLaws.{by_none, by_one, eq_sym, or_nothing, run_both}
use Rattle.thresholds.proofs.SettleLaws.{kept_twice}
use Rattle.thresholds.proofs.Steps.{no_later, none_taken, whole}
use Rattle.thresholds.proofs.WaitingLaws.{same_kind}

-- ---- screens of which actions ran
-- one after another
screens_both : (moment : ℕ) (one other : List Act) (screens : List ScreenRow) → map (run_screen moment other) (map (run_screen moment one) screens) ≡ map (run_screen moment (one ++ other)) screens
screens_both moment one other [] = refl
screens_both moment one other (s ∷ screens) =
    ap (λ actions. record s { actions = actions } ∷ map (run_screen moment other) (map (run_screen moment one) screens)) (run_both moment one other (Screen s.folder) s.actions)
    ∙ ap (λ more. run_screen moment (one ++ other) s ∷ more) (screens_both moment one other screens)

-- one alone
module _ (moment folder place : ℕ) (kind : ActionKind) where
  abbrev one_act : List Act
  one_act = record { subject = Screen folder; place = place; kind = kind } ∷ []

  screen_one : (s : ScreenRow) (b : Bool) → (folder == s.folder) ≡ b → run_screen moment one_act s ≡ cond b (run_screen_at moment place s) s
  screen_one s true e =
      ap (λ actions. record s { actions = actions })
      (by_one moment (has_act one_act (Screen s.folder)) 0 place s.actions
      (λ k. ap (λ x. (x && (place == k)) || false) e ∙ (or_nothing (place == k) ∙ (eq_sym place k ∙ ap (λ j. k == j) start))))
    where
      start : place ≡ 0 + place
      start = omega arith
  screen_one s false e =
      ap (λ actions. record s { actions = actions })
      (by_none moment (has_act one_act (Screen s.folder)) 0 s.actions (λ k l. ap (λ x. (x && (place == k)) || false) e))

  screens_one : (screens : List ScreenRow) → with_change screen_folder folder (run_screen_at moment place) screens ≡ map (run_screen moment one_act) screens
  screens_one screens =
      sym (map_same (run_screen moment one_act) (λ s. if s.folder == folder then run_screen_at moment place s else s) screens
      (each (λ s. run_screen moment one_act s ≡ cond (s.folder == folder) (run_screen_at moment place s) s)
      (λ s. screen_one s (folder == s.folder) refl ∙ ap (λ b. cond b (run_screen_at moment place s) s) (eq_sym folder s.folder)) screens))

-- ---- a run changes no act
module _ (moment : ℕ) (acts : List Act) (screens : List ScreenRow) (folder : ℕ) where
  screen_run : row_of screen_folder folder (map (run_screen moment acts) screens) ≡ option_map (run_screen moment acts) (row_of screen_folder folder screens)
  screen_run = find-map (λ s. screen_folder s == folder) (run_screen moment acts) (λ s. refl) screens

  pub act_run : (place : ℕ) → screen_act_at (map (run_screen moment acts) screens) folder place ≡ screen_act_at screens folder place
  act_run place =
      ap (option_and_then (λ (s : ScreenRow). option_map (λ action. act_of (Screen folder) (place, action)) (slice_get s.actions place))) screen_run
      ∙ at (row_of screen_folder folder screens)
    where
      kinds : (own : ℕ) (o : Option Action) → option_map (λ action. act_of (Screen folder) (place, action)) (option_map (with_run moment (has_act acts (Screen own) place)) o) ≡ option_map (λ action. act_of (Screen folder) (place, action)) o
      kinds own None = refl
      kinds own (Some action) = ap (λ kind. Some (record { subject = Screen folder; place = place; kind = kind })) (same_kind moment (has_act acts (Screen own) place) action)

      at : (o : Option ScreenRow) → option_and_then (λ (s : ScreenRow). option_map (λ action. act_of (Screen folder) (place, action)) (slice_get s.actions place)) (option_map (run_screen moment acts) o) ≡ option_and_then (λ (s : ScreenRow). option_map (λ action. act_of (Screen folder) (place, action)) (slice_get s.actions place)) o
      at None = refl
      at (Some s) = ap (option_map (λ action. act_of (Screen folder) (place, action))) (run_at moment acts (Screen s.folder) s.actions place) ∙ kinds s.folder (slice_get s.actions place)

  waiting_run : (places : List ℕ) → filter_map (screen_act_at (map (run_screen moment acts) screens) folder) places ≡ filter_map (screen_act_at screens folder) places
  waiting_run [] = refl
  waiting_run (place ∷ places) =
      ap (λ o. cons_option o (filter_map (screen_act_at (map (run_screen moment acts) screens) folder) places)) (act_run place)
      ∙ ap (cons_option (screen_act_at screens folder place)) (waiting_run places)

  there_run : (places : List ℕ) → list_all (λ place. is_some (screen_act_at (map (run_screen moment acts) screens) folder place)) places ≡ list_all (λ place. is_some (screen_act_at screens folder place)) places
  there_run [] = refl
  there_run (place ∷ places) =
      ap (λ o. is_some o && list_all (λ place. is_some (screen_act_at (map (run_screen moment acts) screens) folder place)) places) (act_run place)
      ∙ ap (λ b. is_some (screen_act_at screens folder place) && b) (there_run places)

-- ---- an action that is there
-- what has an act has an action, and the other way round
pub record IsAction (screens : List ScreenRow) (folder place : ℕ) : Type 0 where
  pub screen : ScreenRow
  pub action : Action
  pub screen_is : row_of screen_folder folder screens ≡ Some screen
  pub action_is : slice_get screen.actions place ≡ Some action

pub found_action : (screens : List ScreenRow) (folder place : ℕ) → is_some (screen_act_at screens folder place) ≡ true → IsAction screens folder place
found_action screens folder place there = at (row_of screen_folder folder screens) refl there
  where
    inner : (s : ScreenRow) → row_of screen_folder folder screens ≡ Some s → (o : Option Action) → slice_get s.actions place ≡ o → is_some (option_map (λ action. act_of (Screen folder) (place, action)) o) ≡ true → IsAction screens folder place
    inner s e (Some action) f there = record { screen = s; action = action; screen_is = e; action_is = f }
    inner s e None f there = cc

    at : (o : Option ScreenRow) → row_of screen_folder folder screens ≡ o → is_some (option_and_then (λ (s : ScreenRow). option_map (λ action. act_of (Screen folder) (place, action)) (slice_get s.actions place)) o) ≡ true → IsAction screens folder place
    at (Some s) e there = inner s e (slice_get s.actions place) refl there
    at None e there = cc

module _ (screens : List ScreenRow) (folder place : ℕ) (is : IsAction screens folder place) where
  pub act_is : screen_act_at screens folder place ≡ Some (act_of (Screen folder) (place, is.action))
  act_is =
      ap (option_and_then (λ (s : ScreenRow). option_map (λ action. act_of (Screen folder) (place, action)) (slice_get s.actions place))) is.screen_is
      ∙ ap (option_map (λ action. act_of (Screen folder) (place, action))) is.action_is

pub has_action : (tables : Tables) (folder place : ℕ) → IsAction tables.screens folder place → HasScreenAction tables folder place
has_action tables folder place is = record {
  screen = is.screen;
  is_there = is.screen_is;
  within = slice_get_within is.screen.actions place is.action is.action_is;
}

-- ---- in the midst of settling a screen
-- the acts of its first actions
abbrev pub screen_upto : List ScreenRow → ℕ → ℕ → ℕ → ℕ → List Act
screen_upto screens run_limit moment folder k =
    option_map_or (λ (s : ScreenRow). ready_acts run_limit moment (Screen s.folder) (take k s.actions)) (row_of screen_folder folder screens) []

abbrev place_of : Act → ℕ
place_of act = act.place

-- marks, after acts of a folder's screen
abbrev marks_with : Marked → ℕ → ℕ → List Act → Marked
marks_with old moment folder acts =
    record { numbers = old.numbers; log = last_entries (old.log ++ map (entry_of moment) acts); folder = folder; places = map place_of acts }

pub record RanFirst (old mid : Marked) (before now : Tables) (moment folder k : ℕ) (acts : List Act) : Type 0 where
  pub tables : now ≡ record before { screens = map (run_screen moment acts) before.screens }
  pub marks : mid ≡ marks_with old moment folder acts
  pub there : list_all (λ place. is_some (screen_act_at before.screens folder place)) (map place_of acts) ≡ true
  pub waiting : filter_map (screen_act_at before.screens folder) (map place_of acts) ≡ acts
  pub few : length (map place_of acts) ≤ k

-- none yet
pub ran_none : (old : Marked) (before : Tables) (moment folder : ℕ) → old.places ≡ [] → length old.log ≤ most_entries → RanFirst old (record old { folder = folder }) before before moment folder 0 []
ran_none old before moment folder none few = record {
  tables = ap (λ screens. record before { screens = screens }) (sym (screens_unrun moment [] before.screens tt));
  marks =
      ap (λ places. record old { folder = folder; places = places }) none
      ∙ ap (λ log. record old { log = log; folder = folder; places = [] }) (sym (ap last_entries (append-nil old.log) ∙ short_log old.log few));
  there = refl;
  waiting = refl;
  few = omega arith;
}

-- one more
pub ran_more : (old mid new : Marked) (before now after : Tables) (moment folder k : ℕ) (acts : List Act) (is : IsAction before.screens folder k) → RanFirst old mid before now moment folder k acts → new ≡ record mid { log = last_entries (mid.log ++ entry_of moment (act_of (Screen folder) (k, is.action)) ∷ []); places = mid.places ++ k ∷ [] } → after ≡ with_screen_run now folder k moment → RanFirst old new before after moment folder (k + 1) (acts ++ act_of (Screen folder) (k, is.action) ∷ [])
ran_more old mid new before now after moment folder k acts is ran marks_are tables_are = record {
  tables =
      tables_are
      ∙ (ap (λ (t : Tables). with_screen_run t folder k moment) ran.tables
      ∙ ap (λ screens. record before { screens = screens }) (screens_one moment folder k is.action.kind (map (run_screen moment acts) before.screens) ∙ screens_both moment acts (act ∷ []) before.screens));
  marks =
      marks_are
      ∙ (ap (λ (m : Marked). record m { log = last_entries (m.log ++ entry_of moment act ∷ []); places = m.places ++ k ∷ [] }) ran.marks
      ∙ (ap (λ log. record { numbers = old.numbers; log = log; folder = folder; places = map place_of acts ++ k ∷ [] })
      (kept_twice (old.log ++ map (entry_of moment) acts) (entry_of moment act ∷ [])
      ∙ ap last_entries (append_assoc old.log (map (entry_of moment) acts) (entry_of moment act ∷ []) ∙ ap (λ more. old.log ++ more) (sym (map-append (entry_of moment) acts (act ∷ [])))))
      ∙ ap (λ places. record { numbers = old.numbers; log = last_entries (old.log ++ map (entry_of moment) (acts ++ act ∷ [])); folder = folder; places = places }) (sym (map-append place_of acts (act ∷ [])))));
  there =
      ap (list_all (λ place. is_some (screen_act_at before.screens folder place))) (map-append place_of acts (act ∷ []))
      ∙ (list_all-append (λ place. is_some (screen_act_at before.screens folder place)) (map place_of acts) (k ∷ [])
      ∙ both_true (list_all (λ place. is_some (screen_act_at before.screens folder place)) (map place_of acts)) (is_some (screen_act_at before.screens folder k) && true) ran.there (ap (λ o. is_some o && true) (act_is before.screens folder k is)));
  waiting =
      ap (filter_map (screen_act_at before.screens folder)) (map-append place_of acts (act ∷ []))
      ∙ (filter_map-append (screen_act_at before.screens folder) (map place_of acts) (k ∷ [])
      ∙ (ap (λ first. first ++ filter_map (screen_act_at before.screens folder) (k ∷ [])) ran.waiting
      ∙ ap (λ o. acts ++ cons_option o []) (act_is before.screens folder k is)));
  few = longer (map place_of acts) (map place_of (acts ++ act ∷ [])) (map-append place_of acts (act ∷ [])) ran.few;
}
  where
    act : Act
    act = act_of (Screen folder) (k, is.action)

    longer : (short long : List ℕ) → long ≡ short ++ k ∷ [] → length short ≤ k → length long ≤ k + 1
    longer short long is few = let size = ap length is ∙ length-append short (k ∷ []) in omega (arith, size, few)

-- the same, if it may not run
pub ran_less : (old mid : Marked) (before now : Tables) (moment folder k : ℕ) (acts : List Act) → RanFirst old mid before now moment folder k acts → RanFirst old mid before now moment folder (k + 1) acts
ran_less old mid before now moment folder k acts ran = record {
  tables = ran.tables;
  marks = ran.marks;
  there = ran.there;
  waiting = ran.waiting;
  few = omega (arith, ran.few);
}

-- ---- the acts of the first actions
module _ (screens : List ScreenRow) (run_limit moment folder : ℕ) (screen : ScreenRow) (found : row_of screen_folder folder screens ≡ Some screen) where
  upto : (j : ℕ) → screen_upto screens run_limit moment folder j ≡ ready_acts run_limit moment (Screen folder) (take j screen.actions)
  upto j =
      ap (λ o. option_map_or (λ (s : ScreenRow). ready_acts run_limit moment (Screen s.folder) (take j s.actions)) o []) found
      ∙ ap (λ n. ready_acts run_limit moment (Screen n) (take j screen.actions)) (found_key screen_folder folder screens screen found)

  pub upto_none : screen_upto screens run_limit moment folder 0 ≡ []
  upto_none = upto 0 ∙ ap (ready_acts run_limit moment (Screen folder)) (none_taken screen.actions)

  module _ (k : ℕ) (action : Action) (at : slice_get screen.actions k ≡ Some action) where
    upto_next : screen_upto screens run_limit moment folder (k + 1) ≡ screen_upto screens run_limit moment folder k ++ cond (ready run_limit moment action) (act_of (Screen folder) (k, action) ∷ []) []
    upto_next =
        upto (k + 1)
        ∙ (ap (ready_acts run_limit moment (Screen folder)) (take_next screen.actions k action at)
        ∙ (ready_acts-append run_limit moment (Screen folder) (take k screen.actions) action
        ∙ (ap (λ n. ready_acts run_limit moment (Screen folder) (take k screen.actions) ++ cond (ready run_limit moment action) (act_of (Screen folder) (n, action) ∷ []) []) (taken screen.actions k action at)
        ∙ ap (λ acts. acts ++ cond (ready run_limit moment action) (act_of (Screen folder) (k, action) ∷ []) []) (sym (upto k)))))

    pub upto_ready : ready run_limit moment action ≡ true → screen_upto screens run_limit moment folder k ++ act_of (Screen folder) (k, action) ∷ [] ≡ screen_upto screens run_limit moment folder (k + 1)
    upto_ready may =
        ap (λ b. screen_upto screens run_limit moment folder k ++ cond b (act_of (Screen folder) (k, action) ∷ []) []) (sym may) ∙ sym upto_next

    pub upto_unready : ready run_limit moment action ≡ false → screen_upto screens run_limit moment folder k ≡ screen_upto screens run_limit moment folder (k + 1)
    upto_unready may =
        sym (append-nil (screen_upto screens run_limit moment folder k))
        ∙ (ap (λ b. screen_upto screens run_limit moment folder k ++ cond b (act_of (Screen folder) (k, action) ∷ []) []) (sym may) ∙ sym upto_next)

    -- it is as it was while those before it ran
    pub still_there : screen_action_at (map (run_screen moment (screen_upto screens run_limit moment folder k)) screens) folder k ≡ Some action
    still_there =
        let acts = screen_upto screens run_limit moment folder k in
        ap (option_and_then (λ (s : ScreenRow). slice_get s.actions k)) (screen_run moment acts screens folder ∙ ap (option_map (run_screen moment acts)) found)
        ∙ (run_at moment acts (Screen screen.folder) screen.actions k
        ∙ (ap (option_map (with_run moment (has_act acts (Screen screen.folder) k))) at
        ∙ ap (λ b. Some (with_run moment b action))
        (ap (λ n. has_act acts (Screen n) k) (found_key screen_folder folder screens screen found)
        ∙ (ap (λ a. has_act a (Screen folder) k) (upto k) ∙ no_later run_limit moment (Screen folder) screen.actions k))))

pub upto_all : (tables : Tables) (run_limit moment folder : ℕ) (screen : ScreenRow) → row_of screen_folder folder tables.screens ≡ Some screen → screen_upto tables.screens run_limit moment folder (length screen.actions) ≡ screen_due tables run_limit moment folder
upto_all tables run_limit moment folder screen found =
    upto tables.screens run_limit moment folder screen found (length screen.actions)
    ∙ (ap (ready_acts run_limit moment (Screen folder)) (whole screen.actions)
    ∙ (ap (λ n. ready_acts run_limit moment (Screen n) screen.actions) (sym (found_key screen_folder folder tables.screens screen found))
    ∙ ap (λ o. option_map_or (due_screen run_limit moment) o []) (sym found)))

-- ---- all of them
pub settled : (old mid : Marked) (before now : Tables) (moment folder k : ℕ) (acts : List Act) → RanFirst old mid before now moment folder k acts → SettlesScreen old mid before now moment acts
settled old mid before now moment folder k acts ran = record {
  tables = ran.tables;
  log = ap (λ (m : Marked). m.log) ran.marks;
  numbers = ap (λ (m : Marked). m.numbers) ran.marks;
  there =
      ap (are_screen_acts now.screens) ran.marks
      ∙ (ap (λ (t : Tables). are_screen_acts t.screens (marks_with old moment folder acts)) ran.tables
      ∙ (there_run moment acts before.screens folder (map place_of acts) ∙ ran.there));
  waiting =
      ap (screen_waiting now.screens) ran.marks
      ∙ (ap (λ (t : Tables). screen_waiting t.screens (marks_with old moment folder acts)) ran.tables
      ∙ (waiting_run moment acts before.screens folder (map place_of acts) ∙ ran.waiting));
}
