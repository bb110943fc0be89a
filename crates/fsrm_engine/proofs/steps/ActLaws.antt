-- The acts that wait, acts the machine hands them out.
use Rattle.std.proofs.Common.{◌≡◌, ℕ, true, List, [], ◌∷◌, Option, Some, None, refl, ap, sym, ◌∙◌, subst, slice_get}
use Rattle.std.specs.Prelude.{filter_map, option_map, IfSome, MatchOption}
use Rattle.std.specs.List.{AllByRecursion, cons_option}
use Rattle.std.specs.Option.{option_and_then, option_map_or}
use Rattle.fsrm_base.specs.Keyed.{row_of}
use Rattle.fsrm_model.specs.declared.command.Act.{Act}
use Rattle.fsrm_model.specs.declared.command.Subject.{Subject}
use Rattle.fsrm_model.specs.declared.command.Subject.TheVariants.{Quota, Screen}
use Rattle.fsrm_model.specs.declared.row.ActRow.{ActRow}
use Rattle.fsrm_model.specs.declared.row.Action.{Action}
use Rattle.fsrm_model.specs.declared.row.Rows.{Rows}
use Rattle.fsrm_model.specs.declared.row.ScreenRow.{ScreenRow}
use Rattle.fsrm_model.specs.objects.Acts.{actions_of, IsAct}
use Rattle.fsrm_model.specs.texts.ActText.{text_of}
use Rattle.fsrm_model.specs.objects.DueActions.{act_of}
use Rattle.fsrm_model.specs.objects.Screens.{screen_folder}
use Rattle.fsrm_model.specs.store.Valid.{IsValid}
use Rattle.fsrm_model.proofs.thresholds.ActLaws.{all-append}
use Rattle.thresholds.specs.Marked.{Marked, all_waiting, are_screen_acts, are_there, screen_act_at, screen_waiting, waiting}
use Rattle.fsrm_engine.specs.declared.parts.Parts.{Parts}
use Rattle.fsrm_parts.specs.Acts.{actions_in, text_in, IsActOf}
use Rattle.fsrm_engine.specs.Machine.{Machine, IsWhole, machine_of, rows_of}
use Rattle.fsrm_engine.proofs.settling.OrderedActs.{waiting_there}
use Rattle.fsrm_parts.proofs.settling.OrderlyQuotas.{quotas_orderly}

-- ---- the action that an act names
actions_same : (p : Parts) (subject : Subject) → actions_of (rows_of p) subject ≡ actions_in p.objects subject
actions_same p (Quota folder percent) = refl
actions_same p (Screen folder) = refl

pub is_act_of : (p : Parts) (seen : Machine) (act : Act) → machine_of p ≡ seen → IsAct seen.rows act → IsActOf p.objects act
is_act_of p seen act view is =
    let own : IsAct (rows_of p) act = subst (λ (o : Machine). IsAct o.rows act) (sym view) is in
    record { action = own.action; there = ap (λ acts. slice_get acts act.place) (sym (actions_same p act.subject)) ∙ own.there }

pub text_seen : (p : Parts) (seen : Machine) (act : Act) → machine_of p ≡ seen → text_in p.objects act ≡ text_of seen.rows act
text_seen p seen act view =
    ap (λ acts. option_map_or (λ (action : Action). action.text) (slice_get acts act.place) []) (sym (actions_same p act.subject))
    ∙ ap (λ (o : Machine). text_of o.rows act) view

-- ---- acts that wait are there
screens_there : (R : Rows) (folder : ℕ) (places : List ℕ) → AllByRecursion (IsAct R) (filter_map (screen_act_at R.screens folder) places)
screens_there R folder [] = tt
screens_there R folder (n ∷ places) = at (screens_there R folder places) (row_of screen_folder folder R.screens) refl
  where
    rest : List Act
    rest = filter_map (screen_act_at R.screens folder) places

    one : (screen : ScreenRow) → row_of screen_folder folder R.screens ≡ Some screen → (o : Option Action) → slice_get screen.actions n ≡ o → AllByRecursion (IsAct R) rest → AllByRecursion (IsAct R) (cons_option (option_map (λ action. act_of (Screen folder) (n, action)) o) rest)
    one screen found None e all = all
    one screen found (Some action) e all =
        (record { action = action; there = ap (λ o. slice_get (option_map_or (λ (screen : ScreenRow). screen.actions) o []) n) found ∙ e; kind_is = refl }, all)

    at : AllByRecursion (IsAct R) rest → (o : Option ScreenRow) → row_of screen_folder folder R.screens ≡ o → AllByRecursion (IsAct R) (cons_option (option_and_then (λ (screen : ScreenRow). option_map (λ action. act_of (Screen folder) (n, action)) (slice_get screen.actions n)) o) rest)
    at all None e = all
    at all (Some screen) e = one screen e (slice_get screen.actions n) refl all

all_there : (p : Parts) → IsWhole p → AllByRecursion (IsAct (rows_of p)) (all_waiting p.objects p.marks)
all_there p w =
    all-append (IsAct (rows_of p)) (screen_waiting p.objects.screens p.marks) (waiting p.objects.quotas p.marks.numbers)
    (screens_there (rows_of p) p.marks.folder p.marks.places)
    (waiting_there (rows_of p) p.marks.numbers (quotas_orderly p.tree.nodes p.objects.quotas w.valid.quotas))

-- ---- an act is handed out
abbrev with_log : Parts → List ActRow → Rows
with_log p log = record (rows_of p) { acts = log }

named_first : (R : Rows) (w after : List Act) (o : Option Act) → AllByRecursion (IsAct R) w → MatchOption o (w ≡ []) (λ act. w ≡ act ∷ after) → IfSome o (IsAct R)
named_first R w after None all h = tt
named_first R w after (Some act) all h = (subst (AllByRecursion (IsAct R)) h all).0

if_some : {P Q : Act → Type 0} (o : Option Act) → ((act : Act) → P act → Q act) → IfSome o P → IfSome o Q
if_some None f h = tt
if_some (Some act) f h = f act h

module _ (p : Parts) (marks : Marked) (o : Option Act) (log : marks.log ≡ p.marks.log) where
  pub handed_whole : IsWhole p → are_there p.objects.quotas marks.numbers ≡ true → are_screen_acts p.objects.screens marks ≡ true → IsWhole (record p { marks = marks })
  handed_whole w there screens =
      record {
        sound = record { counted = w.sound.counted; scanning = w.sound.scanning };
        valid = subst (λ acts. IsValid p.tree.size (with_log p acts)) (sym log) w.valid;
        there = there;
        screens = screens;
        crossing = w.crossing;
      }

  pub handed_rows : (seen : Machine) → machine_of p ≡ seen → rows_of (record p { marks = marks }) ≡ seen.rows
  handed_rows seen view = ap (with_log p) log ∙ ap (λ (o : Machine). o.rows) view

  pub handed_named : IsWhole p → MatchOption o (all_waiting p.objects p.marks ≡ []) (λ act. all_waiting p.objects p.marks ≡ act ∷ all_waiting p.objects marks) → IfSome o (IsAct (rows_of (record p { marks = marks })))
  handed_named w h =
      if_some o (λ act is. subst (λ acts. IsAct (with_log p acts) act) (sym log) is)
      (named_first (rows_of p) (all_waiting p.objects p.marks) (all_waiting p.objects marks) o (all_there p w) h)

  pub handed_out : (seen : Machine) → machine_of p ≡ seen → MatchOption o (all_waiting p.objects p.marks ≡ []) (λ act. all_waiting p.objects p.marks ≡ act ∷ all_waiting p.objects marks) → MatchOption o (seen.waiting ≡ []) (λ act. seen.waiting ≡ act ∷ all_waiting p.objects marks)
  handed_out seen view h =
      subst (λ (m : Machine). MatchOption o (m.waiting ≡ []) (λ act. m.waiting ≡ act ∷ all_waiting p.objects marks)) view h
