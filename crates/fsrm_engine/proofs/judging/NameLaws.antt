-- The name that a file operation gives a file, and what screens refuse.
use Rattle.std.proofs.Common.{◌≡◌, ℕ, ◌≤◌, Bool, true, false, cond, not, List, Option, Some, None, refl, ap, sym, ◌∙◌}
use Rattle.std.specs.Prelude.{option_map, if◌then◌else◌}
use Rattle.std.specs.Option.{option_map_or}
use Rattle.fsrm_model.specs.declared.command.Answer.{Answer}
use Rattle.fsrm_model.specs.declared.command.Deed.TheVariants.{File}
use Rattle.fsrm_model.specs.declared.command.FileOp.{FileOp}
use Rattle.fsrm_model.specs.declared.command.FileOp.TheVariants.{Create, Move}
use Rattle.fsrm_model.specs.declared.command.Outcome.TheVariants.{Done}
use Rattle.fsrm_model.specs.declared.command.Refusal.{Refusal}
use Rattle.fsrm_model.specs.declared.command.Refusal.TheVariants.{ScreenBlocked}
use Rattle.fsrm_model.specs.declared.row.Rows.{Rows}
use Rattle.fsrm_model.specs.declared.row.ScreenRow.{ScreenRow}
use Rattle.fsrm_model.specs.nodes.FileOps.{target, target_folder}
use Rattle.fsrm_model.specs.commands.FileWork.{blocked, judged_by, judged_name, reported}
use Rattle.fsrm_model.specs.objects.Screens.{judging}
use Rattle.fsrm_model.specs.nodes.Tree.{folder_part, last_name, owner_of, is_folder, resolve}
use Rattle.fsrm_model.specs.commands.Work.{Judged}
use Rattle.rescan.specs.Courses.{Scanning}
use Rattle.file_screens.specs.declared.answer.Blocked.{Blocked}
use Rattle.file_screens.specs.Blocked.{told}
use Rattle.file_screens.specs.Way.{is_active}
use Rattle.fsrm_engine.specs.declared.parts.Parts.{Parts}
use Rattle.fsrm_engine.specs.Machine.{AreCounted, Does, IsIdle, IsSound, rows_of}
use Rattle.fsrm_parts.specs.Places.{IsPlace}
use Rattle.fsrm_engine.specs.Reporting.{name_under, screen_told}
use Rattle.fsrm_engine.specs.Screening.{Blocks, judged_screen}
use Rattle.fsrm_engine.proofs.judging.BlockLaws.{blocked_sound, blocked_with}
use Rattle.fsrm_engine.proofs.judging.JudgedLaws.{told_is, told_of, told_one, told_there}
use Rattle.fsrm_parts.proofs.walks.PlaceLaws.{target_is}
use Rattle.fsrm_engine.proofs.steps.StepLaws.{asked, due}

-- ---- whose name is judged
-- the name at a place is the last one of its path
at_place : (R : Rows) (owner : ℕ) (path : List (List ℕ)) (d : ℕ) (name : List ℕ) → IsPlace R.nodes path d name → judged_by R owner (target_folder R.nodes path) (last_name path) ≡ judged_by R owner d name
at_place R owner path d name at =
    ap (λ f. judged_by R owner f (last_name path)) (target_is R.nodes (folder_part path) d at.resolved) ∙ ap (judged_by R owner d) at.name_is

-- that of a new file
pub created_name : (R : Rows) (path : List (List ℕ)) (bytes owner d : ℕ) (name : List ℕ) → IsPlace R.nodes path d name → judged_name R (Create path bytes owner) ≡ judged_by R owner d name
created_name R path bytes owner d name at = at_place R owner path d name at

-- that of a file that moves, and of a folder none
moved_by : (R : Rows) (from to : List (List ℕ)) (n : ℕ) (b : Bool) → resolve R.nodes from ≡ Some n → is_folder R.nodes n ≡ b → judged_name R (Move from to) ≡ (if not b then judged_by R (owner_of R.nodes (target R.nodes from)) (target_folder R.nodes to) (last_name to) else None)
moved_by R from to n b at kind =
    ap (λ o. if option_map_or (λ k. not (is_folder R.nodes k)) o false then judged_by R (owner_of R.nodes (target R.nodes from)) (target_folder R.nodes to) (last_name to) else None) at
    ∙ ap (λ b. if not b then judged_by R (owner_of R.nodes (target R.nodes from)) (target_folder R.nodes to) (last_name to) else None) kind

pub moved_folder : (R : Rows) (from to : List (List ℕ)) (n : ℕ) → resolve R.nodes from ≡ Some n → is_folder R.nodes n ≡ true → judged_name R (Move from to) ≡ None
moved_folder R from to n at kind = moved_by R from to n true at kind

pub moved_file : (R : Rows) (from to : List (List ℕ)) (n d : ℕ) (name : List ℕ) (owner : ℕ) → resolve R.nodes from ≡ Some n → is_folder R.nodes n ≡ false → owner_of R.nodes n ≡ owner → IsPlace R.nodes to d name → judged_name R (Move from to) ≡ judged_by R owner d name
moved_file R from to n d name owner at kind owned place =
    moved_by R from to n false at kind
    ∙ (ap (λ k. judged_by R (owner_of R.nodes k) (target_folder R.nodes to) (last_name to)) (target_is R.nodes from n at)
    ∙ (ap (λ o. judged_by R o (target_folder R.nodes to) (last_name to)) owned
    ∙ at_place R owner to d name place))

-- a name of an operation, and what is told of the screen that judges it
pub record IsJudged (p : Parts) (op : FileOp) (judged : Option Blocked) (owner d : ℕ) (name : List ℕ) : Type 0 where
  pub named : judged_name (rows_of p) op ≡ name_under (screen_told p judged) owner d name
  pub there : option_map told (screen_told p judged) ≡ judged

pub created_judged : (p : Parts) (path : List (List ℕ)) (bytes owner d : ℕ) (name : List ℕ) (judged : Option Blocked) → IsPlace p.tree.nodes path d name → judged ≡ option_map told (judging (rows_of p) d name) → IsJudged p (Create path bytes owner) judged owner d name
created_judged p path bytes owner d name judged at h =
    record { named = created_name (rows_of p) path bytes owner d name at ∙ ap (λ o. name_under o owner d name) (sym (told_is p d name judged h)); there = told_there p d name judged h }

pub moved_judged : (p : Parts) (from to : List (List ℕ)) (n d : ℕ) (name : List ℕ) (moves_folder : Bool) (owner : ℕ) (judged : Option Blocked) → resolve p.tree.nodes from ≡ Some n → is_folder p.tree.nodes n ≡ moves_folder → owner_of p.tree.nodes n ≡ owner → IsPlace p.tree.nodes to d name → judged ≡ (if moves_folder then None else option_map told (judging (rows_of p) d name)) → IsJudged p (Move from to) judged owner d name
moved_judged p from to n d name true owner judged at kind owned place h =
    record {
      named = moved_folder (rows_of p) from to n at kind ∙ ap (λ o. name_under (screen_told p o) owner d name) (sym h);
      there = ap (λ o. option_map told (screen_told p o)) h ∙ sym h;
    }
moved_judged p from to n d name false owner judged at kind owned place h =
    record {
      named = moved_file (rows_of p) from to n d name owner at kind owned place ∙ ap (λ o. name_under o owner d name) (sym (told_is p d name judged h));
      there = told_there p d name judged h;
    }

-- ---- what is told of the screen
-- a screen that isn't active blocks nothing
told_passive : (screen : Option ScreenRow) (owner d : ℕ) (name : List ℕ) → is_active (option_map told screen) ≡ false → blocked (name_under screen owner d name) ≡ None
told_passive None owner d name h = refl
told_passive (Some screen) owner d name h = ap (λ b. cond b (Some (ScreenBlocked screen.folder)) None) h

pub unblocked : (p : Parts) (op : FileOp) (judged : Option Blocked) (owner d : ℕ) (name : List ℕ) → IsJudged p op judged owner d name → is_active judged ≡ false → blocked (judged_name (rows_of p) op) ≡ None
unblocked p op judged owner d name j passive = ap blocked j.named ∙ told_passive (screen_told p judged) owner d name (ap is_active j.there ∙ passive)

-- it is told of in the answer
reported_under : (screen : Option ScreenRow) (owner d : ℕ) (name : List ℕ) → option_map (λ (j : Blocked). j.screen) (option_map told screen) ≡ reported (name_under screen owner d name)
reported_under None owner d name = refl
reported_under (Some screen) owner d name = refl

pub reports_it : (screen : Option ScreenRow) (owner d : ℕ) (name : List ℕ) (judged : Option Blocked) → option_map told screen ≡ judged → option_map (λ (j : Blocked). j.screen) judged ≡ reported (name_under screen owner d name)
reports_it screen owner d name judged there = ap (option_map (λ (j : Blocked). j.screen)) (sym there) ∙ reported_under screen owner d name

-- the answer to an operation that is done
pub answers_it : (p : Parts) (m : ℕ) (op : FileOp) (answer : Answer) (judged : Option Blocked) (owner d : ℕ) (name : List ℕ) → IsJudged p op judged owner d name → answer ≡ record { outcome = Done (option_map (λ (j : Blocked). j.screen) judged); lasting = true } → answer ≡ record { outcome = (asked p m (File op)).outcome; lasting = true }
answers_it p m op answer judged owner d name j e =
    e
    ∙ (ap (λ o. record { outcome = Done o; lasting = true }) (reports_it (screen_told p judged) owner d name judged j.there)
    ∙ ap (λ o. record { outcome = Done (reported o); lasting = true }) (sym j.named))

-- an operation whose name an active screen blocks
pub blocked_op : (p new : Parts) (m : ℕ) (op : FileOp) (answer : Answer) (judged : Option Blocked) (j : Blocked) (owner d : ℕ) (name : List ℕ) → IsIdle p → p.last_moment ≤ m → ((refusal : Refusal) → blocked (judged_name (rows_of p) op) ≡ Some refusal → due p m (File op) ≡ Some refusal) → IsJudged p op judged owner d name → judged ≡ Some j → j.active ≡ true →
    ((screen : ScreenRow) → judged_screen p j ≡ Some screen → Blocks p new (record { screen = screen; owner = owner; folder = d; name = name }) m answer) → Does p new m (File op) answer
blocked_op p new m op answer judged j owner d name idle after due_is k one active blocks =
    let t = told_of p j (told_one p judged j k.there one) in
    let name_is : Judged = record { screen = t.screen; owner = owner; folder = d; name = name } in
    let is : judged_name (rows_of p) op ≡ Some name_is = k.named ∙ (ap (λ o. name_under (screen_told p o) owner d name) one ∙ ap (λ o. name_under o owner d name) t.found) in
    let on : t.screen.active ≡ true = ap (λ (j : Blocked). j.active) t.told_is ∙ active in
    blocked_with p new m (File op) answer name_is idle after
    (due_is (ScreenBlocked t.screen.folder) (ap blocked is ∙ ap (λ b. cond b (Some (ScreenBlocked t.screen.folder)) None) on)) is (blocks t.screen t.found)

-- the parts are sound after it
pub block_sound : (p new : Parts) (m : ℕ) (op : FileOp) (answer : Answer) (judged : Option Blocked) (j : Blocked) (owner d : ℕ) (name : List ℕ) → IsJudged p op judged owner d name → judged ≡ Some j → ((screen : ScreenRow) → judged_screen p j ≡ Some screen → Blocks p new (record { screen = screen; owner = owner; folder = d; name = name }) m answer) → AreCounted new → Scanning p.tree p.scans → IsSound new
block_sound p new m op answer judged j owner d name k one blocks counted scanning =
    let t = told_of p j (told_one p judged j k.there one) in
    blocked_sound p new m (record { screen = t.screen; owner = owner; folder = d; name = name }) answer (blocks t.screen t.found) counted scanning
