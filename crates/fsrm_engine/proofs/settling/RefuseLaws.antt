-- What is left when a quota refuses: nothing if no act is due, and else the acts.
use Rattle.std.proofs.Common.{◌≡◌, ℕ, ◌==◌, ◌≤◌, Bool, true, false, ◌&&◌, List, [], ◌∷◌, length, Option, Some, None, is_some, refl, ap, sym, ◌∙◌, subst}
use Rattle.std.proofs.lemmas.List.{append-nil}
use Rattle.std.specs.Prelude.{option_map}
use Rattle.std.specs.List.{AllByRecursion, cons_option}
use Rattle.fsrm_base.specs.Keyed.{has_row, row_of}
use Rattle.fsrm_base.proofs.Look.{found_has}
use Rattle.fsrm_base.proofs.RowLaws.{all_filter, each_found, find_has}
use Rattle.fsrm_base.proofs.TestLaws.{both, clash, suc_apart}
use Rattle.fsrm_model.specs.declared.command.Act.{Act}
use Rattle.fsrm_model.specs.declared.command.Answer.{Answer}
use Rattle.fsrm_model.specs.declared.command.Outcome.TheVariants.{Refused}
use Rattle.fsrm_model.specs.declared.command.Subject.{Subject}
use Rattle.fsrm_model.specs.declared.row.ActRow.{ActRow}
use Rattle.fsrm_model.specs.declared.row.QuotaRow.{QuotaRow}
use Rattle.fsrm_model.specs.objects.Acts.{has_act}
use Rattle.fsrm_model.specs.values.Limits.{most_entries}
use Rattle.fsrm_model.specs.objects.Quota.{folder_of, deepest}
use Rattle.fsrm_model.specs.objects.Runs.{last_entries}
use Rattle.fsrm_model.proofs.thresholds.RunLaws.{short_log}
use Rattle.fsrm_objects.specs.Tables.{Tables}
use Rattle.quota_usage.specs.declared.change.Change.{Change}
use Rattle.quota_usage.specs.declared.change.Exceeded.{Exceeded}
use Rattle.quota_usage.specs.Charge.{exceeded_by, over_by, refuses_change, told_of}
use Rattle.rescan.specs.Courses.{Scanning}
use Rattle.thresholds.specs.Marked.{Marked, act_at, are_there, waiting}
use Rattle.thresholds.proofs.RunLaws.{quotas_none}
use Rattle.fsrm_engine.specs.declared.parts.Parts.{Parts}
use Rattle.fsrm_engine.specs.Due.{LeavesActs, Refuses, refused_acts}
use Rattle.fsrm_parts.specs.Faults.{exceeded_refusal, refused_answer}
use Rattle.fsrm_engine.specs.Machine.{AreCounted, IsIdle, IsSound, Ran, ended}
use Rattle.fsrm_engine.proofs.settling.MarkLaws.{calm_of, ran_marked}
use Rattle.fsrm_engine.proofs.settling.OrderedActs.{has_first}
use Rattle.fsrm_engine.proofs.tables.RanLaws.{sound_run}

-- ---- acts ran exactly if some are marked
no_numbers_left : (numbers : List ℕ) → (length numbers == 0) ≡ true → numbers ≡ []
no_numbers_left [] h = refl
no_numbers_left (n ∷ numbers) h = absurd (clash (length (n ∷ numbers) == 0) h (suc_apart (length numbers)))

-- no action of a screen is marked, so that this tells of those of quotas
pub numbers_tell : (p run : Parts) (m : ℕ) (acts : List Act) (none : Bool) → IsIdle p → Ran p run m acts → none ≡ ((length run.marks.numbers == 0) && (length run.marks.places == 0)) → (length run.marks.numbers == 0) ≡ none
numbers_tell p run m acts none idle r h =
    sym (h ∙ (ap (λ (ns : List ℕ). (length run.marks.numbers == 0) && (length ns == 0)) (r.settles.places ∙ idle.places) ∙ and_true (length run.marks.numbers == 0)))
  where
    and_true : (b : Bool) → (b && true) ≡ b
    and_true true = refl
    and_true false = refl

pub none_ran : (p run : Parts) (m : ℕ) (acts : List Act) → IsIdle p → Ran p run m acts → (length run.marks.numbers == 0) ≡ true → acts ≡ []
none_ran p run m acts idle r h = at acts (λ subject place. sym (ran_marked p run m acts (calm_of p idle) r subject place) ∙ ap (λ ns. has_act (waiting run.objects.quotas ns) subject place) (no_numbers_left run.marks.numbers h))
  where
    at : (acts : List Act) → ((subject : Subject) (place : ℕ) → has_act acts subject place ≡ false) → acts ≡ []
    at [] none = refl
    at (act ∷ acts) none = absurd (clash (has_act (act ∷ acts) act.subject act.place) (has_first act acts) (none act.subject act.place))

pub some_ran : (p run : Parts) (m : ℕ) (acts : List Act) → IsIdle p → Ran p run m acts → (length run.marks.numbers == 0) ≡ false → acts ≡ [] → ⊥
some_ran p run m acts idle r h none = at run.marks.numbers h r.settles.there (λ subject place. ran_marked p run m acts (calm_of p idle) r subject place ∙ ap (λ acts. has_act acts subject place) none)
  where
    at : (numbers : List ℕ) → (length numbers == 0) ≡ false → are_there run.objects.quotas numbers ≡ true → ((subject : Subject) (place : ℕ) → has_act (waiting run.objects.quotas numbers) subject place ≡ false) → ⊥
    at [] h there none = clash (length {A = ℕ} [] == 0) refl h
    at (n ∷ numbers) h there none = by (act_at run.objects.quotas n) (both (is_some (act_at run.objects.quotas n)) (are_there run.objects.quotas numbers) there).0 none
      where
        by : (o : Option Act) → is_some o ≡ true → ((subject : Subject) (place : ℕ) → has_act (cons_option o (waiting run.objects.quotas numbers)) subject place ≡ false) → ⊥
        by None t none = clash false t refl
        by (Some act) t none = clash (has_act (act ∷ waiting run.objects.quotas numbers) act.subject act.place) (has_first act (waiting run.objects.quotas numbers)) (none act.subject act.place)

-- if none ran the parts are acts before
still : (p run : Parts) (m : ℕ) → IsIdle p → length p.marks.log ≤ most_entries → Ran p run m [] → (length run.marks.numbers == 0) ≡ true → run ≡ p
still p run m idle few r h =
    let objects : run.objects ≡ p.objects = r.settles.tables ∙ ap (λ (qs : List QuotaRow). record p.objects { quotas = qs }) (quotas_none m p.objects.quotas) in
    let log : run.marks.log ≡ p.marks.log = r.settles.log ∙ (ap last_entries (append-nil p.marks.log) ∙ short_log p.marks.log few) in
    let numbers : run.marks.numbers ≡ p.marks.numbers = no_numbers_left run.marks.numbers h ∙ sym idle.numbers in
    let marks : run.marks ≡ p.marks =
    ap (λ ns. record run.marks { numbers = ns }) numbers
    ∙ (ap (λ (acts : List ActRow). record run.marks { numbers = p.marks.numbers; log = acts }) log
    ∙ (ap (λ n. record p.marks { folder = n; places = run.marks.places }) r.settles.folder
    ∙ ap (λ ns. record p.marks { places = ns }) r.settles.places)) in
    r.parts_are
    ∙ (ap (λ (t : Tables). record p { objects = t; marks = run.marks }) objects
    ∙ ap (λ (k : Marked). record p { marks = k }) marks)

pub leaves_none : (p run : Parts) (m : ℕ) (exceeded : Exceeded) (acts : List Act) (answer : Answer) → IsIdle p → length p.marks.log ≤ most_entries → Ran p run m acts → (length run.marks.numbers == 0) ≡ true → answer ≡ refused_answer (exceeded_refusal exceeded) → LeavesActs acts p run run m exceeded answer
leaves_none p run m exceeded acts answer idle few r h e =
    let none = none_ran p run m acts idle r h in
    subst (λ acts. LeavesActs acts p run run m exceeded answer) (sym none) (still p run m idle few (subst (Ran p run m) none r) h, e)

pub leaves_some : (p run new : Parts) (m : ℕ) (exceeded : Exceeded) (acts : List Act) (answer : Answer) → (acts ≡ [] → ⊥) → new ≡ ended run m → answer ≡ record { outcome = Refused (exceeded_refusal exceeded); lasting = true } → LeavesActs acts p run new m exceeded answer
leaves_some p run new m exceeded [] answer some ends e = absurd (some refl)
leaves_some p run new m exceeded (act ∷ acts) answer some ends e = (ends, e)

-- the parts are sound after it
pub refused_sound : (p new : Parts) (m : ℕ) (exceeded : Exceeded) (answer : Answer) → Refuses p new m exceeded answer → AreCounted new → Scanning p.tree p.scans → IsSound new
refused_sound p new m exceeded answer r counted scanning = at (refused_acts p exceeded m) r.ran r.leaves
  where
    at : (acts : List Act) → Ran p r.run m acts → LeavesActs acts p r.run new m exceeded answer → IsSound new
    at [] run leaves = record { counted = counted; scanning = subst (λ (q : Parts). Scanning q.tree q.scans) (sym leaves.0) scanning }
    at (act ∷ acts) run leaves = sound_run p r.run new m (act ∷ acts) run leaves.0 counted scanning

-- ---- the quota that refuses
pub refuser_there : (p : Parts) (change : Change) (exceeded : Exceeded) → AreCounted p → exceeded_by p.tree.nodes p.objects.quotas p.usage change ≡ Some exceeded → has_row folder_of exceeded.folder p.objects.quotas ≡ true
refuser_there p change exceeded e h = at (deepest p.tree.nodes over) refl h
  where
    over : List QuotaRow
    over = over_by p.tree.nodes p.objects.quotas p.usage change

    Own : QuotaRow → Type 0
    Own q = row_of folder_of (folder_of q) p.objects.quotas ≡ Some q

    own : AllByRecursion Own over
    own =
        all_filter (refuses_change p.tree.nodes p.usage change) Own p.objects.quotas
        (each_found folder_of (λ q. refuses_change p.tree.nodes p.usage change q ≡ true → Own q) p.objects.quotas e.are_quotas.ascending (λ q found is. found))

    at : (o : Option QuotaRow) → deepest p.tree.nodes over ≡ o → option_map (told_of p.tree.nodes p.usage change) o ≡ Some exceeded → has_row folder_of exceeded.folder p.objects.quotas ≡ true
    at None d h = absurd (cc h)
    at (Some q) d h =
        let same : q.folder ≡ exceeded.folder = ap folder_told h in
        subst (λ folder. has_row folder_of folder p.objects.quotas ≡ true) same (found_has folder_of q.folder p.objects.quotas q (find_has _ Own over q own d))
      where
        folder_told : Option Exceeded → ℕ
        folder_told None = 0
        folder_told (Some told) = told.folder
