-- The lines of the log of actions, and of acts.
use Rattle.std.proofs.Common.{◌≡◌, ℕ, zero, suc, ◌≤◌, List, [], ◌∷◌, ◌++◌, length, refl, sym, ap, ◌∙◌, subst, append_assoc}
use Rattle.std.specs.Prelude.{◌==◌, nat_le, Bool, true, false, decimal, codes, flat_map, Option, Some, None, slice_get, if◌then◌else◌}
use Rattle.std.specs.List.{list_all}
use Rattle.std.specs.Option.{option_map_or}
use Rattle.fsrm_base.specs.Keyed.{has_row}
use Rattle.fsrm_base.proofs.Look.{found_key}
use Rattle.fsrm_base.proofs.TestLaws.{both, le_is}
use Rattle.fsrm_model.specs.declared.command.Act.{Act}
use Rattle.fsrm_model.specs.declared.command.Ask.TheVariants.{Acts}
use Rattle.fsrm_model.specs.declared.command.Subject.{Subject}
use Rattle.fsrm_model.specs.declared.command.Subject.TheVariants.{Quota, Screen}
use Rattle.fsrm_model.specs.declared.row.ActRow.{ActRow}
use Rattle.fsrm_model.specs.declared.row.Action.{Action}
use Rattle.fsrm_model.specs.declared.row.Capacity.{Capacity}
use Rattle.fsrm_model.specs.declared.row.QuotaRow.{QuotaRow}
use Rattle.fsrm_model.specs.declared.row.Rows.{Rows}
use Rattle.fsrm_model.specs.declared.row.ScreenRow.{ScreenRow}
use Rattle.fsrm_model.specs.texts.ActText.{act_line, entry_line, entry_words, subject_words, text_of}
use Rattle.fsrm_model.specs.texts.ActionWords.{kind_word}
use Rattle.fsrm_model.specs.objects.Acts.{IsAct, actions_of, folder_in}
use Rattle.fsrm_model.specs.values.Limits.{latest_moment, most_entries}
use Rattle.fsrm_model.specs.texts.Printed.{body_line, path_text}
use Rattle.fsrm_model.specs.objects.Quota.{quota_of}
use Rattle.fsrm_model.specs.objects.Screens.{screen_folder, screen_of}
use Rattle.fsrm_model.specs.texts.Text.{list_lines}
use Rattle.fsrm_model.specs.objects.Thresholds.{actions_at}
use Rattle.fsrm_model.specs.nodes.Tree.{number}
use Rattle.fsrm_model.specs.store.Valid.{IsValid, are_entries, is_moment}
use Rattle.fsrm_model.proofs.valid.ScreensKept.{screen_at}
use Rattle.line_parts.specs.Moments.{moment_text}
use Rattle.reply_text.specs.Lines.{act_text, entry_text, subject_text}
use Rattle.reply_text.proofs.Nodes.{is_node}

-- ---- entries of the log
abbrev dated_line : List ℕ → List (List ℕ) → List ℕ → List ℕ
dated_line moment words kind = body_line (moment ∷ words ++ kind ∷ [])

-- its words, as they are sent
sent_words : (moment folder percent : ℕ) (kind : List ℕ) (b : Bool) → 32 ∷ 32 ∷ (moment_text moment ++ ((if b then codes " screen " ++ decimal folder else codes " quota " ++ (decimal folder ++ 32 ∷ decimal percent)) ++ 32 ∷ (kind ++ 10 ∷ [])))
    ≡ dated_line (moment_text moment) (if b then codes "screen" ∷ decimal folder ∷ [] else codes "quota" ∷ decimal folder ∷ decimal percent ∷ []) kind
sent_words moment folder percent kind true =
    ap (λ (xs : List ℕ). 32 ∷ 32 ∷ (moment_text moment ++ (codes " screen " ++ xs))) (append_assoc [] (decimal folder) (32 ∷ (kind ++ 10 ∷ [])))
sent_words moment folder percent kind false =
    ap (λ (xs : List ℕ). 32 ∷ 32 ∷ (moment_text moment ++ (codes " quota " ++ xs))) (append_assoc (decimal folder) (32 ∷ decimal percent) (32 ∷ (kind ++ 10 ∷ [])))

entry_same : (entry : ActRow) → dated_line (moment_text entry.moment) (entry_words entry) (kind_word entry.kind) ≡ entry_text entry
unfolding moment_text entry_text
entry_same entry = refl

-- texts that are joined before another one
four_texts : (a b c d tail : List ℕ) → a ++ (b ++ (c ++ (d ++ tail))) ≡ (a ++ (b ++ (c ++ d))) ++ tail
four_texts a b c d tail = simp append_assoc

pub entry_shown : (entry : ActRow) (moment subject space percent kind : List ℕ) (folder : ℕ) → moment ≡ moment_text entry.moment → ((folder : ℕ) → subject ++ (decimal folder ++ (space ++ percent)) ≡ subject_text entry.percent folder) → folder ≡ entry.folder → kind ≡ kind_word entry.kind
    → 32 ∷ 32 ∷ (moment ++ (subject ++ (decimal folder ++ (space ++ (percent ++ 32 ∷ (kind ++ 10 ∷ [])))))) ≡ entry_text entry
entry_shown entry moment subject space percent kind folder moments subjects folders kinds =
    let tail : List ℕ = 32 ∷ (kind ++ 10 ∷ []) in
    ap (λ (xs : List ℕ). 32 ∷ 32 ∷ (xs ++ (subject ++ (decimal folder ++ (space ++ (percent ++ tail)))))) moments
    ∙ ap (λ (xs : List ℕ). 32 ∷ 32 ∷ (moment_text entry.moment ++ xs)) (four_texts subject (decimal folder) space percent tail ∙ ap (λ (xs : List ℕ). xs ++ tail) (subjects folder ∙ ap (subject_text entry.percent) folders))
    ∙ sent_words entry.moment entry.folder entry.percent kind (entry.percent == 0)
    ∙ ap (dated_line (moment_text entry.moment) (entry_words entry)) kinds
    ∙ entry_same entry

-- each has a moment
pub all_at : {X : Type 0} (p : X → Bool) (xs : List X) (k : ℕ) (x : X) → list_all p xs ≡ true → slice_get xs k ≡ Some x → p x ≡ true
all_at p [] k x all h = absurd (cc h)
all_at p (y ∷ ys) zero x all h = let same : y ≡ x = cc h in ap p (sym same) ∙ (both (p y) (list_all p ys) all).0
all_at p (y ∷ ys) (suc k) x all h = all_at p ys k x (both (p y) (list_all p ys) all).1 h

pub entry_in_time : (log : List ActRow) (k : ℕ) (entry : ActRow) → are_entries log ≡ true → slice_get log k ≡ Some entry → entry.moment ≤ latest_moment
entry_in_time log k entry store h =
    let all = (both (nat_le (length log) most_entries) (list_all (λ entry. is_moment entry.moment) log) store).1 in
    le_is entry.moment latest_moment (all_at (λ entry. is_moment entry.moment) log k entry all h)

pub all_entries : (K : Capacity) (R : Rows) (log : List ActRow) → log ≡ R.acts → flat_map entry_text log ≡ list_lines K R Acts
unfolding entry_text
all_entries K R log same = ap (flat_map entry_line) same

-- ---- acts
abbrev subject_line : Subject → List ℕ → List ℕ → List ℕ → List ℕ
subject_line subject kind path text = body_line (codes "act" ∷ subject_words subject ++ kind ∷ (path ++ codes "|" ++ text) ∷ [])

-- a path, a bar and a text
barred : (path text : List ℕ) → path ++ 124 ∷ (text ++ 10 ∷ []) ≡ (path ++ codes "|" ++ text) ++ 10 ∷ []
barred path text = sym (append_assoc (path ++ codes "|") text (10 ∷ []) ∙ append_assoc path (codes "|") (text ++ 10 ∷ []))

whole : (act : Act) (subject : Subject) (kind path text p t : List ℕ) → act.subject ≡ subject → kind ≡ kind_word act.kind → p ≡ path → t ≡ text → subject_line subject kind p t ≡ act_text act path text
whole act subject kind path text p t is kinds paths texts =
    ap (λ k. subject_line subject k p t) kinds
    ∙ ap (λ x. subject_line subject (kind_word act.kind) x t) paths
    ∙ ap (λ x. subject_line subject (kind_word act.kind) path x) texts
    ∙ ap (λ s. subject_line s (kind_word act.kind) path text) (sym is)

pub quota_act : (act : Act) (folder percent shown : ℕ) (kind path text p t : List ℕ) → act.subject ≡ Quota folder percent → shown ≡ percent → kind ≡ kind_word act.kind → p ≡ path → t ≡ text
    → 32 ∷ 32 ∷ (codes "act quota " ++ (decimal shown ++ 32 ∷ (kind ++ 32 ∷ (p ++ 124 ∷ (t ++ 10 ∷ []))))) ≡ act_text act path text
quota_act act folder percent shown kind path text p t is percents kinds paths texts =
    ap (λ (tail : List ℕ). 32 ∷ 32 ∷ (codes "act quota " ++ (decimal shown ++ 32 ∷ (kind ++ 32 ∷ tail)))) (barred p t)
    ∙ ap (λ n. subject_line (Quota folder n) kind p t) percents
    ∙ whole act (Quota folder percent) kind path text p t is kinds paths texts

pub screen_act : (act : Act) (folder : ℕ) (kind path text p t : List ℕ) → act.subject ≡ Screen folder → kind ≡ kind_word act.kind → p ≡ path → t ≡ text
    → 32 ∷ 32 ∷ (codes "act screen " ++ (kind ++ 32 ∷ (p ++ 124 ∷ (t ++ 10 ∷ [])))) ≡ act_text act path text
screen_act act folder kind path text p t is kinds paths texts =
    ap (λ (tail : List ℕ). 32 ∷ 32 ∷ (codes "act screen " ++ (kind ++ 32 ∷ tail))) (barred p t)
    ∙ whole act (Screen folder) kind path text p t is kinds paths texts

pub act_same : (R : Rows) (act : Act) (path text : List ℕ) → path ≡ path_text R.nodes (folder_in act.subject) → text ≡ text_of R act → act_text act path text ≡ act_line R act
act_same R act path text paths texts =
    ap (λ x. act_text act x text) paths ∙ ap (act_text act (path_text R.nodes (folder_in act.subject))) texts

-- the folder of an act whose action is there
none_at : {X : Type 0} (k : ℕ) (x : X) → slice_get [] k ≡ Some x → ⊥
none_at k x h = cc h

quota_is_on : (K : Capacity) (R : Rows) (folder percent place : ℕ) (action : Action) → IsValid K R → slice_get (actions_of R (Quota folder percent)) place ≡ Some action → has_row number folder R.nodes ≡ true
quota_is_on K R folder percent place action store h = at (quota_of R folder) refl h
  where
    at : (found : Option QuotaRow) → quota_of R folder ≡ found → slice_get (option_map_or (λ quota. actions_at quota.thresholds percent) found []) place ≡ Some action → has_row number folder R.nodes ≡ true
    at None e h = absurd (none_at place action h)
    at (Some quota) e h = is_node R.nodes folder (store.quotas.folders folder quota e)

screen_is_on : (K : Capacity) (R : Rows) (folder place : ℕ) (action : Action) → IsValid K R → slice_get (actions_of R (Screen folder)) place ≡ Some action → has_row number folder R.nodes ≡ true
screen_is_on K R folder place action store h = at (screen_of R folder) refl h
  where
    at : (found : Option ScreenRow) → screen_of R folder ≡ found → slice_get (option_map_or (λ screen. screen.actions) found []) place ≡ Some action → has_row number folder R.nodes ≡ true
    at None e h = absurd (none_at place action h)
    at (Some screen) e h =
        subst (λ n. has_row number n R.nodes ≡ true) (found_key screen_folder folder R.screens screen e)
        (is_node R.nodes screen.folder (screen_at R.nodes R.groups R.excepts R.screens folder screen store.tables.screens e).folder)

pub act_node : (K : Capacity) (R : Rows) (act : Act) → IsValid K R → IsAct R act → has_row number (folder_in act.subject) R.nodes ≡ true
act_node K R act store is = at act.subject is.there
  where
    at : (subject : Subject) → slice_get (actions_of R subject) act.place ≡ Some is.action → has_row number (folder_in subject) R.nodes ≡ true
    at (Quota folder percent) h = quota_is_on K R folder percent act.place is.action store h
    at (Screen folder) h = screen_is_on K R folder act.place is.action store h
