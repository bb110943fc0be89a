-- What the tables refuse of a row, as the refusals of a command.
use Rattle.std.proofs.Common.{◌≡◌, ℕ, suc, ◌+◌, ◌-◌, ◌≤◌, ◌==◌, Bool, true, false, not, ◌&&◌, List, [], ◌∷◌, Option, Some, length, nat_lt, nat_le, refl, ap, sym, ◌∙◌, arith}
use Rattle.std.proofs.lemmas.Bool.Decides.{nat_tests}
use Rattle.std.specs.Prelude.{is_some, is_none, Result, Ok, Err, IfOk}
use Rattle.std.specs.List.{list_all}
use Rattle.std.specs.Option.{option_and_then, option_map_or}
use Rattle.fsrm_base.specs.declared.memory.NoMemory.{NoMemory as Wanting}
use Rattle.fsrm_base.specs.Causes.{◌when◌, first}
use Rattle.fsrm_base.specs.Keyed.{has_row, is_ascending, with_row, with_change}
use Rattle.fsrm_base.proofs.EditedRows.{sum_by-with_row, sum_by-with_change}
use Rattle.fsrm_base.proofs.Look.{is_some-find}
use Rattle.fsrm_base.proofs.Order.{length-with_row}
use Rattle.fsrm_base.proofs.TestLaws.{both, both_true}
use Rattle.fsrm_model.specs.declared.command.Answer.{Answer}
use Rattle.fsrm_model.specs.declared.command.Deed.{Deed}
use Rattle.fsrm_model.specs.declared.command.Deed.TheVariants.{Quota}
use Rattle.fsrm_model.specs.declared.command.QuotaChange.{QuotaChange}
use Rattle.fsrm_model.specs.declared.command.QuotaDeed.TheVariants.{Modify as QuotaModify}
use Rattle.fsrm_model.specs.declared.command.Refusal.{Refusal}
use Rattle.fsrm_model.specs.declared.command.Refusal.TheVariants as refusal
use Rattle.fsrm_model.specs.declared.row.Action.{Action}
use Rattle.fsrm_model.specs.declared.row.QuotaRow.{QuotaRow}
use Rattle.fsrm_model.specs.declared.row.QuotaState.{QuotaState}
use Rattle.fsrm_model.specs.declared.row.Rows.{Rows}
use Rattle.fsrm_model.specs.declared.row.Threshold.{Threshold}
use Rattle.fsrm_model.specs.commands.Check.{Check, table_full, texts_full}
use Rattle.fsrm_model.specs.values.Limits.{most_quotas, most_text_bytes, longest_action_text}
use Rattle.fsrm_model.specs.objects.Quota.{folder_of, quota_of}
use Rattle.fsrm_model.specs.objects.QuotaStates.{in_state, state_after, with_quota, with_state}
use Rattle.fsrm_model.specs.commands.QuotaWork.{changed_by, thresholds_of}
use Rattle.fsrm_model.specs.texts.Text.{is_bare}
use Rattle.fsrm_model.specs.values.Texts.{object_texts, quota_bytes}
use Rattle.fsrm_model.specs.objects.Thresholds.{are_minutes, are_thresholds, are_too_many, changed_thresholds, is_action, is_action_text, is_kept_action, is_percent, is_printing, is_threshold, may_be_removed, percent_of}
use Rattle.fsrm_objects.specs.declared.answer.ObjectFault.{ObjectFault}
use Rattle.fsrm_objects.specs.declared.answer.ObjectFault.TheVariants as object
use Rattle.file_groups.specs.Kept.{group_texts}
use Rattle.templates.specs.Held.{texts_in as template_texts}
use Rattle.fsrm_objects.specs.Tables.{IsFault, is_short, other_fault, job_texts, quota_fault, quota_texts, screen_texts}
use Rattle.fsrm_engine.specs.declared.parts.Parts.{Parts}
use Rattle.fsrm_parts.specs.Faults.{table_answer, table_refusal}
use Rattle.fsrm_engine.specs.Faults.{text_room, texts_of}
use Rattle.fsrm_engine.specs.Machine.{Does, IsIdle, IsWhole, rows_of}
use Rattle.fsrm_parts.specs.Places.{IsQuotaAt}
use Rattle.fsrm_engine.proofs.steps.StepLaws.{due, refused_as, told}
use Rattle.fsrm_parts.proofs.walks.FoundLaws.{checked}
use Rattle.fsrm_engine.proofs.tables.StateLaws.{modified_to}

-- ---- what a legal row is to the tables
short_action : (action : Action) → is_kept_action action ≡ true → is_short action ≡ true
short_action action h =
    let kept = both (is_action action) _ h in
    let text = both (are_minutes action.minutes) (is_action_text action.text) kept.0 in
    (both (nat_le (length action.text) longest_action_text) (list_all is_printing action.text) text.1).0

short_actions : (actions : List Action) → list_all is_kept_action actions ≡ true → list_all is_short actions ≡ true
short_actions [] h = refl
short_actions (action ∷ actions) h =
    let parts = both (is_kept_action action) (list_all is_kept_action actions) h in
    both_true (is_short action) (list_all is_short actions) (short_action action parts.0) (short_actions actions parts.1)

pub short_texts : (thresholds : List Threshold) → list_all is_threshold thresholds ≡ true → list_all (λ threshold. list_all is_short threshold.actions) thresholds ≡ true
short_texts [] h = refl
short_texts (t ∷ thresholds) h =
    let parts = both (is_threshold t) (list_all is_threshold thresholds) h in
    both_true (list_all is_short t.actions) (list_all (λ threshold. list_all is_short threshold.actions) thresholds)
    (short_actions t.actions (both (is_percent t.percent) (list_all is_kept_action t.actions) parts.0).1) (short_texts thresholds parts.1)

pub each_threshold : (thresholds : List Threshold) → are_thresholds thresholds ≡ true → list_all is_threshold thresholds ≡ true
each_threshold thresholds h = (both (is_ascending percent_of thresholds && not (are_too_many thresholds)) (list_all is_threshold thresholds) h).1

pub percents_ascend : (thresholds : List Threshold) → are_thresholds thresholds ≡ true → is_ascending percent_of thresholds ≡ true
percents_ascend thresholds h =
    (both (is_ascending percent_of thresholds) (not (are_too_many thresholds)) (both (is_ascending percent_of thresholds && not (are_too_many thresholds)) (list_all is_threshold thresholds) h).0).0

pub legal_thresholds : (thresholds : List Threshold) → is_ascending percent_of thresholds ≡ true → are_too_many thresholds ≡ false → list_all is_threshold thresholds ≡ true → are_thresholds thresholds ≡ true
legal_thresholds thresholds ascending short each =
    both_true (is_ascending percent_of thresholds && not (are_too_many thresholds)) (list_all is_threshold thresholds)
    (both_true (is_ascending percent_of thresholds) (not (are_too_many thresholds)) ascending (ap not short)) each

-- ---- room for texts
-- all texts but those of quotas
abbrev other_texts : Parts → ℕ
other_texts p = ((screen_texts p.objects.screens + job_texts p.objects.jobs) + group_texts p.groups) + template_texts p.templates

all_texts : (p : Parts) (quotas : List QuotaRow) → object_texts (record (rows_of p) { quotas = quotas }) ≡ quota_texts quotas + other_texts p
all_texts p quotas = omega arith

pub room_test : (most bytes new all : ℕ) → bytes ≤ most → all ≡ new + bytes → nat_lt most all ≡ nat_lt (most - bytes) new
room_test most bytes new all few is = grind (arith, nat_tests)

pub room_other : (most bytes less new all : ℕ) → bytes ≤ most → all + less ≡ bytes + new → nat_lt most all ≡ nat_lt (most - bytes + less) new
room_other most bytes less new all few is = grind (arith, nat_tests)

pub few_texts : (p : Parts) → IsWhole p → texts_of p ≤ most_text_bytes
few_texts p w = omega (arith, w.valid.texts, all_texts p p.objects.quotas)

pub full_test : (most n m : ℕ) → m ≡ suc n → nat_lt most m ≡ nat_le most n
full_test most n m h = grind (arith, nat_tests)

-- ---- a new quota
four : (a b c d : Bool) → first ((refusal.AlreadyExists when a) ∷ (refusal.OutOfRange when b) ∷ (refusal.TableFull when c) ∷ (refusal.TextsFull when d) ∷ []) ≡ option_and_then table_refusal (first ((object.AlreadyExists when a) ∷ (object.OutOfRange when b) ∷ (object.TableFull when c) ∷ (object.TextsFull when d) ∷ []))
four true b c d = refl
four false true c d = refl
four false false true d = refl
four false false false true = refl
four false false false false = refl

abbrev pub new_checks : Rows → QuotaRow → List Check
new_checks R row =
    (refusal.AlreadyExists when is_some (quota_of R row.folder)) ∷ (refusal.OutOfRange when are_too_many row.thresholds)
    ∷ table_full (with_quota R row) ∷ texts_full (with_quota R row) ∷ []

pub new_is : (p : Parts) (row : QuotaRow) → IsWhole p → first (new_checks (rows_of p) row) ≡ option_and_then table_refusal (quota_fault p.objects row (text_room p))
new_is p row w =
    let quotas = p.objects.quotas in
    let test : Bool → Bool → Bool → Option Refusal =
    λ a c d. first ((refusal.AlreadyExists when a) ∷ (refusal.OutOfRange when are_too_many row.thresholds) ∷ (refusal.TableFull when c) ∷ (refusal.TextsFull when d) ∷ []) in
    let taken : is_some (quota_of (rows_of p) row.folder) ≡ has_row folder_of row.folder quotas = is_some-find (λ q. folder_of q == row.folder) quotas in
    let full : nat_lt most_quotas (length (with_row folder_of row quotas)) ≡ nat_le most_quotas (length quotas) =
    full_test most_quotas (length quotas) (length (with_row folder_of row quotas)) (length-with_row folder_of row quotas) in
    let whole : object_texts (with_quota (rows_of p) row) ≡ quota_texts (with_row folder_of row quotas) + other_texts p = with_texts (with_row folder_of row quotas) in
    let sum : quota_texts (with_row folder_of row quotas) ≡ quota_bytes row + quota_texts quotas = sum_by-with_row folder_of quota_bytes row quotas in
    let bytes : nat_lt most_text_bytes (object_texts (with_quota (rows_of p) row)) ≡ nat_lt (text_room p) (quota_bytes row) =
    room_test most_text_bytes (texts_of p) (quota_bytes row) (object_texts (with_quota (rows_of p) row)) (few_texts p w) (omega (arith, whole, sum)) in
    ap (λ a. test a (nat_lt most_quotas (length (with_row folder_of row quotas))) (nat_lt most_text_bytes (object_texts (with_quota (rows_of p) row)))) taken
    ∙ (ap (λ c. test (has_row folder_of row.folder quotas) c (nat_lt most_text_bytes (object_texts (with_quota (rows_of p) row)))) full
    ∙ (ap (test (has_row folder_of row.folder quotas) (nat_le most_quotas (length quotas))) bytes
    ∙ four (has_row folder_of row.folder quotas) (are_too_many row.thresholds) (nat_le most_quotas (length quotas)) (nat_lt (text_room p) (quota_bytes row))))
  where
    with_texts : (qs : List QuotaRow) → object_texts (record (with_quota (rows_of p) row) { quotas = qs }) ≡ quota_texts qs + other_texts p
    with_texts qs = omega arith

-- ---- another one in its place
two : (a b : Bool) → first ((refusal.OutOfRange when a) ∷ (refusal.TextsFull when b) ∷ []) ≡ option_and_then table_refusal (first ((object.OutOfRange when a) ∷ (object.TextsFull when b) ∷ []))
two true b = refl
two false true = refl
two false false = refl

abbrev other_checks : List ℕ → List Threshold → List Threshold → Rows → List Check
other_checks removed thresholds changed after =
    (refusal.NotFound when not (may_be_removed removed thresholds)) ∷ (refusal.OutOfRange when are_too_many changed) ∷ texts_full after ∷ []

module _ (p : Parts) (m : ℕ) (given : QuotaChange) (q : QuotaRow) (at : IsQuotaAt p.tree.nodes p.objects.quotas given.path q) where
  abbrev change : QuotaRow → QuotaRow
  change = changed_by given

  abbrev marked : List Threshold → List Threshold
  marked = changed_thresholds given.removed given.thresholds.percents given.thresholds.notices

  abbrev after : ℕ → Rows
  after k = with_state (record (rows_of p) { quotas = with_change folder_of k change p.objects.quotas }) k (state_after (rows_of p) k given.enabled)

  own : due p m (Quota (QuotaModify given)) ≡ first (other_checks given.removed q.thresholds (marked q.thresholds) (after q.folder))
  own =
      checked (rows_of p) given.path q.folder false (λ k. other_checks given.removed (thresholds_of (rows_of p) k) (marked (thresholds_of (rows_of p) k)) (after k)) at.at (ap is_none at.found)
      ∙ ap (λ o. first (other_checks given.removed (option_map_or (λ (r : QuotaRow). r.thresholds) o []) (marked (option_map_or (λ (r : QuotaRow). r.thresholds) o [])) (after q.folder))) at.found

  pub modify_missing : may_be_removed given.removed q.thresholds ≡ false → due p m (Quota (QuotaModify given)) ≡ Some refusal.NotFound
  modify_missing h =
      own ∙ ap (λ b. first ((refusal.NotFound when not b) ∷ (refusal.OutOfRange when are_too_many (marked q.thresholds)) ∷ texts_full (after q.folder) ∷ [])) h

  pub modify_due : (state : QuotaState) (row : QuotaRow) → IsWhole p → may_be_removed given.removed q.thresholds ≡ true → state ≡ state_after (rows_of p) q.folder given.enabled → row ≡ in_state state (change q) → due p m (Quota (QuotaModify given)) ≡ option_and_then table_refusal (other_fault p.objects row (text_room p))
  modify_due state row w may state_is is =
      let n = q.folder in
      let quotas = p.objects.quotas in
      let asc = w.sound.counted.are_quotas.ascending in
      let b = q.thresholds in
      let changed = marked b in
      let test : Bool → Option Refusal = λ c. first ((refusal.OutOfRange when are_too_many changed) ∷ (refusal.TextsFull when c) ∷ []) in
      let put : List QuotaRow = with_change folder_of n (λ old. in_state state (change q)) quotas in
      let put_is : (after n).quotas ≡ put =
      ap (λ s. with_change folder_of n (in_state s) (with_change folder_of n change quotas)) (sym state_is) ∙ modified_to (rows_of p) n change (λ r. refl) state q asc at.found in
      let whole : object_texts (after n) ≡ quota_texts put + other_texts p = with_texts n (after n).quotas ∙ ap (λ (qs : List QuotaRow). quota_texts qs + other_texts p) put_is in
      let sum : quota_texts put + quota_bytes q ≡ quota_texts quotas + quota_bytes (in_state state (change q)) = sum_by-with_change folder_of quota_bytes n (λ old. in_state state (change q)) q quotas asc at.found in
      let bytes : nat_lt most_text_bytes (object_texts (after n)) ≡ nat_lt (text_room p + quota_bytes q) (quota_bytes (in_state state (change q))) =
      room_other most_text_bytes (texts_of p) (quota_bytes q) (quota_bytes (in_state state (change q))) (object_texts (after n)) (few_texts p w) (omega (arith, whole, sum)) in
      own
      ∙ (ap (λ c. first ((refusal.NotFound when not c) ∷ (refusal.OutOfRange when are_too_many changed) ∷ texts_full (after n) ∷ [])) may
      ∙ (ap test bytes
      ∙ (two (are_too_many changed) (nat_lt (text_room p + quota_bytes q) (quota_bytes (in_state state (change q))))
      ∙ (ap (λ o. option_and_then table_refusal (first ((object.OutOfRange when are_too_many changed) ∷ (object.TextsFull when nat_lt (text_room p + option_map_or quota_bytes o 0) (quota_bytes (in_state state (change q)))) ∷ []))) (sym at.found)
      ∙ ap (λ r. option_and_then table_refusal (other_fault p.objects r (text_room p))) (sym is)))))
    where
      with_texts : (k : ℕ) (qs : List QuotaRow) → object_texts (record (after k) { quotas = qs }) ≡ quota_texts qs + other_texts p
      with_texts k qs = omega arith

-- ---- the answer
table_bare : (fault : ObjectFault) (r : Refusal) → table_refusal fault ≡ Some r → is_bare r ≡ true
table_bare object.AlreadyExists r h = cc h
table_bare object.InvalidCombination r h = cc h
table_bare object.DuplicateName r h = cc h
table_bare object.OutOfRange r h = cc h
table_bare object.TableFull r h = cc h
table_bare object.TextsFull r h = cc h
table_bare object.NoMemory r h = cc h

pub fault_refusal : (fault : ObjectFault) (o : Option ObjectFault) → IsFault fault o → option_and_then table_refusal o ≡ table_refusal fault
fault_refusal object.AlreadyExists o h = ap (option_and_then table_refusal) h
fault_refusal object.InvalidCombination o h = ap (option_and_then table_refusal) h
fault_refusal object.DuplicateName o h = ap (option_and_then table_refusal) h
fault_refusal object.OutOfRange o h = ap (option_and_then table_refusal) h
fault_refusal object.TableFull o h = ap (option_and_then table_refusal) h
fault_refusal object.TextsFull o h = ap (option_and_then table_refusal) h
fault_refusal object.NoMemory o h = ap (option_and_then table_refusal) h

pub refused_for_as : (p : Parts) (m : ℕ) (deed : Deed) (fault : ObjectFault) (result : Result Answer Wanting) → IsIdle p → p.last_moment ≤ m → due p m deed ≡ table_refusal fault → IfOk result (λ answer. table_answer fault ≡ Some answer) → IfOk result (λ answer. Does p p m deed answer)
refused_for_as p m deed fault (Err e) idle after h given = tt
refused_for_as p m deed fault (Ok answer) idle after h given =
    let t = told (table_refusal fault) answer given in
    refused_as p m deed answer t.refusal idle after (h ∙ t.is) (table_bare fault t.refusal t.is) t.answer_is
