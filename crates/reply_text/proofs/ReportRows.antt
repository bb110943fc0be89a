-- What the rows of a report name is there.
use Rattle.std.proofs.Common.{◌≡◌, ℕ, zero, suc, ◌+◌, ◌*◌, ◌≤◌, ◌==◌, Bool, true, false, cond, not, ◌&&◌, ◌||◌, List, [], ◌∷◌, length, map, filter, fold, take, refl, ap, ◌∙◌, inl, inr, arith}
use Rattle.std.specs.Prelude.{bytes_eq, nat_eq, nat_lt, nat_le, Some, None, Option, unwrap_or}
use Rattle.std.specs.List.{list_all, enumerate_from}
use Rattle.std.specs.Option.{option_map_or}
use Rattle.std.proofs.lemmas.List.Folds.{list_all-map}
use Rattle.fsrm_base.specs.Keyed.{row_of, has_row}
use Rattle.fsrm_base.specs.Order.{put, in_order}
use Rattle.fsrm_base.proofs.EditedTests.{list_all-filter}
use Rattle.fsrm_base.proofs.Look.{found_has}
use Rattle.fsrm_base.proofs.Members.{all_pass}
use Rattle.fsrm_base.proofs.TestLaws.{both, both_true, eq_is, is_or_not, le_is, lt_test, or_later}
use Rattle.fsrm_model.specs.declared.report.FileList.{FileList}
use Rattle.fsrm_model.specs.declared.report.Report.{Report}
use Rattle.fsrm_model.specs.declared.report.Report.TheVariants.{Lists, Owners, Types, Doubles, Quotas, Audits}
use Rattle.fsrm_model.specs.declared.report.ReportAsk.{ReportAsk}
use Rattle.fsrm_model.specs.declared.report.ReportRow.{ReportRow}
use Rattle.fsrm_model.specs.declared.row.AuditRow.{AuditRow}
use Rattle.fsrm_model.specs.declared.row.Capacity.{Capacity}
use Rattle.fsrm_model.specs.declared.row.Filter.{Filter}
use Rattle.fsrm_model.specs.declared.row.NodeRow.{NodeRow}
use Rattle.fsrm_model.specs.declared.row.QuotaRow.{QuotaRow}
use Rattle.fsrm_model.specs.declared.row.Rows.{Rows}
use Rattle.fsrm_model.specs.nodes.Tree.{number, is_under, under, usage}
use Rattle.fsrm_model.specs.objects.Quota.{counts, folder_of, quota_of}
use Rattle.fsrm_model.specs.reports.Files.{is_asked, report_files, sums}
use Rattle.fsrm_model.specs.reports.Groups.{groups}
use Rattle.fsrm_model.specs.reports.Reports.{all_rows, audit_row, audit_rows, audited_from, file_row, files_of, is_audited_at, is_much_used, owner_in, owner_row, place_in, quota_row, report_of, table, takes_more, type_in, type_row}
use Rattle.fsrm_model.specs.store.Valid.{IsValid}
use Rattle.reply_text.specs.ReportLines.{is_counted, is_there}

-- ---- a test that all items pass
put_all : {X : Type 0} (before : X → X → Bool) (p : X → Bool) (x : X) (xs : List X) → p x ≡ true → list_all p xs ≡ true → list_all p (put before x xs) ≡ true
put_all before p x [] h all = both_true _ _ h refl
put_all before p x (y ∷ ys) h all = at (before x y) (put_all before p x ys h (both _ _ all).1)
  where
    at : (b : Bool) → list_all p (put before x ys) ≡ true → list_all p (cond b (x ∷ y ∷ ys) (y ∷ put before x ys)) ≡ true
    at true rest = both_true _ _ h all
    at false rest = both_true _ _ (both _ _ all).0 rest

folded_all : {X : Type 0} (before : X → X → Bool) (p : X → Bool) (sorted xs : List X) → list_all p sorted ≡ true → list_all p xs ≡ true → list_all p (fold (λ s x. put before x s) sorted xs) ≡ true
folded_all before p sorted [] s all = s
folded_all before p sorted (x ∷ xs) s all = folded_all before p (put before x sorted) xs (put_all before p x sorted (both _ _ all).0 s) (both _ _ all).1

in_order_all : {X : Type 0} (before : X → X → Bool) (p : X → Bool) (xs : List X) → list_all p xs ≡ true → list_all p (in_order before xs) ≡ true
in_order_all before p xs all = folded_all before p [] xs refl all

take_all : {X : Type 0} (p : X → Bool) (n : ℕ) (xs : List X) → list_all p xs ≡ true → list_all p (take n xs) ≡ true
take_all p zero xs all = refl
take_all p (suc n) [] all = refl
take_all p (suc n) (x ∷ xs) all = both_true _ _ (both _ _ all).0 (take_all p n xs (both _ _ all).1)

map_all : {X Y : Type 0} (p : Y → Bool) (g : X → Y) (xs : List X) → list_all (λ x. p (g x)) xs ≡ true → list_all p (map g xs) ≡ true
map_all p g xs all = list_all-map p g xs ∙ all

each_all : {X : Type 0} (p : X → Bool) (xs : List X) → ((x : X) → p x ≡ true) → list_all p xs ≡ true
each_all p [] h = refl
each_all p (x ∷ xs) h = both_true _ _ (h x) (each_all p xs h)

-- those that pass one test pass another
filter_all : {X : Type 0} (p q : X → Bool) (xs : List X) → list_all (λ x. not (q x) || p x) xs ≡ true → list_all p (filter q xs) ≡ true
filter_all p q [] all = refl
filter_all p q (x ∷ xs) all = at (q x) (both _ _ all).0 (filter_all p q xs (both _ _ all).1)
  where
    at : (b : Bool) → (not b || p x) ≡ true → list_all p (filter q xs) ≡ true → list_all p (cond b (x ∷ filter q xs) (filter q xs)) ≡ true
    at true h rest = both_true _ _ h rest
    at false h rest = rest

-- ---- files
abbrev is_one : List NodeRow → NodeRow → Bool
is_one nodes node = has_row number node.number nodes

files_there : (K : Capacity) (R : Rows) (scope : ℕ) (asked : Filter) → IsValid K R → list_all (is_one R.nodes) (report_files R.nodes scope asked) ≡ true
files_there K R scope asked store =
    list_all-filter (is_one R.nodes) (is_asked asked) (under R.nodes scope)
    (list_all-filter (is_one R.nodes) (λ node. is_under R.nodes scope node.number) R.nodes
    (all_pass number (is_one R.nodes) R.nodes store.volume.ascending (λ r found. found_has number r.number R.nodes r found)))

some_files : (K : Capacity) (R : Rows) (before : NodeRow → NodeRow → Bool) (passes : NodeRow → Bool) (files : List NodeRow) → list_all (is_one R.nodes) files ≡ true
    → list_all (is_there R) (map (file_row K) (in_order before (filter passes files))) ≡ true
some_files K R before passes files all =
    map_all (is_there R) (file_row K) (in_order before (filter passes files))
    (in_order_all before (is_one R.nodes) (filter passes files) (list_all-filter (is_one R.nodes) passes files all))

-- ---- quotas
pub record Counted (R : Rows) (folder : ℕ) : Type 0 where
  pub row : QuotaRow
  pub found : quota_of R folder ≡ Some row
  pub counts : counts row ≡ true

pub counted : (R : Rows) (folder : ℕ) → is_counted R folder ≡ true → Counted R folder
counted R folder h = at (quota_of R folder) refl h
  where
    at : (found : Option QuotaRow) → quota_of R folder ≡ found → option_map_or counts found false ≡ true → Counted R folder
    at None e h = absurd (cc)
    at (Some quota) e h = record { row = quota; found = e; counts = h }

counts_own : (K : Capacity) (R : Rows) (ask : ReportAsk) (quota : QuotaRow) → row_of folder_of quota.folder R.quotas ≡ Some quota → (not (is_much_used K R ask quota) || is_counted R quota.folder) ≡ true
counts_own K R ask quota found =
    elim (is_or_not (is_much_used K R ask quota)) [
      | inl used ↦
          let parts : (is_under R.nodes ask.scope quota.folder ≡ true) × ((counts quota && nat_le (unwrap_or ask.filter.min_use 0 * quota.limit) (100 * usage K R.nodes quota.folder)) ≡ true) = both _ _ used in
          let counting : counts quota ≡ true = (both _ _ parts.1).0 in
          or_later (not (is_much_used K R ask quota)) (is_counted R quota.folder) (ap (λ o. option_map_or counts o false) found ∙ counting)
      | inr not_used ↦ ap (λ b. not b || is_counted R quota.folder) not_used
    ]

quotas_there : (K : Capacity) (R : Rows) (ask : ReportAsk) (before : QuotaRow → QuotaRow → Bool) → IsValid K R → list_all (is_there R) (map (quota_row K R) (in_order before (filter (is_much_used K R ask) R.quotas))) ≡ true
quotas_there K R ask before store =
    map_all (is_there R) (quota_row K R) (in_order before (filter (is_much_used K R ask) R.quotas))
    (in_order_all before (λ quota. is_counted R quota.folder) (filter (is_much_used K R ask) R.quotas)
    (filter_all (λ quota. is_counted R quota.folder) (is_much_used K R ask) R.quotas
    (all_pass folder_of (λ quota. not (is_much_used K R ask quota) || is_counted R quota.folder) R.quotas store.quotas.ascending (counts_own K R ask))))

-- ---- entries
places_within : (most k : ℕ) (log : List AuditRow) → k + length log ≤ most → list_all (λ (entry : ℕ × AuditRow). nat_lt entry.0 most) (enumerate_from k log) ≡ true
places_within most k [] h = refl
places_within most k (entry ∷ log) h = both_true _ _ (lt_test k most (omega arith)) (places_within most (k + 1) log (omega arith))

entries_there : (R : Rows) (asked : Filter) (moment : ℕ) → list_all (is_there R) (audit_rows asked moment R.audits) ≡ true
entries_there R asked moment =
    let passing : List (ℕ × AuditRow) = filter (is_audited_at asked moment) (enumerate_from 0 R.audits) in
    map_all (is_there R) audit_row (map place_in passing)
    (map_all (λ place. nat_lt place (length R.audits)) place_in passing
    (list_all-filter (λ (entry : ℕ × AuditRow). nat_lt entry.0 (length R.audits)) (is_audited_at asked moment) (enumerate_from 0 R.audits)
    (places_within (length R.audits) 0 R.audits (omega arith))))

-- ---- all rows
groups_there : {X : Type 0} (R : Rows) (row : X → ReportRow) (xs : List X) → ((x : X) → is_there R (row x) ≡ true) → list_all (is_there R) (map row xs) ≡ true
groups_there R row xs h = map_all (is_there R) row xs (each_all (λ x. is_there R (row x)) xs h)

rows_there : (K : Capacity) (R : Rows) (ask : ReportAsk) (moment : ℕ) (report : Report) → IsValid K R → list_all (is_there R) (all_rows K R ask moment report) ≡ true
rows_there K R ask moment (Lists list) store = some_files K R _ _ (files_of R ask) (files_there K R ask.scope ask.filter store)
rows_there K R ask moment Owners store = groups_there R owner_row (in_order takes_more (groups nat_eq owner_in (sums K) (files_of R ask))) (λ group. refl)
rows_there K R ask moment Types store = groups_there R type_row (in_order takes_more (groups bytes_eq type_in (sums K) (files_of R ask))) (λ group. refl)
rows_there K R ask moment Doubles store = some_files K R _ _ (files_of R ask) (files_there K R ask.scope ask.filter store)
rows_there K R ask moment Quotas store = quotas_there K R ask _ store
rows_there K R ask moment Audits store = entries_there R ask.filter moment

pub table_there : (K : Capacity) (R : Rows) (ask : ReportAsk) (moment : ℕ) → IsValid K R → list_all (is_there R) (table K R ask moment) ≡ true
table_there K R ask moment store =
    take_all (is_there R) ask.filter.max (all_rows K R ask moment (report_of ask.filter ask.kind)) (rows_there K R ask moment (report_of ask.filter ask.kind) store)
