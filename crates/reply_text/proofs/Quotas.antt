-- The lines of quotas.
use Rattle.std.proofs.Common.{◌≡◌, ℕ, zero, suc, ◌+◌, ◌<◌, ◌≤◌, ◌==◌, Bool, true, false, cond, List, [], ◌∷◌, ◌++◌, take, refl, sym, ap, subst, rules, Bor, ◌∙◌, arith}
use Rattle.std.specs.Prelude.{Option, Some, None, is_some, decimal, codes, filter, find, flat_map, sum_by}
use Rattle.std.specs.List.{slice_get}
use Rattle.std.specs.Option.{option_copied, IsSome}
use Rattle.std.proofs.lemmas.Bool.Decides.{nat_tests}
use Rattle.std.proofs.lemmas.List.{append-nil}
use Rattle.std.proofs.lemmas.List.Sums.{sum_by_more}
use Rattle.std.proofs.lemmas.Option.{get_or_from_slice_get, slice_get_within}
use Rattle.fsrm_model.specs.declared.row.Capacity.{Capacity}
use Rattle.fsrm_model.specs.declared.row.NodeRow.{NodeRow}
use Rattle.fsrm_model.specs.declared.row.QuotaRow.{QuotaRow}
use Rattle.fsrm_model.specs.declared.row.Rows.{Rows}
use Rattle.fsrm_model.specs.declared.row.Threshold.{Threshold}
use Rattle.fsrm_model.specs.values.Date.{date_text}
use Rattle.fsrm_base.specs.Keyed.{row_of, has_row, is_ascending}
use Rattle.fsrm_model.specs.values.Limits.{latest_moment}
use Rattle.fsrm_model.specs.texts.Printed.{type_word}
use Rattle.fsrm_model.specs.objects.Quota.{folder_of, counts, used_of}
use Rattle.fsrm_model.specs.commands.Cost.{path_cost, list_cost}
use Rattle.fsrm_model.specs.declared.command.Ask.TheVariants.{Quotas}
use Rattle.fsrm_model.specs.texts.Text.{body_line, list_lines, path_text, quota_lines, state_word}
use Rattle.fsrm_model.specs.nodes.Tree.{usage}
use Rattle.fsrm_model.specs.store.Valid.{IsValid}
use Rattle.fsrm_base.proofs.Look.{found_key, is_some-find}
use Rattle.fsrm_base.proofs.Members.{filter_none}
use Rattle.fsrm_base.proofs.Order.{parts}
use Rattle.fsrm_base.proofs.TestLaws.{lt_is, eq_is, eq_same, eq_below, le_is}
use Rattle.line_parts.specs.Moments.{moment_text}
use Rattle.reply_text.specs.Lines.{line_text, lines_text, threshold_text, used_word, quota_text}

-- the moment of a peak is one
pub in_time : (K : Capacity) (R : Rows) (quota : QuotaRow) → IsValid K R → row_of folder_of quota.folder R.quotas ≡ Some quota → quota.peak_at ≤ latest_moment
in_time K R quota store h = le_is quota.peak_at latest_moment (store.quotas.moments quota.folder quota h)

-- the word of what is used
used_by : (b : Bool) (bytes : ℕ) → used_word (cond b (Some bytes) None) ≡ cond b (decimal bytes) (codes "-")
used_by true bytes = refl
used_by false bytes = refl

used_same : (K : Capacity) (R : Rows) (quota : QuotaRow) (used : Option ℕ) → row_of folder_of quota.folder R.quotas ≡ Some quota → used ≡ used_of K R quota.folder → used_word used ≡ cond (counts quota) (decimal (usage K R.nodes quota.folder)) (codes "-")
used_same K R quota used h e = ap used_word (rw h at e) ∙ used_by (counts quota) (usage K R.nodes quota.folder)

parts_same : (a b c u v d e p q : List ℕ) → u ≡ v → p ≡ q → body_line (a ∷ b ∷ c ∷ u ∷ d ∷ e ∷ p ∷ []) ≡ body_line (a ∷ b ∷ c ∷ v ∷ d ∷ e ∷ q ∷ [])
parts_same a b c u v d e p q same also = rw (same, also)

pub line_same : (K : Capacity) (R : Rows) (quota : QuotaRow) (used : Option ℕ) (path : List ℕ) → row_of folder_of quota.folder R.quotas ≡ Some quota → used ≡ used_of K R quota.folder → path ≡ path_text R.nodes quota.folder → quota_text quota used path ≡ line_text K R.nodes quota
unfolding line_text moment_text
line_same K R quota used path h e p =
    parts_same (decimal quota.limit) (type_word quota.enforce) (state_word quota.state) _ _ (decimal quota.peak) (date_text quota.peak_at) _ _ (used_same K R quota used h e) p

-- a row that stands after another has a greater key
later_key : {X : Type 0} (key : X → ℕ) (x q : X) (xs : List X) (k : ℕ) → is_ascending key (x ∷ xs) ≡ true → slice_get xs k ≡ Some q → key x < key q
later_key key x q [] k a h = cc
later_key key x q (y ∷ ys) zero a h =
    let e : y ≡ q = cc in
    subst (λ z. key x < key z) e (lt_is (key x) (key y) (parts key x (y ∷ ys) a).above)
later_key key x q (y ∷ ys) (suc k) a h =
    omega (arith, lt_is (key x) (key y) (parts key x (y ∷ ys) a).above, later_key key y q ys k (parts key x (y ∷ ys) a).rest h)

-- the row at a place is found by its key
pub at_place : {X : Type 0} (key : X → ℕ) (rows : List X) (k : ℕ) (q : X) → is_ascending key rows ≡ true → slice_get rows k ≡ Some q → row_of key (key q) rows ≡ Some q
at_place key [] k q a h = cc
at_place key (x ∷ xs) zero q a h =
    let e : x ≡ q = cc in
    subst (λ z. find (λ r. key r == key z) (x ∷ xs) ≡ Some z) e (rw (eq_same (key x)) refl)
at_place key (x ∷ xs) (suc k) q a h =
    rw (eq_below (key x) (key q) (later_key key x q xs k a h)) (at_place key xs k q (parts key x xs a).rest h)

pub sum_more : {X : Type 0} (f : X → ℕ) (rows : List X) (k : ℕ) (q : X) → slice_get rows k ≡ Some q → sum_by f (take (k + 1) rows) ≡ sum_by f (take k rows) + f q
sum_more f rows k q h =
    sum_by_more f rows k q (slice_get_within rows k q h) ∙ ap (λ r. sum_by f (take k rows) + f r) (get_or_from_slice_get rows k q q h)

-- the quota of a folder alone
none_above : {X : Type 0} (key : X → ℕ) (n : ℕ) (x : X) (xs : List X) → is_ascending key (x ∷ xs) ≡ true → n ≤ key x → has_row key n xs ≡ false
none_above key n x [] a h = refl
none_above key n x (y ∷ ys) a h =
    let lt = lt_is (key x) (key y) (parts key x (y ∷ ys) a).above in
    let other : (key y == n) ≡ false = grind (arith, nat_tests) in
    rw other (none_above key n y ys (parts key x (y ∷ ys) a).rest (omega arith))

only_here : {X : Type 0} (key : X → ℕ) (n : ℕ) (x r : X) (xs : List X) (b : Bool) → (b ≡ true → key x ≡ n) → is_ascending key (x ∷ xs) ≡ true → cond b (Some x) (row_of key n xs) ≡ Some r → (row_of key n xs ≡ Some r → filter (λ y. key y == n) xs ≡ r ∷ []) → cond b (x ∷ filter (λ y. key y == n) xs) (filter (λ y. key y == n) xs) ≡ r ∷ []
only_here key n x r xs true is a h f =
    let e : x ≡ r = cc in
    let same : key x ≡ n = is refl in
    rw (filter_none (λ y. key y == n) xs (none_above key n x xs a (omega arith)), e) refl
only_here key n x r xs false is a h f = f h

pub only_one : {X : Type 0} (key : X → ℕ) (n : ℕ) (rows : List X) (r : X) → is_ascending key rows ≡ true → row_of key n rows ≡ Some r → filter (λ y. key y == n) rows ≡ r ∷ []
only_one key n [] r a h = cc
only_one key n (x ∷ xs) r a h =
    only_here key n x r xs (key x == n) (λ e. eq_is (key x) n e) a h (only_one key n xs r (parts key x xs a).rest)

-- the quota of a folder that was asked for is there
lent_some : (lent : Option (Bor QuotaRow)) → is_some (option_copied lent) ≡ true → IsSome lent
lent_some None h = absurd (cc)
lent_some (Some quota) h = search rules

pub lent_found : (lent : Option (Bor QuotaRow)) (rows quotas : List QuotaRow) (folder : ℕ) → option_copied lent ≡ row_of folder_of folder rows → rows ≡ quotas → has_row folder_of folder quotas ≡ true → IsSome lent
lent_found lent rows quotas folder e same h =
    lent_some lent (ap is_some (e ∙ ap (row_of folder_of folder) same) ∙ is_some-find (λ row. folder_of row == folder) quotas ∙ h)

pub lent_row : (lent : Option (Bor QuotaRow)) (quota : Bor QuotaRow) (rows quotas : List QuotaRow) (folder : ℕ) → option_copied lent ≡ row_of folder_of folder rows → rows ≡ quotas → lent ≡ Some quota → row_of folder_of folder quotas ≡ Some quota.now
lent_row lent quota rows quotas folder e same is =
    sym (e ∙ ap (row_of folder_of folder) same) ∙ ap option_copied is

-- it is its folder's
pub own_row : (rows : List QuotaRow) (folder : ℕ) (quota : QuotaRow) → row_of folder_of folder rows ≡ Some quota → row_of folder_of quota.folder rows ≡ Some quota
own_row rows folder quota h =
    let same : quota.folder ≡ folder = found_key folder_of folder rows quota h in
    ap (λ n. row_of folder_of n rows) same ∙ h

-- ---- the lines of a quota
lines_parts : (K : Capacity) (nodes : List NodeRow) (quota : QuotaRow) → line_text K nodes quota ++ flat_map threshold_text quota.thresholds ≡ lines_text K nodes quota
unfolding line_text lines_text threshold_text
lines_parts K nodes quota = refl

-- the first, and then the others
pub lines_shown : (K : Capacity) (nodes : List NodeRow) (quota : QuotaRow) (row : List ℕ) (thresholds : List Threshold) → row ≡ line_text K nodes quota → thresholds ≡ quota.thresholds → row ++ flat_map threshold_text thresholds ≡ lines_text K nodes quota
lines_shown K nodes quota row thresholds e same = rw (e, same) (lines_parts K nodes quota)

pub all_lines : (K : Capacity) (R : Rows) → flat_map (lines_text K R.nodes) R.quotas ≡ list_lines K R (Quotas None)
unfolding lines_text
all_lines K R = refl

pub one_line : (K : Capacity) (R : Rows) (folder : ℕ) (quota : QuotaRow) → IsValid K R → row_of folder_of folder R.quotas ≡ Some quota → lines_text K R.nodes quota ≡ list_lines K R (Quotas (Some folder))
unfolding lines_text
one_line K R folder quota store h =
    sym (ap (flat_map (quota_lines K R.nodes)) (only_one folder_of folder R.quotas quota store.quotas.ascending h) ∙ append-nil (quota_lines K R.nodes quota))

pub one_cost : (K : Capacity) (R : Rows) (folder : ℕ) (quota : QuotaRow) → IsValid K R → row_of folder_of folder R.quotas ≡ Some quota → path_cost R.nodes quota.folder ≡ list_cost R (Quotas (Some folder))
one_cost K R folder quota store h =
    let e = ap (sum_by (λ (row : QuotaRow). path_cost R.nodes row.folder)) (only_one folder_of folder R.quotas quota store.quotas.ascending h) in
    omega (arith, e)

-- the line of a quota, from its parts
pub row_shown : (quota : QuotaRow) (used : Option ℕ) (path bytes state mode shown moment : List ℕ) → mode ≡ type_word quota.enforce → state ≡ state_word quota.state → shown ≡ used_word used → moment ≡ moment_text quota.peak_at → bytes ≡ path
    → 32 ∷ 32 ∷ (decimal quota.limit ++ 32 ∷ (mode ++ 32 ∷ (state ++ 32 ∷ (shown ++ 32 ∷ (decimal quota.peak ++ 32 ∷ (moment ++ 32 ∷ (bytes ++ 10 ∷ []))))))) ≡ quota_text quota used path
row_shown quota used path bytes state mode shown moment modes states shows moments same = rw (same, modes, states, shows, moments) refl
