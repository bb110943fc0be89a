-- What a command makes of thresholds: they ascend as before, which percentages are there, and the actions of each.
use Rattle.std.proofs.Common.{◌≡◌, ℕ, ◌==◌, Bool, true, false, cond, not, ◌||◌, ◌&&◌, List, [], ◌∷◌, ◌++◌, refl, sym, ◌∙◌, ap, subst, Some, None, Option, nat_lt}
use Rattle.std.proofs.lemmas.List.{append_assoc, append-nil}
use Rattle.std.proofs.lemmas.List.Folds.{list_all-append}
use Rattle.std.specs.Prelude.{map, filter, fold, option_map, is_none, nat_le, if◌then◌else◌}
use Rattle.std.specs.List.{list_any, list_all}
use Rattle.std.specs.Option.{option_map_or}
use Rattle.fsrm_model.specs.declared.command.Added.{Added}
use Rattle.fsrm_model.specs.declared.row.Action.{Action}
use Rattle.fsrm_model.specs.declared.row.Threshold.{Threshold}
use Rattle.fsrm_base.specs.Keyed.{row_of, has_row, with_row, is_ascending}
use Rattle.fsrm_base.specs.Numbers.{is_in}
use Rattle.fsrm_model.specs.values.Limits.{latest_moment}
use Rattle.fsrm_model.specs.objects.Thresholds.{percent_of, actions_at, is_percent, is_action, is_new_action, is_kept_action, is_notice, is_threshold, are_too_many, are_thresholds, without_thresholds, with_threshold, with_action, with_notice, actions_given, changed_thresholds}
use Rattle.fsrm_base.proofs.EditedRows.{find-with_row_same}
use Rattle.fsrm_base.proofs.EditedTests.{list_all-with_row, list_all-filter, list_all-with_change}
use Rattle.fsrm_base.proofs.Look.{is_some-find, none_row, found_key, has_found, find-filter, row_of-change, row_of-new_other, has_row-change}
use Rattle.fsrm_base.proofs.Order.{ascending-with_row, ascending-change, ascending-filter}
use Rattle.fsrm_base.proofs.TestLaws.{both, both_true, eq_is, eq_same, eq_turned}

abbrev new : ℕ → Threshold
new percent = record { percent = percent; actions = [] }

-- ---- they ascend
ascending-threshold : (thresholds : List Threshold) (percent : ℕ) → is_ascending percent_of thresholds ≡ true → is_ascending percent_of (with_threshold thresholds percent) ≡ true
ascending-threshold thresholds percent a = at (has_row percent_of percent thresholds) refl
  where
    at : (b : Bool) → has_row percent_of percent thresholds ≡ b → is_ascending percent_of (cond b thresholds (with_row percent_of (new percent) thresholds)) ≡ true
    at true h = a
    at false h = ascending-with_row percent_of (new percent) thresholds h a

ascending-notice : (thresholds : List Threshold) (notice : Added) → is_ascending percent_of thresholds ≡ true → is_ascending percent_of (with_notice thresholds notice) ≡ true
ascending-notice thresholds notice a =
    ascending-change percent_of notice.percent (with_action notice.action) (λ t. refl) (with_threshold thresholds notice.percent)
    (ascending-threshold thresholds notice.percent a)

-- what every step keeps, all of them do
pub kept_by_all : {A B : Type 0} (P : B → Type 0) (f : B → A → B) → ((b : B) (x : A) → P b → P (f b x)) → (b : B) (xs : List A) → P b → P (fold f b xs)
kept_by_all P f k b [] h = h
kept_by_all P f k b (x ∷ xs) h = kept_by_all P f k (f b x) xs (k b x h)

pub changed_ascending : (removed percents : List ℕ) (notices : List Added) (thresholds : List Threshold) → is_ascending percent_of thresholds ≡ true → is_ascending percent_of (changed_thresholds removed percents notices thresholds) ≡ true
changed_ascending removed percents notices thresholds a =
    let P : List Threshold → Type 0 = λ ts. is_ascending percent_of ts ≡ true in
    kept_by_all P with_notice ascending-notice (fold with_threshold (without_thresholds removed thresholds) percents) notices
    (kept_by_all P with_threshold ascending-threshold (without_thresholds removed thresholds) percents
    (ascending-filter percent_of (λ t. not (is_in removed t.percent)) thresholds a))

-- ---- which percentages are there
or_swapped : (a b c : Bool) → (a || (b || c)) ≡ (b || (a || c))
or_swapped true true c = refl
or_swapped true false c = refl
or_swapped false b c = refl

or_joined : (a b c : Bool) → ((a || b) || c) ≡ (a || (b || c))
or_joined true b c = refl
or_joined false b c = refl

any-with_row : (p : Threshold → Bool) (row : Threshold) (rows : List Threshold) → list_any p (with_row percent_of row rows) ≡ (p row || list_any p rows)
any-with_row p row [] = refl
any-with_row p row (r ∷ rows) = at (nat_lt row.percent r.percent) (any-with_row p row rows)
  where
    at : (b : Bool) → list_any p (with_row percent_of row rows) ≡ (p row || list_any p rows) → list_any p (cond b (row ∷ r ∷ rows) (r ∷ with_row percent_of row rows)) ≡ (p row || (p r || list_any p rows))
    at true h = refl
    at false h = ap (λ b. p r || b) h ∙ or_swapped (p r) (p row) (list_any p rows)

-- a percentage that is there is among the rows
among : (n p : ℕ) (thresholds : List Threshold) → has_row percent_of n thresholds ≡ true → has_row percent_of p thresholds ≡ ((n == p) || has_row percent_of p thresholds)
among n p thresholds h = at (n == p) refl
  where
    at : (b : Bool) → (n == p) ≡ b → has_row percent_of p thresholds ≡ (b || has_row percent_of p thresholds)
    at true e = subst (λ k. has_row percent_of k thresholds ≡ true) (eq_is n p e) h
    at false e = refl

there-threshold : (thresholds : List Threshold) (n p : ℕ) → has_row percent_of p (with_threshold thresholds n) ≡ ((n == p) || has_row percent_of p thresholds)
there-threshold thresholds n p = at (has_row percent_of n thresholds) refl
  where
    at : (b : Bool) → has_row percent_of n thresholds ≡ b → has_row percent_of p (cond b thresholds (with_row percent_of (new n) thresholds)) ≡ ((n == p) || has_row percent_of p thresholds)
    at true h = among n p thresholds h
    at false h = any-with_row (λ t. percent_of t == p) (new n) thresholds

there-notice : (thresholds : List Threshold) (notice : Added) (p : ℕ) → has_row percent_of p (with_notice thresholds notice) ≡ ((notice.percent == p) || has_row percent_of p thresholds)
there-notice thresholds notice p =
    has_row-change percent_of notice.percent (with_action notice.action) (λ t. refl) p (with_threshold thresholds notice.percent)
    ∙ there-threshold thresholds notice.percent p

-- over all of a list, if each item brings its own percentage
there-all : {A : Type 0} (f : List Threshold → A → List Threshold) (q : A → Bool) (p : ℕ) → ((ts : List Threshold) (x : A) → has_row percent_of p (f ts x) ≡ (q x || has_row percent_of p ts)) → (ts : List Threshold) (xs : List A) → has_row percent_of p (fold f ts xs) ≡ (list_any q xs || has_row percent_of p ts)
there-all f q p k ts [] = refl
there-all f q p k ts (x ∷ xs) =
    there-all f q p k (f ts x) xs ∙ (ap (λ b. list_any q xs || b) (k ts x)
    ∙ (or_swapped (list_any q xs) (q x) (has_row percent_of p ts) ∙ sym (or_joined (q x) (list_any q xs) (has_row percent_of p ts))))

any-filter : (q p : Threshold → Bool) (rows : List Threshold) → list_any p (filter q rows) ≡ list_any (λ t. q t && p t) rows
any-filter q p [] = refl
any-filter q p (r ∷ rows) = at (q r) (any-filter q p rows)
  where
    at : (b : Bool) → list_any p (filter q rows) ≡ list_any (λ t. q t && p t) rows → list_any p (cond b (r ∷ filter q rows) (filter q rows)) ≡ ((b && p r) || list_any (λ t. q t && p t) rows)
    at true h = ap (λ b. p r || b) h
    at false h = h

there-without : (removed : List ℕ) (p : ℕ) (thresholds : List Threshold) → has_row percent_of p (without_thresholds removed thresholds) ≡ (not (is_in removed p) && has_row percent_of p thresholds)
there-without removed p thresholds = any-filter (λ t. not (is_in removed t.percent)) (λ t. percent_of t == p) thresholds ∙ out thresholds
  where
    one : (t : Threshold) (b : Bool) → (t.percent == p) ≡ b → (not (is_in removed t.percent) && b) ≡ (not (is_in removed p) && b)
    one t true e = ap (λ k. not (is_in removed k) && true) (eq_is t.percent p e)
    one t false e = at (not (is_in removed t.percent)) (not (is_in removed p))
      where
        at : (a b : Bool) → (a && false) ≡ (b && false)
        at true true = refl
        at true false = refl
        at false true = refl
        at false false = refl

    spread : (a b c : Bool) → ((a && b) || (a && c)) ≡ (a && (b || c))
    spread true b c = refl
    spread false b c = refl

    none : (a : Bool) → false ≡ (a && false)
    none true = refl
    none false = refl

    out : (rows : List Threshold) → list_any (λ t. not (is_in removed t.percent) && (percent_of t == p)) rows ≡ (not (is_in removed p) && has_row percent_of p rows)
    out [] = none (not (is_in removed p))
    out (t ∷ rows) =
        ap (λ b. b || list_any (λ t. not (is_in removed t.percent) && (percent_of t == p)) rows) (one t (t.percent == p) refl)
        ∙ (ap (λ b. (not (is_in removed p) && (t.percent == p)) || b) (out rows) ∙ spread (not (is_in removed p)) (t.percent == p) (has_row percent_of p rows))

pub changed_there : (removed percents : List ℕ) (notices : List Added) (thresholds : List Threshold) (p : ℕ) → has_row percent_of p (changed_thresholds removed percents notices thresholds) ≡ (list_any (λ notice. notice.percent == p) notices || (is_in percents p || (not (is_in removed p) && has_row percent_of p thresholds)))
changed_there removed percents notices thresholds p =
    there-all with_notice (λ notice. notice.percent == p) p (λ ts notice. there-notice ts notice p) (fold with_threshold (without_thresholds removed thresholds) percents) notices
    ∙ ap (λ b. list_any (λ notice. notice.percent == p) notices || b) (there-all with_threshold (λ n. n == p) p (λ ts n. there-threshold ts n p) (without_thresholds removed thresholds) percents
    ∙ ap (λ b. is_in percents p || b) (there-without removed p thresholds))

-- ---- the actions of each
abbrev actions_in : Option Threshold → List Action
actions_in o = option_map_or (λ threshold. threshold.actions) o []

-- a new threshold has none, as if it weren't there
actions-threshold : (thresholds : List Threshold) (n p : ℕ) → actions_at (with_threshold thresholds n) p ≡ actions_at thresholds p
actions-threshold thresholds n p = at (has_row percent_of n thresholds) refl
  where
    absent : has_row percent_of p thresholds ≡ false → row_of percent_of p thresholds ≡ None
    absent h = none_row (row_of percent_of p thresholds) (is_some-find (λ t. percent_of t == p) thresholds ∙ h)

    same : (b : Bool) → (p == n) ≡ b → has_row percent_of n thresholds ≡ false → actions_at (with_row percent_of (new n) thresholds) p ≡ actions_at thresholds p
    same true e h =
        let gone : has_row percent_of p thresholds ≡ false = subst (λ k. has_row percent_of k thresholds ≡ false) (sym (eq_is p n e)) h in
        let own : (n == p) ≡ true = subst (λ k. (n == k) ≡ true) (sym (eq_is p n e)) (eq_same n) in
        ap actions_in (find-with_row_same percent_of (λ t. percent_of t == p) (new n) thresholds own gone) ∙ sym (ap actions_in (absent gone))
    same false e h = ap actions_in (row_of-new_other percent_of (new n) p thresholds e)

    at : (b : Bool) → has_row percent_of n thresholds ≡ b → actions_at (cond b thresholds (with_row percent_of (new n) thresholds)) p ≡ actions_at thresholds p
    at true h = refl
    at false h = same (p == n) refl h

-- a notification adds its action to those of its percentage
abbrev given : ℕ → Added → List Action
given p notice = cond (notice.percent == p) (notice.action ∷ []) []

actions-notice : (thresholds : List Threshold) (notice : Added) (p : ℕ) → actions_at (with_notice thresholds notice) p ≡ actions_at thresholds p ++ given p notice
actions-notice thresholds notice p =
    ap actions_in (row_of-change percent_of n (with_action notice.action) (λ t. refl) p ts)
    ∙ (at (row_of percent_of p ts) refl ∙ ap (λ actions. actions ++ given p notice) (actions-threshold thresholds n p))
  where
    n : ℕ
    n = notice.percent

    ts : List Threshold
    ts = with_threshold thresholds notice.percent

    one : (t : Threshold) (b : Bool) → (t.percent == n) ≡ b → t.percent ≡ p → actions_in (Some (cond b (with_action notice.action t) t)) ≡ t.actions ++ cond (n == p) (notice.action ∷ []) []
    one t true e is = let own : (n == p) ≡ true = subst (λ k. (n == k) ≡ true) (sym (eq_is t.percent n e) ∙ is) (eq_same n) in ap (λ b. t.actions ++ cond b (notice.action ∷ []) []) (sym own)
    one t false e is =
        let apart : (n == p) ≡ false = eq_turned p n (subst (λ k. (k == n) ≡ false) is e) in
        sym (append-nil t.actions) ∙ ap (λ b. t.actions ++ cond b (notice.action ∷ []) []) (sym apart)

    there : has_row percent_of n ts ≡ true
    there = there-threshold thresholds n n ∙ ap (λ b. b || has_row percent_of n thresholds) (eq_same n)

    at : (o : Option Threshold) → row_of percent_of p ts ≡ o → actions_in (option_map (λ t. if percent_of t == n then with_action notice.action t else t) o) ≡ actions_in o ++ cond (n == p) (notice.action ∷ []) []
    at (Some t) h = one t (t.percent == n) refl (found_key percent_of p ts t h)
    at None h = no (n == p) refl
      where
        no : (b : Bool) → (n == p) ≡ b → [] ≡ cond b (notice.action ∷ []) []
        no true e =
            let f = has_found percent_of p ts (subst (λ k. has_row percent_of k ts ≡ true) (eq_is n p e) there) in
            absurd (cc (sym h ∙ f.is))
        no false e = refl

given_first : (notice : Added) (notices : List Added) (p : ℕ) → actions_given (notice ∷ notices) p ≡ given p notice ++ actions_given notices p
given_first notice notices p = at (notice.percent == p)
  where
    at : (b : Bool) → map (λ (n : Added). n.action) (cond b (notice ∷ filter (λ n. n.percent == p) notices) (filter (λ n. n.percent == p) notices)) ≡ cond b (notice.action ∷ []) [] ++ actions_given notices p
    at true = refl
    at false = refl

actions-notices : (notices : List Added) (thresholds : List Threshold) (p : ℕ) → actions_at (fold with_notice thresholds notices) p ≡ actions_at thresholds p ++ actions_given notices p
actions-notices [] thresholds p = sym (append-nil (actions_at thresholds p))
actions-notices (notice ∷ notices) thresholds p =
    actions-notices notices (with_notice thresholds notice) p
    ∙ (ap (λ actions. actions ++ actions_given notices p) (actions-notice thresholds notice p)
    ∙ (append_assoc (actions_at thresholds p) (given p notice) (actions_given notices p)
    ∙ ap (λ actions. actions_at thresholds p ++ actions) (sym (given_first notice notices p))))

actions-percents : (percents : List ℕ) (thresholds : List Threshold) (p : ℕ) → actions_at (fold with_threshold thresholds percents) p ≡ actions_at thresholds p
actions-percents [] thresholds p = refl
actions-percents (n ∷ percents) thresholds p = actions-percents percents (with_threshold thresholds n) p ∙ actions-threshold thresholds n p

actions-without : (removed : List ℕ) (thresholds : List Threshold) (p : ℕ) → actions_at (without_thresholds removed thresholds) p ≡ (if is_in removed p then [] else actions_at thresholds p)
actions-without removed thresholds p = at (is_in removed p) refl
  where
    kept : List Threshold
    kept = without_thresholds removed thresholds

    at : (b : Bool) → is_in removed p ≡ b → actions_at kept p ≡ (if b then [] else actions_at thresholds p)
    at true e =
        let gone : has_row percent_of p kept ≡ false = there-without removed p thresholds ∙ ap (λ b. not b && has_row percent_of p thresholds) e in
        ap actions_in (none_row (row_of percent_of p kept) (is_some-find (λ t. percent_of t == p) kept ∙ gone))
    at false e =
        ap actions_in (find-filter (λ t. percent_of t == p) (λ t. not (is_in removed t.percent)) (λ t is. ap not (ap (is_in removed) (eq_is t.percent p is) ∙ e)) thresholds)

pub changed_actions : (removed percents : List ℕ) (notices : List Added) (thresholds : List Threshold) (p : ℕ) → actions_at (changed_thresholds removed percents notices thresholds) p ≡ (if is_in removed p then [] else actions_at thresholds p) ++ actions_given notices p
changed_actions removed percents notices thresholds p =
    actions-notices notices (fold with_threshold (without_thresholds removed thresholds) percents) p
    ∙ ap (λ actions. actions ++ actions_given notices p) (actions-percents percents (without_thresholds removed thresholds) p ∙ actions-without removed thresholds p)

-- ---- each is one of a store
threshold-new : (thresholds : List Threshold) (percent : ℕ) → is_percent percent ≡ true → list_all is_threshold thresholds ≡ true → list_all is_threshold (with_threshold thresholds percent) ≡ true
threshold-new thresholds percent legal are = at (has_row percent_of percent thresholds)
  where
    at : (b : Bool) → list_all is_threshold (cond b thresholds (with_row percent_of (new percent) thresholds)) ≡ true
    at true = are
    at false = list_all-with_row percent_of is_threshold (new percent) thresholds (both_true (is_percent percent) true legal refl) are

kept_if_new : (action : Action) → is_new_action action ≡ true → is_kept_action action ≡ true
kept_if_new action h =
    let parts = both (is_action action) (is_none action.last_run) h in
    both_true (is_action action) (option_map_or (λ run. nat_le run latest_moment) action.last_run true) parts.0 (never action.last_run parts.1)
  where
    never : (o : Option ℕ) → is_none o ≡ true → option_map_or (λ run. nat_le run latest_moment) o true ≡ true
    never None h = refl
    never (Some run) h = absurd (cc h)

threshold-notice : (thresholds : List Threshold) (notice : Added) → is_notice notice ≡ true → list_all is_threshold thresholds ≡ true → list_all is_threshold (with_notice thresholds notice) ≡ true
threshold-notice thresholds notice legal are =
    let parts = both (is_percent notice.percent) (is_new_action notice.action) legal in
    list_all-with_change percent_of is_threshold notice.percent (with_action notice.action) (with_threshold thresholds notice.percent)
    (threshold-new thresholds notice.percent parts.0 are) (more (kept_if_new notice.action parts.1))
  where
    more : is_kept_action notice.action ≡ true → (t : Threshold) → is_threshold t ≡ true → is_threshold (with_action notice.action t) ≡ true
    more own t h =
        let parts = both (is_percent t.percent) (list_all is_kept_action t.actions) h in
        both_true (is_percent t.percent) (list_all is_kept_action (t.actions ++ notice.action ∷ [])) parts.0
        (list_all-append is_kept_action t.actions (notice.action ∷ [])
        ∙ both_true (list_all is_kept_action t.actions) (is_kept_action notice.action && true) parts.1 (both_true (is_kept_action notice.action) true own refl))

thresholds-percents : (percents : List ℕ) (thresholds : List Threshold) → list_all is_percent percents ≡ true → list_all is_threshold thresholds ≡ true → list_all is_threshold (fold with_threshold thresholds percents) ≡ true
thresholds-percents [] thresholds legal are = are
thresholds-percents (n ∷ percents) thresholds legal are =
    let parts = both (is_percent n) (list_all is_percent percents) legal in
    thresholds-percents percents (with_threshold thresholds n) parts.1 (threshold-new thresholds n parts.0 are)

thresholds-notices : (notices : List Added) (thresholds : List Threshold) → list_all is_notice notices ≡ true → list_all is_threshold thresholds ≡ true → list_all is_threshold (fold with_notice thresholds notices) ≡ true
thresholds-notices [] thresholds legal are = are
thresholds-notices (notice ∷ notices) thresholds legal are =
    let parts = both (is_notice notice) (list_all is_notice notices) legal in
    thresholds-notices notices (with_notice thresholds notice) parts.1 (threshold-notice thresholds notice parts.0 are)

pub changed_each : (removed percents : List ℕ) (notices : List Added) (thresholds : List Threshold) → list_all is_threshold thresholds ≡ true → list_all is_percent percents ≡ true → list_all is_notice notices ≡ true → list_all is_threshold (changed_thresholds removed percents notices thresholds) ≡ true
changed_each removed percents notices thresholds are legal_percents legal_notices =
    thresholds-notices notices (fold with_threshold (without_thresholds removed thresholds) percents) legal_notices
    (thresholds-percents percents (without_thresholds removed thresholds) legal_percents
    (list_all-filter is_threshold (λ t. not (is_in removed t.percent)) thresholds are))

pub changed_kept : (removed percents : List ℕ) (notices : List Added) (thresholds : List Threshold) → are_thresholds thresholds ≡ true → list_all is_percent percents ≡ true → list_all is_notice notices ≡ true → are_too_many (changed_thresholds removed percents notices thresholds) ≡ false → are_thresholds (changed_thresholds removed percents notices thresholds) ≡ true
changed_kept removed percents notices thresholds are legal_percents legal_notices few =
    let changed = changed_thresholds removed percents notices thresholds in
    let parts = both (is_ascending percent_of thresholds && not (are_too_many thresholds)) (list_all is_threshold thresholds) are in
    let order = both (is_ascending percent_of thresholds) (not (are_too_many thresholds)) parts.0 in
    both_true (is_ascending percent_of changed && not (are_too_many changed)) (list_all is_threshold changed)
    (both_true (is_ascending percent_of changed) (not (are_too_many changed)) (changed_ascending removed percents notices thresholds order.0) (ap not few))
    (changed_each removed percents notices thresholds parts.1 legal_percents legal_notices)
