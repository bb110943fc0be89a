-- Commands that cross no threshold: no act is due.
use Rattle.std.proofs.Common.{◌≡◌, ℕ, zero, suc, ◌≤◌, ◌*◌, ◌==◌, Bool, true, false, ◌&&◌, ◌||◌, not, List, [], ◌∷◌, Option, Some, None, nat_le, refl, ap, sym, ◌∙◌, subst, arith}
use Rattle.std.proofs.lemmas.Option.{same_Some}
use Rattle.std.specs.Prelude.{flat_map, map}
use Rattle.std.specs.List.{list_all}
use Rattle.fsrm_base.specs.Keyed.{row_of, has_row, is_ascending}
use Rattle.fsrm_base.proofs.RowLaws.{own_rows}
use Rattle.fsrm_base.proofs.TestLaws.{both, clash, eq_is, le_is, le_test}
use Rattle.fsrm_model.specs.declared.command.Act.{Act}
use Rattle.fsrm_model.specs.declared.row.Capacity.{Capacity}
use Rattle.fsrm_model.specs.declared.row.NodeRow.{NodeRow}
use Rattle.fsrm_model.specs.declared.row.QuotaRow.{QuotaRow}
use Rattle.fsrm_model.specs.declared.row.Rows.{Rows}
use Rattle.fsrm_model.specs.declared.row.Threshold.{Threshold}
use Rattle.fsrm_model.specs.values.Limits.{greatest_limit, greatest_percent, least_limit}
use Rattle.fsrm_model.specs.objects.Quota.{folder_of, quota_of, counts, is_limit}
use Rattle.fsrm_model.specs.objects.Reached.{crossed, has_reached, reached, reaches, IsReached}
use Rattle.fsrm_model.specs.objects.Thresholds.{are_thresholds, are_too_many, is_kept_action, is_percent, is_threshold, percent_of}
use Rattle.fsrm_model.specs.nodes.Tree.{usage}
use Rattle.fsrm_model.proofs.thresholds.ActLaws.{none_due}
use Rattle.fsrm_model.proofs.thresholds.DueLaws.{also}
use Rattle.fsrm_model.proofs.thresholds.ReachedLaws.{reached_parts, reached_test}
use Rattle.fsrm_model.proofs.thresholds.SettleLaws.{no_acts}
use Rattle.quota_usage.specs.declared.change.Counter.{Counter}
use Rattle.quota_usage.specs.Counters.{used_in}
use Rattle.thresholds.specs.Settled.{crosses}
use Rattle.fsrm_engine.specs.declared.parts.Parts.{Parts}
use Rattle.fsrm_parts.specs.Crossing.{used_acts}
use Rattle.fsrm_engine.specs.Machine.{AreCounted, rows_of}
use Rattle.fsrm_engine.proofs.settling.DueLaws.{WasThere, due_counted, gathered_as}
use Rattle.fsrm_engine.proofs.settling.EndLaws.{due_of}
use Rattle.fsrm_engine.proofs.tables.PeakLaws.{was}

-- ---- what is reached after was reached before
pub still_crossed : (K : Capacity) (R S : Rows) (folder percent : ℕ) → (IsReached K S folder percent → IsReached K R folder percent) → crossed K R S folder percent ≡ false
still_crossed K R S folder percent h = at (reached K S folder percent) refl
  where
    at : (b : Bool) → reached K S folder percent ≡ b → (b && not (reached K R folder percent)) ≡ false
    at true e = ap not (reached_test K R folder percent (h (reached_parts K S folder percent e)))
    at false e = refl

pub calm : (p mid : Parts) (m : ℕ) → ((folder percent : ℕ) → IsReached p.tree.size (rows_of mid) folder percent → IsReached p.tree.size (rows_of p) folder percent) → due_of p mid m ≡ []
calm p mid m h =
    none_due p.tree.size (rows_of p) (rows_of mid) m
    (λ folder percent. still_crossed p.tree.size (rows_of p) (rows_of mid) folder percent (h folder percent))

-- ---- no counter is greater than it was
abbrev pub AtMost : Option ℕ → Option ℕ → Type 0
AtMost None before = Unit {0}
AtMost (Some now) None = ⊥
AtMost (Some now) (Some before) = now ≤ before

pub at_most_own : (used : Option ℕ) → AtMost used used
at_most_own None = tt
at_most_own (Some n) = omega arith

reaches_less : (limit percent now before : ℕ) → now ≤ before → reaches limit percent (Some now) ≡ true → reaches limit percent (Some before) ≡ true
reaches_less limit percent now before less h =
    let enough : percent * limit ≤ 100 * now = le_is (percent * limit) (100 * now) h in
    le_test (percent * limit) (100 * before) (omega (arith, less, enough))

pub none_crosses : (q : QuotaRow) (percent : ℕ) (before now : Option ℕ) → AtMost now before → crosses None before now q percent ≡ false
none_crosses q percent before None h = at (has_row percent_of percent q.thresholds)
  where
    at : (b : Bool) → ((b && false) && not (has_reached q percent before)) ≡ false
    at true = refl
    at false = refl
none_crosses q percent None (Some now) h = absurd h
none_crosses q percent (Some before) (Some now) h = at (has_row percent_of percent q.thresholds) (reaches q.limit percent (Some now)) refl
  where
    at : (b c : Bool) → reaches q.limit percent (Some now) ≡ c → ((b && c) && not (b && reaches q.limit percent (Some before))) ≡ false
    at true true e = ap not (reaches_less q.limit percent now before h e)
    at true false e = refl
    at false c e = refl

abbrev none_of : QuotaRow → List Act
none_of q = []

nothing : (quotas : List QuotaRow) → flat_map none_of quotas ≡ []
nothing [] = refl
nothing (q ∷ quotas) = nothing quotas

-- of the quotas that were there before
pub calm_less : (p mid : Parts) (m : ℕ) → AreCounted p → AreCounted mid → mid.tree.size ≡ p.tree.size → ((q : QuotaRow) → row_of folder_of q.folder mid.objects.quotas ≡ Some q → WasThere p.objects.quotas q) → ((q : QuotaRow) → row_of folder_of q.folder mid.objects.quotas ≡ Some q → AtMost (used_in mid.usage q.folder) (used_in p.usage q.folder)) → due_of p mid m ≡ []
calm_less p mid m c d size was less =
    sym (due_counted p mid m c d size was)
    ∙ (gathered_as (λ q. used_acts (used_in p.usage q.folder) (used_in mid.usage q.folder) mid.run_limit m q) none_of mid.objects.quotas
    (also (λ q. row_of folder_of (folder_of q) mid.objects.quotas ≡ Some q) (λ q. used_acts (used_in p.usage q.folder) (used_in mid.usage q.folder) mid.run_limit m q ≡ [])
    (λ q found. no_acts (crosses None (used_in p.usage q.folder) (used_in mid.usage q.folder) q) mid.run_limit m q
    (λ percent. none_crosses q percent (used_in p.usage q.folder) (used_in mid.usage q.folder) (less q found))) mid.objects.quotas
    (own_rows folder_of mid.objects.quotas d.are_quotas.ascending))
    ∙ nothing mid.objects.quotas)

-- whose rows are the same, but for peaks and states
pub was_mapped : (g : QuotaRow → QuotaRow) (quotas : List QuotaRow) → ((q : QuotaRow) → (g q).folder ≡ q.folder) → ((q : QuotaRow) → (g q).limit ≡ q.limit) → ((q : QuotaRow) → (g q).thresholds ≡ q.thresholds) → (q : QuotaRow) → row_of folder_of q.folder (map g quotas) ≡ Some q → WasThere quotas q
was_mapped g quotas folder limit thresholds q h =
    let w = was g folder q.folder quotas q h in
    record {
      old = w.old;
      found = w.found;
      limit = sym (ap (λ (r : QuotaRow). r.limit) w.is ∙ limit w.old);
      thresholds = sym (ap (λ (r : QuotaRow). r.thresholds) w.is ∙ thresholds w.old);
    }

pub calm_mapped : (p mid : Parts) (m : ℕ) (g : QuotaRow → QuotaRow) → AreCounted p → AreCounted mid → mid.tree.size ≡ p.tree.size → mid.objects.quotas ≡ map g p.objects.quotas → mid.usage ≡ p.usage → ((q : QuotaRow) → (g q).folder ≡ q.folder) → ((q : QuotaRow) → (g q).limit ≡ q.limit) → ((q : QuotaRow) → (g q).thresholds ≡ q.thresholds) → due_of p mid m ≡ []
calm_mapped p mid m g c d size quotas counters folder limit thresholds =
    calm_less p mid m c d size
    (λ q found. was_mapped g p.objects.quotas folder limit thresholds q (subst (λ (qs : List QuotaRow). row_of folder_of q.folder qs ≡ Some q) quotas found))
    (λ q found. subst (λ (cs : List Counter). AtMost (used_in cs q.folder) (used_in p.usage q.folder)) (sym counters) (at_most_own (used_in p.usage q.folder)))

pub calm_same : (p mid : Parts) (m : ℕ) → AreCounted p → AreCounted mid → mid.tree.size ≡ p.tree.size → mid.objects.quotas ≡ p.objects.quotas → mid.usage ≡ p.usage → due_of p mid m ≡ []
calm_same p mid m c d size quotas counters =
    calm_less p mid m c d size
    (λ q found. record { old = q; found = subst (λ (qs : List QuotaRow). row_of folder_of q.folder qs ≡ Some q) quotas found; limit = refl; thresholds = refl })
    (λ q found. subst (λ (cs : List Counter). AtMost (used_in cs q.folder) (used_in p.usage q.folder)) (sym counters) (at_most_own (used_in p.usage q.folder)))

-- ---- the quota of one folder alone changed, over the same nodes
-- that of another has reached what it had reached
pub other_reached : (K : Capacity) (R S : Rows) (folder percent : ℕ) → S.nodes ≡ R.nodes → quota_of S folder ≡ quota_of R folder → IsReached K S folder percent → IsReached K R folder percent
other_reached K R S folder percent nodes same is =
    record {
      quota = is.quota;
      is_there = sym same ∙ is.is_there;
      has = is.has;
      counting = is.counting;
      enough = subst (λ (ns : List NodeRow). percent * is.quota.limit ≤ 100 * usage K ns folder) nodes is.enough;
    }

pub calm_but : (p mid : Parts) (m n : ℕ) → mid.tree.nodes ≡ p.tree.nodes → ((folder : ℕ) → (folder == n) ≡ false → row_of folder_of folder mid.objects.quotas ≡ row_of folder_of folder p.objects.quotas) → ((percent : ℕ) → IsReached p.tree.size (rows_of mid) n percent → ⊥) → due_of p mid m ≡ []
calm_but p mid m n nodes others none = calm p mid m (λ folder percent is. at folder percent (folder == n) refl is)
  where
    at : (folder percent : ℕ) (b : Bool) → (folder == n) ≡ b → IsReached p.tree.size (rows_of mid) folder percent → IsReached p.tree.size (rows_of p) folder percent
    at folder percent true e is = absurd (none percent (subst (λ k. IsReached p.tree.size (rows_of mid) k percent) (eq_is folder n e) is))
    at folder percent false e is = other_reached p.tree.size (rows_of p) (rows_of mid) folder percent nodes (others folder e) is

-- where it doesn't count, or nothing is used, nothing is reached
pub uncounted_reached : (K : Capacity) (S : Rows) (n percent : ℕ) → ((q : QuotaRow) → quota_of S n ≡ Some q → counts q ≡ false) → IsReached K S n percent → ⊥
uncounted_reached K S n percent h is = clash (counts is.quota) is.counting (h is.quota is.is_there)

-- a legal percentage is 1 at least
percent_positive : (ts : List Threshold) (percent : ℕ) → list_all is_threshold ts ≡ true → has_row percent_of percent ts ≡ true → 1 ≤ percent
percent_positive [] percent all has = absurd (clash false has refl)
percent_positive (t ∷ ts) percent all has =
    let p = both (is_threshold t) (list_all is_threshold ts) all in
    at p.0 (percent_positive ts percent p.1) (percent_of t == percent) refl has
  where
    at : is_threshold t ≡ true → (has_row percent_of percent ts ≡ true → 1 ≤ percent) → (b : Bool) → (percent_of t == percent) ≡ b → (b || has_row percent_of percent ts) ≡ true → 1 ≤ percent
    at legal later true e h =
        let own = both (nat_le 1 t.percent) (nat_le t.percent greatest_percent) (both (is_percent t.percent) (list_all is_kept_action t.actions) legal).0 in
        subst (λ k. 1 ≤ k) (eq_is t.percent percent e) (le_is 1 t.percent own.0)
    at legal later false e h = later h

least_percent : (ts : List Threshold) (percent : ℕ) → are_thresholds ts ≡ true → has_row percent_of percent ts ≡ true → 1 ≤ percent
least_percent ts percent legal has =
    percent_positive ts percent (both (is_ascending percent_of ts && not (are_too_many ts)) (list_all is_threshold ts) legal).1 has

pub unused_reached : (K : Capacity) (S : Rows) (n percent : ℕ) (q : QuotaRow) → quota_of S n ≡ Some q → are_thresholds q.thresholds ≡ true → is_limit q.limit ≡ true → (counts q ≡ true → usage K S.nodes n ≡ 0) → IsReached K S n percent → ⊥
unused_reached K S n percent q found thresholds limit unused is =
    let same : is.quota ≡ q = same_Some is.quota q (sym is.is_there ∙ found) in
    let none : usage K S.nodes n ≡ 0 = unused (ap counts (sym same) ∙ is.counting) in
    let some : 1 ≤ percent = least_percent q.thresholds percent thresholds (ap (λ (r : QuotaRow). has_row percent_of percent r.thresholds) (sym same) ∙ is.has) in
    let great : 1 ≤ is.quota.limit = subst (λ (r : QuotaRow). 1 ≤ r.limit) (sym same) (least q.limit limit) in
    let product : 1 ≤ percent * is.quota.limit = at_least percent is.quota.limit some great in
    omega (arith, product, none, is.enough)
  where
    least : (limit : ℕ) → is_limit limit ≡ true → 1 ≤ limit
    least limit h = let n = le_is least_limit limit (both (nat_le least_limit limit) (nat_le limit greatest_limit) h).0 in omega (arith, n)

    at_least : (x y : ℕ) → 1 ≤ x → 1 ≤ y → 1 ≤ x * y
    at_least (suc x) (suc y) h g = omega arith
    at_least zero y h g = absurd (omega (arith, h))
    at_least (suc x) zero h g = absurd (omega (arith, g))
