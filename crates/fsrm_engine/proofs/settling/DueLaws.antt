-- Which acts are due, by the counters of quotas.
use Rattle.std.proofs.Common.{◌≡◌, ℕ, ◌==◌, Bool, true, false, cond, ◌&&◌, not, List, [], ◌∷◌, ◌++◌, Option, Some, None, refl, ap, sym, ◌∙◌, subst, arith}
use Rattle.std.proofs.lemmas.List.{append-nil}
use Rattle.std.proofs.lemmas.Option.{same_Some}
use Rattle.std.specs.Prelude.{flat_map, option_map}
use Rattle.std.specs.List.{AllByRecursion}
use Rattle.std.specs.Option.{option_and_then, option_map_or}
use Rattle.fsrm_base.specs.Keyed.{row_of, has_row, is_ascending}
use Rattle.fsrm_base.proofs.EditedRows.{absent_later, ascending_tail}
use Rattle.fsrm_base.proofs.Look.{found_key}
use Rattle.fsrm_base.proofs.RowLaws.{own_rows}
use Rattle.fsrm_base.proofs.TestLaws.{eq_is, neither}
use Rattle.fsrm_model.specs.declared.command.Act.{Act}
use Rattle.fsrm_model.specs.declared.command.Refusal.{Refusal}
use Rattle.fsrm_model.specs.declared.command.Refusal.TheVariants.{QuotaExceeded}
use Rattle.fsrm_model.specs.declared.row.Capacity.{Capacity}
use Rattle.fsrm_model.specs.declared.row.NodeRow.{NodeRow}
use Rattle.fsrm_model.specs.declared.row.QuotaRow.{QuotaRow}
use Rattle.fsrm_model.specs.declared.row.Rows.{Rows}
use Rattle.fsrm_model.specs.declared.row.Threshold.{Threshold}
use Rattle.fsrm_model.specs.objects.DueActions.{due_refused, quota_acts}
use Rattle.fsrm_model.specs.objects.Quota.{folder_of, quota_of, counts, used_of, over, deepest, exceeded}
use Rattle.fsrm_model.specs.objects.Reached.{crossed, has_reached, reached, reaches}
use Rattle.fsrm_model.specs.objects.Thresholds.{percent_of}
use Rattle.fsrm_model.specs.nodes.Tree.{usage}
use Rattle.fsrm_model.proofs.thresholds.DueLaws.{also}
use Rattle.fsrm_model.proofs.thresholds.RaisesLaws.{refuser}
use Rattle.fsrm_model.proofs.thresholds.SettleLaws.{no_acts}
use Rattle.quota_usage.specs.declared.change.Exceeded.{Exceeded}
use Rattle.quota_usage.specs.Counters.{used_in}
use Rattle.thresholds.specs.Settled.{crosses}
use Rattle.fsrm_engine.specs.declared.parts.Parts.{Parts}
use Rattle.fsrm_parts.specs.Crossing.{counted_acts, used_acts}
use Rattle.fsrm_engine.specs.Due.{refused_acts}
use Rattle.fsrm_parts.specs.Faults.{exceeded_refusal}
use Rattle.fsrm_engine.specs.Machine.{AreCounted, rows_of}
use Rattle.fsrm_engine.proofs.operations.IdleLaws.{used_at}
use Rattle.fsrm_engine.proofs.settling.EndLaws.{acts_same, due_of}
use Rattle.fsrm_parts.proofs.settling.OrderlyQuotas.{quotas_ascending}

-- ---- what is gathered of quotas
pub gathered_as : (f g : QuotaRow → List Act) (quotas : List QuotaRow) → AllByRecursion (λ q. f q ≡ g q) quotas → flat_map f quotas ≡ flat_map g quotas
gathered_as f g [] h = refl
gathered_as f g (q ∷ quotas) h = ap (λ acts. acts ++ flat_map f quotas) h.0 ∙ ap (λ acts. g q ++ acts) (gathered_as f g quotas h.1)

-- is that of one, if the others give nothing
gathered_one : (f : QuotaRow → List Act) (n : ℕ) (quotas : List QuotaRow) → is_ascending folder_of quotas ≡ true → ((q : QuotaRow) → (q.folder == n) ≡ false → f q ≡ []) → flat_map f quotas ≡ option_map_or f (row_of folder_of n quotas) []
gathered_one f n [] a others = refl
gathered_one f n (r ∷ rows) a others = at (gathered_one f n rows (ascending_tail folder_of r rows a) others) (r.folder == n) refl
  where
    none : (rs : List QuotaRow) → has_row folder_of n rs ≡ false → flat_map f rs ≡ []
    none [] h = refl
    none (s ∷ rs) h =
        let off = neither (s.folder == n) (has_row folder_of n rs) h in
        ap (λ acts. acts ++ flat_map f rs) (others s off.0) ∙ none rs off.1

    at : flat_map f rows ≡ option_map_or f (row_of folder_of n rows) [] → (b : Bool) → (r.folder == n) ≡ b → f r ++ flat_map f rows ≡ option_map_or f (cond b (Some r) (row_of folder_of n rows)) []
    at rest true e =
        let is : r.folder ≡ n = eq_is r.folder n e in
        ap (λ acts. f r ++ acts) (none rows (absent_later folder_of n r rows (omega (arith, is)) a)) ∙ append-nil (f r)
    at rest false e = ap (λ acts. acts ++ flat_map f rows) (others r e) ∙ rest

-- ---- whether a percentage is reached, by a quota's row and what is used
pub reached_row : (K : Capacity) (R : Rows) (folder percent : ℕ) (q : QuotaRow) (used : Option ℕ) → quota_of R folder ≡ Some q → used_of K R folder ≡ used → reached K R folder percent ≡ has_reached q percent used
reached_row K R folder percent q used found is =
    ap (λ o. option_map_or (λ quota. has_reached quota percent (used_of K R folder)) o false) found ∙ ap (has_reached q percent) is

-- a quota that was there before with the same limit and the same thresholds
pub record WasThere (quotas : List QuotaRow) (q : QuotaRow) : Type 0 where
  pub old : QuotaRow
  pub found : row_of folder_of q.folder quotas ≡ Some old
  pub limit : old.limit ≡ q.limit
  pub thresholds : old.thresholds ≡ q.thresholds

pub same_reached : (old q : QuotaRow) (percent : ℕ) (used : Option ℕ) → old.limit ≡ q.limit → old.thresholds ≡ q.thresholds → has_reached old percent used ≡ has_reached q percent used
same_reached old q percent used limit thresholds =
    ap (λ (ts : List Threshold). has_row percent_of percent ts && reaches old.limit percent used) thresholds
    ∙ ap (λ l. has_row percent_of percent q.thresholds && reaches l percent used) limit

-- so two parts tell what is due by their counters
pub due_counted : (p mid : Parts) (m : ℕ) → AreCounted p → AreCounted mid → mid.tree.size ≡ p.tree.size → ((q : QuotaRow) → row_of folder_of q.folder mid.objects.quotas ≡ Some q → WasThere p.objects.quotas q) → counted_acts p.usage mid.usage mid.run_limit m mid.objects.quotas ≡ due_of p mid m
due_counted p mid m c d size was =
    gathered_as own (λ q. quota_acts (crossed K R S q.folder) mid.run_limit m q) mid.objects.quotas
    (also (λ q. row_of folder_of (folder_of q) mid.objects.quotas ≡ Some q) (λ q. own q ≡ quota_acts (crossed K R S q.folder) mid.run_limit m q) same mid.objects.quotas
    (own_rows folder_of mid.objects.quotas d.are_quotas.ascending))
  where
    K : Capacity
    K = p.tree.size

    R : Rows
    R = rows_of p

    S : Rows
    S = rows_of mid

    own : QuotaRow → List Act
    own q = used_acts (used_in p.usage q.folder) (used_in mid.usage q.folder) mid.run_limit m q

    now : (f : ℕ) → used_of K S f ≡ used_in mid.usage f
    now f = ap (λ (k : Capacity). used_of k S f) (sym size) ∙ sym (used_at mid f (used_in mid.usage f) d refl)

    before : (f : ℕ) → used_of K R f ≡ used_in p.usage f
    before f = sym (used_at p f (used_in p.usage f) c refl)

    test : (q : QuotaRow) → row_of folder_of q.folder mid.objects.quotas ≡ Some q → (n : ℕ) → crossed K R S q.folder n ≡ crosses None (used_in p.usage q.folder) (used_in mid.usage q.folder) q n
    test q found n =
        let w = was q found in
        ap (λ b. b && not (reached K R q.folder n)) (reached_row K S q.folder n q (used_in mid.usage q.folder) found (now q.folder))
        ∙ ap (λ b. has_reached q n (used_in mid.usage q.folder) && not b)
        (reached_row K R q.folder n w.old (used_in p.usage q.folder) w.found (before q.folder) ∙ same_reached w.old q n (used_in p.usage q.folder) w.limit w.thresholds)

    same : (q : QuotaRow) → row_of folder_of (folder_of q) mid.objects.quotas ≡ Some q → own q ≡ quota_acts (crossed K R S q.folder) mid.run_limit m q
    same q found =
        sym (acts_same (crossed K R S q.folder) (crosses None (used_in p.usage q.folder) (used_in mid.usage q.folder) q) mid.run_limit m q (test q found))

-- those of one quota, if no other crosses a threshold
pub due_alone : (p mid : Parts) (m n : ℕ) (passes : QuotaRow → ℕ → Bool) → is_ascending folder_of mid.objects.quotas ≡ true → ((folder percent : ℕ) → (folder == n) ≡ false → crossed p.tree.size (rows_of p) (rows_of mid) folder percent ≡ false) → ((q : QuotaRow) → row_of folder_of n mid.objects.quotas ≡ Some q → (percent : ℕ) → crossed p.tree.size (rows_of p) (rows_of mid) n percent ≡ passes q percent) → due_of p mid m ≡ option_map_or (λ q. quota_acts (passes q) mid.run_limit m q) (row_of folder_of n mid.objects.quotas) []
due_alone p mid m n passes a others is =
    gathered_one (λ q. quota_acts (tests q.folder) mid.run_limit m q) n mid.objects.quotas a
    (λ q other. no_acts (tests q.folder) mid.run_limit m q (λ percent. others q.folder percent other))
    ∙ at (row_of folder_of n mid.objects.quotas) refl
  where
    tests : ℕ → ℕ → Bool
    tests folder = crossed p.tree.size (rows_of p) (rows_of mid) folder

    at : (o : Option QuotaRow) → row_of folder_of n mid.objects.quotas ≡ o → option_map_or (λ q. quota_acts (tests q.folder) mid.run_limit m q) o [] ≡ option_map_or (λ q. quota_acts (passes q) mid.run_limit m q) o []
    at None e = refl
    at (Some q) e =
        acts_same (tests q.folder) (passes q) mid.run_limit m q (λ percent. ap (λ f. tests f percent) (found_key folder_of n mid.objects.quotas q e) ∙ is q e percent)

-- ---- those that are due when a quota refuses
used_counting : (K : Capacity) (R : Rows) (q : QuotaRow) → quota_of R q.folder ≡ Some q → counts q ≡ true → used_of K R q.folder ≡ Some (usage K R.nodes q.folder)
used_counting K R q found counting =
    ap (option_and_then (λ (quota : QuotaRow). cond (counts quota) (Some (usage K R.nodes q.folder)) None)) found
    ∙ ap (λ b. cond b (Some (usage K R.nodes q.folder)) None) counting

record SameRefusal (folder would limit : ℕ) (e : Exceeded) : Type 0 where
  folder_is : folder ≡ e.folder
  would_is : would ≡ e.would

same_refusal : (folder would limit : ℕ) (e : Exceeded) → Some (QuotaExceeded folder would limit) ≡ Some (exceeded_refusal e) → SameRefusal folder would limit e
same_refusal folder would limit e h =
    let same = same_Some (QuotaExceeded folder would limit) (exceeded_refusal e) h in
    record { folder_is = ap folder_told same; would_is = ap would_told same }
  where
    folder_told : Refusal → ℕ
    folder_told (QuotaExceeded folder would limit) = folder
    folder_told other = 0

    would_told : Refusal → ℕ
    would_told (QuotaExceeded folder would limit) = would
    would_told other = 0

pub refused_due : (p : Parts) (m : ℕ) (nodes : List NodeRow) (e : Exceeded) → AreCounted p → exceeded p.tree.size (rows_of p) nodes ≡ Some (exceeded_refusal e) → refused_acts p e m ≡ due_refused p.tree.size (rows_of p) nodes m
refused_due p m nodes e c h = at (deepest nodes (over K R nodes)) refl h
  where
    K : Capacity
    K = p.tree.size

    R : Rows
    R = rows_of p

    would_be : Rows
    would_be = record R { nodes = nodes }

    used : Option ℕ
    used = used_in p.usage e.folder

    at : (o : Option QuotaRow) → deepest nodes (over K R nodes) ≡ o → option_map (λ (q : QuotaRow). QuotaExceeded q.folder (usage K nodes q.folder) q.limit) o ≡ Some (exceeded_refusal e) → refused_acts p e m ≡ option_map_or (λ q. quota_acts (crossed K R would_be q.folder) R.run_limit m q) o []
    at None d h = cc h
    at (Some q) d h =
        let own = refuser K R nodes q (quotas_ascending p.tree.nodes p.objects.quotas c.are_quotas) d in
        let told = same_refusal q.folder (usage K nodes q.folder) q.limit e h in
        let found : row_of folder_of e.folder p.objects.quotas ≡ Some q = subst (λ f. row_of folder_of f p.objects.quotas ≡ Some q) told.folder_is own.there in
        let before : used_of K R q.folder ≡ used = ap (used_of K R) told.folder_is ∙ sym (used_at p e.folder used c refl) in
        let after : used_of K would_be q.folder ≡ Some e.would = used_counting K would_be q own.there own.counting ∙ ap Some told.would_is in
        ap (λ o. option_map_or (λ quota. quota_acts (crosses None used (Some e.would) quota) p.run_limit m quota) o []) found
        ∙ acts_same (crosses None used (Some e.would) q) (crossed K R would_be q.folder) p.run_limit m q
        (λ n. sym (ap (λ b. b && not (reached K R q.folder n)) (reached_row K would_be q.folder n q (Some e.would) own.there after)
        ∙ ap (λ b. has_reached q n (Some e.would) && not b) (reached_row K R q.folder n q used own.there before)))
