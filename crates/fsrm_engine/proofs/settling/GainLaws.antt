-- The acts of quotas whose counters lost bytes and gained others: of those that were noted, and not dropped again.
use Rattle.std.proofs.Common.{◌≡◌, ℕ, ◌+◌, ◌-◌, ◌<◌, ◌≤◌, ◌^◌, ◌==◌, ◌&&◌, not, Bool, true, false, cond, List, [], ◌∷◌, Option, Some, None, refl, ap, sym, ◌∙◌, arith}
use Rattle.std.specs.Prelude.{filter, flat_map, map, option_map}
use Rattle.std.specs.List.{list_any}
use Rattle.std.specs.Option.{option_map_or}
use Rattle.fsrm_base.specs.Keyed.{has_row, row_of}
use Rattle.fsrm_base.proofs.Look.{found_key}
use Rattle.fsrm_base.proofs.TestLaws.{clash, eq_is, neither}
use Rattle.fsrm_model.specs.declared.command.Subject.TheVariants.{Quota}
use Rattle.fsrm_model.specs.declared.row.NodeRow.{NodeRow}
use Rattle.fsrm_model.specs.declared.row.QuotaRow.{QuotaRow}
use Rattle.fsrm_model.specs.declared.row.Threshold.{Threshold}
use Rattle.fsrm_model.specs.objects.DueActions.{ready_acts}
use Rattle.fsrm_model.specs.objects.Reached.{reaches}
use Rattle.fsrm_model.specs.objects.Thresholds.{percent_of}
use Rattle.fsrm_model.specs.nodes.Tree.{is_under}
use Rattle.fsrm_model.proofs.thresholds.SettleLaws.{no_acts}
use Rattle.quota_usage.specs.declared.change.Change.{Change}
use Rattle.quota_usage.specs.declared.change.Counter.{Counter}
use Rattle.quota_usage.specs.Charge.{charged, charged_counter, is_above, lost_by}
use Rattle.quota_usage.specs.Counters.{counted, used_in}
use Rattle.thresholds.specs.Settled.{crosses, crosses_any}
use Rattle.fsrm_parts.specs.Crossing.{IsCovered, gained_acts, is_crossing, used_acts, used_before, is_kept}
use Rattle.fsrm_engine.proofs.settling.CalmLaws.{none_crosses}

-- ---- counters that were charged
charged_found : (nodes : List NodeRow) (change : Change) (folder : ℕ) (counters : List Counter) → row_of counted folder (map (charged_counter nodes change) counters) ≡ option_map (charged_counter nodes change) (row_of counted folder counters)
charged_found nodes change folder [] = refl
charged_found nodes change folder (c ∷ counters) = at (counted c == folder) (charged_found nodes change folder counters)
  where
    at : (b : Bool) → row_of counted folder (map (charged_counter nodes change) counters) ≡ option_map (charged_counter nodes change) (row_of counted folder counters) → cond b (Some (charged_counter nodes change c)) (row_of counted folder (map (charged_counter nodes change) counters)) ≡ option_map (charged_counter nodes change) (cond b (Some c) (row_of counted folder counters))
    at true h = refl
    at false h = h

pub used_charged : (nodes : List NodeRow) (change : Change) (counters : List Counter) (folder : ℕ) → used_in (map (charged_counter nodes change) counters) folder ≡ option_map (charged nodes change folder) (used_in counters folder)
used_charged nodes change counters folder =
    ap (option_map (λ (c : Counter). c.bytes)) (charged_found nodes change folder counters) ∙ at (row_of counted folder counters) refl
  where
    at : (o : Option Counter) → row_of counted folder counters ≡ o → option_map (λ (c : Counter). c.bytes) (option_map (charged_counter nodes change) o) ≡ option_map (charged nodes change folder) (option_map (λ (c : Counter). c.bytes) o)
    at None e = refl
    at (Some c) e = ap (λ n. Some (charged nodes change n c.bytes)) (found_key counted folder counters c e)

-- ---- no threshold is crossed
halves : (h now before : Bool) → ((h && now) && not (h && before)) ≡ true → (now && not before) ≡ true
halves true now before e = e
halves false now before e = cc e

none_some : (q : QuotaRow) (run_limit m before now : ℕ) → crosses_any q before now ≡ false → used_acts (Some before) (Some now) run_limit m q ≡ []
none_some q run_limit m before now h =
    ap (flat_map (λ (t : Threshold). ready_acts run_limit m (Quota q.folder t.percent) t.actions)) (none q.thresholds h)
  where
    test : Threshold → Bool
    test t = reaches q.limit t.percent (Some now) && not (reaches q.limit t.percent (Some before))

    passes : Threshold → Bool
    passes t = crosses None (Some before) (Some now) q t.percent

    fails : (t : Threshold) → test t ≡ false → (b : Bool) → passes t ≡ b → b ≡ false
    fails t off true e = absurd (clash (test t) (halves (has_row percent_of t.percent q.thresholds) (reaches q.limit t.percent (Some now)) (reaches q.limit t.percent (Some before)) e) off)
    fails t off false e = refl

    none : (ts : List Threshold) → list_any test ts ≡ false → filter passes ts ≡ []
    none [] h = refl
    none (t ∷ ts) h =
        let off = neither (test t) (list_any test ts) h in
        ap (λ b. cond b (t ∷ filter passes ts) (filter passes ts)) (fails t off.0 (passes t) refl) ∙ none ts off.1

-- ---- what was used before
back : (b minus plus now : ℕ) → minus ≤ b → b < 2 ^ 64 → now ≡ b - minus + plus → used_before minus plus now ≡ b
back b minus plus now held small is = omega (arith, held, small, is)

module _ (nodes : List NodeRow) (counters : List Counter) (change : Change) (to : ℕ) (gives : change.to ≡ Some to) (covered : IsCovered nodes counters change) where
  given : (folder : ℕ) → is_under nodes folder to ≡ true → is_above nodes change.to folder ≡ true
  given folder up = ap (λ o. is_above nodes o folder) gives ∙ up

  was : (q : QuotaRow) (b : ℕ) → used_in counters q.folder ≡ Some b → is_under nodes q.folder to ≡ true → is_kept nodes change to q ≡ false → used_before (lost_by change to) change.plus (charged nodes change q.folder b) ≡ b
  was q b used up free = at change.from refl
    where
      small : b < 2 ^ 64
      small = covered.small q.folder b used

      plus : cond (is_above nodes change.to q.folder) change.plus 0 ≡ change.plus
      plus = ap (λ t. cond t change.plus 0) (given q.folder up)

      -- by how many bytes it loses
      by : (lost : ℕ) → lost_by change to ≡ lost → cond (is_above nodes change.from q.folder) change.minus 0 ≡ lost → lost ≤ b → used_before (lost_by change to) change.plus (charged nodes change q.folder b) ≡ b
      by lost told taken held =
          ap (λ n. used_before n change.plus (charged nodes change q.folder b)) told
          ∙ back b lost change.plus (charged nodes change q.folder b) held small
          (ap (λ n. b - n + cond (is_above nodes change.to q.folder) change.plus 0) taken ∙ ap (λ n. b - lost + n) plus)

      none : 0 ≤ b
      none = omega arith

      apart : (s : ℕ) → change.from ≡ Some s → (s == to) ≡ false → used_before (lost_by change to) change.plus (charged nodes change q.folder b) ≡ b
      apart s e other =
          let off : is_under nodes q.folder s ≡ false =
          sym (ap (λ t. not t && is_under nodes q.folder s) other) ∙ (sym (ap (λ o. option_map_or (λ from. not (from == to) && is_under nodes q.folder from) o false) e) ∙ free) in
          by 0
          (ap (λ o. option_map_or (λ from. cond (from == to) change.minus 0) o 0) e ∙ ap (λ t. cond t change.minus 0) other)
          (ap (λ o. cond (is_above nodes o q.folder) change.minus 0) e ∙ ap (λ t. cond t change.minus 0) off) none

      same : (s : ℕ) → change.from ≡ Some s → (s == to) ≡ true → used_before (lost_by change to) change.plus (charged nodes change q.folder b) ≡ b
      same s e own =
          let on : is_above nodes change.from q.folder ≡ true = ap (λ o. is_above nodes o q.folder) e ∙ (ap (is_under nodes q.folder) (eq_is s to own) ∙ up) in
          by change.minus
          (ap (λ o. option_map_or (λ from. cond (from == to) change.minus 0) o 0) e ∙ ap (λ t. cond t change.minus 0) own)
          (ap (λ t. cond t change.minus 0) on) (covered.held q.folder b on used)

      at : (o : Option ℕ) → change.from ≡ o → used_before (lost_by change to) change.plus (charged nodes change q.folder b) ≡ b
      at None e =
          by 0 (ap (λ o. option_map_or (λ from. cond (from == to) change.minus 0) o 0) e)
          (ap (λ o. cond (is_above nodes o q.folder) change.minus 0) e) none
      at (Some s) e = by_folder (s == to) refl
        where
          by_folder : (t : Bool) → (s == to) ≡ t → used_before (lost_by change to) change.plus (charged nodes change q.folder b) ≡ b
          by_folder true own = same s e own
          by_folder false other = apart s e other

  -- a folder uses no more than before, if it gained nothing, or lost what it gained
  no_more : (q : QuotaRow) (b : ℕ) → used_in counters q.folder ≡ Some b → (is_under nodes q.folder to && not (is_kept nodes change to q)) ≡ false → charged nodes change q.folder b ≤ b
  no_more q b used h = at (is_under nodes q.folder to) refl h
    where
      minus : ℕ
      minus = cond (is_above nodes change.from q.folder) change.minus 0

      less : (plus : ℕ) → cond (is_above nodes change.to q.folder) change.plus 0 ≡ plus → plus ≤ minus → minus ≤ b → charged nodes change q.folder b ≤ b
      less plus is fewer held = omega (arith, is, fewer, held)

      none : (t : Bool) → cond t change.plus 0 ≡ 0 → b - minus + cond t change.plus 0 ≤ b
      none t is = omega (arith, is)

      kept : (o : Option ℕ) → change.from ≡ o → option_map_or (λ from. not (from == to) && is_under nodes q.folder from) o false ≡ true → charged nodes change q.folder b ≤ b
      kept None e t = cc t
      kept (Some s) e t = by (s == to) (is_under nodes q.folder s) refl refl t
        where
          by : (c d : Bool) → (s == to) ≡ c → is_under nodes q.folder s ≡ d → (not c && d) ≡ true → charged nodes change q.folder b ≤ b
          by false true other up t =
              let on : is_above nodes change.from q.folder ≡ true = ap (λ o. is_above nodes o q.folder) e ∙ up in
              let taken : minus ≡ change.minus = ap (λ t. cond t change.minus 0) on in
              at_most (is_above nodes change.to q.folder) (covered.even s to e gives other) (covered.held q.folder b on used) taken
            where
              at_most : (t : Bool) → change.plus ≤ change.minus → change.minus ≤ b → minus ≡ change.minus → b - minus + cond t change.plus 0 ≤ b
              at_most true even held taken = omega (arith, even, held, taken)
              at_most false even held taken = omega arith
          by true d other up t = cc t
          by false false other up t = cc t

      at : (t : Bool) → is_under nodes q.folder to ≡ t → (t && not (is_kept nodes change to q)) ≡ false → charged nodes change q.folder b ≤ b
      at false e h = none (is_above nodes change.to q.folder) (ap (λ t. cond t change.plus 0) (ap (λ o. is_above nodes o q.folder) gives ∙ e))
      at true e h = kept change.from refl (not_false (is_kept nodes change to q) h)
        where
          not_false : (t : Bool) → not t ≡ false → t ≡ true
          not_false true h = refl
          not_false false h = cc h

  -- ---- the acts
  -- of a quota that was noted and not dropped, as the notes tell
  pub gained_are : (q : QuotaRow) (run_limit m : ℕ) → is_under nodes q.folder to ≡ true → is_kept nodes change to q ≡ false → gained_acts (map (charged_counter nodes change) counters) (lost_by change to) change.plus run_limit m q ≡ used_acts (used_in counters q.folder) (used_in (map (charged_counter nodes change) counters) q.folder) run_limit m q
  gained_are q run_limit m up free = ap (λ o. used_acts o (used_in (map (charged_counter nodes change) counters) q.folder) run_limit m q) before
    where
      at : (o : Option ℕ) → used_in counters q.folder ≡ o → option_map (used_before (lost_by change to) change.plus) (option_map (charged nodes change q.folder) o) ≡ o
      at None e = refl
      at (Some b) e = ap Some (was q b e up free)

      before : option_map (used_before (lost_by change to) change.plus) (used_in (map (charged_counter nodes change) counters) q.folder) ≡ used_in counters q.folder
      before = ap (option_map (used_before (lost_by change to) change.plus)) (used_charged nodes change counters q.folder) ∙ at (used_in counters q.folder) refl

  -- the others have none
  pub others_none : (q : QuotaRow) (run_limit m : ℕ) → ((is_under nodes q.folder to && is_crossing (map (charged_counter nodes change) counters) (lost_by change to) change.plus q) && not (is_kept nodes change to q)) ≡ false → used_acts (used_in counters q.folder) (used_in (map (charged_counter nodes change) counters) q.folder) run_limit m q ≡ []
  others_none q run_limit m h = ap (λ o. used_acts (used_in counters q.folder) o run_limit m q) (used_charged nodes change counters q.folder) ∙ at (used_in counters q.folder) refl
    where
      lost : ℕ
      lost = lost_by change to

      now : ℕ → ℕ
      now b = charged nodes change q.folder b

      quiet : (b : ℕ) → now b ≤ b → used_acts (Some b) (Some (now b)) run_limit m q ≡ []
      quiet b less = no_acts (crosses None (Some b) (Some (now b)) q) run_limit m q (λ percent. none_crosses q percent (Some b) (Some (now b)) less)

      uncrossed : (b : ℕ) → used_in counters q.folder ≡ Some b → is_under nodes q.folder to ≡ true → is_kept nodes change to q ≡ false → is_crossing (map (charged_counter nodes change) counters) lost change.plus q ≡ false → used_acts (Some b) (Some (now b)) run_limit m q ≡ []
      uncrossed b used up free off =
          none_some q run_limit m b (now b)
          (ap (λ n. crosses_any q n (now b)) (sym (was q b used up free))
          ∙ (sym (ap (λ o. option_map_or (λ n. crosses_any q (used_before lost change.plus n) n) o false) (used_charged nodes change counters q.folder ∙ ap (option_map (charged nodes change q.folder)) used)) ∙ off))

      at : (o : Option ℕ) → used_in counters q.folder ≡ o → used_acts o (option_map (charged nodes change q.folder) o) run_limit m q ≡ []
      at None e = no_acts (crosses None None None q) run_limit m q (λ percent. none_crosses q percent None None tt)
      at (Some b) e = by (is_under nodes q.folder to) (is_kept nodes change to q) (is_crossing (map (charged_counter nodes change) counters) lost change.plus q) refl refl refl h
        where
          by : (up kept crossing : Bool) → is_under nodes q.folder to ≡ up → is_kept nodes change to q ≡ kept → is_crossing (map (charged_counter nodes change) counters) lost change.plus q ≡ crossing → ((up && crossing) && not kept) ≡ false → used_acts (Some b) (Some (now b)) run_limit m q ≡ []
          by false kept crossing u k c h = quiet b (no_more q b e (ap (λ t. t && not (is_kept nodes change to q)) u))
          by true true crossing u k c h = quiet b (no_more q b e (ap (λ t. t && not (is_kept nodes change to q)) u ∙ ap not k))
          by true false false u k c h = uncrossed b e u k c
          by true false true u k c h = cc h
