-- The commands on scans: each one's work is orderly, and leaves the rows of a store if no check refuses.
use Rattle.std.proofs.Common.{◌≡◌, ℕ, ◌==◌, Bool, true, false, not, List, [], ◌∷◌, length, refl, sym, ap, ◌∙◌, Some, None, Option, subst}
use Rattle.std.specs.Prelude.{◌||◌, ◌-◌, is_some, is_none, map, unwrap_or, if◌then◌else◌}
use Rattle.std.specs.Option.{option_map_or}
use Rattle.std.proofs.lemmas.Option.{same_Some}
use Rattle.fsrm_model.specs.declared.command.Refusal.TheVariants.{PathNotFound, NotFound, InvalidCombination, NothingToScan}
use Rattle.fsrm_model.specs.declared.row.Capacity.{Capacity}
use Rattle.fsrm_model.specs.declared.row.QuotaRow.{QuotaRow}
use Rattle.fsrm_model.specs.declared.row.QuotaState.{QuotaState}
use Rattle.fsrm_model.specs.declared.row.QuotaState.TheVariants.{Complete, Disabled, Rebuilding, Incomplete}
use Rattle.fsrm_model.specs.declared.row.Rows.{Rows}
use Rattle.fsrm_model.specs.commands.Check.{◌when◌, first}
use Rattle.fsrm_model.specs.nodes.FileOps.{target}
use Rattle.fsrm_base.specs.Keyed.{has_row, is_ascending, with_change}
use Rattle.fsrm_model.specs.store.Lasting.{flagged, flagged_quota, lasting}
use Rattle.fsrm_model.specs.nodes.Leads.{leads_to_folder}
use Rattle.fsrm_base.specs.Numbers.{is_in}
use Rattle.fsrm_model.specs.objects.Quota.{folder_of, quota_of, counts, is_complete}
use Rattle.fsrm_model.specs.objects.QuotaStates.{head, in_state, is_disabled, state_of, with_state, same_head, scan_begun, queued, followed}
use Rattle.fsrm_model.specs.objects.Scan.{visits}
use Rattle.fsrm_model.specs.commands.ScanWork.{scan_work, step_work}
use Rattle.fsrm_model.specs.declared.command.Outcome.TheVariants.{Scanned}
use Rattle.fsrm_model.specs.nodes.Tree.{number, usage}
use Rattle.fsrm_model.specs.store.Replays.{is_finished_scan}
use Rattle.fsrm_model.specs.store.Valid.{AreQuotas, IsValid}
use Rattle.fsrm_model.proofs.commands.Ends.{step_nodes}
use Rattle.fsrm_base.proofs.Look.{eq_same, is_some-find}
use Rattle.fsrm_model.proofs.commands.Orderly.{IsStill, bare, first_none, when_none, KeepsValid}
use Rattle.fsrm_base.proofs.RowLaws.{change_same, change_none}
use Rattle.fsrm_model.proofs.valid.ValidLaws.{folder_has}
use Rattle.fsrm_model.specs.store.ValidScans.{AreLeft}
use Rattle.fsrm_model.proofs.valid.QueueKept.{queue_changed}
use Rattle.fsrm_model.proofs.commands.QuotaCommands.{state_quotas, state_texts, quota_there, quota_alike}
use Rattle.fsrm_model.proofs.valid.RowsKept.{valid_with, all_stay, same_heads, left_followed, left_visits, quotas_followed, head_in}
use Rattle.fsrm_model.proofs.valid.TemplatesKept.{sources-change}
use Rattle.fsrm_model.proofs.journal.Alike.{WorksAlike, with_state_alike}
use Rattle.fsrm_model.proofs.journal.KeptQuotas.{counts_found, kept, kept_twice, state_kept}
use Rattle.fsrm_model.proofs.journal.KeptEnds.{disabled_lasting, quota_lasting}

-- a state that a quota has already changes nothing
own_state : (R : Rows) (folder : ℕ) (quota : QuotaRow) → is_ascending folder_of R.quotas ≡ true → quota_of R folder ≡ Some quota → with_change folder_of folder (in_state quota.state) R.quotas ≡ R.quotas
own_state R folder quota asc found =
    change_same folder_of folder (in_state quota.state) (λ q. q) R.quotas asc (λ r own. let same : quota ≡ r = same_Some quota r (sym found ∙ own) in ap (λ (q : QuotaRow). in_state q.state r) same)
    ∙ change_none folder_of folder R.quotas

-- a quota that is scanned anew, and doesn't count, was flagged already
waiting_kept : (state : QuotaState) → is_disabled state ≡ false → is_complete state ≡ false → flagged Rebuilding ≡ flagged state
waiting_kept Complete d c = absurd (cc c)
waiting_kept Disabled d c = absurd (cc d)
waiting_kept Rebuilding d c = refl
waiting_kept Incomplete d c = refl

scan_quiet : (R : Rows) (folder : ℕ) (o : Option QuotaRow) → is_ascending folder_of R.quotas ≡ true → quota_of R folder ≡ o → is_disabled (option_map_or (λ quota. quota.state) o Disabled) ≡ false → option_map_or counts o false ≡ false → lasting (with_state R folder Rebuilding) ≡ lasting R
scan_quiet R folder None asc found d c = absurd (cc d)
scan_quiet R folder (Some quota) asc found d c =
    ap (λ quotas. record R { quotas = quotas; queue = []; unvisited = [] })
    (state_kept Rebuilding quota.state (waiting_kept quota.state d c) folder R.quotas ∙ ap (map flagged_quota) (own_state R folder quota asc found))

-- the last check of a scan
scan_enabled : (R : Rows) (path : List (List ℕ)) → first (scan_work R path).checks ≡ None → is_disabled (state_of R (target R.nodes path)) ≡ false
scan_enabled R path h =
    let disabled = is_disabled (state_of R (target R.nodes path)) in
    let last = (InvalidCombination when disabled) ∷ [] in
    let missing = (NotFound when is_none (quota_of R (target R.nodes path))) in
    let a = first_none (PathNotFound when not (leads_to_folder R.nodes path)) (missing ∷ last) h in
    let b = first_none missing last a.1 in
    when_none InvalidCombination disabled (first_none (InvalidCombination when disabled) [] b.1).0

pub scan_still : (K : Capacity) (R : Rows) (path : List (List ℕ)) → IsStill K R (scan_work R path)
scan_still K R path =
    record {
      orderly = record {
        answer = tt;
        checks = (bare _ _ refl, (bare _ _ refl, (bare _ _ refl, tt)));
        named = λ store h. tt;
        quiet = λ store h still. scan_quiet R (target R.nodes path) (quota_of R (target R.nodes path)) store.quotas.ascending refl (scan_enabled R path h) still;
        judged = λ j h. absurd (cc h);
      };
      same = refl;
      unjudged = refl;
    }

-- the folder of a quota is a node
quota_node : (R : Rows) (folder : ℕ) (o : Option QuotaRow) → AreQuotas R.nodes R.quotas → quota_of R folder ≡ o → is_some o ≡ true → has_row number folder R.nodes ≡ true
quota_node R folder None q e h = absurd cc
quota_node R folder (Some quota) q e h = folder_has R.nodes folder (q.folders folder quota e)

-- the folder whose scan is the active one is a node
head_node : (K : Capacity) (R : Rows) (queue : List ℕ) → IsValid K R → R.queue ≡ queue → (length queue == 0) ≡ false → has_row number (unwrap_or (head queue) 0) R.nodes ≡ true
head_node K R [] s e h = absurd cc
head_node K R (folder ∷ more) s e h =
    let here : is_in (folder ∷ more) folder ≡ true = ap (λ b. b || is_in more folder) (eq_same folder) in
    let there : has_row folder_of folder R.quotas ≡ true = s.queue.queued folder (ap (λ queue. is_in queue folder) e ∙ here) in
    quota_node R folder (quota_of R folder) s.quotas refl (is_some-find (λ quota. folder_of quota == folder) R.quotas ∙ there)

-- visits alone aren't kept
step_quiet : (R : Rows) (left : List ℕ) (scanned : ℕ) (ends : Bool) → ends ≡ false → lasting (if ends then with_state (record R { unvisited = left }) scanned Complete else record R { unvisited = left }) ≡ lasting R
step_quiet R left scanned true h = absurd (cc h)
step_quiet R left scanned false h = refl

pub step_still : (K : Capacity) (R : Rows) (n : ℕ) → IsStill K R (step_work K R n)
step_still K R n =
    record {
      orderly = record {
        answer = tt;
        checks = (bare _ _ refl, tt);
        named = λ store h.
            let none : (length R.queue == 0) ≡ false = when_none NothingToScan (length R.queue == 0) (first_none (NothingToScan when (length R.queue == 0)) [] h).0 in
            ap (has_row number (unwrap_or (head R.queue) 0)) (step_nodes K R n) ∙ head_node K R R.queue store refl none;
        quiet = λ store h still. step_quiet R (visits n R.nodes R.unvisited) (unwrap_or (head R.queue) 0) (length (visits n R.nodes R.unvisited) == 0) still;
        judged = λ j h. absurd (cc h);
      };
      same = step_nodes K R n;
      unjudged = refl;
    }

-- the first checks of a scan are those of a quota
scan_there : (R : Rows) (path : List (List ℕ)) → first (scan_work R path).checks ≡ None → has_row folder_of (target R.nodes path) R.quotas ≡ true
scan_there R path h =
    let folder = target R.nodes path in
    let missing = (PathNotFound when not (leads_to_folder R.nodes path)) in
    let none = (NotFound when is_none (quota_of R folder)) in
    let last = (InvalidCombination when is_disabled (state_of R folder)) ∷ [] in
    let a = first_none missing (none ∷ last) h in
    let b = first_none none last a.1 in
    quota_there R path (rw (a.0, b.0) refl)

-- the rows once a quota is in another state
pub state_followed : (K : Capacity) (R : Rows) (folder : ℕ) (state : QuotaState) → IsValid K R → has_row folder_of folder R.quotas ≡ true → IsValid K (followed R (with_state R folder state))
state_followed K R folder state s there =
    quotas_followed K R (with_change folder_of folder (in_state state) R.quotas) (queued R.queue folder state) s
    (state_quotas K R folder state R.quotas s.quotas)
    (sources-change R.templates folder (in_state state) R.quotas (λ q is. is) s.tables.sources)
    (state_texts R folder state s.texts)
    (queue_changed R.quotas R.queue folder state (in_state state) s.queue there (λ q. refl) (λ q. refl))

pub scan_kept : (K : Capacity) (R : Rows) (path : List (List ℕ)) → KeepsValid K R (scan_work R path)
scan_kept K R path s h = state_followed K R (target R.nodes path) Rebuilding s (scan_there R path h)

-- if scans wait, one is the first
pub some_head : (queue : List ℕ) → (length queue == 0) ≡ false → head queue ≡ Some (unwrap_or (head queue) 0)
some_head [] h = absurd (cc h)
some_head (n ∷ queue) h = refl

pub step_kept : (K : Capacity) (R : Rows) (n : ℕ) → KeepsValid K R (step_work K R n)
step_kept K R n s h =
    let none = when_none NothingToScan (length R.queue == 0) (first_none (NothingToScan when (length R.queue == 0)) [] h).0 in
    by (length left == 0) (s.queue.queued scanned (head_in R.queue scanned (some_head R.queue none)))
  where
    scanned : ℕ
    scanned = unwrap_or (head R.queue) 0

    left : List ℕ
    left = visits n R.nodes R.unvisited

    visited : Rows
    visited = record R { unvisited = left }

    goes : AreLeft R.nodes (head R.queue) left
    goes = left_visits n R.nodes (head R.queue) R.unvisited s.unvisited

    still : (queue : List ℕ) → same_head R.queue queue ≡ true → AreLeft R.nodes (head queue) left
    still queue same = subst (λ (o : Option ℕ). AreLeft R.nodes o left) (same_heads R.queue queue same) goes

    by : (ends : Bool) → has_row folder_of scanned R.quotas ≡ true → IsValid K (followed R (if ends then with_state visited scanned Complete else visited))
    by true there =
        let queue = queued R.queue scanned Complete in
        valid_with K R R.nodes (with_change folder_of scanned (in_state Complete) R.quotas) queue (if same_head R.queue queue then left else scan_begun R.nodes queue) R.last_moment s s.volume (all_stay R.nodes)
        (state_quotas K R scanned Complete R.quotas s.quotas)
        (sources-change R.templates scanned (in_state Complete) R.quotas (λ q is. is) s.tables.sources)
        (state_texts R scanned Complete s.texts)
        (queue_changed R.quotas R.queue scanned Complete (in_state Complete) s.queue there (λ q. refl) (λ q. refl))
        (left_followed K R.nodes R.queue queue left s.volume (still queue))
        s.last_moment
    by false there =
        valid_with K R R.nodes R.quotas R.queue (if same_head R.queue R.queue then left else scan_begun R.nodes R.queue) R.last_moment s s.volume (all_stay R.nodes) s.quotas s.tables.sources s.texts s.queue
        (left_followed K R.nodes R.queue R.queue left s.volume (still R.queue))
        s.last_moment

-- ---- over rows and over what is kept of them
pub scan_alike : (R : Rows) (path : List (List ℕ)) → WorksAlike (scan_work R path) (scan_work (lasting R) path)
scan_alike R path =
    let folder = target R.nodes path in
    record {
      checks = (refl, (quota_alike R path, (ap (λ b. InvalidCombination when b) (disabled_lasting R folder), tt)));
      effect = with_state_alike R folder Rebuilding Rebuilding refl R.quotas (kept R.quotas) (kept_twice R.quotas);
      outcome = refl;
      lasts = ap (λ o. option_map_or counts o false) (quota_lasting R folder) ∙ counts_found (quota_of R folder);
      judged = refl;
    }

-- ---- a step lasts if it finishes the scan
pub step_lasts : (K : Capacity) (R : Rows) (n : ℕ) → (step_work K R n).lasts ≡ is_finished_scan (step_work K R n).outcome
step_lasts K R n = at (length left == 0)
  where
    left : List ℕ
    left = visits n R.nodes R.unvisited

    scanned : ℕ
    scanned = unwrap_or (head R.queue) 0

    at : (b : Bool) → b ≡ is_finished_scan (Scanned scanned (length R.unvisited - length left) (if b then Some (usage K R.nodes scanned) else None))
    at true = refl
    at false = refl
