-- The queue of scans stays that of the rebuilding quotas when one comes, changes or goes.
use Rattle.std.proofs.Common.{◌≡◌, ℕ, ◌==◌, Bool, true, false, cond, not, ◌||◌, ◌&&◌, List, [], ◌∷◌, ◌++◌, Option, Some, None, ◌⊎◌, inl, inr, refl, ap, sym, ◌∙◌, subst}
use Rattle.std.proofs.lemmas.Option.{same_Some}
use Rattle.std.specs.Prelude.{is_some, map, option_map, nat_lt, if◌then◌else◌}
use Rattle.fsrm_model.specs.declared.row.Capacity.{Capacity}
use Rattle.fsrm_model.specs.declared.row.NodeRow.{NodeRow}
use Rattle.fsrm_model.specs.declared.row.QuotaRow.{QuotaRow}
use Rattle.fsrm_model.specs.declared.row.QuotaState.{QuotaState}
use Rattle.fsrm_base.specs.Keyed.{row_of, has_row, with_row, with_change, without_row}
use Rattle.fsrm_base.specs.Numbers.{itself, is_in, each_once, without_number}
use Rattle.fsrm_model.specs.objects.Quota.{folder_of, counts, peaked}
use Rattle.fsrm_model.specs.objects.QuotaStates.{is_rebuilding, queued}
use Rattle.fsrm_model.specs.nodes.Tree.{usage}
use Rattle.fsrm_model.specs.store.ValidScans.{IsQueue}
use Rattle.fsrm_base.proofs.EditedRows.{find-with_row_same}
use Rattle.fsrm_base.proofs.Look.{is_some-find, found_key, found_has, find-map, row_of-change, has_row-change, changed_found, row_of-new_other, row_of-without, has_row-without, has_row-without_other}
use Rattle.fsrm_model.proofs.commands.QuotaLaws.{peaked_folder}
use Rattle.fsrm_base.proofs.TestLaws.{is_or_not, both, both_true, clash, neither, eq_is, eq_same, eq_turned}

-- what is in a queue with one more
in_more : (queue : List ℕ) (n f : ℕ) → is_in (queue ++ n ∷ []) f ≡ (is_in queue f || (n == f))
in_more [] n f = at (n == f)
  where
    at : (b : Bool) → (b || false) ≡ b
    at true = refl
    at false = refl
in_more (k ∷ queue) n f = ap (λ b. (k == f) || b) (in_more queue n f) ∙ at (k == f) (is_in queue f) (n == f)
  where
    at : (a b c : Bool) → (a || (b || c)) ≡ ((a || b) || c)
    at true b c = refl
    at false b c = refl

or_true : (b : Bool) → (b || true) ≡ true
or_true true = refl
or_true false = refl

or_none : (b : Bool) → (b || false) ≡ b
or_none true = refl
or_none false = refl

-- A folder is in the queue then exactly if its quota is rebuilding, and each other one if it was
pub in_own : (queue : List ℕ) (n : ℕ) (state : QuotaState) → is_in (queued queue n state) n ≡ is_rebuilding state
in_own queue n state = at (is_rebuilding state) (is_in queue n) refl
  where
    at : (b d : Bool) → is_in queue n ≡ d → is_in (cond b (cond d queue (queue ++ n ∷ [])) (without_number n queue)) n ≡ b
    at true true e = e
    at true false e = in_more queue n n ∙ (ap (λ c. is_in queue n || c) (eq_same n) ∙ or_true (is_in queue n))
    at false d e = has_row-without itself n queue

pub in_other : (queue : List ℕ) (n f : ℕ) (state : QuotaState) → (f == n) ≡ false → is_in (queued queue n state) f ≡ is_in queue f
in_other queue n f state apart = at (is_rebuilding state) (is_in queue n)
  where
    at : (b d : Bool) → is_in (cond b (cond d queue (queue ++ n ∷ [])) (without_number n queue)) f ≡ is_in queue f
    at true true = refl
    at true false = in_more queue n f ∙ (ap (λ c. is_in queue f || c) (eq_turned f n apart) ∙ or_none (is_in queue f))
    at false d = has_row-without_other itself n f queue apart

-- each once
pub once_more : (queue : List ℕ) (n : ℕ) → is_in queue n ≡ false → each_once queue ≡ true → each_once (queue ++ n ∷ []) ≡ true
once_more [] n lacks once = refl
once_more (k ∷ queue) n lacks once =
    let no = neither (k == n) (is_in queue n) lacks in
    let old = both (not (is_in queue k)) (each_once queue) once in
    both_true (not (is_in (queue ++ n ∷ []) k)) (each_once (queue ++ n ∷ []))
    (ap not (in_more queue n k ∙ (ap (λ c. is_in queue k || c) (eq_turned k n no.0) ∙ or_none (is_in queue k))) ∙ old.0)
    (once_more queue n no.1 old.1)

once_less : (queue : List ℕ) (n : ℕ) → each_once queue ≡ true → each_once (without_number n queue) ≡ true
once_less [] n once = refl
once_less (k ∷ queue) n once =
    let old = both (not (is_in queue k)) (each_once queue) once in
    at (k == n) refl old.0 (once_less queue n old.1)
  where
    at : (b : Bool) → (k == n) ≡ b → not (is_in queue k) ≡ true → each_once (without_number n queue) ≡ true → each_once (cond (not b) (k ∷ without_number n queue) (without_number n queue)) ≡ true
    at true e fresh rest = rest
    at false e fresh rest =
        both_true (not (is_in (without_number n queue) k)) (each_once (without_number n queue))
        (ap not (has_row-without_other itself n k queue e) ∙ fresh) rest

pub once_queued : (queue : List ℕ) (n : ℕ) (state : QuotaState) → each_once queue ≡ true → each_once (queued queue n state) ≡ true
once_queued queue n state once = at (is_rebuilding state) (is_in queue n) refl
  where
    at : (b d : Bool) → is_in queue n ≡ d → each_once (cond b (cond d queue (queue ++ n ∷ [])) (without_number n queue)) ≡ true
    at true true e = once
    at true false e = once_more queue n e once
    at false d e = once_less queue n once

-- the queue is that of the rebuilding quotas, if one folder's quota came to be in a state
pub queue_set : (quotas after : List QuotaRow) (queue : List ℕ) (n : ℕ) (state : QuotaState) → IsQueue quotas queue → has_row folder_of n after ≡ true → ((q : QuotaRow) → row_of folder_of n after ≡ Some q → q.state ≡ state) → ((f : ℕ) → (f == n) ≡ false → row_of folder_of f after ≡ row_of folder_of f quotas) → IsQueue after (queued queue n state)
queue_set quotas after queue n state k there own other =
    record {
      once = once_queued queue n state k.once;
      queued = λ f h. has f h (is_or_not (f == n));
      rebuilding = λ f q found. is f q found (is_or_not (f == n));
    }
  where
    same : (f : ℕ) → (f == n) ≡ false → has_row folder_of f after ≡ has_row folder_of f quotas
    same f t = sym (is_some-find (λ q. folder_of q == f) after) ∙ (ap is_some (other f t) ∙ is_some-find (λ q. folder_of q == f) quotas)

    has : (f : ℕ) → is_in (queued queue n state) f ≡ true → ((f == n) ≡ true) ⊎ ((f == n) ≡ false) → has_row folder_of f after ≡ true
    has f h (inl t) = ap (λ k. has_row folder_of k after) (eq_is f n t) ∙ there
    has f h (inr t) = same f t ∙ k.queued f (sym (in_other queue n f state t) ∙ h)

    is : (f : ℕ) (q : QuotaRow) → row_of folder_of f after ≡ Some q → ((f == n) ≡ true) ⊎ ((f == n) ≡ false) → is_in (queued queue n state) f ≡ is_rebuilding q.state
    is f q found (inl t) =
        ap (is_in (queued queue n state)) (eq_is f n t)
        ∙ (in_own queue n state ∙ sym (ap is_rebuilding (own q (subst (λ k. row_of folder_of k after ≡ Some q) (eq_is f n t) found))))
    is f q found (inr t) = in_other queue n f state t ∙ k.rebuilding f q (sym (other f t) ∙ found)

-- the queue if a quota was added
pub queue_added : (quotas : List QuotaRow) (queue : List ℕ) (row : QuotaRow) → IsQueue quotas queue → has_row folder_of row.folder quotas ≡ false → IsQueue (with_row folder_of row quotas) (queued queue row.folder row.state)
queue_added quotas queue row k absent =
    let found = find-with_row_same folder_of (λ r. folder_of r == folder_of row) row quotas (eq_same (folder_of row)) absent in
    queue_set quotas (with_row folder_of row quotas) queue row.folder row.state k
    (found_has folder_of row.folder (with_row folder_of row quotas) row found)
    (λ q h. ap (λ (q : QuotaRow). q.state) (same_Some q row (sym h ∙ found)))
    (λ f t. row_of-new_other folder_of row f quotas t)

-- if one was changed
pub queue_changed : (quotas : List QuotaRow) (queue : List ℕ) (n : ℕ) (state : QuotaState) (c : QuotaRow → QuotaRow) → IsQueue quotas queue → has_row folder_of n quotas ≡ true → ((r : QuotaRow) → (c r).folder ≡ r.folder) → ((r : QuotaRow) → (c r).state ≡ state) → IsQueue (with_change folder_of n c quotas) (queued queue n state)
queue_changed quotas queue n state c k there keeps sets =
    queue_set quotas (with_change folder_of n c quotas) queue n state k (has_row-change folder_of n c keeps n quotas ∙ there) own
    (λ f t. row_of-change folder_of n c keeps f quotas ∙ other f t (row_of folder_of f quotas) refl)
  where
    own : (q : QuotaRow) → row_of folder_of n (with_change folder_of n c quotas) ≡ Some q → q.state ≡ state
    own q h =
        let w = changed_found folder_of n c keeps n quotas q h in
        ap (λ (q : QuotaRow). q.state) (w.is ∙ ap (λ b. cond b (c w.row) w.row) (eq_same n)) ∙ sets w.row

    other : (f : ℕ) → (f == n) ≡ false → (o : Option QuotaRow) → row_of folder_of f quotas ≡ o → option_map (λ r. if folder_of r == n then c r else r) o ≡ o
    other f t None h = refl
    other f t (Some r) h = ap (λ b. Some (cond b (c r) r)) (ap (λ k. k == n) (found_key folder_of f quotas r h) ∙ t)

-- and if peaks rose
peaked_state : (K : Capacity) (nodes : List NodeRow) (m : ℕ) (q : QuotaRow) → (peaked K nodes m q).state ≡ q.state
peaked_state K nodes m q = at (counts q && nat_lt q.peak (usage K nodes q.folder))
  where
    at : (b : Bool) → (cond b (record q { peak = usage K nodes q.folder; peak_at = m }) q).state ≡ q.state
    at true = refl
    at false = refl

-- beside quotas that keep their folders and states
pub queue_mapped : (g : QuotaRow → QuotaRow) (quotas : List QuotaRow) (queue : List ℕ) → ((q : QuotaRow) → (g q).folder ≡ q.folder) → ((q : QuotaRow) → (g q).state ≡ q.state) → IsQueue quotas queue → IsQueue (map g quotas) queue
queue_mapped g quotas queue folder state k =
    record {
      once = k.once;
      queued = λ f h. has f ∙ k.queued f h;
      rebuilding = λ f q found. by_row f q (row_of folder_of f quotas) refl (sym (finds f) ∙ found);
    }
  where
    finds : (f : ℕ) → row_of folder_of f (map g quotas) ≡ option_map g (row_of folder_of f quotas)
    finds f = find-map (λ q. folder_of q == f) g (λ q. ap (λ n. n == f) (folder q)) quotas

    mapped : (o : Option QuotaRow) → is_some (option_map g o) ≡ is_some o
    mapped None = refl
    mapped (Some q) = refl

    has : (f : ℕ) → has_row folder_of f (map g quotas) ≡ has_row folder_of f quotas
    has f =
        sym (is_some-find (λ q. folder_of q == f) (map g quotas))
        ∙ (ap is_some (finds f) ∙ (mapped (row_of folder_of f quotas) ∙ is_some-find (λ q. folder_of q == f) quotas))

    by_row : (f : ℕ) (q : QuotaRow) (o : Option QuotaRow) → row_of folder_of f quotas ≡ o → option_map g o ≡ Some q → is_in queue f ≡ is_rebuilding q.state
    by_row f q None h e = cc
    by_row f q (Some r) h e = k.rebuilding f r h ∙ ap is_rebuilding (sym (state r) ∙ ap (λ (q : QuotaRow). q.state) (same_Some (g r) q e))

pub queue_peaked : (K : Capacity) (nodes : List NodeRow) (m : ℕ) (quotas : List QuotaRow) (queue : List ℕ) → IsQueue quotas queue → IsQueue (map (peaked K nodes m) quotas) queue
queue_peaked K nodes m quotas queue k = queue_mapped (peaked K nodes m) quotas queue (peaked_folder K nodes m) (peaked_state K nodes m) k

-- the queue without a folder whose quota is gone
apart_in : (n f : ℕ) (queue : List ℕ) → is_in (without_number n queue) f ≡ true → ((f == n) ≡ false) × (is_in queue f ≡ true)
apart_in n f queue h = by (is_or_not (f == n))
  where
    by : ((f == n) ≡ true) ⊎ ((f == n) ≡ false) → ((f == n) ≡ false) × (is_in queue f ≡ true)
    by (inl e) = absurd (clash _ (subst (λ k. is_in (without_number n queue) k ≡ true) (eq_is f n e) h) (has_row-without itself n queue))
    by (inr e) = (e, sym (has_row-without_other itself n f queue e) ∙ h)

pub queue_without : (quotas : List QuotaRow) (queue : List ℕ) (n : ℕ) → IsQueue quotas queue → IsQueue (without_row folder_of n quotas) (without_number n queue)
queue_without quotas queue n k =
    record {
      once = once_less queue n k.once;
      queued = λ f h. let both = apart_in n f queue h in has_row-without_other folder_of n f quotas both.0 ∙ k.queued f both.1;
      rebuilding = λ f q found. by f q found (is_or_not (f == n));
    }
  where
    by : (f : ℕ) (q : QuotaRow) → row_of folder_of f (without_row folder_of n quotas) ≡ Some q → ((f == n) ≡ true) ⊎ ((f == n) ≡ false) → is_in (without_number n queue) f ≡ is_rebuilding q.state
    by f q found (inl t) =
        absurd (clash (has_row folder_of f (without_row folder_of n quotas)) (found_has folder_of f (without_row folder_of n quotas) q found)
        (ap (λ k. has_row folder_of k (without_row folder_of n quotas)) (eq_is f n t) ∙ has_row-without folder_of n quotas))
    by f q found (inr t) = has_row-without_other itself n f queue t ∙ k.rebuilding f q (sym (row_of-without folder_of n f quotas t) ∙ found)

-- the queue beside quotas of the same states
pub queue_same : (quotas : List QuotaRow) (queue : List ℕ) (n : ℕ) (c : QuotaRow → QuotaRow) → ((r : QuotaRow) → (c r).folder ≡ r.folder) → ((r : QuotaRow) → (c r).state ≡ r.state) → IsQueue quotas queue → IsQueue (with_change folder_of n c quotas) queue
queue_same quotas queue n c folder state k =
    record {
      once = k.once;
      queued = λ f h. has_row-change folder_of n c folder f quotas ∙ k.queued f h;
      rebuilding = λ f q found.
          let was = changed_found folder_of n c folder f quotas q found in
          k.rebuilding f was.row was.found ∙ ap is_rebuilding (sym (by (f == n) was.row) ∙ ap (λ (r : QuotaRow). r.state) (sym was.is));
    }
  where
    by : (b : Bool) (r : QuotaRow) → (if b then c r else r).state ≡ r.state
    by true r = state r
    by false r = refl
