-- A folder that moves gets the quota before that it would get after: its name and its folder are known, and its children move with it.
use Rattle.std.proofs.Common.{◌≡◌, ℕ, ◌==◌, ◌&&◌, Bool, true, false, cond, List, [], ◌∷◌, ◌++◌, Option, Some, None, refl, ap, sym, ◌∙◌}
use Rattle.std.specs.Prelude.{is_some, option_to_list, if◌then◌else◌}
use Rattle.std.specs.Option.{option_map_or}
use Rattle.fsrm_base.specs.Keyed.{with_change}
use Rattle.fsrm_base.specs.Numbers.{is_in, without_number}
use Rattle.fsrm_base.proofs.NumberLaws.{same_set}
use Rattle.fsrm_base.proofs.TestLaws.{clash, eq_same}
use Rattle.fsrm_model.specs.declared.command.FileOp.TheVariants.{Move}
use Rattle.fsrm_model.specs.declared.row.Capacity.{Capacity}
use Rattle.fsrm_model.specs.declared.row.NodeRow.{NodeRow}
use Rattle.fsrm_model.specs.declared.row.QuotaRow.{QuotaRow}
use Rattle.fsrm_model.specs.declared.row.QuotaState.{QuotaState}
use Rattle.fsrm_model.specs.declared.row.Rows.{Rows}
use Rattle.fsrm_model.specs.objects.AutoApply.{applied, template_for}
use Rattle.fsrm_model.specs.nodes.FileOps.{placed, plain, target}
use Rattle.fsrm_model.specs.commands.FileWork.{coming_quotas}
use Rattle.fsrm_model.specs.nodes.Leads.{leads_to_folder}
use Rattle.fsrm_model.specs.objects.Quota.{quota_of}
use Rattle.fsrm_model.specs.objects.QuotaStates.{head, is_rebuilding, queued, same_head, scan_begun, start}
use Rattle.fsrm_model.specs.objects.Scan.{folders_under, unvisited_moved}
use Rattle.fsrm_model.specs.nodes.Tree.{number, is_folder, is_under, resolve}
use Rattle.fsrm_model.specs.store.Valid.{IsVolume}
use Rattle.fsrm_model.proofs.nodes.Below.{below_moved}
use Rattle.fsrm_model.proofs.nodes.Climbs.{under_own}
use Rattle.fsrm_model.proofs.nodes.Keeps.{folder-change, moves_at, tree_of}
use Rattle.fsrm_model.proofs.templates.ComingLaws.{applied_moved}
use Rattle.fsrm_model.proofs.valid.UnvisitedKept.{in_folders, unvisited_begun}
use Rattle.fsrm_model.proofs.valid.ValidLaws.{folder_has}
use Rattle.rescan.specs.Courses.{Course, Goes, Turns, left}
use Rattle.rescan.proofs.queued.Queues.{left_absent}
use Rattle.volume_tree.specs.Volume.{Volume}
use Rattle.fsrm_parts.specs.Places.{IsPlace}
use Rattle.fsrm_engine.specs.Arrivals.{from_source, queue_given}
use Rattle.fsrm_parts.specs.Moves.{moved_source}
use Rattle.fsrm_engine.proofs.operations.ChangeLaws.{MovesTo}
use Rattle.fsrm_engine.proofs.operations.FollowLaws.{move_nodes}
use Rattle.fsrm_engine.proofs.operations.GoingLaws.{head_same}
use Rattle.fsrm_parts.proofs.walks.PlaceLaws.{leads_to_folder_is, target_is}
use Rattle.fsrm_engine.proofs.steps.StepLaws.{same_own}

-- ---- which quota comes
-- the one that it gets is that of its source
source_by : (R : Rows) (x d : ℕ) (name : List ℕ) (state : QuotaState) (m : ℕ) → (if is_some (quota_of R x) then None else from_source R.templates x state m (template_for R.autos d name)) ≡ from_source R.templates x state m (if is_some (quota_of R x) then None else template_for R.autos d name)
source_by R x d name state m = at (is_some (quota_of R x))
  where
    at : (b : Bool) → cond b None (from_source R.templates x state m (template_for R.autos d name)) ≡ from_source R.templates x state m (cond b None (template_for R.autos d name))
    at true = refl
    at false = refl

pub coming_moved : (K : Capacity) (R : Rows) (m : ℕ) (from to : List (List ℕ)) (x d : ℕ) (name : List ℕ) (left : List ℕ) (moves_folder : Bool) → IsVolume K R.nodes → resolve R.nodes from ≡ Some x → MovesTo R.nodes x d → IsPlace R.nodes to d name → is_folder R.nodes x ≡ moves_folder → coming_quotas (Move from to) R (record R { nodes = plain R.nodes (Move from to) m; unvisited = left }) m ≡ option_to_list (from_source R.templates x (start R.nodes x) m (moved_source R.quotas R.autos x moves_folder d name))
coming_moved K R m from to x d name left moves_folder v at to_it place kind =
    let after : List NodeRow → Rows = λ nodes. record R { nodes = nodes; unvisited = left } in
    let size : Volume = record { size = K; nodes = R.nodes } in
    let by : Bool → List NodeRow → ℕ → List QuotaRow = λ b nodes n. if b then option_to_list (applied (after nodes) m n) else [] in
    ap (λ ns. by (leads_to_folder R.nodes from) ns (target R.nodes from)) (move_nodes size from to x d name m at place)
    ∙ (ap (by (leads_to_folder R.nodes from) (with_change number x (placed d name) R.nodes)) (target_is R.nodes from x at)
    ∙ (ap (λ b. by b (with_change number x (placed d name) R.nodes) x) (leads_to_folder_is R.nodes from x at ∙ kind)
    ∙ of_kind moves_folder))
  where
    of_kind : (b : Bool) → (if b then option_to_list (applied (record R { nodes = with_change number x (placed d name) R.nodes; unvisited = left }) m x) else []) ≡ option_to_list (from_source R.templates x (start R.nodes x) m (moved_source R.quotas R.autos x b d name))
    of_kind true = ap option_to_list (applied_moved K R left x d name to_it.row m v to_it.inner to_it.found to_it.apart ∙ source_by R x d name (start R.nodes x) m)
    of_kind false = refl

-- ---- what its scan has to visit, if it begins
pub folders_moved : (K : Capacity) (nodes : List NodeRow) (x d : ℕ) (name : List ℕ) → IsVolume K nodes → IsVolume K (with_change number x (placed d name) nodes) → MovesTo nodes x d → folders_under (with_change number x (placed d name) nodes) x ≡ folders_under nodes x
folders_moved K nodes x d name v k m =
    same_set (folders_under new x) (folders_under nodes x) (unvisited_begun K new x k).ascending (unvisited_begun K nodes x v).ascending
    (λ n. in_folders K new x n k ∙ (ap (λ b. b && is_under new x n) (folder-change nodes x n (placed d name) (λ r. refl) (λ r. refl))
    ∙ (below n (is_folder nodes n) refl ∙ sym (in_folders K nodes x n v))))
  where
    new : List NodeRow
    new = with_change number x (placed d name) nodes

    below : (n : ℕ) (b : Bool) → is_folder nodes n ≡ b → (b && is_under new x n) ≡ (b && is_under nodes x n)
    below n true e =
        let moves = moves_at nodes x d name m.row (tree_of K nodes v) m.found m.inner m.folder m.apart in
        below_moved nodes new x d moves x n moves.has_moved (under_own nodes x) (folder_has nodes n e)
    below n false e = refl

-- ---- the queue
-- whether it has another head now: if so the folder is alone in it
other_head : (queue : List ℕ) (x : ℕ) (state : QuotaState) → is_in queue x ≡ false → same_head queue (queued queue x state) ≡ false → head (queued queue x state) ≡ Some x
other_head queue x state absent other = at (is_rebuilding state) other
  where
    pushed : (queue : List ℕ) → same_head queue (queue ++ x ∷ []) ≡ false → head (queue ++ x ∷ []) ≡ Some x
    pushed [] h = refl
    pushed (n ∷ ns) h = absurd (clash (n == n) (eq_same n) h)

    stays : (now : List ℕ) → now ≡ queue → same_head queue now ≡ false → head now ≡ Some x
    stays now is h = absurd (clash (same_head queue queue) (same_own queue) (sym (ap (same_head queue) is) ∙ h))

    at : (b : Bool) → same_head queue (if b then (if is_in queue x then queue else queue ++ x ∷ []) else without_number x queue) ≡ false → head (if b then (if is_in queue x then queue else queue ++ x ∷ []) else without_number x queue) ≡ Some x
    at true h =
        let is = ap (λ b. if b then queue else queue ++ x ∷ []) absent in
        ap head is ∙ pushed queue (sym (ap (same_head queue) is) ∙ h)
    at false h = stays (without_number x queue) (left_absent x queue absent) h

pub given_head : (queue : List ℕ) (x : ℕ) (given : Option QuotaRow) → ((row : QuotaRow) → given ≡ Some row → row.folder ≡ x) → is_in queue x ≡ false → same_head queue (queue_given queue given) ≡ false → head (queue_given queue given) ≡ Some x
given_head queue x None on absent other = absurd (clash (same_head queue queue) (same_own queue) other)
given_head queue x (Some row) on absent other =
    let is = ap (λ n. queued queue n row.state) (on row refl) in
    ap head is ∙ other_head queue x row.state absent (sym (ap (same_head queue) is) ∙ other)

-- the scan of the folder that moves goes on as it was
taken : {X : Type 0} (b : Bool) (x y : X) → b ≡ true → cond b x y ≡ x
taken true x y h = refl
taken false x y h = absurd (cc h)

own_scan : (before after : List NodeRow) (x d : ℕ) (us : List ℕ) → unvisited_moved before after x x d us ≡ us
own_scan before after x d us = taken (is_under before x x) us _ (under_own before x)

-- the active scan goes on over the moved nodes, or the one that began with the quota does
pub moved_left : (s r t : Course) (v w : Volume) (x d : ℕ) → Turns s r v → Goes r t w (λ scanned. unvisited_moved v.nodes w.nodes scanned x d (left v.nodes r)) → folders_under w.nodes x ≡ folders_under v.nodes x → (same_head s.queue r.queue ≡ false → head r.queue ≡ Some x) →
    left w.nodes t ≡ (if same_head s.queue r.queue then option_map_or (λ scanned. unvisited_moved v.nodes w.nodes scanned x d (left v.nodes s)) (head s.queue) [] else scan_begun w.nodes r.queue)
moved_left s r t v w x d turns goes folders alone = goes.left_is ∙ by (same_head s.queue r.queue) refl turns.left_is
  where
    by : (b : Bool) → same_head s.queue r.queue ≡ b → left v.nodes r ≡ (if b then left v.nodes s else scan_begun v.nodes r.queue) → option_map_or (λ scanned. unvisited_moved v.nodes w.nodes scanned x d (left v.nodes r)) (head r.queue) [] ≡ (if b then option_map_or (λ scanned. unvisited_moved v.nodes w.nodes scanned x d (left v.nodes s)) (head s.queue) [] else scan_begun w.nodes r.queue)
    by true e was =
        ap (λ ns. option_map_or (λ scanned. unvisited_moved v.nodes w.nodes scanned x d ns) (head r.queue) []) was
        ∙ ap (λ o. option_map_or (λ scanned. unvisited_moved v.nodes w.nodes scanned x d (left v.nodes s)) o []) (sym (head_same s.queue r.queue e))
    by false e was =
        let first = alone e in
        let own : left v.nodes r ≡ folders_under v.nodes x = was ∙ ap (λ o. option_map_or (folders_under v.nodes) o []) first in
        ap (λ o. option_map_or (λ scanned. unvisited_moved v.nodes w.nodes scanned x d (left v.nodes r)) o []) first
        ∙ (own_scan v.nodes w.nodes x d (left v.nodes r)
        ∙ (own ∙ (sym folders ∙ sym (ap (λ o. option_map_or (folders_under w.nodes) o []) first))))
