-- What each file operation leaves to the active scan.
use Rattle.std.proofs.Common.{◌≡◌, ℕ, suc, length, ◌==◌, ◌≤◌, Bool, true, false, List, [], Option, Some, None, refl, ap, subst, sym, ◌∙◌}
use Rattle.std.proofs.lemmas.Option.{same_Some}
use Rattle.std.specs.Prelude.{Result, Ok, Err, OnOk, map, if◌then◌else◌}
use Rattle.std.specs.Option.{option_map_or}
use Rattle.fsrm_model.specs.declared.command.Deed.TheVariants.{File}
use Rattle.fsrm_model.specs.declared.command.FileOp.{FileOp}
use Rattle.fsrm_model.specs.declared.command.FileOp.TheVariants as op
use Rattle.fsrm_model.specs.declared.command.FileOp.TheVariants.{Mkdir, Create, Resize, Touch, Remove}
use Rattle.fsrm_model.specs.declared.row.AutoRow.{AutoRow}
use Rattle.fsrm_model.specs.declared.row.JobRow.{JobRow}
use Rattle.fsrm_model.specs.declared.row.NodeRow.{NodeRow}
use Rattle.fsrm_model.specs.declared.row.QuotaRow.{QuotaRow}
use Rattle.fsrm_model.specs.declared.row.Rows.{Rows}
use Rattle.fsrm_model.specs.declared.row.ScreenRow.{ScreenRow}
use Rattle.fsrm_model.specs.declared.row.ExceptRow.{ExceptRow}
use Rattle.fsrm_model.specs.nodes.FileOps.{made_node, target, target_folder, placed, plain}
use Rattle.fsrm_model.specs.commands.FileWork.{unvisited_in, file_effect}
use Rattle.fsrm_base.specs.Keyed.{has_row, with_row, with_change}
use Rattle.fsrm_base.specs.Numbers.{is_in, without_number}
use Rattle.fsrm_model.specs.objects.Quota.{peaked}
use Rattle.fsrm_model.specs.objects.QuotaStates.{followed, head, scan_begun}
use Rattle.fsrm_model.specs.objects.Scan.{unvisited_with, unvisited_moved}
use Rattle.fsrm_model.specs.nodes.Tree.{number, node_of, fresh, is_folder, folder_part, last_name, resolve, chain}
use Rattle.fsrm_model.specs.store.Valid.{IsVolume}
use Rattle.fsrm_base.proofs.Look.{found_has}
use Rattle.fsrm_model.proofs.nodes.ChainLaws.{Has, chain-new}
use Rattle.fsrm_model.proofs.nodes.Keeps.{found_folder, tree_of, as_suc}
use Rattle.fsrm_base.proofs.Order.{least_free_is}
use Rattle.fsrm_base.proofs.TestLaws.{clash, not_true, eq_is}
use Rattle.fsrm_model.proofs.valid.ValidLaws.{folder_has}
use Rattle.rescan.proofs.followed.FollowLaws.{made_back, made_found}
use Rattle.fsrm_objects.specs.Tables.{Tables}
use Rattle.rescan.specs.Courses.{Course, Scanning, Goes, left}
use Rattle.rescan.proofs.queued.Queues.{left_absent}
use Rattle.node_table.specs.declared.view.NodeView.{NodeView}
use Rattle.volume_tree.specs.Volume.{Volume, Move, Shows, with_node, without_node, with_place}
use Rattle.fsrm_engine.specs.declared.parts.Parts.{Parts}
use Rattle.fsrm_engine.specs.Machine.{IsIdle, rows_of}
use Rattle.fsrm_parts.specs.Places.{IsPlace}
use Rattle.fsrm_parts.proofs.walks.PlaceLaws.{target_is}
use Rattle.fsrm_engine.proofs.steps.StepLaws.{Accepts, Keeps, asked, due, followed_rows, same_own, still_idle}

-- the rows that a file operation leaves, table by table
effect_is : (R : Rows) (op : FileOp) (m : ℕ) → file_effect R op m ≡ record R { nodes = plain R.nodes op m; autos = (file_effect R op m).autos; quotas = (file_effect R op m).quotas; screens = (file_effect R op m).screens; excepts = (file_effect R op m).excepts; jobs = (file_effect R op m).jobs; queue = (file_effect R op m).queue; unvisited = option_map_or (unvisited_in R (plain R.nodes op m) op) (head R.queue) [] }
effect_is R (Mkdir path owner) m = refl
effect_is R (Create path length owner) m = refl
effect_is R (Resize path length) m = refl
effect_is R (Touch path) m = refl
effect_is R (op.Move from to) m = refl
effect_is R (Remove path) m = refl

-- what it leaves of the tables of objects
pub record LeavesTables (R : Rows) (op : FileOp) (m : ℕ) (quotas : List QuotaRow) (tables : Tables) (autos : List AutoRow) : Type 0 where
  pub quotas_are : (file_effect R op m).quotas ≡ quotas
  pub screens_are : (file_effect R op m).screens ≡ tables.screens
  pub excepts_are : (file_effect R op m).excepts ≡ tables.excepts
  pub jobs_are : (file_effect R op m).jobs ≡ tables.jobs
  pub autos_are : (file_effect R op m).autos ≡ autos

pub effect_as : (R : Rows) (op : FileOp) (m : ℕ) (nodes : List NodeRow) (quotas : List QuotaRow) (tables : Tables) (autos : List AutoRow) (queue : List ℕ) → plain R.nodes op m ≡ nodes → LeavesTables R op m quotas tables autos → (file_effect R op m).queue ≡ queue → file_effect R op m ≡ record R { nodes = nodes; autos = autos; quotas = quotas; screens = tables.screens; excepts = tables.excepts; jobs = tables.jobs; queue = queue; unvisited = option_map_or (unvisited_in R (plain R.nodes op m) op) (head R.queue) [] }
effect_as R op m nodes quotas tables autos queue nodes_are leaves queue_is =
    let u = option_map_or (unvisited_in R (plain R.nodes op m) op) (head R.queue) [] in
    let E = file_effect R op m in
    let of : List NodeRow → List AutoRow → List QuotaRow → List ScreenRow → List ExceptRow → List JobRow → List ℕ → Rows =
    λ nodes autos quotas screens excepts jobs queue. record R { nodes = nodes; autos = autos; quotas = quotas; screens = screens; excepts = excepts; jobs = jobs; queue = queue; unvisited = u } in
    effect_is R op m
    ∙ (ap (λ ns. of ns E.autos E.quotas E.screens E.excepts E.jobs E.queue) nodes_are
    ∙ (ap (λ as'. of nodes as' E.quotas E.screens E.excepts E.jobs E.queue) leaves.autos_are
    ∙ (ap (λ qs. of nodes autos qs E.screens E.excepts E.jobs E.queue) leaves.quotas_are
    ∙ (ap (λ ss. of nodes autos quotas ss E.excepts E.jobs E.queue) leaves.screens_are
    ∙ (ap (λ es. of nodes autos quotas tables.screens es E.jobs E.queue) leaves.excepts_are
    ∙ (ap (λ js. of nodes autos quotas tables.screens tables.excepts js E.queue) leaves.jobs_are
    ∙ ap (of nodes autos quotas tables.screens tables.excepts tables.jobs) queue_is))))))

option_each : (f g : ℕ → List ℕ) (o : Option ℕ) → ((n : ℕ) → f n ≡ g n) → option_map_or f o [] ≡ option_map_or g o []
option_each f g None h = refl
option_each f g (Some n) h = h n

-- the rows that an operation makes which leaves the queue as it was
pub op_made : (p mid : Parts) (m : ℕ) (op : FileOp) (quotas : List QuotaRow) (next : ℕ → List ℕ) → plain p.tree.nodes op m ≡ mid.tree.nodes → LeavesTables (rows_of p) op m quotas mid.objects p.templates.autos → (file_effect (rows_of p) op m).queue ≡ p.scans.queue → ((k : ℕ) → unvisited_in (rows_of p) (plain p.tree.nodes op m) op k ≡ next k) → Goes p.scans mid.scans mid.tree next → Keeps p mid → followed (rows_of p) (asked p m (File op)).effect ≡ record (rows_of mid) { quotas = quotas }
op_made p mid m op quotas next nodes leaves queue each goes kept =
    let R = rows_of p in
    let u = option_map_or (unvisited_in R (plain R.nodes op m) op) (head R.queue) [] in
    followed_rows p mid (asked p m (File op)).effect quotas p.scans.queue u kept
    (effect_as R op m mid.tree.nodes quotas mid.objects p.templates.autos p.scans.queue nodes leaves queue) goes.queue
    (goes.left_is
    ∙ (sym (option_each (unvisited_in R (plain R.nodes op m) op) next (head R.queue) each)
    ∙ sym (ap (λ b. if b then u else scan_begun mid.tree.nodes p.scans.queue) (same_own p.scans.queue))))

-- it is taken if no check refuses it
pub op_accepts : (p mid : Parts) (m : ℕ) (op : FileOp) (quotas : List QuotaRow) (next : ℕ → List ℕ) → IsIdle p → p.last_moment ≤ m → due p m (File op) ≡ None → plain p.tree.nodes op m ≡ mid.tree.nodes → LeavesTables (rows_of p) op m quotas mid.objects p.templates.autos → (file_effect (rows_of p) op m).queue ≡ p.scans.queue → ((k : ℕ) → unvisited_in (rows_of p) (plain p.tree.nodes op m) op k ≡ next k) → Goes p.scans mid.scans mid.tree next → Keeps p mid → map (peaked p.tree.size mid.tree.nodes m) mid.objects.quotas ≡ map (peaked p.tree.size mid.tree.nodes m) quotas → Accepts p mid m (File op)
op_accepts p mid m op quotas next idle after none nodes leaves queue each goes kept raised = record {
  quotas = quotas;
  after = after;
  none = none;
  lasts = refl;
  size = kept.size;
  idle = still_idle p mid kept idle;
  made = op_made p mid m op quotas next nodes leaves queue each goes kept;
  raised = raised;
}

-- a node that was made
pub record IsMade (v w : Volume) (n : ℕ) (row : NodeRow) : Type 0 where
  pub found : node_of w.nodes n ≡ Some row
  pub there : has_row number n w.nodes ≡ true
  pub kind : is_folder w.nodes n ≡ row.folder
  pub back : without_node w n ≡ v

pub is_made : (v w : Volume) (n d : ℕ) (name : List ℕ) (folder : Bool) (bytes owner m : ℕ) → IsVolume v.size v.nodes → w ≡ with_node v (made_node v.nodes d name folder bytes owner m) → n ≡ fresh v.nodes → IsMade v w n (made_node v.nodes d name folder bytes owner m)
is_made v w n d name folder bytes owner m k made is =
    let row = made_node v.nodes d name folder bytes owner m in
    let free : has_row number row.number v.nodes ≡ false = (least_free_is number v.nodes k.ascending).free in
    let at : node_of (with_node v row).nodes n ≡ Some row = ap (node_of (with_node v row).nodes) is ∙ made_found v row free in
    let found : node_of w.nodes n ≡ Some row = ap (λ (u : Volume). node_of u.nodes n) made ∙ at in
    record {
      found = found;
      there = found_has number n w.nodes row found;
      kind = found_folder w.nodes n row found;
      back = ap (λ (u : Volume). without_node u n) made ∙ (ap (without_node (with_node v row)) is ∙ made_back v row free);
    }

pub back_scans : (v w : Volume) (n : ℕ) (s : Course) → without_node w n ≡ v → Scanning v s → Scanning (without_node w n) s
back_scans v w n s back h = subst (λ (u : Volume). Scanning u s) (sym back) h

-- what a new file and a new folder leave
pub left_back : (p : Parts) (w : Volume) (n : ℕ) → without_node w n ≡ p.tree → left p.tree.nodes p.scans ≡ left (without_node w n).nodes p.scans
left_back p w n back = ap (λ (u : Volume). left u.nodes p.scans) (sym back)

pub mkdir_next : (p : Parts) (w : Volume) (path : List (List ℕ)) (d : ℕ) (name : List ℕ) (owner m n : ℕ) (nodes : List NodeRow) → IsPlace p.tree.nodes path d name → without_node w n ≡ p.tree → (k : ℕ) → unvisited_in (rows_of p) nodes (Mkdir path owner) k ≡ unvisited_with (made_node p.tree.nodes d name true 0 owner m) (left (without_node w n).nodes p.scans)
mkdir_next p w path d name owner m n nodes at back k =
    let row = λ (f : ℕ). made_node p.tree.nodes f name true 0 owner m in
    ap (λ f. unvisited_with (row f) (left p.tree.nodes p.scans)) (target_is p.tree.nodes (folder_part path) d at.resolved)
    ∙ ap (λ (u : Volume). unvisited_with (row d) (left u.nodes p.scans)) (sym back)

-- what a move leaves
pub move_next : (p : Parts) (from to : List (List ℕ)) (x d : ℕ) (name : List ℕ) (nodes : List NodeRow) → resolve p.tree.nodes from ≡ Some x → IsPlace p.tree.nodes to d name → nodes ≡ (with_place p.tree x d name).nodes → (k : ℕ) → unvisited_in (rows_of p) nodes (op.Move from to) k ≡ unvisited_moved p.tree.nodes (with_place p.tree x d name).nodes k x d (left p.tree.nodes p.scans)
move_next p from to x d name nodes at place is k =
    let v = p.tree in
    let s = p.scans in
    ap (λ (ns : List NodeRow). unvisited_moved v.nodes ns k (target v.nodes from) (target_folder v.nodes to) (left v.nodes s)) is
    ∙ (ap (λ y. unvisited_moved v.nodes (with_place v x d name).nodes k y (target_folder v.nodes to) (left v.nodes s)) (target_is v.nodes from x at)
    ∙ ap (λ f. unvisited_moved v.nodes (with_place v x d name).nodes k x f (left v.nodes s)) (target_is v.nodes (folder_part to) d place.resolved))

-- a file is in no queue
pub file_absent : (v : Volume) (s : Course) (x : ℕ) → Scanning v s → is_folder v.nodes x ≡ false → without_number x s.queue ≡ s.queue
file_absent v s x h file = left_absent x s.queue (not_true (is_in s.queue x) (λ e. clash (is_folder v.nodes x) (h.folders x e) file))

-- scans over nodes that are made so
pub goes_to : (s t : Course) (w u : Volume) (next : ℕ → List ℕ) → w ≡ u → Goes s t u next → Goes s t w next
goes_to s t w u next is h = subst (λ (x : Volume). Goes s t x next) (sym is) h

pub volume_is : (w u : Volume) → w ≡ u → IsVolume w.size w.nodes → IsVolume u.size u.nodes
volume_is w u is h = subst (λ (x : Volume). IsVolume x.size x.nodes) is h

-- the length of the file that is shown, and of the one that was made
pub shown_length : (nodes : List NodeRow) (n : ℕ) (view : NodeView) (row : NodeRow) → Shows view nodes n → node_of nodes n ≡ Some row → row.length ≡ view.length
shown_length nodes n view row shows found =
    ap (λ (r : NodeRow). r.length) (same_Some row shows.row (sym found ∙ shows.found)) ∙ sym shows.is.bytes

pub made_length : (v w : Volume) (n : ℕ) (made row : NodeRow) → IsMade v w n made → node_of w.nodes n ≡ Some row → row.length ≡ made.length
made_length v w n made row is found = ap (λ (r : NodeRow). r.length) (same_Some row made (sym found ∙ is.found))

-- the way up from what was made
pub made_chain : (v w : Volume) (n d : ℕ) (name : List ℕ) (folder : Bool) (bytes owner m : ℕ) → IsVolume v.size v.nodes → is_folder v.nodes d ≡ true → w ≡ with_node v (made_node v.nodes d name folder bytes owner m) → n ≡ fresh v.nodes → length (chain w.nodes n) ≡ suc (length (chain v.nodes d))
made_chain v w n d name folder bytes owner m k is made at =
    let row = made_node v.nodes d name folder bytes owner m in
    let free : has_row number (fresh v.nodes) v.nodes ≡ false = (least_free_is number v.nodes k.ascending).free in
    let inner : (fresh v.nodes == 0) ≡ false = not_true _ (λ e. clash _ (subst (Has v.nodes) (sym (eq_is _ _ e)) k.has_root) free) in
    let s = as_suc (fresh v.nodes) inner in
    ap (λ (u : Volume). length (chain u.nodes n)) made
    ∙ (ap (λ x. length (chain (with_row number row v.nodes) x)) at
    ∙ ap length (chain-new v.nodes (tree_of v.size v.nodes k) row s.0 s.1 free (folder_has v.nodes d is)))

-- a removal leaves the queue but for the node, and to the active scan all but it
pub remove_queue : (p : Parts) (m : ℕ) (path : List (List ℕ)) (n : ℕ) → resolve p.tree.nodes path ≡ Some n → (file_effect (rows_of p) (Remove path) m).queue ≡ without_number n p.scans.queue
remove_queue p m path n at = ap (λ x. without_number x p.scans.queue) (target_is p.tree.nodes path n at)

pub remove_next : (p : Parts) (path : List (List ℕ)) (n : ℕ) (nodes : List NodeRow) → resolve p.tree.nodes path ≡ Some n → (k : ℕ) → unvisited_in (rows_of p) nodes (Remove path) k ≡ without_number n (left p.tree.nodes p.scans)
remove_next p path n nodes at k = ap (λ x. without_number x (left p.tree.nodes p.scans)) (target_is p.tree.nodes path n at)

-- what is known of a call that succeeded
pub when_ok : {A E : Type 0} {P : Type 0} (r : Result A E) (u : A) → r ≡ Ok u → OnOk r P → P
when_ok (Ok x) u is h = h
when_ok (Err e) u is h = absurd (cc is)

-- a move that was ready is made
pub made_ready : (v w : Volume) (ready : Move) (n d : ℕ) (name : List ℕ) → ready ≡ record { node = n; folder = d; name = name } → w ≡ with_place v ready.node ready.folder ready.name → w ≡ with_place v n d name
made_ready v w ready n d name is made = made ∙ ap (λ (m : Move). with_place v m.node m.folder m.name) is

-- its nodes are those of the definition
pub move_nodes : (v : Volume) (from to : List (List ℕ)) (x d : ℕ) (name : List ℕ) (m : ℕ) → resolve v.nodes from ≡ Some x → IsPlace v.nodes to d name → plain v.nodes (op.Move from to) m ≡ (with_place v x d name).nodes
move_nodes v from to x d name m at p =
    ap (λ y. with_change number y (placed (target_folder v.nodes to) (last_name to)) v.nodes) (target_is v.nodes from x at)
    ∙ (ap (λ f. with_change number x (placed f (last_name to)) v.nodes) (target_is v.nodes (folder_part to) d p.resolved)
    ∙ ap (λ k. with_change number x (placed d k) v.nodes) p.name_is)
