-- A removal that can't be refused, and what that of a folder leaves to the scans.
use Rattle.std.proofs.Common.{◌≡◌, ℕ, ◌==◌, ◌≤◌, Bool, true, false, not, ◌&&◌, List, [], ◌∷◌, length, Option, Some, None, ◌<◌, arith, refl, ap, sym, ◌∙◌}
use Rattle.std.specs.Prelude.{filter, Result, Ok, Err, IfErr, if◌then◌else◌}
use Rattle.std.specs.Result.{IsOk}
use Rattle.std.specs.Option.{option_map_or}
use Rattle.fsrm_base.specs.Causes.{◌when◌}
use Rattle.fsrm_model.specs.declared.command.Deed.TheVariants.{File}
use Rattle.fsrm_model.specs.declared.command.FileOp.TheVariants.{Remove}
use Rattle.fsrm_model.specs.declared.row.NodeRow.{NodeRow}
use Rattle.fsrm_model.specs.nodes.FileOps.{plain}
use Rattle.fsrm_model.specs.commands.FileWork.{unvisited_in}
use Rattle.fsrm_model.specs.objects.Quota.{folder_of}
use Rattle.fsrm_model.specs.objects.AutoApply.{auto_folder}
use Rattle.fsrm_base.specs.Keyed.{without_row}
use Rattle.fsrm_base.specs.Numbers.{is_in, without_number}
use Rattle.fsrm_model.specs.objects.QuotaStates.{head, same_head, scan_begun}
use Rattle.fsrm_model.specs.objects.Scan.{folders_under}
use Rattle.fsrm_model.specs.objects.Jobs.{is_elsewhere}
use Rattle.fsrm_model.specs.objects.Screens.{screen_folder, except_folder}
use Rattle.fsrm_model.specs.nodes.Tree.{number, node_of, is_folder, children, resolve}
use Rattle.fsrm_model.specs.store.Valid.{IsVolume}
use Rattle.std.proofs.lemmas.Bool.Decides.{nat_tests}
use Rattle.fsrm_base.proofs.Look.{eq_turned}
use Rattle.fsrm_base.proofs.TestLaws.{eq_same, eq_is}
use Rattle.fsrm_base.proofs.NumberLaws.{in_without}
use Rattle.rescan.specs.Frontiers.{Room, unvisited}
use Rattle.rescan.proofs.followed.ChangeLaws.{removed}
use Rattle.rescan.proofs.followed.FollowLaws.{folder_stands}
use Rattle.rescan.proofs.followed.FrontierLaws.{begun, begun_unvisited, begins}
use Rattle.templates.specs.Held.{without_auto}
use Rattle.fsrm_objects.specs.Tables.{Tables, without_except, without_jobs, without_quota, without_screen}
use Rattle.rescan.proofs.queued.Following.{absent_apart}
use Rattle.rescan.proofs.queued.Queues.{first_in}
use Rattle.rescan.specs.Courses.{Course, Scanning, Goes, Turns, left}
use Rattle.volume_tree.specs.declared.answer.TreeFault.{TreeFault}
use Rattle.volume_tree.specs.declared.answer.TreeFault.TheVariants.{NotEmpty}
use Rattle.volume_tree.specs.Volume.{Volume, remove_fault, without_node}
use Rattle.fsrm_engine.specs.declared.parts.Parts.{Parts}
use Rattle.fsrm_engine.specs.Machine.{IsIdle, rows_of}
use Rattle.fsrm_engine.proofs.operations.FollowLaws.{remove_queue, volume_is, effect_as}
use Rattle.fsrm_parts.proofs.walks.PlaceLaws.{target_is}
use Rattle.fsrm_engine.proofs.steps.StepLaws.{Accepts, Keeps, asked, due, followed_rows, still_idle}

-- a node without children can be removed
pub no_fault : (v : Volume) (n : ℕ) → length (children v.nodes n) ≡ 0 → remove_fault v n ≡ None
no_fault v n h = ap (λ k. (NotEmpty when (not (k == 0)))) h

pub goes_well : (v : Volume) (n : ℕ) (r : Result (Unit {0}) TreeFault) → remove_fault v n ≡ None → IfErr r (λ fault. remove_fault v n ≡ Some fault) → IsOk r
goes_well v n (Ok u) none refused = refl
goes_well v n (Err fault) none refused = let e = sym none ∙ refused in absurd (cc e)

-- it isn't in the queue that it has left
pub left_queue : (n : ℕ) (old new : List ℕ) → new ≡ without_number n old → is_in new n ≡ false
left_queue n old new is = ap (λ q. is_in q n) is ∙ (in_without n n old ∙ ap (λ b. not b && is_in old n) (eq_same n))

-- queues of the same head
pub head_same : (a b : List ℕ) → same_head a b ≡ true → head a ≡ head b
head_same [] [] h = refl
head_same [] (y ∷ b) h = cc
head_same (x ∷ a) [] h = cc
head_same (x ∷ a) (y ∷ b) h = ap (λ k. Some k) (eq_is x y h)

-- what the next scan begins with, without the node that goes
next_begun : (nodes new : List NodeRow) (n : ℕ) (queue : List ℕ) → ((f : ℕ) → head queue ≡ Some f → without_number n (folders_under nodes f) ≡ folders_under new f) → option_map_or (λ scanned. without_number n (scan_begun nodes queue)) (head queue) [] ≡ scan_begun new queue
next_begun nodes new n queue each = by (head queue) each
  where
    by : (o : Option ℕ) → ((f : ℕ) → o ≡ Some f → without_number n (folders_under nodes f) ≡ folders_under new f) → option_map_or (λ scanned. without_number n (option_map_or (folders_under nodes) o [])) o [] ≡ option_map_or (folders_under new) o []
    by None each = refl
    by (Some f) each = each f refl

-- a folder is removed, and its quota with it: its scan is over, and the next one begins if it was the active one
pub rmdir_left : (s s1 : Course) (v w : Volume) (n : ℕ) (now : List ℕ) → now ≡ option_map_or (λ scanned. without_number n (left v.nodes s1)) (head s1.queue) [] → Turns s s1 v → ((f : ℕ) → head s1.queue ≡ Some f → without_number n (folders_under v.nodes f) ≡ folders_under w.nodes f) → now ≡ (if same_head s.queue s1.queue then option_map_or (λ scanned. without_number n (left v.nodes s)) (head s.queue) [] else scan_begun w.nodes s1.queue)
rmdir_left s s1 v w n now is turns each =
    is ∙ by (same_head s.queue s1.queue) refl (turns.left_is)
  where
    by : (b : Bool) → same_head s.queue s1.queue ≡ b → left v.nodes s1 ≡ (if b then left v.nodes s else scan_begun v.nodes s1.queue) → option_map_or (λ scanned. without_number n (left v.nodes s1)) (head s1.queue) [] ≡ (if b then option_map_or (λ scanned. without_number n (left v.nodes s)) (head s.queue) [] else scan_begun w.nodes s1.queue)
    by true e was =
        ap (λ ns. option_map_or (λ (scanned : ℕ). without_number n ns) (head s1.queue) []) was
        ∙ ap (λ o. option_map_or (λ (scanned : ℕ). without_number n (left v.nodes s)) o []) (sym (head_same s.queue s1.queue e))
    by false e was =
        ap (λ ns. option_map_or (λ (scanned : ℕ). without_number n ns) (head s1.queue) []) was
        ∙ next_begun v.nodes w.nodes n s1.queue each

-- the objects without those of the folder
abbrev pub without_objects : Tables → ℕ → Tables
without_objects tables n = without_jobs (without_except (without_screen (without_quota tables n) n) n) n

-- so the removal is taken
pub rmdir_accepts : (p mid : Parts) (s1 : Course) (m : ℕ) (path : List (List ℕ)) (n : ℕ) → IsIdle p → p.last_moment ≤ m → due p m (File (Remove path)) ≡ None → resolve p.tree.nodes path ≡ Some n → mid.tree ≡ without_node p.tree n → mid.objects ≡ without_objects p.objects n → s1.queue ≡ without_number n p.scans.queue → Turns p.scans s1 p.tree → Goes s1 mid.scans mid.tree (λ scanned. without_number n (left p.tree.nodes s1)) → ((f : ℕ) → head s1.queue ≡ Some f → without_number n (folders_under p.tree.nodes f) ≡ folders_under mid.tree.nodes f) → Keeps (record p { templates = without_auto p.templates n }) mid → Accepts p mid m (File (Remove path))
rmdir_accepts p mid s1 m path n idle after none at made taken gone turns goes each kept =
    let R = rows_of p in
    let op = Remove path in
    let to = target_is p.tree.nodes path n at in
    let ruled : Parts = record p { templates = without_auto p.templates n } in
    let u = option_map_or (unvisited_in R (plain R.nodes op m) op) (head R.queue) [] in
    record {
      quotas = mid.objects.quotas;
      after = after;
      none = none;
      lasts = refl;
      size = kept.size;
      idle = still_idle ruled mid kept (record { numbers = idle.numbers; places = idle.places; crossing = idle.crossing });
      made = followed_rows ruled mid (asked p m (File op)).effect mid.objects.quotas s1.queue u kept
          (effect_as R op m mid.tree.nodes mid.objects.quotas mid.objects ruled.templates.autos s1.queue
          (ap (λ x. without_row number x p.tree.nodes) to ∙ sym (ap (λ (w : Volume). w.nodes) made))
          (record {
            quotas_are = ap (λ x. without_row folder_of x p.objects.quotas) to ∙ sym (ap (λ (t : Tables). t.quotas) taken);
            screens_are = ap (λ x. without_row screen_folder x p.objects.screens) to ∙ sym (ap (λ (t : Tables). t.screens) taken);
            excepts_are = ap (λ x. without_row except_folder x p.objects.excepts) to ∙ sym (ap (λ (t : Tables). t.excepts) taken);
            jobs_are = ap (λ x. filter (is_elsewhere x) p.objects.jobs) to ∙ sym (ap (λ (t : Tables). t.jobs) taken);
            autos_are = ap (λ x. without_row auto_folder x p.templates.autos) to;
          })
          (remove_queue p m path n at ∙ sym gone))
          goes.queue
          (rmdir_left p.scans s1 p.tree mid.tree n (left mid.tree.nodes mid.scans) goes.left_is turns each
          ∙ ap (λ x. if same_head p.scans.queue s1.queue then option_map_or (λ (scanned : ℕ). without_number x (left p.tree.nodes p.scans)) (head p.scans.queue) [] else scan_begun mid.tree.nodes s1.queue) (sym to));
      raised = refl;
    }

-- the folders at and below another one, without a folder that goes
begun_without : (v : Volume) (n f : ℕ) (row : NodeRow) → IsVolume v.size v.nodes → IsVolume v.size (without_node v n).nodes → node_of v.nodes n ≡ Some row → row.folder ≡ true → is_folder v.nodes f ≡ true → (n == f) ≡ false → without_number n (folders_under v.nodes f) ≡ folders_under (without_node v n).nodes f
begun_without v n f row k kept found folder is apart =
    let room : Room = record { nodes = v.size.nodes; cluster = v.size.cluster } in
    let front = begun room f in
    let new = (without_node v n).nodes in
    let stands = (begins v room f k (record { nodes = omega arith; cluster = refl }) is).stands in
    let follows = removed v n row front kept found apart (folder_stands v front n row stands found folder) in
    let alone : without_number n (f ∷ []) ≡ f ∷ [] = ap (λ b. if not b then f ∷ [] else []) (eq_turned n f apart) in
    ap (without_number n) (sym (begun_unvisited v.nodes room f))
    ∙ (sym follows.unvisited_are
    ∙ (ap (λ tops. unvisited new (record front { tops = tops })) alone ∙ begun_unvisited new room f))

-- of the folder whose scan is next
pub next_without : (v w : Volume) (s1 : Course) (n : ℕ) (row : NodeRow) → Scanning v s1 → is_in s1.queue n ≡ false → w ≡ without_node v n → IsVolume w.size w.nodes → node_of v.nodes n ≡ Some row → row.folder ≡ true → (f : ℕ) → head s1.queue ≡ Some f → without_number n (folders_under v.nodes f) ≡ folders_under w.nodes f
next_without v w s1 n row scans absent made kept found folder f h =
    let there = first_in f s1.queue h in
    begun_without v n f row scans.volume (volume_is w (without_node v n) made kept) found folder (scans.folders f there) (eq_turned f n (absent_apart s1.queue n f absent there))
    ∙ sym (ap (λ (u : Volume). folders_under u.nodes f) made)

-- a folder with a child isn't removed
pub full_fault : (v : Volume) (n count : ℕ) → count ≡ length (children v.nodes n) → 0 < count → remove_fault v n ≡ Some NotEmpty
full_fault v n count is more = ap (λ k. (NotEmpty when (not (k == 0)))) (sym is) ∙ ap (λ b. (NotEmpty when (not b))) (above count more)
  where
    above : (k : ℕ) → 0 < k → (k == 0) ≡ false
    above k h = grind (arith, nat_tests)
