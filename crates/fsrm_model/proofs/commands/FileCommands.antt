-- File operations and sums: each one's work is orderly, and leaves the rows of a store if no check refuses.
use Rattle.std.proofs.Common.{◌≡◌, ℕ, true, not, List, [], ◌∷◌, refl, Some, None, Option, ◌≤◌, ◌==◌, Bool, false, ◌&&◌, length, sym, ◌∙◌, ap, subst, arith, nat_le}
use Rattle.std.specs.Prelude.{fold, is_some, unwrap_or, option_map, option_to_list, if◌then◌else◌}
use Rattle.std.proofs.lemmas.Option.{same_Some}
use Rattle.fsrm_model.specs.declared.command.FileOp.{FileOp}
use Rattle.fsrm_model.specs.declared.command.FileOp.TheVariants.{Mkdir, Create, Resize, Touch, Move, Remove}
use Rattle.fsrm_model.specs.declared.command.Outcome.TheVariants.{Done}
use Rattle.fsrm_model.specs.declared.command.Refusal.{Refusal}
use Rattle.fsrm_model.specs.declared.command.Refusal.TheVariants.{PathNotFound, AlreadyExists, InvalidMove}
use Rattle.fsrm_model.specs.declared.row.Capacity.{Capacity}
use Rattle.fsrm_model.specs.declared.row.NodeRow.{NodeRow}
use Rattle.fsrm_model.specs.declared.row.QuotaRow.{QuotaRow}
use Rattle.fsrm_model.specs.declared.row.Rows.{Rows}
use Rattle.fsrm_model.specs.declared.row.ScreenRow.{ScreenRow}
use Rattle.fsrm_model.specs.objects.AutoApply.{auto_folder, applied, quotas_with, queue_with, with_quotas}
use Rattle.fsrm_model.specs.commands.Check.{Check, first, ◌when◌, volume_full, names_full, table_full, texts_full}
use Rattle.fsrm_model.specs.commands.FileWork.{judged_by, judged_name, blocked, reported, file_checks, file_effect, file_work, usage_work, objects_after, unvisited_after}
use Rattle.fsrm_base.specs.Keyed.{has_row, with_row, with_change, without_row}
use Rattle.fsrm_model.specs.nodes.Leads.{is_root, leads, leads_to_folder, leads_to_file, leads_to_other}
use Rattle.fsrm_model.specs.values.Name.{is_name}
use Rattle.fsrm_model.specs.meaning.Named.{IsNamed}
use Rattle.fsrm_model.specs.objects.Screens.{screen_folder, screen_of, judging}
use Rattle.fsrm_model.specs.commands.Work.{Judged}
use Rattle.fsrm_model.specs.nodes.Tree.{number, resolve, node_of, is_folder, is_under, owner_of, folder_part, last_name, name_of, name_bytes, fresh}
use Rattle.fsrm_model.specs.store.Valid.{IsVolume, is_own, are_templates, AreTables, IsValid}
use Rattle.fsrm_model.proofs.commands.Ends.{effect_nodes}
use Rattle.fsrm_model.proofs.commands.HardLimits.{op_within}
use Rattle.fsrm_model.proofs.commands.Orderly.{AreChecks, IsJudged, IsOrderly, IsStill, IsAsked, KeepsLimits, NamesJudged, show_still, bare, screens_bear, quotas_bear, first_none, when_none, not_false, KeepsValid}
use Rattle.fsrm_model.proofs.nodes.Resolves.{resolved}
use Rattle.std.specs.Option.{option_map_or}
use Rattle.std.specs.List.{list_all}
use Rattle.fsrm_model.specs.nodes.FileOps.{target, target_folder, new_node, resized, touched, placed, plain}
use Rattle.fsrm_model.specs.values.Limits.{latest_moment, longest_file, last_owner, most_quotas, most_text_bytes}
use Rattle.fsrm_base.specs.Numbers.{without_number}
use Rattle.fsrm_model.specs.objects.Quota.{folder_of, exceeded}
use Rattle.fsrm_model.specs.objects.QuotaStates.{head, same_head, scan_begun, followed}
use Rattle.fsrm_model.specs.objects.Scan.{AreUnvisited, unvisited_with, unvisited_moved}
use Rattle.fsrm_model.specs.store.ValidScans.{AreLeft}
use Rattle.fsrm_model.specs.commands.Commands.{is_owner, is_length}
use Rattle.fsrm_model.specs.store.Valued.{is_op, is_path}
use Rattle.fsrm_model.proofs.commands.FileParts.{NewParts, new_parts, new_alone, folder_at, file_at, may_go, room_parts, move_parts, move_alone, last_named}
use Rattle.fsrm_model.proofs.nodes.Keeps.{KeepsNode, MayMove, found_folder, moves_of, volume-new, volume-change, volume-moved, volume-removed, folder-new, folder-change}
use Rattle.fsrm_base.proofs.EditedRows.{find-with_row_same}
use Rattle.fsrm_base.proofs.Look.{found_has, row_of-without, has_row-without}
use Rattle.fsrm_base.proofs.Order.{least_free_is, length-with_row}
use Rattle.fsrm_model.proofs.nodes.OwnLaws.{own_parts, own_joined, own_named, own_new, file_inner, file_short}
use Rattle.fsrm_model.proofs.valid.QueueKept.{queue_without}
use Rattle.fsrm_model.proofs.valid.QuotasKept.{quotas_stay, quotas-without}
use Rattle.fsrm_model.specs.objects.Quota.{folder_of}
use Rattle.fsrm_model.specs.values.Texts.{action_bytes, auto_bytes, job_bytes, object_texts, quota_bytes}
use Rattle.fsrm_model.proofs.thresholds.KeptLaws.{sum_by-less}
use Rattle.fsrm_model.proofs.valid.ComingQuotas.{coming_one}
use Rattle.fsrm_model.proofs.valid.JobsKept.{jobs-gone}
use Rattle.fsrm_model.specs.objects.Jobs.{is_elsewhere}
use Rattle.fsrm_model.proofs.valid.RowsKept.{valid_with, same_heads, left_followed, left_after, head_folder, screens_folder}
use Rattle.fsrm_model.proofs.valid.ScreensKept.{screens-gone, excepts-gone}
use Rattle.fsrm_model.proofs.valid.TemplatesKept.{AreComing, autos-gone, quotas-coming, sources-coming, queue-coming, sources-without}
use Rattle.fsrm_model.proofs.valid.ValidLaws.{folder_has}
use Rattle.fsrm_model.proofs.screens.JudgingLaws.{judging_own}
use Rattle.fsrm_model.proofs.nodes.Sizes.{name_bytes-new, name_bytes-placed}
use Rattle.fsrm_base.proofs.TestLaws.{both, not_true, clash, eq_is, eq_same, le_is, le_test, lt_test}
use Rattle.fsrm_model.proofs.valid.UnvisitedKept.{unvisited-new, unvisited-change, unvisited-moved, unvisited-removed}
use Rattle.fsrm_model.proofs.nodes.Walks.{found_name}
use Rattle.fsrm_model.proofs.journal.Alike.{AreSame, RowsAlike, WorksAlike, alike, lasting_alike, quotas_alike, table_same, texts_same}
use Rattle.fsrm_model.proofs.commands.AutoCommands.{applied_lasting, coming_alike}
use Rattle.fsrm_model.proofs.journal.KeptEnds.{exceeded_lasting}
use Rattle.fsrm_model.proofs.journal.KeptQuotas.{kept, kept_twice, kept_without}
use Rattle.fsrm_model.specs.store.Lasting.{lasting}

file_are : (K : Capacity) (R : Rows) (op : FileOp) (after : Rows) → AreChecks K R after.nodes (judged_name R op) (file_checks K R op after)
file_are K R (Mkdir path owner) after =
    (bare _ _ refl, (bare _ _ refl, (bare _ _ refl, (bare _ _ refl, (bare _ _ refl, (bare _ _ refl, (bare _ _ refl, tt)))))))
file_are K R (Create path length owner) after =
    (bare _ _ refl, (bare _ _ refl, (bare _ _ refl, (bare _ _ refl, (bare _ _ refl, (screens_bear (judged_name R (Create path length owner)), (quotas_bear, tt)))))))
file_are K R (Resize path length) after = (bare _ _ refl, (quotas_bear, tt))
file_are K R (Touch path) after = (bare _ _ refl, tt)
file_are K R (Move from to) after = (
  bare _ _ refl,
  (
    bare _ _ refl,
    (
      bare _ _ refl,
      (
        bare _ _ refl,
        (
          bare _ _ refl,
          (
            bare _ _ refl,
            (
              bare _ _ refl,
              (bare _ _ refl, (bare _ _ refl, (screens_bear (judged_name R (Move from to)), (quotas_bear, tt)))),
            ),
          ),
        ),
      ),
    ),
  ),
)
file_are K R (Remove path) after = (bare _ _ refl, (bare _ _ refl, (bare _ _ refl, tt)))

-- a name that is judged: by the screen which judges it, and none other
record IsName (R : Rows) (folder : ℕ) (name : List ℕ) (j : Judged) : Type 0 where
  judging : judging R folder name ≡ Some j.screen
  same : j.name ≡ name

judged_is : (R : Rows) (owner folder : ℕ) (name : List ℕ) (j : Judged) → judged_by R owner folder name ≡ Some j → IsName R folder name j
judged_is R owner folder name j h = by (judging R folder name) refl h
  where
    made : ScreenRow → Judged
    made screen = record { screen = screen; owner = owner; folder = folder; name = name }

    by : (o : Option ScreenRow) → judging R folder name ≡ o → option_map made o ≡ Some j → IsName R folder name j
    by None e h = absurd (cc h)
    by (Some s) e h =
        let is : made s ≡ j = same_Some (made s) j h in
        record { judging = e ∙ ap (λ (j : Judged). Some j.screen) is; same = ap (λ (j : Judged). j.name) (sym is) }

moved_is : (b : Bool) (o : Option Judged) (j : Judged) → (if b then o else None) ≡ Some j → o ≡ Some j
moved_is true o j h = h
moved_is false o j h = absurd (cc h)

is_there : (R : Rows) (owner folder : ℕ) (name : List ℕ) (j : Judged) → judged_by R owner folder name ≡ Some j → screen_of R j.screen.folder ≡ Some j.screen
is_there R owner folder name j h = judging_own R folder name j.screen (judged_is R owner folder name j h).judging

file_judged : (R : Rows) (op : FileOp) (moment : ℕ) (j : Judged) → judged_name R op ≡ Some j → IsJudged R (file_effect R op moment) j
file_judged R (Create path length owner) moment j h =
    record { there = is_there R owner (target_folder R.nodes path) (last_name path) j h; same = refl }
file_judged R (Move from to) moment j h =
    let owner = owner_of R.nodes (target R.nodes from) in
    let by = judged_by R owner (target_folder R.nodes to) (last_name to) in
    record { there = is_there R owner (target_folder R.nodes to) (last_name to) j (moved_is (leads_to_file R.nodes from) by j h); same = refl }
file_judged R (Mkdir path owner) moment j h = absurd (cc h)
file_judged R (Resize path length) moment j h = absurd (cc h)
file_judged R (Touch path) moment j h = absurd (cc h)
file_judged R (Remove path) moment j h = absurd (cc h)

-- its screen's folder is there, and stays
judged_folder : (K : Capacity) (R : Rows) (op : FileOp) (moment : ℕ) (j : Judged) → IsValid K R → judged_name R op ≡ Some j → is_folder R.nodes j.screen.folder ≡ true
judged_folder K R op moment j s h =
    screens_folder R j.screen.folder s.tables.screens (found_has screen_folder j.screen.folder R.screens j.screen (file_judged R op moment j h).there)

judged_stays : (K : Capacity) (R : Rows) (op : FileOp) (moment : ℕ) (j : Judged) → IsValid K R → judged_name R op ≡ Some j → has_row number j.screen.folder (file_effect R op moment).nodes ≡ true
judged_stays K R (Create path length owner) moment j s h =
    let node = new_node R.nodes path false length owner moment in
    folder_has (with_row number node R.nodes) j.screen.folder
    (folder-new R.nodes node j.screen.folder (least_free_is number R.nodes s.volume.ascending).free (judged_folder K R (Create path length owner) moment j s h))
judged_stays K R (Move from to) moment j s h =
    let x = target R.nodes from in
    let c = placed (target_folder R.nodes to) (last_name to) in
    folder_has (with_change number x c R.nodes) j.screen.folder
    (folder-change R.nodes x j.screen.folder c (λ r. refl) (λ r. refl) ∙ judged_folder K R (Move from to) moment j s h)
judged_stays K R (Mkdir path owner) moment j s h = absurd (cc h)
judged_stays K R (Resize path length) moment j s h = absurd (cc h)
judged_stays K R (Touch path) moment j s h = absurd (cc h)
judged_stays K R (Remove path) moment j s h = absurd (cc h)

reported_named : (E : Rows) (o : Option Judged) → ((j : Judged) → o ≡ Some j → has_row number j.screen.folder E.nodes ≡ true) → IsNamed E (Done (reported o))
reported_named E None h = tt
reported_named E (Some j) h = h j refl

pub file_orderly : (K : Capacity) (R : Rows) (op : FileOp) (moment : ℕ) → IsOrderly K R (file_work K R op moment)
file_orderly K R op moment =
    record {
      answer = tt;
      checks = file_are K R op (file_effect R op moment);
      named = λ s h. reported_named (file_effect R op moment) (judged_name R op) (λ j is. judged_stays K R op moment j s is);
      quiet = λ s h never. absurd (cc never);
      judged = λ j h. file_judged R op moment j h;
    }

-- the one path of an operation
one_path : (path : List (List ℕ)) → list_all is_path (path ∷ []) ≡ true → is_path path ≡ true
one_path path h = let parts : (is_path path ≡ true) × (true ≡ true) = both _ _ h in parts.0

-- what a screen judges is a name, if no check refuses that comes before the screen's
unasked : (refusal : Refusal) (b : Bool) (cs : List Check) → (IsAsked (Some refusal) → ⊥) → IsAsked (first ((refusal when b) ∷ cs)) → (b ≡ false) × IsAsked (first cs)
unasked refusal b cs other h = by b h
  where
    by : (b : Bool) → IsAsked (first ((refusal when b) ∷ cs)) → (b ≡ false) × IsAsked (first cs)
    by true h = absurd (other h)
    by false h = (refl, h)

pub file_names : (K : Capacity) (R : Rows) (op : FileOp) (moment : ℕ) → is_op op ≡ true → NamesJudged K R (file_work K R op moment)
file_names K R (Create path bytes owner) moment legal s asked j h =
    let values : (list_all is_path (path ∷ []) ≡ true) × ((is_length bytes && is_owner owner) ≡ true) = both _ _ legal in
    let after = file_effect R (Create path bytes owner) moment in
    let more = (PathNotFound when not (leads_to_folder R.nodes (folder_part path))) ∷ (AlreadyExists when leads R.nodes path) ∷ volume_full K after ∷ names_full K after
    ∷ blocked (judged_name R (Create path bytes owner)) ∷ exceeded K R after.nodes ∷ [] in
    let other = (unasked AlreadyExists (is_root path) more (λ never. never) asked).0 in
    ap is_name (judged_is R owner (target_folder R.nodes path) (last_name path) j h).same ∙ last_named path (one_path path values.0) other
file_names K R (Move from to) moment legal s asked j h =
    let paths : (list_all is_path (from ∷ to ∷ []) ≡ true) × (true ≡ true) = both _ _ legal in
    let values : (is_path from ≡ true) × ((is_path to && true) ≡ true) = both _ _ paths.0 in
    let nodes = R.nodes in
    let x = target nodes from in
    let d = target_folder nodes to in
    let after = file_effect R (Move from to) moment in
    let c3 = (PathNotFound when not (leads_to_folder nodes (folder_part to))) ∷ (InvalidMove when leads_to_folder nodes from && is_under nodes x d)
    ∷ (AlreadyExists when leads_to_other nodes to x) ∷ names_full K after ∷ table_full after ∷ texts_full after ∷ blocked (judged_name R (Move from to)) ∷ exceeded K R after.nodes ∷ [] in
    let c2 = (AlreadyExists when is_root to) ∷ c3 in
    let c1 = (InvalidMove when is_root from) ∷ c2 in
    let a1 = (unasked PathNotFound (not (leads nodes from)) c1 (λ never. never) asked).1 in
    let a2 = (unasked InvalidMove (is_root from) c2 (λ never. never) a1).1 in
    let other = (unasked AlreadyExists (is_root to) c3 (λ never. never) a2).0 in
    let owner = owner_of nodes x in
    let is = judged_is R owner d (last_name to) j (moved_is (leads_to_file nodes from) (judged_by R owner d (last_name to)) j h) in
    ap is_name is.same ∙ last_named to (one_path to values.1) other
file_names K R (Mkdir path owner) moment legal s asked j h = absurd (cc h)
file_names K R (Resize path length) moment legal s asked j h = absurd (cc h)
file_names K R (Touch path) moment legal s asked j h = absurd (cc h)
file_names K R (Remove path) moment legal s asked j h = absurd (cc h)

pub file_limits : (K : Capacity) (R : Rows) (op : FileOp) (moment : ℕ) → KeepsLimits K R (file_work K R op moment)
file_limits K R op moment store h = rw (effect_nodes R op moment) (op_within K R op moment store h)

-- a path that leads somewhere leads to a node
leads_there : (K : Capacity) (nodes : List NodeRow) (path : List (List ℕ)) (o : Option ℕ) → IsVolume K nodes → resolve nodes path ≡ o → is_some o ≡ true → has_row number (unwrap_or o 0) nodes ≡ true
leads_there K nodes path None v e h = absurd cc
leads_there K nodes path (Some n) v e h = (resolved K nodes path n v e).has

unrefused_path : (R : Rows) (path : List (List ℕ)) → first ((PathNotFound when not (leads R.nodes path)) ∷ []) ≡ None → leads R.nodes path ≡ true
unrefused_path R path h =
    let missing = not (leads R.nodes path) in
    not_false (leads R.nodes path) (when_none PathNotFound missing (first_none (PathNotFound when missing) [] h).0)

pub usage_still : (K : Capacity) (R : Rows) (path : List (List ℕ)) → IsStill K R (usage_work K R path)
usage_still K R path = show_still K R _ _ refl (bare _ _ refl, tt) (λ store h. leads_there K R.nodes path (resolve R.nodes path) store.volume refl (unrefused_path R path h))

-- the rows with other nodes, in which the folders of quotas are kept, and to which quotas come
coming_followed : (K : Capacity) (R : Rows) (new : List NodeRow) (after : ℕ → List ℕ) (coming : List QuotaRow) → IsValid K R → IsVolume K new → ((n : ℕ) → is_folder R.nodes n ≡ true → is_folder new n ≡ true) → ((n : ℕ) → head R.queue ≡ Some n → AreUnvisited R.nodes n R.unvisited → AreUnvisited new n (after n)) → AreComing new R.templates R.quotas coming → length (fold quotas_with R.quotas coming) ≤ most_quotas → object_texts (record R { quotas = fold quotas_with R.quotas coming }) ≤ most_text_bytes → IsValid K (followed R (with_quotas (record R { nodes = new; unvisited = option_map_or after (head R.queue) [] }) coming))
coming_followed K R new after coming s volume folders unvisited come few texts =
    let left = option_map_or after (head R.queue) [] in
    let quotas = fold quotas_with R.quotas coming in
    let queue = fold queue_with R.queue coming in
    let stays : AreLeft new (head R.queue) left = left_after R.nodes new (head R.queue) R.unvisited after s.unvisited unvisited in
    valid_with K R new quotas queue (if same_head R.queue queue then left else scan_begun new queue) R.last_moment s volume folders
    (quotas-coming new R.templates R.quotas coming (quotas_stay R.nodes new R.quotas s.quotas (λ f q found is. folders f is)) come few)
    (sources-coming new R.templates R.quotas coming come s.tables.sources) texts
    (queue-coming new R.templates R.quotas coming R.queue come s.queue)
    (left_followed K new R.queue queue left volume (λ same. subst (λ (o : Option ℕ). AreLeft new o left) (same_heads R.queue queue same) stays))
    s.last_moment

-- or none comes
nodes_followed : (K : Capacity) (R : Rows) (new : List NodeRow) (after : ℕ → List ℕ) → IsValid K R → IsVolume K new → ((n : ℕ) → is_folder R.nodes n ≡ true → is_folder new n ≡ true) → ((n : ℕ) → head R.queue ≡ Some n → AreUnvisited R.nodes n R.unvisited → AreUnvisited new n (after n)) → IsValid K (followed R (record R { nodes = new; unvisited = option_map_or after (head R.queue) [] }))
nodes_followed K R new after s volume folders unvisited = coming_followed K R new after [] s volume folders unvisited tt s.quotas.few s.texts

-- a new node
record IsNew (K : Capacity) (nodes : List NodeRow) (node : NodeRow) : Type 0 where
  free : has_row number node.number nodes ≡ false
  folder : is_folder nodes node.parent ≡ true
  volume : IsVolume K (with_row number node nodes)

new_kept : (K : Capacity) (nodes : List NodeRow) (path : List (List ℕ)) (folder : Bool) (bytes owner moment : ℕ) → IsVolume K nodes → NewParts K nodes (with_row number (new_node nodes path folder bytes owner moment) nodes) path → is_path path ≡ true → bytes ≤ (if folder then 0 else longest_file) → is_owner owner ≡ true → moment ≤ latest_moment → IsNew K nodes (new_node nodes path folder bytes owner moment)
new_kept K nodes path folder bytes owner moment v p legal short owned late =
    let node = new_node nodes path folder bytes owner moment in
    let fresh = least_free_is number nodes v.ascending in
    let few = p.few in
    let most = fresh.most in
    let names = p.names in
    let owns : (nat_le 1 owner ≡ true) × (nat_le owner last_owner ≡ true) = both _ _ owned in
    record {
      free = fresh.free;
      folder = p.place.folder;
      volume = volume-new K nodes node v (record {
        free = fresh.free;
        below = lt_test node.number K.nodes (omega (arith, length-with_row number node nodes, few, most));
        own = own_new node.number node.parent (last_name path) folder bytes owner moment (last_named path legal p.place.other) short (le_is 1 owner owns.0) late;
        folder = p.place.folder;
        alone = new_alone nodes path p.place p.free;
        names = omega (arith, name_bytes-new nodes node, names);
      });
    }

new_followed : (K : Capacity) (R : Rows) (node : NodeRow) (coming : List QuotaRow) → IsValid K R → IsNew K R.nodes node → AreComing (with_row number node R.nodes) R.templates R.quotas coming → length (fold quotas_with R.quotas coming) ≤ most_quotas → object_texts (record R { quotas = fold quotas_with R.quotas coming }) ≤ most_text_bytes → IsValid K (followed R (with_quotas (record R { nodes = with_row number node R.nodes; unvisited = option_map_or (λ n. unvisited_with node R.unvisited) (head R.queue) [] }) coming))
new_followed K R node coming s is come few texts =
    coming_followed K R (with_row number node R.nodes) (λ n. unvisited_with node R.unvisited) coming s is.volume
    (λ n folder. folder-new R.nodes node n is.free folder)
    (λ n first are. unvisited-new K R.nodes node n R.unvisited s.volume is.free is.folder are)
    come few texts

-- a new folder is one
new_folder : (nodes : List NodeRow) (node : NodeRow) → has_row number node.number nodes ≡ false → node.folder ≡ true → is_folder (with_row number node nodes) node.number ≡ true
new_folder nodes node free folder =
    found_folder (with_row number node nodes) node.number node (find-with_row_same number (λ r. number r == node.number) node nodes (eq_same node.number) free) ∙ folder

mkdir_kept : (K : Capacity) (R : Rows) (path : List (List ℕ)) (owner moment : ℕ) → is_op (Mkdir path owner) ≡ true → moment ≤ latest_moment → KeepsValid K R (file_work K R (Mkdir path owner) moment)
mkdir_kept K R path owner moment legal late s h =
    let values : (list_all is_path (path ∷ []) ≡ true) × (is_owner owner ≡ true) = both _ _ legal in
    let after = file_effect R (Mkdir path owner) moment in
    let node = new_node R.nodes path true 0 owner moment in
    let E : Rows = record R { nodes = with_row number node R.nodes; unvisited = option_map_or (λ n. unvisited_with node R.unvisited) (head R.queue) [] } in
    let p = new_parts K R path after (table_full after ∷ texts_full after ∷ []) s.volume h in
    let room = (room_parts after [] p.1).0 in
    let is = new_kept K R.nodes path true 0 owner moment s.volume p.0 (one_path path values.0) (omega arith) values.1 late in
    new_followed K R node (option_to_list (applied E moment node.number)) s is
    (coming_one E moment node.number s.tables.templates late (new_folder R.nodes node is.free refl)) room.few room.short

create_kept : (K : Capacity) (R : Rows) (path : List (List ℕ)) (bytes owner moment : ℕ) → is_op (Create path bytes owner) ≡ true → moment ≤ latest_moment → KeepsValid K R (file_work K R (Create path bytes owner) moment)
create_kept K R path bytes owner moment legal late s h =
    let values : (list_all is_path (path ∷ []) ≡ true) × ((is_length bytes && is_owner owner) ≡ true) = both _ _ legal in
    let sizes : (is_length bytes ≡ true) × (is_owner owner ≡ true) = both _ _ values.1 in
    let node = new_node R.nodes path false bytes owner moment in
    let judged = blocked (judged_name R (Create path bytes owner)) in
    let p = new_parts K R path (file_effect R (Create path bytes owner) moment) (judged ∷ exceeded K R (with_row number node R.nodes) ∷ []) s.volume h in
    new_followed K R node [] s (new_kept K R.nodes path false bytes owner moment s.volume p.0 (one_path path values.0) (le_is bytes longest_file sizes.0) sizes.1 late) tt s.quotas.few s.texts

-- a file that changes
change_followed : (K : Capacity) (R : Rows) (x : ℕ) (c : NodeRow → NodeRow) → IsValid K R → KeepsNode c → is_folder R.nodes x ≡ false → ((r : NodeRow) → node_of R.nodes x ≡ Some r → (x == 0) ≡ false → is_own (c r) ≡ true) → IsValid K (followed R (record R { nodes = with_change number x c R.nodes; unvisited = option_map_or (λ n. R.unvisited) (head R.queue) [] }))
change_followed K R x c s k file own =
    let inner = file_inner K R.nodes x s.volume file in
    nodes_followed K R (with_change number x c R.nodes) (λ n. R.unvisited) s
    (volume-change K R.nodes x c s.volume k inner (λ r found. own r found inner))
    (λ n folder. folder-change R.nodes x n c k.same_number k.same_folder ∙ folder)
    (λ n first are. unvisited-change R.nodes x c n R.unvisited k are)

resize_kept : (K : Capacity) (R : Rows) (path : List (List ℕ)) (bytes moment : ℕ) → is_op (Resize path bytes) ≡ true → moment ≤ latest_moment → KeepsValid K R (file_work K R (Resize path bytes) moment)
resize_kept K R path bytes moment legal late s h =
    let values : (list_all is_path (path ∷ []) ≡ true) × (is_length bytes ≡ true) = both _ _ legal in
    let x = target R.nodes path in
    let a = first_none (PathNotFound when not (leads_to_file R.nodes path)) (exceeded K R (with_change number x (resized bytes moment) R.nodes) ∷ []) h in
    let f = file_at K R.nodes path s.volume a.0 in
    change_followed K R x (resized bytes moment) s (record { same_number = λ r. refl; same_parent = λ r. refl; same_name = λ r. refl; same_folder = λ r. refl }) f.file (λ r found inner.
    let p = own_parts r (s.volume.own x r found inner) in
    let kind : r.folder ≡ false = sym (ap (λ o. option_map_or (λ node. node.folder) o false) found) ∙ f.file in
    own_joined (resized bytes moment r) (record {
      named = p.named;
      short = file_short r.folder bytes kind (le_is bytes longest_file values.1);
      made = p.made;
      changed = le_test moment latest_moment late;
      seen = p.seen;
    }))

touch_kept : (K : Capacity) (R : Rows) (path : List (List ℕ)) (moment : ℕ) → moment ≤ latest_moment → KeepsValid K R (file_work K R (Touch path) moment)
touch_kept K R path moment late s h =
    let x = target R.nodes path in
    let a = first_none (PathNotFound when not (leads_to_file R.nodes path)) [] h in
    let f = file_at K R.nodes path s.volume a.0 in
    change_followed K R x (touched moment) s (record { same_number = λ r. refl; same_parent = λ r. refl; same_name = λ r. refl; same_folder = λ r. refl }) f.file (λ r found inner.
    let p = own_parts r (s.volume.own x r found inner) in
    own_joined (touched moment r) (record { named = p.named; short = p.short; made = p.made; changed = p.changed; seen = le_test moment latest_moment late }))

-- a folder that moves may get a quota
moved_coming : (E : Rows) (moment x : ℕ) (b : Bool) → are_templates E.templates ≡ true → moment ≤ latest_moment → (b ≡ true → is_folder E.nodes x ≡ true) → AreComing E.nodes E.templates E.quotas (if b then option_to_list (applied E moment x) else [])
moved_coming E moment x true named late folder = coming_one E moment x named late (folder refl)
moved_coming E moment x false named late folder = tt

-- a node that moves
move_kept : (K : Capacity) (R : Rows) (from to : List (List ℕ)) (moment : ℕ) → is_op (Move from to) ≡ true → moment ≤ latest_moment → KeepsValid K R (file_work K R (Move from to) moment)
move_kept K R from to moment legal late s h =
    let paths : (list_all is_path (from ∷ to ∷ []) ≡ true) × (true ≡ true) = both _ _ legal in
    let values : (is_path from ≡ true) × ((is_path to && true) ≡ true) = both _ _ paths.0 in
    let nodes = R.nodes in
    let x = target nodes from in
    let d = target_folder nodes to in
    let name = last_name to in
    let new = with_change number x (placed d name) nodes in
    let p = move_parts K R from to (file_effect R (Move from to) moment) s.volume h in
    let o = own_parts p.row (s.volume.own x p.row p.found p.inner) in
    let bytes = name_bytes-placed nodes x d name s.volume.ascending (found_has number x nodes p.row p.found) in
    let old : length (name_of nodes x) ≡ length p.row.name = ap length (found_name nodes x p.row p.found) in
    let most : name_bytes new ≤ K.names = p.names in
    let may : MayMove K nodes x d name = record {
      inner = p.inner;
      row = p.row;
      found = p.found;
      folder = p.place.folder;
      apart = p.apart;
      own = own_joined (placed d name p.row) (record {
        named = own_named name p.row.name p.row.owner (last_named to (one_path to values.1) p.place.other) o.named;
        short = o.short;
        made = o.made;
        changed = o.changed;
        seen = o.seen;
      });
      alone = move_alone nodes to x p.place p.alone;
      names = omega (arith, bytes, old, most);
    } in
    let kinds : (n : ℕ) → is_folder new n ≡ is_folder nodes n = λ n. folder-change nodes x n (placed d name) (λ r. refl) (λ r. refl) in
    let E : Rows = record R { nodes = new; unvisited = option_map_or (λ n. unvisited_moved nodes new n x d R.unvisited) (head R.queue) [] } in
    let is = leads_to_folder nodes from in
    let folder : is ≡ true → is_folder new x ≡ true = λ led. kinds x ∙ folder_at nodes from (ap (λ b. PathNotFound when not b) led) in
    coming_followed K R new (λ n. unvisited_moved nodes new n x d R.unvisited) (if is then option_to_list (applied E moment x) else []) s (volume-moved K nodes x d name s.volume may)
    (λ n folder. kinds n ∙ folder)
    (λ n first are. unvisited-moved K nodes new x d n R.unvisited (record { volume = s.volume; moves = moves_of K nodes x d name s.volume may; kinds = kinds; folder = head_folder K R n s first; are = are }))
    (moved_coming E moment x is s.tables.templates late folder) p.room.few p.room.short

-- a node that goes, and what its folder has
remove_kept : (K : Capacity) (R : Rows) (path : List (List ℕ)) (moment : ℕ) → KeepsValid K R (file_work K R (Remove path) moment)
remove_kept K R path moment s h =
    let x = target R.nodes path in
    let new = without_row number x R.nodes in
    let m = may_go K R path s.volume h in
    let quotas = without_row folder_of x R.quotas in
    let queue = without_number x R.queue in
    let left = option_map_or (λ n. without_number x R.unvisited) (head R.queue) [] in
    let volume = volume-removed K R.nodes x s.volume m in
    let stays : AreLeft new (head R.queue) left = left_after R.nodes new (head R.queue) R.unvisited (λ n. without_number x R.unvisited) s.unvisited (λ n first are. unvisited-removed K R.nodes x n R.unvisited s.volume m are) in
    let folders : (f : ℕ) → (f == x) ≡ false → is_folder R.nodes f ≡ true → is_folder new f ≡ true = λ f apart is. ap (λ o. option_map_or (λ node. node.folder) o false) (row_of-without number x f R.nodes apart) ∙ is in
    let own : ScreenRow → ℕ = λ screen. action_bytes screen.actions in
    let less = sum_by-less quota_bytes (λ q. not (folder_of q == x)) R.quotas in
    let fewer = sum_by-less own (λ screen. not (screen_folder screen == x)) R.screens in
    let fewest = sum_by-less auto_bytes (λ auto. not (auto_folder auto == x)) R.autos in
    let fewest_jobs = sum_by-less job_bytes (is_elsewhere x) R.jobs in
    let few = s.texts in
    let E : Rows = followed R (file_effect R (Remove path) moment) in
    let t : AreTables E = record {
      sources = sources-without R.templates x R.quotas s.tables.sources;
      templates = s.tables.templates;
      autos = autos-gone R.nodes new R.templates R.autos x folders s.tables.autos;
      jobs = jobs-gone R.nodes new R.jobs x folders s.tables.jobs;
      groups = s.tables.groups;
      screens = screens-gone R.nodes new R.groups R.excepts R.screens x folders s.tables.screens;
      excepts = excepts-gone R.nodes new R.groups R.excepts x folders s.tables.excepts;
      audits = s.tables.audits;
    } in
    record {
      volume = volume;
      quotas = quotas_stay R.nodes new quotas (quotas-without R.nodes R.quotas x s.quotas) (λ f q found is.
          let apart : (f == x) ≡ false = not_true (f == x) (λ e. clash _ (subst (λ k. has_row folder_of k quotas ≡ true) (eq_is f x e) (found_has folder_of f quotas q found)) (has_row-without folder_of x R.quotas)) in
          folders f apart is);
      tables = t;
      texts = omega (arith, less, fewer, fewest, fewest_jobs, few);
      log = s.log;
      run_limit = s.run_limit;
      last_moment = s.last_moment;
      queue = queue_without R.quotas R.queue x s.queue;
      unvisited = left_followed K new R.queue queue left volume (λ same. subst (λ (o : Option ℕ). AreLeft new o left) (same_heads R.queue queue same) stays);
    }

pub file_kept : (K : Capacity) (R : Rows) (op : FileOp) (moment : ℕ) → is_op op ≡ true → moment ≤ latest_moment → KeepsValid K R (file_work K R op moment)
file_kept K R (Mkdir path owner) moment legal late = mkdir_kept K R path owner moment legal late
file_kept K R (Create path length owner) moment legal late = create_kept K R path length owner moment legal late
file_kept K R (Resize path length) moment legal late = resize_kept K R path length moment legal late
file_kept K R (Touch path) moment legal late = touch_kept K R path moment late
file_kept K R (Move from to) moment legal late = move_kept K R from to moment legal late
file_kept K R (Remove path) moment legal late = remove_kept K R path moment

-- ---- over rows and over what is kept of them
pub usage_alike : (K : Capacity) (R : Rows) (path : List (List ℕ)) → WorksAlike (usage_work K R path) (usage_work K (lasting R) path)
usage_alike K R path = alike (lasting_alike R) (refl, tt)

-- the rows that an operation leaves before a quota comes
abbrev before_quotas : Rows → FileOp → ℕ → Rows
before_quotas R op moment =
    let nodes = plain R.nodes op moment in
    objects_after op R (record R { nodes = nodes; unvisited = unvisited_after R nodes op })

file_same : (K : Capacity) (R : Rows) (op : FileOp) (moment : ℕ) → RowsAlike (file_effect R op moment) (file_effect (lasting R) op moment) → AreSame (file_checks K (lasting R) op (file_effect (lasting R) op moment)) (file_checks K R op (file_effect R op moment)) → judged_name (lasting R) op ≡ judged_name R op → WorksAlike (file_work K R op moment) (file_work K (lasting R) op moment)
file_same K R op moment are checks judged =
    record { checks = checks; effect = are; outcome = ap (λ j. Done (reported j)) judged; lasts = refl; judged = judged }

pub file_alike : (K : Capacity) (R : Rows) (op : FileOp) (moment : ℕ) → WorksAlike (file_work K R op moment) (file_work K (lasting R) op moment)
file_alike K R (Mkdir path owner) moment =
    let E : Rows = before_quotas R (Mkdir path owner) moment in
    let node = fresh R.nodes in
    let are = coming_alike E (option_to_list (applied E moment node)) (option_to_list (applied (lasting E) moment node)) (ap option_to_list (applied_lasting E moment node)) in
    file_same K R (Mkdir path owner) moment are (refl, (refl, (refl, (refl, (refl, (table_same are, (texts_same are, tt))))))) refl
file_alike K R (Create path bytes owner) moment =
    let E : Rows = before_quotas R (Create path bytes owner) moment in
    file_same K R (Create path bytes owner) moment (coming_alike E [] [] refl) (refl, (refl, (refl, (refl, (refl, (refl, (exceeded_lasting K R E.nodes, tt))))))) refl
file_alike K R (Resize path bytes) moment =
    let E : Rows = before_quotas R (Resize path bytes) moment in
    file_same K R (Resize path bytes) moment (coming_alike E [] [] refl) (refl, (exceeded_lasting K R E.nodes, tt)) refl
file_alike K R (Touch path) moment =
    file_same K R (Touch path) moment (coming_alike (before_quotas R (Touch path) moment) [] [] refl) (refl, tt) refl
file_alike K R (Move from to) moment =
    let E : Rows = before_quotas R (Move from to) moment in
    let node = target R.nodes from in
    let is = leads_to_folder R.nodes from in
    let are = coming_alike E (if is then option_to_list (applied E moment node) else []) (if is then option_to_list (applied (lasting E) moment node) else []) (ap (λ o. if is then option_to_list o else []) (applied_lasting E moment node)) in
    file_same K R (Move from to) moment are
    (refl, (refl, (refl, (refl, (refl, (refl, (refl, (table_same are, (texts_same are, (refl, (exceeded_lasting K R E.nodes, tt)))))))))))
    refl
file_alike K R (Remove path) moment =
    let x = target R.nodes path in
    let E : Rows = before_quotas R (Remove path) moment in
    file_same K R (Remove path) moment
    (quotas_alike E (without_row folder_of x R.quotas) (without_row folder_of x (kept R.quotas)) E.queue [] E.unvisited [] (ap kept (kept_without x R.quotas) ∙ kept_twice (without_row folder_of x R.quotas)))
    (refl, (refl, (refl, tt))) refl
