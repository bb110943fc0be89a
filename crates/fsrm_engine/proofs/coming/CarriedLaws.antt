-- A move that nothing refuses, once what moves has its quota.
use Rattle.std.proofs.Common.{◌≡◌, ℕ, ◌≤◌, ◌==◌, Bool, true, false, List, [], ◌∷◌, length, Option, Some, None, nat_lt, refl, ap, sym, ◌∙◌, subst, arith, ◌++◌, ◌+◌, not, ◌&&◌, suc}
use Rattle.std.specs.Prelude.{IfSome, fold, is_some, map, option_map, option_to_list, if◌then◌else◌, flat_map}
use Rattle.std.specs.Option.{option_and_then, option_map_or}
use Rattle.fsrm_base.specs.Keyed.{has_row, row_of, with_row}
use Rattle.fsrm_base.proofs.Look.{found_has, row_of-new_other}
use Rattle.fsrm_base.proofs.EditedRows.{find-with_row_same}
use Rattle.fsrm_base.proofs.TestLaws.{clash, eq_is, eq_same, lt_test, or_later, same_tests}
use Rattle.fsrm_model.specs.declared.command.Deed.TheVariants.{File}
use Rattle.fsrm_model.specs.declared.command.FileOp.{FileOp}
use Rattle.fsrm_model.specs.declared.command.FileOp.TheVariants.{Move}
use Rattle.fsrm_model.specs.declared.command.Refusal.{Refusal}
use Rattle.fsrm_model.specs.declared.row.NodeRow.{NodeRow}
use Rattle.fsrm_model.specs.declared.row.QuotaRow.{QuotaRow}
use Rattle.fsrm_model.specs.declared.row.Rows.{Rows}
use Rattle.fsrm_model.specs.declared.row.TemplateRow.{TemplateRow}
use Rattle.fsrm_model.specs.objects.AutoApply.{queue_with, quotas_with, with_quotas}
use Rattle.fsrm_model.specs.commands.Check.{first, table_full, texts_full}
use Rattle.fsrm_model.specs.nodes.FileOps.{plain}
use Rattle.fsrm_model.specs.commands.FileWork.{blocked, coming_quotas, judged_name, unvisited_after, unvisited_in}
use Rattle.fsrm_model.specs.objects.Quota.{exceeded, folder_of, peaked}
use Rattle.fsrm_model.specs.objects.QuotaStates.{followed, head, same_head, scan_begun, start}
use Rattle.fsrm_model.specs.objects.Templates.{derived, template_number, template_of}
use Rattle.fsrm_model.specs.nodes.Tree.{number, is_folder, is_under, chain, under}
use Rattle.fsrm_model.specs.objects.Scan.{unvisited_moved}
use Rattle.fsrm_model.specs.store.Valid.{IsVolume}
use Rattle.quota_usage.specs.declared.change.Change.{Change}
use Rattle.rescan.specs.Courses.{Course, Goes, Turns, left, Scanning}
use Rattle.file_screens.specs.declared.answer.Blocked.{Blocked}
use Rattle.file_screens.specs.Blocked.{told}
use Rattle.file_screens.specs.Way.{is_active}
use Rattle.volume_tree.specs.Volume.{Volume, with_place, Move as ReadyMove, move_fault}
use Rattle.fsrm_parts.specs.declared.moves.Moving.{Moving}
use Rattle.fsrm_engine.specs.declared.parts.Parts.{Parts}
use Rattle.fsrm_parts.specs.Faults.{exceeded_refusal}
use Rattle.fsrm_engine.specs.Machine.{AreCounted, IsIdle, IsSound, IsWhole, recounted, rows_of, charged_parts}
use Rattle.fsrm_parts.specs.Moves.{AreMoved, IsSourceOfMove}
use Rattle.fsrm_engine.specs.Moves.{IsMove, MayMove, change_of, judged_move}
use Rattle.fsrm_engine.specs.Arrivals.{Receives, from_source, queue_given, quotas_given, source_fault}
use Rattle.fsrm_engine.proofs.coming.MovedQuota.{coming_moved, folders_moved, given_head, moved_left}
use Rattle.fsrm_engine.proofs.coming.SourceLaws.{given_full, moved_known, not_queued, IsSource, source_gives, source_is}
use Rattle.fsrm_engine.proofs.judging.NameLaws.{IsJudged, moved_judged, unblocked}
use Rattle.fsrm_engine.proofs.operations.ChangeLaws.{IsMoved, MovesTo}
use Rattle.fsrm_engine.proofs.operations.FollowLaws.{effect_as, move_next, move_nodes, made_ready, volume_is}
use Rattle.fsrm_engine.proofs.operations.MoveKept.{moves_to, ready_apart, from_height, left_height, move_changes, move_done, moved_fits, moved_nodes, parent_there, there_moved, to_height}
use Rattle.fsrm_engine.proofs.operations.MoveLaws.{move_due}
use Rattle.fsrm_engine.proofs.operations.NewLaws.{none_by, room_after}
use Rattle.fsrm_parts.proofs.walks.PlaceLaws.{has_resolved, place_depth}
use Rattle.fsrm_model.specs.declared.row.Capacity.{Capacity}
use Rattle.fsrm_model.specs.declared.row.QuotaState.{QuotaState}
use Rattle.fsrm_model.specs.declared.row.ScreenRow.{ScreenRow}
use Rattle.fsrm_model.specs.objects.DueActions.{due as due_acts, quota_acts}
use Rattle.fsrm_model.specs.values.Limits.{latest_moment, most_actions, most_entries}
use Rattle.fsrm_model.specs.objects.Reached.{IsReached, crossed, reached}
use Rattle.fsrm_model.proofs.nodes.Resolves.{resolved}
use Rattle.fsrm_model.proofs.thresholds.ReachedLaws.{reached_parts, reached_test, unreached}
use Rattle.fsrm_model.proofs.valid.ValidLaws.{folder_has}
use Rattle.quota_usage.specs.Charge.{Fits, IsChange, height}
use Rattle.thresholds.specs.Settled.{are_orderly}
use Rattle.fsrm_parts.specs.Crossing.{IsCovered}
use Rattle.fsrm_engine.specs.Due.{charged_acts}
use Rattle.fsrm_engine.specs.Reporting.{name_under, screen_told}
use Rattle.fsrm_engine.proofs.judging.DoneLaws.{Makes}
use Rattle.fsrm_engine.proofs.judging.JudgedLaws.{few_told}
use Rattle.fsrm_engine.proofs.operations.ChargedLaws.{charged_due, covered_by}
use Rattle.fsrm_engine.proofs.operations.GrowthLaws.{by_quotas}
use Rattle.fsrm_engine.proofs.settling.CalmLaws.{other_reached, unused_reached}
use Rattle.fsrm_engine.proofs.settling.EndLaws.{acts_same, due_of, few_log}
use Rattle.fsrm_parts.proofs.settling.OrderlyQuotas.{quotas_orderly}
use Rattle.fsrm_engine.proofs.tables.StateLaws.{empty_folder, first_empty}
use Rattle.fsrm_engine.proofs.steps.StepLaws.{asked, due, followed_rows, or_else, same_own, tree_first}

module _ (p : Parts) (w : IsWhole p) (m : ℕ) (from to : List (List ℕ)) (v : Moving) (is : IsMove p.tree from to v) (source : Option ℕ) (source_is : IsSourceOfMove p.objects.quotas p.templates v source) where
  abbrev R : Rows
  R = rows_of p

  abbrev op : FileOp
  op = Move from to

  abbrev x : ℕ
  x = v.node

  abbrev d : ℕ
  d = v.place.folder

  abbrev name : List ℕ
  name = v.place.name.now

  abbrev pub given : Option QuotaRow
  given = from_source p.templates.templates x (start p.tree.nodes x) m source

  abbrev between : Rows
  between = record R { nodes = plain R.nodes op m; unvisited = unvisited_after R (plain R.nodes op m) op }

  pub to_it : MovesTo p.tree.nodes x d
  to_it = moves_to p.tree.nodes x d (has_resolved p.tree.size p.tree.nodes from x w.valid.volume is.resolved) is.inner is.at.folder_is (ready_apart p.tree x d name is.may)

  coming : coming_quotas op R between m ≡ option_to_list given
  coming =
      coming_moved p.tree.size R m from to x d name between.unvisited v.folder w.valid.volume is.resolved to_it is.at is.kind
      ∙ ap (λ o. option_to_list (from_source p.templates.templates x (start p.tree.nodes x) m o)) (sym source_is.is)

  room : room_after p m op ≡ source_fault p source
  room =
      ap (λ (qs : List QuotaRow). first (table_full (with_quotas between qs) ∷ texts_full (with_quotas between qs) ∷ [])) coming
      ∙ given_full p w (plain R.nodes op m) between.unvisited x (start p.tree.nodes x) m source source_is.there

  -- ---- the refusal that is due
  pub moved_due : due p m (File op) ≡ or_else (source_fault p source) (or_else (blocked (judged_name R op)) (exceeded p.tree.size R (with_place p.tree x d name).nodes))
  moved_due =
      let more = or_else (blocked (judged_name R op)) (exceeded p.tree.size R (with_place p.tree x d name).nodes) in
      move_due p m from to x d name w.valid.volume is.resolved is.inner is.at
      ∙ (ap (λ o. tree_first o (or_else (room_after p m op) more)) is.may
      ∙ ap (λ o. or_else o more) room)

  -- by the tables
  pub source_due : (refusal : Refusal) → source_fault p source ≡ Some refusal → due p m (File op) ≡ Some refusal
  source_due refusal h = moved_due ∙ ap (λ o. or_else o (or_else (blocked (judged_name R op)) (exceeded p.tree.size R (with_place p.tree x d name).nodes))) h

  -- by a screen, where the tables have room
  pub screen_due : (refusal : Refusal) → source_fault p source ≡ None → blocked (judged_name R op) ≡ Some refusal → due p m (File op) ≡ Some refusal
  screen_due refusal may h =
      moved_due ∙ (ap (λ o. or_else o (or_else (blocked (judged_name R op)) (exceeded p.tree.size R (with_place p.tree x d name).nodes))) may
      ∙ ap (λ o. or_else o (exceeded p.tree.size R (with_place p.tree x d name).nodes)) h)

  -- by quotas
  pub judged_is : (judged : Option Blocked) → judged ≡ judged_move p v → IsJudged p op judged v.owner d name
  judged_is judged h = moved_judged p from to x d name v.folder v.owner judged is.resolved is.kind is.owner is.at h

  pub quota_due : (judged : Option Blocked) → source_fault p source ≡ None → IsJudged p op judged v.owner d name → is_active judged ≡ false → due p m (File op) ≡ exceeded p.tree.size R (with_place p.tree x d name).nodes
  quota_due judged may j passive =
      moved_due ∙ (ap (λ o. or_else o (or_else (blocked (judged_name R op)) (exceeded p.tree.size R (with_place p.tree x d name).nodes))) may
      ∙ none_by (blocked (judged_name R op)) (exceeded p.tree.size R (with_place p.tree x d name).nodes) (unblocked p op judged v.owner d name j passive))

  -- ---- what is left
  -- the quota that comes is on what moves, which isn't in the queue
  on_it : (row : QuotaRow) → given ≡ Some row → row.folder ≡ x
  on_it row h = at (option_and_then (template_of p.templates.templates) source) h
    where
      at : (o : Option TemplateRow) → option_map (λ t. derived t x (start p.tree.nodes x) m) o ≡ Some row → row.folder ≡ x
      at None h = absurd (cc h)
      at (Some t) h = ap (λ o. option_map_or (λ (r : QuotaRow). r.folder) o x) (sym h)

  alone : (queue : List ℕ) → queue ≡ queue_given p.scans.queue given → same_head p.scans.queue queue ≡ false → head queue ≡ Some x
  alone queue is_queue other = ap head is_queue ∙ by source refl (sym (ap (same_head p.scans.queue) is_queue) ∙ other)
    where
      by : (o : Option ℕ) → source ≡ o → same_head p.scans.queue (queue_given p.scans.queue given) ≡ false → head (queue_given p.scans.queue given) ≡ Some x
      by None e other = absurd (clash (same_head p.scans.queue p.scans.queue) (same_own p.scans.queue)
          (sym (ap (λ o. same_head p.scans.queue (queue_given p.scans.queue (from_source p.templates.templates x (start p.tree.nodes x) m o))) e) ∙ other))
      by (Some n) e other =
          given_head p.scans.queue x given on_it (not_queued p w x (moved_known p x v.folder d name source source_is.is (ap is_some e)).absent) other

  -- the rows are those that the move makes
  pub moved_made : (r t : Course) (tree : Volume) → tree ≡ with_place p.tree x d name → IsVolume tree.size tree.nodes → Turns p.scans r p.tree → r.queue ≡ queue_given p.scans.queue given → Goes r t tree (λ scanned. unvisited_moved p.tree.nodes (with_place p.tree x d name).nodes scanned x d (left p.tree.nodes r)) →
      followed R (asked p m (File op)).effect ≡ rows_of (record (recounted (record p { scans = r }) (quotas_given p.objects.quotas given)) { tree = tree; scans = t })
  moved_made r t tree made kept turns queue goes =
      subst (λ (u : Volume). IsVolume u.size u.nodes → Goes r t u next → followed R (asked p m (File op)).effect ≡ rows_of (mid u)) (sym made) explicit kept goes
    where
      new : Volume
      new = with_place p.tree x d name

      next : ℕ → List ℕ
      next scanned = unvisited_moved p.tree.nodes new.nodes scanned x d (left p.tree.nodes r)

      quotas : List QuotaRow
      quotas = quotas_given p.objects.quotas given

      mid : Volume → Parts
      mid u = record (recounted (record p { scans = r }) quotas) { tree = u; scans = t }

      nodes : plain R.nodes op m ≡ new.nodes
      nodes = move_nodes p.tree from to x d name m is.resolved is.at

      before : ℕ → List ℕ
      before scanned = unvisited_moved p.tree.nodes new.nodes scanned x d (left p.tree.nodes p.scans)

      each : (o : Option ℕ) → option_map_or before o [] ≡ option_map_or (unvisited_in R (plain R.nodes op m) op) o []
      each None = refl
      each (Some n) = sym (move_next p from to x d name (plain R.nodes op m) is.resolved is.at nodes n)

      explicit : IsVolume new.size new.nodes → Goes r t new next → followed R (asked p m (File op)).effect ≡ rows_of (mid new)
      explicit kept goes =
          let u = option_map_or (unvisited_in R (plain R.nodes op m) op) (head R.queue) [] in
          followed_rows p (mid new) (asked p m (File op)).effect quotas r.queue u
          (record { size = refl; marks = refl; crossing = refl; groups = refl; templates = refl; audit = refl; run_limit = refl; last_moment = refl })
          (effect_as R op m new.nodes quotas p.objects p.templates.autos r.queue nodes
          (record { quotas_are = ap (fold quotas_with p.objects.quotas) coming; screens_are = refl; excepts_are = refl; jobs_are = refl; autos_are = refl })
          (ap (fold queue_with p.scans.queue) coming ∙ sym queue))
          goes.queue
          (moved_left p.scans r t p.tree new x d turns goes (folders_moved p.tree.size p.tree.nodes x d name w.valid.volume kept to_it) (alone r.queue queue)
          ∙ ap (λ us. if same_head p.scans.queue r.queue then us else scan_begun new.nodes r.queue) (each (head p.scans.queue)))

-- ---- before the move
-- what moves and where to are there still, once the quota came
pub record IsGoing (p q : Parts) (from to : List (List ℕ)) (v : Moving) : Type 0 where
  pub there : has_row number v.node q.tree.nodes ≡ true
  pub folder : is_folder q.tree.nodes v.place.folder ≡ true
  pub apart : is_under q.tree.nodes v.node v.place.folder ≡ false
  pub may : move_fault q.tree v.node v.place.folder v.place.name.now ≡ None
  pub same : q.tree ≡ p.tree
  pub below : length (under q.tree.nodes v.node) ≡ length (under p.tree.nodes v.node)
  pub deep : length (chain q.tree.nodes v.node) ≤ suc (length from)
  pub high : length (chain q.tree.nodes v.place.folder) ≤ length to

pub going : (p q : Parts) (from to : List (List ℕ)) (v : Moving) (given : Option QuotaRow) → IsWhole p → IsMove p.tree from to v → Receives p q given → IsGoing p q from to v
going p q from to v given w is r =
    let tree : q.tree ≡ p.tree = ap (λ (y : Parts). y.tree) r.parts_are in
    let back : p.tree ≡ q.tree = sym tree in
    let k = w.valid.volume in
    let depth : length (chain p.tree.nodes v.node) ≡ length from + 1 = (resolved p.tree.size p.tree.nodes from v.node k is.resolved).deep in
    record {
      there = subst (λ (u : Volume). has_row number v.node u.nodes ≡ true) back (has_resolved p.tree.size p.tree.nodes from v.node k is.resolved);
      folder = subst (λ (u : Volume). is_folder u.nodes v.place.folder ≡ true) back is.at.folder_is;
      apart = subst (λ (u : Volume). is_under u.nodes v.node v.place.folder ≡ false) back (ready_apart p.tree v.node v.place.folder v.place.name.now is.may);
      may = subst (λ (u : Volume). move_fault u v.node v.place.folder v.place.name.now ≡ None) back is.may;
      same = tree;
      below = ap (λ (u : Volume). length (under u.nodes v.node)) tree;
      deep = subst (λ (u : Volume). length (chain u.nodes v.node) ≤ suc (length from)) back (omega (arith, depth));
      high = subst (λ (u : Volume). length (chain u.nodes v.place.folder) ≤ length to) back (place_depth p.tree.size p.tree.nodes to v.place.folder v.place.name.now k is.at);
    }

-- the bytes that move are asked for if there is a quota
some_length : (quotas : List QuotaRow) (f : ℕ) (q : QuotaRow) → row_of folder_of f quotas ≡ Some q → nat_lt 0 (length quotas) ≡ true
some_length [] f q h = absurd (cc h)
some_length (r ∷ quotas) f q h = lt_test 0 (length (r ∷ quotas)) (omega arith)

pub moved_old : (p : Parts) (x : ℕ) (source : Option ℕ) (bytes : ℕ) → AreMoved p.tree.size p.tree.nodes p.objects.quotas x source bytes → IsMoved p.tree.size p.tree.nodes p.objects.quotas x bytes
moved_old p x source bytes moved = record {
  few = moved.few;
  all = λ f q found. moved.all (or_later (is_some source) (nat_lt 0 (length p.objects.quotas)) (some_length p.objects.quotas f q found));
}

moved_new : (p : Parts) (x n : ℕ) (source : Option ℕ) (state : QuotaState) (m bytes : ℕ) → AreMoved p.tree.size p.tree.nodes p.objects.quotas x source bytes → IsMoved p.tree.size p.tree.nodes (quotas_given p.objects.quotas (from_source p.templates.templates n state m source)) x bytes
moved_new p x n None state m bytes moved = moved_old p x None bytes moved
moved_new p x n (Some t) state m bytes moved = record { few = moved.few; all = λ f q found. moved.all refl }

-- what is known of the parts before the move ends
pub record IsCarried (p y : Parts) (t : Course) (tree : Volume) (m : ℕ) (from to : List (List ℕ)) (v : Moving) (judged : Option Blocked) (change : Change) : Type 0 where
  pub there : option_map told (screen_told (record y { tree = tree; scans = t }) judged) ≡ judged
  pub few : (screen : ScreenRow) → screen_told (record y { tree = tree; scans = t }) judged ≡ Some screen → length screen.actions ≤ most_actions
  pub quotas : are_orderly y.objects.quotas ≡ true
  pub there_both : IsChange tree.nodes change
  pub fits : Fits tree.nodes y.usage change
  pub covered : IsCovered tree.nodes y.usage change
  pub counted : AreCounted (charged_parts (record y { tree = tree; scans = t }) change m)
  pub idle : IsIdle (record y { tree = tree; scans = t })
  pub log : length y.marks.log ≤ most_entries
  pub scanning : Scanning tree t
  pub makes : Makes p (record y { tree = tree; scans = t }) m (File (Move from to)) (name_under (screen_told (record y { tree = tree; scans = t }) judged) v.owner v.place.folder v.place.name.now)
  pub raised : map (peaked p.tree.size tree.nodes m) (charged_parts (record y { tree = tree; scans = t }) change m).objects.quotas ≡ map (peaked p.tree.size tree.nodes m) y.objects.quotas
  pub due : charged_acts (record y { tree = tree; scans = t }) change m ≡ due_of p (charged_parts (record y { tree = tree; scans = t }) change m) m
  pub high : height tree.nodes change.from + height tree.nodes change.to ≤ length from + length to

-- acts that are due by what was reached before, which the quota that came doesn't change
dues : (K : Capacity) (R T S : Rows) (m : ℕ) → ((f n : ℕ) → reached K R f n ≡ reached K T f n) → due_acts K R S m ≡ due_acts K T S m
dues K R T S m same = each S.quotas
  where
    crossed_same : (f n : ℕ) → crossed K R S f n ≡ crossed K T S f n
    crossed_same f n = ap (λ b. reached K S f n && not b) (same f n)

    each : (qs : List QuotaRow) → flat_map (λ q. quota_acts (crossed K R S q.folder) S.run_limit m q) qs ≡ flat_map (λ q. quota_acts (crossed K T S q.folder) S.run_limit m q) qs
    each [] = refl
    each (q ∷ qs) =
        ap (λ zs. zs ++ flat_map (λ q. quota_acts (crossed K R S q.folder) S.run_limit m q) qs) (acts_same (crossed K R S q.folder) (crossed K T S q.folder) S.run_limit m q (crossed_same q.folder))
        ∙ ap (λ zs. quota_acts (crossed K T S q.folder) S.run_limit m q ++ zs) (each qs)

given_reached : (p : Parts) (w : IsWhole p) (x m f n : ℕ) (source : Option ℕ) → IfSome source (λ n. has_row template_number n p.templates.templates ≡ true) → (is_some source ≡ true → is_folder p.tree.nodes x ≡ true) → (is_some source ≡ true → has_row folder_of x p.objects.quotas ≡ false) →
    reached p.tree.size (record (rows_of p) { quotas = quotas_given p.objects.quotas (from_source p.templates.templates x (start p.tree.nodes x) m source) }) f n ≡ reached p.tree.size (rows_of p) f n
given_reached p w x m f n None known kind absent = refl
given_reached p w x m f n (Some k) known kind absent =
    ap (λ o. reached K (with_them (quotas_given p.objects.quotas o)) f n) (source_gives p.templates.templates x (start p.tree.nodes x) m k s.template s.found) ∙ one (f == x) refl
  where
    K : Capacity
    K = p.tree.size

    R : Rows
    R = rows_of p

    with_them : List QuotaRow → Rows
    with_them quotas = record R { quotas = quotas }

    s : IsSource p.templates.templates k
    s = source_is p w k known

    row : QuotaRow
    row = derived s.template x (start p.tree.nodes x) m

    quotas : List QuotaRow
    quotas = with_row folder_of row p.objects.quotas

    other : row_of folder_of f quotas ≡ row_of folder_of f p.objects.quotas → reached K (with_them quotas) f n ≡ reached K R f n
    other same = same_tests (reached K (with_them quotas) f n) (reached K R f n)
        (λ h. reached_test K R f n (other_reached K R (with_them quotas) f n refl same (reached_parts K (with_them quotas) f n h)))
        (λ h. reached_test K (with_them quotas) f n (other_reached K (with_them quotas) R f n refl (sym same) (reached_parts K R f n h)))

    one : (b : Bool) → (f == x) ≡ b → reached K (with_them quotas) f n ≡ reached K R f n
    one true e =
        unreached K (with_them quotas) f n (λ is. unused_reached K (with_them quotas) x n row
        (find-with_row_same folder_of (λ q. folder_of q == x) row p.objects.quotas (eq_same x) (absent refl)) s.thresholds s.limit
        (λ c. empty_folder K p.tree.nodes x w.valid.volume (kind refl) (first_empty p.tree.nodes x true c))
        (subst (λ k. IsReached K (with_them quotas) k n) (eq_is f x e) is))
        ∙ sym (unreached K R f n (λ is. clash (has_row folder_of x p.objects.quotas)
        (subst (λ k. has_row folder_of k p.objects.quotas ≡ true) (eq_is f x e) (found_has folder_of f p.objects.quotas is.quota is.is_there)) (absent refl)))
    one false e = other (row_of-new_other folder_of row f p.objects.quotas e)

module _ (p : Parts) (w : IsWhole p) (idle : IsIdle p) (m : ℕ) (after : p.last_moment ≤ m) (late : m ≤ latest_moment) (from to : List (List ℕ)) (v : Moving) (source : Option ℕ) (judged : Option Blocked) (bytes : ℕ) (may : MayMove p from to v source judged bytes) (r t : Course) where
  abbrev the_size : Capacity
  the_size = p.tree.size

  abbrev the_nodes : List NodeRow
  the_nodes = p.tree.nodes

  abbrev the_node : ℕ
  the_node = v.node

  abbrev the_place : ℕ
  the_place = v.place.folder

  abbrev the_name : List ℕ
  the_name = v.place.name.now

  abbrev the_move : FileOp
  the_move = Move from to

  abbrev the_quota : Option QuotaRow
  the_quota = from_source p.templates.templates the_node (start the_nodes the_node) m source

  abbrev came : Parts
  came = recounted (record p { scans = r }) (quotas_given p.objects.quotas the_quota)

  is_kind : is_some source ≡ true → is_folder the_nodes the_node ≡ true
  is_kind h = may.is.kind ∙ (moved_known p the_node v.folder the_place the_name source may.source_is.is h).moves

  has_none : is_some source ≡ true → has_row folder_of the_node p.objects.quotas ≡ false
  has_none h = (moved_known p the_node v.folder the_place the_name source may.source_is.is h).absent

  carried_at : (tree : Volume) → IsSound came → Turns p.scans r p.tree → r.queue ≡ queue_given p.scans.queue the_quota → Goes r t tree (λ scanned. unvisited_moved the_nodes (with_place p.tree the_node the_place the_name).nodes scanned the_node the_place (left the_nodes r)) → tree ≡ with_place p.tree the_node the_place the_name → IsVolume tree.size tree.nodes → IsCarried p came t tree m from to v judged (change_of v bytes)
  carried_at tree sound turns queue goes made kept =
      let e = sound.counted in
      let it = to_it p w m from to v may.is source may.source_is in
      let moved = moved_new p the_node the_node source (start the_nodes the_node) m bytes may.moved in
      let old = moved_old p the_node source bytes may.moved in
      let change = change_of v bytes in
      let changes = move_changes the_size the_nodes came.objects.quotas the_node the_place the_name v.parent bytes e.volume e.are_quotas may.is.parent it moved in
      let mid : Parts = record came { tree = tree; scans = t } in
      let charged = charged_parts mid change m in
      let done = move_done p.tree tree came.objects.quotas charged.objects.quotas came.usage charged.usage the_node the_place the_name v.parent bytes m e may.is.parent it moved made kept late refl refl in
      let size = ap (λ (u : Volume). u.size) made in
      let j = judged_is p w m from to v may.is source may.source_is judged may.judged_is in
      let e' = w.sound.counted in
      record {
        there = j.there;
        few = λ screen found. few_told p judged screen w found;
        quotas = quotas_orderly the_nodes came.objects.quotas e.are_quotas;
        there_both = record {
          from = there_moved p.tree tree the_node the_place the_name v.parent made (parent_there the_size the_nodes the_node v.parent e.volume (has_resolved the_size the_nodes from the_node e.volume may.is.resolved) may.is.parent);
          to = there_moved p.tree tree the_node the_place the_name the_place made (folder_has the_nodes the_place may.is.at.folder_is);
        };
        fits = moved_fits p.tree tree came.objects.quotas came.usage the_node the_place the_name v.parent bytes e may.is.parent it moved made;
        covered = subst (λ (u : Volume). IsCovered u.nodes came.usage change) (sym made) (covered_by came (moved_nodes the_nodes the_node the_place the_name) change e changes (λ from to given at other. omega arith));
        counted = done.engine;
        idle = record { numbers = idle.numbers; places = idle.places; crossing = idle.crossing };
        log = few_log p w;
        scanning = goes.scanning;
        makes = record {
          after = after;
          none = quota_due p w m from to v may.is source may.source_is judged may.may_come j may.passive
              ∙ by_quotas p (with_place p.tree the_node the_place the_name).nodes change None e' (move_changes the_size the_nodes p.objects.quotas the_node the_place the_name v.parent bytes e'.volume e'.are_quotas may.is.parent it old) (ap (option_map exceeded_refusal) may.admitted);
          lasts = refl;
          judged_is = j.named;
          size = size;
          idle = record { numbers = idle.numbers; places = idle.places; crossing = idle.crossing };
          made = moved_made p w m from to v may.is source may.source_is r t tree made kept turns queue goes;
        };
        raised = done.raised_are;
        due = charged_due came tree t change m size e done.engine
            ∙ dues the_size (rows_of came) (rows_of p) (rows_of charged) m (λ f n. given_reached p w the_node m f n source may.source_is.there is_kind has_none);
        high =
            let left : length (chain tree.nodes v.parent) ≤ length from = subst (λ k. k ≤ length from) (sym (left_height p.tree tree the_node the_place the_name v.parent e.volume it may.is.parent made)) (from_height the_size the_nodes from the_node v.parent e.volume may.is.resolved may.is.inner may.is.parent) in
            let new : length (chain tree.nodes the_place) ≤ length to = subst (λ k. k ≤ length to) (sym (to_height p.tree tree the_node the_place the_name e.volume it made)) (place_depth the_size the_nodes to the_place the_name e.volume may.is.at) in
            omega (arith, left, new);
      }

-- so it is of the parts that the quota came to
pub carried : (p q : Parts) (w : IsWhole p) (idle : IsIdle p) (m : ℕ) (after : p.last_moment ≤ m) (late : m ≤ latest_moment) (from to : List (List ℕ)) (v : Moving) (source : Option ℕ) (judged : Option Blocked) (change : Change) (may : MayMove p from to v source judged change.minus) → change ≡ change_of v change.minus → (t : Course) (tree : Volume) (ready : ReadyMove) →
    Receives p q (from_source p.templates.templates v.node (start p.tree.nodes v.node) m source) → IsSound q → ready ≡ record { node = v.node; folder = v.place.folder; name = v.place.name.now } → ((name : List ℕ) → IsVolume q.tree.size (with_place q.tree v.node v.place.folder name).nodes → Goes q.scans t (with_place q.tree v.node v.place.folder name) (λ scanned. unvisited_moved q.tree.nodes (with_place q.tree v.node v.place.folder name).nodes scanned v.node v.place.folder (left q.tree.nodes q.scans))) →
    tree ≡ with_place q.tree ready.node ready.folder ready.name → IsVolume tree.size tree.nodes → IsCarried p q t tree m from to v judged change
carried p q w idle m after late from to v source judged change may change_is t tree ready received sound ready_is follows makes kept =
    subst (IsCarried p q t tree m from to v judged) (sym change_is)
    (subst (λ (y : Parts). IsSound y → tree ≡ moved y → Goes q.scans t (moved y) (next y) → IsCarried p y t tree m from to v judged (change_of v change.minus)) (sym received.parts_are)
    (λ sound made goes. carried_at p w idle m after late from to v source judged change.minus may q.scans t tree sound received.turns received.queue_is
    (subst (λ (u : Volume). Goes q.scans t u (next p)) (sym made) goes) made kept)
    sound own (follows v.place.name.now (volume_is tree (moved q) own kept)))
  where
    moved : Parts → Volume
    moved y = with_place y.tree v.node v.place.folder v.place.name.now

    next : Parts → ℕ → List ℕ
    next y scanned = unvisited_moved y.tree.nodes (moved y).nodes scanned v.node v.place.folder (left y.tree.nodes q.scans)

    own : tree ≡ moved q
    own = made_ready q.tree tree ready v.node v.place.folder v.place.name.now ready_is makes
