-- A new folder, with the quota that it gets.
use Rattle.std.proofs.Common.{◌≡◌, ℕ, ◌*◌, ◌≤◌, ◌==◌, Bool, true, false, List, [], ◌∷◌, length, Option, Some, None, refl, ap, sym, ◌∙◌, subst}
use Rattle.std.specs.Prelude.{IfSome, fold, option_map, option_to_list}
use Rattle.std.specs.Option.{option_and_then}
use Rattle.std.specs.List.{list_all}
use Rattle.fsrm_base.specs.Keyed.{has_row, is_ascending, row_of, with_row}
use Rattle.fsrm_base.proofs.EditedRows.{find-with_row_same}
use Rattle.fsrm_base.proofs.Look.{has_found, is_some-find, none_row, row_of-new_other}
use Rattle.fsrm_base.proofs.Order.{least_free_is}
use Rattle.fsrm_base.proofs.TestLaws.{clash, eq_is, eq_same, le_test, not_true}
use Rattle.fsrm_model.specs.declared.command.Answer.{Answer}
use Rattle.fsrm_model.specs.declared.command.Deed.TheVariants.{File}
use Rattle.fsrm_model.specs.declared.command.Outcome.TheVariants.{Done}
use Rattle.fsrm_model.specs.declared.command.FileOp.{FileOp}
use Rattle.fsrm_model.specs.declared.command.FileOp.TheVariants.{Mkdir}
use Rattle.fsrm_model.specs.declared.row.Capacity.{Capacity}
use Rattle.fsrm_model.specs.declared.row.NodeRow.{NodeRow}
use Rattle.fsrm_model.specs.declared.row.QuotaRow.{QuotaRow}
use Rattle.fsrm_model.specs.declared.row.QuotaState.TheVariants.{Complete}
use Rattle.fsrm_model.specs.declared.row.Rows.{Rows}
use Rattle.fsrm_model.specs.declared.row.TemplateRow.{TemplateRow}
use Rattle.fsrm_model.specs.objects.AutoApply.{queue_with, quotas_with, template_for, with_quotas}
use Rattle.fsrm_model.specs.nodes.FileOps.{made_node, new_node, plain}
use Rattle.fsrm_model.specs.commands.FileWork.{coming_quotas, unvisited_after}
use Rattle.fsrm_model.specs.commands.Check.{first, table_full, texts_full}
use Rattle.fsrm_model.specs.objects.Quota.{folder_of, counts, is_complete, is_limit}
use Rattle.fsrm_model.specs.objects.Reached.{IsReached}
use Rattle.fsrm_model.specs.objects.Scan.{unvisited_with}
use Rattle.fsrm_model.specs.objects.Templates.{derived, template_number, template_of}
use Rattle.fsrm_model.specs.values.Limits.{latest_moment}
use Rattle.fsrm_model.specs.objects.Thresholds.{is_threshold, percent_of}
use Rattle.fsrm_model.specs.nodes.Tree.{number, node_of, fresh, children, is_folder, folder_part, last_name, usage}
use Rattle.fsrm_model.specs.store.Valid.{IsVolume, is_moment}
use Rattle.fsrm_model.proofs.nodes.ChainLaws.{Has}
use Rattle.fsrm_model.proofs.templates.ComingLaws.{applied_made, start_made}
use Rattle.fsrm_model.proofs.valid.ValidLaws.{folder_has}
use Rattle.rescan.specs.Courses.{Course, Goes, Scanning, left}
use Rattle.rescan.proofs.queued.Queues.{left_absent}
use Rattle.volume_tree.specs.Volume.{Volume, with_node, without_node}
use Rattle.fsrm_engine.specs.declared.parts.Parts.{Parts}
use Rattle.fsrm_engine.specs.Machine.{AreCounted, Does, IsIdle, IsSound, IsWhole, ended, recounted, rows_of}
use Rattle.fsrm_parts.specs.Places.{IsPlace, IsVacant}
use Rattle.fsrm_engine.specs.Arrivals.{from_source, queue_given, quotas_given, source_fault, with_folder}
use Rattle.fsrm_engine.proofs.coming.SourceLaws.{IsSource, given_full, not_queued, source_gives, source_is}
use Rattle.fsrm_engine.proofs.operations.FollowLaws.{back_scans, is_made, mkdir_next, op_accepts}
use Rattle.fsrm_engine.proofs.operations.IdleLaws.{idle_made, usage_made}
use Rattle.fsrm_engine.proofs.operations.NewLaws.{made_is, mkdir_free, room_after}
use Rattle.fsrm_engine.proofs.settling.CalmLaws.{calm, unused_reached}
use Rattle.fsrm_engine.proofs.settling.EndLaws.{few_log}
use Rattle.fsrm_parts.proofs.walks.PlaceLaws.{target_is}
use Rattle.fsrm_engine.proofs.steps.StepLaws.{done_as, due}
use Rattle.fsrm_engine.proofs.tables.RoomLaws.{each_threshold, percents_ascend}
use Rattle.fsrm_engine.proofs.tables.StateLaws.{empty_folder, first_empty}

-- ---- a number that is free
pub made_free : (K : Capacity) (nodes : List NodeRow) → IsVolume K nodes → has_row number (fresh nodes) nodes ≡ false
made_free K nodes v = (least_free_is number nodes v.ascending).free

pub made_inner : (K : Capacity) (nodes : List NodeRow) → IsVolume K nodes → (fresh nodes == 0) ≡ false
made_inner K nodes v = not_true (fresh nodes == 0) (λ z. clash (has_row number (fresh nodes) nodes) (subst (Has nodes) (sym (eq_is (fresh nodes) 0 z)) v.has_root) (made_free K nodes v))

-- no quota is on it
made_unset : (p : Parts) → IsWhole p → has_row folder_of (fresh p.tree.nodes) p.objects.quotas ≡ false
made_unset p w =
    let nodes = p.tree.nodes in
    let quotas = p.objects.quotas in
    not_true (has_row folder_of (fresh nodes) quotas) (λ e.
    let found = has_found folder_of (fresh nodes) quotas e in
    clash (has_row number (fresh nodes) nodes) (folder_has nodes (fresh nodes) (w.valid.quotas.folders (fresh nodes) found.row found.is)) (made_free p.tree.size nodes w.valid.volume))

-- the new folder is one, and nothing is used in it
pub made_kind : (K : Capacity) (nodes : List NodeRow) (d : ℕ) (name : List ℕ) (owner m : ℕ) → IsVolume K nodes → is_folder (with_row number (made_node nodes d name true 0 owner m) nodes) (fresh nodes) ≡ true
made_kind K nodes d name owner m v = (is_made (record { size = K; nodes = nodes }) (record { size = K; nodes = with_row number (made_node nodes d name true 0 owner m) nodes }) (fresh nodes) d name true 0 owner m v refl refl).kind

pub made_unused : (K : Capacity) (nodes : List NodeRow) (node : NodeRow) → IsVolume K nodes → IsVolume K (with_row number node nodes) → has_row number node.number nodes ≡ false → is_folder nodes node.parent ≡ true → is_folder (with_row number node nodes) node.number ≡ true → usage K (with_row number node nodes) node.number ≡ 0
made_unused K nodes node v k free up kind =
    empty_folder K (with_row number node nodes) node.number k kind
    (first_empty (with_row number node nodes) node.number true (ap is_complete (start_made K nodes node v free up)))

-- ---- parts with the new folder
-- the scans follow it
pub record Follows (q : Parts) (n : ℕ) : Type 0 where
  pub there : has_row number n q.tree.nodes ≡ true
  pub folder : is_folder q.tree.nodes n ≡ true
  pub scanning : Scanning (without_node q.tree n) q.scans

pub made_follows : (p q : Parts) (d : ℕ) (name : List ℕ) (owner m n : ℕ) (given : Option QuotaRow) → IsSound p → q ≡ with_folder p d name owner m given → n ≡ fresh p.tree.nodes → Follows q n
made_follows p q d name owner m n given s made is_n =
    let node = is_made p.tree q.tree n d name true 0 owner m s.counted.volume (ap (λ (y : Parts). y.tree) made) is_n in
    record {
      there = node.there;
      folder = node.kind;
      scanning = subst (λ (course : Course). Scanning (without_node q.tree n) course) (sym (ap (λ (y : Parts). y.scans) made)) (back_scans p.tree q.tree n p.scans node.back s.scanning);
    }

pub made_found : (p q : Parts) (d : ℕ) (name : List ℕ) (owner m n : ℕ) (given : Option QuotaRow) → IsVolume p.tree.size p.tree.nodes → q ≡ with_folder p d name owner m given → n ≡ fresh p.tree.nodes → node_of q.tree.nodes n ≡ Some (made_node p.tree.nodes d name true 0 owner m)
made_found p q d name owner m n given v made is_n = (is_made p.tree q.tree n d name true 0 owner m v (ap (λ (y : Parts). y.tree) made) is_n).found

-- without a quota
pub plain_folder : (p : Parts) (w : Volume) (d : ℕ) (name : List ℕ) (owner m : ℕ) → AreCounted p → is_folder p.tree.nodes d ≡ true → w ≡ with_node p.tree (made_node p.tree.nodes d name true 0 owner m) → IsVolume w.size w.nodes → record p { tree = w } ≡ with_folder p d name owner m None
plain_folder p w d name owner m e folder made kept =
    let counted = idle_made p.tree w p.objects.quotas p.usage d name owner m e folder made kept in
    ap (λ cs. record p { tree = w; usage = cs }) counted.sums
    ∙ ap (λ (u : Volume). recounted (record p { tree = u }) p.objects.quotas) made

-- with one of a template, which may come
pub record MayCount (v : Volume) (row : QuotaRow) : Type 0 where
  pub folder : is_folder v.nodes row.folder ≡ true
  pub limit : is_limit row.limit ≡ true
  pub ascending : is_ascending percent_of row.thresholds ≡ true
  pub thresholds : list_all is_threshold row.thresholds ≡ true
  pub moment : is_moment row.peak_at ≡ true
  pub nothing : counts row ≡ true → usage v.size v.nodes row.folder ≡ 0

module _ (p : Parts) (w : IsWhole p) (t : ℕ) (there : has_row template_number t p.templates.templates ≡ true) (tree : Volume) (d : ℕ) (name : List ℕ) (owner m n : ℕ) (row : QuotaRow) (folder : is_folder p.tree.nodes d ≡ true) (made : tree ≡ with_node p.tree (made_node p.tree.nodes d name true 0 owner m)) (is_n : n ≡ fresh p.tree.nodes) (derives : (template : TemplateRow) → template_of p.templates.templates t ≡ Some template → row ≡ derived template 0 Complete m) where
  s : IsSource p.templates.templates t
  s = source_is p w t there

  given_is : record row { folder = n } ≡ derived s.template (fresh p.tree.nodes) Complete m
  given_is = ap (λ (r : QuotaRow). record r { folder = n }) (derives s.template s.found) ∙ ap (λ k. derived s.template k Complete m) is_n

  pub made_counts : IsVolume tree.size tree.nodes → m ≤ latest_moment → MayCount tree (record row { folder = n })
  made_counts kept late =
      let node = made_node p.tree.nodes d name true 0 owner m in
      let v = w.valid.volume in
      let free = made_free p.tree.size p.tree.nodes v in
      let kind = made_kind p.tree.size p.tree.nodes d name owner m v in
      let none : usage p.tree.size (with_row number node p.tree.nodes) (fresh p.tree.nodes) ≡ 0 =
      made_unused p.tree.size p.tree.nodes node v (subst (λ (u : Volume). IsVolume u.size u.nodes) made kept) free folder kind in
      subst (MayCount tree) (sym given_is)
      (subst (λ (u : Volume). MayCount u (derived s.template (fresh p.tree.nodes) Complete m)) (sym made)
      (record {
        folder = kind;
        limit = s.limit;
        ascending = percents_ascend s.template.thresholds s.thresholds;
        thresholds = each_threshold s.template.thresholds s.thresholds;
        moment = le_test m latest_moment late;
        nothing = λ c. none;
      }))

  pub made_with : (q : Parts) → q ≡ recounted (record p { tree = tree }) (with_row folder_of (record row { folder = n }) p.objects.quotas) → q ≡ with_folder p d name owner m (from_source p.templates.templates (fresh p.tree.nodes) Complete m (Some t))
  made_with q is =
      is ∙ (ap (λ (u : Volume). recounted (record p { tree = u }) (with_row folder_of (record row { folder = n }) p.objects.quotas)) made
      ∙ (ap (λ (r : QuotaRow). with_folder p d name owner m (Some r)) given_is
      ∙ ap (with_folder p d name owner m) (sym (source_gives p.templates.templates (fresh p.tree.nodes) Complete m t s.template s.found))))

-- a folder that is made can be taken back
pub made_back : (p : Parts) (tree : Volume) (d : ℕ) (name : List ℕ) (owner m n : ℕ) → IsVolume p.tree.size p.tree.nodes → is_folder p.tree.nodes d ≡ true → tree ≡ with_node p.tree (made_node p.tree.nodes d name true 0 owner m) → n ≡ fresh p.tree.nodes → (has_row number n tree.nodes ≡ true) × (without_node tree n ≡ p.tree)
made_back p tree d name owner m n v folder made is_n =
    let node = is_made p.tree tree n d name true 0 owner m v made is_n in (node.there, node.back)

pub made_empty : (p : Parts) (tree : Volume) (d : ℕ) (name : List ℕ) (owner m n : ℕ) → IsVolume p.tree.size p.tree.nodes → is_folder p.tree.nodes d ≡ true → tree ≡ with_node p.tree (made_node p.tree.nodes d name true 0 owner m) → n ≡ fresh p.tree.nodes → length (children tree.nodes n) ≡ 0
made_empty p tree d name owner m n v folder made is_n =
    let node = made_node p.tree.nodes d name true 0 owner m in
    ap (λ (u : Volume). length (children u.nodes n)) made
    ∙ (ap (λ k. length (children (with_row number node p.tree.nodes) k)) is_n
    ∙ first_empty (with_row number node p.tree.nodes) (fresh p.tree.nodes) true (ap is_complete (start_made p.tree.size p.tree.nodes node v (made_free p.tree.size p.tree.nodes v) folder)))

-- ---- what it gets
module _ (p : Parts) (w : IsWhole p) (m : ℕ) (path : List (List ℕ)) (owner d : ℕ) (name : List ℕ) (at : IsPlace p.tree.nodes path d name) (source : Option ℕ) (is : source ≡ template_for p.templates.autos d name) (there : IfSome source (λ n. has_row template_number n p.templates.templates ≡ true)) where
  abbrev R : Rows
  R = rows_of p

  abbrev op : FileOp
  op = Mkdir path owner

  abbrev nodes : List NodeRow
  nodes = p.tree.nodes

  abbrev pub given : Option QuotaRow
  given = from_source p.templates.templates (fresh nodes) Complete m source

  abbrev between : Rows
  between = record R { nodes = plain nodes op m; unvisited = unvisited_after R (plain nodes op m) op }

  coming : coming_quotas op R between m ≡ option_to_list given
  coming =
      let node = new_node nodes path true 0 owner m in
      let to = target_is nodes (folder_part path) d at.resolved in
      let by : Option ℕ → List QuotaRow = λ o. option_to_list (from_source p.templates.templates (fresh nodes) Complete m o) in
      ap option_to_list (applied_made p.tree.size R between.unvisited node m w.valid.volume (made_free p.tree.size nodes w.valid.volume) (ap (is_folder nodes) to ∙ at.folder_is)
      (none_row (row_of folder_of (fresh nodes) p.objects.quotas) (is_some-find (λ q. folder_of q == fresh nodes) p.objects.quotas ∙ made_unset p w)))
      ∙ (ap (λ k. by (template_for p.templates.autos k (last_name path))) to
      ∙ (ap (λ k. by (template_for p.templates.autos d k)) at.name_is
      ∙ ap by (sym is)))

  room : room_after p m op ≡ source_fault p source
  room =
      ap (λ (qs : List QuotaRow). first (table_full (with_quotas between qs) ∷ texts_full (with_quotas between qs) ∷ [])) coming
      ∙ given_full p w (plain nodes op m) between.unvisited (fresh nodes) Complete m source there

  -- so the refusal that is due is that of the tables
  pub made_due : IsVacant p.tree path d name → due p m (File op) ≡ source_fault p source
  made_due free = mkdir_free p m path owner d name w.valid.volume free ∙ room

  -- ---- what is left
  -- the new one counts from the first, so no scan waits
  queue_stays : (o : Option ℕ) → queue_given p.scans.queue (from_source p.templates.templates (fresh nodes) Complete m o) ≡ p.scans.queue
  queue_stays o = by (option_and_then (template_of p.templates.templates) o)
    where
      by : (t : Option TemplateRow) → queue_given p.scans.queue (option_map (λ t. derived t (fresh nodes) Complete m) t) ≡ p.scans.queue
      by None = refl
      by (Some t) = left_absent (fresh nodes) p.scans.queue (not_queued p w (fresh nodes) (made_unset p w))

  -- each threshold that is reached after was reached before
  made_reached : (o : Option ℕ) → IfSome o (λ n. has_row template_number n p.templates.templates ≡ true) → (S : Rows) → IsVolume p.tree.size S.nodes → S.nodes ≡ with_row number (made_node nodes d name true 0 owner m) nodes → S.quotas ≡ quotas_given p.objects.quotas (from_source p.templates.templates (fresh nodes) Complete m o) → (folder percent : ℕ) → IsReached p.tree.size S folder percent → IsReached p.tree.size R folder percent
  made_reached o there S kept nodes_are quotas_are folder percent reached = by o there quotas_are
    where
      K : Capacity
      K = p.tree.size

      v : IsVolume K nodes
      v = w.valid.volume

      -- of a quota that was there
      old : row_of folder_of folder S.quotas ≡ row_of folder_of folder p.objects.quotas → IsReached K R folder percent
      old same =
          let found = sym same ∙ reached.is_there in
          let used : usage K S.nodes folder ≡ usage K nodes folder =
          ap (λ ns. usage K ns folder) nodes_are ∙ usage_made K nodes d name owner m v at.folder_is folder (folder_has nodes folder (w.valid.quotas.folders folder reached.quota found)) in
          record {
            quota = reached.quota;
            is_there = found;
            has = reached.has;
            counting = reached.counting;
            enough = subst (λ n. percent * reached.quota.limit ≤ 100 * n) used reached.enough;
          }

      new : (n : ℕ) (s : IsSource p.templates.templates n) → S.quotas ≡ with_row folder_of (derived s.template (fresh nodes) Complete m) p.objects.quotas → (b : Bool) → (folder == fresh nodes) ≡ b → IsReached K R folder percent
      new n s are true e =
          let row = derived s.template (fresh nodes) Complete m in
          let same = eq_is folder (fresh nodes) e in
          let node = made_node nodes d name true 0 owner m in
          absurd (unused_reached K S (fresh nodes) percent row
          (ap (row_of folder_of (fresh nodes)) are ∙ find-with_row_same folder_of (λ q. folder_of q == fresh nodes) row p.objects.quotas (eq_same (fresh nodes)) (made_unset p w))
          s.thresholds s.limit
          (λ c. ap (λ ns. usage K ns (fresh nodes)) nodes_are
          ∙ made_unused K nodes node v (subst (IsVolume K) nodes_are kept) (made_free K nodes v) at.folder_is (made_kind K nodes d name owner m v))
          (subst (λ f. IsReached K S f percent) same reached))
      new n s are false e =
          old (ap (row_of folder_of folder) are ∙ row_of-new_other folder_of (derived s.template (fresh nodes) Complete m) folder p.objects.quotas e)

      by : (o : Option ℕ) → IfSome o (λ n. has_row template_number n p.templates.templates ≡ true) → S.quotas ≡ quotas_given p.objects.quotas (from_source p.templates.templates (fresh nodes) Complete m o) → IsReached K R folder percent
      by None there are = old (ap (row_of folder_of folder) are)
      by (Some n) there are =
          let s = source_is p w n there in
          new n s (are ∙ ap (quotas_given p.objects.quotas) (source_gives p.templates.templates (fresh nodes) Complete m n s.template s.found)) (folder == fresh nodes) refl

  -- so the folder is made
  pub made_as : (q new : Parts) (t : Course) (n : ℕ) (answer : Answer) → IsIdle p → p.last_moment ≤ m → IsVacant p.tree path d name → source_fault p source ≡ None → q ≡ with_folder p d name owner m given → AreCounted q → n ≡ fresh nodes → ((row : NodeRow) → node_of q.tree.nodes n ≡ Some row → Goes q.scans t q.tree (λ scanned. unvisited_with row (left (without_node q.tree n).nodes q.scans))) → new ≡ ended (record q { scans = t }) m → answer ≡ record { outcome = Done None; lasting = true } → Does p new m (File op) answer
  made_as q new t n answer idle after free may made counted is_n follows ends e =
      subst (λ (y : Parts). AreCounted y → ((row : NodeRow) → node_of y.tree.nodes n ≡ Some row → Goes y.scans t y.tree (λ scanned. unvisited_with row (left (without_node y.tree n).nodes y.scans))) → new ≡ ended (record y { scans = t }) m → Does p new m (File op) answer) (sym made) explicit counted follows ends
    where
      row : NodeRow
      row = made_node nodes d name true 0 owner m

      tree : Volume
      tree = with_node p.tree row

      y : Parts
      y = with_folder p d name owner m given

      explicit : AreCounted y → ((row : NodeRow) → node_of tree.nodes n ≡ Some row → Goes p.scans t tree (λ scanned. unvisited_with row (left (without_node tree n).nodes p.scans))) → new ≡ ended (record y { scans = t }) m → Does p new m (File op) answer
      explicit counted follows ends =
          let mid : Parts = record y { scans = t } in
          let node = is_made p.tree tree n d name true 0 owner m w.valid.volume refl is_n in
          let quotas = quotas_given p.objects.quotas given in
          done_as p mid new m (File op) answer
          (op_accepts p mid m op quotas (λ scanned. unvisited_with row (left (without_node tree n).nodes p.scans)) idle after
          (made_due free ∙ may)
          (ap (λ (u : Volume). u.nodes) (sym (made_is p.tree path d name true 0 owner m at)))
          (record { quotas_are = ap (fold quotas_with p.objects.quotas) coming; screens_are = refl; excepts_are = refl; jobs_are = refl; autos_are = refl })
          (ap (fold queue_with p.scans.queue) coming ∙ queue_stays source)
          (mkdir_next p tree path d name owner m n (plain nodes op m) at node.back)
          (follows row node.found)
          (record { size = refl; marks = refl; crossing = refl; groups = refl; templates = refl; audit = refl; run_limit = refl; last_moment = refl }) refl)
          refl (few_log p w)
          (calm p mid m (λ folder percent reached. made_reached source there (rows_of mid) counted.volume refl refl folder percent reached))
          ends e
