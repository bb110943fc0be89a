-- Files that are made, or get another length, and moves: what quotas refuse, and what is kept.
use Rattle.std.proofs.Common.{◌≡◌, ℕ, ◌≤◌, Bool, true, false, cond, List, [], ◌∷◌, length, Option, Some, nat_le, refl, ap, sym, ◌∙◌, subst, arith}
use Rattle.std.proofs.lemmas.Bool.Decides.{nat_tests}
use Rattle.std.specs.Prelude.{map, not}
use Rattle.std.specs.Option.{option_map_or}
use Rattle.fsrm_model.specs.declared.command.Deed.TheVariants.{File}
use Rattle.fsrm_model.specs.declared.command.FileOp.TheVariants.{Resize}
use Rattle.fsrm_model.specs.declared.command.Refusal.{Refusal}
use Rattle.fsrm_model.specs.declared.command.Refusal.TheVariants.{PathNotFound}
use Rattle.fsrm_model.specs.declared.row.Capacity.{Capacity}
use Rattle.fsrm_model.specs.declared.row.NodeRow.{NodeRow}
use Rattle.fsrm_model.specs.declared.row.QuotaRow.{QuotaRow}
use Rattle.fsrm_model.specs.commands.Check.{Check, ◌when◌, first}
use Rattle.fsrm_model.specs.nodes.FileOps.{target, resized, made_node, placed}
use Rattle.fsrm_base.specs.Keyed.{row_of, has_row, with_row, with_change}
use Rattle.fsrm_model.specs.nodes.Leads.{leads_to_file}
use Rattle.fsrm_model.specs.objects.Quota.{folder_of, exceeded, peaked}
use Rattle.fsrm_model.specs.values.Space.{alloc, space}
use Rattle.fsrm_model.specs.nodes.Tree.{number, node_of, parent_of, is_folder, chain}
use Rattle.fsrm_model.specs.store.Valid.{IsVolume, AreQuotas, is_moment}
use Rattle.fsrm_model.proofs.nodes.ChangeLaws.{KeepsPlace, chain-change}
use Rattle.fsrm_model.proofs.nodes.Climbs.{shorter}
use Rattle.fsrm_model.proofs.nodes.Resolves.{resolved}
use Rattle.fsrm_base.proofs.Look.{has_row-change}
use Rattle.fsrm_model.proofs.nodes.Keeps.{tree_of, found_folder, folder-new, folder-change}
use Rattle.fsrm_base.proofs.Order.{least_free_is}
use Rattle.fsrm_base.proofs.TestLaws.{clash, both}
use Rattle.quota_usage.specs.declared.change.Change.{Change}
use Rattle.quota_usage.specs.declared.change.Counter.{Counter}
use Rattle.quota_usage.specs.Charge.{is_above, charged_counter}
use Rattle.quota_usage.specs.Counters.{counted}
use Rattle.node_table.specs.declared.view.NodeView.{NodeView}
use Rattle.volume_tree.specs.Volume.{Volume, with_length}
use Rattle.fsrm_engine.specs.Faults.{quota_refusal}
use Rattle.fsrm_engine.specs.declared.parts.Parts.{Parts}
use Rattle.fsrm_engine.specs.Machine.{rows_of, IsCounted, AreCounted}
use Rattle.fsrm_parts.specs.Sums.{sums_of}
use Rattle.fsrm_parts.specs.Peaks.{raised_above}
use Rattle.fsrm_parts.specs.Places.{IsFile}
use Rattle.fsrm_engine.proofs.steps.StepLaws.{due}
use Rattle.fsrm_parts.proofs.tables.AnswerLaws.{last_check}
use Rattle.fsrm_parts.proofs.walks.PlaceLaws.{target_is}
use Rattle.fsrm_parts.proofs.tables.SumLaws.{sums_has}
use Rattle.fsrm_engine.proofs.operations.ChangeLaws.{Changes, changes_resized}
use Rattle.fsrm_engine.proofs.operations.OverLaws.{exceeded_is}
use Rattle.fsrm_model.proofs.valid.QuotasKept.{quotas_stay}
use Rattle.fsrm_engine.proofs.tables.PeakLaws.{counters_charged, peaks_raised, some_settled, counted_raised}
use Rattle.fsrm_model.proofs.valid.ValidLaws.{found_parent}

-- a counter's folder has a quota
pub owned : (K : Capacity) (nodes : List NodeRow) (quotas : List QuotaRow) (counters : List Counter) → counters ≡ sums_of K nodes quotas → (folder : ℕ) → has_row counted folder counters ≡ true → has_row folder_of folder quotas ≡ true
owned K nodes quotas counters sums folder h = sums_has K nodes folder quotas (subst (λ (cs : List Counter). has_row counted folder cs ≡ true) sums h)

-- what is kept where counters were charged and peaks raised
pub record Charged (K : Capacity) (new : List NodeRow) (quotas raised : List QuotaRow) (counters : List Counter) (m : ℕ) (level : Bool) : Type 0 where
  pub engine : IsCounted K new raised counters level
  pub raised_are : map (peaked K new m) raised ≡ map (peaked K new m) quotas

pub charged_done : {level : Bool} (K : Capacity) (nodes new : List NodeRow) (quotas raised : List QuotaRow) (counters charged_are : List Counter) (change : Change) (m : ℕ) → IsCounted K nodes quotas counters level → IsVolume K new → ((f : ℕ) (q : QuotaRow) → row_of folder_of f quotas ≡ Some q → is_folder nodes f ≡ true → is_folder new f ≡ true) → Changes K nodes new quotas change → is_moment m ≡ true → charged_are ≡ map (charged_counter new change) counters → raised ≡ map (raised_above new change.to charged_are m) quotas → Charged K new quotas raised charged_are m level
charged_done {level} K nodes new quotas raised counters charged_are change m e v folders c moment charging raising =
    let sums : charged_are ≡ sums_of K new quotas = charging ∙ counters_charged K nodes new quotas counters change e.are_quotas c e.sums in
    let qs = quotas_stay nodes new quotas e.are_quotas folders in
    let above : QuotaRow → Bool = λ q. is_above new change.to q.folder in
    record {
      engine = subst (λ (rows : List QuotaRow). IsCounted K new rows charged_are level) (sym raising)
          (counted_raised K new above quotas charged_are m v e.legal qs moment sums (λ l. peaks_raised K nodes new quotas charged_are change m e.are_quotas c sums (e.peaks l)));
      raised_are = ap (map (peaked K new m)) raising ∙ some_settled K new above quotas charged_are m qs.ascending sums;
    }

pub moment_is : (m : ℕ) → m ≤ 4102444799 → is_moment m ≡ true
moment_is m h = le_test m 4102444799 h
  where
    le_test : (m n : ℕ) → m ≤ n → nat_le m n ≡ true
    le_test m n h = grind (arith, nat_tests)

-- a file, lent
pub record FileRow (nodes : List NodeRow) (view : NodeView) : Type 0 where
  pub row : NodeRow
  pub found : node_of nodes view.number ≡ Some row
  pub parent : parent_of nodes view.number ≡ view.parent
  pub file : row.folder ≡ false
  pub bytes : row.length ≡ view.length
  pub is_file : is_folder nodes view.number ≡ false
  pub inner : view.number ≡ 0 → ⊥

pub file_row : (K : Capacity) (nodes : List NodeRow) (path : List (List ℕ)) (view : NodeView) → IsVolume K nodes → IsFile nodes path view → FileRow nodes view
file_row K nodes path view v f =
    let s = f.shows in
    let file : s.row.folder ≡ false = sym s.is.folder ∙ f.file in
    let is_file : is_folder nodes view.number ≡ false = found_folder nodes view.number s.row s.found ∙ file in
    record {
      row = s.row;
      found = s.found;
      parent = found_parent nodes view.number s.row s.found ∙ sym s.is.parent;
      file = file;
      bytes = sym s.is.bytes;
      is_file = is_file;
      inner = λ z. root_folder K nodes s.row v (ap (node_of nodes) (sym z) ∙ s.found) file;
    }
  where
    root_folder : (K : Capacity) (nodes : List NodeRow) (r : NodeRow) → IsVolume K nodes → node_of nodes 0 ≡ Some r → r.folder ≡ false → ⊥
    root_folder K nodes r v found file = clash r.folder (both r.folder _ (both _ _ (both _ _ (v.root r found)).0).0).0 file

-- a file gets another length
pub resize_changes : (K : Capacity) (nodes : List NodeRow) (quotas : List QuotaRow) (path : List (List ℕ)) (view : NodeView) (bytes m minus plus : ℕ) → IsVolume K nodes → AreQuotas nodes quotas → IsFile nodes path view → minus ≡ alloc K view.length → plus ≡ alloc K bytes → Changes K nodes (with_change number view.number (resized bytes m) nodes) quotas (record { from = Some view.parent; to = Some view.parent; minus = minus; plus = plus })
resize_changes K nodes quotas path view bytes m minus plus v qs f less more =
    let r = file_row K nodes path view v f in
    let keeps : KeepsPlace (resized bytes m) = record { same_number = λ r. refl; same_parent = λ r. refl } in
    let new = with_change number view.number (resized bytes m) nodes in
    let c = changes_resized K nodes quotas view.number (resized bytes m) r.row v qs keeps r.found r.is_file r.inner in
    let old_space : space K r.row ≡ minus = ap (λ b. cond b 0 (alloc K r.row.length)) r.file ∙ (ap (alloc K) r.bytes ∙ sym less) in
    let new_space : space K (resized bytes m r.row) ≡ plus = ap (λ b. cond b 0 (alloc K bytes)) r.file ∙ sym more in
    subst (λ (s : ℕ). Changes K nodes new quotas (record { from = Some view.parent; to = Some view.parent; minus = s; plus = plus })) old_space
    (subst (λ (s : ℕ). Changes K nodes new quotas (record { from = Some view.parent; to = Some view.parent; minus = space K r.row; plus = s })) new_space
    (subst (λ (p : ℕ). Changes K nodes new quotas (record { from = Some p; to = Some p; minus = space K r.row; plus = space K (resized bytes m r.row) })) r.parent c))

-- the refusal that is due to another length
listed : (file : Bool) (o : Check) → file ≡ true → first ((PathNotFound when not file) ∷ o ∷ []) ≡ o
listed file o h = ap (λ b. first ((PathNotFound when not b) ∷ o ∷ [])) h ∙ last_check o

pub resize_due : (p : Parts) (m : ℕ) (path : List (List ℕ)) (view : NodeView) (bytes : ℕ) → IsVolume p.tree.size p.tree.nodes → IsFile p.tree.nodes path view → due p m (File (Resize path bytes)) ≡ exceeded p.tree.size (rows_of p) (with_change number view.number (resized bytes m) p.tree.nodes)
resize_due p m path view bytes k f =
    let nodes = p.tree.nodes in
    let r = file_row p.tree.size nodes path view k f in
    let leads : leads_to_file nodes path ≡ true = ap (λ o. option_map_or (λ n. not (is_folder nodes n)) o false) f.resolved ∙ ap not r.is_file in
    listed (leads_to_file nodes path) (exceeded p.tree.size (rows_of p) (with_change number (target nodes path) (resized bytes m) nodes)) leads
    ∙ ap (λ n. exceeded p.tree.size (rows_of p) (with_change number n (resized bytes m) nodes)) (target_is nodes path view.number f.resolved)

-- the counters tell what quotas refuse
pub by_quotas : (p : Parts) (new : List NodeRow) (change : Change) (o : Option Refusal) → AreCounted p → Changes p.tree.size p.tree.nodes new p.objects.quotas change → quota_refusal p change ≡ o → exceeded p.tree.size (rows_of p) new ≡ o
by_quotas p new change o e c h = exceeded_is p.tree.size (rows_of p) new change p.usage e.sums e.are_quotas c ∙ h

-- the folders of quotas stay folders
pub resized_folder : (nodes : List NodeRow) (x bytes m f : ℕ) → is_folder nodes f ≡ true → is_folder (with_change number x (resized bytes m) nodes) f ≡ true
resized_folder nodes x bytes m f h = folder-change nodes x f (resized bytes m) (λ r. refl) (λ r. refl) ∙ h

pub placed_folder : (nodes : List NodeRow) (x d : ℕ) (name : List ℕ) (f : ℕ) → is_folder nodes f ≡ true → is_folder (with_change number x (placed d name) nodes) f ≡ true
placed_folder nodes x d name f h = folder-change nodes x f (placed d name) (λ r. refl) (λ r. refl) ∙ h

pub made_folder : (K : Capacity) (nodes : List NodeRow) (d : ℕ) (name : List ℕ) (folder : Bool) (bytes owner m f : ℕ) → IsVolume K nodes → is_folder nodes f ≡ true → is_folder (with_row number (made_node nodes d name folder bytes owner m) nodes) f ≡ true
made_folder K nodes d name folder bytes owner m f v h = folder-new nodes (made_node nodes d name folder bytes owner m) f (least_free_is number nodes v.ascending).free h

-- a file's folder is there
pub file_parent : (K : Capacity) (nodes : List NodeRow) (path : List (List ℕ)) (view : NodeView) → IsVolume K nodes → IsFile nodes path view → has_row number view.parent nodes ≡ true
file_parent K nodes path view v f =
    let r = file_row K nodes path view v f in
    subst (λ (n : ℕ). has_row number n nodes ≡ true) r.parent ((tree_of K nodes v).closed view.number f.there)

-- the same of a tree that was changed
pub record ChargedTo (v w : Volume) (quotas raised : List QuotaRow) (counters : List Counter) (m : ℕ) (level : Bool) : Type 0 where
  pub engine : IsCounted w.size w.nodes raised counters level
  pub raised_are : map (peaked v.size w.nodes m) raised ≡ map (peaked v.size w.nodes m) quotas

pub charged_at : {level : Bool} (v w : Volume) (new : List NodeRow) (quotas raised : List QuotaRow) (counters charged_are : List Counter) (change : Change) (m : ℕ) → w ≡ record { size = v.size; nodes = new } → IsCounted v.size v.nodes quotas counters level → IsVolume w.size w.nodes → ((f : ℕ) (q : QuotaRow) → row_of folder_of f quotas ≡ Some q → is_folder v.nodes f ≡ true → is_folder new f ≡ true) → Changes v.size v.nodes new quotas change → m ≤ 4102444799 → charged_are ≡ map (charged_counter w.nodes change) counters → raised ≡ map (raised_above w.nodes change.to charged_are m) quotas → ChargedTo v w quotas raised charged_are m level
charged_at {level} v w new quotas raised counters charged_are change m is e kept folders c late charging raising =
    subst (λ (u : Volume). IsVolume u.size u.nodes → charged_are ≡ map (charged_counter u.nodes change) counters → raised ≡ map (raised_above u.nodes change.to charged_are m) quotas → ChargedTo v u quotas raised charged_are m level) (sym is)
    (λ volume charging raising.
    let d = charged_done v.size v.nodes new quotas raised counters charged_are change m e volume folders c (moment_is m late) charging raising in
    record { engine = d.engine; raised_are = d.raised_are })
    kept charging raising

-- how high a file's folder is, before and after it got another length
pub file_height : (K : Capacity) (nodes : List NodeRow) (path : List (List ℕ)) (view : NodeView) → IsVolume K nodes → IsFile nodes path view → length (chain nodes view.parent) ≤ length path
file_height K nodes path view v f =
    let r = file_row K nodes path view v f in
    let deep = (resolved K nodes path view.number v f.resolved).deep in
    let lower = shorter nodes (tree_of K nodes v) view.number f.there r.inner in
    let same : length (chain nodes (parent_of nodes view.number)) ≡ length (chain nodes view.parent) = ap (λ n. length (chain nodes n)) r.parent in
    omega (arith, deep, lower, same)

pub resized_height : (v w : Volume) (n bytes m p : ℕ) → w ≡ with_length v n bytes m → length (chain w.nodes p) ≡ length (chain v.nodes p)
resized_height v w n bytes m p made =
    let keeps : KeepsPlace (resized bytes m) = record { same_number = λ r. refl; same_parent = λ r. refl } in
    ap (λ (u : Volume). length (chain u.nodes p)) made ∙ ap length (chain-change n (resized bytes m) keeps v.nodes p)

-- a place that is there stays
pub there_resized : (v w : Volume) (n bytes m p : ℕ) → w ≡ with_length v n bytes m → has_row number p v.nodes ≡ true → has_row number p w.nodes ≡ true
there_resized v w n bytes m p made h =
    ap (λ (u : Volume). has_row number p u.nodes) made ∙ (has_row-change number n (resized bytes m) (λ r. refl) p v.nodes ∙ h)

-- what is kept where a file got another length
pub resize_done : {level : Bool} (v w : Volume) (quotas raised : List QuotaRow) (counters charged_are : List Counter) (path : List (List ℕ)) (view : NodeView) (bytes m minus plus : ℕ) → IsCounted v.size v.nodes quotas counters level → IsFile v.nodes path view → minus ≡ alloc v.size view.length → plus ≡ alloc v.size bytes → w ≡ with_length v view.number bytes m → IsVolume w.size w.nodes → m ≤ 4102444799 →
    charged_are ≡ map (charged_counter w.nodes (record { from = Some view.parent; to = Some view.parent; minus = minus; plus = plus })) counters → raised ≡ map (raised_above w.nodes (Some view.parent) charged_are m) quotas → ChargedTo v w quotas raised charged_are m level
resize_done v w quotas raised counters charged_are path view bytes m minus plus e f less more made kept late charging raising =
    charged_at v w (with_change number view.number (resized bytes m) v.nodes) quotas raised counters charged_are (record { from = Some view.parent; to = Some view.parent; minus = minus; plus = plus }) m made e kept
    (λ f q found folder. resized_folder v.nodes view.number bytes m f folder)
    (resize_changes v.size v.nodes quotas path view bytes m minus plus e.volume e.are_quotas f less more) late charging raising
