-- What is kept of counters if a command raises no usage: no peak rises.
use Rattle.std.proofs.Common.{◌≡◌, ℕ, ◌+◌, ◌-◌, ◌*◌, ◌^◌, ◌<◌, ◌≤◌, ◌==◌, Bool, true, false, cond, not, List, [], ◌∷◌, length, Option, Some, None, refl, ap, sym, ◌∙◌, subst, arith}
use Rattle.std.proofs.lemmas.Option.{same_Some}
use Rattle.std.specs.Prelude.{map, filter, if◌then◌else◌}
use Rattle.std.specs.Option.{option_and_then, option_map_or}
use Rattle.fsrm_model.specs.declared.command.Deed.TheVariants.{File}
use Rattle.fsrm_model.specs.declared.command.FileOp.TheVariants.{Touch}
use Rattle.fsrm_model.specs.declared.command.Refusal.TheVariants.{PathNotFound}
use Rattle.fsrm_model.specs.declared.row.Capacity.{Capacity}
use Rattle.fsrm_model.specs.declared.row.NodeRow.{NodeRow}
use Rattle.fsrm_model.specs.declared.row.QuotaRow.{QuotaRow}
use Rattle.fsrm_model.specs.store.Capacities.{is_capacity}
use Rattle.fsrm_model.specs.commands.Check.{◌when◌, first}
use Rattle.fsrm_model.specs.nodes.FileOps.{made_node, touched}
use Rattle.fsrm_base.specs.Keyed.{row_of, has_row, is_ascending, with_row, with_change, without_row}
use Rattle.fsrm_model.specs.values.Limits.{longest_file}
use Rattle.fsrm_model.specs.objects.Quota.{folder_of, counts, used_of}
use Rattle.fsrm_model.specs.values.Space.{alloc, space}
use Rattle.fsrm_model.specs.nodes.Tree.{number, parent_of, fresh, is_folder, is_under, is_child, children, resolve, chain, usage}
use Rattle.fsrm_model.specs.store.Valid.{IsVolume}
use Rattle.fsrm_model.proofs.nodes.ChainLaws.{Has, usage-new}
use Rattle.fsrm_model.proofs.nodes.ChangeLaws.{KeepsPlace, usage-change}
use Rattle.fsrm_model.proofs.nodes.Climbs.{shorter}
use Rattle.fsrm_model.proofs.nodes.Keeps.{tree_of, folder-new, folder-change, found_folder, MayGo, removes_of, as_suc}
use Rattle.fsrm_base.proofs.Look.{found_key, found_has, has_found, row_of-without, has_row-without, none_filtered}
use Rattle.fsrm_base.proofs.Order.{least_free_is}
use Rattle.fsrm_model.proofs.nodes.RemoveLaws.{usage-removed, removed_chain}
use Rattle.fsrm_base.proofs.EditedRows.{without_absent}
use Rattle.fsrm_model.proofs.nodes.Resolves.{resolved}
use Rattle.fsrm_base.proofs.TestLaws.{eq_is, clash, not_true}
use Rattle.fsrm_model.proofs.valid.ValidLaws.{folder_has, found_parent}
use Rattle.quota_usage.specs.declared.change.Change.{Change}
use Rattle.quota_usage.specs.declared.change.Counter.{Counter}
use Rattle.quota_usage.specs.Charge.{charged, charged_counter, IsChange, Fits, height}
use Rattle.quota_usage.specs.Counters.{used_in, without_counter}
use Rattle.node_table.specs.declared.view.NodeView.{NodeView}
use Rattle.volume_tree.specs.declared.answer.TreeFault.TheVariants.{NotEmpty}
use Rattle.volume_tree.specs.Volume.{Volume, Shows, with_node, with_touch, without_node, remove_fault}
use Rattle.fsrm_engine.specs.declared.parts.Parts.{Parts}
use Rattle.fsrm_engine.specs.Machine.{rows_of, IsCounted, AreCounted}
use Rattle.fsrm_parts.specs.Sums.{counter_of, sums_of}
use Rattle.fsrm_parts.specs.Places.{IsFile}
use Rattle.fsrm_engine.proofs.operations.ChangeLaws.{Changes, changes_removed, not_zero}
use Rattle.fsrm_engine.proofs.tables.CountingLaws.{counted_without}
use Rattle.fsrm_model.proofs.valid.QuotasKept.{quotas_stay}
use Rattle.fsrm_engine.proofs.tables.PeakLaws.{counters_charged}
use Rattle.fsrm_parts.proofs.walks.PlaceLaws.{shown_folder}
use Rattle.fsrm_base.proofs.RowLaws.{each_found, all_filter, map_same}
use Rattle.fsrm_engine.proofs.steps.StepLaws.{due}
use Rattle.fsrm_parts.proofs.tables.SumLaws.{shown_of, used_sums}
use Rattle.fsrm_parts.proofs.walks.WalkLaws.{usage_small}

-- a row that is left has another number, and was there
pub record Left {X : Type 0} (key : X → ℕ) (n m : ℕ) (rows : List X) (r : X) : Type 0 where
  pub other : (m == n) ≡ false
  pub found : row_of key m rows ≡ Some r

pub left_found : {X : Type 0} (key : X → ℕ) (n m : ℕ) (rows : List X) (r : X) → row_of key m (without_row key n rows) ≡ Some r → Left key n m rows r
left_found key n m rows r h =
    let other : (m == n) ≡ false = not_true _ (λ e. clash (has_row key n (without_row key n rows)) (subst (λ k. has_row key k (without_row key n rows) ≡ true) (eq_is m n e) (found_has key m (without_row key n rows) r h)) (has_row-without key n rows)) in
    record { other = other; found = sym (row_of-without key n m rows other) ∙ h }

few_at : {X : Type 0} (x : X) (xs ys : List X) (b : Bool) → length ys ≤ length xs → length (cond b (x ∷ ys) ys) ≤ length (x ∷ xs)
few_at x xs ys true h = omega arith
few_at x xs ys false h = omega arith

few_filter : {X : Type 0} (p : X → Bool) (rows : List X) → length (filter p rows) ≤ length rows
few_filter p [] = omega arith
few_filter p (x ∷ rows) = few_at x rows (filter p rows) (p x) (few_filter p rows)

sums_same : (K : Capacity) (nodes new : List NodeRow) (quotas : List QuotaRow) → is_ascending folder_of quotas ≡ true → ((f : ℕ) (q : QuotaRow) → row_of folder_of f quotas ≡ Some q → usage K new f ≡ usage K nodes f) → sums_of K nodes quotas ≡ sums_of K new quotas
sums_same K nodes new quotas asc same =
    map_same (counter_of K nodes) (counter_of K new) (filter counts quotas)
    (all_filter counts (λ q. counter_of K nodes q ≡ counter_of K new q) quotas
    (each_found folder_of (λ q. counts q ≡ true → counter_of K nodes q ≡ counter_of K new q) quotas asc
    (λ q found counting. ap (λ n. record { folder = q.folder; bytes = n }) (sym (same q.folder q found)))))

-- usage stays
idle_same : {level : Bool} (K : Capacity) (nodes new : List NodeRow) (quotas : List QuotaRow) (counters : List Counter) → IsCounted K nodes quotas counters level → IsVolume K new → ((f : ℕ) (q : QuotaRow) → row_of folder_of f quotas ≡ Some q → usage K new f ≡ usage K nodes f) → ((f : ℕ) (q : QuotaRow) → row_of folder_of f quotas ≡ Some q → is_folder nodes f ≡ true → is_folder new f ≡ true) → IsCounted K new quotas counters level
idle_same K nodes new quotas counters e v same folders =
    record {
      volume = v;
      legal = e.legal;
      are_quotas = quotas_stay nodes new quotas e.are_quotas folders;
      sums = e.sums ∙ sums_same K nodes new quotas e.are_quotas.ascending same;
      peaks = λ l f q found counting. subst (λ n. n ≤ q.peak) (sym (same f q found)) (e.peaks l f q found counting);
    }

no_more : (n new : ℕ) (b : Bool) → new ≡ n + cond b 0 0 → new ≡ n
no_more n new true h = omega arith
no_more n new false h = omega arith

-- a folder is made
pub usage_made : (K : Capacity) (nodes : List NodeRow) (d : ℕ) (name : List ℕ) (owner m : ℕ) → IsVolume K nodes → is_folder nodes d ≡ true → (f : ℕ) → Has nodes f → usage K (with_row number (made_node nodes d name true 0 owner m) nodes) f ≡ usage K nodes f
usage_made K nodes d name owner m v folder f has =
    let node = made_node nodes d name true 0 owner m in
    let free : has_row number (fresh nodes) nodes ≡ false = (least_free_is number nodes v.ascending).free in
    let inner : (fresh nodes == 0) ≡ false = not_true _ (λ z. clash _ (subst (Has nodes) (sym (eq_is _ _ z)) v.has_root) free) in
    let s = as_suc (fresh nodes) inner in
    no_more (usage K nodes f) (usage K (with_row number node nodes) f) (is_under nodes f d) (usage-new K nodes (tree_of K nodes v) node s.0 s.1 free (folder_has nodes d folder) f has)

pub idle_made : {level : Bool} (v w : Volume) (quotas : List QuotaRow) (counters : List Counter) (d : ℕ) (name : List ℕ) (owner m : ℕ) → IsCounted v.size v.nodes quotas counters level → is_folder v.nodes d ≡ true → w ≡ with_node v (made_node v.nodes d name true 0 owner m) → IsVolume w.size w.nodes → IsCounted w.size w.nodes quotas counters level
idle_made {level} v w quotas counters d name owner m e folder made kept =
    let K = v.size in
    let nodes = v.nodes in
    let node = made_node nodes d name true 0 owner m in
    subst (λ (w : Volume). IsCounted w.size w.nodes quotas counters level) (sym made)
    (idle_same K nodes (with_row number node nodes) quotas counters e (subst (λ (w : Volume). IsVolume w.size w.nodes) made kept)
    (λ f q found. usage_made K nodes d name owner m e.volume folder f (folder_has nodes f (e.are_quotas.folders f q found)))
    (λ f q found h. folder-new nodes node f (least_free_is number nodes e.volume.ascending).free h))

same_space : (n new s : ℕ) (b : Bool) → new + cond b s 0 ≡ n + cond b s 0 → new ≡ n
same_space n new s true h = omega arith
same_space n new s false h = omega arith

-- a file is read
pub idle_touched : {level : Bool} (v w : Volume) (quotas : List QuotaRow) (counters : List Counter) (x m : ℕ) → IsCounted v.size v.nodes quotas counters level → has_row number x v.nodes ≡ true → w ≡ with_touch v x m → IsVolume w.size w.nodes → IsCounted w.size w.nodes quotas counters level
idle_touched {level} v w quotas counters x m e has made kept =
    let K = v.size in
    let nodes = v.nodes in
    let new = with_change number x (touched m) nodes in
    let found = has_found number x nodes has in
    let place : KeepsPlace (touched m) = record { same_number = λ r. refl; same_parent = λ r. refl } in
    subst (λ (w : Volume). IsCounted w.size w.nodes quotas counters level) (sym made)
    (idle_same K nodes new quotas counters e (subst (λ (w : Volume). IsVolume w.size w.nodes) made kept)
    (λ f q h. same_space (usage K nodes f) (usage K new f) (space K found.row) (is_under nodes f found.row.number) (usage-change K nodes x (touched m) place e.volume.ascending found.row found.is f))
    (λ f q h g. folder-change nodes x f (touched m) (λ r. refl) (λ r. refl) ∙ g))

touch_at : (n : ℕ) (nodes : List NodeRow) (o : Option ℕ) → o ≡ Some n → is_folder nodes n ≡ false → first ((PathNotFound when not (option_map_or (λ n. not (is_folder nodes n)) o false)) ∷ []) ≡ None
touch_at n nodes o e file = rw (e, file) refl

pub touch_due : (p : Parts) (m : ℕ) (path : List (List ℕ)) (view : NodeView) → IsFile p.tree.nodes path view → due p m (File (Touch path)) ≡ None
touch_due p m path view f = touch_at view.number p.tree.nodes (resolve p.tree.nodes path) f.resolved (shown_folder p.tree.nodes view.number view f.shows ∙ f.file)

-- a node without children may go

no_fault : (v : Volume) (x : ℕ) (b : Bool) → (length (children v.nodes x) == 0) ≡ b → remove_fault v x ≡ None → (length (children v.nodes x) == 0) ≡ true
no_fault v x true e h = e
no_fault v x false e h = absurd (some_none (length (children v.nodes x) == 0) e h)
  where
    some_none : (b : Bool) → b ≡ false → cond (not b) (Some NotEmpty) None ≡ None → ⊥
    some_none true e h = cc
    some_none false e h = cc

pub may_go : (v : Volume) (x : ℕ) → (x == 0) ≡ false → has_row number x v.nodes ≡ true → remove_fault v x ≡ None → MayGo v.nodes x
may_go v x inner has may =
    let f = has_found number x v.nodes has in
    record { inner = inner; row = f.row; found = f.is; leaf = none_filtered (is_child x) v.nodes (eq_is _ _ (no_fault v x (length (children v.nodes x) == 0) refl may)) }

folder_left : (nodes : List NodeRow) (x f : ℕ) → (f == x) ≡ false → is_folder nodes f ≡ true → is_folder (without_row number x nodes) f ≡ true
folder_left nodes x f other h =
    ap (λ o. option_map_or (λ (node : NodeRow). node.folder) o false) (row_of-without number x f nodes other) ∙ h

no_less : (n new s : ℕ) (b : Bool) → s ≡ 0 → new + cond b s 0 ≡ n → new ≡ n
no_less n new s true z h = omega arith
no_less n new s false z h = omega arith

-- a folder goes, and with it its quota
pub idle_gone : {level : Bool} (v w : Volume) (quotas after : List QuotaRow) (counters left : List Counter) (x : ℕ) → IsCounted v.size v.nodes quotas counters level → MayGo v.nodes x → is_folder v.nodes x ≡ true → w ≡ without_node v x → IsVolume w.size w.nodes → after ≡ without_row folder_of x quotas → left ≡ without_counter counters x → IsCounted w.size w.nodes after left level
idle_gone {level} v w quotas after counters left x e may folder made kept quotas_are counters_are =
    let K = v.size in
    let nodes = v.nodes in
    let new = without_row number x nodes in
    let r = removes_of K nodes x e.volume may in
    let none : space K may.row ≡ 0 = ap (λ b. cond b 0 (alloc K may.row.length)) (sym (found_folder nodes x may.row may.found) ∙ folder) in
    let e' : IsCounted K nodes (without_row folder_of x quotas) (without_counter counters x) level = counted_without K nodes quotas counters (without_counter counters x) x e refl in
    let i : IsCounted K new (without_row folder_of x quotas) (without_counter counters x) level =
    idle_same K nodes new (without_row folder_of x quotas) (without_counter counters x) e' (subst (λ (w : Volume). IsVolume w.size w.nodes) made kept)
    (λ f q h. no_less (usage K nodes f) (usage K new f) (space K may.row) (is_under nodes f may.row.number) none (usage-removed K nodes x r e.volume.ascending may.row may.found f))
    (λ f q h g. folder_left nodes x f (left_found folder_of x f quotas q h).other g) in
    subst (λ (w : Volume). IsCounted w.size w.nodes after left level) (sym made)
    (subst (λ qs. IsCounted K new qs left level) (sym quotas_are) (subst (λ cs. IsCounted K new (without_row folder_of x quotas) cs level) (sym counters_are) i))

-- counters are small
small_at : (K : Capacity) (nodes : List NodeRow) (q : QuotaRow) (bytes : ℕ) (b : Bool) → usage K nodes q.folder ≤ 1048576 * longest_file → cond b (Some (usage K nodes q.folder)) None ≡ Some bytes → bytes ≤ 1048576 * longest_file
small_at K nodes q bytes true l h = subst (λ n. n ≤ 1048576 * longest_file) (same_Some _ _ h) l
small_at K nodes q bytes false l h = cc

small_of : (K : Capacity) (nodes : List NodeRow) (o : Option QuotaRow) (bytes : ℕ) → IsVolume K nodes → is_capacity K ≡ true → option_and_then (shown_of K nodes) o ≡ Some bytes → bytes ≤ 1048576 * longest_file
small_of K nodes None bytes v legal h = cc
small_of K nodes (Some q) bytes v legal h = small_at K nodes q bytes (counts q) (usage_small K nodes q.folder v legal) h

pub counters_small : {level : Bool} (K : Capacity) (nodes : List NodeRow) (quotas : List QuotaRow) (counters : List Counter) (f bytes : ℕ) → IsCounted K nodes quotas counters level → used_in counters f ≡ Some bytes → bytes ≤ 1048576 * longest_file
counters_small K nodes quotas counters f bytes e h =
    small_of K nodes (row_of folder_of f quotas) bytes e.volume e.legal (sym (ap (λ cs. used_in cs f) e.sums ∙ used_sums K nodes f quotas e.are_quotas.ascending) ∙ h)

-- a file goes
pub record FileGoes (w : Volume) (quotas : List QuotaRow) (counters : List Counter) (x : ℕ) (change : Change) (level : Bool) : Type 0 where
  pub is_change : IsChange w.nodes change
  pub fits : Fits w.nodes counters change
  pub no_quota : without_row folder_of x quotas ≡ quotas
  pub engine : IsCounted w.size w.nodes quotas (map (charged_counter w.nodes change) counters) level

no_room : (bytes less most : ℕ) → bytes ≤ 1048576 * longest_file → bytes - less + 0 < 2 ^ 64
no_room bytes less most h = omega arith

-- the change of a file that goes
abbrev pub gone_change : ℕ → ℕ → Change
gone_change parent minus = record { from = Some parent; to = None; minus = minus; plus = 0 }

pub file_goes : {level : Bool} (v w : Volume) (quotas : List QuotaRow) (counters : List Counter) (x minus : ℕ) (view : NodeView) → IsCounted v.size v.nodes quotas counters level → MayGo v.nodes x → is_folder v.nodes x ≡ false → w ≡ without_node v x → IsVolume w.size w.nodes → Shows view v.nodes x → minus ≡ alloc v.size view.length → FileGoes w quotas counters x (gone_change view.parent minus) level
file_goes {level} v w quotas counters x minus view e may file made kept shows minus_is =
    let K = v.size in
    let nodes = v.nodes in
    let new = without_row number x nodes in
    let t = tree_of K nodes e.volume in
    let r = removes_of K nodes x e.volume may in
    let p = parent_of nodes x in
    let hx : Has nodes x = found_has number x nodes may.row may.found in
    let hp : Has new p = r.numbers p (r.leaf x hx) ∙ t.closed x hx in
    let row = shows.row in
    let parent_is : p ≡ view.parent = found_parent nodes x row shows.found ∙ sym shows.is.parent in
    let space_is : space K row ≡ minus =
    ap (λ b. cond b 0 (alloc K row.length)) (sym (found_folder nodes x row shows.found) ∙ file)
    ∙ (ap (alloc K) (sym shows.is.bytes) ∙ sym minus_is) in
    let change_is : gone_change p (space K row) ≡ gone_change view.parent minus =
    ap (λ n. gone_change n (space K row)) parent_is ∙ ap (gone_change view.parent) space_is in
    let changes = subst (Changes K nodes new quotas) change_is (changes_removed K nodes quotas x row e.volume e.are_quotas may shows.found file) in
    let none : has_row folder_of x quotas ≡ false = not_true _ (λ h. let q = has_found folder_of x quotas h in clash (is_folder nodes x) (e.are_quotas.folders x q.row q.is) file) in
    let out : (f : ℕ) (q : QuotaRow) → row_of folder_of f quotas ≡ Some q → is_folder nodes f ≡ true → is_folder new f ≡ true =
    λ f q h g. folder_left nodes x f (not_true _ (λ s. clash (is_folder nodes f) g (ap (is_folder nodes) (eq_is f x s) ∙ file))) g in
    subst (λ (w : Volume). FileGoes w quotas counters x (gone_change view.parent minus) level) (sym made)
    (record {
      is_change = record { from = subst (Has new) parent_is hp; to = tt };
      fits = record { fits = λ f bytes h. no_room bytes (cond (is_under new f view.parent) minus 0) 0 (counters_small K nodes quotas counters f bytes e h) };
      no_quota = without_absent folder_of x quotas none;
      engine = record {
        volume = subst (λ (w : Volume). IsVolume w.size w.nodes) made kept;
        legal = e.legal;
        are_quotas = quotas_stay nodes new quotas e.are_quotas out;
        sums = counters_charged K nodes new quotas counters (gone_change view.parent minus) e.are_quotas changes e.sums;
        peaks = λ l f q found counting.
            let a = changes.after f q found in
            let b = e.peaks l f q found counting in
            omega (arith, a, b);
      };
    })

pub idle_charged : {level : Bool} (w : Volume) (quotas : List QuotaRow) (counters charged : List Counter) (x : ℕ) (change : Change) → FileGoes w quotas counters x change level → charged ≡ map (charged_counter w.nodes change) counters → IsCounted w.size w.nodes quotas charged level
idle_charged {level} w quotas counters charged x change g is =
    subst (λ (cs : List Counter). IsCounted w.size w.nodes quotas cs level) (sym is) g.engine

-- how many looks the removal of a file takes
pub looks_at_file : (v w : Volume) (path : List (List ℕ)) (x start seen followed gone last : ℕ) (view : NodeView) → IsVolume v.size v.nodes → resolve v.nodes path ≡ Some x → MayGo v.nodes x → w ≡ without_node v x → Shows view v.nodes x → seen ≡ start + 1 → followed ≤ seen + 2 * length (chain v.nodes x) → gone ≤ followed + 44 → last ≤ gone + (height w.nodes (Some view.parent) + 0) → last ≤ start + (4 * length path + 60)
looks_at_file v w path x start seen followed gone last view k h may made shows a f b c =
    let K = v.size in
    let nodes = v.nodes in
    let new = without_row number x nodes in
    let t = tree_of K nodes k in
    let r = removes_of K nodes x k may in
    let p = parent_of nodes x in
    let hx : Has nodes x = found_has number x nodes may.row may.found in
    let hp : Has new p = r.numbers p (r.leaf x hx) ∙ t.closed x hx in
    let parent_is : p ≡ view.parent = found_parent nodes x shows.row shows.found ∙ sym shows.is.parent in
    let same : length (chain w.nodes view.parent) ≡ length (chain nodes p) =
    ap (λ (w : Volume). length (chain w.nodes view.parent)) made
    ∙ (ap (λ n. length (chain new n)) (sym parent_is) ∙ ap length (removed_chain nodes new x r p hp)) in
    omega (arith, a, f, b, c, same, shorter nodes t x hx (not_zero x may.inner), (resolved K nodes path x k h).deep)

-- the counter of a folder is what its quota shows
shown_at : (K : Capacity) (nodes : List NodeRow) (f : ℕ) (o : Option QuotaRow) → ((q : QuotaRow) → o ≡ Some q → q.folder ≡ f) → option_and_then (shown_of K nodes) o ≡ option_and_then (λ q. if counts q then Some (usage K nodes f) else None) o
shown_at K nodes f None h = refl
shown_at K nodes f (Some q) h = ap (λ n. cond (counts q) (Some (usage K nodes n)) None) (h q refl)

pub used_at : (p : Parts) (f : ℕ) (o : Option ℕ) → AreCounted p → o ≡ used_in p.usage f → o ≡ used_of p.tree.size (rows_of p) f
used_at p f o e is =
    let K = p.tree.size in
    let nodes = p.tree.nodes in
    let quotas = p.objects.quotas in
    is ∙ (ap (λ cs. used_in cs f) e.sums ∙ (used_sums K nodes f quotas e.are_quotas.ascending
    ∙ shown_at K nodes f (row_of folder_of f quotas) (λ q h. found_key folder_of f quotas q h)))
