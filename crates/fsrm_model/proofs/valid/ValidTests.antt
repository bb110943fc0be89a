-- The test of a store's rows says the same as what they have part by part.
use Rattle.std.proofs.Common.{◌<◌, ◌≡◌, ℕ, arith, ◌==◌, Bool, true, false, not, ◌||◌, ◌&&◌, List, [], ◌∷◌, length, refl, sym, ◌∙◌, ap, subst, Some, None, Option, nat_le}
use Rattle.std.specs.List.{list_all}
use Rattle.std.specs.Option.{option_map_or}
use Rattle.fsrm_model.specs.declared.row.Capacity.{Capacity}
use Rattle.fsrm_model.specs.declared.row.NodeRow.{NodeRow}
use Rattle.fsrm_model.specs.declared.row.QuotaRow.{QuotaRow}
use Rattle.fsrm_model.specs.declared.row.Rows.{Rows}
use Rattle.fsrm_model.specs.nodes.Fresh.{new_rows}
use Rattle.fsrm_base.specs.Keyed.{row_of, has_row, is_ascending}
use Rattle.fsrm_model.specs.values.Limits.{most_minutes, most_quotas, most_text_bytes}
use Rattle.fsrm_base.specs.Numbers.{is_in, is_set, each_once}
use Rattle.fsrm_model.specs.objects.Quota.{folder_of, is_limit}
use Rattle.fsrm_model.specs.objects.QuotaStates.{is_rebuilding, head}
use Rattle.fsrm_model.specs.objects.Scan.{are_unvisited, AreUnvisited}
use Rattle.fsrm_model.specs.values.Texts.{object_texts}
use Rattle.fsrm_model.specs.objects.Thresholds.{are_thresholds}
use Rattle.fsrm_model.specs.nodes.Tree.{number, is_folder, is_under}
use Rattle.fsrm_model.specs.store.Valid.{is_moment, is_tree, has_source, is_sound_quota, are_quotas, AreQuotas, are_templates, are_autos, are_groups, are_jobs, are_screens, are_excepts, are_audits, are_tables, AreTables, are_entries, is_valid, IsValid}
use Rattle.fsrm_model.specs.store.ValidScans.{is_waiting, is_queue, IsQueue, are_left, AreLeft}
use Rattle.fsrm_model.proofs.nodes.Keeps.{folder_found, found_folder}
use Rattle.fsrm_base.proofs.Look.{found_key, found_has, has_found}
use Rattle.fsrm_base.proofs.Members.{all_pass, all_found}
use Rattle.fsrm_base.proofs.TestLaws.{both, both_true, implied, is_false, eq_is, eq_same, le_is, le_test, lt_test, or_later, same_tests}
use Rattle.fsrm_model.proofs.valid.ValidLaws.{found_parent}
use Rattle.fsrm_model.proofs.valid.ValidVolume.{volume_of_tree, tree_of_volume}

-- a test that all members pass
all_in : (p : ℕ → Bool) (ns : List ℕ) (n : ℕ) → list_all p ns ≡ true → is_in ns n ≡ true → p n ≡ true
all_in p [] n a h = absurd (cc h)
all_in p (k ∷ ns) n a h =
    let parts : (p k ≡ true) × (list_all p ns ≡ true) = both _ _ a in
    at (k == n) refl h parts.0 (all_in p ns n parts.1)
  where
    at : (b : Bool) → (k == n) ≡ b → (b || is_in ns n) ≡ true → p k ≡ true → (is_in ns n ≡ true → p n ≡ true) → p n ≡ true
    at true e m here later = subst (λ j. p j ≡ true) (eq_is k n e) here
    at false e m here later = later m

all_by : (p : ℕ → Bool) (ns : List ℕ) → ((n : ℕ) → is_in ns n ≡ true → p n ≡ true) → list_all p ns ≡ true
all_by p [] h = refl
all_by p (k ∷ ns) h =
    both_true (p k) (list_all p ns) (h k (ap (λ b. b || is_in ns k) (eq_same k))) (all_by p ns (λ n m. h n (or_later (k == n) (is_in ns n) m)))

-- quotas
record QuotaParts (nodes : List NodeRow) (quota : QuotaRow) : Type 0 where
  folder : is_folder nodes quota.folder ≡ true
  limit : is_limit quota.limit ≡ true
  thresholds : are_thresholds quota.thresholds ≡ true
  moment : is_moment quota.peak_at ≡ true

quota_parts : (nodes : List NodeRow) (quota : QuotaRow) → is_sound_quota nodes quota ≡ true → QuotaParts nodes quota
quota_parts nodes quota h =
    let place : (is_folder nodes quota.folder ≡ true) × ((is_limit quota.limit && (are_thresholds quota.thresholds && is_moment quota.peak_at)) ≡ true) = both _ _ h in
    let values : (is_limit quota.limit ≡ true) × ((are_thresholds quota.thresholds && is_moment quota.peak_at) ≡ true) = both _ _ place.1 in
    let more : (are_thresholds quota.thresholds ≡ true) × (is_moment quota.peak_at ≡ true) = both _ _ values.1 in
    record { folder = place.0; limit = values.0; thresholds = more.0; moment = more.1 }

pub quotas_by_test : (nodes : List NodeRow) (quotas : List QuotaRow) → are_quotas nodes quotas ≡ true → AreQuotas nodes quotas
quotas_by_test nodes quotas h =
    let halves : ((is_ascending folder_of quotas && nat_le (length quotas) most_quotas) ≡ true) × (list_all (is_sound_quota nodes) quotas ≡ true) = both _ _ h in
    let table : (is_ascending folder_of quotas ≡ true) × (nat_le (length quotas) most_quotas ≡ true) = both _ _ halves.0 in
    let parts : (f : ℕ) (q : QuotaRow) → row_of folder_of f quotas ≡ Some q → QuotaParts nodes q = λ f q found. quota_parts nodes q (all_found (is_sound_quota nodes) (λ r. folder_of r == f) quotas q halves.1 found) in
    record {
      ascending = table.0;
      few = le_is _ _ table.1;
      folders = λ f q found. subst (λ n. is_folder nodes n ≡ true) (found_key folder_of f quotas q found) (parts f q found).folder;
      limits = λ f q found. (parts f q found).limit;
      thresholds = λ f q found. (parts f q found).thresholds;
      moments = λ f q found. (parts f q found).moment;
    }

pub test_by_quotas : (nodes : List NodeRow) (quotas : List QuotaRow) → AreQuotas nodes quotas → are_quotas nodes quotas ≡ true
test_by_quotas nodes quotas a =
    both_true (is_ascending folder_of quotas && nat_le (length quotas) most_quotas) (list_all (is_sound_quota nodes) quotas)
    (both_true (is_ascending folder_of quotas) (nat_le (length quotas) most_quotas) a.ascending (le_test _ _ a.few))
    (all_pass folder_of (is_sound_quota nodes) quotas a.ascending (λ q own.
    both_true (is_folder nodes q.folder) (is_limit q.limit && (are_thresholds q.thresholds && is_moment q.peak_at)) (a.folders q.folder q own)
    (both_true (is_limit q.limit) (are_thresholds q.thresholds && is_moment q.peak_at) (a.limits q.folder q own)
    (both_true (are_thresholds q.thresholds) (is_moment q.peak_at) (a.thresholds q.folder q own) (a.moments q.folder q own)))))

-- the queue
waiting_has : (quotas : List QuotaRow) (folder : ℕ) (o : Option QuotaRow) → row_of folder_of folder quotas ≡ o → option_map_or (λ quota. is_rebuilding quota.state) o false ≡ true → has_row folder_of folder quotas ≡ true
waiting_has quotas folder None e h = absurd (cc h)
waiting_has quotas folder (Some quota) e h = found_has folder_of folder quotas quota e

found_waiting : (quotas : List QuotaRow) (folder : ℕ) (quota : QuotaRow) → row_of folder_of folder quotas ≡ Some quota → is_waiting quotas folder ≡ is_rebuilding quota.state
found_waiting quotas folder quota found = ap (λ o. option_map_or (λ q. is_rebuilding q.state) o false) found

pub queue_by_test : (quotas : List QuotaRow) (queue : List ℕ) → is_queue quotas queue ≡ true → IsQueue quotas queue
queue_by_test quotas queue h =
    let in_queue : QuotaRow → Bool = λ quota. not (is_rebuilding quota.state) || is_in queue quota.folder in
    let first : (each_once queue ≡ true) × ((list_all (is_waiting quotas) queue && list_all in_queue quotas) ≡ true) = both _ _ h in
    let rest : (list_all (is_waiting quotas) queue ≡ true) × (list_all in_queue quotas ≡ true) = both _ _ first.1 in
    record {
      once = first.0;
      queued = λ f m. waiting_has quotas f (row_of folder_of f quotas) refl (all_in (is_waiting quotas) queue f rest.0 m);
      rebuilding = λ f q found. same_tests (is_in queue f) (is_rebuilding q.state)
          (λ m. sym (found_waiting quotas f q found) ∙ all_in (is_waiting quotas) queue f rest.0 m)
          (λ w. subst (λ n. is_in queue n ≡ true) (found_key folder_of f quotas q found) (implied (is_rebuilding q.state) (is_in queue q.folder) (all_found in_queue (λ r. folder_of r == f) quotas q rest.1 found) w));
    }

pub test_by_queue : (quotas : List QuotaRow) (queue : List ℕ) → is_ascending folder_of quotas ≡ true → IsQueue quotas queue → is_queue quotas queue ≡ true
test_by_queue quotas queue asc k =
    let in_queue : QuotaRow → Bool = λ quota. not (is_rebuilding quota.state) || is_in queue quota.folder in
    both_true (each_once queue) (list_all (is_waiting quotas) queue && list_all in_queue quotas) k.once
    (both_true (list_all (is_waiting quotas) queue) (list_all in_queue quotas)
    (all_by (is_waiting quotas) queue (λ f m.
    let found = has_found folder_of f quotas (k.queued f m) in
    found_waiting quotas f found.row found.is ∙ (sym (k.rebuilding f found.row found.is) ∙ m)))
    (all_pass folder_of in_queue quotas asc (λ q own. either (is_rebuilding q.state) (is_in queue q.folder) (k.rebuilding q.folder q own))))
  where
    either : (a b : Bool) → b ≡ a → (not a || b) ≡ true
    either true b e = e
    either false b e = refl

-- what is unvisited
pub unvisited_by_test : (nodes : List NodeRow) (scanned : ℕ) (unvisited : List ℕ) → are_unvisited nodes scanned unvisited ≡ true → AreUnvisited nodes scanned unvisited
unvisited_by_test nodes scanned unvisited h =
    let closes : NodeRow → Bool = λ node. not ((node.folder && not (node.number == 0)) && is_in unvisited node.parent) || is_in unvisited node.number in
    let place : ℕ → Bool = λ n. is_folder nodes n && is_under nodes scanned n in
    let first : (is_set unvisited ≡ true) × ((list_all place unvisited && list_all closes nodes) ≡ true) = both _ _ h in
    let rest : (list_all place unvisited ≡ true) × (list_all closes nodes ≡ true) = both _ _ first.1 in
    let parts : (n : ℕ) → is_in unvisited n ≡ true → (is_folder nodes n ≡ true) × (is_under nodes scanned n ≡ true) = λ n m. both _ _ (all_in place unvisited n rest.0 m) in
    record {
      ascending = first.0;
      folders = λ n m. (parts n m).0;
      below = λ n m. (parts n m).1;
      closed = λ n is inner up.
          let f = folder_found nodes n is in
          let key : f.row.number ≡ n = found_key number n nodes f.row f.found in
          let other : not (f.row.number == 0) ≡ true = ap not (ap (λ k. k == 0) key ∙ inner) in
          let here : is_in unvisited f.row.parent ≡ true = ap (is_in unvisited) (sym (found_parent nodes n f.row f.found)) ∙ up in
          let premise : ((f.row.folder && not (f.row.number == 0)) && is_in unvisited f.row.parent) ≡ true = both_true _ _ (both_true _ _ f.folder other) here in
          subst (λ k. is_in unvisited k ≡ true) key (implied _ (is_in unvisited f.row.number) (all_found closes (λ r. number r == n) nodes f.row rest.1 f.found) premise);
    }

pub test_by_unvisited : (nodes : List NodeRow) (scanned : ℕ) (unvisited : List ℕ) → is_ascending number nodes ≡ true → AreUnvisited nodes scanned unvisited → are_unvisited nodes scanned unvisited ≡ true
test_by_unvisited nodes scanned unvisited asc a =
    let closes : NodeRow → Bool = λ node. not ((node.folder && not (node.number == 0)) && is_in unvisited node.parent) || is_in unvisited node.number in
    let place : ℕ → Bool = λ n. is_folder nodes n && is_under nodes scanned n in
    both_true (is_set unvisited) (list_all place unvisited && list_all closes nodes) a.ascending
    (both_true (list_all place unvisited) (list_all closes nodes)
    (all_by place unvisited (λ n m. both_true (is_folder nodes n) (is_under nodes scanned n) (a.folders n m) (a.below n m)))
    (all_pass number closes nodes asc (λ r own. implies ((r.folder && not (r.number == 0)) && is_in unvisited r.parent) (is_in unvisited r.number) (λ h.
    let halves : ((r.folder && not (r.number == 0)) ≡ true) × (is_in unvisited r.parent ≡ true) = both _ _ h in
    let kind : (r.folder ≡ true) × (not (r.number == 0) ≡ true) = both _ _ halves.0 in
    a.closed r.number (found_folder nodes r.number r own ∙ kind.0) (is_false (r.number == 0) kind.1) (ap (is_in unvisited) (found_parent nodes r.number r own) ∙ halves.1)))))
  where
    implies : (a b : Bool) → (a ≡ true → b ≡ true) → (not a || b) ≡ true
    implies true b h = h refl
    implies false b h = refl

pub left_by_test : (nodes : List NodeRow) (scanned : Option ℕ) (unvisited : List ℕ) → are_left nodes scanned unvisited ≡ true → AreLeft nodes scanned unvisited
left_by_test nodes None [] h = refl
left_by_test nodes None (n ∷ unvisited) h = absurd (cc h)
left_by_test nodes (Some scanned) unvisited h = unvisited_by_test nodes scanned unvisited h

pub test_by_left : (nodes : List NodeRow) (scanned : Option ℕ) (unvisited : List ℕ) → is_ascending number nodes ≡ true → AreLeft nodes scanned unvisited → are_left nodes scanned unvisited ≡ true
test_by_left nodes None unvisited asc h = ap (are_left nodes None) h
test_by_left nodes (Some scanned) unvisited asc h = test_by_unvisited nodes scanned unvisited asc h

-- the other tables
pub tables_by_test : (R : Rows) → are_tables R ≡ true → AreTables R
tables_by_test R h =
    let sources = list_all (has_source R.templates) R.quotas in
    let ruled = are_autos R.nodes R.templates R.autos in
    let named = are_templates R.templates && (ruled && are_jobs R.nodes R.jobs) in
    let barred = are_screens R.nodes R.groups R.excepts R.screens in
    let lifted = are_excepts R.nodes R.groups R.excepts in
    let halves : ((sources && named) ≡ true) × (((are_groups R.groups && barred) && (lifted && are_audits R.audits)) ≡ true) = both _ _ h in
    let quotas : (sources ≡ true) × (named ≡ true) = both _ _ halves.0 in
    let one : (are_templates R.templates ≡ true) × ((ruled && are_jobs R.nodes R.jobs) ≡ true) = both _ _ quotas.1 in
    let two : (ruled ≡ true) × (are_jobs R.nodes R.jobs ≡ true) = both _ _ one.1 in
    let rest : ((are_groups R.groups && barred) ≡ true) × ((lifted && are_audits R.audits) ≡ true) = both _ _ halves.1 in
    let grouped : (are_groups R.groups ≡ true) × (barred ≡ true) = both _ _ rest.0 in
    let last : (lifted ≡ true) × (are_audits R.audits ≡ true) = both _ _ rest.1 in
    record {
      sources = quotas.0;
      templates = one.0;
      autos = two.0;
      jobs = two.1;
      groups = grouped.0;
      screens = grouped.1;
      excepts = last.0;
      audits = last.1;
    }

pub test_by_tables : (R : Rows) → AreTables R → are_tables R ≡ true
test_by_tables R t =
    let sources = list_all (has_source R.templates) R.quotas in
    let ruled = are_autos R.nodes R.templates R.autos in
    let named = are_templates R.templates && (ruled && are_jobs R.nodes R.jobs) in
    let barred = are_screens R.nodes R.groups R.excepts R.screens in
    let lifted = are_excepts R.nodes R.groups R.excepts in
    both_true (sources && named) ((are_groups R.groups && barred) && (lifted && are_audits R.audits))
    (both_true sources named t.sources
    (both_true (are_templates R.templates) (ruled && are_jobs R.nodes R.jobs) t.templates
    (both_true ruled (are_jobs R.nodes R.jobs) t.autos t.jobs)))
    (both_true (are_groups R.groups && barred) (lifted && are_audits R.audits)
    (both_true (are_groups R.groups) barred t.groups t.screens) (both_true lifted (are_audits R.audits) t.excepts t.audits))

-- all of it
pub valid_by_test : (K : Capacity) (R : Rows) → is_valid K R ≡ true → IsValid K R
valid_by_test K R h =
    let scans = is_queue R.quotas R.queue && are_left R.nodes (head R.queue) R.unvisited in
    let settings = are_entries R.acts && (nat_le R.run_limit most_minutes && is_moment R.last_moment) in
    let halves : ((is_tree K R.nodes && (are_quotas R.nodes R.quotas && are_tables R)) ≡ true) × (((nat_le (object_texts R) most_text_bytes && settings) && scans) ≡ true) = both _ _ h in
    let nodes : (is_tree K R.nodes ≡ true) × ((are_quotas R.nodes R.quotas && are_tables R) ≡ true) = both _ _ halves.0 in
    let objects : (are_quotas R.nodes R.quotas ≡ true) × (are_tables R ≡ true) = both _ _ nodes.1 in
    let rest : ((nat_le (object_texts R) most_text_bytes && settings) ≡ true) × (scans ≡ true) = both _ _ halves.1 in
    let sizes : (nat_le (object_texts R) most_text_bytes ≡ true) × (settings ≡ true) = both _ _ rest.0 in
    let logged : (are_entries R.acts ≡ true) × ((nat_le R.run_limit most_minutes && is_moment R.last_moment) ≡ true) = both _ _ sizes.1 in
    let set : (nat_le R.run_limit most_minutes ≡ true) × (is_moment R.last_moment ≡ true) = both _ _ logged.1 in
    let waits : (is_queue R.quotas R.queue ≡ true) × (are_left R.nodes (head R.queue) R.unvisited ≡ true) = both _ _ rest.1 in
    record {
      volume = volume_of_tree K R.nodes nodes.0;
      quotas = quotas_by_test R.nodes R.quotas objects.0;
      tables = tables_by_test R objects.1;
      texts = le_is _ _ sizes.0;
      log = logged.0;
      run_limit = le_is _ _ set.0;
      last_moment = le_is _ _ set.1;
      queue = queue_by_test R.quotas R.queue waits.0;
      unvisited = left_by_test R.nodes (head R.queue) R.unvisited waits.1;
    }

pub test_by_valid : (K : Capacity) (R : Rows) → IsValid K R → is_valid K R ≡ true
test_by_valid K R s =
    joined (is_tree K R.nodes) (are_quotas R.nodes R.quotas) (are_tables R) (nat_le (object_texts R) most_text_bytes) (are_entries R.acts) (nat_le R.run_limit most_minutes) (is_moment R.last_moment) (is_queue R.quotas R.queue) (are_left R.nodes (head R.queue) R.unvisited)
    (tree_of_volume K R.nodes s.volume)
    (test_by_quotas R.nodes R.quotas s.quotas)
    (test_by_tables R s.tables)
    (le_test _ _ s.texts)
    s.log
    (le_test _ _ s.run_limit)
    (le_test _ _ s.last_moment)
    (test_by_queue R.quotas R.queue s.quotas.ascending s.queue)
    (test_by_left R.nodes (head R.queue) R.unvisited s.volume.ascending s.unvisited)
  where
    joined : (a b c d l e f g i : Bool) → a ≡ true → b ≡ true → c ≡ true → d ≡ true → l ≡ true → e ≡ true → f ≡ true → g ≡ true → i ≡ true → ((a && (b && c)) && ((d && (l && (e && f))) && (g && i))) ≡ true
    joined a b c d l e f g i ha hb hc hd hl he hf hg hi = rw (ha, hb, hc, hd, hl, he, hf, hg, hi) refl

-- the rows of a new store are valid
pub new_valid : (K : Capacity) → 0 < K.nodes → IsValid K new_rows
new_valid K some = valid_by_test K new_rows (rw (lt_test 0 K.nodes some, le_test 0 K.names (omega arith)) refl)
