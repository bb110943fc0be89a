-- Quotas that are received one after another.
use Rattle.std.proofs.Common.{◌≡◌, ℕ, ◌+◌, ◌≤◌, ◌<◌, ◌==◌, ◌⊎◌, inl, inr, Bool, true, false, cond, not, ◌&&◌, List, [], ◌∷◌, ◌++◌, length, Option, None, refl, sym, ◌∙◌, ap, subst, arith}
use Rattle.std.proofs.lemmas.List.Sums.{sum_by-cons}
use Rattle.std.specs.Prelude.{fold, if◌then◌else◌, Result, Ok, Err, IfErr, IsErrOf}
use Rattle.std.specs.List.{AllByRecursion, list_all}
use Rattle.std.specs.Option.{option_map_or}
use Rattle.std.specs.Result.{IsOk}
use Rattle.fsrm_base.specs.Keyed.{has_row, is_ascending, with_row}
use Rattle.fsrm_base.specs.Numbers.{itself, is_in, without_number}
use Rattle.fsrm_base.proofs.EditedRows.{absent_later as apart_later, ascending_tail, length-with_row, sum_by-with_row, without_absent}
use Rattle.fsrm_base.proofs.TestLaws.{both, both_true, clash, eq_is, eq_same, is_false, not_le, not_lt, not_true}
use Rattle.fsrm_model.specs.declared.row.QuotaRow.{QuotaRow}
use Rattle.fsrm_model.specs.declared.row.QuotaState.{QuotaState}
use Rattle.fsrm_model.specs.objects.AutoApply.{queue_with, quotas_with}
use Rattle.fsrm_model.specs.values.Limits.{most_quotas}
use Rattle.fsrm_model.specs.objects.Quota.{folder_of, counts, is_limit}
use Rattle.fsrm_model.specs.objects.QuotaStates.{is_rebuilding, queued, same_head, scan_begun}
use Rattle.fsrm_model.specs.objects.Scan.{folders_under}
use Rattle.fsrm_model.specs.values.Texts.{quota_bytes}
use Rattle.fsrm_model.specs.objects.Thresholds.{are_thresholds, are_too_many, is_threshold, percent_of}
use Rattle.fsrm_model.specs.nodes.Tree.{is_folder, usage}
use Rattle.fsrm_model.specs.store.Valid.{is_moment}
use Rattle.fsrm_model.specs.store.ValidScans.{IsQueue}
use Rattle.fsrm_model.proofs.valid.QueueKept.{queue_added}
use Rattle.fsrm_objects.specs.declared.answer.ObjectFault.{ObjectFault}
use Rattle.fsrm_objects.specs.declared.answer.ObjectFault.TheVariants as object
use Rattle.fsrm_objects.specs.Tables.{IsFault, quota_fault, quota_texts}
use Rattle.rescan.specs.Courses.{Course, Turns, left}
use Rattle.volume_tree.specs.Volume.{Volume}
use Rattle.fsrm_engine.specs.declared.parts.Parts.{Parts}
use Rattle.fsrm_engine.specs.Applying.{AreComing}
use Rattle.fsrm_engine.specs.Faults.{text_room}
use Rattle.fsrm_engine.specs.Machine.{IsSound, Turned, recounted}
use Rattle.fsrm_engine.proofs.applied.ComingRows.{absent_later}
use Rattle.fsrm_engine.proofs.operations.GoingLaws.{head_same}
use Rattle.fsrm_engine.proofs.steps.StepLaws.{same_own}

-- ---- queues that grow at their end
-- the same folder is at the head, or there was none
abbrev pub Grows : List ℕ → List ℕ → Type 0
Grows a b = (same_head a b ≡ true) ⊎ (a ≡ [])

pub grows_own : (a : List ℕ) → Grows a a
grows_own a = inl (same_own a)

heads_left : (a b c : List ℕ) → same_head a b ≡ true → same_head a c ≡ same_head b c
heads_left [] [] c h = refl
heads_left [] (y ∷ b) c h = cc h
heads_left (x ∷ a) [] c h = cc h
heads_left (x ∷ a) (y ∷ b) [] h = refl
heads_left (x ∷ a) (y ∷ b) (z ∷ c) h = ap (λ k. k == z) (eq_is x y h)

heads_right : (a b c : List ℕ) → same_head b c ≡ true → same_head a b ≡ same_head a c
heads_right a [] [] h = refl
heads_right a [] (z ∷ c) h = cc h
heads_right a (y ∷ b) [] h = cc h
heads_right [] (y ∷ b) (z ∷ c) h = refl
heads_right (x ∷ a) (y ∷ b) (z ∷ c) h = ap (λ k. x == k) (eq_is y z h)

grew : (a b : List ℕ) → Grows a b → same_head a b ≡ false → a ≡ []
grew a b (inl same) other = absurd (clash (same_head a b) same other)
grew a b (inr none) other = none

pub grows_more : (a b c : List ℕ) → Grows a b → Grows b c → Grows a c
grows_more a b c (inl same) (inl more) = inl (heads_left a b c same ∙ more)
grows_more a b c (inl same) (inr none) = inr (empty a (ap (same_head a) (sym none) ∙ same))
  where
    empty : (a : List ℕ) → same_head a [] ≡ true → a ≡ []
    empty [] h = refl
    empty (x ∷ a) h = cc h
grows_more a b c (inr none) more = inr none

-- a folder that doesn't wait comes to the end, or the queue stays
pub grows_queued : (queue : List ℕ) (folder : ℕ) (state : QuotaState) → is_in queue folder ≡ false → Grows queue (queued queue folder state)
grows_queued queue folder state out = at (is_rebuilding state) (is_in queue folder) out
  where
    longer : (queue : List ℕ) → Grows queue (queue ++ folder ∷ [])
    longer [] = inr refl
    longer (x ∷ queue) = inl (eq_same x)

    at : (b d : Bool) → d ≡ false → Grows queue (cond b (cond d queue (queue ++ folder ∷ [])) (without_number folder queue))
    at true true none = absurd (clash true refl none)
    at true false none = longer queue
    at false d none = subst (Grows queue) (sym (without_absent itself folder queue out)) (grows_own queue)

-- what scans do that turn twice
turns_more : (a b c : Course) (v : Volume) → Turns a b v → Turns b c v → Grows a.queue b.queue → Grows b.queue c.queue → Turns a c v
turns_more a b c v first second grown more =
    record { scanning = second.scanning; left_is = second.left_is ∙ at (same_head a.queue b.queue) refl (same_head b.queue c.queue) refl first.left_is }
  where
    begun : Course → List ℕ
    begun x = scan_begun v.nodes x.queue

    at : (d : Bool) → same_head a.queue b.queue ≡ d → (e : Bool) → same_head b.queue c.queue ≡ e → left v.nodes b ≡ cond d (left v.nodes a) (begun b) → cond e (left v.nodes b) (begun c) ≡ (if same_head a.queue c.queue then left v.nodes a else begun c)
    at true d e f was =
        ap (λ ns. cond e ns (begun c)) was
        ∙ ap (λ t. cond t (left v.nodes a) (begun c)) (sym (heads_left a.queue b.queue c.queue d ∙ f))
    at false d true f was =
        was
        ∙ (ap (λ (o : Option ℕ). option_map_or (folders_under v.nodes) o []) (head_same b.queue c.queue f)
        ∙ ap (λ t. cond t (left v.nodes a) (begun c)) (sym (sym (heads_right a.queue b.queue c.queue f) ∙ d)))
    at false d false f was =
        let one = grew a.queue b.queue grown d in
        let two = grew b.queue c.queue more f in
        absurd (clash (same_head a.queue b.queue) (ap (λ q. same_head q b.queue) one ∙ ap (same_head []) two) d)

-- parts that turned twice
turned_more : (p mid new : Parts) (quotas after : List QuotaRow) (queue later : List ℕ) → Turned p mid quotas queue → Turned mid new after later → Grows p.scans.queue mid.scans.queue → Grows mid.scans.queue new.scans.queue → Turned p new after later
turned_more p mid new quotas after queue later first second grown more =
    record {
      parts_are = second.parts_are ∙ ap (λ (x : Parts). recounted (record x { scans = new.scans }) after) first.parts_are;
      queue_is = second.queue_is;
      turns = turns_more p.scans mid.scans new.scans p.tree first.turns
          (subst (Turns mid.scans new.scans) (ap (λ (x : Parts). x.tree) first.parts_are) second.turns) grown more;
    }

-- ---- quotas that come
-- the first of them may come by itself
pub coming_first : (p : Parts) (q : QuotaRow) (rest : List QuotaRow) → AreComing p (q ∷ rest) → AreComing p (q ∷ [])
coming_first p q rest c =
    let few : length p.objects.quotas + length (q ∷ rest) ≤ most_quotas = c.few in
    let short : quota_texts (q ∷ rest) ≤ text_room p = c.short in
    record {
      ascending = refl;
      absent = one (λ row. not (has_row folder_of row.folder p.objects.quotas)) c.absent;
      folders = one (λ row. is_folder p.tree.nodes row.folder) c.folders;
      legal = one (λ row. is_limit row.limit && (are_thresholds row.thresholds && is_moment row.peak_at)) c.legal;
      unused = (c.unused.0, tt);
      few = omega (arith, few);
      short = omega (arith, short, sum_by-cons quota_bytes q rest, sum_by-cons quota_bytes q []);
    }
  where
    one : (test : QuotaRow → Bool) → list_all test (q ∷ rest) ≡ true → list_all test (q ∷ []) ≡ true
    one test h = both_true (test q) true (both (test q) (list_all test rest) h).0 refl

-- and then the others
pub coming_rest : (p new : Parts) (q : QuotaRow) (rest : List QuotaRow) (queue : List ℕ) → AreComing p (q ∷ rest) → Turned p new (with_row folder_of q p.objects.quotas) queue → AreComing new rest
coming_rest p new q rest queue c t =
    let more = with_row folder_of q p.objects.quotas in
    let tree : new.tree ≡ p.tree = ap (λ (x : Parts). x.tree) t.parts_are in
    let quotas : new.objects.quotas ≡ more = ap (λ (x : Parts). x.objects.quotas) t.parts_are in
    let few : length p.objects.quotas + length (q ∷ rest) ≤ most_quotas = c.few in
    let short : quota_texts (q ∷ rest) ≤ text_room p = c.short in
    let room : text_room new ≡ text_room (recounted (record p { scans = new.scans }) more) = ap text_room t.parts_are in
    record {
      ascending = ascending_tail folder_of q rest c.ascending;
      absent = subst (λ (qs : List QuotaRow). list_all (λ row. not (has_row folder_of row.folder qs)) rest ≡ true) (sym quotas)
          (absent_later q p.objects.quotas rest (apart_later folder_of (folder_of q) q rest (omega arith) c.ascending) (tail (λ row. not (has_row folder_of row.folder p.objects.quotas)) c.absent));
      folders = subst (λ (v : Volume). list_all (λ row. is_folder v.nodes row.folder) rest ≡ true) (sym tree) (tail (λ row. is_folder p.tree.nodes row.folder) c.folders);
      legal = tail (λ row. is_limit row.limit && (are_thresholds row.thresholds && is_moment row.peak_at)) c.legal;
      unused = subst (λ (v : Volume). AllByRecursion (λ row. counts row ≡ true → usage v.size v.nodes row.folder ≡ 0) rest) (sym tree) c.unused.1;
      few = omega (arith, few, ap length quotas, length-with_row folder_of q p.objects.quotas);
      short = omega (arith, short, room, sum_by-cons quota_bytes q rest, sum_by-with_row folder_of quota_bytes q p.objects.quotas);
    }
  where
    tail : (test : QuotaRow → Bool) → list_all test (q ∷ rest) ≡ true → list_all test rest ≡ true
    tail test h = (both (test q) (list_all test rest) h).1

-- what one that comes is by itself
pub record IsComing (p : Parts) (q : QuotaRow) : Type 0 where
  pub absent : has_row folder_of q.folder p.objects.quotas ≡ false
  pub folder : is_folder p.tree.nodes q.folder ≡ true
  pub limit : is_limit q.limit ≡ true
  pub thresholds : are_thresholds q.thresholds ≡ true
  pub moment : is_moment q.peak_at ≡ true
  pub unused : counts q ≡ true → usage p.tree.size p.tree.nodes q.folder ≡ 0
  pub few : length p.objects.quotas < most_quotas
  pub short : quota_bytes q ≤ text_room p

pub coming_one : (p : Parts) (q : QuotaRow) → AreComing p (q ∷ []) → IsComing p q
coming_one p q c =
    let legal = both (is_limit q.limit) (are_thresholds q.thresholds && is_moment q.peak_at) (both (is_limit q.limit && (are_thresholds q.thresholds && is_moment q.peak_at)) true c.legal).0 in
    let marks = both (are_thresholds q.thresholds) (is_moment q.peak_at) legal.1 in
    let few : length p.objects.quotas + length (q ∷ []) ≤ most_quotas = c.few in
    let short : quota_texts (q ∷ []) ≤ text_room p = c.short in
    record {
      absent = is_false (has_row folder_of q.folder p.objects.quotas) (both (not (has_row folder_of q.folder p.objects.quotas)) true c.absent).0;
      folder = (both (is_folder p.tree.nodes q.folder) true c.folders).0;
      limit = legal.0;
      thresholds = marks.0;
      moment = marks.1;
      unused = c.unused.0;
      few = omega (arith, few);
      short = omega (arith, short, sum_by-cons quota_bytes q []);
    }

-- nothing refuses it
pub coming_fault : (p : Parts) (q : QuotaRow) → IsComing p q → quota_fault p.objects q (text_room p) ≡ None
coming_fault p q is =
    let halves = both (is_ascending percent_of q.thresholds && not (are_too_many q.thresholds)) (list_all is_threshold q.thresholds) is.thresholds in
    let few = is_false (are_too_many q.thresholds) (both (is_ascending percent_of q.thresholds) (not (are_too_many q.thresholds)) halves.0).1 in
    rw (is.absent, few, not_le most_quotas (length p.objects.quotas) is.few, not_lt (text_room p) (quota_bytes q) is.short) refl

-- and it comes, if there is memory for it
pub comes : (p : Parts) (q : QuotaRow) (r : Result (Unit {0}) ObjectFault) → IsComing p q → p.objects.room ≡ most_quotas → IfErr r (λ fault. IsFault fault (quota_fault p.objects q (text_room p))) → (IsErrOf r object.NoMemory → p.objects.room ≤ length p.objects.quotas) → IsOk r
comes p q (Ok u) is room refused full = refl
comes p q (Err object.NoMemory) is room refused full = absurd (let most = full refl in let few = is.few in omega (arith, most, few, room))
comes p q (Err object.AlreadyExists) is room refused full = let e = sym (coming_fault p q is) ∙ refused in absurd (cc e)
comes p q (Err object.InvalidCombination) is room refused full = let e = sym (coming_fault p q is) ∙ refused in absurd (cc e)
comes p q (Err object.DuplicateName) is room refused full = let e = sym (coming_fault p q is) ∙ refused in absurd (cc e)
comes p q (Err object.OutOfRange) is room refused full = let e = sym (coming_fault p q is) ∙ refused in absurd (cc e)
comes p q (Err object.TableFull) is room refused full = let e = sym (coming_fault p q is) ∙ refused in absurd (cc e)
comes p q (Err object.TextsFull) is room refused full = let e = sym (coming_fault p q is) ∙ refused in absurd (cc e)

-- ---- some have come, and these are still to come
pub record Received (p now : Parts) (rows rest : List QuotaRow) : Type 0 where
  pub turned : Turned p now now.objects.quotas now.scans.queue
  pub grown : Grows p.scans.queue now.scans.queue
  pub quotas : fold quotas_with now.objects.quotas rest ≡ fold quotas_with p.objects.quotas rows
  pub queue : fold queue_with now.scans.queue rest ≡ fold queue_with p.scans.queue rows
  pub sound : IsSound now
  pub waiting : IsQueue now.objects.quotas now.scans.queue
  pub room : now.objects.room ≡ most_quotas
  pub coming : AreComing now rest

turned_own : (p : Parts) → IsSound p → Turned p p p.objects.quotas p.scans.queue
turned_own p s =
    record {
      parts_are = ap (λ cs. record p { usage = cs }) s.counted.sums;
      queue_is = refl;
      turns = record {
        scanning = s.scanning;
        left_is = ap (λ b. if b then left p.tree.nodes p.scans else scan_begun p.tree.nodes p.scans.queue) (sym (same_own p.scans.queue));
      };
    }

pub received_none : (p : Parts) (rows : List QuotaRow) → IsSound p → IsQueue p.objects.quotas p.scans.queue → p.objects.room ≡ most_quotas → AreComing p rows → Received p p rows rows
received_none p rows sound waiting room coming =
    record { turned = turned_own p sound; grown = grows_own p.scans.queue; quotas = refl; queue = refl; sound = sound; waiting = waiting; room = room; coming = coming }

pub received_one : (p now new : Parts) (rows rest : List QuotaRow) (q : QuotaRow) → Received p now rows (q ∷ rest) → Turned now new (quotas_with now.objects.quotas q) (queue_with now.scans.queue q) → IsSound new → Received p new rows rest
received_one p now new rows rest q r t sound =
    let quotas : new.objects.quotas ≡ with_row folder_of q now.objects.quotas = ap (λ (x : Parts). x.objects.quotas) t.parts_are in
    let is = coming_one now q (coming_first now q rest r.coming) in
    let out : is_in now.scans.queue q.folder ≡ false = not_true (is_in now.scans.queue q.folder) (λ e. clash (has_row folder_of q.folder now.objects.quotas) (r.waiting.queued q.folder e) is.absent) in
    let more : Grows now.scans.queue new.scans.queue = subst (Grows now.scans.queue) (sym t.queue_is) (grows_queued now.scans.queue q.folder q.state out) in
    let whole = turned_more p now new now.objects.quotas (quotas_with now.objects.quotas q) now.scans.queue (queue_with now.scans.queue q) r.turned t r.grown more in
    record {
      turned = subst (λ (qs : List QuotaRow). Turned p new qs new.scans.queue) (sym quotas) (subst (Turned p new (quotas_with now.objects.quotas q)) (sym t.queue_is) whole);
      grown = grows_more p.scans.queue now.scans.queue new.scans.queue r.grown more;
      quotas = ap (λ (qs : List QuotaRow). fold quotas_with qs rest) quotas ∙ r.quotas;
      queue = ap (λ (ns : List ℕ). fold queue_with ns rest) t.queue_is ∙ r.queue;
      sound = sound;
      waiting = subst (λ (qs : List QuotaRow). IsQueue qs new.scans.queue) (sym quotas)
          (subst (IsQueue (with_row folder_of q now.objects.quotas)) (sym t.queue_is) (queue_added now.objects.quotas now.scans.queue q r.waiting is.absent));
      room = ap (λ (x : Parts). x.objects.room) t.parts_are ∙ r.room;
      coming = coming_rest now new q rest (queue_with now.scans.queue q) r.coming t;
    }

-- all have come
pub received_all : (p now : Parts) (rows : List QuotaRow) → Received p now rows [] → Turned p now (fold quotas_with p.objects.quotas rows) (fold queue_with p.scans.queue rows)
received_all p now rows r =
    subst (λ (qs : List QuotaRow). Turned p now qs (fold queue_with p.scans.queue rows)) r.quotas
    (subst (Turned p now now.objects.quotas) r.queue r.turned)

-- the same parts, but for the memory that they have
abbrev pub roomed : Parts → ℕ → Parts
roomed p room = record p { objects = record p.objects { room = room } }

pub coming_roomed : (p : Parts) (room : ℕ) (rows : List QuotaRow) → AreComing p rows → AreComing (roomed p room) rows
coming_roomed p room rows c =
    record { ascending = c.ascending; absent = c.absent; folders = c.folders; legal = c.legal; unused = c.unused; few = c.few; short = c.short }

pub sound_roomed : (p : Parts) (room : ℕ) → IsSound p → IsSound (roomed p room)
sound_roomed p room s = record { counted = s.counted; scanning = s.scanning }

-- nothing comes
pub received_nothing : (p : Parts) (rows : List QuotaRow) → IsSound p → rows ≡ [] → Turned (roomed p p.objects.room) p (fold quotas_with p.objects.quotas rows) (fold queue_with p.scans.queue rows)
received_nothing p rows s none =
    subst (λ (rows : List QuotaRow). Turned p p (fold quotas_with p.objects.quotas rows) (fold queue_with p.scans.queue rows)) (sym none) (turned_own p s)
