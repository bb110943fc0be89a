-- A scan begins if another folder comes to the head of the queue.
use Rattle.std.proofs.Common.{◌≡◌, ℕ, ◌<◌, ◌==◌, Bool, true, false, cond, ◌&&◌, List, [], ◌∷◌, ◌++◌, Option, Some, None, refl, sym, ◌∙◌, ap, subst, inl, inr}
use Rattle.std.specs.Prelude.{filter, map, is_some, unwrap_or}
use Rattle.std.specs.Option.{option_map_or}
use Rattle.std.specs.List.{remove}
use Rattle.fsrm_model.specs.declared.row.NodeRow.{NodeRow}
use Rattle.fsrm_base.specs.Numbers.{is_in, each_once, without_number}
use Rattle.fsrm_model.specs.objects.QuotaStates.{head, same_head, scan_begun}
use Rattle.fsrm_model.specs.objects.Scan.{folders_under}
use Rattle.fsrm_model.specs.nodes.Tree.{number, is_folder, chain}
use Rattle.fsrm_base.proofs.Look.{some_row}
use Rattle.volume_tree.specs.Volume.{Volume}
use Rattle.rescan.specs.Frontiers.{Front, Room, Suits, Follows, idle, has_above, unvisited}
use Rattle.rescan.specs.Beginnings.{Begins}
use Rattle.rescan.specs.Courses.{Course, Scanning, Turns}
use Rattle.rescan.specs.KeptQueue.{IsKeptQueue}
use Rattle.fsrm_base.proofs.TestLaws.{eq_is, or_false}
use Rattle.rescan.proofs.queued.Queues.{SameHead, in_pushed, once_pushed, later_pushed, in_left, once_left, first_in, first_leaves, other_leaves, first_removed, nobody, somebody}
use Rattle.rescan.proofs.unvisited.FindLaws.{no_above}

-- without a topmost folder nothing is unvisited

fails_later : (a b : Bool) → b ≡ false → (a && b) ≡ false
fails_later true b h = h
fails_later false b h = refl

filter_none : {X : Type 0} (p : X → Bool) → ((x : X) → p x ≡ false) → (xs : List X) → filter p xs ≡ []
filter_none p h [] = refl
filter_none p h (x ∷ xs) = ap (λ b. cond b (x ∷ filter p xs) (filter p xs)) (h x) ∙ filter_none p h xs

pub none_left : (nodes : List NodeRow) (front : Front) → front.tops ≡ [] → unvisited nodes front ≡ []
none_left nodes front h =
    ap (λ tops. map number (filter (λ node. node.folder && has_above nodes tops node.number) nodes)) h
    ∙ ap (map number) (filter_none (λ node. node.folder && has_above nodes [] node.number) (λ node. fails_later node.folder (has_above nodes [] node.number) (no_above (chain nodes node.number))) nodes)

-- the queue is kept
pub kept_begun : (room : Room) (queue : List ℕ) (front : Front) → each_once queue ≡ true → ((folder : ℕ) → is_in queue folder ≡ true → folder < room.nodes) → Begins room (head queue) front → IsKeptQueue queue front
kept_begun room queue front once within b =
    record {
      once = once;
      active = b.folder;
      idle = λ h. b.idle (sym b.folder ∙ h);
      within = λ folder h. subst (λ (r : Room). folder < r.nodes) (sym b.room_is) (within folder h);
    }

pub kept_same : (old queue : List ℕ) (front : Front) → IsKeptQueue old front → each_once queue ≡ true → SameHead old queue → ((folder : ℕ) → is_in queue folder ≡ true → folder < front.room.nodes) → IsKeptQueue queue front
kept_same old queue front k once same within =
    record { once = once; active = k.active ∙ sym same.head_is; idle = k.idle; within = within }

-- another folder comes to the head
begun_left : (v : Volume) (front : Front) (first : Option ℕ) → (first ≡ None → front.tops ≡ []) → ((folder : ℕ) → first ≡ Some folder → Follows front front v (folders_under v.nodes folder)) → unvisited v.nodes front ≡ option_map_or (folders_under v.nodes) first []
begun_left v front None idle follows = none_left v.nodes front (idle refl)
begun_left v front (Some n) idle follows = (follows n refl).unvisited_are

pub turned : (v : Volume) (old : Course) (queue : List ℕ) (front : Front) → Scanning v old → same_head old.queue queue ≡ false → ((n : ℕ) → is_in queue n ≡ true → is_folder v.nodes n ≡ true) → Begins old.front.room (head queue) front → Turns old (record { queue = queue; front = front }) v
turned v old queue front s other folders b =
    let follows : (folder : ℕ) → head queue ≡ Some folder → Follows front front v (folders_under v.nodes folder) = λ folder h.
    b.follows v folder h s.volume s.fits (folders folder (first_in folder queue h)) in
    record {
      scanning = record {
        volume = s.volume;
        fits = subst (Suits v.size) (sym b.room_is) s.fits;
        folders = folders;
        active = b.folder;
        stands = λ h. let f = some_row (head queue) (ap is_some (sym b.folder) ∙ h) in (follows f.row f.is).stands;
        idle = λ h. b.idle (sym b.folder ∙ h);
      };
      left_is =
          begun_left v front (head queue) b.idle follows
          ∙ sym (ap (λ c. cond c (unvisited v.nodes old.front) (scan_begun v.nodes queue)) other);
    }

-- the same folder stays at the head
pub unturned : (v : Volume) (old : Course) (queue : List ℕ) → Scanning v old → SameHead old.queue queue → ((n : ℕ) → is_in queue n ≡ true → is_folder v.nodes n ≡ true) → Turns old (record { queue = queue; front = old.front }) v
unturned v old queue s same folders =
    record {
      scanning = record { volume = s.volume; fits = s.fits; folders = folders; active = s.active ∙ sym same.head_is; stands = s.stands; idle = s.idle };
      left_is = sym (ap (λ c. cond c (unvisited v.nodes old.front) (scan_begun v.nodes queue)) same.same);
    }

-- a folder comes to the end
pushed_all : (P : ℕ → Type 0) (queue : List ℕ) (folder : ℕ) → ((n : ℕ) → is_in queue n ≡ true → P n) → P folder → (n : ℕ) → is_in (queue ++ folder ∷ []) n ≡ true → P n
pushed_all P queue folder f h n m = elim (in_pushed queue folder n m) [ inl e ↦ f n e | inr e ↦ subst P e h ]

pub kept_pushed : (old queue : List ℕ) (front : Front) (folder : ℕ) → queue ≡ old ++ folder ∷ [] → is_some (head old) ≡ true → is_in old folder ≡ false → folder < front.room.nodes → IsKeptQueue old front → IsKeptQueue queue front
kept_pushed old queue front folder e h absent within k =
    subst (λ ns. IsKeptQueue ns front) (sym e)
    (kept_same old (old ++ folder ∷ []) front k (once_pushed old folder k.once absent) (later_pushed folder old (somebody old h)) (pushed_all (λ n. n < front.room.nodes) old folder k.within within))

pub kept_alone : (old queue : List ℕ) (front new : Front) (folder : ℕ) → queue ≡ old ++ folder ∷ [] → is_some (head old) ≡ false → folder < front.room.nodes → Begins front.room (Some folder) new → IsKeptQueue queue new
kept_alone old queue front new folder e h within b =
    let is : queue ≡ folder ∷ [] = e ∙ ap (λ ns. ns ++ folder ∷ []) (nobody old h) in
    subst (λ ns. IsKeptQueue ns new) (sym is)
    (kept_begun front.room (folder ∷ []) new refl (λ n m. subst (λ (k : ℕ). k < front.room.nodes) (alone folder n m) within) b)
  where
    alone : (folder n : ℕ) → is_in (folder ∷ []) n ≡ true → folder ≡ n
    alone folder n h = eq_is folder n (or_false (folder == n) h)

pub turned_alone : (v : Volume) (old : Course) (queue : List ℕ) (front : Front) (folder : ℕ) → queue ≡ old.queue ++ folder ∷ [] → is_some (head old.queue) ≡ false → Begins old.front.room (Some folder) front → Scanning v old → is_folder v.nodes folder ≡ true → Turns old (record { queue = queue; front = front }) v
turned_alone v old queue front folder e h b s f =
    let none : old.queue ≡ [] = nobody old.queue h in
    let is : queue ≡ folder ∷ [] = e ∙ ap (λ ns. ns ++ folder ∷ []) none in
    subst (λ ns. Turns old (record { queue = ns; front = front }) v) (sym is)
    (turned v old (folder ∷ []) front s (ap (λ ns. same_head ns (folder ∷ [])) none) (λ n m. subst (λ k. is_folder v.nodes k ≡ true) (alone folder n m) f) b)
  where
    alone : (folder n : ℕ) → is_in (folder ∷ []) n ≡ true → folder ≡ n
    alone folder n h = eq_is folder n (or_false (folder == n) h)

pub unturned_pushed : (v : Volume) (old : Course) (queue : List ℕ) (folder : ℕ) → queue ≡ old.queue ++ folder ∷ [] → is_some (head old.queue) ≡ true → Scanning v old → is_folder v.nodes folder ≡ true → Turns old (record { queue = queue; front = old.front }) v
unturned_pushed v old queue folder e h s f =
    subst (λ ns. Turns old (record { queue = ns; front = old.front }) v) (sym e)
    (unturned v old (old.queue ++ folder ∷ []) s (later_pushed folder old.queue (somebody old.queue h)) (pushed_all (λ n. is_folder v.nodes n ≡ true) old.queue folder s.folders f))

-- a folder leaves
pub kept_next : (old queue : List ℕ) (front new : Front) (folder : ℕ) → queue ≡ without_number folder old → IsKeptQueue old front → Begins front.room (head queue) new → IsKeptQueue queue new
kept_next old queue front new folder e k b =
    kept_begun front.room queue new (ap each_once e ∙ once_left folder old k.once) (λ n h. k.within n (in_left folder n old (sym (ap (λ ns. is_in ns n) e) ∙ h))) b

pub kept_left : (old queue : List ℕ) (front : Front) (folder : ℕ) → queue ≡ without_number folder old → (head old ≡ Some folder → ⊥) → IsKeptQueue old front → IsKeptQueue queue front
kept_left old queue front folder e other k =
    subst (λ ns. IsKeptQueue ns front) (sym e)
    (kept_same old (without_number folder old) front k (once_left folder old k.once) (other_leaves folder old other) (λ n h. k.within n (in_left folder n old h)))

pub turned_next : (v : Volume) (old : Course) (queue : List ℕ) (front : Front) (folder : ℕ) → queue ≡ without_number folder old.queue → each_once old.queue ≡ true → head old.queue ≡ Some folder → Begins old.front.room (head queue) front → Scanning v old → Turns old (record { queue = queue; front = front }) v
turned_next v old queue front folder e once first b s =
    turned v old queue front s (ap (same_head old.queue) e ∙ first_leaves folder old.queue once first) (λ n h. s.folders n (in_left folder n old.queue (sym (ap (λ ns. is_in ns n) e) ∙ h))) b

pub unturned_left : (v : Volume) (old : Course) (queue : List ℕ) (folder : ℕ) → queue ≡ without_number folder old.queue → (head old.queue ≡ Some folder → ⊥) → Scanning v old → Turns old (record { queue = queue; front = old.front }) v
unturned_left v old queue folder e other s =
    subst (λ ns. Turns old (record { queue = ns; front = old.front }) v) (sym e)
    (unturned v old (without_number folder old.queue) s (other_leaves folder old.queue other) (λ n h. s.folders n (in_left folder n old.queue h)))

-- the one at the head, whatever it is
pub record AtHead (queue : List ℕ) : Type 0 where
  pub folder : ℕ
  pub is : head queue ≡ Some folder
  pub or_root : unwrap_or (head queue) 0 ≡ folder

pub at_head : (queue : List ℕ) → is_some (head queue) ≡ true → AtHead queue
at_head queue h =
    let f = some_row (head queue) h in
    record { folder = f.row; is = f.is; or_root = ap (λ (o : Option ℕ). unwrap_or o 0) f.is }

pub head_removed : (queue : List ℕ) → each_once queue ≡ true → is_some (head queue) ≡ true → remove queue 0 ≡ without_number (unwrap_or (head queue) 0) queue
head_removed queue once h =
    let f = at_head queue h in
    first_removed f.folder queue once f.is ∙ ap (λ n. without_number n queue) (sym f.or_root)
