-- The scans go on after a change of the tree.
use Rattle.std.proofs.Common.{◌≡◌, ℕ, ◌<◌, ◌==◌, ◌&&◌, cond, true, false, List, [], Option, Some, None, refl, sym, ◌∙◌, ap, subst}
use Rattle.std.specs.Prelude.{is_some, unwrap_or}
use Rattle.std.specs.Option.{option_map_or}
use Rattle.fsrm_model.specs.declared.row.NodeRow.{NodeRow}
use Rattle.fsrm_base.specs.Numbers.{is_in, with_number, without_number}
use Rattle.fsrm_model.specs.objects.QuotaStates.{head}
use Rattle.fsrm_model.specs.objects.Scan.{unvisited_with}
use Rattle.fsrm_model.specs.nodes.Tree.{node_of, is_folder}
use Rattle.fsrm_model.specs.store.Valid.{IsVolume}
use Rattle.fsrm_base.proofs.Look.{none_row, some_row}
use Rattle.volume_tree.specs.Volume.{Volume}
use Rattle.rescan.specs.Frontiers.{Room, Front, Stands, Suits, Follows, scanned, unvisited, sized}
use Rattle.rescan.specs.Courses.{Course, Scanning, Goes}
use Rattle.rescan.specs.KeptQueue.{IsKeptQueue}
use Rattle.fsrm_base.proofs.TestLaws.{clash, not_true, eq_is}
use Rattle.rescan.proofs.queued.Lengths.{own_follows, sized_unvisited}
use Rattle.rescan.proofs.queued.Queues.{first_in}
use Rattle.rescan.proofs.queued.Turning.{none_left}

-- the queue is kept if the frontier goes on with its scan
pub kept_going : (queue : List ℕ) (old new : Front) → is_some (head queue) ≡ true → new.folder ≡ old.folder → new.room ≡ old.room → IsKeptQueue queue old → IsKeptQueue queue new
kept_going queue old new some folder room k =
    record {
      once = k.once;
      active = folder ∙ k.active;
      idle = λ h. let none : head queue ≡ None = sym (folder ∙ k.active) ∙ h in let no : is_some (head queue) ≡ false = ap is_some none in cc;
      within = λ n h. subst (λ (r : Room). n < r.nodes) (sym room) (k.within n h);
    }

-- the active scan stands
pub stands_active : (v : Volume) (course : Course) → Scanning v course → is_some (head course.queue) ≡ true → Stands v course.front
stands_active v course s some = s.stands (ap is_some s.active ∙ some)

-- without an active scan there is nothing to do
pub goes_idle : (v : Volume) (course : Course) (next : ℕ → List ℕ) → course.front.folder ≡ head course.queue → is_some (head course.queue) ≡ false → course.front.tops ≡ [] → IsVolume v.size v.nodes → Suits v.size course.front.room → ((n : ℕ) → is_in course.queue n ≡ true → is_folder v.nodes n ≡ true) → Goes course course v next
goes_idle v course next active none tops volume fits folders =
    record {
      scanning = record {
        volume = volume;
        fits = fits;
        folders = folders;
        active = active;
        stands = λ h. let not : is_some course.front.folder ≡ false = ap is_some active ∙ none in let is : is_some course.front.folder ≡ true = h in cc;
        idle = λ h. tops;
      };
      queue = refl;
      left_is = none_left v.nodes course.front tops ∙ sym (ap (λ (o : Option ℕ). option_map_or next o []) (none_row (head course.queue) none));
    }

-- and an active one goes on by its frontier
pub goes_on : (v : Volume) (old : Course) (new : Front) (next : ℕ → List ℕ) → old.front.folder ≡ head old.queue → is_some (head old.queue) ≡ true → ((n : ℕ) → is_in old.queue n ≡ true → is_folder v.nodes n ≡ true) → Follows old.front new v (next (scanned old.front)) → Goes old (record { queue = old.queue; front = new }) v next
goes_on v old new next active some folders f =
    let h = some_row (head old.queue) some in
    let is : scanned old.front ≡ h.row = ap (λ (o : Option ℕ). unwrap_or o 0) (active ∙ h.is) in
    record {
      scanning = record { volume = f.stands.volume; fits = f.stands.fits; folders = folders; active = f.folder ∙ active; stands = λ a. f.stands; idle = λ n. let none : is_some (head old.queue) ≡ false = ap is_some (sym (f.folder ∙ active) ∙ n) in cc };
      queue = refl;
      left_is = f.unvisited_are ∙ (ap next is ∙ sym (ap (λ (o : Option ℕ). option_map_or next o []) h.is));
    }

-- of a folder that doesn't wait no scan is active
pub not_scanned : (v : Volume) (course : Course) (n : ℕ) → Scanning v course → is_some (head course.queue) ≡ true → is_in course.queue n ≡ false → (n == scanned course.front) ≡ false
not_scanned v course n s some absent =
    let h = some_row (head course.queue) some in
    let is : scanned course.front ≡ h.row = ap (λ (o : Option ℕ). unwrap_or o 0) (s.active ∙ h.is) in
    not_true (n == scanned course.front) (λ t.
    clash (is_in course.queue n) (subst (λ k. is_in course.queue k ≡ true) (sym (eq_is n (scanned course.front) t ∙ is)) (first_in h.row course.queue h.is)) absent)

pub absent_apart : (queue : List ℕ) (n m : ℕ) → is_in queue n ≡ false → is_in queue m ≡ true → (m == n) ≡ false
absent_apart queue n m absent h = not_true (m == n) (λ t. clash (is_in queue n) (ap (is_in queue) (sym (eq_is m n t)) ∙ h) absent)

-- a file that was made, and then has its length
pub created_follows : (v : Volume) (n bytes : ℕ) (row : NodeRow) (old mid new : Front) (left : List ℕ) → IsVolume v.size v.nodes → ((r : NodeRow) → node_of v.nodes n ≡ Some r → r.length ≡ bytes) → row.folder ≡ false → Follows old mid (sized v n 0) (unvisited_with row left) → Follows mid new (sized v n bytes) (unvisited v.nodes mid) → Follows old new v left
created_follows v n bytes row old mid new left w own file made sized_to =
    let last = own_follows v mid new (unvisited v.nodes mid) n bytes w own sized_to in
    record {
      stands = last.stands;
      unvisited_are =
          last.unvisited_are
          ∙ (sym (sized_unvisited v mid n 0) ∙ (made.unvisited_are ∙ ap (λ b. cond (b && is_in left row.parent) (with_number row.number left) left) file));
      folder = last.folder ∙ made.folder;
      room = last.room ∙ made.room;
    }

-- a file that is emptied, and then removed
pub removed_follows : (v w : Volume) (n : ℕ) (old mid new : Front) → Follows old mid (sized v n 0) (unvisited v.nodes old) → Follows mid new w (without_number n (unvisited v.nodes mid)) → Follows old new w (without_number n (unvisited v.nodes old))
removed_follows v w n old mid new emptied gone =
    record {
      stands = gone.stands;
      unvisited_are = gone.unvisited_are ∙ ap (without_number n) (sym (sized_unvisited v mid n 0) ∙ emptied.unvisited_are);
      folder = gone.folder ∙ emptied.folder;
      room = gone.room ∙ emptied.room;
    }
