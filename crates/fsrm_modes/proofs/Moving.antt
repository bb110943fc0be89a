-- Files are moved, one after another.
use Rattle.std.proofs.Common.{◌≡◌, ℕ, zero, suc, ◌+◌, ◌*◌, ◌≤◌, ◌<◌, Bool, true, false, List, [], ◌∷◌, ◌++◌, drop, get_or, length, refl, sym, take, ◌∙◌, ap, subst, arith, append_assoc}
use Rattle.std.proofs.lemmas.List.{append-nil, length-take, take-append-drop, take_more}
use Rattle.std.specs.Prelude.{◌&&◌, if◌then◌else◌, map, nat_le, Err, MatchResult, Ok, Result}
use Rattle.fsrm_base.proofs.TestLaws.{clash}
use Rattle.fsrm_model.specs.nodes.FileOps.{target}
use Rattle.fsrm_model.specs.nodes.Leads.{leads_to_folder}
use Rattle.file_jobs.specs.Expired.{expired}
use Rattle.fsrm_model.specs.commands.Entry.{path_length}
use Rattle.fsrm_model.specs.declared.command.Refusal.TheVariants.{PathNotFound}
use Rattle.fsrm_model.specs.declared.row.Capacity.{Capacity}
use Rattle.fsrm_model.specs.declared.row.Rows.{Rows}
use Rattle.fsrm_model.specs.declared.row.NodeRow.{NodeRow}
use Rattle.fsrm_model.specs.nodes.Tree.{number, path_of}
use Rattle.fsrm_outside.specs.Members.{Members}
use Rattle.fsrm_outside.proofs.OutsideLaws.{Laws}
use Rattle.fsrm_store.specs.Amortized.{bytes_since}
use Rattle.fsrm_session.specs.Spending.{Spends}
use Rattle.fsrm_session.specs.Turns.{Turn, refused_turn, rows_after}
use Rattle.fsrm_session.specs.Underway.{Goes, Stops}
use Rattle.fsrm_session.specs.declared.session.Session.{Session}
use Rattle.fsrm_session.specs.declared.stop.Stop.{Stop}
use Rattle.fsrm_session.proofs.Going.{goes_stops, goes_then, stops_more}
use Rattle.fsrm_session.proofs.Spending.{spends_first, spends_less, spends_nothing, spends_then}
use Rattle.fsrm_session.proofs.Texts.{rows_after-append}
use Rattle.file_jobs.specs.Moves.{most_bytes, move_of, moved_path, AreFiles, is_file}
use Rattle.file_jobs.proofs.StayLaws.{SameKinds, same_kinds, stay_kinds}
use Rattle.fsrm_modes.specs.Expiry.{expire_cost, expire_turns, ExpireAsk, file_cost, file_turns, files_cost, files_turns, moving_turn}

-- turns, and then those that a call took or stopped at
pub after_goes : {O T : Type 0} {M : Members O} (r : Result T Stop) (xs ys : List Turn) (a b c : Session) (first mid last : O) → Laws M → Goes M xs a b first mid
    → MatchResult r (λ x. Goes M ys b c mid last) (λ e. Stops M e ys b c mid last) → MatchResult r (λ x. Goes M (xs ++ ys) a c first last) (λ e. Stops M e (xs ++ ys) a c first last)
after_goes (Ok x) xs ys a b c first mid last laws p h = goes_then xs ys a b c first mid last laws p h
after_goes (Err e) xs ys a b c first mid last laws p h = goes_stops e xs ys a b c first mid last laws p h

-- whatever becomes of a file, each other one stays a file, and each folder a folder
pub moving_kinds : (K : Capacity) (R : Rows) (line moment node to : ℕ) → SameKinds R.nodes ((moving_turn K line moment (move_of R.nodes node to)).after R).nodes
moving_kinds K R line moment node to = at (nat_le (path_length (path_of R.nodes node) + path_length (moved_path R.nodes node to)) most_bytes) refl
  where
    at : (b : Bool) → nat_le (path_length (path_of R.nodes node) + path_length (moved_path R.nodes node to)) most_bytes ≡ b → SameKinds R.nodes ((moving_turn K line moment (move_of R.nodes node to)).after R).nodes
    at true e = rw e (same_kinds K R moment (path_of R.nodes node) (moved_path R.nodes node to))
    at false e = rw e (stay_kinds R.nodes)

pub kinds_then : (a b c : List NodeRow) → SameKinds a b → SameKinds b c → SameKinds a c
kinds_then a b c p q = record { files = λ n. q.files n ∙ p.files n; folders = λ n. q.folders n ∙ p.folders n }

-- the files that expire are moved if both folders are there
pub chosen : {A : Type 0} (p q : Bool) (x y : A) → p ≡ true → q ≡ true → (if p && q then x else y) ≡ x
chosen true true x y a b = refl
chosen true false x y a b = absurd (clash false b refl)
chosen false q x y a b = absurd (clash false a refl)

unchosen : {A : Type 0} (p q : Bool) (x y : A) → (p && q) ≡ false → (if p && q then x else y) ≡ y
unchosen true true x y e = absurd (cc)
unchosen true false x y e = refl
unchosen false q x y e = refl

pub not_first : (p q : Bool) → p ≡ false → (p && q) ≡ false
not_first p q e = ap (λ (b : Bool). b && q) e

pub not_last : (p q : Bool) → q ≡ false → (p && q) ≡ false
not_last true q e = e
not_last false q e = refl

pub both_lead : (K : Capacity) (R : Rows) (ask : ExpireAsk) (from to : ℕ) (files : List ℕ) → leads_to_folder R.nodes ask.from ≡ true → from ≡ target R.nodes ask.from → leads_to_folder R.nodes ask.to ≡ true → to ≡ target R.nodes ask.to
    → files ≡ map number (expired R.nodes from to ask.expiry) → files_turns K R to ask.expiry.moment 1 files ≡ expire_turns K R ask
both_lead K R ask from to files a e b f g =
    let m = ask.expiry.moment in
    ap (files_turns K R to m 1) g
    ∙ (ap (λ n. files_turns K R to m 1 (map number (expired R.nodes n to ask.expiry))) e
    ∙ (ap (λ n. files_turns K R n m 1 (map number (expired R.nodes (target R.nodes ask.from) n ask.expiry))) f
    ∙ sym (chosen (leads_to_folder R.nodes ask.from) (leads_to_folder R.nodes ask.to) _ _ a b)))

-- so many looks take the folders and the files, and then those that are moved
found_all : (K : Capacity) (R : Rows) (ask : ExpireAsk) → leads_to_folder R.nodes ask.from ≡ true → leads_to_folder R.nodes ask.to ≡ true
    → (22 * (length ask.from + length ask.to) + 4) + (4 * (length R.nodes + 1) + files_cost K R (target R.nodes ask.to) ask.expiry.moment 1 (map number (expired R.nodes (target R.nodes ask.from) (target R.nodes ask.to) ask.expiry))) ≡ expire_cost K R ask
found_all K R ask a b =
    let from = target R.nodes ask.from in
    let to = target R.nodes ask.to in
    ap (λ n. (22 * (length ask.from + length ask.to) + 4) + n)
    (sym (chosen (leads_to_folder R.nodes ask.from) (leads_to_folder R.nodes ask.to) (4 * (length R.nodes + 1) + files_cost K R to ask.expiry.moment 1 (map number (expired R.nodes from to ask.expiry))) 0 a b))

pub found_cost : (K : Capacity) (R : Rows) (ask : ExpireAsk) (from to : ℕ) (files : List ℕ) → leads_to_folder R.nodes ask.from ≡ true → from ≡ target R.nodes ask.from → leads_to_folder R.nodes ask.to ≡ true → to ≡ target R.nodes ask.to
    → files ≡ map number (expired R.nodes from to ask.expiry) → (22 * (length ask.from + length ask.to) + 4) + (4 * (length R.nodes + 1) + files_cost K R to ask.expiry.moment 1 files) ≡ expire_cost K R ask
found_cost K R ask from to files a e b f g =
    let m = ask.expiry.moment in
    let all = λ (n : ℕ). (22 * (length ask.from + length ask.to) + 4) + (4 * (length R.nodes + 1) + n) in
    ap (λ (l : List ℕ). all (files_cost K R to m 1 l)) g
    ∙ (ap (λ n. all (files_cost K R to m 1 (map number (expired R.nodes n to ask.expiry)))) e
    ∙ (ap (λ n. all (files_cost K R n m 1 (map number (expired R.nodes (target R.nodes ask.from) n ask.expiry)))) f
    ∙ found_all K R ask a b))

pub found_most : (K : Capacity) (R : Rows) (ask : ExpireAsk) → leads_to_folder R.nodes ask.from ≡ true → leads_to_folder R.nodes ask.to ≡ true → (22 * (length ask.from + length ask.to) + 4) + 4 * (length R.nodes + 1) ≤ expire_cost K R ask
found_most K R ask a b = omega (arith, found_all K R ask a b)

-- a folder isn't there
pub none_spends : {O : Type 0} {M : Members O} (K : Capacity) (R : Rows) (ask : ExpireAsk) (a : Session) (first : O) (looks late steps left : ℕ) → (leads_to_folder R.nodes ask.from && leads_to_folder R.nodes ask.to) ≡ false → late ≤ looks + (22 * (length ask.from + length ask.to) + 4)
    → Spends M (refused_turn K 0 PathNotFound ∷ []) a first late steps left → Spends M (expire_turns K R ask) a first (looks + expire_cost K R ask) steps left
none_spends {M = M} K R ask a first looks late steps left none few p =
    subst (λ (l : List Turn). Spends M l a first (looks + expire_cost K R ask) steps left) (sym (unchosen (leads_to_folder R.nodes ask.from) (leads_to_folder R.nodes ask.to) _ (refused_turn K 0 PathNotFound ∷ []) none))
    (spends_less (refused_turn K 0 PathNotFound ∷ []) a first late (looks + expire_cost K R ask) steps left left (omega (arith, few)) (omega arith) p)

-- ---- looks beside those of turns
-- more of them, before and after
spends_beside : {O : Type 0} {M : Members O} (turns : List Turn) (was : Session) (old : O) (looks steps left more : ℕ) → Spends M turns was old looks steps left → Spends M turns was old (looks + more) (steps + more) left
spends_beside turns was old looks steps left more p = record {
  spends = λ K R done before u most within.
      let one = p.spends K R done before u most within in
      record { images = one.images; few = omega (arith, one.few); paid = one.paid };
}

-- none yet
pub nothing_spent : {O : Type 0} {M : Members O} (session : Session) (now : O) (looks : ℕ) → Spends M [] session now (looks + 0) looks (bytes_since session.store.journal)
nothing_spent session now looks =
    let left = bytes_since session.store.journal in
    spends_less [] session now looks (looks + 0) looks left left (omega arith) (omega arith) (spends_nothing [] session now looks)

-- turns after turns
pub costs_then : {O : Type 0} {M : Members O} (xs ys : List Turn) (was mid : Session) (old half : O) (looks first second spent steps left : ℕ) → Goes M xs was mid old half → Spends M xs was old (looks + first) spent (bytes_since mid.store.journal) → Spends M ys mid half (spent + second) steps left
    → Spends M (xs ++ ys) was old (looks + (first + second)) steps left
costs_then xs ys was mid old half looks first second spent steps left goes p q =
    spends_less (xs ++ ys) was old ((looks + first) + second) (looks + (first + second)) steps left left (omega arith) (omega arith)
    (spends_then xs ys was mid old half ((looks + first) + second) (spent + second) steps left goes (spends_beside xs was old (looks + first) spent (bytes_since mid.store.journal) second p) q)

-- files, and then more files
pub files_then : (K : Capacity) (R : Rows) (to moment line : ℕ) (xs ys : List ℕ)
    → files_turns K R to moment line (xs ++ ys) ≡ files_turns K R to moment line xs ++ files_turns K (rows_after R (files_turns K R to moment line xs)) to moment (line + length xs) ys
files_then K R to moment line [] ys = ap (λ n. files_turns K R to moment n ys) (omega arith)
files_then K R to moment line (first ∷ xs) ys =
    let turns = file_turns K R to moment line first in
    let next = rows_after R turns in
    let more = files_turns K next to moment (line + 1) xs in
    ap (λ (l : List Turn). turns ++ l) (files_then K next to moment (line + 1) xs ys)
    ∙ (sym (append_assoc turns more (files_turns K (rows_after next more) to moment ((line + 1) + length xs) ys))
    ∙ (ap (λ (S : Rows). (turns ++ more) ++ files_turns K S to moment ((line + 1) + length xs) ys) (sym (rows_after-append R turns more))
    ∙ ap (λ n. (turns ++ more) ++ files_turns K (rows_after R (turns ++ more)) to moment n ys) (omega arith)))

pub cost_then : (K : Capacity) (R : Rows) (to moment line : ℕ) (xs ys : List ℕ)
    → files_cost K R to moment line (xs ++ ys) ≡ files_cost K R to moment line xs + files_cost K (rows_after R (files_turns K R to moment line xs)) to moment (line + length xs) ys
cost_then K R to moment line [] ys =
    let same : line ≡ line + 0 = omega arith in
    omega (arith, ap (λ n. files_cost K R to moment n ys) same)
cost_then K R to moment line (first ∷ xs) ys =
    let turns = file_turns K R to moment line first in
    let next = rows_after R turns in
    let more = files_turns K next to moment (line + 1) xs in
    let count : (line + 1) + length xs ≡ line + length (first ∷ xs) = omega arith in
    let rest : files_cost K (rows_after next more) to moment ((line + 1) + length xs) ys ≡ files_cost K (rows_after R (files_turns K R to moment line (first ∷ xs))) to moment (line + length (first ∷ xs)) ys =
    ap (λ (S : Rows). files_cost K S to moment ((line + 1) + length xs) ys) (sym (rows_after-append R turns more))
    ∙ ap (λ n. files_cost K (rows_after R (turns ++ more)) to moment n ys) count in
    omega (arith, cost_then K next to moment (line + 1) xs ys, rest)

-- each file of a list is one
pub file_at : (nodes : List NodeRow) (files : List ℕ) (i d : ℕ) → AreFiles nodes files → i < length files → is_file nodes (get_or files i d) ≡ true
file_at nodes [] i d h low = absurd (omega (arith, low))
file_at nodes (n ∷ files) zero d h low = h.0
file_at nodes (n ∷ files) (suc i) d h low = file_at nodes files i d h.1 (omega (arith, low))

-- ---- one more file of a list
module _ {O : Type 0} {M : Members O} (K : Capacity) (R : Rows) (to moment : ℕ) (files : List ℕ) (place node : ℕ) (a b c : Session) (first mid last : O) (laws : Laws M) (low : place < length files) (is : get_or files place 0 ≡ node) (size : b.store.engine.size ≡ K) (rows : b.store.engine.rows ≡ rows_after R (files_turns K R to moment 1 (take place files))) (goes : Goes M (files_turns K R to moment 1 (take place files)) a b first mid) where
  abbrev pub before : List Turn
  before = files_turns K R to moment 1 (take place files)

  abbrev pub own : List Turn
  own = file_turns b.store.engine.size b.store.engine.rows to moment (place + 1) node

  -- its turns are the next ones
  pub next_turns : before ++ own ≡ files_turns K R to moment 1 (take (place + 1) files)
  next_turns =
      let count : 1 + length (take place files) ≡ place + 1 = omega (arith, length-take place files, low) in
      ap (λ (S : Rows). before ++ file_turns b.store.engine.size S to moment (place + 1) node) rows
      ∙ (ap (λ (J : Capacity). before ++ file_turns J (rows_after R before) to moment (place + 1) node) size
      ∙ (ap (λ n. before ++ file_turns K (rows_after R before) to moment n node) (sym count)
      ∙ (ap (λ (l : List Turn). before ++ l) (sym (append-nil (file_turns K (rows_after R before) to moment (1 + length (take place files)) node)))
      ∙ (sym (files_then K R to moment 1 (take place files) (node ∷ []))
      ∙ ap (files_turns K R to moment 1) (ap (λ n. take place files ++ n ∷ []) (sym is) ∙ sym (take_more files place 0 low))))))

  pub more_goes : Goes M own b c mid last → Goes M (files_turns K R to moment 1 (take (place + 1) files)) a c first last
  more_goes p = subst (λ (l : List Turn). Goes M l a c first last) next_turns (goes_then before own a b c first mid last laws goes p)

  pub more_stops : (stop : Stop) → Stops M stop own b c mid last → Stops M stop (files_turns K R to moment 1 files) a c first last
  more_stops stop p =
      let some = subst (λ (l : List Turn). Stops M stop l a c first last) next_turns (goes_stops stop before own a b c first mid last laws goes p) in
      let rest = files_turns K (rows_after R (files_turns K R to moment 1 (take (place + 1) files))) to moment (1 + length (take (place + 1) files)) (drop (place + 1) files) in
      subst (λ (l : List Turn). Stops M stop l a c first last)
      (sym (files_then K R to moment 1 (take (place + 1) files) (drop (place + 1) files)) ∙ ap (files_turns K R to moment 1) (take-append-drop (place + 1) files))
      (stops_more stop (files_turns K R to moment 1 (take (place + 1) files)) rest a c first last some)

  -- and the rows are those after them
  pub more_rows : (S : Rows) → S ≡ rows_after b.store.engine.rows own → S ≡ rows_after R (files_turns K R to moment 1 (take (place + 1) files))
  more_rows S e = e ∙ (ap (λ (T : Rows). rows_after T own) rows ∙ (sym (rows_after-append R before own) ∙ ap (rows_after R) next_turns))

  -- so are its looks
  abbrev pub spent_before : ℕ
  spent_before = files_cost K R to moment 1 (take place files)

  pub next_cost : spent_before + file_cost b.store.engine.rows.nodes to node ≡ files_cost K R to moment 1 (take (place + 1) files)
  next_cost =
      let one : take place files ++ node ∷ [] ≡ take (place + 1) files = ap (λ n. take place files ++ n ∷ []) (sym is) ∙ sym (take_more files place 0 low) in
      omega (arith, ap (λ (S : Rows). file_cost S.nodes to node) rows, cost_then K R to moment 1 (take place files) (node ∷ []), ap (files_cost K R to moment 1) one)

  pub more_spends : (looks spent steps left : ℕ) → Spends M before a first (looks + spent_before) spent (bytes_since b.store.journal) → Spends M own b mid (spent + file_cost b.store.engine.rows.nodes to node) steps left
      → Spends M (files_turns K R to moment 1 (take (place + 1) files)) a first (looks + files_cost K R to moment 1 (take (place + 1) files)) steps left
  more_spends looks spent steps left p q =
      let cost = file_cost b.store.engine.rows.nodes to node in
      subst (λ (n : ℕ). Spends M (files_turns K R to moment 1 (take (place + 1) files)) a first (looks + n) steps left) next_cost
      (subst (λ (l : List Turn). Spends M l a first (looks + (spent_before + cost)) steps left) next_turns (costs_then before own a b first mid looks spent_before cost spent steps left goes p q))

  -- it stopped at them
  pub last_spends : (looks spent steps left fewer : ℕ) → fewer ≤ left → Spends M before a first (looks + spent_before) spent (bytes_since b.store.journal) → Spends M own b mid (spent + file_cost b.store.engine.rows.nodes to node) steps left
      → Spends M (files_turns K R to moment 1 files) a first (looks + files_cost K R to moment 1 files) steps fewer
  last_spends looks spent steps left fewer less p q =
      let done = take (place + 1) files in
      let others = drop (place + 1) files in
      let turns = files_turns K R to moment 1 done in
      let rest = files_turns K (rows_after R turns) to moment (1 + length done) others in
      let all : done ++ others ≡ files = take-append-drop (place + 1) files in
      let cost : files_cost K R to moment 1 done ≤ files_cost K R to moment 1 files = omega (arith, cost_then K R to moment 1 done others, ap (files_cost K R to moment 1) all) in
      subst (λ (l : List Turn). Spends M l a first (looks + files_cost K R to moment 1 files) steps fewer) (sym (files_then K R to moment 1 done others) ∙ ap (files_turns K R to moment 1) all)
      (spends_first turns rest a first (looks + files_cost K R to moment 1 files) steps fewer
      (spends_less turns a first (looks + files_cost K R to moment 1 done) (looks + files_cost K R to moment 1 files) steps left fewer (omega (arith, cost)) less (more_spends looks spent steps left p q)))
