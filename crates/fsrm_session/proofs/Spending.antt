-- What the calls of a session take, one after another.
use Rattle.std.proofs.Common.{◌≡◌, ℕ, true, ◌+◌, ◌*◌, ◌≤◌, List, [], ◌∷◌, ◌++◌, length, refl, sym, ◌∙◌, ap, subst, arith}
use Rattle.std.specs.Prelude.{◌-◌, Err, Ok, Result}
use Rattle.std.proofs.lemmas.List.{append-nil}
use Rattle.std.proofs.lemmas.Nat.{mul-le}
use Rattle.fsrm_model.specs.commands.Cost.{acts_cost, cost, print_cost}
use Rattle.fsrm_model.specs.commands.Step.{step}
use Rattle.fsrm_model.specs.declared.command.Act.{Act}
use Rattle.fsrm_model.specs.declared.command.Command.{Command}
use Rattle.fsrm_model.specs.declared.command.Outcome.{Outcome}
use Rattle.fsrm_model.specs.declared.command.Outcome.TheVariants.{Refused}
use Rattle.fsrm_model.specs.declared.command.Refusal.{Refusal}
use Rattle.fsrm_model.specs.declared.command.Refusal.TheVariants.{BadLine, LineTooLong, InvalidPath, InvalidName, OutOfRange, InvalidLimit, ClockBack, PathNotFound, NotFound, AlreadyExists, DuplicateName, InUse, InvalidCombination, NotEmpty, InvalidMove, NothingToScan, VolumeFull, NamesFull, TableFull, TextsFull, ScreenBlocked, QuotaExceeded}
use Rattle.fsrm_model.specs.declared.row.Capacity.{Capacity}
use Rattle.fsrm_model.specs.declared.row.Rows.{Rows}
use Rattle.fsrm_model.specs.store.Lasting.{lasting}
use Rattle.fsrm_model.specs.store.Replays.{command_entries}
use Rattle.fsrm_model.specs.texts.Text.{is_bare}
use Rattle.fsrm_outside.specs.Members.{Members}
use Rattle.fsrm_outside.proofs.OutsideLaws.{Laws}
use Rattle.fsrm_journal.specs.declared.journal.Journal.{Journal}
use Rattle.fsrm_store.specs.Amortized.{bytes_since, entries_bytes, held_bytes, Amortized}
use Rattle.fsrm_store.specs.Standing.{tail_of, Standing}
use Rattle.fsrm_session.specs.Spending.{bytes_after, Eases, Spends}
use Rattle.fsrm_session.specs.Turns.{bytes_of, command_turn, looks_of, rows_after, telling_cost, text_of, AreAlike, IsWithin, Turn}
use Rattle.fsrm_session.specs.Underway.{Calms, Goes, Underway}
use Rattle.fsrm_session.specs.declared.session.Session.{Session}
use Rattle.fsrm_session.specs.declared.stop.Stop.{Stop}
use Rattle.fsrm_session.specs.declared.stop.Stop.TheVariants.{WriteFault, DiskFault, NoMemory}
use Rattle.fsrm_session.proofs.Going.{calms_goes, goes_nothing}
use Rattle.fsrm_session.proofs.Texts.{rows_after-append}

-- ---- images that records pay for
-- More nodes, looks and bytes are allowed, and fewer are asked to be left.
pub allowed : (nodes most looks more steps bytes others left fewer : ℕ) → nodes ≤ most → looks ≤ more → bytes ≤ others → fewer ≤ left → Amortized nodes looks steps bytes left → Amortized most more steps others fewer
allowed nodes most looks more steps bytes others left fewer few late long less a = record {
  images = a.images;
  few =
      let wide : a.images * (2 * nodes) ≤ a.images * (2 * most) = mul-le a.images (2 * nodes) a.images (2 * most) (omega arith) (omega (arith, few)) in
      omega (arith, wide, late, a.few);
  paid = omega (arith, less, long, a.paid);
}

-- no image was written
pub no_image : (most looks steps bytes left : ℕ) → steps ≤ looks → left ≤ bytes → Amortized most looks steps bytes left
no_image most looks steps bytes left few fits = record { images = 0; few = omega (arith, few); paid = omega (arith, fits) }

-- some images, and then more
images_then : (most looks mid spent steps bytes left added rest : ℕ) → Amortized most looks mid bytes left → Amortized most (mid + spent) steps (left + added) rest → Amortized most (looks + spent) steps (bytes + added) rest
images_then most looks mid spent steps bytes left added rest a b = record {
  images = a.images + b.images;
  few =
      let sum : (a.images + b.images) * (2 * most) ≡ a.images * (2 * most) + b.images * (2 * most) = omega arith in
      omega (arith, sum, a.few, b.few);
  paid = omega (arith, a.paid, b.paid);
}

-- ---- turns, and more turns
pub looks_of-append : (R : Rows) (xs ys : List Turn) → looks_of R (xs ++ ys) ≡ looks_of R xs + looks_of (rows_after R xs) ys
looks_of-append R [] ys = omega arith
looks_of-append R (x ∷ xs) ys = omega (arith, looks_of-append (x.after R) xs ys)

pub bytes_of-append : (R : Rows) (xs ys : List Turn) → bytes_of R (xs ++ ys) ≡ bytes_of R xs + bytes_of (rows_after R xs) ys
bytes_of-append R [] ys = omega arith
bytes_of-append R (x ∷ xs) ys = omega (arith, bytes_of-append (x.after R) xs ys)

pub within_now : (most : ℕ) (R : Rows) (turns : List Turn) → IsWithin most R turns → length R.nodes ≤ most
within_now most R [] h = h
within_now most R (turn ∷ turns) h = h.0

pub within_first : (most : ℕ) (R : Rows) (xs ys : List Turn) → IsWithin most R (xs ++ ys) → IsWithin most R xs
within_first most R [] ys h = within_now most R ys h
within_first most R (x ∷ xs) ys h = (h.0, within_first most (x.after R) xs ys h.1)

pub within_last : (most : ℕ) (R : Rows) (xs ys : List Turn) → IsWithin most R (xs ++ ys) → IsWithin most (rows_after R xs) ys
within_last most R [] ys h = h
within_last most R (x ∷ xs) ys h = within_last most (x.after R) xs ys h.1

-- turns that do the same take the same
pub looks_alike : (R : Rows) (xs ys : List Turn) → AreAlike xs ys → looks_of R xs ≡ looks_of R ys
looks_alike R [] [] h = omega arith
looks_alike R [] (y ∷ ys) h = absurd h
looks_alike R (x ∷ xs) [] h = absurd h
looks_alike R (x ∷ xs) (y ∷ ys) h = omega (arith, h.0.looks R, ap (λ (S : Rows). looks_of S xs) (h.0.after R), looks_alike (y.after R) xs ys h.1)

pub bytes_alike : (R : Rows) (xs ys : List Turn) → AreAlike xs ys → bytes_of R xs ≡ bytes_of R ys
bytes_alike R [] [] h = omega arith
bytes_alike R [] (y ∷ ys) h = absurd h
bytes_alike R (x ∷ xs) [] h = absurd h
bytes_alike R (x ∷ xs) (y ∷ ys) h = omega (arith, h.0.bytes R, ap (λ (S : Rows). bytes_of S xs) (h.0.after R), bytes_alike (y.after R) xs ys h.1)

pub within_alike : (most : ℕ) (R : Rows) (xs ys : List Turn) → AreAlike xs ys → IsWithin most R ys → IsWithin most R xs
within_alike most R [] [] h w = w
within_alike most R [] (y ∷ ys) h w = absurd h
within_alike most R (x ∷ xs) [] h w = absurd h
within_alike most R (x ∷ xs) (y ∷ ys) h w = (w.0, within_alike most (x.after R) xs ys h.1 (subst (λ (S : Rows). IsWithin most S ys) (sym (h.0.after R)) w.1))

-- ---- calls
-- nothing is done
pub spends_nothing : {O : Type 0} {M : Members O} (turns : List Turn) (session : Session) (now : O) (looks : ℕ) → Spends M turns session now looks looks (bytes_since session.store.journal)
spends_nothing turns session now looks = record {
  spends = λ K R done before u most within. let rows = session.store.engine.rows in no_image most (looks + looks_of rows turns) looks (bytes_since session.store.journal + bytes_of rows turns) (bytes_since session.store.journal) (omega arith) (omega arith);
}

pub eases_nothing : {O : Type 0} {M : Members O} (session : Session) (now : O) (looks : ℕ) → Eases M session now looks looks (bytes_since session.store.journal)
eases_nothing session now looks = record { eases = λ K R turns words before u. no_image (length session.store.engine.rows.nodes) looks looks (bytes_since session.store.journal) (bytes_since session.store.journal) (omega arith) (omega arith) }

-- more looks at first, and fewer bytes that are left
pub spends_less : {O : Type 0} {M : Members O} (turns : List Turn) (was : Session) (old : O) (looks more steps left fewer : ℕ) → looks ≤ more → fewer ≤ left → Spends M turns was old looks steps left → Spends M turns was old more steps fewer
spends_less turns was old looks more steps left fewer late less p = record {
  spends = λ K R done before u most within.
      let rows = was.store.engine.rows in
      let bytes = bytes_since was.store.journal + bytes_of rows turns in
      allowed most most (looks + looks_of rows turns) (more + looks_of rows turns) steps bytes bytes left fewer (omega arith) (omega (arith, late)) (omega arith) less (p.spends K R done before u most within);
}

-- turns that could be taken, of which some first ones are
pub spends_first : {O : Type 0} {M : Members O} (xs ys : List Turn) (was : Session) (old : O) (looks steps left : ℕ) → Spends M xs was old looks steps left → Spends M (xs ++ ys) was old looks steps left
spends_first xs ys was old looks steps left p = record {
  spends = λ K R done before u most within.
      let rows = was.store.engine.rows in
      let since = bytes_since was.store.journal in
      allowed most most (looks + looks_of rows xs) (looks + looks_of rows (xs ++ ys)) steps (since + bytes_of rows xs) (since + bytes_of rows (xs ++ ys)) left left
      (omega arith) (omega (arith, looks_of-append rows xs ys)) (omega (arith, bytes_of-append rows xs ys)) (omega arith)
      (p.spends K R done before u most (within_first most rows xs ys within));
}

pub spends_alike : {O : Type 0} {M : Members O} (xs ys : List Turn) (was : Session) (old : O) (looks steps left : ℕ) → AreAlike xs ys → Spends M xs was old looks steps left → Spends M ys was old looks steps left
spends_alike xs ys was old looks steps left h p = record {
  spends = λ K R done before u most within.
      let rows = was.store.engine.rows in
      let since = bytes_since was.store.journal in
      allowed most most (looks + looks_of rows xs) (looks + looks_of rows ys) steps (since + bytes_of rows xs) (since + bytes_of rows ys) left left
      (omega arith) (omega (arith, looks_alike rows xs ys h)) (omega (arith, bytes_alike rows xs ys h)) (omega arith)
      (p.spends K R done before u most (within_alike most rows xs ys h within));
}

-- what waits is shown
pub spends_ease : {O : Type 0} {M : Members O} (was : Session) (old : O) (looks steps left : ℕ) → Eases M was old looks steps left → Spends M [] was old looks steps left
spends_ease was old looks steps left p = record {
  spends = λ K R done before u most within.
      let since = bytes_since was.store.journal in
      allowed (length was.store.engine.rows.nodes) most looks (looks + 0) steps since (since + 0) left left within (omega arith) (omega arith) (omega arith)
      (p.eases K R done (text_of R done) before u);
}

-- turns after turns
rows_then : {O : Type 0} {M : Members O} (K : Capacity) (R : Rows) (done xs : List Turn) (words others before : List ℕ) (was mid : Session) (old half : O) → Underway M K R done words before was old → Underway M K R (done ++ xs) others before mid half
    → mid.store.engine.rows ≡ rows_after was.store.engine.rows xs
rows_then K R done xs words others before was mid old half u v = v.rows ∙ rows_after-append R done xs ∙ ap (λ (S : Rows). rows_after S xs) (sym u.rows)

pub spends_then : {O : Type 0} {M : Members O} (xs ys : List Turn) (was mid : Session) (old half : O) (looks spent steps left : ℕ) → Goes M xs was mid old half → Spends M xs was old looks spent (bytes_since mid.store.journal) → Spends M ys mid half spent steps left
    → Spends M (xs ++ ys) was old looks steps left
spends_then xs ys was mid old half looks spent steps left goes p q = record {
  spends = λ K R done before u most within.
      let rows = was.store.engine.rows in
      let since = bytes_since was.store.journal in
      let next = mid.store.engine.rows in
      let v = (goes.goes K R done before u).0 in
      let same : next ≡ rows_after rows xs = rows_then K R done xs (text_of R done) (text_of R (done ++ xs)) before was mid old half u v in
      let one = p.spends K R done before u most (within_first most rows xs ys within) in
      let two = q.spends K R (done ++ xs) before v most (subst (λ (S : Rows). IsWithin most S ys) (sym same) (within_last most rows xs ys within)) in
      let both = images_then most (looks + looks_of rows xs) spent (looks_of next ys) steps (since + bytes_of rows xs) (bytes_since mid.store.journal) (bytes_of next ys) left one two in
      allowed most most ((looks + looks_of rows xs) + looks_of next ys) (looks + looks_of rows (xs ++ ys)) steps ((since + bytes_of rows xs) + bytes_of next ys) (since + bytes_of rows (xs ++ ys)) left left (omega arith)
      (omega (arith, looks_of-append rows xs ys, ap (λ (S : Rows). looks_of S ys) same))
      (omega (arith, bytes_of-append rows xs ys, ap (λ (S : Rows). bytes_of S ys) same)) (omega arith) both;
}

-- what waits is shown, and then turns are taken
pub calm_then : {O : Type 0} {M : Members O} (xs : List Turn) (was mid : Session) (old half : O) (looks spent steps left : ℕ) → Laws M → Calms M was mid old half → Eases M was old looks spent (bytes_since mid.store.journal) → Spends M xs mid half spent steps left
    → Spends M xs was old looks steps left
calm_then xs was mid old half looks spent steps left laws calms p q =
    spends_then [] xs was mid old half looks spent steps left (calms_goes [] was mid mid old half half laws calms (goes_nothing mid half laws)) (spends_ease was old looks spent (bytes_since mid.store.journal) p) q

-- turns are taken, and then what waits is shown
pub then_ease : {O : Type 0} {M : Members O} (xs : List Turn) (was mid : Session) (old half : O) (looks spent steps left : ℕ) → Goes M xs was mid old half → Spends M xs was old looks spent (bytes_since mid.store.journal) → Eases M mid half spent steps left
    → Spends M xs was old looks steps left
then_ease {M = M} xs was mid old half looks spent steps left goes p q =
    subst (λ (turns : List Turn). Spends M turns was old looks steps left) (append-nil xs)
    (spends_then xs [] was mid old half looks spent steps left goes p (spends_ease mid half spent steps left q))

-- ---- what a call leaves
-- no more than there was
pub after_most : {T : Type 0} (r : Result T Stop) (session : Session) → bytes_after r session ≤ bytes_since session.store.journal
after_most (Ok done) session = omega arith
after_most (Err NoMemory) session = omega arith
after_most (Err WriteFault) session = omega arith
after_most (Err DiskFault) session = omega arith

pub after_same : {T : Type 0} (r : Result T Stop) (session : Session) (journal : Journal) → session.store.journal ≡ journal → bytes_after r session ≤ bytes_since journal
after_same r session journal same = omega (arith, after_most r session, ap bytes_since same)

-- a fault that is passed on
pub after_fault : {T : Type 0} (r : Result T Stop) (stop : Stop) (session : Session) → r ≡ Err stop → bytes_after r session ≤ bytes_after {T = T} (Err stop) session
after_fault {T = T} r stop session is = omega (arith, ap (λ (x : Result T Stop). bytes_after x session) is)

-- a store that was given groups of another size
pub since_alike : (old new : Journal) → new.end ≡ old.end → new.image_end ≡ old.image_end → new.held ≡ 0 → bytes_since new ≤ bytes_since old
since_alike old new end image_end none =
    let held : held_bytes new.held new.bytes.items ≡ 0 = ap (λ (n : ℕ). held_bytes n new.bytes.items) none in
    let tails : tail_of new ≡ tail_of old = ap (λ (n : ℕ). n - new.image_end) end ∙ ap (λ (n : ℕ). old.end - n) image_end in
    omega (arith, held, tails)

-- ---- a command
-- the store took it, and then its reply was told
pub spends_command : {O : Type 0} {M : Members O} (number : ℕ) (c : Command) (was : Session) (old : O) (looks mid told steps bytes left : ℕ)
    → ((kept : Rows) → Standing M.reads M.disk_clock M.images kept was.store old → Amortized (length (step was.store.engine.size was.store.engine.rows c).rows.nodes) (looks + cost was.store.engine.rows c) mid (bytes_since was.store.journal + entries_bytes (command_entries was.store.engine.size was.store.engine.rows c)) bytes)
    → told ≤ telling_cost was.store.engine.size (step was.store.engine.size was.store.engine.rows c).rows (step was.store.engine.size was.store.engine.rows c).acts c.moment (step was.store.engine.size was.store.engine.rows c).outcome
    → steps ≤ mid + told → left ≤ bytes → Spends M (command_turn was.store.engine.size number c ∷ []) was old looks steps left
spends_command number c was old looks mid told steps bytes left amortized few said less = record {
  spends = λ K R done before u most within.
      let size = was.store.engine.size in
      let rows = was.store.engine.rows in
      let s = step size rows c in
      let since = bytes_since was.store.journal in
      let entries = entries_bytes (command_entries size rows c) in
      let replies = telling_cost size s.rows s.acts c.moment s.outcome in
      let one = amortized (lasting (rows_after R u.first)) u.standing in
      let wide = allowed (length s.rows.nodes) most (looks + cost rows c) (looks + cost rows c) mid (since + entries) (since + entries) bytes left within.1 (omega arith) (omega arith) less one in
      let both = images_then most (looks + cost rows c) mid replies steps (since + entries) left 0 left wide (no_image most (mid + replies) steps (left + 0) left (omega (arith, few, said)) (omega arith)) in
      allowed most most ((looks + cost rows c) + replies) (looks + looks_of rows (command_turn size number c ∷ [])) steps ((since + entries) + 0) (since + bytes_of rows (command_turn size number c ∷ [])) left left (omega arith) (omega arith) (omega arith) (omega arith) both;
}

-- what is told of it costs what its turn says
no_more : {a b : ℕ} → a ≡ b → a ≤ b
no_more e = omega (arith, e)

pub told_cost : (K size : Capacity) (R rows : Rows) (waiting : List Act) (outcome : Outcome) (c : Command) → size ≡ K → rows ≡ (step K R c).rows → waiting ≡ (step K R c).acts → outcome ≡ (step K R c).outcome
    → telling_cost size rows waiting c.moment outcome ≤ telling_cost K (step K R c).rows (step K R c).acts c.moment (step K R c).outcome
told_cost K size R rows waiting outcome c sizes same acts is =
    let s = step K R c in
    no_more
    (ap (λ (k : Capacity). telling_cost k rows waiting c.moment outcome) sizes
    ∙ ap (λ (T : Rows). telling_cost K T waiting c.moment outcome) same
    ∙ ap (λ (w : List Act). telling_cost K s.rows w c.moment outcome) acts
    ∙ ap (telling_cost K s.rows s.acts c.moment) is)

-- ---- a line that is refused
pub bare_cost : (K : Capacity) (R : Rows) (moment : ℕ) (refusal : Refusal) → is_bare refusal ≡ true → print_cost K R moment (Refused refusal) ≡ 0
bare_cost K R moment (ScreenBlocked screen) bare = absurd (cc)
bare_cost K R moment (QuotaExceeded folder would limit) bare = absurd (cc)
bare_cost K R moment (BadLine column) bare = refl
bare_cost K R moment LineTooLong bare = refl
bare_cost K R moment InvalidPath bare = refl
bare_cost K R moment InvalidName bare = refl
bare_cost K R moment OutOfRange bare = refl
bare_cost K R moment InvalidLimit bare = refl
bare_cost K R moment ClockBack bare = refl
bare_cost K R moment PathNotFound bare = refl
bare_cost K R moment NotFound bare = refl
bare_cost K R moment AlreadyExists bare = refl
bare_cost K R moment DuplicateName bare = refl
bare_cost K R moment InUse bare = refl
bare_cost K R moment InvalidCombination bare = refl
bare_cost K R moment NotEmpty bare = refl
bare_cost K R moment InvalidMove bare = refl
bare_cost K R moment NothingToScan bare = refl
bare_cost K R moment VolumeFull bare = refl
bare_cost K R moment NamesFull bare = refl
bare_cost K R moment TableFull bare = refl
bare_cost K R moment TextsFull bare = refl

-- so to tell it takes none
pub bare_free : (K : Capacity) (R : Rows) (waiting : List Act) (refusal : Refusal) (looks steps : ℕ) → is_bare refusal ≡ true → waiting ≡ [] → steps ≤ looks + telling_cost K R waiting 0 (Refused refusal) → steps ≤ looks
bare_free K R waiting refusal looks steps bare none few =
    let acts : acts_cost R.nodes waiting ≡ 0 = ap (acts_cost R.nodes) none in
    omega (arith, few, acts, bare_cost K R 0 refusal bare)

-- turns that took no looks and no bytes
pub spends_none : {O : Type 0} {M : Members O} (turns : List Turn) (was next : Session) (old : O) (looks steps left : ℕ) → next.store.journal ≡ was.store.journal → left ≤ bytes_since next.store.journal → steps ≤ looks → Spends M turns was old looks steps left
spends_none turns was next old looks steps left same less few =
    let rows = was.store.engine.rows in
    record {
      spends = λ K R done before u most within.
          no_image most (looks + looks_of rows turns) steps (bytes_since was.store.journal + bytes_of rows turns) left (omega (arith, few)) (omega (arith, less, ap bytes_since same));
    }

-- its refusal takes none
pub spends_refused : {O : Type 0} {M : Members O} (turns : List Turn) (was next : Session) (old : O) (waiting : List Act) (refusal : Refusal) (looks steps left : ℕ) → is_bare refusal ≡ true → waiting ≡ [] → next.store.journal ≡ was.store.journal → left ≤ bytes_since next.store.journal
    → steps ≤ looks + telling_cost was.store.engine.size was.store.engine.rows waiting 0 (Refused refusal) → Spends M turns was old looks steps left
spends_refused turns was next old waiting refusal looks steps left bare none same less few =
    spends_none turns was next old looks steps left same less (bare_free was.store.engine.size was.store.engine.rows waiting refusal looks steps bare none few)
