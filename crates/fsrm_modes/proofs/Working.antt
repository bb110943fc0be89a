-- The lines of a made script are taken, one after the other.
use Rattle.std.proofs.Common.{◌≡◌, ℕ, ◌+◌, List, [], ◌∷◌, ◌++◌, length, refl, sym, ◌∙◌, ap, subst, arith, append_assoc, length-append}
use Rattle.std.specs.Prelude.{None, Option, Result, Ok, Err, OnErr}
use Rattle.fsrm_model.specs.declared.command.Command.{Command}
use Rattle.fsrm_model.specs.declared.row.Capacity.{Capacity}
use Rattle.fsrm_model.specs.declared.row.Rows.{Rows}
use Rattle.fsrm_model.specs.lines.Line.{read_line}
use Rattle.fsrm_model.specs.lines.Reading.{Read}
use Rattle.fsrm_model.specs.lines.Script.{fold_from, replied, replied_to, without_cr}
use Rattle.fsrm_outside.specs.Members.{Members}
use Rattle.fsrm_outside.proofs.OutsideLaws.{Laws}
use Rattle.fsrm_store.specs.Amortized.{bytes_since}
use Rattle.made_script.specs.Tally.{line_tally, no_replies, plus, tally_from, tally_of}
use Rattle.made_script.specs.declared.tally.Tally.{Tally}
use Rattle.fsrm_session.specs.Counts.{Counts}
use Rattle.fsrm_session.specs.Spending.{Spends}
use Rattle.fsrm_session.specs.Turns.{AreAlike, Turn, line_turn, unshown}
use Rattle.fsrm_session.specs.Underway.{Goes, Stops}
use Rattle.fsrm_session.specs.declared.session.Session.{Session}
use Rattle.fsrm_session.specs.declared.stop.Stop.{Stop}
use Rattle.fsrm_session.specs.declared.stop.Stop.TheVariants.{WriteFault, DiskFault, NoMemory}
use Rattle.fsrm_session.proofs.Going.{goes_nothing, goes_stops, goes_then, stops_more}
use Rattle.fsrm_session.proofs.Spending.{spends_first, spends_nothing, spends_then}
use Rattle.fsrm_modes.proofs.Alike.{idle_goes}
use Rattle.fsrm_modes.proofs.Outcomes.{full_stops}
use Rattle.fsrm_modes.specs.Working.{unshown_lines}

-- ---- lines, and then more
pub unshown-append : (K : Capacity) (number : ℕ) (a b : List (List ℕ)) → unshown_lines K number (a ++ b) ≡ unshown_lines K number a ++ unshown_lines K (number + length a) b
unshown-append K number [] b = ap (λ (n : ℕ). unshown_lines K n b) (omega arith)
unshown-append K number (line ∷ a) b =
    let more : number + 1 + length a ≡ number + length (line ∷ a) = omega arith in
    ap (λ (l : List Turn). unshown (line_turn K number line) ∷ l) (unshown-append K (number + 1) a b ∙ ap (λ (n : ℕ). unshown_lines K (number + 1) a ++ unshown_lines K n b) more)

abbrev counts : ℕ → ℕ → ℕ → ℕ → Tally
counts a b c d = record { accepted = a; refused = b; acts = c; bytes = d }

same_counted : (a b c d e f g h : ℕ) → a ≡ e → b ≡ f → c ≡ g → d ≡ h → counts a b c d ≡ counts e f g h
same_counted a b c d e f g h p q r s = ap (λ (x : ℕ). counts x b c d) p ∙ ap (λ (x : ℕ). counts e x c d) q ∙ ap (λ (x : ℕ). counts e f x d) r ∙ ap (λ (x : ℕ). counts e f g x) s

plus_none : (t : Tally) → plus t no_replies ≡ plus no_replies t
plus_none t = same_counted (t.accepted + 0) (t.refused + 0) (t.acts + 0) (t.bytes + 0) (0 + t.accepted) (0 + t.refused) (0 + t.acts) (0 + t.bytes) (omega arith) (omega arith) (omega arith) (omega arith)

plus_assoc : (s t u : Tally) → plus s (plus t u) ≡ plus (plus s t) u
plus_assoc s t u =
    same_counted (s.accepted + (t.accepted + u.accepted)) (s.refused + (t.refused + u.refused)) (s.acts + (t.acts + u.acts)) (s.bytes + (t.bytes + u.bytes))
    (s.accepted + t.accepted + u.accepted) (s.refused + t.refused + u.refused) (s.acts + t.acts + u.acts) (s.bytes + t.bytes + u.bytes) (omega arith) (omega arith) (omega arith) (omega arith)

tally_one : (K : Capacity) (R : Rows) (number : ℕ) (done : List (List ℕ)) (line : List ℕ) → tally_from K R number (done ++ line ∷ []) ≡ plus (tally_from K R number done) (line_tally K (fold_from K R number done) (number + length done) line)
tally_one K R number [] line = plus_none (line_tally K R number line) ∙ ap (λ (n : ℕ). plus no_replies (line_tally K R n line)) (omega arith)
tally_one K R number (l ∷ done) line =
    let next = (replied K R number l).rows in
    let more : number + 1 + length done ≡ number + length (l ∷ done) = omega arith in
    ap (plus (line_tally K R number l)) (tally_one K next (number + 1) done line ∙ ap (λ (n : ℕ). plus (tally_from K next (number + 1) done) (line_tally K (fold_from K next (number + 1) done) n line)) more)
    ∙ plus_assoc (line_tally K R number l) (tally_from K next (number + 1) done) (line_tally K (fold_from K next (number + 1) done) (number + length (l ∷ done)) line)

fold_one : (K : Capacity) (R : Rows) (number : ℕ) (done : List (List ℕ)) (line : List ℕ) → fold_from K R number (done ++ line ∷ []) ≡ (replied K (fold_from K R number done) (number + length done) line).rows
fold_one K R number [] line = ap (λ (n : ℕ). (replied K R n line).rows) (omega arith)
fold_one K R number (l ∷ done) line =
    let next = (replied K R number l).rows in
    let more : number + 1 + length done ≡ number + length (l ∷ done) = omega arith in
    fold_one K next (number + 1) done line ∙ ap (λ (n : ℕ). (replied K (fold_from K next (number + 1) done) n line).rows) more

-- ---- how far they are taken: some lines are done, and the rest is left
pub record Counted {O : Type 0} (M : Members O) (first : ℕ) (all rest : List (List ℕ)) (number : ℕ) (tally : Tally) (was now : Session) (old new : O) (looks steps : ℕ) : Type 0 where
  pub done : List (List ℕ)
  pub split : all ≡ done ++ rest
  pub number_is : number ≡ first + length done
  pub goes : Goes M (unshown_lines was.store.engine.size (first + 1) done) was now old new
  pub tally_is : tally ≡ tally_from was.store.engine.size was.store.engine.rows (first + 1) done
  pub rows : now.store.engine.rows ≡ fold_from was.store.engine.size was.store.engine.rows (first + 1) done
  pub size : now.store.engine.size ≡ was.store.engine.size
  pub spends : Spends M (unshown_lines was.store.engine.size (first + 1) done) was old looks steps (bytes_since now.store.journal)

pub counted_none : {O : Type 0} {M : Members O} (first : ℕ) (all : List (List ℕ)) (tally : Tally) (session : Session) (now : O) (looks : ℕ) → Laws M → tally ≡ no_replies → Counted M first all all first tally session session now now looks looks
counted_none first all tally session now looks laws none = record {
  done = [];
  split = refl;
  number_is = omega arith;
  goes = goes_nothing session now laws;
  tally_is = none;
  rows = refl;
  size = refl;
  spends = spends_nothing [] session now looks;
}

-- the turn of the next line, as it stands in the whole
next_turn : (K L : Capacity) (number n : ℕ) (line : List ℕ) → L ≡ K → number ≡ n → unshown (line_turn L number line) ∷ [] ≡ unshown_lines K n (line ∷ [])
next_turn K L number n line same is = ap (λ (k : Capacity). unshown (line_turn k number line) ∷ []) same ∙ ap (λ (m : ℕ). unshown (line_turn K m line) ∷ []) is

pub counted_more : {O : Type 0} {M : Members O} (first : ℕ) (all rest more : List (List ℕ)) (number next : ℕ) (line : List ℕ) (tally counted sum : Tally) (was mid now : Session) (old half new : O) (looks spent steps : ℕ) → Laws M → Counted M first all rest number tally was mid old half looks spent
    → rest ≡ line ∷ more → next ≡ number + 1 → Goes M (unshown (line_turn mid.store.engine.size next line) ∷ []) mid now half new → counted ≡ line_tally mid.store.engine.size mid.store.engine.rows next line → sum ≡ plus tally counted
    → now.store.engine.rows ≡ (replied mid.store.engine.size mid.store.engine.rows next line).rows → now.store.engine.size ≡ mid.store.engine.size → Spends M (unshown (line_turn mid.store.engine.size next line) ∷ []) mid half spent steps (bytes_since now.store.journal)
    → Counted M first all more next sum was now old new looks steps
counted_more {M = M} first all rest more number next line tally counted sum was mid now old half new looks spent steps laws h is one goes tallies sums rows size spends =
    let K = was.store.engine.size in
    let R = was.store.engine.rows in
    let n : next ≡ first + 1 + length h.done = omega (arith, one, h.number_is) in
    let turn = next_turn K mid.store.engine.size next (first + 1 + length h.done) line h.size n in
    let turns : unshown_lines K (first + 1) h.done ++ (unshown (line_turn mid.store.engine.size next line) ∷ []) ≡ unshown_lines K (first + 1) (h.done ++ line ∷ []) =
    ap (λ (l : List Turn). unshown_lines K (first + 1) h.done ++ l) turn ∙ sym (unshown-append K (first + 1) h.done (line ∷ [])) in
    let both = goes_then (unshown_lines K (first + 1) h.done) (unshown (line_turn mid.store.engine.size next line) ∷ []) was mid now old half new laws h.goes goes in
    let cost = spends_then (unshown_lines K (first + 1) h.done) (unshown (line_turn mid.store.engine.size next line) ∷ []) was mid old half looks spent steps (bytes_since now.store.journal) h.goes h.spends spends in
    record {
      done = h.done ++ line ∷ [];
      split = h.split ∙ ap (λ (l : List (List ℕ)). h.done ++ l) is ∙ sym (append_assoc h.done (line ∷ []) more);
      number_is = omega (arith, n, length-append h.done (line ∷ []));
      goes = subst (λ (l : List Turn). Goes M l was now old new) turns both;
      tally_is = sums ∙ ap (λ (t : Tally). plus t counted) h.tally_is
          ∙ ap (plus (tally_from K R (first + 1) h.done)) (tallies ∙ ap (λ (k : Capacity). line_tally k mid.store.engine.rows next line) h.size ∙ ap (λ (S : Rows). line_tally K S next line) h.rows ∙ ap (λ (m : ℕ). line_tally K (fold_from K R (first + 1) h.done) m line) n)
          ∙ sym (tally_one K R (first + 1) h.done line);
      rows = rows ∙ ap (λ (k : Capacity). (replied k mid.store.engine.rows next line).rows) h.size ∙ ap (λ (S : Rows). (replied K S next line).rows) h.rows
          ∙ ap (λ (m : ℕ). (replied K (fold_from K R (first + 1) h.done) m line).rows) n ∙ sym (fold_one K R (first + 1) h.done line);
      size = size ∙ h.size;
      spends = subst (λ (l : List Turn). Spends M l was old looks steps (bytes_since now.store.journal)) turns cost;
    }

-- the taking stops at what is left
pub counted_stops : {O : Type 0} {M : Members O} (stop : Stop) (first : ℕ) (all rest : List (List ℕ)) (number : ℕ) (tally : Tally) (was mid now : Session) (old half new : O) (looks spent : ℕ) → Laws M → (h : Counted M first all rest number tally was mid old half looks spent)
    → Stops M stop (unshown_lines mid.store.engine.size (number + 1) rest) mid now half new → Stops M stop (unshown_lines was.store.engine.size (first + 1) all) was now old new
counted_stops {M = M} stop first all rest number tally was mid now old half new looks spent laws h stops =
    let K = was.store.engine.size in
    let n : number + 1 ≡ first + 1 + length h.done = omega (arith, h.number_is) in
    let left : unshown_lines mid.store.engine.size (number + 1) rest ≡ unshown_lines K (first + 1 + length h.done) rest = ap (λ (k : Capacity). unshown_lines k (number + 1) rest) h.size ∙ ap (λ (m : ℕ). unshown_lines K m rest) n in
    subst (λ (l : List Turn). Stops M stop l was now old new) (sym (unshown-append K (first + 1) h.done rest) ∙ ap (unshown_lines K (first + 1)) (sym h.split))
    (goes_stops stop (unshown_lines K (first + 1) h.done) (unshown_lines K (first + 1 + length h.done) rest) was mid now old half new laws h.goes
    (subst (λ (l : List Turn). Stops M stop l mid now half new) left stops))

-- and takes no more than all
pub counted_spends : {O : Type 0} {M : Members O} (first : ℕ) (all rest : List (List ℕ)) (number : ℕ) (tally : Tally) (was now : Session) (old new : O) (looks steps : ℕ) → (h : Counted M first all rest number tally was now old new looks steps) → Spends M (unshown_lines was.store.engine.size (first + 1) all) was old looks steps (bytes_since now.store.journal)
counted_spends {M = M} first all rest number tally was now old new looks steps h =
    let K = was.store.engine.size in
    subst (λ (l : List Turn). Spends M l was old looks steps (bytes_since now.store.journal)) (sym (unshown-append K (first + 1) h.done rest) ∙ ap (unshown_lines K (first + 1)) (sym h.split))
    (spends_first (unshown_lines K (first + 1) h.done) (unshown_lines K (first + 1 + length h.done) rest) was old looks steps (bytes_since now.store.journal) h.spends)

-- ---- a line, and what it reads as
pub unshown_alike : (one two : Turn) → AreAlike (one ∷ []) (two ∷ []) → AreAlike (unshown one ∷ []) (unshown two ∷ [])
unshown_alike one two h = (record { said = λ R. refl; after = h.0.after; looks = h.0.looks; bytes = h.0.bytes }, tt)

pub tally_read : (K : Capacity) (R : Rows) (number : ℕ) (line text : List ℕ) (read : Option (Read Command)) → text ≡ without_cr line → read_line text ≡ read → tally_of K R number read ≡ line_tally K R number line
unfolding line_tally
tally_read K R number line text read is reads = ap (tally_of K R number) (sym reads ∙ ap read_line is)

pub rows_read : (K : Capacity) (R : Rows) (number : ℕ) (line text : List ℕ) (read : Option (Read Command)) → text ≡ without_cr line → read_line text ≡ read → (replied_to K R number read).rows ≡ (replied K R number line).rows
unfolding replied
rows_read K R number line text read is reads = ap (λ (r : Option (Read Command)). (replied_to K R number r).rows) (sym reads ∙ ap read_line is)

-- a line that is skipped
pub skipped_unshown : {O : Type 0} {M : Members O} (K : Capacity) (number : ℕ) (line text : List ℕ) (session : Session) (now : O) → Laws M → text ≡ without_cr line → read_line text ≡ None → Goes M (unshown (line_turn K number line) ∷ []) session session now now
skipped_unshown K number line text session now laws is reads =
    idle_goes (unshown (line_turn K number line)) session now laws (λ R. refl) (λ R. sym (rows_read K R number line text None is reads))

-- no call was made
pub same_counts : {T : Type 0} (r : Result T Stop) (w d : ℕ) → OnErr r (r ≡ Err NoMemory) → Counts r w w d d
same_counts (Ok x) w d only = (refl, refl)
same_counts (Err NoMemory) w d only = (refl, refl)
same_counts (Err WriteFault) w d only = absurd (cc)
same_counts (Err DiskFault) w d only = absurd (cc)

-- ---- it stops at a line, or after it
next_lines : (K : Capacity) (number next : ℕ) (line : List ℕ) (rest more : List (List ℕ)) → rest ≡ line ∷ more → next ≡ number + 1 → (unshown (line_turn K next line) ∷ []) ++ unshown_lines K (number + 1 + 1) more ≡ unshown_lines K (number + 1) rest
next_lines K number next line rest more is one = ap (λ (n : ℕ). unshown (line_turn K n line) ∷ unshown_lines K (number + 1 + 1) more) one ∙ ap (unshown_lines K (number + 1)) (sym is)

pub line_stops : {O : Type 0} {M : Members O} (stop : Stop) (K : Capacity) (number next : ℕ) (line : List ℕ) (rest more : List (List ℕ)) (a c : Session) (first last : O) → rest ≡ line ∷ more → next ≡ number + 1 → Stops M stop (unshown (line_turn K next line) ∷ []) a c first last → Stops M stop (unshown_lines K (number + 1) rest) a c first last
line_stops {M = M} stop K number next line rest more a c first last is one stops =
    subst (λ (l : List Turn). Stops M stop l a c first last) (next_lines K number next line rest more is one)
    (stops_more stop (unshown (line_turn K next line) ∷ []) (unshown_lines K (number + 1 + 1) more) a c first last stops)

pub line_full : {O : Type 0} {M : Members O} (K : Capacity) (number next : ℕ) (line : List ℕ) (rest more : List (List ℕ)) (a c : Session) (first last : O) → Laws M → rest ≡ line ∷ more → next ≡ number + 1 → Goes M (unshown (line_turn K next line) ∷ []) a c first last → Stops M NoMemory (unshown_lines K (number + 1) rest) a c first last
line_full {M = M} K number next line rest more a c first last laws is one goes =
    subst (λ (l : List Turn). Stops M NoMemory l a c first last) (next_lines K number next line rest more is one)
    (goes_stops NoMemory (unshown (line_turn K next line) ∷ []) (unshown_lines K (number + 1 + 1) more) a c c first last last laws goes (full_stops (unshown_lines K (number + 1 + 1) more) c last laws))

-- with what it takes
pub counted_breaks : {O : Type 0} {M : Members O} (first : ℕ) (all rest more : List (List ℕ)) (number next : ℕ) (line : List ℕ) (tally : Tally) (was mid : Session) (old half : O) (looks spent steps left : ℕ) → Counted M first all rest number tally was mid old half looks spent
    → rest ≡ line ∷ more → next ≡ number + 1 → Spends M (unshown (line_turn mid.store.engine.size next line) ∷ []) mid half spent steps left → Spends M (unshown_lines was.store.engine.size (first + 1) all) was old looks steps left
counted_breaks {M = M} first all rest more number next line tally was mid old half looks spent steps left h is one spends =
    let K = was.store.engine.size in
    let done = unshown_lines K (first + 1) h.done in
    let n : number + 1 ≡ first + 1 + length h.done = omega (arith, h.number_is) in
    let whole : done ++ unshown_lines mid.store.engine.size (number + 1) rest ≡ unshown_lines K (first + 1) all =
    ap (λ (l : List Turn). done ++ l) (ap (λ (k : Capacity). unshown_lines k (number + 1) rest) h.size ∙ ap (λ (m : ℕ). unshown_lines K m rest) n) ∙ sym (unshown-append K (first + 1) h.done rest) ∙ ap (unshown_lines K (first + 1)) (sym h.split) in
    let turn = unshown (line_turn mid.store.engine.size next line) ∷ [] in
    let later = subst (λ (l : List Turn). Spends M l mid half spent steps left) (next_lines mid.store.engine.size number next line rest more is one)
    (spends_first turn (unshown_lines mid.store.engine.size (number + 1 + 1) more) mid half spent steps left spends) in
    subst (λ (l : List Turn). Spends M l was old looks steps left) whole (spends_then done (unshown_lines mid.store.engine.size (number + 1) rest) was mid old half looks spent steps left h.goes h.spends later)

-- which stop it was
abbrev stop_of : (T : Type 0) → Stop → Result T Stop
stop_of T stop = Err stop

pub same_stop : {T : Type 0} (a b : Stop) → Err a ≡ stop_of T b → a ≡ b
same_stop a b e = cc
