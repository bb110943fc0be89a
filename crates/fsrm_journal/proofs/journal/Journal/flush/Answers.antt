use Rattle.std.proofs.Common.{rules, ◌≡◌, ℕ, ◌+◌, inl, List, [], ◌∷◌, ◌++◌, length, length-append, refl, sym, ap, subst, ◌∙◌, arith}
use Rattle.std.proofs.lemmas.List.{append-nil}
use Rattle.std.proofs.lemmas.List.Elements.{All-nil}
use Rattle.fsrm_outside.specs.Moments.{EachImage}
use Rattle.fsrm_outside.proofs.Stages.{DiskLaws, joined, started, weaker}
use Rattle.fsrm_journal.specs.Records.{batch, HoldsAllOrNone, Settled}
use Rattle.fsrm_journal.specs.Reading.{IsBody, log_at}
use Rattle.fsrm_journal.specs.Stores.{HoldsWithOrWithout, Stands}
use Rattle.fsrm_journal.proofs.Staging.{none_there, some_held}
use Rattle.fsrm_journal.proofs.Stores.{none_here, settled_of, stands_added, with_or_without, without}
use Rattle.fsrm_journal.proofs.journal.Journal.flush.Goals as goal

pub returns-in_err-next-clause-any_moment : goal.returns-in_err-next-clause-any_moment
returns-in_err-next-clause-any_moment g c log bodies held few is s =
    weaker (HoldsAllOrNone log bodies held) (λ i holds. inl holds) (c.stage-staged.ensures.any_moment log bodies s)

pub returns-in_err-open_gate-clause-any_moment : goal.returns-in_err-open_gate-clause-any_moment
returns-in_err-open_gate-clause-any_moment g c log bodies held few is s =
    let M = g.met.D.Disk in
    let laws : DiskLaws g.D.Disk.disk_clock g.D.Disk.images g.D.Disk.by_disk = record { same = M.disk_same; then_by = M.disk_then; later = M.disk_later; past = M.disk_past } in
    let first = weaker (HoldsAllOrNone log bodies held) (λ i holds. inl holds) (c.stage-staged.ensures.any_moment log bodies s) in
    let h = some_held held (λ none. absurd (omega (arith, few, none, c.if-self-eq0.false))) in
    let closed = c.deref.ensures.value ∙ c.close_last.ensures.bytes ∙ ap (λ (l : List ℕ). l ++ 0 ∷ []) (is ∙ ap batch h.2) in
    let staged = c.in_ok-next.ensures.staged log bodies (batch (h.0 ∷ h.1)) closed s in
    let second = subst (λ (x : List (List ℕ)). EachImage g.D.Disk.disk_clock g.D.Disk.images (HoldsAllOrNone log bodies x) c.stage-staged.new.disk c.open_gate.new.disk) (sym h.2) (c.open_gate.ensures.any_moment log bodies h.0 h.1 s.rules staged) in
    joined laws c.stage-staged.ensures.by c.open_gate.ensures.by first second

pub returns-clause-added : goal.returns-clause-added
returns-clause-added g c log bodies held few is s =
    let M = g.D.Disk in
    let h = some_held held (λ none. absurd (omega (arith, few, none, c.if-self-eq0.false))) in
    let closed = c.deref.ensures.value ∙ c.close_last.ensures.bytes ∙ ap (λ (l : List ℕ). l ++ 0 ∷ []) (is ∙ ap batch h.2) in
    let staged = c.in_ok-next.ensures.staged log bodies (batch (h.0 ∷ h.1)) closed s in
    let done = c.in_ok-open_gate.ensures.opened log bodies h.0 h.1 s.rules staged in
    let end : c.args.self.now.end + 1 + length (batch (h.0 ∷ h.1)) ≡ c.in_ok-next.next = omega (arith, c.in_ok-next.ensures.next.0, ap length closed, length-append (batch (h.0 ∷ h.1)) (0 ∷ [])) in
    subst (λ (e : ℕ). Settled M.reads M.disk_clock M.images log (bodies ++ held) c.args.self.now.ruling e c.open_gate.new.disk) end
    (subst (λ (x : List (List ℕ)). Settled M.reads M.disk_clock M.images log (bodies ++ x) c.args.self.now.ruling (c.args.self.now.end + 1 + length (batch (h.0 ∷ h.1))) c.open_gate.new.disk) (sym h.2) done)

pub returns-clause-any_moment : goal.returns-clause-any_moment
returns-clause-any_moment g c log bodies held few is s =
    let M = g.met.D.Disk in
    let laws : DiskLaws g.D.Disk.disk_clock g.D.Disk.images g.D.Disk.by_disk = record { same = M.disk_same; then_by = M.disk_then; later = M.disk_later; past = M.disk_past } in
    let first = weaker (HoldsAllOrNone log bodies held) (λ i holds. inl holds) (c.stage-staged.ensures.any_moment log bodies s) in
    let h = some_held held (λ none. absurd (omega (arith, few, none, c.if-self-eq0.false))) in
    let closed = c.deref.ensures.value ∙ c.close_last.ensures.bytes ∙ ap (λ (l : List ℕ). l ++ 0 ∷ []) (is ∙ ap batch h.2) in
    let staged = c.in_ok-next.ensures.staged log bodies (batch (h.0 ∷ h.1)) closed s in
    let second = subst (λ (x : List (List ℕ)). EachImage g.D.Disk.disk_clock g.D.Disk.images (HoldsAllOrNone log bodies x) c.stage-staged.new.disk c.open_gate.new.disk) (sym h.2) (c.open_gate.ensures.any_moment log bodies h.0 h.1 s.rules staged) in
    joined laws c.stage-staged.ensures.by c.open_gate.ensures.by first second

pub returns-clause-ready : goal.returns-clause-ready
returns-clause-ready g c = c.in_ok-open_gate.ensures.longer c.in_ok-next.next c.in_ok-next.ensures.longer

pub returns-clause-beside : goal.returns-clause-beside
returns-clause-beside g c n long = c.in_ok-open_gate.ensures.beside n (c.in_ok-next.ensures.beside n long)

pub returns-clause-gate : goal.returns-clause-gate
returns-clause-gate g c some =
    let closed = c.deref.ensures.value ∙ c.close_last.ensures.bytes in
    let next = c.in_ok-next.ensures.next.0 in
    c.in_ok-open_gate.ensures.after c.in_ok-next.next 0 (omega (arith, next, ap length closed, length-append c.args.self.now.bytes.items (0 ∷ []))) (c.in_ok-next.ensures.gate c.args.self.now.bytes.items closed)

pub returns-then-self-eq0-clause-leaves : goal.returns-then-self-eq0-clause-leaves
returns-then-self-eq0-clause-leaves g c head image bodies held s h = started (record { now = without held s })

pub returns-in_err-next-clause-leaves : goal.returns-in_err-next-clause-leaves
returns-in_err-next-clause-leaves g c head image bodies held s h =
    weaker (HoldsWithOrWithout c.args.self.now.ruling head image bodies held) (with_or_without held s h.legal) (returns-in_err-next-clause-any_moment g c (log_at c.args.self.now.ruling c.args.self.now.end s.parts) [] held h.count h.bytes (settled_of s))

pub returns-in_err-open_gate-clause-leaves : goal.returns-in_err-open_gate-clause-leaves
returns-in_err-open_gate-clause-leaves g c head image bodies held s h =
    weaker (HoldsWithOrWithout c.args.self.now.ruling head image bodies held) (with_or_without held s h.legal) (returns-in_err-open_gate-clause-any_moment g c (log_at c.args.self.now.ruling c.args.self.now.end s.parts) [] held h.count h.bytes (settled_of s))

pub returns-clause-leaves : goal.returns-clause-leaves
returns-clause-leaves g c head image bodies held s h =
    weaker (HoldsWithOrWithout c.args.self.now.ruling head image bodies held) (with_or_without held s h.legal) (returns-clause-any_moment g c (log_at c.args.self.now.ruling c.args.self.now.end s.parts) [] held h.count h.bytes (settled_of s))

pub returns-then-self-eq0-clause-store : goal.returns-then-self-eq0-clause-store
returns-then-self-eq0-clause-store g c head image bodies held s h =
    let D = g.D.Disk in
    subst (λ (l : List (List ℕ)). Stands D.reads D.disk_clock D.images head image l c.args.self.now c.args.disk.now) (sym (append-nil bodies) ∙ ap (λ (l : List (List ℕ)). bodies ++ l) (sym (none_here held (omega (arith, h.count, c.if-self-eq0.true))))) s

pub returns-clause-store : goal.returns-clause-store
returns-clause-store g c head image bodies held s h =
    stands_added held _ _ s h.legal (record { ruling = refl; generation = refl; beside = refl }) refl (returns-clause-added g c (log_at c.args.self.now.ruling c.args.self.now.end s.parts) [] held h.count h.bytes (settled_of s))

pub returns-then-self-eq0-clause-holding : goal.returns-then-self-eq0-clause-holding
returns-then-self-eq0-clause-holding g c =
    let old = c.args.self.now in
    record { count = omega (arith, c.if-self-eq0.true); bytes = none_there old.bytes.items (omega (arith, old.fits, c.if-self-eq0.true)); legal = All-nil IsBody }

pub returns-clause-holding : goal.returns-clause-holding
returns-clause-holding g c =
    let none : c.clear.new.self.items ≡ [] = search rules in
    record { count = refl; bytes = none; legal = All-nil IsBody }

pub returns-clause-end : goal.returns-clause-end
returns-clause-end g c some =
    let closed = c.deref.ensures.value ∙ c.close_last.ensures.bytes in
    omega (arith, c.in_ok-next.ensures.next.0, ap length closed, length-append c.args.self.now.bytes.items (0 ∷ []))
