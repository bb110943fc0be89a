use Rattle.std.proofs.Common.{ℕ, ◌≤◌, [], ◌∷◌, length, sym, ap, subst, ◌∙◌, arith}
use Rattle.std.proofs.lemmas.List.Elements.{All-nil}
use Rattle.fsrm_outside.specs.Moments.{EachImage}
use Rattle.fsrm_journal.specs.Reading.{IsBody}
use Rattle.fsrm_journal.specs.Stores.{HoldsWithOrWithout}
use Rattle.fsrm_outside.specs.Parts.{part_of, other}
use Rattle.fsrm_outside.specs.declared.traits.Part.{Part}
use Rattle.fsrm_journal.specs.Records.{Settled}
use Rattle.fsrm_journal.proofs.Quiet.{stands_then}
use Rattle.fsrm_journal.proofs.Staging.{none_there}
use Rattle.fsrm_journal.proofs.Tails.{end_after, one_long}
use Rattle.fsrm_journal.proofs.journal.Journal.append.Goals as goal

pub returns-clause-added : goal.returns-clause-added
returns-clause-added g c log bodies s =
    let old = c.args.self.now in
    let mid = c.hold.new.self in
    let M = g.D.Disk in
    let held = c.hold.ensures.held [] (sym c.requires.none) (none_there old.bytes.items (omega (arith, old.fits, c.requires.none))) in
    let at : Settled M.reads M.disk_clock M.images log bodies mid.ruling mid.end c.args.disk.now =
    subst (λ (e : ℕ). Settled M.reads M.disk_clock M.images log bodies mid.ruling e c.args.disk.now) (sym c.hold.ensures.end)
    (subst (λ (r : Part). Settled M.reads M.disk_clock M.images log bodies r old.end c.args.disk.now) (sym c.hold.ensures.ruling) s) in
    c.flush.ensures.added log bodies (c.args.body.now ∷ []) (omega (arith, c.hold.ensures.count, c.requires.none)) held at

pub returns-clause-any_moment : goal.returns-clause-any_moment
returns-clause-any_moment g c log bodies s =
    let old = c.args.self.now in
    let mid = c.hold.new.self in
    let M = g.D.Disk in
    let held = c.hold.ensures.held [] (sym c.requires.none) (none_there old.bytes.items (omega (arith, old.fits, c.requires.none))) in
    let at : Settled M.reads M.disk_clock M.images log bodies mid.ruling mid.end c.args.disk.now =
    subst (λ (e : ℕ). Settled M.reads M.disk_clock M.images log bodies mid.ruling e c.args.disk.now) (sym c.hold.ensures.end)
    (subst (λ (r : Part). Settled M.reads M.disk_clock M.images log bodies r old.end c.args.disk.now) (sym c.hold.ensures.ruling) s) in
    c.flush.ensures.any_moment log bodies (c.args.body.now ∷ []) (omega (arith, c.hold.ensures.count, c.requires.none)) held at

pub returns-clause-stands : goal.returns-clause-stands
returns-clause-stands g c = stands_then _ _ _ c.hold.ensures.stands c.flush.ensures.stands

pub returns-clause-beside : goal.returns-clause-beside
returns-clause-beside g c n long =
    c.flush.ensures.beside n (λ x told. subst (λ (r : Part). n ≤ length (part_of (other r) x)) (sym c.hold.ensures.ruling) (long x told))

pub returns-clause-gate : goal.returns-clause-gate
returns-clause-gate g c = c.flush.ensures.gate (omega (arith, c.hold.ensures.count))

pub returns-clause-store : goal.returns-clause-store
returns-clause-store g c head image bodies s =
    let held = c.hold.ensures.holding [] (record { count = sym c.requires.none; bytes = none_there c.args.self.now.bytes.items (omega (arith, c.args.self.now.fits, c.requires.none)); legal = All-nil IsBody }) in
    c.flush.ensures.store head image bodies (c.args.body.now ∷ []) (record { parts = s.parts; certain = s.certain; at = c.hold.ensures.store head image bodies s.parts s.at }) held

pub returns-clause-leaves : goal.returns-clause-leaves
returns-clause-leaves g c head image bodies s =
    let D = g.D.Disk in
    let held = c.hold.ensures.holding [] (record { count = sym c.requires.none; bytes = none_there c.args.self.now.bytes.items (omega (arith, c.args.self.now.fits, c.requires.none)); legal = All-nil IsBody }) in
    subst (λ (r : Part). EachImage D.disk_clock D.images (HoldsWithOrWithout r head image bodies (c.args.body.now ∷ [])) c.args.disk.now c.flush.new.disk) c.hold.ensures.ruling
    (c.flush.ensures.leaves head image bodies (c.args.body.now ∷ []) (record { parts = s.parts; certain = s.certain; at = c.hold.ensures.store head image bodies s.parts s.at }) held)

pub returns-clause-end : goal.returns-clause-end
returns-clause-end g c =
    let held = c.hold.ensures.holding [] (record { count = sym c.requires.none; bytes = none_there c.args.self.now.bytes.items (omega (arith, c.args.self.now.fits, c.requires.none)); legal = All-nil IsBody }) in
    end_after _ _ _ _ _ _ (c.flush.ensures.end (omega (arith, c.hold.ensures.count))) c.hold.ensures.end (ap length held.bytes ∙ one_long c.args.body.now)
