use Rattle.std.proofs.Common.{◌≡◌, ◌⊎◌, inr, ⊎_elim, ap, subst, Some, true, false, refl}
use Rattle.std.specs.Prelude.{not, Bool}
use Rattle.fsrm_outside.specs.History.{Missed, Noted, NotedOrMissed}
use Rattle.fsrm_outside.specs.Parts.{Parts}
use Rattle.fsrm_outside.specs.declared.calls.Call.TheVariants.{Sync}
use Rattle.fsrm_outside.specs.declared.history.History.{History}
use Rattle.fsrm_outside.proofs.Kept.{sync_through, synced}
use Rattle.fsrm_outside.proofs.memory.disk.MemoryOutsideDisk.sync.Goals as goal

pub returns-then-not-noted-clause-crash : goal.returns-then-not-noted-clause-crash
returns-then-not-noted-clause-crash c = sync_through c.args.self.now.history c.noted.new.history (not c.fails_next-fails.result) c.noted.ensures.kept

pub returns-clause-crash : goal.returns-clause-crash
returns-clause-crash c = sync_through c.args.self.now.history c.noted.new.history (not c.fails_next-fails.result) c.noted.ensures.kept

-- a call that was told to fail answers an Err
was_not : (fails result : Bool) → (fails ≡ true → result ≡ false) → result ≡ true → not fails ≡ true
was_not true result told done = absurd (cc (told refl))
was_not false result told done = refl

pub returns-clause-durable : goal.returns-clause-durable
returns-clause-durable c t image at left =
    let noted : c.noted.result ≡ true = c.if-not-noted.false in
    let done : not c.fails_next-fails.result ≡ true = was_not c.fails_next-fails.result c.noted.result c.noted.ensures.told noted in
    let kept = subst (λ (d : Bool). Noted (Sync d) c.args.self.now.history c.noted.new.history) done (c.noted.ensures.done noted) in
    ap (λ (p : Parts). Some p) (synced c.args.self.now.history c.noted.new.history t image kept at left)

pub returns-clause-noted : goal.returns-clause-noted
returns-clause-noted c =
    let noted : c.noted.result ≡ true = c.if-not-noted.false in
    let done : not c.fails_next-fails.result ≡ true = was_not c.fails_next-fails.result c.noted.result c.noted.ensures.told noted in
    subst (λ (d : Bool). Noted (Sync d) c.args.self.now.history c.noted.new.history) done (c.noted.ensures.done noted)

-- a sync that failed is kept as one that did nothing
kept_failed : (old new : History) (fails : Bool) → NotedOrMissed (Sync (not fails)) old new → (fails ≡ true) ⊎ Missed old new → NotedOrMissed (Sync false) old new
kept_failed old new true kept only = kept
kept_failed old new false kept only = ⊎_elim (λ is. absurd (cc)) (λ lost. inr lost) only

pub returns-then-not-noted-clause-noted_failed : goal.returns-then-not-noted-clause-noted_failed
returns-then-not-noted-clause-noted_failed c =
    kept_failed c.args.self.now.history c.noted.new.history c.fails_next-fails.result c.noted.ensures.kept (c.noted.ensures.only c.if-not-noted.true)
