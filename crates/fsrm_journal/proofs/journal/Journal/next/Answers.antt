use Rattle.std.proofs.Common.{rules, ◌≡◌, ℕ, ◌+◌, ◌≤◌, List, length, length-take, length-drop, take, drop, refl, sym, ◌∙◌, ap, subst, arith}
use Rattle.std.specs.Prelude.{Option, Ok, None}
use Rattle.std.proofs.lemmas.List.{take-append-le, take-take}
use Rattle.fsrm_outside.specs.Parts.{part_of}
use Rattle.fsrm_outside.proofs.Settling.{still_stable}
use Rattle.fsrm_outside.proofs.Stages.{DiskLaws}
use Rattle.fsrm_journal.specs.Ahead.{ahead, AreEnough, StandThere}
use Rattle.fsrm_journal.specs.Next.{next_length, record_at}
use Rattle.fsrm_journal.proofs.Ahead.{inner_there, rest_there}
use Rattle.fsrm_journal.proofs.Readings.{read_all, read_body, stands_stable}
use Rattle.fsrm_journal.proofs.Stores.{none_next, stands_on}
use Rattle.fsrm_journal.proofs.Walks.{settled_at}
use Rattle.fsrm_journal.proofs.journal.Journal.next.Goals as goal

pub returns-in_err-reach-clause-stable : goal.returns-in_err-reach-clause-stable
returns-in_err-reach-clause-stable g c stable =
    let M = g.met.D.Disk in
    let laws : DiskLaws g.D.Disk.disk_clock g.D.Disk.images g.D.Disk.by_disk = record { same = M.disk_same; then_by = M.disk_then; later = M.disk_later; past = M.disk_past } in
    still_stable g.D.Disk.reads laws _ _ c.reach.ensures.by c.reach.ensures.crash c.reach.ensures.reads stable

pub returns-in_err-found-clause-stable : goal.returns-in_err-found-clause-stable
returns-in_err-found-clause-stable g c stable =
    let M = g.met.D.Disk in
    let laws : DiskLaws g.D.Disk.disk_clock g.D.Disk.images g.D.Disk.by_disk = record { same = M.disk_same; then_by = M.disk_then; later = M.disk_later; past = M.disk_past } in
    still_stable g.D.Disk.reads laws _ _ c.reach.ensures.by c.reach.ensures.crash c.reach.ensures.reads stable

pub returns-in_default-clause-stable : goal.returns-in_default-clause-stable
returns-in_default-clause-stable g c stable =
    let M = g.met.D.Disk in
    let laws : DiskLaws g.D.Disk.disk_clock g.D.Disk.images g.D.Disk.by_disk = record { same = M.disk_same; then_by = M.disk_then; later = M.disk_later; past = M.disk_past } in
    still_stable g.D.Disk.reads laws _ _ c.reach.ensures.by c.reach.ensures.crash c.reach.ensures.reads stable

pub returns-clause-stable : goal.returns-clause-stable
returns-clause-stable g c stable =
    let M = g.met.D.Disk in
    let laws : DiskLaws g.D.Disk.disk_clock g.D.Disk.images g.D.Disk.by_disk = record { same = M.disk_same; then_by = M.disk_then; later = M.disk_later; past = M.disk_past } in
    still_stable g.D.Disk.reads laws _ _ c.reach.ensures.by c.reach.ensures.crash c.reach.ensures.reads stable

-- what was found
pub returns-clause-tells : goal.returns-clause-tells
returns-clause-tells g c parts told sees =
    let half = part_of c.args.self.now.ruling parts in
    let end = c.args.self.now.end in
    let bytes = ahead c.reach.new.self in
    let s : StandThere half end bytes = c.reach.ensures.there parts told sees.window in
    let there = c.in_ok-found.ensures.tells half sees.long (subst (StandThere half end) (sym c.ahead.ensures) s) (subst (AreEnough half end) (sym c.ahead.ensures) (c.in_ok-reach.ensures.enough parts told)) in
    there ∙ ap (λ (o : Option (ℕ × ℕ)). Ok o) c.in-Some.is

pub returns-clause-body : goal.returns-clause-body
returns-clause-body g c parts told sees =
    let half = part_of c.args.self.now.ruling parts in
    let end = c.args.self.now.end in
    let bytes = ahead c.reach.new.self in
    let s : StandThere half end bytes = c.reach.ensures.there parts told sees.window in
    let size = c.in-Some.size in
    let at : (c.in-Some.place ≡ end + 5) × (c.in-Some.place + size ≤ c.args.self.now.len) = rw c.in-Some.is at c.in_ok-found.ensures.there in
    let whole : size + 5 ≤ length c.ahead.result.now = rw c.in-Some.is at c.in_ok-found.ensures.whole in
    let few : 5 + size ≤ length bytes = omega (arith, whole, ap length c.ahead.ensures) in
    let copied = c.copy_from_slice.new.self in
    let same : copied ≡ take size (drop 5 c.ahead-2.result.now) = search rules in
    let inner : copied ≡ take size (drop (end + 5) half) = same ∙ ap (λ (l : List ℕ). take size (drop 5 l)) c.ahead-2.ensures ∙ inner_there half end bytes 5 size s few in
    take-append-le size copied (drop size c.args.into.now) (omega (arith, ap length same, length-take size (drop 5 c.ahead-2.result.now), length-drop 5 c.ahead-2.result.now, ap length c.ahead-2.ensures, few)) ∙ ap (take size) inner ∙ take-take size size (drop (end + 5) half) (omega arith)
    ∙ ap (λ (p : ℕ). take size (drop p half)) (sym at.0)

pub returns-clause-sees : goal.returns-clause-sees
returns-clause-sees g c parts told sees =
    let half = part_of c.args.self.now.ruling parts in
    let end = c.args.self.now.end in
    let bytes = ahead c.reach.new.self in
    let s : StandThere half end bytes = c.reach.ensures.there parts told sees.window in
    let size = c.in-Some.size in
    let at : (c.in-Some.place ≡ end + 5) × (c.in-Some.place + size ≤ c.args.self.now.len) = rw c.in-Some.is at c.in_ok-found.ensures.there in
    let whole : size + 5 ≤ length c.ahead.result.now = rw c.in-Some.is at c.in_ok-found.ensures.whole in
    let few : 5 + size ≤ length bytes = omega (arith, whole, ap length c.ahead.ensures) in
    let after : end + (5 + size) ≡ c.in-Some.place + size = omega (arith, at.0) in
    record {
      long = sees.long;
      window = subst (λ (p : ℕ). StandThere half p (ahead c.pass.new.self)) after (subst (StandThere half (end + (5 + size))) (sym c.pass.ensures) (rest_there half end bytes (5 + size) s few));
    }

pub returns-clause-reading : goal.returns-clause-reading
returns-clause-reading g c parts head image bodies told r =
    read_body head image bodies _ parts c.args.self.now _ c.in-Some.place c.in-Some.size r
    (record { ruling = refl; generation = refl; beside = refl; image_end = refl; len = refl; written = refl; bytes = refl; held = refl; group = refl }) (returns-clause-sees g c parts told r.sees)
    (returns-clause-tells g c parts told r.sees) (returns-clause-body g c parts told r.sees) refl

-- at the closed gate records may be added
pub returns-in_default-clause-settled : goal.returns-in_default-clause-settled
returns-in_default-clause-settled g c parts told sees stable none =
    let M = g.met.D.Disk in
    let D = g.D.Disk in
    let laws : DiskLaws D.disk_clock D.images D.by_disk = record { same = M.disk_same; then_by = M.disk_then; later = M.disk_later; past = M.disk_past } in
    let half = part_of c.args.self.now.ruling parts in
    let end = c.args.self.now.end in
    let bytes = ahead c.reach.new.self in
    let s : StandThere half end bytes = c.reach.ensures.there parts told sees.window in
    let there = c.in_ok-found.ensures.tells half sees.long (subst (StandThere half end) (sym c.ahead.ensures) s) (subst (AreEnough half end) (sym c.ahead.ensures) (c.in_ok-reach.ensures.enough parts told)) in
    let none : record_at half end ≡ Ok None = there ∙ ap (λ (o : Option (ℕ × ℕ)). Ok o) c.in_default.is in
    settled_at D.reads D.disk_clock D.images c.reach.new.disk c.args.self.now.ruling end parts (c.reach.ensures.reads ∙ told)
    (still_stable D.reads laws c.args.disk.now c.reach.new.disk c.reach.ensures.by c.reach.ensures.crash c.reach.ensures.reads stable) (none_next half end (next_length half end) none)

pub returns-in_default-clause-store : goal.returns-in_default-clause-store
returns-in_default-clause-store g c parts head image bodies told r whole stable none =
    let M = g.met.D.Disk in
    let D = g.D.Disk in
    let laws : DiskLaws D.disk_clock D.images D.by_disk = record { same = M.disk_same; then_by = M.disk_then; later = M.disk_later; past = M.disk_past } in
    let sees = r.sees in
    let half = part_of c.args.self.now.ruling parts in
    let end = c.args.self.now.end in
    let bytes = ahead c.reach.new.self in
    let s : StandThere half end bytes = c.reach.ensures.there parts told sees.window in
    let there = c.in_ok-found.ensures.tells half sees.long (subst (StandThere half end) (sym c.ahead.ensures) s) (subst (AreEnough half end) (sym c.ahead.ensures) (c.in_ok-reach.ensures.enough parts told)) in
    let none : record_at half end ≡ Ok None = there ∙ ap (λ (o : Option (ℕ × ℕ)). Ok o) c.in_default.is in
    let at = read_all head image bodies parts c.args.self.now r c.args.self.now.in_part whole none in
    stands_stable D.reads D.disk_clock D.images head image bodies parts _ c.reach.new.disk (c.reach.ensures.reads ∙ told)
    (still_stable D.reads laws c.args.disk.now c.reach.new.disk c.reach.ensures.by c.reach.ensures.crash c.reach.ensures.reads stable)
    (stands_on head image bodies parts c.args.self.now _ (record { ruling = refl; generation = refl; beside = refl }) refl refl at)
