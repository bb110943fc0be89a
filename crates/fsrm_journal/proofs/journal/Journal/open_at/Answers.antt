use Rattle.std.proofs.Common.{rules, ◌≡◌, [], Err, length, refl, ap, ◌∙◌, arith}
use Rattle.fsrm_outside.specs.Parts.{part_of, other}
use Rattle.fsrm_journal.proofs.Turns.{rules_wins, has_gate}
use Rattle.std.proofs.lemmas.List.Elements.{All-nil}
use Rattle.std.proofs.lemmas.Result.{err_from_is_err_and}
use Rattle.fsrm_journal.specs.Reading.{IsBody}
use Rattle.fsrm_journal.specs.Ahead.{ahead}
use Rattle.fsrm_journal.proofs.Ahead.{none_there}
use Rattle.fsrm_journal.proofs.Readings.{read_head}
use Rattle.fsrm_outside.proofs.Stages.{DiskLaws, quiet_then}
use Rattle.fsrm_outside.proofs.Settling.{still_stable, settles_then, settles_as}
use Rattle.fsrm_journal.proofs.Quiet.{beside_read, judged_read, refused_read, says_read}
use Rattle.fsrm_journal.proofs.journal.Journal.open_at.Goals as goal

pub returns-in_err-len-clause-crash : goal.returns-in_err-len-clause-crash
returns-in_err-len-clause-crash g c =
    let M = g.met.D.Disk in
    let laws : DiskLaws g.D.Disk.disk_clock g.D.Disk.images g.D.Disk.by_disk = record { same = M.disk_same; then_by = M.disk_then; later = M.disk_later; past = M.disk_past } in
    quiet_then laws _ _ _ c.read_heads.ensures.by c.len.ensures.by c.read_heads.ensures.crash c.len.ensures.crash

pub returns-in_err-len-clause-by : goal.returns-in_err-len-clause-by
returns-in_err-len-clause-by g c = g.met.D.Disk.disk_then _ _ _ c.read_heads.ensures.by c.len.ensures.by

pub returns-in_default-clause-crash : goal.returns-in_default-clause-crash
returns-in_default-clause-crash g c =
    let M = g.met.D.Disk in
    let laws : DiskLaws g.D.Disk.disk_clock g.D.Disk.images g.D.Disk.by_disk = record { same = M.disk_same; then_by = M.disk_then; later = M.disk_later; past = M.disk_past } in
    quiet_then laws _ _ _ c.read_heads.ensures.by c.len.ensures.by c.read_heads.ensures.crash c.len.ensures.crash

pub returns-in_default-clause-by : goal.returns-in_default-clause-by
returns-in_default-clause-by g c = g.met.D.Disk.disk_then _ _ _ c.read_heads.ensures.by c.len.ensures.by

pub returns-clause-crash : goal.returns-clause-crash
returns-clause-crash g c =
    let M = g.met.D.Disk in
    let laws : DiskLaws g.D.Disk.disk_clock g.D.Disk.images g.D.Disk.by_disk = record { same = M.disk_same; then_by = M.disk_then; later = M.disk_later; past = M.disk_past } in
    quiet_then laws _ _ _ c.read_heads.ensures.by c.len.ensures.by c.read_heads.ensures.crash c.len.ensures.crash

pub returns-clause-by : goal.returns-clause-by
returns-clause-by g c = g.met.D.Disk.disk_then _ _ _ c.read_heads.ensures.by c.len.ensures.by

pub returns-clause-stable : goal.returns-clause-stable
returns-clause-stable g c =
    let M = g.met.D.Disk in
    let laws : DiskLaws g.D.Disk.disk_clock g.D.Disk.images g.D.Disk.by_disk = record { same = M.disk_same; then_by = M.disk_then; later = M.disk_later; past = M.disk_past } in
    still_stable g.D.Disk.reads laws _ _ c.len.ensures.by c.len.ensures.crash c.len.ensures.reads c.in_ok-zero_len.ensures.stable

pub returns-in_err-ruling-clause-refused : goal.returns-in_err-ruling-clause-refused
returns-in_err-ruling-clause-refused g c parts told =
    let zero = c.in_ok-zero_len.ensures.zero parts told in
    let one = c.in_ok-zero_len.ensures.one parts told in
    let p = err_from_is_err_and c.from_residual-in_err-ruling.result c.from_residual-in_err-ruling.ensures.1 in
    rw p.1 (refused_read parts p.0 (judged_read parts _ _ (Err p.0) (ap Err p.2 ∙ c.in_err-ruling.ensures.judged) zero one))

pub returns-clause-opened : goal.returns-clause-opened
returns-clause-opened g c parts told =
    let zero = c.in_ok-zero_len.ensures.zero parts told in
    let one = c.in_ok-zero_len.ensures.one parts told in
    record {
      rules = judged_read parts _ _ _ c.in_ok-ruling.ensures.judged zero one;
      says = says_read c.in_ok-ruling.ruling c.head_ruling-head.result _ _ parts c.head_ruling-head.ensures.zero c.head_ruling-head.ensures.one zero one;
      at = refl;
      image = c.saturating_add.ensures;
      long = c.in_ok-len.ensures.length parts (c.read_heads.ensures.reads ∙ told);
      generation = refl;
      beside = beside_read c.in_ok-ruling.ruling c.is_open_beside-beside_open.result _ _ parts c.is_open_beside-beside_open.ensures.zero c.is_open_beside-beside_open.ensures.one zero one;
    }

pub returns-clause-beside : goal.returns-clause-beside
returns-clause-beside g c parts told =
    let r = c.in_ok-ruling.ruling in
    let w = rules_wins r parts (judged_read parts _ _ _ c.in_ok-ruling.ensures.judged (c.in_ok-zero_len.ensures.zero parts told) (c.in_ok-zero_len.ensures.one parts told)) in
    let gate = has_gate (part_of (other r) parts) w.beside in
    omega (arith, ap length gate.2)

pub returns-in_err-ruling-clause-any_moment : goal.returns-in_err-ruling-clause-any_moment
returns-in_err-ruling-clause-any_moment g c =
    settles_as _ _ (λ err. absurd (cc (err.1))) c.in_ok-zero_len.ensures.any_moment

pub returns-in_err-len-clause-any_moment : goal.returns-in_err-len-clause-any_moment
returns-in_err-len-clause-any_moment g c =
    let M = g.met.D.Disk in
    let laws : DiskLaws g.D.Disk.disk_clock g.D.Disk.images g.D.Disk.by_disk = record { same = M.disk_same; then_by = M.disk_then; later = M.disk_later; past = M.disk_past } in
    settles_then laws _ _ _ c.read_heads.ensures.by c.len.ensures.by c.len.ensures.crash c.len.ensures.reads (λ err. absurd (cc (err.1))) c.in_ok-zero_len.ensures.any_moment

pub returns-in_default-clause-any_moment : goal.returns-in_default-clause-any_moment
returns-in_default-clause-any_moment g c =
    let M = g.met.D.Disk in
    let laws : DiskLaws g.D.Disk.disk_clock g.D.Disk.images g.D.Disk.by_disk = record { same = M.disk_same; then_by = M.disk_then; later = M.disk_later; past = M.disk_past } in
    settles_then laws _ _ _ c.read_heads.ensures.by c.len.ensures.by c.len.ensures.crash c.len.ensures.reads (λ err. absurd (cc (err.1))) c.in_ok-zero_len.ensures.any_moment

pub returns-clause-any_moment : goal.returns-clause-any_moment
returns-clause-any_moment g c =
    let M = g.met.D.Disk in
    let laws : DiskLaws g.D.Disk.disk_clock g.D.Disk.images g.D.Disk.by_disk = record { same = M.disk_same; then_by = M.disk_then; later = M.disk_later; past = M.disk_past } in
    settles_then laws _ _ _ c.read_heads.ensures.by c.len.ensures.by c.len.ensures.crash c.len.ensures.reads (λ err. absurd (cc (err.1))) c.in_ok-zero_len.ensures.any_moment

pub returns-clause-sees : goal.returns-clause-sees
returns-clause-sees g c parts told =
    let o = returns-clause-opened g c parts told in
    let none : ahead c.in-Ok.window ≡ [] = search rules in
    record { long = o.long; window = none_there (part_of c.in_ok-ruling.ruling parts) 48 _ none }

pub returns-clause-reading : goal.returns-clause-reading
returns-clause-reading g c parts told =
    let o = returns-clause-opened g c parts told in
    read_head parts _ _ o (returns-clause-sees g c parts told)

pub returns-clause-holding : goal.returns-clause-holding
returns-clause-holding g c =
    let none : c.in-Ok.bytes.items ≡ [] = search rules in
    record { count = refl; bytes = none; legal = All-nil IsBody }
