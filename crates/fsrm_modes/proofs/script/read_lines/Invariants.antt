use Rattle.std.proofs.Common.{◌≡◌, ◌-◌, ◌+◌, ◌≤◌, ◌<◌, length, List, ℕ, take, Some}
use Rattle.fsrm_model.specs.values.Limits.{longest_script}
use Rattle.fsrm_session.specs.Members.{members}
use Rattle.fsrm_session.specs.Underway.{CanTake}
use Rattle.fsrm_store.specs.Amortized.{bytes_since}
use Rattle.fsrm_modes.specs.Looks.{SpendsLines}
use Rattle.fsrm_modes.specs.Pieces.{Takes}
use Rattle.fsrm_modes.specs.Places.{place_of}
use Rattle.fsrm_modes.specs.Reading.{start}
use Rattle.fsrm_modes.proofs.script.read_lines.Given as goal

-- the lines of what was taken are taken, and no call failed
abbrev pub invariant-pieces : goal.invariant-pieces
invariant-pieces g l =
    let source = g.O.Source in
    let sink = g.O.Sink in
    let disk = g.O.Disk in
    record {
      takes : Takes (members source sink disk) l.fn.session.store.engine.size start (place_of l.lines) l.taken l.fn.session l.session l.fn.outside l.outside;
      spent : (script : List ℕ) → source.left l.fn.outside ≡ Some script → SpendsLines (members source sink disk) l.fn.session.store.engine.size start (take l.taken script) l.fn.session l.fn.outside l.fn.steps l.steps (bytes_since l.session.store.journal);
      within : l.taken ≤ longest_script;
      number : l.lines.number ≤ l.taken + 1;
      ready : CanTake disk.reads l.session l.outside;
      size : l.session.store.engine.size ≡ l.fn.session.store.engine.size;
      reads_kept : source.read_faults l.outside ≡ source.read_faults l.fn.outside;
      writes_kept : sink.write_faults l.outside ≡ sink.write_faults l.fn.outside;
      disk_kept : disk.disk_faults l.outside ≡ disk.disk_faults l.fn.outside;
    }

abbrev pub decreases-pieces : goal.decreases-pieces
decreases-pieces g l = longest_script - l.taken
