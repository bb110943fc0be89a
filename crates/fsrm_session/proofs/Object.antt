-- The laws of an object of the outside, from what its traits say.
use seplogic.Ra.Ura.{Ura}
use mir.Syntax.{Dict}
use prog.Model.{Model}
use types.Logic.{Logic}
use contract.Running.{Running}
use denote.RattleType.{RattleType}
use Rattle.fsrm_outside.specs.declared.traits.Disk.{Ghosts as Disk}
use Rattle.fsrm_outside.specs.declared.traits.Outside.{Ghosts as Outside}
use Rattle.fsrm_outside.specs.declared.traits.Sink.{Ghosts as Sink}
use Rattle.fsrm_outside.specs.declared.traits.Source.{Ghosts as Source}
use Rattle.fsrm_outside.specs.contracts.traits.Disk.TheBound.{Met as IsDisk}
use Rattle.fsrm_outside.specs.contracts.traits.Outside.TheBound.{Met as IsOutside}
use Rattle.fsrm_outside.specs.contracts.traits.Sink.TheBound.{Met as IsSink}
use Rattle.fsrm_outside.proofs.OutsideLaws.{Laws}
use Rattle.fsrm_session.specs.Members.{members}

-- `laws_of g.met.O.Sink g.met.O.Disk g.met.O.Outside`
pub laws_of : {M : Type 1} {𝓤 : Ura M} {𝓛 : Logic 𝓤} {𝓜 : Model 𝓤 𝓛.H} {𝓡 : Running 𝓤 𝓛.H 𝓜} {O : RattleType} {outside : Outside O.Denot} {source : Source O.Denot} {sink : Sink O.Denot} {disk : Disk O.Denot} {a b c d : Dict}
    → IsSink 𝓛 𝓜 𝓡 𝓡.env O sink c → IsDisk 𝓛 𝓜 𝓡 𝓡.env O disk d → IsOutside 𝓛 𝓜 𝓡 𝓡.env O outside a source b sink c disk d → Laws (members source sink disk)
laws_of is_sink is_disk is_outside = record {
  disk = record { same = is_disk.disk_same; then_by = is_disk.disk_then; later = is_disk.disk_later; past = is_disk.disk_past };
  write_later = is_sink.write_later;
  write_past = is_sink.write_past;
  shown_now = is_sink.shown_now;
  shown_grows = is_sink.shown_grows;
  one_clock = is_outside.one_clock;
  read_keeps_disk = is_outside.read_keeps_disk;
  read_keeps_sink = is_outside.read_keeps_sink;
  write_keeps_disk = is_outside.write_keeps_disk;
  write_keeps_source = is_outside.write_keeps_source;
  disk_keeps_sink = is_outside.disk_keeps_sink;
  disk_keeps_source = is_outside.disk_keeps_source;
}
