-- What an object of the outside tells and keeps, by its traits.
use Rattle.fsrm_outside.specs.Members.{Members}
use Rattle.fsrm_outside.specs.declared.traits.Disk.{Ghosts as Disk}
use Rattle.fsrm_outside.specs.declared.traits.Sink.{Ghosts as Sink}
use Rattle.fsrm_outside.specs.declared.traits.Source.{Ghosts as Source}

abbrev pub members : {O : Type 0} → Source O → Sink O → Disk O → Members O
members source sink disk = record {
  left = source.left;
  read_faults = source.read_faults;
  by_read = source.by_read;
  shown = sink.shown;
  sink_clock = sink.sink_clock;
  shown_at = sink.shown_at;
  write_faults = sink.write_faults;
  by_write = sink.by_write;
  reads = disk.reads;
  disk_clock = disk.disk_clock;
  images = disk.images;
  disk_faults = disk.disk_faults;
  by_disk = disk.by_disk;
}
