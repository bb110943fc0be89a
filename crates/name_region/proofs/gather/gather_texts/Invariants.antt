use Rattle.std.proofs.Common.{◌≡◌}
use Rattle.std.specs.Vec.{vec_capacity}
use Rattle.name_region.proofs.GatherLaws.{IsGathered}
use Rattle.name_region.proofs.gather.gather_texts.Given as goal

abbrev pub invariant-loop-index : goal.invariant-loop-index
invariant-loop-index l = record {
  gathered : IsGathered l.initial.records.items l.initial.block.items l.records.items l.block.items l.index l.kept l.from l.to;
  block_capacity : vec_capacity l.block ≡ vec_capacity l.initial.block;
  records_capacity : vec_capacity l.records ≡ vec_capacity l.initial.records;
}
