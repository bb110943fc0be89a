use Rattle.std.proofs.Common.{◌≡◌, ◌+◌, ◌-◌, ◌*◌, ◌^◌, ◌<◌, drop}
use Rattle.fsrm_model.specs.values.Name.{folded}
use Rattle.name_rules.specs.Prefix.{number_of, prefix}
use Rattle.name_rules.proofs.prefix.prefix_of_bytes.Given as goal

abbrev pub invariant-loop-place : goal.invariant-loop-place
invariant-loop-place l = record {
  small : l.number < 256 ^ l.place;
  whole : prefix l.name ≡ l.number * 256 ^ (8 - l.place) + number_of (8 - l.place) (folded (drop l.place l.name));
}
