-- The streams and files of the process: nothing is told of them but how often a call failed.
use Rattle.std.specs.Prelude.{◌≡◌, ℕ, None, Some, [], refl}
use Rattle.std.proofs.Common.{◌∙◌}
use Rattle.fsrm_outside.specs.Kept.{KeepsDisk, KeepsSink, KeepsSource}
use Rattle.fsrm_outside.specs.declared.files.Opened.{Opened}
use Rattle.fsrm_outside.specs.declared.files.Opened.TheVariants.{Refused}
use Rattle.fsrm_outside.specs.declared.real.RealOutside.{RealOutside}

abbrev pub read_faults_of : RealOutside → ℕ
read_faults_of o = o.read_faults

abbrev pub write_faults_of : RealOutside → ℕ
write_faults_of o = o.write_faults

abbrev pub disk_faults_of : RealOutside → ℕ
disk_faults_of o = o.disk_faults

-- what the folder has for the two parts
abbrev pub opened_of : RealOutside → Opened
opened_of o = o.files.opened

-- what reads keep
pub record ByRead (a b : RealOutside) : Type 0 where
  pub write_faults : b.write_faults ≡ a.write_faults
  pub disk_faults : b.disk_faults ≡ a.disk_faults
  pub opened : opened_of b ≡ opened_of a

-- what writes keep
pub record ByWrite (a b : RealOutside) : Type 0 where
  pub read_faults : b.read_faults ≡ a.read_faults
  pub disk_faults : b.disk_faults ≡ a.disk_faults
  pub opened : opened_of b ≡ opened_of a

-- what calls of the disk keep: files that were refused stay refused
pub record ByDisk (a b : RealOutside) : Type 0 where
  pub read_faults : b.read_faults ≡ a.read_faults
  pub write_faults : b.write_faults ≡ a.write_faults
  pub refused : opened_of a ≡ Refused → opened_of b ≡ Refused

pub read_same : (a : RealOutside) → ByRead a a
read_same a = record { write_faults = refl; disk_faults = refl; opened = refl }

pub read_then : (a b c : RealOutside) → ByRead a b → ByRead b c → ByRead a c
read_then a b c p q = record { write_faults = q.write_faults ∙ p.write_faults; disk_faults = q.disk_faults ∙ p.disk_faults; opened = q.opened ∙ p.opened }

pub write_same : (a : RealOutside) → ByWrite a a
write_same a = record { read_faults = refl; disk_faults = refl; opened = refl }

pub write_then : (a b c : RealOutside) → ByWrite a b → ByWrite b c → ByWrite a c
write_then a b c p q = record { read_faults = q.read_faults ∙ p.read_faults; disk_faults = q.disk_faults ∙ p.disk_faults; opened = q.opened ∙ p.opened }

pub disk_same : (a : RealOutside) → ByDisk a a
disk_same a = record { read_faults = refl; write_faults = refl; refused = λ is. is }

pub disk_then : (a b c : RealOutside) → ByDisk a b → ByDisk b c → ByDisk a c
disk_then a b c p q = record { read_faults = q.read_faults ∙ p.read_faults; write_faults = q.write_faults ∙ p.write_faults; refused = λ is. q.refused (p.refused is) }

-- no clock is told
pub untold : (t : ℕ) (P : Type 0) → None ≡ Some t → P
untold t P told = absurd (cc)

pub disk_stays : (a b : RealOutside) → b.disk_faults ≡ a.disk_faults → KeepsDisk (λ o. None) (λ o. None) (λ o m image. Unit {0}) disk_faults_of a b
disk_stays a b faults = record { same_reads = refl; later = tt; since = λ s t m image at_a at_b from to. untold s _ at_a; past = λ s m image at_a few. untold s _ at_a; same_faults = faults }

pub sink_stays : (a b : RealOutside) → b.write_faults ≡ a.write_faults → KeepsSink (λ o. None) (λ o. None) (λ o m. []) write_faults_of a b
sink_stays a b faults = record { same_shown = refl; later = tt; since = λ s t m at_a at_b from to. refl; past = λ s m at_a few. refl; same_faults = faults }

pub source_stays : (a b : RealOutside) → b.read_faults ≡ a.read_faults → KeepsSource (λ o. None) read_faults_of a b
source_stays a b faults = record { same_left = refl; same_faults = faults }
