-- What a device in memory holds that keeps no record of its calls.
use Rattle.std.specs.Prelude.{◌≡◌, ℕ, None, Some, List, [], drop, refl}
use Rattle.std.proofs.Common.{◌∙◌, ap}
use Rattle.fsrm_outside.specs.Contents.{parts_in}
use Rattle.fsrm_outside.specs.Kept.{KeepsDisk, KeepsSink, KeepsSource}
use Rattle.fsrm_outside.specs.Parts.{Parts}
use Rattle.fsrm_outside.specs.declared.quiet.QuietOutside.{QuietOutside}

-- the bytes not yet taken
abbrev pub left_of : QuietOutside → List ℕ
left_of o = drop o.place o.script.items

-- the bytes shown so far
abbrev pub shown_of : QuietOutside → List ℕ
shown_of o = o.output.items

-- what a read gives of the disk
abbrev pub parts_of : QuietOutside → Parts
parts_of o = parts_in o.contents

abbrev pub write_faults_of : QuietOutside → ℕ
write_faults_of o = o.write_faults

abbrev pub disk_faults_of : QuietOutside → ℕ
disk_faults_of o = o.disk_faults

-- what reads keep
pub record ByRead (a b : QuietOutside) : Type 0 where
  pub room : b.room ≡ a.room
  pub parts : parts_of b ≡ parts_of a
  pub shown : shown_of b ≡ shown_of a
  pub write_faults : b.write_faults ≡ a.write_faults
  pub disk_faults : b.disk_faults ≡ a.disk_faults

-- what writes keep
pub record ByWrite (a b : QuietOutside) : Type 0 where
  pub room : b.room ≡ a.room
  pub parts : parts_of b ≡ parts_of a
  pub left : left_of b ≡ left_of a
  pub disk_faults : b.disk_faults ≡ a.disk_faults

-- what calls of the disk keep
pub record ByDisk (a b : QuietOutside) : Type 0 where
  pub room : b.room ≡ a.room
  pub shown : shown_of b ≡ shown_of a
  pub left : left_of b ≡ left_of a
  pub write_faults : b.write_faults ≡ a.write_faults

pub read_same : (a : QuietOutside) → ByRead a a
read_same a = record { room = refl; parts = refl; shown = refl; write_faults = refl; disk_faults = refl }

pub read_then : (a b c : QuietOutside) → ByRead a b → ByRead b c → ByRead a c
read_then a b c p q = record { room = q.room ∙ p.room; parts = q.parts ∙ p.parts; shown = q.shown ∙ p.shown; write_faults = q.write_faults ∙ p.write_faults; disk_faults = q.disk_faults ∙ p.disk_faults }

pub write_same : (a : QuietOutside) → ByWrite a a
write_same a = record { room = refl; parts = refl; left = refl; disk_faults = refl }

pub write_then : (a b c : QuietOutside) → ByWrite a b → ByWrite b c → ByWrite a c
write_then a b c p q = record { room = q.room ∙ p.room; parts = q.parts ∙ p.parts; left = q.left ∙ p.left; disk_faults = q.disk_faults ∙ p.disk_faults }

pub disk_same : (a : QuietOutside) → ByDisk a a
disk_same a = record { room = refl; shown = refl; left = refl; write_faults = refl }

pub disk_then : (a b c : QuietOutside) → ByDisk a b → ByDisk b c → ByDisk a c
disk_then a b c p q = record { room = q.room ∙ p.room; shown = q.shown ∙ p.shown; left = q.left ∙ p.left; write_faults = q.write_faults ∙ p.write_faults }

-- no clock is told
pub untold : (t : ℕ) (P : Type 0) → None ≡ Some t → P
untold t P told = absurd (cc)

pub disk_stays : (a b : QuietOutside) → parts_of b ≡ parts_of a → b.disk_faults ≡ a.disk_faults → KeepsDisk (λ o. Some (parts_of o)) (λ o. None) (λ o m image. Unit {0}) disk_faults_of a b
disk_stays a b parts faults = record { same_reads = ap (λ (p : Parts). Some p) parts; later = tt; since = λ s t m image at_a at_b from to. untold s _ at_a; past = λ s m image at_a few. untold s _ at_a; same_faults = faults }

pub sink_stays : (a b : QuietOutside) → shown_of b ≡ shown_of a → b.write_faults ≡ a.write_faults → KeepsSink (λ o. Some (shown_of o)) (λ o. None) (λ o m. []) write_faults_of a b
sink_stays a b shown faults = record { same_shown = ap (λ (l : List ℕ). Some l) shown; later = tt; since = λ s t m at_a at_b from to. refl; past = λ s m at_a few. refl; same_faults = faults }

pub source_stays : (a b : QuietOutside) → left_of b ≡ left_of a → KeepsSource (λ o. Some (left_of o)) (λ o. 0) a b
source_stays a b left = record { same_left = ap (λ (l : List ℕ). Some l) left; same_faults = refl }
