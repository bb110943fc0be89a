-- The laws of an object of the outside, in one record.
use Rattle.std.proofs.Common.{◌≡◌, ℕ, ◌≤◌, Some}
use Rattle.fsrm_outside.specs.Told.{Later}
use Rattle.fsrm_outside.specs.Shown.{IsFront}
use Rattle.fsrm_outside.specs.Kept.{KeepsDisk, KeepsSink, KeepsSource}
use Rattle.fsrm_outside.proofs.Stages.{DiskLaws}
use Rattle.fsrm_outside.specs.Members.{Members}

pub record Laws {O : Type 0} (M : Members O) : Type 0 where
  pub disk : DiskLaws M.disk_clock M.images M.by_disk
  pub write_later : (a b : O) → M.by_write a b → Later (M.sink_clock a) (M.sink_clock b)
  pub write_past : (a b : O) (t m : ℕ) → M.by_write a b → M.sink_clock a ≡ Some t → m ≤ t → M.shown_at b m ≡ M.shown_at a m
  pub shown_now : (s : O) (t : ℕ) → M.sink_clock s ≡ Some t → M.shown s ≡ Some (M.shown_at s t)
  pub shown_grows : (s : O) (t m n : ℕ) → M.sink_clock s ≡ Some t → m ≤ n → n ≤ t → IsFront (M.shown_at s m) (M.shown_at s n)
  pub one_clock : (o : O) (s t : ℕ) → M.sink_clock o ≡ Some s → M.disk_clock o ≡ Some t → s ≡ t
  pub read_keeps_disk : (a b : O) → M.by_read a b → KeepsDisk M.reads M.disk_clock M.images M.disk_faults a b
  pub read_keeps_sink : (a b : O) → M.by_read a b → KeepsSink M.shown M.sink_clock M.shown_at M.write_faults a b
  pub write_keeps_disk : (a b : O) → M.by_write a b → KeepsDisk M.reads M.disk_clock M.images M.disk_faults a b
  pub write_keeps_source : (a b : O) → M.by_write a b → KeepsSource M.left M.read_faults a b
  pub disk_keeps_sink : (a b : O) → M.by_disk a b → KeepsSink M.shown M.sink_clock M.shown_at M.write_faults a b
  pub disk_keeps_source : (a b : O) → M.by_disk a b → KeepsSource M.left M.read_faults a b
