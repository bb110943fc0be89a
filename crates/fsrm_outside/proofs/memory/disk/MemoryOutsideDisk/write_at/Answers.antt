use Rattle.std.proofs.Common.{refl, length}
use Rattle.fsrm_outside.specs.MemoryOutside.{parts_of}
use Rattle.fsrm_outside.specs.Record.{IsDisk}
use Rattle.fsrm_outside.specs.declared.calls.Call.TheVariants.{FailedAt}
use Rattle.fsrm_outside.proofs.Kept.{wrote_through, failed_through, failed_reads, failed_same, noted_begun, noted_goes, noted_start, stopped_then}
use Rattle.fsrm_outside.proofs.memory.disk.MemoryOutsideDisk.write_at.Goals as goal

pub returns-clause-crash : goal.returns-clause-crash
returns-clause-crash c = wrote_through c.args.self.now.history c.written.new.history c.args.part c.args.place c.args.bytes.now (c.requires (parts_of c.args.self.now) refl) c.if-not-written.ensures.done

pub returns-then-not-written-clause-crash : goal.returns-then-not-written-clause-crash
returns-then-not-written-clause-crash c =
    let failed = stopped_then c.args.self.now.history c.written.new.history c.fail_at.new.self (FailedAt c.args.part c.args.place (length c.args.bytes.now)) c.if-not-written.ensures.done c.fail_at.ensures in
    failed_through c.args.self.now.history c.fail_at.new.self c.args.part c.args.place (length c.args.bytes.now) (c.requires (parts_of c.args.self.now) refl) failed

pub returns-then-not-written-clause-failed : goal.returns-then-not-written-clause-failed
returns-then-not-written-clause-failed c =
    let failed = stopped_then c.args.self.now.history c.written.new.history c.fail_at.new.self (FailedAt c.args.part c.args.place (length c.args.bytes.now)) c.if-not-written.ensures.done c.fail_at.ensures in
    failed_reads c.args.self.now.history c.fail_at.new.self c.args.part c.args.place (length c.args.bytes.now) (length c.args.bytes.now) failed

pub returns-then-not-written-clause-stays : goal.returns-then-not-written-clause-stays
returns-then-not-written-clause-stays c =
    let failed = stopped_then c.args.self.now.history c.written.new.history c.fail_at.new.self (FailedAt c.args.part c.args.place (length c.args.bytes.now)) c.if-not-written.ensures.done c.fail_at.ensures in
    failed_same c.args.self.now.history c.fail_at.new.self c.args.part c.args.place (length c.args.bytes.now) failed

pub returns-then-not-written-clause-noted_failed : goal.returns-then-not-written-clause-noted_failed
returns-then-not-written-clause-noted_failed c =
    stopped_then c.args.self.now.history c.written.new.history c.fail_at.new.self (FailedAt c.args.part c.args.place (length c.args.bytes.now)) c.if-not-written.ensures.done c.fail_at.ensures

pub returns-then-not-written-clause-by : goal.returns-then-not-written-clause-by
returns-then-not-written-clause-by c =
    let call = FailedAt c.args.part c.args.place (length c.args.bytes.now) in
    let failed = stopped_then c.args.self.now.history c.written.new.history c.fail_at.new.self call c.if-not-written.ensures.done c.fail_at.ensures in
    record {
      calls = noted_goes IsDisk c.args.self.now.history c.fail_at.new.self call tt failed;
      start = noted_start c.args.self.now.history c.fail_at.new.self call failed;
      begun = noted_begun c.args.self.now.history c.fail_at.new.self call failed;
      shown = refl;
      left = refl;
      read_faults = refl;
      write_faults = refl;
    }
