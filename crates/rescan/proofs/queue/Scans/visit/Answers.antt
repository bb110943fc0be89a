use Rattle.std.proofs.Common.{refl, sym}
use Rattle.fsrm_model.specs.objects.Scan.{visits}
use Rattle.rescan.specs.Courses.{left}
use Rattle.rescan.proofs.queued.Following.{goes_idle}
use Rattle.rescan.proofs.queue.Scans.visit.Goals as goal

pub returns-then-not-is_scanning-clause-follows : goal.returns-then-not-is_scanning-clause-follows
returns-then-not-is_scanning-clause-follows g c =
    let s = c.requires.scanning in
    goes_idle c.args.tree.now c.args.self.now (λ scanned. visits c.args.most c.args.tree.now.nodes (left c.args.tree.now.nodes c.args.self.now)) s.active (sym c.if-not-is_scanning.ensures.active) (c.if-not-is_scanning.ensures.idle refl) s.volume s.fits s.folders
