use Rattle.std.proofs.Common.{refl, sym, ◌∙◌, subst}
use Rattle.rescan.specs.Courses.{Course}
use Rattle.rescan.specs.Frontiers.{Stands}
use Rattle.rescan.proofs.queued.Following.{stands_active}
use Rattle.rescan.proofs.queued.Turning.{none_left}
use Rattle.rescan.proofs.queue.Scans.unvisited.Goals as goal

pub unvisited-requires : goal.unvisited-requires
unvisited-requires g c = record {
  stands =
      subst (λ (k : Course). Stands c.args.tree.now k.front) (sym c.self.view_is)
      (stands_active c.args.tree.now c.args.self.now c.requires.scanning (sym c.if-not-is_scanning.ensures.active));
}

pub returns-then-not-is_scanning-clause-ok : goal.returns-then-not-is_scanning-clause-ok
returns-then-not-is_scanning-clause-ok g c = c.new.ensures ∙ sym (none_left c.args.tree.now.nodes c.args.self.now.front (c.if-not-is_scanning.ensures.idle refl))
