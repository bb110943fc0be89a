use Rattle.std.proofs.Common.{ap, ◌∙◌}
use Rattle.std.specs.Prelude.{unwrap_or}
use Rattle.fsrm_model.specs.nodes.Tree.{usage}
use Rattle.fsrm_engine.proofs.steps.ScanSteps.{head_quota, head_uncounted, next_queue, finished_sound}
use Rattle.fsrm_engine.proofs.parts.Parts.finish.Goals as goal

pub complete-requires-clause-there : goal.complete-requires-clause-there
complete-requires-clause-there c = head_quota c.args.self.now.objects.quotas c.args.self.now.scans.queue c.args.folder c.requires.ready.whole.valid.queue c.requires.active

pub complete-requires-clause-uncounted : goal.complete-requires-clause-uncounted
complete-requires-clause-uncounted c quota found =
    head_uncounted c.args.self.now.objects.quotas c.args.self.now.scans.queue c.args.folder quota c.requires.ready.whole.valid.queue c.requires.active found

pub complete-requires-clause-used : goal.complete-requires-clause-used
complete-requires-clause-used c =
    let p = c.args.self.now in
    c.finish-used.ensures.used p.tree c.requires.ready.whole.sound.scanning
    ∙ ap (λ o. usage p.tree.size p.tree.nodes (unwrap_or o 0)) c.requires.active

pub returns-clause-used : goal.returns-clause-used
returns-clause-used c =
    let p = c.args.self.now in
    c.finish-used.ensures.used p.tree c.requires.ready.whole.sound.scanning
    ∙ ap (λ o. usage p.tree.size p.tree.nodes (unwrap_or o 0)) c.requires.active

pub complete-requires-clause-may : goal.complete-requires-clause-may
complete-requires-clause-may c =
    record {
      counted = c.requires.ready.whole.sound.counted;
      idle = record { numbers = c.requires.ready.idle.numbers; places = c.requires.ready.idle.places; crossing = c.requires.ready.idle.crossing };
      in_range = c.requires.ready.in_range;
    }

pub returns-clause-finished : goal.returns-clause-finished
returns-clause-finished c =
    let p = c.args.self.now in
    record {
      scans = c.finish-used.new.self;
      queue_is = next_queue p.scans c.finish-used.new.self c.args.folder c.requires.active c.finish-used.ensures.queue;
      turns = c.finish-used.ensures.turns p.tree c.requires.ready.whole.sound.scanning;
      completes = c.complete.ensures.completed;
    }

pub returns-clause-sound : goal.returns-clause-sound
returns-clause-sound c = finished_sound c.args.self.now c.complete.new.self c.args.folder c.args.moment (returns-clause-finished c) c.complete.ensures.counted
