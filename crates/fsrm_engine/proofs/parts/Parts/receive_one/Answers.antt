use Rattle.fsrm_engine.proofs.applied.ReceiveLaws.{coming_one, comes}
use Rattle.fsrm_engine.proofs.operations.FollowLaws.{when_ok}
use Rattle.fsrm_engine.proofs.tables.QueueLaws.{few_scans}
use Rattle.fsrm_engine.proofs.tables.RoomLaws.{each_threshold, percents_ascend}
use Rattle.fsrm_engine.proofs.parts.Parts.receive_one.Goals as goal

pub enlist-requires : goal.enlist-requires
enlist-requires c =
    let p = c.args.self.now in
    let is = coming_one p c.args.row c.requires.coming in
    record {
      sound = c.requires.sound;
      folder = is.folder;
      limit = is.limit;
      ascending = percents_ascend c.args.row.thresholds is.thresholds;
      thresholds = each_threshold c.args.row.thresholds is.thresholds;
      moment = is.moment;
      nothing = is.unused;
      waits = few_scans p.objects.quotas p.scans.queue c.requires.queue;
    }

pub unwrap-requires : goal.unwrap-requires
unwrap-requires c =
    let p = c.args.self.now in
    comes p c.args.row c.enlist.result (coming_one p c.args.row c.requires.coming) c.requires.room c.enlist.ensures.refused c.enlist.ensures.full

pub returns-clause-listed : goal.returns-clause-listed
returns-clause-listed c = when_ok _ _ c.unwrap.ensures c.enlist.ensures.listed
