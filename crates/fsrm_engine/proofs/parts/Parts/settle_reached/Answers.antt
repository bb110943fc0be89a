use Rattle.std.proofs.Common.{refl}
use Rattle.fsrm_engine.proofs.settling.MarkLaws.{calm_of, calm_set, calm_there}
use Rattle.fsrm_parts.proofs.settling.OrderlyQuotas.{quotas_orderly}
use Rattle.fsrm_engine.proofs.tables.RanLaws.{counted_run}
use Rattle.fsrm_engine.proofs.parts.Parts.settle_reached.Goals as goal

pub settle_rows-requires : goal.settle_rows-requires
settle_rows-requires c =
    let p = c.args.self.now in
    record {
      orderly = quotas_orderly p.tree.nodes p.objects.quotas c.requires.may.counted.are_quotas;
      marked = calm_there p (calm_of p c.requires.may.idle);
      sorted = calm_set p (calm_of p c.requires.may.idle);
      log = c.requires.log;
      there = c.requires.there;
      ascending = c.requires.ascending;
      now = c.requires.now;
    }

pub returns-clause-settled : goal.returns-clause-settled
returns-clause-settled c =
    let p = c.args.self.now in
    record {
      parts_are = refl;
      settles = c.settle_rows.ensures.settled;
      set = c.settle_rows.ensures.sorted;
    }

pub returns-clause-counted : goal.returns-clause-counted
returns-clause-counted c = counted_run c.args.self.now _ c.args.moment _ c.requires.may.in_range c.requires.may.counted (returns-clause-settled c)
