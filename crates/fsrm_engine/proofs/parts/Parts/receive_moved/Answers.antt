use Rattle.std.proofs.Common.{◌≡◌, true, None, ℕ, Option, ap, sym, subst}
use Rattle.std.specs.Prelude.{IfSome, is_some}
use Rattle.fsrm_base.specs.Keyed.{has_row}
use Rattle.fsrm_model.specs.objects.QuotaStates.{start}
use Rattle.fsrm_model.specs.objects.Templates.{template_number}
use Rattle.fsrm_engine.specs.Arrivals.{Receives, from_source, source_fault}
use Rattle.fsrm_engine.proofs.coming.OneComes.{none_comes, one_comes, one_coming}
use Rattle.fsrm_engine.proofs.tables.QueueLaws.{few_scans}
use Rattle.fsrm_engine.proofs.tables.RoomLaws.{each_threshold, percents_ascend}
use Rattle.fsrm_engine.proofs.parts.Parts.receive_moved.Goals as goal

pub returns-in_default-clause-received : goal.returns-in_default-clause-received
returns-in_default-clause-received g c =
    let p = c.args.self.now in
    subst (λ (o : Option ℕ). Receives p p (from_source p.templates.templates c.args.node (start p.tree.nodes c.args.node) c.args.moment o)) (sym c.in_default.is) (none_comes p c.requires.ready.whole.sound)

pub derived_row-requires-clause-there : goal.derived_row-requires-clause-there
derived_row-requires-clause-there g c =
    subst (λ (o : Option ℕ). IfSome o (λ n. has_row template_number n c.args.self.now.templates.templates ≡ true)) c.in-Some.is c.requires.there

pub derived_row-requires-clause-folder : goal.derived_row-requires-clause-folder
derived_row-requires-clause-folder g c = c.requires.kind (ap is_some c.in-Some.is)

pub enlist-requires : goal.enlist-requires
enlist-requires g c =
    let p = c.args.self.now in
    let some = ap is_some c.in-Some.is in
    let there = subst (λ (o : Option ℕ). IfSome o (λ n. has_row template_number n p.templates.templates ≡ true)) c.in-Some.is c.requires.there in
    let may = subst (λ (o : Option ℕ). source_fault p o ≡ None) c.in-Some.is c.requires.may in
    let row = c.in_ok-row.row in
    let is = one_coming p c.requires.ready.whole c.args.node c.in-Some.template c.args.moment there row c.in_ok-row.ensures.row (c.requires.kind some) (c.requires.absent some) may c.requires.ready.in_range in
    record {
      sound = c.requires.ready.whole.sound;
      folder = is.folder;
      limit = is.limit;
      ascending = percents_ascend row.thresholds is.thresholds;
      thresholds = each_threshold row.thresholds is.thresholds;
      moment = is.moment;
      nothing = is.unused;
      waits = few_scans p.objects.quotas p.scans.queue c.requires.ready.whole.valid.queue;
    }

pub returns-clause-received : goal.returns-clause-received
returns-clause-received g c =
    let p = c.args.self.now in
    let there = subst (λ (o : Option ℕ). IfSome o (λ n. has_row template_number n p.templates.templates ≡ true)) c.in-Some.is c.requires.there in
    subst (λ (o : Option ℕ). Receives p c.enlist.new.self (from_source p.templates.templates c.args.node (start p.tree.nodes c.args.node) c.args.moment o)) (sym c.in-Some.is)
    (one_comes p c.requires.ready.whole c.args.node c.in-Some.template c.args.moment there c.in_ok-row.row c.in_ok-row.ensures.row c.enlist.new.self c.in-Ok.ensures.listed)
