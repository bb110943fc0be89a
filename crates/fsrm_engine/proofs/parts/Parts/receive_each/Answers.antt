use Rattle.std.proofs.Common.{◌≡◌, ◌∷◌, [], List, length, ap, subst, sym, ◌∙◌, arith}
use Rattle.std.proofs.lemmas.List.{nil_from_length}
use Rattle.std.specs.Prelude.{fold}
use Rattle.std.specs.Vec.Iter.{into_iter_items}
use Rattle.fsrm_model.specs.declared.row.QuotaRow.{QuotaRow}
use Rattle.fsrm_model.specs.objects.AutoApply.{queue_with, quotas_with}
use Rattle.fsrm_engine.specs.Applying.{AreComing}
use Rattle.fsrm_engine.specs.Machine.{Turned}
use Rattle.fsrm_engine.proofs.applied.ReceiveLaws.{Received, coming_first, received_all, received_none, received_one}
use Rattle.fsrm_engine.proofs.parts.Parts.receive_each.Goals as goal

pub loop-row-init : goal.loop-row-init
loop-row-init c =
    let p = c.args.self.now in
    let all = c.into_iter-row-iterator.ensures.into_iter_gives in
    record {
      received = received_none p _ c.requires.sound c.requires.queue c.requires.room (subst (AreComing p) (sym all.0) c.requires.coming);
      count = all.1 ∙ (c.args.rows.ok.0 ∙ sym (ap length all.0));
    }

pub receive_one-requires : goal.receive_one-requires
receive_one-requires c =
    let at = c.loop-row.invariant.received in
    let next : into_iter_items c.loop-row.row-iterator ≡ c.in-Some.row ∷ into_iter_items c.next.new.self = c.in-Some.ensures.steps.0 in
    record {
      sound = at.sound;
      queue = at.waiting;
      room = at.room;
      coming = coming_first c.loop-row.self c.in-Some.row (into_iter_items c.next.new.self) (subst (AreComing c.loop-row.self) next at.coming);
    }

pub loop-row-preserved : goal.loop-row-preserved
loop-row-preserved c =
    let p = c.args.self.now in
    let rows = into_iter_items c.into_iter-row-iterator.result in
    let next : into_iter_items c.loop-row.row-iterator ≡ c.in-Some.row ∷ into_iter_items c.next.new.self = c.in-Some.ensures.steps.0 in
    record {
      received = received_one p c.loop-row.self c.receive_one.new.self rows (into_iter_items c.next.new.self) c.in-Some.row
          (subst (Received p c.loop-row.self rows) next c.loop-row.invariant.received) c.receive_one.ensures.listed c.receive_one.ensures.sound;
      count = omega (arith, c.loop-row.invariant.count, c.in-Some.ensures.steps.1, ap length next);
    }

pub returns : goal.returns
returns c =
    let p = c.args.self.now in
    let rows = into_iter_items c.into_iter-row-iterator.result in
    let none : into_iter_items c.loop-row.row-iterator ≡ [] = nil_from_length _ (sym c.loop-row.invariant.count ∙ c.in-None.ensures.steps.0) in
    record {
      listed = subst (λ (all : List QuotaRow). Turned p c.loop-row.self (fold quotas_with p.objects.quotas all) (fold queue_with p.scans.queue all)) c.into_iter-row-iterator.ensures.into_iter_gives.0
          (received_all p c.loop-row.self rows (subst (Received p c.loop-row.self rows) none c.loop-row.invariant.received));
      sound = c.loop-row.invariant.received.sound;
    }
