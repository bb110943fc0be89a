use Rattle.std.proofs.Common.{ℕ, ap, subst, sym, ◌∙◌}
use Rattle.std.proofs.lemmas.List.{nil_from_length}
use Rattle.std.specs.Prelude.{fold}
use Rattle.std.specs.Vec.{vec_len}
use Rattle.fsrm_base.proofs.TestLaws.{eq_is}
use Rattle.fsrm_model.specs.objects.AutoApply.{queue_with, quotas_with}
use Rattle.fsrm_model.specs.values.Limits.{most_quotas}
use Rattle.fsrm_model.specs.store.ValidScans.{IsQueue}
use Rattle.fsrm_objects.specs.Tables.{Tables}
use Rattle.fsrm_engine.specs.declared.parts.Parts.{Parts}
use Rattle.fsrm_engine.specs.Applying.{AreComing}
use Rattle.fsrm_engine.specs.Machine.{IsSound, Turned}
use Rattle.fsrm_engine.proofs.applied.ReceiveLaws.{coming_roomed, received_nothing, roomed, sound_roomed}
use Rattle.fsrm_engine.proofs.parts.Parts.receive.Goals as goal

pub returns-then-is_empty-clause-listed : goal.returns-then-is_empty-clause-listed
returns-then-is_empty-clause-listed c =
    let rows = c.args.rows in
    received_nothing c.args.self.now rows.items c.requires.sound
    (nil_from_length rows.items (sym rows.ok.0 ∙ eq_is (vec_len rows) 0 (sym c.is_empty.ensures ∙ c.if-is_empty.true)))

pub receive_each-requires : goal.receive_each-requires
receive_each-requires c =
    let p = c.args.self.now in
    let same = c.in_ok-make_room.ensures.ok in
    record {
      sound = subst (λ (t : Tables). IsSound (record p { objects = t })) (sym same) (sound_roomed p most_quotas c.requires.sound);
      queue = subst (λ (t : Tables). IsQueue t.quotas p.scans.queue) (sym same) c.requires.queue;
      room = ap (λ (t : Tables). t.room) same;
      coming = subst (λ (t : Tables). AreComing (record p { objects = t }) c.args.rows.items) (sym same) (coming_roomed p most_quotas c.args.rows.items c.requires.coming);
    }

pub returns-clause-listed : goal.returns-clause-listed
returns-clause-listed c =
    let p = c.args.self.now in
    let rows = c.args.rows.items in
    let new = c.receive_each.new.self in
    let turned : Turned (roomed p most_quotas) new (fold quotas_with p.objects.quotas rows) (fold queue_with p.scans.queue rows) =
    subst (λ (t : Tables). Turned (record p { objects = t }) new (fold quotas_with t.quotas rows) (fold queue_with p.scans.queue rows)) c.in_ok-make_room.ensures.ok c.receive_each.ensures.listed in
    subst (λ (room : ℕ). Turned (roomed p room) new (fold quotas_with p.objects.quotas rows) (fold queue_with p.scans.queue rows))
    (sym (ap (λ (x : Parts). x.objects.room) turned.parts_are)) turned
