use Rattle.std.proofs.Common.{ap, subst, sym, ◌∙◌}
use Rattle.fsrm_base.specs.Keyed.{has_row}
use Rattle.fsrm_model.specs.objects.AutoApply.{auto_folder}
use Rattle.templates.specs.Held.{Held, without_auto}
use Rattle.fsrm_engine.specs.declared.parts.Parts.{Parts}
use Rattle.fsrm_engine.specs.Applying.{AreComing}
use Rattle.fsrm_engine.specs.Machine.{IsSound}
use Rattle.fsrm_engine.proofs.applied.AutoLaws.{has_with, ruled, ruled_sound, taken_back}
use Rattle.fsrm_engine.proofs.parts.Parts.apply_auto.Goals as goal

pub receive-requires : goal.receive-requires
receive-requires c =
    let p = c.args.self.now in
    let held = c.add_auto.new.self in
    record {
      sound = ruled_sound p held c.requires.sound;
      queue = c.requires.queue;
      coming = subst (λ (h : Held). AreComing (ruled p h) c.args.rows.items) (sym c.in-Ok.ensures.ok) c.requires.coming;
    }

pub drop_auto-requires : goal.drop_auto-requires
drop_auto-requires c =
    let p = c.args.self.now in
    ap (λ (x : Parts). has_row auto_folder c.args.row.folder x.templates.autos) c.in_default-receive.ensures.err
    ∙ (ap (λ (h : Held). has_row auto_folder c.args.row.folder h.autos) c.in-Ok.ensures.ok ∙ has_with c.args.row p.templates.autos c.requires.absent)

pub returns-in_default-receive-clause-err : goal.returns-in_default-receive-clause-err
returns-in_default-receive-clause-err c =
    let p = c.args.self.now in
    let row = c.args.row in
    ap (λ (h : Held). record c.receive.new.self { templates = h }) c.drop_auto.ensures
    ∙ (ap (λ (x : Parts). record x { templates = without_auto x.templates row.folder }) c.in_default-receive.ensures.err
    ∙ (ap (λ (h : Held). ruled p (without_auto h row.folder)) c.in-Ok.ensures.ok ∙ taken_back p row c.requires.absent))

pub returns-in_default-receive-clause-sound : goal.returns-in_default-receive-clause-sound
returns-in_default-receive-clause-sound c = subst IsSound (sym (returns-in_default-receive-clause-err c)) c.requires.sound
