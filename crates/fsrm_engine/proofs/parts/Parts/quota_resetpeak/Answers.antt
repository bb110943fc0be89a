use Rattle.std.proofs.Common.{◌==◌, List, refl, ap, ◌∙◌}
use Rattle.std.specs.Prelude.{unwrap_or, if◌then◌else◌}
use Rattle.fsrm_model.specs.declared.command.Deed.TheVariants.{Quota}
use Rattle.fsrm_model.specs.declared.command.QuotaDeed.TheVariants.{Resetpeak as QuotaResetpeak}
use Rattle.fsrm_model.specs.declared.row.QuotaRow.{QuotaRow}
use Rattle.fsrm_model.specs.objects.Quota.{folder_of}
use Rattle.fsrm_model.specs.commands.QuotaWork.{reset}
use Rattle.fsrm_base.proofs.Look.{found_has}
use Rattle.fsrm_objects.specs.Tables.{Tables}
use Rattle.fsrm_engine.specs.declared.parts.Parts.{Parts}
use Rattle.fsrm_engine.specs.Machine.{rows_of}
use Rattle.fsrm_engine.proofs.tables.QuotaLaws.{counted_same, counted_reset, first_bare, reset_folder, reset_is, reset_limit, reset_thresholds, changed_as}
use Rattle.fsrm_engine.proofs.steps.StepLaws.{done_as, refused_as}
use Rattle.fsrm_engine.proofs.settling.CalmLaws.{calm_mapped}
use Rattle.fsrm_engine.proofs.settling.EndLaws.{few_log}
use Rattle.fsrm_engine.proofs.steps.WholeLaws.{sound_ended}
use Rattle.fsrm_engine.proofs.parts.Parts.quota_resetpeak.Goals as goal

pub set_peak-requires : goal.set_peak-requires
set_peak-requires g c =
    let quota = c.in-Ok.quota.now in
    found_has folder_of quota.folder c.args.self.now.objects.quotas quota c.in-Ok.ensures.ok.found

pub done-requires-clause-counted : goal.done-requires-clause-counted
done-requires-clause-counted g c =
    let p = c.args.self.now in
    let e = c.requires.ready.whole.sound.counted in
    let is = ap (λ (t : Tables). t.quotas) c.set_peak.ensures
    ∙ reset_is p c.args.moment c.in-Ok.quota.now.folder _ e (c.unwrap_or-used.ensures ∙ ap (λ o. unwrap_or o 0) c.used.ensures) in
    counted_same p.tree.size p.tree.nodes p.usage _ c.set_peak.new.self.quotas is (counted_reset p c.args.moment c.in-Ok.quota.now.folder e c.requires.ready.in_range)

pub returns-in-Err-clause-ok : goal.returns-in-Err-clause-ok
returns-in-Err-clause-ok g c =
    refused_as c.args.self.now c.args.moment (Quota (QuotaResetpeak c.args.path.now)) c.refused.result _ c.requires.ready.idle c.requires.ready.after c.in-Err.ensures.err (first_bare (rows_of c.args.self.now) c.args.path.now _ c.in-Err.ensures.err) c.refused.ensures

pub returns-clause-ok : goal.returns-clause-ok
returns-clause-ok g c =
    let p = c.args.self.now in
    let reset_are = reset_is p c.args.moment c.in-Ok.quota.now.folder _ c.requires.ready.whole.sound.counted (c.unwrap_or-used.ensures ∙ ap (λ o. unwrap_or o 0) c.used.ensures) in
    let is = ap (λ (t : Tables). t.quotas) c.set_peak.ensures ∙ reset_are in
    let n = c.in-Ok.quota.now.folder in
    let mid : Parts = record p { objects = c.set_peak.new.self } in
    done_as p mid c.done.new.self c.args.moment (Quota (QuotaResetpeak c.args.path.now)) c.done.result
    (changed_as p c.args.moment c.in-Ok.quota.now (Quota (QuotaResetpeak c.args.path.now)) c.args.path.now (reset p.tree.size (rows_of p) c.args.moment) c.set_peak.new.self c.requires.ready.idle c.requires.ready.after c.in-Ok.ensures.ok refl (c.set_peak.ensures ∙ ap (λ (qs : List QuotaRow). record p.objects { quotas = qs }) reset_are))
    refl (few_log p c.requires.ready.whole)
    (calm_mapped p mid c.args.moment (λ q. if folder_of q == n then reset p.tree.size (rows_of p) c.args.moment q else q) c.requires.ready.whole.sound.counted (counted_same p.tree.size p.tree.nodes p.usage _ c.set_peak.new.self.quotas is (counted_reset p c.args.moment n c.requires.ready.whole.sound.counted c.requires.ready.in_range)) refl is refl
    (λ q. reset_folder p c.args.moment (folder_of q == n) q) (λ q. reset_limit p c.args.moment (folder_of q == n) q) (λ q. reset_thresholds p c.args.moment (folder_of q == n) q))
    c.done.ensures.ended c.done.ensures.answer

pub returns-clause-sound : goal.returns-clause-sound
returns-clause-sound g c =
    sound_ended (record c.args.self.now { objects = c.set_peak.new.self }) c.done.new.self c.args.moment c.done.ensures.ended c.done.ensures.counted c.requires.ready.whole.sound.scanning
