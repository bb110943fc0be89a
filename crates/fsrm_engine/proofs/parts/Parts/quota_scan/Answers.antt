use Rattle.std.proofs.Common.{false, refl, ap, sym, ◌∙◌, [], ◌∷◌}
use Rattle.std.specs.Prelude.{is_none}
use Rattle.std.specs.Option.{option_map_or}
use Rattle.fsrm_model.specs.declared.command.Deed.TheVariants.{Quota}
use Rattle.fsrm_model.specs.declared.command.QuotaDeed.TheVariants.{Scan as QuotaScan}
use Rattle.fsrm_model.specs.declared.command.Refusal.TheVariants.{InvalidCombination}
use Rattle.fsrm_model.specs.declared.row.QuotaState.TheVariants.{Disabled, Rebuilding}
use Rattle.fsrm_model.specs.commands.Check.{◌when◌, first}
use Rattle.fsrm_model.specs.objects.Quota.{folder_of, quota_of, counts}
use Rattle.fsrm_model.specs.objects.QuotaStates.{in_state, is_disabled, queued, state_of, with_state}
use Rattle.fsrm_base.specs.Keyed.{with_change}
use Rattle.fsrm_base.proofs.Look.{found_has}
use Rattle.fsrm_engine.specs.Machine.{rows_of}
use Rattle.fsrm_parts.proofs.walks.PlaceLaws.{target_is}
use Rattle.fsrm_engine.proofs.tables.StateLaws.{quota_first}
use Rattle.fsrm_parts.proofs.walks.FoundLaws.{checked}
use Rattle.fsrm_engine.proofs.steps.StepLaws.{done_as, passing_as, refused_as, still_few, still_idle}
use Rattle.fsrm_engine.proofs.tables.QueueLaws.{few_waits}
use Rattle.fsrm_engine.proofs.tables.QuotaLaws.{first_bare}
use Rattle.fsrm_engine.proofs.tables.TurnLaws.{turned_accepts, turned_keeps, turned_rows}
use Rattle.fsrm_engine.proofs.settling.EndLaws.{few_log}
use Rattle.fsrm_engine.proofs.settling.TurnedCalm.{calm_scanned}
use Rattle.fsrm_engine.proofs.steps.WholeLaws.{sound_ended}
use Rattle.fsrm_engine.proofs.parts.Parts.quota_scan.Goals as goal

pub returns-in-Err-clause-ok : goal.returns-in-Err-clause-ok
returns-in-Err-clause-ok g c =
    let R = rows_of c.args.self.now in
    refused_as c.args.self.now c.args.moment (Quota (QuotaScan c.args.path.now)) c.refused.result _ c.requires.ready.idle c.requires.ready.after
    (quota_first R c.args.path.now _ _ c.in-Err.ensures.err) (first_bare R c.args.path.now _ c.in-Err.ensures.err) c.refused.ensures

pub returns-then-is_disabled-clause-ok : goal.returns-then-is_disabled-clause-ok
returns-then-is_disabled-clause-ok g c =
    let R = rows_of c.args.self.now in
    refused_as c.args.self.now c.args.moment (Quota (QuotaScan c.args.path.now)) c.refused-then-is_disabled.result InvalidCombination c.requires.ready.idle c.requires.ready.after
    (checked R c.args.path.now c.in-Ok.quota.now.folder false (λ k. (InvalidCombination when is_disabled (state_of R k)) ∷ []) c.in-Ok.ensures.ok.at (ap is_none c.in-Ok.ensures.ok.found)
    ∙ ap (λ b. first ((InvalidCombination when b) ∷ [])) (ap (λ o. is_disabled (option_map_or (λ quota. quota.state) o Disabled)) c.in-Ok.ensures.ok.found ∙ (sym c.is_disabled.ensures ∙ c.if-is_disabled.true)))
    refl c.refused-then-is_disabled.ensures

pub rebuild-requires-clause-there : goal.rebuild-requires-clause-there
rebuild-requires-clause-there g c =
    let R = rows_of c.args.self.now in
    found_has folder_of c.in-Ok.quota.now.folder R.quotas c.in-Ok.quota.now c.in-Ok.ensures.ok.found

pub rebuild-requires-clause-few : goal.rebuild-requires-clause-few
rebuild-requires-clause-few g c =
    let p = c.args.self.now in
    few_waits p.tree.nodes p.objects.quotas p.scans.queue c.in-Ok.quota.now.folder c.requires.ready.whole.sound.counted.are_quotas c.requires.ready.whole.valid.queue (rebuild-requires-clause-there g c)

pub returns-then-counts-clause-ok : goal.returns-then-counts-clause-ok
returns-then-counts-clause-ok g c =
    let p = c.args.self.now in
    let R = rows_of p in
    let n = c.in-Ok.quota.now.folder in
    let at = c.in-Ok.ensures.ok in
    let to = target_is R.nodes c.args.path.now n at.at.resolved in
    let after = with_change folder_of n (in_state Rebuilding) p.objects.quotas in
    let queue = queued p.scans.queue n Rebuilding in
    let t = c.rebuild.ensures.rebuilt in
    done_as p c.rebuild.new.self c.done.new.self c.args.moment (Quota (QuotaScan c.args.path.now)) c.done.result
    (turned_accepts p c.rebuild.new.self c.args.moment (Quota (QuotaScan c.args.path.now)) after queue c.requires.ready.idle c.requires.ready.after
    (checked R c.args.path.now n false (λ k. (InvalidCombination when is_disabled (state_of R k)) ∷ []) at.at (ap is_none at.found)
    ∙ ap (λ b. first ((InvalidCombination when b) ∷ [])) (ap (λ o. is_disabled (option_map_or (λ quota. quota.state) o Disabled)) c.in-Ok.ensures.ok.found ∙ (sym c.is_disabled.ensures ∙ c.if-is_disabled.false)))
    (ap (λ k. with_state R k Rebuilding) to)
    (ap (λ k. option_map_or counts (quota_of R k) false) to ∙ (ap (λ o. option_map_or counts o false) c.in-Ok.ensures.ok.found ∙ (sym c.counts.ensures ∙ c.if-counts.true))) t)
    refl (still_few p c.rebuild.new.self (turned_keeps p c.rebuild.new.self after queue t) (few_log p c.requires.ready.whole))
    (calm_scanned p c.rebuild.new.self c.args.moment n queue t) c.done.ensures.ended c.done.ensures.answer

pub returns-clause-ok : goal.returns-clause-ok
returns-clause-ok g c =
    let p = c.args.self.now in
    let R = rows_of p in
    let n = c.in-Ok.quota.now.folder in
    let at = c.in-Ok.ensures.ok in
    let to = target_is R.nodes c.args.path.now n at.at.resolved in
    let after = with_change folder_of n (in_state Rebuilding) p.objects.quotas in
    let queue = queued p.scans.queue n Rebuilding in
    let t = c.rebuild.ensures.rebuilt in
    let keeps = turned_keeps p c.rebuild.new.self after queue t in
    passing_as p c.rebuild.new.self c.args.moment (Quota (QuotaScan c.args.path.now)) _ (with_state R n Rebuilding) (still_idle p c.rebuild.new.self keeps c.requires.ready.idle) c.requires.ready.after
    (checked R c.args.path.now n false (λ k. (InvalidCombination when is_disabled (state_of R k)) ∷ []) at.at (ap is_none at.found)
    ∙ ap (λ b. first ((InvalidCombination when b) ∷ [])) (ap (λ o. is_disabled (option_map_or (λ quota. quota.state) o Disabled)) c.in-Ok.ensures.ok.found ∙ (sym c.is_disabled.ensures ∙ c.if-is_disabled.false)))
    (ap (λ k. with_state R k Rebuilding) to)
    (ap (λ k. option_map_or counts (quota_of R k) false) to ∙ (ap (λ o. option_map_or counts o false) c.in-Ok.ensures.ok.found ∙ (sym c.counts.ensures ∙ c.if-counts.false)))
    keeps.size (turned_rows p c.rebuild.new.self after queue t) c.passing.ensures

pub returns-then-counts-clause-sound : goal.returns-then-counts-clause-sound
returns-then-counts-clause-sound g c = sound_ended c.rebuild.new.self c.done.new.self c.args.moment c.done.ensures.ended c.done.ensures.counted c.rebuild.ensures.sound.scanning
