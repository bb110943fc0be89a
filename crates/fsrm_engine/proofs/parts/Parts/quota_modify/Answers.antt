use Rattle.std.proofs.Common.{◌≡◌, ℕ, Bool, true, List, Option, Some, refl, ap, sym, ◌∙◌, subst}
use Rattle.std.specs.Option.{option_and_then, option_map_or}
use Rattle.fsrm_base.specs.Keyed.{is_ascending, row_of}
use Rattle.fsrm_model.specs.declared.command.Deed.TheVariants.{Quota}
use Rattle.fsrm_model.specs.declared.command.QuotaDeed.TheVariants.{Modify as QuotaModify}
use Rattle.fsrm_model.specs.declared.row.QuotaRow.{QuotaRow}
use Rattle.fsrm_model.specs.declared.row.QuotaState.{QuotaState}
use Rattle.fsrm_model.specs.declared.row.QuotaState.TheVariants.{Disabled}
use Rattle.fsrm_model.specs.declared.row.Rows.{Rows}
use Rattle.fsrm_model.specs.declared.row.Threshold.{Threshold}
use Rattle.fsrm_model.specs.objects.Quota.{folder_of}
use Rattle.fsrm_model.specs.objects.QuotaStates.{in_state, state_after, state_of}
use Rattle.fsrm_model.specs.objects.Thresholds.{may_be_removed, percent_of}
use Rattle.fsrm_model.proofs.commands.ValueParts.{quota_change_parts}
use Rattle.fsrm_engine.specs.declared.parts.Parts.{Parts}
use Rattle.fsrm_parts.specs.Faults.{table_refusal}
use Rattle.fsrm_engine.specs.Faults.{text_room}
use Rattle.fsrm_engine.specs.Machine.{IsIdle, rows_of}
use Rattle.fsrm_engine.proofs.coming.MemoryLaws.{folder_wants}
use Rattle.fsrm_parts.proofs.tables.AnswerLaws.{on_err}
use Rattle.fsrm_engine.proofs.steps.StepLaws.{refused_as}
use Rattle.fsrm_engine.proofs.tables.ModifyLaws.{changed_legal, changed_row, changed_still, changed_there, changed_unused, changed_whole, modified_as, ran_by}
use Rattle.fsrm_engine.proofs.tables.QueueLaws.{few_waits}
use Rattle.fsrm_engine.proofs.tables.QuotaLaws.{first_bare}
use Rattle.fsrm_engine.proofs.tables.RoomLaws.{modify_due, percents_ascend, refused_for_as}
use Rattle.fsrm_engine.proofs.tables.StateLaws.{quota_first}
use Rattle.fsrm_engine.proofs.parts.Parts.quota_modify.Goals as goal

-- what was lent is the lists
may_is : (lent removed : List ℕ) (held thresholds : List Threshold) → lent ≡ removed → held ≡ thresholds → may_be_removed removed thresholds ≡ may_be_removed lent held
may_is lent removed held thresholds e f = sym (ap (λ ns. may_be_removed ns held) e ∙ ap (may_be_removed removed) f)

-- the state that is asked for, by the row of which the new one was made
state_is : (p : Parts) (q before : QuotaRow) (state : QuotaState) (enabled : Option Bool) → before ≡ q → row_of folder_of q.folder p.objects.quotas ≡ Some q → ((R : Rows) → R.nodes ≡ p.tree.nodes → state_of R before.folder ≡ before.state → state ≡ state_after R before.folder enabled) → state ≡ state_after (rows_of p) q.folder enabled
state_is p q before state enabled same found after =
    after (rows_of p) refl
    (subst (λ (r : QuotaRow). state_of (rows_of p) r.folder ≡ r.state) (sym same) (ap (λ (o : Option QuotaRow). option_map_or (λ (quota : QuotaRow). quota.state) o Disabled) found))
    ∙ ap (λ (r : QuotaRow). state_after (rows_of p) r.folder enabled) same

pub returns-in-Err-clause-ok : goal.returns-in-Err-clause-ok
returns-in-Err-clause-ok g c =
    let R = rows_of c.args.self.now in
    refused_as c.args.self.now c.args.moment (Quota (QuotaModify c.args.change.now)) c.refused.result _ c.requires.ready.idle c.requires.ready.after
    (quota_first R c.args.change.now.path _ _ c.in-Err.ensures.err) (first_bare R c.args.change.now.path _ c.in-Err.ensures.err) c.refused.ensures

pub modified-requires : goal.modified-requires
modified-requires g c =
    let q = c.in-Ok.quota.now in
    ap (λ (r : QuotaRow). is_ascending percent_of r.thresholds) c.in_ok-before.ensures
    ∙ percents_ascend q.thresholds (c.requires.ready.whole.sound.counted.are_quotas.thresholds q.folder q c.in-Ok.ensures.ok.found)

pub may_put-requires-clause-there : goal.may_put-requires-clause-there
may_put-requires-clause-there g c =
    let change = c.args.change.now in
    changed_there change c.in-Ok.quota.now c.in_ok-before.before c.in_ok-row.row c.in_ok-before.ensures c.in_ok-row.ensures c.args.self.now.objects.quotas c.in-Ok.ensures.ok.found

pub may_put-requires-clause-thresholds : goal.may_put-requires-clause-thresholds
may_put-requires-clause-thresholds g c =
    let change = c.args.change.now in
    let legal = quota_change_parts change c.requires.valid in
    let q = c.in-Ok.quota.now in
    changed_legal change q c.in_ok-before.before c.in_ok-row.row c.in_ok-before.ensures c.in_ok-row.ensures
    (c.requires.ready.whole.sound.counted.are_quotas.thresholds q.folder q c.in-Ok.ensures.ok.found) legal.thresholds

pub returns-in-Err-may_put-clause-ok : goal.returns-in-Err-may_put-clause-ok
returns-in-Err-may_put-clause-ok g c =
    let p = c.args.self.now in
    let change = c.args.change.now in
    let q = c.in-Ok.quota.now in
    let state = c.state_after-row.result in
    let may : may_be_removed change.removed q.thresholds ≡ true = may_is c.as_slice.result.now change.removed c.as_slice-2.result.now q.thresholds c.as_slice.ensures c.as_slice-2.ensures ∙ (sym c.may_be_removed.ensures ∙ c.if-not-may_be_removed.false) in
    refused_for_as p c.args.moment (Quota (QuotaModify change)) c.in-Err-may_put.fault c.refused_for.result c.requires.ready.idle c.requires.ready.after
    (modify_due p c.args.moment change q c.in-Ok.ensures.ok state (in_state state c.in_ok-row.row) c.requires.ready.whole may
    (state_is p q c.in_ok-before.before c.state_after-row.result change.enabled c.in_ok-before.ensures c.in-Ok.ensures.ok.found c.state_after-row.ensures.state)
    (changed_row change q c.in_ok-before.before c.in_ok-row.row c.in_ok-before.ensures c.in_ok-row.ensures state)
    ∙ ap (option_and_then table_refusal) c.in-Err-may_put.ensures.refused) c.refused_for.ensures.ok

pub replace-requires-clause-there : goal.replace-requires-clause-there
replace-requires-clause-there g c =
    let change = c.args.change.now in
    changed_there change c.in-Ok.quota.now c.in_ok-before.before c.in_ok-row.row c.in_ok-before.ensures c.in_ok-row.ensures c.args.self.now.objects.quotas c.in-Ok.ensures.ok.found

pub replace-requires-clause-few : goal.replace-requires-clause-few
replace-requires-clause-few g c =
    let p = c.args.self.now in
    few_waits p.tree.nodes p.objects.quotas p.scans.queue c.in_ok-row.row.folder c.requires.ready.whole.sound.counted.are_quotas c.requires.ready.whole.valid.queue (replace-requires-clause-there g c)

pub replace-requires-clause-thresholds : goal.replace-requires-clause-thresholds
replace-requires-clause-thresholds g c =
    let p = c.args.self.now in
    let change = c.args.change.now in
    let legal = quota_change_parts change c.requires.valid in
    let q = c.in-Ok.quota.now in
    changed_whole change q c.in_ok-before.before c.in_ok-row.row c.in_ok-before.ensures c.in_ok-row.ensures
    p.objects (text_room p) c.state_after-row.result (c.requires.ready.whole.sound.counted.are_quotas.thresholds q.folder q c.in-Ok.ensures.ok.found) legal.thresholds c.in_default.ensures.may

pub replace-requires-clause-nothing : goal.replace-requires-clause-nothing
replace-requires-clause-nothing g c old found was t =
    let p = c.args.self.now in
    let change = c.args.change.now in
    let q = c.in-Ok.quota.now in
    changed_unused change c.in-Ok.quota.now c.in_ok-before.before c.in_ok-row.row c.in_ok-before.ensures c.in_ok-row.ensures
    p c.state_after-row.result change.enabled old c.requires.ready.whole.sound.counted.volume c.in-Ok.ensures.ok.at.folder
    (state_is p q c.in_ok-before.before c.state_after-row.result change.enabled c.in_ok-before.ensures c.in-Ok.ensures.ok.found c.state_after-row.ensures.state) found was t

pub settle_quota-requires-clause-may : goal.settle_quota-requires-clause-may
settle_quota-requires-clause-may g c =
    record {
      counted = c.replace.ensures.sound.counted;
      idle = subst IsIdle (sym c.replace.ensures.replaced.parts_are) (record { numbers = c.requires.ready.idle.numbers; places = c.requires.ready.idle.places; crossing = c.requires.ready.idle.crossing });
      in_range = c.requires.ready.in_range;
    }

pub settle_quota-requires-clause-there : goal.settle_quota-requires-clause-there
settle_quota-requires-clause-there g c =
    let p = c.args.self.now in
    let change = c.args.change.now in
    changed_still change c.in-Ok.quota.now c.in_ok-before.before c.in_ok-row.row c.in_ok-before.ensures c.in_ok-row.ensures
    p c.replace.new.self c.state_after-row.result _ c.replace.ensures.replaced c.requires.ready.whole.sound.counted.are_quotas.ascending c.in-Ok.ensures.ok.found

pub returns-clause-ok : goal.returns-clause-ok
returns-clause-ok g c =
    let p = c.args.self.now in
    let mid = c.replace.new.self in
    let change = c.args.change.now in
    let q = c.in-Ok.quota.now in
    let state = c.state_after-row.result in
    let may : may_be_removed change.removed q.thresholds ≡ true = may_is c.as_slice.result.now change.removed c.as_slice-2.result.now q.thresholds c.as_slice.ensures c.as_slice-2.ensures ∙ (sym c.may_be_removed.ensures ∙ c.if-not-may_be_removed.false) in
    modified_as p mid c.settle_quota.new.self c.done.new.self c.args.moment change q (in_state state c.in_ok-row.row) state c.in-Ok.ensures.ok c.done.result
    (changed_row change q c.in_ok-before.before c.in_ok-row.row c.in_ok-before.ensures c.in_ok-row.ensures state)
    (state_is p q c.in_ok-before.before c.state_after-row.result change.enabled c.in_ok-before.ensures c.in-Ok.ensures.ok.found c.state_after-row.ensures.state)
    may c.requires.ready.whole c.requires.ready.idle c.requires.ready.after c.in_default.ensures.may c.replace.ensures.replaced c.replace.ensures.sound.counted
    (ran_by p mid c.settle_quota.new.self c.args.moment q c.in_ok-before.before c.used-used.result c.in_ok-before.ensures c.used-used.ensures c.settle_quota.ensures.settled) c.done.ensures.ended c.done.ensures.answer

pub returns-in_err-before-clause-memory : goal.returns-in_err-before-clause-memory
returns-in_err-before-clause-memory g c = on_err _ (folder_wants c.args.self.now.tree.nodes c.args.change.now.path c.in-Ok.quota.now.folder c.in-Ok.ensures.ok.at)

pub returns-in_err-row-clause-memory : goal.returns-in_err-row-clause-memory
returns-in_err-row-clause-memory g c = on_err _ (folder_wants c.args.self.now.tree.nodes c.args.change.now.path c.in-Ok.quota.now.folder c.in-Ok.ensures.ok.at)

pub returns-in-Err-may_put-clause-memory : goal.returns-in-Err-may_put-clause-memory
returns-in-Err-may_put-clause-memory g c = on_err c.refused_for.result (folder_wants c.args.self.now.tree.nodes c.args.change.now.path c.in-Ok.quota.now.folder c.in-Ok.ensures.ok.at)
