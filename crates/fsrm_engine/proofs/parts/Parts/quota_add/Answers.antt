use Rattle.std.proofs.Common.{◌≡◌, ℕ, List, [], ap, sym, ◌∙◌, subst}
use Rattle.std.specs.Prelude.{IfOk}
use Rattle.fsrm_model.specs.declared.command.Deed.TheVariants.{Quota}
use Rattle.fsrm_model.specs.declared.command.NewQuota.{NewQuota}
use Rattle.fsrm_model.specs.declared.command.QuotaDeed.TheVariants.{Add as QuotaAdd}
use Rattle.fsrm_model.specs.declared.row.QuotaRow.{QuotaRow}
use Rattle.fsrm_model.specs.commands.QuotaWork.{changed_by, modified, remarked}
use Rattle.fsrm_model.specs.nodes.Tree.{is_folder}
use Rattle.fsrm_model.proofs.commands.ValueParts.{new_quota_parts}
use Rattle.fsrm_objects.specs.Tables.{quota_fault}
use Rattle.fsrm_engine.specs.declared.parts.Parts.{Parts}
use Rattle.fsrm_engine.specs.Faults.{text_room}
use Rattle.fsrm_engine.specs.Machine.{Does, rows_of}
use Rattle.fsrm_engine.proofs.coming.MemoryLaws.{folder_wants}
use Rattle.fsrm_parts.proofs.tables.AnswerLaws.{on_err}
use Rattle.fsrm_engine.proofs.steps.WholeLaws.{sound_ended}
use Rattle.fsrm_engine.proofs.tables.QueueLaws.{few_scans}
use Rattle.fsrm_engine.proofs.tables.RoomLaws.{fault_refusal, refused_for_as}
use Rattle.fsrm_engine.proofs.tables.SourceLaws.{add_due, added_as, begun_percents, first_found, made_each, made_folder, made_is, made_limit, made_moment, made_percents, made_thresholds, made_unused, own_change}
use Rattle.fsrm_engine.proofs.parts.Parts.quota_add.Goals as goal

-- nothing is removed
row_is : (new : NewQuota) (removed : List ℕ) (begun row : QuotaRow) → removed ≡ [] → row ≡ remarked removed new.thresholds (modified new.limit new.enforce begun) → row ≡ changed_by (own_change new) begun
row_is new removed begun row none is = is ∙ ap (λ ns. remarked ns new.thresholds (modified new.limit new.enforce begun)) none

pub modified-requires : goal.modified-requires
modified-requires g c =
    let p = c.args.self.now in
    let new = c.args.quota.now in
    let n = c.in-Some.folder in
    let state = c.first_state-state.result in
    let f = first_found (rows_of p) new.template n state c.args.moment c.in_ok-first.field-0 c.in-Some-2.first c.in-Some-2.is c.in_ok-first.ensures in
    begun_percents p new.template n state c.args.moment c.in-Some-2.first c.requires.ready.whole f.1

pub enlist-requires : goal.enlist-requires
enlist-requires g c =
    let p = c.args.self.now in
    let new = c.args.quota.now in
    let n = c.in-Some.folder in
    let m = c.args.moment in
    let state = c.first_state-state.result in
    let w = c.requires.ready.whole in
    let legal = new_quota_parts new c.requires.valid in
    let begun = c.in-Some-2.first in
    let row = c.in_ok-row.row in
    let is = row_is new c.new-none.result begun row c.new-none.ensures c.in_ok-row.ensures in
    let f = first_found (rows_of p) new.template n state m c.in_ok-first.field-0 begun c.in-Some-2.is c.in_ok-first.ensures in
    record {
      sound = w.sound;
      folder = ap (is_folder p.tree.nodes) (made_folder p m n new state begun row w f.1 is) ∙ c.in-Some.ensures.folder.folder;
      limit = made_limit p m n new state begun row w f.1 is legal.limit f.0;
      ascending = made_percents p m n new state begun row w f.1 is;
      thresholds = made_each p m n new state begun row w f.1 is legal.thresholds;
      moment = made_moment p m n new state begun row w f.1 is c.requires.ready.in_range;
      nothing = made_unused p m n new state begun row w f.1 is c.in-Some.ensures.folder.folder c.first_state-state.ensures.state;
      waits = few_scans p.objects.quotas p.scans.queue w.valid.queue;
    }

pub returns-in-Ok-clause-ok : goal.returns-in-Ok-clause-ok
returns-in-Ok-clause-ok g c =
    let p = c.args.self.now in
    let new = c.args.quota.now in
    let n = c.in-Some.folder in
    let m = c.args.moment in
    let state = c.first_state-state.result in
    let w = c.requires.ready.whole in
    let legal = new_quota_parts new c.requires.valid in
    let begun = c.in-Some-2.first in
    let row = c.in_ok-row.row in
    let is = row_is new c.new-none.result begun row c.new-none.ensures c.in_ok-row.ensures in
    let f = first_found (rows_of p) new.template n state m c.in_ok-first.field-0 begun c.in-Some-2.is c.in_ok-first.ensures in
    added_as p m new n c.in-Some.ensures.folder c.enlist.new.self c.done.new.self row c.done.result
    (made_is p m n new state begun row w f.1 is _ c.first_state-state.ensures.state)
    w c.requires.ready.idle c.requires.ready.after f.0 c.in-Ok.ensures.may c.in-Ok.ensures.listed
    (made_thresholds p m n new state begun row w f.1 is legal.thresholds c.in-Ok.ensures.may)
    (made_limit p m n new state begun row w f.1 is legal.limit f.0)
    (made_unused p m n new state begun row w f.1 is c.in-Some.ensures.folder.folder c.first_state-state.ensures.state)
    c.done.ensures.ended c.done.ensures.answer

pub returns-in-Ok-clause-sound : goal.returns-in-Ok-clause-sound
returns-in-Ok-clause-sound g c = sound_ended c.enlist.new.self c.done.new.self c.args.moment c.done.ensures.ended c.done.ensures.counted c.enlist.ensures.sound.scanning

pub returns-clause-ok : goal.returns-clause-ok
returns-clause-ok g c =
    let p = c.args.self.now in
    let new = c.args.quota.now in
    let n = c.in-Some.folder in
    let m = c.args.moment in
    let state = c.first_state-state.result in
    let w = c.requires.ready.whole in
    let legal = new_quota_parts new c.requires.valid in
    let begun = c.in-Some-2.first in
    let row = c.in_ok-row.row in
    let fault = c.in-Err.fault in
    let f = first_found (rows_of p) new.template n state m c.in_ok-first.field-0 begun c.in-Some-2.is c.in_ok-first.ensures in
    let is = row_is new c.new-none.result begun row c.new-none.ensures c.in_ok-row.ensures in
    let made = made_is p m n new state begun row w f.1 is _ c.first_state-state.ensures.state in
    let deed = Quota (QuotaAdd new) in
    subst (λ (q : Parts). IfOk c.refused_for.result (λ answer. Does p q m deed answer)) (sym c.in-Err.ensures.err)
    (refused_for_as p m deed fault c.refused_for.result c.requires.ready.idle c.requires.ready.after
    (add_due p m new n c.in-Some.ensures.folder row w f.0 made
    ∙ fault_refusal fault (quota_fault p.objects row (text_room p)) c.in-Err.ensures.refused) c.refused_for.ensures.ok)

pub returns-in_err-first-clause-memory : goal.returns-in_err-first-clause-memory
returns-in_err-first-clause-memory g c = on_err _ (folder_wants c.args.self.now.tree.nodes c.args.quota.now.path c.in-Some.folder c.in-Some.ensures.folder)

pub returns-in_err-row-clause-memory : goal.returns-in_err-row-clause-memory
returns-in_err-row-clause-memory g c = on_err _ (folder_wants c.args.self.now.tree.nodes c.args.quota.now.path c.in-Some.folder c.in-Some.ensures.folder)

pub returns-clause-memory : goal.returns-clause-memory
returns-clause-memory g c = on_err c.refused_for.result (folder_wants c.args.self.now.tree.nodes c.args.quota.now.path c.in-Some.folder c.in-Some.ensures.folder)
