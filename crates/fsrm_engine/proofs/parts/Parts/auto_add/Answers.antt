use Rattle.std.proofs.Common.{◌≡◌, ◌==◌, Some, ap, length, refl, subst, sym, ◌∙◌}
use Rattle.std.specs.Global.{Vec}
use Rattle.fsrm_base.specs.Keyed.{has_row}
use Rattle.fsrm_base.proofs.Look.{is_some-find}
use Rattle.fsrm_model.specs.declared.command.AutoquotaDeed.TheVariants.{Add as AutoquotaAdd}
use Rattle.fsrm_model.specs.declared.command.Deed.TheVariants.{Autoquota}
use Rattle.fsrm_model.specs.declared.row.AutoRow.{AutoRow}
use Rattle.fsrm_model.specs.declared.row.QuotaRow.{QuotaRow}
use Rattle.fsrm_model.specs.objects.AutoApply.{auto_folder, is_auto, auto_of}
use Rattle.fsrm_model.proofs.commands.ValueParts.{new_autoquota_parts}
use Rattle.templates.specs.Held.{with_auto}
use Rattle.fsrm_engine.specs.Applying.{AreComing, IsGiven, apply_refusal}
use Rattle.fsrm_parts.specs.Applying.{given_folders}
use Rattle.fsrm_engine.specs.Machine.{rows_of}
use Rattle.fsrm_engine.proofs.applied.AutoLaws.{apply_bare, auto_missing, auto_taken, auto_unknown, row_added, row_coming, row_due, row_source, ruled, source_found, source_none, when_given, when_refused}
use Rattle.fsrm_engine.proofs.coming.MemoryLaws.{folder_wants}
use Rattle.fsrm_parts.proofs.tables.AnswerLaws.{on_err}
use Rattle.fsrm_engine.proofs.steps.StepLaws.{refused_as}
use Rattle.fsrm_engine.proofs.tables.ScreenLaws.{lent_some}
use Rattle.fsrm_engine.proofs.parts.Parts.auto_add.Goals as goal

pub returns-in_default-clause-ok : goal.returns-in_default-clause-ok
returns-in_default-clause-ok g c =
    let p = c.args.self.now in
    refused_as p c.args.moment (Autoquota (AutoquotaAdd c.args.auto.now)) c.refused.result _ c.requires.ready.idle c.requires.ready.after
    (auto_missing p c.args.moment c.args.auto.now c.in_default.ensures.folder) refl c.refused.ensures

pub returns-then-is_some-clause-ok : goal.returns-then-is_some-clause-ok
returns-then-is_some-clause-ok g c =
    let p = c.args.self.now in
    let n = c.in-Some.folder in
    refused_as p c.args.moment (Autoquota (AutoquotaAdd c.args.auto.now)) c.refused-then-is_some.result _ c.requires.ready.idle c.requires.ready.after
    (auto_taken p c.args.moment c.args.auto.now n c.in-Some.ensures.folder
    (lent_some c.auto.result (auto_of (rows_of p) n) c.is_some.result _ c.auto.ensures.found c.is_some.ensures c.if-is_some.true)) refl c.refused-then-is_some.ensures

pub returns-in_default-find-clause-ok : goal.returns-in_default-find-clause-ok
returns-in_default-find-clause-ok g c =
    let p = c.args.self.now in
    let n = c.in-Some.folder in
    refused_as p c.args.moment (Autoquota (AutoquotaAdd c.args.auto.now)) c.refused-in_default-find.result _ c.requires.ready.idle c.requires.ready.after
    (auto_unknown p c.args.moment c.args.auto.now n c.in-Some.ensures.folder
    (lent_some c.auto.result (auto_of (rows_of p) n) c.is_some.result _ c.auto.ensures.found c.is_some.ensures c.if-is_some.false)
    (source_none p c.args.auto.now.template c.as_str.result.now c.as_str.ensures c.in_default-find.ensures.found)) refl c.refused-in_default-find.ensures

pub apply_auto-requires-clause-absent : goal.apply_auto-requires-clause-absent
apply_auto-requires-clause-absent g c =
    let p = c.args.self.now in
    let n = c.in-Some.folder in
    ap (λ (row : AutoRow). has_row auto_folder row.folder p.templates.autos) c.in_ok-row.ensures
    ∙ (sym (is_some-find (λ auto. auto_folder auto == n) p.templates.autos)
    ∙ lent_some c.auto.result (auto_of (rows_of p) n) c.is_some.result _ c.auto.ensures.found c.is_some.ensures c.if-is_some.false)

pub apply_auto-requires-clause-valid : goal.apply_auto-requires-clause-valid
apply_auto-requires-clause-valid g c = ap is_auto c.in_ok-row.ensures ∙ (new_autoquota_parts c.args.auto.now c.requires.valid).excluded

pub apply_auto-requires-clause-coming : goal.apply_auto-requires-clause-coming
apply_auto-requires-clause-coming g c =
    let p = c.args.self.now in
    let m = c.args.moment in
    let values = c.args.auto.now in
    let n = c.in-Some.folder in
    let number = c.in-Some-find.template in
    let row = c.in_ok-row.row in
    let at = c.in-Some.ensures.folder in
    let free = lent_some c.auto.result (auto_of (rows_of p) n) c.is_some.result _ c.auto.ensures.found c.is_some.ensures c.if-is_some.false in
    let source = source_found p values.template c.as_str.result.now number c.requires.ready.whole c.as_str.ensures c.in-Some-find.ensures.found in
    let folders = given_folders p.tree.nodes p.objects.quotas row in
    let given = when_given (λ (rows : Vec QuotaRow). IsGiven p row m rows.items) (λ refusal. apply_refusal p row (length folders) ≡ Some refusal) c.in_ok-rows.field-0 c.in-Ok.rows c.in-Ok.is c.in_ok-rows.ensures.given in
    let rows_are = given.rows_are source.row (row_source p m values n number c.requires.ready.whole at free source row c.in_ok-row.ensures folders refl) in
    subst (AreComing (ruled p (with_auto p.templates row))) (sym rows_are)
    (row_coming p m values n number c.requires.ready.whole at free source row c.in_ok-row.ensures folders refl c.requires.ready.in_range given.may)

pub returns-in_ok-apply_auto-in-Ok-clause-ok : goal.returns-in_ok-apply_auto-in-Ok-clause-ok
returns-in_ok-apply_auto-in-Ok-clause-ok g c =
    let p = c.args.self.now in
    let m = c.args.moment in
    let values = c.args.auto.now in
    let n = c.in-Some.folder in
    let number = c.in-Some-find.template in
    let row = c.in_ok-row.row in
    let at = c.in-Some.ensures.folder in
    let free = lent_some c.auto.result (auto_of (rows_of p) n) c.is_some.result _ c.auto.ensures.found c.is_some.ensures c.if-is_some.false in
    let source = source_found p values.template c.as_str.result.now number c.requires.ready.whole c.as_str.ensures c.in-Some-find.ensures.found in
    let folders = given_folders p.tree.nodes p.objects.quotas row in
    let given = when_given (λ (rows : Vec QuotaRow). IsGiven p row m rows.items) (λ refusal. apply_refusal p row (length folders) ≡ Some refusal) c.in_ok-rows.field-0 c.in-Ok.rows c.in-Ok.is c.in_ok-rows.ensures.given in
    let rows_are = given.rows_are source.row (row_source p m values n number c.requires.ready.whole at free source row c.in_ok-row.ensures folders refl) in
    row_added p m values n number c.requires.ready.whole at free source row c.in_ok-row.ensures folders refl
    c.apply_auto.new.self c.done.new.self c.done.result c.in-Ok.rows.items c.apply_auto.new.self.objects.room c.requires.ready.idle c.requires.ready.after c.requires.ready.in_range given.may rows_are
    c.in_ok-apply_auto-in-Ok.ensures.applied c.done.ensures.ended c.done.ensures.answer

pub returns-in-Err-clause-ok : goal.returns-in-Err-clause-ok
returns-in-Err-clause-ok g c =
    let p = c.args.self.now in
    let m = c.args.moment in
    let values = c.args.auto.now in
    let n = c.in-Some.folder in
    let number = c.in-Some-find.template in
    let row = c.in_ok-row.row in
    let at = c.in-Some.ensures.folder in
    let free = lent_some c.auto.result (auto_of (rows_of p) n) c.is_some.result _ c.auto.ensures.found c.is_some.ensures c.if-is_some.false in
    let source = source_found p values.template c.as_str.result.now number c.requires.ready.whole c.as_str.ensures c.in-Some-find.ensures.found in
    let folders = given_folders p.tree.nodes p.objects.quotas row in
    let refusal = c.in-Err.refusal in
    let due = when_refused (λ (rows : Vec QuotaRow). IsGiven p row m rows.items) (λ refusal. apply_refusal p row (length folders) ≡ Some refusal) c.in_ok-rows.field-0 refusal c.in-Err.is c.in_ok-rows.ensures.given in
    refused_as p m (Autoquota (AutoquotaAdd values)) c.refused-in-Err.result refusal c.requires.ready.idle c.requires.ready.after
    (row_due p m values n number c.requires.ready.whole at free source row c.in_ok-row.ensures folders refl ∙ due)
    (apply_bare p row (length folders) refusal due) c.refused-in-Err.ensures

pub returns-in_err-row-clause-memory : goal.returns-in_err-row-clause-memory
returns-in_err-row-clause-memory g c = on_err _ (folder_wants c.args.self.now.tree.nodes c.args.auto.now.path c.in-Some.folder c.in-Some.ensures.folder)

pub returns-in_err-rows-clause-memory : goal.returns-in_err-rows-clause-memory
returns-in_err-rows-clause-memory g c = on_err _ (folder_wants c.args.self.now.tree.nodes c.args.auto.now.path c.in-Some.folder c.in-Some.ensures.folder)

pub returns-in_err-apply_auto-in-Ok-clause-memory : goal.returns-in_err-apply_auto-in-Ok-clause-memory
returns-in_err-apply_auto-in-Ok-clause-memory g c = on_err _ (folder_wants c.args.self.now.tree.nodes c.args.auto.now.path c.in-Some.folder c.in-Some.ensures.folder)
