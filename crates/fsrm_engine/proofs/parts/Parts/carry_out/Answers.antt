use Rattle.std.proofs.Common.{ap, sym, ◌∙◌}
use Rattle.std.specs.Prelude.{◌&&◌}
use Rattle.fsrm_base.proofs.TestLaws.{both}
use Rattle.fsrm_model.specs.declared.command.Deed.TheVariants.{Reports}
use Rattle.fsrm_model.specs.store.Valid.{is_moment}
use Rattle.fsrm_model.specs.store.Valued.{is_deed, is_short}
use Rattle.fsrm_engine.proofs.parts.Parts.carry_out.Goals as goal

pub operate-requires-clause-valid : goal.operate-requires-clause-valid
operate-requires-clause-valid g c =
    let command = c.args.command.now in
    let values = both (is_moment command.moment) (is_deed command.deed && is_short command.deed) c.requires.valid in
    sym (ap is_deed c.in-File.is) ∙ (both (is_deed command.deed) (is_short command.deed) values.1).0

pub on_reports-requires-clause-valid : goal.on_reports-requires-clause-valid
on_reports-requires-clause-valid g c =
    let command = c.args.command.now in
    let values = both (is_moment command.moment) (is_deed command.deed && is_short command.deed) c.requires.valid in
    ap (λ deed. is_deed (Reports deed)) c.as_ref-in-Reports.ensures
    ∙ (sym (ap is_deed c.in-Reports.is) ∙ (both (is_deed command.deed) (is_short command.deed) values.1).0)
