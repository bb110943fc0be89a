use Rattle.std.proofs.Common.{ap, sym, ◌∙◌}
use Rattle.std.proofs.lemmas.Result.{on_ok_weaker}
use Rattle.std.specs.Option.{option_copied_mut}
use Rattle.fsrm_parts.proofs.tables.ListLaws.{noticed}
use Rattle.fsrm_parts.proofs.threshold_lists.add_notice.Goals as goal

pub returns : goal.returns
returns c =
    let own = c.unwrap-threshold.result.now in
    on_ok_weaker c.append.result
    (noticed c.args.thresholds.now c.place_of.new.thresholds c.args.notice.now c.in_ok-place.place own c.append.new.actions
    c.requires c.in_ok-place.ensures.with c.in_ok-place.ensures.place (sym c.get_mut.ensures.value ∙ ap option_copied_mut c.unwrap-threshold.ensures)) c.append.ensures
