use Rattle.std.proofs.Common.{◌∙◌, ◌-◌, ap}
use Rattle.fsrm_modes.proofs.Cutting.{hold_more}
use Rattle.fsrm_modes.proofs.lines.hold.Goals as goal

pub returns : goal.returns
returns c = record {
  ok = λ short. hold_more c.args.held.now.items c.args.bytes.now c.extend_from_slice.new.self.items c.saturating_sub-room.result c.min.result short (c.saturating_sub-room.ensures ∙ ap (λ n. 65538 - n) (c.len.ensures ∙ c.args.held.now.ok.0)) c.min.ensures c.in_ok-extend_from_slice.ensures.items;
}
