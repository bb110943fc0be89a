use Rattle.std.proofs.Common.{◌≡◌, sym, ◌∙◌, ap}
use Rattle.volume_tree.specs.Kept.{rows_of}
use Rattle.volume_tree.specs.Volume.{Volume, new_fault}
use Rattle.volume_tree.proofs.kept.MakeLaws.{taken_first}
use Rattle.volume_tree.proofs.late.Registers.{volume_apart}
use Rattle.volume_tree.proofs.tree.Tree.may_create.Goals as goal

pub child-requires-clause-apart : goal.child-requires-clause-apart
child-requires-clause-apart g c = volume_apart c.self.inside.size _ c.self.invariant.kept.volume

pub returns-in-Ok-clause-fault : goal.returns-in-Ok-clause-fault
returns-in-Ok-clause-fault g c =
    let i = c.self.inside in
    ap (λ (v : Volume). new_fault v c.args.folder c.args.name.now) (sym c.self.view_is)
    ∙ taken_first (record { size = i.size; nodes = rows_of i.slots.slots }) c.args.folder c.args.name.now _ c.in-Ok.ensures.ok
