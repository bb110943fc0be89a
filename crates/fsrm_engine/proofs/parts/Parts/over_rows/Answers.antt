use Rattle.std.proofs.Common.{length, ap, sym, ◌∙◌, subst, arith}
use Rattle.fsrm_model.specs.store.Capacities.{is_capacity}
use Rattle.fsrm_model.specs.store.Valid.{IsVolume}
use Rattle.volume_tree.specs.Volume.{Volume}
use Rattle.fsrm_engine.specs.declared.parts.Parts.{Parts}
use Rattle.fsrm_engine.specs.Machine.{bare}
use Rattle.fsrm_engine.specs.Restored.{idle_scans, restored}
use Rattle.fsrm_engine.proofs.parts.Parts.over_rows.Goals as goal

pub take_rows-requires-clause-nodes : goal.take_rows-requires-clause-nodes
take_rows-requires-clause-nodes g c = ap (λ (p : Parts). p.tree.nodes) c.in-Ok.ensures ∙ c.requires.nodes

pub take_rows-requires-clause-volume : goal.take_rows-requires-clause-volume
take_rows-requires-clause-volume g c =
    subst (λ (p : Parts). IsVolume p.tree.size p.tree.nodes) (sym c.in-Ok.ensures) c.requires.volume

pub take_rows-requires-clause-legal : goal.take_rows-requires-clause-legal
take_rows-requires-clause-legal g c = ap (λ (p : Parts). is_capacity p.tree.size) c.in-Ok.ensures ∙ c.requires.legal

pub take_rows-requires-clause-none : goal.take_rows-requires-clause-none
take_rows-requires-clause-none g c =
    c.in-Ok.ensures ∙ ap (λ (t : Volume). bare t (idle_scans t.size)) (sym (ap (λ (p : Parts). p.tree) c.in-Ok.ensures))

pub returns-clause-ok : goal.returns-clause-ok
returns-clause-ok g c =
    c.in_ok-take_rows.ensures.ok ∙ ap (λ (p : Parts). restored p.tree c.args.rows.now) c.in-Ok.ensures

pub returns-clause-looks : goal.returns-clause-looks
returns-clause-looks g c =
    omega (arith, c.take_rows.ensures.looks, ap (λ (p : Parts). length p.tree.nodes) c.in-Ok.ensures)
