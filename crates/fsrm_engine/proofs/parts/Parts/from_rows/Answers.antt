use Rattle.std.proofs.Common.{◌≡◌, length, Err, ap, subst, sym, ◌∙◌, arith, rules}
use Rattle.fsrm_base.specs.Keyed.{is_ascending}
use Rattle.fsrm_model.specs.nodes.Tree.{number}
use Rattle.fsrm_model.specs.store.Capacities.{is_capacity}
use Rattle.fsrm_model.specs.store.Valid.{IsVolume}
use Rattle.volume_tree.specs.Volume.{Volume}
use Rattle.volume_tree.specs.declared.answer.RowsFault.{RowsFault}
use Rattle.volume_tree.specs.declared.answer.RowsFault.TheVariants.{BadRows}
use Rattle.fsrm_engine.proofs.steps.RestoredLaws.{made_good, made_machine, made_whole, no_tree, not_fitting, not_kept}
use Rattle.fsrm_engine.proofs.parts.Parts.from_rows.Goals as goal

-- ---- what is refused
pub returns-in_err-tree-clause-bad : goal.returns-in_err-tree-clause-bad
returns-in_err-tree-clause-bad g c h =
    let fault : c.from_residual.result ≡ Err c.in_err-tree.field-0.0 = search rules in
    let bad : c.in_err-tree.field-0.0 ≡ BadRows = cc in
    no_tree c.args.size c.args.rows.now (c.in_err-tree.ensures.bad (ap (λ (f : RowsFault). Err f) bad))

pub are_kept-requires : goal.are_kept-requires
are_kept-requires g c =
    sym (ap (λ (v : Volume). is_ascending number v.nodes) c.in_ok-tree.ensures.ok) ∙ c.in_ok-tree.ensures.kept.ascending

pub returns-then-not-are_kept-clause-bad : goal.returns-then-not-are_kept-clause-bad
returns-then-not-are_kept-clause-bad g c h = not_kept c.args.size c.args.rows.now (sym c.are_kept.ensures ∙ c.if-not-are_kept.true)

-- ---- what is made
pub over_rows-requires-clause-kept : goal.over_rows-requires-clause-kept
over_rows-requires-clause-kept g c = sym c.are_kept.ensures ∙ c.if-not-are_kept.false

pub over_rows-requires-clause-nodes : goal.over_rows-requires-clause-nodes
over_rows-requires-clause-nodes g c = ap (λ (v : Volume). v.nodes) (c.arrange_for_sums.ensures ∙ c.in_ok-tree.ensures.ok)

pub over_rows-requires-clause-volume : goal.over_rows-requires-clause-volume
over_rows-requires-clause-volume g c = subst (λ (v : Volume). IsVolume v.size v.nodes) (sym c.arrange_for_sums.ensures) c.in_ok-tree.ensures.kept

pub over_rows-requires-clause-legal : goal.over_rows-requires-clause-legal
over_rows-requires-clause-legal g c = ap (λ (v : Volume). is_capacity v.size) (c.arrange_for_sums.ensures ∙ c.in_ok-tree.ensures.ok) ∙ c.requires

pub returns-clause-machine : goal.returns-clause-machine
returns-clause-machine g c =
    made_machine c.over_rows.result c.args.size c.args.rows.now c.arrange_for_sums.new.tree (c.arrange_for_sums.ensures ∙ c.in_ok-tree.ensures.ok) (sym c.are_kept.ensures ∙ c.if-not-are_kept.false) c.over_rows.ensures.ok

pub returns-clause-whole : goal.returns-clause-whole
returns-clause-whole g c =
    made_whole c.over_rows.result c.args.size c.args.rows.now c.arrange_for_sums.new.tree (c.arrange_for_sums.ensures ∙ c.in_ok-tree.ensures.ok) c.requires (subst (λ (v : Volume). IsVolume v.size v.nodes) (sym c.arrange_for_sums.ensures) c.in_ok-tree.ensures.kept) c.in_ok-tree.ensures.may (sym c.are_kept.ensures ∙ c.if-not-are_kept.false) c.over_rows.ensures.may c.over_rows.ensures.ok

pub returns-clause-may : goal.returns-clause-may
returns-clause-may g c =
    made_good c.over_rows.result c.args.size c.args.rows.now c.in_ok-tree.ensures.may (sym c.are_kept.ensures ∙ c.if-not-are_kept.false) c.over_rows.ensures.may

pub returns-clause-bad : goal.returns-clause-bad
returns-clause-bad g c h = not_fitting c.args.size c.args.rows.now (c.over_rows.ensures.bad h)

pub returns-clause-looks : goal.returns-clause-looks
returns-clause-looks g c =
    omega (arith, c.over_rows.ensures.looks, ap (λ (v : Volume). length v.nodes) (c.arrange_for_sums.ensures ∙ c.in_ok-tree.ensures.ok))
