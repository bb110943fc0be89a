use Rattle.std.proofs.Common.{◌≡◌, List, length, map, ◌∙◌, ap, sym, subst, arith}
use Rattle.fsrm_base.specs.Keyed.{has_row}
use Rattle.fsrm_model.specs.declared.row.NodeRow.{NodeRow}
use Rattle.fsrm_model.specs.nodes.Tree.{is_under, number}
use Rattle.fsrm_model.proofs.valid.ValidLaws.{folder_has}
use Rattle.file_jobs.specs.Expired.{expired}
use Rattle.file_jobs.specs.Moves.{AreFiles}
use Rattle.file_jobs.proofs.FindLaws.{are_files, chain_few, if_ok, none_expire}
use Rattle.file_jobs.proofs.planning.plan.Goals as goal

pub is_at_or_below-requires : goal.is_at_or_below-requires
is_at_or_below-requires g c = rw c.tree-tree.ensures.nodes (folder_has c.args.engine.now.rows.nodes c.args.from c.requires.from)

pub returns-then-is_at_or_below-clause-planned : goal.returns-then-is_at_or_below-clause-planned
returns-then-is_at_or_below-clause-planned g c =
    let nodes = c.args.engine.now.rows.nodes in
    c.new.ensures.items
    ∙ sym (none_expire c.args.engine.now.size nodes c.args.from c.args.to c.args.expiry.now c.tree-tree.ensures.volume (folder_has nodes c.args.from c.requires.from)
    (sym (c.if-is_at_or_below.ensures.below ∙ ap (λ (ns : List NodeRow). is_under ns c.args.to c.args.from) c.tree-tree.ensures.nodes)))

pub returns-then-is_at_or_below-clause-looks : goal.returns-then-is_at_or_below-clause-looks
returns-then-is_at_or_below-clause-looks g c =
    omega (arith, c.is_at_or_below.ensures.looks, chain_few c.tree-tree.result.now.nodes c.args.from, ap (λ (ns : List NodeRow). length ns) c.tree-tree.ensures.nodes)

pub find-requires-clause-from : goal.find-requires-clause-from
find-requires-clause-from g c =
    ap (λ (ns : List NodeRow). has_row number c.args.from ns) c.tree-tree.ensures.nodes ∙ folder_has c.args.engine.now.rows.nodes c.args.from c.requires.from

pub returns-in_err-found-clause-looks : goal.returns-in_err-found-clause-looks
returns-in_err-found-clause-looks g c =
    omega (arith, c.find.ensures.looks, c.is_at_or_below.ensures.looks, chain_few c.tree-tree.result.now.nodes c.args.from, ap (λ (ns : List NodeRow). length ns) c.tree-tree.ensures.nodes)

pub returns-clause-files : goal.returns-clause-files
returns-clause-files g c =
    let nodes = c.args.engine.now.rows.nodes in
    let same : c.in_ok-found.found.members ≡ map number (expired nodes c.args.from c.args.to c.args.expiry.now) =
    c.in_ok-found.ensures.found ∙ ap (λ (ns : List NodeRow). map number (expired ns c.args.from c.args.to c.args.expiry.now)) c.tree-tree.ensures.nodes in
    if_ok c.members.result (λ numbers. numbers.items ≡ c.in_ok-found.found.members) (λ numbers. AreFiles nodes numbers.items)
    (λ numbers is. subst (AreFiles nodes) (sym (is ∙ same)) (are_files nodes c.args.from c.args.to c.args.expiry.now c.tree-tree.ensures.volume.ascending))
    c.members.ensures

pub returns-clause-looks : goal.returns-clause-looks
returns-clause-looks g c =
    omega (arith, c.find.ensures.looks, c.is_at_or_below.ensures.looks, chain_few c.tree-tree.result.now.nodes c.args.from, ap (λ (ns : List NodeRow). length ns) c.tree-tree.ensures.nodes)
