use Rattle.std.proofs.Common.{◌≡◌, false, sym, ◌∙◌, arith}
use Rattle.fsrm_parts.proofs.walks.PlaceLaws.{shown_folder}
use Rattle.fsrm_parts.proofs.walks.WalkLaws.{file_count, file_sum}
use Rattle.fsrm_parts.proofs.moves.moved_bytes.Goals as goal

pub returns-then-not-moving-clause-moved : goal.returns-then-not-moving-clause-moved
returns-then-not-moving-clause-moved g c =
    let v = c.args.tree.now in
    let n = c.args.moving.now.node in
    let file : c.node-file.result.folder ≡ false = sym (shown_folder v.nodes n c.node-file.result c.node-file.ensures.view) ∙ (c.requires.kind ∙ c.if-not-moving.true) in
    let sum = file_sum v.size v.nodes n c.node-file.result c.requires.volume c.node-file.ensures.view file in
    record { few = omega (arith, c.allocated.ensures.space, sum); all = λ h. c.allocated.ensures.space ∙ sym sum }

pub returns-then-not-moving-clause-looks : goal.returns-then-not-moving-clause-looks
returns-then-not-moving-clause-looks g c =
    let v = c.args.tree.now in
    let n = c.args.moving.now.node in
    let file : c.node-file.result.folder ≡ false = sym (shown_folder v.nodes n c.node-file.result c.node-file.ensures.view) ∙ (c.requires.kind ∙ c.if-not-moving.true) in
    omega (arith, c.node-file.ensures.count, file_count v.size v.nodes n c.node-file.result c.requires.volume c.node-file.ensures.view file)
