use Rattle.std.proofs.Common.{◌≡◌, ℕ, ◌+◌, ◌<◌, ◌++◌, ◌∙◌, List, [], ◌∷◌, length, take, get_or, append_assoc, sym, ap, arith}
use Rattle.std.proofs.lemmas.List.{take_more}
use Rattle.std.proofs.lemmas.List.Elements.{filter-append}
use Rattle.std.proofs.lemmas.List.Sums.{sum_by-append, sum_by-cons}
use Rattle.std.specs.Prelude.{sum_by}
use Rattle.fsrm_model.specs.nodes.Tree.{is_folder}
use Rattle.rescan.specs.Visits.{folders_among, space_of}
use Rattle.rescan.proofs.unvisited.EnterLaws.{front_small}
use Rattle.fsrm_parts.proofs.applied.EligibleFolders.{there_at}
use Rattle.fsrm_parts.proofs.usage.put_all.Goals as goal

pub put_one-requires : goal.put_one-requires
put_one-requires g c = there_at c.args.tree.now.nodes c.args.siblings.now c.loop-place.place c.number.result c.requires.there c.number.ensures (omega arith)

pub overflow_add-bytes : goal.overflow_add-bytes
overflow_add-bytes g c =
    let f : ℕ → ℕ = space_of c.args.tree.now.size c.args.tree.now.nodes in
    let numbers = c.args.siblings.now in
    let k = c.loop-place.place in
    let below : k < length numbers = omega arith in
    let own = c.in_ok-bytes.ensures.sum in
    let same = ap f c.number.ensures in
    omega (arith, front_small c.args.tree.now.size c.args.tree.now.nodes numbers k below, c.loop-place.invariant.sum, own, same, sum_by-cons f (get_or numbers k 0) [], c.requires.small)

pub loop-place-preserved : goal.loop-place-preserved
loop-place-preserved g c =
    let nodes = c.args.tree.now.nodes in
    let f : ℕ → ℕ = space_of c.args.tree.now.size nodes in
    let numbers = c.args.siblings.now in
    let k = c.loop-place.place in
    let n = c.number.result in
    let old = c.args.pending.now.items in
    let below : k < length numbers = omega arith in
    let more : take (k + 1) numbers ≡ take k numbers ++ n ∷ [] = take_more numbers k 0 below ∙ ap (λ (m : ℕ). take k numbers ++ m ∷ []) (sym c.number.ensures) in
    record {
      sum = omega (arith, c.loop-place.invariant.sum, c.in_ok-bytes.ensures.sum, ap (sum_by f) more, sum_by-append f (take k numbers) (n ∷ []), sum_by-cons f n []);
      folders =
          c.in_ok-bytes.ensures.folders
          ∙ (ap (λ (ns : List ℕ). ns ++ folders_among nodes (n ∷ [])) c.loop-place.invariant.folders
          ∙ (append_assoc old (folders_among nodes (take k numbers)) (folders_among nodes (n ∷ []))
          ∙ ap (λ (ns : List ℕ). old ++ ns) (sym (filter-append (is_folder nodes) (take k numbers) (n ∷ [])) ∙ ap (folders_among nodes) (sym more))));
      looks = omega (arith, c.loop-place.invariant.looks, c.put_one.ensures.count);
    }
