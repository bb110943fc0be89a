use Rattle.std.proofs.Common.{ℕ, ◌++◌, ◌∙◌, List, length, length-append, append_assoc, subst, sym, ap, arith}
use Rattle.std.proofs.lemmas.List.Elements.{filter-append}
use Rattle.std.proofs.lemmas.List.Sums.{sum_by-append}
use Rattle.std.specs.Prelude.{sum_by}
use Rattle.fsrm_model.specs.nodes.Tree.{is_folder}
use Rattle.rescan.specs.Visits.{folders_among, space_of}
use Rattle.fsrm_parts.specs.Walk.{AreThere}
use Rattle.fsrm_parts.proofs.walks.WalkLaws.{there-back, there-front}
use Rattle.fsrm_parts.proofs.usage.put.Goals as goal

pub put_all-requires-clause-there : goal.put_all-requires-clause-there
put_all-requires-clause-there g c =
    there-front c.args.tree.now.nodes c.in-Some.siblings c.next.new.self (subst (AreThere c.args.tree.now.nodes) c.in-Some.ensures.lent c.loop-siblings.invariant.there)

pub put_all-requires-clause-small : goal.put_all-requires-clause-small
put_all-requires-clause-small g c =
    let f : ℕ → ℕ = space_of c.args.tree.now.size c.args.tree.now.nodes in
    omega (arith, c.requires.small, c.loop-siblings.invariant.sum, ap (sum_by f) c.in-Some.ensures.lent, sum_by-append f c.in-Some.siblings c.next.new.self)

pub overflow_add-bytes : goal.overflow_add-bytes
overflow_add-bytes g c =
    let f : ℕ → ℕ = space_of c.args.tree.now.size c.args.tree.now.nodes in
    omega (arith, c.requires.small, c.loop-siblings.invariant.sum, c.in_ok-bytes.ensures.sum, ap (sum_by f) c.in-Some.ensures.lent, sum_by-append f c.in-Some.siblings c.next.new.self)

pub loop-siblings-preserved : goal.loop-siblings-preserved
loop-siblings-preserved g c =
    let nodes = c.args.tree.now.nodes in
    let f : ℕ → ℕ = space_of c.args.tree.now.size nodes in
    let pending = c.loop-siblings.pending.items in
    let numbers = c.in-Some.siblings in
    let rest = c.next.new.self in
    let lent = c.in-Some.ensures.lent in
    record {
      there = there-back nodes numbers rest (subst (AreThere nodes) lent c.loop-siblings.invariant.there);
      sum = omega (arith, c.loop-siblings.invariant.sum, c.in_ok-bytes.ensures.sum, ap (sum_by f) lent, sum_by-append f numbers rest);
      folders =
          ap (λ (ns : List ℕ). ns ++ folders_among nodes rest) c.in_ok-bytes.ensures.folders
          ∙ (append_assoc pending (folders_among nodes numbers) (folders_among nodes rest)
          ∙ (ap (λ (ns : List ℕ). pending ++ ns) (sym (filter-append (is_folder nodes) numbers rest) ∙ ap (folders_among nodes) (sym lent)) ∙ c.loop-siblings.invariant.folders));
      looks = omega (arith, c.in-Some.ensures.count, c.in_ok-bytes.ensures.count, c.loop-siblings.invariant.looks, ap length lent, length-append numbers rest);
    }

pub loop-siblings-smaller : goal.loop-siblings-smaller
loop-siblings-smaller g c = omega (arith, ap length c.in-Some.ensures.lent, length-append c.in-Some.siblings c.next.new.self, c.in-Some.ensures.some)
