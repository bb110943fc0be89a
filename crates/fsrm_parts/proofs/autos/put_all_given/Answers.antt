use Rattle.std.proofs.Common.{ℕ, ◌&&◌, ◌++◌, ◌∙◌, Bool, List, ap, append_assoc, length, length-append, subst, sym, arith}
use Rattle.std.specs.Prelude.{filter}
use Rattle.fsrm_model.specs.nodes.Tree.{is_folder}
use Rattle.fsrm_parts.specs.Applying.{gets_one}
use Rattle.fsrm_parts.specs.Walk.{AreThere}
use Rattle.fsrm_parts.proofs.applied.EligibleFolders.{filter-append}
use Rattle.fsrm_parts.proofs.walks.WalkLaws.{there-back, there-front}
use Rattle.fsrm_parts.proofs.autos.put_all_given.Goals as goal

pub put_given-requires : goal.put_given-requires
put_given-requires g c =
    there-front c.args.tree.now.nodes c.in-Some.siblings c.next.new.self (subst (AreThere c.args.tree.now.nodes) c.in-Some.ensures.lent c.loop-siblings.invariant.there)

pub loop-siblings-preserved : goal.loop-siblings-preserved
loop-siblings-preserved g c =
    let nodes = c.args.tree.now.nodes in
    let test : ℕ → Bool = λ child. is_folder nodes child && gets_one nodes c.args.objects.now.quotas c.args.row.now child in
    let siblings = c.in-Some.siblings in
    let rest = c.next.new.self in
    let folders = c.loop-siblings.folders.items in
    record {
      there = there-back nodes siblings rest (subst (AreThere nodes) c.in-Some.ensures.lent c.loop-siblings.invariant.there);
      folders =
          ap (λ (ns : List ℕ). ns ++ filter test rest) c.in_ok-put_given.ensures.ok
          ∙ (append_assoc folders (filter test siblings) (filter test rest)
          ∙ (ap (λ (ns : List ℕ). folders ++ ns) (sym (filter-append test siblings rest) ∙ ap (filter test) (sym c.in-Some.ensures.lent)) ∙ c.loop-siblings.invariant.folders));
      looks = omega (arith, c.in-Some.ensures.count, c.loop-siblings.invariant.looks, c.put_given.ensures.looks, ap length c.in-Some.ensures.lent, length-append siblings rest);
    }

pub loop-siblings-smaller : goal.loop-siblings-smaller
loop-siblings-smaller g c = omega (arith, ap length c.in-Some.ensures.lent, length-append c.in-Some.siblings c.next.new.self, c.in-Some.ensures.some)
