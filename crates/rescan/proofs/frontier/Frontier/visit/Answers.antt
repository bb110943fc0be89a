use Rattle.std.proofs.Common.{◌≡◌, Some, None, ◌∙◌, ap, sym, subst, arith}
use Rattle.std.specs.Prelude.{slice_get}
use Rattle.fsrm_base.specs.Numbers.{is_set}
use Rattle.fsrm_model.specs.objects.Scan.{visit}
use Rattle.number_set.specs.Numbers.{Numbers}
use Rattle.number_set.proofs.TakenLaws.{none_taken, taken_is}
use Rattle.rescan.specs.Frontiers.{Follows, Front, unvisited}
use Rattle.rescan.proofs.unvisited.Tops.{tops_of}
use Rattle.rescan.proofs.unvisited.VisitLaws.{next_is, visited_none, visited_some, visited_sum, visited_fields}
use Rattle.rescan.proofs.frontier.Frontier.visit.Goals as goal

pub returns-in_err-folder-clause-visited : goal.returns-in_err-folder-clause-visited
returns-in_err-folder-clause-visited g c =
    let first : slice_get c.args.self.now.tops 0 ≡ None = ap (λ (f : Front). slice_get f.tops 0) (sym c.self.view_is) ∙ (sym c.take_least.ensures.least ∙ c.in_err-folder.was) in
    c.from_residual.ensures ∙ sym (next_is c.args.tree.now c.args.self.now c.requires.stands ∙ first)

pub returns-in_err-folder-clause-follows : goal.returns-in_err-folder-clause-follows
returns-in_err-folder-clause-follows g c =
    let none : slice_get c.self.inside.tops.members 0 ≡ None = sym c.take_least.ensures.least ∙ c.in_err-folder.was in
    let first : slice_get c.args.self.now.tops 0 ≡ None = ap (λ (f : Front). slice_get f.tops 0) (sym c.self.view_is) ∙ none in
    let shown : Numbers → Front = λ t. record { room = record { nodes = t.bound; cluster = c.self.inside.cluster }; folder = c.self.inside.folder; tops = t.members; sum = c.self.inside.sum } in
    subst (λ (f : Front). Follows c.args.self.now f c.args.tree.now (visit c.args.tree.now.nodes (unvisited c.args.tree.now.nodes c.args.self.now)))
    (sym (ap shown (none_taken c.self.inside.tops c.take_least.new.self none c.take_least.ensures.rest) ∙ c.self.view_is))
    (visited_none c.args.tree.now c.args.self.now c.requires.stands first)

pub overflow_add-self : goal.overflow_add-self
overflow_add-self g c =
    let n = c.in_ok-folder.folder in
    let first : slice_get c.args.self.now.tops 0 ≡ Some n = ap (λ (f : Front). slice_get f.tops 0) (sym c.self.view_is) ∙ (sym c.take_least.ensures.least ∙ c.in_ok-folder.was) in
    let most = visited_sum c.args.tree.now c.args.self.now n c.requires.stands first in
    let own : c.self.inside.sum ≡ c.args.self.now.sum = ap (λ (f : Front). f.sum) c.self.view_is in
    omega (arith, most, own, c.enter_children.ensures.bytes, c.enter_children.ensures.small)

pub returns-clause-visited : goal.returns-clause-visited
returns-clause-visited g c =
    let n = c.in_ok-folder.folder in
    let first : slice_get c.args.self.now.tops 0 ≡ Some n = ap (λ (f : Front). slice_get f.tops 0) (sym c.self.view_is) ∙ (sym c.take_least.ensures.least ∙ c.in_ok-folder.was) in
    sym (next_is c.args.tree.now c.args.self.now c.requires.stands ∙ first)

pub returns-clause-follows : goal.returns-clause-follows
returns-clause-follows g c =
    let n = c.in_ok-folder.folder in
    let first : slice_get c.args.self.now.tops 0 ≡ Some n = ap (λ (f : Front). slice_get f.tops 0) (sym c.self.view_is) ∙ (sym c.take_least.ensures.least ∙ c.in_ok-folder.was) in
    visited_some c.args.tree.now c.args.self.now _ n c.requires.stands first
    (visited_fields c.args.tree.now c.args.self.now n c.self.inside.folder c.self.inside.tops c.take_least.new.self c.enter_children.new.set c.self.inside.sum c.enter_children.result c.self.inside.cluster c.self.view_is (taken_is c.self.inside.tops c.take_least.new.self n (ap (λ (f : Front). is_set f.tops) c.self.view_is ∙ (tops_of c.args.tree.now c.args.self.now c.requires.stands).ascending) (sym c.take_least.ensures.least ∙ c.in_ok-folder.was) c.take_least.ensures.rest) c.enter_children.ensures.set c.enter_children.ensures.bytes)
