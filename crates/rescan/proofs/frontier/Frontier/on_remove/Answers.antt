use Rattle.std.proofs.Common.{◌≡◌, sym, ◌∙◌, ap, subst}
use Rattle.fsrm_base.specs.Numbers.{without_number}
use Rattle.fsrm_model.specs.nodes.Tree.{number}
use Rattle.fsrm_base.proofs.Look.{has_found}
use Rattle.number_set.specs.Numbers.{Numbers}
use Rattle.volume_tree.specs.Volume.{without_node}
use Rattle.rescan.specs.contracts.frontier.Frontier.{the_view}
use Rattle.rescan.specs.Frontiers.{Front, Follows, unvisited}
use Rattle.rescan.proofs.followed.ChangeLaws.{removed}
use Rattle.rescan.proofs.frontier.Frontier.on_remove.Goals as goal

pub returns : goal.returns
returns c =
    let v = c.args.tree.now in
    let n = c.args.node in
    let f = c.args.self.now in
    let there = has_found number n v.nodes c.requires.there in
    let view : record f { tops = without_number n f.tops } ≡ the_view (record c.self.inside { tops = c.remove.new.self }) =
    ap (λ (g : Front). record g { tops = without_number n g.tops }) (sym c.self.view_is) ∙ ap (λ (tops : Numbers). the_view (record c.self.inside { tops = tops })) (sym c.remove.ensures) in
    record { follows = λ w. subst (λ g. Follows f g (without_node v n) (without_number n (unvisited v.nodes f))) view (removed v n there.row f w there.is c.requires.other c.requires.stands) }
