use Rattle.std.proofs.Common.{◌≡◌, ◌+◌, ◌-◌, true, sym, ◌∙◌, ap, subst, arith, rules}
use denote.Enum.Bare.{same_true}
use Rattle.fsrm_model.specs.store.Capacities.{is_capacity}
use Rattle.fsrm_model.specs.values.Space.{alloc, rounded}
use Rattle.fsrm_base.proofs.TestLaws.{clash}
use Rattle.rescan.specs.contracts.frontier.Frontier.{the_view}
use Rattle.rescan.specs.contracts.standing.Standing.{the_type as standing_type}
use Rattle.rescan.specs.declared.standing.Standing.TheVariants.{Visited}
use Rattle.rescan.specs.Frontiers.{Front, Follows, sized, unvisited}
use Rattle.rescan.specs.Standings.{standing}
use Rattle.rescan.proofs.counted.ResizeLaws.{IsResized, resized_tree, resized_tops, parent_there, way_up, visited_within, visited_small, visited_follows, other_follows}
use Rattle.rescan.proofs.frontier.Frontier.on_resize.Goals as goal

pub standing-requires-clause-tree : goal.standing-requires-clause-tree
standing-requires-clause-tree g c = resized_tree c.args.tree.now c.args.node c.args.old c.args.self.now c.requires.stands

pub standing-requires-clause-tops : goal.standing-requires-clause-tops
standing-requires-clause-tops g c = resized_tops c.args.tree.now c.args.node c.args.old c.args.self.now c.requires.stands

pub standing-requires-clause-there : goal.standing-requires-clause-there
standing-requires-clause-there g c =
    parent_there c.args.tree.now c.args.node c.args.old c.args.self.now c.node-parent.result (record { shows = c.node-parent.ensures.view; file = c.requires.file; stands = c.requires.stands })

pub overflow_sub-self : goal.overflow_sub-self
overflow_sub-self g c =
    let v = c.args.tree.now in
    let r : IsResized v c.args.node c.args.old c.args.self.now c.node-parent.result = record { shows = c.node-parent.ensures.view; file = c.requires.file; stands = c.requires.stands } in
    let is : c.standing.result ≡ Visited = same_true standing_type (search rules) _ _ (sym c.if-eq.ensures) in
    let stands : standing v.nodes c.args.self.now c.node-parent.result.parent ≡ Visited = sym c.standing.ensures.value ∙ is in
    let sum = ap (λ (f : Front). f.sum) c.self.view_is in
    let same : c.self.inside.cluster ≡ v.size.cluster = ap (λ (f : Front). f.room.cluster) c.self.view_is ∙ sym c.requires.stands.fits.cluster in
    let less : c.allocated.result ≡ alloc v.size c.args.old = c.allocated.ensures.space ∙ ap (λ k. rounded k c.args.old) same in
    omega (arith, sum, less, visited_within v c.args.node c.args.old c.args.self.now c.node-parent.result r stands)

pub overflow_add-self : goal.overflow_add-self
overflow_add-self g c =
    let v = c.args.tree.now in
    let r : IsResized v c.args.node c.args.old c.args.self.now c.node-parent.result = record { shows = c.node-parent.ensures.view; file = c.requires.file; stands = c.requires.stands } in
    let is : c.standing.result ≡ Visited = same_true standing_type (search rules) _ _ (sym c.if-eq.ensures) in
    let stands : standing v.nodes c.args.self.now c.node-parent.result.parent ≡ Visited = sym c.standing.ensures.value ∙ is in
    let legal : is_capacity v.size ≡ true = ap is_capacity (sym c.capacity-size.ensures.size) ∙ c.capacity-size.ensures.legal in
    let sum = ap (λ (f : Front). f.sum) c.self.view_is in
    let same : c.self.inside.cluster ≡ v.size.cluster = ap (λ (f : Front). f.room.cluster) c.self.view_is ∙ sym c.requires.stands.fits.cluster in
    let less : c.allocated.result ≡ alloc v.size c.args.old = c.allocated.ensures.space ∙ ap (λ k. rounded k c.args.old) same in
    let more : c.allocated-then-eq.result ≡ alloc v.size c.args.new = c.allocated-then-eq.ensures.space ∙ ap (λ k. rounded k c.args.new) same in
    omega (arith, sum, less, more, visited_small v c.args.node c.args.old c.args.new c.args.self.now c.node-parent.result r stands c.requires.new legal)

pub returns-then-eq-clause-follows : goal.returns-then-eq-clause-follows
returns-then-eq-clause-follows g c =
    let v = c.args.tree.now in
    let f = c.args.self.now in
    let r : IsResized v c.args.node c.args.old f c.node-parent.result = record { shows = c.node-parent.ensures.view; file = c.requires.file; stands = c.requires.stands } in
    let is : c.standing.result ≡ Visited = same_true standing_type (search rules) _ _ (sym c.if-eq.ensures) in
    let stands : standing v.nodes f c.node-parent.result.parent ≡ Visited = sym c.standing.ensures.value ∙ is in
    let same : c.self.inside.cluster ≡ v.size.cluster = ap (λ (f : Front). f.room.cluster) c.self.view_is ∙ sym c.requires.stands.fits.cluster in
    let less : c.allocated.result ≡ alloc v.size c.args.old = c.allocated.ensures.space ∙ ap (λ k. rounded k c.args.old) same in
    let more : c.allocated-then-eq.result ≡ alloc v.size c.args.new = c.allocated-then-eq.ensures.space ∙ ap (λ k. rounded k c.args.new) same in
    let sum : f.sum - alloc v.size c.args.old + alloc v.size c.args.new ≡ c.self.inside.sum - c.allocated.result + c.allocated-then-eq.result =
    ap (λ s. s - alloc v.size c.args.old + alloc v.size c.args.new) (ap (λ (f : Front). f.sum) (sym c.self.view_is))
    ∙ (ap (λ a. c.self.inside.sum - a + alloc v.size c.args.new) (sym less) ∙ ap (λ b. c.self.inside.sum - c.allocated.result + b) (sym more)) in
    let view : record f { sum = f.sum - alloc v.size c.args.old + alloc v.size c.args.new } ≡ the_view (record c.self.inside { sum = c.self.inside.sum - c.allocated.result + c.allocated-then-eq.result }) =
    ap (λ s. record f { sum = s }) sum ∙ ap (λ (h : Front). record h { sum = c.self.inside.sum - c.allocated.result + c.allocated-then-eq.result }) (sym c.self.view_is) in
    subst (λ h. Follows f h (sized v c.args.node c.args.new) (unvisited v.nodes f)) view (visited_follows v c.args.node c.args.old c.args.new f c.node-parent.result r stands c.requires.new)

pub returns-then-eq-clause-looks : goal.returns-then-eq-clause-looks
returns-then-eq-clause-looks g c =
    let r : IsResized c.args.tree.now c.args.node c.args.old c.args.self.now c.node-parent.result = record { shows = c.node-parent.ensures.view; file = c.requires.file; stands = c.requires.stands } in
    omega (arith, c.node-parent.ensures.count, c.standing.ensures.looks, way_up c.args.tree.now c.args.node c.args.old c.args.self.now c.node-parent.result r)

pub returns-else-eq-clause-follows : goal.returns-else-eq-clause-follows
returns-else-eq-clause-follows g c =
    let v = c.args.tree.now in
    let f = c.args.self.now in
    let r : IsResized v c.args.node c.args.old f c.node-parent.result = record { shows = c.node-parent.ensures.view; file = c.requires.file; stands = c.requires.stands } in
    other_follows v c.args.node c.args.old c.args.new f c.node-parent.result r
    (λ h.
    let is : c.standing.result ≡ Visited = c.standing.ensures.value ∙ h in
    let same = rw is at c.eq.ensures in
    clash c.eq.result same c.if-eq.false)
    c.requires.new

pub returns-else-eq-clause-looks : goal.returns-else-eq-clause-looks
returns-else-eq-clause-looks g c =
    let r : IsResized c.args.tree.now c.args.node c.args.old c.args.self.now c.node-parent.result = record { shows = c.node-parent.ensures.view; file = c.requires.file; stands = c.requires.stands } in
    omega (arith, c.node-parent.ensures.count, c.standing.ensures.looks, way_up c.args.tree.now c.args.node c.args.old c.args.self.now c.node-parent.result r)
