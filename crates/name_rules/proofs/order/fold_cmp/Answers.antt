use Rattle.std.proofs.Common.{◌≤◌, ◌<◌, length, drop, get_or, ap, sym, ◌∙◌, arith}
use Rattle.fsrm_model.specs.values.Name.{name_cmp}
use Rattle.name_rules.specs.Fronts.{HasSameFront}
use Rattle.name_rules.proofs.Fronts.{name_cmp_past_front, may_cut, may_cut_other, one_more, alike_by_order, they_end, they_part}
use Rattle.name_rules.proofs.order.fold_cmp.Goals as goal
use Rattle.name_rules.proofs.order.fold_cmp.Goals.{then-loop-front-test+else-front-theirs, else-loop-front-test}

pub range_from-requires : goal.range_from-requires
range_from-requires c = λ _.
    may_cut c.args.a.now c.args.b.now _ (rw (c.as_bytes-ours.ensures.value, c.as_bytes-theirs.ensures.value) at c.loop-front.invariant) c.utf8.a

pub range_from-requires-then-not-are_ascii : goal.range_from-requires-then-not-are_ascii
range_from-requires-then-not-are_ascii c = λ _.
    may_cut_other c.args.a.now c.args.b.now _ (rw (c.as_bytes-ours.ensures.value, c.as_bytes-theirs.ensures.value) at c.loop-front.invariant) c.utf8.b

pub returns-then-not-are_ascii : goal.returns-then-not-are_ascii
returns-then-not-are_ascii c =
    let count = c.loop-front.front in
    let front : HasSameFront c.args.a.now c.args.b.now count = rw (c.as_bytes-ours.ensures.value, c.as_bytes-theirs.ensures.value) at c.loop-front.invariant in
    c.cmp_characters.ensures
    ∙ ap (λ text. name_cmp text c.range_from-then-not-are_ascii.result.now) c.range_from.ensures.value
    ∙ ap (name_cmp (drop count c.args.a.now)) c.range_from-then-not-are_ascii.ensures.value
    ∙ sym (name_cmp_past_front c.args.a.now c.args.b.now count front)

pub loop-front-preserved : goal.loop-front-preserved
loop-front-preserved c =
    let ours = c.as_bytes-ours.result.now in
    let theirs = c.as_bytes-theirs.result.now in
    let front = c.loop-front.front in
    one_more ours theirs front c.loop-front.invariant c.loop-front-test.true c.if-front-theirs.true
    (alike_by_order (get_or ours front 0) (get_or theirs front 0) (sym c.are_ascii.ensures ∙ c.if-not-are_ascii.false) (sym c.cmp_lower.ensures ∙ c.in-Equal.is))

pub returns-in_default : goal.returns-in_default
returns-in_default c =
    c.cmp_lower.ensures
    ∙ sym (they_part c.as_bytes-ours.result.now c.as_bytes-theirs.result.now c.loop-front.front c.loop-front.invariant c.loop-front-test.true c.if-front-theirs.true (sym c.are_ascii.ensures ∙ c.if-not-are_ascii.false) (λ equal. c.in_default.not-Equal (c.cmp_lower.ensures ∙ equal)))
    ∙ ap (λ text. name_cmp text c.as_bytes-theirs.result.now) c.as_bytes-ours.ensures.value
    ∙ ap (name_cmp c.args.a.now) c.as_bytes-theirs.ensures.value

pub returns : goal.returns
returns c =
    let ours = c.as_bytes-ours.result.now in
    let theirs = c.as_bytes-theirs.result.now in
    let end : c.loop-front.front < length ours → length theirs ≤ c.loop-front.front = λ more. elim c.loop-front-test.branch [
      | then-loop-front-test+else-front-theirs w ↦ omega (arith, w.if-front-theirs)
      | else-loop-front-test w ↦ omega (arith, w.loop-front-test, more)
    ] in
    c.cmp.ensures
    ∙ sym (they_end ours theirs c.loop-front.front c.loop-front.invariant c.as_bytes-ours.ensures.utf8 c.as_bytes-theirs.ensures.utf8 end)
    ∙ ap (λ text. name_cmp text theirs) c.as_bytes-ours.ensures.value
    ∙ ap (name_cmp c.args.a.now) c.as_bytes-theirs.ensures.value
