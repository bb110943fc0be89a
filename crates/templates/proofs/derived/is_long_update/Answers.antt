use Rattle.std.proofs.Common.{◌≡◌, ◌+◌, cond, sym, ◌∙◌, ap, drop, arith}
use Rattle.std.proofs.lemmas.List.{drop_all}
use Rattle.std.proofs.lemmas.List.Sums.{sum_by-cons}
use Rattle.std.specs.Prelude.{map}
use Rattle.fsrm_model.specs.objects.Templates.{as_template, updated}
use Rattle.fsrm_model.specs.values.Texts.{quota_bytes, template_bytes, threshold_bytes}
use Rattle.fsrm_objects.specs.Tables.{quota_texts}
use Rattle.templates.proofs.ReachedLaws.{same_texts}
use Rattle.templates.proofs.UpdateLaws.{left_from, lt_moved}
use Rattle.templates.proofs.derived.is_long_update.Goals.{then-is_reached, else-is_reached}
use Rattle.templates.proofs.derived.is_long_update.Goals as goal

pub loop-place-preserved : goal.loop-place-preserved
loop-place-preserved c =
    let quotas = c.args.objects.now.quotas in
    let new = c.args.new.now in
    let change = updated c.args.mode c.args.old.now new in
    let quota = c.quota_at-quota.result.now in
    let rest = drop (c.loop-place.place + 1) quotas in
    let more = c.loop-place.invariant in
    let balance = rw (left_from quotas c.loop-place.place quota c.quota_at-quota.ensures) at more.balance in
    let texts = sum_by-cons quota_bytes quota rest in
    let updates = sum_by-cons quota_bytes (change quota) (map change rest) in
    elim c.if-is_reached.branch [
      | then-is_reached w ↦
          let bytes : quota_bytes (change quota) ≡ threshold_bytes new.thresholds = ap (λ b. quota_bytes (cond b (as_template new quota) quota)) (sym c.is_reached.ensures ∙ w.if-is_reached.true) in
          record {
            balance = omega (arith, balance, texts, updates, bytes, w.before-is, w.after-is, w.from-before.ensures, w.threshold_texts-then-is_reached.ensures, c.from-each.ensures, c.threshold_texts.ensures);
            lost = omega (arith, more.lost, w.before-is);
            gained = omega (arith, more.gained, w.after-is);
          }
      | else-is_reached w ↦
          let bytes : quota_bytes (change quota) ≡ quota_bytes quota = ap (λ b. quota_bytes (cond b (as_template new quota) quota)) (sym c.is_reached.ensures ∙ w.if-is_reached.false) in
          record { balance = omega (arith, balance, texts, updates, bytes, w.before-is, w.after-is); lost = omega (arith, more.lost, w.before-is); gained = omega (arith, more.gained, w.after-is) }
    ]

pub returns : goal.returns
returns c =
    let quotas = c.args.objects.now.quotas in
    let none = drop_all c.loop-place.place quotas (omega (arith, c.quota_count-place-end.ensures.count, c.loop-place-test.false)) in
    lt_moved _ _ (c.args.room + (template_bytes c.args.old.now + quota_texts quotas)) (template_bytes c.args.new.now + quota_texts (map (updated c.args.mode c.args.old.now c.args.new.now) quotas))
    (omega (arith, rw none at c.loop-place.invariant.balance))

pub returns-then-same : goal.returns-then-same
returns-then-same c =
    let quotas = c.args.objects.now.quotas in
    let new = c.args.new.now in
    let change = updated c.args.mode c.args.old.now new in
    let texts = same_texts c.args.mode c.args.old.now new quotas c.requires.new (c.requires.same c.if-same.true) in
    lt_moved _ _ (c.args.room + (template_bytes c.args.old.now + quota_texts quotas)) (template_bytes new + quota_texts (map change quotas))
    (omega (arith, c.from.ensures, c.from-2.ensures, c.from-after.ensures, c.template_texts.ensures, c.template_texts-2.ensures, texts))
