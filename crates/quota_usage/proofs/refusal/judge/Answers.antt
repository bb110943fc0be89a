use Rattle.std.proofs.Common.{ℕ, ◌+◌, ◌<◌, ◌^◌, sym, ◌∙◌, subst, rules}
use Rattle.quota_usage.proofs.Refusals.{uncounted, passed_at, unrisen_at, refused_at}
use Rattle.quota_usage.proofs.refusal.judge.Goals as goal

pub returns-in_default : goal.returns-in_default
returns-in_default c = sym (uncounted _ c.args.counters.now c.args.minus c.args.plus c.args.folder (sym c.used.ensures ∙ c.in_default.is))

pub overflow_add-would : goal.overflow_add-would
overflow_add-would c =
    let fits = c.requires _ (sym c.in-Some.ensures) in
    let small : c.saturating_sub.result + c.args.plus < 2 ^ 64 = subst (λ (n : ℕ). n + c.args.plus < 2 ^ 64) (sym c.saturating_sub.ensures) fits in
    search rules

pub returns-then-would-before : goal.returns-then-would-before
returns-then-would-before c =
    unrisen_at c.args.objects.now.quotas c.args.counters.now c.args.minus c.args.plus c.args.folder c.in-Some.before c.saturating_sub.result
    (sym c.in-Some.ensures) c.saturating_sub.ensures c.if-would-before.true

pub returns-then-not-refuses : goal.returns-then-not-refuses
returns-then-not-refuses c =
    passed_at c.args.objects.now.quotas c.args.counters.now c.args.minus c.args.plus c.args.folder c.in-Some.before c.saturating_sub.result c.in-Some-quota.quota.now
    (sym c.in-Some-quota.ensures) (sym c.in-Some.ensures) c.saturating_sub.ensures
    (sym c.refuses.ensures ∙ c.if-not-refuses.true)

pub returns : goal.returns
returns c =
    refused_at c.args.objects.now.quotas c.args.counters.now c.args.minus c.args.plus c.args.folder c.in-Some.before c.saturating_sub.result c.in-Some-quota.quota.now
    (sym c.in-Some-quota.ensures) (sym c.in-Some.ensures) c.saturating_sub.ensures
    (sym c.refuses.ensures ∙ c.if-not-refuses.false)
