use Rattle.std.proofs.Common.{◌≡◌, ◌<◌, false, None, length, sym, ◌∙◌, ap, subst, arith}
use Rattle.std.proofs.lemmas.Option.{same_Some}
use Rattle.std.specs.Prelude.{is_some}
use Rattle.fsrm_base.specs.Numbers.{is_in}
use Rattle.fsrm_model.specs.values.Limits.{most_quotas}
use Rattle.fsrm_model.specs.objects.QuotaStates.{head}
use Rattle.fsrm_base.proofs.Look.{none_row}
use Rattle.rescan.specs.Courses.{Course, Scanning, Turns}
use Rattle.rescan.proofs.queued.Turning.{kept_pushed, kept_alone, turned_alone, unturned_pushed}
use Rattle.rescan.proofs.queue.Scans.push.Goals as goal

pub begin-requires : goal.begin-requires
begin-requires c =
    let none : is_some (head c.self.inside.queue.items) ≡ false = ap (λ (k : Course). is_some (head k.queue)) c.self.view_is ∙ sym c.if-not-scanning.ensures.active in
    let idle : c.self.inside.frontier.folder ≡ None = c.self.invariant.kept.active ∙ none_row (head c.self.inside.queue.items) none in
    record {
      idle = idle;
      empty = c.self.invariant.kept.idle idle;
      room = λ folder e. subst (λ k. k < c.self.inside.frontier.room.nodes) (same_Some c.args.folder folder e) (subst (λ (k : Course). c.args.folder < k.front.room.nodes) (sym c.self.view_is) c.requires.room);
    }

pub unwrap-requires : goal.unwrap-requires
unwrap-requires c =
    let few : length c.self.inside.queue.items < most_quotas = subst (λ (k : Course). length k.queue < most_quotas) (sym c.self.view_is) c.requires.few in
    let len = c.self.inside.queue.ok.0 in
    c.push.ensures.succeeds (omega (arith, len, few, c.self.invariant.memory))

pub invariant_of-self : goal.invariant_of-self
invariant_of-self c =
    let items = rw c.unwrap.ensures at c.push.ensures.items in
    record {
      kept = kept_alone c.self.inside.queue.items c.push.new.self.items c.self.inside.frontier c.begin.new.frontier c.args.folder items (ap (λ (k : Course). is_some (head k.queue)) c.self.view_is ∙ sym c.if-not-scanning.ensures.active) (subst (λ (k : Course). c.args.folder < k.front.room.nodes) (sym c.self.view_is) c.requires.room) c.begin.ensures;
      memory = omega (arith, c.self.invariant.memory, c.push.ensures.capacity);
    }

pub invariant_of-self-else-not-scanning : goal.invariant_of-self-else-not-scanning
invariant_of-self-else-not-scanning c =
    let items = rw c.unwrap.ensures at c.push.ensures.items in
    record {
      kept = kept_pushed c.self.inside.queue.items c.push.new.self.items c.self.inside.frontier c.args.folder items (ap (λ (k : Course). is_some (head k.queue)) c.self.view_is ∙ sym c.if-not-scanning.ensures.active) (ap (λ (k : Course). is_in k.queue c.args.folder) c.self.view_is ∙ c.requires.absent) (subst (λ (k : Course). c.args.folder < k.front.room.nodes) (sym c.self.view_is) c.requires.room) c.self.invariant.kept;
      memory = omega (arith, c.self.invariant.memory, c.push.ensures.capacity);
    }

pub returns-then-not-scanning-clause-turns : goal.returns-then-not-scanning-clause-turns
returns-then-not-scanning-clause-turns c v s h =
    let items = rw c.unwrap.ensures at c.push.ensures.items in
    subst (λ (k : Course). Turns k (record { queue = c.push.new.self.items; front = c.begin.new.frontier }) v) c.self.view_is
    (turned_alone v (record { queue = c.self.inside.queue.items; front = c.self.inside.frontier }) c.push.new.self.items c.begin.new.frontier c.args.folder items (ap (λ (k : Course). is_some (head k.queue)) c.self.view_is ∙ sym c.if-not-scanning.ensures.active) c.begin.ensures (subst (Scanning v) (sym c.self.view_is) s) h)

pub returns-else-not-scanning-clause-turns : goal.returns-else-not-scanning-clause-turns
returns-else-not-scanning-clause-turns c v s h =
    let items = rw c.unwrap.ensures at c.push.ensures.items in
    subst (λ (k : Course). Turns k (record { queue = c.push.new.self.items; front = c.self.inside.frontier }) v) c.self.view_is
    (unturned_pushed v (record { queue = c.self.inside.queue.items; front = c.self.inside.frontier }) c.push.new.self.items c.args.folder items (ap (λ (k : Course). is_some (head k.queue)) c.self.view_is ∙ sym c.if-not-scanning.ensures.active) (subst (Scanning v) (sym c.self.view_is) s) h)
