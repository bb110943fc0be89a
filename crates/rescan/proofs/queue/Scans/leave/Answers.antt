use Rattle.std.proofs.Common.{◌≡◌, ◌<◌, Some, sym, ◌∙◌, ap, subst, arith, rules}
use Rattle.std.proofs.lemmas.Fn.{filter_same}
use Rattle.fsrm_base.specs.Numbers.{is_in, without_number}
use Rattle.fsrm_model.specs.objects.QuotaStates.{head}
use Rattle.quota_usage.proofs.OptionTests.{is_number, no_number}
use Rattle.rescan.specs.Frontiers.{Front}
use Rattle.rescan.specs.Beginnings.{Begins}
use Rattle.rescan.specs.Courses.{Course, Scanning, Turns}
use Rattle.rescan.proofs.queued.Queues.{in_left, first_in}
use Rattle.rescan.proofs.queued.Turning.{kept_next, kept_left, turned_next, unturned_left}
use Rattle.rescan.proofs.queue.Scans.leave.Goals as goal

pub begin-requires-clause-room : goal.begin-requires-clause-room
begin-requires-clause-room c folder e =
    let less : c.retain.new.self.items ≡ without_number c.args.folder c.self.inside.queue.items = filter_same _ _ _ (λ x b f' k. search rules) _ _ c.retain.ensures.filtered in
    let first : head c.retain.new.self.items ≡ Some folder = ap head (sym c.deref.ensures.value) ∙ (sym c.first.ensures.value ∙ (sym c.copied.ensures ∙ e)) in
    subst (λ (f : Front). folder < f.room.nodes) (sym c.drop_scan.ensures)
    (c.self.invariant.kept.within folder (in_left c.args.folder folder c.self.inside.queue.items (ap (λ ns. is_in ns folder) (sym less) ∙ first_in folder c.retain.new.self.items first)))

pub invariant_of-self : goal.invariant_of-self
invariant_of-self c =
    let less : c.retain.new.self.items ≡ without_number c.args.folder c.self.inside.queue.items = filter_same _ _ _ (λ x b f' k. search rules) _ _ c.retain.ensures.filtered in
    let first : head c.retain.new.self.items ≡ c.copied.result = ap head (sym c.deref.ensures.value) ∙ (sym c.first.ensures.value ∙ sym c.copied.ensures) in
    let begins : Begins c.self.inside.frontier.room (head c.retain.new.self.items) c.begin.new.frontier =
    subst (λ o. Begins c.self.inside.frontier.room o c.begin.new.frontier) (sym first) (subst (λ (f : Front). Begins f.room c.copied.result c.begin.new.frontier) c.drop_scan.ensures c.begin.ensures) in
    record {
      kept = kept_next c.self.inside.queue.items c.retain.new.self.items c.self.inside.frontier c.begin.new.frontier c.args.folder less c.self.invariant.kept begins;
      memory = omega (arith, c.self.invariant.memory, c.retain.ensures.capacity);
    }

pub invariant_of-self-else-active : goal.invariant_of-self-else-active
invariant_of-self-else-active c =
    let less : c.retain.new.self.items ≡ without_number c.args.folder c.self.inside.queue.items = filter_same _ _ _ (λ x b f' k. search rules) _ _ c.retain.ensures.filtered in
    record {
      kept = kept_left c.self.inside.queue.items c.retain.new.self.items c.self.inside.frontier c.args.folder less (λ e. no_number c.head.result c.args.folder (sym c.if-active.ensures) (c.head.ensures ∙ (ap (λ (k : Course). head k.queue) (sym c.self.view_is) ∙ e))) c.self.invariant.kept;
      memory = omega (arith, c.self.invariant.memory, c.retain.ensures.capacity);
    }

pub returns-then-active-clause-queue : goal.returns-then-active-clause-queue
returns-then-active-clause-queue c =
    let less : c.retain.new.self.items ≡ without_number c.args.folder c.self.inside.queue.items = filter_same _ _ _ (λ x b f' k. search rules) _ _ c.retain.ensures.filtered in
    less ∙ ap (λ (k : Course). without_number c.args.folder k.queue) c.self.view_is

pub returns-else-active-clause-queue : goal.returns-else-active-clause-queue
returns-else-active-clause-queue c =
    let less : c.retain.new.self.items ≡ without_number c.args.folder c.self.inside.queue.items = filter_same _ _ _ (λ x b f' k. search rules) _ _ c.retain.ensures.filtered in
    less ∙ ap (λ (k : Course). without_number c.args.folder k.queue) c.self.view_is

pub returns-then-active-clause-turns : goal.returns-then-active-clause-turns
returns-then-active-clause-turns c v s =
    let less : c.retain.new.self.items ≡ without_number c.args.folder c.self.inside.queue.items = filter_same _ _ _ (λ x b f' k. search rules) _ _ c.retain.ensures.filtered in
    let first : head c.retain.new.self.items ≡ c.copied.result = ap head (sym c.deref.ensures.value) ∙ (sym c.first.ensures.value ∙ sym c.copied.ensures) in
    let begins : Begins c.self.inside.frontier.room (head c.retain.new.self.items) c.begin.new.frontier =
    subst (λ o. Begins c.self.inside.frontier.room o c.begin.new.frontier) (sym first) (subst (λ (f : Front). Begins f.room c.copied.result c.begin.new.frontier) c.drop_scan.ensures c.begin.ensures) in
    let is : head c.self.inside.queue.items ≡ Some c.args.folder = ap (λ (k : Course). head k.queue) c.self.view_is ∙ (sym c.head.ensures ∙ is_number c.head.result c.args.folder (sym c.if-active.ensures)) in
    subst (λ (k : Course). Turns k (record { queue = c.retain.new.self.items; front = c.begin.new.frontier }) v) c.self.view_is
    (turned_next v (record { queue = c.self.inside.queue.items; front = c.self.inside.frontier }) c.retain.new.self.items c.begin.new.frontier c.args.folder less c.self.invariant.kept.once is begins (subst (Scanning v) (sym c.self.view_is) s))

pub returns-else-active-clause-turns : goal.returns-else-active-clause-turns
returns-else-active-clause-turns c v s =
    let less : c.retain.new.self.items ≡ without_number c.args.folder c.self.inside.queue.items = filter_same _ _ _ (λ x b f' k. search rules) _ _ c.retain.ensures.filtered in
    subst (λ (k : Course). Turns k (record { queue = c.retain.new.self.items; front = c.self.inside.frontier }) v) c.self.view_is
    (unturned_left v (record { queue = c.self.inside.queue.items; front = c.self.inside.frontier }) c.retain.new.self.items c.args.folder less (λ e. no_number c.head.result c.args.folder (sym c.if-active.ensures) (c.head.ensures ∙ (ap (λ (k : Course). head k.queue) (sym c.self.view_is) ∙ e))) (subst (Scanning v) (sym c.self.view_is) s))
