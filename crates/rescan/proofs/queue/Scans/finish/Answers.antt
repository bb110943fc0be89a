use Rattle.std.proofs.Common.{◌≡◌, ℕ, ◌<◌, true, Option, Some, sym, ◌∙◌, ap, subst, arith}
use Rattle.std.specs.Prelude.{is_some, unwrap_or}
use Rattle.fsrm_base.specs.Numbers.{is_in, without_number}
use Rattle.fsrm_model.specs.objects.QuotaStates.{head}
use Rattle.fsrm_model.specs.nodes.Tree.{usage}
use Rattle.rescan.specs.Frontiers.{Front}
use Rattle.rescan.specs.Beginnings.{Begins}
use Rattle.rescan.specs.Courses.{Course, Scanning, Turns}
use Rattle.rescan.proofs.queued.Queues.{in_left, first_in}
use Rattle.rescan.proofs.queued.Turning.{at_head, head_removed, kept_next, turned_next}
use Rattle.rescan.proofs.queue.Scans.finish.Goals as goal

pub begin-requires-clause-room : goal.begin-requires-clause-room
begin-requires-clause-room c folder e =
    let some : is_some (head c.self.inside.queue.items) ≡ true = ap (λ (k : Course). is_some (head k.queue)) c.self.view_is ∙ c.requires.active in
    let gone : ℕ = unwrap_or (head c.self.inside.queue.items) 0 in
    let less : c.remove.new.self.items ≡ without_number gone c.self.inside.queue.items = c.remove.ensures.items ∙ head_removed c.self.inside.queue.items c.self.invariant.kept.once some in
    let first : head c.remove.new.self.items ≡ Some folder = ap head (sym c.deref.ensures.value) ∙ (sym c.first.ensures.value ∙ (sym c.copied.ensures ∙ e)) in
    subst (λ (f : Front). folder < f.room.nodes) (sym c.finish-used.ensures.idle)
    (c.self.invariant.kept.within folder (in_left gone folder c.self.inside.queue.items (ap (λ ns. is_in ns folder) (sym less) ∙ first_in folder c.remove.new.self.items first)))

pub invariant_of-self : goal.invariant_of-self
invariant_of-self c =
    let some : is_some (head c.self.inside.queue.items) ≡ true = ap (λ (k : Course). is_some (head k.queue)) c.self.view_is ∙ c.requires.active in
    let gone : ℕ = unwrap_or (head c.self.inside.queue.items) 0 in
    let less : c.remove.new.self.items ≡ without_number gone c.self.inside.queue.items = c.remove.ensures.items ∙ head_removed c.self.inside.queue.items c.self.invariant.kept.once some in
    let first : head c.remove.new.self.items ≡ c.copied.result = ap head (sym c.deref.ensures.value) ∙ (sym c.first.ensures.value ∙ sym c.copied.ensures) in
    let begins : Begins c.self.inside.frontier.room (head c.remove.new.self.items) c.begin.new.frontier =
    subst (λ o. Begins c.self.inside.frontier.room o c.begin.new.frontier) (sym first) (subst (λ (f : Front). Begins f.room c.copied.result c.begin.new.frontier) c.finish-used.ensures.idle c.begin.ensures) in
    record {
      kept = kept_next c.self.inside.queue.items c.remove.new.self.items c.self.inside.frontier c.begin.new.frontier gone less c.self.invariant.kept begins;
      memory = omega (arith, c.self.invariant.memory, c.remove.ensures.capacity);
    }

pub returns-clause-used : goal.returns-clause-used
returns-clause-used c v s =
    let old : Scanning v (record { queue = c.self.inside.queue.items; front = c.self.inside.frontier }) = subst (Scanning v) (sym c.self.view_is) s in
    let some : is_some (head c.self.inside.queue.items) ≡ true = ap (λ (k : Course). is_some (head k.queue)) c.self.view_is ∙ c.requires.active in
    c.finish-used.ensures.fresh v (old.stands (ap is_some c.self.invariant.kept.active ∙ some))
    ∙ ap (λ (o : Option ℕ). usage v.size v.nodes (unwrap_or o 0)) (c.self.invariant.kept.active ∙ ap (λ (k : Course). head k.queue) c.self.view_is)

pub returns-clause-queue : goal.returns-clause-queue
returns-clause-queue c =
    let some : is_some (head c.self.inside.queue.items) ≡ true = ap (λ (k : Course). is_some (head k.queue)) c.self.view_is ∙ c.requires.active in
    c.remove.ensures.items ∙ (head_removed c.self.inside.queue.items c.self.invariant.kept.once some
    ∙ ap (λ (k : Course). without_number (unwrap_or (head k.queue) 0) k.queue) c.self.view_is)

pub returns-clause-turns : goal.returns-clause-turns
returns-clause-turns c v s =
    let some : is_some (head c.self.inside.queue.items) ≡ true = ap (λ (k : Course). is_some (head k.queue)) c.self.view_is ∙ c.requires.active in
    let gone = at_head c.self.inside.queue.items some in
    let less : c.remove.new.self.items ≡ without_number gone.folder c.self.inside.queue.items =
    c.remove.ensures.items ∙ (head_removed c.self.inside.queue.items c.self.invariant.kept.once some ∙ ap (λ n. without_number n c.self.inside.queue.items) gone.or_root) in
    let first : head c.remove.new.self.items ≡ c.copied.result = ap head (sym c.deref.ensures.value) ∙ (sym c.first.ensures.value ∙ sym c.copied.ensures) in
    let begins : Begins c.self.inside.frontier.room (head c.remove.new.self.items) c.begin.new.frontier =
    subst (λ o. Begins c.self.inside.frontier.room o c.begin.new.frontier) (sym first) (subst (λ (f : Front). Begins f.room c.copied.result c.begin.new.frontier) c.finish-used.ensures.idle c.begin.ensures) in
    subst (λ (k : Course). Turns k (record { queue = c.remove.new.self.items; front = c.begin.new.frontier }) v) c.self.view_is
    (turned_next v (record { queue = c.self.inside.queue.items; front = c.self.inside.frontier }) c.remove.new.self.items c.begin.new.frontier gone.folder less c.self.invariant.kept.once gone.is begins (subst (Scanning v) (sym c.self.view_is) s))
