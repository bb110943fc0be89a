use Rattle.std.proofs.Common.{ℕ, List, [], sym, ap, subst}
use Rattle.std.specs.Prelude.{nat_eq}
use Rattle.fsrm_store.specs.Keeps.{Keeps}
use Rattle.fsrm_store.proofs.ChangeLaws.{nothing_held, still_none}
use Rattle.fsrm_store.proofs.store.Store.change.Goals as goal

pub returns-in_err-image-clause-leaves : goal.returns-in_err-image-clause-leaves
returns-in_err-image-clause-leaves g c kept s =
    let keeps = subst (λ (held : List (List ℕ)). Keeps kept s.head s.bytes s.bodies held c.args.self.now.engine.rows) (nothing_held s c.requires.none) s.keeps in
    c.change_half.ensures.leaves kept s.head s.bytes s.bodies s.stands keeps s.size

pub returns-clause-leaves : goal.returns-clause-leaves
returns-clause-leaves g c kept s =
    let keeps = subst (λ (held : List (List ℕ)). Keeps kept s.head s.bytes s.bodies held c.args.self.now.engine.rows) (nothing_held s c.requires.none) s.keeps in
    c.change_half.ensures.leaves kept s.head s.bytes s.bodies s.stands keeps s.size

pub returns-clause-store : goal.returns-clause-store
returns-clause-store g c kept s =
    let none = nothing_held s c.requires.none in
    let keeps = subst (λ (held : List (List ℕ)). Keeps kept s.head s.bytes s.bodies held c.args.self.now.engine.rows) none s.keeps in
    let h = c.in_ok-image.ensures.store kept s.head s.bytes s.bodies s.stands keeps s.size in
    record {
      head = h.head;
      bytes = h.bytes;
      bodies = [];
      held = [];
      stands = h.stands;
      holding = still_none s.held c.args.self.now.journal c.change_half.new.journal none s.holding c.change_half.ensures.held;
      keeps = h.keeps;
      size = h.size;
      long = h.whole;
      version = ap (λ (n : ℕ). nat_eq n 1) (sym h.version);
    }
