use Rattle.std.proofs.Common.{sym, ◌∙◌, ap, subst, length, arith}
use Rattle.fsrm_outside.specs.Parts.{part_of, other}
use Rattle.fsrm_outside.specs.declared.traits.Part.{Part}
use Rattle.fsrm_journal.specs.Sight.{Sees}
use Rattle.store_vectors.proofs.crashes.opened.Goals as goal

pub returns-clause-place : goal.returns-clause-place
returns-clause-place g c x told =
    let read = sym c.next.ensures.reads ∙ told in
    let first = c.in_ok-journal.ensures.sees x (sym c.open_at.ensures.reads ∙ (sym c.read_image.ensures.reads ∙ read)) in
    let sees = c.read_image.ensures.sees _ first in
    let same = subst (λ (r : Part). Sees (part_of r x) c.read_image.new.self) (sym c.read_image.ensures.same.ruling) sees in
    c.in_ok-next.ensures.ready x read same c.in-None.is x told

pub returns-clause-beside : goal.returns-clause-beside
returns-clause-beside g c x told =
    let read = sym c.next.ensures.reads ∙ told in
    let b = c.in_ok-journal.ensures.beside x (sym c.open_at.ensures.reads ∙ (sym c.read_image.ensures.reads ∙ read)) in
    let ruling = c.next.ensures.same.ruling ∙ c.read_image.ensures.same.ruling in
    omega (arith, b, ap (λ (r : Part). length (part_of (other r) x)) ruling)
