use Rattle.std.proofs.Common.{List, ℕ, ◌++◌, refl, ap, ◌∙◌, append_assoc, arith}
use Rattle.image_codec.specs.Sections.{resume}
use Rattle.image_codec.proofs.image_in.ImageIn.hold.Goals as goal

pub returns-clause-reads : goal.returns-clause-reads
returns-clause-reads c =
    let self = c.args.self.now in
    let own = c.args.own.now in
    record {
      len = refl;
      came = omega arith;
      goes_on = λ more. ap (λ (b : List ℕ). resume self.section self.rows self.still (b ++ more)) c.in_ok-extend.ensures.ok
          ∙ ap (resume self.section self.rows self.still) (append_assoc self.held.items own more);
    }
