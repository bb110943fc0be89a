use Rattle.record_fields.proofs.StandingLaws.{standing_exact, standing_field_places, standing_places}
use Rattle.record_fields.proofs.laws.standing_values.Goals as goal

pub returns-clause-exact : goal.returns-clause-exact
returns-clause-exact g c = λ law.
    let s = g.S.Standing in
    standing_exact s.known s.back s.may s.format law c.requires.there c.requires.home

pub returns-clause-places : goal.returns-clause-places
returns-clause-places g c = λ law all.
    let s = g.S.Standing in
    standing_places s.known s.back s.may s.format law c.requires.there c.requires.home all

pub returns-clause-field : goal.returns-clause-field
returns-clause-field g c = λ law is x may legal.
    let s = g.S.Standing in
    standing_field_places s.known s.back s.may s.format law is c.requires.there c.requires.home x may legal
