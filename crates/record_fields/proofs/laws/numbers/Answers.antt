use Rattle.record_fields.proofs.NumberLaws.{number_field, number_places, width_1, width_2, width_4, width_8}
use Rattle.record_fields.proofs.laws.numbers.Goals as goal

pub returns-clause-one : goal.returns-clause-one
returns-clause-one c = number_places 1 width_1

pub returns-clause-two : goal.returns-clause-two
returns-clause-two c = number_places 2 width_2

pub returns-clause-four : goal.returns-clause-four
returns-clause-four c = number_places 4 width_4

pub returns-clause-eight : goal.returns-clause-eight
returns-clause-eight c = number_places 8 width_8

pub returns-clause-field : goal.returns-clause-field
returns-clause-field c = number_field
