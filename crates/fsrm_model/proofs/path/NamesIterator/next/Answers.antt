use Rattle.std.proofs.Common.{◌≡◌, [], length, ap, arith, rules}
use Rattle.std.proofs.lemmas.List.{nil_from_length}
use Rattle.fsrm_model.specs.meaning.PathNames.{parts_of, left}
use Rattle.fsrm_model.proofs.path.NamesIterator.next.Goals as goal

pub returns-then-is_empty-clause-steps : goal.returns-then-is_empty-clause-steps
unfolding left
returns-then-is_empty-clause-steps c =
    let none : c.args.self.now.rest.now ≡ [] = nil_from_length c.args.self.now.rest.now (search rules) in
    (ap parts_of none, ap parts_of none)

pub returns-clause-steps : goal.returns-clause-steps
unfolding left
returns-clause-steps c = c.first_name.ensures

pub returns-clause-goes : goal.returns-clause-goes
unfolding left
returns-clause-goes c =
    record { on = λ _. (tt, tt, omega (arith, ap length c.first_name.ensures)); keeps = tt; rests = λ _. tt }
