use Rattle.std.proofs.Common.{◌∙◌, ap}
use Rattle.std.specs.List.{list_all}
use Rattle.fsrm_model.specs.values.Name.{is_name}
use Rattle.fsrm_model.specs.meaning.PathNames.{parts_of, left}
use Rattle.fsrm_model.proofs.path.Path.names.Goals as goal

pub returns-clause-names : goal.returns-clause-names
unfolding left
returns-clause-names c = ap parts_of c.as_str.ensures.value ∙ c.self.view_is

pub returns-clause-valid : goal.returns-clause-valid
unfolding left
returns-clause-valid c = ap (λ text. list_all is_name (parts_of text)) c.as_str.ensures.value ∙ c.self.invariant.0
