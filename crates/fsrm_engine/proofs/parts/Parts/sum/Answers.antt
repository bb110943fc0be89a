use Rattle.std.proofs.Common.{◌≡◌, ℕ, not, false, Option, Some, [], ◌∷◌, refl, ap, sym, ◌∙◌}
use Rattle.std.specs.Prelude.{is_some}
use Rattle.fsrm_model.specs.declared.command.Deed.TheVariants.{Usage}
use Rattle.fsrm_model.specs.declared.command.Outcome.TheVariants.{Sum}
use Rattle.fsrm_model.specs.declared.command.Refusal.TheVariants.{PathNotFound}
use Rattle.fsrm_model.specs.commands.Check.{◌when◌, first}
use Rattle.fsrm_model.specs.nodes.Tree.{resolve, usage}
use Rattle.fsrm_model.proofs.nodes.Resolves.{resolved}
use Rattle.fsrm_parts.proofs.tables.AnswerLaws.{on_err}
use Rattle.fsrm_parts.proofs.walks.PlaceLaws.{leads_to_folder_is, target_is}
use Rattle.fsrm_engine.proofs.steps.StepLaws.{told_as}
use Rattle.fsrm_engine.proofs.parts.Parts.sum.Goals as goal

pub usage_of-requires-clause-there : goal.usage_of-requires-clause-there
usage_of-requires-clause-there g c =
    (resolved c.args.self.now.tree.size c.args.self.now.tree.nodes c.args.path.now c.in-Some.node c.requires.ready.whole.sound.counted.volume (sym c.resolve.ensures.value ∙ c.in-Some.is)).has

pub returns-clause-ok : goal.returns-clause-ok
returns-clause-ok g c =
    let p = c.args.self.now in
    let K = p.tree.size in
    let nodes = p.tree.nodes in
    let node = c.in-Some.node in
    let leads_there : resolve nodes c.args.path.now ≡ Some node = sym c.resolve.ensures.value ∙ c.in-Some.is in
    told_as p c.args.moment (Usage c.args.path.now) c.passing.result c.requires.ready.idle c.requires.ready.after
    (ap (λ (there : Option ℕ). first ((PathNotFound when not (is_some there)) ∷ [])) leads_there)
    refl refl
    (c.passing.ensures
    ∙ (ap (λ (bytes : ℕ). record { outcome = Sum node bytes; lasting = false }) c.in_ok-bytes.ensures.sum
    ∙ ap (λ (k : ℕ). record { outcome = Sum k (usage K nodes k); lasting = false }) (sym (target_is nodes c.args.path.now node leads_there))))

pub returns-in_err-bytes-clause-memory : goal.returns-in_err-bytes-clause-memory
returns-in_err-bytes-clause-memory g c =
    on_err c.from_residual.result (leads_to_folder_is c.args.self.now.tree.nodes c.args.path.now c.in-Some.node (sym c.resolve.ensures.value ∙ c.in-Some.is) ∙ c.in_err-bytes.ensures.memory)
