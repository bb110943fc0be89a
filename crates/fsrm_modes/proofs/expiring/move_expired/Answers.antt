use Rattle.std.proofs.Common.{◌+◌, ◌*◌, ◌≤◌, List, length, ◌∙◌, ap, arith, subst, sym}
use Rattle.std.specs.Prelude.{map, MatchResult}
use Rattle.fsrm_engine.specs.Machine.{Machine}
use Rattle.fsrm_model.specs.declared.row.NodeRow.{NodeRow}
use Rattle.fsrm_model.specs.nodes.FileOps.{target}
use Rattle.fsrm_model.specs.nodes.Leads.{leads_to_folder}
use Rattle.fsrm_model.specs.nodes.Tree.{number}
use Rattle.fsrm_session.specs.Members.{members}
use Rattle.fsrm_store.specs.Amortized.{bytes_since}
use Rattle.fsrm_session.specs.Spending.{bytes_after, Spends}
use Rattle.fsrm_session.specs.Turns.{Turn}
use Rattle.fsrm_session.specs.Underway.{Goes, Stops}
use Rattle.fsrm_session.proofs.Object.{laws_of}
use Rattle.file_jobs.specs.Expired.{expired}
use Rattle.fsrm_session.proofs.Spending.{spends_less, spends_nothing}
use Rattle.fsrm_modes.specs.Expiry.{expire_cost, expire_turns, files_cost, files_turns}
use Rattle.fsrm_modes.proofs.Moving.{both_lead, found_cost, found_most, none_spends, not_first, not_last}
use Rattle.fsrm_modes.proofs.Outcomes.{full_stops}
use Rattle.fsrm_modes.proofs.expiring.move_expired.Goals as goal

pub returns-in_default-plan-clause-runs : goal.returns-in_default-plan-clause-runs
returns-in_default-plan-clause-runs g c = full_stops (expire_turns c.args.session.now.store.engine.size c.args.session.now.store.engine.rows c.args.ask.now) c.args.session.now c.args.outside.now (laws_of g.met.O.Sink g.met.O.Disk g.met.O.Outside)

pub returns-clause-runs : goal.returns-clause-runs
returns-clause-runs g c =
    let M = members g.O.Source g.O.Sink g.O.Disk in
    let was = c.args.session.now in
    let ask = c.args.ask.now in
    let from = c.in-Some.from in
    let folder = c.in-Some-folder_at.folder in
    let same = ap (λ (m : Machine). m.rows.nodes) c.engine-engine.ensures.lent in
    let turns = both_lead was.store.engine.size was.store.engine.rows ask from folder c.deref.result.now
    (sym (ap (λ (ns : List NodeRow). leads_to_folder ns ask.from) same) ∙ c.in-Some.ensures.leads.0)
    (c.in-Some.ensures.leads.1 ∙ ap (λ (ns : List NodeRow). target ns ask.from) same)
    (sym (ap (λ (ns : List NodeRow). leads_to_folder ns ask.to) same) ∙ c.in-Some-folder_at.ensures.leads.0)
    (c.in-Some-folder_at.ensures.leads.1 ∙ ap (λ (ns : List NodeRow). target ns ask.to) same)
    (c.deref.ensures.value ∙ (c.in-Ok.ensures.planned ∙ ap (λ (ns : List NodeRow). map number (expired ns from folder ask.expiry)) same)) in
    subst (λ (l : List Turn). MatchResult c.move_files.result (λ x. Goes M l was c.move_files.new.session c.args.outside.now c.move_files.new.outside) (λ e. Stops M e l was c.move_files.new.session c.args.outside.now c.move_files.new.outside))
    turns c.move_files.ensures.runs

-- ---- what it takes
pub returns-in_default-clause-looks : goal.returns-in_default-clause-looks
returns-in_default-clause-looks g c =
    let was = c.args.session.now in
    let R = was.store.engine.rows in
    let ask = c.args.ask.now in
    let looks = c.args.steps.now in
    let same = ap (λ (m : Machine). m.rows.nodes) c.engine-engine.ensures.lent in
    let none = not_first (leads_to_folder R.nodes ask.from) (leads_to_folder R.nodes ask.to) (sym (ap (λ (ns : List NodeRow). leads_to_folder ns ask.from) same) ∙ c.in_default.ensures.leads) in
    let late : c.folder_at.new.steps ≤ looks + (22 * (length ask.from + length ask.to) + 4) = omega (arith, c.folder_at.ensures.looks) in
    none_spends was.store.engine.size R ask was c.args.outside.now looks c.folder_at.new.steps c.refuse.new.steps (bytes_after c.refuse.result c.refuse.new.self) none late c.refuse.ensures.looks

pub returns-in_default-folder_at-clause-looks : goal.returns-in_default-folder_at-clause-looks
returns-in_default-folder_at-clause-looks g c =
    let was = c.args.session.now in
    let R = was.store.engine.rows in
    let ask = c.args.ask.now in
    let looks = c.args.steps.now in
    let same = ap (λ (m : Machine). m.rows.nodes) c.engine-engine.ensures.lent in
    let none = not_last (leads_to_folder R.nodes ask.from) (leads_to_folder R.nodes ask.to) (sym (ap (λ (ns : List NodeRow). leads_to_folder ns ask.to) same) ∙ c.in_default-folder_at.ensures.leads) in
    let late : c.folder_at-2.new.steps ≤ looks + (22 * (length ask.from + length ask.to) + 4) = omega (arith, c.folder_at.ensures.looks, c.folder_at-2.ensures.looks) in
    none_spends was.store.engine.size R ask was c.args.outside.now looks c.folder_at-2.new.steps c.refuse-in_default-folder_at.new.steps (bytes_after c.refuse-in_default-folder_at.result c.refuse-in_default-folder_at.new.self) none late c.refuse-in_default-folder_at.ensures.looks

pub returns-in_default-plan-clause-looks : goal.returns-in_default-plan-clause-looks
returns-in_default-plan-clause-looks g c =
    let was = c.args.session.now in
    let K = was.store.engine.size in
    let R = was.store.engine.rows in
    let ask = c.args.ask.now in
    let looks = c.args.steps.now in
    let same = ap (λ (m : Machine). m.rows.nodes) c.engine-engine.ensures.lent in
    let found = found_most K R ask (sym (ap (λ (ns : List NodeRow). leads_to_folder ns ask.from) same) ∙ c.in-Some.ensures.leads.0) (sym (ap (λ (ns : List NodeRow). leads_to_folder ns ask.to) same) ∙ c.in-Some-folder_at.ensures.leads.0) in
    let few : c.plan.new.steps ≤ looks + expire_cost K R ask = omega (arith, c.folder_at.ensures.looks, c.folder_at-2.ensures.looks, c.plan.ensures.looks, ap (λ (ns : List NodeRow). length ns) same, found) in
    let left = bytes_since was.store.journal in
    spends_less (expire_turns K R ask) was c.args.outside.now c.plan.new.steps (looks + expire_cost K R ask) c.plan.new.steps left left few (omega arith) (spends_nothing (expire_turns K R ask) was c.args.outside.now c.plan.new.steps)

pub returns-clause-looks : goal.returns-clause-looks
returns-clause-looks g c =
    let M = members g.O.Source g.O.Sink g.O.Disk in
    let was = c.args.session.now in
    let K = was.store.engine.size in
    let R = was.store.engine.rows in
    let ask = c.args.ask.now in
    let looks = c.args.steps.now in
    let from = c.in-Some.from in
    let folder = c.in-Some-folder_at.folder in
    let files = c.deref.result.now in
    let moment = ask.expiry.moment in
    let same = ap (λ (m : Machine). m.rows.nodes) c.engine-engine.ensures.lent in
    let leads = sym (ap (λ (ns : List NodeRow). leads_to_folder ns ask.from) same) ∙ c.in-Some.ensures.leads.0 in
    let from_is = c.in-Some.ensures.leads.1 ∙ ap (λ (ns : List NodeRow). target ns ask.from) same in
    let into = sym (ap (λ (ns : List NodeRow). leads_to_folder ns ask.to) same) ∙ c.in-Some-folder_at.ensures.leads.0 in
    let to_is = c.in-Some-folder_at.ensures.leads.1 ∙ ap (λ (ns : List NodeRow). target ns ask.to) same in
    let files_are = c.deref.ensures.value ∙ (c.in-Ok.ensures.planned ∙ ap (λ (ns : List NodeRow). map number (expired ns from folder ask.expiry)) same) in
    let few : c.plan.new.steps + files_cost K R folder moment 1 files ≤ looks + expire_cost K R ask =
    omega (arith, c.folder_at.ensures.looks, c.folder_at-2.ensures.looks, c.plan.ensures.looks, ap (λ (ns : List NodeRow). length ns) same, found_cost K R ask from folder files leads from_is into to_is files_are) in
    let left = bytes_after c.move_files.result c.move_files.new.session in
    subst (λ (l : List Turn). Spends M l was c.args.outside.now (looks + expire_cost K R ask) c.move_files.new.steps left) (both_lead K R ask from folder files leads from_is into to_is files_are)
    (spends_less (files_turns K R folder moment 1 files) was c.args.outside.now (c.plan.new.steps + files_cost K R folder moment 1 files) (looks + expire_cost K R ask) c.move_files.new.steps left left few (omega arith) c.move_files.ensures.looks)
