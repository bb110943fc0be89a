use Rattle.std.proofs.Common.{◌∙◌, ap, sym, subst}
use Rattle.fsrm_objects.specs.Tables.{Tables}
use Rattle.rescan.specs.Courses.{Course}
use Rattle.fsrm_engine.specs.Machine.{IsWhole, machine_of}
use Rattle.fsrm_engine.proofs.steps.FlaggedParts.{flagged_parts, flagged_seen, flagged_whole}
use Rattle.fsrm_engine.proofs.parts.Parts.flag_unfinished.Goals as goal

pub returns-clause-machine : goal.returns-clause-machine
returns-clause-machine c =
    let p = c.args.self.now in
    ap (λ (t : Tables). machine_of (record p { objects = t; scans = c.clear.new.self })) c.flag_all.ensures
    ∙ (ap (λ (s : Course). machine_of (record (flagged_parts p) { scans = s })) c.clear.ensures ∙ flagged_seen p)

pub returns-clause-whole : goal.returns-clause-whole
returns-clause-whole c whole =
    let p = c.args.self.now in
    subst (λ (t : Tables). IsWhole (record p { objects = t; scans = c.clear.new.self })) (sym c.flag_all.ensures)
    (subst (λ (s : Course). IsWhole (record (flagged_parts p) { scans = s })) (sym c.clear.ensures) (flagged_whole p whole))
