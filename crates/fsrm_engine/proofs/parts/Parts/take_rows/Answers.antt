use Rattle.std.proofs.Common.{List, length, ap, sym, ◌∙◌, subst, arith}
use Rattle.fsrm_model.specs.declared.row.NodeRow.{NodeRow}
use Rattle.fsrm_model.specs.store.Capacities.{is_capacity}
use Rattle.fsrm_model.specs.store.Valid.{AreQuotas, IsVolume}
use Rattle.fsrm_model.proofs.valid.ValidTests.{quotas_by_test}
use Rattle.quota_usage.specs.declared.change.Counter.{Counter}
use Rattle.fsrm_engine.specs.declared.parts.Parts.{Parts}
use Rattle.fsrm_parts.specs.Sums.{sums_of}
use Rattle.fsrm_engine.specs.Restored.{with_objects, with_rest}
use Rattle.fsrm_parts.proofs.tables.FilledLaws.{kept_parts}
use Rattle.fsrm_engine.proofs.parts.Parts.take_rows.Goals as goal

-- ---- what is counted
pub begin_all-requires-clause-volume : goal.begin_all-requires-clause-volume
begin_all-requires-clause-volume g c =
    subst (λ (p : Parts). IsVolume p.tree.size p.tree.nodes) (sym c.in_ok-fill.ensures.ok) c.requires.volume

pub begin_all-requires-clause-legal : goal.begin_all-requires-clause-legal
begin_all-requires-clause-legal g c = ap (λ (p : Parts). is_capacity p.tree.size) c.in_ok-fill.ensures.ok ∙ c.requires.legal

pub begin_all-requires-clause-quotas : goal.begin_all-requires-clause-quotas
begin_all-requires-clause-quotas g c =
    let R = c.args.rows.now in
    let are : AreQuotas R.nodes R.quotas = quotas_by_test R.nodes R.quotas (kept_parts R c.requires.kept).quotas in
    subst (λ (p : Parts). AreQuotas p.tree.nodes p.objects.quotas) (sym c.in_ok-fill.ensures.ok) (subst (λ (nodes : List NodeRow). AreQuotas nodes R.quotas) (sym c.requires.nodes) are)

pub begin_all-requires-clause-none : goal.begin_all-requires-clause-none
begin_all-requires-clause-none g c =
    ap (λ (p : Parts). p.usage) c.in_ok-fill.ensures.ok ∙ ap (λ (p : Parts). p.usage) c.requires.none

-- ---- the rest
pub fill_rest-requires-clause-acts : goal.fill_rest-requires-clause-acts
fill_rest-requires-clause-acts g c = (kept_parts c.args.rows.now c.requires.kept).acts

pub fill_rest-requires-clause-audits : goal.fill_rest-requires-clause-audits
fill_rest-requires-clause-audits g c = (kept_parts c.args.rows.now c.requires.kept).audits

pub fill_rest-requires-clause-no_acts : goal.fill_rest-requires-clause-no_acts
fill_rest-requires-clause-no_acts g c =
    ap (λ (p : Parts). p.marks.log) c.in_ok-fill.ensures.ok ∙ ap (λ (p : Parts). p.marks.log) c.requires.none

pub fill_rest-requires-clause-no_audits : goal.fill_rest-requires-clause-no_audits
fill_rest-requires-clause-no_audits g c =
    ap (λ (p : Parts). p.audit) c.in_ok-fill.ensures.ok ∙ ap (λ (p : Parts). p.audit) c.requires.none

pub returns-clause-ok : goal.returns-clause-ok
returns-clause-ok g c =
    let R = c.args.rows.now in
    c.fill_rest.ensures
    ∙ ap (λ (p : Parts). with_rest p R)
    (ap (λ (counters : List Counter). record c.fill.new.self { usage = counters }) c.in-Ok.ensures.ok
    ∙ (ap (λ (p : Parts). record p { usage = sums_of p.tree.size p.tree.nodes p.objects.quotas }) c.in_ok-fill.ensures.ok
    ∙ ap (λ (p : Parts). record (with_objects p R) { usage = sums_of p.tree.size p.tree.nodes R.quotas }) c.requires.none))

pub returns-clause-looks : goal.returns-clause-looks
returns-clause-looks g c =
    omega (arith, c.begin_all.ensures.looks, ap (λ (p : Parts). length p.tree.nodes) c.in_ok-fill.ensures.ok)
