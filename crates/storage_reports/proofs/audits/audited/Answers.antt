use Rattle.std.proofs.Common.{◌≡◌, ℕ, ◌+◌, ◌++◌, ◌∷◌, [], Bool, cond, List, drop, filter, map, append_assoc, sym, ◌∙◌, ap, arith, rules}
use Rattle.std.proofs.lemmas.List.{append-nil, drop_all}
use Rattle.std.specs.List.{enumerate_from}
use Rattle.fsrm_model.specs.declared.row.AuditRow.{AuditRow}
use Rattle.file_screens.specs.Blocked.{shown}
use Rattle.fsrm_model.specs.reports.Reports.{audited_from, is_audited, is_audited_at, place_in}
use Rattle.storage_reports.proofs.QuotaLaws.{left_from}
use Rattle.storage_reports.proofs.audits.audited.Goals as goal
use Rattle.storage_reports.proofs.audits.audited.Goals.{then-is_audited+in_ok-push, else-is_audited}

pub loop-place-preserved : goal.loop-place-preserved
loop-place-preserved c =
    let asked = c.args.asked.now in
    let audits = c.args.audit.now in
    let place = c.loop-place.place in
    let x = shown c.at.result in
    let old = c.loop-place.places.items in
    let rest = drop (place + 1) audits in
    let all = audited_from asked c.args.moment in
    let later = filter (is_audited_at asked c.args.moment) (enumerate_from (place + 1) rest) in
    let with_it : Bool → List ℕ = λ b. map place_in (cond b ((place, x) ∷ later) later) in
    let step : all place (drop place audits) ≡ with_it (is_audited asked c.args.moment x) = ap (all place) (left_from audits place x c.at.ensures) in
    elim c.if-is_audited.branch [
      | then-is_audited+in_ok-push w ↦
          let pushed : w.push.new.self.items ≡ old ++ place ∷ [] = search rules in
          let on = sym c.is_audited.ensures ∙ w.if-is_audited.true in
          rw w.places-is (ap (λ (zs : List ℕ). zs ++ all (place + 1) rest) pushed ∙ (append_assoc old (place ∷ []) (all (place + 1) rest) ∙ (ap (λ (zs : List ℕ). old ++ zs) (sym (step ∙ ap with_it on)) ∙ c.loop-place.invariant)))
      | else-is_audited w ↦
          let off = sym c.is_audited.ensures ∙ w.if-is_audited.false in
          rw w.places-is (ap (λ (zs : List ℕ). old ++ zs) (sym (step ∙ ap with_it off)) ∙ c.loop-place.invariant)
    ]

pub returns : goal.returns
returns c =
    let all = audited_from c.args.asked.now c.args.moment in
    let none : drop c.loop-place.place c.args.audit.now ≡ [] = drop_all c.loop-place.place c.args.audit.now (omega (arith, c.len-place-end.ensures.length, c.loop-place-test.false)) in
    sym (append-nil c.loop-place.places.items) ∙ (ap (λ (rest : List AuditRow). c.loop-place.places.items ++ all c.loop-place.place rest) (sym none) ∙ c.loop-place.invariant)
