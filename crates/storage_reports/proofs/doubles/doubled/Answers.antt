use Rattle.std.proofs.Common.{◌≡◌, ◌++◌, ◌∷◌, Bool, true, cond, List, filter, map, nat_lt, sym, ◌∙◌, ap, take, arith}
use Rattle.std.proofs.lemmas.Cmp.{nat_list_eq_equiv}
use Rattle.std.specs.Prelude.{bytes_eq}
use Rattle.fsrm_base.proofs.TestLaws.{lt_test, not_lt}
use Rattle.fsrm_base.specs.Order.{in_order}
use Rattle.fsrm_model.specs.declared.report.ReportRow.{ReportRow}
use Rattle.fsrm_model.specs.declared.row.NodeRow.{NodeRow}
use Rattle.node_table.specs.Views.{seen}
use Rattle.storage_reports.specs.declared.ranked.Ranked.{Ranked}
use Rattle.storage_reports.specs.Doubles.{file_value}
use Rattle.storage_reports.specs.Files.{Sums, sums}
use Rattle.fsrm_model.specs.reports.Groups.{with_value}
use Rattle.storage_reports.specs.Ranks.{stands_before, twice_ranked}
use Rattle.fsrm_model.specs.reports.Reports.{alike, file_key, file_row, first_alike, has_double, length_of}
use Rattle.storage_reports.proofs.FileGroups.{so_far_is}
use Rattle.storage_reports.proofs.doubles.doubled.Goals as goal

pub loop-node-preserved-in-Continue-branch-2 : goal.loop-node-preserved-in-Continue-branch-2
loop-node-preserved-in-Continue-branch-2 g c =
    let K = c.args.tree.now.size in
    let all = c.args.files.now.files in
    let x = seen c.in-Some.node in
    let rest = c.next.new.self.files in
    let old = c.loop-node.rows.items in
    let before = stands_before true in
    let row : NodeRow → Ranked = twice_ranked length_of (first_alike all) (file_row K) in
    let rows : List NodeRow → List Ranked = λ xs. map row (filter (has_double all) xs) in
    let with_it : Bool → List Ranked = λ b. map row (cond b (x ∷ filter (has_double all) rest) (filter (has_double all) rest)) in
    let are : c.in_ok-sums.sums ≡ sums K (alike all x) = c.in_ok-sums.ensures ∙ so_far_is bytes_eq nat_list_eq_equiv file_key K (map (with_value file_value) c.args.known.now.entries) all c.requires (file_key x) in
    let on : has_double all x ≡ true = sym (ap (λ (s : Sums). nat_lt 1 s.files) are) ∙ lt_test 1 c.in_ok-sums.sums.files c.if-sums-gt1.true in
    let same : (record { rank = x.length; second = c.in_ok-sums.sums.first; row = c.file_row-row.result }) ∷ rows rest ≡ rows c.loop-node.files.files =
    ap (λ (s : Sums). (record { rank = x.length; second = s.first; row = c.file_row-row.result }) ∷ rows rest) are
    ∙ (ap (λ (r : ReportRow). (record { rank = x.length; second = first_alike all x; row = r }) ∷ rows rest) c.file_row-row.ensures
    ∙ (sym (ap with_it on) ∙ ap rows (sym c.in-Some.ensures.lent))) in
    record {
      rows = c.in_ok-keep_first.ensures (rows rest) ∙ (ap (λ (zs : List Ranked). take c.args.max (in_order before (old ++ zs))) same ∙ c.loop-node.invariant.rows);
      looks = omega (arith, c.loop-node.invariant.looks, c.in-Some.ensures.looks);
    }

pub loop-node-preserved : goal.loop-node-preserved
loop-node-preserved g c =
    let K = c.args.tree.now.size in
    let all = c.args.files.now.files in
    let x = seen c.in-Some.node in
    let rest = c.next.new.self.files in
    let old = c.loop-node.rows.items in
    let before = stands_before true in
    let row : NodeRow → Ranked = twice_ranked length_of (first_alike all) (file_row K) in
    let rows : List NodeRow → List Ranked = λ xs. map row (filter (has_double all) xs) in
    let with_it : Bool → List Ranked = λ b. map row (cond b (x ∷ filter (has_double all) rest) (filter (has_double all) rest)) in
    let are : c.in_ok-sums.sums ≡ sums K (alike all x) = c.in_ok-sums.ensures ∙ so_far_is bytes_eq nat_list_eq_equiv file_key K (map (with_value file_value) c.args.known.now.entries) all c.requires (file_key x) in
    let off = sym (ap (λ (s : Sums). nat_lt 1 s.files) are) ∙ not_lt 1 c.in_ok-sums.sums.files c.if-sums-gt1.false in
    let same : rows rest ≡ rows c.loop-node.files.files = sym (ap with_it off) ∙ ap rows (sym c.in-Some.ensures.lent) in
    record {
      rows = ap (λ (zs : List Ranked). take c.args.max (in_order before (old ++ zs))) same ∙ c.loop-node.invariant.rows;
      looks = omega (arith, c.loop-node.invariant.looks, c.in-Some.ensures.looks);
    }
