use Rattle.std.proofs.Common.{◌≡◌, ℕ, ◌+◌, ◌<◌, ◌^◌, ◌++◌, ◌∷◌, [], List, Option, append_assoc, map, refl, sym, ◌∙◌, ap, subst, arith}
use Rattle.std.specs.Prelude.{unwrap_or}
use Rattle.std.specs.Map.{lookup}
use Rattle.indexmap.specs.IndexMap.{insert_entry}
use Rattle.fsrm_model.specs.declared.row.NodeRow.{NodeRow}
use Rattle.fsrm_model.specs.values.Space.{space}
use Rattle.node_table.specs.Views.{seen}
use Rattle.storage_reports.specs.Files.{Sums, no_files, with_file}
use Rattle.fsrm_model.specs.reports.Groups.{with_value}
use Rattle.storage_reports.proofs.FileGroups.{alloc_fits, file_space, files_fit, grown, lengths_fit}
use Rattle.storage_reports.proofs.SeenKeys.{insert-seen, lookup-seen}
use Rattle.storage_reports.proofs.groups.grouped.Goals as goal

pub loop-node-init : goal.loop-node-init
loop-node-init g c = (
  [],
  record {
    front = refl;
    entries = ap (map (with_value {V = Sums} g.G.Grouping.value)) c.new-groups.ensures.empty;
    looks = omega arith;
    all = refl;
    whole = refl;
  },
)

pub add_file-requires-clause-files : goal.add_file-requires-clause-files
add_file-requires-clause-files g c =
    let G = g.G.Grouping in
    let law = g.met.G.Grouping in
    let xs = c.loop-node.invariant.0 in
    let i = c.loop-node.invariant.1 in
    let old = c.loop-node.groups.entries in
    let k = c.in_ok-key.key in
    let front : xs ++ seen c.in-Some.node ∷ c.next.new.self.files ≡ c.args.files.now.files = ap (λ (rows : List NodeRow). xs ++ rows) (sym c.in-Some.ensures.lent) ∙ i.front in
    let fit = files_fit G.is_same law.equivalence G.value_in c.args.tree.now.size (map (with_value G.value) old) xs i.entries (seen c.in-Some.node) c.next.new.self.files c.args.files.now.files front c.requires.fits (G.value k) in
    subst (λ (o : Option Sums). (unwrap_or o no_files).files + 1 < 2 ^ 64) (sym (lookup-seen _ G.is_same G.value law.agrees old k)) fit

pub add_file-requires-clause-lengths : goal.add_file-requires-clause-lengths
add_file-requires-clause-lengths g c =
    let G = g.G.Grouping in
    let law = g.met.G.Grouping in
    let xs = c.loop-node.invariant.0 in
    let i = c.loop-node.invariant.1 in
    let old = c.loop-node.groups.entries in
    let k = c.in_ok-key.key in
    let front : xs ++ seen c.in-Some.node ∷ c.next.new.self.files ≡ c.args.files.now.files = ap (λ (rows : List NodeRow). xs ++ rows) (sym c.in-Some.ensures.lent) ∙ i.front in
    let fit = lengths_fit G.is_same law.equivalence G.value_in c.args.tree.now.size (map (with_value G.value) old) xs i.entries (seen c.in-Some.node) c.next.new.self.files c.args.files.now.files front c.requires.fits (G.value k) in
    subst (λ (o : Option Sums). (unwrap_or o no_files).lengths + c.in-Some.node.length < 2 ^ 64) (sym (lookup-seen _ G.is_same G.value law.agrees old k)) fit

pub add_file-requires-clause-alloc : goal.add_file-requires-clause-alloc
add_file-requires-clause-alloc g c =
    let G = g.G.Grouping in
    let law = g.met.G.Grouping in
    let xs = c.loop-node.invariant.0 in
    let i = c.loop-node.invariant.1 in
    let K = c.args.tree.now.size in
    let x = seen c.in-Some.node in
    let old = c.loop-node.groups.entries in
    let k = c.in_ok-key.key in
    let front : xs ++ x ∷ c.next.new.self.files ≡ c.args.files.now.files = ap (λ (rows : List NodeRow). xs ++ rows) (sym c.in-Some.ensures.lent) ∙ i.front in
    let takes = file_space K x c.allocated-space.result c.in-Some.ensures.file c.allocated-space.ensures.space in
    let fit = alloc_fits G.is_same law.equivalence G.value_in K (map (with_value G.value) old) xs i.entries x c.next.new.self.files c.args.files.now.files front c.requires.fits (G.value k) in
    let same = subst (λ (o : Option Sums). (unwrap_or o no_files).alloc + space K x < 2 ^ 64) (sym (lookup-seen _ G.is_same G.value law.agrees old k)) fit in
    omega (arith, takes, same)

pub loop-node-preserved : goal.loop-node-preserved
loop-node-preserved g c =
    let G = g.G.Grouping in
    let law = g.met.G.Grouping in
    let K = c.args.tree.now.size in
    let xs = c.loop-node.invariant.0 in
    let i = c.loop-node.invariant.1 in
    let x = seen c.in-Some.node in
    let k = c.in_ok-key.key in
    let old = c.loop-node.groups.entries in
    let seen_old = map (with_value G.value) old in
    let seen_new = map (with_value G.value) c.add_file.new.groups.entries in
    let own : G.value k ≡ G.value_in x = c.in_ok-key.ensures in
    let takes = file_space K x c.allocated-space.result c.in-Some.ensures.file c.allocated-space.ensures.space in
    let sum : ℕ → Option Sums → Sums = λ n o. with_file (unwrap_or o no_files) x.number x.length n in
    let looked = lookup-seen _ G.is_same G.value law.agrees old k in
    let with_look : seen_new ≡ insert_entry G.is_same seen_old (G.value k) (sum c.allocated-space.result (lookup (G.is_same (G.value k)) seen_old)) =
    ap (map (with_value G.value)) c.in_ok-add_file.ensures.added
    ∙ (insert-seen _ G.is_same G.value law.agrees old k _
    ∙ ap (λ (o : Option Sums). insert_entry G.is_same seen_old (G.value k) (sum c.allocated-space.result o)) looked) in
    let with_space : seen_new ≡ insert_entry G.is_same seen_old (G.value k) (sum (space K x) (lookup (G.is_same (G.value k)) seen_old)) =
    with_look ∙ ap (λ (n : ℕ). insert_entry G.is_same seen_old (G.value k) (sum n (lookup (G.is_same (G.value k)) seen_old))) takes in
    let with_key : seen_new ≡ insert_entry G.is_same seen_old (G.value_in x) (sum (space K x) (lookup (G.is_same (G.value_in x)) seen_old)) =
    with_space ∙ ap (λ (b : G.Value). insert_entry G.is_same seen_old b (sum (space K x) (lookup (G.is_same b) seen_old))) own in (
      xs ++ x ∷ [],
      record {
        front = append_assoc xs (x ∷ []) c.next.new.self.files ∙ (ap (λ (rows : List NodeRow). xs ++ rows) (sym c.in-Some.ensures.lent) ∙ i.front);
        entries = grown G.is_same law.equivalence G.value_in K seen_old xs i.entries x seen_new with_key;
        looks = omega (arith, i.looks, c.in-Some.ensures.looks);
        all = c.next.ensures.all ∙ i.all;
        whole = c.next.ensures.whole ∙ i.whole;
      },
    )
