use Rattle.std.proofs.Common.{rules, ◌≡◌, [], ◌∷◌, refl, sym, subst, arith}
use Rattle.std.specs.Prelude.{Result, Ok, Err, IfOk}
use Rattle.fsrm_base.specs.declared.memory.NoMemory.{NoMemory as Wanting}
use Rattle.fsrm_model.specs.nodes.Fresh.{new_rows, root_node}
use Rattle.fsrm_model.specs.store.Valid.{IsValid, IsVolume}
use Rattle.fsrm_model.proofs.valid.ValidTests.{new_valid}
use Rattle.fsrm_base.proofs.TestLaws.{lt_is}
use Rattle.volume_tree.specs.Volume.{Volume}
use Rattle.fsrm_engine.specs.declared.parts.Parts.{Parts}
use Rattle.fsrm_engine.specs.Machine.{IsWhole, bare, machine_of, rows_of}
use Rattle.fsrm_engine.specs.Restored.{idle_scans}
use Rattle.fsrm_engine.proofs.parts.Parts.new.Goals as goal

-- what holds of some parts holds of those that were made, if they are these
of_made : (P : Parts → Type 0) (made : Result Parts Wanting) (tree t : Volume) → IfOk made (λ parts. parts ≡ bare t (idle_scans t.size)) → t ≡ tree → P (bare tree (idle_scans tree.size)) → IfOk made P
of_made P (Ok parts) tree t is tree_is holds = subst P (sym is) (subst (λ (v : Volume). P (bare v (idle_scans v.size))) (sym tree_is) holds)
of_made P (Err e) tree t is tree_is holds = tt

pub returns-clause-machine : goal.returns-clause-machine
returns-clause-machine c =
    let K = c.args.size in
    of_made (λ parts. machine_of parts ≡ record { size = K; rows = new_rows; waiting = [] }) c.over.result (record { size = K; nodes = root_node ∷ [] }) c.in_ok-tree.tree c.over.ensures c.in_ok-tree.ensures.ok (search rules)

pub returns-clause-whole : goal.returns-clause-whole
returns-clause-whole c =
    let K = c.args.size in
    let tree : Volume = record { size = K; nodes = root_node ∷ [] } in
    let volume : IsVolume K (root_node ∷ []) = subst (λ (v : Volume). IsVolume v.size v.nodes) c.in_ok-tree.ensures.ok c.in_ok-tree.ensures.kept in
    let valid = new_valid K (lt_is 0 K.nodes (volume.below 0 root_node refl)) in
    let same : rows_of (bare tree (idle_scans K)) ≡ new_rows = search rules in
    of_made IsWhole c.over.result tree c.in_ok-tree.tree c.over.ensures c.in_ok-tree.ensures.ok
    (record {
      sound = record {
        counted = record { volume = volume; legal = c.requires; are_quotas = valid.quotas; sums = refl; peaks = λ h. cc };
        scanning = record { volume = volume; fits = record { nodes = omega arith; cluster = refl }; folders = λ folder h. cc; active = refl; stands = λ h. cc; idle = λ h. refl };
      };
      valid = subst (IsValid K) (sym same) valid;
      there = refl;
      screens = refl;
      crossing = refl;
    })
