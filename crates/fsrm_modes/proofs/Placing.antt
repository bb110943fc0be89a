-- Where the files stand that a run moved.
use Rattle.std.proofs.Common.{◌≡◌, ◌⊎◌, inl, inr, ℕ, zero, suc, ◌+◌, ◌-◌, ◌<◌, ◌≤◌, ◌==◌, Bool, true, false, List, [], ◌∷◌, ◌++◌, length, take, Option, None, Some, refl, sym, ◌∙◌, ap, subst, arith, append_assoc, length-append}
use Rattle.std.specs.Prelude.{if◌then◌else◌, nat_le, nat_lt, option_map, slice_index_or, unwrap_or}
use Rattle.std.specs.List.{list_any}
use Rattle.std.specs.Option.{option_map_or}
use Rattle.std.proofs.lemmas.List.{append-nil}
use Rattle.std.proofs.Math.Seq.{take-append_seam}
use Rattle.fsrm_base.specs.Keyed.{has_row, with_change}
use Rattle.fsrm_base.proofs.Look.{found_key, row_of-change}
use Rattle.fsrm_base.proofs.TestLaws.{clash, eq_is, eq_same, eq_test, is_or_not, le_is, neither}
use Rattle.fsrm_model.specs.commands.Check.{◌when◌, first}
use Rattle.fsrm_model.specs.commands.Entry.{path_length}
use Rattle.fsrm_model.specs.commands.FileWork.{judged_name, reported}
use Rattle.fsrm_model.specs.commands.Step.{decided, step, work, Stepped}
use Rattle.fsrm_model.specs.commands.Work.{Work}
use Rattle.fsrm_model.specs.declared.command.Command.{Command}
use Rattle.fsrm_model.specs.declared.command.Deed.TheVariants.{File}
use Rattle.fsrm_model.specs.declared.command.FileOp.TheVariants.{Move}
use Rattle.fsrm_model.specs.declared.command.Outcome.{Outcome}
use Rattle.fsrm_model.specs.declared.command.Outcome.TheVariants.{Done, Refused}
use Rattle.fsrm_model.specs.declared.command.Refusal.{Refusal}
use Rattle.fsrm_model.specs.declared.command.Refusal.TheVariants.{ClockBack}
use Rattle.fsrm_model.specs.declared.row.Capacity.{Capacity}
use Rattle.fsrm_model.specs.declared.row.NodeRow.{NodeRow}
use Rattle.fsrm_model.specs.declared.row.Rows.{Rows}
use Rattle.fsrm_model.specs.nodes.FileOps.{placed, plain, target, target_folder}
use Rattle.fsrm_model.specs.nodes.Leads.{leads_to_folder}
use Rattle.fsrm_model.specs.nodes.Tree.{chain, folder_part, is_folder, last_name, name_of, node_of, number, parent_of, path_of, resolve}
use Rattle.fsrm_model.specs.store.Valid.{is_moment, IsValid, IsVolume}
use Rattle.fsrm_model.specs.texts.ActText.{act_lines}
use Rattle.fsrm_model.specs.texts.Text.{reply}
use Rattle.fsrm_model.proofs.commands.EachCommand.{step_valid}
use Rattle.fsrm_model.proofs.commands.Ends.{effect_nodes, nodes_kept, outcome_kept, refused_cases}
use Rattle.fsrm_model.proofs.nodes.Resolves.{joined_path, same_paths}
use Rattle.fsrm_model.proofs.nodes.Walks.{resolve_is, walk_complete}
use Rattle.fsrm_model.proofs.valid.ValidLaws.{folder_has}
use Rattle.fsrm_session.specs.Turns.{command_turn, rows_after, text_of, Turn}
use Rattle.file_jobs.specs.Moves.{is_file, most_bytes, move_of, moved_path, AreFiles}
use Rattle.file_jobs.proofs.FindLaws.{are_files}
use Rattle.file_jobs.proofs.MoveLaws.{file_found, file_has, legal_move, legal_moved, legal_path}
use Rattle.file_jobs.proofs.StayLaws.{files_stay}
use Rattle.fsrm_modes.specs.Expiry.{expire_turns, expired_files, ExpireAsk, files_turns, move_line, moving_turn, skipped_line, IsWholeLines, Places, SaysNot}
use Rattle.fsrm_modes.proofs.LineEnds.{acts_whole, done_whole, move_whole, refused_whole, skipped_whole, whole_then}
use Rattle.fsrm_modes.proofs.Moving.{chosen, moving_kinds}

-- ---- paths
-- a node's path leads to it
leads_there : (K : Capacity) (nodes : List NodeRow) (n : ℕ) → IsVolume K nodes → has_row number n nodes ≡ true → target nodes (path_of nodes n) ≡ n
leads_there K nodes n v h = ap (λ (o : Option ℕ). unwrap_or o 0) (resolve_is K nodes v (path_of nodes n) ∙ walk_complete K nodes v (length (chain nodes n)) n (path_of nodes n) h (omega arith) (same_paths (path_of nodes n)))

-- a path with one name more
folder_of_more : (path : List (List ℕ)) (name : List ℕ) → folder_part (path ++ name ∷ []) ≡ path
folder_of_more path name =
    let few : length (path ++ name ∷ []) - 1 ≡ length path = omega (arith, length-append path (name ∷ [])) in
    ap (λ n. take n (path ++ name ∷ [])) few ∙ take-append_seam path (name ∷ [])

same_last : (xs : List (List ℕ)) (a b : List ℕ) → xs ++ a ∷ [] ≡ xs ++ b ∷ [] → a ≡ b
same_last [] a b e = cc
same_last (x ∷ xs) a b e =
    let rest : xs ++ a ∷ [] ≡ xs ++ b ∷ [] = cc in
    same_last xs a b rest

name_of_more : (path : List (List ℕ)) (name : List ℕ) → last_name (path ++ name ∷ []) ≡ name
name_of_more path name =
    let all = path ++ name ∷ [] in
    let joined = joined_path all (omega (arith, length-append path (name ∷ []))) in
    sym (same_last path name (last_name all) (joined ∙ ap (λ (p : List (List ℕ)). p ++ last_name all ∷ []) (folder_of_more path name)))

-- ---- one node at another place
pub record OneMoved (nodes new : List NodeRow) (node to : ℕ) : Type 0 where
  pub parent : parent_of new node ≡ to
  pub others : (n : ℕ) → (node == n) ≡ false → node_of new n ≡ node_of nodes n
  pub names : (n : ℕ) → name_of new n ≡ name_of nodes n

one_moved : (nodes : List NodeRow) (node to : ℕ) (row : NodeRow) → node_of nodes node ≡ Some row → OneMoved nodes (with_change number node (placed to (name_of nodes node)) nodes) node to
one_moved nodes node to row found = record {
  parent = ap (λ (o : Option NodeRow). option_map_or (λ (r : NodeRow). r.parent) o 0) here;
  others = others;
  names = λ n. by n (node == n) refl;
}
  where
    name : List ℕ
    name = name_of nodes node

    new : List NodeRow
    new = with_change number node (placed to name) nodes

    change : NodeRow → NodeRow
    change r = if number r == node then placed to name r else r

    looked : (n : ℕ) → node_of new n ≡ option_map change (node_of nodes n)
    looked n = row_of-change number node (placed to name) (λ r. refl) n nodes

    changed : (r : NodeRow) → number r ≡ node → change r ≡ placed to name r
    changed r is = ap (λ (b : Bool). if b then placed to name r else r) (ap (λ (k : ℕ). k == node) is ∙ eq_same node)

    here : node_of new node ≡ Some (placed to name row)
    here = looked node ∙ ap (option_map change) found ∙ ap (λ (r : NodeRow). Some r) (changed row (found_key number node nodes row found))

    kept : (n : ℕ) → (node == n) ≡ false → (o : Option NodeRow) → node_of nodes n ≡ o → option_map change o ≡ o
    kept n apart None e = refl
    kept n apart (Some r) e =
        let same : number r ≡ n = found_key number n nodes r e in
        let test : (number r == node) ≡ false = elim (is_or_not (number r == node)) [
          | inl is ↦ absurd (clash (node == n) (eq_test node n (sym (eq_is (number r) node is) ∙ same)) apart)
          | inr other ↦ other
        ] in
        ap (λ (b : Bool). Some (if b then placed to name r else r)) test

    others : (n : ℕ) → (node == n) ≡ false → node_of new n ≡ node_of nodes n
    others n apart = looked n ∙ kept n apart (node_of nodes n) refl

    by : (n : ℕ) (b : Bool) → (node == n) ≡ b → name_of new n ≡ name_of nodes n
    by n true is =
        let own : name_of new node ≡ name = ap (λ (o : Option NodeRow). option_map_or (λ (r : NodeRow). r.name) o []) here in
        subst (λ (k : ℕ). name_of new k ≡ name_of nodes k) (eq_is node n is) own
    by n false apart = ap (λ (o : Option NodeRow). option_map_or (λ (r : NodeRow). r.name) o []) (others n apart)

-- ---- one move
-- it is done, or refused
done_or_not : (K : Capacity) (R : Rows) (moment line : ℕ) (from to : List (List ℕ)) → let c : Command = record { moment = moment; deed = File (Move from to) } in
    (((step K R c).rows.nodes ≡ plain R.nodes (Move from to) moment) × ((passive : Option ℕ) × ((step K R c).outcome ≡ Done passive))) ⊎ (((step K R c).rows.nodes ≡ R.nodes) × ((refusal : Refusal) × ((step K R c).outcome ≡ Refused refusal)))
done_or_not K R moment line from to = at (first ((ClockBack when nat_lt moment R.last_moment) ∷ w.checks))
  where
    w : Work
    w = work K R moment (File (Move from to))

    at : (o : Option Refusal) → (((decided K R moment w o).rows.nodes ≡ plain R.nodes (Move from to) moment) × ((passive : Option ℕ) × ((decided K R moment w o).outcome ≡ Done passive))) ⊎ (((decided K R moment w o).rows.nodes ≡ R.nodes) × ((refusal : Refusal) × ((decided K R moment w o).outcome ≡ Refused refusal)))
    at (Some refusal) = inr (refused_cases K R moment w refusal (λ (s : Stepped). (s.rows.nodes ≡ R.nodes) × ((refusal : Refusal) × (s.outcome ≡ Refused refusal))) (refl, (refusal, refl)) (λ acts. (refl, (refusal, refl))) (λ screen j is judged. (refl, (refusal, refl))))
    at None = inl (nodes_kept K R moment w ∙ effect_nodes R (Move from to) moment, (reported (judged_name R (Move from to)), outcome_kept K R moment w))

-- the file stands in the folder, or the run says why it doesn't
pub record OneTurn (K : Capacity) (R : Rows) (moment line node to : ℕ) (said : List ℕ) (S : Rows) : Type 0 where
  pub valid : IsValid K S
  pub ends : OneMoved R.nodes S.nodes node to ⊎ ((S.nodes ≡ R.nodes) × SaysNot K moment line said)
  pub whole : IsWholeLines said

placed_there : (K : Capacity) (R : Rows) (moment node to : ℕ) → IsValid K R → is_file R.nodes node ≡ true → is_folder R.nodes to ≡ true → plain R.nodes (Move (path_of R.nodes node) (moved_path R.nodes node to)) moment ≡ with_change number node (placed to (name_of R.nodes node)) R.nodes
placed_there K R moment node to v file folder =
    let nodes = R.nodes in
    let moved = moved_path nodes node to in
    let at : target nodes (path_of nodes node) ≡ node = leads_there K nodes node v.volume (file_has nodes node file) in
    let into : target_folder nodes moved ≡ to = ap (target nodes) (folder_of_more (path_of nodes to) (name_of nodes node)) ∙ leads_there K nodes to v.volume (folder_has nodes to folder) in
    let name : last_name moved ≡ name_of nodes node = name_of_more (path_of nodes to) (name_of nodes node) in
    ap (λ (n : ℕ). with_change number n (placed (target_folder nodes moved) (last_name moved)) nodes) at
    ∙ ap (λ (n : ℕ). with_change number node (placed n (last_name moved)) nodes) into
    ∙ ap (λ (l : List ℕ). with_change number node (placed to l) nodes) name

one_turn : (K : Capacity) (R : Rows) (moment line node to : ℕ) → IsValid K R → is_moment moment ≡ true → is_file R.nodes node ≡ true → is_folder R.nodes to ≡ true
    → let turn = moving_turn K line moment (move_of R.nodes node to) in OneTurn K R moment line node to (turn.said R) (turn.after R)
one_turn K R moment line node to v m file folder = at (nat_le (path_length (path_of R.nodes node) + path_length (moved_path R.nodes node to)) most_bytes) refl
  where
    nodes : List NodeRow
    nodes = R.nodes

    from : List (List ℕ)
    from = path_of nodes node

    moved : List (List ℕ)
    moved = moved_path nodes node to

    c : Command
    c = record { moment = moment; deed = File (Move from moved) }

    taken : path_length from + path_length moved ≤ most_bytes → OneTurn K R moment line node to ((command_turn K line c).said R) ((command_turn K line c).after R)
    taken few =
        let s = step K R c in
        let done = done_or_not K R moment line from moved in
        record {
          valid = step_valid K R c v (legal_move from moved moment (legal_path K nodes node v.volume (file_has nodes node file)) (legal_moved K nodes node to v.volume file (folder_has nodes to folder)) few m);
          ends = elim done [
            | inl is ↦
                let f = file_found nodes node file in
                inl (subst (λ (ns : List NodeRow). OneMoved nodes ns node to) (sym (is.0 ∙ placed_there K R moment node to v file folder)) (one_moved nodes node to f.row f.found))
            | inr stayed ↦ inr (
              stayed.0,
              record {
                before = [];
                line = reply K s.rows moment line (Refused stayed.1.0);
                after = act_lines s.rows s.acts;
                text_is = ap (λ (o : Outcome). reply K s.rows moment line o ++ act_lines s.rows s.acts) stayed.1.1;
                whole = inl refl;
                line_is = inr (s.rows, (stayed.1.0, refl));
              },
            )
          ];
          whole = whole_then (reply K s.rows moment line s.outcome) (act_lines s.rows s.acts)
              (elim done [
                | inl is ↦ subst (λ (o : Outcome). IsWholeLines (reply K s.rows moment line o)) (sym is.1.1) (done_whole K s.rows moment line is.1.0)
                | inr stayed ↦ subst (λ (o : Outcome). IsWholeLines (reply K s.rows moment line o)) (sym stayed.1.1) (refused_whole K s.rows moment line stayed.1.0)
              ])
              (acts_whole s.rows s.acts);
        }

    at : (b : Bool) → nat_le (path_length from + path_length moved) most_bytes ≡ b → OneTurn K R moment line node to ((moving_turn K line moment (move_of nodes node to)).said R) ((moving_turn K line moment (move_of nodes node to)).after R)
    at true e = rw e (taken (le_is _ _ e))
    at false e = rw e (record { valid = v; ends = inr (refl, record { before = []; line = skipped_line line; after = []; text_is = sym (append-nil (skipped_line line)); whole = inl refl; line_is = inl refl }); whole = skipped_whole line })

-- ---- files, one after another
pub record AllMoved (K : Capacity) (R S : Rows) (to moment line : ℕ) (files text : List ℕ) : Type 0 where
  pub in_folder : (place : ℕ) → place < length files → (parent_of S.nodes (slice_index_or files place 0) ≡ to) ⊎ SaysNot K moment (line + place) text
  pub others : (n : ℕ) → list_any (λ file. file == n) files ≡ false → node_of S.nodes n ≡ node_of R.nodes n
  pub names : (n : ℕ) → name_of S.nodes n ≡ name_of R.nodes n
  pub stays : (n : ℕ) → parent_of R.nodes n ≡ to → parent_of S.nodes n ≡ to

-- what is said within a longer text
said_within : (K : Capacity) (moment number : ℕ) (first text last : List ℕ) → IsWholeLines first → SaysNot K moment number text → SaysNot K moment number (first ++ (text ++ last))
said_within K moment number first text last whole s = record {
  before = first ++ s.before;
  line = s.line;
  after = s.after ++ last;
  text_is =
      ap (λ (l : List ℕ). first ++ (l ++ last)) s.text_is
      ∙ ap (λ (l : List ℕ). first ++ l) (append_assoc s.before (s.line ++ s.after) last ∙ ap (λ (l : List ℕ). s.before ++ l) (append_assoc s.line s.after last))
      ∙ sym (append_assoc first s.before (s.line ++ (s.after ++ last)));
  whole = whole_then first s.before whole s.whole;
  line_is = s.line_is;
}

-- what one turn leaves of each node
one_parent : (K : Capacity) (R S : Rows) (moment line node to : ℕ) (said : List ℕ) → OneTurn K R moment line node to said S → (n : ℕ) → parent_of R.nodes n ≡ to → parent_of S.nodes n ≡ to
one_parent K R S moment line node to said t n is = elim t.ends [
  | inl moved ↦ elim (is_or_not (node == n)) [
    | inl same ↦ ap (parent_of S.nodes) (sym (eq_is node n same)) ∙ moved.parent
    | inr apart ↦ ap (λ (o : Option NodeRow). option_map_or (λ (r : NodeRow). r.parent) o 0) (moved.others n apart) ∙ is
  ]
  | inr stayed ↦ ap (λ (ns : List NodeRow). parent_of ns n) stayed.0 ∙ is
]

one_other : (K : Capacity) (R S : Rows) (moment line node to : ℕ) (said : List ℕ) → OneTurn K R moment line node to said S → (n : ℕ) → (node == n) ≡ false → node_of S.nodes n ≡ node_of R.nodes n
one_other K R S moment line node to said t n apart = elim t.ends [
  | inl moved ↦ moved.others n apart
  | inr stayed ↦ ap (λ (ns : List NodeRow). node_of ns n) stayed.0
]

one_name : (K : Capacity) (R S : Rows) (moment line node to : ℕ) (said : List ℕ) → OneTurn K R moment line node to said S → (n : ℕ) → name_of S.nodes n ≡ name_of R.nodes n
one_name K R S moment line node to said t n = elim t.ends [
  | inl moved ↦ moved.names n
  | inr stayed ↦ ap (λ (ns : List NodeRow). name_of ns n) stayed.0
]

pub all_moved : (K : Capacity) (R : Rows) (to moment line : ℕ) (files : List ℕ) → IsValid K R → is_moment moment ≡ true → AreFiles R.nodes files → is_folder R.nodes to ≡ true
    → AllMoved K R (rows_after R (files_turns K R to moment line files)) to moment line files (text_of R (files_turns K R to moment line files))
all_moved K R to moment line [] v m files folder = record {
  in_folder = λ place low. absurd (omega (arith, low));
  others = λ n apart. refl;
  names = λ n. refl;
  stays = λ n is. is;
}
all_moved K R to moment line (node ∷ files) v m are folder =
    let turn = moving_turn K line moment (move_of R.nodes node to) in
    let next = turn.after R in
    let said = turn.said R in
    let one = one_turn K R moment line node to v m are.0 folder in
    let kinds = moving_kinds K R line moment node to in
    let rest = all_moved K next to moment (line + 1) files one.valid m (files_stay R.nodes next.nodes files kinds are.1) (kinds.folders to ∙ folder) in
    let end = rows_after next (files_turns K next to moment (line + 1) files) in
    let more = text_of next (files_turns K next to moment (line + 1) files) in
    let told = move_line R.nodes line node in
    record {
      in_folder = first_or_later K R end moment line node to files told said more (whole_then told said (move_whole R.nodes line node) one.whole)
          (elim one.ends [
            | inl moved ↦ inl (rest.stays node moved.parent)
            | inr stayed ↦ inr (said_within K moment line told said more (move_whole R.nodes line node) stayed.1)
          ])
          rest.in_folder;
      others = λ n apart. let parts = neither (node == n) (list_any (λ file. file == n) files) apart in rest.others n parts.1 ∙ one_other K R next moment line node to said one n parts.0;
      names = λ n. rest.names n ∙ one_name K R next moment line node to said one n;
      stays = λ n is. rest.stays n (one_parent K R next moment line node to said one n is);
    }
  where
    first_or_later : (K : Capacity) (R end : Rows) (moment line node to : ℕ) (files told said more : List ℕ) → IsWholeLines (told ++ said) → (parent_of end.nodes node ≡ to) ⊎ SaysNot K moment line (told ++ (said ++ more)) → ((place : ℕ) → place < length files → (parent_of end.nodes (slice_index_or files place 0) ≡ to) ⊎ SaysNot K moment ((line + 1) + place) more)
        → (place : ℕ) → place < length (node ∷ files) → (parent_of end.nodes (slice_index_or (node ∷ files) place 0) ≡ to) ⊎ SaysNot K moment (line + place) (told ++ (said ++ more))
    first_or_later K R end moment line node to files told said more lines here later zero low =
        let same : line ≡ line + 0 = omega arith in
        subst (λ (n : ℕ). (parent_of end.nodes node ≡ to) ⊎ SaysNot K moment n (told ++ (said ++ more))) same here
    first_or_later K R end moment line node to files told said more lines here later (suc place) low = elim (later place (omega (arith, low))) [
      | inl stands ↦ inl stands
      | inr stayed ↦
          let same : (line + 1) + place ≡ line + suc place = omega arith in
          let whole : (told ++ said) ++ (more ++ []) ≡ told ++ (said ++ more) = append_assoc told said (more ++ []) ∙ ap (λ (l : List ℕ). told ++ (said ++ l)) (append-nil more) in
          inr (subst (λ (n : ℕ). SaysNot K moment n (told ++ (said ++ more))) same
          (subst (SaysNot K moment ((line + 1) + place)) whole (said_within K moment ((line + 1) + place) (told ++ said) more [] lines stayed)))
    ]

-- ---- the run
folder_there : (nodes : List NodeRow) (path : List (List ℕ)) → leads_to_folder nodes path ≡ true → is_folder nodes (target nodes path) ≡ true
folder_there nodes path h = at (resolve nodes path) h
  where
    at : (o : Option ℕ) → option_map_or (is_folder nodes) o false ≡ true → is_folder nodes (unwrap_or o 0) ≡ true
    at None h = absurd (clash false h refl)
    at (Some n) h = h

pub run_places : (K : Capacity) (R : Rows) (ask : ExpireAsk) → IsValid K R → is_moment ask.expiry.moment ≡ true → leads_to_folder R.nodes ask.from ≡ true → leads_to_folder R.nodes ask.to ≡ true
    → Places K R (rows_after R (expire_turns K R ask)) (target R.nodes ask.to) ask.expiry.moment (expired_files R ask) (text_of R (expire_turns K R ask))
run_places K R ask v m a b =
    let to = target R.nodes ask.to in
    let moment = ask.expiry.moment in
    let files = expired_files R ask in
    let all = all_moved K R to moment 1 files v m (are_files R.nodes (target R.nodes ask.from) to ask.expiry v.volume.ascending) (folder_there R.nodes ask.to b) in
    let same : files_turns K R to moment 1 files ≡ expire_turns K R ask = sym (chosen (leads_to_folder R.nodes ask.from) (leads_to_folder R.nodes ask.to) (files_turns K R to moment 1 files) _ a b) in
    let done = subst (λ (turns : List Turn). AllMoved K R (rows_after R turns) to moment 1 files (text_of R turns)) same all in
    record { in_folder = done.in_folder; others = done.others; names = done.names }
