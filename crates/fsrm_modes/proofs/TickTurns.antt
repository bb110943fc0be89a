-- Report jobs are told and run, one after another.
use Rattle.std.proofs.Common.{◌≡◌, ℕ, ◌+◌, ◌<◌, true, List, [], ◌∷◌, ◌++◌, drop, get_or, length, sym, take, ◌∙◌, ap, subst, arith}
use Rattle.std.proofs.lemmas.List.{length-take, map-append, take-append-drop, take_more}
use Rattle.std.specs.Prelude.{◌&&◌, nat_le}
use Rattle.std.specs.List.{list_all}
use Rattle.fsrm_base.specs.Keyed.{is_ascending}
use Rattle.fsrm_base.proofs.TestLaws.{both}
use Rattle.fsrm_model.specs.declared.command.Command.{Command}
use Rattle.fsrm_model.specs.declared.row.Capacity.{Capacity}
use Rattle.fsrm_model.specs.declared.row.Rows.{Rows}
use Rattle.fsrm_model.specs.nodes.Tree.{is_folder}
use Rattle.fsrm_model.specs.objects.Jobs.{is_job, job_name, job_number}
use Rattle.fsrm_model.specs.store.Valid.{is_sound_job, IsValid}
use Rattle.fsrm_model.specs.values.Limits.{most_jobs}
use Rattle.fsrm_model.specs.values.Name.{names_differ}
use Rattle.fsrm_model.proofs.valid.ScreensKept.{all_weaker}
use Rattle.fsrm_outside.specs.Members.{Members}
use Rattle.fsrm_outside.proofs.OutsideLaws.{Laws}
use Rattle.fsrm_store.specs.Amortized.{bytes_since}
use Rattle.fsrm_session.specs.Spending.{Spends}
use Rattle.fsrm_session.specs.Turns.{Turn, command_turn}
use Rattle.fsrm_session.specs.Underway.{Goes, Stops}
use Rattle.fsrm_session.specs.declared.session.Session.{Session}
use Rattle.fsrm_session.specs.declared.stop.Stop.{Stop}
use Rattle.fsrm_session.proofs.Going.{goes_stops, goes_then, stops_more}
use Rattle.fsrm_session.proofs.Spending.{spends_first, spends_then}
use Rattle.fsrm_modes.specs.Ticks.{commands_turns, unread_turn, unread_turns}

-- ---- turns of a list, up to a place
-- the next turn was taken
pub turn_goes : {O : Type 0} {M : Members O} (all done : List Turn) (turn : Turn) (a b c : Session) (first mid last : O) → Laws M → done ++ turn ∷ [] ≡ all → Goes M done a b first mid → Goes M (turn ∷ []) b c mid last → Goes M all a c first last
turn_goes {M = M} all done turn a b c first mid last laws is p q = subst (λ (l : List Turn). Goes M l a c first last) is (goes_then done (turn ∷ []) a b c first mid last laws p q)

-- the run stopped at it
pub turn_stops : {O : Type 0} {M : Members O} (all done rest : List Turn) (turn : Turn) (stop : Stop) (a b c : Session) (first mid last : O) → Laws M → (done ++ turn ∷ []) ++ rest ≡ all → Goes M done a b first mid → Stops M stop (turn ∷ []) b c mid last → Stops M stop all a c first last
turn_stops {M = M} all done rest turn stop a b c first mid last laws is p q =
    subst (λ (l : List Turn). Stops M stop l a c first last) is (stops_more stop (done ++ turn ∷ []) rest a c first last (goes_stops stop done (turn ∷ []) a b c first mid last laws p q))

-- what they take
pub turn_spends : {O : Type 0} {M : Members O} (all done : List Turn) (turn : Turn) (a b : Session) (first mid : O) (looks spent steps left : ℕ) → done ++ turn ∷ [] ≡ all → Goes M done a b first mid → Spends M done a first looks spent (bytes_since b.store.journal) → Spends M (turn ∷ []) b mid spent steps left
    → Spends M all a first looks steps left
turn_spends {M = M} all done turn a b first mid looks spent steps left is goes p q = subst (λ (l : List Turn). Spends M l a first looks steps left) is (spends_then done (turn ∷ []) a b first mid looks spent steps left goes p q)

pub stop_spends : {O : Type 0} {M : Members O} (all done rest : List Turn) (turn : Turn) (a b : Session) (first mid : O) (looks spent steps left : ℕ) → (done ++ turn ∷ []) ++ rest ≡ all → Goes M done a b first mid → Spends M done a first looks spent (bytes_since b.store.journal) → Spends M (turn ∷ []) b mid spent steps left
    → Spends M all a first looks steps left
stop_spends {M = M} all done rest turn a b first mid looks spent steps left is goes p q =
    subst (λ (l : List Turn). Spends M l a first looks steps left) is (spends_first (done ++ turn ∷ []) rest a first looks steps left (spends_then done (turn ∷ []) a b first mid looks spent steps left goes p q))

-- ---- names of jobs
pub name_more : (names : List (List ℕ)) (k : ℕ) (name : List ℕ) → k < length names → name ≡ get_or names k name → unread_turns (take k names) ++ unread_turn name ∷ [] ≡ unread_turns (take (k + 1) names)
name_more names k name within is =
    sym (map-append unread_turn (take k names) (name ∷ []))
    ∙ ap unread_turns (ap (λ (n : List ℕ). take k names ++ n ∷ []) is ∙ sym (take_more names k name within))

pub names_rest : (names : List (List ℕ)) (k : ℕ) (name : List ℕ) → k < length names → name ≡ get_or names k name → (unread_turns (take k names) ++ unread_turn name ∷ []) ++ unread_turns (drop (k + 1) names) ≡ unread_turns names
names_rest names k name within is =
    ap (λ (l : List Turn). l ++ unread_turns (drop (k + 1) names)) (name_more names k name within is)
    ∙ (sym (map-append unread_turn (take (k + 1) names) (drop (k + 1) names)) ∙ ap unread_turns (take-append-drop (k + 1) names))

-- ---- commands
pub commands_then : (K : Capacity) (line : ℕ) (xs ys : List Command) → commands_turns K line (xs ++ ys) ≡ commands_turns K line xs ++ commands_turns K (line + length xs) ys
commands_then K line [] ys = ap (λ n. commands_turns K n ys) (omega arith)
commands_then K line (x ∷ xs) ys =
    ap (λ (l : List Turn). command_turn K line x ∷ l) (commands_then K (line + 1) xs ys ∙ ap (λ n. commands_turns K (line + 1) xs ++ commands_turns K n ys) (omega arith))

pub command_more : (K J : Capacity) (commands : List Command) (k : ℕ) (c : Command) → k < length commands → c ≡ get_or commands k c → J ≡ K → commands_turns K 1 (take k commands) ++ command_turn J (k + 1) c ∷ [] ≡ commands_turns K 1 (take (k + 1) commands)
command_more K J commands k c within is size =
    let count : k + 1 ≡ 1 + length (take k commands) = omega (arith, length-take k commands, within) in
    let done = commands_turns K 1 (take k commands) in
    ap (λ (S : Capacity). done ++ command_turn S (k + 1) c ∷ []) size
    ∙ (ap (λ n. done ++ command_turn K n c ∷ []) count
    ∙ (sym (commands_then K 1 (take k commands) (c ∷ []))
    ∙ ap (commands_turns K 1) (ap (λ (x : Command). take k commands ++ x ∷ []) is ∙ sym (take_more commands k c within))))

pub commands_rest : (K J : Capacity) (commands : List Command) (k : ℕ) (c : Command) → k < length commands → c ≡ get_or commands k c → J ≡ K
    → (commands_turns K 1 (take k commands) ++ command_turn J (k + 1) c ∷ []) ++ commands_turns K (1 + length (take (k + 1) commands)) (drop (k + 1) commands) ≡ commands_turns K 1 commands
commands_rest K J commands k c within is size =
    ap (λ (l : List Turn). l ++ commands_turns K (1 + length (take (k + 1) commands)) (drop (k + 1) commands)) (command_more K J commands k c within is size)
    ∙ (sym (commands_then K 1 (take (k + 1) commands) (drop (k + 1) commands)) ∙ ap (commands_turns K 1) (take-append-drop (k + 1) commands))

-- ---- the jobs of a store
pub valid_jobs : (K : Capacity) (R : Rows) → IsValid K R → list_all is_job R.jobs ≡ true
valid_jobs K R store =
    let parts = both (is_ascending job_number R.jobs && nat_le (length R.jobs) most_jobs) (list_all (is_sound_job R.nodes) R.jobs && names_differ job_name R.jobs) store.tables.jobs in
    all_weaker (is_sound_job R.nodes) is_job R.jobs (λ job sound. (both (is_folder R.nodes job.scope) (is_job job) sound).1) (both (list_all (is_sound_job R.nodes) R.jobs) (names_differ job_name R.jobs) parts.1).0
