-- A change to the other half that is given up.
use Rattle.std.proofs.Common.{◌≡◌, ℕ, Some, List, ◌∷◌, ◌++◌, length, sym, ◌∙◌, ap}
use Rattle.std.specs.Prelude.{Option}
use Rattle.fsrm_outside.specs.Parts.{Parts, part_of, other}
use Rattle.fsrm_outside.specs.declared.traits.Part.{Part}
use Rattle.fsrm_outside.proofs.Stages.{some_is}
use Rattle.fsrm_journal.specs.Heads.{head_of, is_open, generation_at}
use Rattle.fsrm_journal.specs.Halves.{head_tail, Certain, Filling, Knows, Shut}
use Rattle.fsrm_journal.specs.Records.{records, Log, Holds, Settled}
use Rattle.fsrm_journal.specs.declared.heads.Head.{Head}
use Rattle.fsrm_journal.specs.declared.journal.Journal.{Journal}
use Rattle.fsrm_journal.proofs.Turns.{shut_gate, shut_stays}

-- the gate of the other half is closed, and the journal knows that
pub knows_filling : {D : Type 0} {reads : D → Option Parts} {clock : D → Option ℕ} {images : D → ℕ → Parts → Type 0} (half front : List ℕ) (head : Head) (journal : Journal) (disk : D) (parts : Parts)
    → Filling reads clock images half head front journal disk → reads disk ≡ Some parts → Knows parts journal
knows_filling half front head journal disk parts f told =
    let r = journal.ruling in
    let b = f.beside in
    let is : b.parts ≡ parts = some_is (sym b.told ∙ told) in
    let same : part_of r parts ≡ half = ap (part_of r) (sym is) ∙ b.same in
    let rest = (head_tail head ++ front) ++ b.rest in
    let split : part_of (other r) parts ≡ b.gate ∷ rest = ap (part_of (other r)) (sym is) ∙ b.split in
    let shut : Shut r half parts = record { same = same; gate = b.gate; rest = rest; split = split; closed = b.closed } in
    record {
      rules = (shut_stays r half parts f.follows.opened f.follows.sound shut).rules;
      generation = f.generation ∙ ap (λ (l : List ℕ). generation_at (head_of l)) (sym same);
      beside = f.shut ∙ sym (ap (λ (l : List ℕ). is_open (head_of l)) split ∙ shut_gate b.gate rest b.closed);
    }

-- the half that rules holds what it held
pub settled_again : {D : Type 0} {reads : D → Option Parts} {clock : D → Option ℕ} {images : D → ℕ → Parts → Type 0} (half front : List ℕ) (head : Head) (journal : Journal) (disk synced : D) (log now : Log) (bodies : List (List ℕ)) (old parts : Parts)
    → Filling reads clock images half head front journal disk → Certain reads clock images parts synced → reads synced ≡ reads disk
    → Holds log bodies old → part_of log.ruling old ≡ half → journal.ruling ≡ log.ruling → journal.end ≡ length (log.lead ++ records bodies)
    → now.ruling ≡ log.ruling → now.lead ≡ log.lead → now.beside ≡ part_of (other log.ruling) parts
    → Settled reads clock images now bodies journal.ruling journal.end synced
settled_again half front head journal disk synced log now bodies old parts f certain same_reads h was rules ends ruling lead beside =
    let is : f.beside.parts ≡ parts = some_is (sym f.beside.told ∙ sym same_reads ∙ certain.told) in
    let here : part_of now.ruling parts ≡ part_of log.ruling old =
    ap (λ (x : Part). part_of x parts) (ruling ∙ sym rules) ∙ ap (part_of journal.ruling) (sym is) ∙ f.beside.same ∙ sym was in
    record {
      parts = parts;
      told = certain.told;
      holds = record {
        gate = h.gate;
        rest = h.rest;
        closed = h.closed;
        split = here ∙ h.split ∙ ap (λ (l : List ℕ). l ++ records bodies ++ h.gate ∷ h.rest) (sym lead);
        same = ap (λ (x : Part). part_of (other x) parts) ruling ∙ sym beside;
      };
      rules = rules ∙ sym ruling;
      ends = ends ∙ ap (λ (l : List ℕ). length (l ++ records bodies)) (sym lead);
      only = certain.only;
    }
