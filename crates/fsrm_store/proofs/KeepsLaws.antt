-- What the bytes of a store keep of its rows while they are written.
use Rattle.std.proofs.Common.{◌≡◌, ◌⊎◌, inl, inr, ℕ, ◌+◌, ◌≤◌, true, List, [], ◌∷◌, ◌++◌, length, take, drop, refl, sym, ◌∙◌, ap, subst, append_assoc, arith, length-take}
use Rattle.std.specs.Prelude.{◌&&◌, Ok}
use Rattle.std.specs.List.{list_all}
use Rattle.std.specs.Str.{chars, is_utf8}
use Rattle.std.proofs.lemmas.List.{append-nil, get_or-take, get_or_past}
use Rattle.std.proofs.lemmas.Bool.{cases_lt}
use Rattle.fsrm_base.proofs.TestLaws.{both, both_true}
use Rattle.fsrm_model.specs.declared.command.Command.{Command}
use Rattle.fsrm_model.specs.declared.command.Deed.{Deed}
use Rattle.fsrm_model.specs.declared.command.Deed.TheVariants.{Step}
use Rattle.fsrm_model.specs.declared.command.Entry.{Entry}
use Rattle.fsrm_model.specs.declared.row.Capacity.{Capacity}
use Rattle.fsrm_model.specs.declared.row.Rows.{Rows}
use Rattle.fsrm_model.specs.commands.Step.{step}
use Rattle.fsrm_model.specs.nodes.Fresh.{new_rows}
use Rattle.fsrm_model.specs.store.Lasting.{lasting}
use Rattle.fsrm_model.specs.store.OldReplays.{old_replayed}
use Rattle.fsrm_model.specs.store.Replays.{recovered, deed_entry, journal_entry, command_entries, is_valid_entry, IsJournaled}
use Rattle.fsrm_model.specs.store.Valid.{is_moment, IsValid}
use Rattle.fsrm_model.specs.store.Valued.{is_deed, is_short, is_command}
use Rattle.fsrm_model.proofs.commands.EachCommand.{lasting_kind}
use Rattle.fsrm_model.proofs.journal.EntryLaws.{journaled_new, journaled_again, journaled_next}
use Rattle.fsrm_model.proofs.journal.FinishLaws.{lasting_valid}
use Rattle.fsrm_model.proofs.journal.OldLaws.{old_replayed_same}
use Rattle.fsrm_model.proofs.valid.ValidTests.{valid_by_test, test_by_valid, new_valid}
use Rattle.fsrm_outside.specs.Parts.{Parts, part_of, other}
use Rattle.fsrm_outside.specs.declared.traits.Part.{Part}
use Rattle.fsrm_journal.specs.Reading.{Comes}
use Rattle.fsrm_journal.specs.declared.heads.Head.{Head}
use Rattle.fsrm_journal.proofs.Walks.{stands}
use Rattle.record_fields.specs.Laws.{AreBytes}
use Rattle.record_fields.proofs.ReadLaws.{bytes_drop}
use Rattle.record_codec.specs.Writing.{IsWritable}
use Rattle.record_codec.proofs.RecordBodies.{body_valid}
use Rattle.image_codec.specs.Images.{image_in}
use Rattle.image_codec.specs.NewImage.{new_image}
use Rattle.image_codec.proofs.NewImage.{new_spelled}
use Rattle.image_codec.proofs.WholeImages.{image_again}
use Rattle.fsrm_journal.specs.Stores.{HoldsStore, HoldsWithOrWithout, HoldsOldOrNew}
use Rattle.fsrm_store.specs.Keeps.{Spell, HoldsState, HoldsOldState, Keeps}

pub spell_more : (bodies more : List (List ℕ)) (entries others : List Entry) → Spell bodies entries → Spell more others → Spell (bodies ++ more) (entries ++ others)
spell_more [] more [] others a b = b
spell_more [] more (e ∷ es) others a b = absurd a
spell_more (body ∷ bodies) more [] others a b = absurd a
spell_more (body ∷ bodies) more (e ∷ es) others a b = (a.0, spell_more bodies more es others a.1 b)

none_waits : (waiting : List Entry) → Spell [] waiting → waiting ≡ []
none_waits [] s = refl
none_waits (e ∷ es) s = absurd s

-- ---- what a crash leaves
pub keeps_settled : (kept : Rows) (head : Head) (image : List ℕ) (bodies : List (List ℕ)) (R : Rows) → Keeps kept head image bodies [] R → kept ≡ lasting R
keeps_settled kept head image bodies R k =
    let all : k.written ≡ k.written ++ k.waiting = sym (append-nil k.written) ∙ ap (λ (es : List Entry). k.written ++ es) (sym (none_waits k.waiting k.holds)) in
    sym k.recovers ∙ (ap (recovered head.size k.base) all ∙ k.journaled.recovers)

pub written_holds : (ruling : Part) (kept : Rows) (head : Head) (image : List ℕ) (bodies held : List (List ℕ)) (R : Rows) (parts : Parts) → Keeps kept head image bodies held R → HoldsStore ruling head image bodies parts → HoldsState head.size kept parts
written_holds ruling kept head image bodies held R parts k s = record {
  ruling = ruling;
  head = head;
  image = image;
  bodies = bodies;
  base = k.base;
  entries = k.written;
  store = s;
  tells = k.tells;
  size = refl;
  recovers = k.recovers;
}

-- once what is held is written, too
pub flush_keeps : (kept : Rows) (head : Head) (image : List ℕ) (bodies held : List (List ℕ)) (R : Rows) → Keeps kept head image bodies held R → Keeps (lasting R) head image (bodies ++ held) [] R
flush_keeps kept head image bodies held R k = record {
  base = k.base;
  written = k.written ++ k.waiting;
  waiting = [];
  tells = record { rows = k.tells.rows; valid = k.tells.valid; told = spell_more bodies held k.written k.waiting k.tells.told k.holds };
  holds = tt;
  journaled = subst (λ (es : List Entry). IsJournaled head.size k.base es R) (sym (append-nil (k.written ++ k.waiting))) k.journaled;
  recovers = k.journaled.recovers;
}

pub crash_leaves : (ruling : Part) (kept : Rows) (head : Head) (image : List ℕ) (bodies held : List (List ℕ)) (R : Rows) (parts : Parts) → Keeps kept head image bodies held R → HoldsWithOrWithout ruling head image bodies held parts
    → HoldsState head.size kept parts ⊎ HoldsState head.size (lasting R) parts
crash_leaves ruling kept head image bodies held R parts k (inl s) = inl (written_holds ruling kept head image bodies held R parts k s)
crash_leaves ruling kept head image bodies held R parts k (inr s) = inr (written_holds ruling (lasting R) head image (bodies ++ held) [] R parts (flush_keeps kept head image bodies held R k) s)

-- ---- what a store's calls keep
pub opened_keeps : (K : Capacity) (R : Rows) (parts : Parts) (h : HoldsState K R parts) → list_all is_valid_entry h.entries ≡ true → Keeps R h.head h.image h.bodies [] R
opened_keeps K R parts h valid = record {
  base = h.base;
  written = h.entries;
  waiting = [];
  tells = h.tells;
  holds = tt;
  journaled =
      subst (λ (es : List Entry). IsJournaled h.head.size h.base es R) (sym (append-nil h.entries))
      (subst (IsJournaled h.head.size h.base h.entries) h.recovers
      (journaled_again h.head.size h.base h.entries (valid_by_test h.head.size h.base h.tells.valid) valid));
  recovers = h.recovers;
}

pub command_keeps : (kept : Rows) (head : Head) (image : List ℕ) (bodies held more : List (List ℕ)) (R : Rows) (c : Command) → Keeps kept head image bodies held R → is_command c ≡ true → Spell more (command_entries head.size R c)
    → Keeps kept head image bodies (held ++ more) (step head.size R c).rows
command_keeps kept head image bodies held more R c k legal spell = record {
  base = k.base;
  written = k.written;
  waiting = k.waiting ++ command_entries head.size R c;
  tells = k.tells;
  holds = spell_more held more k.waiting (command_entries head.size R c) k.holds spell;
  journaled =
      subst (λ (es : List Entry). IsJournaled head.size k.base es (step head.size R c).rows) (append_assoc k.written k.waiting (command_entries head.size R c))
      (journaled_next head.size k.base (k.written ++ k.waiting) R c k.journaled legal);
  recovers = k.recovers;
}

pub image_keeps : (head : Head) (image : List ℕ) (R : Rows) → IsValid head.size R → image_in (length image) image ≡ Ok (lasting R) → Keeps (lasting R) head image [] [] R
image_keeps head image R valid read =
    let journaled = journaled_new head.size R valid in
    record {
      base = lasting R;
      written = [];
      waiting = [];
      tells = record { rows = read; valid = test_by_valid head.size (lasting R) (lasting_valid head.size R valid); told = tt };
      holds = tt;
      journaled = journaled;
      recovers = journaled.recovers;
    }

-- the image of a new store is read as its rows, which are kept as they are
pub new_keeps : (head : Head) → 1 ≤ head.size.nodes → Keeps new_rows head new_image [] [] new_rows
unfolding is_utf8 chars
new_keeps head some =
    let read : image_in (length new_image) new_image ≡ Ok new_rows = subst (λ (bytes : List ℕ). image_in (length bytes) bytes ≡ Ok new_rows) new_spelled (image_again new_rows refl) in
    image_keeps head new_image new_rows (new_valid head.size (omega (arith, some))) read

-- ---- what a command that lasts has written
deed_writable : (K : Capacity) (R : Rows) (moment : ℕ) (deed : Deed) → IsValid K R → is_command (record { moment = moment; deed = deed }) ≡ true → (step K R (record { moment = moment; deed = deed })).lasting ≡ true → IsWritable (deed_entry R moment deed)
deed_writable K R moment (Step n) s legal lasts =
    let parts : (is_moment moment ≡ true) × ((is_deed (Step n) && is_short (Step n)) ≡ true) = both _ _ legal in parts.0
deed_writable K R moment other s legal lasts = (legal, lasting_kind K R (record { moment = moment; deed = other }) s refl lasts)

pub entry_writable : (K : Capacity) (R : Rows) (c : Command) → IsValid K R → is_command c ≡ true → (step K R c).lasting ≡ true → IsWritable (journal_entry R c)
entry_writable K R c s legal lasts = deed_writable K R c.moment c.deed s legal lasts

-- ---- what a change to another half leaves
pub change_leaves : (ruling : Part) (kept : Rows) (head next : Head) (image new : List ℕ) (bodies : List (List ℕ)) (R : Rows) (parts : Parts) → Keeps kept head image bodies [] R → Keeps (lasting R) next new [] [] R → next.size ≡ head.size
    → HoldsOldOrNew ruling head image bodies next new parts → HoldsState head.size (lasting R) parts
change_leaves ruling kept head next image new bodies R parts k l size (inl s) =
    subst (λ (kept : Rows). HoldsState head.size kept parts) (keeps_settled kept head image bodies R k) (written_holds ruling kept head image bodies [] R parts k s)
change_leaves ruling kept head next image new bodies R parts k l size (inr s) =
    subst (λ (size : Capacity). HoldsState size (lasting R) parts) size (written_holds (other ruling) (lasting R) next new [] [] R parts l s)

-- ---- entries that bytes spell are valid
bytes_front : (n : ℕ) (bytes : List ℕ) → AreBytes bytes → AreBytes (take n bytes)
bytes_front n bytes are i = elim (cases_lt i n) [
  | inl within ↦ rw (get_or-take n bytes i 0 within) (are i)
  | inr past ↦ rw (get_or_past (take n bytes) i 0 (omega (arith, length-take n bytes, past))) (omega arith)
]

comes_valid : (half : List ℕ) (place end : ℕ) (bodies : List (List ℕ)) (entries : List Entry) → AreBytes half → Comes half place bodies end → Spell bodies entries → list_all is_valid_entry entries ≡ true
comes_valid half place end [] [] are comes spell = refl
comes_valid half place end [] (e ∷ es) are comes spell = absurd spell
comes_valid half place end (body ∷ bodies) [] are comes spell = absurd spell
comes_valid half place end (body ∷ bodies) (e ∷ es) are comes spell =
    let s = (stands half place (place + 5) (length body) comes.0).0 in
    let own : AreBytes body = subst AreBytes comes.1 (bytes_front (length body) (drop (place + 5) half) (bytes_drop (place + 5) half are)) in
    both_true (is_valid_entry e) (list_all is_valid_entry es) (body_valid body e own s.most spell.0) (comes_valid half (place + 5 + length body) end bodies es are comes.2 spell.1)

pub state_valid : (K : Capacity) (R : Rows) (parts : Parts) (h : HoldsState K R parts) → AreBytes (part_of h.ruling parts) → list_all is_valid_entry h.entries ≡ true
state_valid K R parts h are = comes_valid (part_of h.ruling parts) (48 + length h.image) h.store.reads.end h.bodies h.entries are h.store.reads.comes h.tells.told

-- ---- what a store of version 1 holds
pub old_state : (K : Capacity) (R : Rows) (parts : Parts) (old : HoldsOldState K R parts) → lasting (old_replayed K old.state.base old.state.entries) ≡ R
old_state K R parts old =
    ap lasting (old_replayed_same K old.state.base old.state.entries old.made)
    ∙ (ap (λ (K : Capacity). recovered K old.state.base old.state.entries) (sym old.state.size) ∙ old.state.recovers)
