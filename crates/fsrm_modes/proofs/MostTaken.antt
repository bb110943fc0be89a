-- How much of a script is taken.
use Rattle.std.proofs.Common.{◌≡◌, ℕ, ◌+◌, ◌-◌, ◌≤◌, ◌<◌, List, [], ◌++◌, length, drop, refl, sym, ap, ◌∙◌, subst, length-append, arith}
use Rattle.std.specs.Prelude.{Option, Some}
use Rattle.std.proofs.lemmas.List.{length-drop}
use Rattle.fsrm_model.specs.values.Limits.{longest_script}
use Rattle.fsrm_session.specs.declared.stop.Stop.{Stop}
use Rattle.fsrm_session.specs.declared.stop.Stop.TheVariants as stops
use Rattle.fsrm_modes.specs.Answers.{IsTooLong, most_taken}
use Rattle.fsrm_modes.specs.Bytes.{Loses, Taken, TakenMost}
use Rattle.fsrm_modes.specs.Statuses.{of_stop}
use Rattle.fsrm_modes.specs.declared.status.Status.{Status}
use Rattle.fsrm_modes.specs.declared.status.Status.TheVariants.{Done, Usage, ReadFault, WriteFault, DiskFault, TooLong, Damaged, NoMemory, NoStore, AlreadyStore}
use Rattle.fsrm_modes.proofs.Taking.{taken_nothing, taken_then}

pub most_nothing : (left : Option (List ℕ)) (most : ℕ) → TakenMost left left most
most_nothing left most = record { bytes = []; few = omega arith; taken = taken_nothing left }

-- and more after what was taken before
pub most_then : (l0 l1 l2 : Option (List ℕ)) (xs : List ℕ) (n most : ℕ) → n ≤ most → length xs ≡ n → Taken l0 l1 xs → TakenMost l1 l2 (most - n) → TakenMost l0 l2 most
most_then l0 l1 l2 xs n most short many took more = record {
  bytes = xs ++ more.bytes;
  few = omega (arith, short, more.few, many, length-append xs more.bytes);
  taken = taken_then l0 l1 l2 xs more.bytes took more.taken;
}

pub whole_script : (status : Status) → longest_script ≤ most_taken status
whole_script TooLong = omega arith
whole_script Done = omega arith
whole_script Usage = omega arith
whole_script ReadFault = omega arith
whole_script WriteFault = omega arith
whole_script DiskFault = omega arith
whole_script (Damaged part place) = omega arith
whole_script NoMemory = omega arith
whole_script NoStore = omega arith
whole_script AlreadyStore = omega arith

-- all of a script
pub most_whole : (l0 l1 l2 : Option (List ℕ)) (bytes : List ℕ) (count most : ℕ) → Taken l0 l1 bytes → l2 ≡ l1 → length bytes ≡ count → count ≤ longest_script → longest_script ≤ most → TakenMost l0 l2 most
most_whole l0 l1 l2 bytes count most took left many short enough = record { bytes = bytes; few = omega arith; taken = subst (λ (l : Option (List ℕ)). Taken l0 l bytes) (sym left) took }

-- by a pass that a session ended
pub most_stopped : (stop : Stop) (l0 l1 l2 : Option (List ℕ)) (bytes : List ℕ) (count taken : ℕ) → Taken l0 l1 bytes → l2 ≡ l1 → length bytes ≡ count → taken + count ≤ longest_script → TakenMost l0 l2 (most_taken (of_stop stop) - taken)
most_stopped stops.WriteFault l0 l1 l2 bytes count taken took left many within = record { bytes = bytes; few = omega (arith, many, within); taken = subst (λ (l : Option (List ℕ)). Taken l0 l bytes) (sym left) took }
most_stopped stops.DiskFault l0 l1 l2 bytes count taken took left many within = record { bytes = bytes; few = omega (arith, many, within); taken = subst (λ (l : Option (List ℕ)). Taken l0 l bytes) (sym left) took }
most_stopped stops.NoMemory l0 l1 l2 bytes count taken took left many within = record { bytes = bytes; few = omega (arith, many, within); taken = subst (λ (l : Option (List ℕ)). Taken l0 l bytes) (sym left) took }

-- by a pass that a read ended
pub most_lost : (status : Status) (l0 l1 : Option (List ℕ)) (taken : ℕ) → taken ≤ longest_script → Loses status l0 l1 → TakenMost l0 l1 (most_taken status - taken)
most_lost ReadFault l0 l1 taken within lost = subst (λ (l : Option (List ℕ)). TakenMost l0 l (most_taken ReadFault - taken)) (sym lost) (most_nothing l0 (most_taken ReadFault - taken))
most_lost TooLong l0 l1 taken within lost = record { bytes = lost.0; few = omega (arith, lost.1, within); taken = lost.2 }
most_lost Done l0 l1 taken within lost = absurd lost
most_lost Usage l0 l1 taken within lost = absurd lost
most_lost WriteFault l0 l1 taken within lost = absurd lost
most_lost DiskFault l0 l1 taken within lost = absurd lost
most_lost (Damaged part place) l0 l1 taken within lost = absurd lost
most_lost NoMemory l0 l1 taken within lost = absurd lost
most_lost NoStore l0 l1 taken within lost = absurd lost
most_lost AlreadyStore l0 l1 taken within lost = absurd lost

-- a status is TooLong if so much was taken
too_long_only : (status : Status) → longest_script < most_taken status → status ≡ TooLong
too_long_only TooLong h = refl
too_long_only Done h = absurd (omega (arith, h))
too_long_only Usage h = absurd (omega (arith, h))
too_long_only ReadFault h = absurd (omega (arith, h))
too_long_only WriteFault h = absurd (omega (arith, h))
too_long_only DiskFault h = absurd (omega (arith, h))
too_long_only (Damaged part place) h = absurd (omega (arith, h))
too_long_only NoMemory h = absurd (omega (arith, h))
too_long_only NoStore h = absurd (omega (arith, h))
too_long_only AlreadyStore h = absurd (omega (arith, h))

pub is_too_long : (status : Status) (script : List ℕ) (left : Option (List ℕ)) → TakenMost (Some script) left (most_taken status) → IsTooLong script left → status ≡ TooLong
is_too_long status script left most long =
    let t = most.taken.rest script refl in
    let same : Some t.0 ≡ Some (drop (longest_script + 1) script) = sym t.2 ∙ long.taken in
    let rest : t.0 ≡ drop (longest_script + 1) script = cc in
    too_long_only status (omega (arith, most.few, long.longer, ap length rest, length-drop (longest_script + 1) script, ap length t.1, length-append most.bytes t.0))
