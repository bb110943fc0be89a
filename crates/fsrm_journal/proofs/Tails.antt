-- How many bytes records have.
use Rattle.std.proofs.Common.{◌≡◌, ℕ, ◌+◌, ◌-◌, List, [], ◌∷◌, ◌++◌, length, ap, arith, length-append}
use Rattle.std.specs.Prelude.{Result, Ok, Err, OnOk}
use Rattle.fsrm_journal.specs.Reading.{Comes}
use Rattle.fsrm_journal.specs.Records.{batch, counted, records, Log}
use Rattle.fsrm_journal.proofs.Files.{records-append}

-- a reader that came to these bodies stands after their records
pub stands_after : (half : List ℕ) (place : ℕ) (bodies : List (List ℕ)) (end : ℕ) → Comes half place bodies end → end ≡ place + length (records bodies)
stands_after half place [] end comes = omega (arith, comes)
stands_after half place (body ∷ bodies) end comes = omega (arith, stands_after half (place + 5 + length body) bodies end comes.2, length-append (counted body) (records bodies))

-- those that were read after the image, and those that were added after them
pub tail_has : (half : List ℕ) (log : Log) (before bodies : List (List ℕ)) (image end : ℕ) → Comes half image before (length log.lead) → end ≡ length (log.lead ++ records bodies)
    → end - image ≡ length (records (before ++ bodies))
tail_has half log before bodies image end comes ends = omega (
  arith,
  ends,
  stands_after half image before (length log.lead) comes,
  length-append log.lead (records bodies),
  ap length (records-append before bodies),
  length-append (records before) (records bodies),
)

-- one record, as it is written
pub one_long : (body : List ℕ) → length (batch (body ∷ [])) ≡ 4 + length body
one_long body = omega (arith, length-append (counted body) [])

pub end_after : {T E : Type 0} (r : Result T E) (new mid old size n : ℕ) → OnOk r (new ≡ mid + 1 + size) → mid ≡ old → size ≡ 4 + n → OnOk r (new ≡ old + 5 + n)
end_after (Ok value) new mid old size n is same long =
    let end : new ≡ mid + 1 + size = is in
    omega (arith, end, same, long)
end_after (Err error) new mid old size n is same long = tt
