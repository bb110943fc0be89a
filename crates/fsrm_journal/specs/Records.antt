-- Records in a half: each is a gate, the length of its body in four bytes, the body, and then comes the next gate.
use Rattle.std.specs.Prelude.{◌≡◌, ◌≢◌, ◌⊎◌, ℕ, ◌+◌, Option, Some, List, [], ◌∷◌, ◌++◌, length}
use Rattle.byteorder.specs.Endian.{little_bytes}
use Rattle.fsrm_model.specs.values.Limits.{longest_entry}
use Rattle.fsrm_outside.specs.Parts.{Parts, part_of, other}
use Rattle.fsrm_outside.specs.declared.traits.Part.{Part}

-- a body after its length
abbrev pub counted : List ℕ → List ℕ
counted body = little_bytes 4 (length body) ++ body

-- the records of these bodies, each with an open gate
abbrev pub records : List (List ℕ) → List ℕ
records [] = []
records (body ∷ bodies) = 1 ∷ counted body ++ records bodies

-- the records without their first gate, as a batch is written
abbrev pub batch : List (List ℕ) → List ℕ
batch [] = []
batch (body ∷ bodies) = counted body ++ records bodies

-- the bytes of the longest record: its gate, the length of its body, and the longest body
abbrev pub longest_record : ℕ
longest_record = longest_entry + 5

-- Where records stand: the half that rules, what it holds before its records, and what the other half holds.
pub record Log : Type 0 where
  pub ruling : Part
  pub lead : List ℕ
  pub beside : List ℕ

-- The parts hold these bodies: after the lead come their records, then a closed gate. What follows it has no meaning.
pub record Holds (log : Log) (bodies : List (List ℕ)) (parts : Parts) : Type 0 where
  pub gate : ℕ
  pub rest : List ℕ
  pub closed : gate ≢ 1
  pub split : part_of log.ruling parts ≡ log.lead ++ records bodies ++ gate ∷ rest
  pub same : part_of (other log.ruling) parts ≡ log.beside

-- these bodies, with all of those held or none of them
abbrev pub HoldsAllOrNone : Log → List (List ℕ) → List (List ℕ) → Parts → Type 0
HoldsAllOrNone log bodies held parts = Holds log bodies parts ⊎ Holds log (bodies ++ held) parts

-- A read gives these bodies, their closed gate stands at end, and a crash leaves the parts as they are.
pub record Settled {D : Type 0} (reads : D → Option Parts) (clock : D → Option ℕ) (images : D → ℕ → Parts → Type 0) (log : Log) (bodies : List (List ℕ)) (ruling : Part) (end : ℕ) (disk : D) : Type 0 where
  pub parts : Parts
  pub told : reads disk ≡ Some parts
  pub holds : Holds log bodies parts
  pub rules : ruling ≡ log.ruling
  pub ends : end ≡ length (log.lead ++ records bodies)
  pub only : (t : ℕ) (image : Parts) → clock disk ≡ Some t → images disk t image → image ≡ parts

-- The same, and after the closed gate stand these bytes and another closed gate.
pub record Staged {D : Type 0} (reads : D → Option Parts) (clock : D → Option ℕ) (images : D → ℕ → Parts → Type 0) (log : Log) (bodies : List (List ℕ)) (bytes : List ℕ) (end : ℕ) (disk : D) : Type 0 where
  pub parts : Parts
  pub told : reads disk ≡ Some parts
  pub gate : ℕ
  pub rest : List ℕ
  pub closed : gate ≢ 1
  pub split : part_of log.ruling parts ≡ log.lead ++ records bodies ++ gate ∷ (bytes ++ 0 ∷ rest)
  pub same : part_of (other log.ruling) parts ≡ log.beside
  pub ends : end ≡ length (log.lead ++ records bodies)
  pub only : (t : ℕ) (image : Parts) → clock disk ≡ Some t → images disk t image → image ≡ parts
