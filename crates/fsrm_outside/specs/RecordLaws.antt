-- How a record of calls goes on, and what calls of one kind leave of what the others do.
use Rattle.std.specs.Prelude.{◌≡◌, ◌↔◌, ℕ, zero, suc, ◌+◌, ◌-◌, ◌≤◌, List, [], ◌∷◌, ◌++◌, length, take, drop, reverse, refl}
use Rattle.std.proofs.Common.{sym, ◌∙◌, ap, subst, arith, append_assoc, length-append}
use Rattle.std.proofs.lemmas.List.{append-nil, take-append-le, drop-append-le, reverse-append}
use Rattle.std.proofs.Math.Seq.{take-append-add}
use Rattle.fsrm_outside.specs.DiskModel.{IsImage}
use Rattle.fsrm_outside.specs.Parts.{Parts}
use Rattle.fsrm_outside.specs.Record.{text_of, since, IsRead, IsWrite, IsDisk, Each, GoesOn}
use Rattle.fsrm_outside.specs.Shown.{IsFront}
use Rattle.fsrm_outside.specs.declared.calls.Call.{Call}
use Rattle.fsrm_outside.specs.declared.calls.Call.TheVariants.{Read, Write, Len, ReadAt, WriteAt, FailedAt, Sync}

Each-append : (P : Call → Type 0) (xs ys : List Call) → Each P xs → Each P ys → Each P (xs ++ ys)
Each-append P [] ys a b = b
Each-append P (x ∷ xs) ys a b = (a.0, Each-append P xs ys a.1 b)

Each-take : (P : Call → Type 0) (n : ℕ) (xs : List Call) → Each P xs → Each P (take n xs)
Each-take P zero xs each = tt
Each-take P (suc n) [] each = tt
Each-take P (suc n) (x ∷ xs) each = (each.0, Each-take P n xs each.1)

Each-reverse : (P : Call → Type 0) (xs : List Call) → Each P xs → Each P (reverse xs)
Each-reverse P [] each = tt
Each-reverse P (x ∷ xs) each = subst (Each P) (sym (reverse-append (x ∷ []) xs)) (Each-append P (reverse xs) (x ∷ []) (Each-reverse P xs each.1) (each.0, tt))

pub goes_same : (P : Call → Type 0) (calls : List Call) → GoesOn P calls calls
goes_same P calls = record { more = []; is = sym (append-nil calls); kind = tt }

pub goes_then : (P : Call → Type 0) (a b c : List Call) → GoesOn P a b → GoesOn P b c → GoesOn P a c
goes_then P a b c first second = record {
  more = first.more ++ second.more;
  is = second.is ∙ ap (λ (l : List Call). l ++ second.more) first.is ∙ append_assoc a first.more second.more;
  kind = Each-append P first.more second.more first.kind second.kind;
}

-- the record of a moment before or after the calls that came
module _ (P : Call → Type 0) (a b : List Call) (goes : GoesOn P a b) where
  pub longer : length a ≤ length b
  longer = omega (arith, ap length goes.is, length-append a goes.more)

  pub earlier : (m : ℕ) → m ≤ length a → take m b ≡ take m a
  earlier m few = ap (take m) goes.is ∙ take-append-le m a goes.more few

  pub newest : ℕ → List Call
  newest m = reverse (take (m - length a) goes.more)

  pub newest_kind : (m : ℕ) → Each P (newest m)
  unfolding newest
  newest_kind m = Each-reverse P (take (m - length a) goes.more) (Each-take P (m - length a) goes.more goes.kind)

  later : (m : ℕ) → length a ≤ m → take m b ≡ a ++ take (m - length a) goes.more
  later m many =
      let is : length a + (m - length a) ≡ m = omega arith in
      ap (take m) goes.is ∙ sym (ap (λ (k : ℕ). take k (a ++ goes.more)) is) ∙ take-append-add a goes.more (m - length a)

  pub newest_first : (begun m : ℕ) → begun ≤ length a → length a ≤ m → since begun (take m b) ≡ newest m ++ since begun a
  unfolding newest
  newest_first begun m old many =
      ap (since begun) (later m many) ∙ ap reverse (drop-append-le begun a (take (m - length a) goes.more) old) ∙ reverse-append (drop begun a) (take (m - length a) goes.more)

-- calls that aren't the disk's leave what a crash may leave
pub image_read : (start : Parts) (xs ys : List Call) (image : Parts) → Each IsRead xs → IsImage start (xs ++ ys) image ↔ IsImage start ys image
image_read start [] ys image each = (λ p. p, λ p. p)
image_read start (Read ∷ xs) ys image each = image_read start xs ys image each.1
image_read start (Write bytes ∷ xs) ys image each = absurd each.0
image_read start (Len ∷ xs) ys image each = absurd each.0
image_read start (ReadAt ∷ xs) ys image each = absurd each.0
image_read start (WriteAt part place bytes ∷ xs) ys image each = absurd each.0
image_read start (FailedAt part place count ∷ xs) ys image each = absurd each.0
image_read start (Sync done ∷ xs) ys image each = absurd each.0

pub image_write : (start : Parts) (xs ys : List Call) (image : Parts) → Each IsWrite xs → IsImage start (xs ++ ys) image ↔ IsImage start ys image
image_write start [] ys image each = (λ p. p, λ p. p)
image_write start (Write bytes ∷ xs) ys image each = image_write start xs ys image each.1
image_write start (Read ∷ xs) ys image each = absurd each.0
image_write start (Len ∷ xs) ys image each = absurd each.0
image_write start (ReadAt ∷ xs) ys image each = absurd each.0
image_write start (WriteAt part place bytes ∷ xs) ys image each = absurd each.0
image_write start (FailedAt part place count ∷ xs) ys image each = absurd each.0
image_write start (Sync done ∷ xs) ys image each = absurd each.0

-- calls that aren't the sink's leave what is shown
pub text_read : (xs ys : List Call) → Each IsRead xs → text_of (xs ++ ys) ≡ text_of ys
text_read [] ys each = refl
text_read (Read ∷ xs) ys each = text_read xs ys each.1
text_read (Write bytes ∷ xs) ys each = absurd each.0
text_read (Len ∷ xs) ys each = absurd each.0
text_read (ReadAt ∷ xs) ys each = absurd each.0
text_read (WriteAt part place bytes ∷ xs) ys each = absurd each.0
text_read (FailedAt part place count ∷ xs) ys each = absurd each.0
text_read (Sync done ∷ xs) ys each = absurd each.0

pub text_disk : (xs ys : List Call) → Each IsDisk xs → text_of (xs ++ ys) ≡ text_of ys
text_disk [] ys each = refl
text_disk (Read ∷ xs) ys each = absurd each.0
text_disk (Write bytes ∷ xs) ys each = absurd each.0
text_disk (Len ∷ xs) ys each = text_disk xs ys each.1
text_disk (ReadAt ∷ xs) ys each = text_disk xs ys each.1
text_disk (WriteAt part place bytes ∷ xs) ys each = text_disk xs ys each.1
text_disk (FailedAt part place count ∷ xs) ys each = text_disk xs ys each.1
text_disk (Sync done ∷ xs) ys each = text_disk xs ys each.1

-- what was shown isn't taken back
pub text_more : (xs ys : List Call) → IsFront (text_of ys) (text_of (xs ++ ys))
text_more [] ys = ([], sym (append-nil (text_of ys)))
text_more (Read ∷ xs) ys = text_more xs ys
text_more (Len ∷ xs) ys = text_more xs ys
text_more (ReadAt ∷ xs) ys = text_more xs ys
text_more (WriteAt part place bytes ∷ xs) ys = text_more xs ys
text_more (FailedAt part place count ∷ xs) ys = text_more xs ys
text_more (Sync done ∷ xs) ys = text_more xs ys
text_more (Write bytes ∷ xs) ys = let r = text_more xs ys in (r.0 ++ bytes.items, ap (λ (l : List ℕ). l ++ bytes.items) r.1 ∙ append_assoc (text_of ys) r.0 bytes.items)
