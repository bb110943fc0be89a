-- The hash of a name in a folder: one for all spellings of the name.
use Rattle.std.specs.Prelude.{ℕ, ◌+◌, ◌-◌, ◌*◌, ◌/◌, ◌%◌, ◌^◌, List, map, length, take, drop, bit_or, bit_xor}
use Rattle.std.specs.Int.{w64, from_le_bytes, rotate_left}
use Rattle.std.specs.List.{fold}
use Rattle.std.specs.Simd.{first_chunks}
use Rattle.fsrm_model.specs.values.Name.{folded}

-- a hash with a word more
abbrev pub stir : ℕ → ℕ → ℕ
stir hash word = (bit_xor (rotate_left w64 hash 23) word * 0x9e37_79b9_7f4a_7c15) % 2 ^ 64

-- up to eight bytes as a number, the first one lowest, and in each of the eight the bit that tells apart the cases of a letter
abbrev pub word_of : List ℕ → ℕ
word_of bytes = bit_or (from_le_bytes w64 bytes) 0x2020_2020_2020_2020

-- a hash with the word of some bytes more
abbrev pub with_word : ℕ → List ℕ → ℕ
with_word hash bytes = stir hash (word_of bytes)

-- a word whose lower half depends on all of it
abbrev pub spread : ℕ → ℕ
spread word = bit_xor word (word / 2 ^ 32)

-- the last eight elements, or all if there are fewer
abbrev pub last_eight : List ℕ → List ℕ
last_eight bytes = drop (length bytes - 8) bytes

-- a hash of bytes: by words of eight from the front, and then the last eight
abbrev pub bytes_hash : List ℕ → ℕ
bytes_hash bytes = stir (fold with_word 0x9e37_79b9_7f4a_7c15 (first_chunks 8 (length bytes / 8) bytes)) (spread (word_of (last_eight bytes)))

-- of each character of a name, folded, seven bits
abbrev pub low_bits : List ℕ → List ℕ
low_bits name = map (λ c. c % 128) (folded name)

-- what is hashed of a name: no name has more characters
abbrev pub hashed : List ℕ → List ℕ
hashed name = take 256 (low_bits name)

-- a number of 32 bits: the upper half of one that a folder and a name give
unfoldable pub name_hash : ℕ → List ℕ → ℕ
name_hash folder name = (bytes_hash (hashed name) + folder * 0xd134_2543_de82_ef95) % 2 ^ 64 / 2 ^ 32
