-- The prefixes that the code finds in bytes, and how it splits bytes. No public clause cites these
-- definitions.
use Rattle.std.specs.Prelude.{ℕ, zero, suc, ◌+◌, ◌≤◌, ◌≡◌, Bool, true, List, length, take, drop}
use Rattle.std.specs.Prelude.{max, if◌then◌else◌}
use Rattle.unix_bytes.specs.Utf8.{is_sequence, begins_sequence}
use Rattle.unix_bytes.specs.Lossy.{is_text}
use Rattle.unix_bytes.specs.Chunks.{Chunk}

-- the greatest n from 1 to m such that the first n bytes of s pass the test, or 0 if there is none
abbrev pub longest_len_to : ℕ → (List ℕ → Bool) → List ℕ → ℕ
longest_len_to zero test s = 0
longest_len_to (suc m) test s = if test (take (suc m) s) then suc m else longest_len_to m test s

-- the length of the longest nonempty prefix of s that passes the test, or 0 if none passes
unfoldable pub longest_len : (List ℕ → Bool) → List ℕ → ℕ
longest_len test s = longest_len_to (length s) test s

-- the longest front of s, which is the first front (`front_of`): the longest prefix of s that
-- begins some sequence, or the first byte of s if that byte begins none
unfoldable pub longest_front_of : List ℕ → List ℕ
longest_front_of s = take (max 1 (longest_len begins_sequence s)) s

-- s has at least n bytes, and its first n bytes begin some sequence
abbrev pub HasBegun : List ℕ → ℕ → Type 0
HasBegun s n = (n ≤ length s) × (begins_sequence (take n s) ≡ true)

-- the length of the first front of s if this front is invalid; 0 if it is a sequence, or s is empty
abbrev pub broken_len : List ℕ → ℕ
broken_len s = let u = longest_front_of s in if is_sequence u then 0 else length u

-- the first chunk of s: the longest prefix of s that is valid UTF-8, and the first front after it
unfoldable pub first_chunk_of : List ℕ → Chunk
first_chunk_of s =
    let n = longest_len is_text s in
    record { valid = take n s; broken = longest_front_of (drop n s) }

-- the number of bytes in a chunk
abbrev pub chunk_len : Chunk → ℕ
chunk_len c = length c.valid + length c.broken

-- the bytes of s after the longest prefix of s that is valid UTF-8
abbrev pub rest_after_text : List ℕ → List ℕ
rest_after_text s = drop (longest_len is_text s) s

-- `valid` is the longest prefix of s that is valid UTF-8, `broken` is the invalid front after it,
-- which is empty if s ends there, and `rest` is the rest of s
pub record Splits (s valid broken rest : List ℕ) : Type 0 where
  pub text : valid ≡ take (longest_len is_text s) s
  pub front : broken ≡ take (broken_len (rest_after_text s)) (rest_after_text s)
  pub after : rest ≡ drop (broken_len (rest_after_text s)) (rest_after_text s)
