-- Where a run of names ends: at a separator after which no name starts.
use Rattle.std.specs.Prelude.{◌≡◌, ◌<◌, ◌≤◌, ℕ, ◌+◌, ◌==◌, Bool, true, false, ◌||◌, ◌&&◌, List}
use Rattle.std.specs.Prelude.{length, slice_index, slice_index_or, bit_and}

-- the byte of s at i is the separator, and another separator, a dot, or the end of s follows it
abbrev pub is_end_candidate_of : ℕ → ℕ → List ℕ → ℕ → Bool
is_end_candidate_of separator dot s i =
    let next = slice_index_or s (i + 1) separator in
    slice_index s i == separator && (next == separator || next == dot)

-- the byte has none of the bits of 208 (0xD0); names seldom begin with such a byte
abbrev pub LacksBits : ℕ → Type 0
LacksBits b = bit_and b 208 ≡ 0

-- neither the separator nor the dot has any of the bits of 208
abbrev pub BothLackBits : ℕ → ℕ → Type 0
BothLackBits separator dot = LacksBits separator × LacksBits dot

-- the byte of s at i is the separator, and the byte after it, if any, has none of the bits of 208
abbrev pub IsRoughEndCandidate : ℕ → List ℕ → ℕ → Type 0
IsRoughEndCandidate separator s i = (slice_index s i ≡ separator)
    × LacksBits (slice_index_or s (i + 1) separator)

-- no name starts at i in s: the piece that starts there is empty, a dot, or two dots
abbrev pub no_name_starts_at : ℕ → ℕ → List ℕ → ℕ → Bool
no_name_starts_at separator dot s i =
    let first = slice_index_or s i separator in
    let second = slice_index_or s (i + 1) separator in
    let third = slice_index_or s (i + 2) separator in
    first == separator ||
    (first == dot && (second == separator || (second == dot && third == separator)))

-- the byte of s at i is the separator, and no name starts after it
abbrev pub ends_name_run_of : ℕ → ℕ → List ℕ → ℕ → Bool
ends_name_run_of separator dot s i = slice_index s i == separator
    && no_name_starts_at separator dot s (i + 1)

-- the first byte of s that ends a run of names is at `at`, or no byte of s does and `at` is the
-- length of s
pub record IsNameRunEnd (separator dot : ℕ) (s : List ℕ) (at : ℕ) : Type 0 where
  pub in_range : at ≤ length s
  pub name_run_ends : at < length s → ends_name_run_of separator dot s at ≡ true
  pub none_before : (i : ℕ) → i < at → ends_name_run_of separator dot s i ≡ false
