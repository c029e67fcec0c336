-- The ranges of the first two, three or four bytes of a byte string, if these begin a sequence
-- (`HasBegun`).
use Rattle.std.proofs.Common.{◌≡◌, ℕ, ◌<◌, ◌≤◌, List, [], ◌∷◌, length, take, true, ⊎_elim, arith}
use Rattle.std.proofs.Common.{refl, slice_index}
use Rattle.std.proofs.lemmas.Bool.{cases_lt}
use Rattle.unix_bytes.specs.Utf8.{IsSequence, begins_sequence}
use Rattle.unix_bytes.specs.Steps.{HasBegun}
use Rattle.unix_bytes.proofs.lemmas.sequences.SequenceLemmas.{two_bytes, three_bytes, four_bytes}
use Rattle.unix_bytes.proofs.lemmas.sequences.SequenceLemmas.{is_sequence-more}
use Rattle.unix_bytes.proofs.lemmas.sequences.SequenceLemmas.{IsSequence-three, IsSequence-four}
use Rattle.unix_bytes.proofs.lemmas.sequences.BeginLemmas.{begins_sequence-from}
use Rattle.unix_bytes.proofs.lemmas.sequences.BeginLemmas.{BeginsSequence-from}

-- x and y are in the ranges of the first two bytes of a sequence
abbrev Pair : ℕ → ℕ → Type 0
Pair x y =
    (0xC2 ≤ x) × (x ≤ 0xF4) × (0x80 ≤ y) × (y ≤ 0xBF) × (x ≡ 0xE0 → 0xA0 ≤ y)
    × (x ≡ 0xED → y ≤ 0x9F) × (x ≡ 0xF0 → 0x90 ≤ y) × (x ≡ 0xF4 → y ≤ 0x8F)

-- the first two bytes x and y of a sequence are in the ranges of `Pair`
pair_of : (x y : ℕ) (u : List ℕ) → IsSequence (x ∷ y ∷ u) → Pair x y
pair_of x y [] h = let p = two_bytes x y h in grind arith
pair_of x y (a ∷ []) h = let p = three_bytes x y a h in grind arith
pair_of x y (a ∷ b ∷ []) h = let p = four_bytes x y a b h in grind arith
pair_of x y (a ∷ b ∷ c ∷ u) h = let p = is_sequence-more x y a b c u in cc

-- z is a tail byte: from 80 to BF
abbrev IsTail : ℕ → Type 0
IsTail z = (0x80 ≤ z) × (z ≤ 0xBF)

-- if a sequence has a third byte, this is a tail byte, and the first byte is at least E0
third_of : (x y z : ℕ) (u : List ℕ) → IsSequence (x ∷ y ∷ z ∷ u) → (0xE0 ≤ x) × IsTail z
third_of x y z [] h = let p = three_bytes x y z h in (omega arith, (omega arith, omega arith))
third_of x y z (a ∷ []) h = grind (arith, four_bytes)
third_of x y z (a ∷ b ∷ u) h = let p = is_sequence-more x y z a b u in cc

-- if a sequence has a fourth byte, this is a tail byte, and the first byte is at least F0
fourth_of : (x y z w : ℕ) (u : List ℕ) → IsSequence (x ∷ y ∷ z ∷ w ∷ u) → (0xF0 ≤ x) × IsTail w
fourth_of x y z w [] h = let p = four_bytes x y z w h in (omega arith, (omega arith, omega arith))
fourth_of x y z w (a ∷ u) h = let p = is_sequence-more x y z w a u in cc

-- if x and y begin a sequence, x is at least E0, and z is a tail byte, then x, y and z begin a
-- sequence
third_begins : (x y z : ℕ) → begins_sequence (x ∷ y ∷ []) ≡ true → 0xE0 ≤ x → IsTail z
    → begins_sequence (x ∷ y ∷ z ∷ []) ≡ true
third_begins x y z b g r =
    let (u, is) = BeginsSequence-from (x ∷ y ∷ []) b in
    let h = pair_of x y u is in
    begins_sequence-from (x ∷ y ∷ z ∷ [])
    (⊎_elim (λ (l : x < 0xF0). ([], IsSequence-three x y z (grind arith)))
    (λ (k : 0xF0 ≤ x). (0x80 ∷ [], IsSequence-four x y z 0x80 (grind arith))) (cases_lt x 0xF0))

-- if x, y and z begin a sequence, x is at least F0, and w is a tail byte, then x, y, z and w begin
-- a sequence
fourth_begins : (x y z w : ℕ) → begins_sequence (x ∷ y ∷ z ∷ []) ≡ true → 0xF0 ≤ x → IsTail w
    → begins_sequence (x ∷ y ∷ z ∷ w ∷ []) ≡ true
fourth_begins x y z w b g r =
    grind (arith, BeginsSequence-from, pair_of, third_of, begins_sequence-from, IsSequence-four)

-- if s has at least two bytes, its first two bytes are those at indices 0 and 1
pub take-two : (s : List ℕ) → 1 < length s
    → take 2 s ≡ slice_index s 0 ∷ slice_index s 1 ∷ []
take-two (x ∷ y ∷ s) l = refl
take-two s l = absurd (omega arith)

-- if the first two bytes of s begin a sequence, s has at least two bytes, the first is from C2 to
-- F4, and the second is a tail byte
pub pair_bounds : (s : List ℕ) → HasBegun s 2 → (0xC2 ≤ slice_index s 0)
    × (slice_index s 0 ≤ 0xF4) × (1 < length s) × IsTail (slice_index s 1)
pair_bounds (x ∷ y ∷ s) h = grind (arith, BeginsSequence-from, pair_of)
pair_bounds s h = absurd (omega arith)

-- if the first two bytes of s begin a sequence, the first is at least E0, and s has a third byte,
-- which is a tail byte, then the first three begin a sequence
pub HasBegun-three : (s : List ℕ) → HasBegun s 2 → 0xE0 ≤ slice_index s 0 → 2 < length s
    → IsTail (slice_index s 2) → HasBegun s 3
HasBegun-three (x ∷ y ∷ z ∷ s) h g l t = (omega arith, third_begins x y z h.1 g t)
HasBegun-three s h g l t = absurd (omega arith)

-- if the first three bytes of s begin a sequence, s has at least three bytes, the first is at least
-- E0, and the third is a tail byte
pub third_byte_bounds : (s : List ℕ) → HasBegun s 3
    → (0xE0 ≤ slice_index s 0) × (2 < length s) × IsTail (slice_index s 2)
third_byte_bounds (x ∷ y ∷ z ∷ s) h = grind (arith, BeginsSequence-from, third_of)
third_byte_bounds s h = absurd (omega arith)

-- if the first three bytes of s begin a sequence, the first is at least F0, and s has a fourth
-- byte, which is a tail byte, then the first four begin a sequence
pub HasBegun-four : (s : List ℕ) → HasBegun s 3 → 0xF0 ≤ slice_index s 0 → 3 < length s
    → IsTail (slice_index s 3) → HasBegun s 4
HasBegun-four (x ∷ y ∷ z ∷ w ∷ s) h g l t = (omega arith, fourth_begins x y z w h.1 g t)
HasBegun-four s h g l t = absurd (omega arith)

-- if the first four bytes of s begin a sequence, s has at least four bytes, the first is at least
-- F0, and the fourth is a tail byte
pub fourth_byte_bounds : (s : List ℕ) → HasBegun s 4
    → (0xF0 ≤ slice_index s 0) × (3 < length s) × IsTail (slice_index s 3)
fourth_byte_bounds (x ∷ y ∷ z ∷ w ∷ s) h = grind (arith, BeginsSequence-from, fourth_of)
fourth_byte_bounds s h = absurd (omega arith)

-- if the first four bytes of s begin a sequence, so do the first three
pub HasBegun-three_of_four : (s : List ℕ) → HasBegun s 4 → HasBegun s 3
HasBegun-three_of_four (x ∷ y ∷ z ∷ w ∷ s) h =
    grind (arith, BeginsSequence-from, begins_sequence-from)
HasBegun-three_of_four s h = absurd (omega arith)

-- if the first three bytes of s begin a sequence, so do the first two
pub HasBegun-two_of_three : (s : List ℕ) → HasBegun s 3 → HasBegun s 2
HasBegun-two_of_three (x ∷ y ∷ z ∷ s) h = grind (arith, BeginsSequence-from, begins_sequence-from)
HasBegun-two_of_three s h = absurd (omega arith)

-- lemmas that say for which bytes at indices 0 to 3 of s the first two, three or four bytes of s
-- begin a sequence (`HasBegun`)
pub ruleset beginnings =
    (take-two, pair_bounds, HasBegun-three, third_byte_bounds, HasBegun-four, fourth_byte_bounds)

-- the lemmas of `beginnings`; in addition, if the first four bytes begin a sequence, so do the
-- first three, and if the first three do, so do the first two
pub ruleset all_beginnings = (beginnings, HasBegun-two_of_three, HasBegun-three_of_four)
