-- Well-formed sequences, by the ranges of their bytes.
use Rattle.std.proofs.Common.{◌≡◌, ℕ, ◌≤◌, List, [], ◌∷◌, length, false}
use Rattle.std.proofs.Common.{refl, arith}
use Rattle.std.proofs.lemmas.Bool.{or_cases}
use Rattle.std.proofs.lemmas.Bool.Decides.{nat_tests}
use Rattle.unix_bytes.specs.Utf8.{is_sequence, IsSequence}

-- if the byte a is a sequence, it is ASCII
pub one_byte : (a : ℕ) → IsSequence (a ∷ []) → a ≤ 0x7F
unfolding is_sequence
one_byte a h = grind (arith, nat_tests)

-- if the byte a is ASCII, it is a sequence
pub IsSequence-one : (a : ℕ) → a ≤ 0x7F → IsSequence (a ∷ [])
unfolding is_sequence
IsSequence-one a h = grind (arith, nat_tests)

-- a and b are in the ranges of the first and the second byte of a sequence of two bytes
abbrev pub Two : ℕ → ℕ → Type 0
Two a b = (0xC2 ≤ a) × (a ≤ 0xDF) × (0x80 ≤ b) × (b ≤ 0xBF)

-- the bytes of a sequence of two bytes are in the ranges of `Two`
pub two_bytes : (a b : ℕ) → IsSequence (a ∷ b ∷ []) → Two a b
unfolding is_sequence
two_bytes a b h = grind (arith, nat_tests)

-- two bytes in the ranges of `Two` are a sequence
pub IsSequence-two : (a b : ℕ) → Two a b → IsSequence (a ∷ b ∷ [])
unfolding is_sequence
IsSequence-two a b h = grind (arith, nat_tests)

-- a, b and c are in the ranges of the bytes of a sequence of three bytes
abbrev pub Three : ℕ → ℕ → ℕ → Type 0
Three a b c =
    (0xE0 ≤ a) × (a ≤ 0xEF) × (0x80 ≤ b) × (b ≤ 0xBF) × (0x80 ≤ c) × (c ≤ 0xBF)
    × (a ≡ 0xE0 → 0xA0 ≤ b) × (a ≡ 0xED → b ≤ 0x9F)

-- the bytes of a sequence of three bytes are in the ranges of `Three`
pub three_bytes : (a b c : ℕ) → IsSequence (a ∷ b ∷ c ∷ []) → Three a b c
unfolding is_sequence
three_bytes a b c h = grind (arith, or_cases, nat_tests)

-- three bytes in the ranges of `Three` are a sequence
pub IsSequence-three : (a b c : ℕ) → Three a b c → IsSequence (a ∷ b ∷ c ∷ [])
unfolding is_sequence
IsSequence-three a b c h = grind (arith, nat_tests)

-- a, b, c and d are in the ranges of the bytes of a sequence of four bytes
abbrev pub Four : ℕ → ℕ → ℕ → ℕ → Type 0
Four a b c d =
    (0xF0 ≤ a) × (a ≤ 0xF4) × (0x80 ≤ b) × (b ≤ 0xBF) × (0x80 ≤ c) × (c ≤ 0xBF)
    × (0x80 ≤ d) × (d ≤ 0xBF) × (a ≡ 0xF0 → 0x90 ≤ b) × (a ≡ 0xF4 → b ≤ 0x8F)

-- the bytes of a sequence of four bytes are in the ranges of `Four`
pub four_bytes : (a b c d : ℕ) → IsSequence (a ∷ b ∷ c ∷ d ∷ []) → Four a b c d
unfolding is_sequence
four_bytes a b c d h = grind (arith, or_cases, nat_tests)

-- four bytes in the ranges of `Four` are a sequence
pub IsSequence-four : (a b c d : ℕ) → Four a b c d → IsSequence (a ∷ b ∷ c ∷ d ∷ [])
unfolding is_sequence
IsSequence-four a b c d h = grind (arith, nat_tests)

-- the empty byte string is no sequence
pub is_sequence-nil : is_sequence [] ≡ false
unfolding is_sequence
is_sequence-nil = refl

-- five or more bytes are no sequence
pub is_sequence-more : (a b c d e : ℕ) (u : List ℕ)
    → is_sequence (a ∷ b ∷ c ∷ d ∷ e ∷ u) ≡ false
unfolding is_sequence
is_sequence-more a b c d e u = refl

-- a sequence has one to four bytes
pub sequence_len : (u : List ℕ) → IsSequence u → (1 ≤ length u) × (length u ≤ 4)
sequence_len [] h = let k = is_sequence-nil in cc
sequence_len (a ∷ b ∷ c ∷ d ∷ e ∷ u) h = let k = is_sequence-more a b c d e u in cc
sequence_len u h = (omega arith, omega arith)
