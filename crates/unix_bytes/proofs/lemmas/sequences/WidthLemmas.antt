-- The first byte of a sequence determines its length. No sequence is a proper prefix of another.
use Rattle.std.specs.Prelude.{◌↔◌}
use Rattle.std.proofs.Common.{◌⊎◌, ◌≡◌, ℕ, suc, ◌<◌, ◌≤◌, List, [], ◌∷◌, ◌++◌, length, ⊎_elim, refl}
use Rattle.std.proofs.Common.{arith, length-append}
use Rattle.std.proofs.lemmas.Bool.{cases_lt}
use Rattle.unix_bytes.specs.Utf8.{IsSequence, BeginsSequence}
use Rattle.unix_bytes.proofs.lemmas.sequences.SequenceLemmas.{one_byte, two_bytes, three_bytes}
use Rattle.unix_bytes.proofs.lemmas.sequences.SequenceLemmas.{four_bytes}
use Rattle.unix_bytes.proofs.lemmas.sequences.SequenceLemmas.{IsSequence-one, IsSequence-two}
use Rattle.unix_bytes.proofs.lemmas.sequences.SequenceLemmas.{IsSequence-three}
use Rattle.unix_bytes.proofs.lemmas.sequences.SequenceLemmas.{IsSequence-four, is_sequence-nil}
use Rattle.unix_bytes.proofs.lemmas.sequences.SequenceLemmas.{is_sequence-more}

-- b is the first byte of some sequence, and n is the length of the sequences that start with b
pub record HasWidth (b n : ℕ) : Type 0 where
  pub one : b < 0xC2 → (b ≤ 0x7F) × (n ≡ 1)
  pub two : 0xC2 ≤ b → b ≤ 0xDF → n ≡ 2
  pub three : 0xE0 ≤ b → b ≤ 0xEF → n ≡ 3
  pub four : 0xF0 ≤ b → (b ≤ 0xF4) × (n ≡ 4)

-- if b followed by u is a sequence, its length is the length of the sequences that start with b
-- (`HasWidth`)
pub has_width : (b : ℕ) (u : List ℕ) → IsSequence (b ∷ u) → HasWidth b (suc (length u))
has_width b [] h = grind (arith, one_byte)
has_width b (x ∷ []) h = grind (arith, two_bytes)
has_width b (x ∷ y ∷ []) h = grind (arith, three_bytes)
has_width b (x ∷ y ∷ z ∷ []) h = grind (arith, four_bytes)
has_width b (x ∷ y ∷ z ∷ w ∷ u) h = let p = is_sequence-more b x y z w u in cc

-- if n and m are both lengths of sequences that start with b (`HasWidth`), they are equal
same_width : (b n m : ℕ) → HasWidth b n → HasWidth b m → n ≡ m
same_width b n m p q = grind arith

-- if u followed by v is as long as u, v is empty
none_more : (u v : List ℕ) → length (u ++ v) ≡ length u → v ≡ []
none_more u [] e = refl
none_more u (x ∷ v) e = absurd (omega (arith, length-append u (x ∷ v)))

-- if u and u followed by v are sequences, v is empty: no sequence is a proper prefix of another
pub prefix_free : (u v : List ℕ) → IsSequence u → IsSequence (u ++ v) → v ≡ []
prefix_free [] v h k = let e = is_sequence-nil in cc
prefix_free (b ∷ u) v h k =
    none_more (b ∷ u) v
    (same_width b (length (b ∷ u ++ v)) (length (b ∷ u)) (has_width b (u ++ v) k) (has_width b u h))

-- if the byte b is ASCII, it begins a sequence
pub begins_one : (b : ℕ) → b ≤ 0x7F → BeginsSequence (b ∷ [])
begins_one b h = ([], IsSequence-one b h)

-- a byte from C2 to DF begins a sequence, of two bytes
pub begins_two : (b : ℕ) → 0xC2 ≤ b → b ≤ 0xDF → BeginsSequence (b ∷ [])
begins_two b h k = (0x80 ∷ [], IsSequence-two b 0x80 (h, k, omega arith, omega arith))

-- a byte from E0 to EF begins a sequence, of three bytes
pub begins_three : (b : ℕ) → 0xE0 ≤ b → b ≤ 0xEF → BeginsSequence (b ∷ [])
begins_three b h k =
    ⊎_elim (λ (l : b < 0xE1). (0xA0 ∷ 0x80 ∷ [], IsSequence-three b 0xA0 0x80 (grind arith)))
    (λ (g : 0xE1 ≤ b). (0x80 ∷ 0x80 ∷ [], IsSequence-three b 0x80 0x80 (grind arith)))
    (cases_lt b 0xE1)

-- a byte from F0 to F4 begins a sequence, of four bytes
pub begins_four : (b : ℕ) → 0xF0 ≤ b → b ≤ 0xF4 → BeginsSequence (b ∷ [])
begins_four b h k =
    ⊎_elim
    (λ (l : b < 0xF1). (0x90 ∷ 0x80 ∷ 0x80 ∷ [], IsSequence-four b 0x90 0x80 0x80 (grind arith)))
    (λ (g : 0xF1 ≤ b). (0x80 ∷ 0x80 ∷ 0x80 ∷ [], IsSequence-four b 0x80 0x80 0x80 (grind arith)))
    (cases_lt b 0xF1)

-- if n is not 0 and b begins a sequence: n is 0 if and only if b begins no sequence, as both are
-- false
pub some_width : (b n : ℕ) → 0 < n → BeginsSequence (b ∷ [])
    → (n ≡ 0) ↔ ¬ (BeginsSequence (b ∷ []))
some_width b n some begins = (λ e. absurd (omega arith), λ none. absurd (none begins))

-- b is from 80 to C1, or greater than F4
abbrev pub LeadsNone : ℕ → Type 0
LeadsNone b = ((0x80 ≤ b) × (b < 0xC2)) ⊎ (0xF4 < b)

-- no sequence begins with a byte from 80 to C1, or greater than F4
pub leads_none : (b : ℕ) (u : List ℕ) → LeadsNone b → IsSequence (b ∷ u) → ⊥
leads_none b u lone h = grind (arith, has_width b u h)

-- if b is from 80 to C1, or greater than F4: 0 is 0 if and only if b begins no sequence, as both
-- are true
pub no_width : (b : ℕ) → LeadsNone b → ◌≡◌ {A = ℕ} 0 0 ↔ ¬ (BeginsSequence (b ∷ []))
no_width b lone = (λ e (u, h). leads_none b u lone h, λ none. refl)

-- which bytes begin a sequence, and which begin none
pub ruleset widths =
    (begins_one, begins_two, begins_three, begins_four, some_width, leads_none, no_width)
