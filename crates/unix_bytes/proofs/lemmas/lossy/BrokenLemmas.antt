-- The length of a leading invalid front.
use Rattle.std.proofs.Common.{◌≡◌, ℕ, ◌<◌, ◌≤◌, List, [], ◌∷◌, length, take, drop, slice_index}
use Rattle.std.proofs.Common.{⊎_elim, sym, ap, ◌∙◌, arith, take-append-drop}
use Rattle.std.proofs.lemmas.Bool.{cond-true, cond-false}
use Rattle.std.proofs.lemmas.Grind.{common_steps}
use Rattle.unix_bytes.specs.Utf8.{is_sequence}
use Rattle.unix_bytes.specs.Steps.{longest_len, longest_front_of, broken_len, HasBegun}
use Rattle.unix_bytes.proofs.lemmas.sequences.HasBegunLemmas.{pair_bounds}
use Rattle.unix_bytes.proofs.lemmas.sequences.LongestLemmas.{longest_len-longest}
use Rattle.unix_bytes.proofs.lemmas.sequences.FrontLemmas.{longest_front_of-nil}
use Rattle.unix_bytes.proofs.lemmas.sequences.FrontLemmas.{longest_front_of-take}
use Rattle.unix_bytes.proofs.lemmas.sequences.FrontLemmas.{longest_front_of-sequence, front_within}
use Rattle.unix_bytes.proofs.lemmas.sequences.FrontLemmas.{two_byte_front}
use Rattle.unix_bytes.proofs.lemmas.sequences.FrontLemmas.{three_byte_front}
use Rattle.unix_bytes.proofs.lemmas.sequences.StepLemmas.{none_of_two, none_of_three, none_of_four}
use Rattle.unix_bytes.proofs.lemmas.sequences.StepLemmas.{two_byte_sequence, three_byte_sequence}
use Rattle.unix_bytes.proofs.lemmas.sequences.StepLemmas.{four_byte_sequence}
use Rattle.unix_bytes.proofs.lemmas.lossy.LossyLemmas.{is_sequence-longest_front_of}
use Rattle.unix_bytes.proofs.lemmas.sequences.FrontLemmas.{length-longest_front_of}

-- if s is empty, it has no invalid front
pub broken_len-empty : (s : List ℕ) → length s ≡ 0 → broken_len s ≡ 0
broken_len-empty [] e = grind (arith, longest_front_of-nil)
broken_len-empty (b ∷ bs) e = absurd (omega arith)

-- if no prefix of s is a sequence, the whole first front of s is invalid: `broken_len s` is the
-- length of this front
pub broken_len-none : (s : List ℕ) → longest_len is_sequence s ≡ 0
    → broken_len s ≡ length (longest_front_of s)
broken_len-none s z = cond-false _ _ _ (is_sequence-longest_front_of s z)

-- if no prefix of s is a sequence, the first front of s is the first `broken_len s` bytes of s
pub longest_front_of-none : (s : List ℕ) → longest_len is_sequence s ≡ 0
    → longest_front_of s ≡ take (broken_len s) s
longest_front_of-none s z = grind (arith, longest_front_of-take, broken_len-none)

-- if s begins with an invalid front, no prefix of s is a sequence
pub no_sequence_first : (s : List ℕ) → 0 < broken_len s → longest_len is_sequence s ≡ 0
no_sequence_first s some =
    let k = longest_len is_sequence s in
    ⊎_elim (λ z. z)
    (λ h.
    let e : longest_front_of s ≡ take k s =
    ap longest_front_of (sym (take-append-drop k s))
    ∙ longest_front_of-sequence (take k s) (drop k s) h in
    let z : broken_len s ≡ 0 = cond-true _ _ _ (ap is_sequence e ∙ h) in
    absurd (omega arith)) (longest_len-longest is_sequence s).passes

-- the first front of s is no longer than s
longest_front_within : (s : List ℕ) → length (longest_front_of s) ≤ length s
longest_front_within [] = let e = ap length longest_front_of-nil in omega arith
longest_front_within (b ∷ bs) = (front_within b bs).1

-- the invalid front at the beginning of s, if there is one, is no longer than s
pub broken_len_within : (s : List ℕ) → broken_len s ≤ length s
broken_len_within s = grind (arith, longest_front_within)

-- if the first byte of s is not ASCII, and if s has no second byte or its first two bytes begin no
-- sequence, then s begins with an invalid front of one byte
pub one_byte_broken : (s : List ℕ) → 0 < length s → (HasBegun s 2 → ⊥) → 0x80 ≤ slice_index s 0
    → broken_len s ≡ 1
one_byte_broken s some end non_ascii =
    grind (arith, broken_len-none, none_of_two, length-longest_front_of)

-- if the first byte of s is at least E0, and the first two bytes begin a sequence, and if s has no
-- third byte or its first three bytes begin no sequence, then s begins with an invalid front of two
-- bytes
pub two_byte_broken : (s : List ℕ) → HasBegun s 2 → (HasBegun s 3 → ⊥) → 0xE0 ≤ slice_index s 0
    → broken_len s ≡ 2
two_byte_broken s h end non_ascii = grind (arith, broken_len-none, none_of_three, two_byte_front)

-- let r be s from index i on: if the byte of s at index i is not ASCII, and if r has no second byte
-- or its first two bytes begin no sequence, then r begins with an invalid front of one byte
pub one_broken_at : (s r : List ℕ) (i : ℕ) → r ≡ drop i s → i < length s → 0x80 ≤ slice_index s i
    → (HasBegun r 2 → ⊥) → 1 ≡ broken_len r
one_broken_at s r i rest some non_ascii end = grind (arith, common_steps, one_byte_broken)

-- if the first byte of s is at least F0, and the first three bytes begin a sequence, and if s has
-- no fourth byte or its first four bytes begin no sequence, then s begins with an invalid front of
-- three bytes
pub three_byte_broken : (s : List ℕ) → HasBegun s 3 → (HasBegun s 4 → ⊥) → 0xF0 ≤ slice_index s 0
    → broken_len s ≡ 3
three_byte_broken s h end non_ascii = grind (arith, broken_len-none, none_of_four, three_byte_front)

-- if the first byte of s is neither ASCII nor the first byte of a sequence of two, three or four
-- bytes, s begins with an invalid front of one byte
pub lone_byte_broken : (s : List ℕ) → 0 < length s → 0x80 ≤ slice_index s 0
    → ((0xC2 ≤ slice_index s 0) × (slice_index s 0 ≤ 0xDF) → ⊥)
    → ((0xE0 ≤ slice_index s 0) × (slice_index s 0 ≤ 0xEF) → ⊥)
    → ((0xF0 ≤ slice_index s 0) × (slice_index s 0 ≤ 0xF4) → ⊥) → broken_len s ≡ 1
lone_byte_broken s some non_ascii two three four = grind (arith, one_byte_broken, pair_bounds)

-- lemmas on the length of the first front, if its first byte begins sequences of two bytes, or none
pub ruleset two_byte_fronts = (two_byte_sequence, one_byte_broken, lone_byte_broken)

-- lemmas on the length of the first front, if its first byte begins sequences of three bytes
pub ruleset three_byte_fronts = (three_byte_sequence, one_byte_broken, two_byte_broken)

-- lemmas on the length of the first front, if its first byte begins sequences of four bytes
pub ruleset four_byte_fronts =
    (four_byte_sequence, one_byte_broken, two_byte_broken, three_byte_broken)
