-- The first front of a byte string, as `longest_front_of` computes it, and how many bytes this
-- front has.
use Rattle.std.proofs.Common.{◌≡◌, ℕ, suc, ◌-◌, ◌+◌, ◌<◌, ◌≤◌, List, [], ◌∷◌, ◌++◌, length, take}
use Rattle.std.proofs.Common.{◌⊎◌, ⊎_elim, inr, refl, sym, ap, ◌∙◌, subst, arith}
use Rattle.std.proofs.Common.{append-nil, length-append}
use Rattle.std.proofs.lemmas.Bool.{cases_lt, false_from_ne_true}
use Rattle.std.proofs.lemmas.List.{take_at, take_all}
use Rattle.std.proofs.Math.Seq.{take-append-add}
use Rattle.std.proofs.lemmas.Grind.{common_steps}
use Rattle.unix_bytes.specs.Utf8.{is_sequence, IsSequence, BeginsSequence, begins_sequence}
use Rattle.unix_bytes.specs.Steps.{longest_len, longest_front_of, HasBegun}
use Rattle.unix_bytes.proofs.lemmas.sequences.SequenceLemmas.{sequence_len}
use Rattle.unix_bytes.proofs.lemmas.sequences.WidthLemmas.{prefix_free}
use Rattle.unix_bytes.proofs.lemmas.sequences.BeginLemmas.{begins_sequence-from}
use Rattle.unix_bytes.proofs.lemmas.sequences.BeginLemmas.{BeginsSequence-from}
use Rattle.unix_bytes.proofs.lemmas.sequences.BeginLemmas.{BeginsSequence-take}
use Rattle.unix_bytes.proofs.lemmas.sequences.LongestLemmas.{longest_len-is, longest_len-longest}

-- a sequence begins a sequence: itself
pub BeginsSequence-sequence : (u : List ℕ) → IsSequence u → BeginsSequence u
BeginsSequence-sequence u h = ([], subst IsSequence (sym (append-nil u)) h)

-- if a byte string starts with the sequence u, no prefix of this byte string that is longer than u
-- begins a sequence
none_longer : (u s : List ℕ) (k : ℕ) → IsSequence u → length u < k → k ≤ length (u ++ s)
    → BeginsSequence (take k (u ++ s)) → ⊥
none_longer u s k h more within (v, is) =
    let j = k - length u in
    let split : k ≡ length u + j = omega arith in
    grind (arith, common_steps, take-append-add, prefix_free)

-- if a byte string starts with the sequence u, its longest prefix that is a sequence is as long as
-- u
pub longest_len-sequence : (u s : List ℕ) → IsSequence u
    → longest_len is_sequence (u ++ s) ≡ length u
longest_len-sequence u s h =
    longest_len-is is_sequence (u ++ s) (length u) (omega (arith, length-append u s))
    (inr (ap is_sequence (take_at u s (length u) refl) ∙ h))
    (λ k p q. false_from_ne_true (is_sequence (take k (u ++ s)))
    (λ t. none_longer u s k h p q (BeginsSequence-sequence (take k (u ++ s)) t)))

-- if a byte string starts with the sequence u, its longest prefix that begins a sequence is as long
-- as u
longest_len-begins_sequence : (u s : List ℕ) → IsSequence u
    → longest_len begins_sequence (u ++ s) ≡ length u
longest_len-begins_sequence u s h =
    longest_len-is begins_sequence (u ++ s) (length u) (omega (arith, length-append u s))
    (inr (ap begins_sequence (take_at u s (length u) refl)
    ∙ begins_sequence-from u (BeginsSequence-sequence u h)))
    (λ k p q. false_from_ne_true (begins_sequence (take k (u ++ s)))
    (λ t. none_longer u s k h p q (BeginsSequence-from (take k (u ++ s)) t)))

-- if a byte string starts with the sequence u, its first front is u
pub longest_front_of-sequence : (u s : List ℕ) → IsSequence u → longest_front_of (u ++ s) ≡ u
unfolding longest_front_of
longest_front_of-sequence u s h = grind (arith, sequence_len, longest_len-begins_sequence, take_at)

-- let n be from 1 to the length of s: if n is 1 or the first n bytes of s begin a sequence, and if
-- s has only n bytes or its first n + 1 bytes begin no sequence, the first front of s has n bytes
pub length-longest_front_of : (s : List ℕ) (n : ℕ) → 1 ≤ n → n ≤ length s → (n ≡ 1) ⊎ HasBegun s n
    → (HasBegun s (suc n) → ⊥) → length (longest_front_of s) ≡ n
unfolding longest_front_of
length-longest_front_of s n some within at above =
    let l = longest_len begins_sequence s in
    let h = longest_len-longest begins_sequence s in
    let low : l ≤ n = ⊎_elim
    (λ (more : n < l).
    ⊎_elim (λ z. omega arith)
    (λ p. absurd (above (
      omega arith,
      begins_sequence-from (take (suc n) s)
          (BeginsSequence-take (suc n) l s (omega arith) (BeginsSequence-from (take l s) p)),
    )))
    h.passes) (λ le. le) (cases_lt n l) in
    grind (arith, common_steps)

-- the first front of a nonempty byte string has at least one byte, and is no longer than the string
pub front_within : (b : ℕ) (bs : List ℕ)
    → (1 ≤ length (longest_front_of (b ∷ bs)))
    × (length (longest_front_of (b ∷ bs)) ≤ length (b ∷ bs))
unfolding longest_front_of
front_within b bs = grind (arith, common_steps)

-- the first front of the empty byte string is empty
pub longest_front_of-nil : longest_front_of [] ≡ []
unfolding longest_front_of
longest_front_of-nil = take_all _ [] (omega arith)

-- the first front of s is a prefix of s
pub longest_front_of-take : (s : List ℕ) → longest_front_of s ≡ take (length (longest_front_of s)) s
unfolding longest_front_of
longest_front_of-take [] = longest_front_of-nil ∙ sym (take_all _ [] (omega arith))
longest_front_of-take (b ∷ bs) = grind (arith, common_steps)

-- if the first two bytes of s begin a sequence, and if s has no third byte or its first three bytes
-- begin no sequence, the first front of s has two bytes
pub two_byte_front : (s : List ℕ) → HasBegun s 2 → (HasBegun s 3 → ⊥)
    → length (longest_front_of s) ≡ 2
two_byte_front s h end = length-longest_front_of s 2 (omega arith) h.0 (inr h) end

-- if the first three bytes of s begin a sequence, and if s has no fourth byte or its first four
-- bytes begin no sequence, the first front of s has three bytes
pub three_byte_front : (s : List ℕ) → HasBegun s 3 → (HasBegun s 4 → ⊥)
    → length (longest_front_of s) ≡ 3
three_byte_front s h end = length-longest_front_of s 3 (omega arith) h.0 (inr h) end
