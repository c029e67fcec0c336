-- The length of the sequence at the beginning of a byte string, found from how many of the first
-- bytes begin a sequence.
use Rattle.std.proofs.Common.{◌≡◌, ℕ, zero, suc, ◌<◌, ◌≤◌, List, [], ◌∷◌, ◌++◌, length, take, drop}
use Rattle.std.proofs.Common.{⊎_elim, sym, ap, ◌∙◌, subst, arith, append-nil, slice_index}
use Rattle.std.proofs.Common.{length-append, length-take-le, take-append-drop}
use Rattle.unix_bytes.specs.Utf8.{is_sequence, IsSequence, BeginsSequence}
use Rattle.unix_bytes.specs.Steps.{longest_len, HasBegun}
use Rattle.unix_bytes.proofs.lemmas.sequences.SequenceLemmas.{is_sequence-nil, sequence_len}
use Rattle.unix_bytes.proofs.lemmas.sequences.WidthLemmas.{HasWidth, has_width}
use Rattle.unix_bytes.proofs.lemmas.sequences.BeginLemmas.{begins_sequence-from}
use Rattle.unix_bytes.proofs.lemmas.sequences.BeginLemmas.{BeginsSequence-from}
use Rattle.unix_bytes.proofs.lemmas.sequences.BeginLemmas.{BeginsSequence-take}
use Rattle.unix_bytes.proofs.lemmas.sequences.LongestLemmas.{longest_len-longest}
use Rattle.unix_bytes.proofs.lemmas.sequences.FrontLemmas.{longest_len-sequence}
use Rattle.unix_bytes.proofs.lemmas.sequences.FrontLemmas.{BeginsSequence-sequence}

-- if t has n bytes and begins a sequence, and no sequence that starts with t has more than n bytes,
-- t is a sequence
none_missing : (n : ℕ) (t : List ℕ) → length t ≡ n
    → ((u : List ℕ) → IsSequence (t ++ u) → length (t ++ u) ≤ n) → BeginsSequence t → IsSequence t
none_missing n t e few ([], h) = subst IsSequence (append-nil t) h
none_missing n t e few (x ∷ v, h) = grind (arith, length-append)

-- if the first n bytes of s begin a sequence, and no sequence that starts with these n bytes has
-- more bytes, the longest prefix of s that is a sequence has n bytes
longest_len-HasBegun : (s : List ℕ) (n : ℕ) → HasBegun s n
    → ((u : List ℕ) → IsSequence (take n s ++ u) → length (take n s ++ u) ≤ n)
    → longest_len is_sequence s ≡ n
longest_len-HasBegun s n h few =
    let e = length-take-le n s h.0 in
    let is = none_missing n (take n s) e few (BeginsSequence-from (take n s) h.1) in
    ap (longest_len is_sequence) (sym (take-append-drop n s))
    ∙ longest_len-sequence (take n s) (drop n s) is ∙ e

-- if s has fewer than n bytes or its first n bytes begin no sequence, and if each prefix of s that
-- is a sequence has at least n bytes, then no prefix of s is a sequence
longest_len-not_HasBegun : (s : List ℕ) (n : ℕ) → (HasBegun s n → ⊥)
    → ((k : ℕ) → k ≤ length s → IsSequence (take k s) → n ≤ k) → longest_len is_sequence s ≡ 0
longest_len-not_HasBegun s n never many =
    let k = longest_len is_sequence s in
    let h = longest_len-longest is_sequence s in
    let within = h.within in
    ⊎_elim (λ z. z)
    (λ t.
    let le = many k within t in
    let begins = BeginsSequence-take n k s le (BeginsSequence-sequence (take k s) t) in
    absurd (never (omega arith, begins_sequence-from (take n s) begins)))
    h.passes

-- bounds of n, the length of a sequence whose first byte is b
module _ (b n : ℕ) (w : HasWidth b n) where
  two_at_most : b < 0xE0 → n ≤ 2
  two_at_most l = grind arith

  three_at_most : b < 0xF0 → n ≤ 3
  three_at_most l = grind arith

  four_at_least : 0xF0 ≤ b → 4 ≤ n
  four_at_least g = let e = (w.four g).1 in omega arith

  three_at_least : 0xE0 ≤ b → 3 ≤ n
  three_at_least g = grind arith

  two_at_least : 0x80 ≤ b → 2 ≤ n
  two_at_least g = grind arith

-- if the first k bytes of b followed by bs are a sequence, k is the length of the sequences that
-- start with b (`HasWidth`)
prefix_width : (b : ℕ) (bs : List ℕ) (k : ℕ) → k ≤ length (b ∷ bs) → IsSequence (take k (b ∷ bs))
    → HasWidth b k
prefix_width b bs zero within h = let z = is_sequence-nil in cc
prefix_width b bs (suc k) within h =
    subst (λ n. HasWidth b (suc n)) (length-take-le k bs (omega arith)) (has_width b (take k bs) h)

-- if the first two bytes of s begin a sequence, and the first is less than E0, the longest prefix
-- of s that is a sequence has two bytes
pub two_byte_sequence : (s : List ℕ) → HasBegun s 2 → slice_index s 0 < 0xE0
    → longest_len is_sequence s ≡ 2
two_byte_sequence (b ∷ x ∷ s) h l =
    longest_len-HasBegun (b ∷ x ∷ s) 2 h (λ u is. two_at_most b _ (has_width b (x ∷ u) is) l)
two_byte_sequence s h l = absurd (omega arith)

-- if the first three bytes of s begin a sequence, and the first is less than F0, the longest prefix
-- of s that is a sequence has three bytes
pub three_byte_sequence : (s : List ℕ) → HasBegun s 3 → slice_index s 0 < 0xF0
    → longest_len is_sequence s ≡ 3
three_byte_sequence (b ∷ x ∷ y ∷ s) h l =
    longest_len-HasBegun (b ∷ x ∷ y ∷ s) 3 h
    (λ u is. three_at_most b _ (has_width b (x ∷ y ∷ u) is) l)
three_byte_sequence s h l = absurd (omega arith)

-- if the first four bytes of s begin a sequence, the longest prefix of s that is a sequence has
-- four bytes
pub four_byte_sequence : (s : List ℕ) → HasBegun s 4 → longest_len is_sequence s ≡ 4
four_byte_sequence s h = longest_len-HasBegun s 4 h (λ u is. (sequence_len (take 4 s ++ u) is).1)

-- if the first byte of s is at least 80, and if s has no second byte or its first two bytes begin
-- no sequence, then no prefix of s is a sequence
pub none_of_two : (s : List ℕ) → (HasBegun s 2 → ⊥) → 0x80 ≤ slice_index s 0
    → longest_len is_sequence s ≡ 0
none_of_two [] never g = absurd (omega arith)
none_of_two (b ∷ bs) never g =
    longest_len-not_HasBegun (b ∷ bs) 2 never
    (λ k within h. two_at_least b k (prefix_width b bs k within h) g)

-- if the first byte of s is at least E0, and if s has no third byte or its first three bytes begin
-- no sequence, then no prefix of s is a sequence
pub none_of_three : (s : List ℕ) → (HasBegun s 3 → ⊥) → 0xE0 ≤ slice_index s 0
    → longest_len is_sequence s ≡ 0
none_of_three [] never g = absurd (omega arith)
none_of_three (b ∷ bs) never g =
    longest_len-not_HasBegun (b ∷ bs) 3 never
    (λ k within h. three_at_least b k (prefix_width b bs k within h) g)

-- if the first byte of s is at least F0, and if s has no fourth byte or its first four bytes begin
-- no sequence, then no prefix of s is a sequence
pub none_of_four : (s : List ℕ) → (HasBegun s 4 → ⊥) → 0xF0 ≤ slice_index s 0
    → longest_len is_sequence s ≡ 0
none_of_four [] never g = absurd (omega arith)
none_of_four (b ∷ bs) never g =
    longest_len-not_HasBegun (b ∷ bs) 4 never
    (λ k within h. four_at_least b k (prefix_width b bs k within h) g)
