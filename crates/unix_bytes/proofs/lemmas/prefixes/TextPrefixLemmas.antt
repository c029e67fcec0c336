-- The valid prefix, extended one run at a time.
use Rattle.std.proofs.Common.{rules}
use Rattle.std.proofs.Common.{◌≡◌, ℕ, ◌+◌, ◌-◌, ◌<◌, ◌≤◌, List, ◌++◌, length, take, drop}
use Rattle.std.proofs.Common.{slice_index, inr, sym, ap, ◌∙◌, subst}
use Rattle.std.proofs.Common.{eqb, true, arith, length-drop}
use Rattle.std.proofs.lemmas.Bool.{false_from_ne_true}
use Rattle.std.specs.Str.{IsAscii, IsUtf8}
use Rattle.std.proofs.lemmas.List.{take_all, take_rest}
use Rattle.std.proofs.lemmas.Str.{IsUtf8-from_ascii}
use Rattle.std.proofs.Math.Seq.{take-add}
use Rattle.std.proofs.lemmas.Grind.{common_steps}
use Rattle.unix_bytes.specs.Utf8.{is_sequence, IsText}
use Rattle.unix_bytes.specs.Lossy.{is_text}
use Rattle.unix_bytes.specs.Steps.{longest_len, broken_len}
use Rattle.unix_bytes.proofs.lemmas.text.TextLemmas.{IsUtf8-from_IsText, IsText-from_IsUtf8}
use Rattle.unix_bytes.proofs.lemmas.text.TextLemmas.{IsText-nil}
use Rattle.unix_bytes.proofs.lemmas.text.TextLemmas.{IsText-append, IsText-sequence}
use Rattle.unix_bytes.proofs.lemmas.sequences.SequenceLemmas.{IsSequence-two}
use Rattle.unix_bytes.proofs.lemmas.sequences.LongestLemmas.{longest_len-is, longest_len-longest}
use Rattle.unix_bytes.proofs.lemmas.lossy.LossyLemmas.{is_text-from_IsText, IsText-from_is_text}
use Rattle.unix_bytes.proofs.lemmas.lossy.LossyLemmas.{text_rest}
use Rattle.unix_bytes.proofs.lemmas.lossy.LossyLemmas.{no_text}
use Rattle.unix_bytes.proofs.lemmas.lossy.BrokenLemmas.{broken_len_within, broken_len-empty}
use Rattle.unix_bytes.proofs.lemmas.lossy.BrokenLemmas.{no_sequence_first}
use Rattle.unix_bytes.proofs.lemmas.chunks.ChunkLemmas.{whole_text, text_prefix}

-- if s is ASCII, it is valid UTF-8
pub ascii_is_text : (s : List ℕ) → IsAscii s → IsText s
ascii_is_text s h = IsText-from_IsUtf8 s (IsUtf8-from_ascii s h)

-- the first 0 bytes of s are valid UTF-8
pub none_is_text : (s : List ℕ) → IsText (take 0 s)
none_is_text s = IsText-nil

-- if the longest prefix of s that is a sequence has n bytes, and n is not 0, the first n bytes of s
-- are valid UTF-8
pub sequence_is_text : (s : List ℕ) (n : ℕ) → 0 < n → n ≡ longest_len is_sequence s
    → IsText (take n s)
sequence_is_text s n some e = grind (arith, IsText-sequence, longest_len-longest)

-- the longest prefix of s that is a sequence is no longer than s
pub sequence_within : (s : List ℕ) → longest_len is_sequence s ≤ length s
sequence_within s = (longest_len-longest is_sequence s).within

-- if the first i bytes of s and the next n bytes are valid UTF-8, so are the first i + n bytes of s
pub more_text : (s : List ℕ) (i n : ℕ) → IsText (take i s) → IsText (take n (drop i s))
    → IsText (take (i + n) s)
more_text s i n before here =
    subst IsText (sym (take-add i n s)) (IsText-append (take i s) (take n (drop i s)) before here)

-- if the first i bytes of s are valid UTF-8, the byte at i is from C2 to DF, and the byte at i + 1
-- is a tail byte, from 80 to BF, then the first i + 2 bytes of s are valid UTF-8
pub pair_at : (s : List ℕ) (i : ℕ) → i + 2 ≤ length s
    → (0xC2 ≤ slice_index s i) × (slice_index s i ≤ 0xDF)
    → (0x80 ≤ slice_index s (i + 1)) × (slice_index s (i + 1) ≤ 0xBF)
    → IsText (take i s) → IsText (take (i + 2) s)
pair_at s i l lead tail before =
    grind (arith, common_steps, IsSequence-two, more_text, IsText-sequence)

-- if i is the length of s, and the first i bytes of s are valid UTF-8, i is the length of the
-- longest valid prefix of s
pub text_to_end : (s : List ℕ) (i : ℕ) → length s ≤ i → i ≤ length s → IsText (take i s)
    → i ≡ longest_len is_text s
text_to_end s i ge le h = grind (arith, longest_len-is, is_text-from_IsText)

-- if s has at least i bytes, the first i bytes are valid UTF-8, and no prefix of the bytes after
-- them is a sequence, then the longest valid prefix of s has i bytes
text_until : (s : List ℕ) (i : ℕ) → i ≤ length s → IsText (take i s)
    → longest_len is_sequence (drop i s) ≡ 0 → i ≡ longest_len is_text s
text_until s i le h z =
    sym (longest_len-is is_text s i le (inr (is_text-from_IsText (take i s) h))
    (λ k p q. false_from_ne_true (is_text (take k s))
    (λ t. by k p q (IsText-from_is_text (take k s) t))))
  where
    by : (k : ℕ) → i < k → k ≤ length s → IsText (take k s) → ⊥
    by k more within t =
        let j = k - i in
        let split : i + j ≡ k = omega arith in
        let cut : take k s ≡ take i s ++ take j (drop i s) =
        ap (λ n. take n s) (sym split) ∙ take-add i j s in
        no_text (drop i s) j
        (text_rest (take i s) (take j (drop i s)) h (subst IsText cut t))
        (omega arith) (omega (arith, length-drop i s)) z

-- the bytes of s before index i are valid UTF-8, and r is s from index i on
module _ (s r : List ℕ) (i : ℕ) (rest : r ≡ drop i s) (before : IsText (take i s)) where
  pub after_text : (n : ℕ) → i ≤ length s → n ≤ length r → IsText (take n r)
      → (i + n ≤ length s) × IsText (take (i + n) s)
  after_text n le bound here = grind (arith, length-drop, more_text)

  pub after_ascii : (n : ℕ) → i ≤ length s → n ≤ length r → IsAscii (take n r)
      → (i + n ≤ length s) × IsText (take (i + n) s)
  after_ascii n le bound here = after_text n le bound (ascii_is_text (take n r) here)

  pub after_sequence : (n : ℕ) → i ≤ length s → (0 < n) × (n ≡ longest_len is_sequence r)
      → (i + n ≤ length s) × IsText (take (i + n) s)
  after_sequence n le (some, is) =
      after_text n le (omega (arith, is, sequence_within r)) (sequence_is_text r n some is)

  -- if r begins with an invalid front, the longest valid prefix of s has i bytes
  pub text_before_broken : (n : ℕ) → i ≤ length s → (0 < n) × (n ≡ broken_len r)
      → i ≡ longest_len is_text s
  text_before_broken n le (some, is) =
      text_until s i le before
      (subst (λ t. longest_len is_sequence t ≡ 0) rest (no_sequence_first r (omega arith)))

-- the index in s at which r begins, where r is a suffix of s
abbrev pub place_of : List ℕ → List ℕ → ℕ
place_of s r = length s - length r

-- r is a suffix of s, and the bytes before it in s are valid UTF-8
pub record TextBefore (s r : List ℕ) : Type 0 where
  pub within : length r ≤ length s
  pub rest : r ≡ drop (place_of s r) s
  pub text : IsText (take (place_of s r) s)

-- the bytes of s from index n on, in the form that the definition of slices uses
abbrev pub slice_from : ℕ → List ℕ → List ℕ
slice_from n s = take (length s - n) (drop n s)

-- if `TextBefore s r` holds, r has at least n bytes, and its first n bytes are valid UTF-8, then
-- `TextBefore` also holds of s and the bytes of r from index n on
pub text_before : (s r : List ℕ) (n : ℕ) → TextBefore s r → n ≤ length r → IsText (take n r)
    → TextBefore s (slice_from n r)
text_before s r n h bound here =
    let i = place_of s r in
    let e = take_rest r n in
    let l = ap length e ∙ length-drop n r in
    let more = after_text s r i h.rest h.text n (omega arith) bound here in
    grind (arith, common_steps)

-- if `TextBefore s r` holds, and r starts with a sequence of k bytes (k is n), then `TextBefore`
-- also holds of s and the bytes of r from index k on
pub sequence_before : (s r : List ℕ) (n k : ℕ) → TextBefore s r
    → (0 < n) × (n ≡ longest_len is_sequence r) → n ≡ k → TextBefore s (slice_from k r)
sequence_before s r n k h (some, is) same =
    let here = subst (λ j. IsText (take j r)) same (sequence_is_text r n some is) in
    text_before s r k h (omega (arith, same, is, sequence_within r)) here

-- if `TextBefore s r` holds, and r starts with a sequence of k bytes (k is n) and then m bytes of
-- valid UTF-8, then `TextBefore` also holds of s and the bytes of r from index k + m on
pub sequences_before : (s r : List ℕ) (n k m : ℕ) → TextBefore s r
    → (0 < n) × (n ≡ longest_len is_sequence r) → n ≡ k → m ≤ length (slice_from k r)
    → IsText (take m (slice_from k r)) → TextBefore s (slice_from m (slice_from k r))
sequences_before s r n k m h found same bound here = search (rules, text_before, sequence_before)

-- if `TextBefore s r` holds, and r begins with an invalid front, the longest valid prefix of s ends
-- where r begins
pub broken_rest : (s r : List ℕ) (n : ℕ) → TextBefore s r → (0 < n) × (n ≡ broken_len r)
    → place_of s r ≡ longest_len is_text s
broken_rest s r n h found =
    text_before_broken s r (place_of s r) h.rest h.text n (omega arith) found

-- if `TextBefore s r` holds, and r is empty, the longest valid prefix of s is all of s
pub no_rest : (s r : List ℕ) → TextBefore s r → eqb (length r) 0 ≡ true
    → length s ≡ longest_len is_text s
no_rest s r h none = grind (arith, text_to_end)

-- if i is at least the length of s, no invalid front begins at index i of s
pub none_at_end : (s : List ℕ) (i : ℕ) → length s ≤ i → 0 ≡ broken_len (drop i s)
none_at_end s i end = sym (broken_len-empty (drop i s) (omega (arith, length-drop i s)))

-- if the longest valid prefix of s has n bytes, and s is valid UTF-8, s has at most n bytes
pub text_ends : (s : List ℕ) (n : ℕ) → n ≡ longest_len is_text s → IsText s → length s ≤ n
text_ends s n e h = grind (arith, whole_text, IsUtf8-from_IsText)

-- if the longest valid prefix of s has n bytes, the first n bytes of s are UTF-8 as Rattle's std
-- defines it (`IsUtf8`)
pub prefix_is_utf8 : (s : List ℕ) (n : ℕ) → n ≡ longest_len is_text s → IsUtf8 (take n s)
prefix_is_utf8 s n e =
    grind (arith, IsUtf8-from_IsText (take (longest_len is_text s) s) (text_prefix s))

-- if the longest valid prefix of s has n bytes, and s has at most n bytes, s is UTF-8 as Rattle's
-- std defines it (`IsUtf8`)
pub whole_is_utf8 : (s : List ℕ) (n : ℕ) → n ≡ longest_len is_text s → length s ≤ n → IsUtf8 s
whole_is_utf8 s n e le = subst IsUtf8 (take_all n s le) (prefix_is_utf8 s n e)

-- if the longest valid prefix of s has n bytes, and s has at most n bytes, s is valid UTF-8
pub whole_is_text : (s : List ℕ) (n : ℕ) → n ≡ longest_len is_text s → length s ≤ n → IsText s
whole_is_text s n e le = IsText-from_IsUtf8 s (whole_is_utf8 s n e le)

-- the longest valid prefix of s is no longer than s
pub text_within : (s : List ℕ) → longest_len is_text s ≤ length s
text_within s = (longest_len-longest is_text s).within

-- neither the longest valid prefix of a byte string nor an invalid front at its beginning is longer
-- than the byte string
pub ruleset prefix_bounds = (text_within, broken_len_within)

-- no bytes, and ASCII bytes, are valid UTF-8
pub ruleset no_or_ascii_text = (none_is_text, ascii_is_text)
