-- Lossy forms, written one buffer at a time.
use Rattle.std.proofs.Common.{◌≡◌, ℕ, ◌+◌, ◌<◌, ◌≤◌, List, [], ◌∷◌, ◌++◌, length, take, drop, refl}
use Rattle.std.proofs.Common.{sym, ap, ◌∙◌, subst, arith, append_assoc}
use Rattle.std.proofs.Common.{take-append-drop, length-append}
use Rattle.std.proofs.Common.{length-take-le, ⊎_elim, slice_index, slice_set}
use Rattle.std.proofs.lemmas.List.{drop-drop, take-take, take_more_set}
use Rattle.std.proofs.lemmas.Str.Ascii.{IsAscii-more, IsAscii-nil}
use Rattle.std.specs.Str.{IsUtf8}
use Rattle.std.proofs.Math.Seq.{take-append-add, take-append_seam}
use Rattle.std.proofs.lemmas.Grind.{common_steps}
use Rattle.std.proofs.lemmas.Simd.{take_more_put_chunk}
use Rattle.unix_bytes.specs.Utf8.{is_sequence, IsText}
use Rattle.unix_bytes.specs.Lossy.{lossy_of, replacement}
use Rattle.unix_bytes.specs.Steps.{longest_len, longest_front_of, broken_len}
use Rattle.unix_bytes.specs.Printer.{Shows}
use Rattle.unix_bytes.proofs.lemmas.sequences.SequenceLemmas.{sequence_len}
use Rattle.unix_bytes.proofs.lemmas.sequences.LongestLemmas.{longest_len-longest}
use Rattle.unix_bytes.proofs.lemmas.text.TextLemmas.{IsText-append, IsText-sequence, IsText-nil}
use Rattle.unix_bytes.proofs.lemmas.text.TextLemmas.{IsUtf8-from_IsText}
use Rattle.unix_bytes.proofs.lemmas.lossy.LossyLemmas.{lossy_of-append, lossy_of-none, lossy_of-nil}
use Rattle.unix_bytes.proofs.lemmas.lossy.BrokenLemmas.{broken_len-empty, no_sequence_first}
use Rattle.unix_bytes.proofs.lemmas.lossy.BrokenLemmas.{broken_len-none}
use Rattle.unix_bytes.proofs.lemmas.lossy.BrokenLemmas.{broken_len_within}
use Rattle.unix_bytes.proofs.lemmas.prefixes.TextPrefixLemmas.{ascii_is_text, sequence_within}
use Rattle.unix_bytes.proofs.lemmas.lossy.LawLemmas.{replacement_is_sequence}

-- if `new` is `old` with `bytes` written over it from index `at` on, the first bytes of `new`, up
-- to the end of `bytes`, are the first `at` bytes of `old` and then `bytes`
pub take_written : (at : ℕ) (bytes old new : List ℕ) → at + length bytes ≤ length old
    → new ≡ (take at old ++ bytes) ++ drop (at + length bytes) old
    → take (at + length bytes) new ≡ take at old ++ bytes
take_written at bytes old new fits e =
    let front = take at old ++ bytes in
    let n = at + length bytes in
    let len : length front ≡ n = length-append (take at old) bytes
    ∙ ap (λ k. k + length bytes) (length-take-le at old (omega arith)) in
    ap (take n) e ∙ ap (λ k. take k (front ++ drop n old)) (sym len)
    ∙ take-append_seam front (drop n old)

-- if the first n bytes of s are valid UTF-8, and `after` is `before` and then these n bytes, then
-- `Shows s before n after` holds
pub shows_text : (s before : List ℕ) (n : ℕ) (after : List ℕ) → IsText (take n s)
    → after ≡ before ++ take n s → Shows s before n after
shows_text s before n after h e = record {
  lossy =
      ap (λ t. t ++ lossy_of (drop n s)) e ∙ append_assoc before (take n s) (lossy_of (drop n s))
      ∙ ap (λ t. before ++ t) (sym (lossy_of-append (take n s) (drop n s) h)
      ∙ ap lossy_of (take-append-drop n s));
  text = λ k. subst IsText (sym e) (IsText-append before (take n s) k h);
}

-- if s begins with an invalid front of n bytes, and `after` is `before` and then U+FFFD, then
-- `Shows s before n after` holds
pub shows_broken : (s before : List ℕ) (n : ℕ) (after : List ℕ) → (0 < n) × (n ≡ broken_len s)
    → after ≡ before ++ replacement → Shows s before n after
shows_broken [] before n after (some, is) e = absurd (omega (arith, broken_len-empty [] refl))
shows_broken (b ∷ bs) before n after (some, is) e =
    let s = b ∷ bs in
    let none : longest_len is_sequence s ≡ 0 = no_sequence_first s (omega arith) in
    let len : length (longest_front_of s) ≡ n = sym (is ∙ broken_len-none s none) in
    record {
      lossy =
          ap (λ t. t ++ lossy_of (drop n s)) e
          ∙ append_assoc before replacement (lossy_of (drop n s))
          ∙ ap (λ t. before ++ t) (ap (λ k. replacement ++ lossy_of (drop k s)) (sym len)
          ∙ sym (lossy_of-none b bs none));
      text = λ k. subst IsText (sym e)
          (IsText-append before replacement k
          (IsText-sequence replacement replacement_is_sequence));
    }

-- if t is s without its first n bytes, reading these has extended `before` to `middle`, and reading
-- the first k bytes of t has extended `middle` to `after`, then reading the first n + k bytes of s
-- has extended `before` to `after` (`Shows`)
pub shows_more : (s t before middle after : List ℕ) (n k : ℕ) → t ≡ drop n s
    → Shows s before n middle → Shows t middle k after → Shows s before (n + k) after
shows_more s t before middle after n k e p q = grind (arith, drop-drop)

-- if reading the first n bytes of s has written `buffer` (`Shows`), and t is the rest of s, then
-- `items`, `buffer` and the lossy form of t, one after the other, are `items` and then the lossy
-- form of s
pub pushes_buffer : (items buffer s t : List ℕ) (n : ℕ) → t ≡ drop n s → Shows s [] n buffer
    → (items ++ buffer) ++ lossy_of t ≡ items ++ lossy_of s
pushes_buffer items buffer s t n e p = grind (arith, append_assoc)

-- if reading the first n bytes of s has written `buffer` (`Shows`), `buffer` is UTF-8
pub buffer_is_utf8 : (s buffer : List ℕ) (n : ℕ) → Shows s [] n buffer → IsUtf8 buffer
buffer_is_utf8 s buffer n p = IsUtf8-from_IsText buffer (p.text IsText-nil)

-- if s is empty, and `items` followed by the lossy form of s is `whole`, then `items` is `whole`
pub writes_whole : (items s whole : List ℕ) → length s ≡ 0 → items ++ lossy_of s ≡ whole
    → items ≡ whole
writes_whole items s whole z e = grind (arith, common_steps, lossy_of-nil)

-- if reading the first n bytes of s, which are all of s, has written `buffer` (`Shows`), and
-- `items` followed by the lossy form of s is `whole`, then `items` followed by `buffer` is `whole`
pub writes_last : (items buffer s t whole : List ℕ) (n : ℕ) → t ≡ drop n s → length t ≡ 0
    → Shows s [] n buffer → items ++ lossy_of s ≡ whole → items ++ buffer ≡ whole
writes_last items buffer s t whole n cut z p e =
    writes_whole (items ++ buffer) t whole z (pushes_buffer items buffer s t n cut p ∙ e)

-- let k be at most n: if `out` begins with the first `at` bytes of `old` and then the first n bytes
-- of s, it also begins with the first `at` bytes of `old` and then the first k bytes of s
pub takes_fewer : (out old s : List ℕ) (at n k : ℕ) → k ≤ n → at ≤ length old
    → take (at + n) out ≡ take at old ++ take n s → take (at + k) out ≡ take at old ++ take k s
takes_fewer out old s at n k few within e =
    grind (arith, common_steps, take-append-add (take at old) (take n s) k)

-- if s is not empty, and its first byte is written into `out` at index `at`, then `out` begins with
-- its old first `at` bytes and then the first byte of s
pub takes_one : (out s : List ℕ) (at : ℕ) → 0 < length s → at < length out
    → take (at + 1) (slice_set out at (slice_index s 0)) ≡ take at out ++ take 1 s
takes_one out [] at some within = absurd (omega arith)
takes_one out (b ∷ bs) at some within = take_more_set out at b within

-- if the first byte of s is ASCII, it is valid UTF-8 by itself
pub first_is_text : (s : List ℕ) → 0 < length s → slice_index s 0 < 0x80 → IsText (take 1 s)
first_is_text s some h = ascii_is_text (take 1 s) (IsAscii-more s 0 some IsAscii-nil h)

-- the longest prefix of s that is a sequence has at most four bytes
pub sequence_is_short : (s : List ℕ) → longest_len is_sequence s ≤ 4
sequence_is_short s =
    ⊎_elim (λ z. omega arith)
    (λ h. let few = sequence_len (take (longest_len is_sequence s) s) h in
    omega (arith, length-take-le (longest_len is_sequence s) s (sequence_within s)))
    (longest_len-longest is_sequence s).passes

-- the longest prefix of s that is a sequence has at most four bytes, and the invalid front at the
-- beginning of s is no longer than s
pub ruleset front_bounds = (sequence_is_short, broken_len_within)

-- what a copy of several bytes leaves in a buffer
pub ruleset copied = (length-take-le, take_more_put_chunk, takes_fewer)
