-- The first chunk, which is the longest valid prefix and the front after it, and the chunks of the
-- rest.
use Rattle.std.proofs.Common.{◌≡◌, ℕ, zero, suc, ◌+◌, ◌<◌, ◌≤◌, List, [], ◌∷◌, ◌++◌, length, take}
use Rattle.std.proofs.Common.{drop, ⊎_elim, refl, sym, ap, ◌∙◌}
use Rattle.std.proofs.Common.{subst, arith, le_refl, length-drop, length-take-le, take-append-drop}
use Rattle.std.proofs.Common.{append_assoc, append-nil, true}
use Rattle.std.specs.List.{concat, flat_map, list_all}
use Rattle.std.specs.Str.{IsUtf8}
use Rattle.std.proofs.lemmas.Bool.{and_parts}
use Rattle.std.proofs.lemmas.List.{drop-drop}
use Rattle.std.proofs.lemmas.Str.{IsUtf8-append}
use Rattle.std.proofs.Math.Seq.{take-add}
use Rattle.std.proofs.lemmas.Grind.{common_steps}
use Rattle.unix_bytes.specs.Utf8.{is_sequence, IsSequence, IsText}
use Rattle.unix_bytes.specs.Lossy.{fronts_of, is_text, lossy_of}
use Rattle.unix_bytes.specs.Chunks.{chunks_from, chunks_of, shown_chunk, replacement_for}
use Rattle.unix_bytes.specs.Steps.{longest_len, longest_front_of, first_chunk_of, chunk_len}
use Rattle.unix_bytes.proofs.lemmas.text.TextLemmas.{IsUtf8-sequence, IsUtf8-from_IsText}
use Rattle.unix_bytes.proofs.lemmas.text.TextLemmas.{IsText-from_IsUtf8}
use Rattle.unix_bytes.proofs.lemmas.sequences.LongestLemmas.{longest_len-is, longest_len-longest}
use Rattle.unix_bytes.proofs.lemmas.sequences.LongestLemmas.{longest_len-least}
use Rattle.unix_bytes.proofs.lemmas.sequences.FrontLemmas.{longest_front_of-nil}
use Rattle.unix_bytes.proofs.lemmas.sequences.FrontLemmas.{front_within}
use Rattle.unix_bytes.proofs.lemmas.sequences.GrowLemmas.{fronts_of-nil, fronts_of-some}
use Rattle.unix_bytes.proofs.lemmas.lossy.LossyLemmas.{is_text-from_IsText, IsText-from_is_text}
use Rattle.unix_bytes.proofs.lemmas.lossy.LossyLemmas.{length-drop-some}
use Rattle.unix_bytes.proofs.lemmas.lossy.LossyLemmas.{fronts_of-text, is_sequence-longest_front_of}
use Rattle.unix_bytes.proofs.lemmas.lossy.LossyLemmas.{lossy_of-nil, lossy_of-append, lossy_of-none}

-- if s is valid UTF-8 (`IsUtf8`), the longest valid prefix of s is all of s
pub whole_text : (s : List ℕ) → IsUtf8 s → longest_len is_text s ≡ length s
whole_text s u =
    grind (arith, common_steps, longest_len-is, is_text-from_IsText, IsText-from_IsUtf8)

-- the longest prefix of s that passes `is_text` is valid UTF-8
pub text_prefix : (s : List ℕ) → IsText (take (longest_len is_text s) s)
text_prefix s = grind (arith, longest_len-longest is_text s, IsText-from_is_text)

-- the `valid` part of the first chunk of s is valid UTF-8
pub first_chunk_of-text : (s : List ℕ) → IsText (first_chunk_of s).valid
unfolding first_chunk_of
first_chunk_of-text s = text_prefix s

-- no prefix of the bytes after the longest valid prefix of s is a sequence
pub none_after_text : (s : List ℕ)
    → longest_len is_sequence (drop (longest_len is_text s) s) ≡ 0
none_after_text s =
    let n = longest_len is_text s in
    let t = drop n s in
    let k = longest_len is_sequence t in
    let seq = longest_len-longest is_sequence t in
    let within = (longest_len-longest is_text s).within in
    ⊎_elim (λ z. z)
    (λ h.
    let front = IsUtf8-from_IsText (take n s) (text_prefix s) in
    let more : IsUtf8 (take (n + k) s) =
    subst IsUtf8 (sym (take-add n k s))
    (IsUtf8-append (take n s) (take k t) front (IsUtf8-sequence (take k t) h)) in
    let text = is_text-from_IsText (take (n + k) s) (IsText-from_IsUtf8 (take (n + k) s) more) in
    let w = seq.within in
    let fits : n + k ≤ length s = omega (arith, length-drop n s) in
    let few = longest_len-least is_text s (n + k) fits text in
    omega arith)
    seq.passes

-- the first chunk of a nonempty byte string has at least one byte
pub chunk_some : (b : ℕ) (bs : List ℕ) → 1 ≤ chunk_len (first_chunk_of (b ∷ bs))
unfolding first_chunk_of
chunk_some b bs = grind (arith, front_within)

-- the empty byte string has no chunks
pub chunks_of-nil : chunks_of [] ≡ []
unfolding chunks_of
chunks_of-nil = ap (chunks_from []) fronts_of-nil

-- a byte string of length 0 has no chunks
pub chunks_of-empty : (s : List ℕ) → length s ≡ 0 → chunks_of s ≡ []
chunks_of-empty [] e = chunks_of-nil
chunks_of-empty (b ∷ bs) e = absurd (omega arith)

-- if all of the fronts us are sequences, `chunks_from` appends them to `text`: the chunks of `text`
-- and the fronts us and `rest` are the chunks of `text` with us appended and the fronts `rest`
chunks_from-sequences : (us : List (List ℕ)) (text : List ℕ) (rest : List (List ℕ))
    → list_all is_sequence us ≡ true
    → chunks_from text (us ++ rest) ≡ chunks_from (text ++ concat us) rest
chunks_from-sequences [] text rest h = grind (arith, append-nil)
chunks_from-sequences (u ∷ us) text rest h =
    let k : IsSequence u × (list_all is_sequence us ≡ true) = and_parts _ _ h in
    grind (arith, common_steps, chunks_from-sequences us (text ++ u) rest k.1)

-- if no prefix of t is a sequence, and `text` and t are not both empty, the chunks of `text` and
-- the fronts of t are the chunk of `text` and the first front of t, which is empty if t is, and
-- then the chunks of the bytes of t after that front
chunks_from-rest : (text t : List ℕ) → longest_len is_sequence t ≡ 0 → 0 < length (text ++ t)
    → chunks_from text (fronts_of t) ≡ record { valid = text; broken = longest_front_of t }
    ∷ chunks_from [] (fronts_of (drop (length (longest_front_of t)) t))
chunks_from-rest text [] z some = grind (arith, common_steps, fronts_of-nil, longest_front_of-nil)
chunks_from-rest text (b ∷ bs) z some = grind (arith, fronts_of-some, is_sequence-longest_front_of)

-- if v is valid UTF-8, no prefix of t is a sequence, and v and t are not both empty, the chunks of
-- v followed by t are the chunk of v and the first front of t, and then the chunks of the bytes of
-- t after that front
chunks_of-append : (v t : List ℕ) → IsText v → longest_len is_sequence t ≡ 0
    → 0 < length (v ++ t)
    → chunks_of (v ++ t) ≡ record { valid = v; broken = longest_front_of t }
    ∷ chunks_of (drop (length (longest_front_of t)) t)
unfolding chunks_of
chunks_of-append v t h z some =
    grind (arith, fronts_of-text v t h, chunks_from-sequences, chunks_from-rest)

-- the chunks of a nonempty byte string are the chunk `first_chunk_of` and then the chunks of the
-- bytes after that chunk
pub chunks_of-some : (b : ℕ) (bs : List ℕ) → chunks_of (b ∷ bs) ≡ first_chunk_of (b ∷ bs)
    ∷ chunks_of (drop (chunk_len (first_chunk_of (b ∷ bs))) (b ∷ bs))
unfolding first_chunk_of
chunks_of-some b bs =
    let s = b ∷ bs in
    let n = longest_len is_text s in
    let t = drop n s in
    let k = length (longest_front_of t) in
    let e : length (take n s) ≡ n =
    length-take-le n s (longest_len-longest is_text s).within in
    ap chunks_of (sym (take-append-drop n s))
    ∙ chunks_of-append (take n s) t (text_prefix s) (none_after_text s)
    (omega (arith, ap length (take-append-drop n s)))
    ∙ ap (λ x. first_chunk_of s ∷ chunks_of x)
    (drop-drop k n s ∙ ap (λ j. drop (j + k) s) (sym e))

-- if no prefix of t is a sequence, the lossy form of t is U+FFFD, or nothing if t is empty, and
-- then the lossy form of the bytes after the first front of t
lossy_of-rest : (t : List ℕ) → longest_len is_sequence t ≡ 0
    → lossy_of t ≡ replacement_for (longest_front_of t)
    ++ lossy_of (drop (length (longest_front_of t)) t)
lossy_of-rest [] z = rw (ap length longest_front_of-nil) refl
lossy_of-rest (b ∷ bs) z = grind (arith, lossy_of-none)

-- the lossy form of s is the shown form of the first chunk of s (`shown_chunk`) and then the lossy
-- form of the bytes after that chunk
lossy_of-chunk : (s : List ℕ) → lossy_of s
    ≡ shown_chunk (first_chunk_of s) ++ lossy_of (drop (chunk_len (first_chunk_of s)) s)
unfolding first_chunk_of
lossy_of-chunk s =
    let n = longest_len is_text s in
    let v = take n s in
    let t = drop n s in
    let b = longest_front_of t in
    let mark = replacement_for b in
    let e : length v ≡ n = length-take-le n s (longest_len-longest is_text s).within in
    ap lossy_of (sym (take-append-drop n s)) ∙ lossy_of-append v t (text_prefix s)
    ∙ ap (λ x. v ++ x) (lossy_of-rest t (none_after_text s))
    ∙ sym (append_assoc v mark (lossy_of (drop (length b) t)))
    ∙ ap (λ x. (v ++ mark) ++ lossy_of x)
    (drop-drop (length b) n s ∙ ap (λ j. drop (j + length b) s) (sym e))

-- if s has at most n bytes, the shown forms of the chunks of s (`shown_chunk`), one after the
-- other, are the lossy form of s
shows_lossy_within : (n : ℕ) (s : List ℕ) → length s ≤ n
    → flat_map shown_chunk (chunks_of s) ≡ lossy_of s
shows_lossy_within n [] le = ap (flat_map shown_chunk) chunks_of-nil ∙ sym lossy_of-nil
shows_lossy_within zero (b ∷ bs) le = absurd (omega arith)
shows_lossy_within (suc n) (b ∷ bs) le =
    let s = b ∷ bs in
    let c = first_chunk_of s in
    let k = chunk_len c in
    ap (flat_map shown_chunk) (chunks_of-some b bs)
    ∙ ap (λ t. shown_chunk c ++ t)
    (shows_lossy_within n (drop k s) (length-drop-some n k b bs (chunk_some b bs) le))
    ∙ sym (lossy_of-chunk s)

-- the shown forms of the chunks of s (`shown_chunk`), one after the other, are the lossy form of s
pub flat_map-shown_chunk : (s : List ℕ) → flat_map shown_chunk (chunks_of s) ≡ lossy_of s
flat_map-shown_chunk s = shows_lossy_within (length s) s (le_refl (length s))

-- no bytes have no chunks
pub ruleset no_chunks = (chunks_of-empty)
