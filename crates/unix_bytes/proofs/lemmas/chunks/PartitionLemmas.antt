-- Chunks partition the bytes: their number, their contents, and which chunk is the last.
use Rattle.std.proofs.Common.{◌≡◌, ℕ, zero, suc, ◌+◌, ◌≤◌, List, [], ◌∷◌, ◌++◌, length, take, drop}
use Rattle.std.proofs.Common.{refl, sym, ap, ◌∙◌, subst, arith, le_refl}
use Rattle.std.proofs.Common.{length-append, length-drop, length-take-le, take-append-drop}
use Rattle.std.specs.List.{All, flat_map}
use Rattle.std.proofs.lemmas.List.Elements.{All-nil, All-cons}
use Rattle.std.proofs.lemmas.Grind.{common_steps}
use Rattle.unix_bytes.specs.Lossy.{front_of, is_text}
use Rattle.unix_bytes.specs.Chunks.{Chunk, chunks_of}
use Rattle.unix_bytes.specs.Steps.{longest_len, longest_front_of, first_chunk_of, chunk_len}
use Rattle.unix_bytes.specs.Laws.{FollowFirst, ChunksOfSome, ChunksPartition, ChunksAreShort}
use Rattle.unix_bytes.specs.Laws.{WholeChunkIsLast}
use Rattle.unix_bytes.proofs.lemmas.sequences.LongestLemmas.{longest_len-longest}
use Rattle.unix_bytes.proofs.lemmas.sequences.LongestLemmas.{longest_len-prefix}
use Rattle.unix_bytes.proofs.lemmas.sequences.FrontLemmas.{front_within}
use Rattle.unix_bytes.proofs.lemmas.sequences.GrowLemmas.{front_of-longest}
use Rattle.unix_bytes.proofs.lemmas.lossy.LossyLemmas.{is_text-from_IsText, length-drop-some}
use Rattle.unix_bytes.proofs.lemmas.chunks.ChunkLemmas.{text_prefix, none_after_text, chunk_some}
use Rattle.unix_bytes.proofs.lemmas.chunks.ChunkLemmas.{chunks_of-nil}
use Rattle.unix_bytes.proofs.lemmas.chunks.ChunkLemmas.{chunks_of-some}
use Rattle.unix_bytes.proofs.lemmas.lossy.LawLemmas.{longest_front_is_short}

-- the first chunk of s is the longest valid prefix of s and the front after it, and the other
-- chunks are the chunks of the rest of s (`FollowFirst`)
follow_first : (s : List ℕ)
    → FollowFirst s (first_chunk_of s) (chunks_of (drop (chunk_len (first_chunk_of s)) s))
unfolding first_chunk_of
follow_first s =
    let n = longest_len is_text s in
    let v = take n s in
    let e : length v ≡ n = length-take-le n s (longest_len-longest is_text s).within in
    record {
      text = text_prefix s;
      longest = (
        (drop n s, take-append-drop n s),
        λ t h (w, f).
            let few = longest_len-prefix is_text s t w (is_text-from_IsText t h) (sym f) in
            omega (arith, e),
      );
      broken = sym (front_of-longest (drop n s)) ∙ ap (λ j. front_of (drop j s)) (sym e);
      rest = ap (λ j. chunks_of (drop j s)) (sym (length-append v (longest_front_of (drop n s))));
    }

pub chunks_of_some : ChunksOfSome
chunks_of_some [] c cs e = let h = chunks_of-nil in cc
chunks_of_some (b ∷ bs) c cs e = grind (arith, chunks_of-some, follow_first)

-- if s has at most n bytes, it has no more chunks than bytes
length_within : (n : ℕ) (s : List ℕ) → length s ≤ n → length (chunks_of s) ≤ length s
length_within n [] le = omega (arith, ap length chunks_of-nil)
length_within zero (b ∷ bs) le = absurd (omega arith)
length_within (suc n) (b ∷ bs) le =
    let k = chunk_len (first_chunk_of (b ∷ bs)) in
    let some = chunk_some b bs in
    let left = length_within n (drop k (b ∷ bs)) (length-drop-some n k b bs some le) in
    omega (arith, some, left, length-drop k (b ∷ bs), ap length (chunks_of-some b bs))

-- s has no more chunks than bytes
pub length-chunks_of : (s : List ℕ) → length (chunks_of s) ≤ length s
length-chunks_of s = length_within (length s) s (le_refl (length s))

-- if s has at least n bytes: the first n bytes of s, at most k bytes after them, and the remaining
-- bytes, one after the other, are s
two_prefixes : (s : List ℕ) (n k : ℕ) → n ≤ length s
    → (take n s ++ take k (drop n s)) ++ drop (length (take n s) + length (take k (drop n s))) s ≡ s
two_prefixes s n k w =
    let t = drop n s in
    let b = take k t in
    let e : t ≡ b ++ drop k t = sym (take-append-drop k t) in
    grind (arith, common_steps)

-- the `valid` part of the first chunk of s, its `broken` part, and the bytes after this chunk, one
-- after the other, are s
first_chunk_of-drop : (s : List ℕ) → (first_chunk_of s).valid ++ (first_chunk_of s).broken
    ++ drop (chunk_len (first_chunk_of s)) s ≡ s
unfolding first_chunk_of longest_front_of
first_chunk_of-drop s = grind (arith, two_prefixes, longest_len-longest)

-- if s has at most n bytes, the bytes of the chunks of s, one after the other, are s
partition_within : (n : ℕ) (s : List ℕ) → length s ≤ n
    → flat_map (λ c. c.valid ++ c.broken) (chunks_of s) ≡ s
partition_within n [] l = ap (flat_map (λ c. c.valid ++ c.broken)) chunks_of-nil
partition_within zero (b ∷ bs) l = absurd (omega arith)
partition_within (suc n) (b ∷ bs) l =
    let s = b ∷ bs in
    let c = first_chunk_of s in
    let k = chunk_len c in
    ap (flat_map (λ c. c.valid ++ c.broken)) (chunks_of-some b bs)
    ∙ ap (λ t. (c.valid ++ c.broken) ++ t)
    (partition_within n (drop k s) (length-drop-some n k b bs (chunk_some b bs) l))
    ∙ first_chunk_of-drop s

pub chunks_partition : ChunksPartition
chunks_partition s = partition_within (length s) s (le_refl (length s))

-- the first chunk of s has at most three invalid bytes
first_is_short : (s : List ℕ) → length (first_chunk_of s).broken ≤ 3
unfolding first_chunk_of
first_is_short s = longest_front_is_short (drop (longest_len is_text s) s) (none_after_text s)

-- the chunk c has at most three invalid bytes
abbrev IsShort : Chunk → Type 0
IsShort c = length c.broken ≤ 3

-- if s has at most n bytes, each chunk of s has at most three invalid bytes
short_within : (n : ℕ) (s : List ℕ) → length s ≤ n → All IsShort (chunks_of s)
short_within n [] l = subst (All IsShort) (sym chunks_of-nil) (All-nil IsShort)
short_within zero (b ∷ bs) l = absurd (omega arith)
short_within (suc n) (b ∷ bs) l =
    let s = b ∷ bs in
    let k = chunk_len (first_chunk_of s) in
    subst (All IsShort) (sym (chunks_of-some b bs))
    (All-cons IsShort (first_chunk_of s) (chunks_of (drop k s)) (first_is_short s)
    (short_within n (drop k s) (length-drop-some n k b bs (chunk_some b bs) l)))

pub chunks_are_short : ChunksAreShort
chunks_are_short s = short_within (length s) s (le_refl (length s))

-- if the first front of s is empty, s is empty
longest_front_of-empty : (s : List ℕ) → longest_front_of s ≡ [] → s ≡ []
longest_front_of-empty [] e = refl
longest_front_of-empty (b ∷ bs) e =
    let none : length (longest_front_of (b ∷ bs)) ≡ 0 = ap length e in
    grind (arith, front_within)

-- if the first chunk of s has no invalid bytes, no byte of s follows this chunk
nothing_follows : (s : List ℕ) → (first_chunk_of s).broken ≡ []
    → drop (chunk_len (first_chunk_of s)) s ≡ []
unfolding first_chunk_of
nothing_follows s e = grind (arith, common_steps, longest_front_of-empty)

-- if s has at most n bytes, and c is a chunk of s without invalid bytes, no chunk comes after c
last_within : (n : ℕ) (s : List ℕ) (before after : List Chunk) (c : Chunk) → length s ≤ n
    → chunks_of s ≡ before ++ c ∷ after → c.broken ≡ [] → after ≡ []
last_within n [] [] after c l e z = let h = chunks_of-nil in cc
last_within n [] (x ∷ before) after c l e z = let h = chunks_of-nil in cc
last_within zero (b ∷ bs) before after c l e z = absurd (omega arith)
last_within (suc n) (b ∷ bs) [] after c l e z =
    grind (arith, chunks_of-some, nothing_follows, chunks_of-nil)
last_within (suc n) (b ∷ bs) (x ∷ before) after c l e z =
    let s = b ∷ bs in
    let k = chunk_len (first_chunk_of s) in
    let h = chunks_of-some b bs in
    let rest : chunks_of (drop k s) ≡ before ++ c ∷ after = cc in
    last_within n (drop k s) before after c (length-drop-some n k b bs (chunk_some b bs) l) rest z

pub whole_chunk_is_last : WholeChunkIsLast
whole_chunk_is_last s before after c e z =
    last_within (length s) s before after c (le_refl (length s)) e z
