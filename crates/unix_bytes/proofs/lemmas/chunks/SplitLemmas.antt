-- The first chunk as the code splits it off.
use Rattle.std.proofs.Common.{◌≡◌, ℕ, ◌<◌, List, [], ◌∷◌, ◌++◌, length}
use Rattle.std.proofs.Common.{sym, ap₂, ◌∙◌, arith, take-append-drop}
use Rattle.std.proofs.lemmas.List.{drop-drop}
use Rattle.std.proofs.lemmas.Grind.{common_steps}
use Rattle.unix_bytes.specs.Lossy.{is_text}
use Rattle.unix_bytes.specs.Chunks.{chunks_of}
use Rattle.unix_bytes.specs.Steps.{longest_len, longest_front_of, broken_len, first_chunk_of}
use Rattle.unix_bytes.specs.Steps.{rest_after_text, Splits}
use Rattle.unix_bytes.proofs.lemmas.lossy.BrokenLemmas.{longest_front_of-none}
use Rattle.unix_bytes.proofs.lemmas.chunks.ChunkLemmas.{none_after_text, chunks_of-some}

-- if s is not empty, if s is `valid` and then `broken` and then `rest`, and if `valid` and `broken`
-- are the first chunk of s, the chunks of s are this chunk and then the chunks of `rest`
chunks_of-parts : (s valid broken rest : List ℕ) → 0 < length s → s ≡ valid ++ (broken ++ rest)
    → first_chunk_of s ≡ record { valid = valid; broken = broken }
    → chunks_of s ≡ record { valid = valid; broken = broken } ∷ chunks_of rest
chunks_of-parts [] valid broken rest some e f = absurd (omega arith)
chunks_of-parts (b ∷ bs) valid broken rest some e f =
    grind (
      arith,
      common_steps,
      chunks_of-some b bs,
      drop-drop (length broken) (length valid) (valid ++ (broken ++ rest)),
    )

-- if s is not empty and is split into `valid`, `broken` and `rest` (`Splits`), the chunks of s are
-- the chunk of `valid` and `broken`, and then the chunks of `rest`
pub splits_first_chunk : {s valid broken rest : List ℕ} → 0 < length s → Splits s valid broken rest
    → chunks_of s ≡ record { valid = valid; broken = broken } ∷ chunks_of rest
unfolding first_chunk_of
splits_first_chunk {s} {valid} {broken} {rest} some p =
    let n = longest_len is_text s in
    let k = broken_len (rest_after_text s) in
    let e : longest_front_of (rest_after_text s) ≡ broken =
    longest_front_of-none (rest_after_text s) (none_after_text s) ∙ sym p.front in
    let rest_is : rest_after_text s ≡ broken ++ rest =
    sym (take-append-drop k (rest_after_text s))
    ∙ ap₂ (λ x y. x ++ y) (sym p.front) (sym p.after) in
    let whole : s ≡ valid ++ (broken ++ rest) =
    sym (take-append-drop n s) ∙ ap₂ (λ x y. x ++ y) (sym p.text) rest_is in
    grind (arith, chunks_of-parts)
