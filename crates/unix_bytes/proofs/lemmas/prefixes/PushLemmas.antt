-- The lossy form, built from the first chunk and the lossy form of the rest.
use Rattle.std.proofs.Common.{rules}
use Rattle.std.proofs.Common.{◌≡◌, ℕ, ◌+◌, ◌<◌, ◌≤◌, List, [], ◌∷◌, ◌++◌, length, take, drop}
use Rattle.std.proofs.Common.{sym, ap, ◌∙◌, arith, eqb, false, length-drop}
use Rattle.std.proofs.Common.{eq-eqb, if◌then◌else◌}
use Rattle.std.specs.Str.{IsUtf8}
use Rattle.std.proofs.lemmas.Bool.{true≢false}
use Rattle.std.proofs.lemmas.List.{take_all, drop_all, take-take}
use Rattle.std.proofs.Math.Seq.{take-append-add}
use Rattle.std.proofs.lemmas.Str.{IsUtf8-append, IsUtf8-nil}
use Rattle.std.proofs.lemmas.Grind.{common_steps}
use Rattle.unix_bytes.specs.Utf8.{IsText}
use Rattle.unix_bytes.specs.Lossy.{is_text, lossy_of}
use Rattle.unix_bytes.specs.Chunks.{Chunk, chunks_of, shown_chunk, replacement_for}
use Rattle.unix_bytes.specs.Steps.{longest_len, broken_len, chunk_len, Splits}
use Rattle.unix_bytes.proofs.lemmas.text.TextLemmas.{IsUtf8-sequence, IsUtf8-from_IsText}
use Rattle.unix_bytes.proofs.lemmas.lossy.LossyLemmas.{is_text-from_IsText, is_text-not}
use Rattle.unix_bytes.proofs.lemmas.chunks.ChunkLemmas.{chunk_some, flat_map-shown_chunk}
use Rattle.unix_bytes.proofs.lemmas.chunks.SplitLemmas.{splits_first_chunk}
use Rattle.unix_bytes.proofs.lemmas.lossy.LawLemmas.{replacement_is_sequence, lossy_is_text}
use Rattle.unix_bytes.proofs.lemmas.chunks.OnlyLemmas.{first_chunk_is, only_chunk, only_text}
use Rattle.unix_bytes.proofs.lemmas.chunks.OnlyLemmas.{lossy_of-first_chunk, text_has_none_broken}

-- if s is not empty and is split into `valid`, `broken` and `rest` (`Splits`), `rest` is shorter
-- than s
pub rest_is_shorter : {s valid broken rest : List ℕ} → eqb (length s) 0 ≡ false
    → Splits s valid broken rest → length rest < length s
rest_is_shorter {s = []} some p = absurd (true≢false some)
rest_is_shorter {s = x ∷ xs} {valid} {broken} {rest} some p =
    let s = x ∷ xs in
    let n = longest_len is_text s in
    let c : Chunk = record { valid = valid; broken = broken } in
    let e = ap chunk_len (first_chunk_is s c (chunks_of rest)
    (splits_first_chunk (omega arith) p)) in
    grind (arith, common_steps, chunk_some)

-- if s is split into `valid`, `broken` and `rest` (`Splits`), and `broken` is empty, then `valid`
-- is all of s, and s is valid UTF-8
pub all_is_text : {s valid broken rest : List ℕ} → Splits s valid broken rest
    → length broken ≡ 0 → (valid ≡ s) × IsText s
all_is_text {s = []} p none = grind (arith, common_steps)
all_is_text {s = x ∷ xs} {valid} {broken} {rest} p none =
    let e = splits_first_chunk (omega arith) p in
    grind (arith, common_steps, only_chunk, only_text)

-- if s is split into `valid`, `broken` and `rest` (`Splits`), and s is valid UTF-8, `broken` is
-- empty
pub none_is_broken : {s valid broken rest : List ℕ} → Splits s valid broken rest
    → IsText s → length broken ≡ 0
none_is_broken {s = []} p t = grind (arith, common_steps)
none_is_broken {s = x ∷ xs} {valid} {broken} {rest} p t =
    let s = x ∷ xs in
    let c : Chunk = record { valid = valid; broken = broken } in
    ap length
    (text_has_none_broken s c (chunks_of rest) (splits_first_chunk (omega arith) p) t)

-- if s is split into `valid`, `broken` and `rest` (`Splits`), and `broken` is not empty, s is not
-- valid UTF-8
pub not_text : {s valid broken rest : List ℕ} → Splits s valid broken rest
    → eqb (length broken) 0 ≡ false → IsText s → ⊥
not_text {broken = broken} p some t = search (rules, eq-eqb, none_is_broken)

-- if s is split into `valid`, `broken` and `rest` (`Splits`), then `valid`, U+FFFD unless `broken`
-- is empty, and the lossy form of `rest`, one after the other, are the lossy form of s
pub lossy_of-split : {s valid broken rest : List ℕ} → Splits s valid broken rest
    → (valid ++ replacement_for broken) ++ lossy_of rest ≡ lossy_of s
lossy_of-split {s = []} {valid} {broken} {rest} p =
    let n = longest_len is_text [] in
    let k = broken_len (drop n []) in
    let no_rest : rest ≡ [] =
    p.after ∙ drop_all k (drop n []) (omega (arith, length-drop {A = ℕ} n [])) in
    let no_text : valid ≡ [] = p.text ∙ take_all n [] (omega arith) in
    grind (arith, common_steps)
lossy_of-split {s = x ∷ xs} {valid} {broken} {rest} p =
    let s = x ∷ xs in
    let c : Chunk = record { valid = valid; broken = broken } in
    ap (λ t. shown_chunk c ++ t) (sym (flat_map-shown_chunk rest))
    ∙ lossy_of-first_chunk s c (chunks_of rest) (splits_first_chunk (omega arith) p)

-- if s is split into `valid`, `broken` and `rest` (`Splits`), and `broken` is empty, `pad valid` is
-- the output for s: `pad s` if s is valid UTF-8, and otherwise the lossy form of s
pub pads_text : (pad : List ℕ → List ℕ) {s valid broken rest : List ℕ}
    → Splits s valid broken rest → length broken ≡ 0
    → pad valid ≡ (if is_text s then pad s else lossy_of s)
pads_text pad {s} p none = grind (arith, all_is_text p none, is_text-from_IsText)

-- if s is split into `valid`, `broken` and `rest` (`Splits`), and `broken` is not empty, the lossy
-- form of s is the output for s: `pad s` if s is valid UTF-8, and otherwise the lossy form of s
pub shows_lossy_text : (pad : List ℕ → List ℕ) {s valid broken rest : List ℕ}
    → Splits s valid broken rest → eqb (length broken) 0 ≡ false
    → lossy_of s ≡ (if is_text s then pad s else lossy_of s)
shows_lossy_text pad {s} {valid} {broken} p some = search (rules, is_text-not, not_text)

-- if s is split into `valid`, `broken` and `rest` (`Splits`), then `items`, as many first bytes of
-- s as `valid` has, U+FFFD unless `broken` is empty, and the lossy form of `rest`, one after the
-- other, are `items` and then the lossy form of s
pub pushes_split : (items : List ℕ) {s valid broken rest : List ℕ} → Splits s valid broken rest
    → ((items ++ take (length valid) s) ++ replacement_for broken) ++ lossy_of rest
    ≡ items ++ lossy_of s
pushes_split items {s} {valid} {broken} {rest} p = grind (arith, common_steps, lossy_of-split)

-- the bytes that are shown for `broken`, U+FFFD or nothing, are UTF-8
replacement_for_is_utf8 : (broken : List ℕ) → IsUtf8 (replacement_for broken)
replacement_for_is_utf8 [] = IsUtf8-nil
replacement_for_is_utf8 (b ∷ bs) = grind (arith, IsUtf8-sequence, replacement_is_sequence)

-- if `text` is UTF-8, then `text`, the bytes that are shown for `broken`, and the lossy form of
-- `rest`, one after the other, are UTF-8
pub lossy_is_utf8 : (text broken rest : List ℕ) → IsUtf8 text
    → IsUtf8 ((text ++ replacement_for broken) ++ lossy_of rest)
lossy_is_utf8 text broken rest h =
    grind (arith, IsUtf8-append, replacement_for_is_utf8, IsUtf8-from_IsText, lossy_is_text)

-- if n is at most 16: appending the first 16 bytes of s to the k `items`, and then keeping only the
-- first k + n items, appends the first n bytes of s to `items`
pub first_of_sixteen : (items s : List ℕ) (k n : ℕ) → k ≡ length items → n ≤ 16
    → take (k + n) (items ++ take 16 s) ≡ items ++ take n s
first_of_sixteen items s k n e few =
    grind (arith, take-append-add items (take 16 s) n, take-take n 16 s few)
