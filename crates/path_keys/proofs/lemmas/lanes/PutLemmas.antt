-- Bytes written to a buffer, each changed by the same function, one by one or many at once.
use Rattle.std.proofs.Common.{◌≡◌, ℕ, ◌+◌, ◌≤◌, List, ◌++◌, length, take, drop, map}
use Rattle.std.proofs.Common.{sym, ap, ◌∙◌, arith}
use Rattle.std.proofs.Common.{append_assoc, length-append, length-drop}
use Rattle.std.proofs.Common.{take-append-drop}
use Rattle.std.proofs.lemmas.List.{take_all, take-take}
use Rattle.std.proofs.lemmas.List.{length-map, length-take-le, map-append}
use Rattle.std.proofs.lemmas.List.{take_at}
use Rattle.std.proofs.lemmas.Simd.{length-chunk, length-put_chunk, take_more_put_chunk}
use Rattle.std.proofs.lemmas.List.{ext_get_or, get_or-drop}
use Rattle.std.proofs.lemmas.Simd.{get_or-put_chunk_above}
use Rattle.std.proofs.Math.Seq.{take-add}
use Rattle.std.specs.Simd.Lanes.{put_chunk}
use Rattle.path_runs.specs.Overlay.{overlay}

-- `out` is the buffer `old` with the first i of `bytes`, changed by f, written from index `at` on;
-- the bytes after the range for all of `bytes` are unchanged
pub record PutTo (f : ℕ → ℕ) (bytes old : List ℕ) (at i : ℕ) (out : List ℕ) : Type 0 where
  pub long : length out ≡ length old
  pub before : take (at + i) out ≡ take at old ++ map f (take i bytes)
  pub after : drop (at + length bytes) out ≡ drop (at + length bytes) old

-- if the first i bytes are written, and k is at most i, the first k bytes are written
pub put_fewer : (f : ℕ → ℕ) (bytes old : List ℕ) (at i k : ℕ) (out : List ℕ)
    → PutTo f bytes old at i out → k ≤ i → i ≤ length bytes → at + length bytes ≤ length old
    → PutTo f bytes old at k out
put_fewer f bytes old at i k out h l m fits = record {
  long = h.long;
  before =
      let near : length (take at old) ≡ at = length-take-le at old (omega arith) in
      let count : length (take k bytes) ≡ k = length-take-le k bytes (omega arith) in
      let front = take at old ++ map f (take k bytes) in
      let size : length front ≡ at + k =
      omega (
        arith,
        length-append (take at old) (map f (take k bytes)),
        near,
        count,
        length-map (take k bytes) f,
      ) in
      let split : take i bytes ≡ take k bytes ++ drop k (take i bytes) =
      sym (take-append-drop k (take i bytes)) ∙ ap (λ xs. xs ++ drop k (take i bytes))
      (take-take k i bytes l) in
      sym (take-take (at + k) (at + i) out (omega arith)) ∙ ap (take (at + k)) (h.before
      ∙ ap (λ xs. take at old ++ map f xs) split
      ∙ ap (λ xs. take at old ++ xs) (map-append f (take k bytes) (drop k (take i bytes)))
      ∙ sym (append_assoc (take at old) (map f (take k bytes)) (map f (drop k (take i bytes)))))
      ∙ take_at front (map f (drop k (take i bytes))) (at + k) size;
  after = h.after;
}

-- if the chunk ys, written at index i, ends at index n or before it, the bytes from n on are
-- unchanged
drop-put_chunk : (n i : ℕ) (xs ys : List ℕ) → i + length ys ≤ n
    → drop n (put_chunk i xs ys) ≡ drop n xs
drop-put_chunk n i xs ys l =
    ext_get_or 0 (drop n (put_chunk i xs ys)) (drop n xs)
    (omega (arith, length-drop n (put_chunk i xs ys), length-drop n xs, length-put_chunk i xs ys))
    (λ k few. get_or-drop n (put_chunk i xs ys) k 0
    ∙ get_or-put_chunk_above i xs ys (n + k) 0 (omega arith) ∙ sym (get_or-drop n xs k 0))

-- if the first i bytes are written, writing the next n bytes as one chunk writes the first i + n
pub put_many : (n : ℕ) (f : ℕ → ℕ) (bytes old : List ℕ) (at i : ℕ) (out new : List ℕ)
    → PutTo f bytes old at i out → i + n ≤ length bytes → at + length bytes ≤ length old
    → new ≡ put_chunk (at + i) out (map f (take n (drop i bytes)))
    → PutTo f bytes old at (i + n) new
put_many n f bytes old at i out new h l fits e =
    let block = map f (take n (drop i bytes)) in
    let size : length block ≡ n =
    length-map (take n (drop i bytes)) f ∙ length-chunk i n bytes l in
    record {
      long = ap length e ∙ length-put_chunk (at + i) out block ∙ h.long;
      before = ap (take (at + (i + n))) e
          ∙ take_more_put_chunk (at + i) out block (at + (i + n)) (omega arith)
          (omega (arith, h.long))
          ∙ ap (λ xs. xs ++ block) h.before
          ∙ append_assoc (take at old) (map f (take i bytes)) block
          ∙ ap (λ xs. take at old ++ xs)
          (sym (ap (map f) (take-add i n bytes)
          ∙ map-append f (take i bytes) (take n (drop i bytes))));
      after = ap (drop (at + length bytes)) e
          ∙ drop-put_chunk (at + length bytes) (at + i) out block (omega arith) ∙ h.after;
    }

-- if all of `bytes` are written, `out` is `old` overwritten from `at` on with `bytes`, changed by f
pub put_all : (f : ℕ → ℕ) (bytes old : List ℕ) (at i : ℕ) (out : List ℕ)
    → PutTo f bytes old at i out → i ≡ length bytes → out ≡ overlay at (map f bytes) old
put_all f bytes old at i out h e = grind (arith, length-map, take-append-drop, take_all)
