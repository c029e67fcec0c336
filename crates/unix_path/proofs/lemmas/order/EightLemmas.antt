-- The writes of eight bytes with which a component is fed to a hasher: first its bytes, and in the
-- last write the beginning of the terminator.
use Rattle.std.proofs.Common.{◌≡◌, ℕ, suc, ◌<◌, ◌≤◌, List, [], ◌∷◌, ◌++◌}
use Rattle.std.proofs.Common.{length, get_or, take, drop, map, refl, sym, ap, ◌∙◌, arith}
use Rattle.std.proofs.Common.{length-append, zero, rules, Fits, w8, w64}
use Rattle.std.specs.Hash.{le_bytes}
use Rattle.std.specs.Int.{from_le_bytes}
use Rattle.std.specs.List.{range_with_len}
use Rattle.std.proofs.lemmas.List.{length-take-le}
use Rattle.std.proofs.lemmas.List.FromFn.{fill_by_all}
use Rattle.std.proofs.lemmas.Nat.{le_bytes_8}
use Rattle.unix_path.specs.Hashed.{terminator, in_eights}

-- if s has at least eight bytes, the writes of s and the terminator are the first eight bytes of s,
-- and then the writes of the rest of s and the terminator
pub in_eights-more : (s : List ℕ) → 8 ≤ length s
    → in_eights (s ++ terminator) ≡ take 8 s ∷ in_eights (drop 8 s ++ terminator)
unfolding in_eights
in_eights-more s h = grind arith

-- if s has fewer than eight bytes, s and the terminator are fed in one write, of their first eight
-- bytes
pub in_eights-last : (s : List ℕ) → length s < 8
    → in_eights (s ++ terminator) ≡ take 8 (s ++ terminator) ∷ []
unfolding in_eights
in_eights-last s h = grind (arith, length-append)

-- each number of s is a byte
abbrev pub AreBytes : List ℕ → Type 0
AreBytes s = (i : ℕ) → Fits w8 (get_or s i 0)

-- two strings of bytes, concatenated, are a string of bytes
AreBytes-append : (s t : List ℕ) → AreBytes s → AreBytes t → AreBytes (s ++ t)
AreBytes-append [] t h k i = k i
AreBytes-append (x ∷ s) t h k zero = h 0
AreBytes-append (x ∷ s) t h k (suc i) = AreBytes-append s t (λ i. h (suc i)) k i

-- if s consists of bytes, each of its first n numbers is less than 256
AreBytes-take : (n : ℕ) (s : List ℕ) → AreBytes s → (i : ℕ) → get_or (take n s) i 0 < 256
AreBytes-take (suc n) (x ∷ s) h zero = omega (arith, h 0)
AreBytes-take (suc n) (x ∷ s) h (suc i) = AreBytes-take n s (λ i. h (suc i)) i
AreBytes-take n s h i = omega arith

-- if s consists of k bytes, and n is the number that is read, in little-endian order, from the
-- first eight bytes of s and the terminator, then the eight little-endian bytes of n are these
-- bytes
pub le_bytes-last : (s : List ℕ) (k n : ℕ) → length s ≡ k → AreBytes s
    → n ≡ from_le_bytes w64 (take 8 (map (λ i. get_or s i 0) (range_with_len 0 k) ++ terminator))
    → le_bytes 8 n ≡ take 8 (s ++ terminator)
unfolding le_bytes
le_bytes-last s k n e fits d =
    let read : s ≡ map (λ i. get_or s i 0) (range_with_len 0 k) =
    fill_by_all (λ i. get_or s i 0) s k 0 e (λ i l. refl) in
    let marked : AreBytes terminator = search rules in
    le_bytes_8 (take 8 (s ++ terminator)) n
    (length-take-le 8 (s ++ terminator) (omega (arith, length-append s terminator)))
    (AreBytes-take 8 (s ++ terminator) (AreBytes-append s terminator fits marked))
    (d ∙ ap (λ t. from_le_bytes w64 (take 8 (t ++ terminator))) (sym read))
