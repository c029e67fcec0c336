-- The bytes that a component feeds a hasher: the component's bytes, a slash, and zeros.
use Rattle.std.proofs.Common.{◌≡◌, ℕ, suc, zero, ◌+◌, ◌-◌, ◌*◌, ◌/◌, List, [], ◌∷◌, ◌++◌, length}
use Rattle.std.proofs.Common.{take, drop, refl, arith, length-append, append_assoc}
use Rattle.std.proofs.lemmas.List.{append_cancel_left}
use Rattle.std.proofs.lemmas.List.Folds.{concat-append}
use Rattle.std.proofs.Math.Seq.{take-add, take-append-add}
use Rattle.std.specs.List.{concat, repeat}
use Rattle.std.specs.Simd.{first_chunks}
use Rattle.unix_path.specs.Hashed.{terminator, in_eights, hash_input_of}
use Rattle.unix_path.specs.Parts.{slash, Value, value_bytes}

-- the first k chunks of 8 bytes of xs, one after the other, are the first 8 * k bytes of xs
concat-first_chunks : (k : ℕ) (xs : List ℕ) → concat (first_chunks 8 k xs) ≡ take (8 * k) xs
concat-first_chunks zero xs = refl
concat-first_chunks (suc k) xs =
    grind (arith, concat-first_chunks k (drop 8 xs), take-add 8 (8 * k) xs)

-- the zeros after n bytes and a slash, up to a multiple of 8 bytes
zeros_after : ℕ → List ℕ
zeros_after n = take (8 * ((n + 8) / 8) - (n + 1)) (repeat 7 (0 ∷ []))

-- if b and the terminator are split into chunks of 8 bytes, without the bytes left over at the end,
-- the chunks, one after the other, are b, a slash, and zeros up to a multiple of 8 bytes
concat-in_eights : (b : List ℕ)
    → concat (in_eights (b ++ terminator)) ≡ b ++ slash ∷ zeros_after (length b)
unfolding in_eights zeros_after
concat-in_eights b =
    let n = length b in
    let count : 8 * (length (b ++ terminator) / 8) ≡ n + suc (8 * ((n + 8) / 8) - (n + 1)) =
    omega (arith, length-append b terminator) in
    grind (arith, concat-first_chunks, take-append-add)

-- the zeros that follow the bytes of v and a slash, and then x
pub with_zeros : Value → List ℕ → List ℕ
with_zeros v x = zeros_after (length (value_bytes v)) ++ x

pub with_zeros-cancel : (v : Value) (x y : List ℕ) → with_zeros v x ≡ with_zeros v y → x ≡ y
unfolding with_zeros
with_zeros-cancel v x y e = append_cancel_left (zeros_after (length (value_bytes v))) x y e

-- the bytes that the components v and then vs feed, followed by x, are the bytes of v, a slash,
-- zeros, the bytes that vs feed, and x
pub concat-hash_input_of : (v : Value) (vs : List Value) (x : List ℕ)
    → concat (hash_input_of (v ∷ vs)) ++ x
    ≡ value_bytes v ++ slash ∷ with_zeros v (concat (hash_input_of vs) ++ x)
unfolding with_zeros
concat-hash_input_of v vs x =
    let b = value_bytes v in
    simp (zeros_after, concat-append, concat-in_eights, append_assoc)
