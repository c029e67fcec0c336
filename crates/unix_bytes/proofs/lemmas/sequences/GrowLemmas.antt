-- The first front, found byte by byte (`front_of`), is the longest front (`longest_front_of`).
use Rattle.std.proofs.Common.{◌≡◌, ℕ, suc, ◌+◌, ◌≤◌, List, [], ◌∷◌, ◌++◌, length, take, drop, Bool}
use Rattle.std.proofs.Common.{true, false, cond, ◌⊎◌, inl, refl, ap, ◌∙◌, arith}
use Rattle.std.proofs.Common.{append_assoc, append-nil, length-append}
use Rattle.std.specs.List.{push}
use Rattle.std.proofs.lemmas.List.{take_at, drop_at}
use Rattle.std.proofs.Math.Seq.{take-append-add}
use Rattle.std.proofs.lemmas.Grind.{common_steps}
use Rattle.unix_bytes.specs.Utf8.{begins_sequence}
use Rattle.unix_bytes.specs.Lossy.{fronts_from, fronts_of, front_of}
use Rattle.unix_bytes.specs.Steps.{longest_front_of, HasBegun}
use Rattle.unix_bytes.proofs.lemmas.sequences.FrontLemmas.{length-longest_front_of}
use Rattle.unix_bytes.proofs.lemmas.sequences.FrontLemmas.{longest_front_of-nil}
use Rattle.unix_bytes.proofs.lemmas.sequences.FrontLemmas.{longest_front_of-take}

-- u is one byte, or begins a sequence
abbrev IsGrown : List ℕ → Type 0
IsGrown u = (length u ≡ 1) ⊎ (begins_sequence u ≡ true)

-- let u be one byte, or begin a sequence and not be empty: if s is empty, or u and the first byte
-- of s together begin no sequence, the longest front of u followed by s is u
longest_front_of-append : (u s : List ℕ) → 1 ≤ length u → IsGrown u
    → (HasBegun (u ++ s) (suc (length u)) → ⊥) → longest_front_of (u ++ s) ≡ u
longest_front_of-append u s some at end =
    let n = length u in
    let front : take n (u ++ s) ≡ u = take_at u s n refl in
    grind (arith, common_steps, longest_front_of-take, length-longest_front_of)

-- the longest front of s, and then the fronts of the bytes of s after it
abbrev longest_fronts : List ℕ → List (List ℕ)
longest_fronts s = longest_front_of s ∷ fronts_of (drop (length (longest_front_of s)) s)

-- let u be one byte, or begin a sequence and not be empty: if s is empty, or u and the first byte
-- of s together begin no sequence, `longest_fronts` of u followed by s is u and then the fronts of
-- s
longest_fronts-append : (u s : List ℕ) → 1 ≤ length u → IsGrown u
    → (HasBegun (u ++ s) (suc (length u)) → ⊥) → longest_fronts (u ++ s) ≡ u ∷ fronts_of s
longest_fronts-append u s some at end = grind (arith, longest_front_of-append, drop_at)

-- one step of `fronts_from` with the next byte b yields `longest_fronts`, if the steps after an
-- extension of u do: u, which is one byte or begins a sequence, is extended by b if both together
-- begin a sequence, and otherwise u is the longest front
fronts_from-step : (b : ℕ) (s u : List ℕ) → 1 ≤ length u → IsGrown u
    → (begins_sequence (push u b) ≡ true
    → fronts_from (push u b) s ≡ longest_fronts (push u b ++ s))
    → (c : Bool) → begins_sequence (push u b) ≡ c
    → cond c (fronts_from (push u b) s) (u ∷ fronts_from (b ∷ []) s) ≡ longest_fronts (u ++ b ∷ s)
unfolding fronts_of
fronts_from-step b s u some at more true e = more e ∙ ap longest_fronts (append_assoc u (b ∷ []) s)
fronts_from-step b s u some at more false e =
    let next : take (suc (length u)) (u ++ b ∷ s) ≡ push u b =
    ap (λ k. take k (u ++ b ∷ s)) {x = suc (length u)} {y = length u + 1} (omega arith)
    ∙ take-append-add u (b ∷ s) 1 in
    grind (arith, longest_fronts-append)

-- let u be one byte, or begin a sequence and not be empty: `fronts_from u s` is the longest front
-- of u followed by s, and then the fronts of the bytes after that front
fronts_from-longest : (s u : List ℕ) → 1 ≤ length u → IsGrown u
    → fronts_from u s ≡ longest_fronts (u ++ s)
unfolding fronts_of
fronts_from-longest [] u some at = grind (arith, longest_fronts-append, length-append)
fronts_from-longest (b ∷ s) u some at =
    grind (arith, fronts_from-step, length-append, fronts_from-longest s (push u b))

-- the empty byte string has no fronts
pub fronts_of-nil : fronts_of [] ≡ []
unfolding fronts_of
fronts_of-nil = refl

-- the fronts of a nonempty byte string are its longest front and then the fronts of the bytes after
-- that front
pub fronts_of-some : (b : ℕ) (bs : List ℕ) → fronts_of (b ∷ bs)
    ≡ longest_front_of (b ∷ bs) ∷ fronts_of (drop (length (longest_front_of (b ∷ bs))) (b ∷ bs))
unfolding fronts_of
fronts_of-some b bs = fronts_from-longest bs (b ∷ []) (omega arith) (inl refl)

-- the first front of s, by `front_of`, is the longest front of s
pub front_of-longest : (s : List ℕ) → front_of s ≡ longest_front_of s
front_of-longest [] = grind (arith, fronts_of-nil, longest_front_of-nil)
front_of-longest (b ∷ bs) = grind (arith, fronts_of-some, append-nil)
