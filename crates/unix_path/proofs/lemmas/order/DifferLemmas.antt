-- Pieces that differ, and their order.
use Rattle.std.proofs.Common.{◌≡◌, ℕ, zero, suc, ◌+◌, ◌≤◌, ◌||◌, true, false, List, [], ◌∷◌, ◌++◌}
use Rattle.std.proofs.Common.{length, get_or, drop, refl, arith}
use Rattle.std.specs.Cmp.Lexicographic.{slice_cmp}
use Rattle.std.specs.Ordering.{nat_cmp}
use Rattle.std.specs.Str.{bytes_eq}
use Rattle.std.proofs.lemmas.Cmp.{nat_cmp_total}
use Rattle.unix_path.specs.Order.{value_cmp}
use Rattle.unix_path.specs.Parts.{cur_dir, parent_dir, value_of_piece}
use Rattle.unix_path.specs.Steps.{piece_rank}
use Rattle.unix_path.proofs.lemmas.order.CommonPrefixLemmas.{slice_cmp-common}
use Rattle.unix_path.proofs.lemmas.parts.PieceLemmas.{first_piece, first_piece-other}
use Rattle.unix_path.proofs.lemmas.parts.PieceLemmas.{first_piece-slash}

-- the first byte of a piece, plus 1; or 0 if the piece is empty
abbrev pub head_rank : List ℕ → ℕ
head_rank [] = 0
head_rank (b ∷ p) = 1 + b

-- the `head_rank` of the bytes of s from n up to the next slash is `piece_rank s n`
pub head_rank-drop : (s : List ℕ) (n : ℕ) → head_rank (first_piece (drop n s)) ≡ piece_rank s n
head_rank-drop [] zero = refl
head_rank-drop [] (suc n) = refl
head_rank-drop (b ∷ s) zero = grind (arith, first_piece-slash b s, first_piece-other b s)
head_rank-drop (b ∷ s) (suc n) = head_rank-drop s n

-- if q and r have different `head_rank`s, so that their first bytes differ or only one of them is
-- empty, they are in the order of these ranks
pub slice_cmp-heads : (q r : List ℕ) → (head_rank q ≡ head_rank r → ⊥)
    → slice_cmp nat_cmp q r ≡ nat_cmp (head_rank q) (head_rank r)
slice_cmp-heads [] [] differs = absurd (differs refl)
slice_cmp-heads q r differs = grind arith

-- the piece p ++ q is neither empty nor `.`, and if it is `..`, q is empty
pub record Counts (p q : List ℕ) : Type 0 where
  pub counts : (bytes_eq (p ++ q) [] || bytes_eq (p ++ q) cur_dir) ≡ false
  pub parent : bytes_eq (p ++ q) parent_dir ≡ true → head_rank q ≡ 0

-- if p is neither empty nor a dot, or q is not empty and begins with a byte that isn't a dot, then
-- the piece `p ++ q` is neither empty nor `.`, and if it is `..`, q is empty (`Counts`)
pub counts_from : (p q : List ℕ) → (length p ≤ 1 → get_or p 0 46 ≡ 46
    → (head_rank q ≡ 0 → ⊥) × (head_rank q ≡ 47 → ⊥)) → Counts p q
counts_from [] [] h = absurd ((h (omega arith) refl).0 refl)
counts_from [] (b ∷ q) h =
    let no_dot = (h (omega arith) refl).1 in
    record { counts = grind arith; parent = λ e. grind arith }
counts_from (c ∷ []) [] h = grind arith
counts_from (c ∷ []) (b ∷ q) h =
    let no_dot : c ≡ 46 → 1 + b ≡ 47 → ⊥ = λ e. (h (omega arith) e).1 in
    record { counts = grind arith; parent = λ e. grind arith }
counts_from (c ∷ d ∷ []) [] h = record { counts = grind arith; parent = λ e. refl }
counts_from (c ∷ d ∷ []) (b ∷ q) h = record { counts = grind arith; parent = λ e. grind arith }
counts_from (c ∷ d ∷ b ∷ p) q h = record { counts = grind arith; parent = λ e. grind arith }

-- if `Counts` holds for p and q, and for p and r, and q and r have different `head_rank`s, then the
-- components of the pieces `p ++ q` and `p ++ r` are in the order of these ranks
pub value_cmp-pieces : (p q r : List ℕ) → Counts p q → Counts p r
    → (head_rank q ≡ head_rank r → ⊥)
    → value_cmp (value_of_piece (p ++ q)) (value_of_piece (p ++ r))
    ≡ nat_cmp (head_rank q) (head_rank r)
value_cmp-pieces p q r first second differs =
    grind (
      arith,
      first.parent,
      second.parent,
      slice_cmp-common nat_cmp_total p q r,
      slice_cmp-heads q r differs,
    )
