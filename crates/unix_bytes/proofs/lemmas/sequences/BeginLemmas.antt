-- Bytes begin a sequence (`BeginsSequence`) if and only if they pass the test `begins_sequence`.
use Rattle.std.proofs.Common.{rules}
use Rattle.std.proofs.Common.{◌≡◌, ℕ, ◌≤◌, List, [], ◌∷◌, ◌++◌, length, take, drop, map, Bool, true}
use Rattle.std.proofs.Common.{⊎_elim, nat_le, refl, arith}
use Rattle.std.proofs.Common.{take-append-drop}
use Rattle.std.specs.List.{list_any, list_all}
use Rattle.std.specs.Int.{is_in_range}
use Rattle.std.proofs.lemmas.Bool.{and_parts, or_cases, or_right}
use Rattle.std.proofs.lemmas.Bool.Decides.{nat_tests}
use Rattle.std.proofs.lemmas.Grind.{common_steps}
use Rattle.unix_bytes.specs.Utf8.{table, fits, is_sequence, BeginsSequence}
use Rattle.unix_bytes.specs.Utf8.{begins_sequence}

-- if t followed by u fits `row`, then t fits the first ranges of `row`, as many as t has bytes
fits_prefix : (row : List (ℕ × ℕ)) (t u : List ℕ)
    → fits row (t ++ u) ≡ true → fits (take (length t) row) t ≡ true
fits_prefix row [] u h = refl
fits_prefix [] (b ∷ t) u h = h
fits_prefix (r ∷ row) (b ∷ t) u h =
    let k : (fits row (t ++ u) ≡ true) × (is_in_range r.0 r.1 b ≡ true) = and_parts _ _ h in
    rw (fits_prefix row t u k.0, k.1) refl

-- if each x that passes p passes q, and some element of xs passes p, then some element of xs passes
-- q
any_more : {X : Type 0} (p q : X → Bool) (xs : List X)
    → ((x : X) → p x ≡ true → q x ≡ true) → list_any p xs ≡ true → list_any q xs ≡ true
any_more p q [] f h = h
any_more p q (x ∷ xs) f h =
    ⊎_elim (λ e. rw (f x e) refl)
    (λ e. or_right (q x) (list_any q xs) (any_more p q xs f e)) (or_cases (p x) (list_any p xs) h)

-- bytes that begin a sequence pass the test `begins_sequence`
pub begins_sequence-from : (t : List ℕ) → BeginsSequence t → begins_sequence t ≡ true
unfolding is_sequence begins_sequence
begins_sequence-from t (u, h) = search (rules, any_more, fits_prefix)

-- no range of `row` is empty
abbrev has_bytes : List (ℕ × ℕ) → Bool
has_bytes row = list_all (λ r. nat_le r.0 r.1) row

-- if the range from lo to hi, inclusive, is not empty, lo is in it
in_min : (lo hi : ℕ) → nat_le lo hi ≡ true → is_in_range lo hi lo ≡ true
in_min lo hi h = grind (arith, nat_tests)

-- if no range of `row` is empty, the least bytes of its ranges fit `row`
fits_min : (row : List (ℕ × ℕ)) → has_bytes row ≡ true → fits row (map (λ r. r.0) row) ≡ true
fits_min [] h = refl
fits_min (r ∷ row) h =
    let k : (nat_le r.0 r.1 ≡ true) × (has_bytes row ≡ true) = and_parts _ _ h in
    rw (fits_min row k.1, in_min r.0 r.1 k.0) refl

-- if no range of `row` is empty, and t fits the first ranges of `row`, as many as t has bytes, then
-- t followed by the least bytes of the remaining ranges fits `row`
fits_more : (row : List (ℕ × ℕ)) (t : List ℕ) → has_bytes row ≡ true
    → fits (take (length t) row) t ≡ true
    → fits row (t ++ map (λ r. r.0) (drop (length t) row)) ≡ true
fits_more row [] b h = fits_min row b
fits_more [] (x ∷ t) b h = h
fits_more (r ∷ row) (x ∷ t) b h =
    let k : (nat_le r.0 r.1 ≡ true) × (has_bytes row ≡ true) = and_parts _ _ b in
    let j : (fits (take (length t) row) t ≡ true) × (is_in_range r.0 r.1 x ≡ true) =
    and_parts _ _ h in
    rw (fits_more row t k.1 j.0, j.1) refl

-- if no range in `rows` is empty, and t fits the first ranges of some row, as many as t has bytes,
-- then for some bytes u, t followed by u fits a whole row
some_row : (rows : List (List (ℕ × ℕ))) (t : List ℕ) → list_all has_bytes rows ≡ true
    → list_any (λ row. fits (take (length t) row) t) rows ≡ true
    → (u : List ℕ) × (list_any (λ row. fits row (t ++ u)) rows ≡ true)
some_row [] t b h = ([], h)
some_row (row ∷ rows) t b h =
    let k : (has_bytes row ≡ true) × (list_all has_bytes rows ≡ true) = and_parts _ _ b in
    ⊎_elim (λ e. (map (λ r. r.0) (drop (length t) row), rw (fits_more row t k.0 e) refl))
    (λ e.
    let (u, j) = some_row rows t k.1 e in
    (u, or_right (fits row (t ++ u)) (list_any (λ row. fits row (t ++ u)) rows) j))
    (or_cases (fits (take (length t) row) t)
    (list_any (λ row. fits (take (length t) row) t) rows) h)

-- bytes that pass the test `begins_sequence` begin a sequence
pub BeginsSequence-from : (t : List ℕ) → begins_sequence t ≡ true → BeginsSequence t
unfolding is_sequence begins_sequence
BeginsSequence-from t h = some_row table t refl h

-- if j is at most k, and the first k bytes of t begin a sequence, so do the first j bytes of t
pub BeginsSequence-take : (j k : ℕ) (t : List ℕ) → j ≤ k
    → BeginsSequence (take k t) → BeginsSequence (take j t)
BeginsSequence-take j k t le (u, is) = grind (arith, common_steps, take-append-drop j (take k t))
