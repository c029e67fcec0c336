-- Pairs of a list's elements, in any order.
use Rattle.std.proofs.Common.{◌≡◌, ◌≢◌, ◌⊎◌, ◌<◌, ℕ, List, length, refl, sym, ap, ◌∙◌, subst, inl}
use Rattle.std.proofs.Common.{inr, arith, slice_index_or}
use Rattle.std.specs.Prelude.{AllPairs}
use Rattle.std.specs.List.{swap}
use Rattle.std.specs.List.Sorted.{IsPermutation}
use Rattle.std.proofs.lemmas.Bool.{cases_lt}
use Rattle.std.proofs.lemmas.List.Edits.{length-swap, swapped_from_swap}
use Rattle.std.proofs.lemmas.List.Sorted.{IsPermutation-keeps}

-- R holds of any two elements
abbrev pub Spread : {X : Type 0} → (X → X → Type 0) → List X → Type 0
Spread {X} R xs = (i j : ℕ) (d : X) → i < length xs → j < length xs → i ≢ j
    → R (slice_index_or xs i d) (slice_index_or xs j d)

-- pairs in either order
pub spread_pairs : {X : Type 0} (R : X → X → Type 0) → ((x y : X) → R x y → R y x) → (xs : List X)
    → AllPairs R xs → Spread R xs
spread_pairs R back xs h i j d i_in j_in other = elim (cases_lt i j) [
  | ◌⊎◌.inl before ↦ h i j d before j_in
  | ◌⊎◌.inr not_before ↦
      let after : j < i = omega arith in
      back (slice_index_or xs j d) (slice_index_or xs i d) (h j i d after i_in)
]

-- where an element of a list with two places swapped comes from
record Source {X : Type 0} (xs : List X) (a b : ℕ) (d : X) (k : ℕ) : Type 0 where
  from : ℕ
  from_in : from < length xs
  is : slice_index_or (swap xs a b) k d ≡ slice_index_or xs from d
  how : ((k ≡ a) × (from ≡ b)) ⊎ (((k ≡ b) × (from ≡ a)) ⊎ ((k ≢ a) × ((k ≢ b) × (from ≡ k))))

-- two indices are the same or not
pub same_or : (k a : ℕ) → (k ≡ a) ⊎ (k ≢ a)
same_or k a = elim (cases_lt k a) [
  | ◌⊎◌.inl less ↦ inr (λ is. omega arith)
  | ◌⊎◌.inr not_less ↦ elim (cases_lt a k) [
    | ◌⊎◌.inl more ↦ inr (λ is. omega arith)
    | ◌⊎◌.inr not_more ↦ inl (omega arith)
  ]
]

-- each element comes from a place
source : {X : Type 0} (xs : List X) (a b : ℕ) (d : X) (k : ℕ) → a < length xs → b < length xs
    → k < length xs → Source xs a b d k
source xs a b d k a_in b_in k_in =
    let swapped = swapped_from_swap xs (swap xs a b) a b d a_in b_in refl in
    elim (same_or k a) [
      | ◌⊎◌.inl at ↦ record {
        from = b;
        from_in = b_in;
        is = ap (λ i. slice_index_or (swap xs a b) i d) at ∙ swapped.0;
        how = inl (at, refl);
      }
      | ◌⊎◌.inr not_a ↦ elim (same_or k b) [
        | ◌⊎◌.inl at ↦ record {
          from = a;
          from_in = a_in;
          is = ap (λ i. slice_index_or (swap xs a b) i d) at ∙ swapped.1;
          how = inr (inl (at, refl));
        }
        | ◌⊎◌.inr not_b ↦ record {
          from = k;
          from_in = k_in;
          is = swapped.2 k not_a not_b;
          how = inr (inr (not_a, (not_b, refl)));
        }
      ]
    ]

-- two elements come from two places
two_sources : {X : Type 0} (xs : List X) (a b : ℕ) (d : X) (i j : ℕ) (s : Source xs a b d i)
    (t : Source xs a b d j) → i ≢ j → s.from ≢ t.from
two_sources xs a b d i j s t other same = by s.how t.how
  where
    by : ((i ≡ a) × (s.from ≡ b)) ⊎
        (((i ≡ b) × (s.from ≡ a)) ⊎ ((i ≢ a) × ((i ≢ b) × (s.from ≡ i))))
        → ((j ≡ a) × (t.from ≡ b)) ⊎ (((j ≡ b) × (t.from ≡ a))
        ⊎ ((j ≢ a) × ((j ≢ b) × (t.from ≡ j)))) → ⊥
    by (◌⊎◌.inl (h, k)) (◌⊎◌.inl (l, m)) = other (h ∙ sym l)
    by (◌⊎◌.inl (h, k)) (◌⊎◌.inr (◌⊎◌.inl (l, m))) = other (h ∙ sym m ∙ sym same ∙ k ∙ sym l)
    by (◌⊎◌.inl (h, k)) (◌⊎◌.inr (◌⊎◌.inr (l, (m, n)))) = m (sym n ∙ sym same ∙ k)
    by (◌⊎◌.inr (◌⊎◌.inl (h, k))) (◌⊎◌.inl (l, m)) = other (h ∙ sym m ∙ sym same ∙ k ∙ sym l)
    by (◌⊎◌.inr (◌⊎◌.inl (h, k))) (◌⊎◌.inr (◌⊎◌.inl (l, m))) = other (h ∙ sym l)
    by (◌⊎◌.inr (◌⊎◌.inl (h, k))) (◌⊎◌.inr (◌⊎◌.inr (l, (m, n)))) = l (sym n ∙ sym same ∙ k)
    by (◌⊎◌.inr (◌⊎◌.inr (h, (g, k)))) (◌⊎◌.inl (l, m)) = g (sym k ∙ same ∙ m)
    by (◌⊎◌.inr (◌⊎◌.inr (h, (g, k)))) (◌⊎◌.inr (◌⊎◌.inl (l, m))) = h (sym k ∙ same ∙ m)
    by (◌⊎◌.inr (◌⊎◌.inr (h, (g, k)))) (◌⊎◌.inr (◌⊎◌.inr (l, (m, n)))) = other (sym k ∙ same ∙ n)

-- pairs after a swap
swap_spread : {X : Type 0} (R : X → X → Type 0) (xs : List X) (a b : ℕ) → a < length xs
    → b < length xs → Spread R xs → Spread R (swap xs a b)
swap_spread R xs a b a_in b_in h i j d i_in j_in other =
    let size = length-swap xs a b in
    let s = source xs a b d i a_in b_in (omega arith) in
    let t = source xs a b d j a_in b_in (omega arith) in
    subst (λ x. R x (slice_index_or (swap xs a b) j d)) (sym s.is)
    (subst (λ y. R (slice_index_or xs s.from d) y) (sym t.is)
    (h s.from t.from d s.from_in t.from_in (two_sources xs a b d i j s t other)))

-- what holds of all pairs, in either order, holds of them after a permutation
pub permuted_pairs : {X : Type 0} (R : X → X → Type 0) → ((x y : X) → R x y → R y x)
    → (xs ys : List X) → IsPermutation xs ys → AllPairs R xs → AllPairs R ys
permuted_pairs R back xs ys moved h =
    let all = IsPermutation-keeps xs (Spread R) (spread_pairs R back xs h)
    (λ l i j i_in j_in. swap_spread R l i j i_in j_in) ys moved in
    λ i j d before j_in. all i j d (omega arith) j_in (λ same. omega arith)
