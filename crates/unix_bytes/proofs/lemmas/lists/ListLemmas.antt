-- The two cases of a test, and the first and last elements of a list.
use Rattle.std.proofs.Common.{◌≡◌, ℕ, suc, ◌+◌, ◌-◌, ◌≤◌, Bool, true, false, List, [], ◌∷◌}
use Rattle.std.proofs.Common.{◌++◌, length, take, drop, Option, Some, refl, sym, ap, ◌∙◌, arith}
use Rattle.std.proofs.Common.{length-drop}
use Rattle.std.specs.List.{last_or}
use Rattle.std.specs.Prelude.{slice_range}
use Rattle.std.proofs.lemmas.List.{length-take, take-take}

-- if G follows both from b being true and from b being false, G holds
pub by_test : {G : Type 0} (b : Bool) → (b ≡ true → G) → (b ≡ false → G) → G
by_test true holds fails = holds refl
by_test false holds fails = fails refl

pub take-suc_cons : {A : Type 0} (n : ℕ) (x : A) (xs : List A)
    → take (1 + n) (x ∷ xs) ≡ x ∷ take n xs
take-suc_cons n x xs = ap (λ k. take k (x ∷ xs)) {x = 1 + n} {y = suc n} (omega arith)

pub drop-suc_cons : {A : Type 0} (n : ℕ) (x : A) (xs : List A) → drop (1 + n) (x ∷ xs) ≡ drop n xs
drop-suc_cons n x xs = ap (λ k. drop k (x ∷ xs)) {x = 1 + n} {y = suc n} (omega arith)

-- if u is a prefix of s and has at least n bytes, the first n bytes of u are the first n of s
pub take-beginning : (s u : List ℕ) (n : ℕ) → take (length u) s ≡ u → n ≤ length u
    → take n u ≡ take n s
take-beginning s u n e l = ap (take n) (sym e) ∙ take-take n (length u) s l

-- if b is at most the length of s, the range of s from index a up to b, exclusive, has b - a bytes
pub length-range : (s : List ℕ) (a b : ℕ) → b ≤ length s → length (slice_range s a b) ≡ b - a
length-range s a b l = omega (arith, length-take (b - a) (drop a s), length-drop a s)

-- a list is empty, or is some list with one element appended
pub data Snoc {X : Type 0} (xs : List X) : Type 0 where
  Empty : xs ≡ [] → Snoc xs
  Push : (ys : List X) (y : X) → xs ≡ ys ++ y ∷ [] → Snoc xs

-- if `Snoc` holds of xs, it also holds of x followed by xs
snoc-cons : {X : Type 0} (x : X) (xs : List X) → Snoc xs → Snoc (x ∷ xs)
snoc-cons x xs (Empty e) = Push [] x (ap (λ ys. x ∷ ys) e)
snoc-cons x xs (Push ys y e) = Push (x ∷ ys) y (ap (λ ys. x ∷ ys) e)

-- a list is empty or has a last element
pub snoc : {X : Type 0} (xs : List X) → Snoc xs
snoc [] = Empty refl
snoc (x ∷ xs) = snoc-cons x xs (snoc xs)

-- if y is appended to xs, the last element is y; the default o doesn't matter
pub last_or-push : {X : Type 0} (o : Option X) (xs : List X) (y : X)
    → last_or o (xs ++ y ∷ []) ≡ Some y
last_or-push o [] y = refl
last_or-push o (x ∷ xs) y = last_or-push (Some x) xs y
