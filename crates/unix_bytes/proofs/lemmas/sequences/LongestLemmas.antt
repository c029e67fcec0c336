-- The longest prefix that passes a test.
use Rattle.std.proofs.Common.{◌≡◌, ℕ, zero, suc, ◌<◌, ◌≤◌, List, ◌++◌, length, take, Bool, true}
use Rattle.std.proofs.Common.{false, cond, ◌⊎◌, ⊎_elim, inr, refl, sym, ◌∙◌, subst, arith}
use Rattle.std.proofs.lemmas.Bool.{cases_lt, cond-true, cond-false}
use Rattle.std.proofs.lemmas.Grind.{common_steps}
use Rattle.unix_bytes.specs.Steps.{longest_len_to, longest_len}

-- let n be at most m: if n is 0 or the first n bytes of s pass the test, and if each longer prefix
-- of s of up to m bytes fails, `longest_len_to m test s` is n
longest_len_to-is : (m n : ℕ) (test : List ℕ → Bool) (s : List ℕ) → n ≤ m
    → (n ≡ 0) ⊎ (test (take n s) ≡ true)
    → ((k : ℕ) → n < k → k ≤ m → test (take k s) ≡ false) → longest_len_to m test s ≡ n
longest_len_to-is zero n test s le at above = omega arith
longest_len_to-is (suc m) n test s le at above =
    ⊎_elim
    (λ (l : n < suc m).
    cond-false _ _ _ (above (suc m) l (omega arith))
    ∙ longest_len_to-is m n test s (omega arith) at (λ k p q. above k p (omega arith)))
    (λ (g : suc m ≤ n).
    let e : n ≡ suc m = omega arith in
    ⊎_elim (λ z. absurd (omega arith))
    (λ t. cond-true _ _ _ (subst (λ j. test (take j s) ≡ true) e t) ∙ sym e) at)
    (cases_lt n (suc m))

-- let n be at most the length of s: if n is 0 or the first n bytes of s pass the test, and if each
-- longer prefix of s fails, `longest_len test s` is n
pub longest_len-is : (test : List ℕ → Bool) (s : List ℕ) (n : ℕ) → n ≤ length s
    → (n ≡ 0) ⊎ (test (take n s) ≡ true)
    → ((k : ℕ) → n < k → k ≤ length s → test (take k s) ≡ false) → longest_len test s ≡ n
unfolding longest_len
longest_len-is test s n le at above = longest_len_to-is (length s) n test s le at above

-- n is at most m; n is 0 or the first n bytes of s pass the test; and each longer prefix of s of up
-- to m bytes fails
pub record Longest (test : List ℕ → Bool) (s : List ℕ) (n m : ℕ) : Type 0 where
  pub within : n ≤ m
  pub passes : (n ≡ 0) ⊎ (test (take n s) ≡ true)
  pub longest : (k : ℕ) → n < k → k ≤ m → test (take k s) ≡ false

-- if `longest_len_to` finds the longest prefix of up to m bytes that passes (`Longest`), it also
-- finds the longest one of up to m + 1 bytes
one_more : (m : ℕ) (test : List ℕ → Bool) (s : List ℕ)
    → Longest test s (longest_len_to m test s) m
    → Longest test s (longest_len_to (suc m) test s) (suc m)
one_more m test s h = by (test (take (suc m) s)) refl
  where
    by : (b : Bool) → test (take (suc m) s) ≡ b
        → Longest test s (cond b (suc m) (longest_len_to m test s)) (suc m)
    by true e = record {
      within = omega arith;
      passes = inr e;
      longest = λ k p q. absurd (omega arith);
    }
    by false e = record {
      within = let w = h.within in omega arith;
      passes = h.passes;
      longest = λ k p q. ⊎_elim (λ (l : k < suc m). h.longest k p (omega arith))
          (λ (g : suc m ≤ k).
          let same : k ≡ suc m = omega arith in
          subst (λ j. test (take j s) ≡ false) (sym same) e) (cases_lt k (suc m));
    }

-- `longest_len_to m test s` is the length of the longest prefix of s, of up to m bytes, that passes
-- the test, or 0 if none passes (`Longest`)
longest_len_to-longest : (m : ℕ) (test : List ℕ → Bool) (s : List ℕ)
    → Longest test s (longest_len_to m test s) m
longest_len_to-longest zero test s = grind arith
longest_len_to-longest (suc m) test s = one_more m test s (longest_len_to-longest m test s)

-- `longest_len test s` is the length of the longest prefix of s that passes the test, or 0 if none
-- passes (`Longest`)
pub longest_len-longest : (test : List ℕ → Bool) (s : List ℕ)
    → Longest test s (longest_len test s) (length s)
unfolding longest_len
longest_len-longest test s = longest_len_to-longest (length s) test s

-- if s has at least k bytes, and its first k bytes pass the test, the longest prefix of s that
-- passes has at least k bytes
pub longest_len-least : (test : List ℕ → Bool) (s : List ℕ) (k : ℕ) → k ≤ length s
    → test (take k s) ≡ true → k ≤ longest_len test s
longest_len-least test s k within t = grind (arith, longest_len-longest)

-- if u is a prefix of s and passes the test, u is no longer than the longest prefix of s that
-- passes
pub longest_len-prefix : (test : List ℕ → Bool) (s u v : List ℕ) → test u ≡ true → s ≡ u ++ v
    → length u ≤ longest_len test s
longest_len-prefix test s u v t e = grind (arith, common_steps, longest_len-least)
