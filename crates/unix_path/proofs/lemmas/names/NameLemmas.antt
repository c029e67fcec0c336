-- The last dot of a file name, and the stem before it.
use Rattle.std.proofs.Common.{◌≡◌, ◌==◌, ℕ, ◌-◌, ◌≤◌, ◌<◌, Bool, true, false, not, List, length}
use Rattle.std.proofs.Common.{take, drop, get_or, Some, None, refl, sym, ap, arith, le-ltb}
use Rattle.std.proofs.Common.{◌+◌, ◌∙◌, eq-eqb, get_or-drop, length-drop}
use Rattle.std.specs.List.{position_or_len}
use Rattle.std.proofs.lemmas.List.Sums.{fails_before_first, suffix_len_is}
use Rattle.std.proofs.lemmas.Grind.{common_steps}
use Rattle.unix_path.specs.Parts.{dot}
use Rattle.unix_path.specs.Names.{after_last, split_name}

abbrev pub is_dot : ℕ → Bool
is_dot b = b == dot

-- if no byte of s at index n or later passes p, and n is 0 or the byte before n passes p, then n is
-- the index just after the last byte that passes p, or 0 if none does
pub after_last-is : (p : ℕ → Bool) (s : List ℕ) (n : ℕ) → n ≤ length s
    → ((k : ℕ) → n ≤ k → k < length s → not (p (get_or s k 0)) ≡ true)
    → (0 < n → not (p (get_or s (n - 1) 0)) ≡ false) → n ≡ after_last p s
after_last-is p s n l after here =
    omega (arith, suffix_len_is (λ b. not (p b)) s n 0 l after here)

-- if n is 0 or just after an occurrence of `byte` in s, and `byte` doesn't occur at n or later,
-- then n is the index just after the last occurrence, or 0 if there is none
pub after_last-byte : (byte : ℕ) (s : List ℕ) (n : ℕ) → n ≤ length s
    → (0 < n → get_or s (n - 1) 0 ≡ byte)
    → position_or_len (λ b. b == byte) (drop n s) ≡ length (drop n s)
    → n ≡ after_last (λ b. b == byte) s
after_last-byte byte s n l after none =
    after_last-is (λ b. b == byte) s n l
    (λ k from to.
    let back : n + (k - n) ≡ k = omega arith in
    ap (λ z. not (z == byte))
    (ap (λ i. get_or s i 0) (sym back) ∙ sym (get_or-drop n s (k - n) 0))
    ∙ ap not (fails_before_first (λ b. b == byte) (drop n s) (k - n) 0
    (omega (arith, length-drop n s))))
    (λ some. ap not (eq-eqb (get_or s (n - 1) 0) byte (after some)))

-- if n is the index just after the last dot of `name`, or 0, and n is at most 1, the stem is all of
-- `name`, and there is no extension
pub split_name-whole : (name : List ℕ) (n : ℕ) → n ≡ after_last is_dot name → n ≤ 1
    → split_name name ≡ (name, None)
unfolding split_name
split_name-whole name n e l = rw (le-ltb 1 (after_last is_dot name) (omega arith)) refl

-- if n is the index just after the last dot of `name`, and n is more than 1, the stem is the bytes
-- before this dot, and the extension is the bytes after it
pub split_name-cut : (name : List ℕ) (n : ℕ) → n ≡ after_last is_dot name → 1 < n
    → split_name name ≡ (take (n - 1) name, Some (drop n name))
unfolding split_name
split_name-cut name n e l = grind arith

-- the stem of `name` is a prefix of `name`
pub split_name-stem : (name : List ℕ)
    → take (length (split_name name).0) name ≡ (split_name name).0
unfolding split_name
split_name-stem name = grind (arith, common_steps)
