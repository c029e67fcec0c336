-- Where a run of names ends: separators after which no name starts. The separator is m, and the dot
-- is p.
use Rattle.std.proofs.Common.{◌≡◌, ◌<◌, ◌≤◌, ◌+◌, ℕ, Bool, false, eqb, List, ◌++◌}
use Rattle.std.proofs.Common.{length, take, get_or, sym, ap, ap₂, ◌∙◌, arith, drop, ◌-◌}
use Rattle.std.proofs.Common.{take-append-drop, ⊎_elim, ◌&&◌, ◌||◌}
use Rattle.std.proofs.lemmas.Bool.{cases_lt}
use Rattle.std.proofs.lemmas.List.{length-take-le}
use Rattle.std.proofs.lemmas.List.{get_or-append-add}
use Rattle.std.proofs.lemmas.Grind.{common_steps}
use Rattle.unix_path.specs.NameRunEnds.{ends_name_run_of, no_name_starts_at}
use Rattle.unix_path.specs.NameRunEnds.{IsNameRunEnd}

-- true if no name starts at the first of three consecutive bytes a, b and c
abbrev pub no_name : ℕ → ℕ → ℕ → ℕ → ℕ → Bool
no_name m p a b c = eqb a m || (eqb a p && (eqb b m || (eqb b p && eqb c m)))

-- `no_name` is the same for a, b, c as for the equal bytes x, y, z
pub no_name-same : (m p : ℕ) {a b c x y z : ℕ} → a ≡ x → b ≡ y → c ≡ z
    → no_name m p a b c ≡ no_name m p x y z
no_name-same m p e f g = grind arith

-- whether the byte of ys at i ends a run of names doesn't depend on the bytes xs before ys
pub ends_name_run-append : (m p : ℕ) (xs ys : List ℕ) (i : ℕ)
    → ends_name_run_of m p (xs ++ ys) (length xs + i) ≡ ends_name_run_of m p ys i
ends_name_run-append m p xs ys i =
    ap₂ (λ x r. eqb x m && r) (get_or-append-add xs ys i 0)
    (no_name-same m p (at (length xs + i + 1) (i + 1) (omega arith))
    (at (length xs + i + 1 + 1) (i + 1 + 1) (omega arith))
    (at (length xs + i + 1 + 2) (i + 1 + 2) (omega arith)))
  where
    at : (k n : ℕ) → k ≡ length xs + n → get_or (xs ++ ys) k m ≡ get_or ys n m
    at k n e = ap (λ n. get_or (xs ++ ys) n m) e ∙ get_or-append-add xs ys n m

-- whether the byte of s at `from` + k ends a run of names doesn't change if the first `from` bytes
-- of s are dropped
pub ends_name_run-behind : (m p : ℕ) (s : List ℕ) (from k : ℕ) → from ≤ length s
    → ends_name_run_of m p s (from + k) ≡ ends_name_run_of m p (drop from s) k
ends_name_run-behind m p s from k l =
    ap₂ (λ t n. ends_name_run_of m p t (n + k)) (sym (take-append-drop from s))
    (sym (length-take-le from s l))
    ∙ ends_name_run-append m p (take from s) (drop from s) k

-- if no run of names ends in the first `from` bytes of s or in the n bytes after them, none ends in
-- the first `from` + n bytes
pub no_end_in_both : (m p : ℕ) (s : List ℕ) (from n : ℕ) → from ≤ length s
    → ((i : ℕ) → i < from → ends_name_run_of m p s i ≡ false)
    → ((i : ℕ) → i < n → ends_name_run_of m p (drop from s) i ≡ false)
    → (i : ℕ) → i < from + n → ends_name_run_of m p s i ≡ false
no_end_in_both m p s from n l front behind i low = ⊎_elim
    (λ before. front i before)
    (λ past. ap (ends_name_run_of m p s) {x = i} {y = from + (i - from)} (omega arith)
    ∙ ends_name_run-behind m p s from (i - from) l ∙ behind (i - from) (omega arith))
    (cases_lt i from)

-- if the first n bytes are all of s, or the separator follows them, and i is at most n, then a name
-- starts at i in these bytes if and only if a name starts at i in s
pub no_name_starts_at-take : (m p : ℕ) (s : List ℕ) (n i : ℕ) → n ≤ length s → get_or s n m ≡ m → i
    ≤ n
    → no_name_starts_at m p (take n s) i ≡ no_name_starts_at m p s i
no_name_starts_at-take m p s n i l e few = grind (arith, common_steps)

-- if the first run of names in s ends at n, and n is less than the length of s, the byte of s at n
-- is the separator
pub separator_at_end : (m p : ℕ) (s : List ℕ) (n : ℕ) → IsNameRunEnd m p s n → n < length s
    → get_or s n 0 ≡ m
separator_at_end m p s n h l = grind arith

pub separator_or_no_byte : (m p : ℕ) (s : List ℕ) (n : ℕ) → IsNameRunEnd m p s n → get_or s n m ≡ m
separator_or_no_byte m p s n h = grind (arith, common_steps)

-- if the first run of names in s ends at n, no byte of the first n bytes of s, taken as a string of
-- their own, ends a run of names
pub no_end_before : (m p : ℕ) (s : List ℕ) (n : ℕ) → IsNameRunEnd m p s n
    → (i : ℕ) → i < length (take n s) → ends_name_run_of m p (take n s) i ≡ false
no_end_before m p s n h i l = grind (arith, common_steps)
