-- The cache's records about a path's leading bytes stay valid as long as these bytes don't change.
use Rattle.std.proofs.Common.{◌≡◌, ℕ, ◌≤◌, List, length, take, sym, ap, ◌∙◌, arith, rules}
use Rattle.std.proofs.lemmas.List.{take-take}
use Rattle.path_runs.specs.ScanCache.{CachesEnd, CachesStem}

-- if s and t have the same first n bytes, they have the same first k bytes for each k up to n
shared : (s t : List ℕ) (k n : ℕ) → k ≤ n → take n s ≡ take n t → take k s ≡ take k t
shared s t k n l e = sym (take-take k n s l) ∙ ap (take k) e ∙ take-take k n t l

-- if `end` is recorded for the first `len` bytes of s (`CachesEnd`), and s and t have the same
-- first n bytes, where n is at least `len` and at most the length of t, the record is also valid
-- for t
pub CachesEnd-unchanged : (s t : List ℕ) (n end len : ℕ) → CachesEnd s end len → n ≤ length t
    → take n s ≡ take n t → len ≤ n → CachesEnd t end len
CachesEnd-unchanged s t n end len h l e few = search (rules, shared)

-- if `stem` is recorded for s (`CachesStem`), and s and t have the same first n bytes, where n is
-- at least `stem` and at most the length of t, the record is also valid for t
pub CachesStem-unchanged : (s t : List ℕ) (n stem : ℕ) → CachesStem s stem → n ≤ length t
    → take n s ≡ take n t → stem ≤ n → CachesStem t stem
CachesStem-unchanged s t n stem h l e few = grind (arith, shared)
