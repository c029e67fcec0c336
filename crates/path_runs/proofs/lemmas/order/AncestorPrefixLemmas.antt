-- Each ancestor of a path is a prefix of the path's bytes.
use Rattle.std.proofs.Common.{ℕ, zero, suc, ◌+◌, List, [], ◌++◌, length, drop, map}
use Rattle.std.proofs.Common.{sym, ap, ◌∙◌, append-nil, take-append-drop, rules}
use Rattle.std.specs.List.{All, AllByRecursion, range_with_len}
use Rattle.std.proofs.lemmas.List.Elements.{All-from_recursion}
use Rattle.unix_path.specs.Rest.{rest}
use Rattle.unix_path.specs.Parents.{depth_of, ancestors_of}
use Rattle.unix_path.specs.Prefixes.{IsPrefixOf}
use Rattle.unix_path.proofs.lemmas.rests.RestLemmas.{take-rest}
use Rattle.unix_path.proofs.lemmas.callers.CallerLemmas.{ancestors_of-alone, ancestors_of-above}

-- the bytes of a path begin with `prefix`
abbrev HasPrefix : List ℕ → List ℕ → Type 0
HasPrefix s prefix = IsPrefixOf prefix s

-- the bytes of s begin with the bytes of the rest of s without its last m components
rest-prefix : (s : List ℕ) (m : ℕ) → HasPrefix s (rest s 0 m)
rest-prefix s m =
    let n = length (rest s 0 m) in
    (drop n s, ap (λ u. u ++ drop n s) (sym (take-rest s m)) ∙ take-append-drop n s)

-- for each m from a to a + n, exclusive, the bytes of s begin with the bytes of the rest of s
-- without its last m components
rests-prefixes : (s : List ℕ) (a n : ℕ)
    → AllByRecursion (HasPrefix s) (map (λ m. rest s 0 m) (range_with_len a n))
rests-prefixes s a zero = tt
rests-prefixes s a (suc n) = (rest-prefix s a, rests-prefixes s (a + 1) n)

ancestors-recursion : (s : List ℕ) → AllByRecursion (HasPrefix s) (ancestors_of s)
unfolding ancestors_of
ancestors-recursion s = (([], append-nil s), rests-prefixes s 1 (depth_of s))

-- the bytes of s begin with the bytes of each ancestor of s
pub ancestors_of-prefixes : (s : List ℕ) → All (λ prefix. IsPrefixOf prefix s) (ancestors_of s)
ancestors_of-prefixes s = search (rules, All-from_recursion, ancestors-recursion)

pub ruleset ancestors_step_cases = (ancestors_of-alone, ancestors_of-above, ancestors_of-prefixes)
