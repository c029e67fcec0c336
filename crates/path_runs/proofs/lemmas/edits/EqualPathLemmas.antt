-- Queries with the same result for equal paths.
use Rattle.std.proofs.Common.{◌≡◌, ℕ, List, [], ◌∷◌, map, refl}
use Rattle.std.proofs.Common.{arith}
use Rattle.unix_path.specs.Parts.{values, SameValues}
use Rattle.unix_path.specs.Rest.{rest}
use Rattle.unix_path.specs.Parents.{ancestors_of}
use Rattle.unix_path.specs.Prefixes.{stripped_of}
use Rattle.path_runs.proofs.lemmas.edits.CongruenceLemmas.{rests_same}
use Rattle.path_runs.proofs.lemmas.joins.LeadLemmas.{roots_same}

-- equal paths without their last m components are equal, for each m in the list ms
all_rests_same : (s t : List ℕ) (ms : List ℕ) → SameValues s t
    → map values (map (λ m. rest s 0 m) ms) ≡ map values (map (λ m. rest t 0 m) ms)
all_rests_same s t [] e = refl
all_rests_same s t (m ∷ ms) e = cc (rests_same s t 0 m e, all_rests_same s t ms e)

-- equal paths have equal ancestors, one by one
pub ancestors_same : (s t : List ℕ) → SameValues s t
    → map values (ancestors_of s) ≡ map values (ancestors_of t)
unfolding ancestors_of
ancestors_same s t e = grind (arith, all_rests_same, roots_same)

-- if equal paths are stripped of equal bases, the results are equal
pub stripped_of-same : (s t base other : List ℕ) → SameValues s t → SameValues base other
    → SameValues (stripped_of s base) (stripped_of t other)
stripped_of-same s t base other e f = grind (arith, rests_same)
