-- The depth of a path, which is the number of trailing components that can be removed: all except
-- the root, which can only be the first component.
use Rattle.std.proofs.Common.{◌≡◌, ℕ, suc, ◌-◌, List, [], ◌∷◌, ◌++◌, length, ap}
use Rattle.std.proofs.Common.{arith}
use Rattle.std.proofs.lemmas.Grind.{common_steps}
use Rattle.unix_path.specs.Parts.{Value, RootDir, values}
use Rattle.unix_path.specs.Parents.{depth_of}
use Rattle.unix_path.proofs.lemmas.rests.RootLemmas.{root_count, root_count-values, root_last}

-- the depth of s is the number of its components, without the root
pub depth_of-values : (s : List ℕ) → depth_of s ≡ length (values s) - root_count (values s)
depth_of-values s = ap (λ n. length (values s) - n) (root_count-values s)

pub depth_of-none : (s : List ℕ) → values s ≡ [] → depth_of s ≡ 0
depth_of-none s e = omega (arith, depth_of-values s, ap length e)

-- if the last component of s is the root, s has depth 0
pub depth_of-root : (s : List ℕ) (vs : List Value) → values s ≡ vs ++ RootDir ∷ [] → depth_of s ≡ 0
depth_of-root s [] e = omega (arith, depth_of-values s, ap length e, ap root_count e)
depth_of-root s (v ∷ vs) e = absurd (omega (arith, root_last s (v ∷ vs) e))

-- if the last component v of s is not the root, the depth of s is one more than the number of the
-- components before v, without the root
pub depth_of-push : (s : List ℕ) (vs : List Value) (v : Value) → values s ≡ vs ++ v ∷ []
    → (v ≡ RootDir → ⊥) → depth_of s ≡ suc (length vs - root_count vs)
depth_of-push s vs v e differs = grind (arith, common_steps, depth_of-values)
