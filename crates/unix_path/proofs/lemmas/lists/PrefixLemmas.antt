-- Lists of components that are prefixes of other lists.
use Rattle.std.proofs.Common.{arith}
use Rattle.std.proofs.Common.{◌≡◌, List, ◌∷◌}
use Rattle.unix_path.specs.Parts.{Value}
use Rattle.unix_path.specs.Prefixes.{IsPrefixOf}

-- if x followed by v is a prefix of y followed by w, x is y and v is a prefix of w
pub begins_tail : (x y : Value) (v w : List Value) → IsPrefixOf (x ∷ v) (y ∷ w) → (x ≡ y)
    × IsPrefixOf v w
begins_tail x y v w h = grind arith
