-- Byte strings that begin with other byte strings.
use Rattle.std.proofs.Common.{◌≡◌, ℕ, Bool, eqb, List, length, drop, sym, IsTrue}
use Rattle.std.proofs.lemmas.Bool.Decides.{Decides-eqb}
use Rattle.std.proofs.lemmas.Slice.Eq.{starts_is}
use Rattle.std.specs.List.{starts_with}
use Rattle.unix_path.specs.Prefixes.{IsPrefixOf}

-- if b is the result of testing whether `key` starts with `base`, b is true if and only if `base`
-- is a prefix of `key`
pub begins_told : (key base : List ℕ) (b : Bool) → b ≡ starts_with eqb key base
    → (IsTrue b → IsPrefixOf base key) × (IsPrefixOf base key → IsTrue b)
begins_told key base b e =
    let (to, from) = starts_is Decides-eqb key base b e in (
      λ is. (drop (length base) key, sym (to is)),
      λ (more, begins). from more (sym begins),
    )
