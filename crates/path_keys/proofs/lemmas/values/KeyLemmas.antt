-- The key of components is their codes, one after the other.
use Rattle.std.proofs.Common.{◌≡◌, List, [], ◌∷◌, ◌++◌}
use Rattle.std.proofs.Common.{append-nil, refl}
use Rattle.std.proofs.lemmas.List.Concat.{flat_map-append}
use Rattle.unix_path.specs.Parts.{Value}
use Rattle.path_keys.specs.Keys.{code, key_of}

-- the key of no components is empty
pub key_of-nil : key_of [] ≡ []
unfolding key_of
key_of-nil = refl

-- the key of v and vs is the code of v followed by the key of vs
pub key_of-cons : (v : Value) (vs : List Value) → key_of (v ∷ vs) ≡ code v ++ key_of vs
unfolding key_of
key_of-cons v vs = refl

-- the key of v as the only component is the code of v
pub key_of-one : (v : Value) → key_of (v ∷ []) ≡ code v
unfolding key_of
key_of-one v = append-nil (code v)

-- the key of vs and ws together is the key of vs followed by the key of ws
pub key_of-append : (vs ws : List Value) → key_of (vs ++ ws) ≡ key_of vs ++ key_of ws
unfolding key_of
key_of-append vs ws = flat_map-append code vs ws
