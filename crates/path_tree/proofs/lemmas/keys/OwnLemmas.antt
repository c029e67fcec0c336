-- The keys of a tree, which are vectors, by their bytes: all are keys of paths.
use Rattle.std.proofs.Common.{◌≡◌, ℕ, Bool, true, List, ◌∷◌, Ordering}
use Rattle.std.proofs.lemmas.List.Elements.{All-head, All-tail, recursion_from_All}
use Rattle.std.specs.BTreeMap.{is_at}
use Rattle.std.specs.Global.{Vec}
use Rattle.std.specs.List.{AllByRecursion, AllPass}
use Rattle.std.specs.Map.{keys_of}
use Rattle.path_keys.specs.KeyValues.{is_own}
use Rattle.path_keys.specs.Ranges.{bytes_cmp}

-- a vector of the bytes of a key
abbrev pub Key : Type 0
Key = Vec ℕ

-- the bytes of a key
abbrev pub items_of : Key → List ℕ
items_of k = k.items

module _ {K : Type 0} (bytes_of : K → List ℕ) where
  -- true if the tree's key k has the bytes `key`
  abbrev pub is_it : List ℕ → K → Bool
  is_it key = is_at (λ k. bytes_cmp key (bytes_of k))

  -- the order of two keys of the tree, by their bytes
  abbrev pub keys_cmp : K → K → Ordering
  keys_cmp k l = bytes_cmp (bytes_of k) (bytes_of l)

module _ {K V : Type 0} (bytes_of : K → List ℕ) where
  -- all keys are keys of paths
  abbrev pub AllOwn : List (K × V) → Type 0
  AllOwn entries = AllByRecursion (λ k. is_own (bytes_of k) ≡ true) (keys_of entries)

  -- all keys are keys of paths, in the form of the tree's invariant
  abbrev pub Own : List (K × V) → Type 0
  Own entries = AllPass (λ k. is_own (bytes_of k)) (keys_of entries)

  -- if `Own` holds of the entries, `AllOwn` holds of them
  pub all_own : (entries : List (K × V)) → Own entries → AllOwn entries
  all_own entries own =
      recursion_from_All (λ k. is_own (bytes_of k) ≡ true) (keys_of entries) own

module _ {K V : Type 0} (bytes_of : K → List ℕ) (e : K × V) (entries : List (K × V))
    (own : Own bytes_of (e ∷ entries)) where
  -- the first key is the key of a path
  pub own_first : is_own (bytes_of e.0) ≡ true
  own_first = All-head (λ k. is_own (bytes_of k) ≡ true) e.0 (keys_of entries) own

  -- all keys after the first one are keys of paths
  pub own_others : Own bytes_of entries
  own_others = All-tail (λ k. is_own (bytes_of k) ≡ true) e.0 (keys_of entries) own
