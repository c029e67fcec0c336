-- A walk over the entries of one tree, with a cursor in another tree: at the keys that remain, the
-- cursor finds what the other tree has.
use Rattle.std.proofs.Common.{◌≡◌, ◌∙◌, ℕ, List, [], ◌∷◌, ap, Less}
use Rattle.std.proofs.lemmas.Map.Keys.{sorted_head, sorted_tail}
use Rattle.std.specs.List.{AllByRecursion}
use Rattle.std.specs.List.Sorted.{IsStrictlySortedBy}
use Rattle.std.specs.Map.{keys_of}
use Rattle.path_keys.specs.Ranges.{bytes_cmp}
use Rattle.path_tree.specs.Entries.{entry_at}

-- at each of the keys, `now` and `other` have the same value, or none
abbrev FindsAt : {W : Type 0} → List (List ℕ × W) → List (List ℕ × W) → List (List ℕ) → Type 0
FindsAt other now keys = AllByRecursion (λ key. entry_at key now ≡ entry_at key other) keys

-- the entries `rest` of the walk are sorted, and `now`, the entries of the cursor, have at their
-- keys what the other tree has
pub record Merges {V W : Type 0} (other now : List (List ℕ × W)) (rest : List (List ℕ × V))
    : Type 0 where
  pub sorted : IsStrictlySortedBy bytes_cmp (keys_of rest)
  pub same : FindsAt other now (keys_of rest)

-- if `now` is `other`, both have the same value at each of the keys, or none
finds_all : {W : Type 0} (other now : List (List ℕ × W)) → now ≡ other → (keys : List (List ℕ))
    → FindsAt other now keys
finds_all other now is [] = tt
finds_all other now is (key ∷ keys) = (ap (entry_at key) is, finds_all other now is keys)

-- if the cursor has all entries of the other tree, and the entries of the walk are sorted, `Merges`
-- holds of both
pub merges_first : {V W : Type 0} (other now : List (List ℕ × W)) (rest : List (List ℕ × V))
    → now ≡ other → IsStrictlySortedBy bytes_cmp (keys_of rest) → Merges other now rest
merges_first other now rest is sorted =
    record { sorted = sorted; same = finds_all other now is (keys_of rest) }

module _ {W : Type 0} (other now new : List (List ℕ × W)) (key : List ℕ)
    (greater : (q : List ℕ) → bytes_cmp key q ≡ Less → entry_at q new ≡ entry_at q now) where
  -- if the keys are greater than `key`, and the cursor had at them what the other tree has, it
  -- still has that after it passed `key`
  finds_still : (keys : List (List ℕ)) → AllByRecursion (λ q. bytes_cmp key q ≡ Less) keys
      → FindsAt other now keys → FindsAt other new keys
  finds_still [] less same = tt
  finds_still (q ∷ keys) less same =
      (greater q less.0 ∙ same.0, finds_still keys less.1 same.1)

  -- if the first entry of the walk has the key `key`, `Merges` holds of the entries after it, and
  -- of the cursor after it passed `key`
  pub merges_more : {V : Type 0} (x : V) (rest : List (List ℕ × V))
      → Merges other now ((key, x) ∷ rest) → Merges other new rest
  merges_more x rest h = record {
    sorted = sorted_tail bytes_cmp key _ h.sorted;
    same = finds_still (keys_of rest) (sorted_head bytes_cmp key _ h.sorted) h.same.1;
  }
