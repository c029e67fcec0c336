-- Lookups, insertions and removals have the same results in a table with paths as keys as in a
-- table whose keys are the paths' components.
use Rattle.std.proofs.Common.{ℕ, List, [], ◌∷◌, refl, arith}
use Rattle.path_runs.specs.TableLaws.{LookupByValues, InsertByValues, RemoveByValues}

-- looking up the components w in the entries, by the components of their keys, has the same result
-- as looking up w in the rows of the entries: the same value, or None for both
pub lookup-rows_of : {K V : Type 0} (bytes_of : K → List ℕ) → LookupByValues bytes_of V
lookup-rows_of bytes_of w [] = refl
lookup-rows_of bytes_of w (e ∷ entries) = cc (lookup-rows_of bytes_of w entries)

-- if the entry whose key has the components w is removed, the rows of the entries lose the row with
-- the components w, and no other
pub remove-rows_of : {K V : Type 0} (bytes_of : K → List ℕ) → RemoveByValues bytes_of V
remove-rows_of bytes_of w [] = refl
remove-rows_of {K} {V} bytes_of w (e ∷ entries) = grind (arith, remove-rows_of bytes_of w entries)

-- inserting `key` and `value` into the entries, and then taking their rows, yields the same as
-- inserting the components of `key`, and `value`, into the rows of the entries
pub insert-rows_of : {K V : Type 0} (bytes_of : K → List ℕ) → InsertByValues bytes_of V
insert-rows_of bytes_of [] key value = refl
insert-rows_of {K} {V} bytes_of (e ∷ entries) key value =
    grind (arith, insert-rows_of bytes_of entries key value)

pub ruleset insert_by_values_cases = insert-rows_of

pub ruleset lookup_by_values_cases = lookup-rows_of

pub ruleset remove_by_values_cases = remove-rows_of
