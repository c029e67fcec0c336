-- The common prefix of two lists of components, and the relative path between the rests.
use Rattle.std.proofs.Common.{◌≡◌, ℕ, ◌+◌, ◌&&◌, cond, not, true, false, List, [], ◌∷◌, ◌++◌}
use Rattle.std.proofs.Common.{length, take, drop, map, reverse, Option, Some, None, refl, arith}
use Rattle.std.specs.List.{common_prefix_len, list_all, list_any}
use Rattle.std.proofs.Math.Seq.{drop-append-add}
use Rattle.std.proofs.lemmas.Grind.{common_steps, reverse_onto}
use Rattle.std.proofs.lemmas.List.Folds.{list_all-append, list_any-append}
use Rattle.unix_path.specs.Order.{same_value}
use Rattle.unix_path.specs.Parts.{Value, ParentDir}
use Rattle.unix_bytes.proofs.lemmas.lists.ListLemmas.{take-suc_cons}
use Rattle.unix_path.proofs.lemmas.callers.CallerLemmas.{same_value-Decides}
use Rattle.path_within.specs.Escapes.{is_name, is_root}

-- the length of the common prefix of two lists
abbrev pub shared_count : List Value → List Value → ℕ
shared_count v w = common_prefix_len same_value v w

-- the relative path from the directory v to the path w, which have no common prefix: `..` for each
-- name of v, and then w; `None` if v has a component that is not a name, or if w has a root
abbrev pub steps_between : List Value → List Value → Option (List Value)
steps_between v w = cond (list_all is_name v && not (list_any is_root w))
    (Some (map (λ x. ParentDir) v ++ w)) None

-- the relative path from v to w, which are resolved already: `steps_between` of their rests after
-- their common prefix
abbrev pub steps_from : List Value → List Value → Option (List Value)
steps_from v w = let n = shared_count v w in steps_between (drop n v) (drop n w)

-- a `..` for each component of vs
abbrev pub parent_dirs_for : List Value → List Value
parent_dirs_for vs = map (λ v. ParentDir) vs

-- the first `shared_count` components of two lists are the same
pub take-shared : (v w : List Value) → take (shared_count v w) v ≡ take (shared_count v w) w
take-shared [] w = grind (arith, common_steps)
take-shared (x ∷ v) [] = refl
take-shared (x ∷ v) (y ∷ w) =
    let n = shared_count v w in
    grind (arith, take-shared v w, take-suc_cons n x v, take-suc_cons n y w, same_value-Decides x y)

-- putting the prefix f before two lists x and y adds the length of f to the length of their common
-- prefix
pub shared_count-behind : (f x y : List Value)
    → shared_count (f ++ x) (f ++ y) ≡ length f + shared_count x y
shared_count-behind [] x y = grind arith
shared_count-behind (z ∷ f) x y =
    let same = (same_value-Decides z z).1 refl in rw same (grind (arith, shared_count-behind f x y))

-- components contain a root if and only if they contain one in reverse order
pub list_any-reverse : (vs : List Value) → list_any is_root (reverse vs) ≡ list_any is_root vs
list_any-reverse [] = refl
list_any-reverse (v ∷ vs) = grind (
  arith,
  reverse_onto vs v [],
  list_any-append is_root (reverse vs) (v ∷ []),
  list_any-reverse vs,
)

-- a suffix of a list of names has only names
pub names_drop : (n : ℕ) (vs : List Value) → list_all is_name vs ≡ true
    → list_all is_name (drop n vs) ≡ true
names_drop n vs h = grind (arith, common_steps, list_all-append is_name (take n vs) (drop n vs))

no_root_drop : (n : ℕ) (vs : List Value) → list_any is_root vs ≡ false
    → list_any is_root (drop n vs) ≡ false
no_root_drop n vs h = grind (arith, common_steps, list_any-append is_root (take n vs) (drop n vs))

-- if x has only names, and y has no root, there is a relative path from f and x to f and y
pub some_steps : (f x y : List Value) → list_all is_name x ≡ true → list_any is_root y ≡ false
    → steps_from (f ++ x) (f ++ y) ≡ None → ⊥
some_steps f x y h k none =
    let m = shared_count x y in
    grind (arith, names_drop, no_root_drop, shared_count-behind, drop-append-add)

-- `steps` is the relative path from v to w: v has only names, w has no root, and `steps` has a `..`
-- for each name of v, and then w
pub record AreSteps (v w steps : List Value) : Type 0 where
  pub names : list_all is_name v ≡ true
  pub no_root : list_any is_root w ≡ false
  pub steps_are : parent_dirs_for v ++ w ≡ steps

-- if `steps_between` finds a relative path from v to w, `AreSteps` is true of this path
pub steps_between-is : (v w steps : List Value) → steps_between v w ≡ Some steps
    → AreSteps v w steps
steps_between-is v w steps e = grind arith
