-- What the proofs say of the stack of a path that is resolved component by component.
use Rattle.std.proofs.Common.{◌≡◌, ℕ, zero, suc, cond, List, [], ◌∷◌, refl, arith}
use Rattle.std.specs.Prelude.{⊤, count_by, fold}
use Rattle.std.proofs.lemmas.List.Sums.{sum_by-cons}
use Rattle.std.specs.List.{AllByRecursion}
use Rattle.unix_path.specs.Joins.{join_of}
use Rattle.unix_path.specs.Parts.{Value, RootDir, ParentDir, Normal, value_bytes, values}
use Rattle.path_within.specs.Backward.{remaining_parent_dirs}
use Rattle.path_within.specs.Escapes.{is_parent_dir}
use Rattle.path_within.specs.Resolved.{push_component}

-- the stack after one more `..`
abbrev pub push_parent_dir : List Value → List Value
push_parent_dir ks = push_component ks ParentDir

-- the stack after all these components were pushed, from the first to the last
abbrev pub resolve_onto : List Value → List Value → List Value
resolve_onto ks vs = fold push_component ks vs

-- all these components are `..`
abbrev pub AllParentDirs : List Value → Type 0
AllParentDirs [] = ⊤
AllParentDirs (ParentDir ∷ vs) = AllParentDirs vs
AllParentDirs vs = ⊥

-- these components can be the stack of a path: names on top, and below them only the root or only
-- `..`
abbrev pub IsStack : List Value → Type 0
IsStack (Normal name ∷ ks) = IsStack ks
IsStack (RootDir ∷ ks) = ks ≡ []
IsStack ks = AllParentDirs ks

-- parsed as a path, the component's bytes have only this component
abbrev pub ValueReadsAsItself : Value → Type 0
ValueReadsAsItself v = values (value_bytes v) ≡ v ∷ []

-- parsed as a path, the bytes of each of these components have only that component
abbrev pub ReadsAsItself : List Value → Type 0
ReadsAsItself vs = AllByRecursion ValueReadsAsItself vs

-- the path of a stack: each component's bytes, joined to the path of the components below it
abbrev pub path_of : List Value → List ℕ
path_of [] = []
path_of (v ∷ ks) = join_of (path_of ks) (value_bytes v)

-- the number of `..` among these components
abbrev pub parent_dir_count : List Value → ℕ
parent_dir_count [] = zero
parent_dir_count (ParentDir ∷ vs) = suc (parent_dir_count vs)
parent_dir_count (v ∷ vs) = parent_dir_count vs

count_by-parent_dirs : (vs : List Value) → count_by is_parent_dir vs ≡ parent_dir_count vs
count_by-parent_dirs [] = refl
count_by-parent_dirs (ParentDir ∷ vs) = omega (
  arith,
  sum_by-cons (λ v. cond (is_parent_dir v) 1 0) ParentDir vs,
  count_by-parent_dirs vs,
)
count_by-parent_dirs (v ∷ vs) =
    omega (arith, sum_by-cons (λ v. cond (is_parent_dir v) 1 0) v vs, count_by-parent_dirs vs)

-- as many `..` remain of vs as are on the stack after vs
pub parent_dirs_on_stack : (vs : List Value)
    → remaining_parent_dirs vs ≡ parent_dir_count (resolve_onto [] vs)
unfolding remaining_parent_dirs
parent_dirs_on_stack vs = count_by-parent_dirs (resolve_onto [] vs)
