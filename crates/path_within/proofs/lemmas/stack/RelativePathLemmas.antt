-- Names, and components that are `..` and then names: their stacks, and their suffixes.
use Rattle.std.proofs.Common.{◌≡◌, ℕ, zero, suc, true, false, List, [], ◌∷◌, ◌++◌, reverse, drop}
use Rattle.std.proofs.Common.{arith, refl, ap, ◌∙◌}
use mathlib.Core.List.{reverse_aux}
use Rattle.std.specs.List.{list_all, list_any}
use Rattle.std.proofs.lemmas.List.{reverse-reverse}
use Rattle.unix_path.specs.Parts.{Value, RootDir, ParentDir, Normal}
use Rattle.path_runs.specs.Spelling.{slashed_bytes, spelling_of}
use Rattle.path_within.specs.Escapes.{is_name}
use Rattle.path_within.specs.Resolved.{AllNames, ParentDirsThenNames, IsNormal}
use Rattle.path_within.proofs.lemmas.stack.Stacks.{resolve_onto}
use Rattle.path_within.specs.Resolved.{resolved_of}
use Rattle.path_within.proofs.lemmas.stack.Stacks.{push_parent_dir}
use Rattle.path_within.proofs.lemmas.stack.Stacks.{AllParentDirs}
use Rattle.path_within.specs.Escapes.{is_root}
use Rattle.path_within.proofs.lemmas.stack.StackLemmas.{resolve_onto-append, names_straight}
use Rattle.path_within.proofs.lemmas.stack.StackLemmas.{push_parent_dir_grows}
use Rattle.path_within.proofs.lemmas.stack.BetweenLemmas.{parent_dirs_for}

-- if vs has only names (`AllNames`), the test `is_name` is true of each component of vs
pub list_all-names : (vs : List Value) → AllNames vs → list_all is_name vs ≡ true
list_all-names [] h = refl
list_all-names (v ∷ vs) h = grind (arith, list_all-names vs)

-- if the test `is_name` is true of each component of vs, vs has only names (`AllNames`)
pub names_all : (vs : List Value) → list_all is_name vs ≡ true → AllNames vs
names_all [] e = tt
names_all (v ∷ vs) e = grind (arith, names_all vs)

-- resolving the names vs onto the stack ks puts all of them on top of ks, the last one highest
pub resolve_onto-names : (ks vs : List Value) → AllNames vs → resolve_onto ks vs ≡ reverse_aux vs ks
resolve_onto-names ks [] h = refl
resolve_onto-names ks (Normal name ∷ vs) h = resolve_onto-names (Normal name ∷ ks) vs h
resolve_onto-names ks (v ∷ vs) h = absurd h

-- if vs is zero or more `..` and then names, resolving vs onto a stack of only `..` puts all of vs
-- on top, the last component highest
resolve_onto-straight : (us vs : List Value) → AllParentDirs us → ParentDirsThenNames vs
    → resolve_onto us vs ≡ reverse_aux vs us
resolve_onto-straight us [] h k = refl
resolve_onto-straight us (ParentDir ∷ vs) h k =
    cc (push_parent_dir_grows us h, resolve_onto-straight (ParentDir ∷ us) vs h k)
resolve_onto-straight us (Normal name ∷ vs) h k = resolve_onto-names (Normal name ∷ us) vs k
resolve_onto-straight us (v ∷ vs) h k = absurd k

-- normal components resolve to themselves
pub resolved_of-normal : (vs : List Value) → IsNormal vs → resolved_of vs ≡ vs
unfolding resolved_of
resolved_of-normal (RootDir ∷ vs) h =
    ap reverse (resolve_onto-names (RootDir ∷ []) vs h) ∙ reverse-reverse (RootDir ∷ vs)
resolved_of-normal vs h = ap reverse (resolve_onto-straight [] vs tt h) ∙ reverse-reverse vs

-- adding a `..` at the beginning of a list of `..` or at its end results in the same list
parent_dirs_rotate : (vs : List Value) → ParentDir ∷ parent_dirs_for vs ≡ parent_dirs_for vs
    ++ ParentDir ∷ []
parent_dirs_rotate [] = refl
parent_dirs_rotate (v ∷ vs) = ap (λ us. ParentDir ∷ us) (parent_dirs_rotate vs)

-- resolving names, and then a `..` for each of them, onto a stack leaves the stack unchanged
pub resolve_onto-parent_dir_run : (ks vs : List Value) → AllNames vs
    → resolve_onto (resolve_onto ks vs) (parent_dirs_for vs) ≡ ks
resolve_onto-parent_dir_run ks [] h = refl
resolve_onto-parent_dir_run ks (Normal name ∷ vs) h =
    let all = resolve_onto (Normal name ∷ ks) vs in
    ap (resolve_onto all) (parent_dirs_rotate vs)
    ∙ resolve_onto-append all (parent_dirs_for vs) (ParentDir ∷ [])
    ∙ ap push_parent_dir (resolve_onto-parent_dir_run (Normal name ∷ ks) vs h)
resolve_onto-parent_dir_run ks (v ∷ vs) h = absurd h

-- each suffix of zero or more `..` and then names is zero or more `..` and then names
pub straight_drop : (n : ℕ) (vs : List Value) → ParentDirsThenNames vs
    → ParentDirsThenNames (drop n vs)
straight_drop zero vs h = h
straight_drop (suc n) [] h = h
straight_drop (suc n) (v ∷ vs) h = straight_drop n vs (grind (arith, names_straight vs))

-- if a suffix of normal components has no root, it is zero or more `..` and then names
pub normal_drop : (n : ℕ) (vs : List Value) → IsNormal vs → list_any is_root (drop n vs) ≡ false
    → ParentDirsThenNames (drop n vs)
normal_drop zero [] h k = h
normal_drop zero (v ∷ vs) h k = grind arith
normal_drop (suc n) [] h k = h
normal_drop (suc n) (v ∷ vs) h k = straight_drop n vs (grind (arith, names_straight vs))

-- if vs is zero or more `..` and then names, then vs with a `..` for each component of xs before it
-- is zero or more `..` and then names
pub parent_dirs_straight : (xs vs : List Value) → ParentDirsThenNames vs
    → ParentDirsThenNames (parent_dirs_for xs ++ vs)
parent_dirs_straight [] vs h = h
parent_dirs_straight (x ∷ xs) vs h = parent_dirs_straight xs vs h

-- zero or more `..` and then names contain no root
pub straight_rootless : (vs : List Value) → ParentDirsThenNames vs → list_any is_root vs ≡ false
straight_rootless [] h = refl
straight_rootless (v ∷ vs) h = grind (arith, straight_rootless vs, names_straight vs)

-- the canonical form of zero or more `..` and then names consists of the bytes of these components,
-- with slashes between them
pub spelling_of-straight : (vs : List Value) → ParentDirsThenNames vs
    → spelling_of vs ≡ slashed_bytes vs
unfolding spelling_of
spelling_of-straight [] h = refl
spelling_of-straight (v ∷ vs) h = grind arith
