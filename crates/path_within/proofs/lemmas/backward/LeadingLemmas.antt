-- The components before the names of a resolved path: a root, or zero or more `..`.
use Rattle.std.proofs.Common.{◌≡◌, ℕ, suc, zero, true, false, List, [], ◌∷◌, ◌++◌, reverse, refl}
use Rattle.std.proofs.Common.{sym, ap, ◌∙◌, add-one, Bool, arith}
use Rattle.std.proofs.Math.ListN.{replicate}
use Rattle.std.proofs.lemmas.Grind.{reverse_onto}
use Rattle.std.proofs.lemmas.List.{replicate_more, reverse-append}
use Rattle.unix_path.specs.Parts.{Value, RootDir, CurDir, ParentDir, Normal, is_rooted, values}
use Rattle.unix_path.proofs.lemmas.rests.RootLemmas.{NoRoot}
use Rattle.path_runs.specs.Spelling.{slashed_bytes}
use Rattle.path_runs.proofs.lemmas.spelling.PieceValueLemmas.{is_rooted-slash}
use Rattle.path_within.specs.Backward.{remaining_parent_dirs}
use Rattle.path_within.proofs.lemmas.stack.Stacks.{parent_dir_count, parent_dirs_on_stack}
use Rattle.path_within.specs.Below.{names_below}
use Rattle.path_within.specs.Resolved.{AllNames, ParentDirsThenNames, resolved_of}
use Rattle.path_within.proofs.lemmas.stack.Stacks.{resolve_onto}
use Rattle.path_within.specs.Resolved.{resolved_bytes_of}
use Rattle.path_within.proofs.lemmas.below.NamesBelowLemmas.{AllNames-names_below, on_root}
use Rattle.path_within.proofs.lemmas.below.NamesBelowLemmas.{names_below-stack, names_below-slash}
use Rattle.path_within.proofs.lemmas.below.NamesBelowLemmas.{resolved_of-slash, names_below-names}
use Rattle.path_within.proofs.lemmas.below.NamesBelowLemmas.{names_on_stack, values-slash}
use Rattle.unix_path.specs.CommonDir.{inner_values}
use Rattle.path_within.proofs.lemmas.stack.EscapeLemmas.{rootless-no_roots}
use Rattle.path_within.proofs.lemmas.stack.StackLemmas.{names_straight}
use Rattle.path_within.proofs.lemmas.stack.RelativePathLemmas.{spelling_of-straight}
use Rattle.path_within.proofs.lemmas.names_only.NormalLemmas.{resolved_values}
use Rattle.path_within.proofs.lemmas.names_only.NamesOnlyLemmas.{names_only_has_names}
use Rattle.path_within.proofs.lemmas.names_only.NamesOnlyLemmas.{resolved-names_only}
use Rattle.path_within.specs.NamePieces.{is_names_only}
use Rattle.unix_bytes.proofs.lemmas.lists.ListLemmas.{by_test}

-- `stack` has names on top of `..`, and `below` has the same names on top of the root
record LeavesParentDirs (stack below : List Value) : Type 0 where
  parent_dirs : ℕ
  names : List Value
  are : AllNames names
  stack_is : stack ≡ names ++ replicate parent_dirs ParentDir
  below_is : below ≡ on_root names

-- if the names ks are on top of n times `..` in one stack, and on top of the root in another,
-- `LeavesParentDirs` is true of the two stacks after vs, which have no root, are resolved onto both
leaves_parent_dirs : (n : ℕ) (ks vs : List Value) → AllNames ks → NoRoot vs
    → LeavesParentDirs (resolve_onto (ks ++ replicate n ParentDir) vs)
    (resolve_onto (on_root ks) vs)
leaves_parent_dirs n ks [] h r = grind arith
leaves_parent_dirs n ks (RootDir ∷ vs) h r = absurd r
leaves_parent_dirs n ks (CurDir ∷ vs) h r = leaves_parent_dirs n ks vs h r
leaves_parent_dirs n ks (Normal name ∷ vs) h r = leaves_parent_dirs n (Normal name ∷ ks) vs h r
leaves_parent_dirs zero [] (ParentDir ∷ vs) h r = leaves_parent_dirs 1 [] vs tt r
leaves_parent_dirs (suc n) [] (ParentDir ∷ vs) h r = leaves_parent_dirs (suc (suc n)) [] vs tt r
leaves_parent_dirs n (Normal name ∷ ks) (ParentDir ∷ vs) h r = leaves_parent_dirs n ks vs h r
leaves_parent_dirs n (k ∷ ks) (ParentDir ∷ vs) h r = absurd h

-- a list of only `..` is the same in reverse order
reverse-parent_dir_run : (n : ℕ) → reverse (replicate n ParentDir) ≡ replicate n ParentDir
reverse-parent_dir_run zero = refl
reverse-parent_dir_run (suc n) = reverse_onto (replicate n ParentDir) ParentDir []
    ∙ ap (λ us. us ++ ParentDir ∷ []) (reverse-parent_dir_run n) ∙ replicate_more n ParentDir
    ∙ ap (λ n. replicate n ParentDir) (add-one n)

parent_dir_count-stack : (ns : List Value) (n : ℕ) → AllNames ns
    → parent_dir_count (ns ++ replicate n ParentDir) ≡ n
parent_dir_count-stack [] zero h = refl
parent_dir_count-stack [] (suc n) h = ap suc (parent_dir_count-stack [] n h)
parent_dir_count-stack (Normal name ∷ ns) n h = parent_dir_count-stack ns n h
parent_dir_count-stack (v ∷ ns) n h = absurd h

-- a path without a root resolves to its remaining `..` and then its names
pub resolved_of-rootless : (s : List ℕ) → is_rooted s ≡ false
    → resolved_of (values s) ≡ replicate (remaining_parent_dirs (values s)) ParentDir
    ++ names_below (values s)
unfolding resolved_of
resolved_of-rootless s r =
    let h = leaves_parent_dirs 0 [] (values s) tt (rootless-no_roots s r) in
    grind (
      arith,
      reverse-append,
      reverse-parent_dir_run,
      parent_dirs_on_stack (values s),
      parent_dir_count-stack,
      names_below-stack,
    )

pub straight : (n : ℕ) (vs : List Value) → AllNames vs
    → ParentDirsThenNames (replicate n ParentDir ++ vs)
straight zero vs h = names_straight vs h
straight (suc n) vs h = straight n vs h

-- the resolved bytes of a path without a root are its remaining `..` and then its names, with
-- slashes between them
pub resolved_bytes_of-rootless : (s : List ℕ) → is_rooted s ≡ false
    → resolved_bytes_of s
    ≡ slashed_bytes (replicate (remaining_parent_dirs (values s)) ParentDir
    ++ names_below (values s))
resolved_bytes_of-rootless s r =
    let n = remaining_parent_dirs (values s) in
    simp (resolved_of-rootless, spelling_of-straight, straight, AllNames-names_below)

-- a path with a root resolves to the root and its names
pub resolved_of-rooted : (s : List ℕ) → is_rooted s ≡ true
    → resolved_of (values s) ≡ RootDir ∷ names_below (values s)
resolved_of-rooted s r = grind (arith, is_rooted-slash, resolved_of-slash, names_below-slash)

-- a list of only the root if the argument is true, and otherwise the empty list
abbrev pub root_if : Bool → List Value
root_if true = RootDir ∷ []
root_if false = []

-- the components of a path of names only are its root, if it has one, and its resolved names
pub names_only_values : (s : List ℕ) → is_names_only s ≡ true
    → values s ≡ root_if (is_rooted s) ++ names_below (values s)
names_only_values s h = by_test (is_rooted s)
    (λ r. sym (resolved_values s (resolved-names_only s h)) ∙ resolved_of-rooted s r
    ∙ ap (λ b. root_if b ++ names_below (values s)) (sym r))
    (λ r. sym (names_below-names (values s) (names_only_has_names s h r).names)
    ∙ ap (λ b. root_if b ++ names_below (values s)) (sym r))

-- no `..` remains of a path with a root
pub remaining_parent_dirs-rooted : (s : List ℕ) → is_rooted s ≡ true
    → remaining_parent_dirs (values s) ≡ 0
remaining_parent_dirs-rooted s r =
    let t = is_rooted-slash s r in
    let found = names_on_stack (inner_values t.0) in
    grind (arith, values-slash, parent_dirs_on_stack (values s), none)
  where
    none : (ns : List Value) → AllNames ns → parent_dir_count (ns ++ RootDir ∷ []) ≡ 0
    none [] h = refl
    none (Normal name ∷ ns) h = none ns h
    none (v ∷ ns) h = absurd h
