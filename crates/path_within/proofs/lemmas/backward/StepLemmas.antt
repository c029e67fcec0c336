-- The relative path between two paths: `..` and names, or none.
use Rattle.std.proofs.Common.{◌≡◌, ℕ, ◌+◌, ◌-◌, ◌<◌, true, List, [], ◌∷◌}
use Rattle.std.proofs.Common.{◌++◌, length, drop, Some, None, refl, sym, ap, ap₂, ◌∙◌, arith}
use Rattle.std.proofs.Common.{append_assoc, length-drop, option_map}
use Rattle.std.proofs.lemmas.List.{drop_all, replicate-append-replicate}
use Rattle.path_within.specs.Resolved.{resolved_of, AllNames, ParentDirsThenNames}
use Rattle.path_within.specs.NamePieces.{is_names_only}
use Rattle.path_within.proofs.lemmas.names_only.NormalLemmas.{resolved_values}
use Rattle.path_within.proofs.lemmas.names_only.NamesOnlyLemmas.{resolved-names_only}
use Rattle.unix_bytes.proofs.lemmas.lists.ListLemmas.{by_test}
use Rattle.unix_path.proofs.lemmas.callers.CallerLemmas.{same_value-Decides}
use Rattle.path_within.specs.Backward.{last_names, remaining_parent_dirs}
use Rattle.path_within.proofs.lemmas.backward.LayoutLemmas.{names_rest}
use Rattle.path_within.proofs.lemmas.backward.LeadingLemmas.{names_only_values}
use Rattle.path_within.proofs.lemmas.backward.LeadingLemmas.{remaining_parent_dirs-rooted}
use Rattle.path_within.proofs.lemmas.backward.LeadingLemmas.{resolved_of-rooted}
use Rattle.path_within.proofs.lemmas.backward.LeadingLemmas.{resolved_of-rootless}
use Rattle.path_within.proofs.lemmas.backward.LeadingLemmas.{straight}
use Rattle.std.proofs.Math.ListN.{replicate}
use Rattle.std.proofs.Math.Seq.{drop-append-add}
use Rattle.unix_path.specs.Parts.{Value, RootDir, ParentDir, Normal, is_rooted, values}
use Rattle.path_within.specs.Below.{names_below}
use Rattle.path_within.specs.RelativePaths.{relative_path_of}
use Rattle.path_within.proofs.lemmas.below.NamesBelowLemmas.{AllNames-names_below}
use Rattle.path_within.proofs.lemmas.stack.BetweenLemmas.{shared_count, shared_count-behind}
use Rattle.path_within.proofs.lemmas.stack.BetweenLemmas.{steps_from, parent_dirs_for}
use Rattle.path_within.proofs.lemmas.stack.StackLemmas.{names_straight}
use Rattle.path_within.proofs.lemmas.stack.RelativePathLemmas.{list_all-names, straight_rootless}
use Rattle.path_runs.specs.Spelling.{spelling_of}

-- ---- the relative path

parent_dirs_for-count : (vs : List Value) → parent_dirs_for vs ≡ replicate (length vs) ParentDir
parent_dirs_for-count [] = refl
parent_dirs_for-count (v ∷ vs) = ap (λ us. ParentDir ∷ us) (parent_dirs_for-count vs)

-- if v and w have only names, the relative path from f and v to f and w has a `..` for each name of
-- v after the common prefix of v and w, and then the names of w after this prefix
steps_after_prefix : (f v w : List Value) → AllNames v → AllNames w
    → steps_from (f ++ v) (f ++ w)
    ≡ Some (replicate (length v - shared_count v w) ParentDir ++ drop (shared_count v w) w)
steps_after_prefix f v w h k =
    let n = shared_count v w in
    let names = list_all-names (drop n v) (names_rest n v h) in
    let no_root = straight_rootless (drop n w) (names_straight (drop n w) (names_rest n w k)) in
    grind (arith, shared_count-behind, drop-append-add, parent_dirs_for-count, length-drop)

-- if v has only names, and w is zero or more `..` and then names, the relative path from f and v to
-- f, `..` and w has a `..` for each name of v, and then this `..` and w
steps_parent_dirs : (f v w : List Value) → AllNames v → ParentDirsThenNames w
    → steps_from (f ++ v) (f ++ ParentDir ∷ w)
    ≡ Some (replicate (length v) ParentDir ++ ParentDir ∷ w)
steps_parent_dirs f v w h k =
    let none : shared_count v (ParentDir ∷ w) ≡ 0 = by v h in
    let names = list_all-names v h in
    let no_root = straight_rootless (ParentDir ∷ w) k in
    grind (arith, shared_count-behind, drop-append-add, parent_dirs_for-count)
  where
    by : (v : List Value) → AllNames v → shared_count v (ParentDir ∷ w) ≡ 0
    by [] h = refl
    by (Normal name ∷ v) h = refl
    by (x ∷ v) h = absurd h

-- if w has only names, there is no relative path from f, `..` and v to f and w
no_steps_parent_dirs : (f v w : List Value) → AllNames w → steps_from (f ++ ParentDir ∷ v) (f ++ w)
    ≡ None
no_steps_parent_dirs f v w h =
    grind (arith, shared_count-behind, drop-append-add)

-- ---- two paths

-- if one path has a root and the other has none, there is no relative path
pub no_relative_path-roots : (s t : List ℕ) → (is_rooted s ≡ is_rooted t → ⊥)
    → relative_path_of (values s) (values t) ≡ None
unfolding relative_path_of
no_relative_path-roots s t differ = grind (
  arith,
  resolved_of-rooted,
  resolved_of-rootless,
  from_root,
  to_root,
  straight,
  AllNames-names_below,
)
  where
    from_root : (v w : List Value) → ParentDirsThenNames w → steps_from (RootDir ∷ v) w ≡ None
    from_root v [] h = refl
    from_root v (x ∷ w) h = grind arith

    to_root : (v w : List Value) → ParentDirsThenNames v → steps_from v (RootDir ∷ w) ≡ None
    to_root [] w h = refl
    to_root (x ∷ v) w h = grind arith

-- if s and t both have a root or both have none, and equally many `..` remain of both, the relative
-- path from s to t has a `..` for each resolved name of s after the common prefix of both paths'
-- resolved names, and then the resolved names of t after this prefix
pub relative_path-shared : (s t : List ℕ) → is_rooted s ≡ is_rooted t
    → remaining_parent_dirs (values s) ≡ remaining_parent_dirs (values t)
    → (let v = names_below (values s) in let w = names_below (values t) in
    relative_path_of (values s) (values t)
    ≡ Some (replicate (length v - shared_count v w) ParentDir ++ drop (shared_count v w) w))
unfolding relative_path_of
relative_path-shared s t same e =
    let v = names_below (values s) in
    let w = names_below (values t) in
    let h = AllNames-names_below (values s) in
    let k = AllNames-names_below (values t) in
    by_test (is_rooted t)
    (λ r. ap₂ steps_from (resolved_of-rooted s (same ∙ r)) (resolved_of-rooted t r)
    ∙ steps_after_prefix (RootDir ∷ []) v w h k)
    (λ r. ap₂ steps_from (resolved_of-rootless s (same ∙ r)
    ∙ ap (λ n. replicate n ParentDir ++ names_below (values s)) e) (resolved_of-rootless t r)
    ∙ steps_after_prefix (replicate (remaining_parent_dirs (values t)) ParentDir) v w h k)

split_first_parent_dir : (n : ℕ) (vs : List Value) → 0 < n
    → replicate n ParentDir ++ vs ≡ ParentDir ∷ (replicate (n - 1) ParentDir ++ vs)
split_first_parent_dir n vs l = grind arith

-- if m is greater than n, m times `..` and then vs are n times `..`, one more `..`, m - n - 1 times
-- `..`, and then vs
split_parent_dirs : (n m : ℕ) (vs : List Value) → n < m → replicate m ParentDir ++ vs
    ≡ replicate n ParentDir ++ (ParentDir ∷ (replicate (m - n - 1) ParentDir ++ vs))
split_parent_dirs n m vs l =
    ap (λ m. replicate m ParentDir ++ vs) {x = m} {y = n + (m - n)} (omega arith)
    ∙ ap (λ us. us ++ vs) (sym (replicate-append-replicate n (m - n) ParentDir))
    ∙ append_assoc (replicate n ParentDir) (replicate (m - n) ParentDir) vs
    ∙ ap (λ us. replicate n ParentDir ++ us) (split_first_parent_dir (m - n) vs (omega arith))

-- if s and t both have a root or both have none, and fewer `..` remain of s than of t, the relative
-- path has a `..` for each resolved name of s, a `..` for each `..` that remains of t more than of
-- s, and then the resolved names of t
pub relative_path-parent_dir_run : (s t : List ℕ) → is_rooted s ≡ is_rooted t
    → remaining_parent_dirs (values s) < remaining_parent_dirs (values t)
    → relative_path_of (values s) (values t) ≡ Some (replicate (length (names_below (values s))
    + (remaining_parent_dirs (values t) - remaining_parent_dirs (values s))) ParentDir
    ++ names_below (values t))
unfolding relative_path_of
relative_path-parent_dir_run s t same l =
    let n = remaining_parent_dirs (values s) in
    let m = remaining_parent_dirs (values t) in
    let v = names_below (values s) in
    let w = names_below (values t) in
    by_test (is_rooted t) (λ r. absurd (omega (arith, l, remaining_parent_dirs-rooted t r)))
    (λ r. ap₂ steps_from (resolved_of-rootless s (same ∙ r))
    (resolved_of-rootless t r ∙ split_parent_dirs n m w l)
    ∙ steps_parent_dirs (replicate n ParentDir) v (replicate (m - n - 1) ParentDir ++ w)
    (AllNames-names_below (values s)) (straight (m - n - 1) w (AllNames-names_below (values t)))
    ∙ ap (λ us. Some (replicate (length v) ParentDir ++ us))
    (sym (split_first_parent_dir (m - n) w (omega arith)))
    ∙ ap Some (sym (append_assoc (replicate (length v) ParentDir) (replicate (m - n) ParentDir) w))
    ∙ ap (λ us. Some (us ++ w)) (replicate-append-replicate (length v) (m - n) ParentDir))

-- if s and t both have a root or both have none, and more `..` remain of s than of t, there is no
-- relative path from s to t
pub no_relative_path-parent_dir_run : (s t : List ℕ) → is_rooted s ≡ is_rooted t
    → remaining_parent_dirs (values t) < remaining_parent_dirs (values s)
    → relative_path_of (values s) (values t) ≡ None
unfolding relative_path_of
no_relative_path-parent_dir_run s t same l =
    let n = remaining_parent_dirs (values s) in
    let m = remaining_parent_dirs (values t) in
    let v = names_below (values s) in
    let w = names_below (values t) in
    by_test (is_rooted s) (λ r. absurd (omega (arith, l, remaining_parent_dirs-rooted s r)))
    (λ r. ap₂ steps_from (resolved_of-rootless s r ∙ split_parent_dirs m n v l)
    (resolved_of-rootless t (sym same ∙ r))
    ∙ no_steps_parent_dirs (replicate m ParentDir) (replicate (n - m - 1) ParentDir ++ v) w
    (AllNames-names_below (values t)))

-- if a path has m + n resolved names, the last m are the names after the first n
pub last_others : (m n : ℕ) (s : List ℕ) → m + n ≡ length (names_below (values s))
    → last_names m (values s) ≡ drop n (names_below (values s))
last_others m n s e = grind arith

-- ---- two paths of names only

-- the relative path from s to t is a `..` for each component of s after the common prefix of s and
-- t, and then the components of t after this prefix, which are names
pub record NamesOnlyRelativePath (s t : List ℕ) : Type 0 where
  pub is : let n = shared_count (values s) (values t) in relative_path_of (values s) (values t)
      ≡ Some (replicate (length (drop n (values s))) ParentDir ++ drop n (values t))
  pub names : AllNames (drop (shared_count (values s) (values t)) (values t))

pub names_only_relative_path : (s t : List ℕ) → is_names_only s ≡ true → is_names_only t ≡ true
    → is_rooted s ≡ is_rooted t → NamesOnlyRelativePath s t
unfolding relative_path_of
names_only_relative_path s t h k same =
    let v = names_below (values s) in
    let w =
    names_below (values t) in grind (
      arith,
      names_only_values,
      shared_count-behind,
      resolved_values,
      resolved-names_only,
      steps_after_prefix,
      AllNames-names_below,
      length-drop,
      names_rest,
    )

-- a list shares all its components with itself
same_count : (vs : List Value) → shared_count vs vs ≡ length vs
same_count [] = refl
same_count (v ∷ vs) = grind (arith, (same_value-Decides v v).1 refl, same_count vs)

-- if s and t are the same bytes, the relative path from s to t is the empty path
pub relative_path_to_itself : (s t : List ℕ) → s ≡ t
    → Some [] ≡ option_map spelling_of (relative_path_of (values s) (values t))
unfolding relative_path_of spelling_of
relative_path_to_itself s t e =
    let vs = resolved_of (values t) in
    grind (arith, same_count, drop_all)
