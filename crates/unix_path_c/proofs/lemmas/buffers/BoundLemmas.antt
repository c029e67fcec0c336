-- Upper bounds of the lengths of results in a buffer.
use Rattle.std.proofs.Common.{◌≤◌, ◌+◌, ℕ, List, [], ◌∷◌, ◌++◌, cond, eqb, length, take}
use Rattle.std.proofs.Common.{Option, Some, None, is_some, unwrap_or, option_map, ◌≡◌, ◌*◌, ap}
use Rattle.std.proofs.Common.{⊎_elim, arith, refl, length-append}
use Rattle.std.specs.Option.{option_map_or}
use Rattle.std.proofs.lemmas.List.{length-take}
pub use Rattle.unix_bytes.proofs.lemmas.lossy.LossyBoundLemmas.{length-lossy_of}
use Rattle.unix_path.specs.Edits.{before_name_of, dot_before, stem_end_of, with_extension_of}
use Rattle.unix_path.specs.Edits.{with_name_of}
use Rattle.unix_path.specs.Extensions.{added_extension_of, name_end_of}
use Rattle.unix_path.specs.Names.{file_name_of}
use Rattle.unix_path.specs.Joins.{needs_no_separator}
use Rattle.unix_path.specs.Parts.{Value, slash, values}
use Rattle.unix_path.specs.Rest.{rest}
use Rattle.unix_bytes.proofs.lemmas.lists.ListLemmas.{by_test}
use Rattle.unix_path.proofs.lemmas.names.NameEndLemmas.{added_extension_at}
use Rattle.unix_path.proofs.lemmas.rests.RestLemmas.{take-rest}
pub use Rattle.path_keys.proofs.lemmas.values.LengthLemmas.{length-key_of}
use Rattle.path_runs.proofs.lemmas.spelling.LeanLemmas.{spelling_of-shortest}
use Rattle.path_runs.specs.Spelling.{spelling_of}
use Rattle.path_within.specs.Below.{below_of, names_below}
use Rattle.path_within.specs.RelativePaths.{relative_path_of}
use Rattle.path_within.proofs.lemmas.below.BelowLemmas.{length-below_of}
pub use Rattle.path_within.proofs.lemmas.below.BoundLemmas.{length-join_of, length-resolved}
use Rattle.path_within.proofs.lemmas.relative.RelativePathBoundLemmas.{length-relative_path}

-- the canonical form of a path is never longer than the path
pub length-spelling_of : (s : List ℕ) → length (spelling_of (values s)) ≤ length s
length-spelling_of s = ⊎_elim (λ same. omega (arith, ap length same))
    (λ longer. omega (arith, longer)) (spelling_of-shortest s s refl)

-- a path without its file name is never longer than the path
length-before_name_of : (s : List ℕ) → length (before_name_of s) ≤ length s
unfolding before_name_of
length-before_name_of s = by_test (is_some (file_name_of (values s)))
    (λ e. omega (
      arith,
      ap (λ c. length (cond c (rest s 0 1) s)) e,
      ap length (take-rest s 1),
      length-take (length (rest s 0 1)) s,
    ))
    (λ e. omega (arith, ap (λ c. length (cond c (rest s 0 1) s)) e))

-- a path with another file name is at most one byte longer than the path and the name together
pub length-with_name_of : (s name : List ℕ)
    → length (with_name_of s name) ≤ length s + 1 + length name
length-with_name_of s name =
    omega (arith, length-join_of (before_name_of s) name, length-before_name_of s)

-- a path with an extension added at an index, or the unchanged path if there is no index, is at
-- most one byte longer than the path and the extension together
added_fits : (s x : List ℕ) (end : Option ℕ)
    → length (added_extension_at s x end) ≤ length s + 1 + length x
added_fits s x end = by_test (eqb (length x) 0) (λ e. rw e (omega arith)) (λ e. rw e (by end))
  where
    by : (end : Option ℕ) → length (option_map_or (λ end. (take end s ++ 46 ∷ []) ++ x) end s)
        ≤ length s + 1 + length x
    by None = omega arith
    by (Some end) = omega (
      arith,
      length-append (take end s ++ 46 ∷ []) x,
      length-append (take end s) (46 ∷ []),
      length-take end s,
    )

-- a path with an added extension is at most one byte longer than the path and the extension
-- together
pub length-added_extension_of : (s x : List ℕ)
    → length (added_extension_of s x) ≤ length s + 1 + length x
unfolding added_extension_of
length-added_extension_of s x = added_fits s x (name_end_of s)

-- the dot before an extension, or no dot if the extension is empty, is at most one byte
length-dot_before : (x : List ℕ) → length (dot_before x) ≤ 1
length-dot_before x = by_test (eqb (length x) 0)
    (λ e. omega (arith, ap (λ c. length {A = ℕ} (cond c [] (46 ∷ []))) e))
    (λ e. omega (arith, ap (λ c. length {A = ℕ} (cond c [] (46 ∷ []))) e))

-- a path whose bytes after an index are replaced by an extension, or the unchanged path if there is
-- no index, is at most one byte longer than the path and the extension together
extended_fits : (s x : List ℕ) (end : Option ℕ)
    → length (option_map_or (λ end. (take end s ++ dot_before x) ++ x) end s)
    ≤ length s + 1 + length x
extended_fits s x None = omega arith
extended_fits s x (Some end) = omega (
  arith,
  length-append (take end s ++ dot_before x) x,
  length-append (take end s) (dot_before x),
  length-take end s,
  length-dot_before x,
)

-- a path with another extension is at most one byte longer than the path and the extension together
pub length-with_extension_of : (s x : List ℕ)
    → length (with_extension_of s x) ≤ length s + 1 + length x
unfolding with_extension_of
length-with_extension_of s x = extended_fits s x (stem_end_of s)

-- the bounds that the clauses `len_bound` of most calls state
pub ruleset bounds = (
  length-lossy_of,
  length-key_of,
  length-join_of,
  length-resolved,
  length-spelling_of,
  length-with_name_of,
  length-below_of,
  length-added_extension_of,
  length-with_extension_of,
)

-- the canonical form of a relative path has at most `3 * (from + 1) / 2 + to` bytes, where `from`
-- and `to` are the lengths of both paths
pub relative_path_bound : (from to : List ℕ) (n : ℕ)
    → Some n ≡ option_map (λ steps. length (spelling_of steps))
    (relative_path_of (values from) (values to))
    → 2 * n ≤ 3 * (length from + 1) + 2 * length to
relative_path_bound from to n is = found (relative_path_of (values from) (values to)) refl is
  where
    found : (path : Option (List Value)) → relative_path_of (values from) (values to) ≡ path
        → Some n ≡ option_map (λ steps. length (spelling_of steps)) path
        → 2 * n ≤ 3 * (length from + 1) + 2 * length to
    found None path is = absurd (let e = is in cc)
    found (Some steps) path is =
        omega (arith, length-relative_path from to steps path, ap (λ o. unwrap_or o 0) is)
