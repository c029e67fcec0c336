-- The length of a relative path is at most 3 * (from_length + 1) / 2 + to_length.
use Rattle.std.proofs.Common.{◌≡◌, ℕ, zero, suc, ◌+◌, ◌*◌, ◌≤◌, false, List, [], ◌∷◌, length, drop}
use Rattle.std.proofs.Common.{Some, refl, sym, ap, ◌∙◌, arith}
use Rattle.std.specs.List.{list_any}
use Rattle.std.proofs.lemmas.List.Sums.{sum_by-append, sum_by-take-drop}
use Rattle.unix_path.specs.Parts.{Value, RootDir, ParentDir, is_rooted, value_bytes, values}
use Rattle.unix_bytes.proofs.lemmas.lists.ListLemmas.{by_test}
use Rattle.path_runs.specs.Spelling.{spelling_of}
use Rattle.path_runs.proofs.lemmas.spelling.PieceValueLemmas.{is_rooted-slash}
use Rattle.path_within.specs.Below.{names_below}
use Rattle.path_within.specs.Resolved.{resolved_of}
use Rattle.path_within.proofs.lemmas.stack.Stacks.{ReadsAsItself}
use Rattle.path_within.specs.Escapes.{is_root}
use Rattle.path_within.specs.RelativePaths.{relative_path_of}
use Rattle.path_within.specs.WrittenBytes.{slashed_len}
use Rattle.path_within.proofs.lemmas.stack.BetweenLemmas.{shared_count, steps_between-is}
use Rattle.path_within.proofs.lemmas.stack.BetweenLemmas.{parent_dirs_for}
use Rattle.path_within.proofs.lemmas.below.BoundLemmas.{length-spelling, slashed_len-cons}
use Rattle.path_within.proofs.lemmas.below.BoundLemmas.{slashed_len-names, slashed_len-rootless}
use Rattle.path_within.proofs.lemmas.below.NamesBelowLemmas.{resolved_of-slash}
use Rattle.path_within.proofs.lemmas.stack.ResolveLemmas.{ReadsAsItself-resolved}
use Rattle.path_within.proofs.lemmas.stack.StackLemmas.{names_straight}
use Rattle.path_within.proofs.lemmas.stack.RelativePathLemmas.{names_all, straight_rootless}
use Rattle.std.proofs.lemmas.Grind.{common_steps}
use Rattle.unix_path.proofs.lemmas.parts.PartLemmas.{values-nil}

-- components that read as themselves have at least two bytes each, with their slash
ones_long : (vs : List Value) → ReadsAsItself vs → 2 * length vs ≤ slashed_len vs
ones_long [] ones = omega arith
ones_long (v ∷ vs) ones =
    grind (arith, common_steps, slashed_len-cons v vs, ones_long vs ones.1, values-nil)

-- a `..` for each component of vs, with a slash for each, takes 3 bytes per component of vs
parent_dirs_len : (vs : List Value) → slashed_len (parent_dirs_for vs) ≡ 3 * length vs
parent_dirs_len [] = refl
parent_dirs_len (v ∷ vs) =
    omega (arith, slashed_len-cons ParentDir (parent_dirs_for vs), parent_dirs_len vs)

-- if a suffix of a path's resolved components has no root, it is, with a slash for each, no longer
-- than the path and a slash
rest_fits : (s : List ℕ) (n : ℕ) → list_any is_root (drop n (resolved_of (values s))) ≡ false
    → slashed_len (drop n (resolved_of (values s))) ≤ 1 + length s
rest_fits s n none = by_test (is_rooted s)
    (λ r. let t = is_rooted-slash s r in
    let is : resolved_of (values s) ≡ RootDir ∷ names_below (values t.0) =
    ap (λ s. resolved_of (values s)) t.1 ∙ resolved_of-slash t.0 in
    grind (
      arith,
      slashed_len-names,
      ap (λ vs. slashed_len (drop n vs)) is,
      after_root_fits n
          (names_below (values t.0)) (sym (ap (λ vs. list_any is_root (drop n vs)) is) ∙ none),
      ap
          length t.1,
    ))
    (λ r. omega (
      arith,
      sum_by-take-drop (λ v. 1 + length (value_bytes v)) (resolved_of (values s)) n,
      slashed_len-rootless s r,
    ))
  where
    after_root_fits : (n : ℕ) (ns : List Value) → list_any is_root (drop n (RootDir ∷ ns)) ≡ false
        → slashed_len (drop n (RootDir ∷ ns)) ≤ slashed_len ns
    after_root_fits zero ns none = absurd (let e = none in cc)
    after_root_fits (suc n) ns none =
        omega (arith, sum_by-take-drop (λ v. 1 + length (value_bytes v)) ns n)

-- if `steps` is the relative path from `from` to `to`, the canonical form of `steps` has at most
-- 3 * (length from + 1) / 2 + length to bytes
pub length-relative_path : (from to : List ℕ) (steps : List Value)
    → relative_path_of (values from) (values to) ≡ Some steps
    → 2 * length (spelling_of steps) ≤ 3 * (length from + 1) + 2 * length to
unfolding relative_path_of
length-relative_path from to steps e =
    let v = resolved_of (values from) in
    let w = resolved_of (values to) in
    let n = shared_count v w in
    let x = drop n v in
    let y = drop n w in
    let are = steps_between-is x y steps e in
    omega (
      arith,
      length-spelling steps,
      ap slashed_len (sym are.steps_are),
      sum_by-append (λ v. 1 + length (value_bytes v)) (parent_dirs_for x) y,
      parent_dirs_len x,
      ones_long x (ReadsAsItself-resolved n from),
      rest_fits from n (straight_rootless x (names_straight x (names_all x are.names))),
      rest_fits to n are.no_root,
    )
