-- The bytes of a relative path, and where it leads.
use Rattle.std.proofs.Common.{◌≡◌, ℕ, List, [], ◌∷◌, ◌++◌, take, drop, reverse, Some, sym, ap}
use Rattle.std.proofs.Common.{subst, ◌∙◌, take-append-drop, arith}
use Rattle.unix_path.specs.Joins.{join_of}
use Rattle.unix_path.specs.Parts.{Value, values}
use Rattle.path_runs.specs.Spelling.{spelling_of}
use Rattle.path_within.specs.Resolved.{ParentDirsThenNames, IsNormal, resolved_of}
use Rattle.path_within.proofs.lemmas.stack.Stacks.{resolve_onto}
use Rattle.path_within.specs.Resolved.{resolved_bytes_of}
use Rattle.path_within.specs.RelativePaths.{relative_path_of}
use Rattle.path_within.proofs.lemmas.stack.Stacks.{ReadsAsItself, IsStack}
use Rattle.path_within.proofs.lemmas.stack.StackLemmas.{IsStack-resolve_onto, resolve_onto-append}
use Rattle.path_within.proofs.lemmas.stack.StackLemmas.{resolve_onto-stack}
use Rattle.path_within.proofs.lemmas.stack.StackLemmas.{resolved_normal, straight_normal}
use Rattle.path_within.proofs.lemmas.stack.ResolveLemmas.{resolve_onto-join, ReadsAsItself-resolved}
use Rattle.path_within.proofs.lemmas.stack.ResolveLemmas.{values-spelling_of_resolved}
use Rattle.path_within.proofs.lemmas.stack.BetweenLemmas.{shared_count, steps_between-is}
use Rattle.path_within.proofs.lemmas.stack.BetweenLemmas.{take-shared, parent_dirs_for}
use Rattle.path_within.proofs.lemmas.stack.RelativePathLemmas.{resolve_onto-parent_dir_run}
use Rattle.path_within.proofs.lemmas.stack.RelativePathLemmas.{names_all, normal_drop}
use Rattle.path_within.proofs.lemmas.stack.RelativePathLemmas.{resolved_of-normal}
use Rattle.path_within.proofs.lemmas.stack.RelativePathLemmas.{parent_dirs_straight}
use Rattle.path_runs.proofs.lemmas.spelling.PieceValueLemmas.{values-rootless}

-- if vs is normal, and each of its components reads as itself, the canonical form of vs, parsed as
-- a path, has the components vs
pub values-spelling_of_normal : (vs : List Value) → IsNormal vs → ReadsAsItself vs
    → values (spelling_of vs) ≡ vs
values-spelling_of_normal vs h k = cc (resolved_of-normal vs h, values-spelling_of_resolved vs k)

-- resolving a stack's components again, first the lowest n and then the rest, leaves the same stack
resolve_onto-cut : (n : ℕ) (ks : List Value) → IsStack ks
    → resolve_onto (resolve_onto [] (take n (reverse ks))) (drop n (reverse ks)) ≡ ks
resolve_onto-cut n ks h =
    let vs = reverse ks in
    sym (resolve_onto-append [] (take n vs) (drop n vs))
    ∙ ap (resolve_onto []) (take-append-drop n vs)
    ∙ resolve_onto-stack ks h

-- `steps` leads from the stack ks to the stack js: it is zero or more `..` and then names, each of
-- which reads as itself, and resolving it onto ks leaves js
record IsRelativePath (ks js steps : List Value) : Type 0 where
  pub straight : ParentDirsThenNames steps
  pub one : ReadsAsItself steps
  pub leads : resolve_onto ks steps ≡ js

ReadsAsItself-parent_dir_run : (xs vs : List Value) → ReadsAsItself vs
    → ReadsAsItself (parent_dirs_for xs ++ vs)
ReadsAsItself-parent_dir_run [] vs h = h
ReadsAsItself-parent_dir_run (x ∷ xs) vs h =
    grind (arith, ReadsAsItself-parent_dir_run xs vs h, values-rootless)

-- the relative path from one path to another leads from the stack of the first to the stack of the
-- second
relative_path_is : (from to : List ℕ) (steps : List Value)
    → relative_path_of (values from) (values to) ≡ Some steps
    → IsRelativePath (resolve_onto [] (values from)) (resolve_onto [] (values to)) steps
unfolding relative_path_of resolved_of
relative_path_is from to steps e =
    let ks = resolve_onto [] (values from) in
    let js = resolve_onto [] (values to) in
    let v = reverse ks in
    let w = reverse js in
    let n = shared_count v w in
    let x = drop n v in
    let y = drop n w in
    let are = steps_between-is x y steps e in
    let straight = normal_drop n w (resolved_normal (values to)) are.no_root in
    record {
      straight = subst ParentDirsThenNames are.steps_are (parent_dirs_straight x y straight);
      one = grind (arith, ReadsAsItself-parent_dir_run, ReadsAsItself-resolved);
      leads = ap (resolve_onto ks) (sym are.steps_are)
          ∙ resolve_onto-append ks (parent_dirs_for x) y
          ∙ ap (λ zs. resolve_onto (resolve_onto zs (parent_dirs_for x)) y)
          (sym (resolve_onto-cut n ks (IsStack-resolve_onto [] (values from) tt)))
          ∙ ap (λ zs. resolve_onto zs y)
          (resolve_onto-parent_dir_run (resolve_onto [] (take n v)) x (names_all x are.names)
          ∙ ap (resolve_onto []) (take-shared v w))
          ∙ resolve_onto-cut n js (IsStack-resolve_onto [] (values to) tt);
    }

-- if `steps` is the relative path from `from` to `to`, the canonical form of `steps`, parsed as a
-- path, has the components `steps`
pub values-relative_path : (from to : List ℕ) (steps : List Value)
    → relative_path_of (values from) (values to) ≡ Some steps → values (spelling_of steps) ≡ steps
values-relative_path from to steps e = let is = relative_path_is from to steps e in
    values-spelling_of_normal steps (straight_normal steps is.straight) is.one

-- if `steps` is the relative path from `from` to `to`, the join of `from` and the canonical form of
-- `steps` resolves to the same bytes as `to`
pub relative_path_leads : (from to : List ℕ) (steps : List Value)
    → relative_path_of (values from) (values to) ≡ Some steps
    → resolved_bytes_of (join_of from (spelling_of steps)) ≡ resolved_bytes_of to
unfolding resolved_of
relative_path_leads from to steps e =
    ap (λ ks. spelling_of (reverse ks)) (resolve_onto-join from (spelling_of steps)
    ∙ ap (resolve_onto (resolve_onto [] (values from))) (values-relative_path from to steps e)
    ∙ (relative_path_is from to steps e).leads)
