-- The components of a resolved path, and of a resolved join.
use Rattle.std.proofs.Common.{◌≡◌, ℕ, List, [], ◌∷◌, ◌++◌, refl, sym, ap, ◌∙◌, drop}
use Rattle.std.proofs.Common.{subst, take, take-append-drop, arith}
use Rattle.unix_path.specs.Joins.{join_of}
use Rattle.unix_path.specs.Parts.{Value, CurDir, values}
use Rattle.unix_path.proofs.lemmas.edits.JoinLemmas.{join_of_rooted}
use Rattle.path_runs.specs.JoinLaws.{drop_dot, values_added}
use Rattle.path_runs.specs.Spelling.{spelling_of}
use Rattle.path_runs.proofs.lemmas.joins.LeadLemmas.{values-join_of_values_added}
use Rattle.path_runs.proofs.lemmas.spelling.PieceValueLemmas.{is_rooted-slash, values-rooted}
use Rattle.path_runs.proofs.lemmas.lists.AllLemmas.{AllByRecursion-end}
use Rattle.path_within.specs.Resolved.{resolved_of, resolved_bytes_of}
use Rattle.path_within.proofs.lemmas.stack.Stacks.{resolve_onto}
use Rattle.path_within.proofs.lemmas.stack.Stacks.{ReadsAsItself, ValueReadsAsItself}
use Rattle.path_within.proofs.lemmas.stack.StackLemmas.{IsStack-resolve_onto, resolve_onto-append}
use Rattle.path_within.proofs.lemmas.stack.StackLemmas.{resolved_of-append}
use Rattle.path_within.proofs.lemmas.stack.PathOfLemmas.{ReadsAsItself-resolve_onto}
use Rattle.path_within.proofs.lemmas.stack.PathOfLemmas.{ReadsAsItself-values}
use Rattle.path_within.proofs.lemmas.stack.PathOfLemmas.{path_of-spelled, values-path_of}
use Rattle.path_within.proofs.lemmas.stack.StackLemmas.{resolved_normal, resolve_onto-stack}

-- if each component of vs reads as itself, the canonical form of the resolved vs, parsed as a path,
-- has these resolved components
pub values-spelling_of_resolved : (vs : List Value) → ReadsAsItself vs
    → values (spelling_of (resolved_of vs)) ≡ resolved_of vs
unfolding resolved_of
values-spelling_of_resolved vs h =
    let ks = resolve_onto [] vs in
    let stack = IsStack-resolve_onto [] vs tt in
    let one = ReadsAsItself-resolve_onto [] vs tt h in
    ap values (sym (path_of-spelled ks stack one)) ∙ values-path_of ks stack one

-- parsed as a path, the resolved bytes of s have the resolved components of s
pub values-resolved : (s : List ℕ) → values (resolved_bytes_of s) ≡ resolved_of (values s)
values-resolved s = values-spelling_of_resolved (values s) (ReadsAsItself-values s)

-- resolving the resolved bytes of s again does not change them
pub resolved_bytes_of-again : (s : List ℕ)
    → resolved_bytes_of (resolved_bytes_of s) ≡ resolved_bytes_of s
unfolding resolved_of
resolved_bytes_of-again s = grind (arith, values-resolved, resolve_onto-stack, IsStack-resolve_onto)

-- in a suffix of a path's components, the bytes of each component, parsed as a path, have only that
-- component
pub ReadsAsItself-drop : (n : ℕ) (s : List ℕ) → ReadsAsItself (drop n (values s))
ReadsAsItself-drop n s = AllByRecursion-end ValueReadsAsItself (take n (values s)) _
    (subst ReadsAsItself (sym (take-append-drop n (values s))) (ReadsAsItself-values s))

-- in a suffix of a path's resolved components, the bytes of each component, parsed as a path, have
-- only that component
pub ReadsAsItself-resolved : (n : ℕ) (s : List ℕ) → ReadsAsItself (drop n (resolved_of (values s)))
ReadsAsItself-resolved n s = subst (λ vs. ReadsAsItself (drop n vs)) (values-resolved s)
    (ReadsAsItself-drop n (resolved_bytes_of s))

-- dropping a leading `.` of the components does not change the stack after them
pub resolve_onto-drop_dot : (ks vs : List Value) → resolve_onto ks (drop_dot vs)
    ≡ resolve_onto ks vs
resolve_onto-drop_dot ks (CurDir ∷ vs) = refl
resolve_onto-drop_dot ks vs = refl

-- resolving the components that b adds to a join with a (`values_added`) onto a stack leaves the
-- same stack as resolving the components of b onto it
resolve_onto-added : (ks : List Value) (a b : List ℕ)
    → resolve_onto ks (values_added a b) ≡ resolve_onto ks (values b)
resolve_onto-added ks [] b = refl
resolve_onto-added ks (x ∷ a) b = resolve_onto-drop_dot ks (values b)

-- the stack of a join is the stack after the first path's components and then the second path's
-- components
pub resolve_onto-join : (a b : List ℕ)
    → resolve_onto [] (values (join_of a b)) ≡ resolve_onto (resolve_onto [] (values a)) (values b)
resolve_onto-join a b = grind (
  arith,
  join_of_rooted,
  values-join_of_values_added,
  resolve_onto-append,
  resolve_onto-added,
  is_rooted-slash,
  values-rooted,
)

-- the components of a join resolve to the same components as those of the first path and then those
-- of the second
pub resolved_of-both : (a b : List ℕ)
    → resolved_of (values (join_of a b)) ≡ resolved_of (values a ++ values b)
unfolding resolved_of
resolved_of-both a b = simp (resolve_onto-join, resolve_onto-append)

pub ruleset resolved_is_normal_cases = (resolved_normal, values-resolved, resolved_bytes_of-again)
