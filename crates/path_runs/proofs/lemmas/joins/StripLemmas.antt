-- A base joined with the rest of a path after that base.
use Rattle.std.proofs.Common.{◌≡◌, ℕ, false, List, [], ◌∷◌, ◌++◌, sym}
use Rattle.std.proofs.Common.{ap, ◌∙◌, arith}
use Rattle.unix_path.specs.Parts.{Value, is_rooted, values}
use Rattle.unix_path.specs.Joins.{join_of}
use Rattle.unix_path.specs.Prefixes.{stripped_of, IsPrefixOf}
use Rattle.unix_path.proofs.lemmas.parts.PartLemmas.{root_first, root_first-values, values-nil}
use Rattle.unix_path.proofs.lemmas.parts.PartLemmas.{some_values}
use Rattle.unix_path.proofs.lemmas.rests.RestLemmas.{values-rest}
use Rattle.path_runs.proofs.lemmas.lists.AllLemmas.{AllByRecursion-end}
use Rattle.path_runs.proofs.lemmas.joins.AssociativeLemmas.{join_of-nil}
use Rattle.path_runs.proofs.lemmas.joins.LeadLemmas.{IsInner, inner-no_lead, inner-behind}
use Rattle.path_runs.proofs.lemmas.joins.LeadLemmas.{append_values-inner}
use Rattle.path_runs.proofs.lemmas.joins.LeadLemmas.{values-join_of_rootless}
use Rattle.std.proofs.lemmas.Grind.{common_steps}

-- if the components of s are those of base and then `more`, the rest of s after base has the
-- components `more`
pub values-stripped_of : (s base : List ℕ) (more : List Value) → values base ++ more ≡ values s
    → values (stripped_of s base) ≡ more
values-stripped_of s base more e = grind (arith, common_steps, values-rest)

-- if the components of s are those of base, which isn't empty, and then those of r, base joined
-- with r has the components of s
join_remaining : (s base r : List ℕ) (v : Value) (vs more : List Value)
    → values base ≡ v ∷ vs → values r ≡ more → v ∷ vs ++ more ≡ values s
    → values (join_of base r) ≡ values s
join_remaining s base r v vs more is rest_is all =
    let inner = AllByRecursion-end IsInner vs more (inner-behind s v (vs ++ more) (sym all)) in
    let rootless : is_rooted r ≡ false =
    sym (root_first-values r) ∙ ap root_first rest_is ∙ (inner-no_lead more inner).no_root in
    grind (arith, values-join_of_rootless, append_values-inner)

-- if the components of s are those of base and then `more`, base joined with the rest of s after
-- the components of base has the components of s
strip_join : (s base : List ℕ) (more : List Value) → values base ++ more ≡ values s
    → values (join_of base (stripped_of s base)) ≡ values s
strip_join s [] more e = grind (arith, join_of-nil, values-stripped_of, values-nil)
strip_join s (b ∷ base) more e =
    let some = some_values (b ∷ base) (omega arith) in
    grind (arith, join_remaining, values-stripped_of)

-- if s starts with the components of base, base joined with the rest of s after these components
-- has the components of s
pub values-join_of_stripped : (s base : List ℕ) → IsPrefixOf (values base) (values s)
    → values (join_of base (stripped_of s base)) ≡ values s
values-join_of_stripped s base h = strip_join s base h.0 h.1

-- if s starts with the components of base, and `joined` is base joined with the rest of s after
-- these components, then `joined` is equal to s
pub strip_then_join : (s base joined : List ℕ) → IsPrefixOf (values base) (values s)
    → joined ≡ join_of base (stripped_of s base) → values joined ≡ values s
strip_then_join s base joined h e = ap values e ∙ values-join_of_stripped s base h
