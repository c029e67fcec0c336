-- Joins that stay within a root: the components after the root.
use Rattle.std.proofs.Common.{◌≡◌, ℕ, List, [], ◌++◌, arith}
use Rattle.std.proofs.lemmas.List.{reverse-append}
use Rattle.unix_path.specs.Joins.{join_of}
use Rattle.unix_path.specs.Parts.{values}
use Rattle.unix_path.specs.Prefixes.{IsPrefixOf}
use Rattle.path_within.specs.Resolved.{resolved_of, resolved_bytes_of, AllNames}
use Rattle.path_within.proofs.lemmas.stack.Stacks.{resolve_onto}
use Rattle.path_within.specs.Escapes.{Escapes}
use Rattle.path_within.proofs.lemmas.stack.EscapeLemmas.{keeps_stack}
use Rattle.path_within.proofs.lemmas.stack.ResolveLemmas.{resolve_onto-join, values-resolved}
use Rattle.path_within.proofs.lemmas.stack.StackLemmas.{names_reverse}

-- if the request b does not escape, the join of a and b resolves to the resolved components of a
-- and then those of b
pub resolved_of-within : (a b : List ℕ) → (Escapes (values b) → ⊥)
    → resolved_of (values (join_of a b)) ≡ resolved_of (values a) ++ resolved_of (values b)
unfolding resolved_of
resolved_of-within a b h =
    let ks = resolve_onto [] (values a) in
    grind (arith, resolve_onto-join, keeps_stack, reverse-append)

-- a request that does not escape resolves to names
pub names-within : (b : List ℕ) → (Escapes (values b) → ⊥) → AllNames (resolved_of (values b))
unfolding resolved_of
names-within b h = names_reverse (resolve_onto [] (values b)) (keeps_stack [] b h).are_names

-- if the request b does not escape, the resolved bytes of the join of a and b have the resolved
-- components of a and then those of b
pub values-within : (a b : List ℕ) → (Escapes (values b) → ⊥)
    → values (resolved_bytes_of (join_of a b))
    ≡ values (resolved_bytes_of a) ++ values (resolved_bytes_of b)
values-within a b h = grind (arith, values-resolved, resolved_of-within)

-- the resolved join with a request that does not escape starts with the resolved root
pub begins-within : (a b t : List ℕ) → (Escapes (values b) → ⊥)
    → t ≡ resolved_bytes_of (join_of a b) → IsPrefixOf (values (resolved_bytes_of a)) (values t)
begins-within a b t h e = grind (arith, values-within a b h)
