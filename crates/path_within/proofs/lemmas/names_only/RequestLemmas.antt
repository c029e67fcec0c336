-- Requests with neither a root nor a `..`.
use Rattle.std.proofs.Common.{◌≡◌, ℕ, suc, true, false, List, [], ◌∷◌, refl, sym, ◌∙◌, arith}
use Rattle.std.proofs.lemmas.Bool.{both_ways}
use Rattle.std.specs.List.{AllByRecursion}
use Rattle.unix_path.specs.Joins.{join_of}
use Rattle.unix_path.specs.Parts.{Value, RootDir, is_rooted, values}
use Rattle.unix_path.specs.Prefixes.{IsPrefixOf}
use Rattle.unix_path.proofs.lemmas.parts.PartLemmas.{root_first, root_first-values}
use Rattle.path_runs.specs.JoinLaws.{drop_dot, values_added}
use Rattle.path_runs.proofs.lemmas.joins.LeadLemmas.{IsInner, inner-behind}
use Rattle.path_runs.proofs.lemmas.joins.LeadLemmas.{values-join_of_values_added}
use Rattle.path_within.specs.Resolved.{AllNames}
use Rattle.path_within.specs.Escapes.{Escapes, has_root_or_parent_dir}
use Rattle.path_within.specs.NamePieces.{is_names_only}
use Rattle.path_within.proofs.lemmas.stack.EscapeLemmas.{escapes_from, escapes_by_depth}
use Rattle.path_within.proofs.lemmas.names_only.NamesOnlyLemmas.{names_only_has_names}

-- components without a root or a `..` do not begin with a root
no_root_first : (vs : List Value) → has_root_or_parent_dir vs ≡ false → root_first vs ≡ false
no_root_first (RootDir ∷ vs) e = absurd (let no : true ≡ false = e in cc)
no_root_first vs e = refl

-- a request without a root or a `..` is rootless
pub request_rootless : (b : List ℕ) → has_root_or_parent_dir (values b) ≡ false
    → is_rooted b ≡ false
request_rootless b e = sym (root_first-values b) ∙ no_root_first (values b) e

-- a join with a request without a root or a `..` starts with the root
pub begins_join : (a b : List ℕ) → has_root_or_parent_dir (values b) ≡ false
    → IsPrefixOf (values a) (values (join_of a b))
begins_join a b e =
    (values_added a b, sym (values-join_of_values_added a b (request_rootless b e)))

-- components without a root or a `..` do not escape, whatever number n of names is before them
escapes_from-names_only : (n : ℕ) (vs : List Value) → has_root_or_parent_dir vs ≡ false
    → escapes_from n vs ≡ false
escapes_from-names_only n [] e = refl
escapes_from-names_only n (v ∷ vs) e =
    grind (arith, escapes_from-names_only n vs, escapes_from-names_only (suc n) vs)

-- a request without a root or a `..` does not escape
pub request_stays : (b : List ℕ) → has_root_or_parent_dir (values b) ≡ false
    → Escapes (values b) → ⊥
request_stays b e h = both_ways (escapes_from 0 (values b)) (escapes_from-names_only 0 (values b) e)
    ((escapes_by_depth b).0 h)

-- inner components (`..` and names) without a `..` are names
inner_names : (vs : List Value) → AllByRecursion IsInner vs → has_root_or_parent_dir vs ≡ false
    → AllNames vs
inner_names [] h e = tt
inner_names (v ∷ vs) h e = grind (arith, inner_names vs)

-- a request without a root or a `..` has only names after its leading `.`, if it has one
pub request_has_names : (b : List ℕ) → has_root_or_parent_dir (values b) ≡ false
    → AllNames (drop_dot (values b))
request_has_names b names_only =
    grind (arith, inner_names, inner-behind)

-- names are neither the root nor `..`
pub names_down : (vs : List Value) → AllNames vs → has_root_or_parent_dir vs ≡ false
names_down [] h = refl
names_down (v ∷ vs) h = grind (arith, names_down vs)

-- a rootless path of names only does not escape
pub names_only_stays : (b : List ℕ) → is_names_only b ≡ true → is_rooted b ≡ false
    → Escapes (values b) → ⊥
names_only_stays b names_only r = grind (arith, request_stays, names_down, names_only_has_names)
