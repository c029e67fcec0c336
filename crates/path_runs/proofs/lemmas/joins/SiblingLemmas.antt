-- A path of one name, which is pushed to a path and popped again, or replaces the path's file name.
use Rattle.std.proofs.Common.{◌≡◌, ℕ, true, false, List, [], ◌∷◌, ◌++◌, Some, is_some}
use Rattle.std.proofs.Common.{sym, ap, ◌∙◌, arith}
use Rattle.unix_path.specs.Parts.{Value, Normal, is_rooted, values, SameValues}
use Rattle.unix_path.specs.Rest.{rest}
use Rattle.unix_path.specs.Joins.{join_of}
use Rattle.unix_path.specs.Parents.{parent_of}
use Rattle.unix_path.specs.Names.{file_name_of}
use Rattle.unix_path.specs.Edits.{popped_of, with_name_of}
use Rattle.unix_path.proofs.lemmas.rests.MiddleLemmas.{middle, middle-push}
use Rattle.unix_path.proofs.lemmas.names.ParentLemmas.{before_name_of-some, parent_of-push}
use Rattle.unix_path.proofs.lemmas.names.ParentLemmas.{file_name_of-last}
use Rattle.unix_path.proofs.lemmas.parts.PartLemmas.{root_first, root_first-values}
use Rattle.unix_path.proofs.lemmas.rests.RestLemmas.{rest-rest, values-rest}
use Rattle.path_runs.specs.EditLaws.{IsOneName}
use Rattle.path_runs.proofs.lemmas.joins.AssociativeLemmas.{separator, needs_no_separator-separator}
use Rattle.path_runs.proofs.lemmas.joins.AssociativeLemmas.{join_of-separator}
use Rattle.path_runs.proofs.lemmas.joins.AppendedLemmas.{rest-appended, rest-separator}
use Rattle.path_runs.proofs.lemmas.joins.AppendedLemmas.{values-separator}
use Rattle.path_runs.proofs.lemmas.joins.LeadLemmas.{append_values-inner}
use Rattle.path_runs.proofs.lemmas.joins.LeadLemmas.{values-join_of_rootless}

-- if the last component of a path is a name, the path has a parent: the path without that component
pub parent_of-name : (s name : List ℕ) (vs : List Value) → values s ≡ vs ++ Normal name ∷ []
    → parent_of s ≡ Some (rest s 0 1)
parent_of-name s name vs e = grind (arith, parent_of-push)

-- if the last component of a path is a name, it is the path's file name
pub file_name_of-name : (s name : List ℕ) (vs : List Value) → values s ≡ vs ++ Normal name ∷ []
    → file_name_of (values s) ≡ Some name
file_name_of-name s name vs e = ap file_name_of e ∙ file_name_of-last vs (Normal name)

-- if the components of s are vs and then v, s without its last component has the components vs
pub values-rest_push : (s : List ℕ) (vs : List Value) (v : Value) → values s ≡ vs ++ v ∷ []
    → values (rest s 0 1) ≡ vs
values-rest_push s vs v e = values-rest s 0 1 ∙ ap (middle 0 1) e ∙ middle-push vs v

-- a path of one name is rootless
one_rootless : (n name : List ℕ) → IsOneName n name → is_rooted n ≡ false
one_rootless n name e = sym (root_first-values n) ∙ ap root_first e

-- if n is the one name `name`, the join of s and n has the components of s and then `name`
pub values-join_of_one : (s n name : List ℕ) → IsOneName n name
    → values (join_of s n) ≡ values s ++ Normal name ∷ []
values-join_of_one s n name e =
    grind (arith, values-join_of_rootless, one_rootless, append_values-inner)

-- ---- a push of one name, and a pop

-- if n is one name, the join of s and n has a parent, so that a pop after a push of n returns true
pub pop-answer : (s n name : List ℕ) → IsOneName n name
    → is_some (parent_of (join_of s n)) ≡ true
pop-answer s n name e =
    ap is_some (parent_of-name (join_of s n) name (values s) (values-join_of_one s n name e))

-- if n is one name, a pop of the join of s and n leaves a path equal to s
pub values-popped_of : (s n name : List ℕ) → IsOneName n name
    → SameValues (popped_of (join_of s n)) s
unfolding popped_of
values-popped_of s n name e =
    grind (arith, values-join_of_one s n name e, parent_of-name, values-rest_push)

-- ---- one name instead of the file name

-- if n is one name, the join of r and n without its last component is r without trailing filler
pub rest-join_of_one : (r n name : List ℕ) → IsOneName n name
    → rest (join_of r n) 0 1 ≡ rest r 0 0
rest-join_of_one r n name e =
    let u = r ++ separator r in
    let is = join_of-separator r n (one_rootless n name e) in
    let all : values (u ++ n) ≡ values u ++ Normal name ∷ [] =
    ap values (sym is) ∙ values-join_of_one r n name e
    ∙ ap (λ vs. vs ++ Normal name ∷ []) (sym (values-separator r)) in
    grind (arith, rest-appended, needs_no_separator-separator, rest-separator)

-- if s has a file name, and n is the one name `name`, s with n as its new file name has the
-- components of s before the old file name, and then `name`
pub values-with_name_of : (s old n name : List ℕ) → file_name_of (values s) ≡ Some old
    → IsOneName n name → values (with_name_of s n) ≡ values (rest s 0 1) ++ Normal name ∷ []
values-with_name_of s old n name f e = grind (arith, values-join_of_one, before_name_of-some)

-- if s has a file name, and n is one name, then s, and s with n as its new file name, have the same
-- bytes once their last components are removed
pub rest-with_name_of : (s old n name : List ℕ) → file_name_of (values s) ≡ Some old
    → IsOneName n name → rest (with_name_of s n) 0 1 ≡ rest s 0 1
rest-with_name_of s old n name f e = grind (arith, rest-join_of_one, rest-rest, before_name_of-some)
