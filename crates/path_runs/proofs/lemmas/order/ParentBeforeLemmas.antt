-- A path's parent is before the path in the order. Joined with the path's file name, the parent
-- equals the path.
use Rattle.std.proofs.Common.{◌≡◌, ℕ, List, [], ◌∷◌, ◌++◌, Some, refl, sym, ap, ap₂, ◌∙◌}
use Rattle.std.proofs.lemmas.Cmp.{tied_itself}
use Rattle.std.proofs.lemmas.Option.{none-some}
use Rattle.unix_path.specs.Parts.{Value, Normal, values}
use Rattle.unix_path.specs.Joins.{join_of}
use Rattle.unix_path.specs.Parents.{parent_of}
use Rattle.unix_path.specs.Names.{file_name_of}
use Rattle.unix_path.specs.Order.{values_cmp, IsBefore}
use Rattle.unix_path.specs.OrderLaws.{value_cmp-total}
use Rattle.unix_path.proofs.lemmas.names.ParentLemmas.{parent_of-none, parent_of-some}
use Rattle.unix_path.proofs.lemmas.names.NameCutLemmas.{name_cut, values-name}
use Rattle.path_runs.proofs.lemmas.joins.SiblingLemmas.{values-rest_push, values-join_of_one}
use Rattle.unix_bytes.proofs.lemmas.lists.ListLemmas.{Snoc, Empty, Push, snoc}

-- a list of components is before the same list with one more component
before_push : (vs : List Value) (v : Value) → IsBefore vs (vs ++ v ∷ [])
before_push [] v = refl
before_push (w ∷ vs) v = cc (tied_itself value_cmp-total w, before_push vs v)

-- a path without components has no parent
no_parent : (s parent : List ℕ) → values s ≡ [] → parent_of s ≡ Some parent → ⊥
no_parent s parent is e = none-some parent (parent_of-none s is ∙ e)

-- if a path has a parent, the parent is before the path in the order
pub parent-before : (s parent : List ℕ) → parent_of s ≡ Some parent
    → IsBefore (values parent) (values s)
parent-before s parent e = by (snoc (values s))
  where
    by : Snoc (values s) → IsBefore (values parent) (values s)
    by (Empty none) = absurd (no_parent s parent none e)
    by (Push vs v is) =
        ap₂ values_cmp (ap values (parent_of-some s parent e) ∙ values-rest_push s vs v is) is
        ∙ before_push vs v

-- if a path has a parent and a file name, the parent joined with the file name is equal to the path
pub parent-join_name : (s parent name : List ℕ) → parent_of s ≡ Some parent
    → file_name_of (values s) ≡ Some name → values (join_of parent name) ≡ values s
parent-join_name s parent name e f =
    let cut = name_cut s name f in
    values-join_of_one parent name name (values-name name cut.is_name)
    ∙ ap (λ vs. vs ++ Normal name ∷ []) (ap values (parent_of-some s parent e)
    ∙ values-rest_push s (values cut.prefix) (Normal name) cut.before)
    ∙ sym cut.before
