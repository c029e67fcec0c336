-- Laws of the order of lists of components (Rust's order of `Path`).
use Rattle.std.specs.Prelude.{◌≡◌, ◌⊎◌, ◌<◌, ℕ, true, List, ◌∷◌, ◌++◌, drop}
use Rattle.std.specs.Ordering.{is_le}
use Rattle.unix_path.specs.CommonDir.{common_dir_of, inner_values}
use Rattle.unix_path.specs.Order.{values_cmp, IsBefore}
use Rattle.unix_path.specs.Parts.{slash, Value, values}
use Rattle.unix_path.specs.Prefixes.{IsPrefixOf}

-- one and only one of P, Q and R holds
pub record ExactlyOne (P Q R : Type 0) : Type 0 where
  pub one_holds : P ⊎ (Q ⊎ R)
  pub not_first_two : ¬ (P × Q)
  pub not_outer : ¬ (P × R)
  pub not_last_two : ¬ (Q × R)

-- for two lists of components v and w, one and only one of these holds: v equals w, v is before w,
-- or w is before v
abbrev pub OneOrder : Type 0
OneOrder = (v w : List Value) → ExactlyOne (v ≡ w) (IsBefore v w) (IsBefore w v)

-- if u is before v, and v before w, then u is before w
abbrev pub BeforeIsTransitive : Type 0
BeforeIsTransitive = (u v w : List Value) → IsBefore u v → IsBefore v w → IsBefore u w

-- lists of components that are prefixes of each other are equal
abbrev pub PrefixBothWays : Type 0
PrefixBothWays = (v w : List Value) → IsPrefixOf v w → IsPrefixOf w v → v ≡ w

-- if the lists of components u and w start with base, so does each list v with u ≤ v ≤ w in the
-- order
abbrev pub DescendantsContiguous : Type 0
DescendantsContiguous =
    (base u v w : List Value) → IsPrefixOf base u → IsPrefixOf base w
    → is_le (values_cmp u v) ≡ true → is_le (values_cmp v w) ≡ true → IsPrefixOf base v

-- the list of components base is less than or equal to each list that starts with it
abbrev pub BaseBeforeUnder : Type 0
BaseBeforeUnder = (base v : List Value) → IsPrefixOf base v → is_le (values_cmp base v) ≡ true

-- two paths that begin with the same bytes and then a slash are ordered by the components after
-- this slash, without a root or a leading `.`
abbrev pub OrderAfterSlash : Type 0
OrderAfterSlash = (prefix s t : List ℕ)
    → values_cmp (values (prefix ++ slash ∷ s)) (values (prefix ++ slash ∷ t))
    ≡ values_cmp (inner_values s) (inner_values t)

-- if the common prefix of two paths has a slash, they are ordered by the components after the last
-- slash of that prefix, without a root or a leading `.`
abbrev pub OrderAfterCommonDir : Type 0
OrderAfterCommonDir = (s t : List ℕ) → let n = common_dir_of s t in 0 < n
    → values_cmp (values s) (values t)
    ≡ values_cmp (inner_values (drop n s)) (inner_values (drop n t))
