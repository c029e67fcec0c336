-- Rows, which the contracts of tables and trees of paths use. A row is a list of components, as the
-- key, and a value.
use Rattle.std.specs.Prelude.{◌≡◌, Bool, List, Option, length, take}
use Rattle.std.specs.BTreeMap.{is_at}
use Rattle.std.specs.Map.{lookup}
use Rattle.std.specs.Ordering.{is_eq}
use Rattle.std.specs.declared.cmp.Ordering.{Ordering}
use Rattle.unix_path.specs.Order.{values_cmp}
use Rattle.unix_path.specs.Parts.{Value}

-- the value of the row with the components v, or `None` if there is no such row
abbrev pub value_at : {V : Type 0} → List Value → List (List Value × V) → Option V
value_at v rows = lookup (is_at (values_cmp v)) rows

-- for each key except k, the entries `new` have the same value as the entries `old`, or both have
-- none; `cmp` is the order of the keys, which for rows are lists of components
abbrev pub SameElsewhere : {K V : Type 0} → (K → K → Ordering) → K → List (K × V) → List (K × V)
    → Type 0
SameElsewhere {K = K} cmp k old new =
    (other : K) → ¬ (other ≡ k) → lookup (is_at (cmp other)) new ≡ lookup (is_at (cmp other)) old

-- the components v start with the components base
abbrev pub is_under : List Value → List Value → Bool
is_under base v = is_eq (values_cmp base (take (length base) v))
