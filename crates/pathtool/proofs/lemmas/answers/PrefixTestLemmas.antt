-- Tests whether a list of components starts or ends with another.
use Rattle.std.proofs.Common.{◌≡◌, ℕ, ◌-◌, List, length, take, drop, sym, ap, refl, Some, Decides}
use Rattle.std.proofs.Common.{codes}
use Rattle.std.specs.List.{starts_with, ends_with}
use Rattle.std.proofs.lemmas.Slice.Eq.{starts_is, ends_is}
use Rattle.unix_bytes.proofs.lemmas.lists.ListLemmas.{by_test}
use Rattle.unix_path.specs.Parts.{Value, values}
use Rattle.unix_path.specs.Prefixes.{IsPrefixOf, IsSuffixOf, stripped_of}
use Rattle.unix_path.specs.Order.{same_value}
use Rattle.unix_path.proofs.lemmas.callers.CallerLemmas.{same_value-Decides}
use Rattle.pathtool.specs.Answers.{optional, strip_answer}

-- the test `starts_with` decides whether the list w of components starts with v
pub starts_with-Decides : (w v : List Value) → Decides (starts_with same_value w v) (IsPrefixOf v w)
starts_with-Decides w v = let (to, from) = starts_is same_value-Decides w v _ refl in (
  λ e. (drop (length v) w, sym (to e)),
  λ (more, e). from more (sym e),
)

-- the test `ends_with` decides whether the list w of components ends with v
pub ends_with-Decides : (w v : List Value) → Decides (ends_with same_value w v) (IsSuffixOf v w)
ends_with-Decides w v = let (to, from) = ends_is same_value-Decides w v _ refl in (
  λ e. (take (length w - length v) w, sym (to e)),
  λ (before, e). from before (sym e),
)

-- if `path` starts with the components of `base`, the answer of `strip` is `+` and the rest of
-- `path` after these components
pub strip_answer-ok : (path base rest : List ℕ) → IsPrefixOf (values base) (values path)
    → rest ≡ stripped_of path base → optional (Some rest) ≡ strip_answer path base
strip_answer-ok path base rest h e =
    let test = (starts_with-Decides (values path) (values base)).1 h in
    rw test (ap (λ bytes. optional (Some bytes)) e)

-- if `path` doesn't start with the components of `base`, the answer of `strip` is
-- `prefix not found`
pub strip_answer-not_found : (path base : List ℕ) → (IsPrefixOf (values base) (values path) → ⊥)
    → codes "prefix not found" ≡ strip_answer path base
strip_answer-not_found path base h = by_test (starts_with same_value (values path) (values base))
    (λ e. absurd (h ((starts_with-Decides (values path) (values base)).0 e))) (λ e. rw e refl)
