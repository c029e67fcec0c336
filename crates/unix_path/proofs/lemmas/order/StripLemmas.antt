-- The rest of a path after another, without trailing filler.
use Rattle.std.proofs.Common.{◌≡◌, ℕ, ◌+◌, ◌-◌, ◌≤◌, ◌<◌, false, List, [], ◌++◌, length, take, map}
use Rattle.std.proofs.Common.{sym, ap, subst, ◌∙◌, arith, take_all}
use Rattle.std.specs.Borrow.{Bor}
use Rattle.std.proofs.lemmas.List.{nil_from_length}
use Rattle.unix_path.specs.Parts.{parts, values}
use Rattle.unix_path.specs.Slices.{EndsAt, IsTail}
use Rattle.unix_path.specs.Prefixes.{IsPrefixOf, stripped_of}
use Rattle.unix_path.specs.Rest.{rest}
use Rattle.unix_path.specs.Scan.{is_filler, is_trailing, EndsInPart}
use Rattle.unix_path.specs.Steps.{SharesPrefix}
use Rattle.unix_path.proofs.lemmas.order.AfterCutLemmas.{rest-rest_bytes}
use Rattle.unix_path.proofs.lemmas.parts.PartLemmas.{values-nil}
use Rattle.unix_path.proofs.lemmas.rests.RestLemmas.{rest-rest}
use Rattle.unix_path.proofs.lemmas.steps.SpanLemmas.{rest-trimmed}
use Rattle.unix_path.proofs.lemmas.filler.TrimLemmas.{EndsInPart-drop, EndsInPart-take}
use Rattle.std.proofs.lemmas.List.{length-take}

-- the first n bytes of s have the same components as s, and are empty or end in a component
pub record Trims (s : List ℕ) (n : ℕ) : Type 0 where
  pub in_range : n ≤ length s
  pub same : parts (take n s) ≡ parts (take (length s) s)
  pub ends : 0 < n → is_trailing s (n - 1) ≡ false

-- if `Trims s n` holds, the first n bytes of s are `rest s 0 0`, which is s without trailing
-- filler, and are empty or end in a component
pub rest-trims : (s : List ℕ) (n : ℕ) → Trims s n → (rest s 0 0 ≡ take n s) × EndsInPart (take n s)
rest-trims s n h =
    let ends = EndsInPart-take s n h.in_range h.ends in
    let same = h.same ∙ ap parts (take_all (length s) s (omega arith)) in
    (rest-trimmed s n h.in_range same ends, ends)

-- if `Trims s n` holds, the first n bytes of s have the same components as s, without positions
pub values-trims : (s : List ℕ) (n : ℕ) → Trims s n → values (take n s) ≡ values s
unfolding values
values-trims s n h = grind (arith, take_all)

-- if `base` is empty, s starts with `base`
pub begins-empty : (s base : List ℕ) → length base ≡ 0 → IsPrefixOf (values base) (values s)
begins-empty s base none =
    let no_values = ap values (nil_from_length base none) ∙ values-nil in
    (values s, ap (λ vs. vs ++ values s) no_values)

-- if `base` is empty, and `Trims s n` holds, stripping `base` from s leaves the first n bytes of s
pub stripped-whole : (s base : List ℕ) (n : ℕ) → Trims s n → length base ≡ 0
    → take n s ≡ stripped_of s base
stripped-whole s base n h none =
    let no_values = ap values (nil_from_length base none) ∙ values-nil in
    sym (ap (λ vs. rest s (length vs) 0) no_values ∙ (rest-trims s n h).0)

-- if `whole` is s without trailing filler, and `rest_bytes`, which has no leading filler, is the
-- rest of `whole` after the components of `base`, then stripping `base` from s leaves `rest_bytes`
pub stripped-is : (s base : List ℕ) (n : ℕ) (rest_bytes whole : Bor (List ℕ)) → Trims s n
    → whole.now ≡ take n s → IsTail rest_bytes whole → SharesPrefix whole.now base rest_bytes.now []
    → is_filler rest_bytes.now 0 ≡ false → rest_bytes.now ≡ stripped_of s base
stripped-is s base n rest_bytes whole h is tail shares not_filler =
    let k = length (values base) in
    let trimmed = rest-trims s n h in
    let ends : EndsInPart rest_bytes.now = subst EndsInPart (sym tail.bytes)
    (EndsInPart-drop whole.now (length whole.now - length rest_bytes.now) (omega arith)
    (subst EndsInPart (sym is) trimmed.1)) in
    sym (rest-rest_bytes shares not_filler ends) ∙ ap (λ r. rest r k 0) (is ∙ sym trimmed.0)
    ∙ rest-rest s 0 0 k 0
    ∙ ap (λ i. rest s i (0 + 0)) {x = 0 + k} {y = k} (omega arith)

-- if `whole` begins where `path` begins, and is `path` without trailing filler, then each suffix of
-- `whole` ends where the last component of `path` ends
pub stripped-end : (path rest_bytes whole : Bor (List ℕ)) (n : ℕ) → Trims path.now n
    → whole.now ≡ take n path.now → whole.ref_ptr.1 ≡ path.ref_ptr.1 → IsTail rest_bytes whole
    → EndsAt rest_bytes path (length (rest path.now 0 0))
stripped-end path rest_bytes whole n h is begins tail = grind (arith, rest-trims)

-- each string starts with the empty string
pub ruleset empty_begins = (begins-empty)

-- a string without a prefix that is empty, or without its trailing filler
pub ruleset stripped = (begins-empty, stripped-whole, rest-trims, values-trims, length-take)
