-- The entries that two trees have with different values: their keys are sorted, and one more entry
-- is one of them only if its two values differ.
use Rattle.std.proofs.Common.{arith}
use Rattle.std.proofs.Common.{◌≡◌, ℕ, Bool, true, false, cond, List, [], ◌∷◌, None}
use Rattle.std.proofs.Common.{Some, Less, ap, map, not, sym}
use Rattle.std.specs.Borrow.{Bor}
use Rattle.std.specs.List.{AllByRecursion, cons_option, filter}
use Rattle.std.specs.List.Sorted.{IsStrictlySortedBy}
use Rattle.std.specs.Map.{keys_of}
use Rattle.std.specs.Option.{option_map}
use Rattle.std.proofs.lemmas.Simd.{map-map}
use Rattle.path_keys.specs.Ranges.{bytes_cmp}
use Rattle.path_tree.specs.Changed.{borrowed_both, entries_changed, entries_in_both}
use Rattle.path_tree.specs.Entries.{entry_at}
use Rattle.path_tree.proofs.lemmas.entries.WalkLemmas.{sorted-filter}

-- the keys of entries with two values
abbrev pub both_keys : {V W : Type 0} → List (List ℕ × V × W) → List (List ℕ)
both_keys both = map (λ b. b.0) both

-- the keys of borrowed entries with two values are the keys of the entries
pub both_keys-lent : {V W : Type 0} (both : List (Bor (List ℕ) × Bor V × Bor W))
    → map (λ b. b.0.now) both ≡ both_keys (map borrowed_both both)
both_keys-lent both = sym (map-map _ _ both)

module _ {V W : Type 0} (other : List (List ℕ × W)) where
  -- if P holds of all keys of es, it holds of the keys of es that `other` has too
  all_in_both : (P : List ℕ → Type 0) → (es : List (List ℕ × V)) → AllByRecursion P (keys_of es)
      → AllByRecursion P (both_keys (entries_in_both other es))
  all_in_both P [] all = tt
  all_in_both P (e ∷ es) all =
      elim (entry_at e.0 other) as (λ o. AllByRecursion P (both_keys
      (cons_option (option_map (λ y. (e.0, e.1, y)) o) (entries_in_both other es)))) [
        | None ↦ all_in_both P es all.1
        | Some y ↦ (all.0, all_in_both P es all.1)
      ]

  -- if the keys of es are strictly increasing, so are the keys of es that `other` has too
  sorted_in_both : (es : List (List ℕ × V)) → IsStrictlySortedBy bytes_cmp (keys_of es)
      → IsStrictlySortedBy bytes_cmp (both_keys (entries_in_both other es))
  unfolding IsStrictlySortedBy
  sorted_in_both [] sorted = tt
  sorted_in_both (e ∷ es) sorted =
      elim (entry_at e.0 other) as (λ o. IsStrictlySortedBy bytes_cmp (both_keys
      (cons_option (option_map (λ y. (e.0, e.1, y)) o) (entries_in_both other es)))) [
        | None ↦ sorted_in_both es sorted.1
        | Some y ↦
            (all_in_both (λ l. bytes_cmp e.0 l ≡ Less) es sorted.0, sorted_in_both es sorted.1)
      ]

-- if the keys of es are strictly increasing, so are the keys of the changed entries
pub sorted-changed : {V : Type 0} (eq : V → V → Bool) (other es : List (List ℕ × V))
    → IsStrictlySortedBy bytes_cmp (keys_of es)
    → IsStrictlySortedBy bytes_cmp (both_keys (entries_changed eq other es))
sorted-changed eq other es sorted = grind (arith, sorted-filter, sorted_in_both)

module _ {V : Type 0} (eq : V → V → Bool) (other : List (List ℕ × V)) (e : List ℕ × V)
    (es : List (List ℕ × V)) where
  -- if `other` has the value y at the key of e, the changed entries of e and es are those of es,
  -- after e with both values if y is not equal to the value of e
  with_found : (y : V) → entry_at e.0 other ≡ Some y
      → entries_changed eq other (e ∷ es)
      ≡ cond (not (eq e.1 y)) ((e.0, e.1, y) ∷ entries_changed eq other es)
      (entries_changed eq other es)
  with_found y is =
      ap (λ o. filter (λ (both : List ℕ × V × V). not (eq both.1 both.2))
      (cons_option (option_map (λ y. (e.0, e.1, y)) o) (entries_in_both other es))) is

  -- if `other` lacks the key of e, the changed entries of e and es are those of es
  pub absent_entry : entry_at e.0 other ≡ None
      → entries_changed eq other (e ∷ es) ≡ entries_changed eq other es
  absent_entry is = grind arith

  -- if `other` has the value y at the key of e, and y is equal to the value of e, the changed
  -- entries of e and es are those of es
  pub equal_entry : (y : V) → entry_at e.0 other ≡ Some y → eq e.1 y ≡ true
      → entries_changed eq other (e ∷ es) ≡ entries_changed eq other es
  equal_entry y is same = grind (arith, with_found)

  -- if `other` has the value y at the key of e, and y is not equal to the value of e, the changed
  -- entries of e and es are e with both values, and then those of es
  pub changed_entry : (y : V) → entry_at e.0 other ≡ Some y → eq e.1 y ≡ false
      → entries_changed eq other (e ∷ es) ≡ (e.0, e.1, y) ∷ entries_changed eq other es
  changed_entry y is differ = grind (arith, with_found)
