-- The entries of a tree by the bytes of their keys: all keys are keys of paths, and the keys in the
-- range of a base are those that start with the base.
use Rattle.std.proofs.Common.{◌≡◌, ◌∙◌, ◌&&◌, ℕ, Bool, true, List, [], ◌∷◌, Some, None}
use Rattle.std.proofs.Common.{zero, suc, arith, IfSome, Less, ap, eqb, is_le, length, not}
use Rattle.std.proofs.Common.{refl, subst, sym}
use Rattle.std.proofs.lemmas.Bool.{and_from, and_parts}
use Rattle.std.proofs.lemmas.List.{length-map}
use Rattle.std.proofs.lemmas.List.Elements.{All-cons, All-nil}
use Rattle.std.proofs.lemmas.Option.{slice_get_past}
use Rattle.std.specs.Cmp.{both_ways}
use Rattle.std.specs.Cmp.Lexicographic.{nat_list_cmp_total}
use Rattle.std.specs.List.{All, AllByRecursion, filter, slice_get, starts_with}
use Rattle.std.specs.List.Sorted.{IsStrictlySortedBy}
use Rattle.std.specs.Map.{keys_of}
use Rattle.unix_bytes.proofs.lemmas.lists.ListLemmas.{by_test}
use Rattle.path_runs.specs.Spelling.{spelling_of}
use Rattle.path_keys.specs.Keys.{IsKey}
use Rattle.path_keys.specs.KeyValues.{key_values}
use Rattle.path_keys.specs.Ranges.{bytes_cmp, end_of, InRange}
use Rattle.path_keys.proofs.lemmas.reading.KeyValueLemmas.{own-is}
use Rattle.path_keys.proofs.lemmas.values.BeginLemmas.{begins_told}
use Rattle.path_keys.proofs.lemmas.values.RangeLemmas.{begins-lies_under}
use Rattle.path_tree.specs.Entries.{key_entries}
use Rattle.path_tree.proofs.lemmas.keys.OwnLemmas.{Key, Own, items_of, keys_cmp}
use Rattle.path_tree.proofs.lemmas.keys.OwnLemmas.{own_first, own_others}
use Rattle.path_tree.proofs.lemmas.keys.UnderLemmas.{endless, less_from_not_le, less_not_le}

-- the bytes of the keys are as many as the keys
pub length-key_entries : {V : Type 0} (es : List (Key × V))
    → length (key_entries es) ≡ length es
length-key_entries es = length-map es (λ e. (e.0.items, e.1))

-- if k is less than all keys of es, its bytes are less than the bytes of these keys
greater_entries : {V : Type 0} (k : Key) (es : List (Key × V))
    → AllByRecursion (λ l. keys_cmp items_of k l ≡ Less) (keys_of es)
    → AllByRecursion (λ l. bytes_cmp k.items l ≡ Less) (keys_of (key_entries es))
greater_entries k [] all = tt
greater_entries k (e ∷ es) all = (all.0, greater_entries k es all.1)

-- if keys are strictly increasing, so are their bytes
pub sorted-key_entries : {V : Type 0} (es : List (Key × V))
    → IsStrictlySortedBy (keys_cmp items_of) (keys_of es)
    → IsStrictlySortedBy bytes_cmp (keys_of (key_entries es))
unfolding IsStrictlySortedBy
sorted-key_entries [] sorted = tt
sorted-key_entries (e ∷ es) sorted =
    (greater_entries e.0 es sorted.0, sorted-key_entries es sorted.1)

-- if all keys of the entries are `Own`, the bytes of each key are the key of a path
pub keys-own : {V : Type 0} (es : List (Key × V)) → Own items_of es
    → All IsKey (keys_of (key_entries es))
keys-own [] own = All-nil IsKey
keys-own (e ∷ es) own = All-cons IsKey e.0.items (keys_of (key_entries es))
    (spelling_of (key_values e.0.items), own-is e.0.items (own_first items_of e es own))
    (keys-own es (own_others items_of e es own))

-- if all keys of the entries are `Own`, the bytes of the key at index i are the key of a path
pub is_key-entry : {V : Type 0} (es : List (Key × V)) → Own items_of es → (i : ℕ) (e : Key × V)
    → slice_get es i ≡ Some e → IsKey e.0.items
is_key-entry {V} [] own i e is =
    absurd (let d = sym (slice_get_past {X = Key × V} [] i (omega arith)) ∙ is in cc)
is_key-entry {V} (x ∷ es) own zero e is =
    let same : x ≡ e = cc in
    subst (λ (p : Key × V). IsKey p.0.items) same
    (spelling_of (key_values x.0.items), own-is x.0.items (own_first items_of x es own))
is_key-entry (x ∷ es) own (suc i) e is = is_key-entry es (own_others items_of x es own) i e is

module _ {V : Type 0} (test : Key → Bool) (keep : List ℕ → Bool)
    (same : (k : Key) → test k ≡ keep k.items) where
  -- if `test` of each key is `keep` of its bytes, a filter by `test` keeps the entries that a
  -- filter by `keep` keeps
  pub filter-key_entries : (es : List (Key × V))
      → key_entries (filter (λ e. test e.0) es) ≡ filter (λ e. keep e.0) (key_entries es)
  filter-key_entries [] = refl
  filter-key_entries (e ∷ es) = by_test (test e.0)
      (λ is. rw (is, sym (same e.0) ∙ is) (ap (λ l. (e.0.items, e.1) ∷ l) (filter-key_entries es)))
      (λ fails. rw (fails, sym (same e.0) ∙ fails) (filter-key_entries es))

-- if `end` is the end of the range of `base`, `key` is in this range if and only if it starts with
-- `base`
pub between-starts : (base end key : List ℕ) → end_of base ≡ Some end
    → (is_le (bytes_cmp base key) && not (is_le (bytes_cmp end key))) ≡ starts_with eqb key base
between-starts base end key ends =
    let from = is_le (bytes_cmp base key) in
    let before = not (is_le (bytes_cmp end key)) in
    let told = begins_told key base (starts_with eqb key base) refl in
    both_ways (from && before) (starts_with eqb key base)
    (λ both.
    let less = less_from_not_le (bytes_cmp key end)
    (ap (λ o. not (is_le o)) (sym (nat_list_cmp_total.antisymm end key))
    ∙ (and_parts from before both).1) in
    let lies : InRange base (end_of base) key = (
      (and_parts from before both).0,
      subst (λ o. IfSome o (λ end. bytes_cmp key end ≡ Less)) (sym ends) less,
    ) in
    told.1 ((begins-lies_under base key).1 lies))
    (λ starts.
    let lies = (begins-lies_under base key).0 (told.0 starts) in
    and_from from before lies.0
    (less_not_le (bytes_cmp end key) (bytes_cmp key end) (nat_list_cmp_total.antisymm end key)
    (subst (λ o. IfSome o (λ end. bytes_cmp key end ≡ Less)) ends lies.1)))

-- if the range of `base` has no end, all bytes start with `base`
pub endless-starts : (base : List ℕ) → end_of base ≡ None → (key : List ℕ)
    → true ≡ starts_with eqb key base
endless-starts base none key = grind (arith, endless, begins_told)
