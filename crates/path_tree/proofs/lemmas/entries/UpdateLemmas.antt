-- What a key finds, removes, inserts or changes in the entries of a map, its bytes find, remove,
-- insert or change in these entries by the bytes of their keys.
use Rattle.std.proofs.Common.{◌≡◌, ℕ, cond, List, [], ◌∷◌, Some, refl, ap, true}
use Rattle.std.proofs.Common.{Less, Equal, Greater}
use Rattle.std.proofs.lemmas.Map.Lookups.{exact_bytes}
use Rattle.std.proofs.lemmas.Map.Views.{tells_apart}
use Rattle.std.specs.BTreeMap.{insert_entry, is_at}
use Rattle.std.specs.Map.{lookup, remove_entry, set_value}
use Rattle.std.specs.Ordering.{is_eq, match_ordering}
use Rattle.unix_bytes.proofs.lemmas.lists.ListLemmas.{by_test}
use Rattle.path_keys.specs.Ranges.{bytes_cmp}
use Rattle.path_tree.specs.Entries.{entry_at, key_entries}
use Rattle.path_tree.proofs.lemmas.keys.OwnLemmas.{Key, is_it, items_of, keys_cmp}

-- only the same bytes compare as equal
pub bytes_exact : (k l : List ℕ) → is_eq (bytes_cmp k l) ≡ true → k ≡ l
bytes_exact = tells_apart exact_bytes

module _ {V : Type 0} (key : List ℕ) where
  -- looking up the bytes `key` in the entries finds the value that the entries have at these bytes
  pub entry_at-lookup : (es : List (Key × V))
      → lookup (is_it items_of key) es ≡ entry_at key (key_entries es)
  entry_at-lookup [] = refl
  entry_at-lookup (e ∷ es) = ap (cond (is_it items_of key e.0) (Some e.1)) (entry_at-lookup es)

  -- removing the bytes `key` from the entries removes them by bytes
  pub remove-key_entries : (es : List (Key × V))
      → key_entries (remove_entry (is_it items_of key) es)
      ≡ remove_entry (is_at (bytes_cmp key)) (key_entries es)
  remove-key_entries [] = refl
  remove-key_entries (e ∷ es) = by_test (is_it items_of key e.0)
      (λ is. rw is refl)
      (λ other. rw other (ap (λ l. (e.0.items, e.1) ∷ l) (remove-key_entries es)))

  -- writing the value x at the bytes `key` in the entries writes it by bytes
  pub set_value-key_entries : (es : List (Key × V)) (x : V)
      → key_entries (set_value (is_it items_of key) es x)
      ≡ set_value (is_at (bytes_cmp key)) (key_entries es) x
  set_value-key_entries [] x = refl
  set_value-key_entries (e ∷ es) x = by_test (is_it items_of key e.0)
      (λ is. rw is refl)
      (λ other. rw other (ap (λ l. (e.0.items, e.1) ∷ l) (set_value-key_entries es x)))

module _ {V : Type 0} (key : Key) (x : V) where
  -- inserting x at the key into the entries inserts it by bytes
  pub insert-key_entries : (es : List (Key × V))
      → key_entries (insert_entry (keys_cmp items_of) es key x)
      ≡ insert_entry bytes_cmp (key_entries es) key.items x
  insert-key_entries [] = refl
  insert-key_entries (e ∷ es) =
      let first : List ℕ × V = (e.0.items, e.1) in
      let put = insert_entry (keys_cmp items_of) es key x in
      elim (bytes_cmp key.items e.0.items) as (λ o.
      key_entries (match_ordering o ((key, x) ∷ e ∷ es) ((e.0, x) ∷ es) (e ∷ put))
      ≡ match_ordering o ((key.items, x) ∷ first ∷ key_entries es)
      ((first.0, x) ∷ key_entries es)
      (first ∷ insert_entry bytes_cmp (key_entries es) key.items x)) [
        | Less ↦ refl
        | Equal ↦ refl
        | Greater ↦ ap (λ l. first ∷ l) (insert-key_entries es)
      ]
