-- A walk over sorted entries that finds increasing keys: an entry that it passes has no later key.
use Rattle.std.proofs.Common.{arith}
use Rattle.std.proofs.Common.{◌≡◌, ◌∙◌, ℕ, cond, List, [], ◌∷◌, Option, Some, None, true, false, ap}
use Rattle.std.proofs.Common.{refl, sym, is_gt, Ordering, Less, Equal, Greater}
use Rattle.std.proofs.lemmas.Cmp.{alike_right, nat_list_cmp_total, tied_back, tied_itself}
use Rattle.std.proofs.lemmas.Map.{lookup-none}
use Rattle.std.proofs.lemmas.Map.Entries.{none_below_head}
use Rattle.std.proofs.lemmas.Map.Keys.{sorted_tail}
use Rattle.std.specs.Borrow.{Bor}
use Rattle.std.specs.List.Sorted.{IsStrictlySortedBy}
use Rattle.std.specs.Map.{keys_of}
use Rattle.std.specs.Map.Iter.{TakesFirst, deref_pair}
use Rattle.std.specs.Ordering.{is_eq, ordering_reverse}
use Rattle.path_keys.specs.Ranges.{bytes_cmp}
use Rattle.path_tree.specs.Entries.{entries_from, entry_at}
use Rattle.path_tree.proofs.lemmas.keys.OwnLemmas.{Key, items_of, keys_cmp}

-- `now` and `old` have the same value at each key that is not less than `key`
abbrev pub FindsSame : {V : Type 0} → List ℕ → List (List ℕ × V) → List (List ℕ × V) → Type 0
FindsSame key old now =
    (q : List ℕ) → is_gt (bytes_cmp key q) ≡ false → entry_at q now ≡ entry_at q old

-- if taking the first entry of `old` returns `next` and leaves `new`, then `old` is `next`, if any,
-- and then `new`
pub entries_from-next : {V : Type 0} (next : Option (Bor Key × Bor V)) (old new : List (Key × V))
    → TakesFirst deref_pair old next new → entries_from next new ≡ old
entries_from-next None old new takes = sym takes.0
entries_from-next (Some first) old new takes = sym takes

-- if a walk is at the entry `is`, and taking the first entry of `rest` returns `next` and leaves
-- `new`, then the entries from there on are `is`, then `next`, if any, and then `new`
pub entries_from-step : {V : Type 0} (first : Option (Bor Key × Bor V)) (rest : List (Key × V))
    (is : Bor Key × Bor V) (next : Option (Bor Key × Bor V)) (new : List (Key × V))
    → first ≡ Some is → TakesFirst deref_pair rest next new
    → entries_from first rest ≡ (is.0.now, is.1.now) ∷ entries_from next new
entries_from-step first rest is next new first_is takes = grind (arith, entries_from-next)

-- if e is less than `key`, and q is not less than `key`, then e is less than q
less_later : (e key q : List ℕ) → bytes_cmp e key ≡ Less → is_gt (bytes_cmp key q) ≡ false
    → bytes_cmp e q ≡ Less
less_later e key q less later = by (bytes_cmp key q) refl
  where
    by : (o : Ordering) → bytes_cmp key q ≡ o → bytes_cmp e q ≡ Less
    by Less is = nat_list_cmp_total.trans e key q less is
    by Equal is = sym (alike_right nat_list_cmp_total key q e is) ∙ less
    by Greater is = absurd (let h = sym later ∙ ap is_gt is in cc)

module _ {V : Type 0} (e : List ℕ × V) (es : List (List ℕ × V)) (key : List ℕ) where
  -- if the key of e is less than `key`, putting e before es doesn't change the value at `key`
  passed : bytes_cmp e.0 key ≡ Less → entry_at key (e ∷ es) ≡ entry_at key es
  passed less = ap (λ o. cond (is_eq o) (Some e.1) (entry_at key es))
      (nat_list_cmp_total.antisymm key e.0 ∙ ap ordering_reverse less)

  -- if the key of e is equal to `key`, e and es have the value of e at `key`
  found : bytes_cmp e.0 key ≡ Equal → entry_at key (e ∷ es) ≡ Some e.1
  found tied = ap (λ o. cond (is_eq o) (Some e.1) (entry_at key es))
      (tied_back nat_list_cmp_total e.0 key tied)

  -- if the entries are sorted, and the key of the first one is greater than `key`, they have no
  -- value at `key`
  none_found : IsStrictlySortedBy bytes_cmp (keys_of (e ∷ es)) → bytes_cmp e.0 key ≡ Greater
      → entry_at key (e ∷ es) ≡ None
  none_found sorted greater =
      let less = nat_list_cmp_total.antisymm key e.0 ∙ ap ordering_reverse greater in
      lookup-none _ (e ∷ es) (none_below_head nat_list_cmp_total key e es sorted less)

module _ {V : Type 0} (key : List ℕ) (old : List (List ℕ × V)) (e : List ℕ × V)
    (es : List (List ℕ × V)) (h : FindsSame key old (e ∷ es)) where
  -- if the key of e is less than `key`, leaving e out changes no value at a key that is not less
  -- than `key`
  pub same_more : bytes_cmp e.0 key ≡ Less → FindsSame key old es
  same_more less q later = sym (passed e es q (less_later e.0 key q less later)) ∙ h q later

module _ {V : Type 0} (key : List ℕ) (old now : List (List ℕ × V)) (h : FindsSame key old now) where
  -- the value that the remaining entries have at `key` is the value that all entries have there
  value_is : (o : Option V) → entry_at key now ≡ o → o ≡ entry_at key old
  value_is o is = sym is ∙ h key (ap is_gt (tied_itself nat_list_cmp_total key))

  -- if the first remaining entry has the key `key`, its value is the value that all entries have
  -- there
  pub value_first : (e : List ℕ × V) (es : List (List ℕ × V)) → now ≡ e ∷ es
      → bytes_cmp e.0 key ≡ Equal → Some e.1 ≡ entry_at key old
  value_first e es is tied =
      value_is (Some e.1) (ap (entry_at key) is ∙ found e es key tied)

  -- if the key of the first remaining entry is greater than `key`, there is no value at `key`
  pub value_passed : (e : List ℕ × V) (es : List (List ℕ × V)) → now ≡ e ∷ es
      → IsStrictlySortedBy bytes_cmp (keys_of (e ∷ es)) → bytes_cmp e.0 key ≡ Greater
      → None ≡ entry_at key old
  value_passed e es is sorted greater =
      value_is None (ap (entry_at key) is ∙ none_found e es key sorted greater)

  -- if no entry remains, there is no value at `key`
  pub value_at_end : now ≡ [] → None ≡ entry_at key old
  value_at_end is = value_is None (ap (entry_at key) is)

  -- if the first remaining entry has the key `key`, the entries after it have, at each key that is
  -- greater than `key`, the value that all entries have
  pub greater_rest : (e : List ℕ × V) (es : List (List ℕ × V)) → now ≡ e ∷ es
      → bytes_cmp e.0 key ≡ Equal → (q : List ℕ) → bytes_cmp key q ≡ Less
      → entry_at q es ≡ entry_at q old
  greater_rest e es is tied q less = grind (arith, passed, nat_list_cmp_total)

-- if the sorted entries `now` are e and then es, es is sorted
pub sorted_rest_from : {V : Type 0} (now : List (Key × V)) (e : Key × V) (es : List (Key × V))
    → now ≡ e ∷ es → IsStrictlySortedBy (keys_cmp items_of) (keys_of now)
    → IsStrictlySortedBy (keys_cmp items_of) (keys_of es)
sorted_rest_from now e es is sorted = grind (arith, sorted_tail)

-- if the test `is_gt` is true of an order, the order is `Greater`
pub greater_is : (o : Ordering) → is_gt o ≡ true → o ≡ Greater
greater_is Greater is = refl
greater_is o is = absurd (cc)

-- if the test `is_eq` is true of an order, the order is `Equal`
pub equal_is : (o : Ordering) → is_eq o ≡ true → o ≡ Equal
equal_is Equal is = refl
equal_is o is = absurd (cc)

-- if the tests `is_gt` and `is_eq` are both false of an order, the order is `Less`
pub less_is : (o : Ordering) → is_gt o ≡ false → is_eq o ≡ false → o ≡ Less
less_is Less up other = refl
less_is o up other = absurd (cc)
