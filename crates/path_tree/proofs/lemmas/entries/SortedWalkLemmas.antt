-- Entries that are listed for items whose paths are strictly increasing, and the map that is made
-- of these entries.
use Rattle.std.proofs.Common.{◌≡◌, ◌∙◌, Bool, true, false, List, [], ◌∷◌, ◌++◌, ap, ap₂}
use Rattle.std.proofs.Common.{refl, subst, sym, Option, Some, Ordering, Less}
use Rattle.std.proofs.lemmas.Cmp.{eq_by_cmp_equiv}
use Rattle.std.proofs.lemmas.List.{map_push}
use Rattle.std.proofs.lemmas.List.Elements.{All-cons, All-nil}
use Rattle.std.proofs.lemmas.Map.Keys.{IsDistinct-from_sorted}
use Rattle.std.proofs.lemmas.Map.Made.{update_all_none}
use Rattle.std.specs.BTreeMap.{BTreeMap, IsFromIterResult}
use Rattle.unix_bytes.proofs.lemmas.lists.ListLemmas.{Empty, Push, Snoc, snoc}
use Rattle.std.specs.Iterator.{YieldsThen}
use Rattle.std.specs.List.Sorted.{IsStrictlySortedBy}
use Rattle.std.specs.Map.{keys_of}
use Rattle.std.specs.Ordering.{eq_by_cmp, is_lt}
use Rattle.unix_path.specs.Parts.{values}
use Rattle.unix_path.specs.declared.path.Path.{Path}
use Rattle.path_keys.specs.Keys.{key_of}
use Rattle.path_keys.specs.KeyValues.{is_own}
use Rattle.path_keys.specs.Ranges.{bytes_cmp}
use Rattle.path_tree.specs.Entries.{key_entries}
use Rattle.path_tree.specs.Many.{entries_in}
use Rattle.path_tree.specs.Sorted.{StopsRising}
use Rattle.path_tree.proofs.lemmas.keys.OwnLemmas.{Key, Own, items_of, keys_cmp}
use Rattle.path_tree.proofs.lemmas.keys.OwnLemmas.{own_first, own_others}
use Rattle.path_tree.proofs.lemmas.entries.EntryLemmas.{sorted-key_entries}
use Rattle.path_tree.proofs.lemmas.entries.SortedLemmas.{cmp_total, last_entry, own-same}
use Rattle.path_tree.proofs.lemmas.entries.SortedLemmas.{same_entries, sorted-more}

-- all keys of the entries are keys of paths, and strictly increasing, and the entries are those of
-- the items
pub record Listed {V : Type 0} (entries : List (Key × V)) (items : List (Path × V)) : Type 0 where
  pub own : Own items_of entries
  pub sorted : IsStrictlySortedBy (keys_cmp items_of) (keys_of entries)
  pub listed : key_entries entries ≡ entries_in items

-- no entries are listed for no items
pub listed_none : {V : Type 0} → Listed {V = V} [] []
unfolding IsStrictlySortedBy
listed_none = record { own = All-nil _; sorted = tt; listed = refl }

-- if the test `is_lt` is true of an order, the order is `Less`
pub less_is : (o : Ordering) → is_lt o ≡ true → o ≡ Less
less_is Less is = refl
less_is o is = absurd (cc)

-- if k and all keys of es are keys of paths, so are all keys of es with k appended
pub own_put : {V : Type 0} (k : Key) (x : V) → is_own k.items ≡ true → (es : List (Key × V))
    → Own items_of es → Own items_of (es ++ (k, x) ∷ [])
own_put k x own [] all = All-cons (λ k. is_own k.items ≡ true) k [] own (All-nil _)
own_put k x own (e ∷ es) all =
    All-cons (λ k. is_own k.items ≡ true) e.0 (keys_of (es ++ (k, x) ∷ []))
    (own_first items_of e es all) (own_put k x own es (own_others items_of e es all))

module _ {V : Type 0} (entries : List (Key × V)) (items : List (Path × V))
    (h : Listed entries items) (k : Key) (path : Path) (own : is_own k.items ≡ true)
    (is_key : k.items ≡ key_of (values path.bytes.now)) where
  -- if `entries` are listed for `items`, and k, the key of `path`, is greater than the last key of
  -- the entries, if any, then the entries and k are listed for the items and `path`
  pub listed_more : (x : V)
      → ((front : List (Key × V)) (last : Key × V) → entries ≡ front ++ last ∷ []
      → is_lt (bytes_cmp last.0.items k.items) ≡ true)
      → Listed (entries ++ (k, x) ∷ []) (items ++ (path, x) ∷ [])
  listed_more x greater = record {
    own = own_put k x own entries h.own;
    sorted = sorted-more (keys_cmp items_of) cmp_total k x entries
        h.sorted (λ front last is. less_is _ (greater front last is));
    listed = map_push (λ e. (e.0.items, e.1)) entries (k, x)
        ∙ ap₂ (λ l b. l ++ (b, x) ∷ []) h.listed is_key
        ∙ sym (map_push (λ item. (key_of (values item.0.bytes.now), item.1)) items (path, x));
  }

  -- if `entries` are listed for `items`, the next item has the path `path`, and its key k isn't
  -- greater than the last key of the entries, the paths of the iterator's items stop rising there
  pub stops : {S : Type 0} (steps : S → Option (Path × V) → S
      → Type 0) (all : S) (x : V) (after : S)
      → YieldsThen steps all items (Some (path, x)) after → (t : Bool) → t ≡ false
      → (entries ≡ [] → t ≡ true)
      → ((front : List (Key × V)) (last : Key × V) → entries ≡ front ++ last ∷ []
      → t ≡ is_lt (bytes_cmp last.0.items k.items))
      → StopsRising steps all
  stops steps all x after before t fails first others = by (snoc entries)
    where
      by : Snoc entries → StopsRising steps all
      by (Empty none) = absurd (let e = sym fails ∙ first none in cc)
      by (Push front last last_is) =
          let entry = last_entry front last items (ap key_entries (sym last_is) ∙ h.listed) in
          let known = entry.0 in
          let item = entry.1.0 in
          let is : items ≡ known ++ item ∷ [] = entry.1.1.0 in
          record {
            yielded = known;
            last = item;
            next = (path, x);
            after = after;
            items_before = subst (λ l. YieldsThen steps all l (Some (path, x)) after) is before;
            rise = subst (λ l. IsStrictlySortedBy bytes_cmp (keys_of l))
                (h.listed ∙ ap entries_in is)
                (sorted-key_entries entries h.sorted);
            falls = λ less.
                let compared : bytes_cmp last.0.items k.items ≡ Less =
                ap₂ bytes_cmp entry.1.1.1 is_key ∙ less in
                let e = sym fails ∙ others front last last_is ∙ ap is_lt compared in cc;
          }

module _ {V : Type 0} (entries : List (Key × V)) (items : List (Path × V))
    (h : Listed entries items) where
  -- if entries are listed for the items, the paths of the items are strictly increasing
  pub rise : IsStrictlySortedBy bytes_cmp (keys_of (entries_in items))
  rise = subst (λ l. IsStrictlySortedBy bytes_cmp (keys_of l)) h.listed
      (sorted-key_entries entries h.sorted)

  -- a map that is made of the listed entries
  module _ (made : BTreeMap Key V) (is : IsFromIterResult (keys_cmp items_of) entries made) where
    -- the map that is made of the entries has the same bytes and values as the entries
    same : key_entries made.entries ≡ key_entries entries
    same =
        let cmp = keys_cmp items_of in
        same_entries made.entries entries is.1 h.sorted (λ q. is.0 q
        ∙ update_all_none (eq_by_cmp_equiv cmp_total) (eq_by_cmp cmp) (λ x y. refl) entries q
        (IsDistinct-from_sorted cmp (keys_of entries) h.sorted))

    -- all keys of the map that is made of the entries are keys of paths
    pub made_own : Own items_of made.entries
    made_own = own-same made.entries entries same h.own

    -- the map that is made of the entries has the entries of the items
    pub made_entries : key_entries made.entries ≡ entries_in items
    made_entries = same ∙ h.listed
