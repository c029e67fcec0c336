-- Sorted lists: one more element at the end, and two lists in which look-ups find the same.
use Rattle.std.proofs.Common.{◌≡◌, ◌∙◌, ℕ, cond, List, [], ◌∷◌, ◌++◌, Option, Some, None, ap}
use Rattle.std.proofs.Common.{ap₂, refl, sym, Ordering, Less, Equal, Greater, true}
use Rattle.std.proofs.lemmas.Cmp.{eq_by_cmp_equiv, nat_list_cmp_total, on_total, tied_itself}
use Rattle.std.proofs.lemmas.List.Elements.{All-cons, All-nil}
use Rattle.std.proofs.lemmas.Map.{lookup-none}
use Rattle.std.proofs.lemmas.Map.Entries.{lookup_head, none_below_head, none_past_head}
use Rattle.std.proofs.lemmas.Map.Keys.{IsDistinct-from_sorted, sorted_tail}
use Rattle.std.proofs.lemmas.Map.Lookups.{exact_bytes}
use Rattle.std.proofs.lemmas.Option.{same_Some}
use Rattle.std.specs.BTreeMap.{is_at}
use Rattle.std.specs.Cmp.{IsTotalOrder}
use Rattle.std.specs.List.Sorted.{IsStrictlySortedBy}
use Rattle.std.specs.Map.{keys_of, lookup}
use Rattle.std.specs.Ordering.{is_eq, ordering_reverse}
use Rattle.unix_bytes.proofs.lemmas.lists.ListLemmas.{by_test}
use Rattle.path_keys.specs.Ranges.{bytes_cmp}
use Rattle.unix_path.specs.Parts.{values}
use Rattle.unix_path.specs.declared.path.Path.{Path}
use Rattle.path_keys.specs.Keys.{key_of}
use Rattle.path_keys.specs.KeyValues.{is_own}
use Rattle.path_tree.specs.Entries.{key_entries}
use Rattle.path_tree.specs.Many.{entries_in}
use Rattle.path_tree.proofs.lemmas.keys.OwnLemmas.{Key, Own, items_of, keys_cmp}
use Rattle.path_tree.proofs.lemmas.keys.OwnLemmas.{own_first, own_others}
use Rattle.path_tree.proofs.lemmas.entries.WalkLemmas.{all_more}

module _ {K V : Type 0} (cmp : K → K → Ordering) (total : IsTotalOrder cmp) (k : K) (x : V) where
  -- if es is sorted, and its last key, if any, is less than k, then es with k appended is sorted
  pub sorted-more : (es : List (K × V)) → IsStrictlySortedBy cmp (keys_of es)
      → ((front : List (K × V)) (last : K × V) → es ≡ front ++ last ∷ [] → cmp last.0 k ≡ Less)
      → IsStrictlySortedBy cmp (keys_of (es ++ (k, x) ∷ []))
  unfolding IsStrictlySortedBy
  sorted-more [] sorted greater = (tt, tt)
  sorted-more (e ∷ []) sorted greater = ((greater [] e refl, tt), (tt, tt))
  sorted-more (e ∷ f ∷ es) sorted greater =
      let less = sorted.0.0 in
      let rest = sorted-more (f ∷ es) sorted.1
      (λ front last is. greater (e ∷ front) last (ap (λ l. e ∷ l) is)) in
      ((less, all_more _ _ (λ l. total.trans e.0 f.0 l less) _ rest.0), rest)

-- the order of keys by their bytes is total
pub cmp_total : IsTotalOrder (keys_cmp items_of)
cmp_total = on_total items_of nat_list_cmp_total

module _ {V : Type 0} where
  -- the value that looking up q finds
  abbrev pub finds_at : Key → List (Key × V) → Option V
  finds_at q es = lookup (is_at (keys_cmp items_of q)) es

  -- looking up the key of the first entry finds the value of this entry
  itself : (e : Key × V) (es : List (Key × V)) → finds_at e.0 (e ∷ es) ≡ Some e.1
  itself e es =
      lookup_head (is_at (keys_cmp items_of e.0)) e es (ap is_eq (tied_itself cmp_total e.0))

  -- if e is less than f, and f and fs are sorted, looking up e in e and es doesn't find the same as
  -- looking up e in f and fs
  not_after : (e f : Key × V) (es fs : List (Key × V))
      → IsStrictlySortedBy (keys_cmp items_of) (keys_of (f ∷ fs)) → keys_cmp items_of e.0 f.0 ≡ Less
      → finds_at e.0 (e ∷ es) ≡ finds_at e.0 (f ∷ fs) → ⊥
  not_after e f es fs sorted less same =
      let none = lookup-none _ (f ∷ fs) (none_below_head cmp_total e.0 f fs sorted less) in
      let d = sym (itself e es) ∙ same ∙ none in cc

  -- in the entries after the first one, looking up q finds nothing if q is equal to the first key,
  -- and otherwise what it finds in all of them
  finds_later : (q : Key) (e : Key × V) (es : List (Key × V))
      → IsStrictlySortedBy (keys_cmp items_of) (keys_of (e ∷ es))
      → finds_at q es ≡ cond (is_eq (keys_cmp items_of q e.0)) None (finds_at q (e ∷ es))
  finds_later q e es sorted = by_test (is_eq (keys_cmp items_of q e.0))
      (λ is. rw is (lookup-none _ es (none_past_head (eq_by_cmp_equiv cmp_total) q e es
      (IsDistinct-from_sorted _ _ sorted) is)))
      (λ other. rw other refl)

  -- if es and fs are sorted, and looking up each key finds the same in both, they have the same
  -- bytes and values
  pub same_entries : (es fs : List (Key × V))
      → IsStrictlySortedBy (keys_cmp items_of) (keys_of es)
      → IsStrictlySortedBy (keys_cmp items_of) (keys_of fs)
      → ((q : Key) → finds_at q es ≡ finds_at q fs) → key_entries es ≡ key_entries fs
  same_entries [] [] sorted other same = refl
  same_entries [] (f ∷ fs) sorted other same = absurd (let e = same f.0 ∙ itself f fs in cc)
  same_entries (e ∷ es) [] sorted other same = absurd (let d = sym (itself e es) ∙ same e.0 in cc)
  same_entries (e ∷ es) (f ∷ fs) sorted other same =
      elim (keys_cmp items_of e.0 f.0) as (λ o. keys_cmp items_of e.0 f.0 ≡ o
      → key_entries (e ∷ es) ≡ key_entries (f ∷ fs)) [
        | Less ↦ λ is. absurd (not_after e f es fs other is (same e.0))
        | Greater ↦ λ is. absurd (not_after f e fs es sorted
            (cmp_total.antisymm f.0 e.0 ∙ ap ordering_reverse is) (sym (same f.0)))
        | Equal ↦ λ is.
            let alike = exact_bytes e.0.items f.0.items is in
            let value = same_Some _ _
            (sym (itself e es) ∙ same e.0
            ∙ lookup_head (is_at (keys_cmp items_of e.0)) f fs (ap is_eq is)) in
            ap₂ (λ p ps. p ∷ ps) (ap₂ (λ b x. (b, x)) alike value)
            (same_entries es fs (sorted_tail _ e.0 _ sorted) (sorted_tail _ f.0 _ other)
            (λ q. finds_later q e es sorted
            ∙ ap₂ (λ b r. cond (is_eq (bytes_cmp q.items b)) None r) alike (same q)
            ∙ sym (finds_later q f fs other)))
      ] refl

-- if es and fs have the same bytes and values, and all keys of fs are keys of paths, all keys of es
-- are keys of paths
pub own-same : {V : Type 0} (es fs : List (Key × V)) → key_entries es ≡ key_entries fs
    → Own items_of fs → Own items_of es
own-same [] fs same own = All-nil _
own-same (e ∷ es) [] same own = absurd (let d = same in cc)
own-same {V} (e ∷ es) (f ∷ fs) same own =
    let first : ◌≡◌ {A = List ℕ × V} (e.0.items, e.1) (f.0.items, f.1) = cc in
    let others : key_entries es ≡ key_entries fs = cc in
    All-cons (λ k. is_own k.items ≡ true) e.0 (keys_of es)
    (ap (λ p. is_own p.0) first ∙ own_first items_of f fs own)
    (own-same es fs others (own_others items_of f fs own))

-- if some entries are those of `items`, the last entry has the key of the last item's path
pub last_entry : {V : Type 0} (front : List (Key × V)) (last : Key × V) (items : List (Path × V))
    → key_entries (front ++ last ∷ []) ≡ entries_in items
    → (others : List (Path × V)) × ((item : Path × V) × ((items ≡ others ++ item ∷ [])
    × (last.0.items ≡ key_of (values item.0.bytes.now))))
last_entry [] last [] same = absurd (let e = same in cc)
last_entry {V} [] last (item ∷ []) same =
    let first : ◌≡◌ {A = List ℕ × V} (last.0.items, last.1)
    (key_of (values item.0.bytes.now), item.1) = cc in
    ([], (item, (refl, ap (λ e. e.0) first)))
last_entry [] last (item ∷ other ∷ items) same = absurd (let e = same in cc)
last_entry (e ∷ front) last [] same = absurd (let d = same in cc)
last_entry (e ∷ front) last (item ∷ items) same =
    let others : key_entries (front ++ last ∷ []) ≡ entries_in items = cc in
    let rest = last_entry front last items others in
    (item ∷ rest.0, (rest.1.0, (ap (λ l. item ∷ l) rest.1.1.0, rest.1.1.1)))
