-- The children of a base, found in a walk that continues after the range of each child.
use Rattle.std.proofs.Common.{arith}
use Rattle.std.proofs.Common.{◌≡◌, ◌∙◌, ℕ, Bool, true, false, cond, eqb, List, [], ◌∷◌}
use Rattle.std.proofs.Common.{Some, None, Option, Less, map}
use Rattle.std.proofs.Common.{ap, refl, sym, is_le}
use Rattle.std.proofs.lemmas.Cmp.{tied_itself}
use Rattle.std.proofs.lemmas.Map.Keys.{sorted_head, sorted_tail}
use Rattle.std.specs.Cmp.Lexicographic.{nat_list_cmp_total}
use Rattle.std.specs.List.{AllByRecursion, dedup_from, filter, starts_with}
use Rattle.std.specs.List.Sorted.{IsStrictlySortedBy}
use Rattle.std.specs.Map.{keys_of}
use Rattle.std.specs.Ordering.{is_eq}
use Rattle.unix_bytes.proofs.lemmas.lists.ListLemmas.{by_test}
use Rattle.path_keys.specs.Ranges.{bytes_cmp, end_of}
use Rattle.path_keys.proofs.lemmas.values.BeginLemmas.{begins_told}
use Rattle.path_tree.specs.Children.{child_entry, child_of, children_of, have_same_key, is_below}
use Rattle.path_tree.specs.Entries.{key_entries}
use Rattle.path_tree.proofs.lemmas.keys.ChildKeyLemmas.{ChildKey}
use Rattle.path_tree.proofs.lemmas.keys.IntervalLemmas.{interval, le_less}
use Rattle.path_tree.proofs.lemmas.keys.OwnLemmas.{Key, items_of, keys_cmp}
use Rattle.path_tree.proofs.lemmas.entries.EntryLemmas.{between-starts}
use Rattle.path_tree.proofs.lemmas.entries.WalkLemmas.{all_from_first, filter_all}

-- the key starts with the child that was found last, if one was found
abbrev pub goes_on_in : List ℕ → Option (List ℕ) → List ℕ → Bool
goes_on_in base None key = false
goes_on_in base (Some c) key = is_eq (bytes_cmp c (child_of base key))

module _ {V : Type 0} (base : List ℕ) where
  -- the children of entries, except the child that was found last
  unfoldable pub fresh : Option (List ℕ) → List (List ℕ × V) → List (List ℕ × Option V)
  fresh last [] = []
  fresh last (e ∷ es) =
      cond (is_below base e.0)
      (cond (goes_on_in base last e.0) (fresh last es)
      (child_entry base e ∷ fresh (Some (child_of base e.0)) es))
      (fresh last es)

  -- after a child, `dedup` leaves that child and the fresh children of the later entries
  dedup_from-fresh : (k : List ℕ × Option V) (es : List (List ℕ × V))
      → dedup_from have_same_key k
      (map (child_entry base) (filter (λ e. is_below base e.0) es))
      ≡ k ∷ fresh (Some k.0) es
  unfolding fresh
  dedup_from-fresh k [] = refl
  dedup_from-fresh k (e ∷ es) = by_test (is_below base e.0)
      (λ below. by_test (goes_on_in base (Some k.0) e.0)
      (λ same. rw (below, same) (dedup_from-fresh k es))
      (λ other. rw (below, other)
      (ap (λ l. k ∷ l) (dedup_from-fresh (child_entry base e) es))))
      (λ above. rw above (dedup_from-fresh k es))

  -- before a child is found all children are fresh
  pub children-fresh : (es : List (List ℕ × V)) → fresh None es ≡ children_of base es
  unfolding fresh
  children-fresh [] = refl
  children-fresh (e ∷ es) = by_test (is_below base e.0)
      (λ below. rw below (sym (dedup_from-fresh (child_entry base e) es)))
      (λ above. rw above (children-fresh es))

  -- an entry of the child that was found last adds no child
  pub same_child : (c : List ℕ) (e : List ℕ × V) → child_of base e.0 ≡ c
      → (es : List (List ℕ × V)) → fresh (Some c) (e ∷ es) ≡ fresh (Some c) es
  unfolding fresh
  same_child c e is es =
      let same : goes_on_in base (Some c) e.0 ≡ true =
      ap (λ k. is_eq (bytes_cmp c k)) is ∙ ap is_eq (tied_itself nat_list_cmp_total c) in
      by_test (is_below base e.0) (λ below. rw (below, same) refl) (λ above. rw above refl)

  -- an entry below base that is not of that child adds its child
  pub new_child : (last : Option (List ℕ)) (e : List ℕ × V)
      → is_below base e.0 ≡ true → goes_on_in base last e.0 ≡ false
      → (es : List (List ℕ × V)) → fresh last (e ∷ es)
      ≡ child_entry base e ∷ fresh (Some (child_of base e.0)) es
  unfolding fresh
  new_child last e below other es = rw (below, other) refl

-- a key that starts with a child's key has that child
pub child-begun : (base c key : List ℕ) → ChildKey base c → starts_with eqb key c ≡ true
    → child_of base key ≡ c
child-begun base c key child starts = grind (arith, begins_told)

-- the key is not less than the end of a range, and so is after the range
abbrev pub is_after : List ℕ → Key → Bool
is_after end k = is_le (bytes_cmp end k.items)

-- what follows a key after a range is after the range too
pub stays_after : (end : List ℕ) (k l : Key) → is_after end k ≡ true
    → keys_cmp items_of k l ≡ Less → is_after end l ≡ true
stays_after end k l is less = ap is_le (le_less end k.items l.items is less)

module _ {V : Type 0} where
  -- entries of the child that was found last may be passed over
  pub pass_child : (base c end : List ℕ) → ChildKey base c → end_of c ≡ Some end
      → (es : List (Key × V)) → IsStrictlySortedBy (keys_cmp items_of) (keys_of es)
      → AllByRecursion (λ k. is_le (bytes_cmp c k.items) ≡ true) (keys_of es)
      → fresh base (Some c) (key_entries es)
      ≡ fresh base (Some c) (key_entries (filter (λ e. is_after end e.0) es))
  pass_child base c end child ends [] sorted from = refl
  pass_child base c end child ends (e ∷ es) sorted from = by_test (is_after end e.0)
      (λ is. ap (λ l. fresh base (Some c) (key_entries l))
      (sym (filter_all (is_after end) (e ∷ es)
      (all_from_first (keys_cmp items_of) (is_after end) (stays_after end) e es sorted is))))
      (λ other.
      let starts : starts_with eqb e.0.items c ≡ true =
      sym (between-starts c end e.0.items ends) ∙ rw (from.0, other) refl in
      same_child base c (e.0.items, e.1) (child-begun base c e.0.items child starts)
      (key_entries es)
      ∙ pass_child base c end child ends es
      (sorted_tail (keys_cmp items_of) e.0 _ sorted) from.1
      ∙ ap (λ b. fresh base (Some c) (key_entries
      (cond b (e ∷ filter (λ e. is_after end e.0) es) (filter (λ e. is_after end e.0) es))))
      (sym other))

  -- keys after a key that doesn't start with base don't start with it either
  none_under : (base : List ℕ) (k : Key) → is_le (bytes_cmp base k.items) ≡ true
      → starts_with eqb k.items base ≡ false → (es : List (Key × V))
      → AllByRecursion (λ l. keys_cmp items_of k l ≡ Less) (keys_of es)
      → (last : Option (List ℕ)) → fresh base last (key_entries es) ≡ []
  unfolding fresh
  none_under base k from other [] less last = refl
  none_under base k from other (e ∷ es) less last = by_test (starts_with eqb e.0.items base)
      (λ starts. let too = interval base k.items e.0.items from less.0 starts in absurd (cc))
      (λ no. rw no (none_under base k from other es less.1 last))

  -- if the first key doesn't start with base, there are no more children
  pub none_more : (base : List ℕ) (e : Key × V) (es : List (Key × V))
      → IsStrictlySortedBy (keys_cmp items_of) (keys_of (e ∷ es))
      → bytes_cmp base e.0.items ≡ Less → starts_with eqb e.0.items base ≡ false
      → (last : Option (List ℕ)) → fresh base last (key_entries (e ∷ es)) ≡ []
  unfolding fresh
  none_more base e es sorted less other last =
      rw other (none_under base e.0 (ap is_le less) other es
      (sorted_head (keys_cmp items_of) e.0 _ sorted) last)
