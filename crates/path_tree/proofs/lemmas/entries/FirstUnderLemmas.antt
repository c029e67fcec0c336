-- The first entry that is not less than a base: if it isn't under the base, no entry is.
use Rattle.std.proofs.Common.{arith}
use Rattle.std.proofs.Common.{◌≡◌, ◌∙◌, ◌&&◌, ℕ, Bool, true, false, cond, eqb, List, [], ◌∷◌, ◌++◌}
use Rattle.std.proofs.Common.{Less, ap, is_le, refl, subst, sym}
use Rattle.std.proofs.Math.Bool.{and-true}
use Rattle.std.proofs.lemmas.List.Elements.{filter_agree}
use Rattle.std.proofs.lemmas.Map.Keys.{sorted_head}
use Rattle.std.specs.List.{AllByRecursion, filter, starts_with}
use Rattle.std.specs.List.Sorted.{IsStrictlySortedBy}
use Rattle.std.specs.Map.{keys_of}
use Rattle.unix_bytes.proofs.lemmas.lists.ListLemmas.{by_test}
use Rattle.path_keys.specs.Ranges.{bytes_cmp}
use Rattle.path_keys.proofs.lemmas.values.BeginLemmas.{begins_told}
use Rattle.path_keys.proofs.lemmas.values.RangeLemmas.{begins-lies_under}
use Rattle.path_tree.specs.Entries.{entries_under, key_entries}
use Rattle.path_tree.proofs.lemmas.keys.IntervalLemmas.{interval, le_less}
use Rattle.path_tree.proofs.lemmas.keys.OwnLemmas.{Key, items_of, keys_cmp}
use Rattle.path_tree.proofs.lemmas.entries.WalkLemmas.{kept_pass}
use Rattle.path_tree.proofs.lemmas.entries.WalkLemmas.{sorted_rest, suffix-filter}

-- the key is not less than base
abbrev is_from : List ℕ → Key → Bool
is_from base k = is_le (bytes_cmp base k.items)

-- bytes that are less than base don't start with it
less_apart : (base key : List ℕ) → is_le (bytes_cmp base key) ≡ false
    → starts_with eqb key base ≡ false
less_apart base key less = grind (arith, begins-lies_under, begins_told)

module _ {V : Type 0} (base : List ℕ) where
  -- the entries under base are the same if the entries that are less than base are left out
  under-from : (es : List (Key × V))
      → entries_under base (key_entries (filter (λ e. is_from base e.0) es))
      ≡ entries_under base (key_entries es)
  under-from [] = refl
  under-from (e ∷ es) = by_test (is_from base e.0)
      (λ is. rw is (ap (λ l. cond (starts_with eqb e.0.items base) ((e.0.items, e.1) ∷ l) l)
      (under-from es)))
      (λ less. rw (less, less_apart base e.0.items less) (under-from es))

  -- if k is not less than base and doesn't start with it, and all keys of es are greater than k, no
  -- key of es starts with base
  none_after : (k : Key) → is_from base k ≡ true → starts_with eqb k.items base ≡ false
      → (es : List (Key × V)) → AllByRecursion (λ l. keys_cmp items_of k l ≡ Less) (keys_of es)
      → entries_under base (key_entries es) ≡ []
  none_after k from other [] less = refl
  none_after k from other (e ∷ es) less = by_test (starts_with eqb e.0.items base)
      (λ starts. let too = interval base k.items e.0.items from less.0 starts in absurd (cc))
      (λ no. rw no (none_after k from other es less.1))

  module _ (entries : List (Key × V))
      (sorted : IsStrictlySortedBy (keys_cmp items_of) (keys_of entries)) (rest : List (Key × V))
      (is : rest ≡ filter (λ e. is_from base e.0 && true) entries) where
    -- `rest` is the entries whose keys are not less than base
    rest_is : rest ≡ filter (λ e. is_from base e.0) entries
    rest_is =
        is ∙ filter_agree _ (λ e. is_from base e.0) (λ e. and-true (is_from base e.0)) entries

    -- `rest` has all entries under base
    pub under-rest : entries_under base (key_entries rest)
        ≡ entries_under base (key_entries entries)
    under-rest = ap (λ l. entries_under base (key_entries l)) rest_is ∙ under-from entries

    module _ (e : Key × V) (es : List (Key × V)) (first : rest ≡ e ∷ es) where
      -- if e, the first entry of `rest`, is under base, there are entries under base
      pub some_under : starts_with eqb e.0.items base ≡ true
          → entries_under base (key_entries entries) ≡ [] → ⊥
      some_under starts none = grind (arith, under-rest)

      -- if e, the first entry of `rest`, is not under base, no entry is under base
      pub none_under_first : starts_with eqb e.0.items base ≡ false
          → entries_under base (key_entries entries) ≡ []
      none_under_first other =
          let cut = suffix-filter (keys_cmp items_of) (is_from base)
          (λ k l from less. ap is_le (le_less base k.items l.items from less)) entries sorted in
          let tail : entries ≡ cut.0 ++ (e ∷ es) =
          cut.1 ∙ ap (λ l. cut.0 ++ l) (sym rest_is ∙ first) in
          let up = sorted_rest (keys_cmp items_of) cut.0 (e ∷ es)
          (subst (λ l. IsStrictlySortedBy (keys_cmp items_of) (keys_of l)) tail sorted) in
          let all : AllByRecursion (λ k. is_from base k ≡ true) (keys_of (e ∷ es)) =
          subst (λ l. AllByRecursion (λ k. is_from base k ≡ true) (keys_of l)) (sym rest_is ∙ first)
          (kept_pass (is_from base) (λ k. is_from base k ≡ true) (λ k h. h) entries) in
          sym under-rest ∙ ap (λ l. entries_under base (key_entries l)) first
          ∙ rw other (none_after e.0 all.0 other es (sorted_head (keys_cmp items_of) e.0 _ up))
