-- The rest of sorted entries, and those that a filter keeps.
use Rattle.std.proofs.Common.{◌≡◌, Bool, true, false, List, [], ◌∷◌, ◌++◌, ap, map, refl, sym}
use Rattle.std.proofs.Common.{Ordering, Less}
use Rattle.std.proofs.lemmas.Map.Keys.{sorted_head, sorted_tail}
use Rattle.std.specs.List.{AllByRecursion, filter}
use Rattle.std.specs.List.Sorted.{IsStrictlySortedBy}
use Rattle.std.specs.Map.{keys_of}
use Rattle.unix_bytes.proofs.lemmas.lists.ListLemmas.{by_test}

-- if P holds of all elements, and Q of each element of which P holds, Q holds of all elements
pub all_more : {A : Type 0} (P Q : A → Type 0) → ((x : A) → P x → Q x) → (xs : List A)
    → AllByRecursion P xs → AllByRecursion Q xs
all_more P Q holds [] all = tt
all_more P Q holds (x ∷ xs) all = (holds x all.0, all_more P Q holds xs all.1)

module _ {K V : Type 0} (P : K → Type 0) where
  -- if P holds of all keys, it holds of the keys of the rest
  pub all_rest : (before rest : List (K × V)) → AllByRecursion P (keys_of (before ++ rest))
      → AllByRecursion P (keys_of rest)
  all_rest [] rest all = all
  all_rest (e ∷ before) rest all = all_rest before rest all.1

module _ {K V : Type 0} (p : K → Bool) where
  -- if all keys pass the test, all entries stay
  pub filter_all : (es : List (K × V)) → AllByRecursion (λ k. p k ≡ true) (keys_of es)
      → filter (λ e. p e.0) es ≡ es
  filter_all [] all = refl
  filter_all (e ∷ es) all = rw all.0 (ap (λ l. e ∷ l) (filter_all es all.1))

  -- if P holds of each key that passes the test, it holds of the keys of the entries that stay
  pub kept_pass : (P : K → Type 0) → ((k : K) → p k ≡ true → P k) → (es : List (K × V))
      → AllByRecursion P (keys_of (filter (λ e. p e.0) es))
  kept_pass P holds [] = tt
  kept_pass P holds (e ∷ es) = by_test (p e.0)
      (λ is. rw is (holds e.0 is, kept_pass P holds es))
      (λ fails. rw fails (kept_pass P holds es))

module _ {K V : Type 0} (cmp : K → K → Ordering) where
  -- if entries are sorted, their rest is sorted
  pub sorted_rest : (before rest : List (K × V))
      → IsStrictlySortedBy cmp (keys_of (before ++ rest))
      → IsStrictlySortedBy cmp (keys_of rest)
  unfolding IsStrictlySortedBy
  sorted_rest [] rest sorted = sorted
  sorted_rest (e ∷ before) rest sorted = sorted_rest before rest sorted.1

module _ {A K : Type 0} (key : A → K) (keep : A → Bool) where
  -- if P holds of the keys of all elements, it holds of the keys of those that a filter keeps
  pub all_kept : (P : K → Type 0) → (xs : List A) → AllByRecursion P (map key xs)
      → AllByRecursion P (map key (filter keep xs))
  all_kept P [] all = tt
  all_kept P (x ∷ xs) all = by_test (keep x)
      (λ is. rw is (all.0, all_kept P xs all.1))
      (λ fails. rw fails (all_kept P xs all.1))

  -- if the keys are strictly increasing, so are the keys of the elements that a filter keeps
  pub sorted-filter : (cmp : K → K → Ordering) (xs : List A)
      → IsStrictlySortedBy cmp (map key xs) → IsStrictlySortedBy cmp (map key (filter keep xs))
  unfolding IsStrictlySortedBy
  sorted-filter cmp [] sorted = tt
  sorted-filter cmp (x ∷ xs) sorted = by_test (keep x)
      (λ is. rw is
      (all_kept (λ k. cmp (key x) k ≡ Less) xs sorted.0, sorted-filter cmp xs sorted.1))
      (λ fails. rw fails (sorted-filter cmp xs sorted.1))

module _ {K V : Type 0} (cmp : K → K → Ordering) (p : K → Bool)
    (goes_on : (k l : K) → p k ≡ true → cmp k l ≡ Less → p l ≡ true) where
  -- if p stays true of greater keys, and is true of the first key of sorted entries, it is true of
  -- all their keys
  pub all_from_first : (e : K × V) (es : List (K × V))
      → IsStrictlySortedBy cmp (keys_of (e ∷ es)) → p e.0 ≡ true
      → AllByRecursion (λ l. p l ≡ true) (keys_of (e ∷ es))
  all_from_first e es sorted is =
      (is, all_more _ _ (λ l. goes_on e.0 l is) (keys_of es) (sorted_head cmp e.0 _ sorted))

  -- if p stays true of greater keys, the entries whose keys pass p are the last ones of sorted
  -- entries
  pub suffix-filter : (es : List (K × V)) → IsStrictlySortedBy cmp (keys_of es)
      → (before : List (K × V)) × (es ≡ before ++ filter (λ e. p e.0) es)
  suffix-filter [] sorted = ([], refl)
  suffix-filter (e ∷ es) sorted = by_test (p e.0)
      (λ is. ([], sym (filter_all p (e ∷ es) (all_from_first e es sorted is))))
      (λ fails.
      let others = suffix-filter es (sorted_tail cmp e.0 _ sorted) in
      (e ∷ others.0, rw fails (ap (λ l. e ∷ l) others.1)))

  -- if p stays true of greater keys, and the key of e fails p, the filter keeps no entry that is
  -- before e in sorted entries
  pub filter-suffix : (before : List (K × V)) (e : K × V) (rest : List (K × V))
      → IsStrictlySortedBy cmp (keys_of (before ++ e ∷ rest)) → p e.0 ≡ false
      → filter (λ e. p e.0) (before ++ e ∷ rest) ≡ filter (λ e. p e.0) (e ∷ rest)
  filter-suffix [] e rest sorted fails = refl
  filter-suffix (f ∷ before) e rest sorted fails = by_test (p f.0)
      (λ is.
      let later = goes_on f.0 e.0 is
      (all_rest (λ l. cmp f.0 l ≡ Less) before (e ∷ rest) (sorted_head cmp f.0 _ sorted)).0 in
      absurd (cc))
      (λ other. rw other (filter-suffix before e rest (sorted_tail cmp f.0 _ sorted) fails))
