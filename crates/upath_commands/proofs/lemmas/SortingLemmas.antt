-- Sorted lists.
use Rattle.std.proofs.Common.{◌≡◌, ℕ, ◌+◌, ◌<◌, Bool, true, false, not, ◌&&◌, List, [], ◌∷◌, ◌++◌}
use Rattle.std.proofs.Common.{length, get_or, map, refl, sym, ap, ap₂, subst, ◌∙◌, cond, arith}
use Rattle.std.proofs.Common.{true≢false, suc, zero, reverse}
use Rattle.std.specs.Bool.{⊤}
use native.Mathlib.Numerals.{unary_clauses}
use Rattle.std.specs.Cmp.{IsStrictWeakOrder}
use Rattle.std.specs.List.{dedup, dedup_from, filter}
use Rattle.std.specs.List.Sorted.{IsPermutation, IsSortedBy, IsStableBy, ties}
use Rattle.std.proofs.lemmas.List.Sorted.{IsPermutation-trans, IsPermutation-append}
use Rattle.std.proofs.lemmas.List.Sorted.{IsPermutation-middle, IsPermutation-refl}
use Rattle.std.specs.List.Retain.{DiffersFromLast, IsFiltered}
use Rattle.std.proofs.lemmas.List.{map-append, reverse-append}
use Rattle.std.proofs.lemmas.List.Filters.{dedup_is}
use Rattle.std.proofs.lemmas.List.Sorted.{ranks_by}
use Rattle.unix_path.specs.OrderLaws.{values_cmp-total}
use Rattle.unix_path.specs.Parts.{values}
use Rattle.unix_path.specs.declared.path.Path.{Path}
use Rattle.upath_commands.specs.Records.{paths_of}
use Rattle.upath_commands.specs.Sorting.{comes_before, insert_sorted, same_path, sorted_by}
use Rattle.upath_commands.proofs.lemmas.RecordLemmas.{by_test}

and_false : (b : Bool) → (b && false) ≡ false
and_false true = refl
and_false false = refl

module _ {X : Type 0} (less : X → X → Bool) (order : IsStrictWeakOrder less) where
  -- none of the elements is less than x
  abbrev pub Above : X → List X → Type 0
  Above x [] = ⊤
  Above x (y ∷ ys) = (less y x ≡ false) × Above x ys

  -- none of the elements is less than one before it
  abbrev pub Up : List X → Type 0
  Up [] = ⊤
  Up (x ∷ xs) = Above x xs × Up xs

  Above-trans : (x y : X) (ys : List X) → less y x ≡ false → Above y ys → Above x ys
  Above-trans x y [] e h = tt
  Above-trans x y (z ∷ zs) e (d, h) = (order.chain z y x d e, Above-trans x y zs e h)

  tail_sorted : (x : X) (xs : List X) → IsSortedBy less (x ∷ xs) → IsSortedBy less xs
  tail_sorted x xs h = λ k d low high.
      simp unary_clauses (simp unary_clauses at (h (suc k) d (omega arith) (omega arith)))

  Up-sorted : (xs : List X) → IsSortedBy less xs → Up xs
  Up-sorted [] h = tt
  Up-sorted (x ∷ []) h = (tt, tt)
  Up-sorted (x ∷ y ∷ ys) h =
      let (above, up) = Up-sorted (y ∷ ys) (tail_sorted x (y ∷ ys) h) in
      let e : less y x ≡ false = h 0 x (omega arith) (omega arith) in
      ((e, Above-trans x y ys e above), (above, up))

  irreflexive : (x : X) → less x x ≡ false
  irreflexive x = by_test (less x x) (λ e. order.one_way x x e) (λ e. e)

  tied_itself : (x : X) → ties less x x ≡ true
  tied_itself x = rw (irreflexive x) refl

  -- the first element that passes a test isn't less than an element that none is less than
  first_kept : (test : X → Bool) (z : X) (zs : List X) (y : X) (ys : List X) → Above z zs
      → filter test zs ≡ y ∷ ys → less y z ≡ false
  first_kept test z [] y ys h e = absurd (cc)
  first_kept test z (x ∷ xs) y ys (d, h) e =
      by_test (test x)
      (λ t. let both : x ∷ filter test xs ≡ y ∷ ys = rw t at e in
      let same : x ≡ y = cc in subst (λ y. less y z ≡ false) same d)
      (λ t. first_kept test z xs y ys h (rw t at e))

  -- sorted lists that have the same elements tied with each element, in the same order
  Alike : List X → List X → Type 0
  Alike ys zs = (x : X) → filter (ties less x) ys ≡ filter (ties less x) zs

  keeps_first : (x : X) (xs : List X)
      → filter (ties less x) (x ∷ xs) ≡ x ∷ filter (ties less x) xs
  keeps_first x xs = rw (tied_itself x) refl

  head_tied : (y z : X) (ys zs : List X) → Above y ys → Above z zs → Alike (y ∷ ys) (z ∷ zs)
      → ties less y z ≡ true
  unfolding Alike
  head_tied y z ys zs a b h =
      let e : less y z ≡ false =
      first_kept (ties less y) z (z ∷ zs) y _ (irreflexive z, b) (sym (h y) ∙ keeps_first y ys) in
      let d : less z y ≡ false =
      first_kept (ties less z) y (y ∷ ys) z _ (irreflexive y, a) (h z ∙ keeps_first z zs) in
      rw (e, d) refl

  tail_alike : (y : X) (ys zs : List X) → Alike (y ∷ ys) (y ∷ zs) → Alike ys zs
  unfolding Alike
  tail_alike y ys zs h = λ x.
      let kept : (x : X) → filter (ties less x) (y ∷ ys) ≡ filter (ties less x) (y ∷ zs) = h in
      by_test (ties less x y)
      (λ t. let e : y ∷ filter (ties less x) ys ≡ y ∷ filter (ties less x) zs = rw t at (kept x) in
      cc)
      (λ t. rw t at (kept x))

  kept_if : {b : Bool} → b ≡ true → (x : X) (xs : List X) → cond b (x ∷ xs) xs ≡ x ∷ xs
  kept_if e x xs = rw e refl

  same_sorted : (ys zs : List X) → Up ys → Up zs → Alike ys zs → ys ≡ zs
  unfolding Alike
  same_sorted [] [] u v h = refl
  same_sorted [] (z ∷ zs) u v h =
      let e : [] ≡ z ∷ filter (ties less z) zs = h z ∙ keeps_first z zs in absurd (cc)
  same_sorted (y ∷ ys) [] u v h =
      let e : y ∷ filter (ties less y) ys ≡ [] = sym (keeps_first y ys) ∙ h y in absurd (cc)
  same_sorted (y ∷ ys) (z ∷ zs) (a, u) (b, v) h =
      let t = head_tied y z ys zs a b h in
      let d : y ∷ filter (ties less y) ys ≡ z ∷ filter (ties less y) zs =
      sym (keeps_first y ys) ∙ h y ∙ kept_if t z (filter (ties less y) zs) in
      let e : y ≡ z = cc in
      ap₂ (λ x xs. x ∷ xs) e
      (same_sorted ys zs u v
      (tail_alike y ys zs (λ x. h x ∙ ap (λ z. filter (ties less x) (z ∷ zs)) (sym e))))

  Above-insert : (z x : X) (ys : List X) → less x z ≡ false → Above z ys
      → Above z (insert_sorted less x ys)
  Above-insert z x [] e h = (e, tt)
  Above-insert z x (y ∷ ys) e (d, h) =
      by_test (less y x) (λ t. rw t (d, Above-insert z x ys e h)) (λ t. rw t (e, (d, h)))

  Up-insert : (x : X) (ys : List X) → Up ys → Up (insert_sorted less x ys)
  Up-insert x [] h = (tt, tt)
  Up-insert x (y ∷ ys) (a, h) =
      by_test (less y x)
      (λ t. rw t (Above-insert y x ys (order.one_way y x t) a, Up-insert x ys h))
      (λ t. rw t ((t, Above-trans x y ys t a), (a, h)))

  -- the sorted list rises
  pub Up-sorted_by : (xs : List X) → Up (sorted_by less xs)
  unfolding sorted_by
  Up-sorted_by [] = tt
  Up-sorted_by (x ∷ xs) = Up-insert x (sorted_by less xs) (Up-sorted_by xs)

  both_tied : (x y z : X) → ties less z x ≡ true → ties less z y ≡ true → less y x ≡ false
  both_tied x y z s t =
      order.chain y z x
      (by_test (less y z)
      (λ e. absurd (true≢false (sym t ∙ rw e (and_false (not (less z y)))))) (λ e. e))
      (by_test (less z x) (λ e. absurd (true≢false (sym s ∙ rw e refl))) (λ e. e))

  swapped : (z x y : X) (rest : List X) → less y x ≡ true
      → cond (ties less z y) (y ∷ cond (ties less z x) (x ∷ rest) rest)
      (cond (ties less z x) (x ∷ rest) rest)
      ≡ cond (ties less z x) (x ∷ cond (ties less z y) (y ∷ rest) rest)
      (cond (ties less z y) (y ∷ rest) rest)
  swapped z x y rest t =
      by_test (ties less z x)
      (λ a. by_test (ties less z y)
      (λ b. absurd (true≢false (sym t ∙ both_tied x y z a b)))
      (λ b. rw (a, b) refl))
      (λ a. rw a refl)

  -- elements that tie stay in their order
  filter-insert : (z x : X) (ys : List X) → filter (ties less z) (insert_sorted less x ys)
      ≡ filter (ties less z) (x ∷ ys)
  filter-insert z x [] = refl
  filter-insert z x (y ∷ ys) =
      by_test (less y x)
      (λ t. rw t (rw (filter-insert z x ys) (swapped z x y (filter (ties less z) ys) t)))
      (λ t. rw t refl)

  pub stable-sorted_by : (xs : List X) → IsStableBy less xs (sorted_by less xs)
  unfolding sorted_by
  stable-sorted_by [] = λ z. refl
  stable-sorted_by (x ∷ xs) =
      λ z. filter-insert z x (sorted_by less xs)
      ∙ ap (λ l. cond (ties less z x) (x ∷ l) l) (stable-sorted_by xs z)

  -- a stable sort gives the sorted list
  pub sorted_by-is : (xs ys : List X) → IsSortedBy less ys → IsStableBy less xs ys
      → ys ≡ sorted_by less xs
  unfolding Alike
  sorted_by-is xs ys sorted stable =
      same_sorted ys (sorted_by less xs) (Up-sorted ys sorted) (Up-sorted_by xs)
      (λ z. stable z ∙ sym (stable-sorted_by xs z))

  at_later : (x y : X) (ys : List X) → less y x ≡ false → IsSortedBy less (y ∷ ys)
      → (k : ℕ) (d : X) → k + 1 < length (x ∷ y ∷ ys)
      → less (get_or (x ∷ y ∷ ys) (k + 1) d) (get_or (x ∷ y ∷ ys) k d) ≡ false
  at_later x y ys e h zero d high = e
  at_later x y ys e h (suc k) d high =
      simp unary_clauses (simp unary_clauses at (h k d (omega arith) (omega arith)))

  -- a list that rises is sorted
  pub Up-later : (xs : List X) → Up xs → IsSortedBy less xs
  Up-later [] h = λ k d low high. absurd (omega arith)
  Up-later (x ∷ []) h = λ k d low high. absurd (omega arith)
  Up-later (x ∷ y ∷ ys) ((e, above), up) =
      λ k d low high. at_later x y ys e (Up-later (y ∷ ys) up) k d high

  -- the sorted list is sorted
  pub sorted-sorted_by : (xs : List X) → IsSortedBy less (sorted_by less xs)
  sorted-sorted_by xs = Up-later (sorted_by less xs) (Up-sorted_by xs)

  insert_sorted-moves : (x : X) (ys : List X) → IsPermutation (x ∷ ys) (insert_sorted less x ys)
  insert_sorted-moves x [] = IsPermutation-refl (x ∷ [])
  insert_sorted-moves x (y ∷ ys) =
      by_test (less y x)
      (λ t. rw t (IsPermutation-trans (x ∷ y ∷ ys) (y ∷ x ∷ ys) (y ∷ insert_sorted less x ys)
      (IsPermutation-middle (x ∷ []) y ys)
      (IsPermutation-append (y ∷ []) (y ∷ []) (x ∷ ys) (insert_sorted less x ys)
      (IsPermutation-refl (y ∷ [])) (insert_sorted-moves x ys))))
      (λ t. rw t (IsPermutation-refl (x ∷ y ∷ ys)))

  -- the sorted list has the same elements
  pub permutation-sorted_by : (xs : List X) → IsPermutation xs (sorted_by less xs)
  unfolding sorted_by
  permutation-sorted_by [] = IsPermutation-refl []
  permutation-sorted_by (x ∷ xs) =
      IsPermutation-trans (x ∷ xs) (x ∷ sorted_by less xs)
      (insert_sorted less x (sorted_by less xs))
      (IsPermutation-append (x ∷ []) (x ∷ []) xs (sorted_by less xs) (IsPermutation-refl (x ∷ []))
      (permutation-sorted_by xs))
      (insert_sorted-moves x (sorted_by less xs))

-- the same of values, in the order of these
module _ {X Y : Type 0} (f : X → Y) (less : Y → Y → Bool) where
  map-insert_sorted : (x : X) (xs : List X)
      → map f (insert_sorted (λ a b. less (f a) (f b)) x xs)
      ≡ insert_sorted less (f x) (map f xs)
  map-insert_sorted x [] = refl
  map-insert_sorted x (y ∷ ys) =
      by_test (less (f y) (f x))
      (λ t. rw t (ap (λ l. f y ∷ l) (map-insert_sorted x ys)))
      (λ t. rw t refl)

  pub map-sorted_by : (xs : List X)
      → map f (sorted_by (λ a b. less (f a) (f b)) xs) ≡ sorted_by less (map f xs)
  unfolding sorted_by
  map-sorted_by [] = refl
  map-sorted_by (x ∷ xs) =
      map-insert_sorted x (sorted_by (λ a b. less (f a) (f b)) xs)
      ∙ ap (insert_sorted less (f x)) (map-sorted_by xs)

  map-dedup_from : (x : X) (xs : List X)
      → map f (dedup_from (λ a b. less (f a) (f b)) x xs)
      ≡ dedup_from less (f x) (map f xs)
  map-dedup_from x [] = refl
  map-dedup_from x (y ∷ ys) =
      by_test (less (f y) (f x))
      (λ t. rw t (map-dedup_from x ys))
      (λ t. rw t (ap (λ l. f x ∷ l) (map-dedup_from y ys)))

  pub map-dedup : (xs : List X)
      → map f (dedup (λ a b. less (f a) (f b)) xs) ≡ dedup less (map f xs)
  map-dedup [] = refl
  map-dedup (x ∷ xs) = map-dedup_from x xs

paths_order : IsStrictWeakOrder (λ (p q : Path). comes_before p.bytes.now q.bytes.now)
paths_order = ranks_by values_cmp-total (λ (path : Path). values path.bytes.now)

-- the paths after a stable sort
pub paths_in_order : (ps qs : List Path)
    → IsSortedBy (λ (p q : Path). comes_before p.bytes.now q.bytes.now) qs
    → IsStableBy (λ (p q : Path). comes_before p.bytes.now q.bytes.now) ps qs
    → paths_of qs ≡ sorted_by comes_before (paths_of ps)
paths_in_order ps qs sorted stable =
    ap paths_of (sorted_by-is _ paths_order ps qs sorted stable)
    ∙ map-sorted_by (λ (path : Path). path.bytes.now) comes_before ps

-- what is left of paths if of those that are equal and in a row only the first is kept
pub deduped_paths : (ps qs : List Path)
    → IsFiltered (DiffersFromLast (λ (p q : Path). same_path p.bytes.now q.bytes.now)) [] ps qs
    → paths_of qs ≡ dedup same_path (paths_of ps)
deduped_paths ps qs h =
    ap paths_of (dedup_is _ ps qs h) ∙ map-dedup (λ (path : Path). path.bytes.now) same_path ps

map-reverse : {X Y : Type 0} (f : X → Y) (xs : List X) → map f (reverse xs) ≡ reverse (map f xs)
map-reverse f [] = refl
map-reverse f (x ∷ xs) =
    ap (map f) (reverse-append (x ∷ []) xs)
    ∙ map-append f (reverse xs) (x ∷ [])
    ∙ ap (λ l. l ++ f x ∷ []) (map-reverse f xs)
    ∙ sym (reverse-append (f x ∷ []) (map f xs))

-- reversed paths
pub turned_paths : (ps qs : List Path) → qs ≡ reverse ps → paths_of qs ≡ reverse (paths_of ps)
turned_paths ps qs e = ap paths_of e ∙ map-reverse (λ (path : Path). path.bytes.now) ps

-- paths are in an order
pub by_paths : IsStrictWeakOrder comes_before
by_paths = ranks_by values_cmp-total values

-- the sorted paths are ordered, they are the same paths, and equal paths stay in their order
pub sorted_paths-ordered : (paths : List (List ℕ))
    → IsSortedBy comes_before (sorted_by comes_before paths)
sorted_paths-ordered = sorted-sorted_by comes_before by_paths

pub sorted_paths-moved : (paths : List (List ℕ))
    → IsPermutation paths (sorted_by comes_before paths)
sorted_paths-moved = permutation-sorted_by comes_before by_paths

pub sorted_paths-stable : (paths : List (List ℕ))
    → IsStableBy comes_before paths (sorted_by comes_before paths)
sorted_paths-stable = stable-sorted_by comes_before by_paths
