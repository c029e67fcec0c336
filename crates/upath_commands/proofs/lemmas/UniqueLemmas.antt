-- `sort -u`: the sorted paths that `uniq` keeps.
use Rattle.std.proofs.Common.{◌≡◌, ℕ, Bool, true, false, not, ◌&&◌, List, [], ◌∷◌, cond}
use Rattle.std.proofs.Common.{refl, sym, ap, ap₂, ◌∙◌, true≢false}
use Rattle.std.specs.Bool.{⊤}
use Rattle.std.specs.List.{dedup, dedup_from, filter}
use Rattle.std.specs.List.Sorted.{ties}
use Rattle.std.specs.Ordering.{is_eq, is_lt, ordering_reverse}
use Rattle.std.specs.declared.cmp.Ordering.{Ordering}
use Rattle.std.specs.declared.cmp.Ordering.TheVariants.{Less, Equal, Greater}
use Rattle.unix_path.specs.Order.{values_cmp}
use Rattle.unix_path.specs.OrderLaws.{is_eq-values_cmp, values_cmp-total}
use Rattle.unix_path.specs.Parts.{values}
use Rattle.unix_path.proofs.lemmas.order.EqualValueLemmas.{values_cmp-same}
use Rattle.upath_commands.specs.Sorting.{comes_before, firsts_of, same_path, sorted_by}
use Rattle.upath_commands.proofs.lemmas.RecordLemmas.{by_test}
use Rattle.upath_commands.proofs.lemmas.SelectionLemmas.{filter_twice}
use Rattle.upath_commands.proofs.lemmas.SortingLemmas.{Above, Up, Up-later, Up-sorted_by, by_paths}
use Rattle.upath_commands.proofs.lemmas.SortingLemmas.{sorted_by-is, sorted_paths-stable}

-- equal paths equal the same paths
same_left : (p q r : List ℕ) → same_path p q ≡ true → same_path p r ≡ same_path q r
same_left p q r e =
    ap (λ v. is_eq (values_cmp v (values r))) (is_eq-values_cmp (values p) (values q) e)

-- two paths that equal a third are equal
same_both : (z p q : List ℕ) → same_path z q ≡ true → same_path p q ≡ true
    → same_path z p ≡ true
same_both z p q a b =
    values_cmp-same (values z) (values p)
    (is_eq-values_cmp (values z) (values q) a ∙ sym (is_eq-values_cmp (values p) (values q) b))

ties_by : (o r : Ordering) → o ≡ ordering_reverse r → (not (is_lt o) && not (is_lt r)) ≡ is_eq o
ties_by Less r e = refl
ties_by Equal Less e = absurd (cc)
ties_by Equal Equal e = refl
ties_by Equal Greater e = absurd (cc)
ties_by Greater Less e = refl
ties_by Greater Equal e = absurd (cc)
ties_by Greater Greater e = absurd (cc)

-- paths tie if they are equal
path_ties : (p q : List ℕ) → ties comes_before p q ≡ same_path p q
path_ties p q =
    ties_by (values_cmp (values p) (values q)) (values_cmp (values q) (values p))
    (values_cmp-total.antisymm (values p) (values q))

less_by : (o r : Ordering) → o ≡ ordering_reverse r → is_lt r ≡ false → is_eq o ≡ false
    → is_lt o ≡ true
less_by Less r e a b = refl
less_by Equal r e a b = absurd (true≢false b)
less_by Greater Less e a b = absurd (true≢false a)
less_by Greater Equal e a b = absurd (cc)
less_by Greater Greater e a b = absurd (cc)

-- a path comes before one that doesn't come before it and isn't equal to it
before_by : (p q : List ℕ) → comes_before q p ≡ false → same_path p q ≡ false
    → comes_before p q ≡ true
before_by p q =
    less_by (values_cmp (values p) (values q)) (values_cmp (values q) (values p))
    (values_cmp-total.antisymm (values p) (values q))

less_differs : (o : Ordering) → is_lt o ≡ true → is_eq o ≡ false
less_differs Less e = refl
less_differs Equal e = absurd (true≢false (sym e))
less_differs Greater e = refl

-- p comes before each of the paths
abbrev IsBefore : List ℕ → List (List ℕ) → Type 0
IsBefore p [] = ⊤
IsBefore p (q ∷ qs) = (comes_before p q ≡ true) × IsBefore p qs

before_all : (p q : List ℕ) (qs : List (List ℕ)) → comes_before p q ≡ true
    → Above comes_before by_paths q qs → IsBefore p qs
before_all p q [] l above = tt
before_all p q (r ∷ qs) l (a, above) = (
  by_test (comes_before p r) (λ e. e)
      (λ e. absurd (true≢false (sym l ∙ by_paths.chain p r q e a))),
  before_all p q qs l above,
)

-- what equals p is not among the paths after it
none_same : (z p : List ℕ) (qs : List (List ℕ)) → same_path z p ≡ true → IsBefore p qs
    → filter (same_path z) qs ≡ []
none_same z p [] e before = refl
none_same z p (q ∷ qs) e (l, before) =
    let differs : same_path z q ≡ false =
    same_left z p q e ∙ less_differs (values_cmp (values p) (values q)) l in
    rw differs (none_same z p qs e before)

-- the first element, alone
abbrev first_alone : List (List ℕ) → List (List ℕ)
first_alone [] = []
first_alone (x ∷ xs) = x ∷ []

-- a path that equals p may be left out after p
left_out : (z p q : List ℕ) (found : List (List ℕ)) → same_path q p ≡ true
    → first_alone (cond (same_path z p) (p ∷ found) found)
    ≡ first_alone (cond (same_path z p) (p ∷ cond (same_path z q) (q ∷ found) found)
    (cond (same_path z q) (q ∷ found) found))
left_out z p q found e =
    by_test (same_path z p) (λ t. rw t refl)
    (λ t. let differs : same_path z q ≡ false =
    by_test (same_path z q) (λ a. absurd (true≢false (sym e ∙ sym (same_left z q p a) ∙ t)))
    (λ a. a) in
    rw (t, differs) refl)

-- of sorted paths without repetitions, those that equal z are the first of them
deduped : (z p : List ℕ) (qs : List (List ℕ)) → Up comes_before by_paths (p ∷ qs)
    → filter (same_path z) (dedup_from same_path p qs)
    ≡ first_alone (filter (same_path z) (p ∷ qs))
deduped z p [] up = by_test (same_path z p) (λ t. rw t refl) (λ t. rw t refl)
deduped z p (q ∷ qs) ((a, above), (next, up)) =
    by_test (same_path q p)
    (λ e. rw e (deduped z p qs (above, up)
    ∙ left_out z p q (filter (same_path z) qs) e))
    (λ e. rw e (by_test (same_path z p)
    (λ t. rw t (ap (λ l. p ∷ l) (deduped z q qs (next, up)
    ∙ ap first_alone (none_same z p (q ∷ qs) t (later e)))))
    (λ t. rw t (deduped z q qs (next, up)))))
  where
    differs : same_path q p ≡ false → same_path p q ≡ false
    differs e =
        let itself : same_path q q ≡ true = values_cmp-same (values q) (values q) refl in
        by_test (same_path p q)
        (λ t. absurd (true≢false (sym (same_both q p q itself t) ∙ e))) (λ t. t)

    later : same_path q p ≡ false → IsBefore p (q ∷ qs)
    later e = let l = before_by p q a (differs e) in (l, before_all p q qs l next)

deduped_all : (z : List ℕ) (ps : List (List ℕ)) → Up comes_before by_paths ps
    → filter (same_path z) (dedup same_path ps) ≡ first_alone (filter (same_path z) ps)
deduped_all z [] up = refl
deduped_all z (p ∷ qs) up = deduped z p qs up

Above-deduped : (x p : List ℕ) (qs : List (List ℕ)) → Above comes_before by_paths x (p ∷ qs)
    → Above comes_before by_paths x (dedup_from same_path p qs)
Above-deduped x p [] above = above
Above-deduped x p (q ∷ qs) (a, (b, above)) =
    by_test (same_path q p) (λ e. rw e (Above-deduped x p qs (a, above)))
    (λ e. rw e (a, Above-deduped x q qs (b, above)))

Up-deduped : (p : List ℕ) (qs : List (List ℕ)) → Up comes_before by_paths (p ∷ qs)
    → Up comes_before by_paths (dedup_from same_path p qs)
Up-deduped p [] up = up
Up-deduped p (q ∷ qs) ((a, above), (next, up)) =
    by_test (same_path q p) (λ e. rw e (Up-deduped p qs (above, up)))
    (λ e. rw e (Above-deduped p q qs (a, above), Up-deduped q qs (next, up)))

Up-dedup : (ps : List (List ℕ)) → Up comes_before by_paths ps
    → Up comes_before by_paths (dedup same_path ps)
Up-dedup [] up = tt
Up-dedup (p ∷ qs) up = Up-deduped p qs up

filter_none : (xs : List (List ℕ)) → filter (λ x. false) xs ≡ []
filter_none [] = refl
filter_none (x ∷ xs) = filter_none xs

not_both : (b : Bool) → (not b && b) ≡ false
not_both true = refl
not_both false = refl

-- of the firsts, those that equal z are the first of them
firsts_all : (z : List ℕ) (ps : List (List ℕ))
    → filter (same_path z) (firsts_of ps) ≡ first_alone (filter (same_path z) ps)
unfolding firsts_of
firsts_all z [] = refl
firsts_all z (p ∷ ps) =
    by_test (same_path z p)
    (λ t. rw t (ap (λ l. p ∷ l)
    (filter_twice (λ q. not (same_path p q)) (same_path z) (λ q. false)
    (λ q. ap (λ b. not (same_path p q) && b) (same_left z p q t) ∙ not_both (same_path p q))
    (firsts_of ps) ∙ filter_none (firsts_of ps))))
    (λ t. rw t (filter_twice (λ q. not (same_path p q)) (same_path z) (same_path z) (stays t)
    (firsts_of ps) ∙ firsts_all z ps))
  where
    stays : same_path z p ≡ false → (q : List ℕ)
        → (not (same_path p q) && same_path z q) ≡ same_path z q
    stays t q =
        by_test (same_path p q)
        (λ b. by_test (same_path z q)
        (λ a. absurd (true≢false (sym (same_both z p q a b) ∙ t)))
        (λ a. rw (b, a) refl))
        (λ b. rw b refl)

filter_as : (f g : List ℕ → Bool) → ((x : List ℕ) → f x ≡ g x) → (xs : List (List ℕ))
    → filter f xs ≡ filter g xs
filter_as f g h [] = refl
filter_as f g h (x ∷ xs) =
    ap₂ (λ b l. cond b (x ∷ l) l) (h x) (filter_as f g h xs)

-- the sorted paths without repetitions are the sorted firsts
pub sorted_firsts : (paths : List (List ℕ))
    → dedup same_path (sorted_by comes_before paths) ≡ sorted_by comes_before (firsts_of paths)
sorted_firsts paths =
    let sorted = sorted_by comes_before paths in
    let up = Up-sorted_by comes_before by_paths paths in
    sorted_by-is comes_before by_paths (firsts_of paths) (dedup same_path sorted)
    (Up-later comes_before by_paths (dedup same_path sorted) (Up-dedup sorted up))
    (λ z. let alike = filter_as (ties comes_before z) (same_path z) (path_ties z) in
    alike (dedup same_path sorted) ∙ deduped_all z sorted up
    ∙ ap first_alone (sym (alike sorted) ∙ sorted_paths-stable paths z ∙ alike paths)
    ∙ sym (firsts_all z paths) ∙ sym (alike (firsts_of paths)))
