-- The walk that finds the children of a base: how far it has come, and each of its steps.
use Rattle.std.proofs.Common.{◌≡◌, ◌∙◌, ◌&&◌, ◌<◌, ℕ, Bool, true, false, List, []}
use Rattle.std.proofs.Common.{◌∷◌, ◌++◌, Some, None, Option, Ordering, Less, Equal, Greater, IfSome}
use Rattle.std.proofs.Common.{ap, append_assoc, append-nil, arith, eqb, is_le, length}
use Rattle.std.proofs.Common.{length-append}
use Rattle.std.proofs.Common.{⊎_elim, ap₂, not, refl, subst, subst₂, sym}
use Rattle.std.proofs.lemmas.Bool.Decides.{nat_tests}
use Rattle.std.proofs.Math.Bool.{and-true}
use Rattle.std.proofs.lemmas.Cmp.{nat_cmp_total, nat_list_cmp_total, tied_itself}
use Rattle.std.proofs.lemmas.List.Elements.{filter_agree}
use Rattle.std.proofs.lemmas.List.Sums.{count_by-le-length, length-filter}
use Rattle.std.proofs.lemmas.Map.Keys.{sorted_head}
use Rattle.std.proofs.lemmas.Map.Lookups.{exact_bytes}
use Rattle.std.proofs.lemmas.Map.Views.{tells_apart}
use Rattle.std.specs.Cmp.{nat_cmp_is}
use Rattle.std.proofs.lemmas.Bool.{cases_order}
use Rattle.std.proofs.lemmas.List.{same_from_push}
use Rattle.std.specs.FinMap.{nat_cmp-IsAntisymmetric, slice_cmp-IsAntisymmetric}
use Rattle.std.specs.List.{AllByRecursion, filter, starts_with}
use Rattle.std.specs.List.Sorted.{IsStrictlySortedBy}
use Rattle.std.specs.Map.{keys_of}
use Rattle.std.specs.Ordering.{is_eq, is_lt, nat_cmp}
use Rattle.std.specs.Prelude.{nat_lt}
use Rattle.unix_bytes.proofs.lemmas.lists.ListLemmas.{by_test}
use Rattle.unix_path.specs.Prefixes.{IsPrefixOf}
use Rattle.path_keys.specs.Ranges.{bytes_cmp, end_of}
use Rattle.path_keys.proofs.lemmas.values.BeginLemmas.{begins_told}
use Rattle.path_keys.proofs.lemmas.values.RangeLemmas.{begins-lies_under}
use Rattle.path_tree.specs.Children.{child_entry, child_of, children_of, is_below}
use Rattle.path_keys.specs.KeyValues.{is_own}
use Rattle.path_tree.specs.Entries.{key_entries}
use Rattle.path_tree.proofs.lemmas.children.ChildLemmas.{children-fresh, fresh}
use Rattle.path_tree.proofs.lemmas.children.ChildLemmas.{goes_on_in, is_after}
use Rattle.path_tree.proofs.lemmas.children.ChildLemmas.{new_child, none_more, pass_child}
use Rattle.path_tree.proofs.lemmas.children.ChildLemmas.{stays_after}
use Rattle.path_tree.proofs.lemmas.keys.ChildKeyLemmas.{ChildKey}
use Rattle.path_tree.proofs.lemmas.keys.IntervalLemmas.{le_less}
use Rattle.path_tree.proofs.lemmas.keys.OwnLemmas.{Key, AllOwn, Own, all_own, items_of, keys_cmp}
use Rattle.path_tree.proofs.lemmas.entries.DifferenceLemmas.{some_append}
use Rattle.path_tree.proofs.lemmas.entries.EntryLemmas.{between-starts}
use Rattle.path_tree.proofs.lemmas.entries.SortedLemmas.{sorted-more}
use Rattle.path_tree.proofs.lemmas.entries.SortedWalkLemmas.{less_is}
use Rattle.path_tree.proofs.lemmas.entries.WalkLemmas.{all_kept, all_more, all_rest, filter-suffix}
use Rattle.path_tree.proofs.lemmas.entries.WalkLemmas.{kept_pass}
use Rattle.path_tree.proofs.lemmas.entries.WalkLemmas.{sorted_rest, suffix-filter}

-- what a test of bytes shows, for equal bytes
pub begins_by : {key base k b : List ℕ} {t : Bool} → t ≡ starts_with eqb key base → key ≡ k
    → base ≡ b → t ≡ true → IsPrefixOf b k
begins_by is same alike holds = subst₂ IsPrefixOf alike same ((begins_told _ _ _ is).0 holds)

-- a key that starts with base and is longer is greater than base
below_less : (base x : List ℕ) → is_below base x ≡ true → bytes_cmp base x ≡ Less
below_less base x below = by_test (starts_with eqb x base)
    (λ starts.
    let lies = (begins-lies_under base x).0 ((begins_told x base _ refl).0 starts) in
    by (bytes_cmp base x) refl lies.0 (rw starts at below))
    (λ other. let e = rw other at below in absurd (let d = e in cc))
  where
    by : (o : Ordering) → bytes_cmp base x ≡ o → is_le o ≡ true
        → nat_lt (length base) (length x) ≡ true
        → o ≡ Less
    by Less is le more = refl
    by Equal is le more =
        let same = slice_cmp-IsAntisymmetric nat_cmp-IsAntisymmetric base x is in
        let long : length base ≡ length x = ap length same in
        absurd (grind (arith, nat_tests))
    by Greater is le more = absurd (let e = le in cc)

-- bytes that are not greater than others are less than each prefix of those, if neither the bytes
-- begin the others nor the prefix begins the bytes
less_than_prefix : (l c e : List ℕ) → is_le (bytes_cmp l e) ≡ true → (IsPrefixOf l e → ⊥)
    → IsPrefixOf c e → (IsPrefixOf c l → ⊥) → bytes_cmp l c ≡ Less
less_than_prefix [] c e le apart h out = absurd (apart (e, refl))
less_than_prefix (x ∷ l) [] e le apart h out = absurd (out (x ∷ l, refl))
less_than_prefix (x ∷ l) (y ∷ c) e le apart h out =
    let by : is_le (bytes_cmp (x ∷ l) (y ∷ (c ++ h.0))) ≡ true =
    subst (λ k. is_le (bytes_cmp (x ∷ l) k) ≡ true) (sym h.1) le in
    ⊎_elim
    (λ same.
    let there : nat_cmp x y ≡ Equal = ap (nat_cmp x) (sym same) ∙ tied_itself nat_cmp_total x in
    rw there (less_than_prefix l c (c ++ h.0) (rw there at by)
    (λ b. apart (b.0, ap₂ (λ z zs. z ∷ zs) same b.1 ∙ h.1)) (h.0, refl)
    (λ b. out (b.0, ap₂ (λ z zs. z ∷ zs) (sym same) b.1))))
    (λ other. ⊎_elim
    (λ less. rw (← nat_cmp_is x y Less less) refl)
    (λ more. absurd (let d = rw (← nat_cmp_is x y Greater more) at by in cc)) other)
    (cases_order x y)

-- a child whose key begins another child's key is that child
same_child_key : (base c f : List ℕ) → ChildKey base c → ChildKey base f → IsPrefixOf c f → c ≡ f
same_child_key base c f child other begins =
    sym (child.child_is begins.0) ∙ ap (child_of base) (begins.1 ∙ sym (append-nil f))
    ∙ other.child_is []

-- what is at most a key is at most all that are greater
all_from : (c k : List ℕ) → is_le (bytes_cmp c k) ≡ true → (ls : List Key)
    → AllByRecursion (λ l. bytes_cmp k l.items ≡ Less) ls
    → AllByRecursion (λ l. is_le (bytes_cmp c l.items) ≡ true) ls
all_from c k from = all_more _ _ (λ l less. ap is_le (le_less c k l.items from less))

-- these children were found, and `rest` has the others
pub record FindsChildren {V : Type 0} (base : List ℕ) (entries : List (Key × V))
    (last : Option (List ℕ)) (rest : List (Key × V)) (found : List (List ℕ × Option V))
    : Type 0 where
  pub before : List (Key × V)
  pub suffix : entries ≡ before ++ rest
  pub above : AllByRecursion (λ k. bytes_cmp base k.items ≡ Less) (keys_of rest)
  pub last_is : IfSome last (ChildKey base)
  pub some_found : IfSome last (λ _. 0 < length found)
  pub sorted : IsStrictlySortedBy bytes_cmp (keys_of found)
  pub last_found : (front : List (List ℕ × Option V)) (f : List ℕ × Option V)
      → found ≡ front ++ f ∷ [] → last ≡ Some f.0
  pub from_last : IfSome last
      (λ c. AllByRecursion (λ k. is_le (bytes_cmp c k.items) ≡ true) (keys_of rest))
  pub answer : found ++ fresh base last (key_entries rest) ≡ children_of base (key_entries entries)

-- an entry of a tree has the key of a path
pub rest_own : {V : Type 0} {base : List ℕ} {entries left : List (Key × V)}
    {last : Option (List ℕ)} {found : List (List ℕ × Option V)} → Own items_of entries
    → FindsChildren base entries last left found → (e : Key × V) (es : List (Key × V))
    → left ≡ e ∷ es → is_own e.0.items ≡ true
rest_own {V} {base} {entries} all h e es steps =
    (all_rest (λ k. is_own k.items ≡ true) h.before (e ∷ es) (subst (AllOwn items_of)
    (h.suffix ∙ ap (λ l. h.before ++ l) steps) (all_own items_of entries all))).0

module _ {V : Type 0} (base : List ℕ) where
  -- entries that aren't below base have no children
  fresh-filter : (p : Key → Bool) → ((k : Key) → is_below base k.items ≡ true → p k ≡ true)
      → (es : List (Key × V)) (last : Option (List ℕ))
      → fresh base last (key_entries es)
      ≡ fresh base last (key_entries (filter (λ e. p e.0) es))
  unfolding fresh
  fresh-filter p passes [] last = refl
  fresh-filter p passes (e ∷ es) last =
      let k = e.0.items in
      let others = fresh-filter p passes es in
      by_test (is_below base k)
      (λ below. by_test (goes_on_in base last k)
      (λ same. rw (passes e.0 below, below, same) (others last))
      (λ other. rw (passes e.0 below, below, other)
      (ap (λ l. child_entry base (k, e.1) ∷ l) (others (Some (child_of base k))))))
      (λ above. by_test (p e.0)
      (λ is. rw (is, above) (others last))
      (λ fails. rw (fails, above) (others last)))

  module _ (entries : List (Key × V))
      (sorted : IsStrictlySortedBy (keys_cmp items_of) (keys_of entries)) where
    -- the rest is sorted
    rest_sorted : (before rest : List (Key × V)) → entries ≡ before ++ rest
        → IsStrictlySortedBy (keys_cmp items_of) (keys_of rest)
    rest_sorted before rest is = sorted_rest (keys_cmp items_of) before rest
        (subst (λ es. IsStrictlySortedBy (keys_cmp items_of) (keys_of es)) is sorted)

    -- the key is greater than base
    abbrev is_above : Key → Bool
    is_above k = is_lt (bytes_cmp base k.items)

    -- what the test shows
    above_is : (k : Key) → is_above k ≡ true → bytes_cmp base k.items ≡ Less
    above_is k = less_is (bytes_cmp base k.items)

    -- no entries are sorted
    none_sorted : IsStrictlySortedBy bytes_cmp (keys_of {K = List ℕ} {X = Option V} [])
    unfolding IsStrictlySortedBy
    none_sorted = tt

    -- at first the rest is what lies above base
    pub starts : (rest : List (Key × V))
        → rest ≡ filter (λ e. is_lt (bytes_cmp base e.0.items) && true) entries
        → FindsChildren base entries None rest []
    starts rest is =
        let whole : rest ≡ filter (λ e. is_above e.0) entries =
        is ∙ filter_agree _ (λ e. is_above e.0) (λ e. and-true (is_above e.0)) entries in
        let cut = suffix-filter (keys_cmp items_of) is_above
        (λ k l above less. ap is_lt
        (nat_list_cmp_total.trans base k.items l.items (above_is k above) less))
        entries sorted in
        record {
          before = cut.0;
          suffix = cut.1 ∙ ap (λ l. cut.0 ++ l) (sym whole);
          above = subst (λ l. AllByRecursion (λ k. bytes_cmp base k.items ≡ Less) (keys_of l))
              (sym whole) (kept_pass is_above _ above_is entries);
          last_is = tt;
          some_found = tt;
          sorted = none_sorted;
          last_found = λ front f is. absurd (some_append front f [] (sym is));
          from_last = tt;
          answer = ap (λ l. fresh base None (key_entries l)) whole
              ∙ sym (fresh-filter is_above
              (λ k below. ap is_lt (below_less base k.items below)) entries None)
              ∙ children-fresh base (key_entries entries);
        }

    -- if an entry is of the child that was found last, the rest of the child's range is passed over
    module _ {last : Option (List ℕ)} {left : List (Key × V)} {found : List (List ℕ × Option V)}
        (was : FindsChildren base entries last left found) (c end : List ℕ)
        (last_is : last ≡ Some c)
        (e : Key × V) (es : List (Key × V)) (steps : left ≡ e ∷ es)
        (in_child : IsPrefixOf c e.0.items) (ends : end_of c ≡ Some end) (rest : List (Key × V))
        (is : rest ≡ filter (λ e. is_le (bytes_cmp end e.0.items) && true) entries) where
      -- what was found before the entry
      h : FindsChildren base entries (Some c) (e ∷ es) found
      h = subst₂ (λ last left. FindsChildren base entries last left found) last_is steps was

      -- the entries after the range are those that pass the test
      after_is : rest ≡ filter (λ e. is_after end e.0) entries
      after_is = is
          ∙ filter_agree _ (λ e. is_after end e.0) (λ e. and-true (is_after end e.0)) entries

      -- the entry is not after the range
      not_after : is_after end e.0 ≡ false
      not_after = from_both (is_le (bytes_cmp c e.0.items)) (is_after end e.0)
          (between-starts c end e.0.items ends ∙ (begins_told e.0.items c _ refl).1 in_child)
        where
          from_both : (a b : Bool) → (a && not b) ≡ true → b ≡ false
          from_both a false both = refl
          from_both true true both = sym both
          from_both false true both = absurd (let d = both in cc)

      -- all entries after the range are among the rest
      after_rest : rest ≡ filter (λ e. is_after end e.0) (e ∷ es)
      after_rest =
          after_is ∙ ap (filter (λ e. is_after end e.0)) h.suffix
          ∙ filter-suffix (keys_cmp items_of) (is_after end) (stays_after end) h.before e es
          (subst (λ es. IsStrictlySortedBy (keys_cmp items_of) (keys_of es)) h.suffix sorted)
          not_after

      -- fewer entries remain
      pub passed_fewer : length rest < length left
      passed_fewer = grind (arith, after_rest, not_after, length-filter, count_by-le-length)

      -- the walk may go on after the range
      goes_on : FindsChildren base entries (Some c) rest found
      goes_on =
          let up = rest_sorted h.before (e ∷ es) h.suffix in
          let cut = suffix-filter (keys_cmp items_of) (is_after end) (stays_after end) entries
          sorted in
          let from = ((begins-lies_under c e.0.items).0 in_child).0 in
          let less = sorted_head (keys_cmp items_of) e.0 _ up in
          record {
            before = cut.0;
            suffix = cut.1 ∙ ap (λ l. cut.0 ++ l) (sym after_is);
            above = subst (λ l. AllByRecursion (λ k. bytes_cmp base k.items ≡ Less) (keys_of l))
                (sym after_rest)
                (all_kept (λ e. e.0) (λ e. is_after end e.0) (λ k. bytes_cmp base k.items ≡ Less)
                (e ∷ es) h.above);
            last_is = h.last_is;
            some_found = h.some_found;
            sorted = h.sorted;
            last_found = h.last_found;
            from_last = subst (λ l. AllByRecursion (λ k. is_le (bytes_cmp c k.items) ≡ true)
                (keys_of l)) (sym after_rest)
                (all_kept (λ e. e.0) (λ e. is_after end e.0)
                (λ k. is_le (bytes_cmp c k.items) ≡ true) (e ∷ es) h.from_last);
            answer = ap (λ l. found ++ fresh base (Some c) (key_entries l)) after_rest
                ∙ ap (λ l. found ++ l)
                (sym (pass_child base c end h.last_is ends (e ∷ es) up
                (from, all_from c e.0.items from (keys_of es) less)))
                ∙ h.answer;
          }

      -- the same, with the child as it was found last
      pub passes : FindsChildren base entries last rest found
      passes = subst (λ last. FindsChildren base entries last rest found) (sym last_is) goes_on

    -- all children were found if the first key of the rest doesn't start with base
    pub found_all : {last : Option (List ℕ)} {left : List (Key × V)}
        {found : List (List ℕ × Option V)} → FindsChildren base entries last left found
        → (e : Key × V) (es : List (Key × V)) → left ≡ e ∷ es
        → starts_with eqb e.0.items base ≡ false → found ≡ children_of base (key_entries entries)
    found_all {last} {left} {found} was e es steps other =
        grind (arith, none_more, rest_sorted, append-nil)

    -- a child that was found last is one of the children
    pub not_none_found : {last : Option (List ℕ)} {rest : List (Key × V)}
        {found : List (List ℕ × Option V)} → FindsChildren base entries last rest found
        → (c : List ℕ) → last ≡ Some c → children_of base (key_entries entries) ≡ [] → ⊥
    not_none_found {last} {rest} {found} h c is none =
        let some : 0 < length found = subst (λ o. IfSome o (λ _. 0 < length found)) is
        h.some_found in
        let more = fresh base last (key_entries rest) in
        let empty : length (found ++ more) ≡ 0 = ap length (h.answer ∙ none) in
        omega (arith, empty, length-append found more, some)

    -- at the end all children were found
    pub found_at_end : {last : Option (List ℕ)} {rest : List (Key × V)}
        {found : List (List ℕ × Option V)} → FindsChildren base entries last rest found → rest ≡ []
        → found ≡ children_of base (key_entries entries)
    unfolding fresh
    found_at_end {last} {rest} {found} h none = sym (append-nil found)
        ∙ ap (λ l. found ++ fresh base last (key_entries l)) (sym none) ∙ h.answer

    module _ {last : Option (List ℕ)} {left : List (Key × V)} {found : List (List ℕ × Option V)}
        (was : FindsChildren base entries last left found) (e : Key × V) (es : List (Key × V))
        (steps : left ≡ e ∷ es) (begins : IsPrefixOf base e.0.items) where
      -- what was found before the entry
      so_far : FindsChildren base entries last (e ∷ es) found
      so_far = subst (λ l. FindsChildren base entries last l found) steps was

      -- an entry that begins with base is longer
      pub longer : length base < length e.0.items
      longer = by begins.0 begins.1
        where
          by : (x : List ℕ) → base ++ x ≡ e.0.items → length base < length e.0.items
          by [] same =
              let tied : bytes_cmp base base ≡ Less =
              ap (bytes_cmp base) (sym (append-nil base) ∙ same) ∙ so_far.above.0 in
              absurd (let d = sym tied ∙ tied_itself nat_list_cmp_total base in cc)
          by (b ∷ x) same =
              omega (arith, ap length same, length-append base (b ∷ x))

      -- so it is below base
      below : is_below base e.0.items ≡ true
      below = grind (arith, longer, begins_told)

      module _ (child : ChildKey base (child_of base e.0.items))
          (in_entry : IsPrefixOf (child_of base e.0.items) e.0.items)
          (fails : IfSome last (λ c. starts_with eqb e.0.items c ≡ false)) where
        -- its child is not the child that was found last
        other : goes_on_in base last e.0.items ≡ false
        other = by last fails
          where
            by : (last : Option (List ℕ)) → IfSome last (λ c. starts_with eqb e.0.items c ≡ false)
                → goes_on_in base last e.0.items ≡ false
            by None fails = refl
            by (Some c) fails = by_test (is_eq (bytes_cmp c (child_of base e.0.items)))
                (λ same. absurd (let d = sym fails
                ∙ (begins_told e.0.items c _ refl).1 (subst (λ k. IsPrefixOf k e.0.items)
                (sym (tells_apart exact_bytes c (child_of base e.0.items) same)) in_entry) in cc))
                (λ differs. differs)

        -- so its child is one more
        one_more : found ++ child_entry base (e.0.items, e.1)
            ∷ fresh base (Some (child_of base e.0.items)) (key_entries es)
            ≡ children_of base (key_entries entries)
        one_more = grind (arith, new_child, below, other, so_far)

        -- and there are children
        pub not_none : children_of base (key_entries entries) ≡ [] → ⊥
        not_none none = some_append found _ _ (one_more ∙ none)

        -- the child that was found last is less
        less_last : (f : List ℕ) → last ≡ Some f → bytes_cmp f (child_of base e.0.items) ≡ Less
        less_last f is =
            let c = child_of base e.0.items in
            let at : (P : List ℕ → Type 0) → IfSome last P → P f =
            λ P holds. subst (λ o. IfSome o P) is holds in
            let other : ChildKey base f = at (ChildKey base) so_far.last_is in
            let from = (at (λ l. AllByRecursion (λ (k : Key). is_le (bytes_cmp l k.items) ≡ true)
            (keys_of (e ∷ es))) so_far.from_last).0 in
            let told = begins_told e.0.items f (starts_with eqb e.0.items f) refl in
            let apart : IsPrefixOf f e.0.items → ⊥ = λ inside.
            let d = sym (at (λ l. starts_with eqb e.0.items l ≡ false) fails) ∙ told.1 inside in cc
            in
            less_than_prefix f c e.0.items from apart in_entry
            (λ inside. apart (subst (λ k. IsPrefixOf k e.0.items)
            (same_child_key base c f child other inside) in_entry))

        -- the child of the entry is found
        pub finds : (new : List (List ℕ × Option V))
            → new ≡ found ++ child_entry base (e.0.items, e.1) ∷ []
            → FindsChildren base entries (Some (child_of base e.0.items)) es new
        finds new new_is =
            let c = child_of base e.0.items in
            let entry : List ℕ × Option V = child_entry base (e.0.items, e.1) in
            record {
              before = so_far.before ++ e ∷ [];
              suffix = so_far.suffix ∙ sym (append_assoc so_far.before (e ∷ []) es);
              above = so_far.above.1;
              last_is = child;
              some_found = omega (arith, ap length new_is, length-append found (entry ∷ []));
              sorted = subst (λ l. IsStrictlySortedBy bytes_cmp (keys_of l)) (sym new_is)
                  (sorted-more bytes_cmp nat_list_cmp_total c entry.1 found so_far.sorted
                  (λ front f is. less_last f.0 (so_far.last_found front f is)));
              last_found = λ front f at.
                  ap (λ p. Some p.0) (same_from_push found front entry f (sym new_is ∙ at)).1;
              from_last = all_from c e.0.items ((begins-lies_under c e.0.items).0 in_entry).0
                  (keys_of es) (sorted_head (keys_cmp items_of) e.0 _
                  (rest_sorted so_far.before (e ∷ es) so_far.suffix));
              answer = ap (λ l. l ++ fresh base (Some c) (key_entries es)) new_is
                  ∙ append_assoc found (entry ∷ []) (fresh base (Some c) (key_entries es))
                  ∙ one_more;
            }
