-- Joins of a path with a list of rootless paths, or with a prefix of the list.
use Rattle.std.proofs.Common.{◌≡◌, ℕ, suc, ◌≤◌, ◌<◌, false, List, [], ◌∷◌, ◌++◌, length, take, drop}
use Rattle.std.proofs.Common.{map, Option, slice_get, Some, refl, sym, ap, subst, ◌∙◌, arith}
use Rattle.std.proofs.Common.{map-id}
use Rattle.std.specs.List.{AllByRecursion}
use Rattle.std.proofs.lemmas.Iterator.{YieldsList}
use Rattle.std.proofs.lemmas.Iterator.Consumers.{YieldsList-so_far, nth_from_yields_List}
use Rattle.std.proofs.lemmas.List.{map-append}
use Rattle.std.proofs.lemmas.Option.{get_or_from_slice_get, slice_get_within}
use Rattle.std.proofs.Math.Seq.{split_at}
use Rattle.std.proofs.iter.runs.Made.{took}
use Rattle.std.specs.Prelude.{fold}
use Rattle.unix_path.specs.Buffers.{bytes_of_each, JoinsBeginning, JoinsFit}
use Rattle.unix_path.specs.Joins.{join_of}
use Rattle.unix_path.specs.Parts.{is_rooted}
use Rattle.unix_path.specs.declared.path.Path.{Path}
use Rattle.unix_path.proofs.lemmas.edits.JoinLemmas.{length-join_of_no_separator}
use Rattle.unix_path.proofs.lemmas.edits.JoinLemmas.{length-join_of_separator}
use Rattle.path_runs.proofs.lemmas.lists.AllLemmas.{AllByRecursion-end}

-- none of these paths is rooted
abbrev pub AllRootless : List (List ℕ) → Type 0
AllRootless bs = AllByRecursion (λ b. is_rooted b ≡ false) bs

-- if b has no root, the join of a and b has at least as many bytes as a
length-join_of : (a b : List ℕ) → is_rooted b ≡ false → length a ≤ length (join_of a b)
length-join_of a b r = grind (arith, length-join_of_no_separator, length-join_of_separator)

-- if none of the paths bs has a root, a joined with all of them has at least as many bytes as a
length-joins : (a : List ℕ) (bs : List (List ℕ)) → AllRootless bs
    → length a ≤ length (fold join_of a bs)
length-joins a [] h = omega arith
length-joins a (b ∷ bs) h =
    omega (arith, length-join_of a b h.0, length-joins (join_of a b) bs h.1)

-- joining two lists of paths, one after the other, to a is the same as joining the first list to a,
-- and then the second to the result
pub joins-append : (a : List ℕ) (bs cs : List (List ℕ))
    → fold join_of a (bs ++ cs) ≡ fold join_of (fold join_of a bs) cs
joins-append a [] cs = refl
joins-append a (b ∷ bs) cs = joins-append (join_of a b) bs cs

-- if y is the item of xs at index n, xs is its items before n, then y, and then its items after n
slice_get-split : {X : Type 0} (xs : List X) (n : ℕ) (y : X) → slice_get xs n ≡ Some y
    → xs ≡ take n xs ++ y ∷ drop (suc n) xs
slice_get-split xs n y e = split_at xs n y (slice_get_within xs n y e)
    ∙ ap (λ z. take n xs ++ z ∷ drop (suc n) xs) (get_or_from_slice_get xs n y y e)

-- if no path in `all` has a root, and `all` begins with the paths xs and then x, joining xs and x
-- to `old` yields at most as many bytes as joining all of `all` to `old`
length-join_of_next : (old : List ℕ) (all xs : List Path) (x : Path)
    → map (λ x. x) xs ≡ take (length xs) all → Some x ≡ slice_get all (length xs)
    → AllRootless (bytes_of_each all)
    → length (join_of (fold join_of old (bytes_of_each xs)) x.bytes.now)
    ≤ length (fold join_of old (bytes_of_each all))
length-join_of_next old all xs x prefix at h =
    let rest = drop (suc (length xs)) all in
    let before = bytes_of_each xs in
    let onward = bytes_of_each (x ∷ rest) in grind (
      arith,
      slice_get-split all (length xs) x (sym at),
      map-id xs,
      map-append (λ x. x.bytes.now) xs (x ∷ rest),
      AllByRecursion-end,
      joins-append old before onward,
      length-joins,
    )

-- if the iterator `items` yields the paths `all`, none of which has a root, and its first paths up
-- to some path, joined to `old`, exceed `max_len` bytes (`JoinsBeginning`), so does `old` joined
-- with all of `all`
pub JoinsBeginning-exceeds : {S : Type 0} {steps : S → Option Path → S → Type 0} {items : S}
    {all : List Path} (old new : List ℕ) (max_len : ℕ) → YieldsList steps (λ x. x) items all
    → AllRootless (bytes_of_each all) → JoinsBeginning steps items old new max_len
    → max_len < length (fold join_of old (bytes_of_each all))
JoinsBeginning-exceeds {all = all} old new max_len yields h e =
    let prefix = YieldsList-so_far yields e.paths e.items_before.0 e.items_before.1 in
    let at =
    nth_from_yields_List (Some e.next) e.left (length e.paths)
    (e.paths, e.items_before, refl) yields in
    grind (arith, length-join_of_next)

-- if the items xs, mapped by v, are the first `length xs` items of the empty list, xs is empty
no_items : {A B : Type 0} (v : A → B) (xs : List A) → map v xs ≡ take (length xs) [] → xs ≡ []
no_items v [] e = refl
no_items v (x ∷ xs) e = absurd (omega (arith, ap length e))

-- if the list ys of items that the iterator `items` yields is empty, the empty path joined with any
-- number of its first items has at most 0 bytes
pub JoinsFit-none : {S B : Type 0} {steps : S → Option Path → S → Type 0} {items : S}
    (v : Path → B) (ys : List B) → ys ≡ [] → YieldsList steps v items ys
    → JoinsFit steps items [] 0
JoinsFit-none {steps = steps} v ys none yields run met from =
    let gave = took run in
    let so_far = YieldsList-so_far (subst (λ s. YieldsList steps v s ys) (sym from) yields)
    run.items gave.0 gave.1 in
    let nothing = no_items v run.items (so_far ∙ ap (take (length run.items)) none) in
    omega (arith, ap (λ paths. length (fold join_of [] (bytes_of_each paths))) nothing)
