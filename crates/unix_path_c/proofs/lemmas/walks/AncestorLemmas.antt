-- The ancestors that remain of a path, by the length of the next ancestor.
use Rattle.std.proofs.Common.{◌≡◌, ℕ, ◌≤◌, ◌<◌, cond, leb, List, [], ◌∷◌, length, take}
use Rattle.std.proofs.Common.{Some, None, sym, ap, ◌∙◌, arith, length-take-le}
use Rattle.std.proofs.lemmas.Bool.{le-leb, leb-true}
use Rattle.std.proofs.lemmas.List.{take-take}
use Rattle.unix_path.specs.Parents.{ancestors_of, parent_of}
use Rattle.unix_path.proofs.lemmas.callers.CallerLemmas.{ancestors_of-alone, ancestors_of-above}
use Rattle.unix_bytes.proofs.lemmas.lists.ListLemmas.{by_test}
use Rattle.unix_path_c.specs.Ancestors.{remaining_ancestors}
use Rattle.unix_path_c.proofs.lemmas.spans.PlaceLemmas.{parent_inside}

-- if n is at most the path's length, the remaining ancestors are those of its first n bytes
remaining_ancestors-in_range : (path : List ℕ) (n : ℕ) → n ≤ length path
    → remaining_ancestors path n ≡ ancestors_of (take n path)
remaining_ancestors-in_range path n l =
    ap (λ c. cond c (ancestors_of (take n path)) []) (le-leb n (length path) l)

-- if n is greater than the path's length, no ancestor remains
pub remaining_ancestors-past : (path : List ℕ) (n : ℕ) → length path < n
    → remaining_ancestors path n ≡ []
remaining_ancestors-past path n past = by_test (leb n (length path))
    (λ e. let within = leb-true n (length path) e in absurd (omega arith))
    (λ e. ap (λ c. cond c (ancestors_of (take n path)) []) e)

-- if the first n bytes have no parent, and m is greater than the path's length, the remaining
-- ancestors for n are these bytes and then those for m, which are none
pub remaining_ancestors-last : (path : List ℕ) (n m : ℕ) → n ≤ length path
    → None ≡ parent_of (take n path) → length path < m
    → remaining_ancestors path n ≡ take n path ∷ remaining_ancestors path m
remaining_ancestors-last path n m l none past =
    let s = take n path in
    remaining_ancestors-in_range path n l ∙ ancestors_of-alone s (sym none)
    ∙ ap (λ xs. s ∷ xs) (sym (remaining_ancestors-past path m past))

-- if the first n bytes have a parent, the remaining ancestors are these bytes and then the
-- ancestors of the parent
pub remaining_ancestors-parent : (path parent : List ℕ) (n : ℕ) → n ≤ length path
    → Some parent ≡ parent_of (take n path)
    → remaining_ancestors path n ≡ take n path ∷ remaining_ancestors path (length parent)
remaining_ancestors-parent path parent n l some =
    let s = take n path in
    let stands = parent_inside s parent some in
    let shorter : length parent ≤ n = omega (arith, stands.inside, length-take-le n path l) in
    let begins : take (length parent) path ≡ parent =
    sym (take-take (length parent) n path shorter) ∙ stands.bytes in
    remaining_ancestors-in_range path n l ∙ ancestors_of-above s parent (sym some)
    ∙ ap (λ xs. s ∷ xs) (ap ancestors_of (sym begins)
    ∙ sym (remaining_ancestors-in_range path (length parent) (omega (arith, shorter, l))))

-- if n is at most the path's length, an ancestor remains
some_remains : (path : List ℕ) (n : ℕ) → n ≤ length path → remaining_ancestors path n ≡ [] → ⊥
unfolding ancestors_of
some_remains path n l none = let no = sym (remaining_ancestors-in_range path n l) ∙ none in cc

-- if the first n bytes have a parent, an ancestor remains for the length of the parent
pub parent_remains : (path parent : List ℕ) (n : ℕ) → n ≤ length path
    → Some parent ≡ parent_of (take n path) → remaining_ancestors path (length parent) ≡ [] → ⊥
parent_remains path parent n l some =
    let stands = parent_inside (take n path) parent some in
    some_remains path (length parent) (omega (arith, stands.inside, length-take-le n path l))
