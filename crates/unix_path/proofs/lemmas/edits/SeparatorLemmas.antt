-- The length of a join, and joins with several paths.
use Rattle.std.proofs.Common.{◌≡◌, ℕ, ◌+◌, ◌-◌, ◌≤◌, List, [], ◌∷◌, ◌++◌, length, refl, ap}
use Rattle.std.proofs.Common.{arith, false, Option, Some}
use Rattle.std.proofs.iter.runs.Made.{run, seen, to_item}
use Rattle.std.specs.Iterator.{Yields}
use Rattle.std.specs.Prelude.{fold}
use Rattle.std.proofs.Math.Seq.{take-length}
use Rattle.unix_path.specs.Joins.{join_of}
use Rattle.unix_path.specs.Buffers.{bytes_of_each, ItemsFit, JoinsFit}
use Rattle.unix_path.specs.declared.path.Path.{Path}
use Rattle.unix_bytes.proofs.lemmas.lists.ListLemmas.{by_test, take-beginning}
use Rattle.unix_path.proofs.lemmas.edits.JoinLemmas.{join_of_rooted, join_of_no_separator}
use Rattle.unix_path.proofs.lemmas.edits.JoinLemmas.{join_of_separator}
use Rattle.unix_path.proofs.lemmas.edits.JoinLemmas.{length-join_of_no_separator}
use Rattle.unix_path.proofs.lemmas.edits.JoinLemmas.{length-join_of_separator}

pub ruleset join_cases = (join_of_rooted, join_of_no_separator, join_of_separator, take-length)

pub ruleset beginnings = (take-beginning, take-length)

-- joining `paths` and then `path` to a is the same as joining `path` to the join of a with `paths`
pub joins_snoc : (a : List ℕ) (paths : List Path) (path : Path)
    → fold join_of a (bytes_of_each (paths ++ path ∷ []))
    ≡ join_of (fold join_of a (bytes_of_each paths)) path.bytes.now
joins_snoc a [] path = refl
joins_snoc a (p ∷ paths) path = joins_snoc (join_of a p.bytes.now) paths path

-- the length of the join of a and b is at most the sum of the lengths of a and b, plus 1
length-join_of-max_len : (a b : List ℕ) → length (join_of a b) ≤ length a + (1 + length b)
length-join_of-max_len a b =
    grind (arith, join_of_rooted, length-join_of_no_separator, length-join_of_separator)

-- the sum of a number, of the lengths of these paths, and of 1 for each path
abbrev pub sum_of_paths : ℕ → List Path → ℕ
sum_of_paths = fold (λ sum path. sum + (1 + length path.bytes.now))

-- the length of the join of a with all of `paths` is at most the length of a, plus the lengths of
-- `paths`, plus 1 for each of them (n is added on both sides)
length-joins-max_len : (a : List ℕ) (n : ℕ) (paths : List Path)
    → length (fold join_of a (bytes_of_each paths)) + n ≤ length a + sum_of_paths n paths
length-joins-max_len a n [] = omega arith
length-joins-max_len a n (p ∷ paths) =
    let one = join_of a p.bytes.now in
    let more = n + (1 + length p.bytes.now) in
    grind (arith, length-join_of-max_len, length-joins-max_len one more paths)

-- if the lengths of any number of first items of the iterator `items`, plus 1 for each item, add up
-- to at most what `old` leaves of `max_len`, then joining these items to `old` leaves at most
-- `max_len` bytes
pub JoinsFit-lengths : {S : Type 0} {steps : S → Option Path → S → Type 0} {items : S}
    (old : List ℕ) (max_len : ℕ) → length old ≤ max_len
    → ItemsFit steps items (max_len - length old) → JoinsFit steps items old max_len
JoinsFit-lengths old max_len holds fits run met from =
    omega (arith, length-joins-max_len old 0 run.items, fits run met from)

-- if `old` joined with any number of first items of the iterator `items` has at most `max_len`
-- bytes, and the first items of `items` are `paths` and then `path`, then `old` joined with `paths`
-- and then with `path` has at most `max_len` bytes
pub JoinsFit-next : {S : Type 0} {steps : S → Option Path → S → Type 0} {items from : S}
    (old : List ℕ) (max_len : ℕ) → JoinsFit steps items old max_len → from ≡ items
    → (paths : List Path) (s t : S) (path : Path) → Yields steps from paths s
    → steps s (Some path) t
    → length (join_of (fold join_of old (bytes_of_each paths)) path.bytes.now) ≤ max_len
JoinsFit-next {steps = steps} {from = from} old max_len fits is paths s t path yields call =
    let all = paths ++ path ∷ [] in
    let whole : length (fold join_of old (bytes_of_each all)) ≤ max_len =
    fits (run steps from all false (to_item steps from t paths path (s, yields, call)))
    (seen (length all)) is in
    omega (arith, whole, ap length (joins_snoc old paths path))
