-- Calls at both ends of a walk, mixed in any order (Rust's `DoubleEndedIterator`).
use Rattle.std.specs.Prelude.{◌≡◌, ℕ, List, [], ◌++◌, Option, map, reverse, length}
use Rattle.std.specs.Option.{option_to_list}
use Rattle.unix_path.specs.Rest.{rest}

-- calls of `next` and `next_back`, in any order, lead from the walk `from` to another walk; `next`
-- yielded the first list of items, and `next_back` the second, each in the order of the calls
pub data GivesMixed {S A : Type 0} (next next_back : S → Option A → S → Type 0) (from : S)
    : List A → List A → S → Type 0 where
  start : GivesMixed next next_back from [] [] from
  front : {xs ys : List A} {s t : S} (item : Option A)
      → GivesMixed next next_back from xs ys s → next s item t
      → GivesMixed next next_back from (xs ++ option_to_list item) ys t
  at_back : {xs ys : List A} {s t : S} (item : Option A)
      → GivesMixed next next_back from xs ys s → next_back s item t
      → GivesMixed next next_back from xs (ys ++ option_to_list item) t

-- however calls at both ends are mixed, the items that remained before are those that `next`
-- yielded, then those that still remain, then those that `next_back` yielded, in reverse
abbrev pub EndsMeet : {S A V : Type 0} → (A → V) → (S → List V)
    → (S → Option A → S → Type 0) → (S → Option A → S → Type 0) → Type 0
EndsMeet {S} {A} shows pending next next_back =
    (old new : S) (front at_back : List A) → GivesMixed next next_back old front at_back new
    → map shows front ++ pending new ++ reverse (map shows at_back) ≡ pending old

-- however calls at both ends are mixed, the bytes that remain are the bytes that remained before,
-- without one leading component for each item that `next` yielded, and one trailing component for
-- each item that `next_back` yielded
abbrev pub RestIsBetween : {S A : Type 0} → (S → List ℕ)
    → (S → Option A → S → Type 0) → (S → Option A → S → Type 0) → Type 0
RestIsBetween {S} {A} bytes next next_back =
    (old new : S) (front at_back : List A) → GivesMixed next next_back old front at_back new
    → bytes new ≡ rest (bytes old) (length front) (length at_back)
