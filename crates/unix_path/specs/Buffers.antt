-- Definitions for contracts of owned paths (Rust's `PathBuf`).
use Rattle.std.specs.Prelude.{◌≡◌, ◌<◌, ◌≤◌, ℕ, ◌+◌, List, fold, length, map, Option, Some}
use Rattle.std.specs.Iterator.{Drains, YieldsThen}
use Rattle.std.specs.Iterator.Runs.{EachRunFrom}
use Rattle.unix_bytes.specs.Owned.{owned_bytes, owned_capacity}
use Rattle.unix_path.specs.Joins.{join_of}
use Rattle.unix_path.specs.declared.buf.PathBuf.{PathBuf}
use Rattle.unix_path.specs.declared.path.Path.{Path}

-- the bytes of an owned path
abbrev pub path_bytes : PathBuf → List ℕ
path_bytes p = owned_bytes p.inner

-- the capacity of an owned path: how many bytes it can hold before it grows
abbrev pub capacity : PathBuf → ℕ
capacity p = owned_capacity p.inner

-- the bytes of each of these paths
abbrev pub bytes_of_each : List Path → List (List ℕ)
bytes_of_each paths = map (λ path. path.bytes.now) paths

-- `new` is `old` joined with all items of the iterator `items`, one after the other
pub record JoinsAll {S : Type 0} (steps : S → Option Path → S → Type 0) (items : S)
    (old new : List ℕ) : Type 0 where
  pub paths : List Path
  pub all_items : Drains steps items paths
  pub bytes : new ≡ fold join_of old (bytes_of_each paths)

-- `new` is `old` joined with the first items of the iterator `items`, one after the other, and the
-- join of `new` with the next item is longer than `max_len` bytes
pub record JoinsBeginning {S : Type 0} (steps : S → Option Path → S → Type 0) (items : S)
    (old new : List ℕ) (max_len : ℕ) : Type 0 where
  pub paths : List Path
  pub next : Path
  pub left : S
  pub items_before : YieldsThen steps items paths (Some next) left
  pub bytes : new ≡ fold join_of old (bytes_of_each paths)
  pub longer : max_len < length (join_of new next.bytes.now)

-- `old` joined with any number of first items of the iterator `items`, one after the other, has at
-- most `max_len` bytes
abbrev pub JoinsFit : {S : Type 0} (steps : S → Option Path → S → Type 0) (items : S)
    (old : List ℕ) (max_len : ℕ) → Type 0
JoinsFit steps items old max_len =
    EachRunFrom steps items (λ run. length (fold join_of old (bytes_of_each run.items)) ≤ max_len)

-- for any number of first items of the iterator `items`, the sum of their lengths, plus 1 for each
-- item, is at most `max_len`
abbrev pub ItemsFit : {S : Type 0} (steps : S → Option Path → S → Type 0) (items : S) (max_len : ℕ)
    → Type 0
ItemsFit steps items max_len = EachRunFrom steps items
    (λ run. fold (λ sum path. sum + (1 + length path.bytes.now)) 0 run.items ≤ max_len)
