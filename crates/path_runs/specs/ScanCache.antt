-- What the cache of a list of edits records about the path's leading bytes. No public clause cites
-- these definitions.
use Rattle.std.specs.Prelude.{◌≡◌, ◌<◌, ◌≤◌, ℕ, List, length, slice_index, take, Some}
use Rattle.unix_path.specs.Parts.{parts}
use Rattle.unix_path.specs.Edits.{stem_end_of}
use Rattle.unix_path.specs.Scan.{EndsInPart}
use Rattle.path_runs.specs.declared.edits.cache.ScanCache.{ScanCache}
use Rattle.path_runs.specs.declared.edits.stems.Stems.{Stems}

-- in the first `len` bytes of s, the last component ends at index `end`, exclusive, and only filler
-- follows it; `end` is 0 if these bytes have no component
pub record CachesEnd (s : List ℕ) (end len : ℕ) : Type 0 where
  pub in_order : end ≤ len
  pub in_range : len ≤ length s
  pub same : parts (take end s) ≡ parts (take len s)
  pub ends : EndsInPart (take end s)

-- the first `stem` bytes of s end in a name without an extension, or `stem` is 0
pub record CachesStem (s : List ℕ) (stem : ℕ) : Type 0 where
  pub in_range : stem ≤ length s
  pub ends : 0 < stem → stem_end_of (take stem s) ≡ Some stem

-- there are 32 offsets, the first is 0, and the offsets up to index `last`, which is less than 32,
-- are in ascending order; this includes the offset at `last`
pub record IsStack (stems : Stems) : Type 0 where
  pub size : length stems.offsets ≡ 32
  pub in_range : stems.last < 32
  pub first : slice_index stems.offsets 0 ≡ 0
  pub ascending : (i j : ℕ) → i ≤ j → j ≤ stems.last
      → slice_index stems.offsets i ≤ slice_index stems.offsets j

-- each offset up to index `last`, inclusive, is 0 or the length of a prefix of s that ends in a
-- name without an extension
abbrev pub CachesStems : List ℕ → Stems → Type 0
CachesStems s stems = (i : ℕ) → i ≤ stems.last → CachesStem s (slice_index stems.offsets i)

-- everything that the cache has recorded is true of s
pub record IsCacheOf (s : List ℕ) (cache : ScanCache) : Type 0 where
  pub end : CachesEnd s cache.end cache.len
  pub stack : IsStack cache.stems
  pub stems : CachesStems s cache.stems
