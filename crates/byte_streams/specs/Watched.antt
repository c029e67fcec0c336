-- What a watched source or sink records.
use Rattle.std.specs.Prelude.{ℕ, Bool, false, ◌&&◌, ◌==◌, not, Result, Ok, Err, List, take}
use Rattle.std.specs.Prelude.{Option}
use Rattle.std.specs.Io.KnownBytes.{Appends}
use Rattle.byte_streams.specs.declared.watched.Watched.{Watched}

-- the watched source or sink
abbrev pub watched_inner : {T : Type 0} → Watched T → T
watched_inner w = w.inner

-- a call has failed, or a write of one byte or more has written none
abbrev pub has_failed : {T : Type 0} → Watched T → Bool
has_failed w = w.failed

-- a read into a buffer that isn't empty has succeeded with no byte
abbrev pub has_ended : {T : Type 0} → Watched T → Bool
has_ended w = w.ended

-- a flush has succeeded, and nothing has been written or flushed since
abbrev pub is_flushed : {T : Type 0} → Watched T → Bool
is_flushed w = w.flushed

-- a call succeeded and transferred none of `len` bytes, although `len` is not 0
abbrev pub transfers_none : {E : Type 0} → Result ℕ E → ℕ → Bool
transfers_none (Ok n) len = n == 0 && not (len == 0)
transfers_none (Err e) len = false

-- if the contents `old` and `new` of a sink are known, `new` is `old` and then a prefix of bs
abbrev pub AppendsPrefix : Option (List ℕ) → Option (List ℕ) → List ℕ → Type 0
AppendsPrefix old new bs = (n : ℕ) × Appends old new (take n bs)
