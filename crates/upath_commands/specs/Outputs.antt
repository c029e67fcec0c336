-- What a buffer and its writer do to the bytes that the writer holds.
use Rattle.std.specs.Prelude.{◌≡◌, ◌⊎◌, ℕ, Bool, true, false, List, [], ◌++◌, take, codes}
use Rattle.std.specs.Prelude.{IsTrue, OnErr, OnOk, Option, Result, Ok, Err}
use Rattle.std.specs.Io.KnownBytes.{Appends}
use Rattle.std.specs.declared.io.Error.{Error}
use Rattle.byte_streams.specs.Calls.{Many, WritesAndFlushes, WritesSome, WritesThenNone}
use Rattle.byte_streams.specs.Calls.{WritesUntilNone}
use Rattle.byte_streams.specs.Watched.{AppendsPrefix, has_failed, is_flushed, watched_inner}
use Rattle.byte_streams.specs.declared.io_traits.Sink.{Ghosts as Sink}
use Rattle.byte_streams.specs.declared.watched.Watched.{Watched}
use Rattle.upath_commands.specs.declared.output.Output.{Output}
use Rattle.upath_commands.specs.declared.output.RunError.{RunError}
use Rattle.upath_commands.specs.declared.output.RunError.TheVariants.{Read, Write, Closed}
use Rattle.upath_commands.specs.declared.output.RunError.TheVariants.{Memory}

-- the error is one of a write, neither of a read nor of an allocation
abbrev pub IsOfWrite : RunError → Type 0
IsOfWrite error = (error ≡ Write) ⊎ (error ≡ Closed)

-- the result is an error of a read
abbrev pub is_read_error : {A : Type 0} → Result A RunError → Bool
is_read_error (Err Read) = true
is_read_error result = false

-- the result is an error of a write
abbrev pub is_write_error : {A : Type 0} → Result A RunError → Bool
is_write_error (Err Write) = true
is_write_error (Err Closed) = true
is_write_error result = false

-- the sink
abbrev pub written_to : {W : Type 0} → Output W → W
written_to output = watched_inner output.writer

-- a write or a flush of the output has failed
abbrev pub write_failed : {W : Type 0} → Output W → Bool
write_failed output = has_failed output.writer

-- the output was flushed, and nothing has been written since
abbrev pub has_flushed : {W : Type 0} → Output W → Bool
has_flushed output = is_flushed output.writer

-- the bytes that are not yet written
abbrev pub unwritten : {W : Type 0} → Output W → List ℕ
unwritten output = output.buffer.items

-- the bytes bs were added after the buffer, and some of its first bytes were appended to the
-- known bytes; the others are in the buffer
abbrev pub Emits : Option (List ℕ) → Option (List ℕ) → List ℕ → List ℕ → List ℕ → Type 0
Emits old new buffer rest bs =
    (written : List ℕ) × Appends old new written × (written ++ rest ≡ buffer ++ bs)

-- a prefix of the buffer and bs was appended to the known bytes
abbrev pub EmitsPrefix : Option (List ℕ) → Option (List ℕ) → List ℕ → List ℕ → Type 0
EmitsPrefix old new buffer bs = AppendsPrefix old new (buffer ++ bs)

-- the writes of the output: each wrote bytes, but for the last one if the result is an error, which
-- is one of a write if and only if that one failed
pub record Wrote {W A : Type 0} (w : Sink W) (result : Result A RunError) (old new : Output W)
    : Type 0 where
  pub failed : write_failed new ≡ is_write_error result
  pub writes : OnOk result (Many (WritesSome w.write_gives) (written_to old) (written_to new))
  pub gave_up : OnErr result (WritesUntilNone w.write_gives (written_to old) (written_to new))

-- the bytes bs were added; after an error a prefix of what waited and of bs was written
pub record Emitted {W A : Type 0} (w : Sink W) (result : Result A RunError) (old new : Output W)
    (bs : List ℕ) : Type 0 where
  pub ok : OnOk result (Emits (w.contents (written_to old)) (w.contents (written_to new))
      (unwritten old) (unwritten new) bs)
  pub err : OnErr result (EmitsPrefix (w.contents (written_to old)) (w.contents (written_to new))
      (unwritten old) bs)
  pub wrote : Wrote w result old new

-- the writes of the output, and then one flush; after an error there may be none of it
pub record Ended {W A : Type 0} (w : Sink W) (result : Result A RunError) (old new : Output W)
    : Type 0 where
  pub failed : write_failed new ≡ is_write_error result
  pub flushed : OnOk result (IsTrue (has_flushed new))
  pub flushes : OnOk result (WritesAndFlushes w.write_gives w.flush_gives (written_to old) (Ok tt)
      (written_to new))
  pub gave_up : OnErr result (WritesUntilNone w.write_gives (written_to old) (written_to new)
      ⊎ ((error : Error) × WritesAndFlushes w.write_gives w.flush_gives (written_to old) (Err error)
      (written_to new)))

-- what waited was written and flushed; after an error a prefix of it was written
pub record Finished {W A : Type 0} (w : Sink W) (result : Result A RunError) (old new : Output W)
    : Type 0 where
  pub ok : OnOk result (Appends (w.contents (written_to old)) (w.contents (written_to new))
      (unwritten old))
  pub err : OnErr result (AppendsPrefix (w.contents (written_to old)) (w.contents (written_to new))
      (unwritten old))
  pub ended : Ended w result old new

-- unless a write has failed until `after`, bs was appended to the known bytes
abbrev pub Tells : Bool → Bool → Option (List ℕ) → Option (List ℕ) → List ℕ → Type 0
Tells before after old new bs = after ≡ false → (before ≡ false) × Appends old new bs

-- the same of a prefix of bs
abbrev pub TellsPrefix : Bool → Bool → Option (List ℕ) → Option (List ℕ) → List ℕ → Type 0
TellsPrefix before after old new bs = (n : ℕ) × Tells before after old new (take n bs)

-- the writes of messages: each wrote bytes, but for the last one if `new` has failed and `old` has
-- not; there is none if `old` has failed
pub record Speaks {E : Type 0} (e : Sink E) (old new : Watched E) : Type 0 where
  pub spoke : has_failed new ≡ false
      → (has_failed old ≡ false) × Many (WritesSome e.write_gives) (watched_inner old)
      (watched_inner new)
  pub gave_up : has_failed old ≡ false → has_failed new ≡ true
      → WritesThenNone e.write_gives (watched_inner old) (watched_inner new)
  pub silent : has_failed old ≡ true → watched_inner new ≡ watched_inner old

-- bs was written, unless a write failed
pub record Told {E : Type 0} (e : Sink E) (old new : Watched E) (bs : List ℕ) : Type 0 where
  pub told : Tells (has_failed old) (has_failed new) (e.contents (watched_inner old))
      (e.contents (watched_inner new)) bs
  pub speaks : Speaks e old new

-- the line for an error of a run; none if the output is closed, for `quiet`, and if the caller
-- reports it
abbrev pub error_line : Bool → RunError → List ℕ
error_line false Read = codes "upath: read error\n"
error_line false Write = codes "upath: write error\n"
error_line false Memory = codes "upath: out of memory\n"
error_line is_quiet error = []
