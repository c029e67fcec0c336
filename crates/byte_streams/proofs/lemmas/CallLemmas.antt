-- Calls in a row, followed by more calls.
use Rattle.std.proofs.Common.{ℕ, suc, ◌+◌, add-one, List, Result}
use Rattle.std.specs.declared.io.Error.{Error}
use Rattle.byte_streams.specs.Calls.{Calls, Many, WritesSome, WritesUntilNone}
use Rattle.byte_streams.specs.Calls.Calls.{none, more}

-- any number of calls, followed by one more call, are again any number of calls
pub Many-more : {S : Type 0} {call : S → S → Type 0} {s u t : S} → Many call s u → call u t
    → Many call s t
Many-more (n, before) last = (suc n, more before last)

-- no call at all also counts as any number of calls
pub Many-none : {S : Type 0} {call : S → S → Type 0} (s : S) → Many call s s
Many-none s = (0, none)

Calls-then : {S : Type 0} {call : S → S → Type 0} {s u t : S} {n : ℕ} → Many call s u
    → Calls call u n t → Many call s t
Calls-then before none = before
Calls-then before (more calls last) = Many-more (Calls-then before calls) last

-- any number of calls, followed by any number of calls, are again any number of calls
pub Many-then : {S : Type 0} {call : S → S → Type 0} {s u t : S} → Many call s u → Many call u t
    → Many call s t
Many-then before (n, calls) = Calls-then before calls

-- any number of writes that wrote at least one byte each, followed by writes in the relation
-- `WritesUntilNone`, are all together in the relation `WritesUntilNone`
pub WritesUntilNone-then : {S : Type 0} (gives : S → List ℕ → Result ℕ Error → S → Type 0)
    {s u t : S}
    → Many (WritesSome gives) s u → WritesUntilNone gives u t → WritesUntilNone gives s t
WritesUntilNone-then gives before (v, calls, last) = (v, Many-then before calls, last)

-- n calls and one more call are n + 1 calls
pub Calls-more : {S : Type 0} {call : S → S → Type 0} {s u t : S} {n : ℕ} → Calls call s n u
    → call u t → Calls call s (n + 1) t
Calls-more before last = rw add-one (more before last)
