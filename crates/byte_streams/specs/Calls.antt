-- Sequences of calls of a source or a sink. The parameters `call`, `gives` and `flush` are
-- relations of one call: they relate the states before and after it, and its arguments and its
-- result, if any.
use Rattle.std.specs.Prelude.{◌≡◌, ℕ, suc, ◌-◌, ◌^◌, ◌<◌, ◌⊎◌, List, Result, Ok, IfOk, IsErrAnd}
use Rattle.std.specs.IoError.{error_kind}
use Rattle.std.specs.declared.io.ErrorKind.TheVariants.{Interrupted}
use Rattle.std.specs.declared.io.Error.{Error}
use Rattle.byte_streams.specs.declared.std_io.StdIo.{StdIo}
use Rattle.byte_streams.specs.declared.retry.RetryInterrupted.{RetryInterrupted}

-- the reader or writer of the standard library
abbrev pub std_io_inner : {T : Type 0} → StdIo T → T
std_io_inner e = e.inner

-- the inner source or sink, whose interrupted calls are repeated
abbrev pub retry_inner : {T : Type 0} → RetryInterrupted T → T
retry_inner p = p.inner

-- n calls in a row from the state s on; `call` relates the states before and after each call
pub data Calls {S : Type 0} (call : S → S → Type 0) (s : S) : ℕ → S → Type 0 where
  none : Calls call s 0 s
  more : {n : ℕ} {u t : S} → Calls call s n u → call u t → Calls call s (suc n) t

-- any number of calls in a row; `call` relates the states before and after each call
abbrev pub Many : {S : Type 0} → (S → S → Type 0) → S → S → Type 0
Many call s t = (n : ℕ) × Calls call s n t

-- one read, with the relation `gives`, that returned at least one byte
abbrev pub ReadsSome : {S : Type 0} → (S → List ℕ → Result ℕ Error → List ℕ → S → Type 0)
    → S → S → Type 0
ReadsSome gives s t = (b : List ℕ) × ((c : List ℕ) × ((n : ℕ) × (0 < n) × gives s b (Ok n) c t))

-- one read, with the relation `gives`, that returned no byte or failed
abbrev pub ReadsNone : {S : Type 0} → (S → List ℕ → Result ℕ Error → List ℕ → S → Type 0)
    → S → S → Type 0
ReadsNone gives s t = (b : List ℕ) × ((c : List ℕ) × ((r : Result ℕ Error)
    × IfOk r (λ n. n ≡ 0) × gives s b r c t))

-- any number of reads that returned at least one byte each, and then at most one that returned no
-- byte or failed
abbrev pub ReadsUntilNone : {S : Type 0} → (S → List ℕ → Result ℕ Error → List ℕ → S → Type 0)
    → S → S → Type 0
ReadsUntilNone gives s t = (u : _) × Many (ReadsSome gives) s u × ((u ≡ t) ⊎ ReadsNone gives u t)

-- one write, with the relation `gives`, that wrote at least one byte
abbrev pub WritesSome : {S : Type 0} → (S → List ℕ → Result ℕ Error → S → Type 0)
    → S → S → Type 0
WritesSome gives s t = (b : List ℕ) × ((n : ℕ) × (0 < n) × gives s b (Ok n) t)

-- one write, with the relation `gives`, that wrote no byte or failed
abbrev pub WritesNone : {S : Type 0} → (S → List ℕ → Result ℕ Error → S → Type 0)
    → S → S → Type 0
WritesNone gives s t =
    (b : List ℕ) × ((r : Result ℕ Error) × IfOk r (λ n. n ≡ 0) × gives s b r t)

-- any number of writes that wrote at least one byte each, and then one that wrote no byte or failed
abbrev pub WritesThenNone : {S : Type 0} → (S → List ℕ → Result ℕ Error → S → Type 0)
    → S → S → Type 0
WritesThenNone gives s t = (u : _) × Many (WritesSome gives) s u × WritesNone gives u t

-- any number of writes that wrote at least one byte each, and then at most one that wrote no byte
-- or failed
abbrev pub WritesUntilNone : {S : Type 0} → (S → List ℕ → Result ℕ Error → S → Type 0)
    → S → S → Type 0
WritesUntilNone gives s t = (u : _) × Many (WritesSome gives) s u × ((u ≡ t) ⊎ WritesNone gives u t)

-- any number of writes that wrote at least one byte each, and then one flush, with the relation
-- `flush` and the result r
abbrev pub WritesAndFlushes : {S : Type 0} → (S → List ℕ → Result ℕ Error → S → Type 0)
    → (S → Result (Unit {0}) Error → S → Type 0) → S → Result (Unit {0}) Error → S → Type 0
WritesAndFlushes gives flush s r t = (u : _) × Many (WritesSome gives) s u × flush u r t

-- the system interrupted the call with the result r
abbrev pub WasInterrupted : {A : Type 0} → Result A Error → Type 0
WasInterrupted r = IsErrAnd r (λ e. error_kind e ≡ Interrupted)

-- one call, with the relation `gives`, that the system interrupted
abbrev pub Interrupts : {S A : Type 0} → (S → Result A Error → S → Type 0) → S → S → Type 0
Interrupts gives s t = (r : Result _ Error) × WasInterrupted r × gives s r t

-- any number of calls that the system interrupted, and then a last call, with the result r, which
-- the system didn't interrupt or which is the 2^64th call
abbrev pub WithRetries : {S A : Type 0} → (S → Result A Error → S → Type 0)
    → S → Result A Error → S → Type 0
WithRetries gives s r t = (n : ℕ) × ((u : _) × Calls (Interrupts gives) s n u × gives u r t
    × ((¬ WasInterrupted r) ⊎ (n ≡ 2 ^ 64 - 1)))

-- one read, with the relation `gives`, for which the source and its buffer are one state
abbrev pub WithBuffer : {S : Type 0} → (S → List ℕ → Result ℕ Error → List ℕ → S → Type 0)
    → S × List ℕ → Result ℕ Error → S × List ℕ → Type 0
WithBuffer gives x r y = gives x.0 x.1 r y.1 y.0
