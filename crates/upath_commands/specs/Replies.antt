-- What a run does to the writers of answers and messages.
use Rattle.std.specs.Prelude.{◌≡◌, ℕ, Bool, true, false, ◌&&◌, ◌||◌, List, [], Option, Result}
use Rattle.std.specs.Prelude.{IfErr, IfOk, IfSome, OnErr, OnOk}
use Rattle.std.specs.List.{list_all, list_any}
use Rattle.byte_streams.specs.Calls.{ReadsUntilNone}
use Rattle.byte_streams.specs.Watched.{has_failed, watched_inner}
use Rattle.byte_streams.specs.declared.io_traits.Sink.{Ghosts as Sink}
use Rattle.byte_streams.specs.declared.io_traits.Source.{Ghosts as Source}
use Rattle.byte_streams.specs.declared.watched.Watched.{Watched}
use Rattle.upath_commands.specs.Invocations.{TaskValue}
use Rattle.upath_commands.specs.Outputs.{Emits, EmitsPrefix, Speaks, Tells, TellsPrefix, Wrote}
use Rattle.upath_commands.specs.Outputs.{has_flushed, is_read_error, unwritten, write_failed}
use Rattle.upath_commands.specs.Outputs.{written_to}
use Rattle.upath_commands.specs.Tasks.{answers, messages_of, output_of}
use Rattle.upath_commands.specs.declared.output.RunError.{RunError}
use Rattle.upath_commands.specs.declared.output.RunError.TheVariants.{Read}
use Rattle.upath_commands.specs.declared.replies.Replies.{Replies}

-- the bytes that the writer of answers has got, if they are known, those that it is still to get,
-- and whether a write or a flush of them failed; the bytes that the writer of messages has got, and
-- whether one of its writes failed; whether all paths so far were answered, and whether any was
pub record State : Type 0 where
  pub written : Option (List ℕ)
  pub pending : List ℕ
  pub write_failed : Bool
  pub told : Option (List ℕ)
  pub is_deaf : Bool
  pub all : Bool
  pub any : Bool

-- the sink of answers
abbrev pub answers_to : {W E : Type 0} → Replies W E → W
answers_to replies = written_to replies.answers

-- a write or a flush of answers has failed
abbrev pub answers_failed : {W E : Type 0} → Replies W E → Bool
answers_failed replies = write_failed replies.answers

-- the answers were flushed, and nothing has been written since
abbrev pub answers_flushed : {W E : Type 0} → Replies W E → Bool
answers_flushed replies = has_flushed replies.answers

-- the sink of messages
abbrev pub messages_to : {W E : Type 0} → Replies W E → E
messages_to replies = watched_inner replies.messages

-- a write of a message has failed
abbrev pub is_deaf : {W E : Type 0} → Replies W E → Bool
is_deaf replies = has_failed replies.messages

-- the state of these replies, with what their sinks hold
abbrev pub state_of : {W E : Type 0} → Sink W → Sink E → Replies W E → State
state_of w e replies = record {
  written = w.contents (answers_to replies);
  pending = unwritten replies.answers;
  write_failed = answers_failed replies;
  told = e.contents (messages_to replies);
  is_deaf = is_deaf replies;
  all = replies.tally.all;
  any = replies.tally.any;
}

-- no path was answered, nothing is to be written, and no call failed
pub record IsNew {W E : Type 0} (replies : Replies W E) : Type 0 where
  pub pending : unwritten replies.answers ≡ []
  pub write_failed : answers_failed replies ≡ false
  pub all : replies.tally.all ≡ true
  pub any : replies.tally.any ≡ false

-- this output and these messages were added
pub record Added (old new : State) (output messages : List ℕ) : Type 0 where
  pub wrote : Emits old.written new.written old.pending new.pending output
  pub said : Tells old.is_deaf new.is_deaf old.told new.told messages

-- prefixes of them were added
pub record Broken (old new : State) (output messages : List ℕ) : Type 0 where
  pub wrote : EmitsPrefix old.written new.written old.pending output
  pub said : TellsPrefix old.is_deaf new.is_deaf old.told new.told messages

-- the answers and the messages of these paths were added
pub record Answered (task : TaskValue) (old new : State) (paths : List (List ℕ)) : Type 0 where
  pub wrote : Emits old.written new.written old.pending new.pending (output_of task paths)
  pub said : Tells old.is_deaf new.is_deaf old.told new.told (messages_of task paths)
  pub all : new.all ≡ (old.all && list_all (answers task) paths)
  pub any : new.any ≡ (old.any || list_any (answers task) paths)

-- prefixes of the answers and of the messages of these paths were added
abbrev pub Stopped : TaskValue → State → State → List (List ℕ) → Type 0
Stopped task old new paths = Broken old new (output_of task paths) (messages_of task paths)

-- the writes of answers and of messages
pub record Called {W E A : Type 0} (w : Sink W) (e : Sink E) (result : Result A RunError)
    (old new : Replies W E) : Type 0 where
  pub wrote : Wrote w result old.answers new.answers
  pub speaks : Speaks e old.messages new.messages

-- the reads: each returned bytes, but for the last, which failed if and only if the result says so
pub record ReadCalls {R A : Type 0} (r : Source R) (result : Result A RunError)
    (old new : Watched R) : Type 0 where
  pub failed : has_failed new ≡ is_read_error result
  pub reads : ReadsUntilNone r.read_gives (watched_inner old) (watched_inner new)

-- these paths were answered; after an error prefixes of the answers and of the messages were added
pub record Replied {W E A : Type 0} (w : Sink W) (e : Sink E) (task : TaskValue)
    (result : Result A RunError) (old new : Replies W E) (paths : List (List ℕ)) : Type 0 where
  pub ok : OnOk result (Answered task (state_of w e old) (state_of w e new) paths)
  pub err : OnErr result (Stopped task (state_of w e old) (state_of w e new) paths)
  pub no_read : IfErr result (λ error. (error ≡ Read) → ⊥)
  pub called : Called w e result old new

-- the same of the paths of an input, if it is known, which is read
pub record RepliedTo {R W E A : Type 0} (r : Source R) (w : Sink W) (e : Sink E)
    (task : TaskValue) (result : Result A RunError) (reader after : Watched R)
    (old new : Replies W E) (paths : List ℕ → List (List ℕ)) : Type 0 where
  pub ok : OnOk result (IfSome (r.remaining (watched_inner reader)) (λ input.
      Answered task (state_of w e old) (state_of w e new) (paths input)))
  pub err : OnErr result (IfSome (r.remaining (watched_inner reader)) (λ input.
      Stopped task (state_of w e old) (state_of w e new) (paths input)))
  pub called : Called w e result old new
  pub reads : ReadCalls r result reader after

-- a fact about an output and its messages
abbrev pub OfPrinted : Type 1
OfPrinted = List ℕ → List ℕ → Type 0

-- for a known input an output and messages were added of which `printed` says what they are, and
-- the result is its answer; after an error prefixes of those that `begun` tells
pub record Gave {W E : Type 0} (w : Sink W) (e : Sink E) (result : Result Bool RunError)
    (old new : Replies W E) (input : Option (List ℕ)) (printed begun : List ℕ → OfPrinted → Type 0)
    (is_answer : List ℕ → Bool → Type 0) : Type 0 where
  pub ok : OnOk result (IfSome input (λ input.
      printed input (Added (state_of w e old) (state_of w e new))))
  pub answer : IfOk result (λ is. IfSome input (λ input. is_answer input is))
  pub err : OnErr result (IfSome input (λ input.
      begun input (Broken (state_of w e old) (state_of w e new))))
  pub called : Called w e result old new

-- the same of a known output with known messages
abbrev pub GaveThis : {W E : Type 0} → Sink W → Sink E → Result Bool RunError → Replies W E
    → Replies W E → Option (List ℕ) → (List ℕ → List ℕ) → (List ℕ → List ℕ) → (List ℕ → Bool)
    → Type 0
GaveThis w e result old new input output messages is_yes = Gave w e result old new input
    (λ input P. P (output input) (messages input)) (λ input P. P (output input) (messages input))
    (λ input is. is ≡ is_yes input)
