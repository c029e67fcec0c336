-- The end of a run: the flush, and the message for an error.
use Rattle.std.proofs.Common.{◌≡◌, ◌⊎◌, ℕ, Bool, false, List, [], Option, Some}
use Rattle.std.proofs.Common.{Result, Ok, Err, is_ok, inl, inr, refl, true≢false}
use Rattle.std.specs.declared.io.Error.{Error}
use Rattle.std.proofs.KnownBytes.{Appends-nil}
use Rattle.byte_streams.specs.Calls.{WritesAndFlushes, WritesUntilNone}
use Rattle.byte_streams.specs.declared.io_traits.Sink.{Ghosts as Sink}
use Rattle.byte_streams.proofs.lemmas.CallLemmas.{Many-then, WritesUntilNone-then}
use Rattle.upath_commands.specs.Invocations.{InvocationValue}
use Rattle.upath_commands.specs.Outputs.{Ended, error_line, Finished, is_write_error, Told}
use Rattle.upath_commands.specs.Outputs.{Wrote, write_failed, written_to}
use Rattle.upath_commands.specs.Replies.{Added, answers_failed, answers_to, Broken, Gave, state_of}
use Rattle.upath_commands.specs.Runs.{Done, IsAnswer, OnBegun, OnPrinted, Ran, Reported}
use Rattle.upath_commands.specs.declared.output.Output.{Output}
use Rattle.upath_commands.specs.declared.output.RunError.{RunError}
use Rattle.upath_commands.specs.declared.output.RunError.TheVariants.{Memory}
use Rattle.upath_commands.specs.declared.replies.Replies.{Replies}
use Rattle.upath_commands.specs.declared.runs.Texts.{Texts}
use Rattle.upath_commands.proofs.lemmas.ArchiveLemmas.{OnBegun-failed, OnPrinted-begun}
use Rattle.upath_commands.proofs.lemmas.ArchiveLemmas.{OnPrinted-then}
use Rattle.upath_commands.proofs.lemmas.CallLemmas.{Speaks-then}
use Rattle.upath_commands.proofs.lemmas.OutputLemmas.{Tells-then}
use Rattle.upath_commands.proofs.lemmas.ReplyLemmas.{IfSome-then}
use Rattle.upath_commands.proofs.lemmas.RunLemmas.{Broken-after, Done-after}

module _ {W : Type 0} (w : Sink W) where
  -- writes, and then the last ones and a flush
  ended_then : {A B : Type 0} (x : A) (result : Result B RunError) (a b c : Output W)
      → Wrote {A = A} w (Ok x) a b → Ended {A = B} w result b c → Ended w result a c
  ended_then x (Ok y) a b c h k = record {
    failed = k.failed;
    flushed = k.flushed;
    flushes = let (u, writes, last) = k.flushes in (u, Many-then h.writes writes, last);
    gave_up = tt;
  }
  ended_then x (Err error) a b c h k = record {
    failed = k.failed;
    flushed = tt;
    flushes = tt;
    gave_up = gave_up_then k.gave_up;
  }
    where
      gave_up_then : (WritesUntilNone w.write_gives (written_to b) (written_to c)
          ⊎ ((error : Error) × WritesAndFlushes w.write_gives w.flush_gives (written_to b)
          (Err error) (written_to c)))
          → (WritesUntilNone w.write_gives (written_to a) (written_to c)
          ⊎ ((error : Error) × WritesAndFlushes w.write_gives w.flush_gives (written_to a)
          (Err error) (written_to c)))
      gave_up_then (inl calls) = inl (WritesUntilNone-then w.write_gives h.writes calls)
      gave_up_then (inr (error, (u, writes, last))) =
          inr (error, (u, Many-then h.writes writes, last))

  -- the result is another one
  pub ended_as : {A B : Type 0} (x : A) (y : B) (a b : Output W) → Ended {A = A} w (Ok x) a b
      → Ended {A = B} w (Ok y) a b
  ended_as x y a b h = record {
    failed = h.failed;
    flushed = h.flushed;
    flushes = h.flushes;
    gave_up = tt;
  }

  -- the error is passed on
  pub ended_error : {A B : Type 0} (error : RunError) (result : Result B RunError)
      (a b : Output W) → is_ok result ≡ false → write_failed b ≡ is_write_error result
      → Ended {A = A} w (Err error) a b → Ended w result a b
  ended_error error (Ok y) a b fails failed h = absurd (true≢false fails)
  ended_error error (Err other) a b fails failed h = record {
    failed = failed;
    flushed = tt;
    flushes = tt;
    gave_up = h.gave_up;
  }

module _ {W E : Type 0} (w : Sink W) (e : Sink E) (input : Option (List ℕ)) (texts : Texts)
    (value : InvocationValue) where
  -- no answer was given
  pub ran_broken : (error : RunError) (result : Result Bool RunError) (old new : Replies W E)
      → is_ok result ≡ false → answers_failed new ≡ is_write_error result
      → Gave w e (Err error) old new input (OnPrinted texts value) (OnBegun texts value)
      (IsAnswer value)
      → Ran w e result old new input (OnPrinted texts value) (OnBegun texts value)
      (IsAnswer value)
  ran_broken error (Ok x) old new fails failed h = absurd (true≢false fails)
  ran_broken error (Err other) old new fails failed h = record {
    ok = tt;
    answer = tt;
    err = h.err;
    ended = record {
      failed = failed;
      flushed = tt;
      flushes = tt;
      gave_up = inl h.called.wrote.gave_up;
    };
    speaks = h.called.speaks;
  }

  -- the answers were not all written or not flushed
  pub ran_unfinished : (is : Bool) (error : RunError) (result : Result Bool RunError)
      (old mid new : Replies W E) → is_ok result ≡ false
      → answers_failed new ≡ is_write_error result
      → Gave w e (Ok is) old mid input (OnPrinted texts value) (OnBegun texts value)
      (IsAnswer value)
      → Finished {A = Unit {0}} w (Err error) mid.answers new.answers
      → new.messages ≡ mid.messages
      → Ran w e result old new input (OnPrinted texts value) (OnBegun texts value)
      (IsAnswer value)
  ran_unfinished is error (Ok x) old mid new fails failed h k same = absurd (true≢false fails)
  ran_unfinished is error (Err other) old mid new fails failed h k same =
      let ended : Ended {A = Unit {0}} w (Err error) old.answers new.answers =
      ended_then w is (Err error) old.answers mid.answers new.answers h.called.wrote k.ended in
      record {
        ok = tt;
        answer = tt;
        err = IfSome-then input (λ input added. OnPrinted-begun
            (Added (state_of w e old) (state_of w e mid))
            (Broken (state_of w e old) (state_of w e new)) (λ output messages added.
            Broken-after (state_of w e old) (state_of w e mid) (state_of w e new) output messages
            added k.err (rw same refl) (rw same refl)) texts value input added) h.ok;
        ended = ended_error w error (Err other) old.answers new.answers refl failed ended;
        speaks = rw same h.called.speaks;
      }

  -- the answers were written and flushed
  pub ran : (is : Bool) (x : Unit {0}) (old mid new : Replies W E)
      → Gave w e (Ok is) old mid input (OnPrinted texts value) (OnBegun texts value)
      (IsAnswer value)
      → Finished {A = Unit {0}} w (Ok x) mid.answers new.answers → new.messages ≡ mid.messages
      → Ran w e (Ok is) old new input (OnPrinted texts value) (OnBegun texts value)
      (IsAnswer value)
  ran is x old mid new h k same = record {
    ok = IfSome-then input (λ input added. OnPrinted-then
        (Added (state_of w e old) (state_of w e mid)) (Done (state_of w e old) (state_of w e new))
        (λ output messages added.
        Done-after (state_of w e old) (state_of w e mid) (state_of w e new) output messages added
        k.ok (rw same refl) (rw same refl)) texts value input added) h.ok;
    answer = h.answer;
    err = tt;
    ended = ended_as w x is old.answers new.answers
        (ended_then w is (Ok x) old.answers mid.answers new.answers h.called.wrote k.ended);
    speaks = rw same h.called.speaks;
  }

  -- the line for the error was written
  pub reported_error : {A : Type 0} (error : RunError) (old mid new : Replies W E)
      (line : RunError → List ℕ)
      → Ran w e (Err error) old mid input (OnPrinted texts value) (OnBegun texts value)
      (IsAnswer value)
      → Told e mid.messages new.messages (line error) → new.answers ≡ mid.answers
      → Reported {A = A} w e (Err error) old new input (OnPrinted texts value)
      (OnBegun texts value) line
  reported_error error old mid new line h told same = record {
    ok = tt;
    err = IfSome-then input (λ input broken. OnBegun-failed (state_of w e old) (state_of w e mid)
        (state_of w e new) (line error) texts value input (rw same refl) told.told broken) h.err;
    speaks = Speaks-then e old.messages mid.messages new.messages h.speaks told.speaks;
  }

module _ {W E : Type 0} (w : Sink W) (e : Sink E) where
  -- the message for wrong usage failed
  pub refused : {A : Type 0} (old mid new : Replies W E) (usage : List ℕ)
      → Told e old.messages mid.messages []
      → Told e mid.messages new.messages (error_line false Memory)
      → new.answers ≡ old.answers
      → Reported {A = A} w e (Err Memory) old new (Some []) (λ input P. P [] usage)
      (λ input P. P [] usage) (error_line false)
  refused old mid new usage before told same = record {
    ok = tt;
    err = record {
      wrote = (0, rw same (Appends-nil (w.contents (answers_to old))));
      said = (0, Tells-then _ _ _ _ _ _ [] (error_line false Memory) before.told told.told);
    };
    speaks = Speaks-then e old.messages mid.messages new.messages before.speaks told.speaks;
  }
