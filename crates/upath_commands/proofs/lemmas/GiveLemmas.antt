-- The answers of a whole run, and the calls of its sinks.
use Rattle.std.proofs.Common.{◌≡◌, ◌⊎◌, ◌↔◌, ℕ, Bool, true, false, List, [], Option, Some}
use Rattle.std.proofs.Common.{Result, Ok, Err, IfSome, is_ok, inl, inr}
use Rattle.std.proofs.Common.{append-nil, refl, sym, ◌∙◌, true≢false}
use Rattle.byte_streams.specs.Watched.{watched_inner}
use Rattle.byte_streams.specs.declared.io_traits.Sink.{Ghosts as Sink}
use Rattle.byte_streams.specs.declared.io_traits.Source.{Ghosts as Source}
use Rattle.byte_streams.specs.declared.watched.Watched.{Watched}
use Rattle.byte_streams.proofs.lemmas.CallLemmas.{Many-none}
use Rattle.upath_commands.specs.Archives.{IsSafe, IsText, OnArchive}
use Rattle.upath_commands.specs.declared.command.Options.{Options}
use Rattle.upath_commands.specs.Outputs.{Emitted, is_write_error, Told, unwritten}
use Rattle.upath_commands.specs.Replies.{Added, answers_failed, answers_to, Broken, Called, Gave}
use Rattle.upath_commands.specs.Replies.{GaveThis}
use Rattle.upath_commands.specs.Replies.{is_deaf, IsNew, messages_to, OfPrinted, Replied, RepliedTo}
use Rattle.upath_commands.specs.Replies.{state_of}
use Rattle.upath_commands.specs.Runs.{GaveFor, yes_of}
use Rattle.upath_commands.specs.Invocations.{TaskValue}
use Rattle.upath_commands.specs.declared.archive.Decision.{Decision}
use Rattle.upath_commands.specs.declared.output.RunError.{RunError}
use Rattle.upath_commands.specs.declared.replies.Replies.{Replies}
use Rattle.upath_commands.proofs.lemmas.ArchiveLemmas.{OnArchive-of}
use Rattle.upath_commands.proofs.lemmas.CallLemmas.{called_stopped, called_went, Speaks-none}
use Rattle.upath_commands.proofs.lemmas.CallLemmas.{Told-none, went_none}
use Rattle.upath_commands.proofs.lemmas.OutputLemmas.{Emits-added, EmitsPrefix-none, Tells-none}
use Rattle.upath_commands.proofs.lemmas.ReplyLemmas.{IfSome-all, IfSome-then, TellsPrefix-of}
use Rattle.upath_commands.proofs.lemmas.RunLemmas.{Added-for, yes-new}

module _ {W E : Type 0} (w : Sink W) (e : Sink E) where
  -- an error that is passed on
  pub gave_stopped : (result : Result Bool RunError) (old new : Replies W E)
      (input : Option (List ℕ)) (printed begun : List ℕ → OfPrinted → Type 0)
      (is_answer : List ℕ → Bool → Type 0) → is_ok result ≡ false
      → answers_failed new ≡ is_write_error result
      → IfSome input (λ input. begun input (Broken (state_of w e old) (state_of w e new)))
      → {A : Type 0} (error : RunError) → Called {A = A} w e (Err error) old new
      → Gave w e result old new input printed begun is_answer
  gave_stopped (Ok x) old new input printed begun is_answer fails failed h error k =
      absurd (true≢false fails)
  gave_stopped (Err other) old new input printed begun is_answer fails failed h error k = record {
    ok = tt;
    answer = tt;
    err = h;
    called = called_stopped w e (Err other) old new fails failed k.wrote.gave_up k.speaks;
  }

  -- an error after reads, before anything was printed
  pub gave_none : (result : Result Bool RunError) (old : Replies W E)
      (input : Option (List ℕ)) (printed begun : List ℕ → OfPrinted → Type 0)
      (is_answer : List ℕ → Bool → Type 0) → is_ok result ≡ false
      → answers_failed old ≡ is_write_error result
      → ((input : List ℕ) → Broken (state_of w e old) (state_of w e old) [] []
      → begun input (Broken (state_of w e old) (state_of w e old)))
      → Gave w e result old old input printed begun is_answer
  gave_none (Ok x) old input printed begun is_answer fails failed f = absurd (true≢false fails)
  gave_none (Err error) old input printed begun is_answer fails failed f =
      let none : Broken (state_of w e old) (state_of w e old) [] [] = record {
        wrote = EmitsPrefix-none (w.contents (answers_to old)) (unwritten old.answers) [];
        said = (0, Tells-none (e.contents (messages_to old)) (is_deaf old));
      } in record {
        ok = tt;
        answer = tt;
        err = IfSome-all input (λ input. f input none);
        called = called_stopped w e (Err error) old old fails failed
            (_, Many-none (answers_to old), inl refl) (Speaks-none e old.messages);
      }

  -- messages were told, and the output was not added
  pub gave_no_output : (error : RunError) (result : Result Bool RunError) (old new : Replies W E)
      (output messages : List ℕ) (is_yes : Bool) → is_ok result ≡ false
      → answers_failed new ≡ is_write_error result
      → Emitted {A = Unit {0}} w (Err error) old.answers new.answers output
      → Told e old.messages new.messages messages
      → GaveThis w e result old new (Some []) (λ input. output) (λ input. messages)
      (λ input. is_yes)
  gave_no_output error result old new output messages is_yes fails failed h told =
      gave_stopped result old new (Some []) _ _ _ fails failed
      record {
        wrote = h.err;
        said = TellsPrefix-of (e.contents (messages_to old)) (e.contents (messages_to new))
            (is_deaf old) (is_deaf new) messages [] messages told.told (append-nil messages);
      }
      {A = Unit {0}} error record { wrote = h.wrote; speaks = told.speaks }

  -- messages were told, and an output was added
  pub gave_output : (is : Bool) (old new : Replies W E) (output messages : List ℕ)
      → Emitted {A = Unit {0}} w (Ok (tt {0})) old.answers new.answers output
      → Told e old.messages new.messages messages
      → GaveThis w e (Ok is) old new (Some []) (λ input. output) (λ input. messages) (λ input. is)
  gave_output is old new output messages h told = record {
    ok = record { wrote = h.ok; said = told.told };
    answer = refl;
    err = tt;
    called = called_went w e is old new h.wrote.failed
        record { writes = h.wrote.writes; speaks = told.speaks };
  }

  -- a text was not added
  pub gave_no_text : (error : RunError) (result : Result Bool RunError) (old new : Replies W E)
      (text : List ℕ) → is_ok result ≡ false → answers_failed new ≡ is_write_error result
      → Emitted {A = Unit {0}} w (Err error) old.answers new.answers text
      → new.messages ≡ old.messages
      → GaveThis w e result old new (Some []) (λ input. text) (λ input. []) (λ input. true)
  gave_no_text error result old new text fails failed h same =
      gave_no_output error result old new text [] true fails failed h
      (rw same (Told-none e old.messages))

  -- a text was added
  pub gave_text : (old new : Replies W E) (text : List ℕ)
      → Emitted {A = Unit {0}} w (Ok (tt {0})) old.answers new.answers text
      → new.messages ≡ old.messages
      → GaveThis w e (Ok true) old new (Some []) (λ input. text) (λ input. []) (λ input. true)
  gave_text old new text h same =
      gave_output true old new text [] h (rw same (Told-none e old.messages))

  -- nothing is to be added
  pub gave_nothing : (is : Bool) (old : Replies W E) (is_answer : List ℕ → Bool → Type 0)
      → answers_failed old ≡ false → is_answer [] is
      → Gave w e (Ok is) old old (Some []) (λ input P. P [] []) (λ input P. P [] []) is_answer
  gave_nothing is old is_answer f same = record {
    ok = record { wrote = Emits-added _ _ _ [] (sym (append-nil _)); said = Tells-none _ _ };
    answer = same;
    err = tt;
    called = called_went w e is old old f (went_none w e old);
  }

  called_as : {A B : Type 0} (x : A) (y : B) (old new : Replies W E)
      → Called {A = A} w e (Ok x) old new → Called {A = B} w e (Ok y) old new
  called_as x y old new h = record {
    wrote = record { failed = h.wrote.failed; writes = h.wrote.writes; gave_up = tt };
    speaks = h.speaks;
  }

  module _ (task : TaskValue) where
    -- the paths were answered
    pub gave_paths : (x : Unit {0}) (is : Bool) (old new : Replies W E)
        (paths : List (List ℕ)) → IsNew old → Replied {A = Unit {0}} w e task (Ok x) old new paths
        → is ≡ yes_of task.command new.tally.all new.tally.any
        → GaveFor w e task (Ok is) old new (Some []) (λ input. paths)
    gave_paths x is old new paths n h same = record {
      ok = Added-for task (state_of w e old) (state_of w e new) paths h.ok;
      answer = same ∙ yes-new w e task old new paths n h.ok;
      err = tt;
      called = called_as x is old new h.called;
    }

    -- the answers to them failed
    pub gave_no_paths : (error : RunError) (result : Result Bool RunError) (old new : Replies W E)
        (paths : List (List ℕ)) → is_ok result ≡ false
        → answers_failed new ≡ is_write_error result
        → Replied {A = Unit {0}} w e task (Err error) old new paths
        → GaveFor w e task result old new (Some []) (λ input. paths)
    gave_no_paths error result old new paths fails failed h =
        gave_stopped result old new (Some []) _ _ _ fails failed h.err {A = Unit {0}} error h.called

    module _ {R : Type 0} (r : Source R) where
      -- the records were answered
      pub gave_records : (x : Unit {0}) (is : Bool) (reader after : Watched R)
          (old new : Replies W E) (paths : List ℕ → List (List ℕ)) → IsNew old
          → RepliedTo {A = Unit {0}} r w e task (Ok x) reader after old new paths
          → is ≡ yes_of task.command new.tally.all new.tally.any
          → GaveFor w e task (Ok is) old new (r.remaining (watched_inner reader)) paths
      gave_records x is reader after old new paths n h same = record {
        ok = IfSome-then (r.remaining (watched_inner reader)) (λ input k.
            Added-for task (state_of w e old) (state_of w e new) (paths input) k) h.ok;
        answer = IfSome-then (r.remaining (watched_inner reader)) (λ input k.
            same ∙ yes-new w e task old new (paths input) n k) h.ok;
        err = tt;
        called = called_as x is old new h.called;
      }

      -- the answers to them failed
      pub gave_no_records : (error : RunError) (result : Result Bool RunError)
          (reader after : Watched R) (old new : Replies W E) (paths : List ℕ → List (List ℕ))
          → is_ok result ≡ false → answers_failed new ≡ is_write_error result
          → RepliedTo {A = Unit {0}} r w e task (Err error) reader after old new paths
          → GaveFor w e task result old new (r.remaining (watched_inner reader)) paths
      gave_no_records error result reader after old new paths fails failed h =
          gave_stopped result old new (r.remaining (watched_inner reader)) _ _ _ fails failed h.err
          {A = Unit {0}} error h.called

  -- what a decision of `archive` tells and adds
  pub gave_archive : (result : Result Bool RunError) (old new : Replies W E)
      (known : Option (List ℕ)) (options : Options)
      (decision : Decision)
      → IfSome known (λ input. OnArchive options input (IsText decision))
      → IfSome known (λ input. (decision.is_safe ≡ true) ↔ IsSafe options input)
      → GaveThis w e result old new (Some []) (λ input. decision.output.items)
      (λ input. decision.messages.items) (λ input. decision.is_safe)
      → Gave w e result old new known (OnArchive options)
      (λ input P. P [] [] ⊎ OnArchive options input P)
      (λ input is. (is ≡ true) ↔ IsSafe options input)
  gave_archive (Ok is) old new known options decision texts safe h = record {
    ok = IfSome-then known (λ input t. OnArchive-of (Added (state_of w e old) (state_of w e new))
        decision options input h.ok t) texts;
    answer = IfSome-then known (λ input s. rw h.answer s) safe;
    err = tt;
    called = h.called;
  }
  gave_archive (Err error) old new known options decision texts safe h = record {
    ok = tt;
    answer = tt;
    err = IfSome-then known (λ input t. inr (OnArchive-of
        (Broken (state_of w e old) (state_of w e new)) decision options input h.err t))
        texts;
    called = h.called;
  }
