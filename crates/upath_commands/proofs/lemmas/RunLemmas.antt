-- Whole runs.
use Rattle.std.proofs.Common.{◌≡◌, ℕ, Bool, true, false, ◌&&◌, ◌||◌, List, [], take}
use Rattle.std.proofs.Common.{refl, ap, ap₂, ◌∙◌, append-nil}
use Rattle.std.proofs.Common.{true≢false}
use Rattle.std.specs.Io.KnownBytes.{Appends}
use Rattle.std.specs.List.{list_all, list_any}
use Rattle.std.proofs.KnownBytes.{Appends-nil}
use Rattle.byte_streams.specs.Watched.{AppendsPrefix}
use Rattle.byte_streams.specs.declared.io_traits.Sink.{Ghosts as Sink}
use Rattle.upath_commands.specs.declared.command.Command.{Command}
use Rattle.upath_commands.specs.declared.command.Command.TheVariants as command
use Rattle.upath_commands.specs.declared.command.Options.{Options}
use Rattle.upath_commands.specs.Outputs.{error_line, Tells}
use Rattle.upath_commands.specs.Replies.{Added, Answered, Broken, IsNew, State, state_of}
use Rattle.upath_commands.specs.Runs.{Done, Failed, command_yes, yes_of}
use Rattle.upath_commands.specs.Sorting.{chosen, firsts_if, is_gathered, is_uniq}
use Rattle.upath_commands.specs.Invocations.{TaskValue}
use Rattle.upath_commands.specs.Tasks.{answers, messages_of, output_of}
use Rattle.upath_commands.specs.declared.output.RunError.TheVariants.{Arguments}
use Rattle.upath_commands.specs.declared.replies.Replies.{Replies}
use Rattle.upath_commands.proofs.lemmas.OutputLemmas.{Emits-finish, Emits-finish_fail}
use Rattle.upath_commands.proofs.lemmas.OutputLemmas.{Tells-then}
use Rattle.upath_commands.proofs.lemmas.ReplyLemmas.{TellsPrefix-of}

-- a command that doesn't need all paths answers them as they come
pub chosen_streamed : (command : Command) (options : Options) (paths : List (List ℕ))
    → is_gathered command ≡ false
    → firsts_if (is_uniq command) paths ≡ chosen command options paths
chosen_streamed command.Sort options paths e = absurd (true≢false e)
chosen_streamed command.Check options paths e = absurd (true≢false e)
chosen_streamed command.Uniq options paths e = refl
chosen_streamed command options paths e = refl

-- what a command answers that has answered these paths
pub yes-new : {W E : Type 0} (w : Sink W) (e : Sink E) (task : TaskValue) (old new : Replies W E)
    (paths : List (List ℕ)) → IsNew old
    → Answered task (state_of w e old) (state_of w e new) paths
    → yes_of task.command new.tally.all new.tally.any ≡ command_yes task paths
yes-new w e task old new paths n h =
    ap₂ (yes_of task.command) (h.all ∙ ap (λ all. all && list_all (answers task) paths) n.all)
    (h.any ∙ ap (λ any. any || list_any (answers task) paths) n.any)

-- the output and the messages of paths that were answered
pub Added-for : (task : TaskValue) (old new : State) (paths : List (List ℕ))
    → Answered task old new paths → Added old new (output_of task paths) (messages_of task paths)
Added-for task old new paths h = record { wrote = h.wrote; said = h.said }

module _ (old mid new : State) (output messages : List ℕ) where
  -- all that was added was written
  pub Done-after : Added old mid output messages
      → Appends mid.written new.written mid.pending → new.told ≡ mid.told
      → new.is_deaf ≡ mid.is_deaf → Done old new output messages
  Done-after h k told deaf = record {
    wrote = Emits-finish old.written mid.written new.written old.pending mid.pending output h.wrote
        k;
    said = rw told (rw deaf h.said);
  }

  -- a prefix of it was written
  pub Broken-after : Added old mid output messages
      → AppendsPrefix mid.written new.written mid.pending → new.told ≡ mid.told
      → new.is_deaf ≡ mid.is_deaf → Broken old new output messages
  Broken-after h k told deaf = record {
    wrote = Emits-finish_fail old.written mid.written new.written old.pending mid.pending output
        h.wrote k;
    said = rw told (rw deaf (TellsPrefix-of old.told mid.told old.is_deaf mid.is_deaf messages []
        messages h.said (append-nil messages)));
  }

-- the line for an error was written
pub Failed-after : (old mid new : State) (output messages line : List ℕ)
    → Broken old mid output messages → new.written ≡ mid.written
    → Tells mid.is_deaf new.is_deaf mid.told new.told line
    → Failed old new output messages line
Failed-after old mid new output messages line h same k = record {
  wrote = rw same h.wrote;
  said = let (n, told) = h.said in (
    n,
    Tells-then old.told mid.told new.told old.is_deaf mid.is_deaf new.is_deaf (take n messages)
        line told k,
  );
}

-- the caller reports that the arguments were not understood
pub Failed-arguments : (old new : State) (output messages : List ℕ) (is_quiet : Bool)
    → new.written ≡ old.written → Tells old.is_deaf new.is_deaf old.told new.told []
    → Failed old new output messages (error_line is_quiet Arguments)
Failed-arguments old new output messages true same k =
    record { wrote = (0, rw same (Appends-nil old.written)); said = (0, k) }
Failed-arguments old new output messages false same k =
    record { wrote = (0, rw same (Appends-nil old.written)); said = (0, k) }
