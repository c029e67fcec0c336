-- The write of pending answers before a read.
use Rattle.std.proofs.Common.{◌≡◌, [], sym, subst, ◌∙◌}
use Rattle.std.specs.Io.KnownBytes.{Appends}
use Rattle.std.proofs.KnownBytes.{Appends-nil}
use Rattle.upath_commands.specs.Outputs.{Emits, EmitsPrefix, Tells}
use Rattle.upath_commands.specs.Replies.{Answered, State, Stopped}
use Rattle.upath_commands.specs.Invocations.{TaskValue}
use Rattle.upath_commands.proofs.lemmas.ReplyLemmas.{and_true, or_false}

module _ (task : TaskValue) (old new : State) (told : new.told ≡ old.told)
    (deaf : new.is_deaf ≡ old.is_deaf) where
  -- no message was written
  nothing_said : Tells old.is_deaf new.is_deaf old.told new.told []
  nothing_said =
      λ e. (sym deaf ∙ e, subst (λ t. Appends old.told t []) (sym told) (Appends-nil old.told))

  -- only pending answers were written
  pub waited : Emits old.written new.written old.pending new.pending [] → new.all ≡ old.all
      → new.any ≡ old.any → Answered task old new []
  waited wrote all any = record {
    wrote = wrote;
    said = nothing_said;
    all = all ∙ and_true old.all;
    any = any ∙ or_false old.any;
  }

  -- that failed
  pub wait_failed : EmitsPrefix old.written new.written old.pending []
      → Stopped task old new []
  wait_failed wrote = record { wrote = wrote; said = (0, nothing_said) }
