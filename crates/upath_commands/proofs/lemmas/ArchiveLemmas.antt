-- What invocations print.
use Rattle.std.proofs.Common.{◌≡◌, inl, inr, ℕ, Bool, List, [], Ok, Err, subst}
use Rattle.upath_commands.specs.declared.archive.Decision.{Decision}
use Rattle.upath_commands.specs.declared.command.Options.{Options}
use Rattle.upath_commands.specs.declared.output.RunError.TheVariants.{Arguments}
use Rattle.upath_commands.specs.declared.runs.Texts.{Texts}
use Rattle.upath_commands.specs.Archives.{IsText, OnArchive}
use Rattle.upath_commands.specs.Invocations.{InvocationValue, Meaning}
use Rattle.upath_commands.specs.Invocations.{Help, Version, Equal, Archive, Each}
use Rattle.upath_commands.specs.Outputs.{Tells, error_line}
use Rattle.upath_commands.specs.Replies.{Broken, State}
use Rattle.upath_commands.specs.Runs.{Failed, OnBegun, OnBegunReplies, OnPrinted}
use Rattle.upath_commands.proofs.lemmas.RunLemmas.{Failed-after, Failed-arguments}

module _ (P Q : List ℕ → List ℕ → Type 0)
    (f : (output messages : List ℕ) → P output messages → Q output messages) where
  -- what follows of what `archive` prints
  pub OnArchive-then : (options : Options) (input : List ℕ)
      → OnArchive options input P → OnArchive options input Q
  unfolding OnArchive
  OnArchive-then options input (inl (line, none, h)) = inl (line, none, f _ _ h)
  OnArchive-then options input (inr (entries, is, (refusals, decides, h))) =
      inr (entries, is, (refusals, decides, f _ _ h))

  -- what follows of what an invocation prints
  pub OnPrinted-then : (texts : Texts) (invocation : InvocationValue) (input : List ℕ)
      → OnPrinted texts invocation input P → OnPrinted texts invocation input Q
  OnPrinted-then texts (Help name) input h = f _ _ h
  OnPrinted-then texts Version input h = f _ _ h
  OnPrinted-then texts (Equal options a b) input h = f _ _ h
  OnPrinted-then texts (Archive options) input h =
      OnArchive-then options input h
  OnPrinted-then texts (Each task paths) input h = f _ _ h

  -- the same after an error
  pub OnPrinted-begun : (texts : Texts) (invocation : InvocationValue) (input : List ℕ)
      → OnPrinted texts invocation input P → OnBegun texts invocation input Q
  OnPrinted-begun texts (Help name) input h = f _ _ h
  OnPrinted-begun texts Version input h = f _ _ h
  OnPrinted-begun texts (Equal options a b) input h = f _ _ h
  OnPrinted-begun texts (Archive options) input h =
      inr (OnArchive-then options input h)
  OnPrinted-begun texts (Each task paths) input h = f _ _ h

-- what holds of the decision's texts, which are what `archive` prints
pub OnArchive-of : (P : List ℕ → List ℕ → Type 0) (decision : Decision)
    (options : Options) (input : List ℕ)
    → P decision.output.items decision.messages.items
    → OnArchive options input (IsText decision) → OnArchive options input P
OnArchive-of P decision options input h =
    OnArchive-then (IsText decision) P
    (λ output messages is. subst (λ output. P output messages) is.0
    (subst (λ messages. P decision.output.items messages) is.1 h)) options input

-- the line for an error was written, after what was printed before it
pub OnBegun-failed : (old mid new : State) (line : List ℕ) (texts : Texts)
    (invocation : InvocationValue) (input : List ℕ) → new.written ≡ mid.written
    → Tells mid.is_deaf new.is_deaf mid.told new.told line
    → OnBegun texts invocation input (Broken old mid)
    → OnBegun texts invocation input (λ output messages. Failed old new output messages line)
OnBegun-failed old mid new line texts (Help name) input same k h =
    Failed-after old mid new _ _ line h same k
OnBegun-failed old mid new line texts Version input same k h =
    Failed-after old mid new _ _ line h same k
OnBegun-failed old mid new line texts (Equal options a b) input same k h =
    Failed-after old mid new _ _ line h same k
OnBegun-failed old mid new line texts (Archive options) input same k (inl h) =
    inl (Failed-after old mid new _ _ line h same k)
OnBegun-failed old mid new line texts (Archive options) input same k (inr h) =
    inr (OnArchive-then (Broken old mid) (λ output messages. Failed old new output messages line)
    (λ output messages h. Failed-after old mid new output messages line h same k) options
    input h)
OnBegun-failed old mid new line texts (Each task paths) input same k h =
    Failed-after old mid new _ _ line h same k

-- the caller reports that the arguments were not understood
pub OnBegun-arguments : (old new : State) (is_quiet : Bool) (texts : Texts) (meaning : Meaning)
    (input : List ℕ) → new.written ≡ old.written
    → Tells old.is_deaf new.is_deaf old.told new.told []
    → OnBegunReplies texts meaning input (λ output messages.
    Failed old new output messages (error_line is_quiet Arguments))
OnBegun-arguments old new quiet texts (Ok (Help name)) input same k =
    Failed-arguments old new _ _ quiet same k
OnBegun-arguments old new quiet texts (Ok Version) input same k =
    Failed-arguments old new _ _ quiet same k
OnBegun-arguments old new quiet texts (Ok (Equal options a b)) input same k =
    Failed-arguments old new _ _ quiet same k
OnBegun-arguments old new quiet texts (Ok (Archive options)) input same k =
    inl (Failed-arguments old new _ _ quiet same k)
OnBegun-arguments old new quiet texts (Ok (Each task paths)) input same k =
    Failed-arguments old new _ _ quiet same k
OnBegun-arguments old new quiet texts (Err usage) input same k =
    Failed-arguments old new _ _ quiet same k
