-- For commands other than `archive`, the clauses of `run_arguments` say the same as equations: what
-- is written, the messages and the status are functions of the arguments and the input.
use Rattle.std.proofs.Common.{◌≡◌, ◌↔◌, ℕ, Bool, true, false, List, [], ◌++◌, Ok, Err, take, refl}
use Rattle.std.proofs.Common.{ap, ◌∙◌, if◌then◌else◌}
use Rattle.std.specs.Io.KnownBytes.{Appends}
use Rattle.std.specs.Ordering.{is_eq}
use Rattle.std.proofs.lemmas.Bool.{false≢true}
use Rattle.byte_streams.specs.Watched.{AppendsPrefix}
use Rattle.unix_path.specs.Order.{values_cmp}
use Rattle.unix_path.specs.Parts.{values}
use Rattle.upath_commands.specs.declared.runs.Texts.{Texts}
use Rattle.upath_commands.specs.Invocations.{Meaning}
use Rattle.upath_commands.specs.Invocations.{Help, Version, Equal, Archive, Each}
use Rattle.upath_commands.specs.Outputs.{Tells}
use Rattle.upath_commands.specs.Replies.{State}
use Rattle.upath_commands.specs.Runs.{Done, Failed, IsStatus, OnBegunReplies, OnReplies, asked}
use Rattle.upath_commands.specs.Runs.{command_yes, help_text}
use Rattle.upath_commands.specs.Tasks.{messages_of, output_of}
use Rattle.upath_commands.specs.Usage.{usage_line}

-- the meaning is one of another command than `archive`
abbrev pub is_other : Meaning → Bool
is_other (Ok (Archive options)) = false
is_other meaning = true

-- what is written
abbrev pub output_for : Texts → Meaning → List ℕ → List ℕ
output_for texts (Ok (Help name)) input = help_text texts name
output_for texts (Ok Version) input = texts.version.now
output_for texts (Ok (Each task paths)) input =
    output_of task (asked task paths input)
output_for texts meaning input = []

-- the messages
abbrev pub messages_for : Meaning → List ℕ → List ℕ
messages_for (Ok (Each task paths)) input =
    messages_of task (asked task paths input)
messages_for (Ok invocation) input = []
messages_for (Err usage) input = usage_line usage

-- the exit status
abbrev pub status_for : Meaning → List ℕ → ℕ
status_for (Ok (Equal options a b)) input =
    if is_eq (values_cmp (values a) (values b)) then 0 else 1
status_for (Ok (Each task paths)) input =
    if command_yes task (asked task paths input) then 0 else 1
status_for (Ok invocation) input = 0
status_for (Err usage) input = 2

-- P holds of what is written and of the messages
pub OnReplies-forms : (P : List ℕ → List ℕ → Type 0) (texts : Texts) (meaning : Meaning)
    (input : List ℕ) → is_other meaning ≡ true
    → OnReplies texts meaning input P ↔ P (output_for texts meaning input)
    (messages_for meaning input)
OnReplies-forms P texts (Ok (Help name)) input other = (λ h. h, λ h. h)
OnReplies-forms P texts (Ok Version) input other = (λ h. h, λ h. h)
OnReplies-forms P texts (Ok (Equal options a b)) input other = (λ h. h, λ h. h)
OnReplies-forms P texts (Ok (Archive options)) input other =
    absurd (false≢true other)
OnReplies-forms P texts (Ok (Each task paths)) input other = (λ h. h, λ h. h)
OnReplies-forms P texts (Err usage) input other = (λ h. h, λ h. h)

-- the same after an error
pub OnBegunReplies-forms : (P : List ℕ → List ℕ → Type 0) (texts : Texts) (meaning : Meaning)
    (input : List ℕ) → is_other meaning ≡ true
    → OnBegunReplies texts meaning input P ↔ P (output_for texts meaning input)
    (messages_for meaning input)
OnBegunReplies-forms P texts (Ok (Help name)) input other = (λ h. h, λ h. h)
OnBegunReplies-forms P texts (Ok Version) input other = (λ h. h, λ h. h)
OnBegunReplies-forms P texts (Ok (Equal options a b)) input other = (λ h. h, λ h. h)
OnBegunReplies-forms P texts (Ok (Archive options)) input other =
    absurd (false≢true other)
OnBegunReplies-forms P texts (Ok (Each task paths)) input other = (λ h. h, λ h. h)
OnBegunReplies-forms P texts (Err usage) input other = (λ h. h, λ h. h)

-- a status of an answer that is known
of_answer : (known answer : Bool) (status : ℕ) → answer ≡ known
    → status ≡ (if answer then 0 else 1) → status ≡ (if known then 0 else 1)
of_answer known answer status is s = s ∙ ap (λ answer. if answer then 0 else 1) is

-- the status is this one
pub IsStatus-forms : (meaning : Meaning) (input : List ℕ) (status : ℕ)
    → is_other meaning ≡ true
    → IsStatus meaning input status ↔ (status ≡ status_for meaning input)
IsStatus-forms (Ok (Help name)) input status other =
    (λ (answer, is, s). of_answer true answer status is s, λ s. (true, refl, s))
IsStatus-forms (Ok Version) input status other =
    (λ (answer, is, s). of_answer true answer status is s, λ s. (true, refl, s))
IsStatus-forms (Ok (Equal options a b)) input status other =
    (λ (answer, is, s). of_answer _ answer status is s, λ s. (_, refl, s))
IsStatus-forms (Ok (Archive options)) input status other = absurd (false≢true other)
IsStatus-forms (Ok (Each task paths)) input status other =
    (λ (answer, is, s). of_answer _ answer status is s, λ s. (_, refl, s))
IsStatus-forms (Err usage) input status other = (λ s. s, λ s. s)

-- so the clauses `ok` and `err` are two equations each: of what is written, and of the messages
pub Done-forms : (old new : State) (texts : Texts) (meaning : Meaning) (input : List ℕ)
    → is_other meaning ≡ true
    → OnReplies texts meaning input (Done old new)
    ↔ (Appends old.written new.written (old.pending ++ output_for texts meaning input)
    × Tells old.is_deaf new.is_deaf old.told new.told (messages_for meaning input))
Done-forms old new texts meaning input other =
    let forms = OnReplies-forms (Done old new) texts meaning input other in (
      λ h. let d = forms.0 h in (d.wrote, d.said),
      λ (wrote, said). forms.1 record { wrote = wrote; said = said },
    )

pub Failed-forms : (old new : State) (line : List ℕ) (texts : Texts) (meaning : Meaning)
    (input : List ℕ) → is_other meaning ≡ true
    → OnBegunReplies texts meaning input (λ output messages. Failed old new output messages line)
    ↔ (AppendsPrefix old.written new.written (old.pending ++ output_for texts meaning input)
    × ((n : ℕ) × Tells old.is_deaf new.is_deaf old.told new.told
    (take n (messages_for meaning input) ++ line)))
Failed-forms old new line texts meaning input other =
    let forms = OnBegunReplies-forms (λ output messages. Failed old new output messages line) texts
    meaning input other in (
      λ h. let d = forms.0 h in (d.wrote, d.said),
      λ (wrote, said). forms.1 record { wrote = wrote; said = said },
    )
