-- The answer to a walk by turns: `f` takes a component from the front, and `b` takes one from the
-- back. Not in Rust's std.
use Rattle.std.specs.Prelude.{ℕ, ◌==◌, Option, is_some, List, [], ◌∷◌, ◌++◌, map, take, reverse}
use Rattle.std.specs.Prelude.{length, if◌then◌else◌}
use Rattle.std.specs.List.{filter_map, list_all}
use Rattle.std.specs.Map.{lookup}
use Rattle.std.specs.Fmt.{decimal}
use Rattle.std.specs.Str.{byte}
use Rattle.unix_path.specs.Parts.{values, value_bytes}
use Rattle.unix_path.specs.Rest.{rest}
use Rattle.path_runs.specs.Turns.{front_turns, back_turns}
use Rattle.path_runs.specs.declared.walk.Turn.{Turn}
use Rattle.path_runs.specs.declared.walk.Turn.TheVariants.{Front, Back}
use Rattle.pathtool.specs.Fields.{tabs, bad_command}

-- the turn that a letter represents, if any
abbrev pub turn_of : ℕ → Option Turn
turn_of letter = lookup (λ key. key == letter) ((byte "f", Front) ∷ (byte "b", Back) ∷ [])

-- the bytes of a path's components
abbrev pub part_bytes : List ℕ → List (List ℕ)
part_bytes path = map value_bytes (values path)

-- the results of a walk, as items: the numbers of components that the turns take from the front and
-- from the back, the components from the front, the rest, and the components from the back, in the
-- order taken
abbrev pub walk_items : List ℕ → List Turn → List (List ℕ)
walk_items path turns =
    let parts = part_bytes path in
    let k = front_turns (length parts) turns in
    let m = back_turns (length parts) turns in
    decimal k ∷ decimal m ∷ (take k parts ++ rest path k m ∷ take m (reverse parts))

-- the answer to a walk by letters: its items, or `bad command` if a letter represents no turn
abbrev pub walk_answer : List ℕ → List ℕ → List ℕ
walk_answer path letters =
    if list_all (λ letter. is_some (turn_of letter)) letters
    then tabs (walk_items path (filter_map turn_of letters))
    else bad_command
