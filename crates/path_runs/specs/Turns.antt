-- How many components a list of turns takes from each end of a path. Not in Rust's std.
use Rattle.std.specs.Prelude.{ℕ, List, Bool, true, false, not, take, count_by}
use Rattle.path_runs.specs.declared.walk.Turn.{Turn}
use Rattle.path_runs.specs.declared.walk.Turn.TheVariants.{Front, Back}

-- the turn takes the first component of the rest
abbrev pub is_front : Turn → Bool
is_front Front = true
is_front Back = false

-- how many of the first n turns, or of all if there are fewer, take a component from the front
abbrev pub front_turns : ℕ → List Turn → ℕ
front_turns n turns = count_by is_front (take n turns)

-- how many of the first n turns, or of all if there are fewer, take a component from the back
abbrev pub back_turns : ℕ → List Turn → ℕ
back_turns n turns = count_by (λ turn. not (is_front turn)) (take n turns)
