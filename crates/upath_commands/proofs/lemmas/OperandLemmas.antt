-- The items of arguments after `--`, which are operands.
use Rattle.std.proofs.Common.{◌≡◌, ℕ, Bool, false, List, [], ◌∷◌, ◌++◌, map}
use Rattle.std.proofs.Common.{Option, Some, None, Ok}
use Rattle.std.proofs.Common.{refl, ap}
use Rattle.std.specs.List.{filter_map, list_any}
use Rattle.upath_commands.specs.Arguments.{each, first_of, operands_of, task_of}
use Rattle.upath_commands.specs.Invocations.{Each}
use Rattle.upath_commands.specs.Items.{ItemValue, operand}
use Rattle.upath_commands.specs.declared.command.Command.{Command}

pub first_of-operands : {A : Type 0} (f : ItemValue → Option A)
    → ((b : List ℕ) → f (operand b) ≡ None) → (ps : List (List ℕ))
    → first_of f (map operand ps) ≡ None
first_of-operands f h [] = refl
first_of-operands f h (p ∷ ps) = rw (h p) (first_of-operands f h ps)

pub list_any-operands : (f : ItemValue → Bool) → ((b : List ℕ) → f (operand b) ≡ false)
    → (ps : List (List ℕ)) → list_any f (map operand ps) ≡ false
list_any-operands f h [] = refl
list_any-operands f h (p ∷ ps) = rw (h p) (list_any-operands f h ps)

pub filter_map-operands : {A : Type 0} (f : ItemValue → Option A)
    → ((b : List ℕ) → f (operand b) ≡ None) → (ps : List (List ℕ))
    → filter_map f (map operand ps) ≡ []
filter_map-operands f h [] = refl
filter_map-operands f h (p ∷ ps) = rw (h p) (filter_map-operands f h ps)

pub operands_of-operands : (ps : List (List ℕ)) → operands_of (map operand ps) ≡ ps
operands_of-operands [] = refl
operands_of-operands (p ∷ ps) = ap (λ l. p ∷ l) (operands_of-operands ps)

-- the paths of a command without an operand of its own, if `--` comes just after its name
pub each-first : (command : Command) (base name : List ℕ) (items : List ItemValue)
    (ps : List (List ℕ))
    → each command base record { name = name; items = items; dashes = 1 } 1 ps
    ≡ Ok (Each (task_of command base items) (Some ps))
each-first command base name items [] = refl
each-first command base name items (p ∷ ps) = refl

-- the same of a command with one
pub each-second : (command : Command) (base name : List ℕ) (items : List ItemValue)
    (ps : List (List ℕ))
    → each command base record { name = name; items = items; dashes = 2 } 2 ps
    ≡ Ok (Each (task_of command base items) (Some ps))
each-second command base name items [] = refl
each-second command base name items (p ∷ ps) = refl

-- operands before the items say nothing else
pub first_of-skip : {A : Type 0} (f : ItemValue → Option A)
    → ((b : List ℕ) → f (operand b) ≡ None) → (ps : List (List ℕ)) (items : List ItemValue)
    → first_of f (map operand ps ++ items) ≡ first_of f items
first_of-skip f h [] items = refl
first_of-skip f h (p ∷ ps) items = rw (h p) (first_of-skip f h ps items)

pub list_any-skip : (f : ItemValue → Bool) → ((b : List ℕ) → f (operand b) ≡ false)
    → (ps : List (List ℕ)) (items : List ItemValue)
    → list_any f (map operand ps ++ items) ≡ list_any f items
list_any-skip f h [] items = refl
list_any-skip f h (p ∷ ps) items = rw (h p) (list_any-skip f h ps items)

pub filter_map-skip : {A : Type 0} (f : ItemValue → Option A)
    → ((b : List ℕ) → f (operand b) ≡ None) → (ps : List (List ℕ)) (items : List ItemValue)
    → filter_map f (map operand ps ++ items) ≡ filter_map f items
filter_map-skip f h [] items = refl
filter_map-skip f h (p ∷ ps) items = rw (h p) (filter_map-skip f h ps items)

pub operands_of-skip : (ps : List (List ℕ)) (items : List ItemValue)
    → operands_of (map operand ps ++ items) ≡ ps ++ operands_of items
operands_of-skip [] items = refl
operands_of-skip (p ∷ ps) items = ap (λ l. p ∷ l) (operands_of-skip ps items)
