-- The paths that `sort` and `uniq` write, and their order.
use Rattle.std.specs.Prelude.{ℕ, Bool, true, false, not, List, [], ◌∷◌, reverse, Option, Some, None}
use Rattle.std.specs.Prelude.{if◌then◌else◌}
use Rattle.std.specs.List.{dedup, filter}
use Rattle.std.specs.Option.{option_to_list}
use Rattle.std.specs.Ordering.{is_eq, is_lt}
use Rattle.unix_path.specs.Order.{values_cmp}
use Rattle.unix_path.specs.Parts.{values}
use Rattle.upath_commands.specs.declared.command.Command.{Command}
use Rattle.upath_commands.specs.declared.command.Command.TheVariants.{Sort, Check, Uniq}
use Rattle.upath_commands.specs.declared.command.Options.{Options}

-- p comes before q in the order of paths
abbrev pub comes_before : List ℕ → List ℕ → Bool
comes_before p q = is_lt (values_cmp (values p) (values q))

-- p and q are equal paths
abbrev pub same_path : List ℕ → List ℕ → Bool
same_path p q = is_eq (values_cmp (values p) (values q))

-- x and the sorted elements: x comes before the first of them that isn't less
abbrev pub insert_sorted : {X : Type 0} → (X → X → Bool) → X → List X → List X
insert_sorted less x [] = x ∷ []
insert_sorted less x (y ∷ ys) =
    if less y x then y ∷ insert_sorted less x ys else x ∷ y ∷ ys

-- the elements in their order; of two elements neither of which is less, the first stays first
unfoldable pub sorted_by : {X : Type 0} → (X → X → Bool) → List X → List X
sorted_by less [] = []
sorted_by less (x ∷ xs) = insert_sorted less x (sorted_by less xs)

-- the sorted paths, or of equal ones the first
abbrev pub unique_of : Options → List (List ℕ) → List (List ℕ)
unique_of options paths = if options.unique then dedup same_path paths else paths

-- what `sort` writes of these paths
abbrev pub sorted_of : Options → List (List ℕ) → List (List ℕ)
sorted_of options paths =
    let sorted = unique_of options (sorted_by comes_before paths) in
    if options.reversed then reverse sorted else sorted

-- the first of equal paths, in the order of coming
unfoldable pub firsts_of : List (List ℕ) → List (List ℕ)
firsts_of [] = []
firsts_of (p ∷ ps) = p ∷ filter (λ q. not (same_path p q)) (firsts_of ps)

-- p may come just before q in a sorted list
abbrev pub may_precede : Options → List ℕ → List ℕ → Bool
may_precede options p q =
    let first = if options.reversed then q else p in
    let second = if options.reversed then p else q in
    if options.unique then comes_before first second else not (comes_before second first)

-- the first of these paths that may not come just after the one before it, which is p at first
abbrev pub out_of_order : Options → List ℕ → List (List ℕ) → Option (List ℕ)
out_of_order options p [] = None
out_of_order options p (q ∷ qs) =
    if may_precede options p q then out_of_order options q qs else Some q

-- the first of these paths that is out of order
abbrev pub disorder_of : Options → List (List ℕ) → Option (List ℕ)
disorder_of options [] = None
disorder_of options (p ∷ ps) = out_of_order options p ps

-- the command needs all paths before it answers
abbrev pub is_gathered : Command → Bool
is_gathered Sort = true
is_gathered Check = true
is_gathered command = false

-- the command prints the first of equal paths
abbrev pub is_uniq : Command → Bool
is_uniq Uniq = true
is_uniq command = false

-- the first of equal paths if that is asked for, or all paths
abbrev pub firsts_if : Bool → List (List ℕ) → List (List ℕ)
firsts_if firsts paths = if firsts then firsts_of paths else paths

-- of the paths that are asked for those that the command answers, in their order
abbrev pub chosen : Command → Options → List (List ℕ) → List (List ℕ)
chosen Sort options paths = sorted_of options paths
chosen Check options paths = option_to_list (disorder_of options paths)
chosen Uniq options paths = firsts_of paths
chosen command options paths = paths
