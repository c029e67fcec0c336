-- The answers of commands to paths, and how they are written.
use Rattle.std.specs.Prelude.{◌≡◌, ℕ, Bool, not, ◌==◌, ◌&&◌, ◌||◌, List, [], ◌∷◌, ◌++◌, drop}
use Rattle.std.specs.Prelude.{Option, Some, None, option_map, Result, IfOk, map, length}
use Rattle.std.specs.Prelude.{codes, if◌then◌else◌}
use Rattle.std.specs.List.{flat_map, starts_with}
use Rattle.std.specs.Str.{byte}
use Rattle.unix_path.specs.Joins.{join_of}
use Rattle.unix_path.specs.Order.{same_value}
use Rattle.unix_path.specs.Parents.{ancestors_of, parent_of}
use Rattle.unix_path.specs.Parts.{is_rooted, value_bytes, values}
use Rattle.unix_path.specs.Pointers.{cow_bytes}
use Rattle.unix_path.specs.Prefixes.{stripped_of}
use Rattle.unix_path.specs.declared.kept.cow.CowPath.{CowPath}
use Rattle.path_runs.specs.Spelling.{spelling_of}
use Rattle.path_within.specs.Below.{below_of, has_nul, names_below}
use Rattle.path_within.specs.Escapes.{has_root_or_parent_dir}
use Rattle.path_within.specs.RelativePaths.{relative_path_of}
use Rattle.path_within.specs.Resolved.{resolved_bytes_of, resolved_of}
use Rattle.upath_commands.specs.Escaping.{escapes}
use Rattle.upath_commands.specs.Sorting.{same_path}
use Rattle.upath_commands.specs.declared.command.JoinRule.{JoinRule}
use Rattle.upath_commands.specs.declared.command.JoinRule.TheVariants.{Trusted, Beneath, InRoot}
use Rattle.upath_commands.specs.declared.command.JoinRule.TheVariants.{Verbatim}
use Rattle.upath_commands.specs.declared.command.Options.{Options}

-- the byte that ends a record
abbrev pub end_of : Options → ℕ
end_of options = if options.null then 0 else byte "\n"

-- the byte between a path and its answer
abbrev pub separator_of : Options → ℕ
separator_of options = if options.null then 0 else byte "\t"

-- an answer to p as a record
abbrev pub record_of : Options → List ℕ → List ℕ → List ℕ
record_of options p answer =
    if options.pair then p ++ separator_of options ∷ (answer ++ end_of options ∷ [])
    else answer ++ end_of options ∷ []

-- what is written for p, if these are the answers to it
abbrev pub record_output : Options → List ℕ → List (List ℕ) → List ℕ
record_output options p answers =
    if options.quiet then [] else flat_map (record_of options p) answers

-- the result is this answer, if there is one
abbrev pub Finds : {E : Type 0} → Result (Option CowPath) E → Option (List ℕ) → Type 0
Finds result answer = IfOk result (λ found. option_map cow_bytes found ≡ answer)

-- this path, or `.` in place of the empty one
abbrev pub dot_if_empty : List ℕ → List ℕ
dot_if_empty p = if length p == 0 then codes "." else p

-- p equals `.`
abbrev pub is_current : List ℕ → Bool
is_current p = same_path p (codes ".")

-- the parent; none of the empty path, the root and `.`
abbrev pub parent_answer : List ℕ → Option (List ℕ)
parent_answer p = if is_current p then None else option_map dot_if_empty (parent_of p)

-- these paths, up to the first that equals `.`
abbrev pub up_to_current : List (List ℕ) → List (List ℕ)
up_to_current [] = []
up_to_current (p ∷ ps) = if is_current p then p ∷ [] else p ∷ up_to_current ps

-- the parent, the parent's parent, and so on
abbrev pub parents_answer : List ℕ → List (List ℕ)
parents_answer p =
    if is_current p then [] else map dot_if_empty (up_to_current (drop 1 (ancestors_of p)))

-- p joined to a root; none if the rule refuses p
abbrev pub joined_of : JoinRule → List ℕ → List ℕ → Option (List ℕ)
joined_of Trusted root p = Some (join_of root p)
joined_of Beneath root p =
    if escapes p || has_nul p then None else Some (below_of root (resolved_of (values p)))
joined_of InRoot root p =
    if has_nul p then None else Some (below_of root (names_below (values p)))
joined_of Verbatim root p =
    if has_root_or_parent_dir (values p) || has_nul p then None else Some (join_of root p)

-- what follows the base in p; none if p doesn't start with the components of the base
abbrev pub rest_after : List ℕ → List ℕ → Option (List ℕ)
rest_after base p =
    if starts_with same_value (values p) (values base) then Some (stripped_of p base) else None

-- the same if only names follow the base
abbrev pub rest_below : List ℕ → List ℕ → Option (List ℕ)
rest_below base p =
    if starts_with same_value (values p) (values base)
    && not (has_root_or_parent_dir (values (stripped_of p base)))
    then Some (stripped_of p base)
    else None

-- what follows the base in p, by components or with both resolved; none if p isn't below the base
abbrev pub rest_under : Options → List ℕ → List ℕ → Option (List ℕ)
rest_under options base p =
    if options.by_components then rest_after base p
    else rest_below (resolved_bytes_of base) (resolved_bytes_of p)

-- what `under` prints for p, if this is what follows the base in it
abbrev pub under_answer : Options → List ℕ → Option (List ℕ) → Option (List ℕ)
under_answer options p None = if options.inverted then Some p else None
under_answer options p (Some rest) =
    if options.inverted then None else Some (if options.stripped then dot_if_empty rest else p)

-- the relative path from a directory to p, if there is one
abbrev pub relative_of : List ℕ → List ℕ → Option (List ℕ)
relative_of from p = option_map spelling_of (relative_path_of (values from) (values p))

-- `escapes` prints p: p escapes or has a NUL
abbrev pub is_refused : List ℕ → Bool
is_refused p = escapes p || has_nul p

-- why p is refused
abbrev pub escape_reason : List ℕ → List ℕ
escape_reason p =
    if is_rooted p then codes "root"
    else (if escapes p then codes "escapes" else codes "nul")

-- what `escapes` prints for p, if it prints p: the reason comes first if it is asked for
abbrev pub escaping_text : Options → List ℕ → List ℕ
escaping_text options p =
    if options.with_reason && is_refused p then escape_reason p ++ byte "\t" ∷ p else p

-- what `escapes` prints for p, if anything
abbrev pub escaping_of : Options → List ℕ → Option (List ℕ)
escaping_of options p =
    if (if options.inverted then is_refused p else not (is_refused p)) then None
    else Some (escaping_text options p)

-- the bytes of the components of p
abbrev pub part_bytes : List ℕ → List (List ℕ)
part_bytes p = map value_bytes (values p)
