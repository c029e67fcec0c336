-- What a meaning takes from the items of the arguments: operands among them change nothing else.
use Rattle.std.proofs.Common.{◌≡◌, ℕ, ◌||◌, false, List, [], ◌∷◌, ◌++◌, map, Option}
use Rattle.std.proofs.Common.{Some, None, Ok, Err, refl, sym, ap, ap₂, ◌∙◌, if◌then◌else◌}
use Rattle.std.specs.List.{cons_option, filter_map, last_or}
use Rattle.std.specs.Prelude.{nat_le, nat_lt, unwrap_or}
use Rattle.std.specs.Option.{option_or}
use Rattle.upath_commands.specs.declared.command.Command.{Command}
use Rattle.upath_commands.specs.declared.command.Command.TheVariants as command
use Rattle.upath_commands.specs.declared.command.JoinRule.{JoinRule}
use Rattle.upath_commands.specs.declared.options.Flag.{Flag}
use Rattle.upath_commands.specs.declared.options.Flag.TheVariants as option
use Rattle.upath_commands.specs.declared.usage.UsageErrorKind.{UsageErrorKind}
use Rattle.upath_commands.specs.declared.usage.UsageErrorKind.TheVariants as wrong
use Rattle.upath_commands.specs.Arguments.{Words, archive_meaning, asked_in, command_meaning}
use Rattle.upath_commands.specs.Arguments.{dashes_at, each, each_after, equal_meaning, fault_of}
use Rattle.upath_commands.specs.Arguments.{first_of, foreign_option, found_meaning, has, is_dashes}
use Rattle.upath_commands.specs.Arguments.{is_given, join_meaning, join_rule, last_value}
use Rattle.upath_commands.specs.Arguments.{meaning_of_command, meaning_of_items, newline_fault}
use Rattle.upath_commands.specs.Arguments.{operand_of, operands_of, options_of, refuse}
use Rattle.upath_commands.specs.Arguments.{relative_meaning, task_of, value_of}
use Rattle.upath_commands.specs.Invocations.{Meaning}
use Rattle.upath_commands.specs.Invocations as value
use Rattle.upath_commands.specs.Items.{ItemValue, operand}
use Rattle.upath_commands.specs.Options.{command_by_name}
use Rattle.upath_commands.proofs.lemmas.DashLemmas.{dashes-moved}
use Rattle.upath_commands.proofs.lemmas.OperandLemmas.{filter_map-operands, filter_map-skip}
use Rattle.upath_commands.proofs.lemmas.OperandLemmas.{first_of-skip, list_any-operands}
use Rattle.upath_commands.proofs.lemmas.OperandLemmas.{list_any-skip, operands_of-skip}

-- the same options are among both lists of items, with the same values
pub record SameOptions (xs ys : List ItemValue) : Type 0 where
  pub flags : (flag : Flag) → has xs flag ≡ has ys flag
  pub values : (flag : Flag) → last_value xs flag ≡ last_value ys flag

-- a command's name, these items and the number of operands before `--`
abbrev pub words_of : List ItemValue → List ℕ → ℕ → Words
words_of items name dashes = record { name = name; items = items; dashes = dashes }

module _ (xs ys : List ItemValue) (same : SameOptions xs ys) where
  join_rule-same : join_rule xs ≡ join_rule ys
  join_rule-same =
      rw (same.flags option.Beneath, same.flags option.InRoot, same.flags option.Verbatim) refl

  options_of-same : options_of xs ≡ options_of ys
  options_of-same =
      rw (
        same.flags option.Null,
        same.flags option.Pair,
        same.flags option.Quiet,
        same.flags option.FromBack,
        join_rule-same,
        same.flags option.Inverted,
        same.flags option.Reason,
        same.flags option.TarList,
        same.flags option.Closed,
        same.flags option.Strip,
        same.flags option.ByComponents,
        same.flags option.Unique,
        same.flags option.Reversed,
      ) refl

  task_of-same : (command : Command) (base : List ℕ)
      → task_of command base xs ≡ task_of command base ys
  task_of-same command base = rw (options_of-same, same.values option.Or) refl

-- operands behind the items change neither options nor their values
given-before : (items : List ItemValue) (ps : List (List ℕ)) (flag : Flag)
    → has (items ++ map operand ps) flag ≡ has items flag
given-before [] ps flag = list_any-operands (is_given flag) (λ b. refl) ps
given-before (item ∷ items) ps flag =
    ap (λ is. is_given flag item || is) (given-before items ps flag)

values-before : (items : List ItemValue) (ps : List (List ℕ)) (flag : Flag)
    → filter_map (value_of flag) (items ++ map operand ps) ≡ filter_map (value_of flag) items
values-before [] ps flag = filter_map-operands (value_of flag) (λ b. refl) ps
values-before (item ∷ items) ps flag =
    ap (cons_option (value_of flag item)) (values-before items ps flag)

pub task_of-before : (command : Command) (base : List ℕ) (items : List ItemValue)
    (ps : List (List ℕ))
    → task_of command base (items ++ map operand ps) ≡ task_of command base items
task_of-before command base items ps =
    task_of-same (items ++ map operand ps) items record {
      flags = given-before items ps;
      values = λ flag. ap (last_or None) (values-before items ps flag);
    } command base

module _ (xs ys : List ItemValue) (same : SameOptions xs ys) (name : List ℕ) (n : ℕ) where
  each-same : (command : Command) (base : List ℕ) (own : ℕ) (operands : List (List ℕ))
      → each command base (words_of xs name n) own operands
      ≡ each command base (words_of ys name n) own operands
  each-same command base own [] =
      ap (λ task. Ok (value.Each task (if nat_le own n then Some [] else None)))
      (task_of-same xs ys same command base)
  each-same command base own (path ∷ paths) =
      ap (λ task. if nat_lt own n then Err (wrong.BeforeDashes, path)
      else Ok (value.Each task (Some (path ∷ paths)))) (task_of-same xs ys same command base)

  each_after-same : (command : Command) (missing : UsageErrorKind) (operands : List (List ℕ))
      → each_after command missing (words_of xs name n) operands
      ≡ each_after command missing (words_of ys name n) operands
  each_after-same command missing [] = refl
  each_after-same command missing (base ∷ paths) = each-same command base 2 paths

  equal_meaning-same : (operands : List (List ℕ))
      → equal_meaning (words_of xs name n) operands ≡ equal_meaning (words_of ys name n) operands
  equal_meaning-same [] = refl
  equal_meaning-same (a ∷ []) = refl
  equal_meaning-same (a ∷ b ∷ []) =
      ap (λ options. Ok (value.Equal options a b)) (options_of-same xs ys same)
  equal_meaning-same (a ∷ b ∷ c ∷ operands) = refl

  archive_meaning-same : (operands : List (List ℕ))
      → archive_meaning (words_of xs name n) operands
      ≡ archive_meaning (words_of ys name n) operands
  archive_meaning-same [] = ap (λ options. Ok (value.Archive options)) (options_of-same xs ys same)
  archive_meaning-same (operand ∷ operands) = refl

  join_meaning-same : (rule : Option JoinRule) (operands : List (List ℕ))
      → join_meaning rule (words_of xs name n) operands
      ≡ join_meaning rule (words_of ys name n) operands
  join_meaning-same None operands = refl
  join_meaning-same (Some rule) operands =
      each_after-same command.Join wrong.MissingRoot operands

  relative_meaning-same : (dir : Option (List ℕ)) (operands : List (List ℕ))
      → relative_meaning dir (words_of xs name n) operands
      ≡ relative_meaning dir (words_of ys name n) operands
  relative_meaning-same None operands = refl
  relative_meaning-same (Some dir) operands = each-same command.Relative dir 1 operands

  newline_fault-same : (operands : List (List ℕ))
      → newline_fault xs operands ≡ newline_fault ys operands
  newline_fault-same operands = rw (same.flags option.Null, same.values option.Or) refl

  meaning_of_command-same : (command : Command) (operands : List (List ℕ))
      → meaning_of_command command (words_of xs name n) operands
      ≡ meaning_of_command command (words_of ys name n) operands
  meaning_of_command-same command.Canon operands = each-same command.Canon [] 1 operands
  meaning_of_command-same command.Resolve operands = each-same command.Resolve [] 1 operands
  meaning_of_command-same command.Parent operands = each-same command.Parent [] 1 operands
  meaning_of_command-same command.Ancestors operands = each-same command.Ancestors [] 1 operands
  meaning_of_command-same command.Name operands = each-same command.Name [] 1 operands
  meaning_of_command-same command.Stem operands = each-same command.Stem [] 1 operands
  meaning_of_command-same command.Extension operands = each-same command.Extension [] 1 operands
  meaning_of_command-same command.Parts operands = each-same command.Parts [] 1 operands
  meaning_of_command-same command.Join operands =
      join_meaning-same (join_rule xs) operands
      ∙ ap (λ rule. join_meaning rule (words_of ys name n) operands) (join_rule-same xs ys same)
  meaning_of_command-same command.Strip operands =
      each_after-same command.Strip wrong.MissingBase operands
  meaning_of_command-same command.Relative operands =
      relative_meaning-same (last_value xs option.From) operands
      ∙ ap (λ dir. relative_meaning dir (words_of ys name n) operands) (same.values option.From)
  meaning_of_command-same command.Key operands = each-same command.Key [] 1 operands
  meaning_of_command-same command.Unkey operands = each-same command.Unkey [] 1 operands
  meaning_of_command-same command.Escapes operands = each-same command.Escapes [] 1 operands
  meaning_of_command-same command.Archive operands = archive_meaning-same operands
  meaning_of_command-same command.Under operands =
      each_after-same command.Under wrong.MissingBase operands
  meaning_of_command-same command.Sort operands =
      each-same (if has xs option.Check then command.Check else command.Sort) [] 1 operands
      ∙ ap (λ check. each (if check then command.Check else command.Sort) []
      (words_of ys name n) 1 operands) (same.flags option.Check)
  meaning_of_command-same command.Check operands = each-same command.Check [] 1 operands
  meaning_of_command-same command.Uniq operands = each-same command.Uniq [] 1 operands
  meaning_of_command-same command.Equal operands = equal_meaning-same operands

  -- a command means the same with both lists of items, if both have the same foreign options
  pub command-same : (command : Command)
      → first_of (foreign_option command) xs ≡ first_of (foreign_option command) ys
      → (operands : List (List ℕ)) → found_meaning (Some command) (words_of xs name n) operands
      ≡ found_meaning (Some command) (words_of ys name n) operands
  command-same command foreign operands =
      ap₂ refuse foreign
      (ap₂ refuse (newline_fault-same operands) (meaning_of_command-same command operands))

  found_meaning-same : (found : Option Command)
      → ((command : Command)
      → first_of (foreign_option command) xs ≡ first_of (foreign_option command) ys)
      → (operands : List (List ℕ)) → found_meaning found (words_of xs name n) operands
      ≡ found_meaning found (words_of ys name n) operands
  found_meaning-same None foreign operands = refl
  found_meaning-same (Some command) foreign operands =
      command-same command (foreign command) operands

-- operands mean the same with both lists of items, if both have the same options
command_meaning-same : (xs ys : List ItemValue) → SameOptions xs ys
    → ((command : Command)
    → first_of (foreign_option command) xs ≡ first_of (foreign_option command) ys)
    → dashes_at xs ≡ dashes_at ys → (operands : List (List ℕ))
    → command_meaning xs operands ≡ command_meaning ys operands
command_meaning-same xs ys same foreign dashes [] = refl
command_meaning-same xs ys same foreign dashes (name ∷ operands) =
    found_meaning-same xs ys same name (dashes_at xs) (command_by_name name) foreign operands
    ∙ ap (λ n. found_meaning (command_by_name name) (words_of ys name n) operands) dashes

first_of-moved : {A : Type 0} (f : ItemValue → Option A) → ((b : List ℕ) → f (operand b) ≡ None)
    → (item : ItemValue) (before : List (List ℕ)) (items : List ItemValue)
    → first_of f (map operand before ++ item ∷ items)
    ≡ first_of f (item ∷ (map operand before ++ items))
first_of-moved f h item before items =
    first_of-skip f h before (item ∷ items)
    ∙ sym (ap (option_or (f item)) (first_of-skip f h before items))

-- an item that is no operand and isn't `--` means the same before and after operands, unless
-- something is asked for
pub moved : (item : ItemValue) (before : List (List ℕ)) (items : List ItemValue)
    → is_dashes item ≡ false → operand_of item ≡ None
    → asked_in (map operand before ++ item ∷ items)
    ≡ asked_in (item ∷ (map operand before ++ items))
    → meaning_of_items (map operand before ++ item ∷ items)
    ≡ meaning_of_items (item ∷ (map operand before ++ items))
moved item before items dashes none asked =
    let rest = map operand before ++ items in
    let xs = map operand before ++ item ∷ items in
    let ys = item ∷ rest in
    let same : SameOptions xs ys = record {
      flags = λ flag. list_any-skip (is_given flag) (λ b. refl) before (item ∷ items)
          ∙ sym (ap (λ t. is_given flag item || t)
          (list_any-skip (is_given flag) (λ b. refl) before items));
      values = λ flag. ap (last_or None)
          (filter_map-skip (value_of flag) (λ b. refl) before (item ∷ items)
          ∙ sym (ap (cons_option (value_of flag item))
          (filter_map-skip (value_of flag) (λ b. refl) before items)));
    } in
    let operands : operands_of xs ≡ operands_of ys =
    operands_of-skip before (item ∷ items)
    ∙ ap (λ found. before ++ cons_option found (operands_of items)) none
    ∙ sym (operands_of-skip before items)
    ∙ sym (ap (λ found. cons_option found (operands_of rest)) none) in
    ap₂ unwrap_or asked (ap₂ refuse (first_of-moved fault_of (λ b. refl) item before items)
    (ap (command_meaning xs) operands
    ∙ command_meaning-same xs ys same (λ command.
    first_of-moved (foreign_option command) (λ b. refl) item before items)
    (dashes-moved item before items dashes none) (operands_of ys)))
