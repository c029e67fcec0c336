-- What is printed, as records.
use Rattle.std.proofs.Common.{◌≡◌, ◌≢◌, ℕ, true, false, ◌==◌, List, [], ◌∷◌, ◌++◌}
use Rattle.std.proofs.Common.{Option, Some, None, refl, sym, ap, ap₂, ◌∙◌, append_assoc}
use Rattle.std.proofs.Common.{true≢false, option_map, length, arith}
use Rattle.std.proofs.lemmas.Bool.{eqb-true}
use Rattle.std.specs.List.{AllByRecursion, flat_map, list_any, onto_first, slice_split}
use Rattle.std.proofs.lemmas.Grind.{flat_map-append}
use Rattle.std.proofs.lemmas.List.Splits.{slice_split-cons_no}
use Rattle.upath_commands.specs.AnswerLaws.{Lacks, printed_for}
use Rattle.upath_commands.specs.Answers.{dot_if_empty, end_of, record_of, record_output}
use Rattle.upath_commands.specs.Commands.{printed_of, text_for}
use Rattle.upath_commands.specs.declared.command.Options.{Options}
use Rattle.upath_commands.specs.Records.{records_of}
use Rattle.upath_commands.specs.Invocations.{TaskValue}
use Rattle.upath_commands.specs.Tasks.{answers, message_of, messages_of, output_of}
use Rattle.upath_commands.proofs.lemmas.RecordLemmas.{by_test, records_before, records_of-nil}

-- `.` is printed in place of the empty path
pub dotted-some : (found : Option (List ℕ)) → option_map dot_if_empty found ≢ Some []
dotted-some None = λ e. cc
dotted-some (Some []) = λ e. cc
dotted-some (Some (b ∷ p)) =
    by_test (length (b ∷ p) == 0)
    (λ t. absurd (omega (arith, eqb-true (length (b ∷ p)) 0 t)))
    (λ t. rw t (λ e. cc))

-- bytes without `end` are one piece
one_piece : (end : ℕ) (bytes : List ℕ) → Lacks end bytes
    → slice_split (λ b. b == end) bytes ≡ bytes ∷ []
one_piece end [] h = refl
one_piece end (b ∷ bytes) h =
    by_test (b == end)
    (λ e. let k : true ≡ false = rw e at h in absurd (true≢false k))
    (λ e. let k : list_any (λ b. b == end) bytes ≡ false = rw e at h in
    slice_split-cons_no (λ b. b == end) b bytes e ∙ ap (onto_first b) (one_piece end bytes k))

-- answers that were written read back
records-written : (end : ℕ) (records : List (List ℕ)) → AllByRecursion (Lacks end) records
    → records_of end (flat_map (λ answer. answer ++ end ∷ []) records) ≡ records
records-written end [] h = records_of-nil end
records-written end (r ∷ records) h =
    let rest = flat_map (λ answer. answer ++ end ∷ []) records in
    ap (records_of end) (append_assoc r (end ∷ []) rest) ∙ records_before end r rest
    ∙ ap₂ (λ xs ys. xs ++ ys) (one_piece end r h.0) (records-written end records h.1)

module _ (options : Options) (p : List ℕ) where
  record-alone : (answer : List ℕ) → options.pair ≡ false
      → record_of options p answer ≡ answer ++ end_of options ∷ []
  record-alone answer h = rw h refl

  records-alone : (answers : List (List ℕ)) → options.pair ≡ false
      → flat_map (record_of options p) answers
      ≡ flat_map (λ answer. answer ++ end_of options ∷ []) answers
  records-alone [] h = refl
  records-alone (a ∷ answers) h =
      ap₂ (λ xs ys. xs ++ ys) (record-alone a h) (records-alone answers h)

  output-loud : (answers : List (List ℕ)) → options.quiet ≡ false
      → record_output options p answers ≡ flat_map (record_of options p) answers
  output-loud answers h = rw h refl

  output-quiet : (answers : List (List ℕ)) → options.quiet ≡ true
      → record_output options p answers ≡ []
  output-quiet answers h = rw h refl

module _ (task : TaskValue) where
  -- the output has each answer and then the byte that ends records
  output-is : (paths : List (List ℕ)) → task.options.quiet ≡ false → task.options.pair ≡ false
      → output_of task paths
      ≡ flat_map (λ answer. answer ++ end_of task.options ∷ []) (printed_for task paths)
  output-is [] loud alone = refl
  output-is (p ∷ paths) loud alone =
      let printed = printed_of task p in
      ap₂ (λ xs ys. xs ++ ys)
      (output-loud task.options p printed loud ∙ records-alone task.options p printed alone)
      (output-is paths loud alone)
      ∙ sym (flat_map-append (λ answer. answer ++ end_of task.options ∷ []) printed
      (printed_for task paths))

  pub output-reads_back : (paths : List (List ℕ)) → task.options.quiet ≡ false
      → task.options.pair ≡ false
      → AllByRecursion (Lacks (end_of task.options)) (printed_for task paths)
      → records_of (end_of task.options) (output_of task paths) ≡ printed_for task paths
  output-reads_back paths loud alone whole =
      ap (records_of (end_of task.options)) (output-is paths loud alone)
      ∙ records-written (end_of task.options) (printed_for task paths) whole

  all_nothing : (f : List ℕ → List ℕ) → ((p : List ℕ) → f p ≡ []) → (paths : List (List ℕ))
      → flat_map f paths ≡ []
  all_nothing f h [] = refl
  all_nothing f h (p ∷ paths) = ap₂ (λ xs ys. xs ++ ys) (h p) (all_nothing f h paths)

  no_message : task.options.quiet ≡ true → (p : List ℕ) → message_of task p ≡ []
  no_message h p = by_test (answers task p) (λ e. rw e refl) (λ e. rw e (rw h refl))

  pub output-nothing : (paths : List (List ℕ)) → task.options.quiet ≡ true
      → output_of task paths ≡ []
  output-nothing paths h =
      all_nothing (text_for task)
      (λ p. output-quiet task.options p (printed_of task p) h) paths

  pub messages-nothing : (paths : List (List ℕ)) → task.options.quiet ≡ true
      → messages_of task paths ≡ []
  messages-nothing paths h = all_nothing (message_of task) (no_message h) paths
