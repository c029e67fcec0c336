-- The runs of a key: first a lead, which is a root, a leading `.` or nothing, and then each `..`,
-- and runs of names with an end mark after each. No public clause cites these definitions.
use Rattle.std.specs.Prelude.{◌≡◌, ℕ, List, ◌∷◌, ◌++◌, [], map}
use Rattle.unix_path.specs.CommonDir.{inner_values}
use Rattle.unix_path.specs.Parts.{slash, cur_dir, parent_dir, ParentDir}
use Rattle.unix_path.specs.Prefixes.{IsPrefixOf}
use Rattle.path_runs.specs.Spelling.{slash_each}
use Rattle.path_keys.specs.Keys.{code, key_of}
use Rattle.path_keys.specs.NameBytes.{decoded}
use Rattle.path_keys.specs.declared.runs.Lead.{Lead}
use Rattle.path_keys.specs.declared.runs.Lead.TheVariants.{Absent, Root, Dot}
use Rattle.path_keys.specs.declared.runs.Run.{Run}
use Rattle.path_keys.specs.declared.runs.Run.TheVariants.{Names}
use Rattle.path_keys.specs.declared.runs.Run.TheVariants as run_variants

-- the text of a lead: its bytes before other components in a path
abbrev pub lead_text : Lead → List ℕ
lead_text Absent = []
lead_text Root = slash ∷ []
lead_text Dot = cur_dir ++ slash ∷ []

-- the bytes of a run in a key
abbrev pub run_code : Run → List ℕ
run_code run_variants.ParentDir = code ParentDir
run_code (Names bytes) = bytes.now ++ 0 ∷ []

-- the text of a run: its bytes before other components in a path
abbrev pub run_text : Run → List ℕ
run_text run_variants.ParentDir = parent_dir ++ slash ∷ []
run_text (Names bytes) = map decoded bytes.now ++ slash ∷ []

-- s begins with the code of the run, which is the key of the components of the run's text; this
-- text consists of these components, with one slash after each
pub record TakesRun (s : List ℕ) (run : Run) : Type 0 where
  pub begins : IsPrefixOf (run_code run) s
  pub code_is : key_of (inner_values (run_text run)) ≡ run_code run
  pub text_is : slash ∷ run_text run ≡ slash_each (inner_values (run_text run)) ++ slash ∷ []
