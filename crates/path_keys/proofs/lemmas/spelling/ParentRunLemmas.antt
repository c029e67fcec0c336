-- A `..` in a key, and in a path.
use Rattle.std.proofs.Common.{ℕ, List, [], ◌∷◌, ◌++◌, drop, sym, ap, ◌∙◌, arith}
use Rattle.unix_path.specs.Parts.{ParentDir}
use Rattle.unix_path.specs.Prefixes.{IsPrefixOf}
use Rattle.path_keys.specs.Keys.{code}
use Rattle.path_keys.specs.Runs.{TakesRun}
use Rattle.path_keys.specs.declared.runs.Run.TheVariants as run_variants
use Rattle.path_keys.proofs.lemmas.values.KeyLemmas.{key_of-one}
use Rattle.path_keys.proofs.lemmas.reading.TextLemmas.{text_of-one}
use Rattle.path_keys.proofs.lemmas.spelling.RunTextLemmas.{run_told}

-- if s begins with the code of a `..`, s begins with the run that is this `..`
pub parent_run : (s : List ℕ) → IsPrefixOf (code ParentDir) s → TakesRun s run_variants.ParentDir
parent_run s begins = run_told (record {
  vs = ParentDir ∷ [];
  some = omega arith;
  fit = (tt, tt);
  code_is = key_of-one ParentDir;
  text_is = text_of-one ParentDir;
  is = sym begins.1 ∙ ap (λ t. code ParentDir ++ drop 2 t) begins.1;
})
