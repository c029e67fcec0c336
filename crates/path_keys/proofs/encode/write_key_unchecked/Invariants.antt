use Rattle.std.proofs.Common.{◌≡◌, false, length}
use Rattle.unix_path.specs.CommonDir.{inner_values}
use Rattle.unix_path.specs.Parts.{values}
use Rattle.unix_path.specs.Scan.{is_filler}
use Rattle.path_runs.proofs.lemmas.lists.WritingLemmas.{WritesOn}
use Rattle.path_keys.specs.Keys.{key_of}
use Rattle.path_keys.proofs.encode.write_key_unchecked.Given as goal

-- the first bytes of the key are written, and the key of the rest follows them
abbrev pub invariant-loop-rest : goal.invariant-loop-rest
invariant-loop-rest l = record {
  not_filler : is_filler l.rest 0 ≡ false;
  written : WritesOn (key_of (values l.path)) l.fn.out l.at l.out (key_of (inner_values l.rest));
}

abbrev pub decreases-loop-rest : goal.decreases-loop-rest
decreases-loop-rest l = length l.rest
