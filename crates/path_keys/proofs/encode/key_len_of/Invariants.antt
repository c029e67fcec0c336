use Rattle.std.proofs.Common.{◌≡◌, ◌+◌, false, length}
use Rattle.unix_path.specs.CommonDir.{inner_values}
use Rattle.unix_path.specs.Parts.{values}
use Rattle.unix_path.specs.Scan.{is_filler}
use Rattle.path_keys.specs.Keys.{key_of}
use Rattle.path_keys.proofs.encode.key_len_of.Given as goal

-- the length that was counted and the length of the key of the rest are the length of the key
abbrev pub invariant-loop-rest : goal.invariant-loop-rest
invariant-loop-rest l = record {
  not_filler : is_filler l.rest 0 ≡ false;
  whole : l.len + length (key_of (inner_values l.rest)) ≡ length (key_of (values l.path));
}

abbrev pub decreases-loop-rest : goal.decreases-loop-rest
decreases-loop-rest l = length l.rest
