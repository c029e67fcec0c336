use Rattle.std.proofs.Common.{◌≡◌, ◌+◌, ◌≤◌, ◌<◌, ◌^◌, length}
use Rattle.path_within.specs.Pieces.{remaining_values}
use Rattle.unix_path.specs.Parts.{values}
use Rattle.path_within.specs.Backward.{remaining_parent_dirs}
use Rattle.path_within.specs.Below.{names_below}
use Rattle.path_within.specs.WrittenBytes.{slashed_len}
use Rattle.path_within.proofs.backward.count_resolved.Given as goal

abbrev pub invariant-loop-name : goal.invariant-loop-name
invariant-loop-name l = record {
  count_resolved : l.len + slashed_len (names_below (remaining_values l.rest))
      ≡ slashed_len (names_below (values l.fn.path.bytes.now));
  names : l.names + length (names_below (remaining_values l.rest))
      ≡ length (names_below (values l.fn.path.bytes.now));
  parent_dirs : remaining_parent_dirs (remaining_values l.rest)
      ≡ remaining_parent_dirs (remaining_values l.initial.rest);
  fits : slashed_len (names_below (values l.fn.path.bytes.now)) ≤ 1 + length l.fn.path.bytes.now;
  few : length (remaining_values l.rest) < 2 ^ 64;
}

abbrev pub decreases-loop-name : goal.decreases-loop-name
decreases-loop-name l = length (remaining_values l.rest)
