use Rattle.std.proofs.Common.{◌≡◌, ℕ, ◌-◌, ◌<◌, ◌≤◌, false, length}
use Rattle.unix_path.specs.NameRunEnds.{ends_name_run_of}
use Rattle.unix_path.proofs.name_run_ends.name_run_end_expect_short.Given as goal

abbrev pub invariant-loop-at : goal.invariant-loop-at
invariant-loop-at l = record {
  in_range : l.at ≤ length l.bytes;
  none_before : (i : ℕ) → i < l.at → ends_name_run_of l.separator l.dot l.bytes i ≡ false;
}

abbrev pub decreases-loop-at : goal.decreases-loop-at
decreases-loop-at l = length l.bytes - l.at
