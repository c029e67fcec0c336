use Rattle.std.proofs.Common.{◌≡◌, ℕ, ◌+◌, ◌-◌, ◌<◌, false}
use Rattle.unix_path.specs.NameRunEnds.{is_end_candidate_of}
use Rattle.unix_path.proofs.name_run_ends.has_no_end_candidate_over_32.Given as goal

-- no byte read so far is an end candidate
abbrev pub invariant-loop-at : goal.invariant-loop-at
invariant-loop-at l = record {
  in_range : l.at < l.last + 32;
  none_before : (i : ℕ) → i < l.at → is_end_candidate_of l.separator l.dot l.bytes i ≡ false;
}

abbrev pub decreases-loop-at : goal.decreases-loop-at
decreases-loop-at l = l.last + 32 - l.at
