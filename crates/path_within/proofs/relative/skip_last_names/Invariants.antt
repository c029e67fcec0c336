use Rattle.std.proofs.Common.{◌+◌, ◌-◌, ◌≤◌, ◌<◌, ◌^◌, length}
use Rattle.path_within.specs.Pieces.{remaining_values}
use Rattle.path_within.proofs.lemmas.backward.SharedLemmas.{TakesLast}
use Rattle.path_within.specs.Below.{names_below}
use Rattle.path_within.specs.WrittenBytes.{slashed_len}
use Rattle.path_within.proofs.relative.skip_last_names.Given as goal

abbrev pub invariant-loop-remaining : goal.invariant-loop-remaining
invariant-loop-remaining l =
    let rest = names_below (remaining_values l.rest) in
    record {
      few : length (remaining_values l.rest) ≤ length (remaining_values l.initial.rest);
      remaining : l.remaining ≤ length rest;
      in_range : l.remaining ≤ l.count;
      taken : TakesLast (names_below (remaining_values l.initial.rest)) rest (l.count - l.remaining)
          l.len;
      fits : l.len + slashed_len rest < 2 ^ 64;
    }

abbrev pub decreases-loop-remaining : goal.decreases-loop-remaining
decreases-loop-remaining l = l.remaining
