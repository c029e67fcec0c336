use Rattle.std.proofs.Common.{◌≤◌, ◌<◌, ◌+◌, ◌≡◌, ◌^◌, ◌++◌, List, length}
use Rattle.path_within.specs.Pieces.{remaining_values}
use Rattle.unix_path.specs.Parts.{Value, values}
use Rattle.path_within.specs.Backward.{last_names}
use Rattle.path_within.proofs.lemmas.backward.PutLemmas.{Puts}
use Rattle.path_within.specs.WrittenBytes.{slashed_len}
use Rattle.path_within.proofs.backward.put_names_before.Given as goal

abbrev pub invariant-loop-remaining : goal.invariant-loop-remaining
invariant-loop-remaining l =
    let rest = last_names l.remaining (remaining_values l.rest) in
    record {
      few : length (remaining_values l.rest) < 2 ^ 64;
      in_range : l.end ≤ 1 + length l.out;
      space : slashed_len rest ≤ l.end;
      made : (vs : List Value) × (last_names l.fn.count (values l.fn.path.bytes.now) ≡ rest ++ vs)
          × Puts vs l.initial.end l.initial.out l.end l.out;
    }

abbrev pub decreases-loop-remaining : goal.decreases-loop-remaining
decreases-loop-remaining l = l.remaining
