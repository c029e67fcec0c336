use Rattle.std.proofs.Common.{◌+◌, ◌<◌, ◌^◌, length}
use Rattle.path_within.specs.Pieces.{remaining_values}
use Rattle.unix_path.specs.Parts.{values}
use Rattle.path_within.specs.Below.{names_below}
use Rattle.path_within.specs.WrittenBytes.{slashed_len}
use Rattle.path_within.proofs.lemmas.backward.SharedLemmas.{Shares}
use Rattle.path_within.proofs.relative.shared_names.Given as goal

abbrev pub invariant-loop-name : goal.invariant-loop-name
invariant-loop-name l =
    let other_rest = names_below (remaining_values l.other_rest) in
    record {
      shares : Shares (names_below (values l.fn.from.bytes.now))
          (names_below (values l.fn.to.bytes.now)) (names_below (remaining_values l.rest))
          other_rest
          l.index l.count l.taken_len l.len;
      fits : l.taken_len + slashed_len other_rest < 2 ^ 64;
      few_rest : length (remaining_values l.rest) < 2 ^ 64;
      few_other_rest : length (remaining_values l.other_rest) < 2 ^ 64;
    }

abbrev pub decreases-loop-name : goal.decreases-loop-name
decreases-loop-name l = length (remaining_values l.rest)
