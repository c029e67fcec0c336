use Rattle.std.proofs.Common.{true, false, ◌≡◌, ◌+◌, ◌-◌, ◌∙◌, arith, length}
use Rattle.path_within.specs.Pieces.{remaining_values}
use Rattle.std.specs.Str.{bytes_eq}
use Rattle.std.proofs.lemmas.List.Sums.{sum_by-append, common_prefix_len-le}
use Rattle.unix_path.specs.Parts.{Normal, value_bytes}
use Rattle.path_within.specs.Backward.{last_names}
use Rattle.path_within.specs.Below.{names_below}
use Rattle.path_within.proofs.lemmas.below.BoundLemmas.{slashed_len-names}
use Rattle.path_within.proofs.lemmas.backward.SharedLemmas.{same_bytes}
use Rattle.path_within.proofs.lemmas.backward.SharedLemmas.{shares_taken}
use Rattle.path_within.proofs.lemmas.backward.PutLemmas.{slashed_len-push}
use Rattle.path_within.proofs.relative.shared_names.Goals as goal
use Rattle.std.proofs.lemmas.Grind.{common_steps}
use Rattle.std.proofs.Common.{length-append, length-drop}

pub skip_last_names-taken-requires-clause-fits : goal.skip_last_names-taken-requires-clause-fits
skip_last_names-taken-requires-clause-fits c = grind (arith, slashed_len-names)

pub skip_last_names-taken_len-requires-clause-fits :
    goal.skip_last_names-taken_len-requires-clause-fits
skip_last_names-taken_len-requires-clause-fits c = grind (arith, slashed_len-names)

pub loop-name-init : goal.loop-name-init
loop-name-init c =
    let first = c.new-rest.ensures.names in
    let second = c.new-other_rest.ensures.names in
    let rest = names_below (remaining_values c.skip_last_names-taken.new.rest) in
    let other_rest = names_below (remaining_values c.skip_last_names-taken_len.new.rest) in
    let first_taken = last_names (c.args.first - c.args.second)
    (remaining_values c.new-rest.result) in
    let second_taken = last_names (c.args.second - c.args.first)
    (remaining_values c.new-other_rest.result) in
    record {
      shares = record {
        first_taken = first_taken;
        second_taken = second_taken;
        first_is = grind (arith, common_steps);
        second_is = grind (arith, common_steps);
        first_size = grind (arith, common_steps, length-drop, length-append);
        second_size = grind (arith, common_steps, length-drop, length-append);
        shared_is = grind (arith, common_steps, common_prefix_len-le, length-drop, length-append);
        behind_is = grind (arith, common_steps);
        len_is = grind (arith, common_steps, common_prefix_len-le, length-drop, length-append);
      };
      fits = grind (
        arith,
        common_steps,
        sum_by-append (λ v. 1 + length (value_bytes v)) other_rest second_taken,
        slashed_len-names c.args.to.bytes.now,
      );
      few_rest = grind (arith, common_steps);
      few_other_rest = grind (arith, common_steps);
    }

pub loop-name-preserved-then-ne : goal.loop-name-preserved-then-ne
loop-name-preserved-then-ne c =
    let name = c.in-Name.name.bytes.now in
    let other = c.in-Name-next_back_resolved.other.bytes.now in
    let same : bytes_eq name other ≡ false =
    grind (arith, c.ne.ensures, c.if-ne.true) in grind (
      arith,
      shares_taken false (Normal name)
          (Normal other) c.loop-name.invariant.shares c.in-Name.ensures.names
          c.in-Name-next_back_resolved.ensures.names (same_bytes name other ∙ same),
      slashed_len-push
          (names_below (remaining_values c.next_back_resolved-in-Name.new.self)) other,
    )

pub loop-name-preserved : goal.loop-name-preserved
loop-name-preserved c =
    let name = c.in-Name.name.bytes.now in
    let other = c.in-Name-next_back_resolved.other.bytes.now in
    let same : bytes_eq name other ≡ true =
    grind (arith, c.ne.ensures, c.if-ne.false) in grind (
      arith,
      shares_taken true (Normal name)
          (Normal other) c.loop-name.invariant.shares c.in-Name.ensures.names
          c.in-Name-next_back_resolved.ensures.names (same_bytes name other ∙ same),
      slashed_len-push
          (names_below (remaining_values c.next_back_resolved-in-Name.new.self)) other,
    )
