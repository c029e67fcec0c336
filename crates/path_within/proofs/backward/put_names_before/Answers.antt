use Rattle.std.proofs.Common.{◌-◌, ◌∷◌, [], arith}
use Rattle.std.proofs.Common.{append_assoc, append-nil}
use Rattle.path_within.specs.Pieces.{remaining_values}
use Rattle.unix_path.specs.Parts.{Normal}
use Rattle.path_within.specs.Backward.{last_names}
use Rattle.path_within.proofs.lemmas.backward.PutLemmas.{puts_none, puts_then, puts_value}
use Rattle.path_within.proofs.lemmas.backward.PutLemmas.{slashed_len-push}
use Rattle.path_within.proofs.backward.put_names_before.Goals as goal
use Rattle.std.proofs.lemmas.Grind.{common_steps}

pub loop-remaining-init : goal.loop-remaining-init
loop-remaining-init c = grind (arith, append-nil, puts_none)

pub loop-remaining-preserved : goal.loop-remaining-preserved
loop-remaining-preserved c =
    let name = c.in-Name.name.bytes.now in
    let rest =
    last_names (c.loop-remaining.remaining - 1) (remaining_values c.next_back_resolved.new.self) in
    let made = c.loop-remaining.invariant.made in grind (
      arith,
      common_steps,
      slashed_len-push rest name,
      append_assoc rest (Normal name ∷ []) made.0,
      puts_then made.2
          (puts_value (Normal name) c.put_before-end.ensures.start c.put_before-end.ensures.bytes),
      puts_value (Normal name) c.put_before-end.ensures.start c.put_before-end.ensures.bytes,
    )
