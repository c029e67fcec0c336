use Rattle.std.proofs.Common.{◌≡◌, ◌-◌, suc, refl, arith}
use Rattle.std.proofs.lemmas.Grind.{common_steps}
use Rattle.unix_path.specs.Parts.{Normal}
use Rattle.path_within.specs.Backward.{piece_value}
use Rattle.path_within.specs.Pieces.{remaining_values}
use Rattle.path_within.proofs.lemmas.backward.LastLemmas.{none_remain, taken}
use Rattle.path_within.proofs.backward.Pieces.next_back_resolved.Goals as goal

pub returns-in_default-bytes : goal.returns-in_default-bytes
returns-in_default-bytes c =
    let name : piece_value c.in-Some.bytes.now ≡ Normal c.from_bytes.result.bytes.now =
    grind (arith, common_steps) in
    taken 0 (remaining_values c.next_back.new.self) c.loop-bytes.invariant c.if-parent_dirs-eq0.true
    c.in-Some.ensures.some name

pub loop-bytes-preserved : goal.loop-bytes-preserved
loop-bytes-preserved c =
    let name : piece_value c.in-Some.bytes.now ≡ Normal c.in-Some.bytes.now =
    grind (arith, common_steps) in
    taken (suc (c.loop-bytes.parent_dirs - 1)) (remaining_values c.next_back.new.self)
    c.loop-bytes.invariant
    (omega (arith, c.if-parent_dirs-eq0.false)) c.in-Some.ensures.some name

pub returns : goal.returns
returns c = none_remain c.loop-bytes.invariant (c.in_default.ensures.none refl)
