use Rattle.std.proofs.Common.{◌+◌, ◌-◌, ◌==◌, take, drop, get_or, sym, ap, ◌∙◌, arith, eqb-true}
use Rattle.std.proofs.Common.{subst}
use Rattle.std.specs.Int.Count.{count_leading_zeros}
use Rattle.std.proofs.lemmas.Simd.{length-chunk}
use Rattle.unix_bytes.proofs.lemmas.vectors.HitLemmas.{LastHit, in_window, last_hit}
use Rattle.unix_bytes.proofs.search.after_last_simd16.Goals as goal

pub returns : goal.returns
returns c =
    let s = c.args.bytes.now in
    let at = c.args.at in
    let byte = c.args.byte in
    let window = take 16 (drop at s) in
    let hit = subst (λ n. LastHit byte window (64 - count_leading_zeros 64 n)) (sym c.hits.ensures)
    (last_hit byte window (length-chunk at 16 s c.requires)) in
    let past = 64 - count_leading_zeros 64 c.hits.result in
    record {
      in_range = hit.in_range;
      after = λ some.
          ap (λ k. get_or s k 0) {x = at + past - 1} {y = at + (past - 1)} (omega arith)
          ∙ sym (in_window at 16 s (at + (past - 1)) (omega arith) (omega (arith, hit.in_range)))
          ∙ ap (λ k. get_or window k 0) {x = at + (past - 1) - at} {y = past - 1} (omega arith)
          ∙ eqb-true _ byte (hit.after some);
      none_after = λ k h few.
          ap (λ b. b == byte) (sym (in_window at 16 s k (omega (arith, h)) few))
          ∙ hit.none_after (k - at) (omega (arith, h)) (omega (arith, few));
    }
