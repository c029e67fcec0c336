use Rattle.std.proofs.Common.{rules, arith, ◌++◌, List, ℕ, take, sym, subst, ap, ◌∙◌}
use Rattle.std.proofs.Math.Seq.{take-add}
use Rattle.std.proofs.lemmas.List.{take_rest}
use Rattle.std.specs.Io.KnownBytes.{Appends}
use Rattle.std.proofs.KnownBytes.{Appends-trans}
use Rattle.std.proofs.lemmas.Grind.{common_steps}
use Rattle.byte_streams.proofs.lemmas.CallLemmas.{Many-none, Many-more}
use Rattle.byte_streams.proofs.writes.write_all.Goals as goal

pub loop-at-init : goal.loop-at-init
loop-at-init g c =
    (search rules, search rules, grind (arith, common_steps), Many-none _)

pub loop-at-preserved : goal.loop-at-preserved
loop-at-preserved g c =
    let (a, b, so_far, calls) = c.loop-at.invariant in
    let bytes : List ℕ = c.args.bytes.now in
    let at = c.loop-at.at in
    let count = c.in-Ok.count in (
      search rules,
      search rules,
      subst (Appends _ _)
          (ap (λ l. take at bytes ++ take count l) (take_rest bytes at)
          ∙ sym (take-add at count bytes))
          (Appends-trans _ _ _ _ _ so_far c.in-Ok.ensures.bytes),
      Many-more calls (_, (count, omega (arith, c.in-Ok.count-test), c.in-Ok.ensures.single_call)),
    )
