use Rattle.std.proofs.Common.{◌≡◌, List, ℕ, [], sym, subst, ◌∙◌, arith, eqb-true}
use Rattle.std.proofs.lemmas.Bool.{eqb-false}
use Rattle.std.proofs.lemmas.List.{nil_from_length}
use Rattle.unix_path.specs.Steps.{SharesPrefix}
use Rattle.unix_path.proofs.lemmas.order.KindLemmas.{first_parts-apart}
use Rattle.unix_path.proofs.lemmas.order.AfterCutLemmas.{after_filler-is, apart-shared, more-apart}
use Rattle.unix_path.proofs.lemmas.order.AfterCutLemmas.{more-rest_bytes}
use Rattle.unix_path.proofs.lemmas.order.AfterCutLemmas.{shares-onward}
use Rattle.unix_path.proofs.lemmas.order.AfterCutLemmas.{shares-past}
use Rattle.unix_path.proofs.lemmas.rests.SourceLemmas.{IsTail-itself, IsTail-trans}
use Rattle.unix_path.proofs.pair.Comparison.compare_after_cut.Goals.{After-after_filler-second}
use Rattle.unix_path.proofs.pair.Comparison.compare_after_cut.Goals as goal

pub loop-second-init : goal.loop-second-init
loop-second-init c = record { shares = λ s t h. h; tail = IsTail-itself c.args.a }

-- if the arguments a and b are the rests of s and t after the same components, so are the results
-- of both calls of `after_filler`
shares : (c : After-after_filler-second) (s t : List ℕ) → SharesPrefix s t c.args.a.now c.args.b.now
    → SharesPrefix s t c.after_filler-first.result.now c.after_filler-second.result.now
shares c s t h = shares-past (c.loop-second.invariant.shares s t h)
    (after_filler-is _ _ c.after_filler-first.ensures.tail c.after_filler-first.ensures.filler
    c.after_filler-first.ensures.not_filler)
    (after_filler-is _ _ c.after_filler-second.ensures.tail c.after_filler-second.ensures.filler
    c.after_filler-second.ensures.not_filler)

pub returns-then-is_empty : goal.returns-then-is_empty
returns-then-is_empty c = (
  record {
    shares = λ s t h. subst (SharesPrefix s t c.after_filler-first.result.now)
        (nil_from_length _ (eqb-true _ 0 (sym c.is_empty.ensures ∙ c.if-is_empty.true)))
        (shares (goal.at.returns-then-is_empty c).After-after_filler-second s t h);
    tail = IsTail-trans _ _ _ c.after_filler-first.ensures.tail c.loop-second.invariant.tail;
  },
  c.after_filler-first.ensures.not_filler,
)

pub returns-in-Decided : goal.returns-in-Decided
returns-in-Decided c = λ s t h.
    apart-shared (shares (goal.at.returns-in-Decided c).After-after_filler-second s t h)
    c.after_filler-first.ensures.not_filler c.after_filler-second.ensures.not_filler
    c.in-Decided.ensures

pub returns-in-FirstComponents : goal.returns-in-FirstComponents
returns-in-FirstComponents c = λ s t h.
    let second = c.after_filler-second.result.now in
    let none : c.after_filler-first.result.now ≡ [] =
    nil_from_length _ (eqb-true _ 0 (sym c.if-is_empty-2.ensures)) in
    more-apart (more-rest_bytes (subst (λ x. SharesPrefix s t x second) none
    (shares (goal.at.returns-in-FirstComponents c).After-after_filler-second s t h))
    c.after_filler-second.ensures.not_filler
    (omega (arith, eqb-false _ 0 (sym c.is_empty.ensures ∙ c.if-is_empty.false))))

pub returns-in-FirstComponents-2 : goal.returns-in-FirstComponents-2
returns-in-FirstComponents-2 c = λ s t h.
    let first : List ℕ = c.after_filler-first.result.now in
    let second : List ℕ = c.after_filler-second.result.now in
    apart-shared (shares (goal.at.returns-in-FirstComponents-2 c).After-after_filler-second s t h)
    c.after_filler-first.ensures.not_filler c.after_filler-second.ensures.not_filler
    (record {
      order_is = c.first_components_order.ensures;
      no_prefix = first_parts-apart first second c.common_len_expect_short-common.result
          c.common_len_expect_short-common.ensures.value c.in-FirstComponents.ensures
          (omega (arith, eqb-false _ 0 (sym c.is_empty.ensures ∙ c.if-is_empty.false)));
    })

pub loop-second-preserved : goal.loop-second-preserved
loop-second-preserved c = record {
  shares = λ s t h. shares-onward
      (shares (goal.at.loop-second-preserved c).After-after_filler-second s t h)
      c.after_filler-first.ensures.not_filler c.after_filler-second.ensures.not_filler
      c.in-CutBefore.ensures.shares;
  tail = IsTail-trans _ _ _ c.in-CutBefore.ensures.tail
      (IsTail-trans _ _ _ c.after_filler-first.ensures.tail c.loop-second.invariant.tail);
}
