use Rattle.std.proofs.Common.{◌+◌, ◌-◌, ◌≡◌, drop, take, subst, sym, ap, ◌∙◌, arith}
use Rattle.std.proofs.lemmas.List.{take_rest, drop-drop}
use Rattle.unix_bytes.specs.Utf8.{IsText}
use Rattle.unix_bytes.specs.Windows.{IsFinished}
use Rattle.std.specs.Prelude.{slice_index}
use Rattle.unix_bytes.proofs.lemmas.prefixes.TextPrefixLemmas.{more_text}
use Rattle.unix_bytes.proofs.lemmas.text.FinishLemmas.{IsFinished-before}
use Rattle.unix_bytes.proofs.utf8.scans.text_end.Goals as goal

pub window_len-size-requires-clause-finished : goal.window_len-size-requires-clause-finished
window_len-size-requires-clause-finished c =
    let s = c.args.source.now in
    let at = c.loop-at.at in
    let so_far = c.loop-at.invariant in
    subst (λ w. IsFinished (slice_index w 0) (slice_index w 1) (slice_index w 2))
    (sym (take_rest s (at - 3)))
    (IsFinished-before s at (omega (arith, so_far.more, c.if-from-lt3.false)) so_far.within
    so_far.text)

pub loop-at-preserved : goal.loop-at-preserved
loop-at-preserved c =
    let s = c.args.source.now in
    let at = c.loop-at.at in
    let size = c.window_len-size.result in
    let so_far = c.loop-at.invariant in
    let three : at - 3 + 3 ≡ at = omega (arith, so_far.more, c.if-from-lt3.false) in
    let behind = drop-drop 3 (at - 3) s ∙ ap (λ n. drop n s) three in
    let here : IsText (take size (drop at s)) =
    subst (λ r. IsText (take size r)) (ap (drop 3) (take_rest s (at - 3)) ∙ behind)
    c.window_len-size.ensures.text in
    record {
      more = omega (arith, so_far.more);
      within = omega (arith, c.window_len-size.ensures.bound, c.loop-at-test.true);
      text = more_text s at size so_far.text here;
    }
