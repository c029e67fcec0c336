use Rattle.std.specs.Prelude.{slice_range}
use Rattle.std.proofs.Common.{◌≡◌, ◌+◌, ◌&&◌, ltb, ap, ◌∙◌, sym, eqb-true, arith}
use Rattle.std.proofs.lemmas.List.{nil_from_length}
use Rattle.std.proofs.lemmas.Grind.{common_steps}
use Rattle.unix_path.specs.Steps.{IsWalk}
use Rattle.unix_path.specs.Cursor.{cursor_rest, cursor_source}
use Rattle.unix_path.specs.Scan.{is_filler}
use Rattle.unix_path.proofs.lemmas.walks.CursorLemmas.{GivesLast-none}
use Rattle.unix_path.proofs.lemmas.walks.OffsetLemmas.{walks_back}
use Rattle.unix_path.proofs.lemmas.rests.SourceLemmas.{LiesIn-itself}
use Rattle.unix_path.proofs.cursor.walk.Components.take_last.Goals.{then-self, else-self}
use Rattle.unix_path.proofs.cursor.walk.Components.take_last.Goals as goal

pub returns-then-is_empty-clause-steps : goal.returns-then-is_empty-clause-steps
returns-then-is_empty-clause-steps c =
    GivesLast-none c.args.self.now (sym c.as_path.ensures.bytes
    ∙ nil_from_length _ (eqb-true _ 0 (sym c.is_empty.ensures ∙ c.if-is_empty.true)))

pub invariant_of-self : goal.invariant_of-self
unfolding cursor_rest IsWalk
invariant_of-self c =
    let s = c.args.self.now in
    let len = c.split_last_component-len.result.0 in
    let step = c.split_last_component-len.ensures in
    let back = walks_back s len _ c.as_path.ensures.bytes step.in_range (record {
      value = step.value;
      rest = step.rest;
      ends = step.rest_ends;
    }) in
    let was = sym s.fields.lead_pending_is in
    let left : c.if-self.self ≡ is_filler (slice_range s.source.now s.start (s.start + len)) 0 =
    elim c.if-self.branch [
      | then-self w ↦ w.self-is ∙ sym (ap (λ t. t && ltb 0 len) (was ∙ w.if-self.true)) ∙ back.lead
      | else-self w ↦ w.self-is ∙ w.if-self.false
          ∙ sym (ap (λ t. t && ltb 0 len) (was ∙ w.if-self.false)) ∙ back.lead
    ] in
    grind (arith, common_steps, walks_back)

pub returns-clause-steps : goal.returns-clause-steps
unfolding cursor_rest IsWalk
returns-clause-steps c =
    let s = c.args.self.now in
    let step = c.split_last_component-len.ensures in
    let back = walks_back s _ _ c.as_path.ensures.bytes step.in_range (record {
      value = step.value;
      rest = step.rest;
      ends = step.rest_ends;
    }) in
    grind (arith, common_steps, LiesIn-itself (cursor_source s), walks_back)
