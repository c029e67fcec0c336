use Rattle.std.proofs.Common.{◌+◌, ◌∙◌, sym, eqb-true, arith}
use Rattle.std.proofs.lemmas.List.{nil_from_length}
use Rattle.std.proofs.lemmas.Grind.{common_steps}
use Rattle.unix_path.specs.Steps.{IsWalk}
use Rattle.unix_path.specs.Cursor.{cursor_rest, cursor_source}
use Rattle.unix_path.proofs.lemmas.walks.CursorLemmas.{GivesFirst-none}
use Rattle.unix_path.proofs.lemmas.steps.LeadLemmas.{steps_first}
use Rattle.unix_path.proofs.lemmas.walks.OffsetLemmas.{walks_forward}
use Rattle.unix_path.proofs.lemmas.rests.SourceLemmas.{LiesIn-itself}
use Rattle.unix_path.proofs.cursor.walk.ComponentsIterator.next.Goals as goal
use Rattle.unix_bytes.proofs.lemmas.lists.ListLemmas.{length-range}

pub returns-then-is_empty-clause-steps : goal.returns-then-is_empty-clause-steps
returns-then-is_empty-clause-steps c =
    GivesFirst-none c.args.self.now (sym c.as_path.ensures.bytes
    ∙ nil_from_length _ (eqb-true _ 0 (sym c.is_empty.ensures ∙ c.if-is_empty.true)))

pub invariant_of-self : goal.invariant_of-self
unfolding cursor_rest IsWalk
invariant_of-self c =
    let s = c.args.self.now in
    let next = walks_forward s _ _ c.as_path.ensures.bytes (steps_first _ _ _ _ (record {
      in_range = c.split_first_component-len.ensures.in_range;
      parts_are = c.split_first_component-len.ensures.parts.1;
      not_filler = c.split_first_component-len.ensures.not_filler;
    })) in
    grind (arith, common_steps, walks_forward)

pub returns-clause-steps : goal.returns-clause-steps
unfolding cursor_rest IsWalk
returns-clause-steps c =
    let s = c.args.self.now in
    let next = walks_forward s _ _ c.as_path.ensures.bytes (steps_first _ _ _ _ (record {
      in_range = c.split_first_component-len.ensures.in_range;
      parts_are = c.split_first_component-len.ensures.parts.1;
      not_filler = c.split_first_component-len.ensures.not_filler;
    })) in
    grind (
      arith,
      common_steps,
      LiesIn-itself (cursor_source s),
      length-range s.source.now s.start s.end s.fields.in_range,
      length-range s.source.now (s.start + c.split_first_component-len.result.0) s.end
          s.fields.in_range,
      walks_forward,
    )

pub returns-clause-goes : goal.returns-clause-goes
unfolding cursor_rest IsWalk
returns-clause-goes c =
    let next = walks_forward c.args.self.now _ _ c.as_path.ensures.bytes
    (steps_first _ _ _ _ (record {
      in_range = c.split_first_component-len.ensures.in_range;
      parts_are = c.split_first_component-len.ensures.parts.1;
      not_filler = c.split_first_component-len.ensures.not_filler;
    })) in
    grind (arith, common_steps, walks_forward)
