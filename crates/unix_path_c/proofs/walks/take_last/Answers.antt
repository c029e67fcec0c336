use Rattle.std.proofs.Common.{true≢false, refl, ap, length, arith}
use Rattle.unix_path.specs.Cursor.{cursor_rest}
use Rattle.unix_path_c.proofs.lemmas.walks.TakeFirstLemmas.{rest-same}
use Rattle.unix_path_c.proofs.lemmas.walks.TakeLastLemmas.{BackStepFits, back_step_fits}
use Rattle.unix_path_c.proofs.lemmas.walks.TakeLastLemmas.{next_back_gives, nothing_last}
use Rattle.unix_path_c.proofs.walks.take_last.Goals as goal
use Rattle.unix_path_c.proofs.walks.take_last.Goals.{After-as_unix_str}

-- the indices that the step computes are in the path, in order
fits : (c : After-as_unix_str) → BackStepFits c.args.path.now c.args.walk.now
    c.as_path.result.bytes.now c.as_unix_str.result.bytes.now
    (length (cursor_rest c.next_back.new.self))
fits c =
    back_step_fits c.args.path.now c.args.walk.now _ _ _ _ _
    (rest-same c.components-parts.ensures.rest c.rest_of.ensures)
    c.in-Some.ensures.steps c.as_path.ensures.bytes c.as_unix_str.ensures

pub returns-in_default-clause-ended : goal.returns-in_default-clause-ended
returns-in_default-clause-ended c = (
  λ _. nothing_last _ _ _
      (rest-same c.components-parts.ensures.rest c.rest_of.ensures)
      c.in_default.ensures.steps,
  λ _. refl,
)

pub overflow_add-part : goal.overflow_add-part
overflow_add-part c =
    omega (arith, (fits (goal.at.overflow_add-part c).After-as_unix_str).in_range)

pub overflow_sub-part : goal.overflow_sub-part
overflow_sub-part c =
    omega (arith, (fits (goal.at.overflow_sub-part c).After-as_unix_str).fits)

pub overflow_add-walk : goal.overflow_add-walk
overflow_add-walk c =
    let h = fits (goal.at.overflow_add-walk c).After-as_unix_str in
    omega (arith, h.in_range, h.fewer, ap length c.as_path-2.ensures.bytes)

pub returns : goal.returns
returns c =
    let t = next_back_gives c.args.path.now c.args.walk.now _ _ _ _ _ _ _
    (rest-same c.components-parts.ensures.rest c.rest_of.ensures)
    c.in-Some.ensures.steps c.as_path.ensures.bytes c.as_path-2.ensures.bytes
    c.as_unix_str.ensures c.kind_of.ensures.value c.kind_of.ensures.in_range in
    record {
      ended = (λ no. absurd (true≢false no), λ nothing. absurd (t.non_empty nothing));
      walk_unchanged = λ no. absurd (true≢false no);
      part_unchanged = λ no. absurd (true≢false no);
      parts = λ _. t.parts_are;
      values = λ _. t.values_are;
      bytes = λ _. t.bytes;
      kind = λ _. t.kind;
      remaining_bytes = λ _. t.remaining_is;
      in_order = λ _. t.in_order;
    }
